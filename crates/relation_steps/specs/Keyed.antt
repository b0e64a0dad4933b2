-- What is asked and promised of the keys of types, constants, regions, parts and lists, beside what `Terms` says of all
-- terms, at a relation's ambient variance where no other is named.
use Rattle.std.specs.Prelude.{◌≡◌, ◌≢◌, ℕ, List, ◌++◌, None, IsTrue, Result, IfOk}
use Rattle.term_enums.specs.declared.Variance.{Variance}
use Rattle.term_enums.specs.declared.Variance.TheVariants.{Bivariant}
use Rattle.relation_terms.specs.declared.terms.ids.DefId.{DefId}
use Rattle.relation_terms.specs.declared.terms.keys.TyKey.{TyKey}
use Rattle.relation_terms.specs.declared.terms.keys.RegionKey.{RegionKey}
use Rattle.relation_terms.specs.declared.terms.keys.ConstKey.{ConstKey}
use Rattle.relation_terms.specs.declared.terms.keys.ArgsKey.{ArgsKey}
use Rattle.relation_terms.specs.declared.terms.part_kind.Part.{Part}
use Rattle.relation_terms.specs.declared.terms.generic_arg.GenericArgKind.{GenericArgKind}
use Rattle.relation_terms.specs.Heads.{Head, adt}
use Rattle.relation_terms.specs.Trees.{Tree, node, known, count, list_tree}
use Rattle.relation_terms.specs.Meaning.{Meaning, arg_tree}
use Rattle.relation_terms.specs.Parts.{part_tree}
use Rattle.relation_folds.specs.declared.error.RelateFault.{RelateFault}
use Rattle.relation_semantics.specs.declared.relate.Step.{Step}
use Rattle.relation_steps.specs.declared.arguments.ArgVariances.{ArgVariances}
use Rattle.relation_steps.specs.Arguments.{args_head, AreOverItem}
use Rattle.relation_semantics.specs.AskedAlone.{AsksNoneAlone}
use Rattle.relation_semantics.specs.Constraints.{constraint_at, asked_constraints}
use Rattle.relation_semantics.specs.Lawful.{State, Manners, Related, Shown, Stepped, StepRecords, Noted, items_in}
use Rattle.relation_semantics.specs.Making.{Made, form_over, const_over}
use Rattle.relation_semantics.specs.Parts.{IsRigid, IsFormedConst, head_of, const_head_of}
use Rattle.relation_semantics.specs.Relation.{plain, part_at}
use Rattle.relation_steps.specs.Alone.{StepsAtOnce}
use Rattle.relation_steps.specs.Bivariance.{HasAskedOpen}
use Rattle.relation_steps.specs.Terms.{RelatedTerms}

module _ {Key Id Name : Type 0} where
  -- The variances that an item declares of its parameters.
  abbrev pub variances_in : State Key Id Name → DefId Id → List Variance
  variances_in r d = (r.meaning).variances ((r.meaning).id d.0)

  -- The variance of the part at a place of a form that is related at the ambient variance.
  abbrev pub part_in : State Key Id Name → Head → ℕ → Variance
  part_in r h i = part_at (items_in r) h i r.ambient

  -- The same of a constant's part.
  abbrev pub const_part_in : State Key Id Name → ConstKey Key → ℕ → Variance
  const_part_in r c i = part_in r (const_head_of ((r.meaning).const_ c)) i

  -- The variance that an item declares of its parameter at a place.
  abbrev pub declared_in : State Key Id Name → DefId Id → ℕ → Variance
  declared_in r d i = (items_in r).declared ((r.meaning).id d.0) i

  -- The ambient variance is one at which something is asked.
  abbrev pub Decides : State Key Id Name → Type 0
  Decides r = r.ambient ≢ Bivariant

  -- The form of a type over an item and a list of arguments; the form over a list whose arguments stand at these
  -- variances.
  abbrev pub over_item : DefId Id → Meaning Key Id Name → ArgsKey Key → Tree
  over_item d m k = node (adt (m.id d.0)) (m.args k)

  abbrev pub over_args : ArgVariances Id → Meaning Key Id Name → ArgsKey Key → Tree
  over_args vs m k = node (args_head m vs) (m.args k)

  -- Two lists have as many arguments.
  abbrev pub AreAsMany : State Key Id Name → ArgsKey Key → ArgsKey Key → Type 0
  AreAsMany r a b = count ((r.meaning).args a) ≡ count ((r.meaning).args b)

  -- Two regions were related, and what came of it.
  abbrev pub RelatedRegions : Manners → State Key Id Name → State Key Id Name → RegionKey Key → RegionKey Key →
      Result (RegionKey Key) (RelateFault Key Id Name) → Type 0
  RelatedRegions M r q a b result = RelatedTerms M None (λ m. m.region) r q a b result

  -- Two lists whose arguments stand at these variances were related, as the forms over them: the second over whichever
  -- form relating takes for the first's.
  abbrev pub RelatedOver : Manners → State Key Id Name → State Key Id Name → ArgVariances Id → ArgsKey Key →
      ArgsKey Key → Result (ArgsKey Key) (RelateFault Key Id Name) → Type 0
  RelatedOver M r q d a b result = (k : Head) → plain (args_head r.meaning d) ≡ plain k →
      Related M r q r.ambient (over_args d r.meaning a) (node k ((r.meaning).args b)) (over_args d q.meaning) result

  -- A step was taken of two types, or of two constants.
  abbrev pub SteppedTys : Manners → State Key Id Name → State Key Id Name → TyKey Key → TyKey Key →
      Result (Step (TyKey Key)) (RelateFault Key Id Name) → Type 0
  SteppedTys M r q a b result =
      Stepped M IsRigid r q ((r.meaning).ty a) ((r.meaning).ty b) (q.meaning).ty result

  abbrev pub SteppedConsts : Manners → State Key Id Name → State Key Id Name → ConstKey Key → ConstKey Key →
      Result (Step (ConstKey Key)) (RelateFault Key Id Name) → Type 0
  SteppedConsts M r q a b result =
      Stepped M IsFormedConst r q ((r.meaning).const_ a) ((r.meaning).const_ b) (q.meaning).const_ result

  -- It recorded of two bare types, or of two bare constants, just what they ask for.
  abbrev pub TysStepRecords : Manners → State Key Id Name → State Key Id Name → TyKey Key → TyKey Key →
      Result (Step (TyKey Key)) (RelateFault Key Id Name) → Type 0
  TysStepRecords M r q a b result = StepRecords M r q (q.meaning).ty ((r.meaning).ty a) ((r.meaning).ty b) result

  abbrev pub ConstsStepRecords : Manners → State Key Id Name → State Key Id Name → ConstKey Key → ConstKey Key →
      Result (Step (ConstKey Key)) (RelateFault Key Id Name) → Type 0
  ConstsStepRecords M r q a b result =
      StepRecords M r q (q.meaning).const_ ((r.meaning).const_ a) ((r.meaning).const_ b) result

  -- A step was taken of two types of which one goal is asked by registering that alone, and of an error and another by
  -- recording that, where the relation promises it.
  abbrev pub TysStepAtOnce : Manners → State Key Id Name → State Key Id Name → TyKey Key → TyKey Key →
      Result (Step (TyKey Key)) (RelateFault Key Id Name) → Type 0
  TysStepAtOnce M r q a b result =
      StepsAtOnce M r q (q.meaning).ty ((r.meaning).ty a) ((r.meaning).ty b) result

  -- Where the relation promises what it registers at once, it was asked of two types over an item that they are well
  -- formed, where an argument is left open; or a fault was told.
  abbrev pub TysAskOpen : {X : Type 0} → Manners → State Key Id Name → State Key Id Name → TyKey Key → TyKey Key →
      Result X (RelateFault Key Id Name) → Type 0
  TysAskOpen M r q a b result = (M r.kept.settings).registers_alone →
      IfOk result (λ _. HasAskedOpen r q ((r.meaning).ty a) ((r.meaning).ty b))

  -- Two types were related: all is known of them that is known of such.
  abbrev pub ShownTys : Manners → State Key Id Name → TyKey Key → TyKey Key → Type 0
  ShownTys M r a b = Shown M r r.ambient ((r.meaning).ty a) ((r.meaning).ty b)

  -- No goal is asked of two types alone.
  abbrev pub TysAskNone : State Key Id Name → TyKey Key → TyKey Key → Type 0
  TysAskNone r a b = AsksNoneAlone r.kept.settings r.ambient ((r.meaning).ty a) ((r.meaning).ty b)

  -- Something was noted of two types.
  abbrev pub NotedTys : {X : Type 0} → State Key Id Name → State Key Id Name → TyKey Key → TyKey Key →
      Result X (RelateFault Key Id Name) → Type 0
  NotedTys r q a b result = Noted r q ((r.meaning).ty a) ((r.meaning).ty b) result

  -- Two types are of one form over an item and these lists of arguments.
  abbrev pub AreOver : State Key Id Name → DefId Id → TyKey Key → TyKey Key → ArgsKey Key → ArgsKey Key → Type 0
  AreOver r d a b xs ys = AreOverItem ((r.meaning).id d.0) ((r.meaning).ty a) ((r.meaning).ty b) ((r.meaning).args xs)
      ((r.meaning).args ys)

  -- Of a list of arguments a known type of another's form was made, between two states of an interner, or none was.
  abbrev pub IsMadeOver : {E : Type 0} → State Key Id Name → TyKey Key → Meaning Key Id Name → ArgsKey Key →
      Meaning Key Id Name → Result (TyKey Key) E → Type 0
  IsMadeOver r form m args n result = IfOk result (λ k. IsTrue (known (n.ty k)) ×
      (n.ty k ≡ node (head_of ((r.meaning).ty form)) (m.args args)))

  -- A known type, constant or part of that one's form over these parts was made, between two meanings; or none was.
  abbrev pub MakesTyOver : {E : Type 0} → Meaning Key Id Name → Meaning Key Id Name → TyKey Key →
      List (GenericArgKind Key) → Result (TyKey Key) E → Type 0
  MakesTyOver m n t parts result = Made m n n.ty (form_over (m.ty t) (list_tree (arg_tree m) parts)) result

  abbrev pub MakesConstOver : {E : Type 0} → Meaning Key Id Name → Meaning Key Id Name → ConstKey Key →
      List (GenericArgKind Key) → Result (ConstKey Key) E → Type 0
  MakesConstOver m n c parts result = Made m n n.const_ (const_over (m.const_ c) (list_tree (arg_tree m) parts)) result

  abbrev pub MakesPartOver : {E : Type 0} → Meaning Key Id Name → Meaning Key Id Name → Part Key Id →
      List (Part Key Id) → Result (Part Key Id) E → Type 0
  MakesPartOver m n t parts result =
      Made m n (part_tree n) (form_over (part_tree m t) (list_tree (part_tree m) parts)) result

  -- Where the relation promises it, of two regions just what their variance asks for was recorded; or a fault was told.
  abbrev pub RecordsAsked : Manners → State Key Id Name → State Key Id Name → RegionKey Key → RegionKey Key →
      Result (RegionKey Key) (RelateFault Key Id Name) → Type 0
  RecordsAsked M r q a b result = IfOk result (λ _. (M r.kept.settings).records_asked →
      (q.store).constraints ≡ (r.store).constraints ++ asked_constraints r.meaning (constraint_at r.ambient a b))
