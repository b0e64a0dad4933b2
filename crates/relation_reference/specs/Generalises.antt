-- What a context generalises, and which types it has met on the way.
use Rattle.std.specs.Prelude.{◌≡◌, ◌≢◌, ℕ, ◌<◌, Bool, true, false, IsTrue, List, [], Contains, All}
use Rattle.std.specs.Prelude.{Option, Some, None, Result, Ok, Err, OnOk}
use Rattle.std.specs.HashMap.{HashMap, get}
use Rattle.std.specs.HashSet.{HashSet}
use Rattle.std.specs.List.{list_any}
use Rattle.term_enums.specs.declared.Variance.{Variance}
use Rattle.relation_terms.specs.declared.terms.keys.TyKey.{TyKey}
use Rattle.relation_terms.specs.declared.terms.part_kind.Part.{Part}
use Rattle.relation_terms.specs.declared.terms.part_kind.Part.TheVariants.{Region, Ty, Const}
use Rattle.relation_terms.specs.Heads.{region_sort, BoundKind, bound_sort, VarKind, type_var, const_var, region_var}
use Rattle.relation_terms.specs.Heads.{AliasKind, alias, Leaf, variable, placeholder}
use Rattle.relation_terms.specs.Trees.{Tree, leaf, node, Leaves, known}
use Rattle.relation_terms.specs.Meaning.{Meaning, Extends}
use Rattle.relation_terms.specs.Parts.{part_tree, part_sort}
use Rattle.relation_folds.specs.declared.error.TypeError.{TypeError}
use Rattle.relation_folds.specs.declared.error.TypeError.TheVariants.{Mismatch}
use Rattle.relation_folds.specs.declared.error.RelateFault.{RelateFault}
use Rattle.relation_folds.specs.declared.error.RelateFault.TheVariants.{Memory, Budget, Unrelated}
use Rattle.term_enums.specs.declared.StructurallyRelateAliases.{StructurallyRelateAliases}
use Rattle.term_enums.specs.declared.StructurallyRelateAliases.TheVariants.{Yes, No}
use Rattle.relation_semantics.specs.Relation.{Items}
use Rattle.relation_semantics.specs.Lawful.{items_of}
use Rattle.relation_semantics.specs.Stores.{Store, universe_of, IsMade, InContext, IsSound}
use Rattle.relation_semantics.specs.Generalising.{Stays, gives_way_to, Side, outside, inside, side_in, Met, Stage}
use Rattle.relation_semantics.specs.Generalising.{Turn, any_part, new_part, parts_from, Generalised, MakesUnbound}
use Rattle.relation_semantics.specs.Generalising.{Obstacle, cycle, beyond, IsNoObstacle, IsSeen, IsClear, StopsAt}
use Rattle.relation_semantics.specs.Generalising.{GoesInto}
use Rattle.relation_reference.specs.declared.context.generalising.MetKey.{MetKey}
use Rattle.occurs_check.specs.declared.fates.Target.{Target}
use Rattle.occurs_check.specs.declared.fates.Fate.{Fate}
use Rattle.occurs_check.specs.declared.fates.Fate.TheVariants.{ByParts, GivesWay, Cycle, Beyond}
use Rattle.relation_reference.specs.declared.context.variables.RefCtxt.{RefCtxt}
use Rattle.relation_semantics.specs.ContextCalls.{MarksNew}
use Rattle.relation_reference.specs.RefCtxt.{store_in, context_in}
use Rattle.occurs_check.specs.TermVids.{vid_kind, vid_number}
use Rattle.variable_tables.specs.Tables.{store_of, IsLawful}

-- The side on which a term stands, by whether it stands inside an alias that is left to a goal.
abbrev pub side_of : Bool → Side
side_of true = inside
side_of false = outside

-- The side of what is gone through, and that of the parts of a term.
abbrev pub side_at : Turn → Side
side_at (any_part e v) = e
side_at (new_part e v) = e
side_at (parts_from e h i v) = e

abbrev pub parts_side : StructurallyRelateAliases → Side → Tree → Side
parts_side g e (node h ts) = side_in g e h
parts_side g e t = e

-- A type that became a term on a side at a variance.
abbrev pub met_at : Side → Variance → Tree → Tree → Met
met_at e v t x = record { side = e; variance = v; type = t; term = x }

-- No obstacle for variable `n` of kind `k` stands in a term, in whatever store its universe is `u`; or one does.
abbrev pub IsClearFor : VarKind → ℕ → ℕ → Tree → Type 0
IsClearFor k n u t = (st : Store) → universe_of st k n ≡ u → Leaves (IsNoObstacle st k n) t

abbrev pub HasObstacle : VarKind → ℕ → ℕ → Tree → Type 0
HasObstacle k n u t = (st : Store) → universe_of st k n ≡ u → (o : Obstacle) × StopsAt Yes st k n o t

-- Which of both, by an answer.
abbrev pub TellsClear : VarKind → ℕ → ℕ → Tree → Bool → Type 0
TellsClear k n u t true = IsClearFor k n u t
TellsClear k n u t false = HasObstacle k n u t

-- Inside an alias that is left to a goal no obstacle stands.
abbrev pub IsClearInside : Side → Store → VarKind → ℕ → Tree → Type 0
IsClearInside outside st k n t = Unit {0}
IsClearInside inside st k n t = Leaves (IsNoObstacle st k n) t

-- A form that is gone into, in whatever store the variable's universe is `u`.
abbrev pub MayGoInto : StructurallyRelateAliases → VarKind → ℕ → ℕ → Side → Tree → Type 0
MayGoInto g k n u e (node h ts) = (st : Store) → universe_of st k n ≡ u → GoesInto g st k n e h ts
MayGoInto g k n u e t = Unit {0}

-- An alias that is left to a goal.
pub record IsLeftAlias (g : StructurallyRelateAliases) (t : Tree) : Type 0 where
  pub left : g ≡ No
  pub kind : AliasKind
  pub id : ℕ
  pub arguments : Tree
  pub is : t ≡ node (alias kind id) arguments

-- No such alias: it is seen.
abbrev pub IsSeenTree : StructurallyRelateAliases → Tree → Type 0
IsSeenTree g (node h ts) = IsSeen g h
IsSeenTree g t = Unit {0}

-- An alias that gives way: it is left to a goal and stands in no other, and an obstacle stands in it.
pub record AliasGivesWay (g : StructurallyRelateAliases) (k : VarKind) (n u : ℕ) (e : Side) (t : Tree) : Type 0 where
  pub alone : e ≡ outside
  pub of_alias : IsLeftAlias g t
  pub obstacle : HasObstacle k n u t

-- Whether a term does, by an answer; else it may be gone into.
abbrev pub TellsGivesWay : StructurallyRelateAliases → VarKind → ℕ → ℕ → Side → Tree → Bool → Type 0
TellsGivesWay g k n u e t true = AliasGivesWay g k n u e t
TellsGivesWay g k n u e t false = MayGoInto g k n u e t

-- The types that were found clear are.
module _ {Key Id Name : Type 0} (eq : TyKey Key → TyKey Key → Bool) (m : Meaning Key Id Name) (k : VarKind) (n u : ℕ)
  where
    -- A known type of an equal key is clear.
    pub record WasClear (q : TyKey Key) : Type 0 where
      pub key : TyKey Key
      pub same : IsTrue (eq key q)
      pub there : IsTrue (known (m.ty key))
      pub clear : IsClearFor k n u (m.ty key)

    abbrev pub AreClear : {S : Type 0} → HashSet (TyKey Key) S → Type 0
    AreClear found = (q : TyKey Key) → list_any (eq q) found.keys ≡ true → WasClear q

module _ {Key Id Name S : Type 0} (eq : MetKey Key → MetKey Key → Bool) (m : Meaning Key Id Name)
    (memory : HashMap (MetKey Key) (TyKey Key) S) where
  -- What is found is known.
  abbrev pub IsSure : Type 0
  IsSure = (q : MetKey Key) (became : TyKey Key) → get eq memory q ≡ Some became → IsTrue (known (m.ty became))

  -- What is found at a key was met.
  pub record WasMet (es : List Met) (q : MetKey Key) (became : TyKey Key) : Type 0 where
    pub key : MetKey Key
    pub same : IsTrue (eq key q)
    pub there : IsTrue (known (m.ty key.ty))
    pub met : Contains es (met_at (side_of key.inside) key.variance (m.ty key.ty) (m.ty became))

  -- What was met is found.
  pub record IsFound (e : Met) : Type 0 where
    pub key : MetKey Key
    pub became : TyKey Key
    pub side : side_of key.inside ≡ e.side
    pub variance : key.variance ≡ e.variance
    pub there : IsTrue (known (m.ty key.ty))
    pub type : m.ty key.ty ≡ e.type
    pub found : get eq memory key ≡ Some became
    pub sure : IsTrue (known (m.ty became))
    pub term : m.ty became ≡ e.term

  -- The types that were met so far, as a memory keeps them.
  pub record Keeps (es : List Met) : Type 0 where
    pub found : (q : MetKey Key) (became : TyKey Key) → get eq memory q ≡ Some became → WasMet es q became
    pub kept : (e : Met) → Contains es e → IsFound e

  -- How far generalising has come for variable `n` of kind `k` in universe `u`, from a sound start: variables were
  -- made, and types were met in which no obstacle stands, outside of aliases that are left to goals.
  pub record HasCome (g : StructurallyRelateAliases) (c : Items) (start : Store) (k : VarKind) (n u : ℕ) (st : Store)
      (es : List Met) : Type 0 where
    pub items : items_of m ≡ c
    pub sound : IsSound start
    pub universe : universe_of start k n ≡ u
    pub makes : MakesUnbound u start st
    pub keeps : Keeps es
    pub clear : All (λ e. IsClear g start k n e.type) es

-- The error that an obstacle makes; a variable that stands in its own source makes the given one.
abbrev pub GivenError : {Key Id Name : Type 0} → TypeError Key Id Name → TypeError Key Id Name → Obstacle → Type 0
GivenError cyclic e cycle = e ≡ cyclic
GivenError cyclic e beyond = e ≡ Mismatch

module _ {Key Id Name S : Type 0} (eq : MetKey Key → MetKey Key → Bool) (m n : Meaning Key Id Name)
    (before after : Store) (g : StructurallyRelateAliases) (k : VarKind) (i u : ℕ) (turn : Turn)
    (old new : HashMap (MetKey Key) (TyKey Key) S) (t : Tree) where
  -- A term became another.
  pub record Becomes (c : Items) (start : Store) (es : List Met) (x : Tree) : Type 0 where
    pub met : List Met
    pub come : HasCome eq n new g c start k i u after met
    pub generalised : Generalised g c start k i turn (record { store = before; met = es }) t
        (record { store = after; met = met }) x
    pub clear : IsClear g start k i t

  -- The same from wherever generalising may have come; or an obstacle stands in the term.
  abbrev pub BecomesAlways : Tree → Type 0
  BecomesAlways x = (c : Items) (start : Store) (es : List Met) → HasCome eq m old g c start k i u before es →
      InContext start t → IsClearInside (side_at turn) start k i t → Becomes c start es x

  abbrev pub StopsAlways : TypeError Key Id Name → TypeError Key Id Name → Type 0
  StopsAlways cyclic e = (c : Items) (start : Store) (es : List Met) → HasCome eq m old g c start k i u before es →
      InContext start t → IsClearInside (side_at turn) start k i t →
      (o : Obstacle) × StopsAt g start k i o t × GivenError cyclic e o

  -- A part became another of its sort; or an obstacle stands in it; or memory ran out.
  abbrev pub GeneralisesTo : TypeError Key Id Name → Part Key Id → Result (Part Key Id) (RelateFault Key Id Name) →
      Type 0
  GeneralisesTo cyclic p (Ok x) = IsTrue (known (part_tree n x)) × (part_sort x ≡ part_sort p) × IsSure eq n new ×
      BecomesAlways (part_tree n x)
  GeneralisesTo cyclic p (Err (Unrelated e)) = StopsAlways cyclic e
  GeneralisesTo cyclic p (Err Budget) = ⊥
  GeneralisesTo cyclic p (Err Memory) = Unit {0}

-- Where a term was generalised, type variables stay marked as they were since any earlier context of which the term is:
-- each that was made is marked as related to one that there was, or to none.
module _ {I Key Id Name Span : Type 0} (meaning : I → Meaning Key Id Name) where
  abbrev pub MarksFrom : RefCtxt I Key Id Name Span → RefCtxt I Key Id Name Span → Tree → Type 0
  MarksFrom before after t = (start : RefCtxt I Key Id Name Span) →
      ((n : ℕ) → IsMade (store_in meaning start) type_var n → IsMade (store_in meaning before) type_var n) →
      MarksNew (context_in meaning start) (context_in meaning before) → InContext (store_in meaning start) t →
      MarksNew (context_in meaning start) (context_in meaning after)

-- A part was generalised in a context, for variable `i` of kind `k` in universe `u`; unbound variables may have been
-- made, also where that failed, and those of types were marked as related to ones that there were, or to none.
pub record Generalises {I Key Id Name Span S T : Type 0} (meaning : I → Meaning Key Id Name)
    (eq : MetKey Key → MetKey Key → Bool) (eqt : TyKey Key → TyKey Key → Bool)
    (before after : RefCtxt I Key Id Name Span) (g : StructurallyRelateAliases) (k : VarKind) (i u : ℕ)
    (cyclic : TypeError Key Id Name) (turn : Turn) (old new : HashMap (MetKey Key) (TyKey Key) S)
    (found : HashSet (TyKey Key) T) (p : Part Key Id)
    (result : Result (Part Key Id) (RelateFault Key Id Name)) : Type 0 where
  pub lawful : IsLawful (meaning after.interner) after.inner
  pub grown : Extends (meaning before.interner) (meaning after.interner)
  pub universe : (after.inner.universe).0 ≡ (before.inner.universe).0
  pub makes : MakesUnbound u (store_of (meaning before.interner) before.inner)
      (store_of (meaning after.interner) after.inner)
  pub rest : MarksFrom meaning before after (part_tree (meaning before.interner) p)
  pub clear : OnOk result (AreClear eqt (meaning after.interner) k i u found)
  pub answers : GeneralisesTo eq (meaning before.interner) (meaning after.interner)
      (store_of (meaning before.interner) before.inner) (store_of (meaning after.interner) after.inner) g k i u turn old
      new (part_tree (meaning before.interner) p) cyclic p result

-- What generalising a part for a variable answers: what it became by the rules; or the error of the first obstacle; or
-- that memory ran out.
abbrev pub IsGeneralisedFor : {Key Id Name : Type 0} → Meaning Key Id Name → Meaning Key Id Name → Store → Store →
    StructurallyRelateAliases → VarKind → ℕ → Variance → TypeError Key Id Name → Part Key Id →
    Result (Part Key Id) (RelateFault Key Id Name) → Type 0
IsGeneralisedFor m n before after g k i v cyclic p (Ok x) = IsTrue (known (part_tree n x)) ×
    (part_sort x ≡ part_sort p) × ((last : Stage) × (last.store ≡ after) ×
    Generalised g (items_of m) before k i (any_part outside v) (record { store = before; met = [] }) (part_tree m p)
    last (part_tree n x))
IsGeneralisedFor m n before after g k i v cyclic p (Err (Unrelated e)) = (o : Obstacle) ×
    StopsAt g before k i o (part_tree m p) × GivenError cyclic e o
IsGeneralisedFor m n before after g k i v cyclic p (Err Budget) = ⊥
IsGeneralisedFor m n before after g k i v cyclic p (Err Memory) = Unit {0}

-- The same of the variable of a target, between two states of a context.
abbrev pub GeneralisesFor : {I Key Id Name Span : Type 0} → (I → Meaning Key Id Name) → RefCtxt I Key Id Name Span →
    RefCtxt I Key Id Name Span → Target Key Id Name → Variance → Part Key Id →
    Result (Part Key Id) (RelateFault Key Id Name) → Type 0
GeneralisesFor meaning before after target v p result = IsGeneralisedFor (meaning before.interner)
    (meaning after.interner) (store_in meaning before) (store_in meaning after) target.aliases (vid_kind target.vid)
    (vid_number target.vid) v target.cyclic p result
