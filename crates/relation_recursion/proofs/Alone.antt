-- What relating does at once of two types: of such as are left to one goal, of an error with another, and of two over one
-- item.
use Rattle.std.proofs.Common.{◌≡◌, ◌⊎◌, ℕ, inl, refl, sym, ◌∙◌, subst, subst₂, List, ◌++◌, Contains}
use Rattle.std.proofs.Common.{Result, Ok, Err, IsTrue, IfOk}
use Rattle.std.proofs.lemmas.List.Elements.{Contains-append_left}
use Rattle.term_enums.specs.declared.Variance.{Variance}
use Rattle.relation_terms.specs.declared.terms.generic_arg.GenericArgKind.{GenericArgKind}
use Rattle.relation_terms.specs.declared.terms.generic_arg.GenericArgKind.TheVariants.{Lifetime, Ty, Const}
use Rattle.relation_terms.specs.declared.terms.keys.TyKey.{TyKey}
use Rattle.relation_terms.specs.declared.terms.keys.ConstKey.{ConstKey}
use Rattle.relation_terms.specs.declared.terms.keys.RegionKey.{RegionKey}
use Rattle.relation_terms.specs.Heads.{Head, Admits, region_sort, type_sort, const_sort, pattern_sort, head_sort}
use Rattle.relation_terms.specs.Trees.{Tree, node, IsTerm, known}
use Rattle.relation_terms.specs.Meaning.{Meaning, arg_tree}
use Rattle.relation_terms.specs.Interning.{Sorted}
use Rattle.relation_folds.specs.declared.error.RelateFault.{RelateFault}
use Rattle.relation_folds.specs.declared.error.RelateFault.TheVariants.{Memory, Budget, Unrelated}
use Rattle.relation_semantics.specs.declared.relate.Step.{Step}
use Rattle.relation_semantics.specs.declared.relate.Step.TheVariants.{Done, Parts, Again}
use Rattle.relation_semantics.specs.Errors.{IsDeferred}
use Rattle.relation_semantics.specs.Goals.{Goal, goal_of, well_formed_predicate}
use Rattle.relation_semantics.specs.Lawful.{State, Manners, Passes}
use Rattle.relation_semantics.specs.Parts.{IsRigid}
use Rattle.relation_semantics.specs.Relation.{sort_of}
use Rattle.relation_semantics.specs.Settings.{Settings}
use Rattle.relation_semantics.proofs.OneParts.{sort_is}
use Rattle.relation_semantics.specs.AskedAlone.{AsksAlone, of_variables, of_alias, AsksNoneAlone}
use Rattle.relation_semantics.proofs.Answering.{same_items, same_environment, same_settings}
use Rattle.relation_steps.specs.Alone.{RegistersAlone, RelatesAtOnce, StepsAtOnce}
use Rattle.relation_steps.specs.Arguments.{AreOverItem}
use Rattle.relation_steps.specs.Bivariance.{HasOpenArgument, HasAskedOpen}

-- What holds anyhow holds of an answer.
pub if_ok_anyhow : {X F : Type 0} (res : Result X F) {P : Type 0} → P → IfOk res (λ _. P)
if_ok_anyhow (Ok x) p = p
if_ok_anyhow (Err f) p = tt

-- What follows from what holds of an answer holds of it too; of a fault anything does.
if_ok_then : {X F : Type 0} (res : Result X F) {P Q : Type 0} → (P → Q) → IfOk res (λ _. P) → IfOk res (λ _. Q)
if_ok_then (Ok x) f p = f p
if_ok_then (Err e) f p = tt

pub none_of_fault : {X F : Type 0} (P : Type 0) (res : Result X F) (f : F) → res ≡ Err f → IfOk res (λ _. P)
none_of_fault P res f is = subst (λ z. IfOk z (λ _. P)) (sym is) tt

-- What was asked of two types over one item, by the same two; and later, with goals behind those that there were.
module _ {Key Id Name : Type 0} where
  asked_as : (r s : State Key Id Name) (x y m n : Tree) →
      ((d : ℕ) (ts us : Tree) → AreOverItem d m n ts us → (x ≡ m) × (y ≡ n)) → HasAskedOpen r s x y → HasAskedOpen r s m n
  asked_as r s x y m n same h directed d ts us over opens =
      let e = same d ts us over in
      subst₂ (λ t u. Contains s.goals (goal_of r.kept.environment (well_formed_predicate t)) ×
      Contains s.goals (goal_of r.kept.environment (well_formed_predicate u))) e.0 e.1
      (h directed d ts us (subst₂ (λ t u. AreOverItem d t u ts us) (sym e.0) (sym e.1) over) opens)

  pub asked_still : {n : ℕ} (r q p s : State Key Id Name) → Passes n r q → (x y : Tree) → s.store ≡ p.store →
      (more : List Goal) → s.goals ≡ p.goals ++ more → HasAskedOpen q p x y → HasAskedOpen r s x y
  asked_still r q p s g x y st more gs h directed d ts us over opens =
      let o = subst₂ (λ c z. HasOpenArgument c z d ts ⊎ HasOpenArgument c z d us) (sym (same_items g)) st opens in
      let c = h (λ e. directed (sym g.ambient ∙ e)) d ts us over o in
      (stays (well_formed_predicate x) c.0, stays (well_formed_predicate y) c.1)
    where
      stays : (z : Tree) → Contains p.goals (goal_of q.kept.environment z) → Contains s.goals (goal_of r.kept.environment z)
      stays z m = subst (λ l. Contains l (goal_of r.kept.environment z)) (sym gs)
          (Contains-append_left p.goals more (goal_of r.kept.environment z)
          (subst (λ e. Contains p.goals (goal_of e z)) (same_environment g.kept) m))

-- So it is of two types behind parts that were related, by their keys.
pub asked_then : {Key Id Name : Type 0} (M : Manners) {n : ℕ} (r q u s : State Key Id Name) → Passes n r q →
    (a b : TyKey Key) → IsTrue (known ((r.meaning).ty a)) → IsTrue (known ((r.meaning).ty b)) →
    s.store ≡ u.store → (more : List Goal) → s.goals ≡ u.goals ++ more → (M r.kept.settings).registers_alone →
    ((M q.kept.settings).registers_alone → HasAskedOpen q u ((q.meaning).ty a) ((q.meaning).ty b)) →
    HasAskedOpen r s ((r.meaning).ty a) ((r.meaning).ty b)
asked_then M r q u s g a b ka kb st more gs promised asks =
    subst₂ (HasAskedOpen r s) ((g.extends).ty a ka) ((g.extends).ty b kb)
    (asked_still r q u s g ((q.meaning).ty a) ((q.meaning).ty b) st more gs
    (asks (subst (λ k. (M k).registers_alone) (sym (same_settings g.kept)) promised)))

module _ {Key Id Name : Type 0} (M : Manners) (r q : State Key Id Name) (a b : Tree) where
  -- A term that is no type.
  pub left_none : {X : Type 0} (v : Variance) (res : Result X (RelateFault Key Id Name)) → (sort_of a ≡ type_sort → ⊥) →
      RelatesAtOnce M r q v a b res
  left_none v res o = (
    λ promised differ s. absurd (o s),
    λ promised none differ s. absurd (o s),
    λ promised none differ s. absurd (o s),
  )

  pub right_none : {X : Type 0} (v : Variance) (res : Result X (RelateFault Key Id Name)) → (sort_of b ≡ type_sort → ⊥) →
      RelatesAtOnce M r q v a b res
  right_none v res o = (
    λ promised differ s t. absurd (o t),
    λ promised none differ s t. absurd (o t),
    λ promised none differ s t. absurd (o t),
  )

  -- One term.
  pub step_of_one : {K : Type 0} (tree : K → Tree) (res : Result (Step K) (RelateFault Key Id Name)) → a ≡ b →
      StepsAtOnce M r q tree a b res
  step_of_one tree res e = (
    λ promised differ. absurd (differ e),
    λ promised none differ. absurd (differ e),
    λ promised none differ. absurd (differ e),
  )

  -- What a step registers at once is what relating registers.
  pub refused : (K X : Type 0) (p : Tree) (f : RelateFault Key Id Name) → RegistersAlone {X = K} r q p (Err f) →
      RegistersAlone {X = X} r q p (Err f)
  refused K X p Memory h = h
  refused K X p Budget h = h
  refused K X p (Unrelated e) h = h

  pub done_registers : {K : Type 0} (tree : K → Tree) (x : K) → StepsAtOnce M r q tree a b (Ok (Done x)) →
      RelatesAtOnce M r q r.ambient a b (Ok x)
  done_registers tree x h = (
    λ promised differ s t y z p f g asks. (h.0 promised differ s t y z p f g asks).1,
    λ promised none differ s t y z f g n m o. (h.1 promised none differ s t y z f g n m o).0,
    λ promised none differ s t y z f g directed d ts us over opens. absurd (h.2 promised none differ s t y z f g d ts us over),
  )

  pub refused_registers : {K X : Type 0} (tree : K → Tree) (e : RelateFault Key Id Name)
      (res : Result X (RelateFault Key Id Name)) → res ≡ Err e → StepsAtOnce {K = K} M r q tree a b (Err e) →
      RelatesAtOnce M r q r.ambient a b res
  refused_registers {K} {X} tree e res is h = subst (RelatesAtOnce {X = X} M r q r.ambient a b) (sym is) (
    λ promised differ s t y z p f g asks. refused K X p e (h.0 promised differ s t y z p f g asks),
    λ promised none differ s t y z f g n m o. (h.1 promised none differ s t y z f g n m o).0,
    λ promised none differ s t y z f g. tt,
  )

  -- Two that are left to be related by their parts: what was asked of these then.
  pub parts_register : {K X : Type 0} (s : State Key Id Name) (tree : K → Tree) (x y : K)
      (res : Result X (RelateFault Key Id Name)) → StepsAtOnce M r q tree a b (Ok (Parts x y)) →
      ((M r.kept.settings).registers_alone → IfOk res (λ _. HasAskedOpen r s (tree x) (tree y))) →
      RelatesAtOnce M r s r.ambient a b res
  parts_register s tree x y res h asks = (
    λ promised differ u w k l p f g asks. absurd (h.0 promised differ u w k l p f g asks),
    λ promised none differ u w k l f g n m o. absurd (h.1 promised none differ u w k l f g n m o).1,
    λ promised none differ u w m n f g. if_ok_then res (asked_as r s (tree x) (tree y) m n
        (h.2 promised none differ u w m n f g)) (asks promised),
  )

  -- No other step is taken of two such.
  pub again_registers : {K X : Type 0} (s : State Key Id Name) (tree : K → Tree) (k l x y u : K) (v : Variance)
      (res : Result X (RelateFault Key Id Name)) → StepsAtOnce M r q tree a b (Ok (Again k l x y v u)) →
      RelatesAtOnce M r s r.ambient a b res
  again_registers s tree k l x y u v res h = (
    λ promised differ i j m n p f g asks. absurd (h.0 promised differ i j m n p f g asks),
    λ promised none differ i j m n f g z w o. absurd (h.1 promised none differ i j m n f g z w o).1,
    λ promised none differ i j m n f g. if_ok_anyhow res (λ directed d ts us over opens.
        absurd (h.2 promised none differ i j m n f g d ts us over)),
  )

-- No goal is asked alone of two forms that aren't left to one.
pub formed_ask_none : (k : Settings) (v : Variance) (x y : Tree) → IsRigid x → (IsDeferred k x y → ⊥) → AsksNoneAlone k v x y
formed_ask_none k v x y f left s t p asks = go asks
  where
    go : AsksAlone k v x y p → ⊥
    go (of_variables u w d) = subst IsRigid u.1 f
    go (of_alias l o clean u w d) = left (inl (l, o))

-- A fault says the same of whatever else might have been answered.
pub refused_told : {Key Id Name : Type 0} (X Y : Type 0) (M : Manners) (r q : State Key Id Name) (v : Variance)
    (a b : Tree) (e : RelateFault Key Id Name) (res : Result Y (RelateFault Key Id Name)) → res ≡ Err e →
    RelatesAtOnce {X = X} M r q v a b (Err e) → RelatesAtOnce M r q v a b res
refused_told X Y M r q v a b e res is h = subst (RelatesAtOnce {X = Y} M r q v a b) (sym is) (
  λ promised differ s t y z p f g asks. refused M r q a b X Y p e (h.0 promised differ s t y z p f g asks),
  h.1,
  λ promised none differ s t y z f g. tt,
)

-- Arguments that are no types.
region_no_type : (t : Tree) → Admits region_sort (sort_of t) → sort_of t ≡ type_sort → ⊥
region_no_type t h e = subst (Admits region_sort) e h

const_no_type : (t : Tree) → Admits const_sort (sort_of t) → sort_of t ≡ type_sort → ⊥
const_no_type t h e = subst (Admits const_sort) e h

module _ {Key Id Name : Type 0} {m : Meaning Key Id Name} (sorted : Sorted m) (a : GenericArgKind Key)
    (h : IsTrue (known (arg_tree m a))) where
  pub lifetime_none : (k : RegionKey Key) → a ≡ Lifetime k → sort_of (arg_tree m a) ≡ type_sort → ⊥
  lifetime_none k e s = region_no_type (m.region k)
      (sort_is region_sort (m.region k) (sorted.region k (subst (λ x. IsTrue (known (arg_tree m x))) e h)))
      (subst (λ x. sort_of (arg_tree m x) ≡ type_sort) e s)

  pub const_none : (k : ConstKey Key) → a ≡ Const k → sort_of (arg_tree m a) ≡ type_sort → ⊥
  const_none k e s = const_no_type (m.const_ k)
      (sort_is const_sort (m.const_ k) (sorted.const_ k (subst (λ x. IsTrue (known (arg_tree m x))) e h)))
      (subst (λ x. sort_of (arg_tree m x) ≡ type_sort) e s)

pub no_ty_none : {Key Id Name : Type 0} {m : Meaning Key Id Name} (sorted : Sorted m) (a : GenericArgKind Key) →
    ((k : TyKey Key) → a ≡ Ty k → ⊥) → IsTrue (known (arg_tree m a)) → sort_of (arg_tree m a) ≡ type_sort → ⊥
no_ty_none sorted (Lifetime k) o h s = lifetime_none sorted (Lifetime k) h k refl s
no_ty_none sorted (Ty k) o h s = o k refl
no_ty_none sorted (Const k) o h s = const_none sorted (Const k) h k refl s

-- Nor are regions, constants, patterns, and forms of other sorts.
pub region_is_none : (t : Tree) → IsTerm region_sort t → sort_of t ≡ type_sort → ⊥
region_is_none t h s = region_no_type t (sort_is region_sort t h) s

pub const_is_none : (t : Tree) → IsTerm const_sort t → sort_of t ≡ type_sort → ⊥
const_is_none t h s = const_no_type t (sort_is const_sort t h) s

pub pattern_is_none : (t : Tree) → IsTerm pattern_sort t → sort_of t ≡ type_sort → ⊥
pattern_is_none t h s = subst (Admits pattern_sort) s (sort_is pattern_sort t h)

pub node_is_none : (h : Head) (ts : Tree) → (head_sort h ≡ type_sort → ⊥) → sort_of (node h ts) ≡ type_sort → ⊥
node_is_none h ts o s = o s
