-- What is made of a clause one by one is what the clause implies.
use Rattle.std.proofs.Common.{◌≡◌, ◌∙◌, refl, sym, ap, ap₂, subst, ℕ, zero, suc, ◌<◌, arith, length, get_or}
use Rattle.std.proofs.Common.{take, drop}
use Rattle.std.proofs.Common.{Bool, true, false, cond, IsTrue, IsSome, List, [], ◌∷◌, map, Option}
use Rattle.std.proofs.Common.{Some, None}
use Rattle.std.proofs.lemmas.Bool.{and_parts, false≢true}
use Rattle.std.specs.List.{All, Contains, filter, filter_map, cons_option}
use Rattle.std.specs.Option.{option_map}
use Rattle.std.proofs.lemmas.List.Elements.{All-map, Contains-append_left, filter_map-append}
use Rattle.std.proofs.lemmas.List.{take-append-drop}
use Rattle.term_enums.specs.declared.PredicatePolarity.{PredicatePolarity}
use Rattle.term_enums.specs.declared.PredicatePolarity.TheVariants.{Positive, Negative}
use Rattle.term_enums.specs.declared.BoundConstness.{BoundConstness}
use Rattle.relation_terms.specs.Heads.{BoundKind, Head, trait_ref, trait_clause, host_effect, type_outlives}
use Rattle.relation_terms.specs.Heads.{clause_sort, predicate_sort}
use Rattle.relation_terms.specs.Heads.{Sort, const_sort, region_outlives}
use Rattle.relation_terms.specs.Trees.{Tree, node, bind, nil, cons, known, IsBinder}
use Rattle.relation_terms.specs.Meaning.{Meaning, Extends, under, arg_tree}
use Rattle.relation_terms.specs.Parts.{tree_sort}
use Rattle.relation_terms.specs.Closures.{is_type_sort}
use Rattle.relation_terms.specs.Interning.{Sorted}
use Rattle.relation_terms.specs.Owned.{bound_tree, StatesItsOwn}
use Rattle.relation_terms.specs.Clauses.{trait_clause_tree}
use Rattle.relation_terms.specs.Predicates.{trait_ref_tree, clause_kind_tree}
use Rattle.relation_terms.specs.declared.predicate.kinds.ClauseKind.{ClauseKind}
use Rattle.relation_terms.specs.declared.predicate.kinds.ClauseKind.TheVariants.{Trait, HostEffect, TypeOutlives}
use Rattle.relation_terms.specs.declared.predicate.kinds.ClauseKind.TheVariants.{RegionOutlives, Projection, WellFormed}
use Rattle.relation_terms.specs.declared.predicate.kinds.ClauseKind.TheVariants.{ConstArgHasType, ConstEvaluatable}
use Rattle.relation_terms.specs.declared.predicate.kinds.ClauseKind.TheVariants.{UnstableFeature}
use Rattle.relation_terms.specs.declared.predicate.trait_ref.HostEffectPredicate.{HostEffectPredicate}
use Rattle.relation_terms.specs.declared.terms.generic_arg.GenericArgKind.{GenericArgKind}
use Rattle.relation_terms.specs.declared.terms.generic_arg.GenericArgKind.TheVariants.{Lifetime}
use Rattle.relation_terms.specs.declared.terms.generic_arg.GenericArgKind.TheVariants.{Ty as GenericTy}
use Rattle.relation_terms.specs.declared.terms.generic_arg.GenericArgKind.TheVariants.{Const as GenericConst}
use Rattle.relation_terms.specs.declared.predicate.OutlivesPredicate.{OutlivesPredicate}
use Rattle.relation_terms.specs.declared.predicate.trait_ref.TraitRef.{TraitRef}
use Rattle.relation_terms.specs.declared.predicate.trait_ref.TraitPredicate.{TraitPredicate}
use Rattle.relation_terms.specs.declared.terms.binder.Binder.{Binder}
use Rattle.relation_terms.specs.declared.terms.keys.TyKey.{TyKey}
use Rattle.relation_terms.specs.declared.terms.keys.BoundVarsKey.{BoundVarsKey}
use Rattle.relation_terms.specs.declared.terms.keys.RegionKey.{RegionKey}
use Rattle.relation_terms.proofs.Binders.{under_known}
use Rattle.relation_terms.proofs.Members.{type_term, region_term, const_term}
use Rattle.component_parts.specs.Components.{every, components, is_region_sort}
use Rattle.outlives_assumptions.specs.Assumptions.{is_assumed, assumed_parts, HaveSame}
use Rattle.outlives_assumptions.specs.Assuming.{argument_of, IsKnownComponent}
use Rattle.outlives.specs.Outliving.{AddsSome, HasAll}
use Rattle.outlives.specs.declared.Component.{Component, Region, Param, Placeholder}
use Rattle.outlives.specs.declared.Component.{UnresolvedInferenceVariable, Alias, EscapingAlias'}
use Rattle.outlives_assumptions.proofs.Assumptions.{mapped_filter, given_same, same_mapped, same_as, same_on}
use Rattle.outlives_assumptions.proofs.Assumptions.{added_known, components_known, stays_argument}
use Rattle.relation_statements.specs.Stated.{stated_of}
use Rattle.relation_statements.specs.Children.{Statements, Mode, children, effect_of, is_bound, outlives, of_form, mode_of}
use Rattle.relation_statements.specs.Statements.{statements, listed, is_left, outlives_tree, component_implied}
use Rattle.relation_statements.specs.Statements.{type_outlives_tree}
use Rattle.relation_statements.proofs.Growing.{states_stay}
use Rattle.relation_statements.proofs.Instantiating.{held_list, some_list}

-- The tree at a place of what is made of a list.
pub at_map : {A B : Type 0} (f : A → B) (xs : List A) (i : ℕ) (d : A) (e : B) → i < length xs →
    get_or (map f xs) i e ≡ f (get_or xs i d)
at_map f [] i d e l = absurd (let x = l in omega (arith, x))
at_map f (x ∷ xs) zero d e l = refl
at_map f (x ∷ xs) (suc i) d e l = at_map f xs i d e (let x = l in omega (arith, x))

pub map_length : {A B : Type 0} (f : A → B) (xs : List A) → length (map f xs) ≡ length xs
map_length f [] = refl
map_length f (x ∷ xs) = ap suc (map_length f xs)

pub map_twice : {A B C : Type 0} (f : B → C) (h : A → B) (xs : List A) → map (λ x. f (h x)) xs ≡ map f (map h xs)
map_twice f h [] = refl
map_twice f h (x ∷ xs) = ap (λ z. f (h x) ∷ z) (map_twice f h xs)

-- That a region and a type outlive a region, as clauses and as arguments.
module _ {Key Id Name : Type 0} (m : Meaning Key Id Name) (sorted : Sorted m) where
  pub region_shape : (x r : RegionKey Key) → IsTrue (known (m.region x)) →
      node region_outlives (cons (m.region x) (cons (m.region r) nil)) ≡ outlives (m.region x) (m.region r)
  region_shape x r k = ap (λ s. node (cond (is_region_sort s) region_outlives type_outlives)
      (cons (m.region x) (cons (m.region r) nil))) (sym (region_term (m.region x) (sorted.region x k)))

  pub ty_shape : (x : TyKey Key) (r : RegionKey Key) → IsTrue (known (m.ty x)) →
      node type_outlives (cons (m.ty x) (cons (m.region r) nil)) ≡ outlives (m.ty x) (m.region r)
  ty_shape x r k = ap (λ s. node (cond (is_region_sort s) region_outlives type_outlives)
      (cons (m.ty x) (cons (m.region r) nil))) (sym (type_term (m.ty x) (sorted.ty x k)))

-- All that a trait states is known.
module _ {Key Id Name : Type 0} (m : Meaning Key Id Name) (s : StatesItsOwn m) where
  pub listed_known : (only : Bool) (d : ℕ) → All (λ t. IsTrue (known t)) (listed only (statements m) d)
  listed_known true d = All-map (λ t. IsTrue (known t)) m.clause ((m.tables).super_predicates d)
      (λ i x l. (s.supers d i x l).0)
  listed_known false d = All-map (λ t. IsTrue (known t)) m.clause ((m.tables).implied_predicates d)
      (λ i x l. (s.implied d i x l).0)

  pub bounds_known : (d : ℕ) → All (λ t. IsTrue (known t)) ((statements m).bounds d)
  bounds_known d = All-map (λ t. IsTrue (known t)) (bound_tree m) ((m.tables).const_bounds d)
      (λ i x l. (s.bounds d i x l).0)

-- What is no clause implies nothing.
pub no_clause : (s : Statements) (mode : Mode) (t : Tree) → IsBinder predicate_sort t → (IsBinder clause_sort t → ⊥) →
    [] ≡ children s mode t
no_clause s mode (bind ks (node h ts)) b n = by_head h b n
  where
    by_head : (h : Head) → IsBinder predicate_sort (bind ks (node h ts)) →
        (IsBinder clause_sort (bind ks (node h ts)) → ⊥) → [] ≡ of_form s mode ks h ts
    by_head (trait_clause p) b n = absurd (n (tt, b.1))
    by_head (host_effect c) b n = absurd (n (tt, b.1))
    by_head type_outlives b n = absurd (n (tt, b.1))
    by_head h b n = refl
no_clause s mode t b n = refl

-- A trait clause that nothing follows from, and one that what its trait states follows from.
module _ (s : Statements) (only sized : Bool) where
  pub trait_left : (o : Option (List BoundKind)) (p : PredicatePolarity) (d : ℕ) (args : Tree) →
      is_left s sized p d ≡ true →
      [] ≡ children s (mode_of only sized) (under o (node (trait_clause p) (cons (node (trait_ref d) args) nil)))
  trait_left None p d args e = refl
  trait_left (Some ks) Negative d args e = refl
  trait_left (Some ks) Positive d args e =
      ap (λ b. cond b [] (map (stated_of ks args) (cond only (s.supers d) (s.implied d)))) (sym e)

  pub trait_goes : (ks : List BoundKind) (p : PredicatePolarity) (d : ℕ) (args : Tree) → is_left s sized p d ≡ false →
      map (stated_of ks args) (listed only s d) ≡
      children s (mode_of only sized) (bind ks (node (trait_clause p) (cons (node (trait_ref d) args) nil)))
  trait_goes ks Negative d args e = absurd (false≢true (sym e))
  trait_goes ks Positive d args e =
      ap (λ b. cond b [] (map (stated_of ks args) (cond only (s.supers d) (s.implied d)))) (sym e)

-- One child of a trait clause, made after the interner has grown.
module _ {Key Id Name : Type 0} (m n : Meaning Key Id Name) (e : Extends m n) (own : StatesItsOwn m) (only sized : Bool)
    (p : Binder Key (TraitPredicate Key Id)) (k : IsTrue (known (trait_clause_tree m p))) where
  abbrev arguments : Tree
  arguments = m.args ((p.value).trait_ref).args

  abbrev item : ℕ
  item = m.id (((p.value).trait_ref).def_id).0

  abbrev outer : List BoundKind
  outer = held_list (m.bound_vars p.bound_vars)

  there : m.bound_vars p.bound_vars ≡ Some outer
  there = some_list (m.bound_vars p.bound_vars)
      (under_known (m.bound_vars p.bound_vars) (clause_kind_tree m (Trait p.value)) k).0

  pub trait_list : is_left (statements m) sized (p.value).polarity item ≡ false →
      map (stated_of outer arguments) (listed only (statements m) item) ≡
      children (statements m) (mode_of only sized) (trait_clause_tree m p)
  trait_list left = trait_goes (statements m) only sized outer (p.value).polarity item arguments left
      ∙ ap (λ o. children (statements m) (mode_of only sized)
      (under o (node (trait_clause (p.value).polarity) (cons (node (trait_ref item) arguments) nil)))) (sym there)

  pub trait_count : is_left (statements m) sized (p.value).polarity item ≡ false →
      length (children (statements m) (mode_of only sized) (trait_clause_tree m p)) ≡
      length (listed only (statements m) (m.id (((p.value).trait_ref).def_id).0))
  trait_count left = ap length (sym (trait_list left))
      ∙ map_length (stated_of outer arguments) (listed only (statements m) item)

  pub listed_same : listed only (statements n) (n.id (((p.value).trait_ref).def_id).0) ≡ listed only (statements m) item
  listed_same = ap₂ (λ s d. listed only s d) (states_stay e own) (e.id (((p.value).trait_ref).def_id).0)

  pub trait_child : is_left (statements m) sized (p.value).polarity item ≡ false → (i : ℕ) (c t : Tree) →
      i < length (listed only (statements m) item) →
      c ≡ get_or (listed only (statements n) (n.id (((p.value).trait_ref).def_id).0)) i nil →
      ((ks : List BoundKind) → n.bound_vars p.bound_vars ≡ Some ks →
      t ≡ stated_of ks (n.args ((p.value).trait_ref).args) c) →
      t ≡ get_or (children (statements m) (mode_of only sized) (trait_clause_tree m p)) i nil
  trait_child left i c t l at is =
      is outer (e.bound_vars p.bound_vars (subst IsSome (sym there) refl) ∙ there)
      ∙ ap₂ (λ x y. stated_of outer x y) (e.args ((p.value).trait_ref).args
      (and_parts (known (trait_ref_tree m (p.value).trait_ref)) true
      (under_known (m.bound_vars p.bound_vars) (node (trait_clause (p.value).polarity)
      (cons (trait_ref_tree m (p.value).trait_ref) nil)) k).1).0)
      (at ∙ ap (λ z. get_or z i nil) listed_same)
      ∙ sym (at_map (stated_of outer arguments) (listed only (statements m) item) i nil nil l)
      ∙ ap (λ z. get_or z i nil) (trait_list left)

-- The same of const bounds.
module _ {Key Id Name : Type 0} (m n : Meaning Key Id Name) (e : Extends m n) (own : StatesItsOwn m)
    (c : BoundConstness)
    (b : Binder Key (TraitRef Key Id)) (k : IsTrue (known (bound_tree m b))) (mode : Mode) where
  abbrev bound_args : Tree
  bound_args = m.args (b.value).args

  abbrev bound_item : ℕ
  bound_item = m.id ((b.value).def_id).0

  abbrev bound_outer : List BoundKind
  bound_outer = held_list (m.bound_vars b.bound_vars)

  bound_there : m.bound_vars b.bound_vars ≡ Some bound_outer
  bound_there = some_list (m.bound_vars b.bound_vars)
      (under_known (m.bound_vars b.bound_vars) (trait_ref_tree m b.value) k).0

  pub bound_list : map (λ t. stated_of bound_outer bound_args (effect_of c t)) ((statements m).bounds bound_item) ≡
      children (statements m) mode (effect_of c (bound_tree m b))
  bound_list = ap (λ o. children (statements m) mode (effect_of c (under o (trait_ref_tree m b.value))))
      (sym bound_there)

  pub bound_count : length (children (statements m) mode (effect_of c (bound_tree m b))) ≡
      length ((m.tables).const_bounds (m.id ((b.value).def_id).0))
  bound_count = ap length (sym bound_list)
      ∙ map_length (λ t. stated_of bound_outer bound_args (effect_of c t)) ((statements m).bounds bound_item)
      ∙ map_length (bound_tree m) ((m.tables).const_bounds bound_item)

  pub bounds_same : (statements n).bounds (n.id ((b.value).def_id).0) ≡ (statements m).bounds bound_item
  bounds_same = ap₂ (λ s d. s.bounds d) (states_stay e own) (e.id ((b.value).def_id).0)

  pub bound_child : (i : ℕ) (x y t : Tree) (o : Meaning Key Id Name) → Extends n o →
      i < length ((statements m).bounds bound_item) →
      x ≡ get_or ((statements n).bounds (n.id ((b.value).def_id).0)) i nil → y ≡ effect_of c x →
      ((ks : List BoundKind) → o.bound_vars b.bound_vars ≡ Some ks → t ≡ stated_of ks (o.args (b.value).args) y) →
      t ≡ get_or (children (statements m) mode (effect_of c (bound_tree m b))) i nil
  bound_child i x y t o f l at effect is =
      let some = e.bound_vars b.bound_vars (subst IsSome (sym bound_there) refl) ∙ bound_there in
      let known_args = (under_known (m.bound_vars b.bound_vars) (trait_ref_tree m b.value) k).1 in
      let args = e.args (b.value).args known_args in
      is bound_outer (f.bound_vars b.bound_vars (subst IsSome (sym some) refl) ∙ some)
      ∙ ap₂ (λ p q. stated_of bound_outer p q)
      (f.args (b.value).args (subst (λ z. IsTrue (known z)) (sym args) known_args) ∙ args)
      (effect ∙ ap (effect_of c) (at ∙ ap (λ z. get_or z i nil) bounds_same))
      ∙ sym (at_map (λ z. stated_of bound_outer bound_args (effect_of c z)) ((statements m).bounds bound_item) i nil
      nil l)
      ∙ ap (λ z. get_or z i nil) bound_list

-- What follows for the components of a type.
module _ {Key Id Name : Type 0} {m n : Meaning Key Id Name} (e : Extends m n) where
  pub stays_implied : (b : BoundVarsKey Key) (r : RegionKey Key) (c : Component Key Id Name) →
      IsSome (m.bound_vars b) → IsTrue (known (m.region r)) → IsKnownComponent m c →
      filter_map (component_implied n b r) (c ∷ []) ≡ filter_map (component_implied m b r) (c ∷ [])
  stays_implied b r c i h k = ap (λ o. cons_option o [])
      (ap₂ (λ o z. option_map (λ u. under o (outlives u z)) (argument_of n c)) (e.bound_vars b i) (e.region r h)
      ∙ ap (option_map (λ u. under (m.bound_vars b) (outlives u (m.region r)))) (stays_argument e c k))

module _ {Key Id Name : Type 0} (m : Meaning Key Id Name) (sorted : Sorted m) (mode : Mode) where
  pub bound_nothing : (s : Statements) (b : BoundVarsKey Key) (p : OutlivesPredicate Key (TyKey Key)) →
      is_bound (m.region p.1) ≡ true → [] ≡ children s mode (type_outlives_tree m b p)
  bound_nothing s b p e = by_list (m.bound_vars b)
    where
      by_list : (o : Option (List BoundKind)) → [] ≡ children s mode
          (under o (node type_outlives (cons (m.ty p.0) (cons (m.region p.1) nil))))
      by_list None = refl
      by_list (Some ks) =
          ap (λ z. cond z [] (map (λ u. bind ks (outlives u (m.region p.1))) (assumed_parts (m.ty p.0)))) (sym e)

  pub outlives_same : (s : Statements) (b : BoundVarsKey Key) (p : OutlivesPredicate Key (TyKey Key))
      (cs : List (Component Key Id Name)) → IsSome (m.bound_vars b) → IsTrue (known (m.ty p.0)) →
      is_bound (m.region p.1) ≡ false → AddsSome m (components every (m.ty p.0)) [] cs →
      HasAll m (components every (m.ty p.0)) cs →
      HaveSame (filter_map (component_implied m b p.1) cs) (children s mode (type_outlives_tree m b p))
  outlives_same s b p cs i k free some all =
      let t = m.ty p.0 in
      let ks = held_list (m.bound_vars b) in
      let there = some_list (m.bound_vars b) i in
      let f : Tree → Tree = λ u. under (m.bound_vars b) (outlives u (m.region p.1)) in
      let g : Tree → Tree = λ u. bind ks (outlives u (m.region p.1)) in
      let given = filter_map (argument_of m) cs in
      let ts = filter is_assumed (components every t) in
      let parts : ts ≡ assumed_parts t =
      ap (λ z. cond (is_type_sort z) ts []) (sym (type_term t (sorted.ty p.0 k))) in
      let list : map g (assumed_parts t) ≡ children s mode (type_outlives_tree m b p) =
      ap (λ z. cond z [] (map g (assumed_parts t))) (sym free)
      ∙ ap (λ o. children s mode (under o (node type_outlives (cons t (cons (m.region p.1) nil))))) (sym there) in
      same_on (filter_map (component_implied m b p.1) cs) (map f given) (children s mode (type_outlives_tree m b p))
      (same_as (filter_map (component_implied m b p.1) cs) (map f given) (mapped_filter f (argument_of m) cs))
      (same_on (map f given) (map f ts) (children s mode (type_outlives_tree m b p))
      (same_mapped f given ts (given_same m (components every t) cs some all))
      (same_as (map f ts) (children s mode (type_outlives_tree m b p))
      (ap (map f) parts ∙ ap (λ o. map (λ u. under o (outlives u (m.region p.1))) (assumed_parts t)) there ∙ list)))

-- No component is a constant.
abbrev is_const : Sort → Bool
is_const const_sort = true
is_const s = false

abbrev holds_const : Option Tree → Bool
holds_const (Some t) = is_const (tree_sort t)
holds_const None = false

if_held : (b : Bool) (t : Tree) → is_const (tree_sort t) ≡ false → holds_const (cond b (Some t) None) ≡ false
if_held true t e = e
if_held false t e = refl

abbrev or_nil : Option Tree → Tree
or_nil (Some t) = t
or_nil None = nil

abbrev has_tree : Option Tree → Bool
has_tree (Some t) = true
has_tree None = false

module _ {Key Id Name : Type 0} (m n : Meaning Key Id Name) where
  no_const : Sorted m → (c : Component Key Id Name) → IsKnownComponent m c → holds_const (argument_of m c) ≡ false
  no_const s (Region r) k =
      if_held (is_assumed (m.region r)) (m.region r) (ap is_const (region_term (m.region r) (s.region r k)))
  no_const s (Param p) k = refl
  no_const s (Placeholder p) k = refl
  no_const s (Alias a) k = refl
  no_const s (UnresolvedInferenceVariable i) k = refl
  no_const s (EscapingAlias' x all) k = refl

  -- A component that is no argument implies nothing.
  pub none_implied : (b : BoundVarsKey Key) (r : RegionKey Key) (c : Component Key Id Name)
      (o : Option (GenericArgKind Key)) →
      ((x : GenericArgKind Key) → o ≡ Some x → ⊥) → option_map (arg_tree n) o ≡ argument_of m c →
      [] ≡ filter_map (component_implied m b r) (c ∷ [])
  none_implied b r c (Some x) absent is = absurd (absent x refl)
  none_implied b r c None absent is =
      ap (λ z. cons_option (option_map (λ u. under (m.bound_vars b) (outlives u (m.region r))) z) []) is

  -- An argument that a component is has a clause of its own.
  pub never_none : Sorted m → Sorted n → (b : BoundVarsKey Key) (r : RegionKey Key) (c : Component Key Id Name)
      (x : GenericArgKind Key) → IsKnownComponent m c → IsTrue (known (arg_tree n x)) →
      Some (arg_tree n x) ≡ argument_of m c → None ≡ outlives_tree n b r x → ⊥
  never_none s u b r c (Lifetime x) k h is none = false≢true (ap has_tree none)
  never_none s u b r c (GenericTy x) k h is none = false≢true (ap has_tree none)
  never_none s u b r c (GenericConst x) k h is none =
      false≢true (sym (no_const s c k) ∙ sym (ap holds_const is)
      ∙ ap is_const (const_term (n.const_ x) (u.const_ x h)))

  implied_tree : (b : BoundVarsKey Key) (r : RegionKey Key) (x : GenericArgKind Key) (t : Tree) →
      Some t ≡ outlives_tree n b r x → t ≡ under (n.bound_vars b) (outlives (arg_tree n x) (n.region r))
  implied_tree b r (Lifetime x) t e = ap or_nil e
  implied_tree b r (GenericTy x) t e = ap or_nil e
  implied_tree b r (GenericConst x) t e = absurd (false≢true (sym (ap has_tree e)))

  -- What a component implies is that clause.
  pub one_implied : Extends m n → (b : BoundVarsKey Key) (r : RegionKey Key) (c : Component Key Id Name)
      (x : GenericArgKind Key) (t : Tree) → IsSome (m.bound_vars b) → IsTrue (known (m.region r)) →
      Some (arg_tree n x) ≡ argument_of m c → Some t ≡ outlives_tree n b r x →
      t ∷ [] ≡ filter_map (component_implied m b r) (c ∷ [])
  one_implied e b r c x t i h is made =
      let f : Tree → Tree = λ u. under (m.bound_vars b) (outlives u (m.region r)) in
      let here : t ≡ f (arg_tree n x) = implied_tree b r x t made
      ∙ ap₂ (λ o z. under o (outlives (arg_tree n x) z)) (e.bound_vars b i) (e.region r h) in
      ap (λ z. z ∷ []) here ∙ ap (λ z. cons_option (option_map f z) []) is

-- The components of a type are known.
pub parts_known : {Key Id Name : Type 0} (m : Meaning Key Id Name) (t : Tree) (cs : List (Component Key Id Name)) →
    IsTrue (known t) → AddsSome m (components every t) [] cs → All (IsKnownComponent m) cs
parts_known m t cs k some = added_known m (components every t) cs (components_known every t k) some

-- What the first members give is of what all give.
pub first_give : {A B : Type 0} (f : A → Option B) (i : ℕ) (xs : List A) (y : B) →
    Contains (filter_map f (take i xs)) y → Contains (filter_map f xs) y
first_give f i xs y k =
    subst (λ z. Contains (filter_map f z) y) (take-append-drop i xs)
    (subst (λ z. Contains z y) (sym (filter_map-append f (take i xs) (drop i xs)))
    (Contains-append_left (filter_map f (take i xs)) (filter_map f (drop i xs)) y k))

-- Clauses of other kinds imply nothing.
pub other_kinds : {Key Id Name : Type 0} (m : Meaning Key Id Name) (s : Statements) (mode : Mode)
    (b : BoundVarsKey Key) (k : ClauseKind Key Id Name) →
    ((p : TraitPredicate Key Id) → k ≡ Trait p → ⊥) →
    ((p : HostEffectPredicate Key Id) → k ≡ HostEffect p → ⊥) →
    ((p : OutlivesPredicate Key (TyKey Key)) → k ≡ TypeOutlives p → ⊥) →
    [] ≡ children s mode (under (m.bound_vars b) (clause_kind_tree m k))
other_kinds m s mode b k first later last = by_list (m.bound_vars b) k first later last
  where
    by_list : (o : Option (List BoundKind)) (k : _) →
        ((p : _) → k ≡ Trait p → ⊥) → ((p : _) → k ≡ HostEffect p → ⊥) → ((p : _) → k ≡ TypeOutlives p → ⊥) →
        [] ≡ children s mode (under o (clause_kind_tree m k))
    by_list None k first later last = refl
    by_list (Some ks) (Trait p) first later last = absurd (first p refl)
    by_list (Some ks) (HostEffect p) first later last = absurd (later p refl)
    by_list (Some ks) (TypeOutlives p) first later last = absurd (last p refl)
    by_list (Some ks) (RegionOutlives p) first later last = refl
    by_list (Some ks) (Projection p) first later last = refl
    by_list (Some ks) (ConstArgHasType c t) first later last = refl
    by_list (Some ks) (WellFormed a) first later last = refl
    by_list (Some ks) (ConstEvaluatable c) first later last = refl
    by_list (Some ks) (UnstableFeature f) first later last = refl
