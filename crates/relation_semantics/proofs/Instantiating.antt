-- Binding a variable to what a term comes to, and refusing to where it stands in that.
use Rattle.std.proofs.Common.{◌≢◌, ℕ, zero, suc, refl, sym, ap, ◌∙◌, subst, le_of_eq}
use Rattle.term_enums.specs.declared.Variance.{Variance}
use Rattle.relation_terms.specs.Heads.{VarKind, type_var, int_var, float_var, const_var, region_var, Leaf, atom, variable, bound, placeholder, unknown, Head, value_type}
use Rattle.relation_terms.specs.Trees.{Tree, leaf, node, bind, nil, cons, Assign, assigned, apply, Leaves, Occurs}
use Rattle.relation_semantics.specs.Stores.{Store, bound_to, entry_term, universe_of, IsIntegerTerm, IsFloatTerm, IsInScope, IsTermIn, IsSound, MayStandFor, resolve, resolved}
use Rattle.relation_semantics.specs.FirstOrder.{IsFirstOrder, IsFirstOrderStore, IsClosedLeaf, IsTypeClosed}
use Rattle.relation_semantics.specs.Steps.{BindsTo, Instantiates, kept, IsLater}
use Rattle.relation_semantics.specs.StoreLaws.{BindingInstantiates, CyclesRefuse}
use Rattle.relation_semantics.proofs.Trees.{Leaves_map, Leaves-replace}
use Rattle.relation_semantics.proofs.Values.{apply-list}
use Rattle.relation_semantics.proofs.Resolved.{HasTerm, is_free, is_bound, has_term, resolve_free, resolve_bound, resolved_value, resolved_twice, cycles_do_not_unify}
use Rattle.relation_semantics.proofs.Standing.{later_term, stands_apply}
use Rattle.relation_semantics.proofs.Written.{made_after, others_bound}
use Rattle.relation_semantics.proofs.Equating.{bound_sound, bound_later, bound_keeps}
use Rattle.relation_semantics.proofs.Exactness.{entry_is_exact}
use Rattle.relation_semantics.proofs.Erased.{erased_occurs_check}
use Rattle.relation_semantics.proofs.Going.{later_itself}
use Rattle.relation_semantics.proofs.StoreCalls.{resolve_stands, resolved_stands, resolved_in, resolved_unifies}

-- What a term that may stand for a variable comes to may stand for it too.
pub stands_resolved : (st : Store) (k : VarKind) (t : Tree) → IsSound st → MayStandFor k t → MayStandFor k (apply (resolved st) t)
stands_resolved st k t g h = stands_apply (resolved st) k t (resolved_stands st g) h

-- What a first-order term comes to when first-order terms are put for its variables, and closed ones for those of
-- numbers and regions.
module _ (s : Assign) (simple : (k : VarKind) (n : ℕ) → IsFirstOrder (s k n)) (closed : (k : VarKind) (n : ℕ) → IsClosedLeaf (variable k n) → Leaves IsClosedLeaf (s k n)) where
  closed_leaf : (l : Leaf) → IsClosedLeaf l → Leaves IsClosedLeaf (assigned s l)
  closed_leaf (variable k n) h = closed k n h
  closed_leaf (bound k d i) h = h
  closed_leaf (placeholder k u n) h = h
  closed_leaf (atom x) h = h
  closed_leaf unknown h = h

  closed_type : (h : Head) (ts : Tree) → IsTypeClosed h ts → IsTypeClosed h (apply s ts)
  closed_type value_type ts c = Leaves-replace IsClosedLeaf (assigned s) ts (Leaves_map IsClosedLeaf _ closed_leaf ts c)
  closed_type h ts c = tt

  pub first_order_apply : (t : Tree) → IsFirstOrder t → IsFirstOrder (apply s t)
  first_order_apply (leaf (variable k n)) f = simple k n
  first_order_apply (leaf (bound k d i)) f = f
  first_order_apply (leaf (placeholder k u n)) f = f
  first_order_apply (leaf (atom x)) f = f
  first_order_apply (leaf unknown) f = f
  first_order_apply (node h ts) f = (f.0, apply-list s ts f.1, closed_type h ts f.2, first_order_apply ts f.3)
  first_order_apply (bind ks t) f = f
  first_order_apply nil f = tt
  first_order_apply (cons t ts) f = (first_order_apply t f.0, first_order_apply ts f.1)

integer_closed : (t : Tree) → IsIntegerTerm t → Leaves IsClosedLeaf t
integer_closed (leaf (variable int_var n)) h = tt
integer_closed (leaf (atom x)) h = tt
integer_closed t h = absurd h

float_closed : (t : Tree) → IsFloatTerm t → Leaves IsClosedLeaf t
float_closed (leaf (variable float_var n)) h = tt
float_closed (leaf (atom x)) h = tt
float_closed t h = absurd h

-- So does what a first-order term comes to in a sound store of first-order bindings.
module _ (st : Store) (g : IsSound st) (simple : IsFirstOrderStore st) where
  resolve_closed : (f : ℕ) (k : VarKind) (n : ℕ) → IsClosedLeaf (variable k n) → Leaves IsClosedLeaf (resolve f st k n)
  resolve_closed f type_var n h = absurd h
  resolve_closed f const_var n h = absurd h
  resolve_closed f int_var n h = integer_closed (resolve f st int_var n) (resolve_stands st g f int_var n)
  resolve_closed f float_var n h = float_closed (resolve f st float_var n) (resolve_stands st g f float_var n)
  resolve_closed f region_var n h = subst (Leaves IsClosedLeaf) (sym (resolve_free f st region_var n (ap (entry_term region_var) (g.regions_unbound n)))) tt

  resolve_first_order : (f : ℕ) (k : VarKind) (n : ℕ) → IsFirstOrder (resolve f st k n)
  unfolding resolve
  resolve_first_order zero k n = tt
  resolve_first_order (suc f) k n = go (resolve_first_order f) (has_term st k n)
    where
      go : ((k : VarKind) (n : ℕ) → IsFirstOrder (resolve f st k n)) → HasTerm st k n → IsFirstOrder (resolve (suc f) st k n)
      go i (is_free q) = subst IsFirstOrder (sym (resolve_free (suc f) st k n q)) tt
      go i (is_bound t q) = subst IsFirstOrder (sym (resolve_bound f st k n t q)) (first_order_apply (resolve f st) i (resolve_closed f) t (simple k n t q))

  pub resolved_first_order : (t : Tree) → IsFirstOrder t → IsFirstOrder (apply (resolved st) t)
  unfolding resolved
  resolved_first_order t f = first_order_apply _ (resolve_first_order _) (resolve_closed _) t f

-- A variable bound to what a term comes to.
module _ (before after : Store) (v : Variance) (k : VarKind) (n : ℕ) (source : Tree) (r : k ≢ region_var) (q : BindsTo before after k n (apply (resolved before) source)) (g : IsSound before)
    (is_in : IsTermIn before source) (stands : MayStandFor k (apply (resolved before) source))
    (absent : Occurs k n (apply (resolved before) source) → ⊥)
    (in_scope : Leaves (IsInScope before (universe_of before k n)) (apply (resolved before) source)) where
  abbrev term : Tree
  term = apply (resolved before) source

  term_in : IsTermIn before term
  term_in = resolved_in before g source is_in

  now_absent : Occurs k n (apply (resolved before) term) → ⊥
  now_absent o = absent (subst (Occurs k n) (resolved_twice before g source) o)

  now_in_scope : Leaves (IsInScope before (universe_of before k n)) (apply (resolved before) term)
  now_in_scope = subst (Leaves (IsInScope before (universe_of before k n))) (sym (resolved_twice before g source)) in_scope

  later : IsLater before after
  later = bound_later before after k n term q g r stands term_in now_absent now_in_scope

  pub instantiated : Instantiates before after v k n source term
  instantiated = record {
    later = later;
    made = q.writes.made;
    was_unbound = q.writes.was_unbound;
    now_bound = q.writes.written;
    others_stand = others_bound before after k n term q.writes;
    same_universes = λ j i m. q.same_universes j i;
    same_constraints = q.writes.same_constraints;
    same_universe = q.writes.same_universe;
    same_taint = q.writes.same_taint;
    one_spent = q.one_spent;
    term_in = later_term before after (made_after before after k n (bound_to term) term q.writes refl) (le_of_eq (sym q.writes.same_universe)) term term_in;
    generalised = kept refl;
    stays_sound = λ h. bound_sound before after k n term q g r stands term_in now_absent now_in_scope;
    keeps = λ w s sat e. (s, (λ j i m. refl), bound_keeps before after k n term q g r stands term_in now_absent now_in_scope w s sat (e ∙ resolved_value before s sat.bindings source));
    keeps_erased = λ lacks s sol e. (entry_is_exact before after k n (bound_to term) term q.writes refl later q.same_universes).keeps s sol (e ∙ sym (resolved_unifies before g s sol.1 source));
    regions_alone = λ p f h i. refl;
  }

pub binding_instantiates : BindingInstantiates
binding_instantiates before after v k n source r q g is_in stands absent in_scope = instantiated before after v k n source r q g is_in stands absent in_scope

pub cycles_refuse : CyclesRefuse
cycles_refuse st v k n source kind g occurs other = record {
  later = later_itself st;
  same_entries = λ j i. refl;
  same_constraints = refl;
  same_universe = refl;
  same_taint = refl;
  same_budget = refl;
  stays_sound = λ h. h;
  apart = λ w s sat e. cycles_do_not_unify st k n source occurs other s sat.bindings e;
  same_universes = λ j i h. refl;
  apart_erased = λ p f h s sol e. erased_occurs_check s k n (apply (resolved st) source) kind (resolved_first_order st g h source f) occurs other (e ∙ sym (resolved_unifies st g s sol.1 source));
}
