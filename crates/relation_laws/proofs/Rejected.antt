-- First-order terms that clash do not unify.
use Rattle.std.proofs.Common.{◌≡◌, ℕ, false, refl, ap}
use Rattle.relation_terms.specs.Heads.{VarKind, type_var, int_var, float_var, const_var, region_var, Atom, type_error}
use Rattle.relation_terms.specs.Heads.{const_error, fresh_type, fresh_int, fresh_float, fresh_const, int_type, uint_type}
use Rattle.relation_terms.specs.Heads.{float_type, Head, alias, unevaluated, expression, variable, bound}
use Rattle.relation_terms.specs.Heads.{placeholder, atom, unknown}
use Rattle.relation_terms.specs.Trees.{Tree, leaf, node, bind, nil, cons, Assign, apply, Leaves}
use Rattle.relation_terms.specs.Erasure.{erase}
use Rattle.relation_folds.specs.Clashes.{flexible}
use Rattle.fast_reject.specs.Instances.{Instance, put, kept_leaf, kept_node, kept_nil, kept_cons}
use Rattle.fast_reject.specs.Instances.{IsNoVariable}
use Rattle.relation_laws.proofs.OpenedInstances.{no_variable}
use Rattle.fast_reject.proofs.Rejecting.{clashes_are_apart}
use Rattle.relation_semantics.specs.Relation.{IsValueLeaf}
use Rattle.relation_semantics.specs.Stores.{Store, MayStandFor, IsIntegerTerm, IsFloatTerm, IsAssignment, IsMadeLeaf}
use Rattle.relation_semantics.specs.Stores.{InContext, IsTermIn}
use Rattle.relation_semantics.specs.FirstOrder.{IsFirstOrder, IsFirstOrderHead, IsFirstOrderAtom}
use Rattle.relation_laws.specs.RejectionLaws.{ClashesDoNotUnify, ClashesAreNotRelated}
use Rattle.relation_semantics.proofs.StoreCalls.{bindings_are_met}

pub values_no_variables : (t : Tree) → Leaves IsValueLeaf t → Leaves IsNoVariable t
values_no_variables (leaf l) h = no_variable l h
values_no_variables (node g ts) h = values_no_variables ts h
values_no_variables (bind ks t) h = values_no_variables t h
values_no_variables nil h = tt
values_no_variables (cons t ts) h = (values_no_variables t h.0, values_no_variables ts h.1)

-- A value that may stand for a variable may be put for it.
put_integer : (n : ℕ) (x : Tree) → IsIntegerTerm x → Leaves IsValueLeaf x →
    Instance (flexible false) (leaf (variable int_var n)) x
put_integer n (leaf (atom (int_type w))) h v = put refl tt tt refl
put_integer n (leaf (atom (uint_type w))) h v = put refl tt tt refl
put_integer n (leaf (atom y)) h v = absurd h
put_integer n (leaf (variable int_var m)) h v = absurd v
put_integer n (leaf (variable k m)) h v = absurd h
put_integer n (leaf (bound k d i)) h v = absurd h
put_integer n (leaf (placeholder k u m)) h v = absurd h
put_integer n (leaf unknown) h v = absurd h
put_integer n (node g ts) h v = absurd h
put_integer n (bind ks t) h v = absurd h
put_integer n nil h v = absurd h
put_integer n (cons t ts) h v = absurd h

put_float : (n : ℕ) (x : Tree) → IsFloatTerm x → Leaves IsValueLeaf x →
    Instance (flexible false) (leaf (variable float_var n)) x
put_float n (leaf (atom (float_type w))) h v = put refl tt tt refl
put_float n (leaf (atom y)) h v = absurd h
put_float n (leaf (variable float_var m)) h v = absurd v
put_float n (leaf (variable k m)) h v = absurd h
put_float n (leaf (bound k d i)) h v = absurd h
put_float n (leaf (placeholder k u m)) h v = absurd h
put_float n (leaf unknown) h v = absurd h
put_float n (node g ts) h v = absurd h
put_float n (bind ks t) h v = absurd h
put_float n nil h v = absurd h
put_float n (cons t ts) h v = absurd h

put_value : (k : VarKind) (n : ℕ) (x : Tree) → MayStandFor k x → Leaves IsValueLeaf x →
    Instance (flexible false) (leaf (variable k n)) x
put_value type_var n x h v = put refl h (values_no_variables x v) refl
put_value int_var n x h v = put_integer n x h v
put_value float_var n x h v = put_float n x h v
put_value const_var n x h v = put refl h (values_no_variables x v) refl
put_value region_var n x h v = put refl h (values_no_variables x v) refl

-- All else in a first-order term stands for itself.
first_order_atom : (x : Atom) → IsFirstOrderAtom x → flexible false (leaf (atom x)) ≡ false
first_order_atom type_error h = absurd h
first_order_atom const_error h = absurd h
first_order_atom (fresh_type n) h = absurd h
first_order_atom (fresh_int n) h = absurd h
first_order_atom (fresh_float n) h = absurd h
first_order_atom (fresh_const n) h = absurd h
first_order_atom x h = refl

first_order_head : (h : Head) (ts : Tree) → IsFirstOrderHead h → flexible false (node h ts) ≡ false
first_order_head (alias k d) ts f = absurd f
first_order_head (unevaluated d) ts f = absurd f
first_order_head (expression k) ts f = absurd f
first_order_head h ts f = refl

-- What an assignment makes of a first-order term is an instance of it.
pub applied : (st : Store) (s : Assign) → IsAssignment st s → (t : Tree) → IsFirstOrder t → Leaves (IsMadeLeaf st) t →
    Instance (flexible false) t (apply s t)
applied st s g (leaf (variable k n)) f m = let h = g k n m in put_value k n (s k n) h.0 h.1
applied st s g (leaf (bound k d i)) f m = absurd f
applied st s g (leaf (placeholder k u n)) f m = kept_leaf refl
applied st s g (leaf (atom x)) f m = kept_leaf (first_order_atom x f)
applied st s g (leaf unknown) f m = absurd f
applied st s g (node h ts) f m = kept_node (first_order_head h ts f.0) (applied st s g ts f.3 m)
applied st s g (bind ks t) f m = absurd f
applied st s g nil f m = kept_nil
applied st s g (cons t ts) f m = kept_cons (applied st s g t f.0 m.0) (applied st s g ts f.1 m.1)

pub made : (st : Store) (t : Tree) → IsTermIn st t → Leaves (IsMadeLeaf st) t
unfolding IsTermIn InContext
made st t h = h.0

pub clashes_do_not_unify : ClashesDoNotUnify
clashes_do_not_unify st s d a b names fa fb ia ib c g e = clashes_are_apart false false d a b c (λ l r. names) (record {
  left = apply s a;
  right = apply s b;
  of_left = applied st s g a fa (made st a ia);
  of_right = applied st s g b fb (made st b ib);
  same = e;
})

pub clashes_are_not_related : ClashesAreNotRelated
clashes_are_not_related before after d a b names pair ia ib c sound exact =
    let met = bindings_are_met after sound in
    let left = exact.shrinks met.0 (met.1, λ k n t q. ap erase (met.2 k n t q)) in
    clashes_do_not_unify before met.0 d a b names pair.left pair.right ia ib c left.0.0 left.1
