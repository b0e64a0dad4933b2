-- Parts at one place: what is paired with what, and what is compared.
use Rattle.std.proofs.Common.{◌≡◌, ℕ, zero, suc, ◌+◌, refl, sym, ap, ap₂, subst, inl, inr, [], ◌∷◌}
use Rattle.term_enums.specs.declared.Variance.{Variance}
use Rattle.relation_terms.specs.declared.terms.generic_arg.GenericArgKind.{GenericArgKind}
use Rattle.relation_terms.specs.declared.terms.generic_arg.GenericArgKind.TheVariants.{Lifetime}
use Rattle.relation_terms.specs.declared.terms.generic_arg.GenericArgKind.TheVariants.{Ty as TyArg, Const as ConstArg}
use Rattle.relation_terms.specs.declared.terms.part_kind.Part.{Part}
use Rattle.relation_terms.specs.declared.terms.part_kind.Part.TheVariants.{Region, Ty, Const, ValTree, Pat, ValueType}
use Rattle.relation_terms.specs.declared.terms.part_kind.Part.TheVariants.{Binder, Signature, Inputs, Existential, Object}
use Rattle.relation_terms.specs.Heads.{Sort, region_sort, type_sort, const_sort, inputs_sort, signature, inputs}
use Rattle.relation_terms.specs.Trees.{Tree, node, cons, nth}
use Rattle.relation_terms.specs.Meaning.{Meaning}
use Rattle.relation_terms.specs.Parts.{part_tree, part_sort, part_of_arg, tree_sort, AreArgs}
use Rattle.relation_semantics.specs.Errors.{AreOfOneForm, over_parts, over_aliases, one_leaf, parameters}
use Rattle.relation_semantics.specs.Lawful.{State, Manners, Takes, Turned, Asked}
use Rattle.relation_semantics.specs.Making.{arg_sort}
use Rattle.relation_semantics.specs.Parts.{direct_parts, IsRelatedPart, IsComparedPart, IsArgPart, IsBinderPart, ArePaired}
use Rattle.relation_semantics.specs.Stores.{Store, IsTermIn, weight}
use Rattle.relation_semantics.proofs.OneParts.{parts_counted}
use Rattle.relation_semantics.proofs.Answering.{same_settings}
use Rattle.relation_semantics.proofs.Going.{depth}
use Rattle.part_variances.proofs.PartErrors.{HaveAsManyInputs}
use Rattle.part_variances.proofs.Patterns.{IsFormSort}
pub use Rattle.relation_folds.proofs.Folding.{on_ok}

-- The sorts of generic arguments.
abbrev IsArgSort : Sort → Type 0
IsArgSort region_sort = Unit {0}
IsArgSort type_sort = Unit {0}
IsArgSort const_sort = Unit {0}
IsArgSort s = ⊥

module _ {Key Id : Type 0} where
  arg_sorted : (x : Part Key Id) → IsArgSort (part_sort x) → IsArgPart x
  arg_sorted (Region r) o = tt
  arg_sorted (Ty t) o = tt
  arg_sorted (Const c) o = tt
  arg_sorted x o = absurd o

  sorted_arg : (x : Part Key Id) → IsArgPart x → IsArgSort (part_sort x)
  sorted_arg (Region r) o = tt
  sorted_arg (Ty t) o = tt
  sorted_arg (Const c) o = tt
  sorted_arg x o = absurd o

  -- Arguments.
  pub paired_args : (x y : Part Key Id) → IsArgPart x → ArePaired x y → IsArgPart y
  paired_args x y o (inl q) = q.1
  paired_args x y o (inr e) = arg_sorted y (subst IsArgSort (sym e) (sorted_arg x o))

  pub are_args : (x : Part Key Id) → IsArgPart x → AreArgs (x ∷ [])
  are_args (Region r) o = tt
  are_args (Ty t) o = tt
  are_args (Const c) o = tt
  are_args x o = absurd o

  pub sort_as_arg : (x : Part Key Id) (k : GenericArgKind Key) → x ≡ part_of_arg k → part_sort x ≡ arg_sort k
  sort_as_arg x (Lifetime r) e = ap part_sort e
  sort_as_arg x (TyArg t) e = ap part_sort e
  sort_as_arg x (ConstArg c) e = ap part_sort e

  pub arg_not_compared : (x : Part Key Id) → IsArgPart x → IsComparedPart x → ⊥
  arg_not_compared (Region r) o p = p
  arg_not_compared (Ty t) o p = p
  arg_not_compared (Const c) o p = p
  arg_not_compared x o p = o

  -- Binders.
  no_binder_arg : (x : Part Key Id) → IsBinderPart x → IsArgPart x → ⊥
  no_binder_arg (Binder vs b) o p = p
  no_binder_arg x o p = o

  pub paired_binders : (x y : Part Key Id) → IsBinderPart x → ArePaired x y → part_sort y ≡ part_sort x
  paired_binders x y o (inl q) = absurd (no_binder_arg x o q.0)
  paired_binders x y o (inr e) = e

  pub binder_not_compared : (x : Part Key Id) → IsBinderPart x → IsComparedPart x → ⊥
  binder_not_compared (Binder vs b) o p = p
  binder_not_compared x o p = o

  -- What is neither.
  pub form_compared : (x : Part Key Id) → IsRelatedPart x → (IsArgPart x → ⊥) → (IsBinderPart x → ⊥) → IsComparedPart x
  form_compared (Region r) k n o = absurd (n tt)
  form_compared (Ty t) k n o = absurd (n tt)
  form_compared (Const c) k n o = absurd (n tt)
  form_compared (ValTree v) k n o = absurd k
  form_compared (ValueType t) k n o = absurd k
  form_compared (Binder vs b) k n o = absurd (o tt)
  form_compared x k n o = tt

  pub paired_compared : (x y : Part Key Id) → IsComparedPart x → ArePaired x y → part_sort y ≡ part_sort x
  paired_compared x y o (inl q) = absurd (arg_not_compared x q.0 o)
  paired_compared x y o (inr e) = e

  compared_sort : (x : Part Key Id) → IsComparedPart x → IsFormSort (part_sort x)
  compared_sort (Pat p) o = tt
  compared_sort (Signature g) o = tt
  compared_sort (Inputs t) o = tt
  compared_sort (Existential p) o = tt
  compared_sort (Object k) o = tt
  compared_sort x o = absurd o

  sort_compared : (x : Part Key Id) → IsFormSort (part_sort x) → IsComparedPart x
  sort_compared (Pat p) o = tt
  sort_compared (Signature g) o = tt
  sort_compared (Inputs t) o = tt
  sort_compared (Existential p) o = tt
  sort_compared (Object k) o = tt
  sort_compared x o = absurd o

  pub compared_as : (x y : Part Key Id) → IsComparedPart x → part_sort y ≡ part_sort x → IsComparedPart y
  compared_as x y o e = sort_compared y (subst IsFormSort (sym e) (compared_sort x o))

  pub inputs_compared : (x : Part Key Id) → part_sort x ≡ inputs_sort → IsComparedPart x
  inputs_compared (Pat p) e = tt
  inputs_compared (Signature g) e = tt
  inputs_compared (Inputs t) e = tt
  inputs_compared (Existential p) e = tt
  inputs_compared (Object k) e = tt
  inputs_compared x e = absurd (cc)

-- Two signatures whose inputs are of one form have as many.
pub no_inputs_yet : (a b : Tree) → HaveAsManyInputs a b 0
no_inputs_yet (node (signature x s k) (cons (node inputs p) us)) (node (signature y t l) (cons (node inputs q) ws)) = tt
no_inputs_yet a b = tt

pub inputs_next : (a b : Tree) (i : ℕ) → (tree_sort (nth i (direct_parts a)) ≡ inputs_sort →
    AreOfOneForm (nth i (direct_parts a)) (nth i (direct_parts b))) → HaveAsManyInputs a b i → HaveAsManyInputs a b (suc i)
inputs_next (node (signature x s k) (cons (node inputs p) us)) (node (signature y t l) (cons (node inputs q) ws)) zero f h =
    parts_counted (node inputs p) (node inputs q) (f refl)
inputs_next (node (signature x s k) (cons (node inputs p) us)) (node (signature y t l) (cons (node inputs q) ws)) (suc i) f h =
    h
inputs_next a b i f h = tt

-- The same seen from the other side.
pub alike_back : (a b : Tree) → AreOfOneForm a b → AreOfOneForm b a
alike_back a b (over_parts d e n) = over_parts e d (sym n)
alike_back a b (over_aliases d e n) = over_aliases e d (sym n)
alike_back a b (one_leaf d e) = one_leaf e d
alike_back a b (parameters d e p) = parameters e d (sym p)

-- What was asked of two terms is so at another ambient variance.
pub asked_turned : {Key Id Name : Type 0} {v : Variance} {r t : State Key Id Name} (M : Manners) (w : Variance)
    (a b : Tree) → Turned v r t → Asked M r w a b → Asked M t w a b
asked_turned M w a b there k = record {
  left_known = k.left_known;
  right_known = k.right_known;
  left_in = subst (λ s. IsTermIn s a) (sym there.store) k.left_in;
  right_in = subst (λ s. IsTermIn s b) (sym there.store) k.right_in;
  left_taken = subst (λ z. Takes (M z) w a) (sym (same_settings there.kept)) k.left_taken;
  right_taken = subst (λ z. Takes (M z) w b) (sym (same_settings there.kept)) k.right_taken;
}

pub depth_turned : {Key Id Name : Type 0} {v : Variance} {r t : State Key Id Name} (x y : Part Key Id) → Turned v r t →
    depth (t.store).budget (weight t.store (part_tree t.meaning x) + weight t.store (part_tree t.meaning y)) ≡
    depth (r.store).budget (weight r.store (part_tree r.meaning x) + weight r.store (part_tree r.meaning y))
depth_turned {Key} {Id} {Name} x y there = ap₂ (λ (m : Meaning Key Id Name) (s : Store). depth s.budget
    (weight s (part_tree m x) + weight s (part_tree m y))) there.meaning there.store
