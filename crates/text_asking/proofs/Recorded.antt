-- What a lawful context has recorded is on terms that its interner knows.
use Rattle.std.proofs.Common.{◌≡◌, ℕ, ◌<◌, sym, ap, ◌∙◌, subst, length, map, get_or, IsTrue, List, Some}
use Rattle.std.proofs.lemmas.List.{length-map, get_or-map}
use Rattle.relation_terms.specs.Heads.{type_var, int_var, float_var, const_var}
use Rattle.relation_terms.specs.Trees.{Tree, known}
use Rattle.relation_terms.specs.Meaning.{Meaning}
use Rattle.relation_terms.specs.declared.predicate.regions.RegionConstraint.{RegionConstraint}
use Rattle.relation_semantics.specs.Stores.{ConstraintIn}
use Rattle.relation_semantics.specs.Constraints.{constraint_of}
use Rattle.variable_tables.specs.declared.inner.InferCtxtInner.{InferCtxtInner}
use Rattle.variable_tables.specs.declared.inner.Variable.{Variable}
use Rattle.variable_tables.specs.declared.inner.VariableValue.{VariableValue}
use Rattle.variable_tables.specs.declared.inner.VariableValue.TheVariants.{Unknown, SameAs, Known}
use Rattle.variable_tables.specs.Variables.{entry_of_value, value_at}
use Rattle.variable_tables.specs.Tables.{store_of, IsLawful}
use Rattle.variable_tables.proofs.Grows.{bound_known, entry_at}
use Rattle.text_asking.specs.Asking.{AreBoundKnown}
use Rattle.text_asking.specs.Roots.{bound_by}

module _ {Key Id Name : Type 0} (m : Meaning Key Id Name) (x : InferCtxtInner Key) (l : IsLawful m x) where
  -- What variables are bound to is known.
  pub types_known : AreBoundKnown m.ty x.types.items
  types_known n t e = bound_known m x l type_var n (m.ty t) (entry_at m.ty x.types.items n ∙ ap (entry_of_value m.ty) e)

  pub ints_known : AreBoundKnown m.ty x.ints.items
  ints_known n t e = bound_known m x l int_var n (m.ty t) (entry_at m.ty x.ints.items n ∙ ap (entry_of_value m.ty) e)

  pub floats_known : AreBoundKnown m.ty x.floats.items
  floats_known n t e = bound_known m x l float_var n (m.ty t) (entry_at m.ty x.floats.items n ∙ ap (entry_of_value m.ty) e)

  pub consts_known : AreBoundKnown m.const_ x.consts.items
  consts_known n t e =
      bound_known m x l const_var n (m.const_ t) (entry_at m.const_ x.consts.items n ∙ ap (entry_of_value m.const_) e)

  -- A recorded constraint is on terms of the context.
  pub constraint_at : (i : ℕ) (q : RegionConstraint Key) → i < length x.constraints.items → q ≡ get_or x.constraints.items i q → ConstraintIn (store_of m x) (constraint_of m q)
  constraint_at i q h e =
      let f = constraint_of m in
      let at : i < length (map f x.constraints.items) = subst (λ z. i < z) (sym (length-map x.constraints.items f)) h in
      subst (ConstraintIn (store_of m x)) (get_or-map f x.constraints.items i q (f q) h ∙ ap f (sym e))
      (l.sound.constraints_in i (f q) at)

-- Where a term is what a variable is bound to, the variable is bound to it.
bound_to : {K : Type 0} (v : VariableValue K) (t : K) → Some t ≡ bound_by (λ u. u) v → v ≡ Known t
bound_to Unknown t e = absurd (cc)
bound_to (SameAs r) t e = absurd (cc)
bound_to (Known u) t e = cc

-- Such a term is known where all are that variables are bound to.
pub found_known : {K : Type 0} (tree : K → Tree) (vs : List (Variable K)) (n : ℕ) (t : K) → AreBoundKnown tree vs →
    Some t ≡ bound_by (λ u. u) (value_at vs n) → IsTrue (known (tree t))
found_known tree vs n t all e = all n t (bound_to (value_at vs n) t e)
