-- A store that has recorded nothing is sound.
use Rattle.std.proofs.Common.{◌≡◌, ℕ, ◌≤◌, sym, ap, subst, ◌∙◌, arith, [], All, None, get_or, length}
use Rattle.std.proofs.lemmas.List.Elements.{All-nil}
use Rattle.relation_terms.specs.Heads.{VarKind, region_var}
use Rattle.relation_terms.specs.Trees.{Leaves}
use Rattle.relation_semantics.specs.Stores.{Store, unbound, entry_of, entry_term, bound_term, IsMade, IsFree, IsSound, ConstraintIn}
use Rattle.relation_semantics.proofs.Resolved.{resolved_free}

module _ (st : Store) (entries : (k : VarKind) → st.entries k ≡ []) (universes : (k : VarKind) → st.universes k ≡ []) (constraints : st.constraints ≡ []) where
  nothing : (k : VarKind) (n : ℕ) → entry_of st k n ≡ unbound
  nothing k n = ap (λ es. get_or es n unbound) (entries k)

  none : (k : VarKind) (n : ℕ) → bound_term st k n ≡ None
  none k n = ap (entry_term k) (nothing k n)

  not_made : (k : VarKind) (n : ℕ) → IsMade st k n → ⊥
  not_made k n h = let e = ap length (entries k) in omega (arith, h, e)

  pub empty_sound : IsSound st
  empty_sound = record {
    settles = λ k n. subst (Leaves (IsFree st)) (sym (resolved_free st k n (none k n))) (none k n);
    bindings = λ k n t e. absurd (let h = none k n in cc (e, h));
    in_scope = λ k n h. absurd (not_made k n h);
    falls = λ k n m e. absurd (let h = nothing k n in cc (e, h));
    regions_unbound = λ n. nothing region_var n;
    one_universe_each = λ k. ap length (universes k) ∙ sym (ap length (entries k));
    below_current = λ k n. subst (λ us. get_or us n 0 ≤ st.universe) (sym (universes k)) (omega arith);
    constraints_in = subst (All (ConstraintIn st)) (sym constraints) (All-nil (ConstraintIn st));
  }
