-- What comes of alias goals, errors and ambiguity.
use Rattle.std.proofs.Common.{◌≡◌, ◌⊎◌, ℕ, refl, sym, ap, ◌∙◌, inl, inr, subst, List, [], ◌∷◌, ◌++◌, All, Some}
use Rattle.std.proofs.lemmas.List.Elements.{All-nil, All-cons, All-head}
use Rattle.term_enums.specs.declared.Variance.{Variance}
use Rattle.term_enums.specs.declared.Variance.TheVariants.{Covariant, Contravariant, Invariant, Bivariant}
use Rattle.term_enums.specs.declared.AliasRelationDirection.TheVariants.{Equate}
use Rattle.relation_terms.specs.Heads.{type_sort, const_sort, VarKind, type_var, const_var, var_sort, variable, bound, placeholder, atom, unknown}
use Rattle.relation_terms.specs.Trees.{Tree, leaf, node, bind, nil, cons, Assign, apply, IsTerm}
use Rattle.relation_semantics.specs.Relation.{Items, Interpretation, at, Rel, AliasRule, alias_types, equal_consts, error_left, error_right, sort_of, IsError}
use Rattle.relation_semantics.specs.Stores.{Store, entry_term, InContext, IsAssignment, Satisfies}
use Rattle.relation_semantics.specs.Goals.{Goal, goal_of, Holds, MakesOneTree, GoalInContext, alias_relate_predicate, ambiguous_predicate}
use Rattle.relation_semantics.specs.Steps.{Taints}
use Rattle.relation_semantics.specs.Outcomes.{Outcome}
use Rattle.relation_semantics.specs.AliasGoals.{alias_at}
use Rattle.relation_semantics.proofs.Going.{later_itself}
use Rattle.relation_semantics.proofs.Standing.{term_sort_of, later_context, term_context, stands_term}
use Rattle.relation_semantics.proofs.Values.{same_value}
use Rattle.relation_semantics.proofs.Opening.{satisfies_still, satisfied_then, changes_later}
use Rattle.std.proofs.lemmas.Option.{same_Some}
use Rattle.relation_folds.proofs.Lists.{All_back}

-- The value of a term of a variable's sort is of that sort.
value_sort : (st : Store) (s : Assign) (k : VarKind) (t : Tree) → IsAssignment st s → InContext st t → IsTerm (var_sort k) t → sort_of (apply s t) ≡ var_sort k
unfolding InContext
value_sort st s k (leaf (variable j n)) g c h = term_sort_of j (s j n) (stands_term j (s j n) (g j n c).0) ∙ term_sort_of k (leaf (variable j n)) h
value_sort st s k (leaf (bound q d i)) g c h = term_sort_of k (leaf (bound q d i)) h
value_sort st s k (leaf (placeholder q u n)) g c h = term_sort_of k (leaf (placeholder q u n)) h
value_sort st s k (leaf (atom x)) g c h = term_sort_of k (leaf (atom x)) h
value_sort st s k (leaf unknown) g c h = absurd c
value_sort st s k (node x ts) g c h = term_sort_of k (node x ts) h
value_sort st s k (bind ks t) g c h = absurd h
value_sort st s k nil g c h = absurd h
value_sort st s k (cons t u) g c h = absurd h

-- What the alias goal says of an assignment's values.
goal_rule : (c : Items) (w : Interpretation) (s : Assign) (e : Tree) (v : Variance) (a b p : Tree) → alias_at v a b ≡ Some p → Holds c w s (goal_of e p) → AliasRule w e v (apply s a) (apply s b)
goal_rule c w s e Covariant a b p q h = subst (λ z. Holds c w s (goal_of e z)) (sym (same_Some _ _ q)) h
goal_rule c w s e Contravariant a b p q h = subst (λ z. Holds c w s (goal_of e z)) (sym (same_Some _ _ q)) h
goal_rule c w s e Invariant a b p q h = subst (λ z. Holds c w s (goal_of e z)) (sym (same_Some _ _ q)) h
goal_rule c w s e Bivariant a b p q h = absurd cc

goal_one : (s : Assign) (e : Tree) (v : Variance) (a b p : Tree) → alias_at v a b ≡ Some p → apply s a ≡ apply s b → MakesOneTree s (goal_of e p)
goal_one s e Covariant a b p q h = subst (λ z. MakesOneTree s (goal_of e z)) (same_Some _ _ q) h
goal_one s e Contravariant a b p q h = subst (λ z. MakesOneTree s (goal_of e z)) (same_Some _ _ q) (sym h)
goal_one s e Invariant a b p q h = subst (λ z. MakesOneTree s (goal_of e z)) (same_Some _ _ q) h
goal_one s e Bivariant a b p q h = absurd cc

goal_in : (st : Store) (e : Tree) (v : Variance) (a b p : Tree) → alias_at v a b ≡ Some p → InContext st a → InContext st b → GoalInContext st (goal_of e p)
unfolding InContext
goal_in st e Covariant a b p q h k = subst (λ z. InContext st z) (same_Some _ _ q) (h, (k, tt))
goal_in st e Contravariant a b p q h k = subst (λ z. InContext st z) (same_Some _ _ q) (k, (h, tt))
goal_in st e Invariant a b p q h k = subst (λ z. InContext st z) (same_Some _ _ q) (h, (k, tt))
goal_in st e Bivariant a b p q h k = absurd cc

last_of : (P : Goal → Type 0) (earlier : List Goal) (g : Goal) → All P (earlier ++ g ∷ []) → P g
last_of P earlier g h = All-head P g [] (All_back P earlier (g ∷ []) h)

only : (P : Goal → Type 0) (g : Goal) → P g → All P (g ∷ [])
only P g h = All-cons P g [] h (All-nil P)

-- Registering the alias goal of two types relates them, and loses no equal pair.
pub alias_goals_relate : (c : Items) (e : Tree) (v : Variance) (st : Store) (earlier : List Goal) (a b p : Tree) →
    InContext st a → InContext st b → IsTerm type_sort a → IsTerm type_sort b → alias_at v a b ≡ Some p →
    Outcome c e (at v) st st earlier (goal_of e p ∷ []) a b
alias_goals_relate c e v st earlier a b p ia ib ta tb q = record {
  later = later_itself st;
  goals_in = only (GoalInContext st) (goal_of e p) (goal_in st e v a b p q ia ib);
  relates = λ w s sat h. alias_types (value_sort st s type_var a sat.assigns ia ta) (value_sort st s type_var b sat.assigns ib tb)
      (goal_rule c w s e v a b p q (last_of (Holds c w s) earlier (goal_of e p) h));
  keeps = λ w s sat one. (s, (λ k n m. refl), (sat, only (MakesOneTree s) (goal_of e p) (goal_one s e v a b p q one)));
}

-- The same of two constants, at every variance by that they are equal.
pub alias_goals_relate_consts : (c : Items) (e : Tree) (v : Variance) (st : Store) (earlier : List Goal) (a b : Tree) →
    InContext st a → InContext st b → IsTerm const_sort a → IsTerm const_sort b →
    Outcome c e (at v) st st earlier (goal_of e (alias_relate_predicate Equate a b) ∷ []) a b
unfolding InContext
alias_goals_relate_consts c e v st earlier a b ia ib ta tb = let g = goal_of e (alias_relate_predicate Equate a b) in record {
  later = later_itself st;
  goals_in = only (GoalInContext st) g (ia, (ib, tt));
  relates = λ w s sat h. equal_consts (value_sort st s const_var a sat.assigns ia ta) (value_sort st s const_var b sat.assigns ib tb) (last_of (Holds c w s) earlier g h);
  keeps = λ w s sat one. (s, (λ k n m. refl), (sat, only (MakesOneTree s) g one));
}

pub error_stays : (s : Assign) (t : Tree) → IsError t → IsError (apply s t)
error_stays s (leaf (atom x)) h = h
error_stays s t h = absurd h

-- An error with a term of its sort: the taint alone.
pub errors_relate : (c : Items) (e : Tree) (v : Variance) (before after : Store) (earlier : List Goal) (a b : Tree) →
    Taints before after → InContext before a → InContext before b → IsTerm type_sort a → IsTerm type_sort b →
    IsError a ⊎ IsError b → Outcome c e (at v) before after earlier [] a b
errors_relate c e v before after earlier a b t ia ib ta tb h = record {
  later = changes_later before after t.nothing_else;
  goals_in = All-nil (GoalInContext after);
  relates = λ w s sat g. let old = satisfied_then before after t.nothing_else w s sat in
      let same : sort_of (apply s a) ≡ sort_of (apply s b) = value_sort before s type_var a old.assigns ia ta ∙ sym (value_sort before s type_var b old.assigns ib tb) in
      go w s h same;
  keeps = λ w s sat one. (s, (λ k n m. refl), (satisfies_still before after t.nothing_else w s sat, All-nil (MakesOneTree s)));
}
  where
    go : (w : Interpretation) (s : Assign) → IsError a ⊎ IsError b → sort_of (apply s a) ≡ sort_of (apply s b) → Rel c w e (at v) (apply s a) (apply s b)
    go w s (inl x) same = error_left (error_stays s a x) same
    go w s (inr x) same = error_right (error_stays s b x) same

-- What is never so relates anything, and loses no pair.
pub ambiguous_relates : (c : Items) (e : Tree) (v : Variance) (st : Store) (earlier : List Goal) (a b : Tree) →
    Outcome c e (at v) st st earlier (goal_of e ambiguous_predicate ∷ []) a b
unfolding InContext
ambiguous_relates c e v st earlier a b = let g = goal_of e ambiguous_predicate in record {
  later = later_itself st;
  goals_in = only (GoalInContext st) g tt;
  relates = λ w s sat h. absurd (last_of (Holds c w s) earlier g h);
  keeps = λ w s sat one. (s, (λ k n m. refl), (sat, only (MakesOneTree s) g tt));
}
