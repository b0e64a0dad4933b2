-- A type variable that was bound to another in the place of an alias: the alias goal of that one and the alias, on the
-- same sides, relates the first and the alias.
use Rattle.std.proofs.Common.{◌≡◌, ℕ, sym, ap, ◌∙◌, subst, List, [], ◌∷◌, Some}
use Rattle.term_enums.specs.declared.Variance.{Variance}
use Rattle.relation_terms.specs.Heads.{type_sort, type_var, variable}
use Rattle.relation_terms.specs.Trees.{Tree, leaf, Assign, apply, IsTerm}
use Rattle.relation_semantics.specs.Relation.{Items, Interpretation, at, Rel}
use Rattle.relation_semantics.specs.Stores.{Store, entry_term, InContext, Satisfies}
use Rattle.relation_semantics.specs.Goals.{Goal, goal_of}
use Rattle.relation_semantics.specs.Steps.{Instantiates, HasExtension}
use Rattle.relation_semantics.specs.Outcomes.{Outcome}
use Rattle.relation_semantics.specs.AliasGoals.{alias_at}
use Rattle.relation_semantics.proofs.AliasOutcomes.{alias_goals_relate}
use Rattle.relation_semantics.proofs.Standing.{later_context, term_context}
use Rattle.relation_semantics.proofs.Values.{same_value}

module _ (c : Items) (e : Tree) (u v : Variance) (before after : Store) (earlier : List Goal) (n m : ℕ) (b : Tree)
    (ib : InContext before b) (tb : IsTerm type_sort b)
    (f : Instantiates before after u type_var n b (leaf (variable type_var m))) where
  abbrev x : Tree
  x = leaf (variable type_var n)

  abbrev y : Tree
  y = leaf (variable type_var m)

  now_in : InContext after b
  now_in = later_context before after (f.later).grows b ib

  y_in : InContext after y
  y_in = term_context after y f.term_in

  same_var : (w : Interpretation) (s : Assign) → Satisfies w after s → apply s x ≡ apply s y
  same_var w s sat = sat.bindings type_var n y (ap (entry_term type_var) f.now_bound)

  -- Each earlier assignment that made the two one makes the new variable and the alias one.
  kept_one : (w : Interpretation) (s : Assign) → Satisfies w before s → apply s x ≡ apply s b →
      HasExtension before s (λ s'. Satisfies w after s' × (apply s' y ≡ apply s' b))
  kept_one w s sat one =
      let k = f.keeps w s sat one in
      let is = sym (same_var w k.0 k.2) ∙ sym (k.1 type_var n f.made) ∙ one ∙ same_value before s k.0 b k.1 ib in
      (k.0, k.1, (k.2, is))

  module _ (p : Tree) where
    pub bound_left : alias_at v y b ≡ Some p → Outcome c e (at v) before after earlier (goal_of e p ∷ []) x b
    bound_left q =
        let o = alias_goals_relate c e v after earlier y b p y_in now_in tt tb q in
        record {
          later = f.later;
          goals_in = o.goals_in;
          relates = λ w s sat h.
              subst (λ z. Rel c w e (at v) z (apply s b)) (sym (same_var w s sat)) (o.relates w s sat h);
          keeps = λ w s sat one.
              let k = kept_one w s sat one in
              let l = o.keeps w k.0 k.2.0 k.2.1 in
              (l.0, (λ j i made. k.1 j i made ∙ l.1 j i ((f.later).grows j i made)), l.2);
        }

    pub bound_right : alias_at v b y ≡ Some p → Outcome c e (at v) before after earlier (goal_of e p ∷ []) b x
    bound_right q =
        let o = alias_goals_relate c e v after earlier b y p now_in y_in tb tt q in
        record {
          later = f.later;
          goals_in = o.goals_in;
          relates = λ w s sat h.
              subst (λ z. Rel c w e (at v) (apply s b) z) (sym (same_var w s sat)) (o.relates w s sat h);
          keeps = λ w s sat one.
              let k = kept_one w s sat (sym one) in
              let l = o.keeps w k.0 k.2.0 (sym k.2.1) in
              (l.0, (λ j i made. k.1 j i made ∙ l.1 j i ((f.later).grows j i made)), l.2);
        }
