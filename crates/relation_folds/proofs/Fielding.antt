-- Visits and folds of predicates, by their parts.
use Rattle.std.proofs.Common.{ℕ, ◌≡◌, ◌≢◌, refl, sym, ap, ap₂, ◌∙◌, Option, IsTrue, false, subst, subst₂}
use Rattle.std.specs.declared.ops.ControlFlow.TheVariants.{Continue, Break}
use Rattle.relation_terms.specs.Heads.{no_sort}
use Rattle.relation_terms.specs.Trees.{Tree, nil, cons, known}
use Rattle.relation_terms.specs.Meaning.{Meaning, Extends}
use Rattle.relation_terms.specs.Predicates.{predicate_kind_tree}
use Rattle.relation_terms.specs.Parts.{parts_of, over, tree_sort}
use Rattle.relation_terms.specs.Orders.{in_order, order_of, in_turn}
use Rattle.relation_terms.specs.Fields.{predicate_view, predicate_made, fields_tree, AlikeFields}
use Rattle.relation_terms.specs.declared.terms.parts.predicates.Fields.{Fields}
use Rattle.relation_terms.specs.declared.predicate.kinds.ClauseKind.TheVariants.{Trait, RegionOutlives, TypeOutlives}
use Rattle.relation_terms.specs.declared.predicate.kinds.ClauseKind.TheVariants.{Projection, ConstArgHasType}
use Rattle.relation_terms.specs.declared.predicate.kinds.ClauseKind.TheVariants.{WellFormed, ConstEvaluatable}
use Rattle.relation_terms.specs.declared.predicate.kinds.ClauseKind.TheVariants.{HostEffect, UnstableFeature}
use Rattle.relation_terms.specs.declared.predicate.kinds.PredicateKind.{PredicateKind}
use Rattle.relation_terms.specs.declared.predicate.kinds.PredicateKind.TheVariants.{Clause, Subtype, Coerce}
use Rattle.relation_terms.specs.declared.predicate.kinds.PredicateKind.TheVariants.{NormalizesTo, AliasRelate, Ambiguous}
use Rattle.relation_terms.proofs.Fields.{predicate_viewed, predicate_remade}
use Rattle.relation_terms.proofs.Parts.{over_known}
use Rattle.relation_terms.proofs.Predicates.{stays_predicate_kind}
use Rattle.relation_terms.proofs.Stays.{knows_as}
use Rattle.relation_folds.specs.declared.visit.Visit.{Visit}
use Rattle.relation_folds.specs.declared.visit.Visit.TheVariants.{Enter}
use Rattle.relation_folds.specs.Visits.{is_visited, Flow, Walks, no_part, last_part, next_part}
use Rattle.relation_folds.specs.Folds.{folded}
use Rattle.relation_folds.proofs.Visiting.{when_entered}
use Rattle.relation_folds.proofs.Depths.{told_inside}

module _ {V : Type 0} (visits : V → ℕ → Tree → V → Visit → Type 0) (v w : V) where
  -- Over a list of one part.
  pub over_one : (t : Tree) (r : Flow) → Walks visits 0 v t w r → Walks visits 0 v (cons t nil) w r
  over_one t (Continue tt) p = next_part p no_part
  over_one t (Break tt) p = last_part p

  -- Over a form, where it goes over its parts in turn.
  over_form : (t us : Tree) (r : Flow) → (tree_sort t ≡ no_sort → ⊥) → is_visited t ≡ false → told_inside t 0 ≡ 0 →
      order_of t ≡ in_turn → us ≡ parts_of t → Walks visits 0 v us w r → Walks visits 0 v t w r
  over_form t us r n i d o e p =
      when_entered visits 0 false v v w t Enter r n i (refl, refl) refl
      (subst₂ (λ k x. Walks visits k v x w r) (sym d) (e ∙ ap (λ z. in_order z (parts_of t)) (sym o)) p)

  -- Over a predicate, where it goes over its parts.
  module _ {Key Id Name : Type 0} (m : Meaning Key Id Name) where
    plain : (p : PredicateKind Key Id Name) →
        ((tree_sort (predicate_kind_tree m p) ≡ no_sort → ⊥) × (is_visited (predicate_kind_tree m p) ≡ false)) ×
        ((told_inside (predicate_kind_tree m p) 0 ≡ 0) × (order_of (predicate_kind_tree m p) ≡ in_turn))
    plain (Clause (Trait q)) = ((λ e. cc, refl), (refl, refl))
    plain (Clause (RegionOutlives q)) = ((λ e. cc, refl), (refl, refl))
    plain (Clause (TypeOutlives q)) = ((λ e. cc, refl), (refl, refl))
    plain (Clause (Projection q)) = ((λ e. cc, refl), (refl, refl))
    plain (Clause (ConstArgHasType c t)) = ((λ e. cc, refl), (refl, refl))
    plain (Clause (WellFormed a)) = ((λ e. cc, refl), (refl, refl))
    plain (Clause (ConstEvaluatable c)) = ((λ e. cc, refl), (refl, refl))
    plain (Clause (HostEffect q)) = ((λ e. cc, refl), (refl, refl))
    plain (Clause (UnstableFeature s)) = ((λ e. cc, refl), (refl, refl))
    plain (Subtype q) = ((λ e. cc, refl), (refl, refl))
    plain (Coerce q) = ((λ e. cc, refl), (refl, refl))
    plain (NormalizesTo q) = ((λ e. cc, refl), (refl, refl))
    plain (AliasRelate a b d) = ((λ e. cc, refl), (refl, refl))
    plain Ambiguous = ((λ e. cc, refl), (refl, refl))

    pub over_predicate : (p : PredicateKind Key Id Name) (fs : Fields Key Id) (r : Flow) → fs ≡ predicate_view p →
        Walks visits 0 v (fields_tree m fs) w r → Walks visits 0 v (predicate_kind_tree m p) w r
    over_predicate p fs r e q =
        let o = plain p in
        over_form (predicate_kind_tree m p) (fields_tree m fs) r o.0.0 o.0.1 o.1.0 o.1.1
        (ap (fields_tree m) e ∙ predicate_viewed m p) q

module _ {Key Id Name : Type 0} (puts : ℕ → Tree → Option Tree) (m : Meaning Key Id Name) where
  -- A predicate over its folded parts, and over its own; the parts of a folded one.
  over_folded : (p : PredicateKind Key Id Name) → folded puts 0 (predicate_kind_tree m p) ≡
      over (predicate_kind_tree m p) (folded puts 0 (parts_of (predicate_kind_tree m p)))
  over_folded (Clause (Trait q)) = refl
  over_folded (Clause (RegionOutlives q)) = refl
  over_folded (Clause (TypeOutlives q)) = refl
  over_folded (Clause (Projection q)) = refl
  over_folded (Clause (ConstArgHasType c t)) = refl
  over_folded (Clause (WellFormed a)) = refl
  over_folded (Clause (ConstEvaluatable c)) = refl
  over_folded (Clause (HostEffect q)) = refl
  over_folded (Clause (UnstableFeature s)) = refl
  over_folded (Subtype q) = refl
  over_folded (Coerce q) = refl
  over_folded (NormalizesTo q) = refl
  over_folded (AliasRelate a b d) = refl
  over_folded Ambiguous = refl

  over_own : (p : PredicateKind Key Id Name) →
      over (predicate_kind_tree m p) (parts_of (predicate_kind_tree m p)) ≡ predicate_kind_tree m p
  over_own (Clause (Trait q)) = refl
  over_own (Clause (RegionOutlives q)) = refl
  over_own (Clause (TypeOutlives q)) = refl
  over_own (Clause (Projection q)) = refl
  over_own (Clause (ConstArgHasType c t)) = refl
  over_own (Clause (WellFormed a)) = refl
  over_own (Clause (ConstEvaluatable c)) = refl
  over_own (Clause (HostEffect q)) = refl
  over_own (Clause (UnstableFeature s)) = refl
  over_own (Subtype q) = refl
  over_own (Coerce q) = refl
  over_own (NormalizesTo q) = refl
  over_own (AliasRelate a b d) = refl
  over_own Ambiguous = refl

  parts_over : (p : PredicateKind Key Id Name) (us : Tree) → us ≡ folded puts 0 (parts_of (predicate_kind_tree m p)) →
      parts_of (over (predicate_kind_tree m p) us) ≡ us
  parts_over (Clause (Trait q)) us e = refl
  parts_over (Clause (RegionOutlives q)) us e = refl
  parts_over (Clause (TypeOutlives q)) us e = refl
  parts_over (Clause (Projection q)) us e = refl
  parts_over (Clause (ConstArgHasType c t)) us e = refl
  parts_over (Clause (WellFormed a)) us e = refl
  parts_over (Clause (ConstEvaluatable c)) us e = refl
  parts_over (Clause (HostEffect q)) us e = refl
  parts_over (Clause (UnstableFeature s)) us e = sym e
  parts_over (Subtype q) us e = refl
  parts_over (Coerce q) us e = refl
  parts_over (NormalizesTo q) us e = refl
  parts_over (AliasRelate a b d) us e = refl
  parts_over Ambiguous us e = sym e

  module _ (p : PredicateKind Key Id Name) (fs : Fields Key Id) (is : fs ≡ predicate_view p) where
    -- Where its parts are left as they are, so is it.
    pub predicate_left : folded puts 0 (fields_tree m fs) ≡ fields_tree m fs →
        folded puts 0 (predicate_kind_tree m p) ≡ predicate_kind_tree m p
    predicate_left h =
        let t = predicate_kind_tree m p in
        let seen : fields_tree m fs ≡ parts_of t = ap (fields_tree m) is ∙ predicate_viewed m p in
        over_folded p ∙ ap (over t) (ap (folded puts 0) (sym seen) ∙ h ∙ seen) ∙ over_own p

    -- Where its parts are changed, so is it.
    pub predicate_changed : folded puts 0 (fields_tree m fs) ≢ fields_tree m fs →
        folded puts 0 (predicate_kind_tree m p) ≢ predicate_kind_tree m p
    predicate_changed h e =
        let t = predicate_kind_tree m p in
        let seen : fields_tree m fs ≡ parts_of t = ap (fields_tree m) is ∙ predicate_viewed m p in
        let parts : folded puts 0 (parts_of t) ≡ parts_of t =
        sym (parts_over p (folded puts 0 (parts_of t)) refl) ∙ ap parts_of (sym (over_folded p) ∙ e) in
        h (ap (folded puts 0) seen ∙ parts ∙ sym seen)

    -- The form over the folded parts, in an interner that has grown.
    pub predicate_folded : {n : Meaning Key Id Name} → Extends m n → IsTrue (known (predicate_kind_tree m p)) →
        (gs : Fields Key Id) → AlikeFields fs gs → fields_tree n gs ≡ folded puts 0 (fields_tree m fs) →
        predicate_kind_tree n (predicate_made p gs) ≡ folded puts 0 (predicate_kind_tree m p)
    predicate_folded {n = n} e k gs a q =
        let t = predicate_kind_tree m p in
        predicate_remade n p gs (subst (λ x. AlikeFields x gs) is a)
        ∙ ap₂ over (stays_predicate_kind e p k) (q ∙ ap (folded puts 0) (ap (fields_tree m) is ∙ predicate_viewed m p))
        ∙ sym (over_folded p)

    -- It is known where they are.
    pub predicate_known : {n : Meaning Key Id Name} → Extends m n → IsTrue (known (predicate_kind_tree m p)) →
        (gs : Fields Key Id) → AlikeFields fs gs → IsTrue (known (fields_tree n gs)) →
        IsTrue (known (predicate_kind_tree n (predicate_made p gs)))
    predicate_known {n = n} e k gs a h =
        let stay = stays_predicate_kind e p k in
        over_known (predicate_kind_tree n p) (fields_tree n gs) (predicate_kind_tree n (predicate_made p gs))
        (predicate_remade n p gs (subst (λ x. AlikeFields x gs) is a))
        (knows_as (predicate_kind_tree m p) (predicate_kind_tree n p) stay k) h
