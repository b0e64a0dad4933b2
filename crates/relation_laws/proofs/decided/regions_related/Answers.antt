use Rattle.std.proofs.Common.{◌≡◌, ◌↔◌, sym, subst, true}
use Rattle.relation_terms.specs.Trees.{leaf}
use Rattle.relation_semantics.specs.Relation.{RegionRule}
use Rattle.relation_laws.specs.Decided.{leaf_of}
use Rattle.relation_laws.proofs.Deciding.{iff_through, iff_both, iff_either, iff_itself, outlives_iff}
use Rattle.relation_laws.proofs.decided.regions_related.Goals as goal

pub returns-in-Covariant : goal.returns-in-Covariant
returns-in-Covariant c w e = subst (λ z. c.either-forth.result ≡ true ↔ RegionRule w z (leaf (leaf_of c.args.a)) (leaf (leaf_of c.args.b))) (sym c.in-Covariant.is)
    (iff_through c.either-forth.ensures (iff_through (iff_either iff_itself c.leads.ensures) (outlives_iff w c.args.all c.args.pairs.now _ _ e)))

pub returns-in-Contravariant : goal.returns-in-Contravariant
returns-in-Contravariant c w e = subst (λ z. c.either-back.result ≡ true ↔ RegionRule w z (leaf (leaf_of c.args.a)) (leaf (leaf_of c.args.b))) (sym c.in-Contravariant.is)
    (iff_through c.either-back.ensures (iff_through (iff_either iff_itself c.leads-2.ensures) (outlives_iff w c.args.all c.args.pairs.now _ _ e)))

pub returns-in-Invariant : goal.returns-in-Invariant
returns-in-Invariant c w e = subst (λ z. c.both.result ≡ true ↔ RegionRule w z (leaf (leaf_of c.args.a)) (leaf (leaf_of c.args.b))) (sym c.in-Invariant.is)
    (iff_through c.both.ensures (iff_both
    (iff_through c.either-forth.ensures (iff_through (iff_either iff_itself c.leads.ensures) (outlives_iff w c.args.all c.args.pairs.now _ _ e)))
    (iff_through c.either-back.ensures (iff_through (iff_either iff_itself c.leads-2.ensures) (outlives_iff w c.args.all c.args.pairs.now _ _ e)))))
