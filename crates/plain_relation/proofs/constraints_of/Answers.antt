use Rattle.std.proofs.Common.{ap, subst₂}
use Rattle.relation_terms.specs.Heads.{environment}
use Rattle.relation_terms.specs.Trees.{node, nil}
use Rattle.relation_semantics.specs.Relation.{Rel, at}
use Rattle.relation_semantics.specs.Lawful.{items_of}
use Rattle.plain_relation.proofs.PlainLemmas.{related_under}
use Rattle.plain_relation.proofs.constraints_of.Goals as goal

pub returns : goal.returns
returns g c = λ w all.
    subst₂ (λ m v. Rel (items_of m) w (node environment nil) (at v) (m.ty c.args.a.now)
    (m.ty c.args.b.now))
    (ap g.I.Interner.meaning c.new-r.ensures.interner) c.new-r.ensures.ambient
    (related_under _ _ c.new-r.result.ambient c.tys.new.r.ambient c.new-r.result.constraints.items
    c.tys.new.r.constraints.items _ _ _ _ c.in_ok-tys.ensures.related w all)
