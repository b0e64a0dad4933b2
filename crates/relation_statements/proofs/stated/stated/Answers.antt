use Rattle.std.proofs.Common.{◌∙◌, ap, sym, map}
use Rattle.relation_statements.specs.Statements.{statements, listed}
use Rattle.relation_statements.proofs.Making.{map_twice}
use Rattle.relation_statements.proofs.stated.stated.Goals as goal

pub returns-then-only_self : goal.returns-then-only_self
returns-then-only_self g c =
    let m = g.I.Interner.meaning c.args.cx.now in
    map_twice m.clause (λ p. p.0) c.explicit_super_predicates_of.result.now
    ∙ ap (map m.clause) c.explicit_super_predicates_of.ensures
    ∙ ap (λ b. listed b (statements m) (m.id (c.args.trait_id.now).0)) (sym c.if-only_self.true)

pub returns-else-only_self : goal.returns-else-only_self
returns-else-only_self g c =
    let m = g.I.Interner.meaning c.args.cx.now in
    map_twice m.clause (λ p. p.0) c.explicit_implied_predicates_of.result.now
    ∙ ap (map m.clause) c.explicit_implied_predicates_of.ensures
    ∙ ap (λ b. listed b (statements m) (m.id (c.args.trait_id.now).0)) (sym c.if-only_self.false)
