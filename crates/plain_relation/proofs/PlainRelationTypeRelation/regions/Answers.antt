use Rattle.std.proofs.Common.{refl, sym, ap, ◌∙◌, ◌∷◌, [], ◌++◌, map}
use Rattle.std.proofs.lemmas.List.{map-append}
use Rattle.relation_semantics.specs.Constraints.{constraint_of, asked_constraints}
use Rattle.relation_folds.specs.declared.error.RelateFault.TheVariants.{Memory}
use Rattle.relation_semantics.proofs.Passing.{as_err}
use Rattle.plain_relation.proofs.PlainLemmas.{regions_related, not_recorded}
use Rattle.plain_relation.proofs.PlainRelationTypeRelation.regions.Goals as goal

pub returns-in_err-push-clause-related : goal.returns-in_err-push-clause-related
returns-in_err-push-clause-related g c =
    let m = g.I.Interner.meaning c.args.self.now.interner in
    not_recorded m c.args.self.now.ambient c.args.self.now.ambient c.args.self.now.constraints.items
    (m.region c.args.a.now) (m.region c.args.b.now) m.region c.push.new.self.items c.from_residual.result
    c.in_err-push.ensures.items
    (as_err c.from_residual.result Memory c.from_residual.ensures.0 c.from_residual.ensures.1)

pub returns-clause-related : goal.returns-clause-related
returns-clause-related g c =
    let m = g.I.Interner.meaning c.args.self.now.interner in
    let is = (g.met.I.Interner.sorted c.args.self.now.interner).region in
    let k = c.requires.asked in
    regions_related m c.args.self.now.ambient c.args.self.now.constraints.items c.in-Some.constraint c.args.a.now
    c.args.b.now c.constraint.result (sym c.constraint.ensures) c.in-Some.is
    (is c.args.a.now k.left_known, k.left_in) (is c.args.b.now k.right_known, k.right_in)
    c.push.new.self.items c.args.a.now c.in_ok-push.ensures.items refl k.left_known

pub returns-clause-recorded : goal.returns-clause-recorded
returns-clause-recorded g c = λ p.
    let m = g.I.Interner.meaning c.args.self.now.interner in
    let cs = c.args.self.now.constraints.items in
    let is = sym c.constraint.ensures ∙ c.in-Some.is in
    ap (map (constraint_of m)) c.in_ok-push.ensures.items
    ∙ map-append (constraint_of m) cs (c.in-Some.constraint ∷ [])
    ∙ ap (λ o. map (constraint_of m) cs ++ asked_constraints m o) (sym is)
