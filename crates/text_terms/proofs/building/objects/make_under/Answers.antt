use Rattle.std.proofs.Common.{sym, ap₂, subst, IsTrue}
use Rattle.relation_terms.specs.Trees.{known}
use Rattle.relation_terms.specs.Meaning.{under}
use Rattle.relation_terms.proofs.Stays.{stays_existential}
use Rattle.text_terms.proofs.building.objects.make_under.Goals as goal

pub returns-clause-made : goal.returns-clause-made
returns-clause-made g c =
    let m = g.I.Interner.meaning c.args.cx.now in
    let e = ap₂ under c.in-Ok.ensures.made (stays_existential c.mk_bound_vars.ensures.grown c.args.value c.requires) in
    (subst (λ t. IsTrue (known t)) (sym e) c.requires, e)
