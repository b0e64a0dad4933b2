use Rattle.std.proofs.Common.{◌∙◌, ap, sym, subst, IsTrue, Some}
use Rattle.relation_terms.specs.Trees.{known}
use Rattle.relation_terms.specs.Meaning.{arg_tree, under}
use Rattle.relation_statements.specs.Statements.{outlives_tree}
use Rattle.relation_statements.proofs.Making.{region_shape, ty_shape}
use Rattle.relation_statements.proofs.clauses.outlives_clause.Goals as goal

pub returns-in_ok-mk_clause-in-Lifetime-clause-made : goal.returns-in_ok-mk_clause-in-Lifetime-clause-made
returns-in_ok-mk_clause-in-Lifetime-clause-made g c =
    let m = g.I.Interner.meaning c.args.cx.now in
    ap (λ z. Some z) (c.in_ok-mk_clause-in-Lifetime.ensures.made
    ∙ ap (under (m.bound_vars c.args.bound_vars)) (region_shape m (g.met.I.Interner.sorted c.args.cx.now)
    c.in-Lifetime.part c.args.region
    (subst (λ a. IsTrue (known (arg_tree m a))) c.in-Lifetime.is c.requires.arg)))
    ∙ ap (outlives_tree m c.args.bound_vars c.args.region) (sym c.in-Lifetime.is)

pub returns-in_ok-mk_clause-in-Ty-clause-made : goal.returns-in_ok-mk_clause-in-Ty-clause-made
returns-in_ok-mk_clause-in-Ty-clause-made g c =
    let m = g.I.Interner.meaning c.args.cx.now in
    ap (λ z. Some z) (c.in_ok-mk_clause-in-Ty.ensures.made
    ∙ ap (under (m.bound_vars c.args.bound_vars)) (ty_shape m (g.met.I.Interner.sorted c.args.cx.now)
    c.in-Ty.part c.args.region
    (subst (λ a. IsTrue (known (arg_tree m a))) c.in-Ty.is c.requires.arg)))
    ∙ ap (outlives_tree m c.args.bound_vars c.args.region) (sym c.in-Ty.is)
