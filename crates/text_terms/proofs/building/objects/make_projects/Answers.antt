use Rattle.std.proofs.Common.{Some, sym, ap, ap₂, ◌∙◌, subst, IsTrue}
use Rattle.relation_terms.specs.Heads.{existential_projection}
use Rattle.relation_terms.specs.Trees.{node, cons, known}
use Rattle.relation_terms.specs.Meaning.{under, arg_tree, term_tree}
use Rattle.relation_terms.proofs.Stays.{extends_on, stays_arg}
use Rattle.text_terms.proofs.BuildingLemmas.{both_true, inner_as, kinds_stay, term_is}
use Rattle.text_terms.proofs.building.objects.make_projects.Goals as goal

pub make_under-requires : goal.make_under-requires
make_under-requires g c =
    let p = g.I.Interner.meaning c.mk_args.new.self in
    let same = term_is p c.in_ok-term.term ∙ (ap (arg_tree p) (sym c.in_ok-term.ensures)
    ∙ stays_arg c.mk_args.ensures.grown c.args.key c.requires.key) in
    both_true (known (term_tree p c.in_ok-term.term)) (known (p.args c.in-Ok.args))
    (subst (λ t. IsTrue (known t)) (sym same) c.requires.key) c.in-Ok.ensures.sure

pub returns-clause-grown : goal.returns-clause-grown
returns-clause-grown g c = extends_on c.mk_args.ensures.grown c.make_under.ensures.grown

pub returns-clause-made : goal.returns-clause-made
returns-clause-made g c =
    let p = g.I.Interner.meaning c.mk_args.new.self in
    let e = c.mk_args.ensures.grown in
    let same = term_is p c.in_ok-term.term ∙ (ap (arg_tree p) (sym c.in_ok-term.ensures)
    ∙ stays_arg e c.args.key c.requires.key) in
    inner_as (g.I.Interner.meaning c.make_under.new.cx) _ _ c.make_under.result
    (ap₂ (λ ks t. under (Some ks) t) (kinds_stay e c.args.variables.now)
    (ap₂ (λ d ts. node (existential_projection d) ts) (e.id c.args.id) (ap₂ cons same c.in-Ok.ensures.made)))
    c.make_under.ensures.made
