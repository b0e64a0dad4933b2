use Rattle.std.proofs.Common.{Some, sym, ap, ap₂, ◌∙◌, map}
use Rattle.relation_terms.specs.Meaning.{under, bound_kinds}
use Rattle.relation_terms.specs.Predicates.{clause_kind_tree}
use Rattle.relation_terms.proofs.Stays.{extends_on}
use Rattle.text_terms.proofs.BuildingLemmas.{made_from, kinds_stay}
use Rattle.text_clauses.specs.Clauses.{clause_tree}
use Rattle.text_clauses.proofs.ClauseLemmas.{one_known_made}
use Rattle.text_clauses.proofs.building.build_clause.Goals as goal

pub make_clause-requires : goal.make_clause-requires
make_clause-requires g c = c.in_ok-value.ensures.made.0

pub returns-clause-grown : goal.returns-clause-grown
returns-clause-grown g c = extends_on c.make_kind.ensures.grown c.make_clause.ensures.grown

pub returns-clause-sure : goal.returns-clause-sure
returns-clause-sure g c =
    one_known_made (g.I.Interner.meaning c.make_clause.new.cx) _ c.make_clause.result c.make_clause.ensures.made

pub returns-clause-made : goal.returns-clause-made
returns-clause-made g c =
    let m = g.I.Interner.meaning c.args.cx.now in
    let p = g.I.Interner.meaning c.make_kind.new.cx in
    let n = g.I.Interner.meaning c.make_clause.new.cx in
    let variables = c.in_ok-variables.variables.items in
    let items = map m.id c.args.ids.now in
    let texts = map m.name c.args.names.now in
    made_from m c.args.built.now (λ ts. clause_tree items texts c.args.numbers.now ts c.args.clause.now) n.clause
    (under (Some (bound_kinds p c.deref.result.now)) (clause_kind_tree p c.in_ok-value.value)) c.make_clause.result
    c.make_clause.ensures.made
    (λ trees b. ap₂ under
    (ap (λ vs. Some (bound_kinds p vs)) c.deref.ensures.value
    ∙ (ap (λ ks. Some ks) (kinds_stay c.make_kind.ensures.grown variables) ∙ sym (c.in_ok-variables.ensures trees b)))
    (c.in_ok-value.ensures.made.1 trees b))
