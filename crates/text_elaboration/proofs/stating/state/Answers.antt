use Rattle.std.proofs.Common.{◌∙◌, sym, ap, ap₂, map, subst, IsTrue}
use Rattle.std.specs.Prelude.{slice_range}
use Rattle.std.specs.List.{All}
use Rattle.relation_terms.specs.Trees.{known}
use Rattle.relation_terms.proofs.Members.{if_ok}
use Rattle.reference_interner.specs.Adding.{meaning_in}
use Rattle.text_clauses.specs.Clauses.{clause_tree, bound_clause_tree}
use Rattle.text_elaboration.specs.Stating.{terms_said, BoundsAt}
use Rattle.text_elaboration.proofs.SaidLemmas.{number_at, const_said_of, clauses_said_of}
use Rattle.text_elaboration.proofs.stating.state.Goals as goal

pub returns-then-is_const-clause-stated : goal.returns-then-is_const-clause-stated
returns-then-is_const-clause-stated c =
    let x = c.args.cx.now in
    let y = c.state_bounds.new.cx in
    let m = meaning_in x in
    let items = map m.id c.args.ids.now in
    let names = map m.name c.args.names.now in
    let p = c.args.program.now in
    let s = c.args.stated.now in
    let ts = terms_said items names p in
    let cs = c.in-Some-said_at.said.now in
    if_ok c.state_bounds.result (λ own h t b d g.
    const_said_of x y c.in-Some.id.0 items names p s cs
    (c.in-Some-said_at.ensures ∙ ap (λ zs. slice_range zs s.clauses.first s.clauses.behind) c.deref.ensures.value)
    (number_at x c.args.ids.now s.of c.in-Some.id c.in-Some.ensures) (sym c.is_const.ensures ∙ c.if-is_const.true) d
    (subst (λ ns. BoundsAt x y c.in-Some.id.0 (bound_clause_tree items ns ts) cs d) c.deref-then-is_const.ensures.value
    (h t ts b d g))) c.state_bounds.ensures.stated

pub returns-clause-stated : goal.returns-clause-stated
returns-clause-stated c =
    let x = c.args.cx.now in
    let z = c.build_clauses.new.cx in
    let y = c.state_predicates.new.cx in
    let m = meaning_in x in
    let n = meaning_in z in
    let items = map m.id c.args.ids.now in
    let names = map m.name c.args.names.now in
    let p = c.args.program.now in
    let s = c.args.stated.now in
    let ts = terms_said items names p in
    if_ok c.state_predicates.result (λ own h t b d g.
    clauses_said_of x z y c.in-Some.id.0 items names p s c.deref-4.result.now c.is_super-supers.result
    c.implies-implied.result c.build_clauses.ensures.grown c.state_predicates.ensures.terms (h t)
    (subst (All (λ k. IsTrue (known (n.clause k)))) (sym c.deref-4.ensures.value) c.in-Some-build_clauses.ensures.sure)
    (ap (map n.clause) c.deref-4.ensures.value ∙ (c.in-Some-build_clauses.ensures.made ts b
    ∙ ap₂ (λ ns cs. map (clause_tree items names ns ts) (slice_range cs s.clauses.first s.clauses.behind))
    c.deref-2.ensures.value c.deref-3.ensures.value))
    (number_at x c.args.ids.now s.of c.in-Some.id c.in-Some.ensures) c.is_super-supers.ensures c.implies-implied.ensures
    (sym c.is_const.ensures ∙ c.if-is_const.false) d g) c.state_predicates.ensures.puts
