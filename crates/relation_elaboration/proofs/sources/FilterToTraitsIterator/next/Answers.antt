use Rattle.std.proofs.Common.{◌≡◌, ◌∙◌, sym, subst, ap, IsTrue, Some, None}
use Rattle.std.specs.Iterator.{MakesProgress}
use Rattle.std.specs.Option.{option_map}
use Rattle.relation_terms.specs.Trees.{known}
use Rattle.relation_terms.specs.Owned.{bound_tree}
use Rattle.relation_statements.specs.TraitClauses.{reference_of}
use Rattle.relation_elaboration.proofs.Passing.{passed_one, found_one}
use Rattle.relation_elaboration.proofs.sources.FilterToTraitsIterator.next.Goals as goal

pub loop-next-preserved : goal.loop-next-preserved
loop-next-preserved g c =
    let s = g.It.Iterator in
    let u = c.next.new.self in
    let old = c.loop-next.self-inside.base_iterator in
    let x = c.in-Ok.clause in
    let none : None ≡ reference_of ((g.I.Interner.meaning c.cx.result.now).clause x) =
    sym (ap (option_map (bound_tree (g.I.Interner.meaning c.cx.result.now))) c.in_default-trait_reference.is)
    ∙ c.trait_reference.ensures.is in
    passed_one g.I.Interner.meaning g.It.ClauseSource.interner s.next_gives s.can_next s.remaining c.args.self.now old
    u x c.loop-next.invariant
    (subst (λ z. s.next_gives old (Some z) u) c.in-Ok.is c.in-Some.ensures.steps)
    (subst (λ z. MakesProgress s.can_next s.remaining old (Some z) u) c.in-Ok.is c.in-Some.ensures.goes)
    (subst (λ z. reference_of ((g.I.Interner.meaning z).clause x) ≡ None) c.cx.ensures (sym none))

pub returns-in-Some-trait_reference-clause-steps : goal.returns-in-Some-trait_reference-clause-steps
returns-in-Some-trait_reference-clause-steps g c =
    let s = g.It.Iterator in
    let u = c.next.new.self in
    let old = c.loop-next.self-inside.base_iterator in
    let x = c.in-Ok.clause in
    let b = c.in-Some-trait_reference.trait_ref in
    let n = g.I.Interner.meaning c.cx.result.now in
    let is : Some (bound_tree n b) ≡ reference_of (n.clause x) =
    sym (ap (option_map (bound_tree n)) c.in-Some-trait_reference.is) ∙ c.trait_reference.ensures.is in
    let sure : IsTrue (known (bound_tree n b)) = c.in-Some-trait_reference.ensures.sure in
    found_one g.I.Interner.meaning g.It.ClauseSource.interner s.next_gives s.can_next s.remaining c.args.self.now old u
    x c.loop-next.invariant (subst (λ z. s.next_gives old (Some z) u) c.in-Ok.is c.in-Some.ensures.steps) b
    (subst (λ z. Some (bound_tree (g.I.Interner.meaning z) b) ≡ reference_of ((g.I.Interner.meaning z).clause x))
    c.cx.ensures is)
    (subst (λ z. IsTrue (known (bound_tree (g.I.Interner.meaning z) b))) c.cx.ensures sure)
