-- Both regions are the context's, and no variables.
use Rattle.std.proofs.Common.{sym, subst, ◌∙◌}
use Rattle.relation_terms.specs.Interning.{Sorted}
use Rattle.relation_regions.proofs.FactLemmas.{fact_in, longer_other, shorter_other, so}
use Rattle.relation_combining.proofs.NumberVars.{not_true}
use Rattle.relation_regions.proofs.facts.is_fact.Goals as goal

pub returns-then-cannot_be_given-clause-is_not : goal.returns-then-cannot_be_given-clause-is_not
returns-then-cannot_be_given-clause-is_not g c = λ f h.
    longer_other (g.C.InferCtxtLike.state c.args.ctx.now) c.args.fact.now
    (sym c.cannot_be_given.ensures ∙ c.if-cannot_be_given.true) h

pub returns-clause-is : goal.returns-clause-is
returns-clause-is g c = λ t.
    let m = g.C.InferCtxtLike.state c.args.ctx.now in
    let sorted : Sorted m.meaning = subst (λ n. Sorted n) (sym (g.met.C.InferCtxtLike.reads c.args.ctx.now))
    (g.met.C.Interner.Interner.sorted (g.C.InferCtxtLike.interner c.args.ctx.now)) in
    fact_in m c.args.fact.now sorted c.requires.longer_known c.requires.shorter_known
    (sym c.cannot_be_given.ensures ∙ c.if-cannot_be_given.false)
    (sym c.cannot_be_given-2.ensures ∙ not_true c.cannot_be_given-2.result t)

pub returns-clause-is_not : goal.returns-clause-is_not
returns-clause-is_not g c = λ f h.
    shorter_other (g.C.InferCtxtLike.state c.args.ctx.now) c.args.fact.now
    (sym c.cannot_be_given-2.ensures ∙ so c.cannot_be_given-2.result f) h
