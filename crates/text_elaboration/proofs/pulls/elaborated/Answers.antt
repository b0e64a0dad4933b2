use Rattle.std.proofs.Common.{◌∙◌, sym, ap, subst, IfOk}
use Rattle.std.specs.List.{All}
use Rattle.relation_terms.specs.Meaning.{Extends}
use Rattle.relation_terms.proofs.Stays.{extends_on}
use Rattle.text_elaboration.specs.Pulls.{KnowsPulled, AnswersBegun, Elaborates}
use Rattle.relation_terms.proofs.Members.{if_ok}
use Rattle.text_elaboration.proofs.PullLemmas.{both_modes, elaborates}
use Rattle.text_elaboration.proofs.pulls.elaborated.Goals as goal

-- The reference that is given back is the one that was lent, so the interner is what is behind it.
pub returns-clause-grown : goal.returns-clause-grown
returns-clause-grown g c =
    let m = g.I.Interner.meaning c.args.cx.now in
    let t = c.extend_deduped-begun.new.self in
    let u = c.pull_begun-all.new.elaborator in
    let back = c.cx-1.given.1 (sym (c.into_cx.ensures.same_reference ∙ c.pull_begun-all.ensures.same_reference
    ∙ ap (λ z. z.reference) c.with_sized-elaborator.ensures ∙ ap (λ z. z.reference) c.with_self-elaborator.ensures
    ∙ c.extend_deduped-begun.ensures.keeps.reference ∙ c.new-elaborator.ensures.same_reference))
    ∙ c.into_cx.ensures.value in
    let first = subst (λ z. Extends (g.I.Interner.meaning z) (g.I.Interner.meaning t.cx)) c.new-elaborator.ensures.same
    c.extend_deduped-begun.ensures.keeps.grown in
    let second = subst (λ z. Extends (g.I.Interner.meaning z) (g.I.Interner.meaning u.cx))
    (ap (λ z. z.cx) c.with_sized-elaborator.ensures ∙ ap (λ z. z.cx) c.with_self-elaborator.ensures)
    c.pull_begun-all.ensures.grown in
    subst (λ z. Extends m (g.I.Interner.meaning z)) (sym back) (extends_on first second)

pub returns-clause-sure : goal.returns-clause-sure
returns-clause-sure g c =
    let back = c.cx-1.given.1 (sym (c.into_cx.ensures.same_reference ∙ c.pull_begun-all.ensures.same_reference
    ∙ ap (λ z. z.reference) c.with_sized-elaborator.ensures ∙ ap (λ z. z.reference) c.with_self-elaborator.ensures
    ∙ c.extend_deduped-begun.ensures.keeps.reference ∙ c.new-elaborator.ensures.same_reference))
    ∙ c.into_cx.ensures.value in
    subst (λ z. IfOk c.pull_begun-all.result (λ all. All (KnowsPulled (g.I.Interner.meaning z)) all.items)) (sym back)
    c.pull_begun-all.ensures.sure

pub returns-clause-answers : goal.returns-clause-answers
returns-clause-answers g c =
    let first = c.args.cx.now in
    let given = c.args.clauses.items in
    let manner = c.args.manner.now in
    let r = c.extend_deduped-begun.result in
    let s = c.new-elaborator.result in
    let t = c.extend_deduped-begun.new.self in
    let w = c.with_sized-elaborator.result in
    let u = c.pull_begun-all.new.elaborator in
    let new = c.new-elaborator.ensures in
    let took = c.extend_deduped-begun.ensures in
    if_ok {P = λ all. AnswersBegun g.I.Interner.meaning r w all.items u}
    {Q = λ all. Elaborates g.I.Interner.meaning first given manner all.items} c.pull_begun-all.result
    (λ all goes. elaborates g.I.Interner.meaning first given manner r s t w u all.items new.same new.stack new.visited
    (new.limit ∙ c.limit.ensures) new.mode new.fault took.keeps took.fault took.takes took.limit
    (both_modes g.I.Interner.meaning t c.with_self-elaborator.result w manner.only_self manner.sized
    c.with_self-elaborator.ensures c.with_sized-elaborator.ensures)
    goes) c.pull_begun-all.ensures.answers
