use Rattle.std.proofs.Common.{◌∙◌, ◌++◌, ◌∷◌, [], sym, ap, subst, arith, IfOk}
use Rattle.std.specs.List.{All}
use Rattle.relation_terms.specs.Meaning.{Extends}
use Rattle.relation_terms.proofs.Stays.{extends_on}
use Rattle.relation_elaboration.specs.Pulling.{BeginsClosure}
use Rattle.relation_elaboration.specs.Finding.{TraitsByClosure}
use Rattle.text_elaboration.specs.Pulls.{KnowsPulled, FindsUpTo, AnswersSupertraits, WentOn}
use Rattle.relation_terms.proofs.Members.{if_ok}
use Rattle.relation_folds.proofs.Folding.{if_ok_both}
use Rattle.text_elaboration.proofs.SupertraitLemmas.{supertraits_closed, none_allowed, supertraits_answer}
use Rattle.text_elaboration.proofs.pulls.supertraits_of.Goals as goal

-- The reference that is given back is the one that was lent, so the interner is what is behind it.
pub returns-clause-grown : goal.returns-clause-grown
returns-clause-grown g c =
    let m = g.I.Interner.meaning c.args.cx.now in
    let t = c.extend_deduped.new.self in
    let u = c.pull_traits-all.new.traits in
    let back = c.cx-1.given.1 (sym (c.into_cx.ensures.same_reference ∙ ap (λ z. z.reference) c.into_base.ensures
    ∙ c.pull_traits-all.ensures.same_reference ∙ ap (λ z. z.reference) c.new-traits.ensures
    ∙ c.extend_deduped.ensures.keeps.reference ∙ ap (λ z. z.reference) c.filter_only_self-elaborator.ensures
    ∙ c.new.ensures.same_reference)) ∙ c.into_cx.ensures.value ∙ ap (λ z. z.cx) c.into_base.ensures in
    let first = subst (λ z. Extends (g.I.Interner.meaning z) (g.I.Interner.meaning t.cx))
    (ap (λ z. z.cx) c.filter_only_self-elaborator.ensures ∙ c.new.ensures.same) c.extend_deduped.ensures.keeps.grown in
    let second = subst (λ z. Extends (g.I.Interner.meaning z) (g.I.Interner.meaning u.cx))
    (ap (λ z. z.cx) c.new-traits.ensures) c.pull_traits-all.ensures.grown in
    subst (λ z. Extends m (g.I.Interner.meaning z)) (sym back)
    (extends_on c.in_ok-clause.ensures.grown (extends_on first second))

pub returns-clause-sure : goal.returns-clause-sure
returns-clause-sure g c =
    let back = c.cx-1.given.1 (sym (c.into_cx.ensures.same_reference ∙ ap (λ z. z.reference) c.into_base.ensures
    ∙ c.pull_traits-all.ensures.same_reference ∙ ap (λ z. z.reference) c.new-traits.ensures
    ∙ c.extend_deduped.ensures.keeps.reference ∙ ap (λ z. z.reference) c.filter_only_self-elaborator.ensures
    ∙ c.new.ensures.same_reference)) ∙ c.into_cx.ensures.value ∙ ap (λ z. z.cx) c.into_base.ensures in
    subst (λ z. IfOk c.pull_traits-all.result (λ all. All (KnowsPulled (g.I.Interner.meaning z)) all.items)) (sym back)
    c.pull_traits-all.ensures.sure

pub returns-clause-answers : goal.returns-clause-answers
returns-clause-answers g c =
    let meaning = g.I.Interner.meaning in
    let m = meaning c.args.cx.now in
    let first = c.clause_of_trait_ref.new.cx in
    let k = c.in_ok-clause.clause in
    let given = c.push.new.self.items in
    let these = c.in_ok-push.ensures.items ∙ ap (λ z. z ++ k ∷ []) c.new-clauses.ensures.items in
    let z = c.new.result in
    let s = c.filter_only_self-elaborator.result in
    let t = c.extend_deduped.new.self in
    let u = c.pull_traits-all.new.traits in
    let limit = c.args.limit in
    let r = c.extend_deduped.result in
    let new = c.new.ensures in
    let took = c.extend_deduped.ensures in
    let set = c.filter_only_self-elaborator.ensures in
    let closed = if_ok {P = λ a. BeginsClosure meaning (λ n x. n.clause x) given s t}
    {Q = λ a. TraitsByClosure meaning m c.args.of t} r
    (λ a begins. supertraits_closed meaning first (g.met.I.Interner.states c.args.cx.now) c.in_ok-clause.ensures.grown
    c.args.of k c.in_ok-clause.ensures.made given z s t these new.same new.stack new.visited new.mode set took.keeps
    begins) took.closure in
    let back = c.cx-1.given.1 (sym (c.into_cx.ensures.same_reference ∙ ap (λ z. z.reference) c.into_base.ensures
    ∙ c.pull_traits-all.ensures.same_reference ∙ ap (λ z. z.reference) c.new-traits.ensures
    ∙ c.extend_deduped.ensures.keeps.reference ∙ ap (λ z. z.reference) c.filter_only_self-elaborator.ensures
    ∙ c.new.ensures.same_reference)) ∙ c.into_cx.ensures.value ∙ ap (λ z. z.cx) c.into_base.ensures in
    let count = c.saturating_add.result in
    let both = c.pull_traits-all.ensures in
    let most = c.saturating_add.ensures in
    subst (λ n. IfOk c.pull_traits-all.result (λ all. AnswersSupertraits m (meaning n) c.args.of limit all.items))
    (sym back)
    (if_ok_both {P = λ all. FindsUpTo meaning c.new-traits.result all.items u} {Q = λ all. WentOn count all.items}
    {R = λ all. AnswersSupertraits m (meaning u.cx) c.args.of limit all.items} c.pull_traits-all.result
    (λ all finds went. supertraits_answer meaning m c.args.of limit count r all.items t u took.fault closed
    (took.keeps.limit ∙ ap (λ y. y.limit) set ∙ new.limit)
    (λ full. none_allowed meaning first k given z s limit these new.same new.visited new.limit new.fault set
    (took.limit full)) (subst (λ y. FindsUpTo meaning y all.items u) c.new-traits.ensures finds) went
    (omega (arith, most)) (omega (arith, most))) both.finds both.went_on)
