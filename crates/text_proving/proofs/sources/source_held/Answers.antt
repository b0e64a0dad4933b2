use Rattle.std.proofs.Common.{sym, subst}
use Rattle.std.specs.List.{All}
use Rattle.std.proofs.lemmas.List.{take_all}
use Rattle.std.proofs.lemmas.List.Elements.{All-contains}
use Rattle.text_proving.specs.Made.{KnowsClause}
use Rattle.text_proving.specs.Sources.{Gives}
use Rattle.text_proving.proofs.Serving.{all_more}
use Rattle.text_proving.proofs.sources.source_held.Goals as goal

pub gives-requires-clause-clause : goal.gives-requires-clause-clause
gives-requires-clause-clause g c =
    subst (KnowsClause (g.I.Interner.meaning c.args.cx.now)) (sym c.clause-item.is)
    (c.requires.assumed c.loop-clause.clause-index c.clause-item.result c.loop-clause-test.true)

pub loop-clause-preserved : goal.loop-clause-preserved
loop-clause-preserved g c =
    all_more (λ k. Gives (g.I.Interner.meaning c.args.cx.now) c.args.rule.now k → ⊥) c.args.assumed.now
    c.loop-clause.clause-index c.clause-item.result c.clause-item.is c.loop-clause-test.true c.loop-clause.invariant
    (c.gives.ensures.no c.if-gives.false)

pub returns-then-gives : goal.returns-then-gives
returns-then-gives g c = (
  c.clause-item.result,
  (c.loop-clause.clause-index, c.loop-clause-test.true, sym c.clause-item.is),
  c.gives.ensures.yes c.if-gives.true,
)

pub returns : goal.returns
returns g c = λ one.
    All-contains (λ k. Gives (g.I.Interner.meaning c.args.cx.now) c.args.rule.now k → ⊥) c.args.assumed.now one.0
    (subst (All (λ k. Gives (g.I.Interner.meaning c.args.cx.now) c.args.rule.now k → ⊥))
    (take_all c.loop-clause.clause-index c.args.assumed.now c.loop-clause-test.false) c.loop-clause.invariant)
    one.1 one.2
