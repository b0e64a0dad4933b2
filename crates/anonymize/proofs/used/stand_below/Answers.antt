use Rattle.std.proofs.Common.{refl, subst, arith}
use Rattle.std.proofs.lemmas.List.{take_all}
use Rattle.std.proofs.lemmas.List.Elements.{All-more}
use Rattle.std.specs.List.{All}
use Rattle.anonymize.specs.Anonymous.{StandsBelow}
use Rattle.anonymize.specs.declared.used.UsedVar.TheVariants.{Ty}
use Rattle.anonymize.proofs.used.stand_below.Goals as goal

pub loop-var-preserved : goal.loop-var-preserved
loop-var-preserved c =
    All-more (StandsBelow c.args.count) c.args.vars.now c.loop-var.var-index (Ty 0) c.loop-var-test.true
    c.loop-var.invariant (c.stands_below.ensures.0 c.if-not-stands_below.false)

pub returns : goal.returns
returns c =
    let test = c.loop-var-test.false in
    let end = (c.loop-var.auto).var-index-end in
    let e = take_all c.loop-var.var-index c.args.vars.now (omega (arith, test, end)) in
    (λ t. subst (All (StandsBelow c.args.count)) e c.loop-var.invariant, λ a. refl)
