-- What isn't told is asked again.
use Rattle.std.proofs.Common.{subst}
use Rattle.relation_proving.proofs.GoingOn.{goes_through, proves_on, asks_on}
use Rattle.relation_impls.specs.Telling.{TellsBounds}
use Rattle.relation_impls.proofs.Bounds.{asked_again_result}
use Rattle.relation_impls.proofs.asking.bounds_hold.Goals as goal

pub each_holds-requires-in-Unclear : goal.each_holds-requires-in-Unclear
each_holds-requires-in-Unclear g c =
    let s = g.C.InferCtxtLike.state c.args.ctx.now in
    let d = g.C.InferCtxtLike.state c.each_holds.new.ctx in
    let on = c.in_ok-each_holds.ensures.goes_on in
    record {
      may = proves_on s d on c.args.rules.now c.args.param_env c.requires.may;
      bounds = asks_on s d on c.args.bounds.now c.requires.bounds;
    }

pub returns-in-Unclear : goal.returns-in-Unclear
returns-in-Unclear g c =
    let s = g.C.InferCtxtLike.state c.args.ctx.now in
    let d = g.C.InferCtxtLike.state c.each_holds.new.ctx in
    let e = g.C.InferCtxtLike.state c.each_holds-in-Unclear.new.ctx in
    let on = c.in_ok-each_holds.ensures.goes_on in
    record {
      goes_on = goes_through s d e on c.each_holds-in-Unclear.ensures.goes_on;
      tells = asked_again_result s c.args.rules.now c.args.bounds.now c.requires.may.rules c.requires.bounds d e on
          (subst (TellsBounds s d c.args.rules.now c.args.bounds.now) c.in-Unclear.is c.in_ok-each_holds.ensures.tells)
          c.each_holds-in-Unclear.result c.each_holds-in-Unclear.ensures.tells;
    }
