-- By what is told of the goal.
use Rattle.relation_proving.proofs.Meaning.{derives, is_by, makes_follow, loses_none, follows_never}
use Rattle.relation_proving.proofs.Meaning.{stays_first_order, names_known, leaves_nothing}
use Rattle.relation_proving.proofs.proving.prove.Goals as goal

pub returns : goal.returns
returns g c =
    let s = g.C.InferCtxtLike.state c.args.ctx.now in
    let d = g.C.InferCtxtLike.state c.follows.new.ctx in
    let t = c.follows.ensures.tells in
    let on = c.follows.ensures.goes_on in
    let laws = c.goals.ensures in
    record {
      derives = derives s d c.args.rules.now c.args.param_env c.args.goal.now c.derivations.ensures.derive c.follows.result t;
      is_by = is_by s d c.args.rules.now c.args.param_env c.args.goal.now c.derivations.ensures.derive_by c.follows.result t;
      sound = makes_follow s d c.args.rules.now c.args.param_env c.args.goal.now laws.sound c.follows.result t;
      principal = loses_none s d c.args.rules.now c.args.param_env c.args.goal.now laws.principal c.requires.goal c.follows.result t;
      none = follows_never s d c.args.rules.now c.args.param_env c.args.goal.now laws.none c.requires.goal c.follows.result t;
      first_order = stays_first_order s d c.args.rules.now c.args.param_env c.args.goal.now c.follows.result t;
      named = names_known s d c.args.rules.now c.args.param_env c.args.goal.now c.follows.result t;
      back = leaves_nothing s d c.args.rules.now c.args.param_env c.args.goal.now c.follows.result t;
      later = on.later;
      lawful = on.lawful;
      grown = on.grown;
    }
