use Rattle.std.proofs.Common.{refl}
use Rattle.relation_terms.specs.Heads.{adt}
use Rattle.relation_recursion.proofs.args.relate_args_with_variances.Goals as goal

pub returns : goal.returns
returns g c =
    let m = (g.R.HasState.state c.args.r.now).meaning in c.relate_args.ensures (adt (m.id c.args.def_id.now.0)) refl
