use Rattle.relation_terms.proofs.Stays.{extends_on, knows_param_env}
use Rattle.examples.proofs.Headers.{plain_stays}
use Rattle.examples.proofs.overlapping.slices_overlap.Goals as goal

pub common_header-requires-clause-env_known : goal.common_header-requires-clause-env_known
common_header-requires-clause-env_known g c =
    knows_param_env c.in_ok-ctx.ensures.grown c.in_ok-param_env.param_env c.in_ok-param_env.ensures.sure

pub common_header-requires-clause-left : goal.common_header-requires-clause-left
common_header-requires-clause-left g c =
    plain_stays (extends_on c.in_ok-bytes.ensures.grown (extends_on c.in_ok-param_env.ensures.grown
    c.in_ok-ctx.ensures.grown)) c.in_ok-slices.slices c.in_ok-slices.ensures.plain

pub common_header-requires-clause-right : goal.common_header-requires-clause-right
common_header-requires-clause-right g c =
    plain_stays (extends_on c.in_ok-param_env.ensures.grown c.in_ok-ctx.ensures.grown) c.in_ok-bytes.bytes
    c.in_ok-bytes.ensures.plain
