use Rattle.examples.proofs.Headers.{plain_known, plain_taken, plain_in, plain_closed, plain_lengths, plain_names}
use Rattle.examples.proofs.overlapping.common_header.Goals as goal

pub overlap-requires-clause-fits : goal.overlap-requires-clause-fits
overlap-requires-clause-fits g c =
    plain_lengths (g.C.InferCtxtLike.state c.args.ctx.now) c.args.left c.args.right c.requires.left c.requires.right

pub overlap-requires-clause-left_known : goal.overlap-requires-clause-left_known
overlap-requires-clause-left_known g c =
    plain_known (g.C.InferCtxtLike.state c.args.ctx.now) c.args.left c.requires.left

pub overlap-requires-clause-right_known : goal.overlap-requires-clause-right_known
overlap-requires-clause-right_known g c =
    plain_known (g.C.InferCtxtLike.state c.args.ctx.now) c.args.right c.requires.right

pub overlap-requires-clause-left_taken : goal.overlap-requires-clause-left_taken
overlap-requires-clause-left_taken g c =
    plain_taken (g.C.InferCtxtLike.state c.args.ctx.now) c.args.left c.requires.left

pub overlap-requires-clause-right_taken : goal.overlap-requires-clause-right_taken
overlap-requires-clause-right_taken g c =
    plain_taken (g.C.InferCtxtLike.state c.args.ctx.now) c.args.right c.requires.right

pub overlap-requires-clause-left_in : goal.overlap-requires-clause-left_in
overlap-requires-clause-left_in g c =
    plain_in (g.C.InferCtxtLike.state c.args.ctx.now) c.args.left c.requires.left

pub overlap-requires-clause-right_in : goal.overlap-requires-clause-right_in
overlap-requires-clause-right_in g c =
    plain_in (g.C.InferCtxtLike.state c.args.ctx.now) c.args.right c.requires.right

pub overlap-requires-clause-left_closed : goal.overlap-requires-clause-left_closed
overlap-requires-clause-left_closed g c =
    plain_closed (g.C.InferCtxtLike.state c.args.ctx.now) c.args.left c.requires.left

pub overlap-requires-clause-right_closed : goal.overlap-requires-clause-right_closed
overlap-requires-clause-right_closed g c =
    plain_closed (g.C.InferCtxtLike.state c.args.ctx.now) c.args.right c.requires.right

pub overlap-requires-clause-names : goal.overlap-requires-clause-names
overlap-requires-clause-names g c =
    plain_names (g.C.InferCtxtLike.state c.args.ctx.now) c.args.left c.args.right c.requires.left c.requires.right
