use Rattle.occurs_check.specs.TermVids.{vid_kind, vid_number}
use Rattle.relation_reference.proofs.Clearing.{ty_eq, clear_more}
use Rattle.relation_reference.proofs.context.clearing.keep_clear.Goals as goal

pub returns : goal.returns
returns g c =
    clear_more (ty_eq g.I.Key.PartialEq.eq) (g.I.Interner.meaning c.args._cx.now) (vid_kind c.args._target.now.vid)
    (vid_number c.args._target.now.vid) c.args._target.now.universe.0 c.args.clear.now c.insert.new.self c.args.ty.now
    c.requires.known c.requires.is_clear c.in_ok-insert.ensures.updates.0 c.requires.clear
