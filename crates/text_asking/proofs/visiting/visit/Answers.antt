use Rattle.text_asking.proofs.MeetLemmas.{visited}
use Rattle.text_asking.proofs.visiting.visit.Goals as goal

pub returns : goal.returns
returns g c =
    let m = g.I.Interner.meaning c.args.cx.now in
    let all = visited m _ c.walk-stopped.new.visitor _ _ c.walk-stopped.ensures c.requires.skip_known
    c.requires.stop_known c.new.ensures.items c.if-visitor.false in
    record { sure = all.0; met = all.1 }
