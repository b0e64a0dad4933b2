use Rattle.std.proofs.Common.{◌∙◌, sym}
use Rattle.relation_folds.proofs.Remembering.{place_eq}
use Rattle.anonymize.proofs.UsedParts.{remembers_more}
use Rattle.anonymize.proofs.collecting.keep_collected.Goals as goal

pub returns-in_ok-insert : goal.returns-in_ok-insert
returns-in_ok-insert g c =
    let m = g.I.Interner.meaning c.args._cx.now in
    remembers_more m c.args._vars.now (place_eq g.I.Key.PartialEq.eq) c.args.part.now c.args.depth c.in-Some.place
    c.args.met.now.keys c.insert.new.self.keys (sym c.place_of.ensures ∙ c.in-Some.is) c.requires.known
    c.requires.collected c.in_ok-insert.ensures.updates.0 c.requires.remembered
