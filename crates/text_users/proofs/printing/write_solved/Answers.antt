-- Both regions of a row are known.
use Rattle.relation_terms.specs.Trees.{known}
use Rattle.text_users.proofs.RecordedLemmas.{recorded_known}
use Rattle.text_users.proofs.printing.write_solved.Goals as goal

pub write_placed-requires-clause-known : goal.write_placed-requires-clause-known
write_placed-requires-clause-known g c =
    let s = g.C.InferCtxtLike.state c.args.ctx.now in
    (c.row_of-first.ensures (λ r. known ((s.meaning).region r)) c.requires.known
    (recorded_known s.meaning s.store c.region_constraints-constraints.result.now
    c.region_constraints-constraints.ensures (g.met.C.InferCtxtLike.sound c.args.ctx.now c.requires.lawful))).first

pub write_placed-requires-in-loop-number-clause-known : goal.write_placed-requires-in-loop-number-clause-known
write_placed-requires-in-loop-number-clause-known g c =
    let s = g.C.InferCtxtLike.state c.args.ctx.now in
    (c.row_of-first.ensures (λ r. known ((s.meaning).region r)) c.requires.known
    (recorded_known s.meaning s.store c.region_constraints-constraints.result.now
    c.region_constraints-constraints.ensures (g.met.C.InferCtxtLike.sound c.args.ctx.now c.requires.lawful))).second
