-- The record is put back.
use Rattle.kept_records.proofs.Kept.{may_put_back}
use Rattle.relation_semantics.proofs.Going.{later_itself}
use Rattle.relation_proving.proofs.GoingOn.{back_goes}
use Rattle.relation_proving.proofs.Searches.{put_back_back}
use Rattle.relation_impls.proofs.impls.impls_overlap.Goals as goal

pub returns-in_err-before-clause-later : goal.returns-in_err-before-clause-later
returns-in_err-before-clause-later g c = later_itself (g.C.InferCtxtLike.state c.args.ctx.now).store

pub put_back-requires : goal.put_back-requires
put_back-requires g c = record {
  lawful = may_put_back g.C.InferCtxtLike.state g.C.KeepsRecord.with_record c.in_ok-before.before c.args.ctx.now
      c.told_of.new.ctx c.in_ok-before.ensures (g.met.C.KeepsRecord.stands c.in_ok-before.before)
      c.in_ok-told.ensures.goes_on.grown;
}

pub returns : goal.returns
returns g c =
    let state = g.C.InferCtxtLike.state in
    let back = put_back_back state g.C.KeepsRecord.with_record c.args.ctx.now c.told_of.new.ctx c.put_back.new.self
    c.in_ok-before.before c.in_ok-before.ensures (g.met.C.KeepsRecord.stands c.in_ok-before.before)
    c.in_ok-told.ensures.goes_on.grown c.put_back.ensures in
    record {
      apart = c.in_ok-told.ensures.apart;
      meets = c.in_ok-told.ensures.meets;
      back = back.same;
      later = (back_goes (state c.args.ctx.now) (state c.put_back.new.self) back).later;
      lawful = back.lawful;
      grown = back.grown;
    }
