-- The record is put back.
use Rattle.std.proofs.Common.{◌∙◌, refl, ap, subst}
use Rattle.std.specs.Prelude.{Ok}
use Rattle.kept_records.proofs.Kept.{may_put_back}
use Rattle.relation_semantics.proofs.Going.{later_itself}
use Rattle.relation_proving.specs.Answers.{NoFollowsNever, LeavesNothing}
use Rattle.relation_proving.proofs.GoingOn.{back_goes}
use Rattle.relation_proving.proofs.Searches.{put_back_back}
use Rattle.text_proving.proofs.open.told_of_more.Goals as goal

pub returns-in_err-before-clause-later : goal.returns-in_err-before-clause-later
returns-in_err-before-clause-later g c = later_itself (g.C.InferCtxtLike.state c.args.ctx.now).store

pub put_back-requires : goal.put_back-requires
put_back-requires g c = record {
  lawful = may_put_back g.C.InferCtxtLike.state g.C.KeepsRecord.with_record c.in_ok-before.before c.args.ctx.now
      c.prove.new.ctx c.in_ok-before.ensures (g.met.C.KeepsRecord.stands c.in_ok-before.before)
      c.in_ok-told.ensures.grown;
}

pub returns-in-Yes : goal.returns-in-Yes
returns-in-Yes g c =
    let state = g.C.InferCtxtLike.state in
    let back = put_back_back state g.C.KeepsRecord.with_record c.args.ctx.now c.prove.new.ctx c.put_back.new.self
    c.in_ok-before.before c.in_ok-before.ensures (g.met.C.KeepsRecord.stands c.in_ok-before.before)
    c.in_ok-told.ensures.grown c.put_back.ensures in
    record {
      tells = tt;
      none = tt;
      back = back.same;
      later = (back_goes (state c.args.ctx.now) (state c.put_back.new.self) back).later;
      lawful = back.lawful;
      grown = back.grown;
    }

pub returns-in-No : goal.returns-in-No
returns-in-No g c =
    let s = g.C.InferCtxtLike.state c.args.ctx.now in
    let d = g.C.InferCtxtLike.state c.prove.new.ctx in
    let e = c.prove.ensures in
    let no = c.in_ok-told.was ∙ ap Ok c.in-No.is in
    record {
      tells = refl;
      none = subst (NoFollowsNever s d c.args.rules.now c.args.goal.now) no e.none;
      back = subst (LeavesNothing s d c.args.rules.now c.args.goal.now) no e.back;
      later = e.later;
      lawful = e.lawful;
      grown = e.grown;
    }

pub returns-in-Maybe : goal.returns-in-Maybe
returns-in-Maybe g c =
    let s = g.C.InferCtxtLike.state c.args.ctx.now in
    let d = g.C.InferCtxtLike.state c.prove.new.ctx in
    let e = c.prove.ensures in
    record {
      tells = tt;
      none = tt;
      back = subst (LeavesNothing s d c.args.rules.now c.args.goal.now) (c.in_ok-told.was ∙ ap Ok c.in-Maybe.is) e.back;
      later = e.later;
      lawful = e.lawful;
      grown = e.grown;
    }
