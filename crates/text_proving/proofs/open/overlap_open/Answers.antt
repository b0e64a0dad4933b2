-- What isn't told apart by what there may be is asked of what is said.
use Rattle.std.proofs.Common.{sym, subst}
use Rattle.relation_terms.proofs.Stays.{extends_on}
use Rattle.kept_records.proofs.Kept.{same_through}
use Rattle.relation_impls.specs.Answers.{TellsApart, TellsMeeting}
use Rattle.relation_proving.specs.Telling.{IsBack}
use Rattle.relation_proving.proofs.GoingOn.{back_goes, proves_on, use_on}
use Rattle.text_proving.proofs.Opening.{apart_none, meeting_on}
use Rattle.text_proving.proofs.open.overlap_open.Goals as goal

pub returns-in-Apart : goal.returns-in-Apart
returns-in-Apart g c =
    let s = g.C.InferCtxtLike.state c.args.ctx.now in
    let e = c.in_ok-told.ensures in
    record {
      apart = subst (TellsApart s c.args.perhaps.now c.args.left c.args.right) c.in-Apart.is e.apart;
      meets = tt;
      back = e.back;
      lawful = e.lawful;
      grown = e.grown;
    }

pub impls_overlap-requires-2 : goal.impls_overlap-requires-2
impls_overlap-requires-2 g c =
    let s = g.C.InferCtxtLike.state c.args.ctx.now in
    let d = g.C.InferCtxtLike.state c.impls_overlap.new.ctx in
    let e = c.in_ok-told.ensures in
    let b : IsBack s d = record { same = e.back; lawful = e.lawful; grown = e.grown } in
    let on = back_goes s d b in
    record {
      may = proves_on s d on c.args.said.now c.args.param_env (record {
        lawful = c.requires.may.lawful;
        env_known = c.requires.may.env_known;
        rules = c.requires.may_said;
      });
      left = use_on s d on c.args.left c.requires.left;
      right = use_on s d on c.args.right c.requires.right;
    }

pub returns-in_err-again-clause-grown : goal.returns-in_err-again-clause-grown
returns-in_err-again-clause-grown g c = extends_on c.in_ok-told.ensures.grown c.in_err-again.ensures.grown

pub returns : goal.returns
returns g c =
    let s = g.C.InferCtxtLike.state c.args.ctx.now in
    let d = g.C.InferCtxtLike.state c.impls_overlap.new.ctx in
    let f = g.C.InferCtxtLike.state c.impls_overlap-2.new.ctx in
    let e = c.in_ok-told.ensures in
    let t = c.in_ok-again.ensures in
    let b : IsBack s d = record { same = e.back; lawful = e.lawful; grown = e.grown } in
    let is = sym c.unless_apart.ensures in
    record {
      apart = subst (TellsApart s c.args.perhaps.now c.args.left c.args.right) is
          (apart_none s c.args.perhaps.now c.args.left c.args.right c.in_ok-again.again);
      meets = subst (TellsMeeting s c.args.said.now c.args.left c.args.right) is
          (meeting_on s d b c.args.said.now c.args.left c.args.right c.requires.may_said c.requires.left
          c.requires.right c.in_ok-again.again t.meets);
      back = same_through s d f b.same t.back;
      lawful = t.lawful;
      grown = extends_on e.grown t.grown;
    }
