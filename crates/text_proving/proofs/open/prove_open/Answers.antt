-- What doesn't follow from what is said is asked of what there may be.
use Rattle.std.proofs.Common.{◌∙◌, ap, subst}
use Rattle.std.specs.Prelude.{Ok}
use Rattle.relation_terms.proofs.Stays.{extends_on}
use Rattle.relation_semantics.proofs.Going.{later_through}
use Rattle.relation_proving.specs.Answers.{YesDerives, YesIsBy, YesMakesFollow, YesLosesNone}
use Rattle.relation_proving.specs.Answers.{NoNamesKnown, LeavesNothing}
use Rattle.relation_proving.specs.Telling.{GoesOn, IsBack}
use Rattle.relation_proving.proofs.GoingOn.{proves_on, ask_on, blame_on}
use Rattle.text_proving.proofs.Opening.{derives_none, is_by_none, sound_none, principal_none, names_again}
use Rattle.text_proving.proofs.Opening.{none_on, leaves_on}
use Rattle.text_proving.proofs.open.prove_open.Goals as goal

pub returns-in-Yes : goal.returns-in-Yes
returns-in-Yes g c =
    let s = g.C.InferCtxtLike.state c.args.ctx.now in
    let d = g.C.InferCtxtLike.state c.prove.new.ctx in
    let e = c.prove.ensures in
    let ks = c.args.said.now in
    let k = c.args.goal.now in
    let yes = c.in_ok-place.was ∙ ap Ok c.in-Yes.is in
    record {
      derives = subst (YesDerives s d ks k c.args.param_env) yes e.derives;
      is_by = subst (YesIsBy s d ks k c.args.param_env) yes e.is_by;
      sound = subst (YesMakesFollow s d ks k) yes e.sound;
      principal = subst (YesLosesNone s d ks k) yes e.principal;
      none = tt;
      named = tt;
      back = tt;
      later = e.later;
      lawful = e.lawful;
      grown = e.grown;
    }

pub told_of_more-requires : goal.told_of_more-requires
told_of_more-requires g c =
    let s = g.C.InferCtxtLike.state c.args.ctx.now in
    let d = g.C.InferCtxtLike.state c.prove.new.ctx in
    let e = c.prove.ensures in
    let on : GoesOn s d = record { later = e.later; lawful = e.lawful; grown = e.grown } in
    record {
      may = proves_on s d on c.args.perhaps.now c.args.param_env (record {
        lawful = c.requires.may.lawful;
        env_known = c.requires.may.env_known;
        rules = c.requires.may_perhaps;
      });
      goal = ask_on s d on c.args.goal.now c.requires.goal;
    }

pub returns-in-No : goal.returns-in-No
returns-in-No g c =
    let s = g.C.InferCtxtLike.state c.args.ctx.now in
    let d = g.C.InferCtxtLike.state c.prove.new.ctx in
    let f = g.C.InferCtxtLike.state c.told_of_more.new.ctx in
    let e = c.prove.ensures in
    let no = c.in_ok-place.was ∙ ap Ok c.in-No.is in
    let t = c.told_of_more.ensures in
    let r = c.told_of_more.result in
    let ks = c.args.said.now in
    let k = c.args.goal.now in
    let b : IsBack s d = record {
      same = subst (LeavesNothing s d ks k) no e.back;
      lawful = e.lawful;
      grown = e.grown;
    } in
    let known = subst (NoNamesKnown s d ks k) no e.named in
    record {
      derives = derives_none s f ks k c.in-No.named c.args.param_env r t.tells;
      is_by = is_by_none s f ks k c.in-No.named c.args.param_env r t.tells;
      sound = sound_none s f ks k c.in-No.named r t.tells;
      principal = principal_none s f ks k c.in-No.named r t.tells;
      none = none_on s d f b c.args.perhaps.now k c.requires.may_perhaps c.requires.goal r t.none;
      named = names_again s f ks k c.in-No.named r t.tells (blame_on d f t.grown ks c.in-No.named known);
      back = leaves_on s d f b c.args.perhaps.now ks k r t.back;
      later = later_through e.later t.later;
      lawful = t.lawful;
      grown = extends_on e.grown t.grown;
    }

pub returns-in-Maybe : goal.returns-in-Maybe
returns-in-Maybe g c =
    let s = g.C.InferCtxtLike.state c.args.ctx.now in
    let d = g.C.InferCtxtLike.state c.prove.new.ctx in
    let e = c.prove.ensures in
    record {
      derives = tt;
      is_by = tt;
      sound = tt;
      principal = tt;
      none = tt;
      named = tt;
      back = subst (LeavesNothing s d c.args.said.now c.args.goal.now) (c.in_ok-place.was ∙ ap Ok c.in-Maybe.is) e.back;
      later = e.later;
      lawful = e.lawful;
      grown = e.grown;
    }
