use Rattle.std.proofs.Common.{◌≡◌, refl, sym, ap, ◌∙◌, subst, subst₂, IfOk, IsTrue, Ok, Err}
use Rattle.relation_terms.specs.declared.terms.keys.ArgsKey.{ArgsKey}
use Rattle.relation_terms.specs.Trees.{Tree, node, known}
use Rattle.relation_terms.proofs.Stays.{extends_on}
use Rattle.relation_semantics.specs.Parts.{head_of}
use Rattle.relation_steps.specs.Arguments.{args_head}
use Rattle.relation_semantics.specs.Lawful.{Asked, Related, Shown, MayAnswer}
use Rattle.relation_semantics.proofs.Building.{built_as}
use Rattle.relation_semantics.proofs.Passing.{as_err, asked_later}
use Rattle.relation_recursion.proofs.Arguments.{args_heads, over_later}
use Rattle.relation_folds.proofs.Folding.{if_ok_both}
use Rattle.relation_semantics.proofs.PassingOn.{noted_related, noted_refused}
use Rattle.relation_semantics.proofs.Retelling.{refused_again, made_or_not, related_agrees, shown_now}
use Rattle.relation_recursion.proofs.args.relate_ty_args.Goals as goal

pub relate_args-requires-clause-asked : goal.relate_args-requires-clause-asked
relate_args-requires-clause-asked g c =
    let r = g.R.HasState.state c.args.r.now in
    let m = r.meaning in
    let is = c.item_variances-variances.ensures (m.ty c.args.b_ty.now) (m.args c.args.a_args.now)
    (m.args c.args.b_args.now) c.requires.over in
    subst₂ (Asked g.R.TypeRelation.manner r r.ambient) is.0 is.1 c.requires.asked

pub returns-in_err-args : goal.returns-in_err-args
returns-in_err-args g c =
    let r = g.R.HasState.state c.args.r.now in
    let q = g.R.HasState.state c.relate_args.new.r in
    let M = g.R.TypeRelation.manner in
    let m = r.meaning in
    let v = c.item_variances-variances.result in
    let is = c.item_variances-variances.ensures (m.ty c.args.b_ty.now) (m.args c.args.a_args.now)
    (m.args c.args.b_args.now) c.requires.over in
    let h = args_head m v in
    let f = c.in_err-args.field-0.0 in
    let gone = subst₂ (λ a b. Related M r q r.ambient a b (λ k. node (args_head (q.meaning) v) ((q.meaning).args k)) (Err f))
    (sym is.0) (sym is.1) (c.in_err-args.ensures (args_head (g.R.HasState.state c.args.r.now).meaning c.item_variances-variances.result) refl) in
    subst (Related M r q r.ambient (m.ty c.args.a_ty.now) (m.ty c.args.b_ty.now) (q.meaning).ty)
    (sym (as_err c.from_residual.result f c.from_residual.ensures.0 c.from_residual.ensures.1))
    (refused_again M r.ambient (m.ty c.args.a_ty.now) (m.ty c.args.b_ty.now)
    (λ k. node (args_head (q.meaning) v) ((q.meaning).args k)) (q.meaning).ty f gone)

pub note_declared-requires-clause-asked : goal.note_declared-requires-clause-asked
note_declared-requires-clause-asked g c =
    let r = g.R.HasState.state c.args.r.now in
    let q = g.R.HasState.state c.relate_args.new.r in
    let M = g.R.TypeRelation.manner in
    let m = r.meaning in
    let passes = (c.in_ok-args.ensures (args_head (g.R.HasState.state c.args.r.now).meaning c.item_variances-variances.result) refl).passes in
    let k = c.requires.asked in
    subst₂ (λ t u. Asked M q q.ambient t u) (sym ((passes.extends).ty c.args.a_ty.now k.left_known))
    (sym ((passes.extends).ty c.args.b_ty.now k.right_known))
    (subst (λ v. Asked M q v (m.ty c.args.a_ty.now) (m.ty c.args.b_ty.now)) (sym passes.ambient)
    (asked_later M r.ambient (m.ty c.args.a_ty.now) (m.ty c.args.b_ty.now) passes k))

pub note_declared-requires-clause-over : goal.note_declared-requires-clause-over
note_declared-requires-clause-over g c =
    let k = c.requires.asked in
    over_later (((c.in_ok-args.ensures (args_head (g.R.HasState.state c.args.r.now).meaning c.item_variances-variances.result) refl).passes).extends) c.args.def_id.now.0 c.args.a_ty.now c.args.b_ty.now
    c.args.a_args.now c.args.b_args.now k.left_known k.right_known c.requires.over

pub note_declared-requires-clause-related : goal.note_declared-requires-clause-related
note_declared-requires-clause-related g c =
    let r = g.R.HasState.state c.args.r.now in
    let q = g.R.HasState.state c.relate_args.new.r in
    let M = g.R.TypeRelation.manner in
    let m = r.meaning in
    let v = c.item_variances-variances.result in
    let a = m.ty c.args.a_ty.now in
    let b = m.ty c.args.b_ty.now in
    let k = c.requires.asked in
    let is = c.item_variances-variances.ensures b (m.args c.args.a_args.now) (m.args c.args.b_args.now) c.requires.over in
    let args = c.in_ok-args.args in
    let done = subst₂ (λ a b. Related M r q r.ambient a b (λ k. node (args_head (q.meaning) v) ((q.meaning).args k))
    (Ok args)) (sym is.0) (sym is.1) (c.in_ok-args.ensures (args_head (g.R.HasState.state c.args.r.now).meaning c.item_variances-variances.result) refl) in
    let passes = done.passes in
    subst₂ (λ t u. Shown M q q.ambient t u)
    (sym ((passes.extends).ty c.args.a_ty.now k.left_known)) (sym ((passes.extends).ty c.args.b_ty.now k.right_known))
    (subst (λ v. Shown M q v a b) (sym passes.ambient)
    (shown_now M r.ambient a b (λ k. node (args_head (q.meaning) v) ((q.meaning).args k)) args done))

pub returns-in_err-note_declared : goal.returns-in_err-note_declared
returns-in_err-note_declared g c =
    let r = g.R.HasState.state c.args.r.now in
    let q = g.R.HasState.state c.relate_args.new.r in
    let p = g.R.HasState.state c.note_declared.new.r in
    let M = g.R.TypeRelation.manner in
    let m = r.meaning in
    let v = c.item_variances-variances.result in
    let is = c.item_variances-variances.ensures (m.ty c.args.b_ty.now) (m.args c.args.a_args.now)
    (m.args c.args.b_args.now) c.requires.over in
    let args = c.in_ok-args.args in
    let done = subst₂ (λ a b. Related M r q r.ambient a b (λ k. node (args_head (q.meaning) v) ((q.meaning).args k))
    (Ok args)) (sym is.0) (sym is.1) (c.in_ok-args.ensures (args_head (g.R.HasState.state c.args.r.now).meaning c.item_variances-variances.result) refl) in
    let n = c.in_err-note_declared in
    let res = c.from_residual-in_err-note_declared in
    subst (Related M r p r.ambient (m.ty c.args.a_ty.now) (m.ty c.args.b_ty.now) (p.meaning).ty)
    (sym (as_err res.result n.field-0.0 res.ensures.0 res.ensures.1))
    (refused_again M r.ambient (m.ty c.args.a_ty.now) (m.ty c.args.b_ty.now)
    (λ k. node (args_head (q.meaning) v) ((q.meaning).args k)) (p.meaning).ty n.field-0.0
    (noted_refused M r.ambient (m.ty c.args.a_ty.now) (m.ty c.args.b_ty.now)
    (λ k. node (args_head (q.meaning) v) ((q.meaning).args k)) args done (Err n.field-0.0) n.ensures.noted
    (built_as r.store (((done.passes).extends).ty c.args.a_ty.now (c.requires.asked).left_known)
    (((done.passes).extends).ty c.args.b_ty.now (c.requires.asked).right_known))
    (λ k. node (args_head (q.meaning) v) ((q.meaning).args k)) n.field-0.0 refl))

pub make_over-requires-clause-callable : goal.make_over-requires-clause-callable
make_over-requires-clause-callable g c cx list e known =
    let on = extends_on (extends_on ((c.in_ok-args.ensures (args_head (g.R.HasState.state c.args.r.now).meaning c.item_variances-variances.result) refl).passes).extends ((c.in_ok-note_declared.ensures.noted).passes).extends) e in
    c.requires.callable cx list on known

pub make_over-requires-clause-makes : goal.make_over-requires-clause-makes
make_over-requires-clause-makes g c cx list res left e post =
    let r = g.R.HasState.state c.args.r.now in
    let p = g.R.HasState.state c.note_declared.new.r in
    let n = g.I.Interner.meaning left.now in
    let us = (g.I.Interner.meaning cx.now).args list in
    let through = extends_on ((c.in_ok-args.ensures (args_head (g.R.HasState.state c.args.r.now).meaning c.item_variances-variances.result) refl).passes).extends ((c.in_ok-note_declared.ensures.noted).passes).extends in
    let same : (p.meaning).ty c.args.a_ty.now ≡ (r.meaning).ty c.args.a_ty.now = through.ty c.args.a_ty.now (c.requires.asked).left_known in
    subst (λ t. IfOk res (λ k. IsTrue (known (n.ty k)) × (n.ty k ≡ node (head_of t) us))) (sym same)
    (c.requires.makes cx list res left (extends_on through e) post)

pub returns : goal.returns
returns g c =
    let r = g.R.HasState.state c.args.r.now in
    let q = g.R.HasState.state c.relate_args.new.r in
    let p = g.R.HasState.state c.note_declared.new.r in
    let u = g.R.HasState.state c.make_over.new.r in
    let M = g.R.TypeRelation.manner in
    let m = r.meaning in
    let v = c.item_variances-variances.result in
    let a = m.ty c.args.a_ty.now in
    let b = m.ty c.args.b_ty.now in
    let k = c.requires.asked in
    let is = c.item_variances-variances.ensures b (m.args c.args.a_args.now) (m.args c.args.b_args.now) c.requires.over in
    let args = c.in_ok-args.args in
    let done = subst₂ (λ a b. Related M r q r.ambient a b (λ k. node (args_head (q.meaning) v) ((q.meaning).args k))
    (Ok args)) (sym is.0) (sym is.1) (c.in_ok-args.ensures (args_head (g.R.HasState.state c.args.r.now).meaning c.item_variances-variances.result) refl) in
    let n = c.in_ok-note_declared in
    let e = ((n.ensures.noted).passes).extends in
    let answer : ArgsKey g.row.I-Key.Denot → Tree = λ k. node (args_head (p.meaning) v) ((p.meaning).args k) in
    let same : answer args ≡ node (args_head (q.meaning) v) ((q.meaning).args args) =
    ap (λ h. node h ((p.meaning).args args)) (args_heads e v) ∙ ap (node (args_head (q.meaning) v)) (e.args args
    (done.verdict).known) in
    let first = (done.passes).extends in
    let noted = noted_related M r.ambient a b (λ k. node (args_head (q.meaning) v) ((q.meaning).args k)) args done
    (Ok n.field-0) n.ensures.noted (built_as r.store (first.ty c.args.a_ty.now k.left_known) (first.ty c.args.b_ty.now k.right_known))
    answer same (λ promised bare. (
      first.ty c.args.a_ty.now k.left_known,
      first.ty c.args.b_ty.now k.right_known,
      (done.passes).ambient,
    )) (related_agrees M r.ambient a b (λ k. node (args_head (q.meaning) v) ((q.meaning).args k)) args done refl
    (first.ty c.args.a_ty.now k.left_known) (first.ty c.args.b_ty.now k.right_known)) in
    let a_stays : (p.meaning).ty c.args.a_ty.now ≡ a = e.ty c.args.a_ty.now
    (subst (λ z. IsTrue (known z)) (sym (first.ty c.args.a_ty.now k.left_known)) k.left_known)
    ∙ first.ty c.args.a_ty.now k.left_known in
    let head : head_of ((p.meaning).ty c.args.a_ty.now) ≡ args_head (p.meaning) v =
    ap head_of (a_stays ∙ is.0) ∙ sym (args_heads e v ∙ args_heads first v) in
    let made = c.make_over.ensures in
    made_or_not M r.ambient a b made.extends made.grown (u.meaning).ty answer args noted c.make_over.result made.fault
    (if_ok_both {P = λ z. IsTrue (known ((u.meaning).ty z))}
    {Q = λ z. (u.meaning).ty z ≡ node (head_of ((p.meaning).ty c.args.a_ty.now)) ((p.meaning).args args)}
    {R = λ z. MayAnswer M p r.ambient a ((u.meaning).ty z) × IsTrue (known ((u.meaning).ty z))} c.make_over.result
    (λ z sure means. (
      subst (MayAnswer M p r.ambient a) (sym (means ∙ ap (λ h. node h ((p.meaning).args args)) head)) (noted.verdict).answer,
      sure,
    )) made.sure made.means)

pub note_declared-requires-clause-lawful : goal.note_declared-requires-clause-lawful
note_declared-requires-clause-lawful g c =
    let done = c.in_ok-args.ensures (args_head (g.R.HasState.state c.args.r.now).meaning c.item_variances-variances.result) refl in
    (done.passes).lawful c.requires.lawful

pub note_declared-requires-clause-decides : goal.note_declared-requires-clause-decides
note_declared-requires-clause-decides g c =
    let done = c.in_ok-args.ensures (args_head (g.R.HasState.state c.args.r.now).meaning c.item_variances-variances.result) refl in
    λ e. c.requires.decides (sym (done.passes).ambient ∙ e)

pub make_over-requires-clause-lawful : goal.make_over-requires-clause-lawful
make_over-requires-clause-lawful g c =
    let done = c.in_ok-args.ensures (args_head (g.R.HasState.state c.args.r.now).meaning c.item_variances-variances.result) refl in
    ((c.in_ok-note_declared.ensures.noted).passes).lawful ((done.passes).lawful c.requires.lawful)

pub make_over-requires-clause-args_known : goal.make_over-requires-clause-args_known
make_over-requires-clause-args_known g c =
    let done = c.in_ok-args.ensures (args_head (g.R.HasState.state c.args.r.now).meaning c.item_variances-variances.result) refl in
    let same = (((c.in_ok-note_declared.ensures.noted).passes).extends).args c.in_ok-args.args (done.verdict).known in
    subst (λ z. IsTrue (known z)) (sym same) (done.verdict).known
