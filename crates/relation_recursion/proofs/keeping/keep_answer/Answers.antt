use Rattle.std.proofs.Common.{[], ◌∷◌, ◌++◌, ◌∙◌, IsTrue, Ok, Err, refl, sym, ap, subst}
use Rattle.relation_terms.specs.Meaning.{arg_tree}
use Rattle.relation_terms.specs.Trees.{known, count}
use Rattle.relation_folds.specs.declared.error.RelateFault.TheVariants.{Memory}
use Rattle.relation_semantics.specs.Making.{FitArgs}
use Rattle.relation_semantics.specs.Parts.{direct_parts, IsByParts}
use Rattle.relation_semantics.proofs.Passing.{as_err}
use Rattle.part_variances.specs.PartErrors.{IsResultOfTy}
use Rattle.relation_recursion.specs.Keeping.{KeepsAnswer, answer_kept, error_handed, no_memory}
use Rattle.relation_recursion.specs.Keeping.{none_kept, one_more, first_kept}
use Rattle.relation_recursion.proofs.Kept.{some_kept, none_in}
use Rattle.relation_recursion.proofs.keeping.keep_answer.Goals.{then-is_empty+else-eq+in_ok-answers, else-is_empty}
use Rattle.relation_recursion.proofs.keeping.keep_answer.Goals as goal

pub in_ty-requires : goal.in_ty-requires
in_ty-requires g c = subst (λ m. IsTrue (known (m.ty c.args.ty.now))) (sym c.cx-cx.ensures) c.requires.sure

pub returns-in_err-answer : goal.returns-in_err-answer
returns-in_err-answer g c =
    let n = c.in_err-answer in
    let u = c.args in
    let res = c.from_residual in
    error_handed n.field-0.0 (subst (λ m. IsResultOfTy (m.ty u.ty.now) u.x.now u.y.now u.related (Err n.field-0.0))
    c.cx-cx.ensures n.ensures) (as_err res.result n.field-0.0 res.ensures.0 res.ensures.1)

pub returns-then-eq : goal.returns-then-eq
returns-then-eq g c =
    let n = c.in_ok-answer in
    let u = c.args in
    answer_kept n.answer (subst (λ m. IsResultOfTy (m.ty u.ty.now) u.x.now u.y.now u.related (Ok n.answer))
    c.cx-cx.ensures n.ensures) (none_kept (none_in u.answers.now c.if-is_empty.ensures)) refl

pub returns-in_err-answers : goal.returns-in_err-answers
returns-in_err-answers g c =
    let n = c.in_ok-answer in
    let u = c.args in
    let res = c.from_residual-in_err-answers in
    no_memory n.answer (subst (λ m. IsResultOfTy (m.ty u.ty.now) u.x.now u.y.now u.related (Ok n.answer))
    c.cx-cx.ensures n.ensures) (as_err res.result Memory res.ensures.0 res.ensures.1)

pub returns-in_err-push : goal.returns-in_err-push
returns-in_err-push g c =
    let n = c.in_ok-answer in
    let u = c.args in
    let res = c.from_residual-in_err-push in
    no_memory n.answer (subst (λ m. IsResultOfTy (m.ty u.ty.now) u.x.now u.y.now u.related (Ok n.answer))
    c.cx-cx.ensures n.ensures) (as_err res.result Memory res.ensures.0 res.ensures.1)

pub returns : goal.returns
returns g c =
    let n = c.in_ok-answer in
    let u = c.args in
    let x = n.answer in
    let m = (g.R.HasState.state u.r.now).meaning in
    let kept : KeepsAnswer (arg_tree m) FitArgs u.i (direct_parts (m.ty u.ty.now)) x u.answers.now.items _ =
    elim c.if-is_empty.branch [
      | then-is_empty+else-eq+in_ok-answers w ↦ first_kept w.in_ok-answers.field-0.items w.in_ok-answers.ensures
          (c.in_ok-push.ensures.items ∙ ap (λ v. v.items ++ x ∷ []) w.answers-is)
      | else-is_empty w ↦ one_more (some_kept u.answers.now w.if-is_empty.ensures)
          (c.in_ok-push.ensures.items ∙ ap (λ v. v.items ++ x ∷ []) w.answers-is)
    ] in
    answer_kept x (subst (λ m. IsResultOfTy (m.ty u.ty.now) u.x.now u.y.now u.related (Ok n.answer))
    c.cx-cx.ensures n.ensures) kept refl
