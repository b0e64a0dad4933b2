use Rattle.std.proofs.Common.{◌≡◌, ◌≤◌, [], ◌∷◌, ◌++◌, ◌∙◌, IsTrue, IfOk, Ok, Err, refl, sym, ap, subst}
use Rattle.relation_terms.specs.Parts.{part_tree, parts_tree, part_sort, Fit}
use Rattle.relation_terms.specs.Trees.{known, count}
use Rattle.relation_folds.specs.declared.error.RelateFault.TheVariants.{Memory}
use Rattle.relation_semantics.specs.Parts.{direct_parts, IsByParts}
use Rattle.relation_semantics.proofs.Passing.{as_err}
use Rattle.part_variances.proofs.Patterns.{term_parts_as}
use Rattle.relation_recursion.specs.Keeping.{AreFirstParts, KeepsAnswer, answer_kept, error_handed, no_memory}
use Rattle.relation_recursion.specs.Keeping.{none_kept, one_more, first_kept}
use Rattle.relation_recursion.proofs.Kept.{some_kept, none_in, first_members_as}
use Rattle.relation_recursion.proofs.Looping.{kept_part}
use Rattle.relation_recursion.proofs.keeping.keep_term_answer.Goals.{then-is_empty+else-is_same+in_ok-answers, else-is_empty}
use Rattle.relation_recursion.proofs.keeping.keep_term_answer.Goals as goal

pub is_same-requires : goal.is_same-requires
is_same-requires g c =
    let e = sym c.cx-cx.ensures in
    let q = g.R.HasState.state c.args.r.now in
    let n = c.in_ok-answer in
    let u = c.args in
    let z = kept_part u.place u.related n.answer n.ensures in
    record {
      part_known = subst (λ m. IsTrue (known (part_tree m u.x.now))) e c.requires.part_known;
      other_known = subst (λ m. IsTrue (known (part_tree m n.answer))) e
          (subst (λ w. IfOk w (λ k. IsTrue (known (part_tree q.meaning k)))) z c.requires.answer_known);
      same_sort = subst (λ w. IfOk w (λ k. part_sort k ≡ part_sort u.x.now)) z c.requires.sort;
    }

pub parts_of-requires : goal.parts_of-requires
parts_of-requires g c =
    subst (λ m. IsTrue (known (part_tree m c.args.term.now))) (sym c.cx-cx.ensures) c.requires.sure

pub first_members-requires-clause-in_bounds : goal.first_members-requires-clause-in_bounds
first_members-requires-clause-in_bounds g c =
    let e = sym c.cx-cx.ensures in
    let u = c.args in
    let t = part_tree (g.I.Interner.meaning c.cx-cx.result.now) u.term.now in
    let form = subst (λ m. IsByParts (part_tree m u.term.now)) e c.requires.form in
    let within = subst (λ m. u.i ≤ count (direct_parts (part_tree m u.term.now))) e c.requires.within in
    subst (λ z. u.i ≤ count z) (sym (c.parts_of.ensures.means ∙ term_parts_as t form)) within

pub returns-in_err-answer : goal.returns-in_err-answer
returns-in_err-answer g c =
    let n = c.in_err-answer in
    let res = c.from_residual in
    error_handed n.field-0.0 n.ensures (as_err res.result n.field-0.0 res.ensures.0 res.ensures.1)

pub returns-then-is_same : goal.returns-then-is_same
returns-then-is_same g c =
    let n = c.in_ok-answer in
    answer_kept n.answer n.ensures (none_kept (none_in c.args.answers.now c.if-is_empty.ensures)) refl

pub returns-in_err-answers : goal.returns-in_err-answers
returns-in_err-answers g c =
    let n = c.in_ok-answer in
    let res = c.from_residual-in_err-answers in
    no_memory n.answer n.ensures (as_err res.result Memory res.ensures.0 res.ensures.1)

pub returns-in_err-push : goal.returns-in_err-push
returns-in_err-push g c =
    let n = c.in_ok-answer in
    let res = c.from_residual-in_err-push in
    no_memory n.answer n.ensures (as_err res.result Memory res.ensures.0 res.ensures.1)

pub returns : goal.returns
returns g c =
    let n = c.in_ok-answer in
    let u = c.args in
    let x = n.answer in
    let m = (g.R.HasState.state u.r.now).meaning in
    let o = g.I.Interner.meaning c.cx-cx.result.now in
    let t = part_tree o u.term.now in
    let form = subst (λ m. IsByParts (part_tree m u.term.now)) (sym c.cx-cx.ensures) c.requires.form in
    let kept : KeepsAnswer (part_tree m) Fit u.i (direct_parts (part_tree m u.term.now)) x u.answers.now.items _ =
    elim c.if-is_empty.branch [
      | then-is_empty+else-is_same+in_ok-answers w ↦ first_kept w.in_ok-answers.field-0.items
          (subst (λ m. AreFirstParts (part_tree m) Fit u.i (direct_parts (part_tree m u.term.now))
          w.in_ok-answers.field-0.items) c.cx-cx.ensures (first_members_as (part_tree o) u.i (direct_parts t)
          (parts_tree o w.parts_of.result) w.in_ok-answers.field-0.items (w.parts_of.ensures.means ∙ term_parts_as t form)
          w.in_ok-answers.ensures)) (c.in_ok-push.ensures.items ∙ ap (λ v. v.items ++ x ∷ []) w.answers-is)
      | else-is_empty w ↦ one_more (some_kept u.answers.now w.if-is_empty.ensures)
          (c.in_ok-push.ensures.items ∙ ap (λ v. v.items ++ x ∷ []) w.answers-is)
    ] in
    answer_kept x n.ensures kept refl
