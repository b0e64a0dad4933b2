use Rattle.std.proofs.Common.{refl, ap, ap₂, ◌∙◌}
use Rattle.relation_terms.specs.Meaning.{kind_tree}
use Rattle.relation_folds.specs.declared.error.TypeError.TheVariants.{ArraySize}
use Rattle.relation_folds.specs.declared.error.RelateFault.TheVariants.{Unrelated}
use Rattle.part_variances.specs.PartErrors.{sized, passed}
use Rattle.part_variances.proofs.PartErrors.{passed_tree, passed_left, passed_right, passed_error, passed_fault}
use Rattle.part_variances.proofs.part_errors.of_ty.Goals as goal

pub ty_kind-requires : goal.ty_kind-requires
ty_kind-requires g c = c.requires

pub returns-in_default : goal.returns-in_default
returns-in_default g c = passed refl (passed_fault c.args.fault _ c.args.x.now c.args.y.now c.in_default.not-Unrelated)

pub returns-in_default-error : goal.returns-in_default-error
returns-in_default-error g c = passed refl (passed_error c.args.fault c.in-Unrelated.error _ c.args.x.now c.args.y.now c.in-Unrelated.is c.in_default-error.not-ConstMismatch)

pub returns-in_default-ty_kind : goal.returns-in_default-ty_kind
returns-in_default-ty_kind g c = passed refl (passed_tree (g.I.Interner.meaning c.args.cx.now) c.ty_kind.result _ c.args.x.now c.args.y.now c.args.fault c.ty_kind.ensures c.in_default-ty_kind.not-Array)

pub returns-in_default-x : goal.returns-in_default-x
returns-in_default-x g c = passed refl (passed_left c.args.fault _ c.args.x.now c.args.y.now c.in_default-x.not-Const)

pub returns-in_default-y : goal.returns-in_default-y
returns-in_default-y g c = passed refl (passed_right c.args.fault _ c.args.x.now c.args.y.now c.in_default-y.not-Const)

pub returns : goal.returns
returns g c =
    let m = g.I.Interner.meaning c.args.cx.now in
    sized c.in-Const.x c.in-Const-y.y c.in-ConstMismatch.field-0 (c.ty_kind.ensures ∙ ap (kind_tree m) c.in-Array.is) c.in-Const.is c.in-Const-y.is (c.in-Unrelated.is ∙ ap Unrelated c.in-ConstMismatch.is)
    (ap₂ (λ x y. Unrelated (ArraySize (record { expected = x; found = y }))) (c.new.ensures.expected_kept) (c.new.ensures.found_kept))
