use Rattle.std.proofs.Common.{ap, ap₂, ◌∙◌}
use Rattle.relation_terms.specs.Meaning.{const_tree}
use Rattle.relation_folds.specs.declared.error.TypeError.TheVariants.{ConstMismatch}
use Rattle.relation_folds.specs.declared.error.RelateFault.TheVariants.{Unrelated}
use Rattle.part_variances.specs.PartErrors.{whole}
use Rattle.part_variances.proofs.part_errors.of_const.Goals as goal

pub returns : goal.returns
returns g c =
    let m = g.I.Interner.meaning c.args.cx.now in
    whole c.in-Unrelated.field-0 (c.const_kind.ensures ∙ ap (const_tree m) c.in-Value.is) c.in-Unrelated.is
    (ap₂ (λ x y. Unrelated (ConstMismatch (record { expected = x; found = y }))) (c.new.ensures.expected_kept) (c.new.ensures.found_kept))
