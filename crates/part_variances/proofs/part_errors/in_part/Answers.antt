use Rattle.std.proofs.Common.{Err, refl, sym, subst}
use Rattle.relation_folds.specs.declared.error.RelateFault.TheVariants.{Unrelated}
use Rattle.part_variances.specs.PartErrors.{IsResultOfPart, no_error}
use Rattle.part_variances.proofs.PartErrors.{no_place_named, result_stays, fault_placed}
use Rattle.part_variances.proofs.part_errors.in_part.Goals as goal

pub returns-in_default : goal.returns-in_default
returns-in_default g c = result_stays c.args.place c.args.related (no_place_named c.args.place c.in_default.not-Some)

pub returns-in-Unrelated : goal.returns-in-Unrelated
returns-in-Unrelated g c =
    let e = c.in-Unrelated.error in
    subst (λ z. IsResultOfPart c.args.place z (Err (Unrelated c.at_place.result))) (sym c.in-Err.is)
    (fault_placed c.args.place c.in-Some.place c.in-Err.fault e c.at_place.result c.in-Some.is c.in-Unrelated.is
    c.at_place.ensures)

pub returns-in_default-fault : goal.returns-in_default-fault
returns-in_default-fault g c =
    subst (λ z. IsResultOfPart c.args.place z (Err c.in-Err.fault)) (sym c.in-Err.is)
    (no_error refl c.in_default-fault.not-Unrelated)
