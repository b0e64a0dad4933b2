use Rattle.std.proofs.Common.{subst}
use Rattle.std.proofs.lemmas.Bool.{false≢true}
use Rattle.relation_semantics.specs.Parts.{IsByParts}
use Rattle.part_variances.proofs.Patterns.{kind_not}
use Rattle.relation_recursion.proofs.parts.is_by_parts.Goals as goal

pub returns-in_default : goal.returns-in_default
returns-in_default g c =
    let m = g.I.Interner.meaning c.args.cx.now in
    let n = c.in_default in (
      (λ h. absurd (false≢true h)),
      λ o. absurd (kind_not m c.ty_kind.result n.not-Pat n.not-FnPtr n.not-UnsafeBinder
          n.not-Dynamic (subst IsByParts c.ty_kind.ensures o)),
    )
