use Rattle.std.proofs.Common.{◌≡◌, ◌&&◌, false, take}
use Rattle.std.specs.Prelude.{nat_eq}
use Rattle.std.specs.List.{list_any}
use Rattle.text_reading.specs.declared.naming.program.Stated.{Stated}
use Rattle.text_elaboration.specs.Stating.{is_implied}
use Rattle.text_elaboration.proofs.stating.says_implied.Given as goal

-- none of the first statements says so
abbrev pub invariant-loop-stated : goal.invariant-loop-stated
invariant-loop-stated l =
    list_any (λ (t : Stated). nat_eq t.of l.of && is_implied t.kind) (take l.stated-index l.program.stated.items) ≡ false
