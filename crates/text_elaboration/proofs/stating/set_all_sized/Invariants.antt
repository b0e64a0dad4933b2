use Rattle.reference_interner.specs.Adding.{meaning_in}
use Rattle.text_elaboration.specs.Stating.{TermsStay, KeepsStatements}
use Rattle.text_elaboration.proofs.stating.set_all_sized.Given as goal

-- what was known stays, and what is stated
abbrev pub invariant-loop-of : goal.invariant-loop-of
invariant-loop-of l =
    record { stays : TermsStay (meaning_in l.fn.cx) (meaning_in l.cx); keeps : KeepsStatements l.fn.cx l.cx }
