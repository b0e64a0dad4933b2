-- How what is told of a goal, or of two impls, is written, or why nothing is, and which rule an answer names.
use Rattle.std.specs.Prelude.{ℕ, List, codes, Option, Some, None, Result, Ok, Err}
use Rattle.may_relate.specs.declared.unfit.Unfit.TheVariants as unfit
use Rattle.relation_folds.specs.declared.error.RelateFault.{RelateFault}
use Rattle.relation_folds.specs.declared.error.RelateFault.TheVariants.{Memory, Budget, Unrelated}
use Rattle.relation_proving.specs.declared.told.Told.{Told}
use Rattle.relation_proving.specs.declared.told.Told.TheVariants.{Yes, No, Maybe}
use Rattle.relation_proving.specs.declared.told.Why.TheVariants.{Ambiguous, Depth}
use Rattle.relation_impls.specs.declared.answer.WhyApart.TheVariants.{ByForm, ByBound}
use Rattle.relation_impls.specs.declared.answer.Impls.{Impls}
use Rattle.relation_impls.specs.declared.answer.Impls.TheVariants.{Apart, Meet, Unclear}
use Rattle.text_proving.specs.declared.refusing.WhyNot.{WhyNot}
use Rattle.text_proving.specs.declared.refusing.WhyNot.TheVariants.{Open, NoTrait, Unfit}

abbrev pub proof_text : {Key Id Name : Type 0} → Result (Told Key) (RelateFault Key Id Name) → List ℕ
proof_text (Ok (Yes by)) = codes "yes"
proof_text (Ok (No named)) = codes "no"
proof_text (Ok (Maybe Ambiguous)) = codes "maybe: ambiguous"
proof_text (Ok (Maybe Depth)) = codes "maybe: depth"
proof_text (Err Memory) = codes "memory"
proof_text (Err Budget) = codes "budget"
proof_text (Err (Unrelated e)) = codes "unrelated"

-- The place of the rule that an answer names, if it does.
abbrev pub place_named : {Key Id Name : Type 0} → Result (Told Key) (RelateFault Key Id Name) → Option ℕ
place_named (Ok (Yes by)) = Some by
place_named (Ok (No (Some blame))) = Some blame.by
place_named (Ok (No None)) = None
place_named (Ok (Maybe why)) = None
place_named (Err f) = None

-- Why a goal is not asked about.
abbrev pub unasked_text : WhyNot → List ℕ
unasked_text Open = codes "not asked: a variable stands in an impl or in what is assumed"
unasked_text NoTrait = codes "not asked: it is asked of traits and their types alone"
unasked_text (Unfit (unfit.LaterUniverse u)) = codes "not asked: the context's universe does not name the placeholder"
unasked_text (Unfit unfit.Memory) = codes "memory"
unasked_text (Unfit why) = codes "not asked: a binder does not bind by its list"

-- What is told of two impls.
abbrev pub impls_text : {Key Id Name : Type 0} → Result Impls (RelateFault Key Id Name) → List ℕ
impls_text (Ok (Apart ByForm)) = codes "apart by form"
impls_text (Ok (Apart (ByBound i))) = codes "apart by bound"
impls_text (Ok Meet) = codes "meet"
impls_text (Ok (Unclear Ambiguous)) = codes "unclear: ambiguous"
impls_text (Ok (Unclear Depth)) = codes "unclear: depth"
impls_text (Err Memory) = codes "memory"
impls_text (Err Budget) = codes "budget"
impls_text (Err (Unrelated e)) = codes "unrelated"
