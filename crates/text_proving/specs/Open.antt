-- What is told where there may be more rules than are said.
--
--   IsNoOrMaybe named told   it is no, which is due to this, or it isn't told
--   unclear_if_apart told    what is told of two impls that aren't told apart by what there may be
use Rattle.std.specs.Prelude.{◌≡◌, Option}
use Rattle.relation_proving.specs.declared.told.Blame.{Blame}
use Rattle.relation_proving.specs.declared.told.Told.{Told}
use Rattle.relation_proving.specs.declared.told.Told.TheVariants.{Yes, No, Maybe}
use Rattle.relation_proving.specs.declared.told.Why.TheVariants.{Ambiguous}
use Rattle.relation_impls.specs.declared.answer.Impls.{Impls}
use Rattle.relation_impls.specs.declared.answer.Impls.TheVariants.{Apart, Meet, Unclear}

-- It is no, which is due to this, or it isn't told.
abbrev pub IsNoOrMaybe : {Key : Type 0} → Option (Blame Key) → Told Key → Type 0
IsNoOrMaybe named (Yes place) = ⊥
IsNoOrMaybe named (No again) = again ≡ named
IsNoOrMaybe named (Maybe why) = Unit {0}

-- Two impls meet by what is said, or it isn't told.
abbrev pub unclear_if_apart : Impls → Impls
unclear_if_apart (Apart why) = Unclear Ambiguous
unclear_if_apart Meet = Meet
unclear_if_apart (Unclear why) = Unclear why
