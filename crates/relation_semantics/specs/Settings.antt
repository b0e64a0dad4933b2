-- How contexts and relations are set up.
use Rattle.std.specs.Prelude.{◌≡◌, Bool, true, false, IsTrue}
use Rattle.relation_semantics.specs.declared.infer_ctxt.TypingMode.{TypingMode}
use Rattle.relation_semantics.specs.declared.infer_ctxt.TypingMode.TheVariants.{Coherence}
use Rattle.term_enums.specs.declared.StructurallyRelateAliases.{StructurallyRelateAliases}
use Rattle.term_enums.specs.declared.StructurallyRelateAliases.TheVariants.{No}

-- A typing mode is that of coherence.
abbrev pub in_coherence : {Key : Type 0} → TypingMode Key → Bool
in_coherence Coherence = true
in_coherence m = false

-- How a context was made: whether the next solver is on, and its typing mode.
pub record Setup (Key : Type 0) : Type 0 where
  pub is_next_solver : Bool
  pub typing_mode : TypingMode Key

-- How a relation was set up: whether it relates aliases by their items and arguments, or by goals; whether the next
-- solver is to answer its goals, or the old one; whether it relates in coherence; and whether it relates items'
-- arguments at declared variances at invariance too.
pub record Settings : Type 0 where
  pub structurally_relate_aliases : StructurallyRelateAliases
  pub next_solver : Bool
  pub coherence : Bool
  pub declared_at_invariance : Bool

-- A relation that is so set up leaves aliases, and constants that aren't evaluated, to goals.
abbrev pub DefersAliases : Settings → Type 0
DefersAliases k = IsTrue k.next_solver × (k.structurally_relate_aliases ≡ No)

-- It leaves open what opaque types are.
abbrev pub LeavesOpaque : Settings → Type 0
LeavesOpaque k = (k.next_solver ≡ false) × IsTrue k.coherence
