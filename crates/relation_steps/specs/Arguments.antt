-- Arguments that are not looked at, what is related of a tree, and lists of arguments as what they are related for.
use Rattle.std.specs.Prelude.{◌≡◌, ℕ, Option, Some, None, Result}
use Rattle.std.specs.Result.{IsOkAnd}
use Rattle.term_enums.specs.declared.Variance.{Variance}
use Rattle.term_enums.specs.declared.Variance.TheVariants.{Bivariant}
use Rattle.relation_terms.specs.Heads.{Head, adt, fn_def, alias_term, trait_ref, arguments, object}
use Rattle.relation_terms.specs.Trees.{Tree, node}
use Rattle.relation_terms.specs.Meaning.{Meaning}
use Rattle.relation_terms.specs.Predicates.{alias_term_kind, alias_term_id}
use Rattle.relation_steps.specs.declared.arguments.ArgVariances.{ArgVariances}
use Rattle.relation_steps.specs.declared.arguments.ArgVariances.TheVariants.{Invariant, Adt, FnDef}
use Rattle.relation_steps.specs.declared.arguments.ArgVariances.TheVariants.{AliasTerm, Trait}

-- What is related of a tree: the tree itself, or the form over a list.
abbrev pub related_tree : Option Head → Tree → Tree
related_tree None t = t
related_tree (Some h) ts = node h ts

-- No form, or one of those over lists: of arguments, and of the predicates of a trait object.
abbrev pub IsListForm : Option Head → Type 0
IsListForm None = Unit {0}
IsListForm (Some arguments) = Unit {0}
IsListForm (Some object) = Unit {0}
IsListForm (Some h) = ⊥

-- At bivariance two arguments are not looked at: the left one is the answer, and the relation is what it was.
abbrev pub IsSkipped : {A F R : Type 0} → Variance → R → R → A → Result A F → Type 0
IsSkipped v old new a result = v ≡ Bivariant → IsOkAnd result (λ k. k ≡ a) × (new ≡ old)

-- The form over arguments whose parts stand at these variances.
abbrev pub args_head : {Key Id Name : Type 0} → Meaning Key Id Name → ArgVariances Id → Head
args_head m Invariant = arguments
args_head m (Adt d) = adt (m.id d.0)
args_head m (FnDef d) = fn_def (m.id d.0)
args_head m (AliasTerm k) = alias_term (alias_term_kind k) (m.id (alias_term_id k))
args_head m (Trait d) = trait_ref (m.id d.0)

-- Two types are of one form over an item and these arguments, which vary as the item declares.
pub data AreOverItem (d : ℕ) (a b ts us : Tree) : Type 0 where
  adts : a ≡ node (adt d) ts → b ≡ node (adt d) us → AreOverItem d a b ts us
  functions : a ≡ node (fn_def d) ts → b ≡ node (fn_def d) us → AreOverItem d a b ts us
