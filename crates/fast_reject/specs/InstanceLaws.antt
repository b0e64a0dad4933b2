-- Laws of instances.
use Rattle.std.specs.Prelude.{ℕ, Bool}
use Rattle.relation_terms.specs.Heads.{Sort, type_sort, AliasKind, alias}
use Rattle.relation_terms.specs.Trees.{Tree, node, IsTerm, Leaves}
use Rattle.relation_folds.specs.Clashes.{flexible}
use Rattle.fast_reject.specs.Instances.{Instance, CommonInstance, IsNoVariable}

-- A term without variables is an instance of itself.
abbrev pub TermsAreInstances : Type 0
TermsAreInstances = (places : Tree → Bool) (s : Sort) (t : Tree) → IsTerm s t → Leaves IsNoVariable t →
    Instance places t t

-- An alias has a common instance with each type without variables.
abbrev pub AliasesMeetTypes : Type 0
AliasesMeetTypes = (l r : Bool) (k : AliasKind) (d : ℕ) (ts t : Tree) → IsTerm type_sort t → Leaves IsNoVariable t →
    CommonInstance (flexible l) (flexible r) (node (alias k d) ts) t
