-- Predicates that differ in names, order or unused variables of their outermost binder alone.
use Rattle.std.specs.Prelude.{◌≡◌, ◌↔◌, ℕ, suc, cond, nat_eq, List}
use Rattle.relation_terms.specs.Heads.{Kind, BoundKind, bound_kind, Leaf, bound}
use Rattle.relation_terms.specs.Trees.{Tree, leaf, node, bind, nil, cons}
use Rattle.anonymize.specs.Anonymous.{anonymized}

-- The second leaf is the first, but that for a variable of the binder `depth` steps up another of that binder stands
-- there: one of the same kind, at the place that `to` says, by any name.
abbrev pub MovedLeaf : (Kind → ℕ → ℕ) → ℕ → Leaf → Leaf → Type 0
MovedLeaf to depth (bound (bound_kind k n) d i) m =
    cond (nat_eq d depth) ((name : ℕ) × (m ≡ bound (bound_kind k name) d (to k i))) (m ≡ bound (bound_kind k n) d i)
MovedLeaf to depth l m = m ≡ l

-- The second tree is the first, but for the variables of the binder `depth` steps up.
abbrev pub Moved : (Kind → ℕ → ℕ) → ℕ → Tree → Tree → Type 0
Moved to depth (leaf l) (leaf m) = MovedLeaf to depth l m
Moved to depth (node h ts) (node g us) = (g ≡ h) × Moved to depth ts us
Moved to depth (bind ks t) (bind ls u) = (ls ≡ ks) × Moved to (suc depth) t u
Moved to depth nil nil = Unit {0}
Moved to depth (cons t ts) (cons u us) = Moved to depth t u × Moved to depth ts us
Moved to depth t u = ⊥

-- Two bodies of binders are renamings of one another: each is the other with the binder's variables moved. So different
-- variables of one stay different in the other. How many variables a binder has that are not used, where they stand, and
-- what names there are, makes no difference.
pub record AreRenamings (t u : Tree) : Type 0 where
  pub to : Kind → ℕ → ℕ
  pub back : Kind → ℕ → ℕ
  pub there : Moved to 0 t u
  pub again : Moved back 0 u t

-- Two binders are anonymised alike exactly where their bodies are renamings of one another.
abbrev pub RenamingsAreOne : Type 0
RenamingsAreOne = (name : ℕ) (ks ls : List BoundKind) (t u : Tree) →
    AreRenamings t u ↔ (anonymized name (bind ks t) ≡ anonymized name (bind ls u))
