-- How an elaboration stands, what each pull does to it, and what whole runs of pulls yield.
use Rattle.std.specs.Prelude.{◌≡◌, ◌≤◌, ◌<◌, ◌+◌, ℕ, List, [], ◌∷◌, ◌++◌, length}
use Rattle.std.specs.List.{Contains}
use Rattle.relation_terms.specs.Trees.{Tree}
use Rattle.elaboration_worklist.specs.Pushes.{Pushes, IsFull}
use Rattle.relation_terms.specs.Owned.{BindsWithin}
use Rattle.relation_statements.specs.Children.{Statements, Mode, children}
use Rattle.relation_statements.specs.Closure.{Follows, HasSame, AreDifferent}

-- What is still to be yielded, the last one next; and what stands for all that was ever put there.
pub record Standing : Type 0 where
  pub stack : List Tree
  pub visited : List Tree
  pub limit : ℕ

-- Clauses that traits state bind at places of their lists.
pub record StatesWithin (s : Statements) : Type 0 where
  pub supers : (d : ℕ) (c : Tree) → Contains (s.supers d) c → BindsWithin c
  pub implied : (d : ℕ) (c : Tree) → Contains (s.implied d) c → BindsWithin c
  pub bounds : (d : ℕ) (c : Tree) → Contains (s.bounds d) c → BindsWithin c

-- Of these predicates more are different than there may be.
pub record AreTooMany (cs : List Tree) (limit : ℕ) : Type 0 where
  pub more : List Tree
  pub of_them : (x : Tree) → Contains more x → Contains cs x
  pub differ : AreDifferent more
  pub too_many : limit < length more

-- By the name that what is anonymised goes by.
module _ (name : ℕ) where
  -- A pull that yields a predicate: the last of the stack, and what it implies is pushed.
  pub record Yields (s : Statements) (m : Mode) (w : Standing) (x : Tree) (v : Standing) : Type 0 where
    pub rest : List Tree
    pub top : w.stack ≡ rest ++ x ∷ []
    pub pushes : Pushes name (children s m x) rest w.visited v.stack v.visited v.limit
    pub limit : v.limit ≡ w.limit

  -- It begins with these predicates.
  abbrev pub Begins : List Tree → Standing → Type 0
  Begins given w = Pushes name given [] [] w.stack w.visited w.limit

  -- From one standing to another by pulls that yield these, in order.
  abbrev pub Runs : Statements → Mode → Standing → List Tree → Standing → Type 0
  Runs s m w [] v = v ≡ w
  Runs s m w (x ∷ xs) v = (u : Standing) × Yields s m w x u × Runs s m u xs v

  -- What a run has yielded: of what follows, as it is, and no two that are the same but for renaming; all of it up to
  -- renaming once nothing is left; and never more than the limit, or than any list that has all of it up to renaming.
  pub record Closes (s : Statements) (m : Mode) (given ys : List Tree) (v : Standing) : Type 0 where
    pub sound : (y : Tree) → Contains ys y → Follows s m given y
    pub once : AreDifferent ys
    pub all : v.stack ≡ [] → ((g : Tree) → Contains given g → BindsWithin g) → (p : Tree) → Follows s m given p →
        HasSame ys p
    pub ends : length ys + length v.stack ≤ v.limit
    pub small : (cs : List Tree) → ((p : Tree) → Follows s m given p → HasSame cs p) →
        length ys + length v.stack ≤ length cs
    pub no_limit : (cs : List Tree) → ((p : Tree) → Follows s m given p → HasSame cs p) → length cs ≤ v.limit →
        (rest : List Tree) (x : Tree) → v.stack ≡ rest ++ x ∷ [] → IsFull name (children s m x) v.visited v.limit → ⊥

-- Of whatever begins with given predicates, by whatever name what is anonymised goes.
abbrev pub EachRunCloses : Type 0
EachRunCloses = (name : ℕ) (s : Statements) (m : Mode) (given ys : List Tree) (w v : Standing) → StatesWithin s →
    Begins name given w → Runs name s m w ys v → Closes name s m given ys v
