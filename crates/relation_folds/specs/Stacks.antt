-- Lists that are being made, each upon those that it is made for.
use Rattle.std.specs.Prelude.{◌≡◌, IsTrue, Bool, true, false, List, ◌++◌}
use Rattle.relation_terms.specs.Trees.{Tree, known, list_tree}
use Rattle.relation_terms.specs.Parts.{Fit}
use Rattle.relation_terms.specs.declared.terms.part_kind.Part.{Part}

-- Parts that stand upon what stood there: known ones, which fit a list of trees, and are the trees of another.
pub record StandsUpon {Key Id : Type 0} (tree : Part Key Id → Tree) (ts us : Tree) (old new : List (Part Key Id)) : Type 0
  where
    pub parts : List (Part Key Id)
    pub is : new ≡ old ++ parts
    pub same : list_tree tree parts ≡ us
    pub sure : IsTrue (known (list_tree tree parts))
    pub fit : Fit parts ts

-- What the members of a list of trees become. Where one differs they stand upon the stack; else they are what they
-- were, and the stack stays.
pub record Become {Key Id : Type 0} (tree : Part Key Id → Tree) (ts us : Tree) (old new : List (Part Key Id))
    (differs : Bool) : Type 0 where
  pub left : differs ≡ false → (new ≡ old) × (ts ≡ us)
  pub made : differs ≡ true → StandsUpon tree ts us old new
