-- The first members of a list.
use Rattle.std.specs.Prelude.{◌≡◌, ℕ, zero, suc, IsTrue, List}
use Rattle.relation_terms.specs.Trees.{Tree, nil, cons, known, list_tree}
use Rattle.relation_terms.specs.Parts.{Fit}
use Rattle.relation_terms.specs.declared.terms.part_kind.Part.{Part}

-- So many members of a list of trees.
abbrev pub firsts : ℕ → Tree → Tree
firsts zero t = nil
firsts (suc i) (cons t ts) = cons t (firsts i ts)
firsts (suc i) t = nil

-- Parts are so many members of a list of trees.
pub record AreFirsts {Key Id : Type 0} (tree : Part Key Id → Tree) (i : ℕ) (ts : Tree) (xs : List (Part Key Id)) : Type 0
  where
    pub same : list_tree tree xs ≡ firsts i ts
    pub sure : IsTrue (known (list_tree tree xs))
    pub fit : Fit xs (firsts i ts)
