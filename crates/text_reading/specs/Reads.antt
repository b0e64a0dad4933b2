-- What reading leaves.
use Rattle.std.specs.Prelude.{◌≡◌, ℕ, ◌+◌, ◌<◌, ◌≤◌, List, length, suc}
use Rattle.text_reading.specs.declared.reading.words.Word.{Word}
use Rattle.text_reading.specs.Words.{AreWordsOf, leaves}
use Rattle.text_reading.specs.Trees.{EachBelow, node_words}
use Rattle.text_reading.specs.declared.reading.tree.Tree.{Tree}
use Rattle.text_reading.specs.declared.reading.reader.Reader.{Reader}

-- the text and its words stay, and more of both is read
abbrev pub GoesOn : Reader → Reader → Type 0
GoesOn old new =
    (new.words ≡ old.words) × (new.tree.text_len ≡ old.tree.text_len) × (old.at ≤ new.at)
    × (length old.tree.nodes.items ≤ length new.tree.nodes.items)

-- there are `n` more nodes that are no part of another
abbrev pub AddsRoots : ℕ → Tree → Tree → Type 0
AddsRoots n old new =
    length new.nodes.items + length old.parts.items ≡ n + (length old.nodes.items + length new.parts.items)

-- at least one word was read, and of what was read one node was made, with that number
abbrev pub Makes : Reader → Reader → ℕ → Type 0
Makes old new n = (old.at < new.at) × (n < length new.tree.nodes.items) × AddsRoots 1 old.tree new.tree

-- what was read made `n` nodes, beside those whose numbers were added to the list
abbrev pub Gathers : ℕ → Reader → Reader → List ℕ → List ℕ → Type 0
Gathers n old new before after =
    length new.tree.nodes.items + length old.tree.parts.items + length before
    ≡ n + (length old.tree.nodes.items + length new.tree.parts.items + length after)

-- what was read are nodes whose numbers were put upon the list
abbrev pub Stacks : Reader → Reader → List ℕ → List ℕ → Type 0
Stacks old new before after =
    EachBelow after (length new.tree.nodes.items) × (length before ≤ length after) × Gathers 0 old new before after

-- the same of one node
abbrev pub StacksOne : Reader → Reader → List ℕ → List ℕ → Type 0
StacksOne old new before after =
    EachBelow after (length new.tree.nodes.items) × (length after ≡ suc (length before)) × Gathers 0 old new before after

-- the leaves are the words of the text that are no signs
abbrev pub IsReadFrom : List ℕ → Tree → Type 0
IsReadFrom text t = ∥ ((ws : List Word) × AreWordsOf text ws × (node_words t.nodes.items ≡ leaves ws)) ∥₁
