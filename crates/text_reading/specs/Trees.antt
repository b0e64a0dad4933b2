-- Trees of names.
use Rattle.std.specs.Prelude.{◌≡◌, ℕ, ◌<◌, ◌≤◌, List, [], ◌∷◌, ◌++◌, Some, length, slice_index}
use Rattle.std.specs.List.{slice_get, flat_map}
use Rattle.text_reading.specs.declared.reading.words.Word.{Word}
use Rattle.text_reading.specs.declared.reading.words.WordKind.TheVariants as word
use Rattle.text_reading.specs.declared.reading.tree.Node.{Node}
use Rattle.text_reading.specs.declared.reading.tree.NodeKind.{NodeKind}
use Rattle.text_reading.specs.declared.reading.tree.NodeKind.TheVariants.{Leaf, Form}

-- the parts of a node stand in the list of parts, and each is less than `k`
abbrev pub HasPartsBelow : List ℕ → ℕ → Node → Type 0
HasPartsBelow parts k n =
    (n.first ≤ n.behind) × (n.behind ≤ length parts) × ((j : ℕ) → n.first ≤ j → j < n.behind → slice_index parts j < k)

-- the parts of each node are nodes before it
abbrev pub IsFounded : List Node → List ℕ → Type 0
IsFounded nodes parts = (k : ℕ) (n : Node) → slice_get nodes k ≡ Some n → HasPartsBelow parts k n

-- each node stands in a text of that length
abbrev pub EachStands : List Node → ℕ → Type 0
EachStands nodes len = (k : ℕ) (n : Node) → slice_get nodes k ≡ Some n → (n.start ≤ n.end) × (n.end ≤ len)

-- each number is less than `n`
abbrev pub EachBelow : List ℕ → ℕ → Type 0
EachBelow xs n = (k : ℕ) → k < length xs → slice_index xs k < n

-- the word that a node of that kind is, if it is a leaf
abbrev pub kind_words : NodeKind → ℕ → ℕ → List Word
kind_words (Leaf l) from to = (let w : Word = record { kind = word.Leaf l; start = from; end = to } in w) ∷ []
kind_words (Form f) from to = []

-- the words of the nodes that are leaves
abbrev pub node_words : List Node → List Word
node_words nodes = flat_map (λ (n : Node). kind_words n.kind n.start n.end) nodes

-- one more node has its words behind those of all others
abbrev pub AddsWords : List Node → List Node → NodeKind → ℕ → ℕ → Type 0
AddsWords old new kind from to = node_words new ≡ node_words old ++ kind_words kind from to
