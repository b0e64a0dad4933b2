-- What is kept beside each node of a table: what is asked of its term as a whole.
use Rattle.std.specs.Prelude.{◌≡◌, List, map}
use Rattle.relation_terms.specs.Trees.{nil}
use Rattle.relation_terms.specs.Flags.{flags_of}
use Rattle.relation_terms.specs.declared.terms.flags.TypeFlags.{TypeFlags}
use Rattle.reference_interner.specs.declared.node.Node.{Node}
use Rattle.reference_interner.specs.Nodes.{Entry, no_entry, entry, entries}

-- The flags of an entry's tree.
abbrev pub entry_flags : Entry → TypeFlags
entry_flags no_entry = flags_of nil
entry_flags (entry s t) = flags_of t

-- The flags are those of the table's trees, in the order of its nodes.
abbrev pub AreFlags : List Node → List TypeFlags → Type 0
AreFlags ns fs = fs ≡ map entry_flags (entries ns)
