-- Variables for types and constants, as trees and in a store.
use Rattle.std.specs.Prelude.{ℕ}
use Rattle.relation_terms.specs.Heads.{VarKind, type_var, const_var, variable}
use Rattle.relation_terms.specs.Trees.{Tree, leaf}
use Rattle.relation_semantics.specs.Stores.{Store, universe_of}
use Rattle.occurs_check.specs.declared.term_vid.TermVid.{TermVid}
use Rattle.occurs_check.specs.declared.term_vid.TermVid.TheVariants.{Ty, Const}

-- Of which kind a variable for a term is, and its number.
abbrev pub vid_kind : TermVid → VarKind
vid_kind (Ty v) = type_var
vid_kind (Const v) = const_var

abbrev pub vid_number : TermVid → ℕ
vid_number (Ty v) = v.0
vid_number (Const v) = v.0

-- The term that is such a variable, and the universe of the variable.
abbrev pub vid_tree : TermVid → Tree
vid_tree v = leaf (variable (vid_kind v) (vid_number v))

abbrev pub vid_universe : Store → TermVid → ℕ
vid_universe st v = universe_of st (vid_kind v) (vid_number v)
