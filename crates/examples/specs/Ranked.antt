-- The rules of the example of a solver: a type of vectors is of a trait where what it is over is, and one parameter is.
--
--   ranked_clause d t     the clause that a type is of the trait of a number
--   vec_over v t          the type of vectors over a type, by the number of its item
--   bound_param n         what the binder around a clause binds, of the number of a name
--   impl_for_vecs v d n   `impl<T> Ranked for Vec<T> where T: Ranked`
use Rattle.std.specs.Prelude.{ℕ, [], ◌∷◌}
use Rattle.term_enums.specs.declared.PredicatePolarity.TheVariants.{Positive}
use Rattle.relation_terms.specs.Heads.{bound_kind, type_kind, adt, trait_ref, trait_clause, bound}
use Rattle.relation_terms.specs.Trees.{Tree, leaf, node, bind, nil, cons}
use Rattle.relation_solver.specs.Rules.{Rule}

-- The clause that a type is of the trait of a number.
abbrev pub ranked_clause : ℕ → Tree → Tree
ranked_clause d t = bind [] (node (trait_clause Positive) (cons (node (trait_ref d) (cons t nil)) nil))

-- The type of vectors over a type.
abbrev pub vec_over : ℕ → Tree → Tree
vec_over v t = node (adt v) (cons t nil)

-- What the binder around a clause binds, which has a binder of its own.
abbrev pub bound_param : ℕ → Tree
bound_param n = leaf (bound (bound_kind type_kind n) 1 0)

-- Vectors of what is of the trait are of it.
abbrev pub impl_for_vecs : ℕ → ℕ → ℕ → Rule
impl_for_vecs v d n = record {
  binds = bound_kind type_kind n ∷ [];
  gives = ranked_clause d (vec_over v (bound_param n));
  asks = ranked_clause d (bound_param n) ∷ [];
  shadowed_by = [];
}
