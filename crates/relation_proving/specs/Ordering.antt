-- Which goals say something of a variable.
--
--   ComesToVariable c t   a term is a type variable, or comes to one by what is recorded
--   subject_of t          the first argument of the trait or the item that the body of a clause says something of
--   IsOfVariable c g      of a goal whose binder binds nothing that one does
use Rattle.std.specs.Prelude.{◌≡◌, ℕ, Option, Some, None, IsSomeAnd}
use Rattle.relation_terms.specs.declared.predicate.kinds.ClauseKind.{ClauseKind}
use Rattle.relation_terms.specs.declared.terms.keys.ClauseKey.{ClauseKey}
use Rattle.relation_terms.specs.Heads.{type_var, variable, projection, alias_term, trait_ref, trait_clause}
use Rattle.relation_terms.specs.Predicates.{clause_kind_tree}
use Rattle.relation_terms.specs.Trees.{Tree, leaf, node, nil, cons, apply}
use Rattle.relation_semantics.specs.Contexts.{Context}
use Rattle.relation_semantics.specs.Stores.{resolved}
use Rattle.relation_proving.specs.Bodies.{IsBodyOf}

-- The first of a list of terms, if it has one.
abbrev pub first_term : Tree → Option Tree
first_term (cons t ts) = Some t
first_term t = None

abbrev pub subject_of : Tree → Option Tree
subject_of (node (trait_clause p) (cons (node (trait_ref d) ts) nil)) = first_term ts
subject_of (node projection (cons (node (alias_term k d) ts) (cons t nil))) = first_term ts
subject_of t = None

module _ {Key Id Name : Type 0} (c : Context Key Id Name) where
  abbrev pub ComesToVariable : Tree → Type 0
  ComesToVariable t = (n : ℕ) × (apply (resolved c.store) t ≡ leaf (variable type_var n))

  pub record IsOfVariable (g : ClauseKey Key) : Type 0 where
    pub body : ClauseKind Key Id Name
    pub is_body : IsBodyOf c.meaning g body
    pub subject : IsSomeAnd (subject_of (clause_kind_tree c.meaning body)) ComesToVariable
