-- What the predicates of a trait object say of a type.
use Rattle.std.specs.Prelude.{ℕ, cond, nat_eq, drop, IsSome, Option, Some, None}
use Rattle.relation_terms.specs.Heads.{AliasTermKind, trait_ref, trait_clause, projection, alias_term, unknown}
use Rattle.relation_terms.specs.Trees.{Tree, leaf, node, nil, cons}
use Rattle.relation_terms.specs.Meaning.{Meaning, under, term_tree}
use Rattle.relation_terms.specs.Predicates.{item_alias}
use Rattle.relation_terms.specs.Edits.{put_before, error_trees}
use Rattle.term_enums.specs.declared.PredicatePolarity.TheVariants.{Positive}
use Rattle.relation_terms.specs.declared.terms.binder.Binder.{Binder}
use Rattle.relation_terms.specs.declared.predicate.existential.ExistentialPredicate.{ExistentialPredicate}
use Rattle.relation_terms.specs.declared.predicate.existential.ExistentialPredicate.TheVariants.{Trait, AutoTrait}
use Rattle.relation_terms.specs.declared.predicate.existential.ExistentialPredicate.TheVariants.{Projection}

-- The id of the trait, or of the item that is projected.
abbrev pub existential_id : {Key Id : Type 0} → ExistentialPredicate Key Id → Id
existential_id (Trait t) = (t.def_id).0
existential_id (Projection p) = (p.def_id).0
existential_id (AutoTrait d) = d.0

-- The trait of a number is implemented by the first of these arguments.
abbrev pub positive_clause : ℕ → Tree → Tree
positive_clause d ts = node (trait_clause Positive) (cons (node (trait_ref d) ts) nil)

-- The alias of a kind, of the item of a number and of these arguments, comes to a term.
abbrev pub projection_clause : Option AliasTermKind → ℕ → Tree → Tree → Tree
projection_clause (Some k) d ts u = node projection (cons (node (alias_term k d) ts) (cons u nil))
projection_clause None d ts u = leaf unknown

module _ {Key Id Name : Type 0} (m : Meaning Key Id Name) where
  -- What is projected is an alias by the tables.
  abbrev pub ProjectsAlias : ExistentialPredicate Key Id → Type 0
  ProjectsAlias (Projection p) = IsSome (item_alias m (p.def_id).0)
  ProjectsAlias p = Unit {0}

  -- The arguments of an auto trait: the type alone, or, where the trait has not this one parameter, errors behind it.
  abbrev pub auto_args : ℕ → Tree → Tree
  auto_args d s =
      cond (nat_eq (m.generics d) 1) (cons s nil) (put_before (cons s nil) (error_trees (drop 1 ((m.tables).params d))))

  -- What a trait object's predicate says of a type, and under its binder.
  abbrev pub self_form : ExistentialPredicate Key Id → Tree → Tree
  self_form (Trait t) s = positive_clause (m.id (t.def_id).0) (cons s (m.args t.args))
  self_form (Projection p) s =
      let d = m.id (p.def_id).0 in
      projection_clause ((m.tables).alias_kind d) d (cons s (m.args p.args)) (term_tree m p.term)
  self_form (AutoTrait d) s = positive_clause (m.id d.0) (auto_args (m.id d.0) s)

  abbrev pub self_clause : Binder Key (ExistentialPredicate Key Id) → Tree → Tree
  self_clause b s = under (m.bound_vars b.bound_vars) (self_form b.value s)
