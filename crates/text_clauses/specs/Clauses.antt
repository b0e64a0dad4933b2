-- The trees of a program's predicates: each by what it says, over the trees of the program's terms.
use Rattle.std.specs.Prelude.{ℕ, List, Option, Some, None, slice_get}
use Rattle.relation_terms.specs.Heads.{Head, atom, unknown, trait_ref, trait_clause, host_effect, region_outlives}
use Rattle.relation_terms.specs.Heads.{type_outlives, projection, alias_term, type_alias, projection_alias}
use Rattle.relation_terms.specs.Heads.{projection_const, well_formed, const_evaluatable, const_has_type}
use Rattle.relation_terms.specs.Heads.{unstable_feature}
use Rattle.relation_terms.specs.Trees.{Tree, leaf, node, nil, cons}
use Rattle.relation_terms.specs.Meaning.{under}
use Rattle.term_enums.specs.declared.PredicatePolarity.TheVariants as polarity
use Rattle.text_reading.specs.declared.reading.tree.ItemSort.{ItemSort}
use Rattle.text_reading.specs.declared.reading.tree.ItemSort.TheVariants as sort
use Rattle.text_reading.specs.declared.reading.tree.Claim.{Claim}
use Rattle.text_reading.specs.declared.reading.tree.Claim.TheVariants as claim
use Rattle.text_reading.specs.declared.naming.program.Parts.{Parts}
use Rattle.text_reading.specs.declared.naming.program.Says.{Says}
use Rattle.text_reading.specs.declared.naming.program.Says.TheVariants as says
use Rattle.text_reading.specs.declared.naming.program.Clause.{Clause}
use Rattle.text_terms.specs.Terms.{at, parts_tree, leaf_of, head_of, variables_of}

-- What a trait declares, over the list of its arguments; of an item that is missing or that none declares, unknown.
abbrev pub declared_tree : ItemSort → Option ℕ → Tree → Tree
declared_tree s None ts = leaf unknown
declared_tree sort.AssocTy (Some d) ts = node (alias_term (type_alias projection_alias) d) ts
declared_tree sort.AssocConst (Some d) ts = node (alias_term projection_const d) ts
declared_tree s (Some d) ts = leaf unknown

-- The head of what is claimed of a trait.
abbrev pub claim_head : Claim → Head
claim_head (claim.Trait p) = trait_clause p
claim_head (claim.HostEffect c) = host_effect c

-- Over the numbers of the items, and the numbers of all parts.
module _ (items parts : List ℕ) where
  -- A trait over its arguments; of a trait that is missing, unknown.
  abbrev pub trait_at : List Tree → ℕ → Parts → Tree
  trait_at ts d p = head_of trait_ref (slice_get items d) (parts_tree parts ts p)

  -- The trait that is claimed to be implemented; where a predicate claims something else, unknown.
  abbrev pub implemented_tree : List Tree → Says → Tree
  implemented_tree ts (says.Claims (claim.Trait polarity.Positive) d p) = trait_at ts d p
  implemented_tree ts s = leaf unknown

  -- The same under the predicate's binder.
  abbrev pub bound_clause_tree : List Tree → Clause → Tree
  bound_clause_tree ts c = under (variables_of (parts_tree parts ts c.variables)) (implemented_tree ts c.says)

-- Over the numbers of the names too.
module _ (items names parts : List ℕ) where
  -- What a predicate says, over the trees of the terms.
  abbrev pub says_tree : List Tree → Says → Tree
  says_tree ts (says.Claims c d p) = node (claim_head c) (cons (trait_at items parts ts d p) nil)
  says_tree ts (says.RegionOutlives a b) = node region_outlives (cons (at ts a) (cons (at ts b) nil))
  says_tree ts (says.TypeOutlives a b) = node type_outlives (cons (at ts a) (cons (at ts b) nil))
  says_tree ts (says.ComesTo s d p t) =
      node projection (cons (declared_tree s (slice_get items d) (parts_tree parts ts p)) (cons (at ts t) nil))
  says_tree ts (says.WellFormed t) = node well_formed (cons (at ts t) nil)
  says_tree ts (says.ConstEvaluatable c) = node const_evaluatable (cons (at ts c) nil)
  says_tree ts (says.ConstArgHasType c t) = node const_has_type (cons (at ts c) (cons (at ts t) nil))
  says_tree ts (says.UnstableFeature n) = leaf_of (λ x. atom (unstable_feature x)) (slice_get names n)

  -- A predicate: what it says, under its binder.
  abbrev pub clause_tree : List Tree → Clause → Tree
  clause_tree ts c = under (variables_of (parts_tree parts ts c.variables)) (says_tree ts c.says)
