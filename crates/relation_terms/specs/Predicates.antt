-- What predicates, clauses and their parts mean.
use Rattle.std.specs.Prelude.{ℕ, List, Option, option_map}
use Rattle.relation_terms.specs.Heads.{AliasTermKind, type_alias, unevaluated_const, projection_const, free_const}
use Rattle.relation_terms.specs.Heads.{inherent_const, projection_alias, inherent_alias, opaque_alias, free_alias}
use Rattle.relation_terms.specs.Heads.{trait_ref, trait_clause, host_effect, subtype, alias_term, region_outlives}
use Rattle.relation_terms.specs.Heads.{type_outlives, projection, const_has_type, well_formed, const_evaluatable}
use Rattle.relation_terms.specs.Heads.{coerce, normalizes_to, alias_relate, unstable_feature, ambiguous, atom}
use Rattle.relation_terms.specs.Trees.{Tree, leaf, node, nil, cons}
use Rattle.relation_terms.specs.Meaning.{Meaning, term_tree, under}
use Rattle.term_enums.specs.declared.Variance.{Variance}
use Rattle.relation_terms.specs.declared.terms.binder.Binder.{Binder}
use Rattle.relation_terms.specs.declared.predicate.alias_term.AliasTermKind.{AliasTermKind as TermKindOf}
use Rattle.relation_terms.specs.declared.predicate.alias_term.AliasTermKind.TheVariants.{ProjectionTy, InherentTy}
use Rattle.relation_terms.specs.declared.predicate.alias_term.AliasTermKind.TheVariants.{OpaqueTy, FreeTy}
use Rattle.relation_terms.specs.declared.predicate.alias_term.AliasTermKind.TheVariants.{UnevaluatedConst}
use Rattle.relation_terms.specs.declared.predicate.alias_term.AliasTermKind.TheVariants.{ProjectionConst, FreeConst}
use Rattle.relation_terms.specs.declared.predicate.alias_term.AliasTermKind.TheVariants.{InherentConst}
use Rattle.relation_terms.specs.declared.predicate.alias_term.AliasTerm.{AliasTerm}
use Rattle.relation_terms.specs.declared.predicate.trait_ref.TraitRef.{TraitRef}
use Rattle.relation_terms.specs.declared.predicate.kinds.ClauseKind.{ClauseKind}
use Rattle.relation_terms.specs.declared.predicate.kinds.ClauseKind.TheVariants.{Trait, RegionOutlives, TypeOutlives}
use Rattle.relation_terms.specs.declared.predicate.kinds.ClauseKind.TheVariants.{Projection, ConstArgHasType}
use Rattle.relation_terms.specs.declared.predicate.kinds.ClauseKind.TheVariants.{WellFormed, ConstEvaluatable}
use Rattle.relation_terms.specs.declared.predicate.kinds.ClauseKind.TheVariants.{HostEffect, UnstableFeature}
use Rattle.relation_terms.specs.declared.predicate.kinds.PredicateKind.{PredicateKind}
use Rattle.relation_terms.specs.declared.predicate.kinds.PredicateKind.TheVariants.{Clause, Subtype, Coerce}
use Rattle.relation_terms.specs.declared.predicate.kinds.PredicateKind.TheVariants.{NormalizesTo, AliasRelate, Ambiguous}

-- Which kind of alias a term is, and its id.
abbrev pub alias_term_kind : {Id : Type 0} → TermKindOf Id → AliasTermKind
alias_term_kind (ProjectionTy d) = type_alias projection_alias
alias_term_kind (InherentTy d) = type_alias inherent_alias
alias_term_kind (OpaqueTy d) = type_alias opaque_alias
alias_term_kind (FreeTy d) = type_alias free_alias
alias_term_kind (UnevaluatedConst d) = unevaluated_const
alias_term_kind (ProjectionConst d) = projection_const
alias_term_kind (FreeConst d) = free_const
alias_term_kind (InherentConst d) = inherent_const

abbrev pub alias_term_id : {Id : Type 0} → TermKindOf Id → Id
alias_term_id (ProjectionTy d) = d.0
alias_term_id (InherentTy d) = d.0
alias_term_id (OpaqueTy d) = d.0
alias_term_id (FreeTy d) = d.0
alias_term_id (UnevaluatedConst d) = d.0
alias_term_id (ProjectionConst d) = d.0
alias_term_id (FreeConst d) = d.0
alias_term_id (InherentConst d) = d.0

-- The alias of a kind that an item is.
abbrev pub alias_of : {Id : Type 0} → Id → AliasTermKind → TermKindOf Id
alias_of d (type_alias projection_alias) = ProjectionTy (record { 0 = d })
alias_of d (type_alias inherent_alias) = InherentTy (record { 0 = d })
alias_of d (type_alias opaque_alias) = OpaqueTy (record { 0 = d })
alias_of d (type_alias free_alias) = FreeTy (record { 0 = d })
alias_of d unevaluated_const = UnevaluatedConst (record { 0 = d })
alias_of d projection_const = ProjectionConst (record { 0 = d })
alias_of d free_const = FreeConst (record { 0 = d })
alias_of d inherent_const = InherentConst (record { 0 = d })

module _ {Key Id Name : Type 0} (m : Meaning Key Id Name) where
  -- Of the item of an id: the variances at which an alias type of it is related, the trait that declares it, and the
  -- alias that it is.
  abbrev pub item_alias_variances : Id → Option (List Variance)
  item_alias_variances d = m.alias_variances (m.id d)

  abbrev pub item_parent : Id → Option ℕ
  item_parent d = (m.tables).parent (m.id d)

  abbrev pub item_alias : Id → Option (TermKindOf Id)
  item_alias d = option_map (alias_of d) ((m.tables).alias_kind (m.id d))

  -- The tree of a trait with its arguments, and of an alias with its own.
  abbrev pub trait_ref_tree : TraitRef Key Id → Tree
  trait_ref_tree t = node (trait_ref (m.id (t.def_id).0)) (m.args t.args)

  abbrev pub alias_term_tree : AliasTerm Key Id → Tree
  alias_term_tree a = node (alias_term (alias_term_kind a.kind) (m.id (alias_term_id a.kind))) (m.args a.args)

  -- The tree of a clause's outermost form.
  abbrev pub clause_kind_tree : ClauseKind Key Id Name → Tree
  clause_kind_tree (Trait p) = node (trait_clause p.polarity) (cons (trait_ref_tree p.trait_ref) nil)
  clause_kind_tree (RegionOutlives p) = node region_outlives (cons (m.region p.0) (cons (m.region p.1) nil))
  clause_kind_tree (TypeOutlives p) = node type_outlives (cons (m.ty p.0) (cons (m.region p.1) nil))
  clause_kind_tree (Projection p) =
      node projection (cons (alias_term_tree p.projection_term) (cons (term_tree m p.term) nil))
  clause_kind_tree (ConstArgHasType c t) = node const_has_type (cons (m.const_ c) (cons (m.ty t) nil))
  clause_kind_tree (WellFormed a) = node well_formed (cons (term_tree m a) nil)
  clause_kind_tree (ConstEvaluatable c) = node const_evaluatable (cons (m.const_ c) nil)
  clause_kind_tree (HostEffect p) = node (host_effect p.constness) (cons (trait_ref_tree p.trait_ref) nil)
  clause_kind_tree (UnstableFeature s) = leaf (atom (unstable_feature (m.name s)))

  -- The tree of a predicate's outermost form.
  abbrev pub predicate_kind_tree : PredicateKind Key Id Name → Tree
  predicate_kind_tree (Clause c) = clause_kind_tree c
  predicate_kind_tree (Subtype p) = node (subtype p.a_is_expected) (cons (m.ty p.a) (cons (m.ty p.b) nil))
  predicate_kind_tree (Coerce p) = node coerce (cons (m.ty p.a) (cons (m.ty p.b) nil))
  predicate_kind_tree (NormalizesTo p) =
      node normalizes_to (cons (alias_term_tree p.alias) (cons (term_tree m p.term) nil))
  predicate_kind_tree (AliasRelate a b d) = node (alias_relate d) (cons (term_tree m a) (cons (term_tree m b) nil))
  predicate_kind_tree Ambiguous = leaf (atom ambiguous)

  -- The trees of a clause and of a predicate under their binders.
  abbrev pub clause_tree : Binder Key (ClauseKind Key Id Name) → Tree
  clause_tree b = under (m.bound_vars b.bound_vars) (clause_kind_tree b.value)

  abbrev pub predicate_tree : Binder Key (PredicateKind Key Id Name) → Tree
  predicate_tree b = under (m.bound_vars b.bound_vars) (predicate_kind_tree b.value)
