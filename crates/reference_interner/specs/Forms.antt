-- What a node is, apart from the memory that it stands in.
use Rattle.std.specs.Prelude.{List}
use Rattle.relation_terms.specs.declared.terms.keys.TyKey.{TyKey}
use Rattle.relation_terms.specs.declared.terms.keys.ConstKey.{ConstKey}
use Rattle.relation_terms.specs.declared.terms.keys.PatKey.{PatKey}
use Rattle.relation_terms.specs.declared.terms.keys.ClauseKey.{ClauseKey}
use Rattle.relation_terms.specs.declared.terms.ty_kind.TyKind.{TyKind}
use Rattle.relation_terms.specs.declared.terms.region_kind.RegionKind.{RegionKind}
use Rattle.relation_terms.specs.declared.terms.const_kind.ConstKind.{ConstKind}
use Rattle.relation_terms.specs.declared.terms.const_kind.ValTreeKind.{ValTreeKind}
use Rattle.relation_terms.specs.declared.terms.pattern_kind.PatternKind.{PatternKind}
use Rattle.relation_terms.specs.declared.terms.generic_arg.GenericArgKind.{GenericArgKind}
use Rattle.relation_terms.specs.declared.predicate.existential.ExistentialPredicate.{ExistentialPredicate}
use Rattle.relation_terms.specs.declared.predicate.kinds.PredicateKind.{PredicateKind}
use Rattle.relation_terms.specs.declared.terms.binder.Binder.{Binder}
use Rattle.relation_terms.specs.declared.terms.binder.BoundVariableKind.{BoundVariableKind}
use Rattle.reference_interner.specs.declared.keys.NodeKey.{NodeKey}
use Rattle.reference_interner.specs.declared.keys.ItemId.{ItemId}
use Rattle.reference_interner.specs.declared.keys.SymbolId.{SymbolId}
use Rattle.reference_interner.specs.declared.node.Node.{Node}
use Rattle.reference_interner.specs.declared.node.Node.TheVariants.{Ty, Region, Const, ValTree, Args, Tys}
use Rattle.reference_interner.specs.declared.node.Node.TheVariants.{Branches, Pat, Alternatives, Predicate, Clauses}
use Rattle.reference_interner.specs.declared.node.Node.TheVariants.{ExistentialPredicates, BoundVars}
use Rattle.reference_interner.specs.ShortLists.{members_of}

-- A node's form, whose lists are plain.
pub data Form : Type 0 where
  ty_form : TyKind NodeKey ItemId SymbolId → Form
  region_form : RegionKind SymbolId → Form
  const_form : ConstKind NodeKey ItemId SymbolId → Form
  valtree_form : ValTreeKind NodeKey → Form
  pattern_form : PatternKind NodeKey → Form
  args_form : List (GenericArgKind NodeKey) → Form
  tys_form : List (TyKey NodeKey) → Form
  branches_form : List (ConstKey NodeKey) → Form
  alternatives_form : List (PatKey NodeKey) → Form
  predicates_form : List (Binder NodeKey (ExistentialPredicate NodeKey ItemId)) → Form
  bound_vars_form : List (BoundVariableKind SymbolId) → Form
  predicate_form : Binder NodeKey (PredicateKind NodeKey ItemId SymbolId) → Form
  clauses_form : List (ClauseKey NodeKey) → Form

-- The form of a node.
abbrev pub form_of : Node → Form
form_of (Ty f) = ty_form f
form_of (Region f) = region_form f
form_of (Const f) = const_form f
form_of (ValTree f) = valtree_form f
form_of (Pat f) = pattern_form f
form_of (Args v) = args_form (members_of v)
form_of (Tys v) = tys_form (members_of v)
form_of (Branches v) = branches_form v.items
form_of (Alternatives v) = alternatives_form v.items
form_of (ExistentialPredicates v) = predicates_form v.items
form_of (BoundVars v) = bound_vars_form v.items
form_of (Predicate f) = predicate_form f
form_of (Clauses v) = clauses_form v.items
