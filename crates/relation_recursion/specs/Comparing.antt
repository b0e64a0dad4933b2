-- What comparing two terms says, by their keys.
use Rattle.std.specs.Prelude.{◌≡◌, ℕ, Bool, true, false}
use Rattle.relation_terms.specs.declared.terms.alias.UnevaluatedConst.{UnevaluatedConst}
use Rattle.relation_terms.specs.declared.predicate.existential.ExistentialPredicate.{ExistentialPredicate}
use Rattle.relation_terms.specs.declared.terms.fn_sig.FnSig.{FnSig}
use Rattle.relation_terms.specs.declared.terms.keys.ConstKey.{ConstKey}
use Rattle.relation_terms.specs.declared.terms.keys.ExistentialPredicatesKey.{ExistentialPredicatesKey}
use Rattle.relation_terms.specs.declared.terms.part_kind.Part.{Part}
use Rattle.relation_terms.specs.Heads.{AliasTermKind, type_alias, opaque_alias, object}
use Rattle.relation_terms.specs.declared.predicate.alias_term.AliasTerm.{AliasTerm}
use Rattle.relation_terms.specs.declared.predicate.trait_ref.TraitRef.{TraitRef}
use Rattle.relation_terms.specs.Predicates.{alias_term_tree, trait_ref_tree}
use Rattle.relation_terms.specs.Trees.{Tree, node, count, nth}
use Rattle.relation_terms.specs.Meaning.{Meaning, existential_tree, signature_tree}
use Rattle.relation_terms.specs.Parts.{part_tree}
use Rattle.relation_folds.specs.declared.error.TypeError.{TypeError}
use Rattle.relation_semantics.specs.Errors.{AreOfOneForm, AreAlikeMembers, SignatureError, ExistentialError, PartError}
use Rattle.relation_semantics.specs.Errors.{ItemError}
use Rattle.relation_semantics.specs.Relation.{plain}
use Rattle.relation_steps.specs.declared.arguments.ArgVariances.TheVariants.{AliasTerm as OfAliasTerm, Trait as OfTrait}
use Rattle.relation_steps.specs.Arguments.{args_head}
use Rattle.relation_semantics.specs.Parts.{direct_parts, const_parts_of}

-- Of an alias term the kind of an opaque type alone is looked at.
abbrev pub is_opaque_kind : AliasTermKind → Bool
is_opaque_kind (type_alias opaque_alias) = true
is_opaque_kind k = false

module _ {Key Id Name : Type 0} where
  -- Two that have trees are of one form, with as many parts.
  abbrev pub AreOfOneFormBy : {A : Type 0} → (Meaning Key Id Name → A → Tree) → Meaning Key Id Name → A → A → Type 0
  AreOfOneFormBy tree m a b = AreOfOneForm (tree m a) (tree m b)

  -- Two unevaluated constants are of one item, with as many arguments.
  abbrev pub AreOfOneItem : Meaning Key Id Name → UnevaluatedConst Key Id → UnevaluatedConst Key Id → Type 0
  AreOfOneItem m a b = (m.id (a.def).0 ≡ m.id (b.def).0) × (count (m.args a.args) ≡ count (m.args b.args))

  -- Two alias terms, or two trait references, are of one form, an alias's kind aside but for opaque types, with as many
  -- arguments.
  abbrev pub AreOfOneAliasTerm : Meaning Key Id Name → AliasTerm Key Id → AliasTerm Key Id → Type 0
  AreOfOneAliasTerm m a b = (plain (args_head m (OfAliasTerm a.kind)) ≡ plain (args_head m (OfAliasTerm b.kind))) ×
      (count (m.args a.args) ≡ count (m.args b.args))

  abbrev pub AreOfOneTraitRef : Meaning Key Id Name → TraitRef Key Id → TraitRef Key Id → Type 0
  AreOfOneTraitRef m a b = (args_head m (OfTrait a.def_id) ≡ args_head m (OfTrait b.def_id)) ×
      (count (m.args a.args) ≡ count (m.args b.args))

  -- The error of two that are not.
  abbrev pub AliasTermsDiffer : Meaning Key Id Name → AliasTerm Key Id → AliasTerm Key Id → TypeError Key Id Name → Type 0
  AliasTermsDiffer m a b = ItemError m (alias_term_tree m a) (alias_term_tree m b)

  abbrev pub TraitRefsDiffer : Meaning Key Id Name → TraitRef Key Id → TraitRef Key Id → TypeError Key Id Name → Type 0
  TraitRefsDiffer m a b = ItemError m (trait_ref_tree m a) (trait_ref_tree m b)

  -- The predicates of a trait object, as a list, and as the form over them.
  abbrev pub object_members : Meaning Key Id Name → ExistentialPredicatesKey Key → Tree
  object_members m x = m.existential_predicates x

  abbrev pub object_form : Meaning Key Id Name → ExistentialPredicatesKey Key → Tree
  object_form m x = node object (m.existential_predicates x)

  -- The part of a term, or of a constant, at a place.
  abbrev pub nth_part : Meaning Key Id Name → ℕ → Part Key Id → Tree
  nth_part m i t = nth i (direct_parts (part_tree m t))

  abbrev pub nth_const_part : Meaning Key Id Name → ℕ → ConstKey Key → Tree
  nth_const_part m i c = nth i (const_parts_of (m.const_ c))

  -- Two trait objects have predicates of one form at a place.
  abbrev pub AreAlikeAt : Meaning Key Id Name → ℕ → Part Key Id → Part Key Id → Type 0
  AreAlikeAt m i a b = AreAlikeMembers (nth_part m i a) (nth_part m i b)

  -- The error of two signatures, of two predicates of trait objects, or of two parts, that differ.
  abbrev pub SignaturesDiffer : Meaning Key Id Name → FnSig Key → FnSig Key → TypeError Key Id Name → Type 0
  SignaturesDiffer m a b = SignatureError (signature_tree m a) (signature_tree m b)

  abbrev pub ExistentialsDiffer : Meaning Key Id Name → ExistentialPredicate Key Id → ExistentialPredicate Key Id →
      TypeError Key Id Name → Type 0
  ExistentialsDiffer m a b = ExistentialError m (existential_tree m a) (existential_tree m b)

  abbrev pub PartsDiffer : Meaning Key Id Name → Part Key Id → Part Key Id → TypeError Key Id Name → Type 0
  PartsDiffer m a b = PartError m (part_tree m a) (part_tree m b)
