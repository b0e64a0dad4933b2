-- What is asked of an interner where what predicates say is edited, and what is then of the keys that were made.
use Rattle.std.specs.Prelude.{◌≡◌, ◌-◌, IsTrue, List, Some, length, drop}
use Rattle.relation_terms.specs.Trees.{Tree, cons, list_tree, known, nth}
use Rattle.relation_terms.specs.Meaning.{Meaning, arg_tree, existential_tree}
use Rattle.relation_terms.specs.Predicates.{alias_term_id, item_parent, item_alias}
use Rattle.relation_terms.specs.Predicates.{clause_kind_tree, predicate_kind_tree}
use Rattle.relation_terms.specs.Edits.{first_of, behind_first, put_before, with_first, param_trees, error_trees}
use Rattle.relation_terms.specs.Aliases.{parent_count}
use Rattle.relation_terms.specs.Objects.{self_clause}
use Rattle.relation_terms.specs.Conversions.{trait_clause_tree, host_effect_tree}
use Rattle.term_enums.specs.declared.BoundConstness.{BoundConstness}
use Rattle.term_enums.specs.declared.PredicatePolarity.TheVariants.{Positive}
use Rattle.relation_terms.specs.declared.terms.binder.Binder.{Binder}
use Rattle.relation_terms.specs.declared.terms.generic_arg.GenericArgKind.{GenericArgKind}
use Rattle.relation_terms.specs.declared.terms.ids.TraitId.{TraitId}
use Rattle.relation_terms.specs.declared.terms.keys.ArgsKey.{ArgsKey}
use Rattle.relation_terms.specs.declared.terms.keys.ClauseKey.{ClauseKey}
use Rattle.relation_terms.specs.declared.terms.keys.TyKey.{TyKey}
use Rattle.relation_terms.specs.declared.predicate.alias_term.AliasTerm.{AliasTerm}
use Rattle.relation_terms.specs.declared.predicate.alias_term.NormalizesTo.{NormalizesTo}
use Rattle.relation_terms.specs.declared.predicate.alias_term.ProjectionPredicate.{ProjectionPredicate}
use Rattle.relation_terms.specs.declared.predicate.existential.ExistentialPredicate.{ExistentialPredicate}
use Rattle.relation_terms.specs.declared.predicate.existential.ExistentialPredicate.TheVariants as object
use Rattle.relation_terms.specs.declared.predicate.existential.ExistentialProjection.{ExistentialProjection}
use Rattle.relation_terms.specs.declared.predicate.existential.ExistentialTraitRef.{ExistentialTraitRef}
use Rattle.relation_terms.specs.declared.predicate.kinds.ClauseKind.TheVariants as clause
use Rattle.relation_terms.specs.declared.predicate.kinds.PredicateKind.TheVariants as predicate
use Rattle.relation_terms.specs.declared.predicate.trait_ref.HostEffectPredicate.{HostEffectPredicate}
use Rattle.relation_terms.specs.declared.predicate.trait_ref.TraitPredicate.{TraitPredicate}
use Rattle.relation_terms.specs.declared.predicate.trait_ref.TraitRef.{TraitRef}

module _ {Key Id Name : Type 0} (m : Meaning Key Id Name) where
  -- The list of these arguments.
  abbrev pub args_tree : List (GenericArgKind Key) → Tree
  args_tree xs = list_tree (arg_tree m) xs

  -- The arguments of an alias that stand behind those of the trait that declares its item.
  abbrev pub own_args : AliasTerm Key Id → Tree
  own_args a = behind_first (parent_count m (alias_term_id a.kind)) (m.args a.args)

  -- Known is what a trait object implements, a trait or a projection.
  abbrev pub KnowsExistentialTrait : ExistentialTraitRef Key Id → Type 0
  KnowsExistentialTrait t = IsTrue (known (existential_tree m (object.Trait t)))

  abbrev pub KnowsExistentialProjection : ExistentialProjection Key Id → Type 0
  KnowsExistentialProjection p = IsTrue (known (existential_tree m (object.Projection p)))

  -- Known is the clause that an alias comes to a term, and the predicate that it does so by one step.
  abbrev pub KnowsProjection : ProjectionPredicate Key Id → Type 0
  KnowsProjection p = IsTrue (known (clause_kind_tree m (clause.Projection p)))

  abbrev pub KnowsNormalizesTo : NormalizesTo Key Id → Type 0
  KnowsNormalizesTo p = IsTrue (known (predicate_kind_tree m (predicate.NormalizesTo p)))

  -- A type is the first of the arguments.
  abbrev pub IsSelf : TyKey Key → ArgsKey Key → Type 0
  IsSelf s args = m.ty s ≡ nth 0 (m.args args)

  -- By the tables a trait declares an item.
  abbrev pub Declares : TraitId Id → Id → Type 0
  Declares t d = Some (m.id t.0) ≡ item_parent m d

  -- By the tables the alias that a predicate speaks of is the item of a trait object's projection.
  abbrev pub IsOfItem : ExistentialProjection Key Id → ProjectionPredicate Key Id → Type 0
  IsOfItem e p = Some (p.projection_term).kind ≡ item_alias m (e.def_id).0

-- Between what an interner is before a call and after it: from arguments that it was given, those that it made.
module _ {I Key Id Name : Type 0} (meaning : I → Meaning Key Id Name) (c d : I) where
  -- They begin with another type; a type stands before them; their first one is left out.
  abbrev pub OtherSelf : TyKey Key → ArgsKey Key → ArgsKey Key → Type 0
  OtherSelf s args made = (meaning d).args made ≡ with_first ((meaning c).ty s) ((meaning c).args args)

  abbrev pub AfterSelf : TyKey Key → ArgsKey Key → ArgsKey Key → Type 0
  AfterSelf s args made = (meaning d).args made ≡ cons ((meaning c).ty s) ((meaning c).args args)

  abbrev pub BehindSelf : ArgsKey Key → ArgsKey Key → Type 0
  BehindSelf args made = (meaning d).args made ≡ behind_first 1 ((meaning c).args args)

  -- The arguments that a predicate has begin with another type.
  abbrev pub TraitOtherSelf : TyKey Key → TraitPredicate Key Id → TraitPredicate Key Id → Type 0
  TraitOtherSelf s p made = OtherSelf s (p.trait_ref).args (made.trait_ref).args

  abbrev pub HostEffectOtherSelf : TyKey Key → HostEffectPredicate Key Id → HostEffectPredicate Key Id → Type 0
  HostEffectOtherSelf s p made = OtherSelf s (p.trait_ref).args (made.trait_ref).args

  abbrev pub ProjectionOtherSelf : TyKey Key → ProjectionPredicate Key Id → ProjectionPredicate Key Id → Type 0
  ProjectionOtherSelf s p made = OtherSelf s (p.projection_term).args (made.projection_term).args

  abbrev pub NormalizesOtherSelf : TyKey Key → NormalizesTo Key Id → NormalizesTo Key Id → Type 0
  NormalizesOtherSelf s p made = OtherSelf s (p.alias).args (made.alias).args

  -- Of a trait object's trait or projection, the arguments stand after a type; of a predicate, the first is left out.
  abbrev pub TraitAfterSelf : TyKey Key → ExistentialTraitRef Key Id → TraitRef Key Id → Type 0
  TraitAfterSelf s e made = AfterSelf s e.args made.args

  abbrev pub AliasAfterSelf : TyKey Key → ExistentialProjection Key Id → ProjectionPredicate Key Id → Type 0
  AliasAfterSelf s e made = AfterSelf s e.args (made.projection_term).args

  abbrev pub AliasBehindSelf : ProjectionPredicate Key Id → ExistentialProjection Key Id → Type 0
  AliasBehindSelf p made = BehindSelf (p.projection_term).args made.args

  -- As many of the first arguments are taken as a trait has parameters; as the trait has that declares the item of an
  -- alias; and as the trait has, but for the type that implements it, that declares a trait object's projection.
  abbrev pub FirstOfTrait : TraitId Id → ArgsKey Key → ArgsKey Key → Type 0
  FirstOfTrait t args made =
      (meaning d).args made ≡ first_of ((meaning c).generics ((meaning c).id t.0)) ((meaning c).args args)

  abbrev pub FirstOfParent : AliasTerm Key Id → ArgsKey Key → Type 0
  FirstOfParent a made =
      (meaning d).args made ≡ first_of (parent_count (meaning c) (alias_term_id a.kind)) ((meaning c).args a.args)

  abbrev pub FirstWithoutSelf : ExistentialProjection Key Id → ArgsKey Key → Type 0
  FirstWithoutSelf e made =
      (meaning d).args made ≡ first_of (parent_count (meaning c) (e.def_id).0 - 1) ((meaning c).args e.args)

  -- The arguments of an impl, then those of an alias but for its first.
  abbrev pub RebasedArgs : ArgsKey Key → AliasTerm Key Id → ArgsKey Key → Type 0
  RebasedArgs impl_args a made =
      (meaning d).args made ≡ put_before ((meaning c).args impl_args) (behind_first 1 ((meaning c).args a.args))

  -- The generic parameters of an item, each as itself; and given arguments, then errors for those that they leave out.
  abbrev pub IdentityArgs : Id → ArgsKey Key → Type 0
  IdentityArgs i made = (meaning d).args made ≡ param_trees (((meaning c).tables).params ((meaning c).id i))

  abbrev pub ExtendedArgs : Id → List (GenericArgKind Key) → ArgsKey Key → Type 0
  ExtendedArgs i given made = (meaning d).args made ≡ put_before (args_tree (meaning c) given)
      (error_trees (drop (length given) (((meaning c).tables).params ((meaning c).id i))))

  -- A clause that was made: that a trait is implemented, that it is in const contexts by the constness, and what the
  -- predicate of a trait object says of a type.
  abbrev pub IsTraitClause : Binder Key (TraitRef Key Id) → ClauseKey Key → Type 0
  IsTraitClause b made = (meaning d).clause made ≡ trait_clause_tree (meaning c) Positive b

  abbrev pub IsHostEffectClause : BoundConstness → Binder Key (TraitRef Key Id) → ClauseKey Key → Type 0
  IsHostEffectClause constness b made = (meaning d).clause made ≡ host_effect_tree (meaning c) constness b

  abbrev pub IsSelfClause : Binder Key (ExistentialPredicate Key Id) → TyKey Key → ClauseKey Key → Type 0
  IsSelfClause b s made = (meaning d).clause made ≡ self_clause (meaning c) b ((meaning c).ty s)
