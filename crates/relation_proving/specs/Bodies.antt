-- Clauses whose binders bind nothing, and what two of them say.
--
--   IsBodyOf m k p         the clause says this, under a binder that binds nothing
--   FindsBody m k found    what is found of a clause is what it says so
--   AreOfOneItem m q p     two clauses on aliases are of one item, with as many arguments
--   TellsKinds m q p said   what two clauses are told to say
--   TellsBodies m k g said  the same of two whose binders bind nothing
use Rattle.std.specs.Prelude.{◌≡◌, ◌≢◌, [], Option, Some}
use Rattle.std.specs.Option.{MatchOption}
use Rattle.relation_terms.specs.declared.predicate.alias_term.ProjectionPredicate.{ProjectionPredicate}
use Rattle.relation_terms.specs.declared.predicate.kinds.ClauseKind.{ClauseKind}
use Rattle.relation_terms.specs.declared.predicate.kinds.ClauseKind.TheVariants.{Trait, Projection}
use Rattle.relation_terms.specs.declared.terms.binder.Binder.{Binder}
use Rattle.relation_terms.specs.declared.terms.keys.ClauseKey.{ClauseKey}
use Rattle.relation_terms.specs.Trees.{bind, count}
use Rattle.relation_terms.specs.Meaning.{Meaning}
use Rattle.relation_terms.specs.Predicates.{alias_term_kind, alias_term_id, clause_kind_tree}
use Rattle.relation_proving.specs.Subjects.{AreOfTwo}
use Rattle.relation_proving.specs.declared.comparing.Bodies.{Bodies}
use Rattle.relation_proving.specs.declared.comparing.Bodies.TheVariants.{OfTrait, OfItem, OfTwo, Unclear}

module _ {Key Id Name : Type 0} (m : Meaning Key Id Name) where
  -- A binder binds nothing.
  abbrev pub BindsNothing : Binder Key (ClauseKind Key Id Name) → Type 0
  BindsNothing b = m.bound_vars b.bound_vars ≡ Some []

  -- The body of a binder is found exactly where it binds nothing.
  abbrev pub FindsUnbound : Binder Key (ClauseKind Key Id Name) → Option (ClauseKind Key Id Name) → Type 0
  FindsUnbound b found = MatchOption found (BindsNothing b → ⊥) (λ p. BindsNothing b × (p ≡ b.value))

  -- The clause says this, under a binder that binds nothing.
  abbrev pub IsBodyOf : ClauseKey Key → ClauseKind Key Id Name → Type 0
  IsBodyOf k p = m.clause k ≡ bind [] (clause_kind_tree m p)

  -- What is found of a clause is what it says so, and nothing where its binder binds something.
  abbrev pub FindsBody : ClauseKey Key → Option (ClauseKind Key Id Name) → Type 0
  FindsBody k found =
      MatchOption found ((p : ClauseKind Key Id Name) → m.clause k ≢ bind [] (clause_kind_tree m p)) (λ p. IsBodyOf k p)

  -- Two that say to what an alias comes are of one item, with as many arguments.
  pub record AreOfOneItem (q p : ProjectionPredicate Key Id) : Type 0 where
    pub one_kind : alias_term_kind (q.projection_term).kind ≡ alias_term_kind (p.projection_term).kind
    pub one_id : m.id (alias_term_id (q.projection_term).kind) ≡ m.id (alias_term_id (p.projection_term).kind)
    pub as_many : count (m.args (q.projection_term).args) ≡ count (m.args (p.projection_term).args)

  -- What two clauses say: something of traits, to what an alias of one item comes, or something of two.
  abbrev pub TellsKinds : ClauseKind Key Id Name → ClauseKind Key Id Name → Bodies Key Id → Type 0
  TellsKinds q p (OfTrait a b) = (q ≡ Trait a) × (p ≡ Trait b)
  TellsKinds q p (OfItem a b) = (q ≡ Projection a) × (p ≡ Projection b) × AreOfOneItem a b
  TellsKinds q p OfTwo = AreOfTwo m q p
  TellsKinds q p Unclear = Unit {0}

  -- The same of two whose binders bind nothing.
  pub record AreSaid (k g : ClauseKey Key) (said : Bodies Key Id) : Type 0 where
    pub goal : ClauseKind Key Id Name
    pub given : ClauseKind Key Id Name
    pub asks : IsBodyOf k goal
    pub gives : IsBodyOf g given
    pub tells : TellsKinds goal given said

  abbrev pub TellsBodies : ClauseKey Key → ClauseKey Key → Bodies Key Id → Type 0
  TellsBodies k g Unclear = Unit {0}
  TellsBodies k g said = AreSaid k g said
