-- What a relation of terms without variables records, and how it stands.
use Rattle.std.specs.Prelude.{true, false, List, [], map, All}
use Rattle.term_enums.specs.declared.Variance.{Variance}
use Rattle.relation_terms.specs.declared.predicate.regions.RegionConstraint.{RegionConstraint}
use Rattle.relation_terms.specs.declared.terms.keys.TyKey.{TyKey}
use Rattle.relation_terms.specs.Heads.{environment, Leaf, variable, bound}
use Rattle.relation_terms.specs.Trees.{leaf, node, nil, Assign}
use Rattle.relation_terms.specs.Meaning.{Meaning}
use Rattle.relation_semantics.specs.Relation.{Interpretation, Rel, at}
use Rattle.relation_semantics.specs.Stores.{Store, IsSound, ConstraintHolds}
use Rattle.relation_semantics.specs.Constraints.{constraint_of}
use Rattle.relation_semantics.specs.declared.infer_ctxt.TypingMode.TheVariants.{PostAnalysis}
use Rattle.term_enums.specs.declared.StructurallyRelateAliases.TheVariants.{Yes}
use Rattle.relation_semantics.specs.Lawful.{State, Kept, Manners, Asked, items_of}
use Rattle.relation_semantics.specs.Settings.{Settings}

-- Aliases are related by their items and arguments, arguments of items at declared variances at invariance too, and no
-- goal is left to a solver.
abbrev pub plain_settings : Settings
plain_settings = record {
  structurally_relate_aliases = Yes;
  next_solver = true;
  coherence = false;
  declared_at_invariance = true;
}

module _ {Key Id Name : Type 0} (m : Meaning Key Id Name) where
  -- The store without variables that has recorded these.
  abbrev pub plain_store : List (RegionConstraint Key) → Store
  plain_store cs = record {
    entries = λ k. [];
    universes = λ k. [];
    universe = 0;
    constraints = map (constraint_of m) cs;
    tainted = false;
    budget = 0;
  }

  -- It registers no goal, so any environment would do; and it holds no reference, and no type that is to outlive a region.
  abbrev pub plain_kept : Kept Key
  plain_kept = record {
    environment = node environment nil;
    settings = plain_settings;
    mode = PostAnalysis;
    reference = 0;
    outliving = [];
  }

  -- The relation at a variance, with these recorded. It remembers nothing. It is lawful where each constraint is on
  -- regions without variables that its interner knows.
  abbrev pub plain_state : Variance → List (RegionConstraint Key) → State Key Id Name
  plain_state v cs = record {
    meaning = m;
    store = plain_store cs;
    goals = [];
    kept = plain_kept;
    ambient = v;
    remembered = [];
    lawful = IsSound (plain_store cs);
  }

-- Nothing that a binder binds.
abbrev pub IsUnbound : Leaf → Type 0
IsUnbound (bound k d i) = ⊥
IsUnbound l = Unit {0}

-- It takes all terms in which no binder binds anything, is exact, and records just what is asked of regions and of bare
-- terms. It registers nothing, and what it relates agrees.
abbrev pub plain_manner : Manners
plain_manner k = record {
  takes = λ v l. IsUnbound l;
  is_exact = Unit {0};
  records_asked = Unit {0};
  registers_alone = ⊥;
  relates_agreeing = Unit {0};
}

-- Each variable stands for itself.
abbrev pub as_is : Assign
as_is k n = leaf (variable k n)

module _ {I Key Id Name : Type 0} (meaning : I → Meaning Key Id Name) (cx : I) (v : Variance) (a b : TyKey Key) where
  -- Two types of an interner are such as a relation at a variance takes that has recorded nothing.
  abbrev pub AskedPlainly : Type 0
  AskedPlainly = Asked plain_manner (plain_state (meaning cx) v []) v ((meaning cx).ty a) ((meaning cx).ty b)

  -- They are related at it wherever these constraints hold, by what keys mean to the interner as it is then.
  abbrev pub RelatedUnder : I → List (RegionConstraint Key) → Type 0
  RelatedUnder after cs = (w : Interpretation) →
      All (ConstraintHolds w as_is) (map (constraint_of (meaning after)) cs) →
      Rel (items_of (meaning cx)) w (node environment nil) (at v) ((meaning cx).ty a) ((meaning cx).ty b)
