-- What regions the rows of an answer have. Whatever is so of all regions that it names, and of all that constraints speak
-- of, is so of them.
use Rattle.std.specs.Prelude.{Bool, IsTrue, IfSome, List, All}
use Rattle.relation_terms.specs.declared.predicate.regions.OutlivesPredicate.{OutlivesPredicate}
use Rattle.relation_terms.specs.declared.predicate.regions.RegionConstraint.{RegionConstraint}
use Rattle.relation_terms.specs.declared.predicate.regions.RegionConstraint.TheVariants.{Outlives, Eq}
use Rattle.relation_terms.specs.declared.terms.generic_arg.GenericArgKind.{GenericArgKind}
use Rattle.relation_terms.specs.declared.terms.generic_arg.GenericArgKind.TheVariants.{Lifetime, Ty, Const}
use Rattle.relation_terms.specs.declared.terms.keys.RegionKey.{RegionKey}
use Rattle.relation_regions.specs.declared.solving.Solved.{Solved}
use Rattle.text_users.specs.declared.rows.Row.{Row}
use Rattle.text_users.specs.Solved.{AreSuch, NamesSuch}

module _ {Key : Type 0} (is : RegionKey Key → Bool) where
  -- An argument that is a region is such a one.
  abbrev pub IsSuchArg : GenericArgKind Key → Type 0
  IsSuchArg (Lifetime r) = IsTrue (is r)
  IsSuchArg (Ty t) = Unit {0}
  IsSuchArg (Const t) = Unit {0}

  -- The regions of which a constraint speaks are such.
  abbrev pub SpeaksOfSuch : RegionConstraint Key → Type 0
  SpeaksOfSuch (Outlives o) = IsSuchArg o.0 × IsTrue (is o.1)
  SpeaksOfSuch (Eq e) = IsTrue (is e.0) × IsTrue (is e.1)

  -- The regions of a row are such.
  pub record HasSuch (row : Row Key) : Type 0 where
    pub first : IfSome row.first (λ r. IsTrue (is r))
    pub second : IfSome row.second (λ r. IsTrue (is r))

module _ {Key : Type 0} where
  abbrev pub IsOfNone : Row Key → Type 0
  IsOfNone row = (is : RegionKey Key → Bool) → HasSuch is row

  abbrev pub IsOfValues : List (OutlivesPredicate Key (RegionKey Key)) → Row Key → Type 0
  IsOfValues values row = (is : RegionKey Key → Bool) → All (AreSuch is) values → HasSuch is row

  abbrev pub IsOfConstraint : RegionConstraint Key → Row Key → Type 0
  IsOfConstraint constraint row = (is : RegionKey Key → Bool) → SpeaksOfSuch is constraint → HasSuch is row

  abbrev pub IsOfConstraints : List (RegionConstraint Key) → Row Key → Type 0
  IsOfConstraints constraints row = (is : RegionKey Key → Bool) → All (SpeaksOfSuch is) constraints → HasSuch is row

  abbrev pub IsOfAnswer : Solved Key → List (RegionConstraint Key) → Row Key → Type 0
  IsOfAnswer solved constraints row = (is : RegionKey Key → Bool) → NamesSuch is solved →
      All (SpeaksOfSuch is) constraints → HasSuch is row
