-- What a relating call has done.
--
--   Outcome c e way st st' gs more a b            a and b were brought together: st' and the goals gs and more relate
--                                                 them, and no equal pair is lost
--   StepsTo c e st st' gs more way a b way' x y   a step led from a and b to x and y: what relates these relates those
--   AreOneUnder way s a b                         s makes both one tree
--   NeverOne way st a b                           no assignment that satisfies st does
--   Exact st st' a b                              up to erasure, just the solutions of st that unify a and b are those
--                                                 of st'
--   ExactStep st st' a b x y                      the same where x and y are to be unified yet
--   NoUnifier st a b                              up to erasure, no solution of st unifies a and b
--   Front c e h v i st st' gs more xs ys          of two lists of parts of a form h at v the first i were brought
--                                                 together
--   ExactFront i st st' xs ys                     what exactness says of that
--   KeepsOne way st st' a b                       what made a and b one extends to st', however it ended
--   KeepsUnified st st' a b                       so does what unified them, up to erasure
--   KeepsAll st st'                               each solution does
use Rattle.std.specs.Prelude.{◌≡◌, ℕ, ◌<◌, List, ◌++◌, All}
use Rattle.term_enums.specs.declared.Variance.{Variance}
use Rattle.relation_terms.specs.Heads.{Head}
use Rattle.relation_terms.specs.Trees.{Tree, Assign, apply, nth}
use Rattle.relation_semantics.specs.Relation.{Items, Interpretation, Way, at, parts, second_opened, first_opened, part_at}
use Rattle.relation_semantics.specs.Relation.{Rel}
use Rattle.relation_semantics.specs.Stores.{Store, Satisfies}
use Rattle.relation_semantics.specs.Goals.{Goal, Holds, GoalInContext, MakesOneTree}
use Rattle.relation_semantics.specs.FirstOrder.{Unifies, IsErasedSolution}
use Rattle.relation_semantics.specs.Steps.{IsLater, HasExtension, HasErasedExtension}

-- The two things that are brought together are one under an assignment; of binders, with their lists of variables.
abbrev pub AreOneUnder : Way → Assign → Tree → Tree → Type 0
AreOneUnder (at v) s a b = apply s a ≡ apply s b
AreOneUnder (parts h i v) s a b = apply s a ≡ apply s b
AreOneUnder (second_opened ks ls v) s a b = (ks ≡ ls) × (apply s a ≡ apply s b)
AreOneUnder (first_opened ks ls v) s a b = (ks ≡ ls) × (apply s a ≡ apply s b)

-- Two things were brought together: terms, parts of a form, or binders at one round. What satisfies the store after
-- and makes the whole list of goals true relates them. What satisfied the store before and made them one extends to
-- the store after and makes both sides of each added goal one tree.
pub record Outcome (c : Items) (e : Tree) (way : Way) (before after : Store) (earlier added : List Goal)
    (a b : Tree) : Type 0 where
  pub later : IsLater before after
  pub goals_in : All (GoalInContext after) added
  pub relates : (w : Interpretation) (s : Assign) → Satisfies w after s → All (Holds c w s) (earlier ++ added) →
      Rel c w e way (apply s a) (apply s b)
  pub keeps : (w : Interpretation) (s : Assign) → Satisfies w before s → AreOneUnder way s a b →
      HasExtension before s (λ s'. Satisfies w after s' × All (MakesOneTree s') added)

-- What relates one pair relates another, under each assignment that satisfies the store and makes the goals true.
abbrev pub CarriesOver : Items → Tree → Store → List Goal → Way → Tree → Tree → Way → Tree → Tree → Type 0
CarriesOver c e st goals way' x y way a b = (w : Interpretation) (s : Assign) → Satisfies w st s →
    All (Holds c w s) goals → Rel c w e way' (apply s x) (apply s y) → Rel c w e way (apply s a) (apply s b)

-- A step was taken from one pair to another that is to be related yet, at its own exit: what relates the pair that is
-- left relates the first, and what made the first one extends to make the pair that is left one.
pub record StepsTo (c : Items) (e : Tree) (before after : Store) (earlier added : List Goal) (way : Way)
    (a b : Tree) (way' : Way) (x y : Tree) : Type 0 where
  pub later : IsLater before after
  pub goals_in : All (GoalInContext after) added
  pub relates : CarriesOver c e after (earlier ++ added) way' x y way a b
  pub keeps : (w : Interpretation) (s : Assign) → Satisfies w before s → AreOneUnder way s a b →
      HasExtension before s (λ s'. Satisfies w after s' × All (MakesOneTree s') added × AreOneUnder way' s' x y)

-- The type-error half: no earlier satisfying assignment makes them one.
abbrev pub NeverOne : Way → Store → Tree → Tree → Type 0
NeverOne way before a b = (w : Interpretation) (s : Assign) → Satisfies w before s → AreOneUnder way s a b → ⊥

-- The same of two terms.
abbrev pub NoEqualTerms : Store → Tree → Tree → Type 0
NoEqualTerms before a b = (w : Interpretation) (s : Assign) → Satisfies w before s → apply s a ≡ apply s b → ⊥

-- Exact, up to erasure: just the earlier solutions that unify are left.
pub record Exact (before after : Store) (a b : Tree) : Type 0 where
  pub later : IsLater before after
  pub shrinks : (s : Assign) → IsErasedSolution after s → IsErasedSolution before s × Unifies s a b
  pub keeps : (s : Assign) → IsErasedSolution before s → Unifies s a b →
      HasErasedExtension before s (IsErasedSolution after)

-- The same of a step to a pair that is left.
pub record ExactStep (before after : Store) (a b x y : Tree) : Type 0 where
  pub later : IsLater before after
  pub shrinks : (s : Assign) → IsErasedSolution after s → Unifies s x y → IsErasedSolution before s × Unifies s a b
  pub keeps : (s : Assign) → IsErasedSolution before s → Unifies s a b →
      HasErasedExtension before s (λ s'. IsErasedSolution after s' × Unifies s' x y)

-- No assignment that met the store before, up to erasure, unifies the terms.
abbrev pub NoUnifier : Store → Tree → Tree → Type 0
NoUnifier before a b = (s : Assign) → IsErasedSolution before s → Unifies s a b → ⊥

-- The first `i` parts of two lists of parts of a form at a variance were brought together.
pub record Front (c : Items) (e : Tree) (h : Head) (v : Variance) (i : ℕ) (before after : Store)
    (earlier added : List Goal) (xs ys : Tree) : Type 0 where
  pub later : IsLater before after
  pub goals_in : All (GoalInContext after) added
  pub relates : (w : Interpretation) (s : Assign) → Satisfies w after s → All (Holds c w s) (earlier ++ added) →
      (j : ℕ) → j < i → Rel c w e (at (part_at c h j v)) (apply s (nth j xs)) (apply s (nth j ys))
  pub keeps : (w : Interpretation) (s : Assign) → Satisfies w before s → apply s xs ≡ apply s ys →
      HasExtension before s (λ s'. Satisfies w after s' × All (MakesOneTree s') added)

-- The same of exactness.
pub record ExactFront (i : ℕ) (before after : Store) (xs ys : Tree) : Type 0 where
  pub later : IsLater before after
  pub shrinks : (s : Assign) → IsErasedSolution after s → IsErasedSolution before s
  pub unifies : (s : Assign) → IsErasedSolution after s → (j : ℕ) → j < i → Unifies s (nth j xs) (nth j ys)
  pub keeps : (s : Assign) → IsErasedSolution before s → Unifies s xs ys →
      HasErasedExtension before s (IsErasedSolution after)

-- What made two things one extends to what is recorded after, however bringing them together ended.
abbrev pub KeepsOne : Way → Store → Store → Tree → Tree → Type 0
KeepsOne way before after a b = (w : Interpretation) (s : Assign) → Satisfies w before s → AreOneUnder way s a b →
    HasExtension before s (λ s'. Satisfies w after s')

-- Up to erasure, what unified two terms does.
abbrev pub KeepsUnified : Store → Store → Tree → Tree → Type 0
KeepsUnified before after a b = (s : Assign) → IsErasedSolution before s → Unifies s a b →
    HasErasedExtension before s (IsErasedSolution after)

-- Each solution does.
abbrev pub KeepsAll : Store → Store → Type 0
KeepsAll before after = (w : Interpretation) (s : Assign) → Satisfies w before s →
    HasExtension before s (λ s'. Satisfies w after s')
