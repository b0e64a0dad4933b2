-- Relating two types of which one goal is asked, in a context: that goal, or a refused growth; an error with another;
-- and that a fault loses no solution.
use Rattle.std.proofs.Common.{◌≡◌, ◌<◌, refl, sym, subst, arith, ⊎_elim, List, [], Option, Result, Ok, Err}
use Rattle.std.proofs.lemmas.List.Elements.{All-nil}
use Rattle.std.specs.Global.{Vec}
use Rattle.term_enums.specs.declared.Variance.{Variance}
use Rattle.term_enums.specs.declared.Variance.TheVariants.{Invariant}
use Rattle.relation_terms.specs.declared.terms.goal.Goal.{Goal}
use Rattle.relation_terms.specs.declared.terms.keys.PredicateKey.{PredicateKey}
use Rattle.relation_terms.specs.declared.terms.keys.ParamEnvKey.{ParamEnvKey}
use Rattle.relation_terms.specs.Heads.{Head}
use Rattle.relation_terms.specs.Trees.{Tree}
use Rattle.relation_terms.specs.Meaning.{Meaning}
use Rattle.relation_folds.specs.declared.error.RelateFault.{RelateFault}
use Rattle.relation_folds.specs.declared.error.RelateFault.TheVariants.{Memory, Budget, Unrelated}
use Rattle.term_enums.specs.declared.StructurallyRelateAliases.{StructurallyRelateAliases}
use Rattle.relation_semantics.specs.Contexts.{Context}
use Rattle.relation_semantics.specs.Errors.{Meeting}
use Rattle.relation_semantics.specs.Goals.{Goal as GoalOf, MakesOneTree}
use Rattle.relation_semantics.specs.Headline.{IsFirstOrderPair, KeepsEqualTerms}
use Rattle.relation_semantics.specs.Lawful.{State, RefusesAs, ExactResult}
use Rattle.relation_semantics.specs.Outcomes.{KeepsOne, KeepsUnified}
use Rattle.relation_semantics.specs.Relation.{Way, at}
use Rattle.relation_semantics.specs.Stores.{Store}
use Rattle.relation_semantics.specs.Alphabets.{StaysBuilt}
use Rattle.relation_semantics.proofs.BuildingSteps.{built_refused}
use Rattle.context_relation.specs.Relating.{term_in, AnswersAlone, AnswersAsked, BuildsNoMore, TaintsForError, AsksIfOpen}
use Rattle.context_relation.specs.Relating.{KeepsEqual, AnswersExactly}
use Rattle.relation_steps.specs.Alone.{RegistersAlone, RelatesAtOnce, RelatesError}
use Rattle.relation_combining.specs.Solving.{solving_in, solver_manner}
use Rattle.context_relation.proofs.Closed.{none_keyed}

-- What else might have been answered is of no matter.
module _ {S Key Id Name A : Type 0} (aliases : StructurallyRelateAliases) (X : Type 0) (state : S → Context Key Id Name)
    (old new : S) (over : Option Head)
    (tree : Meaning Key Id Name → A → Tree) (e : ParamEnvKey Key) (v : Variance) (a b : A)
    (hs : List (Goal Key (PredicateKey Key))) where
  refused : (p : Tree) (f : RelateFault Key Id Name) →
      RegistersAlone {X = X} (solving_in aliases [] (state old) v e) (solving_in aliases hs (state new) v e) p (Err f) →
      AnswersAlone state old new over tree e p (Err f)
  refused p Memory h = h
  refused p Budget h = h
  refused p (Unrelated o) h = h

  pub refused_alone_in : (f : RelateFault Key Id Name)
      (res : Result (Vec (Goal Key (PredicateKey Key))) (RelateFault Key Id Name)) → res ≡ Err f →
      RelatesAtOnce {X = X} solver_manner (solving_in aliases [] (state old) v e) (solving_in aliases hs (state new) v e) v
      (term_in (state old) over tree a) (term_in (state old) over tree b) (Err f) →
      AnswersAsked state old new over tree aliases e v a b res
  refused_alone_in f res is h = subst (AnswersAsked state old new over tree aliases e v a b) (sym is)
      (λ differ s t x y p i j asks. refused p f (h.0 tt differ s t x y p i j asks))

-- No goal was there before, so the one that is asked was registered now.
pub answered_alone_in : {S Key Id Name A X : Type 0} (aliases : StructurallyRelateAliases)
    (state : S → Context Key Id Name) (old new : S) (over : Option Head) (tree : Meaning Key Id Name → A → Tree)
    (e : ParamEnvKey Key) (v : Variance) (a b : A) (goals : Vec (Goal Key (PredicateKey Key))) (x : X) →
    RelatesAtOnce solver_manner (solving_in aliases [] (state old) v e) (solving_in aliases goals.items (state new) v e) v
    (term_in (state old) over tree a) (term_in (state old) over tree b) (Ok x) →
    AnswersAsked state old new over tree aliases e v a b (Ok goals)
answered_alone_in {X = X} aliases state old new over tree e v a b goals x h =
    λ differ s t y z p i j asks. just p (h.0 tt differ s t y z p i j asks)
  where
    just : (p : Tree) → RegistersAlone {X = X} (solving_in aliases [] (state old) v e)
        (solving_in aliases goals.items (state new) v e) p (Ok x) → AnswersAlone state old new over tree e p (Ok goals)
    just p o = (o.0, ⊎_elim (λ q. q) (λ q. let c : (q.0).0 < 0 = (q.0).1 in absurd (omega (arith, c))) o.1)

-- What is recorded of an error with another type, where a fault is told and where none is.
module _ {S Key Id Name A : Type 0} (aliases : StructurallyRelateAliases) (state : S → Context Key Id Name)
    (old new : S) (over : Option Head) (tree : Meaning Key Id Name → A → Tree) (e : ParamEnvKey Key) (v : Variance)
    (a b : A) where
  pub refused_taints : (hs : List (Goal Key (PredicateKey Key))) (f : RelateFault Key Id Name)
      (res : Result (Vec (Goal Key (PredicateKey Key))) (RelateFault Key Id Name)) → res ≡ Err f →
      RelatesError solver_manner (solving_in aliases [] (state old) v e) (solving_in aliases hs (state new) v e)
      (term_in (state old) over tree a) (term_in (state old) over tree b) →
      TaintsForError state old new over tree a b res
  refused_taints hs f res is h = subst (TaintsForError state old new over tree a b) (sym is)
      (λ differ s t x y i j n m o. ((h tt refl differ s t x y i j n m o).0, tt))

  pub answered_taints : {X : Type 0} (goals : Vec (Goal Key (PredicateKey Key))) (x : X) →
      RelatesAtOnce solver_manner (solving_in aliases [] (state old) v e) (solving_in aliases goals.items (state new) v e) v
      (term_in (state old) over tree a) (term_in (state old) over tree b) (Ok x) →
      TaintsForError state old new over tree a b (Ok goals)
  answered_taints goals x h = λ differ s t y z i j n m o.
      let k = h.1 tt refl differ s t y z i j n m o in (k.0, none_keyed (state new).meaning goals.items k.1)

  -- What is asked of two over one item.
  pub answered_open : {X : Type 0} (goals : Vec (Goal Key (PredicateKey Key))) (x : X) →
      RelatesAtOnce solver_manner (solving_in aliases [] (state old) v e) (solving_in aliases goals.items (state new) v e) v
      (term_in (state old) over tree a) (term_in (state old) over tree b) (Ok x) →
      AsksIfOpen state old new over tree e v a b (Ok goals)
  answered_open goals x h = λ differ s t y z i j. h.2 tt refl differ s t y z i j

-- Of a fault nothing is said of open arguments.
pub refused_open : {S Key Id Name A : Type 0} (state : S → Context Key Id Name) (old new : S) (over : Option Head)
    (tree : Meaning Key Id Name → A → Tree) (e : ParamEnvKey Key) (v : Variance) (a b : A) (f : RelateFault Key Id Name)
    (res : Result (Vec (Goal Key (PredicateKey Key))) (RelateFault Key Id Name)) → res ≡ Err f →
    AsksIfOpen state old new over tree e v a b res
refused_open state old new over tree e v a b f res is = subst (AsksIfOpen state old new over tree e v a b) (sym is)
    (λ differ s t x y i j. tt)

-- What was bound is built of no more, where goals that were registered are not answered.
pub refused_built : {S Key Id Name A : Type 0} (state : S → Context Key Id Name) (old new : S) (over : Option Head)
    (tree : Meaning Key Id Name → A → Tree) (a b : A) (f : RelateFault Key Id Name)
    (res : Result (Vec (Goal Key (PredicateKey Key))) (RelateFault Key Id Name)) → res ≡ Err f → (gs : List GoalOf) →
    StaysBuilt (state old).store (state new).store gs (term_in (state old) over tree a) (term_in (state old) over tree b) →
    BuildsNoMore state old new over tree a b res
refused_built state old new over tree a b f res is gs h = subst (BuildsNoMore state old new over tree a b) (sym is)
    (built_refused gs (term_in (state old) over tree a) (term_in (state old) over tree b) h)

-- Of what a fault says unless it is a type error.
abbrev pub UnlessApart : {Key Id Name : Type 0} → RelateFault Key Id Name → Type 0 → Type 0
UnlessApart (Unrelated e) P = Unit {0}
UnlessApart f P = P

pub keeps_by : {Key Id Name : Type 0} (x : Meeting) (r q : State Key Id Name) (way : Way) (a b : Tree)
    (f : RelateFault Key Id Name) → RefusesAs x r q way a b f → UnlessApart f (KeepsOne way r.store q.store a b)
keeps_by x r q way a b (Unrelated e) h = tt
keeps_by x r q way a b Budget h = h.2
keeps_by x r q way a b Memory h = h

pub unified_by : {X Key Id Name : Type 0} (tree : X → Tree) (before after : Store) (a b : Tree)
    (f : RelateFault Key Id Name) → ExactResult {X = X} before after a b (Err f) →
    UnlessApart f (KeepsUnified before after a b)
unified_by tree before after a b (Unrelated e) h = tt
unified_by tree before after a b Budget h = h.1
unified_by tree before after a b Memory h = h.1

-- A fault that is no type error loses no solution, as it is handed on.
module _ {S Key Id Name A : Type 0} (state : S → Context Key Id Name) (old new : S) (over : Option Head)
    (tree : Meaning Key Id Name → A → Tree) (v : Variance) (a b : A) where
  pub refused_keeps : (f : RelateFault Key Id Name)
      (res : Result (Vec (Goal Key (PredicateKey Key))) (RelateFault Key Id Name)) → res ≡ Err f →
      UnlessApart f (KeepsOne (at v) (state old).store (state new).store (term_in (state old) over tree a)
      (term_in (state old) over tree b)) → KeepsEqual state old new over tree a b res
  refused_keeps f res is h = subst (KeepsEqual state old new over tree a b) (sym is) (go f h)
    where
      keeps : KeepsOne (at v) (state old).store (state new).store (term_in (state old) over tree a)
          (term_in (state old) over tree b) → KeepsEqualTerms (state old).store (state new).store []
          (term_in (state old) over tree a) (term_in (state old) over tree b)
      keeps k w s sat one = let z = k w s sat one in (z.0, z.1, (z.2, All-nil (MakesOneTree z.0)))

      go : (f : RelateFault Key Id Name) → UnlessApart f (KeepsOne (at v) (state old).store (state new).store
          (term_in (state old) over tree a) (term_in (state old) over tree b)) →
          KeepsEqual state old new over tree a b (Err f)
      go (Unrelated e) h = tt
      go Budget h = keeps h
      go Memory h = keeps h

  pub refused_exactly : (f : RelateFault Key Id Name)
      (res : Result (Vec (Goal Key (PredicateKey Key))) (RelateFault Key Id Name)) → res ≡ Err f →
      (v ≡ Invariant → IsFirstOrderPair (state old).store (term_in (state old) over tree a)
      (term_in (state old) over tree b) → UnlessApart f (KeepsUnified (state old).store (state new).store
      (term_in (state old) over tree a) (term_in (state old) over tree b))) →
      AnswersExactly state old new over tree v a b res
  refused_exactly f res is h = subst (AnswersExactly state old new over tree v a b) (sym is) (go f h)
    where
      go : (f : RelateFault Key Id Name) → (v ≡ Invariant → IsFirstOrderPair (state old).store
          (term_in (state old) over tree a) (term_in (state old) over tree b) → UnlessApart f
          (KeepsUnified (state old).store (state new).store (term_in (state old) over tree a)
          (term_in (state old) over tree b))) → AnswersExactly state old new over tree v a b (Err f)
      go (Unrelated e) h = tt
      go Budget h = h
      go Memory h = h
