-- What solving what is recorded in a later context says of the facts of an earlier one.
use Rattle.std.proofs.Common.{◌≡◌, ℕ, List, All, Option, Result, Ok, Err, IfOk, refl, sym, subst}
use Rattle.std.specs.Global.{Vec}
use Rattle.term_enums.specs.declared.StructurallyRelateAliases.TheVariants.{No}
use Rattle.term_enums.specs.declared.Variance.{Variance}
use Rattle.term_enums.specs.declared.memory.OutOfMemory.{OutOfMemory}
use Rattle.relation_terms.specs.declared.terms.goal.Goal.{Goal as KeyedGoal}
use Rattle.relation_terms.specs.declared.terms.keys.PredicateKey.{PredicateKey}
use Rattle.relation_terms.specs.declared.predicate.regions.OutlivesPredicate.{OutlivesPredicate}
use Rattle.relation_terms.specs.declared.terms.keys.RegionKey.{RegionKey}
use Rattle.relation_terms.specs.declared.terms.keys.ParamEnvKey.{ParamEnvKey}
use Rattle.relation_terms.specs.Heads.{Head}
use Rattle.relation_terms.specs.Meaning.{Meaning, Extends}
use Rattle.relation_terms.specs.Trees.{Tree}
use Rattle.relation_terms.proofs.Stays.{extends_on}
use Rattle.relation_folds.specs.declared.error.RelateFault.{RelateFault}
use Rattle.relation_folds.specs.declared.error.RelateFault.TheVariants.{Memory, Budget, Unrelated}
use Rattle.relation_folds.specs.Faults.{IfSpent}
use Rattle.relation_semantics.specs.Contexts.{Context}
use Rattle.relation_semantics.specs.Lawful.{items_of}
use Rattle.relation_semantics.specs.Asking.{ArePlain}
use Rattle.relation_semantics.specs.Recording.{IsJustAsked}
use Rattle.relation_semantics.specs.Goals.{goals_of, KnowsGoal, Holds, Relates}
use Rattle.relation_semantics.specs.Relation.{Items}
use Rattle.relation_semantics.specs.Steps.{IsLater}
use Rattle.relation_semantics.specs.Stores.{Satisfies}
use Rattle.relation_semantics.proofs.Going.{later_same, later_through}
use Rattle.relation_semantics.proofs.Registered.{goals_stay}
use Rattle.relation_combining.specs.Solving.{solver_settings}
use Rattle.context_relation.specs.Closed.{AsksNothing}
use Rattle.context_relation.specs.Completing.{Complete, JustAsked, RelatesWhereAsked, AreRelatedWhereAsked}
use Rattle.context_relation.specs.Relating.{term_in, AnswersError}
use Rattle.relation_regions.specs.declared.solving.Solved.{Solved}
use Rattle.relation_regions.specs.declared.solving.Solved.TheVariants.{Met, Unmet}
use Rattle.relation_regions.specs.Solutions.{HasSolution, IsUnmetBy}
use Rattle.relation_regions.specs.Solving.{IsFactIn, region_pairs, IfMet, IfUnmet}
use Rattle.relation_regions.specs.Answers.{MayBeRelated, clash_of, told, Decides, FollowsStill, IsCertain, IsClash}
use Rattle.relation_regions.specs.Answers.{IsUnsaid, IsPossible}
use Rattle.relation_regions.specs.Entailment.{RecordFollows, AreBareValues}
use Rattle.relation_regions.proofs.Bare.{solution_like, unmet_like, bare_terms, plain_terms, closed_term}
use Rattle.relation_regions.proofs.Entailing.{never_entailed, entailed, follows_still, refuted}
use Rattle.relation_regions.proofs.Staying.{pairs_stay, facts_later}

-- A context as it was, when two were related, and when that was solved.
module _ {Key Id Name : Type 0} (c d f : Context Key Id Name) (facts : List (OutlivesPredicate Key (RegionKey Key)))
    (all : All (IsFactIn c) facts) (grown : Extends c.meaning d.meaning) (grows : Extends d.meaning f.meaning)
    (same : f.store ≡ d.store) where
  same_pairs : region_pairs f.meaning facts ≡ region_pairs c.meaning facts
  same_pairs = pairs_stay c f.meaning facts (extends_on grown grows) all

  solved_as : HasSolution (region_pairs f.meaning facts) f.store → HasSolution (region_pairs c.meaning facts) d.store
  solved_as h = solution_like (region_pairs c.meaning facts) (region_pairs f.meaning facts) d.store f.store same_pairs
      same h

  unmet_as : (x y : Tree) (by : List ℕ) → IsUnmetBy (region_pairs f.meaning facts) f.store x y by →
      IsUnmetBy (region_pairs c.meaning facts) d.store x y by
  unmet_as x y by h = unmet_like (region_pairs c.meaning facts) (region_pairs f.meaning facts) d.store f.store x y by
      same_pairs same h

  follows_as : RecordFollows (region_pairs c.meaning facts) d.store →
      RecordFollows (region_pairs f.meaning facts) f.store
  follows_as h = subst (λ u. RecordFollows u f.store) (sym same_pairs)
      (subst (λ u. RecordFollows (region_pairs c.meaning facts) u) (sym same) h)

  pub facts_as : IsLater c.store d.store → All (IsFactIn f) facts
  facts_as later = facts_later c f facts (extends_on grown grows)
      (later_through later (later_same d.store f.store same)) all

  -- What was related may be so.
  may_be_related : {items : Items} {e : Tree} {v : Variance} {a b : Tree}
      (goals : List (KeyedGoal Key (PredicateKey Key))) → All (KnowsGoal d.meaning) goals →
      Relates items d.store (goals_of d.meaning goals) e v a b → HasSolution (region_pairs f.meaning facts) f.store →
      MayBeRelated (region_pairs c.meaning facts) items f.store (goals_of f.meaning goals) e v a b
  may_be_related {items} goals known relates h =
      let k = solution_like (region_pairs c.meaning facts) (region_pairs f.meaning facts) f.store f.store same_pairs
      refl h in
      record {
        world = k.0;
        values = (k.1).0;
        solution = (k.1).1;
        related = λ hold. relates k.0 (k.1).0 (subst (λ st. Satisfies k.0 st (k.1).0) same ((k.1).1).satisfies)
            (subst (λ gs. All (Holds items k.0 (k.1).0) gs) (goals_stay grows goals known) hold);
      }

-- What is answered where relating stopped.
module _ {S Key Id Name A : Type 0} (state : S → Context Key Id Name) (old new : S)
    (facts : List (OutlivesPredicate Key (RegionKey Key))) (over : Option Head) (tree : Meaning Key Id Name → A → Tree)
    (e : ParamEnvKey Key) (v : Variance) (a b : A) where
  abbrev stopped : RelateFault Key Id Name → Result (Vec (KeyedGoal Key (PredicateKey Key))) (RelateFault Key Id Name)
  stopped f = Err f

  abbrev plain : (bare : AreBareValues (term_in (state old) over tree a) (term_in (state old) over tree b)) →
      ArePlain (solver_settings No (state old).setup) (term_in (state old) over tree a) (term_in (state old) over tree b)
  plain bare = plain_terms (solver_settings No (state old).setup) (term_in (state old) over tree a)
      (term_in (state old) over tree b) bare

  pub clash_decides : (f : RelateFault Key Id Name) → Complete state old new over tree No e v a b (stopped f) →
      Decides state old new facts over tree e v a b (clash_of f)
  clash_decides (Unrelated why) h = λ bare follows. never_entailed (region_pairs (state old).meaning facts)
      (items_of (state old).meaning) (state old).store (((state old).meaning).param_env e) v
      (term_in (state old) over tree a) (term_in (state old) over tree b)
      (h bare.sort bare.left_value bare.right_value (plain bare))
  clash_decides Budget h = λ bare follows. tt
  clash_decides Memory h = λ bare follows. tt

  pub clash_follows : (f : RelateFault Key Id Name) → FollowsStill state old new facts over tree e v a b (clash_of f)
  clash_follows (Unrelated why) = λ bare follows yes. absurd yes
  clash_follows Budget = λ bare follows. tt
  clash_follows Memory = λ bare follows. tt

  pub clash_certain : (f : RelateFault Key Id Name) → Complete state old new over tree No e v a b (stopped f) →
      IsCertain state old new facts over tree e v a b (clash_of f)
  clash_certain (Unrelated why) h = λ bare. (h bare.sort bare.left_value bare.right_value (plain bare), tt)
  clash_certain Budget h = λ bare. (tt, h bare.sort bare.left_value bare.right_value (plain bare))
  clash_certain Memory h = λ bare. (tt, tt)

  pub clash_is : (f : RelateFault Key Id Name) → AnswersError state old new over tree No v a b (stopped f) →
      IsClash state old new facts over tree e v a b (clash_of f)
  clash_is (Unrelated why) h = h
  clash_is Budget h = tt
  clash_is Memory h = tt

  pub clash_unsaid : (f : RelateFault Key Id Name) → IsUnsaid state old new facts (clash_of f)
  clash_unsaid (Unrelated why) = tt
  clash_unsaid Budget = tt
  clash_unsaid Memory = tt

  pub clash_possible : (f : RelateFault Key Id Name) → IsPossible state old new facts over tree e v a b (clash_of f)
  clash_possible (Unrelated why) = tt
  clash_possible Budget = tt
  clash_possible Memory = tt

  pub clash_spent : (f : RelateFault Key Id Name) (P : Type 0) → IfSpent (stopped f) P → IfSpent (clash_of f) P
  clash_spent (Unrelated why) P h = tt
  clash_spent Budget P h = h
  clash_spent Memory P h = tt

-- What is answered where goals are left.
module _ {S Key Id Name A : Type 0} (state : S → Context Key Id Name) (old mid new : S)
    (facts : List (OutlivesPredicate Key (RegionKey Key))) (over : Option Head) (tree : Meaning Key Id Name → A → Tree)
    (e : ParamEnvKey Key) (v : Variance) (a b : A) (goals : Vec (KeyedGoal Key (PredicateKey Key)))
    (all : All (IsFactIn (state old)) facts) (grown : Extends (state old).meaning (state mid).meaning)
    (grows : Extends (state mid).meaning (state new).meaning) (same : (state new).store ≡ (state mid).store) where
  abbrev lhs : Tree
  lhs = term_in (state old) over tree a

  abbrev rhs : Tree
  rhs = term_in (state old) over tree b

  abbrev facts_before : List (Tree × Tree)
  facts_before = region_pairs (state old).meaning facts

  abbrev related : Result (Vec (KeyedGoal Key (PredicateKey Key))) (RelateFault Key Id Name)
  related = Ok goals

  solved_of : HasSolution (region_pairs (state new).meaning facts) (state new).store →
      HasSolution facts_before (state mid).store
  solved_of h = solved_as (state old) (state mid) (state new) facts all grown grows same h

  pub told_possible : (r : Result (Solved Key) OutOfMemory) → IfOk r (IfMet (state new) facts) → All (KnowsGoal (state mid).meaning) goals.items →
      Relates (items_of (state old).meaning) (state mid).store (goals_of (state mid).meaning goals.items)
      (((state old).meaning).param_env e) v lhs rhs → IsPossible state old new facts over tree e v a b (told goals r)
  told_possible (Ok (Met values)) met known relates = may_be_related (state old) (state mid) (state new) facts all grown grows
      same goals.items known relates met
  told_possible (Ok (Unmet longer shorter by)) met known relates = tt
  told_possible (Err refused) met known relates = tt

  pub told_unsaid : (r : Result (Solved Key) OutOfMemory) → IfOk r (IfUnmet (state new) facts) → IsUnsaid state old new facts (told goals r)
  told_unsaid (Ok (Met values)) unmet = tt
  told_unsaid (Ok (Unmet longer shorter by)) unmet =
      let n = (state new).meaning in
      (unmet_as (state old) (state mid) (state new) facts all grown grows same (n.region longer) (n.region shorter)
      by.items unmet).unsaid
  told_unsaid (Err refused) unmet = tt

  pub told_clash : (r : Result (Solved Key) OutOfMemory) → IsClash state old new facts over tree e v a b (told goals r)
  told_clash (Ok (Met values)) = tt
  told_clash (Ok (Unmet longer shorter by)) = tt
  told_clash (Err refused) = tt

  pub told_spent : (r : Result (Solved Key) OutOfMemory) (P : Type 0) → IfSpent (told {Id = Id} {Name = Name} goals r) P
  told_spent (Ok (Met values)) P = tt
  told_spent (Ok (Unmet longer shorter by)) P = tt
  told_spent (Err refused) P = tt

  module _ (asked : JustAsked state old mid over tree No e v a b related)
      (where_asked : RelatesWhereAsked state old mid over tree e v a b related) where
    abbrev just : (bare : AreBareValues lhs rhs) → IsJustAsked (items_of (state old).meaning)
        (((state old).meaning).param_env e) v lhs rhs (state old).store.constraints (state mid).store.constraints
        (goals_of (state mid).meaning goals.items)
    just bare = asked (bare_terms (solver_settings No (state old).setup) lhs rhs bare)

    abbrev where_so : (bare : AreBareValues lhs rhs) → AreRelatedWhereAsked (items_of (state old).meaning)
        (((state old).meaning).param_env e) v lhs rhs
    where_so bare = where_asked bare.sort bare.left_value bare.right_value bare.left_bare bare.right_bare

    pub told_decides : (r : Result (Solved Key) OutOfMemory) → IfOk r (IfMet (state new) facts) → IfOk r (IfUnmet (state new) facts) →
        Decides state old new facts over tree e v a b (told goals r)
    told_decides (Ok (Met values)) met unmet = λ bare follows. (
      λ yes. entailed facts_before (state old).store (state mid).store bare (just bare) (where_so bare) (solved_of met),
      λ h. tt,
    )
    told_decides (Ok (Unmet longer shorter by)) met unmet = λ bare follows.
        let n = (state new).meaning in
        refuted facts_before (state old).store (state mid).store bare (just bare) (where_so bare) follows
        (unmet_as (state old) (state mid) (state new) facts all grown grows same (n.region longer) (n.region shorter)
        by.items unmet)
    told_decides (Err refused) met unmet = λ bare follows. tt

    pub told_follows : (r : Result (Solved Key) OutOfMemory) → IfOk r (IfMet (state new) facts) → IsLater (state old).store (state mid).store →
        FollowsStill state old new facts over tree e v a b (told goals r)
    told_follows (Ok (Met values)) met later = λ bare follows yes.
        follows_as (state old) (state mid) (state new) facts all grown grows same
        (follows_still facts_before (state old).store (state mid).store bare (just bare) (where_so bare) later follows
        (solved_of met))
    told_follows (Ok (Unmet longer shorter by)) met later = λ bare follows yes. absurd yes
    told_follows (Err refused) met later = λ bare follows. tt

    pub told_certain : (r : Result (Solved Key) OutOfMemory) → IfOk r (IfMet (state new) facts) →
        AsksNothing state old mid over tree a b related →
        IsCertain state old new facts over tree e v a b (told goals r)
    told_certain (Ok (Met values)) met none = λ bare. (
      (
        entailed facts_before (state old).store (state mid).store bare (just bare) (where_so bare) (solved_of met),
        none (closed_term lhs (bare.left_value).1 (bare.left_bare).2)
            (closed_term rhs (bare.right_value).1 (bare.right_bare).2) (bare.left_bare).1 (bare.right_bare).1,
      ),
      tt,
    )
    told_certain (Ok (Unmet longer shorter by)) met none = λ bare. (tt, tt)
    told_certain (Err refused) met none = λ bare. (tt, tt)
