-- What is answered of two values in a context: whether facts entail that they are related.
use Rattle.std.specs.Prelude.{◌≡◌, ◌↔◌, List, [], Option, IfOk, Result, Ok, Err, All}
use Rattle.std.specs.Global.{Vec}
use Rattle.term_enums.specs.declared.StructurallyRelateAliases.TheVariants.{No}
use Rattle.term_enums.specs.declared.Variance.{Variance}
use Rattle.term_enums.specs.declared.memory.OutOfMemory.{OutOfMemory}
use Rattle.relation_terms.specs.declared.predicate.regions.OutlivesPredicate.{OutlivesPredicate}
use Rattle.relation_terms.specs.declared.terms.keys.RegionKey.{RegionKey}
use Rattle.relation_terms.specs.declared.terms.goal.Goal.{Goal as KeyedGoal}
use Rattle.relation_terms.specs.declared.terms.keys.PredicateKey.{PredicateKey}
use Rattle.relation_terms.specs.declared.terms.keys.ParamEnvKey.{ParamEnvKey}
use Rattle.relation_terms.specs.Heads.{Head}
use Rattle.relation_terms.specs.Meaning.{Meaning}
use Rattle.relation_terms.specs.Trees.{Tree, Assign, apply}
use Rattle.relation_folds.specs.declared.error.RelateFault.{RelateFault}
use Rattle.relation_folds.specs.declared.error.RelateFault.TheVariants.{Memory, Budget, Unrelated}
use Rattle.relation_folds.specs.Faults.{IfSpent}
use Rattle.relation_semantics.specs.Contexts.{Context}
use Rattle.relation_semantics.specs.Errors.{ErrorOf}
use Rattle.relation_semantics.specs.Goals.{Goal, goals_of, Holds as GoalHolds}
use Rattle.relation_semantics.specs.Lawful.{items_of}
use Rattle.relation_semantics.specs.Relation.{Items, Interpretation, Rel, at}
use Rattle.relation_semantics.specs.Stores.{Store}
use Rattle.relation_combining.specs.Solving.{solver_settings}
use Rattle.context_relation.specs.Completing.{AreNeverRelated}
use Rattle.context_relation.specs.Relating.{term_in}
use Rattle.relation_regions.specs.Solving.{region_pairs}
use Rattle.relation_regions.specs.Worlds.{FactsSay, IsSolution}
use Rattle.relation_regions.specs.declared.solving.Solved.{Solved}
use Rattle.relation_regions.specs.declared.solving.Solved.TheVariants.{Met, Unmet as NotMet}
use Rattle.relation_regions.specs.declared.subtyping.Subtyping.{Subtyping}
use Rattle.relation_regions.specs.declared.subtyping.Subtyping.TheVariants.{Holds, Clash, Unmet}
use Rattle.relation_regions.specs.Entailment.{FactsEntail, AreBareValues, RecordFollows}

-- The answer is yes.
abbrev pub IsYes : {Key Id Name : Type 0} → Subtyping Key Id Name → Type 0
IsYes (Holds goals) = Unit {0}
IsYes (Clash why) = ⊥
IsYes (Unmet p) = ⊥

-- In a solution of what is recorded the two are related, if the goals are so.
pub record MayBeRelated (facts : List (Tree × Tree)) (c : Items) (st : Store) (goals : List Goal) (e : Tree)
    (v : Variance) (a b : Tree) : Type 0 where
  pub world : Interpretation
  pub values : Assign
  pub solution : IsSolution facts st world values
  pub related : All (GoalHolds c world values) goals → Rel c world e (at v) (apply values a) (apply values b)

module _ {Key Id Name : Type 0} where
  -- What comes of a fault of relating: a clash is an answer.
  abbrev pub clash_of : RelateFault Key Id Name → Result (Subtyping Key Id Name) (RelateFault Key Id Name)
  clash_of (Unrelated why) = Ok (Clash why)
  clash_of Budget = Err Budget
  clash_of Memory = Err Memory

  -- What is answered where goals are left, by what was solved.
  abbrev pub told : Vec (KeyedGoal Key (PredicateKey Key)) → Result (Solved Key) OutOfMemory →
      Result (Subtyping Key Id Name) (RelateFault Key Id Name)
  told goals (Ok (Met values)) = Ok (Holds goals)
  told goals (Ok (NotMet longer shorter by)) = Ok (Unmet (record { 0 = longer; 1 = shorter }))
  told goals (Err refused) = Err Memory

-- Between what a context is before the call and after it, which `state` shows.
module _ {S Key Id Name : Type 0} (state : S → Context Key Id Name) (old new : S)
    (facts : List (OutlivesPredicate Key (RegionKey Key))) where
  -- The facts, by their trees.
  abbrev said : List (Tree × Tree)
  said = region_pairs (state old).meaning facts

  abbrev IfUnsaid : Subtyping Key Id Name → Type 0
  IfUnsaid (Holds goals) = Unit {0}
  IfUnsaid (Clash why) = Unit {0}
  IfUnsaid (Unmet p) =
      FactsSay said (((state new).meaning).region p.0) (((state new).meaning).region p.1) → ⊥

  -- Where a region would have to outlive another one the facts don't say that.
  abbrev pub IsUnsaid : Result (Subtyping Key Id Name) (RelateFault Key Id Name) → Type 0
  IsUnsaid result = IfOk result IfUnsaid

  -- The same of two values, of each of which `tree` says what is related.
  module _ {A : Type 0} (over : Option Head) (tree : Meaning Key Id Name → A → Tree) (e : ParamEnvKey Key) (v : Variance)
      (a b : A) where
    abbrev term : A → Tree
    term x = term_in (state old) over tree x

    abbrev items : Items
    items = items_of (state old).meaning

    abbrev env : Tree
    env = ((state old).meaning).param_env e

    -- The facts entail that the two are related.
    abbrev AreEntailed : Type 0
    AreEntailed = FactsEntail said items env v (term a) (term b)

    -- Of two bare values the answer is yes just if the facts entail that they are related, where what was recorded before
    -- follows of the facts.
    abbrev pub Decides : Result (Subtyping Key Id Name) (RelateFault Key Id Name) → Type 0
    Decides result = AreBareValues (term a) (term b) → RecordFollows said (state old).store →
        IfOk result (λ d. IsYes d ↔ AreEntailed)

    -- After a yes what is recorded follows of them still.
    abbrev pub FollowsStill : Result (Subtyping Key Id Name) (RelateFault Key Id Name) → Type 0
    FollowsStill result = AreBareValues (term a) (term b) → RecordFollows said (state old).store →
        IfOk result (λ d. IsYes d → RecordFollows (region_pairs (state new).meaning facts) (state new).store)

    abbrev IfCertain : Subtyping Key Id Name → Type 0
    IfCertain (Holds goals) = AreEntailed × (goals.items ≡ [])
    IfCertain (Clash why) = AreNeverRelated items env v (term a) (term b)
    IfCertain (Unmet p) = Unit {0}

    -- Of two bare values, whatever was recorded before: a yes is entailed, and no goal is left; such that clash are
    -- related nowhere; and no instantiation is wanting.
    abbrev pub IsCertain : Result (Subtyping Key Id Name) (RelateFault Key Id Name) → Type 0
    IsCertain result = AreBareValues (term a) (term b) → IfOk result IfCertain × IfSpent result ⊥

    abbrev IfClash : Subtyping Key Id Name → Type 0
    IfClash (Holds goals) = Unit {0}
    IfClash (Clash why) = ErrorOf (state new).meaning (solver_settings No (state new).setup) (items_of (state new).meaning)
        (state new).store v why (term a) (term b)
    IfClash (Unmet p) = Unit {0}

    -- A clash is that of the two, or of two parts at one place.
    abbrev pub IsClash : Result (Subtyping Key Id Name) (RelateFault Key Id Name) → Type 0
    IsClash result = IfOk result IfClash

    abbrev IfPossible : Subtyping Key Id Name → Type 0
    IfPossible (Holds goals) = MayBeRelated said items (state new).store (goals_of (state new).meaning goals.items) env v
        (term a) (term b)
    IfPossible (Clash why) = Unit {0}
    IfPossible (Unmet p) = Unit {0}

    -- Of any two a yes says that they may be related, by what is recorded then and if the goals are so.
    abbrev pub IsPossible : Result (Subtyping Key Id Name) (RelateFault Key Id Name) → Type 0
    IsPossible result = IfOk result IfPossible
