-- What relating two values in a context asks and promises, by topic: a field is a promise, in the words of `Relating`.
use Rattle.std.specs.Prelude.{◌≡◌, ◌≢◌, Option, IfErr, Result}
use Rattle.std.specs.Global.{Vec}
use Rattle.term_enums.specs.declared.Variance.{Variance}
use Rattle.term_enums.specs.declared.Variance.TheVariants.{Bivariant}
use Rattle.term_enums.specs.declared.StructurallyRelateAliases.{StructurallyRelateAliases}
use Rattle.relation_terms.specs.declared.terms.goal.Goal.{Goal}
use Rattle.relation_terms.specs.declared.terms.keys.PredicateKey.{PredicateKey}
use Rattle.relation_terms.specs.declared.terms.keys.ParamEnvKey.{ParamEnvKey}
use Rattle.relation_terms.specs.Heads.{Head}
use Rattle.relation_terms.specs.Trees.{Tree}
use Rattle.relation_terms.specs.Meaning.{Meaning, Extends}
use Rattle.relation_folds.specs.declared.error.RelateFault.{RelateFault}
use Rattle.relation_folds.specs.Faults.{KnowsFault, IfSpent}
use Rattle.relation_semantics.specs.Bound.{IsWellBound}
use Rattle.relation_semantics.specs.Stores.{IsSound, IsTermIn}
use Rattle.relation_semantics.specs.Steps.{IsLater}
use Rattle.relation_semantics.specs.Contexts.{Context, KnowsEnv, SpendsByBinding}
use Rattle.relation_semantics.specs.ContextCalls.{KeepsBeside}
use Rattle.context_relation.specs.Relating.{term_in, KnowsTerm, Idle, AnswersOnly, AnswersTerms}
use Rattle.context_relation.specs.Relating.{KeepsEqual, TellsApart, AnswersError, RelatesAgreeing, AnswersExactly}
use Rattle.context_relation.specs.Relating.{ProvesApart, SpendsNoMore, MakesToRelate, BuildsNoMore}
use Rattle.context_relation.specs.Completing.{JustAsked, OnlyAsked}

-- What is asked of two values in a context, of which `tree` says what is related, and `Fits` that two lists have as
-- many arguments.
module _ {Key Id Name A : Type 0} (c : Context Key Id Name) (over : Option Head) (tree : Meaning Key Id Name → A → Tree)
    (Fits : Meaning Key Id Name → A → A → Type 0) where
  -- They may be related at a variance, in an environment.
  pub record CanRelate (e : ParamEnvKey Key) (v : Variance) (a b : A) : Type 0 where
    -- The context is lawful, and the variance says how they are related.
    pub lawful : c.lawful
    pub decides : v ≢ Bivariant
    -- The interner knows the environment and both.
    pub env_known : KnowsEnv c e
    pub lhs_known : KnowsTerm c over tree a
    pub rhs_known : KnowsTerm c over tree b
    -- Two lists have as many arguments.
    pub fits : Fits c.meaning a b
    -- Their binders bind by their lists.
    pub lhs_taken : IsWellBound (term_in c over tree a)
    pub rhs_taken : IsWellBound (term_in c over tree b)
    -- Both are the context's: their variables are, and nothing in them is of a later universe or escapes a binder.
    pub lhs_in : IsTermIn c.store (term_in c over tree a)
    pub rhs_in : IsTermIn c.store (term_in c over tree b)

-- What is promised between what a context is before the call and after it, which `state` shows.
module _ {S Key Id Name A : Type 0} (state : S → Context Key Id Name) (old new : S) (over : Option Head)
    (tree : Meaning Key Id Name → A → Tree) where
  -- Where two are related: what `Ok` says of the two.
  pub record RelatesBoth (g : StructurallyRelateAliases) (e : ParamEnvKey Key) (v : Variance) (a b : A)
      (result : Result (Vec (Goal Key (PredicateKey Key))) (RelateFault Key Id Name)) : Type 0 where
    -- What satisfies the record after and makes the goals true relates the two.
    pub sound : AnswersTerms state old new over tree e v a b result
    -- What clashes is refused, at each variance: by what they came to before, the two are of one form throughout, down
    -- to pairs that are left to goals or left open, and to variables and errors, which agree with each term of their
    -- sort, an integer or float variable only with what may stand for it; so do regions with regions, and under binders
    -- what these bind.
    pub agrees : RelatesAgreeing state old new over tree g v a b result

  -- No solution is lost.
  pub record LosesNone (v : Variance) (a b : A)
      (result : Result (Vec (Goal Key (PredicateKey Key))) (RelateFault Key Id Name)) : Type 0 where
    -- What made the two one before extends to what satisfies the record after and makes the goals true; so it does
    -- where relating them stopped for want of memory or of instantiations, and was asked no goal.
    pub keeps : KeepsEqual state old new over tree a b result
    -- Of first-order terms in a first-order record at invariance just the solutions that unify the two stay, up to
    -- erasure, and no goal is asked: what is recorded is a most general unifier. All stay where it stopped so.
    pub most_general : AnswersExactly state old new over tree v a b result

  -- A fault is true.
  pub record FaultIsTrue (g : StructurallyRelateAliases) (v : Variance) (a b : A)
      (result : Result (Vec (Goal Key (PredicateKey Key))) (RelateFault Key Id Name)) : Type 0 where
    -- A type error says that nothing made the two one, and of first-order terms that nothing unified them.
    pub apart : TellsApart state old new over tree a b result
    pub no_unifier : ProvesApart state old new over tree v a b result
    -- It is an error of the two, or of two parts at one place, and the interner knows it.
    pub errors : AnswersError state old new over tree g v a b result
    pub fault_known : IfErr result (λ f. KnowsFault (state new).meaning f)
    -- `Budget` comes where none is left. Of first-order terms in a first-order record at invariance, where the variables
    -- of types and constants are of one universe and no placeholder of these is beyond it, at most as many
    -- instantiations are made as there were unresolved ones: with a budget of that number it never comes.
    pub spent : IfSpent result ((state new).store.budget ≡ 0)
    pub budget_suffices : SpendsNoMore state old new over tree v a b result

  -- Nothing is asked for but what the two ask for.
  pub record AsksOnly (g : StructurallyRelateAliases) (e : ParamEnvKey Key) (v : Variance) (a b : A)
      (result : Result (Vec (Goal Key (PredicateKey Key))) (RelateFault Key Id Name)) : Type 0 where
    -- Each goal asks, in the environment, that of two type variables the one is a subtype of the other, such as met at
    -- covariance or contravariance, each unbound before or made on the way; or that a type is well formed, one with a
    -- bivariant part, of types over one item that met there, where a variable, but of regions, was left in a bivariant
    -- argument of either; or what is said of aliases.
    pub goals : AnswersOnly state old new g e v result
    -- Of two bare terms, which are first-order but for aliases, have no variable but of regions, and no alias unless
    -- aliases are left to goals, just what they ask for is recorded, behind all that stood, and answered. Two regions
    -- ask, by the variance of their place, that the left one outlives the right one, the right one the left one, or
    -- both each other; of two different terms of which one is an alias or an unevaluated constant their goal alone is
    -- asked for. Either may come more than once; but a pair that is met again may add nothing, and that a region
    -- outlives itself need not be recorded.
    pub asked : JustAsked state old new over tree g e v a b result
    -- Of others without binders and aliases, or with aliases that are left to goals, as is what was bound, no constraint
    -- is recorded but what they ask for by what they come to then, and ever after.
    pub no_more : OnlyAsked state old new over tree g v a b result
    -- Of two that are one nothing is.
    pub same : term_in (state old) over tree a ≡ term_in (state old) over tree b → Idle state old new result

  -- What is left: all that was recorded, and what is made, bound and spent.
  pub record LeavesRest (a b : A)
      (result : Result (Vec (Goal Key (PredicateKey Key))) (RelateFault Key Id Name)) : Type 0 where
    -- What was recorded stands, and what is satisfied after was before; the record is sound and the context lawful.
    pub later : IsLater (state old).store (state new).store
    pub store_sound : IsSound (state new).store
    pub lawful : (state new).lawful
    -- The interner's keys keep their meanings; how the context was made stands.
    pub grown : Extends (state old).meaning (state new).meaning
    pub frame : KeepsBeside (state old) (state new)
    -- No variable of a number is made, and others only to instantiate one or to open a binder: none where no binder
    -- stands in either or in what a variable was bound to, and nothing was left of the budget or no variable of a type
    -- or a constant was unbound.
    pub new_variables : MakesToRelate state old new over tree a b
    -- No form, no atom and no binder is brought in: what is bound then, and what the goals speak of, is built of those
    -- that stood in the two or in what a variable was bound to. Without binders there no universe is made.
    pub no_new_forms : BuildsNoMore state old new over tree a b result
    -- Only what was the context's and unbound is bound, or was made on the way: variables of types and constants each
    -- for one instantiation, those of numbers for none.
    pub budget : SpendsByBinding (state old) (state new)
