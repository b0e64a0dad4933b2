-- What became of a goal and what a rule gives, between a context before the call and after it.
use Rattle.std.specs.Prelude.{◌≡◌, Option, List, [], ◌∷◌, Result, Ok, Err}
use Rattle.std.specs.Global.{Vec}
use Rattle.term_enums.specs.declared.Variance.TheVariants.{Invariant}
use Rattle.relation_terms.specs.declared.terms.goal.Goal.{Goal}
use Rattle.relation_terms.specs.declared.terms.keys.PredicateKey.{PredicateKey}
use Rattle.relation_terms.specs.declared.terms.keys.ParamEnvKey.{ParamEnvKey}
use Rattle.relation_terms.specs.Heads.{Head}
use Rattle.relation_terms.specs.Trees.{Tree}
use Rattle.relation_terms.specs.Meaning.{Meaning}
use Rattle.relation_folds.specs.declared.error.RelateFault.{RelateFault}
use Rattle.relation_folds.specs.declared.error.RelateFault.TheVariants.{Memory, Budget, Unrelated}
use Rattle.relation_semantics.specs.Contexts.{Context}
use Rattle.relation_semantics.specs.FirstOrder.{IsFirstOrderStore}
use Rattle.relation_semantics.specs.Headline.{AnswersGoals, KeepsEqualTerms, IsFirstOrderPair}
use Rattle.relation_semantics.specs.Lawful.{items_of}
use Rattle.relation_semantics.specs.Outcomes.{Exact, NoEqualTerms, NoUnifier}
use Rattle.context_relation.specs.Relating.{term_in}
use Rattle.relation_proving.specs.declared.fitting.Fitting.{Fitting}
use Rattle.relation_proving.specs.declared.fitting.Fitting.TheVariants.{Fits, Apart, Left}

-- What relating says of the two.
abbrev pub fitting_by : {G : Type 0} → List G → Fitting
fitting_by [] = Fits
fitting_by (g ∷ gs) = Left

abbrev pub fitting_after : {Key Id Name : Type 0} →
    Result (Vec (Goal Key (PredicateKey Key))) (RelateFault Key Id Name) → Result Fitting (RelateFault Key Id Name)
fitting_after (Ok goals) = Ok (fitting_by goals.items)
fitting_after (Err (Unrelated e)) = Ok Apart
fitting_after (Err Budget) = Err Budget
fitting_after (Err Memory) = Err Memory

module _ {Key Id Name A : Type 0} (c d : Context Key Id Name) (over : Option Head)
    (tree : Meaning Key Id Name → A → Tree) (e : ParamEnvKey Key) (a b : A) where
  abbrev left : Tree
  left = term_in c over tree a

  abbrev right : Tree
  right = term_in c over tree b

  -- They were made one, and nothing is left to ask. What satisfies the record after relates them, and what satisfied
  -- the record before and made them one extends to such a one. Of first-order ones in a first-order record just the
  -- solutions that unify them are left.
  pub record AreMadeOne : Type 0 where
    pub sound : AnswersGoals (items_of c.meaning) c.store d.store [] ((c.meaning).param_env e) Invariant left right
    pub keeps : KeepsEqualTerms c.store d.store [] left right
    pub exact : IsFirstOrderPair c.store left right → Exact c.store d.store left right
    pub first_order : IsFirstOrderPair c.store left right → IsFirstOrderStore d.store
    pub same_universe : IsFirstOrderPair c.store left right → (d.store).universe ≡ (c.store).universe

  -- Nothing makes them one; nor does anything unify such ones.
  pub record AreToldApart : Type 0 where
    pub never_one : NoEqualTerms c.store left right
    pub no_unifier : IsFirstOrderPair c.store left right → NoUnifier c.store left right

  -- Of first-order ones no goal is left.
  abbrev pub TellsFit : Fitting → Type 0
  TellsFit Fits = AreMadeOne
  TellsFit Apart = AreToldApart
  TellsFit Left = IsFirstOrderPair c.store left right → ⊥
