-- What relating answered, for who writes it.
use Rattle.std.proofs.Common.{All, Result, Ok, Err}
use Rattle.std.specs.Prelude.{IfOk, IfErr}
use Rattle.std.specs.Global.{Vec}
use Rattle.relation_terms.specs.Meaning.{Meaning}
use Rattle.relation_terms.specs.declared.terms.goal.Goal.{Goal}
use Rattle.relation_terms.specs.declared.terms.keys.PredicateKey.{PredicateKey}
use Rattle.relation_folds.specs.declared.error.RelateFault.{RelateFault}
use Rattle.relation_folds.specs.Faults.{KnowsFault}
use Rattle.relation_semantics.specs.Goals.{KnowsGoal}
use Rattle.text_asking.specs.Asking.{KnowsRelated}

-- What relating answered is known.
pub related_known : {Key Id Name : Type 0} (m : Meaning Key Id Name)
    (result : Result (Vec (Goal Key (PredicateKey Key))) (RelateFault Key Id Name))
    (P : Vec (Goal Key (PredicateKey Key)) → Type 0) → IfOk result (λ goals. All (KnowsGoal m) goals.items × P goals) →
    IfErr result (KnowsFault m) → KnowsRelated m result
related_known m (Ok goals) P h k = h.0
related_known m (Err e) P h k = k
