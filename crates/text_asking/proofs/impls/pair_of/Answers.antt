use Rattle.relation_terms.proofs.Stays.{extends_on}
use Rattle.text_proving.proofs.Making.{rule_later, rules_later}
use Rattle.text_asking.proofs.AskingLemmas.{ready_stays}
use Rattle.text_asking.proofs.impls.pair_of.Goals as goal

pub rule_said-requires-2 : goal.rule_said-requires-2
rule_said-requires-2 g c = ready_stays c.rule_said.ensures.grown c.args.terms.now.built.now c.requires

pub perhaps_of-requires : goal.perhaps_of-requires
perhaps_of-requires g c =
    ready_stays (extends_on c.rule_said.ensures.grown c.rule_said-2.ensures.grown) c.args.terms.now.built.now c.requires

pub rules_of-requires : goal.rules_of-requires
rules_of-requires g c =
    ready_stays (extends_on (extends_on c.rule_said.ensures.grown c.rule_said-2.ensures.grown) c.perhaps_of.ensures.grown)
    c.args.terms.now.built.now c.requires

pub environment_of-requires : goal.environment_of-requires
environment_of-requires g c =
    ready_stays (extends_on (extends_on (extends_on c.rule_said.ensures.grown c.rule_said-2.ensures.grown)
    c.perhaps_of.ensures.grown) c.rules_of.ensures.grown) c.args.terms.now.built.now c.requires

pub returns-in_err-right-clause-grown : goal.returns-in_err-right-clause-grown
returns-in_err-right-clause-grown g c = extends_on c.rule_said.ensures.grown c.rule_said-2.ensures.grown

pub returns-in_err-perhaps-clause-grown : goal.returns-in_err-perhaps-clause-grown
returns-in_err-perhaps-clause-grown g c =
    extends_on (extends_on c.rule_said.ensures.grown c.rule_said-2.ensures.grown) c.perhaps_of.ensures.grown

pub returns-in_err-rules-clause-grown : goal.returns-in_err-rules-clause-grown
returns-in_err-rules-clause-grown g c =
    extends_on (extends_on (extends_on c.rule_said.ensures.grown c.rule_said-2.ensures.grown) c.perhaps_of.ensures.grown)
    c.rules_of.ensures.grown

pub returns-in_default-clause-grown : goal.returns-in_default-clause-grown
returns-in_default-clause-grown g c =
    extends_on (extends_on (extends_on (extends_on c.rule_said.ensures.grown c.rule_said-2.ensures.grown)
    c.perhaps_of.ensures.grown) c.rules_of.ensures.grown) c.environment_of.ensures.grown

pub returns-clause-grown : goal.returns-clause-grown
returns-clause-grown g c =
    extends_on (extends_on (extends_on (extends_on c.rule_said.ensures.grown c.rule_said-2.ensures.grown)
    c.perhaps_of.ensures.grown) c.rules_of.ensures.grown) c.environment_of.ensures.grown

pub returns-clause-sure : goal.returns-clause-sure
returns-clause-sure g c =
    let behind = extends_on c.rules_of.ensures.grown c.environment_of.ensures.grown in
    let later = extends_on c.perhaps_of.ensures.grown behind in
    record {
      rules = rules_later c.environment_of.ensures.grown c.in_ok-rules.rules.items c.in_ok-rules.ensures.sure;
      perhaps = rules_later behind c.in_ok-perhaps.perhaps.items c.in_ok-perhaps.ensures.sure;
      env = c.in-Ok.ensures.sure;
      left = rule_later (extends_on c.rule_said-2.ensures.grown later) c.in_ok-left.left c.in_ok-left.ensures.sure;
      right = rule_later later c.in_ok-right.right c.in_ok-right.ensures.sure;
    }
