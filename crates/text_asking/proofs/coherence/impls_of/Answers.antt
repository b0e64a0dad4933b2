use Rattle.relation_terms.proofs.Stays.{extends_on}
use Rattle.text_asking.proofs.AskingLemmas.{ready_stays}
use Rattle.text_asking.proofs.CoherenceLemmas.{header_later}
use Rattle.text_asking.proofs.coherence.impls_of.Goals as goal

pub header_of-requires-2 : goal.header_of-requires-2
header_of-requires-2 g c =
    ready_stays c.header_of.ensures.grown c.args.terms.now.built.now c.requires

pub environment_of-requires : goal.environment_of-requires
environment_of-requires g c =
    ready_stays (extends_on c.header_of.ensures.grown c.header_of-2.ensures.grown) c.args.terms.now.built.now c.requires

pub returns-in_err-rhs-clause-grown : goal.returns-in_err-rhs-clause-grown
returns-in_err-rhs-clause-grown g c = extends_on c.header_of.ensures.grown c.header_of-2.ensures.grown

pub returns-in_err-param_env-clause-grown : goal.returns-in_err-param_env-clause-grown
returns-in_err-param_env-clause-grown g c =
    extends_on (extends_on c.header_of.ensures.grown c.header_of-2.ensures.grown) c.environment_of.ensures.grown

pub returns-clause-grown : goal.returns-clause-grown
returns-clause-grown g c =
    extends_on (extends_on c.header_of.ensures.grown c.header_of-2.ensures.grown) c.environment_of.ensures.grown

pub returns-clause-sure : goal.returns-clause-sure
returns-clause-sure g c =
    let m = g.I.Interner.meaning c.header_of.new.cx in
    let n = g.I.Interner.meaning c.header_of-2.new.cx in
    let o = g.I.Interner.meaning c.environment_of.new.cx in
    record {
      left_known = header_later m o (extends_on c.header_of-2.ensures.grown c.environment_of.ensures.grown)
          c.in_ok-lhs.lhs.1 c.in_ok-lhs.ensures.sure;
      right_known = header_later n o c.environment_of.ensures.grown c.in_ok-rhs.rhs.1 c.in_ok-rhs.ensures.sure;
      env_known = c.in_ok-param_env.ensures.sure;
    }
