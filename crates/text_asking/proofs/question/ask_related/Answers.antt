-- Both types are known still where the environment was made, and may be related there.
use Rattle.relation_terms.proofs.Stays.{knows_ty}
use Rattle.text_asking.proofs.FitLemmas.{fit_after}
use Rattle.text_asking.proofs.RelatedLemmas.{related_known}
use Rattle.text_asking.proofs.question.ask_related.Goals as goal

pub relate-requires : goal.relate-requires
relate-requires g c =
    let m = g.I.Interner.meaning c.args.ctx.now.interner in
    let grown = c.environment_for.ensures.grown in
    let may = c.in_ok-may_ask.ensures in
    let n = g.I.Interner.meaning c.environment_for.new.ctx.interner in
    let x = c.environment_for.new.ctx.inner in
    let lhs = c.in_ok-lhs.lhs in
    let rhs = c.in_ok-rhs.rhs in
    let env = c.in_ok-param_env.ensures in
    let left = fit_after grown lhs (c.in_ok-lhs.ensures.known m c.requires.ready) c.in_ok-lhs.lhs_fit
    (c.in_ok-lhs.ensures.fit m c.requires.fit) x env.lhs may.lhs in
    let right = fit_after grown rhs (c.in_ok-rhs.ensures.known m c.requires.ready) c.in_ok-rhs.rhs_fit
    (c.in_ok-rhs.ensures.fit m c.requires.fit) x env.rhs may.rhs in
    record {
      can = record {
        lawful = c.environment_for.ensures.lawful;
        decides = may.decides;
        env_known = c.in_ok-param_env.ensures.sure;
        lhs_known = knows_ty grown c.in_ok-lhs.lhs (c.in_ok-lhs.ensures.known m c.requires.ready);
        rhs_known = knows_ty grown c.in_ok-rhs.rhs (c.in_ok-rhs.ensures.known m c.requires.ready);
        fits = tt;
        lhs_taken = left.1;
        rhs_taken = right.1;
        lhs_in = left.0;
        rhs_in = right.0;
      };
    }

pub returns-clause-known : goal.returns-clause-known
returns-clause-known g c =
    related_known (g.I.Interner.meaning c.relate.new.ctx.interner) c.relate.result _ c.relate.ensures.asks.goals
    c.relate.ensures.fault.fault_known
