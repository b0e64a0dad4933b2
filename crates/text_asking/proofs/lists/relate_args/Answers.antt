-- Both lists are known still where the environment was made, and may be related there.
use Rattle.std.proofs.Common.{rules, sym, ◌∙◌, ap, IsTrue}
use Rattle.relation_terms.specs.Trees.{count}
use Rattle.relation_terms.specs.Meaning.{Extends}
use Rattle.relation_terms.proofs.Stays.{knows_args}
use Rattle.variable_tables.specs.Tables.{store_of}
use Rattle.relation_coherence.proofs.BothOpened.{arguments_in}
use Rattle.text_asking.proofs.FitLemmas.{when_ok}
use Rattle.text_asking.proofs.RelatedLemmas.{related_known}
use Rattle.text_asking.proofs.lists.relate_args.Goals as goal

pub may_relate-lhs_fits-requires : goal.may_relate-lhs_fits-requires
may_relate-lhs_fits-requires g c =
    knows_args c.environment_for.ensures.grown c.args.lhs c.requires.lhs_known

pub may_relate-rhs_fits-requires : goal.may_relate-rhs_fits-requires
may_relate-rhs_fits-requires g c =
    knows_args c.environment_for.ensures.grown c.args.rhs c.requires.rhs_known

pub relate-requires : goal.relate-requires
relate-requires g c =
    let m = g.I.Interner.meaning c.args.ctx.now.interner in
    let n = g.I.Interner.meaning c.environment_for.new.ctx.interner in
    let e : Extends m n = c.environment_for.ensures.grown in
    let t = c.args.lhs in
    let u = c.args.rhs in
    let h = c.requires.lhs_known in
    let k = c.requires.rhs_known in
    let st = store_of n c.environment_for.new.ctx.inner in
    let may = c.in_ok-may_ask.ensures in
    let left = when_ok c.may_relate-lhs_fits.result may.lhs c.may_relate-lhs_fits.ensures.may in
    let right = when_ok c.may_relate-rhs_fits.result may.rhs c.may_relate-rhs_fits.ensures.may in
    let many : IsTrue c.are_as_many.result = (let i = c.if-not-are_as_many.false in search rules) in
    record {
      can = record {
        lawful = c.environment_for.ensures.lawful;
        decides = may.decides;
        env_known = c.in_ok-param_env.ensures.sure;
        lhs_known = knows_args e t h;
        rhs_known = knows_args e u k;
        fits = ap count (e.args t h) ∙ c.are_as_many.ensures many ∙ sym (ap count (e.args u k));
        lhs_taken = left.1;
        rhs_taken = right.1;
        lhs_in = arguments_in st (n.args t) left.0;
        rhs_in = arguments_in st (n.args u) right.0;
      };
    }

pub returns-clause-known : goal.returns-clause-known
returns-clause-known g c =
    related_known (g.I.Interner.meaning c.relate.new.ctx.interner) c.relate.result _ c.relate.ensures.asks.goals
    c.relate.ensures.fault.fault_known
