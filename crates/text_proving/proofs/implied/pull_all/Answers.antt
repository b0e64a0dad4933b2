use Rattle.std.proofs.Common.{◌∙◌, sym, ap, subst}
use Rattle.std.specs.Prelude.{Some}
use Rattle.std.specs.List.{All}
use Rattle.relation_terms.specs.Meaning.{Extends}
use Rattle.relation_terms.proofs.Stays.{extends_on}
use Rattle.relation_elaboration.specs.Pulling.{Pulls, RunsTo}
use Rattle.text_proving.specs.Made.{KnowsClause}
use Rattle.text_proving.proofs.Implying.{clauses_more, run_more, run_ends}
use Rattle.text_proving.proofs.implied.pull_all.Goals as goal

pub loop-preserved : goal.loop-preserved
loop-preserved g c =
    let meaning = g.I.Interner.meaning in
    let e = c.args.elaborator.now in
    let s = c.loop.elaborator in
    let t = c.pull.new.self in
    let p = subst (λ o. Pulls meaning (λ m k. m.clause k) s (Some o) t) c.in-Some-Ok.field-0-is c.in-Some-Ok.ensures.steps in
    let inv = c.loop.invariant in
    record {
      same_reference = (p.2).reference ∙ inv.same_reference;
      grown = extends_on inv.grown (p.2).grown;
      sure = subst (All (KnowsClause (meaning t.cx))) (sym c.in_ok-push-in-Some-Ok.ensures.items)
          (clauses_more (p.2).grown c.loop.all.items c.in-Some-Ok.clause inv.sure p.3);
      runs = subst (λ ks. RunsTo meaning (λ m k. m.clause k) e ks t) (sym c.in_ok-push-in-Some-Ok.ensures.items)
          (run_more meaning e s t c.loop.all.items c.in-Some-Ok.clause inv.runs p);
    }

pub returns-in_err-push-in-Some-Ok-clause-same_reference : goal.returns-in_err-push-in-Some-Ok-clause-same_reference
returns-in_err-push-in-Some-Ok-clause-same_reference g c =
    let p = subst (λ o. Pulls g.I.Interner.meaning (λ m k. m.clause k) c.loop.elaborator (Some o) c.pull.new.self)
    c.in-Some-Ok.field-0-is c.in-Some-Ok.ensures.steps in
    (p.2).reference ∙ c.loop.invariant.same_reference

pub returns-in_err-push-in-Some-Ok-clause-grown : goal.returns-in_err-push-in-Some-Ok-clause-grown
returns-in_err-push-in-Some-Ok-clause-grown g c =
    let p = subst (λ o. Pulls g.I.Interner.meaning (λ m k. m.clause k) c.loop.elaborator (Some o) c.pull.new.self)
    c.in-Some-Ok.field-0-is c.in-Some-Ok.ensures.steps in
    extends_on c.loop.invariant.grown (p.2).grown

pub returns-in-Some-Err : goal.returns-in-Some-Err
returns-in-Some-Err g c =
    let p = subst (λ o. Pulls g.I.Interner.meaning (λ m k. m.clause k) c.loop.elaborator (Some o) c.pull.new.self)
    c.in-Some-Err.field-0-is c.in-Some-Err.ensures.steps in
    let inv = c.loop.invariant in
    record {
      same_reference = (p.1).reference ∙ inv.same_reference;
      grown = extends_on inv.grown (p.1).grown;
      sure = tt;
      runs = tt;
    }

pub returns-in-None : goal.returns-in-None
returns-in-None g c =
    let meaning = g.I.Interner.meaning in
    let e = c.args.elaborator.now in
    let s = c.loop.elaborator in
    let t = c.pull.new.self in
    let p = c.in-None.ensures.steps in
    let inv = c.loop.invariant in
    record {
      same_reference = ap (λ z. z.reference) p.2 ∙ inv.same_reference;
      grown = subst (λ z. Extends (meaning e.cx) (meaning z.cx)) (sym p.2) inv.grown;
      sure = subst (λ z. All (KnowsClause (meaning z.cx)) c.loop.all.items) (sym p.2) inv.sure;
      runs = run_ends meaning e s t c.loop.all.items inv.runs p.1 p.2;
    }
