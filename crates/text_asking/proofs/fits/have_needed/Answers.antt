use Rattle.std.proofs.Common.{◌≤◌, take, subst, arith}
use Rattle.std.proofs.lemmas.List.{take_all}
use Rattle.std.proofs.lemmas.List.Elements.{All-more, All-weaker}
use Rattle.std.specs.List.{All}
use Rattle.relation_terms.proofs.Stays.{extends_on}
use Rattle.text_reading.specs.declared.naming.program.VariableKind.TheVariants.{Ty}
use Rattle.text_asking.specs.Asking.{var_kind, variables_in}
use Rattle.text_asking.specs.Fits.{needed}
use Rattle.text_asking.proofs.FitLemmas.{of_all_kinds}
use Rattle.text_asking.proofs.fits.have_needed.Goals as goal

-- What was needed earlier stays, and what is needed now is there.
pub loop-kind-preserved : goal.loop-kind-preserved
loop-kind-preserved g c =
    let n = c.args.needs.now in
    let i = c.loop-kind.kind-index in
    let x = c.loop-kind.ctx.inner in
    let y = c.make_variables.new.ctx.inner in
    let h = c.make_variables.ensures in
    let before = c.loop-kind.invariant in
    let count = c.of.ensures in
    let has = c.in_ok-make_variables.ensures.has in
    record {
      lawful = h.lawful;
      grown = extends_on before.grown h.grown;
      kept = λ k. let a = before.kept k in let b = h.kept k in omega (arith, a, b);
      universe = omega (arith, before.universe, h.universe);
      so_far = All-more (λ k. needed n (var_kind k) ≤ variables_in y (var_kind k)) _ i Ty c.loop-kind-test.true
          (All-weaker (λ k. needed n (var_kind k) ≤ variables_in x (var_kind k))
          (λ k. needed n (var_kind k) ≤ variables_in y (var_kind k))
          (λ k few. let more = h.kept (var_kind k) in omega (arith, few, more)) (take i _) before.so_far)
          (omega (arith, count, has));
    }

pub returns-clause-has : goal.returns-clause-has
returns-clause-has g c =
    let n = c.args.needs.now in
    let x = c.loop-kind.ctx.inner in
    let end = c.loop-kind-test.false in
    of_all_kinds (λ k. needed n k ≤ variables_in x k)
    (subst (All (λ k. needed n (var_kind k) ≤ variables_in x (var_kind k))) (take_all c.loop-kind.kind-index _ (omega (arith, end)))
    c.loop-kind.invariant.so_far)
