use Rattle.std.proofs.Common.{take}
use Rattle.std.proofs.lemmas.List.Elements.{All-more, All-weaker}
use Rattle.relation_terms.proofs.Stays.{extends_on}
use Rattle.text_reading.specs.declared.naming.program.Variables.{Variables}
use Rattle.text_asking.specs.Asking.{HasStated}
use Rattle.text_asking.proofs.Universes.{stated_stays}
use Rattle.text_asking.proofs.context.have_all_stated.Goals as goal

-- What was stated earlier stays, and what is stated now is there.
pub loop-variables-preserved : goal.loop-variables-preserved
loop-variables-preserved g c =
    let xs = c.args.stated.now in
    let i = c.loop-variables.variables-index in
    let none : Variables = record { types = 0; consts = 0; regions = 0; universe = 0 } in
    let x = c.loop-variables.ctx.inner in
    let y = c.have_stated.new.ctx.inner in
    let h = c.have_stated.ensures in
    let before = c.loop-variables.invariant in
    record {
      lawful = h.lawful;
      grown = extends_on before.grown h.grown;
      so_far = All-more (HasStated y) xs i none c.loop-variables-test.true
          (All-weaker (HasStated x) (HasStated y) (stated_stays x y h.kept h.universe) (take i xs) before.so_far)
          c.in_ok-have_stated.ensures.has;
    }
