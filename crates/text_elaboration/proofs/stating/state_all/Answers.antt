use Rattle.std.proofs.Common.{map}
use Rattle.reference_interner.specs.Adding.{meaning_in}
use Rattle.text_elaboration.specs.Stating.{terms_said}
use Rattle.text_elaboration.proofs.SaidLemmas.{stay_on, stay_known, stay_built, step_lent}
use Rattle.text_elaboration.proofs.stating.state_all.Goals as goal

pub loop-stated-preserved : goal.loop-stated-preserved
loop-stated-preserved c =
    let x = c.args.cx.now in
    let y = c.loop-stated.cx in
    let z = c.state.new.cx in
    let m = meaning_in x in
    let ids = c.args.ids.now in
    let names = c.args.names.now in
    let p = c.args.program.now in
    let keys = c.in_ok-built.built.items in
    let inv = c.loop-stated.invariant in
    let stay = c.state.ensures.stays in
    record {
      stays = stay_on inv.stays stay;
      keys = stay_known stay keys inv.keys;
      built = stay_built stay (terms_said (map m.id ids) (map m.name names) p) keys inv.keys inv.built;
      stated = step_lent ids names p keys c.deref.result.now c.deref-stated-items.result.now c.loop-stated.stated-index x y z
          _ c.loop-stated.own c.in_ok-own.field-0 c.deref-stated-items.ensures.value c.deref.ensures.value
          c.loop-stated-test.true inv.stays stay inv.built c.in_ok-own.ensures.stated inv.stated;
    }
