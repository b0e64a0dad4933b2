use Rattle.std.proofs.Common.{subst}
use Rattle.std.specs.List.{All}
use Rattle.std.proofs.lemmas.List.{take_all}
use Rattle.text_users.specs.Found.{Holds}
use Rattle.text_users.proofs.Finding.{held_more}
use Rattle.text_users.proofs.methods.table_of.Goals as goal

pub loop-method-preserved : goal.loop-method-preserved
loop-method-preserved g c =
    let m = g.I.Interner.meaning c.args.cx.now in
    let inv = c.loop-method.invariant in
    record {
      keyed = c.in_ok-insert.ensures.keyed inv.keyed;
      so_far = held_more m c.method-item.result c.loop-method.table c.insert.new.self c.args.methods.now
          c.loop-method.method-index c.in_ok-insert.ensures.ok c.method-item.is c.loop-method-test.true inv.so_far;
    }

pub returns-clause-holds : goal.returns-clause-holds
returns-clause-holds g c =
    subst (All (Holds c.loop-method.table)) (take_all c.loop-method.method-index c.args.methods.now c.loop-method-test.false)
    c.loop-method.invariant.so_far
