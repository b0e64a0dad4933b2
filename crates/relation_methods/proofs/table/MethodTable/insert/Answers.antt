-- The new entry has the key of its type.
use Rattle.relation_methods.proofs.Finding.{appended, keyed_after}
use Rattle.relation_methods.proofs.table.MethodTable.insert.Goals as goal

pub returns-clause-ok : goal.returns-clause-ok
returns-clause-ok g c = appended (g.I.Interner.meaning c.args.cx.now)
    (record { of = c.args.of; key = c.simplify_type-key.result; value = c.args.value }) c.self.inside.entries
    c.args.self.now c.insert.new.self c.requires c.simplify_type-key.ensures c.self.view_is c.in_ok-insert.ensures.ok

pub returns-clause-keyed : goal.returns-clause-keyed
returns-clause-keyed g c = keyed_after (g.I.Interner.meaning c.args.cx.now)
    (record { of = c.args.of; key = c.simplify_type-key.result; value = c.args.value }) c.self.inside.entries
    c.args.self.now c.insert.new.self c.requires c.simplify_type-key.ensures c.self.view_is c.in_ok-insert.ensures.ok
