use Rattle.std.proofs.Common.{◌∙◌, sym}
use Rattle.variable_tables.specs.Tables.{store_of}
use Rattle.relation_reference.proofs.Remembering.{key_eq, remembers_more}
use Rattle.relation_reference.proofs.context.memory.keep_resolved.Goals as goal

pub returns-in_ok-insert : goal.returns-in_ok-insert
returns-in_ok-insert g c =
    remembers_more (g.I.Interner.meaning c.args._cx.now) (store_of (g.I.Interner.meaning c.args._cx.now) c.args._inner.now) (key_eq g.I.Key.PartialEq.eq) c.args.memory.now
    c.widen_map.new.map c.args.part.now c.args.resolved c.in-Some.key (sym c.key_of.ensures ∙ c.in-Some.is)
    c.requires.comes (λ x. c.widen_map.ensures.finds x ∙ c.in_ok-insert.ensures.updates.0 x) c.requires.remembers
