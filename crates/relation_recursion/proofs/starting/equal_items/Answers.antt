use Rattle.std.proofs.Common.{rules, ◌∙◌, sym, ap}
use Rattle.relation_terms.specs.Meaning.{arg_tree}
use Rattle.relation_terms.specs.Trees.{count}
use Rattle.relation_terms.proofs.Members.{list_count}
use Rattle.relation_recursion.proofs.starting.equal_items.Goals as goal

pub returns-clause-item : goal.returns-clause-item
returns-clause-item g c =
    let same = g.met.I.Interner.same_id c.args.cx.now c.args.item.now c.args.other.now in
    same.0 (let t = c.if-ne.false in let h = c.ne.ensures in search rules)

pub returns-clause-left : goal.returns-clause-left
returns-clause-left g c =
    let m = g.I.Interner.meaning c.args.cx.now in
    sym (ap count c.args-n.ensures ∙ list_count (arg_tree m) c.args-n.result.now)

pub returns-clause-right : goal.returns-clause-right
returns-clause-right g c =
    let m = g.I.Interner.meaning c.args.cx.now in
    c.if-n-m.false ∙ sym (ap count c.args-m.ensures ∙ list_count (arg_tree m) c.args-m.result.now)
