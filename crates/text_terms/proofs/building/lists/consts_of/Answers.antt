use Rattle.std.proofs.Common.{◌∷◌, [], ◌++◌, if◌then◌else◌, sym, ap, ◌∙◌}
use Rattle.relation_terms.specs.declared.terms.generic_arg.GenericArgKind.TheVariants.{Const}
use Rattle.text_terms.proofs.ListLemmas.{each_more}
use Rattle.text_terms.proofs.building.lists.consts_of.Goals as goal

pub loop-key-preserved : goal.loop-key-preserved
loop-key-preserved g c =
    let before = c.loop-key.constants.items in
    let next = c.in-Const.constant in
    let pushed = c.push.ensures.items ∙ ap (λ b. if b then (before ++ next ∷ []) else before) c.if-is_err.ensures.negation in
    each_more Const before c.args.keys.now next c.key-item.result c.loop-key.key-index c.push.new.self.items
    c.loop-key.invariant (sym c.in-Const.is) c.key-item.is c.loop-key-test.true pushed
