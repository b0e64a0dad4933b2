use Rattle.std.proofs.Common.{◌∷◌, [], ◌++◌, if◌then◌else◌, sym, ap, ◌∙◌}
use Rattle.text_terms.specs.declared.building.inner.Inner.TheVariants.{Pat}
use Rattle.text_terms.proofs.ListLemmas.{each_more}
use Rattle.text_terms.proofs.building.inner.pats_of.Goals as goal

pub loop-inner-preserved : goal.loop-inner-preserved
loop-inner-preserved g c =
    let before = c.loop-inner.pats.items in
    let next = c.in-Pat.pat in
    let pushed = c.push.ensures.items ∙ ap (λ b. if b then (before ++ next ∷ []) else before) c.if-is_err.ensures.negation in
    each_more Pat before c.args.inners.now next c.inner-item.result c.loop-inner.inner-index c.push.new.self.items
    c.loop-inner.invariant (sym c.in-Pat.is) c.inner-item.is c.loop-inner-test.true pushed
