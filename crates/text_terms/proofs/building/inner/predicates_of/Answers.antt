use Rattle.std.proofs.Common.{◌∷◌, [], ◌++◌, if◌then◌else◌, sym, ap, ◌∙◌}
use Rattle.text_terms.specs.declared.building.inner.Inner.TheVariants.{Predicate}
use Rattle.text_terms.proofs.ListLemmas.{each_more}
use Rattle.text_terms.proofs.building.inner.predicates_of.Goals as goal

pub loop-inner-preserved : goal.loop-inner-preserved
loop-inner-preserved g c =
    let before = c.loop-inner.predicates.items in
    let next = c.in-Predicate.predicate in
    let pushed = c.push.ensures.items ∙ ap (λ b. if b then (before ++ next ∷ []) else before) c.if-is_err.ensures.negation in
    each_more Predicate before c.args.inners.now next c.inner-item.result c.loop-inner.inner-index c.push.new.self.items
    c.loop-inner.invariant (sym c.in-Predicate.is) c.inner-item.is c.loop-inner-test.true pushed
