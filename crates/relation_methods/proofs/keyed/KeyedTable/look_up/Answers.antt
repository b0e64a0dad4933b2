-- What a key finds is picked by its numbers, merged with those of the entries without one.
use Rattle.std.proofs.Common.{◌∙◌}
use Rattle.std.proofs.lemmas.Result.{IfOk-weaker}
use Rattle.relation_methods.proofs.Merging.{found_below}
use Rattle.relation_methods.proofs.Indexing.{numbers_found, all_found, entries_found}
use Rattle.relation_methods.proofs.keyed.KeyedTable.look_up.Goals as goal

pub returns-in-None : goal.returns-in-None
returns-in-None g c = IfOk-weaker c.all.result _ _ (λ v h. h ∙ (c.deref.ensures.value ∙ (c.self.view_is ∙
    all_found g.K.PartialEq.eq c.args.key c.args.self.now c.in-None.is))) c.all.ensures

pub picked-requires : goal.picked-requires
picked-requires g c = found_below _ c.deref-in-Some-2.result.now c.deref-in-Some-3.result.now
    (numbers_found g.K.PartialEq.eq c.self.inside.by_key c.self.inside.blanket.items c.deref-in-Some.result.now
    c.numbers_of.result.now c.deref-in-Some-3.result.now c.self.inside.entries.items c.deref-in-Some-2.result.now
    c.in-Some.key c.self.invariant c.deref-in-Some.ensures.value c.numbers_of.ensures
    (c.deref-in-Some-3.ensures.value ∙ c.in_ok-numbers-in-Some.ensures) c.deref-in-Some-2.ensures.value)

pub returns-in_ok-numbers-in-Some : goal.returns-in_ok-numbers-in-Some
returns-in_ok-numbers-in-Some g c = IfOk-weaker c.picked.result _ _ (λ v p.
    entries_found g.K.PartialEq.eq c.args.key c.in-Some.key c.args.self.now c.deref-in-Some-2.result.now _
    c.deref-in-Some-3.result.now c.in-Some.is (c.deref-in-Some-2.ensures.value ∙ c.self.view_is)
    (numbers_found g.K.PartialEq.eq c.self.inside.by_key c.self.inside.blanket.items c.deref-in-Some.result.now
    c.numbers_of.result.now c.deref-in-Some-3.result.now c.self.inside.entries.items c.deref-in-Some-2.result.now
    c.in-Some.key c.self.invariant c.deref-in-Some.ensures.value c.numbers_of.ensures
    (c.deref-in-Some-3.ensures.value ∙ c.in_ok-numbers-in-Some.ensures) c.deref-in-Some-2.ensures.value) p) c.picked.ensures
