use Rattle.std.proofs.Common.{◌<◌, ◌≤◌, ap, sym, ◌∙◌, subst, length, get_or, [], map}
use Rattle.reference_interner.specs.Nodes.{meaning_of}
use Rattle.reference_interner.proofs.ItemLemmas.{read_there, read_past}
use Rattle.reference_interner.specs.Adding.{items_in}
use Rattle.reference_interner.specs.Items.{implied_of}
use Rattle.reference_interner.proofs.RefInternerInterner.explicit_implied_predicates_of.Goals as goal

pub returns-in-Some : goal.returns-in-Some
unfolding meaning_of
returns-in-Some c =
    let items = items_in c.args.self.now in
    let i = (c.args.trait_id.now.0).0 in
    let item = c.in-Some.item.now in
    let here = c.in-Some.ensures.lookup.3 in
    let at = here.1 item ∙ ap (λ xs. get_or xs i item) c.deref.ensures.value in
    let l = subst (λ xs. i < length xs) c.deref.ensures.value here.0 in
    ap (map (λ p. p.0)) c.deref-in-Some.ensures.value ∙ ap implied_of at ∙
    sym (read_there implied_of [] items i item l)

pub returns-in-None : goal.returns-in-None
unfolding meaning_of
returns-in-None c =
    let i = (c.args.trait_id.now.0).0 in
    let past = subst (λ xs. length xs ≤ i) c.deref.ensures.value c.in-None.ensures.lookup.3 in
    sym (read_past implied_of [] (items_in c.args.self.now) i past)
