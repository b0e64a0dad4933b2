use Rattle.std.proofs.Common.{◌<◌, ◌≤◌, ap, sym, ◌∙◌, subst, length, get_or}
use Rattle.std.specs.Prelude.{false}
use Rattle.reference_interner.specs.Nodes.{meaning_of}
use Rattle.reference_interner.specs.Adding.{items_in}
use Rattle.reference_interner.proofs.ItemLemmas.{read_there, read_past}
use Rattle.reference_interner.specs.Items.{is_lang}
use Rattle.reference_interner.proofs.DefKindLemmas.{lang_sized}
use Rattle.reference_interner.proofs.RefInternerInterner.is_trait_lang_item.Goals as goal

pub returns-in-Some-Sized : goal.returns-in-Some-Sized
unfolding meaning_of
returns-in-Some-Sized c =
    let items = items_in c.args.self.now in
    let i = (c.args.trait_id.now.0).0 in
    let item = c.in-Some-Sized.item.now in
    let here = c.in-Some-Sized.ensures.lookup.3 in
    let at = here.1 item ∙ ap (λ xs. get_or xs i item) c.deref.ensures.value in
    let l = subst (λ xs. i < length xs) c.deref.ensures.value here.0 in
    lang_sized c.args.lang_item item ∙ ap (is_lang c.args.lang_item) at ∙
    sym (read_there (is_lang c.args.lang_item) false items i item l)

pub returns-in-None-default : goal.returns-in-None-default
unfolding meaning_of
returns-in-None-default c =
    let i = (c.args.trait_id.now.0).0 in
    let past = subst (λ xs. length xs ≤ i) c.deref.ensures.value c.in-None-default.ensures.lookup.3 in
    sym (read_past (is_lang c.args.lang_item) false (items_in c.args.self.now) i past)
