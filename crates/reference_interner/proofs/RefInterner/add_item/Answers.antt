use Rattle.std.proofs.Common.{◌≤◌, subst, sym, length, le_refl, refl, ◌∙◌, ap, map, is_ok}
use Rattle.reference_interner.specs.Items.{Items}
use Rattle.reference_interner.specs.Adding.{items_in}
use Rattle.reference_interner.proofs.ItemLemmas.{same_terms, no_generics, new_variances, new_generics, new_alias_variances}
use Rattle.reference_interner.proofs.ItemLemmas.{new_parent, new_alias_kind, new_auto, new_lang, no_lang, others_stand}
use Rattle.reference_interner.proofs.ItemLemmas.{new_params, new_states}
use Rattle.reference_interner.proofs.StatedLemmas.{stated_item}
use Rattle.reference_interner.proofs.RefInterner.add_item.Goals as goal

pub returns-clause-fresh : goal.returns-clause-fresh
returns-clause-fresh c =
    let items = items_in c.args.self.now in
    no_generics items c.args.self.now.nodes c.in_ok-number.number
    (subst (λ n. length items.list ≤ n) (sym (c.in_ok-number.ensures.number ∙ c.item_count.ensures)) (le_refl (length items.list)))

pub returns-clause-generics : goal.returns-clause-generics
returns-clause-generics c =
    let before = items_in c.args.self.now in
    let after : Items = record { list = c.push.new.self.items; next_solver = c.args.self.now.next_solver } in
    new_generics before after _ c.args.self.now.nodes c.in_ok-number.number
    c.in_ok-push.ensures.items (c.in_ok-number.ensures.number ∙ c.item_count.ensures) refl

pub returns-clause-variances : goal.returns-clause-variances
returns-clause-variances c =
    let before = items_in c.args.self.now in
    let after : Items = record { list = c.push.new.self.items; next_solver = c.args.self.now.next_solver } in
    new_variances before after _ c.args.self.now.nodes c.in_ok-number.number
    c.in_ok-push.ensures.items (c.in_ok-number.ensures.number ∙ c.item_count.ensures) refl

pub returns-clause-alias_variances : goal.returns-clause-alias_variances
returns-clause-alias_variances c =
    let before = items_in c.args.self.now in
    let after : Items = record { list = c.push.new.self.items; next_solver = c.args.self.now.next_solver } in
    new_alias_variances before after _ c.args.self.now.nodes c.in_ok-number.number
    c.in_ok-push.ensures.items (c.in_ok-number.ensures.number ∙ c.item_count.ensures) refl

pub returns-clause-parent : goal.returns-clause-parent
returns-clause-parent c =
    let before = items_in c.args.self.now in
    let after : Items = record { list = c.push.new.self.items; next_solver = c.args.self.now.next_solver } in
    new_parent before after _ c.args.self.now.nodes c.in_ok-number.number
    c.in_ok-push.ensures.items (c.in_ok-number.ensures.number ∙ c.item_count.ensures) refl

pub returns-clause-alias_kind : goal.returns-clause-alias_kind
returns-clause-alias_kind c =
    let before = items_in c.args.self.now in
    let after : Items = record { list = c.push.new.self.items; next_solver = c.args.self.now.next_solver } in
    new_alias_kind before after _ c.args.self.now.nodes c.in_ok-number.number
    c.in_ok-push.ensures.items (c.in_ok-number.ensures.number ∙ c.item_count.ensures) refl

pub returns-clause-no_auto : goal.returns-clause-no_auto
returns-clause-no_auto c =
    let before = items_in c.args.self.now in
    let after : Items = record { list = c.push.new.self.items; next_solver = c.args.self.now.next_solver } in
    new_auto before after _ c.args.self.now.nodes c.in_ok-number.number
    c.in_ok-push.ensures.items (c.in_ok-number.ensures.number ∙ c.item_count.ensures) refl

pub returns-clause-no_lang_item : goal.returns-clause-no_lang_item
returns-clause-no_lang_item c =
    let before = items_in c.args.self.now in
    let after : Items = record { list = c.push.new.self.items; next_solver = c.args.self.now.next_solver } in
    λ i. new_lang before after _ c.args.self.now.nodes c.in_ok-number.number
    c.in_ok-push.ensures.items (c.in_ok-number.ensures.number ∙ c.item_count.ensures) refl i ∙ no_lang i _ refl

pub returns-clause-others : goal.returns-clause-others
returns-clause-others c =
    let before = items_in c.args.self.now in
    let after : Items = record { list = c.push.new.self.items; next_solver = c.args.self.now.next_solver } in
    others_stand before after _ c.args.self.now.nodes c.in_ok-number.number
    c.in_ok-push.ensures.items (c.in_ok-number.ensures.number ∙ c.item_count.ensures) refl

pub returns-clause-terms : goal.returns-clause-terms
returns-clause-terms c =
    let before = items_in c.args.self.now in
    let after : Items = record { list = c.push.new.self.items; next_solver = c.args.self.now.next_solver } in
    same_terms before after c.args.self.now.nodes

pub returns-clause-params : goal.returns-clause-params
returns-clause-params c =
    let before = items_in c.args.self.now in
    let after : Items = record { list = c.push.new.self.items; next_solver = c.args.self.now.next_solver } in
    new_params before after _ c.args.self.now.nodes c.in_ok-number.number
    c.in_ok-push.ensures.items (c.in_ok-number.ensures.number ∙ c.item_count.ensures) refl

pub returns-clause-nothing_stated : goal.returns-clause-nothing_stated
returns-clause-nothing_stated c =
    let before = items_in c.args.self.now in
    let after : Items = record { list = c.push.new.self.items; next_solver = c.args.self.now.next_solver } in
    new_states before after _ c.args.self.now.nodes c.in_ok-number.number
    c.in_ok-push.ensures.items (c.in_ok-number.ensures.number ∙ c.item_count.ensures) refl
    (ap (map (λ p. p.0)) c.new.ensures.items) (ap (map (λ p. p.0)) c.new-2.ensures.items) c.new-3.ensures.items

pub returns-clause-recorded : goal.returns-clause-recorded
returns-clause-recorded c = record {
  item = _;
  put = c.in_ok-push.ensures.items;
  kind = refl;
  name = refl;
  variances = refl;
  no_auto = refl;
  no_sized = refl;
  no_supers = ap (map (λ p. p.0)) c.new.ensures.items;
  no_implied = ap (map (λ p. p.0)) c.new-2.ensures.items;
  no_bounds = c.new-3.ensures.items;
}

pub invariant_of-self-clause-stated : goal.invariant_of-self-clause-stated
invariant_of-self-clause-stated c =
    stated_item c.args.self.now.nodes c.args.self.now.items.items c.push.new.self.items _ (is_ok c.push.result)
    (ap (map (λ p. p.0)) c.new.ensures.items) (ap (map (λ p. p.0)) c.new-2.ensures.items) c.new-3.ensures.items
    c.push.ensures.items c.args.self.now.stated
