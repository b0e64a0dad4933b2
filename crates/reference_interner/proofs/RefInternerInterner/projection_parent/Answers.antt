use Rattle.std.proofs.Common.{◌<◌, ◌≤◌, ap, sym, ◌∙◌, subst, length, get_or}
use Rattle.std.specs.Prelude.{None}
use Rattle.reference_interner.specs.Nodes.{meaning_of}
use Rattle.reference_interner.specs.Adding.{items_in}
use Rattle.reference_interner.proofs.ItemLemmas.{read_there, read_past}
use Rattle.std.specs.Option.{option_map}
use Rattle.reference_interner.specs.Items.{parent_of}
use Rattle.reference_interner.proofs.DefKindLemmas.{no_parent, parent_known}
use Rattle.reference_interner.proofs.RefInternerInterner.projection_parent.Goals as goal

pub returns-in_err-parent : goal.returns-in_err-parent
unfolding meaning_of
returns-in_err-parent c =
    let i = (c.args.def_id.now.0).0 in
    let past = subst (λ xs. length xs ≤ i) c.deref.ensures.value c.in_err-parent.ensures.lookup.3 in
    let none = read_past (λ x. parent_of x.kind.def) None (items_in c.args.self.now) i past in
    ap (option_map (λ t. (t.0).0)) c.from_residual.ensures ∙ sym none

pub returns-in_default : goal.returns-in_default
unfolding meaning_of
returns-in_default c =
    let items = items_in c.args.self.now in
    let i = (c.args.def_id.now.0).0 in
    let item = c.in_ok-parent.field-0.now in
    let here = c.in_ok-parent.ensures.lookup.3 in
    let at = here.1 item ∙ ap (λ xs. get_or xs i item) c.deref.ensures.value in
    let l = subst (λ xs. i < length xs) c.deref.ensures.value here.0 in
    sym (no_parent item.kind.def c.in_default.not-AssocTy c.in_default.not-AssocConst) ∙
    ap (λ x. parent_of x.kind.def) at ∙ sym (read_there (λ x. parent_of x.kind.def) None items i item l)

pub returns-in-AssocTy : goal.returns-in-AssocTy
unfolding meaning_of
returns-in-AssocTy c =
    let items = items_in c.args.self.now in
    let i = (c.args.def_id.now.0).0 in
    let item = c.in_ok-parent.field-0.now in
    let here = c.in_ok-parent.ensures.lookup.3 in
    let at = here.1 item ∙ ap (λ xs. get_or xs i item) c.deref.ensures.value in
    let l = subst (λ xs. i < length xs) c.deref.ensures.value here.0 in
    sym (parent_known item.kind.def c.in-AssocTy.parent c.in-AssocTy.is) ∙
    ap (λ x. parent_of x.kind.def) at ∙ sym (read_there (λ x. parent_of x.kind.def) None items i item l)

pub returns-in-AssocTy-2 : goal.returns-in-AssocTy-2
unfolding meaning_of
returns-in-AssocTy-2 c =
    let items = items_in c.args.self.now in
    let i = (c.args.def_id.now.0).0 in
    let item = c.in_ok-parent.field-0.now in
    let here = c.in_ok-parent.ensures.lookup.3 in
    let at = here.1 item ∙ ap (λ xs. get_or xs i item) c.deref.ensures.value in
    let l = subst (λ xs. i < length xs) c.deref.ensures.value here.0 in
    sym (parent_known item.kind.def c.in-AssocTy.parent c.in-AssocTy.is) ∙
    ap (λ x. parent_of x.kind.def) at ∙ sym (read_there (λ x. parent_of x.kind.def) None items i item l)
