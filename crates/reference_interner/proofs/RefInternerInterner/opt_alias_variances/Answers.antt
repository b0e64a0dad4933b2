use Rattle.std.proofs.Common.{◌<◌, ◌≤◌, ap, sym, ◌∙◌, subst, length, get_or}
use Rattle.std.specs.Prelude.{Some, None}
use Rattle.reference_interner.specs.Nodes.{meaning_of}
use Rattle.reference_interner.specs.Adding.{items_in}
use Rattle.reference_interner.proofs.ItemLemmas.{read_there, read_past}
use Rattle.std.specs.Option.{option_map}
use Rattle.reference_interner.specs.Items.{alias_variances_of}
use Rattle.reference_interner.proofs.DefKindLemmas.{no_alias_variances}
use Rattle.reference_interner.proofs.RefInternerInterner.opt_alias_variances.Goals as goal

pub returns-in_err-item : goal.returns-in_err-item
unfolding meaning_of
returns-in_err-item c =
    let i = (c.args.def_id.now.0).0 in
    let past = subst (λ xs. length xs ≤ i) c.deref.ensures.value c.in_err-item.ensures.lookup.3 in
    let none = read_past (λ x. alias_variances_of x.kind.def x.variances.items) None (items_in c.args.self.now) i past in
    ap (option_map (λ list. list.now)) c.from_residual.ensures ∙ sym none

pub returns-in-OpaqueTy : goal.returns-in-OpaqueTy
unfolding meaning_of
returns-in-OpaqueTy c =
    let items = items_in c.args.self.now in
    let i = (c.args.def_id.now.0).0 in
    let item = c.in_ok-item.item.now in
    let here = c.in_ok-item.ensures.lookup.3 in
    let at = here.1 item ∙ ap (λ xs. get_or xs i item) c.deref.ensures.value in
    let l = subst (λ xs. i < length xs) c.deref.ensures.value here.0 in
    let said = ap (λ k. alias_variances_of k item.variances.items) c.in-OpaqueTy.is in
    ap (λ vs. Some vs) c.deref-in-OpaqueTy.ensures.value ∙ sym said ∙
    ap (λ x. alias_variances_of x.kind.def x.variances.items) at ∙
    sym (read_there (λ x. alias_variances_of x.kind.def x.variances.items) None items i item l)

pub returns-in_default : goal.returns-in_default
unfolding meaning_of
returns-in_default c =
    let items = items_in c.args.self.now in
    let i = (c.args.def_id.now.0).0 in
    let item = c.in_ok-item.item.now in
    let here = c.in_ok-item.ensures.lookup.3 in
    let at = here.1 item ∙ ap (λ xs. get_or xs i item) c.deref.ensures.value in
    let l = subst (λ xs. i < length xs) c.deref.ensures.value here.0 in
    sym (no_alias_variances item.kind.def item.variances.items c.in_default.not-OpaqueTy) ∙
    ap (λ x. alias_variances_of x.kind.def x.variances.items) at ∙
    sym (read_there (λ x. alias_variances_of x.kind.def x.variances.items) None items i item l)
