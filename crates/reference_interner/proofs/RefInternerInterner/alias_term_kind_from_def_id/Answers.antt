use Rattle.std.proofs.Common.{◌<◌, ◌≤◌, ap, sym, ◌∙◌, subst, length, get_or}
use Rattle.std.specs.Prelude.{None}
use Rattle.reference_interner.specs.Nodes.{meaning_of}
use Rattle.reference_interner.specs.Adding.{items_in}
use Rattle.reference_interner.proofs.ItemLemmas.{read_there, read_past}
use Rattle.std.specs.Option.{option_map}
use Rattle.relation_terms.specs.Predicates.{alias_of}
use Rattle.reference_interner.specs.Items.{alias_kind_of}
use Rattle.reference_interner.proofs.RefInternerInterner.alias_term_kind_from_def_id.Goals as goal

pub returns-in_err-get : goal.returns-in_err-get
unfolding meaning_of
returns-in_err-get c =
    let i = (c.args.def_id.now.0).0 in
    let past = subst (λ xs. length xs ≤ i) c.deref.ensures.value c.in_err-get.ensures.lookup.3 in
    let none = read_past (λ x. alias_kind_of x.kind.def) None (items_in c.args.self.now) i past in
    c.from_residual.ensures ∙ ap (option_map (alias_of c.args.def_id.now.0)) (sym none)

pub returns : goal.returns
unfolding meaning_of
returns c =
    let items = items_in c.args.self.now in
    let i = (c.args.def_id.now.0).0 in
    let item = c.in_ok-get.field-0.now in
    let here = c.in_ok-get.ensures.lookup.3 in
    let at = here.1 item ∙ ap (λ xs. get_or xs i item) c.deref.ensures.value in
    let l = subst (λ xs. i < length xs) c.deref.ensures.value here.0 in
    c.alias_term_kind.ensures ∙ ap (option_map (alias_of c.args.def_id.now.0))
    (ap (λ x. alias_kind_of x.kind.def) at ∙ sym (read_there (λ x. alias_kind_of x.kind.def) None items i item l))
