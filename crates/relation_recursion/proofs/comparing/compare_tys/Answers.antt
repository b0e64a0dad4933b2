use Rattle.std.proofs.Common.{rules, ◌≡◌, ◌∙◌, sym, ap}
use Rattle.std.proofs.lemmas.Bool.{false≢true}
use Rattle.relation_recursion.specs.declared.forms.Form.TheVariants.{Leaf}
use Rattle.relation_recursion.specs.Forms.{named_outline, tree_outline}
use Rattle.relation_recursion.proofs.Outlines.{itself_alike, unlike_forms, unlike_items, unlike_mutability}
use Rattle.relation_recursion.proofs.Outlines.{forms_alike, unlike_counts, fixed_counts}
use Rattle.relation_recursion.proofs.comparing.compare_tys.Goals as goal

pub returns-then-eq-clause-alike : goal.returns-then-eq-clause-alike
returns-then-eq-clause-alike g c =
    let m = g.I.Interner.meaning c.args.cx.now in
    let x = c.args.a.now in
    let y = c.args.b.now in
    itself_alike (m.ty x) (m.ty y) ((g.met.I.Interner.sorted c.args.cx.now).ty x c.requires.a_known)
    ((g.met.I.Interner.same_ty c.args.cx.now x y c.requires.a_known c.requires.b_known).0 (sym c.if-eq.ensures))

pub compare_leaves-requires-clause-leaf : goal.compare_leaves-requires-clause-leaf
compare_leaves-requires-clause-leaf g c =
    let m = g.I.Interner.meaning c.args.cx.now in
    let x = c.args.a.now in
    let y = c.args.b.now in
    let o = c.outline_of-left.result in
    let p = c.outline_of-right.result in
    let left : named_outline m.id o ≡ tree_outline (m.ty x) =
    c.outline_of-left.ensures m ∙ ap tree_outline (sym c.ty_kind-a_kind.ensures) in
    sym (ap (λ z. z.form) left) ∙ c.is_same_form.ensures.0 c.if-is_same_form.true

pub compare_leaves-requires-clause-differ : goal.compare_leaves-requires-clause-differ
compare_leaves-requires-clause-differ g c = λ e.
    false≢true (c.if-eq.ensures
    ∙ (g.met.I.Interner.same_ty c.args.cx.now c.args.a.now c.args.b.now c.requires.a_known c.requires.b_known).1 e)

pub returns-then-not-is_same_form-clause-errors : goal.returns-then-not-is_same_form-clause-errors
returns-then-not-is_same_form-clause-errors g c =
    let m = g.I.Interner.meaning c.args.cx.now in
    let x = c.args.a.now in
    let y = c.args.b.now in
    let o = c.outline_of-left.result in
    let p = c.outline_of-right.result in
    let left : named_outline m.id o ≡ tree_outline (m.ty x) =
    c.outline_of-left.ensures m ∙ ap tree_outline (sym c.ty_kind-a_kind.ensures) in
    let right : named_outline m.id p ≡ tree_outline (m.ty y) =
    c.outline_of-right.ensures m ∙ ap tree_outline (sym c.ty_kind-b_kind.ensures) in
    unlike_forms m x y o p left right c.requires.no_error
    (λ e. (let t = c.if-not-is_same_form.true in let one = c.is_same_form-2.ensures.1 e in search rules))
    c.unlike.result c.unlike.ensures

pub returns-then-not-is_same_item-clause-errors : goal.returns-then-not-is_same_item-clause-errors
returns-then-not-is_same_item-clause-errors g c =
    let m = g.I.Interner.meaning c.args.cx.now in
    let x = c.args.a.now in
    let y = c.args.b.now in
    let o = c.outline_of-left.result in
    let p = c.outline_of-right.result in
    let left : named_outline m.id o ≡ tree_outline (m.ty x) =
    c.outline_of-left.ensures m ∙ ap tree_outline (sym c.ty_kind-a_kind.ensures) in
    let right : named_outline m.id p ≡ tree_outline (m.ty y) =
    c.outline_of-right.ensures m ∙ ap tree_outline (sym c.ty_kind-b_kind.ensures) in
    let form : o.form ≡ p.form = c.is_same_form-2.ensures.0 (let t = c.if-not-is_same_form.false in search rules) in
    unlike_items m x y o p left right c.requires.no_error form
    (λ e. (let t = c.if-not-is_same_item.true in let one = c.is_same_item.ensures.1 e in search rules))
    c.unlike_items.result c.unlike_items.ensures.aliases c.unlike_items.ensures.others

pub returns-then-ne-clause-errors : goal.returns-then-ne-clause-errors
returns-then-ne-clause-errors g c =
    let m = g.I.Interner.meaning c.args.cx.now in
    let x = c.args.a.now in
    let y = c.args.b.now in
    let o = c.outline_of-left.result in
    let p = c.outline_of-right.result in
    let left : named_outline m.id o ≡ tree_outline (m.ty x) =
    c.outline_of-left.ensures m ∙ ap tree_outline (sym c.ty_kind-a_kind.ensures) in
    let right : named_outline m.id p ≡ tree_outline (m.ty y) =
    c.outline_of-right.ensures m ∙ ap tree_outline (sym c.ty_kind-b_kind.ensures) in
    let parted : o.form ≡ Leaf → ⊥ = (λ e. (let t = c.if-is_same_form.false in
    let one = c.is_same_form.ensures.1 e in search rules)) in
    let form : o.form ≡ p.form = c.is_same_form-2.ensures.0 (let t = c.if-not-is_same_form.false in search rules) in
    unlike_mutability m x y o p left right c.requires.no_error parted form
    (λ e. (let t = c.if-ne.true in let h = c.ne.ensures in let k = c.if-ne.ensures in search rules))

pub returns-then-n-m-clause-errors : goal.returns-then-n-m-clause-errors
returns-then-n-m-clause-errors g c =
    let m = g.I.Interner.meaning c.args.cx.now in
    let x = c.args.a.now in
    let y = c.args.b.now in
    let o = c.outline_of-left.result in
    let p = c.outline_of-right.result in
    let left : named_outline m.id o ≡ tree_outline (m.ty x) =
    c.outline_of-left.ensures m ∙ ap tree_outline (sym c.ty_kind-a_kind.ensures) in
    let right : named_outline m.id p ≡ tree_outline (m.ty y) =
    c.outline_of-right.ensures m ∙ ap tree_outline (sym c.ty_kind-b_kind.ensures) in
    let parted : o.form ≡ Leaf → ⊥ = (λ e. (let t = c.if-is_same_form.false in
    let one = c.is_same_form.ensures.1 e in search rules)) in
    let form : o.form ≡ p.form = c.is_same_form-2.ensures.0 (let t = c.if-not-is_same_form.false in search rules) in
    let item = c.is_same_item.ensures.0 (let t = c.if-not-is_same_item.false in search rules) in
    let same : o.mutability ≡ p.mutability =
    (let t = c.if-ne.false in let h = c.ne.ensures in let k = c.if-ne.ensures in search rules) in
    unlike_counts m x y o p left right c.requires.no_error parted form item same
    c.parts_count_in-n.result c.parts_count_in-m.result c.parts_count_in-n.ensures.counts c.parts_count_in-m.ensures.counts
    c.if-n-m.true c.unlike_counts.result c.unlike_counts.ensures.sizes c.unlike_counts.ensures.empty
    c.unlike_counts.ensures.others

pub returns-then-has_fixed_parts-clause-alike : goal.returns-then-has_fixed_parts-clause-alike
returns-then-has_fixed_parts-clause-alike g c =
    let m = g.I.Interner.meaning c.args.cx.now in
    let x = c.args.a.now in
    let y = c.args.b.now in
    let o = c.outline_of-left.result in
    let p = c.outline_of-right.result in
    let left : named_outline m.id o ≡ tree_outline (m.ty x) =
    c.outline_of-left.ensures m ∙ ap tree_outline (sym c.ty_kind-a_kind.ensures) in
    let right : named_outline m.id p ≡ tree_outline (m.ty y) =
    c.outline_of-right.ensures m ∙ ap tree_outline (sym c.ty_kind-b_kind.ensures) in
    let parted : o.form ≡ Leaf → ⊥ = (λ e. (let t = c.if-is_same_form.false in
    let one = c.is_same_form.ensures.1 e in search rules)) in
    let form : o.form ≡ p.form = c.is_same_form-2.ensures.0 (let t = c.if-not-is_same_form.false in search rules) in
    let item = c.is_same_item.ensures.0 (let t = c.if-not-is_same_item.false in search rules) in
    let same : o.mutability ≡ p.mutability =
    (let t = c.if-ne.false in let h = c.ne.ensures in let k = c.if-ne.ensures in search rules) in
    forms_alike m x y o p left right c.requires.no_error parted form item same
    (fixed_counts (m.ty x) (m.ty y) o.form ((g.met.I.Interner.sorted c.args.cx.now).ty x c.requires.a_known)
    ((g.met.I.Interner.sorted c.args.cx.now).ty y c.requires.b_known) (sym (ap (λ z. z.form) left))
    (sym (ap (λ z. z.form) right) ∙ sym form) (c.has_fixed_parts.ensures c.if-has_fixed_parts.true))

pub returns-clause-alike : goal.returns-clause-alike
returns-clause-alike g c =
    let m = g.I.Interner.meaning c.args.cx.now in
    let x = c.args.a.now in
    let y = c.args.b.now in
    let o = c.outline_of-left.result in
    let p = c.outline_of-right.result in
    let left : named_outline m.id o ≡ tree_outline (m.ty x) =
    c.outline_of-left.ensures m ∙ ap tree_outline (sym c.ty_kind-a_kind.ensures) in
    let right : named_outline m.id p ≡ tree_outline (m.ty y) =
    c.outline_of-right.ensures m ∙ ap tree_outline (sym c.ty_kind-b_kind.ensures) in
    let parted : o.form ≡ Leaf → ⊥ = (λ e. (let t = c.if-is_same_form.false in
    let one = c.is_same_form.ensures.1 e in search rules)) in
    let form : o.form ≡ p.form = c.is_same_form-2.ensures.0 (let t = c.if-not-is_same_form.false in search rules) in
    let item = c.is_same_item.ensures.0 (let t = c.if-not-is_same_item.false in search rules) in
    let same : o.mutability ≡ p.mutability =
    (let t = c.if-ne.false in let h = c.ne.ensures in let k = c.if-ne.ensures in search rules) in
    forms_alike m x y o p left right c.requires.no_error parted form item same
    (sym c.parts_count_in-n.ensures.counts ∙ c.if-n-m.false ∙ c.parts_count_in-m.ensures.counts)
