use Rattle.std.proofs.Common.{rules, ◌≡◌, sym, subst, subst₂, IsTrue, IfSome}
use Rattle.relation_terms.specs.Trees.{known}
use Rattle.relation_terms.specs.Meaning.{kind_tree}
use Rattle.relation_terms.specs.declared.terms.ty_kind.TyKind.TheVariants.{Ref}
use Rattle.relation_recursion.specs.Starting.{AreOfPlainForm}
use Rattle.relation_recursion.proofs.Beginnings.{slices_plain, refs_plain, tuples_start, adts_start, aliases_start}
use Rattle.relation_recursion.proofs.starting.plain_count.Goals as goal

pub equal_length-requires-clause-tys_known : goal.equal_length-requires-clause-tys_known
equal_length-requires-clause-tys_known g c =
    let m = g.I.Interner.meaning c.args.cx.now in
    subst (λ k. IsTrue (known (kind_tree m k))) c.in-Tuple.is c.requires.kind_known

pub equal_length-requires-clause-others_known : goal.equal_length-requires-clause-others_known
equal_length-requires-clause-others_known g c =
    let m = g.I.Interner.meaning c.args.cx.now in
    subst (λ k. IsTrue (known (kind_tree m k))) c.in-Tuple-other.is c.requires.other_known

pub equal_items-requires-clause-args_known : goal.equal_items-requires-clause-args_known
equal_items-requires-clause-args_known g c =
    let m = g.I.Interner.meaning c.args.cx.now in
    subst (λ k. IsTrue (known (kind_tree m k))) c.in-Adt.is c.requires.kind_known

pub equal_items-requires-clause-others_known : goal.equal_items-requires-clause-others_known
equal_items-requires-clause-others_known g c =
    let m = g.I.Interner.meaning c.args.cx.now in
    subst (λ k. IsTrue (known (kind_tree m k))) c.in-Adt-other.is c.requires.other_known

pub equal_items-requires-in-Alias-clause-args_known : goal.equal_items-requires-in-Alias-clause-args_known
equal_items-requires-in-Alias-clause-args_known g c =
    let m = g.I.Interner.meaning c.args.cx.now in
    subst (λ k. IsTrue (known (kind_tree m k))) c.in-Alias.is c.requires.kind_known

pub equal_items-requires-in-Alias-clause-others_known : goal.equal_items-requires-in-Alias-clause-others_known
equal_items-requires-in-Alias-clause-others_known g c =
    let m = g.I.Interner.meaning c.args.cx.now in
    subst (λ k. IsTrue (known (kind_tree m k))) c.in-Alias-other.is c.requires.other_known

pub returns-in-Slice-other : goal.returns-in-Slice-other
returns-in-Slice-other g c =
    let m = g.I.Interner.meaning c.args.cx.now in
    subst₂ (λ k l. AreOfPlainForm (kind_tree m k) (kind_tree m l) 1) (sym c.in-Slice.is) (sym c.in-Slice-other.is)
    (slices_plain m c.in-Slice.field-0 c.in-Slice-other.field-0)

pub returns-in-Tuple-other : goal.returns-in-Tuple-other
returns-in-Tuple-other g c =
    let m = g.I.Interner.meaning c.args.cx.now in
    let n = c.equal_length in
    subst₂ (λ k l. IfSome n.result (AreOfPlainForm (kind_tree m k) (kind_tree m l))) (sym c.in-Tuple.is)
    (sym c.in-Tuple-other.is) (tuples_start m c.in-Tuple.tys c.in-Tuple-other.others n.result n.ensures.left n.ensures.right)

pub returns-else-ne : goal.returns-else-ne
returns-else-ne g c =
    let m = g.I.Interner.meaning c.args.cx.now in
    let x = c.in-Ref in
    let y = c.in-Ref-other in
    let same : x.mutability ≡ y.of_other =
    (let t = c.if-ne.false in let h = c.ne.ensures in let k = c.if-ne.ensures in search rules) in
    subst₂ (λ k l. AreOfPlainForm (kind_tree m k) (kind_tree m l) 2) (sym x.is) (sym y.is)
    (subst (λ u. AreOfPlainForm (kind_tree m (Ref x.field-0 x.field-1 x.mutability))
    (kind_tree m (Ref y.field-0 y.field-1 u)) 2) same (refs_plain m x.field-0 y.field-0 x.field-1 y.field-1 x.mutability))

pub returns-in-Adt-other : goal.returns-in-Adt-other
returns-in-Adt-other g c =
    let m = g.I.Interner.meaning c.args.cx.now in
    let n = c.equal_items in
    subst₂ (λ k l. IfSome n.result (AreOfPlainForm (kind_tree m k) (kind_tree m l))) (sym c.in-Adt.is)
    (sym c.in-Adt-other.is) (adts_start m c.in-Adt.def c.in-Adt-other.of_other c.in-Adt.args c.in-Adt-other.others n.result
    n.ensures.item n.ensures.left n.ensures.right)

pub returns-in-Alias-other : goal.returns-in-Alias-other
returns-in-Alias-other g c =
    let m = g.I.Interner.meaning c.args.cx.now in
    let n = c.equal_items-in-Alias in
    subst₂ (λ k l. IfSome n.result (AreOfPlainForm (kind_tree m k) (kind_tree m l))) (sym c.in-Alias.is)
    (sym c.in-Alias-other.is) (aliases_start m c.in-Alias.alias c.in-Alias-other.of_other (c.alias_item-item.result).0
    (c.alias_item-other_item.result).0 n.result c.alias_item-item.ensures c.alias_item-other_item.ensures n.ensures.item
    n.ensures.left n.ensures.right)
