use Rattle.std.proofs.Common.{◌∙◌, ⊎_elim, IsTrue, Some, sym, ap, subst}
use Rattle.relation_terms.specs.Heads.{type_sort, region_sort, const_sort}
use Rattle.relation_terms.specs.Trees.{known}
use Rattle.relation_terms.specs.Meaning.{arg_tree}
use Rattle.relation_terms.specs.Parts.{tree_sort}
use Rattle.relation_terms.proofs.Members.{region_term, type_term, const_term}
use Rattle.relation_terms.proofs.Closures.{none_there, found, found_known}
use Rattle.relation_terms.proofs.terms.closure.ty_from_last.Goals as goal

pub returns-then-list-places-clause-means : goal.returns-then-list-places-clause-means
returns-then-list-places-clause-means g c =
    let m = g.I.Interner.meaning c.args.cx.now in
    none_there (arg_tree m) c.args-list.result.now (m.args c.args.args.now) c.args-list.ensures c.args.places
    c.if-list-places.true

pub returns-in-Ty-clause-sure : goal.returns-in-Ty-clause-sure
returns-in-Ty-clause-sure g c =
    let m = g.I.Interner.meaning c.args.cx.now in
    let x = c.index-list-list.result in
    subst (λ z. IsTrue (known (arg_tree m z))) c.in-Ty.is
    (found_known (arg_tree m) c.args-list.result.now (m.args c.args.args.now) c.args-list.ensures c.args.places x x
    c.requires c.if-list-places.false c.index-list-list.is)

pub returns-in-Ty-clause-means : goal.returns-in-Ty-clause-means
returns-in-Ty-clause-means g c =
    let m = g.I.Interner.meaning c.args.cx.now in
    let x = c.index-list-list.result in
    let xs = c.args-list.result.now in
    let w = m.args c.args.args.now in
    let k = subst (λ z. IsTrue (known (arg_tree m z))) c.in-Ty.is
    (found_known (arg_tree m) xs w c.args-list.ensures c.args.places x x c.requires c.if-list-places.false
    c.index-list-list.is) in
    let s = type_term (m.ty c.in-Ty.ty) ((g.met.I.Interner.sorted c.args.cx.now).ty c.in-Ty.ty k) in
    ap (λ z. Some (arg_tree m z)) (sym c.in-Ty.is)
    ∙ found (arg_tree m) xs w c.args-list.ensures c.args.places x x type_sort c.if-list-places.false
    c.index-list-list.is (ap (λ z. tree_sort (arg_tree m z)) c.in-Ty.is ∙ s)

pub returns-in-Lifetime-clause-means : goal.returns-in-Lifetime-clause-means
returns-in-Lifetime-clause-means g c =
    let m = g.I.Interner.meaning c.args.cx.now in
    let x = c.index-list-list.result in
    let xs = c.args-list.result.now in
    let w = m.args c.args.args.now in
    let k = found_known (arg_tree m) xs w c.args-list.ensures c.args.places x x c.requires c.if-list-places.false
    c.index-list-list.is in
    ⊎_elim
    (λ h. found (arg_tree m) xs w c.args-list.ensures c.args.places x x region_sort c.if-list-places.false
    c.index-list-list.is (ap (λ z. tree_sort (arg_tree m z)) h.1
    ∙ region_term (m.region h.0) ((g.met.I.Interner.sorted c.args.cx.now).region h.0
    (subst (λ z. IsTrue (known (arg_tree m z))) h.1 k))))
    (λ h. found (arg_tree m) xs w c.args-list.ensures c.args.places x x const_sort c.if-list-places.false
    c.index-list-list.is (ap (λ z. tree_sort (arg_tree m z)) h.1
    ∙ const_term (m.const_ h.0) ((g.met.I.Interner.sorted c.args.cx.now).const_ h.0
    (subst (λ z. IsTrue (known (arg_tree m z))) h.1 k))))
    c.in-Lifetime.is
