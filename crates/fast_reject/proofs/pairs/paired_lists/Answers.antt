use Rattle.std.proofs.Common.{IsTrue, ap, subst}
use Rattle.relation_terms.specs.Heads.{object}
use Rattle.relation_terms.specs.Meaning.{kind_tree}
use Rattle.relation_terms.specs.Trees.{node, known}
use Rattle.relation_terms.proofs.Members.{region_term}
use Rattle.fast_reject.specs.declared.pairs.Pair.TheVariants.{Args}
use Rattle.fast_reject.proofs.Clashing.{is_quiet}
use Rattle.fast_reject.proofs.Pairing.{known_first, known_second, types_known, at_kinds, tuples, objects, fn_ptrs}
use Rattle.fast_reject.proofs.Pairing.{aliases}
use Rattle.fast_reject.proofs.Unlike.{unlike, of_item}
use Rattle.fast_reject.proofs.pairs.paired_lists.Goals as goal

pub returns-in-Tuple-right : goal.returns-in-Tuple-right
returns-in-Tuple-right g c =
    let m = g.I.Interner.meaning c.args.cx.now in
    at_kinds m c.args.left.now c.args.right.now _ _ _ c.in-Tuple.is c.in-Tuple-right.is c.requires.left_known
    c.requires.right_known (λ a b. tuples m _ _ a b
    c.is_same_count.result c.if_alike.result c.if_alike.ensures c.is_same_count.ensures)

pub returns-in_default-right : goal.returns-in_default-right
returns-in_default-right g c =
    let m = g.I.Interner.meaning c.args.cx.now in
    unlike m c.args.left.now c.args.right.now c.requires.differ _ c.in-Tuple.is (λ h. c.in_default-right.not-Tuple h.0 h.1)

pub returns-in-FnPtr-right : goal.returns-in-FnPtr-right
returns-in-FnPtr-right g c =
    let m = g.I.Interner.meaning c.args.cx.now in
    at_kinds m c.args.left.now c.args.right.now _ _ _ c.in-FnPtr.is c.in-FnPtr-right.is c.requires.left_known
    c.requires.right_known (λ a b. fn_ptrs m (m.bound_vars c.in-FnPtr.types.bound_vars) (m.bound_vars c.in-FnPtr-right.others.bound_vars)
    (c.in-FnPtr.types.value).inputs_and_output (c.in-FnPtr-right.others.value).inputs_and_output c.in-FnPtr.header c.in-FnPtr-right.other a b
    c.is_same_count-in-FnPtr-right.result c.is_same_header.result c.if_alike-pair.result c.if_alike-in-FnPtr-right.result
    c.if_alike-pair.ensures c.if_alike-in-FnPtr-right.ensures c.is_same_count-in-FnPtr-right.ensures
    c.is_same_header.ensures)

pub returns-in_default-right-2 : goal.returns-in_default-right-2
returns-in_default-right-2 g c =
    let m = g.I.Interner.meaning c.args.cx.now in
    unlike m c.args.left.now c.args.right.now c.requires.differ _ c.in-FnPtr.is (λ h. c.in_default-right-2.not-FnPtr h.0 h.1.0 h.1.1)

pub returns-in-Dynamic-right : goal.returns-in-Dynamic-right
returns-in-Dynamic-right g c =
    let m = g.I.Interner.meaning c.args.cx.now in
    at_kinds m c.args.left.now c.args.right.now _ _ _ c.in-Dynamic.is c.in-Dynamic-right.is c.requires.left_known
    c.requires.right_known (λ a b. objects m (m.existential_predicates c.in-Dynamic.predicates) (m.existential_predicates c.in-Dynamic-right.others)
    (m.region c.in-Dynamic.field-1) (m.region c.in-Dynamic-right.field-1) (ap is_quiet (region_term (m.region c.in-Dynamic.field-1)
    ((g.met.I.Interner.sorted c.args.cx.now).region c.in-Dynamic.field-1
    (known_second (node object (m.existential_predicates c.in-Dynamic.predicates)) (m.region c.in-Dynamic.field-1) a))))
    c.is_same_principal.result c.if_alike-in-Dynamic-right.result c.if_alike-in-Dynamic-right.ensures
    c.is_same_principal.ensures)

pub returns-in_default-right-3 : goal.returns-in_default-right-3
returns-in_default-right-3 g c =
    let m = g.I.Interner.meaning c.args.cx.now in
    unlike m c.args.left.now c.args.right.now c.requires.differ _ c.in-Dynamic.is (λ h. c.in_default-right-3.not-Dynamic h.0 h.1.0 h.1.1)

pub returns-in-Alias-right : goal.returns-in-Alias-right
returns-in-Alias-right g c =
    let m = g.I.Interner.meaning c.args.cx.now in
    at_kinds m c.args.left.now c.args.right.now _ _ (Args c.in-Alias.alias.args c.in-Alias-right.other.args) c.in-Alias.is c.in-Alias-right.is c.requires.left_known
    c.requires.right_known (λ a b. aliases m c.in-Alias.alias c.in-Alias-right.other a b)

pub returns-in_default-right-4 : goal.returns-in_default-right-4
returns-in_default-right-4 g c =
    let m = g.I.Interner.meaning c.args.cx.now in
    unlike m c.args.left.now c.args.right.now c.requires.differ _ c.in-Alias.is (λ h. c.in_default-right-4.not-Alias h.0 h.1)

pub paired_items-requires-clause-left_known : goal.paired_items-requires-clause-left_known
paired_items-requires-clause-left_known g c = c.requires.left_known

pub paired_items-requires-clause-right_known : goal.paired_items-requires-clause-right_known
paired_items-requires-clause-right_known g c = c.requires.right_known

pub paired_items-requires-clause-differ : goal.paired_items-requires-clause-differ
paired_items-requires-clause-differ g c = c.requires.differ

pub paired_items-requires-clause-of_item : goal.paired_items-requires-clause-of_item
paired_items-requires-clause-of_item g c =
    let m = g.I.Interner.meaning c.args.cx.now in
    of_item m c.args.left.now c.requires.of_list (record {
      no_tuple = c.in_default.not-Tuple;
      no_fn_ptr = c.in_default.not-FnPtr;
      no_dynamic = c.in_default.not-Dynamic;
      no_alias = c.in_default.not-Alias;
    })

pub returns-in_default : goal.returns-in_default
returns-in_default g c = c.paired_items.ensures

pub is_same_count-requires-clause-tys_known : goal.is_same_count-requires-clause-tys_known
is_same_count-requires-clause-tys_known g c =
    let m = g.I.Interner.meaning c.args.cx.now in
    (subst (λ x. IsTrue (known (kind_tree m x))) c.in-Tuple.is c.requires.left_known)

pub is_same_count-requires-clause-others_known : goal.is_same_count-requires-clause-others_known
is_same_count-requires-clause-others_known g c =
    let m = g.I.Interner.meaning c.args.cx.now in
    (subst (λ x. IsTrue (known (kind_tree m x))) c.in-Tuple-right.is c.requires.right_known)

pub is_same_count-requires-in-FnPtr-right-clause-tys_known : goal.is_same_count-requires-in-FnPtr-right-clause-tys_known
is_same_count-requires-in-FnPtr-right-clause-tys_known g c =
    let m = g.I.Interner.meaning c.args.cx.now in
    types_known m c.in-FnPtr.types c.in-FnPtr.header
    (subst (λ x. IsTrue (known (kind_tree m x))) c.in-FnPtr.is c.requires.left_known)

pub is_same_count-requires-in-FnPtr-right-clause-others_known : goal.is_same_count-requires-in-FnPtr-right-clause-others_known
is_same_count-requires-in-FnPtr-right-clause-others_known g c =
    let m = g.I.Interner.meaning c.args.cx.now in
    types_known m c.in-FnPtr-right.others c.in-FnPtr-right.other
    (subst (λ x. IsTrue (known (kind_tree m x))) c.in-FnPtr-right.is c.requires.right_known)

pub is_same_principal-requires-clause-predicates_known : goal.is_same_principal-requires-clause-predicates_known
is_same_principal-requires-clause-predicates_known g c =
    let m = g.I.Interner.meaning c.args.cx.now in
    known_first (node object (m.existential_predicates c.in-Dynamic.predicates)) (m.region c.in-Dynamic.field-1)
    (subst (λ x. IsTrue (known (kind_tree m x))) c.in-Dynamic.is c.requires.left_known)

pub is_same_principal-requires-clause-others_known : goal.is_same_principal-requires-clause-others_known
is_same_principal-requires-clause-others_known g c =
    let m = g.I.Interner.meaning c.args.cx.now in
    known_first (node object (m.existential_predicates c.in-Dynamic-right.others)) (m.region c.in-Dynamic-right.field-1)
    (subst (λ x. IsTrue (known (kind_tree m x))) c.in-Dynamic-right.is c.requires.right_known)
