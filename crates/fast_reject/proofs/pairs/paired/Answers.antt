use Rattle.std.proofs.Common.{ap}
use Rattle.relation_terms.proofs.Members.{region_term, pattern_term}
use Rattle.fast_reject.specs.declared.pairs.Pair.TheVariants.{Types, Arrays}
use Rattle.fast_reject.proofs.Clashing.{is_quiet}
use Rattle.fast_reject.proofs.Pairing.{known_first, known_second, at_kinds, slices, arrays, patterns, pointers}
use Rattle.fast_reject.proofs.Pairing.{references, unsafe_binders}
use Rattle.fast_reject.proofs.Unlike.{unlike, of_list, has_pointer, has_reference}
use Rattle.fast_reject.proofs.pairs.paired.Goals as goal

pub returns-in-Array-right : goal.returns-in-Array-right
returns-in-Array-right g c =
    let m = g.I.Interner.meaning c.args.cx.now in
    at_kinds m c.args.left.now c.args.right.now _ _ (Arrays c.in-Array.ty c.in-Array-right.other c.in-Array.len c.in-Array-right.length) c.in-Array.is c.in-Array-right.is c.requires.left_known
    c.requires.right_known (λ a b. arrays m _ _ _ _ a b)

pub returns-in_default-right : goal.returns-in_default-right
returns-in_default-right g c =
    let m = g.I.Interner.meaning c.args.cx.now in
    unlike m c.args.left.now c.args.right.now c.requires.differ _ c.in-Array.is (λ h. c.in_default-right.not-Array h.0 h.1.0 h.1.1)

pub returns-in-Pat-right : goal.returns-in-Pat-right
returns-in-Pat-right g c =
    let m = g.I.Interner.meaning c.args.cx.now in
    at_kinds m c.args.left.now c.args.right.now _ _ (Types c.in-Pat.ty c.in-Pat-right.other) c.in-Pat.is c.in-Pat-right.is c.requires.left_known
    c.requires.right_known (λ a b. patterns m c.in-Pat.ty c.in-Pat-right.other (m.pat c.in-Pat.field-1) (m.pat c.in-Pat-right.field-1)
    (ap is_quiet (pattern_term (m.pat c.in-Pat.field-1) ((g.met.I.Interner.sorted c.args.cx.now).pat c.in-Pat.field-1
    (known_second (m.ty c.in-Pat.ty) (m.pat c.in-Pat.field-1) a)))) a b)

pub returns-in_default-right-2 : goal.returns-in_default-right-2
returns-in_default-right-2 g c =
    let m = g.I.Interner.meaning c.args.cx.now in
    unlike m c.args.left.now c.args.right.now c.requires.differ _ c.in-Pat.is (λ h. c.in_default-right-2.not-Pat h.0 h.1.0 h.1.1)

pub returns-in-Slice-right : goal.returns-in-Slice-right
returns-in-Slice-right g c =
    let m = g.I.Interner.meaning c.args.cx.now in
    at_kinds m c.args.left.now c.args.right.now _ _ (Types c.in-Slice.ty c.in-Slice-right.other) c.in-Slice.is c.in-Slice-right.is c.requires.left_known
    c.requires.right_known (λ a b. slices m _ _ a b)

pub returns-in_default-right-3 : goal.returns-in_default-right-3
returns-in_default-right-3 g c =
    let m = g.I.Interner.meaning c.args.cx.now in
    unlike m c.args.left.now c.args.right.now c.requires.differ _ c.in-Slice.is (λ h. c.in_default-right-3.not-Slice h.0 h.1)

pub returns-in-RawPtr-right : goal.returns-in-RawPtr-right
returns-in-RawPtr-right g c =
    let m = g.I.Interner.meaning c.args.cx.now in
    at_kinds m c.args.left.now c.args.right.now _ _ _ c.in-RawPtr.is c.in-RawPtr-right.is c.requires.left_known
    c.requires.right_known (λ a b. pointers m _ _ _ _ a b
    c.is_mut_alike.result c.if_alike.result c.if_alike.ensures c.is_mut_alike.ensures)

pub returns-in_default-right-4 : goal.returns-in_default-right-4
returns-in_default-right-4 g c =
    let m = g.I.Interner.meaning c.args.cx.now in
    unlike m c.args.left.now c.args.right.now c.requires.differ _ c.in-RawPtr.is (λ h. let p = has_pointer m c.in-RawPtr.mutability c.args.right.now h in
    c.in_default-right-4.not-RawPtr p.0 p.1.0 p.1.1)

pub returns-in-Ref-right : goal.returns-in-Ref-right
returns-in-Ref-right g c =
    let m = g.I.Interner.meaning c.args.cx.now in
    at_kinds m c.args.left.now c.args.right.now _ _ _ c.in-Ref.is c.in-Ref-right.is c.requires.left_known
    c.requires.right_known (λ a b. references m _ _ c.in-Ref.ty c.in-Ref-right.other (m.region c.in-Ref.field-0) (m.region c.in-Ref-right.field-0)
    (ap is_quiet (region_term (m.region c.in-Ref.field-0) ((g.met.I.Interner.sorted c.args.cx.now).region c.in-Ref.field-0
    (known_first (m.region c.in-Ref.field-0) (m.ty c.in-Ref.ty) a)))) a b c.is_mut_alike-in-Ref-right.result
    c.if_alike-in-Ref-right.result c.if_alike-in-Ref-right.ensures c.is_mut_alike-in-Ref-right.ensures)

pub returns-in_default-right-5 : goal.returns-in_default-right-5
returns-in_default-right-5 g c =
    let m = g.I.Interner.meaning c.args.cx.now in
    unlike m c.args.left.now c.args.right.now c.requires.differ _ c.in-Ref.is (λ h. let p = has_reference m c.in-Ref.mutability c.args.right.now h in
    c.in_default-right-5.not-Ref p.0 p.1.0 p.1.1.0 p.1.1.1)

pub returns-in-UnsafeBinder-right : goal.returns-in-UnsafeBinder-right
returns-in-UnsafeBinder-right g c =
    let m = g.I.Interner.meaning c.args.cx.now in
    at_kinds m c.args.left.now c.args.right.now _ _ (Types c.in-UnsafeBinder.ty.value c.in-UnsafeBinder-right.other.value) c.in-UnsafeBinder.is c.in-UnsafeBinder-right.is c.requires.left_known
    c.requires.right_known (λ a b. unsafe_binders m (m.bound_vars c.in-UnsafeBinder.ty.bound_vars) (m.bound_vars c.in-UnsafeBinder-right.other.bound_vars)
    c.in-UnsafeBinder.ty.value c.in-UnsafeBinder-right.other.value a b)

pub returns-in_default-right-6 : goal.returns-in_default-right-6
returns-in_default-right-6 g c =
    let m = g.I.Interner.meaning c.args.cx.now in
    unlike m c.args.left.now c.args.right.now c.requires.differ _ c.in-UnsafeBinder.is (λ h. c.in_default-right-6.not-UnsafeBinder h.0 h.1)

pub paired_lists-requires-clause-left_known : goal.paired_lists-requires-clause-left_known
paired_lists-requires-clause-left_known g c = c.requires.left_known

pub paired_lists-requires-clause-right_known : goal.paired_lists-requires-clause-right_known
paired_lists-requires-clause-right_known g c = c.requires.right_known

pub paired_lists-requires-clause-differ : goal.paired_lists-requires-clause-differ
paired_lists-requires-clause-differ g c = c.requires.differ

pub paired_lists-requires-clause-of_list : goal.paired_lists-requires-clause-of_list
paired_lists-requires-clause-of_list g c =
    let m = g.I.Interner.meaning c.args.cx.now in
    of_list m c.args.left.now (record {
      no_array = c.in_default.not-Array;
      no_pat = c.in_default.not-Pat;
      no_slice = c.in_default.not-Slice;
      no_raw_ptr = c.in_default.not-RawPtr;
      no_ref = c.in_default.not-Ref;
      no_unsafe_binder = c.in_default.not-UnsafeBinder;
    })

pub returns-in_default : goal.returns-in_default
returns-in_default g c = c.paired_lists.ensures
