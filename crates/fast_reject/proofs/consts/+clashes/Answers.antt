use Rattle.std.proofs.Common.{rules, ◌≡◌, ◌⊎◌, ◌<◌, ◌+◌, ◌*◌, suc, false, IsTrue, sym, ap, ◌∙◌, subst, subst₂, refl, arith}
use Rattle.relation_terms.specs.Heads.{const_sort, value_sort, value, value_type, value_branch}
use Rattle.relation_terms.specs.Trees.{node, nil, cons, known, size, count, nth, list_tree}
use Rattle.relation_terms.specs.Meaning.{const_tree, valtree_tree}
use Rattle.relation_terms.proofs.Members.{const_term, value_term, member_small, slice_counts, slice_nth, slice_sure}
use Rattle.relation_terms.proofs.Members.{list_count, list_is}
use Rattle.relation_folds.specs.Clashes.{Clash, OneOutline, flexible}
use Rattle.fast_reject.proofs.Clashing.{no_clash, passes, fails, flexible_right, flexible_left, const_forms_clash}
use Rattle.fast_reject.proofs.Clashing.{moved, const_parts_decide, values_decide, rest_here, rest_further, rest_on}
use Rattle.fast_reject.proofs.Clashing.{rest_none, shorter}
use Rattle.fast_reject.proofs.Outlining.{const_unlike, value_unlike, valtree_rigid, valtree_unlike, branch_unlike}
use Rattle.fast_reject.proofs.Outlining.{branch_counts, branch_alike, value_known}
use Rattle.fast_reject.proofs.consts.+clashes.Goals as goal

-- Constants.
pub consts_may_unify-returns-then-eq : goal.consts_may_unify-returns-then-eq
consts_may_unify-returns-then-eq g t c =
    let m = g.I.Interner.meaning c.args.cx.now in
    let one : m.const_ c.args.lhs.now ≡ m.const_ c.args.rhs.now =
    (g.met.I.Interner.same_const c.args.cx.now c.args.lhs.now c.args.rhs.now c.requires.lhs_known c.requires.rhs_known).0
    (let i = c.if-eq.true in let h = c.eq.ensures in let k = c.if-eq.ensures in search rules) in
    passes (λ k. no_clash k one)

pub consts_may_unify-returns-then-is_flexible_const : goal.consts_may_unify-returns-then-is_flexible_const
consts_may_unify-returns-then-is_flexible_const g t c =
    let m = g.I.Interner.meaning c.args.cx.now in
    let a = m.const_ c.args.lhs.now in
    let b = m.const_ c.args.rhs.now in
    let ta = const_term a ((g.met.I.Interner.sorted c.args.cx.now).const_ c.args.lhs.now c.requires.lhs_known) in
    let tb = const_term b ((g.met.I.Interner.sorted c.args.cx.now).const_ c.args.rhs.now c.requires.rhs_known) in
    let f = ap (flexible c.args.sides.right) c.const_kind-right.ensures ∙ sym (c.is_flexible_const.ensures m)
    ∙ c.if-is_flexible_const.true in
    passes (flexible_right c.args.sides.left c.args.sides.right c.args.depth a b const_sort refl ta tb f)

pub consts_may_unify-returns-then-is_flexible_const-2 : goal.consts_may_unify-returns-then-is_flexible_const-2
consts_may_unify-returns-then-is_flexible_const-2 g t c =
    let m = g.I.Interner.meaning c.args.cx.now in
    let a = m.const_ c.args.lhs.now in
    let b = m.const_ c.args.rhs.now in
    let ta = const_term a ((g.met.I.Interner.sorted c.args.cx.now).const_ c.args.lhs.now c.requires.lhs_known) in
    let tb = const_term b ((g.met.I.Interner.sorted c.args.cx.now).const_ c.args.rhs.now c.requires.rhs_known) in
    let f = ap (flexible c.args.sides.left) c.const_kind-left.ensures ∙ sym (c.is_flexible_const-2.ensures m)
    ∙ c.if-is_flexible_const-2.true in
    passes (flexible_left c.args.sides.left c.args.sides.right c.args.depth a b const_sort refl ta tb f)

pub consts_may_unify-returns-in_default : goal.consts_may_unify-returns-in_default
consts_may_unify-returns-in_default g t c =
    let m = g.I.Interner.meaning c.args.cx.now in
    let a = m.const_ c.args.lhs.now in
    let b = m.const_ c.args.rhs.now in
    let ta = const_term a ((g.met.I.Interner.sorted c.args.cx.now).const_ c.args.lhs.now c.requires.lhs_known) in
    let tb = const_term b ((g.met.I.Interner.sorted c.args.cx.now).const_ c.args.rhs.now c.requires.rhs_known) in
    let own = sym (c.is_flexible_const-2.ensures m) ∙ c.if-is_flexible_const-2.false in
    let f = ap (flexible c.args.sides.right) c.const_kind-right.ensures ∙ sym (c.is_flexible_const.ensures m)
    ∙ c.if-is_flexible_const.false in
    let h = ap (flexible c.args.sides.left) c.const_kind-left.ensures ∙ own in
    fails (const_forms_clash c.args.sides.left c.args.sides.right c.args.depth a b const_sort refl ta tb f h
    (λ k. (let one : a ≡ b = c.const_kind-left.ensures ∙ const_unlike m c.args.sides.left c.const_kind-left.result b own
    c.in_default.not-Value (subst (λ x. OneOutline x b) c.const_kind-left.ensures k) in
    let i = c.if-eq.false in let o = c.eq.ensures in let q = c.if-eq.ensures in
    let l = (g.met.I.Interner.same_const c.args.cx.now c.args.lhs.now c.args.rhs.now c.requires.lhs_known
    c.requires.rhs_known).1 one in search rules)))

pub consts_may_unify-returns-in_default-right : goal.consts_may_unify-returns-in_default-right
consts_may_unify-returns-in_default-right g t c =
    let m = g.I.Interner.meaning c.args.cx.now in
    let a = m.const_ c.args.lhs.now in
    let b = m.const_ c.args.rhs.now in
    let ta = const_term a ((g.met.I.Interner.sorted c.args.cx.now).const_ c.args.lhs.now c.requires.lhs_known) in
    let tb = const_term b ((g.met.I.Interner.sorted c.args.cx.now).const_ c.args.rhs.now c.requires.rhs_known) in
    let own = sym (c.is_flexible_const.ensures m) ∙ c.if-is_flexible_const.false in
    let f = ap (flexible c.args.sides.right) c.const_kind-right.ensures ∙ own in
    let h = ap (flexible c.args.sides.left) c.const_kind-left.ensures ∙ sym (c.is_flexible_const-2.ensures m)
    ∙ c.if-is_flexible_const-2.false in
    let left = c.const_kind-left.ensures ∙ ap (const_tree m) c.in-Value.is in
    fails (const_forms_clash c.args.sides.left c.args.sides.right c.args.depth a b const_sort refl ta tb f h
    (λ k. value_unlike m c.args.sides.right c.const_kind-right.result _ own c.in_default-right.not-Value
    (subst₂ OneOutline left c.const_kind-right.ensures k)))

pub consts_may_unify-valtrees_may_unify-requires : goal.consts_may_unify-valtrees_may_unify-requires
consts_may_unify-valtrees_may_unify-requires g t' c κs within =
    let m = g.I.Interner.meaning c.args.cx.now in
    let a = m.const_ c.args.lhs.now in
    let x = node value_type (cons (m.ty c.in-Value.field-0) nil) in
    let y = node value_type (cons (m.ty c.in-Value-right.field-0) nil) in
    let v = m.valtree c.in-Value.left_value in
    let w = m.valtree c.in-Value-right.right_value in
    let left : a ≡ node value (cons x (cons v nil)) = c.const_kind-left.ensures ∙ ap (const_tree m) c.in-Value.is in
    let right : m.const_ c.args.rhs.now ≡ node value (cons y (cons w nil)) =
    c.const_kind-right.ensures ∙ ap (const_tree m) c.in-Value-right.is in
    let d = c.decreases in
    let is : size a ≡ suc (suc (size x + suc (size v + 1))) = ap size left in
    let small : 3 * size v + 1 < 3 * size a + 1 = omega (arith, is) in
    let k = value_known x v (subst (λ z. IsTrue (known z)) left c.requires.lhs_known) in
    let n = value_known y w (subst (λ z. IsTrue (known z)) right c.requires.rhs_known) in
    search rules

pub consts_may_unify-returns : goal.consts_may_unify-returns
consts_may_unify-returns g t c =
    let m = g.I.Interner.meaning c.args.cx.now in
    let l = c.args.sides.left in
    let r = c.args.sides.right in
    let x = cons (m.ty c.in-Value.field-0) nil in
    let y = cons (m.ty c.in-Value-right.field-0) nil in
    let v = m.valtree c.in-Value.left_value in
    let w = m.valtree c.in-Value-right.right_value in
    let left = c.const_kind-left.ensures ∙ ap (const_tree m) c.in-Value.is in
    let right = c.const_kind-right.ensures ∙ ap (const_tree m) c.in-Value-right.is in
    moved l r c.valtrees_may_unify.result refl (sym left) (sym right)
    (values_decide l r c.args.depth x y v w c.valtrees_may_unify.result c.valtrees_may_unify.ensures)

-- Value trees.
pub valtrees_may_unify-returns-then-eq : goal.valtrees_may_unify-returns-then-eq
valtrees_may_unify-returns-then-eq g t c =
    let m = g.I.Interner.meaning c.args.cx.now in
    let one : m.valtree c.args.lhs.now ≡ m.valtree c.args.rhs.now =
    (g.met.I.Interner.same_valtree c.args.cx.now c.args.lhs.now c.args.rhs.now c.requires.lhs_known c.requires.rhs_known).0
    (let i = c.if-eq.true in let h = c.eq.ensures in let k = c.if-eq.ensures in search rules) in
    passes (λ k. no_clash k one)

pub valtrees_may_unify-returns-in_default : goal.valtrees_may_unify-returns-in_default
valtrees_may_unify-returns-in_default g t c =
    let m = g.I.Interner.meaning c.args.cx.now in
    let a = m.valtree c.args.lhs.now in
    let b = m.valtree c.args.rhs.now in
    let ta = value_term a ((g.met.I.Interner.sorted c.args.cx.now).valtree c.args.lhs.now c.requires.lhs_known) in
    let tb = value_term b ((g.met.I.Interner.sorted c.args.cx.now).valtree c.args.rhs.now c.requires.rhs_known) in
    let f = ap (flexible c.args.sides.right) c.valtree_kind-right.ensures
    ∙ valtree_rigid m c.args.sides.right c.valtree_kind-right.result in
    let h = ap (flexible c.args.sides.left) c.valtree_kind-left.ensures
    ∙ valtree_rigid m c.args.sides.left c.valtree_kind-left.result in
    fails (const_forms_clash c.args.sides.left c.args.sides.right c.args.depth a b value_sort refl ta tb f h
    (λ k. (let one : a ≡ b = c.valtree_kind-left.ensures ∙ valtree_unlike m c.valtree_kind-left.result b
    c.in_default.not-Branch (subst (λ x. OneOutline x b) c.valtree_kind-left.ensures k) in
    let i = c.if-eq.false in let o = c.eq.ensures in let q = c.if-eq.ensures in
    let l = (g.met.I.Interner.same_valtree c.args.cx.now c.args.lhs.now c.args.rhs.now c.requires.lhs_known
    c.requires.rhs_known).1 one in search rules)))

pub valtrees_may_unify-returns-in_default-right : goal.valtrees_may_unify-returns-in_default-right
valtrees_may_unify-returns-in_default-right g t c =
    let m = g.I.Interner.meaning c.args.cx.now in
    let a = m.valtree c.args.lhs.now in
    let b = m.valtree c.args.rhs.now in
    let ta = value_term a ((g.met.I.Interner.sorted c.args.cx.now).valtree c.args.lhs.now c.requires.lhs_known) in
    let tb = value_term b ((g.met.I.Interner.sorted c.args.cx.now).valtree c.args.rhs.now c.requires.rhs_known) in
    let f = ap (flexible c.args.sides.right) c.valtree_kind-right.ensures
    ∙ valtree_rigid m c.args.sides.right c.valtree_kind-right.result in
    let h = ap (flexible c.args.sides.left) c.valtree_kind-left.ensures
    ∙ valtree_rigid m c.args.sides.left c.valtree_kind-left.result in
    let left = c.valtree_kind-left.ensures ∙ ap (valtree_tree m) c.in-Branch.is in
    fails (const_forms_clash c.args.sides.left c.args.sides.right c.args.depth a b value_sort refl ta tb f h
    (λ k. branch_unlike m c.valtree_kind-right.result _ c.in_default-right.not-Branch
    (subst₂ OneOutline left c.valtree_kind-right.ensures k)))

pub valtrees_may_unify-branches-left_parts-requires : goal.valtrees_may_unify-branches-left_parts-requires
valtrees_may_unify-branches-left_parts-requires g t c =
    let m = g.I.Interner.meaning c.args.cx.now in
    subst (λ z. IsTrue (known z)) (c.valtree_kind-left.ensures ∙ ap (valtree_tree m) c.in-Branch.is) c.requires.lhs_known

pub valtrees_may_unify-branches-right_parts-requires : goal.valtrees_may_unify-branches-right_parts-requires
valtrees_may_unify-branches-right_parts-requires g t c =
    let m = g.I.Interner.meaning c.args.cx.now in
    subst (λ z. IsTrue (known z)) (c.valtree_kind-right.ensures ∙ ap (valtree_tree m) c.in-Branch-right.is)
    c.requires.rhs_known

pub valtrees_may_unify-returns-then-left_parts-right_parts : goal.valtrees_may_unify-returns-then-left_parts-right_parts
valtrees_may_unify-returns-then-left_parts-right_parts g t c =
    let m = g.I.Interner.meaning c.args.cx.now in
    let a = m.valtree c.args.lhs.now in
    let b = m.valtree c.args.rhs.now in
    let ta = value_term a ((g.met.I.Interner.sorted c.args.cx.now).valtree c.args.lhs.now c.requires.lhs_known) in
    let tb = value_term b ((g.met.I.Interner.sorted c.args.cx.now).valtree c.args.rhs.now c.requires.rhs_known) in
    let f = ap (flexible c.args.sides.right) c.valtree_kind-right.ensures
    ∙ valtree_rigid m c.args.sides.right c.valtree_kind-right.result in
    let h = ap (flexible c.args.sides.left) c.valtree_kind-left.ensures
    ∙ valtree_rigid m c.args.sides.left c.valtree_kind-left.result in
    let x = m.branches c.in-Branch.left_branches in
    let y = m.branches c.in-Branch-right.right_branches in
    let left = c.valtree_kind-left.ensures ∙ ap (valtree_tree m) c.in-Branch.is in
    let right = c.valtree_kind-right.ensures ∙ ap (valtree_tree m) c.in-Branch-right.is in
    let at = slice_counts m.const_ _ x c.branches-left_parts.ensures in
    let also = slice_counts m.const_ _ y c.branches-right_parts.ensures in
    fails (const_forms_clash c.args.sides.left c.args.sides.right c.args.depth a b value_sort refl ta tb f h
    (λ k. c.if-left_parts-right_parts.true (at ∙ branch_counts x y (subst₂ OneOutline left right k) ∙ sym also)))

pub valtrees_may_unify-branches_may_unify-requires : goal.valtrees_may_unify-branches_may_unify-requires
valtrees_may_unify-branches_may_unify-requires g t' c κs within =
    let m = g.I.Interner.meaning c.args.cx.now in
    let a = m.valtree c.args.lhs.now in
    let x = m.branches c.in-Branch.left_branches in
    let y = m.branches c.in-Branch-right.right_branches in
    let left : a ≡ node value_branch x = c.valtree_kind-left.ensures ∙ ap (valtree_tree m) c.in-Branch.is in
    let right : m.valtree c.args.rhs.now ≡ node value_branch y =
    c.valtree_kind-right.ensures ∙ ap (valtree_tree m) c.in-Branch-right.is in
    let d = c.decreases in
    let is : size a ≡ suc (size x) = ap size left in
    let same : size x ≡ size (list_tree m.const_ c.branches-left_parts.result.now) = ap size c.branches-left_parts.ensures in
    let small : 3 * size (list_tree m.const_ c.branches-left_parts.result.now) < 3 * size a + 1 = omega (arith, is, same) in
    let k : IsTrue (known (list_tree m.const_ c.branches-left_parts.result.now)) =
    subst (λ z. IsTrue (known z)) c.branches-left_parts.ensures (subst (λ z. IsTrue (known z)) left c.requires.lhs_known) in
    let n : IsTrue (known (list_tree m.const_ c.branches-right_parts.result.now)) =
    subst (λ z. IsTrue (known z)) c.branches-right_parts.ensures (subst (λ z. IsTrue (known z)) right c.requires.rhs_known) in
    search rules

pub valtrees_may_unify-returns : goal.valtrees_may_unify-returns
valtrees_may_unify-returns g t c =
    let m = g.I.Interner.meaning c.args.cx.now in
    let l = c.args.sides.left in
    let r = c.args.sides.right in
    let x = m.branches c.in-Branch.left_branches in
    let y = m.branches c.in-Branch-right.right_branches in
    let left = c.valtree_kind-left.ensures ∙ ap (valtree_tree m) c.in-Branch.is in
    let right = c.valtree_kind-right.ensures ∙ ap (valtree_tree m) c.in-Branch-right.is in
    let at = slice_counts m.const_ _ x c.branches-left_parts.ensures in
    let also = slice_counts m.const_ _ y c.branches-right_parts.ensures in
    let counts = sym at ∙ c.if-left_parts-right_parts.false ∙ also in
    moved l r c.branches_may_unify.result refl (sym left) (sym right)
    (const_parts_decide l r c.args.depth (node value_branch x) (node value_branch y) value_sort refl refl refl
    c.branches_may_unify.result refl refl (branch_alike x y counts)
    (moved l r c.branches_may_unify.result refl (sym c.branches-left_parts.ensures) (sym c.branches-right_parts.ensures)
    c.branches_may_unify.ensures))

-- Branches.

pub branches_may_unify-loop-i-init : goal.branches_may_unify-loop-i-init
branches_may_unify-loop-i-init g t c = record { on = λ k. k; back = λ k. k }

pub branches_may_unify-consts_may_unify-requires : goal.branches_may_unify-consts_may_unify-requires
branches_may_unify-consts_may_unify-requires g t' c κs within =
    let m = g.I.Interner.meaning c.args.cx.now in
    let f = m.const_ in
    let xs = list_tree f c.args.left.now in
    let ys = list_tree f c.args.right.now in
    let i = c.loop-i.i in
    let x = c.index-left-i.result in
    let y = c.index-right-i.result in
    let test = c.loop-i-test.true in
    let at = list_count f c.args.left.now in
    let also = list_count f c.args.right.now in
    let below : i < count xs = omega (arith, test, at) in
    let under : i < count ys = omega (arith, test, also) in
    let d = c.decreases in
    let less = member_small xs i below in
    let is : size (f x) ≡ size (nth i xs) = ap size (slice_nth f c.args.left.now xs refl i x x below c.index-left-i.is) in
    let small : 3 * size (f x) + 1 < 3 * size xs = omega (arith, less, is) in
    let k = slice_sure f c.args.left.now xs refl c.requires.left_known i x x below c.index-left-i.is in
    let n = slice_sure f c.args.right.now ys refl c.requires.right_known i y y under c.index-right-i.is in
    search rules

pub branches_may_unify-returns-then-not-consts_may_unify : goal.branches_may_unify-returns-then-not-consts_may_unify
branches_may_unify-returns-then-not-consts_may_unify g t c =
    let m = g.I.Interner.meaning c.args.cx.now in
    let f = m.const_ in
    let xs = list_tree f c.args.left.now in
    let ys = list_tree f c.args.right.now in
    let i = c.loop-i.i in
    let x = c.index-left-i.result in
    let y = c.index-right-i.result in
    let test = c.loop-i-test.true in
    let at = list_count f c.args.left.now in
    let also = list_count f c.args.right.now in
    let a : i < count xs = omega (arith, test, at) in
    let b : i < count ys = omega (arith, test, also) in
    let no : c.consts_may_unify.result ≡ false = (let n = c.if-not-consts_may_unify.true in search rules) in
    fails (c.loop-i.invariant.back (rest_here c.args.sides.left c.args.sides.right c.args.depth xs ys i (f x) (f y) a b
    (slice_nth f c.args.left.now xs refl i x x a c.index-left-i.is)
    (slice_nth f c.args.right.now ys refl i y y b c.index-right-i.is) (c.consts_may_unify.ensures.0 no)))

pub branches_may_unify-loop-i-preserved : goal.branches_may_unify-loop-i-preserved
branches_may_unify-loop-i-preserved g t c =
    let m = g.I.Interner.meaning c.args.cx.now in
    let f = m.const_ in
    let l = c.args.sides.left in
    let r = c.args.sides.right in
    let xs = list_tree f c.args.left.now in
    let ys = list_tree f c.args.right.now in
    let i = c.loop-i.i in
    let x = c.index-left-i.result in
    let y = c.index-right-i.result in
    let test = c.loop-i-test.true in
    let at = list_count f c.args.left.now in
    let also = list_count f c.args.right.now in
    let a : i < count xs = omega (arith, test, at) in
    let b : i < count ys = omega (arith, test, also) in
    let next : i + 1 ≡ suc i = omega arith in
    let none : Clash l r c.args.depth (f x) (f y) → ⊥ =
    (λ k. (let no = c.consts_may_unify.ensures.1 k in let n = c.if-not-consts_may_unify.false in search rules)) in
    record {
      on = λ k. rest_on l r c.args.depth xs ys i (i + 1) (f x) (f y) next a b
          (slice_nth f c.args.left.now xs refl i x x a c.index-left-i.is)
          (slice_nth f c.args.right.now ys refl i y y b c.index-right-i.is) none (c.loop-i.invariant.on k);
      back = λ k. c.loop-i.invariant.back (rest_further l r c.args.depth xs ys i (i + 1) next a b k);
    }

pub branches_may_unify-returns : goal.branches_may_unify-returns
branches_may_unify-returns g t c =
    let m = g.I.Interner.meaning c.args.cx.now in
    let f = m.const_ in
    let xs = list_tree f c.args.left.now in
    let ys = list_tree f c.args.right.now in
    let i = c.loop-i.i in
    let test = c.loop-i-test.false in
    let end = (c.loop-i.auto).i-end in
    let at = list_count f c.args.left.now in
    let also = list_count f c.args.right.now in
    let either : (i ≡ count xs) ⊎ (i ≡ count ys) = shorter i (count xs) (count ys) (omega (arith, test, end, at, also)) in
    passes (λ k. rest_none c.args.sides.left c.args.sides.right c.args.depth xs ys i (list_is f c.args.left.now)
    (list_is f c.args.right.now) either (c.loop-i.invariant.on k))
