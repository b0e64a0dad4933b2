use Rattle.std.proofs.Common.{rules, ◌≡◌, ◌≢◌, ◌⊎◌, ◌↔◌, ◌<◌, ◌+◌, ◌*◌, ◌-◌, suc, false, true, Some, IsTrue, sym, ap, ◌∙◌, subst, subst₂, refl, arith}
use Rattle.relation_terms.specs.Trees.{known, size, count, nth, list_tree}
use Rattle.relation_terms.specs.Meaning.{arg_tree}
use Rattle.relation_terms.specs.Parts.{tree_sort}
use Rattle.relation_terms.proofs.Members.{type_term, const_term, region_term, member_small, slice_nth, slice_sure}
use Rattle.relation_terms.proofs.Members.{list_count, list_is}
use Rattle.relation_folds.specs.Clashes.{Clash, OneOutline, depth_inside}
use Rattle.fast_reject.specs.Pairs.{Pairs, KnownPair, ClashIn, pair_size}
use Rattle.relation_folds.specs.Outlines.{stands}
use Rattle.fast_reject.proofs.Clashing.{no_clash, right_decides, no_depth, passes, fails, moved}
use Rattle.fast_reject.proofs.Clashing.{rest_here, rest_further, rest_on, rest_none, shorter, quiet_clash, is_quiet}
use Rattle.fast_reject.proofs.Clashing.{type_pair, const_pair}
use Rattle.fast_reject.proofs.Outlining.{some_stands, none_stands}
use Rattle.fast_reject.proofs.PairTests.{like_rigid, pairs_alike, apart_decides}
use Rattle.fast_reject.proofs.PairTests.{pair_small, pair_known, pair_decides, apart_clash, no_pair_clash, types_clash}
use Rattle.fast_reject.proofs.PairTests.{first_clash, second_clash, lists_clash, args_clash, other_than_ty, other_than_const}
use Rattle.fast_reject.proofs.walk.+clashes.Goals as goal

-- Types.
pub types_may_unify-returns-then-eq : goal.types_may_unify-returns-then-eq
types_may_unify-returns-then-eq g t c =
    let m = g.I.Interner.meaning c.args.cx.now in
    let one : m.ty c.args.lhs ≡ m.ty c.args.rhs =
    (g.met.I.Interner.same_ty c.args.cx.now c.args.lhs c.args.rhs c.requires.lhs_known c.requires.rhs_known).0
    (let i = c.if-eq.true in let h = c.eq.ensures in let k = c.if-eq.ensures in search rules) in
    passes (λ k. no_clash k one)

pub types_may_unify-unlike_may_unify-requires : goal.types_may_unify-unlike_may_unify-requires
types_may_unify-unlike_may_unify-requires g t' c κs within =
    let m = g.I.Interner.meaning c.args.cx.now in
    let d = c.decreases in
    let small : 3 * size (m.ty c.args.lhs) < 3 * size (m.ty c.args.lhs) + 1 = omega arith in
    let differ : m.ty c.args.lhs ≢ m.ty c.args.rhs = (λ one.
    (let i = c.if-eq.false in let h = c.eq.ensures in let k = c.if-eq.ensures in
    let l = (g.met.I.Interner.same_ty c.args.cx.now c.args.lhs c.args.rhs c.requires.lhs_known c.requires.rhs_known).1 one in
    search rules)) in
    search rules

-- Types that differ.
pub unlike_may_unify-returns-in-Some : goal.unlike_may_unify-returns-in-Some
unlike_may_unify-returns-in-Some g t c =
    let m = g.I.Interner.meaning c.args.cx.now in
    let a = m.ty c.args.lhs in
    let b = m.ty c.args.rhs in
    let ta = type_term a ((g.met.I.Interner.sorted c.args.cx.now).ty c.args.lhs c.requires.lhs_known) in
    let tb = type_term b ((g.met.I.Interner.sorted c.args.cx.now).ty c.args.rhs c.requires.rhs_known) in
    let e = ap (λ x. stands c.args.sides.right x a) c.ty_kind-right.ensures ∙ sym c.may_stand_for.ensures ∙ c.in-Some.is in
    let s = some_stands c.args.sides.right b a c.in-Some.may e in
    right_decides c.args.sides.left c.args.sides.right c.args.depth a b ta tb c.in-Some.may (s.0) (s.1)

pub unlike_may_unify-returns-then-depth-eq0 : goal.unlike_may_unify-returns-then-depth-eq0
unlike_may_unify-returns-then-depth-eq0 g t c =
    let m = g.I.Interner.meaning c.args.cx.now in
    let a = m.ty c.args.lhs in
    let b = m.ty c.args.rhs in
    let ta = type_term a ((g.met.I.Interner.sorted c.args.cx.now).ty c.args.lhs c.requires.lhs_known) in
    let tb = type_term b ((g.met.I.Interner.sorted c.args.cx.now).ty c.args.rhs c.requires.rhs_known) in
    let f = none_stands c.args.sides.right b a c.may_stand_for.result
    (c.may_stand_for.ensures ∙ ap (λ x. stands c.args.sides.right x a) (sym c.ty_kind-right.ensures)) c.in_default.not-Some in
    passes (no_depth c.args.sides.left c.args.sides.right c.args.depth a b ta tb f c.if-depth-eq0.true)

pub unlike_may_unify-paired-pair-requires-clause-differ : goal.unlike_may_unify-paired-pair-requires-clause-differ
unlike_may_unify-paired-pair-requires-clause-differ g t c =
    λ e. c.requires.differ (c.ty_kind-left.ensures ∙ e ∙ sym c.ty_kind-right.ensures)

pub unlike_may_unify-returns-in-Apart : goal.unlike_may_unify-returns-in-Apart
unlike_may_unify-returns-in-Apart g t c =
    let m = g.I.Interner.meaning c.args.cx.now in
    let l = c.args.sides.left in
    let r = c.args.sides.right in
    let a = m.ty c.args.lhs in
    let b = m.ty c.args.rhs in
    let ta = type_term a ((g.met.I.Interner.sorted c.args.cx.now).ty c.args.lhs c.requires.lhs_known) in
    let tb = type_term b ((g.met.I.Interner.sorted c.args.cx.now).ty c.args.rhs c.requires.rhs_known) in
    let f = none_stands r b a c.may_stand_for.result
    (c.may_stand_for.ensures ∙ ap (λ x. stands r x a) (sym c.ty_kind-right.ensures)) c.in_default.not-Some in
    let n = c.if-depth-eq0.false in
    let z : c.args.depth ≡ suc (c.args.depth - 1) = omega (arith, n) in
    let pairs : Pairs m a b c.paired-pair.result =
    subst₂ (λ x y. Pairs m x y c.paired-pair.result) (sym c.ty_kind-left.ensures) (sym c.ty_kind-right.ensures)
    c.paired-pair.ensures in
    let apart : OneOutline a b → ⊥ = subst (λ x. Pairs m a b x) c.in-Apart.is pairs in
    let told : (c.stands_for.result ≡ true) ↔ (stands l a b ≡ Some true) =
    subst (λ x. (c.stands_for.result ≡ true) ↔ (stands l x b ≡ Some true)) (sym c.ty_kind-left.ensures)
    c.stands_for.ensures in
    apart_decides l r c.args.depth a b ta tb (c.args.depth - 1) c.stands_for.result z f apart told

pub unlike_may_unify-pair_may_unify-requires : goal.unlike_may_unify-pair_may_unify-requires
unlike_may_unify-pair_may_unify-requires g t' c κs within =
    let m = g.I.Interner.meaning c.args.cx.now in
    let a = m.ty c.args.lhs in
    let b = m.ty c.args.rhs in
    let p = c.paired-pair.result in
    let pairs : Pairs m a b p =
    subst₂ (λ x y. Pairs m x y p) (sym c.ty_kind-left.ensures) (sym c.ty_kind-right.ensures) c.paired-pair.ensures in
    let d = c.decreases in
    let less = pair_small m a b p pairs in
    let small : 3 * pair_size m p + 2 < 3 * size a = omega (arith, less) in
    let k = pair_known m a b p pairs in
    search rules

pub unlike_may_unify-returns : goal.unlike_may_unify-returns
unlike_may_unify-returns g t c =
    let m = g.I.Interner.meaning c.args.cx.now in
    let l = c.args.sides.left in
    let r = c.args.sides.right in
    let a = m.ty c.args.lhs in
    let b = m.ty c.args.rhs in
    let ta = type_term a ((g.met.I.Interner.sorted c.args.cx.now).ty c.args.lhs c.requires.lhs_known) in
    let tb = type_term b ((g.met.I.Interner.sorted c.args.cx.now).ty c.args.rhs c.requires.rhs_known) in
    let f = none_stands r b a c.may_stand_for.result
    (c.may_stand_for.ensures ∙ ap (λ x. stands r x a) (sym c.ty_kind-right.ensures)) c.in_default.not-Some in
    let n = c.if-depth-eq0.false in
    let z : c.args.depth ≡ suc (c.args.depth - 1) = omega (arith, n) in
    let p = c.paired-pair.result in
    let pairs : Pairs m a b p =
    subst₂ (λ x y. Pairs m x y p) (sym c.ty_kind-left.ensures) (sym c.ty_kind-right.ensures) c.paired-pair.ensures in
    let h = like_rigid l r a b ta tb c.requires.differ (pairs_alike m a b p pairs c.in_default-pair.not-Apart) f in
    let inner : c.depth_within-inner.result ≡ depth_inside a (c.args.depth - 1) =
    c.depth_within-inner.ensures m ∙ ap (λ x. depth_inside x (c.args.depth - 1)) (sym c.ty_kind-left.ensures) in
    pair_decides m l r c.args.depth a b ta tb (c.args.depth - 1) c.pair_may_unify.result z f h p pairs
    (subst (λ d. (c.pair_may_unify.result ≡ false) ↔ ClashIn m l r d p) inner c.pair_may_unify.ensures)

-- Pairs.
pub pair_may_unify-returns-in-Apart : goal.pair_may_unify-returns-in-Apart
pair_may_unify-returns-in-Apart g t c =
    apart_clash (g.I.Interner.meaning c.args.cx.now) c.args.sides.left c.args.sides.right c.args.depth c.args.pair c.in-Apart.is

pub pair_may_unify-returns-in-Nothing : goal.pair_may_unify-returns-in-Nothing
pair_may_unify-returns-in-Nothing g t c =
    no_pair_clash (g.I.Interner.meaning c.args.cx.now) c.args.sides.left c.args.sides.right c.args.depth c.args.pair
    c.in-Nothing.is

pub pair_may_unify-types_may_unify-requires : goal.pair_may_unify-types_may_unify-requires
pair_may_unify-types_may_unify-requires g t' c κs within =
    let m = g.I.Interner.meaning c.args.cx.now in
    let d = c.decreases in
    let is : pair_size m c.args.pair ≡ size (m.ty c.in-Types.lhs) = ap (λ p. pair_size m p) c.in-Types.is in
    let small : 3 * size (m.ty c.in-Types.lhs) + 1 < 3 * pair_size m c.args.pair + 2 = omega (arith, is) in
    let both : IsTrue (known (m.ty c.in-Types.lhs)) × IsTrue (known (m.ty c.in-Types.rhs)) =
    subst (λ p. KnownPair m p) c.in-Types.is c.requires in
    let k = both.0 in
    let n = both.1 in
    search rules

pub pair_may_unify-returns-in-Types : goal.pair_may_unify-returns-in-Types
pair_may_unify-returns-in-Types g t c =
    types_clash (g.I.Interner.meaning c.args.cx.now) c.args.sides.left c.args.sides.right c.types_may_unify.result
    c.args.depth c.args.pair c.in-Types.lhs c.in-Types.rhs c.in-Types.is c.types_may_unify.ensures

pub pair_may_unify-types_may_unify-requires-in-Arrays : goal.pair_may_unify-types_may_unify-requires-in-Arrays
pair_may_unify-types_may_unify-requires-in-Arrays g t' c κs within =
    let m = g.I.Interner.meaning c.args.cx.now in
    let d = c.decreases in
    let is : pair_size m c.args.pair ≡ size (m.ty c.in-Arrays.lhs) + size (m.const_ c.in-Arrays.len) =
    ap (λ p. pair_size m p) c.in-Arrays.is in
    let small : 3 * size (m.ty c.in-Arrays.lhs) + 1 < 3 * pair_size m c.args.pair + 2 = omega (arith, is) in
    let all : (IsTrue (known (m.ty c.in-Arrays.lhs)) × IsTrue (known (m.ty c.in-Arrays.rhs))) ×
    (IsTrue (known (m.const_ c.in-Arrays.len)) × IsTrue (known (m.const_ c.in-Arrays.length))) =
    subst (λ p. KnownPair m p) c.in-Arrays.is c.requires in
    let k = all.0.0 in
    let n = all.0.1 in
    search rules

pub pair_may_unify-returns-then-not-types_may_unify : goal.pair_may_unify-returns-then-not-types_may_unify
pair_may_unify-returns-then-not-types_may_unify g t c =
    let no : c.types_may_unify-in-Arrays.result ≡ false = (let n = c.if-not-types_may_unify.true in search rules) in
    first_clash (g.I.Interner.meaning c.args.cx.now) c.args.sides.left c.args.sides.right c.args.depth c.args.pair
    c.in-Arrays.lhs c.in-Arrays.rhs c.in-Arrays.len c.in-Arrays.length c.in-Arrays.is
    (c.types_may_unify-in-Arrays.ensures.0 no)

pub pair_may_unify-consts_may_unify-requires-clause-lhs_known : goal.pair_may_unify-consts_may_unify-requires-clause-lhs_known
pair_may_unify-consts_may_unify-requires-clause-lhs_known g t c =
    let m = g.I.Interner.meaning c.args.cx.now in
    (subst (λ p. KnownPair m p) c.in-Arrays.is c.requires).1.0

pub pair_may_unify-consts_may_unify-requires-clause-rhs_known : goal.pair_may_unify-consts_may_unify-requires-clause-rhs_known
pair_may_unify-consts_may_unify-requires-clause-rhs_known g t c =
    let m = g.I.Interner.meaning c.args.cx.now in
    (subst (λ p. KnownPair m p) c.in-Arrays.is c.requires).1.1

pub pair_may_unify-returns-else-not-types_may_unify : goal.pair_may_unify-returns-else-not-types_may_unify
pair_may_unify-returns-else-not-types_may_unify g t c =
    let m = g.I.Interner.meaning c.args.cx.now in
    let none : Clash c.args.sides.left c.args.sides.right c.args.depth (m.ty c.in-Arrays.lhs) (m.ty c.in-Arrays.rhs) → ⊥ =
    (λ k. (let no = c.types_may_unify-in-Arrays.ensures.1 k in let n = c.if-not-types_may_unify.false in search rules)) in
    second_clash m c.args.sides.left c.args.sides.right c.consts_may_unify.result c.args.depth c.args.pair c.in-Arrays.lhs
    c.in-Arrays.rhs c.in-Arrays.len c.in-Arrays.length c.in-Arrays.is none c.consts_may_unify.ensures

pub pair_may_unify-tys-requires : goal.pair_may_unify-tys-requires
pair_may_unify-tys-requires g t c =
    let m = g.I.Interner.meaning c.args.cx.now in
    (subst (λ p. KnownPair m p) c.in-Lists.is c.requires).0

pub pair_may_unify-tys-requires-in-Lists : goal.pair_may_unify-tys-requires-in-Lists
pair_may_unify-tys-requires-in-Lists g t c =
    let m = g.I.Interner.meaning c.args.cx.now in
    (subst (λ p. KnownPair m p) c.in-Lists.is c.requires).1

pub pair_may_unify-tys_may_unify-requires : goal.pair_may_unify-tys_may_unify-requires
pair_may_unify-tys_may_unify-requires g t' c κs within =
    let m = g.I.Interner.meaning c.args.cx.now in
    let d = c.decreases in
    let is : pair_size m c.args.pair ≡ size (m.tys c.in-Lists.tys) = ap (λ p. pair_size m p) c.in-Lists.is in
    let same : size (m.tys c.in-Lists.tys) ≡ size (list_tree m.ty c.tys.result.now) = ap size c.tys.ensures in
    let small : 3 * size (list_tree m.ty c.tys.result.now) < 3 * pair_size m c.args.pair + 2 = omega (arith, is, same) in
    let both : IsTrue (known (m.tys c.in-Lists.tys)) × IsTrue (known (m.tys c.in-Lists.others)) =
    subst (λ p. KnownPair m p) c.in-Lists.is c.requires in
    let k = subst (λ x. IsTrue (known x)) c.tys.ensures both.0 in
    let n = subst (λ x. IsTrue (known x)) c.tys-in-Lists.ensures both.1 in
    search rules

pub pair_may_unify-returns-in-Lists : goal.pair_may_unify-returns-in-Lists
pair_may_unify-returns-in-Lists g t c =
    lists_clash (g.I.Interner.meaning c.args.cx.now) c.args.sides.left c.args.sides.right c.tys_may_unify.result c.args.depth
    c.args.pair c.in-Lists.tys c.in-Lists.others c.in-Lists.is _ _ c.tys.ensures c.tys-in-Lists.ensures c.tys_may_unify.ensures

pub pair_may_unify-args-list-requires : goal.pair_may_unify-args-list-requires
pair_may_unify-args-list-requires g t c =
    let m = g.I.Interner.meaning c.args.cx.now in
    (subst (λ p. KnownPair m p) c.in-Args.is c.requires).0

pub pair_may_unify-args-other_list-requires : goal.pair_may_unify-args-other_list-requires
pair_may_unify-args-other_list-requires g t c =
    let m = g.I.Interner.meaning c.args.cx.now in
    (subst (λ p. KnownPair m p) c.in-Args.is c.requires).1

pub pair_may_unify-args_may_unify-requires : goal.pair_may_unify-args_may_unify-requires
pair_may_unify-args_may_unify-requires g t' c κs within =
    let m = g.I.Interner.meaning c.args.cx.now in
    let d = c.decreases in
    let is : pair_size m c.args.pair ≡ size (m.args c.in-Args.args) = ap (λ p. pair_size m p) c.in-Args.is in
    let same : size (m.args c.in-Args.args) ≡ size (list_tree (arg_tree m) c.args-list.result.now) = ap size c.args-list.ensures in
    let small : 3 * size (list_tree (arg_tree m) c.args-list.result.now) < 3 * pair_size m c.args.pair + 2 =
    omega (arith, is, same) in
    let both : IsTrue (known (m.args c.in-Args.args)) × IsTrue (known (m.args c.in-Args.others)) =
    subst (λ p. KnownPair m p) c.in-Args.is c.requires in
    let k = subst (λ x. IsTrue (known x)) c.args-list.ensures both.0 in
    let n = subst (λ x. IsTrue (known x)) c.args-other_list.ensures both.1 in
    search rules

pub pair_may_unify-returns-in-Args : goal.pair_may_unify-returns-in-Args
pair_may_unify-returns-in-Args g t c =
    args_clash (g.I.Interner.meaning c.args.cx.now) c.args.sides.left c.args.sides.right c.args_may_unify.result c.args.depth
    c.args.pair c.in-Args.args c.in-Args.others c.in-Args.is _ _ c.args-list.ensures c.args-other_list.ensures
    c.args_may_unify.ensures

-- Lists of types.

pub tys_may_unify-loop-i-init : goal.tys_may_unify-loop-i-init
tys_may_unify-loop-i-init g t c = record { on = λ k. k; back = λ k. k }

pub tys_may_unify-types_may_unify-requires : goal.tys_may_unify-types_may_unify-requires
tys_may_unify-types_may_unify-requires g t' c κs within =
    let m = g.I.Interner.meaning c.args.cx.now in
    let f = m.ty in
    let xs = list_tree f c.args.left.now in
    let ys = list_tree f c.args.right.now in
    let i = c.loop-i.i in
    let x = c.index-left-i.result in
    let y = c.index-right-i.result in
    let test = c.loop-i-test.true in
    let at = list_count f c.args.left.now in
    let also = list_count f c.args.right.now in
    let below : i < count xs = omega (arith, test, at) in
    let under : i < count ys = omega (arith, test, also) in
    let d = c.decreases in
    let less = member_small xs i below in
    let is : size (f x) ≡ size (nth i xs) = ap size (slice_nth f c.args.left.now xs refl i x x below c.index-left-i.is) in
    let small : 3 * size (f x) + 1 < 3 * size xs = omega (arith, less, is) in
    let k = slice_sure f c.args.left.now xs refl c.requires.left_known i x x below c.index-left-i.is in
    let n = slice_sure f c.args.right.now ys refl c.requires.right_known i y y under c.index-right-i.is in
    search rules

pub tys_may_unify-returns-then-not-types_may_unify : goal.tys_may_unify-returns-then-not-types_may_unify
tys_may_unify-returns-then-not-types_may_unify g t c =
    let m = g.I.Interner.meaning c.args.cx.now in
    let f = m.ty in
    let xs = list_tree f c.args.left.now in
    let ys = list_tree f c.args.right.now in
    let i = c.loop-i.i in
    let x = c.index-left-i.result in
    let y = c.index-right-i.result in
    let test = c.loop-i-test.true in
    let at = list_count f c.args.left.now in
    let also = list_count f c.args.right.now in
    let a : i < count xs = omega (arith, test, at) in
    let b : i < count ys = omega (arith, test, also) in
    let no : c.types_may_unify.result ≡ false = (let n = c.if-not-types_may_unify.true in search rules) in
    fails (c.loop-i.invariant.back (rest_here c.args.sides.left c.args.sides.right c.args.depth xs ys i (f x) (f y) a b
    (slice_nth f c.args.left.now xs refl i x x a c.index-left-i.is)
    (slice_nth f c.args.right.now ys refl i y y b c.index-right-i.is) (c.types_may_unify.ensures.0 no)))

pub tys_may_unify-loop-i-preserved : goal.tys_may_unify-loop-i-preserved
tys_may_unify-loop-i-preserved g t c =
    let m = g.I.Interner.meaning c.args.cx.now in
    let f = m.ty in
    let l = c.args.sides.left in
    let r = c.args.sides.right in
    let xs = list_tree f c.args.left.now in
    let ys = list_tree f c.args.right.now in
    let i = c.loop-i.i in
    let x = c.index-left-i.result in
    let y = c.index-right-i.result in
    let test = c.loop-i-test.true in
    let at = list_count f c.args.left.now in
    let also = list_count f c.args.right.now in
    let a : i < count xs = omega (arith, test, at) in
    let b : i < count ys = omega (arith, test, also) in
    let next : i + 1 ≡ suc i = omega arith in
    let none : Clash l r c.args.depth (f x) (f y) → ⊥ =
    (λ k. (let no = c.types_may_unify.ensures.1 k in let n = c.if-not-types_may_unify.false in search rules)) in
    record {
      on = λ k. rest_on l r c.args.depth xs ys i (i + 1) (f x) (f y) next a b
          (slice_nth f c.args.left.now xs refl i x x a c.index-left-i.is)
          (slice_nth f c.args.right.now ys refl i y y b c.index-right-i.is) none (c.loop-i.invariant.on k);
      back = λ k. c.loop-i.invariant.back (rest_further l r c.args.depth xs ys i (i + 1) next a b k);
    }

pub tys_may_unify-returns : goal.tys_may_unify-returns
tys_may_unify-returns g t c =
    let m = g.I.Interner.meaning c.args.cx.now in
    let f = m.ty in
    let xs = list_tree f c.args.left.now in
    let ys = list_tree f c.args.right.now in
    let i = c.loop-i.i in
    let test = c.loop-i-test.false in
    let end = (c.loop-i.auto).i-end in
    let at = list_count f c.args.left.now in
    let also = list_count f c.args.right.now in
    let either : (i ≡ count xs) ⊎ (i ≡ count ys) = shorter i (count xs) (count ys) (omega (arith, test, end, at, also)) in
    passes (λ k. rest_none c.args.sides.left c.args.sides.right c.args.depth xs ys i (list_is f c.args.left.now)
    (list_is f c.args.right.now) either (c.loop-i.invariant.on k))

-- Arguments.
pub arg_may_unify-returns-in_default : goal.arg_may_unify-returns-in_default
arg_may_unify-returns-in_default g t c =
    let m = g.I.Interner.meaning c.args.cx.now in
    let k = subst (λ x. IsTrue (known (arg_tree m x))) c.in-Ty.is c.requires.left_known in
    let is = ap (λ x. tree_sort (arg_tree m x)) c.in-Ty.is
    ∙ type_term (m.ty c.in-Ty.lhs) ((g.met.I.Interner.sorted c.args.cx.now).ty c.in-Ty.lhs k) in
    passes (λ z. other_than_ty m (λ r h. region_term (m.region r) ((g.met.I.Interner.sorted c.args.cx.now).region r h))
    (λ n h. const_term (m.const_ n) ((g.met.I.Interner.sorted c.args.cx.now).const_ n h)) c.args.right.now c.requires.right_known
    c.in_default.not-Ty (type_pair z is))

pub arg_may_unify-types_may_unify-requires : goal.arg_may_unify-types_may_unify-requires
arg_may_unify-types_may_unify-requires g t' c κs within =
    let m = g.I.Interner.meaning c.args.cx.now in
    let x = m.ty c.in-Ty.lhs in
    let d = c.decreases in
    let is : size (arg_tree m c.args.left.now) ≡ size x = ap (λ p. size (arg_tree m p)) c.in-Ty.is in
    let small : 3 * size x + 1 < 3 * size (arg_tree m c.args.left.now) + 2 = omega (arith, is) in
    let k : IsTrue (known x) = subst (λ p. IsTrue (known (arg_tree m p))) c.in-Ty.is c.requires.left_known in
    let n : IsTrue (known (m.ty c.in-Ty-right.rhs)) =
    subst (λ p. IsTrue (known (arg_tree m p))) c.in-Ty-right.is c.requires.right_known in
    search rules

pub arg_may_unify-returns-in-Ty-right : goal.arg_may_unify-returns-in-Ty-right
arg_may_unify-returns-in-Ty-right g t c =
    let m = g.I.Interner.meaning c.args.cx.now in
    moved c.args.sides.left c.args.sides.right c.types_may_unify.result refl (sym (ap (arg_tree m) c.in-Ty.is))
    (sym (ap (arg_tree m) c.in-Ty-right.is)) c.types_may_unify.ensures

pub arg_may_unify-returns-in_default-right : goal.arg_may_unify-returns-in_default-right
arg_may_unify-returns-in_default-right g t c =
    let m = g.I.Interner.meaning c.args.cx.now in
    let k = subst (λ x. IsTrue (known (arg_tree m x))) c.in-Const.is c.requires.left_known in
    let is = ap (λ x. tree_sort (arg_tree m x)) c.in-Const.is
    ∙ const_term (m.const_ c.in-Const.lhs) ((g.met.I.Interner.sorted c.args.cx.now).const_ c.in-Const.lhs k) in
    passes (λ z. other_than_const m (λ r h. region_term (m.region r) ((g.met.I.Interner.sorted c.args.cx.now).region r h))
    (λ n h. type_term (m.ty n) ((g.met.I.Interner.sorted c.args.cx.now).ty n h)) c.args.right.now c.requires.right_known
    c.in_default-right.not-Const (const_pair z refl is))

pub arg_may_unify-consts_may_unify-requires-clause-lhs_known : goal.arg_may_unify-consts_may_unify-requires-clause-lhs_known
arg_may_unify-consts_may_unify-requires-clause-lhs_known g t c =
    let m = g.I.Interner.meaning c.args.cx.now in
    subst (λ p. IsTrue (known (arg_tree m p))) c.in-Const.is c.requires.left_known

pub arg_may_unify-consts_may_unify-requires-clause-rhs_known : goal.arg_may_unify-consts_may_unify-requires-clause-rhs_known
arg_may_unify-consts_may_unify-requires-clause-rhs_known g t c =
    let m = g.I.Interner.meaning c.args.cx.now in
    subst (λ p. IsTrue (known (arg_tree m p))) c.in-Const-right.is c.requires.right_known

pub arg_may_unify-returns-in-Const-right : goal.arg_may_unify-returns-in-Const-right
arg_may_unify-returns-in-Const-right g t c =
    let m = g.I.Interner.meaning c.args.cx.now in
    moved c.args.sides.left c.args.sides.right c.consts_may_unify.result refl (sym (ap (arg_tree m) c.in-Const.is))
    (sym (ap (arg_tree m) c.in-Const-right.is)) c.consts_may_unify.ensures

pub arg_may_unify-returns-in-Lifetime : goal.arg_may_unify-returns-in-Lifetime
arg_may_unify-returns-in-Lifetime g t c =
    let m = g.I.Interner.meaning c.args.cx.now in
    let k = subst (λ x. IsTrue (known (arg_tree m x))) c.in-Lifetime.is c.requires.left_known in
    let is = ap (λ x. tree_sort (arg_tree m x)) c.in-Lifetime.is
    ∙ region_term (m.region c.in-Lifetime.field-0) ((g.met.I.Interner.sorted c.args.cx.now).region c.in-Lifetime.field-0 k) in
    passes (λ z. quiet_clash z (ap is_quiet is))

pub args_may_unify-loop-i-init : goal.args_may_unify-loop-i-init
args_may_unify-loop-i-init g t c = record { on = λ k. k; back = λ k. k }

pub args_may_unify-arg_may_unify-requires : goal.args_may_unify-arg_may_unify-requires
args_may_unify-arg_may_unify-requires g t' c κs within =
    let m = g.I.Interner.meaning c.args.cx.now in
    let f = arg_tree m in
    let xs = list_tree f c.args.left.now in
    let ys = list_tree f c.args.right.now in
    let i = c.loop-i.i in
    let x = c.index-left-i.result in
    let y = c.index-right-i.result in
    let test = c.loop-i-test.true in
    let at = list_count f c.args.left.now in
    let also = list_count f c.args.right.now in
    let below : i < count xs = omega (arith, test, at) in
    let under : i < count ys = omega (arith, test, also) in
    let d = c.decreases in
    let less = member_small xs i below in
    let is : size (f x) ≡ size (nth i xs) = ap size (slice_nth f c.args.left.now xs refl i x x below c.index-left-i.is) in
    let small : 3 * size (f x) + 2 < 3 * size xs = omega (arith, less, is) in
    let k = slice_sure f c.args.left.now xs refl c.requires.left_known i x x below c.index-left-i.is in
    let n = slice_sure f c.args.right.now ys refl c.requires.right_known i y y under c.index-right-i.is in
    search rules

pub args_may_unify-returns-then-not-arg_may_unify : goal.args_may_unify-returns-then-not-arg_may_unify
args_may_unify-returns-then-not-arg_may_unify g t c =
    let m = g.I.Interner.meaning c.args.cx.now in
    let f = arg_tree m in
    let xs = list_tree f c.args.left.now in
    let ys = list_tree f c.args.right.now in
    let i = c.loop-i.i in
    let x = c.index-left-i.result in
    let y = c.index-right-i.result in
    let test = c.loop-i-test.true in
    let at = list_count f c.args.left.now in
    let also = list_count f c.args.right.now in
    let a : i < count xs = omega (arith, test, at) in
    let b : i < count ys = omega (arith, test, also) in
    let no : c.arg_may_unify.result ≡ false = (let n = c.if-not-arg_may_unify.true in search rules) in
    fails (c.loop-i.invariant.back (rest_here c.args.sides.left c.args.sides.right c.args.depth xs ys i (f x) (f y) a b
    (slice_nth f c.args.left.now xs refl i x x a c.index-left-i.is)
    (slice_nth f c.args.right.now ys refl i y y b c.index-right-i.is) (c.arg_may_unify.ensures.0 no)))

pub args_may_unify-loop-i-preserved : goal.args_may_unify-loop-i-preserved
args_may_unify-loop-i-preserved g t c =
    let m = g.I.Interner.meaning c.args.cx.now in
    let f = arg_tree m in
    let l = c.args.sides.left in
    let r = c.args.sides.right in
    let xs = list_tree f c.args.left.now in
    let ys = list_tree f c.args.right.now in
    let i = c.loop-i.i in
    let x = c.index-left-i.result in
    let y = c.index-right-i.result in
    let test = c.loop-i-test.true in
    let at = list_count f c.args.left.now in
    let also = list_count f c.args.right.now in
    let a : i < count xs = omega (arith, test, at) in
    let b : i < count ys = omega (arith, test, also) in
    let next : i + 1 ≡ suc i = omega arith in
    let none : Clash l r c.args.depth (f x) (f y) → ⊥ =
    (λ k. (let no = c.arg_may_unify.ensures.1 k in let n = c.if-not-arg_may_unify.false in search rules)) in
    record {
      on = λ k. rest_on l r c.args.depth xs ys i (i + 1) (f x) (f y) next a b
          (slice_nth f c.args.left.now xs refl i x x a c.index-left-i.is)
          (slice_nth f c.args.right.now ys refl i y y b c.index-right-i.is) none (c.loop-i.invariant.on k);
      back = λ k. c.loop-i.invariant.back (rest_further l r c.args.depth xs ys i (i + 1) next a b k);
    }

pub args_may_unify-returns : goal.args_may_unify-returns
args_may_unify-returns g t c =
    let m = g.I.Interner.meaning c.args.cx.now in
    let f = arg_tree m in
    let xs = list_tree f c.args.left.now in
    let ys = list_tree f c.args.right.now in
    let i = c.loop-i.i in
    let test = c.loop-i-test.false in
    let end = (c.loop-i.auto).i-end in
    let at = list_count f c.args.left.now in
    let also = list_count f c.args.right.now in
    let either : (i ≡ count xs) ⊎ (i ≡ count ys) = shorter i (count xs) (count ys) (omega (arith, test, end, at, also)) in
    passes (λ k. rest_none c.args.sides.left c.args.sides.right c.args.depth xs ys i (list_is f c.args.left.now)
    (list_is f c.args.right.now) either (c.loop-i.invariant.on k))
