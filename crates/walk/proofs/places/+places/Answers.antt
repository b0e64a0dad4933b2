use Rattle.std.proofs.Common.{rules, arith, refl, sym, ap, ◌∙◌, ◌≡◌, ◌<◌, ◌+◌, ◌-◌, ◌*◌, suc, subst, IsTrue, false, [], ◌∷◌}
use Rattle.relation_terms.specs.Heads.{or_pattern}
use Rattle.relation_terms.specs.Trees.{size, count, known, node}
use Rattle.relation_terms.specs.Meaning.{pattern_tree}
use Rattle.relation_terms.specs.Parts.{part_tree, parts_tree, parts_of, part_sort}
use Rattle.relation_terms.specs.declared.terms.generic_arg.GenericArgKind.TheVariants.{Lifetime}
use Rattle.relation_terms.specs.declared.terms.generic_arg.GenericArgKind.TheVariants.{Ty as TyArg, Const as ConstArg}
use Rattle.relation_terms.specs.Interning.{Sorted}
use Rattle.relation_terms.proofs.Members.{member_small, parts_small}
use Rattle.relation_terms.proofs.Parts.{sort_known}
use Rattle.relation_folds.specs.Visits.{visited_sort}
use Rattle.walk.specs.Places.{places}
use Rattle.walk.proofs.Placing.{pushes_none, pushes_one, pushes_as, part_itself, value_has_none, gone_through}
use Rattle.walk.proofs.Placing.{range_places, front_init, front_next, front_end, back_next, back_end}
use Rattle.walk.proofs.places.+places.Goals as goal

pub push_part-returns-in_ok-push-in-Region : goal.push_part-returns-in_ok-push-in-Region
push_part-returns-in_ok-push-in-Region g t' c =
    let m = g.I.Interner.meaning c.args.cx.now in
    let sorted : Sorted m = g.met.I.Interner.sorted c.args.cx.now in
    let p = c.args.part.now in
    let is = c.in-Region.is in
    pushes_one m _ _ (Lifetime c.in-Region.region) _ c.in_ok-push-in-Region.ensures.ok
    (part_itself m sorted p c.requires (ap (λ z. visited_sort (part_sort z)) is) ∙ ap (λ z. part_tree m z ∷ []) is)

pub push_part-returns-in_ok-push-in-Ty : goal.push_part-returns-in_ok-push-in-Ty
push_part-returns-in_ok-push-in-Ty g t' c =
    let m = g.I.Interner.meaning c.args.cx.now in
    let sorted : Sorted m = g.met.I.Interner.sorted c.args.cx.now in
    let p = c.args.part.now in
    let is = c.in-Ty.is in
    pushes_one m _ _ (TyArg c.in-Ty.ty) _ c.in_ok-push-in-Ty.ensures.ok
    (part_itself m sorted p c.requires (ap (λ z. visited_sort (part_sort z)) is) ∙ ap (λ z. part_tree m z ∷ []) is)

pub push_part-returns-in_ok-push-in-Const : goal.push_part-returns-in_ok-push-in-Const
push_part-returns-in_ok-push-in-Const g t' c =
    let m = g.I.Interner.meaning c.args.cx.now in
    let sorted : Sorted m = g.met.I.Interner.sorted c.args.cx.now in
    let p = c.args.part.now in
    let is = c.in-Const.is in
    pushes_one m _ _ (ConstArg c.in-Const.constant) _ c.in_ok-push-in-Const.ensures.ok
    (part_itself m sorted p c.requires (ap (λ z. visited_sort (part_sort z)) is) ∙ ap (λ z. part_tree m z ∷ []) is)

pub push_part-returns-in-ValTree : goal.push_part-returns-in-ValTree
push_part-returns-in-ValTree g t' c =
    let m = g.I.Interner.meaning c.args.cx.now in
    let sorted : Sorted m = g.met.I.Interner.sorted c.args.cx.now in
    let p = c.args.part.now in
    pushes_none m _ _ (value_has_none false (part_tree m p) (sort_known m sorted p c.requires ∙ ap part_sort c.in-ValTree.is))

pub push_part-push_pat-requires : goal.push_part-push_pat-requires
push_part-push_pat-requires g t' c κs within =
    let m = g.I.Interner.meaning c.args.cx.now in
    let d = c.decreases in
    let e = ap (part_tree m) c.in-Pat.is in
    let k = subst (λ z. IsTrue (known z)) e c.requires in
    let is : size (part_tree m c.args.part.now) ≡ size (m.pat c.in-Pat.pat) = ap size e in
    let small : 3 * size (m.pat c.in-Pat.pat) + 1 < 3 * size (part_tree m c.args.part.now) + 2 = omega (arith, is) in
    search rules

pub push_part-returns-in_ok-push_pat-in-Pat : goal.push_part-returns-in_ok-push_pat-in-Pat
push_part-returns-in_ok-push_pat-in-Pat g t' c =
    let m = g.I.Interner.meaning c.args.cx.now in
    pushes_as m _ _ _ _ (sym (ap (λ z. places false (part_tree m z)) c.in-Pat.is)) c.in_ok-push_pat-in-Pat.ensures

pub push_part-push_list-requires : goal.push_part-push_list-requires
push_part-push_list-requires g t' c κs within =
    let m = g.I.Interner.meaning c.args.cx.now in
    let t = part_tree m c.args.part.now in
    let ts = parts_tree m c.parts_of.result in
    let d = c.decreases in
    let less = parts_small t in
    let is : size ts ≡ size (parts_of t) = ap size c.parts_of.ensures.means in
    let small : 3 * size ts < 3 * size t + 2 = omega (arith, less, is) in
    let k = c.parts_of.ensures.sure in
    search rules

pub push_part-returns-in_ok-push_list-in_default : goal.push_part-returns-in_ok-push_list-in_default
push_part-returns-in_ok-push_list-in_default g t' c =
    let m = g.I.Interner.meaning c.args.cx.now in
    let d = c.in_default in
    pushes_as m _ _ _ _ (ap (places false) c.parts_of.ensures.means
    ∙ gone_through m c.args.part.now c.requires d.not-Region d.not-Ty d.not-Const d.not-ValTree d.not-Pat)
    c.in_ok-push_list-in_default.ensures

pub push_pat-push_back-requires : goal.push_pat-push_back-requires
push_pat-push_back-requires g t' c κs within =
    let m = g.I.Interner.meaning c.args.cx.now in
    let t = m.pat c.args.pat.now in
    let ts = m.alternatives c.in-Or.alternatives in
    let d = c.decreases in
    let e : t ≡ node or_pattern ts = c.pat_kind-kind.ensures ∙ ap (pattern_tree m) c.in-Or.is in
    let k : IsTrue (known ts) = subst (λ z. IsTrue (known z)) e c.requires in
    let is : size t ≡ suc (size ts) = ap size e in
    let small : 3 * size ts < 3 * size t + 1 = omega (arith, is) in
    search rules

pub push_pat-returns-in_ok-push_back-in-Or : goal.push_pat-returns-in_ok-push_back-in-Or
push_pat-returns-in_ok-push_back-in-Or g t' c =
    let m = g.I.Interner.meaning c.args.cx.now in
    let e = c.pat_kind-kind.ensures ∙ ap (pattern_tree m) c.in-Or.is in
    pushes_as m _ _ _ _ (sym (ap (places false) e)) c.in_ok-push_back-in-Or.ensures

pub push_pat-returns-in_ok-push-in-Range-2 : goal.push_pat-returns-in_ok-push-in-Range-2
push_pat-returns-in_ok-push-in-Range-2 g t' c =
    let m = g.I.Interner.meaning c.args.cx.now in
    let sorted : Sorted m = g.met.I.Interner.sorted c.args.cx.now in
    range_places m sorted (m.pat c.args.pat.now) c.in-Range.start c.in-Range.end
    (c.pat_kind-kind.ensures ∙ ap (pattern_tree m) c.in-Range.is) c.requires _ _ _ c.in_ok-push-in-Range.ensures.ok
    c.in_ok-push-in-Range-2.ensures.ok

pub push_pat-returns-in-NotNull : goal.push_pat-returns-in-NotNull
push_pat-returns-in-NotNull g t' c =
    let m = g.I.Interner.meaning c.args.cx.now in
    pushes_none m _ _ (ap (places false) (c.pat_kind-kind.ensures ∙ ap (pattern_tree m) c.in-NotNull.is))

pub push_list-loop-i-init : goal.push_list-loop-i-init
push_list-loop-i-init g t' c =
    let m = g.I.Interner.meaning c.args.cx.now in
    let counts = c.member_count-count.ensures in
    front_init m _ _ 0 (parts_tree m c.args.parts.now) counts.is_list counts.counts refl

pub push_list-member-requires-clause-in_bounds : goal.push_list-member-requires-clause-in_bounds
push_list-member-requires-clause-in_bounds g t' c =
    let n = c.member_count-count.result in
    let counted = c.member_count-count.ensures.counts in
    let test = c.loop-i-test.true in
    omega (arith, counted, test)

pub push_list-push_part-requires : goal.push_list-push_part-requires
push_list-push_part-requires g t' c κs within =
    let m = g.I.Interner.meaning c.args.cx.now in
    let ts = parts_tree m c.args.parts.now in
    let i = c.loop-i.i in
    let n = c.member_count-count.result in
    let counted = c.member_count-count.ensures.counts in
    let test = c.loop-i-test.true in
    let x = c.member.result in
    let below : n - 1 - i < count ts = omega (arith, counted, test) in
    let d = c.decreases in
    let less = member_small ts (n - 1 - i) below in
    let is : size (part_tree m x) ≡ size _ = ap size c.member.ensures.means in
    let small : 3 * size (part_tree m x) + 2 < 3 * size ts = omega (arith, less, is) in
    let k = c.member.ensures.sure in
    search rules

pub push_list-loop-i-preserved : goal.push_list-loop-i-preserved
push_list-loop-i-preserved g t' c =
    let m = g.I.Interner.meaning c.args.cx.now in
    let ts = parts_tree m c.args.parts.now in
    let i = c.loop-i.i in
    let n = c.member_count-count.result in
    let counted = c.member_count-count.ensures.counts in
    let test = c.loop-i-test.true in
    front_next m _ c.loop-i.stack _ n i (i + 1) ts (part_tree m c.member.result) counted (omega (arith, test)) refl
    c.member.ensures.means c.loop-i.invariant c.in_ok-push_part.ensures

pub push_list-returns : goal.push_list-returns
push_list-returns g t' c =
    let m = g.I.Interner.meaning c.args.cx.now in
    let ts = parts_tree m c.args.parts.now in
    let i = c.loop-i.i in
    let n = c.member_count-count.result in
    let counted = c.member_count-count.ensures.counts in
    let test = c.loop-i-test.false in
    let end = (c.loop-i.auto).i-end in
    front_end m _ _ n i ts (omega (arith, test, end)) c.loop-i.invariant

pub push_back-loop-i-init : goal.push_back-loop-i-init
push_back-loop-i-init g t' c =
    λ new p. p

pub push_back-push_part-requires : goal.push_back-push_part-requires
push_back-push_part-requires g t' c κs within =
    let m = g.I.Interner.meaning c.args.cx.now in
    let ts = parts_tree m c.args.parts.now in
    let i = c.loop-i.i in
    let counted = c.member_count-i-end.ensures.counts in
    let test = c.loop-i-test.true in
    let x = c.member.result in
    let below : i < count ts = omega (arith, counted, test) in
    let d = c.decreases in
    let less = member_small ts i below in
    let is : size (part_tree m x) ≡ size _ = ap size c.member.ensures.means in
    let small : 3 * size (part_tree m x) + 2 < 3 * size ts = omega (arith, less, is) in
    let k = c.member.ensures.sure in
    search rules

pub push_back-loop-i-preserved : goal.push_back-loop-i-preserved
push_back-loop-i-preserved g t' c =
    λ new p.
    let m = g.I.Interner.meaning c.args.cx.now in
    let ts = parts_tree m c.args.parts.now in
    let i = c.loop-i.i in
    let counted = c.member_count-i-end.ensures.counts in
    let test = c.loop-i-test.true in
    let below : i < count ts = omega (arith, counted, test) in
    let next : i + 1 ≡ suc i = omega arith in
    c.loop-i.invariant new
    (back_next m c.loop-i.stack _ new i (i + 1) ts (part_tree m c.member.result) below next c.member.ensures.means
    c.in_ok-push_part.ensures p)

pub push_back-returns : goal.push_back-returns
push_back-returns g t' c =
    let m = g.I.Interner.meaning c.args.cx.now in
    let ts = parts_tree m c.args.parts.now in
    let i = c.loop-i.i in
    let counted = c.member_count-i-end.ensures.counts in
    let test = c.loop-i-test.false in
    let end = (c.loop-i.auto).i-end in
    let all : i ≡ count ts = omega (arith, counted, test, end) in
    c.loop-i.invariant c.loop-i.stack (back_end m c.loop-i.stack i ts c.member_count-i-end.ensures.is_list all)
