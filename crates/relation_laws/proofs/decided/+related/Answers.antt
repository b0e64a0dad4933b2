use Rattle.std.proofs.Common.{◌≡◌, ◌↔◌, ◌∙◌, suc, sym, refl, subst, subst₂, true, arith}
use Rattle.relation_semantics.specs.Relation.{Rel, at, parts, part_at, anything, no_parts}
use Rattle.relation_laws.specs.Decided.{small_tree, small_parts, all_declare, head_of, leaf_of}
use Rattle.relation_laws.proofs.Deciding.{iff_through, iff_both, error_left_iff, error_right_iff, forms_iff, parts_iff, place, small_list}
use Rattle.relation_laws.proofs.decided.+related.Goals as goal

pub parts_related-returns-in-End-End : goal.parts_related-returns-in-End-End
parts_related-returns-in-End-End t c w e j o p = subst₂ (λ x y. true ≡ true ↔ Rel (all_declare c.args.declared.now) w e (parts (head_of c.args.head) j c.args.v) (small_parts x) (small_parts y)) (sym c.in-End-End.is-0) (sym c.in-End-End.is-1) (λ _. no_parts, λ _. refl)

pub parts_related-returns-in-Next-Next : goal.parts_related-returns-in-Next-Next
parts_related-returns-in-Next-Next t c w e j o p = subst₂ (λ x y. c.both.result ≡ true ↔ Rel (all_declare c.args.declared.now) w e (parts (head_of c.args.head) j c.args.v) (small_parts x) (small_parts y)) (sym c.in-Next-Next.is-0) (sym c.in-Next-Next.is-1)
    (iff_through c.both.ensures (iff_through (iff_both first rest) (parts_iff (all_declare c.args.declared.now) w e (head_of c.args.head) j c.args.v _ _ _ _)))
  where
    first : c.related-first.result ≡ true ↔ Rel (all_declare c.args.declared.now) w e (at (part_at (all_declare c.args.declared.now) (head_of c.args.head) j c.args.v)) (small_tree c.in-Next-Next.x.value) (small_tree c.in-Next-Next.y.value)
    first = subst₂ (λ x y. c.related-first.result ≡ true ↔ Rel (all_declare c.args.declared.now) w e (at (part_at (all_declare c.args.declared.now) (head_of c.args.head) j c.args.v)) (small_tree x) (small_tree y)) c.deref.ensures c.deref-in-Next-Next.ensures
        (subst (λ u. c.related-first.result ≡ true ↔ Rel (all_declare c.args.declared.now) w e (at u) (small_tree c.deref.result.now) (small_tree c.deref-in-Next-Next.result.now)) (c.part_variance-u.ensures ∙ place c.args.declared.now c.args.head c.args.i j c.args.v p) (c.related-first.ensures w e o))

    rest : c.parts_related.result ≡ true ↔ Rel (all_declare c.args.declared.now) w e (parts (head_of c.args.head) (suc j) c.args.v) (small_parts c.in-Next-Next.xs.value) (small_parts c.in-Next-Next.ys.value)
    rest = subst₂ (λ x y. c.parts_related.result ≡ true ↔ Rel (all_declare c.args.declared.now) w e (parts (head_of c.args.head) (suc j) c.args.v) (small_parts x) (small_parts y)) c.deref-in-Next-Next-2.ensures c.deref-in-Next-Next-3.ensures
        (c.parts_related.ensures w e (suc j) o (let q = c.next_place-i.ensures j p in omega (arith, q)))

pub related-returns-in-Bivariant : goal.related-returns-in-Bivariant
related-returns-in-Bivariant t c w e o = (λ _. anything c.in-Bivariant.is, λ _. refl)

pub related-returns-in-Simple-Form : goal.related-returns-in-Simple-Form
related-returns-in-Simple-Form t c w e o = subst₂ (λ x y. c.error_related.result ≡ true ↔ Rel (all_declare c.args.declared.now) w e (at c.args.v) (small_tree x) (small_tree y)) (sym c.in-Simple-Form.is-0) (sym c.in-Simple-Form.is-1)
    (iff_through c.error_related.ensures (error_left_iff (all_declare c.args.declared.now) w e c.args.v (leaf_of c.in-Simple-Form.x) c.in-Simple-Form.h _ c.in_default.not-Bivariant))

pub related-returns-in-Form-Simple : goal.related-returns-in-Form-Simple
related-returns-in-Form-Simple t c w e o = subst₂ (λ x y. c.error_related-in-Form-Simple.result ≡ true ↔ Rel (all_declare c.args.declared.now) w e (at c.args.v) (small_tree x) (small_tree y)) (sym c.in-Form-Simple.is-0) (sym c.in-Form-Simple.is-1)
    (iff_through c.error_related-in-Form-Simple.ensures (error_right_iff (all_declare c.args.declared.now) w e c.args.v (leaf_of c.in-Form-Simple.y) c.in-Form-Simple.h _ c.in_default.not-Bivariant))

pub related-returns-in-Form-Form : goal.related-returns-in-Form-Form
related-returns-in-Form-Form t c w e o = subst₂ (λ x y. c.both.result ≡ true ↔ Rel (all_declare c.args.declared.now) w e (at c.args.v) (small_tree x) (small_tree y)) (sym c.in-Form-Form.is-0) (sym c.in-Form-Form.is-1)
    (iff_through c.both.ensures (iff_through (iff_both c.same_head.ensures rest) (forms_iff (all_declare c.args.declared.now) w e c.args.v c.in-Form-Form.h c.in-Form-Form.k _ _ c.in_default.not-Bivariant (small_list c.in-Form-Form.xs.value))))
  where
    rest : c.parts_related-parts.result ≡ true ↔ Rel (all_declare c.args.declared.now) w e (parts (head_of c.in-Form-Form.h) 0 c.args.v) (small_parts c.in-Form-Form.xs.value) (small_parts c.in-Form-Form.ys.value)
    rest = subst₂ (λ x y. c.parts_related-parts.result ≡ true ↔ Rel (all_declare c.args.declared.now) w e (parts (head_of c.in-Form-Form.h) 0 c.args.v) (small_parts x) (small_parts y)) c.deref.ensures c.deref-in-Form-Form.ensures
        (c.parts_related-parts.ensures w e 0 o (omega arith))
