use Rattle.std.proofs.Common.{◌≡◌, ◌<◌, ◌∙◌, sym, ap, subst, IsTrue}
use Rattle.relation_terms.specs.Heads.{argument_sort}
use Rattle.relation_terms.specs.Trees.{known, count, nth, IsTerm}
use Rattle.relation_terms.specs.Meaning.{arg_tree}
use Rattle.relation_terms.specs.Parts.{part_tree}
use Rattle.relation_terms.specs.Interning.{Sorted}
use Rattle.relation_terms.proofs.Parts.{arg_part}
use Rattle.relation_semantics.specs.Parts.{const_parts_of}
use Rattle.relation_recursion.proofs.AsParts.{const_argument, is_arg}
use Rattle.relation_recursion.proofs.reading.const_part_of.Goals as goal

pub part-requires-clause-in_bounds : goal.part-requires-clause-in_bounds
part-requires-clause-in_bounds g c =
    subst (λ z. c.args.i < count z) (sym c.related_part.ensures.parts)
    (subst (λ m. c.args.i < count (const_parts_of (m.const_ c.args.constant.now))) (sym c.cx-cx.ensures) c.requires.in_bounds)

pub expect_arg-requires : goal.expect_arg-requires
expect_arg-requires g c =
    let x = c.args.constant.now in
    let i = c.args.i in
    let e = sym c.cx-cx.ensures in
    let m = g.I.Interner.meaning c.cx-cx.result.now in
    let sorted : Sorted m = g.met.I.Interner.sorted c.cx-cx.result.now in
    let is = sorted.const_ x (subst (λ m. IsTrue (known (m.const_ x))) e c.requires.constant_known) in
    let at : part_tree m c.part.result ≡ nth i (const_parts_of (m.const_ x)) =
    c.part.ensures.means ∙ ap (nth i) c.related_part.ensures.parts in
    is_arg m sorted c.part.result c.part.ensures.sure (subst (IsTerm argument_sort) (sym at)
    (const_argument (m.const_ x) i (subst (λ m. i < count (const_parts_of (m.const_ x))) e c.requires.in_bounds) is))

pub returns : goal.returns
returns g c =
    let x = c.expect_arg.result in
    let m = g.I.Interner.meaning c.cx-cx.result.now in
    let same : arg_tree m x ≡ part_tree m c.part.result = sym (arg_part m x) ∙ ap (part_tree m) c.expect_arg.ensures in
    record {
      sure = subst (λ m. IsTrue (known (arg_tree m x))) c.cx-cx.ensures
          (subst (λ z. IsTrue (known z)) (sym same) c.part.ensures.sure);
      means = subst (λ m. arg_tree m x ≡ nth c.args.i (const_parts_of (m.const_ c.args.constant.now))) c.cx-cx.ensures
          (same ∙ c.part.ensures.means ∙ ap (nth c.args.i) c.related_part.ensures.parts);
    }
