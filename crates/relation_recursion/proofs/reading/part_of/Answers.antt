use Rattle.std.proofs.Common.{◌≡◌, ◌<◌, ◌∙◌, sym, ap, subst, IsTrue}
use Rattle.relation_terms.specs.Heads.{argument_sort}
use Rattle.relation_terms.specs.Trees.{known, count, nth, IsTerm}
use Rattle.relation_terms.specs.Meaning.{arg_tree}
use Rattle.relation_terms.specs.Parts.{part_tree}
use Rattle.relation_terms.specs.Interning.{Sorted}
use Rattle.relation_terms.proofs.Parts.{arg_part}
use Rattle.relation_semantics.specs.Parts.{IsByParts, direct_parts}
use Rattle.relation_recursion.proofs.AsParts.{ty_argument, is_arg}
use Rattle.relation_recursion.proofs.reading.part_of.Goals as goal

pub member-requires-clause-in_bounds : goal.member-requires-clause-in_bounds
member-requires-clause-in_bounds g c =
    subst (λ z. c.args.i < count z) (sym c.parts_in.ensures.means)
    (subst (λ m. c.args.i < count (direct_parts (m.ty c.args.ty.now))) (sym c.cx-cx.ensures) c.requires.in_bounds)

pub expect_arg-requires : goal.expect_arg-requires
expect_arg-requires g c =
    let x = c.args.ty.now in
    let i = c.args.i in
    let e = sym c.cx-cx.ensures in
    let m = g.I.Interner.meaning c.cx-cx.result.now in
    let sorted : Sorted m = g.met.I.Interner.sorted c.cx-cx.result.now in
    let is = sorted.ty x (subst (λ m. IsTrue (known (m.ty x))) e c.requires.ty_known) in
    let at : part_tree m c.member.result ≡ nth i (direct_parts (m.ty x)) =
    c.member.ensures.means ∙ ap (nth i) c.parts_in.ensures.means in
    is_arg m sorted c.member.result c.member.ensures.sure (subst (IsTerm argument_sort) (sym at)
    (ty_argument (m.ty x) i (subst (λ m. i < count (direct_parts (m.ty x))) e c.requires.in_bounds) is
    (subst (λ m. IsByParts (m.ty x) → ⊥) e c.requires.over_args)))

pub returns : goal.returns
returns g c =
    let x = c.expect_arg.result in
    let m = g.I.Interner.meaning c.cx-cx.result.now in
    let same : arg_tree m x ≡ part_tree m c.member.result = sym (arg_part m x) ∙ ap (part_tree m) c.expect_arg.ensures in
    record {
      sure = subst (λ m. IsTrue (known (arg_tree m x))) c.cx-cx.ensures
          (subst (λ z. IsTrue (known z)) (sym same) c.member.ensures.sure);
      means = subst (λ m. arg_tree m x ≡ nth c.args.i (direct_parts (m.ty c.args.ty.now))) c.cx-cx.ensures
          (same ∙ c.member.ensures.means ∙ ap (nth c.args.i) c.parts_in.ensures.means);
    }
