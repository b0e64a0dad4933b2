use Rattle.std.proofs.Common.{◌≡◌, ◌+◌, suc, IsTrue, ap, ap₂, sym, ◌∙◌, subst, arith, take}
use Rattle.relation_terms.specs.Trees.{known, list_tree}
use Rattle.relation_terms.specs.Flags.{flags_of, flags_joined}
use Rattle.relation_terms.proofs.Flags.{flags_next}
use Rattle.relation_terms.proofs.Members.{item_known}
use Rattle.reference_interner.specs.Adding.{meaning_in}
use Rattle.reference_interner.proofs.flags.list_flags.Goals as goal

pub flags-requires : goal.flags-requires
flags-requires g c =
    let f = g.T.Flagged.tree (meaning_in c.args.cx.now) in
    let xs = c.args.list.now in
    subst (λ x. IsTrue (known (f x))) (sym c.member-item.is)
    (item_known f xs c.loop-member.member-index c.member-item.result c.loop-member-test.true c.requires)

pub loop-member-preserved : goal.loop-member-preserved
loop-member-preserved g c =
    let f = g.T.Flagged.tree (meaning_in c.args.cx.now) in
    let xs = c.args.list.now in
    let i = c.loop-member.member-index in
    let next : i + 1 ≡ suc i = omega arith in
    c.and-flags.ensures ∙
    ap₂ flags_joined c.loop-member.invariant (c.flags.ensures ∙ ap (λ x. flags_of (f x)) c.member-item.is) ∙
    sym (flags_next f xs i c.member-item.result c.loop-member-test.true) ∙
    ap (λ n. flags_of (list_tree f (take n xs))) (sym next)
