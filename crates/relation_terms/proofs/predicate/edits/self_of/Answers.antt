use Rattle.std.proofs.Common.{ap, sym, subst, ◌∙◌, ⊎_elim, IsTrue}
use Rattle.relation_terms.specs.Trees.{known}
use Rattle.relation_terms.specs.Meaning.{arg_tree}
use Rattle.relation_terms.specs.Parts.{tree_sort}
use Rattle.relation_terms.specs.Edits.{HasSelf}
use Rattle.relation_terms.proofs.Edits.{first_known, first_sort, no_region, no_const}
use Rattle.relation_terms.proofs.predicate.edits.self_of.Goals as goal

pub unreachable-requires : goal.unreachable-requires
unreachable-requires g c =
    let m = g.I.Interner.meaning c.args.cx.now in
    let all = g.met.I.Interner.sorted c.args.cx.now in
    let x = c.index-args-0.result in
    let xs = c.args-2.result.now in
    let h = subst HasSelf c.args-2.ensures c.requires.has_self in
    let k = first_known (arg_tree m) xs x x h c.index-args-0.is
    (subst (λ t. IsTrue (known t)) c.args-2.ensures c.requires.args_known) in
    let s = first_sort (arg_tree m) xs x x h c.index-args-0.is in
    ⊎_elim
    (λ r. no_region m all r.0 (subst (λ z. IsTrue (known (arg_tree m z))) r.1 k)
    (ap (λ z. tree_sort (arg_tree m z)) (sym r.1) ∙ s))
    (λ r. no_const m all r.0 (subst (λ z. IsTrue (known (arg_tree m z))) r.1 k)
    (ap (λ z. tree_sort (arg_tree m z)) (sym r.1) ∙ s))
    c.in-Lifetime.is
