use Rattle.std.proofs.Common.{IsTrue, sym, subst}
use Rattle.relation_terms.specs.Trees.{known, list_tree}
use Rattle.relation_terms.specs.Meaning.{arg_tree}
use Rattle.text_terms.proofs.Parts.{known_part}
use Rattle.text_asking.proofs.visiting.write_met.Goals as goal

pub write_arg-requires : goal.write_arg-requires
write_arg-requires g c =
    let tree = arg_tree (g.I.Interner.meaning c.args.cx.now) in
    let terms = c.deref-term-items.result.now in
    let all = subst (λ xs. IsTrue (known (list_tree tree xs))) (sym c.deref-term-items.ensures.value) c.requires in
    subst (λ x. IsTrue (known (tree x))) (sym c.term-item.is)
    (known_part tree terms c.loop-place.place c.term-item.result c.loop-place-test.true all)
