use Rattle.std.proofs.Common.{IsTrue, sym, subst}
use Rattle.relation_terms.specs.Trees.{known}
use Rattle.relation_terms.specs.Meaning.{arg_tree}
use Rattle.text_terms.proofs.Parts.{known_part}
use Rattle.relation_rows.proofs.calls.writing.write_args.Goals as goal

pub write_arg-requires : goal.write_arg-requires
write_arg-requires g c =
    let tree = arg_tree (g.I.Interner.meaning c.args.cx.now) in
    subst (λ x. IsTrue (known (tree x))) (sym c.term-item.is)
    (known_part tree c.args.args.now c.loop-term.term-index c.term-item.result c.loop-term-test.true c.requires)
