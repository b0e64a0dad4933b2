use Rattle.std.proofs.Common.{◌≡◌, ◌<◌, ◌∙◌, sym, ap, subst}
use Rattle.relation_terms.specs.Trees.{count, nth}
use Rattle.relation_terms.specs.Parts.{part_tree, parts_of}
use Rattle.part_variances.proofs.Patterns.{term_parts_as}
use Rattle.relation_recursion.proofs.reading.term_part_of.Goals as goal

pub part-requires-clause-in_bounds : goal.part-requires-clause-in_bounds
part-requires-clause-in_bounds g c =
    let x = c.args.term.now in
    let t = part_tree (g.R.HasState.state c.args.r.now).meaning x in
    subst (λ m. c.args.i < count (parts_of (part_tree m x))) (sym c.cx.ensures)
    (subst (λ z. c.args.i < count z) (sym (term_parts_as t c.requires.form)) c.requires.in_bounds)

pub returns-clause-means : goal.returns-clause-means
returns-clause-means g c =
    let x = c.args.term.now in
    let t = part_tree (g.R.HasState.state c.args.r.now).meaning x in
    subst (λ m. part_tree m c.part.result ≡ nth c.args.i (parts_of (part_tree m x))) c.cx.ensures c.part.ensures.means
    ∙ ap (nth c.args.i) (term_parts_as t c.requires.form)
