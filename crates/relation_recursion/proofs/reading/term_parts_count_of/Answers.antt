use Rattle.std.proofs.Common.{◌≡◌, ◌∙◌, ap, subst}
use Rattle.relation_terms.specs.Trees.{count}
use Rattle.relation_terms.specs.Parts.{part_tree, parts_of}
use Rattle.part_variances.proofs.Patterns.{term_parts_as}
use Rattle.relation_recursion.proofs.reading.term_parts_count_of.Goals as goal

pub returns : goal.returns
returns g c =
    let x = c.args.term.now in
    let t = part_tree (g.R.HasState.state c.args.r.now).meaning x in
    subst (λ m. c.parts_count.result ≡ count (parts_of (part_tree m x))) c.cx.ensures c.parts_count.ensures.counts
    ∙ ap count (term_parts_as t c.requires.form)
