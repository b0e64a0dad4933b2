use Rattle.std.proofs.Common.{◌≡◌, ◌∙◌, ap, subst}
use Rattle.relation_terms.specs.Trees.{count, IsList}
use Rattle.relation_terms.specs.Parts.{part_tree, parts_of}
use Rattle.relation_semantics.specs.Parts.{const_parts_of}
use Rattle.relation_recursion.proofs.reading.const_parts_count_of.Goals as goal

pub returns : goal.returns
returns g c =
    let x = c.related_part.result in
    let is = subst (λ m. parts_of (part_tree m x) ≡ const_parts_of (m.const_ c.args.constant.now)) c.cx-cx.ensures
    c.related_part.ensures.parts in
    let counts = subst (λ m. c.parts_count.result ≡ count (parts_of (part_tree m x))) c.cx-cx.ensures
    c.parts_count.ensures.counts in
    let is_list = subst (λ m. IsList (parts_of (part_tree m x))) c.cx-cx.ensures c.parts_count.ensures.is_list in
    record { counts = counts ∙ ap count is; is_list = subst IsList is is_list }
