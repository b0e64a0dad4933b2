use Rattle.std.proofs.Common.{ap, sym, ◌∙◌, ◌++◌, take}
use Rattle.relation_terms.specs.Trees.{list_tree}
use Rattle.relation_terms.specs.Meaning.{arg_tree}
use Rattle.relation_terms.specs.Edits.{first_of}
use Rattle.relation_terms.proofs.Edits.{list_first, list_all}
use Rattle.relation_terms.proofs.predicate.edits.first_copied.Goals as goal
use Rattle.relation_terms.proofs.predicate.edits.first_copied.Goals.{then-count-list+in_ok-extend_from_slice, else-count-list+in_ok-extend_from_slice-2}

pub returns : goal.returns
returns g c =
    let f = arg_tree (g.I.Interner.meaning c.args.cx.now) in
    let n = c.args.count in
    let xs = c.args-list.result.now in
    elim c.if-count-list.branch [
      | then-count-list+in_ok-extend_from_slice w ↦
          ap (λ v. list_tree f v.items) w.kept-is
          ∙ ap (list_tree f) (w.in_ok-extend_from_slice.ensures.items
          ∙ ap (λ z. z ++ take n xs) c.new-kept.ensures.items)
          ∙ list_first f n xs ∙ ap (first_of n) (sym c.args-list.ensures)
      | else-count-list+in_ok-extend_from_slice-2 w ↦
          ap (λ v. list_tree f v.items) w.kept-is
          ∙ ap (list_tree f) (w.in_ok-extend_from_slice-2.ensures.items
          ∙ ap (λ z. z ++ xs) c.new-kept.ensures.items)
          ∙ list_all f n xs w.if-count-list.false ∙ ap (first_of n) (sym c.args-list.ensures)
    ]
