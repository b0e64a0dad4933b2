use Rattle.std.proofs.Common.{ap, sym, ◌∙◌, ◌-◌, take, drop, length}
use Rattle.relation_terms.specs.Trees.{list_tree}
use Rattle.relation_terms.specs.Meaning.{arg_tree}
use Rattle.relation_terms.specs.Edits.{put_before, behind_first}
use Rattle.relation_terms.proofs.Edits.{list_before, list_rest, list_none, list_nothing_before}
use Rattle.relation_terms.proofs.predicate.edits.joined.Goals as goal
use Rattle.relation_terms.proofs.predicate.edits.joined.Goals.{then-skipped-list+in_ok-extend_from_slice, else-skipped-list}

pub returns : goal.returns
returns g c =
    let f = arg_tree (g.I.Interner.meaning c.args.cx.now) in
    let n = c.args.skipped in
    let xs = c.args-list.result.now in
    let ys = c.args.given.items in
    elim c.if-skipped-list.branch [
      | then-skipped-list+in_ok-extend_from_slice w ↦
          ap (λ v. list_tree f v.items) w.whole-is
          ∙ ap (list_tree f) w.in_ok-extend_from_slice.ensures.items
          ∙ list_before f ys (take (length xs - n) (drop n xs))
          ∙ ap (put_before (list_tree f ys)) (list_rest f n xs ∙ ap (behind_first n) (sym c.args-list.ensures))
      | else-skipped-list w ↦
          ap (λ v. list_tree f v.items) w.whole-is
          ∙ sym (list_nothing_before f ys)
          ∙ ap (put_before (list_tree f ys))
          (list_none f n xs w.if-skipped-list.false ∙ ap (behind_first n) (sym c.args-list.ensures))
    ]
