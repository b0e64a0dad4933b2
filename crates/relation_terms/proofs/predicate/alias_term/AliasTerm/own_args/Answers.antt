use Rattle.std.proofs.Common.{length, ap, sym, ◌∙◌, arith}
use Rattle.relation_terms.specs.Meaning.{arg_tree}
use Rattle.relation_terms.specs.Edits.{behind_first}
use Rattle.relation_terms.specs.Aliases.{parent_count}
use Rattle.relation_terms.proofs.Edits.{list_rest, list_none}
use Rattle.relation_terms.proofs.predicate.alias_term.AliasTerm.own_args.Goals as goal

pub returns-then-list-count : goal.returns-then-list-count
returns-then-list-count g c =
    let m = g.I.Interner.meaning c.args.cx.now in
    let f = arg_tree m in
    let xs = c.args-list.result.now in
    let n = c.parent_count-count.result in
    list_rest f (length xs) xs ∙ sym (list_none f (length xs) xs (omega arith))
    ∙ list_none f n xs c.if-list-count.true ∙ ap (behind_first n) (sym c.args-list.ensures)
    ∙ ap (λ k. behind_first k (m.args c.args.self.now.args))
    (c.parent_count-count.ensures ∙ ap (parent_count m) c.expect_projection.ensures)

pub returns : goal.returns
returns g c =
    let m = g.I.Interner.meaning c.args.cx.now in
    let f = arg_tree m in
    let xs = c.args-list.result.now in
    let n = c.parent_count-count.result in
    list_rest f n xs ∙ ap (behind_first n) (sym c.args-list.ensures)
    ∙ ap (λ k. behind_first k (m.args c.args.self.now.args))
    (c.parent_count-count.ensures ∙ ap (parent_count m) c.expect_projection.ensures)
