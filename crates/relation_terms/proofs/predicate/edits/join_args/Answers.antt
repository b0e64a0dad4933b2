use Rattle.std.proofs.Common.{ap, ◌∙◌}
use Rattle.relation_terms.specs.Trees.{list_tree}
use Rattle.relation_terms.specs.Meaning.{arg_tree}
use Rattle.relation_terms.specs.Edits.{put_before, behind_first}
use Rattle.relation_terms.proofs.Stays.{knows_as}
use Rattle.relation_terms.proofs.Edits.{known_before, known_behind}
use Rattle.relation_terms.proofs.predicate.edits.join_args.Goals as goal

pub mk_args-requires : goal.mk_args-requires
mk_args-requires g c =
    let m = g.I.Interner.meaning c.args.cx.now in
    let us = list_tree (arg_tree m) c.args.given.items in
    let ts = m.args c.args.args.now in
    let n = c.args.skipped in
    knows_as (put_before us (behind_first n ts)) (list_tree (arg_tree m) c.deref.result.now)
    (ap (list_tree (arg_tree m)) c.deref.ensures.value ∙ c.in_ok-list.ensures)
    (known_before us (behind_first n ts) c.requires.given_known (known_behind n ts c.requires.args_known))
