use Rattle.std.proofs.Common.{ap, ◌∙◌}
use Rattle.relation_terms.specs.Trees.{list_tree}
use Rattle.relation_terms.specs.Meaning.{arg_tree}
use Rattle.relation_terms.specs.Edits.{first_of}
use Rattle.relation_terms.proofs.Stays.{knows_as}
use Rattle.relation_terms.proofs.Edits.{known_first}
use Rattle.relation_terms.proofs.predicate.edits.first_args.Goals as goal

pub mk_args-requires : goal.mk_args-requires
mk_args-requires g c =
    let m = g.I.Interner.meaning c.args.cx.now in
    let ts = m.args c.args.args.now in
    knows_as (first_of c.args.count ts) (list_tree (arg_tree m) c.deref.result.now)
    (ap (list_tree (arg_tree m)) c.deref.ensures.value ∙ c.in_ok-list.ensures)
    (known_first c.args.count ts c.requires)
