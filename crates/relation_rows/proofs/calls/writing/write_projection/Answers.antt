use Rattle.std.proofs.Common.{IsTrue, sym, subst}
use Rattle.relation_terms.specs.Trees.{known}
use Rattle.relation_terms.specs.Aliases.{parent_count}
use Rattle.relation_terms.proofs.Edits.{known_behind}
use Rattle.relation_terms.proofs.Stays.{knows_args}
use Rattle.relation_rows.proofs.calls.writing.write_projection.Goals as goal

pub write_args-requires : goal.write_args-requires
write_args-requires g c =
    let m = g.I.Interner.meaning c.trait_ref.new.cx in
    let args = c.in_ok-args.args in
    subst (λ t. IsTrue (known t)) (sym c.own_args.ensures)
    (known_behind (parent_count m c.args.id) (m.args args)
    (knows_args c.trait_ref.ensures.grown args c.in_ok-args.ensures.sure))
