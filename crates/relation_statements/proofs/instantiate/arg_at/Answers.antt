use Rattle.std.proofs.Common.{◌∙◌, ap, sym, subst, IsTrue, IfSome}
use Rattle.std.specs.Prelude.{option_map}
use Rattle.relation_terms.specs.Trees.{known}
use Rattle.relation_terms.specs.Meaning.{arg_tree}
use Rattle.relation_statements.specs.Stated.{member}
use Rattle.relation_folds.proofs.Shifting.{known_at}
use Rattle.relation_statements.proofs.Instantiating.{member_list}
use Rattle.relation_statements.proofs.instantiate.arg_at.Goals as goal

pub returns-clause-is : goal.returns-clause-is
returns-clause-is g c =
    let m = g.I.Interner.meaning c.args.cx.now in
    ap (option_map (arg_tree m)) c.member_at.ensures ∙ member_list (arg_tree m) c.args-2.result.now c.args.index
    ∙ ap (λ t. member t c.args.index) (sym c.args-2.ensures)

pub returns-clause-sure : goal.returns-clause-sure
returns-clause-sure g c =
    let m = g.I.Interner.meaning c.args.cx.now in
    subst (λ o. IfSome o (λ a. IsTrue (known (arg_tree m a)))) (sym c.member_at.ensures)
    (known_at (arg_tree m) c.args-2.result.now c.args.index
    (subst (λ t. IsTrue (known t)) c.args-2.ensures c.requires))
