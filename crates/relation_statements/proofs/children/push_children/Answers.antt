use Rattle.std.proofs.Common.{◌≡◌, ◌∙◌, [], sym, subst, IsTrue}
use Rattle.relation_terms.specs.Trees.{known}
use Rattle.relation_terms.proofs.Stays.{stays_same}
use Rattle.relation_statements.specs.Children.{children, mode_of}
use Rattle.relation_statements.specs.Statements.{statements}
use Rattle.relation_statements.proofs.Making.{no_clause, other_kinds}
use Rattle.elaboration_worklist.proofs.Worklists.{pushed_empty}
use Rattle.relation_statements.proofs.children.push_children.Goals as goal

pub returns-in_default : goal.returns-in_default
returns-in_default g c =
    let m = g.I.Interner.meaning c.args.cx.now in
    let s = statements m in
    let mode = mode_of c.args.mode.0 c.args.mode.1 in
    let p = c.predicate-predicate.result in
    let is = c.predicate-predicate.ensures in
    pushed_empty g.O.HasTree.tree g.O.HasTree.stays m (stays_same m)
    (children s mode (g.O.HasTree.tree m c.args.obligation.now)) c.args.list.now tt
    (subst (λ t. [] ≡ children s mode t) is
    (no_clause s mode (m.predicate p)
    ((g.met.I.Interner.sorted c.args.cx.now).predicate p (subst (λ t. IsTrue (known t)) (sym is) c.requires.known))
    c.in_default.ensures)) c.requires.kept

pub returns-in_default-value : goal.returns-in_default-value
returns-in_default-value g c =
    let m = g.I.Interner.meaning c.args.cx.now in
    let s = statements m in
    let mode = mode_of c.args.mode.0 c.args.mode.1 in
    let form = c.clause_kind-value.result in
    pushed_empty g.O.HasTree.tree g.O.HasTree.stays m (stays_same m)
    (children s mode (g.O.HasTree.tree m c.args.obligation.now)) c.args.list.now tt
    (subst (λ t. [] ≡ children s mode t)
    (sym c.clause_kind-value.ensures ∙ c.in-Some.ensures ∙ c.predicate-predicate.ensures)
    (other_kinds m s mode form.bound_vars form.value c.in_default-value.not-Trait c.in_default-value.not-HostEffect
    c.in_default-value.not-TypeOutlives)) c.requires.kept
