use Rattle.std.proofs.Common.{sym, ap, ◌∙◌}
use Rattle.std.proofs.lemmas.Bool.{false≢true, eqb-true, eq-eqb}
use Rattle.relation_terms.specs.Meaning.{valtree_tree}
use Rattle.relation_terms.specs.Trees.{count}
use Rattle.relation_semantics.specs.Errors.{as_many_branches}
use Rattle.relation_recursion.proofs.Compared.{branches_counted}
use Rattle.relation_terms.proofs.Members.{list_count}
use Rattle.relation_recursion.proofs.comparing.is_one_value.Goals as goal

pub returns-clause-one : goal.returns-clause-one
returns-clause-one g c =
    let m = g.I.Interner.meaning c.args.cx.now in
    λ t. as_many_branches (c.valtree_kind.ensures ∙ ap (valtree_tree m) c.in-Branch.is) (c.valtree_kind-2.ensures ∙ ap (valtree_tree m) c.in-Branch-valtree_kind.is)
    (ap count c.branches.ensures ∙ list_count m.const_ c.branches.result.now ∙ eqb-true _ _ t ∙ sym (ap count c.branches-2.ensures ∙ list_count m.const_ c.branches-2.result.now))

pub returns-clause-unlike : goal.returns-clause-unlike
returns-clause-unlike g c =
    let m = g.I.Interner.meaning c.args.cx.now in
    λ f h. absurd (false≢true (sym f ∙ eq-eqb _ _ (sym (ap count c.branches.ensures ∙ list_count m.const_ c.branches.result.now)
    ∙ branches_counted (m.valtree c.args.a.now) (m.valtree c.args.b.now) (m.branches c.in-Branch.branches) (m.branches c.in-Branch-valtree_kind.other)
    (c.valtree_kind.ensures ∙ ap (valtree_tree m) c.in-Branch.is) (c.valtree_kind-2.ensures ∙ ap (valtree_tree m) c.in-Branch-valtree_kind.is) h
    ∙ ap count c.branches-2.ensures ∙ list_count m.const_ c.branches-2.result.now)))
