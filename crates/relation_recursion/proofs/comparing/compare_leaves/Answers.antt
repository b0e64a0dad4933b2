use Rattle.std.proofs.Common.{◌≡◌, ◌∙◌, sym, ap}
use Rattle.relation_terms.specs.Heads.{type_param}
use Rattle.relation_terms.specs.Meaning.{kind_tree}
use Rattle.relation_semantics.specs.Errors.{parameters}
use Rattle.relation_recursion.proofs.Compared.{unlike_leaf, unlike_param}
use Rattle.relation_recursion.proofs.comparing.compare_leaves.Goals as goal

pub returns-in_default-clause-errors : goal.returns-in_default-clause-errors
returns-in_default-clause-errors g c =
    let m = g.I.Interner.meaning c.args.cx.now in
    unlike_leaf m c.ty_kind-left.result c.args.a.now c.args.b.now c.unlike.result c.ty_kind-left.ensures
    c.requires.no_error c.requires.leaf c.requires.differ c.in_default.not-Param c.unlike.ensures

pub returns-in_default-right-clause-errors : goal.returns-in_default-right-clause-errors
returns-in_default-right-clause-errors g c =
    let m = g.I.Interner.meaning c.args.cx.now in
    let un = c.unlike-in_default-right in
    unlike_param m c.ty_kind-right.result c.args.a.now c.args.b.now un.result c.ty_kind-right.ensures un.ensures
    c.requires.no_error c.in-Param.parameter (c.ty_kind-left.ensures ∙ ap (kind_tree m) c.in-Param.is)
    (λ z e i. c.in_default-right.not-Param z e)

pub returns-then-parameter-other-clause-errors : goal.returns-then-parameter-other-clause-errors
returns-then-parameter-other-clause-errors g c =
    let m = g.I.Interner.meaning c.args.cx.now in
    let un = c.unlike-then-parameter-other in
    unlike_param m c.ty_kind-right.result c.args.a.now c.args.b.now un.result c.ty_kind-right.ensures un.ensures
    c.requires.no_error c.in-Param.parameter (c.ty_kind-left.ensures ∙ ap (kind_tree m) c.in-Param.is)
    (λ z e i. c.if-parameter-other.true (let h = sym e ∙ c.in-Param-right.is in
    let k : z.index ≡ c.in-Param-right.other.index = cc in i ∙ k))

pub returns-clause-alike : goal.returns-clause-alike
returns-clause-alike g c =
    let m = g.I.Interner.meaning c.args.cx.now in
    parameters (c.ty_kind-left.ensures ∙ ap (kind_tree m) c.in-Param.is)
    (c.ty_kind-right.ensures ∙ ap (kind_tree m) c.in-Param-right.is) (ap (λ i. type_param i 0) c.if-parameter-other.false)
