use Rattle.std.proofs.Common.{subst}
use Rattle.relation_terms.specs.Meaning.{kind_tree}
use Rattle.relation_terms.specs.declared.terms.ty_kind.TyKind.TheVariants.{Alias as AliasForm}
use Rattle.component_parts.specs.Components.{inside_alias}
use Rattle.outlives.specs.Outliving.{AddsSome}
use Rattle.outlives.proofs.Outliving.{adds_none, appended_some, appended_all}
use Rattle.outlives.proofs.compute_alias_components_recursive.Goals as goal

pub returns-in_err-collect_alias_args-clause-some : goal.returns-in_err-collect_alias_args-clause-some
returns-in_err-collect_alias_args-clause-some g c =
    let m = g.I.Interner.meaning c.args.cx.now in
    adds_none m (inside_alias m.alias_variances (kind_tree m (AliasForm c.args.alias_ty.now))) c.args.out.now.items

pub returns-clause-some : goal.returns-clause-some
returns-clause-some g c =
    let m = g.I.Interner.meaning c.args.cx.now in
    let ts = inside_alias m.alias_variances (kind_tree m (AliasForm c.args.alias_ty.now)) in
    let list = c.collect_alias_args.new.out.items in
    appended_some m ts list c.args.out.now.items c.append.new.out.items c.append.result c.append.ensures.ok
    c.append.ensures.err
    (subst (λ z. AddsSome m ts z list) c.new-list.ensures.items c.in_ok-collect_alias_args.ensures.some)

pub returns-clause-all : goal.returns-clause-all
returns-clause-all g c =
    let m = g.I.Interner.meaning c.args.cx.now in
    appended_all m (inside_alias m.alias_variances (kind_tree m (AliasForm c.args.alias_ty.now)))
    c.collect_alias_args.new.out.items c.args.out.now.items c.append.new.out.items c.append.result c.append.ensures.ok
    c.in_ok-collect_alias_args.ensures.all
