use Rattle.std.proofs.Common.{refl, sym, ap, ◌∙◌}
use Rattle.relation_terms.specs.Heads.{type_var}
use Rattle.variable_tables.specs.Variables.{entry_of_value}
use Rattle.variable_tables.specs.Tables.{store_of}
use Rattle.relation_reference.proofs.Reading.{entry_is}
use Rattle.relation_reference.proofs.context.variables.RefCtxt.binding.Goals as goal

pub unreachable-requires : goal.unreachable-requires
unreachable-requires g c =
    let m = g.I.Interner.meaning c.args.self.now.interner in
    let x = c.args.self.now.inner in
    c.root_ty_var-root.ensures.root _ (entry_is m.ty x.types.items (store_of m x) type_var refl c.root_ty_var-root.result.0
    ∙ ap (entry_of_value m.ty) (sym c.in-SameAs.ensures))

pub returns-in-Known-clause-bound : goal.returns-in-Known-clause-bound
returns-in-Known-clause-bound g c =
    let m = g.I.Interner.meaning c.args.self.now.interner in
    let x = c.args.self.now.inner in (
      c.root_ty_var-root.result.0,
      c.root_ty_var-root.ensures.leads,
      entry_is m.ty x.types.items (store_of m x) type_var refl c.root_ty_var-root.result.0 ∙ ap (entry_of_value m.ty) (sym c.in-Known.ensures),
    )

pub returns-in-Unknown-clause-unbound : goal.returns-in-Unknown-clause-unbound
returns-in-Unknown-clause-unbound g c =
    let m = g.I.Interner.meaning c.args.self.now.interner in
    let x = c.args.self.now.inner in (
      c.root_ty_var-root.result.0,
      c.root_ty_var-root.ensures.leads,
      entry_is m.ty x.types.items (store_of m x) type_var refl c.root_ty_var-root.result.0 ∙ ap (entry_of_value m.ty) (sym c.in-Unknown.ensures),
    )
