use Rattle.std.proofs.Common.{◌≡◌, ℕ, IfSome, IfNone, subst}
use Rattle.relation_terms.specs.Heads.{type_var, variable}
use Rattle.relation_terms.specs.Trees.{leaf}
use Rattle.relation_semantics.proofs.Variables.{some_variable, no_type_variable}
use Rattle.relation_combining.proofs.variables.ty_var.Goals as goal

pub returns : goal.returns
returns g c = record {
  is = subst (λ m. IfSome c.ty_vid.result (λ v. m.ty c.args.ty.now ≡ leaf (variable type_var v.0))) c.cx.ensures
      (some_variable (g.Infcx.Interner.Interner.meaning c.cx.result.now) c.ty_kind.result _ c.ty_kind.ensures c.ty_vid.result c.ty_vid.ensures.is);
  is_none = subst (λ m. IfNone c.ty_vid.result ((n : ℕ) → m.ty c.args.ty.now ≡ leaf (variable type_var n) → ⊥))
      c.cx.ensures (no_type_variable (g.Infcx.Interner.Interner.meaning c.cx.result.now) c.ty_kind.result _ c.ty_kind.ensures c.ty_vid.result c.ty_vid.ensures.is_none);
}
