use Rattle.std.proofs.Common.{◌≡◌, IfSome, IfNone, IsTrue, sym, subst}
use Rattle.relation_terms.specs.Heads.{const_var, variable}
use Rattle.relation_terms.specs.Trees.{leaf, known}
use Rattle.relation_semantics.specs.Relation.{StaysWithin}
use Rattle.relation_semantics.specs.Parts.{IsFormedConst}
use Rattle.relation_semantics.proofs.Variables.{some_const_variable, no_const_variable}
use Rattle.relation_combining.proofs.variables.const_var.Goals as goal

pub returns : goal.returns
returns g c =
    let t = c.args.constant.now in
    record {
      is = subst (λ m. IfSome c.const_vid.result (λ v. m.const_ t ≡ leaf (variable const_var v.0))) c.cx.ensures
          (some_const_variable (g.Infcx.Interner.Interner.meaning c.cx.result.now) c.const_kind.result _ c.const_kind.ensures c.const_vid.result c.const_vid.ensures.is);
      formed = subst (λ m. IfNone c.const_vid.result (StaysWithin 0 (m.const_ t) → IsFormedConst (m.const_ t))) c.cx.ensures
          (no_const_variable (g.Infcx.Interner.Interner.meaning c.cx.result.now) c.const_kind.result _ c.const_kind.ensures
          ((g.met.Infcx.Interner.Interner.sorted c.cx.result.now).const_ t
          (subst (λ m. IsTrue (known (m.const_ t))) (sym c.cx.ensures) c.requires)) c.const_vid.result
          c.const_vid.ensures.is_none);
    }
