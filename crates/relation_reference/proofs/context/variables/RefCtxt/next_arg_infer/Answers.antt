use Rattle.std.proofs.Common.{ap, length}
use Rattle.relation_terms.specs.Heads.{type_var, region_var, const_var}
use Rattle.relation_terms.specs.Meaning.{bound_kind_of}
use Rattle.relation_semantics.specs.Binders.{variable_kind}
use Rattle.relation_reference.proofs.Making.{on_err}
use Rattle.relation_reference.proofs.Binders.{made_one}
use Rattle.relation_reference.proofs.context.variables.RefCtxt.next_arg_infer.Goals as goal

pub returns-in_err-ty-in-Ty-clause-refused : goal.returns-in_err-ty-in-Ty-clause-refused
returns-in_err-ty-in-Ty-clause-refused g c =
    on_err c.from_residual.result _ c.in_err-ty-in-Ty.ensures.refused

pub returns-in_ok-ty-in-Ty-clause-makes : goal.returns-in_ok-ty-in-Ty-clause-makes
returns-in_ok-ty-in-Ty-clause-makes g c =
    let m = g.I.Interner.meaning c.args.self.now.interner in
    let made = c.in_ok-ty-in-Ty.ensures in
    made_one _ type_var _ (length c.args.self.now.inner.types.items)
    (ap (λ v. variable_kind (bound_kind_of m v)) c.in-Ty.is)
    made.means made.makes

pub returns-in_err-region-in-Region-clause-refused : goal.returns-in_err-region-in-Region-clause-refused
returns-in_err-region-in-Region-clause-refused g c =
    on_err c.from_residual-in_err-region-in-Region.result _ c.in_err-region-in-Region.ensures.refused

pub returns-in_ok-region-in-Region-clause-makes : goal.returns-in_ok-region-in-Region-clause-makes
returns-in_ok-region-in-Region-clause-makes g c =
    let m = g.I.Interner.meaning c.args.self.now.interner in
    let made = c.in_ok-region-in-Region.ensures in
    made_one _ region_var _ (length c.args.self.now.inner.regions.items)
    (ap (λ v. variable_kind (bound_kind_of m v)) c.in-Region.is)
    made.means made.makes

pub returns-in_err-constant-in-Const-clause-refused : goal.returns-in_err-constant-in-Const-clause-refused
returns-in_err-constant-in-Const-clause-refused g c =
    on_err c.from_residual-in_err-constant-in-Const.result _ c.in_err-constant-in-Const.ensures.refused

pub returns-in_ok-constant-in-Const-clause-makes : goal.returns-in_ok-constant-in-Const-clause-makes
returns-in_ok-constant-in-Const-clause-makes g c =
    let m = g.I.Interner.meaning c.args.self.now.interner in
    let made = c.in_ok-constant-in-Const.ensures in
    made_one _ const_var _ (length c.args.self.now.inner.consts.items)
    (ap (λ v. variable_kind (bound_kind_of m v)) c.in-Const.is)
    made.means made.makes
