use Rattle.relation_terms.specs.Heads.{type_var, int_var, float_var, const_var, region_var}
use Rattle.text_asking.proofs.Counting.{none_lost}
use Rattle.text_asking.proofs.Universes.{one_made}
use Rattle.text_asking.proofs.context.make_variable.Goals as goal

pub returns-in_err-next_ty_infer-in-Ty-clause-kept : goal.returns-in_err-next_ty_infer-in-Ty-clause-kept
returns-in_err-next_ty_infer-in-Ty-clause-kept g c =
    none_lost (g.I.Interner.meaning c.args.ctx.now.interner) (g.I.Interner.meaning c.next_ty_infer.new.self.interner)
    c.args.ctx.now.inner c.next_ty_infer.new.self.inner c.next_ty_infer.ensures.later

pub returns-in_ok-next_ty_infer-in-Ty-clause-kept : goal.returns-in_ok-next_ty_infer-in-Ty-clause-kept
returns-in_ok-next_ty_infer-in-Ty-clause-kept g c =
    none_lost (g.I.Interner.meaning c.args.ctx.now.interner) (g.I.Interner.meaning c.next_ty_infer.new.self.interner)
    c.args.ctx.now.inner c.next_ty_infer.new.self.inner c.next_ty_infer.ensures.later

pub returns-in_err-next_int_var-in-Int-clause-kept : goal.returns-in_err-next_int_var-in-Int-clause-kept
returns-in_err-next_int_var-in-Int-clause-kept g c =
    none_lost (g.I.Interner.meaning c.args.ctx.now.interner) (g.I.Interner.meaning c.next_int_var.new.self.interner)
    c.args.ctx.now.inner c.next_int_var.new.self.inner c.next_int_var.ensures.later

pub returns-in_ok-next_int_var-in-Int-clause-kept : goal.returns-in_ok-next_int_var-in-Int-clause-kept
returns-in_ok-next_int_var-in-Int-clause-kept g c =
    none_lost (g.I.Interner.meaning c.args.ctx.now.interner) (g.I.Interner.meaning c.next_int_var.new.self.interner)
    c.args.ctx.now.inner c.next_int_var.new.self.inner c.next_int_var.ensures.later

pub returns-in_err-next_float_var-in-Float-clause-kept : goal.returns-in_err-next_float_var-in-Float-clause-kept
returns-in_err-next_float_var-in-Float-clause-kept g c =
    none_lost (g.I.Interner.meaning c.args.ctx.now.interner) (g.I.Interner.meaning c.next_float_var.new.self.interner)
    c.args.ctx.now.inner c.next_float_var.new.self.inner c.next_float_var.ensures.later

pub returns-in_ok-next_float_var-in-Float-clause-kept : goal.returns-in_ok-next_float_var-in-Float-clause-kept
returns-in_ok-next_float_var-in-Float-clause-kept g c =
    none_lost (g.I.Interner.meaning c.args.ctx.now.interner) (g.I.Interner.meaning c.next_float_var.new.self.interner)
    c.args.ctx.now.inner c.next_float_var.new.self.inner c.next_float_var.ensures.later

pub returns-in_err-next_const_infer-in-Const-clause-kept : goal.returns-in_err-next_const_infer-in-Const-clause-kept
returns-in_err-next_const_infer-in-Const-clause-kept g c =
    none_lost (g.I.Interner.meaning c.args.ctx.now.interner) (g.I.Interner.meaning c.next_const_infer.new.self.interner)
    c.args.ctx.now.inner c.next_const_infer.new.self.inner c.next_const_infer.ensures.later

pub returns-in_ok-next_const_infer-in-Const-clause-kept : goal.returns-in_ok-next_const_infer-in-Const-clause-kept
returns-in_ok-next_const_infer-in-Const-clause-kept g c =
    none_lost (g.I.Interner.meaning c.args.ctx.now.interner) (g.I.Interner.meaning c.next_const_infer.new.self.interner)
    c.args.ctx.now.inner c.next_const_infer.new.self.inner c.next_const_infer.ensures.later

pub returns-in_err-next_region_infer-in-Region-clause-kept : goal.returns-in_err-next_region_infer-in-Region-clause-kept
returns-in_err-next_region_infer-in-Region-clause-kept g c =
    none_lost (g.I.Interner.meaning c.args.ctx.now.interner) (g.I.Interner.meaning c.next_region_infer.new.self.interner)
    c.args.ctx.now.inner c.next_region_infer.new.self.inner c.next_region_infer.ensures.later

pub returns-in_ok-next_region_infer-in-Region-clause-kept : goal.returns-in_ok-next_region_infer-in-Region-clause-kept
returns-in_ok-next_region_infer-in-Region-clause-kept g c =
    none_lost (g.I.Interner.meaning c.args.ctx.now.interner) (g.I.Interner.meaning c.next_region_infer.new.self.interner)
    c.args.ctx.now.inner c.next_region_infer.new.self.inner c.next_region_infer.ensures.later

-- The current universe does not fall.
pub returns-in_err-next_ty_infer-in-Ty-clause-universe : goal.returns-in_err-next_ty_infer-in-Ty-clause-universe
returns-in_err-next_ty_infer-in-Ty-clause-universe g c = c.next_ty_infer.ensures.later.universe_stands

pub returns-in_ok-next_ty_infer-in-Ty-clause-universe : goal.returns-in_ok-next_ty_infer-in-Ty-clause-universe
returns-in_ok-next_ty_infer-in-Ty-clause-universe g c = c.next_ty_infer.ensures.later.universe_stands

pub returns-in_err-next_int_var-in-Int-clause-universe : goal.returns-in_err-next_int_var-in-Int-clause-universe
returns-in_err-next_int_var-in-Int-clause-universe g c = c.next_int_var.ensures.later.universe_stands

pub returns-in_ok-next_int_var-in-Int-clause-universe : goal.returns-in_ok-next_int_var-in-Int-clause-universe
returns-in_ok-next_int_var-in-Int-clause-universe g c = c.next_int_var.ensures.later.universe_stands

pub returns-in_err-next_float_var-in-Float-clause-universe : goal.returns-in_err-next_float_var-in-Float-clause-universe
returns-in_err-next_float_var-in-Float-clause-universe g c = c.next_float_var.ensures.later.universe_stands

pub returns-in_ok-next_float_var-in-Float-clause-universe : goal.returns-in_ok-next_float_var-in-Float-clause-universe
returns-in_ok-next_float_var-in-Float-clause-universe g c = c.next_float_var.ensures.later.universe_stands

pub returns-in_err-next_const_infer-in-Const-clause-universe : goal.returns-in_err-next_const_infer-in-Const-clause-universe
returns-in_err-next_const_infer-in-Const-clause-universe g c = c.next_const_infer.ensures.later.universe_stands

pub returns-in_ok-next_const_infer-in-Const-clause-universe : goal.returns-in_ok-next_const_infer-in-Const-clause-universe
returns-in_ok-next_const_infer-in-Const-clause-universe g c = c.next_const_infer.ensures.later.universe_stands

pub returns-in_err-next_region_infer-in-Region-clause-universe : goal.returns-in_err-next_region_infer-in-Region-clause-universe
returns-in_err-next_region_infer-in-Region-clause-universe g c = c.next_region_infer.ensures.later.universe_stands

pub returns-in_ok-next_region_infer-in-Region-clause-universe : goal.returns-in_ok-next_region_infer-in-Region-clause-universe
returns-in_ok-next_region_infer-in-Region-clause-universe g c = c.next_region_infer.ensures.later.universe_stands

-- One variable was made in that universe.
pub returns-in_ok-next_ty_infer-in-Ty-clause-makes : goal.returns-in_ok-next_ty_infer-in-Ty-clause-makes
returns-in_ok-next_ty_infer-in-Ty-clause-makes g c =
    one_made (g.I.Interner.meaning c.args.ctx.now.interner) (g.I.Interner.meaning c.next_ty_infer.new.self.interner)
    c.args.ctx.now.inner c.next_ty_infer.new.self.inner type_var _ (c.args.ctx.now.inner.universe).0 c.in_ok-next_ty_infer-in-Ty.ensures.makes

pub returns-in_ok-next_int_var-in-Int-clause-makes : goal.returns-in_ok-next_int_var-in-Int-clause-makes
returns-in_ok-next_int_var-in-Int-clause-makes g c =
    one_made (g.I.Interner.meaning c.args.ctx.now.interner) (g.I.Interner.meaning c.next_int_var.new.self.interner)
    c.args.ctx.now.inner c.next_int_var.new.self.inner int_var _ (c.args.ctx.now.inner.universe).0 c.in_ok-next_int_var-in-Int.ensures.makes

pub returns-in_ok-next_float_var-in-Float-clause-makes : goal.returns-in_ok-next_float_var-in-Float-clause-makes
returns-in_ok-next_float_var-in-Float-clause-makes g c =
    one_made (g.I.Interner.meaning c.args.ctx.now.interner) (g.I.Interner.meaning c.next_float_var.new.self.interner)
    c.args.ctx.now.inner c.next_float_var.new.self.inner float_var _ (c.args.ctx.now.inner.universe).0 c.in_ok-next_float_var-in-Float.ensures.makes

pub returns-in_ok-next_const_infer-in-Const-clause-makes : goal.returns-in_ok-next_const_infer-in-Const-clause-makes
returns-in_ok-next_const_infer-in-Const-clause-makes g c =
    one_made (g.I.Interner.meaning c.args.ctx.now.interner) (g.I.Interner.meaning c.next_const_infer.new.self.interner)
    c.args.ctx.now.inner c.next_const_infer.new.self.inner const_var _ (c.args.ctx.now.inner.universe).0 c.in_ok-next_const_infer-in-Const.ensures.makes

pub returns-in_ok-next_region_infer-in-Region-clause-makes : goal.returns-in_ok-next_region_infer-in-Region-clause-makes
returns-in_ok-next_region_infer-in-Region-clause-makes g c =
    one_made (g.I.Interner.meaning c.args.ctx.now.interner) (g.I.Interner.meaning c.next_region_infer.new.self.interner)
    c.args.ctx.now.inner c.next_region_infer.new.self.inner region_var _ (c.args.ctx.now.inner.universe).0 c.in_ok-next_region_infer-in-Region.ensures.makes
