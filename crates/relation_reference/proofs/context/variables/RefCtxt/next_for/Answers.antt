use Rattle.std.proofs.Common.{ap, length}
use Rattle.relation_terms.specs.Heads.{type_var, const_var, region_var}
use Rattle.occurs_check.specs.Fates.{new_kind}
use Rattle.relation_reference.proofs.Making.{on_err}
use Rattle.relation_terms.specs.Parts.{part_tree}
use Rattle.variable_tables.specs.Tables.{store_of}
use Rattle.variable_tables.proofs.Grows.{made_in_context}
use Rattle.relation_reference.proofs.Marking.{marks_kept, marks_still, marks_joined}
use Rattle.relation_reference.proofs.Making.{made_as}
use Rattle.relation_reference.proofs.context.variables.RefCtxt.next_for.Goals as goal

pub returns-in_err-next_related_ty_var-in-Ty-clause-refused : goal.returns-in_err-next_related_ty_var-in-Ty-clause-refused
returns-in_err-next_related_ty_var-in-Ty-clause-refused g c = on_err _ _ c.in_err-next_related_ty_var-in-Ty.ensures.refused

pub returns-in_ok-next_related_ty_var-in-Ty-clause-makes : goal.returns-in_ok-next_related_ty_var-in-Ty-clause-makes
returns-in_ok-next_related_ty_var-in-Ty-clause-makes g c = made_as _ _ _ _ _ type_var _ (ap new_kind c.in-Ty.is) c.in_ok-next_related_ty_var-in-Ty.ensures.makes c.in_ok-next_related_ty_var-in-Ty.ensures.means

pub returns-in_err-next_const_var_in-in-Const-clause-refused : goal.returns-in_err-next_const_var_in-in-Const-clause-refused
returns-in_err-next_const_var_in-in-Const-clause-refused g c = on_err _ _ c.in_err-next_const_var_in-in-Const.ensures.refused

pub returns-in_ok-next_const_var_in-in-Const-clause-makes : goal.returns-in_ok-next_const_var_in-in-Const-clause-makes
returns-in_ok-next_const_var_in-in-Const-clause-makes g c = made_as _ _ _ _ _ const_var _ (ap new_kind c.in-Const.is) c.in_ok-next_const_var_in-in-Const.ensures.makes c.in_ok-next_const_var_in-in-Const.ensures.means

pub returns-in_err-next_region_var_in-in-Region-clause-refused : goal.returns-in_err-next_region_var_in-in-Region-clause-refused
returns-in_err-next_region_var_in-in-Region-clause-refused g c = on_err _ _ c.in_err-next_region_var_in-in-Region.ensures.refused

pub returns-in_ok-next_region_var_in-in-Region-clause-makes : goal.returns-in_ok-next_region_var_in-in-Region-clause-makes
returns-in_ok-next_region_var_in-in-Region-clause-makes g c = made_as _ _ _ _ _ region_var _ (ap new_kind c.in-Region.is) c.in_ok-next_region_var_in-in-Region.ensures.makes c.in_ok-next_region_var_in-in-Region.ensures.means

pub returns-in_err-next_const_var_in-in-Const-clause-rest : goal.returns-in_err-next_const_var_in-in-Const-clause-rest
returns-in_err-next_const_var_in-in-Const-clause-rest g c =
    let done = c.in_err-next_const_var_in-in-Const.ensures in
    let long = (ap (λ st. length (st.entries type_var)) done.refused) in λ s made marks inner.
    marks_still g.I.Interner.meaning s c.args.self.now c.next_const_var_in.new.self long
    (marks_kept g.I.Interner.meaning c.args.self.now c.next_const_var_in.new.self c.requires.lawful long done.rest) made marks

pub returns-in_ok-next_const_var_in-in-Const-clause-rest : goal.returns-in_ok-next_const_var_in-in-Const-clause-rest
returns-in_ok-next_const_var_in-in-Const-clause-rest g c =
    let done = c.in_ok-next_const_var_in-in-Const.ensures in
    let long = (ap length (done.makes.other_entries type_var (λ e. cc))) in λ s made marks inner.
    marks_still g.I.Interner.meaning s c.args.self.now c.next_const_var_in.new.self long
    (marks_kept g.I.Interner.meaning c.args.self.now c.next_const_var_in.new.self c.requires.lawful long done.rest) made marks

pub returns-in_err-next_region_var_in-in-Region-clause-rest : goal.returns-in_err-next_region_var_in-in-Region-clause-rest
returns-in_err-next_region_var_in-in-Region-clause-rest g c =
    let done = c.in_err-next_region_var_in-in-Region.ensures in
    let long = (ap (λ st. length (st.entries type_var)) done.refused) in λ s made marks inner.
    marks_still g.I.Interner.meaning s c.args.self.now c.next_region_var_in.new.self long
    (marks_kept g.I.Interner.meaning c.args.self.now c.next_region_var_in.new.self c.requires.lawful long done.rest) made marks

pub returns-in_ok-next_region_var_in-in-Region-clause-rest : goal.returns-in_ok-next_region_var_in-in-Region-clause-rest
returns-in_ok-next_region_var_in-in-Region-clause-rest g c =
    let done = c.in_ok-next_region_var_in-in-Region.ensures in
    let long = (ap length (done.makes.other_entries type_var (λ e. cc))) in λ s made marks inner.
    marks_still g.I.Interner.meaning s c.args.self.now c.next_region_var_in.new.self long
    (marks_kept g.I.Interner.meaning c.args.self.now c.next_region_var_in.new.self c.requires.lawful long done.rest) made marks

pub returns-in_err-next_related_ty_var-in-Ty-clause-rest : goal.returns-in_err-next_related_ty_var-in-Ty-clause-rest
returns-in_err-next_related_ty_var-in-Ty-clause-rest g c = λ s made marks inner.
    let done = c.in_err-next_related_ty_var-in-Ty.ensures in
    marks_still g.I.Interner.meaning s c.args.self.now c.next_related_ty_var.new.self
    (ap (λ st. length (st.entries type_var)) done.refused) done.rest made marks

pub returns-in_ok-next_related_ty_var-in-Ty-clause-rest : goal.returns-in_ok-next_related_ty_var-in-Ty-clause-rest
returns-in_ok-next_related_ty_var-in-Ty-clause-rest g c = λ s made marks inner.
    let m = g.I.Interner.meaning c.args.self.now.interner in
    let done = c.in_ok-next_related_ty_var-in-Ty.ensures in
    marks_joined g.I.Interner.meaning s c.args.self.now c.next_related_ty_var.new.self
    (length c.args.self.now.inner.types.items) c.args.universe.0 c.type_variable-of.result.0 done.makes done.rest done.root
    made marks (made_in_context (store_of (g.I.Interner.meaning s.interner) s.inner) type_var
    (part_tree m c.args.term.now) _ c.type_variable-of.ensures inner)

pub type_variable-of-requires-clause-varies : goal.type_variable-of-requires-clause-varies
type_variable-of-requires-clause-varies g c = c.requires.varies (ap new_kind c.in-Ty.is)

pub next_related_ty_var-requires-clause-of_made : goal.next_related_ty_var-requires-clause-of_made
next_related_ty_var-requires-clause-of_made g c =
    let m = g.I.Interner.meaning c.args.self.now.interner in
    made_in_context (store_of m c.args.self.now.inner) type_var (part_tree m c.args.term.now) _
    c.type_variable-of.ensures c.requires.term_in
