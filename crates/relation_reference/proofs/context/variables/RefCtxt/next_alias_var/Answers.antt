use Rattle.std.proofs.Common.{ap, length}
use Rattle.relation_terms.specs.Heads.{type_var}
use Rattle.relation_reference.proofs.Making.{on_err}
use Rattle.relation_reference.proofs.Marking.{marks_kept, marks_still, marks_alone}
use Rattle.relation_reference.proofs.context.variables.RefCtxt.next_alias_var.Goals as goal

pub returns-in_err-next_ty_var_in-clause-rest : goal.returns-in_err-next_ty_var_in-clause-rest
returns-in_err-next_ty_var_in-clause-rest g c = λ t s made marks inner.
    let done = c.in_err-next_ty_var_in.ensures in
    let long = ap (λ st. length (st.entries type_var)) done.refused in
    marks_still g.I.Interner.meaning s c.args.self.now c.next_ty_var_in.new.self long
    (marks_kept g.I.Interner.meaning c.args.self.now c.next_ty_var_in.new.self c.requires.lawful long done.rest) made marks

pub returns-in_err-next_ty_var_in-clause-refused : goal.returns-in_err-next_ty_var_in-clause-refused
returns-in_err-next_ty_var_in-clause-refused g c = on_err _ _ c.in_err-next_ty_var_in.ensures.refused

pub returns-clause-rest : goal.returns-clause-rest
returns-clause-rest g c = λ t s made marks inner.
    let done = c.in_ok-next_ty_var_in.ensures in
    marks_alone g.I.Interner.meaning s c.args.self.now c.next_ty_var_in.new.self c.requires.lawful
    (length c.args.self.now.inner.types.items) c.args.universe.0 done.makes done.rest made marks

pub returns-clause-makes : goal.returns-clause-makes
returns-clause-makes g c =
    let done = c.in_ok-next_ty_var_in.ensures in
    (length c.args.self.now.inner.types.items, done.makes, done.means)
