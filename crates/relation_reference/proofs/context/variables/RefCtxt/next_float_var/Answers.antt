use Rattle.std.proofs.Common.{refl, ap, ◌∙◌}
use Rattle.relation_terms.specs.Heads.{float_var, variable}
use Rattle.relation_terms.specs.Trees.{leaf}
use Rattle.variable_tables.specs.Tables.{store_of}
use Rattle.relation_reference.proofs.Making.{on_err, later_same, refused_lawful, refused_later, refused_store, float_made, float_made_later, float_made_lawful}
use Rattle.relation_reference.proofs.context.variables.RefCtxt.next_float_var.Goals as goal

pub returns-in_err-key-clause-later : goal.returns-in_err-key-clause-later
returns-in_err-key-clause-later g c = later_same _ _ (ap (λ m. store_of m c.args.self.now.inner) c.in_err-key.ensures.refused)

pub returns-in_err-key-clause-refused : goal.returns-in_err-key-clause-refused
returns-in_err-key-clause-refused g c = on_err c.from_residual.result _ (ap (λ m. store_of m c.args.self.now.inner) c.in_err-key.ensures.refused)

pub returns-in_err-push-clause-lawful : goal.returns-in_err-push-clause-lawful
returns-in_err-push-clause-lawful g c = refused_lawful c.in_ok-key.ensures.grown c.args.self.now.inner (record c.args.self.now.inner { floats = c.push.new.self }) (record { types = refl; ints = refl; floats = c.in_err-push.ensures.items; consts = refl; regions = refl; constraints = refl; universe = refl; budget = refl; tainted = refl; numbers = refl; sub_roots = refl }) c.requires

pub returns-in_err-push-clause-later : goal.returns-in_err-push-clause-later
returns-in_err-push-clause-later g c = refused_later c.in_ok-key.ensures.grown c.args.self.now.inner (record c.args.self.now.inner { floats = c.push.new.self }) (record { types = refl; ints = refl; floats = c.in_err-push.ensures.items; consts = refl; regions = refl; constraints = refl; universe = refl; budget = refl; tainted = refl; numbers = refl; sub_roots = refl }) c.requires

pub returns-in_err-push-clause-refused : goal.returns-in_err-push-clause-refused
returns-in_err-push-clause-refused g c = on_err c.from_residual-in_err-push.result _ (refused_store c.in_ok-key.ensures.grown c.args.self.now.inner (record c.args.self.now.inner { floats = c.push.new.self }) (record { types = refl; ints = refl; floats = c.in_err-push.ensures.items; consts = refl; regions = refl; constraints = refl; universe = refl; budget = refl; tainted = refl; numbers = refl; sub_roots = refl }) c.requires)

pub returns-clause-lawful : goal.returns-clause-lawful
returns-clause-lawful g c = float_made_lawful c.in_ok-key.ensures.grown c.args.self.now.inner c.requires c.push.new.self _ c.in_ok-push.ensures.items refl refl
    (c.in_ok-key.ensures.made ∙ ap (λ n. leaf (variable float_var n)) c.len-number.ensures)

pub returns-clause-later : goal.returns-clause-later
returns-clause-later g c = float_made_later c.in_ok-key.ensures.grown c.args.self.now.inner c.requires c.push.new.self _ c.in_ok-push.ensures.items refl refl
    (c.in_ok-key.ensures.made ∙ ap (λ n. leaf (variable float_var n)) c.len-number.ensures)

pub returns-clause-makes : goal.returns-clause-makes
returns-clause-makes g c = float_made c.in_ok-key.ensures.grown c.args.self.now.inner c.requires c.push.new.self _ c.in_ok-push.ensures.items refl refl
    (c.in_ok-key.ensures.made ∙ ap (λ n. leaf (variable float_var n)) c.len-number.ensures)
