-- What is found passes a test of the keys, and what does not pass it has an unlike key.
use Rattle.std.proofs.lemmas.Result.{IfOk-weaker}
use Rattle.relation_methods.proofs.Finding.{found_in_order, left_out_apart}
use Rattle.relation_methods.proofs.table.MethodTable.look_up.Goals as goal

pub returns-clause-order : goal.returns-clause-order
returns-clause-order g c = IfOk-weaker c.look_up.result _ _
    (λ v h. found_in_order _ c.self.inside.entries c.args.self.now _ c.self.view_is h) c.look_up.ensures

pub returns-clause-no_loss : goal.returns-clause-no_loss
returns-clause-no_loss g c = IfOk-weaker c.look_up.result _ _
    (λ v h. left_out_apart g.I.Interner.meaning _ c.keys.ensures.unlike c.equal_keys.ensures.same_key c.args.cx.now
    c.args.ty.now c.simplify_type-key.result c.self.inside.entries c.args.self.now _ c.requires.keyed
    c.simplify_type-key.ensures c.self.view_is h) c.look_up.ensures
