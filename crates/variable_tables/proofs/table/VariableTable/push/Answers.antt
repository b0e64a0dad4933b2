use Rattle.std.proofs.Common.{◌++◌, ◌∷◌, [], length, refl, ap, ◌∙◌}
use Rattle.variable_tables.specs.Variables.{free_variable}
use Rattle.variable_tables.proofs.Rows.{grown}
use Rattle.variable_tables.proofs.table.VariableTable.push.Goals as goal

pub returns : goal.returns
returns g c = record {
  items = grown c.self.inside.rows.items c.push.new.self.items c.self.inside.classes.items c.push_reserved.new.self.items _
      c.in_ok-push.ensures.items (c.push_reserved.ensures.items ∙ ap (λ zs. zs ++ length zs ∷ []) c.in_ok-reserve.ensures.items)
      c.self.invariant refl
      ∙ ap (λ z. z.items ++ free_variable c.args.key c.args.universe ∷ []) c.self.view_is;
}
