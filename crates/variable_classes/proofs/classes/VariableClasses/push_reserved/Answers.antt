use Rattle.std.proofs.Common.{◌≡◌, ◌++◌, ◌∷◌, [], length, ap, ◌∙◌}
use Rattle.variable_classes.proofs.Rounds.{grown, grown_roots}
use Rattle.variable_classes.proofs.classes.VariableClasses.push_reserved.Goals as goal

pub invariant_of-self : goal.invariant_of-self
invariant_of-self c =
    let n : c.len-number.result ≡ length c.self.inside.members.items = c.len-number.ensures ∙ c.self.inside.members.ok.0 in
    grown c.self.inside.members.items c.push_reserved.new.self.items c.alone.result c.self.invariant c.push_reserved.ensures.items
    (ap (λ m. m.of) c.alone.ensures ∙ n) (ap (λ m. m.next) c.alone.ensures ∙ n) (ap (λ m. m.least) c.alone.ensures ∙ n)

pub returns : goal.returns
returns c =
    let n : c.len-number.result ≡ length c.self.inside.members.items = c.len-number.ensures ∙ c.self.inside.members.ok.0 in
    record {
      items = grown_roots c.self.inside.members.items c.push_reserved.new.self.items c.alone.result c.self.invariant c.push_reserved.ensures.items
          (ap (λ m. m.of) c.alone.ensures ∙ n) (ap (λ m. m.next) c.alone.ensures ∙ n) (ap (λ m. m.least) c.alone.ensures ∙ n)
          ∙ ap (λ v. v.items ++ length v.items ∷ []) c.self.view_is;
    }
