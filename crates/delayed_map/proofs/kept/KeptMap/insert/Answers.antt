use Rattle.std.proofs.Common.{◌≡◌, ◌∙◌, ap, subst, IsTrue, OnErr, ◌∷◌, [], ◌++◌}
use Rattle.std.specs.List.{list_any}
use Rattle.std.specs.Map.{keys_of}
use Rattle.delayed_map.proofs.kept.KeptMap.insert.Goals.{then-len+in_ok-widen, else-len}
use Rattle.delayed_map.proofs.kept.KeptMap.insert.Goals as goal

pub returns : goal.returns
returns g c =
    let same : (c.if-len.self-inside).entries.items ≡ c.args.self.now = elim c.if-len.branch [
      | then-len+in_ok-widen w ↦ ap (λ v. v.entries.items) w.self-inside-is ∙ w.widen.ensures ∙ c.self.view_is
      | else-len w ↦ ap (λ v. v.entries.items) w.self-inside-is ∙ c.self.view_is
    ] in
    let put = c.put.ensures in
    record {
      new = λ e. put.new e ∙ ap (λ es. es ++ (c.args.key, c.args.value) ∷ []) same;
      met = λ e. subst (λ es. IsTrue (list_any (g.K.PartialEq.eq c.args.key) (keys_of es))) same (put.met e);
      stays = λ e. put.stays e ∙ same;
      err = subst (λ es. OnErr c.put.result ((c.put.new.entries).items ≡ es)) same put.err;
    }
