use Rattle.std.proofs.Common.{ap}
use Rattle.delayed_map.proofs.Delayed.{Contains-puts}
use Rattle.delayed_map.proofs.set.DelayedSet.insert.Goals as goal

pub returns-in_ok-is_new-clause-members : goal.returns-in_ok-is_new-clause-members
returns-in_ok-is_new-clause-members g c =
    λ e h. rw (← ap (λ v. v.kept) c.self.view_is) (Contains-puts c.self.inside.cache c.insert.new.self c.args.value c.in_ok-is_new.is_new c.in_ok-is_new.ensures.keys e (c.widen.ensures.members e h))
