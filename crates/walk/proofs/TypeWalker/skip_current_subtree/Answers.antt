use Rattle.std.proofs.Common.{sym, ap, ap₂, ◌∙◌, subst, IsTrue, map}
use Rattle.relation_terms.specs.Meaning.{arg_tree}
use Rattle.walk.specs.Places.{all_known}
use Rattle.walk.specs.Walking.{walk_of}
use Rattle.walk.proofs.Pulling.{known_drop, walk_skipped}
use Rattle.walk.proofs.TypeWalker.skip_current_subtree.Goals as goal

pub invariant_of-self : goal.invariant_of-self
invariant_of-self g c = λ h.
    let m = g.I.Interner.meaning c.self.inside.cx.now in
    subst (λ z. IsTrue (all_known (map (arg_tree m) z))) (sym c.skip_current_subtree.ensures.stack)
    (known_drop (arg_tree m) _ c.self.inside.place.stack (c.self.invariant h))

pub returns : goal.returns
returns g c =
    let w = c.self.inside in
    let s = c.skip_current_subtree in
    rw (← c.self.view_is) (ap₂ (λ b vs. walk_of w.cx.now s.new.self.stack b vs w.failed)
    s.ensures.last_subtree (ap (λ v. v.keys) s.ensures.visited)
    ∙ walk_skipped w.cx.now w.place.stack s.new.self.stack w.place.last_subtree w.place.visited.keys w.failed
    s.ensures.stack)
