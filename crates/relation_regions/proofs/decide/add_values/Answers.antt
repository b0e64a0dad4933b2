-- Whether the next node is added.
use Rattle.std.proofs.Common.{arith, ◌<◌, ◌∙◌, ap, sym, length, ℕ, true, false}
use Rattle.std.proofs.lemmas.Bool.{false≢true}
use Rattle.std.specs.Global.{Vec}
use Rattle.relation_regions.proofs.Widened.{some_as_read}
use Rattle.relation_regions.proofs.Deciding.{value_added, value_passed}
use Rattle.relation_regions.proofs.decide.add_values.Goals as goal
use Rattle.relation_regions.proofs.decide.add_values.Goals.{then-not-is_given+then-is_some+in_ok-push, else-not-is_given}
use Rattle.relation_regions.proofs.decide.add_values.Goals.{else-not-is_given-via-then-not-is_given+else-is_some}
use Rattle.relation_regions.proofs.decide.add_values.Goals.{else-not-is_given-via-else-not-is_given}

pub loop-node-preserved : goal.loop-node-preserved
loop-node-preserved c =
    let lt : c.loop-node.node < length c.args.standings.now = omega arith in
    let lt_places : c.loop-node.node < length c.args.found.now.places.items = omega (arith, c.requires) in
    elim c.if-not-is_given.branch [
      | then-not-is_given+then-is_some+in_ok-push w ↦
          value_added c.args.standings.now c.args.found.now c.args.target c.loop-node.node c.args.values.now.items
          c.loop-node.values.items c.if-not-is_given.values.items c.loop-node.invariant lt
          (sym c.is_given.ensures ∙ w.if-not-is_given.true)
          (some_as_read c.args.found.now.places.items c.loop-node.node w.index.result.now true lt_places
          w.index.ensures (sym w.is_some.ensures ∙ w.if-is_some.true))
          (ap (λ (v : Vec (ℕ × ℕ)). v.items) w.values-is ∙ w.in_ok-push.ensures.items)
      | else-not-is_given w ↦
          let same = ap (λ (v : Vec (ℕ × ℕ)). v.items) w.values-is in
          elim w.else-not-is_given.branch [
            | else-not-is_given-via-then-not-is_given+else-is_some v ↦
                value_passed c.args.standings.now c.args.found.now c.args.target c.loop-node.node c.args.values.now.items
                c.loop-node.values.items c.if-not-is_given.values.items c.loop-node.invariant
                (λ f g. false≢true (sym (some_as_read c.args.found.now.places.items c.loop-node.node
                v.index.result.now false lt_places v.index.ensures (sym v.is_some.ensures ∙ v.if-is_some.false)) ∙ g))
                same
            | else-not-is_given-via-else-not-is_given v ↦
                value_passed c.args.standings.now c.args.found.now c.args.target c.loop-node.node c.args.values.now.items
                c.loop-node.values.items c.if-not-is_given.values.items c.loop-node.invariant
                (λ f g. false≢true (sym f ∙ (sym c.is_given.ensures ∙ v.if-not-is_given.false))) same
          ]
    ]
