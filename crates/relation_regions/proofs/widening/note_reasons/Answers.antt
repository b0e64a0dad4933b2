-- Whether the next node is noted.
use Rattle.std.proofs.Common.{arith, ◌<◌, ◌∙◌, ap, sym, length, Option, ℕ, true, false}
use Rattle.std.proofs.lemmas.Bool.{false≢true}
use Rattle.std.specs.Global.{Vec}
use Rattle.relation_regions.proofs.Widened.{noted_yes, noted_no, all_noted, some_as_read, found_in}
use Rattle.relation_regions.proofs.widening.note_reasons.Goals as goal
use Rattle.relation_regions.proofs.widening.note_reasons.Goals.{then-is_some+then-is_beyond, else-is_some}
use Rattle.relation_regions.proofs.widening.note_reasons.Goals.{else-is_some-via-then-is_some+else-is_beyond}
use Rattle.relation_regions.proofs.widening.note_reasons.Goals.{else-is_some-via-else-is_some}

pub loop-node-preserved : goal.loop-node-preserved
loop-node-preserved c =
    let lt : c.loop-node.node < length c.args.standings.now = omega arith in
    let lt_places : c.loop-node.node < length c.args.found.now.places.items = omega (arith, c.requires.search.all_nodes) in
    elim c.if-is_some.branch [
      | then-is_some+then-is_beyond w ↦ noted_yes c.args.graph.now c.args.standings.now c.args.found.now c.args.target
          c.loop-node.node c.loop-node.reasons.items c.if-is_some.reasons.items c.loop-node.invariant c.requires.search
          lt c.requires.target
          (some_as_read c.args.found.now.places.items c.loop-node.node c.index.result.now true lt_places
          c.index.ensures (sym c.is_some.ensures ∙ w.if-is_some.true))
          (sym w.is_beyond.ensures ∙ w.if-is_beyond.true)
          (ap (λ (v : Vec (Option ℕ)). v.items) w.reasons-is)
      | else-is_some w ↦
          let same = ap (λ (v : Vec (Option ℕ)). v.items) w.reasons-is in
          elim w.else-is_some.branch [
            | else-is_some-via-then-is_some+else-is_beyond v ↦
                noted_no c.args.graph.now c.args.standings.now c.args.found.now c.args.target c.loop-node.node
                c.loop-node.reasons.items c.if-is_some.reasons.items c.loop-node.invariant
                (λ f b. false≢true (sym (sym v.is_beyond.ensures ∙ v.if-is_beyond.false) ∙ b)) same
            | else-is_some-via-else-is_some v ↦
                noted_no c.args.graph.now c.args.standings.now c.args.found.now c.args.target c.loop-node.node
                c.loop-node.reasons.items c.if-is_some.reasons.items c.loop-node.invariant
                (λ f b. false≢true (sym (some_as_read c.args.found.now.places.items c.loop-node.node
                c.index.result.now false lt_places c.index.ensures (sym c.is_some.ensures ∙ v.if-is_some.false)) ∙ f))
                same
          ]
    ]

pub returns-clause-noted : goal.returns-clause-noted
returns-clause-noted c = all_noted c.args.graph.now c.args.standings.now c.args.found.now c.args.target
    c.loop-node.node c.loop-node.reasons.items c.requires.all c.loop-node.invariant
    (λ a f. omega (arith, found_in c.args.graph.now c.args.target c.args.found.now a c.requires.search f))
