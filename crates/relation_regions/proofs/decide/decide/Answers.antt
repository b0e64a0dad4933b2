-- What is decided of the widened graph is so.
use Rattle.std.proofs.Common.{arith, ◌∙◌, ap, sym, subst, length, ℕ, List, Option, MatchOption}
use Rattle.relation_regions.specs.Widening.{AreReasons}
use Rattle.relation_regions.specs.Deciding.{IsAgainst, IsDecidedTo}
use Rattle.relation_regions.proofs.Widened.{same_widened}
use Rattle.relation_regions.proofs.Deciding.{all_decided, against_pair}
use Rattle.relation_regions.proofs.decide.decide.Goals as goal

pub widen-requires-clause-nodes : goal.widen-requires-clause-nodes
widen-requires-clause-nodes c = omega (
  arith,
  c.requires.same.nodes,
  c.requires.nodes,
  c.in_ok-reasons.ensures.reasons.one_each,
  ap (λ (l : List (Option ℕ)). length l) c.as_slice-why.ensures.value,
)

pub decide_targets-requires-clause-wide : goal.decide_targets-requires-clause-wide
decide_targets-requires-clause-wide c = c.in_ok-widen.ensures.graph

pub decide_targets-requires-clause-nodes : goal.decide_targets-requires-clause-nodes
decide_targets-requires-clause-nodes c = c.in_ok-widen.ensures.nodes ∙ (c.requires.same.nodes ∙ c.requires.nodes)

pub decide_targets-requires-clause-none : goal.decide_targets-requires-clause-none
decide_targets-requires-clause-none c = c.new-values.ensures.items

pub explain-requires-clause-reasons : goal.explain-requires-clause-reasons
explain-requires-clause-reasons c = subst (λ r. AreReasons c.args.graph.now c.args.standings.now r)
    (sym c.as_slice-why.ensures.value) c.in_ok-reasons.ensures.reasons

pub explain-requires-clause-wide : goal.explain-requires-clause-wide
explain-requires-clause-wide c = same_widened c.args.graph.now c.args.wide.now c.as_slice-why.result.now
    (length c.as_slice-why.result.now) c.widen.new.graph c.requires.same c.in_ok-widen.ensures

pub returns-in-None : goal.returns-in-None
returns-in-None c =
    let standings = c.args.standings.now in
    let all = IsDecidedTo c.args.known.now c.widen.new.graph standings (length standings)
    c.decide_targets.new.values.items in
    let against : ℕ × ℕ → Type 0 =
    λ p. IsAgainst c.args.known.now c.widen.new.graph standings p.1 p.0 in
    all_decided c.args.known.now c.args.graph.now c.widen.new.graph c.args.asked standings
    c.in_ok-reasons.reasons.items c.as_slice-why.result.now (length standings) c.decide_targets.new.values.items
    c.as_slice-why.ensures.value
    (same_widened c.args.graph.now c.args.wide.now c.as_slice-why.result.now (length c.as_slice-why.result.now)
    c.widen.new.graph c.requires.same c.in_ok-widen.ensures)
    c.in_ok-reasons.ensures.reasons c.in_ok-reasons.ensures.all
    (subst (λ o. MatchOption o all against) c.in-None.is c.in_ok-against.ensures) (omega arith) c.requires.nodes

pub explain-requires-clause-longer : goal.explain-requires-clause-longer
explain-requires-clause-longer c =
    ((against_pair (IsDecidedTo c.args.known.now c.widen.new.graph c.args.standings.now (length c.args.standings.now)
    c.decide_targets.new.values.items) c.args.known.now c.widen.new.graph c.args.standings.now
    c.in_ok-against.against (c.in-Some.longer, c.in-Some.shorter) c.in-Some.is c.in_ok-against.ensures).longer_given).0

pub explain-requires-clause-shorter : goal.explain-requires-clause-shorter
explain-requires-clause-shorter c =
    ((against_pair (IsDecidedTo c.args.known.now c.widen.new.graph c.args.standings.now (length c.args.standings.now)
    c.decide_targets.new.values.items) c.args.known.now c.widen.new.graph c.args.standings.now
    c.in_ok-against.against (c.in-Some.longer, c.in-Some.shorter) c.in-Some.is c.in_ok-against.ensures).shorter_given).0

pub explain-requires-clause-reaches : goal.explain-requires-clause-reaches
explain-requires-clause-reaches c =
    (against_pair (IsDecidedTo c.args.known.now c.widen.new.graph c.args.standings.now (length c.args.standings.now)
    c.decide_targets.new.values.items) c.args.known.now c.widen.new.graph c.args.standings.now
    c.in_ok-against.against (c.in-Some.longer, c.in-Some.shorter) c.in-Some.is c.in_ok-against.ensures).reaches

-- A given node reaches another one, though that isn't known.
pub returns : goal.returns
returns c =
    let a = against_pair (IsDecidedTo c.args.known.now c.widen.new.graph c.args.standings.now (length c.args.standings.now)
    c.decide_targets.new.values.items) c.args.known.now c.widen.new.graph c.args.standings.now
    c.in_ok-against.against (c.in-Some.longer, c.in-Some.shorter) c.in-Some.is c.in_ok-against.ensures in
    record {
      longer_given = a.longer_given;
      shorter_given = a.shorter_given;
      asked_for = c.in_ok-by-in-Some.ensures.asked_for;
      forced = c.in_ok-by-in-Some.ensures.forced;
      unknown = a.unknown;
    }
