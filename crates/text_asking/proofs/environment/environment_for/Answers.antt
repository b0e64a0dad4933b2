use Rattle.std.proofs.Common.{arith}
use Rattle.relation_terms.proofs.Stays.{extends_on}
use Rattle.variable_tables.proofs.Grows.{lawful_grows}
use Rattle.text_asking.proofs.AskingLemmas.{ready_stays}
use Rattle.text_asking.proofs.FitLemmas.{needs_stay, on_any}
use Rattle.text_asking.proofs.environment.environment_for.Goals as goal

pub environment_of-requires : goal.environment_of-requires
environment_of-requires g c =
    ready_stays (extends_on c.have_needed.ensures.grown c.have_needed-2.ensures.grown) c.args.terms.now.built.now
    c.requires.ready

pub returns-clause-lawful : goal.returns-clause-lawful
returns-clause-lawful g c =
    lawful_grows c.environment_of.ensures.grown c.have_needed-2.new.ctx.inner c.have_needed-2.ensures.lawful

pub returns-clause-grown : goal.returns-clause-grown
returns-clause-grown g c =
    extends_on (extends_on c.have_needed.ensures.grown c.have_needed-2.ensures.grown) c.environment_of.ensures.grown

-- What was made for the one stays while more is made for the other.
pub returns-clause-lhs : goal.returns-clause-lhs
returns-clause-lhs g c =
    let latest = c.max-latest.ensures in
    let named = c.if-ctx-latest.false in
    let later = c.have_needed.ensures.universe in
    on_any c.environment_of.result
    (needs_stay c.have_needed.new.ctx.inner c.have_needed-2.new.ctx.inner c.args.lhs.now c.have_needed-2.ensures.kept
    c.have_needed-2.ensures.universe
    (record { variables = c.in_ok-have_needed.ensures.has; universe = omega (arith, latest, named, later) }))

pub returns-clause-rhs : goal.returns-clause-rhs
returns-clause-rhs g c =
    let latest = c.max-latest.ensures in
    let named = c.if-ctx-latest.false in
    let later = c.have_needed.ensures.universe in
    let then = c.have_needed-2.ensures.universe in
    on_any c.environment_of.result
    (record { variables = c.in_ok-have_needed-2.ensures.has; universe = omega (arith, latest, named, later, then) })
