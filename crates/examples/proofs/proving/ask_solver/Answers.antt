-- What the test says meets what the solver asks for.
use Rattle.std.proofs.Common.{rules, IsTrue}
use Rattle.examples.proofs.proving.ask_solver.Goals as goal

pub prove-requires-clause-may : goal.prove-requires-clause-may
prove-requires-clause-may g c =
    let may : IsTrue c.in-Ok.may = (let i = c.if-not-may.false in search rules) in
    record {
      lawful = c.requires.lawful;
      env_known = c.requires.env_known;
      rules = c.in-Ok.ensures.rules may;
    }

pub prove-requires-clause-goal : goal.prove-requires-clause-goal
prove-requires-clause-goal g c =
    let may : IsTrue c.in-Ok.may = (let i = c.if-not-may.false in search rules) in c.in-Ok.ensures.goal may
