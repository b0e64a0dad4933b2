-- What is read of all constraints and facts is a problem.
use Rattle.std.proofs.lemmas.Result.{on_ok_weaker}
use Rattle.relation_regions.proofs.ReadProblems.{problem_read}
use Rattle.relation_regions.proofs.solving.read_problem.Goals as goal

pub read_constraints-requires : goal.read_constraints-requires
read_constraints-requires g c = c.requires.none_asked

pub read_facts-requires : goal.read_facts-requires
read_facts-requires g c = c.requires.none_known

pub returns : goal.returns
returns g c =
    let asked = c.read_constraints.new.pairs in
    let known = c.read_facts.new.pairs in
    on_ok_weaker c.read_facts.result (problem_read (λ k l. g.X.PartialEq.eq k.0 l.0) c.args.re_static
    c.args.constraints.now c.args.facts.now c.args.problem.now.regions c.number.new.table c.read_constraints.new.table
    c.read_facts.new.table c.in_ok-number.field-0 asked.pairs asked.asked_by.items known.pairs known.asked_by.items
    c.requires.no_region c.in_ok-number.ensures c.in_ok-read_constraints.ensures) c.read_facts.ensures
