use Rattle.std.proofs.Common.{sym, subst}
use Rattle.std.specs.List.{All}
use Rattle.relation_terms.proofs.Stays.{extends_on}
use Rattle.text_proving.specs.Made.{KnowsClause}
use Rattle.text_asking.proofs.proving.rule_at.Goals as goal

pub variables_at-requires : goal.variables_at-requires
variables_at-requires g c = c.requires

pub rule_of-requires : goal.rule_of-requires
rule_of-requires g c =
    subst (All (KnowsClause (g.I.Interner.meaning c.clauses_of.new.cx))) (sym c.deref-2.ensures.value)
    c.in_ok-clauses.ensures.sure

pub returns-in-Ok-clause-grown : goal.returns-in-Ok-clause-grown
returns-in-Ok-clause-grown g c = extends_on c.clauses_of.ensures.grown c.rule_of.ensures.grown

pub returns-clause-grown : goal.returns-clause-grown
returns-clause-grown g c = extends_on c.clauses_of.ensures.grown c.rule_of.ensures.grown

pub returns-in-Ok-clause-sure : goal.returns-in-Ok-clause-sure
returns-in-Ok-clause-sure g c = c.in-Ok.ensures.made.0
