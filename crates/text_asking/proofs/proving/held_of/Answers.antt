use Rattle.std.proofs.Common.{sym, subst}
use Rattle.std.specs.List.{All}
use Rattle.relation_terms.proofs.Stays.{extends_on}
use Rattle.text_proving.specs.Made.{KnowsClause}
use Rattle.text_asking.proofs.proving.held_of.Goals as goal

pub rules_held-requires : goal.rules_held-requires
rules_held-requires g c =
    subst (All (KnowsClause (g.I.Interner.meaning c.clauses_of.new.cx))) (sym c.deref.ensures.value)
    c.in_ok-clauses.ensures.sure

pub returns-in-Ok-clause-grown : goal.returns-in-Ok-clause-grown
returns-in-Ok-clause-grown g c = extends_on c.clauses_of.ensures.grown c.rules_held.ensures.grown

pub returns-clause-grown : goal.returns-clause-grown
returns-clause-grown g c = extends_on c.clauses_of.ensures.grown c.rules_held.ensures.grown
