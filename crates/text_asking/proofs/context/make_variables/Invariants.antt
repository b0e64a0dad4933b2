use Rattle.std.proofs.Common.{◌≡◌, ◌≤◌}
use Rattle.relation_terms.specs.Heads.{VarKind}
use Rattle.relation_terms.specs.Meaning.{Extends}
use Rattle.variable_tables.specs.Tables.{IsLawful}
use Rattle.text_asking.specs.Asking.{MakesIn, var_kind, variables_in}
use Rattle.text_asking.proofs.context.make_variables.Given as goal

-- as many variables of the kind as were counted
abbrev pub invariant-loop : goal.invariant-loop
invariant-loop g l = record {
  lawful : IsLawful (g.I.Interner.meaning l.ctx.interner) l.ctx.inner;
  grown : Extends (g.I.Interner.meaning l.fn.ctx.interner) (g.I.Interner.meaning l.ctx.interner);
  kept : (k : VarKind) → variables_in l.fn.ctx.inner k ≤ variables_in l.ctx.inner k;
  universe : (l.fn.ctx.inner.universe).0 ≤ (l.ctx.inner.universe).0;
  same : (l.ctx.inner.universe).0 ≡ (l.fn.ctx.inner.universe).0;
  made : MakesIn (l.fn.ctx.inner.universe).0 l.fn.ctx.inner l.ctx.inner;
  as_many : variables_in l.ctx.inner (var_kind l.fn.kind) ≡ l.counter;
}
