use Rattle.std.proofs.Common.{take}
use Rattle.std.specs.List.{All}
use Rattle.relation_terms.specs.Meaning.{Extends}
use Rattle.variable_tables.specs.Tables.{IsLawful}
use Rattle.text_asking.specs.Asking.{HasStated}
use Rattle.text_asking.proofs.context.have_all_stated.Given as goal

-- what was stated so far is there
abbrev pub invariant-loop-variables : goal.invariant-loop-variables
invariant-loop-variables g l = record {
  lawful : IsLawful (g.I.Interner.meaning l.ctx.interner) l.ctx.inner;
  grown : Extends (g.I.Interner.meaning l.fn.ctx.interner) (g.I.Interner.meaning l.ctx.interner);
  so_far : All (HasStated l.ctx.inner) (take l.variables-index l.stated);
}
