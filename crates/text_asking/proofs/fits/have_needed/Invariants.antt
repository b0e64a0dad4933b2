use Rattle.std.proofs.Common.{◌≤◌, take}
use Rattle.std.specs.List.{All}
use Rattle.relation_terms.specs.Heads.{VarKind}
use Rattle.relation_terms.specs.Meaning.{Extends}
use Rattle.variable_tables.specs.Tables.{IsLawful}
use Rattle.text_asking.specs.Asking.{var_kind, variables_in}
use Rattle.text_asking.specs.Fits.{needed}
use Rattle.text_asking.proofs.fits.have_needed.Given as goal

-- what is needed of the kinds so far is there
abbrev pub invariant-loop-kind : goal.invariant-loop-kind
invariant-loop-kind g l = record {
  lawful : IsLawful (g.I.Interner.meaning l.ctx.interner) l.ctx.inner;
  grown : Extends (g.I.Interner.meaning l.fn.ctx.interner) (g.I.Interner.meaning l.ctx.interner);
  kept : (k : VarKind) → variables_in l.fn.ctx.inner k ≤ variables_in l.ctx.inner k;
  universe : (l.fn.ctx.inner.universe).0 ≤ (l.ctx.inner.universe).0;
  so_far : All (λ kind. needed l.needs (var_kind kind) ≤ variables_in l.ctx.inner (var_kind kind))
      (take l.kind-index l.kind-items);
}
