-- Headers that may be asked about, and methods that may be looked for.
use Rattle.std.specs.Prelude.{List, IsTrue, All}
use Rattle.relation_terms.specs.Meaning.{Meaning}
use Rattle.relation_terms.specs.Trees.{Leaves, known}
use Rattle.relation_terms.specs.declared.terms.binder.Binder.{Binder}
use Rattle.relation_terms.specs.declared.terms.keys.ArgsKey.{ArgsKey}
use Rattle.relation_semantics.specs.Contexts.{Context}
use Rattle.relation_coherence.specs.Headers.{TakesHeader, HasHeader}
use Rattle.text_users.specs.declared.methods.GenericMethod.{GenericMethod}
use Rattle.text_users.specs.Fixed.{IsFixedLeaf}

-- A header's binders bind by their lists, what stands in it is the context's, and all that it does not bind is fixed.
pub record MayOverlap {Key Id Name : Type 0} (c : Context Key Id Name) (h : Binder Key (ArgsKey Key)) : Type 0 where
  pub taken : TakesHeader c h
  pub has : HasHeader c h
  pub fixed : Leaves IsFixedLeaf ((c.meaning).args h.value)

-- The types are known that methods are for.
abbrev pub AreForKnown : {Key Id Name N : Type 0} → Meaning Key Id Name → List (GenericMethod Key N) → Type 0
AreForKnown m methods = All (λ e. IsTrue (known (m.ty (e.of).value))) methods
