-- Copies of a context's tables, and that they stand while the interner grows.
use Rattle.std.specs.Prelude.{◌≡◌, refl}
use Rattle.relation_terms.specs.Meaning.{Meaning}
use Rattle.relation_reference.specs.RefCtxt.{context_in}
use Rattle.variable_tables.proofs.Grows.{store_grows, lawful_grows}
use Rattle.kept_records.specs.Records.{StandsOn}
use Rattle.variable_tables.specs.declared.inner.InferCtxtInner.{InferCtxtInner}

-- The second tables have what the first have.
pub record IsCopy {Key : Type 0} (x y : InferCtxtInner Key) : Type 0 where
  pub types : y.types.items ≡ x.types.items
  pub ints : y.ints.items ≡ x.ints.items
  pub floats : y.floats.items ≡ x.floats.items
  pub consts : y.consts.items ≡ x.consts.items
  pub regions : y.regions.items ≡ x.regions.items
  pub constraints : y.constraints.items ≡ x.constraints.items
  pub ty_outlives : y.ty_outlives.items ≡ x.ty_outlives.items
  pub sub_roots : y.sub_roots.items ≡ x.sub_roots.items
  pub universe : y.universe ≡ x.universe
  pub budget : y.budget ≡ x.budget
  pub next_solver : y.next_solver ≡ x.next_solver
  pub mode : y.mode ≡ x.mode
  pub tainted : y.tainted ≡ x.tainted
  pub numbers : y.numbers.items ≡ x.numbers.items

-- While the interner grows the tables record the same, and stay lawful.
pub stands_on : {I Key Id Name Span : Type 0} (meaning : I → Meaning Key Id Name) (r : InferCtxtInner Key) →
    StandsOn (context_in {Span = Span} meaning) (λ c y. record c { inner = y }) r
stands_on meaning r = record {
  meaning = λ c. refl;
  same = λ c d e l. record { store = store_grows e r l; setup = refl; outliving = refl; marks = λ n. refl };
  lawful = λ c d e l. lawful_grows e r l;
}
