-- An interner that knows nothing.
use Rattle.std.specs.Prelude.{◌≡◌, ℕ, IsFalse, IsNone, None, []}
use Rattle.relation_terms.specs.Trees.{known}
use Rattle.relation_terms.specs.Meaning.{Meaning}
use Rattle.term_enums.specs.declared.SolverTraitLangItem.{SolverTraitLangItem}
use Rattle.relation_terms.specs.declared.terms.keys.TyKey.{TyKey}
use Rattle.relation_terms.specs.declared.terms.keys.RegionKey.{RegionKey}
use Rattle.relation_terms.specs.declared.terms.keys.ConstKey.{ConstKey}
use Rattle.relation_terms.specs.declared.terms.keys.ArgsKey.{ArgsKey}
use Rattle.relation_terms.specs.declared.terms.keys.TysKey.{TysKey}
use Rattle.relation_terms.specs.declared.terms.keys.PatKey.{PatKey}
use Rattle.relation_terms.specs.declared.terms.keys.ValTreeKey.{ValTreeKey}
use Rattle.relation_terms.specs.declared.terms.keys.BranchesKey.{BranchesKey}
use Rattle.relation_terms.specs.declared.terms.keys.AlternativesKey.{AlternativesKey}
use Rattle.relation_terms.specs.declared.terms.keys.ExistentialPredicatesKey.{ExistentialPredicatesKey}
use Rattle.relation_terms.specs.declared.terms.keys.BoundVarsKey.{BoundVarsKey}
use Rattle.relation_terms.specs.declared.terms.keys.PredicateKey.{PredicateKey}
use Rattle.relation_terms.specs.declared.terms.keys.ClauseKey.{ClauseKey}
use Rattle.relation_terms.specs.declared.terms.keys.ClausesKey.{ClausesKey}
use Rattle.relation_terms.specs.declared.terms.keys.ParamEnvKey.{ParamEnvKey}

-- No key of any sort is known, no item has generic parameters, the tables say nothing, and the next solver is off.
pub record KnowsNone {Key Id Name : Type 0} (m : Meaning Key Id Name) : Type 0 where
  pub ty : (k : TyKey Key) → IsFalse (known (m.ty k))
  pub region : (k : RegionKey Key) → IsFalse (known (m.region k))
  pub const_ : (k : ConstKey Key) → IsFalse (known (m.const_ k))
  pub args : (k : ArgsKey Key) → IsFalse (known (m.args k))
  pub tys : (k : TysKey Key) → IsFalse (known (m.tys k))
  pub pat : (k : PatKey Key) → IsFalse (known (m.pat k))
  pub valtree : (k : ValTreeKey Key) → IsFalse (known (m.valtree k))
  pub branches : (k : BranchesKey Key) → IsFalse (known (m.branches k))
  pub alternatives : (k : AlternativesKey Key) → IsFalse (known (m.alternatives k))
  pub existential_predicates : (k : ExistentialPredicatesKey Key) → IsFalse (known (m.existential_predicates k))
  pub bound_vars : (k : BoundVarsKey Key) → IsNone (m.bound_vars k)
  pub predicate : (k : PredicateKey Key) → IsFalse (known (m.predicate k))
  pub clause : (k : ClauseKey Key) → IsFalse (known (m.clause k))
  pub clauses : (k : ClausesKey Key) → IsFalse (known (m.clauses k))
  pub param_env : (k : ParamEnvKey Key) → IsFalse (known (m.param_env k))
  pub generics : (n : ℕ) → m.generics n ≡ 0
  pub variances : (n : ℕ) → m.variances n ≡ []
  pub alias_variances : (n : ℕ) → m.alias_variances n ≡ None
  pub parent : (n : ℕ) → (m.tables).parent n ≡ None
  pub is_auto : (n : ℕ) → IsFalse ((m.tables).is_auto n)
  pub is_lang_item : (n : ℕ) → (i : SolverTraitLangItem) → IsFalse ((m.tables).is_lang_item n i)
  pub alias_kind : (n : ℕ) → (m.tables).alias_kind n ≡ None
  pub next_solver : IsFalse ((m.tables).next_solver)
  pub super_predicates : (n : ℕ) → (m.tables).super_predicates n ≡ []
  pub implied_predicates : (n : ℕ) → (m.tables).implied_predicates n ≡ []
  pub const_bounds : (n : ℕ) → (m.tables).const_bounds n ≡ []
  pub params : (n : ℕ) → (m.tables).params n ≡ []
