-- What contracts see of a context, which terms are its own, and what relating in it registers and spends.
use Rattle.std.specs.Prelude.{◌≡◌, ◌+◌, ◌≤◌, ℕ, List, IsTrue, IfOk, Result, [], All, length}
use Rattle.std.specs.Global.{Vec}
use Rattle.std.specs.Result.{IsOkAnd}
use Rattle.relation_terms.specs.declared.predicate.regions.OutlivesPredicate.{OutlivesPredicate}
use Rattle.term_enums.specs.declared.Variance.{Variance}
use Rattle.relation_terms.specs.declared.terms.goal.Goal.{Goal}
use Rattle.relation_terms.specs.declared.terms.keys.TyKey.{TyKey}
use Rattle.relation_terms.specs.declared.terms.keys.ConstKey.{ConstKey}
use Rattle.relation_terms.specs.declared.terms.keys.RegionKey.{RegionKey}
use Rattle.relation_terms.specs.declared.terms.keys.PredicateKey.{PredicateKey}
use Rattle.relation_terms.specs.declared.terms.keys.ParamEnvKey.{ParamEnvKey}
use Rattle.relation_terms.specs.Heads.{type_var}
use Rattle.relation_terms.specs.Trees.{known}
use Rattle.relation_terms.specs.Meaning.{Meaning}
use Rattle.relation_folds.specs.declared.error.RelateFault.{RelateFault}
use Rattle.relation_semantics.specs.Stores.{Store, IsTermIn, IsRegionIn, all_bound}
use Rattle.relation_semantics.specs.Goals.{goals_of, KnowsGoal, Registered}
use Rattle.relation_semantics.specs.Bound.{IsWellBound}
use Rattle.relation_semantics.specs.Lawful.{items_of}
use Rattle.relation_semantics.specs.Settings.{Settings, Setup}

-- A context as it stands: what the keys of its interner mean, what it has recorded of variables and regions, and its
-- own invariant; how it was made, the types that are to outlive regions in the order in which that was registered, and
-- of each type variable the root of those that it is marked as related to.
pub record Context (Key Id Name : Type 0) : Type 1 where
  pub meaning : Meaning Key Id Name
  pub store : Store
  pub lawful : Type 0
  pub setup : Setup Key
  pub outliving : List (OutlivesPredicate Key (TyKey Key))
  pub sub_root : ℕ → ℕ

module _ {Key Id Name : Type 0} where
  -- The interner knows the environment, the type, or the constant.
  abbrev pub KnowsEnv : Context Key Id Name → ParamEnvKey Key → Type 0
  KnowsEnv c e = IsTrue (known ((c.meaning).param_env e))

  abbrev pub KnowsTy : Context Key Id Name → TyKey Key → Type 0
  KnowsTy c t = IsTrue (known ((c.meaning).ty t))

  abbrev pub KnowsConst : Context Key Id Name → ConstKey Key → Type 0
  KnowsConst c t = IsTrue (known ((c.meaning).const_ t))

  -- The constant may be related: its binders bind by their lists.
  abbrev pub TakesConst : Context Key Id Name → ConstKey Key → Type 0
  TakesConst c t = IsWellBound ((c.meaning).const_ t)

  -- The variables in the type, or the constant, are the context's, and nothing in it is of a later universe or escapes
  -- a binder.
  abbrev pub HasTy : Context Key Id Name → TyKey Key → Type 0
  HasTy c t = IsTermIn c.store ((c.meaning).ty t)

  abbrev pub HasConst : Context Key Id Name → ConstKey Key → Type 0
  HasConst c t = IsTermIn c.store ((c.meaning).const_ t)

  -- A region of the context.
  abbrev pub HasRegion : Context Key Id Name → RegionKey Key → Type 0
  HasRegion c r = IsRegionIn c.store ((c.meaning).region r)

  -- A type variable that is not made is marked as related to no other.
  abbrev pub MarksNoUnmade : Context Key Id Name → Type 0
  MarksNoUnmade c = (n : ℕ) → length ((c.store).entries type_var) ≤ n → c.sub_root n ≡ n

-- Between a context before the call and after it.
module _ {Key Id Name : Type 0} (c d : Context Key Id Name) where
  -- Each goal is known, and registered in the environment, as relating is set up: that of two type variables, each
  -- unbound before or made on the way, the one is a subtype of the other; that a type with a bivariant part is well
  -- formed; that an alias and another term are one or in order; or that too much was met.
  abbrev pub RegistersGoals : Settings → ParamEnvKey Key → Variance →
      Result (Vec (Goal Key (PredicateKey Key))) (RelateFault Key Id Name) → Type 0
  RegistersGoals k e v result = IfOk result (λ goals. All (KnowsGoal d.meaning) goals.items × All (Registered
      (items_of c.meaning) k v ((c.meaning).param_env e) c.store d.store) (goals_of d.meaning goals.items))

  -- No goal is answered, and nothing is recorded.
  abbrev pub DoesNothing : Result (Vec (Goal Key (PredicateKey Key))) (RelateFault Key Id Name) → Type 0
  DoesNothing result = IsOkAnd result (λ goals. goals.items ≡ []) × (d.store ≡ c.store)

  -- Each variable of a type or a constant that was newly bound has taken one instantiation, and nothing else has.
  abbrev pub SpendsByBinding : Type 0
  SpendsByBinding = (c.store).budget + all_bound c.store ≡ (d.store).budget + all_bound d.store
