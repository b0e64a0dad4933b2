-- The relation of a context: how it stands, and which terms it takes.
use Rattle.std.specs.Prelude.{ℕ, false, List, [], All, IsTrue}
use Rattle.term_enums.specs.declared.Variance.{Variance}
use Rattle.relation_terms.specs.declared.predicate.regions.OutlivesPredicate.{OutlivesPredicate}
use Rattle.relation_terms.specs.declared.terms.goal.Goal.{Goal}
use Rattle.relation_terms.specs.declared.terms.keys.ParamEnvKey.{ParamEnvKey}
use Rattle.relation_terms.specs.declared.terms.keys.PredicateKey.{PredicateKey}
use Rattle.relation_terms.specs.declared.terms.keys.TyKey.{TyKey}
use Rattle.relation_terms.specs.Trees.{Tree, known}
use Rattle.relation_terms.specs.Meaning.{Meaning}
use Rattle.term_enums.specs.declared.StructurallyRelateAliases.{StructurallyRelateAliases}
use Rattle.relation_semantics.specs.Goals.{goals_of, KnowsGoal}
use Rattle.relation_semantics.specs.Lawful.{State, Pair, Kept, Manners, TakesParts, WereRelated}
use Rattle.relation_semantics.specs.Settings.{Settings, Setup, in_coherence}
use Rattle.relation_semantics.specs.Contexts.{Context}
use Rattle.relation_semantics.specs.Stores.{Store}

-- How relating in a context is set up, by how aliases are related and how the context was made. At invariance all
-- arguments are related invariantly.
abbrev pub solver_settings : {Key : Type 0} → StructurallyRelateAliases → Setup Key → Settings
solver_settings aliases s = record {
  structurally_relate_aliases = aliases;
  next_solver = s.is_next_solver;
  coherence = in_coherence s.typing_mode;
  declared_at_invariance = false;
}

-- What a relation of a context holds besides goals and what the context records: the reference to the context, by its
-- name, where it is through one; how aliases are related; how the context was made; the types that are to outlive
-- regions; and the pairs that it remembers. But for these relating leaves it as it is.
pub record Held (Key : Type 0) : Type 0 where
  pub reference : ℕ
  pub structurally_relate_aliases : StructurallyRelateAliases
  pub setup : Setup Key
  pub outliving : List (OutlivesPredicate Key (TyKey Key))
  pub memory : List (Pair Key)

-- What is held of a context, through a reference of this name, where aliases are so related and these pairs remembered.
abbrev pub held_by : {Key Id Name : Type 0} → StructurallyRelateAliases → ℕ → List (Pair Key) → Context Key Id Name →
    Held Key
held_by aliases j ps c = record {
  reference = j;
  structurally_relate_aliases = aliases;
  setup = c.setup;
  outliving = c.outliving;
  memory = ps;
}

-- How relating is set up by it.
abbrev pub settings_by : {Key : Type 0} → Held Key → Settings
settings_by h = solver_settings h.structurally_relate_aliases h.setup

-- With the environment it is all that no step changes.
abbrev pub kept_in : {Key : Type 0} → Held Key → Tree → Kept Key
kept_in h e = record {
  environment = e;
  settings = settings_by h;
  mode = h.setup.typing_mode;
  reference = h.reference;
  outliving = h.outliving;
}

-- An interner knows the environment in which terms are related, and the goals that were registered.
abbrev pub KnowsGoals : {Key Id Name : Type 0} → Meaning Key Id Name → ParamEnvKey Key →
    List (Goal Key (PredicateKey Key)) → Type 0
KnowsGoals m e gs = IsTrue (known (m.param_env e)) × All (KnowsGoal m) gs

-- It takes all variables at each variance, it is exact at invariance, it records just what is asked of regions and of
-- bare terms, it registers just one goal of two type variables, and what it relates agrees.
abbrev pub solver_manner : Manners
solver_manner k = record {
  takes = λ v l. Unit {0};
  is_exact = Unit {0};
  records_asked = Unit {0};
  registers_alone = Unit {0};
  relates_agreeing = Unit {0};
}

pub solver_takes : TakesParts solver_manner
solver_takes k c h i v l f = tt

-- The pairs that are remembered were related, by what is recorded and these goals in the environment.
abbrev pub HeldRelated : {Key Id Name : Type 0} → Held Key → Meaning Key Id Name → Store →
    List (Goal Key (PredicateKey Key)) → ParamEnvKey Key → Type 0
HeldRelated h m st gs e = WereRelated (solver_manner (settings_by h)) (settings_by h) m st (goals_of m gs) (m.param_env e)
    h.memory

-- In a context terms are related at a variance, in an environment, with these goals registered.
abbrev pub solving : {Key Id Name : Type 0} → Held Key → List (Goal Key (PredicateKey Key)) → Meaning Key Id Name →
    Store → Type 0 → Variance → ParamEnvKey Key → State Key Id Name
solving h gs m st lawful v e = record {
  meaning = m;
  store = st;
  goals = goals_of m gs;
  kept = kept_in h (m.param_env e);
  ambient = v;
  remembered = h.memory;
  lawful = (lawful × HeldRelated h m st gs e) × KnowsGoals m e gs;
}

-- The same in a context through a reference of this name, where these pairs are remembered.
abbrev pub solving_through : {Key Id Name : Type 0} → StructurallyRelateAliases → ℕ → List (Pair Key) →
    List (Goal Key (PredicateKey Key)) → Context Key Id Name → Variance → ParamEnvKey Key → State Key Id Name
solving_through aliases j ps gs c v e = solving (held_by aliases j ps c) gs c.meaning c.store c.lawful v e

-- The same in a context by itself, through no reference, where nothing is remembered.
abbrev pub solving_in : {Key Id Name : Type 0} → StructurallyRelateAliases → List (Goal Key (PredicateKey Key)) →
    Context Key Id Name → Variance → ParamEnvKey Key → State Key Id Name
solving_in aliases gs c v e = solving_through aliases 0 [] gs c v e
