-- What is ready to be asked about, contexts, and what is answered.
use Rattle.std.specs.Prelude.{◌≡◌, ℕ, ◌<◌, ◌≤◌, List, ◌++◌, replicate, Option, Some, None, IsTrue, length, Result}
use Rattle.std.specs.Prelude.{Ok, Err, IfSome}
use Rattle.std.specs.Global.{Vec}
use Rattle.std.specs.List.{All}
use Rattle.term_enums.specs.declared.Variance.{Variance}
use Rattle.term_enums.specs.declared.Variance.TheVariants.{Invariant}
use Rattle.relation_terms.specs.declared.terms.generic_arg.GenericArgKind.{GenericArgKind}
use Rattle.relation_terms.specs.declared.terms.goal.Goal.{Goal}
use Rattle.relation_terms.specs.declared.terms.keys.LocalDefIdsKey.{LocalDefIdsKey}
use Rattle.relation_terms.specs.declared.terms.keys.PredicateKey.{PredicateKey}
use Rattle.relation_terms.specs.Trees.{Tree, known}
use Rattle.relation_terms.specs.Meaning.{Meaning, arg_tree}
use Rattle.relation_terms.specs.Heads.{VarKind, type_var, int_var, float_var, const_var, region_var}
use Rattle.variable_tables.specs.declared.inner.InferCtxtInner.{InferCtxtInner}
use Rattle.variable_tables.specs.declared.inner.Variable.{Variable}
use Rattle.variable_tables.specs.declared.inner.VariableValue.TheVariants.{Known}
use Rattle.variable_tables.specs.Variables.{value_at, universes_of}
use Rattle.relation_folds.specs.declared.error.RelateFault.{RelateFault}
use Rattle.relation_folds.specs.Faults.{KnowsFault}
use Rattle.relation_coherence.specs.Answers.{KnowsOverlap}
use Rattle.term_enums.specs.declared.StructurallyRelateAliases.{StructurallyRelateAliases}
use Rattle.term_enums.specs.declared.StructurallyRelateAliases.TheVariants.{No, Yes}
use Rattle.relation_semantics.specs.declared.infer_ctxt.TypingMode.{TypingMode}
use Rattle.relation_semantics.specs.declared.infer_ctxt.TypingMode.TheVariants as typing
use Rattle.relation_semantics.specs.Goals.{KnowsGoal}
use Rattle.text_reading.specs.declared.reading.tree.Relation.{Relation}
use Rattle.text_reading.specs.declared.reading.tree.Relation.TheVariants as relation
use Rattle.text_reading.specs.declared.naming.program.Mode.{Mode}
use Rattle.text_reading.specs.declared.naming.program.Mode.TheVariants as mode
use Rattle.text_reading.specs.declared.naming.program.Setup.{Setup}
use Rattle.text_reading.specs.declared.naming.program.Variables.{Variables}
use Rattle.text_reading.specs.declared.naming.program.VariableKind.{VariableKind}
use Rattle.text_reading.specs.declared.naming.program.VariableKind.TheVariants.{Ty, Int, Float, Const, Region}
use Rattle.text_reading.specs.declared.naming.program.VariableId.{VariableId}
use Rattle.text_asking.specs.declared.question.Ready.{Ready}
use Rattle.text_asking.specs.declared.question.Answer.{Answer}
use Rattle.text_asking.specs.declared.question.Answer.TheVariants.{Related, Met, Walked, Components, Folded, Is}
use Rattle.text_asking.specs.declared.question.Answer.TheVariants.{Assumed, Key as key, Pulls, Binding, Overlap, Methods}
use Rattle.text_asking.specs.declared.question.Answer.TheVariants.{Solved, Proved, Impls}
use Rattle.outlives_assumptions.specs.Assumptions.{IsKnown}
use Rattle.text_asking.specs.Meets.{AllKnown}
use Rattle.text_terms.specs.Built.{AreKnown}
use Rattle.text_elaboration.specs.Pulls.{KnowsPulled}
use Rattle.text_asking.specs.Outlives.{KnowsComponents}
use Rattle.text_asking.specs.Proofs.{KnowsTold}
use Rattle.text_users.specs.Solved.{KnowsSolved}

-- Each key that questions are put over is known.
abbrev pub AllReady : {I Key Id Name Span : Type 0} → Meaning Key Id Name → Ready I Key Id Name Span → Type 0
AllReady m terms = AreKnown m terms.built.now

-- The typing mode of that name, in which no opaque types are defined.
abbrev pub typing_mode : {Key : Type 0} → Mode → LocalDefIdsKey Key → TypingMode Key
typing_mode mode.Coherence ids = typing.Coherence
typing_mode mode.Analysis ids = typing.Analysis ids
typing_mode mode.Borrowck ids = typing.Borrowck ids
typing_mode mode.PostBorrowckAnalysis ids = typing.PostBorrowckAnalysis ids
typing_mode mode.PostAnalysis ids = typing.PostAnalysis

-- A context is made for the solver and in the typing mode that a question asks for.
pub record IsSetUp {Key : Type 0} (x : InferCtxtInner Key) (ids : LocalDefIdsKey Key) (s : Setup) : Type 0 where
  pub solver : x.next_solver ≡ s.next_solver
  pub mode : x.mode ≡ typing_mode s.mode ids

-- At which variance two terms are related that are asked to be related so, and whether aliases are by their arguments.
abbrev pub variance_of : Relation → Variance
variance_of (relation.At v) = v
variance_of relation.Structurally = Invariant

abbrev pub aliases_of : Relation → StructurallyRelateAliases
aliases_of (relation.At v) = No
aliases_of relation.Structurally = Yes

-- The kind of variables that contracts speak of by this name.
abbrev pub var_kind : VariableKind → VarKind
var_kind Ty = type_var
var_kind Int = int_var
var_kind Float = float_var
var_kind Const = const_var
var_kind Region = region_var

-- How many variables of a kind a context has.
abbrev pub variables_in : {Key : Type 0} → InferCtxtInner Key → VarKind → ℕ
variables_in x type_var = length x.types.items
variables_in x int_var = length x.ints.items
variables_in x float_var = length x.floats.items
variables_in x const_var = length x.consts.items
variables_in x region_var = length x.regions.items

-- The universes in which a context's variables of a kind stand, by their numbers.
abbrev pub universes_in : {Key : Type 0} → InferCtxtInner Key → VarKind → List ℕ
universes_in x type_var = universes_of x.types.items
universes_in x int_var = universes_of x.ints.items
universes_in x float_var = universes_of x.floats.items
universes_in x const_var = universes_of x.consts.items
universes_in x region_var = universes_of x.regions.items

-- In which universe a variable of a kind is made where the context is in that one: those of numbers name nothing.
abbrev pub home : VarKind → ℕ → ℕ
home int_var u = 0
home float_var u = 0
home k u = u

-- Variables were made in a universe, behind those that there were.
abbrev pub MakesIn : {Key : Type 0} → ℕ → InferCtxtInner Key → InferCtxtInner Key → Type 0
MakesIn u x y = (k : VarKind) → (n : ℕ) × (universes_in y k ≡ universes_in x k ++ replicate n (home k u))

-- A context has the variables of a statement, and is in their universe or in a later one.
pub record HasStated {Key : Type 0} (x : InferCtxtInner Key) (v : Variables) : Type 0 where
  pub types : v.types ≤ variables_in x type_var
  pub consts : v.consts ≤ variables_in x const_var
  pub regions : v.regions ≤ variables_in x region_var
  pub universe : v.universe ≤ (x.universe).0

-- A context has a variable that a question names.
abbrev pub HasNamed : {Key : Type 0} → InferCtxtInner Key → VariableId → Type 0
HasNamed x v = v.number < variables_in x (var_kind v.kind)

-- A number that is there reaches another.
abbrev pub Reaches : Option ℕ → ℕ → Type 0
Reaches None i = ⊥
Reaches (Some n) i = i ≤ n

-- What a relation answered is known: its goals, or why it stopped.
abbrev pub KnowsRelated : {Key Id Name : Type 0} → Meaning Key Id Name →
    Result (Vec (Goal Key (PredicateKey Key))) (RelateFault Key Id Name) → Type 0
KnowsRelated m (Ok goals) = All (KnowsGoal m) goals.items
KnowsRelated m (Err e) = KnowsFault m e

-- What an answer names is known: of a relation, what is asked of its answer.
abbrev pub KnowsAnswer : {R K Key Id Name : Type 0} → Meaning Key Id Name → (R → Type 0) → Answer R K Key Id Name → Type 0
KnowsAnswer m Knows (Related r) = Knows r
KnowsAnswer m Knows (Met x) = AllKnown m x.terms.items
KnowsAnswer m Knows (Walked xs) = AllKnown m xs.items
KnowsAnswer m Knows (Components cs) = KnowsComponents m cs.items
KnowsAnswer m Knows (Assumed all) = All (IsKnown m) all.items
KnowsAnswer m Knows (Folded a) = IsTrue (known (arg_tree m a))
KnowsAnswer m Knows (Is b) = Unit {0}
KnowsAnswer m Knows (key k) = Unit {0}
KnowsAnswer m Knows (Pulls ps) = All (KnowsPulled m) ps.items
KnowsAnswer m Knows (Binding b) = IfSome b (λ a. IsTrue (known (arg_tree m a)))
KnowsAnswer m Knows (Solved s) = KnowsSolved m s
KnowsAnswer m Knows (Overlap of told) = KnowsOverlap m told
KnowsAnswer m Knows (Methods names) = Unit {0}
KnowsAnswer m Knows (Impls told bound) = Unit {0}
KnowsAnswer m Knows (Proved told source) = KnowsTold m told

-- What variables are bound to is known.
abbrev pub AreBoundKnown : {K : Type 0} → (K → Tree) → List (Variable K) → Type 0
AreBoundKnown {K = K} tree vs = (n : ℕ) (t : K) → value_at vs n ≡ Known t → IsTrue (known (tree t))
