-- What adding an item changes.
use Rattle.std.specs.Prelude.{◌≡◌, ◌≢◌, ℕ, List, [], None, length, Result, IfOk, IsFalse}
use Rattle.std.specs.Global.{Vec}
use Rattle.term_enums.specs.declared.Variance.{Variance}
use Rattle.relation_terms.specs.Meaning.{Meaning}
use Rattle.term_enums.specs.declared.SolverTraitLangItem.{SolverTraitLangItem}
use Rattle.relation_terms.specs.declared.terms.keys.TyKey.{TyKey}
use Rattle.relation_terms.specs.declared.terms.keys.RegionKey.{RegionKey}
use Rattle.relation_terms.specs.declared.terms.keys.ConstKey.{ConstKey}
use Rattle.relation_terms.specs.declared.terms.keys.ArgsKey.{ArgsKey}
use Rattle.relation_terms.specs.declared.terms.keys.TysKey.{TysKey}
use Rattle.relation_terms.specs.declared.terms.keys.PatKey.{PatKey}
use Rattle.relation_terms.specs.declared.terms.keys.ValTreeKey.{ValTreeKey}
use Rattle.relation_terms.specs.declared.terms.keys.BranchesKey.{BranchesKey}
use Rattle.relation_terms.specs.declared.terms.keys.AlternativesKey.{AlternativesKey}
use Rattle.relation_terms.specs.declared.terms.keys.ExistentialPredicatesKey.{ExistentialPredicatesKey}
use Rattle.relation_terms.specs.declared.terms.keys.BoundVarsKey.{BoundVarsKey}
use Rattle.relation_terms.specs.declared.terms.keys.PredicateKey.{PredicateKey}
use Rattle.relation_terms.specs.declared.terms.keys.ClauseKey.{ClauseKey}
use Rattle.relation_terms.specs.declared.terms.keys.ClausesKey.{ClausesKey}
use Rattle.relation_terms.specs.declared.terms.keys.ParamEnvKey.{ParamEnvKey}
use Rattle.reference_interner.specs.declared.keys.NodeKey.{NodeKey}
use Rattle.reference_interner.specs.declared.keys.ItemId.{ItemId}
use Rattle.reference_interner.specs.declared.keys.SymbolId.{SymbolId}
use Rattle.reference_interner.specs.declared.items.Item.{Item}
use Rattle.reference_interner.specs.declared.items.ItemKind.{ItemKind}
use Rattle.reference_interner.specs.declared.RefInterner.{RefInterner}
use Rattle.reference_interner.specs.Items.{Items, alias_variances_of}
use Rattle.reference_interner.specs.Nodes.{table_meaning}

-- The items that were added, and which solver is on.
abbrev pub items_in : RefInterner → Items
items_in s = record { list = s.items.items; next_solver = s.next_solver }

-- What the keys and ids of an interner mean.
abbrev pub meaning_in : RefInterner → Meaning NodeKey ItemId SymbolId
meaning_in s = table_meaning (items_in s) s.nodes

-- The items that were added, in order.
abbrev pub items_of : RefInterner → List Item
items_of s = s.items.items

-- How many nodes there are, of all sorts.
abbrev pub node_count : RefInterner → ℕ
node_count s = length s.nodes

-- How many items were added.
abbrev pub item_count : RefInterner → ℕ
item_count s = length (items_of s)

module _ {Key Id Name : Type 0} (m n : Meaning Key Id Name) where
  -- Each key has one tree by both, and each id and each name one number.
  pub record SameTerms : Type 0 where
    pub ty : (k : TyKey Key) → n.ty k ≡ m.ty k
    pub region : (k : RegionKey Key) → n.region k ≡ m.region k
    pub const_ : (k : ConstKey Key) → n.const_ k ≡ m.const_ k
    pub args : (k : ArgsKey Key) → n.args k ≡ m.args k
    pub tys : (k : TysKey Key) → n.tys k ≡ m.tys k
    pub pat : (k : PatKey Key) → n.pat k ≡ m.pat k
    pub valtree : (k : ValTreeKey Key) → n.valtree k ≡ m.valtree k
    pub branches : (k : BranchesKey Key) → n.branches k ≡ m.branches k
    pub alternatives : (k : AlternativesKey Key) → n.alternatives k ≡ m.alternatives k
    pub existential_predicates : (k : ExistentialPredicatesKey Key) →
        n.existential_predicates k ≡ m.existential_predicates k
    pub bound_vars : (k : BoundVarsKey Key) → n.bound_vars k ≡ m.bound_vars k
    pub predicate : (k : PredicateKey Key) → n.predicate k ≡ m.predicate k
    pub clause : (k : ClauseKey Key) → n.clause k ≡ m.clause k
    pub clauses : (k : ClausesKey Key) → n.clauses k ≡ m.clauses k
    pub param_env : (k : ParamEnvKey Key) → n.param_env k ≡ m.param_env k
    pub id : (d : Id) → n.id d ≡ m.id d
    pub name : (s : Name) → n.name s ≡ m.name s

  -- The items of all numbers but one have the generic parameters that they had, and what the tables say of them.
  pub record OthersStand (d : ℕ) : Type 0 where
    pub generics : (e : ℕ) → e ≢ d → n.generics e ≡ m.generics e
    pub variances : (e : ℕ) → e ≢ d → n.variances e ≡ m.variances e
    pub alias_variances : (e : ℕ) → e ≢ d → n.alias_variances e ≡ m.alias_variances e
    pub parent : (e : ℕ) → e ≢ d → (n.tables).parent e ≡ (m.tables).parent e
    pub is_auto : (e : ℕ) → e ≢ d → (n.tables).is_auto e ≡ (m.tables).is_auto e
    pub is_lang_item : (e : ℕ) → e ≢ d → (i : SolverTraitLangItem) →
        (n.tables).is_lang_item e i ≡ (m.tables).is_lang_item e i
    pub alias_kind : (e : ℕ) → e ≢ d → (n.tables).alias_kind e ≡ (m.tables).alias_kind e
    pub next_solver : (n.tables).next_solver ≡ (m.tables).next_solver
    pub super_predicates : (e : ℕ) → e ≢ d → (n.tables).super_predicates e ≡ (m.tables).super_predicates e
    pub implied_predicates : (e : ℕ) → e ≢ d → (n.tables).implied_predicates e ≡ (m.tables).implied_predicates e
    pub const_bounds : (e : ℕ) → e ≢ d → (n.tables).const_bounds e ≡ (m.tables).const_bounds e
    pub params : (e : ℕ) → e ≢ d → (n.tables).params e ≡ (m.tables).params e

-- The item of a number has no generic parameters.
pub record HasNoGenerics {Key Id Name : Type 0} (m : Meaning Key Id Name) (d : ℕ) : Type 0 where
  pub generics : m.generics d ≡ 0
  pub variances : m.variances d ≡ []
  pub alias_variances : m.alias_variances d ≡ None
  pub params : (m.tables).params d ≡ []

-- The item of a number states nothing.
pub record StatesNothing {Key Id Name : Type 0} (m : Meaning Key Id Name) (d : ℕ) : Type 0 where
  pub super_predicates : (m.tables).super_predicates d ≡ []
  pub implied_predicates : (m.tables).implied_predicates d ≡ []
  pub const_bounds : (m.tables).const_bounds d ≡ []

-- An alias type of the item of a number is related at the variances that its kind gives.
abbrev pub HasAliasVariances : {Key Id Name : Type 0} → Meaning Key Id Name → ℕ → ItemKind → Vec Variance → Type 0
HasAliasVariances m d kind vs = m.alias_variances d ≡ alias_variances_of kind.def vs.items

-- The item that was made is none that the language knows.
abbrev pub MakesNoLangItem : {Key Id Name E : Type 0} → Meaning Key Id Name → Result ItemId E → Type 0
MakesNoLangItem m result = (i : SolverTraitLangItem) → IfOk result (λ d. IsFalse ((m.tables).is_lang_item d.0 i))
