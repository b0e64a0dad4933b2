-- The items of a table.
use Rattle.std.specs.Prelude.{◌≡◌, ℕ, Bool, true, false, List, [], ◌∷◌, ◌++◌, suc, zero, Option, Some, None, map, IsFalse}
use Rattle.std.specs.Prelude.{slice_index_or}
use Rattle.relation_terms.specs.Heads.{AliasTermKind, type_alias, unevaluated_const, projection_const, free_const}
use Rattle.relation_terms.specs.Heads.{inherent_const, projection_alias, inherent_alias, opaque_alias, free_alias}
use Rattle.relation_terms.specs.Heads.{BoundKind}
use Rattle.relation_terms.specs.Tables.{Tables}
use Rattle.relation_terms.specs.Owned.{param_kind}
use Rattle.relation_terms.specs.declared.terms.binder.Binder.{Binder}
use Rattle.relation_terms.specs.declared.terms.keys.ClauseKey.{ClauseKey}
use Rattle.relation_terms.specs.declared.terms.generics.GenericParam.{GenericParam}
use Rattle.relation_terms.specs.declared.predicate.trait_ref.TraitRef.{TraitRef}
use Rattle.term_enums.specs.declared.Variance.{Variance}
use Rattle.term_enums.specs.declared.SolverTraitLangItem.{SolverTraitLangItem}
use Rattle.term_enums.specs.declared.SolverTraitLangItem.TheVariants.{Sized}
use Rattle.reference_interner.specs.declared.items.DefKind.{DefKind}
use Rattle.reference_interner.specs.declared.items.DefKind.TheVariants.{AssocTy, AssocConst, InherentAssocTy}
use Rattle.reference_interner.specs.declared.items.DefKind.TheVariants.{InherentAssocConst, OpaqueTy, FreeTyAlias}
use Rattle.reference_interner.specs.declared.items.DefKind.TheVariants.{FreeConstAlias, AnonConst}
use Rattle.reference_interner.specs.declared.items.ItemKind.{ItemKind}
use Rattle.reference_interner.specs.declared.items.Item.{Item}
use Rattle.reference_interner.specs.declared.keys.NodeKey.{NodeKey}
use Rattle.reference_interner.specs.declared.keys.ItemId.{ItemId}
use Rattle.reference_interner.specs.declared.keys.NoSpan.{NoSpan}
use Rattle.reference_interner.specs.declared.keys.SymbolId.{SymbolId}
use Rattle.std.specs.Global.{Vec}

-- The items of a table, in order, and whether the next solver is on everywhere.
pub record Items : Type 0 where
  pub list : List Item
  pub next_solver : Bool

abbrev pub no_items : Items
no_items = record { list = []; next_solver = false }

-- What is read of the item of a number, and what of a number that no item has.
abbrev pub read_at : {A : Type 0} → (Item → A) → A → Items → ℕ → A
read_at reads none items n = slice_index_or (map reads items.list) n none

-- The variances that are declared of the item of a number; none of a number that no item has.
abbrev pub variances_at : Items → ℕ → List Variance
variances_at items n = read_at (λ x. x.variances.items) [] items n

-- The variances at which an alias type of an item is related: an opaque type has those that are declared of it, all
-- others have none.
abbrev pub alias_variances_of : DefKind → List Variance → Option (List Variance)
alias_variances_of OpaqueTy vs = Some vs
alias_variances_of k vs = None

-- The same of the item of a number.
abbrev pub alias_variances_at : Items → ℕ → Option (List Variance)
alias_variances_at items n = read_at (λ x. alias_variances_of x.kind.def x.variances.items) None items n

-- The number of the trait that declares an item of a kind.
abbrev pub parent_of : DefKind → Option ℕ
parent_of (AssocTy t) = Some (t.0).0
parent_of (AssocConst t) = Some (t.0).0
parent_of k = None

-- Which kind of alias an item of a kind is.
abbrev pub alias_kind_of : DefKind → Option AliasTermKind
alias_kind_of (AssocTy t) = Some (type_alias projection_alias)
alias_kind_of InherentAssocTy = Some (type_alias inherent_alias)
alias_kind_of OpaqueTy = Some (type_alias opaque_alias)
alias_kind_of FreeTyAlias = Some (type_alias free_alias)
alias_kind_of (AssocConst t) = Some projection_const
alias_kind_of InherentAssocConst = Some inherent_const
alias_kind_of FreeConstAlias = Some free_const
alias_kind_of AnonConst = Some unevaluated_const
alias_kind_of k = None

-- Whether an item is the trait that the language knows as this.
abbrev pub is_lang : SolverTraitLangItem → Item → Bool
is_lang Sized x = x.is_sized

-- The clauses of a list with their places.
abbrev pub clauses_in : Vec (ClauseKey NodeKey × NoSpan) → List (ClauseKey NodeKey)
clauses_in clauses = map (λ p. p.0) clauses.items

-- The super-predicates of an item, all predicates that it implies, and its const bounds.
abbrev pub supers_of : Item → List (ClauseKey NodeKey)
supers_of x = clauses_in x.super_predicates

abbrev pub implied_of : Item → List (ClauseKey NodeKey)
implied_of x = clauses_in x.implied_predicates

abbrev pub bounds_of : Item → List (Binder NodeKey (TraitRef NodeKey ItemId))
bounds_of x = x.const_bounds.items

-- What each generic parameter of an item stands for, with its name.
abbrev pub param_named : GenericParam SymbolId → BoundKind
param_named p = param_kind p.kind (p.name).0

abbrev pub params_of : ItemKind → List BoundKind
params_of kind = map param_named kind.params.items

-- What the tables say of the items.
abbrev pub tables_of : Items → Tables NodeKey ItemId
tables_of items = record {
  parent = λ n. read_at (λ x. parent_of x.kind.def) None items n;
  is_auto = λ n. read_at (λ x. x.is_auto) false items n;
  is_lang_item = λ n i. read_at (is_lang i) false items n;
  alias_kind = λ n. read_at (λ x. alias_kind_of x.kind.def) None items n;
  next_solver = items.next_solver;
  super_predicates = λ n. read_at supers_of [] items n;
  implied_predicates = λ n. read_at implied_of [] items n;
  const_bounds = λ n. read_at bounds_of [] items n;
  params = λ n. read_at (λ x. params_of x.kind) [] items n;
}

-- The second list is the first with a new item behind, of which nothing is said but its kind, name and variances.
pub record IsPutBehind (before after : List Item) (k : ItemKind) (n : SymbolId) (vs : Vec Variance) : Type 0 where
  pub item : Item
  pub put : after ≡ before ++ item ∷ []
  pub kind : item.kind ≡ k
  pub name : item.name ≡ n
  pub variances : item.variances ≡ vs
  pub no_auto : IsFalse item.is_auto
  pub no_sized : IsFalse item.is_sized
  pub no_supers : supers_of item ≡ []
  pub no_implied : implied_of item ≡ []
  pub no_bounds : bounds_of item ≡ []

-- The list with the item of a number changed.
abbrev pub changed_at : (Item → Item) → List Item → ℕ → List Item
changed_at change [] n = []
changed_at change (x ∷ xs) zero = change x ∷ xs
changed_at change (x ∷ xs) (suc n) = x ∷ changed_at change xs n

-- An item that is said to be an auto trait, and one that is said to be the trait `Sized`.
abbrev pub said_auto : Item → Item
said_auto x = record x { is_auto = true }

abbrev pub said_sized : Item → Item
said_sized x = record x { is_sized = true }

-- An item with these super-predicates, with these predicates that it implies, and with these const bounds.
abbrev pub with_supers : Vec (ClauseKey NodeKey × NoSpan) → Item → Item
with_supers clauses x = record x { super_predicates = clauses }

abbrev pub with_implied : Vec (ClauseKey NodeKey × NoSpan) → Item → Item
with_implied clauses x = record x { implied_predicates = clauses }

abbrev pub with_bounds : Vec (Binder NodeKey (TraitRef NodeKey ItemId)) → Item → Item
with_bounds bounds x = record x { const_bounds = bounds }
