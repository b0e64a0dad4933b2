-- What a table's items state is known, and binds in itself alone.
use Rattle.std.specs.Prelude.{ℕ, suc, ◌<◌, ◌≡◌, Bool, true, false, cond, nat_eq, length, List}
use Rattle.std.specs.List.{All}
use Rattle.std.specs.Coded.{×_prop, Π_prop, Unit-prop, le_prop, Coded-set, coded_bool, coded_ℕ}
use Rattle.relation_terms.specs.Heads.{Leaf, bound}
use Rattle.relation_terms.specs.Trees.{Tree, leaf, node, bind, nil, cons, known}
use Rattle.relation_terms.specs.Flags.{outer_exclusive_binder}
use Rattle.relation_terms.specs.Meaning.{Meaning}
use Rattle.relation_terms.specs.Owned.{IsWithin, AreWithin, BindsWithin, IsOwn, IsStated, IsStatedBound}
use Rattle.relation_terms.specs.Owned.{bound_tree}
use Rattle.reference_interner.specs.declared.keys.NodeKey.{NodeKey}
use Rattle.reference_interner.specs.declared.keys.ItemId.{ItemId}
use Rattle.reference_interner.specs.declared.keys.SymbolId.{SymbolId}
use Rattle.reference_interner.specs.declared.node.Node.{Node}
use Rattle.reference_interner.specs.declared.items.Item.{Item}
use Rattle.reference_interner.specs.Items.{no_items, supers_of, implied_of, bounds_of}
use Rattle.reference_interner.specs.Nodes.{table_meaning}

-- All that an item states is known, and binds in itself alone.
pub record ItemStatesOwn (m : Meaning NodeKey ItemId SymbolId) (x : Item) : Type 0 where
  pub supers : All (IsStated m) (supers_of x)
  pub implied : All (IsStated m) (implied_of x)
  pub bounds : All (IsStatedBound m) (bounds_of x)

-- The same of all items of a table, whose terms do not depend on them.
abbrev pub AllStated : List Node → List Item → Type 0
AllStated ns xs = All (ItemStatesOwn (table_meaning no_items ns)) xs

-- Each of these has one proof.
choice_prop : (b : Bool) (A : Type 0) → IsProp A → IsProp (cond b A (Unit {0}))
choice_prop true A p = p
choice_prop false A p = Unit-prop

leaf_prop : (n depth : ℕ) (l : Leaf) → IsProp (IsWithin n depth l)
leaf_prop n depth (bound k d i) = choice_prop (nat_eq d depth) (i < n) le_prop
leaf_prop n depth l = Unit-prop

within_prop : (n depth : ℕ) (t : Tree) → IsProp (AreWithin n depth t)
within_prop n depth (leaf l) = leaf_prop n depth l
within_prop n depth (node h ts) = within_prop n depth ts
within_prop n depth (bind ks t) = within_prop n (suc depth) t
within_prop n depth nil = Unit-prop
within_prop n depth (cons t ts) = ×_prop (within_prop n depth t) (within_prop n depth ts)

binds_prop : (t : Tree) → IsProp (BindsWithin t)
binds_prop (bind ks t) = within_prop (length ks) 0 t
binds_prop t = Unit-prop

own_prop : (t : Tree) → IsProp (IsOwn t)
own_prop t = ×_prop (binds_prop t) (Coded-set coded_ℕ (outer_exclusive_binder t) 0)

known_own_prop : (t : Tree) → IsProp ((known t ≡ true) × IsOwn t)
known_own_prop t = ×_prop (Coded-set coded_bool (known t) true) (own_prop t)

all_prop : {A : Type 0} (P : A → Type 0) → ((x : A) → IsProp (P x)) → (xs : List A) → IsProp (All P xs)
all_prop P p xs = Π_prop (λ k. Π_prop (λ d. Π_prop (λ h. p _)))

item_prop : (m : Meaning NodeKey ItemId SymbolId) (x : Item) → IsProp (ItemStatesOwn m x)
item_prop m x = λ a b i. record {
  supers = all_prop (IsStated m) (λ k. known_own_prop (m.clause k)) (supers_of x) a.supers b.supers i;
  implied = all_prop (IsStated m) (λ k. known_own_prop (m.clause k)) (implied_of x) a.implied b.implied i;
  bounds = all_prop (IsStatedBound m) (λ k. known_own_prop (bound_tree m k)) (bounds_of x) a.bounds b.bounds i;
}

pub stated_prop : (ns : List Node) (xs : List Item) → IsProp (AllStated ns xs)
stated_prop ns xs = all_prop (ItemStatesOwn (table_meaning no_items ns)) (item_prop (table_meaning no_items ns)) xs
