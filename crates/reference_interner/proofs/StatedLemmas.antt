-- What items state, where nodes and items are added and where items change.
use Rattle.std.proofs.Common.{ℕ, zero, suc, ◌≡◌, ◌<◌, IsTrue, List, [], ◌∷◌, ◌++◌, length, get_or, slice_set, subst, sym}
use Rattle.std.proofs.Common.{Bool, true, false, if◌then◌else◌, arith}
use Rattle.std.specs.List.{All}
use Rattle.std.proofs.lemmas.List.Elements.{All-append, All-nil, All-set}
use Rattle.relation_terms.specs.Trees.{Tree, known}
use Rattle.relation_terms.specs.Meaning.{Meaning, Extends}
use Rattle.relation_terms.specs.Predicates.{trait_ref_tree}
use Rattle.relation_terms.specs.Owned.{IsOwn, IsStated, IsStatedBound, bound_tree}
use Rattle.relation_terms.specs.declared.terms.binder.Binder.{Binder}
use Rattle.relation_terms.specs.declared.terms.keys.ClauseKey.{ClauseKey}
use Rattle.relation_terms.specs.declared.predicate.trait_ref.TraitRef.{TraitRef}
use Rattle.relation_terms.proofs.Binders.{under_stays}
use Rattle.relation_terms.proofs.Predicates.{stays_trait_ref}
use Rattle.reference_interner.specs.declared.keys.NodeKey.{NodeKey}
use Rattle.reference_interner.specs.declared.keys.ItemId.{ItemId}
use Rattle.reference_interner.specs.declared.keys.SymbolId.{SymbolId}
use Rattle.reference_interner.specs.declared.node.Node.{Node}
use Rattle.reference_interner.specs.declared.items.Item.{Item}
use Rattle.reference_interner.specs.Items.{no_items, supers_of, implied_of, bounds_of}
use Rattle.reference_interner.specs.Nodes.{table_meaning}
use Rattle.reference_interner.specs.Stated.{ItemStatesOwn, AllStated}
use Rattle.reference_interner.proofs.TableLemmas.{extends_node}

-- A tree that is known and its own is so where it stays.
pub own_stays : (t u : Tree) → (IsTrue (known t) → u ≡ t) → IsTrue (known t) × IsOwn t → IsTrue (known u) × IsOwn u
own_stays t u e h = subst (λ v. IsTrue (known v) × IsOwn v) (sym (e h.0)) h

module _ {m n : Meaning NodeKey ItemId SymbolId} (e : Extends m n) where
  clause_stays : (k : ClauseKey NodeKey) → IsStated m k → IsStated n k
  clause_stays k h = own_stays (m.clause k) (n.clause k) (e.clause k) h

  bound_stays : (b : Binder NodeKey (TraitRef NodeKey ItemId)) → IsStatedBound m b → IsStatedBound n b
  bound_stays b h =
      own_stays (bound_tree m b) (bound_tree n b)
      (under_stays (m.bound_vars b.bound_vars) (n.bound_vars b.bound_vars) (trait_ref_tree m b.value)
      (trait_ref_tree n b.value) (e.bound_vars b.bound_vars) (stays_trait_ref e b.value)) h

  item_stays : (x : Item) → ItemStatesOwn m x → ItemStatesOwn n x
  item_stays x s = record {
    supers = λ k d h. clause_stays (get_or (supers_of x) k d) (s.supers k d h);
    implied = λ k d h. clause_stays (get_or (implied_of x) k d) (s.implied k d h);
    bounds = λ k d h. bound_stays (get_or (bounds_of x) k d) (s.bounds k d h);
  }

-- What items state stays where a node is added.
pub stated_node : (ns : List Node) (n : Node) (xs : List Item) → AllStated ns xs → AllStated (ns ++ n ∷ []) xs
stated_node ns n xs a = λ k d h. item_stays (extends_node no_items ns n) (get_or xs k d) (a k d h)

-- An item that states nothing may be added.
nothing_stated : (m : Meaning NodeKey ItemId SymbolId) (x : Item) → supers_of x ≡ [] → implied_of x ≡ [] →
    bounds_of x ≡ [] → ItemStatesOwn m x
nothing_stated m x s i b = record {
  supers = subst (All (IsStated m)) (sym s) (All-nil (IsStated m));
  implied = subst (All (IsStated m)) (sym i) (All-nil (IsStated m));
  bounds = subst (All (IsStatedBound m)) (sym b) (All-nil (IsStatedBound m));
}

all_one : (P : Item → Type 0) (x : Item) → P x → All P (x ∷ [])
all_one P x p zero d h = p
all_one P x p (suc k) d h = absurd (omega arith)

pub stated_item : (ns : List Node) (xs ys : List Item) (x : Item) (b : Bool) → supers_of x ≡ [] → implied_of x ≡ [] →
    bounds_of x ≡ [] → ys ≡ (if b then xs ++ x ∷ [] else xs) → AllStated ns xs → AllStated ns ys
stated_item ns xs ys x true s i b e a =
    let m = table_meaning no_items ns in
    let more = All-append (ItemStatesOwn m) xs (x ∷ []) a (all_one (ItemStatesOwn m) x (nothing_stated m x s i b)) in
    subst (AllStated ns) (sym e) more
stated_item ns xs ys x false s i b e a = subst (AllStated ns) (sym e) a

-- An item may be changed where it states its own after as before.
pub stated_set : (ns : List Node) (xs : List Item) (n : ℕ) (y z : Item) → AllStated ns xs → y ≡ get_or xs n y →
    n < length xs → (ItemStatesOwn (table_meaning no_items ns) y → ItemStatesOwn (table_meaning no_items ns) z) →
    AllStated ns (slice_set xs n z)
stated_set ns xs n y z a e h f =
    let P = ItemStatesOwn (table_meaning no_items ns) in
    All-set P xs n z (f (subst P (sym e) (a n y h))) a
