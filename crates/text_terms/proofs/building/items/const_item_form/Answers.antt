use Rattle.std.proofs.Common.{◌≡◌, ◌⊎◌, ℕ, Some, inl, inr, sym, ap}
use Rattle.relation_terms.specs.Heads.{unevaluated}
use Rattle.relation_terms.specs.Trees.{Tree, node}
use Rattle.text_reading.specs.declared.reading.tree.ItemSort.{ItemSort}
use Rattle.text_reading.specs.declared.reading.tree.ItemSort.TheVariants.{AssocConst, FreeConst, InherentConst}
use Rattle.text_terms.specs.Terms.{item_tree}
use Rattle.text_terms.proofs.building.items.const_item_form.Goals as goal

-- A constant that is an item, of each sort.
constant : (s : ItemSort) → (s ≡ AssocConst) ⊎ ((s ≡ FreeConst) ⊎ (s ≡ InherentConst)) → (d : ℕ) (ts : Tree) →
    node (unevaluated d) ts ≡ item_tree s (Some d) ts
constant s (inl e) d ts = sym (ap (λ x. item_tree x (Some d) ts) e)
constant s (inr (inl e)) d ts = sym (ap (λ x. item_tree x (Some d) ts) e)
constant s (inr (inr e)) d ts = sym (ap (λ x. item_tree x (Some d) ts) e)

pub returns-in-AssocConst : goal.returns-in-AssocConst
returns-in-AssocConst g c m = ((λ k. k), constant c.args.sort c.in-AssocConst.is (m.id c.args.id) (m.args c.args.args))
