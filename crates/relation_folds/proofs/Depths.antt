-- How deep the parts of a known part stand.
use Rattle.std.proofs.Common.{◌≡◌, ℕ, suc, refl, ap, sym, IsTrue, Bool, true, false, List, Option, Some, None}
use Rattle.relation_terms.specs.Heads.{Sort, BoundKind, binder_sort}
use Rattle.relation_terms.specs.Trees.{Tree, leaf, node, bind, nil, cons, known}
use Rattle.relation_terms.specs.Meaning.{Meaning, under}
use Rattle.relation_terms.specs.Parts.{part_tree, tree_sort, body_tree}
use Rattle.relation_terms.specs.declared.terms.part_kind.Part.{Part}
use Rattle.relation_terms.specs.declared.terms.part_kind.Part.TheVariants.{Region, Ty, Const, ValTree, Pat, ValueType}
use Rattle.relation_terms.specs.declared.terms.part_kind.Part.TheVariants.{Binder, Signature, Inputs, Existential}
use Rattle.relation_terms.specs.declared.terms.part_kind.Part.TheVariants.{Object}
use Rattle.relation_terms.specs.Interning.{Sorted}
use Rattle.relation_terms.proofs.Parts.{sort_known}
use Rattle.relation_folds.specs.Folds.{inside_part}
use Rattle.relation_folds.specs.Visits.{deeper, told_inside_part, is_visited}

-- How many binders stand around the parts of a tree: those around the tree, and the tree itself where it is one.
abbrev pub inside : Tree → ℕ → ℕ
inside (bind ks t) depth = suc depth
inside t depth = depth

-- The depth that a visitor is told at the parts of a tree.
abbrev pub told_inside : Tree → ℕ → ℕ
told_inside (bind ks t) d = deeper d
told_inside t d = d

-- The sort of a binder.
abbrev pub is_binder : Sort → Bool
is_binder (binder_sort s) = true
is_binder s = false

-- What is of another sort is no binder.
unbound : (t : Tree) (s : Sort) (d : ℕ) → tree_sort t ≡ s → is_binder s ≡ false → inside t d ≡ d
unbound (bind ks t) s d e f = absurd (let g : true ≡ is_binder s = ap is_binder e in cc)
unbound (leaf l) s d e f = refl
unbound (node h ts) s d e f = refl
unbound nil s d e f = refl
unbound (cons t ts) s d e f = refl

untold : (t : Tree) (s : Sort) (d : ℕ) → tree_sort t ≡ s → is_binder s ≡ false → told_inside t d ≡ d
untold (bind ks t) s d e f = absurd (let g : true ≡ is_binder s = ap is_binder e in cc)
untold (leaf l) s d e f = refl
untold (node h ts) s d e f = refl
untold nil s d e f = refl
untold (cons t ts) s d e f = refl

-- What is known under a binder is one.
under_inside : (o : Option (List BoundKind)) (t : Tree) (d : ℕ) → IsTrue (known (under o t)) →
    inside (under o t) d ≡ suc d
under_inside (Some ks) t d k = refl
under_inside None t d k = absurd (cc)

under_told : (o : Option (List BoundKind)) (t : Tree) (d : ℕ) → IsTrue (known (under o t)) →
    told_inside (under o t) d ≡ deeper d
under_told (Some ks) t d k = refl
under_told None t d k = absurd (cc)

module _ {Key Id Name : Type 0} (m : Meaning Key Id Name) (s : Sorted m) where
  pub inside_known : (p : Part Key Id) (d : ℕ) → IsTrue (known (part_tree m p)) →
      inside_part p d ≡ inside (part_tree m p) d
  inside_known (Binder vs b) d k = sym (under_inside (m.bound_vars vs) (body_tree m b) d k)
  inside_known (Region r) d k = sym (unbound (m.region r) _ d (sort_known m s (Region r) k) refl)
  inside_known (Ty t) d k = sym (unbound (m.ty t) _ d (sort_known m s (Ty t) k) refl)
  inside_known (Const c) d k = sym (unbound (m.const_ c) _ d (sort_known m s (Const c) k) refl)
  inside_known (ValTree v) d k = sym (unbound (m.valtree v) _ d (sort_known m s (ValTree v) k) refl)
  inside_known (Pat q) d k = sym (unbound (m.pat q) _ d (sort_known m s (Pat q) k) refl)
  inside_known (ValueType t) d k = refl
  inside_known (Signature g) d k = refl
  inside_known (Inputs t) d k = refl
  inside_known (Existential q) d k =
      sym (unbound (part_tree m (Existential q)) _ d (sort_known m s (Existential q) k) refl)
  inside_known (Object o) d k = refl

  pub told_known : (p : Part Key Id) (d : ℕ) → IsTrue (known (part_tree m p)) →
      told_inside_part p d ≡ told_inside (part_tree m p) d
  told_known (Binder vs b) d k = sym (under_told (m.bound_vars vs) (body_tree m b) d k)
  told_known (Region r) d k = sym (untold (m.region r) _ d (sort_known m s (Region r) k) refl)
  told_known (Ty t) d k = sym (untold (m.ty t) _ d (sort_known m s (Ty t) k) refl)
  told_known (Const c) d k = sym (untold (m.const_ c) _ d (sort_known m s (Const c) k) refl)
  told_known (ValTree v) d k = sym (untold (m.valtree v) _ d (sort_known m s (ValTree v) k) refl)
  told_known (Pat q) d k = sym (untold (m.pat q) _ d (sort_known m s (Pat q) k) refl)
  told_known (ValueType t) d k = refl
  told_known (Signature g) d k = refl
  told_known (Inputs t) d k = refl
  told_known (Existential q) d k =
      sym (untold (part_tree m (Existential q)) _ d (sort_known m s (Existential q) k) refl)
  told_known (Object o) d k = refl

-- What a visitor is asked about is no binder.
pub visited_told : (t : Tree) (d : ℕ) → is_visited t ≡ true → told_inside t d ≡ d
visited_told (leaf l) d i = refl
visited_told (node h ts) d i = refl
visited_told (bind ks t) d i = absurd (cc)
visited_told nil d i = absurd (cc)
visited_told (cons t ts) d i = absurd (cc)
