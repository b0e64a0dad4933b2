-- Bound variables moved past binders, and terms put for the variables of a binder.
use Rattle.std.specs.Prelude.{◌≡◌, ℕ, ◌+◌, IsTrue, Bool, true, false, cond, nat_lt, nat_eq, Option, Some, None}
use Rattle.std.specs.Prelude.{List, [], ◌∷◌, map, slice_get, Result, IfOk}
use Rattle.std.proofs.Common.{ap, ap₂, refl}
use Rattle.std.proofs.lemmas.Bool.{and_parts}
use Rattle.relation_terms.specs.Heads.{Sort, region_sort, type_sort, const_sort, Kind, region_kind, type_kind}
use Rattle.relation_terms.specs.Heads.{const_kind, bound_kind, bound}
use Rattle.relation_terms.specs.Trees.{Tree, leaf, known, list_tree}
use Rattle.relation_terms.specs.Flags.{outer_exclusive_binder}
use Rattle.relation_terms.specs.Parts.{tree_sort}
use Rattle.relation_terms.specs.Meaning.{Meaning, Extends, arg_tree}
use Rattle.relation_terms.specs.declared.terms.generic_arg.GenericArgKind.{GenericArgKind}
use Rattle.relation_terms.specs.declared.terms.generic_arg.GenericArgKind.TheVariants.{Lifetime, Ty, Const}
use Rattle.relation_terms.specs.declared.terms.keys.TyKey.{TyKey}
use Rattle.relation_terms.specs.declared.terms.keys.RegionKey.{RegionKey}
use Rattle.relation_terms.specs.declared.terms.keys.ConstKey.{ConstKey}
use Rattle.relation_terms.proofs.Stays.{knows_as, stays_list, stays_arg}
use Rattle.relation_folds.specs.Folds.{folded}

-- A variable that a binder outside the tree binds stands `by` binders further in than it stood.
abbrev pub moves : ℕ → ℕ → Tree → Option Tree
moves by depth (leaf (bound k d i)) = cond (nat_lt d depth) None (Some (leaf (bound k (d + by) i)))
moves by depth t = None

-- The tree as it stands under `by` more binders.
abbrev pub shifted : ℕ → Tree → Tree
shifted by t = folded (moves by) 0 t

-- Whether what is of a sort can stand for a variable of a kind.
abbrev pub is_for : Kind → Sort → Bool
is_for region_kind region_sort = true
is_for type_kind type_sort = true
is_for const_kind const_sort = true
is_for k s = false

-- A tree, if there is one, under `depth` binders, for a variable of a kind. It stands for none of another kind.
abbrev pub standing : Kind → ℕ → Option Tree → Option Tree
standing k depth None = None
standing k depth (Some t) = cond (is_for k (tree_sort t)) (Some (shifted depth t)) None

-- For each variable of the binder around the whole the tree at its place of the list.
abbrev pub opens : List Tree → ℕ → Tree → Option Tree
opens ts depth (leaf (bound (bound_kind k n) d i)) = cond (nat_eq d depth) (standing k depth (slice_get ts i)) None
opens ts depth t = None

-- The body of a binder with the trees of a list put for the binder's variables.
abbrev pub opened : List Tree → Tree → Tree
opened ts t = folded (opens ts) 0 t

-- The argument for a variable that so many binders stand around, if the binder around the whole binds it; and as a
-- type, a region, a constant.
abbrev pub arg_for : {Key : Type 0} → List (GenericArgKind Key) → ℕ → ℕ → ℕ → Option (GenericArgKind Key)
arg_for xs d i depth = cond (nat_eq d depth) (slice_get xs i) None

abbrev pub expect_ty : {Key : Type 0} → Option (GenericArgKind Key) → Option (TyKey Key)
expect_ty (Some (Ty t)) = Some t
expect_ty o = None

abbrev pub expect_region : {Key : Type 0} → Option (GenericArgKind Key) → Option (RegionKey Key)
expect_region (Some (Lifetime r)) = Some r
expect_region o = None

abbrev pub expect_const : {Key : Type 0} → Option (GenericArgKind Key) → Option (ConstKey Key)
expect_const (Some (Const c)) = Some c
expect_const o = None

-- Of a list of what is known the trees stay while an interner grows.
pub stays_map : {A : Type 0} (f g : A → Tree) (xs : List A) → ((x : A) → IsTrue (known (f x)) → g x ≡ f x) →
    IsTrue (known (list_tree f xs)) → map g xs ≡ map f xs
stays_map f g [] s k = refl
stays_map f g (x ∷ xs) s k =
    let p = and_parts (known (f x)) (known (list_tree f xs)) k in
    ap₂ (λ y z. y ∷ z) (s x p.0) (stays_map f g xs s p.1)

-- So known arguments stay so, and mean the same.
module _ {Key Id Name : Type 0} {m n : Meaning Key Id Name} (e : Extends m n) where
  pub knows_all : (xs : List (GenericArgKind Key)) → IsTrue (known (list_tree (arg_tree m) xs)) →
      IsTrue (known (list_tree (arg_tree n) xs))
  knows_all xs k = knows_as (list_tree (arg_tree m) xs) (list_tree (arg_tree n) xs)
      (stays_list (arg_tree m) (arg_tree n) xs (stays_arg e) k) k

  pub opens_stays : (xs : List (GenericArgKind Key)) → IsTrue (known (list_tree (arg_tree m) xs)) → (d : ℕ) (t : Tree) →
      opens (map (arg_tree n) xs) d t ≡ opens (map (arg_tree m) xs) d t
  opens_stays xs k d t = ap (λ ts. opens ts d t) (stays_map (arg_tree m) (arg_tree n) xs (stays_arg e) k)

  -- And so is what is put where it is asked for so many binders alone.
  pub opened_stays : (xs : List (GenericArgKind Key)) → IsTrue (known (list_tree (arg_tree m) xs)) → (d : ℕ) (t : Tree) →
      cond (nat_lt d (outer_exclusive_binder t)) (opens (map (arg_tree n) xs) d t) (Some t) ≡
      cond (nat_lt d (outer_exclusive_binder t)) (opens (map (arg_tree m) xs) d t) (Some t)
  opened_stays xs k d t = ap (λ o. cond (nat_lt d (outer_exclusive_binder t)) o (Some t)) (opens_stays xs k d t)

module _ {Key Id Name A E : Type 0} (tree : Meaning Key Id Name → A → Tree) (m n : Meaning Key Id Name) where
  -- What is made is the tree as it stands under so many more binders.
  abbrev pub ShiftsBy : ℕ → A → Result A E → Type 0
  ShiftsBy amount a result = IfOk result (λ x. tree n x ≡ shifted amount (tree m a))

  -- What is made is the body with these arguments put for the binder's variables.
  abbrev pub OpensBy : List (GenericArgKind Key) → A → Result A E → Type 0
  OpensBy args a result = IfOk result (λ x. tree n x ≡ opened (map (arg_tree m) args) (tree m a))
