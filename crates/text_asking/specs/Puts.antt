-- What is put for terms.
use Rattle.std.specs.Prelude.{ℕ, Bool, cond, IsTrue, List, [], ◌∷◌, Option, Some, None, slice_get}
use Rattle.std.specs.List.{AllZip}
use Rattle.relation_terms.specs.declared.terms.generic_arg.GenericArgKind.{GenericArgKind}
use Rattle.relation_terms.specs.Trees.{Tree, known}
use Rattle.relation_terms.specs.Meaning.{Meaning, Extends, arg_tree}
use Rattle.relation_terms.proofs.Stays.{stays_arg, knows_arg}
use Rattle.std.proofs.Common.{◌≡◌, refl, ap, ap₂, ◌∙◌}
use Rattle.relation_folds.specs.Folds.{folded}
use Rattle.text_reading.specs.declared.naming.program.Put.{Put}
use Rattle.text_asking.specs.Args.{alike}
use Rattle.relation_terms.specs.Equality.{same_tree}

-- What is put for one thing: what stands behind the first that is the same, if one is.
abbrev pub first_put : {T : Type 0} → (T → T → Bool) → List (Put T) → T → Option T
first_put same [] t = None
first_put same (p ∷ ps) t = cond (same p.from t) (Some p.to) (first_put same ps t)

module _ {Key Id Name : Type 0} (m : Meaning Key Id Name) where
  -- Something known is put for something known of its sort.
  abbrev pub IsPut : Put (GenericArgKind Key) → Type 0
  IsPut p = IsTrue (known (arg_tree m p.from)) × IsTrue (known (arg_tree m p.to)) × IsTrue (alike p.from p.to)

  -- The same of all that is put.
  abbrev pub ArePuts : List (Put (GenericArgKind Key)) → Type 0
  ArePuts [] = Unit {0}
  ArePuts (p ∷ ps) = IsPut p × ArePuts ps

  -- The trees of what is put.
  abbrev pub put_trees : List (Put (GenericArgKind Key)) → List (Put Tree)
  put_trees [] = []
  put_trees (p ∷ ps) = record { from = arg_tree m p.from; to = arg_tree m p.to } ∷ put_trees ps

  -- The tree that is put for one.
  abbrev pub tree_put : List (Put (GenericArgKind Key)) → Tree → Option Tree
  tree_put ps t = first_put same_tree (put_trees ps) t

  -- Of a term came that, in a later meaning, where others were put for its parts.
  abbrev pub IsFolded : Meaning Key Id Name → List (Put (GenericArgKind Key)) → GenericArgKind Key →
      GenericArgKind Key → Type 0
  IsFolded n ps term key = arg_tree n key ≡ folded (λ d. tree_put ps) 0 (arg_tree m term)

  -- The tree of an argument that may be missing.
  abbrev pub tree_of : Option (GenericArgKind Key) → Option Tree
  tree_of None = None
  tree_of (Some a) = Some (arg_tree m a)

-- What is put is made of the keys of two terms of one sort, by their numbers.
abbrev pub IsMade : {Key : Type 0} → List (Option (GenericArgKind Key)) → Put ℕ → Put (GenericArgKind Key) → Type 0
IsMade keys n p =
    (slice_get keys n.from ≡ Some (Some p.from)) × (slice_get keys n.to ≡ Some (Some p.to)) × IsTrue (alike p.from p.to)

-- The same of all that is put, one by one.
abbrev pub AreMade : {Key : Type 0} → List (Option (GenericArgKind Key)) → List (Put ℕ) → List (Put (GenericArgKind Key)) →
    Type 0
AreMade keys ns ps = AllZip (IsMade keys) ns ps

-- What is put stays so while the interner grows.
module _ {Key Id Name : Type 0} {m n : Meaning Key Id Name} (e : Extends m n) where
  pub puts_stay : (ps : List (Put (GenericArgKind Key))) → ArePuts m ps → ArePuts n ps
  puts_stay [] h = tt
  puts_stay (p ∷ ps) h = ((knows_arg e p.from h.0.0, knows_arg e p.to h.0.1, h.0.2), puts_stay ps h.1)

  trees_stay : (ps : List (Put (GenericArgKind Key))) → ArePuts m ps → put_trees n ps ≡ put_trees m ps
  trees_stay [] h = refl
  trees_stay (p ∷ ps) h =
      ap₂ (λ x y. record { from = x; to = y } ∷ put_trees n ps) (stays_arg e p.from h.0.0) (stays_arg e p.to h.0.1)
      ∙ ap (λ ts. record { from = arg_tree m p.from; to = arg_tree m p.to } ∷ ts) (trees_stay ps h.1)

  pub put_stays : (ps : List (Put (GenericArgKind Key))) → ArePuts m ps → (t : Tree) → tree_put n ps t ≡ tree_put m ps t
  put_stays ps h t = ap (λ ts. first_put same_tree ts t) (trees_stay ps h)
