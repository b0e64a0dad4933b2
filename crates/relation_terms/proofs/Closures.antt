-- What stands among the arguments of a closure, as an interner reads them.
use Rattle.std.proofs.Common.{◌≡◌, ℕ, ◌-◌, ◌<◌, ◌≤◌, true, false, cond, nat_lt, List, length, get_or, Some, None, IsTrue}
use Rattle.std.proofs.Common.{sym, ap, ◌∙◌, arith}
use Rattle.std.proofs.lemmas.Bool.{lt-ltb, le-ltb}
use Rattle.relation_terms.specs.Heads.{Sort}
use Rattle.relation_terms.specs.Trees.{Tree, count, nth, known, list_tree}
use Rattle.relation_terms.specs.Parts.{tree_sort}
use Rattle.relation_terms.specs.Closures.{is_type_sort, type_from_last}
use Rattle.relation_terms.proofs.Members.{slice_counts, slice_nth, slice_sure}

-- A list `w` of arguments, as the slice that an interner reads.
module _ {A : Type 0} (f : A → Tree) (xs : List A) (w : Tree) (e : w ≡ list_tree f xs) (places : ℕ) where
  -- With too few arguments there is none so far from the last.
  pub none_there : length xs ≤ places → None ≡ type_from_last places w
  none_there h =
      let n = slice_counts f xs w e in
      let b : nat_lt places (count w) ≡ false = le-ltb places (count w) (omega (arith, n, h)) in
      sym (ap (λ z. cond z (cond (is_type_sort (tree_sort (nth (count w - 1 - places) w)))
      (Some (nth (count w - 1 - places) w)) None) None) b)

  -- What stands there is found just where it is a type.
  pub found : (d x : A) (s : Sort) → places < length xs → x ≡ get_or xs (length xs - 1 - places) d →
      tree_sort (f x) ≡ s → cond (is_type_sort s) (Some (f x)) None ≡ type_from_last places w
  found d x s h q o =
      let n = slice_counts f xs w e in
      let b : nat_lt places (count w) ≡ true = lt-ltb places (count w) (omega (arith, n, h)) in
      let i : length xs - 1 - places < count w = omega (arith, n, h) in
      let at : f x ≡ nth (count w - 1 - places) w =
      slice_nth f xs w e (length xs - 1 - places) d x i q ∙ ap (λ z. nth (z - 1 - places) w) n in
      sym (ap (λ z. cond z (cond (is_type_sort (tree_sort (nth (count w - 1 - places) w)))
      (Some (nth (count w - 1 - places) w)) None) None) b
      ∙ ap (λ t. cond (is_type_sort (tree_sort t)) (Some t) None) (sym at)
      ∙ ap (λ z. cond (is_type_sort z) (Some (f x)) None) o)

  -- It is known.
  pub found_known : (d x : A) → IsTrue (known w) → places < length xs → x ≡ get_or xs (length xs - 1 - places) d →
      IsTrue (known (f x))
  found_known d x k h q =
      let n = slice_counts f xs w e in
      slice_sure f xs w e k (length xs - 1 - places) d x (omega (arith, n, h)) q
