-- A term from which nothing escapes: whether its leaves may stand where they do hangs on no binder around it.
use Rattle.std.proofs.Common.{◌≡◌, ℕ, zero, suc, ◌<◌, ◌≤◌, refl, sym, ◌∙◌, arith, List, [], ◌∷◌, ◌++◌}
use Rattle.std.proofs.Common.{map, length}
use Rattle.relation_terms.specs.Heads.{Sort, bound_sort, variable, bound, placeholder, atom, unknown}
use Rattle.relation_terms.specs.Trees.{Tree, leaf, node, bind, nil, cons}
use Rattle.relation_terms.specs.Flags.{outer_exclusive_binder}
use Rattle.relation_semantics.specs.Stores.{Store}
use Rattle.may_relate.specs.Around.{sort_at}
use Rattle.may_relate.specs.Fitting.{FitsAll}

-- What the first binders bind hangs on no other.
at_front : (ps ls ks : List (List Sort)) (d i : ℕ) → d < length ps → sort_at (ps ++ ls) d i ≡ sort_at (ps ++ ks) d i
at_front [] ls ks d i h = absurd (omega (arith, h))
at_front (p ∷ ps) ls ks zero i h = refl
at_front (p ∷ ps) ls ks (suc d) i h = let less : d < length ps = omega (arith, h) in at_front ps ls ks d i less

module _ (st : Store) (ls ks : List (List Sort)) where
  fits_front : (ps : List (List Sort)) (t : Tree) → outer_exclusive_binder t ≤ length ps → FitsAll st (ps ++ ls) t →
      FitsAll st (ps ++ ks) t
  fits_front ps (leaf (variable k n)) h f = f
  fits_front ps (leaf (bound k d i)) h f =
      let less : d < length ps = omega (arith, h) in
      sym (at_front ps ls ks d i less) ∙ f
  fits_front ps (leaf (placeholder k u n)) h f = f
  fits_front ps (leaf (atom x)) h f = f
  fits_front ps (leaf unknown) h f = f
  fits_front ps (node g ts) h f = fits_front ps ts h f
  fits_front ps (bind js t) h f =
      let more : outer_exclusive_binder t ≤ suc (length ps) = omega (arith, h) in
      fits_front (map bound_sort js ∷ ps) t more f
  fits_front ps nil h f = tt
  fits_front ps (cons t ts) h f =
      let first : outer_exclusive_binder t ≤ length ps = omega (arith, h) in
      let others : outer_exclusive_binder ts ≤ length ps = omega (arith, h) in
      (fits_front ps t first f.0, fits_front ps ts others f.1)

  -- Where it may stand under some binders, it may under any.
  pub fits_anywhere : (t : Tree) → outer_exclusive_binder t ≡ 0 → FitsAll st ls t → FitsAll st ks t
  fits_anywhere t e f = let none : outer_exclusive_binder t ≤ 0 = omega (arith, e) in fits_front [] t none f
