-- What follows of a term whose leaves may stand where they do: it may be related; and of one with a leaf that may not.
use Rattle.std.proofs.Common.{◌≡◌, ℕ, zero, suc, ◌<◌, refl, sym, ap, ◌∙◌, subst, arith, List, [], ◌∷◌, map, length}
use Rattle.std.proofs.Common.{Some, slice_get, Result, Ok, Err}
use Rattle.std.specs.Prelude.{◌≢◌, OnOk, IfErr}
use Rattle.std.proofs.Common.{inl, inr}
use Rattle.relation_terms.specs.Heads.{Sort, BoundKind, bound_sort, Leaf, variable, bound, placeholder, atom, unknown}
use Rattle.relation_terms.specs.Trees.{Tree, leaf, node, bind, nil, cons, Leaves}
use Rattle.relation_semantics.specs.Relation.{StaysWithin}
use Rattle.relation_semantics.specs.Stores.{Store, IsMadeLeaf, IsNamable, InContext, IsTermIn}
use Rattle.relation_semantics.specs.Bound.{AreBoundAs, IsWellBound}
use Rattle.may_relate.specs.declared.unfit.Unfit.{Unfit}
use Rattle.may_relate.specs.declared.unfit.Unfit.TheVariants.{Escapes, NotInList, Memory}
use Rattle.may_relate.specs.Around.{sort_at}
use Rattle.may_relate.specs.Fitting.{Fits, FitsAll, IsUnfit, SomeUnfit, TellsUnfit, MayBeRelated}

-- What is bound is bound by a binder that is around.
at_within : (ls : List (List Sort)) (d i : ℕ) (s : Sort) → sort_at ls d i ≡ Some s → d < length ls
at_within [] d i s e = absurd (cc)
at_within (l ∷ ls) zero i s e = omega arith
at_within (l ∷ ls) (suc d) i s e = let h = at_within ls d i s e in omega (arith, h)

-- By its list.
at_list : (ls : List (List Sort)) (d i : ℕ) (l : List Sort) → slice_get ls d ≡ Some l → sort_at ls d i ≡ slice_get l i
at_list [] d i l e = absurd (cc)
at_list (k ∷ ls) zero i l e = let same : k ≡ l = cc in ap (λ x. slice_get x i) same
at_list (k ∷ ls) (suc d) i l e = at_list ls d i l e

-- A sort at a place of a list is that of the kind there.
kind_at : (ks : List BoundKind) (i : ℕ) (s : Sort) → slice_get (map bound_sort ks) i ≡ Some s →
    (q : BoundKind) × (slice_get ks i ≡ Some q) × (bound_sort q ≡ s)
kind_at [] i s e = absurd (cc)
kind_at (k ∷ ks) zero s e = let same : bound_sort k ≡ s = cc in (k, refl, same)
kind_at (k ∷ ks) (suc i) s e = kind_at ks i s e

module _ (st : Store) where
  in_context : (ls : List (List Sort)) (t : Tree) → FitsAll st ls t → Leaves (IsMadeLeaf st) t
  in_context ls (leaf (variable k n)) h = h
  in_context ls (leaf (bound k d i)) h = tt
  in_context ls (leaf (placeholder k u n)) h = tt
  in_context ls (leaf (atom x)) h = h
  in_context ls (leaf unknown) h = h
  in_context ls (node g ts) h = in_context ls ts h
  in_context ls (bind ks t) h = in_context (map bound_sort ks ∷ ls) t h
  in_context ls nil h = tt
  in_context ls (cons t ts) h = (in_context ls t h.0, in_context ls ts h.1)

  stays : (ls : List (List Sort)) (t : Tree) → FitsAll st ls t → StaysWithin (length ls) t
  stays ls (leaf (variable k n)) h = tt
  stays ls (leaf (bound k d i)) h = at_within ls d i (bound_sort k) h
  stays ls (leaf (placeholder k u n)) h = tt
  stays ls (leaf (atom x)) h = tt
  stays ls (leaf unknown) h = tt
  stays ls (node g ts) h = stays ls ts h
  stays ls (bind ks t) h = stays (map bound_sort ks ∷ ls) t h
  stays ls nil h = tt
  stays ls (cons t ts) h = (stays ls t h.0, stays ls ts h.1)

  namable : (ls : List (List Sort)) (t : Tree) → FitsAll st ls t → Leaves (IsNamable st.universe) t
  namable ls (leaf (variable k n)) h = tt
  namable ls (leaf (bound k d i)) h = tt
  namable ls (leaf (placeholder k u n)) h = h
  namable ls (leaf (atom x)) h = tt
  namable ls (leaf unknown) h = h
  namable ls (node g ts) h = namable ls ts h
  namable ls (bind ks t) h = namable (map bound_sort ks ∷ ls) t h
  namable ls nil h = tt
  namable ls (cons t ts) h = (namable ls t h.0, namable ls ts h.1)

  bound_as : (ls : List (List Sort)) (ks : List BoundKind) (d : ℕ) (t : Tree) →
      slice_get ls d ≡ Some (map bound_sort ks) → FitsAll st ls t → AreBoundAs ks d t
  bound_as ls ks d (leaf (variable k n)) e h = tt
  bound_as ls ks d (leaf (bound k b i)) e h = λ same.
      kind_at ks i (bound_sort k)
      (sym (at_list ls d i (map bound_sort ks) e) ∙ ap (λ n. sort_at ls n i) (sym same) ∙ h)
  bound_as ls ks d (leaf (placeholder k u n)) e h = tt
  bound_as ls ks d (leaf (atom x)) e h = tt
  bound_as ls ks d (leaf unknown) e h = tt
  bound_as ls ks d (node g ts) e h = bound_as ls ks d ts e h
  bound_as ls ks d (bind js t) e h = bound_as (map bound_sort js ∷ ls) ks (suc d) t e h
  bound_as ls ks d nil e h = tt
  bound_as ls ks d (cons t ts) e h = (bound_as ls ks d t e h.0, bound_as ls ks d ts e h.1)

  by_lists : (ls : List (List Sort)) (t : Tree) → FitsAll st ls t → IsWellBound t
  by_lists ls (leaf l) h = tt
  by_lists ls (node g ts) h = by_lists ls ts h
  by_lists ls (bind ks t) h =
      let more = map bound_sort ks ∷ ls in
      (bound_as more ks 0 t refl h, by_lists more t h)
  by_lists ls nil h = tt
  by_lists ls (cons t ts) h = (by_lists ls t h.0, by_lists ls ts h.1)

  -- The other way round, under binders of these lists.
  abbrev sorts : List (List BoundKind) → List (List Sort)
  sorts [] = []
  sorts (ks ∷ all) = map bound_sort ks ∷ sorts all

  sorts_get : (all : List (List BoundKind)) (d : ℕ) → d < length all → (ks : List BoundKind) ×
      (slice_get all d ≡ Some ks) × ((i : ℕ) → sort_at (sorts all) d i ≡ slice_get (map bound_sort ks) i)
  sorts_get [] d h = absurd (omega (arith, h))
  sorts_get (ks ∷ all) zero h = (ks, refl, λ i. refl)
  sorts_get (ks ∷ all) (suc d) h = let less : d < length all = omega (arith, h) in sorts_get all d less

  sort_of_kind : (ks : List BoundKind) (i : ℕ) (q : BoundKind) → slice_get ks i ≡ Some q →
      slice_get (map bound_sort ks) i ≡ Some (bound_sort q)
  sort_of_kind [] i q e = absurd (cc)
  sort_of_kind (k ∷ ks) zero q e = let same : k ≡ q = cc in ap (λ x. Some (bound_sort x)) same
  sort_of_kind (k ∷ ks) (suc i) q e = sort_of_kind ks i q e

  -- Each binder around binds by its list.
  abbrev BoundAround : List (List BoundKind) → Tree → Type 0
  BoundAround all t = (d : ℕ) (ks : List BoundKind) → slice_get all d ≡ Some ks → AreBoundAs ks d t

  one_more : (all : List (List BoundKind)) (ks : List BoundKind) (t : Tree) → AreBoundAs ks 0 t →
      BoundAround all (bind ks t) → BoundAround (ks ∷ all) t
  one_more all ks t here f zero js e = let same : ks ≡ js = cc in subst (λ x. AreBoundAs x 0 t) same here
  one_more all ks t here f (suc d) js e = f d js e

  leaves_fit : (all : List (List BoundKind)) (t : Tree) → Leaves (IsMadeLeaf st) t → StaysWithin (length all) t →
      Leaves (IsNamable st.universe) t → IsWellBound t → BoundAround all t → FitsAll st (sorts all) t
  leaves_fit all (leaf (variable k n)) i w n' b f = i
  leaves_fit all (leaf (bound k d p)) i w n' b f =
      let at = sorts_get all d w in
      let is = f d at.0 at.1 refl in
      at.2 p ∙ sort_of_kind at.0 p is.0 is.1 ∙ ap (λ s. Some s) is.2
  leaves_fit all (leaf (placeholder k u n)) i w n' b f = n'
  leaves_fit all (leaf (atom x)) i w n' b f = i
  leaves_fit all (leaf unknown) i w n' b f = i
  leaves_fit all (node g ts) i w n' b f = leaves_fit all ts i w n' b f
  leaves_fit all (bind ks t) i w n' b f = leaves_fit (ks ∷ all) t i w n' b.1 (one_more all ks t b.0 f)
  leaves_fit all nil i w n' b f = tt
  leaves_fit all (cons t ts) i w n' b f = (
    leaves_fit all t i.0 w.0 n'.0 b.0 (λ d ks e. (f d ks e).0),
    leaves_fit all ts i.1 w.1 n'.1 b.1 (λ d ks e. (f d ks e).1),
  )

  -- A term by itself, each leaf of which may stand where it does, may be related; and no other.
  pub related_of : (t : Tree) → FitsAll st [] t → MayBeRelated st t
  unfolding IsTermIn InContext
  related_of t h = ((in_context [] t h, stays [] t h, namable [] t h), by_lists [] t h)

  pub of_related : (t : Tree) → MayBeRelated st t → FitsAll st [] t
  unfolding IsTermIn InContext
  of_related t h = leaves_fit [] t h.0.0 h.0.1 h.0.2 h.1 (λ d ks e. let no : ⊥ = cc in absurd no)

-- So where a test said it, of a tree by what is the same.
pub ok_related : {E : Type 0} (st : Store) (t u : Tree) (r : Result (Unit {0}) E) → t ≡ u → OnOk r (FitsAll st [] t) →
    OnOk r (MayBeRelated st u)
ok_related st t u (Ok x) e h = related_of st u (subst (FitsAll st []) e h)
ok_related st t u (Err x) e h = tt

-- A leaf that is unfit for a reason does not fit, and so a tree with such a leaf may not be related.
unfit_leaf : (st : Store) (ls : List (List Sort)) (l : Leaf) (e : Unfit) → IsUnfit st ls l e → Fits st ls l → ⊥
unfit_leaf st ls (variable k n) e u f = u.1 f
unfit_leaf st ls (bound k d i) (Escapes out) u f =
    let within = at_within ls d i (bound_sort k) f in absurd (omega (arith, within, u))
unfit_leaf st ls (bound k d i) (NotInList place) u f = u.2 f
unfit_leaf st ls (bound k d i) e u f = absurd u
unfit_leaf st ls (placeholder k v n) e u f = let later = u.1 in absurd (omega (arith, later, f))
unfit_leaf st ls (atom x) e u f = u.1 f
unfit_leaf st ls unknown e u f = u

some_unfit : (st : Store) (ls : List (List Sort)) (t : Tree) (e : Unfit) → SomeUnfit st ls t e → FitsAll st ls t → ⊥
some_unfit st ls (leaf l) e u f = unfit_leaf st ls l e u f
some_unfit st ls (node h ts) e u f = some_unfit st ls ts e u f
some_unfit st ls (bind ks t) e u f = some_unfit st (map bound_sort ks ∷ ls) t e u f
some_unfit st ls nil e u f = u
some_unfit st ls (cons t ts) e (inl u) f = some_unfit st ls t e u f.0
some_unfit st ls (cons t ts) e (inr u) f = some_unfit st ls ts e u f.1

-- So where a test said why not.
pub err_unfit : (st : Store) (t u : Tree) (r : Result (Unit {0}) Unfit) → t ≡ u → IfErr r (TellsUnfit st [] t) →
    IfErr r (TellsUnfit st [] u)
err_unfit st t u (Ok x) e h = tt
err_unfit st t u (Err x) e h = subst (λ v. TellsUnfit st [] v x) e h

pub err_related : (st : Store) (t u : Tree) (r : Result (Unit {0}) Unfit) → t ≡ u → IfErr r (TellsUnfit st [] t) →
    IfErr r (λ x. x ≢ Memory → MayBeRelated st u → ⊥)
err_related st t u (Ok x) e h = tt
err_related st t u (Err x) e h = λ other may.
    some_unfit st [] t x (h other) (subst (FitsAll st []) (sym e) (of_related st u may))
