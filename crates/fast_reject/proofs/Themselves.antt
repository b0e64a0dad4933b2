-- Terms without variables are instances of themselves.
use Rattle.std.proofs.Common.{◌≡◌, Bool, true, false, [], ◌∷◌, Some, None, refl}
use Rattle.relation_terms.specs.Heads.{Sort, region_sort, type_sort, argument_sort, term_sort}
use Rattle.relation_terms.specs.Heads.{no_sort, binder_sort, Admits}
use Rattle.relation_terms.specs.Heads.{Shape, one, row, term_of, binder_of, leaf_sort, head_sort, head_parts}
use Rattle.relation_terms.specs.Heads.{Head, Leaf, variable, bound, placeholder, atom, unknown}
use Rattle.relation_terms.specs.Trees.{Tree, leaf, node, bind, nil, cons, IsTerm, Fits, Leaves}
use Rattle.fast_reject.specs.Instances.{Instance, put, kept_leaf, kept_node, kept_bind, kept_nil, kept_cons}
use Rattle.fast_reject.specs.Instances.{IsNoVariable, is_fit}
use Rattle.fast_reject.specs.InstanceLaws.{TermsAreInstances, AliasesMeetTypes}

no_argument : (s : Sort) → Admits s argument_sort → ⊥
no_argument region_sort h = h
no_argument s h = h

no_term : (s : Sort) → Admits s term_sort → ⊥
no_term region_sort h = h
no_term s h = h

no_none : (s : Sort) → Admits s no_sort → ⊥
no_none region_sort h = h
no_none s h = h

no_binder : (s u : Sort) → Admits s (binder_sort u) → ⊥
no_binder region_sort u h = h
no_binder s u h = h

-- A sort that stands anywhere stands where it is asked for.
pub stands_itself : (s u : Sort) → Admits s u → Admits u u
stands_itself s argument_sort h = absurd (no_argument s h)
stands_itself s term_sort h = absurd (no_term s h)
stands_itself s no_sort h = absurd (no_none s h)
stands_itself s (binder_sort u) h = absurd (no_binder s u h)
stands_itself s u h = tt

-- A term without variables may be put for itself.
fits_itself : (t : Tree) → Leaves IsNoVariable t → is_fit t t ≡ true
fits_itself (leaf (variable k n)) h = absurd h
fits_itself (leaf (bound k d i)) h = refl
fits_itself (leaf (placeholder k u n)) h = refl
fits_itself (leaf (atom x)) h = refl
fits_itself (leaf unknown) h = refl
fits_itself (node g ts) h = refl
fits_itself (bind ks t) h = refl
fits_itself nil h = refl
fits_itself (cons t ts) h = refl

module _ (places : Tree → Bool) where
  at_leaf : (s : Sort) (l : Leaf) → IsTerm s (leaf l) → Leaves IsNoVariable (leaf l) → Instance places (leaf l) (leaf l)
  at_leaf s l h v = decide (places (leaf l)) refl
    where
      decide : (w : Bool) → places (leaf l) ≡ w → Instance places (leaf l) (leaf l)
      decide true e = put e (stands_itself s (leaf_sort l) h) v (fits_itself (leaf l) v)
      decide false e = kept_leaf e

  at_node : (s : Sort) (h : Head) (ts : Tree) → IsTerm s (node h ts) → Leaves IsNoVariable ts → Instance places ts ts →
      Instance places (node h ts) (node h ts)
  at_node s h ts f v i = decide (places (node h ts)) refl
    where
      decide : (w : Bool) → places (node h ts) ≡ w → Instance places (node h ts) (node h ts)
      decide true e = put e (stands_itself s (head_sort h) f.0, f.1) v refl
      decide false e = kept_node e i

  itself : (x : Tree) (sh : Shape) → Fits sh x → Leaves IsNoVariable x → Instance places x x
  itself (leaf l) (one (term_of s)) h v = at_leaf s l h v
  itself (leaf l) (one (binder_of s)) h v = absurd h
  itself (leaf l) (row [] None) h v = absurd h
  itself (leaf l) (row [] (Some p)) h v = absurd h
  itself (leaf l) (row (p ∷ ps) r) h v = absurd h
  itself (node g ts) (one (term_of s)) h v = at_node s g ts h v (itself ts (head_parts g) h.1 v)
  itself (node g ts) (one (binder_of s)) h v = absurd h
  itself (node g ts) (row [] None) h v = absurd h
  itself (node g ts) (row [] (Some p)) h v = absurd h
  itself (node g ts) (row (p ∷ ps) r) h v = absurd h
  itself (bind ks t) (one (binder_of s)) h v = kept_bind (itself t (one (term_of s)) h v)
  itself (bind ks t) (one (term_of s)) h v = absurd h
  itself (bind ks t) (row [] None) h v = absurd h
  itself (bind ks t) (row [] (Some p)) h v = absurd h
  itself (bind ks t) (row (p ∷ ps) r) h v = absurd h
  itself nil sh h v = kept_nil
  itself (cons t ts) (one (term_of s)) h v = absurd h
  itself (cons t ts) (one (binder_of s)) h v = absurd h
  itself (cons t ts) (row [] (Some p)) h v = kept_cons (itself t (one p) h.0 v.0) (itself ts (row [] (Some p)) h.1 v.1)
  itself (cons t ts) (row [] None) h v = absurd h
  itself (cons t ts) (row (p ∷ ps) r) h v = kept_cons (itself t (one p) h.0 v.0) (itself ts (row ps r) h.1 v.1)

pub terms_are_instances : TermsAreInstances
terms_are_instances places s t h v = itself places t (one (term_of s)) h v

pub aliases_meet_types : AliasesMeetTypes
aliases_meet_types l r k d ts t h v = record {
  left = t;
  right = t;
  of_left = put refl h v refl;
  of_right = terms_are_instances _ type_sort t h v;
  same = refl;
}
