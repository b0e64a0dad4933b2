-- A term with values put for what a binder around it binds is an instance of the term.
use Rattle.std.proofs.Common.{◌≡◌, ◌≢◌, ◌⊎◌, ℕ, zero, suc, refl, sym, subst, inl, inr, Bool, true, false, List, [], ◌∷◌}
use Rattle.std.specs.Prelude.{nat_eq, cond, Some, slice_get}
use Rattle.std.proofs.lemmas.Bool.Decides.{eqb_tells}
use Rattle.relation_terms.specs.Heads.{Sort, region_kind, type_kind, const_kind, BoundKind, bound_kind, bound_sort}
use Rattle.relation_terms.specs.Heads.{Admits}
use Rattle.relation_terms.specs.Heads.{Shape, one, row, term_of, binder_of, head_sort, head_parts, Head, Leaf}
use Rattle.relation_terms.specs.Heads.{variable, bound, placeholder, atom, unknown}
use Rattle.relation_terms.specs.Trees.{Tree, leaf, node, bind, nil, cons, IsTerm, Fits, Leaves, inst, put as put_at}
use Rattle.relation_terms.specs.Trees.{tree_at}
use Rattle.fast_reject.specs.Instances.{Instance, put, kept_node, kept_bind, kept_nil, kept_cons, IsNoVariable}
use Rattle.fast_reject.proofs.Themselves.{stands_itself, terms_are_instances}
use Rattle.relation_semantics.specs.Relation.{IsValue, IsValueLeaf, FitKinds}
use Rattle.relation_semantics.specs.Binders.{variable_kind}
use Rattle.relation_semantics.specs.Bound.{IsBoundAs, AreBoundAs}
use Rattle.relation_semantics.proofs.Trees.{Leaves_map}
use Rattle.relation_semantics.proofs.Standing.{term_through}
use Rattle.relation_semantics.proofs.MakingEach.{variable_sort}
use Rattle.relation_laws.specs.OpenedInstances.{OpenedIsInstance}

pub no_variable : (l : Leaf) → IsValueLeaf l → IsNoVariable l
no_variable (variable k n) h = h
no_variable (bound k d i) h = tt
no_variable (placeholder k u n) h = tt
no_variable (atom x) h = tt
no_variable unknown h = tt

-- The value at a place of a binder's list is of the kind that stands there.
value_at : (ks : List BoundKind) (values : List Tree) → FitKinds ks values → (i : ℕ) (q : BoundKind) →
    slice_get ks i ≡ Some q → (t : Tree) → IsValue (bound_sort q) (tree_at values i t)
value_at [] values h i q e t = absurd cc
value_at (k ∷ ks) [] h i q e t = absurd h
value_at (k ∷ ks) (v ∷ values) h zero q e t = let p : k ≡ q = cc in subst (λ z. IsValue (bound_sort z) v) p h.0
value_at (k ∷ ks) (v ∷ values) h (suc i) q e t = value_at ks values h.1 i q e t

bound_itself : (k : BoundKind) → Admits (bound_sort k) (bound_sort k)
bound_itself (bound_kind region_kind n) = tt
bound_itself (bound_kind type_kind n) = tt
bound_itself (bound_kind const_kind n) = tt

bound_through : (s : Sort) (k : BoundKind) (x : Tree) → Admits s (bound_sort k) → IsTerm (bound_sort k) x → IsTerm s x
bound_through s k x a h = term_through s (variable_kind k) x (subst (Admits s) (sym (variable_sort k)) a)
    (subst (λ z. IsTerm z x) (sym (variable_sort k)) h)

-- A term of a sort without variables.
abbrev IsPlain : Sort → Tree → Type 0
IsPlain s t = IsTerm s t × Leaves IsNoVariable t

module _ (places : Tree → Bool) (ks : List BoundKind) (values : List Tree) (fit : FitKinds ks values)
    (bound_places : (k : BoundKind) (d i : ℕ) → places (leaf (bound k d i)) ≡ true) where
  put_plain : (d : ℕ) (k : BoundKind) (e i : ℕ) → IsBoundAs ks d (bound k e i) →
      IsPlain (bound_sort k) (put_at values d (bound k e i))
  put_plain d k e i f = go (eqb_tells e d)
    where
      go : ((nat_eq e d ≡ true) × (e ≡ d)) ⊎ ((nat_eq e d ≡ false) × (e ≢ d)) →
          IsPlain (bound_sort k) (put_at values d (bound k e i))
      go (inl p) =
          let b = f p.1 in
          let v = value_at ks values fit i b.0 b.1 (leaf (bound k e i)) in
          subst (λ z. IsPlain (bound_sort k) (cond z (tree_at values i (leaf (bound k e i))) (leaf (bound k e i))))
          (sym p.0) (
            subst (λ s. IsTerm s (tree_at values i (leaf (bound k e i)))) b.2 v.0,
            Leaves_map IsValueLeaf IsNoVariable no_variable (tree_at values i (leaf (bound k e i))) v.1,
          )
      go (inr p) =
          subst (λ z. IsPlain (bound_sort k) (cond z (tree_at values i (leaf (bound k e i))) (leaf (bound k e i))))
          (sym p.0)
          (bound_itself k, tt)

  -- The term keeps its shape, and has no variable still.
  inst_fits : (x : Shape) (d : ℕ) (t : Tree) → AreBoundAs ks d t → Fits x t → Fits x (inst values d t)
  inst_fits (one (term_of s)) d (leaf (bound k e i)) f h = bound_through s k _ h (put_plain d k e i f).0
  inst_fits (one (term_of s)) d (leaf (variable k n)) f h = h
  inst_fits (one (term_of s)) d (leaf (placeholder k u n)) f h = h
  inst_fits (one (term_of s)) d (leaf (atom y)) f h = h
  inst_fits (one (term_of s)) d (leaf unknown) f h = h
  inst_fits (one (term_of s)) d (node g ts) f h = (h.0, inst_fits (head_parts g) d ts f h.1)
  inst_fits (one (binder_of s)) d (bind ls t) f h = inst_fits (one (term_of s)) (suc d) t f h
  inst_fits (row [] r) d nil f h = tt
  inst_fits (row [] (Some p)) d (cons t ts) f h =
      (inst_fits (one p) d t f.0 h.0, inst_fits (row [] (Some p)) d ts f.1 h.1)
  inst_fits (row (p ∷ ps) r) d (cons t ts) f h = (inst_fits (one p) d t f.0 h.0, inst_fits (row ps r) d ts f.1 h.1)
  inst_fits x d t f h = absurd h

  inst_plain : (d : ℕ) (t : Tree) → AreBoundAs ks d t → Leaves IsNoVariable t → Leaves IsNoVariable (inst values d t)
  inst_plain d (leaf (bound k e i)) f v = (put_plain d k e i f).1
  inst_plain d (leaf (variable k n)) f v = v
  inst_plain d (leaf (placeholder k u n)) f v = tt
  inst_plain d (leaf (atom y)) f v = tt
  inst_plain d (leaf unknown) f v = tt
  inst_plain d (node g ts) f v = inst_plain d ts f v
  inst_plain d (bind ls t) f v = inst_plain (suc d) t f v
  inst_plain d nil f v = tt
  inst_plain d (cons t ts) f v = (inst_plain d t f.0 v.0, inst_plain d ts f.1 v.1)

  at_node : (s : Sort) (d : ℕ) (h : Head) (ts : Tree) → AreBoundAs ks d ts → IsTerm s (node h ts) →
      Leaves IsNoVariable ts → Instance places ts (inst values d ts) →
      Instance places (node h ts) (node h (inst values d ts))
  at_node s d h ts f a v i = decide (places (node h ts)) refl
    where
      decide : (w : Bool) → places (node h ts) ≡ w → Instance places (node h ts) (node h (inst values d ts))
      decide true e = put e (stands_itself s (head_sort h) a.0, inst_fits (head_parts h) d ts f a.1)
          (inst_plain d ts f v) refl
      decide false e = kept_node e i

  opened : (x : Shape) (d : ℕ) (t : Tree) → AreBoundAs ks d t → Fits x t → Leaves IsNoVariable t →
      Instance places t (inst values d t)
  opened (one (term_of s)) d (leaf (bound k e i)) f h v =
      let p = put_plain d k e i f in put (bound_places k e i) p.0 p.1 refl
  opened (one (term_of s)) d (leaf (variable k n)) f h v = absurd v
  opened (one (term_of s)) d (leaf (placeholder k u n)) f h v =
      terms_are_instances places s (leaf (placeholder k u n)) h v
  opened (one (term_of s)) d (leaf (atom y)) f h v = terms_are_instances places s (leaf (atom y)) h v
  opened (one (term_of s)) d (leaf unknown) f h v = terms_are_instances places s (leaf unknown) h v
  opened (one (term_of s)) d (node g ts) f h v = at_node s d g ts f h v (opened (head_parts g) d ts f h.1 v)
  opened (one (binder_of s)) d (bind ls t) f h v = kept_bind (opened (one (term_of s)) (suc d) t f h v)
  opened (row [] r) d nil f h v = kept_nil
  opened (row [] (Some p)) d (cons t ts) f h v =
      kept_cons (opened (one p) d t f.0 h.0 v.0) (opened (row [] (Some p)) d ts f.1 h.1 v.1)
  opened (row (p ∷ ps) r) d (cons t ts) f h v =
      kept_cons (opened (one p) d t f.0 h.0 v.0) (opened (row ps r) d ts f.1 h.1 v.1)
  opened x d t f h v = absurd h

pub opened_is_instance : OpenedIsInstance
opened_is_instance places ks values x t p h b f v = opened places ks values h p x 0 t b f v
