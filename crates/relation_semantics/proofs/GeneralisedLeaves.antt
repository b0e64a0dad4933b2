-- Leaves that give way where a term is generalised, and obstacles among them.
use Rattle.std.proofs.Common.{◌≡◌, ◌≢◌, ◌⊎◌, ℕ, refl, sym, ap, inl, inr, subst, ◌<◌, Contains, Some}
use Rattle.term_enums.specs.declared.Variance.{Variance}
use Rattle.relation_terms.specs.Heads.{region_sort, type_sort, const_sort, term_of, one, region_kind, bound_kind, VarKind, type_var, int_var, float_var, const_var, region_var, static_region, early_region, Head, Leaf, variable, bound, placeholder, atom, unknown, type_kind, const_kind, BoundKind, bound_sort, alias}
use Rattle.relation_terms.specs.Trees.{Tree, leaf, node, bind, nil, cons, Assign, assigned, Leaves, Occurs}
use Rattle.relation_semantics.specs.Relation.{Items, IsValueLeaf, StaysWithin}
use Rattle.relation_semantics.specs.Stores.{Store, universe_of, IsMadeLeaf, IsAssignment, MayStandFor}
use Rattle.relation_semantics.specs.FirstOrder.{IsFirstOrder, IsFirstOrderHead, IsClosedLeaf}
use Rattle.relation_semantics.specs.Steps.{IsNoAlias, LacksAliases}
use Rattle.term_enums.specs.declared.StructurallyRelateAliases.{StructurallyRelateAliases}
use Rattle.relation_semantics.specs.Generalising.{Stage, Stays, gives_way_to, Side, Turn, Generalised, met_before, met_first, no_type, stays, gives_way, alias_gives_way, by_parts, in_binder as in_bound, no_parts, next_part, IsNoObstacle, Obstacle, StopsAt, at_itself, at_placeholder, in_parts, in_body, in_first, in_others}
use Rattle.relation_semantics.proofs.GeneralisingOnce.{met_as}
use Rattle.relation_semantics.proofs.GeneralisingOnce.{first_or_later}
use Rattle.relation_semantics.proofs.Leafwise.{StandsIn, tamed, tamed_fits}
use Rattle.relation_terms.proofs.Paths.{leaf_path}

-- A value of a leaf that gives way is one for the new variable.
pub given_value : (st : Store) (s : Assign) → IsAssignment st s → (l : Leaf) (j : VarKind) → gives_way_to l ≡ Some j → IsMadeLeaf st l → MayStandFor j (assigned s l) × Leaves IsValueLeaf (assigned s l) × StaysWithin 0 (assigned s l)
given_value st s h (variable type_var m) j e i = let q : type_var ≡ j = cc in let a = h type_var m i in (subst (λ z. MayStandFor z (s type_var m)) q a.0, a.1, a.2)
given_value st s h (variable const_var m) j e i = let q : const_var ≡ j = cc in let a = h const_var m i in (subst (λ z. MayStandFor z (s const_var m)) q a.0, a.1, a.2)
given_value st s h (variable region_var m) j e i = let q : region_var ≡ j = cc in let a = h region_var m i in (subst (λ z. MayStandFor z (s region_var m)) q a.0, a.1, a.2)
given_value st s h (placeholder (bound_kind region_kind x) w i) j e d = let q : region_var ≡ j = cc in (subst (λ z. MayStandFor z (leaf (placeholder (bound_kind region_kind x) w i))) q tt, tt, tt)
given_value st s h (atom static_region) j e i = let q : region_var ≡ j = cc in (subst (λ z. MayStandFor z (leaf (atom static_region))) q tt, tt, tt)
given_value st s h (atom (early_region a x)) j e i = let q : region_var ≡ j = cc in (subst (λ z. MayStandFor z (leaf (atom (early_region a x)))) q tt, tt, tt)
given_value st s h l j e i = absurd cc

-- What takes the place of a closed leaf is closed.
pub given_closed : (l : Leaf) (j : VarKind) (m : ℕ) → gives_way_to l ≡ Some j → IsClosedLeaf l → IsClosedLeaf (variable j m)
given_closed (variable type_var i) j m e h = absurd h
given_closed (variable const_var i) j m e h = absurd h
given_closed (variable region_var i) j m e h = let q : region_var ≡ j = cc in subst (λ z. IsClosedLeaf (variable z m)) q tt
given_closed (placeholder (bound_kind region_kind x) w i) j m e h = let q : region_var ≡ j = cc in subst (λ z. IsClosedLeaf (variable z m)) q tt
given_closed (atom static_region) j m e h = let q : region_var ≡ j = cc in subst (λ z. IsClosedLeaf (variable z m)) q tt
given_closed (atom (early_region a x)) j m e h = let q : region_var ≡ j = cc in subst (λ z. IsClosedLeaf (variable z m)) q tt
given_closed l j m e h = absurd cc

-- Values for kinds of types, constants and regions are terms of their sorts.
pub tamed_stands : (u : ℕ) (l : Leaf) (j : VarKind) (t : Tree) → gives_way_to l ≡ Some j → MayStandFor j t → MayStandFor j (tamed u t)
tamed_stands u l type_var t e h = tamed_fits u (one (term_of type_sort)) t h
tamed_stands u l const_var t e h = tamed_fits u (one (term_of const_sort)) t h
tamed_stands u l region_var t e h = tamed_fits u (one (term_of region_sort)) t h
tamed_stands u l int_var t e h = absurd (no_int l e)
  where
    no_int : (l : Leaf) → gives_way_to l ≡ Some int_var → ⊥
    no_int (variable type_var m) e = cc
    no_int (variable const_var m) e = cc
    no_int (variable region_var m) e = cc
    no_int (placeholder (bound_kind region_kind x) w i) e = cc
    no_int (atom static_region) e = cc
    no_int (atom (early_region a x)) e = cc
    no_int l e = cc
tamed_stands u l float_var t e h = absurd (no_float l e)
  where
    no_float : (l : Leaf) → gives_way_to l ≡ Some float_var → ⊥
    no_float (variable type_var m) e = cc
    no_float (variable const_var m) e = cc
    no_float (variable region_var m) e = cc
    no_float (placeholder (bound_kind region_kind x) w i) e = cc
    no_float (atom static_region) e = cc
    no_float (atom (early_region a x)) e = cc
    no_float l e = cc

-- A term without aliases that was generalised has no obstacle, nor have the types that were met.
pub clear_stays : (st : Store) (k : VarKind) (n : ℕ) (v : Variance) (l : Leaf) → l ≢ variable k n → Stays st (universe_of st k n) v l → IsNoObstacle st k n l
clear_stays st k n v (variable j m) o s = o
clear_stays st k n v (bound q d i) o s = tt
clear_stays st k n v (placeholder (bound_kind region_kind x) w i) o s = tt
clear_stays st k n v (placeholder (bound_kind type_kind x) w i) o s = s
clear_stays st k n v (placeholder (bound_kind const_kind x) w i) o s = s
clear_stays st k n v (atom x) o s = tt
clear_stays st k n v unknown o s = tt

pub clear_gives : (st : Store) (k : VarKind) (n : ℕ) (l : Leaf) (j : VarKind) → l ≢ variable k n → gives_way_to l ≡ Some j → IsNoObstacle st k n l
clear_gives st k n (variable i m) j o e = o
clear_gives st k n (bound q d i) j o e = tt
clear_gives st k n (placeholder (bound_kind region_kind x) w i) j o e = tt
clear_gives st k n (placeholder (bound_kind type_kind x) w i) j o e = absurd cc
clear_gives st k n (placeholder (bound_kind const_kind x) w i) j o e = absurd cc
clear_gives st k n (atom x) j o e = tt
clear_gives st k n unknown j o e = tt

abbrev MetClear : Store → VarKind → ℕ → Stage → Type 0
MetClear st k n r = (s : Side) (v : Variance) (t x : Tree) → Contains r.met (record { side = s; variance = v; type = t; term = x }) → LacksAliases t → Leaves (IsNoObstacle st k n) t

pub clear_lacking : {al : StructurallyRelateAliases} {c : Items} {start : Store} {k : VarKind} {n : ℕ} {turn : Turn} {r q : Stage} {t x : Tree} → Generalised al c start k n turn r t q x → MetClear start k n r →
    (LacksAliases t → Leaves (IsNoObstacle start k n) t) × MetClear start k n q
clear_lacking (met_before {e = e} {v = v} {t = t} {x = x} s d) m = (m e v t x d, m)
clear_lacking {start = start} {k = k} {n = n} (met_first {e = e} {v = v} {r = r} {q = q} {p = p} {t = t} {x = x} s new f i d) m = let z = clear_lacking f m in (z.0, λ a w u y h l. go z a w u y l (first_or_later _ _ q.met (subst (λ es. Contains es (met_as a w u y)) d h)))
  where
    go : (LacksAliases t → Leaves (IsNoObstacle start k n) t) × MetClear start k n q → (a : Side) (w : Variance) (u y : Tree) → LacksAliases u → (met_as e v t x ≡ met_as a w u y) ⊎ Contains q.met (met_as a w u y) → Leaves (IsNoObstacle start k n) u
    go z a w u y l (inl b) = let i : t ≡ u = ap (λ g. g.type) b in subst (Leaves (IsNoObstacle start k n)) i (z.0 (subst LacksAliases (sym i) l))
    go z a w u y l (inr b) = z.1 a w u y b l
clear_lacking (no_type s f) m = clear_lacking f m
clear_lacking {start = start} {k = k} {n = n} (stays {v = v} {l = l} o s) m = (λ h. clear_stays start k n v l o s, m)
clear_lacking {start = start} {k = k} {n = n} (gives_way {l = l} {j = j} o s e f d) m = (λ h. clear_gives start k n l j o e, λ a w u y h. m a w u y (subst (λ es. Contains es (met_as a w u y)) d h))
clear_lacking (alias_gives_way p s f d) m = (λ h. absurd h.0, λ a w u y h. m a w u y (subst (λ es. Contains es (met_as a w u y)) d h))
clear_lacking (by_parts z f) m = let y = clear_lacking f m in (λ h. y.0 h.1, y.1)
clear_lacking (in_bound f) m = clear_lacking f m
clear_lacking no_parts m = (λ h. tt, m)
clear_lacking (next_part f s) m = let y = clear_lacking f m in let z = clear_lacking s y.1 in (λ h. (y.0 h.0, z.0 h.1), z.1)

-- What is bound is not the variable itself.
pub not_itself : {al : StructurallyRelateAliases} {c : Items} {start : Store} {k : VarKind} {n : ℕ} {turn : Turn} {r q : Stage} {t x : Tree} → Generalised al c start k n turn r t q x → ((s : Side) (v : Variance) (u y : Tree) → Contains r.met (record { side = s; variance = v; type = u; term = y }) → ⊥) → t ≢ leaf (variable k n)
not_itself (met_before {e = e} {v = v} {t = t} {x = x} s d) new p = new e v t x d
not_itself (met_first s n f e d) new p = not_itself f new p
not_itself (no_type s f) new p = not_itself f new p
not_itself (stays o s) new p = o (leaf_path p)
not_itself (gives_way o s e f d) new p = o (leaf_path p)
not_itself (alias_gives_way z s f d) new p = cc
not_itself (by_parts z f) new p = cc
not_itself (in_bound f) new p = cc
not_itself no_parts new p = cc
not_itself (next_part f s) new p = cc

-- An obstacle is a leaf of a term.
pub record ObstacleLeaf (st : Store) (k : VarKind) (n : ℕ) (t : Tree) : Type 0 where
  pub leaf_of : Leaf
  pub stands : StandsIn leaf_of t
  pub is : (leaf_of ≡ variable k n) ⊎ ((q : BoundKind) × (w : ℕ) × (i : ℕ) × (leaf_of ≡ placeholder q w i) × (bound_sort q ≢ region_sort) × (universe_of st k n < w))

pub obstacle_leaf : {al : StructurallyRelateAliases} {st : Store} {k : VarKind} {n : ℕ} {o : Obstacle} {t : Tree} → StopsAt al st k n o t → ObstacleLeaf st k n t
unfolding StandsIn
obstacle_leaf (at_itself {l = l} p q) = record { leaf_of = l; stands = refl; is = inl q }
obstacle_leaf (at_placeholder {q = q} {w = w} {i = i} p o l) = record { leaf_of = placeholder q w i; stands = refl; is = inr (q, w, i, refl, o, l) }
obstacle_leaf (in_parts p f) = let z = obstacle_leaf f in record { leaf_of = z.leaf_of; stands = z.stands; is = z.is }
obstacle_leaf (in_body f) = let z = obstacle_leaf f in record { leaf_of = z.leaf_of; stands = z.stands; is = z.is }
obstacle_leaf (in_first f) = let z = obstacle_leaf f in record { leaf_of = z.leaf_of; stands = inl z.stands; is = z.is }
obstacle_leaf (in_others c f) = let z = obstacle_leaf f in record { leaf_of = z.leaf_of; stands = inr z.stands; is = z.is }

pub stands_occurs : (k : VarKind) (n : ℕ) (t : Tree) → StandsIn (variable k n) t → Occurs k n t
unfolding StandsIn
stands_occurs k n (leaf l) s = ap leaf s
stands_occurs k n (node h t) s = stands_occurs k n t s
stands_occurs k n (bind ks t) s = stands_occurs k n t s
stands_occurs k n nil s = s
stands_occurs k n (cons t u) (inl s) = inl (stands_occurs k n t s)
stands_occurs k n (cons t u) (inr s) = inr (stands_occurs k n u s)

-- First-order terms have no alias.
no_alias_head : (h : Head) → IsFirstOrderHead h → IsNoAlias h
no_alias_head (alias a d) f = absurd f
no_alias_head h f = tt

pub first_order_lacks : (t : Tree) → IsFirstOrder t → LacksAliases t
first_order_lacks (leaf l) f = tt
first_order_lacks (node h ts) f = (no_alias_head h f.0, first_order_lacks ts f.3)
first_order_lacks (bind ks t) f = absurd f
first_order_lacks nil f = tt
first_order_lacks (cons t ts) f = (first_order_lacks t f.0, first_order_lacks ts f.1)
