-- Generalising has one outcome.
use Rattle.std.proofs.Common.{◌≡◌, ◌⊎◌, ℕ, zero, suc, ◌+◌, ◌<◌, ◌≤◌, refl, sym, ap, ap₂, ◌∙◌, arith, inl, inr, subst, List, [], ◌∷◌, length, length-append, Contains, ◌≢◌}
use Rattle.term_enums.specs.declared.Variance.{Variance}
use Rattle.relation_terms.specs.Heads.{VarKind, VarKind_discrete, variable, type_var, region_sort, region_kind, type_kind, const_kind, BoundKind, bound_kind, bound_sort, AliasKind, alias, placeholder}
use Rattle.relation_terms.specs.Trees.{Tree, leaf, node, bind, cons, size, Leaves}
use Rattle.relation_semantics.specs.Relation.{Items}
use Rattle.relation_semantics.specs.Stores.{Store, unbound}
use Rattle.relation_semantics.specs.Steps.{MakesVariable}
use Rattle.relation_semantics.specs.StoreLaws.{GeneralisingIsOne}
use Rattle.term_enums.specs.declared.StructurallyRelateAliases.{StructurallyRelateAliases}
use Rattle.term_enums.specs.declared.StructurallyRelateAliases.TheVariants.{No}
use Rattle.relation_semantics.specs.Generalising.{Met, Stage, Side, Turn, any_part, new_part, parts_from, Generalised, met_before, met_first, no_type, stays, gives_way, alias_gives_way, by_parts, in_binder, no_parts, next_part, IsSeen, IsNoObstacle, Obstacle, StopsAt, at_itself, at_placeholder, in_parts, in_body, in_first, in_others}

abbrev pub met_as : Side → Variance → Tree → Tree → Met
met_as sd v t x = record { side = sd; variance = v; type = t; term = x }

-- As many variables of each kind.
abbrev AsMany : Store → Store → Type 0
AsMany a b = (k : VarKind) → length (a.entries k) ≡ length (b.entries k)

-- A type was met with one outcome at each variance.
abbrev IsOne : List Met → Type 0
IsOne es = (sd : Side) (v : Variance) (t x y : Tree) → Contains es (met_as sd v t x) → Contains es (met_as sd v t y) → x ≡ y

pub first_or_later : (e a : Met) (es : List Met) → Contains (e ∷ es) a → (e ≡ a) ⊎ Contains es a
first_or_later e a es (zero, l, q) = inl q
first_or_later e a es (suc k, l, q) = inr (k, omega (arith, l), q)

one_more : (sd : Side) (v : Variance) (t x : Tree) (es : List Met) → IsOne es → ((y : Tree) → Contains es (met_as sd v t y) → ⊥) → IsOne (met_as sd v t x ∷ es)
one_more sd v t x es one new sw w u y z c d = go (first_or_later _ _ es c) (first_or_later _ _ es d)
  where
    fresh : (y z : Tree) → met_as sd v t x ≡ met_as sw w u y → Contains es (met_as sw w u z) → ⊥
    fresh y z p c = new z (subst (λ e. Contains es (met_as e v t z)) (sym (ap (λ m. m.side) p)) (subst (λ i. Contains es (met_as sw i t z)) (sym (ap (λ m. m.variance) p)) (subst (λ j. Contains es (met_as sw w j z)) (sym (ap (λ m. m.type) p)) c)))

    go : (met_as sd v t x ≡ met_as sw w u y) ⊎ Contains es (met_as sw w u y) → (met_as sd v t x ≡ met_as sw w u z) ⊎ Contains es (met_as sw w u z) → y ≡ z
    go (inl p) (inl q) = sym (ap (λ m. m.term) p) ∙ ap (λ m. m.term) q
    go (inl p) (inr q) = absurd (fresh y z p q)
    go (inr p) (inl q) = absurd (fresh z y q p)
    go (inr p) (inr q) = one sw w u y z p q

-- An obstacle stands in no term that is clear.
pub stops_no_clear : {al : StructurallyRelateAliases} {st : Store} {k : VarKind} {n : ℕ} {o : Obstacle} {t : Tree} → StopsAt al st k n o t → Leaves (IsNoObstacle st k n) t → ⊥
stops_no_clear {st = st} {k = k} {n = n} (at_itself p q) h = (subst (IsNoObstacle st k n) q h) refl
stops_no_clear {st = st} {k = k} {n = n} (at_placeholder {q = q} {w = w} {i = i} p o l) h = go q o h
  where
    go : (q : BoundKind) → bound_sort q ≢ region_sort → IsNoObstacle st k n (placeholder q w i) → ⊥
    go (bound_kind region_kind x) o h = o refl
    go (bound_kind type_kind x) o h = omega (arith, l, h)
    go (bound_kind const_kind x) o h = omega (arith, l, h)
stops_no_clear (in_parts p f) h = stops_no_clear f h
stops_no_clear (in_body f) h = stops_no_clear f h
stops_no_clear (in_first f) h = stops_no_clear f h.0
stops_no_clear (in_others c f) h = stops_no_clear f h.1

pub alias_unseen : {al : StructurallyRelateAliases} (a : AliasKind) (d : ℕ) → al ≡ No → IsSeen al (alias a d) → ⊥
alias_unseen a d e h = subst (λ z. IsSeen z (alias a d)) e h

-- Two runs end alike.
record EndAlike (q p : Stage) (x y : Tree) : Type 0 where
  term : x ≡ y
  many : AsMany q.store p.store
  met : q.met ≡ p.met
  one : IsOne q.met

-- Two new variables for one leaf.
module _ (r q r' q' : Stage) (j j' : VarKind) (m m' u : ℕ) (many : AsMany r.store r'.store) (b : MakesVariable r.store q.store j m u) (b' : MakesVariable r'.store q'.store j' m' u) (same : j ≡ j') where
  same_number : m ≡ m'
  same_number = b.number ∙ many j ∙ ap (λ k. length ((r'.store).entries k)) same ∙ sym b'.number

  grown : (k : VarKind) → Dec (k ≡ j) → length ((q.store).entries k) ≡ length ((q'.store).entries k)
  grown k (yes e) = ap (λ z. length ((q.store).entries z)) e ∙ ap length b.entries_grow ∙ length-append ((r.store).entries j) (unbound ∷ [])
      ∙ (let h = many j in let g : length ((r'.store).entries j) ≡ length ((r'.store).entries j') = ap (λ k. length ((r'.store).entries k)) same in let d : length ((q'.store).entries j') ≡ length ((r'.store).entries j') + 1 = ap length b'.entries_grow ∙ length-append ((r'.store).entries j') (unbound ∷ []) in let f : length ((q'.store).entries k) ≡ length ((q'.store).entries j') = ap (λ z. length ((q'.store).entries z)) (e ∙ same) in omega (arith, h, g, d, f))
  grown k (no o) = ap length (b.other_entries k o) ∙ many k ∙ sym (ap length (b'.other_entries k (λ e. o (e ∙ sym same))))

  still_many : AsMany q.store q'.store
  still_many k = grown k (VarKind_discrete k j)

-- Only types that are no larger are met on the way.
abbrev Within : Turn → Tree → Tree → Type 0
Within (any_part sd v) u t = size u ≤ size t
Within (new_part sd v) u t = size u < size t
Within (parts_from sd h i v) u t = size u < size t

small : {al : StructurallyRelateAliases} {c : Items} {start : Store} {k : VarKind} {n : ℕ} {turn : Turn} {r q : Stage} {t x : Tree} → Generalised al c start k n turn r t q x → (a : Met) → Contains q.met a → Contains r.met a ⊎ Within turn a.type t
small (met_before s c) a h = inl h
small (met_first {e = sd} {v = v} {r = r} {q = q} {t = t} {x = x} s new f e d) a h = first (λ b. small f a b) (first_or_later (met_as sd v t x) a q.met (subst (λ es. Contains es a) d h))
  where
    then : Contains r.met a ⊎ (size a.type < size t) → Contains r.met a ⊎ (size a.type ≤ size t)
    then (inl b) = inl b
    then (inr b) = inr (omega (arith, b))

    first : (Contains q.met a → Contains r.met a ⊎ (size a.type < size t)) → (met_as sd v t x ≡ a) ⊎ Contains q.met a → Contains r.met a ⊎ (size a.type ≤ size t)
    first i (inl b) = inr (let l = ap (λ m. size m.type) b in omega (arith, l))
    first i (inr b) = then (i b)
small (no_type {r = r} {t = t} o f) a h = then (small f a h)
  where
    then : Contains r.met a ⊎ (size a.type < size t) → Contains r.met a ⊎ (size a.type ≤ size t)
    then (inl b) = inl b
    then (inr b) = inr (omega (arith, b))
small (stays o s) a h = inl h
small (gives_way o ns e b d) a h = inl (subst (λ es. Contains es a) d h)
small (alias_gives_way p o b d) a h = inl (subst (λ es. Contains es a) d h)
small (by_parts {r = r} {ts = ts} p f) a h = then (small f a h)
  where
    then : Contains r.met a ⊎ (size a.type < size ts) → Contains r.met a ⊎ (size a.type < suc (size ts))
    then (inl b) = inl b
    then (inr b) = inr (omega (arith, b))
small (in_binder {r = r} {t = t} f) a h = then (small f a h)
  where
    then : Contains r.met a ⊎ (size a.type ≤ size t) → Contains r.met a ⊎ (size a.type < suc (suc (size t)))
    then (inl b) = inl b
    then (inr b) = inr (omega (arith, b))
small no_parts a h = inl h
small (next_part {r = r} {q = q} {t = t} {ts = ts} f s) a h = then (λ b. small f a b) (small s a h)
  where
    before : Contains r.met a ⊎ (size a.type ≤ size t) → Contains r.met a ⊎ (size a.type < suc (size t + size ts))
    before (inl b) = inl b
    before (inr b) = inr (omega (arith, b))

    then : (Contains q.met a → Contains r.met a ⊎ (size a.type ≤ size t)) → Contains q.met a ⊎ (size a.type < size ts) → Contains r.met a ⊎ (size a.type < suc (size t + size ts))
    then i (inl b) = before (i b)
    then i (inr b) = inr (omega (arith, b))

-- So a type that was not met is not while it is gone through.
pub still_new : {al : StructurallyRelateAliases} {c : Items} {start : Store} {k : VarKind} {n : ℕ} {sd : Side} {v : Variance} {r q : Stage} {t x : Tree} → Generalised al c start k n (new_part sd v) r t q x → ((y : Tree) → Contains r.met (met_as sd v t y) → ⊥) → (y : Tree) → Contains q.met (met_as sd v t y) → ⊥
still_new {sd = sd} {v = v} {r = r} {t = t} f new y h = go (small f (met_as sd v t y) h)
  where
    go : Contains r.met (met_as sd v t y) ⊎ (size t < size t) → ⊥
    go (inl b) = new y b
    go (inr b) = omega (arith, b)

once : {al : StructurallyRelateAliases} {c : Items} {start : Store} {k : VarKind} {n : ℕ} {turn : Turn} {r q r' q' : Stage} {t x x' : Tree} → Generalised al c start k n turn r t q x → Generalised al c start k n turn r' t q' x' → AsMany r.store r'.store → r.met ≡ r'.met → IsOne r.met → EndAlike q q' x x'
once (met_before {e = sd} {v = v} {t = t} {x = x} s c) (met_before {x = y} s' c') many met one = record { term = one sd v t x y c (subst (λ es. Contains es (met_as sd v t y)) (sym met) c'); many = many; met = met; one = one }
once (met_before {e = sd} {v = v} {t = t} {x = x} s c) (met_first s' new f e d) many met one = absurd (new x (subst (λ es. Contains es (met_as sd v t x)) met c))
once (met_before s c) (no_type o f) many met one = absurd (o s)
once (met_first {e = sd} {v = v} {t = t} s new f e d) (met_before {x = y} s' c') many met one = absurd (new y (subst (λ es. Contains es (met_as sd v t y)) (sym met) c'))
once (met_first {e = sd} {v = v} {r = r} {q = q} {t = t} {x = x} s new f e d) (met_first {q = q'} {x = y} s' new' f' e' d') many met one = let h = once f f' many met one in record {
  term = h.term;
  many = λ k. ap (λ st. length (st.entries k)) e ∙ h.many k ∙ sym (ap (λ st. length (st.entries k)) e');
  met = d ∙ ap₂ (λ z es. met_as sd v t z ∷ es) h.term h.met ∙ sym d';
  one = subst IsOne (sym d) (one_more sd v t x q.met h.one (still_new f new));
}
once (met_first s new f e d) (no_type o f') many met one = absurd (o s)
once (no_type o f) (met_before s c) many met one = absurd (o s)
once (no_type o f) (met_first s new f' e d) many met one = absurd (o s)
once (no_type o f) (no_type o' f') many met one = once f f' many met one
once (stays o s) (stays o' s') many met one = record { term = refl; many = many; met = met; one = one }
once (stays o s) (gives_way o' ns e b d) many met one = absurd (ns s)
once (gives_way o ns e b d) (stays o' s) many met one = absurd (ns s)
once (gives_way {r = r} {q = q} {j = j} {m = m} o ns e b d) (gives_way {r = r'} {q = q'} {j = j'} {m = m'} o' ns' e' b' d') many met one = let same : j ≡ j' = cc (e, e') in record {
  term = ap₂ (λ i p. leaf (variable i p)) same (same_number r q r' q' j j' m m' _ many b b' same);
  many = still_many r q r' q' j j' m m' _ many b b' same;
  met = d ∙ met ∙ sym d';
  one = subst IsOne (sym d) one;
}
once (alias_gives_way {r = r} {q = q} {m = m} p o b d) (alias_gives_way {r = r'} {q = q'} {m = m'} p' o' b' d') many met one = record {
  term = ap (λ z. leaf (variable type_var z)) (same_number r q r' q' type_var type_var m m' _ many b b' refl);
  many = still_many r q r' q' type_var type_var m m' _ many b b' refl;
  met = d ∙ met ∙ sym d';
  one = subst IsOne (sym d) one;
}
once (alias_gives_way {a = a} {d = i} p o b d) (by_parts z f) many met one = absurd (stops_no_clear o (z refl (alias_unseen a i p)))
once (by_parts z f) (alias_gives_way {a = a} {d = i} p o b d) many met one = absurd (stops_no_clear o (z refl (alias_unseen a i p)))
once (by_parts {h = h} p f) (by_parts p' f') many met one = let a = once f f' many met one in record { term = ap (node h) a.term; many = a.many; met = a.met; one = a.one }
once (in_binder {ks = ks} f) (in_binder f') many met one = let a = once f f' many met one in record { term = ap (bind ks) a.term; many = a.many; met = a.met; one = a.one }
once no_parts no_parts many met one = record { term = refl; many = many; met = met; one = one }
once (next_part f s) (next_part f' s') many met one = let a = once f f' many met one in let b = once s s' a.many a.met a.one in record { term = ap₂ cons a.term b.term; many = b.many; met = b.met; one = b.one }

pub generalising_is_one : GeneralisingIsOne
generalising_is_one al c start k n v r q t x y f g = (once f g (λ k. refl) refl (λ sd v t x y a b. absurd (omega (arith, a.1)))).term
