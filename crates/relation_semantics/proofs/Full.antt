-- Where nothing can be instantiated and no binder stands in what is related or bound, no variable is made.
use Rattle.std.proofs.Common.{◌≡◌, ◌⊎◌, ◌≢◌, ℕ, zero, suc, ◌<◌, refl, sym, ap, ap₂, ◌∙◌, arith, inl, inr, subst}
use Rattle.std.proofs.Common.{List, get_or}
use Rattle.relation_terms.specs.Heads.{VarKind, variable, value, value_branch, unevaluated, expression}
use Rattle.relation_terms.specs.Trees.{Tree, leaf, node, bind, nil, cons, nth}
use Rattle.relation_semantics.specs.Stores.{Store, Entry, unbound, same_as, bound_to, entry_of, IsMade}
use Rattle.relation_semantics.specs.FirstOrder.{IsFirstOrder}
use Rattle.relation_semantics.specs.ErasureLaws.{IsTypeOrConst}
use Rattle.relation_semantics.specs.Errors.{IsReadAs, itself, by_class, by_binding}
use Rattle.relation_semantics.specs.Measures.{Goes}
use Rattle.relation_semantics.specs.Parts.{direct_parts, branches_of, const_parts_of}
use Rattle.relation_semantics.specs.Steps.{MakesNone, InstantiatesNone, HasNoBinder, BindsNoBinder, StaysFull, StaysFullFor}
use Rattle.relation_semantics.specs.Steps.{WritesEntry, StandsBeside, as_it_was, led_on, MakesToInstantiate}
use Rattle.relation_semantics.specs.Goals.{Goal}
use Rattle.relation_semantics.specs.Alphabets.{StaysBuilt}
use Rattle.relation_semantics.proofs.Classes.{stands_from}
use Rattle.relation_semantics.proofs.Only.{which}
use Rattle.relation_semantics.proofs.BuildingSteps.{no_universe_made}

-- First-order terms have no binder.
pub first_order_plain : (t : Tree) → IsFirstOrder t → HasNoBinder t
first_order_plain (leaf l) h = tt
first_order_plain (node h ts) f = first_order_plain ts f.3
first_order_plain (bind ks t) h = h
first_order_plain nil h = tt
first_order_plain (cons t ts) h = (first_order_plain t h.0, first_order_plain ts h.1)

-- Nor have the parts of terms without.
pub nth_plain : (i : ℕ) (ts : Tree) → HasNoBinder ts → HasNoBinder (nth i ts)
nth_plain zero (cons t ts) h = h.0
nth_plain (suc i) (cons t ts) h = nth_plain i ts h.1
nth_plain i ts h = tt

pub parts_plain : (t : Tree) → HasNoBinder t → HasNoBinder (direct_parts t)
parts_plain (node h ts) f = f
parts_plain t f = tt

branches_plain : (t : Tree) → HasNoBinder t → HasNoBinder (branches_of t)
branches_plain (node value_branch ts) f = f
branches_plain t f = tt

pub const_parts_plain : (t : Tree) → HasNoBinder t → HasNoBinder (const_parts_of t)
const_parts_plain (node (unevaluated d) ts) f = f
const_parts_plain (node (expression k) ts) f = f
const_parts_plain (node value (cons t (cons v nil))) f = branches_plain v f.1.0
const_parts_plain t f = tt

-- What terms without binders are read as has none.
pub read_plain : (st : Store) → BindsNoBinder st → (a u : Tree) → IsReadAs st a u → HasNoBinder a → HasNoBinder u
read_plain st all a u (itself e) h = subst HasNoBinder e h
read_plain st all a u (by_class k n m e c r) h = read_plain st all (leaf (variable k m)) u r tt
read_plain st all a u (by_binding {u = x} k n e b r) h = read_plain st all x u r (all k n x b)

pub full_itself : (st : Store) → StaysFull st st
full_itself st h = (h, λ k. refl)

pub full_same : {r q : Store} → q ≡ r → StaysFull r q
full_same {r} e = subst (StaysFull r) (sym e) (full_itself r)

pub full_then : {r q p : Store} → StaysFull r q → StaysFull q p → StaysFull r p
full_then f g h = let z = f h in let w = g z.0 in (w.0, λ k. w.1 k ∙ z.1 k)

-- Two terms were related after a part of the work that left them without binders.
pub full_led : {r q p : Store} (a b x y : Tree) → StaysFullFor r q a b →
    (BindsNoBinder r → HasNoBinder a → HasNoBinder b → HasNoBinder x × HasNoBinder y) → StaysFullFor q p x y →
    StaysFullFor r p a b
full_led a b x y f l g ha hb h = let z = l h.binds_no_binder ha hb in full_then (f ha hb) (g z.0 z.1) h

-- What holds of terms that have a binder, or where something can be instantiated.
pub full_never : {r q : Store} (a b : Tree) → (HasNoBinder a → ⊥) → StaysFullFor r q a b
full_never a b n ha hb h = absurd (n ha)

pub full_could : {r q : Store} → (InstantiatesNone r → ⊥) → StaysFull r q
full_could n h = absurd (n h.instantiates_none)

-- An unbound variable can be instantiated where something is left of the budget.
pub instantiates_one : (st : Store) (k : VarKind) (n : ℕ) → IsTypeOrConst k → IsMade st k n →
    entry_of st k n ≡ unbound → st.budget ≢ 0 → InstantiatesNone st → ⊥
instantiates_one st k n kind made free left (inl b) = left b
instantiates_one st k n kind made free left (inr o) = o k n kind made free

-- Where nothing could be instantiated, and no variable was made, nothing can be.
instantiates_none_still : {n : ℕ} {r q : Store} → Goes n r q → MakesNone r q → InstantiatesNone r → InstantiatesNone q
instantiates_none_still {r = r} {q = q} g as_many (inl b) = inl (let c = g.counts in omega (arith, b, c))
instantiates_none_still {r = r} {q = q} g as_many (inr o) = inr still
  where
    was : (k : VarKind) (n : ℕ) (x : Entry) → entry_of r k n ≡ x → entry_of q k n ≡ unbound → entry_of r k n ≡ unbound
    was k n unbound e free = e
    was k n (same_as m) e free = absurd (let s = stands_from r q g.later k n (same_as m) e in let d = s.1 in cc (d, free))
    was k n (bound_to t) e free = absurd (let d : entry_of q k n ≡ bound_to t = stands_from r q g.later k n (bound_to t) e in cc (d, free))

    still : (k : VarKind) (n : ℕ) → IsTypeOrConst k → IsMade q k n → entry_of q k n ≡ unbound → ⊥
    still k n kind made free = o k n kind (subst (λ z. n < z) (as_many k) made) (was k n (entry_of r k n) refl free)

pub full_by : {n : ℕ} {r q : Store} → Goes n r q → MakesNone r q → (BindsNoBinder r → BindsNoBinder q) → StaysFull r q
full_by g as_many binds h = (
  record {
    instantiates_none = instantiates_none_still g as_many h.instantiates_none;
    binds_no_binder = binds h.binds_no_binder;
  },
  as_many,
)

-- An unbound variable got an entry without a binder.
pub written_plain : {before after : Store} {k : VarKind} {n : ℕ} {x : Entry} → WritesEntry before after k n x →
    ((t : Tree) → x ≡ bound_to t → HasNoBinder t) → BindsNoBinder before → BindsNoBinder after
written_plain {before} {after} {k} {n} {x} w plain all j m t e = go (which j k m n)
  where
    beside : StandsBeside before after k n x j m → HasNoBinder t
    beside (as_it_was s) = all j m t (sym s ∙ e)
    beside (led_on r p q i s) = absurd (cc (s, e))

    go : ((j ≡ k) × (m ≡ n)) ⊎ (j ≡ k → m ≡ n → ⊥) → HasNoBinder t
    go (inl (p, q)) = plain t (sym w.written ∙ ap₂ (entry_of after) (sym p) (sym q) ∙ e)
    go (inr o) = beside (w.others_stand j m o)

-- A constraint was recorded.
pub constraint_plain : (before after : Store) → ((k : VarKind) → after.entries k ≡ before.entries k) →
    BindsNoBinder before → BindsNoBinder after
constraint_plain before after same all k n t e = all k n t (ap (λ es. get_or es n unbound) (sym (same k)) ∙ e)

-- What is said in the end.
pub makes_to_instantiate : {n : ℕ} {before after : Store} (gs : List Goal) (a b : Tree) → Goes n before after →
    StaysFullFor before after a b → StaysBuilt before after gs a b → MakesToInstantiate before after a b
makes_to_instantiate gs a b g f built = record {
  no_number = g.made;
  no_universe = no_universe_made gs a b built;
  none = λ ha hb binds none. (f ha hb (record { instantiates_none = none; binds_no_binder = binds })).1;
}
