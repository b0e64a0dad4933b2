-- Writing what is recorded of variables of a kind: two were made one, or one was bound.
use Rattle.std.proofs.Common.{◌≡◌, ℕ, suc, ◌<◌, ◌≤◌, refl, sym, ap, ap₂, ◌∙◌, arith, subst, subst₂, List, [], ◌∷◌, length, map, get_or, set, min, eqb, cond, Bool, true, false}
use Rattle.std.proofs.lemmas.Bool.{eqb-true, eq-eqb}
use Rattle.std.proofs.lemmas.List.{map-set, length-set, length-map, get_or-set_same, get_or-set_other}
use Rattle.std.proofs.Math.ListN.{get_or-map}
use native.Mathlib.Decide.{ℕ_discrete}
use Rattle.relation_terms.specs.Heads.{VarKind, VarKind_discrete, type_var, region_var}
use Rattle.relation_terms.specs.Trees.{Tree}
use Rattle.relation_terms.specs.Meaning.{Meaning}
use Rattle.relation_semantics.specs.Stores.{Store, Entry, unbound, same_as, bound_to, entry_of, universe_of, IsMade, IsSound}
use Rattle.relation_semantics.specs.Steps.{IsNumberKind, WritesEntry, StandsBeside, as_it_was, led_on, Equates, BindsTo, InstantiatesNumber, IsNumberFor}
use Rattle.relation_semantics.proofs.Equating.{equated_sound}
use Rattle.variable_tables.specs.declared.inner.VariableValue.{VariableValue}
use Rattle.variable_tables.specs.declared.inner.VariableValue.TheVariants.{Unknown, SameAs, Known}
use Rattle.variable_tables.specs.declared.inner.Variable.{Variable}
use Rattle.variable_tables.specs.declared.inner.InferCtxtInner.{InferCtxtInner}
use Rattle.variable_tables.specs.Variables.{values_of, value_at, led, entry_of_value, entries_of}
use Rattle.variable_tables.specs.Tables.{store_of, keys_in, MayBeBoundTo, IsRooted, IsFilled, IsLawful}
use Rattle.variable_tables.proofs.Beside.{Beside, lawful_beside, keyed_still}

eqb-same : (a : ℕ) → eqb a a ≡ true
eqb-same a = eq-eqb a a refl

eqb-differs : (a b : ℕ) → (a ≡ b → ⊥) → eqb a b ≡ false
eqb-differs a b o = go (eqb a b) refl
  where
    go : (c : Bool) → eqb a b ≡ c → eqb a b ≡ false
    go true e = absurd (o (eqb-true a b e))
    go false e = e

map_itself : {A : Type 0} (xs : List A) → map (λ x. x) xs ≡ xs
map_itself [] = refl
map_itself (x ∷ xs) = ap (λ ys. x ∷ ys) (map_itself xs)

-- What leading on makes of an entry.
abbrev pub led_entry : ℕ → ℕ → Entry → Entry
led_entry child root unbound = unbound
led_entry child root (same_as m) = same_as (cond (eqb m child) root m)
led_entry child root (bound_to t) = bound_to t

led_value : {K : Type 0} (tree : K → Tree) (child root : ℕ) (v : VariableValue K) → entry_of_value tree (led child root v) ≡ led_entry child root (entry_of_value tree v)
led_value tree child root Unknown = refl
led_value tree child root (SameAs m) = refl
led_value tree child root (Known t) = refl

led_values : {K : Type 0} (tree : K → Tree) (child root : ℕ) (vs : List (VariableValue K)) → map (entry_of_value tree) (map (led child root) vs) ≡ map (led_entry child root) (map (entry_of_value tree) vs)
led_values tree child root [] = refl
led_values tree child root (v ∷ vs) = ap (λ es. entry_of_value tree (led child root v) ∷ es) (led_values tree child root vs) ∙ ap (λ e. e ∷ map (led_entry child root) (map (entry_of_value tree) vs)) (led_value tree child root v)

-- The entries of a table whose values were written.
pub linked_entries : {K : Type 0} (tree : K → Tree) (xs ys : List (Variable K)) (child root : ℕ) → values_of ys ≡ set (map (led child root) (values_of xs)) child (SameAs root) →
    entries_of tree ys ≡ set (map (led_entry child root) (entries_of tree xs)) child (same_as root)
linked_entries tree xs ys child root e = ap (map (entry_of_value tree)) e ∙ map-set (entry_of_value tree) (map (led child root) (values_of xs)) child (SameAs root)
    ∙ ap (λ es. set es child (same_as root)) (led_values tree child root (values_of xs))

pub bound_entries : {K : Type 0} (tree : K → Tree) (xs ys : List (Variable K)) (n : ℕ) (t : K) → values_of ys ≡ set (values_of xs) n (Known t) → entries_of tree ys ≡ set (entries_of tree xs) n (bound_to (tree t))
bound_entries tree xs ys n t e = ap (map (entry_of_value tree)) e ∙ map-set (entry_of_value tree) (values_of xs) n (Known t)

pub table_made : {K : Type 0} (tree : K → Tree) (vs : List (Variable K)) (n : ℕ) → n < length vs → n < length (entries_of tree vs)
table_made tree vs n h = let a = length-map (values_of vs) (entry_of_value tree) in let b = length-map vs (λ v. v.value) in omega (arith, h, a, b)

pub table_of_entries : {K : Type 0} (tree : K → Tree) (vs : List (Variable K)) (n : ℕ) → n < length (entries_of tree vs) → n < length vs
table_of_entries tree vs n h = let a = length-map (values_of vs) (entry_of_value tree) in let b = length-map vs (λ v. v.value) in omega (arith, h, a, b)

-- Nothing is recorded of a variable whose entry says so.
pub value_free : {K : Type 0} (tree : K → Tree) (vs : List (Variable K)) (n : ℕ) → get_or (entries_of tree vs) n unbound ≡ unbound → value_at vs n ≡ Unknown
value_free tree vs n e = go (value_at vs n) (sym (get_or-map (entry_of_value tree) (values_of vs) n Unknown) ∙ e)
  where
    go : (v : VariableValue _) → entry_of_value tree v ≡ unbound → v ≡ Unknown
    go Unknown q = refl
    go (SameAs m) q = absurd (cc q)
    go (Known t) q = absurd (cc q)

-- A store of which all but one kind's entries and universes, and the budget, stands.
pub record OtherKinds (before after : Store) (k : VarKind) : Type 0 where
  pub entries : (j : VarKind) → (j ≡ k → ⊥) → after.entries j ≡ before.entries j
  pub universes : (j : VarKind) → (j ≡ k → ⊥) → after.universes j ≡ before.universes j
  pub constraints : after.constraints ≡ before.constraints
  pub universe : after.universe ≡ before.universe
  pub taint : after.tainted ≡ before.tainted

-- One entry of the kind was written over others that stand or were led on.
module _ (before after : Store) (k : VarKind) (n : ℕ) (x : Entry) (o : OtherKinds before after k) (f : Entry → Entry)
    (entries : after.entries k ≡ set (map f (before.entries k)) n x) (free : f unbound ≡ unbound)
    (universes : length (after.universes k) ≡ length (before.universes k))
    (made : IsMade before k n) (was_unbound : entry_of before k n ≡ unbound) where
  written : entry_of after k n ≡ x
  written = ap (λ es. get_or es n unbound) entries ∙ get_or-set_same (map f (before.entries k)) n x unbound (let a = length-map (before.entries k) f in omega (arith, made, a))

  pub other_entry : (i : ℕ) → (i ≡ n → ⊥) → entry_of after k i ≡ f (entry_of before k i)
  other_entry i d = ap (λ es. get_or es i unbound) entries ∙ get_or-set_other (map f (before.entries k)) n i x unbound d
      ∙ ap (get_or (map f (before.entries k)) i) (sym free) ∙ get_or-map f (before.entries k) i unbound

  as_many : (j : VarKind) → length (after.entries j) ≡ length (before.entries j)
  as_many j = go (VarKind_discrete j k)
    where
      go : Dec (j ≡ k) → length (after.entries j) ≡ length (before.entries j)
      go (yes e) = subst (λ i. length (after.entries i) ≡ length (before.entries i)) (sym e) (ap length entries ∙ length-set (map f (before.entries k)) n x ∙ length-map (before.entries k) f)
      go (no d) = ap length (o.entries j d)

  many_universes : (j : VarKind) → length (after.universes j) ≡ length (before.universes j)
  many_universes j = go (VarKind_discrete j k)
    where
      go : Dec (j ≡ k) → length (after.universes j) ≡ length (before.universes j)
      go (yes e) = subst (λ i. length (after.universes i) ≡ length (before.universes i)) (sym e) universes
      go (no d) = ap length (o.universes j d)

  pub writes_entry : ((i : ℕ) → (i ≡ n → ⊥) → StandsBeside before after k n x k i) → WritesEntry before after k n x
  writes_entry stand = record {
    made = made;
    was_unbound = was_unbound;
    written = written;
    others_stand = others;
    as_many = as_many;
    as_many_universes = many_universes;
    same_constraints = o.constraints;
    same_universe = o.universe;
    same_taint = o.taint;
  }
    where
      others : (j : VarKind) (i : ℕ) → (j ≡ k → i ≡ n → ⊥) → StandsBeside before after k n x j i
      others j i d = go (VarKind_discrete j k)
        where
          go : Dec (j ≡ k) → StandsBeside before after k n x j i
          go (yes e) = subst (λ q. StandsBeside before after k n x q i) (sym e) (stand i (d e))
          go (no c) = as_it_was (ap (λ es. get_or es i unbound) (o.entries j c))

-- Universes of a kind, of which one was lowered, or none.
other_universe : (before after : Store) (k : VarKind) (n u : ℕ) → OtherKinds before after k → after.universes k ≡ set (before.universes k) n u →
    (j : VarKind) (i : ℕ) → (j ≡ k → i ≡ n → ⊥) → universe_of after j i ≡ universe_of before j i
other_universe before after k n u o e j i d = go (VarKind_discrete j k)
  where
    go : Dec (j ≡ k) → universe_of after j i ≡ universe_of before j i
    go (yes q) = subst (λ z. universe_of after z i ≡ universe_of before z i) (sym q) (ap (λ us. get_or us i 0) e ∙ get_or-set_other (before.universes k) n i u 0 (d q))
    go (no c) = ap (λ us. get_or us i 0) (o.universes j c)

same_universes : (before after : Store) (k : VarKind) → OtherKinds before after k → after.universes k ≡ before.universes k → (j : VarKind) (i : ℕ) → universe_of after j i ≡ universe_of before j i
same_universes before after k o e j i = go (VarKind_discrete j k)
  where
    go : Dec (j ≡ k) → universe_of after j i ≡ universe_of before j i
    go (yes q) = subst (λ z. universe_of after z i ≡ universe_of before z i) (sym q) (ap (λ us. get_or us i 0) e)
    go (no c) = ap (λ us. get_or us i 0) (o.universes j c)

-- A root was made to lead to another, with all of its class.
module _ (before after : Store) (k : VarKind) (child root : ℕ) (o : OtherKinds before after k)
    (entries : after.entries k ≡ set (map (led_entry child root) (before.entries k)) child (same_as root))
    (universes : after.universes k ≡ set (before.universes k) root (min (universe_of before k child) (universe_of before k root)))
    (budget : after.budget ≡ before.budget) (g : IsSound before) (rooted : IsRooted before)
    (made : IsMade before k child) (smaller : root < child)
    (child_unbound : entry_of before k child ≡ unbound) (root_unbound : entry_of before k root ≡ unbound) where
  many : length (after.universes k) ≡ length (before.universes k)
  many = ap length universes ∙ length-set (before.universes k) root (min (universe_of before k child) (universe_of before k root))

  other : (i : ℕ) → (i ≡ child → ⊥) → entry_of after k i ≡ led_entry child root (entry_of before k i)
  other = other_entry before after k child (same_as root) o (led_entry child root) entries refl many made child_unbound

  to_root : (i : ℕ) → (i ≡ child → ⊥) → entry_of before k i ≡ same_as child → entry_of after k i ≡ same_as root
  to_root i d e = other i d ∙ ap (led_entry child root) e ∙ ap (λ b. same_as (cond b root child)) (eqb-same child)

  to_other : (i r : ℕ) → (i ≡ child → ⊥) → (r ≡ child → ⊥) → entry_of before k i ≡ same_as r → entry_of after k i ≡ same_as r
  to_other i r d c e = other i d ∙ ap (led_entry child root) e ∙ ap (λ b. same_as (cond b root r)) (eqb-differs r child c)

  stand : (i : ℕ) → (i ≡ child → ⊥) → StandsBeside before after k child (same_as root) k i
  stand i d = go (entry_of before k i) refl
    where
      led_to : (r : ℕ) → entry_of before k i ≡ same_as r → Dec (r ≡ child) → StandsBeside before after k child (same_as root) k i
      led_to r e (yes q) = led_on root refl (e ∙ ap same_as q) refl (to_root i d (e ∙ ap same_as q))
      led_to r e (no c) = as_it_was (to_other i r d c e ∙ sym e)

      go : (e : Entry) → entry_of before k i ≡ e → StandsBeside before after k child (same_as root) k i
      go unbound e = as_it_was (other i d ∙ ap (led_entry child root) e ∙ sym e)
      go (same_as r) e = led_to r e (ℕ_discrete r child)
      go (bound_to t) e = as_it_was (other i d ∙ ap (led_entry child root) e ∙ sym e)

  pub linked : Equates before after k child root
  linked = record {
    links = writes_entry before after k child (same_as root) o (led_entry child root) entries refl many made child_unbound stand;
    smaller = smaller;
    root_unbound = root_unbound;
    lowered = ap (λ us. get_or us root 0) universes ∙ get_or-set_same (before.universes k) root (min (universe_of before k child) (universe_of before k root)) 0
        (let e = g.one_universe_each k in omega (arith, made, smaller, e));
    other_universes = other_universe before after k root (min (universe_of before k child) (universe_of before k root)) o universes;
    same_budget = budget;
  }

  root_after : entry_of after k root ≡ unbound
  root_after = other root (λ e. omega (arith, smaller, e)) ∙ ap (led_entry child root) root_unbound

  -- What leads to the root leads no further.
  no_further : (r p : ℕ) → (r ≡ child → ⊥) → ((q : ℕ) → entry_of before k r ≡ same_as q → ⊥) → entry_of after k r ≡ same_as p → ⊥
  no_further r p d f h = go (entry_of before k r) refl
    where
      go : (e : Entry) → entry_of before k r ≡ e → ⊥
      go unbound e = let z = other r d ∙ ap (led_entry child root) e in cc (z, h)
      go (same_as q) e = f q e
      go (bound_to t) e = let z = other r d ∙ ap (led_entry child root) e in cc (z, h)

  pub linked_rooted : IsRooted after
  linked_rooted j n r p a b = go (VarKind_discrete j k)
    where
      to : (i q : ℕ) → entry_of after k i ≡ same_as q → (w : ℕ) → entry_of after k q ≡ same_as w → ⊥
      to i q e w h = at (ℕ_discrete i child)
        where
          of_other : (d : i ≡ child → ⊥) (v : Entry) → entry_of before k i ≡ v → ⊥
          of_other d unbound f = let z = other i d ∙ ap (led_entry child root) f in cc (z, e)
          of_other d (bound_to t) f = let z = other i d ∙ ap (led_entry child root) f in cc (z, e)
          of_other d (same_as v) f = by (ℕ_discrete v child)
            where
              by : Dec (v ≡ child) → ⊥
              by (yes c) =
                  let z = to_root i d (f ∙ ap same_as c) in
                  let s : q ≡ root = cc (z, e) in
                  let y = ap (entry_of after k) s in
                  cc (y, root_after, h)
              by (no c) =
                  let z = to_other i v d c f in
                  let s : v ≡ q = cc (z, e) in
                  no_further v w c (λ u. rooted k i v u f) (ap (entry_of after k) s ∙ h)

          at : Dec (i ≡ child) → ⊥
          at (yes c) =
              let z = linked.links.written in
              let y = ap (entry_of after k) c in
              let s : q ≡ root = cc (z, y, e) in
              let x = ap (entry_of after k) s in
              cc (x, root_after, h)
          at (no d) = of_other d (entry_of before k i) refl

      go : Dec (j ≡ k) → ⊥
      go (yes e) = to n r (subst (λ i. entry_of after i n ≡ same_as r) e a) p (subst (λ i. entry_of after i r ≡ same_as p) e b)
      go (no c) = rooted j n r p (sym (ap (λ es. get_or es n unbound) (o.entries j c)) ∙ a) (sym (ap (λ es. get_or es r unbound) (o.entries j c)) ∙ b)

-- What was bound is so still, after a writing of what leads to another.
filled_after : (before after : Store) (k : VarKind) (n : ℕ) (x : Entry) → WritesEntry before after k n x → ((t : Tree) → x ≡ bound_to t → MayBeBoundTo k t) → IsFilled before → IsFilled after
filled_after before after k n x w f l j i t h = go (VarKind_discrete j k) (ℕ_discrete i n)
  where
    other : StandsBeside before after k n x j i → MayBeBoundTo j t
    other (as_it_was r) = l j i t (sym r ∙ h)
    other (led_on r a b c d) = absurd (cc (d, h))

    go : Dec (j ≡ k) → Dec (i ≡ n) → MayBeBoundTo j t
    go (yes e) (yes q) = subst (λ z. MayBeBoundTo z t) (sym e) (f t (sym w.written ∙ sym (ap (entry_of after k) q) ∙ sym (ap (λ z. entry_of after z i) e) ∙ h))
    go (no o) q = other (w.others_stand j i (λ e z. o e))
    go e (no o) = other (w.others_stand j i (λ z q. o q))

-- A root was bound to a term.
module _ (before after : Store) (k : VarKind) (n : ℕ) (t : Tree) (o : OtherKinds before after k)
    (entries : after.entries k ≡ set (before.entries k) n (bound_to t)) (universes : after.universes k ≡ before.universes k)
    (made : IsMade before k n) (was_unbound : entry_of before k n ≡ unbound) where
  through : after.entries k ≡ set (map (λ e. e) (before.entries k)) n (bound_to t)
  through = entries ∙ ap (λ es. set es n (bound_to t)) (sym (map_itself (before.entries k)))

  stays : (i : ℕ) → (i ≡ n → ⊥) → entry_of after k i ≡ entry_of before k i
  stays i d = other_entry before after k n (bound_to t) o (λ e. e) through refl (ap length universes) made was_unbound i d

  pub bound_writes : WritesEntry before after k n (bound_to t)
  bound_writes = writes_entry before after k n (bound_to t) o (λ e. e) through refl (ap length universes) made was_unbound (λ i d. as_it_was (stays i d))

  pub binds_to : before.budget ≡ suc after.budget → BindsTo before after k n t
  binds_to b = record { writes = bound_writes; same_universes = same_universes before after k o universes; one_spent = b }

  pub instantiates_number : after.budget ≡ before.budget → IsNumberFor k t → InstantiatesNumber before after k n t
  instantiates_number b f = record { writes = bound_writes; fits = f; same_universes = same_universes before after k o universes; same_budget = b }

  pub bound_rooted : IsRooted before → IsRooted after
  bound_rooted rooted j i r p a b = go (VarKind_discrete j k)
    where
      back : (q w : ℕ) → entry_of after k q ≡ same_as w → entry_of before k q ≡ same_as w
      back q w h = at (ℕ_discrete q n)
        where
          at : Dec (q ≡ n) → entry_of before k q ≡ same_as w
          at (yes c) = absurd (let y = ap (entry_of after k) c in let z = bound_writes.written in cc (y, z, h))
          at (no d) = sym (stays q d) ∙ h

      go : Dec (j ≡ k) → ⊥
      go (yes e) = rooted k i r p (back i r (subst (λ z. entry_of after z i ≡ same_as r) e a)) (back r p (subst (λ z. entry_of after z r ≡ same_as p) e b))
      go (no c) = rooted j i r p (sym (ap (λ es. get_or es i unbound) (o.entries j c)) ∙ a) (sym (ap (λ es. get_or es r unbound) (o.entries j c)) ∙ b)

-- The same of the tables of a context.
module _ {Key Id Name : Type 0} (m : Meaning Key Id Name) (x y : InferCtxtInner Key) (k : VarKind) (b : Beside m x y k) where
  abbrev others : OtherKinds (store_of m x) (store_of m y) k
  others = record { entries = b.entries; universes = b.universes; constraints = b.constraints; universe = b.universe; taint = b.tainted }

  module _ (keys : keys_in m y k ≡ keys_in m x k) (l : IsLawful m x) where
    written_lawful : (n : ℕ) (e : Entry) → WritesEntry (store_of m x) (store_of m y) k n e → ((t : Tree) → e ≡ bound_to t → MayBeBoundTo k t) → IsSound (store_of m y) → IsRooted (store_of m y) → (IsNumberKind k → (i : ℕ) → universe_of (store_of m y) k i ≡ 0) → IsLawful m y
    written_lawful n e w f g r first = lawful_beside m x y k b (keyed_still m x y k keys l) g r (filled_after (store_of m x) (store_of m y) k n e w f l.formed) first
        (subst₂ ◌≤◌ (sym (w.as_many type_var)) (sym (ap length b.sub_roots)) l.sub_rooted.count)
        (let long = w.as_many type_var in omega (arith, long)) l

    -- `entries` and `universes` are what linking writes.
    module _ (child root : ℕ) (entries : (store_of m y).entries k ≡ set (map (led_entry child root) ((store_of m x).entries k)) child (same_as root))
        (universes : (store_of m y).universes k ≡ set ((store_of m x).universes k) root (min (universe_of (store_of m x) k child) (universe_of (store_of m x) k root)))
        (budget : (store_of m y).budget ≡ (store_of m x).budget) (made : IsMade (store_of m x) k child) (smaller : root < child)
        (child_unbound : entry_of (store_of m x) k child ≡ unbound) (root_unbound : entry_of (store_of m x) k root ≡ unbound) where
      pub link_equates : Equates (store_of m x) (store_of m y) k child root
      link_equates = linked (store_of m x) (store_of m y) k child root others entries universes budget l.sound l.rooted made smaller child_unbound root_unbound

      pub link_lawful : (k ≡ region_var → ⊥) → IsLawful m y
      link_lawful not_region = written_lawful child (same_as root) link_equates.links (λ t e. absurd (cc)) (equated_sound (store_of m x) (store_of m y) k child root link_equates l.sound not_region)
          (linked_rooted (store_of m x) (store_of m y) k child root others entries universes budget l.sound l.rooted made smaller child_unbound root_unbound)
          (λ f i. still f i (ℕ_discrete i root))
        where
          still : IsNumberKind k → (i : ℕ) → Dec (i ≡ root) → universe_of (store_of m y) k i ≡ 0
          still f i (yes e) = ap (universe_of (store_of m y) k) e ∙ link_equates.lowered ∙ ap₂ min (l.numbers_name_nothing k child f) (l.numbers_name_nothing k root f)
          still f i (no o) = link_equates.other_universes k i (λ e q. o q) ∙ l.numbers_name_nothing k i f

    module _ (n : ℕ) (t : Tree) (entries : (store_of m y).entries k ≡ set ((store_of m x).entries k) n (bound_to t)) (universes : (store_of m y).universes k ≡ (store_of m x).universes k)
        (made : IsMade (store_of m x) k n) (was_unbound : entry_of (store_of m x) k n ≡ unbound) where
      pub bind_binds : x.budget ≡ suc y.budget → BindsTo (store_of m x) (store_of m y) k n t
      bind_binds s = binds_to (store_of m x) (store_of m y) k n t others entries universes made was_unbound s

      pub bind_number : y.budget ≡ x.budget → IsNumberFor k t → InstantiatesNumber (store_of m x) (store_of m y) k n t
      bind_number s f = instantiates_number (store_of m x) (store_of m y) k n t others entries universes made was_unbound s f

      pub bind_lawful : MayBeBoundTo k t → IsSound (store_of m y) → IsLawful m y
      bind_lawful f g = written_lawful n (bound_to t) (bound_writes (store_of m x) (store_of m y) k n t others entries universes made was_unbound) may g
          (bound_rooted (store_of m x) (store_of m y) k n t others entries universes made was_unbound l.rooted)
          (λ h i. ap (λ us. get_or us i 0) universes ∙ l.numbers_name_nothing k i h)
        where
          may : (u : Tree) → bound_to t ≡ bound_to u → MayBeBoundTo k u
          may u e = subst (MayBeBoundTo k) (let q : t ≡ u = cc in q) f
