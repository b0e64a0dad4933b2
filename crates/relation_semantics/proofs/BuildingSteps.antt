-- What bindings and goals are built of, step after step.
use Rattle.std.proofs.Common.{◌≡◌, ◌≢◌, ◌⊎◌, ℕ, zero, suc, refl, sym, ap, ap₂, ◌∙◌, inl, inr, subst, true, false}
use Rattle.std.proofs.Common.{List, [], ◌∷◌, ◌++◌, All, IsTrue, get_or, take}
use Rattle.std.proofs.lemmas.Bool.{false≢true}
use Rattle.std.proofs.lemmas.List.Elements.{All-nil, All-append}
use Rattle.term_enums.specs.declared.Variance.{Variance}
use Rattle.relation_terms.specs.Heads.{region_sort, bound_sort, BoundKind, VarKind, int_var, float_var}
use Rattle.relation_terms.specs.Heads.{region_var, type_kind, region_kind, const_kind, bound_kind}
use Rattle.relation_terms.specs.Trees.{Tree}
use Rattle.relation_semantics.specs.Asking.{BindsRegions}
use Rattle.relation_semantics.specs.Binders.{variable_kind, MakesEach, MakesFirst, makes_none as each_none}
use Rattle.relation_semantics.specs.Binders.{makes_next as each_next}
use Rattle.relation_semantics.specs.Stores.{Store, Entry, unbound, bound_to, entry_of}
use Rattle.relation_semantics.specs.Goals.{Goal}
use Rattle.relation_semantics.specs.Generalising.{MakesUnbound, makes_none, makes_one}
use Rattle.relation_semantics.specs.Steps.{HasNoBinder, BindsNoBinder, WritesEntry, StandsBeside, as_it_was, led_on}
use Rattle.relation_semantics.specs.Steps.{Equates, InstantiatesNumber, IsNumberFor, Instantiates, ChangesNothing, Taints}
use Rattle.relation_semantics.specs.Alphabets.{Alphabet, MayVary, MayBind, IsBuiltOf, BindsBuiltOf, IsGoalOf, HasNoError}
use Rattle.relation_semantics.specs.Alphabets.{WritesNothing, Builds, StaysBuilt, BuiltFrom, NeedsVariable}
use Rattle.relation_semantics.proofs.Only.{which}
use Rattle.relation_semantics.proofs.Growing.{same_entries}
use Rattle.relation_semantics.proofs.Building.{all_but_binders, plain_built, plain_binds, resolved_built, generalised_built, BindsSo}

-- What was bound stands, and nothing else is.
pub binds_still : (k : Alphabet) (before after : Store) → ((j : VarKind) (n : ℕ) → entry_of after j n ≡ entry_of before j n) →
    BindsBuiltOf k before → BindsBuiltOf k after
binds_still k before after same all j may n t e = all j may n t (sym (same j n) ∙ e)

-- An unbound variable got an entry that is built so.
binds_written : (k : Alphabet) {before after : Store} {v : VarKind} {n : ℕ} {x : Entry} → WritesEntry before after v n x →
    ((t : Tree) → x ≡ bound_to t → IsBuiltOf k t) → BindsBuiltOf k before → BindsBuiltOf k after
binds_written k {before} {after} {v} {n} {x} w built all j may m t e = go (which j v m n)
  where
    beside : StandsBeside before after v n x j m → IsBuiltOf k t
    beside (as_it_was s) = all j may m t (sym s ∙ e)
    beside (led_on r p q i s) = absurd (cc (s, e))

    go : ((j ≡ v) × (m ≡ n)) ⊎ (j ≡ v → m ≡ n → ⊥) → IsBuiltOf k t
    go (inl (p, q)) = built t (sym w.written ∙ ap₂ (entry_of after) (sym p) (sym q) ∙ e)
    go (inr o) = beside (w.others_stand j m o)

-- Nothing was written, one part of the work after another.
pub writes_itself : (st : Store) → WritesNothing st st
writes_itself st = record { entries = λ j o. refl; budget = refl }

pub writes_then : {r q p : Store} → WritesNothing r q → WritesNothing q p → WritesNothing r p
writes_then f g = record { entries = λ j o. g.entries j o ∙ f.entries j o; budget = g.budget ∙ f.budget }

-- So it is where a alphabet has variables: nothing is said of that.
pub varies : {P : Type 0} (k : Alphabet) → IsTrue k.variables → k.variables ≡ false → P
varies k has none = absurd (false≢true (sym none ∙ has))

pub has_variables : (k : Alphabet) (before after : Store) → IsTrue k.variables → k.variables ≡ false →
    WritesNothing before after
has_variables k before after has none = varies k has none

-- Nothing was bound and registered, and no universe made.
pub builds_none : (k : Alphabet) (before after : Store) → BindsBuiltOf k after → after.universe ≡ before.universe →
    after.tainted ≡ before.tainted → (k.variables ≡ false → WritesNothing before after) →
    (k.variables ≡ false → k.binders ≡ false → after.entries region_var ≡ before.entries region_var) →
    Builds k before after []
builds_none k before after all same taint writes regions = record {
  binds = all;
  asks = All-nil (IsGoalOf k);
  universe = λ o. same;
  taint = λ n h. sym taint ∙ h;
  writes = writes;
  makes_none = regions;
}

-- Nothing was bound, and a universe may have been made, where the alphabet has binders.
pub builds_opened : (k : Alphabet) (before after : Store) → IsTrue k.binders → BindsBuiltOf k after →
    after.tainted ≡ before.tainted → (k.variables ≡ false → WritesNothing before after) → Builds k before after []
builds_opened k before after has all taint writes = record {
  binds = all;
  asks = All-nil (IsGoalOf k);
  universe = λ o. absurd (false≢true (sym o ∙ has));
  taint = λ n h. sym taint ∙ h;
  writes = writes;
  makes_none = λ o b. absurd (false≢true (sym b ∙ has));
}

-- An error was met, and nothing else done.
pub builds_tainted : (k : Alphabet) {before after : Store} → Taints before after → (HasNoError k → ⊥) →
    BindsBuiltOf k before → Builds k before after []
builds_tainted k {before} {after} t has all = record {
  binds = binds_still k before after (λ j n. ap (λ es. get_or es n unbound) ((t.nothing_else).same_entries j)) all;
  asks = All-nil (IsGoalOf k);
  universe = λ o. t.same_universe;
  taint = λ n h. absurd (has n);
  writes = λ o. record { entries = λ j i. (t.nothing_else).same_entries j; budget = (t.nothing_else).same_budget };
  makes_none = λ o b. (t.nothing_else).same_entries region_var;
}

pub built_itself : (st : Store) (a b : Tree) → StaysBuilt st st [] a b
built_itself st a b = λ k ha hb all. builds_none k st st all refl refl (λ o. writes_itself st) (λ o b. refl)

pub built_same : {before after : Store} (a b : Tree) → after ≡ before → StaysBuilt before after [] a b
built_same {before} a b e = subst (λ st. StaysBuilt before st [] a b) (sym e) (built_itself before a b)

-- A goal was registered, and nothing else was done.
pub builds_asking : (k : Alphabet) (st : Store) (goals : List Goal) → All (IsGoalOf k) goals → BindsBuiltOf k st →
    Builds k st st goals
builds_asking k st goals asks all = record {
  binds = all;
  asks = asks;
  universe = λ o. refl;
  taint = λ n h. h;
  writes = λ o. writes_itself st;
  makes_none = λ o b. refl;
}

-- So where no binder stands in two terms and what was bound, no universe was made.
pub no_universe_made : {before after : Store} (gs : List Goal) (a b : Tree) → StaysBuilt before after gs a b →
    HasNoBinder a → HasNoBinder b → BindsNoBinder before → after.universe ≡ before.universe
unfolding all_but_binders
no_universe_made {before} gs a b f ha hb all =
    (f all_but_binders (plain_built a ha) (plain_built b hb) (plain_binds before all)).universe refl

-- Goals were registered after a part of the work, and nothing else was done.
pub builds_noting : (k : Alphabet) {r q p : Store} (gs hs : List Goal) → p ≡ q → Builds k r q gs → All (IsGoalOf k) hs →
    Builds k r p (gs ++ hs)
builds_noting k {r} {q} gs hs same f asks = subst (λ st. Builds k r st (gs ++ hs)) (sym same) (record {
  binds = f.binds;
  asks = All-append (IsGoalOf k) gs hs f.asks asks;
  universe = f.universe;
  taint = f.taint;
  writes = f.writes;
  makes_none = f.makes_none;
})

-- Where goals are let go the rest stands.
pub built_refused : {before after : Store} (gs : List Goal) (a b : Tree) → StaysBuilt before after gs a b →
    StaysBuilt before after [] a b
built_refused gs a b f = λ k ha hb all.
    let z = f k ha hb all in
    record {
      binds = z.binds;
      asks = All-nil (IsGoalOf k);
      universe = z.universe;
      taint = z.taint;
      writes = z.writes;
      makes_none = z.makes_none;
    }

-- One part of the work after another.
pub builds_then : (k : Alphabet) {r q p : Store} (gs hs : List Goal) → Builds k r q gs → Builds k q p hs →
    Builds k r p (gs ++ hs)
builds_then k gs hs f g = record {
  binds = g.binds;
  asks = All-append (IsGoalOf k) gs hs f.asks g.asks;
  universe = λ o. g.universe o ∙ f.universe o;
  taint = λ n h. f.taint n (g.taint n h);
  writes = λ o. writes_then (f.writes o) (g.writes o);
  makes_none = λ o b. g.makes_none o b ∙ f.makes_none o b;
}

-- Of two pairs the second was led to by the first.
pub built_led : {r q p : Store} (gs hs : List Goal) (a b x y : Tree) → StaysBuilt r q gs a b → BuiltFrom r a b x y →
    StaysBuilt q p hs x y → StaysBuilt r p (gs ++ hs) a b
built_led gs hs a b x y f l g = λ k ha hb all.
    let z = f k ha hb all in
    let w = l k ha hb all in
    builds_then k gs hs z (g k w.0 w.1 z.binds)

pub built_then : {r q p : Store} (gs hs : List Goal) (a b : Tree) → StaysBuilt r q gs a b → StaysBuilt q p hs a b →
    StaysBuilt r p (gs ++ hs) a b
built_then gs hs a b f g = built_led gs hs a b a b f (λ k ha hb all. (ha, hb)) g

-- Where the pair that is left needs a variable, so did the first.
pub needs_led : {r q : Store} (gs : List Goal) (a b x y : Tree) → StaysBuilt r q gs a b → BuiltFrom r a b x y →
    NeedsVariable q x y → NeedsVariable r a b
needs_led gs a b x y f l n = λ k ha hb all.
    let w = l k ha hb all in
    n k w.0 w.1 (f k ha hb all).binds

-- One constraint was recorded.
pub built_constraint : (before after : Store) (a b : Tree) → ((j : VarKind) → after.entries j ≡ before.entries j) →
    after.universe ≡ before.universe → after.tainted ≡ before.tainted → after.budget ≡ before.budget →
    StaysBuilt before after [] a b
built_constraint before after a b same universe taint budget = λ k ha hb all.
    builds_none k before after
    (binds_still k before after (λ j n. ap (λ es. get_or es n unbound) (same j)) all) universe taint
    (λ o. record { entries = λ j i. same j; budget = budget }) (λ o b. same region_var)

-- Variables were made, of which nothing is recorded.
unbound_entries : {u : ℕ} {before after : Store} → MakesUnbound u before after → (j : VarKind) (n : ℕ) →
    entry_of after j n ≡ entry_of before j n
unbound_entries makes_none j n = refl
unbound_entries {u} {before} {after} (makes_one {middle = middle} {k = v} {n = i} f o q) j n =
    same_entries middle after v i u q j n ∙ unbound_entries f j n

unbound_universe : {u : ℕ} {before after : Store} → MakesUnbound u before after → after.universe ≡ before.universe
unbound_universe makes_none = refl
unbound_universe (makes_one f o q) = q.same_universe ∙ unbound_universe f

unbound_taint : {u : ℕ} {before after : Store} → MakesUnbound u before after → after.tainted ≡ before.tainted
unbound_taint makes_none = refl
unbound_taint (makes_one f o q) = q.same_taint ∙ unbound_taint f

unbound_budget : {u : ℕ} {before after : Store} → MakesUnbound u before after → after.budget ≡ before.budget
unbound_budget makes_none = refl
unbound_budget (makes_one f o q) = q.same_budget ∙ unbound_budget f

-- Such as a variable of the two calls for.
pub built_unbound : {u : ℕ} {before after : Store} (a b : Tree) → MakesUnbound u before after →
    ((k : Alphabet) → IsBuiltOf k a → IsBuiltOf k b → IsTrue k.variables) → StaysBuilt before after [] a b
built_unbound {before = before} {after = after} a b f may = λ k ha hb all.
    builds_none k before after (binds_still k before after (unbound_entries f) all) (unbound_universe f)
    (unbound_taint f) (has_variables k before after (may k ha hb)) (varies k (may k ha hb))

-- Such as the variables of a binder call for.
variable_kind_sort : (k : BoundKind) → variable_kind k ≢ region_var → bound_sort k ≢ region_sort
variable_kind_sort (bound_kind type_kind n) o e = cc
variable_kind_sort (bound_kind region_kind n) o e = o refl
variable_kind_sort (bound_kind const_kind n) o e = cc

regions_before : (ks : List BoundKind) (k : BoundKind) → BindsRegions (ks ++ k ∷ []) →
    BindsRegions ks × (bound_sort k ≡ region_sort)
regions_before [] k h = (tt, h.0)
regions_before (x ∷ ks) k h = let z = regions_before ks k h.1 in ((h.0, z.0), z.1)

first_regions : (n : ℕ) (ks : List BoundKind) → BindsRegions ks → BindsRegions (take n ks)
first_regions zero ks h = tt
first_regions (suc n) [] h = tt
first_regions (suc n) (k ∷ ks) h = (h.0, first_regions n ks h.1)

pub each_writes : {u : ℕ} {before after : Store} {ks : List BoundKind} {xs : List Tree} → MakesEach u before ks xs after →
    BindsRegions ks → WritesNothing before after
each_writes {before = before} (each_none p q) h = writes_itself before
each_writes (each_next {ks = ks} k f q p e) h =
    let z = regions_before ks k (subst BindsRegions p h) in
    writes_then (each_writes f z.0) (record {
      entries = λ j o. q.other_entries j (λ i. region_only k z.1 (λ d. o (i ∙ d)));
      budget = q.same_budget;
    })
  where
    region_only : (k : BoundKind) → bound_sort k ≡ region_sort → variable_kind k ≢ region_var → ⊥
    region_only k s o = variable_kind_sort k o s

pub first_writes : {u : ℕ} {before after : Store} (ks : List BoundKind) → MakesFirst u before ks after →
    BindsRegions ks → WritesNothing before after
first_writes ks f h = each_writes f.2 (first_regions f.0 ks h)

-- Binders were opened.
pub built_opened : {middle : Store} {u : ℕ} (before after : Store) (ks : List BoundKind) (a b : Tree) →
    ChangesNothing before middle → middle.tainted ≡ before.tainted → MakesUnbound u middle after →
    (BindsRegions ks → WritesNothing middle after) → ((k : Alphabet) → IsBuiltOf k a → IsBuiltOf k b → MayBind k ks) →
    StaysBuilt before after [] a b
built_opened {middle} before after ks a b h taint f made has = λ k ha hb all.
    let may = has k ha hb in
    builds_opened k before after may.0 (binds_still k before after
    (λ j n. unbound_entries f j n ∙ ap (λ es. get_or es n unbound) (h.same_entries j)) all) (unbound_taint f ∙ taint)
    (λ o. writes_then (record { entries = λ j i. h.same_entries j; budget = h.same_budget }) (opened k o may.1))
  where
    opened : (k : Alphabet) → k.variables ≡ false → BindsSo k ks → WritesNothing middle after
    opened k o (inl r) = made r
    opened k o (inr r) = has_variables k middle after r o

-- A variable was bound to what a term comes to, generalised.
module _ {x : Variance} {before after : Store} {v : VarKind} {n : ℕ} {source term : Tree}
    (f : Instantiates before after x v n source term) where
  pub term_built : (k : Alphabet) → IsTrue k.variables → BindsBuiltOf k before → IsBuiltOf k source → IsBuiltOf k term
  term_built k may all h = generalised_built k may f.generalised (resolved_built k before all source h)

  pub builds_instantiated : (k : Alphabet) → IsTrue k.variables → BindsBuiltOf k before → IsBuiltOf k source →
      Builds k before after []
  builds_instantiated k may all h = builds_none k before after binds f.same_universe f.same_taint
      (has_variables k before after may) (varies k may)
    where
      binds : BindsBuiltOf k after
      binds j vary m t e = go (which j v m n)
        where
          go : ((j ≡ v) × (m ≡ n)) ⊎ (j ≡ v → m ≡ n → ⊥) → IsBuiltOf k t
          go (inl (p, q)) =
              let d : entry_of after v n ≡ bound_to t = ap₂ (entry_of after) (sym p) (sym q) ∙ e in
              let i = f.now_bound in
              let same : term ≡ t = cc (d, i) in
              subst (IsBuiltOf k) same (term_built k may all h)
          go (inr o) = all j vary m t (sym (f.others_stand j m o) ∙ e)

-- Two variables were made one.
pub built_equated : {before after : Store} {v : VarKind} {child root : ℕ} (a b : Tree) →
    Equates before after v child root → ((k : Alphabet) → IsBuiltOf k a → IsTrue k.variables) → StaysBuilt before after [] a b
built_equated {before} {after} a b q may = λ k ha hb all.
    builds_none k before after (binds_written k q.links (λ t e. absurd cc) all) (q.links).same_universe
    (q.links).same_taint (has_variables k before after (may k ha)) (varies k (may k ha))

-- A number variable was bound to a type of its kind.
number_no_region : (v : VarKind) (t : Tree) → IsNumberFor v t → v ≢ region_var
number_no_region int_var t h e = cc
number_no_region float_var t h e = cc
number_no_region v t h e = h

pub builds_number : (k : Alphabet) {before after : Store} {v : VarKind} {n : ℕ} (t : Tree) →
    InstantiatesNumber before after v n t → MayVary k v → IsBuiltOf k t → BindsBuiltOf k before →
    Builds k before after []
builds_number k {before} {after} {v} t q may h all =
    builds_none k before after (binds_written k q.writes same all) (q.writes).same_universe (q.writes).same_taint
    (has_variables k before after (may (λ e. number_no_region v t q.fits e)))
    (varies k (may (λ e. number_no_region v t q.fits e)))
  where
    same : (u : Tree) → bound_to t ≡ bound_to u → IsBuiltOf k u
    same u e = let i : t ≡ u = cc in subst (IsBuiltOf k) i h
