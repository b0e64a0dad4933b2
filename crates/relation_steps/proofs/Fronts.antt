-- A loop over the parts of two forms, which relates them one after another.
use Rattle.std.proofs.Common.{◌≡◌, ℕ, zero, suc, ◌+◌, ◌≤◌, ◌<◌, refl, sym, ap, ◌∙◌, subst, subst₂, arith, List, [], ◌++◌, Ok, Err}
use Rattle.term_enums.specs.declared.Variance.TheVariants.{Invariant}
use Rattle.term_enums.specs.Variances.{xform}
use Rattle.relation_semantics.specs.FirstOrder.{IsFirstOrder, IsFirstOrderStore}
use Rattle.relation_semantics.specs.Headline.{IsFirstOrderPair}
use Rattle.relation_semantics.proofs.Exactness.{exact_front_goes_on, exact_front_ends}
use Rattle.term_enums.specs.declared.Variance.{Variance}
use Rattle.relation_terms.specs.Heads.{Head, value_type}
use Rattle.relation_terms.specs.Trees.{Tree, leaf, node, bind, nil, cons, IsList, count, nth, Leaves}
use Rattle.relation_semantics.specs.Relation.{Items, at, parts, part_at, mode}
use Rattle.relation_semantics.specs.Stores.{Store, InContext, weight, resolved}
use Rattle.relation_semantics.specs.Outcomes.{Outcome, Front, NeverOne, Exact, ExactFront, NoUnifier}
use Rattle.relation_semantics.specs.Outcomes.{KeepsOne, KeepsUnified}
use Rattle.relation_semantics.specs.Measures.{grown}
use Rattle.relation_semantics.specs.Steps.{HasNoBinder, StaysFullFor}
use Rattle.relation_semantics.specs.Goals.{Goal}
use Rattle.relation_semantics.specs.Alphabets.{IsBuiltOf, StaysBuilt, NeedsVariable, BuiltFrom}
use Rattle.relation_folds.specs.declared.error.RelateFault.{RelateFault}
use Rattle.relation_folds.specs.declared.error.RelateFault.TheVariants.{Memory, Budget, Unrelated}
use Rattle.relation_semantics.specs.OneUniverse.{NamesTypesTo, KeepsUniverseOf, LeadsInUniverse}
use Rattle.relation_semantics.specs.Lawful.{State, Manners, Passes, Related, ExactResult, RecordsJust, BeganWith, AgreesIn, items_in}
use Rattle.relation_semantics.specs.Asking.{AsksFor}
use Rattle.relation_semantics.specs.Recording.{AreBare, FrontAsks, AsksNoMore}
use Rattle.relation_semantics.proofs.Recording.{bare_nth, stands_itself, records_trivial, front_asks_none}
use Rattle.relation_semantics.proofs.Recording.{front_goes_on as recorded_on}
use Rattle.relation_semantics.proofs.OneUniverse.{keeps_itself, keeps_pair, leaves_nth, led_keeps, led_binds, led_fewer}
use Rattle.relation_semantics.proofs.Going.{pair_grown, later_itself}
use Rattle.relation_semantics.proofs.Full.{full_itself, full_then, nth_plain}
use Rattle.relation_semantics.proofs.Building.{built_nth}
use Rattle.relation_semantics.proofs.Composing.{front_begins, front_goes_on, front_ends}
use Rattle.relation_semantics.proofs.Keeping.{one_front, unified_front}
use Rattle.relation_semantics.proofs.AskingSince.{front_none, front_next, FrontAsksNoMore}
use Rattle.relation_semantics.proofs.Passing.{passes_nowhere, passes_then, manner_then, outcome_seen, seen_no_more}
use Rattle.relation_semantics.proofs.Parts.{nth_size}
use Rattle.relation_semantics.proofs.AgreeingBefore.{parts_agreed}
use Rattle.relation_semantics.proofs.Beginning.{agrees_then}
use Rattle.relation_semantics.proofs.AgreeingForms.{next_agrees}
use Rattle.relation_semantics.proofs.Answering.{same_items, same_settings, same_environment}
use Rattle.relation_semantics.proofs.BuildingSteps.{built_itself, built_led, needs_led}

-- Forms whose parts are looked at, which are at invariance where the form is.
abbrev pub IsLookedAt : Head → Type 0
IsLookedAt value_type = ⊥
IsLookedAt h = Unit {0}

pub part_invariant : (c : Items) (h : Head) (i : ℕ) (v : Variance) → IsLookedAt h → v ≡ Invariant →
    part_at c h i v ≡ Invariant
part_invariant c value_type i v l e = absurd l
part_invariant c h i v l e = ap (λ z. xform z (mode c h i)) e

-- A part of a first-order list is first-order.
first_order_nth : (ts : Tree) (i : ℕ) → i < count ts → IsFirstOrder ts → IsFirstOrder (nth i ts)
first_order_nth (cons t ts) zero l h = h.0
first_order_nth (cons t ts) (suc i) l h = first_order_nth ts i (omega (arith, l)) h.1
first_order_nth (leaf x) i l h = absurd (omega (arith, l))
first_order_nth (node g ts) i l h = absurd (omega (arith, l))
first_order_nth (bind ks t) i l h = absurd (omega (arith, l))
first_order_nth nil i l h = absurd (omega (arith, l))

exact_front_begins : (st : Store) (xs ys : Tree) → ExactFront 0 st st xs ys
exact_front_begins st xs ys = record {
  later = later_itself st;
  shrinks = λ s sol. sol;
  unifies = λ s sol j l. absurd (omega (arith, l));
  keeps = λ s sol one. (s, (λ k n m. refl), sol);
}

-- The first `i` parts of two lists of parts of a form at a variance were related.
pub record Fronted {Key Id Name : Type 0} (M : Manners) (r q : State Key Id Name) (h : Head) (v : Variance) (i : ℕ)
    (xs ys : Tree) : Type 0 where
  pub passes : Passes (weight r.store xs + weight r.store ys) r q
  pub front : Front (items_in r) r.kept.environment h v i r.store q.store r.goals passes.added xs ys
  pub exact : (M r.kept.settings).is_exact → v ≡ Invariant → IsLookedAt h → IsFirstOrderPair r.store xs ys →
      IsFirstOrderStore q.store × ExactFront i r.store q.store xs ys × KeepsUniverseOf r.store q.store xs ys
  pub full : StaysFullFor r.store q.store xs ys
  pub built : StaysBuilt r.store q.store passes.added xs ys
  pub agrees : (M r.kept.settings).relates_agreeing → (st : Store) → BeganWith r st → ((j : ℕ) → j < i →
      AgreesIn r st (at (part_at (items_in r) h j v)) (nth j xs) (nth j ys)) × BeganWith q st
  pub records : (M r.kept.settings).records_asked → AreBare r.kept.settings xs ys →
      RecordsJust (FrontAsks (items_in r) h v i xs ys) r q
  pub no_more : (M r.kept.settings).records_asked →
      FrontAsksNoMore r.kept.settings (items_in r) r.store q.store h v i xs ys

-- What is asked of two lists of parts.
pub record AreParts (st : Store) (xs ys : Tree) : Type 0 where
  pub left_list : IsList xs
  pub right_list : IsList ys
  pub left_in : InContext st xs
  pub right_in : InContext st ys

-- A part weighs less than the list.
nth_weight : (st : Store) (ts : Tree) (i : ℕ) → i < count ts → weight st (nth i ts) < weight st ts
unfolding weight
nth_weight st ts i h = nth_size (resolved st) ts i h

module _ {Key Id Name : Type 0} where
  pub fronted_none : (M : Manners) (r : State Key Id Name) (h : Head) (v : Variance) (xs ys : Tree) →
      Fronted M r r h v 0 xs ys
  unfolding passes_nowhere
  fronted_none M r h v xs ys = record {
    passes = passes_nowhere (weight r.store xs + weight r.store ys) r;
    front = front_begins (items_in r) r.kept.environment h v r.store r.goals xs ys;
    exact = λ k is looked pair. (
      pair.bindings,
      exact_front_begins r.store xs ys,
      keeps_pair r.store r.store xs ys (keeps_itself r.store),
    );
    full = λ ha hb. full_itself r.store;
    built = built_itself r.store xs ys;
    agrees = λ k st began. (λ j l. absurd (omega (arith, l)), began);
    records = λ k bare. records_trivial (stands_itself r) refl (front_asks_none (items_in r) h v xs ys);
    no_more = λ k. front_none r.kept.settings (items_in r) r.store h v xs ys;
  }

  module _ {M : Manners} {r q : State Key Id Name} (h : Head) (v : Variance) (i : ℕ) (xs ys x y : Tree)
      (f : Fronted M r q h v i xs ys) (lx : i < count xs) (ly : i < count ys) (ex : x ≡ nth i xs) (ey : y ≡ nth i ys) where
    -- Two parts weigh less than the lists did, but for what was instantiated.
    pub part_small : weight q.store x + weight q.store y ≤
        grown (((f.passes).goes).spent) (weight r.store xs + weight r.store ys)
    part_small =
        let a = nth_weight r.store xs i lx in
        let b = nth_weight r.store ys i ly in
        subst₂ (λ t u. weight q.store t + weight q.store u ≤ grown (((f.passes).goes).spent) (weight r.store xs + weight r.store ys))
        (sym ex) (sym ey)
        (pair_grown (f.passes).goes (weight r.store xs + weight r.store ys) (nth i xs) (nth i ys) (omega arith) (omega arith))

    -- The parts are first-order where the lists are.
    pair_at : IsFirstOrderPair r.store xs ys → IsFirstOrderStore q.store → IsFirstOrderPair q.store x y
    pair_at pair bindings = record {
      left = subst IsFirstOrder (sym ex) (first_order_nth xs i lx pair.left);
      right = subst IsFirstOrder (sym ey) (first_order_nth ys i ly pair.right);
      bindings = bindings;
    }

    -- They stand in the universe of the lists.
    leads_at : KeepsUniverseOf r.store q.store xs ys → LeadsInUniverse r.store q.store xs ys x y
    leads_at f u p = let z = f u p in (
      record {
        variables = z.0;
        left = subst (Leaves (NamesTypesTo u)) (sym ex) (leaves_nth (NamesTypesTo u) xs i lx p.left);
        right = subst (Leaves (NamesTypesTo u)) (sym ey) (leaves_nth (NamesTypesTo u) ys i ly p.right);
      },
      z.1,
    )

    -- No variable was made on the way, where no binder stands in the lists and none could be made.
    pub fronted_full : {p : Store} → StaysFullFor q.store p x y → StaysFullFor r.store p xs ys
    fronted_full g ha hb = full_then (f.full ha hb)
        (g (subst HasNoBinder (sym ex) (nth_plain i xs ha)) (subst HasNoBinder (sym ey) (nth_plain i ys hb)))

    -- They are bare where the lists are.
    bare_part : AreBare r.kept.settings xs ys → AreBare q.kept.settings x y
    bare_part bare = subst (λ k. AreBare k x y) (sym (same_settings (f.passes).kept))
        (subst₂ (AreBare r.kept.settings) (sym ex) (sym ey) (bare_nth r.kept.settings i xs ys bare))

    -- They are built of what the lists are.
    part_from : BuiltFrom r.store xs ys x y
    part_from k ha hb all = (
      subst (IsBuiltOf k) (sym ex) (built_nth k i xs ha),
      subst (IsBuiltOf k) (sym ey) (built_nth k i ys hb),
    )

    -- Nothing was bound and registered that is not built of what the lists and the bindings were built of.
    pub fronted_built : {p : Store} (gs : List Goal) → StaysBuilt q.store p gs x y →
        StaysBuilt r.store p ((f.passes).added ++ gs) xs ys
    fronted_built gs g = built_led (f.passes).added gs xs ys x y f.built part_from g

    -- A variable that stands in the parts stands in the lists.
    pub fronted_needs : NeedsVariable q.store x y → NeedsVariable r.store xs ys
    fronted_needs n = needs_led (f.passes).added xs ys x y f.built part_from n

    pub fronted_next : {X : Type 0} {p : State Key Id Name} (tree : X → Tree) (t : X) →
        AreParts r.store xs ys → Related M q p (part_at (items_in r) h i v) x y tree (Ok t) →
        Fronted M r p h v (suc i) xs ys
    unfolding passes_then
    fronted_next {X} {p} tree t are g = record {
      passes = passes_then f.passes g.passes part_small;
      front = (front_goes_on (items_in r) r.kept.environment h v i r.store q.store p.store r.goals (f.passes).added
          (g.passes).added xs ys are.left_list are.right_list are.left_in are.right_in f.front).0
          (outcome_seen f.passes (at (part_at (items_in r) h i v)) p.store (g.passes).added (nth i xs) (nth i ys)
          (subst₂ (λ t u. Outcome (items_in q) q.kept.environment (at (part_at (items_in r) h i v)) q.store p.store q.goals
          (g.passes).added t u) ex ey (g.verdict).outcome));
      exact = λ k is looked pair.
          let z = f.exact k is looked pair in
          let o = g.exact (manner_then M (λ m. m.is_exact) f.passes k) (part_invariant (items_in r) h i v looked is) (pair_at pair z.0) in (
            o.0,
            (exact_front_goes_on i r.store q.store p.store xs ys are.left_list are.right_list are.left_in are.right_in
                z.1).0 (subst₂ (Exact q.store p.store) ex ey o.1),
            led_keeps r.store q.store p.store xs ys x y (leads_at z.2) o.2,
          );
      full = fronted_full g.full;
      built = fronted_built (g.passes).added g.built;
      agrees = λ k st began.
          let z = f.agrees k st began in
          let o = (g.verdict).agrees (manner_then M (λ m. m.relates_agreeing) f.passes k) st z.1 in (
            next_agrees r.kept.settings (items_in r) st h v i xs ys z.0
                (subst₂ (AgreesIn r st (at (part_at (items_in r) h i v))) ex ey
                (agrees_then f.passes st (at (part_at (items_in r) h i v)) x y o.0)),
            o.1,
          );
      records = λ k bare. recorded_on (items_in r) h v i xs ys (same_environment (g.passes).kept) (f.records k bare)
          (subst₂ (λ t u. RecordsJust (λ z. AsksFor (items_in r) z (part_at (items_in r) h i v) t u) q p) ex ey
          (subst (λ c. RecordsJust (λ z. AsksFor c z (part_at (items_in r) h i v) x y) q p) (same_items f.passes)
          ((g.records).0 (manner_then M (λ m. m.records_asked) f.passes k) (bare_part bare))));
      no_more = λ k. front_next r.kept.settings (items_in r) r.store q.store p.store h v i xs ys (f.passes).added
          ((g.passes).goes).later f.built (λ j ha hb all. (built_nth j i xs ha, built_nth j i ys hb)) (f.no_more k)
          (subst₂ (AsksNoMore r.kept.settings (items_in r) q.store p.store (part_at (items_in r) h i v)) ex ey
          (seen_no_more q.store p.store (part_at (items_in r) h i v) x y f.passes
          ((g.records).1 (manner_then M (λ m. m.records_asked) f.passes k))));
    }

    -- A fault of two parts is one of the lists: they are not unified where the parts are not.
    pub fronted_fault : (A B : Type 0) (p : State Key Id Name) (e : RelateFault Key Id Name) → AreParts r.store xs ys →
        (M r.kept.settings).is_exact → v ≡ Invariant → IsLookedAt h → IsFirstOrderPair r.store xs ys →
        ((M r.kept.settings).is_exact → part_at (items_in r) h i v ≡ Invariant → IsFirstOrderPair q.store x y →
        ExactResult {X = A} q.store p.store x y (Err e)) → ExactResult {X = B} r.store p.store xs ys (Err e)
    fronted_fault A B p e are k is looked pair g = go e (g k (part_invariant (items_in r) h i v looked is) (pair_at pair z.0))
      where
        z : IsFirstOrderStore q.store × ExactFront i r.store q.store xs ys × KeepsUniverseOf r.store q.store xs ys
        z = f.exact k is looked pair

        unified : KeepsUnified q.store p.store x y → KeepsUnified r.store p.store xs ys
        unified o = unified_front i p.store are.left_list are.right_list are.left_in are.right_in z.1
            (subst₂ (KeepsUnified q.store p.store) ex ey o)

        go : (e : RelateFault Key Id Name) → ExactResult {X = A} q.store p.store x y (Err e) →
            ExactResult {X = B} r.store p.store xs ys (Err e)
        go (Unrelated d) o = (
          (exact_front_goes_on i r.store q.store q.store xs ys are.left_list are.right_list are.left_in are.right_in
              z.1).1 (subst₂ (NoUnifier q.store) ex ey o.0),
          led_binds r.store q.store p.store xs ys x y (leads_at z.2) o.1,
        )
        go Budget o = (led_fewer r.store q.store p.store xs ys x y (leads_at z.2) o.0, unified o.1)
        go Memory o = (led_binds r.store q.store p.store xs ys x y (leads_at z.2) o.0, unified o.1)

    -- What made the lists one extends to what a fault of two parts left.
    pub fronted_keeps : (p : State Key Id Name) → AreParts r.store xs ys →
        KeepsOne (at (part_at (items_in r) h i v)) q.store p.store x y → KeepsOne (parts h 0 v) r.store p.store xs ys
    fronted_keeps p are k = one_front (part_at (items_in r) h i v) p.store are.left_list are.right_list are.left_in
        are.right_in f.front
        (subst₂ (λ t u. KeepsOne (at (part_at (items_in r) h i v)) q.store p.store t u) ex ey k)

    -- Where two parts are never one, nor are the lists.
    pub fronted_never : AreParts r.store xs ys → NeverOne (at (part_at (items_in r) h i v)) q.store x y →
        NeverOne (parts h 0 v) r.store xs ys
    fronted_never are n =
        (front_goes_on (items_in r) r.kept.environment h v i r.store q.store q.store r.goals (f.passes).added
        [] xs ys are.left_list are.right_list are.left_in are.right_in f.front).1
        (subst₂ (λ t u. NeverOne (at (part_at (items_in r) h i v)) q.store t u) ex ey n)

    unfoldable pub fronted_passes : {p : State Key Id Name} → Passes (weight q.store x + weight q.store y) q p →
        Passes (weight r.store xs + weight r.store ys) r p
    fronted_passes g = passes_then f.passes g part_small

  -- All parts were related, and agree.
  pub fronted_agree : {M : Manners} {r q : State Key Id Name} (h : Head) (v : Variance) (n : ℕ) (xs ys : Tree) →
      AreParts r.store xs ys → n ≡ count xs → n ≡ count ys → Fronted M r q h v n xs ys →
      (M r.kept.settings).relates_agreeing → (st : Store) → BeganWith r st →
      AgreesIn r st (parts h 0 v) xs ys × BeganWith q st
  fronted_agree {r = r} h v n xs ys are e d f k st began =
      let z = f.agrees k st began in (
        parts_agreed r.kept.settings (items_in r) st h v xs ys are.left_list are.right_list (sym e ∙ d)
            (λ j l. z.0 j (omega (arith, e, l))),
        z.1,
      )

  -- All parts were related exactly.
  pub fronted_exactly : {M : Manners} {r q : State Key Id Name} (h : Head) (v : Variance) (n : ℕ) (xs ys : Tree) →
      AreParts r.store xs ys → n ≡ count xs → n ≡ count ys → Fronted M r q h v n xs ys → (M r.kept.settings).is_exact → v ≡ Invariant →
      IsLookedAt h → IsFirstOrderPair r.store xs ys → IsFirstOrderStore q.store × Exact r.store q.store xs ys ×
      KeepsUniverseOf r.store q.store xs ys
  fronted_exactly {M} {r} {q} h v n xs ys are e d f k is looked pair =
      let z = f.exact k is looked pair in (
        z.0,
        exact_front_ends r.store q.store xs ys are.left_list are.right_list (sym e ∙ d)
            (subst (λ i. ExactFront i r.store q.store xs ys) e z.1),
        z.2,
      )

  pub fronted_all : {M : Manners} {r q : State Key Id Name} (h : Head) (v : Variance) (n : ℕ) (xs ys : Tree) →
      AreParts r.store xs ys → n ≡ count xs → n ≡ count ys → (f : Fronted M r q h v n xs ys) →
      Outcome (items_in r) r.kept.environment (parts h 0 v) r.store q.store r.goals (f.passes).added xs ys
  fronted_all {M} {r} {q} h v n xs ys are e d f =
      front_ends (items_in r) r.kept.environment h v r.store q.store r.goals (f.passes).added xs ys are.left_list are.right_list
      (sym e ∙ d)
      (subst (λ i. Front (items_in r) r.kept.environment h v i r.store q.store r.goals (f.passes).added xs ys) e f.front)
