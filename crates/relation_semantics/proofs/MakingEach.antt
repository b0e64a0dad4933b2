-- New variables for what a binder binds, made one after another: what stands, and that they may have any values.
use Rattle.std.proofs.Common.{◌≡◌, ◌≢◌, ℕ, ◌≤◌, refl, sym, ap, ap₂, ◌∙◌, arith, subst, subst₂, List, []}
use Rattle.std.proofs.Common.{◌∷◌, ◌++◌, map, take}
use Rattle.std.proofs.lemmas.List.{map-append}
use Rattle.relation_terms.specs.Heads.{type_kind, region_kind, const_kind, BoundKind, bound_kind, bound_sort, VarKind}
use Rattle.relation_terms.specs.Heads.{var_sort, variable}
use Rattle.relation_terms.specs.Trees.{Tree, leaf, Assign, apply, IsTerm}
use Rattle.relation_semantics.specs.Relation.{Interpretation, IsValue, FitKinds, AvoidsAll}
use Rattle.relation_semantics.specs.Stores.{Store, universe_of, IsMade, MayStandFor, Satisfies, IsSound}
use Rattle.relation_semantics.specs.Steps.{IsNumberKind, MakesVariable, IsLater, AgreeOn, HasExtension, AllNamable}
use Rattle.relation_semantics.specs.Steps.{AreNewVariables}
use Rattle.relation_semantics.specs.Generalising.{MakesUnbound, makes_none as none_made, makes_one}
use Rattle.relation_semantics.specs.Binders.{variable_kind, MakesEach, makes_none, makes_next, MakesFirst}
use Rattle.relation_semantics.specs.OpeningLaws.{MakingEachMakes, InstantiatingEachOpens}
use Rattle.relation_semantics.proofs.Growing.{new_made}
use Rattle.relation_semantics.proofs.StoreCalls.{made_is_unconstrained}
use Rattle.relation_semantics.proofs.NewVariables.{adds, new_universe}

-- They are variables of types, regions and constants.
no_number : (k : BoundKind) → IsNumberKind (variable_kind k) → ⊥
no_number (bound_kind type_kind n) h = h
no_number (bound_kind region_kind n) h = h
no_number (bound_kind const_kind n) h = h

pub variable_sort : (k : BoundKind) → var_sort (variable_kind k) ≡ bound_sort k
variable_sort (bound_kind type_kind n) = refl
variable_sort (bound_kind region_kind n) = refl
variable_sort (bound_kind const_kind n) = refl

pub each_unbound : {u : ℕ} {before after : Store} {ks : List BoundKind} {xs : List Tree} →
    MakesEach u before ks xs after →
    MakesUnbound u before after
each_unbound (makes_none p q) = none_made
each_unbound (makes_next k f q p e) = makes_one (each_unbound f) (no_number k) q

-- A tree that is none of a list and not a further one.
avoids_more : (p x : Tree) (xs : List Tree) → AvoidsAll p xs → (x ≢ p) → AvoidsAll p (xs ++ x ∷ [])
avoids_more p x [] h o = (o, tt)
avoids_more p x (y ∷ xs) h o = (h.0, avoids_more p x xs h.1 o)

module _ (u : ℕ) (before middle after : Store) (k : BoundKind) (n : ℕ)
    (q : MakesVariable middle after (variable_kind k) n u)
    (g : IsSound middle) (l : IsLater before middle) (up : IsLater middle after)
    (still : (v : VarKind) (m : ℕ) → IsMade middle v m → universe_of after v m ≡ universe_of middle v m) where
  not_before : IsMade middle (variable_kind k) n → ⊥
  not_before m = let d = q.number in omega arith

  -- It is none of those that were made before.
  another : (v : VarKind) (m : ℕ) → IsMade middle v m → leaf (variable (variable_kind k) n) ≢ leaf (variable v m)
  another v m made e =
      let p : variable_kind k ≡ v = cc in
      let r : n ≡ m = cc in
      not_before (subst (λ z. IsMade middle z n) (sym p) (subst (IsMade middle v) (sym r) made))

  -- With it those that were made are new ones still.
  pub new_more : (ks : List BoundKind) (xs : List Tree) → AreNewVariables before middle u ks xs →
      AreNewVariables before after u (ks ++ k ∷ []) (xs ++ leaf (variable (variable_kind k) n) ∷ [])
  new_more [] [] h = (
    (
      variable_kind k,
      n,
      refl,
      variable_sort k,
      λ m. not_before (l.grows (variable_kind k) n m),
      new_made middle after (variable_kind k) n u q,
      new_universe middle after (variable_kind k) n u g q,
    ),
    tt,
    tt,
  )
  new_more [] (x ∷ xs) h = absurd h
  new_more (j ∷ ks) [] h = absurd h
  new_more (j ∷ ks) (x ∷ xs) h =
      let v = h.0.0 in
      let m = h.0.1 in
      let e = h.0.2 in
      let made = h.0.5 in (
        (v, m, e, h.0.3, h.0.4, up.grows v m made, still v m made ∙ h.0.6),
        avoids_more x (leaf (variable (variable_kind k) n)) xs h.1
            (subst (λ z. leaf (variable (variable_kind k) n) ≢ z) (sym e) (another v m made)),
        new_more ks xs h.2,
      )

-- Values of the kinds of a list and of one more.
record Split (u : ℕ) (ks : List BoundKind) (k : BoundKind) (values : List Tree) : Type 0 where
  front : List Tree
  value : Tree
  is : values ≡ front ++ value ∷ []
  fit : FitKinds ks front
  namable : AllNamable u front
  last : IsValue (bound_sort k) value
  last_namable : AllNamable u (value ∷ [])

split : (u : ℕ) (ks : List BoundKind) (k : BoundKind) (values : List Tree) → FitKinds (ks ++ k ∷ []) values →
    AllNamable u values → Split u ks k values
split u [] k [] fit names = absurd fit
split u [] k (t ∷ []) fit names =
    record { front = []; value = t; is = refl; fit = tt; namable = tt; last = fit.0; last_namable = names }
split u [] k (t ∷ x ∷ ts) fit names = absurd fit.1
split u (j ∷ ks) k [] fit names = absurd fit
split u (j ∷ ks) k (t ∷ ts) fit names =
    let r = split u ks k ts fit.1 names.1 in
    record {
      front = t ∷ r.front;
      value = r.value;
      is = ap (λ z. t ∷ z) r.is;
      fit = (fit.0, r.fit);
      namable = (names.0, r.namable);
      last = r.last;
      last_namable = r.last_namable;
    }

-- Where assignments agree on what is made, new variables have one value.
same_values : (before st : Store) (u : ℕ) (ks : List BoundKind) (xs : List Tree) (s s' : Assign) → AgreeOn st s s' →
    AreNewVariables before st u ks xs → map (apply s') xs ≡ map (apply s) xs
same_values before st u [] [] s s' h a = refl
same_values before st u [] (x ∷ xs) s s' h a = absurd a
same_values before st u (k ∷ ks) [] s s' h a = absurd a
same_values before st u (k ∷ ks) (x ∷ xs) s s' h a =
    ap₂ ◌∷◌ (subst (λ z. apply s' z ≡ apply s z) (sym a.0.2) (sym (h a.0.0 a.0.1 a.0.5)))
    (same_values before st u ks xs s s' h a.2)

stands_for : (k : BoundKind) (t : Tree) → IsTerm (bound_sort k) t → MayStandFor (variable_kind k) t
stands_for (bound_kind type_kind n) t h = h
stands_for (bound_kind region_kind n) t h = h
stands_for (bound_kind const_kind n) t h = h

-- New variables may have any values that the universe can name.
abbrev pub Unconstrained : Store → Store → ℕ → List BoundKind → List Tree → Type 0
Unconstrained before after u ks xs = (w : Interpretation) (s : Assign) (values : List Tree) → Satisfies w before s →
    FitKinds ks values → AllNamable u values →
    HasExtension before s (λ s'. Satisfies w after s' × (map (apply s') xs ≡ values))

module _ (u : ℕ) (before middle after : Store) (k : BoundKind) (n : ℕ)
    (q : MakesVariable middle after (variable_kind k) n u)
    (g : IsSound middle) (l : IsLater before middle) (ks : List BoundKind) (xs : List Tree)
    (new : AreNewVariables before middle u ks xs) where
  unconstrained_more : Unconstrained before middle u ks xs →
      Unconstrained before after u (ks ++ k ∷ []) (xs ++ leaf (variable (variable_kind k) n) ∷ [])
  unconstrained_more f w s values sat fit names =
      let r = split u ks k values fit names in
      let a = f w s r.front sat r.fit r.namable in
      let b = made_is_unconstrained middle after (variable_kind k) n u q g w a.0 r.value a.2.0
      (stands_for k r.value r.last.0) r.last.1 r.last.2 r.last_namable.0 in (
        b.0,
        λ j m h. a.1 j m h ∙ b.1 j m (l.grows j m h),
        (
          b.2.0,
          map-append (apply b.0) xs (leaf (variable (variable_kind k) n) ∷ [])
              ∙ ap₂ ◌++◌ (same_values before middle u ks xs a.0 b.0 b.1 new ∙ a.2.1) (ap (λ y. y ∷ []) b.2.1)
              ∙ sym r.is,
        ),
      )

none_values : (u : ℕ) (st : Store) → Unconstrained st st u [] []
none_values u st w s [] sat fit names = (s, λ k n h. refl, (sat, refl))
none_values u st w s (t ∷ ts) sat fit names = absurd fit

pub each_new : {u : ℕ} {before after : Store} {ks : List BoundKind} {xs : List Tree} → MakesEach u before ks xs after →
    u ≤ before.universe → IsSound before → AreNewVariables before after u ks xs
each_new {u} {before} (makes_none p q) low g = subst₂ (AreNewVariables before before u) (sym p) (sym q) tt
each_new {u} {before} {after} (makes_next {middle = middle} {ks = ks} {xs = xs} {n = n} k f q p e) low g =
    let a = adds g low (each_unbound f) in
    let universe = a.universe in
    let b = adds a.sound (omega arith) (makes_one none_made (no_number k) q) in
    subst₂ (AreNewVariables before after u) (sym p) (sym e)
    (new_more u before middle after k n q a.sound a.later b.later b.universes ks xs (each_new f low g))

pub each_unconstrained : {u : ℕ} {before after : Store} {ks : List BoundKind} {xs : List Tree} →
    MakesEach u before ks xs after →
    u ≤ before.universe → IsSound before → Unconstrained before after u ks xs
each_unconstrained {u} {before} (makes_none p q) low g =
    subst₂ (Unconstrained before before u) (sym p) (sym q) (none_values u before)
each_unconstrained {u} {before} {after} (makes_next {middle = middle} {ks = ks} {xs = xs} {n = n} k f q p e) low g =
    let a = adds g low (each_unbound f) in
    subst₂ (Unconstrained before after u) (sym p) (sym e)
    (unconstrained_more u before middle after k n q a.sound a.later ks xs (each_new f low g)
    (each_unconstrained f low g))

pub making_each_makes : MakingEachMakes
making_each_makes before after u ks xs f low g =
    let a = adds g low (each_unbound f) in
    record {
      later = a.later;
      stays_sound = λ h. a.sound;
      are_new = each_new f low g;
      same_entries = a.entries;
      same_universes = a.universes;
      same_constraints = a.constraints;
      same_universe = a.universe;
      same_budget = a.budget;
      unconstrained = each_unconstrained f low g;
    }

pub instantiating_each_opens : InstantiatingEachOpens
instantiating_each_opens before after ks body opened f g = record {
  variables = f.variables;
  makes = making_each_makes before after before.universe ks f.variables f.makes (omega arith) g;
  body_is = f.body_is;
}

-- Where a growth was refused the record comes of that before still.
pub refused_later : MakingEachMakes → (before after : Store) (ks : List BoundKind) → IsSound before →
    MakesFirst before.universe before ks after → IsLater before after
refused_later makes before after ks g f =
    (makes before after before.universe (take f.0 ks) f.1 f.2 (omega arith) g).later
