-- Which type variables are marked as related after new ones were made.
use Rattle.std.proofs.Common.{◌≡◌, ◌⊎◌, inl, inr, le_of_eq, ℕ, suc, ◌<◌, ◌≤◌, refl, sym, ap, ◌∙◌, arith, subst, length, length-append, List, ◌∷◌, [], set, le_refl, Some}
use Rattle.std.proofs.lemmas.List.{length-set, length-map}
use native.Mathlib.Decide.{ℕ_discrete}
use Rattle.relation_terms.specs.Heads.{VarKind, type_var, Leaf, variable, bound, placeholder, atom, unknown, region_kind, type_kind, const_kind, bound_kind, int_var, float_var, const_var, region_var, static_region, early_region}
use Rattle.relation_terms.specs.Meaning.{Meaning, Extends}
use Rattle.relation_semantics.specs.ContextCalls.{JoinsRoots, KeepsRest, MarksNew}
use Rattle.relation_semantics.specs.Stores.{Store, Entry, IsMade, unbound}
use Rattle.relation_semantics.specs.Steps.{MakesVariable}
use Rattle.relation_semantics.specs.Generalising.{gives_way_to}
use Rattle.relation_reference.specs.declared.context.variables.RefCtxt.{RefCtxt}
use Rattle.variable_tables.specs.declared.inner.Variable.{Variable}
use Rattle.variable_tables.specs.Variables.{keys_of}
use Rattle.variable_classes.specs.Roots.{Roots, root_in}
use Rattle.variable_tables.specs.Tables.{setup_in, store_of, IsLawful}
use Rattle.relation_reference.specs.RefCtxt.{store_in, context_in}
use Rattle.variable_tables.proofs.Grows.{store_grows}

-- A variable that is its own root is joined to an earlier one.
module _ (f mid g : ℕ → ℕ) (below : (n : ℕ) → f n ≤ n) (count of : ℕ) (own : f count ≡ count) (made : of < count)
    (same : (n : ℕ) → mid n ≡ f n) (j : JoinsRoots mid g of count) where
  pub mark_stands : (n : ℕ) → n < count → g n ≡ f n
  mark_stands n h = go (ℕ_discrete (mid n) (mid of))
    where
      go : Dec (mid n ≡ mid of) → g n ≡ f n
      go (yes e) =
          let q = j.joined n (inl e) in
          let a = same n in
          let b = same of in
          let c = same count in
          let low = below of in
          omega (arith, q, a, b, c, low, own, made, e)
      go (no o) = j.others n o (λ e.
          let a = same n in
          let c = same count in
          let low = below n in
          omega (arith, a, c, low, own, h, e)) ∙ same n

  pub mark_root : g count ≡ f of
  mark_root =
      let q = j.joined count (inr refl) in
      let b = same of in
      let c = same count in
      let low = below of in
      omega (arith, q, b, c, low, own, made)

  pub mark_related : (n : ℕ) → n < suc count → g n < count
  mark_related n h = go (ℕ_discrete n count)
    where
      go : Dec (n ≡ count) → g n < count
      go (yes e) =
          let q = ap g e ∙ mark_root in
          let low = below of in
          omega (arith, q, low, made)
      go (no o) =
          let s = mark_stands n (omega (arith, h, o)) in
          let low = below n in
          omega (arith, s, low, h, o)

-- A variable that was made is made.
pub made_new : (before after : Store) (k : VarKind) (n u : ℕ) → MakesVariable before after k n u → IsMade after k n
made_new before after k n u h =
    let grew = ap length h.entries_grow in
    let long = length-append (before.entries k) (unbound ∷ []) in
    let number = h.number in
    let done : n < length (after.entries k) = omega (arith, grew, long, number) in
    done

-- Where an entry was set there are as many.
pub set_back : (xs ys : List Entry) (i : ℕ) (e : Entry) → ys ≡ set xs i e → (n : ℕ) → n < length ys → n < length xs
set_back xs ys i e q n h =
    let long = ap length q in
    let held = length-set xs i e in
    omega (arith, h, long, held)

-- Where the keys stand there are as many.
pub as_many_keys : {K : Type 0} (xs ys : List (Variable K)) → keys_of ys ≡ keys_of xs → (n : ℕ) → n < length xs → n < length ys
as_many_keys xs ys e n h =
    let long = ap length e in
    let a = length-map xs (λ v. v.key) in
    let b = length-map ys (λ v. v.key) in
    omega (arith, h, long, a, b)

-- A leaf that gives way to a type variable is one.
pub gives_type : (l : Leaf) → gives_way_to l ≡ Some type_var → (n : ℕ) × (l ≡ variable type_var n)
gives_type (variable type_var m) e = (m, refl)
gives_type (variable int_var m) e = absurd (cc)
gives_type (variable float_var m) e = absurd (cc)
gives_type (variable const_var m) e = absurd (cc)
gives_type (variable region_var m) e = absurd (cc)
gives_type (bound q d i) e = absurd (cc)
gives_type (placeholder (bound_kind region_kind x) w i) e = absurd (cc)
gives_type (placeholder (bound_kind type_kind x) w i) e = absurd (cc)
gives_type (placeholder (bound_kind const_kind x) w i) e = absurd (cc)
gives_type (atom static_region) e = absurd (cc)
gives_type (atom (early_region i x)) e = absurd (cc)
gives_type (atom x) e = absurd (cc)
gives_type unknown e = absurd (cc)

module _ {I Key Id Name Span : Type 0} (meaning : I → Meaning Key Id Name) where
  -- What was only grown, or made no type variable.
  pub marks_kept : (p q : RefCtxt I Key Id Name Span) → IsLawful (meaning p.interner) p.inner →
      length ((store_in meaning q).entries type_var) ≡ length ((store_in meaning p).entries type_var) →
      KeepsRest (context_in meaning p) (context_in meaning q) → MarksNew (context_in meaning p) (context_in meaning q)
  marks_kept p q l long r = record {
    setup = r.setup;
    outliving = r.outliving;
    marks = λ n h. r.marks n;
    related = λ n h.
        let within : n < length ((store_in meaning q).entries type_var) = h in
        let same : root_in q.inner.sub_roots.items n ≡ root_in p.inner.sub_roots.items n = r.marks n in
        let low : root_in p.inner.sub_roots.items n ≤ n = l.sub_rooted.rooted.below n in
        let done : root_in q.inner.sub_roots.items n < length ((store_in meaning p).entries type_var) =
        omega (arith, within, same, low, long) in
        inl done;
  }

  pub marks_none : (p : RefCtxt I Key Id Name Span) → IsLawful (meaning p.interner) p.inner →
      MarksNew (context_in meaning p) (context_in meaning p)
  marks_none p l = marks_kept p p l refl (record { setup = refl; outliving = refl; marks = λ n. refl })

  -- Since an earlier context no type variable was made.
  pub marks_still : (s p q : RefCtxt I Key Id Name Span) →
      length ((store_in meaning q).entries type_var) ≡ length ((store_in meaning p).entries type_var) →
      MarksNew (context_in meaning p) (context_in meaning q) →
      ((n : ℕ) → IsMade (store_in meaning s) type_var n → IsMade (store_in meaning p) type_var n) →
      MarksNew (context_in meaning s) (context_in meaning p) → MarksNew (context_in meaning s) (context_in meaning q)
  marks_still s p q long r grew a = record {
    setup = r.setup ∙ a.setup;
    outliving = r.outliving ∙ a.outliving;
    marks = λ n h. r.marks n (grew n h) ∙ a.marks n h;
    related = λ n h.
        let within : n < length ((store_in meaning q).entries type_var) = h in
        let there : n < length ((store_in meaning p).entries type_var) = omega (arith, within, long) in
        moved n there (a.related n there);
  }
    where
      moved : (n : ℕ) → IsMade (store_in meaning p) type_var n →
          IsMade (store_in meaning s) type_var (root_in p.inner.sub_roots.items n) ⊎ (root_in p.inner.sub_roots.items n ≡ n) →
          IsMade (store_in meaning s) type_var (root_in q.inner.sub_roots.items n) ⊎ (root_in q.inner.sub_roots.items n ≡ n)
      moved n k (inl h) = inl (subst (IsMade (store_in meaning s) type_var) (sym (r.marks n k)) h)
      moved n k (inr e) = inr (r.marks n k ∙ e)

  -- One was, with a mark that is one of that context, or none but itself.
  module _ (s p q : RefCtxt I Key Id Name Span) (number u : ℕ)
      (makes : MakesVariable (store_in meaning p) (store_in meaning q) type_var number u)
      (setup : setup_in q.inner ≡ setup_in p.inner) (outliving : q.inner.ty_outlives.items ≡ p.inner.ty_outlives.items)
      (stands : (n : ℕ) → IsMade (store_in meaning p) type_var n →
      root_in q.inner.sub_roots.items n ≡ root_in p.inner.sub_roots.items n)
      (grew : (n : ℕ) → IsMade (store_in meaning s) type_var n → IsMade (store_in meaning p) type_var n)
      (a : MarksNew (context_in meaning s) (context_in meaning p))
      (new : IsMade (store_in meaning s) type_var (root_in q.inner.sub_roots.items number) ⊎
      (root_in q.inner.sub_roots.items number ≡ number)) where
    pub marks_one : MarksNew (context_in meaning s) (context_in meaning q)
    marks_one = record {
      setup = setup ∙ a.setup;
      outliving = outliving ∙ a.outliving;
      marks = λ n h. stands n (grew n h) ∙ a.marks n h;
      related = λ n h. go n h (ℕ_discrete n number);
    }
      where
        before : (n : ℕ) → IsMade (store_in meaning p) type_var n →
            IsMade (store_in meaning s) type_var (root_in p.inner.sub_roots.items n) ⊎ (root_in p.inner.sub_roots.items n ≡ n) →
            IsMade (store_in meaning s) type_var (root_in q.inner.sub_roots.items n) ⊎ (root_in q.inner.sub_roots.items n ≡ n)
        before n h (inl g) = inl (subst (IsMade (store_in meaning s) type_var) (sym (stands n h)) g)
        before n h (inr e) = inr (stands n h ∙ e)

        old : (n : ℕ) → IsMade (store_in meaning q) type_var n → (n ≡ number → ⊥) → IsMade (store_in meaning p) type_var n
        old n h o =
            let within : n < length ((store_in meaning q).entries type_var) = h in
            let more = ap length makes.entries_grow in
            let long = length-append ((store_in meaning p).entries type_var) (unbound ∷ []) in
            let last = makes.number in
            let done : n < length ((store_in meaning p).entries type_var) = omega (arith, within, more, long, last, o) in done

        go : (n : ℕ) → IsMade (store_in meaning q) type_var n → Dec (n ≡ number) →
            IsMade (store_in meaning s) type_var (root_in q.inner.sub_roots.items n) ⊎ (root_in q.inner.sub_roots.items n ≡ n)
        go n h (yes e) = subst (λ i. IsMade (store_in meaning s) type_var (root_in q.inner.sub_roots.items i) ⊎
            (root_in q.inner.sub_roots.items i ≡ i)) (sym e) new
        go n h (no o) = before n (old n h o) (a.related n (old n h o))

  -- It is marked as related to one of that context.
  pub marks_joined : (s p q : RefCtxt I Key Id Name Span) (number u of : ℕ) →
      MakesVariable (store_in meaning p) (store_in meaning q) type_var number u →
      MarksNew (context_in meaning p) (context_in meaning q) →
      root_in q.inner.sub_roots.items number ≡ root_in p.inner.sub_roots.items of →
      ((n : ℕ) → IsMade (store_in meaning s) type_var n → IsMade (store_in meaning p) type_var n) →
      MarksNew (context_in meaning s) (context_in meaning p) → IsMade (store_in meaning s) type_var of →
      MarksNew (context_in meaning s) (context_in meaning q)
  marks_joined s p q number u of makes b root grew a made =
      marks_one s p q number u makes b.setup b.outliving b.marks grew a
      (inl (subst (IsMade (store_in meaning s) type_var) (sym root) (there (a.related of (grew of made)))))
    where
      there : IsMade (store_in meaning s) type_var (root_in p.inner.sub_roots.items of) ⊎ (root_in p.inner.sub_roots.items of ≡ of) →
          IsMade (store_in meaning s) type_var (root_in p.inner.sub_roots.items of)
      there (inl h) = h
      there (inr e) = subst (IsMade (store_in meaning s) type_var) (sym e) made

  -- Or to none.
  pub marks_alone : (s p q : RefCtxt I Key Id Name Span) → IsLawful (meaning p.interner) p.inner → (number u : ℕ) →
      MakesVariable (store_in meaning p) (store_in meaning q) type_var number u →
      KeepsRest (context_in meaning p) (context_in meaning q) →
      ((n : ℕ) → IsMade (store_in meaning s) type_var n → IsMade (store_in meaning p) type_var n) →
      MarksNew (context_in meaning s) (context_in meaning p) → MarksNew (context_in meaning s) (context_in meaning q)
  marks_alone s p q l number u makes r grew a =
      marks_one s p q number u makes r.setup r.outliving (λ n h. r.marks n) grew a
      (inr (r.marks number ∙ l.sub_rooted.fresh number (le_of_eq (sym makes.number))))

  -- The interner grew after that.
  pub marks_grow : (p q r : RefCtxt I Key Id Name Span) → r.inner ≡ q.inner →
      store_in meaning r ≡ store_in meaning q → MarksNew (context_in meaning p) (context_in meaning q) →
      MarksNew (context_in meaning p) (context_in meaning r)
  marks_grow p q r same record_same a = record {
    setup = ap setup_in same ∙ a.setup;
    outliving = ap (λ x. x.ty_outlives.items) same ∙ a.outliving;
    marks = λ n h. ap (λ x. root_in x.sub_roots.items n) same ∙ a.marks n h;
    related = λ n h. subst (λ i. IsMade (store_in meaning p) type_var i ⊎ (i ≡ n))
        (sym (ap (λ x. root_in x.sub_roots.items n) same))
        (a.related n (subst (λ st. IsMade st type_var n) record_same h));
  }

  -- A new variable, its own root, was joined to an earlier one.
  module _ (p q : RefCtxt I Key Id Name Span) (l : IsLawful (meaning p.interner) p.inner) (number u of : ℕ)
      (makes : MakesVariable (store_in meaning p) (store_in meaning q) type_var number u)
      (made : IsMade (store_in meaning p) type_var of) (rest : KeepsRest (context_in meaning p) (context_in meaning q))
      (rs : Roots) (j : JoinsRoots (root_in q.inner.sub_roots.items) (root_in rs.items) of number) where
    abbrev count : ℕ
    count = length ((store_in meaning p).entries type_var)

    abbrev joins : JoinsRoots (root_in q.inner.sub_roots.items) (root_in rs.items) of count
    joins = subst (λ i. JoinsRoots (root_in q.inner.sub_roots.items) (root_in rs.items) of i) makes.number j

    abbrev own : root_in p.inner.sub_roots.items count ≡ count
    own = l.sub_rooted.fresh count (le_refl count)

    pub joined_root : root_in rs.items number ≡ root_in p.inner.sub_roots.items of
    joined_root = ap (root_in rs.items) makes.number ∙ mark_root (root_in p.inner.sub_roots.items)
        (root_in q.inner.sub_roots.items) (root_in rs.items) l.sub_rooted.rooted.below count of own made rest.marks joins

    pub joined_marks : MarksNew (context_in meaning p)
        (context_in meaning (record q { inner = record q.inner { sub_roots = rs } }))
    joined_marks = record {
      setup = rest.setup;
      outliving = rest.outliving;
      marks = mark_stands (root_in p.inner.sub_roots.items) (root_in q.inner.sub_roots.items) (root_in rs.items)
          l.sub_rooted.rooted.below count of own made rest.marks joins;
      related = λ n h. inl (mark_related (root_in p.inner.sub_roots.items) (root_in q.inner.sub_roots.items)
          (root_in rs.items) l.sub_rooted.rooted.below count of own made rest.marks joins n
          (let grew = ap length makes.entries_grow in
          let long = length-append ((store_in meaning p).entries type_var) (unbound ∷ []) in
          omega (arith, h, grew, long)));
    }

  -- Of what was resolved before, and bound after.
  module _ (p w z r : RefCtxt I Key Id Name Span) (e : Extends (meaning p.interner) (meaning w.interner))
      (same : w.inner ≡ p.inner) (l : IsLawful (meaning p.interner) p.inner)
      (setup : setup_in r.inner ≡ setup_in z.inner)
      (outliving : r.inner.ty_outlives.items ≡ z.inner.ty_outlives.items)
      (roots : r.inner.sub_roots.items ≡ z.inner.sub_roots.items)
      (back : (n : ℕ) → IsMade (store_in meaning r) type_var n → IsMade (store_in meaning z) type_var n) where
    here : store_in meaning w ≡ store_in meaning p
    here = ap (store_of (meaning w.interner)) same ∙ store_grows e p.inner l

    pub marks_bound : MarksNew (context_in meaning w) (context_in meaning z) →
        MarksNew (context_in meaning p) (context_in meaning r)
    marks_bound a = record {
      setup = setup ∙ a.setup ∙ ap setup_in same;
      outliving = outliving ∙ a.outliving ∙ ap (λ x. x.ty_outlives.items) same;
      marks = λ n h. ap (λ rs. root_in rs n) roots ∙ a.marks n (subst (λ st. IsMade st type_var n) (sym here) h)
          ∙ ap (λ x. root_in x.sub_roots.items n) same;
      related = λ n h. subst (λ i. IsMade (store_in meaning p) type_var i ⊎ (i ≡ n)) (sym (ap (λ rs. root_in rs n) roots))
          (subst (λ st. IsMade st type_var (root_in z.inner.sub_roots.items n) ⊎ (root_in z.inner.sub_roots.items n ≡ n)) here
          (a.related n (back n h)));
    }
