-- A new universe of a context: nothing but the current one's number changes.
use Rattle.std.proofs.Common.{◌≡◌, suc, ◌<◌, refl, sym, ap, arith, subst, Result, Ok, Err, IfOk, OnErr}
use Rattle.relation_terms.specs.Meaning.{Meaning}
use Rattle.relation_terms.specs.declared.terms.numbers.UniverseIndex.{UniverseIndex}
use Rattle.relation_semantics.specs.Steps.{ChangesNothing}
use Rattle.relation_semantics.specs.ContextCalls.{EntersNext, KeepsRest}
use Rattle.relation_semantics.proofs.StoreCalls.{nothing_is_seen}
use Rattle.variable_tables.specs.declared.inner.InferCtxtInner.{InferCtxtInner}
use Rattle.relation_reference.specs.declared.context.variables.RefCtxt.{RefCtxt}
use Rattle.variable_classes.specs.Roots.{root_in}
use Rattle.variable_tables.specs.Tables.{setup_in, store_of, context_of, IsLawful}
use Rattle.relation_reference.specs.RefCtxt.{context_in}

module _ {Key Id Name : Type 0} (m : Meaning Key Id Name) (x : InferCtxtInner Key) (u : UniverseIndex) (above : (x.universe).0 < u.0) where
  abbrev y : InferCtxtInner Key
  y = record x { universe = u }

  pub universe_alone : ChangesNothing (store_of m x) (store_of m y)
  universe_alone = record {
    same_entries = λ k. refl;
    same_universes = λ k. refl;
    same_constraints = refl;
    universe_stands = omega (arith, above);
    taint_stands = λ h. h;
    same_budget = refl;
  }

  pub universe_lawful : IsLawful m x → IsLawful m y
  universe_lawful l = record {
    sound = (nothing_is_seen (store_of m x) (store_of m y) universe_alone).0 l.sound;
    rooted = l.rooted;
    formed = l.formed;
    numbers_name_nothing = l.numbers_name_nothing;
    keyed = l.keyed;
    numbers = l.numbers;
    sub_rooted = record { count = l.sub_rooted.count; rooted = l.sub_rooted.rooted; fresh = l.sub_rooted.fresh };
  }

-- As the trait of contexts asks it.
module _ {I Key Id Name Span : Type 0} (meaning : I → Meaning Key Id Name) (p q : RefCtxt I Key Id Name Span) (same : q.interner ≡ p.interner)
    (before : IsLawful (meaning p.interner) p.inner) (after : IsLawful (meaning p.interner) q.inner) where
  pub universe_entered : {F : Type 0} (r : Result UniverseIndex F) → IfOk r (λ u. q.inner ≡ record p.inner { universe = u }) → IfOk r (λ u. u.0 ≡ suc (p.inner.universe).0) →
      OnErr r (q.inner ≡ p.inner) → EntersNext (context_in meaning p) (context_in meaning q) r
  universe_entered {F = F} (Ok u) is next refused =
      let above : (p.inner.universe).0 < u.0 = omega (arith, next) in
      subst (λ i. EntersNext (context_in meaning p) (context_of (meaning i) q.inner) {F = F} (Ok u)) (sym same)
      (subst (λ z. EntersNext (context_in meaning p) (context_of (meaning p.interner) z) {F = F} (Ok u)) (sym is)
      (universe_alone (meaning p.interner) p.inner u above, refl, refl, above, λ k n. let low = (before.sound).below_current k n in omega (arith, low, above)))
  universe_entered (Err f) is next refused =
      subst (λ i. store_of (meaning i) q.inner ≡ store_of (meaning p.interner) p.inner) (sym same) (ap (store_of (meaning p.interner)) refused)

module _ {I Key Id Name Span : Type 0} (meaning : I → Meaning Key Id Name) (p q : RefCtxt I Key Id Name Span) where
  pub universe_rest : {F : Type 0} (r : Result UniverseIndex F) → IfOk r (λ u. q.inner ≡ record p.inner { universe = u }) →
      OnErr r (q.inner ≡ p.inner) → KeepsRest (context_in meaning p) (context_in meaning q)
  universe_rest (Ok u) is refused = record {
    setup = ap setup_in is;
    outliving = ap (λ x. x.ty_outlives.items) is;
    marks = λ n. ap (λ x. root_in x.sub_roots.items n) is;
  }
  universe_rest (Err f) is refused = record {
    setup = ap setup_in refused;
    outliving = ap (λ x. x.ty_outlives.items) refused;
    marks = λ n. ap (λ x. root_in x.sub_roots.items n) refused;
  }
