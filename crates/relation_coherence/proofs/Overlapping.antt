-- What two headers have in common, by what relating their opened bodies promises.
use Rattle.std.specs.Prelude.{get_or}
use Rattle.std.proofs.Common.{◌≡◌, ℕ, List, All, refl, sym, ◌∙◌, ap, subst, inl, inr, map}
use Rattle.relation_terms.specs.Heads.{BoundKind, VarKind, Leaf, variable, bound, placeholder, atom, unknown}
use Rattle.relation_terms.specs.Trees.{Tree, leaf, node, bind, nil, cons, Assign, assigned, apply, inst, Leaves, Occurs}
use Rattle.relation_terms.specs.Erasure.{erase}
use Rattle.relation_semantics.specs.Relation.{Interpretation, FitKinds}
use Rattle.relation_semantics.specs.Stores.{Store, Constraint, InContext}
use Rattle.relation_semantics.specs.Stores.{IsSound, Satisfies, ConstraintHolds, BindingsAreMet, IsAssignment}
use Rattle.relation_semantics.specs.Stores.{resolved, IsNamable}
use Rattle.relation_semantics.specs.FirstOrder.{Unifies}
use Rattle.relation_semantics.specs.Steps.{InstantiatesBinder, HasExtension, AllNamable}
use Rattle.relation_semantics.specs.Outcomes.{NoEqualTerms, NoUnifier, Exact}
use Rattle.relation_semantics.specs.StepLaws.{InstantiatingAssigns}
use Rattle.relation_semantics.specs.StoreLaws.{ResolvedResolves}
use Rattle.relation_semantics.proofs.Trees.{replace_alike, replace_leaf, Leaves_map}
use Rattle.relation_semantics.proofs.Values.{same_value}
use Rattle.fast_reject.specs.Instances.{IsNoVariable}
use Rattle.relation_laws.specs.SolutionLaws.{NewVariablesFit}
use Rattle.relation_coherence.specs.Overlaps.{IsInstanceOf, AreApart, AreApartErased, Covers, IsCommon}
use Rattle.relation_semantics.proofs.Erased.{solves_erased}
use Rattle.relation_semantics.proofs.Free.{free, free_holds}

-- A term without variables is its own value.
closed_leaf : (s : Assign) (l : Leaf) → IsNoVariable l → assigned s l ≡ leaf l
closed_leaf s (variable k n) h = absurd h
closed_leaf s (bound k d i) h = refl
closed_leaf s (placeholder k u n) h = refl
closed_leaf s (atom x) h = refl
closed_leaf s unknown h = refl

pub closed_apply : (s : Assign) (t : Tree) → Leaves IsNoVariable t → apply s t ≡ t
closed_apply s t h = replace_alike (assigned s) leaf t
    (Leaves_map IsNoVariable (λ l. assigned s l ≡ leaf l) (closed_leaf s) t h) ∙ replace_leaf t

-- No variable stands in it.
pub none_occurs : (k : VarKind) (n : ℕ) (t : Tree) → Leaves IsNoVariable t → Occurs k n t → ⊥
none_occurs k n (leaf (variable j m)) h o = h
none_occurs k n (leaf (bound j d i)) h o = absurd cc
none_occurs k n (leaf (placeholder j u m)) h o = absurd cc
none_occurs k n (leaf (atom x)) h o = absurd cc
none_occurs k n (leaf unknown) h o = absurd cc
none_occurs k n (node g ts) h o = none_occurs k n ts h o
none_occurs k n (bind ks t) h o = none_occurs k n t h o
none_occurs k n nil h o = o
none_occurs k n (cons t ts) h (inl o) = none_occurs k n t h.0 o
none_occurs k n (cons t ts) h (inr o) = none_occurs k n ts h.1 o

all_hold : (s : Assign) (qs : List Constraint) → All (ConstraintHolds free s) qs
all_hold s qs = λ k d i. free_holds s (get_or qs k d)

module _ (instantiating : InstantiatingAssigns) where
  -- The value of an opened body.
  pub opened_value : (s : Assign) (vars values : List Tree) (t : Tree) → Leaves IsNoVariable t →
      map (apply s) vars ≡ values → apply s (inst vars 0 t) ≡ inst values 0 t
  opened_value s vars values t h e = instantiating s vars 0 t (λ k n o. absurd (none_occurs k n t h o)) ∙
      (ap (λ v. inst v 0 (apply s t)) e ∙ ap (inst values 0) (closed_apply s t h))

  -- Two headers, the first opened and then the second.
  module _ (st0 st1 st2 : Store) (ks ls : List BoundKind) (a b x y : Tree) (first : InstantiatesBinder st0 st1 ks a x)
      (second : InstantiatesBinder st1 st2 ls b y) (left : Leaves IsNoVariable a) (right : Leaves IsNoVariable b)
      (x_in : InContext st1 x) where
    -- Whatever values are put for what they bind, an assignment extends to give the new variables these.
    pub both_open : (w : Interpretation) (s : Assign) (vs us : List Tree) → Satisfies w st0 s → FitKinds ks vs →
        FitKinds ls us → AllNamable st0.universe vs → AllNamable st0.universe us →
        HasExtension st0 s (λ s'. Satisfies w st2 s' × (apply s' x ≡ inst vs 0 a) × (apply s' y ≡ inst us 0 b))
    both_open w s vs us h f g m n =
        let p = first.makes.unconstrained w s vs h f m in
        let q = second.makes.unconstrained w p.0 us p.2.0 g
        (subst (λ u. AllNamable u us) (sym first.makes.same_universe) n) in (
          q.0,
          λ k i e. p.1 k i e ∙ q.1 k i (first.makes.later.grows k i e),
          (
            q.2.0,
            sym (same_value st1 p.0 q.0 x q.1 x_in) ∙
                (ap (apply p.0) first.body_is ∙ opened_value p.0 first.variables vs a left p.2.1),
            ap (apply q.0) second.body_is ∙ opened_value q.0 second.variables us b right q.2.1,
          ),
        )

    module _ (met : BindingsAreMet) (sound : IsSound st0) where
      -- There is an assignment under which the two are as they stand in instances.
      common : (v u : Tree) → IsInstanceOf st0.universe ks a v → IsInstanceOf st0.universe ls b u →
          (s : Assign) × Satisfies free st2 s × (apply s x ≡ v) × (apply s y ≡ u)
      common v u i j =
          let o = met st0 sound in
          let h : Satisfies free st0 o.0 =
          record { assigns = o.1; bindings = o.2; regions = all_hold o.0 st0.constraints } in
          let r = both_open free o.0 i.values j.values h i.fit j.fit i.namable j.namable in
          (r.0, r.2.0, r.2.1 ∙ sym i.body_is, r.2.2 ∙ sym j.body_is)

      pub apart : NoEqualTerms st2 x y → AreApart st0.universe (bind ks a) (bind ls b)
      apart never v i j = let r = common v v i j in never free r.0 r.1 (r.2 ∙ sym r.3)

      pub apart_erased : NoUnifier st2 x y → AreApartErased st0.universe (bind ks a) (bind ls b)
      apart_erased never v u i j e = let r = common v u i j in never r.0 (solves_erased free st2 r.0 r.1)
          (ap erase r.2 ∙ (e ∙ sym (ap erase r.3)))

      pub covers : (st3 : Store) (t : Tree) → InContext st2 x → IsSound st3 → ResolvedResolves →
          t ≡ apply (resolved st3) x → ((s : Assign) → Satisfies free st2 s → apply s x ≡ apply s y →
          HasExtension st2 s (Satisfies free st3)) → Covers st0.universe (bind ks a) (bind ls b) st3 t
      covers st3 t x_in2 sound3 resolving t_is keeps v i j =
          let r = common v v i j in
          let k = keeps r.0 r.1 (r.2 ∙ sym r.3) in (
            k.0,
            k.2.assigns,
            k.2.bindings,
            ap (apply k.0) t_is ∙ ((resolving st3 x sound3).same_value free k.0 k.2 ∙
                (sym (same_value st2 r.0 k.0 x k.1 x_in2) ∙ r.2)),
          )

    -- An assignment of the record after the second is one of that before.
    assigns_first : (s : Assign) → IsAssignment st2 s → IsAssignment st1 s
    assigns_first s h k n m = let p = h k n (second.makes.later.grows k n m) in
        (p.0, p.1, p.2, subst (λ u. Leaves (IsNamable u) (s k n)) (second.makes.same_universes k n m) p.3)

    pub is_common : NewVariablesFit → (st3 : Store) (t : Tree) → IsSound st3 → ResolvedResolves →
        t ≡ apply (resolved st3) x → Exact st2 st3 x y → IsCommon st0.universe (bind ks a) (bind ls b) st3 t
    is_common fits st3 t sound3 resolving t_is exact s h =
        let e = exact.shrinks s h in
        let same : Unifies s t x = subst (λ z. Unifies s z x) (sym t_is) ((resolving st3 x sound3).same_erased s h) in
        let vs = map (apply s) first.variables in
        let us = map (apply s) second.variables in
        let f = fits st0 st1 st0.universe ks first.variables first.makes.are_new s (assigns_first s e.0.0) in
        let g = fits st1 st2 st1.universe ls second.variables second.makes.are_new s e.0.0 in
        let one : IsInstanceOf st0.universe ks a (apply s x) = record {
          values = vs;
          fit = f.0;
          namable = f.1;
          body_is = ap (apply s) first.body_is ∙ opened_value s first.variables vs a left refl;
        } in
        let other : IsInstanceOf st0.universe ls b (apply s y) = record {
          values = us;
          fit = g.0;
          namable = subst (λ u. AllNamable u us) first.makes.same_universe g.1;
          body_is = ap (apply s) second.body_is ∙ opened_value s second.variables us b right refl;
        } in
        ((apply s x, one, sym same), (apply s y, other, sym e.1 ∙ sym same))
