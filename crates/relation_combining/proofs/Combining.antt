-- What comes of two types and two constants before their parts are related, as a step of a relation over a context.
use Rattle.std.proofs.Common.{◌≡◌, ◌≢◌, ◌∙◌, ℕ, IsTrue, refl, sym, ap, subst, subst₂, inl, inr, None, Result, Ok}
use Rattle.term_enums.specs.declared.Variance.TheVariants.{Invariant, Bivariant}
use Rattle.relation_terms.specs.declared.terms.keys.TyKey.{TyKey}
use Rattle.relation_terms.specs.declared.terms.keys.ConstKey.{ConstKey}
use Rattle.relation_terms.specs.Heads.{type_sort, const_sort, const_var, variable}
use Rattle.relation_terms.specs.Trees.{Tree, leaf, IsTerm, apply, known}
use Rattle.relation_terms.specs.Meaning.{Meaning, Extends}
use Rattle.relation_folds.specs.declared.error.TypeError.TheVariants.{Sorts, CyclicConst}
use Rattle.relation_folds.specs.declared.error.RelateFault.{RelateFault}
use Rattle.relation_folds.specs.declared.error.RelateFault.TheVariants.{Unrelated}
use Rattle.relation_semantics.specs.declared.relate.Step.{Step}
use Rattle.relation_semantics.specs.declared.relate.Step.TheVariants.{Done, Parts}
use Rattle.relation_combining.specs.Combining.{MeetsTys, equated, left_bound, right_bound, left_unlike, right_unlike, ty_variable, by_parts, seen}
use Rattle.relation_semantics.specs.AskedAlone.{IsNoTyVar}
use Rattle.relation_combining.specs.Combining.{ReadsShallow, MeetsConsts, roots_equated, left_root_bound, left_root_refused, right_root_bound, right_root_refused, formed_by_parts}
use Rattle.relation_semantics.specs.Contexts.{Context}
use Rattle.relation_semantics.specs.ContextCalls.{BindingsAreWellBound, Reads}
use Rattle.relation_goals.specs.Emitting.{IsOver, WithContext}
use Rattle.relation_steps.specs.Keyed.{SteppedTys, SteppedConsts}
use Rattle.relation_steps.specs.Terms.{AskedTerms}
use Rattle.relation_semantics.specs.Errors.{itself, HaveNoError, IsDeferred}
use Rattle.relation_semantics.specs.Generalising.{NumbersNameNothing}
use Rattle.relation_semantics.specs.Lawful.{State, Asked, Stepped}
use Rattle.relation_semantics.specs.Parts.{IsRigid, IsFormedConst}
use Rattle.relation_semantics.specs.Resolving.{IsShallowConst}
use Rattle.relation_combining.specs.Solving.{solver_manner}
use Rattle.relation_semantics.specs.Steps.{IsLater}
use Rattle.relation_semantics.specs.Stores.{Store, IsSound, IsMade, unbound, entry_of, resolved}
use Rattle.relation_combining.proofs.Binding.{no_region}
use Rattle.relation_semantics.proofs.Going.{goes_nowhere, later_itself}
use Rattle.relation_combining.proofs.GeneralisingErrors.{const_cycle_error}
use Rattle.relation_combining.proofs.NumberVars.{type_formed}
use Rattle.relation_semantics.proofs.Numbers.{number_no_region, number_goes}
use Rattle.relation_semantics.proofs.OneUniverse.{keeps_itself}
use Rattle.relation_semantics.proofs.Full.{full_itself}
use Rattle.relation_combining.proofs.OverContext.{carried, over_it, standing, all_taken, read_by_lists, one_step, roots_step, number_step, number_step_back, left_apart, right_apart, parts_step}
use Rattle.relation_semantics.proofs.Roots.{roots_goes, exact_itself}
use Rattle.relation_combining.proofs.Shallowly.{shallow_free_const, variable_made}
use Rattle.relation_combining.proofs.SolvingVariables.{const_left_step, const_right_step, left_refused, right_refused, const_comes_to_none}
use Rattle.relation_semantics.proofs.Standing.{term_context, term_within}
use Rattle.relation_semantics.proofs.AgreeingBefore.{same_agreed}
use Rattle.relation_semantics.proofs.BuildingSteps.{built_itself}

module _ {Key Id Name : Type 0} where
  -- Of two types what is recorded afterwards is later.
  pub combined_later : (m : Meaning Key Id Name) (was now : Store) (a b : TyKey Key)
      (result : Result (Step (TyKey Key)) (RelateFault Key Id Name)) → IsSound was → MeetsTys m was now a b result →
      IsLater was now
  combined_later m was now a b result sound (equated k i j o p q joins is) =
      (roots_goes was now k (number_no_region k o) i j sound joins.same joins.equates 0).later
  combined_later m was now a b result sound (left_bound k i p binds is) = (number_goes was now k i (m.ty b) binds sound 0).later
  combined_later m was now a b result sound (right_bound k i p binds is) = (number_goes was now k i (m.ty a) binds sound 0).later
  combined_later m was now a b result sound (left_unlike u stays is) = subst (IsLater was) (sym stays) (later_itself was)
  combined_later m was now a b result sound (right_unlike u stays is) = subst (IsLater was) (sym stays) (later_itself was)
  combined_later m was now a b result sound (ty_variable u stays is) = subst (IsLater was) (sym stays) (later_itself was)
  combined_later m was now a b result sound (by_parts o p stays is) = subst (IsLater was) (sym stays) (later_itself was)

  module _ (r : State Key Id Name) (decides : r.ambient ≢ Bivariant) (m n : Meaning Key Id Name) (was now : Store)
      (L K : Type 0) (l : L → K) (sound : IsSound was) where
    -- Of two types of which none is a type variable a step was taken.
    pub combined_tys : n ≡ m → (a b : TyKey Key) (result : Result (Step (TyKey Key)) (RelateFault Key Id Name)) →
        Asked solver_manner (standing r m was L) r.ambient (m.ty a) (m.ty b) → IsTerm type_sort (m.ty a) →
        IsTerm type_sort (m.ty b) → IsNoTyVar (m.ty a) → IsNoTyVar (m.ty b) → HaveNoError (m.ty a) (m.ty b) →
        (IsDeferred r.kept.settings (m.ty a) (m.ty b) → ⊥) → MeetsTys m was now a b result →
        Stepped solver_manner IsRigid (standing r m was L) (standing r n now K) (m.ty a) (m.ty b) n.ty result
    combined_tys same a b result asked s t o p clean left (equated k i j number x y joins is) =
        subst (Stepped solver_manner IsRigid (standing r m was L) (standing r n now K) (m.ty a) (m.ty b) n.ty) (sym is)
        (roots_step r IsRigid m n was now L K k (number_no_region k number) i j (m.ty a) (m.ty b) n.ty a same
        sound l joins.same joins.equates x y (ap (λ z. z.ty a) same))
    combined_tys same a b result asked s t o p clean left (left_bound k i x binds is) =
        subst (Stepped solver_manner IsRigid (standing r m was L) (standing r n now K) (m.ty a) (m.ty b) n.ty) (sym is)
        (number_step r IsRigid m n was now L K k i (m.ty a) (m.ty b) n.ty b same sound l binds x (ap (λ z. z.ty b) same)
        asked.right_known)
    combined_tys same a b result asked s t o p clean left (right_bound k i x binds is) =
        subst (Stepped solver_manner IsRigid (standing r m was L) (standing r n now K) (m.ty a) (m.ty b) n.ty) (sym is)
        (number_step_back r IsRigid m n was now L K k i (m.ty a) (m.ty b) n.ty a same sound l binds x
        (ap (λ z. z.ty a) same) asked.left_known)
    combined_tys same a b result asked s t o p clean left (left_unlike u stays is) =
        subst (Stepped solver_manner IsRigid (standing r m was L) (standing r n now K) (m.ty a) (m.ty b) n.ty) (sym is)
        (left_apart r IsRigid m n was now L K decides a b n.ty (Unrelated (Sorts (record { expected = a; found = b })))
        same stays l refl u.kind u.of_numbers u.number
        (variable_made was u.kind u.number (m.ty a) u.is asked.left_in) asked.left_known asked.right_known left u.is t
        p (term_context was (m.ty b) asked.right_in) u.unlike clean.1)
    combined_tys same a b result asked s t o p clean left (right_unlike u stays is) =
        subst (Stepped solver_manner IsRigid (standing r m was L) (standing r n now K) (m.ty a) (m.ty b) n.ty) (sym is)
        (right_apart r IsRigid m n was now L K decides a b n.ty (Unrelated (Sorts (record { expected = a; found = b })))
        same stays l refl u.kind u.of_numbers u.number
        (variable_made was u.kind u.number (m.ty b) u.is asked.right_in) asked.left_known asked.right_known left u.is s
        o (term_context was (m.ty a) asked.left_in) u.unlike clean.0)
    combined_tys same a b result asked s t o p clean left (ty_variable (inl u) stays is) = absurd (o u.0 u.1)
    combined_tys same a b result asked s t o p clean left (ty_variable (inr u) stays is) = absurd (p u.0 u.1)
    combined_tys same a b result asked s t o p clean left (by_parts x y stays is) =
        subst (Stepped solver_manner IsRigid (standing r m was L) (standing r n now K) (m.ty a) (m.ty b) n.ty) (sym is)
        (subst₂ (λ z st. Stepped solver_manner IsRigid (standing r m was L) (standing r z st K) (m.ty a) (m.ty b) z.ty
        (Ok (Parts a b))) (sym same) (sym stays)
        (parts_step r m was L K l IsRigid (m.ty a) (m.ty b) m.ty a b sound (itself refl) (itself refl) (λ j n e. e) asked
        (type_formed (m.ty a) s (term_within was (m.ty a) asked.left_in) x.0 x.1.0 x.1.1)
        (type_formed (m.ty b) t (term_within was (m.ty b) asked.right_in) y.0 y.1.0 y.1.1) left))

    module _ (grown : Extends m n) (numbers : NumbersNameNothing was) (all : BindingsAreWellBound now) (a b : ConstKey Key)
        (asked : Asked solver_manner (standing r m was L) r.ambient (m.const_ a) (m.const_ b))
        (s : IsTerm const_sort (m.const_ a)) (t : IsTerm const_sort (m.const_ b))
        (a_shallow : IsShallowConst was (m.const_ a)) (b_shallow : IsShallowConst was (m.const_ b))
        (left : IsFormedConst (m.const_ a) → IsFormedConst (m.const_ b) →
        IsDeferred r.kept.settings (m.const_ a) (m.const_ b) → ⊥) where
      abbrev Steps : Tree → Tree → Result (Step (ConstKey Key)) (RelateFault Key Id Name) → Type 0
      Steps x y result =
          Stepped solver_manner IsFormedConst (standing r m was L) (standing r n now K) x y n.const_ result

      a_stays : n.const_ a ≡ m.const_ a
      a_stays = grown.const_ a asked.left_known

      b_stays : n.const_ b ≡ m.const_ b
      b_stays = grown.const_ b asked.right_known

      a_free : (i : ℕ) → m.const_ a ≡ leaf (variable const_var i) →
          IsMade was const_var i × (entry_of was const_var i ≡ unbound)
      a_free i p = (variable_made was const_var i (m.const_ a) p asked.left_in, shallow_free_const was i (m.const_ a) p a_shallow)

      b_free : (i : ℕ) → m.const_ b ≡ leaf (variable const_var i) →
          IsMade was const_var i × (entry_of was const_var i ≡ unbound)
      b_free i p = (variable_made was const_var i (m.const_ b) p asked.right_in, shallow_free_const was i (m.const_ b) p b_shallow)

      a_none : IsFormedConst (m.const_ a) → (i : ℕ) → apply (resolved was) (m.const_ a) ≢ leaf (variable const_var i)
      a_none f i = const_comes_to_none was (m.const_ a) i a_shallow (λ k e. subst IsFormedConst e f)

      b_none : IsFormedConst (m.const_ b) → (i : ℕ) → apply (resolved was) (m.const_ b) ≢ leaf (variable const_var i)
      b_none f i = const_comes_to_none was (m.const_ b) i b_shallow (λ k e. subst IsFormedConst e f)

      -- Of two constants a step was taken.
      pub combined_shallow : (result : Result (Step (ConstKey Key)) (RelateFault Key Id Name)) →
          MeetsConsts m n was now r.kept.settings.structurally_relate_aliases a b result →
          Steps (m.const_ a) (m.const_ b) result
      combined_shallow result (roots_equated i j x y joins same is) = subst (Steps (m.const_ a) (m.const_ b)) (sym is)
          (roots_step r IsFormedConst m n was now L K const_var (no_region const_var tt) i j (m.const_ a) (m.const_ b)
          n.const_ a same sound l joins.same joins.equates x y a_stays)
      combined_shallow result (left_root_bound i x p f binds is) =
          subst₂ (λ z. Steps z (m.const_ b)) (sym p) (sym is)
          (const_left_step r L K l const_var tt (seen m was) (seen n now) grown sound numbers all i (m.const_ b) (n.const_ x)
          asked.right_taken.1 asked.right_in asked.right_known t Invariant (λ e. refl) binds.0 binds.1 IsFormedConst a b x b b n.const_
          refl decides (a_stays ∙ p) b_stays refl b_stays (inr b_stays))
      combined_shallow result (left_root_refused i f p o binds is) =
          subst₂ (λ z. Steps z (m.const_ b)) (sym p) (sym is)
          (left_refused r L K l IsFormedConst (seen m was) (seen n now) grown decides sound const_var tt i (m.const_ b)
          (a_free i p) (b_none o i) (λ m. m.const_) CyclicConst Invariant n.const_
          (λ k z h x. const_cycle_error n r.kept.settings.structurally_relate_aliases was now i (m.const_ b) sound k z h (b_none o i) x) f binds)
      combined_shallow result (right_root_bound i x p f binds is) =
          subst₂ (λ z. Steps (m.const_ a) z) (sym p) (sym is)
          (const_right_step r L K l const_var tt (seen m was) (seen n now) grown sound numbers all i (m.const_ a) (n.const_ x)
          asked.left_taken.1 asked.left_in asked.left_known s Invariant (λ e. refl) binds.0 binds.1 IsFormedConst a b a x a n.const_
          refl decides a_stays (b_stays ∙ p) a_stays refl (inr a_stays))
      combined_shallow result (right_root_refused i f p o binds is) =
          subst₂ (λ z. Steps (m.const_ a) z) (sym p) (sym is)
          (right_refused r L K l IsFormedConst (seen m was) (seen n now) grown decides sound const_var tt i (m.const_ a)
          (b_free i p) (a_none o i) (λ m. m.const_) CyclicConst Invariant n.const_
          (λ k z h x. const_cycle_error n r.kept.settings.structurally_relate_aliases was now i (m.const_ a) sound k z h (a_none o i) x) f binds)
      combined_shallow result (formed_by_parts f h same stays is) = subst (Steps (m.const_ a) (m.const_ b)) (sym is)
          (subst₂ (λ z st. Stepped solver_manner IsFormedConst (standing r m was L) (standing r z st K) (m.const_ a)
          (m.const_ b) z.const_ (Ok (Parts a b))) (sym same) (sym stays)
          (parts_step r m was L K l IsFormedConst (m.const_ a) (m.const_ b) m.const_ a b sound (itself refl) (itself refl)
          (λ j n e. e) asked f h (left f h)))

  -- What two constants are read as is asked as they are.
  pub read_asked : (r : State Key Id Name) → BindingsAreWellBound r.store → (a b x y : ConstKey Key) →
      AskedTerms solver_manner None (λ m. m.const_) r a b → ReadsShallow r.meaning r.store a x →
      ReadsShallow r.meaning r.store b y →
      AskedTerms solver_manner None (λ m. m.const_) r x y
  read_asked r by_lists a b x y asked f h = record {
    left_known = (f.reads).sure;
    right_known = (h.reads).sure;
    left_in = ((f.reads).resolves).is_in asked.left_in;
    right_in = ((h.reads).resolves).is_in asked.right_in;
    left_taken = all_taken r.ambient ((r.meaning).const_ x)
        (read_by_lists r.store by_lists ((r.meaning).const_ a) ((r.meaning).const_ x) (f.reads).reads asked.left_taken.1);
    right_taken = all_taken r.ambient ((r.meaning).const_ y)
        (read_by_lists r.store by_lists ((r.meaning).const_ b) ((r.meaning).const_ y) (h.reads).reads asked.right_taken.1);
  }

  -- What a constant is read as in the context, it is in the relation.
  pub read_there : {r : State Key Id Name} {c : Context Key Id Name} → IsOver r c → (a x : ConstKey Key) →
      Reads c ((c.meaning).const_ a) ((c.meaning).const_ x) → IsShallowConst c.store ((c.meaning).const_ x) →
      ReadsShallow r.meaning r.store a x
  read_there o a x f h = subst₂ (λ m st. ReadsShallow m st a x) (sym o.meaning) (sym o.store) (record {
    reads = record { sure = f.sure; reads = f.reads; resolves = f.resolves };
    shallow = h;
  })

  -- Of one and the same constant it is the answer.
  pub one_const_step : (r : State Key Id Name) (a b : ConstKey Key) → IsTrue (known ((r.meaning).const_ a)) →
      (r.meaning).const_ a ≡ (r.meaning).const_ b → SteppedConsts solver_manner r r a b (Ok (Done a))
  one_const_step r a b sure e = one_step r IsFormedConst r.meaning r.meaning r.store r.store r.lawful r.lawful
      ((r.meaning).const_ a) ((r.meaning).const_ b) (r.meaning).const_ a refl (goes_nowhere _ r.store) (λ l. l)
      (λ w s sat. ap (apply s) e) (λ w s sat h. sat)
      (λ h. (h, exact_itself r.store ((r.meaning).const_ a) ((r.meaning).const_ b) e)) (keeps_itself r.store)
      (full_itself r.store) (built_itself r.store ((r.meaning).const_ a) ((r.meaning).const_ b)) (inl refl) sure
      (λ set c st g l. same_agreed set c st r.ambient ((r.meaning).const_ a) ((r.meaning).const_ b) e)

-- The same over a relation that has recorded what a context has, where the context after it took its place.
module _ {Key Id Name : Type 0} (r : State Key Id Name) (c d : Context Key Id Name) (o : IsOver r c)
    (decides : r.ambient ≢ Bivariant) (sound : IsSound c.store) where
  -- What is recorded after the step is later.
  module _ (grown : Extends c.meaning d.meaning) (numbers : NumbersNameNothing c.store) (all : BindingsAreWellBound d.store)
      (a b : ConstKey Key) (result : Result (Step (ConstKey Key)) (RelateFault Key Id Name))
      (asked : AskedTerms solver_manner None (λ m. m.const_) r a b)
      (f : (k : ConstKey Key) → IsTrue (known ((c.meaning).const_ k)) → IsTerm const_sort ((c.meaning).const_ k))
      (a_shallow : IsShallowConst c.store ((c.meaning).const_ a)) (b_shallow : IsShallowConst c.store ((c.meaning).const_ b))
      (left : IsFormedConst ((c.meaning).const_ a) → IsFormedConst ((c.meaning).const_ b) →
      IsDeferred r.kept.settings ((c.meaning).const_ a) ((c.meaning).const_ b) → ⊥)
      (meets : MeetsConsts c.meaning d.meaning c.store d.store r.kept.settings.structurally_relate_aliases a b result) where
    asked_there : AskedTerms solver_manner None (λ m. m.const_) (standing r c.meaning c.store r.lawful) a b
    asked_there = over_it o (λ z. AskedTerms solver_manner None (λ m. m.const_) z a b) asked

    pub consts_later : IsLater c.store d.store
    consts_later = (((combined_shallow r decides c.meaning d.meaning c.store d.store r.lawful r.lawful (λ l. l) sound grown
        numbers all a b asked_there (f a asked_there.left_known) (f b asked_there.right_known) a_shallow b_shallow left result
        meets).passes).goes).later

    pub consts_stepped : (q : State Key Id Name) → WithContext r d q → SteppedConsts solver_manner r q a b result
    consts_stepped q w = carried o w (λ z u. SteppedConsts solver_manner z u a b result)
        (combined_shallow r decides c.meaning d.meaning c.store d.store r.lawful q.lawful w.lawful sound grown numbers all a b
        asked_there (f a asked_there.left_known) (f b asked_there.right_known) a_shallow b_shallow left result meets)

  pub types_stepped : (q : State Key Id Name) → WithContext r d q → d.meaning ≡ c.meaning → (a b : TyKey Key)
      (result : Result (Step (TyKey Key)) (RelateFault Key Id Name)) → AskedTerms solver_manner None (λ m. m.ty) r a b →
      (IsTrue (known ((c.meaning).ty a)) → IsTerm type_sort ((c.meaning).ty a)) →
      (IsTrue (known ((c.meaning).ty b)) → IsTerm type_sort ((c.meaning).ty b)) → IsNoTyVar ((r.meaning).ty a) →
      IsNoTyVar ((r.meaning).ty b) → HaveNoError ((r.meaning).ty a) ((r.meaning).ty b) →
      (IsDeferred r.kept.settings ((r.meaning).ty a) ((r.meaning).ty b) → ⊥) →
      MeetsTys c.meaning c.store d.store a b result → SteppedTys solver_manner r q a b result
  types_stepped q w same a b result asked f h x y clean left meets =
      let k = over_it o (λ z. AskedTerms solver_manner None (λ m. m.ty) z a b) asked in
      carried o w (λ z u. SteppedTys solver_manner z u a b result)
      (combined_tys r decides c.meaning d.meaning c.store d.store r.lawful q.lawful w.lawful sound same a b result k
      (f k.left_known) (h k.right_known) (subst (λ m. IsNoTyVar (m.ty a)) o.meaning x)
      (subst (λ m. IsNoTyVar (m.ty b)) o.meaning y) (subst (λ m. HaveNoError (m.ty a) (m.ty b)) o.meaning clean)
      (subst (λ m. IsDeferred r.kept.settings (m.ty a) (m.ty b) → ⊥) o.meaning left) meets)

module _ {Key Id Name : Type 0} (r q : State Key Id Name) (c d : Context Key Id Name) (o : IsOver r c)
    (w : WithContext r d q) where
  pub types_met : (a b : TyKey Key) (result : Result (Step (TyKey Key)) (RelateFault Key Id Name)) →
      MeetsTys c.meaning c.store d.store a b result → MeetsTys r.meaning r.store q.store a b result
  types_met a b result h = carried o w (λ z u. MeetsTys z.meaning z.store u.store a b result) h

  pub consts_met : (a b : ConstKey Key) (result : Result (Step (ConstKey Key)) (RelateFault Key Id Name)) →
      MeetsConsts c.meaning d.meaning c.store d.store r.kept.settings.structurally_relate_aliases a b result →
      MeetsConsts r.meaning q.meaning r.store q.store r.kept.settings.structurally_relate_aliases a b result
  consts_met a b result h = carried o w
      (λ z u. MeetsConsts z.meaning u.meaning z.store u.store r.kept.settings.structurally_relate_aliases a b result) h
