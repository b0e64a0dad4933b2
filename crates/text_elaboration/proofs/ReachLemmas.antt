-- Traits that pulls answer are those that are reached.
use Rattle.std.proofs.Common.{◌≡◌, ◌∙◌, sym, ap, subst, refl, inl, inr, arith, ℕ, length, true, false, unwrap_or}
use Rattle.std.proofs.Common.{List, [], ◌∷◌, ◌++◌, append-nil, Some, None, Ok, Err, is_some}
use Rattle.std.proofs.lemmas.List.{append_assoc}
use Rattle.std.proofs.lemmas.Bool.{false≢true}
use Rattle.std.specs.List.{Contains, filter_map}
use Rattle.std.proofs.lemmas.List.Elements.{filter_map-append, Contains-push, Contains-push_cases}
use Rattle.relation_terms.specs.Meaning.{Meaning}
use Rattle.relation_terms.specs.declared.terms.ids.TraitId.{TraitId}
use Rattle.elaboration_worklist.specs.Pushes.{IsDistinct}
use Rattle.relation_statements.specs.Statements.{statements}
use Rattle.relation_statements.specs.Reach.{Reaching, ReachesAll, ByReach, GoesBy, numbers}
use Rattle.text_elaboration.specs.declared.pulls.Pulled.{Pulled}
use Rattle.text_elaboration.specs.declared.pulls.Pulled.TheVariants as pulled
use Rattle.text_elaboration.specs.Pulls.{is_last, trait_in, traits_answered, WentOn, AreReached}
use Rattle.text_elaboration.specs.Pulls.{ReachesOne}

-- What is said of one answer that is there, of another that it is.
pub is_said : {A : Type 0} (x y d : A) → Some x ≡ Some y → y ≡ x
is_said x y d e = sym (ap (λ o. unwrap_or o d) e)

-- Nothing is put behind a list where no end is.
pub no_end_more : {Key Id : Type 0} (ps : List (Pulled Key Id)) (p : Pulled Key Id) → (Contains ps pulled.End → ⊥) →
    is_last true p ≡ false → Contains (ps ++ p ∷ []) pulled.End → ⊥
no_end_more ps p none last h = elim (Contains-push_cases ps p pulled.End h) [
  | inl there ↦ none there
  | inr is ↦ false≢true (sym last ∙ ap (is_last true) is)
]

-- Pulls up to a last one went on to an end or to a limit.
pub went_to_last : {Key Id : Type 0} (n : ℕ) (ps : List (Pulled Key Id)) (p : Pulled Key Id) → is_last true p ≡ true →
    WentOn n (ps ++ p ∷ [])
went_to_last n ps pulled.End last = inl (Contains-push ps pulled.End)
went_to_last n ps pulled.Limit last = inr (inl (Contains-push ps pulled.Limit))
went_to_last n ps (pulled.Clause k) last = absurd (false≢true last)
went_to_last n ps (pulled.Bound b) last = absurd (false≢true last)
went_to_last n ps (pulled.Trait d) last = absurd (false≢true last)

module _ {I Key Id Name : Type 0} (meaning : I → Meaning Key Id Name) (m : Meaning Key Id Name) (d : ℕ) where
  -- What is still to come, behind what was answered, is reached; and no end was answered.
  pub record StillReaches (ps : List (Pulled Key Id)) (s : Reaching I) : Type 0 where
    pub runs : (ds : List (TraitId Id)) (t : Reaching I) → GoesBy meaning s ds t →
        ReachesAll (statements m) d (numbers m (filter_map trait_in ps ++ ds)) t
    pub no_end : Contains ps pulled.End → ⊥

  pub so_far : (ps : List (Pulled Key Id)) (s : Reaching I) → StillReaches ps s →
      ReachesAll (statements m) d (traits_answered m ps) s
  so_far ps s h = subst (λ z. ReachesAll (statements m) d (numbers m z) s) (append-nil (filter_map trait_in ps))
      (h.runs [] s refl)

  one_trait : (ps : List (Pulled Key Id)) (x : TraitId Id) (ds : List (TraitId Id)) →
      filter_map trait_in (ps ++ pulled.Trait x ∷ []) ++ ds ≡ filter_map trait_in ps ++ x ∷ ds
  one_trait ps x ds =
      ap (λ z. z ++ ds) (filter_map-append trait_in ps (pulled.Trait x ∷ []))
      ∙ append_assoc (filter_map trait_in ps) (x ∷ []) ds

  pub reaches_more : (ps : List (Pulled Key Id)) (p : Pulled Key Id) (s t : Reaching I) → StillReaches ps s →
      ReachesOne meaning s p t → is_last true p ≡ false → StillReaches (ps ++ p ∷ []) t
  reaches_more ps p s t h (None, go, told) last =
      absurd (false≢true (sym last ∙ ap (is_last true) (is_said pulled.End p pulled.End told)))
  reaches_more ps p s t h (Some (Err e), go, told) last = absurd (false≢true (ap is_some told))
  reaches_more ps p s t h (Some (Ok x), go, told) last =
      let is : p ≡ pulled.Trait x = is_said (pulled.Trait x) p pulled.End told in
      record {
        runs = λ ds u g. subst (λ z. ReachesAll (statements m) d (numbers m z) u)
            (sym (ap (λ q. filter_map trait_in (ps ++ q ∷ []) ++ ds) is ∙ one_trait ps x ds))
            (h.runs (x ∷ ds) u (t, go, g));
        no_end = no_end_more ps p h.no_end last;
      }

  -- Up to a last one, or as far as pulls went.
  pub reached_so_far : (most : ℕ) (ps : List (Pulled Key Id)) (s : Reaching I) → StillReaches ps s → WentOn most ps →
      AreReached m d most ps
  reached_so_far most ps s h went =
      let a = so_far ps s h in
      record { sound = a.sound; once = a.once; all = λ there. absurd (h.no_end there); went_on = went }

  pub reached_at_last : (most : ℕ) (ps : List (Pulled Key Id)) (p : Pulled Key Id) (s t : Reaching I) →
      StillReaches ps s → ReachesOne meaning s p t → is_last true p ≡ true → AreReached m d most (ps ++ p ∷ [])
  reached_at_last most ps p s t h (Some (Err e), go, told) last = absurd (false≢true (ap is_some told))
  reached_at_last most ps p s t h (Some (Ok x), go, told) last =
      absurd (false≢true (sym (ap (is_last true) (is_said (pulled.Trait x) p pulled.End told)) ∙ last))
  reached_at_last most ps p s t h (None, go, told) last =
      let is : p ≡ pulled.End = is_said pulled.End p pulled.End told in
      let a = so_far ps s h in
      let none : traits_answered m (ps ++ p ∷ []) ≡ traits_answered m ps =
      ap (numbers m) (filter_map-append trait_in ps (p ∷ [])
      ∙ ap (λ q. filter_map trait_in ps ++ filter_map trait_in (q ∷ [])) is ∙ append-nil (filter_map trait_in ps)) in
      record {
        sound = λ e k. a.sound e (subst (λ z. Contains z e) none k);
        once = subst IsDistinct (sym none) a.once;
        all = λ there e k. subst (λ z. Contains z e) (sym none) (a.all go.1 e k);
        went_on = inl (subst (λ q. Contains (ps ++ q ∷ []) pulled.End) (sym is) (Contains-push ps pulled.End));
      }

none_there : {Key Id : Type 0} (ps : List (Pulled Key Id)) → ps ≡ [] → Contains ps pulled.End → ⊥
none_there ps is h = let few = h.1 in let short = ap length is in omega (arith, few, short)

-- What is gone through from a trait on.
pub reaches_first : {I Key Id Name : Type 0} (meaning : I → Meaning Key Id Name) (cx : I) (d : ℕ)
    (ps : List (Pulled Key Id)) (s : Reaching I) → ps ≡ [] → s.cx ≡ cx → ByReach meaning d s →
    StillReaches meaning (meaning cx) d ps s
reaches_first meaning cx d ps s none same by = record {
  runs = λ ds t g.
      subst (λ z. ReachesAll (statements (meaning cx)) d (numbers (meaning cx) (filter_map trait_in z ++ ds)) t)
      (sym none) (subst (λ z. ReachesAll (statements (meaning z)) d (numbers (meaning z) ds) t) same (by.runs ds t g));
  no_end = λ h. none_there ps none h;
}
