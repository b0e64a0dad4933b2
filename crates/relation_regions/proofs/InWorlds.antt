-- What is demanded of numbers holds in every world of their regions.
use Rattle.std.proofs.Common.{◌≡◌, ℕ, ◌<◌, List, length, get_or, sym, ◌∙◌, ap, subst, inl, inr, All, true}
use Rattle.std.specs.List.{Contains}
use Rattle.relation_terms.specs.Heads.{region_var}
use Rattle.relation_terms.specs.Trees.{Tree, Assign, apply, Leaves}
use Rattle.relation_semantics.specs.Relation.{Interpretation, Outlives, itself as same_region, through as by_way}
use Rattle.relation_semantics.specs.Stores.{Store, Constraint, outlives_constraint, equal_constraint, ConstraintHolds}
use Rattle.relation_semantics.specs.Stores.{IsNamable, universe_of}
use Rattle.relation_semantics.specs.ContextCalls.{IsNotVariable}
use Rattle.relation_regions.specs.declared.building.Pairs.{Pairs}
use Rattle.relation_regions.specs.declared.standing.Standing.{Standing}
use Rattle.relation_regions.specs.Demands.{IsDemanded, by_asked, by_known, from_static, by_universe, itself, through}
use Rattle.relation_regions.specs.Standings.{is_beyond, standing_of, IsBeyond}
use Rattle.relation_regions.proofs.Forcing.{beyond_in, beyond_node}
use Rattle.relation_regions.specs.Worlds.{static, IsWorld, CannotName}
use Rattle.relation_regions.specs.Reading.{standing_in, numbered, no_constraint, IsPair, IsProblem}
use Rattle.relation_regions.proofs.Forms.{own_value, beyond_unnamed, variable_made}
use Rattle.relation_regions.proofs.Numbers.{fact_asked, standings_each, standing_at, region_at, mentioned_at}

-- A fact is of no variables.
abbrev pub SpeaksOfGiven : Tree × Tree → Type 0
SpeaksOfGiven f = IsNotVariable region_var f.0 × IsNotVariable region_var f.1

-- What a constraint asks for holds where it does.
pub pair_holds : (w : Interpretation) (s : Assign) (q : Constraint) (x y : Tree) → ConstraintHolds w s q →
    IsPair q x y → Outlives w (apply s x) (apply s y)
pair_holds w s (outlives_constraint a b) x y h e =
    subst (λ u. Outlives w (apply s u) (apply s y)) (sym e.0)
    (subst (λ u. Outlives w (apply s a) (apply s u)) (sym e.1) h)
pair_holds w s (equal_constraint a b) x y h (inl e) =
    subst (λ u. Outlives w (apply s u) (apply s y)) (sym e.0)
    (subst (λ u. Outlives w (apply s a) (apply s u)) (sym e.1) h.0)
pair_holds w s (equal_constraint a b) x y h (inr e) =
    subst (λ u. Outlives w (apply s u) (apply s y)) (sym e.0)
    (subst (λ u. Outlives w (apply s b) (apply s u)) (sym e.1) h.1)

module _ {facts : List (Tree × Tree)} {st : Store} {trees : List Tree} {standings : List Standing} {asked : Pairs}
    {said : List ℕ} {known : Pairs} (problem : IsProblem facts st trees standings asked said known)
    (of_given : All SpeaksOfGiven facts) {w : Interpretation} {s : Assign} (world : IsWorld facts st w s)
    (C : ℕ → Type 0) (holds : (k : ℕ) → k < length asked.shorter.items → C k →
    ConstraintHolds w s (get_or st.constraints (get_or said k 0) no_constraint)) where
  abbrev T : ℕ → Tree
  T i = numbered trees i

  abbrev V : ℕ → Tree
  V i = apply s (T i)

  asked_holds : (k : ℕ) → k < length asked.shorter.items → C k →
      Outlives w (V (get_or asked.longer.items k 0)) (V (get_or asked.shorter.items k 0))
  asked_holds k lt chosen =
      let h = (problem.read).each k lt in
      let q = get_or st.constraints (get_or said k 0) no_constraint in
      let o = pair_holds w s q h.longer h.shorter (holds k lt chosen) (h.asks).1 in
      subst (λ u. Outlives w (apply s u) (V (get_or asked.shorter.items k 0))) (sym ((h.pair).longer_at).1)
      (subst (λ u. Outlives w (apply s h.longer) (apply s u)) (sym ((h.pair).shorter_at).1) o)

  known_holds : (k : ℕ) → k < length known.shorter.items →
      Outlives w (V (get_or known.longer.items k 0)) (V (get_or known.shorter.items k 0))
  known_holds k lt =
      let h = ((problem.stated).1).each k lt in
      let i = get_or known.longer.items k 0 in
      let j = get_or known.shorter.items k 0 in
      let x_is : T i ≡ h.longer = ((h.pair).longer_at).1 in
      let y_is : T j ≡ h.shorter = ((h.pair).shorter_at).1 in
      let has : Contains facts (h.longer, h.shorter) =
      fact_asked facts (get_or (problem.stated).0 k 0) h.longer h.shorter h.asks in
      let given : SpeaksOfGiven (h.longer, h.shorter) =
      subst SpeaksOfGiven has.2 (of_given has.0 (h.longer, h.shorter) has.1) in
      let x_in = region_at problem i ((h.pair).longer_at).0 in
      let y_in = region_at problem j ((h.pair).shorter_at).0 in
      let x_own : V i ≡ h.longer =
      own_value s (T i) x_in.0 (subst (IsNotVariable region_var) (sym x_is) given.0) ∙ x_is in
      let y_own : V j ≡ h.shorter =
      own_value s (T j) y_in.0 (subst (IsNotVariable region_var) (sym y_is) given.1) ∙ y_is in
      subst (λ u. Outlives w u (V j)) (sym x_own)
      (subst (λ u. Outlives w h.longer u) (sym y_own) (world.facts_hold h.longer h.shorter has))

  static_value : (a : ℕ) → a ≡ 0 → V a ≡ static
  static_value a e = ap V e ∙ ap (apply s) problem.static_first.1

  beyond_holds : (a p : ℕ) → IsBeyond standings a p → Outlives w (V a) (V p) → Outlives w (V a) static
  beyond_holds a p beyond o =
      let each = standings_each problem in
      let a_lt : a < length trees = subst (λ n. a < n) each (beyond_node standings a p beyond) in
      let p_lt : p < length trees = subst (λ n. p < n) each (beyond_in standings a p beyond) in
      let at_a = standing_at problem a a_lt in
      let at_p = standing_at problem p p_lt in
      let a_in = region_at problem a a_lt in
      let p_in = region_at problem p p_lt in
      let e : is_beyond (standing_in st (T a)) (standing_in st (T p)) ≡ true =
      sym (ap (λ v. is_beyond v (standing_in st (T p))) at_a) ∙
      (sym (ap (λ v. is_beyond (standing_of standings a) v) at_p) ∙ beyond) in
      let x = beyond_unnamed st (T a) (T p) a_in.0 e in
      let v_is : V a ≡ s region_var x.number = ap (apply s) x.is in
      let p_is : V p ≡ T p = own_value s (T p) p_in.0 (not_variable (T p) x.number x.cannot_name) in
      let o' = subst (λ u. Outlives w u (T p)) v_is (subst (λ u. Outlives w (V a) u) p_is o) in
      subst (λ u. Outlives w u static) (sym v_is)
      (world.uniform x.number (T p) (variable_made st (T a) x.number a_in x.is) x.cannot_name o')
    where
      not_variable : (t : Tree) (n : ℕ) → CannotName st n t → IsNotVariable region_var t
      not_variable t n f m e = f (subst (λ u. Leaves (IsNamable (universe_of st region_var n)) u) (sym e) tt)

  -- What is demanded by chosen constraints, which hold, holds.
  pub demanded_holds : (a b : ℕ) → IsDemanded standings asked known C a b → Outlives w (V a) (V b)
  demanded_holds a b (by_asked k lt chosen e f) =
      subst (λ u. Outlives w (V u) (V b)) e
      (subst (λ u. Outlives w (V (get_or asked.longer.items k 0)) (V u)) f (asked_holds k lt chosen))
  demanded_holds a b (by_known k lt e f) =
      subst (λ u. Outlives w (V u) (V b)) e
      (subst (λ u. Outlives w (V (get_or known.longer.items k 0)) (V u)) f (known_holds k lt))
  demanded_holds a b (from_static e lt) =
      let b_lt : b < length trees =
      subst (λ n. b < n) (standings_each problem) lt in
      subst (λ u. Outlives w u (V b)) (sym (static_value a e))
      (world.longest (T b) (mentioned_at problem b b_lt))
  demanded_holds a b (by_universe p e beyond h) =
      subst (λ u. Outlives w (V a) u) (sym (static_value b e)) (beyond_holds a p beyond (demanded_holds a p h))
  demanded_holds a b (itself e) = same_region (ap V e)
  demanded_holds a b (through {b = m} h k) = by_way (demanded_holds a m h) (demanded_holds m b k)
