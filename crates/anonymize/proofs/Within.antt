-- Whether the variables that are used of a binder stand at places of its list.
use Rattle.std.proofs.Common.{◌≡◌, ◌↔◌, ◌∙◌, ◌<◌, ℕ, suc, refl, sym, ap, subst, Bool, true, false, cond, nat_eq, IsTrue}
use Rattle.std.proofs.Common.{List, [], ◌∷◌, length, Option, Some, None, option_map}
use Rattle.std.proofs.lemmas.List.{length-map}
use Rattle.std.proofs.lemmas.List.Elements.{All-nil, All-cons, All-head, All-tail, All-append, All-push}
use Rattle.std.specs.List.{All}
use Rattle.relation_terms.specs.Heads.{Kind, type_kind, region_kind, const_kind, BoundKind, bound_kind}
use Rattle.relation_terms.specs.Heads.{bound}
use Rattle.relation_terms.specs.Trees.{Tree, leaf, node, bind, nil, cons}
use Rattle.relation_terms.specs.Meaning.{Meaning, under, bound_kinds}
use Rattle.relation_terms.specs.Orders.{Order, in_turn, first_last, order_of}
use Rattle.relation_terms.specs.Owned.{AreWithin, BindsWithin}
use Rattle.relation_terms.specs.declared.terms.binder.BoundVariableKind.{BoundVariableKind}
use Rattle.anonymize.specs.Anonymous.{var_of, same_var, place_in, ordered, uses, one_more, with_vars}
use Rattle.anonymize.specs.Anonymous.{used_vars, StandsBelow}
use Rattle.anonymize.specs.declared.used.UsedVar.{UsedVar}
use Rattle.anonymize.proofs.UsedVars.{same_is}
use Rattle.relation_folds.proofs.Lists.{All_front, All_back}

module _ (P : UsedVar → Type 0) where
  -- What holds of a list's variables and of further ones holds of the list with these added, and the other way round.
  more_all : (us : List UsedVar) (u : UsedVar) (o : Option ℕ) → All P us → P u → All P (one_more us u o)
  more_all us u None a p = All-push P us u a p
  more_all us u (Some i) a p = a

  with_all : (us vs : List UsedVar) → All P us → All P vs → All P (with_vars us vs)
  with_all us [] a b = a
  with_all us (v ∷ vs) a b =
      with_all (one_more us v (place_in us v)) vs (more_all us v (place_in us v) a (All-head P v vs b))
      (All-tail P v vs b)

  more_old : (us : List UsedVar) (u : UsedVar) (o : Option ℕ) → All P (one_more us u o) → All P us
  more_old us u None a = All_front P us (u ∷ []) a
  more_old us u (Some i) a = a

  with_old : (us vs : List UsedVar) → All P (with_vars us vs) → All P us
  with_old us [] a = a
  with_old us (v ∷ vs) a = more_old us v (place_in us v) (with_old (one_more us v (place_in us v)) vs a)

  later : (us : List UsedVar) (v : UsedVar) (i : ℕ) (o : Option ℕ) →
      ((j : ℕ) → place_in us v ≡ Some j → P v) → place_in us v ≡ o → option_map suc o ≡ Some i → P v
  later us v i (Some j) f q e = f j q
  later us v i None f q e = absurd (cc)

  here : (u v : UsedVar) (us : List UsedVar) (i : ℕ) (b : Bool) → P u → ((j : ℕ) → place_in us v ≡ Some j → P v) →
      same_var u v ≡ b → cond b (Some 0) (option_map suc (place_in us v)) ≡ Some i → P v
  here u v us i true p f s e = subst P (same_is u v s) p
  here u v us i false p f s e = later us v i (place_in us v) f refl e

  found : (us : List UsedVar) (v : UsedVar) (i : ℕ) → place_in us v ≡ Some i → All P us → P v
  found [] v i e a = absurd (cc)
  found (u ∷ us) v i e a =
      here u v us i (same_var u v) (All-head P u us a) (λ j q. found us v j q (All-tail P u us a)) refl e

  more_new : (us : List UsedVar) (u : UsedVar) (o : Option ℕ) → place_in us u ≡ o → All P (one_more us u o) → P u
  more_new us u None e a = All-head P u [] (All_back P us (u ∷ []) a)
  more_new us u (Some i) e a = found us u i e a

  with_new : (us vs : List UsedVar) → All P (with_vars us vs) → All P vs
  with_new us [] a = All-nil P
  with_new us (v ∷ vs) a =
      let more = one_more us v (place_in us v) in
      All-cons P v vs (more_new us v (place_in us v) refl (with_old more vs a)) (with_new more vs a)

module _ (n : ℕ) where
  kind_below : (k : Kind) (i : ℕ) → i < n → StandsBelow n (var_of k i)
  kind_below type_kind i h = h
  kind_below region_kind i h = h
  kind_below const_kind i h = h

  below_kind : (k : Kind) (i : ℕ) → StandsBelow n (var_of k i) → i < n
  below_kind type_kind i h = h
  below_kind region_kind i h = h
  below_kind const_kind i h = h

  leaf_below : (k : Kind) (i : ℕ) (b : Bool) → cond b (i < n) (Unit {0}) →
      All (StandsBelow n) (cond b (var_of k i ∷ []) [])
  leaf_below k i true h = All-cons (StandsBelow n) (var_of k i) [] (kind_below k i h) (All-nil (StandsBelow n))
  leaf_below k i false h = All-nil (StandsBelow n)

  below_leaf : (k : Kind) (i : ℕ) (b : Bool) → All (StandsBelow n) (cond b (var_of k i ∷ []) []) →
      cond b (i < n) (Unit {0})
  below_leaf k i true a = below_kind k i (All-head (StandsBelow n) (var_of k i) [] a)
  below_leaf k i false a = tt

  both_ordered : (o : Order) (us vs : List UsedVar) → All (StandsBelow n) us → All (StandsBelow n) vs →
      All (StandsBelow n) (ordered o us vs)
  both_ordered in_turn us vs a b = All-append (StandsBelow n) us vs a b
  both_ordered first_last us vs a b = All-append (StandsBelow n) vs us b a

  first_ordered : (o : Order) (us vs : List UsedVar) → All (StandsBelow n) (ordered o us vs) → All (StandsBelow n) us
  first_ordered in_turn us vs a = All_front (StandsBelow n) us vs a
  first_ordered first_last us vs a = All_back (StandsBelow n) vs us a

  second_ordered : (o : Order) (us vs : List UsedVar) → All (StandsBelow n) (ordered o us vs) → All (StandsBelow n) vs
  second_ordered in_turn us vs a = All_back (StandsBelow n) us vs a
  second_ordered first_last us vs a = All_front (StandsBelow n) vs us a

  -- What stands within a number uses variables below it, and the other way round.
  uses_below : (d : ℕ) (t : Tree) → AreWithin n d t → All (StandsBelow n) (uses d t)
  uses_below d (leaf (bound (bound_kind k x) e i)) w = leaf_below k i (nat_eq e d) w
  uses_below d (leaf l) w = All-nil (StandsBelow n)
  uses_below d (node h (cons t ts)) w =
      both_ordered (order_of (node h (cons t ts))) (uses d t) (uses d ts) (uses_below d t w.0) (uses_below d ts w.1)
  uses_below d (node h ts) w = uses_below d ts w
  uses_below d (bind ks t) w = uses_below (suc d) t w
  uses_below d nil w = All-nil (StandsBelow n)
  uses_below d (cons t ts) w =
      All-append (StandsBelow n) (uses d t) (uses d ts) (uses_below d t w.0) (uses_below d ts w.1)

  below_uses : (d : ℕ) (t : Tree) → All (StandsBelow n) (uses d t) → AreWithin n d t
  below_uses d (leaf (bound (bound_kind k x) e i)) a = below_leaf k i (nat_eq e d) a
  below_uses d (leaf l) a = tt
  below_uses d (node h (cons t ts)) a =
      let o = order_of (node h (cons t ts)) in (
        below_uses d t (first_ordered o (uses d t) (uses d ts) a),
        below_uses d ts (second_ordered o (uses d t) (uses d ts) a),
      )
  below_uses d (node h ts) a = below_uses d ts a
  below_uses d (bind ks t) a = below_uses (suc d) t a
  below_uses d nil a = tt
  below_uses d (cons t ts) a = (
    below_uses d t (All_front (StandsBelow n) (uses d t) (uses d ts) a),
    below_uses d ts (All_back (StandsBelow n) (uses d t) (uses d ts) a),
  )

-- A binder binds at places of its list just where all variables that are used stand below the list's length.
pub binds_below : {Key Id Name : Type 0} (m : Meaning Key Id Name) (vs : List (BoundVariableKind Name))
    (o : Option (List BoundKind)) (t p : Tree) (us : List UsedVar) (b : Bool) → o ≡ Some (bound_kinds m vs) →
    p ≡ under o t → us ≡ used_vars t → (IsTrue b ↔ All (StandsBelow (length vs)) us) → IsTrue b ↔ BindsWithin p
binds_below m vs o t p us b list is used h =
    let P = StandsBelow (length vs) in
    let long : length (bound_kinds m vs) ≡ length vs = length-map vs _ in
    let whole = is ∙ ap (λ q. under q t) list in (
      (λ e. subst BindsWithin (sym whole) (subst (λ n. AreWithin n 0 t) (sym long)
          (below_uses (length vs) 0 t (with_new P [] (uses 0 t) (subst (All P) used (h.0 e)))))),
      (λ w. h.1 (subst (All P) (sym used) (with_all P [] (uses 0 t) (All-nil P)
          (uses_below (length vs) 0 t (subst (λ n. AreWithin n 0 t) long (subst BindsWithin whole w)))))),
    )
