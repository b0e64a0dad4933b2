-- What a walk yields from here on, whatever is called on it, is what the places of its tree say.
use Rattle.std.proofs.Common.{◌≡◌, ◌≤◌, ℕ, suc, Bool, true, false, cond, IsTrue, refl, sym, ap, ◌∙◌, subst, arith}
use Rattle.std.proofs.Common.{List, [], ◌∷◌, ◌++◌, map, length, Option, Some, None, Ok, append-nil}
use Rattle.std.proofs.Common.{◌<◌, ◌||◌, ◌==◌, ◌+◌, drop, get_or}
use Rattle.std.proofs.Math.Seq.{drop-cons}
use Rattle.std.proofs.lemmas.Bool.{and_parts, eq-eqb, eqb-true, false_from_ne_true}
use Rattle.std.proofs.lemmas.List.{append_assoc, length-append}
use Rattle.std.specs.List.{list_any}
use Rattle.relation_terms.specs.Trees.{Tree, known, size, list_tree}
use Rattle.relation_terms.specs.Meaning.{Meaning, arg_tree}
use Rattle.relation_terms.specs.declared.terms.generic_arg.GenericArgKind.{GenericArgKind}
use Rattle.term_enums.specs.declared.memory.OutOfMemory.{OutOfMemory}
use Rattle.traversal.specs.Stacks.{present}
use Rattle.walk.specs.Walking.{Walk, Pull}
use Rattle.traversal.specs.Unseen.{first_unseen}
use Rattle.walk.specs.Positions.{yields, Call, pull, skip, Tells, has_ended, Runs, ByPlaces}
use Rattle.text_asking.specs.Meets.{AllKnown}
use Rattle.text_asking.specs.Skips.{stands_in}
use Rattle.text_terms.proofs.BuildingLemmas.{both_true}

pub cond_same : {A : Type 0} (b : Bool) (a : A) → cond b a a ≡ a
cond_same true a = refl
cond_same false a = refl

pub skipped_cx : {I A : Type 0} (b : Bool) (w : Walk I A) → (cond b (record w { inside = [] }) w).cx ≡ w.cx
skipped_cx true w = refl
skipped_cx false w = refl

module _ {I A : Type 0} (ns : List ℕ) (i p : ℕ) (w u z : Walk I A) where
  -- The walk as it is once these have been looked at.
  abbrev looked : List ℕ → Walk I A → Walk I A
  looked rest v = cond (stands_in rest p) (record v { inside = [] }) v

  pub looked_same : i < length ns → get_or ns i 0 ≡ p → u ≡ record w { inside = [] } → looked (drop i ns) w ≡ z →
      looked (drop (i + 1) ns) u ≡ z
  looked_same l h e k =
      let rest = drop (suc i) ns in
      let one : i + 1 ≡ suc i = omega arith in
      let cut = ap (λ xs. looked xs w) (drop-cons ns i 0 l) in
      let first = ap (λ b. cond (b || stands_in rest p) (record w { inside = [] }) w) (eq-eqb (get_or ns i 0) p h) in
      ap (λ j. looked (drop j ns) u) one ∙ ap (looked rest) e ∙ cond_same (stands_in rest p) (record w { inside = [] })
      ∙ sym (cut ∙ first) ∙ k

  pub looked_other : i < length ns → (get_or ns i 0 ≡ p → ⊥) → u ≡ w → looked (drop i ns) w ≡ z →
      looked (drop (i + 1) ns) u ≡ z
  looked_other l h e k =
      let rest = drop (suc i) ns in
      let one : i + 1 ≡ suc i = omega arith in
      let cut = ap (λ xs. looked xs w) (drop-cons ns i 0 l) in
      let n = false_from_ne_true (get_or ns i 0 == p) (λ t. h (eqb-true (get_or ns i 0) p t)) in
      let first = ap (λ b. cond (b || stands_in rest p) (record w { inside = [] }) w) n in
      ap (λ j. looked (drop j ns) u) one ∙ ap (looked rest) e ∙ sym (cut ∙ first) ∙ k

pub one_more : {A : Type 0} (ys : List A) (x : A) → length (ys ++ x ∷ []) ≡ suc (length ys)
one_more ys x = let n = length-append ys (x ∷ []) in omega (arith, n)

module _ {Key Id Name : Type 0} (m : Meaning Key Id Name) (t : Tree) (skips : ℕ → Bool) where
  -- What was yielded before and is then: no more than the tree is large, and all of it once the walk has ended.
  abbrev pub Comes : List (GenericArgKind Key) → List (Option (GenericArgKind Key)) → Type 0
  Comes ys rs = (length (ys ++ present rs) ≤ size t)
      × (IsTrue (has_ended rs) → yields skips false [] t ≡ map (arg_tree m) (ys ++ present rs))

  comes_more : (ys : List (GenericArgKind Key)) (x : GenericArgKind Key) (rs : List (Option (GenericArgKind Key))) →
      Comes ys (Some x ∷ rs) → Comes (ys ++ x ∷ []) rs
  comes_more ys x rs c =
      let e = sym (append_assoc ys (x ∷ []) (present rs)) in
      (subst (λ z. length z ≤ size t) e c.0, λ h. c.1 h ∙ ap (map (arg_tree m)) e)

module _ {I Key Id Name : Type 0} (m : Meaning Key Id Name) (eq : GenericArgKind Key → GenericArgKind Key → Bool)
    (t : Tree) (skips : ℕ → Bool) where
  -- These were yielded, and what comes of calls that begin with a pull comes behind them.
  abbrev pub Goes : Walk I (GenericArgKind Key) → List (GenericArgKind Key) → Type 0
  Goes w ys = (cs : List Call) (rs : List (Option (GenericArgKind Key))) (v : Walk I (GenericArgKind Key)) →
      Runs m eq w (pull ∷ cs) rs v → Tells skips (length ys) (pull ∷ cs) rs → Comes m t skips ys rs

  abbrev skipped : Bool → Walk I (GenericArgKind Key) → Walk I (GenericArgKind Key)
  skipped b w = cond b (record w { inside = [] }) w

  pub goes_first : (w : Walk I (GenericArgKind Key)) (b : Bool) → ByPlaces m eq w t → Goes (skipped b w) []
  goes_first w true h = λ cs rs v r k.
      let g = h skips (skip ∷ pull ∷ cs) rs v r k in (
        g.ends,
        λ e. g.first ∙ ap (λ z. map (arg_tree m) (present rs) ++ z) (g.all e)
            ∙ append-nil (map (arg_tree m) (present rs)),
      )
  goes_first w false h = λ cs rs v r k.
      let g = h skips (pull ∷ cs) rs v r k in (
        g.ends,
        λ e. g.first ∙ ap (λ z. map (arg_tree m) (present rs) ++ z) (g.all e)
            ∙ append-nil (map (arg_tree m) (present rs)),
      )

  -- A pull has yielded one more, and what is under it was skipped or not.
  pub goes_next : (w u : Walk I (GenericArgKind Key)) (ys : List (GenericArgKind Key)) (x : GenericArgKind Key) (b : Bool) →
      skips (length ys) ≡ b → Goes w ys → Pull m eq {E = OutOfMemory} w (Some (Ok x)) u →
      Goes (skipped b u) (ys ++ x ∷ [])
  goes_next w u ys x true e h p = λ cs rs v r k.
      let l = subst (λ i. Tells skips i (pull ∷ cs) rs) (one_more ys x) k in
      comes_more m t skips ys x rs (h (skip ∷ pull ∷ cs) (Some x ∷ rs) v (u, p, r) (e, l))
  goes_next w u ys x false e h p = λ cs rs v r k.
      let l = subst (λ i. Tells skips i (pull ∷ cs) rs) (one_more ys x) k in
      comes_more m t skips ys x rs (h (pull ∷ cs) (Some x ∷ rs) v (u, p, r) (e, l))

  pub goes_next_as : (w u v : Walk I (GenericArgKind Key)) (ys zs : List (GenericArgKind Key)) (x : GenericArgKind Key)
      (b : Bool) → zs ≡ ys ++ x ∷ [] → v ≡ skipped b u → skips (length ys) ≡ b → Goes w ys →
      Pull m eq {E = OutOfMemory} w (Some (Ok x)) u → Goes v zs
  goes_next_as w u v ys zs x b e k n h p =
      subst (λ r. Goes r zs) (sym k) (subst (Goes (skipped b u)) (sym e) (goes_next w u ys x b n h p))

  pub goes_small : (w u : Walk I (GenericArgKind Key)) (ys : List (GenericArgKind Key)) (x : GenericArgKind Key) →
      Goes w ys → Pull m eq {E = OutOfMemory} w (Some (Ok x)) u → suc (length ys) ≤ size t
  goes_small w u ys x h p =
      let c = h [] (Some x ∷ []) u (u, p, refl) (tt, tt) in
      subst (λ z. z ≤ size t) (one_more ys x) c.0

  pub goes_end : (w u : Walk I (GenericArgKind Key)) (ys : List (GenericArgKind Key)) → Goes w ys →
      Pull m eq {E = OutOfMemory} w None u → map (arg_tree m) ys ≡ yields skips false [] t
  goes_end w u ys h p =
      let c = h [] (None ∷ []) u (u, p, refl) tt in
      sym (c.1 refl ∙ ap (map (arg_tree m)) (append-nil ys))

nothing_unseen : {T : Type 0} (p : T → Bool) (xs : List T) (r : T × List T) → xs ≡ [] → first_unseen p xs ≡ Some r → ⊥
nothing_unseen p [] r e h = cc
nothing_unseen p (x ∷ xs) r e h = cc

nil_both : {T : Type 0} (xs ys : List T) → xs ≡ [] → ys ≡ [] → xs ++ ys ≡ []
nil_both [] ys e f = f
nil_both (x ∷ xs) ys e f = absurd (cc)

-- Behind its end a walk yields nothing, however often it is skipped.
pub ended_still : {I Key Id Name : Type 0} (m n : Meaning Key Id Name)
    (eq : GenericArgKind Key → GenericArgKind Key → Bool) (w u v z : Walk I (GenericArgKind Key)) (x : GenericArgKind Key) →
    Pull m eq {E = OutOfMemory} w None u → (u.inside ≡ [] → v.inside ≡ []) → v.after ≡ u.after →
    Pull n eq {E = OutOfMemory} v (Some (Ok x)) z → ⊥
ended_still m n eq w u v z x p i a q =
    let f : u.inside ≡ [] = ap (λ k. k.inside) p.2 in
    let g : u.after ≡ [] = ap (λ k. k.after) p.2 in
    nothing_unseen (λ o. list_any (eq o) v.visited) (v.inside ++ v.after) (x, z.after)
    (nil_both v.inside v.after (i f) (a ∙ g)) q.4

pub known_one_more : {Key Id Name : Type 0} (m : Meaning Key Id Name) (xs : List (GenericArgKind Key))
    (x : GenericArgKind Key) → IsTrue (known (arg_tree m x)) → AllKnown m xs → AllKnown m (xs ++ x ∷ [])
known_one_more m [] x k h = both_true (known (arg_tree m x)) true k refl
known_one_more m (y ∷ ys) x k h =
    let p = and_parts (known (arg_tree m y)) (known (list_tree (arg_tree m) ys)) h in
    both_true (known (arg_tree m y)) (known (list_tree (arg_tree m) (ys ++ x ∷ []))) p.0 (known_one_more m ys x k p.1)
