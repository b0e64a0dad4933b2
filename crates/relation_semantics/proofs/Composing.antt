-- Calls in a row compose.
use Rattle.std.proofs.Common.{◌≡◌, ◌⊎◌, ℕ, suc, ◌<◌, ◌+◌, refl, sym, ap, ◌∙◌, arith, inl, inr, subst, subst₂, List, [], ◌++◌, All}
use Rattle.std.proofs.lemmas.List.Elements.{All-nil, All-append}
use native.Mathlib.Decide.{dec_lt}
use Rattle.relation_terms.specs.Heads.{Head, subtype, alias_relate, ambiguous, atom}
use Rattle.relation_terms.specs.Trees.{Tree, leaf, node, bind, nil, cons, Assign, apply, IsList, count, nth}
use Rattle.term_enums.specs.declared.Variance.{Variance}
use Rattle.relation_semantics.specs.Relation.{Items, Interpretation, parts, at, part_at, Rel, forms, no_parts, next_part}
use Rattle.relation_semantics.specs.Stores.{Store, Satisfies, InContext}
use Rattle.relation_semantics.specs.Goals.{Goal, Request, asks_subtype, asks_alias, asks_too_much, asks_nothing, asked, Holds, GoalInContext, HasOneTree, MakesOneTree}
use Rattle.relation_semantics.specs.Steps.{IsLater, AgreeOn, HasExtension}
use Rattle.relation_semantics.specs.Outcomes.{AreOneUnder, Outcome, Front}
use Rattle.relation_semantics.specs.StepLaws.{RelatesLater, RelatesUnderMore, PartsCompose, NoPartsRelate, FormsRelate, StepsCompose, FrontBegins, FrontGoesOn, FrontEnds}
use Rattle.relation_semantics.proofs.OneParts.{count_applied}
use Rattle.relation_semantics.proofs.Values.{same_value, apply-nth, apply-list}
use Rattle.relation_semantics.proofs.Standing.{later_context}
use Rattle.relation_semantics.proofs.Going.{later_itself, later_through}
use Rattle.relation_terms.proofs.Paths.{first_path, rest_path, parts_path}
use Rattle.relation_folds.proofs.Lists.{All_front, All_back}

pub relates_later : RelatesLater
relates_later c before after goals more e v a b shrinks fewer h w s sat all = h w s (shrinks w s sat) (fewer w s all)

pub relates_under_more : RelatesUnderMore
relates_under_more c before after goals more e v a b shrinks h w s sat all = h w s (shrinks w s sat) (All_front (Holds c w s) goals more all)

-- The sides of what is asked are parts of the predicate.
abbrev pub AskedIn : Store → Request → Type 0
AskedIn st (asks_subtype a b) = InContext st a × InContext st b
AskedIn st (asks_alias d a b) = InContext st a × InContext st b
AskedIn st asks_too_much = Unit {0}
AskedIn st asks_nothing = Unit {0}

asked_in : (st : Store) (p : Tree) → InContext st p → AskedIn st (asked p)
unfolding InContext
asked_in st (bind [] (node (subtype x) (cons a (cons b nil)))) i = (i.0, i.1.0)
asked_in st (bind [] (node (alias_relate d) (cons a (cons b nil)))) i = (i.0, i.1.0)
asked_in st (bind [] (leaf (atom ambiguous))) i = tt
asked_in st p i = tt

one_tree_still : (st : Store) (s s' : Assign) → AgreeOn st s s' → (q : Request) → AskedIn st q → HasOneTree s q → HasOneTree s' q
one_tree_still st s s' h (asks_subtype a b) i p = sym (same_value st s s' a h i.0) ∙ p ∙ same_value st s s' b h i.1
one_tree_still st s s' h (asks_alias d a b) i p = sym (same_value st s s' a h i.0) ∙ p ∙ same_value st s s' b h i.1
one_tree_still st s s' h asks_too_much i p = tt
one_tree_still st s s' h asks_nothing i p = tt

still_one_tree : (st : Store) (s s' : Assign) → AgreeOn st s s' → (g : Goal) → GoalInContext st g → MakesOneTree s g → MakesOneTree s' g
still_one_tree st s s' h g i p = one_tree_still st s s' h (asked g.predicate) (asked_in st g.predicate i) p

pub All_map₂ : {A : Type 0} (P Q R : A → Type 0) → ((x : A) → P x → Q x → R x) → (xs : List A) → All P xs → All Q xs → All R xs
All_map₂ P Q R f xs p q k d h = f _ (p k d h) (q k d h)

pub agree_through : {before middle : Store} {s s' s'' : Assign} → IsLater before middle → AgreeOn before s s' → AgreeOn middle s' s'' → AgreeOn before s s''
agree_through l p q k n m = p k n m ∙ q k n (l.grows k n m)

pub later_goals : (before after : Store) → IsLater before after → (gs : List Goal) → All (GoalInContext before) gs → All (GoalInContext after) gs
later_goals before after l gs h k d m = later_context before after l.grows _ (h k d m)

-- Goals of two calls, under an earlier list.
pub first_goals : (P : Goal → Type 0) (earlier first others : List Goal) → All P (earlier ++ (first ++ others)) → All P (earlier ++ first)
first_goals P earlier first others h = All-append P earlier first (All_front P earlier (first ++ others) h) (All_front P first others (All_back P earlier (first ++ others) h))

pub all_goals : (P : Goal → Type 0) (earlier first others : List Goal) → All P (earlier ++ (first ++ others)) → All P ((earlier ++ first) ++ others)
all_goals P earlier first others h = All-append P (earlier ++ first) others (first_goals P earlier first others h) (All_back P first others (All_back P earlier (first ++ others) h))

-- An extension, and then one from there.
pub extends_through : (before middle after : Store) (first others : List Goal) (w : Interpretation) (s s' : Assign) → IsLater before middle → All (GoalInContext middle) first →
    AgreeOn before s s' → All (MakesOneTree s') first → HasExtension middle s' (λ z. Satisfies w after z × All (MakesOneTree z) others) → HasExtension before s (λ z. Satisfies w after z × All (MakesOneTree z) (first ++ others))
extends_through before middle after first others w s s' l inc p q two =
    (two.0, agree_through l p two.1, (two.2.0, All-append (MakesOneTree two.0) first others (All_map₂ _ _ (MakesOneTree two.0) (still_one_tree middle s' two.0 two.1) first inc q) two.2.1))

pub goals_both : (middle after : Store) (first others : List Goal) → IsLater middle after → All (GoalInContext middle) first → All (GoalInContext after) others → All (GoalInContext after) (first ++ others)
goals_both middle after first others l p q = All-append (GoalInContext after) first others (later_goals middle after l first p) q

-- One value each, under assignments that agree.
pub values_still : (st : Store) (s s' : Assign) (a b : Tree) → AgreeOn st s s' → InContext st a → InContext st b → apply s a ≡ apply s b → apply s' a ≡ apply s' b
values_still st s s' a b h i j p = sym (same_value st s s' a h i) ∙ p ∙ same_value st s s' b h j

pub parts_compose : PartsCompose
parts_compose c e h i v before middle after earlier first others a b xs ys inx iny f g = record {
  later = later_through f.later g.later;
  goals_in = goals_both middle after first others g.later f.goals_in g.goals_in;
  relates = λ w s sat all. next_part (f.relates w s (g.later.shrinks w s sat) (first_goals (Holds c w s) earlier first others all)) (g.relates w s sat (all_goals (Holds c w s) earlier first others all));
  keeps = λ w s sat q. go w s (rest_path q) (f.keeps w s sat (first_path q));
}
  where
    go : (w : Interpretation) (s : Assign) → apply s xs ≡ apply s ys → HasExtension before s (λ z. Satisfies w middle z × All (MakesOneTree z) first) → HasExtension before s (λ z. Satisfies w after z × All (MakesOneTree z) (first ++ others))
    go w s q one = extends_through before middle after first others w s one.0 f.later f.goals_in one.1 one.2.1 (g.keeps w one.0 one.2.0 (values_still before s one.0 xs ys one.1 inx iny q))

pub no_parts_relate : NoPartsRelate
no_parts_relate c e h i v st earlier = record {
  later = later_itself st;
  goals_in = All-nil (GoalInContext st);
  relates = λ w s sat all. no_parts;
  keeps = λ w s sat q. (s, (λ k n m. refl), (sat, All-nil (MakesOneTree s)));
}

pub forms_relate : FormsRelate
forms_relate c e h k v before after earlier added xs ys i p f = record {
  later = f.later;
  goals_in = f.goals_in;
  relates = λ w s sat all. forms i p (f.relates w s sat all);
  keeps = λ w s sat q. f.keeps w s sat (parts_path q);
}

pub steps_compose : StepsCompose
steps_compose c e way way' before middle after earlier first others a b x y f = (then, λ n w s sat q. let one = f.keeps w s sat q in n w one.0 one.2.0 one.2.2)
  where
    then : Outcome c e way' middle after (earlier ++ first) others x y → Outcome c e way before after earlier (first ++ others) a b
    then g = record {
      later = later_through f.later g.later;
      goals_in = goals_both middle after first others g.later f.goals_in g.goals_in;
      relates = λ w s sat all. f.relates w s (g.later.shrinks w s sat) (first_goals (Holds c w s) earlier first others all) (g.relates w s sat (all_goals (Holds c w s) earlier first others all));
      keeps = λ w s sat q. go w s (f.keeps w s sat q);
    }
      where
        go : (w : Interpretation) (s : Assign) → HasExtension before s (λ z. Satisfies w middle z × All (MakesOneTree z) first × AreOneUnder way' z x y) → HasExtension before s (λ z. Satisfies w after z × All (MakesOneTree z) (first ++ others))
        go w s one = extends_through before middle after first others w s one.0 f.later f.goals_in one.1 one.2.1 (g.keeps w one.0 one.2.0 one.2.2)

pub front_begins : FrontBegins
front_begins c e h v st earlier xs ys = record {
  later = later_itself st;
  goals_in = All-nil (GoalInContext st);
  relates = λ w s sat all j l. absurd (omega arith);
  keeps = λ w s sat q. (s, (λ k n m. refl), (sat, All-nil (MakesOneTree s)));
}

-- Equal lists have equal parts.
pub parts_one : (s : Assign) (i : ℕ) (xs ys : Tree) → IsList xs → IsList ys → apply s xs ≡ apply s ys → apply s (nth i xs) ≡ apply s (nth i ys)
parts_one s i xs ys l m q = apply-nth s i xs l ∙ ap (nth i) q ∙ sym (apply-nth s i ys m)

pub below_or : (i j : ℕ) → j < suc i → (j < i) ⊎ (j ≡ i)
below_or i j h = go (dec_lt j i)
  where
    go : Dec (j < i) → (j < i) ⊎ (j ≡ i)
    go (yes p) = inl p
    go (no n) = inr (omega arith)

pub front_goes_on : FrontGoesOn
front_goes_on c e h v i before middle after earlier first others xs ys lx ly inx iny f = (then, λ n w s sat q. let one = f.keeps w s sat q in n w one.0 one.2.0 (parts_one one.0 i xs ys lx ly (values_still before s one.0 xs ys one.1 inx iny q)))
  where
    then : Outcome c e (at (part_at c h i v)) middle after (earlier ++ first) others (nth i xs) (nth i ys) → Front c e h v (suc i) before after earlier (first ++ others) xs ys
    then g = record {
      later = later_through f.later g.later;
      goals_in = goals_both middle after first others g.later f.goals_in g.goals_in;
      relates = λ w s sat all j l. rel w s sat all j (below_or i j l);
      keeps = λ w s sat q. go w s q (f.keeps w s sat q);
    }
      where
        rel : (w : Interpretation) (s : Assign) → Satisfies w after s → All (Holds c w s) (earlier ++ (first ++ others)) → (j : ℕ) → (j < i) ⊎ (j ≡ i) → Rel c w e (at (part_at c h j v)) (apply s (nth j xs)) (apply s (nth j ys))
        rel w s sat all j (inl l) = f.relates w s (g.later.shrinks w s sat) (first_goals (Holds c w s) earlier first others all) j l
        rel w s sat all j (inr p) = subst (λ z. Rel c w e (at (part_at c h z v)) (apply s (nth z xs)) (apply s (nth z ys))) (sym p) (g.relates w s sat (all_goals (Holds c w s) earlier first others all))

        go : (w : Interpretation) (s : Assign) → apply s xs ≡ apply s ys → HasExtension before s (λ z. Satisfies w middle z × All (MakesOneTree z) first) → HasExtension before s (λ z. Satisfies w after z × All (MakesOneTree z) (first ++ others))
        go w s q one = extends_through before middle after first others w s one.0 f.later f.goals_in one.1 one.2.1 (g.keeps w one.0 one.2.0 (parts_one one.0 i xs ys lx ly (values_still before s one.0 xs ys one.1 inx iny q)))

-- Lists whose parts are related, place by place.
pub places : (c : Items) (w : Interpretation) (e : Tree) (h : Head) (v : Variance) (i : ℕ) (xs ys : Tree) → IsList xs → IsList ys → count xs ≡ count ys → ((j : ℕ) → j < count xs → Rel c w e (at (part_at c h (i + j) v)) (nth j xs) (nth j ys)) → Rel c w e (parts h i v) xs ys
places c w e h v i nil nil l m p f = no_parts
places c w e h v i (cons x xs) (cons y ys) l m p f = next_part
    (subst (λ z. Rel c w e (at (part_at c h z v)) x y) (omega arith) (f 0 (omega arith)))
    (places c w e h v (suc i) xs ys l m (omega (arith, p)) (λ j k. subst (λ z. Rel c w e (at (part_at c h z v)) (nth j xs) (nth j ys)) (omega arith) (f (suc j) (omega (arith, k)))))
places c w e h v i nil (cons y ys) l m p f = absurd (omega (arith, p))
places c w e h v i (cons x xs) nil l m p f = absurd (omega (arith, p))
places c w e h v i nil ys l m p f = absurd m
places c w e h v i (cons x xs) ys l m p f = absurd m
places c w e h v i xs ys l m p f = absurd l

pub front_ends : FrontEnds
front_ends c e h v before after earlier added xs ys lx ly n f = record {
  later = f.later;
  goals_in = f.goals_in;
  relates = λ w s sat all. places c w e h v 0 (apply s xs) (apply s ys) (apply-list s xs lx) (apply-list s ys ly) (count_applied s xs lx ∙ n ∙ sym (count_applied s ys ly))
      (λ j l. subst₂ (Rel c w e (at (part_at c h (0 + j) v))) (apply-nth s j xs lx) (apply-nth s j ys ly) (subst (λ z. Rel c w e (at (part_at c h z v)) (apply s (nth j xs)) (apply s (nth j ys))) (omega arith) (f.relates w s sat all j (subst (λ z. j < z) (count_applied s xs lx) l))));
  keeps = f.keeps;
}
