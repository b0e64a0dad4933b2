-- The answers for the parts of a term that are kept, once one more part has answered.
use Rattle.std.proofs.Common.{◌≡◌, ℕ, zero, suc, ◌<◌, ◌≤◌, ◌==◌, refl, sym, ap, ◌∙◌, subst, inl, inr, arith, IsTrue, false, true}
use Rattle.std.proofs.Common.{◌⊎◌, IfOk, Result, Ok, Err, List, [], ◌∷◌, ◌++◌, length, Vec, vec_len}
use Rattle.std.proofs.lemmas.Bool.{eqb-true, eqb-false}
use Rattle.term_enums.specs.declared.Variance.{Variance}
use Rattle.relation_terms.specs.declared.terms.generic_arg.GenericArgKind.{GenericArgKind}
use Rattle.relation_terms.specs.declared.terms.part_kind.Part.{Part}
use Rattle.relation_terms.specs.Heads.{Head}
use Rattle.relation_terms.specs.Parts.{part_sort, tree_sort, Fit}
use Rattle.relation_terms.specs.Trees.{Tree, leaf, node, bind, nil, cons, apply, known, list_tree, count, nth, IsTerm}
use Rattle.relation_terms.proofs.Members.{known_with_last}
use Rattle.relation_terms.proofs.Stays.{stays_list}
use Rattle.relation_folds.specs.declared.error.RelateFault.{RelateFault}
use Rattle.relation_folds.specs.declared.error.RelateFault.TheVariants.{Memory}
use Rattle.relation_folds.specs.Firsts.{AreFirsts}
use Rattle.relation_semantics.specs.Lawful.{State, Manners, MayAnswer, Passes, Related, items_in}
use Rattle.relation_semantics.specs.Making.{arg_sort, FitArgs}
use Rattle.relation_semantics.specs.Relation.{part_at, same}
use Rattle.relation_semantics.proofs.Answering.{AreAnswers, answers_next}
use Rattle.relation_semantics.proofs.Lists.{firsts, snoc, list_push, firsts_more}
use Rattle.relation_recursion.specs.Keeping.{AreFirstParts, KeepsAnswer, none_kept, one_more, first_kept}
use Rattle.relation_recursion.specs.Keeping.{KeepsResult, answer_kept, error_handed, no_memory}
use Rattle.relation_recursion.proofs.InOrder.{part_pushed}
use Rattle.relation_recursion.proofs.MadeAnew.{fit_pushed}
use Rattle.relation_folds.proofs.ClauseLists.{firsts_list}
use Rattle.relation_folds.proofs.Lists.{no_member}
use Rattle.relation_semantics.proofs.GeneralisingParts.{count_firsts}

-- A list that is not empty has a member.
some_counted : {K : Type 0} (n : ℕ) (xs : List K) → n ≡ length xs → (n ≡ 0 → ⊥) → 0 < length xs
some_counted n [] e d = absurd (d e)
some_counted n (x ∷ xs) e d = omega arith

pub some_kept : {K Z : Type 0} (v : Vec K Z) → false ≡ (vec_len v == 0) → 0 < length v.items
some_kept v e = some_counted (vec_len v) v.items v.ok.0 (eqb-false (vec_len v) 0 (sym e))

pub none_in : {K Z : Type 0} (v : Vec K Z) → true ≡ (vec_len v == 0) → v.items ≡ []
none_in v e = no_member v.items (sym v.ok.0 ∙ eqb-true (vec_len v) 0 (sym e))

pub none_kept_yet : {K : Type 0} {xs : List K} → xs ≡ [] → 0 < length xs → ⊥
none_kept_yet e l = let n = ap length e in omega (arith, n, l)

firsts_nth : (i j : ℕ) (ts : Tree) → i ≤ count ts → j < i → nth j (firsts i ts) ≡ nth j ts
firsts_nth zero j ts l m = absurd (omega (arith, m))
firsts_nth (suc i) zero (cons t ts) l m = refl
firsts_nth (suc i) (suc j) (cons t ts) l m = firsts_nth i j ts (omega (arith, l)) (omega (arith, m))
firsts_nth (suc i) j (leaf x) l m = absurd (omega (arith, l))
firsts_nth (suc i) j (node g ts) l m = absurd (omega (arith, l))
firsts_nth (suc i) j (bind ks t) l m = absurd (omega (arith, l))
firsts_nth (suc i) j nil l m = absurd (omega (arith, l))

module _ {Key : Type 0} (f : GenericArgKind Key → Tree) where
  -- The first arguments of a list: none of them, and one more.
  pub no_first_args : (ts : Tree) (xs : List (GenericArgKind Key)) → xs ≡ [] → AreFirstParts f FitArgs 0 ts xs
  no_first_args ts xs e =
      subst (λ ys. AreFirstParts f FitArgs 0 ts ys) (sym e) (record { same = refl; sure = refl; fit = tt })

  pub next_first_arg : (x : GenericArgKind Key) (i j : ℕ) (ts : Tree) (xs ys : List (GenericArgKind Key)) →
      AreFirstParts f FitArgs i ts xs → i < count ts → j ≡ suc i → f x ≡ nth i ts → IsTrue (known (f x)) →
      IsTerm (arg_sort x) (nth i ts) → ys ≡ xs ++ x ∷ [] → AreFirstParts f FitArgs j ts ys
  next_first_arg x i j ts xs ys a l e q k s r =
      subst (λ zs. AreFirstParts f FitArgs j ts zs) (sym r)
      (subst (λ n. AreFirstParts f FitArgs n ts (xs ++ x ∷ [])) (sym e) (record {
        same = list_push f xs x ∙ ap (λ t. snoc t (f x)) a.same ∙ ap (snoc (firsts i ts)) q ∙ sym (firsts_more i ts l);
        sure = known_with_last f xs x a.sure k;
        fit = fit_pushed xs x ts i l a.fit s;
      }))

  -- What is kept fits the parts.
  pub kept_fit : (i : ℕ) (ts : Tree) (y : GenericArgKind Key) (old new : List (GenericArgKind Key)) → i < count ts →
      IsTerm (arg_sort y) (nth i ts) → (0 < length old → FitArgs old (firsts i ts)) →
      KeepsAnswer f FitArgs i ts y old new → 0 < length new → FitArgs new (firsts (suc i) ts)
  kept_fit i ts y old new l k was (none_kept is) m = absurd (none_kept_yet is m)
  kept_fit i ts y old new l k was (one_more o is) m =
      subst (λ z. FitArgs z (firsts (suc i) ts)) (sym is) (fit_pushed old y ts i l (was o) k)
  kept_fit i ts y old new l k was (first_kept xs a is) m =
      subst (λ z. FitArgs z (firsts (suc i) ts)) (sym is) (fit_pushed xs y ts i l a.fit k)

-- The same of parts.
pub first_members_as : {Key Id : Type 0} (f : Part Key Id → Tree) (i : ℕ) (ts us : Tree) (xs : List (Part Key Id)) →
    us ≡ ts → AreFirsts f i us xs → AreFirstParts f Fit i ts xs
first_members_as f i ts us xs e a =
    subst (λ t. AreFirstParts f Fit i t xs) e (record { same = a.same; sure = a.sure; fit = a.fit })

pub kept_fit_parts : {Key Id : Type 0} (f : Part Key Id → Tree) (i : ℕ) (ts : Tree) (y : Part Key Id)
    (old new : List (Part Key Id)) → i < count ts → part_sort y ≡ tree_sort (nth i ts) →
    (0 < length old → Fit old (firsts i ts)) → KeepsAnswer f Fit i ts y old new → 0 < length new →
    Fit new (firsts (suc i) ts)
kept_fit_parts f i ts y old new l k was (none_kept is) m = absurd (none_kept_yet is m)
kept_fit_parts f i ts y old new l k was (one_more o is) m =
    subst (λ z. Fit z (firsts (suc i) ts)) (sym is) (part_pushed old y ts i l (was o) k)
kept_fit_parts f i ts y old new l k was (first_kept xs a is) m =
    subst (λ z. Fit z (firsts (suc i) ts)) (sym is) (part_pushed xs y ts i l a.fit k)

-- What was kept of the answers for the first parts of a form, if anything: it may be answered, and fits them.
pub record AreKept {Key Id Name K : Type 0} (M : Manners) (q : State Key Id Name) (h : Head) (v : Variance) (i : ℕ)
    (ts : Tree) (tree : K → Tree) (fit : List K → Tree → Type 0) (xs : List K) : Type 0 where
  pub answers : 0 < length xs → AreAnswers M q h v i ts (list_tree tree xs)
  pub fits : 0 < length xs → fit xs (firsts i ts)

module _ {Key Id Name : Type 0} (M : Manners) where
  -- Parts answer for themselves.
  answers_first : (q : State Key Id Name) (h : Head) (v : Variance) (i : ℕ) (ts : Tree) → i ≤ count ts →
      IsTrue (known (firsts i ts)) → AreAnswers M q h v i ts (firsts i ts)
  answers_first q h v i ts l k = record {
    is_list = firsts_list i ts;
    sure = k;
    counted = count_firsts i ts l;
    related = λ j m. λ w s sat all. same (ap (apply s) (sym (firsts_nth i j ts l m)));
  }

  -- What is kept may be answered.
  pub kept_answers : {K : Type 0} {n : ℕ} {q p : State Key Id Name} (f g : K → Tree) (fits : List K → Tree → Type 0)
      (h : Head) (v : Variance) (i : ℕ) (ts x : Tree) (y : K) (old new : List K) →
      ((z : K) → IsTrue (known (f z)) → g z ≡ f z) → Passes n q p → i < count ts → x ≡ nth i ts →
      MayAnswer M p (part_at (items_in q) h i v) x (g y) → IsTrue (known (g y)) →
      (0 < length old → AreAnswers M q h v i ts (list_tree f old)) → KeepsAnswer g fits i ts y old new →
      0 < length new → AreAnswers M p h v (suc i) ts (list_tree g new)
  kept_answers f g fits h v i ts x y old new stay passes l e may k was (none_kept is) m = absurd (none_kept_yet is m)
  kept_answers {q = q} {p = p} f g fits h v i ts x y old new stay passes l e may k was (one_more o is) m =
      let pushed : list_tree g new ≡ snoc (list_tree f old) (g y) = ap (list_tree g) is ∙ list_push g old y
      ∙ ap (λ z. snoc z (g y)) (stays_list f g old stay (was o).sure) in
      subst (AreAnswers M p h v (suc i) ts) (sym pushed)
      (answers_next M h v i ts (list_tree f old) x (g y) passes l (was o) e may k)
  kept_answers {q = q} {p = p} f g fits h v i ts x y old new stay passes l e may k was (first_kept xs a is) m =
      let pushed : list_tree g new ≡ snoc (firsts i ts) (g y) = ap (list_tree g) is ∙ list_push g xs y
      ∙ ap (λ z. snoc z (g y)) a.same in
      subst (AreAnswers M p h v (suc i) ts) (sym pushed)
      (answers_next M h v i ts (firsts i ts) x (g y) passes l (answers_first q h v i ts (omega (arith, l))
      (subst (λ z. IsTrue (known z)) a.same a.sure)) e may k)

-- What came of keeping an answer, by what the call answers.
module _ {K Key Id Name : Type 0} {answers : Result K (RelateFault Key Id Name) → Type 0} {keeps : K → Type 0} where
  pub kept_in : {u : Unit {0}} → KeepsResult answers keeps (Ok u) → (x : K) × answers (Ok x) × keeps x
  kept_in (answer_kept x a k e) = (x, a, k)
  kept_in (error_handed f a e) = absurd (cc)
  kept_in (no_memory x a e) = absurd (cc)

  pub failed_in : {e : RelateFault Key Id Name} → KeepsResult answers keeps (Err e) →
      answers (Err e) ⊎ ((x : K) × answers (Ok x) × (e ≡ Memory))
  failed_in (answer_kept x a k i) = absurd (cc)
  failed_in {e = e} (error_handed f a i) = let same : e ≡ f = cc in inl (subst (λ z. answers (Err z)) (sym same) a)
  failed_in {e = e} (no_memory x a i) = let same : e ≡ Memory = cc in inr (x, a, same)

-- What was related is known where it was answered.
pub answer_known : {Key Id Name X : Type 0} (M : Manners) (q p : State Key Id Name) (v : Variance) (a b : Tree)
    (tree : X → Tree) (res : Result X (RelateFault Key Id Name)) → Related M q p v a b tree res →
    IfOk res (λ k. IsTrue (known (tree k)))
answer_known M q p v a b tree (Ok k) h = (h.verdict).known
answer_known M q p v a b tree (Err e) h = tt
