-- What relations may answer, part by part.
use Rattle.std.proofs.Common.{◌≡◌, ◌⊎◌, ℕ, zero, suc, ◌+◌, ◌<◌, refl, sym, ap, ap₂, ◌∙◌, true, subst, subst₂, arith, inl, inr}
use Rattle.std.proofs.Common.{All, IsTrue, Result, Ok, Err, IfOk}
use Rattle.std.proofs.lemmas.Bool.{and_from, and_parts}
use Rattle.term_enums.specs.declared.Variance.{Variance}
use Rattle.term_enums.specs.declared.Variance.TheVariants.{Covariant, Contravariant, Invariant, Bivariant}
use Rattle.term_enums.specs.Variances.{xform}
use Rattle.relation_terms.specs.Heads.{Head, unevaluated, expression, value, value_branch}
use Rattle.relation_terms.specs.Trees.{Tree, leaf, node, bind, nil, cons, Assign, apply, known, count, nth, IsList}
use Rattle.relation_semantics.specs.Relation.{Interpretation, at, parts, part_at, IsRelatedHead, Rel, same, forms, no_parts, next_part}
use Rattle.relation_semantics.specs.Goals.{Holds, Relates}
use Rattle.relation_semantics.specs.Parts.{IsRigid, direct_parts, head_of, const_parts_of, const_head_of}
use Rattle.relation_semantics.specs.Making.{form_over, const_over}
use Rattle.relation_semantics.specs.Stores.{Satisfies}
use Rattle.relation_semantics.specs.Lawful.{Kept, State, Manners, MayAnswer, Passes, declared_by, items_in, items_of}
use Rattle.relation_semantics.proofs.Composing.{places, below_or}
use Rattle.relation_semantics.proofs.Values.{apply-nth, apply-list}
use Rattle.relation_semantics.proofs.OneParts.{related_head, count_applied}
use Rattle.relation_semantics.proofs.Lists.{snoc}
use Rattle.relation_terms.specs.Meaning.{Meaning, Extends}
use Rattle.relation_folds.proofs.Lists.{All_front}

-- Seen from a variance, covariance is the variance itself.
pub covariantly : (v : Variance) → xform v Covariant ≡ v
covariantly Covariant = refl
covariantly Contravariant = refl
covariantly Invariant = refl
covariantly Bivariant = refl

-- With what no step changes the environment stands, and so do the settings.
pub same_environment : {Key : Type 0} {k l : Kept Key} → k ≡ l → k.environment ≡ l.environment
same_environment e = ap (λ k. k.environment) e

pub same_settings : {Key : Type 0} {k l : Kept Key} → k ≡ l → k.settings ≡ l.settings
same_settings e = ap (λ k. k.settings) e

module _ {Key Id Name : Type 0} where
  -- Items declare what they declared, while keys are added to.
  pub items_stay : {m n : Meaning Key Id Name} → Extends m n → items_of n ≡ items_of m
  items_stay e = ap₂ declared_by e.variances e.alias_variances

  pub same_items : {n : ℕ} {r q : State Key Id Name} → Passes n r q → items_in q ≡ items_in r
  same_items g = items_stay g.extends

  -- What is related by what is recorded and registered stays so.
  pub relates_still : {n : ℕ} {r q : State Key Id Name} (v : Variance) (a b : Tree) → Passes n r q →
      Relates (items_in r) r.store r.goals r.kept.environment v a b → Relates (items_in q) q.store q.goals q.kept.environment v a b
  relates_still {r = r} {q = q} v a b g h = λ w s sat all.
      subst₂ (λ c e. Rel c w e (at v) (apply s a) (apply s b)) (sym (same_items g)) (sym (same_environment g.kept))
      (h w s ((g.goes).later.shrinks w s sat) (All_front (Holds (items_in r) w s) r.goals g.added
      (subst (λ gs. All (Holds (items_in r) w s) gs) g.lengthens
      (subst (λ c. All (Holds c w s) q.goals) (same_items g) all))))

  module _ (M : Manners) where
    pub may_itself : (q : State Key Id Name) (v : Variance) (t : Tree) → MayAnswer M q v t t
    may_itself q v t = record { related = λ w s sat all. same refl }

    -- What was an answer stays one.
    pub may_later : {n : ℕ} {q p : State Key Id Name} (v : Variance) (t u : Tree) → Passes n q p → MayAnswer M q v t u →
        MayAnswer M p v t u
    may_later v t u g a = record { related = relates_still v t u g a.related }

-- A list with one more behind it.
snoc_list : (ts u : Tree) → IsList ts → IsList (snoc ts u)
snoc_list nil u h = tt
snoc_list (cons t ts) u h = snoc_list ts u h
snoc_list (leaf l) u h = absurd h
snoc_list (node g ts) u h = absurd h
snoc_list (bind ks t) u h = absurd h

snoc_known : (ts u : Tree) → IsList ts → IsTrue (known ts) → IsTrue (known u) → IsTrue (known (snoc ts u))
snoc_known nil u h k l = and_from (known u) true l refl
snoc_known (cons t ts) u h k l =
    let p = and_parts (known t) (known ts) k in
    and_from (known t) (known (snoc ts u)) p.0 (snoc_known ts u h p.1 l)
snoc_known (leaf x) u h k l = absurd h
snoc_known (node g ts) u h k l = absurd h
snoc_known (bind ks t) u h k l = absurd h

snoc_count : (ts u : Tree) → IsList ts → count (snoc ts u) ≡ suc (count ts)
snoc_count nil u h = refl
snoc_count (cons t ts) u h = ap suc (snoc_count ts u h)
snoc_count (leaf x) u h = absurd h
snoc_count (node g ts) u h = absurd h
snoc_count (bind ks t) u h = absurd h

-- What stands at each place of it.
snoc_before : (ts u : Tree) (j : ℕ) → IsList ts → j < count ts → nth j (snoc ts u) ≡ nth j ts
snoc_before (cons t ts) u zero h l = refl
snoc_before (cons t ts) u (suc j) h l = snoc_before ts u j h (omega (arith, l))
snoc_before nil u j h l = absurd (omega (arith, l))
snoc_before (leaf x) u j h l = absurd h
snoc_before (node g ts) u j h l = absurd h
snoc_before (bind ks t) u j h l = absurd h

snoc_last : (ts u : Tree) → IsList ts → nth (count ts) (snoc ts u) ≡ u
snoc_last nil u h = refl
snoc_last (cons t ts) u h = snoc_last ts u h
snoc_last (leaf x) u h = absurd h
snoc_last (node g ts) u h = absurd h
snoc_last (bind ks t) u h = absurd h

-- What was answered for the first parts of a form at a variance.
pub record AreAnswers {Key Id Name : Type 0} (M : Manners) (q : State Key Id Name) (h : Head) (v : Variance) (i : ℕ)
    (ts us : Tree) : Type 0 where
  pub is_list : IsList us
  pub sure : IsTrue (known us)
  pub counted : count us ≡ i
  pub related : (j : ℕ) → j < i →
      Relates (items_in q) q.store q.goals q.kept.environment (part_at (items_in q) h j v) (nth j ts) (nth j us)

-- What may be answered for all parts of a form.
pub record AnswersParts {Key Id Name : Type 0} (M : Manners) (q : State Key Id Name) (h : Head) (v : Variance)
    (ts us : Tree) : Type 0 where
  pub related : (w : Interpretation) (s : Assign) → Satisfies w q.store s → All (Holds (items_in q) w s) q.goals →
      Rel (items_in q) w q.kept.environment (parts h 0 v) (apply s ts) (apply s us)

module _ {Key Id Name : Type 0} (M : Manners) where
  pub answers_none : (q : State Key Id Name) (h : Head) (v : Variance) (ts : Tree) → AreAnswers M q h v 0 ts nil
  answers_none q h v ts = record {
    is_list = tt;
    sure = refl;
    counted = refl;
    related = λ j l. absurd (omega (arith, l));
  }

  pub answers_next : {n : ℕ} {q p : State Key Id Name} (h : Head) (v : Variance) (i : ℕ) (ts us x u : Tree) →
      Passes n q p → i < count ts → AreAnswers M q h v i ts us → x ≡ nth i ts →
      MayAnswer M p (part_at (items_in q) h i v) x u → IsTrue (known u) → AreAnswers M p h v (suc i) ts (snoc us u)
  answers_next {q = q} {p = p} h v i ts us x u g l a e m k = record {
    is_list = snoc_list us u a.is_list;
    sure = snoc_known us u a.is_list a.sure k;
    counted = snoc_count us u a.is_list ∙ ap suc a.counted;
    related = λ j z. place j (below_or i j z);
  }
    where
      place : (j : ℕ) → (j < i) ⊎ (j ≡ i) →
          Relates (items_in p) p.store p.goals p.kept.environment (part_at (items_in p) h j v) (nth j ts) (nth j (snoc us u))
      place j (inl z) =
          subst (λ t. Relates (items_in p) p.store p.goals p.kept.environment (part_at (items_in p) h j v) (nth j ts) t)
          (sym (snoc_before us u j a.is_list (omega (arith, z, a.counted))))
          (subst (λ c. Relates (items_in p) p.store p.goals p.kept.environment (part_at c h j v) (nth j ts) (nth j us))
          (sym (same_items g)) (relates_still (part_at (items_in q) h j v) (nth j ts) (nth j us) g (a.related j z)))
      place j (inr z) =
          subst (λ o. Relates (items_in p) p.store p.goals p.kept.environment (part_at (items_in p) h o v) (nth o ts)
          (nth o (snoc us u))) (sym z)
          (subst₂ (λ t y. Relates (items_in p) p.store p.goals p.kept.environment (part_at (items_in p) h i v) t y) e
          (sym (subst (λ o. nth o (snoc us u) ≡ u) a.counted (snoc_last us u a.is_list)))
          (subst (λ c. Relates (items_in p) p.store p.goals p.kept.environment (part_at c h i v) x u) (sym (same_items g))
          m.related))

  pub answers_end : (q : State Key Id Name) (h : Head) (v : Variance) (i : ℕ) (ts us : Tree) → IsList ts →
      i ≡ count ts → AreAnswers M q h v i ts us → AnswersParts M q h v ts us
  answers_end q h v i ts us l e a = record {
    related = λ w s sat all. places (items_in q) w q.kept.environment h v 0 (apply s ts) (apply s us) (apply-list s ts l)
        (apply-list s us a.is_list)
        (count_applied s ts l ∙ sym e ∙ sym a.counted ∙ sym (count_applied s us a.is_list))
        (λ j z. subst₂ (Rel (items_in q) w q.kept.environment (at (part_at (items_in q) h (0 + j) v)))
        (apply-nth s j ts l) (apply-nth s j us a.is_list)
        (subst (λ o. Rel (items_in q) w q.kept.environment (at (part_at (items_in q) h o v)) (apply s (nth j ts))
        (apply s (nth j us))) (omega arith)
        (a.related j (subst (λ o. j < o) (count_applied s ts l ∙ sym e) z) w s sat all)));
  }

  -- A form over what may be answered for its parts may be answered for it.
  pub may_form : (q : State Key Id Name) (h : Head) (v : Variance) (ts us : Tree) → IsRelatedHead h →
      AnswersParts M q h v ts us → MayAnswer M q v (node h ts) (node h us)
  may_form q h v ts us is a = record { related = λ w s sat all. forms is refl (a.related w s sat all) }

  pub may_over : (q : State Key Id Name) (v : Variance) (t us : Tree) → IsRigid t →
      AnswersParts M q (head_of t) v (direct_parts t) us → MayAnswer M q v t (form_over t us)
  may_over q v (node h ts) us is a = may_form q h v ts us (related_head h is) a
  may_over q v (leaf l) us is a = may_itself M q v (leaf l)
  may_over q v (bind ks t) us is a = may_itself M q v (bind ks t)
  may_over q v nil us is a = may_itself M q v nil
  may_over q v (cons t ts) us is a = may_itself M q v (cons t ts)

  -- Of a value the same: its type is not looked at.
  may_value : (q : State Key Id Name) (v : Variance) (t vs us : Tree) → AnswersParts M q value_branch v vs us →
      MayAnswer M q v (node value (cons t (cons (node value_branch vs) nil)))
      (node value (cons t (cons (node value_branch us) nil)))
  may_value q v t vs us a = record {
    related = λ w s sat all. forms tt refl (next_part (same refl) (next_part (branch w s sat all) no_parts));
  }
    where
      branch : (w : Interpretation) (s : Assign) → Satisfies w q.store s → All (Holds (items_in q) w s) q.goals →
          Rel (items_in q) w q.kept.environment (at (part_at (items_in q) value 1 v)) (node value_branch (apply s vs))
          (node value_branch (apply s us))
      branch w s sat all = subst (λ z. Rel (items_in q) w q.kept.environment (at z) (node value_branch (apply s vs))
          (node value_branch (apply s us))) (sym (covariantly v)) (forms tt refl (a.related w s sat all))

  pub may_const_over : (q : State Key Id Name) (v : Variance) (c us : Tree) →
      AnswersParts M q (const_head_of c) v (const_parts_of c) us → MayAnswer M q v c (const_over c us)
  may_const_over q v (node (unevaluated d) ts) us a = may_form q (unevaluated d) v ts us tt a
  may_const_over q v (node (expression k) ts) us a = may_form q (expression k) v ts us tt a
  may_const_over q v (node value (cons t (cons (node value_branch vs) nil))) us a = may_value q v t vs us a
  may_const_over q v c us a = may_itself M q v c
