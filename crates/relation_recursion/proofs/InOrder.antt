-- Terms that are related by their parts, one after another, and terms that differ.
use Rattle.std.proofs.Common.{◌≡◌, ◌≢◌, ℕ, suc, ◌<◌, refl, sym, ap, ◌∙◌, inl, inr, subst, subst₂, arith, Ok, Err}
use Rattle.std.proofs.Common.{IsTrue, List, [], ◌∷◌, ◌++◌, All}
use Rattle.term_enums.specs.declared.Variance.{Variance}
use Rattle.term_enums.specs.declared.Variance.TheVariants.{Bivariant, Invariant}
use Rattle.relation_terms.specs.declared.terms.part_kind.Part.{Part}
use Rattle.relation_terms.specs.Heads.{Sort}
use Rattle.relation_terms.specs.Trees.{Tree, node, leaf, known, IsTerm, IsList, count, nth, apply}
use Rattle.relation_terms.specs.Trees.{Assign}
use Rattle.relation_terms.specs.Parts.{Fit, part_sort, tree_sort}
use Rattle.relation_folds.specs.declared.error.TypeError.{TypeError}
use Rattle.relation_folds.specs.declared.error.RelateFault.{RelateFault}
use Rattle.relation_folds.specs.declared.error.RelateFault.TheVariants.{Memory, Budget, Unrelated}
use Rattle.relation_folds.specs.Faults.{KnowsFault}
use Rattle.relation_semantics.specs.Relation.{Interpretation, at, parts, part_at, Rel, same, atoms, forms}
use Rattle.relation_semantics.specs.Stores.{Satisfies}
use Rattle.relation_semantics.specs.Goals.{Holds}
use Rattle.relation_semantics.specs.Headline.{IsFirstOrderPair}
use Rattle.relation_semantics.specs.OneUniverse.{NamesTypesTo, BindsNoMore}
use Rattle.relation_semantics.specs.Asking.{HaveAlias}
use Rattle.relation_semantics.specs.Errors.{ErrorOf, Meeting, as_pair, as_forms, of_part_forms, AreOfOneForm, over_parts, over_aliases, one_leaf, parameters}
use Rattle.relation_semantics.specs.Errors.{PartError}
use Rattle.relation_semantics.specs.Parts.{direct_parts, head_of, IsByParts}
use Rattle.part_variances.specs.PartErrors.{named_place, IsFaultOfPart}
use Rattle.relation_semantics.specs.Making.{form_over}
use Rattle.relation_semantics.specs.Lawful.{State, Manners, MayAnswer, Passes, Refuses, RefusesAs, Related, RelatedAs}
use Rattle.relation_semantics.specs.Lawful.{items_in}
use Rattle.relation_semantics.proofs.Deferring.{said_as, parts_not_left, form_not_left, by_parts_normal, one_form_normal}
use Rattle.relation_semantics.proofs.Recording.{records_as}
use Rattle.relation_semantics.proofs.RecordingForms.{bare_parts, form_asks, asks_form}
use Rattle.relation_semantics.specs.Lawful.{RecordsJustAsked, RecordsNoMore, RecordsAs}
use Rattle.relation_semantics.specs.Lawful.{ExactResult, ExactlyRelated}
use Rattle.relation_semantics.proofs.Registered.{registered_in}
use Rattle.relation_semantics.proofs.Passing.{passes_within, passes_then, manner_then}
use Rattle.relation_steps.proofs.Fronts.{Fronted, AreParts, fronted_never, fronted_all, fronted_passes, fronted_fault, fronted_needs}
use Rattle.relation_steps.proofs.Fronts.{fronted_keeps}
use Rattle.relation_semantics.proofs.Keeping.{one_so_far, unified_inside}
use Rattle.relation_semantics.proofs.AskingSince.{form_no_more}
use Rattle.relation_steps.proofs.Fronts.{fronted_exactly, fronted_full, fronted_built, fronted_agree}
use Rattle.relation_semantics.proofs.Building.{built_parts}
use Rattle.relation_semantics.proofs.AgreeingForms.{form_agrees}
use Rattle.relation_semantics.proofs.Full.{parts_plain}
use Rattle.relation_recursion.proofs.StructuralTys.{types_never, forms_keep, parts_pair}
use Rattle.relation_recursion.proofs.StructuralConsts.{refused_here}
use Rattle.relation_recursion.proofs.Unifying.{answered_as, refused_as}
use Rattle.relation_semantics.proofs.OneUniverse.{leaves_parts, keeps_binds, binds_as}
use Rattle.relation_semantics.proofs.OneParts.{parts_equal}
use Rattle.relation_recursion.proofs.PartSizes.{weight_parts_most}
use Rattle.relation_semantics.proofs.Answering.{same_items, may_itself, AnswersParts, may_form}
use Rattle.relation_semantics.proofs.Lists.{firsts, firsts_all}
use Rattle.relation_semantics.proofs.Retelling.{stopped}
use Rattle.part_variances.proofs.Patterns.{term_related}
use Rattle.relation_recursion.proofs.PartErrors.{term_looked_at, terms_unify, part_error_never, part_error_apart}
use Rattle.relation_recursion.proofs.PartErrors.{part_error_known}
use Rattle.part_variances.proofs.PartErrors.{HaveAsManyInputs, part_complains, same_part_fault, part_still_unrelated}
use Rattle.part_variances.proofs.PartErrors.{part_fault_known}
use Rattle.relation_folds.proofs.Members.{fit_next}

module _ {Key Id Name : Type 0} {r q : State Key Id Name} (M : Manners) (v : Variance) (a b : Tree) (i : ℕ)
    (form : IsByParts a) where
  -- Some of the parts were related: no more variables are bound than there were.
  front_binds : Fronted M r q (head_of a) v i (direct_parts a) (direct_parts b) → (M r.kept.settings).is_exact → v ≡ Invariant →
      IsFirstOrderPair r.store a b → BindsNoMore r.store q.store a b
  front_binds f exact is pair =
      binds_as r.store q.store a b (direct_parts a) (direct_parts b) (λ u. leaves_parts (NamesTypesTo u) a)
      (λ u. leaves_parts (NamesTypesTo u) b) (keeps_binds r.store q.store (direct_parts a) (direct_parts b)
      (f.exact exact is (term_looked_at a form) (parts_pair r.store a b pair)).2)

  -- Memory ran out after some of the parts.
  pub terms_stopped : {X : Type 0} {w : Meeting} (tree : X → Tree) → AreOfOneForm a b →
      Fronted M r q (head_of a) v i (direct_parts a) (direct_parts b) → RelatedAs {X = X} w M r q (at v) a b tree (Err Memory)
  unfolding passes_within
  terms_stopped tree o f = stopped M v a b tree
      (passes_within (omega (arith, weight_parts_most r.store a, weight_parts_most r.store b)) f.passes)
      (forms_keep r.store q.store v a b o (one_so_far f.front))
      (λ exact is pair. (
        front_binds f exact is pair,
        unified_inside r.store q.store a b (direct_parts a) (direct_parts b) (λ s. (terms_unify a b form o s).0)
            ((f.exact exact is (term_looked_at a form) (parts_pair r.store a b pair)).1).keeps,
      ))
      (λ ha hb. f.full (parts_plain a ha) (parts_plain b hb))
      (λ k ha hb. f.built k (built_parts k a ha) (built_parts k b hb))

  -- All parts were related, and so are the two.
  terms_relate : (o : AreOfOneForm a b) → (f : Fronted M r q (head_of a) v i (direct_parts a) (direct_parts b)) →
      AreParts r.store (direct_parts a) (direct_parts b) → i ≡ count (direct_parts a) → i ≡ count (direct_parts b) →
      (w : Interpretation) (s : Assign) → Satisfies w q.store s →
      All (Holds (items_in r) w s) (r.goals ++ (f.passes).added) →
      Rel (items_in r) w r.kept.environment (at v) (apply s a) (apply s b)
  terms_relate (over_parts {h} {ts} {us} d e n) f are ea eb w s sat all =
      let whole = fronted_all (head_of a) v i (direct_parts a) (direct_parts b) are ea eb f in
      subst₂ (λ x y. Rel (items_in r) w r.kept.environment (at v) (apply s x) (apply s y)) (sym d) (sym e)
      (forms (term_related h ts (subst IsByParts d form)) refl
      (subst (λ z. Rel (items_in r) w r.kept.environment (parts h 0 v) (apply s (direct_parts z)) (apply s us)) d
      (subst (λ z. Rel (items_in r) w r.kept.environment (parts h 0 v) (apply s (direct_parts a)) (apply s (direct_parts z))) e
      (subst (λ z. Rel (items_in r) w r.kept.environment (parts (head_of z) 0 v) (apply s (direct_parts a)) (apply s (direct_parts b))) d
      (whole.relates w s sat all)))))
  terms_relate (over_aliases d e n) f are ea eb w s sat all = absurd (subst IsByParts d form)
  terms_relate (one_leaf d e) f are ea eb w s sat all = same (ap (apply s) (d ∙ sym e))
  terms_relate (parameters d e p) f are ea eb w s sat all =
      subst₂ (λ x y. Rel (items_in r) w r.kept.environment (at v) (apply s x) (apply s y)) (sym d) (sym e) (atoms p)

  pub terms_answer : {X : Type 0} {w : Meeting} (tree : X → Tree) (x : X) → AreOfOneForm a b →
      Fronted M r q (head_of a) v i (direct_parts a) (direct_parts b) → AreParts r.store (direct_parts a) (direct_parts b) →
      i ≡ count (direct_parts a) → i ≡ count (direct_parts b) → tree x ≡ a → IsTrue (known a) →
      RelatedAs w M r q (at v) a b tree (Ok x)
  unfolding passes_within
  terms_answer {w = w} tree x o f are ea eb answer k = record {
    passes = passes_within (omega (arith, weight_parts_most r.store a, weight_parts_most r.store b)) f.passes;
    verdict = record {
      outcome = record {
        later = ((f.passes).goes).later;
        goals_in = registered_in (f.passes).added (f.passes).goals_in;
        relates = terms_relate o f are ea eb;
        keeps = λ w s sat z. (f.front).keeps w s sat (parts_equal a b o s z);
      };
      answer = subst (MayAnswer M q v a) (sym answer) (may_itself M q v a);
      known = subst (λ u. IsTrue (known u)) (sym answer) k;
      agrees = λ k st began.
          let z = fronted_agree (head_of a) v i (direct_parts a) (direct_parts b) are ea eb f k st began in
          (form_agrees r.kept.settings (items_in r) st v a b o z.0, z.1);
    };
    exact = λ exact is pair.
        answered_as r.store q.store a b (direct_parts a) (direct_parts b) (terms_unify a b form o)
        (λ u. leaves_parts (NamesTypesTo u) a) (λ u. leaves_parts (NamesTypesTo u) b)
        (fronted_exactly (head_of a) v i (direct_parts a) (direct_parts b) are ea eb f exact is (term_looked_at a form)
        (parts_pair r.store a b pair));
    full = λ ha hb. f.full (parts_plain a ha) (parts_plain b hb);
    built = λ k ha hb. f.built k (built_parts k a ha) (built_parts k b hb);
    records = records w;
  }
    where
      normal : HaveAlias a b → ⊥
      normal (inl h) = by_parts_normal a form h
      normal (inr h) = one_form_normal a b o (by_parts_normal a form) h

      just : RecordsJustAsked M r q v a b
      just promised bare = records_as (λ z w. form_asks (items_in r) v a b i normal z ea eb o w)
          (λ z w. asks_form (items_in r) v a b i normal z ea eb o
          (λ h ts d. term_related h ts (subst IsByParts d form)) w)
          (f.records promised (bare_parts r.kept.settings a b bare))

      more : RecordsNoMore M r q v a b
      more promised = form_no_more r.kept.settings (items_in r) r.store q.store v a b i normal are.left_list
          are.right_list ea eb (λ h ts d. term_related h ts (subst IsByParts d form)) o (f.no_more promised)

      records : (w : Meeting) → RecordsAs w M r q (at v) a b
      records as_pair = (just, more)
      records as_forms = λ none. (just, more)

  -- After some of the parts it is seen that the two are not of one form.
  pub terms_unlike : {X : Type 0} {w : Meeting} (tree : X → Tree) (k l : Sort) (e : TypeError Key Id Name) → v ≢ Bivariant →
      IsByParts b → IsTerm k a → IsTerm l b → IsTrue (known a) → IsTrue (known b) → PartError q.meaning a b e →
      Fronted M r q (head_of a) v i (direct_parts a) (direct_parts b) →
      RelatedAs {X = X} w M r q (at v) a b tree (Err (Unrelated e))
  unfolding passes_within
  terms_unlike {w = w} tree k l e d other ta tb ka kb unlike f = record {
    passes = passes_within (omega (arith, weight_parts_most r.store a, weight_parts_most r.store b)) f.passes;
    verdict = (
      part_error_never q.meaning r.store v k l a b e form other ta tb unlike,
      said_as w (parts_not_left q.kept.settings a b form other) (of_part_forms d unlike),
      part_error_known q.meaning a b e ka kb unlike,
    );
    exact = λ exact is pair.
        (part_error_apart q.meaning r.store k l a b e form other ta tb unlike, front_binds f exact is pair);
    full = λ ha hb. f.full (parts_plain a ha) (parts_plain b hb);
    built = λ k ha hb. f.built k (built_parts k a ha) (built_parts k b hb);
    records = tt;
  }

  -- Two parts were refused, and so are the two.
  module _ (o : AreOfOneForm a b) (f : Fronted M r q (head_of a) v i (direct_parts a) (direct_parts b))
      (are : AreParts r.store (direct_parts a) (direct_parts b)) (k l : Sort) (ta : IsTerm k a) (tb : IsTerm l b)
      (many : HaveAsManyInputs a b i) (x y : Tree) (lx : i < count (direct_parts a)) (ly : i < count (direct_parts b))
      (ex : x ≡ nth i (direct_parts a)) (ey : y ≡ nth i (direct_parts b)) where
    term_refuses : (w : Meeting) {n : ℕ} {p : State Key Id Name} (g : Passes n q p) (e d : RelateFault Key Id Name) →
        IsFaultOfPart (named_place a i) e d → Refuses q p (part_at (items_in r) (head_of a) i v) x y e →
        RefusesAs w r p (at v) a b d
    term_refuses w {p = p} g Memory d t h =
        subst (RefusesAs w r p (at v) a b) (sym (same_part_fault (named_place a i) Memory d t (λ e z. cc)))
        (forms_keep r.store p.store v a b o
        (fronted_keeps (head_of a) v i (direct_parts a) (direct_parts b) x y f lx ly ex ey p are h))
    term_refuses w {p = p} g Budget d t h =
        subst (RefusesAs w r p (at v) a b) (sym (same_part_fault (named_place a i) Budget d t (λ e z. cc))) (
          h.0,
          λ j ha hb. fronted_needs (head_of a) v i (direct_parts a) (direct_parts b) x y f lx ly ex ey h.1 j
              (built_parts j a ha) (built_parts j b hb),
          forms_keep r.store p.store v a b o
              (fronted_keeps (head_of a) v i (direct_parts a) (direct_parts b) x y f lx ly ex ey p are h.2),
        )
    term_refuses w {p = p} g (Unrelated e) d t h =
        let items : items_in p ≡ items_in r = same_items g ∙ same_items f.passes in
        let z = part_complains p.meaning p.kept.settings (items_in p) p.store v k l a b i ta tb form o lx x y ex ey many e d t
        (subst (λ c. ErrorOf p.meaning p.kept.settings (items_in p) p.store (part_at c (head_of a) i v) e x y) (sym items) h.1) in
        subst (RefusesAs w r p (at v) a b) (sym z.1) (
          types_never r.store v a b o (fronted_never (head_of a) v i (direct_parts a) (direct_parts b) x y f lx ly ex ey are h.0),
          said_as w (form_not_left p.kept.settings a b form o) z.2,
          subst (KnowsFault p.meaning) z.1 (part_fault_known (named_place a i) (Unrelated e) d p.meaning t h.2),
        )

    whole_term : (A B : Type 0) (p : State Key Id Name) (e : RelateFault Key Id Name) →
        ExactlyRelated {X = A} (M q.kept.settings) q.store p.store (part_at (items_in r) (head_of a) i v) x y (Err e) →
        ExactlyRelated {X = B} (M r.kept.settings) r.store p.store v a b (Err e)
    whole_term A B p e g exact is pair =
        refused_as r.store p.store a b (direct_parts a) (direct_parts b) (terms_unify a b form o)
        (λ u. leaves_parts (NamesTypesTo u) a) (λ u. leaves_parts (NamesTypesTo u) b) A B e
        (fronted_fault (head_of a) v i (direct_parts a) (direct_parts b) x y f lx ly ex ey A A p e are exact is
        (term_looked_at a form) (parts_pair r.store a b pair) (λ z. g (manner_then M (λ m. m.is_exact) f.passes z)))

    term_exactly : (A B : Type 0) (p : State Key Id Name) (e d : RelateFault Key Id Name) → IsFaultOfPart (named_place a i) e d →
        ExactlyRelated {X = A} (M q.kept.settings) q.store p.store (part_at (items_in r) (head_of a) i v) x y (Err e) →
        ExactlyRelated {X = B} (M r.kept.settings) r.store p.store v a b (Err d)
    term_exactly A B p Memory d t g exact is pair = subst (λ z. ExactResult {X = B} r.store p.store a b (Err z))
        (sym (same_part_fault (named_place a i) Memory d t (λ e z. cc))) (whole_term A B p Memory g exact is pair)
    term_exactly A B p Budget d t g exact is pair = subst (λ z. ExactResult {X = B} r.store p.store a b (Err z))
        (sym (same_part_fault (named_place a i) Budget d t (λ e z. cc))) (whole_term A B p Budget g exact is pair)
    term_exactly A B p (Unrelated e) d t g exact is pair =
        let z = part_still_unrelated (named_place a i) (Unrelated e) d e refl t in
        subst (λ z. ExactResult {X = B} r.store p.store a b (Err z)) (sym z.1)
        (whole_term A B p (Unrelated e) g exact is pair)

    pub term_refused : {A B : Type 0} {w : Meeting} {p : State Key Id Name} (tree : A → Tree) (answer : B → Tree)
        (e d : RelateFault Key Id Name) → IsFaultOfPart (named_place a i) e d →
        Related M q p (part_at (items_in r) (head_of a) i v) x y tree (Err e) →
        RelatedAs w M r p (at v) a b answer (Err d)
    unfolding passes_within fronted_passes passes_then
    term_refused {A} {B} {w} {p} tree answer e d t g = record {
      passes = passes_within (omega (arith, weight_parts_most r.store a, weight_parts_most r.store b))
          (fronted_passes (head_of a) v i (direct_parts a) (direct_parts b) x y f lx ly ex ey g.passes);
      verdict = term_refuses w g.passes e d t g.verdict;
      exact = term_exactly A B p e d t g.exact;
      full = λ ha hb. fronted_full (head_of a) v i (direct_parts a) (direct_parts b) x y f lx ly ex ey g.full
          (parts_plain a ha) (parts_plain b hb);
      built = λ k ha hb. fronted_built (head_of a) v i (direct_parts a) (direct_parts b) x y f lx ly ex ey (g.passes).added g.built
          k (built_parts k a ha) (built_parts k b hb);
      records = tt;
    }

-- Two terms that are not of one form.
module _ {Key Id Name : Type 0} {X : Type 0} (M : Manners) (r : State Key Id Name) (v : Variance) (tree : X → Tree) where
  pub terms_differ : {w : Meeting} (k l : Sort) (a b : Tree) (e : TypeError Key Id Name) → v ≢ Bivariant → IsByParts a → IsByParts b →
      IsTerm k a → IsTerm l b → IsTrue (known a) → IsTrue (known b) → PartError r.meaning a b e →
      RelatedAs w M r r (at v) a b tree (Err (Unrelated e))
  terms_differ {w = w} k l a b e d form other ta tb ka kb unlike =
      refused_here M r v tree a b e (part_error_never r.meaning r.store v k l a b e form other ta tb unlike)
      (said_as w (parts_not_left r.kept.settings a b form other) (of_part_forms d unlike)) (part_error_known r.meaning a b e ka kb unlike)
      (λ pair. part_error_apart r.meaning r.store k l a b e form other ta tb unlike)

-- A form over what may be answered for its parts.
pub may_over_term : {Key Id Name : Type 0} (M : Manners) (q : State Key Id Name) (v : Variance) (t us : Tree) →
    IsByParts t → AnswersParts M q (head_of t) v (direct_parts t) us → MayAnswer M q v t (form_over t us)
may_over_term M q v (node h ts) us o a = may_form M q h v ts us (term_related h ts o) a
may_over_term M q v (leaf l) us o a = may_itself M q v (leaf l)
may_over_term M q v t us o a = absurd o

-- One more part that fits its place.
module _ {Key Id : Type 0} where
  pub part_pushed : (xs : List (Part Key Id)) (x : Part Key Id) (ts : Tree) (i : ℕ) → i < count ts →
      Fit xs (firsts i ts) → part_sort x ≡ tree_sort (nth i ts) → Fit (xs ++ x ∷ []) (firsts (suc i) ts)
  part_pushed xs x ts i l f k = fit_next x i ts xs l f k

  pub parts_end : (xs : List (Part Key Id)) (ts : Tree) (i : ℕ) → IsList ts → i ≡ count ts → Fit xs (firsts i ts) →
      Fit xs ts
  parts_end xs ts i l e f = subst (Fit xs) (ap (λ j. firsts j ts) e ∙ firsts_all ts l) f
