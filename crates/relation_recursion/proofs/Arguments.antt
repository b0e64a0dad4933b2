-- Forms that are related by their parts, one after another.
use Rattle.std.proofs.Common.{◌≡◌, ◌≢◌, ℕ, ◌<◌, refl, sym, ap, ◌∙◌, ◌↔◌, subst, subst₂, inr, arith, IsTrue, Ok, Err}
use Rattle.term_enums.specs.declared.Variance.{Variance}
use Rattle.relation_terms.specs.Heads.{AliasTermKind, Head, adt, fn_def, alias, alias_term, unevaluated}
use Rattle.relation_terms.specs.Heads.{arguments, trait_ref}
use Rattle.relation_terms.specs.Trees.{Tree, node, Assign, apply, known, count, nth}
use Rattle.relation_terms.specs.Meaning.{Meaning, Extends}
use Rattle.relation_terms.specs.Predicates.{alias_term_kind, alias_term_id}
use Rattle.relation_terms.specs.declared.terms.keys.TyKey.{TyKey}
use Rattle.relation_terms.specs.declared.terms.keys.ArgsKey.{ArgsKey}
use Rattle.relation_folds.specs.declared.error.TypeError.{TypeError}
use Rattle.relation_folds.specs.declared.error.RelateFault.{RelateFault}
use Rattle.relation_folds.specs.declared.error.RelateFault.TheVariants.{Memory, Budget, Unrelated}
use Rattle.relation_steps.specs.declared.arguments.ArgVariances.{ArgVariances}
use Rattle.relation_steps.specs.declared.arguments.ArgVariances.TheVariants.{Invariant, Adt, FnDef, AliasTerm, Trait}
use Rattle.relation_semantics.specs.Relation.{Items, at, parts, forms, part_at, plain, plain_kind, IsRelatedHead, IsAlias, IsAliasHead}
use Rattle.relation_semantics.specs.Stores.{Store}
use Rattle.relation_semantics.specs.Outcomes.{KeepsOne}
use Rattle.relation_semantics.specs.Settings.{Settings}
use Rattle.relation_semantics.specs.FirstOrder.{IsFirstOrderHead, Unifies}
use Rattle.relation_semantics.specs.Errors.{ErrorOf, by_forms, IsHandedOn, of_parts}
use Rattle.relation_semantics.specs.Errors.{of_alias_term_parts, AreOfOneForm}
use Rattle.relation_semantics.specs.Errors.{over_parts, over_aliases, one_leaf, parameters}
use Rattle.relation_semantics.proofs.Deferring.{normal_not_left}
use Rattle.relation_steps.specs.Arguments.{args_head, AreOverItem, adts, functions}
use Rattle.relation_folds.specs.Faults.{KnowsError}
use Rattle.relation_semantics.specs.OneUniverse.{BindsNoMore}
use Rattle.term_enums.specs.declared.Variance.TheVariants.{Invariant as AtInvariance}
use Rattle.relation_semantics.specs.Lawful.{State, Manners, MayAnswer, Passes, Refuses, Related}
use Rattle.relation_semantics.specs.Lawful.{ExactlyRelated, items_in}
use Rattle.relation_recursion.proofs.PartSizes.{weight_parts_most}
use Rattle.relation_semantics.proofs.Registered.{registered_in}
use Rattle.relation_semantics.proofs.Passing.{passes_within, passes_then, manner_then}
use Rattle.relation_semantics.specs.Asking.{HaveAlias}
use Rattle.relation_semantics.proofs.Asking.{neither_alias}
use Rattle.relation_semantics.proofs.Recording.{front_ends}
use Rattle.relation_semantics.proofs.RecordingForms.{bare_parts}
use Rattle.relation_steps.proofs.Fronts.{Fronted, AreParts, IsLookedAt, fronted_all, fronted_never, fronted_passes, fronted_fault, fronted_exactly, fronted_needs}
use Rattle.relation_steps.proofs.Fronts.{fronted_full, fronted_built, fronted_agree, fronted_keeps}
use Rattle.relation_semantics.proofs.Keeping.{one_inside, one_so_far, unified_inside}
use Rattle.relation_semantics.proofs.AskingSince.{form_asks_since, parts_no_more}
use Rattle.relation_semantics.proofs.Answering.{same_items, may_itself}
use Rattle.relation_semantics.proofs.OneUniverse.{keeps_binds, binds_as}
use Rattle.relation_recursion.proofs.Unifying.{first_order_parts, one_head, answered_as, refused_by}
use Rattle.relation_semantics.proofs.Erased.{forms_unify_by_parts}
use Rattle.relation_semantics.proofs.Retelling.{stopped}
use Rattle.relation_semantics.specs.Headline.{IsFirstOrderPair}
use Rattle.relation_terms.specs.Heads.{value_type}

-- Forms but for those that relating looks at without a kind.
abbrev IsPlain : Head → Type 0
IsPlain (alias k d) = ⊥
IsPlain (alias_term k d) = ⊥
IsPlain h = Unit {0}

plain_itself : (h : Head) → IsPlain h → plain h ≡ h
plain_itself (alias k d) p = absurd p
plain_itself (alias_term k d) p = absurd p
plain_itself h p = refl

plain_back : (h : Head) → IsPlain (plain h) → IsPlain h
plain_back (alias k d) p = p
plain_back (alias_term k d) p = p
plain_back h p = tt

plain_alone : (h k : Head) → IsPlain h → plain h ≡ plain k → h ≡ k
plain_alone h k p e =
    let whole : plain k ≡ h = sym e ∙ plain_itself h p in
    sym whole ∙ plain_itself k (plain_back k (subst IsPlain (sym whole) p))

alias_term_alone : (k : Head) (a : AliasTermKind) (d : ℕ) → alias_term a d ≡ plain k →
    (l : AliasTermKind) × (k ≡ alias_term l d) × (a ≡ plain_kind l)
alias_term_alone (alias_term l e) a d p =
    (l, (let q : d ≡ e = cc in ap (alias_term l) (sym q)), (cc))
alias_term_alone (alias l e) a d p = absurd (cc)
alias_term_alone k a d p = absurd (cc)

-- Arguments are related part by part, and their errors are those of their parts.
module _ {Key Id Name : Type 0} (m : Meaning Key Id Name) where
  pub args_related_head : (d : ArgVariances Id) → IsRelatedHead (args_head m d)
  args_related_head Invariant = tt
  args_related_head (Adt d) = tt
  args_related_head (FnDef d) = tt
  args_related_head (AliasTerm k) = tt
  args_related_head (Trait d) = tt

  -- No such form is an alias, nor is one beside which it is related.
  pub args_normal : (d : ArgVariances Id) (k : Head) (ts us : Tree) → plain (args_head m d) ≡ plain k →
      HaveAlias (node (args_head m d) ts) (node k us) → ⊥
  args_normal d k ts us e = neither_alias (node (args_head m d) ts) (node k us) (left d) (λ o. right d k e o)
    where
      left : (d : ArgVariances Id) → IsAliasHead (args_head m d) → ⊥
      left Invariant o = o
      left (Adt d) o = o
      left (FnDef d) o = o
      left (AliasTerm k) o = o
      left (Trait d) o = o

      right : (d : ArgVariances Id) (k : Head) → plain (args_head m d) ≡ plain k → IsAliasHead k → ⊥
      right Invariant (alias k i) e o = absurd cc
      right (Adt d) (alias k i) e o = absurd cc
      right (FnDef d) (alias k i) e o = absurd cc
      right (AliasTerm a) (alias k i) e o = absurd cc
      right (Trait d) (alias k i) e o = absurd cc
      right Invariant (unevaluated i) e o = absurd cc
      right (Adt d) (unevaluated i) e o = absurd cc
      right (FnDef d) (unevaluated i) e o = absurd cc
      right (AliasTerm a) (unevaluated i) e o = absurd cc
      right (Trait d) (unevaluated i) e o = absurd cc
      right d k e o = absurd o

  pub args_looked_at : (d : ArgVariances Id) → IsLookedAt (args_head m d)
  args_looked_at Invariant = tt
  args_looked_at (Adt d) = tt
  args_looked_at (FnDef d) = tt
  args_looked_at (AliasTerm k) = tt
  args_looked_at (Trait d) = tt

  -- Two first-order ones are over one form.
  pub args_first_order : (d : ArgVariances Id) (k : Head) → plain (args_head m d) ≡ plain k →
      IsFirstOrderHead (args_head m d) → args_head m d ≡ k
  args_first_order Invariant k e f = plain_alone arguments k tt e
  args_first_order (Adt d) k e f = plain_alone (adt (m.id d.0)) k tt e
  args_first_order (FnDef d) k e f = plain_alone (fn_def (m.id d.0)) k tt e
  args_first_order (AliasTerm a) k e f = absurd f
  args_first_order (Trait d) k e f = plain_alone (trait_ref (m.id d.0)) k tt e

  -- An error of two arguments is one of the forms.
  module _ {A : Type 0} (p : Meaning Key Id A) (set : Settings) (c : Items) (st : Store) (v : Variance)
      (e : TypeError Key Id A) (ts us : Tree) (i : ℕ) (n : count ts ≡ count us) (l : i < count ts) where
    of_one : (h k : Head) → IsPlain h → plain h ≡ plain k → ((xs : Tree) → IsAlias (node h xs) → ⊥) →
        IsHandedOn e h i (nth i ts) (nth i us) → ErrorOf p set c st (part_at c h i v) e (nth i ts) (nth i us) →
        ErrorOf p set c st v e (node h ts) (node k us)
    of_one h k o q normal handed u =
        subst (λ z. ErrorOf p set c st v e (node h ts) (node z us)) (plain_alone h k o q)
        (by_forms (normal_not_left set (node h ts) (node h us) (normal ts) (normal us))
        (of_parts i refl refl n l handed u))

    pub args_complain : (d : ArgVariances Id) (k : Head) → plain (args_head m d) ≡ plain k →
        ErrorOf p set c st (part_at c (args_head m d) i v) e (nth i ts) (nth i us) →
        ErrorOf p set c st v e (node (args_head m d) ts) (node k us)
    args_complain Invariant k q u = of_one arguments k tt q (λ xs o. o) tt u
    args_complain (Adt d) k q u = of_one (adt (m.id d.0)) k tt q (λ xs o. o) tt u
    args_complain (FnDef d) k q u = of_one (fn_def (m.id d.0)) k tt q (λ xs o. o) tt u
    args_complain (Trait d) k q u = of_one (trait_ref (m.id d.0)) k tt q (λ xs o. o) tt u
    args_complain (AliasTerm a) k q u =
        let h = alias_term (alias_term_kind a) (m.id (alias_term_id a)) in
        let (b, is, same) = alias_term_alone k (plain_kind (alias_term_kind a)) (m.id (alias_term_id a)) q in
        let j = alias_term b (m.id (alias_term_id a)) in
        subst (λ z. ErrorOf p set c st v e (node h ts) (node z us)) (sym is)
        (by_forms (normal_not_left set (node h ts) (node j us) (λ o. o) (λ o. o))
        (of_alias_term_parts i refl refl same n l u))

module _ {Key Id Name : Type 0} {r q : State Key Id Name} (M : Manners) (v : Variance) (h k : Head)
    (ts us : Tree) (i : ℕ) (f : Fronted M r q h v i ts us) (are : AreParts r.store ts us) (looked : IsLookedAt h) where
  apart : h ≢ value_type
  apart e = subst IsLookedAt e looked

  list_pair : IsFirstOrderPair r.store (node h ts) (node k us) → IsFirstOrderPair r.store ts us
  list_pair pair = record {
    left = first_order_parts (node h ts) pair.left;
    right = first_order_parts (node k us) pair.right;
    bindings = pair.bindings;
  }

  -- What makes the forms one makes their parts one, and so too up to erasure.
  one_list : (s : Assign) → apply s (node h ts) ≡ apply s (node k us) → apply s ts ≡ apply s us
  one_list s e = cc

  unified : (s : Assign) → Unifies s (node h ts) (node k us) → Unifies s ts us
  unified s e = (forms_unify_by_parts s h ts us apart).0
      (subst (λ z. Unifies s (node h ts) (node z us)) (sym (one_head s h k ts us e)) e)

  -- All parts of two forms were related, and so are the forms.
  pub form_related : {X : Type 0} (tree : X → Tree) (x : X) → plain h ≡ plain k → (IsFirstOrderHead h → h ≡ k) →
      IsRelatedHead h → (HaveAlias (node h ts) (node k us) → ⊥) → i ≡ count ts → count ts ≡ count us →
      tree x ≡ node h ts → IsTrue (known (node h ts)) → Related M r q v (node h ts) (node k us) tree (Ok x)
  unfolding passes_within
  form_related tree x alike first is normal e n answer sure = record {
    passes = passes_within (omega (arith, weight_parts_most r.store (node h ts), weight_parts_most r.store (node k us)))
        f.passes;
    verdict = record {
      outcome = record {
        later = ((f.passes).goes).later;
        goals_in = registered_in (f.passes).added (f.passes).goals_in;
        relates = λ w s sat all. forms is alike ((fronted_all h v i ts us are e (e ∙ n) f).relates w s sat all);
        keeps = λ w s sat z. (f.front).keeps w s sat (one_list s z);
      };
      answer = subst (MayAnswer M q v (node h ts)) (sym answer) (may_itself M q v (node h ts));
      known = subst (λ u. IsTrue (known u)) (sym answer) sure;
      agrees = λ k st began. let z = fronted_agree h v i ts us are e (e ∙ n) f k st began in (inr (alike, z.0), z.1);
    };
    exact = λ exact is' pair.
        answered_as r.store q.store (node h ts) (node k us) ts us
        (λ s. subst (λ z. Unifies s (node h ts) (node z us) ↔ Unifies s ts us) (first (pair.left).0)
        (forms_unify_by_parts s h ts us apart)) (λ u z. z) (λ u z. z)
        (fronted_exactly h v i ts us are e (e ∙ n) f exact is' looked (list_pair pair));
    full = f.full;
    built = λ j ha hb. f.built j ha.1 hb.1;
    records = (
      λ promised bare. front_ends (items_in r) h k v i ts us normal is alike e (e ∙ n)
          (f.records promised (bare_parts r.kept.settings (node h ts) (node k us) bare)),
      λ promised. parts_no_more r.kept.settings (items_in r) r.store q.store v h i (node h ts) (node k us) ts us
          (λ z p. form_asks_since (items_in r) q.store z v h k ts us p.0 are.left_list are.right_list normal is alike
          (subst (λ m. p.0 < m) e p.1) (subst (λ m. p.0 < m) (e ∙ n) p.1) p.2) (λ j ha. ha.1) (λ j hb. hb.1)
          (f.no_more promised),
    );
  }

  -- What made the parts one made the forms one.
  form_keeps : (after : Store) → KeepsOne (parts h 0 v) r.store after ts us →
      KeepsOne (at v) r.store after (node h ts) (node k us)
  form_keeps after o = one_inside (at v) (parts h 0 v) r.store after (node h ts) (node k us) ts us one_list o

  front_binds : (M r.kept.settings).is_exact → v ≡ AtInvariance → IsFirstOrderPair r.store (node h ts) (node k us) →
      BindsNoMore r.store q.store (node h ts) (node k us)
  front_binds exact is pair = binds_as r.store q.store (node h ts) (node k us) ts us (λ u z. z) (λ u z. z)
      (keeps_binds r.store q.store ts us (f.exact exact is looked (list_pair pair)).2)

  -- Memory ran out after some of the parts.
  pub form_stopped : {X : Type 0} (tree : X → Tree) →
      Related {X = X} M r q v (node h ts) (node k us) tree (Err Memory)
  unfolding passes_within
  form_stopped tree = stopped M v (node h ts) (node k us) tree
      (passes_within (omega (arith, weight_parts_most r.store (node h ts), weight_parts_most r.store (node k us))) f.passes)
      (form_keeps q.store (one_so_far f.front))
      (λ exact is pair. (
        front_binds exact is pair,
        unified_inside r.store q.store (node h ts) (node k us) ts us unified
            ((f.exact exact is looked (list_pair pair)).1).keeps,
      ))
      f.full (λ j ha hb. f.built j ha.1 hb.1)

  -- After some of the parts it is seen that the forms are never one.
  pub form_unlike : {X : Type 0} (tree : X → Tree) (e : TypeError Key Id Name) → h ≢ k →
      ErrorOf q.meaning q.kept.settings (items_in q) q.store v e (node h ts) (node k us) → KnowsError q.meaning e →
      Related {X = X} M r q v (node h ts) (node k us) tree (Err (Unrelated e))
  unfolding passes_within
  form_unlike tree e differ says sure = record {
    passes = passes_within (omega (arith, weight_parts_most r.store (node h ts), weight_parts_most r.store (node k us)))
        f.passes;
    verdict = ((λ w s sat z. differ (cc)), says, sure);
    exact = λ exact is pair. ((λ s sol z. differ (one_head s h k ts us z)), front_binds exact is pair);
    full = f.full;
    built = λ j ha hb. f.built j ha.1 hb.1;
    records = tt;
  }

  -- Two parts of two forms were refused, and so are the forms.
  module _ (x y : Tree) (lx : i < count ts) (ly : i < count us) (ex : x ≡ nth i ts) (ey : y ≡ nth i us)
      (complains : (p : State Key Id Name) (g : TypeError Key Id Name) →
      ErrorOf p.meaning p.kept.settings (items_in p) p.store (part_at (items_in p) h i v) g (nth i ts) (nth i us) →
      ErrorOf p.meaning p.kept.settings (items_in p) p.store v g (node h ts) (node k us)) where
    refuses : {n : ℕ} {p : State Key Id Name} (l : Passes n q p) (e : RelateFault Key Id Name) →
        Refuses q p (part_at (items_in r) h i v) x y e → Refuses r p v (node h ts) (node k us) e
    refuses {p = p} l (Unrelated g) o = (
      (λ w s sat z. fronted_never h v i ts us x y f lx ly ex ey are o.0 w s sat (one_list s z)),
      complains p g
          (subst₂ (ErrorOf p.meaning p.kept.settings (items_in p) p.store (part_at (items_in p) h i v) g) ex ey
          (subst (λ c. ErrorOf p.meaning p.kept.settings (items_in p) p.store (part_at c h i v) g x y)
          (sym (same_items l ∙ same_items f.passes)) o.1)),
      o.2,
    )
    refuses {p = p} l Budget o = (
      o.0,
      λ j ha hb. fronted_needs h v i ts us x y f lx ly ex ey o.1 j ha.1 hb.1,
      form_keeps p.store (fronted_keeps h v i ts us x y f lx ly ex ey p are o.2),
    )
    refuses {p = p} l Memory o = form_keeps p.store (fronted_keeps h v i ts us x y f lx ly ex ey p are o)

    exactly : (A B : Type 0) (p : State Key Id Name) (e : RelateFault Key Id Name) →
        ExactlyRelated {X = A} (M q.kept.settings) q.store p.store (part_at (items_in r) h i v) x y (Err e) →
        ExactlyRelated {X = B} (M r.kept.settings) r.store p.store v (node h ts) (node k us) (Err e)
    exactly A B p e g exact is pair =
        refused_by r.store p.store (node h ts) (node k us) ts us unified (λ u z. z) (λ u z. z) A B e
        (fronted_fault h v i ts us x y f lx ly ex ey A A p e are exact is looked
        (list_pair pair) (λ z. g (manner_then M (λ m. m.is_exact) f.passes z)))

    pub form_refused : {A B : Type 0} {p : State Key Id Name} (tree : A → Tree) (answer : B → Tree)
        (e : RelateFault Key Id Name) → Related M q p (part_at (items_in r) h i v) x y tree (Err e) →
        Related M r p v (node h ts) (node k us) answer (Err e)
    unfolding passes_within fronted_passes passes_then
    form_refused {A} {B} {p} tree answer e g = record {
      passes = passes_within (omega (arith, weight_parts_most r.store (node h ts), weight_parts_most r.store (node k us)))
          (fronted_passes h v i ts us x y f lx ly ex ey g.passes);
      verdict = refuses g.passes e g.verdict;
      exact = exactly A B p e g.exact;
      full = fronted_full h v i ts us x y f lx ly ex ey g.full;
      built = λ j ha hb. fronted_built h v i ts us x y f lx ly ex ey (g.passes).added g.built j ha.1 hb.1;
      records = tt;
    }

-- Items have the numbers that they had.
pub args_heads : {Key Id Name : Type 0} {m n : Meaning Key Id Name} → Extends m n → (d : ArgVariances Id) →
    args_head n d ≡ args_head m d
args_heads e Invariant = refl
args_heads e (Adt d) = ap adt (e.id d.0)
args_heads e (FnDef d) = ap fn_def (e.id d.0)
args_heads e (AliasTerm k) = ap (alias_term (alias_term_kind k)) (e.id (alias_term_id k))
args_heads e (Trait d) = ap trait_ref (e.id d.0)

-- Two types of one form, one over an item and the other over an item in the same form: the items are one.
pub over_one_adt : (d e : ℕ) (a b ts us : Tree) → a ≡ node (adt d) ts → b ≡ node (adt e) us → AreOfOneForm a b →
    AreOverItem d a b ts us
over_one_adt d e a b ts us x y (over_parts p q n) =
    let k : e ≡ d = cc in adts x (y ∙ ap (λ z. node (adt z) us) k)
over_one_adt d e a b ts us x y (over_aliases p q n) = cc
over_one_adt d e a b ts us x y (one_leaf p q) = cc
over_one_adt d e a b ts us x y (parameters p q i) = cc

pub over_one_function : (d e : ℕ) (a b ts us : Tree) → a ≡ node (fn_def d) ts → b ≡ node (fn_def e) us →
    AreOfOneForm a b → AreOverItem d a b ts us
over_one_function d e a b ts us x y (over_parts p q n) =
    let k : e ≡ d = cc in functions x (y ∙ ap (λ z. node (fn_def z) us) k)
over_one_function d e a b ts us x y (over_aliases p q n) = cc
over_one_function d e a b ts us x y (one_leaf p q) = cc
over_one_function d e a b ts us x y (parameters p q i) = cc

-- The lists that two known types are over are known.
pub over_knows : (d : ℕ) (a b ts us : Tree) → AreOverItem d a b ts us → IsTrue (known a) → IsTrue (known b) →
    IsTrue (known ts) × IsTrue (known us)
over_knows d a b ts us (adts p q) x y =
    (subst (λ z. IsTrue (known z)) p x, subst (λ z. IsTrue (known z)) q y)
over_knows d a b ts us (functions p q) x y =
    (subst (λ z. IsTrue (known z)) p x, subst (λ z. IsTrue (known z)) q y)

-- They are over them still while keys are added to.
pub over_later : {Key Id Name : Type 0} {m n : Meaning Key Id Name} (e : Extends m n) (d : Id) (a b : TyKey Key)
    (ts us : ArgsKey Key) → IsTrue (known (m.ty a)) → IsTrue (known (m.ty b)) →
    AreOverItem (m.id d) (m.ty a) (m.ty b) (m.args ts) (m.args us) →
    AreOverItem (n.id d) (n.ty a) (n.ty b) (n.args ts) (n.args us)
over_later {m = m} {n = n} e d a b ts us x y h =
    let both = over_knows (m.id d) (m.ty a) (m.ty b) (m.args ts) (m.args us) h x y in
    subst₂ (λ t u. AreOverItem (n.id d) t u (n.args ts) (n.args us)) (sym (e.ty a x)) (sym (e.ty b y))
    (subst₂ (λ t u. AreOverItem (n.id d) (m.ty a) (m.ty b) t u) (sym (e.args ts both.0)) (sym (e.args us both.1))
    (subst (λ i. AreOverItem i (m.ty a) (m.ty b) (m.args ts) (m.args us)) (sym (e.id d)) h))
