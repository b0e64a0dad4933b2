-- Two clauses that were made to say one thing, or told apart: of one trait, or of one item.
use Rattle.std.proofs.Common.{◌≡◌, ◌∙◌, ℕ, suc, refl, sym, ap, ap₂, subst, subst₂, [], Some, None, IsTrue, true}
use Rattle.std.specs.Prelude.{IfOk, Result, Ok, Err}
use Rattle.std.proofs.lemmas.Bool.{and_parts}
use Rattle.std.proofs.lemmas.List.Elements.{All-nil}
use Rattle.term_enums.specs.declared.Variance.TheVariants.{Invariant}
use Rattle.relation_terms.specs.declared.predicate.alias_term.ProjectionPredicate.{ProjectionPredicate}
use Rattle.relation_terms.specs.declared.predicate.kinds.ClauseKind.{ClauseKind}
use Rattle.relation_terms.specs.declared.predicate.kinds.ClauseKind.TheVariants.{Trait, Projection}
use Rattle.relation_terms.specs.declared.predicate.trait_ref.TraitPredicate.{TraitPredicate}
use Rattle.relation_terms.specs.declared.terms.keys.ArgsKey.{ArgsKey}
use Rattle.relation_terms.specs.declared.terms.keys.ClauseKey.{ClauseKey}
use Rattle.relation_terms.specs.declared.terms.keys.ParamEnvKey.{ParamEnvKey}
use Rattle.relation_terms.specs.Erasure.{erase}
use Rattle.relation_terms.specs.Heads.{Leaf, variable, AliasTermKind, arguments, projection, alias_term}
use Rattle.relation_terms.specs.Trees.{Tree, node, bind, nil, cons, inst, known, count, Assign, apply}
use Rattle.relation_terms.specs.Meaning.{Meaning, Extends, term_tree}
use Rattle.relation_terms.specs.Predicates.{alias_term_kind, alias_term_id, clause_kind_tree}
use Rattle.relation_terms.proofs.Paths.{parts_path, first_path, rest_path}
use Rattle.relation_terms.proofs.Stays.{stays_term}
use Rattle.relation_semantics.specs.Bound.{IsWellBound}
use Rattle.relation_semantics.specs.Contexts.{Context, KnowsEnv}
use Rattle.relation_semantics.specs.FirstOrder.{IsFirstOrder, Unifies}
use Rattle.relation_semantics.specs.Goals.{Holds}
use Rattle.relation_semantics.specs.Headline.{IsFirstOrderPair}
use Rattle.relation_semantics.specs.Lawful.{items_of}
use Rattle.relation_semantics.specs.Outcomes.{Exact, NoUnifier}
use Rattle.relation_semantics.specs.Relation.{Items, Interpretation, Rel, at, parts, same, anything, error_left, error_right}
use Rattle.relation_semantics.specs.Relation.{regions, alias_types, equal_consts, forms, no_parts, next_part}
use Rattle.relation_semantics.specs.Relation.{StaysWithin, invariant_binders, open_second, open_first}
use Rattle.relation_semantics.specs.Steps.{IsLater}
use Rattle.relation_semantics.specs.Stores.{Store, InContext, IsTermIn, IsMadeLeaf, IsAssignment, Satisfies}
use Rattle.relation_semantics.proofs.Answering.{items_stay}
use Rattle.relation_semantics.proofs.Exactness.{exacts_compose, unifies_still}
use Rattle.relation_semantics.proofs.Standing.{later_term, term_context}
use Rattle.relation_semantics.proofs.Trees.{StaysIn, Leaves_map, inst_within}
use Rattle.relation_semantics.proofs.Values.{stays_apply}
use Rattle.type_relations.specs.Contract.{CanRelate}
use Rattle.relation_solver.specs.Rules.{related, projections}
use Rattle.relation_solver.proofs.Bodies.{exact_under, apart_under}
use Rattle.relation_proving.specs.Bodies.{IsBodyOf, AreOfOneItem}
use Rattle.relation_proving.specs.Candidates.{MayAsk, MayFit, AreFirstOrder, ClausesAreApart, TellsClauses}
use Rattle.relation_proving.specs.Fitting.{AreMadeOne, AreToldApart, TellsFit}
use Rattle.relation_proving.specs.declared.fitting.Fitting.{Fitting}
use Rattle.relation_proving.specs.declared.fitting.Fitting.TheVariants.{Fits, Apart, Left}
use Rattle.relation_proving.specs.Subjects.{AreOfTwo}
use Rattle.relation_proving.proofs.OtherSubjects.{bodies_apart}
use Rattle.relation_proving.proofs.Unbound.{body_in}

-- What a variable of a context stands for does not escape, nor does what a term of it comes to.
made_stays : (st : Store) (s : Assign) → IsAssignment st s → (l : Leaf) → IsMadeLeaf st l → StaysIn s l
made_stays st s a (variable k n) m = (a k n m).2
made_stays st s a l h = tt

value_within : (st : Store) (s : Assign) (t : Tree) → IsAssignment st s → IsTermIn st t → StaysWithin 0 (apply s t)
unfolding IsTermIn InContext
value_within st s t a h =
    stays_apply s 0 t (Leaves_map (IsMadeLeaf st) (StaysIn s) (made_stays st s a) t h.0) h.1

-- Binders that bind nothing are related where their bodies are.
bodies_related : (c : Items) (w : Interpretation) (e a b : Tree) → StaysWithin 0 a → StaysWithin 0 b →
    Rel c w e (at Invariant) a b → Rel c w e (at Invariant) (bind [] a) (bind [] b)
bodies_related c w e a b i j r =
    let opened : Rel c w e (at Invariant) (inst [] 0 a) (inst [] 0 b) =
    subst₂ (Rel c w e (at Invariant)) (sym (inst_within [] 0 a i)) (sym (inst_within [] 0 b j)) r in
    invariant_binders refl (open_second [] [] tt tt opened) (open_first [] [] tt tt opened)

-- Lists of arguments that are related pair by pair, at invariance, are the arguments of related aliases.
parts_of_alias : {c : Items} {w : Interpretation} {e : Tree} {i : ℕ} {xs ys : Tree} (k : AliasTermKind) (d j : ℕ) →
    Rel c w e (parts arguments i Invariant) xs ys → Rel c w e (parts (alias_term k d) j Invariant) xs ys
parts_of_alias k d j no_parts = no_parts
parts_of_alias k d j (next_part r rest) = next_part r (parts_of_alias k d (suc j) rest)

aliases_related : {c : Items} {w : Interpretation} {e : Tree} {xs ys : Tree} (k : AliasTermKind) (d : ℕ) →
    Rel c w e (at Invariant) (node arguments xs) (node arguments ys) →
    Rel c w e (at Invariant) (node (alias_term k d) xs) (node (alias_term k d) ys)
aliases_related k d (same p) = same (ap (node (alias_term k d)) (parts_path p))
aliases_related k d (anything p) = absurd cc
aliases_related k d (error_left h _) = absurd h
aliases_related k d (error_right h _) = absurd h
aliases_related k d (regions p _ _) = absurd cc
aliases_related k d (alias_types p _ _) = absurd cc
aliases_related k d (equal_consts p _ _) = absurd cc
aliases_related k d (forms i p r) = forms tt refl (parts_of_alias k d 0 r)

-- What is exact of two terms is exact of two others that are unified by the same assignments.
exact_of : (before after : Store) (a b x y : Tree) → ((s : Assign) → Unifies s a b → Unifies s x y) →
    ((s : Assign) → Unifies s x y → Unifies s a b) → Exact before after a b → Exact before after x y
exact_of before after a b x y f g e = record {
  later = e.later;
  shrinks = λ s h. let p = e.shrinks s h in (p.0, f s p.1);
  keeps = λ s h u. e.keeps s h (g s u);
}

-- What an alias of these arguments comes to.
abbrev says : AliasTermKind → ℕ → Tree → Tree → Tree
says k d xs t = node projection (cons (node (alias_term k d) xs) (cons t nil))

unify_arguments : (s : Assign) (k : AliasTermKind) (d : ℕ) (xs ys t u : Tree) →
    Unifies s (says k d xs t) (says k d ys u) → Unifies s (node arguments xs) (node arguments ys)
unify_arguments s k d xs ys t u e = ap (node arguments) (parts_path {h = alias_term k d} {g = alias_term k d}
    {ts = erase (apply s xs)} {us = erase (apply s ys)} (first_path (parts_path e)))

unify_terms : (s : Assign) (k : AliasTermKind) (d : ℕ) (xs ys t u : Tree) →
    Unifies s (says k d xs t) (says k d ys u) → Unifies s t u
unify_terms s k d xs ys t u e = first_path (rest_path (parts_path e))

unify_said : (s : Assign) (k : AliasTermKind) (d : ℕ) (xs ys t u : Tree) →
    Unifies s (cons (node arguments xs) t) (cons (node arguments ys) u) → Unifies s (says k d xs t) (says k d ys u)
unify_said s k d xs ys t u e =
    let args : erase (apply s xs) ≡ erase (apply s ys) = parts_path {h = arguments} {g = arguments}
    {ts = erase (apply s xs)} {us = erase (apply s ys)} (first_path e) in
    ap₂ (λ x y. node projection (cons (node (alias_term k d) x) (cons y nil))) args (rest_path e)

unify_both : (s : Assign) (k : AliasTermKind) (d : ℕ) (xs ys t u : Tree) →
    Unifies s (says k d xs t) (says k d ys u) → Unifies s (cons (node arguments xs) t) (cons (node arguments ys) u)
unify_both s k d xs ys t u e =
    ap₂ cons (unify_arguments s k d xs ys t u e) (unify_terms s k d xs ys t u e)

module _ {Key Id Name : Type 0} where
  abbrev pub args_tree : Meaning Key Id Name → ArgsKey Key → Tree
  args_tree m k = m.args k

  abbrev pub trait_tree : Meaning Key Id Name → TraitPredicate Key Id → Tree
  trait_tree m p = clause_kind_tree m (Trait p)

  abbrev pub item_tree : Meaning Key Id Name → ProjectionPredicate Key Id → Tree
  item_tree m p = bind [] (clause_kind_tree m (Projection p))

  -- Of two clauses on traits.
  module _ (c d : Context Key Id Name) (e : ParamEnvKey Key) (q p : TraitPredicate Key Id)
      (q_in : IsTermIn c.store (trait_tree c.meaning q)) (p_in : IsTermIn c.store (trait_tree c.meaning p)) where
    pair : AreFirstOrder c.store (bind [] (trait_tree c.meaning q)) (bind [] (trait_tree c.meaning p)) →
        IsFirstOrderPair c.store (trait_tree c.meaning q) (trait_tree c.meaning p)
    pair f = record { left = f.left; right = f.right; bindings = f.bindings }

    pub traits_tell : (fitting : Fitting) → TellsFit c d None trait_tree e q p fitting →
        TellsClauses c d e (bind [] (trait_tree c.meaning q)) (bind [] (trait_tree c.meaning p)) fitting
    traits_tell Fits f = record {
      meet = λ w s h all.
          let before : Satisfies w c.store s = (f.sound).1 w s h in
          related (bodies_related (items_of c.meaning) w ((c.meaning).param_env e) (apply s (trait_tree c.meaning q))
          (apply s (trait_tree c.meaning p)) (value_within c.store s (trait_tree c.meaning q) before.assigns q_in)
          (value_within c.store s (trait_tree c.meaning p) before.assigns p_in)
          ((f.sound).0 w s h (All-nil (Holds (items_of c.meaning) w s))));
      shrinks = (f.sound).1;
      exact = λ o. exact_under c.store d.store (trait_tree c.meaning q) (trait_tree c.meaning p) (f.exact (pair o));
      first_order = λ o. f.first_order (pair o);
      same_universe = λ o. f.same_universe (pair o);
    }
    traits_tell Apart f = λ o. apart_under c.store (trait_tree c.meaning q) (trait_tree c.meaning p)
        (f.no_unifier (pair o))
    traits_tell Left f = tt

  -- What is told of the arguments of two aliases.
  pub args_told : (c m : Context Key Id Name) (e : ParamEnvKey Key) (q p : ProjectionPredicate Key Id)
      (fitting known_as : Fitting) → fitting ≡ known_as →
      TellsFit c m (Some arguments) args_tree e (q.projection_term).args (p.projection_term).args fitting →
      TellsFit c m (Some arguments) args_tree e (q.projection_term).args (p.projection_term).args known_as
  args_told c m e q p fitting known_as is h =
      subst (TellsFit c m (Some arguments) args_tree e (q.projection_term).args (p.projection_term).args) is h

  -- Of two clauses on one item, whose arguments may be related, and then what they come to.
  module _ (c : Context Key Id Name) (e : ParamEnvKey Key) (q p : ProjectionPredicate Key Id)
      (one : AreOfOneItem c.meaning q p) (may : MayFit c (item_tree c.meaning q))
      (may_too : MayFit c (item_tree c.meaning p)) where
    abbrev k : AliasTermKind
    k = alias_term_kind (q.projection_term).kind

    abbrev n : ℕ
    n = (c.meaning).id (alias_term_id (q.projection_term).kind)

    abbrev xs : Tree
    xs = (c.meaning).args (q.projection_term).args

    abbrev ys : Tree
    ys = (c.meaning).args (p.projection_term).args

    abbrev t : Tree
    t = term_tree c.meaning q.term

    abbrev u : Tree
    u = term_tree c.meaning p.term

    -- The second is of the item of the first.
    other_is : item_tree c.meaning p ≡ bind [] (says k n ys u)
    other_is = ap₂ (λ x y. bind [] (says x y ys u)) (sym one.one_kind) (sym one.one_id)

    record Stands (ts x : Tree) : Type 0 where
      args_known : IsTrue (known ts)
      term_known : IsTrue (known x)
      args_taken : IsWellBound ts
      term_taken : IsWellBound x
      args_in : IsTermIn c.store (node arguments ts)
      term_in : IsTermIn c.store x

    said_in : (ts x : Tree) → IsTermIn c.store (says k n ts x) →
        IsTermIn c.store (node arguments ts) × IsTermIn c.store x
    unfolding IsTermIn InContext
    said_in ts x h = ((h.0.0, h.1.0, h.2.0), (h.0.1.0, h.1.1.0, h.2.1.0))

    stands : (ts x : Tree) → MayFit c (bind [] (says k n ts x)) → Stands ts x
    stands ts x m =
        let known_parts = and_parts (known ts) (known (cons x nil)) m.is_known in
        let is_in = said_in ts x (body_in c.store (says k n ts x) m.is_in m.taken) in
        record {
          args_known = known_parts.0;
          term_known = (and_parts (known x) true known_parts.1).0;
          args_taken = (m.taken).1.0;
          term_taken = (m.taken).1.1.0;
          args_in = is_in.0;
          term_in = is_in.1;
        }

    left : Stands xs t
    left = stands xs t may

    right : Stands ys u
    right = stands ys u (subst (MayFit c) other_is may_too)

    pub args_may : c.lawful → KnowsEnv c e → CanRelate c (Some arguments) args_tree
        (λ m a b. count (m.args a) ≡ count (m.args b)) e Invariant (q.projection_term).args (p.projection_term).args
    args_may l h = record {
      lawful = l;
      decides = λ d. absurd cc;
      env_known = h;
      lhs_known = left.args_known;
      rhs_known = right.args_known;
      fits = one.as_many;
      lhs_taken = left.args_taken;
      rhs_taken = right.args_taken;
      lhs_in = left.args_in;
      rhs_in = right.args_in;
    }

    module _ (m : Context Key Id Name) (grown : Extends c.meaning m.meaning) (later : IsLater c.store m.store) where
      same_left : term_tree m.meaning q.term ≡ t
      same_left = stays_term grown q.term left.term_known

      same_right : term_tree m.meaning p.term ≡ u
      same_right = stays_term grown p.term right.term_known

      pub terms_may : m.lawful → KnowsEnv c e →
          CanRelate m None term_tree (λ o a b. Unit {0}) e Invariant q.term p.term
      terms_may l h = record {
        lawful = l;
        decides = λ d. absurd cc;
        env_known = subst (λ z. IsTrue (known z)) (sym (grown.param_env e h)) h;
        lhs_known = subst (λ z. IsTrue (known z)) (sym same_left) left.term_known;
        rhs_known = subst (λ z. IsTrue (known z)) (sym same_right) right.term_known;
        fits = tt;
        lhs_taken = subst IsWellBound (sym same_left) left.term_taken;
        rhs_taken = subst IsWellBound (sym same_right) right.term_taken;
        lhs_in = subst (IsTermIn m.store) (sym same_left)
            (later_term c.store m.store later.grows later.universe_stands t left.term_in);
        rhs_in = subst (IsTermIn m.store) (sym same_right)
            (later_term c.store m.store later.grows later.universe_stands u right.term_in);
      }

    args_pair : AreFirstOrder c.store (bind [] (says k n xs t)) (bind [] (says k n ys u)) →
        IsFirstOrderPair c.store (node arguments xs) (node arguments ys)
    args_pair f = record { left = (f.left).0; right = (f.right).0; bindings = f.bindings }

    -- The arguments alone tell them apart.
    pub args_apart : (m : Context Key Id Name) →
        AreToldApart c m (Some arguments) args_tree e (q.projection_term).args (p.projection_term).args →
        TellsClauses c m e (item_tree c.meaning q) (item_tree c.meaning p) Apart
    args_apart m f = subst (λ z. ClausesAreApart c.store (item_tree c.meaning q) z) (sym other_is)
        (λ o. apart_under c.store (says k n xs t) (says k n ys u)
        (λ s h v. f.no_unifier (args_pair o) s h (unify_arguments s k n xs ys t u v)))

    -- The arguments were made one; so then were the terms, or these tell them apart.
    module _ (m d : Context Key Id Name) (grown : Extends c.meaning m.meaning) (known_env : KnowsEnv c e)
        (f : AreMadeOne c m (Some arguments) args_tree e (q.projection_term).args (p.projection_term).args)
        (later : IsLater c.store m.store) where
      module _ (o : AreFirstOrder c.store (bind [] (says k n xs t)) (bind [] (says k n ys u))) where
        then_pair : IsFirstOrderPair m.store (term_tree m.meaning q.term) (term_tree m.meaning p.term)
        then_pair = record {
          left = subst IsFirstOrder (sym (same_left m grown later)) (o.left).1;
          right = subst IsFirstOrder (sym (same_right m grown later)) (o.right).1;
          bindings = f.first_order (args_pair o);
        }

        both_exact : Exact m.store d.store (term_tree m.meaning q.term) (term_tree m.meaning p.term) →
            Exact c.store d.store (bind [] (says k n xs t)) (bind [] (says k n ys u))
        both_exact g = exact_under c.store d.store (says k n xs t) (says k n ys u)
            (exact_of c.store d.store (cons (node arguments xs) t) (cons (node arguments ys) u) (says k n xs t)
            (says k n ys u) (λ s v. unify_said s k n xs ys t u v) (λ s v. unify_both s k n xs ys t u v)
            (exacts_compose c.store m.store d.store (node arguments xs) (node arguments ys) t u
            (term_context c.store t left.term_in) (term_context c.store u right.term_in) (f.exact (args_pair o))
            (subst₂ (Exact m.store d.store) (same_left m grown later) (same_right m grown later) g)))

        terms_apart : NoUnifier m.store (term_tree m.meaning q.term) (term_tree m.meaning p.term) →
            NoUnifier c.store (bind [] (says k n xs t)) (bind [] (says k n ys u))
        terms_apart g = apart_under c.store (says k n xs t) (says k n ys u) (λ s h v.
            let then = (f.exact (args_pair o)).keeps s h (unify_arguments s k n xs ys t u v) in
            subst₂ (NoUnifier m.store) (same_left m grown later) (same_right m grown later) g then.0 then.2
            (unifies_still c.store s then.0 t u then.1 (term_context c.store t left.term_in)
            (term_context c.store u right.term_in) (unify_terms s k n xs ys t u v)))

      fitted : (fitting : Fitting) → TellsFit m d None term_tree e q.term p.term fitting →
          TellsClauses c d e (bind [] (says k n xs t)) (bind [] (says k n ys u)) fitting
      fitted Fits g = record {
        meet = λ w s h all.
            let middle : Satisfies w m.store s = (g.sound).1 w s h in
            projections
            (aliases_related k n ((f.sound).0 w s middle (All-nil (Holds (items_of c.meaning) w s))))
            (subst₂ (λ x y. Rel (items_of c.meaning) w ((c.meaning).param_env e) (at Invariant) (apply s x) (apply s y))
            (same_left m grown later) (same_right m grown later)
            (subst₂ (λ x y. Rel x w y (at Invariant) (apply s (term_tree m.meaning q.term))
            (apply s (term_tree m.meaning p.term))) (items_stay grown) (grown.param_env e known_env)
            ((g.sound).0 w s h (All-nil (Holds (items_of m.meaning) w s)))));
        shrinks = λ w s h. (f.sound).1 w s ((g.sound).1 w s h);
        exact = λ o. both_exact o (g.exact (then_pair o));
        first_order = λ o. g.first_order (then_pair o);
        same_universe = λ o. g.same_universe (then_pair o) ∙ f.same_universe (args_pair o);
      }
      fitted Apart g = λ o. terms_apart o (g.no_unifier (then_pair o))
      fitted Left g = tt

      pub terms_tell : (fitting : Fitting) → TellsFit m d None term_tree e q.term p.term fitting →
          TellsClauses c d e (item_tree c.meaning q) (item_tree c.meaning p) fitting
      terms_tell fitting g = subst (λ z. TellsClauses c d e (item_tree c.meaning q) z fitting) (sym other_is)
          (fitted fitting g)

      pub terms_result : {F : Type 0} (result : Result Fitting F) →
          IfOk result (TellsFit m d None term_tree e q.term p.term) →
          IfOk result (TellsClauses c d e (item_tree c.meaning q) (item_tree c.meaning p))
      terms_result (Ok fitting) g = terms_tell fitting g
      terms_result (Err x) g = tt

  -- What is told of what two clauses say is told of them.
  pub clauses_tell : {F : Type 0} (c d : Context Key Id Name) (e : ParamEnvKey Key) (k g : ClauseKey Key)
      (q p : ClauseKind Key Id Name) → IsBodyOf c.meaning k q → IsBodyOf c.meaning g p → (result : Result Fitting F) →
      IfOk result (TellsClauses c d e (bind [] (clause_kind_tree c.meaning q)) (bind [] (clause_kind_tree c.meaning p))) →
      IfOk result (TellsClauses c d e ((c.meaning).clause k) ((c.meaning).clause g))
  clauses_tell c d e k g q p i j result h =
      subst₂ (λ x y. IfOk result (TellsClauses c d e x y)) (sym i) (sym j) h

  pub traits_result : {F : Type 0} (c d : Context Key Id Name) (e : ParamEnvKey Key) (q p : TraitPredicate Key Id) →
      IsTermIn c.store (trait_tree c.meaning q) → IsTermIn c.store (trait_tree c.meaning p) →
      (result : Result Fitting F) → IfOk result (TellsFit c d None trait_tree e q p) →
      IfOk result (TellsClauses c d e (bind [] (trait_tree c.meaning q)) (bind [] (trait_tree c.meaning p)))
  traits_result c d e q p i j (Ok fitting) h = traits_tell c d e q p i j fitting h
  traits_result c d e q p i j (Err x) h = tt

  pub two_are_apart : (c d : Context Key Id Name) (e : ParamEnvKey Key) (k g : ClauseKey Key)
      (q p : ClauseKind Key Id Name) → IsBodyOf c.meaning k q → IsBodyOf c.meaning g p → AreOfTwo c.meaning q p →
      TellsClauses c d e ((c.meaning).clause k) ((c.meaning).clause g) Apart
  two_are_apart c d e k g q p i j two =
      subst₂ (λ x y. ClausesAreApart c.store x y) (sym i) (sym j) (λ o. bodies_apart c.meaning c.store q p two)

  -- What a clause says may be related where the clause may be a goal.
  record Relatable (c : Context Key Id Name) (p : ClauseKind Key Id Name) : Type 0 where
    is_known : IsTrue (known (clause_kind_tree c.meaning p))
    taken : IsWellBound (clause_kind_tree c.meaning p)
    is_in : IsTermIn c.store (clause_kind_tree c.meaning p)

  relatable : (c : Context Key Id Name) (k : ClauseKey Key) (p : ClauseKind Key Id Name) → IsBodyOf c.meaning k p →
      MayAsk c k → Relatable c p
  relatable c k p e h = record {
    is_known = subst (λ t. IsTrue (known t)) e h.is_known;
    taken = (subst IsWellBound e h.taken).1;
    is_in = body_in c.store (clause_kind_tree c.meaning p) (subst (IsTermIn c.store) e h.is_in)
        (subst IsWellBound e h.taken);
  }

  pub says_in : (c : Context Key Id Name) (k : ClauseKey Key) (p : ClauseKind Key Id Name) → IsBodyOf c.meaning k p →
      MayAsk c k → IsTermIn c.store (clause_kind_tree c.meaning p)
  says_in c k p e h = (relatable c k p e h).is_in

  pub traits_may : (c : Context Key Id Name) (e : ParamEnvKey Key) (k g : ClauseKey Key)
      (q p : TraitPredicate Key Id) → c.lawful → KnowsEnv c e → MayAsk c k → MayAsk c g →
      IsBodyOf c.meaning k (Trait q) → IsBodyOf c.meaning g (Trait p) →
      CanRelate c None trait_tree (λ m a b. Unit {0}) e Invariant q p
  traits_may c e k g q p l h i j a b =
      let left = relatable c k (Trait q) a i in
      let right = relatable c g (Trait p) b j in
      record {
        lawful = l;
        decides = λ d. absurd cc;
        env_known = h;
        lhs_known = left.is_known;
        rhs_known = right.is_known;
        fits = tt;
        lhs_taken = left.taken;
        rhs_taken = right.taken;
        lhs_in = left.is_in;
        rhs_in = right.is_in;
      }

  pub item_may : (c : Context Key Id Name) (k : ClauseKey Key) (p : ClauseKind Key Id Name) → IsBodyOf c.meaning k p →
      MayAsk c k → MayFit c (bind [] (clause_kind_tree c.meaning p))
  item_may c k p e h = record {
    is_known = subst (λ t. IsTrue (known t)) e h.is_known;
    is_in = subst (IsTermIn c.store) e h.is_in;
    taken = subst IsWellBound e h.taken;
  }
