-- Opening binders in a reference context.
use Rattle.std.proofs.Common.{◌≡◌, ℕ, zero, suc, ◌+◌, ◌<◌, IsTrue, true, false, refl, sym, ap, ap₂, ◌∙◌}
use Rattle.std.proofs.Common.{arith, subst, inl, inr, List, [], ◌∷◌, ◌++◌, length, map, take}
use Rattle.std.specs.Prelude.{Option, Some, None, IsSome, Result, Ok, Err, IfOk, OnErr, slice_get}
use Rattle.std.proofs.lemmas.Bool.{false≢true, and_parts}
use Rattle.std.proofs.lemmas.List.{map-append, length-take-le}
use Rattle.std.proofs.lemmas.Option.{slice_get_within}
use Rattle.relation_terms.specs.Heads.{BoundKind, VarKind, placeholder, variable}
use Rattle.relation_terms.specs.Trees.{Tree, leaf, known, list_tree}
use Rattle.relation_terms.specs.Meaning.{Meaning, Extends, arg_tree, under}
use Rattle.relation_terms.specs.declared.terms.generic_arg.GenericArgKind.{GenericArgKind}
use Rattle.relation_terms.proofs.Stays.{stays_arg}
use Rattle.relation_terms.proofs.Members.{known_with_last}
use Rattle.relation_folds.specs.Shifts.{opened, knows_all}
use Rattle.relation_folds.specs.Visits.{bound_var_escapes}
use Rattle.relation_semantics.specs.Steps.{ChangesNothing, ArePlaceholders, MakesVariable}
use Rattle.relation_semantics.specs.Stores.{Store}
use Rattle.relation_semantics.specs.Contexts.{Context}
use Rattle.relation_semantics.specs.ContextCalls.{KeepsRest}
use Rattle.relation_semantics.specs.Bound.{BindsByList}
use Rattle.relation_semantics.specs.Binders.{kinds_in, variable_kind, MakesEach, makes_none, makes_next, MakesFirst, bound_by}
use Rattle.relation_semantics.specs.Binders.{placeholders_from, EntersAs, InstantiatesAs, EntersBinder, InstantiatesWithInfer}
use Rattle.relation_semantics.proofs.Values.{placeholders_are}
use Rattle.relation_semantics.proofs.Opened.{opened_inst, placeholders_stand, variables_stand, none_escapes, some_escapes}
use Rattle.relation_reference.specs.Opened.{MakesOne}
use Rattle.relation_semantics.proofs.Opening.{same_changes}

-- A binder binds what its list says.
pub bound_kinds : (o : Option (List BoundKind)) (t : Tree) → kinds_in o ≡ bound_by (under o t)
bound_kinds (Some ks) t = refl
bound_kinds None t = refl

-- One more place of a list.
taken : {A : Type 0} (xs : List A) (i : ℕ) (x : A) → slice_get xs i ≡ Some x → take (suc i) xs ≡ take i xs ++ x ∷ []
taken [] i x e = absurd cc
taken (y ∷ xs) zero x e = let p : y ≡ x = cc in ap (λ z. z ∷ []) p
taken (y ∷ xs) (suc i) x e = ap (λ z. y ∷ z) (taken xs i x e)

take_next : {A : Type 0} (xs : List A) (i j : ℕ) (x : A) → j ≡ suc i → slice_get xs i ≡ Some x →
    take j xs ≡ take i xs ++ x ∷ []
take_next xs i j x p e = ap (λ n. take n xs) p ∙ taken xs i x e

-- The placeholders of a longer list.
placeholders_more : (u n : ℕ) (ks : List BoundKind) (k : BoundKind) → placeholders_from u n (ks ++ k ∷ []) ≡
    placeholders_from u n ks ++ leaf (placeholder k u (n + length ks)) ∷ []
placeholders_more u n [] k = let e : n ≡ n + 0 = omega arith in ap (λ i. leaf (placeholder k u i) ∷ []) e
placeholders_more u n (j ∷ ks) k =
    let e : suc n + length ks ≡ n + suc (length ks) = omega arith in
    ap (λ z. leaf (placeholder j u n) ∷ z) (placeholders_more u (suc n) ks k
    ∙ ap (λ i. placeholders_from u (suc n) ks ++ leaf (placeholder k u i) ∷ []) e)

pub placeholders_next : (u i j : ℕ) (ks : List BoundKind) (k : BoundKind) (ps qs : List Tree) (p : Tree) → j ≡ suc i →
    slice_get ks i ≡ Some k → ps ≡ placeholders_from u 0 (take i ks) → qs ≡ ps ++ p ∷ [] →
    p ≡ leaf (placeholder k u i) →
    qs ≡ placeholders_from u 0 (take j ks)
placeholders_next u i j ks k ps qs p e at h more is =
    let below = slice_get_within ks i k at in
    let long = length-take-le i ks (omega (arith, below)) in
    let number : i ≡ 0 + length (take i ks) = omega (arith, long) in
    more ∙ ap₂ (λ z y. z ++ y ∷ []) h (is ∙ ap (λ n. leaf (placeholder k u n)) number)
    ∙ sym (placeholders_more u 0 (take i ks) k) ∙ sym (ap (placeholders_from u 0) (take_next ks i j k e at))

module _ {Key Id Name : Type 0} {m n : Meaning Key Id Name} (e : Extends m n) where
  pub args_stay : (xs : List (GenericArgKind Key)) → IsTrue (known (list_tree (arg_tree m) xs)) →
      map (arg_tree n) xs ≡ map (arg_tree m) xs
  args_stay [] k = refl
  args_stay (x ∷ xs) k =
      let p = and_parts (known (arg_tree m x)) (known (list_tree (arg_tree m) xs)) k in
      ap₂ ◌∷◌ (stays_arg e x p.0) (args_stay xs p.1)

  module _ (xs ys : List (GenericArgKind Key)) (y : GenericArgKind Key) (more : ys ≡ xs ++ y ∷ [])
      (sure : IsTrue (known (list_tree (arg_tree m) xs))) where
    pub args_next : map (arg_tree n) ys ≡ map (arg_tree m) xs ++ arg_tree n y ∷ []
    args_next = ap (map (arg_tree n)) more ∙ map-append (arg_tree n) xs (y ∷ [])
        ∙ ap (λ z. z ++ arg_tree n y ∷ []) (args_stay xs sure)

    pub args_known : IsTrue (known (arg_tree n y)) → IsTrue (known (list_tree (arg_tree n) ys))
    args_known k = subst (λ zs. IsTrue (known (list_tree (arg_tree n) zs))) (sym more)
        (known_with_last (arg_tree n) xs y (knows_all e xs sure) k)

-- A new variable is of the kind that what it stands for asks for.
pub made_one : {before after : Store} (k q : VarKind) (x : Tree) (n : ℕ) → k ≡ q → x ≡ leaf (variable q n) →
    MakesVariable before after q n before.universe → MakesOne before after k x
made_one {before} {after} k q x n e is makes = subst (λ z. MakesOne before after z x) (sym e) (n, is, makes)

-- One more variable.
each_universe : {u : ℕ} {before after : Store} {ks : List BoundKind} {xs : List Tree} → MakesEach u before ks xs after →
    after.universe ≡ before.universe
each_universe (makes_none p q) = refl
each_universe (makes_next k f q p e) = q.same_universe ∙ each_universe f

pub each_next : (u : ℕ) (before middle after : Store) (ks : List BoundKind) (i j : ℕ) (k : BoundKind)
    (xs ys : List Tree)
    (x : Tree) → before.universe ≡ u → MakesEach u before (take i ks) xs middle →
    MakesOne middle after (variable_kind k) x →
    j ≡ suc i → slice_get ks i ≡ Some k → ys ≡ xs ++ x ∷ [] → MakesEach u before (take j ks) ys after
each_next u before middle after ks i j k xs ys x low f one p at more =
    makes_next k f (subst (MakesVariable middle after (variable_kind k) one.0) (each_universe f ∙ low) one.2)
    (take_next ks i j k p at) (more ∙ ap (λ z. xs ++ z ∷ []) one.1)

pub each_none : (u : ℕ) (st : Store) (ks : List BoundKind) (xs : List Tree) → xs ≡ [] → MakesEach u st (take 0 ks) xs st
each_none u st ks xs e = makes_none refl e

-- A known binder's list is known, and so is its body.
pub binder_list : (o : Option (List BoundKind)) (t : Tree) → IsTrue (known (under o t)) → IsSome o
binder_list (Some ks) t k = refl
binder_list None t k = absurd (false≢true k)

pub binder_body : (o : Option (List BoundKind)) (t : Tree) → IsTrue (known (under o t)) → IsTrue (known t)
binder_body (Some ks) t k = k
binder_body None t k = absurd (false≢true k)

module _ {Key Id Name : Type 0} (c d : Context Key Id Name) where
  pub left_as : (o : Option (List BoundKind)) (t x : Tree) → IsTrue (known (under o t)) →
      bound_var_escapes t ≡ false → x ≡ t → d.store ≡ c.store → EntersAs c d (under o t) x
  left_as (Some ks) t x k h e s = record {
    changes_nothing = subst (ChangesNothing c.store) (sym s) (same_changes c.store);
    same_taint = ap (λ st. st.tainted) s;
    opens = inl (record { unused = none_escapes 0 t h; body_is = e; same_universe = ap (λ st. st.universe) s });
  }
  left_as None t x k h e s = absurd (false≢true k)

  pub entered_as : (o : Option (List BoundKind)) (t x : Tree) (ps : List Tree) → IsTrue (known (under o t)) →
      BindsByList (under o t) → bound_var_escapes t ≡ true → ChangesNothing c.store d.store →
      (d.store).tainted ≡ (c.store).tainted → (c.store).universe < (d.store).universe → ps ≡ placeholders_from (d.store).universe 0 (kinds_in o) →
      x ≡ opened ps t → EntersAs c d (under o t) x
  entered_as (Some ks) t x ps k b h changes taint above p e =
      let are : ArePlaceholders (d.store).universe ks ps =
      subst (ArePlaceholders (d.store).universe ks) (sym p) (placeholders_are (d.store).universe 0 ks) in
      record {
        changes_nothing = changes;
        same_taint = taint;
        opens = inr (
          some_escapes 0 t h,
          record {
            placeholders = ps;
            are_placeholders = are;
            above = above;
            body_is = e ∙ opened_inst ks ps (placeholders_stand (d.store).universe ks ps are) 0 t b;
          },
        );
      }
  entered_as None t x ps k b h changes taint above p e = absurd (false≢true k)

  pub instantiated_as : (o : Option (List BoundKind)) (t x : Tree) (xs : List Tree) → IsTrue (known (under o t)) →
      BindsByList (under o t) → MakesEach (c.store).universe c.store (kinds_in o) xs d.store → x ≡ opened xs t →
      InstantiatesAs c d (under o t) x
  instantiated_as (Some ks) t x xs k b f e =
      record { variables = xs; makes = f; body_is = e ∙ opened_inst ks xs (variables_stand f) 0 t b }
  instantiated_as None t x xs k b f e = absurd (false≢true k)

  pub entered_binder : {K F : Type 0} (tree : Meaning Key Id Name → K → Tree) (t : Tree) (r : Result K F) →
      IfOk r (λ x. IsTrue (known (tree d.meaning x))) → IfOk r (λ x. EntersAs c d t (tree d.meaning x)) →
      OnErr r (d.store ≡ c.store) → EntersBinder c d tree t r
  entered_binder tree t (Ok x) sure enters refused = (sure, enters)
  entered_binder tree t (Err f) sure enters refused = refused

  pub instantiated_binder : {K F : Type 0} (tree : Meaning Key Id Name → K → Tree) (t : Tree) (r : Result K F) →
      IfOk r (λ x. IsTrue (known (tree d.meaning x))) → IfOk r (λ x. InstantiatesAs c d t (tree d.meaning x)) →
      OnErr r (MakesFirst (c.store).universe c.store (bound_by t) d.store) → InstantiatesWithInfer c d tree t r
  instantiated_binder tree t (Ok x) sure instantiates refused = (sure, instantiates)
  instantiated_binder tree t (Err f) sure instantiates refused = refused

-- What stands beside variables and constraints stands through two calls, and where nothing happens.
module _ {Key Id Name : Type 0} where
  pub rest_itself : (c : Context Key Id Name) → KeepsRest c c
  rest_itself c = record { setup = refl; outliving = refl; marks = λ n. refl }

  pub rest_on : {c d e : Context Key Id Name} → KeepsRest c d → KeepsRest d e → KeepsRest c e
  rest_on p q = record {
    setup = q.setup ∙ p.setup;
    outliving = q.outliving ∙ p.outliving;
    marks = λ n. q.marks n ∙ p.marks n;
  }
