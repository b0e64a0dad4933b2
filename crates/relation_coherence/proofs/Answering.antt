-- What two opened headers have in common, by what relating their bodies as lists of arguments promises.
use Rattle.std.proofs.Common.{◌≡◌, ◌<◌, ℕ, suc, arith, refl, sym, ap, ◌∙◌, subst, subst₂, List, length}
use Rattle.relation_terms.specs.declared.terms.binder.Binder.{Binder}
use Rattle.relation_terms.specs.declared.terms.keys.ArgsKey.{ArgsKey}
use Rattle.relation_terms.specs.Heads.{arguments}
use Rattle.relation_terms.specs.Trees.{Tree, node, bind, nil, cons, Assign, apply, Leaves, IsList, count, inst, leaf}
use Rattle.relation_terms.specs.Meaning.{under}
use Rattle.fast_reject.specs.Instances.{IsNoVariable}
use Rattle.relation_laws.specs.SolutionLaws.{NewVariablesFit}
use Rattle.relation_semantics.specs.Binders.{bound_by}
use Rattle.relation_semantics.specs.Contexts.{Context}
use Rattle.relation_semantics.specs.FirstOrder.{IsFirstOrder, IsFirstOrderStore, Unifies}
use Rattle.relation_semantics.specs.Goals.{Goal}
use Rattle.relation_semantics.specs.Headline.{KeepsEqualTerms, IsFirstOrderPair}
use Rattle.relation_semantics.specs.OneUniverse.{IsPairOf, all_unbound}
use Rattle.relation_semantics.specs.Outcomes.{NoEqualTerms, NoUnifier, Exact}
use Rattle.relation_semantics.specs.StepLaws.{InstantiatingAssigns}
use Rattle.relation_semantics.specs.StoreLaws.{ResolvedResolves}
use Rattle.relation_semantics.specs.Stores.{Store, IsSound, BindingsAreMet, entry_term, resolved}
use Rattle.relation_semantics.proofs.Standing.{later_context}
use Rattle.relation_semantics.proofs.Free.{free}
use Rattle.relation_coherence.specs.Bounds.{types_bound, WasTooFew}
use Rattle.relation_coherence.proofs.Bounding.{term_names}
use Rattle.relation_coherence.specs.Headers.{header_tree, IsClosedHeader, AreOfOneLength, OpensHeaders}
use Rattle.relation_coherence.specs.Overlaps.{AreApart, AreApartErased, Covers, IsCommon, IsFirstOrderBody, IsFirstOrderHeader}
use Rattle.relation_coherence.proofs.FirstOrderBodies.{opened_first_order, new_are_variables}
use Rattle.context_relation.proofs.RegionTerms.{inst_list}
use Rattle.relation_coherence.proofs.Overlapping as overlapping

-- Lists of arguments are one where their members are, also up to erasure.
pub never_one : (st : Store) (x y : Tree) → NoEqualTerms st (node arguments x) (node arguments y) → NoEqualTerms st x y
never_one st x y never w s h e = never w s h (ap (λ t. node arguments t) e)

pub no_unifier : (st : Store) (x y : Tree) → NoUnifier st (node arguments x) (node arguments y) → NoUnifier st x y
no_unifier st x y never s h e = never s h (ap (λ t. node arguments t) e)

members_unify : (s : Assign) (x y : Tree) → Unifies s (node arguments x) (node arguments y) → Unifies s x y
members_unify s x y e = cc

pub exact_members : (before after : Store) (x y : Tree) → Exact before after (node arguments x) (node arguments y) →
    Exact before after x y
exact_members before after x y e = record {
  later = e.later;
  shrinks = λ s h. let r = e.shrinks s h in (r.0, members_unify s x y r.1);
  keeps = λ s h u. e.keeps s h (ap (λ t. node arguments t) u);
}

-- Opening a list of arguments leaves as many.
pub count_opened : (xs : List Tree) (t : Tree) → IsList t → count (inst xs 0 t) ≡ count t
count_opened xs nil h = refl
count_opened xs (cons t ts) h = ap (λ n. suc n) (count_opened xs ts h)
count_opened xs (leaf l) h = absurd h
count_opened xs (node g t) h = absurd h
count_opened xs (bind ks t) h = absurd h

module _ {Key Id Name : Type 0} (c d : Context Key Id Name) (left right : Binder Key (ArgsKey Key)) (x y : ArgsKey Key)
    (h : OpensHeaders c d left right x y) where
  left_is : header_tree c.meaning left ≡ bind h.left_binds ((c.meaning).args left.value)
  left_is = ap (λ o. under o ((c.meaning).args left.value)) h.left_list

  right_is : header_tree c.meaning right ≡ bind h.right_binds ((c.meaning).args right.value)
  right_is = ap (λ o. under o ((c.meaning).args right.value)) h.right_list

  -- They are lists of as many arguments.
  pub opened_as_many : IsList ((c.meaning).args left.value) → IsList ((c.meaning).args right.value) →
      AreOfOneLength c left right → count ((d.meaning).args x) ≡ count ((d.meaning).args y)
  opened_as_many l r e =
      ap count (h.first).body_is ∙ (count_opened (h.first).variables ((c.meaning).args left.value) l ∙ (e ∙
      sym (ap count (h.second).body_is ∙ count_opened (h.second).variables ((c.meaning).args right.value) r)))

  -- The opened bodies are first-order where the headers are.
  pub opened_pair : IsList ((c.meaning).args left.value) → IsList ((c.meaning).args right.value) →
      IsFirstOrderHeader (header_tree c.meaning left) → IsFirstOrderHeader (header_tree c.meaning right) →
      IsFirstOrderStore c.store →
      IsFirstOrderPair d.store (node arguments ((d.meaning).args x)) (node arguments ((d.meaning).args y))
  opened_pair l r lf rf fo =
      let v = new_are_variables c.store h.middle (c.store).universe h.left_binds (h.first).variables
      ((h.first).makes).are_new in
      let w = new_are_variables h.middle d.store (h.middle).universe h.right_binds (h.second).variables
      ((h.second).makes).are_new in
      let lb : IsFirstOrderBody (length h.left_binds) ((c.meaning).args left.value) = subst IsFirstOrderHeader left_is lf in
      let rb : IsFirstOrderBody (length h.right_binds) ((c.meaning).args right.value) = subst IsFirstOrderHeader right_is rf in
      record {
        left = (
          tt,
          subst IsList (sym (h.first).body_is) (inst_list (h.first).variables 0 ((c.meaning).args left.value) l),
          tt,
          subst IsFirstOrder (sym (h.first).body_is) (opened_first_order (h.first).variables v.0
              ((c.meaning).args left.value) (subst (λ n. IsFirstOrderBody n ((c.meaning).args left.value)) v.1 lb)),
        );
        right = (
          tt,
          subst IsList (sym (h.second).body_is) (inst_list (h.second).variables 0 ((c.meaning).args right.value) r),
          tt,
          subst IsFirstOrder (sym (h.second).body_is) (opened_first_order (h.second).variables w.0
              ((c.meaning).args right.value) (subst (λ n. IsFirstOrderBody n ((c.meaning).args right.value)) w.1 rb)),
        );
        bindings = λ k n t e. fo k n t (ap (entry_term k) (sym (((h.second).makes).same_entries k n ∙
            ((h.first).makes).same_entries k n)) ∙ e);
      }

  -- Where the budget was too small for the opened bodies, it was for the headers.
  pub bounded : ((u : ℕ) → IsPairOf u d.store (node arguments ((d.meaning).args x)) (node arguments ((d.meaning).args y)) →
      (d.store).budget < all_unbound d.store) → WasTooFew c.store (header_tree c.meaning left) (header_tree c.meaning right)
  bounded enough one =
      let same : (d.store).universe ≡ (c.store).universe =
      ((h.second).makes).same_universe ∙ ((h.first).makes).same_universe in
      let few : (d.store).budget < all_unbound d.store = enough (c.store).universe (record {
        variables = h.one_universe one;
        left = term_names d.store (c.store).universe (node arguments ((d.meaning).args x)) same (h.left_relates).has;
        right = term_names d.store (c.store).universe (node arguments ((d.meaning).args y)) same (h.right_relates).has;
      }) in
      let spent : (d.store).budget ≡ (c.store).budget = ((h.second).makes).same_budget ∙ ((h.first).makes).same_budget in
      let unresolved = h.unresolved in
      let l : types_bound (bound_by (header_tree c.meaning left)) ≡ types_bound h.left_binds =
      ap (λ t. types_bound (bound_by t)) left_is in
      let r : types_bound (bound_by (header_tree c.meaning right)) ≡ types_bound h.right_binds =
      ap (λ t. types_bound (bound_by t)) right_is in
      omega (arith, few, spent, unresolved, l, r)

  module _ (instantiating : InstantiatingAssigns) (left_closed : IsClosedHeader c left)
      (right_closed : IsClosedHeader c right) where
    no_left : Leaves IsNoVariable ((c.meaning).args left.value)
    no_left = subst (Leaves IsNoVariable) left_is left_closed

    no_right : Leaves IsNoVariable ((c.meaning).args right.value)
    no_right = subst (Leaves IsNoVariable) right_is right_closed

    module _ (met : BindingsAreMet) (sound : IsSound c.store) where
      pub apart : NoEqualTerms d.store (node arguments ((d.meaning).args x)) (node arguments ((d.meaning).args y)) →
          AreApart (c.store).universe (header_tree c.meaning left) (header_tree c.meaning right)
      apart never = subst₂ (AreApart (c.store).universe) (sym left_is) (sym right_is)
          (overlapping.apart instantiating c.store h.middle d.store h.left_binds h.right_binds
          ((c.meaning).args left.value) ((c.meaning).args right.value) ((d.meaning).args x) ((d.meaning).args y)
          h.first h.second no_left no_right h.left_in met sound
          (never_one d.store ((d.meaning).args x) ((d.meaning).args y) never))

      pub apart_erased : NoUnifier d.store (node arguments ((d.meaning).args x)) (node arguments ((d.meaning).args y)) →
          AreApartErased (c.store).universe (header_tree c.meaning left) (header_tree c.meaning right)
      apart_erased never = subst₂ (AreApartErased (c.store).universe) (sym left_is) (sym right_is)
          (overlapping.apart_erased instantiating c.store h.middle d.store h.left_binds h.right_binds
          ((c.meaning).args left.value) ((c.meaning).args right.value) ((d.meaning).args x) ((d.meaning).args y)
          h.first h.second no_left no_right h.left_in met sound
          (no_unifier d.store ((d.meaning).args x) ((d.meaning).args y) never))

      pub covers : (after : Store) (goals : List Goal) (t : Tree) → IsSound after → ResolvedResolves →
          t ≡ apply (resolved after) ((d.meaning).args x) →
          KeepsEqualTerms d.store after goals (node arguments ((d.meaning).args x)) (node arguments ((d.meaning).args y)) →
          Covers (c.store).universe (header_tree c.meaning left) (header_tree c.meaning right) after t
      covers after goals t sound_after resolving is keeps =
          subst₂ (λ l r. Covers (c.store).universe l r after t) (sym left_is) (sym right_is)
          (overlapping.covers instantiating c.store h.middle d.store h.left_binds h.right_binds
          ((c.meaning).args left.value) ((c.meaning).args right.value) ((d.meaning).args x) ((d.meaning).args y)
          h.first h.second no_left no_right h.left_in met sound after t
          (later_context h.middle d.store (((h.second).makes).later).grows ((d.meaning).args x) h.left_in)
          sound_after resolving is
          (λ s f e. let r = keeps free s f (ap (λ z. node arguments z) e) in (r.0, r.1, r.2.0)))

    pub common : NewVariablesFit → (after : Store) (t : Tree) → IsSound after → ResolvedResolves →
        t ≡ apply (resolved after) ((d.meaning).args x) →
        Exact d.store after (node arguments ((d.meaning).args x)) (node arguments ((d.meaning).args y)) →
        IsCommon (c.store).universe (header_tree c.meaning left) (header_tree c.meaning right) after t
    common fits after t sound_after resolving is exact =
        subst₂ (λ l r. IsCommon (c.store).universe l r after t) (sym left_is) (sym right_is)
        (overlapping.is_common instantiating c.store h.middle d.store h.left_binds h.right_binds
        ((c.meaning).args left.value) ((c.meaning).args right.value) ((d.meaning).args x) ((d.meaning).args y)
        h.first h.second no_left no_right h.left_in fits after t sound_after resolving is
        (exact_members d.store after ((d.meaning).args x) ((d.meaning).args y) exact))
