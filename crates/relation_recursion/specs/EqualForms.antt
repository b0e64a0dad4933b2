-- Signatures, predicates of trait objects and binders are equal exactly where their trees are.
use Rattle.std.proofs.Common.{◌≡◌, ◌&&◌, Bool, false, IsTrue, refl, sym, ap, ap₂, ◌∙◌}
use Rattle.std.proofs.lemmas.Bool.{and_parts, false≢true}
use Rattle.std.specs.Cmp.Derive.{both_true}
use Rattle.relation_terms.specs.declared.terms.binder.Binder.{Binder}
use Rattle.relation_terms.specs.declared.terms.fn_sig.FnSig.{FnSig}
use Rattle.relation_terms.specs.declared.terms.generic_arg.TermKind.{TermKind}
use Rattle.relation_terms.specs.declared.terms.generic_arg.TermKind.TheVariants.{Ty, Const}
use Rattle.relation_terms.specs.declared.terms.ids.TraitId.{TraitId}
use Rattle.relation_terms.specs.declared.terms.keys.TyKey.{TyKey}
use Rattle.relation_terms.specs.declared.terms.keys.ConstKey.{ConstKey}
use Rattle.relation_terms.specs.declared.predicate.existential.ExistentialPredicate.{ExistentialPredicate}
use Rattle.relation_terms.specs.declared.predicate.existential.ExistentialPredicate.TheVariants.{Trait, AutoTrait}
use Rattle.relation_terms.specs.declared.predicate.existential.ExistentialPredicate.TheVariants.{Projection}
use Rattle.relation_terms.specs.declared.predicate.existential.ExistentialTraitRef.{ExistentialTraitRef}
use Rattle.relation_terms.specs.declared.predicate.existential.ExistentialProjection.{ExistentialProjection}
use Rattle.relation_terms.specs.Heads.{existential_trait, existential_auto, atom}
use Rattle.relation_terms.specs.Trees.{Tree, leaf, node, known}
use Rattle.relation_terms.specs.Meaning.{Meaning, signature_tree, existential_tree, term_tree, under}
use Rattle.relation_terms.specs.Interning.{AreEqualAsTrees, AreEqualAsKinds, AreEqualAsNumbers}
use Rattle.relation_terms.proofs.Binders.{under_known}
use Rattle.relation_terms.proofs.Same.{header_eq, same_signature, same_projection}
use Rattle.relation_terms.specs.Interning.{Sorted}
use Rattle.relation_folds.proofs.Found.{signature_found, binder_found, existential_found}
use Rattle.relation_recursion.specs.EqualTerms.{term_same}

module _ {Key Id Name : Type 0} (m : Meaning Key Id Name) (eq : Key → Key → Bool) where
  -- Signatures, over the equality of their lists and headers.
  pub signature_same : (sigs : FnSig Key → FnSig Key → Bool) → ((g h : FnSig Key) →
      sigs g h ≡ (eq (g.inputs_and_output).0 (h.inputs_and_output).0 && header_eq g.header h.header)) →
      AreEqualAsTrees m.tys (λ k l. eq k.0 l.0) → AreEqualAsTrees (signature_tree m) sigs
  signature_same sigs of same g h k l = (
    λ i. let p = and_parts (eq (g.inputs_and_output).0 (h.inputs_and_output).0) (header_eq g.header h.header)
        (sym (of g h) ∙ i) in
        same_signature m eq same g h k l p.0 p.1,
    λ e. of g h ∙ signature_found m eq same g h k l e,
  )

  -- Binders, over the equality of their bodies and lists.
  pub binder_same : {T : Type 0} (tree : T → Tree) (bodies : T → T → Bool) (binders : Binder Key T → Binder Key T → Bool) →
      ((a b : Binder Key T) → binders a b ≡ (bodies a.value b.value && eq (a.bound_vars).0 (b.bound_vars).0)) →
      AreEqualAsTrees tree bodies → AreEqualAsKinds m.bound_vars (λ k l. eq k.0 l.0) →
      AreEqualAsTrees (λ b. under (m.bound_vars b.bound_vars) (tree b.value)) binders
  binder_same tree bodies binders of same kinds a b k l =
      let p = under_known (m.bound_vars a.bound_vars) (tree a.value) k in
      let q = under_known (m.bound_vars b.bound_vars) (tree b.value) l in (
        λ i. let h = and_parts (bodies a.value b.value) (eq (a.bound_vars).0 (b.bound_vars).0) (sym (of a b) ∙ i) in
            ap₂ (λ x y. under x y) ((kinds a.bound_vars b.bound_vars p.0 q.0).0 h.1)
            ((same a.value b.value p.1 q.1).0 h.0),
        λ e. of a b ∙ binder_found m eq kinds a.bound_vars b.bound_vars (tree a.value) (tree b.value)
            (bodies a.value b.value) (same a.value b.value p.1 q.1).1 k l e,
      )

  -- Traits of trait objects, over the equality of items and lists of arguments.
  pub trait_same : (ids : Id → Id → Bool) (traits : ExistentialTraitRef Key Id → ExistentialTraitRef Key Id → Bool) →
      ((t u : ExistentialTraitRef Key Id) → traits t u ≡ (ids (t.def_id).0 (u.def_id).0 && eq (t.args).0 (u.args).0)) →
      AreEqualAsNumbers m.id ids → AreEqualAsTrees m.args (λ k l. eq k.0 l.0) →
      AreEqualAsTrees (λ t. existential_tree m (Trait t)) traits
  trait_same ids traits of same_id same_args t u k l = (
    λ i. let h = and_parts (ids (t.def_id).0 (u.def_id).0) (eq (t.args).0 (u.args).0) (sym (of t u) ∙ i) in
        ap₂ (λ x y. node (existential_trait x) y) ((same_id (t.def_id).0 (u.def_id).0).0 h.0)
        ((same_args t.args u.args k l).0 h.1),
    λ e. let items : m.id (t.def_id).0 ≡ m.id (u.def_id).0 = cc in
        let lists : m.args t.args ≡ m.args u.args = cc in
        of t u ∙ both_true ((same_id (t.def_id).0 (u.def_id).0).1 items) ((same_args t.args u.args k l).1 lists),
  )

-- Of the equality of terms this is used: what it is of each two forms.
module _ {Key Id Name : Type 0} (m : Meaning Key Id Name) (eq : Key → Key → Bool) (ids : Id → Id → Bool)
    (terms : TermKind Key → TermKind Key → Bool)
    (of_tys : (a b : TyKey Key) → terms (Ty a) (Ty b) ≡ eq a.0 b.0)
    (of_consts : (a b : ConstKey Key) → terms (Const a) (Const b) ≡ eq a.0 b.0)
    (ty_const : (a : TyKey Key) (b : ConstKey Key) → terms (Ty a) (Const b) ≡ false)
    (const_ty : (a : ConstKey Key) (b : TyKey Key) → terms (Const a) (Ty b) ≡ false)
    (same_id : AreEqualAsNumbers m.id ids) (same_region : AreEqualAsTrees m.region (λ k l. eq k.0 l.0))
    (same_ty : AreEqualAsTrees m.ty (λ k l. eq k.0 l.0)) (same_const : AreEqualAsTrees m.const_ (λ k l. eq k.0 l.0))
    (same_args : AreEqualAsTrees m.args (λ k l. eq k.0 l.0)) (s : Sorted m) where
  abbrev pub predicates : ExistentialPredicate Key Id → ExistentialPredicate Key Id → Bool
  predicates (Trait t) (Trait u) = ids (t.def_id).0 (u.def_id).0 && eq (t.args).0 (u.args).0
  predicates (Projection p) (Projection q) =
      ids (p.def_id).0 (q.def_id).0 && (eq (p.args).0 (q.args).0 && terms p.term q.term)
  predicates (AutoTrait d) (AutoTrait f) = ids d.0 f.0
  predicates p q = false

  equal_one : (p q : ExistentialPredicate Key Id) → IsTrue (known (existential_tree m p)) →
      IsTrue (known (existential_tree m q)) → IsTrue (predicates p q) → existential_tree m p ≡ existential_tree m q
  equal_one (Trait t) (Trait u) k l i =
      (trait_same m eq ids (λ x y. predicates (Trait x) (Trait y)) (λ x y. refl) same_id same_args t u k l).0 i
  equal_one (Projection p) (Projection q) k l i =
      let h = and_parts (ids (p.def_id).0 (q.def_id).0) (eq (p.args).0 (q.args).0 && terms p.term q.term) i in
      let j = and_parts (eq (p.args).0 (q.args).0) (terms p.term q.term) h.1 in
      let x = (and_parts (known (term_tree m p.term)) (known (m.args p.args)) k).0 in
      let y = (and_parts (known (term_tree m q.term)) (known (m.args q.args)) l).0 in
      same_projection m eq same_args ids same_id p q k l h.0 j.0
      ((term_same m eq terms of_tys of_consts ty_const const_ty same_region same_ty same_const s p.term q.term x y).0
      j.1)
  equal_one (AutoTrait d) (AutoTrait f) k l i = ap (λ x. leaf (atom (existential_auto x))) ((same_id d.0 f.0).0 i)
  equal_one p q k l i = absurd (false≢true i)

  existential_same : AreEqualAsTrees (existential_tree m) predicates
  existential_same p q k l = (
    equal_one p q k l,
    existential_found m eq ids terms predicates of_tys of_consts (λ t u. refl) (λ t u. refl) (λ t u. refl) same_id
        same_ty same_const same_args s p q k l,
  )

  -- Predicates of trait objects, and projections by themselves.
  module _ (others : ExistentialPredicate Key Id → ExistentialPredicate Key Id → Bool)
      (of_traits : (t u : ExistentialTraitRef Key Id) → others (Trait t) (Trait u) ≡ predicates (Trait t) (Trait u))
      (of_projections : (p q : ExistentialProjection Key Id) →
      others (Projection p) (Projection q) ≡ predicates (Projection p) (Projection q))
      (of_autos : (d f : TraitId Id) → others (AutoTrait d) (AutoTrait f) ≡ predicates (AutoTrait d) (AutoTrait f))
      (trait_projection : (t : ExistentialTraitRef Key Id) (q : ExistentialProjection Key Id) →
      others (Trait t) (Projection q) ≡ false)
      (trait_auto : (t : ExistentialTraitRef Key Id) (d : TraitId Id) → others (Trait t) (AutoTrait d) ≡ false)
      (projection_trait : (p : ExistentialProjection Key Id) (u : ExistentialTraitRef Key Id) →
      others (Projection p) (Trait u) ≡ false)
      (projection_auto : (p : ExistentialProjection Key Id) (d : TraitId Id) →
      others (Projection p) (AutoTrait d) ≡ false)
      (auto_trait : (d : TraitId Id) (u : ExistentialTraitRef Key Id) → others (AutoTrait d) (Trait u) ≡ false)
      (auto_projection : (d : TraitId Id) (q : ExistentialProjection Key Id) →
      others (AutoTrait d) (Projection q) ≡ false) where
    agree : (p q : ExistentialPredicate Key Id) → others p q ≡ predicates p q
    agree (Trait t) (Trait u) = of_traits t u
    agree (Projection p) (Projection q) = of_projections p q
    agree (AutoTrait d) (AutoTrait f) = of_autos d f
    agree (Trait t) (Projection q) = trait_projection t q
    agree (Trait t) (AutoTrait d) = trait_auto t d
    agree (Projection p) (Trait u) = projection_trait p u
    agree (Projection p) (AutoTrait d) = projection_auto p d
    agree (AutoTrait d) (Trait u) = auto_trait d u
    agree (AutoTrait d) (Projection q) = auto_projection d q

    pub predicate_same : AreEqualAsTrees (existential_tree m) others
    predicate_same p q k l =
        let h = existential_same p q k l in
        (λ i. h.0 (sym (agree p q) ∙ i), λ e. agree p q ∙ h.1 e)

  pub projection_same : (projections : ExistentialProjection Key Id → ExistentialProjection Key Id → Bool) →
      ((p q : ExistentialProjection Key Id) → projections p q ≡ predicates (Projection p) (Projection q)) →
      AreEqualAsTrees (λ p. existential_tree m (Projection p)) projections
  projection_same projections of p q k l =
      let h = existential_same (Projection p) (Projection q) k l in
      (λ i. h.0 (sym (of p q) ∙ i), λ e. of p q ∙ h.1 e)
