-- Forms without keys: of one tree, they are equal.
use Rattle.std.proofs.Common.{◌≡◌, ◌&&◌, Bool, true, sym, ap, ap₂, ◌∙◌, subst, IsTrue}
use Rattle.std.proofs.lemmas.Bool.{and_parts}
use Rattle.std.specs.Cmp.Derive.{both_true}
use Rattle.relation_terms.specs.Trees.{Tree, known, front, last}
use Rattle.relation_terms.specs.Meaning.{Meaning, signature_tree, existential_tree, term_tree, under}
use Rattle.relation_terms.specs.Parts.{tree_sort}
use Rattle.relation_terms.specs.Interning.{AreEqualAsTrees, AreEqualAsKinds, AreEqualAsNumbers}
use Rattle.relation_terms.specs.declared.predicate.existential.ExistentialPredicate.{ExistentialPredicate}
use Rattle.relation_terms.specs.declared.predicate.existential.ExistentialPredicate.TheVariants.{Trait, AutoTrait}
use Rattle.relation_terms.specs.declared.predicate.existential.ExistentialPredicate.TheVariants.{Projection}
use Rattle.relation_terms.specs.declared.predicate.existential.ExistentialTraitRef.{ExistentialTraitRef}
use Rattle.relation_terms.specs.declared.predicate.existential.ExistentialProjection.{ExistentialProjection}
use Rattle.relation_terms.specs.declared.terms.generic_arg.TermKind.{TermKind}
use Rattle.relation_terms.specs.declared.terms.generic_arg.TermKind.TheVariants.{Ty as TyTerm, Const as ConstTerm}
use Rattle.relation_terms.specs.declared.terms.keys.TyKey.{TyKey}
use Rattle.relation_terms.specs.declared.terms.keys.ConstKey.{ConstKey}
use Rattle.relation_terms.specs.declared.terms.ids.TraitId.{TraitId}
use Rattle.relation_terms.proofs.Members.{type_term, const_term}
use Rattle.relation_terms.specs.Interning.{Sorted}
use Rattle.term_enums.specs.declared.FnHeader.{FnHeader}
use Rattle.relation_terms.specs.declared.terms.fn_sig.FnSig.{FnSig}
use Rattle.relation_terms.specs.declared.terms.keys.BoundVarsKey.{BoundVarsKey}
use Rattle.relation_terms.proofs.Binders.{front_known, front_last_once, under_known, under_once}
use Rattle.relation_terms.proofs.Same.{header_eq, header_self}

module _ {Key Id Name : Type 0} (m : Meaning Key Id Name) (eq : Key → Key → Bool) where
  -- Signatures of one tree have one list and equal headers.
  pub signature_found : AreEqualAsTrees m.tys (λ k l. eq k.0 l.0) → (g h : FnSig Key) →
      IsTrue (known (signature_tree m g)) → IsTrue (known (signature_tree m h)) →
      signature_tree m g ≡ signature_tree m h →
      IsTrue (eq (g.inputs_and_output).0 (h.inputs_and_output).0 && header_eq g.header h.header)
  signature_found law g h k l e =
      let ts = m.tys g.inputs_and_output in
      let us = m.tys h.inputs_and_output in
      let p = (and_parts (known (front ts)) (known (last ts) && true) k).0 in
      let q = (and_parts (known (front us)) (known (last us) && true) l).0 in
      let fronts : front ts ≡ front us = cc in
      let lasts : last ts ≡ last us = cc in
      let v : (g.header).c_variadic ≡ (h.header).c_variadic = cc in
      let s : (g.header).safety ≡ (h.header).safety = cc in
      let a : (g.header).abi ≡ (h.header).abi = cc in
      let headers : g.header ≡ h.header =
      ap₂ (λ x (y : FnHeader). record { c_variadic = x; safety = y.safety; abi = y.abi }) v
      (ap₂ (λ x y. record { c_variadic = (h.header).c_variadic; safety = x; abi = y }) s a) in
      both_true ((law g.inputs_and_output h.inputs_and_output (front_known ts p) (front_known us q)).1
      (front_last_once ts us p fronts lasts))
      (subst (λ x. IsTrue (header_eq g.header x)) headers (header_self g.header))

  -- Binders of one tree have one list, and bodies of one tree.
  pub binder_found : AreEqualAsKinds m.bound_vars (λ k l. eq k.0 l.0) → (v w : BoundVarsKey Key) (t u : Tree) (b : Bool) →
      (t ≡ u → IsTrue b) → IsTrue (known (under (m.bound_vars v) t)) → IsTrue (known (under (m.bound_vars w) u)) →
      under (m.bound_vars v) t ≡ under (m.bound_vars w) u → IsTrue (b && eq v.0 w.0)
  binder_found law v w t u b f k l e =
      let o = under_once (m.bound_vars v) (m.bound_vars w) t u k e in
      both_true (f o.1) ((law v w (under_known (m.bound_vars v) t k).0 (under_known (m.bound_vars w) u l).0).1 o.0)

-- Of the equality of predicates of trait objects this is used: what it is of each form.
module _ {Key Id Name : Type 0} (m : Meaning Key Id Name) (eq : Key → Key → Bool) (ids : Id → Id → Bool)
    (terms : TermKind Key → TermKind Key → Bool) (predicates : ExistentialPredicate Key Id → ExistentialPredicate Key Id → Bool)
    (of_tys : (a b : TyKey Key) → terms (TyTerm a) (TyTerm b) ≡ eq a.0 b.0)
    (of_consts : (a b : ConstKey Key) → terms (ConstTerm a) (ConstTerm b) ≡ eq a.0 b.0)
    (of_traits : (t u : ExistentialTraitRef Key Id) →
    predicates (Trait t) (Trait u) ≡ (ids (t.def_id).0 (u.def_id).0 && eq (t.args).0 (u.args).0))
    (of_projections : (p q : ExistentialProjection Key Id) → predicates (Projection p) (Projection q) ≡
    (ids (p.def_id).0 (q.def_id).0 && (eq (p.args).0 (q.args).0 && terms p.term q.term)))
    (of_autos : (d f : TraitId Id) → predicates (AutoTrait d) (AutoTrait f) ≡ ids d.0 f.0)
    (same_id : AreEqualAsNumbers m.id ids) (same_ty : AreEqualAsTrees m.ty (λ k l. eq k.0 l.0))
    (same_const : AreEqualAsTrees m.const_ (λ k l. eq k.0 l.0)) (same_args : AreEqualAsTrees m.args (λ k l. eq k.0 l.0))
    (s : Sorted m) where
  term_found : (t u : TermKind Key) → IsTrue (known (term_tree m t)) → IsTrue (known (term_tree m u)) →
      term_tree m t ≡ term_tree m u → IsTrue (terms t u)
  term_found (TyTerm a) (TyTerm b) k l e = of_tys a b ∙ (same_ty a b k l).1 e
  term_found (ConstTerm a) (ConstTerm b) k l e = of_consts a b ∙ (same_const a b k l).1 e
  term_found (TyTerm a) (ConstTerm b) k l e =
      let p = type_term (m.ty a) (s.ty a k) in
      let q = const_term (m.const_ b) (s.const_ b l) in
      absurd (let h = sym p ∙ ap tree_sort e ∙ q in cc)
  term_found (ConstTerm a) (TyTerm b) k l e =
      let p = const_term (m.const_ a) (s.const_ a k) in
      let q = type_term (m.ty b) (s.ty b l) in
      absurd (let h = sym p ∙ ap tree_sort e ∙ q in cc)

  -- Predicates of trait objects of one tree are equal.
  pub existential_found : (p q : ExistentialPredicate Key Id) → IsTrue (known (existential_tree m p)) →
      IsTrue (known (existential_tree m q)) → existential_tree m p ≡ existential_tree m q → IsTrue (predicates p q)
  existential_found (Trait t) (Trait u) k l e =
      let items : m.id (t.def_id).0 ≡ m.id (u.def_id).0 = cc in
      let args : m.args t.args ≡ m.args u.args = cc in
      of_traits t u ∙ both_true ((same_id (t.def_id).0 (u.def_id).0).1 items) ((same_args t.args u.args k l).1 args)
  existential_found (Projection p) (Projection q) k l e =
      let h = and_parts (known (term_tree m p.term)) (known (m.args p.args)) k in
      let i = and_parts (known (term_tree m q.term)) (known (m.args q.args)) l in
      let items : m.id (p.def_id).0 ≡ m.id (q.def_id).0 = cc in
      let trees : term_tree m p.term ≡ term_tree m q.term = cc in
      let args : m.args p.args ≡ m.args q.args = cc in
      of_projections p q ∙ both_true ((same_id (p.def_id).0 (q.def_id).0).1 items)
      (both_true ((same_args p.args q.args h.1 i.1).1 args) (term_found p.term q.term h.0 i.0 trees))
  existential_found (AutoTrait d) (AutoTrait f) k l e =
      let items : m.id d.0 ≡ m.id f.0 = cc in
      of_autos d f ∙ (same_id d.0 f.0).1 items
  existential_found p q k l e = absurd (cc)
