-- Trait references, predicates of traits and alias terms are equal exactly where their trees are.
use Rattle.std.proofs.Common.{◌≡◌, ◌&&◌, Bool, true, false, IsTrue, refl, sym, ap₂, ◌∙◌}
use Rattle.std.proofs.lemmas.Bool.{and_parts, false≢true}
use Rattle.std.specs.Cmp.Derive.{both_true}
use Rattle.term_enums.specs.declared.PredicatePolarity.{PredicatePolarity}
use Rattle.term_enums.specs.declared.PredicatePolarity.TheVariants.{Positive, Negative}
use Rattle.term_enums.specs.contracts.PredicatePolarityPartialEq.TheImpl as polarity_impl
use Rattle.relation_terms.specs.contracts.predicate.alias_term.AliasTermKindPartialEq.TheImpl as kind_impl
use Rattle.relation_terms.specs.contracts.terms.alias.AliasTyKindPartialEq.TheImpl as ty_kind_impl
use Rattle.relation_terms.specs.declared.terms.alias.AliasTy.{AliasTy}
use Rattle.relation_terms.specs.declared.terms.alias.AliasTyKind.{AliasTyKind}
use Rattle.relation_terms.specs.declared.terms.alias.AliasTyKind.TheVariants.{Projection, Inherent, Opaque, Free}
use Rattle.relation_folds.specs.Aliases.{alias_ty_tree}
use Rattle.relation_terms.specs.declared.predicate.alias_term.AliasTerm.{AliasTerm}
use Rattle.relation_terms.specs.declared.predicate.alias_term.AliasTermKind.{AliasTermKind}
use Rattle.relation_terms.specs.declared.predicate.alias_term.AliasTermKind.TheVariants.{ProjectionTy, InherentTy}
use Rattle.relation_terms.specs.declared.predicate.alias_term.AliasTermKind.TheVariants.{OpaqueTy, FreeTy}
use Rattle.relation_terms.specs.declared.predicate.alias_term.AliasTermKind.TheVariants.{UnevaluatedConst}
use Rattle.relation_terms.specs.declared.predicate.alias_term.AliasTermKind.TheVariants.{ProjectionConst, FreeConst}
use Rattle.relation_terms.specs.declared.predicate.alias_term.AliasTermKind.TheVariants.{InherentConst}
use Rattle.relation_terms.specs.declared.predicate.kinds.ClauseKind.TheVariants.{Trait}
use Rattle.relation_terms.specs.declared.predicate.trait_ref.TraitPredicate.{TraitPredicate}
use Rattle.relation_terms.specs.declared.predicate.trait_ref.TraitRef.{TraitRef}
use Rattle.relation_terms.specs.Heads.{alias_term, type_alias, trait_ref, trait_clause}
use Rattle.relation_terms.specs.Trees.{node, nil, cons, known}
use Rattle.relation_terms.specs.Meaning.{Meaning, alias_kind, alias_id}
use Rattle.relation_terms.specs.Predicates.{alias_term_kind, alias_term_id, alias_term_tree, trait_ref_tree}
use Rattle.relation_terms.specs.Predicates.{clause_kind_tree}
use Rattle.relation_terms.specs.Interning.{AreEqualAsTrees, AreEqualAsNumbers}
use Rattle.relation_terms.proofs.Same.{polarity_eq, polarity_same}

-- Two kinds of aliases, by the equality of ids.
abbrev pub kinds_by : {Id : Type 0} → (Id → Id → Bool) → AliasTermKind Id → AliasTermKind Id → Bool
kinds_by ids (ProjectionTy d) (ProjectionTy e) = ids d.0 e.0
kinds_by ids (InherentTy d) (InherentTy e) = ids d.0 e.0
kinds_by ids (OpaqueTy d) (OpaqueTy e) = ids d.0 e.0
kinds_by ids (FreeTy d) (FreeTy e) = ids d.0 e.0
kinds_by ids (UnevaluatedConst d) (UnevaluatedConst e) = ids d.0 e.0
kinds_by ids (ProjectionConst d) (ProjectionConst e) = ids d.0 e.0
kinds_by ids (FreeConst d) (FreeConst e) = ids d.0 e.0
kinds_by ids (InherentConst d) (InherentConst e) = ids d.0 e.0
kinds_by ids a b = false

-- It is the one that is declared, whatever is looked up.
pub kinds_declared : (row : _) (ids : _) (k l : _) →
    (kind_impl.ghosts row ids polarity_impl.dict).eq k l ≡ kinds_by ids.eq k l
kinds_declared row ids (ProjectionTy d) (ProjectionTy e) = refl
kinds_declared row ids (InherentTy d) (InherentTy e) = refl
kinds_declared row ids (OpaqueTy d) (OpaqueTy e) = refl
kinds_declared row ids (FreeTy d) (FreeTy e) = refl
kinds_declared row ids (UnevaluatedConst d) (UnevaluatedConst e) = refl
kinds_declared row ids (ProjectionConst d) (ProjectionConst e) = refl
kinds_declared row ids (FreeConst d) (FreeConst e) = refl
kinds_declared row ids (InherentConst d) (InherentConst e) = refl
kinds_declared row ids _ _ = refl

-- They are of one kind, and of ids that are equal.
kinds_same : {Id : Type 0} (ids : Id → Id → Bool) (a b : AliasTermKind Id) → IsTrue (kinds_by ids a b) →
    (alias_term_kind a ≡ alias_term_kind b) × IsTrue (ids (alias_term_id a) (alias_term_id b))
kinds_same ids (ProjectionTy d) (ProjectionTy e) h = (refl, h)
kinds_same ids (InherentTy d) (InherentTy e) h = (refl, h)
kinds_same ids (OpaqueTy d) (OpaqueTy e) h = (refl, h)
kinds_same ids (FreeTy d) (FreeTy e) h = (refl, h)
kinds_same ids (UnevaluatedConst d) (UnevaluatedConst e) h = (refl, h)
kinds_same ids (ProjectionConst d) (ProjectionConst e) h = (refl, h)
kinds_same ids (FreeConst d) (FreeConst e) h = (refl, h)
kinds_same ids (InherentConst d) (InherentConst e) h = (refl, h)
kinds_same ids a b h = absurd (false≢true h)

kinds_found : {Id : Type 0} (ids : Id → Id → Bool) (a b : AliasTermKind Id) → alias_term_kind a ≡ alias_term_kind b →
    IsTrue (ids (alias_term_id a) (alias_term_id b)) → IsTrue (kinds_by ids a b)
kinds_found ids (ProjectionTy d) (ProjectionTy e) k h = h
kinds_found ids (InherentTy d) (InherentTy e) k h = h
kinds_found ids (OpaqueTy d) (OpaqueTy e) k h = h
kinds_found ids (FreeTy d) (FreeTy e) k h = h
kinds_found ids (UnevaluatedConst d) (UnevaluatedConst e) k h = h
kinds_found ids (ProjectionConst d) (ProjectionConst e) k h = h
kinds_found ids (FreeConst d) (FreeConst e) k h = h
kinds_found ids (InherentConst d) (InherentConst e) k h = h
kinds_found ids a b k h = absurd (cc)

-- The same of two kinds of alias types.
abbrev pub ty_kinds_by : {Id : Type 0} → (Id → Id → Bool) → AliasTyKind Id → AliasTyKind Id → Bool
ty_kinds_by ids (Projection d) (Projection e) = ids d.0 e.0
ty_kinds_by ids (Inherent d) (Inherent e) = ids d.0 e.0
ty_kinds_by ids (Opaque d) (Opaque e) = ids d.0 e.0
ty_kinds_by ids (Free d) (Free e) = ids d.0 e.0
ty_kinds_by ids a b = false

pub ty_kinds_declared : (row : _) (ids : _) (k l : _) →
    (ty_kind_impl.ghosts row ids polarity_impl.dict).eq k l ≡ ty_kinds_by ids.eq k l
ty_kinds_declared row ids (Projection d) (Projection e) = refl
ty_kinds_declared row ids (Inherent d) (Inherent e) = refl
ty_kinds_declared row ids (Opaque d) (Opaque e) = refl
ty_kinds_declared row ids (Free d) (Free e) = refl
ty_kinds_declared row ids _ _ = refl

ty_kinds_same : {Id : Type 0} (ids : Id → Id → Bool) (a b : AliasTyKind Id) → IsTrue (ty_kinds_by ids a b) →
    (alias_kind a ≡ alias_kind b) × IsTrue (ids (alias_id a) (alias_id b))
ty_kinds_same ids (Projection d) (Projection e) h = (refl, h)
ty_kinds_same ids (Inherent d) (Inherent e) h = (refl, h)
ty_kinds_same ids (Opaque d) (Opaque e) h = (refl, h)
ty_kinds_same ids (Free d) (Free e) h = (refl, h)
ty_kinds_same ids a b h = absurd (false≢true h)

ty_kinds_found : {Id : Type 0} (ids : Id → Id → Bool) (a b : AliasTyKind Id) → alias_kind a ≡ alias_kind b →
    IsTrue (ids (alias_id a) (alias_id b)) → IsTrue (ty_kinds_by ids a b)
ty_kinds_found ids (Projection d) (Projection e) k h = h
ty_kinds_found ids (Inherent d) (Inherent e) k h = h
ty_kinds_found ids (Opaque d) (Opaque e) k h = h
ty_kinds_found ids (Free d) (Free e) k h = h
ty_kinds_found ids a b k h = absurd (cc)

polarity_found : (p q : PredicatePolarity) → p ≡ q → IsTrue (polarity_eq p q)
polarity_found Positive Positive e = refl
polarity_found Negative Negative e = refl
polarity_found Positive Negative e = absurd (cc)
polarity_found Negative Positive e = absurd (cc)

module _ {Key Id Name : Type 0} (m : Meaning Key Id Name) (eq : Key → Key → Bool) (ids : Id → Id → Bool) where
  -- Trait references, over the equality of items and lists of arguments.
  pub trait_ref_same : (refs : TraitRef Key Id → TraitRef Key Id → Bool) → ((t u : TraitRef Key Id) →
      refs t u ≡ (ids (t.def_id).0 (u.def_id).0 && eq (t.args).0 (u.args).0)) → AreEqualAsNumbers m.id ids →
      AreEqualAsTrees m.args (λ k l. eq k.0 l.0) → AreEqualAsTrees (trait_ref_tree m) refs
  trait_ref_same refs of same_id same_args t u k l = (
    λ i. let h = and_parts (ids (t.def_id).0 (u.def_id).0) (eq (t.args).0 (u.args).0) (sym (of t u) ∙ i) in
        ap₂ (λ x y. node (trait_ref x) y) ((same_id (t.def_id).0 (u.def_id).0).0 h.0)
        ((same_args t.args u.args k l).0 h.1),
    λ e. let items : m.id (t.def_id).0 ≡ m.id (u.def_id).0 = cc in
        let lists : m.args t.args ≡ m.args u.args = cc in
        of t u ∙ both_true ((same_id (t.def_id).0 (u.def_id).0).1 items) ((same_args t.args u.args k l).1 lists),
  )

  -- Predicates of traits, over that of trait references.
  pub trait_clause_same : (clauses : TraitPredicate Key Id → TraitPredicate Key Id → Bool) →
      ((p q : TraitPredicate Key Id) → clauses p q ≡ ((ids ((p.trait_ref).def_id).0 ((q.trait_ref).def_id).0 &&
      eq ((p.trait_ref).args).0 ((q.trait_ref).args).0) && polarity_eq p.polarity q.polarity)) →
      AreEqualAsNumbers m.id ids → AreEqualAsTrees m.args (λ k l. eq k.0 l.0) →
      AreEqualAsTrees (λ p. clause_kind_tree m (Trait p)) clauses
  trait_clause_same clauses of same_id same_args p q k l =
      let refs : TraitRef Key Id → TraitRef Key Id → Bool =
      λ t u. ids (t.def_id).0 (u.def_id).0 && eq (t.args).0 (u.args).0 in
      let t = p.trait_ref in
      let u = q.trait_ref in
      let x = (and_parts (known (trait_ref_tree m t)) true k).0 in
      let y = (and_parts (known (trait_ref_tree m u)) true l).0 in
      let same = trait_ref_same refs (λ t u. refl) same_id same_args t u x y in (
        λ i. let h = and_parts (refs t u) (polarity_eq p.polarity q.polarity) (sym (of p q) ∙ i) in
            ap₂ (λ c z. node (trait_clause c) (cons z nil)) (polarity_same p.polarity q.polarity h.1) (same.0 h.0),
        λ e. let heads : p.polarity ≡ q.polarity = cc in
            let parts : trait_ref_tree m t ≡ trait_ref_tree m u = cc in
            of p q ∙ both_true (same.1 parts) (polarity_found p.polarity q.polarity heads),
      )

  -- Alias terms, over the equality of kinds and lists of arguments.
  pub alias_term_same : (aliases : AliasTerm Key Id → AliasTerm Key Id → Bool)
      (kinds : AliasTermKind Id → AliasTermKind Id → Bool) → ((k l : AliasTermKind Id) → kinds k l ≡ kinds_by ids k l) →
      ((a b : AliasTerm Key Id) → aliases a b ≡ (kinds a.kind b.kind && eq (a.args).0 (b.args).0)) →
      AreEqualAsNumbers m.id ids → AreEqualAsTrees m.args (λ k l. eq k.0 l.0) →
      AreEqualAsTrees (alias_term_tree m) aliases
  alias_term_same aliases kinds by of same_id same_args a b k l = (
    λ i. let h = and_parts (kinds a.kind b.kind) (eq (a.args).0 (b.args).0) (sym (of a b) ∙ i) in
        let same = kinds_same ids a.kind b.kind (sym (by a.kind b.kind) ∙ h.0) in
        ap₂ (λ x y. node x y) (ap₂ (λ x y. alias_term x y) same.0
        ((same_id (alias_term_id a.kind) (alias_term_id b.kind)).0 same.1)) ((same_args a.args b.args k l).0 h.1),
    λ e. let one_kind : alias_term_kind a.kind ≡ alias_term_kind b.kind = cc in
        let items : m.id (alias_term_id a.kind) ≡ m.id (alias_term_id b.kind) = cc in
        let lists : m.args a.args ≡ m.args b.args = cc in
        of a b ∙ both_true (by a.kind b.kind ∙ kinds_found ids a.kind b.kind one_kind
        ((same_id (alias_term_id a.kind) (alias_term_id b.kind)).1 items)) ((same_args a.args b.args k l).1 lists),
  )

  -- Alias types, as alias terms, the same way.
  pub alias_ty_same : (aliases : AliasTy Key Id → AliasTy Key Id → Bool) (kinds : AliasTyKind Id → AliasTyKind Id → Bool) →
      ((k l : AliasTyKind Id) → kinds k l ≡ ty_kinds_by ids k l) →
      ((a b : AliasTy Key Id) → aliases a b ≡ (kinds a.kind b.kind && eq (a.args).0 (b.args).0)) →
      AreEqualAsNumbers m.id ids → AreEqualAsTrees m.args (λ k l. eq k.0 l.0) →
      AreEqualAsTrees (alias_ty_tree m) aliases
  alias_ty_same aliases kinds by of same_id same_args a b k l = (
    λ i. let h = and_parts (kinds a.kind b.kind) (eq (a.args).0 (b.args).0) (sym (of a b) ∙ i) in
        let same = ty_kinds_same ids a.kind b.kind (sym (by a.kind b.kind) ∙ h.0) in
        ap₂ (λ x y. node x y) (ap₂ (λ x y. alias_term (type_alias x) y) same.0
        ((same_id (alias_id a.kind) (alias_id b.kind)).0 same.1)) ((same_args a.args b.args k l).0 h.1),
    λ e. let one_kind : alias_kind a.kind ≡ alias_kind b.kind = cc in
        let items : m.id (alias_id a.kind) ≡ m.id (alias_id b.kind) = cc in
        let lists : m.args a.args ≡ m.args b.args = cc in
        of a b ∙ both_true (by a.kind b.kind ∙ ty_kinds_found ids a.kind b.kind one_kind
        ((same_id (alias_id a.kind) (alias_id b.kind)).1 items)) ((same_args a.args b.args k l).1 lists),
  )
