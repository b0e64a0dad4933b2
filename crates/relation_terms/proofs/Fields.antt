-- The parts of predicates: where they stand, and forms over other parts.
use Rattle.std.proofs.Common.{◌≡◌, IsTrue, true, ◌&&◌, refl, sym, ap, ap₂, ◌∙◌, subst, List, Option, Some, None}
use Rattle.std.proofs.lemmas.Bool.{and_parts, false≢true}
use Rattle.relation_terms.specs.Heads.{region_sort, type_sort, const_sort, trait_ref_sort, alias_term_sort}
use Rattle.relation_terms.specs.Heads.{trait_clause, host_effect, subtype, region_outlives, type_outlives, projection}
use Rattle.relation_terms.specs.Heads.{const_has_type, well_formed, const_evaluatable, coerce, normalizes_to}
use Rattle.relation_terms.specs.Heads.{alias_relate, BoundKind}
use Rattle.relation_terms.specs.Trees.{Tree, leaf, node, bind, nil, cons, known}
use Rattle.relation_terms.specs.Meaning.{Meaning, Extends, term_tree, under}
use Rattle.relation_terms.specs.Predicates.{trait_ref_tree, alias_term_tree, clause_kind_tree, predicate_kind_tree}
use Rattle.relation_terms.specs.Predicates.{clause_tree, predicate_tree}
use Rattle.relation_terms.specs.Parts.{parts_of, over, tree_sort}
use Rattle.relation_terms.specs.Fields.{parts_under, over_under, field_sort, field_of_term, clause_view, predicate_view}
use Rattle.relation_terms.specs.Fields.{region_field, ty_field, const_field, term_field, trait_ref_field, alias_term_field, first_field}
use Rattle.relation_terms.specs.Fields.{second_field, clause_made, predicate_made, FitFields, AlikeFields, field_tree}
use Rattle.relation_terms.specs.Fields.{fields_tree}
use Rattle.relation_terms.specs.declared.terms.parts.predicates.Field.{Field}
use Rattle.relation_terms.specs.declared.terms.parts.predicates.Field.TheVariants.{Region, Ty, Const, TraitRef}
use Rattle.relation_terms.specs.declared.terms.parts.predicates.Field.TheVariants.{AliasTerm}
use Rattle.relation_terms.specs.declared.terms.parts.predicates.Fields.{Fields}
use Rattle.relation_terms.specs.declared.terms.parts.predicates.Fields.TheVariants.{Empty, One, Two}
use Rattle.relation_terms.specs.declared.terms.binder.Binder.{Binder}
use Rattle.relation_terms.specs.declared.terms.keys.RegionKey.{RegionKey}
use Rattle.relation_terms.specs.declared.terms.keys.TyKey.{TyKey}
use Rattle.relation_terms.specs.declared.terms.keys.ConstKey.{ConstKey}
use Rattle.relation_terms.specs.declared.terms.generic_arg.TermKind.{TermKind}
use Rattle.relation_terms.specs.declared.terms.generic_arg.TermKind.TheVariants.{Ty as TyTerm, Const as ConstTerm}
use Rattle.relation_terms.specs.declared.predicate.trait_ref.TraitRef.{TraitRef as TraitRefOf}
use Rattle.relation_terms.specs.declared.predicate.alias_term.AliasTerm.{AliasTerm as AliasTermOf}
use Rattle.relation_terms.specs.declared.predicate.kinds.ClauseKind.{ClauseKind}
use Rattle.relation_terms.specs.declared.predicate.kinds.ClauseKind.TheVariants.{Trait, RegionOutlives, TypeOutlives}
use Rattle.relation_terms.specs.declared.predicate.kinds.ClauseKind.TheVariants.{Projection, ConstArgHasType}
use Rattle.relation_terms.specs.declared.predicate.kinds.ClauseKind.TheVariants.{WellFormed, ConstEvaluatable}
use Rattle.relation_terms.specs.declared.predicate.kinds.ClauseKind.TheVariants.{HostEffect, UnstableFeature}
use Rattle.relation_terms.specs.declared.predicate.kinds.PredicateKind.{PredicateKind}
use Rattle.relation_terms.specs.declared.predicate.kinds.PredicateKind.TheVariants.{Clause, Subtype, Coerce}
use Rattle.relation_terms.specs.declared.predicate.kinds.PredicateKind.TheVariants.{NormalizesTo, AliasRelate, Ambiguous}
use Rattle.relation_terms.proofs.Members.{const_term, region_term, type_term}
use Rattle.relation_terms.proofs.Parts.{known_parts, over_known}
use Rattle.relation_terms.proofs.Predicates.{stays_trait_ref, stays_alias_term}
use Rattle.relation_terms.specs.Interning.{Sorted}
use Rattle.relation_terms.proofs.Stays.{knows_as}

-- The parts under a known binder, and the binder over the same form of others.
pub under_view : (o : Option (List BoundKind)) (t u : Tree) → t ≡ under o u → IsTrue (known t) →
    parts_of u ≡ parts_under t
under_view (Some ks) t u e k = ap parts_under (sym e)
under_view None t u e k = absurd (false≢true (subst (λ x. IsTrue (known x)) e k))

pub under_made : (o : Option (List BoundKind)) (t u us : Tree) → t ≡ under o u → IsTrue (known t) →
    under o (over u us) ≡ over_under t us
under_made (Some ks) t u us e k = ap (λ x. over_under x us) (sym e)
under_made None t u us e k = absurd (false≢true (subst (λ x. IsTrue (known x)) e k))

-- The parts under a known binder are known, and so is the binder over others that are.
pub known_under_parts : (t : Tree) → IsTrue (known t) → IsTrue (known (parts_under t))
known_under_parts (bind ks t) k = known_parts t k
known_under_parts (leaf l) k = refl
known_under_parts (node h ts) k = refl
known_under_parts nil k = refl
known_under_parts (cons t ts) k = refl

pub known_over_under : (t us : Tree) → IsTrue (known t) → IsTrue (known us) → IsTrue (known (over_under t us))
known_over_under (bind ks t) us k h = over_known t us (over t us) refl k h
known_over_under (leaf l) us k h = k
known_over_under (node g ts) us k h = k
known_over_under nil us k h = refl
known_over_under (cons t ts) us k h = k

module _ {Key Id Name : Type 0} (m : Meaning Key Id Name) where
  pub term_of_field : (a : TermKind Key) → field_tree m (field_of_term a) ≡ term_tree m a
  term_of_field (TyTerm t) = refl
  term_of_field (ConstTerm c) = refl

  -- The sort of a known part.
  pub field_sort_known : Sorted m → (f : Field Key Id) → IsTrue (known (field_tree m f)) →
      tree_sort (field_tree m f) ≡ field_sort f
  field_sort_known s (Region r) k = region_term (m.region r) (s.region r k)
  field_sort_known s (Ty t) k = type_term (m.ty t) (s.ty t k)
  field_sort_known s (Const c) k = const_term (m.const_ c) (s.const_ c k)
  field_sort_known s (TraitRef t) k = refl
  field_sort_known s (AliasTerm a) k = refl

  -- Parts that fit known ones stand as these do.
  pub fit_alike : Sorted m → (fs gs : Fields Key Id) → IsTrue (known (fields_tree m gs)) →
      FitFields fs (fields_tree m gs) → AlikeFields gs fs
  fit_alike s Empty Empty k h = tt
  fit_alike s (One f) (One g) k h = h ∙ field_sort_known s g (and_parts (known (field_tree m g)) true k).0
  fit_alike s (Two e f) (Two g h) k o =
      let p = and_parts (known (field_tree m g)) (known (field_tree m h) && true) k in
      (o.0 ∙ field_sort_known s g p.0, o.1 ∙ field_sort_known s h (and_parts (known (field_tree m h)) true p.1).0)
  fit_alike s Empty (One g) k h = absurd h
  fit_alike s Empty (Two g i) k h = absurd h
  fit_alike s (One f) Empty k h = absurd h
  fit_alike s (One f) (Two g i) k h = absurd h
  fit_alike s (Two e f) Empty k h = absurd h
  fit_alike s (Two e f) (One g) k h = absurd h

  -- The parts of a form stand where its view says.
  pub clause_viewed : (c : ClauseKind Key Id Name) → fields_tree m (clause_view c) ≡ parts_of (clause_kind_tree m c)
  clause_viewed (Trait p) = refl
  clause_viewed (RegionOutlives p) = refl
  clause_viewed (TypeOutlives p) = refl
  clause_viewed (Projection p) =
      ap (λ x. cons (alias_term_tree m p.projection_term) (cons x nil)) (term_of_field p.term)
  clause_viewed (ConstArgHasType c t) = refl
  clause_viewed (WellFormed a) = ap (λ x. cons x nil) (term_of_field a)
  clause_viewed (ConstEvaluatable c) = refl
  clause_viewed (HostEffect p) = refl
  clause_viewed (UnstableFeature s) = refl

  pub predicate_viewed : (p : PredicateKind Key Id Name) →
      fields_tree m (predicate_view p) ≡ parts_of (predicate_kind_tree m p)
  predicate_viewed (Clause c) = clause_viewed c
  predicate_viewed (Subtype p) = refl
  predicate_viewed (Coerce p) = refl
  predicate_viewed (NormalizesTo p) =
      ap (λ x. cons (alias_term_tree m p.alias) (cons x nil)) (term_of_field p.term)
  predicate_viewed (AliasRelate a b d) =
      ap₂ (λ x y. cons x (cons y nil)) (term_of_field a) (term_of_field b)
  predicate_viewed Ambiguous = refl

  -- What a part of that sort is.
  region_got : (f : Field Key Id) (d : RegionKey Key) → field_sort f ≡ region_sort → m.region (region_field f d) ≡ field_tree m f
  region_got (Region r) d e = refl
  region_got (Ty r) d e = absurd (cc)
  region_got (Const r) d e = absurd (cc)
  region_got (TraitRef r) d e = absurd (cc)
  region_got (AliasTerm r) d e = absurd (cc)

  ty_got : (f : Field Key Id) (d : TyKey Key) → field_sort f ≡ type_sort → m.ty (ty_field f d) ≡ field_tree m f
  ty_got (Ty r) d e = refl
  ty_got (Region r) d e = absurd (cc)
  ty_got (Const r) d e = absurd (cc)
  ty_got (TraitRef r) d e = absurd (cc)
  ty_got (AliasTerm r) d e = absurd (cc)

  const_got : (f : Field Key Id) (d : ConstKey Key) → field_sort f ≡ const_sort → m.const_ (const_field f d) ≡ field_tree m f
  const_got (Const r) d e = refl
  const_got (Region r) d e = absurd (cc)
  const_got (Ty r) d e = absurd (cc)
  const_got (TraitRef r) d e = absurd (cc)
  const_got (AliasTerm r) d e = absurd (cc)

  term_got : (f : Field Key Id) (a : TermKind Key) → field_sort f ≡ field_sort (field_of_term {Key = Key} {Id = Id} a) →
      term_tree m (term_field f a) ≡ field_tree m f
  term_got (Ty r) a e = refl
  term_got (Const r) a e = refl
  term_got (Region r) (TyTerm t) e = absurd (cc)
  term_got (Region r) (ConstTerm t) e = absurd (cc)
  term_got (TraitRef r) (TyTerm t) e = absurd (cc)
  term_got (TraitRef r) (ConstTerm t) e = absurd (cc)
  term_got (AliasTerm r) (TyTerm t) e = absurd (cc)
  term_got (AliasTerm r) (ConstTerm t) e = absurd (cc)

  trait_ref_got : (f : Field Key Id) (d : TraitRefOf Key Id) → field_sort f ≡ trait_ref_sort →
      trait_ref_tree m (trait_ref_field f d) ≡ field_tree m f
  trait_ref_got (TraitRef r) d e = refl
  trait_ref_got (Region r) d e = absurd (cc)
  trait_ref_got (Ty r) d e = absurd (cc)
  trait_ref_got (Const r) d e = absurd (cc)
  trait_ref_got (AliasTerm r) d e = absurd (cc)

  alias_term_got : (f : Field Key Id) (d : AliasTermOf Key Id) → field_sort f ≡ alias_term_sort →
      alias_term_tree m (alias_term_field f d) ≡ field_tree m f
  alias_term_got (AliasTerm r) d e = refl
  alias_term_got (Region r) d e = absurd (cc)
  alias_term_got (Ty r) d e = absurd (cc)
  alias_term_got (Const r) d e = absurd (cc)
  alias_term_got (TraitRef r) d e = absurd (cc)

  -- The parts at the places of others.
  one_got : (f : Field Key Id) (fs : Fields Key Id) → AlikeFields (One f) fs →
      (field_sort (first_field fs f) ≡ field_sort f) × (cons (field_tree m (first_field fs f)) nil ≡ fields_tree m fs)
  one_got f (One g) a = (a, refl)
  one_got f Empty a = absurd a
  one_got f (Two g h) a = absurd a

  two_got : (f g : Field Key Id) (fs : Fields Key Id) → AlikeFields (Two f g) fs →
      (field_sort (first_field fs f) ≡ field_sort f) × ((field_sort (second_field fs g) ≡ field_sort g) ×
      (cons (field_tree m (first_field fs f)) (cons (field_tree m (second_field fs g)) nil) ≡ fields_tree m fs))
  two_got f g (Two h i) a = (a.0, (a.1, refl))
  two_got f g Empty a = absurd a
  two_got f g (One h) a = absurd a

  -- A form over other parts.
  pub clause_remade : (c : ClauseKind Key Id Name) (fs : Fields Key Id) → AlikeFields (clause_view c) fs →
      clause_kind_tree m (clause_made c fs) ≡ over (clause_kind_tree m c) (fields_tree m fs)
  clause_remade (Trait p) fs a =
      let d = TraitRef p.trait_ref in
      let o = one_got d fs a in
      ap (λ x. node (trait_clause p.polarity) (cons x nil)) (trait_ref_got (first_field fs d) p.trait_ref o.0)
      ∙ ap (node (trait_clause p.polarity)) o.1
  clause_remade (RegionOutlives p) fs a =
      let o = two_got (Region p.0) (Region p.1) fs a in
      ap₂ (λ x y. node region_outlives (cons x (cons y nil))) (region_got (first_field fs (Region p.0)) p.0 o.0)
      (region_got (second_field fs (Region p.1)) p.1 o.1.0) ∙ ap (node region_outlives) o.1.1
  clause_remade (TypeOutlives p) fs a =
      let o = two_got (Ty p.0) (Region p.1) fs a in
      ap₂ (λ x y. node type_outlives (cons x (cons y nil))) (ty_got (first_field fs (Ty p.0)) p.0 o.0)
      (region_got (second_field fs (Region p.1)) p.1 o.1.0) ∙ ap (node type_outlives) o.1.1
  clause_remade (Projection p) fs a =
      let d = AliasTerm p.projection_term in
      let e = field_of_term p.term in
      let o = two_got d e fs a in
      ap₂ (λ x y. node projection (cons x (cons y nil))) (alias_term_got (first_field fs d) p.projection_term o.0)
      (term_got (second_field fs e) p.term o.1.0) ∙ ap (node projection) o.1.1
  clause_remade (ConstArgHasType c t) fs a =
      let o = two_got (Const c) (Ty t) fs a in
      ap₂ (λ x y. node const_has_type (cons x (cons y nil))) (const_got (first_field fs (Const c)) c o.0)
      (ty_got (second_field fs (Ty t)) t o.1.0) ∙ ap (node const_has_type) o.1.1
  clause_remade (WellFormed b) fs a =
      let d = field_of_term b in
      let o = one_got d fs a in
      ap (λ x. node well_formed (cons x nil)) (term_got (first_field fs d) b o.0) ∙ ap (node well_formed) o.1
  clause_remade (ConstEvaluatable c) fs a =
      let o = one_got (Const c) fs a in
      ap (λ x. node const_evaluatable (cons x nil)) (const_got (first_field fs (Const c)) c o.0)
      ∙ ap (node const_evaluatable) o.1
  clause_remade (HostEffect p) fs a =
      let d = TraitRef p.trait_ref in
      let o = one_got d fs a in
      ap (λ x. node (host_effect p.constness) (cons x nil)) (trait_ref_got (first_field fs d) p.trait_ref o.0)
      ∙ ap (node (host_effect p.constness)) o.1
  clause_remade (UnstableFeature s) fs a = refl

  pub predicate_remade : (p : PredicateKind Key Id Name) (fs : Fields Key Id) → AlikeFields (predicate_view p) fs →
      predicate_kind_tree m (predicate_made p fs) ≡ over (predicate_kind_tree m p) (fields_tree m fs)
  predicate_remade (Clause c) fs a = clause_remade c fs a
  predicate_remade (Subtype p) fs a =
      let o = two_got (Ty p.a) (Ty p.b) fs a in
      ap₂ (λ x y. node (subtype p.a_is_expected) (cons x (cons y nil))) (ty_got (first_field fs (Ty p.a)) p.a o.0)
      (ty_got (second_field fs (Ty p.b)) p.b o.1.0) ∙ ap (node (subtype p.a_is_expected)) o.1.1
  predicate_remade (Coerce p) fs a =
      let o = two_got (Ty p.a) (Ty p.b) fs a in
      ap₂ (λ x y. node coerce (cons x (cons y nil))) (ty_got (first_field fs (Ty p.a)) p.a o.0)
      (ty_got (second_field fs (Ty p.b)) p.b o.1.0) ∙ ap (node coerce) o.1.1
  predicate_remade (NormalizesTo p) fs a =
      let d = AliasTerm p.alias in
      let e = field_of_term p.term in
      let o = two_got d e fs a in
      ap₂ (λ x y. node normalizes_to (cons x (cons y nil))) (alias_term_got (first_field fs d) p.alias o.0)
      (term_got (second_field fs e) p.term o.1.0) ∙ ap (node normalizes_to) o.1.1
  predicate_remade (AliasRelate b c i) fs a =
      let d = field_of_term b in
      let e = field_of_term c in
      let o = two_got d e fs a in
      ap₂ (λ x y. node (alias_relate i) (cons x (cons y nil))) (term_got (first_field fs d) b o.0)
      (term_got (second_field fs e) c o.1.0) ∙ ap (node (alias_relate i)) o.1.1
  predicate_remade Ambiguous fs a = refl

  -- What a call reads of a clause or a predicate: its parts stand under its binder.
  pub clause_seen : (b : Binder Key (ClauseKind Key Id Name)) (t : Tree) → t ≡ clause_tree m b → IsTrue (known t) →
      fields_tree m (clause_view b.value) ≡ parts_under t
  clause_seen b t e k =
      clause_viewed b.value ∙ under_view (m.bound_vars b.bound_vars) t (clause_kind_tree m b.value) e k

  pub predicate_seen : (b : Binder Key (PredicateKind Key Id Name)) (t : Tree) → t ≡ predicate_tree m b →
      IsTrue (known t) → fields_tree m (predicate_view b.value) ≡ parts_under t
  predicate_seen b t e k =
      predicate_viewed b.value ∙ under_view (m.bound_vars b.bound_vars) t (predicate_kind_tree m b.value) e k

  -- What a call makes of it over other parts that fit.
  pub clause_over_parts : Sorted m → (b : Binder Key (ClauseKind Key Id Name)) (o : ClauseKind Key Id Name) (t : Tree)
      (fs : Fields Key Id) → o ≡ clause_made b.value fs → t ≡ clause_tree m b → IsTrue (known t) →
      FitFields fs (parts_under t) →
      clause_tree m (record { value = o; bound_vars = b.bound_vars }) ≡ over_under t (fields_tree m fs)
  clause_over_parts s b o t fs q e k h =
      let v = m.bound_vars b.bound_vars in
      let seen = clause_seen b t e k in
      let sure = knows_as (parts_under t) (fields_tree m (clause_view b.value)) seen (known_under_parts t k) in
      let alike = fit_alike s fs (clause_view b.value) sure (subst (FitFields fs) (sym seen) h) in
      ap (λ x. under v (clause_kind_tree m x)) q ∙ ap (under v) (clause_remade b.value fs alike)
      ∙ under_made v t (clause_kind_tree m b.value) (fields_tree m fs) e k

  pub predicate_over_parts : Sorted m → (b : Binder Key (PredicateKind Key Id Name)) (o : PredicateKind Key Id Name) (t : Tree)
      (fs : Fields Key Id) → o ≡ predicate_made b.value fs → t ≡ predicate_tree m b → IsTrue (known t) →
      FitFields fs (parts_under t) →
      predicate_tree m (record { value = o; bound_vars = b.bound_vars }) ≡ over_under t (fields_tree m fs)
  predicate_over_parts s b o t fs q e k h =
      let v = m.bound_vars b.bound_vars in
      let seen = predicate_seen b t e k in
      let sure = knows_as (parts_under t) (fields_tree m (predicate_view b.value)) seen (known_under_parts t k) in
      let alike = fit_alike s fs (predicate_view b.value) sure (subst (FitFields fs) (sym seen) h) in
      ap (λ x. under v (predicate_kind_tree m x)) q ∙ ap (under v) (predicate_remade b.value fs alike)
      ∙ under_made v t (predicate_kind_tree m b.value) (fields_tree m fs) e k

-- Known parts keep their trees while the interner grows.
module _ {Key Id Name : Type 0} {m n : Meaning Key Id Name} (e : Extends m n) where
  pub stays_field : (f : Field Key Id) → IsTrue (known (field_tree m f)) → field_tree n f ≡ field_tree m f
  stays_field (Region r) k = e.region r k
  stays_field (Ty t) k = e.ty t k
  stays_field (Const c) k = e.const_ c k
  stays_field (TraitRef t) k = stays_trait_ref e t k
  stays_field (AliasTerm a) k = stays_alias_term e a k

  pub stays_fields : (fs : Fields Key Id) → IsTrue (known (fields_tree m fs)) → fields_tree n fs ≡ fields_tree m fs
  stays_fields Empty k = refl
  stays_fields (One f) k = ap (λ z. cons z nil) (stays_field f (and_parts (known (field_tree m f)) true k).0)
  stays_fields (Two f g) k =
      let o = and_parts (known (field_tree m f)) (known (field_tree m g) && true) k in
      ap₂ (λ y z. cons y (cons z nil)) (stays_field f o.0)
      (stays_field g (and_parts (known (field_tree m g)) true o.1).0)
