-- Predicates and clauses: what is known of them stays while an interner grows, is of their sorts, and is one form's.
use Rattle.std.proofs.Common.{ℕ, ◌≡◌, IsTrue, true, ◌&&◌, eqb, refl, ap, ap₂, sym, ◌∙◌}
use Rattle.std.proofs.lemmas.Bool.{and_parts, eq-eqb, false≢true}
use Rattle.relation_terms.specs.Heads.{Sort, predicate_sort, clause_sort, trait_ref_sort, alias_term_sort, Admits}
use Rattle.relation_terms.specs.Heads.{trait_ref, trait_clause, host_effect, subtype, alias_term, region_outlives}
use Rattle.relation_terms.specs.Heads.{type_outlives, projection, const_has_type, well_formed, const_evaluatable}
use Rattle.relation_terms.specs.Heads.{coerce, normalizes_to, alias_relate, unstable_feature, ambiguous, atom, Head}
use Rattle.relation_terms.specs.Trees.{Tree, leaf, node, nil, cons, known, IsTerm, IsBinder}
use Rattle.relation_terms.specs.Meaning.{Meaning, Extends, term_tree}
use Rattle.relation_terms.specs.Predicates.{alias_term_kind, alias_term_id, trait_ref_tree, alias_term_tree}
use Rattle.relation_terms.specs.Predicates.{clause_kind_tree, predicate_kind_tree, clause_tree, predicate_tree}
use Rattle.relation_terms.specs.declared.terms.binder.Binder.{Binder}
use Rattle.relation_terms.specs.declared.predicate.alias_term.AliasTermKind.{AliasTermKind as TermKindOf}
use Rattle.relation_terms.specs.declared.predicate.alias_term.AliasTermKind.TheVariants.{ProjectionTy, InherentTy}
use Rattle.relation_terms.specs.declared.predicate.alias_term.AliasTermKind.TheVariants.{OpaqueTy, FreeTy}
use Rattle.relation_terms.specs.declared.predicate.alias_term.AliasTermKind.TheVariants.{UnevaluatedConst}
use Rattle.relation_terms.specs.declared.predicate.alias_term.AliasTermKind.TheVariants.{ProjectionConst, FreeConst}
use Rattle.relation_terms.specs.declared.predicate.alias_term.AliasTermKind.TheVariants.{InherentConst}
use Rattle.relation_terms.specs.declared.predicate.alias_term.AliasTerm.{AliasTerm}
use Rattle.relation_terms.specs.declared.predicate.trait_ref.TraitRef.{TraitRef}
use Rattle.relation_terms.specs.declared.predicate.kinds.ClauseKind.{ClauseKind}
use Rattle.relation_terms.specs.declared.predicate.kinds.ClauseKind.TheVariants.{Trait, RegionOutlives, TypeOutlives}
use Rattle.relation_terms.specs.declared.predicate.kinds.ClauseKind.TheVariants.{Projection, ConstArgHasType}
use Rattle.relation_terms.specs.declared.predicate.kinds.ClauseKind.TheVariants.{WellFormed, ConstEvaluatable}
use Rattle.relation_terms.specs.declared.predicate.kinds.ClauseKind.TheVariants.{HostEffect, UnstableFeature}
use Rattle.relation_terms.specs.declared.predicate.kinds.PredicateKind.{PredicateKind}
use Rattle.relation_terms.specs.declared.predicate.kinds.PredicateKind.TheVariants.{Clause, Subtype, Coerce}
use Rattle.relation_terms.specs.declared.predicate.kinds.PredicateKind.TheVariants.{NormalizesTo, AliasRelate, Ambiguous}
use Rattle.relation_terms.proofs.Binders.{under_known, under_once, under_stays, under_sorted}
use Rattle.relation_terms.specs.Interning.{Sorted}
use Rattle.relation_terms.proofs.Sorted.{widen, term_sorted}
use Rattle.relation_terms.proofs.Stays.{stays_term}
use Rattle.relation_terms.proofs.Once.{Injective, term_once}

-- One known part, and two.
pub one_known : (t : Tree) → IsTrue (known (cons t nil)) → IsTrue (known t)
one_known t k = (and_parts (known t) true k).0

pub two_known : (t u : Tree) → IsTrue (known (cons t (cons u nil))) → IsTrue (known t) × IsTrue (known u)
two_known t u k =
    let p = and_parts (known t) (known u && true) k in
    (p.0, one_known u p.1)

-- Forms of the same one or two parts.
one_part : (h : Head) (t u : Tree) → u ≡ t → node h (cons u nil) ≡ node h (cons t nil)
one_part h t u e = ap (λ x. node h (cons x nil)) e

two_parts : (h : Head) (t u v w : Tree) → v ≡ t → w ≡ u → node h (cons v (cons w nil)) ≡ node h (cons t (cons u nil))
two_parts h t u v w e f = ap₂ (λ x y. node h (cons x (cons y nil))) e f

-- What is known stays.
module _ {Key Id Name : Type 0} {m n : Meaning Key Id Name} (e : Extends m n) where
  pub stays_trait_ref : (t : TraitRef Key Id) → IsTrue (known (trait_ref_tree m t)) →
      trait_ref_tree n t ≡ trait_ref_tree m t
  stays_trait_ref t k = ap₂ (λ x y. node (trait_ref x) y) (e.id (t.def_id).0) (e.args t.args k)

  pub stays_alias_term : (a : AliasTerm Key Id) → IsTrue (known (alias_term_tree m a)) →
      alias_term_tree n a ≡ alias_term_tree m a
  stays_alias_term a k =
      ap₂ (λ x y. node (alias_term (alias_term_kind a.kind) x) y) (e.id (alias_term_id a.kind)) (e.args a.args k)

  pub stays_clause_kind : (c : ClauseKind Key Id Name) → IsTrue (known (clause_kind_tree m c)) →
      clause_kind_tree n c ≡ clause_kind_tree m c
  stays_clause_kind (Trait p) k =
      let t = trait_ref_tree m p.trait_ref in
      one_part (trait_clause p.polarity) t (trait_ref_tree n p.trait_ref) (stays_trait_ref p.trait_ref (one_known t k))
  stays_clause_kind (RegionOutlives p) k =
      let h = two_known (m.region p.0) (m.region p.1) k in
      two_parts region_outlives (m.region p.0) (m.region p.1) (n.region p.0) (n.region p.1) (e.region p.0 h.0)
      (e.region p.1 h.1)
  stays_clause_kind (TypeOutlives p) k =
      let h = two_known (m.ty p.0) (m.region p.1) k in
      two_parts type_outlives (m.ty p.0) (m.region p.1) (n.ty p.0) (n.region p.1) (e.ty p.0 h.0) (e.region p.1 h.1)
  stays_clause_kind (Projection p) k =
      let h = two_known (alias_term_tree m p.projection_term) (term_tree m p.term) k in
      two_parts projection (alias_term_tree m p.projection_term) (term_tree m p.term)
      (alias_term_tree n p.projection_term) (term_tree n p.term) (stays_alias_term p.projection_term h.0)
      (stays_term e p.term h.1)
  stays_clause_kind (ConstArgHasType c t) k =
      let h = two_known (m.const_ c) (m.ty t) k in
      two_parts const_has_type (m.const_ c) (m.ty t) (n.const_ c) (n.ty t) (e.const_ c h.0) (e.ty t h.1)
  stays_clause_kind (WellFormed a) k =
      one_part well_formed (term_tree m a) (term_tree n a) (stays_term e a (one_known (term_tree m a) k))
  stays_clause_kind (ConstEvaluatable c) k =
      one_part const_evaluatable (m.const_ c) (n.const_ c) (e.const_ c (one_known (m.const_ c) k))
  stays_clause_kind (HostEffect p) k =
      let t = trait_ref_tree m p.trait_ref in
      one_part (host_effect p.constness) t (trait_ref_tree n p.trait_ref) (stays_trait_ref p.trait_ref (one_known t k))
  stays_clause_kind (UnstableFeature s) k = ap (λ x. leaf (atom (unstable_feature x))) (e.name s)

  pub stays_predicate_kind : (p : PredicateKind Key Id Name) → IsTrue (known (predicate_kind_tree m p)) →
      predicate_kind_tree n p ≡ predicate_kind_tree m p
  stays_predicate_kind (Clause c) k = stays_clause_kind c k
  stays_predicate_kind (Subtype p) k =
      let h = two_known (m.ty p.a) (m.ty p.b) k in
      two_parts (subtype p.a_is_expected) (m.ty p.a) (m.ty p.b) (n.ty p.a) (n.ty p.b) (e.ty p.a h.0) (e.ty p.b h.1)
  stays_predicate_kind (Coerce p) k =
      let h = two_known (m.ty p.a) (m.ty p.b) k in
      two_parts coerce (m.ty p.a) (m.ty p.b) (n.ty p.a) (n.ty p.b) (e.ty p.a h.0) (e.ty p.b h.1)
  stays_predicate_kind (NormalizesTo p) k =
      let h = two_known (alias_term_tree m p.alias) (term_tree m p.term) k in
      two_parts normalizes_to (alias_term_tree m p.alias) (term_tree m p.term) (alias_term_tree n p.alias)
      (term_tree n p.term) (stays_alias_term p.alias h.0) (stays_term e p.term h.1)
  stays_predicate_kind (AliasRelate a b d) k =
      let h = two_known (term_tree m a) (term_tree m b) k in
      two_parts (alias_relate d) (term_tree m a) (term_tree m b) (term_tree n a) (term_tree n b) (stays_term e a h.0)
      (stays_term e b h.1)
  stays_predicate_kind Ambiguous k = refl

  pub stays_predicate : (b : Binder Key (PredicateKind Key Id Name)) → IsTrue (known (predicate_tree m b)) →
      predicate_tree n b ≡ predicate_tree m b
  stays_predicate b k =
      under_stays (m.bound_vars b.bound_vars) (n.bound_vars b.bound_vars) (predicate_kind_tree m b.value)
      (predicate_kind_tree n b.value) (e.bound_vars b.bound_vars) (stays_predicate_kind b.value) k

  pub stays_clause : (b : Binder Key (ClauseKind Key Id Name)) → IsTrue (known (clause_tree m b)) →
      clause_tree n b ≡ clause_tree m b
  stays_clause b k =
      under_stays (m.bound_vars b.bound_vars) (n.bound_vars b.bound_vars) (clause_kind_tree m b.value)
      (clause_kind_tree n b.value) (e.bound_vars b.bound_vars) (stays_clause_kind b.value) k

clause_is_predicate : (x : Sort) → Admits clause_sort x → Admits predicate_sort x
clause_is_predicate clause_sort h = tt
clause_is_predicate x h = absurd h

-- What is known is of its sort.
module _ {Key Id Name : Type 0} (m : Meaning Key Id Name) (s : Sorted m) where
  trait_ref_sorted : (t : TraitRef Key Id) → IsTrue (known (trait_ref_tree m t)) →
      IsTerm trait_ref_sort (trait_ref_tree m t)
  trait_ref_sorted t k = (tt, s.args t.args k)

  alias_term_sorted : (a : AliasTerm Key Id) → IsTrue (known (alias_term_tree m a)) →
      IsTerm alias_term_sort (alias_term_tree m a)
  alias_term_sorted a k = (tt, s.args a.args k)

  pub clause_kind_sorted : (c : ClauseKind Key Id Name) → IsTrue (known (clause_kind_tree m c)) →
      IsTerm clause_sort (clause_kind_tree m c)
  clause_kind_sorted (Trait p) k =
      (tt, (trait_ref_sorted p.trait_ref (one_known (trait_ref_tree m p.trait_ref) k), tt))
  clause_kind_sorted (RegionOutlives p) k =
      let h = two_known (m.region p.0) (m.region p.1) k in
      (tt, (s.region p.0 h.0, (s.region p.1 h.1, tt)))
  clause_kind_sorted (TypeOutlives p) k =
      let h = two_known (m.ty p.0) (m.region p.1) k in
      (tt, (s.ty p.0 h.0, (s.region p.1 h.1, tt)))
  clause_kind_sorted (Projection p) k =
      let h = two_known (alias_term_tree m p.projection_term) (term_tree m p.term) k in
      (tt, (alias_term_sorted p.projection_term h.0, (term_sorted m s p.term h.1, tt)))
  clause_kind_sorted (ConstArgHasType c t) k =
      let h = two_known (m.const_ c) (m.ty t) k in
      (tt, (s.const_ c h.0, (s.ty t h.1, tt)))
  clause_kind_sorted (WellFormed a) k = (tt, (term_sorted m s a (one_known (term_tree m a) k), tt))
  clause_kind_sorted (ConstEvaluatable c) k = (tt, (s.const_ c (one_known (m.const_ c) k), tt))
  clause_kind_sorted (HostEffect p) k =
      (tt, (trait_ref_sorted p.trait_ref (one_known (trait_ref_tree m p.trait_ref) k), tt))
  clause_kind_sorted (UnstableFeature n) k = tt

  predicate_kind_sorted : (p : PredicateKind Key Id Name) → IsTrue (known (predicate_kind_tree m p)) →
      IsTerm predicate_sort (predicate_kind_tree m p)
  predicate_kind_sorted (Clause c) k =
      widen clause_sort predicate_sort clause_is_predicate (clause_kind_tree m c) (clause_kind_sorted c k)
  predicate_kind_sorted (Subtype p) k =
      let h = two_known (m.ty p.a) (m.ty p.b) k in
      (tt, (s.ty p.a h.0, (s.ty p.b h.1, tt)))
  predicate_kind_sorted (Coerce p) k =
      let h = two_known (m.ty p.a) (m.ty p.b) k in
      (tt, (s.ty p.a h.0, (s.ty p.b h.1, tt)))
  predicate_kind_sorted (NormalizesTo p) k =
      let h = two_known (alias_term_tree m p.alias) (term_tree m p.term) k in
      (tt, (alias_term_sorted p.alias h.0, (term_sorted m s p.term h.1, tt)))
  predicate_kind_sorted (AliasRelate a b d) k =
      let h = two_known (term_tree m a) (term_tree m b) k in
      (tt, (term_sorted m s a h.0, (term_sorted m s b h.1, tt)))
  predicate_kind_sorted Ambiguous k = tt

  pub predicate_sorted : (b : Binder Key (PredicateKind Key Id Name)) → IsTrue (known (predicate_tree m b)) →
      IsBinder predicate_sort (predicate_tree m b)
  predicate_sorted b k =
      under_sorted predicate_sort (m.bound_vars b.bound_vars) (predicate_kind_tree m b.value) k
      (predicate_kind_sorted b.value)

-- A number for each form of a predicate that is no clause, and the same of its tree.
abbrev kind_tag : {Key Id Name : Type 0} → PredicateKind Key Id Name → ℕ
kind_tag (Clause c) = 0
kind_tag (Subtype p) = 1
kind_tag (Coerce p) = 2
kind_tag (NormalizesTo p) = 3
kind_tag (AliasRelate a b d) = 4
kind_tag Ambiguous = 5

abbrev tree_tag : Tree → ℕ
tree_tag (node (subtype x) ts) = 1
tree_tag (node coerce ts) = 2
tree_tag (node normalizes_to ts) = 3
tree_tag (node (alias_relate d) ts) = 4
tree_tag (leaf (atom ambiguous)) = 5
tree_tag t = 0

-- Forms of one tree are one.
module _ {Key Id Name : Type 0} (m : Meaning Key Id Name) (j : Injective m) (s : Sorted m) where
  trait_ref_once : (t u : TraitRef Key Id) → IsTrue (known (trait_ref_tree m t)) →
      trait_ref_tree m t ≡ trait_ref_tree m u → t ≡ u
  trait_ref_once t u k e =
      let ids : m.id (t.def_id).0 ≡ m.id (u.def_id).0 = cc in
      let args : m.args t.args ≡ m.args u.args = cc in
      ap₂ (λ x y. record { def_id = record { 0 = x }; args = y }) (j.id (t.def_id).0 (u.def_id).0 ids)
      (j.args t.args u.args k args)

  alias_kind_once : (a b : TermKindOf Id) → alias_term_kind a ≡ alias_term_kind b →
      m.id (alias_term_id a) ≡ m.id (alias_term_id b) → a ≡ b
  alias_kind_once (ProjectionTy d) (ProjectionTy f) p q = ap (λ x. ProjectionTy (record { 0 = x })) (j.id d.0 f.0 q)
  alias_kind_once (InherentTy d) (InherentTy f) p q = ap (λ x. InherentTy (record { 0 = x })) (j.id d.0 f.0 q)
  alias_kind_once (OpaqueTy d) (OpaqueTy f) p q = ap (λ x. OpaqueTy (record { 0 = x })) (j.id d.0 f.0 q)
  alias_kind_once (FreeTy d) (FreeTy f) p q = ap (λ x. FreeTy (record { 0 = x })) (j.id d.0 f.0 q)
  alias_kind_once (UnevaluatedConst d) (UnevaluatedConst f) p q =
      ap (λ x. UnevaluatedConst (record { 0 = x })) (j.id d.0 f.0 q)
  alias_kind_once (ProjectionConst d) (ProjectionConst f) p q =
      ap (λ x. ProjectionConst (record { 0 = x })) (j.id d.0 f.0 q)
  alias_kind_once (FreeConst d) (FreeConst f) p q = ap (λ x. FreeConst (record { 0 = x })) (j.id d.0 f.0 q)
  alias_kind_once (InherentConst d) (InherentConst f) p q =
      ap (λ x. InherentConst (record { 0 = x })) (j.id d.0 f.0 q)
  alias_kind_once a b p q = absurd (cc)

  alias_term_once : (a b : AliasTerm Key Id) → IsTrue (known (alias_term_tree m a)) →
      alias_term_tree m a ≡ alias_term_tree m b → a ≡ b
  alias_term_once a b k e =
      let kinds : alias_term_kind a.kind ≡ alias_term_kind b.kind = cc in
      let ids : m.id (alias_term_id a.kind) ≡ m.id (alias_term_id b.kind) = cc in
      let args : m.args a.args ≡ m.args b.args = cc in
      ap₂ (λ x y. record { kind = x; args = y }) (alias_kind_once a.kind b.kind kinds ids) (j.args a.args b.args k args)

  clause_kind_once : (c d : ClauseKind Key Id Name) → IsTrue (known (clause_kind_tree m c)) →
      clause_kind_tree m c ≡ clause_kind_tree m d → c ≡ d
  clause_kind_once (Trait p) (Trait q) k e =
      let t = trait_ref_tree m p.trait_ref in
      let polarities : p.polarity ≡ q.polarity = cc in
      let refs : t ≡ trait_ref_tree m q.trait_ref = cc in
      ap₂ (λ x y. Trait (record { trait_ref = x; polarity = y }))
      (trait_ref_once p.trait_ref q.trait_ref (one_known t k) refs) polarities
  clause_kind_once (RegionOutlives p) (RegionOutlives q) k e =
      let h = two_known (m.region p.0) (m.region p.1) k in
      let longer : m.region p.0 ≡ m.region q.0 = cc in
      let shorter : m.region p.1 ≡ m.region q.1 = cc in
      ap₂ (λ x y. RegionOutlives (record { 0 = x; 1 = y })) (j.region p.0 q.0 h.0 longer) (j.region p.1 q.1 h.1 shorter)
  clause_kind_once (TypeOutlives p) (TypeOutlives q) k e =
      let h = two_known (m.ty p.0) (m.region p.1) k in
      let types : m.ty p.0 ≡ m.ty q.0 = cc in
      let regions : m.region p.1 ≡ m.region q.1 = cc in
      ap₂ (λ x y. TypeOutlives (record { 0 = x; 1 = y })) (j.ty p.0 q.0 h.0 types) (j.region p.1 q.1 h.1 regions)
  clause_kind_once (Projection p) (Projection q) k e =
      let h = two_known (alias_term_tree m p.projection_term) (term_tree m p.term) k in
      let aliases : alias_term_tree m p.projection_term ≡ alias_term_tree m q.projection_term = cc in
      let terms : term_tree m p.term ≡ term_tree m q.term = cc in
      ap₂ (λ x y. Projection (record { projection_term = x; term = y }))
      (alias_term_once p.projection_term q.projection_term h.0 aliases) (term_once m j s p.term q.term h.1 terms)
  clause_kind_once (ConstArgHasType c t) (ConstArgHasType d u) k e =
      let h = two_known (m.const_ c) (m.ty t) k in
      let consts : m.const_ c ≡ m.const_ d = cc in
      let types : m.ty t ≡ m.ty u = cc in
      ap₂ (λ x y. ConstArgHasType x y) (j.const_ c d h.0 consts) (j.ty t u h.1 types)
  clause_kind_once (WellFormed a) (WellFormed b) k e =
      let terms : term_tree m a ≡ term_tree m b = cc in
      ap (λ x. WellFormed x) (term_once m j s a b (one_known (term_tree m a) k) terms)
  clause_kind_once (ConstEvaluatable c) (ConstEvaluatable d) k e =
      let consts : m.const_ c ≡ m.const_ d = cc in
      ap (λ x. ConstEvaluatable x) (j.const_ c d (one_known (m.const_ c) k) consts)
  clause_kind_once (HostEffect p) (HostEffect q) k e =
      let t = trait_ref_tree m p.trait_ref in
      let consts : p.constness ≡ q.constness = cc in
      let refs : t ≡ trait_ref_tree m q.trait_ref = cc in
      ap₂ (λ x y. HostEffect (record { trait_ref = x; constness = y }))
      (trait_ref_once p.trait_ref q.trait_ref (one_known t k) refs) consts
  clause_kind_once (UnstableFeature x) (UnstableFeature y) k e =
      let names : m.name x ≡ m.name y = cc in
      ap (λ n. UnstableFeature n) (j.name x y names)
  clause_kind_once c d k e = absurd (cc)

  tagged : (f : PredicateKind Key Id Name) → tree_tag (predicate_kind_tree m f) ≡ kind_tag f
  tagged (Clause (Trait p)) = refl
  tagged (Clause (RegionOutlives p)) = refl
  tagged (Clause (TypeOutlives p)) = refl
  tagged (Clause (Projection p)) = refl
  tagged (Clause (ConstArgHasType c t)) = refl
  tagged (Clause (WellFormed a)) = refl
  tagged (Clause (ConstEvaluatable c)) = refl
  tagged (Clause (HostEffect p)) = refl
  tagged (Clause (UnstableFeature n)) = refl
  tagged (Subtype p) = refl
  tagged (Coerce p) = refl
  tagged (NormalizesTo p) = refl
  tagged (AliasRelate a b d) = refl
  tagged Ambiguous = refl

  alike_once : (f g : PredicateKind Key Id Name) → IsTrue (known (predicate_kind_tree m f)) →
      predicate_kind_tree m f ≡ predicate_kind_tree m g → eqb (kind_tag f) (kind_tag g) ≡ true → f ≡ g
  alike_once (Clause c) (Clause d) k e tag = ap (λ x. Clause x) (clause_kind_once c d k e)
  alike_once (Subtype p) (Subtype q) k e tag =
      let h = two_known (m.ty p.a) (m.ty p.b) k in
      let flags : p.a_is_expected ≡ q.a_is_expected = cc in
      let firsts : m.ty p.a ≡ m.ty q.a = cc in
      let seconds : m.ty p.b ≡ m.ty q.b = cc in
      ap₂ (λ x y. Subtype (record { a_is_expected = p.a_is_expected; a = x; b = y })) (j.ty p.a q.a h.0 firsts)
      (j.ty p.b q.b h.1 seconds) ∙ ap (λ x. Subtype (record { a_is_expected = x; a = q.a; b = q.b })) flags
  alike_once (Coerce p) (Coerce q) k e tag =
      let h = two_known (m.ty p.a) (m.ty p.b) k in
      let firsts : m.ty p.a ≡ m.ty q.a = cc in
      let seconds : m.ty p.b ≡ m.ty q.b = cc in
      ap₂ (λ x y. Coerce (record { a = x; b = y })) (j.ty p.a q.a h.0 firsts) (j.ty p.b q.b h.1 seconds)
  alike_once (NormalizesTo p) (NormalizesTo q) k e tag =
      let h = two_known (alias_term_tree m p.alias) (term_tree m p.term) k in
      let aliases : alias_term_tree m p.alias ≡ alias_term_tree m q.alias = cc in
      let terms : term_tree m p.term ≡ term_tree m q.term = cc in
      ap₂ (λ x y. NormalizesTo (record { alias = x; term = y })) (alias_term_once p.alias q.alias h.0 aliases)
      (term_once m j s p.term q.term h.1 terms)
  alike_once (AliasRelate a b d) (AliasRelate f g i) k e tag =
      let h = two_known (term_tree m a) (term_tree m b) k in
      let firsts : term_tree m a ≡ term_tree m f = cc in
      let seconds : term_tree m b ≡ term_tree m g = cc in
      let directions : d ≡ i = cc in
      ap₂ (λ x y. AliasRelate x y d) (term_once m j s a f h.0 firsts) (term_once m j s b g h.1 seconds) ∙
      ap (λ x. AliasRelate f g x) directions
  alike_once Ambiguous Ambiguous k e tag = refl
  alike_once f g k e tag = absurd (false≢true tag)

  predicate_kind_once : (f g : PredicateKind Key Id Name) → IsTrue (known (predicate_kind_tree m f)) →
      predicate_kind_tree m f ≡ predicate_kind_tree m g → f ≡ g
  predicate_kind_once f g k e =
      alike_once f g k e (eq-eqb (kind_tag f) (kind_tag g) (sym (tagged f) ∙ ap tree_tag e ∙ tagged g))

  pub predicate_once : (b c : Binder Key (PredicateKind Key Id Name)) → IsTrue (known (predicate_tree m b)) →
      predicate_tree m b ≡ predicate_tree m c → b ≡ c
  predicate_once b c k e =
      let p = under_known (m.bound_vars b.bound_vars) (predicate_kind_tree m b.value) k in
      let o = under_once (m.bound_vars b.bound_vars) (m.bound_vars c.bound_vars) (predicate_kind_tree m b.value)
      (predicate_kind_tree m c.value) k e in
      ap₂ (λ x y. record { value = x; bound_vars = y }) (predicate_kind_once b.value c.value p.1 o.1)
      (j.bound_vars b.bound_vars c.bound_vars p.0 o.0)
