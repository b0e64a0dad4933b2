-- `==` takes predicates and clauses for one exactly where they are one.
use Rattle.std.proofs.Common.{◌≡◌, IsTrue, Bool, true, false, ◌&&◌, eqb, refl, ap, ap₂, ◌∙◌}
use Rattle.std.proofs.lemmas.Bool.{false≢true, eqb-true, and_parts, and_from}
use Rattle.std.proofs.Math.Bool.{beq}
use Rattle.relation_terms.proofs.Same.{bool_same, bool_self, polarity_eq, polarity_same}
use Rattle.term_enums.specs.declared.PredicatePolarity.{PredicatePolarity}
use Rattle.term_enums.specs.declared.PredicatePolarity.TheVariants.{Positive, Negative}
use Rattle.term_enums.specs.declared.BoundConstness.{BoundConstness}
use Rattle.term_enums.specs.declared.BoundConstness.TheVariants.{Const as ConstBound, Maybe}
use Rattle.term_enums.specs.declared.AliasRelationDirection.{AliasRelationDirection}
use Rattle.term_enums.specs.declared.AliasRelationDirection.TheVariants.{Equate}
use Rattle.term_enums.specs.declared.AliasRelationDirection.TheVariants.{Subtype as SubtypeOf}
use Rattle.relation_terms.specs.declared.terms.binder.Binder.{Binder}
use Rattle.relation_terms.specs.declared.terms.keys.ClauseKey.{ClauseKey}
use Rattle.relation_terms.specs.declared.predicate.trait_ref.TraitRef.{TraitRef}
use Rattle.relation_terms.specs.declared.predicate.alias_term.AliasTerm.{AliasTerm}
use Rattle.relation_terms.specs.declared.predicate.alias_term.AliasTermKind.{AliasTermKind}
use Rattle.relation_terms.specs.declared.predicate.alias_term.AliasTermKind.TheVariants.{ProjectionTy, InherentTy}
use Rattle.relation_terms.specs.declared.predicate.alias_term.AliasTermKind.TheVariants.{OpaqueTy, FreeTy}
use Rattle.relation_terms.specs.declared.predicate.alias_term.AliasTermKind.TheVariants.{UnevaluatedConst}
use Rattle.relation_terms.specs.declared.predicate.alias_term.AliasTermKind.TheVariants.{ProjectionConst, FreeConst}
use Rattle.relation_terms.specs.declared.predicate.alias_term.AliasTermKind.TheVariants.{InherentConst}
use Rattle.relation_terms.specs.declared.predicate.kinds.ClauseKind.{ClauseKind}
use Rattle.relation_terms.specs.declared.predicate.kinds.ClauseKind.TheVariants.{Trait, RegionOutlives, TypeOutlives}
use Rattle.relation_terms.specs.declared.predicate.kinds.ClauseKind.TheVariants.{Projection, ConstArgHasType}
use Rattle.relation_terms.specs.declared.predicate.kinds.ClauseKind.TheVariants.{WellFormed, ConstEvaluatable}
use Rattle.relation_terms.specs.declared.predicate.kinds.ClauseKind.TheVariants.{HostEffect, UnstableFeature}
use Rattle.relation_terms.specs.declared.predicate.kinds.PredicateKind.{PredicateKind}
use Rattle.relation_terms.specs.declared.predicate.kinds.PredicateKind.TheVariants.{Clause, Subtype, Coerce}
use Rattle.relation_terms.specs.declared.predicate.kinds.PredicateKind.TheVariants.{NormalizesTo, AliasRelate, Ambiguous}
use Rattle.reference_interner.specs.declared.keys.NodeKey.{NodeKey}
use Rattle.reference_interner.specs.declared.keys.ItemId.{ItemId}
use Rattle.reference_interner.specs.declared.keys.SymbolId.{SymbolId}
use Rattle.reference_interner.specs.declared.node.Node.TheVariants.{Predicate}
use Rattle.reference_interner.specs.contracts.keys.NodeKeyPartialEq.TheImpl as key_impl
use Rattle.reference_interner.specs.contracts.keys.NodeKey as key
use Rattle.reference_interner.specs.contracts.keys.ItemIdPartialEq.TheImpl as item_impl
use Rattle.reference_interner.specs.contracts.keys.ItemId as item
use Rattle.reference_interner.specs.contracts.keys.SymbolIdPartialEq.TheImpl as symbol_impl
use Rattle.reference_interner.specs.contracts.keys.SymbolId as symbol
use Rattle.term_enums.specs.contracts.BoundConstnessPartialEq.TheImpl as constness_impl
use Rattle.term_enums.specs.contracts.AliasRelationDirectionPartialEq.TheImpl as direction_impl
use Rattle.relation_terms.specs.contracts.predicate.alias_term.AliasTermKindPartialEq.TheImpl as kind_impl
use Rattle.relation_terms.specs.contracts.predicate.kinds.ClauseKindPartialEq.TheImpl as clause_impl
use Rattle.relation_terms.specs.contracts.predicate.kinds.PredicateKindPartialEq.TheImpl as predicate_impl
use Rattle.reference_interner.proofs.AlikeFormLemmas.{node_eq, one_number, two_numbers, two_selves, eqb_self}
use Rattle.reference_interner.proofs.AlikeElementLemmas.{term_eq, term_same, term_self}

abbrev constness_eq : BoundConstness → BoundConstness → Bool
constness_eq = constness_impl.ghosts.eq

abbrev direction_eq : AliasRelationDirection → AliasRelationDirection → Bool
direction_eq = direction_impl.ghosts.eq

abbrev kind_eq : AliasTermKind ItemId → AliasTermKind ItemId → Bool
kind_eq = (kind_impl.ghosts item.the_row item_impl.ghosts item_impl.dict).eq

abbrev trait_eq : TraitRef NodeKey ItemId → TraitRef NodeKey ItemId → Bool
trait_eq t u = eqb ((t.def_id).0).0 ((u.def_id).0).0 && eqb ((t.args).0).0 ((u.args).0).0

abbrev alias_eq : AliasTerm NodeKey ItemId → AliasTerm NodeKey ItemId → Bool
alias_eq a b = kind_eq a.kind b.kind && eqb ((a.args).0).0 ((b.args).0).0

abbrev clause_eq : ClauseKind NodeKey ItemId SymbolId → ClauseKind NodeKey ItemId SymbolId → Bool
clause_eq =
    (clause_impl.ghosts key.the_row item.the_row symbol.the_row key_impl.ghosts key_impl.dict item_impl.ghosts
    item_impl.dict symbol_impl.ghosts symbol_impl.dict).eq

abbrev predicate_eq : PredicateKind NodeKey ItemId SymbolId → PredicateKind NodeKey ItemId SymbolId → Bool
predicate_eq =
    (predicate_impl.ghosts key.the_row item.the_row symbol.the_row key_impl.ghosts key_impl.dict item_impl.ghosts
    item_impl.dict symbol_impl.ghosts symbol_impl.dict).eq

polarity_self : (a : PredicatePolarity) → IsTrue (polarity_eq a a)
polarity_self Positive = refl
polarity_self Negative = refl

constness_same : (a b : BoundConstness) → IsTrue (constness_eq a b) → a ≡ b
constness_same ConstBound ConstBound h = refl
constness_same Maybe Maybe h = refl
constness_same _ _ h = absurd (false≢true h)

constness_self : (a : BoundConstness) → IsTrue (constness_eq a a)
constness_self ConstBound = refl
constness_self Maybe = refl

direction_same : (a b : AliasRelationDirection) → IsTrue (direction_eq a b) → a ≡ b
direction_same Equate Equate h = refl
direction_same SubtypeOf SubtypeOf h = refl
direction_same _ _ h = absurd (false≢true h)

direction_self : (a : AliasRelationDirection) → IsTrue (direction_eq a a)
direction_self Equate = refl
direction_self SubtypeOf = refl

kind_same : (a b : AliasTermKind ItemId) → IsTrue (kind_eq a b) → a ≡ b
kind_same (ProjectionTy d) (ProjectionTy e) h =
    one_number (λ i. ProjectionTy (record { 0 = record { 0 = i } })) (d.0).0 (e.0).0 h
kind_same (InherentTy d) (InherentTy e) h =
    one_number (λ i. InherentTy (record { 0 = record { 0 = i } })) (d.0).0 (e.0).0 h
kind_same (OpaqueTy d) (OpaqueTy e) h =
    one_number (λ i. OpaqueTy (record { 0 = record { 0 = i } })) (d.0).0 (e.0).0 h
kind_same (FreeTy d) (FreeTy e) h = one_number (λ i. FreeTy (record { 0 = record { 0 = i } })) (d.0).0 (e.0).0 h
kind_same (UnevaluatedConst d) (UnevaluatedConst e) h =
    one_number (λ i. UnevaluatedConst (record { 0 = record { 0 = i } })) (d.0).0 (e.0).0 h
kind_same (ProjectionConst d) (ProjectionConst e) h =
    one_number (λ i. ProjectionConst (record { 0 = record { 0 = i } })) (d.0).0 (e.0).0 h
kind_same (FreeConst d) (FreeConst e) h =
    one_number (λ i. FreeConst (record { 0 = record { 0 = i } })) (d.0).0 (e.0).0 h
kind_same (InherentConst d) (InherentConst e) h =
    one_number (λ i. InherentConst (record { 0 = record { 0 = i } })) (d.0).0 (e.0).0 h
kind_same _ _ h = absurd (false≢true h)

kind_self : (a : AliasTermKind ItemId) → IsTrue (kind_eq a a)
kind_self (ProjectionTy d) = eqb_self (d.0).0
kind_self (InherentTy d) = eqb_self (d.0).0
kind_self (OpaqueTy d) = eqb_self (d.0).0
kind_self (FreeTy d) = eqb_self (d.0).0
kind_self (UnevaluatedConst d) = eqb_self (d.0).0
kind_self (ProjectionConst d) = eqb_self (d.0).0
kind_self (FreeConst d) = eqb_self (d.0).0
kind_self (InherentConst d) = eqb_self (d.0).0

trait_same : (t u : TraitRef NodeKey ItemId) → IsTrue (trait_eq t u) → t ≡ u
trait_same t u h =
    two_numbers (λ x y. record { def_id = record { 0 = record { 0 = x } }; args = record { 0 = record { 0 = y } } })
    ((t.def_id).0).0 ((u.def_id).0).0 ((t.args).0).0 ((u.args).0).0 h

trait_self : (t : TraitRef NodeKey ItemId) → IsTrue (trait_eq t t)
trait_self t = two_selves ((t.def_id).0).0 ((t.args).0).0

alias_same : (a b : AliasTerm NodeKey ItemId) → IsTrue (alias_eq a b) → a ≡ b
alias_same a b h =
    let x = ((a.args).0).0 in
    let y = ((b.args).0).0 in
    let p = and_parts (kind_eq a.kind b.kind) (eqb x y) h in
    ap₂ (λ k n. record { kind = k; args = record { 0 = record { 0 = n } } }) (kind_same a.kind b.kind p.0)
    (eqb-true x y p.1)

alias_self : (a : AliasTerm NodeKey ItemId) → IsTrue (alias_eq a a)
alias_self a =
    let x = ((a.args).0).0 in
    and_from (kind_eq a.kind a.kind) (eqb x x) (kind_self a.kind) (eqb_self x)

clause_same : (c d : ClauseKind NodeKey ItemId SymbolId) → IsTrue (clause_eq c d) → c ≡ d
clause_same (Trait p) (Trait q) h =
    let g = and_parts (trait_eq p.trait_ref q.trait_ref) (polarity_eq p.polarity q.polarity) h in
    ap₂ (λ x y. Trait (record { trait_ref = x; polarity = y })) (trait_same p.trait_ref q.trait_ref g.0)
    (polarity_same p.polarity q.polarity g.1)
clause_same (RegionOutlives p) (RegionOutlives q) h =
    two_numbers (λ x y. RegionOutlives (record {
      0 = record { 0 = record { 0 = x } };
      1 = record { 0 = record { 0 = y } };
    })) ((p.0).0).0 ((q.0).0).0 ((p.1).0).0 ((q.1).0).0 h
clause_same (TypeOutlives p) (TypeOutlives q) h =
    two_numbers (λ x y. TypeOutlives (record {
      0 = record { 0 = record { 0 = x } };
      1 = record { 0 = record { 0 = y } };
    })) ((p.0).0).0 ((q.0).0).0 ((p.1).0).0 ((q.1).0).0 h
clause_same (Projection p) (Projection q) h =
    let g = and_parts (alias_eq p.projection_term q.projection_term) (term_eq p.term q.term) h in
    ap₂ (λ x y. Projection (record { projection_term = x; term = y }))
    (alias_same p.projection_term q.projection_term g.0) (term_same p.term q.term g.1)
clause_same (ConstArgHasType c t) (ConstArgHasType d u) h =
    two_numbers (λ x y. ConstArgHasType (record { 0 = record { 0 = x } }) (record { 0 = record { 0 = y } }))
    (c.0).0 (d.0).0 (t.0).0 (u.0).0 h
clause_same (WellFormed a) (WellFormed b) h = ap (λ x. WellFormed x) (term_same a b h)
clause_same (ConstEvaluatable c) (ConstEvaluatable d) h =
    one_number (λ x. ConstEvaluatable (record { 0 = record { 0 = x } })) (c.0).0 (d.0).0 h
clause_same (HostEffect p) (HostEffect q) h =
    let g = and_parts (trait_eq p.trait_ref q.trait_ref) (constness_eq p.constness q.constness) h in
    ap₂ (λ x y. HostEffect (record { trait_ref = x; constness = y })) (trait_same p.trait_ref q.trait_ref g.0)
    (constness_same p.constness q.constness g.1)
clause_same (UnstableFeature x) (UnstableFeature y) h = one_number (λ n. UnstableFeature (record { 0 = n })) x.0 y.0 h
clause_same _ _ h = absurd (false≢true h)

clause_self : (c : ClauseKind NodeKey ItemId SymbolId) → IsTrue (clause_eq c c)
clause_self (Trait p) =
    and_from (trait_eq p.trait_ref p.trait_ref) (polarity_eq p.polarity p.polarity) (trait_self p.trait_ref)
    (polarity_self p.polarity)
clause_self (RegionOutlives p) = two_selves ((p.0).0).0 ((p.1).0).0
clause_self (TypeOutlives p) = two_selves ((p.0).0).0 ((p.1).0).0
clause_self (Projection p) =
    and_from (alias_eq p.projection_term p.projection_term) (term_eq p.term p.term) (alias_self p.projection_term)
    (term_self p.term)
clause_self (ConstArgHasType c t) = two_selves (c.0).0 (t.0).0
clause_self (WellFormed a) = term_self a
clause_self (ConstEvaluatable c) = eqb_self (c.0).0
clause_self (HostEffect p) =
    and_from (trait_eq p.trait_ref p.trait_ref) (constness_eq p.constness p.constness) (trait_self p.trait_ref)
    (constness_self p.constness)
clause_self (UnstableFeature x) = eqb_self x.0

predicate_same : (p q : PredicateKind NodeKey ItemId SymbolId) → IsTrue (predicate_eq p q) → p ≡ q
predicate_same (Clause c) (Clause d) h = ap (λ x. Clause x) (clause_same c d h)
predicate_same (Subtype p) (Subtype q) h =
    let a = ((p.a).0).0 in
    let b = ((q.a).0).0 in
    let c = ((p.b).0).0 in
    let d = ((q.b).0).0 in
    let g = and_parts (beq p.a_is_expected q.a_is_expected) (eqb a b && eqb c d) h in
    two_numbers (λ x y. Subtype (record {
      a_is_expected = p.a_is_expected;
      a = record { 0 = record { 0 = x } };
      b = record { 0 = record { 0 = y } };
    })) a b c d g.1 ∙
    ap (λ x. Subtype (record { a_is_expected = x; a = q.a; b = q.b }))
    (bool_same p.a_is_expected q.a_is_expected g.0)
predicate_same (Coerce p) (Coerce q) h =
    two_numbers (λ x y. Coerce (record {
      a = record { 0 = record { 0 = x } };
      b = record { 0 = record { 0 = y } };
    })) ((p.a).0).0 ((q.a).0).0 ((p.b).0).0 ((q.b).0).0 h
predicate_same (NormalizesTo p) (NormalizesTo q) h =
    let g = and_parts (alias_eq p.alias q.alias) (term_eq p.term q.term) h in
    ap₂ (λ x y. NormalizesTo (record { alias = x; term = y })) (alias_same p.alias q.alias g.0)
    (term_same p.term q.term g.1)
predicate_same (AliasRelate a b d) (AliasRelate e f i) h =
    let g = and_parts (term_eq a e) (term_eq b f && direction_eq d i) h in
    let j = and_parts (term_eq b f) (direction_eq d i) g.1 in
    ap₂ (λ x y. AliasRelate x y d) (term_same a e g.0) (term_same b f j.0) ∙
    ap (λ x. AliasRelate e f x) (direction_same d i j.1)
predicate_same Ambiguous Ambiguous h = refl
predicate_same _ _ h = absurd (false≢true h)

predicate_self : (p : PredicateKind NodeKey ItemId SymbolId) → IsTrue (predicate_eq p p)
predicate_self (Clause c) = clause_self c
predicate_self (Subtype p) =
    let a = ((p.a).0).0 in
    let b = ((p.b).0).0 in
    and_from (beq p.a_is_expected p.a_is_expected) (eqb a a && eqb b b) (bool_self p.a_is_expected) (two_selves a b)
predicate_self (Coerce p) = two_selves ((p.a).0).0 ((p.b).0).0
predicate_self (NormalizesTo p) =
    and_from (alias_eq p.alias p.alias) (term_eq p.term p.term) (alias_self p.alias) (term_self p.term)
predicate_self (AliasRelate a b d) =
    and_from (term_eq a a) (term_eq b b && direction_eq d d) (term_self a)
    (and_from (term_eq b b) (direction_eq d d) (term_self b) (direction_self d))
predicate_self Ambiguous = refl

pub whole_same : (b c : Binder NodeKey (PredicateKind NodeKey ItemId SymbolId)) →
    IsTrue (node_eq (Predicate b) (Predicate c)) → b ≡ c
whole_same b c h =
    let v = ((b.bound_vars).0).0 in
    let w = ((c.bound_vars).0).0 in
    let p = and_parts (predicate_eq b.value c.value) (eqb v w) h in
    ap₂ (λ x y. record { value = x; bound_vars = record { 0 = record { 0 = y } } })
    (predicate_same b.value c.value p.0) (eqb-true v w p.1)

pub whole_self : (b : Binder NodeKey (PredicateKind NodeKey ItemId SymbolId)) →
    IsTrue (node_eq (Predicate b) (Predicate b))
whole_self b =
    let v = ((b.bound_vars).0).0 in
    and_from (predicate_eq b.value b.value) (eqb v v) (predicate_self b.value) (eqb_self v)

-- Keys of clauses, by their numbers.
abbrev pub clause_key_eq : ClauseKey NodeKey → ClauseKey NodeKey → Bool
clause_key_eq k l = eqb (k.0).0 (l.0).0

pub clause_key_same : (k l : ClauseKey NodeKey) → IsTrue (clause_key_eq k l) → k ≡ l
clause_key_same k l h = one_number (λ n. record { 0 = record { 0 = n } }) (k.0).0 (l.0).0 h
