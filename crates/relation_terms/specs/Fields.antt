-- The parts of predicates, and where the keys of a form's parts stand.
use Rattle.std.specs.Prelude.{◌≡◌, Result, IfOk}
use Rattle.relation_terms.specs.Heads.{Sort, region_sort, type_sort, const_sort, trait_ref_sort, alias_term_sort}
use Rattle.relation_terms.specs.Trees.{Tree, bind, nil, cons}
use Rattle.relation_terms.specs.Meaning.{Meaning}
use Rattle.relation_terms.specs.Predicates.{trait_ref_tree, alias_term_tree}
use Rattle.relation_terms.specs.Parts.{parts_of, over, tree_sort}
use Rattle.relation_terms.specs.declared.terms.parts.predicates.Field.{Field}
use Rattle.relation_terms.specs.declared.terms.parts.predicates.Field.TheVariants.{Region, Ty, Const, TraitRef}
use Rattle.relation_terms.specs.declared.terms.parts.predicates.Field.TheVariants.{AliasTerm}
use Rattle.relation_terms.specs.declared.terms.parts.predicates.Fields.{Fields}
use Rattle.relation_terms.specs.declared.terms.parts.predicates.Fields.TheVariants.{Empty, One, Two}
use Rattle.relation_terms.specs.declared.terms.keys.RegionKey.{RegionKey}
use Rattle.relation_terms.specs.declared.terms.keys.TyKey.{TyKey}
use Rattle.relation_terms.specs.declared.terms.keys.ConstKey.{ConstKey}
use Rattle.relation_terms.specs.declared.terms.keys.ClauseKey.{ClauseKey}
use Rattle.relation_terms.specs.declared.terms.keys.PredicateKey.{PredicateKey}
use Rattle.relation_terms.specs.declared.terms.generic_arg.TermKind.{TermKind}
use Rattle.relation_terms.specs.declared.terms.generic_arg.TermKind.TheVariants.{Ty as TyTerm, Const as ConstTerm}
use Rattle.relation_terms.specs.declared.predicate.trait_ref.TraitRef.{TraitRef as TraitRefOf}
use Rattle.relation_terms.specs.declared.predicate.alias_term.AliasTerm.{AliasTerm as AliasTermOf}
use Rattle.relation_terms.specs.declared.predicate.kinds.ClauseKind.{ClauseKind}
use Rattle.relation_terms.specs.declared.predicate.kinds.ClauseKind.TheVariants.{Trait, RegionOutlives, TypeOutlives}
use Rattle.relation_terms.specs.declared.predicate.kinds.ClauseKind.TheVariants.{Projection, ConstArgHasType}
use Rattle.relation_terms.specs.declared.predicate.kinds.ClauseKind.TheVariants.{WellFormed, ConstEvaluatable}
use Rattle.relation_terms.specs.declared.predicate.kinds.ClauseKind.TheVariants.{HostEffect, UnstableFeature}
use Rattle.relation_terms.specs.declared.predicate.kinds.PredicateKind.{PredicateKind}
use Rattle.relation_terms.specs.declared.predicate.kinds.PredicateKind.TheVariants.{Clause, Subtype, Coerce}
use Rattle.relation_terms.specs.declared.predicate.kinds.PredicateKind.TheVariants.{NormalizesTo, AliasRelate, Ambiguous}

-- The parts of what stands under a binder, and the binder over the same form of other parts.
abbrev pub parts_under : Tree → Tree
parts_under (bind ks t) = parts_of t
parts_under t = nil

abbrev pub over_under : Tree → Tree → Tree
over_under (bind ks t) us = bind ks (over t us)
over_under t us = t

-- Of which sort a part of a predicate is.
abbrev pub field_sort : {Key Id : Type 0} → Field Key Id → Sort
field_sort (Region r) = region_sort
field_sort (Ty t) = type_sort
field_sort (Const c) = const_sort
field_sort (TraitRef t) = trait_ref_sort
field_sort (AliasTerm a) = alias_term_sort

-- A term of a predicate as a part.
abbrev pub field_of_term : {Key Id : Type 0} → TermKind Key → Field Key Id
field_of_term (TyTerm t) = Ty t
field_of_term (ConstTerm c) = Const c

-- Where the keys of a form's parts stand.
abbrev pub clause_view : {Key Id Name : Type 0} → ClauseKind Key Id Name → Fields Key Id
clause_view (Trait p) = One (TraitRef p.trait_ref)
clause_view (RegionOutlives p) = Two (Region p.0) (Region p.1)
clause_view (TypeOutlives p) = Two (Ty p.0) (Region p.1)
clause_view (Projection p) = Two (AliasTerm p.projection_term) (field_of_term p.term)
clause_view (ConstArgHasType c t) = Two (Const c) (Ty t)
clause_view (WellFormed a) = One (field_of_term a)
clause_view (ConstEvaluatable c) = One (Const c)
clause_view (HostEffect p) = One (TraitRef p.trait_ref)
clause_view (UnstableFeature s) = Empty

abbrev pub predicate_view : {Key Id Name : Type 0} → PredicateKind Key Id Name → Fields Key Id
predicate_view (Clause c) = clause_view c
predicate_view (Subtype p) = Two (Ty p.a) (Ty p.b)
predicate_view (Coerce p) = Two (Ty p.a) (Ty p.b)
predicate_view (NormalizesTo p) = Two (AliasTerm p.alias) (field_of_term p.term)
predicate_view (AliasRelate a b d) = Two (field_of_term a) (field_of_term b)
predicate_view Ambiguous = Empty

-- What a part is, or the given one; what stands at a place, or the given one.
abbrev pub region_field : {Key Id : Type 0} → Field Key Id → RegionKey Key → RegionKey Key
region_field (Region k) d = k
region_field f d = d

abbrev pub ty_field : {Key Id : Type 0} → Field Key Id → TyKey Key → TyKey Key
ty_field (Ty k) d = k
ty_field f d = d

abbrev pub const_field : {Key Id : Type 0} → Field Key Id → ConstKey Key → ConstKey Key
const_field (Const k) d = k
const_field f d = d

abbrev pub term_field : {Key Id : Type 0} → Field Key Id → TermKind Key → TermKind Key
term_field (Ty k) d = TyTerm k
term_field (Const k) d = ConstTerm k
term_field f d = d

abbrev pub trait_ref_field : {Key Id : Type 0} → Field Key Id → TraitRefOf Key Id → TraitRefOf Key Id
trait_ref_field (TraitRef t) d = t
trait_ref_field f d = d

abbrev pub alias_term_field : {Key Id : Type 0} → Field Key Id → AliasTermOf Key Id → AliasTermOf Key Id
alias_term_field (AliasTerm a) d = a
alias_term_field f d = d

abbrev pub first_field : {Key Id : Type 0} → Fields Key Id → Field Key Id → Field Key Id
first_field (One f) d = f
first_field (Two f g) d = f
first_field Empty d = d

abbrev pub second_field : {Key Id : Type 0} → Fields Key Id → Field Key Id → Field Key Id
second_field (Two f g) d = g
second_field fs d = d

-- The form over other parts.
abbrev pub clause_made : {Key Id Name : Type 0} → ClauseKind Key Id Name → Fields Key Id → ClauseKind Key Id Name
clause_made (Trait p) fs =
    let t = trait_ref_field (first_field fs (TraitRef p.trait_ref)) p.trait_ref in
    Trait (record { trait_ref = t; polarity = p.polarity })
clause_made (RegionOutlives p) fs =
    let a = region_field (first_field fs (Region p.0)) p.0 in
    RegionOutlives (record { 0 = a; 1 = region_field (second_field fs (Region p.1)) p.1 })
clause_made (TypeOutlives p) fs =
    let a = ty_field (first_field fs (Ty p.0)) p.0 in
    TypeOutlives (record { 0 = a; 1 = region_field (second_field fs (Region p.1)) p.1 })
clause_made (Projection p) fs =
    let a = alias_term_field (first_field fs (AliasTerm p.projection_term)) p.projection_term in
    Projection (record { projection_term = a; term = term_field (second_field fs (field_of_term p.term)) p.term })
clause_made (ConstArgHasType c t) fs =
    ConstArgHasType (const_field (first_field fs (Const c)) c) (ty_field (second_field fs (Ty t)) t)
clause_made (WellFormed a) fs = WellFormed (term_field (first_field fs (field_of_term a)) a)
clause_made (ConstEvaluatable c) fs = ConstEvaluatable (const_field (first_field fs (Const c)) c)
clause_made (HostEffect p) fs =
    let t = trait_ref_field (first_field fs (TraitRef p.trait_ref)) p.trait_ref in
    HostEffect (record { trait_ref = t; constness = p.constness })
clause_made (UnstableFeature s) fs = UnstableFeature s

abbrev pub predicate_made : {Key Id Name : Type 0} → PredicateKind Key Id Name → Fields Key Id →
    PredicateKind Key Id Name
predicate_made (Clause c) fs = Clause (clause_made c fs)
predicate_made (Subtype p) fs =
    let a = ty_field (first_field fs (Ty p.a)) p.a in
    Subtype (record { a_is_expected = p.a_is_expected; a = a; b = ty_field (second_field fs (Ty p.b)) p.b })
predicate_made (Coerce p) fs =
    Coerce (record { a = ty_field (first_field fs (Ty p.a)) p.a; b = ty_field (second_field fs (Ty p.b)) p.b })
predicate_made (NormalizesTo p) fs =
    let a = alias_term_field (first_field fs (AliasTerm p.alias)) p.alias in
    NormalizesTo (record { alias = a; term = term_field (second_field fs (field_of_term p.term)) p.term })
predicate_made (AliasRelate a b d) fs =
    AliasRelate (term_field (first_field fs (field_of_term a)) a) (term_field (second_field fs (field_of_term b)) b) d
predicate_made Ambiguous fs = Ambiguous

-- As many parts as there are trees, each of the sort of the tree at its place.
abbrev pub FitFields : {Key Id : Type 0} → Fields Key Id → Tree → Type 0
FitFields Empty nil = Unit {0}
FitFields (One f) (cons t nil) = field_sort f ≡ tree_sort t
FitFields (Two f g) (cons t (cons u nil)) = (field_sort f ≡ tree_sort t) × (field_sort g ≡ tree_sort u)
FitFields fs t = ⊥

-- The second parts stand as the first do, each of the sort of the one at its place.
abbrev pub AlikeFields : {Key Id : Type 0} → Fields Key Id → Fields Key Id → Type 0
AlikeFields Empty Empty = Unit {0}
AlikeFields (One f) (One g) = field_sort g ≡ field_sort f
AlikeFields (Two e f) (Two g h) = (field_sort g ≡ field_sort e) × (field_sort h ≡ field_sort f)
AlikeFields fs gs = ⊥

module _ {Key Id Name : Type 0} (m : Meaning Key Id Name) where
  -- The tree of a part, and the list of the trees of parts.
  abbrev pub field_tree : Field Key Id → Tree
  field_tree (Region r) = m.region r
  field_tree (Ty t) = m.ty t
  field_tree (Const c) = m.const_ c
  field_tree (TraitRef t) = trait_ref_tree m t
  field_tree (AliasTerm a) = alias_term_tree m a

  abbrev pub fields_tree : Fields Key Id → Tree
  fields_tree Empty = nil
  fields_tree (One f) = cons (field_tree f) nil
  fields_tree (Two f g) = cons (field_tree f) (cons (field_tree g) nil)

module _ {Key Id Name E : Type 0} (before after : Meaning Key Id Name) where
  -- What is made is a clause's form over these parts, and a predicate's, under its binder.
  abbrev pub MakesClauseOver : ClauseKey Key → Fields Key Id → Result (ClauseKey Key) E → Type 0
  MakesClauseOver clause fields result =
      IfOk result (λ k. after.clause k ≡ over_under (before.clause clause) (fields_tree before fields))

  abbrev pub MakesPredicateOver : PredicateKey Key → Fields Key Id → Result (PredicateKey Key) E → Type 0
  MakesPredicateOver predicate fields result =
      IfOk result (λ k. after.predicate k ≡ over_under (before.predicate predicate) (fields_tree before fields))
