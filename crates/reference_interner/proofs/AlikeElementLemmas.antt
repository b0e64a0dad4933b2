-- `==` takes the predicates of trait objects, and the variables of binders, for one exactly where they are one.
use Rattle.std.proofs.Common.{◌≡◌, IsTrue, Bool, ◌&&◌, eqb, ap, ap₂, ◌∙◌}
use Rattle.std.proofs.lemmas.Bool.{false≢true, eqb-true, and_parts, and_from}
use Rattle.relation_terms.specs.declared.terms.generic_arg.TermKind.{TermKind}
use Rattle.relation_terms.specs.declared.terms.generic_arg.TermKind.TheVariants.{Ty as TyTerm, Const as ConstTerm}
use Rattle.relation_terms.specs.declared.predicate.existential.ExistentialPredicate.{ExistentialPredicate}
use Rattle.relation_terms.specs.declared.predicate.existential.ExistentialPredicate.TheVariants.{Trait, AutoTrait}
use Rattle.relation_terms.specs.declared.predicate.existential.ExistentialPredicate.TheVariants.{
  Projection as ProjectionPredicate,
}
use Rattle.relation_terms.specs.declared.terms.binder.Binder.{Binder}
use Rattle.relation_terms.specs.declared.terms.binder.BoundVariableKind.{BoundVariableKind}
use Rattle.relation_terms.specs.declared.terms.binder.BoundVariableKind.TheVariants.{Ty as TyVariable}
use Rattle.relation_terms.specs.declared.terms.binder.BoundVariableKind.TheVariants.{Region as RegionVariable}
use Rattle.relation_terms.specs.declared.terms.binder.BoundVariableKind.TheVariants.{Const as ConstVariable}
use Rattle.reference_interner.specs.declared.keys.NodeKey.{NodeKey}
use Rattle.reference_interner.specs.declared.keys.ItemId.{ItemId}
use Rattle.reference_interner.specs.declared.keys.SymbolId.{SymbolId}
use Rattle.reference_interner.specs.contracts.keys.NodeKeyPartialEq.TheImpl as key_impl
use Rattle.reference_interner.specs.contracts.keys.NodeKey as key
use Rattle.reference_interner.specs.contracts.keys.ItemIdPartialEq.TheImpl as item_impl
use Rattle.reference_interner.specs.contracts.keys.ItemId as item
use Rattle.reference_interner.specs.contracts.keys.SymbolIdPartialEq.TheImpl as symbol_impl
use Rattle.reference_interner.specs.contracts.keys.SymbolId as symbol
use Rattle.relation_terms.specs.contracts.terms.generic_arg.TermKindPartialEq.TheImpl as term_impl
use Rattle.relation_terms.specs.contracts.predicate.existential.ExistentialPredicate as predicate
use Rattle.relation_terms.specs.contracts.predicate.existential.ExistentialPredicatePartialEq.TheImpl as predicate_impl
use Rattle.relation_terms.specs.contracts.terms.binder.BinderPartialEq.TheImpl as binder_impl
use Rattle.relation_terms.specs.contracts.terms.binder.BoundVariableKindPartialEq.TheImpl as variable_impl
use Rattle.reference_interner.proofs.AlikeFormLemmas.{one_number, two_numbers, two_selves, eqb_self}

abbrev pub variable_eq : BoundVariableKind SymbolId → BoundVariableKind SymbolId → Bool
variable_eq = (variable_impl.ghosts symbol.the_row symbol_impl.ghosts symbol_impl.dict).eq

abbrev pub term_eq : TermKind NodeKey → TermKind NodeKey → Bool
term_eq = (term_impl.ghosts key.the_row key_impl.ghosts key_impl.dict).eq

abbrev predicate_eq : ExistentialPredicate NodeKey ItemId → ExistentialPredicate NodeKey ItemId → Bool
predicate_eq =
    (predicate_impl.ghosts key.the_row item.the_row key_impl.ghosts key_impl.dict item_impl.ghosts item_impl.dict).eq

abbrev pub object_eq : Binder NodeKey (ExistentialPredicate NodeKey ItemId) →
    Binder NodeKey (ExistentialPredicate NodeKey ItemId) → Bool
object_eq =
    (binder_impl.ghosts key.the_row (predicate.the_row key.the_row item.the_row) key_impl.ghosts key_impl.dict
    (predicate_impl.ghosts key.the_row item.the_row key_impl.ghosts key_impl.dict item_impl.ghosts item_impl.dict)
    (predicate_impl.dict key.the_row item.the_row key_impl.ghosts key_impl.dict item_impl.ghosts item_impl.dict)).eq

pub variable_same : (x y : BoundVariableKind SymbolId) → IsTrue (variable_eq x y) → x ≡ y
variable_same (TyVariable n) (TyVariable o) h = one_number (λ i. TyVariable (record { 0 = i })) n.0 o.0 h
variable_same (RegionVariable n) (RegionVariable o) h = one_number (λ i. RegionVariable (record { 0 = i })) n.0 o.0 h
variable_same (ConstVariable n) (ConstVariable o) h = one_number (λ i. ConstVariable (record { 0 = i })) n.0 o.0 h
variable_same _ _ h = absurd (false≢true h)

pub variable_self : (x : BoundVariableKind SymbolId) → IsTrue (variable_eq x x)
variable_self (TyVariable n) = eqb_self n.0
variable_self (RegionVariable n) = eqb_self n.0
variable_self (ConstVariable n) = eqb_self n.0

pub term_same : (x y : TermKind NodeKey) → IsTrue (term_eq x y) → x ≡ y
term_same (TyTerm t) (TyTerm u) h = one_number (λ x. TyTerm (record { 0 = record { 0 = x } })) (t.0).0 (u.0).0 h
term_same (ConstTerm c) (ConstTerm d) h =
    one_number (λ x. ConstTerm (record { 0 = record { 0 = x } })) (c.0).0 (d.0).0 h
term_same _ _ h = absurd (false≢true h)

pub term_self : (x : TermKind NodeKey) → IsTrue (term_eq x x)
term_self (TyTerm t) = eqb_self (t.0).0
term_self (ConstTerm c) = eqb_self (c.0).0

predicate_same : (p q : ExistentialPredicate NodeKey ItemId) → IsTrue (predicate_eq p q) → p ≡ q
predicate_same (Trait t) (Trait u) h =
    two_numbers (λ x y. Trait (record {
      def_id = record { 0 = record { 0 = x } };
      args = record { 0 = record { 0 = y } };
    }))
    ((t.def_id).0).0 ((u.def_id).0).0 ((t.args).0).0 ((u.args).0).0 h
predicate_same (ProjectionPredicate p) (ProjectionPredicate q) h =
    let d = ((p.def_id).0).0 in
    let e = ((q.def_id).0).0 in
    let a = ((p.args).0).0 in
    let b = ((q.args).0).0 in
    let g = and_parts (eqb d e) (eqb a b && term_eq p.term q.term) h in
    let i = and_parts (eqb a b) (term_eq p.term q.term) g.1 in
    two_numbers (λ x y. ProjectionPredicate (record {
      def_id = record { 0 = record { 0 = x } };
      args = record { 0 = record { 0 = y } };
      term = p.term;
    })) d e a b (and_from (eqb d e) (eqb a b) g.0 i.0) ∙
    ap (λ x. ProjectionPredicate (record { def_id = q.def_id; args = q.args; term = x })) (term_same p.term q.term i.1)
predicate_same (AutoTrait d) (AutoTrait e) h =
    one_number (λ x. AutoTrait (record { 0 = record { 0 = x } })) (d.0).0 (e.0).0 h
predicate_same _ _ h = absurd (false≢true h)

predicate_self : (p : ExistentialPredicate NodeKey ItemId) → IsTrue (predicate_eq p p)
predicate_self (Trait t) = two_selves ((t.def_id).0).0 ((t.args).0).0
predicate_self (ProjectionPredicate p) =
    let d = ((p.def_id).0).0 in
    let a = ((p.args).0).0 in
    and_from (eqb d d) (eqb a a && term_eq p.term p.term) (eqb_self d)
    (and_from (eqb a a) (term_eq p.term p.term) (eqb_self a) (term_self p.term))
predicate_self (AutoTrait d) = eqb_self (d.0).0

pub object_same : (b c : Binder NodeKey (ExistentialPredicate NodeKey ItemId)) → IsTrue (object_eq b c) → b ≡ c
object_same b c h =
    let v = ((b.bound_vars).0).0 in
    let w = ((c.bound_vars).0).0 in
    let p = and_parts (predicate_eq b.value c.value) (eqb v w) h in
    ap₂ (λ x y. record { value = x; bound_vars = record { 0 = record { 0 = y } } })
    (predicate_same b.value c.value p.0) (eqb-true v w p.1)

pub object_self : (b : Binder NodeKey (ExistentialPredicate NodeKey ItemId)) → IsTrue (object_eq b b)
object_self b =
    let v = ((b.bound_vars).0).0 in
    and_from (predicate_eq b.value b.value) (eqb v v) (predicate_self b.value) (eqb_self v)
