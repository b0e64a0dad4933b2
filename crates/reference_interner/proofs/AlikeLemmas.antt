-- `==` takes nodes for one exactly where they are of one form.
use Rattle.std.proofs.Common.{ℕ, ◌≡◌, ◌↔◌, ◌<◌, IsTrue, Bool, List, [], ◌∷◌, length, get_or, refl, ap, ap₂, subst}
use Rattle.std.proofs.lemmas.Bool.{false≢true, and_parts, and_from}
use Rattle.relation_terms.specs.declared.terms.keys.TyKey.{TyKey}
use Rattle.relation_terms.specs.declared.terms.keys.ConstKey.{ConstKey}
use Rattle.relation_terms.specs.declared.terms.keys.PatKey.{PatKey}
use Rattle.relation_terms.specs.declared.terms.keys.ClauseKey.{ClauseKey}
use Rattle.relation_terms.specs.declared.predicate.kinds.PredicateKind.{PredicateKind}
use Rattle.relation_terms.specs.declared.terms.ty_kind.TyKind.{TyKind}
use Rattle.relation_terms.specs.declared.terms.const_kind.ConstKind.{ConstKind}
use Rattle.relation_terms.specs.declared.terms.const_kind.ValTreeKind.{ValTreeKind}
use Rattle.relation_terms.specs.declared.terms.pattern_kind.PatternKind.{PatternKind}
use Rattle.relation_terms.specs.declared.terms.region_kind.RegionKind.{RegionKind}
use Rattle.relation_terms.specs.declared.terms.generic_arg.GenericArgKind.{GenericArgKind}
use Rattle.relation_terms.specs.declared.predicate.existential.ExistentialPredicate.{ExistentialPredicate}
use Rattle.relation_terms.specs.declared.terms.binder.Binder.{Binder}
use Rattle.relation_terms.specs.declared.terms.binder.BoundVariableKind.{BoundVariableKind}
use Rattle.reference_interner.specs.declared.keys.NodeKey.{NodeKey}
use Rattle.reference_interner.specs.declared.keys.ItemId.{ItemId}
use Rattle.reference_interner.specs.declared.keys.SymbolId.{SymbolId}
use Rattle.reference_interner.specs.declared.node.Node.{Node}
use Rattle.reference_interner.specs.declared.node.Node.TheVariants.{Ty, Region, Const, ValTree, Args, Tys}
use Rattle.reference_interner.specs.ShortLists.{members_of}
use Rattle.reference_interner.specs.declared.node.Node.TheVariants.{Branches, Pat, Alternatives, Predicate, Clauses}
use Rattle.reference_interner.specs.declared.node.Node.TheVariants.{ExistentialPredicates, BoundVars}
use Rattle.reference_interner.specs.Forms.{Form, ty_form, region_form, const_form, valtree_form, args_form, tys_form}
use Rattle.reference_interner.specs.Forms.{branches_form, pattern_form, alternatives_form, form_of}
use Rattle.reference_interner.specs.Forms.{predicate_form, clauses_form}
use Rattle.reference_interner.specs.Forms.{predicates_form, bound_vars_form}
use lib.Pointwise.{pointwise}
use Rattle.node_table.specs.Finding.{Lacks, HasAt}
use Rattle.reference_interner.proofs.AlikeFormLemmas.{node_eq, arg_eq, ty_eq, const_eq, pat_eq, eqb_self}
use Rattle.reference_interner.proofs.AlikeFormLemmas.{kind_same, kind_self, const_same, const_self, valtree_same}
use Rattle.reference_interner.proofs.AlikeFormLemmas.{valtree_self, pattern_same, pattern_self, region_same}
use Rattle.reference_interner.proofs.AlikeFormLemmas.{region_self, arg_same, arg_self, ty_same, const_key_same}
use Rattle.reference_interner.proofs.AlikeFormLemmas.{pat_same}
use Rattle.reference_interner.proofs.AlikePredicateLemmas.{whole_same, whole_self, clause_key_eq, clause_key_same}
use Rattle.reference_interner.proofs.AlikeElementLemmas.{object_eq, object_same, object_self}
use Rattle.reference_interner.proofs.AlikeElementLemmas.{variable_eq, variable_same, variable_self}

-- Lists, by what their members are.
list_same : {A : Type 0} (eq : A → A → Bool) → ((x y : A) → IsTrue (eq x y) → x ≡ y) → (xs ys : List A) →
    IsTrue (pointwise eq xs ys) → xs ≡ ys
list_same eq s [] [] h = refl
list_same eq s (x ∷ xs) (y ∷ ys) h =
    let p = and_parts (eq x y) (pointwise eq xs ys) h in
    ap₂ (λ z zs. z ∷ zs) (s x y p.0) (list_same eq s xs ys p.1)
list_same eq s xs ys h = absurd (false≢true h)

list_self : {A : Type 0} (eq : A → A → Bool) → ((x : A) → IsTrue (eq x x)) → (xs : List A) →
    IsTrue (pointwise eq xs xs)
list_self eq s [] = refl
list_self eq s (x ∷ xs) = and_from (eq x x) (pointwise eq xs xs) (s x) (list_self eq s xs)

node_same : (a b : Node) → IsTrue (node_eq a b) → form_of a ≡ form_of b
node_same (Ty f) (Ty g) h = ap (λ x. ty_form x) (kind_same f g h)
node_same (Region f) (Region g) h = ap (λ x. region_form x) (region_same f g h)
node_same (Const f) (Const g) h = ap (λ x. const_form x) (const_same f g h)
node_same (ValTree f) (ValTree g) h = ap (λ x. valtree_form x) (valtree_same f g h)
node_same (Pat f) (Pat g) h = ap (λ x. pattern_form x) (pattern_same f g h)
node_same (Args v) (Args w) h = ap (λ x. args_form x) (list_same arg_eq arg_same (members_of v) (members_of w) h)
node_same (Tys v) (Tys w) h = ap (λ x. tys_form x) (list_same ty_eq ty_same (members_of v) (members_of w) h)
node_same (Branches v) (Branches w) h = ap (λ x. branches_form x) (list_same const_eq const_key_same v.items w.items h)
node_same (Alternatives v) (Alternatives w) h =
    ap (λ x. alternatives_form x) (list_same pat_eq pat_same v.items w.items h)
node_same (ExistentialPredicates v) (ExistentialPredicates w) h =
    ap (λ x. predicates_form x) (list_same object_eq object_same v.items w.items h)
node_same (BoundVars v) (BoundVars w) h =
    ap (λ x. bound_vars_form x) (list_same variable_eq variable_same v.items w.items h)
node_same (Predicate f) (Predicate g) h = ap (λ x. predicate_form x) (whole_same f g h)
node_same (Clauses v) (Clauses w) h =
    ap (λ x. clauses_form x) (list_same clause_key_eq clause_key_same v.items w.items h)
node_same _ _ h = absurd (false≢true h)

abbrev kind_in : TyKind NodeKey ItemId SymbolId → Form → TyKind NodeKey ItemId SymbolId
kind_in d (ty_form f) = f
kind_in d _ = d

abbrev region_in : RegionKind SymbolId → Form → RegionKind SymbolId
region_in d (region_form f) = f
region_in d _ = d

abbrev const_in : ConstKind NodeKey ItemId SymbolId → Form → ConstKind NodeKey ItemId SymbolId
const_in d (const_form f) = f
const_in d _ = d

abbrev valtree_in : ValTreeKind NodeKey → Form → ValTreeKind NodeKey
valtree_in d (valtree_form f) = f
valtree_in d _ = d

abbrev pattern_in : PatternKind NodeKey → Form → PatternKind NodeKey
pattern_in d (pattern_form f) = f
pattern_in d _ = d

abbrev args_in : List (GenericArgKind NodeKey) → Form → List (GenericArgKind NodeKey)
args_in d (args_form f) = f
args_in d _ = d

abbrev types_in : List (TyKey NodeKey) → Form → List (TyKey NodeKey)
types_in d (tys_form f) = f
types_in d _ = d

abbrev branches_in : List (ConstKey NodeKey) → Form → List (ConstKey NodeKey)
branches_in d (branches_form f) = f
branches_in d _ = d

abbrev alternatives_in : List (PatKey NodeKey) → Form → List (PatKey NodeKey)
alternatives_in d (alternatives_form f) = f
alternatives_in d _ = d

abbrev predicates_in : List (Binder NodeKey (ExistentialPredicate NodeKey ItemId)) → Form →
    List (Binder NodeKey (ExistentialPredicate NodeKey ItemId))
predicates_in d (predicates_form f) = f
predicates_in d _ = d

abbrev variables_in : List (BoundVariableKind SymbolId) → Form → List (BoundVariableKind SymbolId)
variables_in d (bound_vars_form f) = f
variables_in d _ = d

abbrev predicate_in : Binder NodeKey (PredicateKind NodeKey ItemId SymbolId) → Form →
    Binder NodeKey (PredicateKind NodeKey ItemId SymbolId)
predicate_in d (predicate_form f) = f
predicate_in d _ = d

abbrev clauses_in : List (ClauseKey NodeKey) → Form → List (ClauseKey NodeKey)
clauses_in d (clauses_form f) = f
clauses_in d _ = d

node_self : (a b : Node) → form_of a ≡ form_of b → IsTrue (node_eq a b)
node_self (Ty f) (Ty g) e = subst (λ x. IsTrue (node_eq (Ty f) (Ty x))) (ap (kind_in f) e) (kind_self f)
node_self (Region f) (Region g) e =
    subst (λ x. IsTrue (node_eq (Region f) (Region x))) (ap (region_in f) e) (region_self f)
node_self (Const f) (Const g) e = subst (λ x. IsTrue (node_eq (Const f) (Const x))) (ap (const_in f) e) (const_self f)
node_self (ValTree f) (ValTree g) e =
    subst (λ x. IsTrue (node_eq (ValTree f) (ValTree x))) (ap (valtree_in f) e) (valtree_self f)
node_self (Pat f) (Pat g) e = subst (λ x. IsTrue (node_eq (Pat f) (Pat x))) (ap (pattern_in f) e) (pattern_self f)
node_self (Args v) (Args w) e =
    subst (λ x. IsTrue (pointwise arg_eq (members_of v) x)) (ap (args_in (members_of v)) e)
    (list_self arg_eq arg_self (members_of v))
node_self (Tys v) (Tys w) e =
    subst (λ x. IsTrue (pointwise ty_eq (members_of v) x)) (ap (types_in (members_of v)) e)
    (list_self ty_eq (λ x. eqb_self (x.0).0) (members_of v))
node_self (Branches v) (Branches w) e =
    subst (λ x. IsTrue (pointwise const_eq v.items x)) (ap (branches_in v.items) e)
    (list_self const_eq (λ x. eqb_self (x.0).0) v.items)
node_self (Alternatives v) (Alternatives w) e =
    subst (λ x. IsTrue (pointwise pat_eq v.items x)) (ap (alternatives_in v.items) e)
    (list_self pat_eq (λ x. eqb_self (x.0).0) v.items)
node_self (ExistentialPredicates v) (ExistentialPredicates w) e =
    subst (λ x. IsTrue (pointwise object_eq v.items x)) (ap (predicates_in v.items) e)
    (list_self object_eq object_self v.items)
node_self (BoundVars v) (BoundVars w) e =
    subst (λ x. IsTrue (pointwise variable_eq v.items x)) (ap (variables_in v.items) e)
    (list_self variable_eq variable_self v.items)
node_self (Predicate f) (Predicate g) e =
    subst (λ x. IsTrue (node_eq (Predicate f) (Predicate x))) (ap (predicate_in f) e) (whole_self f)
node_self (Clauses v) (Clauses w) e =
    subst (λ x. IsTrue (pointwise clause_key_eq v.items x)) (ap (clauses_in v.items) e)
    (list_self clause_key_eq (λ x. eqb_self (x.0).0) v.items)
node_self _ _ e = absurd (cc)

pub node_alike : (a b : Node) → (IsTrue (node_eq a b) ↔ (form_of a ≡ form_of b))
node_alike a b = (node_same a b, node_self a b)

-- What a list of nodes has, and what it lacks, by forms.
pub has_form : (ns : List Node) (n : Node) (i : ℕ) → HasAt node_eq ns n i → (d : Node) →
    form_of (get_or ns i d) ≡ form_of n
has_form ns n i h d = node_same (get_or ns i d) n (h.1 d)

pub lacks_form : (ns : List Node) (n : Node) → Lacks node_eq ns n → (k : ℕ) (d : Node) → k < length ns →
    form_of (get_or ns k d) ≡ form_of n → ⊥
lacks_form ns n a k d h e = a k d h (node_self (get_or ns k d) n e)
