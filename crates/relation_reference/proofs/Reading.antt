-- Reading the tables.
use Rattle.std.proofs.Common.{◌≡◌, ℕ, ◌<◌, IsTrue, refl, sym, ap, ◌∙◌, subst, List, length, get_or}
use Rattle.std.proofs.lemmas.List.{get_or-map, length-map}
use Rattle.std.proofs.Math.ListN.{get_or-map as at_map}
use Rattle.relation_terms.specs.Heads.{VarKind, type_var, const_var, variable}
use Rattle.relation_terms.specs.Trees.{Tree, leaf, nil, known}
use Rattle.relation_terms.specs.Meaning.{Meaning, kind_tree, infer_tree, const_tree}
use Rattle.relation_terms.specs.declared.terms.ty_kind.TyKind.{TyKind}
use Rattle.relation_terms.specs.declared.terms.ty_kind.TyKind.TheVariants.{Infer, Bound as TyBound}
use Rattle.relation_terms.specs.declared.terms.ty_kind.InferTy.{InferTy}
use Rattle.relation_terms.specs.declared.terms.ty_kind.InferTy.TheVariants.{TyVar, IntVar, FloatVar, FreshTy, FreshIntTy, FreshFloatTy}
use Rattle.relation_terms.specs.declared.terms.const_kind.ConstKind.{ConstKind}
use Rattle.relation_terms.specs.declared.terms.const_kind.ConstKind.TheVariants.{Infer as ConstInfer}
use Rattle.relation_terms.specs.declared.terms.const_kind.InferConst.TheVariants.{Var}
use Rattle.relation_terms.specs.declared.terms.numbers.TyVid.{TyVid}
use Rattle.relation_terms.specs.declared.terms.numbers.IntVid.{IntVid}
use Rattle.relation_terms.specs.declared.terms.numbers.FloatVid.{FloatVid}
use Rattle.relation_terms.specs.declared.terms.numbers.ConstVid.{ConstVid}
use Rattle.relation_semantics.specs.Stores.{Store, unbound, same_as, bound_to, entry_of, entry_term, IsMade, IsSound, InContext}
use Rattle.relation_semantics.specs.Steps.{LeadsTo, here, next}
use Rattle.relation_semantics.specs.Errors.{IsReadAs, itself, by_class, by_binding}
use Rattle.relation_semantics.specs.Bound.{IsWellBound}
use Rattle.relation_semantics.specs.Parts.{IsRigid, IsFormedConst}
use Rattle.relation_semantics.proofs.Standing.{made_of_term, term_context}
use Rattle.relation_semantics.proofs.Classes.{class_made}
use Rattle.variable_tables.specs.declared.inner.Variable.{Variable}
use Rattle.variable_tables.specs.declared.inner.VariableValue.{VariableValue}
use Rattle.variable_tables.specs.declared.inner.VariableValue.TheVariants.{Unknown, SameAs, Known}
use Rattle.variable_tables.specs.declared.inner.InferCtxtInner.{InferCtxtInner}
use Rattle.relation_reference.specs.Answers.{Found, found_root, found_term}
use Rattle.variable_tables.specs.Variables.{value_at, root_by, root_at, term_by, term_at, entry_of_value, entries_of, trees_of, keys_of}
use Rattle.variable_tables.specs.Tables.{store_of, MayBeBoundTo, may_by_lists, IsRooted, IsLawful}
use Rattle.relation_semantics.specs.Resolving.{IsRoot, IsShallow, root, stays_bound, formed, IsShallowTy, ty_root, no_ty_variable, IsShallowConst, const_root, no_variable}
use Rattle.variable_tables.proofs.Grows.{entry_at, bound_known}
use Rattle.relation_reference.proofs.Folding.{context_made}
use Rattle.relation_semantics.proofs.Variables.{kind_variable, kind_no_const, const_no_variable}
use Rattle.relation_semantics.proofs.Numbers.{made_of_leaf}

-- The other is a variable of the context.
pub leads_made : (st : Store) → IsSound st → (k : VarKind) (n p : ℕ) → entry_of st k n ≡ same_as p → IsMade st k p
leads_made st g k n p e = made_of_term st k p (g.bindings k n (leaf (variable k p)) (ap (entry_term k) e)).is_in

pub keys_reach : {K : Type 0} (vs : List (Variable K)) (n : ℕ) → n < length vs → n < length (keys_of vs)
keys_reach vs n h = subst (λ z. n < z) (sym (length-map vs (λ v. v.key))) h

pub trees_reach : {K : Type 0} (tree : K → Tree) (vs : List (Variable K)) (n : ℕ) → n < length vs → n < length (trees_of tree vs)
trees_reach tree vs n h = subst (λ z. n < z) (sym (length-map (keys_of vs) tree)) (keys_reach vs n h)

-- A table of a store.
module _ {K : Type 0} (tree : K → Tree) (vs : List (Variable K)) (st : Store) (k : VarKind) (is : st.entries k ≡ entries_of tree vs) where
  pub entry_is : (n : ℕ) → entry_of st k n ≡ entry_of_value tree (value_at vs n)
  entry_is n = ap (λ es. get_or es n unbound) is ∙ entry_at tree vs n

  leads_by : (n : ℕ) (v : VariableValue K) → entry_of st k n ≡ entry_of_value tree v → LeadsTo st k n (root_by n v)
  leads_by n Unknown e = here refl
  leads_by n (SameAs r) e = next e (here refl)
  leads_by n (Known t) e = here refl

  pub root_leads : (n : ℕ) → LeadsTo st k n (root_at vs n)
  root_leads n = leads_by n (value_at vs n) (entry_is n)

  stands_by : IsRooted st → (n : ℕ) (v : VariableValue K) → entry_of st k n ≡ entry_of_value tree v → IsRoot st k (root_by n v)
  stands_by rooted n Unknown e = λ p q. cc (e, q)
  stands_by rooted n (SameAs r) e = λ p q. rooted k n r p e q
  stands_by rooted n (Known t) e = λ p q. cc (e, q)

  pub root_stands : IsRooted st → (n : ℕ) → IsRoot st k (root_at vs n)
  root_stands rooted n = stands_by rooted n (value_at vs n) (entry_is n)

  made_by : IsSound st → (n : ℕ) → IsMade st k n → (v : VariableValue K) → entry_of st k n ≡ entry_of_value tree v → IsMade st k (root_by n v)
  made_by g n h Unknown e = h
  made_by g n h (SameAs r) e = leads_made st g k n r e
  made_by g n h (Known t) e = h

  pub root_made : IsSound st → (n : ℕ) → IsMade st k n → IsMade st k (root_at vs n)
  root_made g n h = made_by g n h (value_at vs n) (entry_is n)

  found_by : (n r : ℕ) (key x : K) (v : VariableValue K) → x ≡ term_by key v → entry_of st k r ≡ entry_of_value tree v → tree key ≡ leaf (variable k r) → LeadsTo st k n r → IsRoot st k r → Found st k n (tree x)
  found_by n r key x Unknown q e t l o = found_root r l e (ap tree q ∙ t)
  found_by n r key x (SameAs p) q e t l o = absurd (o p e)
  found_by n r key x (Known u) q e t l o = found_term r l (e ∙ ap (λ z. bound_to (tree z)) (sym q))

  pub found : IsRooted st → ((i : ℕ) → i < length (trees_of tree vs) → get_or (trees_of tree vs) i nil ≡ leaf (variable k i)) → (n : ℕ) → root_at vs n < length vs → (x : K) →
      ((d : Variable K) → x ≡ term_at (get_or vs (root_at vs n) d)) → Found st k n (tree x)
  found rooted keyed n h x f =
      let d : Variable K = record { key = x; value = Unknown; universe = record { 0 = 0 } } in
      let r = root_at vs n in
      let w = get_or vs r d in
      found_by n r w.key x w.value (f d) (entry_is r ∙ ap (entry_of_value tree) (at_map (λ v. v.value) vs r d))
      (sym (get_or-map tree (keys_of vs) r w.key nil (keys_reach vs r h) ∙ ap tree (get_or-map (λ v. v.key) vs r d w.key h)) ∙ keyed r (trees_reach tree vs r h))
      (root_leads n) (root_stands rooted n)

-- What is found for a variable of a lawful context.
module _ {Key Id Name : Type 0} (m : Meaning Key Id Name) (x : InferCtxtInner Key) (l : IsLawful m x) (k : VarKind) (n : ℕ) (u : Tree) where
  abbrev its_store : Store
  its_store = store_of m x

  pub found_known : Found its_store k n u → IsTrue (known u)
  found_known (found_root r d e q) = subst (λ t. IsTrue (known t)) (sym q) refl
  found_known (found_term r d e) = bound_known m x l k r u e

  pub found_read : Found its_store k n u → IsReadAs its_store (leaf (variable k n)) u
  found_read (found_root r d e q) = by_class k n r refl (r, d, here refl) (itself (sym q))
  found_read (found_term r d e) = by_class k n r refl (r, d, here refl) (by_binding k r refl e (itself refl))

  pub found_by_lists : Found its_store k n u → IsWellBound u
  found_by_lists (found_root r d e q) = subst IsWellBound (sym q) tt
  found_by_lists (found_term r d e) = may_by_lists k u (l.formed k r u e)

  pub found_shallow : (MayBeBoundTo k u → IsRigid u) → Found its_store k n u → IsShallow its_store u
  found_shallow f (found_root r d e q) = root k r q (ap (entry_term k) e)
  found_shallow f (found_term r d e) = formed (f (l.formed k r u e))

pub found_const_shallow : {Key Id Name : Type 0} (m : Meaning Key Id Name) (x : InferCtxtInner Key) → IsLawful m x → (n : ℕ) (u : Tree) → Found (store_of m x) const_var n u → IsShallowConst (store_of m x) u
found_const_shallow m x l n u (found_root r d e q) = const_root r q (ap (entry_term const_var) e)
found_const_shallow m x l n u (found_term r d e) = no_variable (λ k i q. subst IsFormedConst q (l.formed const_var r u e).0)

-- A type variable of which nothing is recorded has no term.
module _ {K : Type 0} (tree : K → Tree) (vs : List (Variable K)) (st : Store) (is : st.entries type_var ≡ entries_of tree vs) (n : ℕ) (t : Tree) (e : t ≡ leaf (variable type_var n)) where
  pub unknown_shallow : value_at vs n ≡ Unknown → IsShallowTy st t
  unknown_shallow v = ty_root n e (ap (entry_term type_var) (entry_is tree vs st type_var is n ∙ ap (entry_of_value tree) v))

-- A type that is no integer or float variable, nor a type variable that has a term, stays as it is.
infer_shallow : (st : Store) (i : InferTy) → IsShallowTy st (infer_tree i) → ((v : IntVid) → i ≡ IntVar v → ⊥) → ((v : FloatVid) → i ≡ FloatVar v → ⊥) → IsShallow st (infer_tree i)
infer_shallow st (TyVar v) (ty_root n q f) b c = root type_var n q f
infer_shallow st (TyVar v) (no_ty_variable o) b c = absurd (o v.0 refl)
infer_shallow st (IntVar v) a b c = absurd (b v refl)
infer_shallow st (FloatVar v) a b c = absurd (c v refl)
infer_shallow st (FreshTy n) a b c = formed refl
infer_shallow st (FreshIntTy n) a b c = formed refl
infer_shallow st (FreshFloatTy n) a b c = formed refl

pub kind_shallow : {Key Id Name : Type 0} (m : Meaning Key Id Name) (st : Store) (k : TyKind Key Id Name) →
    IsShallowTy st (kind_tree m k) → ((v : IntVid) → k ≡ Infer (IntVar v) → ⊥) → ((v : FloatVid) → k ≡ Infer (FloatVar v) → ⊥) → IsShallow st (kind_tree m k)
kind_shallow m st (Infer i) a b c = infer_shallow st i a (λ v e. b v (ap Infer e)) (λ v e. c v (ap Infer e))
kind_shallow m st (TyBound d b) a e c = stays_bound _ _ _ refl
kind_shallow m st k a b c = formed refl

-- What a type is by whether its form is a type variable.
module _ {Key Id Name : Type 0} (m : Meaning Key Id Name) (k : TyKind Key Id Name) (t : Tree) (e : t ≡ kind_tree m k) where
  pub type_shallow : (st : Store) → ((v : TyVid) → k ≡ Infer (TyVar v) → ⊥) → IsShallowTy st t
  type_shallow st h = no_ty_variable (λ n q. kind_variable m k n h (sym e ∙ q))

  pub number_shallow : (st : Store) → IsShallowTy st t → ((v : IntVid) → k ≡ Infer (IntVar v) → ⊥) → ((v : FloatVid) → k ≡ Infer (FloatVar v) → ⊥) → IsShallow st t
  number_shallow st a b c = subst (IsShallow st) (sym e) (kind_shallow m st k (subst (IsShallowTy st) e a) b c)

-- What a constant is by whether its form is a constant variable.
module _ {Key Id Name : Type 0} (m : Meaning Key Id Name) (k : ConstKind Key Id Name) (t : Tree) (e : t ≡ const_tree m k) where
  pub const_shallow : (st : Store) → ((v : ConstVid) → k ≡ ConstInfer (Var v) → ⊥) → IsShallowConst st t
  const_shallow st h = no_variable (λ j n q. const_no_variable m k j n h (sym e ∙ q))

-- What a term of the context is read as is of it.
pub context_read : (st : Store) → IsSound st → (t u : Tree) → IsReadAs st t u → InContext st t → InContext st u
context_read st g t u (itself e) h = subst (InContext st) e h
context_read st g t u (by_class k n m e c r) h = context_read st g (leaf (variable k m)) u r
    (context_made st k m (class_made st g k n m c (made_of_leaf st k n (subst (InContext st) e h))))
context_read st g t u (by_binding {u = x} k n e b r) h = context_read st g x u r
    (term_context st x (g.bindings k n x (ap (entry_term k) b)).is_in)

-- A term that is a variable is read as what is read for the variable.
pub read_for : (st : Store) (t u v : Tree) → t ≡ v → IsReadAs st v u → IsReadAs st t u
read_for st t u v e r = subst (λ z. IsReadAs st z u) (sym e) r
