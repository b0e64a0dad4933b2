-- What an instance keeps of a term, and an erasure.
use Rattle.std.proofs.Common.{◌≡◌, ℕ, suc, Bool, true, false, List, None, refl, sym, ap, ap₂, ◌∙◌}
use Rattle.relation_terms.specs.Heads.{Sort, region_sort, type_sort, const_sort, binder_sort, Admits, leaf_sort}
use Rattle.relation_terms.specs.Heads.{Kind, region_kind, type_kind, const_kind}
use Rattle.relation_terms.specs.Heads.{BoundKind, bound_kind, VarKind, type_var, int_var, float_var, const_var}
use Rattle.relation_terms.specs.Heads.{region_var, Atom, type_param, type_error, early_region, const_error}
use Rattle.relation_terms.specs.Heads.{const_param, fresh_type, fresh_int, fresh_float, fresh_const}
use Rattle.relation_terms.specs.Heads.{Head, alias, unevaluated, expression, tuple, fn_ptr, dynamic, value_branch}
use Rattle.relation_terms.specs.Heads.{signature, inputs, object, existential_trait, Leaf, variable, bound}
use Rattle.relation_terms.specs.Heads.{placeholder, atom, unknown}
use Rattle.term_enums.specs.declared.Safety.{Safety}
use Rattle.term_enums.specs.declared.ExternAbi.{ExternAbi}
use Rattle.relation_terms.specs.Trees.{Tree, leaf, node, bind, nil, cons, IsTerm, count}
use Rattle.relation_terms.specs.Erasure.{erase, erase_leaf}
use Rattle.relation_terms.specs.Parts.{tree_sort}
use Rattle.relation_terms.proofs.Members.{region_only, type_only, const_only, term_admits}
use Rattle.relation_folds.specs.Clashes.{flexible, outline, header_of, inputs_count, object_principal, principal}
use Rattle.relation_folds.specs.Clashes.{counted}
use Rattle.relation_folds.specs.Forms.{Tuple, FnPtr, Dynamic, Branch}
use Rattle.fast_reject.specs.Instances.{Instance, put, kept_leaf, kept_node, kept_bind, kept_nil, kept_cons}
use Rattle.relation_terms.proofs.Erasing.{erased_count, erased_atom}

-- The sorts of places.
abbrev pub is_place_sort : Sort → Bool
is_place_sort region_sort = true
is_place_sort type_sort = true
is_place_sort const_sort = true
is_place_sort s = false

atom_place : (x : Atom) → flexible true (leaf (atom x)) ≡ true → is_place_sort (tree_sort (leaf (atom x))) ≡ true
atom_place (type_param i n) f = refl
atom_place (const_param i n) f = refl
atom_place (early_region i n) f = refl
atom_place type_error f = refl
atom_place const_error f = refl
atom_place (fresh_type n) f = refl
atom_place (fresh_int n) f = refl
atom_place (fresh_float n) f = refl
atom_place (fresh_const n) f = refl
atom_place x f = absurd (cc)

variable_place : (k : VarKind) (n : ℕ) → is_place_sort (tree_sort (leaf (variable k n))) ≡ true
variable_place type_var n = refl
variable_place int_var n = refl
variable_place float_var n = refl
variable_place const_var n = refl
variable_place region_var n = refl

bound_place : (k : Kind) (m d i : ℕ) → is_place_sort (tree_sort (leaf (bound (bound_kind k m) d i))) ≡ true
bound_place region_kind m d i = refl
bound_place type_kind m d i = refl
bound_place const_kind m d i = refl

pub place_sort : (a : Tree) → flexible true a ≡ true → is_place_sort (tree_sort a) ≡ true
place_sort (leaf (variable k n)) f = variable_place k n
place_sort (leaf (bound (bound_kind k m) d i)) f = bound_place k m d i
place_sort (leaf (placeholder k u n)) f = absurd (cc)
place_sort (leaf (atom x)) f = atom_place x f
place_sort (leaf unknown) f = absurd (cc)
place_sort (node (alias k d) ts) f = refl
place_sort (node (unevaluated d) ts) f = refl
place_sort (node (expression k) ts) f = refl
place_sort (node h ts) f = absurd (cc)
place_sort (bind ks t) f = absurd (cc)
place_sort nil f = absurd (cc)
place_sort (cons t ts) f = absurd (cc)

-- Whatever may stand for others only at some places may at all.
pub within_all : (p : Bool) (a : Tree) → flexible p a ≡ true → flexible true a ≡ true
within_all true a f = f
within_all false (leaf (variable k n)) f = refl
within_all false (leaf (bound k d i)) f = refl
within_all false (leaf (placeholder k u n)) f = f
within_all false (leaf (atom (type_param i n))) f = refl
within_all false (leaf (atom (const_param i n))) f = refl
within_all false (leaf (atom (early_region i n))) f = refl
within_all false (leaf (atom x)) f = f
within_all false (leaf unknown) f = f
within_all false (node (alias k d) ts) f = refl
within_all false (node (unevaluated d) ts) f = refl
within_all false (node (expression k) ts) f = refl
within_all false (node h ts) f = f
within_all false (bind ks t) f = f
within_all false nil f = f
within_all false (cons t ts) f = f

-- A term that is put for a place is of the place's sort.
admitted : (s u : Sort) → is_place_sort s ≡ true → Admits s u → u ≡ s
admitted region_sort u p h = region_only u h
admitted type_sort u p h = type_only u h
admitted const_sort u p h = const_only u h
admitted s u p h = absurd (cc)

pub put_sort : (a x : Tree) → flexible true a ≡ true → IsTerm (tree_sort a) x → tree_sort x ≡ tree_sort a
put_sort a x f h = admitted (tree_sort a) (tree_sort x) (place_sort a f) (term_admits (tree_sort a) x h)

-- A place, and what is put for it, is no list and no binder: of both the same is said.
place_alone : {A : Type 0} (f : Tree → A) (z : A) → ((l : Leaf) → f (leaf l) ≡ z) →
    ((h : Head) (ts : Tree) → f (node h ts) ≡ z) → (a : Tree) → flexible true a ≡ true → f a ≡ z
place_alone f z p q (leaf l) g = p l
place_alone f z p q (node h ts) g = q h ts
place_alone f z p q (bind ks t) g = absurd (cc)
place_alone f z p q nil g = absurd (cc)
place_alone f z p q (cons t ts) g = absurd (cc)

term_alone : {A : Type 0} (f : Tree → A) (z : A) → ((l : Leaf) → f (leaf l) ≡ z) →
    ((h : Head) (ts : Tree) → f (node h ts) ≡ z) → (s : Sort) (x : Tree) → IsTerm s x → f x ≡ z
term_alone f z p q s (leaf l) h = p l
term_alone f z p q s (node g ts) h = q g ts
term_alone f z p q s (bind ks t) h = absurd h
term_alone f z p q s nil h = absurd h
term_alone f z p q s (cons t ts) h = absurd h

put_alone : {A : Type 0} (f : Tree → A) (z : A) → ((l : Leaf) → f (leaf l) ≡ z) →
    ((h : Head) (ts : Tree) → f (node h ts) ≡ z) → (a x : Tree) → flexible true a ≡ true → IsTerm (tree_sort a) x →
    f x ≡ f a
put_alone f z p q a x g h = term_alone f z p q (tree_sort a) x h ∙ sym (place_alone f z p q a g)

-- Of a part of a place's sort nothing is compared.
no_header : (ks : List BoundKind) (vs t : Tree) → is_place_sort (tree_sort t) ≡ true →
    header_of (cons (bind ks t) vs) ≡ None
no_header ks vs (node (signature v s a) us) p = absurd (cc)
no_header ks vs (node h us) p = refl
no_header ks vs (leaf l) p = refl
no_header ks vs (bind ls t) p = refl
no_header ks vs nil p = refl
no_header ks vs (cons t us) p = refl

no_inputs : (ks : List BoundKind) (vs t : Tree) → is_place_sort (tree_sort t) ≡ true →
    inputs_count (cons (bind ks t) vs) ≡ 0
no_inputs ks vs (node (signature v s a) us) p = absurd (cc)
no_inputs ks vs (node h us) p = refl
no_inputs ks vs (leaf l) p = refl
no_inputs ks vs (bind ls t) p = refl
no_inputs ks vs nil p = refl
no_inputs ks vs (cons t us) p = refl

no_first_inputs : (ks : List BoundKind) (v : Bool) (s : Safety) (o : ExternAbi) (us vs t : Tree) →
    is_place_sort (tree_sort t) ≡ true →
    inputs_count (cons (bind ks (node (signature v s o) (cons t us))) vs) ≡ 0
no_first_inputs ks v s o us vs (node inputs is) p = absurd (cc)
no_first_inputs ks v s o us vs (node h is) p = refl
no_first_inputs ks v s o us vs (leaf l) p = refl
no_first_inputs ks v s o us vs (bind ls t) p = refl
no_first_inputs ks v s o us vs nil p = refl
no_first_inputs ks v s o us vs (cons t is) p = refl

no_object : (us t : Tree) → is_place_sort (tree_sort t) ≡ true → object_principal (cons t us) ≡ None
no_object us (node object ps) p = absurd (cc)
no_object us (node h ps) p = refl
no_object us (leaf l) p = refl
no_object us (bind ls t) p = refl
no_object us nil p = refl
no_object us (cons t is) p = refl

no_trait : (ks : List BoundKind) (ps t : Tree) → is_place_sort (tree_sort t) ≡ true →
    principal (cons (bind ks t) ps) ≡ principal ps
no_trait ks ps (node (existential_trait d) ts) p = absurd (cc)
no_trait ks ps (node h ts) p = refl
no_trait ks ps (leaf l) p = refl
no_trait ks ps (bind ls t) p = refl
no_trait ks ps nil p = refl
no_trait ks ps (cons t ts) p = refl

-- What an instance keeps.
module _ {places : Tree → Bool} (within : (a : Tree) → places a ≡ true → flexible true a ≡ true) where
  -- Both the place and what is put for it are of a place's sort.
  put_sorts : (a x : Tree) → places a ≡ true → IsTerm (tree_sort a) x →
      (is_place_sort (tree_sort a) ≡ true) × (is_place_sort (tree_sort x) ≡ true)
  put_sorts a x f h =
      (place_sort a (within a f), ap is_place_sort (put_sort a x (within a f) h) ∙ place_sort a (within a f))

  pub sort_kept : {a x : Tree} → Instance places a x → tree_sort x ≡ tree_sort a
  sort_kept (put {a = a} {x = x} f h v g) = put_sort a x (within a f) h
  sort_kept (kept_leaf f) = refl
  sort_kept (kept_node f i) = refl
  sort_kept (kept_bind i) = ap binder_sort (sort_kept i)
  sort_kept kept_nil = refl
  sort_kept (kept_cons i j) = refl

  pub count_kept : {a x : Tree} → Instance places a x → count x ≡ count a
  count_kept (put {a = a} {x = x} f h v g) = put_alone count 0 (λ l. refl) (λ k ts. refl) a x (within a f) h
  count_kept (kept_leaf f) = refl
  count_kept (kept_node f i) = refl
  count_kept (kept_bind i) = refl
  count_kept kept_nil = refl
  count_kept (kept_cons i j) = ap suc (count_kept j)

  -- The header of a function pointer.
  head_header : (ks : List BoundKind) (h : Head) (ts us vs ws : Tree) →
      header_of (cons (bind ks (node h us)) ws) ≡ header_of (cons (bind ks (node h ts)) vs)
  head_header ks (signature v s a) ts us vs ws = refl
  head_header ks h ts us vs ws = refl

  bound_header : (ks : List BoundKind) (vs ws : Tree) {a x : Tree} → Instance places a x →
      header_of (cons (bind ks x) ws) ≡ header_of (cons (bind ks a) vs)
  bound_header ks vs ws (put {a = a} {x = x} f h v g) =
      let p = put_sorts a x f h in no_header ks ws x p.1 ∙ sym (no_header ks vs a p.0)
  bound_header ks vs ws (kept_leaf f) = refl
  bound_header ks vs ws (kept_node {h = h} {ts = ts} {us = us} f i) = head_header ks h ts us vs ws
  bound_header ks vs ws (kept_bind i) = refl
  bound_header ks vs ws kept_nil = refl
  bound_header ks vs ws (kept_cons i j) = refl

  first_header : (vs ws : Tree) {a x : Tree} → Instance places a x → header_of (cons x ws) ≡ header_of (cons a vs)
  first_header vs ws (put {a = a} {x = x} f h v g) =
      put_alone (λ t. header_of (cons t ws)) None (λ l. refl) (λ k ts. refl) a x (within a f) h ∙
      place_alone (λ t. header_of (cons t ws)) None (λ l. refl) (λ k ts. refl) a (within a f) ∙
      sym (place_alone (λ t. header_of (cons t vs)) None (λ l. refl) (λ k ts. refl) a (within a f))
  first_header vs ws (kept_leaf f) = refl
  first_header vs ws (kept_node f i) = refl
  first_header vs ws (kept_bind {ks = ks} i) = bound_header ks vs ws i
  first_header vs ws kept_nil = refl
  first_header vs ws (kept_cons i j) = refl

  header_kept : {a x : Tree} → Instance places a x → header_of x ≡ header_of a
  header_kept (put {a = a} {x = x} f h v g) =
      put_alone header_of None (λ l. refl) (λ k ts. refl) a x (within a f) h
  header_kept (kept_leaf f) = refl
  header_kept (kept_node f i) = refl
  header_kept (kept_bind i) = refl
  header_kept kept_nil = refl
  header_kept (kept_cons {ts = ts} {us = us} i j) = first_header ts us i

  -- How many inputs it has.
  inputs_here : (ks : List BoundKind) (v : Bool) (s : Safety) (o : ExternAbi) (us us' vs vs' : Tree) {a x : Tree} →
      Instance places a x → inputs_count (cons (bind ks (node (signature v s o) (cons x us'))) vs') ≡
      inputs_count (cons (bind ks (node (signature v s o) (cons a us))) vs)
  inputs_here ks v s o us us' vs vs' (put {a = a} {x = x} f h w g) =
      let p = put_sorts a x f h in
      no_first_inputs ks v s o us' vs' x p.1 ∙ sym (no_first_inputs ks v s o us vs a p.0)
  inputs_here ks v s o us us' vs vs' (kept_leaf f) = refl
  inputs_here ks v s o us us' vs vs' (kept_node {h = inputs} f i) = count_kept i
  inputs_here ks v s o us us' vs vs' (kept_node {h = h} f i) = refl
  inputs_here ks v s o us us' vs vs' (kept_bind i) = refl
  inputs_here ks v s o us us' vs vs' kept_nil = refl
  inputs_here ks v s o us us' vs vs' (kept_cons i j) = refl

  signature_inputs : (ks : List BoundKind) (v : Bool) (s : Safety) (o : ExternAbi) (vs vs' : Tree) {a x : Tree} →
      Instance places a x → inputs_count (cons (bind ks (node (signature v s o) x)) vs') ≡
      inputs_count (cons (bind ks (node (signature v s o) a)) vs)
  signature_inputs ks v s o vs vs' (put {a = a} {x = x} f h w g) =
      put_alone (λ t. inputs_count (cons (bind ks (node (signature v s o) t)) vs')) 0 (λ l. refl) (λ k ts. refl) a x
      (within a f) h ∙
      place_alone (λ t. inputs_count (cons (bind ks (node (signature v s o) t)) vs')) 0 (λ l. refl) (λ k ts. refl) a
      (within a f) ∙
      sym (place_alone (λ t. inputs_count (cons (bind ks (node (signature v s o) t)) vs)) 0 (λ l. refl) (λ k ts. refl) a
      (within a f))
  signature_inputs ks v s o vs vs' (kept_leaf f) = refl
  signature_inputs ks v s o vs vs' (kept_node f i) = refl
  signature_inputs ks v s o vs vs' (kept_bind i) = refl
  signature_inputs ks v s o vs vs' kept_nil = refl
  signature_inputs ks v s o vs vs' (kept_cons {ts = ts} {us = us} i j) = inputs_here ks v s o ts us vs vs' i

  bound_inputs : (ks : List BoundKind) (vs ws : Tree) {a x : Tree} → Instance places a x →
      inputs_count (cons (bind ks x) ws) ≡ inputs_count (cons (bind ks a) vs)
  bound_inputs ks vs ws (put {a = a} {x = x} f h v g) =
      let p = put_sorts a x f h in no_inputs ks ws x p.1 ∙ sym (no_inputs ks vs a p.0)
  bound_inputs ks vs ws (kept_leaf f) = refl
  bound_inputs ks vs ws (kept_node {h = signature v s o} f i) = signature_inputs ks v s o vs ws i
  bound_inputs ks vs ws (kept_node {h = h} f i) = refl
  bound_inputs ks vs ws (kept_bind i) = refl
  bound_inputs ks vs ws kept_nil = refl
  bound_inputs ks vs ws (kept_cons i j) = refl

  first_inputs : (vs ws : Tree) {a x : Tree} → Instance places a x →
      inputs_count (cons x ws) ≡ inputs_count (cons a vs)
  first_inputs vs ws (put {a = a} {x = x} f h v g) =
      put_alone (λ t. inputs_count (cons t ws)) 0 (λ l. refl) (λ k ts. refl) a x (within a f) h ∙
      place_alone (λ t. inputs_count (cons t ws)) 0 (λ l. refl) (λ k ts. refl) a (within a f) ∙
      sym (place_alone (λ t. inputs_count (cons t vs)) 0 (λ l. refl) (λ k ts. refl) a (within a f))
  first_inputs vs ws (kept_leaf f) = refl
  first_inputs vs ws (kept_node f i) = refl
  first_inputs vs ws (kept_bind {ks = ks} i) = bound_inputs ks vs ws i
  first_inputs vs ws kept_nil = refl
  first_inputs vs ws (kept_cons i j) = refl

  pub inputs_kept : {a x : Tree} → Instance places a x → inputs_count x ≡ inputs_count a
  inputs_kept (put {a = a} {x = x} f h v g) =
      put_alone inputs_count 0 (λ l. refl) (λ k ts. refl) a x (within a f) h
  inputs_kept (kept_leaf f) = refl
  inputs_kept (kept_node f i) = refl
  inputs_kept (kept_bind i) = refl
  inputs_kept kept_nil = refl
  inputs_kept (kept_cons {ts = ts} {us = us} i j) = first_inputs ts us i

  -- The principal of a trait object.
  bound_trait : (ks : List BoundKind) (ps qs : Tree) → principal qs ≡ principal ps → {a x : Tree} →
      Instance places a x → principal (cons (bind ks x) qs) ≡ principal (cons (bind ks a) ps)
  bound_trait ks ps qs e (put {a = a} {x = x} f h v g) =
      let p = put_sorts a x f h in no_trait ks qs x p.1 ∙ e ∙ sym (no_trait ks ps a p.0)
  bound_trait ks ps qs e (kept_leaf f) = e
  bound_trait ks ps qs e (kept_node {h = existential_trait d} f i) = refl
  bound_trait ks ps qs e (kept_node {h = h} f i) = e
  bound_trait ks ps qs e (kept_bind i) = e
  bound_trait ks ps qs e kept_nil = e
  bound_trait ks ps qs e (kept_cons i j) = e

  first_trait : (ps qs : Tree) → principal qs ≡ principal ps → {a x : Tree} → Instance places a x →
      principal (cons x qs) ≡ principal (cons a ps)
  first_trait ps qs e (put {a = a} {x = x} f h v g) =
      term_alone (λ t. principal (cons t qs)) (principal qs) (λ l. refl) (λ k ts. refl) (tree_sort a) x h ∙ e ∙
      sym (place_alone (λ t. principal (cons t ps)) (principal ps) (λ l. refl) (λ k ts. refl) a (within a f))
  first_trait ps qs e (kept_leaf f) = e
  first_trait ps qs e (kept_node f i) = e
  first_trait ps qs e (kept_bind {ks = ks} i) = bound_trait ks ps qs e i
  first_trait ps qs e kept_nil = e
  first_trait ps qs e (kept_cons i j) = e

  principal_kept : {a x : Tree} → Instance places a x → principal x ≡ principal a
  principal_kept (put {a = a} {x = x} f h v g) =
      put_alone principal None (λ l. refl) (λ k ts. refl) a x (within a f) h
  principal_kept (kept_leaf f) = refl
  principal_kept (kept_node f i) = refl
  principal_kept (kept_bind i) = refl
  principal_kept kept_nil = refl
  principal_kept (kept_cons {ts = ts} {us = us} i j) = first_trait ts us (principal_kept j) i

  first_object : (ps qs : Tree) {a x : Tree} → Instance places a x →
      object_principal (cons x qs) ≡ object_principal (cons a ps)
  first_object ps qs (put {a = a} {x = x} f h v g) =
      let p = put_sorts a x f h in no_object qs x p.1 ∙ sym (no_object ps a p.0)
  first_object ps qs (kept_leaf f) = refl
  first_object ps qs (kept_node {h = object} f i) = principal_kept i
  first_object ps qs (kept_node {h = h} f i) = refl
  first_object ps qs (kept_bind i) = refl
  first_object ps qs kept_nil = refl
  first_object ps qs (kept_cons i j) = refl

  pub object_kept : {a x : Tree} → Instance places a x → object_principal x ≡ object_principal a
  object_kept (put {a = a} {x = x} f h v g) =
      put_alone object_principal None (λ l. refl) (λ k ts. refl) a x (within a f) h
  object_kept (kept_leaf f) = refl
  object_kept (kept_node f i) = refl
  object_kept (kept_bind i) = refl
  object_kept kept_nil = refl
  object_kept (kept_cons {ts = ts} {us = us} i j) = first_object ts us i

-- What an erasure keeps.
erased_header : (t : Tree) → header_of (erase t) ≡ header_of t
erased_header (cons (bind ks (node (signature v s a) us)) vs) = refl
erased_header t = refl

pub erased_inputs : (t : Tree) → inputs_count (erase t) ≡ inputs_count t
erased_inputs (cons (bind ks (node (signature v s a) (cons (node inputs is) us))) vs) = erased_count is
erased_inputs t = refl

erased_principal : (t : Tree) → principal (erase t) ≡ principal t
erased_principal (cons (bind ks (node (existential_trait d) ts)) ps) = refl
erased_principal (cons (bind ks (node h ts)) ps) = erased_principal ps
erased_principal (cons (bind ks t) ps) = erased_principal ps
erased_principal (cons p ps) = erased_principal ps
erased_principal t = refl

pub erased_object : (t : Tree) → object_principal (erase t) ≡ object_principal t
erased_object (cons (node object ps) us) = erased_principal ps
erased_object t = refl

-- The sort.
erased_variable : (k : VarKind) (n : ℕ) → leaf_sort (erase_leaf (variable k n)) ≡ leaf_sort (variable k n)
erased_variable type_var n = refl
erased_variable int_var n = refl
erased_variable float_var n = refl
erased_variable const_var n = refl
erased_variable region_var n = refl

erased_bound : (k : Kind) (m d i : ℕ) →
    leaf_sort (erase_leaf (bound (bound_kind k m) d i)) ≡ leaf_sort (bound (bound_kind k m) d i)
erased_bound region_kind m d i = refl
erased_bound type_kind m d i = refl
erased_bound const_kind m d i = refl

erased_placeholder : (k : Kind) (m d i : ℕ) →
    leaf_sort (erase_leaf (placeholder (bound_kind k m) d i)) ≡ leaf_sort (placeholder (bound_kind k m) d i)
erased_placeholder region_kind m d i = refl
erased_placeholder type_kind m d i = refl
erased_placeholder const_kind m d i = refl

pub erased_sort : (t : Tree) → tree_sort (erase t) ≡ tree_sort t
erased_sort (leaf (variable k n)) = erased_variable k n
erased_sort (leaf (bound (bound_kind k m) d i)) = erased_bound k m d i
erased_sort (leaf (placeholder (bound_kind k m) u n)) = erased_placeholder k m u n
erased_sort (leaf (atom x)) = erased_atom x
erased_sort (leaf unknown) = refl
erased_sort (node h ts) = refl
erased_sort (bind ks t) = ap binder_sort (erased_sort t)
erased_sort nil = refl
erased_sort (cons t ts) = refl

-- The outline of a form is that of an instance's erasure.
same_outline : (h : Head) (ts us : Tree) → count us ≡ count ts → header_of us ≡ header_of ts →
    inputs_count us ≡ inputs_count ts → object_principal us ≡ object_principal ts → outline h us ≡ outline h ts
same_outline tuple ts us c h i p = ap (counted Tuple) c
same_outline value_branch ts us c h i p = ap (counted Branch) c
same_outline fn_ptr ts us c h i p =
    ap₂ (λ x n. record { form = FnPtr; item = None; header = x; parts = n }) h i
same_outline dynamic ts us c h i p = ap (λ x. record { form = Dynamic; item = x; header = None; parts = 0 }) p
same_outline g ts us c h i p = refl

pub outline_kept : {places : Tree → Bool} → ((a : Tree) → places a ≡ true → flexible true a ≡ true) → (h : Head)
    {a x : Tree} → Instance places a x → outline h (erase x) ≡ outline h a
outline_kept within h {a = a} {x = x} i =
    same_outline h a (erase x) (erased_count x ∙ count_kept within i) (erased_header x ∙ header_kept within i)
    (erased_inputs x ∙ inputs_kept within i) (erased_object x ∙ object_kept within i)
