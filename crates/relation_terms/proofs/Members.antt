-- Lists of parts: their members, their lengths and sorts, and the slices that an interner reads.
use Rattle.std.proofs.Common.{◌≤◌, ◌≡◌, ℕ, zero, suc, ◌<◌, refl, sym, ap, ap₂, ◌∙◌, subst, arith}
use Rattle.std.specs.Cmp.Derive.{both_true}
use Rattle.std.proofs.Math.Seq.{take-length}
use Rattle.std.proofs.Common.{drop, map, take, ◌++◌, ◌+◌, ◌-◌}
use Rattle.relation_terms.specs.Orders.{order_of, in_turn}
use Rattle.relation_terms.specs.Trees.{front, last}
use Rattle.relation_terms.proofs.Binders.{front_known, front_count, front_nth, last_nth}
use Rattle.std.proofs.lemmas.List.{map_push}
use Rattle.std.proofs.lemmas.List.{take_more}
use Rattle.std.proofs.Common.{IsTrue, List, [], ◌∷◌, length, get_or, Result, Ok, Err, IfOk}
use Rattle.std.proofs.lemmas.Bool.{and_parts}
use Rattle.relation_terms.specs.Heads.{Sort, region_sort, type_sort, const_sort, value_sort}
use Rattle.relation_terms.specs.Heads.{argument_sort, pattern_sort}
use Rattle.relation_terms.specs.Heads.{Head, adt, fn_def, closure, coroutine_closure, coroutine, coroutine_witness}
use Rattle.relation_terms.specs.Heads.{array, slice, pattern_type, tuple, unsafe_binder, dynamic, fn_ptr, raw_ptr}
use Rattle.relation_terms.specs.Heads.{ref, alias, signature, inputs, unevaluated, expression, value, value_type}
use Rattle.relation_terms.specs.Heads.{value_branch, range_pattern, or_pattern, arguments, object, existential_trait}
use Rattle.relation_terms.specs.Heads.{existential_projection, trait_ref, trait_clause, host_effect, subtype}
use Rattle.relation_terms.specs.Heads.{alias_term, region_outlives, type_outlives, projection, const_has_type}
use Rattle.relation_terms.specs.Heads.{well_formed, const_evaluatable, coerce, normalizes_to, alias_relate}
use Rattle.relation_terms.specs.Heads.{environment}
use Rattle.relation_terms.specs.Heads.{Admits, leaf_sort, head_sort}
use Rattle.relation_terms.specs.Trees.{Tree, leaf, node, bind, nil, cons, known, list_tree, count, nth, size, IsList}
use Rattle.relation_terms.specs.Trees.{IsTerm, AreTerms}
use Rattle.relation_terms.specs.Parts.{over, parts_of, tree_sort, part_sort, Fit, AreArgs, AreTys}
use Rattle.relation_terms.specs.Parts.{AreConsts, ArePats}
use Rattle.relation_terms.specs.declared.terms.part_kind.Part.{Part}
use Rattle.relation_terms.specs.declared.terms.part_kind.Part.TheVariants.{Region, Ty, Const, ValTree, Pat, ValueType}
use Rattle.relation_terms.specs.Heads.{existential_sort, term_sort, binder_sort, binder_of, term_of, row}
use Rattle.relation_terms.specs.Trees.{IsBinder, Fits}
use Rattle.relation_terms.specs.Parts.{ArePredicates, IsTermPart, IsTermList}
use Rattle.relation_terms.specs.declared.terms.part_kind.Body.TheVariants.{Signature as SignatureBody, Ty as TyBody}
use Rattle.relation_terms.specs.declared.terms.part_kind.Body.TheVariants.{Existential as ExistentialBody}
use Rattle.relation_terms.specs.declared.terms.part_kind.Part.TheVariants.{Binder, Signature, Inputs, Existential}
use Rattle.relation_terms.specs.declared.terms.part_kind.Part.TheVariants.{Object}
use Rattle.std.proofs.Common.{Some}

-- What is said of a success follows from what is said of it otherwise.
pub if_ok : {A E : Type 0} {P Q : A → Type 0} (r : Result A E) → ((x : A) → P x → Q x) → IfOk r P → IfOk r Q
if_ok (Ok x) f p = f x p
if_ok (Err e) f p = p

-- The list of what a function makes of each of a list.
pub list_count : {K : Type 0} (f : K → Tree) (xs : List K) → count (list_tree f xs) ≡ length xs
list_count f [] = refl
list_count f (x ∷ xs) = ap suc (list_count f xs)

pub list_is : {K : Type 0} (f : K → Tree) (xs : List K) → IsList (list_tree f xs)
list_is f [] = tt
list_is f (x ∷ xs) = list_is f xs

pub list_nth : {K : Type 0} (f : K → Tree) (xs : List K) (i : ℕ) (d : K) → i < length xs →
    nth i (list_tree f xs) ≡ f (get_or xs i d)
list_nth f [] i d h = absurd (omega arith)
list_nth f (x ∷ xs) zero d h = refl
list_nth f (x ∷ xs) (suc i) d h = list_nth f xs i d (omega arith)

pub item_known : {K : Type 0} (f : K → Tree) (xs : List K) (i : ℕ) (d : K) → i < length xs →
    IsTrue (known (list_tree f xs)) → IsTrue (known (f (get_or xs i d)))
item_known f [] i d h k = absurd (omega arith)
item_known f (x ∷ xs) zero d h k = (and_parts (known (f x)) (known (list_tree f xs)) k).0
item_known f (x ∷ xs) (suc i) d h k =
    item_known f xs i d (omega arith) (and_parts (known (f x)) (known (list_tree f xs)) k).1

-- A list of parts `w`, as the slice that an interner reads.
module _ {K : Type 0} (f : K → Tree) (xs : List K) (w : Tree) (e : w ≡ list_tree f xs) where
  pub slice_counts : length xs ≡ count w
  slice_counts = sym (list_count f xs) ∙ ap count (sym e)

  pub slice_list : IsList w
  slice_list = subst IsList (sym e) (list_is f xs)

  pub slice_below : (n : ℕ) → n < count w → n < length xs
  slice_below n h = omega (arith, slice_counts)

  pub slice_sure : IsTrue (known w) → (n : ℕ) (d x : K) → n < count w → x ≡ get_or xs n d → IsTrue (known (f x))
  slice_sure k n d x h q = subst (λ z. IsTrue (known (f z))) (sym q)
      (item_known f xs n d (slice_below n h) (subst (λ t. IsTrue (known t)) e k))

  pub slice_nth : (n : ℕ) (d x : K) → n < count w → x ≡ get_or xs n d → f x ≡ nth n w
  slice_nth n d x h q = ap f q ∙ sym (list_nth f xs n d (slice_below n h)) ∙ ap (nth n) (sym e)

-- Behind a first member.
pub nth_after : (i : ℕ) (t ts : Tree) → (i ≡ 0 → ⊥) → nth (i - 1) ts ≡ nth i (cons t ts)
nth_after zero t ts n = absurd (n refl)
nth_after (suc i) t ts n =
    let e : suc i - 1 ≡ i = omega arith in
    ap (λ k. nth k ts) e

-- A list of types of which the last is apart, as the slice that an interner reads.
module _ {K : Type 0} (f : K → Tree) (xs : List K) (w : Tree) (e : w ≡ list_tree f xs) (k : IsTrue (known (front w))) where
  pub front_counts : length xs - 1 ≡ count (front w)
  front_counts =
      let a = slice_counts f xs w e in
      let b = front_count w k in
      omega (arith, a, b)

  pub front_some : 0 < length xs
  front_some =
      let a = slice_counts f xs w e in
      let b = front_count w k in
      omega (arith, a, b)

  front_inside : (n : ℕ) → n < count (front w) → n < count w
  front_inside n h =
      let b = front_count w k in
      omega (arith, b, h)

  pub front_below : (n : ℕ) → n < count (front w) → n < length xs
  front_below n h = slice_below f xs w e n (front_inside n h)

  pub front_sure : (n : ℕ) (d x : K) → n < count (front w) → x ≡ get_or xs n d → IsTrue (known (f x))
  front_sure n d x h q = slice_sure f xs w e (front_known w k) n d x (front_inside n h) q

  pub front_at : (n : ℕ) (d x : K) → n < count (front w) → x ≡ get_or xs n d → f x ≡ nth n (front w)
  front_at n d x h q = slice_nth f xs w e n d x (front_inside n h) q ∙ sym (front_nth w n k h)

  pub last_sure : (d x : K) → x ≡ get_or xs (length xs - 1) d → IsTrue (known (f x))
  last_sure d x q =
      let a = slice_counts f xs w e in
      let b = front_count w k in
      slice_sure f xs w e (front_known w k) (length xs - 1) d x (omega (arith, a, b)) q

  pub last_at : (d x : K) → x ≡ get_or xs (length xs - 1) d → f x ≡ last w
  last_at d x q =
      let a = slice_counts f xs w e in
      let b = front_count w k in
      slice_nth f xs w e (length xs - 1) d x (omega (arith, a, b)) q
      ∙ ap (λ n. nth n w) front_counts ∙ sym (last_nth w k)

-- One more than a known list is known.
pub known_with_last : {A : Type 0} (f : A → Tree) (xs : List A) (x : A) → IsTrue (known (list_tree f xs)) →
    IsTrue (known (f x)) → IsTrue (known (list_tree f (xs ++ x ∷ [])))
known_with_last f [] x k h = both_true h refl
known_with_last f (y ∷ ys) x k h =
    let p = and_parts (known (f y)) (known (list_tree f ys)) k in
    both_true p.0 (known_with_last f ys x p.1 h)

-- What stands behind the first of a list.
abbrev pub rest_of : {A : Type 0} → List A → List A
rest_of xs = take (length xs - 1) (drop 1 xs)

pub rest_is : {A : Type 0} (x : A) (xs : List A) → rest_of (x ∷ xs) ≡ xs
rest_is x xs =
    let e : length (x ∷ xs) - 1 ≡ length xs = omega arith in
    ap (λ n. take n xs) e ∙ take-length xs

-- Each of a list of arguments is one.
module _ {Key Id : Type 0} where
  pub arg_got : (xs : List (Part Key Id)) (i : ℕ) (d : Part Key Id) → i < length xs → AreArgs xs →
      AreArgs (get_or xs i d ∷ [])
  arg_got [] i d h a = absurd (omega arith)
  arg_got (Region r ∷ xs) zero d h a = tt
  arg_got (Ty t ∷ xs) zero d h a = tt
  arg_got (Const c ∷ xs) zero d h a = tt
  arg_got (Region r ∷ xs) (suc i) d h a = arg_got xs i d (omega arith) a
  arg_got (Ty t ∷ xs) (suc i) d h a = arg_got xs i d (omega arith) a
  arg_got (Const c ∷ xs) (suc i) d h a = arg_got xs i d (omega arith) a
  arg_got (x ∷ xs) i d h a = absurd a

  pub ty_got : (xs : List (Part Key Id)) (i : ℕ) (d : Part Key Id) → i < length xs → AreTys xs →
      part_sort (get_or xs i d) ≡ type_sort
  ty_got [] i d h a = absurd (omega arith)
  ty_got (Ty t ∷ xs) zero d h a = refl
  ty_got (Ty t ∷ xs) (suc i) d h a = ty_got xs i d (omega arith) a
  ty_got (x ∷ xs) i d h a = absurd a

  pub const_got : (xs : List (Part Key Id)) (i : ℕ) (d : Part Key Id) → i < length xs → AreConsts xs →
      part_sort (get_or xs i d) ≡ const_sort
  const_got [] i d h a = absurd (omega arith)
  const_got (Const t ∷ xs) zero d h a = refl
  const_got (Const t ∷ xs) (suc i) d h a = const_got xs i d (omega arith) a
  const_got (x ∷ xs) i d h a = absurd a

  pub pat_got : (xs : List (Part Key Id)) (i : ℕ) (d : Part Key Id) → i < length xs → ArePats xs →
      part_sort (get_or xs i d) ≡ pattern_sort
  pat_got [] i d h a = absurd (omega arith)
  pat_got (Pat t ∷ xs) zero d h a = refl
  pat_got (Pat t ∷ xs) (suc i) d h a = pat_got xs i d (omega arith) a
  pat_got (x ∷ xs) i d h a = absurd a

  pub predicate_got : (xs : List (Part Key Id)) (i : ℕ) (d : Part Key Id) → i < length xs → ArePredicates xs →
      ArePredicates (get_or xs i d ∷ [])
  predicate_got [] i d h a = absurd (omega arith)
  predicate_got (Binder vs (ExistentialBody p) ∷ xs) zero d h a = tt
  predicate_got (Binder vs (ExistentialBody p) ∷ xs) (suc i) d h a = predicate_got xs i d (omega arith) a
  predicate_got (x ∷ xs) i d h a = absurd a

-- One more key of what a list is as parts.
pub mapped_next : {K P : Type 0} (h : K → P) (xs ys : List K) (ps : List P) (i : ℕ) (d x : P) (k : K) →
    map h xs ≡ take i ps → i < length ps → x ≡ get_or ps i d → h k ≡ x → ys ≡ xs ++ k ∷ [] →
    map h ys ≡ take (i + 1) ps
mapped_next h xs ys ps i d x k m l a b e = ap (map h) e ∙ map_push h xs k
    ∙ ap₂ (λ y z. y ++ z ∷ []) m (b ∙ a) ∙ sym (take_more ps i d l)

-- A term, then arguments.
module _ {Key Id : Type 0} where
  pub rest_args : (xs : List (Part Key Id)) → IsTermList xs → AreArgs (rest_of xs)
  rest_args (x ∷ xs) h = subst AreArgs (sym (rest_is x xs)) h.1
  rest_args [] h = absurd h

  pub first_term : (xs : List (Part Key Id)) (d x : Part Key Id) → IsTermList xs → x ≡ get_or xs 0 d → IsTermPart x
  first_term (y ∷ ys) d x h e = subst IsTermPart (sym e) h.0
  first_term [] d x h e = absurd h

  pub some_term : (xs : List (Part Key Id)) → IsTermList xs → 0 < length xs
  some_term (y ∷ ys) h = omega arith
  some_term [] h = absurd h

  pub first_and_rest : (f : Part Key Id → Tree) (xs : List (Part Key Id)) (d x : Part Key Id) → IsTermList xs →
      x ≡ get_or xs 0 d → cons (f x) (list_tree f (rest_of xs)) ≡ list_tree f xs
  first_and_rest f (y ∷ ys) d x h e = ap₂ (λ a b. cons (f a) (list_tree f b)) e (rest_is y ys)
  first_and_rest f [] d x h e = absurd h

-- The tree of what a list of keys is as parts.
module _ {K P : Type 0} (f : K → Tree) (g : P → Tree) (h : K → P) (e : (k : K) → g (h k) ≡ f k) where
  all_mapped : (xs : List K) → list_tree f xs ≡ list_tree g (map h xs)
  all_mapped [] = refl
  all_mapped (x ∷ xs) = ap₂ cons (sym (e x)) (all_mapped xs)

  pub mapped : (xs : List K) (ys : List P) → map h xs ≡ ys → list_tree f xs ≡ list_tree g ys
  mapped xs ys q = all_mapped xs ∙ ap (list_tree g) q

-- The sorts of known trees.
pub region_only : (x : Sort) → Admits region_sort x → x ≡ region_sort
region_only region_sort h = refl
region_only x h = absurd h

pub type_only : (x : Sort) → Admits type_sort x → x ≡ type_sort
type_only type_sort h = refl
type_only x h = absurd h

pub const_only : (x : Sort) → Admits const_sort x → x ≡ const_sort
const_only const_sort h = refl
const_only x h = absurd h

pub value_only : (x : Sort) → Admits value_sort x → x ≡ value_sort
value_only value_sort h = refl
value_only x h = absurd h

pub pattern_only : (x : Sort) → Admits pattern_sort x → x ≡ pattern_sort
pattern_only pattern_sort h = refl
pattern_only x h = absurd h

pub region_term : (t : Tree) → IsTerm region_sort t → tree_sort t ≡ region_sort
region_term (leaf l) h = region_only (leaf_sort l) h
region_term (node g ts) h = region_only (head_sort g) h.0
region_term t h = absurd h

pub type_term : (t : Tree) → IsTerm type_sort t → tree_sort t ≡ type_sort
type_term (leaf l) h = type_only (leaf_sort l) h
type_term (node g ts) h = type_only (head_sort g) h.0
type_term t h = absurd h

pub const_term : (t : Tree) → IsTerm const_sort t → tree_sort t ≡ const_sort
const_term (leaf l) h = const_only (leaf_sort l) h
const_term (node g ts) h = const_only (head_sort g) h.0
const_term t h = absurd h

pub value_term : (t : Tree) → IsTerm value_sort t → tree_sort t ≡ value_sort
value_term (leaf l) h = value_only (leaf_sort l) h
value_term (node g ts) h = value_only (head_sort g) h.0
value_term t h = absurd h

pub pattern_term : (t : Tree) → IsTerm pattern_sort t → tree_sort t ≡ pattern_sort
pattern_term (leaf l) h = pattern_only (leaf_sort l) h
pattern_term (node g ts) h = pattern_only (head_sort g) h.0
pattern_term t h = absurd h

-- No form is a region: one has no parts.
pub no_region : (h : Head) → Admits region_sort (head_sort h) → ⊥
no_region (adt d) q = q
no_region (fn_def d) q = q
no_region (closure d) q = q
no_region (coroutine_closure d) q = q
no_region (coroutine d) q = q
no_region (coroutine_witness d) q = q
no_region array q = q
no_region slice q = q
no_region pattern_type q = q
no_region tuple q = q
no_region unsafe_binder q = q
no_region dynamic q = q
no_region fn_ptr q = q
no_region (raw_ptr m) q = q
no_region (ref m) q = q
no_region (alias k d) q = q
no_region (signature v s a) q = q
no_region inputs q = q
no_region (unevaluated d) q = q
no_region (expression k) q = q
no_region value q = q
no_region value_type q = q
no_region value_branch q = q
no_region range_pattern q = q
no_region or_pattern q = q
no_region arguments q = q
no_region object q = q
no_region (existential_trait d) q = q
no_region (existential_projection d) q = q
no_region (trait_ref d) q = q
no_region (trait_clause p) q = q
no_region (host_effect c) q = q
no_region (subtype x) q = q
no_region (alias_term k d) q = q
no_region region_outlives q = q
no_region type_outlives q = q
no_region projection q = q
no_region const_has_type q = q
no_region well_formed q = q
no_region const_evaluatable q = q
no_region coerce q = q
no_region normalizes_to q = q
no_region (alias_relate d) q = q
no_region environment q = q

pub region_alone : (t : Tree) → IsTerm region_sort t → parts_of t ≡ nil
region_alone (leaf l) h = refl
region_alone (node g ts) h = absurd (no_region g h.0)
region_alone t h = absurd h

-- And its parts, which are none, come in turn.
pub region_in_turn : (t : Tree) → IsTerm region_sort t → order_of t ≡ in_turn
region_in_turn (leaf l) h = refl
region_in_turn (node g ts) h = absurd (no_region g h.0)
region_in_turn t h = absurd h

-- What has no parts is itself over none.
pub over_none : (t us : Tree) → parts_of t ≡ nil → us ≡ nil → over t us ≡ t
over_none (leaf l) us e f = refl
over_none (node g ts) us e f = ap (node g) (f ∙ sym e)
over_none (bind ks t) us e f = absurd (cc)
over_none nil us e f = refl
over_none (cons t ts) us e f = refl

pub existential_only : (x : Sort) → Admits existential_sort x → x ≡ existential_sort
existential_only existential_sort h = refl
existential_only x h = absurd h

-- The sort of what a term of a sort is.
pub term_admits : (s : Sort) (t : Tree) → IsTerm s t → Admits s (tree_sort t)
term_admits s (leaf l) h = h
term_admits s (node g ts) h = h.0
term_admits s t h = absurd h

existential_term : (t : Tree) → IsTerm existential_sort t → tree_sort t ≡ existential_sort
existential_term t h = existential_only (tree_sort t) (term_admits existential_sort t h)

binder_term : (t : Tree) → IsBinder existential_sort t → tree_sort t ≡ binder_sort existential_sort
binder_term (bind ks t) h = ap binder_sort (existential_term t h)
binder_term t h = absurd h

-- What is a list of terms, and each of them.
pub terms_list : (s : Sort) (ts : Tree) → AreTerms s ts → IsList ts
terms_list s nil h = tt
terms_list s (cons t ts) h = terms_list s ts h.1
terms_list s t h = absurd h

pub term_nth : (s : Sort) (ts : Tree) (i : ℕ) → i < count ts → AreTerms s ts → IsTerm s (nth i ts)
term_nth s (cons t ts) zero l h = h.0
term_nth s (cons t ts) (suc i) l h = term_nth s ts i (omega (arith, l)) h.1
term_nth s t i l h = absurd (omega (arith, l))

module _ {Key Id : Type 0} where
  one_arg : (x : Part Key Id) (s : Sort) → part_sort x ≡ s → Admits argument_sort s → AreArgs (x ∷ [])
  one_arg (Region r) s e a = tt
  one_arg (Ty t) s e a = tt
  one_arg (Const c) s e a = tt
  one_arg (Binder vs (SignatureBody s)) u e a = subst (Admits argument_sort) (sym e) a
  one_arg (Binder vs (TyBody t)) u e a = subst (Admits argument_sort) (sym e) a
  one_arg (Binder vs (ExistentialBody p)) u e a = subst (Admits argument_sort) (sym e) a
  one_arg x s e a = subst (Admits argument_sort) (sym e) a

  more_args : (x : Part Key Id) (xs : List (Part Key Id)) → AreArgs (x ∷ []) → AreArgs xs → AreArgs (x ∷ xs)
  more_args (Region r) xs a b = b
  more_args (Ty t) xs a b = b
  more_args (Const c) xs a b = b
  more_args x xs a b = absurd a

  pub fit_args : (xs : List (Part Key Id)) (ts : Tree) → Fit xs ts → AreTerms argument_sort ts → AreArgs xs
  fit_args [] ts f a = tt
  fit_args (x ∷ xs) (cons t ts) f a =
      more_args x xs (one_arg x (tree_sort t) f.0 (term_admits argument_sort t a.0)) (fit_args xs ts f.1 a.1)
  fit_args (x ∷ xs) ts f a = absurd f

  pub fit_tys : (xs : List (Part Key Id)) (ts : Tree) → Fit xs ts → AreTerms type_sort ts → AreTys xs
  fit_tys [] ts f a = tt
  fit_tys (Ty x ∷ xs) (cons t ts) f a = fit_tys xs ts f.1 a.1
  fit_tys (Region x ∷ xs) (cons t ts) f a = absurd (let q = f.0 ∙ type_term t a.0 in cc)
  fit_tys (Const x ∷ xs) (cons t ts) f a = absurd (let q = f.0 ∙ type_term t a.0 in cc)
  fit_tys (ValTree x ∷ xs) (cons t ts) f a = absurd (let q = f.0 ∙ type_term t a.0 in cc)
  fit_tys (Pat x ∷ xs) (cons t ts) f a = absurd (let q = f.0 ∙ type_term t a.0 in cc)
  fit_tys (ValueType x ∷ xs) (cons t ts) f a = absurd (let q = f.0 ∙ type_term t a.0 in cc)
  fit_tys (Binder vs b ∷ xs) (cons t ts) f a = absurd (let q = f.0 ∙ type_term t a.0 in cc)
  fit_tys (Signature g ∷ xs) (cons t ts) f a = absurd (let q = f.0 ∙ type_term t a.0 in cc)
  fit_tys (Inputs g ∷ xs) (cons t ts) f a = absurd (let q = f.0 ∙ type_term t a.0 in cc)
  fit_tys (Existential g ∷ xs) (cons t ts) f a = absurd (let q = f.0 ∙ type_term t a.0 in cc)
  fit_tys (Object g ∷ xs) (cons t ts) f a = absurd (let q = f.0 ∙ type_term t a.0 in cc)
  fit_tys (x ∷ xs) ts f a = absurd f

  pub fit_consts : (xs : List (Part Key Id)) (ts : Tree) → Fit xs ts → AreTerms const_sort ts → AreConsts xs
  fit_consts [] ts f a = tt
  fit_consts (Const x ∷ xs) (cons t ts) f a = fit_consts xs ts f.1 a.1
  fit_consts (Region x ∷ xs) (cons t ts) f a = absurd (let q = f.0 ∙ const_term t a.0 in cc)
  fit_consts (Ty x ∷ xs) (cons t ts) f a = absurd (let q = f.0 ∙ const_term t a.0 in cc)
  fit_consts (ValTree x ∷ xs) (cons t ts) f a = absurd (let q = f.0 ∙ const_term t a.0 in cc)
  fit_consts (Pat x ∷ xs) (cons t ts) f a = absurd (let q = f.0 ∙ const_term t a.0 in cc)
  fit_consts (ValueType x ∷ xs) (cons t ts) f a = absurd (let q = f.0 ∙ const_term t a.0 in cc)
  fit_consts (Binder vs b ∷ xs) (cons t ts) f a = absurd (let q = f.0 ∙ const_term t a.0 in cc)
  fit_consts (Signature g ∷ xs) (cons t ts) f a = absurd (let q = f.0 ∙ const_term t a.0 in cc)
  fit_consts (Inputs g ∷ xs) (cons t ts) f a = absurd (let q = f.0 ∙ const_term t a.0 in cc)
  fit_consts (Existential g ∷ xs) (cons t ts) f a = absurd (let q = f.0 ∙ const_term t a.0 in cc)
  fit_consts (Object g ∷ xs) (cons t ts) f a = absurd (let q = f.0 ∙ const_term t a.0 in cc)
  fit_consts (x ∷ xs) ts f a = absurd f

  pub fit_pats : (xs : List (Part Key Id)) (ts : Tree) → Fit xs ts → AreTerms pattern_sort ts → ArePats xs
  fit_pats [] ts f a = tt
  fit_pats (Pat x ∷ xs) (cons t ts) f a = fit_pats xs ts f.1 a.1
  fit_pats (Region x ∷ xs) (cons t ts) f a = absurd (let q = f.0 ∙ pattern_term t a.0 in cc)
  fit_pats (Ty x ∷ xs) (cons t ts) f a = absurd (let q = f.0 ∙ pattern_term t a.0 in cc)
  fit_pats (Const x ∷ xs) (cons t ts) f a = absurd (let q = f.0 ∙ pattern_term t a.0 in cc)
  fit_pats (ValTree x ∷ xs) (cons t ts) f a = absurd (let q = f.0 ∙ pattern_term t a.0 in cc)
  fit_pats (ValueType x ∷ xs) (cons t ts) f a = absurd (let q = f.0 ∙ pattern_term t a.0 in cc)
  fit_pats (Binder vs b ∷ xs) (cons t ts) f a = absurd (let q = f.0 ∙ pattern_term t a.0 in cc)
  fit_pats (Signature g ∷ xs) (cons t ts) f a = absurd (let q = f.0 ∙ pattern_term t a.0 in cc)
  fit_pats (Inputs g ∷ xs) (cons t ts) f a = absurd (let q = f.0 ∙ pattern_term t a.0 in cc)
  fit_pats (Existential g ∷ xs) (cons t ts) f a = absurd (let q = f.0 ∙ pattern_term t a.0 in cc)
  fit_pats (Object g ∷ xs) (cons t ts) f a = absurd (let q = f.0 ∙ pattern_term t a.0 in cc)
  fit_pats (x ∷ xs) ts f a = absurd f

  pub fit_predicates : (xs : List (Part Key Id)) (ts : Tree) → Fit xs ts →
      Fits (row [] (Some (binder_of existential_sort))) ts → ArePredicates xs
  fit_predicates [] ts f a = tt
  fit_predicates (Binder vs (ExistentialBody p) ∷ xs) (cons t ts) f a = fit_predicates xs ts f.1 a.1
  fit_predicates (Binder vs (SignatureBody g) ∷ xs) (cons t ts) f a = absurd (let q = f.0 ∙ binder_term t a.0 in cc)
  fit_predicates (Binder vs (TyBody g) ∷ xs) (cons t ts) f a = absurd (let q = f.0 ∙ binder_term t a.0 in cc)
  fit_predicates (Region x ∷ xs) (cons t ts) f a = absurd (let q = f.0 ∙ binder_term t a.0 in cc)
  fit_predicates (Ty x ∷ xs) (cons t ts) f a = absurd (let q = f.0 ∙ binder_term t a.0 in cc)
  fit_predicates (Const x ∷ xs) (cons t ts) f a = absurd (let q = f.0 ∙ binder_term t a.0 in cc)
  fit_predicates (ValTree x ∷ xs) (cons t ts) f a = absurd (let q = f.0 ∙ binder_term t a.0 in cc)
  fit_predicates (Pat x ∷ xs) (cons t ts) f a = absurd (let q = f.0 ∙ binder_term t a.0 in cc)
  fit_predicates (ValueType x ∷ xs) (cons t ts) f a = absurd (let q = f.0 ∙ binder_term t a.0 in cc)
  fit_predicates (Signature x ∷ xs) (cons t ts) f a = absurd (let q = f.0 ∙ binder_term t a.0 in cc)
  fit_predicates (Inputs x ∷ xs) (cons t ts) f a = absurd (let q = f.0 ∙ binder_term t a.0 in cc)
  fit_predicates (Existential x ∷ xs) (cons t ts) f a = absurd (let q = f.0 ∙ binder_term t a.0 in cc)
  fit_predicates (Object x ∷ xs) (cons t ts) f a = absurd (let q = f.0 ∙ binder_term t a.0 in cc)
  fit_predicates (x ∷ xs) ts f a = absurd f

  -- A part of a predicate's term, and the arguments behind it.
  term_part : (x : Part Key Id) (s : Sort) → part_sort x ≡ s → Admits term_sort s → IsTermPart x
  term_part (Ty t) s e a = tt
  term_part (Const c) s e a = tt
  term_part (Binder vs (SignatureBody s)) u e a = subst (Admits term_sort) (sym e) a
  term_part (Binder vs (TyBody t)) u e a = subst (Admits term_sort) (sym e) a
  term_part (Binder vs (ExistentialBody p)) u e a = subst (Admits term_sort) (sym e) a
  term_part x s e a = subst (Admits term_sort) (sym e) a

  pub fit_term_args : (xs : List (Part Key Id)) (ts : Tree) → Fit xs ts →
      Fits (row (term_of term_sort ∷ []) (Some (term_of argument_sort))) ts → IsTermList xs
  fit_term_args [] (cons t ts) f a = absurd f
  fit_term_args [] (leaf l) f a = absurd f
  fit_term_args [] (node g ts) f a = absurd f
  fit_term_args [] (bind ks t) f a = absurd f
  fit_term_args [] nil f a = absurd a
  fit_term_args (x ∷ xs) (cons t ts) f a =
      (term_part x (tree_sort t) f.0 (term_admits term_sort t a.0), fit_args xs ts f.1 a.1)
  fit_term_args (x ∷ xs) ts f a = absurd f

  pub fit_none : (f : Part Key Id → Tree) (xs : List (Part Key Id)) → Fit xs nil → list_tree f xs ≡ nil
  fit_none f [] h = refl
  fit_none f (x ∷ xs) h = absurd h

-- Each tree has a size.
pub size_positive : (t : Tree) → 1 ≤ size t
size_positive (leaf l) = omega arith
size_positive (node h ts) = omega arith
size_positive (bind ks t) = omega arith
size_positive nil = omega arith
size_positive (cons t ts) = omega arith

-- A member is smaller than its list, and the list of a term's parts no larger than the term.
pub member_small : (ts : Tree) (i : ℕ) → i < count ts → size (nth i ts) < size ts
member_small (cons t ts) zero h = omega arith
member_small (cons t ts) (suc i) h = let e = member_small ts i (omega arith) in omega (arith, e)
member_small (leaf l) i h = absurd (omega arith)
member_small (node a l) i h = absurd (omega arith)
member_small (bind ks l) i h = absurd (omega arith)
member_small nil i h = absurd (omega arith)

pub parts_small : (t : Tree) → size (parts_of t) ≤ size t
parts_small (leaf l) = omega arith
parts_small (node h ts) = omega arith
parts_small (bind ks t) = omega arith
parts_small nil = omega arith
parts_small (cons t ts) = omega arith
