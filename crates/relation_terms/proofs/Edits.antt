-- Lists of arguments that are cut, joined and made: what is known of them, of which sort they are, and as lists.
use Rattle.std.proofs.Common.{◌≡◌, ℕ, zero, suc, ◌≤◌, IsTrue, List, [], ◌∷◌, ◌++◌, take, drop, length, refl, sym, ap, ◌∙◌}
use Rattle.std.proofs.Common.{arith, ◌-◌, get_or, subst}
use Rattle.std.proofs.lemmas.List.{length-drop}
use Rattle.std.proofs.Math.Seq.{take-length}
use Rattle.std.proofs.lemmas.Bool.{and_parts}
use Rattle.std.specs.Cmp.Derive.{both_true}
use Rattle.relation_terms.specs.Heads.{Sort, BoundKind, bound_kind, region_kind, type_kind, const_kind}
use Rattle.relation_terms.specs.Heads.{argument_sort, type_sort}
use Rattle.relation_terms.specs.Trees.{Tree, leaf, node, bind, nil, cons, known, list_tree, nth, IsTerm, AreTerms, IsList}
use Rattle.relation_terms.specs.Parts.{tree_sort}
use Rattle.relation_terms.specs.Meaning.{Meaning, Extends, arg_tree}
use Rattle.relation_terms.specs.Edits.{first_of, behind_first, put_before, with_first, param_tree, params_from}
use Rattle.relation_terms.specs.Edits.{error_tree, error_trees, HasSelf}
use Rattle.relation_terms.specs.declared.terms.generic_arg.GenericArgKind.{GenericArgKind}
use Rattle.relation_terms.specs.declared.terms.keys.RegionKey.{RegionKey}
use Rattle.relation_terms.specs.declared.terms.keys.ConstKey.{ConstKey}
use Rattle.relation_terms.specs.Interning.{Sorted}
use Rattle.relation_terms.proofs.Stays.{stays_arg, stays_list}
use Rattle.relation_terms.proofs.Members.{region_term, const_term}

-- What is known of a list is known of its first members, and of those behind them.
pub known_first : (n : ℕ) (ts : Tree) → IsTrue (known ts) → IsTrue (known (first_of n ts))
known_first zero ts k = refl
known_first (suc n) (cons t ts) k =
    let p = and_parts (known t) (known ts) k in
    both_true p.0 (known_first n ts p.1)
known_first (suc n) (leaf l) k = refl
known_first (suc n) (node h ts) k = refl
known_first (suc n) (bind ks t) k = refl
known_first (suc n) nil k = refl

pub known_behind : (n : ℕ) (ts : Tree) → IsTrue (known ts) → IsTrue (known (behind_first n ts))
known_behind zero ts k = k
known_behind (suc n) (cons t ts) k = known_behind n ts (and_parts (known t) (known ts) k).1
known_behind (suc n) (leaf l) k = refl
known_behind (suc n) (node h ts) k = refl
known_behind (suc n) (bind ks t) k = refl
known_behind (suc n) nil k = refl

-- Two known lists, one before the other; and a known list with another first member.
pub known_before : (ts us : Tree) → IsTrue (known ts) → IsTrue (known us) → IsTrue (known (put_before ts us))
known_before (cons t ts) us k h =
    let p = and_parts (known t) (known ts) k in
    both_true p.0 (known_before ts us p.1 h)
known_before (leaf l) us k h = h
known_before (node x ts) us k h = h
known_before (bind ks t) us k h = h
known_before nil us k h = h

pub known_with : (t ts : Tree) → IsTrue (known t) → IsTrue (known ts) → IsTrue (known (with_first t ts))
known_with t ts k h = both_true k (known_behind 1 ts h)

-- Parameters and errors in their places are known.
pub known_param : (i : ℕ) (k : BoundKind) → IsTrue (known (param_tree i k))
known_param i (bound_kind region_kind n) = refl
known_param i (bound_kind type_kind n) = refl
known_param i (bound_kind const_kind n) = refl

pub known_params : (i : ℕ) (ks : List BoundKind) → IsTrue (known (params_from i ks))
known_params i [] = refl
known_params i (k ∷ ks) = both_true (known_param i k) (known_params (suc i) ks)

pub known_error : (k : BoundKind) → IsTrue (known (error_tree k))
known_error (bound_kind region_kind n) = refl
known_error (bound_kind type_kind n) = refl
known_error (bound_kind const_kind n) = refl

pub known_errors : (ks : List BoundKind) → IsTrue (known (error_trees ks))
known_errors [] = refl
known_errors (k ∷ ks) = both_true (known_error k) (known_errors ks)

-- Of a list of terms of a sort the first members are such, and those behind them.
pub terms_first : (s : Sort) (n : ℕ) (ts : Tree) → AreTerms s ts → AreTerms s (first_of n ts)
terms_first s zero ts h = tt
terms_first s (suc n) (cons t ts) h = (h.0, terms_first s n ts h.1)
terms_first s (suc n) (leaf l) h = absurd h
terms_first s (suc n) (node x ts) h = absurd h
terms_first s (suc n) (bind ks t) h = absurd h
terms_first s (suc n) nil h = tt

pub terms_behind : (s : Sort) (n : ℕ) (ts : Tree) → AreTerms s ts → AreTerms s (behind_first n ts)
terms_behind s zero ts h = h
terms_behind s (suc n) (cons t ts) h = terms_behind s n ts h.1
terms_behind s (suc n) (leaf l) h = absurd h
terms_behind s (suc n) (node x ts) h = absurd h
terms_behind s (suc n) (bind ks t) h = absurd h
terms_behind s (suc n) nil h = tt

-- Two lists of such terms, one before the other; and one with another first member.
pub terms_before : (s : Sort) (ts us : Tree) → AreTerms s ts → AreTerms s us → AreTerms s (put_before ts us)
terms_before s (cons t ts) us h i = (h.0, terms_before s ts us h.1 i)
terms_before s nil us h i = i
terms_before s ts us h i = absurd h

pub terms_with : (s : Sort) (t ts : Tree) → IsTerm s t → AreTerms s ts → AreTerms s (with_first t ts)
terms_with s t ts h i = (h, terms_behind s 1 ts i)

-- Parameters and errors are arguments.
pub param_is_arg : (i : ℕ) (k : BoundKind) → IsTerm argument_sort (param_tree i k)
param_is_arg i (bound_kind region_kind n) = tt
param_is_arg i (bound_kind type_kind n) = tt
param_is_arg i (bound_kind const_kind n) = tt

pub params_are_args : (i : ℕ) (ks : List BoundKind) → AreTerms argument_sort (params_from i ks)
params_are_args i [] = tt
params_are_args i (k ∷ ks) = (param_is_arg i k, params_are_args (suc i) ks)

pub error_is_arg : (k : BoundKind) → IsTerm argument_sort (error_tree k)
error_is_arg (bound_kind region_kind n) = tt
error_is_arg (bound_kind type_kind n) = tt
error_is_arg (bound_kind const_kind n) = tt

pub errors_are_args : (ks : List BoundKind) → AreTerms argument_sort (error_trees ks)
errors_are_args [] = tt
errors_are_args (k ∷ ks) = (error_is_arg k, errors_are_args ks)

-- The trees of a list's first members, of those behind them, and of two lists.
module _ {A : Type 0} (f : A → Tree) where
  pub list_first : (n : ℕ) (xs : List A) → list_tree f (take n xs) ≡ first_of n (list_tree f xs)
  list_first zero xs = refl
  list_first (suc n) [] = refl
  list_first (suc n) (x ∷ xs) = ap (cons (f x)) (list_first n xs)

  pub list_behind : (n : ℕ) (xs : List A) → list_tree f (drop n xs) ≡ behind_first n (list_tree f xs)
  list_behind zero xs = refl
  list_behind (suc n) [] = refl
  list_behind (suc n) (x ∷ xs) = list_behind n xs

  pub list_before : (xs ys : List A) → list_tree f (xs ++ ys) ≡ put_before (list_tree f xs) (list_tree f ys)
  list_before [] ys = refl
  list_before (x ∷ xs) ys = ap (cons (f x)) (list_before xs ys)

  -- All members are the first, and behind them there is none.
  pub list_all : (n : ℕ) (xs : List A) → length xs ≤ n → list_tree f xs ≡ first_of n (list_tree f xs)
  list_all zero [] h = refl
  list_all zero (x ∷ xs) h = absurd (omega arith)
  list_all (suc n) [] h = refl
  list_all (suc n) (x ∷ xs) h = ap (cons (f x)) (list_all n xs (omega arith))

  pub list_none : (n : ℕ) (xs : List A) → length xs ≤ n → nil ≡ behind_first n (list_tree f xs)
  list_none zero [] h = refl
  list_none zero (x ∷ xs) h = absurd (omega arith)
  list_none (suc n) [] h = refl
  list_none (suc n) (x ∷ xs) h = list_none n xs (omega arith)

  -- What a slice behind the first members has.
  pub list_rest : (n : ℕ) (xs : List A) → list_tree f (take (length xs - n) (drop n xs)) ≡ behind_first n (list_tree f xs)
  list_rest n xs = ap (λ k. list_tree f (take k (drop n xs))) (sym (length-drop n xs))
      ∙ ap (list_tree f) (take-length (drop n xs)) ∙ list_behind n xs

  -- A list before nothing.
  pub list_nothing_before : (xs : List A) → put_before (list_tree f xs) nil ≡ list_tree f xs
  list_nothing_before [] = refl
  list_nothing_before (x ∷ xs) = ap (cons (f x)) (list_nothing_before xs)

-- A known list of arguments keeps its trees while an interner grows.
pub stays_args : {Key Id Name : Type 0} {m n : Meaning Key Id Name} (e : Extends m n) (xs : List (GenericArgKind Key)) →
    IsTrue (known (list_tree (arg_tree m) xs)) → list_tree (arg_tree n) xs ≡ list_tree (arg_tree m) xs
stays_args {m = m} {n = n} e xs k = stays_list (arg_tree m) (arg_tree n) xs (stays_arg e) k

-- A list that begins with a type is that type and what stands behind it; and a list that a type is put before begins so.
pub self_and_rest : (ts : Tree) → HasSelf ts → cons (nth 0 ts) (behind_first 1 ts) ≡ ts
self_and_rest (cons t ts) h = refl
self_and_rest (leaf l) h = absurd h
self_and_rest (node x ts) h = absurd h
self_and_rest (bind ks t) h = absurd h
self_and_rest nil h = absurd h

pub self_sort : (ts : Tree) → HasSelf ts → tree_sort (nth 0 ts) ≡ type_sort
self_sort (cons t ts) h = h
self_sort (leaf l) h = absurd h
self_sort (node x ts) h = absurd h
self_sort (bind ks t) h = absurd h
self_sort nil h = absurd h

pub known_self : (ts : Tree) → HasSelf ts → IsTrue (known ts) → IsTrue (known (nth 0 ts))
known_self (cons t ts) h k = (and_parts (known t) (known ts) k).0
known_self (leaf l) h k = absurd h
known_self (node x ts) h k = absurd h
known_self (bind ks t) h k = absurd h
known_self nil h k = absurd h

-- The first members of a list, and those behind them, are all.
pub first_and_behind : (n : ℕ) (ts : Tree) → IsList ts → put_before (first_of n ts) (behind_first n ts) ≡ ts
first_and_behind zero ts h = refl
first_and_behind (suc n) (cons t ts) h = ap (cons t) (first_and_behind n ts h)
first_and_behind (suc n) nil h = refl
first_and_behind (suc n) (leaf l) h = absurd h
first_and_behind (suc n) (node x ts) h = absurd h
first_and_behind (suc n) (bind ks t) h = absurd h

-- The first of a list that begins with a type.
pub first_known : {A : Type 0} (f : A → Tree) (xs : List A) (d x : A) → HasSelf (list_tree f xs) → x ≡ get_or xs 0 d →
    IsTrue (known (list_tree f xs)) → IsTrue (known (f x))
first_known f [] d x h e k = absurd h
first_known f (y ∷ ys) d x h e k =
    subst (λ z. IsTrue (known (f z))) (sym e) (and_parts (known (f y)) (known (list_tree f ys)) k).0

pub first_sort : {A : Type 0} (f : A → Tree) (xs : List A) (d x : A) → HasSelf (list_tree f xs) → x ≡ get_or xs 0 d →
    tree_sort (f x) ≡ type_sort
first_sort f [] d x h e = absurd h
first_sort f (y ∷ ys) d x h e = ap (λ z. tree_sort (f z)) e ∙ h

-- No region is a type, and no constant.
pub no_region : {Key Id Name : Type 0} (m : Meaning Key Id Name) → Sorted m → (r : RegionKey Key) →
    IsTrue (known (m.region r)) → tree_sort (m.region r) ≡ type_sort → ⊥
no_region m s r k e = let h = region_term (m.region r) (s.region r k) in cc

pub no_const : {Key Id Name : Type 0} (m : Meaning Key Id Name) → Sorted m → (c : ConstKey Key) →
    IsTrue (known (m.const_ c)) → tree_sort (m.const_ c) ≡ type_sort → ⊥
no_const m s c k e = let h = const_term (m.const_ c) (s.const_ c k) in cc
