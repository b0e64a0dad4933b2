-- When two variable-free trees are related, at a variance, in an environment, under an interpretation.
--
--   Rel c w e (at v) a b                    a and b are related at v, in environment e, under interpretation w; c
--                                           declares items' variances
--   Rel c w e (parts h i v) xs ys           so are parts of a form h that stands at v, from place i on
--   Rel c w e (second_opened ks ls v) a b   so are two bodies, by placeholders for the second's variables and values
--                                           for the first's
--   Rel c w e (first_opened ks ls v) a b    the same the other way round
--   Items                                   the variances that items declare of their parameters
--   mode c h i                              the variance of the part of h at place i, seen from h's own
--   part_at c h i v                         the variance at which that part is related where h stands at v
--   plain h                                 a form without what relating does not look at; plain_atom x the same of one
--                                           without parts
--   IsRelatedHead h                         a form that is related by its parts, and not with itself alone
--   sort_of t                               the sort of a tree
--   IsError t                               a type or constant that stands for an error
--   IsAlias t                               an alias type or an unevaluated constant
--   Interpretation                          which regions outlive which, and which terms are equal or in order
--   Outlives w a b                          region a outlives b
--   RegionRule w v a b                      what relates two regions at v
--   AliasRule w e v a b                     what relates two types at v of which one is an alias
--   StaysWithin d t                         no variable escapes the binders of t and d more
--   IsValue s t                             a variable-free term of sort s
--   FitKinds ks ts                          a value for each variable of a binder
--   Fresh ks ps a b                         a placeholder for each, which stands neither in a nor in b
use Rattle.std.specs.Prelude.{◌≡◌, ◌≢◌, ◌⊎◌, ℕ, zero, suc, ◌<◌, List, [], ◌∷◌, Option, Some, None, Contains}
use Rattle.term_enums.specs.declared.Variance.{Variance}
use Rattle.term_enums.specs.declared.Variance.TheVariants.{Covariant, Contravariant, Invariant}
use Rattle.term_enums.specs.declared.Variance.TheVariants.{Bivariant}
use Rattle.term_enums.specs.declared.Mutability.{Mutability}
use Rattle.term_enums.specs.declared.Mutability.TheVariants.{Not, Mut}
use Rattle.term_enums.specs.Variances.{xform}
use Rattle.relation_terms.specs.Heads.{Sort, region_sort, type_sort, const_sort, no_sort, BoundKind, bound_sort}
use Rattle.relation_terms.specs.Heads.{leaf_sort, head_sort, projection_alias, opaque_alias, AliasTermKind, type_alias}
use Rattle.relation_terms.specs.Heads.{Atom, type_error, const_error, fresh_type, fresh_int, fresh_float, fresh_const}
use Rattle.relation_terms.specs.Heads.{type_param, const_param, Head, adt, fn_def, closure, coroutine_closure}
use Rattle.relation_terms.specs.Heads.{coroutine, coroutine_witness, raw_ptr, ref, alias, signature, unevaluated}
use Rattle.relation_terms.specs.Heads.{expression, value_type, arguments, existential_trait, existential_projection}
use Rattle.relation_terms.specs.Heads.{trait_ref, host_effect, subtype, alias_term, region_outlives, type_outlives}
use Rattle.relation_terms.specs.Heads.{projection, const_has_type, well_formed, const_evaluatable, coerce}
use Rattle.relation_terms.specs.Heads.{normalizes_to, alias_relate, environment, Leaf, variable, bound, placeholder}
use Rattle.relation_terms.specs.Heads.{atom, unknown}
use Rattle.relation_terms.specs.Trees.{Tree, leaf, node, bind, nil, cons, inst, Leaves, IsTerm}

-- The declared variances of the parameters of items, by item and place; of an alias only where it has any.
pub record Items : Type 0 where
  pub declared : ℕ → ℕ → Variance
  pub of_alias : ℕ → Option (ℕ → Variance)

-- The variance of the argument at a place of an alias type.
abbrev pub alias_variance : Option (ℕ → Variance) → ℕ → Variance
alias_variance None i = Invariant
alias_variance (Some f) i = f i

-- The variance of the argument at a place of an alias term: an opaque type's are declared, all others invariant.
abbrev pub alias_term_variance : Items → AliasTermKind → ℕ → ℕ → Variance
alias_term_variance c (type_alias opaque_alias) d i = c.declared d i
alias_term_variance c k d i = Invariant

-- The inputs of a signature are turned round, its output is not.
abbrev pub signature_variance : ℕ → Variance
signature_variance zero = Contravariant
signature_variance (suc i) = Covariant

-- How a pointee varies with its pointer.
abbrev pub pointee_variance : Mutability → Variance
pointee_variance Not = Covariant
pointee_variance Mut = Invariant

-- A reference's region stands at the reference's own variance.
abbrev pub reference_variance : Mutability → ℕ → Variance
reference_variance m zero = Covariant
reference_variance m (suc i) = pointee_variance m

-- The variance of the part at place `i` of a form, itself seen at covariance.
abbrev pub mode : Items → Head → ℕ → Variance
mode c (adt d) i = c.declared d i
mode c (fn_def d) i = c.declared d i
mode c (closure d) i = Invariant
mode c (coroutine_closure d) i = Invariant
mode c (coroutine d) i = Invariant
mode c (coroutine_witness d) i = Invariant
mode c (raw_ptr m) i = pointee_variance m
mode c (ref m) i = reference_variance m i
mode c (signature x s y) i = signature_variance i
mode c (alias k d) i = alias_variance (c.of_alias d) i
mode c (alias_term k d) i = alias_term_variance c k d i
mode c (existential_trait d) i = Invariant
mode c (existential_projection d) i = Invariant
mode c (trait_ref d) i = Invariant
mode c arguments i = Invariant
mode c (unevaluated d) i = Invariant
mode c (expression k) i = Invariant
mode c h i = Covariant

-- The variance at which that part is related where the form stands at `v`. The type of a value is never looked
-- at, at whatever variance.
abbrev pub part_at : Items → Head → ℕ → Variance → Variance
part_at c value_type i v = Bivariant
part_at c h i v = xform v (mode c h i)

-- The kind of an alias term as far as relating looks at it.
abbrev pub plain_kind : AliasTermKind → AliasTermKind
plain_kind (type_alias opaque_alias) = type_alias opaque_alias
plain_kind k = type_alias projection_alias

-- A form without what relating does not look at: the kind of an alias beside its id.
abbrev pub plain : Head → Head
plain (alias k d) = alias projection_alias d
plain (alias_term k d) = alias_term (plain_kind k) d
plain h = h

-- The same for a form without parts: the name of a type or constant parameter beside its index.
abbrev pub plain_atom : Atom → Atom
plain_atom (type_param i name) = type_param i 0
plain_atom (const_param i name) = const_param i 0
plain_atom x = x

-- The forms that are related by their parts. The others are related with themselves alone.
abbrev pub IsRelatedHead : Head → Type 0
IsRelatedHead (host_effect c) = ⊥
IsRelatedHead (subtype x) = ⊥
IsRelatedHead region_outlives = ⊥
IsRelatedHead type_outlives = ⊥
IsRelatedHead projection = ⊥
IsRelatedHead const_has_type = ⊥
IsRelatedHead well_formed = ⊥
IsRelatedHead const_evaluatable = ⊥
IsRelatedHead coerce = ⊥
IsRelatedHead normalizes_to = ⊥
IsRelatedHead (alias_relate d) = ⊥
IsRelatedHead environment = ⊥
IsRelatedHead h = Unit {0}

-- The sort of a tree; a list and a binder are terms of none.
abbrev pub sort_of : Tree → Sort
sort_of (leaf l) = leaf_sort l
sort_of (node h ts) = head_sort h
sort_of (bind ks t) = no_sort
sort_of nil = no_sort
sort_of (cons t ts) = no_sort

-- A type error or a constant error.
abbrev pub IsErrorAtom : Atom → Type 0
IsErrorAtom type_error = Unit {0}
IsErrorAtom const_error = Unit {0}
IsErrorAtom x = ⊥

-- A type or constant that stands for an error.
abbrev pub IsError : Tree → Type 0
IsError (leaf (atom x)) = IsErrorAtom x
IsError t = ⊥

-- The form of an alias type or of an unevaluated constant.
abbrev pub IsAliasHead : Head → Type 0
IsAliasHead (alias k d) = Unit {0}
IsAliasHead (unevaluated d) = Unit {0}
IsAliasHead h = ⊥

-- An alias type or an unevaluated constant.
abbrev pub IsAlias : Tree → Type 0
IsAlias (node h ts) = IsAliasHead h
IsAlias t = ⊥

-- An interpretation as finite data: which regions outlive which, `None` for all of all, and per environment
-- which terms are equal, and which is a subtype of which, in each pair an alias or an unevaluated constant.
pub record Interpretation : Type 0 where
  pub outlives : Option (List (Tree × Tree))
  pub equal : List (Tree × Tree × Tree)
  pub ordered : List (Tree × Tree × Tree)

-- The reflexive and transitive relation that an interpretation's pairs of regions generate.
pub data Outlives (w : Interpretation) : Tree → Tree → Type 0 where
  all_outlive : {a b : Tree} → w.outlives ≡ None → Outlives w a b
  given : {a b : Tree} (pairs : List (Tree × Tree)) → w.outlives ≡ Some pairs → Contains pairs (a, b) → Outlives w a b
  itself : {a b : Tree} → a ≡ b → Outlives w a b
  through : {a b c : Tree} → Outlives w a b → Outlives w b c → Outlives w a c

-- An equal pair of an environment.
abbrev pub IsEqualPair : Interpretation → Tree → Tree → Tree → Type 0
IsEqualPair w e a b = (Contains w.equal (e, a, b) ⊎ Contains w.equal (e, b, a)) × (IsAlias a ⊎ IsAlias b)

-- An ordered pair of an environment.
abbrev pub IsOrderedPair : Interpretation → Tree → Tree → Tree → Type 0
IsOrderedPair w e a b = Contains w.ordered (e, a, b) × (IsAlias a ⊎ IsAlias b)

-- What relates two regions at a variance.
abbrev pub RegionRule : Interpretation → Variance → Tree → Tree → Type 0
RegionRule w Covariant a b = Outlives w a b
RegionRule w Contravariant a b = Outlives w b a
RegionRule w Invariant a b = Outlives w a b × Outlives w b a
RegionRule w Bivariant a b = Unit {0}

-- What relates two types, one an alias, at a variance.
abbrev pub AliasRule : Interpretation → Tree → Variance → Tree → Tree → Type 0
AliasRule w e Covariant a b = IsOrderedPair w e a b
AliasRule w e Contravariant a b = IsOrderedPair w e b a
AliasRule w e Invariant a b = IsEqualPair w e a b
AliasRule w e Bivariant a b = Unit {0}

-- A stand-in for a variable is no value.
abbrev pub IsValueAtom : Atom → Type 0
IsValueAtom (fresh_type n) = ⊥
IsValueAtom (fresh_int n) = ⊥
IsValueAtom (fresh_float n) = ⊥
IsValueAtom (fresh_const n) = ⊥
IsValueAtom x = Unit {0}

-- No variable, and nothing that stands for one.
abbrev pub IsValueLeaf : Leaf → Type 0
IsValueLeaf (variable k n) = ⊥
IsValueLeaf (bound k d i) = Unit {0}
IsValueLeaf (placeholder k u n) = Unit {0}
IsValueLeaf (atom x) = IsValueAtom x
IsValueLeaf unknown = ⊥

-- No variable bound further out than the tree's own binders, `depth` of them being passed already.
abbrev pub StaysWithin : ℕ → Tree → Type 0
StaysWithin depth (leaf (bound k d i)) = d < depth
StaysWithin depth (leaf (variable k n)) = Unit {0}
StaysWithin depth (leaf (placeholder k u n)) = Unit {0}
StaysWithin depth (leaf (atom x)) = Unit {0}
StaysWithin depth (leaf unknown) = Unit {0}
StaysWithin depth (node h ts) = StaysWithin depth ts
StaysWithin depth (bind ks t) = StaysWithin (suc depth) t
StaysWithin depth nil = Unit {0}
StaysWithin depth (cons t ts) = StaysWithin depth t × StaysWithin depth ts

-- A variable-free term of a sort, without escaping bound variables.
abbrev pub IsValue : Sort → Tree → Type 0
IsValue s t = IsTerm s t × Leaves IsValueLeaf t × StaysWithin 0 t

-- A value for each variable of a binder.
abbrev pub FitKinds : List BoundKind → List Tree → Type 0
FitKinds [] [] = Unit {0}
FitKinds (k ∷ ks) (t ∷ ts) = IsValue (bound_sort k) t × FitKinds ks ts
FitKinds [] (t ∷ ts) = ⊥
FitKinds (k ∷ ks) [] = ⊥

-- The placeholder does not stand in the tree.
abbrev pub Avoids : Tree → Tree → Type 0
Avoids p t = Leaves (λ l. leaf l ≢ p) t

-- A tree that is none of a list.
abbrev pub AvoidsAll : Tree → List Tree → Type 0
AvoidsAll p [] = Unit {0}
AvoidsAll p (q ∷ qs) = (q ≢ p) × AvoidsAll p qs

-- Pairwise different placeholders for the variables of a binder, none of which stands in either tree.
abbrev pub Fresh : List BoundKind → List Tree → Tree → Tree → Type 0
Fresh [] [] a b = Unit {0}
Fresh (k ∷ ks) (p ∷ ps) a b = ((u : ℕ) × (n : ℕ) × (p ≡ leaf (placeholder k u n))) × Avoids p a × Avoids p b ×
    AvoidsAll p ps × Fresh ks ps a b
Fresh [] (p ∷ ps) a b = ⊥
Fresh (k ∷ ks) [] a b = ⊥

-- What two trees are compared as: two terms at a variance; two lists of parts of a form from a place on, the
-- forms being at a variance; two bodies of binders of these kinds, with placeholders for the second's
-- variables and values for the first's, or the other way round.
pub data Way : Type 0 where
  at : Variance → Way
  parts : Head → ℕ → Variance → Way
  second_opened first_opened : List BoundKind → List BoundKind → Variance → Way

-- The least relation with these rules.
pub data Rel (c : Items) (w : Interpretation) (e : Tree) : Way → Tree → Tree → Type 0 where
  -- each term with itself
  same : {v : Variance} {a b : Tree} → a ≡ b → Rel c w e (at v) a b
  -- anything with anything at bivariance
  anything : {v : Variance} {a b : Tree} → v ≡ Bivariant → Rel c w e (at v) a b
  -- an error with anything of its sort
  error_left : {v : Variance} {a b : Tree} → IsError a → sort_of a ≡ sort_of b → Rel c w e (at v) a b
  error_right : {v : Variance} {a b : Tree} → IsError b → sort_of a ≡ sort_of b → Rel c w e (at v) a b
  -- regions by what outlives what
  regions : {v : Variance} {a b : Tree} → sort_of a ≡ region_sort → sort_of b ≡ region_sort → RegionRule w v a b →
      Rel c w e (at v) a b
  -- types by a pair of the environment
  alias_types : {v : Variance} {a b : Tree} → sort_of a ≡ type_sort → sort_of b ≡ type_sort → AliasRule w e v a b →
      Rel c w e (at v) a b
  -- constants by an equal pair of the environment
  equal_consts : {v : Variance} {a b : Tree} → sort_of a ≡ const_sort → sort_of b ≡ const_sort → IsEqualPair w e a b →
      Rel c w e (at v) a b
  -- forms without parts that are alike but for a parameter's name
  atoms : {v : Variance} {x y : Atom} → plain_atom x ≡ plain_atom y → Rel c w e (at v) (leaf (atom x)) (leaf (atom y))
  -- one form: by its parts, each at the variance of its place
  forms : {v : Variance} {h k : Head} {xs ys : Tree} → IsRelatedHead h → plain h ≡ plain k →
      Rel c w e (parts h 0 v) xs ys → Rel c w e (at v) (node h xs) (node k ys)
  no_parts : {h : Head} {i : ℕ} {v : Variance} → Rel c w e (parts h i v) nil nil
  next_part : {h : Head} {i : ℕ} {v : Variance} {a b xs ys : Tree} → Rel c w e (at (part_at c h i v)) a b →
      Rel c w e (parts h (suc i) v) xs ys → Rel c w e (parts h i v) (cons a xs) (cons b ys)
  -- binders, by placeholders for one and values for the other
  covariant_binders : {v : Variance} {ks ls : List BoundKind} {a b : Tree} → v ≡ Covariant →
      Rel c w e (second_opened ks ls v) a b → Rel c w e (at v) (bind ks a) (bind ls b)
  contravariant_binders : {v : Variance} {ks ls : List BoundKind} {a b : Tree} → v ≡ Contravariant →
      Rel c w e (first_opened ks ls v) a b → Rel c w e (at v) (bind ks a) (bind ls b)
  invariant_binders : {v : Variance} {ks ls : List BoundKind} {a b : Tree} → v ≡ Invariant →
      Rel c w e (second_opened ks ls v) a b → Rel c w e (first_opened ks ls v) a b →
      Rel c w e (at v) (bind ks a) (bind ls b)
  open_second : {v : Variance} {ks ls : List BoundKind} {a b : Tree} (values placeholders : List Tree) →
      FitKinds ks values → Fresh ls placeholders a b → Rel c w e (at v) (inst values 0 a) (inst placeholders 0 b) →
      Rel c w e (second_opened ks ls v) a b
  open_first : {v : Variance} {ks ls : List BoundKind} {a b : Tree} (placeholders values : List Tree) →
      Fresh ks placeholders a b → FitKinds ls values → Rel c w e (at v) (inst placeholders 0 a) (inst values 0 b) →
      Rel c w e (first_opened ks ls v) a b
