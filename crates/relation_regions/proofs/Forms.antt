-- What the regions of a context are.
use Rattle.std.proofs.Common.{◌≡◌, ℕ, ◌<◌, ap, refl, subst, ◌⊎◌, inl, inr, true, false, arith}
use Rattle.std.proofs.lemmas.Bool.{cases_lt, lt-ltb, ltb-true}
use Rattle.relation_terms.specs.Heads.{region_sort, VarKind, type_var, int_var, float_var, const_var, region_var}
use Rattle.relation_terms.specs.Heads.{variable, bound, placeholder, atom, unknown}
use Rattle.relation_terms.specs.Trees.{Tree, leaf, node, bind, nil, cons, Assign, apply, IsTerm, Leaves}
use Rattle.relation_terms.proofs.Members.{no_region}
use Rattle.relation_semantics.specs.Stores.{Store, IsRegionIn, IsMade, IsNamable, universe_of, IsTermIn, InContext}
use Rattle.relation_semantics.specs.ContextCalls.{IsNotVariable}
use Rattle.relation_regions.specs.declared.standing.Standing.{Standing}
use Rattle.relation_regions.specs.declared.standing.Standing.TheVariants.{Named, Placeholder, Variable}
use Rattle.relation_regions.specs.Standings.{is_given, is_beyond}
use Rattle.relation_regions.specs.Worlds.{CannotName}
use Rattle.relation_regions.specs.Reading.{standing_in}
use Rattle.relation_regions.proofs.Forcing.{none_names_less}

-- A variable of a region is a region variable.
pub region_kind_is : (k : VarKind) (n : ℕ) → IsTerm region_sort (leaf (variable k n)) → k ≡ region_var
region_kind_is type_var n h = absurd h
region_kind_is int_var n h = absurd h
region_kind_is float_var n h = absurd h
region_kind_is const_var n h = absurd h
region_kind_is region_var n h = refl

-- A region is a region variable, or none.
pub variable_or_not : (t : Tree) → IsTerm region_sort t →
    IsNotVariable region_var t ⊎ ((n : ℕ) × (t ≡ leaf (variable region_var n)))
variable_or_not (leaf (variable k n)) h = inr (n, ap (λ j. leaf (variable j n)) (region_kind_is k n h))
variable_or_not (leaf (bound k d i)) h = inl (λ n e. cc)
variable_or_not (leaf (placeholder k u i)) h = inl (λ n e. cc)
variable_or_not (leaf (atom x)) h = inl (λ n e. cc)
variable_or_not (leaf unknown) h = inl (λ n e. cc)
variable_or_not (node k ts) h = absurd (no_region k h.0)
variable_or_not (bind ks t) h = absurd h
variable_or_not nil h = absurd h
variable_or_not (cons t ts) h = absurd h

-- A region that is no variable is its own value.
pub own_value : (s : Assign) (t : Tree) → IsTerm region_sort t → IsNotVariable region_var t → apply s t ≡ t
own_value s (leaf (variable k n)) h f = absurd (f n (ap (λ j. leaf (variable j n)) (region_kind_is k n h)))
own_value s (leaf (bound k d i)) h f = refl
own_value s (leaf (placeholder k u n)) h f = refl
own_value s (leaf (atom x)) h f = refl
own_value s (leaf unknown) h f = refl
own_value s (node k ts) h f = absurd (no_region k h.0)
own_value s (bind ks t) h f = absurd h
own_value s nil h f = absurd h
own_value s (cons t ts) h f = absurd h

-- What is no variable is given, and what is given is none.
pub given_of_none : (st : Store) (t : Tree) → IsTerm region_sort t → IsNotVariable region_var t →
    is_given (standing_in st t) ≡ true
given_of_none st (leaf (variable k n)) h f = absurd (f n (ap (λ j. leaf (variable j n)) (region_kind_is k n h)))
given_of_none st (leaf (bound k d i)) h f = refl
given_of_none st (leaf (placeholder k u n)) h f = refl
given_of_none st (leaf (atom x)) h f = refl
given_of_none st (leaf unknown) h f = refl
given_of_none st (node k ts) h f = refl
given_of_none st (bind ks t) h f = refl
given_of_none st nil h f = refl
given_of_none st (cons t ts) h f = refl

pub none_of_given : (st : Store) (t : Tree) → is_given (standing_in st t) ≡ true → IsNotVariable region_var t
none_of_given st t h n e =
    let f : is_given (standing_in st t) ≡ false = ap (λ u. is_given (standing_in st u)) e in absurd (cc (h, f))

-- What is not given is a region variable.
pub variable_of_other : (st : Store) (t : Tree) → IsTerm region_sort t → is_given (standing_in st t) ≡ false →
    (n : ℕ) × (t ≡ leaf (variable region_var n))
variable_of_other st t h f = elim (variable_or_not t h) [
  | inl none ↦ absurd (cc (given_of_none st t h none, f))
  | inr v ↦ v
]

-- A variable of the context is made.
pub variable_made : (st : Store) (t : Tree) (n : ℕ) → IsRegionIn st t → t ≡ leaf (variable region_var n) →
    IsMade st region_var n
unfolding IsTermIn InContext
variable_made st t n h e = let P : Tree → Type 0 = λ t. IsRegionIn st t in (subst P e h).1.0

-- What is beyond a universe has a placeholder that the universe can't name.
beyond_unnamable : (st : Store) (u : ℕ) (t : Tree) → is_beyond (Variable u) (standing_in st t) ≡ true →
    Leaves (IsNamable u) t → ⊥
beyond_unnamable st u (leaf (variable k n)) h names = absurd cc
beyond_unnamable st u (leaf (bound k d i)) h names = absurd cc
beyond_unnamable st u (leaf (placeholder k v n)) h names = let lt : u < v = ltb-true u v h in absurd (omega arith)
beyond_unnamable st u (leaf (atom x)) h names = absurd cc
beyond_unnamable st u (leaf unknown) h names = absurd cc
beyond_unnamable st u (node k ts) h names = absurd cc
beyond_unnamable st u (bind ks t) h names = absurd cc
beyond_unnamable st u nil h names = absurd cc
beyond_unnamable st u (cons t ts) h names = absurd cc

-- A region with such a placeholder is beyond it.
pub unnamable_beyond : (st : Store) (u : ℕ) (t : Tree) → IsRegionIn st t → (Leaves (IsNamable u) t → ⊥) →
    is_beyond (Variable u) (standing_in st t) ≡ true
unfolding IsTermIn InContext
unnamable_beyond st u (leaf (variable k n)) h f = absurd (f tt)
unnamable_beyond st u (leaf (bound k d i)) h f = absurd (f tt)
unnamable_beyond st u (leaf (placeholder k v n)) h f = elim (cases_lt u v) [
  | inl lt ↦ lt-ltb u v lt
  | inr le ↦ absurd (f le)
]
unnamable_beyond st u (leaf (atom x)) h f = absurd (f tt)
unnamable_beyond st u (leaf unknown) h f = absurd (h.1).0
unnamable_beyond st u (node k ts) h f = absurd (no_region k (h.0).0)
unnamable_beyond st u (bind ks t) h f = absurd h.0
unnamable_beyond st u nil h f = absurd h.0
unnamable_beyond st u (cons t ts) h f = absurd h.0

-- No named region and no placeholder is a variable.
placeholder_names_all : (v : ℕ) (s : Standing) → is_beyond (Placeholder v) s ≡ true → ⊥
placeholder_names_all v Named h = absurd cc
placeholder_names_all v (Placeholder u) h = absurd cc
placeholder_names_all v (Variable u) h = absurd cc

-- A region variable that another region is beyond can't name that.
pub record IsUnnamed (st : Store) (t p : Tree) : Type 0 where
  pub number : ℕ
  pub is : t ≡ leaf (variable region_var number)
  pub cannot_name : CannotName st number p

pub beyond_unnamed : (st : Store) (t p : Tree) → IsTerm region_sort t →
    is_beyond (standing_in st t) (standing_in st p) ≡ true → IsUnnamed st t p
beyond_unnamed st (leaf (variable k n)) p h e = record {
  number = n;
  is = ap (λ j. leaf (variable j n)) (region_kind_is k n h);
  cannot_name = beyond_unnamable st (universe_of st region_var n) p e;
}
beyond_unnamed st (leaf (bound k d i)) p h e = absurd (none_names_less (standing_in st p) e)
beyond_unnamed st (leaf (placeholder k v n)) p h e = absurd (placeholder_names_all v (standing_in st p) e)
beyond_unnamed st (leaf (atom x)) p h e = absurd (none_names_less (standing_in st p) e)
beyond_unnamed st (leaf unknown) p h e = absurd (none_names_less (standing_in st p) e)
beyond_unnamed st (node k ts) p h e = absurd (none_names_less (standing_in st p) e)
beyond_unnamed st (bind ks t) p h e = absurd (none_names_less (standing_in st p) e)
beyond_unnamed st nil p h e = absurd (none_names_less (standing_in st p) e)
beyond_unnamed st (cons t ts) p h e = absurd (none_names_less (standing_in st p) e)
