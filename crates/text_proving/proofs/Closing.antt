-- What a visitor goes over that enters only what is closed.
use Rattle.std.proofs.Common.{◌≡◌, ℕ, Bool, false, true, cond, refl, IsTrue}
use Rattle.std.proofs.lemmas.Bool.{and_parts, false≢true}
use Rattle.relation_terms.specs.Heads.{type_var, int_var, float_var, const_var, region_var}
use Rattle.relation_terms.specs.Heads.{Leaf, variable, bound, placeholder, atom, unknown, Atom, bool_type, char_type}
use Rattle.relation_terms.specs.Heads.{str_type, never_type, type_error, int_type, uint_type, float_type, foreign}
use Rattle.relation_terms.specs.Heads.{fresh_type, fresh_int, fresh_float, type_param, static_region, early_region}
use Rattle.relation_terms.specs.Heads.{const_error, fresh_const, const_param, value_leaf, not_null_pattern}
use Rattle.relation_terms.specs.Heads.{existential_auto, unstable_feature, ambiguous}
use Rattle.relation_terms.specs.Trees.{Tree, leaf, node, bind, nil, cons, known, Leaves}
use Rattle.relation_folds.specs.Visits.{is_visited, Flow, Walks}
use Rattle.relation_folds.proofs.Testing.{WentOn, walked_all}
use Rattle.relation_semantics.specs.Relation.{IsValueAtom, IsValueLeaf}
use Rattle.text_proving.specs.Closed.{is_closed_atom, is_closed_leaf, is_closed, EntersClosed}

-- A leaf that is closed.
abbrev IsClosed : Leaf → Type 0
IsClosed l = is_closed_leaf l ≡ true

-- What no visitor is asked about is closed.
passed_atom : (x : Atom) → is_visited (leaf (atom x)) ≡ false → is_closed_atom x ≡ true
passed_atom bool_type e = refl
passed_atom char_type e = refl
passed_atom str_type e = refl
passed_atom never_type e = refl
passed_atom type_error e = refl
passed_atom (int_type w) e = refl
passed_atom (uint_type w) e = refl
passed_atom (float_type w) e = refl
passed_atom (foreign n) e = refl
passed_atom (fresh_type n) e = absurd (cc)
passed_atom (fresh_int n) e = absurd (cc)
passed_atom (fresh_float n) e = absurd (cc)
passed_atom (type_param i n) e = refl
passed_atom static_region e = refl
passed_atom (early_region i n) e = refl
passed_atom const_error e = refl
passed_atom (fresh_const n) e = absurd (cc)
passed_atom (const_param i n) e = refl
passed_atom (value_leaf i n) e = refl
passed_atom not_null_pattern e = refl
passed_atom (existential_auto n) e = refl
passed_atom (unstable_feature n) e = refl
passed_atom ambiguous e = refl

passed_closed : (l : Leaf) → is_visited (leaf l) ≡ false → IsClosed l
passed_closed (variable type_var n) e = absurd (cc)
passed_closed (variable int_var n) e = absurd (cc)
passed_closed (variable float_var n) e = absurd (cc)
passed_closed (variable const_var n) e = absurd (cc)
passed_closed (variable region_var n) e = absurd (cc)
passed_closed (bound k d i) e = refl
passed_closed (placeholder k u n) e = refl
passed_closed (atom x) e = passed_atom x e
passed_closed unknown e = refl

-- Nothing that stands for a value stands in what is closed and known.
value_atom : (x : Atom) → is_closed_atom x ≡ true → IsValueAtom x
value_atom bool_type e = tt
value_atom char_type e = tt
value_atom str_type e = tt
value_atom never_type e = tt
value_atom type_error e = tt
value_atom (int_type w) e = tt
value_atom (uint_type w) e = tt
value_atom (float_type w) e = tt
value_atom (foreign n) e = tt
value_atom (fresh_type n) e = cc
value_atom (fresh_int n) e = cc
value_atom (fresh_float n) e = cc
value_atom (type_param i n) e = tt
value_atom static_region e = tt
value_atom (early_region i n) e = tt
value_atom const_error e = tt
value_atom (fresh_const n) e = cc
value_atom (const_param i n) e = tt
value_atom (value_leaf i n) e = tt
value_atom not_null_pattern e = tt
value_atom (existential_auto n) e = tt
value_atom (unstable_feature n) e = tt
value_atom ambiguous e = tt

values : (t : Tree) → IsTrue (known t) → Leaves IsClosed t → Leaves IsValueLeaf t
values (leaf (variable k n)) h e = cc
values (leaf (bound k d i)) h e = tt
values (leaf (placeholder k u n)) h e = tt
values (leaf (atom x)) h e = value_atom x e
values (leaf unknown) h e = absurd (false≢true h)
values (node g ts) h e = values ts h e
values (bind ks t) h e = values t h e
values nil h e = tt
values (cons t ts) h e =
    let p = and_parts (known t) (known ts) h in
    (values t p.0 e.0, values ts p.1 e.1)

pub walked_values : {V : Type 0} (v w : V) (t : Tree) (r : Flow) → IsTrue (known t) →
    Walks (λ v d t w a. EntersClosed t a) 0 v t w r → WentOn r → Leaves IsValueLeaf t
walked_values v w t r h o g =
    values t h (walked_all IsClosed is_closed (λ l e. e) passed_closed 0 v w t r o g)
