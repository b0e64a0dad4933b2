-- Making the keys of all integer and float types, one after another.
use Rattle.std.proofs.Common.{◌≡◌, ◌≢◌, set, ℕ, zero, suc, ◌<◌, IsTrue, refl, sym, ap, ap₂, ◌∙◌, subst, arith, List, [], ◌∷◌, ◌++◌, length, map, get_or, take}
use Rattle.std.proofs.lemmas.List.{map-append, get_or-map, length-map}
use Rattle.relation_terms.specs.Heads.{int_var, float_var}
use Rattle.relation_terms.specs.Trees.{Tree, nil, known}
use Rattle.relation_terms.specs.Meaning.{Meaning, Extends}
use Rattle.relation_terms.specs.declared.terms.keys.TyKey.{TyKey}
use Rattle.relation_terms.specs.declared.terms.ty_kind.IntVarValue.{IntVarValue}
use Rattle.relation_terms.specs.declared.terms.ty_kind.IntVarValue.TheVariants.{Unknown, IntType, UintType}
use Rattle.relation_terms.specs.declared.terms.ty_kind.FloatVarValue.{FloatVarValue}
use Rattle.relation_terms.specs.declared.terms.ty_kind.FloatVarValue.TheVariants.{Unknown as UnknownFloat, Known}
use Rattle.relation_semantics.specs.Stores.{unbound, bound_to, entry_of}
use Rattle.relation_semantics.specs.Steps.{InstantiatesNumber, IsNumberFor}
use Rattle.relation_semantics.proofs.StoreCalls.{numbers_stay_sound}
use Rattle.variable_tables.specs.declared.inner.VariableValue.TheVariants.{Known as Bound}
use Rattle.variable_tables.specs.Tabled.{Table}
use Rattle.variable_tables.specs.declared.inner.InferCtxtInner.{InferCtxtInner}
use Rattle.variable_tables.specs.Variables.{keys_of, values_of, universes_of}
use Rattle.relation_semantics.specs.NumberValues.{int_value_tree, float_value_tree}
use Rattle.variable_tables.specs.Numbers.{number_trees}
use Rattle.variable_tables.specs.Tables.{store_of, MayBeBoundTo, IsLawful}
use Rattle.variable_tables.proofs.Grows.{each_known, keys_stay}
use Rattle.variable_tables.proofs.Beside.{ints_beside, floats_beside}
use Rattle.variable_tables.proofs.Writing.{bound_entries, bind_number, bind_lawful, table_made}

take_next : (ts : List Tree) (i j : ℕ) → i < length ts → j ≡ suc i → take j ts ≡ take i ts ++ get_or ts i nil ∷ []
take_next [] i j h e = absurd (omega (arith, h))
take_next (t ∷ ts) zero j h e = subst (λ k. take k (t ∷ ts) ≡ t ∷ []) (sym e) refl
take_next (t ∷ ts) (suc i) j h e = subst (λ k. take k (t ∷ ts) ≡ t ∷ (take i ts ++ get_or ts i nil ∷ [])) (sym e)
    (ap (λ us. t ∷ us) (take_next ts i (suc i) (omega (arith, h)) refl))

known_take : (ts : List Tree) (i j : ℕ) → ((k : ℕ) → IsTrue (known (get_or ts k nil))) → IsTrue (known (get_or (take i ts) j nil))
known_take [] zero j h = refl
known_take [] (suc i) j h = refl
known_take (t ∷ ts) zero j h = refl
known_take (t ∷ ts) (suc i) zero h = h 0
known_take (t ∷ ts) (suc i) (suc j) h = known_take ts i j (λ k. h (suc k))

-- One more key, made in an interner that has grown.
pub numbers_next : {Key Id Name : Type 0} {m n : Meaning Key Id Name} → Extends m n → (xs ys : List (TyKey Key)) (key : TyKey Key) (i j : ℕ) → i < 16 → j ≡ suc i →
    map m.ty xs ≡ take i number_trees → n.ty key ≡ get_or number_trees i nil → ys ≡ xs ++ key ∷ [] → map n.ty ys ≡ take j number_trees
numbers_next {m = m} {n = n} e xs ys key i j h q means made more =
    let stand : map n.ty xs ≡ take i number_trees = keys_stay m.ty n.ty e.ty xs (λ k. subst (λ ts. IsTrue (known (get_or ts k nil))) (sym means) (known_take number_trees i k (each_known number_trees refl))) ∙ means in
    ap (map n.ty) more ∙ map-append n.ty xs (key ∷ []) ∙ ap₂ (λ ts t. ts ++ t ∷ []) stand made ∙ sym (take_next number_trees i j h q)

-- The key at a place.
pub number_at : {Key Id Name : Type 0} (m : Meaning Key Id Name) (keys : List (TyKey Key)) (i : ℕ) (d : TyKey Key) → map m.ty keys ≡ number_trees → i < 16 → m.ty (get_or keys i d) ≡ get_or number_trees i nil
number_at m keys i d e h =
    let long = sym (length-map keys m.ty) ∙ ap length e in
    sym (get_or-map m.ty keys i d nil (omega (arith, h, long))) ∙ ap (λ ts. get_or ts i nil) e

pub number_in : {Key Id Name : Type 0} (m : Meaning Key Id Name) (keys : List (TyKey Key)) (i : ℕ) → map m.ty keys ≡ number_trees → i < 16 → i < length keys
number_in m keys i e h = let long = sym (length-map keys m.ty) ∙ ap length e in omega (arith, h, long)

-- What a number variable is bound to is a type of its kind.
pub int_fits : (v : IntVarValue) → v ≢ Unknown → IsNumberFor int_var (int_value_tree v)
int_fits Unknown o = absurd (o refl)
int_fits (IntType w) o = tt
int_fits (UintType w) o = tt

pub float_fits : (v : FloatVarValue) → v ≢ UnknownFloat → IsNumberFor float_var (float_value_tree v)
float_fits UnknownFloat o = absurd (o refl)
float_fits (Known w) o = tt

int_may : (v : IntVarValue) → v ≢ Unknown → MayBeBoundTo int_var (int_value_tree v)
int_may Unknown o = absurd (o refl)
int_may (IntType w) o = (refl, tt)
int_may (UintType w) o = (refl, tt)

float_may : (v : FloatVarValue) → v ≢ UnknownFloat → MayBeBoundTo float_var (float_value_tree v)
float_may UnknownFloat o = absurd (o refl)
float_may (Known w) o = (refl, tt)

-- A number variable was bound to the type of a key.
module _ {Key Id Name : Type 0} (m : Meaning Key Id Name) (x : InferCtxtInner Key) (l : IsLawful m x) (ts : Table (TyKey Key)) (n place : ℕ) (key : TyKey Key) (t : Tree)
    (below : place < 16) (is : get_or number_trees place nil ≡ t) (found : key ≡ get_or x.numbers.items place key) where
  means : m.ty key ≡ t
  means = ap m.ty found ∙ number_at m x.numbers.items place key l.numbers below ∙ is

  module _ (keys : keys_of ts.items ≡ keys_of x.ints.items) (values : values_of ts.items ≡ set (values_of x.ints.items) n (Bound key)) (universes : universes_of ts.items ≡ universes_of x.ints.items)
      (made : n < length x.ints.items) (free : entry_of (store_of m x) int_var n ≡ unbound) (v : IntVarValue) (some : v ≢ Unknown) (type : t ≡ int_value_tree v) where
    abbrev int_entries : (store_of m (record x { ints = ts })).entries int_var ≡ set ((store_of m x).entries int_var) n (bound_to (int_value_tree v))
    int_entries = bound_entries m.ty x.ints.items ts.items n key values ∙ ap (λ u. set ((store_of m x).entries int_var) n (bound_to u)) (means ∙ type)

    pub int_bound : InstantiatesNumber (store_of m x) (store_of m (record x { ints = ts })) int_var n (int_value_tree v)
    int_bound = bind_number m x (record x { ints = ts }) int_var (ints_beside m x ts x.budget) (ap (map m.ty) keys) l n (int_value_tree v) int_entries universes
        (table_made m.ty x.ints.items n made) free refl (int_fits v some)

    pub int_bound_lawful : IsLawful m (record x { ints = ts })
    int_bound_lawful = bind_lawful m x (record x { ints = ts }) int_var (ints_beside m x ts x.budget) (ap (map m.ty) keys) l n (int_value_tree v) int_entries universes
        (table_made m.ty x.ints.items n made) free (int_may v some) (numbers_stay_sound (store_of m x) (store_of m (record x { ints = ts })) int_var n (int_value_tree v) int_bound l.sound)

  module _ (keys : keys_of ts.items ≡ keys_of x.floats.items) (values : values_of ts.items ≡ set (values_of x.floats.items) n (Bound key)) (universes : universes_of ts.items ≡ universes_of x.floats.items)
      (made : n < length x.floats.items) (free : entry_of (store_of m x) float_var n ≡ unbound) (v : FloatVarValue) (some : v ≢ UnknownFloat) (type : t ≡ float_value_tree v) where
    abbrev float_entries : (store_of m (record x { floats = ts })).entries float_var ≡ set ((store_of m x).entries float_var) n (bound_to (float_value_tree v))
    float_entries = bound_entries m.ty x.floats.items ts.items n key values ∙ ap (λ u. set ((store_of m x).entries float_var) n (bound_to u)) (means ∙ type)

    pub float_bound : InstantiatesNumber (store_of m x) (store_of m (record x { floats = ts })) float_var n (float_value_tree v)
    float_bound = bind_number m x (record x { floats = ts }) float_var (floats_beside m x ts x.budget) (ap (map m.ty) keys) l n (float_value_tree v) float_entries universes
        (table_made m.ty x.floats.items n made) free refl (float_fits v some)

    pub float_bound_lawful : IsLawful m (record x { floats = ts })
    float_bound_lawful = bind_lawful m x (record x { floats = ts }) float_var (floats_beside m x ts x.budget) (ap (map m.ty) keys) l n (float_value_tree v) float_entries universes
        (table_made m.ty x.floats.items n made) free (float_may v some) (numbers_stay_sound (store_of m x) (store_of m (record x { floats = ts })) float_var n (float_value_tree v) float_bound l.sound)
