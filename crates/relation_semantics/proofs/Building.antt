-- What terms are built of: parts of terms, what they are read as and come to, and bodies of binders.
use Rattle.std.proofs.Common.{◌≡◌, ◌≢◌, ◌⊎◌, ℕ, zero, suc, refl, sym, ◌∙◌, inl, inr, subst, Bool, true, false}
use Rattle.std.proofs.Common.{List, [], ◌∷◌, IsTrue, Option, Some, None, nat_eq, cond}
use Rattle.std.proofs.lemmas.Bool.{false≢true}
use Rattle.relation_terms.specs.Heads.{region_sort, bound_sort, BoundKind, VarKind, type_var, int_var, float_var}
use Rattle.relation_terms.specs.Heads.{const_var, region_var, var_sort}
use Rattle.relation_terms.specs.Heads.{variable, bound, placeholder, atom, unknown}
use Rattle.relation_terms.specs.Heads.{value, value_branch, unevaluated, expression}
use Rattle.relation_terms.specs.Trees.{Tree, leaf, node, bind, nil, cons, nth, Assign, apply, tree_at, inst}
use Rattle.relation_semantics.specs.Asking.{BindsRegions}
use Rattle.relation_semantics.specs.Stores.{Store, Entry, unbound, same_as, bound_to, entry_of, entry_term, bound_term}
use Rattle.relation_semantics.specs.Stores.{through, resolve, resolved}
use Rattle.relation_semantics.specs.Errors.{IsReadAs, itself, by_class, by_binding, IsStandIn, StandFor}
use Rattle.relation_semantics.specs.Parts.{direct_parts, branches_of, const_parts_of}
use Rattle.relation_semantics.specs.Steps.{HasNoBinder, BindsNoBinder}
use Rattle.relation_semantics.specs.Steps.{IsGeneralised, kept, replaced, in_form, in_binder, in_list}
use Rattle.relation_semantics.specs.Alphabets.{Alphabet, MayVary, IsBuiltOf, BindsBuiltOf}
use Rattle.relation_semantics.specs.Alphabets.{BuiltFrom}

-- The alphabet of all but binders: what is built of it has none.
unfoldable pub all_but_binders : Alphabet
all_but_binders = record { heads = λ h. true; atoms = λ x. true; binders = false; variables = true }

pub plain_built : (t : Tree) → HasNoBinder t → IsBuiltOf all_but_binders t
unfolding all_but_binders
plain_built (leaf (variable k n)) h = λ o. refl
plain_built (leaf (bound k d i)) h = tt
plain_built (leaf (placeholder k u n)) h = tt
plain_built (leaf (atom x)) h = refl
plain_built (leaf unknown) h = tt
plain_built (node a t) h = (refl, plain_built t h)
plain_built (bind ks t) h = absurd h
plain_built nil h = tt
plain_built (cons t u) h = (plain_built t h.0, plain_built u h.1)

pub built_plain : (t : Tree) → IsBuiltOf all_but_binders t → HasNoBinder t
unfolding all_but_binders
built_plain (leaf l) h = tt
built_plain (node a t) h = built_plain t h.1
built_plain (bind ks t) h = absurd (false≢true h.0.0)
built_plain nil h = tt
built_plain (cons t u) h = (built_plain t h.0, built_plain u h.1)

pub plain_binds : (st : Store) → BindsNoBinder st → BindsBuiltOf all_but_binders st
plain_binds st all k may n t e = plain_built t (all k n t e)

-- So where no binder stands in two terms and what is bound, none stands in what they lead to.
pub no_binder_from : (st : Store) (a b x y : Tree) → BuiltFrom st a b x y → BindsNoBinder st → HasNoBinder a →
    HasNoBinder b → HasNoBinder x × HasNoBinder y
no_binder_from st a b x y f all ha hb =
    let z = f all_but_binders (plain_built a ha) (plain_built b hb) (plain_binds st all) in
    (built_plain x z.0, built_plain y z.1)

-- Parts are built of what the whole is.
pub built_nth : (k : Alphabet) (i : ℕ) (ts : Tree) → IsBuiltOf k ts → IsBuiltOf k (nth i ts)
built_nth k zero (cons t ts) h = h.0
built_nth k (suc i) (cons t ts) h = built_nth k i ts h.1
built_nth k i ts h = tt

pub built_parts : (k : Alphabet) (t : Tree) → IsBuiltOf k t → IsBuiltOf k (direct_parts t)
built_parts k (node h ts) f = f.1
built_parts k t f = tt

built_branches : (k : Alphabet) (t : Tree) → IsBuiltOf k t → IsBuiltOf k (branches_of t)
built_branches k (node value_branch ts) f = f.1
built_branches k t f = tt

pub built_const_parts : (k : Alphabet) (t : Tree) → IsBuiltOf k t → IsBuiltOf k (const_parts_of t)
built_const_parts k (node (unevaluated d) ts) f = f.1
built_const_parts k (node (expression j) ts) f = f.1
built_const_parts k (node value (cons t (cons v nil))) f = built_branches k v f.1.1.0
built_const_parts k t f = tt

-- What a term is read as is built of what it and the bindings are.
pub built_read : (k : Alphabet) (st : Store) → BindsBuiltOf k st → (a u : Tree) → IsReadAs st a u → IsBuiltOf k a →
    IsBuiltOf k u
built_read k st all a u (itself e) h = subst (IsBuiltOf k) e h
built_read k st all a u (by_class j n m e c r) h =
    built_read k st all (leaf (variable j m)) u r (subst (IsBuiltOf k) e h)
built_read k st all a u (by_binding {u = x} j n e b r) h =
    built_read k st all x u r (all j (subst (IsBuiltOf k) e h) n x b)

pub read_from : (st : Store) (a b x y : Tree) → IsReadAs st a x → IsReadAs st b y → BuiltFrom st a b x y
read_from st a b x y p q = λ k ha hb all. (built_read k st all a x p ha, built_read k st all b y q hb)

-- So is what is read as another, and what two terms stand for by another name.
pub built_again : (st : Store) (a b : Tree) {x y t u : Tree} → BuiltFrom st a b x y → t ≡ x → u ≡ y →
    BuiltFrom st a b t u
built_again st a b f e d = λ k ha hb all.
    let z = f k ha hb all in (subst (IsBuiltOf k) (sym e) z.0, subst (IsBuiltOf k) (sym d) z.1)

pub built_as : (st : Store) {a b t u : Tree} → t ≡ a → u ≡ b → BuiltFrom st a b t u
built_as st {a} {b} e d = built_again st a b (λ k ha hb all. (ha, hb)) e d

-- So is what a term comes to.
abbrev HasBuilt : Alphabet → Assign → Type 0
HasBuilt k s = (j : VarKind) → MayVary k j → (n : ℕ) → IsBuiltOf k (s j n)

apply_built : (k : Alphabet) (s : Assign) → HasBuilt k s → (t : Tree) → IsBuiltOf k t → IsBuiltOf k (apply s t)
apply_built k s f (leaf (variable j n)) h = f j h n
apply_built k s f (leaf (bound j d i)) h = tt
apply_built k s f (leaf (placeholder j u n)) h = tt
apply_built k s f (leaf (atom x)) h = h
apply_built k s f (leaf unknown) h = tt
apply_built k s f (node a t) h = (h.0, apply_built k s f t h.1)
apply_built k s f (bind ks t) h = (h.0, apply_built k s f t h.1)
apply_built k s f nil h = tt
apply_built k s f (cons t u) h = (apply_built k s f t h.0, apply_built k s f u h.1)

abbrev IsBuiltIfAny : Alphabet → Option Tree → Type 0
IsBuiltIfAny k None = Unit {0}
IsBuiltIfAny k (Some t) = IsBuiltOf k t

entry_built : (k : Alphabet) (st : Store) → BindsBuiltOf k st → (j : VarKind) → MayVary k j → (n : ℕ) →
    IsBuiltIfAny k (bound_term st j n)
entry_built k st all j may n = go (entry_of st j n) refl
  where
    go : (x : Entry) → entry_of st j n ≡ x → IsBuiltIfAny k (entry_term j x)
    go unbound e = tt
    go (same_as m) e = may
    go (bound_to t) e = all j may n t e

through_built : (k : Alphabet) (s : Assign) → HasBuilt k s → (j : VarKind) → MayVary k j → (n : ℕ) (o : Option Tree) →
    IsBuiltIfAny k o → IsBuiltOf k (through s j n o)
through_built k s f j may n None h = may
through_built k s f j may n (Some t) h = apply_built k s f t h

resolve_built : (k : Alphabet) (f : ℕ) (st : Store) → BindsBuiltOf k st → HasBuilt k (resolve f st)
unfolding resolve
resolve_built k zero st all j may n = may
resolve_built k (suc f) st all j may n = through_built k (resolve f st) (resolve_built k f st all) j may n
    (bound_term st j n) (entry_built k st all j may n)

pub resolved_built : (k : Alphabet) (st : Store) → BindsBuiltOf k st → (t : Tree) → IsBuiltOf k t → IsBuiltOf k (apply (resolved st) t)
unfolding resolved
resolved_built k st all t h = apply_built k _ (resolve_built k _ st all) t h

-- And what comes of it where places give way to variables.
pub generalised_built : (k : Alphabet) → IsTrue k.variables → {before after : Store} {t u : Tree} →
    IsGeneralised before after t u → IsBuiltOf k t → IsBuiltOf k u
generalised_built k may (kept e) h = subst (IsBuiltOf k) e h
generalised_built k may (replaced j n e o m s) h = subst (IsBuiltOf k) (sym e) (λ i. may)
generalised_built k may (in_form g) h = (h.0, generalised_built k may g h.1)
generalised_built k may (in_binder g) h = (h.0, generalised_built k may g h.1)
generalised_built k may (in_list g f) h = (generalised_built k may g h.0, generalised_built k may f h.1)

-- And a body, where stand-ins are put for what its binder binds.
abbrev AllBuilt : Alphabet → List Tree → Type 0
AllBuilt k [] = Unit {0}
AllBuilt k (t ∷ ts) = IsBuiltOf k t × AllBuilt k ts

abbrev pub BindsSo : Alphabet → List BoundKind → Type 0
BindsSo k ks = BindsRegions ks ⊎ IsTrue k.variables

first_so : (k : Alphabet) (q : BoundKind) (ks : List BoundKind) → BindsSo k (q ∷ ks) →
    (bound_sort q ≡ region_sort) ⊎ IsTrue k.variables
first_so k q ks (inl h) = inl h.0
first_so k q ks (inr h) = inr h

rest_so : (k : Alphabet) (q : BoundKind) (ks : List BoundKind) → BindsSo k (q ∷ ks) → BindsSo k ks
rest_so k q ks (inl h) = inl h.1
rest_so k q ks (inr h) = inr h

pub region_kind_is : (j : VarKind) → var_sort j ≡ region_sort → j ≡ region_var
region_kind_is type_var e = absurd cc
region_kind_is int_var e = absurd cc
region_kind_is float_var e = absurd cc
region_kind_is const_var e = absurd cc
region_kind_is region_var e = refl

varies_so : (k : Alphabet) (q : BoundKind) (j : VarKind) → var_sort j ≡ bound_sort q →
    (bound_sort q ≡ region_sort) ⊎ IsTrue k.variables → MayVary k j
varies_so k q j s (inl h) o = absurd (o (region_kind_is j (s ∙ h)))
varies_so k q j s (inr h) o = h

stand_ins_built : (k : Alphabet) (ks : List BoundKind) (ts : List Tree) → BindsSo k ks → StandFor ks ts → AllBuilt k ts
stand_ins_built k [] [] so h = tt
stand_ins_built k [] (t ∷ ts) so h = absurd h
stand_ins_built k (q ∷ ks) [] so h = absurd h
stand_ins_built k (q ∷ ks) (t ∷ ts) so h = (one t h.0, stand_ins_built k ks ts (rest_so k q ks so) h.1)
  where
    one : (t : Tree) → IsStandIn q t → IsBuiltOf k t
    one (leaf (variable j n)) s = varies_so k q j s (first_so k q ks so)
    one (leaf (placeholder j u n)) s = tt
    one t s = absurd s

place_built : (k : Alphabet) (ts : List Tree) → AllBuilt k ts → (i : ℕ) (t : Tree) → IsBuiltOf k t → IsBuiltOf k (tree_at ts i t)
place_built k [] h i t p = p
place_built k (x ∷ ts) h zero t p = h.0
place_built k (x ∷ ts) h (suc i) t p = place_built k ts h.1 i t p

inst_built : (k : Alphabet) (ts : List Tree) → AllBuilt k ts → (d : ℕ) (t : Tree) → IsBuiltOf k t → IsBuiltOf k (inst ts d t)
inst_built k ts h d (leaf (variable j n)) p = p
inst_built k ts h d (leaf (bound j e i)) p = go (nat_eq e d)
  where
    go : (b : Bool) → IsBuiltOf k (cond b (tree_at ts i (leaf (bound j e i))) (leaf (bound j e i)))
    go true = place_built k ts h i (leaf (bound j e i)) tt
    go false = tt
inst_built k ts h d (leaf (placeholder j u n)) p = tt
inst_built k ts h d (leaf (atom x)) p = p
inst_built k ts h d (leaf unknown) p = tt
inst_built k ts h d (node a t) p = (p.0, inst_built k ts h d t p.1)
inst_built k ts h d (bind ls t) p = (p.0, inst_built k ts h (suc d) t p.1)
inst_built k ts h d nil p = tt
inst_built k ts h d (cons t u) p = (inst_built k ts h d t p.0, inst_built k ts h d u p.1)

pub body_built : (k : Alphabet) (ks : List BoundKind) (ts : List Tree) (t x : Tree) → StandFor ks ts → x ≡ inst ts 0 t →
    IsBuiltOf k (bind ks t) → IsBuiltOf k x
body_built k ks ts t x s e h =
    subst (IsBuiltOf k) (sym e) (inst_built k ts (stand_ins_built k ks ts h.0.1 s) 0 t h.1)
