-- Bivariant arguments that are left open.
use Rattle.std.proofs.Common.{◌≡◌, ◌⊎◌, ◌↔◌, ℕ, suc, ◌<◌, refl, sym, ap, ◌∙◌, arith, inl, inr, subst, subst₂, ⊎_elim, Bool, false, List, IsTrue, Result, Ok, Err}
use Rattle.std.proofs.lemmas.Bool.{false≢true, or_cases}
use Rattle.relation_terms.specs.declared.terms.ids.DefId.{DefId}
use Rattle.relation_terms.specs.declared.terms.keys.ArgsKey.{ArgsKey}
use Rattle.relation_terms.specs.declared.terms.keys.TyKey.{TyKey}
use Rattle.relation_terms.specs.Meaning.{Meaning, Extends}
use Rattle.term_enums.specs.declared.Variance.TheVariants.{Bivariant}
use Rattle.relation_terms.specs.Flags.{has_non_region_infer}
use Rattle.relation_terms.specs.Heads.{region_sort, type_var, int_var, float_var, const_var, region_var, Leaf, variable, bound, placeholder, atom, unknown, adt, fn_def}
use Rattle.relation_terms.specs.Trees.{Tree, leaf, node, bind, nil, cons, nth, apply, known, IsTerm, count}
use Rattle.relation_semantics.specs.Alphabets.{Alphabet, IsBuiltOf, BindsBuiltOf}
use Rattle.relation_semantics.specs.Relation.{Items}
use Rattle.relation_steps.specs.Arguments.{AreOverItem, adts, functions}
use Rattle.relation_steps.specs.Bivariance.{is_left_open, IsOpenAt, HasOpenArgument, TellsOpen, TellsEitherOpen, RegistersWellFormed, AsksWellFormed, AsksOfOver}
use Rattle.relation_steps.specs.Keyed.{AreOver}
use Rattle.relation_semantics.specs.Lawful.{State, items_of, items_in}
use Rattle.relation_semantics.specs.Goals.{Goal, HasBivariantPart}
use Rattle.relation_semantics.specs.Stores.{Store, entry_term, resolved, IsSound, IsTermIn}
use Rattle.relation_semantics.proofs.Building.{built_nth, resolved_built}
use Rattle.relation_semantics.proofs.Composing.{below_or}
use Rattle.relation_terms.proofs.Members.{no_region}
use Rattle.relation_semantics.proofs.Parts.{in_parts}
use Rattle.relation_semantics.proofs.Resolved.{resolved_free}
use Rattle.relation_semantics.proofs.Answering.{items_stay}

-- A region is never left open: region variables are not bound.
pub region_closed : (st : Store) → IsSound st → (t : Tree) → IsTerm region_sort t → is_left_open st t ≡ false
region_closed st g (leaf l) h = at_leaf l h
  where
    at_leaf : (l : Leaf) → IsTerm region_sort (leaf l) → is_left_open st (leaf l) ≡ false
    at_leaf (variable region_var n) h =
        ap has_non_region_infer (resolved_free st region_var n (ap (entry_term region_var) (g.regions_unbound n)))
    at_leaf (variable type_var n) h = absurd h
    at_leaf (variable int_var n) h = absurd h
    at_leaf (variable float_var n) h = absurd h
    at_leaf (variable const_var n) h = absurd h
    at_leaf (bound k d i) h = refl
    at_leaf (placeholder k u n) h = refl
    at_leaf (atom x) h = refl
    at_leaf unknown h = refl
region_closed st g (node f ts) h = absurd (no_region f h.0)
region_closed st g (bind ks t) h = absurd h
region_closed st g nil h = absurd h
region_closed st g (cons t u) h = absurd h

-- No argument before a place is left open.
abbrev pub NoneOpenBefore : Items → Store → ℕ → Tree → ℕ → Type 0
NoneOpenBefore c st d ts i = (j : ℕ) → j < i → IsOpenAt c st d ts j → ⊥

-- Nor is one before the next place, where the one at the place is not.
pub none_open_next : (c : Items) (st : Store) (d : ℕ) (ts : Tree) (i : ℕ) → NoneOpenBefore c st d ts i →
    (IsOpenAt c st d ts i → ⊥) → NoneOpenBefore c st d ts (suc i)
none_open_next c st d ts i before here j h o = go (below_or i j h)
  where
    go : (j < i) ⊎ (j ≡ i) → ⊥
    go (inl l) = before j l o
    go (inr e) = here (subst (IsOpenAt c st d ts) e o)

-- What none of the places has, the list has not.
pub none_open_all : (c : Items) (st : Store) (d : ℕ) (ts : Tree) (n : ℕ) → n ≡ count ts → NoneOpenBefore c st d ts n →
    HasOpenArgument c st d ts → ⊥
none_open_all c st d ts n e before o = let below = o.1.0 in before o.0 (omega (arith, e, below)) o.1

-- Types over an item whose lists have an argument that is left open have bivariant parts.
pub bivariant_parts : (c : Items) (st : Store) (d : ℕ) (a b ts us : Tree) → AreOverItem d a b ts us →
    HasOpenArgument c st d ts ⊎ HasOpenArgument c st d us → HasBivariantPart c a × HasBivariantPart c b
bivariant_parts c st d a b ts us over h = go over
  where
    place : HasOpenArgument c st d ts ⊎ HasOpenArgument c st d us → (i : ℕ) × (c.declared d i ≡ Bivariant)
    place (inl o) = (o.0, o.1.1)
    place (inr o) = (o.0, o.1.1)

    go : AreOverItem d a b ts us → HasBivariantPart c a × HasBivariantPart c b
    go (adts p q) = (subst (HasBivariantPart c) (sym p) (place h), subst (HasBivariantPart c) (sym q) (place h))
    go (functions p q) = (subst (HasBivariantPart c) (sym p) (place h), subst (HasBivariantPart c) (sym q) (place h))

-- Where a variable but of a region stands in what a term comes to, what that is built of has such.
open_varies : (k : Alphabet) (t : Tree) → IsBuiltOf k t → IsTrue (has_non_region_infer t) → IsTrue k.variables
open_varies k (leaf (variable region_var n)) h o = absurd (false≢true o)
open_varies k (leaf (variable type_var n)) h o = h (λ e. cc)
open_varies k (leaf (variable int_var n)) h o = h (λ e. cc)
open_varies k (leaf (variable float_var n)) h o = h (λ e. cc)
open_varies k (leaf (variable const_var n)) h o = h (λ e. cc)
open_varies k (leaf (bound b d i)) h o = absurd (false≢true o)
open_varies k (leaf (placeholder b u n)) h o = absurd (false≢true o)
open_varies k (leaf (atom x)) h o = absurd (false≢true o)
open_varies k (leaf unknown) h o = absurd (false≢true o)
open_varies k (node f ts) h o = open_varies k ts h.1 o
open_varies k (bind ks t) h o = open_varies k t h.1 o
open_varies k nil h o = absurd (false≢true o)
open_varies k (cons t u) h o = ⊎_elim (λ e. open_varies k t h.0 e) (λ e. open_varies k u h.1 e)
    (or_cases (has_non_region_infer t) (has_non_region_infer u) o)

open_argument : (k : Alphabet) (c : Items) (st : Store) (d : ℕ) (ts : Tree) → BindsBuiltOf k st → IsBuiltOf k ts →
    HasOpenArgument c st d ts → IsTrue k.variables
open_argument k c st d ts all h o =
    open_varies k (apply (resolved st) (nth o.0 ts)) (resolved_built k st all (nth o.0 ts) (built_nth k o.0 ts h)) o.1.2

pub open_in_alphabet : (k : Alphabet) (c : Items) (st : Store) (d : ℕ) (a b ts us : Tree) → AreOverItem d a b ts us →
    HasOpenArgument c st d ts ⊎ HasOpenArgument c st d us → BindsBuiltOf k st → IsBuiltOf k a → IsBuiltOf k b →
    IsTrue k.variables
open_in_alphabet k c st d a b ts us over o all ha hb = go over o
  where
    go : AreOverItem d a b ts us → HasOpenArgument c st d ts ⊎ HasOpenArgument c st d us → IsTrue k.variables
    go (adts p q) (inl o) = open_argument k c st d ts all (subst (IsBuiltOf k) p ha).1 o
    go (adts p q) (inr o) = open_argument k c st d us all (subst (IsBuiltOf k) q hb).1 o
    go (functions p q) (inl o) = open_argument k c st d ts all (subst (IsBuiltOf k) p ha).1 o
    go (functions p q) (inr o) = open_argument k c st d us all (subst (IsBuiltOf k) q hb).1 o

-- The lists that two types of a context are over are its.
pub over_in : (st : Store) (d : ℕ) (a b ts us : Tree) → AreOverItem d a b ts us → IsTermIn st a → IsTermIn st b →
    IsTermIn st ts × IsTermIn st us
over_in st d a b ts us (adts p q) x y = (
  in_parts st (node (adt d) ts) (subst (IsTermIn st) p x),
  in_parts st (node (adt d) us) (subst (IsTermIn st) q y),
)
over_in st d a b ts us (functions p q) x y = (
  in_parts st (node (fn_def d) ts) (subst (IsTermIn st) p x),
  in_parts st (node (fn_def d) us) (subst (IsTermIn st) q y),
)

module _ (c : Items) (st : Store) (e : Tree) (d : ℕ) (a b ts us : Tree) (before after : List Goal) where
  -- Nothing was registered.
  pub registers_none : (HasOpenArgument c st d ts ⊎ HasOpenArgument c st d us → ⊥) → after ≡ before →
      RegistersWellFormed c st e d a b ts us before after
  registers_none closed same = record { both = λ o. absurd (closed o); none = λ h. same }

-- What one list and then the other were found to be.
pub tells_either : {F : Type 0} (c : Items) (st : Store) (d : ℕ) (ts us : Tree) (b : Bool) → b ≡ false →
    (IsTrue b ↔ HasOpenArgument c st d ts) → (result : Result Bool F) → TellsOpen c st d us result →
    TellsEitherOpen c st d ts us result
tells_either c st d ts us b e h (Ok x) f = ((λ y. inr (f.0 y)), go)
  where
    go : HasOpenArgument c st d ts ⊎ HasOpenArgument c st d us → IsTrue x
    go (inl o) = absurd (false≢true (sym e ∙ h.1 o))
    go (inr o) = f.1 o
tells_either c st d ts us b e h (Err x) f = tt

-- The same while keys are added to.
pub tells_still : {Key Id Name F : Type 0} {m n : Meaning Key Id Name} (e : Extends m n) (d : Id) (xs : ArgsKey Key) →
    IsTrue (known (m.args xs)) → (was now : Store) → now ≡ was → (result : Result Bool F) →
    TellsOpen (items_of n) now (n.id d) (n.args xs) result → TellsOpen (items_of m) was (m.id d) (m.args xs) result
tells_still {m = m} {n = n} e d xs k was now same result h =
    subst (λ st. TellsOpen (items_of m) st (m.id d) (m.args xs) result) same
    (subst₂ (λ i ts. TellsOpen (items_of m) now i ts result) (e.id d) (e.args xs k)
    (subst (λ c. TellsOpen c now (n.id d) (n.args xs) result) (items_stay e) h))

-- Two types are over one item, and over one list each.
over_once : (d e : ℕ) (a b ts us xs ys : Tree) → AreOverItem d a b ts us → AreOverItem e a b xs ys →
    (d ≡ e) × (ts ≡ xs) × (us ≡ ys)
over_once d e a b ts us xs ys (adts p q) (adts x y) = ((cc), (cc), (cc))
over_once d e a b ts us xs ys (adts p q) (functions x y) = cc
over_once d e a b ts us xs ys (functions p q) (adts x y) = cc
over_once d e a b ts us xs ys (functions p q) (functions x y) = ((cc), (cc), (cc))

-- What is registered of two types over an item and lists is registered of them over whichever.
pub asks_of_over : {Key Id Name S A F : Type 0} (state : S → State Key Id Name) (before after : S) (d : DefId Id)
    (a b : TyKey Key) (ts us : ArgsKey Key) (result : Result A F) → AreOver (state before) d a b ts us →
    AsksWellFormed state before after d a b ts us result → AsksOfOver (state before) (state after) a b result
asks_of_over state before after d a b ts us (Err f) over asks = tt
asks_of_over state before after d a b ts us (Ok x) over asks = λ e xs ys h. (
    let r = state before in
    let m = r.meaning in
    let one = over_once (m.id d.0) e (m.ty a) (m.ty b) (m.args ts) (m.args us) xs ys over h in
    subst (λ i. RegistersWellFormed (items_in r) r.store r.kept.environment i (m.ty a) (m.ty b) xs ys r.goals
    (state after).goals) one.0
    (subst₂ (λ t u. RegistersWellFormed (items_in r) r.store r.kept.environment (m.id d.0) (m.ty a) (m.ty b) t u r.goals
    (state after).goals) one.1 one.2 asks))
