-- Types and constants in one universe, and the classes of their variables.
use Rattle.std.proofs.Common.{◌≡◌, ◌⊎◌, ℕ, zero, suc, ◌+◌, ◌<◌, ◌≤◌, min, refl, sym, ap, ap₂, ◌∙◌, arith, inl, inr, subst, le_trans, List, [], ◌∷◌, length, get_or}
use Rattle.relation_terms.specs.Heads.{VarKind, type_var, int_var, float_var, const_var, region_var, Leaf, variable, bound, placeholder, atom, unknown}
use Rattle.relation_terms.specs.Trees.{Tree, leaf, node, bind, nil, cons, Assign, assigned, apply, Leaves, nth, count}
use Rattle.relation_semantics.specs.Stores.{Store, Entry, unbound, same_as, bound_to, entry_of, entry_term, universe_of, IsMade, IsMadeLeaf, IsInScope, IsIntegerTerm, IsFloatTerm, IsSound, sum_over, counts_bound, all_bound, resolved}
use Rattle.relation_semantics.specs.ErasureLaws.{IsTypeOrConst}
use Rattle.relation_semantics.specs.Errors.{IsReadAs, itself, by_class, by_binding}
use Rattle.relation_semantics.specs.Generalising.{NumbersNameNothing}
use Rattle.relation_semantics.specs.OneUniverse.{NamesTypesTo, HasOneUniverse, IsPairOf, counts_unbound, all_unbound, counts_root, all_roots, KeepsUniverse, KeepsUniverseOf, LeadsInUniverse, BindsNoMore, BindsFewer}
use Rattle.relation_semantics.specs.Parts.{direct_parts, branches_of, const_parts_of}
use Rattle.relation_semantics.specs.Steps.{IsLater, IsNamedBy, Equates}
use Rattle.relation_terms.specs.Heads.{unevaluated, expression, value, value_branch}
use Rattle.relation_semantics.proofs.Classes.{stands_from}
use Rattle.relation_semantics.proofs.Only.{which}
use Rattle.relation_semantics.proofs.Resolved.{resolved_free, resolved_meets}
use Rattle.relation_semantics.proofs.Trees.{Leaves_map, Leaves_map₂, Leaves-replace}

-- What is counted, where no entry counts more than the one at its place did.
sum_over_no_more : (f : Entry → ℕ) (es fs : List Entry) → length fs ≡ length es → ((m : ℕ) → f (get_or fs m unbound) ≤ f (get_or es m unbound)) → sum_over f fs ≤ sum_over f es
sum_over_no_more f [] [] l h = omega arith
sum_over_no_more f [] (y ∷ fs) l h = absurd (omega arith)
sum_over_no_more f (x ∷ es) [] l h = absurd (omega arith)
sum_over_no_more f (x ∷ es) (y ∷ fs) l h = let p : f y ≤ f x = h 0 in let q = sum_over_no_more f es fs (omega arith) (λ m. h (suc m)) in omega (arith, p, q)

at_most_one : (e : Entry) → counts_root e ≤ 1
at_most_one unbound = omega arith
at_most_one (same_as m) = omega arith
at_most_one (bound_to t) = omega arith

-- A root is bound or unbound.
root_is : (e : Entry) → counts_root e ≡ counts_bound e + counts_unbound e
root_is unbound = refl
root_is (same_as m) = refl
root_is (bound_to t) = refl

roots_are_in : (es : List Entry) → sum_over counts_root es ≡ sum_over counts_bound es + sum_over counts_unbound es
roots_are_in [] = refl
roots_are_in (e ∷ es) = let p = root_is e in let q = roots_are_in es in omega (arith, p, q)

pub roots_are : (st : Store) → all_roots st ≡ all_bound st + all_unbound st
roots_are st = let a = roots_are_in (st.entries type_var) in let b = roots_are_in (st.entries const_var) in omega (arith, a, b)

pub bound_below : (st : Store) → all_bound st ≤ all_roots st
bound_below st = let e = roots_are st in omega (arith, e)

-- Where a type or constant variable is unbound, not all roots are bound.
one_unbound : (es : List Entry) (n : ℕ) → n < length es → get_or es n unbound ≡ unbound → 0 < sum_over counts_unbound es
one_unbound [] n l e = absurd (omega (arith, l))
one_unbound (x ∷ es) zero l e = let p : counts_unbound x ≡ 1 = ap counts_unbound e in omega (arith, p)
one_unbound (x ∷ es) (suc n) l e = let q = one_unbound es n (omega (arith, l)) e in omega (arith, q)

pub bound_fewer : (st : Store) (k : VarKind) (n : ℕ) → IsTypeOrConst k → IsMade st k n → entry_of st k n ≡ unbound → all_bound st < all_roots st
bound_fewer st type_var n h m e = let q = one_unbound (st.entries type_var) n m e in let r = roots_are st in omega (arith, q, r)
bound_fewer st const_var n h m e = let q = one_unbound (st.entries const_var) n m e in let r = roots_are st in omega (arith, q, r)
bound_fewer st k n h m e = absurd h

-- In a later state with as many variables there are no more roots.
module _ (before after : Store) (l : IsLater before after) where
  root_stays : (k : VarKind) (n : ℕ) (x : Entry) → entry_of before k n ≡ x → counts_root (entry_of after k n) ≤ counts_root (entry_of before k n)
  root_stays k n unbound e = let a = at_most_one (entry_of after k n) in let b : counts_root (entry_of before k n) ≡ 1 = ap counts_root e in omega (arith, a, b)
  root_stays k n (same_as m) e =
      let s = stands_from before after l k n (same_as m) e in
      let p : entry_of after k n ≡ same_as s.0 = s.1 in
      let c : counts_root (entry_of after k n) ≡ 0 = ap counts_root p in omega (arith, c)
  root_stays k n (bound_to t) e = let a = at_most_one (entry_of after k n) in let b : counts_root (entry_of before k n) ≡ 1 = ap counts_root e in omega (arith, a, b)

  pub roots_fall : ((k : VarKind) → IsTypeOrConst k → length (after.entries k) ≡ length (before.entries k)) → all_roots after ≤ all_roots before
  roots_fall h =
      let a = sum_over_no_more counts_root (before.entries type_var) (after.entries type_var) (h type_var tt) (λ m. root_stays type_var m (entry_of before type_var m) refl) in
      let b = sum_over_no_more counts_root (before.entries const_var) (after.entries const_var) (h const_var tt) (λ m. root_stays const_var m (entry_of before const_var m) refl) in
      omega (arith, a, b)

-- One piece of work after another.
pub keeps_itself : (st : Store) → KeepsUniverse st st
keeps_itself st u h = (h, omega arith)

pub keeps_then : (before middle after : Store) → KeepsUniverse before middle → KeepsUniverse middle after → KeepsUniverse before after
keeps_then before middle after f g u h = let z = f u h in let w = g u z.0 in (w.0, le_trans w.1 z.1)

pub keeps_pair : (before after : Store) (a b : Tree) → KeepsUniverse before after → KeepsUniverseOf before after a b
keeps_pair before after a b f u p = f u p.variables

pub kept_then : (before middle after : Store) (a b : Tree) → KeepsUniverseOf before middle a b → KeepsUniverse middle after → KeepsUniverseOf before after a b
kept_then before middle after a b f g u p = let z = f u p in let w = g u z.0 in (w.0, le_trans w.1 z.1)

pub binds_itself : (st : Store) (a b : Tree) → BindsNoMore st st a b
binds_itself st a b u p = bound_below st

pub keeps_binds : (before after : Store) (a b : Tree) → KeepsUniverseOf before after a b → BindsNoMore before after a b
keeps_binds before after a b f u p = le_trans (bound_below after) (f u p).1

-- Where no further variable is bound.
pub binds_as_many : (before middle after : Store) (a b : Tree) → all_bound after ≡ all_bound middle → BindsNoMore before middle a b → BindsNoMore before after a b
binds_as_many before middle after a b e f u p = let z = f u p in omega (arith, e, z)

pub binds_none : (before after : Store) (a b : Tree) → all_bound after ≡ all_bound before → BindsNoMore before after a b
binds_none before after a b e = binds_as_many before before after a b e (binds_itself before a b)

pub leads_itself : (st : Store) (a b : Tree) → LeadsInUniverse st st a b a b
leads_itself st a b u p = (p, omega arith)

module _ (before middle after : Store) (a b x y : Tree) (l : LeadsInUniverse before middle a b x y) where
  pub led_keeps : KeepsUniverseOf middle after x y → KeepsUniverseOf before after a b
  led_keeps f u p = let z = l u p in let w = f u z.0 in (w.0, le_trans w.1 z.1)

  pub led_binds : BindsNoMore middle after x y → BindsNoMore before after a b
  led_binds f u p = let z = l u p in le_trans (f u z.0) z.1

  pub led_fewer : BindsFewer middle after x y → BindsFewer before after a b
  led_fewer f u p = let z = l u p in let w : all_bound after < all_roots middle = f u z.0 in let v = z.1 in omega (arith, w, v)

pub led_then : (before middle after : Store) (a b x y t w : Tree) → LeadsInUniverse before middle a b x y → LeadsInUniverse middle after x y t w → LeadsInUniverse before after a b t w
led_then before middle after a b x y t w l f u p = let z = l u p in let k = f u z.0 in (k.0, le_trans k.1 z.1)

-- Other terms of leaves that stand in the universe too.
module _ (before after : Store) (a b x y : Tree) (left : (u : ℕ) → Leaves (NamesTypesTo u) a → Leaves (NamesTypesTo u) x)
    (right : (u : ℕ) → Leaves (NamesTypesTo u) b → Leaves (NamesTypesTo u) y) where
  pub pair_as : (u : ℕ) → IsPairOf u before a b → IsPairOf u before x y
  pair_as u p = record { variables = p.variables; left = left u p.left; right = right u p.right }

  pub keeps_as : KeepsUniverseOf before after x y → KeepsUniverseOf before after a b
  keeps_as f u p = f u (pair_as u p)

  pub binds_as : BindsNoMore before after x y → BindsNoMore before after a b
  binds_as f u p = f u (pair_as u p)

  pub fewer_as : BindsFewer before after x y → BindsFewer before after a b
  fewer_as f u p = f u (pair_as u p)

-- A part's leaves are the whole's.
pub leaves_nth : (P : Leaf → Type 0) (ts : Tree) (i : ℕ) → i < count ts → Leaves P ts → Leaves P (nth i ts)
leaves_nth P (cons t ts) zero l h = h.0
leaves_nth P (cons t ts) (suc i) l h = leaves_nth P ts i (omega (arith, l)) h.1
leaves_nth P (leaf x) i l h = absurd (omega (arith, l))
leaves_nth P (node g ts) i l h = absurd (omega (arith, l))
leaves_nth P (bind ks t) i l h = absurd (omega (arith, l))
leaves_nth P nil i l h = absurd (omega (arith, l))

pub leaves_parts : (P : Leaf → Type 0) (t : Tree) → Leaves P t → Leaves P (direct_parts t)
leaves_parts P (node h ts) f = f
leaves_parts P (leaf l) f = tt
leaves_parts P (bind ks t) f = tt
leaves_parts P nil f = tt
leaves_parts P (cons t ts) f = tt

leaves_branches : (P : Leaf → Type 0) (v : Tree) → Leaves P v → Leaves P (branches_of v)
leaves_branches P (node value_branch ts) f = f
leaves_branches P v f = tt

pub leaves_const_parts : (P : Leaf → Type 0) (c : Tree) → Leaves P c → Leaves P (const_parts_of c)
leaves_const_parts P (node (unevaluated d) ts) f = f
leaves_const_parts P (node (expression k) ts) f = f
leaves_const_parts P (node value (cons t (cons v nil))) f = leaves_branches P v f.1.0
leaves_const_parts P c f = tt

-- Where entries and universes stand, where an entry was written, and where two variables were made one.
pub standing_keeps : (before after : Store) → ((k : VarKind) → after.entries k ≡ before.entries k) → ((k : VarKind) → after.universes k ≡ before.universes k) → KeepsUniverse before after
standing_keeps before after entries universes u h = (
  λ k n i m. ap (λ us. get_or us n 0) (universes k) ∙ h k n i (subst (λ es. n < length es) (entries k) m),
  let a = ap (sum_over counts_root) (entries type_var) in let b = ap (sum_over counts_root) (entries const_var) in omega (arith, a, b),
)

pub written_keeps : (before after : Store) → IsLater before after → ((j : VarKind) → length (after.entries j) ≡ length (before.entries j)) → ((j : VarKind) (i : ℕ) → universe_of after j i ≡ universe_of before j i) → KeepsUniverse before after
written_keeps before after l as_many universes u h = (
  λ k n i m. universes k n ∙ h k n i (subst (λ z. n < z) (as_many k) m),
  roots_fall before after l (λ k i. as_many k),
)

min_of_one : (x y u : ℕ) → x ≡ u → y ≡ u → min x y ≡ u
min_of_one x y u e d = omega (arith, e, d)

pub equated_keeps_universe : (before after : Store) (k : VarKind) (child root : ℕ) → Equates before after k child root → IsLater before after → KeepsUniverse before after
equated_keeps_universe before after k child root q l u h = (one, roots_fall before after l (λ j i. (q.links).as_many j))
  where
    one : HasOneUniverse u after
    one j n i m = go (which j k n root)
      where
        go : ((j ≡ k) × (n ≡ root)) ⊎ (j ≡ k → n ≡ root → ⊥) → universe_of after j n ≡ u
        go (inl (a, b)) =
            let kind : IsTypeOrConst k = subst IsTypeOrConst a i in
            let below : IsMade before k root = (let s = q.smaller in let c = (q.links).made in omega (arith, s, c)) in
            ap₂ (universe_of after) a b ∙ q.lowered
            ∙ min_of_one (universe_of before k child) (universe_of before k root) u (h k child kind (q.links).made) (h k root kind below)
        go (inr o) = q.other_universes j n o ∙ h j n i (subst (λ z. n < z) ((q.links).as_many j) m)

-- What is read by the entries.
scope_names : (st : Store) (u : ℕ) (l : Leaf) → IsInScope st u l → NamesTypesTo u l
scope_names st u (variable k n) h = tt
scope_names st u (bound k d i) h = tt
scope_names st u (placeholder k w n) h = inr h
scope_names st u (atom x) h = tt
scope_names st u unknown h = tt

names_back : (s : Assign) (u : ℕ) (t : Tree) → Leaves (NamesTypesTo u) (apply s t) → Leaves (NamesTypesTo u) t
names_back s u (leaf (variable k n)) h = tt
names_back s u (leaf (bound k d i)) h = h
names_back s u (leaf (placeholder k w n)) h = h
names_back s u (leaf (atom x)) h = h
names_back s u (leaf unknown) h = h
names_back s u (node g t) h = names_back s u t h
names_back s u (bind ks t) h = names_back s u t h
names_back s u nil h = tt
names_back s u (cons t ts) h = (names_back s u t h.0, names_back s u ts h.1)

integer_names : (u : ℕ) (t : Tree) → IsIntegerTerm t → Leaves (NamesTypesTo u) t
integer_names u (leaf (variable int_var n)) h = tt
integer_names u (leaf (atom x)) h = tt
integer_names u t h = absurd h

float_names : (u : ℕ) (t : Tree) → IsFloatTerm t → Leaves (NamesTypesTo u) t
float_names u (leaf (variable float_var n)) h = tt
float_names u (leaf (atom x)) h = tt
float_names u t h = absurd h

module _ (st : Store) (g : IsSound st) (u : ℕ) (h : HasOneUniverse u st) where
  type_names : (k : VarKind) (n : ℕ) (x : Tree) → IsTypeOrConst k → entry_of st k n ≡ bound_to x → Leaves (NamesTypesTo u) x
  type_names k n x i b =
      let e = ap (entry_term k) b in
      let made = (g.bindings k n x e).made in
      names_back (resolved st) u x (subst (Leaves (NamesTypesTo u)) (resolved_meets st g k n x e)
      (Leaves_map (IsInScope st u) (NamesTypesTo u) (scope_names st u) (resolved st k n)
      (subst (λ z. Leaves (IsInScope st z) (resolved st k n)) (h k n i made) (g.in_scope k n made))))

  pub bound_names : (k : VarKind) (n : ℕ) (x : Tree) → entry_of st k n ≡ bound_to x → Leaves (NamesTypesTo u) x
  bound_names type_var n x b = type_names type_var n x tt b
  bound_names const_var n x b = type_names const_var n x tt b
  bound_names int_var n x b = integer_names u x (g.bindings int_var n x (ap (entry_term int_var) b)).stands
  bound_names float_var n x b = float_names u x (g.bindings float_var n x (ap (entry_term float_var) b)).stands
  bound_names region_var n x b = absurd (let e = g.regions_unbound n in cc (b, e))

  pub read_names : (t w : Tree) → IsReadAs st t w → Leaves (NamesTypesTo u) t → Leaves (NamesTypesTo u) w
  read_names t w (itself e) f = subst (Leaves (NamesTypesTo u)) e f
  read_names t w (by_class k n m e c r) f = read_names (leaf (variable k m)) w r tt
  read_names t w (by_binding {u = x} k n e b r) f = read_names x w r (bound_names k n x b)

  -- A variable of that universe can name all types and constants that a term comes to.
  module _ (numbers : NumbersNameNothing st) where
    scope_named : (w : ℕ) → w ≤ u → (l : Leaf) → IsInScope st w l → IsNamedBy st u l
    scope_named w low (variable type_var n) i = inr (let e = h type_var n tt i.0 in omega (arith, e))
    scope_named w low (variable const_var n) i = inr (let e = h const_var n tt i.0 in omega (arith, e))
    scope_named w low (variable int_var n) i = inr (let e = numbers int_var n tt in omega (arith, e))
    scope_named w low (variable float_var n) i = inr (let e = numbers float_var n tt in omega (arith, e))
    scope_named w low (variable region_var n) i = inl refl
    scope_named w low (bound q d i) f = tt
    scope_named w low (placeholder q v n) i = inr (le_trans i low)
    scope_named w low (atom x) i = tt
    scope_named w low unknown i = tt

    resolved_named : (k : VarKind) (n w : ℕ) → IsMade st k n → universe_of st k n ≡ w → w ≤ u → Leaves (IsNamedBy st u) (resolved st k n)
    resolved_named k n w made e low = Leaves_map (IsInScope st w) (IsNamedBy st u) (scope_named w low) (resolved st k n)
        (subst (λ z. Leaves (IsInScope st z) (resolved st k n)) e (g.in_scope k n made))

    leaf_named : (l : Leaf) → IsMadeLeaf st l → NamesTypesTo u l → Leaves (IsNamedBy st u) (assigned (resolved st) l)
    leaf_named (variable type_var n) made f = resolved_named type_var n u made (h type_var n tt made) (omega arith)
    leaf_named (variable const_var n) made f = resolved_named const_var n u made (h const_var n tt made) (omega arith)
    leaf_named (variable int_var n) made f = resolved_named int_var n 0 made (numbers int_var n tt) (omega arith)
    leaf_named (variable float_var n) made f = resolved_named float_var n 0 made (numbers float_var n tt) (omega arith)
    leaf_named (variable region_var n) made f = subst (Leaves (IsNamedBy st u)) (sym (resolved_free st region_var n (ap (entry_term region_var) (g.regions_unbound n)))) (inl refl)
    leaf_named (bound q d i) made f = tt
    leaf_named (placeholder q w n) made f = f
    leaf_named (atom x) made f = tt
    leaf_named unknown made f = tt

    pub all_named : (t : Tree) → Leaves (IsMadeLeaf st) t → Leaves (NamesTypesTo u) t → Leaves (IsNamedBy st u) (apply (resolved st) t)
    all_named t made f = Leaves-replace (IsNamedBy st u) (assigned (resolved st)) t
        (Leaves_map₂ (IsMadeLeaf st) (NamesTypesTo u) (λ l. Leaves (IsNamedBy st u) (assigned (resolved st) l)) leaf_named t made f)

-- Two terms and what they are read as.
module _ (st : Store) (g : IsSound st) (a b x y : Tree) (p : IsReadAs st a x) (q : IsReadAs st b y) where
  pub reading_leads : LeadsInUniverse st st a b x y
  reading_leads u k = (
    record {
      variables = k.variables;
      left = read_names st g u k.variables a x p k.left;
      right = read_names st g u k.variables b y q k.right;
    },
    omega arith,
  )
