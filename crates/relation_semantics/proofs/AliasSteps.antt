-- What types are read as, what becomes a variable, and sizes and forms where a variable is bound.
use Rattle.std.proofs.Common.{◌≡◌, ◌⊎◌, ℕ, suc, ◌+◌, ◌*◌, ◌≤◌, refl, sym, ap, ap₂, ◌∙◌, arith, inl, inr, subst, None, [], Some, length}
use Rattle.std.proofs.Math.Nat.{mul-suc, suc-mul}
use Rattle.relation_terms.specs.Heads.{VarKind, type_var, const_var, region_var, region_kind, bound_kind, Leaf, variable, placeholder, atom, static_region, early_region}
use Rattle.relation_terms.specs.Trees.{Tree, leaf}
use Rattle.term_enums.specs.declared.StructurallyRelateAliases.{StructurallyRelateAliases}
use Rattle.term_enums.specs.declared.StructurallyRelateAliases.TheVariants.{No}
use Rattle.relation_semantics.specs.Relation.{IsAlias, Items}
use Rattle.relation_semantics.specs.Stores.{Store, Entry, unbound, same_as, bound_to, entry_of, entry_term, bound_term}
use Rattle.relation_semantics.specs.Steps.{LeadsTo, here}
use Rattle.relation_semantics.specs.Generalising.{Stage, Side, any_part, Turn, gives_way_to, Generalised, met_before, met_first, no_type, stays, gives_way, alias_gives_way, by_parts, in_binder, no_parts, next_part}
use Rattle.relation_semantics.specs.Parts.{IsRigid}
use Rattle.relation_semantics.specs.Errors.{IsReadAs, itself, by_class, by_binding}
use Rattle.relation_semantics.specs.Resolving.{IsShallow, root, stays_bound, formed}
use Rattle.relation_semantics.specs.Measures.{grown}
use Rattle.term_enums.specs.declared.Variance.{Variance}
use Rattle.relation_semantics.proofs.Classes.{leads_through, one_leads, class_back, leads_nowhere}

-- What a variable is read as, by its root.
data RootRead (st : Store) (k : VarKind) (r : ℕ) (y : Tree) : Type 0 where
  unbound_root : entry_of st k r ≡ unbound → y ≡ leaf (variable k r) → RootRead st k r y
  bound_root : (w : Tree) → entry_of st k r ≡ bound_to w → IsReadAs st w y → RootRead st k r y

pub free_entry : (st : Store) (k : VarKind) (n : ℕ) → bound_term st k n ≡ None → entry_of st k n ≡ unbound
free_entry st k n e = go (entry_of st k n) refl
  where
    go : (x : Entry) → entry_of st k n ≡ x → entry_of st k n ≡ unbound
    go unbound q = q
    go (same_as m) q = absurd (let z = ap (entry_term k) q in cc (e, z))
    go (bound_to t) q = absurd (let z = ap (entry_term k) q in cc (e, z))

pub shallow_free : (st : Store) (k : VarKind) (n : ℕ) (y : Tree) → y ≡ leaf (variable k n) → IsShallow st y → entry_of st k n ≡ unbound
shallow_free st k n y e (root j m d o) = let p : leaf (variable j m) ≡ leaf (variable k n) = sym d ∙ e in let a : j ≡ k = cc in let b : m ≡ n = cc in free_entry st k n (ap₂ (bound_term st) (sym a) (sym b) ∙ o)
shallow_free st k n y e (stays_bound q d i p) = absurd (cc (e, p))
shallow_free st k n y e (formed h) = absurd (subst IsRigid e h)

root_read : (st : Store) (k : VarKind) (n r : ℕ) (z y : Tree) → LeadsTo st k n r → ((p : ℕ) → entry_of st k r ≡ same_as p → ⊥) → z ≡ leaf (variable k n) → IsReadAs st z y → IsShallow st y → RootRead st k r y
root_read st k n r z y l o q (itself e) s = let free = shallow_free st k n y (sym e ∙ q) s in
    let same : n ≡ r = leads_nowhere st k n r (λ p d. cc (free, d)) l in
    unbound_root (ap (entry_of st k) (sym same) ∙ free) (sym e ∙ q ∙ ap (λ i. leaf (variable k i)) same)
root_read st k n r z y l o q (by_class j i m e c d) s = let p : leaf (variable j i) ≡ leaf (variable k n) = sym e ∙ q in let a : j ≡ k = cc in let b : i ≡ n = cc in
    root_read st k m r (leaf (variable j m)) y (other a b) o (ap (λ h. leaf (variable h m)) a) d s
  where
    other : j ≡ k → i ≡ n → LeadsTo st k m r
    other a b = go (one_leads st k n c.0 r (subst (λ h. LeadsTo st h n c.0) a (subst (λ h. LeadsTo st j h c.0) b c.1)) l)
      where
        back : LeadsTo st k m c.0
        back = subst (λ h. LeadsTo st h m c.0) a c.2

        go : LeadsTo st k c.0 r ⊎ LeadsTo st k r c.0 → LeadsTo st k m r
        go (inl h) = leads_through st k m c.0 r back h
        go (inr h) = subst (λ h. LeadsTo st k m h) (sym (leads_nowhere st k r c.0 o h)) back
root_read st k n r z y l o q (by_binding {u = u} j i e b d) s = let p : leaf (variable j i) ≡ leaf (variable k n) = sym e ∙ q in let a : j ≡ k = cc in let h : i ≡ n = cc in
    let bound : entry_of st k n ≡ bound_to u = ap₂ (entry_of st) (sym a) (sym h) ∙ b in
    let same : n ≡ r = leads_nowhere st k n r (λ g f. cc (bound, f)) l in bound_root u (ap (entry_of st k) (sym same) ∙ bound) d

-- What is read at once is read as nothing else.
read_shallow : (st : Store) (x y : Tree) → IsShallow st x → IsReadAs st x y → IsShallow st y → x ≡ y
read_shallow st x y (root k n e o) d s = go (root_read st k n n x y (here refl) (λ p q. let f = free_entry st k n o in cc (f, q)) e d s)
  where
    go : RootRead st k n y → x ≡ y
    go (unbound_root f g) = e ∙ sym g
    go (bound_root w f g) = absurd (let h = free_entry st k n o in cc (f, h))
read_shallow st x y (stays_bound q d i e) (itself p) s = p
read_shallow st x y (stays_bound q d i e) (by_class k n m p c r) s = absurd (cc (e, p))
read_shallow st x y (stays_bound q d i e) (by_binding k n p b r) s = absurd (cc (e, p))
read_shallow st x y (formed h) (itself p) s = p
read_shallow st x y (formed h) (by_class k n m p c r) s = absurd (subst IsRigid p h)
read_shallow st x y (formed h) (by_binding k n p b r) s = absurd (subst IsRigid p h)

-- A type is read at once as one type alone.
pub reads_once : (st : Store) (t x y : Tree) → IsReadAs st t x → IsReadAs st t y → IsShallow st x → IsShallow st y → x ≡ y
reads_once st t x y (itself e) d s h = read_shallow st x y s (subst (λ z. IsReadAs st z y) e d) h
reads_once st t x y (by_class k n m e c r) d s h = reads_once st (leaf (variable k m)) x y r (by_class k m n refl (class_back st k n m c) (subst (λ z. IsReadAs st z y) e d)) s h
reads_once st t x y (by_binding {u = u} k n e b r) d s h = go (root_read st k n n t y (here refl) (λ p q. cc (b, q)) e d h) (λ w. reads_once st u x y r w s h)
  where
    go : RootRead st k n y → (IsReadAs st u y → x ≡ y) → x ≡ y
    go (unbound_root f g) on = absurd (cc (b, f))
    go (bound_root w f g) on = let z : w ≡ u = cc (b, f) in on (subst (λ i. IsReadAs st i y) z g)

-- Which leaves give way to a type variable.
gives_type : (l : Leaf) → gives_way_to l ≡ Some type_var → (i : ℕ) × (leaf l ≡ leaf (variable type_var i))
gives_type (variable type_var m) e = (m, refl)
gives_type (variable const_var m) e = absurd cc
gives_type (variable region_var m) e = absurd cc
gives_type (placeholder (bound_kind region_kind x) w i) e = absurd cc
gives_type (atom static_region) e = absurd cc
gives_type (atom (early_region i x)) e = absurd cc
gives_type l e = absurd cc

becomes_variable : {al : StructurallyRelateAliases} {c : _} {start : Store} {k : VarKind} {n : ℕ} {turn : Turn} {r q : Stage} {t x : Tree} → Generalised al c start k n turn r t q x → r.met ≡ [] → (m : ℕ) → x ≡ leaf (variable type_var m) → ((al ≡ No) × IsAlias t) ⊎ ((i : ℕ) × (t ≡ leaf (variable type_var i)))
becomes_variable (met_before s d) e m p = absurd (let l = d.1 in let z = ap length e in omega (arith, l, z))
becomes_variable (met_first s f g d h) e m p = becomes_variable g e m p
becomes_variable (no_type s g) e m p = becomes_variable g e m p
becomes_variable (stays {l = l} o s) e m p = inr (m, p)
becomes_variable (gives_way {l = l} {j = j} o s g b d) e m p = let a : j ≡ type_var = cc in let z = gives_type l (g ∙ ap Some a) in inr z
becomes_variable (alias_gives_way p s b d) e m q = inl (p, tt)
becomes_variable (by_parts z g) e m p = absurd cc
becomes_variable (in_binder g) e m p = absurd cc
becomes_variable no_parts e m p = absurd cc
becomes_variable (next_part g s) e m p = absurd cc

-- What becomes a type variable is an alias, where aliases are left to goals, or a type variable.
pub variables_come_of_aliases : (g : StructurallyRelateAliases) (c : Items) (start : Store) (k : VarKind) (n m : ℕ) (e : Side)
    (v : Variance) (r q : Stage) (t : Tree) → r.met ≡ [] →
    Generalised g c start k n (any_part e v) r t q (leaf (variable type_var m)) →
    ((g ≡ No) × IsAlias t) ⊎ ((i : ℕ) × (t ≡ leaf (variable type_var i)))
variables_come_of_aliases g c start k n m e v r q t none f = becomes_variable f none m refl

-- A variable of size 1 and its source: after the binding the bound term and the source weigh no more than the square.
pub no_larger : (x y n : ℕ) → x ≤ n → y ≤ grown 1 n → x + y ≤ grown 1 (suc n)
no_larger x y n p q = let h : n * n + n + n + 1 ≡ suc n * suc n = square n in omega (arith, p, q, h)
  where
    square : (n : ℕ) → n * n + n + n + 1 ≡ suc n * suc n
    square n = let a = mul-suc (suc n) n in let b = suc-mul n n in omega (arith, a, b)
