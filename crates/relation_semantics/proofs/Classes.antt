-- Classes of variables, and entries that stand.
use Rattle.std.proofs.Common.{◌≡◌, ◌⊎◌, ℕ, refl, sym, ap, ◌∙◌, inl, inr, subst}
use Rattle.relation_terms.specs.Heads.{VarKind, variable}
use Rattle.relation_terms.specs.Trees.{Tree, leaf}
use Rattle.relation_semantics.specs.Stores.{Store, Entry, unbound, same_as, bound_to, entry_of, entry_term, IsMade, IsSound}
use Rattle.relation_semantics.specs.Steps.{IsLater, LeadsTo, here, next, AreEquated, EntryStands}
use Rattle.relation_semantics.proofs.Standing.{made_of_term}

pub leads_through : (st : Store) (k : VarKind) (n m p : ℕ) → LeadsTo st k n m → LeadsTo st k m p → LeadsTo st k n p
leads_through st k n m p (here e) h = subst (λ z. LeadsTo st k z p) (sym e) h
leads_through st k n m p (next {p = q} e l) h = next e (leads_through st k q m p l h)

-- Leading is a function: of two variables that one leads to, one leads to the other.
pub one_leads : (st : Store) (k : VarKind) (n m p : ℕ) → LeadsTo st k n m → LeadsTo st k n p → LeadsTo st k m p ⊎ LeadsTo st k p m
one_leads st k n m p (here e) h = inl (subst (λ z. LeadsTo st k z p) e h)
one_leads st k n m p (next e l) (here d) = inr (subst (λ z. LeadsTo st k z m) d (next e l))
one_leads st k n m p (next {p = q} e l) (next {p = r} d h) =
    let same : r ≡ q = cc (e, d) in one_leads st k q m p l (subst (λ z. LeadsTo st k z p) same h)

pub class_itself : (st : Store) (k : VarKind) (n : ℕ) → AreEquated st k n n
class_itself st k n = (n, here refl, here refl)

pub class_back : (st : Store) (k : VarKind) (n m : ℕ) → AreEquated st k n m → AreEquated st k m n
class_back st k n m c = (c.0, c.2, c.1)

pub class_next : (st : Store) (k : VarKind) (n m : ℕ) → entry_of st k n ≡ same_as m → AreEquated st k n m
class_next st k n m e = (m, next e (here refl), here refl)

pub class_through : (st : Store) (k : VarKind) (n m p : ℕ) → AreEquated st k n m → AreEquated st k m p → AreEquated st k n p
class_through st k n m p c d = go (one_leads st k m c.0 d.0 c.2 d.1)
  where
    go : LeadsTo st k c.0 d.0 ⊎ LeadsTo st k d.0 c.0 → AreEquated st k n p
    go (inl h) = (d.0, leads_through st k n c.0 d.0 c.1 h, d.2)
    go (inr h) = (c.0, c.1, leads_through st k p d.0 c.0 d.2 h)

-- A variable that is made one with no other leads to itself alone.
pub leads_nowhere : (st : Store) (k : VarKind) (n r : ℕ) → ((p : ℕ) → entry_of st k n ≡ same_as p → ⊥) → LeadsTo st k n r → n ≡ r
leads_nowhere st k n r o (here e) = e
leads_nowhere st k n r o (next {p = p} e l) = absurd (o p e)

-- What one of a class has, all have, where it is handed on by entries.
leads_alike : (st : Store) (k : VarKind) (v : ℕ → Tree) → ((n p : ℕ) → entry_of st k n ≡ same_as p → v n ≡ v p) → (n m : ℕ) → LeadsTo st k n m → v n ≡ v m
leads_alike st k v f n m (here e) = ap v e
leads_alike st k v f n m (next {p = p} e l) = f n p e ∙ leads_alike st k v f p m l

pub class_alike : (st : Store) (k : VarKind) (v : ℕ → Tree) → ((n p : ℕ) → entry_of st k n ≡ same_as p → v n ≡ v p) → (n m : ℕ) → AreEquated st k n m → v n ≡ v m
class_alike st k v f n m c = leads_alike st k v f n c.0 c.1 ∙ sym (leads_alike st k v f m c.0 c.2)

-- All of a variable's class are the context's.
module _ (st : Store) (g : IsSound st) (k : VarKind) where
  leads_made : (n m : ℕ) → LeadsTo st k n m → IsMade st k n → IsMade st k m
  leads_made n m (here e) h = subst (IsMade st k) e h
  leads_made n m (next {p = p} e l) h =
      leads_made p m l (made_of_term st k p (g.bindings k n (leaf (variable k p)) (ap (entry_term k) e)).is_in)

  leads_back : (n m : ℕ) → LeadsTo st k n m → IsMade st k m → IsMade st k n
  leads_back n m (here e) h = subst (IsMade st k) (sym e) h
  leads_back n m (next {p = p} e l) h = (g.bindings k n (leaf (variable k p)) (ap (entry_term k) e)).made

  pub class_made : (n m : ℕ) → AreEquated st k n m → IsMade st k n → IsMade st k m
  class_made n m c h = leads_back m c.0 c.2 (leads_made n c.0 c.1 h)

-- Entries that stand.
pub entry_kept : (st : Store) (k : VarKind) (x y : Entry) → y ≡ x → EntryStands st k x y
entry_kept st k unbound y e = tt
entry_kept st k (same_as m) y e = (m, e, class_itself st k m)
entry_kept st k (bound_to t) y e = e

module _ (before after : Store) (l : IsLater before after) (k : VarKind) where
  pub stands_from : (n : ℕ) (x : Entry) → entry_of before k n ≡ x → EntryStands after k x (entry_of after k n)
  stands_from n x e = subst (λ z. EntryStands after k z (entry_of after k n)) e (l.entries_stand k n)

  pub binding_later : (n : ℕ) (t : Tree) → entry_of before k n ≡ bound_to t → entry_of after k n ≡ bound_to t
  binding_later n t e = stands_from n (bound_to t) e

  leads_later : (n m : ℕ) → LeadsTo before k n m → AreEquated after k n m
  leads_later n m (here e) = subst (AreEquated after k n) e (class_itself after k n)
  leads_later n m (next {p = p} e h) = on (stands_from n (same_as p) e) (leads_later p m h)
    where
      on : EntryStands after k (same_as p) (entry_of after k n) → AreEquated after k p m → AreEquated after k n m
      on s c = class_through after k n s.0 m (class_next after k n s.0 s.1)
          (class_through after k s.0 p m (class_back after k p s.0 s.2) c)

  -- Classes stay together.
  pub class_later : (n m : ℕ) → AreEquated before k n m → AreEquated after k n m
  class_later n m c = class_through after k n c.0 m (leads_later n c.0 c.1) (class_back after k m c.0 (leads_later m c.0 c.2))

  pub stands_through : (x y z : Entry) → EntryStands before k x y → EntryStands after k y z → EntryStands after k x z
  stands_through unbound y z a b = tt
  stands_through (same_as m) y z a b = on (subst (λ i. EntryStands after k i z) a.1 b)
    where
      on : EntryStands after k (same_as a.0) z → EntryStands after k (same_as m) z
      on c = (c.0, c.1, class_through after k m a.0 c.0 (class_later m a.0 a.2) c.2)
  stands_through (bound_to t) y z a b = subst (λ i. EntryStands after k i z) a b
