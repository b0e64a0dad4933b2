-- Following type variables that are bound to others ends.
use Rattle.std.proofs.Common.{◌≡◌, ◌≢◌, ◌<◌, ◌≤◌, ℕ, zero, suc, refl, sym, ap, ◌∙◌, arith, subst, Option, None, Some}
use Rattle.relation_terms.specs.Heads.{VarKind, variable, bound, placeholder, atom, unknown}
use Rattle.relation_terms.specs.Trees.{Tree, leaf, node, bind, nil, cons, Leaves, apply}
use Rattle.relation_semantics.specs.Stores.{Store, IsSound, IsFree, unbound, entry_of, entry_term, bound_term, resolve, resolved, rounds_for, all_taken}
use Rattle.relation_semantics.specs.Steps.{LeadsTo, here, next}
use Rattle.relation_semantics.proofs.Resolved.{resolve_start, resolve_bound, HasTerm, is_free, is_bound, has_term}
use Rattle.relation_reference.specs.Answers.{Found, found_root, found_term}

-- One more than what is counted of the variable that is the term, if it is one.
abbrev pub linked : (VarKind → ℕ → ℕ) → Option Tree → ℕ
linked f (Some (leaf (variable k n))) = suc (f k n)
linked f o = 0

-- How many variables are followed from one, in so many rounds.
unfoldable pub links : ℕ → Store → VarKind → ℕ → ℕ
links zero st k n = 0
links (suc f) st k n = linked (links f st) (bound_term st k n)

-- How many variables are followed from one.
unfoldable pub chain : Store → VarKind → ℕ → ℕ
chain st = links (rounds_for (all_taken st)) st

-- How many are from a type: the measure of reading it.
abbrev pub followed : Store → Tree → ℕ
followed st t = linked (chain st) (Some t)

links_next : (f : ℕ) (st : Store) (k : VarKind) (n : ℕ) (o : Option Tree) → bound_term st k n ≡ o → links (suc f) st k n ≡ linked (links f st) o
unfolding links
links_next f st k n o e = ap (linked (links f st)) e

links_none : (st : Store) (k : VarKind) (n : ℕ) → links zero st k n ≡ 0
unfolding links
links_none st k n = refl

-- What has settled has all of its links.
links_stay : (f : ℕ) (st : Store) (k : VarKind) (n : ℕ) → Leaves (IsFree st) (resolve f st k n) → links (suc f) st k n ≡ links f st k n
links_stay zero st k n h = links_next zero st k n None (resolve_start st k n h) ∙ sym (links_none st k n)
links_stay (suc f) st k n h = go (links_stay f st) (has_term st k n)
  where
    over : ((j : VarKind) (m : ℕ) → Leaves (IsFree st) (resolve f st j m) → links (suc f) st j m ≡ links f st j m) →
        (t : Tree) → bound_term st k n ≡ Some t → Leaves (IsFree st) (apply (resolve f st) t) → linked (links (suc f) st) (Some t) ≡ linked (links f st) (Some t)
    over on (leaf (variable j m)) e d = ap suc (on j m d)
    over on (leaf (bound j a b)) e d = refl
    over on (leaf (placeholder j a b)) e d = refl
    over on (leaf (atom x)) e d = refl
    over on (leaf unknown) e d = refl
    over on (node x ts) e d = refl
    over on (bind x y) e d = refl
    over on nil e d = refl
    over on (cons x y) e d = refl

    go : ((j : VarKind) (m : ℕ) → Leaves (IsFree st) (resolve f st j m) → links (suc f) st j m ≡ links f st j m) → HasTerm st k n → links (suc (suc f)) st k n ≡ links (suc f) st k n
    go on (is_free e) = links_next (suc f) st k n None e ∙ sym (links_next f st k n None e)
    go on (is_bound t e) = links_next (suc f) st k n (Some t) e ∙ over on t e (subst (Leaves (IsFree st)) (resolve_bound f st k n t e) h) ∙ sym (links_next f st k n (Some t) e)

fewer : (f : ℕ) (st : Store) (k j : VarKind) (n m : ℕ) → Leaves (IsFree st) (resolve f st k n) → bound_term st k n ≡ Some (leaf (variable j m)) → links f st k n ≡ suc (links f st j m)
fewer zero st k j n m h e = absurd (let q = resolve_start st k n h in cc (q, e))
fewer (suc f) st k j n m h e = links_next f st k n (Some (leaf (variable j m))) e ∙
    ap suc (sym (links_stay f st j m (subst (Leaves (IsFree st)) (resolve_bound f st k n (leaf (variable j m)) e) h)))

-- A variable whose term is a variable has one link more than that one.
chains_end : (st : Store) (k j : VarKind) (n m : ℕ) → IsSound st → bound_term st k n ≡ Some (leaf (variable j m)) → chain st j m < chain st k n
unfolding chain resolved
chains_end st k j n m g e = let q = fewer (rounds_for (all_taken st)) st k j n m (g.settles k n) e in omega (arith, q)

leads_falls : (st : Store) (k : VarKind) (n r : ℕ) → IsSound st → LeadsTo st k n r → chain st k r ≤ chain st k n
leads_falls st k n r g (here e) = let q = ap (chain st k) e in omega (arith, q)
leads_falls st k n r g (next {p = p} e l) =
    let a = chains_end st k k n p g (ap (entry_term k) e) in
    let b = leads_falls st k p r g l in omega (arith, a, b)

root_falls : (st : Store) (k : VarKind) (n r : ℕ) → IsSound st → entry_of st k n ≢ unbound → entry_of st k r ≡ unbound → LeadsTo st k n r → chain st k r < chain st k n
root_falls st k n r g o f (here e) = absurd (o (ap (entry_of st k) e ∙ f))
root_falls st k n r g o f (next {p = p} e l) =
    let a = chains_end st k k n p g (ap (entry_term k) e) in
    let b = leads_falls st k p r g l in omega (arith, a, b)

-- What is found for a variable of which something is recorded has fewer to follow.
pub found_falls : (st : Store) (k : VarKind) (n : ℕ) (t u : Tree) → IsSound st → t ≡ leaf (variable k n) → entry_of st k n ≢ unbound → Found st k n u → followed st u < followed st t
found_falls st k n t u g e o f = subst (λ z. followed st u < followed st z) (sym e) (go f)
  where
    of_term : (r : ℕ) → LeadsTo st k n r → (u : Tree) → bound_term st k r ≡ Some u → followed st u < suc (chain st k n)
    of_term r l (leaf (variable j m)) q =
        let a = chains_end st k j r m g q in
        let b = leads_falls st k n r g l in omega (arith, a, b)
    of_term r l (leaf (bound j a b)) q = omega arith
    of_term r l (leaf (placeholder j a b)) q = omega arith
    of_term r l (leaf (atom x)) q = omega arith
    of_term r l (leaf unknown) q = omega arith
    of_term r l (node h ts) q = omega arith
    of_term r l (bind ks x) q = omega arith
    of_term r l nil q = omega arith
    of_term r l (cons x y) q = omega arith

    go : Found st k n u → followed st u < suc (chain st k n)
    go (found_root r l f q) =
        let a = root_falls st k n r g o f l in
        subst (λ z. followed st z < suc (chain st k n)) (sym q) (omega (arith, a))
    go (found_term r l q) = of_term r l u (ap (entry_term k) q)
