-- Types that were met, as a memory keeps them.
use Rattle.std.proofs.Common.{◌≡◌, zero, suc, ◌⊎◌, inl, inr, refl, sym, ap, ap₂, ◌∙◌, arith, subst, IsTrue, Bool, true, false, cond, ◌&&◌, Option, Some, None, IfSome, IfNone, List, [], ◌∷◌, Contains}
use Rattle.std.proofs.lemmas.Bool.{and_parts}
use Rattle.std.specs.Bool.{beq}
use Rattle.std.specs.Cmp.{IsEquivalence}
use Rattle.std.proofs.lemmas.Bool.{false≢true}
use Rattle.term_enums.specs.declared.Variance.TheVariants.{Covariant, Contravariant, Invariant, Bivariant}
use Rattle.term_enums.specs.contracts.VariancePartialEq.TheImpl as variance_impl
use Rattle.std.specs.HashMap.{HashMap, get, IsEmpty}
use Rattle.std.specs.Map.{lookup}
use Rattle.term_enums.specs.declared.Variance.{Variance}
use Rattle.relation_terms.specs.declared.terms.keys.TyKey.{TyKey}
use Rattle.relation_terms.specs.Trees.{Tree, known}
use Rattle.relation_terms.specs.Interning.{AreEqualAsTrees}
use Rattle.relation_terms.specs.Meaning.{Meaning, Extends}
use Rattle.relation_terms.proofs.Stays.{knows_as}
use Rattle.relation_semantics.specs.Generalising.{Met}
use Rattle.relation_reference.specs.declared.context.generalising.MetKey.{MetKey}
use Rattle.relation_reference.specs.Generalises.{side_of, met_at, IsSure, WasMet, IsFound, Keeps}
use Rattle.relation_terms.proofs.Same.{bool_same, bool_self}
use Rattle.std.specs.Cmp.Derive.{both_true}
use Rattle.relation_folds.proofs.Lists.{first_in}

-- What a list with one more in front contains.
pub contains_cases : {A : Type 0} (y x : A) (ys : List A) → Contains (y ∷ ys) x → (y ≡ x) ⊎ Contains ys x
contains_cases y x ys (zero, h, e) = inl e
contains_cases y x ys (suc i, h, e) = inr (i, omega (arith, h), e)

pub contains_later : {A : Type 0} (y x : A) (xs : List A) → Contains xs x → Contains (y ∷ xs) x
contains_later y x xs h = let l = h.1 in (suc h.0, omega (arith, l), h.2)

-- A memory without entries.
pub sure_none : {Key Id Name S : Type 0} (eq : MetKey Key → MetKey Key → Bool) (m : Meaning Key Id Name) (memory : HashMap (MetKey Key) (TyKey Key) S) → IsEmpty memory → IsSure eq m memory
sure_none eq m memory u = λ q x e. let h : Some x ≡ None = sym e ∙ ap (λ es. lookup (eq q) es) u in absurd (cc)

pub keeps_none : {Key Id Name S : Type 0} (eq : MetKey Key → MetKey Key → Bool) (m : Meaning Key Id Name) (memory : HashMap (MetKey Key) (TyKey Key) S) → IsEmpty memory → Keeps eq m memory []
keeps_none eq m memory u = record {
  found = λ q x e. let h : Some x ≡ None = sym e ∙ ap (λ es. lookup (eq q) es) u in absurd (cc);
  kept = λ d h. let l = h.1 in absurd (omega (arith, l));
}

-- While the interner grows.
module _ {Key Id Name S : Type 0} {m n : Meaning Key Id Name} (e : Extends m n) (eq : MetKey Key → MetKey Key → Bool) (memory : HashMap (MetKey Key) (TyKey Key) S) where
  pub sure_grows : IsSure eq m memory → IsSure eq n memory
  sure_grows s = λ q x h. knows_as (m.ty x) (n.ty x) (e.ty x (s q x h)) (s q x h)

  pub keeps_grows : IsSure eq m memory → (es : List Met) → Keeps eq m memory es → Keeps eq n memory es
  keeps_grows s es k = record {
    found = λ q x h. let f = k.found q x h in record {
      key = f.key;
      same = f.same;
      there = knows_as (m.ty f.key.ty) (n.ty f.key.ty) (e.ty f.key.ty f.there) f.there;
      met = subst (Contains es) (ap₂ (met_at (side_of f.key.inside) f.key.variance) (sym (e.ty f.key.ty f.there)) (sym (e.ty x (s q x h)))) f.met;
    };
    kept = λ d h. let f = k.kept d h in record {
      key = f.key;
      became = f.became;
      side = f.side;
      variance = f.variance;
      there = knows_as (m.ty f.key.ty) (n.ty f.key.ty) (e.ty f.key.ty f.there) f.there;
      type = e.ty f.key.ty f.there ∙ f.type;
      found = f.found;
      sure = knows_as (m.ty f.became) (n.ty f.became) (e.ty f.became f.sure) f.sure;
      term = e.ty f.became f.sure ∙ f.term;
    };
  }

-- Types are looked for by their sides, their variances and their keys.
abbrev pub variance_eq : Variance → Variance → Bool
variance_eq = variance_impl.ghosts.eq

abbrev pub met_eq : {Key : Type 0} → (Key → Key → Bool) → MetKey Key → MetKey Key → Bool
met_eq eq x y = beq x.inside y.inside && (variance_eq x.variance y.variance && eq (x.ty).0 (y.ty).0)

-- How they are looked for, but for their sides.
abbrev late_eq : {Key : Type 0} → (Key → Key → Bool) → MetKey Key → MetKey Key → Bool
late_eq eq x y = variance_eq x.variance y.variance && eq (x.ty).0 (y.ty).0

-- Both sides are told apart.
side_same : (a b : Bool) → side_of a ≡ side_of b → a ≡ b
side_same true true e = refl
side_same false false e = refl
side_same true false e = absurd (cc)
side_same false true e = absurd (cc)

variance_same : (a b : Variance) → IsTrue (variance_eq a b) → a ≡ b
variance_same Covariant Covariant h = refl
variance_same Contravariant Contravariant h = refl
variance_same Invariant Invariant h = refl
variance_same Bivariant Bivariant h = refl
variance_same _ _ h = absurd (false≢true h)

variance_self : (a : Variance) → IsTrue (variance_eq a a)
variance_self Covariant = refl
variance_self Contravariant = refl
variance_self Invariant = refl
variance_self Bivariant = refl

module _ {Key : Type 0} (eq : Key → Key → Bool) (laws : IsEquivalence eq) where
  pub met_self : (q : MetKey Key) → met_eq eq q q ≡ true
  met_self q = both_true (bool_self q.inside) (both_true (variance_self q.variance) (laws.refl (q.ty).0))

  pub met_congr : (p q r : MetKey Key) → met_eq eq p q ≡ true → met_eq eq p r ≡ met_eq eq q r
  met_congr p q r h =
      let a = and_parts (beq p.inside q.inside) (late_eq eq p q) h in
      let b = and_parts (variance_eq p.variance q.variance) (eq (p.ty).0 (q.ty).0) a.1 in
      ap₂ (λ x y. x && y) (ap (λ v. beq v r.inside) (bool_same p.inside q.inside a.0))
      (ap₂ (λ x y. x && y) (ap (λ v. variance_eq v r.variance) (variance_same p.variance q.variance b.0)) (laws.congr (p.ty).0 (q.ty).0 (r.ty).0 b.1))

-- Two keys of one side, one variance and one type.
pub record AreAlikeKeys {Key Id Name : Type 0} (m : Meaning Key Id Name) (p q : MetKey Key) : Type 0 where
  pub inside : p.inside ≡ q.inside
  pub variance : p.variance ≡ q.variance
  pub type : m.ty p.ty ≡ m.ty q.ty

module _ {Key Id Name : Type 0} (m : Meaning Key Id Name) (eq : Key → Key → Bool) (same_ty : AreEqualAsTrees m.ty (λ k l. eq k.0 l.0)) where
  pub met_alike : (p q : MetKey Key) → IsTrue (known (m.ty p.ty)) → IsTrue (known (m.ty q.ty)) → IsTrue (met_eq eq p q) → AreAlikeKeys m p q
  met_alike p q k l h =
      let a = and_parts (beq p.inside q.inside) (late_eq eq p q) h in
      let b = and_parts (variance_eq p.variance q.variance) (eq (p.ty).0 (q.ty).0) a.1 in
      record {
        inside = bool_same p.inside q.inside a.0;
        variance = variance_same p.variance q.variance b.0;
        type = (same_ty p.ty q.ty k l).0 b.1;
      }

  pub met_equal : (p q : MetKey Key) → IsTrue (known (m.ty p.ty)) → IsTrue (known (m.ty q.ty)) → AreAlikeKeys m p q → met_eq eq p q ≡ true
  met_equal p q k l a = both_true (subst (λ w. IsTrue (beq p.inside w)) a.inside (bool_self p.inside))
      (both_true (subst (λ w. IsTrue (variance_eq p.variance w)) a.variance (variance_self p.variance)) ((same_ty p.ty q.ty k l).1 a.type))

-- Keys that are equal find the same.
lookup_same : {K X : Type 0} (eq : K → K → Bool) → ((p q r : K) → eq p q ≡ true → eq p r ≡ eq q r) → (p q : K) → eq p q ≡ true → (es : List (K × X)) → lookup (eq p) es ≡ lookup (eq q) es
lookup_same eq congr p q h [] = refl
lookup_same eq congr p q h (e ∷ es) = ap₂ (λ b o. cond b (Some e.1) o) (congr p q e.0 h) (lookup_same eq congr p q h es)

-- Where equal keys are of one side and variance and mean one tree, and the other way round.
module _ {Key Id Name S : Type 0} (m : Meaning Key Id Name) (eq : MetKey Key → MetKey Key → Bool) (self : (q : MetKey Key) → eq q q ≡ true) (congr : (p q r : MetKey Key) → eq p q ≡ true → eq p r ≡ eq q r)
    (alike : (p q : MetKey Key) → IsTrue (known (m.ty p.ty)) → IsTrue (known (m.ty q.ty)) → IsTrue (eq p q) → AreAlikeKeys m p q)
    (equal : (p q : MetKey Key) → IsTrue (known (m.ty p.ty)) → IsTrue (known (m.ty q.ty)) → AreAlikeKeys m p q → eq p q ≡ true)
    (memory : HashMap (MetKey Key) (TyKey Key) S) (q : MetKey Key) (there : IsTrue (known (m.ty q.ty))) where
  -- What became a term there.
  abbrev here : Tree → Met
  here x = met_at (side_of q.inside) q.variance (m.ty q.ty) x

  moved : (es : List Met) (p : MetKey Key) → AreAlikeKeys m p q → (x : Tree) → Contains es (met_at (side_of p.inside) p.variance (m.ty p.ty) x) → Contains es (here x)
  moved es p a x h = subst (λ s. Contains es (met_at (side_of s) q.variance (m.ty q.ty) x)) a.inside
      (subst (λ v. Contains es (met_at (side_of p.inside) v (m.ty q.ty) x)) a.variance
      (subst (λ t. Contains es (met_at (side_of p.inside) p.variance t x)) a.type h))

  pub recalled : (o : Option (TyKey Key)) → o ≡ get eq memory q → IfSome o (λ x. (es : List Met) → Keeps eq m memory es → Contains es (here (m.ty x)))
  recalled None e = tt
  recalled (Some x) e = λ es k. let f = k.found q x (sym e) in moved es f.key (alike f.key q f.there there f.same) (m.ty x) f.met

  pub recalled_none : (o : Option (TyKey Key)) → o ≡ get eq memory q → IfNone o ((es : List Met) → Keeps eq m memory es → (x : Tree) → Contains es (here x) → ⊥)
  recalled_none (Some x) e = tt
  recalled_none None e = λ es k x h.
      let f = k.kept (here x) h in
      let a = equal f.key q f.there there (record { inside = side_same f.key.inside q.inside f.side; variance = f.variance; type = f.type }) in
      let s = lookup_same eq congr f.key q a memory.entries in
      let t : None ≡ Some f.became = e ∙ sym s ∙ f.found in absurd (cc)

  pub recalled_sure : IsSure eq m memory → (o : Option (TyKey Key)) → o ≡ get eq memory q → IfSome o (λ x. IsTrue (known (m.ty x)))
  recalled_sure s None e = tt
  recalled_sure s (Some x) e = s q x (sym e)

  -- After one more was kept.
  module _ (new : HashMap (MetKey Key) (TyKey Key) S) (became : TyKey Key) (sure : IsTrue (known (m.ty became)))
      (updates : (p : MetKey Key) → get eq new p ≡ cond (eq q p) (Some became) (get eq memory p)) where
    one_more : (b : Bool) (x : TyKey Key) (o : Option (TyKey Key)) (P : TyKey Key → Type 0) → (IsTrue b → P became) → ((y : TyKey Key) → o ≡ Some y → P y) → cond b (Some became) o ≡ Some x → P x
    one_more true x o P f g e = let same : became ≡ x = cc in subst P same (f refl)
    one_more false x o P f g e = g x e

    pub sure_more : IsSure eq m memory → IsSure eq m new
    sure_more s = λ p x e. one_more (eq q p) x (get eq memory p) (λ y. IsTrue (known (m.ty y))) (λ h. sure) (s p) (sym (updates p) ∙ e)

    pub keeps_more : (es : List Met) → Keeps eq m memory es → ((x : Tree) → Contains es (here x) → ⊥) → Keeps eq m new (here (m.ty became) ∷ es)
    keeps_more es k new_one = record {
      found = λ p x e. one_more (eq q p) x (get eq memory p) (WasMet eq m new (here (m.ty became) ∷ es) p)
          (λ h. record { key = q; same = h; there = there; met = first_in _ es })
          (λ y h. let f = k.found p y h in record { key = f.key; same = f.same; there = f.there; met = contains_later _ _ es f.met })
          (sym (updates p) ∙ e);
      kept = λ d h. go d (contains_cases _ d es h);
    }
      where
        go : (d : Met) → (here (m.ty became) ≡ d) ⊎ Contains es d → IsFound eq m new d
        go d (inl e) = subst (IsFound eq m new) e (record {
          key = q;
          became = became;
          side = refl;
          variance = refl;
          there = there;
          type = refl;
          found = updates q ∙ ap (λ b. cond b (Some became) (get eq memory q)) (self q);
          sure = sure;
          term = refl;
        })
        go d (inr h) = let f = k.kept d h in at f (eq q f.key) refl
          where
            at : (f : IsFound eq m memory d) (b : Bool) → eq q f.key ≡ b → IsFound eq m new d
            at f true e = let a = alike q f.key there f.there e in
                absurd (new_one d.term (subst (λ s. Contains es (met_at s q.variance (m.ty q.ty) d.term)) (sym f.side ∙ ap side_of (sym a.inside))
                (subst (λ v. Contains es (met_at d.side v (m.ty q.ty) d.term)) (sym f.variance ∙ sym a.variance)
                (subst (λ t. Contains es (met_at d.side d.variance t d.term)) (sym f.type ∙ sym a.type) h))))
            at f false e = record {
              key = f.key;
              became = f.became;
              side = f.side;
              variance = f.variance;
              there = f.there;
              type = f.type;
              found = updates f.key ∙ ap (λ b. cond b (Some became) (get eq memory f.key)) e ∙ f.found;
              sure = f.sure;
              term = f.term;
            }
