-- What terms need, and whether they may be related where a context has that.
use Rattle.std.proofs.Common.{◌≡◌, ℕ, ◌<◌, ◌≤◌, List, [], ◌∷◌, ◌++◌, Option, Some, None, IfSome, IsTrue, Result, Ok, Err, IsOk, OnOk, inl, inr, length, slice_get, sym, ◌∙◌, ap, subst, arith}
use Rattle.std.specs.List.{All}
use Rattle.relation_terms.specs.Heads.{VarKind, type_var, int_var, float_var, const_var, region_var}
use Rattle.relation_terms.specs.Trees.{Tree, known}
use Rattle.relation_terms.specs.Meaning.{Meaning, Extends, arg_tree}
use Rattle.relation_terms.specs.declared.terms.generic_arg.GenericArgKind.{GenericArgKind}
use Rattle.relation_terms.specs.declared.terms.generic_arg.GenericArgKind.TheVariants.{Ty as TyArg}
use Rattle.relation_terms.specs.declared.terms.keys.TyKey.{TyKey}
use Rattle.relation_terms.proofs.Stays.{stays_arg}
use Rattle.relation_semantics.proofs.Standing.{later_term}
use Rattle.variable_tables.specs.declared.inner.InferCtxtInner.{InferCtxtInner}
use Rattle.variable_tables.specs.Tables.{store_of}
use Rattle.may_relate.specs.Fitting.{MayBeRelated}
use Rattle.text_reading.proofs.TreeLemmas.{get_more}
use Rattle.text_reading.specs.declared.naming.program.VariableKind.TheVariants.{Ty, Int, Float, Const, Region}
use Rattle.text_terms.specs.Built.{AreKnown}
use Rattle.text_asking.specs.declared.fits.Needs.{Needs}
use Rattle.text_asking.specs.declared.fits.Fit.{Fit}
use Rattle.text_asking.specs.Asking.{var_kind, variables_in}
use Rattle.text_asking.specs.Fits.{needed, HasNeeds, IsFit, AreFit}
use Rattle.text_asking.proofs.Counting.{entries_count}

-- Of a term that fits, nothing was told against it.
pub when_ok : {A E P : Type 0} (r : Result A E) → IsOk r → OnOk r P → P
when_ok (Ok x) is h = h
when_ok (Err e) is h = absurd cc

-- What holds, holds after `Ok`.
pub on_any : {A E P : Type 0} (r : Result A E) → P → OnOk r P
on_any (Ok x) h = h
on_any (Err e) h = tt

-- What holds of each holds of one that is there.
pub if_each : {A : Type 0} {P : A → Type 0} (o : Option A) → ((x : A) → P x) → IfSome o P
if_each (Some x) h = h x
if_each None h = tt

-- What is at one place twice is one.
pub same_there : {A : Type 0} (xs : List (Option A)) (i j : ℕ) (o : Option A) (x : A) → slice_get xs i ≡ Some o → j ≡ i →
    slice_get xs j ≡ Some (Some x) → o ≡ Some x
same_there xs i j o x there same found =
    let e : Some o ≡ Some (Some x) = sym there ∙ sym (ap (slice_get xs) same) ∙ found in
    cc

-- What holds of the variables of each kind holds of all.
pub of_all_kinds : (P : VarKind → Type 0) → All (λ k. P (var_kind k)) (Ty ∷ Int ∷ Float ∷ Const ∷ Region ∷ []) → (k : VarKind) → P k
of_all_kinds P h type_var = h 0 Ty (omega arith)
of_all_kinds P h int_var = h 1 Ty (omega arith)
of_all_kinds P h float_var = h 2 Ty (omega arith)
of_all_kinds P h const_var = h 3 Ty (omega arith)
of_all_kinds P h region_var = h 4 Ty (omega arith)

-- What is needed stays while variables are made and later universes entered.
pub needs_stay : {Key : Type 0} (x y : InferCtxtInner Key) (n : Needs) → ((k : VarKind) → variables_in x k ≤ variables_in y k) →
    (x.universe).0 ≤ (y.universe).0 → HasNeeds x n → HasNeeds y n
needs_stay x y n kept later h = record {
  variables = λ k. let a = h.variables k in let b = kept k in omega (arith, a, b);
  universe = omega (arith, h.universe, later);
}

module _ {Key Id Name : Type 0} where
  -- What may be related in a context may be in each one that has as much.
  pub fits_more : (m : Meaning Key Id Name) (x : InferCtxtInner Key) (n : Needs) → ((k : VarKind) → needed n k ≡ variables_in x k) →
      n.universe ≡ (x.universe).0 → (t : Tree) → MayBeRelated (store_of m x) t → (p : Meaning Key Id Name) (y : InferCtxtInner Key) →
      HasNeeds y n → MayBeRelated (store_of p y) t
  fits_more m x n many universe t may p y has = (
    later_term (store_of m x) (store_of p y)
        (λ k i made.
        let a = entries_count m x k in
        let b = entries_count p y k in
        let c = has.variables k in
        let d = many k in
        let e : i < length ((store_of m x).entries k) = made in
        omega (arith, a, b, c, d, e))
        (let u = has.universe in omega (arith, u, universe)) t may.0,
    may.1,
  )

  -- What was found of terms stays.
  pub fit_stays : {m n : Meaning Key Id Name} → Extends m n → (keys : List (Option (GenericArgKind Key))) (fits : List (Option Fit)) →
      AreKnown m keys → AreFit m keys fits → AreFit n keys fits
  fit_stays e keys fits r h i key f there found = λ p x has.
      subst (λ t. OnOk f.fits (MayBeRelated (store_of p x) t)) (sym (stays_arg e key (r i key there)))
      (h i key f there found p x has)

  -- So at first.
  pub none_fit : (m : Meaning Key Id Name) (keys : List (Option (GenericArgKind Key))) (fits : List (Option Fit)) → fits ≡ [] →
      AreFit m keys fits
  none_fit m keys fits e i key f there found =
      let none : slice_get [] i ≡ Some (Some f) = subst (λ xs. slice_get xs i ≡ Some (Some f)) e found in
      absurd cc

  -- Of one more.
  pub fit_more : (m : Meaning Key Id Name) (keys : List (Option (GenericArgKind Key))) (fits : List (Option Fit)) (o : Option Fit) →
      ((key : GenericArgKind Key) → slice_get keys (length fits) ≡ Some (Some key) → IfSome o (IsFit m key)) →
      AreFit m keys fits → AreFit m keys (fits ++ o ∷ [])
  fit_more m keys fits o new h i key f there found = elim (get_more fits o (Some f) i found) [
    | inl q ↦ h i key f there q
    | inr q ↦ subst (λ z. IfSome z (IsFit m key)) q.1 (new key (subst (λ j. slice_get keys j ≡ Some (Some key)) q.0 there))
  ]

  -- A term whose key is there is known.
  pub known_at : (m : Meaning Key Id Name) (keys : List (Option (GenericArgKind Key))) (i : ℕ) (o : Option (GenericArgKind Key)) →
      slice_get keys i ≡ Some o → AreKnown m keys → IfSome o (λ key. IsTrue (known (arg_tree m key)))
  known_at m keys i (Some key) e r = r i key e
  known_at m keys i None e r = tt

  -- A type that fits may be related in a context over a grown interner that has what it needs.
  pub fit_after : {m n : Meaning Key Id Name} → Extends m n → (t : TyKey Key) → IsTrue (known (m.ty t)) → (f : Fit) → IsFit m (TyArg t) f →
      (x : InferCtxtInner Key) → HasNeeds x f.needs → IsOk f.fits → MayBeRelated (store_of n x) (n.ty t)
  fit_after {m} {n} e t knows f fit x has is =
      subst (MayBeRelated (store_of n x)) (sym (e.ty t knows)) (when_ok f.fits is (fit n x has))
