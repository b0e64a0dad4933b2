-- What a collection of components has met, as it goes over parts.
use Rattle.std.proofs.Common.{◌≡◌, ◌<◌, ◌≤◌, ◌+◌, ◌-◌, ℕ, suc, Bool, true, false, cond, nat_lt, IsTrue, refl, sym, ap, subst, arith}
use Rattle.std.proofs.Common.{List, [], Option, Some, None, option_map, Result, Ok, Err, IsErr, OnOk, IfOk, ◌∷◌, ◌++◌, ◌∙◌}
use mathlib.Core.List.{map-append}
use Rattle.std.specs.List.{list_any}
use Rattle.std.specs.Map.{keys_of}
use Rattle.std.proofs.lemmas.Bool.{ltb-true, ltb-false}
use Rattle.relation_terms.specs.Trees.{Tree, known, size, count, nth}
use Rattle.relation_terms.specs.Meaning.{Meaning, arg_tree}
use Rattle.relation_terms.specs.Parts.{part_tree, tree_sort}
use Rattle.relation_terms.specs.declared.terms.generic_arg.GenericArgKind.{GenericArgKind}
use Rattle.relation_terms.specs.declared.terms.generic_arg.GenericArgKind.TheVariants.{Ty as TyArg, Const as ConstArg}
use Rattle.relation_terms.specs.declared.terms.keys.TyKey.{TyKey}
use Rattle.relation_terms.specs.declared.terms.part_kind.Part.{Part}
use Rattle.relation_terms.specs.declared.terms.part_kind.Part.TheVariants.{Region, Ty, Const, ValTree, Pat, ValueType}
use Rattle.relation_terms.specs.declared.terms.part_kind.Part.TheVariants.{Binder, Signature, Inputs, Existential}
use Rattle.relation_terms.specs.declared.terms.part_kind.Part.TheVariants.{Object}
use Rattle.component_parts.specs.Components.{every, components}
use Rattle.outlives.specs.Outliving.{HasAll}
use Rattle.outlives.specs.Collecting.{Settled, Meets, Keeps, kept_of}
use Rattle.outlives.specs.declared.Component.{Component}
use Rattle.outlives.proofs.Outliving.{meets_none, meets_kept, meets_after, settled_kept, adds_none}

-- What is asked of no fault, and what follows where there is a value.
pub ok_never : {E : Type 0} (P : Type 0) (r : Result (Unit {0}) E) → IsErr r → OnOk r P
ok_never P (Ok u) f = absurd (cc)
ok_never P (Err e) f = tt

pub ok_map : {E P Q : Type 0} (r : Result (Unit {0}) E) → (P → Q) → OnOk r P → OnOk r Q
ok_map (Ok u) f p = f p
ok_map (Err e) f p = tt

pub ok_both : {E P Q R : Type 0} (r : Result (Unit {0}) E) → (P → Q → R) → OnOk r P → OnOk r Q → OnOk r R
ok_both (Ok u) f p q = f p q
ok_both (Err e) f p q = tt

-- One step more.
pub next_place : (Q : ℕ → Type 0) (i j : ℕ) → j ≡ i + 1 → ((k : ℕ) → k < i → Q k) → Q i → (k : ℕ) → k < j → Q k
next_place Q i j e f q k l = decided (nat_lt k i) refl
  where
    decided : (b : Bool) → nat_lt k i ≡ b → Q k
    decided true t = f k (ltb-true k i t)
    decided false t = let o = ltb-false k i t in let is : i ≡ k = omega (arith, o, l, e) in subst Q is q

module _ {X D N : Type 0} (m : Meaning X D N) where
  module _ (eq : GenericArgKind X → GenericArgKind X → Bool)
      (same : (x y : GenericArgKind X) → IsTrue (known (arg_tree m x)) → IsTrue (known (arg_tree m y)) →
      (IsTrue (eq x y) → arg_tree m x ≡ arg_tree m y) × (arg_tree m x ≡ arg_tree m y → IsTrue (eq x y))) where
    -- A part that was kept: what is smaller is settled as before, and where the part's components were added, what is
    -- kept from now on was met.
    pub part_settled : (p : Part X D) (b : Bool) (n : ℕ) (xs ys : List (GenericArgKind X)) (cs : List (Component X D N)) →
        Keeps eq (kept_of p) b xs ys → IsTrue (known (part_tree m p)) → n ≡ size (part_tree m p) →
        Settled m eq n xs cs → Settled m eq n ys cs
    part_settled (Ty t) b n xs ys cs k h e s = settled_kept m eq same n (TyArg t) b xs ys cs h e k s
    part_settled (Const t) b n xs ys cs k h e s = settled_kept m eq same n (ConstArg t) b xs ys cs h e k s
    part_settled (Region r) b n xs ys cs k h e s = subst (λ z. Settled m eq n z cs) (sym k.1) s
    part_settled (ValTree v) b n xs ys cs k h e s = subst (λ z. Settled m eq n z cs) (sym k.1) s
    part_settled (Pat q) b n xs ys cs k h e s = subst (λ z. Settled m eq n z cs) (sym k.1) s
    part_settled (ValueType t) b n xs ys cs k h e s = subst (λ z. Settled m eq n z cs) (sym k.1) s
    part_settled (Binder vs o) b n xs ys cs k h e s = subst (λ z. Settled m eq n z cs) (sym k.1) s
    part_settled (Signature g) b n xs ys cs k h e s = subst (λ z. Settled m eq n z cs) (sym k.1) s
    part_settled (Inputs t) b n xs ys cs k h e s = subst (λ z. Settled m eq n z cs) (sym k.1) s
    part_settled (Existential q) b n xs ys cs k h e s = subst (λ z. Settled m eq n z cs) (sym k.1) s
    part_settled (Object o) b n xs ys cs k h e s = subst (λ z. Settled m eq n z cs) (sym k.1) s

    pub part_meets : (p : Part X D) (b : Bool) (xs ys : List (GenericArgKind X)) (cs : List (Component X D N)) →
        Keeps eq (kept_of p) b xs ys → IsTrue (known (part_tree m p)) → HasAll m (components every (part_tree m p)) cs →
        Meets m eq xs ys cs
    part_meets (Ty t) b xs ys cs k h a = meets_kept m eq same (TyArg t) b xs ys cs h k a
    part_meets (Const t) b xs ys cs k h a = meets_kept m eq same (ConstArg t) b xs ys cs h k a
    part_meets (Region r) b xs ys cs k h a = meets_none m eq xs ys cs k.1
    part_meets (ValTree v) b xs ys cs k h a = meets_none m eq xs ys cs k.1
    part_meets (Pat q) b xs ys cs k h a = meets_none m eq xs ys cs k.1
    part_meets (ValueType t) b xs ys cs k h a = meets_none m eq xs ys cs k.1
    part_meets (Binder vs o) b xs ys cs k h a = meets_none m eq xs ys cs k.1
    part_meets (Signature g) b xs ys cs k h a = meets_none m eq xs ys cs k.1
    part_meets (Inputs t) b xs ys cs k h a = meets_none m eq xs ys cs k.1
    part_meets (Existential q) b xs ys cs k h a = meets_none m eq xs ys cs k.1
    part_meets (Object o) b xs ys cs k h a = meets_none m eq xs ys cs k.1

    -- What was met before has its components there.
    pub part_had : (p : Part X D) (b : Bool) (n : ℕ) (xs ys : List (GenericArgKind X)) (cs : List (Component X D N)) →
        Keeps eq (kept_of p) b xs ys → b ≡ false → IsTrue (known (part_tree m p)) → n ≡ suc (size (part_tree m p)) →
        Settled m eq n xs cs → HasAll m (components every (part_tree m p)) cs
    part_had (Ty t) false n xs ys cs k f h e s = s (TyArg t) h k.0 (omega (arith, e))
    part_had (Const t) false n xs ys cs k f h e s = s (ConstArg t) h k.0 (omega (arith, e))
    part_had (Region r) false n xs ys cs k f h e s = absurd (let z = k.0 in cc)
    part_had (ValTree v) false n xs ys cs k f h e s = absurd (let z = k.0 in cc)
    part_had (Pat q) false n xs ys cs k f h e s = absurd (let z = k.0 in cc)
    part_had (ValueType t) false n xs ys cs k f h e s = absurd (let z = k.0 in cc)
    part_had (Binder vs o) false n xs ys cs k f h e s = absurd (let z = k.0 in cc)
    part_had (Signature g) false n xs ys cs k f h e s = absurd (let z = k.0 in cc)
    part_had (Inputs t) false n xs ys cs k f h e s = absurd (let z = k.0 in cc)
    part_had (Existential q) false n xs ys cs k f h e s = absurd (let z = k.0 in cc)
    part_had (Object o) false n xs ys cs k f h e s = absurd (let z = k.0 in cc)
    part_had p true n xs ys cs k f h e s = absurd (cc)

    -- A part and then what is under it.
    pub meets_on : (xs ys zs : List (GenericArgKind X)) (cs : List (Component X D N)) → Meets m eq xs ys cs →
        Meets m eq ys zs cs → Meets m eq xs zs cs
    meets_on xs ys zs cs p o = meets_after m eq xs ys zs [] cs cs (adds_none m [] cs) p o

-- What a map answers of a key that it was to keep says how it keeps that.
pub keeps_now : {T E : Type 0} (eq : T → T → Bool) (x : T) (es fs : List (T × Unit {0})) (r : Result Bool E) →
    (r ≡ Ok true → fs ≡ es ++ (x, tt) ∷ []) → (r ≡ Ok false → IsTrue (list_any (eq x) (keys_of es))) →
    (r ≡ Ok false → fs ≡ es) → IfOk r (λ new. Keeps eq (Some x) new (keys_of es) (keys_of fs))
keeps_now eq x es fs (Ok true) new met stays = ap keys_of (new refl) ∙ map-append (λ e. e.0) es ((x, tt) ∷ [])
keeps_now eq x es fs (Ok false) new met stays = (met refl, ap keys_of (stays refl))
keeps_now eq x es fs (Err e) new met stays = tt
