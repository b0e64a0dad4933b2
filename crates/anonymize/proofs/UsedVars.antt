-- Lists of variables, and what is added to them.
use Rattle.std.proofs.Common.{◌≡◌, ℕ, suc, refl, sym, ap, ◌∙◌, subst, Bool, true, false, cond, IsSome}
use Rattle.std.proofs.Common.{List, [], ◌∷◌, ◌++◌, Option, Some, None, option_map}
use Rattle.std.proofs.lemmas.Bool.{eqb-true, eq-eqb, false≢true}
use Rattle.anonymize.specs.Anonymous.{same_var, place_in, one_more, with_vars}
use Rattle.anonymize.specs.declared.used.UsedVar.{UsedVar}
use Rattle.anonymize.specs.declared.used.UsedVar.TheVariants.{Ty, Region, Const}
use Rattle.anonymize.specs.UsedParts.{AllIn}

-- A variable is the same as itself, and as no other.
pub same_self : (u : UsedVar) → same_var u u ≡ true
same_self (Ty i) = eq-eqb i i refl
same_self (Region i) = eq-eqb i i refl
same_self (Const i) = eq-eqb i i refl

pub same_is : (u v : UsedVar) → same_var u v ≡ true → u ≡ v
same_is (Ty i) (Ty j) e = ap (λ x. Ty x) (eqb-true i j e)
same_is (Region i) (Region j) e = ap (λ x. Region x) (eqb-true i j e)
same_is (Const i) (Const j) e = ap (λ x. Const x) (eqb-true i j e)
same_is u v e = absurd (cc)

-- What is in a list stays in a longer one.
some_suc : (o : Option ℕ) → IsSome o → IsSome (option_map suc o)
some_suc (Some i) s = refl
some_suc None s = absurd (false≢true s)

some_cond : (b : Bool) (o p : Option ℕ) → IsSome o → IsSome p → IsSome (cond b o p)
some_cond true o p s t = s
some_cond false o p s t = t

some_as : (b : Bool) (o p : Option ℕ) → (IsSome o → IsSome p) → IsSome (cond b (Some 0) o) → IsSome (cond b (Some 0) p)
some_as true o p f s = refl
some_as false o p f s = f s

pre_suc : (o : Option ℕ) → IsSome (option_map suc o) → IsSome o
pre_suc (Some i) s = refl
pre_suc None s = absurd (false≢true s)

in_front : (us vs : List UsedVar) (u : UsedVar) → IsSome (place_in us u) → IsSome (place_in (us ++ vs) u)
in_front [] vs u s = absurd (false≢true s)
in_front (w ∷ us) vs u s =
    some_as (same_var w u) (option_map suc (place_in us u)) (option_map suc (place_in (us ++ vs) u))
    (λ t. some_suc (place_in (us ++ vs) u) (in_front us vs u (pre_suc (place_in us u) t))) s

in_end : (us : List UsedVar) (u : UsedVar) → IsSome (place_in (us ++ (u ∷ [])) u)
in_end [] u = subst (λ b. IsSome {T = ℕ} (cond b (Some 0) None)) (sym (same_self u)) refl
in_end (w ∷ us) u =
    some_cond (same_var w u) (Some 0) (option_map suc (place_in (us ++ (u ∷ [])) u)) refl
    (some_suc (place_in (us ++ (u ∷ [])) u) (in_end us u))

in_more : (us : List UsedVar) (w u : UsedVar) (o : Option ℕ) → IsSome (place_in us u) → IsSome (place_in (one_more us w o) u)
in_more us w u None s = in_front us (w ∷ []) u s
in_more us w u (Some i) s = s

in_itself : (us : List UsedVar) (u : UsedVar) (o : Option ℕ) → o ≡ place_in us u → IsSome (place_in (one_more us u o) u)
in_itself us u None e = in_end us u
in_itself us u (Some i) e = subst (λ z. IsSome z) e refl

pub in_later : (vs us : List UsedVar) (u : UsedVar) → IsSome (place_in us u) → IsSome (place_in (with_vars us vs) u)
in_later [] us u s = s
in_later (v ∷ vs) us u s =
    in_later vs (one_more us v (place_in us v)) u (in_more us v u (place_in us v) s)

-- All that is added is in the list; what was in it stays; and where all is in it nothing is added.
pub all_added : (vs us : List UsedVar) → AllIn (with_vars us vs) vs
all_added [] us = tt
all_added (v ∷ vs) us =
    let next = one_more us v (place_in us v) in
    (in_later vs next v (in_itself us v (place_in us v) refl), all_added vs next)

pub all_later : (xs us vs : List UsedVar) → AllIn us xs → AllIn (with_vars us vs) xs
all_later [] us vs a = tt
all_later (x ∷ xs) us vs a = (in_later vs us x a.0, all_later xs us vs a.1)

none_more : (us : List UsedVar) (v : UsedVar) (o : Option ℕ) → IsSome o → one_more us v o ≡ us
none_more us v (Some i) s = refl
none_more us v None s = absurd (false≢true s)

pub all_there : (vs us : List UsedVar) → AllIn us vs → with_vars us vs ≡ us
all_there [] us a = refl
all_there (v ∷ vs) us a =
    let e = none_more us v (place_in us v) a.0 in
    ap (λ z. with_vars z vs) e ∙ all_there vs us a.1

-- Lists that come one after another are added one after another.
pub with_both : (us xs bs : List UsedVar) → with_vars (with_vars us xs) bs ≡ with_vars us (xs ++ bs)
with_both us [] bs = refl
with_both us (a ∷ xs) bs = with_both (one_more us a (place_in us a)) xs bs

pub all_left : (us xs bs : List UsedVar) → AllIn us (xs ++ bs) → AllIn us xs
all_left us [] bs a = tt
all_left us (x ∷ xs) bs a = (a.0, all_left us xs bs a.1)

pub all_right : (us xs bs : List UsedVar) → AllIn us (xs ++ bs) → AllIn us bs
all_right us [] bs a = a
all_right us (x ∷ xs) bs a = all_right us xs bs a.1
