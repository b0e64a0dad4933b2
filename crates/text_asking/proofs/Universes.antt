-- In which universes variables were made.
use Rattle.std.proofs.Common.{◌≡◌, ℕ, ◌+◌, ◌≤◌, sym, ap, ◌∙◌, subst, refl, List, [], ◌∷◌, ◌++◌, replicate, arith}
use Rattle.std.proofs.lemmas.List.{append-nil, append_assoc, replicate-append-replicate}
use Rattle.relation_terms.specs.Heads.{VarKind, VarKind_discrete, type_var, int_var, float_var, const_var, region_var}
use Rattle.relation_terms.specs.declared.terms.numbers.UniverseIndex.{UniverseIndex}
use Rattle.relation_terms.specs.Meaning.{Meaning}
use Rattle.relation_semantics.specs.Steps.{MakesVariable}
use Rattle.variable_tables.specs.declared.inner.InferCtxtInner.{InferCtxtInner}
use Rattle.variable_tables.specs.Tables.{store_of}
use Rattle.text_reading.specs.declared.naming.program.Variables.{Variables}
use Rattle.text_asking.specs.Asking.{universes_in, variables_in, home, MakesIn, HasStated}

-- The universes of a kind are those of its variables.
universes_same : {Key Id Name : Type 0} (m : Meaning Key Id Name) (x : InferCtxtInner Key) (k : VarKind) →
    (store_of m x).universes k ≡ universes_in x k
universes_same m x type_var = refl
universes_same m x int_var = refl
universes_same m x float_var = refl
universes_same m x const_var = refl
universes_same m x region_var = refl

-- None was made.
pub none_made : {Key : Type 0} (u : ℕ) (x : InferCtxtInner Key) → MakesIn u x x
none_made u x = λ k. (0, sym (append-nil (universes_in x k)))

module _ {Key : Type 0} (u : ℕ) (x y z : InferCtxtInner Key) where
  -- Some were made, and then more.
  pub made_then : MakesIn u x y → MakesIn u y z → MakesIn u x z
  made_then a b = λ k. (
    (a k).0 + (b k).0,
    (
        (b k).1 ∙ ap (λ (l : List ℕ). l ++ replicate (b k).0 (home k u)) (a k).1
        ∙ append_assoc (universes_in x k) (replicate (a k).0 (home k u)) (replicate (b k).0 (home k u))
        ∙ ap (λ (l : List ℕ). universes_in x k ++ l) (replicate-append-replicate (a k).0 (b k).0 (home k u))),
  )

-- A variable was made.
module _ {Key Id Name : Type 0} (m n : Meaning Key Id Name) (x y : InferCtxtInner Key) (k : VarKind) (i u : ℕ)
    (h : MakesVariable (store_of m x) (store_of n y) k i (home k u)) where
  one_at : (j : VarKind) → Dec (j ≡ k) → (c : ℕ) × (universes_in y j ≡ universes_in x j ++ replicate c (home j u))
  one_at j (yes e) = (
    1,
    subst (λ (l : VarKind). universes_in y l ≡ universes_in x l ++ home l u ∷ []) (sym e)
        (sym (universes_same n y k) ∙ h.universes_grow ∙ ap (λ (l : List ℕ). l ++ home k u ∷ []) (universes_same m x k)),
  )
  one_at j (no o) = (
    0,
    sym (universes_same n y j) ∙ h.other_universes j o ∙ universes_same m x j
        ∙ sym (append-nil (universes_in x j)),
  )

  pub one_made : MakesIn u x y
  one_made j = one_at j (VarKind_discrete j k)

-- Where only the context's universe changed, variables are as many, and stand where they stood.
module _ {Key : Type 0} (x : InferCtxtInner Key) (v : UniverseIndex) where
  as_many : (k : VarKind) → variables_in (record x { universe = v }) k ≡ variables_in x k
  as_many type_var = refl
  as_many int_var = refl
  as_many float_var = refl
  as_many const_var = refl
  as_many region_var = refl

  as_before : (k : VarKind) → universes_in (record x { universe = v }) k ≡ universes_in x k
  as_before type_var = refl
  as_before int_var = refl
  as_before float_var = refl
  as_before const_var = refl
  as_before region_var = refl

module _ {Key : Type 0} (x y : InferCtxtInner Key) (rest : y ≡ record x { universe = y.universe }) where
  pub entered_variables : (k : VarKind) → variables_in y k ≡ variables_in x k
  entered_variables k = ap (λ (z : InferCtxtInner Key). variables_in z k) rest ∙ as_many x y.universe k

  pub entered_universes : (k : VarKind) → universes_in y k ≡ universes_in x k
  entered_universes k = ap (λ (z : InferCtxtInner Key). universes_in z k) rest ∙ as_before x y.universe k

  -- What was made from there on was made behind what there was before.
  pub entered_made : (u : ℕ) (z : InferCtxtInner Key) → MakesIn u y z → MakesIn u x z
  entered_made u z m = λ k. ((m k).0, (m k).1 ∙ ap (λ (l : List ℕ). l ++ replicate (m k).0 (home k u)) (entered_universes k))

-- A universe was entered, and variables of three kinds were made there in turn.
pub stated_made : {Key : Type 0} (u : ℕ) (x y a b z : InferCtxtInner Key) → y ≡ record x { universe = y.universe } →
    (y.universe).0 ≡ u → MakesIn (y.universe).0 y a → (a.universe).0 ≡ (y.universe).0 → MakesIn (a.universe).0 a b →
    (b.universe).0 ≡ (a.universe).0 → MakesIn (b.universe).0 b z → MakesIn u x z
stated_made u x y a b z rest there types same consts still regions =
    entered_made x y rest u z (made_then u y b z
    (made_then u y a b (subst (λ v. MakesIn v y a) there types) (subst (λ v. MakesIn v a b) (same ∙ there) consts))
    (subst (λ v. MakesIn v b z) (still ∙ same ∙ there) regions))

-- What was stated stays while variables are made and later universes entered.
pub stated_stays : {Key : Type 0} (x y : InferCtxtInner Key) → ((k : VarKind) → variables_in x k ≤ variables_in y k) →
    (x.universe).0 ≤ (y.universe).0 → (v : Variables) → HasStated x v → HasStated y v
stated_stays x y kept later v h =
    let t = kept type_var in
    let c = kept const_var in
    let r = kept region_var in
    record {
      types = omega (arith, t, h.types);
      consts = omega (arith, c, h.consts);
      regions = omega (arith, r, h.regions);
      universe = omega (arith, later, h.universe);
    }
