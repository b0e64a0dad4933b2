-- Laws of the keys of types.
use Rattle.std.specs.Prelude.{◌≡◌, ◌≢◌, ◌↔◌, ℕ, Bool, true, false, Some, IsTrue}
use Rattle.relation_terms.specs.Trees.{Tree, Leaves}
use Rattle.relation_terms.specs.Meaning.{Meaning}
use Rattle.relation_terms.specs.declared.terms.ids.DefId.{DefId}
use Rattle.relation_folds.specs.Clashes.{flexible}
use Rattle.fast_reject.specs.HeadKeys.{head_key, numbered}
use Rattle.fast_reject.specs.Instances.{CommonInstance, flexible_but_aliases, IsNoError}
use Rattle.fast_reject.specs.declared.simplify.TreatParams.{TreatParams}
use Rattle.fast_reject.specs.declared.simplify.TreatParams.TheVariants.{AsRigid, InstantiateWithInfer}
use Rattle.fast_reject.specs.declared.simplify.SimplifiedType.{SimplifiedType}

-- Parameters may stand for others where they have no key.
abbrev pub are_instantiated : TreatParams → Bool
are_instantiated InstantiateWithInfer = true
are_instantiated AsRigid = false

-- Some instances of the two types are one up to erasure, where aliases are types of their own.
abbrev pub CommonForm : TreatParams → Tree → Tree → Type 0
CommonForm treat a b = CommonInstance (flexible_but_aliases (are_instantiated treat))
    (flexible_but_aliases (are_instantiated treat)) a b

-- Types without errors that have different keys have no common instance.
abbrev pub DifferentKeysAreApart : Type 0
DifferentKeysAreApart = (autos : ℕ → Bool) (solver : Bool) (treat : TreatParams) (a b : Tree) (k m : SimplifiedType ℕ) →
    Leaves IsNoError a → Leaves IsNoError b → head_key autos solver treat a ≡ Some k →
    head_key autos solver treat b ≡ Some m → k ≢ m → CommonForm treat a b → ⊥

-- The places that may stand for others under a mode: where parameters may, all that a quick test takes as such; where
-- they are types of their own, aliases are too.
abbrev pub places_of : TreatParams → Tree → Bool
places_of InstantiateWithInfer t = flexible true t
places_of AsRigid t = flexible_but_aliases false t

-- Types without errors that have unlike keys, each under a mode of its own, have no common instance: as the type of an
-- impl, and one that is looked up among them.
abbrev pub UnlikeKeysAreApart : Type 0
UnlikeKeysAreApart = (autos : ℕ → Bool) (solver : Bool) (left right : TreatParams) (a b : Tree)
    (k m : SimplifiedType ℕ) → Leaves IsNoError a → Leaves IsNoError b → head_key autos solver left a ≡ Some k →
    head_key autos solver right b ≡ Some m → k ≢ m → CommonInstance (places_of left) (places_of right) a b → ⊥

-- By `eq`, keys over the ids of an interner are equal just where they are one by the numbers of these.
abbrev pub KeysAreEqualByNumber : {C Key Id Name : Type 0} → (C → Meaning Key Id Name) →
    (SimplifiedType (DefId Id) → SimplifiedType (DefId Id) → Bool) → Type 0
KeysAreEqualByNumber {C = C} {Id = Id} meaning eq = (cx : C) (a b : SimplifiedType (DefId Id)) →
    IsTrue (eq a b) ↔ (numbered (λ d. (meaning cx).id d.0) a ≡ numbered (λ d. (meaning cx).id d.0) b)
