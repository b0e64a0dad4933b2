-- What a table of methods holds, and what it finds for a type.
use Rattle.std.specs.Prelude.{◌≡◌, ◌⊎◌, Bool, List, [], ◌∷◌, ◌++◌, Option, IsTrue, All, Contains}
use Rattle.std.specs.List.{filter}
use Rattle.relation_terms.specs.Trees.{known, Leaves}
use Rattle.relation_terms.specs.Meaning.{Meaning, Extends}
use Rattle.relation_terms.specs.declared.terms.binder.Binder.{Binder}
use Rattle.relation_terms.specs.declared.terms.ids.DefId.{DefId}
use Rattle.relation_terms.specs.declared.terms.keys.TyKey.{TyKey}
use Rattle.fast_reject.specs.HeadKeys.{numbered_key, type_key}
use Rattle.fast_reject.specs.Instances.{CommonInstance, IsNoError}
use Rattle.fast_reject.specs.KeyLaws.{places_of}
use Rattle.fast_reject.specs.declared.simplify.SimplifiedType.{SimplifiedType}
use Rattle.fast_reject.specs.declared.simplify.TreatParams.{TreatParams}
use Rattle.fast_reject.specs.declared.simplify.TreatParams.TheVariants.{AsRigid, InstantiateWithInfer}
use Rattle.relation_methods.specs.Keyed.{is_found}
use Rattle.relation_methods.specs.declared.keyed.Entry.{Entry}

-- The first list has elements of the second, in their order.
pub data IsSubsequence {T : Type 0} : List T → List T → Type 0 where
  empty : IsSubsequence [] []
  left_out : {y : T} {xs ys : List T} → IsSubsequence xs ys → IsSubsequence xs (y ∷ ys)
  kept : {x : T} {xs ys : List T} → IsSubsequence xs ys → IsSubsequence (x ∷ xs) (x ∷ ys)

-- An entry of a table over the keys of an interner, and the key that it has.
abbrev pub MethodEntry : Type 0 → Type 0 → Type 0 → Type 0
MethodEntry Key Id E = Entry (SimplifiedType (DefId Id)) (Binder Key (TyKey Key)) E

module _ {Key Id Name : Type 0} (m : Meaning Key Id Name) where
  -- The key is the one of a known type under a mode, where it has one.
  abbrev pub IsKeyOf : TreatParams → Option (SimplifiedType (DefId Id)) → TyKey Key → Type 0
  IsKeyOf treat k t = numbered_key (λ d. m.id d.0) k ≡ type_key m treat t

  -- The type of an entry is known, and the entry has its key, as the type of an impl has it.
  pub record IsKeyed {E : Type 0} (e : MethodEntry Key Id E) : Type 0 where
    pub is_known : IsTrue (known (m.ty (e.of).value))
    pub key : IsKeyOf InstantiateWithInfer e.key (e.of).value

  abbrev pub AreKeyed : {E : Type 0} → List (MethodEntry Key Id E) → Type 0
  AreKeyed es = All IsKeyed es

  -- One entry more stands at the end: the value, for this type, with its key.
  pub record Appends {E : Type 0} (of : Binder Key (TyKey Key)) (value : E) (old new : List (MethodEntry Key Id E)) : Type 0 where
    pub entry : MethodEntry Key Id E
    pub last : new ≡ old ++ entry ∷ []
    pub of_type : entry.of ≡ of
    pub has_value : entry.value ≡ value
    pub keyed : IsKeyed entry

  -- Just the entries are found that have the key of the type, as it is looked up, or none; all where the type has none.
  pub record FindsByKey {E : Type 0} (eq : SimplifiedType (DefId Id) → SimplifiedType (DefId Id) → Bool) (t : TyKey Key)
      (es found : List (MethodEntry Key Id E)) : Type 0 where
    pub key : Option (SimplifiedType (DefId Id))
    pub of_type : IsKeyOf AsRigid key t
    pub finds : found ≡ filter (λ e. is_found eq key e.key) es

  -- The type of an entry has no instance in common with another, up to erasure: whatever is put for what the entry
  -- binds, its parameters and its aliases, and for the variables of both. There is no error in either.
  abbrev pub AreApart : TyKey Key → TyKey Key → Type 0
  AreApart s t = Leaves IsNoError (m.ty s) → Leaves IsNoError (m.ty t) →
      CommonInstance (places_of InstantiateWithInfer) (places_of AsRigid) (m.ty s) (m.ty t) → ⊥

  -- An entry is found, or its type is apart from this one.
  abbrev pub LeavesOutApart : {E : Type 0} → TyKey Key → List (MethodEntry Key Id E) → List (MethodEntry Key Id E) → Type 0
  LeavesOutApart t es found = (e : _) → Contains es e → Contains found e ⊎ AreApart (e.of).value t

-- Tables keep their keys where the second interner has all that the first knows.
abbrev pub TablesStand : {Key Id Name : Type 0} → (E : Type 0) → Meaning Key Id Name → Meaning Key Id Name → Type 0
TablesStand {Key} {Id} E m n = Extends m n → (es : List (MethodEntry Key Id E)) → AreKeyed m es → AreKeyed n es
