-- What a table finds for a type stands in the order of insertion, and what it leaves out is apart from the type.
use Rattle.std.proofs.Common.{◌≡◌, ◌⊎◌, ◌<◌, ℕ, zero, suc, Bool, true, false, cond, List, [], ◌∷◌, ◌++◌, Option, Some, None}
use Rattle.std.proofs.Common.{refl, sym, ap, ◌∙◌, subst, inl, inr, arith, map, length, get_or, Contains, IsTrue}
use Rattle.std.specs.List.{filter}
use Rattle.std.proofs.Math.Path.{fun_ext}
use Rattle.std.proofs.lemmas.List.{get_or-map, length-map}
use Rattle.std.proofs.lemmas.List.Elements.{All-contains, All-push}
use Rattle.relation_terms.specs.Trees.{known}
use Rattle.relation_terms.specs.Meaning.{Meaning, Extends}
use Rattle.relation_terms.specs.declared.terms.binder.Binder.{Binder}
use Rattle.relation_terms.specs.declared.terms.ids.DefId.{DefId}
use Rattle.relation_terms.specs.declared.terms.keys.TyKey.{TyKey}
use Rattle.fast_reject.specs.HeadKeys.{head_key, numbered, numbered_key}
use Rattle.fast_reject.specs.KeyLaws.{UnlikeKeysAreApart, KeysAreEqualByNumber}
use Rattle.fast_reject.specs.declared.simplify.SimplifiedType.{SimplifiedType}
use Rattle.fast_reject.specs.declared.simplify.TreatParams.TheVariants.{AsRigid, InstantiateWithInfer}
use Rattle.relation_methods.specs.Keyed.{is_found}
use Rattle.relation_methods.specs.Methods.{IsSubsequence, MethodEntry, IsKeyOf, IsKeyed, AreKeyed, Appends, AreApart, LeavesOutApart}
use Rattle.relation_methods.specs.Methods.IsSubsequence.{empty, left_out, kept}

-- What passes a test stands in the order in which it stood.
pub filter_in_order : {T : Type 0} (test : T → Bool) (xs : List T) → IsSubsequence (filter test xs) xs
filter_in_order test [] = empty
filter_in_order test (x ∷ xs) = elim (test x) as (λ b. IsSubsequence (cond b (x ∷ filter test xs) (filter test xs)) (x ∷ xs))
    [ true ↦ kept (filter_in_order test xs) | false ↦ left_out (filter_in_order test xs) ]

-- What stands in a list and passes a test passes it among the others.
in_filter : {T : Type 0} (test : T → Bool) (x : T) (xs : List T) (k : ℕ) → k < length xs → get_or xs k x ≡ x →
    test x ≡ true → Contains (filter test xs) x
in_filter test x [] k l e p = absurd (omega arith)
in_filter {T} test x (y ∷ ys) zero l e p =
    let P : Bool → Type 0 = λ b. Contains (cond b (y ∷ filter test ys) (filter test ys)) x in
    subst P (sym (ap test e ∙ p)) (0, omega arith, e)
in_filter {T} test x (y ∷ ys) (suc k) l e p =
    let ih = in_filter test x ys k (omega arith) e p in
    elim (test y) as (λ b. Contains (cond b (y ∷ filter test ys) (filter test ys)) x)
    [ true ↦ (suc ih.0, omega (arith, ih.1), ih.2) | false ↦ ih ]

module _ {C Key Id Name : Type 0} (meaning : C → Meaning Key Id Name)
    (eq : SimplifiedType (DefId Id) → SimplifiedType (DefId Id) → Bool) (unlike : UnlikeKeysAreApart)
    (same : KeysAreEqualByNumber meaning eq) (cx : C) where
  -- Two types whose keys aren't equal are apart.
  pub apart_by_keys : (s t : TyKey Key) (k key : Option (SimplifiedType (DefId Id))) →
      IsKeyOf (meaning cx) InstantiateWithInfer k s → IsKeyOf (meaning cx) AsRigid key t → is_found eq key k ≡ false →
      AreApart (meaning cx) s t
  apart_by_keys s t k None h i n = absurd cc
  apart_by_keys s t None (Some q) h i n = absurd cc
  apart_by_keys s t (Some p) (Some q) h i n = λ a b.
      let m = meaning cx in
      unlike (m.tables).is_auto (m.tables).next_solver InstantiateWithInfer AsRigid (m.ty s) (m.ty t)
      (numbered (λ d. m.id d.0) p) (numbered (λ d. m.id d.0) q) a b (sym h) (sym i)
      (λ e. let yes : eq p q ≡ true = (same cx p q).1 e in cc)

  -- An entry passes, or its type is apart.
  found_or_apart : {E : Type 0} (t : TyKey Key) (key : Option (SimplifiedType (DefId Id))) (es : List (MethodEntry Key Id E))
      (e : MethodEntry Key Id E) → IsKeyed (meaning cx) e → IsKeyOf (meaning cx) AsRigid key t → Contains es e →
      (b : Bool) → is_found eq key e.key ≡ b →
      Contains (filter (λ (x : MethodEntry Key Id E). is_found eq key x.key) es) e ⊎ AreApart (meaning cx) (e.of).value t
  found_or_apart {E} t key es e keyed i c true h =
      inl (in_filter (λ (x : MethodEntry Key Id E). is_found eq key x.key) e es c.0 c.1 c.2 h)
  found_or_apart t key es e keyed i c false h = inr (apart_by_keys (e.of).value t e.key key keyed.key i h)

  pub leaves_out_apart : {E : Type 0} (t : TyKey Key) (key : Option (SimplifiedType (DefId Id)))
      (es : List (MethodEntry Key Id E)) → AreKeyed (meaning cx) es → IsKeyOf (meaning cx) AsRigid key t →
      LeavesOutApart (meaning cx) t es (filter (λ (x : MethodEntry Key Id E). is_found eq key x.key) es)
  leaves_out_apart {E} t key es keyed i = λ e c.
      found_or_apart t key es e (All-contains (IsKeyed (meaning cx)) es e keyed c) i c (is_found eq key e.key) refl

-- An entry's key stands while an interner grows.
keyed_still : {Key Id Name E : Type 0} (m n : Meaning Key Id Name) → Extends m n → (e : MethodEntry Key Id E) →
    IsKeyed m e → IsKeyed n e
keyed_still {Key} {Id} {Name} m n g e k =
    let ty : n.ty (e.of).value ≡ m.ty (e.of).value = g.ty (e.of).value k.is_known in
    record {
      is_known = subst (λ t. IsTrue (known t)) (sym ty) k.is_known;
      key = ap (λ (f : Id → ℕ). numbered_key (λ (d : DefId Id). f d.0) e.key) (fun_ext g.id) ∙ (k.key ∙
          (ap (λ t. head_key (m.tables).is_auto (m.tables).next_solver InstantiateWithInfer t) (sym ty) ∙
          ap (λ t. head_key t.is_auto t.next_solver InstantiateWithInfer (n.ty (e.of).value)) (sym g.tables)));
    }

pub tables_stand : {Key Id Name E : Type 0} (m n : Meaning Key Id Name) → Extends m n → (es : List (MethodEntry Key Id E)) →
    AreKeyed m es → AreKeyed n es
tables_stand m n g es h = λ k d l. keyed_still m n g (get_or es k d) (h k d l)

-- One entry more.
module _ {Key Id Name E : Type 0} (m : Meaning Key Id Name) (e : MethodEntry Key Id E)
    (inside old new : List (MethodEntry Key Id E)) (is_known : IsTrue (known (m.ty (e.of).value)))
    (key : IsKeyOf m InstantiateWithInfer e.key (e.of).value) (seen : inside ≡ old) (last : new ≡ inside ++ e ∷ []) where
  new_keyed : IsKeyed m e
  new_keyed = record { is_known = is_known; key = key }

  new_last : new ≡ old ++ e ∷ []
  new_last = last ∙ ap (λ l. l ++ e ∷ []) seen

  pub appended : Appends m e.of e.value old new
  appended = record { entry = e; last = new_last; of_type = refl; has_value = refl; keyed = new_keyed }

  pub keyed_after : AreKeyed m old → AreKeyed m new
  keyed_after h = subst (AreKeyed m) (sym new_last) (All-push (IsKeyed m) old e h new_keyed)

-- What a look-up comes to, where its table is seen as another list.
pub found_in_order : {T : Type 0} (test : T → Bool) (xs ys zs : List T) → xs ≡ ys → zs ≡ filter test xs → IsSubsequence zs ys
found_in_order test xs ys zs e h =
    subst (λ l. IsSubsequence l ys) (sym (h ∙ ap (filter test) e)) (filter_in_order test ys)

pub left_out_apart : {C Key Id Name E : Type 0} (meaning : C → Meaning Key Id Name)
    (eq : SimplifiedType (DefId Id) → SimplifiedType (DefId Id) → Bool) → UnlikeKeysAreApart →
    KeysAreEqualByNumber meaning eq → (cx : C) (t : TyKey Key) (key : Option (SimplifiedType (DefId Id)))
    (xs ys zs : List (MethodEntry Key Id E)) → AreKeyed (meaning cx) ys → IsKeyOf (meaning cx) AsRigid key t → xs ≡ ys →
    zs ≡ filter (λ (e : MethodEntry Key Id E). is_found eq key e.key) xs → LeavesOutApart (meaning cx) t ys zs
left_out_apart {C} {Key} {Id} {Name} {E} meaning eq unlike same cx t key xs ys zs keyed i e h =
    subst (λ l. LeavesOutApart (meaning cx) t ys l)
    (sym (h ∙ ap (filter (λ (e : MethodEntry Key Id E). is_found eq key e.key)) e))
    (leaves_out_apart meaning eq unlike same cx t key ys keyed i)

-- An entry is found by its value, among the values of what is found, or its type is apart. `of` and `value` are what was
-- inserted.
module _ {Key Id Name E : Type 0} (m : Meaning Key Id Name) (t : TyKey Key) (es found : List (MethodEntry Key Id E))
    (values : List E) where
  abbrev value_of : MethodEntry Key Id E → E
  value_of e = e.value

  value_in : (e : MethodEntry Key Id E) → Contains found e → Contains (map value_of found) e.value
  value_in e c = (
    c.0,
    subst (λ n. c.0 < n) (sym (length-map found value_of)) c.1,
    get_or-map value_of found c.0 e e.value c.1 ∙ ap value_of c.2,
  )

  pub value_found : (of : Binder Key (TyKey Key)) (value : E) (e : MethodEntry Key Id E) → LeavesOutApart m t es found →
      Contains es e → e.of ≡ of → e.value ≡ value → values ≡ map value_of found →
      Contains values value ⊎ AreApart m of.value t
  value_found of value e leaves c o v h = elim (leaves e c) [
    | inl k ↦ inl (subst (λ x. Contains values x) v (subst (λ xs. Contains xs e.value) (sym h) (value_in e k)))
    | inr k ↦ inr (subst (λ (b : Binder Key (TyKey Key)). AreApart m b.value t) o k)
  ]
