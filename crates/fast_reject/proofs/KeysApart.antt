-- Types of different keys have no common instance.
use Rattle.std.proofs.Common.{◌≡◌, ℕ, Bool, true, false, not, ◌||◌, cond, Option, Some, None, refl, sym, ap, ◌∙◌}
use Rattle.relation_terms.specs.Heads.{region_kind, bound_kind, Atom, bool_type, char_type}
use Rattle.relation_terms.specs.Heads.{str_type, never_type, type_error, int_type, uint_type, float_type, foreign}
use Rattle.relation_terms.specs.Heads.{type_param, early_region, static_region}
use Rattle.relation_terms.specs.Heads.{pattern_type}
use Rattle.relation_terms.specs.Heads.{tuple, dynamic, fn_ptr, alias, unevaluated, expression, Leaf, variable}
use Rattle.relation_terms.specs.Heads.{bound, placeholder, atom, unknown}
use Rattle.relation_terms.specs.Trees.{Tree, leaf, node, bind, nil, cons, Leaves}
use Rattle.relation_terms.specs.Erasure.{erase, erase_leaf}
use Rattle.relation_folds.specs.Visits.{non_region_infer_stands}
use Rattle.relation_folds.specs.Clashes.{flexible}
use Rattle.fast_reject.specs.HeadKeys.{param_key, object_key, atom_key, form_key, head_key}
use Rattle.fast_reject.specs.declared.simplify.TreatParams.{TreatParams}
use Rattle.fast_reject.specs.declared.simplify.TreatParams.TheVariants.{AsRigid, InstantiateWithInfer}
use Rattle.fast_reject.specs.declared.simplify.SimplifiedType.{SimplifiedType}
use Rattle.fast_reject.specs.declared.simplify.SimplifiedType.TheVariants.{Placeholder, Tuple, Function}
use Rattle.fast_reject.specs.Instances.{Instance, put, kept_leaf, kept_node, kept_bind, kept_nil, kept_cons}
use Rattle.fast_reject.specs.Instances.{flexible_but_aliases, IsNoError}
use Rattle.fast_reject.specs.KeyLaws.{are_instantiated, DifferentKeysAreApart, places_of, UnlikeKeysAreApart}
use Rattle.fast_reject.proofs.Instancing.{within_all, erased_inputs, erased_object, count_kept}
use Rattle.fast_reject.proofs.Instancing.{inputs_kept, object_kept}
use Rattle.std.proofs.lemmas.Option.{same_Some}
use Rattle.relation_terms.proofs.Erasing.{erased_count}

-- The places that may stand for others are among all.
within_aliases : (p : Bool) (a : Tree) → flexible_but_aliases p a ≡ true → flexible true a ≡ true
within_aliases p (node (alias k d) ts) f = refl
within_aliases p (node h ts) f = within_all p (node h ts) f
within_aliases p (leaf l) f = within_all p (leaf l) f
within_aliases p (bind ks t) f = within_all p (bind ks t) f
within_aliases p nil f = within_all p nil f
within_aliases p (cons t ts) f = within_all p (cons t ts) f

module _ (autos : ℕ → Bool) (solver : Bool) (treat : TreatParams) where
  -- The key that the erasure of a type tells, of those that have one. A region that is erased had that of a
  -- placeholder.
  abbrev pub erased_key : Tree → Option (SimplifiedType ℕ)
  erased_key (leaf (atom static_region)) = Some Placeholder
  erased_key (node (alias k d) ts) = param_key treat
  erased_key (node pattern_type (cons t us)) = erased_key t
  erased_key t = form_key autos solver treat t

  -- A place has none.
  param_keyless : are_instantiated treat ≡ true → param_key {D = ℕ} treat ≡ None
  param_keyless f = keyless treat f
    where
      keyless : (w : TreatParams) → are_instantiated w ≡ true → param_key {D = ℕ} w ≡ None
      keyless InstantiateWithInfer g = refl
      keyless AsRigid g = absurd (cc)

  atom_keyless : (x : Atom) → flexible (are_instantiated treat) (leaf (atom x)) ≡ true → IsNoError (atom x) →
      atom_key treat x ≡ None
  atom_keyless bool_type f n = absurd (cc)
  atom_keyless char_type f n = absurd (cc)
  atom_keyless str_type f n = absurd (cc)
  atom_keyless never_type f n = absurd (cc)
  atom_keyless (int_type w) f n = absurd (cc)
  atom_keyless (uint_type w) f n = absurd (cc)
  atom_keyless (float_type w) f n = absurd (cc)
  atom_keyless (foreign d) f n = absurd (cc)
  atom_keyless type_error f n = absurd n
  atom_keyless (type_param i m) f n = param_keyless f
  atom_keyless x f n = refl

  place_keyless : (a : Tree) → flexible_but_aliases (are_instantiated treat) a ≡ true → Leaves IsNoError a →
      head_key autos solver treat a ≡ None
  place_keyless (leaf (atom x)) f n = atom_keyless x f n
  place_keyless (leaf (variable k i)) f n = refl
  place_keyless (leaf (bound k d i)) f n = refl
  place_keyless (leaf (placeholder k u i)) f n = absurd (cc)
  place_keyless (leaf unknown) f n = refl
  place_keyless (node (unevaluated d) ts) f n = refl
  place_keyless (node (expression k) ts) f n = refl
  place_keyless (node h ts) f n = absurd (cc)
  place_keyless (bind ks t) f n = refl
  place_keyless nil f n = refl
  place_keyless (cons t ts) f n = refl

  pattern_keyless : (a : Tree) → flexible true a ≡ true → head_key autos solver treat (node pattern_type a) ≡ None
  pattern_keyless (leaf l) f = refl
  pattern_keyless (node h ts) f = refl
  pattern_keyless (bind ks t) f = absurd (cc)
  pattern_keyless nil f = absurd (cc)
  pattern_keyless (cons t ts) f = absurd (cc)

  none_some : {o : Option (SimplifiedType ℕ)} {k : SimplifiedType ℕ} → o ≡ None → o ≡ Some k → ⊥
  none_some p q = cc

  -- An alias that has a key has a parameter's.
  alias_told : (w : Bool) (o : Option (SimplifiedType ℕ)) (k : SimplifiedType ℕ) → cond w o None ≡ Some k → o ≡ Some k
  alias_told true o k e = e
  alias_told false o k e = absurd (cc)

  leaf_told : (l : Leaf) (k : SimplifiedType ℕ) → form_key autos solver treat (leaf l) ≡ Some k →
      erased_key (leaf (erase_leaf l)) ≡ Some k
  leaf_told (variable v n) k e = absurd (cc)
  leaf_told (bound b d i) k e = absurd (cc)
  leaf_told (placeholder (bound_kind region_kind m) u n) k e = e
  leaf_told (placeholder (bound_kind c m) u n) k e = e
  leaf_told (atom (early_region i n)) k e = absurd (cc)
  leaf_told (atom static_region) k e = absurd (cc)
  leaf_told (atom x) k e = e
  leaf_told unknown k e = absurd (cc)

  -- A type that has a key tells it in the erasure of each instance, where no place has one.
  module _ {places : Tree → Bool} (within : (a : Tree) → places a ≡ true → flexible true a ≡ true)
      (keyless : (a : Tree) → places a ≡ true → Leaves IsNoError a → head_key autos solver treat a ≡ None) where
    told : {a x : Tree} → Instance places a x → Leaves IsNoError a → (k : SimplifiedType ℕ) →
        head_key autos solver treat a ≡ Some k → erased_key (erase x) ≡ Some k
    told (put {a = a} f h v g) n k e = absurd (none_some (keyless a f n) e)
    told (kept_leaf {l = l} f) n k e = leaf_told l k e
    told (kept_node {h = pattern_type} f (kept_cons i j)) n k e = told i n.0 k e
    told (kept_node {h = pattern_type} f (put {a = a} q h v g)) n k e =
        absurd (none_some (pattern_keyless a (within a q)) e)
    told (kept_node {h = pattern_type} f i) n k e = absurd (cc)
    told (kept_node {h = tuple} {us = us} f i) n k e =
        ap (λ c. Some (Tuple c)) (erased_count us ∙ count_kept within i) ∙ e
    told (kept_node {h = fn_ptr} {us = us} f i) n k e =
        ap (λ c. Some (Function c)) (erased_inputs us ∙ inputs_kept within i) ∙ e
    told (kept_node {h = dynamic} {us = us} f i) n k e =
        ap (λ p. Some (object_key autos p)) (erased_object us ∙ object_kept within i) ∙ e
    told (kept_node {h = alias q d} {ts = ts} f i) n k e =
        alias_told (not (non_region_infer_stands (node (alias q d) ts)) || solver) (param_key treat) k e
    told (kept_node f i) n k e = e
    told (kept_bind i) n k e = absurd (cc)
    told kept_nil n k e = absurd (cc)
    told (kept_cons i j) n k e = absurd (cc)

pub different_keys_are_apart : DifferentKeysAreApart
different_keys_are_apart autos solver treat a b k m p q e f n c =
    n (same_Some _ _ (sym (tells c.of_left p k e) ∙ ap (erased_key autos solver treat) c.same ∙ tells c.of_right q m f))
  where
    tells : {a x : Tree} → Instance (flexible_but_aliases (are_instantiated treat)) a x → Leaves IsNoError a →
        (k : SimplifiedType ℕ) → head_key autos solver treat a ≡ Some k →
        erased_key autos solver treat (erase x) ≡ Some k
    tells i n k e = told autos solver treat (within_aliases (are_instantiated treat)) (place_keyless autos solver treat)
        i n k e

-- Where parameters have no key, aliases have none.
alias_keyless : (b : Bool) (o : Option (SimplifiedType ℕ)) → o ≡ None → cond b o None ≡ None
alias_keyless true o e = e
alias_keyless false o e = refl

within_mode : (treat : TreatParams) (a : Tree) → places_of treat a ≡ true → flexible true a ≡ true
within_mode InstantiateWithInfer a f = f
within_mode AsRigid a f = within_aliases false a f

module _ (autos : ℕ → Bool) (solver : Bool) where
  infer_keyless : (a : Tree) → flexible true a ≡ true → Leaves IsNoError a →
      head_key autos solver InstantiateWithInfer a ≡ None
  infer_keyless (node (alias k d) ts) f n =
      alias_keyless (not (non_region_infer_stands (node (alias k d) ts)) || solver) None refl
  infer_keyless (node h ts) f n = place_keyless autos solver InstantiateWithInfer (node h ts) f n
  infer_keyless (leaf l) f n = place_keyless autos solver InstantiateWithInfer (leaf l) f n
  infer_keyless (bind ks t) f n = absurd (cc)
  infer_keyless nil f n = absurd (cc)
  infer_keyless (cons t ts) f n = absurd (cc)

  mode_keyless : (treat : TreatParams) (a : Tree) → places_of treat a ≡ true → Leaves IsNoError a →
      head_key autos solver treat a ≡ None
  mode_keyless InstantiateWithInfer a f n = infer_keyless a f n
  mode_keyless AsRigid a f n = place_keyless autos solver AsRigid a f n

  -- What an erasure tells where parameters have no key it tells where they have one.
  tells_as_rigid : (t : Tree) (k : SimplifiedType ℕ) → erased_key autos solver InstantiateWithInfer t ≡ Some k →
      erased_key autos solver AsRigid t ≡ Some k
  tells_as_rigid (leaf (atom (type_param i n))) k e = absurd (cc)
  tells_as_rigid (leaf (atom x)) k e = e
  tells_as_rigid (leaf l) k e = e
  tells_as_rigid (node (alias q d) ts) k e = absurd (cc)
  tells_as_rigid (node pattern_type (cons t us)) k e = tells_as_rigid t k e
  tells_as_rigid (node h ts) k e = e
  tells_as_rigid (bind ks t) k e = e
  tells_as_rigid nil k e = e
  tells_as_rigid (cons t ts) k e = e

  rigid_tells : (treat : TreatParams) (t : Tree) (k : SimplifiedType ℕ) → erased_key autos solver treat t ≡ Some k →
      erased_key autos solver AsRigid t ≡ Some k
  rigid_tells AsRigid t k e = e
  rigid_tells InstantiateWithInfer t k e = tells_as_rigid t k e

  mode_told : (treat : TreatParams) {a x : Tree} → Instance (places_of treat) a x → Leaves IsNoError a →
      (k : SimplifiedType ℕ) → head_key autos solver treat a ≡ Some k →
      erased_key autos solver AsRigid (erase x) ≡ Some k
  mode_told treat {x = x} i n k e =
      rigid_tells treat (erase x) k (told autos solver treat (within_mode treat) (mode_keyless treat) i n k e)

pub unlike_keys_are_apart : UnlikeKeysAreApart
unlike_keys_are_apart autos solver left right a b k m p q e f n c =
    n (same_Some _ _ (sym (mode_told autos solver left c.of_left p k e) ∙ ap (erased_key autos solver AsRigid) c.same ∙
    mode_told autos solver right c.of_right q m f))
