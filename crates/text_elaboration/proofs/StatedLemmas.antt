-- What a program's traits state, as it is built, and what is known while an interner grows.
use Rattle.std.proofs.Common.{◌≡◌, ◌↔◌, ℕ, IsTrue, Bool, false, nat_lt, List, [], ◌∷◌, ◌++◌, map}
use Rattle.std.proofs.Common.{Option, sym, ◌∙◌, subst, arith}
use Rattle.std.proofs.lemmas.Bool.{ltb-false}
use Rattle.std.specs.List.{All}
use Rattle.std.proofs.lemmas.List.{map-append}
use Rattle.std.proofs.lemmas.List.Elements.{All-weaker, All-push}
use Rattle.relation_terms.specs.Trees.{Tree, known}
use Rattle.relation_terms.specs.Flags.{outer_exclusive_binder}
use Rattle.relation_terms.specs.Meaning.{Meaning, Extends, arg_tree}
use Rattle.relation_terms.specs.Owned.{BindsWithin, IsOwn, IsStated, IsStatedBound, bound_tree}
use Rattle.relation_terms.specs.Predicates.{trait_ref_tree}
use Rattle.relation_terms.specs.declared.terms.binder.Binder.{Binder}
use Rattle.relation_terms.specs.declared.terms.keys.ClauseKey.{ClauseKey}
use Rattle.relation_terms.specs.declared.terms.generic_arg.GenericArgKind.{GenericArgKind}
use Rattle.relation_terms.specs.declared.terms.generic_arg.GenericArgKind.TheVariants.{Lifetime, Ty, Const}
use Rattle.relation_terms.specs.declared.predicate.trait_ref.TraitRef.{TraitRef}
use Rattle.relation_terms.proofs.Binders.{under_stays}
use Rattle.relation_terms.proofs.Predicates.{stays_trait_ref}
use Rattle.relation_terms.proofs.Stays.{knows_as, stays_arg}
use Rattle.relation_folds.specs.Visits.{bound_var_escapes}
use Rattle.relation_folds.proofs.Searching.{escapes_beyond}
use Rattle.reference_interner.specs.Adding.{SameTerms}
use Rattle.text_terms.specs.Built.{AreKnown}
use Rattle.reference_interner.proofs.StatedLemmas.{own_stays}

-- A tree in which no variable escapes needs no binder around it.
none_needed : (n : ℕ) → nat_lt 0 n ≡ false → n ≡ 0
none_needed n e = let h = ltb-false 0 n e in omega (arith, h)

-- A tree that binds at places of its list, and from which no variable escapes, binds all its variables itself.
pub own_if : (t : Tree) (b e : Bool) → (IsTrue b ↔ BindsWithin t) → e ≡ bound_var_escapes t → IsTrue b → e ≡ false →
    IsOwn t
own_if t b e w f h k = (w.0 h, none_needed (outer_exclusive_binder t) (sym (escapes_beyond 0 t) ∙ sym f ∙ k))

module _ {Key Id Name : Type 0} {m n : Meaning Key Id Name} (e : Extends m n) where
  -- What is known stays so.
  pub keys_stay : (keys : List (Option (GenericArgKind Key))) → AreKnown m keys → AreKnown n keys
  keys_stay keys h = λ k key is.
      knows_as (arg_tree m key) (arg_tree n key) (stays_arg e key (h k key is)) (h k key is)

  bound_stays : (b : Binder Key (TraitRef Key Id)) → IsStatedBound m b → IsStatedBound n b
  bound_stays b h =
      own_stays (bound_tree m b) (bound_tree n b)
      (under_stays (m.bound_vars b.bound_vars) (n.bound_vars b.bound_vars) (trait_ref_tree m b.value)
      (trait_ref_tree n b.value) (e.bound_vars b.bound_vars) (stays_trait_ref e b.value)) h

  pub bounds_more : (bs : List (Binder Key (TraitRef Key Id))) (b : Binder Key (TraitRef Key Id)) → IsStatedBound n b →
      All (IsStatedBound m) bs → All (IsStatedBound n) (bs ++ b ∷ [])
  bounds_more bs b h a =
      All-push (IsStatedBound n) bs b (All-weaker (IsStatedBound m) (IsStatedBound n) bound_stays bs a) h

-- So it is where terms mean the same.
module _ {Key Id Name : Type 0} {m n : Meaning Key Id Name} (s : SameTerms m n) where
  pub same_arg : (key : GenericArgKind Key) → arg_tree n key ≡ arg_tree m key
  same_arg (Lifetime r) = s.region r
  same_arg (Ty t) = s.ty t
  same_arg (Const c) = s.const_ c

  pub same_keys : (keys : List (Option (GenericArgKind Key))) → AreKnown m keys → AreKnown n keys
  same_keys keys h = λ k key is. subst (λ t. IsTrue (known t)) (sym (same_arg key)) (h k key is)

-- One more clause that may be stated, with its place.
pub stated_more : {Key Id Name S : Type 0} (n : Meaning Key Id Name) (ks : List (ClauseKey Key × S)) (k : ClauseKey Key)
    (s : S) → IsStated n k → All (IsStated n) (map (λ p. p.0) ks) → All (IsStated n) (map (λ p. p.0) (ks ++ (k, s) ∷ []))
stated_more n ks k s h a =
    subst (All (IsStated n)) (sym (map-append (λ p. p.0) ks ((k, s) ∷ [])))
    (All-push (IsStated n) (map (λ p. p.0) ks) k a h)
