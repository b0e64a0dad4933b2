-- The bodies of binders, as parts of terms.
use Rattle.std.proofs.Common.{◌≡◌, ℕ, refl, sym, subst, subst₂, Ok, Err, Option, Some, None, IfSome}
use Rattle.relation_terms.specs.Heads.{signature_sort, type_sort, existential_sort, binder_sort}
use Rattle.relation_terms.specs.Trees.{Tree}
use Rattle.relation_terms.specs.Parts.{part_sort, body_sort}
use Rattle.relation_terms.specs.declared.terms.part_kind.Part.{Part}
use Rattle.relation_terms.specs.declared.terms.part_kind.Part.TheVariants.{Binder}
use Rattle.relation_terms.specs.declared.terms.part_kind.Body.{Body}
use Rattle.relation_terms.specs.declared.terms.part_kind.Body.TheVariants.{Signature, Ty, Existential}
use Rattle.relation_terms.specs.declared.terms.keys.BoundVarsKey.{BoundVarsKey}
use Rattle.relation_terms.specs.declared.terms.keys.TyKey.{TyKey}
use Rattle.relation_terms.specs.declared.terms.fn_sig.FnSig.{FnSig}
use Rattle.relation_terms.specs.declared.predicate.existential.ExistentialPredicate.{ExistentialPredicate}
use Rattle.relation_folds.specs.declared.error.RelateFault.{RelateFault}
use Rattle.relation_folds.specs.declared.error.RelateFault.TheVariants.{Memory}
use Rattle.relation_semantics.specs.Lawful.{State, Manners}
use Rattle.relation_semantics.specs.Parts.{IsBinderPart, IsRelatedPart, ArePaired}
use Rattle.relation_steps.specs.Rounds.{RoundLeads, Opened}

-- A binder, and another of its sort: of one kind of body.
module _ {Key Id : Type 0} where
  pub is_binder : (p : Part Key Id) → IsBinderPart p →
      ((vs : BoundVarsKey Key) (b : Body Key Id) → p ≡ Binder vs b → ⊥) → ⊥
  is_binder (Binder vs b) is n = n vs b refl
  is_binder p is n = is

  pub also_binder : (p : Part Key Id) (b : Body Key Id) → part_sort p ≡ binder_sort (body_sort b) →
      ((vs : BoundVarsKey Key) (b : Body Key Id) → p ≡ Binder vs b → ⊥) → ⊥
  also_binder (Binder vs o) b e n = n vs o refl
  also_binder p b e n = cc

  pub also_signature : (o : Body Key Id) → binder_sort (body_sort o) ≡ binder_sort signature_sort →
      ((s : FnSig Key) → o ≡ Signature s → ⊥) → ⊥
  also_signature (Signature s) e n = n s refl
  also_signature (Ty t) e n = cc
  also_signature (Existential p) e n = cc

  pub also_ty : (o : Body Key Id) → binder_sort (body_sort o) ≡ binder_sort type_sort →
      ((t : TyKey Key) → o ≡ Ty t → ⊥) → ⊥
  also_ty (Signature s) e n = cc
  also_ty (Ty t) e n = n t refl
  also_ty (Existential p) e n = cc

  pub also_existential : (o : Body Key Id) → binder_sort (body_sort o) ≡ binder_sort existential_sort →
      ((p : ExistentialPredicate Key Id) → o ≡ Existential p → ⊥) → ⊥
  also_existential (Signature s) e n = cc
  also_existential (Ty t) e n = cc
  also_existential (Existential p) e n = n p refl

  -- Two bodies that a round answered may be related as parts.
  pub opened_related : (o : Option (Part Key Id × Part Key Id)) (x y : Part Key Id) → o ≡ Some (x, y) →
      IfSome o (λ p. IsRelatedPart p.0) → IsRelatedPart x
  opened_related o x y e h =
      subst (λ (z : Option (Part Key Id × Part Key Id)). IfSome z (λ p. IsRelatedPart p.0)) e h

  pub opened_paired : (o : Option (Part Key Id × Part Key Id)) (x y : Part Key Id) → o ≡ Some (x, y) →
      IfSome o (λ p. ArePaired p.0 p.1) → ArePaired x y
  opened_paired o x y e h =
      subst (λ (z : Option (Part Key Id × Part Key Id)). IfSome z (λ p. ArePaired p.0 p.1)) e h

pub not_some : {A : Type 0} (o : Option A) → ((x : A) → o ≡ Some x → ⊥) → o ≡ None
not_some (Some x) n = absurd (n x refl)
not_some None n = refl

module _ {Key Id Name : Type 0} where
  -- A round of values is told as one of others that have their trees.
  pub opened_some : {T U : Type 0} {r q : State Key Id Name} (M : Manners) (n : ℕ) (a b : Tree) (tree : T → Tree)
      (other : U → Tree) (x y : T) (u v : U) → other u ≡ tree x → other v ≡ tree y →
      Opened M r q n a b tree (Ok (Some (x, y))) → Opened M r q n a b other (Ok (Some (u, v)))
  opened_some {r = r} {q = q} M n a b tree other x y u v i j o = record {
    passes = o.passes;
    verdict = subst₂ (λ s t. RoundLeads M r q (o.passes).added n a b s t) (sym i) (sym j) o.verdict;
    built = o.built;
  }

  pub opened_none : {T U : Type 0} {r q : State Key Id Name} (M : Manners) (n : ℕ) (a b : Tree) (tree : T → Tree)
      (other : U → Tree) → Opened M r q n a b tree (Ok None) → Opened M r q n a b other (Ok None)
  opened_none M n a b tree other o = record { passes = o.passes; verdict = o.verdict; built = o.built }

  pub opened_not : {T U : Type 0} {r q : State Key Id Name} (M : Manners) (n : ℕ) (a b : Tree) (tree : T → Tree)
      (other : U → Tree) (f : RelateFault Key Id Name) → Opened M r q n a b tree (Err f) →
      Opened M r q n a b other (Err f)
  opened_not M n a b tree other Memory o = record { passes = o.passes; verdict = (tt, (o.verdict).1); built = o.built }
  opened_not M n a b tree other f o = absurd (o.verdict).0
