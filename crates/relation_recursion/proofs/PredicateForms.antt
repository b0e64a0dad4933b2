-- What is made of a predicate of a trait object, over other parts, is of its form.
use Rattle.std.proofs.Common.{◌≡◌, refl, sym, ap, ◌∙◌, Some, None, Result, Ok, Err, IfOk}
use Rattle.relation_terms.specs.declared.predicate.existential.ExistentialPredicate.{ExistentialPredicate}
use Rattle.relation_terms.specs.declared.predicate.existential.ExistentialPredicate.TheVariants.{Trait, AutoTrait}
use Rattle.relation_terms.specs.declared.predicate.existential.ExistentialPredicate.TheVariants.{Projection}
use Rattle.relation_terms.specs.declared.terms.part_kind.Part.{Part}
use Rattle.relation_terms.specs.declared.terms.part_kind.Part.TheVariants.{Region, Ty, Const, Binder, Existential}
use Rattle.relation_terms.specs.Heads.{existential_sort}
use Rattle.relation_terms.specs.Trees.{Tree}
use Rattle.relation_terms.specs.Meaning.{Meaning}
use Rattle.relation_terms.specs.Parts.{part_tree, part_sort}
use Rattle.relation_semantics.specs.Making.{form_over}
use Rattle.relation_semantics.specs.Parts.{IsArgPart, IsBinderPart}
use Rattle.relation_recursion.specs.PredicateForms.{predicate_form, form_of_part}

module _ {Key Id : Type 0} where
  -- A part of another sort has no such form.
  no_form : (x : Part Key Id) → (part_sort x ≡ existential_sort → ⊥) → form_of_part x ≡ None
  no_form (Existential p) h = absurd (h refl)
  no_form x h = refl

  -- Arguments and binders are of other sorts, and so is what has their sort.
  arg_not_existential : (x : Part Key Id) → IsArgPart x → part_sort x ≡ existential_sort → ⊥
  arg_not_existential (Region r) o e = absurd (cc)
  arg_not_existential (Ty t) o e = absurd (cc)
  arg_not_existential (Const c) o e = absurd (cc)
  arg_not_existential x o e = o

  binder_not_existential : (x : Part Key Id) → IsBinderPart x → part_sort x ≡ existential_sort → ⊥
  binder_not_existential (Binder vs b) o e = absurd (cc)
  binder_not_existential x o e = o

  neither_form : (x y : Part Key Id) → (part_sort x ≡ existential_sort → ⊥) → part_sort y ≡ part_sort x →
      form_of_part y ≡ form_of_part x
  neither_form x y h e = no_form y (λ k. h (sym e ∙ k)) ∙ sym (no_form x h)

  pub arg_form : (x y : Part Key Id) → IsArgPart x → part_sort y ≡ part_sort x → form_of_part y ≡ form_of_part x
  arg_form x y o e = neither_form x y (arg_not_existential x o) e

  pub binder_form : {E : Type 0} (x : Part Key Id) (res : Result (Part Key Id) E) → IsBinderPart x →
      IfOk res (λ y. part_sort y ≡ part_sort x) → IfOk res (λ y. form_of_part y ≡ form_of_part x)
  binder_form x (Ok y) o e = neither_form x y (binder_not_existential x o) e
  binder_form x (Err f) o e = tt

  -- Of two predicates.
  pub same_form : (p q : ExistentialPredicate Key Id) (x : Part Key Id) → Existential p ≡ x →
      form_of_part x ≡ form_of_part (Existential q) → predicate_form p ≡ predicate_form q
  same_form p q x is e =
      let f : Some (predicate_form p) ≡ Some (predicate_form q) = ap form_of_part is ∙ e in cc

module _ {Key Id Name : Type 0} (m n : Meaning Key Id Name) where
  of_existential : (p : ExistentialPredicate Key Id) (y : Part Key Id) (us : Tree) → part_sort y ≡ existential_sort →
      part_tree n y ≡ form_over (part_tree m (Existential p)) us → form_of_part y ≡ Some (predicate_form p)
  of_existential (Trait t) (Existential (Trait u)) us s e = refl
  of_existential (Projection t) (Existential (Projection u)) us s e = refl
  of_existential (AutoTrait t) (Existential (AutoTrait u)) us s e = refl
  of_existential p y us s e = absurd (cc)

  pub made_form : (x y : Part Key Id) (us : Tree) → part_sort y ≡ part_sort x →
      part_tree n y ≡ form_over (part_tree m x) us → form_of_part y ≡ form_of_part x
  made_form (Existential p) y us s e = of_existential p y us s e
  made_form x y us s e = neither_form x y (λ k. absurd (cc)) s
