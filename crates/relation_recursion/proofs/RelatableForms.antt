-- What can be related besides keys, by its tree: predicates of trait objects, and binders over whatever can be related.
use Rattle.std.proofs.Common.{◌≡◌, ◌&&◌, Bool, IsTrue, refl, sym, subst, subst₂, List, Option, Some, None, Result}
use Rattle.relation_terms.specs.declared.terms.binder.Binder.{Binder}
use Rattle.relation_terms.specs.declared.predicate.existential.ExistentialPredicate.{ExistentialPredicate}
use Rattle.relation_terms.specs.declared.predicate.existential.ExistentialPredicate.TheVariants.{Trait, AutoTrait}
use Rattle.relation_terms.specs.declared.predicate.existential.ExistentialPredicate.TheVariants.{Projection}
use Rattle.relation_terms.specs.Heads.{Head, BoundKind, type_sort}
use Rattle.relation_terms.specs.Trees.{Tree, known}
use Rattle.relation_terms.specs.Meaning.{Meaning, Extends, existential_tree, under}
use Rattle.relation_terms.specs.Interning.{AreEqualAsTrees, AreEqualAsKinds}
use Rattle.relation_terms.proofs.Binders.{under_stays}
use Rattle.relation_folds.specs.declared.error.RelateFault.{RelateFault}
use Rattle.relation_steps.specs.Arguments.{related_tree}
use Rattle.relation_semantics.specs.Binders.{binder_tree}
use Rattle.relation_recursion.specs.EqualForms.{binder_same}
use Rattle.relation_semantics.specs.Lawful.{State, Manners, Asked, Related}
use Rattle.relation_semantics.specs.Relation.{sort_of}
use Rattle.relation_semantics.proofs.Passing.{asked_later}
use Rattle.relation_recursion.proofs.RelatableValues.{equal_one}
use Rattle.relation_recursion.proofs.Rounds.{HalfDone}

-- No predicate of a trait object is a type, and no binder.
pub existential_is_none : {Key Id Name : Type 0} (m : Meaning Key Id Name) (p : ExistentialPredicate Key Id) →
    sort_of (existential_tree m p) ≡ type_sort → ⊥
existential_is_none m (Trait t) e = cc
existential_is_none m (Projection p) e = cc
existential_is_none m (AutoTrait d) e = cc

pub binder_is_none : (vars : Option (List BoundKind)) (t : Tree) → sort_of (under vars t) ≡ type_sort → ⊥
binder_is_none (Some ks) t e = cc
binder_is_none None t e = cc

module _ {Key Id Name T : Type 0} (tree : Meaning Key Id Name → T → Tree) where
  -- A known binder keeps its tree while the interner grows, where its body does.
  pub stays_binder : ((m n : Meaning Key Id Name) → Extends m n → (x : T) → IsTrue (known (tree m x)) →
      tree n x ≡ tree m x) → {m n : Meaning Key Id Name} → Extends m n → (b : Binder Key T) →
      IsTrue (known (binder_tree tree m b)) → binder_tree tree n b ≡ binder_tree tree m b
  stays_binder stays {m} {n} e b k = under_stays (m.bound_vars b.bound_vars) (n.bound_vars b.bound_vars)
      (tree m b.value) (tree n b.value) (e.bound_vars b.bound_vars) (stays m n e b.value) k

  -- Equal binders are one.
  pub equal_binders : {m n : Meaning Key Id Name} → m ≡ n → (bodies : T → T → Bool) (eq : Key → Key → Bool) →
      AreEqualAsTrees (tree n) bodies → AreEqualAsKinds n.bound_vars (λ k l. eq k.0 l.0) → (a b : Binder Key T) →
      IsTrue (known (binder_tree tree m a)) → IsTrue (known (binder_tree tree m b)) →
      IsTrue (bodies a.value b.value && eq (a.bound_vars).0 (b.bound_vars).0) →
      binder_tree tree m a ≡ binder_tree tree m b
  equal_binders {m} {n} e bodies eq same kinds a b h k i = equal_one e None (binder_tree tree)
      (λ x y. bodies x.value y.value && eq (x.bound_vars).0 (y.bound_vars).0)
      (binder_same n eq (tree n) bodies (λ x y. bodies x.value y.value && eq (x.bound_vars).0 (y.bound_vars).0)
      (λ x y. refl) same kinds) a b h k i

module _ {Key Id Name : Type 0} where
  -- Binders are still the relation's after round 0, by the trees that they have then.
  pub still_asked : {r p : State Key Id Name} (M : Manners) (a b x y : Tree) → x ≡ a → y ≡ b → HalfDone M r p a b →
      Asked M r r.ambient a b → Asked M p p.ambient x y
  still_asked {r} {p} M a b x y i j h k =
      subst₂ (λ t u. Asked M p p.ambient t u) (sym i) (sym j)
      (subst (λ v. Asked M p v a b) (sym (h.passes).ambient) (asked_later M r.ambient a b h.passes k))

  -- Bodies that are related by their tree.
  pub asked_bodies : {r : State Key Id Name} (M : Manners) (over : Option Head) (x y : Tree) → over ≡ None →
      Asked M r r.ambient x y → Asked M r r.ambient (related_tree over x) (related_tree over y)
  asked_bodies {r} M over x y e k =
      subst (λ o. Asked M r r.ambient (related_tree o x) (related_tree o y)) (sym e) k

  pub related_bodies : {X : Type 0} {r q : State Key Id Name} (M : Manners) (over : Option Head) (x y : Tree)
      (tree : X → Tree) (res : Result X (RelateFault Key Id Name)) → over ≡ None →
      Related M r q r.ambient (related_tree over x) (related_tree over y) (λ t. related_tree over (tree t)) res →
      Related M r q r.ambient x y tree res
  related_bodies {r = r} {q = q} M over x y tree res e f =
      subst (λ o. Related M r q r.ambient (related_tree o x) (related_tree o y) (λ t. related_tree o (tree t)) res) e f
