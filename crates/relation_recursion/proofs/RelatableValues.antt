-- What can be related, by its tree: terms of projections, and what is equal.
use Rattle.std.proofs.Common.{◌≡◌, Bool, IsTrue, Option, Some, None, refl, sym, ap, subst}
use Rattle.relation_terms.specs.declared.terms.keys.TyKey.{TyKey}
use Rattle.relation_terms.specs.declared.terms.keys.ConstKey.{ConstKey}
use Rattle.relation_terms.specs.declared.terms.generic_arg.TermKind.{TermKind}
use Rattle.relation_terms.specs.declared.terms.generic_arg.TermKind.TheVariants.{Ty, Const}
use Rattle.relation_terms.specs.Heads.{Head}
use Rattle.relation_terms.specs.Trees.{Tree, known}
use Rattle.relation_terms.specs.Meaning.{Meaning}
use Rattle.relation_terms.specs.Interning.{AreEqualAsTrees}
use Rattle.relation_steps.specs.Arguments.{related_tree}

-- A term that is no type is a constant, and the other way round.
pub else_const : {Key : Type 0} (b : TermKind Key) → ((t : TyKey Key) → b ≡ Ty t → ⊥) → (c : ConstKey Key) × (b ≡ Const c)
else_const (Ty t) o = absurd (o t refl)
else_const (Const c) o = (c, refl)

pub else_ty : {Key : Type 0} (b : TermKind Key) → ((c : ConstKey Key) → b ≡ Const c → ⊥) → (t : TyKey Key) × (b ≡ Ty t)
else_ty (Ty t) o = (t, refl)
else_ty (Const c) o = absurd (o c refl)

-- What is related of a value is known exactly where its tree is, and one exactly where that is.
pub tree_known : (over : Option Head) (t : Tree) → IsTrue (known (related_tree over t)) → IsTrue (known t)
tree_known None t h = h
tree_known (Some q) t h = h

pub tree_one : (over : Option Head) (t u : Tree) → related_tree over t ≡ related_tree over u → t ≡ u
tree_one None t u e = e
tree_one (Some q) t u e = cc

-- Equal values are related as one, and the other way round.
module _ {Key Id Name A : Type 0} {m n : Meaning Key Id Name} (e : m ≡ n) (over : Option Head)
    (tree : Meaning Key Id Name → A → Tree) (eq : A → A → Bool) (same : AreEqualAsTrees (tree n) eq) (a b : A)
    (h : IsTrue (known (related_tree over (tree m a)))) (k : IsTrue (known (related_tree over (tree m b)))) where
  left_known : IsTrue (known (tree n a))
  left_known = subst (λ z. IsTrue (known (tree z a))) e (tree_known over (tree m a) h)

  right_known : IsTrue (known (tree n b))
  right_known = subst (λ z. IsTrue (known (tree z b))) e (tree_known over (tree m b) k)

  pub equal_one : IsTrue (eq a b) → related_tree over (tree m a) ≡ related_tree over (tree m b)
  equal_one i = ap (related_tree over)
      (subst (λ z. tree z a ≡ tree z b) (sym e) ((same a b left_known right_known).0 i))

  pub one_equal : related_tree over (tree m a) ≡ related_tree over (tree m b) → IsTrue (eq a b)
  one_equal o = (same a b left_known right_known).1
      (subst (λ z. tree z a ≡ tree z b) e (tree_one over (tree m a) (tree m b) o))
