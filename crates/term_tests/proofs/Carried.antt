-- What an interner knows of arguments and of items while it grows, and lists of arguments as they are made.
use Rattle.std.proofs.Common.{◌≡◌, IsTrue, refl, sym, ap, ◌∙◌, subst, List, [], Option, Some}
use Rattle.std.specs.Prelude.{IsSome}
use Rattle.relation_terms.specs.Heads.{BoundKind, atom, bool_type}
use Rattle.relation_terms.specs.Trees.{Tree, leaf, cons, nil, known}
use Rattle.relation_terms.specs.Meaning.{Meaning, Extends, under}
use Rattle.relation_terms.specs.Edits.{HasSelf}
use Rattle.relation_terms.specs.Predicates.{item_parent}
use Rattle.relation_terms.specs.declared.terms.keys.ArgsKey.{ArgsKey}
use Rattle.relation_terms.specs.declared.terms.keys.BoundVarsKey.{BoundVarsKey}

-- The list of a plain type begins with a type.
pub one_type : (ts t : Tree) → ts ≡ cons t nil → t ≡ leaf (atom bool_type) → HasSelf ts
one_type ts t e p = subst HasSelf (sym (e ∙ ap (λ u. cons u nil) p)) refl

-- What is known is so under a binder that binds nothing.
pub known_under : (o : Option (List BoundKind)) (t : Tree) → o ≡ Some [] → IsTrue (known t) → IsTrue (known (under o t))
known_under o t is k = subst (λ p. IsTrue (known (under p t))) (sym is) k

-- An option that equals one with a value has one.
pub is_some : {A : Type 0} (x : A) (o : Option A) → Some x ≡ o → IsSome o
is_some x o e = subst IsSome e refl

module _ {Key Id Name : Type 0} (m n : Meaning Key Id Name) (e : Extends m n) where
  -- A list that begins with a type still does.
  pub self_on : (k : ArgsKey Key) → IsTrue (known (m.args k)) → HasSelf (m.args k) → HasSelf (n.args k)
  self_on k h s = subst HasSelf (sym (e.args k h)) s

  -- A binder that binds nothing still binds nothing.
  pub none_on : (k : BoundVarsKey Key) → m.bound_vars k ≡ Some [] → n.bound_vars k ≡ Some []
  none_on k h = e.bound_vars k (subst IsSome (sym h) refl) ∙ h

  -- What a trait declares, and what is an alias, it still declares, and still is.
  pub parent_on : (d : Id) → IsSome (item_parent m d) → IsSome (item_parent n d)
  parent_on d h =
      subst (λ t. IsSome (t.parent (n.id d))) (sym e.tables) (subst (λ i. IsSome ((m.tables).parent i)) (sym (e.id d)) h)
