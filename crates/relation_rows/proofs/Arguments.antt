-- Arguments that are made, and what an interner's tables say of items while it grows.
use Rattle.std.proofs.Common.{◌≡◌, ℕ, refl, sym, ap, ◌∙◌, subst, Option, Some}
use Rattle.std.specs.Prelude.{IsSome}
use Rattle.relation_terms.specs.Heads.{atom, type_param}
use Rattle.relation_terms.specs.Trees.{Tree, leaf, cons}
use Rattle.relation_terms.specs.Edits.{HasSelf}
use Rattle.relation_terms.specs.Meaning.{Meaning, Extends}
use Rattle.relation_terms.specs.Predicates.{item_parent}

-- A list whose first member is a parameter that stands for a type begins with a type.
pub first_is_self : (ts t u : Tree) (i n : ℕ) → ts ≡ cons t u → t ≡ leaf (atom (type_param i n)) → HasSelf ts
first_is_self ts t u i n e p = subst HasSelf (sym (e ∙ ap (λ x. cons x u) p)) refl

-- What a trait declares it still declares.
pub parent_on : {Key Id Name : Type 0} (m n : Meaning Key Id Name) → Extends m n → (d : Id) →
    IsSome (item_parent m d) → IsSome (item_parent n d)
parent_on m n e d h =
    subst (λ t. IsSome (t.parent (n.id d))) (sym e.tables) (subst (λ i. IsSome ((m.tables).parent i)) (sym (e.id d)) h)

-- An option that equals one with a value has one.
pub is_some : {A : Type 0} (x : A) (o : Option A) → o ≡ Some x → IsSome o
is_some x o e = subst IsSome (sym e) refl
