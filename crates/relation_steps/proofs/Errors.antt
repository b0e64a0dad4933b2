-- Errors agree with all of their sort.
use Rattle.std.proofs.Common.{◌≡◌, ◌⊎◌, ◌∙◌, sym, inl, inr}
use Rattle.term_enums.specs.declared.Variance.{Variance}
use Rattle.relation_terms.specs.Heads.{atom}
use Rattle.relation_terms.specs.Trees.{Tree, leaf, apply}
use Rattle.relation_semantics.specs.Relation.{Items, at, IsError, sort_of}
use Rattle.relation_semantics.specs.Settings.{Settings}
use Rattle.relation_semantics.specs.Stores.{Store, IsSound, resolved}
use Rattle.relation_semantics.specs.Agreeing.{IsFlexible, AgreeIn}
use Rattle.relation_semantics.proofs.Agreeing.{agree_flexible}
use Rattle.relation_semantics.proofs.AgreeingBefore.{came_sort}

-- An error agrees with all of its sort.
error_flexible : (t u : Tree) → IsError t → IsFlexible t u
error_flexible (leaf (atom x)) u h = inl h
error_flexible t u h = absurd h

error_came : (st : Store) (t : Tree) → IsError t → IsError (apply (resolved st) t)
error_came st (leaf (atom x)) h = h
error_came st t h = absurd h

-- So it does by what any record has.
pub error_agreed : (set : Settings) (c : Items) (st : Store) → IsSound st → (v : Variance) (a b : Tree) →
    IsError a ⊎ IsError b → sort_of a ≡ sort_of b → AgreeIn set c st (at v) a b
error_agreed set c st g v a b one s = agree_flexible set c v (apply (resolved st) a) (apply (resolved st) b) (
  either (apply (resolved st) a) (apply (resolved st) b) (error_came st a) (error_came st b) one,
  came_sort st g a ∙ s ∙ sym (came_sort st g b),
)
  where
    either : (x y : Tree) → (IsError a → IsError x) → (IsError b → IsError y) → IsError a ⊎ IsError b →
        IsFlexible x y ⊎ IsFlexible y x
    either x y f h (inl e) = inl (error_flexible x y (f e))
    either x y f h (inr e) = inr (error_flexible y x (h e))
