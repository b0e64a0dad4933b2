-- Slices of a context's variables stand in it.
use Rattle.std.proofs.Common.{◌≡◌, ℕ, ap, ◌∙◌, sym, subst}
use Rattle.relation_terms.specs.Heads.{type_var, slice, variable}
use Rattle.relation_terms.specs.Trees.{Tree, leaf, node, cons, nil}
use Rattle.relation_semantics.specs.Stores.{Store, IsMade, IsTermIn, InContext}
use Rattle.relation_semantics.specs.Steps.{MakesVariable}
use Rattle.relation_reference.proofs.Marking.{made_new}

slice_in : (st : Store) (t : Tree) (n : ℕ) → IsMade st type_var n → t ≡ node slice (cons (leaf (variable type_var n)) nil) →
    IsTermIn st t
unfolding IsTermIn InContext
slice_in st t n made e = subst (IsTermIn st) (sym e) ((made, tt), (tt, tt), (tt, tt))

-- The slice of a variable that was just made is the context's.
pub slice_made : (st before after : Store) (t u : Tree) (n w : ℕ) → MakesVariable before after type_var n w → st ≡ after →
    u ≡ leaf (variable type_var n) → t ≡ node slice (cons u nil) → IsTermIn st t
slice_made st before after t u n w h e p q = slice_in st t n
    (subst (λ s. IsMade s type_var n) (sym e) (made_new before after type_var n w h)) (q ∙ ap (λ z. node slice (cons z nil)) p)
