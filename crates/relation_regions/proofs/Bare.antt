-- What relating promises of bare values it does, and of which facts solving speaks.
use Rattle.std.proofs.Common.{◌≡◌, ℕ, List, inr, subst}
use Rattle.relation_terms.specs.Heads.{Leaf, variable, bound, placeholder, atom, unknown}
use Rattle.relation_terms.specs.Trees.{Tree, leaf, node, bind, nil, cons, Leaves}
use Rattle.relation_semantics.specs.Asking.{ArePlain, without_aliases}
use Rattle.relation_semantics.specs.Recording.{AreBare}
use Rattle.relation_semantics.specs.Relation.{IsValueLeaf}
use Rattle.relation_semantics.specs.Settings.{Settings}
use Rattle.relation_semantics.specs.Steps.{HasNoBinder}
use Rattle.relation_semantics.specs.Stores.{Store}
use Rattle.relation_combining.specs.ClosedTerms.{IsClosed}
use Rattle.relation_regions.specs.Solutions.{HasSolution, IsUnmetBy}
use Rattle.relation_regions.specs.Entailment.{AreBareValues}

pub bare_terms : (k : Settings) (a b : Tree) → AreBareValues a b → AreBare k a b
bare_terms k a b h = record {
  left_plain = (h.left_bare).0;
  right_plain = (h.right_bare).0;
  left_unbound = (h.left_bare).2;
  right_unbound = (h.right_bare).2;
  aliases = inr ((h.left_bare).1, (h.right_bare).1);
}

pub plain_terms : (k : Settings) (a b : Tree) → AreBareValues a b → ArePlain k a b
plain_terms k a b h = without_aliases (h.left_bare).0 (h.right_bare).0 (h.left_bare).1 (h.right_bare).1

closed_leaf : (l : Leaf) → IsValueLeaf l → IsClosed (leaf l)
closed_leaf (variable k n) h = absurd h
closed_leaf (bound k d i) h = tt
closed_leaf (placeholder k u n) h = tt
closed_leaf (atom x) h = tt
closed_leaf unknown h = tt

-- A term without variables and binders is closed.
pub closed_term : (t : Tree) → Leaves IsValueLeaf t → HasNoBinder t → IsClosed t
closed_term (leaf l) h n = closed_leaf l h
closed_term (node g ts) h n = closed_term ts h n
closed_term (bind ks t) h n = absurd n
closed_term nil h n = tt
closed_term (cons t ts) h n = (closed_term t h.0 n.0, closed_term ts h.1 n.1)

-- The same, by other names of facts and store.
pub solution_like : (facts facts' : List (Tree × Tree)) (st st' : Store) → facts' ≡ facts → st' ≡ st →
    HasSolution facts' st' → HasSolution facts st
solution_like facts facts' st st' e f h = subst (λ u. HasSolution u st) e (subst (λ u. HasSolution facts' u) f h)

pub unmet_like : (facts facts' : List (Tree × Tree)) (st st' : Store) (x y : Tree) (by : List ℕ) → facts' ≡ facts →
    st' ≡ st → IsUnmetBy facts' st' x y by → IsUnmetBy facts st x y by
unmet_like facts facts' st st' x y by e f h =
    subst (λ u. IsUnmetBy u st x y by) e (subst (λ u. IsUnmetBy facts' u x y by) f h)
