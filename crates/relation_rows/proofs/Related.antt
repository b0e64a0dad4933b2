-- That `u8` implements a trait, and predicates of that, as terms of every context.
use Rattle.std.proofs.Common.{◌≡◌, sym, subst}
use Rattle.relation_terms.specs.Heads.{Head}
use Rattle.relation_terms.specs.Trees.{Tree, node, cons, nil}
use Rattle.relation_semantics.specs.Stores.{Store, IsTermIn, InContext}
use Rattle.relation_rows.specs.Terms.{byte_alone}

module _ (h : Head) (ts : Tree) (is : ts ≡ byte_alone) (st : Store) where
  -- A form over `u8` alone.
  pub form_in : IsTermIn st (node h ts)
  unfolding IsTermIn InContext
  form_in = subst (λ z. IsTermIn st (node h z)) (sym is) ((tt, tt), (tt, tt), (tt, tt))

  -- A form over that form.
  pub over_in : (k : Head) → IsTermIn st (node k (cons (node h ts) nil))
  unfolding IsTermIn InContext
  over_in k = subst (λ z. IsTermIn st (node k (cons (node h z) nil))) (sym is)
      (((tt, tt), tt), ((tt, tt), tt), ((tt, tt), tt))
