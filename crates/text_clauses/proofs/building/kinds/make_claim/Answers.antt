use Rattle.std.proofs.Common.{sym, ap, ◌∙◌, subst, map, IsTrue}
use Rattle.relation_terms.specs.Trees.{node, cons, nil, known}
use Rattle.relation_terms.specs.Predicates.{trait_ref_tree}
use Rattle.text_terms.proofs.BuildingLemmas.{alone_known}
use Rattle.text_clauses.specs.Clauses.{claim_head, says_tree}
use Rattle.text_clauses.proofs.building.kinds.make_claim.Goals as goal

pub returns-in_ok-trait_ref-in-Claims-clause-made : goal.returns-in_ok-trait_ref-in-Claims-clause-made
returns-in_ok-trait_ref-in-Claims-clause-made g c names =
    let m = g.I.Interner.meaning c.args.cx.now in
    let n = g.I.Interner.meaning c.trait_ref_of.new.cx in
    let made = c.in_ok-trait_ref-in-Claims.ensures.made in
    let q = c.claim_of.ensures n in (
      subst (λ u. IsTrue (known u)) (sym q)
          (alone_known (trait_ref_tree n c.in_ok-trait_ref-in-Claims.trait_ref) made.0),
      λ trees b. q ∙ ap (λ u. node (claim_head c.in-Claims.claim) (cons u nil)) (made.1 trees b)
          ∙ sym (ap (says_tree (map m.id c.args.ids.now) names c.args.numbers.now trees) c.in-Claims.is),
    )
