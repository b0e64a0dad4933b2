use Rattle.std.proofs.Common.{sym, ap}
use Rattle.relation_terms.specs.Trees.{node, cons, nil}
use Rattle.relation_terms.specs.Predicates.{trait_ref_tree}
use Rattle.text_clauses.specs.Clauses.{claim_head}
use Rattle.text_clauses.proofs.building.kinds.claim_of.Goals as goal

pub returns-in-Trait : goal.returns-in-Trait
returns-in-Trait g c m = sym
    (ap (λ k. node (claim_head k) (cons (trait_ref_tree m c.args.trait_ref) nil)) c.in-Trait.is)

pub returns-in-HostEffect : goal.returns-in-HostEffect
returns-in-HostEffect g c m = sym
    (ap (λ k. node (claim_head k) (cons (trait_ref_tree m c.args.trait_ref) nil)) c.in-HostEffect.is)
