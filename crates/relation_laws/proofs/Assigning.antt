-- Assigning values.
use Rattle.relation_terms.specs.Trees.{apply}
use Rattle.relation_semantics.specs.StepLaws.{AssigningTwice, InstantiatingAssigns}
use Rattle.relation_semantics.proofs.Trees.{apply_ground, apply-inst}
use Rattle.relation_semantics.proofs.Values.{occurring_stay}

pub assigning_twice : AssigningTwice
assigning_twice s s' t h = apply_ground s' (apply s t) h

pub instantiating_assigns : InstantiatingAssigns
instantiating_assigns s ts depth t h = apply-inst s ts depth t (occurring_stay s t h)
