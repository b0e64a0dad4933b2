use Rattle.text_elaboration.proofs.PullLemmas.{find_keeps}
use Rattle.text_elaboration.proofs.pulls.pull_trait.Goals as goal

pub returns-in-None-clause-same_reference : goal.returns-in-None-clause-same_reference
returns-in-None-clause-same_reference g c =
    (find_keeps g.I.Interner.meaning c.args.traits.now c.next.new.self c.next.result c.next.ensures.steps).0

pub returns-in-None-clause-grown : goal.returns-in-None-clause-grown
returns-in-None-clause-grown g c =
    (find_keeps g.I.Interner.meaning c.args.traits.now c.next.new.self c.next.result c.next.ensures.steps).1

pub returns-in-Some-Ok-clause-same_reference : goal.returns-in-Some-Ok-clause-same_reference
returns-in-Some-Ok-clause-same_reference g c =
    (find_keeps g.I.Interner.meaning c.args.traits.now c.next.new.self c.next.result c.next.ensures.steps).0

pub returns-in-Some-Ok-clause-grown : goal.returns-in-Some-Ok-clause-grown
returns-in-Some-Ok-clause-grown g c =
    (find_keeps g.I.Interner.meaning c.args.traits.now c.next.new.self c.next.result c.next.ensures.steps).1

pub returns-in-Some-Err-Limit-clause-same_reference : goal.returns-in-Some-Err-Limit-clause-same_reference
returns-in-Some-Err-Limit-clause-same_reference g c =
    (find_keeps g.I.Interner.meaning c.args.traits.now c.next.new.self c.next.result c.next.ensures.steps).0

pub returns-in-Some-Err-Limit-clause-grown : goal.returns-in-Some-Err-Limit-clause-grown
returns-in-Some-Err-Limit-clause-grown g c =
    (find_keeps g.I.Interner.meaning c.args.traits.now c.next.new.self c.next.result c.next.ensures.steps).1

pub returns-in-Some-Err-Memory-clause-same_reference : goal.returns-in-Some-Err-Memory-clause-same_reference
returns-in-Some-Err-Memory-clause-same_reference g c =
    (find_keeps g.I.Interner.meaning c.args.traits.now c.next.new.self c.next.result c.next.ensures.steps).0

pub returns-in-Some-Err-Memory-clause-grown : goal.returns-in-Some-Err-Memory-clause-grown
returns-in-Some-Err-Memory-clause-grown g c =
    (find_keeps g.I.Interner.meaning c.args.traits.now c.next.new.self c.next.result c.next.ensures.steps).1
