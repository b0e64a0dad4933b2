use Rattle.std.proofs.Common.{rules, sym, subst, IsTrue, ◌≡◌, ◌∙◌, true, false, refl, Some, None, length, MatchOption}
use Rattle.std.specs.List.{list_any}
use Rattle.relation_terms.specs.Trees.{known}
use Rattle.relation_terms.specs.Meaning.{arg_tree}
use Rattle.term_enums.specs.declared.memory.OutOfMemory.{OutOfMemory}
use Rattle.relation_terms.specs.contracts.terms.generic_arg.GenericArgKindPartialEq.TheImpl.{ghosts}
use Rattle.traversal.specs.Unseen.{Pops}
use Rattle.walk.proofs.Pulling.{pulled_none, pulled_one, known_after, unseen_known}
use Rattle.walk.proofs.TypeWalker.pull.Goals as goal

pub enter-requires : goal.enter-requires
enter-requires g c =
    let m = g.I.Interner.meaning c.self.inside.cx.now in
    let eq = (ghosts g.row.I-Key g.I.Key.PartialEq g.I.Key.PartialEq-dict).eq in
    let s = c.self.inside.place.stack in
    let vs = c.self.inside.place.visited.keys in
    let rest = c.next_unseen.new.self.stack in
    let us = c.next_unseen.new.self.visited.keys in
    let x = c.in-Ok-Some.arg in
    let p : Pops eq vs s (Some x) rest us =
    subst (λ o. Pops eq vs s o rest us) c.in-Ok-Some.field-0-is c.in-Ok-Some.ensures.pops in
    let k : IsTrue (known (arg_tree m x)) =
    (unseen_known (arg_tree m) (λ q. list_any (eq q) vs) s x rest p.0 (c.self.invariant c.if-self.false)).0 in
    search rules

pub returns-in-Ok-None : goal.returns-in-Ok-None
returns-in-Ok-None g c =
    let eq = (ghosts g.row.I-Key g.I.Key.PartialEq g.I.Key.PartialEq-dict).eq in
    let s = c.self.inside.place.stack in
    let vs = c.self.inside.place.visited.keys in
    let rest = c.next_unseen.new.self.stack in
    let us = c.next_unseen.new.self.visited.keys in
    let p : Pops eq vs s None rest us =
    subst (λ o. Pops eq vs s o rest us) c.in-Ok-None.field-0-is c.in-Ok-None.ensures.pops in
    rw (← c.self.view_is)
    (pulled_none eq c.self.inside.cx.now s rest vs us c.self.inside.failed c.self.inside.place.last_subtree
    c.next_unseen.new.self.last_subtree c.if-self.false p)

pub returns-in-Ok : goal.returns-in-Ok
returns-in-Ok g c =
    let m = g.I.Interner.meaning c.self.inside.cx.now in
    let eq = (ghosts g.row.I-Key g.I.Key.PartialEq g.I.Key.PartialEq-dict).eq in
    let s = c.self.inside.place.stack in
    let vs = c.self.inside.place.visited.keys in
    let rest = c.next_unseen.new.self.stack in
    let us = c.next_unseen.new.self.visited.keys in
    let held = c.if-self.false in
    let x = c.in-Ok-Some.arg in
    let p : Pops eq vs s (Some x) rest us =
    subst (λ o. Pops eq vs s o rest us) c.in-Ok-Some.field-0-is c.in-Ok-Some.ensures.pops in
    let last = c.next_unseen.new.self.last_subtree in
    let len : last ≡ length rest = subst (λ o. MatchOption o (last ≡ c.self.inside.place.last_subtree)
    (λ _. last ≡ length rest)) c.in-Ok-Some.field-0-is c.in-Ok-Some.ensures.last_subtree in
    let k = (unseen_known (arg_tree m) (λ q. list_any (eq q) vs) s x rest p.0 (c.self.invariant held)).0 in
    rw (← c.self.view_is)
    (pulled_one m eq s c.enter.new.stack vs x rest p.0 OutOfMemory c.self.inside.cx.now us c.self.inside.failed
    c.self.inside.place.last_subtree last held k len c.in-Ok.ensures p.1)

pub returns-in-Err : goal.returns-in-Err
returns-in-Err g c =
    rw (← c.self.view_is) (refl, refl, λ h. absurd (let z : true ≡ false = sym h ∙ c.if-self.false in cc))

pub invariant_of-self-in-Ok : goal.invariant_of-self-in-Ok
invariant_of-self-in-Ok g c = λ h.
    let m = g.I.Interner.meaning c.self.inside.cx.now in
    let eq = (ghosts g.row.I-Key g.I.Key.PartialEq g.I.Key.PartialEq-dict).eq in
    let s = c.self.inside.place.stack in
    let vs = c.self.inside.place.visited.keys in
    let rest = c.next_unseen.new.self.stack in
    let us = c.next_unseen.new.self.visited.keys in
    let x = c.in-Ok-Some.arg in
    let p : Pops eq vs s (Some x) rest us =
    subst (λ o. Pops eq vs s o rest us) c.in-Ok-Some.field-0-is c.in-Ok-Some.ensures.pops in
    known_after m eq s c.enter.new.stack vs x rest p.0 (c.self.invariant c.if-self.false) c.in-Ok.ensures
