use Rattle.std.proofs.Common.{◌∷◌, [], ◌++◌, if◌then◌else◌, ap, ◌∙◌}
use Rattle.relation_terms.proofs.Stays.{extends_on}
use Rattle.text_asking.proofs.AskingLemmas.{ready_stays}
use Rattle.text_asking.proofs.CoherenceLemmas.{methods_later, methods_with}
use Rattle.text_asking.proofs.coherence.methods_of.Goals as goal

pub method_of-requires : goal.method_of-requires
method_of-requires g c =
    ready_stays c.loop-method.invariant.grown c.args.terms.now.built.now c.requires

pub loop-method-preserved : goal.loop-method-preserved
loop-method-preserved g c =
    let m = g.I.Interner.meaning c.loop-method.cx in
    let n = g.I.Interner.meaning c.method_of.new.cx in
    let inv = c.loop-method.invariant in
    let before = c.loop-method.made.items in
    let next = c.in_ok-next.next in
    let pushed = c.push.ensures.items
    ∙ ap (λ b. if b then (before ++ next ∷ []) else before) c.if-is_err.ensures.negation in
    record {
      grown = extends_on inv.grown c.method_of.ensures.grown;
      sure = methods_with n before c.push.new.self.items next
          (methods_later m n c.method_of.ensures.grown before inv.sure) c.in_ok-next.ensures.sure pushed;
    }

pub returns-in_err-next-clause-grown : goal.returns-in_err-next-clause-grown
returns-in_err-next-clause-grown g c = extends_on c.loop-method.invariant.grown c.method_of.ensures.grown

pub returns-then-is_err-clause-grown : goal.returns-then-is_err-clause-grown
returns-then-is_err-clause-grown g c = extends_on c.loop-method.invariant.grown c.method_of.ensures.grown
