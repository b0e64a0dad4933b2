use Rattle.std.proofs.Common.{◌≡◌, subst, IfSome}
use Rattle.reference_interner.specs.Items.{clauses_in}
use Rattle.text_elaboration.proofs.PutLemmas.{puts_both}
use Rattle.text_elaboration.proofs.stating.state_predicates.Goals as goal

pub returns-clause-puts : goal.returns-clause-puts
returns-clause-puts c h =
    let ks = c.args.clauses.now in
    puts_both c.args.cx.now c.set_supers.new.cx c.set_implied.new.cx c.args.id.0 c.args.supers c.args.implied
    (clauses_in c.in-Some.first) (clauses_in c.in-Some-2.second) ks
    (subst (λ o. IfSome o (λ all. clauses_in all ≡ ks)) c.in-Some.is c.in_ok-first.ensures.same)
    (subst (λ o. IfSome o (λ all. clauses_in all ≡ ks)) c.in-Some-2.is c.in_ok-second.ensures.same)
    c.set_supers.ensures.puts c.set_implied.ensures.puts
