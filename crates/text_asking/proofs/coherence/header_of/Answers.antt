use Rattle.text_asking.proofs.CoherenceLemmas.{header_known}
use Rattle.text_asking.proofs.coherence.header_of.Goals as goal

pub returns-clause-sure : goal.returns-clause-sure
returns-clause-sure g c =
    let m = g.I.Interner.meaning c.bound_of.new.cx in
    header_known m (m.bound_vars (c.in-Some.bound).bound_vars) (c.in-Some.bound).value c.in-Some.ensures.sure
