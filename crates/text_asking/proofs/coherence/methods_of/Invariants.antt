use Rattle.relation_terms.specs.Meaning.{Extends}
use Rattle.text_users.specs.Asked.{AreForKnown}
use Rattle.text_asking.proofs.coherence.methods_of.Given as goal

-- the methods so far are for known types
abbrev pub invariant-loop-method : goal.invariant-loop-method
invariant-loop-method g l = record {
  grown : Extends (g.I.Interner.meaning l.fn.cx) (g.I.Interner.meaning l.cx);
  sure : AreForKnown (g.I.Interner.meaning l.cx) l.made.items;
}
