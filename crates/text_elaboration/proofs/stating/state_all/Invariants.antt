use Rattle.std.proofs.Common.{◌<◌, ℕ, IsTrue, map, take}
use Rattle.reference_interner.specs.Adding.{meaning_in}
use Rattle.text_terms.specs.Built.{AreKnown, AreBuilt}
use Rattle.text_elaboration.specs.Stating.{terms_said, TermsStay, StatesLast}
use Rattle.text_elaboration.proofs.stating.state_all.Given as goal

-- the keys are known and mean the program's terms, and what is stated is what the statements so far say
abbrev pub invariant-loop-stated : goal.invariant-loop-stated
invariant-loop-stated l =
    let m = meaning_in l.fn.cx in
    let n = meaning_in l.cx in
    let items = map m.id l.ids in
    let names = map m.name l.names in
    record {
      stays : TermsStay m n;
      keys : AreKnown n l.built.items;
      built : AreBuilt n (terms_said items names l.program) l.built.items;
      stated : IsTrue l.own → (d : ℕ) → 0 < m.generics d →
          StatesLast m n items names l.program (take l.stated-index l.program.stated.items) d;
    }
