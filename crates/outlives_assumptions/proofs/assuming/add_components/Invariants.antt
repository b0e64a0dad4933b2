use Rattle.std.proofs.Common.{take}
use Rattle.std.specs.List.{filter_map}
use Rattle.relation_terms.specs.Meaning.{Extends}
use Rattle.outlives_assumptions.specs.Assuming.{pair_of, Gains}
use Rattle.outlives_assumptions.proofs.assuming.add_components.Given as goal

-- What the components so far give was added.
abbrev pub invariant-loop-component : goal.invariant-loop-component
invariant-loop-component g l =
    let m = g.I.Interner.meaning l.fn.cx in
    let n = g.I.Interner.meaning l.cx in
    record {
      grown : Extends m n;
      gains : Gains m n l.fn.collected.keys l.collected.keys
          (filter_map (pair_of m (m.region l.region)) (take l.component-index l.components));
    }
