use Rattle.std.proofs.Common.{◌≡◌, length, map, take}
use Rattle.relation_terms.specs.Meaning.{Extends}
use Rattle.text_terms.specs.Terms.{trees_of}
use Rattle.text_terms.specs.Built.{AreKnown, AreBuilt, AreInnerKnown, AreInnerBuilt}
use Rattle.text_terms.proofs.building.build.Given as goal

-- the keys, the patterns and the predicates so far mean the trees of the first terms
abbrev pub invariant-loop-term : goal.invariant-loop-term
invariant-loop-term g l =
    let m = g.I.Interner.meaning l.fn.cx in
    let n = g.I.Interner.meaning l.cx in
    let trees = trees_of (map m.id l.ids) (map m.name l.names) l.program.parts.items (take l.term-index l.term-items) in
    record {
      grown : Extends m n;
      each : length l.built.items ≡ l.term-index;
      each_pat : length l.inners.items ≡ l.term-index;
      sure : AreKnown n l.built.items;
      sure_pats : AreInnerKnown n l.inners.items;
      made : AreBuilt n trees l.built.items;
      made_pats : AreInnerBuilt n trees l.inners.items;
    }
