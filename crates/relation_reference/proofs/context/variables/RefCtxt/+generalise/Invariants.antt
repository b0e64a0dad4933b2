use Rattle.std.proofs.Common.{◌≡◌, ◌+◌, ◌*◌, IsTrue, true, cond}
use Rattle.relation_terms.specs.Trees.{size, known, list_tree}
use Rattle.relation_terms.specs.Meaning.{Extends}
use Rattle.relation_terms.specs.Parts.{part_tree, parts_of, Fit}
use Rattle.relation_semantics.specs.Generalising.{MakesUnbound}
use Rattle.relation_semantics.proofs.Lists.{firsts}
use Rattle.variable_tables.specs.Tables.{store_of, IsLawful}
use Rattle.occurs_check.specs.TermVids.{vid_kind, vid_number}
use Rattle.relation_reference.specs.Generalises.{side_of, IsSure, AreClear, MarksFrom}
use Rattle.relation_reference.proofs.Clearing.{ty_eq}
use Rattle.relation_reference.proofs.Recalling.{met_eq}
use Rattle.relation_reference.proofs.Generalising.{WentAlways}
use Rattle.relation_reference.proofs.context.variables.RefCtxt.+generalise.Given as goal

abbrev pub decreases-generalise_part : goal.decreases-generalise_part
decreases-generalise_part g l = 3 * size (part_tree (g.I.Interner.meaning l.self.now.interner) l.term.now) + 2

abbrev pub decreases-generalise_new : goal.decreases-generalise_new
decreases-generalise_new g l = 3 * size (part_tree (g.I.Interner.meaning l.self.now.interner) l.term.now) + 1

abbrev pub decreases-generalise_parts : goal.decreases-generalise_parts
decreases-generalise_parts g l = 3 * size (part_tree (g.I.Interner.meaning l.self.now.interner) l.term.now)

abbrev pub invariant-generalise_parts-loop-i : goal.invariant-generalise_parts-loop-i
invariant-generalise_parts-loop-i g l =
    let m = g.I.Interner.meaning l.fn.self.interner in
    let n = g.I.Interner.meaning l.self.interner in
    let was = store_of m l.fn.self.inner in
    let now = store_of n l.self.inner in
    let ts = parts_of (part_tree m l.term) in
    let made = list_tree (part_tree n) l.parts.items in
    record {
      lawful : IsLawful n l.self.inner;
      grown : Extends m n;
      universe : l.self.inner.universe.0 ≡ l.fn.self.inner.universe.0;
      makes : MakesUnbound l.target.universe.0 was now;
      rest : MarksFrom g.I.Interner.meaning l.fn.self l.self (part_tree m l.term);
      all : IsSure (met_eq g.I.Key.PartialEq.eq) n l.met;
      found : AreClear (ty_eq g.I.Key.PartialEq.eq) n (vid_kind l.target.vid) (vid_number l.target.vid)
          l.target.universe.0 l.clear;
      kept : l.differs ≡ true → IsTrue (known made) × Fit l.parts.items (firsts l.i ts);
      went : WentAlways (met_eq g.I.Key.PartialEq.eq) m n was now l.target.aliases (vid_kind l.target.vid)
          (vid_number l.target.vid) l.target.universe.0 (side_of l.inside) l.variance l.fn.met l.met
          (part_tree m l.term) l.i (cond l.differs made (firsts l.i ts));
    }
