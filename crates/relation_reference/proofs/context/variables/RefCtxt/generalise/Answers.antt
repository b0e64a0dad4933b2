use Rattle.variable_tables.specs.Tables.{store_of}
use Rattle.occurs_check.specs.TermVids.{vid_kind, vid_number}
use Rattle.relation_reference.proofs.Marking.{marks_none}
use Rattle.relation_reference.proofs.Recalling.{met_eq}
use Rattle.relation_reference.proofs.Clearing.{ty_eq, clear_none}
use Rattle.relation_reference.proofs.Generalising.{generalised_first}
use Rattle.relation_reference.proofs.context.variables.RefCtxt.generalise.Goals as goal

pub returns-clause-generalised : goal.returns-clause-generalised
returns-clause-generalised g c =
    let m = g.I.Interner.meaning c.args.self.now.interner in
    let n = g.I.Interner.meaning c.generalise_part.new.self.interner in
    generalised_first (met_eq g.I.Key.PartialEq.eq) m n (store_of m c.args.self.now.inner) (store_of n c.generalise_part.new.self.inner)
    c.args.target.now.aliases (vid_kind c.args.target.now.vid) (vid_number c.args.target.now.vid) c.args.target.now.universe.0 c.args.variance
    c.args.target.now.cyclic c.with_hasher-met.result c.generalise_part.new.met c.args.source.now c.with_hasher-met.ensures.empty
    c.requires.lawful.sound c.requires.universe c.requires.source_in c.generalise_part.result c.generalise_part.ensures.answers

pub generalise_part-requires-clause-clear : goal.generalise_part-requires-clause-clear
generalise_part-requires-clause-clear g c =
    clear_none (ty_eq g.I.Key.PartialEq.eq) (g.I.Interner.meaning c.args.self.now.interner) (vid_kind c.args.target.now.vid)
    (vid_number c.args.target.now.vid) c.args.target.now.universe.0 c.with_hasher-clear.result c.with_hasher-clear.ensures.empty

pub returns-clause-rest : goal.returns-clause-rest
returns-clause-rest g c = c.generalise_part.ensures.rest c.args.self.now (λ n h. h)
    (marks_none g.I.Interner.meaning c.args.self.now c.requires.lawful) c.requires.source_in
