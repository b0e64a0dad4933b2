use Rattle.relation_terms.proofs.Parts.{same_part}
use Rattle.relation_folds.proofs.Remembering.{recalled}
use Rattle.relation_folds.proofs.fold.memory.recall.Goals as goal

pub returns : goal.returns
returns g c =
    let m = g.I.Interner.meaning c.args._cx.now in
    let puts = g.F.TypeFolder.replaces m c.args._folder.now in
    let eq = g.I.Key.PartialEq.eq in
    let laws = g.met.I.Interner in
    let a = c.args._cx.now in
    recalled m puts eq (same_part m eq (laws.same_ty a) (laws.same_region a) (laws.same_const a) (laws.same_valtree a)
    (laws.same_pat a) (laws.same_existential_predicates a)) (c.args.memory.now).made c.requires.remembers c.args.part.now
    c.args.depth c.in_ok-place.place c.in_ok-place.ensures c.requires.known c.get.result c.get.ensures
