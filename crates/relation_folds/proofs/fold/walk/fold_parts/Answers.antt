use Rattle.relation_folds.proofs.Remembering.{place_eq, remembers_none}
use Rattle.relation_folds.proofs.fold.walk.fold_parts.Goals as goal

pub fold_inside-requires : goal.fold_inside-requires
fold_inside-requires g c =
    let m = g.I.Interner.meaning c.args.cx.now in
    record {
      known = c.requires.known;
      ready = c.requires.ready;
      remembers = remembers_none m (g.F.TypeFolder.replaces m c.args.folder.now) (place_eq g.I.Key.PartialEq.eq)
          c.nothing.result.made c.nothing.ensures.made;
    }
