use Rattle.remembered_pairs.proofs.Recalling.{found_pair}
use Rattle.remembered_pairs.proofs.RememberedPairs.contains.Goals as goal

pub returns : goal.returns
returns g c = λ found.
    let eq = g.T.PartialEq.eq in
    let z = found_pair c.args.variance (eq c.args.a.now) (eq c.args.b.now) c.args.self.now.pairs.kept (c.contains.ensures found) in
    record { pair = z.0; is_in = z.1; variance = z.2; left = z.3; right = z.4 }
