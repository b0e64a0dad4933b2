use Rattle.std.proofs.Common.{sym}
use Rattle.relation_steps.proofs.Sorted.{one_ty}
use Rattle.context_relation.proofs.relation.SolverRelating.was_related.Goals as goal

pub returns : goal.returns
returns g c = λ found.
    let r = c.args.self.now in
    let cx = g.Infcx.InferCtxtLike.interner r.infcx.now in
    let of = g.met.Infcx.InferCtxtLike.reads r.infcx.now in
    let same = g.met.Infcx.Interner.Interner.same_ty cx in
    let a = c.args.a.now in
    let b = c.args.b.now in
    let z = c.contains.ensures found in
    let pair = c.requires.lawful.0.1 z.pair z.is_in in
    record {
      pair = z.pair;
      is_in = z.is_in;
      variance = z.variance;
      left = sym (one_ty of a (z.pair).1 (λ h k. (same a (z.pair).1 h k).0 z.left) c.requires.a_known pair.left_known);
      right = sym (one_ty of b (z.pair).2 (λ h k. (same b (z.pair).2 h k).0 z.right) c.requires.b_known pair.right_known);
    }
