use Rattle.std.proofs.Common.{◌≡◌}
use Rattle.relation_terms.specs.Trees.{count}
use Rattle.relation_semantics.specs.ContextCalls.{Grows}
use Rattle.relation_semantics.specs.Lawful.{items_of}
use Rattle.relation_combining.proofs.Bivariance.{NoneOpenBefore}
use Rattle.relation_combining.proofs.ty_args.has_open_argument.Given as goal

abbrev pub invariant-loop-i : goal.invariant-loop-i
invariant-loop-i g l =
    let c = g.Infcx.InferCtxtLike.state l.initial.infcx in
    let d = g.Infcx.InferCtxtLike.state l.infcx in
    let ts = (c.meaning).args l.args in
    record {
      grows : Grows c d;
      same_record : d.store ≡ c.store;
      counts : l.n ≡ count ts;
      none_open : NoneOpenBefore (items_of c.meaning) c.store ((c.meaning).id (l.def_id).0) ts l.i;
    }
