use Rattle.relation_laws.proofs.StaysShown.{term_stays}
use Rattle.relation_laws.proofs.laws.later_contexts.Goals as goal

pub returns : goal.returns
returns g c = record {
  stays = term_stays g.C.InferCtxtLike.state g.T.Relate.over g.T.HasTree.tree g.T.HasTree.stays;
}
