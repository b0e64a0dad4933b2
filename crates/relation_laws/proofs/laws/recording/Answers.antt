use Rattle.std.proofs.Common.{refl}
use Rattle.relation_terms.specs.Trees.{count}
use Rattle.relation_semantics.proofs.Recording.{front_goes_on, front_ends, remembered_records, just_asked}
use Rattle.relation_laws.proofs.laws.recording.Goals as goal

pub returns : goal.returns
returns g c = record {
  goes_on = λ c h v i xs ys r s q same f g. front_goes_on c h v i xs ys same f g;
  parts = λ c h k v ts us r q n rh pl e f. front_ends c h k v (count ts) ts us n rh pl refl e f;
  remembered = λ r p m bare. remembered_records (g.R.HasState.state r) p m bare;
  just_asked = λ c v a b r q none goals f.
      just_asked c (g.R.HasState.state q).kept.environment v a b none goals refl f;
}
