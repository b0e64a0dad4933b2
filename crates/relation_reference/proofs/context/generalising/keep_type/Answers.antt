use Rattle.std.proofs.Common.{◌∙◌}
use Rattle.relation_reference.specs.declared.context.generalising.MetKey.{MetKey}
use Rattle.relation_reference.proofs.Recalling.{met_self, met_congr, met_alike, met_equal, met_eq, sure_more, keeps_more}
use Rattle.relation_reference.proofs.context.generalising.keep_type.Goals as goal

pub returns : goal.returns
returns g c =
    let m = g.I.Interner.meaning c.args._cx.now in
    let eq = g.I.Key.PartialEq.eq in
    let laws = g.met.I.Key.Eq.laws in
    let same = g.met.I.Interner.same_ty c.args._cx.now in
    let q : MetKey _ = record { inside = c.args.inside; variance = c.args.variance; ty = c.args.ty.now } in
    let widened = c.widen_map.new.map in
    record {
      sure = sure_more m (met_eq eq) (met_self eq laws) (met_congr eq laws) (met_alike m eq same) (met_equal m eq same) c.args.met.now q c.requires.ty_known widened c.args.became c.requires.became_known (λ x. c.widen_map.ensures.finds x ∙ c.in_ok-insert.ensures.updates.0 x) c.requires.sure;
      keeps = keeps_more m (met_eq eq) (met_self eq laws) (met_congr eq laws) (met_alike m eq same) (met_equal m eq same) c.args.met.now q c.requires.ty_known widened c.args.became c.requires.became_known (λ x. c.widen_map.ensures.finds x ∙ c.in_ok-insert.ensures.updates.0 x);
    }
