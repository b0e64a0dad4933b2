use Rattle.std.proofs.Common.{◌∙◌}
use Rattle.relation_reference.specs.declared.context.generalising.MetKey.{MetKey}
use Rattle.relation_reference.proofs.Recalling.{met_self, met_congr, met_alike, met_equal, met_eq, recalled, recalled_none, recalled_sure}
use Rattle.relation_reference.proofs.context.generalising.recall_type.Goals as goal

pub returns : goal.returns
returns g c =
    let m = g.I.Interner.meaning c.args._cx.now in
    let eq = g.I.Key.PartialEq.eq in
    let laws = g.met.I.Key.Eq.laws in
    let same = g.met.I.Interner.same_ty c.args._cx.now in
    let q : MetKey _ = record { inside = c.args.inside; variance = c.args.variance; ty = c.args.ty.now } in
    let found = c.copied.ensures ∙ c.get.ensures.value in
    record {
      sure = recalled_sure m (met_eq eq) (met_self eq laws) (met_congr eq laws) (met_alike m eq same) (met_equal m eq same) c.args.met.now q c.requires.known c.requires.sure c.copied.result found;
      met = recalled m (met_eq eq) (met_self eq laws) (met_congr eq laws) (met_alike m eq same) (met_equal m eq same) c.args.met.now q c.requires.known c.copied.result found;
      not_met = recalled_none m (met_eq eq) (met_self eq laws) (met_congr eq laws) (met_alike m eq same) (met_equal m eq same) c.args.met.now q c.requires.known c.copied.result found;
    }
