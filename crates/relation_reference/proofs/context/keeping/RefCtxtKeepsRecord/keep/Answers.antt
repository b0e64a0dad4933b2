use Rattle.relation_reference.proofs.Copied.{kept_is}
use Rattle.relation_reference.proofs.context.keeping.RefCtxtKeepsRecord.keep.Goals as goal

pub returns : goal.returns
returns g c = kept_is g.I.Interner.meaning c.args.self.now c.copied.result c.copied.ensures c.requires.lawful
