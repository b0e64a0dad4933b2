use Rattle.std.proofs.Common.{refl}
use Rattle.relation_terms.specs.Heads.{region_var}
use Rattle.relation_reference.specs.RefCtxt.{context_in}
use Rattle.relation_reference.proofs.VariableUniverses.{has_universe}
use Rattle.relation_reference.proofs.context.infer_ctxt.RefCtxtInferCtxtLike.universe_of_lt.Goals as goal

pub returns : goal.returns
returns g c =
    let m = g.I.Interner.meaning c.args.self.now.interner in
    let x = c.args.self.now.inner in
    let l = c.requires.lawful in
    let v = c.args.vid.0 in
    has_universe (context_in g.I.Interner.meaning c.args.self.now) m.region x.regions.items region_var refl refl l.sound l.rooted v
    c.requires.made c.universe_of_class.result c.universe_of_class.ensures
