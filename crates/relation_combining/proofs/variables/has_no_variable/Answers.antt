use Rattle.relation_combining.proofs.NumberVars.{free_formed}
use Rattle.relation_combining.proofs.variables.has_no_variable.Goals as goal

pub returns-clause-formed : goal.returns-clause-formed
returns-clause-formed g c = λ without within. (
    let cx = c.args.cx.now in
    free_formed ((g.I.Interner.meaning cx).ty c.args.ty.now) c.ty_flags.result c.ty_flags.ensures without
    ((g.met.I.Interner.sorted cx).ty c.args.ty.now c.requires) within)
