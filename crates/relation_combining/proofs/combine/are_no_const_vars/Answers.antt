use Rattle.relation_semantics.proofs.Standing.{term_within}
use Rattle.relation_combining.proofs.combine.are_no_const_vars.Goals as goal

pub returns-clause-none : goal.returns-clause-none
returns-clause-none g c = λ h.
    let st = (g.Infcx.InferCtxtLike.state c.args.infcx.now).store in (
      c.in_default.ensures.formed (term_within st _ c.requires.a_in),
      c.in_default-const_var.ensures.formed (term_within st _ c.requires.b_in),
    )
