use Rattle.std.proofs.Common.{◌≡◌, false, sym, subst, IsTrue}
use Rattle.relation_terms.specs.Meaning.{arg_tree}
use Rattle.relation_terms.specs.Trees.{known}
use Rattle.relation_steps.specs.Bivariance.{is_left_open}
use Rattle.relation_combining.proofs.Bivariance.{region_closed}
use Rattle.relation_steps.proofs.Sorted.{region_sorted}
use Rattle.relation_combining.proofs.ty_args.is_left_open.Goals as goal

pub returns-in-Lifetime-clause-tells : goal.returns-in-Lifetime-clause-tells
returns-in-Lifetime-clause-tells g c =
    let s = g.Infcx.InferCtxtLike.state c.args.infcx.now in
    let r = c.in-Lifetime.field-0 in
    let cx = g.Infcx.InferCtxtLike.interner c.args.infcx.now in
    let of = g.met.Infcx.InferCtxtLike.reads c.args.infcx.now in
    let sound = g.met.Infcx.InferCtxtLike.sound c.args.infcx.now c.requires.lawful in
    let sure : IsTrue (known ((s.meaning).region r)) =
    subst (λ a. IsTrue (known (arg_tree s.meaning a))) c.in-Lifetime.is c.requires.arg_known in
    subst (λ a. false ≡ is_left_open s.store (arg_tree s.meaning a)) (sym c.in-Lifetime.is)
    (sym (region_closed s.store sound ((s.meaning).region r)
    (region_sorted of r ((g.met.Infcx.Interner.Interner.sorted cx).region r) sure)))
