-- What a region counts as, by its form.
use Rattle.std.proofs.Common.{◌≡◌, sym, ◌∙◌, ap, subst, IsTrue}
use Rattle.relation_terms.specs.Heads.{region_var, variable}
use Rattle.relation_terms.specs.Trees.{known, leaf}
use Rattle.relation_regions.proofs.Forms.{variable_made}
use Rattle.relation_regions.proofs.RegionNumbers.{region_known}
use Rattle.relation_regions.proofs.Universes.{variable_standing, some_universe}
use Rattle.relation_regions.proofs.reading.standing.Goals as goal

pub region_kind-requires : goal.region_kind-requires
region_kind-requires g c =
    let m = g.C.InferCtxtLike.state c.args.ctx.now in
    subst (λ n. IsTrue (known (n.region c.args.region.now))) (sym c.cx.ensures)
    (region_known m.store ((m.meaning).region c.args.region.now) c.requires.region_in)

pub universe_of_lt-requires-clause-made : goal.universe_of_lt-requires-clause-made
universe_of_lt-requires-clause-made g c =
    let m = g.C.InferCtxtLike.state c.args.ctx.now in
    let e : (m.meaning).region c.args.region.now ≡ leaf (variable region_var c.in-ReVar.vid.0) =
    ap (λ n. n.region c.args.region.now) (sym c.cx.ensures) ∙ c.in-ReVar.ensures in
    variable_made m.store ((m.meaning).region c.args.region.now) c.in-ReVar.vid.0 c.requires.region_in e

pub returns-in-Some : goal.returns-in-Some
returns-in-Some g c =
    let m = g.C.InferCtxtLike.state c.args.ctx.now in
    let e : (m.meaning).region c.args.region.now ≡ leaf (variable region_var c.in-ReVar.vid.0) =
    ap (λ n. n.region c.args.region.now) (sym c.cx.ensures) ∙ c.in-ReVar.ensures in
    variable_standing m ((m.meaning).region c.args.region.now) c.in-ReVar.vid.0 c.in-Some.universe
    (g.met.C.InferCtxtLike.sound c.args.ctx.now c.requires.lawful) e c.in-Some.ensures

pub returns-in-None : goal.returns-in-None
returns-in-None g c =
    let m = g.C.InferCtxtLike.state c.args.ctx.now in
    absurd (some_universe m c.in-ReVar.vid.0 (g.met.C.InferCtxtLike.sound c.args.ctx.now c.requires.lawful)
    c.in-None.ensures)
