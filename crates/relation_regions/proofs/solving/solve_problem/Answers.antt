-- The pairs of all constraints and facts are a problem, and what is answered of numbers is so of the context's regions.
use Rattle.std.proofs.Common.{◌≡◌, ◌≤◌, ◌^◌, ◌∙◌, Bool, length, map, refl, sym, subst}
use Rattle.std.proofs.lemmas.List.{length-map}
use Rattle.relation_terms.specs.Interning.{AreEqualAsTrees, Sorted}
use Rattle.relation_terms.specs.declared.terms.keys.RegionKey.{RegionKey}
use Rattle.relation_regions.specs.Reading.{standing_in, trees_of, IsProblem}
use Rattle.relation_regions.specs.Solving.{region_pairs}
use Rattle.relation_regions.proofs.Answered.{problem_within, answered}
use Rattle.relation_regions.proofs.ReadProblems.{read_by, are_of}
use Rattle.relation_regions.proofs.solving.solve_problem.Goals as goal

pub read_problem-requires : goal.read_problem-requires
read_problem-requires g c = c.requires.empty

pub standings_of-requires-clause-regions_in : goal.standings_of-requires-clause-regions_in
standings_of-requires-clause-regions_in g c =
    let m = g.C.InferCtxtLike.state c.args.ctx.now in
    let eq : RegionKey g.row.C-Interner-Key.Denot → RegionKey g.row.C-Interner-Key.Denot → Bool =
    λ k l. g.C.Interner.Key.PartialEq.eq k.0 l.0 in
    let law = subst (λ n. AreEqualAsTrees n.region eq) (sym (g.met.C.InferCtxtLike.reads c.args.ctx.now))
    (g.met.C.Interner.Interner.same_region (g.C.InferCtxtLike.interner c.args.ctx.now)) in
    let sorted : Sorted m.meaning = subst (λ n. Sorted n) (sym (g.met.C.InferCtxtLike.reads c.args.ctx.now))
    (g.met.C.Interner.Interner.sorted (g.C.InferCtxtLike.interner c.args.ctx.now)) in
    ((c.in_ok-read_problem.ensures (read_by m eq law sorted) (are_of m eq law sorted c.args.re_static
    c.args.constraints.now c.args.facts.now c.requires.is_static c.requires.constraints
    (g.met.C.InferCtxtLike.sound c.args.ctx.now c.requires.lawful) c.requires.facts_in)
    (map (standing_in m.store) (trees_of m c.read_problem.new.problem.regions)) refl).are_numbered).regions

pub standings_of-requires-clause-fits : goal.standings_of-requires-clause-fits
standings_of-requires-clause-fits g c =
    let m = g.C.InferCtxtLike.state c.args.ctx.now in
    let eq : RegionKey g.row.C-Interner-Key.Denot → RegionKey g.row.C-Interner-Key.Denot → Bool =
    λ k l. g.C.Interner.Key.PartialEq.eq k.0 l.0 in
    let law = subst (λ n. AreEqualAsTrees n.region eq) (sym (g.met.C.InferCtxtLike.reads c.args.ctx.now))
    (g.met.C.Interner.Interner.same_region (g.C.InferCtxtLike.interner c.args.ctx.now)) in
    let sorted : Sorted m.meaning = subst (λ n. Sorted n) (sym (g.met.C.InferCtxtLike.reads c.args.ctx.now))
    (g.met.C.Interner.Interner.sorted (g.C.InferCtxtLike.interner c.args.ctx.now)) in
    subst (λ n. n ≤ 2 ^ 32) (length-map c.read_problem.new.problem.regions (m.meaning).region)
    ((c.in_ok-read_problem.ensures (read_by m eq law sorted) (are_of m eq law sorted c.args.re_static
    c.args.constraints.now c.args.facts.now c.requires.is_static c.requires.constraints
    (g.met.C.InferCtxtLike.sound c.args.ctx.now c.requires.lawful) c.requires.facts_in)
    (map (standing_in m.store) (trees_of m c.read_problem.new.problem.regions)) refl).are_numbered).fits

pub answer-requires : goal.answer-requires
answer-requires g c =
    let m = g.C.InferCtxtLike.state c.args.ctx.now in
    let eq : RegionKey g.row.C-Interner-Key.Denot → RegionKey g.row.C-Interner-Key.Denot → Bool =
    λ k l. g.C.Interner.Key.PartialEq.eq k.0 l.0 in
    let law = subst (λ n. AreEqualAsTrees n.region eq) (sym (g.met.C.InferCtxtLike.reads c.args.ctx.now))
    (g.met.C.Interner.Interner.same_region (g.C.InferCtxtLike.interner c.args.ctx.now)) in
    let sorted : Sorted m.meaning = subst (λ n. Sorted n) (sym (g.met.C.InferCtxtLike.reads c.args.ctx.now))
    (g.met.C.Interner.Interner.sorted (g.C.InferCtxtLike.interner c.args.ctx.now)) in
    problem_within m c.args.facts.now c.read_problem.new.problem.regions (c.in_ok-read_problem.ensures
    (read_by m eq law sorted) (are_of m eq law sorted c.args.re_static c.args.constraints.now c.args.facts.now
    c.requires.is_static c.requires.constraints (g.met.C.InferCtxtLike.sound c.args.ctx.now c.requires.lawful)
    c.requires.facts_in) c.as_slice.result.now (c.as_slice.ensures.value ∙ c.in_ok-standings.ensures))

pub returns : goal.returns
returns g c =
    let m = g.C.InferCtxtLike.state c.args.ctx.now in
    let sound = g.met.C.InferCtxtLike.sound c.args.ctx.now c.requires.lawful in
    let eq : RegionKey g.row.C-Interner-Key.Denot → RegionKey g.row.C-Interner-Key.Denot → Bool =
    λ k l. g.C.Interner.Key.PartialEq.eq k.0 l.0 in
    let law = subst (λ n. AreEqualAsTrees n.region eq) (sym (g.met.C.InferCtxtLike.reads c.args.ctx.now))
    (g.met.C.Interner.Interner.same_region (g.C.InferCtxtLike.interner c.args.ctx.now)) in
    let sorted : Sorted m.meaning = subst (λ n. Sorted n) (sym (g.met.C.InferCtxtLike.reads c.args.ctx.now))
    (g.met.C.Interner.Interner.sorted (g.C.InferCtxtLike.interner c.args.ctx.now)) in
    answered m c.args.facts.now c.read_problem.new.problem.regions (c.in_ok-read_problem.ensures
    (read_by m eq law sorted) (are_of m eq law sorted c.args.re_static c.args.constraints.now c.args.facts.now
    c.requires.is_static c.requires.constraints sound c.requires.facts_in) c.as_slice.result.now
    (c.as_slice.ensures.value ∙ c.in_ok-standings.ensures)) c.requires.facts_in sound c.answer.result c.answer.ensures
