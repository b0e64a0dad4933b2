use Rattle.std.proofs.Common.{ap}
use Rattle.relation_terms.specs.Meaning.{existential_tree}
use Rattle.relation_semantics.specs.Errors.{both_traits, both_projections, both_auto_traits}
use Rattle.relation_recursion.proofs.PartErrors.{not_trait, not_projection, not_auto}
use Rattle.relation_recursion.proofs.comparing.bodies.are_alike_existentials.Goals as goal

pub returns-in_default-clause-unlike : goal.returns-in_default-clause-unlike
returns-in_default-clause-unlike g c =
    λ f. not_trait (g.I.Interner.meaning c.args._cx.now) c.args.a.now c.args.b.now c.in-Trait.field-0 c.in-Trait.is
    c.in_default.not-Trait

pub returns-in-Trait-b-clause-alike : goal.returns-in-Trait-b-clause-alike
returns-in-Trait-b-clause-alike g c =
    let m = g.I.Interner.meaning c.args._cx.now in
    λ t. both_traits (ap (existential_tree m) c.in-Trait.is) (ap (existential_tree m) c.in-Trait-b.is)

pub returns-in_default-b-clause-unlike : goal.returns-in_default-b-clause-unlike
returns-in_default-b-clause-unlike g c =
    λ f. not_projection (g.I.Interner.meaning c.args._cx.now) c.args.a.now c.args.b.now c.in-Projection.field-0 c.in-Projection.is
    c.in_default-b.not-Projection

pub returns-in-Projection-b-clause-alike : goal.returns-in-Projection-b-clause-alike
returns-in-Projection-b-clause-alike g c =
    let m = g.I.Interner.meaning c.args._cx.now in
    λ t. both_projections (ap (existential_tree m) c.in-Projection.is) (ap (existential_tree m) c.in-Projection-b.is)

pub returns-in_default-b-2-clause-unlike : goal.returns-in_default-b-2-clause-unlike
returns-in_default-b-2-clause-unlike g c =
    λ f. not_auto (g.I.Interner.meaning c.args._cx.now) c.args.a.now c.args.b.now c.in-AutoTrait.field-0 c.in-AutoTrait.is
    c.in_default-b-2.not-AutoTrait

pub returns-in-AutoTrait-b-clause-alike : goal.returns-in-AutoTrait-b-clause-alike
returns-in-AutoTrait-b-clause-alike g c =
    let m = g.I.Interner.meaning c.args._cx.now in
    λ t. both_auto_traits (ap (existential_tree m) c.in-AutoTrait.is) (ap (existential_tree m) c.in-AutoTrait-b.is)
