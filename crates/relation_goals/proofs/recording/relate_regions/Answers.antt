use Rattle.relation_goals.proofs.Constrained.{constrained_refused}
use Rattle.relation_goals.proofs.Constrained.{constrained_goes, constrained_bound, constrained_full, constrained_built}
use Rattle.relation_goals.proofs.recording.relate_regions.Goals as goal

pub returns-in-Covariant-clause-goes : goal.returns-in-Covariant-clause-goes
returns-in-Covariant-clause-goes g c =
    constrained_goes (g.Infcx.InferCtxtLike.state c.args.infcx.now) (g.Infcx.InferCtxtLike.state c.sub_regions.new.self) _
    c.sub_regions.result c.sub_regions.ensures.constrains

pub returns-in-Contravariant-clause-goes : goal.returns-in-Contravariant-clause-goes
returns-in-Contravariant-clause-goes g c =
    constrained_goes (g.Infcx.InferCtxtLike.state c.args.infcx.now) (g.Infcx.InferCtxtLike.state c.sub_regions-in-Contravariant.new.self) _
    c.sub_regions-in-Contravariant.result c.sub_regions-in-Contravariant.ensures.constrains

pub returns-in-Invariant-clause-goes : goal.returns-in-Invariant-clause-goes
returns-in-Invariant-clause-goes g c =
    constrained_goes (g.Infcx.InferCtxtLike.state c.args.infcx.now) (g.Infcx.InferCtxtLike.state c.equate_regions.new.self) _
    c.equate_regions.result c.equate_regions.ensures.constrains

pub returns-in-Covariant-clause-bound : goal.returns-in-Covariant-clause-bound
returns-in-Covariant-clause-bound g c =
    constrained_bound (g.Infcx.InferCtxtLike.state c.args.infcx.now) (g.Infcx.InferCtxtLike.state c.sub_regions.new.self) _
    c.sub_regions.result c.sub_regions.ensures.constrains

pub returns-in-Contravariant-clause-bound : goal.returns-in-Contravariant-clause-bound
returns-in-Contravariant-clause-bound g c =
    constrained_bound (g.Infcx.InferCtxtLike.state c.args.infcx.now) (g.Infcx.InferCtxtLike.state c.sub_regions-in-Contravariant.new.self) _
    c.sub_regions-in-Contravariant.result c.sub_regions-in-Contravariant.ensures.constrains

pub returns-in-Invariant-clause-bound : goal.returns-in-Invariant-clause-bound
returns-in-Invariant-clause-bound g c =
    constrained_bound (g.Infcx.InferCtxtLike.state c.args.infcx.now) (g.Infcx.InferCtxtLike.state c.equate_regions.new.self) _
    c.equate_regions.result c.equate_regions.ensures.constrains

pub returns-in-Covariant-clause-full : goal.returns-in-Covariant-clause-full
returns-in-Covariant-clause-full g c =
    constrained_full (g.Infcx.InferCtxtLike.state c.args.infcx.now) (g.Infcx.InferCtxtLike.state c.sub_regions.new.self) _
    c.sub_regions.result c.sub_regions.ensures.constrains

pub returns-in-Contravariant-clause-full : goal.returns-in-Contravariant-clause-full
returns-in-Contravariant-clause-full g c =
    constrained_full (g.Infcx.InferCtxtLike.state c.args.infcx.now) (g.Infcx.InferCtxtLike.state c.sub_regions-in-Contravariant.new.self) _
    c.sub_regions-in-Contravariant.result c.sub_regions-in-Contravariant.ensures.constrains

pub returns-in-Invariant-clause-full : goal.returns-in-Invariant-clause-full
returns-in-Invariant-clause-full g c =
    constrained_full (g.Infcx.InferCtxtLike.state c.args.infcx.now) (g.Infcx.InferCtxtLike.state c.equate_regions.new.self) _
    c.equate_regions.result c.equate_regions.ensures.constrains

pub returns-in-Covariant-clause-refused : goal.returns-in-Covariant-clause-refused
returns-in-Covariant-clause-refused g c =
    constrained_refused (g.Infcx.InferCtxtLike.state c.args.infcx.now) (g.Infcx.InferCtxtLike.state c.sub_regions.new.self) _
    c.sub_regions.result c.sub_regions.ensures.constrains

pub returns-in-Contravariant-clause-refused : goal.returns-in-Contravariant-clause-refused
returns-in-Contravariant-clause-refused g c =
    constrained_refused (g.Infcx.InferCtxtLike.state c.args.infcx.now) (g.Infcx.InferCtxtLike.state c.sub_regions-in-Contravariant.new.self) _
    c.sub_regions-in-Contravariant.result c.sub_regions-in-Contravariant.ensures.constrains

pub returns-in-Invariant-clause-refused : goal.returns-in-Invariant-clause-refused
returns-in-Invariant-clause-refused g c =
    constrained_refused (g.Infcx.InferCtxtLike.state c.args.infcx.now) (g.Infcx.InferCtxtLike.state c.equate_regions.new.self) _
    c.equate_regions.result c.equate_regions.ensures.constrains

pub returns-in-Covariant-clause-built : goal.returns-in-Covariant-clause-built
returns-in-Covariant-clause-built g c =
    constrained_built (g.Infcx.InferCtxtLike.state c.args.infcx.now) (g.Infcx.InferCtxtLike.state c.sub_regions.new.self) _
    c.sub_regions.result _ _ c.sub_regions.ensures.constrains

pub returns-in-Contravariant-clause-built : goal.returns-in-Contravariant-clause-built
returns-in-Contravariant-clause-built g c =
    constrained_built (g.Infcx.InferCtxtLike.state c.args.infcx.now) (g.Infcx.InferCtxtLike.state c.sub_regions-in-Contravariant.new.self) _
    c.sub_regions-in-Contravariant.result _ _ c.sub_regions-in-Contravariant.ensures.constrains

pub returns-in-Invariant-clause-built : goal.returns-in-Invariant-clause-built
returns-in-Invariant-clause-built g c =
    constrained_built (g.Infcx.InferCtxtLike.state c.args.infcx.now) (g.Infcx.InferCtxtLike.state c.equate_regions.new.self) _
    c.equate_regions.result _ _ c.equate_regions.ensures.constrains
