-- The arguments are related, then what the aliases come to.
use Rattle.relation_terms.proofs.Stays.{extends_on}
use Rattle.relation_semantics.proofs.Going.{later_through}
use Rattle.relation_proving.specs.declared.fitting.Fitting.TheVariants.{Fits, Apart}
use Rattle.relation_proving.proofs.Meeting.{args_may, args_told, args_apart, terms_may, terms_result}
use Rattle.relation_proving.proofs.fitting.fit_projection.Goals as goal

pub fit-requires : goal.fit-requires
fit-requires g c = record {
  can = args_may (g.C.InferCtxtLike.state c.args.ctx.now) c.args.param_env c.args.goal c.args.given
      c.requires.one_item c.requires.goal c.requires.given c.requires.lawful c.requires.env_known;
}

pub fit-requires-in-Fits : goal.fit-requires-in-Fits
fit-requires-in-Fits g c =
    let e = c.in_ok-fitting.ensures in
    record {
      can = terms_may (g.C.InferCtxtLike.state c.args.ctx.now) c.args.param_env c.args.goal c.args.given
          c.requires.one_item c.requires.goal c.requires.given (g.C.InferCtxtLike.state c.fit.new.ctx) e.grown
          e.later e.lawful c.requires.env_known;
    }

pub returns-in-Fits-clause-tells : goal.returns-in-Fits-clause-tells
returns-in-Fits-clause-tells g c =
    let s = g.C.InferCtxtLike.state c.args.ctx.now in
    let m = g.C.InferCtxtLike.state c.fit.new.ctx in
    let e = c.in_ok-fitting.ensures in
    terms_result s c.args.param_env c.args.goal c.args.given c.requires.one_item c.requires.goal c.requires.given m
    (g.C.InferCtxtLike.state c.fit-in-Fits.new.ctx) e.grown c.requires.env_known
    (args_told s m c.args.param_env c.args.goal c.args.given c.in_ok-fitting.fitting Fits c.in-Fits.is e.tells) e.later
    c.fit-in-Fits.result c.fit-in-Fits.ensures.tells

pub returns-in-Fits-clause-later : goal.returns-in-Fits-clause-later
returns-in-Fits-clause-later g c = later_through c.in_ok-fitting.ensures.later c.fit-in-Fits.ensures.later

pub returns-in-Fits-clause-grown : goal.returns-in-Fits-clause-grown
returns-in-Fits-clause-grown g c = extends_on c.in_ok-fitting.ensures.grown c.fit-in-Fits.ensures.grown

pub returns-in-Apart-clause-tells : goal.returns-in-Apart-clause-tells
returns-in-Apart-clause-tells g c =
    let s = g.C.InferCtxtLike.state c.args.ctx.now in
    let m = g.C.InferCtxtLike.state c.fit.new.ctx in
    args_apart s c.args.param_env c.args.goal c.args.given c.requires.one_item c.requires.goal c.requires.given m
    (args_told s m c.args.param_env c.args.goal c.args.given c.in_ok-fitting.fitting Apart c.in-Apart.is
    c.in_ok-fitting.ensures.tells)
