use Rattle.std.proofs.Common.{◌≡◌, ◌<◌, arith, sym, ap, ◌∙◌, subst, subst₂}
use Rattle.relation_terms.specs.Meaning.{arg_tree}
use Rattle.relation_terms.specs.Trees.{count, nth}
use Rattle.relation_semantics.specs.Stores.{IsTermIn}
use Rattle.relation_semantics.proofs.Parts.{in_nth}
use Rattle.relation_combining.proofs.ty_args.has_open_argument.Goals as goal

pub is_left_open-requires-clause-arg_in : goal.is_left_open-requires-clause-arg_in
is_left_open-requires-clause-arg_in g c =
    let s = g.Infcx.InferCtxtLike.state c.args.infcx.now in
    let d = g.Infcx.InferCtxtLike.state c.loop-i.infcx in
    let ts = (s.meaning).args c.args.args.now in
    let i = c.loop-i.i in
    let inv = c.loop-i.invariant in
    let test = c.loop-i-test.true in
    let below : i < count ts = omega (arith, test, inv.counts) in
    let is : arg_tree d.meaning c.arg_at-arg.result ≡ nth i ts =
    subst (λ m. arg_tree m c.arg_at-arg.result ≡ nth i (m.args c.args.args.now))
    c.cx-in-Bivariant.ensures c.arg_at-arg.ensures.means ∙ ap (nth i) ((inv.grows.extends).args c.args.args.now c.requires.args_known) in
    subst₂ IsTermIn (sym inv.same_record) (sym is) (in_nth s.store ts i below c.requires.args_in)
