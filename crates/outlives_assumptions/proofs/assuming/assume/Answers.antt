use Rattle.std.proofs.Common.{refl}
use Rattle.relation_terms.specs.contracts.terms.generic_arg.GenericArgKindPartialEq.TheImpl.{ghosts}
use Rattle.relation_terms.specs.Interning.{Sorted}
use Rattle.relation_folds.proofs.Arguments.{arg_same}
use Rattle.outlives_assumptions.proofs.Assumptions.{gains_put, pairs_same}
use Rattle.outlives_assumptions.proofs.assuming.assume.Goals as goal

pub returns : goal.returns
returns g c =
    let a = c.args._cx.now in
    let m = g.I.Interner.meaning a in
    let laws = g.met.I.Interner in
    let eq = (ghosts g.row.I-Key g.I.Key.PartialEq g.I.Key.PartialEq-dict).eq in
    let sorted : Sorted m = laws.sorted a in
    let same = arg_same m g.I.Key.PartialEq.eq eq (λ x y. refl) (λ x y. refl) (λ x y. refl) (λ x y. refl)
    (λ x y. refl) (λ x y. refl) (λ x y. refl) (λ x y. refl) (λ x y. refl) (laws.same_region a) (laws.same_ty a)
    (laws.same_const a) sorted in
    let put = c.in_ok-insert in
    let new = c.args.assumption in
    gains_put m _ new c.args.collected.now.keys c.insert.new.self.keys put.field-0 put.ensures.added put.ensures.keys
    c.requires.known c.requires.sure
    (λ y k t. pairs_same m eq (λ x z. g.I.Key.PartialEq.eq x.0 z.0) same (laws.same_region a) new y c.requires.known k t)
