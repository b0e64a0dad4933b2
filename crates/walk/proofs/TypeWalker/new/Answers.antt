use Rattle.std.proofs.Common.{refl}
use Rattle.relation_terms.specs.Interning.{Sorted}
use Rattle.relation_terms.specs.contracts.terms.generic_arg.GenericArgKindPartialEq.TheImpl.{ghosts}
use Rattle.relation_folds.proofs.Arguments.{arg_same, arg_visited}
use Rattle.walk.proofs.Positioning.{by_places}
use Rattle.walk.proofs.TypeWalker.new.Goals as goal

pub returns-clause-by_places : goal.returns-clause-by_places
returns-clause-by_places g c =
    let m = g.I.Interner.meaning c.args.cx.now in
    let a = c.args.cx.now in
    let eq = (ghosts g.row.I-Key g.I.Key.PartialEq g.I.Key.PartialEq-dict).eq in
    let laws = g.met.I.Interner in
    let sorted : Sorted m = laws.sorted a in
    rw (c.new.ensures.stack, c.new.ensures.last_subtree, c.new.ensures.visited)
    (by_places m eq (arg_same m g.I.Key.PartialEq.eq eq (λ a b. refl) (λ a b. refl) (λ a b. refl) (λ a b. refl)
    (λ a b. refl) (λ a b. refl) (λ a b. refl) (λ a b. refl) (λ a b. refl) (laws.same_region a) (laws.same_ty a)
    (laws.same_const a) sorted) a c.args.root c.requires (arg_visited m sorted c.args.root c.requires))
