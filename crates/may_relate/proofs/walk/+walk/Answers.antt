use Rattle.std.proofs.Common.{rules, arith, ap, subst, ◌≡◌, ◌<◌, ◌+◌, ◌*◌}
use Rattle.relation_terms.specs.Trees.{size, count}
use Rattle.relation_terms.specs.Parts.{part_tree, parts_tree, parts_of}
use Rattle.relation_terms.proofs.Members.{member_small, parts_small}
use Rattle.may_relate.specs.Around.{sorts_around}
use Rattle.may_relate.specs.Fitting.{FitsAll, SomeUnfit, TellsUnfit}
use Rattle.may_relate.proofs.Wholes.{fits_list, part_whole, handed_on, refused}
use Rattle.may_relate.proofs.Wholes.{unfit_nth, unfit_own, unfit_part}
use Rattle.relation_folds.proofs.Folding.{on_ok}
use Rattle.may_relate.proofs.walk.+walk.Goals as goal

pub list_fits-part_fits-requires : goal.list_fits-part_fits-requires
list_fits-part_fits-requires g t' c κs within =
    let m = g.C.Interner.Interner.meaning c.args.cx.now in
    let ts = parts_tree m c.args.parts.now in
    let x = c.member-part.result in
    let counted = c.member_count-i-end.ensures.counts in
    let test = c.loop-i-test.true in
    let below : c.loop-i.i < count ts = omega (arith, counted, test) in
    let d = c.decreases in
    let less = member_small ts c.loop-i.i below in
    let is : size (part_tree m x) ≡ size _ = ap size c.member-part.ensures.means in
    let small : 2 * size (part_tree m x) + 1 < 2 * size ts = omega (arith, less, is) in
    let k = c.member-part.ensures.sure in
    let seen = c.loop-i.invariant.1 in
    search rules

pub list_fits-returns-in_err-part_fits-clause-why : goal.list_fits-returns-in_err-part_fits-clause-why
list_fits-returns-in_err-part_fits-clause-why g t' c =
    let st = (g.C.InferCtxtLike.state c.args.ctx.now).store in
    let ls = sorts_around c.args.around.now in
    let ts = parts_tree (g.C.Interner.Interner.meaning c.args.cx.now) c.args.parts.now in
    let counted = c.member_count-i-end.ensures.counts in
    let test = c.loop-i-test.true in
    let below : c.loop-i.i < count ts = omega (arith, counted, test) in
    handed_on c.from_residual.result (TellsUnfit st ls ts) c.in_err-part_fits.field-0.0 c.from_residual.ensures.1
    (λ other. unfit_nth st ls ts c.loop-i.i c.in_err-part_fits.field-0.0 below
    (subst (λ x. SomeUnfit st ls x c.in_err-part_fits.field-0.0) c.member-part.ensures.means
    (c.in_err-part_fits.ensures.why other)))

pub part_fits-list_fits-requires : goal.part_fits-list_fits-requires
part_fits-list_fits-requires g t' c κs within =
    let m = g.C.Interner.Interner.meaning c.args.cx.now in
    let st = (g.C.InferCtxtLike.state c.args.ctx.now).store in
    let t = part_tree m c.args.part.now in
    let ts = parts_tree m c.parts_of-parts.result in
    let d = c.decreases in
    let less = parts_small t in
    let is : size ts ≡ size (parts_of t) = ap size c.parts_of-parts.ensures.means in
    let small : 2 * size ts < 2 * size t + 1 = omega (arith, less, is) in
    let k = c.parts_of-parts.ensures.sure in
    let seen = (c.in_ok-inside.ensures.seen st c.requires.seen).1 in
    search rules

pub part_fits-returns-in_err-own-clause-why : goal.part_fits-returns-in_err-own-clause-why
part_fits-returns-in_err-own-clause-why g t' c =
    let st = (g.C.InferCtxtLike.state c.args.ctx.now).store in
    let ls = sorts_around c.args.around.now in
    let t = part_tree (g.C.Interner.Interner.meaning c.args.cx.now) c.args.part.now in
    handed_on c.from_residual.result (TellsUnfit st ls t) c.in_err-own.field-0.0 c.from_residual.ensures.1
    (λ other. unfit_own st ls t c.in_err-own.field-0.0 c.in_err-own.ensures.why)

pub part_fits-returns-in_err-inside-clause-seen : goal.part_fits-returns-in_err-inside-clause-seen
part_fits-returns-in_err-inside-clause-seen g t' c =
    (c.in_err-inside.ensures.seen (g.C.InferCtxtLike.state c.args.ctx.now).store c.requires.seen).0

pub part_fits-returns-in_err-list_fits-clause-why : goal.part_fits-returns-in_err-list_fits-clause-why
part_fits-returns-in_err-list_fits-clause-why g t' c =
    let m = g.C.Interner.Interner.meaning c.args.cx.now in
    let st = (g.C.InferCtxtLike.state c.args.ctx.now).store in
    let ls = sorts_around c.args.around.now in
    handed_on c.from_residual-in_err-list_fits.result (TellsUnfit st ls (part_tree m c.args.part.now))
    c.in_err-list_fits.field-0.0 c.from_residual-in_err-list_fits.ensures.1
    (λ other. unfit_part m st ls c.args.part.now _ (parts_tree m c.parts_of-parts.result) c.in_err-list_fits.field-0.0
    c.in_ok-inside.ensures.sorts c.parts_of-parts.ensures.means (c.in_err-list_fits.ensures.why other))

pub part_fits-returns-in_err-list_fits-clause-seen : goal.part_fits-returns-in_err-list_fits-clause-seen
part_fits-returns-in_err-list_fits-clause-seen g t' c =
    c.in_ok-inside.ensures.back (g.C.InferCtxtLike.state c.args.ctx.now).store _ c.in_err-list_fits.ensures.seen

pub list_fits-returns-clause-fits : goal.list_fits-returns-clause-fits
list_fits-returns-clause-fits g t' c =
    let ts = parts_tree (g.C.Interner.Interner.meaning c.args.cx.now) c.args.parts.now in
    let counted = c.member_count-i-end.ensures.counts in
    let test = c.loop-i-test.false in
    fits_list (g.C.InferCtxtLike.state c.args.ctx.now).store (sorts_around c.args.around.now) ts
    c.member_count-i-end.ensures.is_list
    (λ k h. let below : k < c.loop-i.i = omega (arith, counted, test, h) in c.loop-i.invariant.0 k below)

pub list_fits-returns-clause-seen : goal.list_fits-returns-clause-seen
list_fits-returns-clause-seen g t' c = c.loop-i.invariant.1

pub part_fits-returns-clause-fits : goal.part_fits-returns-clause-fits
part_fits-returns-clause-fits g t' c =
    let m = g.C.Interner.Interner.meaning c.args.cx.now in
    let st = (g.C.InferCtxtLike.state c.args.ctx.now).store in
    let ls = sorts_around c.args.around.now in
    on_ok c.remember.result (FitsAll st ls (part_tree m c.args.part.now))
    (part_whole m st ls (g.met.C.Interner.Interner.sorted c.args.cx.now) c.args.part.now c.requires.known
    c.in_ok-own.ensures.fits _ (parts_tree m c.parts_of-parts.result) c.in_ok-inside.ensures.sorts
    c.parts_of-parts.ensures.means c.in_ok-list_fits.ensures.fits)

pub part_fits-returns-clause-why : goal.part_fits-returns-clause-why
part_fits-returns-clause-why g t' c =
    refused (g.C.InferCtxtLike.state c.args.ctx.now).store (sorts_around c.args.around.now)
    (part_tree (g.C.Interner.Interner.meaning c.args.cx.now) c.args.part.now) c.remember.result c.remember.ensures.memory

pub part_fits-returns-clause-seen : goal.part_fits-returns-clause-seen
part_fits-returns-clause-seen g t' c =
    let m = g.C.Interner.Interner.meaning c.args.cx.now in
    let st = (g.C.InferCtxtLike.state c.args.ctx.now).store in
    c.remember.ensures.seen st (c.in_ok-inside.ensures.back st _ c.in_ok-list_fits.ensures.seen)
    (part_whole m st (sorts_around c.args.around.now) (g.met.C.Interner.Interner.sorted c.args.cx.now) c.args.part.now
    c.requires.known c.in_ok-own.ensures.fits _ (parts_tree m c.parts_of-parts.result) c.in_ok-inside.ensures.sorts
    c.parts_of-parts.ensures.means c.in_ok-list_fits.ensures.fits)
