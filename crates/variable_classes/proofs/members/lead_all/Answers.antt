use Rattle.std.proofs.Common.{sym, ap, ◌∙◌, subst, ◌<◌, set, get_or}
use Rattle.variable_classes.specs.Rings.{no_member, renamed}
use Rattle.variable_classes.proofs.Leading.{Stands, named_by, begins, there_now, goes_on, less_left, all_led}
use Rattle.variable_classes.proofs.members.lead_all.Goals as goal

pub ring-init : goal.ring-init
ring-init c = λ r. begins c.args.members.now r c.args.from c.args.into c.requires.from_in c.requires.from_names

pub rename-at-requires : goal.rename-at-requires
rename-at-requires c =
    let k = c.requires in
    there_now c.args.members.now k.rings c.args.from c.args.into k.from_in k.from_names c.ring.members c.ring.at (c.ring.invariant k.rings)

pub ring-smaller : goal.ring-smaller
ring-smaller c =
    let k = c.requires in
    subst (λ ms. named_by c.args.from ms < named_by c.args.from c.ring.members) (sym c.rename-at.ensures.named)
    (less_left c.args.members.now k.rings c.args.from c.args.into k.from_in k.from_names c.ring.members c.ring.at (c.ring.invariant k.rings) (λ e. k.apart (sym e)))

pub ring-preserved : goal.ring-preserved
ring-preserved c = λ r.
    let k = c.requires in
    subst (λ ms. Stands c.args.members.now ms r.place c.args.from c.args.into c.rename-at.result) (sym c.rename-at.ensures.named)
    (goes_on c.args.members.now r c.args.from c.args.into k.from_in k.from_names c.ring.members c.ring.at (c.ring.invariant r) c.ring-test.true c.rename-at.result c.rename-at.ensures.next)

pub returns : goal.returns
returns c =
    let k = c.requires in
    c.rename.ensures.named
    ∙ ap (λ z. set c.ring.members z (renamed c.args.into (get_or c.ring.members z no_member))) (sym c.ring-test.false)
    ∙ all_led c.args.members.now k.rings c.args.from c.args.into k.from_in k.from_names c.ring.members c.ring.at (c.ring.invariant k.rings) c.ring-test.false
