use Rattle.std.proofs.Common.{arith, sym, ap, ◌∙◌, ◌≡◌, ◌<◌, ◌+◌, suc, subst}
use Rattle.relation_terms.specs.Trees.{count}
use Rattle.relation_terms.specs.Parts.{part_tree, parts_tree, tree_sort}
use Rattle.relation_terms.specs.Interning.{Sorted}
use Rattle.relation_terms.proofs.Parts.{sort_known}
use Rattle.relation_folds.specs.Firsts.{AreFirsts}
use Rattle.relation_folds.proofs.Members.{firsts_next}
use Rattle.relation_folds.proofs.fold.walk.first_members.Goals as goal

pub loop-i-preserved : goal.loop-i-preserved
loop-i-preserved g c =
    let m = g.I.Interner.meaning c.args.cx.now in
    let ts = parts_tree m c.args.parts.now in
    let i = c.loop-i.i in
    let x = c.member.result in
    let most = c.requires.in_bounds in
    let test = c.loop-i-test.true in
    let below : i < count ts = omega (arith, most, test) in
    let next : i + 1 ≡ suc i = omega arith in
    let sorted : Sorted m = g.met.I.Interner.sorted c.args.cx.now in
    record {
      firsts = firsts_next (part_tree m) x i (i + 1) ts c.loop-i.list.items c.push.new.self.items
          c.loop-i.invariant.firsts below next c.member.ensures.means c.member.ensures.sure
          (sym (sort_known m sorted x c.member.ensures.sure) ∙ ap tree_sort c.member.ensures.means)
          c.in_ok-push.ensures.items;
    }

pub returns : goal.returns
returns g c =
    let m = g.I.Interner.meaning c.args.cx.now in
    let test = c.loop-i-test.false in
    let end = (c.loop-i.auto).i-end in
    let all : c.loop-i.i ≡ c.args.amount = omega (arith, test, end) in
    subst (λ n. AreFirsts (part_tree m) n (parts_tree m c.args.parts.now) c.loop-i.list.items) all
    c.loop-i.invariant.firsts
