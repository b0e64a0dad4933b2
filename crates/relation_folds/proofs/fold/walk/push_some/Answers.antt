use Rattle.std.proofs.Common.{arith, sym, ap, ◌∙◌, ◌≡◌, ◌<◌, ◌+◌, suc, subst}
use Rattle.relation_terms.specs.Trees.{count}
use Rattle.relation_terms.specs.Parts.{part_tree, parts_tree, tree_sort}
use Rattle.relation_terms.specs.Interning.{Sorted}
use Rattle.relation_terms.proofs.Parts.{sort_known}
use Rattle.relation_folds.specs.Firsts.{firsts}
use Rattle.relation_folds.specs.Stacks.{StandsUpon}
use Rattle.relation_folds.proofs.Members.{upon_none, upon_more}
use Rattle.relation_folds.proofs.fold.walk.push_some.Goals as goal

pub loop-at-init : goal.loop-at-init
loop-at-init g c =
    let m = g.I.Interner.meaning c.args.cx.now in
    record { stands = upon_none (part_tree m) (parts_tree m c.args.parts.now) c.args.stack.now.items }

pub loop-at-preserved : goal.loop-at-preserved
loop-at-preserved g c =
    let m = g.I.Interner.meaning c.args.cx.now in
    let ts = parts_tree m c.args.parts.now in
    let i = c.loop-at.at in
    let x = c.member.result in
    let most = c.requires.in_bounds in
    let test = c.loop-at-test.true in
    let below : i < count ts = omega (arith, most, test) in
    let next : i + 1 ≡ suc i = omega arith in
    let sorted : Sorted m = g.met.I.Interner.sorted c.args.cx.now in
    record {
      stands = upon_more (part_tree m) x i (i + 1) ts c.args.stack.now.items c.loop-at.stack.items c.push.new.self.items
          c.loop-at.invariant.stands below next c.member.ensures.means c.member.ensures.sure
          (sym (sort_known m sorted x c.member.ensures.sure) ∙ ap tree_sort c.member.ensures.means)
          c.in_ok-push.ensures.items;
    }

pub returns : goal.returns
returns g c =
    let m = g.I.Interner.meaning c.args.cx.now in
    let ts = parts_tree m c.args.parts.now in
    let test = c.loop-at-test.false in
    let end = (c.loop-at.auto).at-end in
    let all : c.loop-at.at ≡ c.args.amount = omega (arith, test, end) in
    subst (λ n. StandsUpon (part_tree m) (firsts n ts) (firsts n ts) c.args.stack.now.items c.loop-at.stack.items) all
    c.loop-at.invariant.stands
