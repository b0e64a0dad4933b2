use Rattle.std.proofs.Common.{arith, ◌≡◌, sym, subst}
use Rattle.relation_terms.specs.Parts.{part_tree, parts_tree}
use Rattle.relation_folds.specs.Firsts.{firsts}
use Rattle.relation_folds.specs.Stacks.{StandsUpon}
use Rattle.relation_folds.proofs.Members.{upon_none}
use Rattle.relation_folds.proofs.fold.walk.push_firsts.Goals as goal

pub returns-then-amount-eq0 : goal.returns-then-amount-eq0
returns-then-amount-eq0 g c =
    let m = g.I.Interner.meaning c.args.cx.now in
    let ts = parts_tree m c.args.parts.now in
    let items = c.args.stack.now.items in
    let test = c.if-amount-eq0.true in
    let none : c.args.amount ≡ 0 = omega (arith, test) in
    subst (λ n. StandsUpon (part_tree m) (firsts n ts) (firsts n ts) items items) (sym none)
    (upon_none (part_tree m) ts items)
