use Rattle.std.proofs.Common.{◌≡◌, ◌<◌, ◌+◌, suc, refl, sym, subst, arith}
use Rattle.relation_terms.specs.Interning.{Sorted}
use Rattle.relation_terms.specs.Meaning.{arg_tree}
use Rattle.relation_terms.specs.Trees.{count}
use Rattle.relation_semantics.specs.Parts.{const_parts_of}
use Rattle.relation_semantics.specs.Making.{FitArgs}
use Rattle.relation_recursion.specs.Keeping.{AreFirstParts}
use Rattle.relation_recursion.proofs.Kept.{no_first_args, next_first_arg}
use Rattle.relation_recursion.proofs.MadeAnew.{fits_place}
use Rattle.relation_recursion.proofs.keeping.first_const_parts.Goals as goal

pub loop-i-init : goal.loop-i-init
loop-i-init g c =
    let m = (g.R.HasState.state c.args.r.now).meaning in
    record { firsts = no_first_args (arg_tree m) (const_parts_of (m.const_ c.args.constant.now)) c.new-list.result.items c.new-list.ensures.items }

pub loop-i-preserved : goal.loop-i-preserved
loop-i-preserved g c =
    let m = (g.R.HasState.state c.args.r.now).meaning in
    let sorted : Sorted m =
    subst (λ m. Sorted m) (sym (g.met.R.TypeRelation.reads c.args.r.now))
    (g.met.I.Interner.sorted (g.R.TypeRelation.interner c.args.r.now)) in
    let ts = const_parts_of (m.const_ c.args.constant.now) in
    let i = c.loop-i.i in
    let x = c.const_part_of.result in
    let test = c.loop-i-test.true in
    let most = c.requires.in_bounds in
    let below : i < count ts = omega (arith, test, most) in
    let next : i + 1 ≡ suc i = omega arith in
    record {
      firsts = next_first_arg (arg_tree m) x i (i + 1) ts c.loop-i.list.items c.push.new.self.items
          c.loop-i.invariant.firsts below next c.const_part_of.ensures.means c.const_part_of.ensures.sure
          (fits_place m sorted x x ts i c.const_part_of.ensures.sure c.const_part_of.ensures.means refl) c.in_ok-push.ensures.items;
    }

pub returns : goal.returns
returns g c =
    let m = (g.R.HasState.state c.args.r.now).meaning in
    let test = c.loop-i-test.false in
    let end = (c.loop-i.auto).i-end in
    let all : c.loop-i.i ≡ c.args.amount = omega (arith, test, end) in
    subst (λ n. AreFirstParts (arg_tree m) FitArgs n (const_parts_of (m.const_ c.args.constant.now)) c.loop-i.list.items) all c.loop-i.invariant.firsts
