use Rattle.std.proofs.Common.{sym, subst, ap, ◌∙◌, map, get_or, IfSome}
use Rattle.std.specs.List.{All}
use Rattle.std.proofs.lemmas.List.{take_all}
use Rattle.std.proofs.lemmas.List.Elements.{All-nil}
use Rattle.relation_terms.specs.Meaning.{arg_tree}
use Rattle.relation_terms.specs.Owned.{IsStatedBound, bound_tree}
use Rattle.relation_terms.proofs.Stays.{stays_arg, stays_same, extends_on}
use Rattle.reference_interner.specs.Adding.{meaning_in}
use Rattle.text_terms.proofs.BuildingLemmas.{built_stays, ids_stay}
use Rattle.text_clauses.specs.Clauses.{bound_clause_tree}
use Rattle.text_clauses.specs.Made.{MakesBound}
use Rattle.text_clauses.proofs.ClauseLemmas.{each_with}
use Rattle.text_elaboration.proofs.StatedLemmas.{keys_stay, bounds_more}
use Rattle.text_elaboration.proofs.SaidLemmas.{bounds_stay}
use Rattle.text_elaboration.proofs.stating.bounds_of.Goals as goal

pub loop-one-init : goal.loop-one-init
loop-one-init c =
    let m = meaning_in c.args.cx.now in
    record {
      grown = stays_same m;
      sure = subst (All (IsStatedBound m)) (sym c.new-bounds.ensures.items) (All-nil (IsStatedBound m));
      made = λ ts b. ap (map (bound_tree m)) c.new-bounds.ensures.items;
    }

pub own_bound-requires : goal.own_bound-requires
own_bound-requires c = keys_stay c.loop-one.invariant.grown c.args.built.now c.requires

pub returns-in_err-bound-clause-grown : goal.returns-in_err-bound-clause-grown
returns-in_err-bound-clause-grown c = extends_on c.loop-one.invariant.grown c.own_bound.ensures.grown

pub returns-in_default-clause-grown : goal.returns-in_default-clause-grown
returns-in_default-clause-grown c = extends_on c.loop-one.invariant.grown c.own_bound.ensures.grown

pub returns-in_err-push-clause-grown : goal.returns-in_err-push-clause-grown
returns-in_err-push-clause-grown c = extends_on c.loop-one.invariant.grown c.own_bound.ensures.grown

pub loop-one-preserved : goal.loop-one-preserved
loop-one-preserved c =
    let m = meaning_in c.args.cx.now in
    let p = meaning_in c.loop-one.cx in
    let n = meaning_in c.own_bound.new.cx in
    let inv = c.loop-one.invariant in
    let grown = c.own_bound.ensures.grown in
    let before = c.loop-one.bounds.items in
    let said = c.args.said.now in
    let keys = c.args.built.now in
    let parts = c.args.parts.now in
    let one = get_or said c.loop-one.one-index _ in
    let sure = subst (λ z. IfSome z (IsStatedBound n)) c.in-Some.is c.in_ok-bound.ensures.sure in
    let made = subst (MakesBound meaning_in c.loop-one.cx c.own_bound.new.cx c.args.ids.now parts keys one) c.in-Some.is
    c.in_ok-bound.ensures.made in
    record {
      grown = extends_on inv.grown grown;
      sure = subst (All (IsStatedBound n)) (sym c.in_ok-push.ensures.items)
          (bounds_more grown before c.in-Some.bound sure inv.sure);
      made = λ ts b. each_with (bound_clause_tree (map m.id c.args.ids.now) parts ts) (bound_tree n) said
          c.loop-one.one-index _ before c.push.new.self.items c.in-Some.bound c.loop-one-test.true
          (bounds_stay grown before inv.sure ∙ inv.made ts b)
          (made.1 ts (built_stays (arg_tree m) (arg_tree p) (stays_arg inv.grown) keys ts c.requires b)
          ∙ ap (λ items. bound_clause_tree items parts ts one) (ids_stay inv.grown c.args.ids.now))
          c.in_ok-push.ensures.items;
    }

pub returns-clause-grown : goal.returns-clause-grown
returns-clause-grown c = c.loop-one.invariant.grown

pub returns-clause-sure : goal.returns-clause-sure
returns-clause-sure c = c.loop-one.invariant.sure

pub returns-clause-made : goal.returns-clause-made
returns-clause-made c ts b =
    let m = meaning_in c.args.cx.now in
    c.loop-one.invariant.made ts b
    ∙ ap (map (bound_clause_tree (map m.id c.args.ids.now) c.args.parts.now ts))
    (take_all c.loop-one.one-index c.args.said.now c.loop-one-test.false)
