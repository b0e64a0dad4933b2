use Rattle.std.proofs.Common.{◌≡◌, ◌∙◌, ◌∷◌, ◌++◌, [], ap, subst, not, false}
use Rattle.std.specs.List.{list_any}
use Rattle.std.specs.List.Sorted.{IsPermutation}
use Rattle.std.proofs.lemmas.Bool.{MatchBool-at_true}
use Rattle.relation_statements.specs.Reach.{number, numbers}
use Rattle.relation_statements.proofs.Reaching.{equal_ids, by_reach, only_one, reaching_by}
use Rattle.relation_statements.proofs.def_ids.supertrait_def_ids.Goals as goal

pub returns-clause-by_reach : goal.returns-clause-by_reach
returns-clause-by_reach g c =
    let m = g.I.Interner.meaning c.args.cx.now in
    let id = c.args.trait_id in
    let eq = equal_ids g.I.Id.PartialEq.eq in
    let first = c.new-reached.result.keys in
    let keys = c.insert.new.self.keys in
    let items = c.push.new.self.items in
    let perm = subst (λ z. IsPermutation (id ∷ z) keys) c.new-reached.ensures.empty
    (MatchBool-at_true (IsPermutation (id ∷ first) keys) (keys ≡ first)
    (c.in_ok-insert.ensures.added ∙ ap (λ z. not (list_any (eq id) z)) c.new-reached.ensures.empty)
    c.in_ok-insert.ensures.keys) in
    by_reach g.I.Interner.meaning (number m id) (reaching_by g.I.Interner.meaning c.args.cx.now items keys false)
    (g.met.I.Interner.states c.args.cx.now)
    (ap (numbers m) (c.in_ok-push.ensures.items ∙ ap (λ z. z ++ id ∷ []) c.new-stack.ensures.items))
    (only_one (number m) id keys perm)
