use Rattle.std.proofs.Common.{rules, ◌≡◌, ◌∙◌, ◌∷◌, [], sym, ap, subst, true, false, Some, None}
use Rattle.std.specs.List.{list_any}
use Rattle.std.specs.List.Sorted.{IsPermutation}
use Rattle.std.specs.Option.{option_map}
use Rattle.std.proofs.lemmas.Bool.{MatchBool-at_true, MatchBool-at_false}
use Rattle.std.proofs.lemmas.List.Sorted.{IsPermutation-map}
use Rattle.relation_statements.specs.TraitClauses.{trait_named}
use Rattle.relation_statements.specs.Reach.{Spreads, number, numbers}
use Rattle.elaboration_worklist.proofs.Members.{map_both}
use Rattle.relation_statements.proofs.Reaching.{spreads_none, spreads_known, spreads_one, names_none, names_one}
use Rattle.relation_statements.proofs.Reaching.{equal_ids, any_there, none_there, was_there, was_absent}
use Rattle.relation_statements.proofs.def_ids.reach.Goals as goal

pub returns-in_default : goal.returns-in_default
returns-in_default g c =
    let m = g.I.Interner.meaning c.args.cx.now in
    let t = m.clause c.args.clause.now in
    let st = numbers m c.args.stack.now.items in
    let ks = numbers m c.args.reached.now.keys in
    let none : None ≡ trait_named t =
    sym (ap (option_map (λ b. m.id ((b.value).def_id).0)) c.in_default.is) ∙ c.trait_reference.ensures.names in
    subst (λ z. Spreads z st ks st ks) (names_none t none) (spreads_none st ks)

pub returns-then-not-branch : goal.returns-then-not-branch
returns-then-not-branch g c =
    let m = g.I.Interner.meaning c.args.cx.now in
    let t = m.clause c.args.clause.now in
    let st = numbers m c.args.stack.now.items in
    let keys = c.args.reached.now.keys in
    let keys' = c.insert.new.self.keys in
    let id = (c.in-Some.trait_ref.value).def_id in
    let eq = equal_ids g.I.Id.PartialEq.eq in
    let one : Some (number m id) ≡ trait_named t =
    sym (ap (option_map (λ b. m.id ((b.value).def_id).0)) c.in-Some.is) ∙ c.trait_reference.ensures.names in
    let old : c.in_ok-insert.field-0 ≡ false = (let test = c.if-not-branch.true in search rules) in
    let same = MatchBool-at_false (IsPermutation (id ∷ keys) keys') (keys' ≡ keys) old c.in_ok-insert.ensures.keys in
    let there = any_there eq (number m) (λ x y. g.met.I.Interner.same_id c.args.cx.now x.0 y.0) id keys
    (was_there c.in_ok-insert.field-0 (list_any (eq id) keys) old c.in_ok-insert.ensures.added) in
    subst (λ z. Spreads z st (numbers m keys) st (numbers m keys')) (names_one t (number m id) one)
    (subst (λ z. Spreads (number m id ∷ []) st (numbers m keys) st (numbers m z)) (sym same)
    (spreads_known (number m id) st (numbers m keys) there))

pub returns : goal.returns
returns g c =
    let m = g.I.Interner.meaning c.args.cx.now in
    let t = m.clause c.args.clause.now in
    let items = c.args.stack.now.items in
    let keys = c.args.reached.now.keys in
    let keys' = c.insert.new.self.keys in
    let id = (c.in-Some.trait_ref.value).def_id in
    let eq = equal_ids g.I.Id.PartialEq.eq in
    let one : Some (number m id) ≡ trait_named t =
    sym (ap (option_map (λ b. m.id ((b.value).def_id).0)) c.in-Some.is) ∙ c.trait_reference.ensures.names in
    let new : c.in_ok-insert.field-0 ≡ true = (let test = c.if-not-branch.false in search rules) in
    let perm = MatchBool-at_true (IsPermutation (id ∷ keys) keys') (keys' ≡ keys) new c.in_ok-insert.ensures.keys in
    let absent = none_there eq (number m) (λ x y. g.met.I.Interner.same_id c.args.cx.now x.0 y.0) id keys
    (was_absent c.in_ok-insert.field-0 (list_any (eq id) keys) new c.in_ok-insert.ensures.added) in
    subst (λ z. Spreads z (numbers m items) (numbers m keys) (numbers m c.push.new.self.items) (numbers m keys'))
    (names_one t (number m id) one)
    (subst (λ z. Spreads (number m id ∷ []) (numbers m items) (numbers m keys) z (numbers m keys'))
    (sym (ap (numbers m) c.in_ok-push.ensures.items ∙ map_both (number m) items (id ∷ [])))
    (spreads_one (number m id) (numbers m items) (numbers m keys) (numbers m keys') absent
    (IsPermutation-map (number m) (id ∷ keys) keys' perm)))
