use Rattle.std.proofs.Common.{◌≡◌, ◌∙◌, sym, ap, not, arith, refl, [], ◌∷◌, ◌++◌}
use Rattle.std.specs.List.Sorted.{IsPermutation}
use Rattle.std.proofs.lemmas.Bool.{MatchBool-at_true}
use Rattle.elaboration_worklist.specs.Pushes.{anon}
use Rattle.elaboration_worklist.proofs.Worklists.{item_known, item_new, item_full}
use Rattle.elaboration_worklist.proofs.worklist.push_new.Goals as goal

pub returns-then-contains : goal.returns-then-contains
returns-then-contains g c =
    let w = c.args.list.now in
    let n = g.I.Interner.meaning c.anonymize_bound_vars.new.cx in
    item_known g.O.HasTree.tree g.O.HasTree.stays c.in_ok-key.ensures.grown
    (λ k l. g.I.Key.PartialEq.eq k.0 l.0) (g.met.I.Interner.same_predicate c.anonymize_bound_vars.new.cx) w
    c.requires.kept
    c.args.obligation c.requires.known c.in_ok-key.key c.in_ok-key.ensures.sure
    (c.in_ok-key.ensures.made ∙ ap (anon ((g.I.Interner.meaning c.args.cx.now).name w.name))
    c.predicate-predicate.ensures) tt
    (sym c.contains.ensures ∙ c.if-contains.true)

pub returns-then-len-list : goal.returns-then-len-list
returns-then-len-list g c =
    let w = c.args.list.now in
    let room = c.if-len-list.true in
    let count = c.len.ensures.len in
    item_full g.O.HasTree.tree g.O.HasTree.stays c.in_ok-key.ensures.grown
    (λ k l. g.I.Key.PartialEq.eq k.0 l.0) (g.met.I.Interner.same_predicate c.anonymize_bound_vars.new.cx) w
    c.requires.kept
    c.args.obligation c.requires.known c.in_ok-key.key c.in_ok-key.ensures.sure
    (c.in_ok-key.ensures.made ∙ ap (anon ((g.I.Interner.meaning c.args.cx.now).name w.name))
    c.predicate-predicate.ensures) tt
    (sym c.contains.ensures ∙ c.if-contains.false) (omega (arith, room, count))

pub returns : goal.returns
returns g c =
    let w = c.args.list.now in
    let v = record w { stack = c.push_reserved.new.self; visited = c.insert.new.self } in
    let absent = sym c.contains.ensures ∙ c.if-contains.false in
    let room = c.if-len-list.false in
    let count = c.len.ensures.len in
    let perm = MatchBool-at_true
    (IsPermutation (c.in_ok-key.key ∷ w.visited.keys) v.visited.keys)
    (v.visited.keys ≡ w.visited.keys)
    (c.in_ok-insert.ensures.added ∙ ap not absent) c.in_ok-insert.ensures.keys in
    item_new g.O.HasTree.tree g.O.HasTree.stays c.in_ok-key.ensures.grown
    (λ k l. g.I.Key.PartialEq.eq k.0 l.0) (g.met.I.Interner.same_predicate c.anonymize_bound_vars.new.cx) w
    c.requires.kept
    c.args.obligation c.requires.known c.in_ok-key.key c.in_ok-key.ensures.sure
    (c.in_ok-key.ensures.made ∙ ap (anon ((g.I.Interner.meaning c.args.cx.now).name w.name))
    c.predicate-predicate.ensures) tt
    v absent (c.push_reserved.ensures.items ∙ ap (λ z. z ++ c.args.obligation ∷ []) c.in_ok-reserve.ensures.items)
    perm (omega (arith, room, count)) refl refl
