-- What is found of the two entries of the table.
use Rattle.std.proofs.Common.{◌≡◌, List, [], ◌∷◌, map, ap, sym, ◌∙◌, subst, Contains, arith}
use Rattle.std.proofs.lemmas.List.{take_all}
use Rattle.std.proofs.lemmas.List.Elements.{All-nil, Contains-push, Contains-append_left}
use Rattle.std.proofs.lemmas.Simd.{map-map}
use Rattle.relation_terms.specs.Meaning.{Meaning}
use Rattle.relation_methods.specs.Methods.{MethodEntry, IsKeyed, AreKeyed}
use Rattle.relation_methods.proofs.Finding.{value_found}
use Rattle.examples.proofs.methods.methods_for.Goals as goal

-- A table without entries.
none_keyed : {Key Id Name E : Type 0} (m : Meaning Key Id Name) (es : List (MethodEntry Key Id E)) → es ≡ [] →
    AreKeyed m es
none_keyed m es e = subst (λ z. AreKeyed m z) (sym e) (All-nil (IsKeyed m))

pub look_up-requires-clause-keyed : goal.look_up-requires-clause-keyed
look_up-requires-clause-keyed g c =
    c.insert-2.ensures.keyed (c.insert.ensures.keyed (none_keyed (g.I.Interner.meaning c.args.cx.now) _ c.new-table.ensures))

pub returns : goal.returns
returns g c =
    let m = g.I.Interner.meaning c.args.cx.now in
    let l = c.loop-entry in
    let found = c.in_ok-found.found.items in
    let all = take_all l.entry-index c.deref-entry-items.result.now (omega (arith, c.loop-entry-test.false))
    ∙ c.deref-entry-items.ensures.value in
    let numbers = l.invariant ∙ ap (map (λ r. (r.now).value)) all ∙ sym (map-map (λ e. e.value) (λ r. r.now) found) in
    let one = c.in_ok-insert.ensures.ok in
    let two = c.in_ok-insert-2.ensures.ok in
    let first_in = subst (λ es. Contains es one.entry) (sym two.last) (Contains-append_left _ (two.entry ∷ []) one.entry
    (subst (λ es. Contains es one.entry) (sym one.last) (Contains-push _ one.entry))) in
    let second_in = subst (λ es. Contains es two.entry) (sym two.last) (Contains-push _ two.entry) in
    record {
      first = value_found m c.args.ty.now c.insert-2.new.self (map (λ r. r.now) found) l.numbers.items c.args.first 1
          one.entry c.in_ok-found.ensures.no_loss first_in one.of_type one.has_value numbers;
      second = value_found m c.args.ty.now c.insert-2.new.self (map (λ r. r.now) found) l.numbers.items c.args.second 2
          two.entry c.in_ok-found.ensures.no_loss second_in two.of_type two.has_value numbers;
    }
