use Rattle.std.proofs.Common.{◌≡◌, ◌≤◌, subst, sym, rules}
use Rattle.std.specs.Prelude.{IfSome, Some, slice_get, string_bytes}
use Rattle.relation_rows.specs.Rows.{IsRow}
use Rattle.text_asking.specs.Programs.{IsHelp}
use Rattle.relation_rows.proofs.running.run.Goals as goal

-- What is promised of the word is promised of the first.
pub returns-in-Some-clause-row : goal.returns-in-Some-clause-row
returns-in-Some-clause-row g c few =
    let at : slice_get c.args.words.now 0 ≡ Some c.in-Some.word.now =
    (let value = c.in-Some.ensures.value in let is = c.in-Some.is in search rules) in
    let text : c.as_str.result.now ≡ string_bytes c.in-Some.word.now =
    (let value = c.as_str.ensures.value in search rules) in
    subst (λ o. IfSome o (λ w. IsRow c.args.rows.now (string_bytes w) → c.run_word.result ≤ 1)) (sym at)
    (λ row. c.run_word.ensures.row (subst (IsRow c.args.rows.now) (sym text) row))

pub returns-in-Some-clause-help : goal.returns-in-Some-clause-help
returns-in-Some-clause-help g c few =
    let at : slice_get c.args.words.now 0 ≡ Some c.in-Some.word.now =
    (let value = c.in-Some.ensures.value in let is = c.in-Some.is in search rules) in
    let text : c.as_str.result.now ≡ string_bytes c.in-Some.word.now =
    (let value = c.as_str.ensures.value in search rules) in
    subst (λ o. IfSome o (λ w. IsHelp (string_bytes w) → c.run_word.result ≤ 1)) (sym at)
    (λ help. c.run_word.ensures.help (subst IsHelp (sym text) help))

pub returns-in-Some-clause-no_row : goal.returns-in-Some-clause-no_row
returns-in-Some-clause-no_row g c =
    let at : slice_get c.args.words.now 0 ≡ Some c.in-Some.word.now =
    (let value = c.in-Some.ensures.value in let is = c.in-Some.is in search rules) in
    let text : c.as_str.result.now ≡ string_bytes c.in-Some.word.now =
    (let value = c.as_str.ensures.value in search rules) in
    subst (λ o. IfSome o (λ w. (IsRow c.args.rows.now (string_bytes w) → ⊥) → (IsHelp (string_bytes w) → ⊥) →
    c.run_word.result ≡ 2)) (sym at)
    (λ no_row no_help. c.run_word.ensures.no_row (λ row. no_row (subst (IsRow c.args.rows.now) text row))
    (λ help. no_help (subst IsHelp text help)))
