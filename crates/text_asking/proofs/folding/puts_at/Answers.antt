use Rattle.std.proofs.Common.{ℕ, [], ◌∷◌, ◌++◌, if◌then◌else◌, sym, ap, ◌∙◌, subst, take, get_or}
use Rattle.std.specs.List.{AllZip}
use Rattle.std.proofs.lemmas.List.{take_more}
use Rattle.text_reading.specs.declared.naming.program.Put.{Put}
use Rattle.text_asking.specs.Puts.{IsMade}
use Rattle.text_asking.proofs.PutLemmas.{zip_push}
use Rattle.text_asking.proofs.folding.puts_at.Goals as goal

pub loop-put-preserved : goal.loop-put-preserved
loop-put-preserved g c =
    let made = IsMade c.args.built.now in
    let places = c.in_ok-places.places.now in
    let i = c.loop-put.put-index in
    let puts = c.loop-put.puts.items in
    let put = c.in_ok-put.put in
    let none : Put ℕ = record { from = 0; to = 0 } in
    let more = zip_push made (take i places) puts (get_or places i none) put c.loop-put.invariant c.in_ok-put.ensures in
    let pushed = c.push.ensures.items ∙ ap (λ b. if b then (puts ++ put ∷ []) else puts) c.if-is_err.ensures.negation in
    subst (λ xs. AllZip made xs c.push.new.self.items) (sym (take_more places i none c.loop-put-test.true))
    (subst (λ ys. AllZip made (take i places ++ get_or places i none ∷ []) ys) (sym pushed) more)
