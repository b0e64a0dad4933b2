use Rattle.std.proofs.Common.{map, ap, ◌∙◌, arith}
use Rattle.std.proofs.lemmas.List.{take_all}
use Rattle.text_users.proofs.Finding.{all_found, named_more, mapped_twice}
use Rattle.text_users.proofs.methods.find_methods.Goals as goal

pub loop-entry-preserved : goal.loop-entry-preserved
loop-entry-preserved g c =
    named_more c.deref-entry-items.result.now (λ r. (r.now).value) c.entry-item.result c.loop-entry.entry-index
    c.loop-entry.names.items _ c.entry-item.is c.loop-entry-test.true c.loop-entry.invariant c.in_ok-push.ensures.items

pub returns : goal.returns
returns g c =
    let l = c.loop-entry in
    let past = c.loop-entry-test.false in
    let found = c.in_ok-found.found.items in
    let all = take_all l.entry-index c.deref-entry-items.result.now (omega (arith, past))
    ∙ c.deref-entry-items.ensures.value in
    record {
      no_loss = all_found (g.I.Interner.meaning c.args.cx.now) c.args.ty.now c.args.methods.now c.in_ok-table.table
          (map (λ r. r.now) found) l.names.items c.in_ok-table.ensures.holds c.in_ok-found.ensures.no_loss
          (l.invariant ∙ ap (map (λ r. (r.now).value)) all ∙ mapped_twice found (λ r. r.now) (λ e. e.value));
    }
