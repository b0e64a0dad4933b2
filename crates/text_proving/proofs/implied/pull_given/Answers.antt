use Rattle.std.proofs.Common.{◌∙◌}
use Rattle.relation_terms.proofs.Stays.{extends_on}
use Rattle.relation_terms.proofs.Members.{if_ok}
use Rattle.text_proving.proofs.Implying.{run_closes}
use Rattle.text_proving.proofs.implied.pull_given.Goals as goal

pub returns-in_err-extend_deduped-clause-same_reference : goal.returns-in_err-extend_deduped-clause-same_reference
returns-in_err-extend_deduped-clause-same_reference g c = c.extend_deduped.ensures.keeps.reference

pub returns-in_err-extend_deduped-clause-grown : goal.returns-in_err-extend_deduped-clause-grown
returns-in_err-extend_deduped-clause-grown g c = c.extend_deduped.ensures.keeps.grown

pub returns : goal.returns
returns g c =
    let meaning = g.I.Interner.meaning in
    let s = c.args.elaborator.now in
    let t = c.extend_deduped.new.self in
    let f = c.pull_all.new.elaborator in
    let keeps = c.extend_deduped.ensures.keeps in
    record {
      same_reference = c.pull_all.ensures.same_reference ∙ keeps.reference;
      grown = extends_on keeps.grown c.pull_all.ensures.grown;
      sure = c.pull_all.ensures.sure;
      closure = if_ok c.pull_all.result (λ all runs. run_closes meaning (meaning s.cx) c.args.given.items all.items t f
          (c.in_ok-extend_deduped.ensures.closure c.requires.stack c.requires.visited) (keeps.mode ∙ c.requires.mode) runs)
          c.pull_all.ensures.runs;
    }
