use Rattle.text_asking.proofs.AskingLemmas.{puts_known}
use Rattle.text_asking.proofs.question.puts_of.Goals as goal

pub returns-in-Some : goal.returns-in-Some
returns-in-Some g c = λ m ready. puts_known m c.args.terms.now.built.now ready _
    c.in-Some.puts.items c.in-Some.ensures
