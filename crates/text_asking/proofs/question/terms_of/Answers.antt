use Rattle.text_asking.proofs.AskingLemmas.{keys_known}
use Rattle.text_asking.proofs.question.terms_of.Goals as goal

pub returns-in-Some : goal.returns-in-Some
returns-in-Some g c = λ m ready. keys_known m c.args.terms.now.built.now ready _
    c.in-Some.keys.items c.in-Some.ensures
