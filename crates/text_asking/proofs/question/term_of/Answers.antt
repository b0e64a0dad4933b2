use Rattle.text_asking.proofs.question.term_of.Goals as goal

pub returns-in-Some : goal.returns-in-Some
returns-in-Some g c = λ m ready. ready c.args.number c.in-Some.key c.in-Some.ensures
