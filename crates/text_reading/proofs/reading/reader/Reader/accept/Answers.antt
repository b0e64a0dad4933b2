use Rattle.std.proofs.Common.{sym, ◌∙◌, rules}
use Rattle.text_reading.proofs.WordLemmas.{once_sign}
use Rattle.text_reading.proofs.reading.reader.Reader.accept.Goals as goal

-- a sign was gone over, which is no leaf
pub invariant_of-self-clause-each_once : goal.invariant_of-self-clause-each_once
invariant_of-self-clause-each_once c =
    once_sign c.args.self.now.tree.nodes.items c.args.self.now.words.items c.args.self.now.at c.in-Some.word c.args.sign
    (sym c.next.ensures ∙ c.in-Some.is) (c.is_sign.ensures.0 (search rules)) c.args.self.now.each_once
