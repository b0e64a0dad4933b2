use Rattle.std.proofs.Common.{sym, ◌∙◌, subst}
use Rattle.text_reading.specs.Words.{EachLies}
use Rattle.text_reading.proofs.WordLemmas.{once_leaf}
use Rattle.text_reading.proofs.reading.reader.Reader.take.Goals as goal

-- the word that was gone over is the leaf that was added
pub invariant_of-self-2-clause-each_once : goal.invariant_of-self-2-clause-each_once
invariant_of-self-2-clause-each_once c =
    once_leaf c.args.self.now.tree.nodes.items c.push.new.self.nodes.items c.args.self.now.words.items
    c.args.self.now.at c.in-Some.word c.in-Leaf.leaf (sym c.next.ensures ∙ c.in-Some.is) c.in-Leaf.is
    c.in_ok-number.ensures.leaves c.args.self.now.each_once

-- the text is the same
pub invariant_of-self-2-clause-lies : goal.invariant_of-self-2-clause-lies
invariant_of-self-2-clause-lies c =
    subst (EachLies c.args.self.now.words.items) (sym c.push.ensures.text) c.args.self.now.lies
