use Rattle.std.proofs.Common.{take}
use Rattle.text_asking.specs.Puts.{AreMade}
use Rattle.text_asking.proofs.folding.puts_at.Given as goal

-- what is put so far is made of the first places
abbrev pub invariant-loop-put : goal.invariant-loop-put
invariant-loop-put g l = AreMade l.built (take l.put-index l.places) l.puts.items
