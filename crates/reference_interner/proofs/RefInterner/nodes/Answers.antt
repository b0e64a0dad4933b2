use Rattle.std.proofs.Common.{ℕ, ◌<◌, ◌↔◌, subst, sym, ◌∙◌}
use Rattle.reference_interner.specs.Places.{HasKey}
use Rattle.reference_interner.specs.Adding.{meaning_in}
use Rattle.reference_interner.proofs.TableLemmas.{numbered}
use Rattle.reference_interner.specs.Adding.{items_in}
use Rattle.reference_interner.proofs.RefInterner.nodes.Goals as goal

pub returns-clause-numbers : goal.returns-clause-numbers
returns-clause-numbers c =
    subst (λ n. (i : ℕ) → (i < n ↔ HasKey (meaning_in c.args.self.now) i))
    (sym c.len.ensures.count)
    (numbered (items_in c.args.self.now) c.args.self.now.nodes c.args.self.now.known_all)
