use Rattle.std.proofs.Common.{◌∙◌}
use Rattle.reference_interner.proofs.AlikeLemmas.{has_form, lacks_form}
use Rattle.reference_interner.proofs.ItemLemmas.{same_entry}
use Rattle.reference_interner.proofs.OnceLemmas.{known_alone, found, fresh}
use Rattle.reference_interner.specs.Adding.{items_in}
use Rattle.reference_interner.specs.Items.{no_items}
use Rattle.reference_interner.proofs.RefInterner.intern.Goals as goal

pub returns-in-Some-clause-number : goal.returns-in-Some-clause-number
returns-in-Some-clause-number c =
    let ns = c.args.self.now.nodes in
    let u = c.in-Some.ensures in
    found ns c.args.node c.args.self.now.known_all c.in-Some.number u.0 (has_form ns c.args.node c.in-Some.number u) ∙
    same_entry no_items (items_in c.args.self.now) ns c.args.node

pub returns-in-None-clause-there : goal.returns-in-None-clause-there
returns-in-None-clause-there c =
    let ns = c.args.self.now.nodes in
    let items = items_in c.args.self.now in
    let n = c.args.node in
    let k = known_alone ns n items c.requires in
    λ i e. absurd (fresh ns n c.args.self.now.distinct k (lacks_form ns n c.in-None.ensures) i (e ∙ same_entry items no_items ns n))
