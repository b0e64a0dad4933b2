use Rattle.std.proofs.Common.{refl, sym, subst, ◌<◌, ◌≤◌, ◌∙◌}
use Rattle.reference_interner.specs.Nodes.{meaning_of}
use Rattle.reference_interner.specs.Items.{with_supers}
use Rattle.reference_interner.specs.Adding.{items_in}
use Rattle.reference_interner.proofs.StatedLemmas.{stated_set}
use Rattle.reference_interner.proofs.ItemLemmas.{same_terms, changed_set, changed_past}
use Rattle.reference_interner.proofs.RefInterner.set_super_predicates.Goals as goal

pub returns-then-number-len-clause-recorded : goal.returns-then-number-len-clause-recorded
returns-then-number-len-clause-recorded c =
    changed_set (with_supers c.args.clauses) c.args.self.now.items.items (c.args.trait_id.0).0
    c.index_mut.result.now c.index_mut.ensures.value

pub returns-then-number-len-clause-terms : goal.returns-then-number-len-clause-terms
returns-then-number-len-clause-terms c = same_terms (items_in c.args.self.now) _ c.args.self.now.nodes

pub returns-then-number-len-clause-solver : goal.returns-then-number-len-clause-solver
unfolding meaning_of
returns-then-number-len-clause-solver c = refl

pub returns-else-number-len-clause-recorded : goal.returns-else-number-len-clause-recorded
returns-else-number-len-clause-recorded c =
    let n = (c.args.trait_id.0).0 in
    let past = subst (λ l. l ≤ n) (c.len.ensures ∙ c.args.self.now.items.ok.0) c.if-number-len.false in
    sym (changed_past (with_supers c.args.clauses) c.args.self.now.items.items n past)

pub invariant_of-self-clause-stated : goal.invariant_of-self-clause-stated
unfolding meaning_of
invariant_of-self-clause-stated c =
    let n = (c.args.trait_id.0).0 in
    let below = subst (λ l. n < l) (c.len.ensures ∙ c.args.self.now.items.ok.0) c.if-number-len.true in
    stated_set c.args.self.now.nodes c.args.self.now.items.items n c.index_mut.result.now _
    c.args.self.now.stated c.index_mut.ensures.value below
    (λ s. record { supers = c.requires; implied = s.implied; bounds = s.bounds })
