use Rattle.std.proofs.Common.{◌≡◌, subst, subst₂, sym, ◌∙◌, ap, ◌++◌, ◌∷◌, []}
use Rattle.reference_interner.specs.Nodes.{AllKnown, AllDistinct}
use Rattle.reference_interner.specs.Flags.{AreFlags}
use Rattle.reference_interner.specs.Stated.{AllStated}
use Rattle.reference_interner.specs.Adding.{items_in}
use Rattle.reference_interner.specs.Items.{no_items}
use Rattle.reference_interner.proofs.AlikeLemmas.{lacks_form}
use Rattle.reference_interner.proofs.ItemLemmas.{same_entry}
use Rattle.reference_interner.proofs.OnceLemmas.{known_alone, all_known, all_distinct, new_at}
use Rattle.reference_interner.proofs.FlagLemmas.{flags_more}
use Rattle.reference_interner.proofs.StatedLemmas.{stated_node}
use Rattle.reference_interner.proofs.RefInterner.put.Goals as goal

pub invariant_of-self-2 : goal.invariant_of-self-2
invariant_of-self-2 c =
    let s = c.args.self.now in
    let ns = s.nodes in
    let n = c.args.node in
    let k = known_alone ns n (items_in s) c.requires.known in
    let e : c.put.new.self ≡ ns ++ n ∷ [] = c.in_ok-number.ensures.added in
    let fs = s.flags.items in
    let f = c.node_flags-flags.result in
    let flags : c.push_reserved.new.self.items ≡ fs ++ f ∷ [] =
    c.push_reserved.ensures.items ∙ ap (λ xs. xs ++ f ∷ []) c.reserve.ensures.items in
    record {
      known_all = subst AllKnown (sym e) (all_known ns n s.known_all k);
      distinct = subst AllDistinct (sym e) (all_distinct ns n s.distinct k (lacks_form ns n c.requires.new));
      flagged =
          subst₂ AreFlags (sym e) (sym flags)
          (flags_more (items_in s) ns n fs f s.flagged c.node_flags-flags.ensures);
      stated = subst (λ xs. AllStated xs s.items.items) (sym e) (stated_node ns n s.items.items s.stated);
    }

pub returns-clause-number : goal.returns-clause-number
returns-clause-number c =
    let ns = c.args.self.now.nodes in
    let n = c.args.node in
    new_at ns n c.put.new.self c.in_ok-number.number c.in_ok-number.ensures.added c.in_ok-number.ensures.number ∙
    same_entry no_items (items_in c.args.self.now) ns n

pub invariant_of-self-in-Break-branch-2 : goal.invariant_of-self-in-Break-branch-2
invariant_of-self-in-Break-branch-2 c =
    let s = c.args.self.now in
    let e = sym c.in_err-number.ensures.refused in
    record {
      known_all = subst AllKnown e s.known_all;
      distinct = subst AllDistinct e s.distinct;
      flagged = subst₂ AreFlags e (sym c.reserve.ensures.items) s.flagged;
      stated = subst (λ xs. AllStated xs s.items.items) e s.stated;
    }
