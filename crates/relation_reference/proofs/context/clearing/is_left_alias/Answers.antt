use Rattle.std.proofs.Common.{sym, ◌∙◌, subst}
use Rattle.std.proofs.lemmas.Bool.{false≢true}
use Rattle.relation_terms.specs.Parts.{part_tree}
use Rattle.relation_terms.specs.Interning.{Sorted}
use Rattle.relation_terms.proofs.Parts.{sort_known}
use Rattle.relation_reference.specs.Generalises.{IsSeenTree}
use Rattle.relation_reference.proofs.Clearing.{sort_seen}
use Rattle.occurs_check.proofs.TermVids.{not_type}
use Rattle.relation_reference.proofs.context.clearing.is_left_alias.Goals as goal

pub returns-in_default : goal.returns-in_default
returns-in_default g c =
    let m = g.I.Interner.meaning c.args.cx.now in
    let p = c.args.term.now in
    let sorted : Sorted m = g.met.I.Interner.sorted c.args.cx.now in
    record {
      is = λ h. absurd (false≢true h);
      is_not = λ h. subst (λ a. IsSeenTree a (part_tree m p)) (sym c.in-No.is)
          (sort_seen (part_tree m p) (λ e. not_type p c.in_default.not-Ty (sym (sort_known m sorted p c.requires) ∙ e)));
    }
