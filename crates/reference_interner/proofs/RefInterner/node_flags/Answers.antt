use Rattle.std.proofs.Common.{IsTrue, ap, sym, ◌∙◌, subst}
use Rattle.relation_terms.specs.Heads.{type_sort}
use Rattle.relation_terms.specs.Flags.{flags_of}
use Rattle.relation_terms.specs.Meaning.{kind_tree}
use Rattle.relation_terms.specs.Parts.{parts_tree}
use Rattle.relation_terms.proofs.Parts.{ty_viewed}
use Rattle.relation_terms.proofs.Sorted.{kind_sorted}
use Rattle.reference_interner.specs.Adding.{meaning_in}
use Rattle.reference_interner.specs.Forms.{form_of}
use Rattle.reference_interner.specs.Laws.{all_sorted}
use Rattle.reference_interner.specs.Nodes.{entry_of, known_entry, form_tree}
use Rattle.reference_interner.proofs.FlagLemmas.{parts_known, form_flags}
use Rattle.reference_interner.specs.Adding.{items_in}
use Rattle.reference_interner.proofs.RefInterner.node_flags.Goals as goal

pub flags-requires : goal.flags-requires
flags-requires c =
    let m = meaning_in c.args.self.now in
    let k = c.in-Ty.kind in
    parts_known (kind_tree m k) (parts_tree m c.ty_parts.result)
    (ap (parts_tree m) c.ty_parts.ensures ∙ ty_viewed m k)
    (subst (λ n. IsTrue (known_entry (entry_of m n))) c.in-Ty.is c.requires)

pub returns-in-Ty : goal.returns-in-Ty
returns-in-Ty c =
    let s = c.args.self.now in
    let m = meaning_in s in
    let k = c.in-Ty.kind in
    form_flags type_sort (kind_tree m k) (parts_tree m c.ty_parts.result) c.ty_own_flags.result c.flags.result
    c.and.result
    (kind_sorted m (all_sorted (items_in s) s.nodes) k
    (subst (λ n. IsTrue (known_entry (entry_of m n))) c.in-Ty.is c.requires))
    (ap (parts_tree m) c.ty_parts.ensures ∙ ty_viewed m k) (c.ty_own_flags.ensures m) c.flags.ensures c.and.ensures ∙
    ap (λ n. flags_of (form_tree m (form_of n))) (sym c.in-Ty.is)
