use Rattle.std.proofs.Common.{IsTrue, ap, sym, ◌∙◌, subst}
use Rattle.relation_terms.specs.Trees.{known, front}
use Rattle.relation_terms.specs.Flags.{flags_of}
use Rattle.relation_terms.proofs.Binders.{front_known, front_list}
use Rattle.reference_interner.specs.Adding.{meaning_in}
use Rattle.reference_interner.proofs.flags.input_flags.Goals as goal

pub tys-list-requires : goal.tys-list-requires
tys-list-requires c = front_known ((meaning_in c.args.cx.now).tys c.args.tys.now) c.requires

pub list_flags-requires : goal.list_flags-requires
list_flags-requires c =
    let m = meaning_in c.args.cx.now in
    let k = subst (λ t. IsTrue (known (front t))) c.tys-list.ensures c.requires in
    subst (λ t. IsTrue (known t)) (sym (front_list m.ty c.tys-list.result.now k)) k

pub returns : goal.returns
returns c =
    let m = meaning_in c.args.cx.now in
    let k = subst (λ t. IsTrue (known (front t))) c.tys-list.ensures c.requires in
    c.list_flags.ensures ∙ ap flags_of (front_list m.ty c.tys-list.result.now k) ∙
    ap (λ t. flags_of (front t)) (sym c.tys-list.ensures)
