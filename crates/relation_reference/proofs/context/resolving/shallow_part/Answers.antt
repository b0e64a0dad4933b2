use Rattle.std.proofs.Common.{subst, sym, ◌∙◌}
use Rattle.relation_semantics.specs.Stores.{InContext}
use Rattle.relation_terms.specs.Parts.{part_tree}
use Rattle.relation_terms.specs.declared.terms.part_kind.Part.TheVariants.{Const}
use Rattle.relation_terms.specs.Interning.{Sorted}
use Rattle.relation_terms.proofs.Parts.{sort_known}
use Rattle.variable_tables.specs.Tables.{store_of}
use Rattle.relation_reference.proofs.Reading.{context_read}
use Rattle.relation_reference.proofs.Resolving.{other_by_parts, shallow_by_parts, const_by_parts}
use Rattle.relation_reference.proofs.context.resolving.shallow_part.Goals as goal
use Rattle.relation_folds.proofs.Visiting.{has_sort}

pub returns-in_default-clause-by_parts : goal.returns-in_default-clause-by_parts
returns-in_default-clause-by_parts g c =
    let m = g.I.Interner.meaning c.args.cx.now in
    let sorted : Sorted m = g.met.I.Interner.sorted c.args.cx.now in
    other_by_parts m c.args.term.now c.in_default.not-Ty c.in_default.not-Const
    (sort_known m sorted c.args.term.now c.requires.term_known) (store_of m c.args.inner.now) c.requires.lawful.sound

pub returns-in-Ty-clause-is_in : goal.returns-in-Ty-clause-is_in
returns-in-Ty-clause-is_in g c =
    let m = g.I.Interner.meaning c.args.cx.now in
    context_read (store_of m c.args.inner.now) c.requires.lawful.sound (m.ty c.in-Ty.ty) (m.ty c.shallow_resolve.result)
    c.shallow_resolve.ensures.reads
    (subst (λ p. InContext (store_of m c.args.inner.now) (part_tree m p)) c.in-Ty.is c.requires.term_in)

pub returns-in-Ty-clause-by_parts : goal.returns-in-Ty-clause-by_parts
returns-in-Ty-clause-by_parts g c =
    let m = g.I.Interner.meaning c.args.cx.now in
    shallow_by_parts (store_of m c.args.inner.now) (m.ty c.shallow_resolve.result)
    c.shallow_resolve.ensures.shallow

pub returns-in-Const-clause-is_in : goal.returns-in-Const-clause-is_in
returns-in-Const-clause-is_in g c =
    let m = g.I.Interner.meaning c.args.cx.now in
    context_read (store_of m c.args.inner.now) c.requires.lawful.sound (m.const_ c.in-Const.constant) (m.const_ c.shallow_resolve_const.result)
    c.shallow_resolve_const.ensures.reads
    (subst (λ p. InContext (store_of m c.args.inner.now) (part_tree m p)) c.in-Const.is c.requires.term_in)

pub returns-in-Const-clause-by_parts : goal.returns-in-Const-clause-by_parts
returns-in-Const-clause-by_parts g c =
    let m = g.I.Interner.meaning c.args.cx.now in
    let sorted : Sorted m = g.met.I.Interner.sorted c.args.cx.now in
    const_by_parts (store_of m c.args.inner.now) (m.const_ c.shallow_resolve_const.result)
    (λ s. has_sort {Id = g.row.I-Id.Denot} (Const c.shallow_resolve_const.result)
    (sym (sort_known m sorted (Const c.shallow_resolve_const.result) c.shallow_resolve_const.ensures.sure) ∙ s))
    c.shallow_resolve_const.ensures.shallow
