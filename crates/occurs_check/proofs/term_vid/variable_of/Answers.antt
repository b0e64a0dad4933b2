use Rattle.std.proofs.Common.{ap, ◌∙◌, Option, Some, None, IfNone}
use Rattle.relation_terms.specs.Parts.{part_tree}
use Rattle.relation_terms.specs.Meaning.{kind_tree, const_tree}
use Rattle.relation_terms.specs.Interning.{Sorted}
use Rattle.relation_terms.proofs.Parts.{sort_known}
use Rattle.occurs_check.proofs.TermVids.{type_no_vid, const_no_vid, other_no_vid}
use Rattle.occurs_check.proofs.term_vid.variable_of.Goals as goal

if_none : {A : Type 0} (o : Option A) (P : Type 0) → P → IfNone o P
if_none (Some x) P p = tt
if_none None P p = p

pub returns-in_err-ty_vid-in-Ty-clause-is_none : goal.returns-in_err-ty_vid-in-Ty-clause-is_none
returns-in_err-ty_vid-in-Ty-clause-is_none g c =
    let m = g.I.Interner.meaning c.args.cx.now in
    if_none c.from_residual.result _ (type_no_vid m c.ty_kind.result (part_tree m c.args.term.now)
    (ap (part_tree m) c.in-Ty.is ∙ c.ty_kind.ensures) c.in_err-ty_vid-in-Ty.ensures.is_none)

pub returns-in_err-const_vid-in-Const-clause-is_none : goal.returns-in_err-const_vid-in-Const-clause-is_none
returns-in_err-const_vid-in-Const-clause-is_none g c =
    let m = g.I.Interner.meaning c.args.cx.now in
    if_none c.from_residual-in_err-const_vid-in-Const.result _ (const_no_vid m c.const_kind.result (part_tree m c.args.term.now)
    (ap (part_tree m) c.in-Const.is ∙ c.const_kind.ensures) c.in_err-const_vid-in-Const.ensures.is_none)

pub returns-in_ok-ty_vid-in-Ty-clause-is : goal.returns-in_ok-ty_vid-in-Ty-clause-is
returns-in_ok-ty_vid-in-Ty-clause-is g c =
    let m = g.I.Interner.meaning c.args.cx.now in
    ap (part_tree m) c.in-Ty.is ∙ c.ty_kind.ensures ∙ ap (kind_tree m) c.in_ok-ty_vid-in-Ty.ensures.is

pub returns-in_ok-const_vid-in-Const-clause-is : goal.returns-in_ok-const_vid-in-Const-clause-is
returns-in_ok-const_vid-in-Const-clause-is g c =
    let m = g.I.Interner.meaning c.args.cx.now in
    ap (part_tree m) c.in-Const.is ∙ c.const_kind.ensures ∙ ap (const_tree m) c.in_ok-const_vid-in-Const.ensures.is

pub returns-in_default : goal.returns-in_default
returns-in_default g c =
    let m = g.I.Interner.meaning c.args.cx.now in
    let sorted : Sorted m = g.met.I.Interner.sorted c.args.cx.now in
    record {
      is = tt;
      is_none = other_no_vid m c.args.term.now c.in_default.not-Ty c.in_default.not-Const
          (sort_known m sorted c.args.term.now c.requires);
    }
