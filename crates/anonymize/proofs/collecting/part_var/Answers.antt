use Rattle.std.proofs.Common.{◌≡◌, [], ◌∷◌, MatchOption, sym, subst}
use Rattle.relation_terms.specs.Parts.{part_tree}
use Rattle.relation_terms.specs.Interning.{Sorted}
use Rattle.anonymize.specs.Anonymous.{here}
use Rattle.anonymize.proofs.UsedTrees.{none_here}
use Rattle.anonymize.proofs.collecting.part_var.Goals as goal

pub returns-in-Region : goal.returns-in-Region
returns-in-Region g c =
    let m = g.I.Interner.meaning c.args.cx.now in
    subst (λ p. MatchOption c.region_var.result (here c.args.depth (part_tree m p) ≡ [])
    (λ var. here c.args.depth (part_tree m p) ≡ var ∷ [])) (sym c.in-Region.is) c.region_var.ensures

pub returns-in-Ty : goal.returns-in-Ty
returns-in-Ty g c =
    let m = g.I.Interner.meaning c.args.cx.now in
    subst (λ p. MatchOption c.ty_var.result (here c.args.depth (part_tree m p) ≡ [])
    (λ var. here c.args.depth (part_tree m p) ≡ var ∷ [])) (sym c.in-Ty.is) c.ty_var.ensures

pub returns-in-Const : goal.returns-in-Const
returns-in-Const g c =
    let m = g.I.Interner.meaning c.args.cx.now in
    subst (λ p. MatchOption c.const_var.result (here c.args.depth (part_tree m p) ≡ [])
    (λ var. here c.args.depth (part_tree m p) ≡ var ∷ [])) (sym c.in-Const.is) c.const_var.ensures

pub returns-in_default : goal.returns-in_default
returns-in_default g c =
    let m = g.I.Interner.meaning c.args.cx.now in
    let sorted : Sorted m = g.met.I.Interner.sorted c.args.cx.now in
    none_here m sorted c.args.depth c.args.part.now c.requires c.in_default.not-Region c.in_default.not-Ty
    c.in_default.not-Const
