use Rattle.std.proofs.Common.{◌≡◌, ◌∙◌, ◌&&◌, ◌-◌, not, nat_lt, sym, ap, ap₂, arith}
use Rattle.relation_terms.specs.Trees.{count as tree_count}
use Rattle.relation_terms.specs.Closures.{is_type_sort}
use Rattle.relation_terms.proofs.Parts.{sort_known}
use Rattle.component_parts.specs.Components.{is_region_sort}
use Rattle.component_parts.specs.Choosing.{takes_part}
use Rattle.component_parts.proofs.is_chosen.Goals as goal

pub returns-in-NoRegion : goal.returns-in-NoRegion
returns-in-NoRegion g c = λ ts h.
    let m = g.I.Interner.meaning c.args.cx.now in
    let p = c.args.part.now in
    let sort = sort_known m (g.met.I.Interner.sorted c.args.cx.now) p c.requires.known in
    ap not (c.is_region.ensures ∙ ap is_region_sort (sym sort))
    ∙ ap (λ z. takes_part m z c.args.i p ts) (sym c.in-NoRegion.is)

pub returns-in-LastTypes : goal.returns-in-LastTypes
returns-in-LastTypes g c = λ ts h.
    let m = g.I.Interner.meaning c.args.cx.now in
    let p = c.args.part.now in
    let sort = sort_known m (g.met.I.Interner.sorted c.args.cx.now) p c.requires.known in
    let behind : c.args.count - 1 - c.args.i ≡ tree_count ts = omega (arith, h) in
    ap₂ (λ x k. x && nat_lt k c.in-LastTypes.last) (c.is_type.ensures ∙ ap is_type_sort (sym sort)) behind
    ∙ ap (λ z. takes_part m z c.args.i p ts) (sym c.in-LastTypes.is)
