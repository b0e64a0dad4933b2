use Rattle.std.proofs.Common.{◌≡◌, ◌∙◌, [], ◌∷◌, refl, sym, ap}
use Rattle.component_parts.specs.Components.{every, components}
use Rattle.outlives.specs.declared.Component.{Region}
use Rattle.outlives.proofs.Components.{region_is}
use Rattle.outlives.proofs.Outliving.{added_some, added_all}
use Rattle.outlives.proofs.collecting.collect_region.Goals as goal

pub returns-in_default : goal.returns-in_default
returns-in_default g c =
    let m = g.I.Interner.meaning c.args.cx.now in
    let r = c.args.region in
    let e = c.region_kind.ensures in
    let is : components every (m.region r) ≡ m.region r ∷ [] =
    ap (components every) e ∙ region_is m c.region_kind.result c.in_default.not-ReBound ∙ ap (λ z. z ∷ []) (sym e) in
    record {
      some = added_some m (components every (m.region r)) (Region r) (m.region r) _ _ c.add.result c.add.ensures.ok c.add.ensures.err is refl;
      all = added_all m (components every (m.region r)) (Region r) (m.region r) _ _ c.add.result c.add.ensures.ok is refl;
    }
