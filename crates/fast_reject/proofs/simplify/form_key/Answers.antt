use Rattle.std.proofs.Common.{sym, ap, ◌∙◌}
use Rattle.relation_terms.specs.Meaning.{kind_tree}
use Rattle.relation_folds.specs.Visits.{non_region_infer_stands}
use Rattle.fast_reject.specs.HeadKeys.{form_key, numbered_key, alias_key}
use Rattle.fast_reject.proofs.Keying.{alias_numbered}
use Rattle.fast_reject.proofs.simplify.form_key.Goals as goal

pub returns-in-Alias : goal.returns-in-Alias
returns-in-Alias g c =
    let m = g.I.Interner.meaning c.args.cx.now in
    let autos = (m.tables).is_auto in
    let solver = (m.tables).next_solver in
    let treat = c.args.treat_params in
    let t = m.ty c.args.ty.now in
    let is = ap (kind_tree m) c.in-Alias.is in
    ap (numbered_key (λ d. m.id d.0)) c.alias_key.ensures
    ∙ alias_numbered (λ d. m.id d.0) treat solver (non_region_infer_stands t)
    ∙ ap (λ x. alias_key treat solver (non_region_infer_stands x)) (c.requires.kind_is ∙ is)
    ∙ sym (ap (form_key autos solver treat) is)
