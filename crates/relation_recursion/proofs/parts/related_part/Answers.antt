use Rattle.std.proofs.Common.{◌≡◌, ◌∙◌, sym, ap}
use Rattle.relation_terms.specs.Meaning.{const_tree}
use Rattle.relation_terms.specs.Parts.{parts_of}
use Rattle.relation_semantics.specs.Parts.{const_parts_of}
use Rattle.relation_recursion.proofs.MadeAnew.{value_tree_known}
use Rattle.relation_terms.specs.Meaning.{value_tree}
use Rattle.relation_recursion.proofs.AsParts.{branches_as, const_parts_as}
use Rattle.relation_recursion.proofs.parts.related_part.Goals as goal

pub returns-in-Value : goal.returns-in-Value
returns-in-Value g c =
    let m = g.I.Interner.meaning c.args.cx.now in
    let k = m.const_ c.args.constant.now in
    let t = m.ty c.in-Value.field-0 in
    let v = m.valtree c.in-Value.value in
    let e : k ≡ value_tree t v = c.const_kind.ensures ∙ ap (const_tree m) c.in-Value.is in
    let sure = value_tree_known k t v e c.requires in
    record {
      sure = sure;
      parts = branches_as v ((g.met.I.Interner.sorted c.args.cx.now).valtree c.in-Value.value sure)
          ∙ sym (ap const_parts_of e);
    }

pub returns-in_default : goal.returns-in_default
returns-in_default g c =
    let m = g.I.Interner.meaning c.args.cx.now in
    record {
      sure = c.requires;
      parts = ap parts_of c.const_kind.ensures ∙ const_parts_as m c.const_kind.result c.in_default.not-Value
          ∙ sym (ap const_parts_of c.const_kind.ensures);
    }
