use Rattle.std.proofs.Common.{◌∙◌}
use Rattle.relation_terms.specs.Heads.{type_sort}
use Rattle.relation_terms.specs.Parts.{parts_tree}
use Rattle.relation_terms.specs.Parts.{parts_of as list_of_parts}
use Rattle.relation_terms.proofs.Stays.{knows_as}
use Rattle.relation_terms.proofs.Parts.{ty_seen, known_parts}
use Rattle.relation_recursion.proofs.AsParts.{parts_as}
use Rattle.relation_recursion.proofs.parts.parts_in.Goals as goal

pub returns : goal.returns
returns g c =
    let m = g.I.Interner.meaning c.args._cx.now in
    let t = m.ty c.args._ty.now in
    let v = c.ty_parts.result in
    let is = (g.met.I.Interner.sorted c.args._cx.now).ty c.args._ty.now c.requires.known in
    let seen = ty_seen m v t c.args.kind.now c.requires.form c.ty_parts.ensures in
    record {
      sure = knows_as (list_of_parts t) (parts_tree m v) seen (known_parts t c.requires.known);
      means = seen ∙ parts_as type_sort t is;
    }
