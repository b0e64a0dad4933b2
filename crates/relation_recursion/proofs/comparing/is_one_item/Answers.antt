use Rattle.std.proofs.Common.{rules, ◌≡◌, sym, ap, ◌∙◌}
use Rattle.std.proofs.lemmas.Bool.{eqb-true, eq-eqb}
use Rattle.relation_terms.specs.Meaning.{arg_tree}
use Rattle.relation_terms.specs.Trees.{count}
use Rattle.relation_terms.proofs.Members.{list_count}
use Rattle.relation_recursion.proofs.comparing.is_one_item.Goals as goal

pub returns : goal.returns
returns g c =
    let m = g.I.Interner.meaning c.args.cx.now in
    let a = c.args.a.now in
    let b = c.args.b.now in
    let same = g.met.I.Interner.same_id c.args.cx.now (a.def).0 (b.def).0 in
    let one : m.id (a.def).0 ≡ m.id (b.def).0 =
    same.0 (let t = c.if-ne.false in let h = c.ne.ensures in search rules) in
    let left = ap count c.args-2.ensures ∙ list_count (arg_tree m) c.args-2.result.now in
    let right = ap count c.args-3.ensures ∙ list_count (arg_tree m) c.args-3.result.now in (
      λ t. (one, left ∙ eqb-true _ _ t ∙ sym right),
      λ o. eq-eqb _ _ (sym left ∙ o.1 ∙ right),
    )
