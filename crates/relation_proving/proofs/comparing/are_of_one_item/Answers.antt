use Rattle.std.proofs.Common.{rules, ◌∙◌, sym, ap, IsTrue, length}
use Rattle.std.proofs.lemmas.Bool.{eqb-true}
use Rattle.relation_terms.specs.Meaning.{arg_tree}
use Rattle.relation_terms.specs.Trees.{count}
use Rattle.relation_terms.proofs.Members.{list_count}
use Rattle.relation_proving.proofs.comparing.are_of_one_item.Goals as goal

pub returns : goal.returns
returns g c = λ yes.
    let m = g.I.Interner.meaning c.args.cx.now in
    let same = g.met.I.Interner.same_id c.args.cx.now (c.def_id.result).0 (c.def_id-2.result).0 in
    let kinds : IsTrue c.are_of_one_kind.result = (let i = c.if-not-are_of_one_kind.false in search rules) in
    let lengths = eqb-true (length c.args-2.result.now) (length c.args-3.result.now) yes in
    record {
      one_kind = c.are_of_one_kind.ensures kinds;
      one_id = ap m.id (sym c.def_id.ensures) ∙
          (same.0 (let t = c.if-ne.false in let h = c.ne.ensures in search rules) ∙ ap m.id c.def_id-2.ensures);
      as_many = ap count c.args-2.ensures ∙ (list_count (arg_tree m) c.args-2.result.now ∙
          (lengths ∙ sym (ap count c.args-3.ensures ∙ list_count (arg_tree m) c.args-3.result.now)));
    }
