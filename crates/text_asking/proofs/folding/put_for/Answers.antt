use Rattle.std.proofs.Common.{◌∙◌, sym, ap, subst, IfSome, IsTrue}
use Rattle.relation_terms.specs.Meaning.{arg_tree}
use Rattle.relation_terms.specs.Trees.{known}
use Rattle.text_asking.specs.Args.{alike}
use Rattle.text_asking.specs.Puts.{tree_of}
use Rattle.text_asking.proofs.PutLemmas.{Compares, put_means, put_known}
use Rattle.text_asking.proofs.folding.put_for.Goals as goal

pub returns : goal.returns
returns g c =
    let m = g.I.Interner.meaning c.args.cx.now in
    let eq = g.I.Key.PartialEq.eq in
    let is : Compares m eq = record {
      ty = g.met.I.Interner.same_ty c.args.cx.now;
      region = g.met.I.Interner.same_region c.args.cx.now;
      const_ = g.met.I.Interner.same_const c.args.cx.now;
      is_ty = (g.met.I.Interner.sorted c.args.cx.now).ty;
      is_region = (g.met.I.Interner.sorted c.args.cx.now).region;
      is_const = (g.met.I.Interner.sorted c.args.cx.now).const_;
    } in
    let means = put_means m eq is c.args.puts.now c.args.term c.requires.puts c.requires.known in
    let both = put_known m eq is c.args.puts.now c.args.term c.requires.puts in
    record {
      put = means ∙ ap (tree_of m) (sym c.first_put.ensures);
      sure = subst (λ r. IfSome r (λ by. IsTrue (known (arg_tree m by)))) (sym c.first_put.ensures) both.0;
      alike = subst (λ r. IfSome r (λ by. IsTrue (alike c.args.term by))) (sym c.first_put.ensures) both.1;
    }
