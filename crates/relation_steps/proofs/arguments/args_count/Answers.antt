use Rattle.std.proofs.Common.{refl}
use Rattle.relation_terms.specs.Meaning.{arg_tree}
use Rattle.relation_semantics.proofs.Parts.{slice_counts, slice_list}
use Rattle.relation_steps.proofs.arguments.args_count.Goals as goal

pub returns : goal.returns
returns g c =
    let m = g.I.Interner.meaning c.args.cx.now in
    record {
      counts = slice_counts (arg_tree m) c.args-2.result.now (m.args c.args.args.now) c.args-2.ensures
          (m.args c.args.args.now) refl;
      is_list = slice_list (arg_tree m) c.args-2.result.now (m.args c.args.args.now) c.args-2.ensures
          (m.args c.args.args.now) refl;
    }
