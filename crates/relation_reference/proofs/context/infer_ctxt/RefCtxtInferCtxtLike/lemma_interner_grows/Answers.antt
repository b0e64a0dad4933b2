use Rattle.std.proofs.Common.{refl}
use Rattle.variable_tables.proofs.Grows.{store_grows, lawful_grows}
use Rattle.relation_reference.proofs.context.infer_ctxt.RefCtxtInferCtxtLike.lemma_interner_grows.Goals as goal

pub returns : goal.returns
returns g c = λ cx e l.
    let x = c.args.self.now.inner in
    record {
      meaning = refl;
      store = store_grows e x l;
      lawful = lawful_grows e x l;
      rest = record { setup = refl; outliving = refl; marks = λ n. refl };
    }
