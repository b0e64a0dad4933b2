use Rattle.std.proofs.Common.{IsTrue, map, take}
use Rattle.relation_terms.specs.Trees.{known, list_tree}
use Rattle.relation_terms.specs.Meaning.{Extends, arg_tree}
use Rattle.relation_semantics.specs.ContextCalls.{KeepsRest}
use Rattle.relation_semantics.specs.Binders.{kinds_in, MakesEach}
use Rattle.variable_tables.specs.Tables.{IsLawful}
use Rattle.relation_reference.specs.RefCtxt.{store_in, context_in}
use Rattle.relation_reference.proofs.context.variables.RefCtxt.next_args_infer.Given as goal

abbrev pub invariant-loop-place : goal.invariant-loop-place
invariant-loop-place g l =
    let meaning = g.I.Interner.meaning in
    let m = meaning l.fn.self.interner in
    let n = meaning l.self.interner in
    record {
      lawful : IsLawful n l.self.inner;
      grown : Extends m n;
      sure : IsTrue (known (list_tree (arg_tree n) l.args.items));
      makes : MakesEach (l.fn.self.inner.universe).0 (store_in meaning l.fn.self)
          (take l.place (kinds_in (m.bound_vars l.bound_vars))) (map (arg_tree n) l.args.items)
          (store_in meaning l.self);
      rest : KeepsRest (context_in meaning l.fn.self) (context_in meaning l.self);
    }
