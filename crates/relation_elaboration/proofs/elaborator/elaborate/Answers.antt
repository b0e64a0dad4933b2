use Rattle.std.proofs.Common.{◌∙◌, sym, ap, subst, IsTrue, Err}
use Rattle.std.specs.List.{All}
use Rattle.std.specs.Result.{result_err}
use Rattle.relation_terms.specs.Trees.{known}
use Rattle.relation_terms.specs.Meaning.{Extends}
use Rattle.elaboration_worklist.specs.declared.faults.ElabFault.TheVariants.{Limit}
use Rattle.relation_elaboration.specs.Pulling.{ByClosure}
use Rattle.elaboration_worklist.proofs.Worklists.{fault_of, no_fault}
use Rattle.relation_elaboration.proofs.Taking.{begins_by, too_many_by}
use Rattle.relation_elaboration.proofs.elaborator.elaborate.Goals as goal

pub extend_deduped-requires : goal.extend_deduped-requires
extend_deduped-requires g c =
    subst (λ z. All (λ o. IsTrue (known (g.O.HasTree.tree (g.I.Interner.meaning z) o))) c.args.obligations.items)
    (sym c.new-elaborator.ensures.same) c.requires

pub returns-in-Ok : goal.returns-in-Ok
returns-in-Ok g c =
    let first = c.args.cx.now in
    let s = c.new-elaborator.result in
    let t = c.extend_deduped.new.self in
    let keeps = c.extend_deduped.ensures.keeps in
    let given = c.args.obligations.items in
    record {
      grown = subst (λ z. Extends (g.I.Interner.meaning z) (g.I.Interner.meaning t.cx)) c.new-elaborator.ensures.same keeps.grown;
      same_reference = keeps.reference ∙ c.new-elaborator.ensures.same_reference;
      begins = begins_by g.I.Interner.meaning g.O.HasTree.tree first s t given c.args.limit c.new-elaborator.ensures.same
          c.new-elaborator.ensures.stack c.new-elaborator.ensures.visited c.new-elaborator.ensures.limit c.new-elaborator.ensures.mode
          (c.extend_deduped.ensures.fault ∙ ap result_err c.in-Ok.is) keeps c.in-Ok.ensures.takes;
      limit = λ q. absurd (no_fault _ Limit q);
      closure = subst (λ z. ByClosure g.I.Interner.meaning g.O.HasTree.tree (g.I.Interner.meaning z) given t)
          c.new-elaborator.ensures.same (c.in-Ok.ensures.closure c.new-elaborator.ensures.stack c.new-elaborator.ensures.visited);
    }

pub returns-clause-limit : goal.returns-clause-limit
returns-clause-limit g c = λ q.
    too_many_by g.I.Interner.meaning g.O.HasTree.tree c.args.cx.now c.new-elaborator.result c.args.obligations.items c.args.limit
    c.new-elaborator.ensures.same c.new-elaborator.ensures.visited c.new-elaborator.ensures.limit c.new-elaborator.ensures.fault
    (c.extend_deduped.ensures.limit (c.in-Err.is ∙ ap (λ z. Err z) (ap fault_of q)))
