use Rattle.std.proofs.Common.{◌≡◌, ◌∙◌, ◌∷◌, ◌++◌, [], sym, ap, subst, IsTrue, true, false, map, Err}
use Rattle.std.specs.List.{All}
use Rattle.std.proofs.lemmas.List.Elements.{All-cons, All-nil}
use Rattle.relation_terms.specs.Trees.{known}
use Rattle.relation_terms.specs.Meaning.{Extends}
use Rattle.relation_terms.proofs.Stays.{extends_on}
use Rattle.elaboration_worklist.specs.declared.faults.ElabFault.TheVariants.{Limit}
use Rattle.relation_statements.specs.Runs.{AreTooMany}
use Rattle.relation_statements.specs.Children.{mode_of}
use Rattle.relation_elaboration.specs.Pulling.{ByClosure}
use Rattle.elaboration_worklist.proofs.Worklists.{fault_of, no_fault}
use Rattle.relation_elaboration.proofs.Finding.{traits_closed, one_too_many}
use Rattle.relation_elaboration.proofs.sources.supertraits.Goals as goal

pub elaborate-requires : goal.elaborate-requires
elaborate-requires g c =
    let n = g.I.Interner.meaning c.clause_of_trait_ref.new.cx in
    let k = c.in_ok-clause.clause in
    subst (All (λ o. IsTrue (known (n.clause o))))
    (sym (c.in_ok-push.ensures.items ∙ ap (λ z. z ++ k ∷ []) c.new-obligations.ensures.items))
    (All-cons (λ o. IsTrue (known (n.clause o))) k [] c.in_ok-clause.ensures.sure
    (All-nil (λ o. IsTrue (known (n.clause o)))))

pub returns-in-Ok : goal.returns-in-Ok
returns-in-Ok g c =
    let m = g.I.Interner.meaning c.args.cx.now in
    let n = g.I.Interner.meaning c.clause_of_trait_ref.new.cx in
    let k = c.in_ok-clause.clause in
    let d = c.in-Ok.elaborator in
    let e = c.new.result in
    let begins = c.in-Ok.ensures.begins in
    let items = c.in_ok-push.ensures.items ∙ ap (λ z. z ++ k ∷ []) c.new-obligations.ensures.items in
    let only : e ≡ record d { mode = mode_of true false } =
    c.new.ensures ∙ c.filter_only_self.ensures ∙ ap (λ z. record d { mode = record z { only_self = true } }) begins.mode
    in
    record {
      grown = subst (λ z. Extends m (g.I.Interner.meaning z.cx)) (sym only)
          (extends_on c.in_ok-clause.ensures.grown c.in-Ok.ensures.grown);
      same_reference = ap (λ z. z.reference) only ∙ c.in-Ok.ensures.same_reference;
      begins = record {
        limit_is = ap (λ z. z.limit) only ∙ begins.limit;
        mode = ap (λ z. z.mode) only;
        fault = ap (λ z. z.fault) only ∙ begins.fault;
      };
      limit = λ q. absurd (no_fault _ Limit q);
      closure = traits_closed g.I.Interner.meaning (g.met.I.Interner.states c.args.cx.now)
          c.in_ok-clause.ensures.grown c.args.trait_ref k c.in_ok-clause.ensures.made d e
          (subst (λ z. ByClosure g.I.Interner.meaning (λ x y. x.clause y) n z d) items c.in-Ok.ensures.closure) only;
    }

pub returns-in-Err-clause-limit : goal.returns-in-Err-clause-limit
returns-in-Err-clause-limit g c = λ q.
    let n = g.I.Interner.meaning c.clause_of_trait_ref.new.cx in
    let k = c.in_ok-clause.clause in
    let items = c.in_ok-push.ensures.items ∙ ap (λ z. z ++ k ∷ []) c.new-obligations.ensures.items in
    one_too_many (n.clause k) c.args.limit
    (subst (λ z. AreTooMany (map n.clause z) c.args.limit) items
    (c.elaborate.ensures.limit (c.in-Err.is ∙ ap (λ z. Err z) (ap fault_of q))))
