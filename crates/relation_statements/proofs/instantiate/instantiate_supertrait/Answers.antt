use Rattle.std.proofs.Common.{◌≡◌, ◌∙◌, ◌++◌, ap, sym, subst, length, IsSome, IsTrue, Some, refl}
use Rattle.relation_terms.specs.Trees.{known}
use Rattle.relation_terms.specs.Meaning.{bound_kinds}
use Rattle.relation_terms.specs.Predicates.{clause_kind_tree}
use Rattle.relation_terms.proofs.Binders.{under_known, known_under}
use Rattle.relation_terms.proofs.Predicates.{stays_clause_kind}
use Rattle.relation_terms.proofs.Members.{if_ok}
use Rattle.relation_statements.specs.Stated.{stated_of}
use Rattle.relation_statements.proofs.Instantiating.{held_list, some_list, no_list, kinds_length, same_list}
use Rattle.relation_statements.proofs.Instantiating.{stated_under}
use Rattle.relation_statements.proofs.instantiate.instantiate_supertrait.Goals as goal

-- Where nothing is bound around the trait reference, the clause keeps its list.
pub returns-then-outer-eq0-clause-made : goal.returns-then-outer-eq0-clause-made
returns-then-outer-eq0-clause-made g c =
    let m = g.I.Interner.meaning c.args.cx.now in
    let n = g.I.Interner.meaning c.fold_with.new.cx in
    let form = c.clause_kind-form.result in
    let b = c.args.trait_ref.now in
    let args = m.args (b.value).args in
    let t = clause_kind_tree m form.value in
    let v = c.in_ok-value.value in
    let e = c.in_ok-value.ensures.steps.grown in
    let own = (under_known (m.bound_vars form.bound_vars) t
    (subst (λ z. IsTrue (known z)) c.clause_kind-form.ensures c.requires.clause)).0 in
    let ls = held_list (m.bound_vars form.bound_vars) in
    let there = some_list (m.bound_vars form.bound_vars) own in
    if_ok c.mk_clause.result (λ k h ks given.
    let outer : length ks ≡ length c.bound_vars-outer.result.now =
    ap length (same_list ks (bound_kinds m c.bound_vars-outer.result.now) (sym given ∙ c.bound_vars-outer.ensures))
    ∙ kinds_length m c.bound_vars-outer.result.now in
    let list : n.bound_vars form.bound_vars ≡ Some (ks ++ ls) =
    e.bound_vars form.bound_vars own ∙ there
    ∙ ap (λ z. Some (z ++ ls)) (no_list ks (outer ∙ c.if-outer-eq0.true)) in
    h ∙ stated_under ks ls args (n.bound_vars form.bound_vars) (m.bound_vars form.bound_vars) t
    (clause_kind_tree n v) (length c.bound_vars-outer.result.now) there list (sym outer) c.in_ok-value.ensures.made
    ∙ ap (stated_of ks args) (sym c.clause_kind-form.ensures)) c.mk_clause.ensures.made

pub joined_vars-requires-clause-second : goal.joined_vars-requires-clause-second
joined_vars-requires-clause-second g c =
    let m = g.I.Interner.meaning c.args.cx.now in
    let form = c.clause_kind-form.result in
    let own = (under_known (m.bound_vars form.bound_vars) (clause_kind_tree m form.value)
    (subst (λ z. IsTrue (known z)) c.clause_kind-form.ensures c.requires.clause)).0 in
    subst IsSome (sym (c.in_ok-value.ensures.steps.grown.bound_vars form.bound_vars own)) own

pub mk_clause-requires-2 : goal.mk_clause-requires-2
mk_clause-requires-2 g c =
    let o = g.I.Interner.meaning c.mk_bound_vars.new.self in
    let v = c.in_ok-value.value in
    let sure = c.in_ok-value.ensures.sure in
    known_under (o.bound_vars c.in_ok-bound_vars.bound_vars) (clause_kind_tree o v)
    (subst IsSome (sym c.in_ok-bound_vars.ensures.made) refl)
    (subst (λ z. IsTrue (known z)) (sym (stays_clause_kind c.in_ok-bound_vars.ensures.grown v sure)) sure)

pub returns-clause-made : goal.returns-clause-made
returns-clause-made g c =
    let m = g.I.Interner.meaning c.args.cx.now in
    let n = g.I.Interner.meaning c.fold_with.new.cx in
    let o = g.I.Interner.meaning c.mk_bound_vars.new.self in
    let form = c.clause_kind-form.result in
    let b = c.args.trait_ref.now in
    let args = m.args (b.value).args in
    let t = clause_kind_tree m form.value in
    let v = c.in_ok-value.value in
    let e = c.in_ok-value.ensures.steps.grown in
    let own = (under_known (m.bound_vars form.bound_vars) t
    (subst (λ z. IsTrue (known z)) c.clause_kind-form.ensures c.requires.clause)).0 in
    let ls = held_list (m.bound_vars form.bound_vars) in
    let there = some_list (m.bound_vars form.bound_vars) own in
    let body = stays_clause_kind c.in_ok-bound_vars.ensures.grown v c.in_ok-value.ensures.sure
    ∙ c.in_ok-value.ensures.made in
    if_ok c.mk_clause-2.result (λ k h ks given.
    let outer : length ks ≡ length c.bound_vars-outer.result.now =
    ap length (same_list ks (bound_kinds m c.bound_vars-outer.result.now) (sym given ∙ c.bound_vars-outer.ensures))
    ∙ kinds_length m c.bound_vars-outer.result.now in
    let list : o.bound_vars c.in_ok-bound_vars.bound_vars ≡ Some (ks ++ ls) =
    c.in_ok-bound_vars.ensures.made ∙ ap (λ xs. Some (bound_kinds n xs)) c.deref.ensures.value
    ∙ ap (λ z. Some z) (c.in_ok-vars.ensures ks ls
    (e.bound_vars b.bound_vars (subst IsSome (sym given) refl) ∙ given)
    (e.bound_vars form.bound_vars own ∙ there)) in
    h ∙ stated_under ks ls args (o.bound_vars c.in_ok-bound_vars.bound_vars) (m.bound_vars form.bound_vars) t
    (clause_kind_tree o v) (length c.bound_vars-outer.result.now) there list (sym outer) body
    ∙ ap (stated_of ks args) (sym c.clause_kind-form.ensures)) c.mk_clause-2.ensures.made
