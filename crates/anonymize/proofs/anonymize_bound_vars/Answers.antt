use Rattle.std.proofs.Common.{◌≡◌, refl, sym, ap, ◌∙◌, subst, map, Some, IsSome, IsTrue}
use Rattle.relation_terms.specs.Trees.{known}
use Rattle.relation_terms.specs.Meaning.{bound_kinds}
use Rattle.relation_terms.specs.Predicates.{predicate_kind_tree}
use Rattle.relation_terms.proofs.Binders.{known_under, under_known}
use Rattle.relation_terms.proofs.Predicates.{stays_predicate_kind}
use Rattle.relation_terms.proofs.Stays.{knows_as}
use Rattle.relation_terms.proofs.Members.{if_ok}
use Rattle.relation_folds.specs.Folds.{folded}
use Rattle.anonymize.specs.Anonymous.{used_vars, named, named_as, renames, anonymized}
use Rattle.anonymize.proofs.Anonymizing.{named_kinds, anonymized_under, anonymized_already}
use Rattle.anonymize.proofs.anonymize_bound_vars.Goals as goal

pub bound_vars-bound-requires : goal.bound_vars-bound-requires
bound_vars-bound-requires g c =
    let m = g.I.Interner.meaning c.args.cx.now in
    let form = c.predicate_kind-form.result in
    (under_known (m.bound_vars form.bound_vars) (predicate_kind_tree m form.value)
    (subst (λ x. IsTrue (known x)) c.predicate_kind-form.ensures c.requires)).0

-- Where nothing is bound, the predicate is the one that stands for it.
pub returns-then-binds_none-clause-made : goal.returns-then-binds_none-clause-made
returns-then-binds_none-clause-made g c =
    let m = g.I.Interner.meaning c.args.cx.now in
    let form = c.predicate_kind-form.result in
    let none = c.binds_none.ensures.0 c.if-binds_none.true in
    subst (λ x. x ≡ anonymized (m.name c.args.name) x) (sym c.predicate_kind-form.ensures)
    (anonymized_already m (m.name c.args.name) c.bound_vars-bound.result.now (m.bound_vars form.bound_vars)
    (predicate_kind_tree m form.value) c.deref.result.now
    (subst (λ x. IsTrue (known x)) c.predicate_kind-form.ensures c.requires) c.bound_vars-bound.ensures none.1
    (c.deref.ensures.value ∙ c.in_ok-used.ensures) none.0)

pub mk_predicate-requires : goal.mk_predicate-requires
mk_predicate-requires g c =
    let m = g.I.Interner.meaning c.args.cx.now in
    let n = g.I.Interner.meaning c.rename_bound_vars.new.cx in
    let o = g.I.Interner.meaning c.mk_bound_vars.new.self in
    let name = c.args.name in
    let t = predicate_kind_tree m c.predicate_kind-form.result.value in
    let used = c.in_ok-used.ensures in
    let list : o.bound_vars c.in_ok-bound_vars.bound_vars ≡ Some (map (named (m.name name)) (used_vars t)) =
    c.in_ok-bound_vars.ensures.made
    ∙ ap (λ xs. Some (bound_kinds n xs)) (c.deref-4.ensures.value ∙ c.in_ok-vars.ensures
    ∙ ap (map (named_as name)) (c.deref-3.ensures.value ∙ used))
    ∙ ap Some (named_kinds n name (used_vars t)
    ∙ ap (λ z. map (named z) (used_vars t)) (c.in_ok-value.ensures.grown.name name)) in
    let stay = stays_predicate_kind c.in_ok-bound_vars.ensures.grown c.in_ok-value.value c.in_ok-value.ensures.sure in
    known_under (o.bound_vars c.in_ok-bound_vars.bound_vars) (predicate_kind_tree o c.in_ok-value.value)
    (subst (λ x. IsSome x) (sym list) refl)
    (knows_as (predicate_kind_tree n c.in_ok-value.value) (predicate_kind_tree o c.in_ok-value.value) stay
    c.in_ok-value.ensures.sure)

pub returns-clause-made : goal.returns-clause-made
returns-clause-made g c =
    let m = g.I.Interner.meaning c.args.cx.now in
    let n = g.I.Interner.meaning c.rename_bound_vars.new.cx in
    let o = g.I.Interner.meaning c.mk_bound_vars.new.self in
    let name = c.args.name in
    let t = predicate_kind_tree m c.predicate_kind-form.result.value in
    let used = c.in_ok-used.ensures in
    let list : o.bound_vars c.in_ok-bound_vars.bound_vars ≡ Some (map (named (m.name name)) (used_vars t)) =
    c.in_ok-bound_vars.ensures.made
    ∙ ap (λ xs. Some (bound_kinds n xs)) (c.deref-4.ensures.value ∙ c.in_ok-vars.ensures
    ∙ ap (map (named_as name)) (c.deref-3.ensures.value ∙ used))
    ∙ ap Some (named_kinds n name (used_vars t)
    ∙ ap (λ z. map (named z) (used_vars t)) (c.in_ok-value.ensures.grown.name name)) in
    let stay = stays_predicate_kind c.in_ok-bound_vars.ensures.grown c.in_ok-value.value c.in_ok-value.ensures.sure in
    let body = stay ∙ c.in_ok-value.ensures.made
    ∙ ap (λ xs. folded (renames (m.name name) xs) 0 t) (c.deref-2.ensures.value ∙ used) in
    let whole = anonymized_under (m.name name) (m.bound_vars c.predicate_kind-form.result.bound_vars)
    (o.bound_vars c.in_ok-bound_vars.bound_vars) t (predicate_kind_tree o c.in_ok-value.value)
    (subst (λ x. IsTrue (known x)) c.predicate_kind-form.ensures c.requires) list body in
    if_ok c.mk_predicate.result (λ k h. h ∙ whole ∙ ap (anonymized (m.name name)) (sym c.predicate_kind-form.ensures))
    c.mk_predicate.ensures.made
