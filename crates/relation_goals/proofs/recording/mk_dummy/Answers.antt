use Rattle.std.proofs.Common.{◌≡◌, refl, sym, ap, ap₂, ◌∙◌, arith, subst, [], Some, IsSome}
use Rattle.std.proofs.lemmas.Grind.{common_steps}
use Rattle.relation_terms.specs.Meaning.{bound_kinds, under}
use Rattle.relation_terms.specs.Predicates.{predicate_kind_tree}
use Rattle.relation_terms.proofs.Binders.{known_under}
use Rattle.relation_terms.proofs.Members.{if_ok}
use Rattle.relation_terms.proofs.Predicates.{stays_predicate_kind}
use Rattle.relation_terms.proofs.Stays.{knows_as}
use Rattle.relation_goals.proofs.recording.mk_dummy.Goals as goal

pub mk_predicate-requires : goal.mk_predicate-requires
mk_predicate-requires g c =
    let m = g.I.Interner.meaning c.args.cx.now in
    let n = g.I.Interner.meaning c.mk_bound_vars.new.self in
    let k = c.args.kind in
    let empty : c.deref.result.now ≡ [] = grind (arith, common_steps) in
    let list : n.bound_vars c.in_ok-bound_vars.bound_vars ≡ Some [] =
    c.in_ok-bound_vars.ensures.made ∙ ap (λ xs. Some (bound_kinds m xs)) empty in
    known_under (n.bound_vars c.in_ok-bound_vars.bound_vars) (predicate_kind_tree n k) (subst (λ x. IsSome x) (sym list) refl)
    (knows_as (predicate_kind_tree m k) (predicate_kind_tree n k)
    (stays_predicate_kind c.in_ok-bound_vars.ensures.grown k c.requires) c.requires)

pub returns-clause-made : goal.returns-clause-made
returns-clause-made g c =
    let m = g.I.Interner.meaning c.args.cx.now in
    let n = g.I.Interner.meaning c.mk_bound_vars.new.self in
    let k = c.args.kind in
    let empty : c.deref.result.now ≡ [] = grind (arith, common_steps) in
    let list : n.bound_vars c.in_ok-bound_vars.bound_vars ≡ Some [] =
    c.in_ok-bound_vars.ensures.made ∙ ap (λ xs. Some (bound_kinds m xs)) empty in
    if_ok c.mk_predicate.result (λ p h. h ∙ ap₂ (λ o t. under o t) list
    (stays_predicate_kind c.in_ok-bound_vars.ensures.grown k c.requires)) c.mk_predicate.ensures.made
