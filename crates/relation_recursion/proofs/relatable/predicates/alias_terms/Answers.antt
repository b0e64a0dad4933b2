use Rattle.std.proofs.Common.{refl, sym, subst}
use Rattle.relation_terms.specs.Heads.{argument_sort, alias_term}
use Rattle.relation_terms.specs.Trees.{node}
use Rattle.relation_terms.specs.Interning.{Sorted}
use Rattle.relation_terms.specs.Predicates.{alias_term_kind, alias_term_id, alias_term_tree}
use Rattle.relation_folds.specs.declared.error.RelateFault.TheVariants.{Unrelated}
use Rattle.relation_semantics.specs.Lawful.{Related}
use Rattle.relation_semantics.proofs.Passing.{as_err}
use Rattle.relation_semantics.proofs.Retelling.{refused_again, retold}
use Rattle.relation_recursion.specs.Comparing.{AliasTermsDiffer, AreOfOneAliasTerm}
use Rattle.relation_recursion.proofs.Items.{items_differ, asked_over}
use Rattle.relation_recursion.proofs.relatable.predicates.alias_terms.Goals as goal
use Rattle.relation_terms.proofs.Members.{terms_list}

pub returns-in_err-compare_alias_terms-clause-related : goal.returns-in_err-compare_alias_terms-clause-related
returns-in_err-compare_alias_terms-clause-related g c =
    let r = g.R.HasState.state c.args.r.now in
    let M = g.R.TypeRelation.manner in
    let m = r.meaning in
    let a = c.args.a.now in
    let b = c.args.b.now in
    let k = c.requires.asked in
    let sorted : Sorted m =
    subst (λ m. Sorted m) (sym (g.met.R.TypeRelation.reads c.args.r.now))
    (g.met.I.Interner.sorted (g.R.TypeRelation.interner c.args.r.now)) in
    let n = c.in_err-compare_alias_terms in
    let failed = as_err c.from_residual.result (Unrelated n.field-0.0) c.from_residual.ensures.0 c.from_residual.ensures.1 in
    subst (Related M r r r.ambient (alias_term_tree m a) (alias_term_tree m b) (alias_term_tree m)) (sym failed)
    (items_differ M r r.ambient (alias_term_tree m) (alias_term (alias_term_kind a.kind) (m.id (alias_term_id a.kind))) (alias_term (alias_term_kind b.kind) (m.id (alias_term_id b.kind)))
    (m.args a.args) (m.args b.args) n.field-0.0 c.requires.decides (λ xs o. o) (λ xs o. o)
    (terms_list argument_sort (m.args a.args) (sorted.args a.args k.left_known))
    (terms_list argument_sort (m.args b.args) (sorted.args b.args k.right_known)) (subst (λ m. AliasTermsDiffer m a b n.field-0.0) c.cx.ensures
    (n.ensures).errors))

pub relate_args-requires-clause-asked : goal.relate_args-requires-clause-asked
relate_args-requires-clause-asked g c =
    let r = g.R.HasState.state c.args.r.now in
    let m = r.meaning in
    let a = c.args.a.now in
    let b = c.args.b.now in
    asked_over g.R.TypeRelation.manner r r.ambient (alias_term (alias_term_kind a.kind) (m.id (alias_term_id a.kind))) (alias_term (alias_term_kind b.kind) (m.id (alias_term_id b.kind)))
    (m.args a.args) (m.args b.args) c.requires.asked

pub relate_args-requires-clause-as_many : goal.relate_args-requires-clause-as_many
relate_args-requires-clause-as_many g c = (subst (λ m. AreOfOneAliasTerm m c.args.a.now c.args.b.now) c.cx.ensures (c.in_ok-compare_alias_terms.ensures).alike).1

pub returns-in_err-args-clause-related : goal.returns-in_err-args-clause-related
returns-in_err-args-clause-related g c =
    let r = g.R.HasState.state c.args.r.now in
    let q = g.R.HasState.state c.relate_args.new.r in
    let M = g.R.TypeRelation.manner in
    let m = r.meaning in
    let a = alias_term_tree m c.args.a.now in
    let b = alias_term_tree m c.args.b.now in
    let n = c.in_err-args in
    let h = alias_term (alias_term_kind c.args.b.now.kind) (m.id (alias_term_id c.args.b.now.kind)) in
    let failed = as_err c.from_residual-in_err-args.result n.field-0.0 c.from_residual-in_err-args.ensures.0
    c.from_residual-in_err-args.ensures.1 in
    subst (Related M r q r.ambient a b (alias_term_tree q.meaning)) (sym failed)
    (refused_again M r.ambient a b (λ k. node (alias_term (alias_term_kind c.args.a.now.kind) ((q.meaning).id (alias_term_id c.args.a.now.kind))) ((q.meaning).args k))
    (alias_term_tree q.meaning) n.field-0.0 (n.ensures h (subst (λ m. AreOfOneAliasTerm m c.args.a.now c.args.b.now) c.cx.ensures (c.in_ok-compare_alias_terms.ensures).alike).0))

pub returns-clause-related : goal.returns-clause-related
returns-clause-related g c =
    let r = g.R.HasState.state c.args.r.now in
    let q = g.R.HasState.state c.relate_args.new.r in
    let M = g.R.TypeRelation.manner in
    let m = r.meaning in
    let a = alias_term_tree m c.args.a.now in
    let b = alias_term_tree m c.args.b.now in
    let n = c.in_ok-args in
    let h = alias_term (alias_term_kind c.args.b.now.kind) (m.id (alias_term_id c.args.b.now.kind)) in
    retold M r.ambient a b (λ k. node (alias_term (alias_term_kind c.args.a.now.kind) ((q.meaning).id (alias_term_id c.args.a.now.kind))) ((q.meaning).args k)) n.args
    (alias_term_tree q.meaning) (record { kind = c.args.a.now.kind; args = n.args }) refl
    (n.ensures h (subst (λ m. AreOfOneAliasTerm m c.args.a.now c.args.b.now) c.cx.ensures (c.in_ok-compare_alias_terms.ensures).alike).0)
