use Rattle.std.proofs.Common.{◌≡◌, sym, subst, subst₂, IsTrue}
use Rattle.relation_terms.specs.Meaning.{arg_tree}
use Rattle.relation_terms.specs.Predicates.{clause_tree}
use Rattle.relation_terms.specs.Trees.{known, list_tree}
use Rattle.relation_semantics.specs.Stores.{IsTermIn}
use Rattle.relation_proving.specs.Barring.{Bars}
use Rattle.relation_proving.specs.Bodies.{IsBodyOf}
use Rattle.relation_proving.proofs.Barred.{goal_args_known, goal_args_in, given_args_known, clause_barred}
use Rattle.relation_proving.proofs.barring.clauses_bar.Goals as goal

pub clause_body-requires : goal.clause_body-requires
clause_body-requires g c =
    subst (λ m. IsTrue (known (m.clause c.args.goal.now))) (sym c.cx-cx.ensures) c.requires.goal.is_known

pub clause_kind-form-requires : goal.clause_kind-form-requires
clause_kind-form-requires g c =
    subst (λ m. IsTrue (known (m.clause c.args.given.now))) (sym c.cx-cx.ensures) c.requires.given_known

pub args-list-requires : goal.args-list-requires
args-list-requires g c =
    let s = g.C.InferCtxtLike.state c.args.ctx.now in
    let q = c.in-Some.goal in
    let says = subst (λ m. IsBodyOf m c.args.goal.now q) c.cx-cx.ensures c.in-Some.ensures in
    let x = c.in-Some-args_of_both.left in
    subst (λ m. IsTrue (known (m.args x))) (sym c.cx-cx.ensures)
    (goal_args_known s c.args.goal.now q x c.in-Some-args_of_both.ensures.first says c.requires.goal)

pub args-others-requires : goal.args-others-requires
args-others-requires g c =
    let s = g.C.InferCtxtLike.state c.args.ctx.now in
    let b = c.clause_kind-form.result in
    let gives = subst (λ m. m.clause c.args.given.now ≡ clause_tree m b) c.cx-cx.ensures c.clause_kind-form.ensures in
    let y = c.in-Some-args_of_both.right in
    subst (λ m. IsTrue (known (m.args y))) (sym c.cx-cx.ensures)
    (given_args_known s c.args.given.now b y c.in-Some-args_of_both.ensures.second gives c.requires.given_known)

pub args_bar-requires : goal.args_bar-requires
args_bar-requires g c =
    let s = g.C.InferCtxtLike.state c.args.ctx.now in
    let q = c.in-Some.goal in
    let b = c.clause_kind-form.result in
    let x = c.in-Some-args_of_both.left in
    let y = c.in-Some-args_of_both.right in
    let says = subst (λ m. IsBodyOf m c.args.goal.now q) c.cx-cx.ensures c.in-Some.ensures in
    let gives = subst (λ m. m.clause c.args.given.now ≡ clause_tree m b) c.cx-cx.ensures c.clause_kind-form.ensures in
    let list = subst (λ m. m.args x ≡ list_tree (arg_tree m) c.args-list.result.now) c.cx-cx.ensures
    c.args-list.ensures in
    let others = subst (λ m. m.args y ≡ list_tree (arg_tree m) c.args-others.result.now) c.cx-cx.ensures
    c.args-others.ensures in
    record {
      lawful = c.requires.lawful;
      goal_known = subst (λ t. IsTrue (known t)) list
          (goal_args_known s c.args.goal.now q x c.in-Some-args_of_both.ensures.first says c.requires.goal);
      goal_in = subst (IsTermIn s.store) list
          (goal_args_in s c.args.goal.now q x c.in-Some-args_of_both.ensures.first says c.requires.goal);
      given_known = subst (λ t. IsTrue (known t)) others
          (given_args_known s c.args.given.now b y c.in-Some-args_of_both.ensures.second gives c.requires.given_known);
    }

pub returns : goal.returns
returns g c = λ yes.
    let s = g.C.InferCtxtLike.state c.args.ctx.now in
    let q = c.in-Some.goal in
    let b = c.clause_kind-form.result in
    let x = c.in-Some-args_of_both.left in
    let y = c.in-Some-args_of_both.right in
    let says = subst (λ m. IsBodyOf m c.args.goal.now q) c.cx-cx.ensures c.in-Some.ensures in
    let gives = subst (λ m. m.clause c.args.given.now ≡ clause_tree m b) c.cx-cx.ensures c.clause_kind-form.ensures in
    let list = subst (λ m. m.args x ≡ list_tree (arg_tree m) c.args-list.result.now) c.cx-cx.ensures
    c.args-list.ensures in
    let others = subst (λ m. m.args y ≡ list_tree (arg_tree m) c.args-others.result.now) c.cx-cx.ensures
    c.args-others.ensures in
    clause_barred s c.args.goal.now c.args.given.now q b x y c.in-Some-args_of_both.ensures.first
    c.in-Some-args_of_both.ensures.second says gives
    (subst₂ (Bars s) (sym list) (sym others) (c.args_bar.ensures yes))
