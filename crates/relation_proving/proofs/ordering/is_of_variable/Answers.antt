use Rattle.std.proofs.Common.{◌≡◌, ◌<◌, sym, subst, length, IsTrue, arith}
use Rattle.relation_terms.specs.Meaning.{arg_tree}
use Rattle.relation_terms.specs.Trees.{known, list_tree}
use Rattle.relation_semantics.specs.Stores.{IsTermIn}
use Rattle.relation_proving.specs.Bodies.{IsBodyOf}
use Rattle.relation_proving.proofs.Barred.{goal_args_known, goal_args_in}
use Rattle.relation_proving.proofs.OpenedRules.{each_known, each_in}
use Rattle.relation_proving.proofs.Ordered.{of_args}
use Rattle.relation_proving.proofs.ordering.is_of_variable.Goals as goal

pub clause_body-requires : goal.clause_body-requires
clause_body-requires g c =
    subst (λ m. IsTrue (known (m.clause c.args.goal.now))) (sym c.cx-cx.ensures) c.requires.goal.is_known

pub args-list-requires : goal.args-list-requires
args-list-requires g c =
    let s = g.C.InferCtxtLike.state c.args.ctx.now in
    let q = c.in-Some.body in
    let says = subst (λ m. IsBodyOf m c.args.goal.now q) c.cx-cx.ensures c.in-Some.ensures in
    let x = c.in-Some-args_of.args in
    subst (λ m. IsTrue (known (m.args x))) (sym c.cx-cx.ensures)
    (goal_args_known s c.args.goal.now q x (sym c.in-Some-args_of.ensures) says c.requires.goal)

pub is_open-requires : goal.is_open-requires
is_open-requires g c =
    let s = g.C.InferCtxtLike.state c.args.ctx.now in
    let f = arg_tree s.meaning in
    let q = c.in-Some.body in
    let says = subst (λ m. IsBodyOf m c.args.goal.now q) c.cx-cx.ensures c.in-Some.ensures in
    let x = c.in-Some-args_of.args in
    let list = subst (λ m. m.args x ≡ list_tree (arg_tree m) c.args-list.result.now) c.cx-cx.ensures
    c.args-list.ensures in
    let y = c.index-list-0.result in
    let some : 0 < length c.args-list.result.now = search arith in
    record {
      lawful = c.requires.lawful;
      arg_known = subst (λ k. IsTrue (known (f k))) (sym c.index-list-0.is)
          (each_known f c.args-list.result.now (subst (λ t. IsTrue (known t)) list
          (goal_args_known s c.args.goal.now q x (sym c.in-Some-args_of.ensures) says c.requires.goal)) 0 y some);
      arg_in = subst (λ k. IsTermIn s.store (f k)) (sym c.index-list-0.is)
          (each_in f s.store c.args-list.result.now (subst (IsTermIn s.store) list
          (goal_args_in s c.args.goal.now q x (sym c.in-Some-args_of.ensures) says c.requires.goal)) 0 y some);
    }

pub returns-then-not-is_empty : goal.returns-then-not-is_empty
returns-then-not-is_empty g c =
    let s = g.C.InferCtxtLike.state c.args.ctx.now in
    let q = c.in-Some.body in
    let says = subst (λ m. IsBodyOf m c.args.goal.now q) c.cx-cx.ensures c.in-Some.ensures in
    let x = c.in-Some-args_of.args in
    let list = subst (λ m. m.args x ≡ list_tree (arg_tree m) c.args-list.result.now) c.cx-cx.ensures
    c.args-list.ensures in
    let some : 0 < length c.args-list.result.now = search arith in
    of_args s c.args.goal.now q x says (sym c.in-Some-args_of.ensures) c.args-list.result.now list c.index-list-0.result some
    c.index-list-0.is c.is_open.result c.is_open.ensures
