use Rattle.std.proofs.Common.{◌≡◌, sym, subst, IsTrue}
use Rattle.std.specs.Prelude.{◌↔◌}
use Rattle.relation_terms.specs.Interning.{Sorted}
use Rattle.relation_terms.specs.Meaning.{arg_tree, kind_tree}
use Rattle.relation_terms.specs.Trees.{known}
use Rattle.relation_semantics.specs.Stores.{IsTermIn}
use Rattle.relation_semantics.proofs.Variables.{some_variable, no_type_variable}
use Rattle.relation_proving.specs.Ordering.{ComesToVariable}
use Rattle.relation_proving.proofs.Ordered.{type_is_open, shut_arg}
use Rattle.relation_proving.proofs.ordering.is_open.Goals as goal

pub shallow_resolve-read-requires : goal.shallow_resolve-read-requires
shallow_resolve-read-requires g c =
    let s = g.C.InferCtxtLike.state c.args.ctx.now in
    let f = arg_tree s.meaning in
    record {
      lawful = c.requires.lawful;
      ty_known = subst (λ a. IsTrue (known (f a))) c.in-Ty.is c.requires.arg_known;
      ty_in = subst (λ a. IsTermIn s.store (f a)) c.in-Ty.is c.requires.arg_in;
    }

pub ty_kind-requires : goal.ty_kind-requires
ty_kind-requires g c =
    subst (λ m. IsTrue (known (m.ty c.shallow_resolve-read.result))) (sym c.cx-cx.ensures)
    c.shallow_resolve-read.ensures.reads.sure

pub returns-in-Ty : goal.returns-in-Ty
returns-in-Ty g c =
    let s = g.C.InferCtxtLike.state c.args.ctx.now in
    let m = s.meaning in
    let k = c.ty_kind.result in
    let u = m.ty c.shallow_resolve-read.result in
    let o = c.ty_vid.result in
    let has : u ≡ kind_tree m k = subst (λ n. n.ty c.shallow_resolve-read.result ≡ kind_tree n k) c.cx-cx.ensures
    c.ty_kind.ensures in
    subst (λ a. IsTrue c.is_some.result ↔ ComesToVariable s (arg_tree m a)) (sym c.in-Ty.is)
    (type_is_open s (m.ty c.in-Ty.ty) u c.shallow_resolve-read.ensures.reads.resolves c.shallow_resolve-read.ensures.shallow o
    (some_variable m k u has o c.ty_vid.ensures.is) (no_type_variable m k u has o c.ty_vid.ensures.is_none)
    c.is_some.result c.is_some.ensures)

pub returns-in-Const : goal.returns-in-Const
returns-in-Const g c =
    let s = g.C.InferCtxtLike.state c.args.ctx.now in
    let sorted : Sorted s.meaning = subst Sorted (sym (g.met.C.InferCtxtLike.reads c.args.ctx.now))
    (g.met.C.Interner.Interner.sorted (g.C.InferCtxtLike.interner c.args.ctx.now)) in
    shut_arg s (g.met.C.InferCtxtLike.sound c.args.ctx.now c.requires.lawful) sorted c.args.arg.now
    c.requires.arg_known c.in-Const.is

pub returns-in-Const-2 : goal.returns-in-Const-2
returns-in-Const-2 g c =
    let s = g.C.InferCtxtLike.state c.args.ctx.now in
    let sorted : Sorted s.meaning = subst Sorted (sym (g.met.C.InferCtxtLike.reads c.args.ctx.now))
    (g.met.C.Interner.Interner.sorted (g.C.InferCtxtLike.interner c.args.ctx.now)) in
    shut_arg s (g.met.C.InferCtxtLike.sound c.args.ctx.now c.requires.lawful) sorted c.args.arg.now
    c.requires.arg_known c.in-Const.is
