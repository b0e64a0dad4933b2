use Rattle.std.proofs.Common.{◌≡◌, sym, ◌∙◌, subst, IsTrue}
use Rattle.std.proofs.lemmas.Bool.{false≢true}
use Rattle.relation_terms.specs.Trees.{known}
use Rattle.relation_semantics.specs.ContextCalls.{Reads, BindingsAreWellBound}
use Rattle.relation_semantics.specs.Parts.{IsFormedConst}
use Rattle.relation_semantics.specs.Resolving.{IsShallowConst}
use Rattle.relation_semantics.specs.Stores.{IsSound}
use Rattle.relation_combining.specs.Combining.{resolved_first}
use Rattle.relation_combining.proofs.Combining.{read_asked, read_there, one_const_step}
use Rattle.relation_combining.proofs.Shallowly.{read_step, shallow_const_free}
use Rattle.relation_steps.proofs.Sorted.{one_const}
use Rattle.relation_combining.proofs.combine.super_combine_consts.Goals as goal

pub returns-then-eq-clause-stepped : goal.returns-then-eq-clause-stepped
returns-then-eq-clause-stepped g c =
    let x = c.args.relation.now in
    let r = g.R.HasState.state x in
    let o = g.met.R.PredicateEmittingRelation.over x in
    let y = g.R.PredicateEmittingRelation.context x in
    let s = g.Infcx.InferCtxtLike.state y in
    let a = c.args.a.now in
    let b = c.args.b.now in
    let cx = g.Infcx.InferCtxtLike.interner y in
    let of = g.met.Infcx.InferCtxtLike.reads y in
    let k = c.requires.asked in
    one_const_step r a b k.left_known (one_const (o.meaning ∙ of) a b (λ h i.
    (g.met.Infcx.Interner.Interner.same_const cx a b h i).0 (sym c.if-eq.ensures)) k.left_known k.right_known)

pub combine_shallow-requires : goal.combine_shallow-requires
combine_shallow-requires g c =
    let x = c.args.relation.now in
    let r = g.R.HasState.state x in
    let o = g.met.R.PredicateEmittingRelation.over x in
    let y = g.R.PredicateEmittingRelation.context x in
    let s = g.Infcx.InferCtxtLike.state y in
    let a = c.args.a.now in
    let b = c.args.b.now in
    let cx = g.Infcx.InferCtxtLike.interner y in
    let of = g.met.Infcx.InferCtxtLike.reads y in
    let lawful = o.lawful c.requires.lawful in
    let l = c.shallow_resolve_const-left.result in
    let t = c.shallow_resolve_const-right.result in
    let left = read_there o a l (subst (λ z. let m = (g.Infcx.InferCtxtLike.state z) in
    Reads m ((m.meaning).const_ a) ((m.meaning).const_ l)) c.infcx.ensures c.shallow_resolve_const-left.ensures.reads)
    (subst (λ z. let m = (g.Infcx.InferCtxtLike.state z) in IsShallowConst m.store ((m.meaning).const_ l)) c.infcx.ensures
    c.shallow_resolve_const-left.ensures.shallow) in
    let right = read_there o b t (subst (λ z. let m = (g.Infcx.InferCtxtLike.state z) in
    Reads m ((m.meaning).const_ b) ((m.meaning).const_ t)) c.infcx-2.ensures c.shallow_resolve_const-right.ensures.reads)
    (subst (λ z. let m = (g.Infcx.InferCtxtLike.state z) in IsShallowConst m.store ((m.meaning).const_ t)) c.infcx-2.ensures
    c.shallow_resolve_const-right.ensures.shallow) in
    record {
      lawful = c.requires.lawful;
      decides = c.requires.decides;
      asked = read_asked r (subst BindingsAreWellBound (sym o.store) (g.met.Infcx.InferCtxtLike.bound_by_lists y lawful)) a b
          l t c.requires.asked left right;
      a_shallow = left.shallow;
      b_shallow = right.shallow;
    }

pub returns-clause-stepped : goal.returns-clause-stepped
returns-clause-stepped g c =
    let x = c.args.relation.now in
    let r = g.R.HasState.state x in
    let o = g.met.R.PredicateEmittingRelation.over x in
    let y = g.R.PredicateEmittingRelation.context x in
    let s = g.Infcx.InferCtxtLike.state y in
    let a = c.args.a.now in
    let b = c.args.b.now in
    let cx = g.Infcx.InferCtxtLike.interner y in
    let of = g.met.Infcx.InferCtxtLike.reads y in
    let lawful = o.lawful c.requires.lawful in
    let sound = g.met.Infcx.InferCtxtLike.sound y lawful in
    let l = c.shallow_resolve_const-left.result in
    let t = c.shallow_resolve_const-right.result in
    let left = read_there o a l (subst (λ z. let m = (g.Infcx.InferCtxtLike.state z) in
    Reads m ((m.meaning).const_ a) ((m.meaning).const_ l)) c.infcx.ensures c.shallow_resolve_const-left.ensures.reads)
    (subst (λ z. let m = (g.Infcx.InferCtxtLike.state z) in IsShallowConst m.store ((m.meaning).const_ l)) c.infcx.ensures
    c.shallow_resolve_const-left.ensures.shallow) in
    let right = read_there o b t (subst (λ z. let m = (g.Infcx.InferCtxtLike.state z) in
    Reads m ((m.meaning).const_ b) ((m.meaning).const_ t)) c.infcx-2.ensures c.shallow_resolve_const-right.ensures.reads)
    (subst (λ z. let m = (g.Infcx.InferCtxtLike.state z) in IsShallowConst m.store ((m.meaning).const_ t)) c.infcx-2.ensures
    c.shallow_resolve_const-right.ensures.shallow) in
    let q = g.R.HasState.state c.combine_shallow.new.relation in
    read_step r q (subst IsSound (sym o.store) sound) ((r.meaning).const_ a) ((r.meaning).const_ b) ((r.meaning).const_ l)
    ((r.meaning).const_ t) left.reads.reads right.reads.reads (shallow_const_free r.store ((r.meaning).const_ l) left.shallow)
    (shallow_const_free r.store ((r.meaning).const_ t) right.shallow) IsFormedConst (q.meaning).const_ c.combine_shallow.result
    c.combine_shallow.ensures.stepped

pub returns-clause-combines : goal.returns-clause-combines
returns-clause-combines g c =
    let x = c.args.relation.now in
    let r = g.R.HasState.state x in
    let o = g.met.R.PredicateEmittingRelation.over x in
    let y = g.R.PredicateEmittingRelation.context x in
    let s = g.Infcx.InferCtxtLike.state y in
    let a = c.args.a.now in
    let b = c.args.b.now in
    let cx = g.Infcx.InferCtxtLike.interner y in
    let of = g.met.Infcx.InferCtxtLike.reads y in
    let lawful = o.lawful c.requires.lawful in
    let l = c.shallow_resolve_const-left.result in
    let t = c.shallow_resolve_const-right.result in
    let left = read_there o a l (subst (λ z. let m = (g.Infcx.InferCtxtLike.state z) in
    Reads m ((m.meaning).const_ a) ((m.meaning).const_ l)) c.infcx.ensures c.shallow_resolve_const-left.ensures.reads)
    (subst (λ z. let m = (g.Infcx.InferCtxtLike.state z) in IsShallowConst m.store ((m.meaning).const_ l)) c.infcx.ensures
    c.shallow_resolve_const-left.ensures.shallow) in
    let right = read_there o b t (subst (λ z. let m = (g.Infcx.InferCtxtLike.state z) in
    Reads m ((m.meaning).const_ b) ((m.meaning).const_ t)) c.infcx-2.ensures c.shallow_resolve_const-right.ensures.reads)
    (subst (λ z. let m = (g.Infcx.InferCtxtLike.state z) in IsShallowConst m.store ((m.meaning).const_ t)) c.infcx-2.ensures
    c.shallow_resolve_const-right.ensures.shallow) in
    let k = c.requires.asked in
    let e = o.meaning ∙ of in
    resolved_first l t (λ d. false≢true (c.if-eq.ensures ∙ (g.met.Infcx.Interner.Interner.same_const cx a b
    (subst (λ z. IsTrue (known (z.const_ a))) e k.left_known)
    (subst (λ z. IsTrue (known (z.const_ b))) e k.right_known)).1 (subst (λ z. z.const_ a ≡ z.const_ b) e d)))
    left right c.combine_shallow.ensures.combines
