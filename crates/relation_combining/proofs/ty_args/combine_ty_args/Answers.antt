use Rattle.std.proofs.Common.{◌≡◌, ◌⊎◌, ◌↔◌, ap, ap₂, ◌∙◌, sym, subst, subst₂, [], ◌∷◌, All, IsTrue, map, Ok}
use Rattle.std.proofs.lemmas.Bool.{false≢true}
use Rattle.relation_terms.specs.Trees.{known}
use Rattle.relation_folds.specs.declared.error.RelateFault.TheVariants.{Memory}
use Rattle.relation_semantics.specs.ContextCalls.{Grows}
use Rattle.relation_steps.specs.Bivariance.{HasOpenArgument}
use Rattle.relation_semantics.specs.Goals.{well_formed_predicate}
use Rattle.relation_semantics.specs.Lawful.{OnlyMemory, items_of}
use Rattle.relation_semantics.specs.Stores.{IsSound, IsTermIn}
use Rattle.relation_combining.proofs.Bivariance.{over_in, registers_none}
use Rattle.relation_combining.proofs.EmittingBoth.{both_known, both_registered, listed_known, noted_both}
use Rattle.relation_combining.proofs.Noting.{noted_with, noted_then, over_extends, over_with, with_meaning}
use Rattle.relation_semantics.proofs.Passing.{as_err}
use Rattle.relation_combining.proofs.ty_args.combine_ty_args.Goals as goal
use Rattle.relation_semantics.proofs.Going.{later_same}

pub have_open_argument-requires-clause-a_in : goal.have_open_argument-requires-clause-a_in
have_open_argument-requires-clause-a_in g c =
    let x = c.args.r.now in
    let r = g.R.HasState.state x in
    let o = g.met.R.PredicateEmittingRelation.over x in
    let s = g.Infcx.InferCtxtLike.state (g.R.PredicateEmittingRelation.context x) in
    let m = r.meaning in
    let both = over_in r.store (m.id c.args.def_id.now.0) (m.ty c.args.a_ty.now) (m.ty c.args.b_ty.now)
    (m.args c.args.a_args.now) (m.args c.args.b_args.now) c.requires.over c.requires.a_in c.requires.b_in in
    subst (λ z. IsTermIn (g.Infcx.InferCtxtLike.state z).store (((g.Infcx.InferCtxtLike.state z).meaning).args
    c.args.a_args.now)) (sym c.infcx_mut.ensures.value) (subst₂ (λ st n. IsTermIn st (n.args c.args.a_args.now)) o.store
    o.meaning both.0)

pub have_open_argument-requires-clause-b_in : goal.have_open_argument-requires-clause-b_in
have_open_argument-requires-clause-b_in g c =
    let x = c.args.r.now in
    let r = g.R.HasState.state x in
    let o = g.met.R.PredicateEmittingRelation.over x in
    let s = g.Infcx.InferCtxtLike.state (g.R.PredicateEmittingRelation.context x) in
    let m = r.meaning in
    let both = over_in r.store (m.id c.args.def_id.now.0) (m.ty c.args.a_ty.now) (m.ty c.args.b_ty.now)
    (m.args c.args.a_args.now) (m.args c.args.b_args.now) c.requires.over c.requires.a_in c.requires.b_in in
    subst (λ z. IsTermIn (g.Infcx.InferCtxtLike.state z).store (((g.Infcx.InferCtxtLike.state z).meaning).args
    c.args.b_args.now)) (sym c.infcx_mut.ensures.value) (subst₂ (λ st n. IsTermIn st (n.args c.args.b_args.now)) o.store
    o.meaning both.1)

pub returns-in_err-have_open_argument-clause-noted : goal.returns-in_err-have_open_argument-clause-noted
returns-in_err-have_open_argument-clause-noted g c =
    let x = c.args.r.now in
    let r = g.R.HasState.state x in
    let o = g.met.R.PredicateEmittingRelation.over x in
    let s = g.Infcx.InferCtxtLike.state (g.R.PredicateEmittingRelation.context x) in
    let y = g.R.PredicateEmittingRelation.with_context x c.have_open_argument.new.infcx in
    let q = g.R.HasState.state y in
    let d = g.Infcx.InferCtxtLike.state c.have_open_argument.new.infcx in
    let f = c.in_err-have_open_argument.ensures in
    let grows = subst (λ z. Grows (g.Infcx.InferCtxtLike.state z) d) c.infcx_mut.ensures.value f.grows in
    let same = subst (λ z. d.store ≡ (g.Infcx.InferCtxtLike.state z).store) c.infcx_mut.ensures.value f.same_record in
    let w = with_meaning o (c.lemma_context_grows.ensures c.have_open_argument.new.infcx grows (later_same _ _ same)
    c.requires.lawful) same in
    let res = c.from_residual.result in
    noted_with (over_extends r q s d o grows w) (over_with r q s d o grows w) res
    (subst OnlyMemory (sym (as_err res Memory c.from_residual.ensures.0 c.from_residual.ensures.1)) tt)

pub returns-then-not-branch-clause-noted : goal.returns-then-not-branch-clause-noted
returns-then-not-branch-clause-noted g c =
    let x = c.args.r.now in
    let r = g.R.HasState.state x in
    let o = g.met.R.PredicateEmittingRelation.over x in
    let s = g.Infcx.InferCtxtLike.state (g.R.PredicateEmittingRelation.context x) in
    let y = g.R.PredicateEmittingRelation.with_context x c.have_open_argument.new.infcx in
    let q = g.R.HasState.state y in
    let d = g.Infcx.InferCtxtLike.state c.have_open_argument.new.infcx in
    let f = c.in_ok-have_open_argument.ensures in
    let grows = subst (λ z. Grows (g.Infcx.InferCtxtLike.state z) d) c.infcx_mut.ensures.value f.grows in
    let same = subst (λ z. d.store ≡ (g.Infcx.InferCtxtLike.state z).store) c.infcx_mut.ensures.value f.same_record in
    let w = with_meaning o (c.lemma_context_grows.ensures c.have_open_argument.new.infcx grows (later_same _ _ same)
    c.requires.lawful) same in
    noted_with (over_extends r q s d o grows w) (over_with r q s d o grows w) (Ok (tt {0})) tt

pub returns-in_err-predicates-clause-noted : goal.returns-in_err-predicates-clause-noted
returns-in_err-predicates-clause-noted g c =
    let x = c.args.r.now in
    let r = g.R.HasState.state x in
    let o = g.met.R.PredicateEmittingRelation.over x in
    let s = g.Infcx.InferCtxtLike.state (g.R.PredicateEmittingRelation.context x) in
    let y = g.R.PredicateEmittingRelation.with_context x c.have_open_argument.new.infcx in
    let q = g.R.HasState.state y in
    let d = g.Infcx.InferCtxtLike.state c.have_open_argument.new.infcx in
    let f = c.in_ok-have_open_argument.ensures in
    let grows = subst (λ z. Grows (g.Infcx.InferCtxtLike.state z) d) c.infcx_mut.ensures.value f.grows in
    let same = subst (λ z. d.store ≡ (g.Infcx.InferCtxtLike.state z).store) c.infcx_mut.ensures.value f.same_record in
    let w = with_meaning o (c.lemma_context_grows.ensures c.have_open_argument.new.infcx grows (later_same _ _ same)
    c.requires.lawful) same in
    let u = g.R.PredicateEmittingRelation.with_context y c.both_well_formed.new.infcx in
    let p = g.R.HasState.state u in
    let over = g.met.R.PredicateEmittingRelation.over y in
    let t = g.Infcx.InferCtxtLike.state (g.R.PredicateEmittingRelation.context y) in
    let e = g.Infcx.InferCtxtLike.state c.both_well_formed.new.infcx in
    let h = c.in_err-predicates.ensures in
    let grows' = subst (λ z. Grows (g.Infcx.InferCtxtLike.state z) e) c.infcx_mut-2.ensures.value h.grows in
    let same' = subst (λ z. e.store ≡ (g.Infcx.InferCtxtLike.state z).store) c.infcx_mut-2.ensures.value h.same_record in
    let v = with_meaning over (c.lemma_context_grows-2.ensures c.both_well_formed.new.infcx grows' (later_same _ _ same')
    (w.lawful c.requires.lawful)) same' in
    let res = c.from_residual-in_err-predicates.result in
    noted_then (Ok (tt {0})) res (noted_with (over_extends r q s d o grows w) (over_with r q s d o grows w) (Ok (tt {0})) tt)
    (noted_with (over_extends q p t e over grows' v) (over_with q p t e over grows' v) res
    (subst OnlyMemory (sym (as_err res Memory c.from_residual-in_err-predicates.ensures.0
    c.from_residual-in_err-predicates.ensures.1)) tt))

pub returns-then-not-branch-clause-registers : goal.returns-then-not-branch-clause-registers
returns-then-not-branch-clause-registers g c =
    let x = c.args.r.now in
    let r = g.R.HasState.state x in
    let o = g.met.R.PredicateEmittingRelation.over x in
    let s = g.Infcx.InferCtxtLike.state (g.R.PredicateEmittingRelation.context x) in
    let m = r.meaning in
    let y = g.R.PredicateEmittingRelation.with_context x c.have_open_argument.new.infcx in
    let q = g.R.HasState.state y in
    let d = g.Infcx.InferCtxtLike.state c.have_open_argument.new.infcx in
    let f = c.in_ok-have_open_argument.ensures in
    let grows = subst (λ z. Grows (g.Infcx.InferCtxtLike.state z) d) c.infcx_mut.ensures.value f.grows in
    let same = subst (λ z. d.store ≡ (g.Infcx.InferCtxtLike.state z).store) c.infcx_mut.ensures.value f.same_record in
    let w = with_meaning o (c.lemma_context_grows.ensures c.have_open_argument.new.infcx grows (later_same _ _ same)
    c.requires.lawful) same in
    let b = c.in_ok-have_open_argument.field-0 in
    let i = c.args.def_id.now.0 in
    let xs = c.args.a_args.now in
    let ys = c.args.b_args.now in
    let tells = subst₂ (λ st n. IsTrue b ↔ HasOpenArgument (items_of n) st (n.id i) (n.args xs) ⊎
    HasOpenArgument (items_of n) st (n.id i) (n.args ys)) (sym o.store) (sym o.meaning)
    (subst (λ z. IsTrue b ↔ HasOpenArgument (items_of (g.Infcx.InferCtxtLike.state z).meaning)
    (g.Infcx.InferCtxtLike.state z).store (((g.Infcx.InferCtxtLike.state z).meaning).id i)
    (((g.Infcx.InferCtxtLike.state z).meaning).args xs) ⊎
    HasOpenArgument (items_of (g.Infcx.InferCtxtLike.state z).meaning)
    (g.Infcx.InferCtxtLike.state z).store (((g.Infcx.InferCtxtLike.state z).meaning).id i)
    (((g.Infcx.InferCtxtLike.state z).meaning).args ys)) c.infcx_mut.ensures.value f.tells) in
    registers_none (items_of m) r.store r.kept.environment (m.id i) (m.ty c.args.a_ty.now) (m.ty c.args.b_ty.now) (m.args xs)
    (m.args ys) r.goals q.goals (λ z. false≢true (sym c.if-not-branch.true ∙ tells.1 z)) w.goals

pub register_predicates-requires-clause-known : goal.register_predicates-requires-clause-known
register_predicates-requires-clause-known g c =
    let x = c.args.r.now in
    let r = g.R.HasState.state x in
    let o = g.met.R.PredicateEmittingRelation.over x in
    let s = g.Infcx.InferCtxtLike.state (g.R.PredicateEmittingRelation.context x) in
    let m = r.meaning in
    let y = g.R.PredicateEmittingRelation.with_context x c.have_open_argument.new.infcx in
    let q = g.R.HasState.state y in
    let d = g.Infcx.InferCtxtLike.state c.have_open_argument.new.infcx in
    let f = c.in_ok-have_open_argument.ensures in
    let grows = subst (λ z. Grows (g.Infcx.InferCtxtLike.state z) d) c.infcx_mut.ensures.value f.grows in
    let same = subst (λ z. d.store ≡ (g.Infcx.InferCtxtLike.state z).store) c.infcx_mut.ensures.value f.same_record in
    let w = with_meaning o (c.lemma_context_grows.ensures c.have_open_argument.new.infcx grows (later_same _ _ same)
    c.requires.lawful) same in
    let b = c.in_ok-have_open_argument.field-0 in
    let i = c.args.def_id.now.0 in
    let xs = c.args.a_args.now in
    let ys = c.args.b_args.now in
    let tells = subst₂ (λ st n. IsTrue b ↔ HasOpenArgument (items_of n) st (n.id i) (n.args xs) ⊎
    HasOpenArgument (items_of n) st (n.id i) (n.args ys)) (sym o.store) (sym o.meaning)
    (subst (λ z. IsTrue b ↔ HasOpenArgument (items_of (g.Infcx.InferCtxtLike.state z).meaning)
    (g.Infcx.InferCtxtLike.state z).store (((g.Infcx.InferCtxtLike.state z).meaning).id i)
    (((g.Infcx.InferCtxtLike.state z).meaning).args xs) ⊎
    HasOpenArgument (items_of (g.Infcx.InferCtxtLike.state z).meaning)
    (g.Infcx.InferCtxtLike.state z).store (((g.Infcx.InferCtxtLike.state z).meaning).id i)
    (((g.Infcx.InferCtxtLike.state z).meaning).args ys)) c.infcx_mut.ensures.value f.tells) in
    let u = g.R.PredicateEmittingRelation.with_context y c.both_well_formed.new.infcx in
    let p = g.R.HasState.state u in
    let over = g.met.R.PredicateEmittingRelation.over y in
    let t = g.Infcx.InferCtxtLike.state (g.R.PredicateEmittingRelation.context y) in
    let e = g.Infcx.InferCtxtLike.state c.both_well_formed.new.infcx in
    let h = c.in_ok-predicates.ensures in
    let grows' = subst (λ z. Grows (g.Infcx.InferCtxtLike.state z) e) c.infcx_mut-2.ensures.value h.grows in
    let same' = subst (λ z. e.store ≡ (g.Infcx.InferCtxtLike.state z).store) c.infcx_mut-2.ensures.value h.same_record in
    let v = with_meaning over (c.lemma_context_grows-2.ensures c.both_well_formed.new.infcx grows' (later_same _ _ same')
    (w.lawful c.requires.lawful)) same' in
    let k = c.args.a_ty.now in
    let l = c.args.b_ty.now in
    let stay = over_extends r q s d o grows w in
    let same_a = subst (λ z. ((g.Infcx.InferCtxtLike.state z).meaning).ty k ≡ m.ty k) (sym c.infcx_mut-2.ensures.value)
    (ap (λ n. n.ty k) (sym over.meaning) ∙ stay.ty k c.requires.a_known) in
    let same_b = subst (λ z. ((g.Infcx.InferCtxtLike.state z).meaning).ty l ≡ m.ty l) (sym c.infcx_mut-2.ensures.value)
    (ap (λ n. n.ty l) (sym over.meaning) ∙ stay.ty l c.requires.b_known) in
    let made = ap₂ (λ n ps. map n.predicate ps) v.meaning c.as_slice.ensures.value ∙ h.made
    ∙ ap₂ (λ a b. well_formed_predicate a ∷ well_formed_predicate b ∷ []) same_a same_b in
    listed_known p.meaning c.as_slice.result.now (subst (All (λ z. IsTrue (known z))) (sym made)
    (both_known (m.ty k) (m.ty l) c.requires.a_known c.requires.b_known))

pub returns-in_err-register_predicates-clause-noted : goal.returns-in_err-register_predicates-clause-noted
returns-in_err-register_predicates-clause-noted g c =
    let x = c.args.r.now in
    let r = g.R.HasState.state x in
    let o = g.met.R.PredicateEmittingRelation.over x in
    let s = g.Infcx.InferCtxtLike.state (g.R.PredicateEmittingRelation.context x) in
    let m = r.meaning in
    let y = g.R.PredicateEmittingRelation.with_context x c.have_open_argument.new.infcx in
    let q = g.R.HasState.state y in
    let d = g.Infcx.InferCtxtLike.state c.have_open_argument.new.infcx in
    let f = c.in_ok-have_open_argument.ensures in
    let grows = subst (λ z. Grows (g.Infcx.InferCtxtLike.state z) d) c.infcx_mut.ensures.value f.grows in
    let same = subst (λ z. d.store ≡ (g.Infcx.InferCtxtLike.state z).store) c.infcx_mut.ensures.value f.same_record in
    let w = with_meaning o (c.lemma_context_grows.ensures c.have_open_argument.new.infcx grows (later_same _ _ same)
    c.requires.lawful) same in
    let b = c.in_ok-have_open_argument.field-0 in
    let i = c.args.def_id.now.0 in
    let xs = c.args.a_args.now in
    let ys = c.args.b_args.now in
    let tells = subst₂ (λ st n. IsTrue b ↔ HasOpenArgument (items_of n) st (n.id i) (n.args xs) ⊎
    HasOpenArgument (items_of n) st (n.id i) (n.args ys)) (sym o.store) (sym o.meaning)
    (subst (λ z. IsTrue b ↔ HasOpenArgument (items_of (g.Infcx.InferCtxtLike.state z).meaning)
    (g.Infcx.InferCtxtLike.state z).store (((g.Infcx.InferCtxtLike.state z).meaning).id i)
    (((g.Infcx.InferCtxtLike.state z).meaning).args xs) ⊎
    HasOpenArgument (items_of (g.Infcx.InferCtxtLike.state z).meaning)
    (g.Infcx.InferCtxtLike.state z).store (((g.Infcx.InferCtxtLike.state z).meaning).id i)
    (((g.Infcx.InferCtxtLike.state z).meaning).args ys)) c.infcx_mut.ensures.value f.tells) in
    let u = g.R.PredicateEmittingRelation.with_context y c.both_well_formed.new.infcx in
    let p = g.R.HasState.state u in
    let over = g.met.R.PredicateEmittingRelation.over y in
    let t = g.Infcx.InferCtxtLike.state (g.R.PredicateEmittingRelation.context y) in
    let e = g.Infcx.InferCtxtLike.state c.both_well_formed.new.infcx in
    let h = c.in_ok-predicates.ensures in
    let grows' = subst (λ z. Grows (g.Infcx.InferCtxtLike.state z) e) c.infcx_mut-2.ensures.value h.grows in
    let same' = subst (λ z. e.store ≡ (g.Infcx.InferCtxtLike.state z).store) c.infcx_mut-2.ensures.value h.same_record in
    let v = with_meaning over (c.lemma_context_grows-2.ensures c.both_well_formed.new.infcx grows' (later_same _ _ same')
    (w.lawful c.requires.lawful)) same' in
    let k = c.args.a_ty.now in
    let l = c.args.b_ty.now in
    let stay = over_extends r q s d o grows w in
    let same_a = subst (λ z. ((g.Infcx.InferCtxtLike.state z).meaning).ty k ≡ m.ty k) (sym c.infcx_mut-2.ensures.value)
    (ap (λ n. n.ty k) (sym over.meaning) ∙ stay.ty k c.requires.a_known) in
    let same_b = subst (λ z. ((g.Infcx.InferCtxtLike.state z).meaning).ty l ≡ m.ty l) (sym c.infcx_mut-2.ensures.value)
    (ap (λ n. n.ty l) (sym over.meaning) ∙ stay.ty l c.requires.b_known) in
    let made = ap₂ (λ n ps. map n.predicate ps) v.meaning c.as_slice.ensures.value ∙ h.made
    ∙ ap₂ (λ a b. well_formed_predicate a ∷ well_formed_predicate b ∷ []) same_a same_b in
    let res = c.from_residual-in_err-register_predicates.result in
    noted_both r q p (m.id i) (m.ty k) (m.ty l) (m.args xs) (m.args ys) stay (over_with r q s d o grows w)
    (over_extends q p t e over grows' v) (over_with q p t e over grows' v) c.requires.over c.requires.by_declared (tells.0 c.if-not-branch.false)
    c.requires.a_in c.requires.b_in c.as_slice.result.now made (g.R.HasState.state
    c.register_predicates.new.self) c.register_predicates.result c.register_predicates.ensures
    (subst IsSound (sym o.store) (g.met.Infcx.InferCtxtLike.sound (g.R.PredicateEmittingRelation.context x)
    (o.lawful c.requires.lawful))) res
    (subst OnlyMemory (sym (as_err res Memory c.from_residual-in_err-register_predicates.ensures.0
    c.from_residual-in_err-register_predicates.ensures.1)) tt)

pub returns-clause-noted : goal.returns-clause-noted
returns-clause-noted g c =
    let x = c.args.r.now in
    let r = g.R.HasState.state x in
    let o = g.met.R.PredicateEmittingRelation.over x in
    let s = g.Infcx.InferCtxtLike.state (g.R.PredicateEmittingRelation.context x) in
    let m = r.meaning in
    let y = g.R.PredicateEmittingRelation.with_context x c.have_open_argument.new.infcx in
    let q = g.R.HasState.state y in
    let d = g.Infcx.InferCtxtLike.state c.have_open_argument.new.infcx in
    let f = c.in_ok-have_open_argument.ensures in
    let grows = subst (λ z. Grows (g.Infcx.InferCtxtLike.state z) d) c.infcx_mut.ensures.value f.grows in
    let same = subst (λ z. d.store ≡ (g.Infcx.InferCtxtLike.state z).store) c.infcx_mut.ensures.value f.same_record in
    let w = with_meaning o (c.lemma_context_grows.ensures c.have_open_argument.new.infcx grows (later_same _ _ same)
    c.requires.lawful) same in
    let b = c.in_ok-have_open_argument.field-0 in
    let i = c.args.def_id.now.0 in
    let xs = c.args.a_args.now in
    let ys = c.args.b_args.now in
    let tells = subst₂ (λ st n. IsTrue b ↔ HasOpenArgument (items_of n) st (n.id i) (n.args xs) ⊎
    HasOpenArgument (items_of n) st (n.id i) (n.args ys)) (sym o.store) (sym o.meaning)
    (subst (λ z. IsTrue b ↔ HasOpenArgument (items_of (g.Infcx.InferCtxtLike.state z).meaning)
    (g.Infcx.InferCtxtLike.state z).store (((g.Infcx.InferCtxtLike.state z).meaning).id i)
    (((g.Infcx.InferCtxtLike.state z).meaning).args xs) ⊎
    HasOpenArgument (items_of (g.Infcx.InferCtxtLike.state z).meaning)
    (g.Infcx.InferCtxtLike.state z).store (((g.Infcx.InferCtxtLike.state z).meaning).id i)
    (((g.Infcx.InferCtxtLike.state z).meaning).args ys)) c.infcx_mut.ensures.value f.tells) in
    let u = g.R.PredicateEmittingRelation.with_context y c.both_well_formed.new.infcx in
    let p = g.R.HasState.state u in
    let over = g.met.R.PredicateEmittingRelation.over y in
    let t = g.Infcx.InferCtxtLike.state (g.R.PredicateEmittingRelation.context y) in
    let e = g.Infcx.InferCtxtLike.state c.both_well_formed.new.infcx in
    let h = c.in_ok-predicates.ensures in
    let grows' = subst (λ z. Grows (g.Infcx.InferCtxtLike.state z) e) c.infcx_mut-2.ensures.value h.grows in
    let same' = subst (λ z. e.store ≡ (g.Infcx.InferCtxtLike.state z).store) c.infcx_mut-2.ensures.value h.same_record in
    let v = with_meaning over (c.lemma_context_grows-2.ensures c.both_well_formed.new.infcx grows' (later_same _ _ same')
    (w.lawful c.requires.lawful)) same' in
    let k = c.args.a_ty.now in
    let l = c.args.b_ty.now in
    let stay = over_extends r q s d o grows w in
    let same_a = subst (λ z. ((g.Infcx.InferCtxtLike.state z).meaning).ty k ≡ m.ty k) (sym c.infcx_mut-2.ensures.value)
    (ap (λ n. n.ty k) (sym over.meaning) ∙ stay.ty k c.requires.a_known) in
    let same_b = subst (λ z. ((g.Infcx.InferCtxtLike.state z).meaning).ty l ≡ m.ty l) (sym c.infcx_mut-2.ensures.value)
    (ap (λ n. n.ty l) (sym over.meaning) ∙ stay.ty l c.requires.b_known) in
    let made = ap₂ (λ n ps. map n.predicate ps) v.meaning c.as_slice.ensures.value ∙ h.made
    ∙ ap₂ (λ a b. well_formed_predicate a ∷ well_formed_predicate b ∷ []) same_a same_b in
    noted_both r q p (m.id i) (m.ty k) (m.ty l) (m.args xs) (m.args ys) stay (over_with r q s d o grows w)
    (over_extends q p t e over grows' v) (over_with q p t e over grows' v) c.requires.over c.requires.by_declared (tells.0 c.if-not-branch.false)
    c.requires.a_in c.requires.b_in c.as_slice.result.now made (g.R.HasState.state
    c.register_predicates.new.self) c.register_predicates.result c.register_predicates.ensures
    (subst IsSound (sym o.store) (g.met.Infcx.InferCtxtLike.sound (g.R.PredicateEmittingRelation.context x)
    (o.lawful c.requires.lawful))) (Ok (tt {0})) tt

pub returns-clause-registers : goal.returns-clause-registers
returns-clause-registers g c =
    let x = c.args.r.now in
    let r = g.R.HasState.state x in
    let o = g.met.R.PredicateEmittingRelation.over x in
    let s = g.Infcx.InferCtxtLike.state (g.R.PredicateEmittingRelation.context x) in
    let m = r.meaning in
    let y = g.R.PredicateEmittingRelation.with_context x c.have_open_argument.new.infcx in
    let q = g.R.HasState.state y in
    let d = g.Infcx.InferCtxtLike.state c.have_open_argument.new.infcx in
    let f = c.in_ok-have_open_argument.ensures in
    let grows = subst (λ z. Grows (g.Infcx.InferCtxtLike.state z) d) c.infcx_mut.ensures.value f.grows in
    let same = subst (λ z. d.store ≡ (g.Infcx.InferCtxtLike.state z).store) c.infcx_mut.ensures.value f.same_record in
    let w = with_meaning o (c.lemma_context_grows.ensures c.have_open_argument.new.infcx grows (later_same _ _ same)
    c.requires.lawful) same in
    let b = c.in_ok-have_open_argument.field-0 in
    let i = c.args.def_id.now.0 in
    let xs = c.args.a_args.now in
    let ys = c.args.b_args.now in
    let tells = subst₂ (λ st n. IsTrue b ↔ HasOpenArgument (items_of n) st (n.id i) (n.args xs) ⊎
    HasOpenArgument (items_of n) st (n.id i) (n.args ys)) (sym o.store) (sym o.meaning)
    (subst (λ z. IsTrue b ↔ HasOpenArgument (items_of (g.Infcx.InferCtxtLike.state z).meaning)
    (g.Infcx.InferCtxtLike.state z).store (((g.Infcx.InferCtxtLike.state z).meaning).id i)
    (((g.Infcx.InferCtxtLike.state z).meaning).args xs) ⊎
    HasOpenArgument (items_of (g.Infcx.InferCtxtLike.state z).meaning)
    (g.Infcx.InferCtxtLike.state z).store (((g.Infcx.InferCtxtLike.state z).meaning).id i)
    (((g.Infcx.InferCtxtLike.state z).meaning).args ys)) c.infcx_mut.ensures.value f.tells) in
    let u = g.R.PredicateEmittingRelation.with_context y c.both_well_formed.new.infcx in
    let p = g.R.HasState.state u in
    let over = g.met.R.PredicateEmittingRelation.over y in
    let t = g.Infcx.InferCtxtLike.state (g.R.PredicateEmittingRelation.context y) in
    let e = g.Infcx.InferCtxtLike.state c.both_well_formed.new.infcx in
    let h = c.in_ok-predicates.ensures in
    let grows' = subst (λ z. Grows (g.Infcx.InferCtxtLike.state z) e) c.infcx_mut-2.ensures.value h.grows in
    let same' = subst (λ z. e.store ≡ (g.Infcx.InferCtxtLike.state z).store) c.infcx_mut-2.ensures.value h.same_record in
    let v = with_meaning over (c.lemma_context_grows-2.ensures c.both_well_formed.new.infcx grows' (later_same _ _ same')
    (w.lawful c.requires.lawful)) same' in
    let k = c.args.a_ty.now in
    let l = c.args.b_ty.now in
    let stay = over_extends r q s d o grows w in
    let same_a = subst (λ z. ((g.Infcx.InferCtxtLike.state z).meaning).ty k ≡ m.ty k) (sym c.infcx_mut-2.ensures.value)
    (ap (λ n. n.ty k) (sym over.meaning) ∙ stay.ty k c.requires.a_known) in
    let same_b = subst (λ z. ((g.Infcx.InferCtxtLike.state z).meaning).ty l ≡ m.ty l) (sym c.infcx_mut-2.ensures.value)
    (ap (λ n. n.ty l) (sym over.meaning) ∙ stay.ty l c.requires.b_known) in
    let made = ap₂ (λ n ps. map n.predicate ps) v.meaning c.as_slice.ensures.value ∙ h.made
    ∙ ap₂ (λ a b. well_formed_predicate a ∷ well_formed_predicate b ∷ []) same_a same_b in
    both_registered r q p (m.id i) (m.ty k) (m.ty l) (m.args xs) (m.args ys) stay (over_with r q s d o grows w)
    (over_extends q p t e over grows' v) (over_with q p t e over grows' v) c.requires.over c.requires.by_declared (tells.0 c.if-not-branch.false)
    c.requires.a_in c.requires.b_in c.as_slice.result.now made (g.R.HasState.state
    c.register_predicates.new.self) c.register_predicates.result c.register_predicates.ensures c.in_ok-register_predicates.field-0 c.in_ok-register_predicates.was

pub both_well_formed-requires-clause-lawful : goal.both_well_formed-requires-clause-lawful
both_well_formed-requires-clause-lawful g c =
    let x = c.args.r.now in
    let r = g.R.HasState.state x in
    let o = g.met.R.PredicateEmittingRelation.over x in
    let s = g.Infcx.InferCtxtLike.state (g.R.PredicateEmittingRelation.context x) in
    let y = g.R.PredicateEmittingRelation.with_context x c.have_open_argument.new.infcx in
    let q = g.R.HasState.state y in
    let d = g.Infcx.InferCtxtLike.state c.have_open_argument.new.infcx in
    let f = c.in_ok-have_open_argument.ensures in
    let grows = subst (λ z. Grows (g.Infcx.InferCtxtLike.state z) d) c.infcx_mut.ensures.value f.grows in
    let same = subst (λ z. d.store ≡ (g.Infcx.InferCtxtLike.state z).store) c.infcx_mut.ensures.value f.same_record in
    let w = with_meaning o (c.lemma_context_grows.ensures c.have_open_argument.new.infcx grows (later_same _ _ same)
    c.requires.lawful) same in
    let over = g.met.R.PredicateEmittingRelation.over y in
    subst (λ z. (g.Infcx.InferCtxtLike.state z).lawful) (sym c.infcx_mut-2.ensures.value)
    (over.lawful (w.lawful c.requires.lawful))

pub both_well_formed-requires-clause-a_known : goal.both_well_formed-requires-clause-a_known
both_well_formed-requires-clause-a_known g c =
    let x = c.args.r.now in
    let r = g.R.HasState.state x in
    let o = g.met.R.PredicateEmittingRelation.over x in
    let s = g.Infcx.InferCtxtLike.state (g.R.PredicateEmittingRelation.context x) in
    let m = r.meaning in
    let y = g.R.PredicateEmittingRelation.with_context x c.have_open_argument.new.infcx in
    let q = g.R.HasState.state y in
    let d = g.Infcx.InferCtxtLike.state c.have_open_argument.new.infcx in
    let f = c.in_ok-have_open_argument.ensures in
    let grows = subst (λ z. Grows (g.Infcx.InferCtxtLike.state z) d) c.infcx_mut.ensures.value f.grows in
    let same = subst (λ z. d.store ≡ (g.Infcx.InferCtxtLike.state z).store) c.infcx_mut.ensures.value f.same_record in
    let w = with_meaning o (c.lemma_context_grows.ensures c.have_open_argument.new.infcx grows (later_same _ _ same)
    c.requires.lawful) same in
    let over = g.met.R.PredicateEmittingRelation.over y in
    let k = c.args.a_ty.now in
    let stay = over_extends r q s d o grows w in
    let same_a = subst (λ z. ((g.Infcx.InferCtxtLike.state z).meaning).ty k ≡ m.ty k) (sym c.infcx_mut-2.ensures.value)
    (ap (λ n. n.ty k) (sym over.meaning) ∙ stay.ty k c.requires.a_known) in
    subst (λ z. IsTrue (known z)) (sym same_a) c.requires.a_known

pub both_well_formed-requires-clause-b_known : goal.both_well_formed-requires-clause-b_known
both_well_formed-requires-clause-b_known g c =
    let x = c.args.r.now in
    let r = g.R.HasState.state x in
    let o = g.met.R.PredicateEmittingRelation.over x in
    let s = g.Infcx.InferCtxtLike.state (g.R.PredicateEmittingRelation.context x) in
    let m = r.meaning in
    let y = g.R.PredicateEmittingRelation.with_context x c.have_open_argument.new.infcx in
    let q = g.R.HasState.state y in
    let d = g.Infcx.InferCtxtLike.state c.have_open_argument.new.infcx in
    let f = c.in_ok-have_open_argument.ensures in
    let grows = subst (λ z. Grows (g.Infcx.InferCtxtLike.state z) d) c.infcx_mut.ensures.value f.grows in
    let same = subst (λ z. d.store ≡ (g.Infcx.InferCtxtLike.state z).store) c.infcx_mut.ensures.value f.same_record in
    let w = with_meaning o (c.lemma_context_grows.ensures c.have_open_argument.new.infcx grows (later_same _ _ same)
    c.requires.lawful) same in
    let over = g.met.R.PredicateEmittingRelation.over y in
    let l = c.args.b_ty.now in
    let stay = over_extends r q s d o grows w in
    let same_b = subst (λ z. ((g.Infcx.InferCtxtLike.state z).meaning).ty l ≡ m.ty l) (sym c.infcx_mut-2.ensures.value)
    (ap (λ n. n.ty l) (sym over.meaning) ∙ stay.ty l c.requires.b_known) in
    subst (λ z. IsTrue (known z)) (sym same_b) c.requires.b_known

pub register_predicates-requires-clause-lawful : goal.register_predicates-requires-clause-lawful
register_predicates-requires-clause-lawful g c =
    let x = c.args.r.now in
    let r = g.R.HasState.state x in
    let o = g.met.R.PredicateEmittingRelation.over x in
    let s = g.Infcx.InferCtxtLike.state (g.R.PredicateEmittingRelation.context x) in
    let y = g.R.PredicateEmittingRelation.with_context x c.have_open_argument.new.infcx in
    let q = g.R.HasState.state y in
    let d = g.Infcx.InferCtxtLike.state c.have_open_argument.new.infcx in
    let f = c.in_ok-have_open_argument.ensures in
    let grows = subst (λ z. Grows (g.Infcx.InferCtxtLike.state z) d) c.infcx_mut.ensures.value f.grows in
    let same = subst (λ z. d.store ≡ (g.Infcx.InferCtxtLike.state z).store) c.infcx_mut.ensures.value f.same_record in
    let w = with_meaning o (c.lemma_context_grows.ensures c.have_open_argument.new.infcx grows (later_same _ _ same)
    c.requires.lawful) same in
    let over = g.met.R.PredicateEmittingRelation.over y in
    let t = g.Infcx.InferCtxtLike.state (g.R.PredicateEmittingRelation.context y) in
    let e = g.Infcx.InferCtxtLike.state c.both_well_formed.new.infcx in
    let h = c.in_ok-predicates.ensures in
    let grows' = subst (λ z. Grows (g.Infcx.InferCtxtLike.state z) e) c.infcx_mut-2.ensures.value h.grows in
    let same' = subst (λ z. e.store ≡ (g.Infcx.InferCtxtLike.state z).store) c.infcx_mut-2.ensures.value h.same_record in
    let v = with_meaning over (c.lemma_context_grows-2.ensures c.both_well_formed.new.infcx grows' (later_same _ _ same')
    (w.lawful c.requires.lawful)) same' in
    v.lawful (w.lawful c.requires.lawful)
