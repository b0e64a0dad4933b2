use Rattle.std.proofs.Common.{◌≡◌, sym, subst, subst₂, refl, Option, List, Some, None, Ok, Err, IsTrue}
use Rattle.std.proofs.lemmas.Bool.{false≢true}
use Rattle.relation_terms.specs.Heads.{BoundKind, type_sort}
use Rattle.relation_terms.specs.Meaning.{under}
use Rattle.relation_terms.specs.Trees.{Tree, known}
use Rattle.relation_terms.proofs.Stays.{extends_on}
use Rattle.relation_semantics.specs.Binders.{binder_tree}
use Rattle.relation_semantics.specs.Lawful.{Related}
use Rattle.relation_semantics.specs.Relation.{sort_of}
use Rattle.relation_steps.specs.Rounds.{Opened}
use Rattle.relation_semantics.proofs.Passing.{as_err}
use Rattle.relation_recursion.proofs.Alone.{left_none}
use Rattle.relation_recursion.proofs.RelatableForms.{equal_binders, stays_binder, still_asked, related_bodies}
use Rattle.relation_recursion.proofs.Rounds.{under_known, opening_refused, first_refused, first_done, reopening_refused, nothing_left}
use Rattle.relation_recursion.proofs.Rounds.{second_refused, second_related}
use Rattle.relation_recursion.proofs.StructuralConsts.{itself_related}
use Rattle.relation_recursion.proofs.relatable.binder.BinderKeyRelate.relate.Goals as goal

pub returns-then-eq-clause-related : goal.returns-then-eq-clause-related
returns-then-eq-clause-related g c =
    let r = g.R.HasState.state c.args.r.now in
    let M = g.R.TypeRelation.manner in
    let tree = g.T.HasTree.tree in
    let over = g.T.Relate.over in
    let a = binder_tree tree r.meaning c.args.a.now in
    let b = binder_tree tree r.meaning c.args.b.now in
    let k = c.requires.asked in
    let cx = g.R.TypeRelation.interner c.args.r.now in
    let one : a ≡ b = equal_binders tree (g.met.R.TypeRelation.reads c.args.r.now) g.T.PartialEq.eq
    g.I.Key.PartialEq.eq (g.met.T.Relate.same cx) (g.met.I.Interner.same_bound_vars cx) c.args.a.now c.args.b.now
    k.left_known k.right_known (sym c.if-eq.ensures) in
    itself_related M r r.ambient (binder_tree tree r.meaning) a b c.args.a.now one refl k.left_known

pub returns-in_err-bodies-clause-related : goal.returns-in_err-bodies-clause-related
returns-in_err-bodies-clause-related g c =
    let r = g.R.HasState.state c.args.r.now in
    let M = g.R.TypeRelation.manner in
    let tree = g.T.HasTree.tree in
    let a = binder_tree tree r.meaning c.args.a.now in
    let b = binder_tree tree r.meaning c.args.b.now in
    let k = c.requires.asked in
    let never = under_known ((r.meaning).bound_vars c.args.a.now.bound_vars) (tree r.meaning c.args.a.now.value)
    k.left_known in
    let q = g.R.HasState.state c.open_binders.new.self in
    let e = c.in_err-bodies in
    let res = c.from_residual in
    let failed = as_err res.result e.field-0.0 res.ensures.0 res.ensures.1 in
    subst (λ z. Related M r q r.ambient a b (binder_tree tree q.meaning) z) (sym failed)
    (opening_refused M 0 a b (tree q.meaning) (binder_tree tree q.meaning) never e.field-0.0 e.ensures)

pub returns-in_err-relate-clause-related : goal.returns-in_err-relate-clause-related
returns-in_err-relate-clause-related g c =
    let r = g.R.HasState.state c.args.r.now in
    let M = g.R.TypeRelation.manner in
    let tree = g.T.HasTree.tree in
    let over = g.T.Relate.over in
    let a = binder_tree tree r.meaning c.args.a.now in
    let b = binder_tree tree r.meaning c.args.b.now in
    let k = c.requires.asked in
    let never = under_known ((r.meaning).bound_vars c.args.a.now.bound_vars) (tree r.meaning c.args.a.now.value)
    k.left_known in
    let q = g.R.HasState.state c.open_binders.new.self in
    let x = tree q.meaning (c.in-Some.bodies).0 in
    let y = tree q.meaning (c.in-Some.bodies).1 in
    let o : Opened M r q 0 a b (tree q.meaning) (Ok (Some c.in-Some.bodies)) =
    subst (λ z. Opened M r q 0 a b (tree q.meaning) (Ok z)) c.in-Some.is c.in_ok-bodies.ensures in
    let p = g.R.HasState.state c.relate.new.r in
    let e = c.in_err-relate in
    let res = c.from_residual-in_err-relate in
    let failed = as_err res.result e.field-0.0 res.ensures.0 res.ensures.1 in
    let met = (e.ensures).related in
    let inner = subst (λ v. Related M q p v x y (tree p.meaning) (Err e.field-0.0)) (o.passes).ambient
    (related_bodies M over x y (tree p.meaning) (Err e.field-0.0) c.requires.fits.0 met) in
    let sound = g.met.R.TypeRelation.sound c.relate.new.r
    ((inner.passes).lawful ((o.passes).lawful c.requires.lawful)) in
    subst (λ z. Related M r p r.ambient a b (binder_tree tree p.meaning) z) (sym failed)
    (first_refused M a b x y (tree p.meaning) (binder_tree tree p.meaning) never sound o.passes o.verdict o.built e.field-0.0
    inner)

pub open_binders-requires-2-clause-asked : goal.open_binders-requires-2-clause-asked
open_binders-requires-2-clause-asked g c =
    let r = g.R.HasState.state c.args.r.now in
    let M = g.R.TypeRelation.manner in
    let tree = g.T.HasTree.tree in
    let over = g.T.Relate.over in
    let a = binder_tree tree r.meaning c.args.a.now in
    let b = binder_tree tree r.meaning c.args.b.now in
    let k = c.requires.asked in
    let q = g.R.HasState.state c.open_binders.new.self in
    let x = tree q.meaning (c.in-Some.bodies).0 in
    let y = tree q.meaning (c.in-Some.bodies).1 in
    let o : Opened M r q 0 a b (tree q.meaning) (Ok (Some c.in-Some.bodies)) =
    subst (λ z. Opened M r q 0 a b (tree q.meaning) (Ok z)) c.in-Some.is c.in_ok-bodies.ensures in
    let p = g.R.HasState.state c.relate.new.r in
    let n = c.in_ok-relate in
    let met = (n.ensures).related in
    let inner = subst (λ v. Related M q p v x y (tree p.meaning) (Ok n.field-0)) (o.passes).ambient
    (related_bodies M over x y (tree p.meaning) (Ok n.field-0) c.requires.fits.0 met) in
    let half = first_done M a b x y (tree p.meaning) n.field-0 o.passes o.verdict o.built inner in
    let same_a = stays_binder tree g.T.HasTree.stays (half.passes).extends c.args.a.now k.left_known in
    let same_b = stays_binder tree g.T.HasTree.stays (half.passes).extends c.args.b.now k.right_known in
    still_asked M a b (binder_tree tree p.meaning c.args.a.now) (binder_tree tree p.meaning c.args.b.now) same_a same_b half k

pub returns-in_err-bodies-2-clause-related : goal.returns-in_err-bodies-2-clause-related
returns-in_err-bodies-2-clause-related g c =
    let r = g.R.HasState.state c.args.r.now in
    let M = g.R.TypeRelation.manner in
    let tree = g.T.HasTree.tree in
    let over = g.T.Relate.over in
    let a = binder_tree tree r.meaning c.args.a.now in
    let b = binder_tree tree r.meaning c.args.b.now in
    let k = c.requires.asked in
    let never = under_known ((r.meaning).bound_vars c.args.a.now.bound_vars) (tree r.meaning c.args.a.now.value)
    k.left_known in
    let q = g.R.HasState.state c.open_binders.new.self in
    let x = tree q.meaning (c.in-Some.bodies).0 in
    let y = tree q.meaning (c.in-Some.bodies).1 in
    let o : Opened M r q 0 a b (tree q.meaning) (Ok (Some c.in-Some.bodies)) =
    subst (λ z. Opened M r q 0 a b (tree q.meaning) (Ok z)) c.in-Some.is c.in_ok-bodies.ensures in
    let p = g.R.HasState.state c.relate.new.r in
    let n = c.in_ok-relate in
    let met = (n.ensures).related in
    let inner = subst (λ v. Related M q p v x y (tree p.meaning) (Ok n.field-0)) (o.passes).ambient
    (related_bodies M over x y (tree p.meaning) (Ok n.field-0) c.requires.fits.0 met) in
    let half = first_done M a b x y (tree p.meaning) n.field-0 o.passes o.verdict o.built inner in
    let same_a = stays_binder tree g.T.HasTree.stays (half.passes).extends c.args.a.now k.left_known in
    let same_b = stays_binder tree g.T.HasTree.stays (half.passes).extends c.args.b.now k.right_known in
    let w = g.R.HasState.state c.open_binders-2.new.self in
    let e = c.in_err-bodies-2 in
    let res = c.from_residual-in_err-bodies-2 in
    let failed = as_err res.result e.field-0.0 res.ensures.0 res.ensures.1 in
    let again = subst₂ (λ t u. Opened M p w 1 t u (tree w.meaning) (Err e.field-0.0)) same_a same_b e.ensures in
    subst (λ z. Related M r w r.ambient a b (binder_tree tree w.meaning) z) (sym failed)
    (reopening_refused M 1 a b (tree w.meaning) (binder_tree tree w.meaning) never half e.field-0.0 again)

pub returns-in_default-2-clause-related : goal.returns-in_default-2-clause-related
returns-in_default-2-clause-related g c =
    let r = g.R.HasState.state c.args.r.now in
    let M = g.R.TypeRelation.manner in
    let tree = g.T.HasTree.tree in
    let over = g.T.Relate.over in
    let a = binder_tree tree r.meaning c.args.a.now in
    let b = binder_tree tree r.meaning c.args.b.now in
    let k = c.requires.asked in
    let never = under_known ((r.meaning).bound_vars c.args.a.now.bound_vars) (tree r.meaning c.args.a.now.value)
    k.left_known in
    let q = g.R.HasState.state c.open_binders.new.self in
    let x = tree q.meaning (c.in-Some.bodies).0 in
    let y = tree q.meaning (c.in-Some.bodies).1 in
    let o : Opened M r q 0 a b (tree q.meaning) (Ok (Some c.in-Some.bodies)) =
    subst (λ z. Opened M r q 0 a b (tree q.meaning) (Ok z)) c.in-Some.is c.in_ok-bodies.ensures in
    let p = g.R.HasState.state c.relate.new.r in
    let n = c.in_ok-relate in
    let met = (n.ensures).related in
    let inner = subst (λ v. Related M q p v x y (tree p.meaning) (Ok n.field-0)) (o.passes).ambient
    (related_bodies M over x y (tree p.meaning) (Ok n.field-0) c.requires.fits.0 met) in
    let half = first_done M a b x y (tree p.meaning) n.field-0 o.passes o.verdict o.built inner in
    let same_a = stays_binder tree g.T.HasTree.stays (half.passes).extends c.args.a.now k.left_known in
    let same_b = stays_binder tree g.T.HasTree.stays (half.passes).extends c.args.b.now k.right_known in
    let w = g.R.HasState.state c.open_binders-2.new.self in
    let again = subst₂ (λ t u. Opened M p w 1 t u (tree w.meaning) (Ok None)) same_a same_b
    (subst (λ z. Opened M p w 1 (binder_tree tree p.meaning c.args.a.now) (binder_tree tree p.meaning c.args.b.now)
    (tree w.meaning) (Ok z)) c.in_default-2.is c.in_ok-bodies-2.ensures) in
    let stays = extends_on (half.passes).extends (again.passes).extends in
    nothing_left M 1 a b (tree w.meaning) (binder_tree tree w.meaning) c.args.a.now never
    (stays_binder tree g.T.HasTree.stays stays c.args.a.now k.left_known) k.left_known half again

pub relate-requires-2-clause-fits : goal.relate-requires-2-clause-fits
relate-requires-2-clause-fits g c =
    let r = g.R.HasState.state c.args.r.now in
    let M = g.R.TypeRelation.manner in
    let tree = g.T.HasTree.tree in
    let over = g.T.Relate.over in
    let a = binder_tree tree r.meaning c.args.a.now in
    let b = binder_tree tree r.meaning c.args.b.now in
    let k = c.requires.asked in
    let q = g.R.HasState.state c.open_binders.new.self in
    let x = tree q.meaning (c.in-Some.bodies).0 in
    let y = tree q.meaning (c.in-Some.bodies).1 in
    let o : Opened M r q 0 a b (tree q.meaning) (Ok (Some c.in-Some.bodies)) =
    subst (λ z. Opened M r q 0 a b (tree q.meaning) (Ok z)) c.in-Some.is c.in_ok-bodies.ensures in
    let p = g.R.HasState.state c.relate.new.r in
    let n = c.in_ok-relate in
    let met = (n.ensures).related in
    let inner = subst (λ v. Related M q p v x y (tree p.meaning) (Ok n.field-0)) (o.passes).ambient
    (related_bodies M over x y (tree p.meaning) (Ok n.field-0) c.requires.fits.0 met) in
    let half = first_done M a b x y (tree p.meaning) n.field-0 o.passes o.verdict o.built inner in
    let same_a = stays_binder tree g.T.HasTree.stays (half.passes).extends c.args.a.now k.left_known in
    let same_b = stays_binder tree g.T.HasTree.stays (half.passes).extends c.args.b.now k.right_known in
    let w = g.R.HasState.state c.open_binders-2.new.self in
    let s = tree w.meaning (c.in-Some-2.bodies).0 in
    let u = tree w.meaning (c.in-Some-2.bodies).1 in
    let again : Opened M p w 1 a b (tree w.meaning) (Ok (Some c.in-Some-2.bodies)) =
    subst₂ (λ t u. Opened M p w 1 t u (tree w.meaning) (Ok (Some c.in-Some-2.bodies))) same_a same_b
    (subst (λ z. Opened M p w 1 (binder_tree tree p.meaning c.args.a.now) (binder_tree tree p.meaning c.args.b.now)
    (tree w.meaning) (Ok z)) c.in-Some-2.is c.in_ok-bodies-2.ensures) in
    let stays = extends_on (half.passes).extends (again.passes).extends in
    let both = (again.verdict).asked in
    c.requires.fits.1 w.meaning stays (c.in-Some-2.bodies).0 (c.in-Some-2.bodies).1 both.left_known both.right_known

pub returns-in_err-relate-2-clause-related : goal.returns-in_err-relate-2-clause-related
returns-in_err-relate-2-clause-related g c =
    let r = g.R.HasState.state c.args.r.now in
    let M = g.R.TypeRelation.manner in
    let tree = g.T.HasTree.tree in
    let over = g.T.Relate.over in
    let a = binder_tree tree r.meaning c.args.a.now in
    let b = binder_tree tree r.meaning c.args.b.now in
    let k = c.requires.asked in
    let never = under_known ((r.meaning).bound_vars c.args.a.now.bound_vars) (tree r.meaning c.args.a.now.value)
    k.left_known in
    let q = g.R.HasState.state c.open_binders.new.self in
    let x = tree q.meaning (c.in-Some.bodies).0 in
    let y = tree q.meaning (c.in-Some.bodies).1 in
    let o : Opened M r q 0 a b (tree q.meaning) (Ok (Some c.in-Some.bodies)) =
    subst (λ z. Opened M r q 0 a b (tree q.meaning) (Ok z)) c.in-Some.is c.in_ok-bodies.ensures in
    let p = g.R.HasState.state c.relate.new.r in
    let n = c.in_ok-relate in
    let met = (n.ensures).related in
    let inner = subst (λ v. Related M q p v x y (tree p.meaning) (Ok n.field-0)) (o.passes).ambient
    (related_bodies M over x y (tree p.meaning) (Ok n.field-0) c.requires.fits.0 met) in
    let half = first_done M a b x y (tree p.meaning) n.field-0 o.passes o.verdict o.built inner in
    let same_a = stays_binder tree g.T.HasTree.stays (half.passes).extends c.args.a.now k.left_known in
    let same_b = stays_binder tree g.T.HasTree.stays (half.passes).extends c.args.b.now k.right_known in
    let w = g.R.HasState.state c.open_binders-2.new.self in
    let s = tree w.meaning (c.in-Some-2.bodies).0 in
    let u = tree w.meaning (c.in-Some-2.bodies).1 in
    let again : Opened M p w 1 a b (tree w.meaning) (Ok (Some c.in-Some-2.bodies)) =
    subst₂ (λ t u. Opened M p w 1 t u (tree w.meaning) (Ok (Some c.in-Some-2.bodies))) same_a same_b
    (subst (λ z. Opened M p w 1 (binder_tree tree p.meaning c.args.a.now) (binder_tree tree p.meaning c.args.b.now)
    (tree w.meaning) (Ok z)) c.in-Some-2.is c.in_ok-bodies-2.ensures) in
    let z = g.R.HasState.state c.relate-2.new.r in
    let e = c.in_err-relate-2 in
    let res = c.from_residual-in_err-relate-2 in
    let failed = as_err res.result e.field-0.0 res.ensures.0 res.ensures.1 in
    let met-2 = (e.ensures).related in
    let last = subst (λ v. Related M w z v s u (tree z.meaning) (Err e.field-0.0)) (again.passes).ambient
    (related_bodies M over s u (tree z.meaning) (Err e.field-0.0) c.requires.fits.0 met-2) in
    let sound = g.met.R.TypeRelation.sound c.relate-2.new.r
    ((last.passes).lawful ((again.passes).lawful ((half.passes).lawful c.requires.lawful))) in
    subst (λ t. Related M r z r.ambient a b (binder_tree tree z.meaning) t) (sym failed)
    (second_refused M a b s u never k half again.passes again.verdict again.built (tree z.meaning) (binder_tree tree z.meaning) sound
    e.field-0.0 last)

pub returns-clause-related : goal.returns-clause-related
returns-clause-related g c =
    let r = g.R.HasState.state c.args.r.now in
    let M = g.R.TypeRelation.manner in
    let tree = g.T.HasTree.tree in
    let over = g.T.Relate.over in
    let a = binder_tree tree r.meaning c.args.a.now in
    let b = binder_tree tree r.meaning c.args.b.now in
    let k = c.requires.asked in
    let never = under_known ((r.meaning).bound_vars c.args.a.now.bound_vars) (tree r.meaning c.args.a.now.value)
    k.left_known in
    let q = g.R.HasState.state c.open_binders.new.self in
    let x = tree q.meaning (c.in-Some.bodies).0 in
    let y = tree q.meaning (c.in-Some.bodies).1 in
    let o : Opened M r q 0 a b (tree q.meaning) (Ok (Some c.in-Some.bodies)) =
    subst (λ z. Opened M r q 0 a b (tree q.meaning) (Ok z)) c.in-Some.is c.in_ok-bodies.ensures in
    let p = g.R.HasState.state c.relate.new.r in
    let n = c.in_ok-relate in
    let met = (n.ensures).related in
    let inner = subst (λ v. Related M q p v x y (tree p.meaning) (Ok n.field-0)) (o.passes).ambient
    (related_bodies M over x y (tree p.meaning) (Ok n.field-0) c.requires.fits.0 met) in
    let half = first_done M a b x y (tree p.meaning) n.field-0 o.passes o.verdict o.built inner in
    let same_a = stays_binder tree g.T.HasTree.stays (half.passes).extends c.args.a.now k.left_known in
    let same_b = stays_binder tree g.T.HasTree.stays (half.passes).extends c.args.b.now k.right_known in
    let w = g.R.HasState.state c.open_binders-2.new.self in
    let s = tree w.meaning (c.in-Some-2.bodies).0 in
    let u = tree w.meaning (c.in-Some-2.bodies).1 in
    let again : Opened M p w 1 a b (tree w.meaning) (Ok (Some c.in-Some-2.bodies)) =
    subst₂ (λ t u. Opened M p w 1 t u (tree w.meaning) (Ok (Some c.in-Some-2.bodies))) same_a same_b
    (subst (λ z. Opened M p w 1 (binder_tree tree p.meaning c.args.a.now) (binder_tree tree p.meaning c.args.b.now)
    (tree w.meaning) (Ok z)) c.in-Some-2.is c.in_ok-bodies-2.ensures) in
    let z = g.R.HasState.state c.relate-2.new.r in
    let m = c.in_ok-relate-2 in
    let met-2 = (m.ensures).related in
    let last = subst (λ v. Related M w z v s u (tree z.meaning) (Ok m.field-0)) (again.passes).ambient
    (related_bodies M over s u (tree z.meaning) (Ok m.field-0) c.requires.fits.0 met-2) in
    let stays = extends_on (half.passes).extends (extends_on (again.passes).extends (last.passes).extends) in
    second_related M a b s u never k half again.passes again.verdict again.built (tree z.meaning) m.field-0
    (binder_tree tree z.meaning) c.args.a.now
    (stays_binder tree g.T.HasTree.stays stays c.args.a.now k.left_known) last

-- A binder is no type.
under_none : (vars : Option (List BoundKind)) (t : Tree) → IsTrue (known (under vars t)) →
    sort_of (under vars t) ≡ type_sort → ⊥
under_none (Some ks) t k s = cc
under_none None t k s = absurd (false≢true k)

pub returns-in_default-2-clause-registers : goal.returns-in_default-2-clause-registers
returns-in_default-2-clause-registers g c =
    let r = g.R.HasState.state c.args.r.now in
    let tree = g.T.HasTree.tree in
    left_none g.R.TypeRelation.manner r (g.R.HasState.state c.open_binders-2.new.self) (binder_tree tree r.meaning c.args.a.now)
    (binder_tree tree r.meaning c.args.b.now) r.ambient (Ok c.args.a.now)
    (under_none ((r.meaning).bound_vars c.args.a.now.bound_vars) (tree r.meaning c.args.a.now.value) c.requires.asked.left_known)

pub returns-clause-registers : goal.returns-clause-registers
returns-clause-registers g c =
    let r = g.R.HasState.state c.args.r.now in
    let tree = g.T.HasTree.tree in
    left_none g.R.TypeRelation.manner r (g.R.HasState.state c.relate-2.new.r) (binder_tree tree r.meaning c.args.a.now)
    (binder_tree tree r.meaning c.args.b.now) r.ambient (Ok c.args.a.now)
    (under_none ((r.meaning).bound_vars c.args.a.now.bound_vars) (tree r.meaning c.args.a.now.value) c.requires.asked.left_known)
