use Rattle.std.proofs.Common.{IsTrue, refl, sym, subst, subst₂}
use Rattle.relation_terms.specs.Heads.{const_sort}
use Rattle.relation_terms.specs.Trees.{IsTerm, known}
use Rattle.relation_folds.specs.declared.error.RelateFault.TheVariants.{Memory}
use Rattle.term_enums.specs.declared.AliasRelationDirection.TheVariants.{Equate}
use Rattle.relation_semantics.specs.ContextCalls.{Grows}
use Rattle.relation_semantics.specs.Errors.{IsDeferred}
use Rattle.relation_semantics.specs.Goals.{alias_relate_predicate}
use Rattle.relation_semantics.specs.Lawful.{Stepped}
use Rattle.relation_semantics.specs.Parts.{IsFormedConst}
use Rattle.relation_semantics.specs.Resolving.{IsShallowConst}
use Rattle.relation_semantics.proofs.Passing.{as_err}
use Rattle.relation_combining.specs.Combining.{CanMeet, MeetsConsts, const_not_left as not_left_consts}
use Rattle.relation_combining.specs.Solving.{solver_manner}
use Rattle.relation_combining.proofs.Combining.{consts_later, consts_stepped, consts_met}
use Rattle.relation_combining.proofs.DeferredPairs.{const_not_left}
use Rattle.relation_combining.proofs.OverContext.{can_meet}
use Rattle.relation_combining.proofs.DeferringSteps.{consts_to_goal, goal_refused}
use Rattle.relation_steps.proofs.Sorted.{const_sorted}
use Rattle.relation_combining.proofs.combine.combine_shallow.Goals as goal

pub returns-in_err-register-clause-stepped :
    goal.returns-in_err-register-clause-stepped
returns-in_err-register-clause-stepped g c =
    let r = g.R.HasState.state c.args.relation.now in
    let q = g.R.HasState.state c.register.new.relation in
    let a = (r.meaning).const_ c.args.a.now in
    let b = (r.meaning).const_ c.args.b.now in
    let res = c.from_residual in
    subst (Stepped solver_manner IsFormedConst r q a b (q.meaning).const_)
    (sym (as_err res.result Memory res.ensures.0 res.ensures.1))
    (goal_refused IsFormedConst a b (q.meaning).const_ (alias_relate_predicate Equate a b)
    c.in_err-register.ensures)

pub returns-then-is_left_const-clause-stepped : goal.returns-then-is_left_const-clause-stepped
returns-then-is_left_const-clause-stepped g c =
    let x = c.args.relation.now in
    let r = g.R.HasState.state x in
    let o = g.met.R.PredicateEmittingRelation.over x in
    let y = g.R.PredicateEmittingRelation.context x in
    let s = g.Infcx.InferCtxtLike.state y in
    let a = c.args.a.now in
    let b = c.args.b.now in
    let cx = g.Infcx.InferCtxtLike.interner y in
    let of = g.met.Infcx.InferCtxtLike.reads y in
    let sorts : (t : _) → IsTrue (known ((s.meaning).const_ t)) → IsTerm const_sort ((s.meaning).const_ t) =
    λ t h. const_sorted of t ((g.met.Infcx.Interner.Interner.sorted cx).const_ t) h in
    let k = c.requires.asked in
    let left = c.is_left_const.ensures.left c.if-is_left_const.true in
    let there : (t : _) → IsTrue (known ((r.meaning).const_ t)) → IsTerm const_sort ((r.meaning).const_ t) =
    λ t h. subst (λ m. IsTerm const_sort (m.const_ t)) (sym o.meaning)
    (sorts t (subst (λ m. IsTrue (known (m.const_ t))) o.meaning h)) in
    consts_to_goal (alias_relate_predicate Equate ((r.meaning).const_ a) ((r.meaning).const_ b))
    c.in_ok-register.ensures a b k (there a k.left_known) (there b k.right_known) left.0 left.1 refl

pub meet_consts-requires : goal.meet_consts-requires
meet_consts-requires g c =
    let o = g.met.R.PredicateEmittingRelation.over c.args.relation.now in
    subst (λ z. CanMeet (λ m. m.const_) IsShallowConst (g.Infcx.InferCtxtLike.state z) c.args.a.now c.args.b.now)
    (sym c.infcx_mut.ensures.value) (can_meet (λ m. m.const_) IsShallowConst o c.args.a.now c.args.b.now c.requires)

pub returns-clause-stepped : goal.returns-clause-stepped
returns-clause-stepped g c =
    let x = c.args.relation.now in
    let r = g.R.HasState.state x in
    let o = g.met.R.PredicateEmittingRelation.over x in
    let y = g.R.PredicateEmittingRelation.context x in
    let s = g.Infcx.InferCtxtLike.state y in
    let a = c.args.a.now in
    let b = c.args.b.now in
    let cx = g.Infcx.InferCtxtLike.interner y in
    let of = g.met.Infcx.InferCtxtLike.reads y in
    let lawful = o.lawful c.requires.lawful in
    let sound = g.met.Infcx.InferCtxtLike.sound y lawful in
    let z = c.meet_consts.new.infcx in
    let d = g.Infcx.InferCtxtLike.state z in
    let q = g.R.HasState.state (g.R.PredicateEmittingRelation.with_context x z) in
    let res = c.meet_consts.result in
    let al = r.kept.settings.structurally_relate_aliases in
    let numbers = g.met.Infcx.InferCtxtLike.numbers y lawful in
    let grows = subst (λ z. Grows (g.Infcx.InferCtxtLike.state z) d) c.infcx_mut.ensures.value c.meet_consts.ensures.grows in
    let meets = subst (λ z. MeetsConsts (g.Infcx.InferCtxtLike.state z).meaning d.meaning
    (g.Infcx.InferCtxtLike.state z).store d.store al a b res) c.infcx_mut.ensures.value
    (subst (λ l. MeetsConsts (g.Infcx.InferCtxtLike.state c.infcx_mut.result.now).meaning d.meaning
    (g.Infcx.InferCtxtLike.state c.infcx_mut.result.now).store d.store l a b res) c.structurally_relate_aliases-aliases.ensures
    c.meet_consts.ensures.combines) in
    let by_lists = g.met.Infcx.InferCtxtLike.bound_by_lists z grows.lawful in
    let sorts : (t : _) → IsTrue (known ((s.meaning).const_ t)) → IsTerm const_sort ((s.meaning).const_ t) =
    λ t h. const_sorted of t ((g.met.Infcx.Interner.Interner.sorted cx).const_ t) h in
    let a_shallow = subst₂ (λ st m. IsShallowConst st (m.const_ a)) o.store o.meaning c.requires.a_shallow in
    let b_shallow = subst₂ (λ st m. IsShallowConst st (m.const_ b)) o.store o.meaning c.requires.b_shallow in
    let not_left = c.is_left_const.ensures.not c.if-is_left_const.false in
    let left : IsFormedConst ((r.meaning).const_ a) → IsFormedConst ((r.meaning).const_ b) →
    IsDeferred r.kept.settings ((r.meaning).const_ a) ((r.meaning).const_ b) → ⊥ =
    λ f h. const_not_left r.kept.settings ((r.meaning).const_ a) ((r.meaning).const_ b) f h (not_left (f, h)) in
    let left_there = subst (λ m. IsFormedConst (m.const_ a) → IsFormedConst (m.const_ b) →
    IsDeferred r.kept.settings (m.const_ a) (m.const_ b) → ⊥) o.meaning left in
    let w = c.lemma_context_grows.ensures z grows (consts_later r s d o c.requires.decides sound grows.extends numbers by_lists
    a b res c.requires.asked sorts a_shallow b_shallow left_there meets) c.requires.lawful in
    consts_stepped r s d o c.requires.decides sound grows.extends numbers by_lists a b res c.requires.asked sorts a_shallow
    b_shallow left_there meets q w

pub returns-clause-combines : goal.returns-clause-combines
returns-clause-combines g c =
    let x = c.args.relation.now in
    let r = g.R.HasState.state x in
    let o = g.met.R.PredicateEmittingRelation.over x in
    let y = g.R.PredicateEmittingRelation.context x in
    let s = g.Infcx.InferCtxtLike.state y in
    let a = c.args.a.now in
    let b = c.args.b.now in
    let cx = g.Infcx.InferCtxtLike.interner y in
    let of = g.met.Infcx.InferCtxtLike.reads y in
    let lawful = o.lawful c.requires.lawful in
    let sound = g.met.Infcx.InferCtxtLike.sound y lawful in
    let z = c.meet_consts.new.infcx in
    let d = g.Infcx.InferCtxtLike.state z in
    let q = g.R.HasState.state (g.R.PredicateEmittingRelation.with_context x z) in
    let res = c.meet_consts.result in
    let al = r.kept.settings.structurally_relate_aliases in
    let numbers = g.met.Infcx.InferCtxtLike.numbers y lawful in
    let grows = subst (λ z. Grows (g.Infcx.InferCtxtLike.state z) d) c.infcx_mut.ensures.value c.meet_consts.ensures.grows in
    let meets = subst (λ z. MeetsConsts (g.Infcx.InferCtxtLike.state z).meaning d.meaning
    (g.Infcx.InferCtxtLike.state z).store d.store al a b res) c.infcx_mut.ensures.value
    (subst (λ l. MeetsConsts (g.Infcx.InferCtxtLike.state c.infcx_mut.result.now).meaning d.meaning
    (g.Infcx.InferCtxtLike.state c.infcx_mut.result.now).store d.store l a b res) c.structurally_relate_aliases-aliases.ensures
    c.meet_consts.ensures.combines) in
    let by_lists = g.met.Infcx.InferCtxtLike.bound_by_lists z grows.lawful in
    let sorts : (t : _) → IsTrue (known ((s.meaning).const_ t)) → IsTerm const_sort ((s.meaning).const_ t) =
    λ t h. const_sorted of t ((g.met.Infcx.Interner.Interner.sorted cx).const_ t) h in
    let a_shallow = subst₂ (λ st m. IsShallowConst st (m.const_ a)) o.store o.meaning c.requires.a_shallow in
    let b_shallow = subst₂ (λ st m. IsShallowConst st (m.const_ b)) o.store o.meaning c.requires.b_shallow in
    let not_left = c.is_left_const.ensures.not c.if-is_left_const.false in
    let left : IsFormedConst ((r.meaning).const_ a) → IsFormedConst ((r.meaning).const_ b) →
    IsDeferred r.kept.settings ((r.meaning).const_ a) ((r.meaning).const_ b) → ⊥ =
    λ f h. const_not_left r.kept.settings ((r.meaning).const_ a) ((r.meaning).const_ b) f h (not_left (f, h)) in
    let left_there = subst (λ m. IsFormedConst (m.const_ a) → IsFormedConst (m.const_ b) →
    IsDeferred r.kept.settings (m.const_ a) (m.const_ b) → ⊥) o.meaning left in
    let w = c.lemma_context_grows.ensures z grows (consts_later r s d o c.requires.decides sound grows.extends numbers by_lists
    a b res c.requires.asked sorts a_shallow b_shallow left_there meets) c.requires.lawful in
    not_left_consts left w.goals (consts_met r q s d o w a b res meets)

pub returns-clause-memory : goal.returns-clause-memory
returns-clause-memory g c =
    let x = c.args.relation.now in
    let r = g.R.HasState.state x in
    let o = g.met.R.PredicateEmittingRelation.over x in
    let y = g.R.PredicateEmittingRelation.context x in
    let s = g.Infcx.InferCtxtLike.state y in
    let a = c.args.a.now in
    let b = c.args.b.now in
    let cx = g.Infcx.InferCtxtLike.interner y in
    let of = g.met.Infcx.InferCtxtLike.reads y in
    let lawful = o.lawful c.requires.lawful in
    let sound = g.met.Infcx.InferCtxtLike.sound y lawful in
    let z = c.meet_consts.new.infcx in
    let d = g.Infcx.InferCtxtLike.state z in
    let q = g.R.HasState.state (g.R.PredicateEmittingRelation.with_context x z) in
    let res = c.meet_consts.result in
    let al = r.kept.settings.structurally_relate_aliases in
    let numbers = g.met.Infcx.InferCtxtLike.numbers y lawful in
    let grows = subst (λ z. Grows (g.Infcx.InferCtxtLike.state z) d) c.infcx_mut.ensures.value c.meet_consts.ensures.grows in
    let meets = subst (λ z. MeetsConsts (g.Infcx.InferCtxtLike.state z).meaning d.meaning
    (g.Infcx.InferCtxtLike.state z).store d.store al a b res) c.infcx_mut.ensures.value
    (subst (λ l. MeetsConsts (g.Infcx.InferCtxtLike.state c.infcx_mut.result.now).meaning d.meaning
    (g.Infcx.InferCtxtLike.state c.infcx_mut.result.now).store d.store l a b res) c.structurally_relate_aliases-aliases.ensures
    c.meet_consts.ensures.combines) in
    let by_lists = g.met.Infcx.InferCtxtLike.bound_by_lists z grows.lawful in
    let sorts : (t : _) → IsTrue (known ((s.meaning).const_ t)) → IsTerm const_sort ((s.meaning).const_ t) =
    λ t h. const_sorted of t ((g.met.Infcx.Interner.Interner.sorted cx).const_ t) h in
    let a_shallow = subst₂ (λ st m. IsShallowConst st (m.const_ a)) o.store o.meaning c.requires.a_shallow in
    let b_shallow = subst₂ (λ st m. IsShallowConst st (m.const_ b)) o.store o.meaning c.requires.b_shallow in
    let not_left = c.is_left_const.ensures.not c.if-is_left_const.false in
    let left : IsFormedConst ((r.meaning).const_ a) → IsFormedConst ((r.meaning).const_ b) →
    IsDeferred r.kept.settings ((r.meaning).const_ a) ((r.meaning).const_ b) → ⊥ =
    λ f h. const_not_left r.kept.settings ((r.meaning).const_ a) ((r.meaning).const_ b) f h (not_left (f, h)) in
    let left_there = subst (λ m. IsFormedConst (m.const_ a) → IsFormedConst (m.const_ b) →
    IsDeferred r.kept.settings (m.const_ a) (m.const_ b) → ⊥) o.meaning left in
    let w = c.lemma_context_grows.ensures z grows (consts_later r s d o c.requires.decides sound grows.extends numbers by_lists
    a b res c.requires.asked sorts a_shallow b_shallow left_there meets) c.requires.lawful in
    w.remembered

pub returns-in_err-register-clause-memory : goal.returns-in_err-register-clause-memory
returns-in_err-register-clause-memory g c = c.in_err-register.ensures.remembered

pub returns-then-is_left_const-clause-memory : goal.returns-then-is_left_const-clause-memory
returns-then-is_left_const-clause-memory g c = c.in_ok-register.ensures.remembered
