use Rattle.std.proofs.Common.{IsTrue, refl, sym, subst, subst₂}
use Rattle.term_enums.specs.declared.memory.OutOfMemory.{OutOfMemory}
use Rattle.relation_terms.specs.Heads.{type_sort}
use Rattle.relation_terms.specs.Trees.{IsTerm, known}
use Rattle.relation_folds.specs.declared.error.RelateFault.TheVariants.{Memory}
use Rattle.relation_semantics.specs.ContextCalls.{Stands}
use Rattle.relation_semantics.specs.Resolving.{IsShallow}
use Rattle.relation_semantics.proofs.Passing.{as_err}
use Rattle.relation_combining.specs.Combining.{CanMeet, MeetsTys, left_error, right_error, not_left}
use Rattle.relation_combining.specs.Deferring.{LeftAs, StandsAs}
use Rattle.relation_combining.proofs.Combining.{combined_later, types_stepped, types_met}
use Rattle.relation_combining.proofs.CombiningTys.{alias_memory, stands_there, error_left, error_right, to_goal, not_to_goal, to_open, not_to_open}
use Rattle.relation_combining.proofs.DeferredPairs.{clean}
use Rattle.relation_combining.proofs.OverContext.{can_meet, stands_grows}
use Rattle.relation_steps.proofs.Sorted.{ty_sorted}
use Rattle.relation_combining.proofs.combine.super_combine_tys.Goals as goal

pub returns-in-Error-clause-stepped : goal.returns-in-Error-clause-stepped
returns-in-Error-clause-stepped g c = λ n m.
    let x = c.args.relation.now in
    let r = g.R.HasState.state x in
    let o = g.met.R.PredicateEmittingRelation.over x in
    let y = g.R.PredicateEmittingRelation.context x in
    let s = g.Infcx.InferCtxtLike.state y in
    let a = c.args.a.now in
    let b = c.args.b.now in
    let cx = g.Infcx.InferCtxtLike.interner y in
    let of = g.met.Infcx.InferCtxtLike.reads y in
    let lawful = o.lawful c.requires.lawful in
    let sound = g.met.Infcx.InferCtxtLike.sound y lawful in
    let k = c.requires.asked in
    let sorts : (t : _) → IsTrue (known ((s.meaning).ty t)) → IsTerm type_sort ((s.meaning).ty t) =
    λ t h. ty_sorted of t ((g.met.Infcx.Interner.Interner.sorted cx).ty t) h in
    let sl = stands_there o a b a c.ty_standing-left.result (subst (λ z. StandsAs c.ty_standing-left.result
    (((g.Infcx.InferCtxtLike.state z).meaning).ty a)) c.infcx.ensures c.ty_standing-left.ensures) in
    error_left o c.requires.decides sound a b k sorts (g.R.HasState.state c.taint.new.relation) c.taint.ensures.alone
    c.taint.ensures.kept (subst (λ w. StandsAs w ((r.meaning).ty a)) c.in-Error.is sl)

pub returns-in-Error-clause-combines : goal.returns-in-Error-clause-combines
returns-in-Error-clause-combines g c =
    let x = c.args.relation.now in
    let r = g.R.HasState.state x in
    let o = g.met.R.PredicateEmittingRelation.over x in
    let y = g.R.PredicateEmittingRelation.context x in
    let s = g.Infcx.InferCtxtLike.state y in
    let a = c.args.a.now in
    let b = c.args.b.now in
    let sl = stands_there o a b a c.ty_standing-left.result (subst (λ z. StandsAs c.ty_standing-left.result
    (((g.Infcx.InferCtxtLike.state z).meaning).ty a)) c.infcx.ensures c.ty_standing-left.ensures) in
    left_error (subst (λ w. StandsAs w ((r.meaning).ty a)) c.in-Error.is sl) c.taint.ensures.alone refl

pub returns-in-Error-clause-memory : goal.returns-in-Error-clause-memory
returns-in-Error-clause-memory g c = c.taint.ensures.kept.remembered

pub returns-in-Error-right : goal.returns-in-Error-right
returns-in-Error-right g c =
    let x = c.args.relation.now in
    let r = g.R.HasState.state x in
    let o = g.met.R.PredicateEmittingRelation.over x in
    let y = g.R.PredicateEmittingRelation.context x in
    let s = g.Infcx.InferCtxtLike.state y in
    let a = c.args.a.now in
    let b = c.args.b.now in
    let cx = g.Infcx.InferCtxtLike.interner y in
    let of = g.met.Infcx.InferCtxtLike.reads y in
    let lawful = o.lawful c.requires.lawful in
    let sound = g.met.Infcx.InferCtxtLike.sound y lawful in
    let k = c.requires.asked in
    let sorts : (t : _) → IsTrue (known ((s.meaning).ty t)) → IsTerm type_sort ((s.meaning).ty t) =
    λ t h. ty_sorted of t ((g.met.Infcx.Interner.Interner.sorted cx).ty t) h in
    let sl = stands_there o a b a c.ty_standing-left.result (subst (λ z. StandsAs c.ty_standing-left.result
    (((g.Infcx.InferCtxtLike.state z).meaning).ty a)) c.infcx.ensures c.ty_standing-left.ensures) in
    let sr = stands_there o a b b c.ty_standing-right.result (subst (λ z. StandsAs c.ty_standing-right.result
    (((g.Infcx.InferCtxtLike.state z).meaning).ty b)) c.infcx-2.ensures c.ty_standing-right.ensures) in
    let left_clean = clean c.ty_standing-left.result ((r.meaning).ty a) sl c.in_default.not-Error in
    let is = subst (λ w. StandsAs w ((r.meaning).ty b)) c.in-Error-right.is sr in
    record {
      stepped = λ n m. error_right o c.requires.decides sound a b k sorts (g.R.HasState.state c.taint-in-Error-right.new.relation)
          c.taint-in-Error-right.ensures.alone c.taint-in-Error-right.ensures.kept is;
      combines = right_error left_clean is c.taint-in-Error-right.ensures.alone refl;
      memory = c.taint-in-Error-right.ensures.kept.remembered;
    }

pub returns-in_err-register_alias_relate_predicate-in-ToGoal :
    goal.returns-in_err-register_alias_relate_predicate-in-ToGoal
returns-in_err-register_alias_relate_predicate-in-ToGoal g c =
    let x = c.args.relation.now in
    let r = g.R.HasState.state x in
    let o = g.met.R.PredicateEmittingRelation.over x in
    let y = g.R.PredicateEmittingRelation.context x in
    let s = g.Infcx.InferCtxtLike.state y in
    let a = c.args.a.now in
    let b = c.args.b.now in
    let cx = g.Infcx.InferCtxtLike.interner y in
    let of = g.met.Infcx.InferCtxtLike.reads y in
    let lawful = o.lawful c.requires.lawful in
    let sound = g.met.Infcx.InferCtxtLike.sound y lawful in
    let k = c.requires.asked in
    let sorts : (t : _) → IsTrue (known ((s.meaning).ty t)) → IsTerm type_sort ((s.meaning).ty t) =
    λ t h. ty_sorted of t ((g.met.Infcx.Interner.Interner.sorted cx).ty t) h in
    let sl = stands_there o a b a c.ty_standing-left.result (subst (λ z. StandsAs c.ty_standing-left.result
    (((g.Infcx.InferCtxtLike.state z).meaning).ty a)) c.infcx.ensures c.ty_standing-left.ensures) in
    let sr = stands_there o a b b c.ty_standing-right.result (subst (λ z. StandsAs c.ty_standing-right.result
    (((g.Infcx.InferCtxtLike.state z).meaning).ty b)) c.infcx-2.ensures c.ty_standing-right.ensures) in
    let left_clean = clean c.ty_standing-left.result ((r.meaning).ty a) sl c.in_default.not-Error in
    let right_clean = clean c.ty_standing-right.result ((r.meaning).ty b) sr c.in_default-right.not-Error in
    let leaves = c.left_to.ensures ((r.meaning).ty a) ((r.meaning).ty b) sl sr in
    let left = subst (LeftAs r.kept.settings ((r.meaning).ty a) ((r.meaning).ty b)) c.in-ToGoal.is leaves in
    let from = c.from_residual in
    let z = not_to_goal o c.requires.decides sound a b k sorts (g.R.HasState.state c.register_alias_relate_predicate.new.self)
    (left_clean, right_clean) (Unit {0}) OutOfMemory c.in_err-register_alias_relate_predicate-in-ToGoal.field-0.0 from.result left
    c.in_err-register_alias_relate_predicate-in-ToGoal.ensures
    (as_err from.result Memory from.ensures.0 from.ensures.1) in
    record {
      stepped = λ n m. z.0;
      combines = z.1;
      memory = alias_memory r (g.R.HasState.state c.register_alias_relate_predicate.new.self) a b _ c.requires.decides
          c.in_err-register_alias_relate_predicate-in-ToGoal.ensures;
    }

pub returns-in_err-register-in-Open : goal.returns-in_err-register-in-Open
returns-in_err-register-in-Open g c =
    let x = c.args.relation.now in
    let r = g.R.HasState.state x in
    let o = g.met.R.PredicateEmittingRelation.over x in
    let y = g.R.PredicateEmittingRelation.context x in
    let s = g.Infcx.InferCtxtLike.state y in
    let a = c.args.a.now in
    let b = c.args.b.now in
    let cx = g.Infcx.InferCtxtLike.interner y in
    let of = g.met.Infcx.InferCtxtLike.reads y in
    let lawful = o.lawful c.requires.lawful in
    let sound = g.met.Infcx.InferCtxtLike.sound y lawful in
    let k = c.requires.asked in
    let sorts : (t : _) → IsTrue (known ((s.meaning).ty t)) → IsTerm type_sort ((s.meaning).ty t) =
    λ t h. ty_sorted of t ((g.met.Infcx.Interner.Interner.sorted cx).ty t) h in
    let sl = stands_there o a b a c.ty_standing-left.result (subst (λ z. StandsAs c.ty_standing-left.result
    (((g.Infcx.InferCtxtLike.state z).meaning).ty a)) c.infcx.ensures c.ty_standing-left.ensures) in
    let sr = stands_there o a b b c.ty_standing-right.result (subst (λ z. StandsAs c.ty_standing-right.result
    (((g.Infcx.InferCtxtLike.state z).meaning).ty b)) c.infcx-2.ensures c.ty_standing-right.ensures) in
    let left_clean = clean c.ty_standing-left.result ((r.meaning).ty a) sl c.in_default.not-Error in
    let right_clean = clean c.ty_standing-right.result ((r.meaning).ty b) sr c.in_default-right.not-Error in
    let leaves = c.left_to.ensures ((r.meaning).ty a) ((r.meaning).ty b) sl sr in
    let left = subst (LeftAs r.kept.settings ((r.meaning).ty a) ((r.meaning).ty b)) c.in-Open.is leaves in
    let from = c.from_residual-in_err-register-in-Open in
    let z = not_to_open o c.requires.decides sound a b k sorts (g.R.HasState.state c.register.new.relation)
    (left_clean, right_clean) (Unit {0}) OutOfMemory c.in_err-register-in-Open.field-0.0 from.result left
    c.in_err-register-in-Open.ensures
    (as_err from.result Memory from.ensures.0 from.ensures.1) in
    record {
      stepped = λ n m. z.0;
      combines = z.1;
      memory = c.in_err-register-in-Open.ensures.remembered;
    }

pub meet_tys-requires : goal.meet_tys-requires
meet_tys-requires g c =
    let o = g.met.R.PredicateEmittingRelation.over c.args.relation.now in
    subst (λ z. CanMeet (λ m. m.ty) IsShallow (g.Infcx.InferCtxtLike.state z) c.args.a.now c.args.b.now)
    (sym c.infcx_mut.ensures.value) (can_meet (λ m. m.ty) IsShallow o c.args.a.now c.args.b.now c.requires)

pub returns-in_ok-register_alias_relate_predicate-in-ToGoal :
    goal.returns-in_ok-register_alias_relate_predicate-in-ToGoal
returns-in_ok-register_alias_relate_predicate-in-ToGoal g c =
    let x = c.args.relation.now in
    let r = g.R.HasState.state x in
    let o = g.met.R.PredicateEmittingRelation.over x in
    let y = g.R.PredicateEmittingRelation.context x in
    let s = g.Infcx.InferCtxtLike.state y in
    let a = c.args.a.now in
    let b = c.args.b.now in
    let cx = g.Infcx.InferCtxtLike.interner y in
    let of = g.met.Infcx.InferCtxtLike.reads y in
    let lawful = o.lawful c.requires.lawful in
    let sound = g.met.Infcx.InferCtxtLike.sound y lawful in
    let k = c.requires.asked in
    let sorts : (t : _) → IsTrue (known ((s.meaning).ty t)) → IsTerm type_sort ((s.meaning).ty t) =
    λ t h. ty_sorted of t ((g.met.Infcx.Interner.Interner.sorted cx).ty t) h in
    let sl = stands_there o a b a c.ty_standing-left.result (subst (λ z. StandsAs c.ty_standing-left.result
    (((g.Infcx.InferCtxtLike.state z).meaning).ty a)) c.infcx.ensures c.ty_standing-left.ensures) in
    let sr = stands_there o a b b c.ty_standing-right.result (subst (λ z. StandsAs c.ty_standing-right.result
    (((g.Infcx.InferCtxtLike.state z).meaning).ty b)) c.infcx-2.ensures c.ty_standing-right.ensures) in
    let left_clean = clean c.ty_standing-left.result ((r.meaning).ty a) sl c.in_default.not-Error in
    let right_clean = clean c.ty_standing-right.result ((r.meaning).ty b) sr c.in_default-right.not-Error in
    let leaves = c.left_to.ensures ((r.meaning).ty a) ((r.meaning).ty b) sl sr in
    let left = subst (LeftAs r.kept.settings ((r.meaning).ty a) ((r.meaning).ty b)) c.in-ToGoal.is leaves in
    let z = to_goal o c.requires.decides sound a b k sorts (g.R.HasState.state c.register_alias_relate_predicate.new.self)
    (left_clean, right_clean) (Unit {0}) OutOfMemory c.in_ok-register_alias_relate_predicate-in-ToGoal.field-0 left
    c.in_ok-register_alias_relate_predicate-in-ToGoal.ensures in
    record {
      stepped = λ n m. z.0;
      combines = z.1;
      memory = alias_memory r (g.R.HasState.state c.register_alias_relate_predicate.new.self) a b _ c.requires.decides
          c.in_ok-register_alias_relate_predicate-in-ToGoal.ensures;
    }

pub returns-in_ok-register-in-Open : goal.returns-in_ok-register-in-Open
returns-in_ok-register-in-Open g c =
    let x = c.args.relation.now in
    let r = g.R.HasState.state x in
    let o = g.met.R.PredicateEmittingRelation.over x in
    let y = g.R.PredicateEmittingRelation.context x in
    let s = g.Infcx.InferCtxtLike.state y in
    let a = c.args.a.now in
    let b = c.args.b.now in
    let cx = g.Infcx.InferCtxtLike.interner y in
    let of = g.met.Infcx.InferCtxtLike.reads y in
    let lawful = o.lawful c.requires.lawful in
    let sound = g.met.Infcx.InferCtxtLike.sound y lawful in
    let k = c.requires.asked in
    let sorts : (t : _) → IsTrue (known ((s.meaning).ty t)) → IsTerm type_sort ((s.meaning).ty t) =
    λ t h. ty_sorted of t ((g.met.Infcx.Interner.Interner.sorted cx).ty t) h in
    let sl = stands_there o a b a c.ty_standing-left.result (subst (λ z. StandsAs c.ty_standing-left.result
    (((g.Infcx.InferCtxtLike.state z).meaning).ty a)) c.infcx.ensures c.ty_standing-left.ensures) in
    let sr = stands_there o a b b c.ty_standing-right.result (subst (λ z. StandsAs c.ty_standing-right.result
    (((g.Infcx.InferCtxtLike.state z).meaning).ty b)) c.infcx-2.ensures c.ty_standing-right.ensures) in
    let left_clean = clean c.ty_standing-left.result ((r.meaning).ty a) sl c.in_default.not-Error in
    let right_clean = clean c.ty_standing-right.result ((r.meaning).ty b) sr c.in_default-right.not-Error in
    let leaves = c.left_to.ensures ((r.meaning).ty a) ((r.meaning).ty b) sl sr in
    let left = subst (LeftAs r.kept.settings ((r.meaning).ty a) ((r.meaning).ty b)) c.in-Open.is leaves in
    let z = to_open o c.requires.decides sound a b k sorts (g.R.HasState.state c.register.new.relation)
    (left_clean, right_clean) (Unit {0}) OutOfMemory c.in_ok-register-in-Open.field-0 left
    c.in_ok-register-in-Open.ensures in
    record {
      stepped = λ n m. z.0;
      combines = z.1;
      memory = c.in_ok-register-in-Open.ensures.remembered;
    }

pub returns-in-ToNone : goal.returns-in-ToNone
returns-in-ToNone g c =
    let x = c.args.relation.now in
    let r = g.R.HasState.state x in
    let o = g.met.R.PredicateEmittingRelation.over x in
    let y = g.R.PredicateEmittingRelation.context x in
    let s = g.Infcx.InferCtxtLike.state y in
    let a = c.args.a.now in
    let b = c.args.b.now in
    let cx = g.Infcx.InferCtxtLike.interner y in
    let of = g.met.Infcx.InferCtxtLike.reads y in
    let lawful = o.lawful c.requires.lawful in
    let sound = g.met.Infcx.InferCtxtLike.sound y lawful in
    let k = c.requires.asked in
    let sorts : (t : _) → IsTrue (known ((s.meaning).ty t)) → IsTerm type_sort ((s.meaning).ty t) =
    λ t h. ty_sorted of t ((g.met.Infcx.Interner.Interner.sorted cx).ty t) h in
    let sl = stands_there o a b a c.ty_standing-left.result (subst (λ z. StandsAs c.ty_standing-left.result
    (((g.Infcx.InferCtxtLike.state z).meaning).ty a)) c.infcx.ensures c.ty_standing-left.ensures) in
    let sr = stands_there o a b b c.ty_standing-right.result (subst (λ z. StandsAs c.ty_standing-right.result
    (((g.Infcx.InferCtxtLike.state z).meaning).ty b)) c.infcx-2.ensures c.ty_standing-right.ensures) in
    let left_clean = clean c.ty_standing-left.result ((r.meaning).ty a) sl c.in_default.not-Error in
    let right_clean = clean c.ty_standing-right.result ((r.meaning).ty b) sr c.in_default-right.not-Error in
    let leaves = c.left_to.ensures ((r.meaning).ty a) ((r.meaning).ty b) sl sr in
    let left = subst (LeftAs r.kept.settings ((r.meaning).ty a) ((r.meaning).ty b)) c.in-ToNone.is leaves in
    let z = c.meet_tys.new.infcx in
    let d = g.Infcx.InferCtxtLike.state z in
    let q = g.R.HasState.state (g.R.PredicateEmittingRelation.with_context x z) in
    let res = c.meet_tys.result in
    let stands = subst (λ z. Stands (g.Infcx.InferCtxtLike.state z) d) c.infcx_mut.ensures.value c.meet_tys.ensures.stands in
    let meets = subst (λ z. MeetsTys (g.Infcx.InferCtxtLike.state z).meaning (g.Infcx.InferCtxtLike.state z).store
    d.store a b res) c.infcx_mut.ensures.value c.meet_tys.ensures.combines in
    let w = c.lemma_context_grows.ensures z (stands_grows s d stands) (combined_later s.meaning s.store d.store a b res sound meets)
    c.requires.lawful in
    record {
      stepped = λ n m. types_stepped r s d o c.requires.decides sound q w stands.meaning a b res k (sorts a) (sorts b) n m
          (left_clean, right_clean) left meets;
      combines = not_left (left_clean, right_clean) left w.goals (types_met r q s d o w a b res meets);
      memory = w.remembered;
    }
