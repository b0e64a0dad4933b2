use Rattle.std.proofs.Common.{◌≡◌, refl, sym, ◌∙◌, inr, subst, Ok, IsTrue}
use Rattle.std.proofs.lemmas.Bool.{false≢true}
use Rattle.relation_terms.specs.Trees.{known}
use Rattle.relation_semantics.specs.Parts.{IsRigid}
use Rattle.relation_semantics.specs.Resolving.{formed}
use Rattle.relation_combining.specs.Solving.{solving_through, solver_manner}
use Rattle.relation_recursion.proofs.StructuralConsts.{itself_related}
use Rattle.relation_semantics.proofs.Standing.{term_within}
use Rattle.relation_combining.proofs.Shallowly.{read_step, shallow_ty_free}
use Rattle.relation_combining.proofs.OverContext.{all_taken, read_by_lists}
use Rattle.context_relation.proofs.Solving.{held_kept, answered_step}
use Rattle.relation_steps.proofs.Sorted.{one_ty, ty_sorted}
use Rattle.context_relation.proofs.StepsRecord.{tys_record}
use Rattle.relation_semantics.specs.declared.relate.Step.TheVariants.{Done}
use Rattle.relation_recursion.proofs.Alone.{step_of_one}
use Rattle.context_relation.proofs.StepsAlone.{steps_at_once, unless_variables}
use Rattle.context_relation.specs.Stepping.{one_type, without_variables, resolved_first}
use Rattle.context_relation.proofs.Recalling.{read_told}
use Rattle.context_relation.proofs.Stepping.{leaves_itself}
use Rattle.context_relation.proofs.relation.SolverRelatingTypeRelationInterner.tys.Goals as goal

pub returns-then-eq-clause-stepped : goal.returns-then-eq-clause-stepped
returns-then-eq-clause-stepped g c =
    let r = c.args.self.now in
    let s = g.Infcx.InferCtxtLike.state r.infcx.now in
    let cx = g.Infcx.InferCtxtLike.interner r.infcx.now in
    let of = g.met.Infcx.InferCtxtLike.reads r.infcx.now in
    let k = c.requires.asked in
    let same = one_ty of c.args.a.now c.args.b.now (λ h i.
    (g.met.Infcx.Interner.Interner.same_ty cx c.args.a.now c.args.b.now h i).0 (sym c.if-eq.ensures)) k.left_known
    k.right_known in
    answered_step (held_kept r.structurally_relate_aliases r.infcx.ghost_name r.cache.pairs.kept s s refl refl) r.goals.items IsRigid s.meaning s.meaning s.store s.store s.lawful s.lawful r.ambient_variance
    r.param_env ((s.meaning).ty c.args.a.now) ((s.meaning).ty c.args.b.now) (s.meaning).ty c.args.a.now
    (itself_related solver_manner (solving_through r.structurally_relate_aliases r.infcx.ghost_name r.cache.pairs.kept r.goals.items s r.ambient_variance r.param_env)
    r.ambient_variance (s.meaning).ty ((s.meaning).ty c.args.a.now) ((s.meaning).ty c.args.b.now) c.args.a.now same
    refl k.left_known)

pub step_read-requires-2 : goal.step_read-requires-2
step_read-requires-2 g c =
    let r = c.args.self.now in
    let s = g.Infcx.InferCtxtLike.state r.infcx.now in
    let all = g.met.Infcx.InferCtxtLike.bound_by_lists r.infcx.now c.requires.lawful.0.0 in
    let k = c.requires.asked in
    let l = (s.meaning).ty c.shallow_resolve-left.result in
    let t = (s.meaning).ty c.shallow_resolve-right.result in
    let p = c.shallow_resolve-left.ensures.reads in
    let q = c.shallow_resolve-right.ensures.reads in
    record {
      lawful = c.requires.lawful;
      decides = c.requires.decides;
      asked = record {
        left_known = p.sure;
        right_known = q.sure;
        left_in = (p.resolves).is_in k.left_in;
        right_in = (q.resolves).is_in k.right_in;
        left_taken = all_taken r.ambient_variance l
            (read_by_lists s.store all ((s.meaning).ty c.args.a.now) l p.reads k.left_taken.1);
        right_taken = all_taken r.ambient_variance t
            (read_by_lists s.store all ((s.meaning).ty c.args.b.now) t q.reads k.right_taken.1);
      };
      a_shallow = c.shallow_resolve-left.ensures.shallow;
      b_shallow = c.shallow_resolve-right.ensures.shallow;
    }

pub returns-clause-stepped : goal.returns-clause-stepped
returns-clause-stepped g c =
    let r = c.args.self.now in
    let s = g.Infcx.InferCtxtLike.state r.infcx.now in
    let q = c.step_read-2.new.self in
    let d = g.Infcx.InferCtxtLike.state q.infcx.now in
    read_step (solving_through r.structurally_relate_aliases r.infcx.ghost_name r.cache.pairs.kept r.goals.items s r.ambient_variance r.param_env)
    (solving_through q.structurally_relate_aliases q.infcx.ghost_name q.cache.pairs.kept q.goals.items d q.ambient_variance q.param_env)
    (g.met.Infcx.InferCtxtLike.sound r.infcx.now c.requires.lawful.0.0) ((s.meaning).ty c.args.a.now)
    ((s.meaning).ty c.args.b.now) ((s.meaning).ty c.shallow_resolve-left.result)
    ((s.meaning).ty c.shallow_resolve-right.result) c.shallow_resolve-left.ensures.reads.reads
    c.shallow_resolve-right.ensures.reads.reads
    (shallow_ty_free s.store ((s.meaning).ty c.shallow_resolve-left.result) c.shallow_resolve-left.ensures.shallow)
    (shallow_ty_free s.store ((s.meaning).ty c.shallow_resolve-right.result) c.shallow_resolve-right.ensures.shallow)
    IsRigid (d.meaning).ty c.step_read-2.result c.step_read-2.ensures.stepped

pub returns-then-have_no_variable-clause-stepped : goal.returns-then-have_no_variable-clause-stepped
returns-then-have_no_variable-clause-stepped g c = c.step_read.ensures.stepped

pub step_read-requires : goal.step_read-requires
step_read-requires g c =
    let st = (g.Infcx.InferCtxtLike.state c.args.self.now.infcx.now).store in
    let k = c.requires.asked in
    let none = c.have_no_variable.ensures in
    record {
      lawful = c.requires.lawful;
      decides = c.requires.decides;
      asked = k;
      a_shallow = formed (none.a_formed c.if-have_no_variable.true (term_within st _ k.left_in));
      b_shallow = formed (none.b_formed c.if-have_no_variable.true (term_within st _ k.right_in));
    }

pub returns-then-have_no_variable-clause-steps : goal.returns-then-have_no_variable-clause-steps
returns-then-have_no_variable-clause-steps g c =
    let r = c.args.self.now in
    let s = g.Infcx.InferCtxtLike.state r.infcx.now in
    let cx = g.Infcx.InferCtxtLike.interner r.infcx.now in
    let of = g.met.Infcx.InferCtxtLike.reads r.infcx.now in
    let k = c.requires.asked in
    let a = c.args.a.now in
    let b = c.args.b.now in
    let none = c.have_no_variable.ensures in
    let a_formed = none.a_formed c.if-have_no_variable.true (term_within s.store _ k.left_in) in
    let b_formed = none.b_formed c.if-have_no_variable.true (term_within s.store _ k.right_in) in
    let q = c.step_read.new.self in
    let d = g.Infcx.InferCtxtLike.state q.infcx.now in
    (without_variables (λ e. false≢true (c.if-eq.ensures ∙ (g.met.Infcx.Interner.Interner.same_ty cx a b
    (subst (λ z. IsTrue (known (z.ty a))) of k.left_known)
    (subst (λ z. IsTrue (known (z.ty b))) of k.right_known)).1 (subst (λ z. z.ty a ≡ z.ty b) of e)))
    (none.none c.if-have_no_variable.true) (read_told
    (solving_through r.structurally_relate_aliases r.infcx.ghost_name r.cache.pairs.kept r.goals.items s r.ambient_variance r.param_env)
    (solving_through q.structurally_relate_aliases q.infcx.ghost_name q.cache.pairs.kept q.goals.items d q.ambient_variance q.param_env)
    a b _ _ (unless_variables
    (solving_through r.structurally_relate_aliases r.infcx.ghost_name r.cache.pairs.kept r.goals.items s r.ambient_variance r.param_env)
    (solving_through q.structurally_relate_aliases q.infcx.ghost_name q.cache.pairs.kept q.goals.items d q.ambient_variance q.param_env)
    a b (λ n e. subst IsRigid e a_formed) (λ n e. subst IsRigid e b_formed)) c.step_read.result c.step_read.ensures.steps))

pub returns-then-have_no_variable-clause-registers : goal.returns-then-have_no_variable-clause-registers
returns-then-have_no_variable-clause-registers g c =
    let r = c.args.self.now in
    let s = g.Infcx.InferCtxtLike.state r.infcx.now in
    let cx = g.Infcx.InferCtxtLike.interner r.infcx.now in
    let of = g.met.Infcx.InferCtxtLike.reads r.infcx.now in
    let k = c.requires.asked in
    let a = c.args.a.now in
    let b = c.args.b.now in
    let none = c.have_no_variable.ensures in
    let a_formed = none.a_formed c.if-have_no_variable.true (term_within s.store _ k.left_in) in
    let b_formed = none.b_formed c.if-have_no_variable.true (term_within s.store _ k.right_in) in
    let q = c.step_read.new.self in
    let d = g.Infcx.InferCtxtLike.state q.infcx.now in
    steps_at_once (solving_through r.structurally_relate_aliases r.infcx.ghost_name r.cache.pairs.kept r.goals.items s r.ambient_variance r.param_env)
    (solving_through q.structurally_relate_aliases q.infcx.ghost_name q.cache.pairs.kept q.goals.items d q.ambient_variance q.param_env)
    solver_manner a b c.step_read.result c.requires.lawful.0.1 c.step_read.ensures.stepped.passes.extends
    k.left_known k.right_known (λ e. (a_formed, b_formed)) (without_variables (λ e. false≢true (c.if-eq.ensures ∙ (g.met.Infcx.Interner.Interner.same_ty cx a b
    (subst (λ z. IsTrue (known (z.ty a))) of k.left_known)
    (subst (λ z. IsTrue (known (z.ty b))) of k.right_known)).1 (subst (λ z. z.ty a ≡ z.ty b) of e)))
    (none.none c.if-have_no_variable.true) (read_told
    (solving_through r.structurally_relate_aliases r.infcx.ghost_name r.cache.pairs.kept r.goals.items s r.ambient_variance r.param_env)
    (solving_through q.structurally_relate_aliases q.infcx.ghost_name q.cache.pairs.kept q.goals.items d q.ambient_variance q.param_env)
    a b _ _ (unless_variables
    (solving_through r.structurally_relate_aliases r.infcx.ghost_name r.cache.pairs.kept r.goals.items s r.ambient_variance r.param_env)
    (solving_through q.structurally_relate_aliases q.infcx.ghost_name q.cache.pairs.kept q.goals.items d q.ambient_variance q.param_env)
    a b (λ n e. subst IsRigid e a_formed) (λ n e. subst IsRigid e b_formed)) c.step_read.result c.step_read.ensures.steps))

pub returns-then-eq-clause-registers : goal.returns-then-eq-clause-registers
returns-then-eq-clause-registers g c =
    let r = c.args.self.now in
    let s = g.Infcx.InferCtxtLike.state r.infcx.now in
    let cx = g.Infcx.InferCtxtLike.interner r.infcx.now in
    let of = g.met.Infcx.InferCtxtLike.reads r.infcx.now in
    let k = c.requires.asked in
    let same = one_ty of c.args.a.now c.args.b.now (λ h i.
    (g.met.Infcx.Interner.Interner.same_ty cx c.args.a.now c.args.b.now h i).0 (sym c.if-eq.ensures)) k.left_known
    k.right_known in
    step_of_one solver_manner (solving_through r.structurally_relate_aliases r.infcx.ghost_name r.cache.pairs.kept r.goals.items s r.ambient_variance r.param_env)
    (solving_through r.structurally_relate_aliases r.infcx.ghost_name r.cache.pairs.kept r.goals.items s r.ambient_variance r.param_env) ((s.meaning).ty c.args.a.now)
    ((s.meaning).ty c.args.b.now) (s.meaning).ty (Ok (Done c.args.a.now)) same

pub returns-clause-registers : goal.returns-clause-registers
returns-clause-registers g c =
    let r = c.args.self.now in
    let s = g.Infcx.InferCtxtLike.state r.infcx.now in
    let cx = g.Infcx.InferCtxtLike.interner r.infcx.now in
    let of = g.met.Infcx.InferCtxtLike.reads r.infcx.now in
    let k = c.requires.asked in
    let a = c.args.a.now in
    let b = c.args.b.now in
    let left = c.shallow_resolve-left.ensures in
    let right = c.shallow_resolve-right.ensures in
    let q = c.step_read-2.new.self in
    let d = g.Infcx.InferCtxtLike.state q.infcx.now in
    let one = c.have_no_variable.ensures.one c.if-have_no_variable.false in
    steps_at_once (solving_through r.structurally_relate_aliases r.infcx.ghost_name r.cache.pairs.kept r.goals.items s r.ambient_variance r.param_env)
    (solving_through q.structurally_relate_aliases q.infcx.ghost_name q.cache.pairs.kept q.goals.items d q.ambient_variance q.param_env)
    solver_manner a b c.step_read-2.result c.requires.lawful.0.1 c.step_read-2.ensures.stepped.passes.extends k.left_known
    k.right_known (λ e. absurd (false≢true (sym e ∙ one))) (resolved_first c.shallow_resolve-left.result c.shallow_resolve-right.result
    (λ e. false≢true (c.if-eq.ensures ∙ (g.met.Infcx.Interner.Interner.same_ty cx a b
    (subst (λ z. IsTrue (known (z.ty a))) of k.left_known)
    (subst (λ z. IsTrue (known (z.ty b))) of k.right_known)).1 (subst (λ z. z.ty a ≡ z.ty b) of e)))
    (c.have_no_variable.ensures.one c.if-have_no_variable.false)
    (record {
      reads = record { sure = left.reads.sure; reads = left.reads.reads; resolves = left.reads.resolves };
      shallow = left.shallow;
    })
    (record {
      reads = record { sure = right.reads.sure; reads = right.reads.reads; resolves = right.reads.resolves };
      shallow = right.shallow;
    }) c.step_read-2.ensures.steps)

pub returns-then-eq-clause-steps : goal.returns-then-eq-clause-steps
returns-then-eq-clause-steps g c =
    let r = c.args.self.now in
    let s = g.Infcx.InferCtxtLike.state r.infcx.now in
    let cx = g.Infcx.InferCtxtLike.interner r.infcx.now in
    let of = g.met.Infcx.InferCtxtLike.reads r.infcx.now in
    let k = c.requires.asked in
    let a = c.args.a.now in
    let b = c.args.b.now in
    one_type (one_ty of a b (λ h i. (g.met.Infcx.Interner.Interner.same_ty cx a b h i).0 (sym c.if-eq.ensures))
    k.left_known k.right_known) (leaves_itself (solving_through r.structurally_relate_aliases r.infcx.ghost_name r.cache.pairs.kept r.goals.items s r.ambient_variance r.param_env)) refl

pub returns-clause-steps : goal.returns-clause-steps
returns-clause-steps g c =
    let r = c.args.self.now in
    let cx = g.Infcx.InferCtxtLike.interner r.infcx.now in
    let of = g.met.Infcx.InferCtxtLike.reads r.infcx.now in
    let k = c.requires.asked in
    let a = c.args.a.now in
    let b = c.args.b.now in
    let left = c.shallow_resolve-left.ensures in
    let right = c.shallow_resolve-right.ensures in
    resolved_first c.shallow_resolve-left.result c.shallow_resolve-right.result
    (λ e. false≢true (c.if-eq.ensures ∙ (g.met.Infcx.Interner.Interner.same_ty cx a b
    (subst (λ z. IsTrue (known (z.ty a))) of k.left_known)
    (subst (λ z. IsTrue (known (z.ty b))) of k.right_known)).1 (subst (λ z. z.ty a ≡ z.ty b) of e)))
    (c.have_no_variable.ensures.one c.if-have_no_variable.false)
    (record {
      reads = record { sure = left.reads.sure; reads = left.reads.reads; resolves = left.reads.resolves };
      shallow = left.shallow;
    })
    (record {
      reads = record { sure = right.reads.sure; reads = right.reads.reads; resolves = right.reads.resolves };
      shallow = right.shallow;
    }) c.step_read-2.ensures.steps

pub returns-then-eq-clause-remembers : goal.returns-then-eq-clause-remembers
returns-then-eq-clause-remembers g c = λ none p m. inr m

pub returns-then-have_no_variable-clause-remembers : goal.returns-then-have_no_variable-clause-remembers
returns-then-have_no_variable-clause-remembers g c = λ none.
    let s = g.Infcx.InferCtxtLike.state c.args.self.now.infcx.now in
    let k = c.requires.asked in
    let e = c.have_no_variable.ensures in
    let a_formed = e.a_formed c.if-have_no_variable.true (term_within s.store _ k.left_in) in
    let b_formed = e.b_formed c.if-have_no_variable.true (term_within s.store _ k.right_in) in
    c.step_read.ensures.remembers (λ n e. subst IsRigid e a_formed) (λ n e. subst IsRigid e b_formed)

pub returns-clause-remembers : goal.returns-clause-remembers
returns-clause-remembers g c = λ none.
    absurd (false≢true (sym none ∙ c.have_no_variable.ensures.one c.if-have_no_variable.false))

pub returns-then-eq-clause-records : goal.returns-then-eq-clause-records
returns-then-eq-clause-records g c =
    let r = c.args.self.now in
    let s = g.Infcx.InferCtxtLike.state r.infcx.now in
    let cx = g.Infcx.InferCtxtLike.interner r.infcx.now in
    let of = g.met.Infcx.InferCtxtLike.reads r.infcx.now in
    let a = c.args.a.now in
    let k = c.requires.asked in
    let stepped = returns-then-eq-clause-stepped g c in
    tys_record (solving_through r.structurally_relate_aliases r.infcx.ghost_name r.cache.pairs.kept r.goals.items s r.ambient_variance r.param_env)
    (solving_through r.structurally_relate_aliases r.infcx.ghost_name r.cache.pairs.kept r.goals.items s r.ambient_variance r.param_env)
    stepped.passes a c.args.b.now k.left_known k.right_known (Ok (Done a))
    (ty_sorted of a ((g.met.Infcx.Interner.Interner.sorted cx).ty a) k.left_known) (returns-then-eq-clause-remembers g c) (returns-then-eq-clause-steps g c)

pub returns-then-have_no_variable-clause-records : goal.returns-then-have_no_variable-clause-records
returns-then-have_no_variable-clause-records g c =
    let r = c.args.self.now in
    let s = g.Infcx.InferCtxtLike.state r.infcx.now in
    let q = c.step_read.new.self in
    let d = g.Infcx.InferCtxtLike.state q.infcx.now in
    let cx = g.Infcx.InferCtxtLike.interner r.infcx.now in
    let of = g.met.Infcx.InferCtxtLike.reads r.infcx.now in
    let a = c.args.a.now in
    let k = c.requires.asked in
    let stepped = returns-then-have_no_variable-clause-stepped g c in
    tys_record (solving_through r.structurally_relate_aliases r.infcx.ghost_name r.cache.pairs.kept r.goals.items s r.ambient_variance r.param_env)
    (solving_through q.structurally_relate_aliases q.infcx.ghost_name q.cache.pairs.kept q.goals.items d q.ambient_variance q.param_env)
    stepped.passes a c.args.b.now k.left_known k.right_known c.step_read.result
    (ty_sorted of a ((g.met.Infcx.Interner.Interner.sorted cx).ty a) k.left_known) (returns-then-have_no_variable-clause-remembers g c) (returns-then-have_no_variable-clause-steps g c)

pub returns-clause-records : goal.returns-clause-records
returns-clause-records g c =
    let r = c.args.self.now in
    let s = g.Infcx.InferCtxtLike.state r.infcx.now in
    let q = c.step_read-2.new.self in
    let d = g.Infcx.InferCtxtLike.state q.infcx.now in
    let cx = g.Infcx.InferCtxtLike.interner r.infcx.now in
    let of = g.met.Infcx.InferCtxtLike.reads r.infcx.now in
    let a = c.args.a.now in
    let k = c.requires.asked in
    let stepped = returns-clause-stepped g c in
    tys_record (solving_through r.structurally_relate_aliases r.infcx.ghost_name r.cache.pairs.kept r.goals.items s r.ambient_variance r.param_env)
    (solving_through q.structurally_relate_aliases q.infcx.ghost_name q.cache.pairs.kept q.goals.items d q.ambient_variance q.param_env)
    stepped.passes a c.args.b.now k.left_known k.right_known c.step_read-2.result
    (ty_sorted of a ((g.met.Infcx.Interner.Interner.sorted cx).ty a) k.left_known) (returns-clause-remembers g c) (returns-clause-steps g c)
