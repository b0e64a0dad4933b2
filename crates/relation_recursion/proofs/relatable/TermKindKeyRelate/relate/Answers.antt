use Rattle.std.proofs.Common.{◌≡◌, IsTrue, refl, sym, subst, subst₂, Ok, Err}
use Rattle.relation_terms.specs.Meaning.{term_tree}
use Rattle.relation_terms.specs.Trees.{known}
use Rattle.relation_terms.specs.declared.terms.generic_arg.GenericArgKind.TheVariants.{Ty as TyArg, Const as ConstArg}
use Rattle.relation_terms.specs.declared.terms.generic_arg.TermKind.TheVariants.{Ty, Const}
use Rattle.relation_terms.specs.Interning.{Sorted}
use Rattle.relation_folds.specs.declared.error.TypeError.TheVariants.{Mismatch}
use Rattle.relation_folds.specs.declared.error.RelateFault.TheVariants.{Unrelated}
use Rattle.relation_semantics.specs.Lawful.{Asked, Related}
use Rattle.relation_semantics.specs.Relation.{sort_of}
use Rattle.relation_terms.specs.Heads.{type_sort}
use Rattle.relation_steps.specs.Alone.{RelatesAtOnce}
use Rattle.relation_semantics.proofs.Passing.{as_err}
use Rattle.relation_semantics.proofs.Retelling.{retold, refused_again}
use Rattle.relation_recursion.proofs.Alone.{left_none, right_none, const_none, refused_told}
use Rattle.relation_recursion.proofs.StructuralConsts.{kinds_differ}
use Rattle.relation_recursion.proofs.RelatableValues.{else_const, else_ty}
use Rattle.relation_recursion.proofs.relatable.TermKindKeyRelate.relate.Goals as goal

pub returns-in_default-clause-related : goal.returns-in_default-clause-related
returns-in_default-clause-related g c =
    let r = g.R.HasState.state c.args.r.now in
    let M = g.R.TypeRelation.manner in
    let e = g.met.R.TypeRelation.reads c.args.r.now in
    let cx = g.R.TypeRelation.interner c.args.r.now in
    let sorted : Sorted r.meaning = subst (λ m. Sorted m) (sym e) (g.met.I.Interner.sorted cx) in
    let z = else_const c.args.b.now c.in_default.not-Ty in
    let k = subst₂ (λ a b. Asked M r r.ambient (term_tree r.meaning a) (term_tree r.meaning b)) c.in-Ty.is z.1
    c.requires.asked in
    subst₂ (λ a b. Related M r r r.ambient (term_tree r.meaning a) (term_tree r.meaning b) (term_tree r.meaning)
    (Err (Unrelated Mismatch))) (sym c.in-Ty.is) (sym z.1)
    (kinds_differ r.meaning sorted M r r.ambient (term_tree r.meaning) c.requires.decides refl (TyArg c.in-Ty.a) (ConstArg z.0) tt
    k.left_known k.right_known k.left_in k.right_in)

pub returns-in_default-b-clause-related : goal.returns-in_default-b-clause-related
returns-in_default-b-clause-related g c =
    let r = g.R.HasState.state c.args.r.now in
    let M = g.R.TypeRelation.manner in
    let e = g.met.R.TypeRelation.reads c.args.r.now in
    let cx = g.R.TypeRelation.interner c.args.r.now in
    let sorted : Sorted r.meaning = subst (λ m. Sorted m) (sym e) (g.met.I.Interner.sorted cx) in
    let z = else_ty c.args.b.now c.in_default-b.not-Const in
    let k = subst₂ (λ a b. Asked M r r.ambient (term_tree r.meaning a) (term_tree r.meaning b)) c.in-Const.is z.1
    c.requires.asked in
    subst₂ (λ a b. Related M r r r.ambient (term_tree r.meaning a) (term_tree r.meaning b) (term_tree r.meaning)
    (Err (Unrelated Mismatch))) (sym c.in-Const.is) (sym z.1)
    (kinds_differ r.meaning sorted M r r.ambient (term_tree r.meaning) c.requires.decides refl (ConstArg c.in-Const.a) (TyArg z.0) tt
    k.left_known k.right_known k.left_in k.right_in)

pub returns-in_ok-tys-in-Ty-clause-related : goal.returns-in_ok-tys-in-Ty-clause-related
returns-in_ok-tys-in-Ty-clause-related g c =
    let r = g.R.HasState.state c.args.r.now in
    let M = g.R.TypeRelation.manner in
    let q = g.R.HasState.state c.tys.new.r in
    let n = c.in_ok-tys-in-Ty in
    subst₂ (λ t u. Related M r q r.ambient (term_tree r.meaning t) (term_tree r.meaning u) (term_tree q.meaning)
    (Ok (Ty n.field-0))) (sym c.in-Ty.is) (sym c.in-Ty-b.is)
    (retold M r.ambient ((r.meaning).ty c.in-Ty.a) ((r.meaning).ty c.in-Ty-b.b) (q.meaning).ty n.field-0
    (term_tree q.meaning) (Ty n.field-0) refl n.ensures.related)

pub returns-in_ok-consts-in-Const-clause-related : goal.returns-in_ok-consts-in-Const-clause-related
returns-in_ok-consts-in-Const-clause-related g c =
    let r = g.R.HasState.state c.args.r.now in
    let M = g.R.TypeRelation.manner in
    let q = g.R.HasState.state c.consts.new.r in
    let n = c.in_ok-consts-in-Const in
    subst₂ (λ t u. Related M r q r.ambient (term_tree r.meaning t) (term_tree r.meaning u) (term_tree q.meaning)
    (Ok (Const n.field-0))) (sym c.in-Const.is) (sym c.in-Const-b.is)
    (retold M r.ambient ((r.meaning).const_ c.in-Const.a) ((r.meaning).const_ c.in-Const-b.b) (q.meaning).const_ n.field-0
    (term_tree q.meaning) (Const n.field-0) refl n.ensures)

pub returns-in_default-clause-registers : goal.returns-in_default-clause-registers
returns-in_default-clause-registers g c =
    let r = g.R.HasState.state c.args.r.now in
    let M = g.R.TypeRelation.manner in
    let e = g.met.R.TypeRelation.reads c.args.r.now in
    let cx = g.R.TypeRelation.interner c.args.r.now in
    let sorted : Sorted r.meaning = subst (λ m. Sorted m) (sym e) (g.met.I.Interner.sorted cx) in
    let z = else_const c.args.b.now c.in_default.not-Ty in
    right_none M r r (term_tree r.meaning c.args.a.now) (term_tree r.meaning c.args.b.now) {X = ⊥} r.ambient
    (Err (Unrelated Mismatch)) (subst (λ x. sort_of (term_tree r.meaning x) ≡ type_sort → ⊥) (sym z.1)
    (const_none sorted (ConstArg z.0) (subst (λ x. IsTrue (known (term_tree r.meaning x))) z.1
    (c.requires.asked).right_known) z.0 refl))

pub returns-in_default-b-clause-registers : goal.returns-in_default-b-clause-registers
returns-in_default-b-clause-registers g c =
    let r = g.R.HasState.state c.args.r.now in
    let M = g.R.TypeRelation.manner in
    let e = g.met.R.TypeRelation.reads c.args.r.now in
    let cx = g.R.TypeRelation.interner c.args.r.now in
    let sorted : Sorted r.meaning = subst (λ m. Sorted m) (sym e) (g.met.I.Interner.sorted cx) in
    left_none M r r (term_tree r.meaning c.args.a.now) (term_tree r.meaning c.args.b.now) {X = ⊥} r.ambient
    (Err (Unrelated Mismatch)) (subst (λ x. sort_of (term_tree r.meaning x) ≡ type_sort → ⊥) (sym c.in-Const.is)
    (const_none sorted (ConstArg c.in-Const.a) (subst (λ x. IsTrue (known (term_tree r.meaning x))) c.in-Const.is
    (c.requires.asked).left_known) c.in-Const.a refl))

pub returns-in_ok-consts-in-Const-clause-registers : goal.returns-in_ok-consts-in-Const-clause-registers
returns-in_ok-consts-in-Const-clause-registers g c =
    let r = g.R.HasState.state c.args.r.now in
    let M = g.R.TypeRelation.manner in
    let q = g.R.HasState.state c.consts.new.r in
    let e = g.met.R.TypeRelation.reads c.args.r.now in
    let cx = g.R.TypeRelation.interner c.args.r.now in
    let sorted : Sorted r.meaning = subst (λ m. Sorted m) (sym e) (g.met.I.Interner.sorted cx) in
    left_none M r q (term_tree r.meaning c.args.a.now) (term_tree r.meaning c.args.b.now) r.ambient
    (Ok (Const c.in_ok-consts-in-Const.field-0)) (subst (λ x. sort_of (term_tree r.meaning x) ≡ type_sort → ⊥) (sym c.in-Const.is)
    (const_none sorted (ConstArg c.in-Const.a) (subst (λ x. IsTrue (known (term_tree r.meaning x))) c.in-Const.is
    (c.requires.asked).left_known) c.in-Const.a refl))

pub returns-in_err-consts-in-Const-clause-registers : goal.returns-in_err-consts-in-Const-clause-registers
returns-in_err-consts-in-Const-clause-registers g c =
    let r = g.R.HasState.state c.args.r.now in
    let M = g.R.TypeRelation.manner in
    let q = g.R.HasState.state c.consts.new.r in
    let e = g.met.R.TypeRelation.reads c.args.r.now in
    let cx = g.R.TypeRelation.interner c.args.r.now in
    let sorted : Sorted r.meaning = subst (λ m. Sorted m) (sym e) (g.met.I.Interner.sorted cx) in
    left_none M r q (term_tree r.meaning c.args.a.now) (term_tree r.meaning c.args.b.now) r.ambient
    c.from_residual-in_err-consts-in-Const.result (subst (λ x. sort_of (term_tree r.meaning x) ≡ type_sort → ⊥) (sym c.in-Const.is)
    (const_none sorted (ConstArg c.in-Const.a) (subst (λ x. IsTrue (known (term_tree r.meaning x))) c.in-Const.is
    (c.requires.asked).left_known) c.in-Const.a refl))

pub returns-in_ok-tys-in-Ty-clause-registers : goal.returns-in_ok-tys-in-Ty-clause-registers
returns-in_ok-tys-in-Ty-clause-registers g c =
    let r = g.R.HasState.state c.args.r.now in
    let M = g.R.TypeRelation.manner in
    let q = g.R.HasState.state c.tys.new.r in
    let n = c.in_ok-tys-in-Ty in
    subst₂ (λ t u. RelatesAtOnce M r q r.ambient (term_tree r.meaning t) (term_tree r.meaning u)
    (Ok (Ty n.field-0))) (sym c.in-Ty.is) (sym c.in-Ty-b.is) n.ensures.registers

pub returns-in_err-tys-in-Ty-clause-registers : goal.returns-in_err-tys-in-Ty-clause-registers
returns-in_err-tys-in-Ty-clause-registers g c =
    let r = g.R.HasState.state c.args.r.now in
    let M = g.R.TypeRelation.manner in
    let q = g.R.HasState.state c.tys.new.r in
    let n = c.in_err-tys-in-Ty in
    let res = c.from_residual.result in
    subst₂ (λ t u. RelatesAtOnce M r q r.ambient (term_tree r.meaning t) (term_tree r.meaning u) res)
    (sym c.in-Ty.is) (sym c.in-Ty-b.is)
    (refused_told ⊥ _ M r q r.ambient ((r.meaning).ty c.in-Ty.a) ((r.meaning).ty c.in-Ty-b.b) n.field-0.0 res
    (as_err res n.field-0.0 c.from_residual.ensures.0 c.from_residual.ensures.1) n.ensures.registers)

pub returns-in_err-tys-in-Ty-clause-related : goal.returns-in_err-tys-in-Ty-clause-related
returns-in_err-tys-in-Ty-clause-related g c =
    let r = g.R.HasState.state c.args.r.now in
    let M = g.R.TypeRelation.manner in
    let q = g.R.HasState.state c.tys.new.r in
    let n = c.in_err-tys-in-Ty in
    let f = n.field-0.0 in
    let res = c.from_residual in
    subst (Related M r q r.ambient (term_tree r.meaning c.args.a.now) (term_tree r.meaning c.args.b.now)
    (term_tree q.meaning)) (sym (as_err res.result f res.ensures.0 res.ensures.1))
    (subst₂ (λ t u. Related M r q r.ambient (term_tree r.meaning t) (term_tree r.meaning u) (term_tree q.meaning) (Err f))
    (sym c.in-Ty.is) (sym c.in-Ty-b.is) (refused_again M r.ambient ((r.meaning).ty c.in-Ty.a)
    ((r.meaning).ty c.in-Ty-b.b) (q.meaning).ty (term_tree q.meaning) f n.ensures.related))

pub returns-in_err-consts-in-Const-clause-related : goal.returns-in_err-consts-in-Const-clause-related
returns-in_err-consts-in-Const-clause-related g c =
    let r = g.R.HasState.state c.args.r.now in
    let M = g.R.TypeRelation.manner in
    let q = g.R.HasState.state c.consts.new.r in
    let n = c.in_err-consts-in-Const in
    let f = n.field-0.0 in
    let res = c.from_residual-in_err-consts-in-Const in
    subst (Related M r q r.ambient (term_tree r.meaning c.args.a.now) (term_tree r.meaning c.args.b.now)
    (term_tree q.meaning)) (sym (as_err res.result f res.ensures.0 res.ensures.1))
    (subst₂ (λ t u. Related M r q r.ambient (term_tree r.meaning t) (term_tree r.meaning u) (term_tree q.meaning) (Err f))
    (sym c.in-Const.is) (sym c.in-Const-b.is) (refused_again M r.ambient ((r.meaning).const_ c.in-Const.a)
    ((r.meaning).const_ c.in-Const-b.b) (q.meaning).const_ (term_tree q.meaning) f n.ensures))
