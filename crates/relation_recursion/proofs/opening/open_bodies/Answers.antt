use Rattle.std.proofs.Common.{◌≡◌, ◌∙◌, refl, sym, ap, subst, subst₂, Some, None, Ok, Err}
use Rattle.relation_terms.specs.Meaning.{signature_tree, existential_tree, under}
use Rattle.relation_terms.specs.Parts.{part_tree}
use Rattle.relation_terms.specs.declared.terms.part_kind.Part.TheVariants.{Binder, Signature, Ty, Existential}
use Rattle.relation_steps.specs.Rounds.{Opened}
use Rattle.relation_recursion.proofs.Bodies.{opened_some, opened_none, opened_not, not_some}
use Rattle.relation_semantics.proofs.Passing.{as_err}
use Rattle.relation_recursion.proofs.opening.open_bodies.Goals as goal

pub returns-in_default-2-clause-opened : goal.returns-in_default-2-clause-opened
returns-in_default-2-clause-opened g c =
    let r = g.R.HasState.state c.args.r.now in
    let q = g.R.HasState.state c.open_binders.new.self in
    let m = r.meaning in
    let M = g.R.TypeRelation.manner in
    let n = c.args.round in
    let a = part_tree m c.args.a.now in
    let b = part_tree m c.args.b.now in
    let x = under (m.bound_vars c.in-Binder.bound_vars) (signature_tree m c.in-Signature.value) in
    let y = under (m.bound_vars c.in-Binder-b.other_vars) (signature_tree m c.in-Signature-other.other) in
    let left : x ≡ a = sym (ap (part_tree m) (c.in-Binder.is ∙ ap (Binder c.in-Binder.bound_vars) c.in-Signature.is)) in
    let right : y ≡ b = sym (ap (part_tree m) (c.in-Binder-b.is ∙ ap (Binder c.in-Binder-b.other_vars) c.in-Signature-other.is)) in
    let tree = signature_tree q.meaning in
    let o : Opened M r q n x y tree (Ok None) =
    subst (λ z. Opened M r q n x y tree (Ok z)) (not_some c.in_ok-x-in-Signature.field-0 c.in_default-2.not-Some) c.in_ok-x-in-Signature.ensures in
    subst₂ (λ s t. Opened M r q n s t (part_tree q.meaning) (Ok None)) left right
    (opened_none M n x y tree (part_tree q.meaning) o)

pub returns-in-Some-clause-opened : goal.returns-in-Some-clause-opened
returns-in-Some-clause-opened g c =
    let r = g.R.HasState.state c.args.r.now in
    let q = g.R.HasState.state c.open_binders.new.self in
    let m = r.meaning in
    let M = g.R.TypeRelation.manner in
    let n = c.args.round in
    let a = part_tree m c.args.a.now in
    let b = part_tree m c.args.b.now in
    let x = under (m.bound_vars c.in-Binder.bound_vars) (signature_tree m c.in-Signature.value) in
    let y = under (m.bound_vars c.in-Binder-b.other_vars) (signature_tree m c.in-Signature-other.other) in
    let left : x ≡ a = sym (ap (part_tree m) (c.in-Binder.is ∙ ap (Binder c.in-Binder.bound_vars) c.in-Signature.is)) in
    let right : y ≡ b = sym (ap (part_tree m) (c.in-Binder-b.is ∙ ap (Binder c.in-Binder-b.other_vars) c.in-Signature-other.is)) in
    let tree = signature_tree q.meaning in
    let v = c.in-Some.x in
    let w = c.in-Some.y in
    let o : Opened M r q n x y tree (Ok (Some (v, w))) =
    subst (λ z. Opened M r q n x y tree (Ok z)) c.in-Some.is c.in_ok-x-in-Signature.ensures in
    subst₂ (λ s t. Opened M r q n s t (part_tree q.meaning) (Ok (Some (Signature v, Signature w)))) left right
    (opened_some M n x y tree (part_tree q.meaning) v w (Signature v) (Signature w) refl refl o)

pub returns-in_default-3-clause-opened : goal.returns-in_default-3-clause-opened
returns-in_default-3-clause-opened g c =
    let r = g.R.HasState.state c.args.r.now in
    let q = g.R.HasState.state c.open_binders-in-Ty.new.self in
    let m = r.meaning in
    let M = g.R.TypeRelation.manner in
    let n = c.args.round in
    let a = part_tree m c.args.a.now in
    let b = part_tree m c.args.b.now in
    let x = under (m.bound_vars c.in-Binder.bound_vars) (m.ty c.in-Ty.value) in
    let y = under (m.bound_vars c.in-Binder-b.other_vars) (m.ty c.in-Ty-other.other) in
    let left : x ≡ a = sym (ap (part_tree m) (c.in-Binder.is ∙ ap (Binder c.in-Binder.bound_vars) c.in-Ty.is)) in
    let right : y ≡ b = sym (ap (part_tree m) (c.in-Binder-b.is ∙ ap (Binder c.in-Binder-b.other_vars) c.in-Ty-other.is)) in
    let tree = (q.meaning).ty in
    let o : Opened M r q n x y tree (Ok None) =
    subst (λ z. Opened M r q n x y tree (Ok z)) (not_some c.in_ok-x-in-Ty.field-0 c.in_default-3.not-Some) c.in_ok-x-in-Ty.ensures in
    subst₂ (λ s t. Opened M r q n s t (part_tree q.meaning) (Ok None)) left right
    (opened_none M n x y tree (part_tree q.meaning) o)

pub returns-in-Some-2-clause-opened : goal.returns-in-Some-2-clause-opened
returns-in-Some-2-clause-opened g c =
    let r = g.R.HasState.state c.args.r.now in
    let q = g.R.HasState.state c.open_binders-in-Ty.new.self in
    let m = r.meaning in
    let M = g.R.TypeRelation.manner in
    let n = c.args.round in
    let a = part_tree m c.args.a.now in
    let b = part_tree m c.args.b.now in
    let x = under (m.bound_vars c.in-Binder.bound_vars) (m.ty c.in-Ty.value) in
    let y = under (m.bound_vars c.in-Binder-b.other_vars) (m.ty c.in-Ty-other.other) in
    let left : x ≡ a = sym (ap (part_tree m) (c.in-Binder.is ∙ ap (Binder c.in-Binder.bound_vars) c.in-Ty.is)) in
    let right : y ≡ b = sym (ap (part_tree m) (c.in-Binder-b.is ∙ ap (Binder c.in-Binder-b.other_vars) c.in-Ty-other.is)) in
    let tree = (q.meaning).ty in
    let v = c.in-Some-2.x in
    let w = c.in-Some-2.y in
    let o : Opened M r q n x y tree (Ok (Some (v, w))) =
    subst (λ z. Opened M r q n x y tree (Ok z)) c.in-Some-2.is c.in_ok-x-in-Ty.ensures in
    subst₂ (λ s t. Opened M r q n s t (part_tree q.meaning) (Ok (Some (Ty v, Ty w)))) left right
    (opened_some M n x y tree (part_tree q.meaning) v w (Ty v) (Ty w) refl refl o)

pub returns-in_default-4-clause-opened : goal.returns-in_default-4-clause-opened
returns-in_default-4-clause-opened g c =
    let r = g.R.HasState.state c.args.r.now in
    let q = g.R.HasState.state c.open_binders-in-Existential.new.self in
    let m = r.meaning in
    let M = g.R.TypeRelation.manner in
    let n = c.args.round in
    let a = part_tree m c.args.a.now in
    let b = part_tree m c.args.b.now in
    let x = under (m.bound_vars c.in-Binder.bound_vars) (existential_tree m c.in-Existential.value) in
    let y = under (m.bound_vars c.in-Binder-b.other_vars) (existential_tree m c.in-Existential-other.other) in
    let left : x ≡ a = sym (ap (part_tree m) (c.in-Binder.is ∙ ap (Binder c.in-Binder.bound_vars) c.in-Existential.is)) in
    let right : y ≡ b = sym (ap (part_tree m) (c.in-Binder-b.is ∙ ap (Binder c.in-Binder-b.other_vars) c.in-Existential-other.is)) in
    let tree = existential_tree q.meaning in
    let o : Opened M r q n x y tree (Ok None) =
    subst (λ z. Opened M r q n x y tree (Ok z)) (not_some c.in_ok-x-in-Existential.field-0 c.in_default-4.not-Some) c.in_ok-x-in-Existential.ensures in
    subst₂ (λ s t. Opened M r q n s t (part_tree q.meaning) (Ok None)) left right
    (opened_none M n x y tree (part_tree q.meaning) o)

pub returns-in-Some-3-clause-opened : goal.returns-in-Some-3-clause-opened
returns-in-Some-3-clause-opened g c =
    let r = g.R.HasState.state c.args.r.now in
    let q = g.R.HasState.state c.open_binders-in-Existential.new.self in
    let m = r.meaning in
    let M = g.R.TypeRelation.manner in
    let n = c.args.round in
    let a = part_tree m c.args.a.now in
    let b = part_tree m c.args.b.now in
    let x = under (m.bound_vars c.in-Binder.bound_vars) (existential_tree m c.in-Existential.value) in
    let y = under (m.bound_vars c.in-Binder-b.other_vars) (existential_tree m c.in-Existential-other.other) in
    let left : x ≡ a = sym (ap (part_tree m) (c.in-Binder.is ∙ ap (Binder c.in-Binder.bound_vars) c.in-Existential.is)) in
    let right : y ≡ b = sym (ap (part_tree m) (c.in-Binder-b.is ∙ ap (Binder c.in-Binder-b.other_vars) c.in-Existential-other.is)) in
    let tree = existential_tree q.meaning in
    let v = c.in-Some-3.x in
    let w = c.in-Some-3.y in
    let o : Opened M r q n x y tree (Ok (Some (v, w))) =
    subst (λ z. Opened M r q n x y tree (Ok z)) c.in-Some-3.is c.in_ok-x-in-Existential.ensures in
    subst₂ (λ s t. Opened M r q n s t (part_tree q.meaning) (Ok (Some (Existential v, Existential w)))) left right
    (opened_some M n x y tree (part_tree q.meaning) v w (Existential v) (Existential w) refl refl o)

pub returns-in_err-x-in-Signature-clause-opened : goal.returns-in_err-x-in-Signature-clause-opened
returns-in_err-x-in-Signature-clause-opened g c =
    let r = g.R.HasState.state c.args.r.now in
    let q = g.R.HasState.state c.open_binders.new.self in
    let m = r.meaning in
    let M = g.R.TypeRelation.manner in
    let n = c.args.round in
    let a = part_tree m c.args.a.now in
    let b = part_tree m c.args.b.now in
    let x = under (m.bound_vars c.in-Binder.bound_vars) (signature_tree m c.in-Signature.value) in
    let y = under (m.bound_vars c.in-Binder-b.other_vars) (signature_tree m c.in-Signature-other.other) in
    let left : x ≡ a = sym (ap (part_tree m) (c.in-Binder.is ∙ ap (Binder c.in-Binder.bound_vars) c.in-Signature.is)) in
    let right : y ≡ b = sym (ap (part_tree m) (c.in-Binder-b.is ∙ ap (Binder c.in-Binder-b.other_vars) c.in-Signature-other.is)) in
    let e = c.in_err-x-in-Signature in
    let f = e.field-0.0 in
    let failed = as_err c.from_residual.result f c.from_residual.ensures.0 c.from_residual.ensures.1 in
    subst (Opened M r q n a b (part_tree q.meaning)) (sym failed)
    (subst₂ (λ s t. Opened M r q n s t (part_tree q.meaning) (Err f)) left right
    (opened_not M n x y (signature_tree q.meaning) (part_tree q.meaning) f e.ensures))

pub returns-in_err-x-in-Ty-clause-opened : goal.returns-in_err-x-in-Ty-clause-opened
returns-in_err-x-in-Ty-clause-opened g c =
    let r = g.R.HasState.state c.args.r.now in
    let q = g.R.HasState.state c.open_binders-in-Ty.new.self in
    let m = r.meaning in
    let M = g.R.TypeRelation.manner in
    let n = c.args.round in
    let a = part_tree m c.args.a.now in
    let b = part_tree m c.args.b.now in
    let x = under (m.bound_vars c.in-Binder.bound_vars) (m.ty c.in-Ty.value) in
    let y = under (m.bound_vars c.in-Binder-b.other_vars) (m.ty c.in-Ty-other.other) in
    let left : x ≡ a = sym (ap (part_tree m) (c.in-Binder.is ∙ ap (Binder c.in-Binder.bound_vars) c.in-Ty.is)) in
    let right : y ≡ b = sym (ap (part_tree m) (c.in-Binder-b.is ∙ ap (Binder c.in-Binder-b.other_vars) c.in-Ty-other.is)) in
    let e = c.in_err-x-in-Ty in
    let f = e.field-0.0 in
    let failed = as_err c.from_residual-in_err-x-in-Ty.result f c.from_residual-in_err-x-in-Ty.ensures.0 c.from_residual-in_err-x-in-Ty.ensures.1 in
    subst (Opened M r q n a b (part_tree q.meaning)) (sym failed)
    (subst₂ (λ s t. Opened M r q n s t (part_tree q.meaning) (Err f)) left right
    (opened_not M n x y ((q.meaning).ty) (part_tree q.meaning) f e.ensures))

pub returns-in_err-x-in-Existential-clause-opened : goal.returns-in_err-x-in-Existential-clause-opened
returns-in_err-x-in-Existential-clause-opened g c =
    let r = g.R.HasState.state c.args.r.now in
    let q = g.R.HasState.state c.open_binders-in-Existential.new.self in
    let m = r.meaning in
    let M = g.R.TypeRelation.manner in
    let n = c.args.round in
    let a = part_tree m c.args.a.now in
    let b = part_tree m c.args.b.now in
    let x = under (m.bound_vars c.in-Binder.bound_vars) (existential_tree m c.in-Existential.value) in
    let y = under (m.bound_vars c.in-Binder-b.other_vars) (existential_tree m c.in-Existential-other.other) in
    let left : x ≡ a = sym (ap (part_tree m) (c.in-Binder.is ∙ ap (Binder c.in-Binder.bound_vars) c.in-Existential.is)) in
    let right : y ≡ b = sym (ap (part_tree m) (c.in-Binder-b.is ∙ ap (Binder c.in-Binder-b.other_vars) c.in-Existential-other.is)) in
    let e = c.in_err-x-in-Existential in
    let f = e.field-0.0 in
    let failed = as_err c.from_residual-in_err-x-in-Existential.result f c.from_residual-in_err-x-in-Existential.ensures.0 c.from_residual-in_err-x-in-Existential.ensures.1 in
    subst (Opened M r q n a b (part_tree q.meaning)) (sym failed)
    (subst₂ (λ s t. Opened M r q n s t (part_tree q.meaning) (Err f)) left right
    (opened_not M n x y (existential_tree q.meaning) (part_tree q.meaning) f e.ensures))
