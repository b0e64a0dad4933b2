use Rattle.std.proofs.Common.{ℕ, ◌<◌, ◌≡◌, List, length, get_or, ap, ◌∙◌, subst}
use Rattle.text_asking.proofs.Recorded.{constraint_at}
use Rattle.text_asking.proofs.printing.write_constraints.Goals as goal

-- A place of a list is one of an equal list.
inside : {A : Type 0} (xs ys : List A) (i : ℕ) → xs ≡ ys → i < length xs → i < length ys
inside xs ys i e h = subst (λ z. i < length z) e h

same : {A : Type 0} (xs ys : List A) (i : ℕ) (x : A) → xs ≡ ys → x ≡ get_or xs i x → x ≡ get_or ys i x
same xs ys i x e h = h ∙ ap (λ z. get_or z i x) e

pub write_constraint-requires : goal.write_constraint-requires
write_constraint-requires g c =
    let m = g.I.Interner.meaning c.args.ctx.now.interner in
    let x = c.args.ctx.now.inner in
    let i = c.loop-constraint.constraint-index in
    let e = c.region_constraints-constraint-items.ensures in
    constraint_at m x c.requires i c.constraint-item.result (inside _ _ i e c.loop-constraint-test.true) (same _ _ i c.constraint-item.result e c.constraint-item.is)
