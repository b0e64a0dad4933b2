use Rattle.std.proofs.Common.{◌≡◌, ◌∙◌, ap, subst, inl, inr, Contains}
use Rattle.remembered_pairs.proofs.kept.KeptValues.insert.Goals.{then-len+in_ok-widen, else-len}
use Rattle.remembered_pairs.proofs.kept.KeptValues.insert.Goals as goal

pub returns-then-self-lt-CACHE_CUTOFF-clause-members : goal.returns-then-self-lt-CACHE_CUTOFF-clause-members
returns-then-self-lt-CACHE_CUTOFF-clause-members g c = λ e h.
    inr (subst (λ xs. Contains xs e) (ap (λ v. v.kept) c.self.view_is) h)

pub returns-in_err-widen-clause-members : goal.returns-in_err-widen-clause-members
returns-in_err-widen-clause-members g c = λ e h.
    inr (subst (λ xs. Contains xs e) (c.widen.ensures ∙ ap (λ v. v.kept) c.self.view_is) h)

pub returns-clause-members : goal.returns-clause-members
returns-clause-members g c =
    let kept = ap (λ v. v.kept) c.self.view_is in
    let same : (c.if-len.self-inside).values.items ≡ c.args.self.now.kept = elim c.if-len.branch [
      | then-len+in_ok-widen w ↦ ap (λ v. v.values.items) w.self-inside-is ∙ w.widen.ensures ∙ kept
      | else-len w ↦ ap (λ v. v.values.items) w.self-inside-is ∙ kept
    ] in
    λ e h. elim (c.put.ensures.members e h) [
      | inl k ↦ inl k
      | inr k ↦ inr (subst (λ xs. Contains xs e) same k)
    ]
