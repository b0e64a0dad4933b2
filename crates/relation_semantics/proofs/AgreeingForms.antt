-- Two terms of one form agree if their parts do.
use Rattle.std.proofs.Common.{◌≡◌, ◌⊎◌, ℕ, suc, ◌<◌, refl, sym, ap, ◌∙◌, inl, inr, subst, subst₂}
use Rattle.term_enums.specs.declared.Variance.{Variance}
use Rattle.relation_terms.specs.Heads.{Head, value, value_type, value_branch}
use Rattle.relation_terms.specs.Trees.{Tree, node, cons, nil, nth}
use Rattle.relation_semantics.specs.Relation.{Items, at, parts, part_at}
use Rattle.relation_semantics.specs.Parts.{direct_parts, head_of, const_parts_of, const_head_of, branches_of}
use Rattle.relation_semantics.specs.Errors.{AreOfOneForm, over_parts, over_aliases, one_leaf, parameters, AreOfOneConst, values}
use Rattle.relation_semantics.specs.Errors.{expressions, over_arguments, const_parameters, one_value, as_many_branches, one_const_leaf}
use Rattle.relation_semantics.specs.Settings.{Settings}
use Rattle.relation_semantics.specs.Stores.{Store}
use Rattle.relation_semantics.specs.Agreeing.{AgreeIn}
use Rattle.relation_semantics.proofs.Agreeing.{agree_atoms}
use Rattle.relation_semantics.proofs.AgreeingBefore.{anything_agreed, same_agreed}
use Rattle.relation_semantics.proofs.Answering.{covariantly}
use Rattle.relation_semantics.proofs.Composing.{below_or}

-- One more pair of parts agrees.
pub next_agrees : (set : Settings) (c : Items) (st : Store) (h : Head) (v : Variance) (i : ℕ) (xs ys : Tree) →
    ((j : ℕ) → j < i → AgreeIn set c st (at (part_at c h j v)) (nth j xs) (nth j ys)) →
    AgreeIn set c st (at (part_at c h i v)) (nth i xs) (nth i ys) → (j : ℕ) → j < suc i →
    AgreeIn set c st (at (part_at c h j v)) (nth j xs) (nth j ys)
next_agrees set c st h v i xs ys f g j l = go (below_or i j l)
  where
    go : (j < i) ⊎ (j ≡ i) → AgreeIn set c st (at (part_at c h j v)) (nth j xs) (nth j ys)
    go (inl m) = f j m
    go (inr e) = subst (λ k. AgreeIn set c st (at (part_at c h k v)) (nth k xs) (nth k ys)) (sym e) g

module _ (set : Settings) (c : Items) (st : Store) (v : Variance) where
  abbrev AgreeSo : Tree → Tree → Type 0
  AgreeSo a b = AgreeIn set c st (at v) a b

  abbrev FormsAgree : Tree → Tree → Type 0
  FormsAgree x y = AgreeIn set c st (parts (head_of x) 0 v) (direct_parts x) (direct_parts y)

  abbrev ConstsAgree : Tree → Tree → Type 0
  ConstsAgree x y = AgreeIn set c st (parts (const_head_of x) 0 v) (const_parts_of x) (const_parts_of y)

  pub form_agrees : (a b : Tree) → AreOfOneForm a b → FormsAgree a b → AgreeSo a b
  form_agrees a b (over_parts d e n) g = subst₂ AgreeSo (sym d) (sym e) (inr (refl, subst₂ FormsAgree d e g))
  form_agrees a b (over_aliases d e n) g = subst₂ AgreeSo (sym d) (sym e) (inr (refl, subst₂ FormsAgree d e g))
  form_agrees a b (one_leaf d e) g = same_agreed set c st v a b (d ∙ sym e)
  form_agrees a b (parameters {x} {y} d e p) g = subst₂ AgreeSo (sym d) (sym e) (agree_atoms set c v x y p)

  -- Two values agree by what stands beside their types.
  values_agree : (t u x y : Tree) → AgreeSo x y →
      AgreeSo (node value (cons (node value_type (cons t nil)) (cons x nil)))
      (node value (cons (node value_type (cons u nil)) (cons y nil)))
  values_agree t u x y g = inr (
    refl,
    (
      inr (refl, (anything_agreed set c st (part_at c value_type 0 (part_at c value 0 v)) t u refl, refl)),
      (subst (λ z. AgreeIn set c st (at z) x y) (sym (covariantly v)) g, refl),
    ),
  )

  pub const_agrees : (a b : Tree) → AreOfOneConst a b → ConstsAgree a b → AgreeSo a b
  const_agrees a b (values {t} {u} {v = x} {w = y} d e (one_value z)) g = subst₂ AgreeSo (sym d) (sym e)
      (values_agree t u x y (same_agreed set c st v x y z))
  const_agrees a b (values {t} {u} {v = x} {w = y} d e (as_many_branches {ts} {us} m n k)) g =
      let left : const_parts_of a ≡ ts = ap const_parts_of d ∙ ap branches_of m in
      let right : const_parts_of b ≡ us = ap const_parts_of e ∙ ap branches_of n in
      let branches : AgreeIn set c st (parts value_branch 0 v) ts us =
      subst₂ (AgreeIn set c st (parts value_branch 0 v)) left right
      (subst (λ z. AgreeIn set c st (parts (const_head_of z) 0 v) (const_parts_of a) (const_parts_of b)) d g) in
      subst₂ AgreeSo (sym d) (sym e) (values_agree t u x y (subst₂ AgreeSo (sym m) (sym n) (inr (refl, branches))))
  const_agrees a b (expressions {k} {ts} {us} d e n) g =
      subst₂ AgreeSo (sym d) (sym e) (inr (refl, subst₂ ConstsAgree d e g))
  const_agrees a b (over_arguments {d = i} {ts} {us} d e n) g =
      subst₂ AgreeSo (sym d) (sym e) (inr (refl, subst₂ ConstsAgree d e g))
  const_agrees a b (one_const_leaf d e) g = same_agreed set c st v a b (d ∙ sym e)
  const_agrees a b (const_parameters {x} {y} d e p) g = subst₂ AgreeSo (sym d) (sym e) (agree_atoms set c v x y p)
