-- Terms without binders and aliases are related under just those interpretations under which what they ask for is so.
use Rattle.std.proofs.Common.{◌≡◌, ◌≢◌, ◌⊎◌, ℕ, zero, suc, ◌<◌, ◌+◌, refl, sym, inl, inr, subst, subst₂, arith}
use Rattle.std.proofs.Common.{Option, Result, Ok, Err}
use Rattle.term_enums.specs.declared.Variance.{Variance}
use Rattle.term_enums.specs.declared.Variance.TheVariants.{Bivariant}
use Rattle.relation_terms.specs.declared.terms.keys.ParamEnvKey.{ParamEnvKey}
use Rattle.relation_terms.specs.Heads.{Head, one, term_of}
use Rattle.relation_terms.specs.Trees.{Tree, node, cons, count, nth, Leaves, Assign}
use Rattle.relation_terms.specs.Meaning.{Meaning}
use Rattle.relation_folds.specs.declared.error.RelateFault.{RelateFault}
use Rattle.term_enums.specs.declared.StructurallyRelateAliases.{StructurallyRelateAliases}
use Rattle.relation_semantics.specs.Asking.{Wanted, AsksFor, of_regions, of_aliases, of_unevaluated, of_parts, HaveAlias}
use Rattle.relation_semantics.specs.Asking.{HasNoAlias}
use Rattle.relation_semantics.specs.Contexts.{Context}
use Rattle.relation_semantics.specs.Lawful.{items_of}
use Rattle.relation_semantics.specs.Relation.{Items, Interpretation, Rel, at, parts, no_parts, next_part, part_at, IsValueLeaf}
use Rattle.relation_semantics.proofs.Asking.{no_alias_term, nothing_at_bivariance, no_alias_nth}
use Rattle.relation_semantics.proofs.Related.{region_of, forms_inverted}
use Rattle.context_relation.specs.Completing.{IsSoWanted, RelatesWhereAsked}
use Rattle.relation_semantics.specs.Agreeing.{Agree}
use Rattle.relation_semantics.specs.Stores.{resolved}
use Rattle.relation_semantics.proofs.Trees.{apply_ground}
use Rattle.context_relation.specs.Relating.{term_in, RelatesAgreeing}
use Rattle.relation_combining.specs.Solving.{solver_settings}
use Rattle.context_relation.proofs.AskedGoals.{rule_holds, agreeing_related}
use Rattle.context_relation.proofs.Shapes.{IsShaped, shaped}

value_nth : (i : ℕ) (ts : Tree) → i < count ts → Leaves IsValueLeaf ts → Leaves IsValueLeaf (nth i ts)
value_nth zero (cons t ts) l h = h.0
value_nth (suc i) (cons t ts) l h = value_nth i ts (omega (arith, l)) h.1
value_nth i ts l h = absurd (omega (arith, l))

shaped_nth : (i : ℕ) (ts : Tree) → i < count ts → IsShaped ts → IsShaped (nth i ts)
shaped_nth zero (cons t ts) l h = h.1
shaped_nth (suc i) (cons t ts) l h = shaped_nth i ts (omega (arith, l)) h.2
shaped_nth i ts l h = absurd (omega (arith, l))

module _ (c : Items) (w : Interpretation) (e : Tree) where
  related_nth : (h : Head) (v : Variance) (i j : ℕ) (xs ys : Tree) → Rel c w e (parts h i v) xs ys → j < count xs →
      Rel c w e (at (part_at c h (i + j) v)) (nth j xs) (nth j ys)
  related_nth h v i j _ _ no_parts l = absurd (omega (arith, l))
  related_nth h v i zero _ _ (next_part {a = a} {b = b} r rs) l =
      subst (λ n. Rel c w e (at (part_at c h n v)) a b) (omega arith) r
  related_nth h v i (suc j) _ _ (next_part {xs = xs} {ys = ys} r rs) l =
      subst (λ n. Rel c w e (at (part_at c h n v)) (nth j xs) (nth j ys)) (omega arith)
      (related_nth h v (suc i) j xs ys rs (omega (arith, l)))

  decides_or : (v : Variance) → (v ≡ Bivariant) ⊎ (v ≢ Bivariant)
  decides_or Bivariant = inl refl
  decides_or v = inr (λ p. cc)

  none_of : {X : Type 0} (a b : Tree) → HasNoAlias a → HasNoAlias b → HaveAlias a b → X
  none_of a b f g (inl i) = absurd (no_alias_term a f i)
  none_of a b f g (inr i) = absurd (no_alias_term b g i)

  -- What related terms ask for is so.
  related_asked : (s : Assign) {z : Wanted} {v : Variance} {a b : Tree} → AsksFor c z v a b → Rel c w e (at v) a b →
      IsShaped a → HasNoAlias a → HasNoAlias b → Leaves IsValueLeaf a → Leaves IsValueLeaf b → IsSoWanted c w e s z
  related_asked s {v = v} {a = a} {b = b} (of_regions q i p d o) r u f g x y =
      subst (IsSoWanted c w e s) (sym i) (rule_holds c w e s v a b x y q o (region_of r p d))
  related_asked s {a = a} {b = b} (of_aliases p i o n d k) r u f g x y = none_of a b f g o
  related_asked s {a = a} {b = b} (of_unevaluated i o n d k) r u f g x y = none_of a b f g o
  related_asked s {z = z} {v = v} {a = a} {b = b} (of_parts {h = h} {k = k} {ts = ts} {us = us} i d g n rh p l m o)
      r u f f' x y = go (decides_or v) (λ rel. related_asked s o rel (shaped_nth i ts l (subst IsShaped d u).2)
      (no_alias_nth i ts f0.1) (no_alias_nth i us f1.1) (value_nth i ts l (subst (Leaves IsValueLeaf) d x))
      (value_nth i us m (subst (Leaves IsValueLeaf) g y)))
    where
      f0 : HasNoAlias (node h ts)
      f0 = subst HasNoAlias d f

      f1 : HasNoAlias (node k us)
      f1 = subst HasNoAlias g f'

      parts_of_both : v ≢ Bivariant → Rel c w e (parts h 0 v) ts us
      parts_of_both q = (forms_inverted q f0.0 f1.0 (subst IsShaped d u).0 (subst₂ (Rel c w e (at v)) d g r)).1

      go : (v ≡ Bivariant) ⊎ (v ≢ Bivariant) →
          (Rel c w e (at (part_at c h i v)) (nth i ts) (nth i us) → IsSoWanted c w e s z) → IsSoWanted c w e s z
      go (inl q) on = absurd (nothing_at_bivariance (of_parts {h = h} {k = k} {ts = ts} {us = us} i d g n rh p l m o) q)
      go (inr q) on = on (subst (λ j. Rel c w e (at (part_at c h j v)) (nth i ts) (nth i us)) (omega arith)
          (related_nth h v 0 i ts us (parts_of_both q) l))

-- So a call that answers only what agrees says where it is related.
pub related_where_asked : {S Key Id Name A X : Type 0} (state : S → Context Key Id Name) (old new : S)
    (over : Option Head) (tree : Meaning Key Id Name → A → Tree) (g : StructurallyRelateAliases) (e : ParamEnvKey Key)
    (v : Variance) (a b : A) (result : Result X (RelateFault Key Id Name)) →
    RelatesAgreeing state old new over tree g v a b result → RelatesWhereAsked state old new over tree e v a b result
related_where_asked state old new over tree g e v a b (Err f) agrees s x y p q = tt
related_where_asked state old new over tree g e v a b (Ok t) agrees s x y p q = λ w.
    let c = items_of (state old).meaning in
    let k = ((state old).meaning).param_env e in
    let l = term_in (state old) over tree a in
    let r = term_in (state old) over tree b in
    let i = shaped (one (term_of s)) l x.0 in
    let j = shaped (one (term_of s)) r y.0 in (
      (λ rel z asks u. related_asked c w k u asks rel i.1 p.1 q.1 x.1 y.1),
      (λ so. agreeing_related c w k (solver_settings g (state old).setup) v l r i.0 j.0 (i.1, p.0, p.2, x.1)
          (j.1, q.0, q.2, y.1) so (subst₂ (Agree (solver_settings g (state old).setup) c (at v))
          (apply_ground (resolved (state old).store) l x.1) (apply_ground (resolved (state old).store) r y.1) agrees)),
    )
