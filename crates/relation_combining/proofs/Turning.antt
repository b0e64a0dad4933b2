-- What is related at a variance is related the other way round, seen from the other side.
use Rattle.std.proofs.Common.{◌≡◌, ℕ, refl, sym, ap, ◌∙◌, subst, List, [], ◌∷◌}
use Rattle.term_enums.specs.declared.Variance.{Variance}
use Rattle.term_enums.specs.declared.Variance.TheVariants.{Covariant, Contravariant, Invariant, Bivariant}
use Rattle.term_enums.specs.Variances.{xform}
use Rattle.relation_terms.specs.Heads.{BoundKind, AliasTermKind, type_alias, opaque_alias, Head, alias, alias_term, value_type}
use Rattle.relation_terms.specs.Trees.{Tree}
use Rattle.relation_semantics.specs.Relation.{Items, Interpretation, Fresh, RegionRule, AliasRule, IsEqualPair, at, parts, second_opened, first_opened, Rel, same, anything, error_left, error_right, regions, alias_types, equal_consts, atoms, forms, no_parts, next_part, covariant_binders, contravariant_binders, invariant_binders, open_second, open_first, mode, alias_term_variance, plain_kind, plain, part_at, IsRelatedHead}
use Rattle.relation_semantics.proofs.AgreeingOpened.{swapped}

abbrev other : Variance → Variance
other v = xform v Contravariant

-- Parts are seen from the other side where the form is.
xform_other : (v m : Variance) → xform (other v) m ≡ other (xform v m)
xform_other Covariant Covariant = refl
xform_other Covariant Contravariant = refl
xform_other Covariant Invariant = refl
xform_other Covariant Bivariant = refl
xform_other Contravariant Covariant = refl
xform_other Contravariant Contravariant = refl
xform_other Contravariant Invariant = refl
xform_other Contravariant Bivariant = refl
xform_other Invariant m = refl
xform_other Bivariant m = refl

part_seen : (c : Items) (h : Head) (i : ℕ) (v : Variance) → part_at c h i (other v) ≡ other (part_at c h i v)
part_seen c value_type i v = refl
part_seen c h i v = xform_other v (mode c h i)

-- What relating does not look at changes neither the variances of parts nor whether there is a rule.
kind_plain : (c : Items) (k : AliasTermKind) (d i : ℕ) → alias_term_variance c (plain_kind k) d i ≡ alias_term_variance c k d i
kind_plain c (type_alias opaque_alias) d i = refl
kind_plain c k d i = refl

part_plain : (c : Items) (h : Head) (i : ℕ) (v : Variance) → part_at c (plain h) i v ≡ part_at c h i v
part_plain c (alias k d) i v = refl
part_plain c (alias_term k d) i v = ap (xform v) (kind_plain c k d i)
part_plain c h i v = refl

related_plain : (h : Head) → IsRelatedHead h → IsRelatedHead (plain h)
related_plain (alias k d) r = tt
related_plain (alias_term k d) r = tt
related_plain h r = r

related_back : (h : Head) → IsRelatedHead (plain h) → IsRelatedHead h
related_back (alias k d) r = tt
related_back (alias_term k d) r = tt
related_back h r = r

part_turned : (c : Items) (h k : Head) (i : ℕ) (v : Variance) → plain h ≡ plain k → part_at c k i (other v) ≡ other (part_at c h i v)
part_turned c h k i v p = part_seen c k i v ∙ ap other (sym (part_plain c k i v) ∙ sym (ap (λ z. part_at c z i v) p) ∙ part_plain c h i v)

rule_turned : (w : Interpretation) (v : Variance) (a b : Tree) → RegionRule w v a b → RegionRule w (other v) b a
rule_turned w Covariant a b r = r
rule_turned w Contravariant a b r = r
rule_turned w Invariant a b r = (r.1, r.0)
rule_turned w Bivariant a b r = tt

equal_turned : (w : Interpretation) (e a b : Tree) → IsEqualPair w e a b → IsEqualPair w e b a
equal_turned w e a b r = (swapped r.0, swapped r.1)

ordered_turned : (w : Interpretation) (e : Tree) (v : Variance) (a b : Tree) → AliasRule w e v a b → AliasRule w e (other v) b a
ordered_turned w e Covariant a b r = r
ordered_turned w e Contravariant a b r = r
ordered_turned w e Invariant a b r = equal_turned w e a b r
ordered_turned w e Bivariant a b r = tt

fresh_turned : (ks : List BoundKind) (ps : List Tree) (a b : Tree) → Fresh ks ps a b → Fresh ks ps b a
fresh_turned [] [] a b f = tt
fresh_turned (k ∷ ks) (p ∷ ps) a b f = (f.0, f.2, f.1, f.3, fresh_turned ks ps a b f.4)
fresh_turned [] (p ∷ ps) a b f = absurd f
fresh_turned (k ∷ ks) [] a b f = absurd f

mutual
  pub turned : {c : Items} {w : Interpretation} {e : Tree} {v : Variance} {a b : Tree} → Rel c w e (at v) a b → Rel c w e (at (xform v Contravariant)) b a
  turned (same p) = same (sym p)
  turned (anything p) = anything (ap other p)
  turned (error_left p q) = error_right p (sym q)
  turned (error_right p q) = error_left p (sym q)
  turned {w = w} {v = v} {a = a} {b = b} (regions p q r) = regions q p (rule_turned w v a b r)
  turned {w = w} {e = e} {v = v} {a = a} {b = b} (alias_types p q r) = alias_types q p (ordered_turned w e v a b r)
  turned {w = w} {e = e} {a = a} {b = b} (equal_consts p q r) = equal_consts q p (equal_turned w e a b r)
  turned (atoms p) = atoms (sym p)
  turned (forms {h = h} {k = k} i p r) = forms (related_back k (subst IsRelatedHead p (related_plain h i))) (sym p) (parts_turned p r)
  turned (covariant_binders p r) = contravariant_binders (ap other p) (second_turned r)
  turned (contravariant_binders p r) = covariant_binders (ap other p) (first_turned r)
  turned (invariant_binders p r s) = invariant_binders (ap other p) (first_turned s) (second_turned r)

  parts_turned : {c : Items} {w : Interpretation} {e : Tree} {h k : Head} {i : ℕ} {v : Variance} {xs ys : Tree} → plain h ≡ plain k → Rel c w e (parts h i v) xs ys → Rel c w e (parts k i (other v)) ys xs
  parts_turned p no_parts = no_parts
  parts_turned {c = c} {w = w} {e = e} {h = h} {k = k} {i = i} {v = v} p (next_part {a = a} {b = b} r rs) = next_part (subst (λ z. Rel c w e (at z) b a) (sym (part_turned c h k i v p)) (turned r)) (parts_turned p rs)

  second_turned : {c : Items} {w : Interpretation} {e : Tree} {ks ls : List BoundKind} {v : Variance} {a b : Tree} → Rel c w e (second_opened ks ls v) a b → Rel c w e (first_opened ls ks (other v)) b a
  second_turned {ls = ls} {a = a} {b = b} (open_second values placeholders f g r) = open_first placeholders values (fresh_turned ls placeholders a b g) f (turned r)

  first_turned : {c : Items} {w : Interpretation} {e : Tree} {ks ls : List BoundKind} {v : Variance} {a b : Tree} → Rel c w e (first_opened ks ls v) a b → Rel c w e (second_opened ls ks (other v)) b a
  first_turned {ks = ks} {a = a} {b = b} (open_first placeholders values f g r) = open_second values placeholders g (fresh_turned ks placeholders a b f) (turned r)
