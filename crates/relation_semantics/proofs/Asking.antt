-- What relating asks for: nothing at bivariance, only of itself of one term, and of a form what its parts ask for.
use Rattle.std.proofs.Common.{◌≡◌, ℕ, zero, suc, ◌<◌, refl, sym, ap, ◌∙◌, inl, inr, subst, subst₂, arith, Some, None}
use Rattle.term_enums.specs.declared.Variance.{Variance}
use Rattle.term_enums.specs.declared.Variance.TheVariants.{Covariant, Contravariant, Invariant, Bivariant}
use Rattle.relation_terms.specs.Heads.{region_sort, type_sort, const_sort, Head, value_type, value, value_branch}
use Rattle.relation_terms.specs.Trees.{Tree, node, cons, nil, count, nth}
use Rattle.relation_semantics.specs.Relation.{Items, part_at, plain, IsRelatedHead, IsAlias, sort_of}
use Rattle.relation_terms.specs.declared.predicate.regions.RegionConstraint.{RegionConstraint}
use Rattle.relation_terms.specs.declared.terms.keys.RegionKey.{RegionKey}
use Rattle.relation_terms.specs.Meaning.{Meaning}
use Rattle.relation_semantics.specs.Constraints.{constraint_at, constraint_of}
use Rattle.relation_semantics.specs.Stores.{Constraint}
use Rattle.relation_semantics.specs.AliasGoals.{alias_at}
use Rattle.relation_semantics.specs.Asking.{Wanted, a_constraint, a_goal, IsOfItself, IsTrivial, region_at, HaveAlias, AsksFor}
use Rattle.relation_semantics.specs.Asking.{of_regions, of_aliases, of_unevaluated, of_parts, PartsAsk, HasNoAlias}
use Rattle.relation_semantics.proofs.Related.{no_region_head}
use Rattle.relation_semantics.proofs.Answering.{covariantly}
use Rattle.std.proofs.lemmas.Option.{same_Some}
use Rattle.relation_terms.proofs.Paths.{head_path, parts_path}

-- Inside bivariance all is bivariant.
pub part_bivariant : (c : Items) (h : Head) (i : ℕ) → part_at c h i Bivariant ≡ Bivariant
part_bivariant c value_type i = refl
part_bivariant c h i = refl

no_regions_ask : (v : Variance) (a b : Tree) (q : Constraint) → v ≡ Bivariant → region_at v a b ≡ Some q → ⊥
no_regions_ask v a b q e r = let z : None ≡ Some q = sym (ap (λ u. region_at u a b) e) ∙ r in cc

no_aliases_ask : (v : Variance) (a b p : Tree) → v ≡ Bivariant → alias_at v a b ≡ Some p → ⊥
no_aliases_ask v a b p e r = let z : None ≡ Some p = sym (ap (λ u. alias_at u a b) e) ∙ r in cc

pub nothing_at_bivariance : {c : Items} {z : Wanted} {v : Variance} {a b : Tree} → AsksFor c z v a b → v ≡ Bivariant → ⊥
nothing_at_bivariance {v = v} {a = a} {b = b} (of_regions q w s t r) e = no_regions_ask v a b q e r
nothing_at_bivariance {v = v} {a = a} {b = b} (of_aliases p w l n s r) e = no_aliases_ask v a b p e r
nothing_at_bivariance (of_unevaluated w l n s d) e = d e
nothing_at_bivariance {c = c} (of_parts {h = h} i d g n rh pl m o r) e = nothing_at_bivariance r (ap (part_at c h i) e ∙ part_bivariant c h i)

regions_of_itself : (v : Variance) (a b : Tree) (q : Constraint) → region_at v a b ≡ Some q → a ≡ b → IsOfItself q
regions_of_itself Covariant a b q r e = subst IsOfItself (same_Some _ _ r) e
regions_of_itself Contravariant a b q r e = subst IsOfItself (same_Some _ _ r) (sym e)
regions_of_itself Invariant a b q r e = subst IsOfItself (same_Some _ _ r) e
regions_of_itself Bivariant a b q r e = absurd cc

-- Of one term only what need not be recorded is asked for.
pub itself_is_trivial : {c : Items} {z : Wanted} {v : Variance} {a b : Tree} → AsksFor c z v a b → a ≡ b → IsTrivial z
itself_is_trivial {v = v} {a = a} {b = b} (of_regions q w s t r) e = subst IsTrivial (sym w) (regions_of_itself v a b q r e)
itself_is_trivial (of_aliases p w l n s r) e = absurd (n e)
itself_is_trivial (of_unevaluated w l n s d) e = absurd (n e)
itself_is_trivial (of_parts i d g n rh pl m o r) e = itself_is_trivial r (ap (nth i) (parts_path (sym d ∙ e ∙ g)))

pub no_alias_term : (t : Tree) → HasNoAlias t → IsAlias t → ⊥
no_alias_term (node h ts) f i = f.0 i
no_alias_term t f i = i

no_alias_parts : (t : Tree) {h : Head} {ts : Tree} → t ≡ node h ts → HasNoAlias t → HasNoAlias ts
no_alias_parts t e f = (subst HasNoAlias e f).1

pub no_alias_nth : (i : ℕ) (ts : Tree) → HasNoAlias ts → HasNoAlias (nth i ts)
no_alias_nth zero (cons t ts) f = f.0
no_alias_nth (suc i) (cons t ts) f = no_alias_nth i ts f.1
no_alias_nth i ts f = tt

pub neither_alias : (a b : Tree) → (IsAlias a → ⊥) → (IsAlias b → ⊥) → HaveAlias a b → ⊥
neither_alias a b f g (inl i) = f i
neither_alias a b f g (inr i) = g i

neither_left : (a b : Tree) → HasNoAlias a → HasNoAlias b → HaveAlias a b → ⊥
neither_left a b f g = neither_alias a b (no_alias_term a f) (no_alias_term b g)

-- No goal is asked for of terms without aliases.
pub no_goal : {c : Items} {z : Wanted} {v : Variance} {a b : Tree} (p : Tree) → AsksFor c z v a b → z ≡ a_goal p → HasNoAlias a → HasNoAlias b → ⊥
no_goal p (of_regions q w s t r) e f g = absurd (let u : a_goal p ≡ a_constraint q = sym e ∙ w in cc)
no_goal {a = a} {b = b} p (of_aliases o w l n s r) e f g = neither_left a b f g l
no_goal {a = a} {b = b} p (of_unevaluated w l n s d) e f g = neither_left a b f g l
no_goal {a = a} {b = b} p (of_parts {ts = ts} {us = us} i d k n rh pl m o r) e f g =
    no_goal p r e (no_alias_nth i ts (no_alias_parts a d f)) (no_alias_nth i us (no_alias_parts b k g))

-- Two forms that are gone into ask for what their parts do.
pub forms_ask : {c : Items} {z : Wanted} {v : Variance} {a b : Tree} {h k : Head} {ts us : Tree} → AsksFor c z v a b → a ≡ node h ts → b ≡ node k us → (HaveAlias a b → ⊥) → PartsAsk c h v ts us z
forms_ask {h = h} (of_regions q w s t r) e f n = absurd (no_region_head h (sym (ap sort_of e) ∙ s))
forms_ask (of_aliases p w l d s r) e f n = absurd (n l)
forms_ask (of_unevaluated w l d s r) e f n = absurd (n l)
forms_ask {c = c} {z = z} {v = v} {h = h} {ts = ts} {us = us} (of_parts {h = g} {ts = xs} {us = ys} i d k m rh pl o q r) e f n =
    let p = parts_path (sym d ∙ e) in
    let u = parts_path (sym k ∙ f) in (
      i,
      subst (λ y. i < count y) p o,
      subst (λ y. i < count y) u q,
      subst (λ j. AsksFor c z (part_at c j i v) (nth i ts) (nth i us)) (head_path (sym d ∙ e)) (subst₂ (λ x y. AsksFor c z (part_at c g i v) (nth i x) (nth i y)) p u r),
    )

pub parts_are_asked : {c : Items} {z : Wanted} {v : Variance} {h k : Head} {ts us : Tree} → (HaveAlias (node h ts) (node k us) → ⊥) → IsRelatedHead h → plain h ≡ plain k → PartsAsk c h v ts us z → AsksFor c z v (node h ts) (node k us)
parts_are_asked n rh pl p = of_parts p.0 refl refl n rh pl p.1 p.2 p.3

-- A value's tree stands at the variance of the value.
at_first : {c : Items} {z : Wanted} {v : Variance} {x y : Tree} (t u v' w : Tree) (i : ℕ) → i < 2 → AsksFor c z (part_at c value i v) (nth i (cons (node value_type t) (cons x nil))) (nth i (cons (node value_type u) (cons y nil))) → AsksFor c z v x y
at_first {c = c} {z = z} {v = v} {x = x} {y = y} t u v' w zero l r = absurd (types_ask (forms_ask r refl refl (λ q. neither q)))
  where
    neither : HaveAlias (node value_type t) (node value_type u) → ⊥
    neither (inl q) = q
    neither (inr q) = q

    types_ask : PartsAsk c value_type (part_at c value 0 v) t u z → ⊥
    types_ask p = nothing_at_bivariance p.3 refl
at_first {c = c} {z = z} {v = v} {x = x} {y = y} t u v' w (suc zero) l r = subst (λ q. AsksFor c z q x y) (covariantly v) r
at_first t u v' w (suc (suc i)) l r = absurd (omega (arith, l))

-- Values ask for what stands beside their types: these are not looked at.
pub value_asks : {c : Items} {z : Wanted} {v : Variance} {t u x y : Tree} →
    AsksFor c z v (node value (cons (node value_type t) (cons x nil))) (node value (cons (node value_type u) (cons y nil))) →
    AsksFor c z v x y
value_asks {t = t} {u = u} {x = x} {y = y} r = let p = forms_ask r refl refl neither in at_first t u t u p.0 (omega (arith, p.1)) p.3
  where
    neither : HaveAlias (node value (cons (node value_type t) (cons x nil))) (node value (cons (node value_type u) (cons y nil))) → ⊥
    neither (inl q) = q
    neither (inr q) = q

-- Values over branches ask for what the branches do.
pub values_ask : {c : Items} {z : Wanted} {v : Variance} {t u ts us : Tree} → AsksFor c z v (node value (cons (node value_type t) (cons (node value_branch ts) nil))) (node value (cons (node value_type u) (cons (node value_branch us) nil))) → PartsAsk c value_branch v ts us z
values_ask {ts = ts} {us = us} r = forms_ask (value_asks r) refl refl neither_branch
  where
    neither_branch : HaveAlias (node value_branch ts) (node value_branch us) → ⊥
    neither_branch (inl q) = q
    neither_branch (inr q) = q

pub branches_are_asked : {c : Items} {z : Wanted} {v : Variance} {ts us : Tree} (t u : Tree) → PartsAsk c value_branch v ts us z → AsksFor c z v (node value (cons (node value_type t) (cons (node value_branch ts) nil))) (node value (cons (node value_type u) (cons (node value_branch us) nil)))
branches_are_asked {c = c} {z = z} {v = v} {ts = ts} {us = us} t u p =
    of_parts {h = value} {k = value} {ts = cons (node value_type t) (cons (node value_branch ts) nil)} {us = cons (node value_type u) (cons (node value_branch us) nil)} 1 refl refl neither tt refl (omega arith) (omega arith)
    (subst (λ q. AsksFor c z q (node value_branch ts) (node value_branch us)) (sym (covariantly v)) (parts_are_asked {h = value_branch} {k = value_branch} neither_branch tt refl p))
  where
    neither : HaveAlias (node value (cons (node value_type t) (cons (node value_branch ts) nil))) (node value (cons (node value_type u) (cons (node value_branch us) nil))) → ⊥
    neither (inl q) = q
    neither (inr q) = q

    neither_branch : HaveAlias (node value_branch ts) (node value_branch us) → ⊥
    neither_branch (inl q) = q
    neither_branch (inr q) = q

-- What is to be recorded of two regions is what they ask for.
pub region_asked : {Key Id Name : Type 0} (m : Meaning Key Id Name) (v : Variance) (a b : RegionKey Key) (c : RegionConstraint Key) →
    constraint_at v a b ≡ Some c → region_at v (m.region a) (m.region b) ≡ Some (constraint_of m c)
region_asked m Covariant a b c e = ap (λ k. Some (constraint_of m k)) (same_Some _ _ e)
region_asked m Contravariant a b c e = ap (λ k. Some (constraint_of m k)) (same_Some _ _ e)
region_asked m Invariant a b c e = ap (λ k. Some (constraint_of m k)) (same_Some _ _ e)
region_asked m Bivariant a b c e = absurd cc

-- Two regions ask for one constraint alone.
pub regions_ask_one : {c : Items} {z : Wanted} {v : Variance} {a b : Tree} (k : Constraint) → sort_of a ≡ region_sort → region_at v a b ≡ Some k → AsksFor c z v a b → z ≡ a_constraint k
regions_ask_one k s r (of_regions q w _ _ t) = w ∙ ap a_constraint (same_Some _ _ (sym t ∙ r))
regions_ask_one k s r (of_aliases p w l n t _) = absurd (let y : region_sort ≡ type_sort = sym s ∙ t in cc)
regions_ask_one k s r (of_unevaluated w l n t _) = absurd (let y : region_sort ≡ const_sort = sym s ∙ t in cc)
regions_ask_one k s r (of_parts {h = h} i d g n rh pl m o t) = absurd (no_region_head h (sym (ap sort_of d) ∙ s))
