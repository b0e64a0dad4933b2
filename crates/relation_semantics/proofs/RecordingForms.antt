-- Two terms of one form ask for what their parts do.
use Rattle.std.proofs.Common.{◌≡◌, ◌⊎◌, ℕ, ◌<◌, refl, sym, ap, ◌∙◌, inl, inr, subst, subst₂, arith}
use Rattle.term_enums.specs.declared.Variance.{Variance}
use Rattle.relation_terms.specs.Heads.{Head, value, value_type, value_branch}
use Rattle.relation_terms.specs.Heads.{expression, unevaluated, Atom, atom}
use Rattle.relation_terms.specs.Trees.{Tree, leaf, node, nil, cons, count}
use Rattle.relation_semantics.specs.Relation.{Items, plain_atom, IsAlias, IsRelatedHead, sort_of}
use Rattle.relation_semantics.specs.Errors.{AreOfOneForm, over_parts, over_aliases, one_leaf, parameters, AreOfOneConst, values}
use Rattle.relation_semantics.specs.Errors.{expressions, over_arguments, const_parameters, one_value, as_many_branches, one_const_leaf}
use Rattle.relation_semantics.specs.Parts.{direct_parts, head_of, const_parts_of, const_head_of, branches_of}
use Rattle.relation_semantics.specs.Settings.{Settings}
use Rattle.relation_semantics.specs.Asking.{Wanted, IsTrivial, HaveAlias, AsksFor, of_regions, of_aliases, of_unevaluated, of_parts}
use Rattle.relation_semantics.specs.Asking.{IsPlainTerm, HasNoAlias}
use Rattle.relation_semantics.specs.Recording.{AreBare, FrontAsks}
use Rattle.relation_semantics.proofs.Asking.{itself_is_trivial, value_asks, values_ask, branches_are_asked}
use Rattle.relation_semantics.proofs.Full.{parts_plain, const_parts_plain}
use Rattle.relation_semantics.proofs.Recording.{bare_by, form_asks_front, front_asks_form}
use Rattle.relation_semantics.proofs.Related.{same_region}

-- The parts of two bare terms are bare.
plain_parts : (t : Tree) → IsPlainTerm t → IsPlainTerm (direct_parts t)
plain_parts (node h ts) f = f.1
plain_parts t f = tt

free_parts : (t : Tree) → HasNoAlias t → HasNoAlias (direct_parts t)
free_parts (node h ts) f = f.1
free_parts t f = tt

pub bare_parts : (k : Settings) (a b : Tree) → AreBare k a b → AreBare k (direct_parts a) (direct_parts b)
bare_parts k a b = bare_by k direct_parts plain_parts parts_plain free_parts a b

plain_branches : (t : Tree) → IsPlainTerm t → IsPlainTerm (branches_of t)
plain_branches (node value_branch ts) f = f.1
plain_branches t f = tt

free_branches : (t : Tree) → HasNoAlias t → HasNoAlias (branches_of t)
free_branches (node value_branch ts) f = f.1
free_branches t f = tt

plain_const_parts : (t : Tree) → IsPlainTerm t → IsPlainTerm (const_parts_of t)
plain_const_parts (node (unevaluated d) ts) f = f.1
plain_const_parts (node (expression k) ts) f = f.1
plain_const_parts (node value (cons t (cons v nil))) f = plain_branches v f.1.1.0
plain_const_parts t f = tt

free_const_parts : (t : Tree) → HasNoAlias t → HasNoAlias (const_parts_of t)
free_const_parts (node (unevaluated d) ts) f = f.1
free_const_parts (node (expression k) ts) f = f.1
free_const_parts (node value (cons t (cons v nil))) f = free_branches v f.1.1.0
free_const_parts t f = tt

pub bare_const_parts : (k : Settings) (a b : Tree) → AreBare k a b → AreBare k (const_parts_of a) (const_parts_of b)
bare_const_parts k a b = bare_by k const_parts_of plain_const_parts const_parts_plain free_const_parts a b

-- Two names of one region ask only for what is trivial, and other parameters for nothing.
names_ask : {c : Items} {z : Wanted} {v : Variance} {a b : Tree} (x y : Atom) → a ≡ leaf (atom x) → b ≡ leaf (atom y) →
    plain_atom x ≡ plain_atom y → (HaveAlias a b → ⊥) → AsksFor c z v a b → IsTrivial z
names_ask {c = c} x y d e p none (of_regions q w s t r) = itself_is_trivial {c = c} (of_regions q w s t r)
    (d ∙ same_region x y (ap sort_of (sym d) ∙ s) (ap sort_of (sym e) ∙ t) p ∙ sym e)
names_ask x y d e p none (of_aliases q w l n s r) = absurd (none l)
names_ask x y d e p none (of_unevaluated w l n s r) = absurd (none l)
names_ask x y d e p none (of_parts i g k n rh pl m o r) = absurd (cc)

module _ (c : Items) (v : Variance) (a b : Tree) (n : ℕ) (none : HaveAlias a b → ⊥) (z : Wanted) where
  module _ (ea : n ≡ count (direct_parts a)) (eb : n ≡ count (direct_parts b)) where
    pub form_asks : AreOfOneForm a b → AsksFor c z v a b →
        IsTrivial z ⊎ FrontAsks c (head_of a) v n (direct_parts a) (direct_parts b) z
    form_asks (over_parts {h} {ts} {us} d e m) asks =
        inr (subst (λ x. FrontAsks c (head_of x) v n (direct_parts x) (direct_parts b) z) (sym d)
        (subst (λ y. FrontAsks c h v n ts (direct_parts y) z) (sym e)
        (form_asks_front v n ts us (subst₂ (λ x y. HaveAlias x y → ⊥) d e none) (ea ∙ ap (λ x. count (direct_parts x)) d)
        (eb ∙ ap (λ x. count (direct_parts x)) e) z (subst₂ (AsksFor c z v) d e asks))))
    form_asks (over_aliases d e m) asks = absurd (none (inl (subst IsAlias (sym d) tt)))
    form_asks (one_leaf d e) asks = inl (itself_is_trivial asks (d ∙ sym e))
    form_asks (parameters {x} {y} d e p) asks = inl (names_ask x y d e p none asks)

    pub asks_form : AreOfOneForm a b → ((h : Head) (ts : Tree) → a ≡ node h ts → IsRelatedHead h) →
        FrontAsks c (head_of a) v n (direct_parts a) (direct_parts b) z → AsksFor c z v a b
    asks_form (over_parts {h} {ts} {us} d e m) related f = subst₂ (AsksFor c z v) (sym d) (sym e)
        (front_asks_form v n ts us (subst₂ (λ x y. HaveAlias x y → ⊥) d e none) (ea ∙ ap (λ x. count (direct_parts x)) d)
        (eb ∙ ap (λ x. count (direct_parts x)) e) z (related h ts d) refl
        (subst (λ x. FrontAsks c (head_of x) v n (direct_parts x) us z) d
        (subst (λ y. FrontAsks c (head_of a) v n (direct_parts a) (direct_parts y) z) e f)))
    asks_form (over_aliases d e m) related f = absurd (none (inl (subst IsAlias (sym d) tt)))
    asks_form (one_leaf d e) related f =
        let l = f.1 in let o : n ≡ 0 = ea ∙ ap (λ x. count (direct_parts x)) d in absurd (omega (arith, l, o))
    asks_form (parameters d e p) related f =
        let l = f.1 in let o : n ≡ 0 = ea ∙ ap (λ x. count (direct_parts x)) d in absurd (omega (arith, l, o))

  -- Two constants of one form do so too.
  module _ (ea : n ≡ count (const_parts_of a)) (eb : n ≡ count (const_parts_of b)) where
    pub const_asks : AreOfOneConst a b → AsksFor c z v a b →
        IsTrivial z ⊎ FrontAsks c (const_head_of a) v n (const_parts_of a) (const_parts_of b) z
    const_asks (values {t} {u} {v = x} {w = y} d e (one_value s)) asks =
        inl (itself_is_trivial (value_asks (subst₂ (AsksFor c z v) d e asks)) s)
    const_asks (values {t} {u} {v = x} {w = y} d e (as_many_branches {ts} {us} m o k)) asks =
        let left : const_parts_of a ≡ ts = ap const_parts_of d ∙ ap branches_of m in
        let right : const_parts_of b ≡ us = ap const_parts_of e ∙ ap branches_of o in
        let p = values_ask (subst₂ (λ i j. AsksFor c z v (node value (cons (node value_type (cons t nil)) (cons i nil)))
        (node value (cons (node value_type (cons u nil)) (cons j nil)))) m o (subst₂ (AsksFor c z v) d e asks)) in
        inr (subst (λ i. FrontAsks c (const_head_of i) v n (const_parts_of a) (const_parts_of b) z) (sym d)
        (subst₂ (λ i j. FrontAsks c value_branch v n i j z) (sym left) (sym right)
        (p.0, subst (λ i. p.0 < i) (sym (ea ∙ ap count left)) p.1, p.3)))
    const_asks (expressions {k} {ts} {us} d e m) asks =
        inr (subst (λ x. FrontAsks c (const_head_of x) v n (const_parts_of x) (const_parts_of b) z) (sym d)
        (subst (λ y. FrontAsks c (expression k) v n ts (const_parts_of y) z) (sym e)
        (form_asks_front v n ts us (subst₂ (λ x y. HaveAlias x y → ⊥) d e none)
        (ea ∙ ap (λ x. count (const_parts_of x)) d) (eb ∙ ap (λ x. count (const_parts_of x)) e) z
        (subst₂ (AsksFor c z v) d e asks))))
    const_asks (over_arguments d e m) asks = absurd (none (inl (subst IsAlias (sym d) tt)))
    const_asks (one_const_leaf d e) asks = inl (itself_is_trivial asks (d ∙ sym e))
    const_asks (const_parameters {x} {y} d e p) asks = inl (names_ask x y d e p none asks)

    -- Values that are one ask for what their branches do.
    one_value_asks : (t u x : Tree) → FrontAsks c value_branch v n (branches_of x) (branches_of x) z →
        n ≡ count (branches_of x) → AsksFor c z v (node value (cons (node value_type (cons t nil)) (cons x nil)))
        (node value (cons (node value_type (cons u nil)) (cons x nil)))
    one_value_asks t u (node value_branch ts) f o = branches_are_asked (cons t nil) (cons u nil)
        (f.0, subst (λ i. f.0 < i) o f.1, subst (λ i. f.0 < i) o f.1, f.2)
    one_value_asks t u x f o = let l = f.1 in absurd (omega (arith, l, o))

    pub asks_const : AreOfOneConst a b → FrontAsks c (const_head_of a) v n (const_parts_of a) (const_parts_of b) z →
        AsksFor c z v a b
    asks_const (values {t} {u} {v = x} {w = y} d e (one_value s)) f =
        let left : const_parts_of a ≡ branches_of x = ap const_parts_of d in
        let right : const_parts_of b ≡ branches_of x = ap const_parts_of e ∙ ap branches_of (sym s) in
        subst₂ (AsksFor c z v) (sym d) (sym e)
        (subst (λ i. AsksFor c z v (node value (cons (node value_type (cons t nil)) (cons x nil)))
        (node value (cons (node value_type (cons u nil)) (cons i nil)))) s
        (one_value_asks t u x (subst₂ (λ i j. FrontAsks c value_branch v n i j z) left right
        (subst (λ i. FrontAsks c (const_head_of i) v n (const_parts_of a) (const_parts_of b) z) d f)) (ea ∙ ap count left)))
    asks_const (values {t} {u} {v = x} {w = y} d e (as_many_branches {ts} {us} m o k)) f =
        let left : const_parts_of a ≡ ts = ap const_parts_of d ∙ ap branches_of m in
        let right : const_parts_of b ≡ us = ap const_parts_of e ∙ ap branches_of o in
        let g = subst₂ (λ i j. FrontAsks c value_branch v n i j z) left right
        (subst (λ i. FrontAsks c (const_head_of i) v n (const_parts_of a) (const_parts_of b) z) d f) in
        subst₂ (AsksFor c z v) (sym d) (sym e)
        (subst₂ (λ i j. AsksFor c z v (node value (cons (node value_type (cons t nil)) (cons i nil)))
        (node value (cons (node value_type (cons u nil)) (cons j nil)))) (sym m) (sym o)
        (branches_are_asked (cons t nil) (cons u nil) (
          g.0,
          subst (λ i. g.0 < i) (ea ∙ ap count left) g.1,
          subst (λ i. g.0 < i) (eb ∙ ap count right) g.1,
          g.2,
        )))
    asks_const (expressions {k} {ts} {us} d e m) f = subst₂ (AsksFor c z v) (sym d) (sym e)
        (front_asks_form {h = expression k} {k = expression k} v n ts us (subst₂ (λ x y. HaveAlias x y → ⊥) d e none)
        (ea ∙ ap (λ x. count (const_parts_of x)) d) (eb ∙ ap (λ x. count (const_parts_of x)) e) z tt refl
        (subst (λ x. FrontAsks c (const_head_of x) v n (const_parts_of x) us z) d
        (subst (λ y. FrontAsks c (const_head_of a) v n (const_parts_of a) (const_parts_of y) z) e f)))
    asks_const (over_arguments d e m) f = absurd (none (inl (subst IsAlias (sym d) tt)))
    asks_const (one_const_leaf d e) f =
        let l = f.1 in let o : n ≡ 0 = ea ∙ ap (λ x. count (const_parts_of x)) d in absurd (omega (arith, l, o))
    asks_const (const_parameters d e p) f =
        let l = f.1 in let o : n ≡ 0 = ea ∙ ap (λ x. count (const_parts_of x)) d in absurd (omega (arith, l, o))
