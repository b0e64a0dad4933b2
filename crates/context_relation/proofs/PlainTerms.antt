-- Plain terms whose erasures agree are alike in their outermost forms, and stay plain where binders are opened.
use Rattle.std.proofs.Common.{◌≡◌, ◌≢◌, ◌⊎◌, ℕ, zero, suc, ◌+◌, ◌<◌, refl, sym, ap, ◌∙◌, inl, inr, subst, subst₂, arith, List, false}
use Rattle.std.proofs.lemmas.Bool.{false≢true}
use Rattle.term_enums.specs.declared.Variance.{Variance}
use Rattle.term_enums.specs.declared.Variance.TheVariants.{Bivariant}
use Rattle.relation_terms.specs.Heads.{Sort, region_sort, type_sort, const_sort, value_sort, region_kind, type_kind, const_kind, BoundKind, bound_kind, leaf_sort}
use Rattle.relation_terms.specs.Heads.{Head, alias, alias_term, value_type, Leaf, variable, bound, placeholder, atom, unknown}
use Rattle.relation_terms.specs.Trees.{Tree, leaf, node, bind, nil, cons, count, nth, IsTerm}
use Rattle.relation_terms.specs.Erasure.{erase, erase_leaf, kept_parts}
use Rattle.relation_semantics.specs.Relation.{Items, at, parts, part_at, plain, sort_of, IsAlias, IsAliasHead}
use Rattle.relation_semantics.specs.Settings.{Settings, DefersAliases, LeavesOpaque}
use Rattle.relation_semantics.specs.Steps.{HasNoBinder}
use Rattle.relation_semantics.specs.Errors.{outer_leaf, outer_head, AreAlike, IsDeferred}
use Rattle.relation_semantics.specs.Agreeing.{IsFlexible, AreFlexible, IsLeftOpen, IsLeftAside, Agree}
use Rattle.relation_semantics.specs.Asking.{IsPlainLeaf, IsPlainHead, IsPlainTerm, HasNoAlias, ArePlain, without_aliases, without_binders}
use Rattle.relation_semantics.proofs.Agreeing.{agree_sorts}
use Rattle.relation_semantics.proofs.Asking.{no_alias_term}
use Rattle.relation_semantics.proofs.Erased.{no_error_atom}
use Rattle.relation_semantics.proofs.Deferring.{opaque_is_alias}
use Rattle.context_relation.proofs.RegionTerms.{erased_error, leaf_outer, outer_erased}
use Rattle.relation_recursion.proofs.Unifying.{erased_sort}
use Rattle.relation_terms.proofs.Members.{type_only}
use Rattle.relation_terms.proofs.Paths.{leaf_path}
use Rattle.relation_terms.proofs.Erasing.{erased_atom}

-- A plain term without aliases, or without binders where aliases are left to goals.
abbrev pub Suits : Settings → Tree → Type 0
Suits k t = HasNoAlias t ⊎ (HasNoBinder t × DefersAliases k)

abbrev pub Good : Settings → Tree → Type 0
Good k t = IsPlainTerm t × Suits k t

pub left_good : (k : Settings) (a b : Tree) → ArePlain k a b → Good k a
left_good k a b (without_aliases p q f g) = (p, inl f)
left_good k a b (without_binders p q f g l) = (p, inr (f, l))

pub right_good : (k : Settings) (a b : Tree) → ArePlain k a b → Good k b
right_good k a b (without_aliases p q f g) = (q, inl g)
right_good k a b (without_binders p q f g l) = (q, inr (g, l))

-- Parts of such a term are such terms.
suits_parts : (k : Settings) (h : Head) (ts : Tree) → Suits k (node h ts) → Suits k ts
suits_parts k h ts (inl a) = inl a.1
suits_parts k h ts (inr b) = inr b

suits_first : (k : Settings) (t ts : Tree) → Suits k (cons t ts) → Suits k t
suits_first k t ts (inl a) = inl a.0
suits_first k t ts (inr b) = inr (b.0.0, b.1)

suits_rest : (k : Settings) (t ts : Tree) → Suits k (cons t ts) → Suits k ts
suits_rest k t ts (inl a) = inl a.1
suits_rest k t ts (inr b) = inr (b.0.1, b.1)

pub suits_body : (k : Settings) (ks : List BoundKind) (t : Tree) → Suits k (bind ks t) → HasNoAlias t
suits_body k ks t (inl a) = a
suits_body k ks t (inr b) = absurd b.0

pub good_parts : (k : Settings) (h : Head) (ts : Tree) → Good k (node h ts) → Good k ts
good_parts k h ts f = (f.0.1, suits_parts k h ts f.1)

pub good_first : (k : Settings) (t ts : Tree) → Good k (cons t ts) → Good k t
good_first k t ts f = (f.0.0, suits_first k t ts f.1)

pub good_rest : (k : Settings) (t ts : Tree) → Good k (cons t ts) → Good k ts
good_rest k t ts f = (f.0.1, suits_rest k t ts f.1)

pub good_nth : (k : Settings) (i : ℕ) (ts : Tree) → Good k ts → Good k (nth i ts)
good_nth k zero (cons t ts) f = good_first k t ts f
good_nth k (suc i) (cons t ts) f = good_nth k i ts (good_rest k t ts f)
good_nth k i ts f = (tt, inl tt)

-- What is left to a goal up to erasure is.
alias_erased : (a : Tree) → IsAlias (erase a) → IsAlias a
alias_erased (leaf l) i = i
alias_erased (node h ts) i = i
alias_erased (bind ks t) i = i
alias_erased nil i = i
alias_erased (cons t ts) i = i

no_opaque : (k : Settings) (a : Tree) → LeavesOpaque k → Suits k a → IsAlias a → ⊥
no_opaque k a l (inl n) i = no_alias_term a n i
no_opaque k a l (inr b) i = false≢true (sym l.0 ∙ b.1.0)

left_erased : (k : Settings) (a b : Tree) → Suits k a → Suits k b → IsLeftOpen k (erase a) (erase b) → IsDeferred k a b
left_erased k a b f g (inl (l, inl o)) = inl (l, inl (alias_erased a o))
left_erased k a b f g (inl (l, inr o)) = inl (l, inr (alias_erased b o))
left_erased k a b f g (inr (l, inl o)) =
    absurd (no_opaque k a l f (alias_erased a (opaque_is_alias (erase a) o)))
left_erased k a b f g (inr (l, inr o)) =
    absurd (no_opaque k b l g (alias_erased b (opaque_is_alias (erase b) o)))

-- An alias is left to a goal.
pub alias_left : (k : Settings) (a b : Tree) → Suits k a → IsAlias a → IsDeferred k a b
alias_left k a b (inl n) i = absurd (no_alias_term a n i)
alias_left k a b (inr s) i = inl (s.1, inl i)

pub alias_left_back : (k : Settings) (a b : Tree) → Suits k b → IsAlias b → IsDeferred k a b
alias_left_back k a b (inl n) i = absurd (no_alias_term b n i)
alias_left_back k a b (inr s) i = inl (s.1, inr i)

-- A form that is no alias says what relating looks at.
plain_itself : (h : Head) → IsPlainHead h → (IsAliasHead h → ⊥) → plain h ≡ h
plain_itself (alias k d) p n = absurd (n tt)
plain_itself (alias_term k d) p n = absurd p
plain_itself h p n = refl

kept_all : (h : Head) (ts : Tree) → (h ≡ value_type → ⊥) → kept_parts h ts ≡ ts
kept_all value_type ts n = absurd (n refl)
kept_all h ts n = refl

-- Leaves of other sorts than regions agree with none but those that are alike.
not_flexible : (l : Leaf) (u : Tree) → IsPlainLeaf l → leaf_sort l ≢ region_sort → IsFlexible (leaf (erase_leaf l)) u → ⊥
not_flexible (variable k n) u f o h = o f
not_flexible (bound k d i) u f o h = o f
not_flexible (placeholder (bound_kind region_kind m) w n) u f o h = o refl
not_flexible (placeholder (bound_kind type_kind m) w n) u f o h = o h
not_flexible (placeholder (bound_kind const_kind m) w n) u f o h = o h
not_flexible (atom x) u f o (inl e) = no_error_atom x (erased_error x e) f
not_flexible (atom x) u f o (inr s) = o (sym (erased_atom x) ∙ s)
not_flexible unknown u f o h = f

pub outer_kept : (l : Leaf) → leaf_sort l ≢ region_sort → outer_leaf (erase_leaf l) ≡ outer_leaf l
outer_kept l n = outer_erased l ∙ leaf_outer l n

pub sort_no_region : (s t : Sort) → s ≡ t → t ≢ region_sort → s ≢ region_sort
sort_no_region s t e n f = n (sym e ∙ f)

type_no_region : (s : Sort) → s ≡ type_sort → s ≢ region_sort
type_no_region s e = sort_no_region s type_sort e (λ p. cc)

pub const_no_region : (s : Sort) → s ≡ const_sort → s ≢ region_sort
const_no_region s e = sort_no_region s const_sort e (λ p. cc)

pub value_no_region : (s : Sort) → s ≡ value_sort → s ≢ region_sort
value_no_region s e = sort_no_region s value_sort e (λ p. cc)

module _ (set : Settings) (c : Items) where
  -- The erasures of two terms agree at a variance.
  abbrev pub Alike : Variance → Tree → Tree → Type 0
  Alike v a b = Agree set c (at v) (erase a) (erase b)

  -- Two such terms that are related at a variance which decides, and are not left to a goal.
  pub record Met (v : Variance) (a b : Tree) : Type 0 where
    pub left : Good set a
    pub right : Good set b
    pub decides : v ≢ Bivariant
    pub gone_into : IsDeferred set a b → ⊥

  pub met_as : {v : Variance} {a b t u : Tree} → a ≡ t → b ≡ u → Met v a b → Met v t u
  met_as {v = v} p q f = subst₂ (Met v) p q f

  aside_never : (v : Variance) (a b : Tree) → Met v a b → IsLeftAside set v (erase a) (erase b) → ⊥
  aside_never v a b f (inl e) = f.decides e
  aside_never v a b f (inr l) = f.gone_into (left_erased set a b f.left.1 f.right.1 l.0)

  pub no_alias_head : {v : Variance} {h k : Head} {ts us : Tree} → Met v (node h ts) (node k us) → IsAliasHead h → ⊥
  no_alias_head {h = h} {k = k} {ts = ts} {us = us} f i =
      f.gone_into (alias_left set (node h ts) (node k us) f.left.1 i)

  no_alias_head_back : {v : Variance} {h k : Head} {ts us : Tree} → Met v (node h ts) (node k us) → IsAliasHead k → ⊥
  no_alias_head_back {h = h} {k = k} {ts = ts} {us = us} f i =
      f.gone_into (alias_left_back set (node h ts) (node k us) f.right.1 i)

  -- Two forms whose erasures agree are one, and so are their parts' but for the type of a value.
  pub record FormsAgree (v : Variance) (h k : Head) (ts us : Tree) : Type 0 where
    pub same : h ≡ k
    pub inside : (h ≡ value_type → ⊥) → Agree set c (parts h 0 v) (erase ts) (erase us)

  pub forms_agree : (v : Variance) (h k : Head) (ts us : Tree) → Met v (node h ts) (node k us) →
      Alike v (node h ts) (node k us) → FormsAgree v h k ts us
  forms_agree v h k ts us f (inl e) = absurd (aside_never v (node h ts) (node k us) f e)
  forms_agree v h k ts us f (inr r) = record {
    same = one;
    inside = λ o. subst₂ (Agree set c (parts h 0 v)) (kept_all h (erase ts) o)
        (kept_all k (erase us) (λ e. o (one ∙ e))) r.1;
  }
    where
      one : h ≡ k
      one = sym (plain_itself h f.left.0.0 (no_alias_head f)) ∙ r.0 ∙ plain_itself k f.right.0.0 (no_alias_head_back f)

  -- Lists that agree are as long, and agree at each place.
  pub agree_counts : (h : Head) (i : ℕ) (v : Variance) (ts us : Tree) →
      Agree set c (parts h i v) (erase ts) (erase us) → count ts ≡ count us
  agree_counts h i v (cons t ts) (cons u us) r = ap suc (agree_counts h (suc i) v ts us r.1)
  agree_counts h i v (cons t ts) us r = absurd cc
  agree_counts h i v ts (cons u us) r = absurd cc
  agree_counts h i v ts us r = refl

  pub agree_at : (h : Head) (v : Variance) (i j k : ℕ) (ts us : Tree) → k ≡ i + j → j < count ts →
      Agree set c (parts h i v) (erase ts) (erase us) → Alike (part_at c h k v) (nth j ts) (nth j us)
  agree_at h v i zero k (cons t ts) (cons u us) e l r =
      subst (λ n. Agree set c (at (part_at c h n v)) (erase t) (erase u)) (sym (omega (arith, e))) r.0
  agree_at h v i (suc j) k (cons t ts) (cons u us) e l r =
      agree_at h v (suc i) j k ts us (omega (arith, e)) (omega (arith, l)) r.1
  agree_at h v i j k (cons t ts) us e l r = absurd cc
  agree_at h v i j k ts us e l r = absurd (omega (arith, l))

  pub same_sort : (v : Variance) (a b : Tree) → v ≢ Bivariant → Alike v a b → sort_of a ≡ sort_of b
  same_sort v a b n r = go (agree_sorts set c v (erase a) (erase b) r)
    where
      go : (v ≡ Bivariant) ⊎ (sort_of (erase a) ≡ sort_of (erase b)) → sort_of a ≡ sort_of b
      go (inl e) = absurd (n e)
      go (inr s) = sym (erased_sort a) ∙ s ∙ erased_sort b

  pub leaves_alike : (v : Variance) (l m : Leaf) → Met v (leaf l) (leaf m) → leaf_sort l ≢ region_sort →
      leaf_sort m ≢ region_sort → Alike v (leaf l) (leaf m) → outer_leaf l ≡ outer_leaf m
  leaves_alike v l m f p q (inl e) = absurd (aside_never v (leaf l) (leaf m) f e)
  leaves_alike v l m f p q (inr (inl (inl o, s))) = absurd (not_flexible l (erase (leaf m)) f.left.0 p o)
  leaves_alike v l m f p q (inr (inl (inr o, s))) = absurd (not_flexible m (erase (leaf l)) f.right.0 q o)
  leaves_alike v l m f p q (inr (inr e)) = sym (outer_kept l p) ∙ leaf_path e ∙ outer_kept m q

  -- A leaf of another sort than a region's agrees with no form.
  apart : {X : Type 0} (v : Variance) (a b : Tree) → Met v a b → (IsFlexible (erase a) (erase b) → ⊥) →
      (IsFlexible (erase b) (erase a) → ⊥) → (AreAlike (erase a) (erase b) → ⊥) →
      IsLeftAside set v (erase a) (erase b) ⊎ (AreFlexible (erase a) (erase b) ⊎ AreAlike (erase a) (erase b)) → X
  apart v a b f p q n (inl e) = absurd (aside_never v a b f e)
  apart v a b f p q n (inr (inl (inl o, s))) = absurd (p o)
  apart v a b f p q n (inr (inl (inr o, s))) = absurd (q o)
  apart v a b f p q n (inr (inr e)) = absurd (n e)

  pub leaf_form : {X : Type 0} (v : Variance) (l : Leaf) (k : Head) (us : Tree) → Met v (leaf l) (node k us) →
      leaf_sort l ≢ region_sort → Alike v (leaf l) (node k us) → X
  leaf_form v l k us f p r = apart v (leaf l) (node k us) f (not_flexible l (erase (node k us)) f.left.0 p) (λ o. o) (λ e. cc) r

  pub form_leaf : {X : Type 0} (v : Variance) (h : Head) (ts : Tree) (m : Leaf) → Met v (node h ts) (leaf m) →
      leaf_sort m ≢ region_sort → Alike v (node h ts) (leaf m) → X
  form_leaf v h ts m f q r = apart v (node h ts) (leaf m) f (λ o. o) (not_flexible m (erase (node h ts)) f.right.0 q) (λ e. cc) r

  -- Two types that agree are alike in their outermost forms.
  pub types_alike : (v : Variance) (a b : Tree) → Met v a b → IsTerm type_sort a → IsTerm type_sort b → Alike v a b →
      AreAlike a b
  types_alike v (leaf l) (leaf m) f p q r =
      ap leaf (leaves_alike v l m f (type_no_region _ (type_only _ p)) (type_no_region _ (type_only _ q)) r)
  types_alike v (node h ts) (node k us) f p q r =
      ap (λ z. node (outer_head z) nil) (forms_agree v h k ts us f r).same
  types_alike v (leaf l) (node k us) f p q r = leaf_form v l k us f (type_no_region _ (type_only _ p)) r
  types_alike v (node h ts) (leaf m) f p q r = form_leaf v h ts m f (type_no_region _ (type_only _ q)) r
  types_alike v (bind ks t) b f p q r = absurd p
  types_alike v nil b f p q r = absurd p
  types_alike v (cons t ts) b f p q r = absurd p
  types_alike v a (bind ks t) f p q r = absurd q
  types_alike v a nil f p q r = absurd q
  types_alike v a (cons t ts) f p q r = absurd q
