-- What a test of a pair answers of two types.
use Rattle.std.proofs.Common.{◌≡◌, ◌⊎◌, ◌↔◌, ℕ, suc, ◌<◌, Bool, true, false, IsTrue, refl, sym, ap, ◌∙◌, subst, inl, inr, arith}
use Rattle.std.proofs.Common.{Option, Some, None, cond}
use Rattle.std.proofs.lemmas.Bool.{false_from_ne_true}
use Rattle.relation_terms.specs.Heads.{type_sort, const_sort, region_sort, Head, head_sort, alias, unevaluated, expression}
use Rattle.relation_terms.specs.Heads.{raw_ptr, ref}
use Rattle.relation_terms.specs.Trees.{Tree, leaf, node, bind, nil, cons, known, size}
use Rattle.relation_terms.specs.Parts.{tree_sort}
use Rattle.relation_terms.specs.Meaning.{Meaning, arg_tree}
use Rattle.relation_terms.specs.declared.terms.keys.TyKey.{TyKey}
use Rattle.relation_terms.specs.declared.terms.keys.ConstKey.{ConstKey}
use Rattle.relation_terms.specs.declared.terms.keys.RegionKey.{RegionKey}
use Rattle.relation_terms.specs.declared.terms.keys.ArgsKey.{ArgsKey}
use Rattle.relation_terms.specs.declared.terms.keys.TysKey.{TysKey}
use Rattle.relation_terms.specs.declared.terms.generic_arg.GenericArgKind.{GenericArgKind}
use Rattle.relation_terms.specs.declared.terms.generic_arg.GenericArgKind.TheVariants.{Lifetime, Ty as TyArg}
use Rattle.relation_terms.specs.declared.terms.generic_arg.GenericArgKind.TheVariants.{Const as ConstArg}
use Rattle.term_enums.specs.declared.Mutability.{Mutability}
use Rattle.term_enums.specs.declared.Mutability.TheVariants.{Not, Mut}
use Rattle.relation_folds.specs.Forms.{Alias}
use Rattle.relation_folds.specs.Clashes.{Clash, OneOutline, flexible, may_stand, depth_inside, outline, pointer_form}
use Rattle.relation_folds.specs.Clashes.{reference_form}
use Rattle.fast_reject.specs.Pairs.{Pairs, IsInside, KnownPair, pair_size, ClashIn}
use Rattle.fast_reject.specs.declared.pairs.Pair.{Pair}
use Rattle.fast_reject.specs.declared.pairs.Pair.TheVariants.{Apart, Nothing, Types, Arrays, Lists, Args}
use Rattle.relation_folds.specs.Outlines.{stands}
use Rattle.fast_reject.proofs.Clashing.{forms_clash, left_decides, parts_decide, moved, both}
use Rattle.relation_terms.proofs.Members.{size_positive}

-- A type that may stand for others is like none that may not.
pointer_no_alias : (m : Mutability) → pointer_form m ≡ Alias → ⊥
pointer_no_alias Not e = cc
pointer_no_alias Mut e = cc

reference_no_alias : (m : Mutability) → reference_form m ≡ Alias → ⊥
reference_no_alias Not e = cc
reference_no_alias Mut e = cc

alias_stands : (r : Bool) (g : Head) (us : Tree) → head_sort g ≡ type_sort → (outline g us).form ≡ Alias →
    flexible r (node g us) ≡ true
alias_stands r (alias k i) us t e = refl
alias_stands r (raw_ptr m) us t e = absurd (pointer_no_alias m e)
alias_stands r (ref m) us t e = absurd (reference_no_alias m e)
alias_stands r g us t e = absurd (cc)

pub like_rigid : (l r : Bool) (a b : Tree) → tree_sort a ≡ type_sort → tree_sort b ≡ type_sort → (a ≡ b → ⊥) →
    OneOutline a b → flexible r b ≡ false → flexible l a ≡ false
like_rigid l r (node (alias k i) ts) (node g us) ta tb n s f =
    absurd (both (alias_stands r g us tb (sym (ap (λ o. o.form) s))) f)
like_rigid l r (node (unevaluated d) ts) (node g us) ta tb n s f = absurd (cc)
like_rigid l r (node (expression k) ts) (node g us) ta tb n s f = absurd (cc)
like_rigid l r (node h ts) (node g us) ta tb n s f = refl
like_rigid l r (node h ts) (leaf x) ta tb n s f = absurd (n s)
like_rigid l r (node h ts) (bind ks t) ta tb n s f = absurd (n s)
like_rigid l r (node h ts) nil ta tb n s f = absurd (n s)
like_rigid l r (node h ts) (cons t us) ta tb n s f = absurd (n s)
like_rigid l r (leaf x) b ta tb n s f = absurd (n s)
like_rigid l r (bind ks t) b ta tb n s f = absurd (n s)
like_rigid l r nil b ta tb n s f = absurd (n s)
like_rigid l r (cons t ts) b ta tb n s f = absurd (n s)

-- Whether one stands for another, as it is told.
one_inside : (v w : Bool) → Some v ≡ Some w → v ≡ w
one_inside v w e = cc

pub nothing_inside : (w : Bool) → None ≡ Some w → ⊥
nothing_inside w e = cc

pub told_some : (o : Option Bool) (w : Bool) → o ≡ Some w → (w ≡ true) ↔ (o ≡ Some true)
told_some o w e = (λ i. e ∙ ap (λ x. Some x) i, λ h. one_inside w true (sym e ∙ h))

pub told_none : (o : Option Bool) → ((w : Bool) → o ≡ Some w → ⊥) → (false ≡ true) ↔ (o ≡ Some true)
told_none o n = (λ i. absurd (cc), λ h. absurd (n true h))

same_answer : (w v : Bool) → (w ≡ true → v ≡ true) → (v ≡ true → w ≡ true) → w ≡ v
same_answer true v f g = sym (f refl)
same_answer false true f g = g refl
same_answer false false f g = refl

-- A test of two types of unlike forms answers whether the left one stands for the right.
module _ (l r : Bool) (d : ℕ) (a b : Tree) (ta : tree_sort a ≡ type_sort) (tb : tree_sort b ≡ type_sort) (e : ℕ)
    (w : Bool) (z : d ≡ suc e) (f : flexible r b ≡ false) (n : OneOutline a b → ⊥)
    (o : (w ≡ true) ↔ (stands l a b ≡ Some true)) where
  told_by : (p : Bool) → flexible l a ≡ p → (w ≡ false) ↔ Clash l r d a b
  told_by true g =
      let s : stands l a b ≡ Some (may_stand a b) = ap (λ p. cond p (Some (may_stand a b)) None) g in
      let there : w ≡ true → may_stand a b ≡ true =
      (λ i. one_inside (may_stand a b) true (sym s ∙ o.0 i)) in
      let back : may_stand a b ≡ true → w ≡ true = (λ i. o.1 (s ∙ ap (λ x. Some x) i)) in
      left_decides l r d a b ta tb e w z f g (same_answer w (may_stand a b) there back)
  told_by false g =
      let s : stands l a b ≡ None = ap (λ p. cond p (Some (may_stand a b)) None) g in
      let never : w ≡ true → ⊥ = (λ i. nothing_inside true (sym s ∙ o.0 i)) in
      (λ i. forms_clash l r d a b ta tb e z f g n, λ c. false_from_ne_true w never)

  pub apart_decides : (w ≡ false) ↔ Clash l r d a b
  apart_decides = told_by (flexible l a) refl

module _ {Key Id Name : Type 0} (m : Meaning Key Id Name) where
  pub pairs_alike : (a b : Tree) (p : Pair Key) → Pairs m a b p → (p ≡ Apart → ⊥) → OneOutline a b
  pairs_alike a b Apart s n = absurd (n refl)
  pairs_alike a b Nothing s n = s.0
  pairs_alike a b (Types t u) s n = s.0
  pairs_alike a b (Arrays t u c k) s n = s.0
  pairs_alike a b (Lists ts us) s n = s.0
  pairs_alike a b (Args xs ys) s n = s.0

  pub pair_known : (a b : Tree) (p : Pair Key) → Pairs m a b p → KnownPair m p
  pair_known a b Apart s = tt
  pair_known a b Nothing s = s.1.0
  pair_known a b (Types t u) s = s.1.0
  pair_known a b (Arrays t u n k) s = s.1.0
  pair_known a b (Lists ts us) s = s.1.0
  pair_known a b (Args xs ys) s = s.1.0

  pub pair_small : (a b : Tree) (p : Pair Key) → Pairs m a b p → pair_size m p < size a
  pair_small a b Apart s = omega (arith, size_positive a)
  pair_small a b Nothing s = s.1.1.0
  pair_small a b (Types t u) s = s.1.1.0
  pair_small a b (Arrays t u n k) s = s.1.1.0
  pair_small a b (Lists ts us) s = s.1.1.0
  pair_small a b (Args xs ys) s = s.1.1.0

  -- A test of two types answers what one of their pair does.
  module _ (l r : Bool) (d : ℕ) (a b : Tree) (ta : tree_sort a ≡ type_sort) (tb : tree_sort b ≡ type_sort) (e : ℕ)
      (w : Bool) (z : d ≡ suc e) (f : flexible r b ≡ false) (g : flexible l a ≡ false) where
    inside_decides : (p : Pair Key) → IsInside m a b p → ((w ≡ false) ↔ ClashIn m l r (depth_inside a e) p) →
        (w ≡ false) ↔ Clash l r d a b
    inside_decides p s o =
        let clash = s.1.1.1 l r (depth_inside a e) in
        parts_decide l r d a b ta tb e w z f g s.0 (λ i. clash.1 (o.0 i), λ c. o.1 (clash.0 c))

    pub pair_decides : (p : Pair Key) → Pairs m a b p → ((w ≡ false) ↔ ClashIn m l r (depth_inside a e) p) →
        (w ≡ false) ↔ Clash l r d a b
    pair_decides Apart s o = (λ i. forms_clash l r d a b ta tb e z f g s, λ c. o.1 tt)
    pair_decides Nothing s o = inside_decides Nothing s o
    pair_decides (Types t u) s o = inside_decides (Types t u) s o
    pair_decides (Arrays t u n k) s o = inside_decides (Arrays t u n k) s o
    pair_decides (Lists ts us) s o = inside_decides (Lists ts us) s o
    pair_decides (Args xs ys) s o = inside_decides (Args xs ys) s o

  -- What a test of a pair answers.
  pub apart_clash : (l r : Bool) (d : ℕ) (p : Pair Key) → p ≡ Apart → (false ≡ false) ↔ ClashIn m l r d p
  apart_clash l r d p e = subst (λ x. (false ≡ false) ↔ ClashIn m l r d x) (sym e) (λ i. tt, λ c. refl)

  pub no_pair_clash : (l r : Bool) (d : ℕ) (p : Pair Key) → p ≡ Nothing → (true ≡ false) ↔ ClashIn m l r d p
  no_pair_clash l r d p e = subst (λ x. (true ≡ false) ↔ ClashIn m l r d x) (sym e) (λ i. absurd (cc), λ c. absurd c)

  pub types_clash : (l r w : Bool) (d : ℕ) (p : Pair Key) (t u : TyKey Key) → p ≡ Types t u →
      ((w ≡ false) ↔ Clash l r d (m.ty t) (m.ty u)) → (w ≡ false) ↔ ClashIn m l r d p
  types_clash l r w d p t u e o = subst (λ x. (w ≡ false) ↔ ClashIn m l r d x) (sym e) o

  pub lists_clash : (l r w : Bool) (d : ℕ) (p : Pair Key) (ts us : TysKey Key) → p ≡ Lists ts us → (xs ys : Tree) →
      m.tys ts ≡ xs → m.tys us ≡ ys → ((w ≡ false) ↔ Clash l r d xs ys) → (w ≡ false) ↔ ClashIn m l r d p
  lists_clash l r w d p ts us e xs ys f g o =
      subst (λ x. (w ≡ false) ↔ ClashIn m l r d x) (sym e) (moved l r w refl (sym f) (sym g) o)

  pub args_clash : (l r w : Bool) (d : ℕ) (p : Pair Key) (gs hs : ArgsKey Key) → p ≡ Args gs hs → (xs ys : Tree) →
      m.args gs ≡ xs → m.args hs ≡ ys → ((w ≡ false) ↔ Clash l r d xs ys) → (w ≡ false) ↔ ClashIn m l r d p
  args_clash l r w d p gs hs e xs ys f g o =
      subst (λ x. (w ≡ false) ↔ ClashIn m l r d x) (sym e) (moved l r w refl (sym f) (sym g) o)

  pub first_clash : (l r : Bool) (d : ℕ) (p : Pair Key) (t u : TyKey Key) (n k : ConstKey Key) → p ≡ Arrays t u n k →
      Clash l r d (m.ty t) (m.ty u) → (false ≡ false) ↔ ClashIn m l r d p
  first_clash l r d p t u n k e c =
      subst (λ x. (false ≡ false) ↔ ClashIn m l r d x) (sym e) (λ i. inl c, λ o. refl)

  pub second_clash : (l r w : Bool) (d : ℕ) (p : Pair Key) (t u : TyKey Key) (n k : ConstKey Key) →
      p ≡ Arrays t u n k → (Clash l r d (m.ty t) (m.ty u) → ⊥) →
      ((w ≡ false) ↔ Clash l r d (m.const_ n) (m.const_ k)) → (w ≡ false) ↔ ClashIn m l r d p
  second_clash l r w d p t u n k e z o =
      subst (λ x. (w ≡ false) ↔ ClashIn m l r d x) (sym e) (λ i. inr (o.0 i), back)
    where
      back : Clash l r d (m.ty t) (m.ty u) ⊎ Clash l r d (m.const_ n) (m.const_ k) → w ≡ false
      back (inl c) = absurd (z c)
      back (inr c) = o.1 c

  -- Arguments of another sort.
  pub other_than_ty : ((r : RegionKey Key) → IsTrue (known (m.region r)) → tree_sort (m.region r) ≡ region_sort) →
      ((n : ConstKey Key) → IsTrue (known (m.const_ n)) → tree_sort (m.const_ n) ≡ const_sort) →
      (x : GenericArgKind Key) → IsTrue (known (arg_tree m x)) → ((t : TyKey Key) → x ≡ TyArg t → ⊥) →
      tree_sort (arg_tree m x) ≡ type_sort → ⊥
  other_than_ty r n (Lifetime x) k z e = let q = sym (r x k) ∙ e in cc
  other_than_ty r n (TyArg x) k z e = z x refl
  other_than_ty r n (ConstArg x) k z e = let q = sym (n x k) ∙ e in cc

  pub other_than_const : ((r : RegionKey Key) → IsTrue (known (m.region r)) → tree_sort (m.region r) ≡ region_sort) →
      ((t : TyKey Key) → IsTrue (known (m.ty t)) → tree_sort (m.ty t) ≡ type_sort) →
      (x : GenericArgKind Key) → IsTrue (known (arg_tree m x)) → ((n : ConstKey Key) → x ≡ ConstArg n → ⊥) →
      tree_sort (arg_tree m x) ≡ const_sort → ⊥
  other_than_const r t (Lifetime x) k z e = let q = sym (r x k) ∙ e in cc
  other_than_const r t (TyArg x) k z e = let q = sym (t x k) ∙ e in cc
  other_than_const r t (ConstArg x) k z e = z x refl
