-- What the depth test goes on to inside of two types of one form.
use Rattle.std.proofs.Common.{◌≡◌, ◌⊎◌, ◌↔◌, ℕ, suc, ◌+◌, Bool, true, false, ◌&&◌, IsTrue, Option, Some, None, List, cond, nat_eq, refl, sym, ap, ap₂, ◌∙◌, subst, subst₂, inl, inr, arith}
use Rattle.std.proofs.lemmas.Bool.{and_parts, false≢true, eq-eqb, eqb-true}
use Rattle.relation_terms.specs.Heads.{BoundKind, Head, signature, inputs, fn_ptr, unsafe_binder, tuple, dynamic, object}
use Rattle.relation_terms.specs.Heads.{array, slice, pattern_type, raw_ptr, ref, head_sort}
use Rattle.relation_terms.specs.Heads.{unknown}
use Rattle.relation_terms.specs.Trees.{Tree, leaf, node, bind, nil, cons, known, size, count, front, last}
use Rattle.relation_terms.specs.Parts.{tree_sort}
use Rattle.relation_terms.specs.Meaning.{Meaning, kind_tree, under}
use Rattle.relation_terms.proofs.Binders.{under_known, front_known, front_count}
use Rattle.term_enums.specs.declared.Mutability.{Mutability}
use Rattle.term_enums.specs.declared.Mutability.TheVariants.{Not, Mut}
use Rattle.term_enums.specs.declared.FnHeader.{FnHeader}
use Rattle.relation_terms.specs.declared.terms.keys.TyKey.{TyKey}
use Rattle.relation_terms.specs.declared.terms.keys.ConstKey.{ConstKey}
use Rattle.relation_terms.specs.declared.terms.keys.ArgsKey.{ArgsKey}
use Rattle.relation_terms.specs.declared.terms.keys.TysKey.{TysKey}
use Rattle.relation_terms.specs.declared.terms.alias.AliasTy.{AliasTy}
use Rattle.relation_terms.specs.declared.terms.ty_kind.TyKind.{TyKind}
use Rattle.relation_terms.specs.declared.terms.ty_kind.TyKind.TheVariants.{Alias as AliasKindTy, FnPtr as FnPtrTy}
use Rattle.relation_terms.specs.declared.terms.binder.Binder.{Binder}
use Rattle.relation_terms.specs.declared.terms.fn_sig.FnSigTys.{FnSigTys}
use Rattle.relation_folds.specs.Forms.{Form, Outline, Tuple, FnPtr}
use Rattle.relation_folds.specs.Clashes.{Clash, OneOutline, outline, of_item, plain, counted, pointer_form, reference_form}
use Rattle.relation_folds.specs.Clashes.{of_object, principal, is_between, between, here, further}
use Rattle.relation_terms.proofs.Predicates.{one_known}
use Rattle.fast_reject.specs.Pairs.{Pairs}
use Rattle.fast_reject.specs.declared.pairs.Pair.{Pair}
use Rattle.fast_reject.specs.declared.pairs.Pair.TheVariants.{Apart, Nothing, Types, Arrays, Lists, Args}
use Rattle.fast_reject.proofs.Clashing.{cons_clash, nil_left, quiet_clash, between_clash, is_quiet}

front_nil : (b : Bool) → IsTrue (known (cond b nil (leaf unknown))) → cond b nil (leaf unknown) ≡ nil
front_nil true k = refl
front_nil false k = absurd (false≢true k)

-- Lists of one term, and of two of which one or none can clash.
module _ (l r : Bool) (d : ℕ) where
  one : (x y : Tree) → Clash l r d (cons x nil) (cons y nil) ↔ Clash l r d x y
  one x y = (λ c. only (cons_clash c), λ c. here c)
    where
      only : Clash l r d x y ⊎ Clash l r d nil nil → Clash l r d x y
      only (inl c) = c
      only (inr c) = absurd (nil_left c)

  first : (x y p q : Tree) → is_quiet (tree_sort p) ≡ true →
      Clash l r d (cons x (cons p nil)) (cons y (cons q nil)) ↔ Clash l r d x y
  first x y p q h = (λ c. only (cons_clash c), λ c. here c)
    where
      only : Clash l r d x y ⊎ Clash l r d (cons p nil) (cons q nil) → Clash l r d x y
      only (inl c) = c
      only (inr c) = absurd (quiet_clash ((one p q).0 c) h)

  second : (x y p q : Tree) → is_quiet (tree_sort p) ≡ true →
      Clash l r d (cons p (cons x nil)) (cons q (cons y nil)) ↔ Clash l r d x y
  second x y p q h = (λ c. only (cons_clash c), λ c. further (here c))
    where
      only : Clash l r d p q ⊎ Clash l r d (cons x nil) (cons y nil) → Clash l r d x y
      only (inl c) = absurd (quiet_clash c h)
      only (inr c) = (one x y).0 c

  neither : (x y p q : Tree) → is_quiet (tree_sort x) ≡ true → is_quiet (tree_sort p) ≡ true →
      Clash l r d (cons x (cons p nil)) (cons y (cons q nil)) ↔ ⊥
  neither x y p q g h = (λ c. quiet_clash ((first x y p q h).0 c) g, λ c. absurd c)

  both : (x y p q : Tree) →
      Clash l r d (cons x (cons p nil)) (cons y (cons q nil)) ↔ (Clash l r d x y ⊎ Clash l r d p q)
  both x y p q = (λ c. there (cons_clash c), back)
    where
      there : Clash l r d x y ⊎ Clash l r d (cons p nil) (cons q nil) → Clash l r d x y ⊎ Clash l r d p q
      there (inl c) = inl c
      there (inr c) = inr ((one p q).0 c)

      back : Clash l r d x y ⊎ Clash l r d p q → Clash l r d (cons x (cons p nil)) (cons y (cons q nil))
      back (inl c) = here c
      back (inr c) = further (here c)

  bound : (ks js : List BoundKind) (x y : Tree) →
      Clash l r d (cons (bind ks x) nil) (cons (bind js y) nil) ↔ Clash l r d x y
  bound ks js x y =
      (λ c. (one x y).0 (between_clash ((one (bind ks x) (bind js y)).0 c) refl), λ c. here (between refl (here c)))

  -- All of a list but the last, or the last.
  ends_more : (t u f g o p vs ws : Tree) → (Clash l r d f g ⊎ Clash l r d o p) ↔ Clash l r d vs ws →
      (Clash l r d (cons t f) (cons u g) ⊎ Clash l r d o p) ↔ Clash l r d (cons t vs) (cons u ws)
  ends_more t u f g o p vs ws i = (there, λ c. back (cons_clash c))
    where
      split : Clash l r d t u ⊎ Clash l r d f g → Clash l r d (cons t vs) (cons u ws)
      split (inl c) = here c
      split (inr c) = further (i.0 (inl c))

      there : Clash l r d (cons t f) (cons u g) ⊎ Clash l r d o p → Clash l r d (cons t vs) (cons u ws)
      there (inl c) = split (cons_clash c)
      there (inr c) = further (i.0 (inr c))

      put : Clash l r d f g ⊎ Clash l r d o p → Clash l r d (cons t f) (cons u g) ⊎ Clash l r d o p
      put (inl c) = inl (further c)
      put (inr c) = inr c

      back : Clash l r d t u ⊎ Clash l r d vs ws → Clash l r d (cons t f) (cons u g) ⊎ Clash l r d o p
      back (inl c) = inl (here c)
      back (inr c) = put (i.1 c)

  ends : (xs ys : Tree) → IsTrue (known (front xs)) → IsTrue (known (front ys)) → count xs ≡ count ys →
      (Clash l r d (front xs) (front ys) ⊎ Clash l r d (last xs) (last ys)) ↔ Clash l r d xs ys
  ends (cons t nil) (cons u nil) k j e = (there, λ c. inr ((one t u).0 c))
    where
      there : Clash l r d (front (cons t nil)) (front (cons u nil)) ⊎ Clash l r d t u →
          Clash l r d (cons t nil) (cons u nil)
      there (inl c) = absurd (nil_left (subst (λ x. Clash l r d x (front (cons u nil))) (front_nil (known t) k) c))
      there (inr c) = here c
  ends (cons t (cons v vs)) (cons u (cons w ws)) k j e =
      ends_more t u (front (cons v vs)) (front (cons w ws)) (last (cons v vs)) (last (cons w ws)) (cons v vs) (cons w ws)
      (ends (cons v vs) (cons w ws) (and_parts (known t) (known (front (cons v vs))) k).1
      (and_parts (known u) (known (front (cons w ws))) j).1 (omega (arith, e)))
  ends (cons t nil) (cons u (cons w ws)) k j e = absurd (omega (arith, e))
  ends (cons t (cons v vs)) (cons u nil) k j e = absurd (omega (arith, e))
  ends (cons t (leaf x)) ys k j e = absurd (false≢true (and_parts (known t) false k).1)
  ends (cons t (node h us)) ys k j e = absurd (false≢true (and_parts (known t) false k).1)
  ends (cons t (bind ks u)) ys k j e = absurd (false≢true (and_parts (known t) false k).1)
  ends nil ys k j e = absurd (false≢true k)
  ends (leaf x) ys k j e = absurd (false≢true k)
  ends (node h us) ys k j e = absurd (false≢true k)
  ends (bind ks u) ys k j e = absurd (false≢true k)
  ends (cons t nil) (cons u (leaf x)) k j e = absurd (false≢true (and_parts (known u) false j).1)
  ends (cons t nil) (cons u (node h us)) k j e = absurd (false≢true (and_parts (known u) false j).1)
  ends (cons t nil) (cons u (bind ks v)) k j e = absurd (false≢true (and_parts (known u) false j).1)
  ends (cons t nil) nil k j e = absurd (false≢true j)
  ends (cons t nil) (leaf x) k j e = absurd (false≢true j)
  ends (cons t nil) (node h us) k j e = absurd (false≢true j)
  ends (cons t nil) (bind ks u) k j e = absurd (false≢true j)
  ends (cons t (cons v vs)) (cons u (leaf x)) k j e = absurd (false≢true (and_parts (known u) false j).1)
  ends (cons t (cons v vs)) (cons u (node h us)) k j e = absurd (false≢true (and_parts (known u) false j).1)
  ends (cons t (cons v vs)) (cons u (bind ks w)) k j e = absurd (false≢true (and_parts (known u) false j).1)
  ends (cons t (cons v vs)) nil k j e = absurd (false≢true j)
  ends (cons t (cons v vs)) (leaf x) k j e = absurd (false≢true j)
  ends (cons t (cons v vs)) (node h us) k j e = absurd (false≢true j)
  ends (cons t (cons v vs)) (bind ks u) k j e = absurd (false≢true j)

  -- Two signatures under their binders, by the lists of their types.
  signed : (ks js : List BoundKind) (h g : Head) (xs ys : Tree) → IsTrue (known (front xs)) → IsTrue (known (front ys)) →
      count xs ≡ count ys → is_between (head_sort h) ≡ true →
      Clash l r d (cons (bind ks (node h (cons (node inputs (front xs)) (cons (last xs) nil)))) nil)
      (cons (bind js (node g (cons (node inputs (front ys)) (cons (last ys) nil)))) nil) ↔ Clash l r d xs ys
  signed ks js h g xs ys k j e b = (λ c. there c, λ c. back ((ends xs ys k j e).1 c))
    where
      a : Tree
      a = node h (cons (node inputs (front xs)) (cons (last xs) nil))

      z : Tree
      z = node g (cons (node inputs (front ys)) (cons (last ys) nil))

      picked : Clash l r d (node inputs (front xs)) (node inputs (front ys)) ⊎ Clash l r d (last xs) (last ys) →
          Clash l r d xs ys
      picked (inl c) = (ends xs ys k j e).0 (inl (between_clash c refl))
      picked (inr c) = (ends xs ys k j e).0 (inr c)

      there : Clash l r d (cons (bind ks a) nil) (cons (bind js z) nil) → Clash l r d xs ys
      there c = picked ((both (node inputs (front xs)) (node inputs (front ys)) (last xs) (last ys)).0
          (between_clash ((bound ks js a z).0 c) b))

      back : Clash l r d (front xs) (front ys) ⊎ Clash l r d (last xs) (last ys) →
          Clash l r d (cons (bind ks a) nil) (cons (bind js z) nil)
      back (inl c) = (bound ks js a z).1 (between b (here (between refl c)))
      back (inr c) = (bound ks js a z).1 (between b (further (here c)))

-- How large a list is, by its last and the others.
front_size : (xs : Tree) → IsTrue (known (front xs)) → size xs ≡ suc (size (front xs) + size (last xs))
front_size (cons t nil) k = let q = ap size (front_nil (known t) k) in omega (arith, q)
front_size (cons t (cons u us)) k =
    let q = front_size (cons u us) (and_parts (known t) (known (front (cons u us))) k).1 in
    omega (arith, q)
front_size (cons t (leaf x)) k = absurd (false≢true (and_parts (known t) false k).1)
front_size (cons t (node h us)) k = absurd (false≢true (and_parts (known t) false k).1)
front_size (cons t (bind ks u)) k = absurd (false≢true (and_parts (known t) false k).1)
front_size nil k = absurd (false≢true k)
front_size (leaf x) k = absurd (false≢true k)
front_size (node h us) k = absurd (false≢true k)
front_size (bind ks u) k = absurd (false≢true k)

one_pointer : (v w : Mutability) → pointer_form v ≡ pointer_form w → v ≡ w
one_pointer Not Not e = refl
one_pointer Mut Mut e = refl
one_pointer Not Mut e = absurd (cc)
one_pointer Mut Not e = absurd (cc)

one_reference : (v w : Mutability) → reference_form v ≡ reference_form w → v ≡ w
one_reference Not Not e = refl
one_reference Mut Mut e = refl
one_reference Not Mut e = absurd (cc)
one_reference Mut Not e = absurd (cc)

pub known_first : (x y : Tree) → IsTrue (known (cons x (cons y nil))) → IsTrue (known x)
known_first x y k = (and_parts (known x) (known y && true) k).0

pub known_second : (x y : Tree) → IsTrue (known (cons x (cons y nil))) → IsTrue (known y)
known_second x y k = (and_parts (known y) true ((and_parts (known x) (known y && true) k).1)).0

-- One truth, where one holds just where the other does.
pub one_truth : (w v : Bool) → (IsTrue w ↔ IsTrue v) → w ≡ v
one_truth true v i = sym (i.0 refl)
one_truth false true i = i.1 refl
one_truth false false i = refl

module _ {Key Id Name : Type 0} (m : Meaning Key Id Name) where
  -- A pair that is chosen by a test.
  pub chosen : {P : Type 0} (a b : Tree) (w : Bool) (p q : Pair Key) → q ≡ cond w p Apart → (IsTrue w ↔ P) →
      (P → Pairs m a b p) → ((P → ⊥) → OneOutline a b → ⊥) → Pairs m a b q
  chosen a b true p q e i s n = subst (λ x. Pairs m a b x) (sym e) (s (i.0 refl))
  chosen a b false p q e i s n = subst (λ x. Pairs m a b x) (sym e) (n (λ z. false≢true (i.1 z)))

  -- Of forms over an item.
  pub items : (h : ℕ → Head) (f : Form) → ((n : ℕ) (ts : Tree) → outline (h n) ts ≡ of_item f n) → (n k : ℕ)
      (xs ys : ArgsKey Key) → IsTrue (known (m.args xs)) → IsTrue (known (m.args ys)) → (q : Pair Key) →
      q ≡ cond (nat_eq n k) (Args xs ys) Apart → Pairs m (node (h n) (m.args xs)) (node (h k) (m.args ys)) q
  items h f is n k xs ys a b q e =
      chosen (node (h n) (m.args xs)) (node (h k) (m.args ys)) (nat_eq n k) (Args xs ys) q e
      (λ i. eqb-true n k i, λ s. eq-eqb n k s)
      (λ s. (
        is n (m.args xs) ∙ ap (λ x. of_item {D = ℕ} f x) s ∙ sym (is k (m.args ys)),
        ((a, b), (omega arith, λ l r d. (λ c. c, λ c. c))),
      ))
      (λ o s. o (one_number (sym (is n (m.args xs)) ∙ s ∙ is k (m.args ys))))
    where
      one_number : of_item {D = ℕ} f n ≡ of_item f k → n ≡ k
      one_number s = let t : Some n ≡ Some k = ap (λ x. x.item) s in let z : n ≡ k = cc in z

  pub slices : (t u : TyKey Key) → IsTrue (known (cons (m.ty t) nil)) → IsTrue (known (cons (m.ty u) nil)) →
      Pairs m (node slice (cons (m.ty t) nil)) (node slice (cons (m.ty u) nil)) (Types t u)
  slices t u a b =
      (refl, ((one_known (m.ty t) a, one_known (m.ty u) b), (omega arith, λ l r d. one l r d (m.ty t) (m.ty u))))

  pub arrays : (t u : TyKey Key) (n k : ConstKey Key) → IsTrue (known (cons (m.ty t) (cons (m.const_ n) nil))) →
      IsTrue (known (cons (m.ty u) (cons (m.const_ k) nil))) →
      Pairs m (node array (cons (m.ty t) (cons (m.const_ n) nil))) (node array (cons (m.ty u) (cons (m.const_ k) nil)))
      (Arrays t u n k)
  arrays t u n k a b = (
    refl,
    (
      (
        (known_first (m.ty t) (m.const_ n) a, known_first (m.ty u) (m.const_ k) b),
        (known_second (m.ty t) (m.const_ n) a, known_second (m.ty u) (m.const_ k) b),
      ),
      (omega arith, λ l r d. both l r d (m.ty t) (m.ty u) (m.const_ n) (m.const_ k)),
    ),
  )

  pub patterns : (t u : TyKey Key) (p q : Tree) → is_quiet (tree_sort p) ≡ true →
      IsTrue (known (cons (m.ty t) (cons p nil))) → IsTrue (known (cons (m.ty u) (cons q nil))) →
      Pairs m (node pattern_type (cons (m.ty t) (cons p nil))) (node pattern_type (cons (m.ty u) (cons q nil))) (Types t u)
  patterns t u p q h a b = (
    refl,
    (
      (known_first (m.ty t) p a, known_first (m.ty u) q b),
      (omega arith, λ l r d. first l r d (m.ty t) (m.ty u) p q h),
    ),
  )

  pub pointers : (v w : Mutability) (t u : TyKey Key) → IsTrue (known (cons (m.ty t) nil)) →
      IsTrue (known (cons (m.ty u) nil)) → (y : Bool) (z : Pair Key) → z ≡ cond y (Types t u) Apart →
      (IsTrue y ↔ (v ≡ w)) → Pairs m (node (raw_ptr v) (cons (m.ty t) nil)) (node (raw_ptr w) (cons (m.ty u) nil)) z
  pointers v w t u a b y z e i =
      chosen (node (raw_ptr v) (cons (m.ty t) nil)) (node (raw_ptr w) (cons (m.ty u) nil)) y (Types t u) z e i
      (λ s. (
        ap (λ x. plain {D = ℕ} (pointer_form x)) s,
        (
          (one_known (m.ty t) a, one_known (m.ty u) b),
          (omega arith, λ l r d. one l r d (m.ty t) (m.ty u)),
        ),
      ))
      (λ o s. o (one_pointer v w (ap (λ x. x.form) s)))

  pub references : (v w : Mutability) (t u : TyKey Key) (p q : Tree) → is_quiet (tree_sort p) ≡ true →
      IsTrue (known (cons p (cons (m.ty t) nil))) → IsTrue (known (cons q (cons (m.ty u) nil))) → (y : Bool)
      (z : Pair Key) → z ≡ cond y (Types t u) Apart → (IsTrue y ↔ (v ≡ w)) →
      Pairs m (node (ref v) (cons p (cons (m.ty t) nil))) (node (ref w) (cons q (cons (m.ty u) nil))) z
  references v w t u p q h a b y z e i =
      chosen (node (ref v) (cons p (cons (m.ty t) nil))) (node (ref w) (cons q (cons (m.ty u) nil))) y (Types t u) z e i
      (λ s. (
        ap (λ x. plain {D = ℕ} (reference_form x)) s,
        (
          (known_second p (m.ty t) a, known_second q (m.ty u) b),
          (omega arith, λ l r d. second l r d (m.ty t) (m.ty u) p q h),
        ),
      ))
      (λ o s. o (one_reference v w (ap (λ x. x.form) s)))

  pub unsafe_binders : (o g : Option (List BoundKind)) (t u : TyKey Key) → IsTrue (known (cons (under o (m.ty t)) nil)) →
      IsTrue (known (cons (under g (m.ty u)) nil)) →
      Pairs m (node unsafe_binder (cons (under o (m.ty t)) nil)) (node unsafe_binder (cons (under g (m.ty u)) nil))
      (Types t u)
  unsafe_binders (Some ks) (Some js) t u a b = (
    refl,
    (
      (one_known (m.ty t) a, one_known (m.ty u) b),
      (omega arith, λ l r d. bound l r d ks js (m.ty t) (m.ty u)),
    ),
  )
  unsafe_binders None g t u a b = absurd (false≢true a)
  unsafe_binders (Some ks) None t u a b = absurd (false≢true b)

  pub tuples : (ts us : TysKey Key) → IsTrue (known (m.tys ts)) → IsTrue (known (m.tys us)) → (y : Bool) (z : Pair Key) →
      z ≡ cond y (Lists ts us) Apart → (IsTrue y ↔ (count (m.tys ts) ≡ count (m.tys us))) →
      Pairs m (node tuple (m.tys ts)) (node tuple (m.tys us)) z
  tuples ts us a b y z e i = chosen (node tuple (m.tys ts)) (node tuple (m.tys us)) y (Lists ts us) z e i
      (λ s. (ap (λ x. counted {D = ℕ} Tuple x) s, ((a, b), (omega arith, λ l r d. (λ c. c, λ c. c)))))
      (λ o s. o (ap (λ x. x.parts) s))

  pub objects : (xs ys p q : Tree) → is_quiet (tree_sort p) ≡ true → (y : Bool) (z : Pair Key) →
      z ≡ cond y Nothing Apart → (IsTrue y ↔ (principal xs ≡ principal ys)) →
      Pairs m (node dynamic (cons (node object xs) (cons p nil))) (node dynamic (cons (node object ys) (cons q nil))) z
  objects xs ys p q h y z e i =
      chosen (node dynamic (cons (node object xs) (cons p nil))) (node dynamic (cons (node object ys) (cons q nil))) y
      Nothing z e i
      (λ s. (
        ap (λ x. of_object {D = ℕ} x) s,
        (
          tt,
          (
            omega arith,
            λ l r d.
                neither l r d (node object xs) (node object ys) p q refl h,
          ),
        ),
      ))
      (λ o s. o (ap (λ x. x.item) s))

  -- Function pointers, by the lists of their types.
  abbrev pub signed_tree : TysKey Key → FnHeader → Tree
  signed_tree ts h = node (signature h.c_variadic h.safety h.abi)
      (cons (node inputs (front (m.tys ts))) (cons (last (m.tys ts)) nil))

  pub fn_ptrs : (o g : Option (List BoundKind)) (ts us : TysKey Key) (h j : FnHeader) →
      IsTrue (known (cons (under o (signed_tree ts h)) nil)) → IsTrue (known (cons (under g (signed_tree us j)) nil)) →
      (x y : Bool) (p z : Pair Key) → p ≡ cond x (Lists ts us) Apart → z ≡ cond y p Apart →
      (IsTrue x ↔ (count (m.tys ts) ≡ count (m.tys us))) → (IsTrue y ↔ (h ≡ j)) →
      Pairs m (node fn_ptr (cons (under o (signed_tree ts h)) nil)) (node fn_ptr (cons (under g (signed_tree us j)) nil)) z
  fn_ptrs (Some ks) (Some js) ts us h j a b x y p z e f i s = chosen left right y p z f s
      (λ one_header. chosen left right x (Lists ts us) p e i (λ counts. inside one_header counts)
      (λ o k. o (counted_same (ap (λ v. v.parts) k))))
      (λ o k. o (header_same (ap (λ v. v.header) k)))
    where
      left : Tree
      left = node fn_ptr (cons (bind ks (signed_tree ts h)) nil)

      right : Tree
      right = node fn_ptr (cons (bind js (signed_tree us j)) nil)

      left_known : IsTrue (known (front (m.tys ts)))
      left_known = known_first (node inputs (front (m.tys ts))) (last (m.tys ts))
          (one_known (signed_tree ts h) a)

      right_known : IsTrue (known (front (m.tys us)))
      right_known = known_first (node inputs (front (m.tys us))) (last (m.tys us))
          (one_known (signed_tree us j) b)

      counted_same : count (front (m.tys ts)) ≡ count (front (m.tys us)) → count (m.tys ts) ≡ count (m.tys us)
      counted_same k = sym (front_count (m.tys ts) left_known) ∙ ap suc k ∙ front_count (m.tys us) right_known

      fronts : count (m.tys ts) ≡ count (m.tys us) → count (front (m.tys ts)) ≡ count (front (m.tys us))
      fronts k =
          let v = front_count (m.tys ts) left_known in
          let w = front_count (m.tys us) right_known in
          omega (arith, k, v, w)

      some : FnHeader → Option FnHeader
      some k = Some (record { c_variadic = k.c_variadic; safety = k.safety; abi = k.abi })

      header_same : some h ≡ some j → h ≡ j
      header_same k = let q : h ≡ j = cc in q

      made : Option FnHeader → ℕ → Outline ℕ
      made k n = record { form = FnPtr; item = None; header = k; parts = n }

      inside : h ≡ j → count (m.tys ts) ≡ count (m.tys us) → Pairs m left right (Lists ts us)
      inside k n =
          let size_is = front_size (m.tys ts) left_known in (
            ap₂ (λ v w. made v w) (ap some k) (fronts n),
            (
              (front_known (m.tys ts) left_known, front_known (m.tys us) right_known),
              (
                omega (arith, size_is),
                λ l r d. signed l r d ks js (signature h.c_variadic h.safety h.abi)
                    (signature j.c_variadic j.safety j.abi) (m.tys ts) (m.tys us) left_known right_known n refl,
              ),
            ),
          )
  fn_ptrs None g ts us h j a b x y p z e f i s = absurd (false≢true a)
  fn_ptrs (Some ks) None ts us h j a b x y p z e f i s = absurd (false≢true b)

  pub types_known : (b : Binder Key (FnSigTys Key)) (h : FnHeader) → IsTrue (known (kind_tree m (FnPtrTy b h))) →
      IsTrue (known (m.tys (b.value).inputs_and_output))
  types_known b h k =
      let ts = m.tys (b.value).inputs_and_output in
      let under_vars = under (m.bound_vars b.bound_vars) (signed_tree (b.value).inputs_and_output h) in
      let body = (under_known (m.bound_vars b.bound_vars) (signed_tree (b.value).inputs_and_output h)
      (one_known under_vars k)).1 in
      front_known ts (known_first (node inputs (front ts)) (last ts) body)

  -- Two aliases are alike, whatever they are of.
  pub aliases : (x y : AliasTy Key Id) → IsTrue (known (m.args x.args)) → IsTrue (known (m.args y.args)) →
      Pairs m (kind_tree m (AliasKindTy x)) (kind_tree m (AliasKindTy y)) (Args x.args y.args)
  aliases x y a b = (refl, ((a, b), (omega arith, λ l r d. (λ c. c, λ c. c))))

  -- The pair of two types, by their forms.
  pub at_kinds : (left right k j : TyKind Key Id Name) (q : Pair Key) → left ≡ k → right ≡ j →
      IsTrue (known (kind_tree m left)) → IsTrue (known (kind_tree m right)) →
      (IsTrue (known (kind_tree m k)) → IsTrue (known (kind_tree m j)) → Pairs m (kind_tree m k) (kind_tree m j) q) →
      Pairs m (kind_tree m left) (kind_tree m right) q
  at_kinds left right k j q e f a b s =
      subst₂ (λ x y. Pairs m (kind_tree m x) (kind_tree m y) q) (sym e) (sym f)
      (s (subst (λ x. IsTrue (known (kind_tree m x))) e a) (subst (λ x. IsTrue (known (kind_tree m x))) f b))
