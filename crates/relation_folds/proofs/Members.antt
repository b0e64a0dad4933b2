-- The members of a list folded one after another, and a form over its folded parts.
use Rattle.std.proofs.Common.{◌≡◌, ℕ, zero, suc, ◌<◌, ◌≤◌, refl, sym, ap, ap₂, ◌∙◌, subst, arith}
use Rattle.std.proofs.Common.{IsTrue, List, [], ◌∷◌, ◌++◌, Option, length, take, drop, append-nil, append_assoc}
use Rattle.std.proofs.Common.{length-append, drop_at, take_at}
use Rattle.std.proofs.lemmas.Bool.{and_parts}
use Rattle.relation_terms.specs.Trees.{Tree, leaf, node, bind, nil, cons, known, list_tree, count, nth, IsList}
use Rattle.relation_terms.specs.Parts.{part_sort, tree_sort, parts_of, over, Fit}
use Rattle.relation_terms.specs.declared.terms.part_kind.Part.{Part}
use Rattle.relation_terms.proofs.Members.{known_with_last}
use Rattle.relation_terms.proofs.Stays.{stays_list, knows_as}
use Rattle.relation_folds.specs.declared.fold.memory.Memory.{Memory}
use Rattle.relation_folds.specs.Folds.{folded, folded_parts}
use Rattle.relation_folds.specs.Firsts.{AreFirsts}
use Rattle.relation_folds.specs.Stacks.{StandsUpon}
pub use Rattle.relation_folds.specs.Firsts.{firsts}
use Rattle.relation_folds.proofs.Depths.{inside}

pub firsts_all : (t : Tree) → IsList t → firsts (count t) t ≡ t
firsts_all nil h = refl
firsts_all (cons t ts) h = ap (cons t) (firsts_all ts h)
firsts_all (leaf l) h = absurd h
firsts_all (node g ts) h = absurd h
firsts_all (bind ks t) h = absurd h

-- One more part, of the sort of the one at its place.
pub fit_next : {Key Id : Type 0} (y : Part Key Id) (i : ℕ) (ts : Tree) (xs : List (Part Key Id)) → i < count ts →
    Fit xs (firsts i ts) → part_sort y ≡ tree_sort (nth i ts) → Fit (xs ++ y ∷ []) (firsts (suc i) ts)
fit_next y zero (cons t ts) [] h a q = (q, tt)
fit_next y zero (cons t ts) (x ∷ xs) h a q = absurd a
fit_next y (suc i) (cons t ts) [] h a q = absurd a
fit_next y (suc i) (cons t ts) (x ∷ xs) h a q = (a.0, fit_next y i ts xs (omega arith) a.1 q)
fit_next y i (leaf l) xs h a q = absurd (omega arith)
fit_next y i (node b l) xs h a q = absurd (omega arith)
fit_next y i (bind ks l) xs h a q = absurd (omega arith)
fit_next y i nil xs h a q = absurd (omega arith)

-- One more member, as it is.
same_first : {Key Id : Type 0} (f : Part Key Id → Tree) (y : Part Key Id) (i : ℕ) (ts : Tree) (xs : List (Part Key Id)) →
    i < count ts → list_tree f xs ≡ firsts i ts → f y ≡ nth i ts → list_tree f (xs ++ y ∷ []) ≡ firsts (suc i) ts
same_first f y zero (cons t ts) [] h e q = ap (λ z. cons z nil) q
same_first f y zero (cons t ts) (x ∷ xs) h e q = absurd (cc)
same_first f y (suc i) (cons t ts) [] h e q = absurd (cc)
same_first f y (suc i) (cons t ts) (x ∷ xs) h e q =
    let u : f x ≡ t = cc in
    let w : list_tree f xs ≡ firsts i ts = cc in
    ap₂ cons u (same_first f y i ts xs (omega arith) w q)
same_first f y i (leaf l) xs h e q = absurd (omega arith)
same_first f y i (node b l) xs h e q = absurd (omega arith)
same_first f y i (bind ks l) xs h e q = absurd (omega arith)
same_first f y i nil xs h e q = absurd (omega arith)

pub firsts_none : {Key Id : Type 0} (f : Part Key Id → Tree) (ts : Tree) (xs : List (Part Key Id)) → xs ≡ [] →
    AreFirsts f 0 ts xs
firsts_none f ts xs e = subst (λ ys. AreFirsts f 0 ts ys) (sym e) (record { same = refl; sure = refl; fit = tt })

pub firsts_next : {Key Id : Type 0} (f : Part Key Id → Tree) (y : Part Key Id) (i j : ℕ) (ts : Tree)
    (xs ys : List (Part Key Id)) → AreFirsts f i ts xs → i < count ts → j ≡ suc i → f y ≡ nth i ts →
    IsTrue (known (f y)) → part_sort y ≡ tree_sort (nth i ts) → ys ≡ xs ++ y ∷ [] → AreFirsts f j ts ys
firsts_next f y i j ts xs ys a h e q k s r =
    subst (λ zs. AreFirsts f j ts zs) (sym r) (subst (λ n. AreFirsts f n ts (xs ++ y ∷ [])) (sym e) (record {
      same = same_first f y i ts xs h a.same q;
      sure = known_with_last f xs y a.sure k;
      fit = fit_next y i ts xs h a.fit s;
    }))

-- The first parts are built.
pub record Built {Key Id : Type 0} (p : ℕ → Tree → Option Tree) (d : ℕ) (f : Part Key Id → Tree) (i : ℕ) (ts : Tree) (xs : List (Part Key Id))
    : Type 0 where
  pub same : list_tree f xs ≡ folded p d (firsts i ts)
  pub sure : IsTrue (known (list_tree f xs))
  pub fit : Fit xs (firsts i ts)

module _ {Key Id : Type 0} (p : ℕ → Tree → Option Tree) (d : ℕ) (f g : Part Key Id → Tree)
    (stay : (x : Part Key Id) → IsTrue (known (f x)) → g x ≡ f x) (y : Part Key Id) where
  -- One more, in an interner that has grown.
  same_next : (i : ℕ) (ts : Tree) (xs : List (Part Key Id)) → i < count ts → Fit xs (firsts i ts) →
      IsTrue (known (list_tree f xs)) → list_tree f xs ≡ folded p d (firsts i ts) → g y ≡ folded p d (nth i ts) →
      list_tree g (xs ++ y ∷ []) ≡ folded p d (firsts (suc i) ts)
  same_next zero (cons t ts) [] h a k e q = ap (λ z. cons z nil) q
  same_next zero (cons t ts) (x ∷ xs) h a k e q = absurd a
  same_next (suc i) (cons t ts) [] h a k e q = absurd a
  same_next (suc i) (cons t ts) (x ∷ xs) h a k e q =
      let o = and_parts (known (f x)) (known (list_tree f xs)) k in
      let u : f x ≡ folded p d t = cc in
      let w : list_tree f xs ≡ folded p d (firsts i ts) = cc in
      ap₂ cons (stay x o.0 ∙ u) (same_next i ts xs (omega arith) a.1 o.1 w q)
  same_next i (leaf l) xs h a k e q = absurd (omega arith)
  same_next i (node b l) xs h a k e q = absurd (omega arith)
  same_next i (bind ks l) xs h a k e q = absurd (omega arith)
  same_next i nil xs h a k e q = absurd (omega arith)

  sure_next : (xs : List (Part Key Id)) → IsTrue (known (list_tree f xs)) → IsTrue (known (g y)) →
      IsTrue (known (list_tree g (xs ++ y ∷ [])))
  sure_next xs h k =
      known_with_last g xs y (knows_as (list_tree f xs) (list_tree g xs) (stays_list f g xs stay h) h) k

  pub built_next : (i j : ℕ) (ts : Tree) (xs ys : List (Part Key Id)) → Built p d f i ts xs → i < count ts → j ≡ suc i →
      g y ≡ folded p d (nth i ts) → IsTrue (known (g y)) → part_sort y ≡ tree_sort (nth i ts) → ys ≡ xs ++ y ∷ [] →
      Built p d g j ts ys
  built_next i j ts xs ys b h e q k s r =
      subst (λ zs. Built p d g j ts zs) (sym r) (subst (λ n. Built p d g n ts (xs ++ y ∷ [])) (sym e) (record {
        same = same_next i ts xs h b.fit b.sure b.same q;
        sure = sure_next xs b.sure k;
        fit = fit_next y i ts xs h b.fit s;
      }))

-- Where the first members were left as they are, and the next is too, so are all these.
pub left_next : (p : ℕ → Tree → Option Tree) (d : ℕ) (i : ℕ) (ts : Tree) → i < count ts →
    folded p d (firsts i ts) ≡ firsts i ts → folded p d (nth i ts) ≡ nth i ts →
    folded p d (firsts (suc i) ts) ≡ firsts (suc i) ts
left_next p d zero (cons t ts) h a b = ap (λ x. cons x nil) b
left_next p d (suc i) (cons t ts) h a b =
    let here : folded p d t ≡ t = cc in
    let more : folded p d (firsts i ts) ≡ firsts i ts = cc in
    ap₂ cons here (left_next p d i ts (omega arith) more b)
left_next p d i (leaf l) h a b = absurd (omega arith)
left_next p d i (node g ts) h a b = absurd (omega arith)
left_next p d i (bind ks t) h a b = absurd (omega arith)
left_next p d i nil h a b = absurd (omega arith)

pub left_more : (p : ℕ → Tree → Option Tree) (d : ℕ) (i j : ℕ) (ts t u : Tree) →
    folded p d (firsts i ts) ≡ firsts i ts → u ≡ t → u ≡ folded p d (nth i ts) → t ≡ nth i ts → j ≡ suc i →
    i < count ts → folded p d (firsts j ts) ≡ firsts j ts
left_more p d i j ts t u f g q r e h =
    subst (λ n. folded p d (firsts n ts) ≡ firsts n ts) (sym e) (left_next p d i ts h f (sym q ∙ g ∙ r))

-- All members are left as they are.
pub left_all : (p : ℕ → Tree → Option Tree) (d : ℕ) (i : ℕ) (ts : Tree) → IsList ts → i ≡ count ts →
    folded p d (firsts i ts) ≡ firsts i ts → ts ≡ folded p d ts
left_all p d i ts l e q =
    let whole : firsts i ts ≡ ts = ap (λ n. firsts n ts) e ∙ firsts_all ts l in
    sym whole ∙ sym q ∙ ap (folded p d) whole

-- One memory has one stack.
pub stack_as : {Key Id : Type 0} {v w : Memory Key Id} → v ≡ w → v.stack.items ≡ w.stack.items
stack_as e = ap (λ v. v.stack.items) e

-- First members stand upon a stack as they are: none, and one more.
pub upon_none : {Key Id : Type 0} (f : Part Key Id → Tree) (ts : Tree) (old : List (Part Key Id)) →
    StandsUpon f (firsts 0 ts) (firsts 0 ts) old old
upon_none f ts old = record { parts = []; is = sym (append-nil old); same = refl; sure = refl; fit = tt }

pub upon_more : {Key Id : Type 0} (f : Part Key Id → Tree) (y : Part Key Id) (i j : ℕ) (ts : Tree)
    (old was now : List (Part Key Id)) → StandsUpon f (firsts i ts) (firsts i ts) old was → i < count ts → j ≡ suc i →
    f y ≡ nth i ts → IsTrue (known (f y)) → part_sort y ≡ tree_sort (nth i ts) → now ≡ was ++ y ∷ [] →
    StandsUpon f (firsts j ts) (firsts j ts) old now
upon_more f y i j ts old was now a h e q k s r =
    let b : AreFirsts f j ts (a.parts ++ y ∷ []) = firsts_next f y i j ts a.parts (a.parts ++ y ∷ [])
    (record { same = a.same; sure = a.sure; fit = a.fit }) h e q k s refl in
    record {
      parts = a.parts ++ y ∷ [];
      is = r ∙ ap (λ zs. zs ++ y ∷ []) a.is ∙ append_assoc old a.parts (y ∷ []);
      same = b.same;
      sure = b.sure;
      fit = b.fit;
    }

-- First members that are left as they are stand for what is made of them.
pub upon_firsts : {Key Id : Type 0} (p : ℕ → Tree → Option Tree) (d : ℕ) (f : Part Key Id → Tree) (i : ℕ) (ts u : Tree)
    (old was now : List (Part Key Id)) → StandsUpon f (firsts i u) (firsts i u) was now → u ≡ ts → was ≡ old →
    folded p d (firsts i ts) ≡ firsts i ts → StandsUpon f (firsts i ts) (folded p d (firsts i ts)) old now
upon_firsts p d f i ts u old was now a e o q =
    let b : StandsUpon f (firsts i ts) (firsts i ts) was now =
    subst (λ w. StandsUpon f (firsts i w) (firsts i w) was now) e a in
    record {
      parts = b.parts;
      is = b.is ∙ ap (λ zs. zs ++ b.parts) o;
      same = b.same ∙ sym q;
      sure = b.sure;
      fit = b.fit;
    }

-- One more that is made, in an interner that has grown.
pub upon_next : {Key Id : Type 0} (p : ℕ → Tree → Option Tree) (d : ℕ) (f g : Part Key Id → Tree) →
    ((x : Part Key Id) → IsTrue (known (f x)) → g x ≡ f x) → (y : Part Key Id) (i j : ℕ) (ts : Tree)
    (old was mid now : List (Part Key Id)) → StandsUpon f (firsts i ts) (folded p d (firsts i ts)) old was →
    mid ≡ was → now ≡ mid ++ y ∷ [] → i < count ts → j ≡ suc i → g y ≡ folded p d (nth i ts) →
    IsTrue (known (g y)) → part_sort y ≡ tree_sort (nth i ts) →
    StandsUpon g (firsts j ts) (folded p d (firsts j ts)) old now
upon_next p d f g stay y i j ts old was mid now a o r h e q k s =
    let b : Built p d g j ts (a.parts ++ y ∷ []) = built_next p d f g stay y i j ts a.parts (a.parts ++ y ∷ [])
    (record { same = a.same; sure = a.sure; fit = a.fit }) h e q k s refl in
    record {
      parts = a.parts ++ y ∷ [];
      is = r ∙ ap (λ zs. zs ++ y ∷ []) (o ∙ a.is) ∙ append_assoc old a.parts (y ∷ []);
      same = b.same;
      sure = b.sure;
      fit = b.fit;
    }

-- All are made.
pub upon_all : {Key Id : Type 0} (p : ℕ → Tree → Option Tree) (d : ℕ) (f : Part Key Id → Tree) (i : ℕ) (ts : Tree)
    (old now : List (Part Key Id)) → IsList ts → i ≡ count ts →
    StandsUpon f (firsts i ts) (folded p d (firsts i ts)) old now → StandsUpon f ts (folded p d ts) old now
upon_all p d f i ts old now l e a =
    subst (λ w. StandsUpon f w (folded p d w) old now) (ap (λ n. firsts n ts) e ∙ firsts_all ts l) a

-- What stands upon a stack of so many is behind them, and they are what is left without it.
module _ {Key Id : Type 0} (f : Part Key Id → Tree) (ts us : Tree) (old now : List (Part Key Id)) (start : ℕ)
    (a : StandsUpon f ts us old now) (long : start ≡ length old) where
  pub upon_top : (tops : List (Part Key Id)) → tops ≡ drop start now → tops ≡ a.parts
  upon_top tops e = e ∙ ap (drop start) a.is ∙ drop_at old a.parts start (sym long)

  pub upon_left : take start now ≡ old
  upon_left = ap (take start) a.is ∙ take_at old a.parts start (sym long)

  pub upon_below : start ≤ length now
  upon_below = let e = ap length a.is in omega (arith, e, length-append old a.parts, long)

-- A form over its folded parts.
over_folded : (p : ℕ → Tree → Option Tree) (d : ℕ) (t : Tree) →
    over t (folded p (inside t d) (parts_of t)) ≡ folded_parts p d t
over_folded p d (node h ts) = refl
over_folded p d (leaf l) = refl
over_folded p d (bind ks t) = refl
over_folded p d nil = refl
over_folded p d (cons t ts) = refl

pub whole_made : (p : ℕ → Tree → Option Tree) (d e : ℕ) (t u us : Tree) → e ≡ inside t d → u ≡ t →
    us ≡ folded p e (parts_of t) → over u us ≡ folded_parts p d t
whole_made p d e t u us i o q =
    ap (λ z. over z us) o ∙ ap (over t) (q ∙ ap (λ x. folded p x (parts_of t)) i) ∙ over_folded p d t

-- A form whose parts are left as they are is left too.
left_whole : (p : ℕ → Tree → Option Tree) (d : ℕ) (t ts : Tree) → ts ≡ parts_of t →
    ts ≡ folded p (inside t d) (parts_of t) → t ≡ folded_parts p d t
left_whole p d (node h us) ts e q = ap (node h) (sym e ∙ q)
left_whole p d (bind ks t) ts e q = ap (over (bind ks t)) (sym e ∙ q)
left_whole p d (leaf l) ts e q = refl
left_whole p d nil ts e q = refl
left_whole p d (cons t us) ts e q = refl

pub whole_left : (p : ℕ → Tree → Option Tree) (d i : ℕ) (t ts : Tree) → i ≡ inside t d → ts ≡ parts_of t →
    ts ≡ folded p i (parts_of t) → t ≡ folded_parts p d t
whole_left p d i t ts h e q = left_whole p d t ts e (q ∙ ap (λ x. folded p x (parts_of t)) h)
