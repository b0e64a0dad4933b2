-- Resolving a term by its parts.
use Rattle.std.proofs.Common.{◌≡◌, ℕ, zero, suc, ◌<◌, refl, sym, ap, ap₂, ◌∙◌, arith, subst, subst₂, IsTrue}
use Rattle.std.proofs.Common.{None, List, [], ◌∷◌, ◌++◌}
use Rattle.relation_terms.specs.Heads.{VarKind, type_var, int_var, float_var, const_var, region_var, const_sort}
use Rattle.relation_terms.specs.Heads.{type_sort, no_sort, atom, variable, bound, placeholder, unknown}
use Rattle.relation_terms.specs.Trees.{Tree, leaf, node, bind, nil, cons, Assign, apply, size, count, nth}
use Rattle.relation_terms.specs.Trees.{known, list_tree, IsList}
use Rattle.relation_terms.specs.Meaning.{Meaning, Extends}
use Rattle.relation_terms.specs.Parts.{part_tree, part_sort, tree_sort, parts_of, over, Fit}
use Rattle.relation_terms.specs.declared.terms.keys.TyKey.{TyKey}
use Rattle.relation_terms.specs.declared.terms.keys.ConstKey.{ConstKey}
use Rattle.relation_terms.specs.declared.terms.part_kind.Part.{Part}
use Rattle.relation_terms.specs.declared.terms.part_kind.Part.TheVariants.{Region, Ty, Const, ValTree, Pat, ValueType}
use Rattle.relation_terms.specs.declared.terms.part_kind.Part.TheVariants.{Binder, Signature, Inputs, Existential, Object}
use Rattle.relation_terms.proofs.Stays.{stays_list, knows_as}
use Rattle.relation_semantics.specs.Stores.{Store, entry_term, bound_term, IsSound}
use Rattle.relation_semantics.specs.Stores.{InContext, resolved, weight}
use Rattle.relation_semantics.proofs.Resolved.{resolved_free}
use Rattle.relation_semantics.proofs.Parts.{nth_size}
use Rattle.relation_semantics.proofs.Values.{nth_in}
use Rattle.relation_semantics.proofs.Lists.{firsts, firsts_all, snoc, list_push, firsts_more, apply_snoc}
use Rattle.variable_tables.specs.declared.inner.InferCtxtInner.{InferCtxtInner}
use Rattle.variable_tables.specs.Tables.{store_of, IsLawful}
use Rattle.relation_semantics.specs.Resolving.{IsShallow, root, stays_bound, formed, IsShallowConst, const_root, no_variable}
use Rattle.variable_tables.proofs.Grows.{store_grows, lawful_grows}
use Rattle.occurs_check.proofs.TermVids.{not_type, not_const}
use Rattle.relation_folds.specs.Firsts.{AreFirsts}
use Rattle.relation_folds.proofs.Members.{fit_next}
use Rattle.relation_terms.proofs.Members.{known_with_last}
use Rattle.relation_folds.proofs.Visiting.{has_sort}

-- A term comes to its form over what its parts come to, where it is no variable that has a term.
pub comes_by_parts : (st : Store) (t : Tree) → (tree_sort t ≡ no_sort → ⊥) →
    ((k : VarKind) (n : ℕ) → t ≡ leaf (variable k n) → bound_term st k n ≡ None) →
    apply (resolved st) t ≡ over t (apply (resolved st) (parts_of t))
comes_by_parts st (leaf (variable k n)) s f = resolved_free st k n (f k n refl)
comes_by_parts st (leaf (bound k d i)) s f = refl
comes_by_parts st (leaf (placeholder k u n)) s f = refl
comes_by_parts st (leaf (atom x)) s f = refl
comes_by_parts st (leaf unknown) s f = refl
comes_by_parts st (node h ts) s f = refl
comes_by_parts st (bind ks t) s f = refl
comes_by_parts st nil s f = absurd (s refl)
comes_by_parts st (cons t ts) s f = absurd (s refl)

pub shallow_by_parts : (st : Store) (t : Tree) → IsShallow st t → apply (resolved st) t ≡
    over t (apply (resolved st) (parts_of t))
shallow_by_parts st t (root k n q f) =
    subst (λ z. apply (resolved st) z ≡ over z (apply (resolved st) (parts_of z))) (sym q)
    (resolved_free st k n f)
shallow_by_parts st t (stays_bound k d i q) =
    subst (λ z. apply (resolved st) z ≡ over z (apply (resolved st) (parts_of z))) (sym q) refl
shallow_by_parts st (leaf (variable k n)) (formed f) = absurd f
shallow_by_parts st (leaf (bound k d i)) (formed f) = refl
shallow_by_parts st (leaf (placeholder k u n)) (formed f) = refl
shallow_by_parts st (leaf (atom x)) (formed f) = refl
shallow_by_parts st (leaf unknown) (formed f) = refl
shallow_by_parts st (node h ts) (formed f) = refl
shallow_by_parts st (bind ks t) (formed f) = absurd f
shallow_by_parts st nil (formed f) = absurd f
shallow_by_parts st (cons t ts) (formed f) = absurd f

pub const_by_parts : (st : Store) (t : Tree) → (tree_sort t ≡ no_sort → ⊥) → IsShallowConst st t → apply (resolved st) t ≡
    over t (apply (resolved st) (parts_of t))
const_by_parts st t s (const_root n q f) = shallow_by_parts st t (root const_var n q f)
const_by_parts st t s (no_variable o) = comes_by_parts st t s (λ k n q. absurd (o k n q))

-- A part that is neither a type nor a constant is no variable but a region's.
module _ {Key Id Name : Type 0} (m : Meaning Key Id Name) (p : Part Key Id) (no_type : (t : TyKey Key) → p ≡ Ty t → ⊥) (no_const : (c : ConstKey Key) → p ≡ Const c → ⊥)
    (e : tree_sort (part_tree m p) ≡ part_sort p) where
  variable_free : (st : Store) → IsSound st → (k : VarKind) (n : ℕ) → part_tree m p ≡ leaf (variable k n) → bound_term st k n ≡ None
  variable_free st g type_var n q = absurd (not_type p no_type (sym e ∙ ap tree_sort q))
  variable_free st g int_var n q = absurd (not_type p no_type (sym e ∙ ap tree_sort q))
  variable_free st g float_var n q = absurd (not_type p no_type (sym e ∙ ap tree_sort q))
  variable_free st g const_var n q = absurd (not_const p no_const (sym e ∙ ap tree_sort q))
  variable_free st g region_var n q = ap (entry_term region_var) (g.regions_unbound n)

  pub other_by_parts : (st : Store) → IsSound st → apply (resolved st) (part_tree m p) ≡
      over (part_tree m p) (apply (resolved st) (parts_of (part_tree m p)))
  other_by_parts st g = comes_by_parts st (part_tree m p) (λ s. has_sort p (sym e ∙ s)) (variable_free st g)

-- A part of a term is of the context, and comes to less.
context_list : (st : Store) (t : Tree) → InContext st t → InContext st (parts_of t)
unfolding InContext
context_list st (node h ts) p = p
context_list st (leaf l) p = tt
context_list st (bind ks t) p = (p, tt)
context_list st nil p = tt
context_list st (cons t ts) p = tt

pub context_part : (st : Store) (t : Tree) (i : ℕ) → IsList (parts_of t) → InContext st t → InContext st (nth i (parts_of t))
context_part st t i l p = nth_in st i (parts_of t) l (context_list st t p)

size_falls : (s : Assign) (t : Tree) (i : ℕ) → i < count (parts_of t) →
    size (apply s (nth i (parts_of t))) < size (apply s t)
size_falls s (node h ts) i l = let e = nth_size s ts i l in omega (arith, e)
size_falls s (leaf x) i l = absurd (omega arith)
size_falls s (bind ks t) zero l = omega arith
size_falls s (bind ks t) (suc i) l = absurd (omega (arith, l))
size_falls s nil i l = absurd (omega arith)
size_falls s (cons t ts) i l = absurd (omega arith)

weight_falls : (st : Store) (t : Tree) (i : ℕ) → i < count (parts_of t) → weight st (nth i (parts_of t)) < weight st t
unfolding weight
weight_falls st t i h = size_falls (resolved st) t i h

pub weight_as : (st : Store) (t u : Tree) → apply (resolved st) t ≡ apply (resolved st) u → weight st t ≡ weight st u
unfolding weight
weight_as st t u e = ap size e

-- What a term was resolved to while the interner grew: `n` is what keys mean after some parts were resolved.
module _ {Key Id Name : Type 0} {m n : Meaning Key Id Name} (first : Extends m n) (x y : InferCtxtInner Key)
    (l : IsLawful m x) (same : y ≡ x) where
  pub store_now : store_of n y ≡ store_of m x
  store_now = ap (store_of n) same ∙ store_grows first x l

  pub lawful_now : IsLawful n y
  lawful_now = subst (IsLawful n) (sym same) (lawful_grows first x l)

  -- `t` is a term as it was, `a` as it is now, and `z` its part at a place.
  module _ (t a z : Tree) (i : ℕ) (now : a ≡ t) (h : i < count (parts_of t)) (at : z ≡ nth i (parts_of a)) where
    pub part_was : z ≡ nth i (parts_of t)
    part_was = at ∙ ap (λ w. nth i (parts_of w)) now

    pub part_in : IsList (parts_of t) → InContext (store_of m x) t → InContext (store_of n y) z
    part_in l p = subst₂ InContext (sym store_now) (sym part_was) (context_part (store_of m x) t i l p)

    pub part_falls : (u : Tree) → apply (resolved (store_of m x)) t ≡ apply (resolved (store_of m x)) u →
        weight (store_of n y) z < weight (store_of m x) u
    part_falls u e =
        let f = weight_falls (store_of m x) t i h in
        let w = weight_as (store_of m x) t u e in
        subst₂ (λ st v. weight st v < weight (store_of m x) u) (sym store_now) (sym part_was) (omega (arith, f, w))

    pub part_comes : (b : Tree) → b ≡ apply (resolved (store_of n y)) z →
        b ≡ apply (resolved (store_of m x)) (nth i (parts_of t))
    part_comes b q = q ∙ ap₂ (λ st v. apply (resolved st) v) store_now part_was

-- The first parts of a list have been resolved: what the keys mean, and of which sorts they are.
pub record Done {Key Id : Type 0} (s : Assign) (f : Part Key Id → Tree) (i : ℕ) (ts : Tree) (xs : List (Part Key Id)) : Type 0
  where
    pub same : list_tree f xs ≡ apply s (firsts i ts)
    pub sure : IsTrue (known (list_tree f xs))
    pub fit : Fit xs (firsts i ts)

-- First parts that come to what they are have been resolved.
pub done_firsts : {Key Id : Type 0} (s : Assign) (f : Part Key Id → Tree) (i : ℕ) (ts us : Tree)
    (xs : List (Part Key Id)) → AreFirsts f i us xs → us ≡ ts → apply s (firsts i ts) ≡ firsts i ts → Done s f i ts xs
done_firsts s f i ts us xs a e q =
    let b : AreFirsts f i ts xs = subst (λ w. AreFirsts f i w xs) e a in
    record { same = b.same ∙ sym q; sure = b.sure; fit = b.fit }

-- One more, in an interner that has grown.
module _ {Key Id : Type 0} (s : Assign) (f g : Part Key Id → Tree) (stay : (x : Part Key Id) → IsTrue (known (f x)) → g x ≡ f x)
    (y : Part Key Id) where
  same_next : (i : ℕ) (ts : Tree) (xs : List (Part Key Id)) → i < count ts → IsTrue (known (list_tree f xs)) →
      list_tree f xs ≡ apply s (firsts i ts) → g y ≡ apply s (nth i ts) →
      list_tree g (xs ++ y ∷ []) ≡ apply s (firsts (suc i) ts)
  same_next i ts xs h k e q = list_push g xs y ∙ ap₂ snoc (stays_list f g xs stay k ∙ e) q
      ∙ sym (apply_snoc s i ts (nth i ts)) ∙ ap (apply s) (sym (firsts_more i ts h))

  pub done_next : (i j : ℕ) (ts : Tree) (xs ys : List (Part Key Id)) → Done s f i ts xs → i < count ts → j ≡ suc i →
      g y ≡ apply s (nth i ts) → IsTrue (known (g y)) → part_sort y ≡ tree_sort (nth i ts) → ys ≡ xs ++ y ∷ [] →
      Done s g j ts ys
  done_next i j ts xs ys d h e q k o r =
      subst₂ (λ zs n. Done s g n ts zs) (sym r) (sym e) (record {
        same = same_next i ts xs h d.sure d.same q;
        sure = known_with_last g xs y (knows_as (list_tree f xs) (list_tree g xs) (stays_list f g xs stay d.sure) d.sure) k;
        fit = fit_next y i ts xs h d.fit o;
      })

-- All were.
pub done_all : {Key Id : Type 0} (s : Assign) (f : Part Key Id → Tree) (i : ℕ) (ts : Tree) (xs : List (Part Key Id)) →
    IsList ts → i ≡ count ts → Done s f i ts xs → (list_tree f xs ≡ apply s ts) × Fit xs ts
done_all s f i ts xs l e d =
    let whole : firsts i ts ≡ ts = ap (λ n. firsts n ts) e ∙ firsts_all ts l in
    (d.same ∙ ap (apply s) whole, subst (Fit xs) whole d.fit)

-- Where the first of a list come to what they are, and one more does, so do they all.
pub unchanged_next : (s : Assign) (i j : ℕ) (ts : Tree) → i < count ts → j ≡ suc i →
    apply s (firsts i ts) ≡ firsts i ts → apply s (nth i ts) ≡ nth i ts → apply s (firsts j ts) ≡ firsts j ts
unchanged_next s i j ts h q e f =
    let more = firsts_more i ts h in
    subst (λ k. apply s (firsts k ts) ≡ firsts k ts) (sym q)
    (ap (apply s) more ∙ apply_snoc s i ts (nth i ts) ∙ ap₂ snoc e f ∙ sym more)

pub unchanged_all : (s : Assign) (i : ℕ) (ts : Tree) → IsList ts → i ≡ count ts →
    apply s (firsts i ts) ≡ firsts i ts → apply s ts ≡ ts
unchanged_all s i ts l e h =
    subst (λ z. apply s z ≡ z) (ap (λ n. firsts n ts) e ∙ firsts_all ts l) h

pub over_itself : (t : Tree) → over t (parts_of t) ≡ t
over_itself (leaf l) = refl
over_itself (node h ts) = refl
over_itself (bind ks t) = refl
over_itself nil = refl
over_itself (cons t ts) = refl

pub whole_stays : (s : Assign) (t a u : Tree) → a ≡ t → apply s (parts_of t) ≡ parts_of t →
    apply s t ≡ over t (apply s (parts_of t)) → apply s t ≡ apply s u → a ≡ apply s u
whole_stays s t a u e q b c = e ∙ sym (b ∙ ap (over t) q ∙ over_itself t) ∙ c

-- The form over resolved parts is what the term comes to.
pub whole_comes : (s : Assign) (t a us u : Tree) → a ≡ t → us ≡ apply s (parts_of t) →
    apply s t ≡ over t (apply s (parts_of t)) → apply s t ≡ apply s u → over a us ≡ apply s u
whole_comes s t a us u e q b c = ap (λ z. over z us) e ∙ ap (over t) q ∙ sym b ∙ c
