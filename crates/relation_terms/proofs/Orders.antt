-- A list in an order has the members of the list, at other places.
use Rattle.std.proofs.Common.{◌≡◌, ℕ, zero, suc, ◌<◌, Bool, true, false, cond, nat_lt, refl, sym, ap, ◌∙◌, arith}
use Rattle.std.proofs.lemmas.Bool.{ltb-true, ltb-false}
use Rattle.relation_terms.specs.Trees.{Tree, leaf, node, bind, nil, cons, count, nth, IsList}
use Rattle.relation_terms.specs.Orders.{Order, in_turn, first_last, place_at, behind, in_order}
use Rattle.relation_terms.specs.Orders.{list_order, order_of}
use Rattle.relation_terms.specs.Meaning.{Meaning, kind_tree, const_tree, valtree_tree, pattern_tree, existential_tree}
use Rattle.relation_terms.specs.Parts.{ty_view, const_view, valtree_view, pattern_view, existential_view}
use Rattle.relation_terms.specs.declared.terms.part_kind.Parts.{Parts}
use Rattle.relation_terms.specs.declared.terms.ty_kind.TyKind.{TyKind}
use Rattle.relation_terms.specs.declared.terms.ty_kind.TyKind.TheVariants.{Bool as TyBool, Char, Int, Uint, Float, Adt}
use Rattle.relation_terms.specs.declared.terms.ty_kind.TyKind.TheVariants.{Foreign}
use Rattle.relation_terms.specs.declared.terms.ty_kind.TyKind.TheVariants.{Str, Array, Slice, RawPtr, Ref, FnDef}
use Rattle.relation_terms.specs.declared.terms.ty_kind.TyKind.TheVariants.{Closure, CoroutineClosure, Coroutine}
use Rattle.relation_terms.specs.declared.terms.ty_kind.TyKind.TheVariants.{CoroutineWitness, Never, Tuple, Infer}
use Rattle.relation_terms.specs.declared.terms.ty_kind.TyKind.TheVariants.{Param as TyParam, Bound as TyBound}
use Rattle.relation_terms.specs.declared.terms.ty_kind.TyKind.TheVariants.{Error as TyError, Alias, Pat as TyPat}
use Rattle.relation_terms.specs.declared.terms.ty_kind.TyKind.TheVariants.{Placeholder as TyPlaceholder}
use Rattle.relation_terms.specs.declared.terms.ty_kind.InferTy.TheVariants.{TyVar, IntVar, FloatVar}
use Rattle.relation_terms.specs.declared.terms.ty_kind.InferTy.TheVariants.{FreshTy, FreshIntTy, FreshFloatTy}
use Rattle.relation_terms.specs.declared.terms.const_kind.ConstKind.{ConstKind}
use Rattle.relation_terms.specs.declared.terms.const_kind.ConstKind.TheVariants.{Param as ConstParam}
use Rattle.relation_terms.specs.declared.terms.const_kind.ConstKind.TheVariants.{Placeholder as ConstPlaceholder}
use Rattle.relation_terms.specs.declared.terms.const_kind.ConstKind.TheVariants.{Infer as ConstInfer, Bound as ConstBound}
use Rattle.relation_terms.specs.declared.terms.const_kind.ConstKind.TheVariants.{Unevaluated, Value, Error as ConstError, Expr}
use Rattle.relation_terms.specs.declared.terms.const_kind.InferConst.TheVariants.{Var, Fresh}
use Rattle.relation_terms.specs.declared.terms.pattern_kind.PatternKind.{PatternKind}
use Rattle.relation_terms.specs.declared.terms.pattern_kind.PatternKind.TheVariants.{Range, Or, NotNull}
use Rattle.relation_terms.specs.declared.terms.const_kind.ValTreeKind.{ValTreeKind}
use Rattle.relation_terms.specs.declared.terms.const_kind.ValTreeKind.TheVariants.{Leaf, Branch}
use Rattle.relation_terms.specs.declared.predicate.existential.ExistentialPredicate.{ExistentialPredicate}
use Rattle.relation_terms.specs.declared.predicate.existential.ExistentialPredicate.TheVariants.{Trait, AutoTrait}
use Rattle.relation_terms.specs.declared.terms.ty_kind.TyKind.TheVariants.{FnPtr, UnsafeBinder, Dynamic}
use Rattle.relation_terms.specs.declared.predicate.existential.ExistentialPredicate.TheVariants.{
  Projection as ProjectionPredicate,
}

behind_count : (t us : Tree) → count (behind t us) ≡ suc (count us)
behind_count t (cons u us) = ap suc (behind_count t us)
behind_count t (leaf l) = refl
behind_count t (node h ts) = refl
behind_count t (bind ks u) = refl
behind_count t nil = refl

behind_before : (t us : Tree) (k : ℕ) → k < count us → nth k (behind t us) ≡ nth k us
behind_before t (cons u us) zero h = refl
behind_before t (cons u us) (suc k) h = behind_before t us k (omega (arith, h))
behind_before t (leaf l) k h = absurd (omega (arith, h))
behind_before t (node g ts) k h = absurd (omega (arith, h))
behind_before t (bind ks u) k h = absurd (omega (arith, h))
behind_before t nil k h = absurd (omega (arith, h))

behind_end : (t us : Tree) (k : ℕ) → k ≡ count us → nth k (behind t us) ≡ t
behind_end t (cons u us) zero e = absurd (omega (arith, e))
behind_end t (cons u us) (suc k) e = behind_end t us k (omega (arith, e))
behind_end t (leaf l) zero e = refl
behind_end t (leaf l) (suc k) e = absurd (omega (arith, e))
behind_end t (node g ts) zero e = refl
behind_end t (node g ts) (suc k) e = absurd (omega (arith, e))
behind_end t (bind ks u) zero e = refl
behind_end t (bind ks u) (suc k) e = absurd (omega (arith, e))
behind_end t nil zero e = refl
behind_end t nil (suc k) e = absurd (omega (arith, e))

-- As many members.
pub order_count : (o : Order) (ts : Tree) → count (in_order o ts) ≡ count ts
order_count first_last (cons t ts) = behind_count t ts
order_count first_last (leaf l) = refl
order_count first_last (node h ts) = refl
order_count first_last (bind ks u) = refl
order_count first_last nil = refl
order_count in_turn ts = refl

-- Each member by its place.
pub order_nth : (o : Order) (ts : Tree) (k : ℕ) → k < count ts →
    nth k (in_order o ts) ≡ nth (place_at o (count ts) k) ts
order_nth in_turn ts k h = refl
order_nth first_last (cons t ts) k h = decided (nat_lt (suc k) (suc (count ts))) refl
  where
    placed : Bool → Tree
    placed b = nth (cond b (suc k) 0) (cons t ts)

    decided : (b : Bool) → nat_lt (suc k) (suc (count ts)) ≡ b →
        nth k (behind t ts) ≡ placed (nat_lt (suc k) (suc (count ts)))
    decided true i =
        let l = ltb-true (suc k) (suc (count ts)) i in
        behind_before t ts k (omega (arith, l)) ∙ ap placed (sym i)
    decided false i =
        let l = ltb-false (suc k) (suc (count ts)) i in
        behind_end t ts k (omega (arith, l, h)) ∙ ap placed (sym i)
order_nth first_last (leaf l) k h = absurd (omega (arith, h))
order_nth first_last (node g ts) k h = absurd (omega (arith, h))
order_nth first_last (bind ks u) k h = absurd (omega (arith, h))
order_nth first_last nil k h = absurd (omega (arith, h))

pub below_in_order : (o : Order) (ts : Tree) (k : ℕ) → k < count ts → k < count (in_order o ts)
below_in_order o ts k h = let e = order_count o ts in omega (arith, h, e)

pub member_in_order : (o : Order) (ts : Tree) (n k i : ℕ) (t : Tree) → n ≡ count ts → k < count ts →
    i ≡ place_at o n k → t ≡ nth i ts → t ≡ nth k (in_order o ts)
member_in_order o ts n k i t e h p is =
    is ∙ ap (λ x. nth x ts) (p ∙ ap (λ x. place_at o x k) e) ∙ sym (order_nth o ts k h)

behind_list : (t us : Tree) → IsList us → IsList (behind t us)
behind_list t (cons u us) l = behind_list t us l
behind_list t nil l = tt
behind_list t (leaf x) l = absurd l
behind_list t (node h ts) l = absurd l
behind_list t (bind ks u) l = absurd l

pub order_list : (o : Order) (ts : Tree) → IsList ts → IsList (in_order o ts)
order_list first_last (cons t ts) l = behind_list t ts l
order_list first_last nil l = tt
order_list first_last (leaf x) l = absurd l
order_list first_last (node h ts) l = absurd l
order_list first_last (bind ks u) l = absurd l
order_list in_turn ts l = l

-- The list of a form's parts is in the form's order.
module _ {Key Id Name : Type 0} (m : Meaning Key Id Name) where
  pub ty_ordered : (k : TyKind Key Id Name) → list_order (ty_view k) ≡ order_of (kind_tree m k)
  ty_ordered TyBool = refl
  ty_ordered Char = refl
  ty_ordered (Int w) = refl
  ty_ordered (Uint w) = refl
  ty_ordered (Float w) = refl
  ty_ordered (Adt d a) = refl
  ty_ordered (Foreign d) = refl
  ty_ordered Str = refl
  ty_ordered (Array t c) = refl
  ty_ordered (TyPat t p) = refl
  ty_ordered (Slice t) = refl
  ty_ordered (RawPtr t u) = refl
  ty_ordered (Ref r t u) = refl
  ty_ordered (FnDef d a) = refl
  ty_ordered (FnPtr b h) = refl
  ty_ordered (UnsafeBinder b) = refl
  ty_ordered (Dynamic ps r) = refl
  ty_ordered (Closure d a) = refl
  ty_ordered (CoroutineClosure d a) = refl
  ty_ordered (Coroutine d a) = refl
  ty_ordered (CoroutineWitness d a) = refl
  ty_ordered Never = refl
  ty_ordered (Tuple ts) = refl
  ty_ordered (Alias a) = refl
  ty_ordered (TyParam p) = refl
  ty_ordered (TyBound d b) = refl
  ty_ordered (TyPlaceholder p) = refl
  ty_ordered (Infer (TyVar v)) = refl
  ty_ordered (Infer (IntVar v)) = refl
  ty_ordered (Infer (FloatVar v)) = refl
  ty_ordered (Infer (FreshTy n)) = refl
  ty_ordered (Infer (FreshIntTy n)) = refl
  ty_ordered (Infer (FreshFloatTy n)) = refl
  ty_ordered (TyError e) = refl

  pub const_ordered : (k : ConstKind Key Id Name) → list_order (const_view k) ≡ order_of (const_tree m k)
  const_ordered (ConstParam p) = refl
  const_ordered (ConstInfer (Var v)) = refl
  const_ordered (ConstInfer (Fresh n)) = refl
  const_ordered (ConstBound d b) = refl
  const_ordered (ConstPlaceholder p) = refl
  const_ordered (Unevaluated u) = refl
  const_ordered (ConstError e) = refl
  const_ordered (Value t v) = refl
  const_ordered (Expr x a) = refl

  pub valtree_ordered : (k : ValTreeKind Key) → list_order {Id = Id} (valtree_view k) ≡ order_of (valtree_tree m k)
  valtree_ordered (Leaf b n) = refl
  valtree_ordered (Branch b) = refl

  pub pattern_ordered : (k : PatternKind Key) → list_order {Id = Id} (pattern_view k) ≡ order_of (pattern_tree m k)
  pattern_ordered (Range s e) = refl
  pattern_ordered (Or a) = refl
  pattern_ordered NotNull = refl

  pub existential_ordered : (p : ExistentialPredicate Key Id) → list_order (existential_view p) ≡
      order_of (existential_tree m p)
  existential_ordered (Trait t) = refl
  existential_ordered (ProjectionPredicate p) = refl
  existential_ordered (AutoTrait d) = refl

module _ {Key Id Name : Type 0} (m : Meaning Key Id Name) (v : Parts Key Id) (t : Tree) where
  pub ty_order : (k : TyKind Key Id Name) → t ≡ kind_tree m k → v ≡ ty_view k → list_order v ≡ order_of t
  ty_order k e q = ap list_order q ∙ ty_ordered m k ∙ ap order_of (sym e)

  pub const_order : (k : ConstKind Key Id Name) → t ≡ const_tree m k → v ≡ const_view k → list_order v ≡ order_of t
  const_order k e q = ap list_order q ∙ const_ordered m k ∙ ap order_of (sym e)

  pub valtree_order : (k : ValTreeKind Key) → t ≡ valtree_tree m k → v ≡ valtree_view k → list_order v ≡ order_of t
  valtree_order k e q = ap list_order q ∙ valtree_ordered m k ∙ ap order_of (sym e)

  pub pattern_order : (k : PatternKind Key) → t ≡ pattern_tree m k → v ≡ pattern_view k → list_order v ≡ order_of t
  pattern_order k e q = ap list_order q ∙ pattern_ordered m k ∙ ap order_of (sym e)
