-- What an interner says of its keys, of those of a relation or a context over it: their sorts, and which are one.
use Rattle.std.proofs.Common.{◌≡◌, sym, subst}
use Rattle.std.proofs.Common.{IsTrue}
use Rattle.relation_terms.specs.declared.terms.keys.TyKey.{TyKey}
use Rattle.relation_terms.specs.declared.terms.keys.ConstKey.{ConstKey}
use Rattle.relation_terms.specs.declared.terms.keys.PatKey.{PatKey}
use Rattle.relation_terms.specs.declared.terms.keys.RegionKey.{RegionKey}
use Rattle.relation_terms.specs.Heads.{type_sort, const_sort, region_sort, pattern_sort}
use Rattle.relation_terms.specs.Trees.{IsTerm, known}
use Rattle.relation_terms.specs.Meaning.{Meaning}

-- What an interner says of its keys, of those of a context over it.
module _ {Key Id Name : Type 0} {m n : Meaning Key Id Name} (e : m ≡ n) where
  pub ty_sorted : (t : TyKey Key) → (IsTrue (known (n.ty t)) → IsTerm type_sort (n.ty t)) → IsTrue (known (m.ty t)) →
      IsTerm type_sort (m.ty t)
  ty_sorted t f h = subst (λ z. IsTerm type_sort (z.ty t)) (sym e) (f (subst (λ z. IsTrue (known (z.ty t))) e h))

  pub const_sorted : (t : ConstKey Key) → (IsTrue (known (n.const_ t)) → IsTerm const_sort (n.const_ t)) →
      IsTrue (known (m.const_ t)) → IsTerm const_sort (m.const_ t)
  const_sorted t f h =
      subst (λ z. IsTerm const_sort (z.const_ t)) (sym e) (f (subst (λ z. IsTrue (known (z.const_ t))) e h))

  pub region_sorted : (t : RegionKey Key) → (IsTrue (known (n.region t)) → IsTerm region_sort (n.region t)) →
      IsTrue (known (m.region t)) → IsTerm region_sort (m.region t)
  region_sorted t f h =
      subst (λ z. IsTerm region_sort (z.region t)) (sym e) (f (subst (λ z. IsTrue (known (z.region t))) e h))

  pub pat_sorted : (t : PatKey Key) → (IsTrue (known (n.pat t)) → IsTerm pattern_sort (n.pat t)) →
      IsTrue (known (m.pat t)) → IsTerm pattern_sort (m.pat t)
  pat_sorted t f h =
      subst (λ z. IsTerm pattern_sort (z.pat t)) (sym e) (f (subst (λ z. IsTrue (known (z.pat t))) e h))

  pub one_ty : (a b : TyKey Key) → (IsTrue (known (n.ty a)) → IsTrue (known (n.ty b)) → n.ty a ≡ n.ty b) →
      IsTrue (known (m.ty a)) → IsTrue (known (m.ty b)) → m.ty a ≡ m.ty b
  one_ty a b f h k = subst (λ z. z.ty a ≡ z.ty b) (sym e) (f (subst (λ z. IsTrue (known (z.ty a))) e h)
      (subst (λ z. IsTrue (known (z.ty b))) e k))

  pub one_const : (a b : ConstKey Key) → (IsTrue (known (n.const_ a)) → IsTrue (known (n.const_ b)) →
      n.const_ a ≡ n.const_ b) → IsTrue (known (m.const_ a)) → IsTrue (known (m.const_ b)) → m.const_ a ≡ m.const_ b
  one_const a b f h k = subst (λ z. z.const_ a ≡ z.const_ b) (sym e)
      (f (subst (λ z. IsTrue (known (z.const_ a))) e h) (subst (λ z. IsTrue (known (z.const_ b))) e k))
