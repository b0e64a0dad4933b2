-- What traits state binds in itself alone.
use Rattle.std.specs.Prelude.{ℕ, suc, ◌≡◌, ◌<◌, ◌≤◌, cond, nat_eq, length, IsTrue, []}
use Rattle.std.specs.List.{All}
use Rattle.relation_terms.specs.Heads.{BoundKind, bound_kind, region_kind, type_kind, const_kind, Leaf, bound}
use Rattle.relation_terms.specs.Trees.{Tree, leaf, node, bind, nil, cons, known}
use Rattle.relation_terms.specs.Flags.{outer_exclusive_binder}
use Rattle.relation_terms.specs.Meaning.{Meaning, under}
use Rattle.relation_terms.specs.Predicates.{trait_ref_tree}
use Rattle.relation_terms.specs.declared.terms.binder.Binder.{Binder}
use Rattle.relation_terms.specs.declared.terms.keys.ClauseKey.{ClauseKey}
use Rattle.relation_terms.specs.declared.terms.generics.GenericParam.{GenericParam}
use Rattle.relation_terms.specs.declared.terms.generics.GenericParamKind.{GenericParamKind}
use Rattle.relation_terms.specs.declared.terms.generics.GenericParamKind.TheVariants.{Lifetime, «Type» as TypeParam, Const as ConstParam}
use Rattle.relation_terms.specs.declared.predicate.trait_ref.TraitRef.{TraitRef}

-- A variable that the binder `depth` steps up binds stands at one of the places of its list, which are so many.
abbrev pub IsWithin : ℕ → ℕ → Leaf → Type 0
IsWithin count depth (bound k d i) = cond (nat_eq d depth) (i < count) (Unit {0})
IsWithin count depth l = Unit {0}

-- The same of all that stand in a tree.
abbrev pub AreWithin : ℕ → ℕ → Tree → Type 0
AreWithin count depth (leaf l) = IsWithin count depth l
AreWithin count depth (node h ts) = AreWithin count depth ts
AreWithin count depth (bind ks t) = AreWithin count (suc depth) t
AreWithin count depth nil = Unit {0}
AreWithin count depth (cons t ts) = AreWithin count depth t × AreWithin count depth ts

-- What a predicate's binder binds stands at places of its list.
abbrev pub BindsWithin : Tree → Type 0
BindsWithin (bind ks t) = AreWithin (length ks) 0 t
BindsWithin t = Unit {0}

-- And nothing in it is bound outside of it.
abbrev pub IsOwn : Tree → Type 0
IsOwn t = BindsWithin t × (outer_exclusive_binder t ≡ 0)

-- What a kind of generic parameter stands for.
abbrev pub param_kind : GenericParamKind → ℕ → BoundKind
param_kind Lifetime n = bound_kind region_kind n
param_kind TypeParam n = bound_kind type_kind n
param_kind ConstParam n = bound_kind const_kind n

module _ {Key Id Name : Type 0} (m : Meaning Key Id Name) where
  -- A generic parameter: what it stands for, with its name.
  abbrev pub param_of : GenericParam Name → BoundKind
  param_of p = param_kind p.kind (m.name p.name)

  -- The tree of a trait with its arguments, under a binder.
  abbrev pub bound_tree : Binder Key (TraitRef Key Id) → Tree
  bound_tree b = under (m.bound_vars b.bound_vars) (trait_ref_tree m b.value)

  -- A clause that is known, and binds in itself alone; and a const bound.
  abbrev pub IsStated : ClauseKey Key → Type 0
  IsStated k = IsTrue (known (m.clause k)) × IsOwn (m.clause k)

  abbrev pub IsStatedBound : Binder Key (TraitRef Key Id) → Type 0
  IsStatedBound b = IsTrue (known (bound_tree b)) × IsOwn (bound_tree b)

  -- All that traits state is so, and finitely many traits state something.
  pub record StatesItsOwn : Type 0 where
    pub supers : (d : ℕ) → All IsStated ((m.tables).super_predicates d)
    pub implied : (d : ℕ) → All IsStated ((m.tables).implied_predicates d)
    pub bounds : (d : ℕ) → All IsStatedBound ((m.tables).const_bounds d)
    pub finite : (n : ℕ) × ((d : ℕ) → n ≤ d → (m.tables).super_predicates d ≡ [])
