-- Opening binders in a context: placeholders or new variables put for what a binder binds.
use Rattle.std.specs.Prelude.{◌≡◌, ℕ, suc, List, [], ◌∷◌, ◌++◌, take, Option, Some, None, IsTrue, Result, Ok, Err}
use Rattle.relation_terms.specs.declared.terms.binder.Binder.{Binder}
use Rattle.relation_terms.specs.Heads.{type_kind, region_kind, const_kind, BoundKind, bound_kind}
use Rattle.relation_terms.specs.Heads.{VarKind, type_var, const_var, region_var, variable, placeholder}
use Rattle.relation_terms.specs.Trees.{Tree, leaf, bind, inst, known}
use Rattle.relation_terms.specs.Meaning.{Meaning, under}
use Rattle.relation_semantics.specs.Contexts.{Context}
use Rattle.relation_semantics.specs.Steps.{MakesVariable, ChangesNothing, EntersForall}
use Rattle.relation_semantics.specs.Stores.{Store}

-- The variables of a list that there may be.
abbrev pub kinds_in : Option (List BoundKind) → List BoundKind
kinds_in (Some ks) = ks
kinds_in None = []

-- Of which kind a variable is that may stand for what a binder binds.
abbrev pub variable_kind : BoundKind → VarKind
variable_kind (bound_kind type_kind n) = type_var
variable_kind (bound_kind region_kind n) = region_var
variable_kind (bound_kind const_kind n) = const_var

-- Placeholders of a universe for the variables of a list, numbered by their places from `n` on.
abbrev pub placeholders_from : ℕ → ℕ → List BoundKind → List Tree
placeholders_from u n [] = []
placeholders_from u n (k ∷ ks) = leaf (placeholder k u n) ∷ placeholders_from u (suc n) ks

-- Variables of a universe were made one after another, one for each place of a binder's list in its order, and for no
-- other.
pub data MakesEach (u : ℕ) (before : Store) : List BoundKind → List Tree → Store → Type 0 where
  makes_none : {ks : List BoundKind} {xs : List Tree} → ks ≡ [] → xs ≡ [] → MakesEach u before ks xs before
  makes_next : {middle after : Store} {ks ls : List BoundKind} {xs ys : List Tree} {n : ℕ} (k : BoundKind) →
      MakesEach u before ks xs middle → MakesVariable middle after (variable_kind k) n u → ls ≡ ks ++ k ∷ [] →
      ys ≡ xs ++ leaf (variable (variable_kind k) n) ∷ [] → MakesEach u before ls ys after

-- Such were made for the first places of a list, and for the others none.
abbrev pub MakesFirst : ℕ → Store → List BoundKind → Store → Type 0
MakesFirst u before ks after = (n : ℕ) × (xs : List Tree) × MakesEach u before (take n ks) xs after

-- What a binder binds.
abbrev pub bound_by : Tree → List BoundKind
bound_by (bind ks t) = ks
bound_by t = []

-- A body with the variables that were made for its binder put for what that binds.
pub record InstantiatesEach (before after : Store) (ks : List BoundKind) (body opened : Tree) : Type 0 where
  pub variables : List Tree
  pub makes : MakesEach before.universe before ks variables after
  pub body_is : opened ≡ inst variables 0 body

module _ {Key Id Name : Type 0} where
  -- The tree of a binder over what has a tree.
  abbrev pub binder_tree : {T : Type 0} → (Meaning Key Id Name → T → Tree) → Meaning Key Id Name → Binder Key T → Tree
  binder_tree tree m b = under (m.bound_vars b.bound_vars) (tree m b.value)

-- Between a context before a call and after it.
module _ {Key Id Name : Type 0} (c d : Context Key Id Name) where
  -- What the body of a binder was entered as.
  abbrev pub EntersAs : Tree → Tree → Type 0
  EntersAs (bind ks t) x = EntersForall c.store d.store ks t x
  EntersAs t x = ⊥

  -- A binder was entered, and its body answered; or a growth was refused, and nothing was recorded.
  abbrev pub EntersBinder : {K F : Type 0} → (Meaning Key Id Name → K → Tree) → Tree → Result K F → Type 0
  EntersBinder tree t (Ok x) = IsTrue (known (tree d.meaning x)) × EntersAs t (tree d.meaning x)
  EntersBinder tree t (Err f) = d.store ≡ c.store

  -- The same of a binder over what has a tree.
  abbrev pub EntersBinderOf : {K F : Type 0} → (Meaning Key Id Name → K → Tree) → Binder Key K → Result K F → Type 0
  EntersBinderOf tree b result = EntersBinder tree (binder_tree tree c.meaning b) result

  -- What the body of a binder was instantiated as.
  abbrev pub InstantiatesAs : Tree → Tree → Type 0
  InstantiatesAs (bind ks t) x = InstantiatesEach c.store d.store ks t x
  InstantiatesAs t x = ⊥

  -- A binder's body was answered over new variables; or a growth was refused, and those that were made on the way
  -- stay unbound.
  abbrev pub InstantiatesWithInfer : {K F : Type 0} → (Meaning Key Id Name → K → Tree) → Tree → Result K F → Type 0
  InstantiatesWithInfer tree t (Ok x) = IsTrue (known (tree d.meaning x)) × InstantiatesAs t (tree d.meaning x)
  InstantiatesWithInfer tree t (Err f) = MakesFirst (c.store).universe c.store (bound_by t) d.store

  -- The same of a binder over what has a tree.
  abbrev pub InstantiatesBinderOf : {K F : Type 0} → (Meaning Key Id Name → K → Tree) → Binder Key K → Result K F →
      Type 0
  InstantiatesBinderOf tree b result = InstantiatesWithInfer tree (binder_tree tree c.meaning b) result

  -- Of two binders the one was entered, and then the other instantiated, from one record through another to a third.
  abbrev pub OpensFrom : Tree → Tree → Tree → Tree → Type 0
  OpensFrom (bind ks t) (bind ls u) x y = (middle : Store) × EntersForall c.store middle ks t x ×
      InstantiatesEach middle d.store ls u y
  OpensFrom t u x y = ⊥

  -- Both bodies were answered; or a growth was refused: a universe may have been made, and some of the variables, which
  -- stay unbound.
  abbrev pub OpensBoth : {K F : Type 0} → (Meaning Key Id Name → K → Tree) → Tree → Tree → Result (K × K) F → Type 0
  OpensBoth tree t u (Ok p) = IsTrue (known (tree d.meaning p.0)) × IsTrue (known (tree d.meaning p.1)) ×
      OpensFrom t u (tree d.meaning p.0) (tree d.meaning p.1)
  OpensBoth tree t u (Err f) = (middle : Store) × ChangesNothing c.store middle ×
      (middle.tainted ≡ (c.store).tainted) × MakesFirst middle.universe middle (bound_by u) d.store
