-- What the components of a known type name is known.
use Rattle.std.proofs.Common.{◌≡◌, Bool, true, false, cond, IsTrue, List, [], ◌∷◌, ◌<◌, ◌≤◌, ◌+◌, ℕ, zero, suc, get_or, length, arith}
use Rattle.std.proofs.Common.{refl, ap, ◌∙◌}
use Rattle.std.proofs.Common.{inl, inr, sym, subst, Vec, Global}
use Rattle.std.proofs.lemmas.Bool.{and_parts}
use mathlib.Core.Former.{Count}
use Rattle.relation_terms.specs.Trees.{Tree, leaf, node, bind, nil, cons, known}
use Rattle.relation_terms.specs.Meaning.{Meaning}
use Rattle.component_parts.specs.Components.{Choice, every, components, choice_of, choice_behind, takes, is_alias, is_component, inside_alias, alias_choice}
use Rattle.outlives.specs.Outliving.{SomeIs, EachIs, StandsFor, EachStands, AddsSome}
use Rattle.relation_terms.specs.Heads.{alias}
use Rattle.outlives.specs.declared.Component.{Component, Region, Param, Placeholder, UnresolvedInferenceVariable, Alias, EscapingAlias, EscapingAlias', Row_of-Component, end_of-Component, more_of-Component, items-the_row-Component, items_hidden-the_row-Component-0}
use Rattle.text_asking.specs.Outlives.{KnowsComponent, KnowsInside, KnowsComponents}
use Rattle.outlives.proofs.Outliving.{each_both}
use Rattle.outlives_assumptions.proofs.Assumptions.{Known}

each_either : (b : Bool) (xs ys : List Tree) → EachIs Known xs → EachIs Known ys → EachIs Known (cond b xs ys)
each_either true xs ys e o = e
each_either false xs ys e o = o

pub each_at : {A : Type 0} (P : A → Type 0) (xs : List A) (i : ℕ) (d : A) → i < length xs → EachIs P xs → P (get_or xs i d)
each_at P [] i d h e = absurd (omega arith)
each_at P (x ∷ xs) zero d h e = e.0
each_at P (x ∷ xs) (suc i) d h e = each_at P xs i d (omega arith) e.1

-- One that is so, where each is so in another way.
some_and_each : {A : Type 0} (P Q : A → Type 0) (xs : List A) → SomeIs P xs → EachIs Q xs → (x : A) × P x × Q x
some_and_each P Q [] s k = absurd s
some_and_each P Q (x ∷ xs) (inl p) k = (x, p, k.0)
some_and_each P Q (x ∷ xs) (inr s) k = some_and_each P Q xs s k.1

-- The components of a known tree are known.
known_components : (c : Choice) (t : Tree) → Known t → EachIs Known (components c t)
known_components c (leaf l) k = each_either (is_component l) (leaf l ∷ []) [] (k, tt) tt
known_components c (node h ts) k =
    each_either (is_alias h) (node h ts ∷ []) (components (choice_of h) ts) (k, tt)
    (known_components (choice_of h) ts k)
known_components c (bind ks t) k = known_components every t k
known_components c nil k = tt
known_components c (cons t ts) k =
    let p = and_parts (known t) (known ts) k in
    each_both Known (cond (takes c t ts) (components every t) []) (components (choice_behind c) ts)
    (each_either (takes c t ts) (components every t) [] (known_components every t p.0) tt)
    (known_components (choice_behind c) ts p.1)

abbrev row_of : {X D N : Type 0} → Component X D N → (n : Count) × Row_of-Component X D N n
row_of (EscapingAlias' _ row) = (_, row)
row_of c = (_, end_of-Component)

module _ {X D N : Type 0} (m : Meaning X D N) where
  known_inside : (t : Tree) → Known t → EachIs Known (inside_alias m.alias_variances t)
  known_inside (node (alias k d) ts) h = known_components (alias_choice (m.alias_variances d)) ts h
  known_inside t h = tt

  mutual
    -- A component that stands for a known tree, and all of a list that stand for some.
    stands_known : (c : Component X D N) (t : Tree) → StandsFor m c t → Known t → KnowsComponent m c
    stands_known (Region r) t s k = subst Known (sym s) k
    stands_known (Param p) t s k = tt
    stands_known (Placeholder p) t s k = tt
    stands_known (UnresolvedInferenceVariable i) t s k = tt
    stands_known (Alias a) t s k = subst Known (sym s.1) k
    stands_known (EscapingAlias' shape all) t s k = inside_known all _ s.1 (known_inside t k)

    inside_known : {n : _} (all : Row_of-Component X D N n) (ts : List Tree) → EachStands m all ts → EachIs Known ts →
        KnowsInside m all
    inside_known end_of-Component ts s k = tt
    inside_known (more_of-Component c rest) ts s k =
        let one = some_and_each (λ t. StandsFor m c t) Known ts s.0 k in
        (stands_known c one.0 one.1 one.2, inside_known rest ts s.1 k)

  some_known : (c : Component X D N) (ts : List Tree) → SomeIs (λ t. StandsFor m c t) ts → EachIs Known ts →
      KnowsComponent m c
  some_known c ts s k =
      let one = some_and_each (λ t. StandsFor m c t) Known ts s k in stands_known c one.0 one.1 one.2

  each_known : (ts : List Tree) (cs : List (Component X D N)) → EachIs Known ts →
      EachIs (λ c. SomeIs (λ t. StandsFor m c t) ts) cs → KnowsComponents m cs
  each_known ts [] k s = tt
  each_known ts (c ∷ cs) k s = (some_known c ts s.0 k, each_known ts cs k s.1)

  -- The components that were found of a known type name what is known.
  pub found_known : (t : Tree) (cs : List (Component X D N)) → Known t → AddsSome m (components every t) [] cs →
      KnowsComponents m cs
  found_known t cs k s =
      subst (KnowsComponents m) (sym s.1) (each_known (components every t) s.0 (known_components every t k) s.2)

  -- What is held in a component, as a list.
  inside_each : (n : Count) (row : Row_of-Component X D N n) → KnowsInside m row →
      KnowsComponents m (items-the_row-Component X D N n row)
  inside_each n end_of-Component k = tt
  inside_each n (more_of-Component c rest) k = (k.0, inside_each _ rest k.1)

  escaping_known : (list : Vec (Component X D N) Global) → KnowsComponent m (EscapingAlias list) →
      KnowsComponents m list.items
  escaping_known list k =
      let row = row_of (EscapingAlias list) in
      subst (KnowsComponents m) (items_hidden-the_row-Component-0 X D N list) (inside_each row.0 row.1 k)

  list_known : (list : Vec (Component X D N) Global) (c : Component X D N) → c ≡ EscapingAlias list →
      KnowsComponent m c → KnowsComponents m list.items
  list_known list c e k = escaping_known list (subst (KnowsComponent m) e k)

  -- What stands at a place of what is held in a component.
  pub held_known : (list : Vec (Component X D N) Global) (c : Component X D N) (xs : List (Component X D N)) (i : ℕ)
      (x : Component X D N) → c ≡ EscapingAlias list → xs ≡ list.items → i < length xs → x ≡ get_or xs i x →
      KnowsComponent m c → KnowsComponent m x
  held_known list c xs i x e q h p k =
      subst (KnowsComponent m) (sym p)
      (each_at (KnowsComponent m) xs i x h (subst (KnowsComponents m) (sym q) (list_known list c e k)))

module _ {X D N : Type 0} where
  abbrev mutual
    -- How much is held in a component.
    pub weight : Component X D N → ℕ
    weight (EscapingAlias' shape all) = suc (row_weight all)
    weight c = 0

    pub row_weight : {n : _} → Row_of-Component X D N n → ℕ
    row_weight end_of-Component = 0
    row_weight (more_of-Component c rest) = weight c + row_weight rest

  abbrev list_weight : List (Component X D N) → ℕ
  list_weight [] = 0
  list_weight (x ∷ xs) = weight x + list_weight xs

  row_is : (n : Count) (row : Row_of-Component X D N n) → list_weight (items-the_row-Component X D N n row) ≡ row_weight row
  row_is n end_of-Component = refl
  row_is n (more_of-Component c rest) = ap (λ k. weight c + k) (row_is _ rest)

  weight_at : (xs : List (Component X D N)) (i : ℕ) (d : Component X D N) → i < length xs →
      weight (get_or xs i d) ≤ list_weight xs
  weight_at [] i d h = absurd (omega arith)
  weight_at (x ∷ xs) zero d h = omega arith
  weight_at (x ∷ xs) (suc i) d h = let w = weight_at xs i d (omega arith) in omega (arith, w)

  escaping_weighs : (list : Vec (Component X D N) Global) → weight (EscapingAlias list) ≡ suc (list_weight list.items)
  escaping_weighs list =
      let row = row_of (EscapingAlias list) in
      ap suc (sym (row_is row.0 row.1) ∙ ap list_weight (items_hidden-the_row-Component-0 X D N list))

  -- What stands there holds less.
  pub held_less : (list : Vec (Component X D N) Global) (c : Component X D N) (xs : List (Component X D N)) (i : ℕ)
      (x : Component X D N) → c ≡ EscapingAlias list → xs ≡ list.items → i < length xs → x ≡ get_or xs i x →
      weight x < weight c
  held_less list c xs i x e q h p =
      let own = weight_at xs i x h in
      let all = ap weight e ∙ escaping_weighs list in
      let same = ap list_weight q in
      let one = ap weight p in
      omega (arith, own, all, same, one)
