-- Lists of components, as they grow.
use Rattle.std.proofs.Common.{◌≡◌, ◌≤◌, ◌⊎◌, ◌∙◌, ℕ, Bool, true, false, cond, IsTrue, refl, sym, ap, subst, inl, inr, ⊎_elim, ◌||◌, arith}
use Rattle.std.proofs.Common.{List, [], ◌∷◌, ◌++◌, append-nil, Vec, Global, Some, Result, Ok, Err, OnOk, OnErr}
use Rattle.std.proofs.lemmas.List.{append_assoc}
use Rattle.std.proofs.lemmas.List.Folds.{list_any-append}
use Rattle.std.specs.List.{list_any}
use mathlib.Core.Former.{Count}
use Rattle.relation_terms.specs.Trees.{Tree, known, size}
use Rattle.relation_terms.specs.Meaning.{Meaning, arg_tree}
use Rattle.relation_terms.specs.declared.terms.generic_arg.GenericArgKind.{GenericArgKind}
use Rattle.relation_folds.specs.Visits.{bound_var_escapes}
use Rattle.component_parts.specs.Components.{every, components, inside_alias}
use Rattle.outlives.specs.Outliving.{SomeIs, EachIs, StandsFor, EachStands, SomeStands, AddsSome, HasAll}
use Rattle.outlives.specs.Collecting.{Settled, Meets, Keeps}
use Rattle.outlives.specs.declared.Component.{Component, EscapingAlias, EscapingAlias', Row_of-Component, end_of-Component, more_of-Component, items-the_row-Component, items_hidden-the_row-Component-0}

-- Of two lists, one after the other.
some_left : {A : Type 0} (P : A → Type 0) (xs ys : List A) → SomeIs P xs → SomeIs P (xs ++ ys)
some_left P [] ys s = absurd s
some_left P (x ∷ xs) ys (inl p) = inl p
some_left P (x ∷ xs) ys (inr s) = inr (some_left P xs ys s)

some_right : {A : Type 0} (P : A → Type 0) (xs ys : List A) → SomeIs P ys → SomeIs P (xs ++ ys)
some_right P [] ys s = s
some_right P (x ∷ xs) ys s = inr (some_right P xs ys s)

each_map : {A : Type 0} (P Q : A → Type 0) → ((x : A) → P x → Q x) → (xs : List A) → EachIs P xs → EachIs Q xs
each_map P Q f [] e = tt
each_map P Q f (x ∷ xs) e = (f x e.0, each_map P Q f xs e.1)

pub each_both : {A : Type 0} (P : A → Type 0) (xs ys : List A) → EachIs P xs → EachIs P ys → EachIs P (xs ++ ys)
each_both P [] ys e o = o
each_both P (x ∷ xs) ys e o = (e.0, each_both P xs ys e.1 o)

pub in_left : (xs ys : List Tree) (P : Tree → Type 0) → SomeIs P xs → SomeIs P (xs ++ ys)
in_left xs ys P s = some_left P xs ys s

pub in_right : (xs ys : List Tree) (P : Tree → Type 0) → SomeIs P ys → SomeIs P (xs ++ ys)
in_right xs ys P s = some_right P xs ys s

module _ {X D N : Type 0} (m : Meaning X D N) where
  -- Nothing was added; one was; more after others; among more trees.
  pub adds_none : (ts : List Tree) (cs : List (Component X D N)) → AddsSome m ts cs cs
  adds_none ts cs = ([], sym (append-nil cs), tt)

  pub adds_one : (ts : List Tree) (c : Component X D N) (t : Tree) (cs ds : List (Component X D N)) → ts ≡ t ∷ [] →
      StandsFor m c t → ds ≡ cs ++ c ∷ [] → AddsSome m ts cs ds
  adds_one ts c t cs ds is s e = (c ∷ [], e, (subst (λ z. SomeIs (λ u. StandsFor m c u) z) (sym is) (inl s), tt))

  pub adds_after : (ts : List Tree) (cs ds es : List (Component X D N)) → AddsSome m ts cs ds → AddsSome m ts ds es →
      AddsSome m ts cs es
  adds_after ts cs ds es p o = (
    p.0 ++ o.0,
    o.1 ∙ ap (λ z. z ++ o.0) p.1 ∙ append_assoc cs p.0 o.0,
    each_both (λ c. SomeIs (λ t. StandsFor m c t) ts) p.0 o.0 p.2 o.2,
  )

  pub adds_within : (ts us : List Tree) (cs ds : List (Component X D N)) →
      ((P : Tree → Type 0) → SomeIs P ts → SomeIs P us) → AddsSome m ts cs ds → AddsSome m us cs ds
  adds_within ts us cs ds f p = (
    p.0,
    p.1,
    each_map (λ c. SomeIs (λ t. StandsFor m c t) ts) (λ c. SomeIs (λ t. StandsFor m c t) us)
        (λ c s. f (λ t. StandsFor m c t) s) p.0 p.2,
  )

  pub adds_as : (ts us : List Tree) (cs ds : List (Component X D N)) → ts ≡ us → AddsSome m ts cs ds →
      AddsSome m us cs ds
  adds_as ts us cs ds e p = subst (λ z. AddsSome m z cs ds) e p

  -- A component stands for each tree of one list; of two; where the list has grown.
  pub has_one : (ts : List Tree) (c : Component X D N) (t : Tree) (cs ds : List (Component X D N)) → ts ≡ t ∷ [] →
      StandsFor m c t → ds ≡ cs ++ c ∷ [] → HasAll m ts ds
  has_one ts c t cs ds is s e =
      subst (λ z. HasAll m z ds) (sym is)
      (subst (λ z. HasAll m (t ∷ []) z) (sym e) (some_right (λ c. StandsFor m c t) cs (c ∷ []) (inl s), tt))

  pub has_both : (ts us : List Tree) (cs : List (Component X D N)) → HasAll m ts cs → HasAll m us cs →
      HasAll m (ts ++ us) cs
  has_both ts us cs h k = each_both (λ t. SomeIs (λ c. StandsFor m c t) cs) ts us h k

  pub has_grown : (ts us : List Tree) (cs ds : List (Component X D N)) → AddsSome m us cs ds → HasAll m ts cs →
      HasAll m ts ds
  has_grown ts us cs ds p h =
      subst (λ z. HasAll m ts z) (sym p.1)
      (each_map (λ t. SomeIs (λ c. StandsFor m c t) cs) (λ t. SomeIs (λ c. StandsFor m c t) (cs ++ p.0))
      (λ t s. some_left (λ c. StandsFor m c t) cs p.0 s) ts h)

  pub has_as : (ts us : List Tree) (cs : List (Component X D N)) → ts ≡ us → HasAll m ts cs → HasAll m us cs
  has_as ts us cs e h = subst (λ z. HasAll m z cs) e h

  -- One component was to be added, and was where memory sufficed.
  pub added_some : {E : Type 0} (ts : List Tree) (c : Component X D N) (t : Tree) (cs ds : List (Component X D N))
      (r : Result (Unit {0}) E) → OnOk r (ds ≡ cs ++ c ∷ []) → OnErr r (ds ≡ cs) → ts ≡ t ∷ [] → StandsFor m c t →
      AddsSome m ts cs ds
  added_some ts c t cs ds (Ok u) ok err is s = adds_one ts c t cs ds is s ok
  added_some ts c t cs ds (Err e) ok err is s = subst (λ z. AddsSome m ts cs z) (sym err) (adds_none ts cs)

  pub added_all : {E : Type 0} (ts : List Tree) (c : Component X D N) (t : Tree) (cs ds : List (Component X D N))
      (r : Result (Unit {0}) E) → OnOk r (ds ≡ cs ++ c ∷ []) → ts ≡ t ∷ [] → StandsFor m c t → OnOk r (HasAll m ts ds)
  added_all ts c t cs ds (Ok u) ok is s = has_one ts c t cs ds is s ok
  added_all ts c t cs ds (Err e) ok is s = tt

  -- A list of them was to be put behind others, and was where memory sufficed.
  pub appended_some : {E : Type 0} (ts : List Tree) (list cs ds : List (Component X D N)) (r : Result (Unit {0}) E) →
      OnOk r (ds ≡ cs ++ list) → OnErr r (ds ≡ cs) → AddsSome m ts [] list → AddsSome m ts cs ds
  appended_some ts list cs ds (Ok u) ok err p = (p.0, ok ∙ ap (λ z. cs ++ z) p.1, p.2)
  appended_some ts list cs ds (Err e) ok err p = subst (λ z. AddsSome m ts cs z) (sym err) (adds_none ts cs)

  pub appended_all : {E : Type 0} (ts : List Tree) (list cs ds : List (Component X D N)) (r : Result (Unit {0}) E) →
      OnOk r (ds ≡ cs ++ list) → HasAll m ts list → OnOk r (HasAll m ts ds)
  appended_all ts list cs ds (Ok u) ok h =
      subst (λ z. HasAll m ts z) (sym ok)
      (each_map (λ t. SomeIs (λ c. StandsFor m c t) list) (λ t. SomeIs (λ c. StandsFor m c t) (cs ++ list))
      (λ t s. some_right (λ c. StandsFor m c t) cs list s) ts h)
  appended_all ts list cs ds (Err e) ok h = tt

  -- What is held in a component, as a list.
  each_row : (ts : List Tree) (n : Count) (row : Row_of-Component X D N n) →
      EachIs (λ c. SomeIs (λ t. StandsFor m c t) ts) (items-the_row-Component X D N n row) → EachStands m row ts
  each_row ts n end_of-Component e = tt
  each_row ts n (more_of-Component c rest) e = (e.0, each_row ts _ rest e.1)

  some_row : (t : Tree) (n : Count) (row : Row_of-Component X D N n) →
      SomeIs (λ c. StandsFor m c t) (items-the_row-Component X D N n row) → SomeStands m row t
  some_row t n end_of-Component s = absurd s
  some_row t n (more_of-Component c rest) (inl p) = inl p
  some_row t n (more_of-Component c rest) (inr s) = inr (some_row t _ rest s)

  abbrev row_of : Component X D N → (n : Count) × Row_of-Component X D N n
  row_of (EscapingAlias' _ row) = (_, row)
  row_of c = (_, end_of-Component)

  pub stands_escaping : (list : Vec (Component X D N) Global) (t : Tree) → bound_var_escapes t ≡ true →
      AddsSome m (inside_alias m.alias_variances t) [] list.items →
      HasAll m (inside_alias m.alias_variances t) list.items → StandsFor m (EscapingAlias list) t
  stands_escaping list t e p h =
      let row = row_of (EscapingAlias list) in
      let same = items_hidden-the_row-Component-0 X D N list in
      let ts = inside_alias m.alias_variances t in (
        e,
        each_row ts row.0 row.1
            (subst (EachIs (λ c. SomeIs (λ t. StandsFor m c t) ts)) (sym (same ∙ p.1)) p.2),
        each_map (λ u. SomeIs (λ c. StandsFor m c u) list.items) (λ u. SomeStands m row.1 u)
            (λ u s. some_row u row.0 row.1 (subst (SomeIs (λ c. StandsFor m c u)) (sym same) s)) ts h,
      )

  -- What was met.
  module _ (eq : GenericArgKind X → GenericArgKind X → Bool) where
    pub meets_none : (xs ys : List (GenericArgKind X)) (cs : List (Component X D N)) → ys ≡ xs → Meets m eq xs ys cs
    meets_none xs ys cs e q k s = inl (ap (list_any (eq q)) (sym e) ∙ s)

    pub meets_grown : (xs ys : List (GenericArgKind X)) (us : List Tree) (cs ds : List (Component X D N)) →
        AddsSome m us cs ds → Meets m eq xs ys cs → Meets m eq xs ys ds
    meets_grown xs ys us cs ds p o q k s = ⊎_elim inl (λ h. inr (has_grown _ us cs ds p h)) (o q k s)

    pub meets_after : (xs ys zs : List (GenericArgKind X)) (us : List Tree) (cs ds : List (Component X D N)) →
        AddsSome m us cs ds → Meets m eq xs ys cs → Meets m eq ys zs ds → Meets m eq xs zs ds
    meets_after xs ys zs us cs ds p o n q k s =
        ⊎_elim (λ y. meets_grown xs ys us cs ds p o q k y) inr (n q k s)

    pub settled_below : (n i : ℕ) (xs : List (GenericArgKind X)) (cs : List (Component X D N)) → i ≤ n →
        Settled m eq n xs cs → Settled m eq i xs cs
    settled_below n i xs cs l o q k s h = o q k s (omega (arith, l, h))

    pub settled_after : (n : ℕ) (xs ys : List (GenericArgKind X)) (us : List Tree) (cs ds : List (Component X D N)) →
        AddsSome m us cs ds → Settled m eq n xs cs → Meets m eq xs ys ds → Settled m eq n ys ds
    settled_after n xs ys us cs ds p o e q k s h =
        ⊎_elim (λ x. has_grown _ us cs ds p (o q k x h)) (λ z. z) (e q k s)

    -- Nothing was met yet.
    pub settled_none : (n : ℕ) (xs : List (GenericArgKind X)) (cs : List (Component X D N)) → xs ≡ [] →
        Settled m eq n xs cs
    settled_none n xs cs e q k s h = absurd (let none : false ≡ true = sym (ap (list_any (eq q)) e) ∙ s in cc)

    -- What equals one of those that are met now equals one that was met, or what is kept now.
    met_more : (x q : GenericArgKind X) (b : Bool) (xs ys : List (GenericArgKind X)) → Keeps eq (Some x) b xs ys →
        list_any (eq q) ys ≡ true → (list_any (eq q) xs ≡ true) ⊎ (eq q x ≡ true)
    met_more x q true xs ys k s =
        last_of (list_any (eq q) xs) (eq q x) (sym (list_any-append (eq q) xs (x ∷ [])) ∙ ap (list_any (eq q)) (sym k) ∙ s)
      where
        last_of : (a b : Bool) → (a || (b || false)) ≡ true → (a ≡ true) ⊎ (b ≡ true)
        last_of true b e = inl refl
        last_of false true e = inr refl
        last_of false false e = absurd (cc)
    met_more x q false xs ys k s = inl (ap (list_any (eq q)) (sym k.1) ∙ s)

    module _ (same : (x y : GenericArgKind X) → IsTrue (known (arg_tree m x)) → IsTrue (known (arg_tree m y)) →
        (IsTrue (eq x y) → arg_tree m x ≡ arg_tree m y) × (arg_tree m x ≡ arg_tree m y → IsTrue (eq x y))) where
      -- Of what is kept now, what is smaller was settled before; and where its components were added, all were met.
      pub settled_kept : (n : ℕ) (x : GenericArgKind X) (b : Bool) (xs ys : List (GenericArgKind X))
          (cs : List (Component X D N)) → IsTrue (known (arg_tree m x)) → n ≡ size (arg_tree m x) →
          Keeps eq (Some x) b xs ys → Settled m eq n xs cs → Settled m eq n ys cs
      settled_kept n x b xs ys cs kx is a o q k s h = ⊎_elim (λ t. o q k t h)
          (λ e. absurd (let i = ap size ((same q x k kx).0 e) in omega (arith, i, is, h))) (met_more x q b xs ys a s)

      pub meets_kept : (x : GenericArgKind X) (b : Bool) (xs ys : List (GenericArgKind X))
          (cs : List (Component X D N)) → IsTrue (known (arg_tree m x)) → Keeps eq (Some x) b xs ys →
          HasAll m (components every (arg_tree m x)) cs → Meets m eq xs ys cs
      meets_kept x b xs ys cs kx a h q k s = ⊎_elim inl
          (λ e. inr (subst (λ z. HasAll m (components every z) cs) (sym ((same q x k kx).0 e)) h))
          (met_more x q b xs ys a s)
