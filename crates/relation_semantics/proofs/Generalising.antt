-- What generalising makes of a term: one that comes back to it when each new variable is replaced by the leaf whose
-- place it took, and that a variable can be bound to.
use Rattle.std.proofs.Common.{◌≡◌, ◌≢◌, ◌⊎◌, ℕ, suc, ◌≤◌, refl, sym, ap, ap₂, ◌∙◌, arith, inl, inr, subst, subst₂, Option, Some, [], ◌∷◌, All, le_of_eq}
use Rattle.std.proofs.lemmas.List.Elements.{All-nil, All-cons}
use Rattle.term_enums.specs.declared.Variance.{Variance}
use Rattle.term_enums.specs.declared.Variance.TheVariants.{Invariant}
use Rattle.relation_terms.specs.Heads.{leaf_sort, region_kind, type_kind, const_kind, bound_kind, VarKind, type_var, int_var, float_var, const_var, region_var, var_sort, static_region, early_region, Head, Leaf, variable, bound, placeholder, atom, unknown, AliasKind, alias}
use Rattle.relation_terms.specs.Trees.{Tree, leaf, node, bind, cons, Assign, apply, Leaves}
use Rattle.relation_terms.specs.Erasure.{erase}
use Rattle.relation_semantics.specs.Relation.{Items, part_at}
use Rattle.relation_semantics.specs.Stores.{Store, entry_term, universe_of, IsMade, IsFree, IsMadeLeaf, IsInScope, IsSound}
use Rattle.relation_semantics.specs.Steps.{MakesVariable, IsNumberKind, AgreeOn, IsNamedBy, LacksAliases}
use Rattle.term_enums.specs.declared.StructurallyRelateAliases.{StructurallyRelateAliases}
use Rattle.term_enums.specs.declared.StructurallyRelateAliases.TheVariants.{Yes}
use Rattle.relation_semantics.specs.Generalising.{Stays, gives_way_to, Stage, Side, outside, side_in, Turn, any_part, new_part, parts_from, Generalised, met_before, met_first, no_type, stays, gives_way, alias_gives_way, by_parts, in_binder, no_parts, next_part, Obstacle, StopsAt, MakesUnbound, makes_none, makes_one, NumbersNameNothing}
use Rattle.relation_semantics.proofs.Trees.{Leaves_map}
use Rattle.relation_semantics.proofs.Values.{same_value, in_context}
use Rattle.relation_semantics.proofs.Erased.{PartsErased, parts_done, parts_next, parts_form}
use Rattle.relation_semantics.proofs.Exactness.{changed, changed_same, changed_other}
use Rattle.relation_semantics.proofs.Growing.{old_or_new, new_made, new_unbound}
use Rattle.relation_semantics.proofs.NewVariables.{Adds, adds, makes_then, new_universe}
use Rattle.std.proofs.lemmas.Option.{same_Some}

-- What gives way is of the new variable's sort, and no number.
pub gives_sort : (l : Leaf) (j : VarKind) → gives_way_to l ≡ Some j → leaf_sort l ≡ var_sort j
gives_sort (variable type_var m) j e = let q : type_var ≡ j = cc in ap var_sort q
gives_sort (variable const_var m) j e = let q : const_var ≡ j = cc in ap var_sort q
gives_sort (variable region_var m) j e = let q : region_var ≡ j = cc in ap var_sort q
gives_sort (placeholder (bound_kind region_kind x) w i) j e = let q : region_var ≡ j = cc in ap var_sort q
gives_sort (atom static_region) j e = let q : region_var ≡ j = cc in ap var_sort q
gives_sort (atom (early_region i x)) j e = let q : region_var ≡ j = cc in ap var_sort q
gives_sort l j e = absurd cc

no_number_sort : (j : VarKind) (o : Option VarKind) → o ≡ Some j → (o ≡ Some type_var) ⊎ ((o ≡ Some const_var) ⊎ (o ≡ Some region_var)) → IsNumberKind j → ⊥
no_number_sort j o e (inl a) h = let q : j ≡ type_var = cc in subst IsNumberKind q h
no_number_sort j o e (inr (inl a)) h = let q : j ≡ const_var = cc in subst IsNumberKind q h
no_number_sort j o e (inr (inr a)) h = let q : j ≡ region_var = cc in subst IsNumberKind q h

pub gives_no_number : (l : Leaf) (j : VarKind) → gives_way_to l ≡ Some j → IsNumberKind j → ⊥
gives_no_number (variable type_var m) j e h = no_number_sort j (Some type_var) e (inl refl) h
gives_no_number (variable const_var m) j e h = no_number_sort j (Some const_var) e (inr (inl refl)) h
gives_no_number (variable region_var m) j e h = no_number_sort j (Some region_var) e (inr (inr refl)) h
gives_no_number (placeholder (bound_kind region_kind x) w i) j e h = no_number_sort j (Some region_var) e (inr (inr refl)) h
gives_no_number (atom static_region) j e h = no_number_sort j (Some region_var) e (inr (inr refl)) h
gives_no_number (atom (early_region i x)) j e h = no_number_sort j (Some region_var) e (inr (inr refl)) h
gives_no_number l j e h = absurd cc

-- The leaf that a new variable took the place of.
pub record ReplacedLeaf (Q : Leaf → Type 0) (k : VarKind) (n : ℕ) (j : VarKind) (y : Tree) : Type 0 where
  pub was : Leaf
  pub other : was ≢ variable k n
  pub is : y ≡ leaf was
  pub gives : gives_way_to was ≡ Some j
  pub holds : Q was

-- Or the alias, in which an obstacle stands.
pub record ReplacedAlias (Q : Leaf → Type 0) (start : Store) (k : VarKind) (n : ℕ) (j : VarKind) (y : Tree) : Type 0 where
  pub kind : j ≡ type_var
  pub alias_kind : AliasKind
  pub id : ℕ
  pub parts : Tree
  pub is : y ≡ node (alias alias_kind id) parts
  pub obstacle : Obstacle
  pub stops : StopsAt Yes start k n obstacle parts
  pub hold : Leaves Q parts

pub data Replaced (Q : Leaf → Type 0) (start : Store) (k : VarKind) (n : ℕ) (j : VarKind) (y : Tree) : Type 0 where
  replaced_leaf : ReplacedLeaf Q k n j y → Replaced Q start k n j y
  replaced_alias : ReplacedAlias Q start k n j y → Replaced Q start k n j y

-- A way back from the new variables to these leaves.
pub record LeadsBack (Q : Leaf → Type 0) (start : Store) (k : VarKind) (n : ℕ) (back : Assign) (st : Store) : Type 0 where
  pub old : (j : VarKind) (m : ℕ) → IsMade start j m → back j m ≡ leaf (variable j m)
  pub new : (j : VarKind) (m : ℕ) → IsMade st j m → (IsMade start j m → ⊥) → Replaced Q start k n j (back j m)

-- What may stand in a term that the variable is bound to.
pub record IsBoundLeaf (start : Store) (k : VarKind) (n : ℕ) (st : Store) (l : Leaf) : Type 0 where
  pub in_scope : IsInScope st (universe_of start k n) l
  pub free : IsFree st l
  pub other : l ≢ variable k n

-- At invariance, where no alias stands in a term, and all but regions can be named, the erasure stays.
abbrev pub Alike : Store → VarKind → ℕ → Turn → Tree → Tree → Type 0
Alike st k n (any_part e v) t x = v ≡ Invariant → LacksAliases t → Leaves (IsNamedBy st (universe_of st k n)) t → erase x ≡ erase t
Alike st k n (new_part e v) t x = v ≡ Invariant → LacksAliases t → Leaves (IsNamedBy st (universe_of st k n)) t → erase x ≡ erase t
Alike st k n (parts_from e h i v) t x = v ≡ Invariant → LacksAliases t → Leaves (IsNamedBy st (universe_of st k n)) t → PartsErased h x t

-- What a term became.
pub record Became (start : Store) (k : VarKind) (n : ℕ) (back : Assign) (st : Store) (turn : Turn) (t x : Tree) : Type 0 where
  pub value : apply back x ≡ t
  pub leaves : Leaves (IsBoundLeaf start k n st) x
  pub alike : Alike start k n turn t x

-- What a leaf of the source is.
pub record IsSourceLeaf (Q : Leaf → Type 0) (start : Store) (l : Leaf) : Type 0 where
  pub made : IsMadeLeaf start l
  pub free : IsFree start l
  pub holds : Q l

-- A stage with a way back.
pub record Reached (Q : Leaf → Type 0) (start : Store) (k : VarKind) (n : ℕ) (back : Assign) (r : Stage) : Type 0 where
  pub leads : LeadsBack Q start k n back r.store
  pub makes : MakesUnbound (universe_of start k n) start r.store
  pub met : All (λ e. Became start k n back r.store (any_part e.side e.variance) e.type e.term) r.met

-- From one such stage to another.
pub record Came (Q : Leaf → Type 0) (start : Store) (k : VarKind) (n : ℕ) (back : Assign) (r q : Stage) (turn : Turn) (t x : Tree) : Type 0 where
  pub further : Assign
  pub agrees : AgreeOn r.store back further
  pub makes : MakesUnbound (universe_of start k n) r.store q.store
  pub reached : Reached Q start k n further q
  pub became : Became start k n further q.store turn t x

module _ (al : StructurallyRelateAliases) (c : Items) (start : Store) (g : IsSound start) (numbers : NumbersNameNothing start) (k : VarKind) (n : ℕ) (target : IsMade start k n) (Q : Leaf → Type 0) where
  abbrev reach : ℕ
  reach = universe_of start k n

  from_start : (st : Store) → MakesUnbound reach start st → Adds reach start st
  from_start st f = adds g (g.below_current k n) f

  between : (r q : Store) → MakesUnbound reach start r → MakesUnbound reach r q → Adds reach r q
  between r q f h = let a = from_start r f in adds a.sound (let low = g.below_current k n in let e = a.universe in omega (arith, low, e)) h

  -- What a term became it is at later stages too.
  leaf_later : (r q : Store) → Adds reach r q → (l : Leaf) → IsBoundLeaf start k n r l → IsBoundLeaf start k n q l
  leaf_later r q a l h = record { in_scope = scope l h.in_scope; free = free l h.free; other = h.other }
    where
      scope : (l : Leaf) → IsInScope r reach l → IsInScope q reach l
      scope (variable j m) i = ((a.later).grows j m i.0, subst (λ z. z ≤ reach) (sym (a.universes j m i.0)) i.1)
      scope (bound j d m) i = tt
      scope (placeholder j w m) i = i
      scope (atom x) i = i
      scope unknown i = absurd i

      free : (l : Leaf) → IsFree r l → IsFree q l
      free (variable j m) f = sym (a.terms j m) ∙ f
      free (bound j d m) f = tt
      free (placeholder j w m) f = tt
      free (atom x) f = tt
      free unknown f = tt

  became_later : (r q : Store) → Adds reach r q → (back further : Assign) → AgreeOn r back further → (turn : Turn) (t x : Tree) → Became start k n back r turn t x → Became start k n further q turn t x
  became_later r q a back further agree turn t x b = record {
    value = sym (same_value r back further x agree (in_context r reach x (Leaves_map _ (IsInScope r reach) (λ l h. h.in_scope) x b.leaves))) ∙ b.value;
    leaves = Leaves_map (IsBoundLeaf start k n r) (IsBoundLeaf start k n q) (leaf_later r q a) x b.leaves;
    alike = b.alike;
  }

  -- A leaf that stays.
  kept_value : (back : Assign) (st : Store) → LeadsBack Q start k n back st → (l : Leaf) → IsMadeLeaf start l → apply back (leaf l) ≡ leaf l
  kept_value back st b (variable j m) h = b.old j m h
  kept_value back st b (bound q d i) h = refl
  kept_value back st b (placeholder q w i) h = refl
  kept_value back st b (atom x) h = refl
  kept_value back st b unknown h = refl

  kept_scope : (v : Variance) (st : Store) → Adds reach start st → (l : Leaf) → IsMadeLeaf start l → Stays start reach v l → IsInScope st reach l
  kept_scope v st a (variable type_var m) h s = ((a.later).grows type_var m h, subst (λ z. z ≤ reach) (sym (a.universes type_var m h)) s.1)
  kept_scope v st a (variable int_var m) h s = ((a.later).grows int_var m h, subst (λ z. z ≤ reach) (sym (a.universes int_var m h)) (let e = numbers int_var m tt in omega (arith, e)))
  kept_scope v st a (variable float_var m) h s = ((a.later).grows float_var m h, subst (λ z. z ≤ reach) (sym (a.universes float_var m h)) (let e = numbers float_var m tt in omega (arith, e)))
  kept_scope v st a (variable const_var m) h s = ((a.later).grows const_var m h, subst (λ z. z ≤ reach) (sym (a.universes const_var m h)) s)
  kept_scope v st a (variable region_var m) h s = ((a.later).grows region_var m h, subst (λ z. z ≤ reach) (sym (a.universes region_var m h)) s.1)
  kept_scope v st a (bound q d i) h s = tt
  kept_scope v st a (placeholder (bound_kind region_kind x) w i) h s = s.1
  kept_scope v st a (placeholder (bound_kind type_kind x) w i) h s = s
  kept_scope v st a (placeholder (bound_kind const_kind x) w i) h s = s
  kept_scope v st a (atom x) h s = h
  kept_scope v st a unknown h s = absurd h

  kept_free : (st : Store) → Adds reach start st → (l : Leaf) → IsFree start l → IsFree st l
  kept_free st a (variable j m) f = sym (a.terms j m) ∙ f
  kept_free st a (bound q d i) f = tt
  kept_free st a (placeholder q w i) f = tt
  kept_free st a (atom x) f = tt
  kept_free st a unknown f = tt

  kept_leaf : (sd : Side) (v : Variance) (back : Assign) (r : Stage) (l : Leaf) → Reached Q start k n back r → IsSourceLeaf Q start l → l ≢ variable k n → Stays start reach v l → Came Q start k n back r r (new_part sd v) (leaf l) (leaf l)
  kept_leaf sd v back r l at h other s = let a = from_start r.store at.makes in record {
    further = back;
    agrees = λ j m i. refl;
    makes = makes_none;
    reached = at;
    became = record {
      value = kept_value back r.store at.leads l h.made;
      leaves = record { in_scope = kept_scope v r.store a l h.made s; free = kept_free r.store a l h.free; other = other };
      alike = λ e z i. refl;
    };
  }

  -- A leaf that gives way.
  region_alike : (l : Leaf) (j : VarKind) (m : ℕ) → region_var ≡ j → erase (leaf l) ≡ leaf (atom static_region) → erase (leaf (variable j m)) ≡ erase (leaf l)
  region_alike l j m e p = subst (λ z. erase (leaf (variable z m)) ≡ erase (leaf l)) e (sym p)

  changed_alike : (v : Variance) (l : Leaf) (j : VarKind) (m : ℕ) → (Stays start reach v l → ⊥) → gives_way_to l ≡ Some j → v ≡ Invariant → IsNamedBy start reach l → erase (leaf (variable j m)) ≡ erase (leaf l)
  changed_alike v (variable type_var i) j m o e p (inl h) = absurd cc
  changed_alike v (variable type_var i) j m o e p (inr h) = absurd (o (p, h))
  changed_alike v (variable const_var i) j m o e p (inl h) = absurd cc
  changed_alike v (variable const_var i) j m o e p (inr h) = absurd (o h)
  changed_alike v (variable region_var i) j m o e p h = region_alike (variable region_var i) j m (same_Some _ _ e) (refl {a = leaf (atom static_region)})
  changed_alike v (placeholder (bound_kind region_kind x) w i) j m o e p h = region_alike (placeholder (bound_kind region_kind x) w i) j m (same_Some _ _ e) (refl {a = leaf (atom static_region)})
  changed_alike v (atom static_region) j m o e p h = region_alike (atom static_region) j m (same_Some _ _ e) (refl {a = leaf (atom static_region)})
  changed_alike v (atom (early_region i x)) j m o e p h = region_alike (atom (early_region i x)) j m (same_Some _ _ e) (refl {a = leaf (atom static_region)})
  changed_alike v l j m o e p h = absurd cc

  -- A new variable took the place of a tree.
  module _ (sd : Side) (v : Variance) (back : Assign) (r q : Stage) (y : Tree) (j : VarKind) (m : ℕ) (at : Reached Q start k n back r) (what : Replaced Q start k n j y)
      (no_number : IsNumberKind j → ⊥) (makes : MakesVariable r.store q.store j m reach) (same_met : q.met ≡ r.met)
      (alike : v ≡ Invariant → LacksAliases y → Leaves (IsNamedBy start reach) y → erase (leaf (variable j m)) ≡ erase y) where
    abbrev further : Assign
    further = changed j m y back

    to_here : Adds reach start r.store
    to_here = from_start r.store at.makes

    one : MakesUnbound reach r.store q.store
    one = makes_one makes_none no_number makes

    not_made : (i : VarKind) (p : ℕ) → IsMade r.store i p → i ≡ j → p ≡ m → ⊥
    not_made i p h a b = let z : IsMade r.store j m = subst₂ (IsMade r.store) a b h in let e = makes.number in omega (arith, z, e)

    agrees : AgreeOn r.store back further
    agrees i p h = sym (changed_other j m y back i p (not_made i p h))

    leads : LeadsBack Q start k n further q.store
    leads = record {
      old = λ i p h. sym (agrees i p ((to_here.later).grows i p h)) ∙ (at.leads).old i p h;
      new = λ i p h o. go i p o (old_or_new r.store q.store j m reach makes i p h);
    }
      where
        go : (i : VarKind) (p : ℕ) → (IsMade start i p → ⊥) → IsMade r.store i p ⊎ ((i ≡ j) × (p ≡ m)) → Replaced Q start k n i (further i p)
        go i p o (inl h) = subst (Replaced Q start k n i) (agrees i p h) ((at.leads).new i p h o)
        go i p o (inr (a, b)) = subst₂ (λ x z. Replaced Q start k n x (further x z)) (sym a) (sym b) (subst (Replaced Q start k n j) (sym (changed_same j m y back)) what)

    new_leaf : IsBoundLeaf start k n q.store (variable j m)
    new_leaf = record {
      in_scope = (new_made r.store q.store j m reach makes, le_of_eq (new_universe r.store q.store j m reach to_here.sound makes));
      free = ap (entry_term j) (new_unbound r.store q.store j m reach makes);
      other = λ e. let a : k ≡ j = cc in let b : n ≡ m = cc in not_made k n ((to_here.later).grows k n target) a b;
    }

    new_leaf_came : Came Q start k n back r q (new_part sd v) y (leaf (variable j m))
    new_leaf_came = record {
      further = further;
      agrees = agrees;
      makes = one;
      reached = record {
        leads = leads;
        makes = makes_then at.makes one;
        met = subst (All (λ e. Became start k n further q.store (any_part e.side e.variance) e.type e.term)) (sym same_met)
            (λ i d h. became_later r.store q.store (between r.store q.store at.makes one) back further agrees (any_part _ _) _ _ (at.met i d h));
      };
      became = record { value = changed_same j m y back; leaves = new_leaf; alike = alike };
    }

  -- A type that was met.
  met_came : (sd : Side) (v : Variance) (back : Assign) (r : Stage) (t x : Tree) → Reached Q start k n back r → Became start k n back r.store (any_part sd v) t x → Came Q start k n back r r (any_part sd v) t x
  met_came sd v back r t x at b = record { further = back; agrees = λ j m i. refl; makes = makes_none; reached = at; became = b }

  -- One that is met from then on.
  first_came : (sd : Side) (v : Variance) (back : Assign) (r q p : Stage) (t x : Tree) → p.store ≡ q.store → p.met ≡ record { side = sd; variance = v; type = t; term = x } ∷ q.met → Came Q start k n back r q (new_part sd v) t x → Came Q start k n back r p (any_part sd v) t x
  first_came sd v back r q p t x e d f = let b = f.became in let a = f.reached in record {
    further = f.further;
    agrees = f.agrees;
    makes = subst (MakesUnbound reach r.store) (sym e) f.makes;
    reached = record {
      leads = subst (LeadsBack Q start k n f.further) (sym e) a.leads;
      makes = subst (MakesUnbound reach start) (sym e) a.makes;
      met = subst₂ (λ st es. All (λ e. Became start k n f.further st (any_part e.side e.variance) e.type e.term) es) (sym e) (sym d)
          (All-cons (λ e. Became start k n f.further q.store (any_part e.side e.variance) e.type e.term) (record { side = sd; variance = v; type = t; term = x }) q.met
          (record { value = b.value; leaves = b.leaves; alike = b.alike }) a.met);
    };
    became = subst (λ st. Became start k n f.further st (any_part sd v) t x) (sym e) (record { value = b.value; leaves = b.leaves; alike = b.alike });
  }

  -- One part, and then the others.
  next_came : (sd : Side) (h : Head) (i : ℕ) (v : Variance) (back : Assign) (r q p : Stage) (t x ts xs : Tree) → Reached Q start k n back r →
      (f : Came Q start k n back r q (any_part sd (part_at c h i v)) t x) → Came Q start k n f.further q p (parts_from sd h (suc i) v) ts xs → Came Q start k n back r p (parts_from sd h i v) (cons t ts) (cons x xs)
  next_came sd h i v back r q p t x ts xs at f s = let b = s.became in
      let a = between r.store q.store at.makes f.makes in
      let d = became_later q.store p.store (between q.store p.store (f.reached).makes s.makes) f.further s.further s.agrees (any_part sd (part_at c h i v)) t x f.became in record {
        further = s.further;
        agrees = λ j m z. f.agrees j m z ∙ s.agrees j m ((a.later).grows j m z);
        makes = makes_then f.makes s.makes;
        reached = s.reached;
        became = record {
          value = ap₂ cons d.value b.value;
          leaves = (d.leaves, b.leaves);
          alike = λ e w z. parts_next c h i v x t xs ts e (λ y. d.alike y w.0 z.0) (b.alike e w.1 z.1);
        };
      }

  form_came : (sd sd' : Side) (h : Head) (v : Variance) (back : Assign) (r q : Stage) (ts xs : Tree) → Came Q start k n back r q (parts_from sd' h 0 v) ts xs → Came Q start k n back r q (new_part sd v) (node h ts) (node h xs)
  form_came sd sd' h v back r q ts xs f = let b = f.became in record {
    further = f.further;
    agrees = f.agrees;
    makes = f.makes;
    reached = f.reached;
    became = record { value = ap (node h) b.value; leaves = b.leaves; alike = λ e w z. parts_form h xs ts (b.alike e w.1 z) };
  }

  body_came : (sd : Side) (ks : _) (v : Variance) (back : Assign) (r q : Stage) (t x : Tree) → Came Q start k n back r q (any_part sd v) t x → Came Q start k n back r q (new_part sd v) (bind ks t) (bind ks x)
  body_came sd ks v back r q t x f = let b = f.became in record {
    further = f.further;
    agrees = f.agrees;
    makes = f.makes;
    reached = f.reached;
    became = record { value = ap (bind ks) b.value; leaves = b.leaves; alike = λ e w z. ap (bind []) (b.alike e w z) };
  }

  other_came : (sd : Side) (v : Variance) (back : Assign) (r q : Stage) (t x : Tree) → Came Q start k n back r q (new_part sd v) t x → Came Q start k n back r q (any_part sd v) t x
  other_came sd v back r q t x f = let b = f.became in record {
    further = f.further;
    agrees = f.agrees;
    makes = f.makes;
    reached = f.reached;
    became = record { value = b.value; leaves = b.leaves; alike = b.alike };
  }

  pub came : {turn : Turn} {r q : Stage} {t x : Tree} → Generalised al c start k n turn r t q x → (back : Assign) → Reached Q start k n back r → Leaves (IsSourceLeaf Q start) t → Came Q start k n back r q turn t x
  came (met_before {e = sd} {v = v} {r = r} {t = t} {x = x} s d) back at h = met_came sd v back r t x at (subst (λ e. Became start k n back r.store (any_part e.side e.variance) e.type e.term) d.2 (at.met d.0 _ d.1))
  came (met_first {e = sd} {v = v} {r = r} {q = q} {p = p} {t = t} {x = x} s new f e d) back at h = first_came sd v back r q p t x e d (came f back at h)
  came (no_type {e = sd} {v = v} {r = r} {q = q} {t = t} {x = x} s f) back at h = other_came sd v back r q t x (came f back at h)
  came (stays {e = sd} {v = v} {r = r} {l = l} o s) back at h = kept_leaf sd v back r l at h o s
  came (gives_way {e = sd} {v = v} {r = r} {q = q} {l = l} {j = j} {m = m} o s e f d) back at h = new_leaf_came sd v back r q (leaf l) j m at
      (replaced_leaf (record { was = l; other = o; is = refl; gives = e; holds = h.holds })) (gives_no_number l j e) f d (λ p w i. changed_alike v l j m s e p i)
  came (alias_gives_way {v = v} {r = r} {q = q} {a = a} {d = d} {m = m} {ts = ts} {o = o} left s f e) back at h = new_leaf_came outside v back r q (node (alias a d) ts) type_var m at
      (replaced_alias (record { kind = refl; alias_kind = a; id = d; parts = ts; is = refl; obstacle = o; stops = s; hold = Leaves_map (IsSourceLeaf Q start) Q (λ l i. i.holds) ts h })) (λ i. i) f e (λ p w i. absurd w.0)
  came (by_parts {e = sd} {v = v} {r = r} {q = q} {h = a} {ts = ts} {xs = xs} z f) back at h = form_came sd (side_in al sd a) a v back r q ts xs (came f back at h)
  came (in_binder {e = sd} {v = v} {r = r} {q = q} {ks = ks} {t = t} {x = x} f) back at h = body_came sd ks v back r q t x (came f back at h)
  came (no_parts {h = a} {i = i} {v = v} {r = r}) back at h = record { further = back; agrees = λ j m i. refl; makes = makes_none; reached = at; became = record { value = refl; leaves = tt; alike = λ e w z. parts_done a } }
  came (next_part {e = sd} {h = a} {i = i} {v = v} {r = r} {q = q} {p = p} {t = t} {x = x} {ts = ts} {xs = xs} f s) back at h =
      let first = came f back at h.0 in next_came sd a i v back r q p t x ts xs at first (came s first.further first.reached h.1)

  -- From the beginning.
  pub came_from_start : (sd : Side) (v : Variance) (q : Stage) (t x : Tree) → Generalised al c start k n (any_part sd v) (record { store = start; met = [] }) t q x → Leaves (IsSourceLeaf Q start) t → Came Q start k n (λ j m. leaf (variable j m)) (record { store = start; met = [] }) q (any_part sd v) t x
  came_from_start sd v q t x f h = came f (λ j m. leaf (variable j m)) (record {
    leads = record { old = λ j m i. refl; new = λ j m i o. absurd (o i) };
    makes = makes_none;
    met = All-nil _;
  }) h
