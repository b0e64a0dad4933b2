-- Terms in which no obstacle stands, and aliases that are left to goals.
use Rattle.std.proofs.Common.{◌≡◌, ◌≢◌, ℕ, zero, suc, ◌<◌, ◌≤◌, Some, refl, sym, ap, ◌∙◌, arith, subst, IsTrue, Bool, true, false, cond}
use Rattle.std.proofs.lemmas.Bool.{false≢true}
use Rattle.std.specs.HashSet.{HashSet, IsEmpty}
use Rattle.std.specs.List.{list_any}
use Rattle.relation_terms.specs.declared.terms.keys.TyKey.{TyKey}
use Rattle.relation_terms.specs.declared.terms.alias.AliasTy.{AliasTy}
use Rattle.relation_terms.specs.declared.terms.ty_kind.TyKind.{TyKind}
use Rattle.relation_terms.specs.declared.terms.ty_kind.TyKind.TheVariants.{Alias, Infer}
use Rattle.relation_terms.specs.declared.terms.ty_kind.InferTy.{InferTy}
use Rattle.relation_terms.specs.declared.terms.ty_kind.InferTy.TheVariants.{TyVar, IntVar, FloatVar, FreshTy, FreshIntTy, FreshFloatTy}
use Rattle.term_enums.specs.declared.Variance.{Variance}
use Rattle.relation_terms.specs.Heads.{type_sort, no_sort, region_kind, type_kind, const_kind, BoundKind, bound_kind, bound_sort, region_sort, VarKind, alias, Head, Leaf, variable, bound, placeholder, atom, unknown}
use Rattle.relation_terms.specs.Trees.{Tree, leaf, node, bind, nil, cons, Leaves, known, IsList, count, nth}
use Rattle.relation_terms.specs.Interning.{AreEqualAsTrees}
use Rattle.relation_terms.specs.Meaning.{Meaning, Extends, kind_tree, infer_tree}
use Rattle.relation_terms.specs.Parts.{tree_sort, parts_of}
use Rattle.relation_terms.proofs.Stays.{knows_as}
use Rattle.term_enums.specs.declared.StructurallyRelateAliases.{StructurallyRelateAliases}
use Rattle.term_enums.specs.declared.StructurallyRelateAliases.TheVariants.{Yes, No}
use Rattle.relation_semantics.specs.Stores.{Store}
use Rattle.relation_semantics.specs.Generalising.{Stays, gives_way_to, Side, inside, outside, cycle, beyond, IsNoObstacle, IsSeen, StopsAt, at_itself, at_placeholder}
use Rattle.relation_semantics.proofs.Lists.{firsts, firsts_all}
use Rattle.relation_semantics.proofs.GeneralisedLeaves.{clear_gives}
use Rattle.relation_reference.specs.Generalises.{IsClearFor, HasObstacle, TellsClear, IsLeftAlias, IsSeenTree, MayGoInto, AliasGivesWay, TellsGivesWay, WasClear, AreClear, IsClearInside, parts_side}
use Rattle.relation_reference.proofs.Generalising.{clear_all, stops_whole}

-- Types are looked for by their keys.
abbrev pub ty_eq : {Key : Type 0} → (Key → Key → Bool) → TyKey Key → TyKey Key → Bool
ty_eq eq x y = eq x.0 y.0

more : (b o : Bool) (P : Type 0) → (IsTrue b → P) → (o ≡ true → P) → cond b true o ≡ true → P
more true o P f g e = f refl
more false o P f g e = g e

module _ {Key Id Name : Type 0} where
  -- A set without elements has no type that isn't clear.
  pub clear_none : {S : Type 0} (eq : TyKey Key → TyKey Key → Bool) (m : Meaning Key Id Name) (k : VarKind) (n u : ℕ) (found : HashSet (TyKey Key) S) → IsEmpty found → AreClear eq m k n u found
  clear_none eq m k n u found e q h = absurd (false≢true (sym (ap (list_any (eq q)) e) ∙ h))

  -- While the interner grows.
  pub clear_grows : {S : Type 0} {m o : Meaning Key Id Name} → Extends m o → (eq : TyKey Key → TyKey Key → Bool) (k : VarKind) (n u : ℕ) (found : HashSet (TyKey Key) S) → AreClear eq m k n u found → AreClear eq o k n u found
  clear_grows {m = m} {o = o} e eq k n u found a q h =
      let w = a q h in
      record {
        key = w.key;
        same = w.same;
        there = knows_as (m.ty w.key) (o.ty w.key) (e.ty w.key w.there) w.there;
        clear = subst (IsClearFor k n u) (sym (e.ty w.key w.there)) w.clear;
      }

  -- One more was found clear.
  pub clear_more : {S : Type 0} (eq : TyKey Key → TyKey Key → Bool) (m : Meaning Key Id Name) (k : VarKind) (n u : ℕ) (old new : HashSet (TyKey Key) S) (t : TyKey Key) → IsTrue (known (m.ty t)) → IsClearFor k n u (m.ty t) →
      ((q : TyKey Key) → list_any (eq q) new.keys ≡ cond (eq t q) true (list_any (eq q) old.keys)) → AreClear eq m k n u old → AreClear eq m k n u new
  clear_more eq m k n u old new t there clear updates a q h =
      more (eq t q) (list_any (eq q) old.keys) (WasClear eq m k n u q)
      (λ s. record { key = t; same = s; there = there; clear = clear }) (a q) (sym (updates q) ∙ h)

  -- What is found is clear.
  pub found_clear : {S : Type 0} (eq : Key → Key → Bool) (m : Meaning Key Id Name) → AreEqualAsTrees m.ty (λ a b. eq a.0 b.0) → (k : VarKind) (n u : ℕ) (found : HashSet (TyKey Key) S) → AreClear (ty_eq eq) m k n u found →
      (q : TyKey Key) → IsTrue (known (m.ty q)) → (b : Bool) → b ≡ list_any (ty_eq eq q) found.keys → IsTrue b → IsClearFor k n u (m.ty q)
  found_clear eq m same k n u found a q there b e h =
      let w = a q (sym e ∙ h) in
      subst (IsClearFor k n u) ((same w.key q w.there there).0 w.same) w.clear

-- What is told of a term.
pub told_clear : (k : VarKind) (n u : ℕ) (t : Tree) (b : Bool) → TellsClear k n u t b → b ≡ true → IsClearFor k n u t
told_clear k n u t true h e = h
told_clear k n u t false h e = absurd (false≢true e)

pub told_stops : (k : VarKind) (n u : ℕ) (t : Tree) (b : Bool) → TellsClear k n u t b → b ≡ false → HasObstacle k n u t
told_stops k n u t false h e = h
told_stops k n u t true h e = absurd (false≢true (sym e))

-- The form of a type that is no alias.
infer_seen_tree : (i : InferTy) → IsSeenTree No (infer_tree i)
infer_seen_tree (TyVar v) = tt
infer_seen_tree (IntVar v) = tt
infer_seen_tree (FloatVar v) = tt
infer_seen_tree (FreshTy v) = tt
infer_seen_tree (FreshIntTy v) = tt
infer_seen_tree (FreshFloatTy v) = tt

pub kind_seen : {Key Id Name : Type 0} (m : Meaning Key Id Name) (k : TyKind Key Id Name) → ((a : AliasTy Key Id) → k ≡ Alias a → ⊥) → IsSeenTree No (kind_tree m k)
kind_seen m (Alias a) o = absurd (o a refl)
kind_seen m (Infer i) o = infer_seen_tree i
kind_seen m k o = tt

pub seen_yes : (t : Tree) → IsSeenTree Yes t
seen_yes (leaf l) = tt
seen_yes (node (alias k d) ts) = tt
seen_yes (node h ts) = tt
seen_yes (bind ks t) = tt
seen_yes nil = tt
seen_yes (cons t ts) = tt

-- A term that is no type.
pub sort_seen : (t : Tree) → (tree_sort t ≡ type_sort → ⊥) → IsSeenTree No t
sort_seen (leaf l) o = tt
sort_seen (node (alias k d) ts) o = absurd (o refl)
sort_seen (node h ts) o = tt
sort_seen (bind ks t) o = tt
sort_seen nil o = tt
sort_seen (cons t ts) o = tt

-- The parts of an alias that is left to a goal stand inside, and of all else on the side of the whole.
pub side_left : (g : StructurallyRelateAliases) (e : Side) (t : Tree) → IsLeftAlias g t → inside ≡ parts_side g e t
side_left g e t l = subst (λ z. inside ≡ parts_side z e t) (sym l.left) (subst (λ z. inside ≡ parts_side No e z) (sym l.is) refl)

seen_side : (g : StructurallyRelateAliases) (e : Side) (h : Head) (ts : Tree) → IsSeen g h → e ≡ parts_side g e (node h ts)
seen_side No e (alias k d) ts s = absurd s
seen_side Yes e (alias k d) ts s = refl
seen_side No e h ts s = refl
seen_side Yes e h ts s = refl

pub side_seen : (g : StructurallyRelateAliases) (e : Side) (t : Tree) → IsSeenTree g t → e ≡ parts_side g e t
side_seen g e (leaf l) s = refl
side_seen g e (node h ts) s = seen_side g e h ts s
side_seen g e (bind ks t) s = refl
side_seen g e nil s = refl
side_seen g e (cons t ts) s = refl

inside_form : (g : StructurallyRelateAliases) (h : Head) (ts : Tree) → inside ≡ parts_side g inside (node h ts)
inside_form No (alias k d) ts = refl
inside_form Yes (alias k d) ts = refl
inside_form No h ts = refl
inside_form Yes h ts = refl

pub side_inside : (g : StructurallyRelateAliases) (t : Tree) → inside ≡ parts_side g inside t
side_inside g (leaf l) = refl
side_inside g (node h ts) = inside_form g h ts
side_inside g (bind ks t) = refl
side_inside g nil = refl
side_inside g (cons t ts) = refl

-- A term that stands inside, or is no alias that is left to a goal, or is clear, may be gone into.
pub inside_goes : (g : StructurallyRelateAliases) (k : VarKind) (n u : ℕ) (t : Tree) → MayGoInto g k n u inside t
inside_goes g k n u (leaf l) = tt
inside_goes g k n u (node h ts) = λ st e q. absurd (cc)
inside_goes g k n u (bind ks t) = tt
inside_goes g k n u nil = tt
inside_goes g k n u (cons t ts) = tt

pub seen_goes : (g : StructurallyRelateAliases) (k : VarKind) (n u : ℕ) (e : Side) (t : Tree) → IsSeenTree g t → MayGoInto g k n u e t
seen_goes g k n u e (leaf l) s = tt
seen_goes g k n u e (node h ts) s = λ st q z o. absurd (o s)
seen_goes g k n u e (bind ks t) s = tt
seen_goes g k n u e nil s = tt
seen_goes g k n u e (cons t ts) s = tt

pub clear_goes : (g : StructurallyRelateAliases) (k : VarKind) (n u : ℕ) (e : Side) (t : Tree) → IsClearFor k n u t → MayGoInto g k n u e t
clear_goes g k n u e (leaf l) c = tt
clear_goes g k n u e (node h ts) c = λ st q z o. c st q
clear_goes g k n u e (bind ks t) c = tt
clear_goes g k n u e nil c = tt
clear_goes g k n u e (cons t ts) c = tt

-- An obstacle at the term itself.
pub cycle_stops : (k : VarKind) (n u : ℕ) (t : Tree) → t ≡ leaf (variable k n) → HasObstacle k n u t
cycle_stops k n u t e st q = (cycle, subst (StopsAt Yes st k n cycle) (sym e) (at_itself refl refl))

pub beyond_stops : (k : VarKind) (n u : ℕ) (t : Tree) (b : BoundKind) (w i : ℕ) → t ≡ leaf (placeholder b w i) → bound_sort b ≢ region_sort → u < w → HasObstacle k n u t
beyond_stops k n u t b w i e o l st q = (beyond, subst (StopsAt Yes st k n beyond) (sym e) (at_placeholder refl o (subst (λ z. z < w) (sym q) l)))

-- A leaf that stays, or gives way, is none.
pub stays_clear : (st : Store) (k : VarKind) (n u : ℕ) (v : Variance) (l : Leaf) → l ≢ variable k n → Stays st u v l → IsClearFor k n u (leaf l)
stays_clear st k n u v (variable j m) o s now q = o
stays_clear st k n u v (bound b d i) o s now q = tt
stays_clear st k n u v (placeholder (bound_kind region_kind x) w i) o s now q = tt
stays_clear st k n u v (placeholder (bound_kind type_kind x) w i) o s now q = subst (λ z. w ≤ z) (sym q) s
stays_clear st k n u v (placeholder (bound_kind const_kind x) w i) o s now q = subst (λ z. w ≤ z) (sym q) s
stays_clear st k n u v (atom x) o s now q = tt
stays_clear st k n u v unknown o s now q = tt

pub gives_clear : (k : VarKind) (n u : ℕ) (l : Leaf) (j : VarKind) → l ≢ variable k n → gives_way_to l ≡ Some j → IsClearFor k n u (leaf l)
gives_clear k n u l j o e now q = clear_gives now k n l j o e

pub same_leaf : (k : VarKind) (n u : ℕ) (a b : Leaf) (t : Tree) → t ≡ leaf a → t ≡ leaf b → IsClearFor k n u (leaf a) → IsClearFor k n u (leaf b)
same_leaf k n u a b t p q c = subst (IsClearFor k n u) (sym p ∙ q) c

-- The parts of a term, one after another.
first_leaves : (P : Leaf → Type 0) (j : ℕ) (ts : Tree) → j < count ts → Leaves P (firsts j ts) → Leaves P (nth j ts) → Leaves P (firsts (suc j) ts)
first_leaves P zero (cons t ts) h a b = (b, tt)
first_leaves P (suc j) (cons t ts) h a b = (a.0, first_leaves P j ts (omega (arith, h)) a.1 b)
first_leaves P j (leaf l) h a b = absurd (omega (arith, h))
first_leaves P j (node g ts) h a b = absurd (omega (arith, h))
first_leaves P j (bind ks t) h a b = absurd (omega (arith, h))
first_leaves P j nil h a b = absurd (omega (arith, h))

pub parts_clear_next : (k : VarKind) (n u j i : ℕ) (ts z : Tree) → j < count ts → IsClearFor k n u (firsts j ts) → z ≡ nth j ts → IsClearFor k n u z → i ≡ suc j → IsClearFor k n u (firsts i ts)
parts_clear_next k n u j i ts z h a at c e st q = subst (λ y. Leaves (IsNoObstacle st k n) (firsts y ts)) (sym e)
    (first_leaves (IsNoObstacle st k n) j ts h (a st q) (subst (Leaves (IsNoObstacle st k n)) at (c st q)))

-- An obstacle in a part.
pub part_stops : (k : VarKind) (n u j : ℕ) (t z : Tree) → j < count (parts_of t) → IsClearFor k n u (firsts j (parts_of t)) → z ≡ nth j (parts_of t) → HasObstacle k n u z → HasObstacle k n u t
part_stops k n u j t z h a at o st q =
    let s = o st q in (
      s.0,
      stops_whole outside t j h (clear_all Yes st k n (firsts j (parts_of t)) (a st q))
          (subst (λ e. IsClearInside e st k n (parts_of t)) (side_seen Yes outside t (seen_yes t)) tt)
          (subst (StopsAt Yes st k n s.0) at s.1),
    )

-- None in all of them.
pub whole_clear : (k : VarKind) (n u j : ℕ) (t : Tree) → (tree_sort t ≡ no_sort → ⊥) → IsList (parts_of t) → j ≡ count (parts_of t) → ((l : Leaf) → t ≡ leaf l → IsClearFor k n u (leaf l)) → IsClearFor k n u (firsts j (parts_of t)) → IsClearFor k n u t
whole_clear k n u j (leaf l) s is e f a = f l refl
whole_clear k n u j (node h ts) s is e f a = λ st q. subst (Leaves (IsNoObstacle st k n)) (ap (λ y. firsts y ts) e ∙ firsts_all ts is) (a st q)
whole_clear k n u j (bind ks t) s is e f a = λ st q. (subst (λ y. Leaves (IsNoObstacle st k n) (firsts y (cons t nil))) e (a st q)).0
whole_clear k n u j nil s is e f a = absurd (s refl)
whole_clear k n u j (cons t ts) s is e f a = absurd (s refl)

-- What is told of an alias, which is a type.
pub told_gives_way : (g : StructurallyRelateAliases) (k : VarKind) (n u : ℕ) (e : Side) (t : Tree) (b : Bool) → TellsGivesWay g k n u e t b → b ≡ true → AliasGivesWay g k n u e t
told_gives_way g k n u e t true h q = h
told_gives_way g k n u e t false h q = absurd (false≢true q)

pub alias_sort : (g : StructurallyRelateAliases) (t : Tree) → IsLeftAlias g t → tree_sort t ≡ type_sort
alias_sort g t l = ap tree_sort l.is
