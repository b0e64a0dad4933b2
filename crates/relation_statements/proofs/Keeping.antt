-- What predicates imply binds at places of its lists, where they and what traits state do.
use Rattle.std.proofs.Common.{ℕ, suc, zero, ◌+◌, ◌<◌, ◌≡◌, refl, sym, ap, ◌∙◌, subst, arith, length-append}
use Rattle.std.proofs.Common.{nat_eq, nat_lt, Bool, true, false, cond, not, ◌&&◌, List, [], map, length, Option, Some}
use Rattle.std.proofs.Common.{None}
use Rattle.std.proofs.lemmas.Bool.{false≢true, eqb-true, le-ltb, or_parts}
use Rattle.std.specs.List.{Contains}
use Rattle.term_enums.specs.declared.PredicatePolarity.TheVariants.{Positive}
use Rattle.term_enums.specs.declared.BoundConstness.{BoundConstness}
use Rattle.relation_terms.specs.Heads.{Kind, type_kind, region_kind, const_kind, BoundKind, bound_kind, variable, Head}
use Rattle.relation_terms.specs.Heads.{bound, placeholder, atom, unknown, leaf_sort, type_param, early_region}
use Rattle.relation_terms.specs.Heads.{const_param, Atom, atom_sort, trait_ref, trait_clause, host_effect}
use Rattle.relation_terms.specs.Heads.{type_outlives}
use Rattle.relation_terms.specs.Trees.{Tree, leaf, node, bind, nil, cons}
use Rattle.relation_terms.specs.Parts.{tree_sort}
use Rattle.relation_folds.specs.Folds.{folded, put_or, asks}
use Rattle.relation_folds.specs.Shifts.{shifted, standing, is_for}
use Rattle.relation_folds.specs.Visits.{has_leaf, is_escaping}
use Rattle.outlives_assumptions.specs.Assumptions.{assumed_parts}
use Rattle.relation_terms.specs.Owned.{AreWithin, BindsWithin}
use Rattle.relation_statements.specs.Stated.{member, stands_for, stated_of}
use Rattle.relation_statements.specs.Children.{Statements, Mode, named_by, trait_ref_of, trait_of, effect_of}
use Rattle.relation_statements.specs.Children.{is_bound, outlives}
use Rattle.relation_statements.specs.Children.{of_trait, of_effect, of_outlives, of_form, children}
use Rattle.relation_statements.specs.Closure.{Follows}
use Rattle.relation_statements.specs.Closure.Follows.{given_one, implied_by}
use Rattle.relation_statements.specs.Runs.{StatesWithin}
use Rattle.relation_folds.proofs.Folding.{put_none}
use Rattle.relation_statements.proofs.Moving.{within_shifted}
use Rattle.relation_statements.proofs.Stating.{own_bound, stated_node}
use Rattle.relation_statements.proofs.Implying.{escapes_not}
use Rattle.elaboration_worklist.proofs.Members.{none_in, from_map}

module _ (n m : ℕ) where
  more_bound : (b : Bool) (i : ℕ) → cond b (i < n) (Unit {0}) → cond b (i < n + m) (Unit {0})
  more_bound true i w = omega (arith, w)
  more_bound false i w = tt

  more : (e : ℕ) (t : Tree) → AreWithin n e t → AreWithin (n + m) e t
  more e (leaf (bound (bound_kind k x) d i)) w = more_bound (nat_eq d e) i w
  more e (leaf (variable k x)) w = tt
  more e (leaf (placeholder k u x)) w = tt
  more e (leaf (atom x)) w = tt
  more e (leaf unknown) w = tt
  more e (node h ts) w = more e ts w
  more e (bind ks t) w = more (suc e) t w
  more e nil w = tt
  more e (cons t ts) w = (more e t w.0, more e ts w.1)

  module _ (xs : Tree) (args : AreWithin n 0 xs) where
    abbrev IsIn : Option Tree → Type 0
    IsIn (Some x) = AreWithin n 0 x
    IsIn None = Unit {0}

    members_in : (xs : Tree) (i : ℕ) → AreWithin n 0 xs → IsIn (member xs i)
    members_in (cons x xs) zero w = w.0
    members_in (cons x xs) (suc i) w = members_in xs i w.1
    members_in (leaf l) i w = tt
    members_in (node h ts) i w = tt
    members_in (bind ks t) i w = tt
    members_in nil i w = tt

    put_in : (k : Kind) (depth : ℕ) (x : Atom) (o : Option Tree) → IsIn o →
        AreWithin (n + m) depth (put_or true (standing k depth o) (leaf (atom x)))
    put_in k depth x (Some y) w = by_cases (is_for k (tree_sort y))
      where
        by_cases : (b : Bool) → AreWithin (n + m) depth (put_or true (cond b (Some (shifted depth y)) None) (leaf
            (atom x)))
        by_cases true = more depth (shifted depth y) (within_shifted n depth y w)
        by_cases false = tt
    put_in k depth x None w = tt

    atom_in : (depth : ℕ) (x : Atom) → AreWithin (n + m) depth (folded (stands_for n xs) depth (leaf (atom x)))
    atom_in depth (type_param i x) = put_in type_kind depth (type_param i x) (member xs i) (members_in xs i args)
    atom_in depth (early_region i x) = put_in region_kind depth (early_region i x) (member xs i) (members_in xs i args)
    atom_in depth (const_param i x) = put_in const_kind depth (const_param i x) (member xs i) (members_in xs i args)
    atom_in depth x = subst (λ z. AreWithin (n + m) depth z) (sym (put_none (asks (atom_sort x)) (leaf (atom x)))) tt

    bound_in : (b : Bool) (i : ℕ) → cond b (i < m) (Unit {0}) → cond b (cond b (n + i) i < n + m) (Unit {0})
    bound_in true i w = omega (arith, w)
    bound_in false i w = tt

    pub within_stated : (depth : ℕ) (c : Tree) → AreWithin m depth c →
        AreWithin (n + m) depth (folded (stands_for n xs) depth c)
    within_stated depth (leaf (bound (bound_kind k x) d i)) w =
        subst (λ z. AreWithin (n + m) depth z) (sym (own_bound n xs depth k x d i)) (bound_in (nat_eq d depth) i w)
    within_stated depth (leaf (atom x)) w = atom_in depth x
    within_stated depth (leaf (variable k x)) w =
        subst (λ z. AreWithin (n + m) depth z) (sym (put_none (asks (leaf_sort (variable k x))) (leaf (variable k
        x)))) tt
    within_stated depth (leaf (placeholder k u x)) w =
        subst (λ z. AreWithin (n + m) depth z)
        (sym (put_none (asks (leaf_sort (placeholder k u x))) (leaf (placeholder k u x)))) tt
    within_stated depth (leaf unknown) w = tt
    within_stated depth (node h ts) w =
        subst (λ z. AreWithin (n + m) depth z) (sym (stated_node n xs depth h ts)) (within_stated depth ts w)
    within_stated depth (bind ks t) w = within_stated (suc depth) t w
    within_stated depth nil w = tt
    within_stated depth (cons t ts) w = (within_stated depth t w.0, within_stated depth ts w.1)

stated_within : (ks : List BoundKind) (xs c : Tree) → AreWithin (length ks) 0 xs → BindsWithin c →
    BindsWithin (stated_of ks xs c)
stated_within ks xs (bind cs c) w b =
    subst (λ n. AreWithin n 0 (folded (stands_for (length ks) xs) 0 c)) (sym (length-append ks cs))
    (within_stated (length ks) (length cs) xs w 0 c b)
stated_within ks xs (leaf l) w b = tt
stated_within ks xs (node h ts) w b = tt
stated_within ks xs nil w b = tt
stated_within ks xs (cons t ts) w b = tt

effect_within : (e : BoundConstness) (c : Tree) → BindsWithin c → BindsWithin (effect_of e c)
effect_within e (bind cs t) b = (b, tt)
effect_within e (leaf l) b = tt
effect_within e (node h ts) b = tt
effect_within e nil b = tt
effect_within e (cons t ts) b = tt

-- What no variable escapes has none of any binder around it.
module _ (n : ℕ) where
  further : (j x : ℕ) → suc j + x ≡ suc (j + x)
  further j x = omega arith

  closed_bound : (j x d i : ℕ) (b : Bool) → nat_eq d (j + x) ≡ b → not (nat_lt d j) ≡ false → cond b (i < n) (Unit {0})
  closed_bound j x d i true q c =
      let at : d ≡ j + x = eqb-true d (j + x) q in
      absurd (false≢true (sym c ∙ ap not (le-ltb d j (omega (arith, at)))))
  closed_bound j x d i false q c = tt

  closed_within : (j x : ℕ) (t : Tree) → has_leaf is_escaping j t ≡ false → AreWithin n (j + x) t
  closed_within j x (leaf (bound (bound_kind k y) d i)) c = closed_bound j x d i (nat_eq d (j + x)) refl c
  closed_within j x (leaf (variable k y)) c = tt
  closed_within j x (leaf (placeholder k u y)) c = tt
  closed_within j x (leaf (atom y)) c = tt
  closed_within j x (leaf unknown) c = tt
  closed_within j x (node h ts) c = closed_within j x ts c
  closed_within j x (bind ks t) c = subst (λ z. AreWithin n z t) (further j x) (closed_within (suc j) x t c)
  closed_within j x nil c = tt
  closed_within j x (cons t ts) c =
      let z = or_parts (has_leaf is_escaping j t) (has_leaf is_escaping j ts) c in
      (closed_within j x t z.0, closed_within j x ts z.1)

-- The arguments of the trait that a clause names.
module _ (n : ℕ) where
  abbrev IsNamedIn : Option (ℕ × Tree) → Type 0
  IsNamedIn (Some x) = AreWithin n 0 x.1
  IsNamedIn None = Unit {0}

  named_in : (h : Head) (ts : Tree) → AreWithin n 0 ts → IsNamedIn (named_by h ts)
  named_in (trait_ref d) ts w = w
  named_in h ts w = tt

  ref_in : (t : Tree) → AreWithin n 0 t → IsNamedIn (trait_ref_of t)
  ref_in (node h ts) w = named_in h ts w
  ref_in (leaf l) w = tt
  ref_in (bind ks t) w = tt
  ref_in nil w = tt
  ref_in (cons t ts) w = tt

  trait_in : (ts : Tree) → AreWithin n 0 ts → IsNamedIn (trait_of ts)
  trait_in (cons t nil) w = ref_in t w.0
  trait_in (cons t (leaf l)) w = tt
  trait_in (cons t (node h ts)) w = tt
  trait_in (cons t (bind ks r)) w = tt
  trait_in (cons t (cons r rs)) w = tt
  trait_in (leaf l) w = tt
  trait_in (node h ts) w = tt
  trait_in (bind ks t) w = tt
  trait_in nil w = tt

module _ (s : Statements) (mode : Mode) (states : StatesWithin s) (ks : List BoundKind) where
  abbrev AllIn : List Tree → Type 0
  AllIn cs = (c : Tree) → Contains cs c → BindsWithin c

  mapped_in : (f : Tree → Tree) (cs : List Tree) → ((x : Tree) → Contains cs x → BindsWithin (f x)) → AllIn (map f cs)
  mapped_in f cs h c k = let r = from_map f cs c k in subst BindsWithin r.2 (h r.0 r.1)

  listed_in : (b : Bool) (d : ℕ) → AllIn (cond b (s.supers d) (s.implied d))
  listed_in true d = states.supers d
  listed_in false d = states.implied d

  of_trait_in : (o : Option (ℕ × Tree)) → IsNamedIn (length ks) o → AllIn (of_trait s mode ks o)
  of_trait_in (Some x) w = by_cases (s.is_sized x.0 && not mode.sized)
    where
      by_cases : (b : Bool) → AllIn (cond b [] (map (stated_of ks x.1) (cond mode.only_self (s.supers x.0) (s.implied
          x.0))))
      by_cases true = λ c h. absurd (none_in c h)
      by_cases false = mapped_in (stated_of ks x.1) (cond mode.only_self (s.supers x.0) (s.implied x.0))
          (λ c h. stated_within ks x.1 c w (listed_in mode.only_self x.0 c h))
  of_trait_in None w = λ c h. absurd (none_in c h)

  of_effect_in : (e : BoundConstness) (o : Option (ℕ × Tree)) → IsNamedIn (length ks) o → AllIn (of_effect s mode e ks
      o)
  of_effect_in e (Some x) w = mapped_in (λ b. stated_of ks x.1 (effect_of e b)) (s.bounds x.0)
      (λ c h. stated_within ks x.1 (effect_of e c) w (effect_within e c (states.bounds x.0 c h)))
  of_effect_in e None w = λ c h. absurd (none_in c h)

  of_outlives_in : (ts : Tree) → AreWithin (length ks) 0 ts → AllIn (of_outlives s mode ks ts)
  of_outlives_in (cons t (cons r nil)) w = by_cases (is_bound r)
    where
      by_cases : (b : Bool) → AllIn (cond b [] (map (λ u. bind ks (outlives u r)) (assumed_parts t)))
      by_cases true = λ c h. absurd (none_in c h)
      by_cases false = mapped_in (λ u. bind ks (outlives u r)) (assumed_parts t)
          (λ y h. (closed_within (length ks) 0 0 y (escapes_not t y h), ((w.1).0, tt)))
  of_outlives_in (cons t (cons r (leaf l))) w = λ c h. absurd (none_in c h)
  of_outlives_in (cons t (cons r (node g rs))) w = λ c h. absurd (none_in c h)
  of_outlives_in (cons t (cons r (bind js x))) w = λ c h. absurd (none_in c h)
  of_outlives_in (cons t (cons r (cons x xs))) w = λ c h. absurd (none_in c h)
  of_outlives_in (cons t (leaf l)) w = λ c h. absurd (none_in c h)
  of_outlives_in (cons t (node g rs)) w = λ c h. absurd (none_in c h)
  of_outlives_in (cons t (bind js x)) w = λ c h. absurd (none_in c h)
  of_outlives_in (cons t nil) w = λ c h. absurd (none_in c h)
  of_outlives_in (leaf l) w = λ c h. absurd (none_in c h)
  of_outlives_in (node g rs) w = λ c h. absurd (none_in c h)
  of_outlives_in (bind js x) w = λ c h. absurd (none_in c h)
  of_outlives_in nil w = λ c h. absurd (none_in c h)

  of_form_in : (h : Head) (ts : Tree) → AreWithin (length ks) 0 ts → AllIn (of_form s mode ks h ts)
  of_form_in (trait_clause Positive) ts w = of_trait_in (trait_of ts) (trait_in (length ks) ts w)
  of_form_in (host_effect e) ts w = of_effect_in e (trait_of ts) (trait_in (length ks) ts w)
  of_form_in type_outlives ts w = of_outlives_in ts w
  of_form_in h ts w = λ c k. absurd (none_in c k)

module _ (s : Statements) (mode : Mode) (states : StatesWithin s) where
  pub child_within : (p c : Tree) → BindsWithin p → Contains (children s mode p) c → BindsWithin c
  child_within (bind ks (node h ts)) c w k = of_form_in s mode states ks h ts w c k
  child_within (bind ks (leaf l)) c w k = absurd (none_in c k)
  child_within (bind ks (bind js t)) c w k = absurd (none_in c k)
  child_within (bind ks nil) c w k = absurd (none_in c k)
  child_within (bind ks (cons t ts)) c w k = absurd (none_in c k)
  child_within (leaf l) c w k = absurd (none_in c k)
  child_within (node h ts) c w k = absurd (none_in c k)
  child_within nil c w k = absurd (none_in c k)
  child_within (cons t ts) c w k = absurd (none_in c k)

  module _ (given : List Tree) (all : (g : Tree) → Contains given g → BindsWithin g) where
    pub follows_within : (p : Tree) → Follows s mode given p → BindsWithin p
    follows_within _ (given_one p h) = all p h
    follows_within _ (implied_by p c f h) = child_within p c (follows_within p f) h
