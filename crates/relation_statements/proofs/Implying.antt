-- Renamings of one predicate imply renamings of one another.
use Rattle.std.proofs.Common.{ℕ, ◌≡◌, refl, sym, ap, subst, arith, inl, inr}
use Rattle.std.proofs.Common.{nat_eq, Bool, true, false, cond, not, ◌&&◌, List, [], ◌∷◌, map, length, Option, Some}
use Rattle.std.proofs.Common.{None}
use Rattle.std.proofs.lemmas.Bool.{false≢true, and_parts, not-true}
use Rattle.std.proofs.lemmas.List.Elements.{All-nil, filter_passes, All-contains, Contains-append_cases}
use Rattle.std.proofs.lemmas.List.Elements.{Contains-append_left}
use Rattle.std.proofs.lemmas.List.Elements.{Contains-append_right, Contains-push, Contains-push_cases}
use Rattle.std.specs.List.{Contains, All, filter}
use Rattle.term_enums.specs.declared.PredicatePolarity.TheVariants.{Positive}
use Rattle.term_enums.specs.declared.BoundConstness.{BoundConstness}
use Rattle.relation_terms.specs.Heads.{Kind, BoundKind, bound_kind, variable, Head, bound, placeholder, atom, unknown}
use Rattle.relation_terms.specs.Heads.{trait_ref, trait_clause, host_effect, type_outlives}
use Rattle.relation_terms.specs.Trees.{Tree, leaf, node, bind, nil, cons}
use Rattle.relation_terms.specs.Parts.{tree_sort}
use Rattle.relation_terms.specs.Closures.{is_type_sort}
use Rattle.relation_folds.specs.Visits.{has_leaf, is_escaping, bound_var_escapes}
use Rattle.anonymize.specs.Renamings.{Moved, AreRenamings}
use Rattle.component_parts.specs.Components.{every, components}
use Rattle.outlives_assumptions.specs.Assumptions.{is_assumed, is_unresolved, assumed_parts}
use Rattle.relation_terms.specs.Owned.{AreWithin}
use Rattle.relation_statements.specs.Stated.{stated_of}
use Rattle.relation_statements.specs.Children.{Statements, Mode, named_by, trait_ref_of, trait_of, effect_of}
use Rattle.relation_statements.specs.Children.{is_bound, outlives}
use Rattle.relation_statements.specs.Children.{of_trait, of_effect, of_outlives, of_form, children}
use Rattle.relation_statements.specs.Closure.{AreSame, HasSame}
use Rattle.relation_statements.specs.Laws.{RenamingsImplyRenamings}
use Rattle.elaboration_worklist.proofs.Members.{none_in}
use Rattle.relation_statements.proofs.Stating.{stated_same}
use Rattle.relation_statements.proofs.Parting.{assumed_moved, closed_itself}

-- A list made of another one by two functions that agree but for renaming.
mapped_same : (f g : Tree → Tree) (cs : List Tree) → ((x : Tree) → Contains cs x → AreSame (g x) (f x)) → (c : Tree) →
    Contains (map f cs) c → HasSame (map g cs) c
mapped_same f g [] same c h = absurd (none_in c h)
mapped_same f g (x ∷ xs) same c h = elim (Contains-append_cases (f x ∷ []) (map f xs) c h) [
  | inl first ↦ elim (Contains-push_cases [] (f x) c first) [
    | inl none ↦ absurd (none_in c none)
    | inr is ↦ (
      g x,
      Contains-append_left (g x ∷ []) (map g xs) (g x) (Contains-push [] (g x)),
      subst (λ z. AreSame (g x) z) is (same x (Contains-append_left (x ∷ []) xs x (Contains-push [] x))),
    )
  ]
  | inr later ↦ (
      let r = mapped_same f g xs (λ y k. same y (Contains-append_right (x ∷ []) xs y k)) c later in
      (r.0, Contains-append_right (g x ∷ []) (map g xs) r.0 r.1, r.2)
      )
]

module _ (to back : Kind → ℕ → ℕ) (n p : ℕ) where
  -- Each is the other with variables moved, at places of both lists.
  abbrev Both : Tree → Tree → Type 0
  Both t u = Moved to 0 t u × Moved back 0 u t × AreWithin n 0 t × AreWithin p 0 u

  abbrev Named : Option (ℕ × Tree) → Option (ℕ × Tree) → Type 0
  Named (Some x) (Some y) = (y.0 ≡ x.0) × Both x.1 y.1
  Named None None = Unit {0}
  Named o q = ⊥

  named_both : (h : Head) (ts us : Tree) → Both ts us → Named (named_by h ts) (named_by h us)
  named_both (trait_ref d) ts us b = (refl, b)
  named_both h ts us b = tt

  ref_both : (t u : Tree) → Both t u → Named (trait_ref_of t) (trait_ref_of u)
  ref_both (node h ts) (node g us) b =
      subst (λ z. Named (named_by h ts) (named_by z us)) (sym (b.0).0)
      (named_both h ts us ((b.0).1, (b.1).1, b.2, b.3))
  ref_both (leaf l) (leaf m) b = tt
  ref_both (bind ks t) (bind ls u) b = tt
  ref_both nil nil b = tt
  ref_both (cons t ts) (cons u us) b = tt
  ref_both t u b = absurd b.0

  trait_both : (ts us : Tree) → Both ts us → Named (trait_of ts) (trait_of us)
  trait_both (cons t nil) (cons u nil) b = ref_both t u ((b.0).0, (b.1).0, (b.2).0, (b.3).0)
  trait_both (cons t (leaf l)) (cons u (leaf m)) b = tt
  trait_both (cons t (node h ts)) (cons u (node g us)) b = tt
  trait_both (cons t (bind ks r)) (cons u (bind ls s)) b = tt
  trait_both (cons t (cons r rs)) (cons u (cons s ss)) b = tt
  trait_both (cons t r) (cons u s) b = absurd (b.0).1
  trait_both (leaf l) (leaf m) b = tt
  trait_both (node h ts) (node g us) b = tt
  trait_both (bind ks t) (bind ls u) b = tt
  trait_both nil nil b = tt
  trait_both ts us b = absurd b.0

  renamings : (t u : Tree) → Both t u → AreRenamings t u
  renamings t u b = record { to = to; back = back; there = b.0; again = b.1 }

  other_way : (t u : Tree) → Both t u → AreRenamings u t
  other_way t u b = record { to = back; back = to; there = b.1; again = b.0 }

is_bound_moved : (to : Kind → ℕ → ℕ) (r q : Tree) → Moved to 0 r q → is_bound q ≡ is_bound r
is_bound_moved to (leaf (bound (bound_kind k n) d i)) (leaf m) p = by_cases (nat_eq d 0) p
  where
    by_cases : (b : Bool) → cond b ((x : ℕ) × (m ≡ bound (bound_kind k x) d (to k i))) (m ≡ bound (bound_kind k n) d
        i) →
        is_bound (leaf m) ≡ true
    by_cases true q = ap (λ z. is_bound (leaf z)) q.1
    by_cases false q = ap (λ z. is_bound (leaf z)) q
is_bound_moved to (leaf (variable k n)) (leaf m) p = ap (λ z. is_bound (leaf z)) p
is_bound_moved to (leaf (placeholder k u n)) (leaf m) p = ap (λ z. is_bound (leaf z)) p
is_bound_moved to (leaf (atom x)) (leaf m) p = ap (λ z. is_bound (leaf z)) p
is_bound_moved to (leaf unknown) (leaf m) p = ap (λ z. is_bound (leaf z)) p
is_bound_moved to (node h ts) (node g us) p = refl
is_bound_moved to (bind ks t) (bind ls u) p = refl
is_bound_moved to nil nil p = refl
is_bound_moved to (cons t ts) (cons u us) p = refl
is_bound_moved to r q p = absurd p

-- No variable escapes an assumption of its own.
closed : (t : Tree) → All (λ y. is_assumed y ≡ true) (assumed_parts t)
closed t = by_cases (is_type_sort (tree_sort t))
  where
    by_cases : (b : Bool) → All (λ y. is_assumed y ≡ true) (cond b (filter is_assumed (components every t)) [])
    by_cases true = filter_passes is_assumed (components every t)
    by_cases false = All-nil (λ y. is_assumed y ≡ true)

pub escapes_not : (t y : Tree) → Contains (assumed_parts t) y → has_leaf is_escaping 0 y ≡ false
escapes_not t y h =
    let passes = All-contains (λ y. is_assumed y ≡ true) (assumed_parts t) y (closed t) h in
    not-true (bound_var_escapes y) (and_parts (not (is_unresolved y)) (not (bound_var_escapes y)) passes).1

module _ (s : Statements) (mode : Mode) (ks ls : List BoundKind) (to back : Kind → ℕ → ℕ) where
  abbrev Implies : List Tree → List Tree → Type 0
  Implies xs ys = (c : Tree) → Contains xs c → HasSame ys c

  stated_both : (x y : Tree) → Both to back (length ks) (length ls) x y → (c : Tree) →
      AreSame (stated_of ls y c) (stated_of ks x c)
  stated_both x y b c = stated_same ls ks y x c (other_way to back (length ks) (length ls) x y b) b.3 b.2

  trait_implies : (o q : Option (ℕ × Tree)) → Named to back (length ks) (length ls) o q →
      Implies (of_trait s mode ks o) (of_trait s mode ls q)
  trait_implies (Some x) (Some y) b =
      subst (λ d. Implies (of_trait s mode ks (Some x)) (cond (s.is_sized d && not mode.sized) []
      (map (stated_of ls y.1) (cond mode.only_self (s.supers d) (s.implied d))))) (sym b.0)
      (by_cases (s.is_sized x.0 && not mode.sized))
    where
      by_cases : (t : Bool) →
          Implies (cond t [] (map (stated_of ks x.1) (cond mode.only_self (s.supers x.0) (s.implied x.0))))
          (cond t [] (map (stated_of ls y.1) (cond mode.only_self (s.supers x.0) (s.implied x.0))))
      by_cases true = λ c h. absurd (none_in c h)
      by_cases false = mapped_same (stated_of ks x.1) (stated_of ls y.1)
          (cond mode.only_self (s.supers x.0) (s.implied x.0)) (λ c h. stated_both x.1 y.1 b.1 c)
  trait_implies None None b = λ c h. absurd (none_in c h)
  trait_implies (Some x) None b = absurd b
  trait_implies None (Some y) b = absurd b

  effect_implies : (e : BoundConstness) (o q : Option (ℕ × Tree)) → Named to back (length ks) (length ls) o q →
      Implies (of_effect s mode e ks o) (of_effect s mode e ls q)
  effect_implies e (Some x) (Some y) b =
      subst (λ d. Implies (of_effect s mode e ks (Some x)) (map (λ z. stated_of ls y.1 (effect_of e z)) (s.bounds d)))
      (sym b.0)
      (mapped_same (λ z. stated_of ks x.1 (effect_of e z)) (λ z. stated_of ls y.1 (effect_of e z)) (s.bounds x.0)
      (λ c h. stated_both x.1 y.1 b.1 (effect_of e c)))
  effect_implies e None None b = λ c h. absurd (none_in c h)
  effect_implies e (Some x) None b = absurd b
  effect_implies e None (Some y) b = absurd b

  outlives_implies : (t u r q : Tree) → Both to back (length ks) (length ls) t u → Both to back (length ks) (length
      ls) r q →
      Implies (of_outlives s mode ks (cons t (cons r nil))) (of_outlives s mode ls (cons u (cons q nil)))
  outlives_implies t u r q b a =
      subst (λ xs. Implies (of_outlives s mode ks (cons t (cons r nil))) (cond (is_bound q) [] (map (λ y. bind ls
      (outlives y q)) xs)))
      (sym (assumed_moved to t u b.0))
      (subst (λ z. Implies (of_outlives s mode ks (cons t (cons r nil)))
      (cond z [] (map (λ y. bind ls (outlives y q)) (assumed_parts t)))) (sym (is_bound_moved to r q a.0))
      (by_cases (is_bound r)))
    where
      by_cases : (z : Bool) → Implies (cond z [] (map (λ y. bind ks (outlives y r)) (assumed_parts t)))
          (cond z [] (map (λ y. bind ls (outlives y q)) (assumed_parts t)))
      by_cases true = λ c h. absurd (none_in c h)
      by_cases false = mapped_same (λ y. bind ks (outlives y r)) (λ y. bind ls (outlives y q)) (assumed_parts t)
          (λ y h. record {
            to = back;
            back = to;
            there = (refl, (closed_itself back 0 0 y (escapes_not t y h), (a.1, tt)));
            again = (refl, (closed_itself to 0 0 y (escapes_not t y h), (a.0, tt)));
          })

  outlives_both : (ts us : Tree) → Both to back (length ks) (length ls) ts us →
      Implies (of_outlives s mode ks ts) (of_outlives s mode ls us)
  outlives_both (cons t (cons r nil)) (cons u (cons q nil)) b =
      outlives_implies t u r q ((b.0).0, (b.1).0, (b.2).0, (b.3).0)
      (((b.0).1).0, ((b.1).1).0, ((b.2).1).0, ((b.3).1).0)
  outlives_both (cons t (cons r nil)) (cons u (cons q x)) b = absurd ((b.0).1).1
  outlives_both (cons t (cons r nil)) (cons u x) b = absurd (b.0).1
  outlives_both (cons t (cons r nil)) x b = absurd b.0
  outlives_both (cons t (cons r (leaf l))) us b = λ c h. absurd (none_in c h)
  outlives_both (cons t (cons r (node g rs))) us b = λ c h. absurd (none_in c h)
  outlives_both (cons t (cons r (bind js x))) us b = λ c h. absurd (none_in c h)
  outlives_both (cons t (cons r (cons x xs))) us b = λ c h. absurd (none_in c h)
  outlives_both (cons t (leaf l)) us b = λ c h. absurd (none_in c h)
  outlives_both (cons t (node g rs)) us b = λ c h. absurd (none_in c h)
  outlives_both (cons t (bind js x)) us b = λ c h. absurd (none_in c h)
  outlives_both (cons t nil) us b = λ c h. absurd (none_in c h)
  outlives_both (leaf l) us b = λ c h. absurd (none_in c h)
  outlives_both (node g rs) us b = λ c h. absurd (none_in c h)
  outlives_both (bind js x) us b = λ c h. absurd (none_in c h)
  outlives_both nil us b = λ c h. absurd (none_in c h)

  form_implies : (h : Head) (ts us : Tree) → Both to back (length ks) (length ls) ts us →
      Implies (of_form s mode ks h ts) (of_form s mode ls h us)
  form_implies (trait_clause Positive) ts us b =
      trait_implies (trait_of ts) (trait_of us) (trait_both to back (length ks) (length ls) ts us b)
  form_implies (host_effect e) ts us b =
      effect_implies e (trait_of ts) (trait_of us) (trait_both to back (length ks) (length ls) ts us b)
  form_implies type_outlives ts us b = outlives_both ts us b
  form_implies h ts us b = λ c k. absurd (none_in c k)

  children_imply : (t u : Tree) → Both to back (length ks) (length ls) t u →
      Implies (children s mode (bind ks t)) (children s mode (bind ls u))
  children_imply (node h ts) (node g us) b =
      subst (λ z. Implies (of_form s mode ks h ts) (of_form s mode ls z us)) (sym (b.0).0)
      (form_implies h ts us ((b.0).1, (b.1).1, b.2, b.3))
  children_imply (leaf l) u b = λ c h. absurd (none_in c h)
  children_imply (bind js t) u b = λ c h. absurd (none_in c h)
  children_imply nil u b = λ c h. absurd (none_in c h)
  children_imply (cons t ts) u b = λ c h. absurd (none_in c h)
  children_imply t u b = absurd b.0

abbrev pub is_binder : Tree → Bool
is_binder (bind ks t) = true
is_binder t = false

pub renamings_imply : RenamingsImplyRenamings
renamings_imply s mode (bind ks t) (bind ls u) w v r c h =
    children_imply s mode ks ls r.to r.back t u (r.there, r.again, w, v) c h
renamings_imply s mode (leaf l) q w v r c h = absurd (none_in c h)
renamings_imply s mode (node g ts) q w v r c h = absurd (none_in c h)
renamings_imply s mode nil q w v r c h = absurd (none_in c h)
renamings_imply s mode (cons t ts) q w v r c h = absurd (none_in c h)
renamings_imply s mode (bind ks t) (leaf l) w v r c h = absurd (false≢true (ap is_binder r))
renamings_imply s mode (bind ks t) (node g ts) w v r c h = absurd (false≢true (ap is_binder r))
renamings_imply s mode (bind ks t) nil w v r c h = absurd (false≢true (ap is_binder r))
renamings_imply s mode (bind ks t) (cons u us) w v r c h = absurd (false≢true (ap is_binder r))
