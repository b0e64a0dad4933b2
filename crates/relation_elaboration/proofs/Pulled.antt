-- What a pull does, by what it does to the worklist.
use Rattle.std.proofs.Common.{◌≡◌, ◌∙◌, refl, sym, ap, subst, ℕ, IsTrue, List, [], ◌∷◌, ◌++◌, map, Option, Some, None}
use Rattle.std.proofs.Common.{Result, Ok, Err, false, ◌<◌, length, append-nil, length-append, arith}
use Rattle.std.proofs.lemmas.List.Elements.{All-head, All-tail, All-cons, All-nil}
use Rattle.std.specs.List.{All}
use Rattle.relation_terms.specs.declared.terms.keys.PredicateKey.{PredicateKey}
use Rattle.relation_terms.proofs.Stays.{stays_same}
use Rattle.relation_terms.specs.Trees.{Tree, known}
use Rattle.relation_terms.specs.Meaning.{Meaning}
use Rattle.elaboration_worklist.specs.declared.faults.ElabFault.{ElabFault}
use Rattle.elaboration_worklist.specs.declared.worklist.Worklist.{Worklist}
use Rattle.relation_statements.specs.Children.{Mode, children}
use Rattle.relation_statements.specs.Statements.{statements}
use Rattle.elaboration_worklist.specs.Pushes.{Pushes, IsFull}
use Rattle.relation_elaboration.specs.Pulling.{Elaboration, Faults, Pulls}
use Rattle.elaboration_worklist.specs.Kept.{AreKept, Pushed}
use Rattle.elaboration_worklist.proofs.Pushing.{map_push}
use Rattle.elaboration_worklist.proofs.Members.{none_left}

-- The last member of a list, or else a given one.
abbrev last_or : {A : Type 0} → A → List A → A
last_or d [] = d
last_or d (x ∷ xs) = last_or x xs

last_pushed : {A : Type 0} (d : A) (xs : List A) (x : A) → last_or d (xs ++ x ∷ []) ≡ x
last_pushed d [] x = refl
last_pushed d (y ∷ ys) x = last_pushed y ys x

pub same_last : {A : Type 0} (xs ys : List A) (x y : A) → xs ++ x ∷ [] ≡ ys ++ y ∷ [] → x ≡ y
same_last xs ys x y e = sym (last_pushed x xs x) ∙ ap (last_or x) e ∙ last_pushed x ys y

no_last : {A : Type 0} (xs : List A) (x : A) → xs ++ x ∷ [] ≡ [] → ⊥
no_last xs x e = (let n = ap length e in let both = length-append xs (x ∷ []) in omega (arith, n, both))

-- What each member of a list has, its last one and the others have.
front_all : {A : Type 0} (P : A → Type 0) (xs : List A) (x : A) → All P (xs ++ x ∷ []) → All P xs
front_all P [] x a = All-nil P
front_all P (y ∷ ys) x a =
    All-cons P y ys (All-head P y (ys ++ x ∷ []) a) (front_all P ys x (All-tail P y (ys ++ x ∷ []) a))

last_all : {A : Type 0} (P : A → Type 0) (xs : List A) (x : A) → All P (xs ++ x ∷ []) → P x
last_all P [] x a = All-head P x [] a
last_all P (y ∷ ys) x a = last_all P ys x (All-tail P y (ys ++ x ∷ []) a)

-- What is kept, once the last predicate was popped, or where there was none.
module _ {Key Id Name O : Type 0} (tree : Meaning Key Id Name → O → Tree) (m : Meaning Key Id Name)
    (stack rest : List O)
    (visited : List (PredicateKey Key)) (limit : ℕ) (h : AreKept tree m stack visited limit) where
  pub kept_front : (x : O) → stack ≡ rest ++ x ∷ [] → AreKept tree m rest visited limit
  kept_front x is = record {
    stacked = front_all (λ o. IsTrue (known (tree m o))) rest x
        (subst (All (λ o. IsTrue (known (tree m o)))) is h.stacked);
    seen = h.seen;
    room = h.room;
  }

  pub known_last : (x : O) → stack ≡ rest ++ x ∷ [] → IsTrue (known (tree m x))
  known_last x is = last_all (λ o. IsTrue (known (tree m o))) rest x
      (subst (All (λ o. IsTrue (known (tree m o)))) is h.stacked)

  pub kept_all : stack ≡ rest ++ [] → AreKept tree m rest visited limit
  kept_all is = subst (λ z. AreKept tree m z visited limit) (is ∙ append-nil rest) h

pub kept_empty : {Key Id Name O : Type 0} (tree : Meaning Key Id Name → O → Tree) (m : Meaning Key Id Name)
    (stack : List O) (visited : List (PredicateKey Key)) (limit : ℕ) → stack ≡ [] → visited ≡ [] →
    AreKept tree m stack visited limit
kept_empty tree m stack visited limit s v = record {
  stacked = subst (All (λ o. IsTrue (known (tree m o)))) (sym s) (All-nil (λ o. IsTrue (known (tree m o))));
  seen = subst (All (λ k. IsTrue (known (m.predicate k)))) (sym v) (All-nil (λ k. IsTrue (known (m.predicate k))));
  room = (let e = ap length v in omega (arith, e));
}

module _ {I Key Id Name O : Type 0} (meaning : I → Meaning Key Id Name) (tree : Meaning Key Id Name → O → Tree) where
  -- An elaboration by its worklist.
  abbrev pub standing_by : ℕ → I → Worklist Key O Name → Mode → Option ElabFault → Elaboration I O Key Name
  standing_by r c w mode fault = record {
    reference = r;
    cx = c;
    stack = w.stack.items;
    visited = w.visited.keys;
    limit = w.limit;
    name = w.name;
    mode = mode;
    fault = fault;
  }

  -- The fault that was met before.
  pub pulled_again : (s : Elaboration I O Key Name) (f : ElabFault) → s.fault ≡ Some f →
      Pulls meaning tree s (Some (Err f)) s
  pulled_again s f is = (
    is,
    record { reference = refl; grown = stays_same (meaning s.cx); limit = refl; name = refl; mode = refl },
    subst (λ z. Faults meaning tree z s f s) (sym is) (refl, refl),
  )

  -- Nothing was left.
  pub pulled_none : (r : ℕ) (c : I) (u w : Worklist Key O Name) (mode : Mode) (fault : Option ElabFault)
      (res : Option (Result O ElabFault)) → fault ≡ None → u.stack.items ≡ w.stack.items ++ [] →
      (0 < length u.stack.items → IsTrue false) → w.visited.keys ≡ u.visited.keys → w.limit ≡ u.limit →
      w.name ≡ u.name → res ≡ None →
      Pulls meaning tree (standing_by r c u mode fault) res (standing_by r c w mode fault)
  pulled_none r c u w mode fault res free stack bound keys limit name is =
      subst (λ z. Pulls meaning tree (standing_by r c u mode fault) z (standing_by r c w mode fault)) (sym is) (
        free,
        none_left u.stack.items bound,
        λ i. record {
          reference = r;
          cx = c;
          stack = sym (stack ∙ append-nil w.stack.items) i;
          visited = keys i;
          limit = limit i;
          name = name i;
          mode = mode;
          fault = fault;
        },
      )

  module _ (r : ℕ) (c d : I) (u w v : Worklist Key O Name) (mode : Mode) (x : O)
      (popped : u.stack.items ≡ w.stack.items ++ x ∷ []) (keys : w.visited.keys ≡ u.visited.keys)
      (limit : w.limit ≡ u.limit) (name : w.name ≡ u.name) where
    abbrev implied : List Tree
    implied = children (statements (meaning c)) mode (tree (meaning c) x)

    names : (meaning c).name w.name ≡ (meaning c).name u.name
    names = ap (meaning c).name name

    pub pulled : {T : Type 0} (a : T) → IsTrue (known (tree (meaning c) x)) → Pushed tree (meaning c) (meaning d)
        implied w v (Ok a) →
        Pulls meaning tree (standing_by r c u mode None) (Some (Ok x)) (standing_by r d v mode None)
    pulled a k h = (
      refl,
      refl,
      record { reference = refl; grown = h.grown; limit = h.limit ∙ limit; name = h.name ∙ name; mode = refl },
      k,
      record {
        rest = map (tree (meaning c)) w.stack.items;
        top = ap (map (tree (meaning c))) popped ∙ map_push (tree (meaning c)) w.stack.items x;
        pushes = subst (λ z. Pushes z implied (map (tree (meaning c)) w.stack.items)
            (map (meaning c).predicate u.visited.keys)
            (map (tree (meaning d)) v.stack.items) (map (meaning d).predicate v.visited.keys) v.limit) names
            (subst (λ z. Pushes ((meaning c).name w.name) implied (map (tree (meaning c)) w.stack.items)
            (map (meaning c).predicate z) (map (tree (meaning d)) v.stack.items)
            (map (meaning d).predicate v.visited.keys)
            v.limit) keys h.all);
        limit = h.limit ∙ limit;
      },
    )

    pub pulled_fault : {T : Type 0} (f : ElabFault) → Pushed tree {T = T} (meaning c) (meaning d) implied w v (Err f) →
        Pulls meaning tree (standing_by r c u mode None) (Some (Err f)) (standing_by r d v mode (Some f))
    pulled_fault f h = (
      refl,
      record { reference = refl; grown = h.grown; limit = h.limit ∙ limit; name = h.name ∙ name; mode = refl },
      (
        λ none. no_last w.stack.items x (sym popped ∙ none),
        λ e rest y top.
            let is : x ≡ y = same_last w.stack.items rest x y (sym popped ∙ top) in
            subst (λ z. IsFull ((meaning c).name u.name) (children (statements (meaning c)) mode (tree (meaning c) z))
            (map (meaning c).predicate u.visited.keys) u.limit) is
            (subst (λ z. IsFull z implied (map (meaning c).predicate u.visited.keys) u.limit) names
            (subst (λ z. IsFull ((meaning c).name w.name) implied (map (meaning c).predicate z) u.limit) keys
            (subst (λ z. IsFull ((meaning c).name w.name) implied (map (meaning c).predicate w.visited.keys) z) limit
            (h.full (ap (λ z. Err z) e))))),
      ),
    )

    -- The same where that no fault was met is known.
    pub pulled_one : {T : Type 0} (a : T) (fault : Option ElabFault) → fault ≡ None → IsTrue
        (known (tree (meaning c) x)) →
        Pushed tree (meaning c) (meaning d) implied w v (Ok a) →
        Pulls meaning tree (standing_by r c u mode fault) (Some (Ok x)) (standing_by r d v mode fault)
    pulled_one a fault free k h =
        subst (λ z. Pulls meaning tree (standing_by r c u mode z) (Some (Ok x)) (standing_by r d v mode z)) (sym free)
        (pulled a k h)

    pub pulled_stop : {T : Type 0} (f : ElabFault) (fault : Option ElabFault) → fault ≡ None →
        Pushed tree {T = T} (meaning c) (meaning d) implied w v (Err f) →
        Pulls meaning tree (standing_by r c u mode fault) (Some (Err f)) (standing_by r d v mode (Some f))
    pulled_stop f fault free h =
        subst (λ z. Pulls meaning tree (standing_by r c u mode z) (Some (Err f)) (standing_by r d v mode (Some f)))
        (sym free) (pulled_fault f h)
