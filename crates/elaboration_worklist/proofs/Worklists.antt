-- Worklists while an interner grows.
use Rattle.std.proofs.Common.{ℕ, ◌+◌, ◌<◌, ◌≤◌, ◌≡◌, ◌∙◌, refl, sym, ap, ap₂, subst, arith}
use Rattle.std.proofs.Common.{Bool, true, false, IsTrue, List, [], ◌∷◌, ◌++◌, map, length, take, drop, get_or}
use Rattle.std.proofs.Common.{append-nil}
use Rattle.std.proofs.Common.{Result, Ok, Err, OnOk, IsErr, IsErrAnd}
use Rattle.std.proofs.lemmas.List.{take_more, take_all, take-append-drop, map-append}
use Rattle.std.proofs.lemmas.List.Elements.{All-weaker, All-cons, All-append, All-nil, All-head, All-tail}
use Rattle.std.proofs.lemmas.List.Elements.{Contains-append_left}
use Rattle.std.proofs.lemmas.List.Sorted.{IsPermutation-map, All-permutation, length_permutation}
use Rattle.std.proofs.lemmas.Bool.{false≢true}
use Rattle.std.specs.List.{All, Contains, list_any}
use Rattle.std.specs.List.Sorted.{IsPermutation}
use Rattle.relation_terms.specs.Trees.{Tree, nil, known}
use Rattle.relation_terms.specs.Meaning.{Meaning, Extends}
use Rattle.relation_terms.specs.Interning.{AreEqualAsTrees}
use Rattle.relation_terms.specs.declared.terms.keys.PredicateKey.{PredicateKey}
use Rattle.relation_terms.proofs.Stays.{knows_as, knows_predicate, extends_on, stays_same}
use Rattle.elaboration_worklist.specs.declared.faults.ElabFault.{ElabFault}
use Rattle.elaboration_worklist.specs.declared.faults.ElabFault.TheVariants.{Memory, Limit}
use Rattle.elaboration_worklist.specs.declared.worklist.Worklist.{Worklist}
use Rattle.elaboration_worklist.specs.Kept.{AreKept, IsKept, Pushed}
use Rattle.elaboration_worklist.specs.Pushes.{anon, Pushes, IsFull}
use Rattle.elaboration_worklist.proofs.Members.{map_alike}
use Rattle.elaboration_worklist.proofs.Pushing.{map_push, map_count, any_in, none_any, pushes_none, pushed_none}
use Rattle.elaboration_worklist.proofs.Pushing.{pushed_one}
use Rattle.elaboration_worklist.proofs.Pushing.{pushes_then, pushes_as, full_one, full_in, full_then}

abbrev pub fault_of : {T : Type 0} → Result T ElabFault → ElabFault
fault_of (Ok x) = Memory
fault_of (Err f) = f

abbrev is_memory : ElabFault → Bool
is_memory Memory = true
is_memory Limit = false

abbrev failed : {T : Type 0} → Result T ElabFault → Bool
failed (Ok x) = false
failed (Err f) = true

-- A fault of memory is none of the limit.
pub not_limit : {T : Type 0} (f : ElabFault) (r : Result T ElabFault) → f ≡ Memory → r ≡ Err f → r ≡ Err Limit → ⊥
not_limit f r m e l = false≢true (sym (ap is_memory (ap fault_of (sym e ∙ l))) ∙ ap is_memory m)

-- A fault that is passed on is of the limit where the first one was.
pub limit_met : {T U : Type 0} (res : Result T ElabFault) (r : Result U ElabFault) (f : ElabFault) → IsErr res →
    IsErrAnd res (λ e. e ≡ f) → r ≡ Err f → res ≡ Err Limit → r ≡ Err Limit
limit_met (Ok x) r f bad same is q = absurd (false≢true bad)
limit_met (Err e) r f bad same is q = is ∙ ap (λ z. Err z) (sym same ∙ ap fault_of q)

pub no_fault : {T : Type 0} (x : T) (f : ElabFault) → Ok x ≡ Err f → ⊥
no_fault x f q = false≢true (ap failed q)

out_of_memory : {T : Type 0} (r : Result T ElabFault) → IsErr r → IsErrAnd r (λ e. e ≡ Memory) → r ≡ Err Memory
out_of_memory (Ok x) bad is = absurd (false≢true bad)
out_of_memory (Err f) bad is = ap (λ z. Err z) is

module _ {X D N O : Type 0} (tree : Meaning X D N → O → Tree)
    (stays : (m n : Meaning X D N) → Extends m n → (o : O) → IsTrue (known (tree m o)) → tree n o ≡ tree m o) where
  module _ {m n : Meaning X D N} (e : Extends m n) (stack : List O) (visited : List (PredicateKey X)) (limit : ℕ)
      (h : AreKept tree m stack visited limit) where
    -- What is kept stays so, and all trees are what they were.
    pub kept_on : AreKept tree n stack visited limit
    kept_on = record {
      stacked = All-weaker (λ o. IsTrue (known (tree m o))) (λ o. IsTrue (known (tree n o)))
          (λ o k. knows_as (tree m o) (tree n o) (stays m n e o k) k) stack h.stacked;
      seen = All-weaker (λ k. IsTrue (known (m.predicate k))) (λ k. IsTrue (known (n.predicate k)))
          (knows_predicate e) visited h.seen;
      room = h.room;
    }

    pub stack_same : map (tree n) stack ≡ map (tree m) stack
    stack_same = map_alike (λ o. IsTrue (known (tree m o))) (tree m) (tree n) (stays m n e) stack h.stacked

    pub visited_same : map n.predicate visited ≡ map m.predicate visited
    visited_same = map_alike (λ k. IsTrue (known (m.predicate k))) m.predicate n.predicate e.predicate visited h.seen

  -- One item: of a key that stands for it.
  module _ {m n : Meaning X D N} (e : Extends m n) (eq : PredicateKey X → PredicateKey X → Bool)
      (same : AreEqualAsTrees n.predicate eq) (name : ℕ) (o : O) (known_o : IsTrue (known (tree m o)))
      (stack : List O) (keys : List (PredicateKey X)) (limit : ℕ) (h : AreKept tree m stack keys limit)
      (k : PredicateKey X) (sure : IsTrue (known (n.predicate k))) (is : n.predicate k ≡ anon name (tree m o)) where
    abbrev given : Tree
    given = tree m o

    there : list_any (eq k) keys ≡ true → Contains (map m.predicate keys) (anon name given)
    there at = subst (λ z. Contains z (anon name given)) (visited_same e stack keys limit h)
        (subst (λ z. Contains (map n.predicate keys) z) is
        (any_in eq n.predicate same k sure keys (kept_on e stack keys limit h).seen at))

    absent : list_any (eq k) keys ≡ false → Contains (map m.predicate keys) (anon name given) → ⊥
    absent at c = none_any eq n.predicate same k sure keys (kept_on e stack keys limit h).seen at
        (subst (λ z. Contains (map n.predicate keys) z) (sym is)
        (subst (λ z. Contains z (anon name given)) (sym (visited_same e stack keys limit h)) c))

    pub known_key : list_any (eq k) keys ≡ true →
        Pushes name (given ∷ []) (map (tree m) stack) (map m.predicate keys) (map (tree n) stack)
        (map n.predicate keys) limit
    known_key at =
        let count = map_count m.predicate keys in
        let room = h.room in
        pushed_none name given (map (tree m) stack) (map m.predicate keys) (map (tree n) stack) (map n.predicate keys)
        limit
        (stack_same e stack keys limit h ∙ sym (append-nil (map (tree m) stack)))
        (visited_same e stack keys limit h) (there at) (omega (arith, count, room))

    pub new_key : (stack' : List O) (keys' : List (PredicateKey X)) → list_any (eq k) keys ≡ false →
        stack' ≡ stack ++ o ∷ [] → IsPermutation (k ∷ keys) keys' → length keys < limit →
        Pushes name (given ∷ []) (map (tree m) stack) (map m.predicate keys) (map (tree n) stack')
        (map n.predicate keys') limit
    new_key stack' keys' at s perm room =
        let count = map_count m.predicate keys in
        let after = map_count n.predicate keys' in
        let longer = length_permutation (k ∷ keys) keys' perm in
        pushed_one name given (map (tree m) stack) (map m.predicate keys) (map (tree n) stack')
        (map n.predicate keys') limit
        (ap (map (tree n)) s ∙ map_push (tree n) stack o
        ∙ ap₂ (λ y z. y ++ z ∷ []) (stack_same e stack keys limit h) (stays m n e o known_o))
        (subst (λ z. IsPermutation (z ∷ map m.predicate keys) (map n.predicate keys')) is
        (subst (λ z. IsPermutation (n.predicate k ∷ z) (map n.predicate keys')) (visited_same e stack keys limit h)
        (IsPermutation-map n.predicate (k ∷ keys) keys' perm)))
        (absent at) (omega (arith, count, after, longer)) (omega (arith, count, room))

    pub new_kept : (stack' : List O) (keys' : List (PredicateKey X)) → stack' ≡ stack ++ o ∷ [] →
        IsPermutation (k ∷ keys) keys' → length keys < limit → AreKept tree n stack' keys' limit
    new_kept stack' keys' s perm room =
        let on = kept_on e stack keys limit h in
        let longer = length_permutation (k ∷ keys) keys' perm in
        record {
          stacked = subst (All (λ x. IsTrue (known (tree n x)))) (sym s)
              (All-append (λ x. IsTrue (known (tree n x))) stack (o ∷ []) on.stacked
              (All-cons (λ x. IsTrue (known (tree n x))) o [] (knows_as (tree m o) (tree n o) (stays m n e o known_o)
              known_o)
              (All-nil (λ x. IsTrue (known (tree n x))))));
          seen = All-permutation (λ q. IsTrue (known (n.predicate q))) (k ∷ keys) keys' perm
              (All-cons (λ q. IsTrue (known (n.predicate q))) k keys sure on.seen);
          room = omega (arith, longer, room);
        }

    pub full_key : list_any (eq k) keys ≡ false → limit ≤ length keys → IsFull name (given ∷ [])
        (map m.predicate keys) limit
    full_key at room =
        let count = map_count m.predicate keys in
        full_one name given (map m.predicate keys) limit (absent at) (omega (arith, count, room))

  -- What one item does to a worklist.
  module _ {T : Type 0} {m n : Meaning X D N} (e : Extends m n) (eq : PredicateKey X → PredicateKey X → Bool)
      (same : AreEqualAsTrees n.predicate eq) (w : Worklist X O N) (h : IsKept tree m w) (o : O)
      (known_o : IsTrue (known (tree m o))) (k : PredicateKey X) (sure : IsTrue (known (n.predicate k)))
      (is : n.predicate k ≡ anon (m.name w.name) (tree m o)) (a : T) where
    pub item_known : list_any (eq k) w.visited.keys ≡ true → Pushed tree m n (tree m o ∷ []) w w (Ok a)
    item_known at = record {
      grown = e;
      kept = kept_on e w.stack.items w.visited.keys w.limit h;
      limit = refl;
      name = refl;
      all = known_key e eq same (m.name w.name) o known_o w.stack.items w.visited.keys w.limit h k sure is at;
      full = λ q. absurd (false≢true (ap failed q));
    }

    pub item_new : (v : Worklist X O N) → list_any (eq k) w.visited.keys ≡ false →
        v.stack.items ≡ w.stack.items ++ o ∷ [] → IsPermutation (k ∷ w.visited.keys) v.visited.keys →
        length w.visited.keys < w.limit → v.limit ≡ w.limit → v.name ≡ w.name →
        Pushed tree m n (tree m o ∷ []) w v (Ok a)
    item_new v at s perm room l name = record {
      grown = e;
      kept = subst (λ z. AreKept tree n v.stack.items v.visited.keys z) (sym l)
          (new_kept e eq same (m.name w.name) o known_o w.stack.items w.visited.keys w.limit h k sure is
          v.stack.items v.visited.keys s perm room);
      limit = l;
      name = name;
      all = subst (λ z. Pushes (m.name w.name) (tree m o ∷ []) (map (tree m) w.stack.items)
          (map m.predicate w.visited.keys) (map (tree n) v.stack.items) (map n.predicate v.visited.keys) z) (sym l)
          (new_key e eq same (m.name w.name) o known_o w.stack.items w.visited.keys w.limit h k sure is
          v.stack.items v.visited.keys at s perm room);
      full = λ q. absurd (false≢true (ap failed q));
    }

    pub item_full : list_any (eq k) w.visited.keys ≡ false → w.limit ≤ length w.visited.keys →
        Pushed tree {T = T} m n (tree m o ∷ []) w w (Err Limit)
    item_full at room = record {
      grown = e;
      kept = kept_on e w.stack.items w.visited.keys w.limit h;
      limit = refl;
      name = refl;
      all = tt;
      full = λ q. full_key e eq same (m.name w.name) o known_o w.stack.items w.visited.keys w.limit h k sure is at room;
    }

  -- Nothing was pushed, for want of memory or since there was nothing.
  pub pushed_refused : {T : Type 0} (m n : Meaning X D N) (e : Extends m n) (cs : List Tree) (w v : Worklist X O N)
      (f : ElabFault) → IsKept tree m w → v.stack.items ≡ w.stack.items → v.visited.keys ≡ w.visited.keys →
      v.limit ≡ w.limit → v.name ≡ w.name → f ≡ Memory → Pushed tree {T = T} m n cs w v (Err f)
  pushed_refused m n e cs w v f h s k l a is = record {
    grown = e;
    kept = subst (λ z. AreKept tree n z v.visited.keys v.limit) (sym s)
        (subst (λ z. AreKept tree n w.stack.items z v.limit) (sym k)
        (subst (λ z. AreKept tree n w.stack.items w.visited.keys z) (sym l)
        (kept_on e w.stack.items w.visited.keys w.limit h)));
    limit = l;
    name = a;
    all = tt;
    full = λ q. absurd (not_limit f (Err f) is refl q);
  }

-- What holds after it is done, of what held before.
on_ok : {T E : Type 0} (P Q : Type 0) (r : Result T E) → (P → Q) → OnOk r P → OnOk r Q
on_ok P Q (Ok x) f p = f p
on_ok P Q (Err e) f p = tt

module _ {X D N O : Type 0} (tree : Meaning X D N → O → Tree)
    (stays : (m n : Meaning X D N) → Extends m n → (o : O) → IsTrue (known (tree m o)) → tree n o ≡ tree m o) where
  -- Nothing was to be pushed.
  pub pushed_start : {T : Type 0} (m : Meaning X D N) (e : Extends m m) (w : Worklist X O N) (a : T) → IsKept tree m w →
      Pushed tree m m [] w w (Ok a)
  pushed_start m e w a h = record {
    grown = e;
    kept = h;
    limit = refl;
    name = refl;
    all = (
        let count = map_count m.predicate w.visited.keys in
        let room = h.room in
        subst (λ z. Pushes (m.name w.name) [] (map (tree m) w.stack.items) (map m.predicate w.visited.keys) z
        (map m.predicate w.visited.keys) w.limit) (append-nil (map (tree m) w.stack.items))
        (pushes_none (m.name w.name) (map (tree m) w.stack.items) (map m.predicate w.visited.keys) w.limit
        (omega (arith, count, room)))
        );
    full = λ q. absurd (false≢true (ap failed q));
  }

  module _ {T U : Type 0} {m n o p : Meaning X D N} (cs ds : List Tree) (w v x : Worklist X O N) (a : T)
      (r : Result U ElabFault) (first : Pushed tree m n cs w v (Ok a)) (e : Extends n o)
      (later : Pushed tree o p ds v x r) where
    names : o.name v.name ≡ m.name w.name
    names = ap o.name first.name ∙ e.name w.name ∙ (first.grown).name w.name

    stacks : map (tree o) v.stack.items ≡ map (tree n) v.stack.items
    stacks = stack_same tree stays e v.stack.items v.visited.keys v.limit first.kept

    keys : map o.predicate v.visited.keys ≡ map n.predicate v.visited.keys
    keys = visited_same tree stays e v.stack.items v.visited.keys v.limit first.kept

    -- Some were pushed, and then others.
    pub pushed_then : Pushed tree m p (cs ++ ds) w x r
    pushed_then = record {
      grown = extends_on (extends_on first.grown e) later.grown;
      kept = later.kept;
      limit = later.limit ∙ first.limit;
      name = later.name ∙ first.name;
      all = on_ok
          (Pushes (o.name v.name) ds (map (tree o) v.stack.items) (map o.predicate v.visited.keys)
          (map (tree p) x.stack.items) (map p.predicate x.visited.keys) x.limit)
          (Pushes (m.name w.name) (cs ++ ds) (map (tree m) w.stack.items) (map m.predicate w.visited.keys)
          (map (tree p) x.stack.items) (map p.predicate x.visited.keys) x.limit) r
          (λ h. pushes_then (m.name w.name) cs ds (map (tree m) w.stack.items) (map m.predicate w.visited.keys)
          (map (tree n) v.stack.items) (map n.predicate v.visited.keys) (map (tree p) x.stack.items)
          (map p.predicate x.visited.keys) x.limit
          (subst (λ z. Pushes (m.name w.name) cs (map (tree m) w.stack.items) (map m.predicate w.visited.keys)
          (map (tree n) v.stack.items) (map n.predicate v.visited.keys) z) (sym later.limit) first.all)
          (subst (λ z. Pushes z ds (map (tree n) v.stack.items) (map n.predicate v.visited.keys)
          (map (tree p) x.stack.items) (map p.predicate x.visited.keys) x.limit) names
          (subst (λ z. Pushes (o.name v.name) ds z (map n.predicate v.visited.keys)
          (map (tree p) x.stack.items) (map p.predicate x.visited.keys) x.limit) stacks
          (subst (λ z. Pushes (o.name v.name) ds (map (tree o) v.stack.items) z
          (map (tree p) x.stack.items) (map p.predicate x.visited.keys) x.limit) keys h))))
          later.all;
      full = λ q. subst (λ z. IsFull (m.name w.name) (cs ++ ds) (map m.predicate w.visited.keys) z) first.limit
          (full_then (m.name w.name) cs ds (map (tree m) w.stack.items) (map m.predicate w.visited.keys)
          (map (tree n) v.stack.items) (map n.predicate v.visited.keys) v.limit first.all
          (subst (λ z. IsFull z ds (map n.predicate v.visited.keys) v.limit) names
          (subst (λ z. IsFull (o.name v.name) ds z v.limit) keys (later.full q))));
    }

  -- The same of another list, with the same members.
  pub pushed_as : {T : Type 0} (m n : Meaning X D N) (cs ds : List Tree) (w v : Worklist X O N)
      (r : Result T ElabFault) →
      ((t : Tree) → Contains cs t → Contains ds t) → ((t : Tree) → Contains ds t → Contains cs t) →
      Pushed tree m n cs w v r → Pushed tree m n ds w v r
  pushed_as m n cs ds w v r there back h = record {
    grown = h.grown;
    kept = h.kept;
    limit = h.limit;
    name = h.name;
    all = on_ok
        (Pushes (m.name w.name) cs (map (tree m) w.stack.items) (map m.predicate w.visited.keys)
        (map (tree n) v.stack.items) (map n.predicate v.visited.keys) v.limit)
        (Pushes (m.name w.name) ds (map (tree m) w.stack.items) (map m.predicate w.visited.keys)
        (map (tree n) v.stack.items) (map n.predicate v.visited.keys) v.limit) r
        (λ p. pushes_as (m.name w.name) cs ds (map (tree m) w.stack.items) (map m.predicate w.visited.keys)
        (map (tree n) v.stack.items) (map n.predicate v.visited.keys) v.limit there back p) h.all;
    full = λ q. full_in (m.name w.name) cs ds (map m.predicate w.visited.keys) w.limit there (h.full q);
  }

  -- A fault came among some of them.
  pub pushed_stopped : {T U : Type 0} (m n : Meaning X D N) (cs ds : List Tree) (w v : Worklist X O N) (f g : ElabFault)
      (r : Result T ElabFault) → r ≡ Err f → g ≡ f → ((t : Tree) → Contains cs t → Contains ds t) →
      Pushed tree m n cs w v r → Pushed tree {T = U} m n ds w v (Err g)
  pushed_stopped m n cs ds w v f g r is alike there h = record {
    grown = h.grown;
    kept = h.kept;
    limit = h.limit;
    name = h.name;
    all = tt;
    full = λ q. full_in (m.name w.name) cs ds (map m.predicate w.visited.keys) w.limit there
        (h.full (is ∙ ap (λ z. Err z) (sym alike ∙ ap fault_of q)));
  }

take_zero : (cs : List Tree) → [] ≡ take 0 cs
take_zero [] = refl
take_zero (x ∷ xs) = refl

taken_in : (i : ℕ) (cs : List Tree) (t : Tree) → Contains (take i cs) t → Contains cs t
taken_in i cs t k = subst (λ z. Contains z t) (take-append-drop i cs) (Contains-append_left (take i cs) (drop i cs) t k)

-- Loops that push what a list has, one by one.
module _ {X D N O : Type 0} (tree : Meaning X D N → O → Tree)
    (stays : (m n : Meaning X D N) → Extends m n → (o : O) → IsTrue (known (tree m o)) → tree n o ≡ tree m o) where
  pub pushed_empty : {T : Type 0} (m : Meaning X D N) (e : Extends m m) (cs : List Tree) (w : Worklist X O N) (a : T) →
      [] ≡ cs → IsKept tree m w → Pushed tree m m cs w w (Ok a)
  pushed_empty m e cs w a none h = subst (λ z. Pushed tree m m z w w (Ok a)) none (pushed_start tree stays m e w a h)

  pub pushed_first : {T : Type 0} (m : Meaning X D N) (e : Extends m m) (cs : List Tree) (w : Worklist X O N) (a : T) →
      IsKept tree m w → Pushed tree m m (take 0 cs) w w (Ok a)
  pushed_first m e cs w a h = pushed_empty m e (take 0 cs) w a (take_zero cs) h

  -- What was to be pushed next was not made, for want of memory.
  pub pushed_broken : {T U : Type 0} (m n o : Meaning X D N) (cs ds : List Tree) (w v : Worklist X O N) (a : T)
      (f : ElabFault) → Pushed tree m n cs w v (Ok a) → Extends n o → f ≡ Memory → Pushed tree {T = U} m o ds w v
      (Err f)
  pushed_broken m n o cs ds w v a f h e is = record {
    grown = extends_on h.grown e;
    kept = kept_on tree stays e v.stack.items v.visited.keys v.limit h.kept;
    limit = h.limit;
    name = h.name;
    all = tt;
    full = λ q. absurd (not_limit f (Err f) is refl q);
  }

  pub pushed_lost : {T U : Type 0} (m n o : Meaning X D N) (cs ds : List Tree) (w v : Worklist X O N) (a : T)
      (r : Result U ElabFault) → Pushed tree m n cs w v (Ok a) → Extends n o → IsErr r → IsErrAnd r (λ e. e ≡ Memory) →
      Pushed tree m o ds w v r
  pushed_lost m n o cs ds w v a r h e bad is =
      subst (λ z. Pushed tree m o ds w v z) (sym (out_of_memory r bad is))
      (pushed_broken m n o cs ds w v a Memory h e refl)

  -- Nothing was to be pushed, while the interner grew.
  pub pushed_still : {T : Type 0} (m n : Meaning X D N) (e : Extends m n) (cs : List Tree) (w : Worklist X O N)
      (a : T) →
      [] ≡ cs → IsKept tree m w → Pushed tree m n cs w w (Ok a)
  pushed_still m n e cs w a none h =
      let first : Pushed tree m m cs w w (Ok a) = pushed_empty m (stays_same m) cs w a none h in
      record {
        grown = e;
        kept = kept_on tree stays e w.stack.items w.visited.keys w.limit h;
        limit = refl;
        name = refl;
        all = subst (λ z. Pushes (m.name w.name) cs (map (tree m) w.stack.items) (map m.predicate w.visited.keys) z
            (map n.predicate w.visited.keys) w.limit) (sym
            (stack_same tree stays e w.stack.items w.visited.keys w.limit h))
            (subst (λ z. Pushes (m.name w.name) cs (map (tree m) w.stack.items) (map m.predicate w.visited.keys)
            (map (tree m) w.stack.items) z w.limit)
            (sym (visited_same tree stays e w.stack.items w.visited.keys w.limit h)) first.all);
        full = λ q. absurd (false≢true (ap failed q));
      }

  module _ {T U : Type 0} (m n o p : Meaning X D N) (cs : List Tree) (i : ℕ) (t : Tree) (w v x : Worklist X O N) (a : T)
      (r : Result U ElabFault) (at : i < length cs) (is : t ≡ get_or cs i nil)
      (first : Pushed tree m n (take i cs) w v (Ok a)) (e : Extends n o) (later : Pushed tree o p (t ∷ []) v x r) where
    pub pushed_next : Pushed tree m p (take (i + 1) cs) w x r
    pushed_next = subst (λ z. Pushed tree m p z w x r)
        (ap (λ z. take i cs ++ z ∷ []) is ∙ sym (take_more cs i nil at))
        (pushed_then tree stays (take i cs) (t ∷ []) w v x a r first e later)

    pub pushed_failed : {V : Type 0} (f g : ElabFault) → r ≡ Err f → g ≡ f → Pushed tree {T = V} m p cs w x (Err g)
    pushed_failed f g bad alike =
        pushed_stopped tree stays m p (take (i + 1) cs) cs w x f g r bad alike (taken_in (i + 1) cs) pushed_next

  pub pushed_end : {T : Type 0} (m n : Meaning X D N) (cs : List Tree) (i : ℕ) (w v : Worklist X O N)
      (r : Result T ElabFault) → length cs ≤ i → Pushed tree m n (take i cs) w v r → Pushed tree m n cs w v r
  pushed_end m n cs i w v r l h = subst (λ z. Pushed tree m n z w v r) (take_all i cs l) h

  -- Predicates of a list were pushed, the first ones and one more.
  module _ {T U : Type 0} (m n p : Meaning X D N) (done : List O) (x : O) (w v u : Worklist X O N) (a : T)
      (r : Result U ElabFault) (k : IsTrue (known (tree m x))) (first : Pushed tree m n (map (tree m) done) w v (Ok a))
      (later : Pushed tree n p (tree n x ∷ []) v u r) where
    pub listed_next : Pushed tree m p (map (tree m) (done ++ x ∷ [])) w u r
    listed_next = subst (λ z. Pushed tree m p z w u r)
        (ap (λ z. map (tree m) done ++ z ∷ []) (stays m n first.grown x k) ∙ sym (map_push (tree m) done x))
        (pushed_then tree stays (map (tree m) done) (tree n x ∷ []) w v u a r first (stays_same n) later)

    pub listed_failed : {V : Type 0} (all rest : List O) (f g : ElabFault) → (done ++ x ∷ []) ++ rest ≡ all →
        r ≡ Err f → g ≡ f → Pushed tree {T = V} m p (map (tree m) all) w u (Err g)
    listed_failed all rest f g whole bad alike =
        pushed_stopped tree stays m p (map (tree m) (done ++ x ∷ [])) (map (tree m) all) w u f g r bad alike
        (λ t i. subst (λ z. Contains z t) (sym (map-append (tree m) (done ++ x ∷ []) rest) ∙ ap (map (tree m)) whole)
        (Contains-append_left (map (tree m) (done ++ x ∷ [])) (map (tree m) rest) t i)) listed_next

  pub listed_all : {T : Type 0} (m n : Meaning X D N) (all done rest : List O) (w v : Worklist X O N)
      (r : Result T ElabFault) → done ++ rest ≡ all → rest ≡ [] → Pushed tree m n (map (tree m) done) w v r →
      Pushed tree m n (map (tree m) all) w v r
  listed_all m n all done rest w v r whole none h =
      subst (λ z. Pushed tree m n (map (tree m) z) w v r)
      (sym (append-nil done) ∙ ap (λ z. done ++ z) (sym none) ∙ whole) h

-- What each of a list has, the one in the middle has.
pub middle_all : {A : Type 0} (P : A → Type 0) (xs : List A) (x : A) (ys : List A) → All P (xs ++ x ∷ ys) → P x
middle_all P [] x ys a = All-head P x ys a
middle_all P (y ∷ xs) x ys a = middle_all P xs x ys (All-tail P y (xs ++ x ∷ ys) a)
