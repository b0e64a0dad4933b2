-- Traits that are gone through by super-predicates are those that are reached.
use Rattle.std.proofs.Common.{ℕ, zero, suc, ◌≤◌, ◌<◌, ◌≡◌, ◌⊎◌, refl, sym, ap, ◌∙◌, subst, arith, inl, inr}
use Rattle.std.proofs.Common.{Bool, true, false, IsTrue, not, List, [], ◌∷◌, ◌++◌, map, length, length-append, append-nil}
use Rattle.std.proofs.Common.{get_or}
use Rattle.std.proofs.Common.{Option, Some, None, Result, Ok, Err}
use Rattle.std.proofs.lemmas.List.{append_assoc}
use Rattle.std.proofs.lemmas.List.Elements.{Contains-append_cases, Contains-append_left}
use Rattle.std.proofs.lemmas.List.Elements.{Contains-append_right, Contains-push_cases, Contains-push}
use Rattle.std.proofs.lemmas.List.Sorted.{IsPermutation-map, Contains-permutation, IsPermutation-sym}
use Rattle.std.proofs.lemmas.List.Sorted.{length_permutation}
use Rattle.std.proofs.lemmas.Bool.{false≢true, or_cases, or_parts, cases_lt}
use Rattle.std.specs.List.{Contains, filter_map, cons_option, list_any}
use Rattle.std.specs.List.Sorted.{IsPermutation}
use Rattle.relation_terms.specs.Trees.{Tree, known}
use Rattle.relation_terms.specs.Meaning.{Meaning}
use Rattle.relation_terms.specs.Owned.{StatesItsOwn}
use Rattle.relation_terms.specs.Interning.{AreEqualAsNumbers}
use Rattle.term_enums.specs.declared.memory.OutOfMemory.{OutOfMemory}
use Rattle.relation_terms.specs.declared.terms.ids.TraitId.{TraitId}
use Rattle.relation_terms.specs.declared.terms.keys.ClauseKey.{ClauseKey}
use Rattle.relation_statements.specs.Children.{Statements}
use Rattle.elaboration_worklist.specs.Pushes.{IsDistinct}
use Rattle.relation_statements.specs.Statements.{statements}
use Rattle.relation_statements.specs.TraitClauses.{trait_named}
use Rattle.relation_statements.specs.Reach.{supers_named, Reaches, Spreads, Reaching, number, numbers, Goes}
use Rattle.relation_statements.specs.Reach.{GoesBy, ReachesAll, ByReach}
use Rattle.relation_statements.specs.Reach.Reaches.{itself, by_super}
use Rattle.elaboration_worklist.proofs.Members.{none_in}
use Rattle.elaboration_worklist.proofs.Members.{later_in, in_cases, map_length, map_both, none_left}
use Rattle.relation_statements.proofs.Making.{at_map}
use Rattle.elaboration_worklist.proofs.Distinct.{Apart, distinct_both, distinct_left, distinct_apart, no_more}
use Rattle.relation_folds.proofs.Lists.{first_in}

-- Nothing was to be put there.
pub spreads_none : (stack seen : List ℕ) → Spreads [] stack seen stack seen
spreads_none stack seen = record {
  new = [];
  stack_is = sym (append-nil stack);
  of_them = λ e k. k;
  fresh = λ e k l. none_in e k;
  once = tt;
  all = λ e k. absurd (none_in e k);
  old = λ e k. k;
  only = λ e k. inl k;
}

-- One that was there, and one that was not.
pub spreads_known : (d : ℕ) (stack seen : List ℕ) → Contains seen d → Spreads (d ∷ []) stack seen stack seen
spreads_known d stack seen at = record {
  new = [];
  stack_is = sym (append-nil stack);
  of_them = λ e k. absurd (none_in e k);
  fresh = λ e k l. none_in e k;
  once = tt;
  all = λ e k. elim (in_cases d [] e k) [
    | inl is ↦ subst (Contains seen) is at
    | inr none ↦ absurd (none_in e none)
  ];
  old = λ e k. k;
  only = λ e k. inl k;
}

pub spreads_one : (d : ℕ) (stack seen seen' : List ℕ) → (Contains seen d → ⊥) → IsPermutation (d ∷ seen) seen' →
    Spreads (d ∷ []) stack seen (stack ++ d ∷ []) seen'
spreads_one d stack seen seen' absent perm = record {
  new = d ∷ [];
  stack_is = refl;
  of_them = λ e k. k;
  fresh = λ e k l. elim (in_cases d [] e k) [
    | inl is ↦ absent (subst (Contains seen) (sym is) l)
    | inr none ↦ none_in e none
  ];
  once = ((λ k. none_in d k), tt);
  all = λ e k. elim (in_cases d [] e k) [
    | inl is ↦ Contains-permutation (d ∷ seen) seen' e perm (subst (Contains (d ∷ seen)) is (first_in d seen))
    | inr none ↦ absurd (none_in e none)
  ];
  old = λ e k. Contains-permutation (d ∷ seen) seen' e perm (later_in d seen e k);
  only = λ e k. elim (in_cases d seen e
      (Contains-permutation seen' (d ∷ seen) e (IsPermutation-sym (d ∷ seen) seen' perm) k)) [
        | inl is ↦ inr (subst (Contains (d ∷ [])) is (first_in d []))
        | inr l ↦ inl l
      ];
}

-- Some, and then others.
pub spreads_then : (cs ds stack seen stack' seen' stack'' seen'' : List ℕ) → Spreads cs stack seen stack' seen' →
    Spreads ds stack' seen' stack'' seen'' → Spreads (cs ++ ds) stack seen stack'' seen''
spreads_then cs ds stack seen stack' seen' stack'' seen'' h k = record {
  new = h.new ++ k.new;
  stack_is = k.stack_is ∙ ap (λ z. z ++ k.new) h.stack_is ∙ append_assoc stack h.new k.new;
  of_them = λ e l. elim (Contains-append_cases h.new k.new e l) [
    | inl a ↦ Contains-append_left cs ds e (h.of_them e a)
    | inr b ↦ Contains-append_right cs ds e (k.of_them e b)
  ];
  fresh = λ e l o. elim (Contains-append_cases h.new k.new e l) [
    | inl a ↦ h.fresh e a o
    | inr b ↦ k.fresh e b (h.old e o)
  ];
  once = distinct_both h.new k.new h.once k.once (λ e a b. k.fresh e b (h.all e (h.of_them e a)));
  all = λ e l. elim (Contains-append_cases cs ds e l) [
    | inl a ↦ k.old e (h.all e a)
    | inr b ↦ k.all e b
  ];
  old = λ e l. k.old e (h.old e l);
  only = λ e l. elim (k.only e l) [
    | inl a ↦ elim (h.only e a) [
      | inl o ↦ inl o
      | inr n ↦ inr (Contains-append_left h.new k.new e n)
    ]
    | inr b ↦ inr (Contains-append_right h.new k.new e b)
  ];
}

-- Keys that are equal exactly where their numbers are.
module _ {K : Type 0} (eq : K → K → Bool) (number_of : K → ℕ) (same : AreEqualAsNumbers number_of eq) (k : K) where
  pub any_there : (ks : List K) → list_any (eq k) ks ≡ true → Contains (map number_of ks) (number_of k)
  any_there [] h = absurd (false≢true h)
  any_there (l ∷ ls) h = elim (or_cases (eq k l) (list_any (eq k) ls) h) [
    | inl e ↦ subst (Contains (number_of l ∷ map number_of ls)) (sym ((same k l).0 e))
        (first_in (number_of l) (map number_of ls))
    | inr later ↦ later_in (number_of l) (map number_of ls) (number_of k) (any_there ls later)
  ]

  pub none_there : (ks : List K) → list_any (eq k) ks ≡ false → Contains (map number_of ks) (number_of k) → ⊥
  none_there [] h c = none_in (number_of k) c
  none_there (l ∷ ls) h c =
      let p = or_parts (eq k l) (list_any (eq k) ls) h in
      elim (in_cases (number_of l) (map number_of ls) (number_of k) c) [
        | inl e ↦ false≢true (sym p.0 ∙ (same k l).1 (sym e))
        | inr later ↦ none_there ls p.1 later
      ]

-- Ids of traits are equal where the ids in them are.
abbrev pub equal_ids : {Id : Type 0} → (Id → Id → Bool) → TraitId Id → TraitId Id → Bool
equal_ids eq d e = eq d.0 e.0

-- Whether a key is new says whether it was there.
pub was_there : (a b : Bool) → a ≡ false → a ≡ not b → b ≡ true
was_there a true f n = refl
was_there a false f n = absurd (false≢true (sym f ∙ n))

pub was_absent : (a b : Bool) → a ≡ true → a ≡ not b → b ≡ false
was_absent a true t n = absurd (false≢true (sym n ∙ t))
was_absent a false t n = refl

-- What holds between calls, after these were yielded.
module _ (s : Statements) (d : ℕ) where
  record Stands (ys stack reached : List ℕ) : Type 0 where
    yielded_are : (e : ℕ) → Contains ys e → Reaches s d e
    stacked_are : (e : ℕ) → Contains stack e → Reaches s d e
    yielded : IsDistinct ys
    stacked : IsDistinct stack
    apart : Apart ys stack
    seen : (e : ℕ) → Contains reached e → Contains ys e ⊎ Contains stack e
    back : (e : ℕ) → Contains ys e ⊎ Contains stack e → Contains reached e
    starts : Contains reached d
    closed : (e f : ℕ) → Contains ys e → Contains (supers_named s e) f → Contains reached f

  stands_first : Stands [] (d ∷ []) (d ∷ [])
  stands_first = record {
    yielded_are = λ e k. absurd (none_in e k);
    stacked_are = λ e k. elim (in_cases d [] e k) [
      | inl is ↦ subst (Reaches s d) is itself
      | inr none ↦ absurd (none_in e none)
    ];
    yielded = tt;
    stacked = ((λ k. none_in d k), tt);
    apart = λ e k l. none_in e k;
    seen = λ e k. inr k;
    back = λ e k. elim k [
      | inl none ↦ absurd (none_in e none)
      | inr l ↦ l
    ];
    starts = first_in d [];
    closed = λ e f k l. absurd (none_in e k);
  }

  module _ (ys rest reached stack' reached' : List ℕ) (y : ℕ) (h : Stands ys (rest ++ y ∷ []) reached)
      (p : Spreads (supers_named s y) rest reached stack' reached') where
    top_in : Contains (rest ++ y ∷ []) y
    top_in = Contains-push rest y

    rest_in : (e : ℕ) → Contains rest e → Contains (rest ++ y ∷ []) e
    rest_in e k = Contains-append_left rest (y ∷ []) e k

    new_seen : (e : ℕ) → Contains p.new e → Contains reached' e
    new_seen e k = p.all e (p.of_them e k)

    stack_cases : (e : ℕ) → Contains stack' e → Contains rest e ⊎ Contains p.new e
    stack_cases e k = Contains-append_cases rest p.new e (subst (λ z. Contains z e) p.stack_is k)

    in_stack : (e : ℕ) → Contains rest e ⊎ Contains p.new e → Contains stack' e
    in_stack e k = subst (λ z. Contains z e) (sym p.stack_is) (elim k [
      | inl a ↦ Contains-append_left rest p.new e a
      | inr b ↦ Contains-append_right rest p.new e b
    ])

    in_yielded : (e : ℕ) → Contains ys e ⊎ (y ≡ e) → Contains (ys ++ y ∷ []) e
    in_yielded e k = elim k [
      | inl a ↦ Contains-append_left ys (y ∷ []) e a
      | inr is ↦ subst (Contains (ys ++ y ∷ [])) is (Contains-push ys y)
    ]

    stands_next : Stands (ys ++ y ∷ []) stack' reached'
    stands_next = record {
      yielded_are = λ e k. elim (Contains-push_cases ys y e k) [
        | inl a ↦ h.yielded_are e a
        | inr is ↦ subst (Reaches s d) is (h.stacked_are y top_in)
      ];
      stacked_are = λ e k. elim (stack_cases e k) [
        | inl a ↦ h.stacked_are e (rest_in e a)
        | inr b ↦ by_super y e (h.stacked_are y top_in) (p.of_them e b)
      ];
      yielded = distinct_both ys (y ∷ []) h.yielded ((λ k. none_in y k), tt) (λ e a b. elim (in_cases y [] e b) [
        | inl is ↦ h.apart e a (subst (Contains (rest ++ y ∷ [])) is top_in)
        | inr none ↦ none_in e none
      ]);
      stacked = subst IsDistinct (sym p.stack_is) (distinct_both rest p.new (distinct_left rest (y ∷ []) h.stacked)
          p.once (λ e a b. p.fresh e b (h.back e (inr (rest_in e a)))));
      apart = λ e a b. elim (Contains-push_cases ys y e a) [
        | inl o ↦ elim (stack_cases e b) [
          | inl r ↦ h.apart e o (rest_in e r)
          | inr n ↦ p.fresh e n (h.back e (inl o))
        ]
        | inr is ↦ elim (stack_cases e b) [
          | inl r ↦ distinct_apart rest (y ∷ []) h.stacked e r (subst (Contains (y ∷ [])) is (first_in y []))
          | inr n ↦ p.fresh e n (h.back e (inr (subst (Contains (rest ++ y ∷ [])) is top_in)))
        ]
      ];
      seen = λ e k. elim (p.only e k) [
        | inl o ↦ elim (h.seen e o) [
          | inl a ↦ inl (in_yielded e (inl a))
          | inr t ↦ elim (Contains-push_cases rest y e t) [
            | inl r ↦ inr (in_stack e (inl r))
            | inr is ↦ inl (in_yielded e (inr is))
          ]
        ]
        | inr n ↦ inr (in_stack e (inr n))
      ];
      back = λ e k. elim k [
        | inl a ↦ elim (Contains-push_cases ys y e a) [
          | inl o ↦ p.old e (h.back e (inl o))
          | inr is ↦ p.old e (h.back e (inr (subst (Contains (rest ++ y ∷ [])) is top_in)))
        ]
        | inr b ↦ elim (stack_cases e b) [
          | inl r ↦ p.old e (h.back e (inr (rest_in e r)))
          | inr n ↦ new_seen e n
        ]
      ];
      starts = p.old d h.starts;
      closed = λ e f k l. elim (Contains-push_cases ys y e k) [
        | inl a ↦ p.old f (h.closed e f a l)
        | inr is ↦ p.all f (subst (λ z. Contains (supers_named s z) f) (sym is) l)
      ];
    }

  -- Where nothing is left, all that is reached was yielded.
  reached_all : (ys reached : List ℕ) → Stands ys [] reached → (e : ℕ) → Reaches s d e → Contains ys e
  reached_all ys reached h _ itself = elim (h.seen d h.starts) [
    | inl a ↦ a
    | inr b ↦ absurd (none_in d b)
  ]
  reached_all ys reached h _ (by_super e f r k) = elim (h.seen f (h.closed e f (reached_all ys reached h e r) k)) [
    | inl a ↦ a
    | inr b ↦ absurd (none_in f b)
  ]

  stands_all : (ys stack reached : List ℕ) {I : Type 0} (t : Reaching I) → Stands ys stack reached → t.stack ≡ stack →
      ReachesAll s d ys t
  stands_all ys stack reached t h is = record {
    sound = h.yielded_are;
    once = h.yielded;
    all = λ none. reached_all ys reached (subst (λ z. Stands ys z reached) (sym is ∙ none) h);
    small = λ es cover.
        let most = no_more (ys ++ stack) es (distinct_both ys stack h.yielded h.stacked h.apart)
        (λ e k. elim (Contains-append_cases ys stack e k) [
          | inl a ↦ cover e (h.yielded_are e a)
          | inr b ↦ cover e (h.stacked_are e b)
        ]) in
        let long = length-append ys stack in
        let same = ap length is in
        omega (arith, most, long, same);
  }

  -- All that the super-predicates of the first traits are of.
  abbrev named_below : ℕ → List ℕ
  named_below zero = []
  named_below (suc n) = supers_named s n ++ named_below n

  named_in : (n e f : ℕ) → e < n → Contains (supers_named s e) f → Contains (named_below n) f
  named_in zero e f below k = absurd (omega (arith, below))
  named_in (suc n) e f below k = elim (cases_lt e n) [
    | inl less ↦ Contains-append_right (supers_named s n) (named_below n) f (named_in n e f less k)
    | inr more ↦ Contains-append_left (supers_named s n) (named_below n) f
        (subst (λ z. Contains (supers_named s z) f) (omega (arith, below, more)) k)
  ]

  -- Where only the first traits state anything, no others are reached than those.
  finitely_many : (n : ℕ) → ((e : ℕ) → n ≤ e → s.supers e ≡ []) → (e : ℕ) → Reaches s d e →
      Contains (d ∷ named_below n) e
  finitely_many n none _ itself = first_in d (named_below n)
  finitely_many n none _ (by_super e f r k) = later_in d (named_below n) f (named_in n e f (stated_below e k) k)
    where
      stated_below : (e : ℕ) → Contains (supers_named s e) f → e < n
      stated_below e k = elim (cases_lt e n) [
        | inl less ↦ less
        | inr more ↦ absurd (none_in f (subst (λ z. Contains (filter_map trait_named z) f) (none e more) k))
      ]

-- What goes on from one state to another keeps it.
module _ {I Key Id Name : Type 0} (meaning : I → Meaning Key Id Name) (d : ℕ) (c : I) where
  abbrev stated : Statements
  stated = statements (meaning c)

  stands_on : (ds : List (TraitId Id)) (s t : Reaching I) (ys : List ℕ) → s.cx ≡ c →
      Stands stated d ys s.stack s.reached → GoesBy meaning s ds t →
      Stands stated d (ys ++ numbers (meaning c) ds) t.stack t.reached
  stands_on [] s t ys at h r = subst (λ z. Stands stated d (ys ++ []) z.stack z.reached) (sym r)
      (subst (λ z. Stands stated d z s.stack s.reached) (sym (append-nil ys)) h)
  stands_on (x ∷ xs) s t ys at h r =
      let u = r.0 in
      let y = (r.1).2 in
      let n = number (meaning c) x in
      let top : s.stack ≡ y.rest ++ n ∷ [] = subst (λ z. s.stack ≡ y.rest ++ number (meaning z) x ∷ []) at y.top in
      let p : Spreads (supers_named stated n) y.rest s.reached u.stack u.reached =
      subst (λ z. Spreads (supers_named (statements (meaning z)) (number (meaning z) x)) y.rest s.reached u.stack
      u.reached) at y.spreads in
      subst (λ z. Stands stated d z t.stack t.reached) (append_assoc ys (n ∷ []) (numbers (meaning c) xs))
      (stands_on xs u t (ys ++ n ∷ []) (y.cx ∙ at)
      (stands_next stated d ys y.rest s.reached u.stack u.reached n
      (subst (λ z. Stands stated d ys z s.reached) top h) p) r.2)

-- What begins with one trait goes through those that are reached.
pub by_reach : {I Key Id Name : Type 0} (meaning : I → Meaning Key Id Name) (d : ℕ) (s : Reaching I) →
    StatesItsOwn (meaning s.cx) → s.stack ≡ d ∷ [] → s.reached ≡ d ∷ [] → ByReach meaning d s
by_reach meaning d s own stack reached =
    let m = meaning s.cx in
    record {
      runs = λ ds t r. stands_all (statements m) d (numbers m ds) t.stack t.reached t
          (stands_on meaning d s.cx ds s t [] refl
          (subst (λ z. Stands (statements m) d [] z s.reached) (sym stack)
          (subst (λ z. Stands (statements m) d [] (d ∷ []) z) (sym reached) (stands_first (statements m) d))) r) refl;
      ends = (
        d ∷ named_below (statements m) d (own.finite).0,
        finitely_many (statements m) d (own.finite).0 (λ e l. ap (map m.clause) ((own.finite).1 e l)),
      );
    }

-- The set that has one trait.
pub only_one : {K : Type 0} (f : K → ℕ) (k : K) (keys : List K) → IsPermutation (k ∷ []) keys → map f keys ≡ f k ∷ []
only_one f k keys perm = single (f k) (map f keys)
    (let a = length_permutation (k ∷ []) keys perm in let b = map_length f keys in omega (arith, a, b))
    (Contains-permutation (f k ∷ []) (map f keys) (f k) (IsPermutation-map f (k ∷ []) keys perm) (first_in (f k) []))
  where
    single : (n : ℕ) (xs : List ℕ) → length xs ≡ 1 → Contains xs n → xs ≡ n ∷ []
    single n [] l h = absurd (none_in n h)
    single n (x ∷ []) l h = elim (in_cases x [] n h) [
      | inl is ↦ ap (λ z. z ∷ []) is
      | inr none ↦ absurd (none_in n none)
    ]
    single n (x ∷ y ∷ ys) l h = absurd (omega (arith, l))

-- What a clause is of, in a list of its own.
module _ (t : Tree) where
  pub names_none : None ≡ trait_named t → [] ≡ filter_map trait_named (t ∷ [])
  names_none e = ap (λ z. cons_option z []) e

  pub names_one : (d : ℕ) → Some d ≡ trait_named t → d ∷ [] ≡ filter_map trait_named (t ∷ [])
  names_one d e = ap (λ z. cons_option z []) e

filter_mapped : {A B C : Type 0} (h : B → Option C) (f : A → B) (xs : List A) →
    filter_map (λ x. h (f x)) xs ≡ filter_map h (map f xs)
filter_mapped h f [] = refl
filter_mapped h f (x ∷ xs) = ap (cons_option (h (f x))) (filter_mapped h f xs)

-- What a trait states, read one by one with its places.
abbrev pub item_name : {Key Id Name Span : Type 0} → Meaning Key Id Name → ClauseKey Key × Span → Option ℕ
item_name m p = trait_named (m.clause p.0)

module _ {Key Id Name Span : Type 0} (m : Meaning Key Id Name) (d : ℕ) (items : List (ClauseKey Key × Span))
    (is : map (λ p. p.0) items ≡ (m.tables).super_predicates d) where
  pub all_named : filter_map (item_name m) items ≡ supers_named (statements m) d
  all_named = filter_mapped (λ c. trait_named (m.clause c)) (λ p. p.0) items
      ∙ ap (filter_map (λ c. trait_named (m.clause c))) is
      ∙ filter_mapped trait_named m.clause ((m.tables).super_predicates d)

  pub item_known : StatesItsOwn m → (i : ℕ) (x : ClauseKey Key × Span) → i < length items → x ≡ get_or items i x →
      IsTrue (known (m.clause x.0))
  item_known own i x l e =
      let count = map_length (λ p. p.0) items in
      let same = ap length is in
      subst (λ z. IsTrue (known (m.clause z)))
      (ap (λ z. get_or z i x.0) (sym is) ∙ at_map (λ p. p.0) items i x x.0 l ∙ ap (λ p. p.0) (sym e))
      (own.supers d i x.0 (omega (arith, l, count, same))).0

-- One call, by the ids.
module _ {I Key Id Name : Type 0} (meaning : I → Meaning Key Id Name) (c : I) where
  abbrev pub reaching_by : List (TraitId Id) → List (TraitId Id) → Bool → Reaching I
  reaching_by stack keys failed = record {
    cx = c;
    stack = numbers (meaning c) stack;
    reached = numbers (meaning c) keys;
    failed = failed;
  }

  pub goes_none : (stack stack' keys : List (TraitId Id)) (failed : Bool)
      (res : Option (Result (TraitId Id) OutOfMemory)) → failed ≡ false → stack ≡ stack' ++ [] →
      (0 < length stack → IsTrue false) → res ≡ None →
      Goes meaning (reaching_by stack keys failed) res (reaching_by stack' keys failed)
  goes_none stack stack' keys failed res free items bound is =
      subst (λ z. Goes meaning (reaching_by stack keys failed) z (reaching_by stack' keys failed)) (sym is) (
        free,
        ap (numbers (meaning c)) (none_left stack bound),
        ap (λ z. reaching_by z keys failed) (sym (items ∙ append-nil stack')),
      )

  pub goes_one : (stack rest stack' keys keys' : List (TraitId Id)) (x : TraitId Id) (failed : Bool) →
      failed ≡ false → stack ≡ rest ++ x ∷ [] →
      Spreads (supers_named (statements (meaning c)) (number (meaning c) x)) (numbers (meaning c) rest)
      (numbers (meaning c) keys) (numbers (meaning c) stack') (numbers (meaning c) keys') →
      Goes meaning (reaching_by stack keys failed) (Some (Ok x)) (reaching_by stack' keys' failed)
  goes_one stack rest stack' keys keys' x failed free items h = (
    free,
    free,
    record {
      rest = numbers (meaning c) rest;
      top = ap (numbers (meaning c)) items ∙ map_both (number (meaning c)) rest (x ∷ []);
      spreads = h;
      cx = refl;
    },
  )

  pub goes_refused : (stack stack' keys keys' : List (TraitId Id)) (failed : Bool) (e : OutOfMemory) →
      failed ≡ false → Goes meaning (reaching_by stack keys failed) (Some (Err e)) (reaching_by stack' keys' true)
  goes_refused stack stack' keys keys' failed e free =
      (refl, refl, λ bad. absurd (false≢true (sym free ∙ bad)))
