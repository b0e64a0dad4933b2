-- Runs of an elaboration yield the closure.
use Rattle.std.proofs.Common.{ℕ, ◌+◌, ◌≤◌, ◌≡◌, ◌⊎◌, sym, ap, ◌∙◌, subst, arith, inl, inr}
use Rattle.std.proofs.Common.{List, [], ◌∷◌, ◌++◌, map, length}
use Rattle.std.proofs.Common.{length-append, append-nil}
use Rattle.std.proofs.lemmas.List.{append_assoc}
use Rattle.std.proofs.lemmas.List.Elements.{Contains-append_cases, Contains-append_left}
use Rattle.std.proofs.lemmas.List.Elements.{Contains-append_right, Contains-push_cases}
use Rattle.std.specs.List.{Contains}
use Rattle.relation_terms.specs.Trees.{Tree, leaf, node, bind, nil, cons}
use Rattle.anonymize.specs.Renamings.{RenamingsAreOne}
use Rattle.relation_terms.specs.Owned.{BindsWithin}
use Rattle.relation_statements.specs.Children.{Statements, Mode, children}
use Rattle.relation_statements.specs.Closure.{Follows, AreSame, HasSame, AreDifferent}
use Rattle.relation_statements.specs.Closure.Follows.{given_one, implied_by}
use Rattle.elaboration_worklist.specs.Pushes.{anon, IsDistinct, Pushes, IsFull}
use Rattle.relation_statements.specs.Runs.{Standing, Yields, Begins, Runs, StatesWithin}
use Rattle.relation_statements.specs.Runs.{Closes, AreTooMany}
use Rattle.relation_statements.specs.Runs.{EachRunCloses}
use Rattle.relation_statements.proofs.Implying.{is_binder, renamings_imply}
use Rattle.elaboration_worklist.proofs.Members.{none_in, later_in, in_cases, map_in, from_map, map_both, map_length}
use Rattle.elaboration_worklist.proofs.Distinct.{Apart, distinct_both, distinct_left, distinct_apart, no_more}
use Rattle.relation_statements.proofs.Keeping.{follows_within}
use Rattle.std.proofs.lemmas.Bool.{false≢true}
use Rattle.relation_folds.proofs.Lists.{first_in}

module _ (one : RenamingsAreOne) (name : ℕ) where
  -- Predicates are the same but for renaming where one tree stands for both.
  pub same_anon : (p q : Tree) → AreSame p q → (anon name) p ≡ (anon name) q
  same_anon (bind ks t) (bind ls u) r = (one name ks ls t u).0 r
  same_anon (bind ks t) (leaf l) r = ap (anon name) (sym r)
  same_anon (bind ks t) (node h ts) r = ap (anon name) (sym r)
  same_anon (bind ks t) nil r = ap (anon name) (sym r)
  same_anon (bind ks t) (cons u us) r = ap (anon name) (sym r)
  same_anon (leaf l) q r = ap (anon name) (sym r)
  same_anon (node h ts) q r = ap (anon name) (sym r)
  same_anon nil q r = ap (anon name) (sym r)
  same_anon (cons t ts) q r = ap (anon name) (sym r)

  pub anon_same : (p q : Tree) → (anon name) p ≡ (anon name) q → AreSame p q
  anon_same (bind ks t) (bind ls u) e = (one name ks ls t u).1 e
  anon_same (bind ks t) (leaf l) e = absurd (false≢true (sym (ap is_binder e)))
  anon_same (bind ks t) (node h ts) e = absurd (false≢true (sym (ap is_binder e)))
  anon_same (bind ks t) nil e = absurd (false≢true (sym (ap is_binder e)))
  anon_same (bind ks t) (cons u us) e = absurd (false≢true (sym (ap is_binder e)))
  anon_same (leaf l) (bind ls u) e = absurd (false≢true (ap is_binder e))
  anon_same (leaf l) q e = sym e
  anon_same (node h ts) (bind ls u) e = absurd (false≢true (ap is_binder e))
  anon_same (node h ts) q e = sym e
  anon_same nil (bind ls u) e = absurd (false≢true (ap is_binder e))
  anon_same nil q e = sym e
  anon_same (cons t ts) (bind ls u) e = absurd (false≢true (ap is_binder e))
  anon_same (cons t ts) q e = sym e

  -- Where different trees stand for them, predicates are different.
  pub different : (ys : List Tree) → IsDistinct (map (anon name) ys) → AreDifferent ys
  different [] d = tt
  different (y ∷ ys) d = (
    λ h. d.0 (subst (λ z. Contains (map (anon name) ys) z) (same_anon h.0 y h.2) (map_in (anon name) ys h.0 h.1)),
    different ys d.1,
  )

  module _ (s : Statements) (m : Mode) (given : List Tree) where
    -- What holds between pulls, after these were yielded.
    record Stands (w : Standing) (ys : List Tree) : Type 0 where
      yielded_follow : (y : Tree) → Contains ys y → Follows s m given y
      stacked_follow : (y : Tree) → Contains w.stack y → Follows s m given y
      yielded : IsDistinct (map (anon name) ys)
      stacked : IsDistinct (map (anon name) w.stack)
      apart : Apart (map (anon name) ys) (map (anon name) w.stack)
      seen : (q : Tree) → Contains w.visited q → Contains (map (anon name) ys) q ⊎ Contains (map (anon name) w.stack) q
      back : (q : Tree) → Contains (map (anon name) ys) q ⊎ Contains (map (anon name) w.stack) q → Contains w.visited q
      starts : (g : Tree) → Contains given g → Contains w.visited ((anon name) g)
      closed : (y c : Tree) → Contains ys y → Contains (children s m y) c → Contains w.visited ((anon name) c)
      count : length w.visited ≡ length ys + length w.stack
      fits : length w.visited ≤ w.limit

    new_visited : (cs stack visited stack' visited' : List Tree) (limit : ℕ) (h : Pushes name cs stack visited stack'
        visited' limit)
        (q : Tree) → Contains (map (anon name) h.new) q → Contains visited' q
    new_visited cs stack visited stack' visited' limit h q k =
        let r = from_map (anon name) h.new q k in
        subst (λ z. Contains visited' z) r.2 (h.all r.0 (h.of_them r.0 r.1))

    stands_first : (w : Standing) → Begins name given w → Stands w []
    stands_first w h = record {
      yielded_follow = λ y k. absurd (none_in y k);
      stacked_follow = λ y k. given_one y (h.of_them y (subst (λ z. Contains z y) h.stack_is k));
      yielded = tt;
      stacked = subst (λ z. IsDistinct (map (anon name) z)) (sym h.stack_is) h.once;
      apart = λ q k l. none_in q k;
      seen = λ q k. elim (h.only q k) [
        | inl none ↦ absurd (none_in q none)
        | inr new ↦ inr (subst (λ z. Contains (map (anon name) z) q) (sym h.stack_is) new)
      ];
      back = λ q k. elim k [
        | inl none ↦ absurd (none_in q none)
        | inr new ↦ new_visited given [] [] w.stack w.visited w.limit h q
            (subst (λ z. Contains (map (anon name) z) q) h.stack_is new)
      ];
      starts = λ g k. h.all g k;
      closed = λ y c k l. absurd (none_in y k);
      count = (let a = h.added in let e = ap length h.stack_is in omega (arith, a, e));
      fits = h.fits;
    }

    module _ (w v : Standing) (ys : List Tree) (x : Tree) (h : Stands w ys) (p : Yields name s m w x v) where
      abbrev new : List Tree
      new = (p.pushes).new

      top_in : Contains w.stack x
      top_in = subst (λ z. Contains z x) (sym p.top) (Contains-append_right p.rest (x ∷ []) x (first_in x []))

      rest_in : (y : Tree) → Contains p.rest y → Contains w.stack y
      rest_in y k = subst (λ z. Contains z y) (sym p.top) (Contains-append_left p.rest (x ∷ []) y k)

      stack_cases : (y : Tree) → Contains v.stack y → Contains p.rest y ⊎ Contains new y
      stack_cases y k = Contains-append_cases p.rest new y (subst (λ z. Contains z y) (p.pushes).stack_is k)

      -- The same of what stands for them.
      all_top : map (anon name) w.stack ≡ map (anon name) p.rest ++ (anon name) x ∷ []
      all_top = ap (map (anon name)) p.top ∙ map_both (anon name) p.rest (x ∷ [])

      all_new : map (anon name) v.stack ≡ map (anon name) p.rest ++ map (anon name) new
      all_new = ap (map (anon name)) (p.pushes).stack_is ∙ map_both (anon name) p.rest new

      all_yielded : map (anon name) (ys ++ x ∷ []) ≡ map (anon name) ys ++ (anon name) x ∷ []
      all_yielded = map_both (anon name) ys (x ∷ [])

      rest_seen : (q : Tree) → Contains (map (anon name) p.rest) q → Contains (map (anon name) w.stack) q
      rest_seen q k = subst (λ z. Contains z q) (sym all_top) (Contains-append_left (map (anon name) p.rest) ((anon
          name) x ∷ []) q k)

      top_seen : Contains (map (anon name) w.stack) ((anon name) x)
      top_seen = subst (λ z. Contains z ((anon name) x)) (sym all_top)
          (Contains-append_right (map (anon name) p.rest) ((anon name) x ∷ []) ((anon name) x) (first_in ((anon name)
          x) []))

      top_apart : IsDistinct (map (anon name) p.rest ++ (anon name) x ∷ [])
      top_apart = subst IsDistinct all_top h.stacked

      yielded_cases : (q : Tree) → Contains (map (anon name) (ys ++ x ∷ [])) q → Contains (map (anon name) ys) q ⊎
          ((anon name) x ≡ q)
      yielded_cases q k = Contains-push_cases (map (anon name) ys) ((anon name) x) q (subst (λ z. Contains z q)
          all_yielded k)

      seen_cases : (q : Tree) → Contains (map (anon name) v.stack) q → Contains (map (anon name) p.rest) q ⊎ Contains
          (map (anon name) new) q
      seen_cases q k = Contains-append_cases (map (anon name) p.rest) (map (anon name) new) q (subst (λ z. Contains z
          q) all_new k)

      yielded_in : (q : Tree) → Contains (map (anon name) ys) q ⊎ ((anon name) x ≡ q) → Contains (map (anon name) (ys
          ++ x ∷ [])) q
      yielded_in q k = subst (λ z. Contains z q) (sym all_yielded) (elim k [
        | inl a ↦ Contains-append_left (map (anon name) ys) ((anon name) x ∷ []) q a
        | inr e ↦ subst (λ z. Contains (map (anon name) ys ++ (anon name) x ∷ []) z) e
            (Contains-append_right (map (anon name) ys) ((anon name) x ∷ []) ((anon name) x) (first_in ((anon name) x)
            []))
      ])

      now_in : (q : Tree) → Contains (map (anon name) p.rest) q ⊎ Contains (map (anon name) new) q → Contains (map
          (anon name) v.stack) q
      now_in q k = subst (λ z. Contains z q) (sym all_new) (elim k [
        | inl a ↦ Contains-append_left (map (anon name) p.rest) (map (anon name) new) q a
        | inr b ↦ Contains-append_right (map (anon name) p.rest) (map (anon name) new) q b
      ])

      stands_next : Stands v (ys ++ x ∷ [])
      stands_next = record {
        yielded_follow = λ y k. elim (Contains-push_cases ys x y k) [
          | inl a ↦ h.yielded_follow y a
          | inr e ↦ subst (λ z. Follows s m given z) e (h.stacked_follow x top_in)
        ];
        stacked_follow = λ y k. elim (stack_cases y k) [
          | inl a ↦ h.stacked_follow y (rest_in y a)
          | inr b ↦ implied_by x y (h.stacked_follow x top_in) ((p.pushes).of_them y b)
        ];
        yielded = subst IsDistinct (sym all_yielded) (distinct_both (map (anon name) ys) ((anon name) x ∷ []) h.yielded
            ((λ k. none_in ((anon name) x) k), tt)
            (λ q a b. elim (in_cases ((anon name) x) [] q b) [
              | inl e ↦ h.apart q a (subst (λ z. Contains (map (anon name) w.stack) z) e top_seen)
              | inr n ↦ none_in q n
            ]));
        stacked = subst IsDistinct (sym all_new) (distinct_both (map (anon name) p.rest) (map (anon name) new)
            (distinct_left (map (anon name) p.rest) ((anon name) x ∷ []) top_apart) (p.pushes).once
            (λ q a b. (p.pushes).fresh q b (h.back q (inr (rest_seen q a)))));
        apart = λ q a b. elim (yielded_cases q a) [
          | inl y ↦ elim (seen_cases q b) [
            | inl r ↦ h.apart q y (rest_seen q r)
            | inr n ↦ (p.pushes).fresh q n (h.back q (inl y))
          ]
          | inr e ↦ elim (seen_cases q b) [
            | inl r ↦ distinct_apart (map (anon name) p.rest) ((anon name) x ∷ []) top_apart q r
                (subst (λ z. Contains ((anon name) x ∷ []) z) e (first_in ((anon name) x) []))
            | inr n ↦ (p.pushes).fresh q n (h.back q (inr (subst (λ z. Contains (map (anon name) w.stack) z) e
                top_seen)))
          ]
        ];
        seen = λ q k. elim ((p.pushes).only q k) [
          | inl before ↦ elim (h.seen q before) [
            | inl y ↦ inl (yielded_in q (inl y))
            | inr t ↦ elim (Contains-push_cases (map (anon name) p.rest) ((anon name) x) q (subst (λ z. Contains z q)
                all_top t)) [
                  | inl r ↦ inr (now_in q (inl r))
                  | inr e ↦ inl (yielded_in q (inr e))
                ]
          ]
          | inr n ↦ inr (now_in q (inr n))
        ];
        back = λ q k. elim k [
          | inl a ↦ elim (yielded_cases q a) [
            | inl y ↦ (p.pushes).old q (h.back q (inl y))
            | inr e ↦ (p.pushes).old q (h.back q (inr (subst (λ z. Contains (map (anon name) w.stack) z) e top_seen)))
          ]
          | inr b ↦ elim (seen_cases q b) [
            | inl r ↦ (p.pushes).old q (h.back q (inr (rest_seen q r)))
            | inr n ↦ new_visited (children s m x) p.rest w.visited v.stack v.visited v.limit p.pushes q n
          ]
        ];
        starts = λ g k. (p.pushes).old ((anon name) g) (h.starts g k);
        closed = λ y c k l. elim (Contains-push_cases ys x y k) [
          | inl a ↦ (p.pushes).old ((anon name) c) (h.closed y c a l)
          | inr e ↦ (p.pushes).all c (subst (λ z. Contains (children s m z) c) (sym e) l)
        ];
        count = (
            let a = (p.pushes).added in
            let b = h.count in
            let c = ap length p.top in
            let d = ap length (p.pushes).stack_is in
            let e = length-append p.rest (x ∷ []) in
            let f = length-append p.rest new in
            let g = length-append ys (x ∷ []) in
            omega (arith, a, b, c, d, e, f, g)
            );
        fits = (p.pushes).fits;
      }

    stands_on : (w v : Standing) (ys xs : List Tree) → Stands w ys → Runs name s m w xs v → Stands v (ys ++ xs)
    stands_on w v ys [] h r = subst (λ z. Stands z (ys ++ [])) (sym r) (subst (λ z. Stands w z) (sym (append-nil ys)) h)
    stands_on w v ys (x ∷ xs) h r =
        subst (λ z. Stands v z) (append_assoc ys (x ∷ []) xs)
        (stands_on r.0 v (ys ++ x ∷ []) xs (stands_next w r.0 ys x h r.1) r.2)

    module _ (states : StatesWithin s) (v : Standing) (ys : List Tree) (h : Stands v ys) where
      -- Where nothing is left, all that follows was visited.
      reached : v.stack ≡ [] → ((g : Tree) → Contains given g → BindsWithin g) → (p : Tree) → Follows s m given p →
          Contains v.visited ((anon name) p)
      reached none all _ (given_one p k) = h.starts p k
      reached none all _ (implied_by p c f k) =
          let y = visited_yielded none ((anon name) p) (reached none all p f) in
          let same = anon_same p y.0 (sym y.2) in
          let r = renamings_imply s m p y.0 (follows_within s m states given all p f)
          (follows_within s m states given all y.0 (h.yielded_follow y.0 y.1)) same c k in
          subst (λ z. Contains v.visited z) (same_anon r.0 c r.2) (h.closed y.0 r.0 y.1 r.1)
        where
          visited_yielded : v.stack ≡ [] → (q : Tree) → Contains v.visited q → (y : Tree) × Contains ys y × ((anon
              name) y ≡ q)
          visited_yielded none q k = elim (h.seen q k) [
            | inl a ↦ from_map (anon name) ys q a
            | inr b ↦ absurd (none_in q (subst (λ z. Contains (map (anon name) z) q) none b))
          ]

      module _ (cs : List Tree) (cover : (p : Tree) → Follows s m given p → HasSame cs p) where
        has : (y : Tree) → Follows s m given y → Contains (map (anon name) cs) ((anon name) y)
        has y f =
            let r = cover y f in
            subst (λ z. Contains (map (anon name) cs) z) (same_anon r.0 y r.2) (map_in (anon name) cs r.0 r.1)

        in_cover : (q : Tree) → Contains (map (anon name) ys ++ map (anon name) v.stack) q → Contains (map (anon name)
            cs) q
        in_cover q k = elim (Contains-append_cases (map (anon name) ys) (map (anon name) v.stack) q k) [
          | inl a ↦ (let y = from_map (anon name) ys q a in subst (λ z. Contains (map (anon name) cs) z) y.2 (has y.0
              (h.yielded_follow y.0 y.1)))
          | inr b ↦ (let y = from_map (anon name) v.stack q b in subst (λ z. Contains (map (anon name) cs) z) y.2 (has
              y.0 (h.stacked_follow y.0 y.1)))
        ]

        covered : length ys + length v.stack ≤ length cs
        covered =
            let most = no_more (map (anon name) ys ++ map (anon name) v.stack) (map (anon name) cs)
            (distinct_both (map (anon name) ys) (map (anon name) v.stack) h.yielded h.stacked h.apart) in_cover in
            let a = length-append (map (anon name) ys) (map (anon name) v.stack) in
            let b = map_length (anon name) ys in
            let c = map_length (anon name) v.stack in
            let d = map_length (anon name) cs in
            omega (arith, most, a, b, c, d)

      closes : Closes name s m given ys v
      closes = record {
        sound = h.yielded_follow;
        once = different ys h.yielded;
        all = λ none all p f. elim (h.seen ((anon name) p) (reached none all p f)) [
          | inl a ↦ (let y = from_map (anon name) ys ((anon name) p) a in (y.0, y.1, anon_same y.0 p y.2))
          | inr b ↦ absurd (none_in ((anon name) p) (subst (λ z. Contains (map (anon name) z) ((anon name) p)) none b))
        ];
        ends = (let a = h.count in let b = h.fits in omega (arith, a, b));
        small = covered;
        no_limit = λ cs cover room rest x top full.
            let followed = h.stacked_follow x (subst (λ z. Contains z x) (sym top)
            (Contains-append_right rest (x ∷ []) x (first_in x []))) in
            let all = map (anon name) ys ++ map (anon name) v.stack in
            let most = no_more (all ++ map (anon name) full.more) (map (anon name) cs)
            (distinct_both all (map (anon name) full.more)
            (distinct_both (map (anon name) ys) (map (anon name) v.stack) h.yielded h.stacked h.apart) full.once
            (λ q a b. full.fresh q b (h.back q (Contains-append_cases (map (anon name) ys) (map (anon name) v.stack) q
            a))))
            (λ q k. elim (Contains-append_cases all (map (anon name) full.more) q k) [
              | inl a ↦ in_cover cs cover q a
              | inr b ↦ (
                  let y = from_map (anon name) full.more q b in
                  subst (λ z. Contains (map (anon name) cs) z) y.2
                  (has cs cover y.0 (implied_by x y.0 followed (full.of_them y.0 y.1)))
                  )
            ]) in
            let a = length-append all (map (anon name) full.more) in
            let b = length-append (map (anon name) ys) (map (anon name) v.stack) in
            let c = map_length (anon name) ys in
            let d = map_length (anon name) v.stack in
            let e = map_length (anon name) full.more in
            let f = map_length (anon name) cs in
            let k = h.count in
            let t = full.too_many in
            omega (arith, most, a, b, c, d, e, f, k, t, room);
      }

pub runs_close : RenamingsAreOne → EachRunCloses
runs_close one name s m given ys w v states begins runs =
    closes one name s m given states v ys
    (stands_on one name s m given w v [] ys (stands_first one name s m given w begins) runs)

-- Where there is no room for predicates though nothing was visited, too many of them are different.
pub too_many : RenamingsAreOne → (name : ℕ) (cs : List Tree) (limit : ℕ) → IsFull name cs [] limit → AreTooMany cs limit
too_many one name cs limit full = record {
  more = full.more;
  of_them = full.of_them;
  differ = different one name full.more full.once;
  too_many = (let t = full.too_many in omega (arith, t));
}
