-- What is found of an elaboration that goes to super-predicates alone are the traits of its closure.
use Rattle.std.proofs.Common.{◌≡◌, ◌<◌, ◌∙◌, inl, inr, refl, sym, ap, ap₂, subst, arith, ℕ, true, false}
use Rattle.std.proofs.Common.{List, [], ◌∷◌, ◌++◌, map, length, append-nil, Some, Ok}
use Rattle.std.specs.List.{Contains, filter_map, cons_option}
use Rattle.std.proofs.lemmas.List.Elements.{filter_map-append}
use Rattle.term_enums.specs.declared.PredicatePolarity.TheVariants.{Positive}
use Rattle.relation_terms.specs.Trees.{Tree}
use Rattle.relation_terms.specs.Meaning.{Meaning, Extends}
use Rattle.relation_terms.specs.Owned.{bound_tree, StatesItsOwn}
use Rattle.relation_terms.specs.Conversions.{trait_clause_tree}
use Rattle.relation_terms.specs.declared.predicate.trait_ref.TraitRef.{TraitRef}
use Rattle.relation_terms.specs.declared.terms.binder.Binder.{Binder}
use Rattle.relation_terms.specs.declared.terms.keys.ClauseKey.{ClauseKey}
use Rattle.relation_terms.proofs.Stays.{stays_same, extends_on, knows_clause}
use Rattle.anonymize.proofs.Renamings.{renamings_are_one}
use Rattle.relation_statements.specs.Statements.{statements}
use Rattle.relation_statements.specs.Closure.{AreSame, AreDifferent}
use Rattle.relation_statements.specs.Runs.{Closes, AreTooMany}
use Rattle.relation_statements.specs.Children.{mode_of}
use Rattle.relation_elaboration.specs.Pulling.{Elaboration, Pulls, RunsTo, ByClosure, standing, named}
use Rattle.relation_statements.specs.TraitClauses.{reference_of}
use Rattle.relation_elaboration.specs.Finding.{PassesOver, FindsNext, FindsAll, TraitsByClosure}
use Rattle.elaboration_worklist.proofs.Members.{later_in, in_cases, map_both}
use Rattle.elaboration_worklist.proofs.Members.{none_in}
use Rattle.relation_statements.proofs.Growing.{states_stay, stays_bound}
use Rattle.relation_statements.proofs.Closing.{anon_same}
use Rattle.relation_folds.proofs.Lists.{first_in}

module _ {I Key Id Name : Type 0} (meaning : I → Meaning Key Id Name) where
  abbrev State : Type 0
  State = Elaboration I (ClauseKey Key) Key Name

  abbrev Run : State → List (ClauseKey Key) → State → Type 0
  Run = RunsTo meaning (λ m c. m.clause c)

  run_both : (e f g : State) (cs ds : List (ClauseKey Key)) → Run e cs f → Run f ds g → Run e (cs ++ ds) g
  run_both e f g [] ds r q = subst (λ z. Run z ds g) r q
  run_both e f g (c ∷ cs) ds r q = (r.0, r.1, run_both r.0 f g cs ds r.2 q)

  -- What was pulled keeps its tree.
  pulled_stays : (e u : State) (c : ClauseKey Key) (n : Meaning Key Id Name) → Pulls meaning (λ m c. m.clause c) e
      (Some (Ok c)) u → Extends (meaning u.cx) n → Extends (meaning e.cx) n × (n.clause c ≡ (meaning u.cx).clause c)
  pulled_stays e u c n p on =
      (extends_on (p.2).grown on, on.clause c (knows_clause (p.2).grown c p.3))

  passed_runs : (e u : State) (cs : List (ClauseKey Key)) (n : Meaning Key Id Name) →
      PassesOver meaning (λ z. z.cx) (Pulls meaning (λ m c. m.clause c)) e cs u → Extends (meaning u.cx) n →
      Run e cs u × Extends (meaning e.cx) n × (filter_map reference_of (map n.clause cs) ≡ [])
  passed_runs e u [] n p on = (p, subst (λ z. Extends (meaning z.cx) n) p on, refl)
  passed_runs e u (c ∷ cs) n p on =
      let later = passed_runs p.0 u cs n p.3 on in
      let o = pulled_stays e p.0 c n p.1 later.1 in
      let rest = filter_map reference_of (map n.clause cs) in (
        (p.0, p.1, later.0),
        o.0,
        ap (λ z. cons_option (reference_of z) rest) o.1 ∙ ap (λ z. cons_option z rest) p.2 ∙ later.2,
      )

  found_one : (e g : State) (b : Binder Key (TraitRef Key Id)) (n : Meaning Key Id Name) →
      FindsNext meaning e (Some (Ok b)) g → Extends (meaning g.cx) n → (ys : List (ClauseKey Key)) × Run e ys g ×
      Extends (meaning e.cx) n × (filter_map reference_of (map n.clause ys) ≡ bound_tree n b ∷ [])
  found_one e g b n h on =
      let cs = h.0 in
      let u = h.1 in
      let s = h.3 in
      let c = s.0 in
      let o = pulled_stays u g c n s.1 on in
      let first = passed_runs e u cs n h.2 o.0 in (
        cs ++ c ∷ [],
        run_both e u g cs (c ∷ []) first.0 (g, s.1, refl),
        first.1,
        ap (filter_map reference_of) (map_both n.clause cs (c ∷ []))
            ∙ filter_map-append reference_of (map n.clause cs) (n.clause c ∷ [])
            ∙ ap (λ z. z ++ cons_option (reference_of (n.clause c)) []) first.2
            ∙ ap (λ z. cons_option (reference_of z) []) o.1 ∙ ap (λ z. cons_option z []) s.2
            ∙ ap (λ z. z ∷ []) (sym (stays_bound on b s.3)),
      )

  found_all : (bs : List (Binder Key (TraitRef Key Id))) (e f : State) (n : Meaning Key Id Name) →
      FindsAll meaning e bs f → Extends (meaning f.cx) n → (ys : List (ClauseKey Key)) × Run e ys f ×
      Extends (meaning e.cx) n × (filter_map reference_of (map n.clause ys) ≡ map (bound_tree n) bs)
  found_all [] e f n r on = ([], r, subst (λ z. Extends (meaning z.cx) n) r on, refl)
  found_all (b ∷ bs) e f n r on =
      let later = found_all bs r.0 f n r.2 on in
      let first = found_one e r.0 b n r.1 later.2 in (
        first.0 ++ later.0,
        run_both e r.0 f first.0 later.0 first.1 later.1,
        first.2,
        ap (filter_map reference_of) (map_both n.clause first.0 later.0)
            ∙ filter_map-append reference_of (map n.clause first.0) (map n.clause later.0)
            ∙ ap₂ (λ y z. y ++ z) first.3 later.3,
      )

  module _ {m n : Meaning Key Id Name} (own : StatesItsOwn m) (grown : Extends m n) (b : Binder Key (TraitRef Key Id))
      (k : ClauseKey Key) (is : n.clause k ≡ trait_clause_tree m Positive b) (d e : State)
      (by : ByClosure meaning (λ m c. m.clause c) n (k ∷ []) d)
      (only : e ≡ record d { mode = mode_of true false }) where
    abbrev Closed : List (ClauseKey Key) → State → Type 0
    Closed ys f = Closes (named meaning (λ m c. m.clause c) e) (statements m) (mode_of true false)
        (trait_clause_tree m Positive b ∷ []) (map (meaning f.cx).clause ys) (standing meaning (λ m c. m.clause c) f)

    closed : (ys : List (ClauseKey Key)) (f : State) → Run e ys f → Closed ys f
    closed ys f r =
        let v = standing meaning (λ m c. m.clause c) f in
        let ts = map (meaning f.cx).clause ys in
        subst (λ z. Closes z (statements m) (mode_of true false) (trait_clause_tree m Positive b ∷ []) ts v)
        (sym (ap (named meaning (λ m c. m.clause c)) only))
        (subst (λ z. Closes (named meaning (λ m c. m.clause c) d) z (mode_of true false)
        (trait_clause_tree m Positive b ∷ []) ts v) (states_stay grown own)
        (subst (λ z. Closes (named meaning (λ m c. m.clause c) d) (statements n) (mode_of true false) (z ∷ []) ts v) is
        (by (mode_of true false) ys f (subst (λ z. Run z ys f) only r))))

    pub traits_closed : TraitsByClosure meaning m b e
    traits_closed = record {
      found = λ bs f r.
          let h = found_all bs e f (meaning f.cx) r (stays_same (meaning f.cx)) in
          record { pulled = map (meaning f.cx).clause h.0; found_is = h.3; closes = closed h.0 f h.1 };
      ended = λ bs f g r q.
          let cs = q.0 in
          let u = q.1 in
          let end = q.3 in
          let n = meaning g.cx in
          let p = passed_runs f u cs n q.2
          (subst (λ z. Extends (meaning u.cx) (meaning z.cx)) (sym end.2) (stays_same (meaning u.cx))) in
          let h = found_all bs e f n r p.1 in
          let ys = h.0 ++ cs in (
            record {
              pulled = map n.clause ys;
              found_is = ap (filter_map reference_of) (map_both n.clause h.0 cs)
                  ∙ filter_map-append reference_of (map n.clause h.0) (map n.clause cs) ∙ ap₂ (λ y z. y ++ z) h.3 p.2
                  ∙ append-nil (map (bound_tree n) bs);
              closes = closed ys g (run_both e f g h.0 cs h.1 (subst (λ z. Run f cs z) (sym end.2) p.0));
            },
            ap (λ z. z.stack) end.2 ∙ end.1,
          );
    }

-- Of one predicate too many are different only where none is allowed.
pub one_too_many : (t : Tree) (limit : ℕ) → AreTooMany (t ∷ []) limit → limit ≡ 0
one_too_many t limit h = by_count h.more h.of_them h.differ h.too_many
  where
    same : (x : Tree) → Contains (t ∷ []) x → t ≡ x
    same x k = elim (in_cases t [] x k) [
      | inl is ↦ is
      | inr none ↦ absurd (none_in x none)
    ]

    by_count : (xs : List Tree) → ((x : Tree) → Contains xs x → Contains (t ∷ []) x) → AreDifferent xs →
        limit < length xs → limit ≡ 0
    by_count [] of_them differ many = absurd (omega (arith, many))
    by_count (x ∷ []) of_them differ many = omega (arith, many)
    by_count (x ∷ y ∷ ys) of_them differ many =
        let second = later_in x (y ∷ ys) y (first_in y ys) in
        let alike : y ≡ x = sym (same y (of_them y second)) ∙ same x (of_them x (first_in x (y ∷ ys))) in
        absurd (differ.0 (y, first_in y ys, subst (AreSame y) alike (anon_same renamings_are_one 0 y y refl)))
