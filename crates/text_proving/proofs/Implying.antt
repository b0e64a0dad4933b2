-- Pulls of an elaboration to its end yield all that clauses imply.
use Rattle.std.proofs.Common.{◌≡◌, false, List, [], ◌∷◌, ◌++◌, refl, sym, ap, subst, map}
use Rattle.std.specs.Prelude.{Some, Result, Ok, Err, IfOk}
use Rattle.std.specs.List.{All}
use Rattle.std.proofs.lemmas.List.Elements.{All-push, All-weaker}
use Rattle.relation_terms.specs.declared.terms.keys.ClauseKey.{ClauseKey}
use Rattle.relation_terms.specs.Meaning.{Meaning, Extends}
use Rattle.relation_terms.proofs.Stays.{knows_clause}
use Rattle.relation_statements.specs.Children.{mode_of}
use Rattle.relation_statements.specs.Closure.{Follows}
use Rattle.relation_statements.specs.Statements.{statements}
use Rattle.relation_elaboration.specs.Pulling.{Elaboration, Pulls, RunsTo, ByClosure}
use Rattle.text_proving.specs.Implied.{IsClosure, PullsToEnd}
use Rattle.text_proving.specs.Made.{KnowsClause, held, rule_giving}

-- The rules of clauses that are held, by their trees.
pub held_trees : {Key Id Name : Type 0} (m : Meaning Key Id Name) (ks : List (ClauseKey Key)) →
    map (held m) ks ≡ map rule_giving (map m.clause ks)
held_trees m [] = refl
held_trees m (k ∷ ks) = ap (λ ts. held m k ∷ ts) (held_trees m ks)

module _ {Key Id Name : Type 0} {m n : Meaning Key Id Name} (e : Extends m n) where
  pub clauses_more : (ks : List (ClauseKey Key)) (k : ClauseKey Key) → All (KnowsClause m) ks → KnowsClause m k →
      All (KnowsClause n) (ks ++ k ∷ [])
  clauses_more ks k h i = All-push (KnowsClause n) ks k
      (All-weaker (KnowsClause m) (KnowsClause n) (λ j s. knows_clause e j s) ks h) (knows_clause e k i)

module _ {I Key Id Name : Type 0} (meaning : I → Meaning Key Id Name) where
  abbrev State : Type 0
  State = Elaboration I (ClauseKey Key) Key Name

  abbrev Run : State → List (ClauseKey Key) → State → Type 0
  Run = RunsTo meaning (λ m k. m.clause k)

  -- A run with one pull more.
  pub run_more : (e f g : State) (ks : List (ClauseKey Key)) (k : ClauseKey Key) → Run e ks f →
      Pulls meaning (λ m k. m.clause k) f (Some (Ok k)) g → Run e (ks ++ k ∷ []) g
  run_more e f g [] k r p = (g, subst (λ z. Pulls meaning (λ m k. m.clause k) z (Some (Ok k)) g) r p, refl)
  run_more e f g (j ∷ ks) k r p = (r.0, r.1, run_more r.0 f g ks k r.2 p)

  pub run_ends : (e f g : State) (ks : List (ClauseKey Key)) → Run e ks f → f.stack ≡ [] → g ≡ f →
      PullsToEnd meaning e ks g
  run_ends e f g ks r s is = subst (λ z. PullsToEnd meaning e ks z) (sym is) (r, s)

  -- What was yielded to the end is the closure.
  pub run_closes : (m : Meaning Key Id Name) (given ks : List (ClauseKey Key)) (e f : State) →
      ByClosure meaning (λ m k. m.clause k) m given e → e.mode ≡ mode_of false false → PullsToEnd meaning e ks f →
      IsClosure (statements m) (map m.clause given) (map (meaning f.cx).clause ks)
  run_closes m given ks e f by mode runs =
      let z = by e.mode ks f runs.0 in
      record {
        sound = λ y h. subst (λ w. Follows (statements m) w (map m.clause given) y) mode (z.sound y h);
        once = z.once;
        complete = λ own p h. z.all (ap (map (meaning f.cx).clause) runs.1) own p
            (subst (λ w. Follows (statements m) w (map m.clause given) p) (sym mode) h);
      }
