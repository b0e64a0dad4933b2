-- Runs of pulls of an elaborator yield the closure.
use Rattle.std.proofs.Common.{◌≡◌, ◌∙◌, sym, ap, subst, IsTrue, List, [], ◌∷◌, map}
use Rattle.relation_terms.specs.Trees.{Tree, known}
use Rattle.relation_terms.specs.Meaning.{Meaning, Extends}
use Rattle.relation_terms.specs.Owned.{StatesItsOwn}
use Rattle.relation_terms.proofs.Stays.{stays_same, extends_on}
use Rattle.anonymize.proofs.Renamings.{renamings_are_one}
use Rattle.relation_statements.specs.Statements.{statements}
use Rattle.elaboration_worklist.specs.Pushes.{Pushes}
use Rattle.relation_statements.specs.Runs.{Yields, Runs}
use Rattle.relation_elaboration.specs.Pulling.{Elaboration, standing, named, RunsTo, ByClosure}
use Rattle.relation_statements.proofs.Growing.{states_stay, states_within}
use Rattle.relation_statements.proofs.Closing.{runs_close}

module _ {I Key Id Name O : Type 0} (meaning : I → Meaning Key Id Name) (tree : Meaning Key Id Name → O → Tree)
    (stays : (m n : Meaning Key Id Name) → Extends m n → (o : O) → IsTrue (known (tree m o)) → tree n o ≡ tree m o)
    (m : Meaning Key Id Name) (own : StatesItsOwn m) where
  -- A run of pulls, by trees.
  pub runs_of : (e f : Elaboration I O Key Name) (ys : List O) → Extends m (meaning e.cx) →
      RunsTo meaning tree e ys f → Extends (meaning e.cx) (meaning f.cx) ×
      Runs (named meaning tree e) (statements m) e.mode (standing meaning tree e) (map (tree (meaning f.cx)) ys)
      (standing meaning tree f)
  runs_of e f [] on r = (
    subst (λ z. Extends (meaning e.cx) (meaning z.cx)) (sym r) (stays_same (meaning e.cx)),
    ap (standing meaning tree) r,
  )
  runs_of e f (y ∷ ys) on r =
      let g = r.0 in
      let p = r.1 in
      let keeps = p.2 in
      let later = runs_of g f ys (extends_on on keeps.grown) r.2 in
      let far = extends_on keeps.grown later.0 in
      let name : named meaning tree g ≡ named meaning tree e =
      ap (meaning g.cx).name keeps.name ∙ (keeps.grown).name e.name in
      let is : tree (meaning f.cx) y ≡ tree (meaning e.cx) y = stays (meaning e.cx) (meaning f.cx) far y p.3 in
      let first : Yields (named meaning tree e) (statements m) e.mode (standing meaning tree e) (tree (meaning f.cx) y)
      (standing meaning tree g) =
      subst (λ z. Yields (named meaning tree e) (statements m) e.mode (standing meaning tree e) z
      (standing meaning tree g))
      (sym is)
      (subst (λ z. Yields (named meaning tree e) z e.mode (standing meaning tree e) (tree (meaning e.cx) y)
      (standing meaning tree g)) (states_stay on own) p.4) in
      let rest : Runs (named meaning tree e) (statements m) e.mode (standing meaning tree g)
      (map (tree (meaning f.cx)) ys) (standing meaning tree f) =
      subst (λ z. Runs z (statements m) e.mode (standing meaning tree g) (map (tree (meaning f.cx)) ys)
      (standing meaning tree f)) name
      (subst (λ z. Runs (named meaning tree g) (statements m) z (standing meaning tree g) (map (tree (meaning f.cx)) ys)
      (standing meaning tree f)) keeps.mode later.1) in
      (far, (standing meaning tree g, first, rest))

  -- What begins with predicates yields their closure.
  pub closes_from : (given : List O) (e : Elaboration I O Key Name) → Extends m (meaning e.cx) →
      Pushes (named meaning tree e) (map (tree m) given) [] [] (standing meaning tree e).stack
      (standing meaning tree e).visited e.limit → ByClosure meaning tree m given e
  closes_from given e on begins mode ys f r =
      runs_close renamings_are_one (named meaning tree e) (statements m) mode (map (tree m) given)
      (map (tree (meaning f.cx)) ys) (standing meaning tree e) (standing meaning tree f) (states_within m own) begins
      (runs_of (record e { mode = mode }) f ys on r).1
