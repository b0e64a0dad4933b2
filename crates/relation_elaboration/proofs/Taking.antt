-- What an elaboration takes up, by what is pushed to its worklist.
use Rattle.std.proofs.Common.{◌≡◌, ◌∙◌, refl, sym, ap, subst, ℕ, IsTrue, false, List, [], map, Option, None}
use Rattle.std.proofs.Common.{Result, Ok, Err}
use Rattle.relation_terms.specs.Trees.{Tree, known}
use Rattle.relation_terms.specs.Meaning.{Meaning, Extends}
use Rattle.relation_terms.specs.Owned.{StatesItsOwn}
use Rattle.relation_terms.proofs.Stays.{stays_same}
use Rattle.elaboration_worklist.specs.declared.faults.ElabFault.{ElabFault}
use Rattle.elaboration_worklist.specs.declared.faults.ElabFault.TheVariants.{Limit}
use Rattle.elaboration_worklist.specs.declared.worklist.Worklist.{Worklist}
use Rattle.relation_statements.specs.Children.{Mode, mode_of}
use Rattle.elaboration_worklist.specs.Pushes.{Pushes, IsFull}
use Rattle.relation_statements.specs.Runs.{AreTooMany}
use Rattle.relation_elaboration.specs.Pulling.{Elaboration, Keeps, Takes, HasNoRoom, BeginsWith, BeginsClosure}
use Rattle.elaboration_worklist.specs.Kept.{Pushed}
use Rattle.relation_elaboration.specs.Pulling.{standing, named}
use Rattle.anonymize.proofs.Renamings.{renamings_are_one}
use Rattle.relation_statements.proofs.Closing.{too_many}
use Rattle.relation_elaboration.proofs.Pulled.{standing_by}
use Rattle.relation_elaboration.proofs.Yielding.{closes_from}

module _ {I Key Id Name O : Type 0} (meaning : I → Meaning Key Id Name) (tree : Meaning Key Id Name → O → Tree) where
  pub keeps_itself : (s : Elaboration I O Key Name) → Keeps meaning tree s s
  keeps_itself s =
      record { reference = refl; grown = stays_same (meaning s.cx); limit = refl; name = refl; mode = refl }

  -- What was pushed, by the worklists.
  module _ (r : ℕ) (c d : I) (u v : Worklist Key O Name) (mode : Mode) (given : List O) (f g : Option ElabFault) where
    pub keeps_by : {T : Type 0} (res : Result T ElabFault) →
        Pushed tree (meaning c) (meaning d) (map (tree (meaning c)) given) u v res →
        Keeps meaning tree (standing_by meaning tree r c u mode f) (standing_by meaning tree r d v mode g)
    keeps_by res h = record { reference = refl; grown = h.grown; limit = h.limit; name = h.name; mode = refl }

    pub takes_by : {T : Type 0} (a : T) →
        Pushed tree (meaning c) (meaning d) (map (tree (meaning c)) given) u v (Ok a) →
        Takes meaning tree given (standing_by meaning tree r c u mode f) (standing_by meaning tree r d v mode g)
    takes_by a h = h.all

    pub no_room_by : {T : Type 0} (res : Result T ElabFault) →
        Pushed tree (meaning c) (meaning d) (map (tree (meaning c)) given) u v res → res ≡ Err Limit →
        HasNoRoom meaning tree given (standing_by meaning tree r c u mode f)
    no_room_by res h is none = h.full is

  -- What was taken up where there was nothing before.
  pub from_none : (s t : Elaboration I O Key Name) (given : List O) → s.stack ≡ [] → s.visited ≡ [] →
      Keeps meaning tree s t → Takes meaning tree given s t →
      Pushes (named meaning tree t) (map (tree (meaning s.cx)) given) [] [] (standing meaning tree t).stack
      (standing meaning tree t).visited t.limit
  from_none s t given stack visited keeps takes =
      let m = meaning s.cx in
      let cs = map (tree m) given in
      let ys = (standing meaning tree t).stack in
      let ks = (standing meaning tree t).visited in
      let first = named meaning tree s in
      let same : first ≡ named meaning tree t =
      sym (ap (meaning t.cx).name keeps.name ∙ (keeps.grown).name s.name) in
      subst (λ z. Pushes z cs [] [] ys ks t.limit) same
      (subst (λ z. Pushes first cs (map (tree m) z) [] ys ks t.limit) stack
      (subst (λ z. Pushes first cs (map (tree m) s.stack) (map m.predicate z) ys ks t.limit) visited takes))

  -- It begins with that, and yields the closure.
  pub begins_by : (first : I) (s t : Elaboration I O Key Name) (given : List O) (limit : ℕ) → s.cx ≡ first →
      s.stack ≡ [] → s.visited ≡ [] → s.limit ≡ limit → s.mode ≡ mode_of false false → t.fault ≡ None →
      Keeps meaning tree s t → Takes meaning tree given s t → BeginsWith meaning tree (meaning first) given limit t
  begins_by first s t given limit is stack visited most mode fault keeps takes =
      subst (λ z. BeginsWith meaning tree (meaning z) given limit t) is (record {
        pushes = subst (λ z. Pushes (named meaning tree t) (map (tree (meaning s.cx)) given) [] []
            (standing meaning tree t).stack (standing meaning tree t).visited z) (keeps.limit ∙ most)
            (from_none s t given stack visited keeps takes);
        limit = keeps.limit ∙ most;
        mode = keeps.mode ∙ mode;
        fault = fault;
      })

  pub closes_by :
      ((m n : Meaning Key Id Name) → Extends m n → (o : O) → IsTrue (known (tree m o)) → tree n o ≡ tree m o) →
      (s t : Elaboration I O Key Name) → StatesItsOwn (meaning s.cx) → (given : List O) → Keeps meaning tree s t →
      Takes meaning tree given s t → BeginsClosure meaning tree given s t
  closes_by stays s t own given keeps takes stack visited =
      closes_from meaning tree stays (meaning s.cx) own given t keeps.grown
      (from_none s t given stack visited keeps takes)

  -- There is no room for what was to be taken up where there was nothing before.
  pub too_many_by : (first : I) (s : Elaboration I O Key Name) (given : List O) (limit : ℕ) → s.cx ≡ first →
      s.visited ≡ [] → s.limit ≡ limit → s.fault ≡ None → HasNoRoom meaning tree given s →
      AreTooMany (map (tree (meaning first)) given) limit
  too_many_by first s given limit is visited most free full =
      let name = named meaning tree s in
      let n = meaning s.cx in
      too_many renamings_are_one name (map (tree (meaning first)) given) limit
      (subst (λ z. IsFull name (map (tree (meaning z)) given) [] limit) is
      (subst (λ z. IsFull name (map (tree n) given) [] z) most
      (subst (λ z. IsFull name (map (tree n) given) (map n.predicate z) s.limit) visited (full free))))
