-- What a visitor is asked about that skips some terms and stops at others.
use Rattle.std.specs.Prelude.{◌≡◌, ℕ, Bool, true, false, cond, ◌==◌, List, [], ◌∷◌, ◌++◌, IsTrue, map, length}
use Rattle.std.specs.declared.ops.ControlFlow.TheVariants.{Continue, Break}
use Rattle.relation_terms.specs.Trees.{Tree, known, list_tree}
use Rattle.relation_terms.specs.Meaning.{Meaning, arg_tree}
use Rattle.relation_terms.specs.declared.terms.generic_arg.GenericArgKind.{GenericArgKind}
use Rattle.text_asking.specs.declared.visiting.Collects.{Collects}
use Rattle.text_asking.specs.declared.visiting.Met.{Met}
use Rattle.relation_folds.specs.declared.visit.Visit.{Visit}
use Rattle.relation_folds.specs.declared.visit.Visit.TheVariants.{Enter, Skip, Stop}
use Rattle.relation_folds.specs.Visits.{Flow, Walks}
use Rattle.relation_terms.specs.Equality.{same_tree}
use Rattle.text_asking.specs.Args.{same_arg}

-- One of the things is the same as another.
abbrev pub is_in : {T : Type 0} → (T → T → Bool) → List T → T → Bool
is_in same [] t = false
is_in same (u ∷ us) t = cond (same u t) true (is_in same us t)

-- What is answered at a term: it is skipped if it is one of the first, and else the visit stops if it is one of the others.
abbrev pub answer_at : {T : Type 0} → (T → T → Bool) → List T → List T → T → Visit
answer_at same skip stop t = cond (is_in same skip t) Skip (cond (is_in same stop t) Stop Enter)

-- The same of the term of that number, from 1 on: the visit stops at the last that an answer has room for.
abbrev pub answer_to : {T : Type 0} → (T → T → Bool) → List T → List T → ℕ → T → Visit
answer_to same skip stop n t = cond (n == 349526) Stop (answer_at same skip stop t)

-- What a visitor answers at a term that it collects, by the terms that it has then; but where a growth was refused.
abbrev pub AnswersAt : {X : Type 0} → (X → X → Bool) → Collects X → Collects X → GenericArgKind X → Visit → Type 0
AnswersAt same v w t a =
    w.refused ≡ false → a ≡ answer_to (same_arg same) v.skip.now v.stop.now (length w.terms.items) t

-- From the trees that the visitor was asked about so far to those that it was asked about then, with its answer.
abbrev pub Meets : List Tree → List Tree → List Tree → ℕ → Tree → List Tree → Visit → Type 0
Meets skip stop met d t then a = (then ≡ met ++ t ∷ []) × (a ≡ answer_to same_tree skip stop (length then) t)

-- A visit that stopped, or went on to its end.
abbrev pub flow : Bool → Flow
flow true = Break tt
flow false = Continue tt

module _ {Key Id Name : Type 0} (m : Meaning Key Id Name) where
  -- All are known.
  abbrev pub AllKnown : List (GenericArgKind Key) → Type 0
  AllKnown xs = IsTrue (known (list_tree (arg_tree m) xs))

  -- From one state of a visitor that collects to another: unless a growth was refused, it was asked about one more term.
  abbrev pub Asks : Collects Key → ℕ → Tree → Collects Key → Visit → Type 0
  Asks v d t w a =
      (w.skip ≡ v.skip) × (w.stop ≡ v.stop)
      × (w.refused ≡ false → (v.refused ≡ false) × (AllKnown v.terms.items → AllKnown w.terms.items))
      × (AllKnown v.skip.now → AllKnown v.stop.now → w.refused ≡ false →
      Meets (map (arg_tree m) v.skip.now) (map (arg_tree m) v.stop.now) (map (arg_tree m) v.terms.items) d t
      (map (arg_tree m) w.terms.items) a)

  -- That is what a visitor of a term is asked about that skips the first and stops at the second.
  abbrev pub IsMet : List (GenericArgKind Key) → List (GenericArgKind Key) → GenericArgKind Key → Met Key → Type 0
  IsMet skip stop term met = Walks (Meets (map (arg_tree m) skip) (map (arg_tree m) stop)) 0 [] (arg_tree m term)
      (map (arg_tree m) met.terms.items) (flow met.stopped)
