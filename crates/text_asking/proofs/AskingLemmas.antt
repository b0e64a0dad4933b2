-- Terms that are ready, while an interner grows, and lists of them.
use Rattle.std.proofs.Common.{◌≡◌, ℕ, List, [], ◌∷◌, Option, Some, map, slice_get, refl}
use Rattle.relation_terms.specs.declared.terms.generic_arg.GenericArgKind.{GenericArgKind}
use Rattle.relation_terms.specs.Trees.{known, list_tree}
use Rattle.relation_terms.specs.Meaning.{Meaning, Extends, arg_tree}
use Rattle.relation_terms.proofs.Stays.{knows_arg}
use Rattle.text_terms.specs.Built.{AreKnown}
use Rattle.text_reading.specs.declared.naming.program.Put.{Put}
use Rattle.text_asking.specs.Meets.{AllKnown}
use Rattle.text_asking.specs.Puts.{AreMade, ArePuts}
use Rattle.text_terms.proofs.BuildingLemmas.{both_true}

-- What is ready stays so.
pub ready_stays : {Key Id Name : Type 0} {m n : Meaning Key Id Name} → Extends m n →
    (keys : List (Option (GenericArgKind Key))) → AreKnown m keys → AreKnown n keys
ready_stays e keys r = λ k key there. knows_arg e key (r k key there)

-- Keys of a list of terms that are ready are known, and so is what is put for terms.
module _ {Key Id Name : Type 0} (m : Meaning Key Id Name) (keys : List (Option (GenericArgKind Key)))
    (r : AreKnown m keys) where
  pub keys_known : (ns : List ℕ) (xs : List (GenericArgKind Key)) → map (slice_get keys) ns ≡ map (λ x. Some (Some x)) xs →
      AllKnown m xs
  keys_known ns [] e = refl
  keys_known [] (x ∷ xs) e = absurd (cc)
  keys_known (n ∷ ns) (x ∷ xs) e =
      let one : slice_get keys n ≡ Some (Some x) = cc in
      let more : map (slice_get keys) ns ≡ map (λ y. Some (Some y)) xs = cc in
      both_true (known (arg_tree m x)) (known (list_tree (arg_tree m) xs)) (r n x one) (keys_known ns xs more)

  pub puts_known : (ns : List (Put ℕ)) (ps : List (Put (GenericArgKind Key))) → AreMade keys ns ps → ArePuts m ps
  puts_known [] [] h = tt
  puts_known (n ∷ ns) (p ∷ ps) h = ((r n.from p.from h.0.0, r n.to p.to h.0.1, h.0.2), puts_known ns ps h.1)
  puts_known ns ps h = absurd h
