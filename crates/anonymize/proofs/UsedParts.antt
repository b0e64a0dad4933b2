-- What a collection has met, as it goes on.
use Rattle.std.proofs.Common.{ℕ, ◌≡◌, ◌↔◌, IsTrue, Bool, true, false, cond, Some, refl, sym, ap, ◌∙◌, ◌&&◌, eqb, subst, List, []}
use Rattle.std.proofs.lemmas.Bool.{and_parts, eqb-true}
use Rattle.std.specs.Bool.{OnTrue}
use Rattle.std.specs.List.{list_any}
use Rattle.relation_terms.specs.Trees.{known}
use Rattle.relation_terms.specs.Meaning.{Meaning}
use Rattle.relation_terms.specs.Parts.{part_tree, part_sort, part_key}
use Rattle.relation_terms.specs.declared.terms.part_kind.Part.{Part}
use Rattle.relation_folds.specs.declared.fold.memory.Place.{Place}
use Rattle.anonymize.specs.declared.used.UsedVar.{UsedVar}
use Rattle.relation_folds.specs.Folds.{place_of, part_rank}
use Rattle.traversal.specs.Keeping.{Adds}
use Rattle.anonymize.specs.Anonymous.{uses, with_vars}
use Rattle.anonymize.specs.UsedParts.{AllIn, IsMet, Remembered}
use Rattle.relation_folds.proofs.Remembering.{place_eq, placed, one_sort}
use Rattle.anonymize.proofs.UsedVars.{all_later}

module _ {Key Id Name : Type 0} (m : Meaning Key Id Name) (us : List UsedVar) (eq : Place Key → Place Key → Bool) where
  -- Nothing was met yet.
  pub remembers_none : (kept : List (Place Key)) → kept ≡ [] → Remembered {Id = Id} m us eq kept
  remembers_none kept e q h = absurd (let x : list_any (eq q) [] ≡ true = ap (list_any (eq q)) (sym e) ∙ h in cc)

  -- What was met stays so where variables were added.
  pub remembers_later : (vs : List UsedVar) (kept : List (Place Key)) → Remembered m us eq kept →
      Remembered m (with_vars us vs) eq kept
  remembers_later vs kept r q h =
      let i = r q h in
      record {
        part = i.part;
        depth = i.depth;
        place = i.place;
        stands = i.stands;
        same = i.same;
        there = i.there;
        used = all_later (uses i.depth (part_tree m i.part)) us vs i.used;
      }

  met_more : (b : Bool) (o : Bool) (P : Type 0) → (IsTrue b → P) → (o ≡ true → P) → cond b true o ≡ true → P
  met_more true o P f g e = f refl
  met_more false o P f g e = g e

  -- One more part was met.
  pub remembers_more : (p : Part Key Id) (d : ℕ) (place : Place Key) (old new : List (Place Key)) →
      place_of p d ≡ Some place → IsTrue (known (part_tree m p)) → AllIn us (uses d (part_tree m p)) →
      Adds eq old place new → Remembered m us eq old → Remembered m us eq new
  remembers_more p d place old new s k a u r q h =
      met_more (eq place q) (list_any (eq q) old) (IsMet m us eq q)
      (λ t. record { part = p; depth = d; place = place; stands = s; same = t; there = k; used = a })
      (λ e. r q e) (sym (u q) ∙ h)

-- Of a known part whose place is kept all variables are in the list.
module _ {Key Id Name : Type 0} (m : Meaning Key Id Name) (eq : Key → Key → Bool)
    (same : (p q : Part Key Id) (x y : Key) → part_key p ≡ Some x → part_key q ≡ Some y → part_sort q ≡ part_sort p →
    IsTrue (known (part_tree m p)) → IsTrue (known (part_tree m q)) →
    (IsTrue (eq x y) ↔ (part_tree m p ≡ part_tree m q))) (us : List UsedVar) where
  met_used : (p : Part Key Id) (d : ℕ) (place : Place Key) → place_of p d ≡ Some place → IsTrue (known (part_tree m p)) →
      IsMet m us (place_eq eq) place → AllIn us (uses d (part_tree m p))
  met_used p d place e k h =
      let here = placed (part_key p) (part_rank p) d place e in
      let there = placed (part_key h.part) (part_rank h.part) h.depth (h.place) h.stands in
      let all = and_parts (eqb (h.place).sort place.sort)
      (eq (h.place).key place.key && eqb (h.place).depth place.depth) h.same in
      let rest = and_parts (eq (h.place).key place.key) (eqb (h.place).depth place.depth) all.1 in
      let rank = eqb-true (h.place).sort place.sort all.0 in
      let deep = eqb-true (h.place).depth place.depth rest.1 in
      let sort = one_sort h.part p (h.place).key place.key there.0 here.0 ((there.1).0 ∙ rank ∙ sym (here.1).0) in
      let tree = (same h.part p (h.place).key place.key there.0 here.0 (sym sort) h.there k).0 rest.0 in
      subst (λ z. AllIn us z)
      (ap (λ t. uses h.depth t) tree ∙ ap (λ x. uses x (part_tree m p)) ((there.1).1 ∙ deep ∙ sym (here.1).1)) h.used

  pub was_used : (p : Part Key Id) (d : ℕ) (place : Place Key) (kept : List (Place Key)) → place_of p d ≡ Some place →
      IsTrue (known (part_tree m p)) → Remembered m us (place_eq eq) kept → (b : Bool) →
      b ≡ list_any (place_eq eq place) kept → OnTrue b (AllIn us (uses d (part_tree m p)))
  was_used p d place kept s k r true e = met_used p d place s k (r place (sym e))
  was_used p d place kept s k r false e = tt
