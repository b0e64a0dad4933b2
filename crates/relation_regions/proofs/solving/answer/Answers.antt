-- The numbers that were decided of are numbers of regions.
use Rattle.std.proofs.Common.{ℕ, List, ◌<◌, ◌∙◌, All, sym, subst, map, ap, length, get_or}
use Rattle.relation_regions.specs.Numbering.{AreBelow, regions_at}
use Rattle.relation_regions.proofs.Answered.{values_below, places_below, met_of, unmet_of, meets_sorted}
use Rattle.relation_regions.proofs.solving.answer.Goals as goal

pub solve-requires-clause-asked : goal.solve-requires-clause-asked
solve-requires-clause-asked g c = c.requires.asked_pairs

pub solve-requires-clause-known : goal.solve-requires-clause-known
solve-requires-clause-known g c = c.requires.known_pairs

pub regions_of-requires-clause-below : goal.regions_of-requires-clause-below
regions_of-requires-clause-below g c =
    let p = c.args.problem.now in
    let s = c.args.standings.now in
    let found = met_of s p.asked.pairs p.known.pairs c.in_ok-values.field-0 c.in-Met.values c.in-Met.is
    c.in_ok-values.ensures.met in
    let meets = meets_sorted s p.asked.pairs p.known.pairs c.in-Met.values.items c.sort_unstable.new.self.items
    c.sort_unstable.ensures.permutation found in
    subst (λ (l : List (ℕ × ℕ)). All (AreBelow (length p.regions)) l) (sym c.as_slice.ensures.value)
    (values_below p.regions s p.asked.pairs p.known.pairs c.sort_unstable.new.self.items c.requires.each_stands meets)

pub returns-in_ok-values-in-Met : goal.returns-in_ok-values-in-Met
returns-in_ok-values-in-Met g c =
    let p = c.args.problem.now in
    let s = c.args.standings.now in
    record {
      numbers = c.sort_unstable.new.self.items;
      meets = meets_sorted s p.asked.pairs p.known.pairs c.in-Met.values.items c.sort_unstable.new.self.items
          c.sort_unstable.ensures.permutation (met_of s p.asked.pairs p.known.pairs c.in_ok-values.field-0 c.in-Met.values
          c.in-Met.is c.in_ok-values.ensures.met);
      values_are = λ tree. c.in_ok-values-in-Met.ensures tree ∙
          ap (λ (l : List (ℕ × ℕ)). map (regions_at (map tree p.regions)) l) c.as_slice.ensures.value;
    }

pub asked_by-requires : goal.asked_by-requires
asked_by-requires g c =
    let p = c.args.problem.now in
    let refutes = unmet_of c.args.standings.now p.asked.pairs p.known.pairs c.in_ok-values.field-0 c.in-Unmet.longer
    c.in-Unmet.shorter c.in-Unmet.by c.in-Unmet.is c.in_ok-values.ensures.unmet in
    subst (λ (l : List ℕ). All (λ k. k < length p.asked.asked_by.items) l) (sym c.as_slice-in-Unmet.ensures.value)
    (places_below p.asked.pairs p.asked.asked_by.items c.in-Unmet.by.items c.requires.each_said refutes.asked_for)

pub region_at-longer-requires-clause-below : goal.region_at-longer-requires-clause-below
region_at-longer-requires-clause-below g c =
    let p = c.args.problem.now in
    let refutes = unmet_of c.args.standings.now p.asked.pairs p.known.pairs c.in_ok-values.field-0 c.in-Unmet.longer
    c.in-Unmet.shorter c.in-Unmet.by c.in-Unmet.is c.in_ok-values.ensures.unmet in
    subst (λ n. c.in-Unmet.longer < n) c.requires.each_stands (refutes.longer_given).0

pub region_at-shorter-requires-clause-below : goal.region_at-shorter-requires-clause-below
region_at-shorter-requires-clause-below g c =
    let p = c.args.problem.now in
    let refutes = unmet_of c.args.standings.now p.asked.pairs p.known.pairs c.in_ok-values.field-0 c.in-Unmet.longer
    c.in-Unmet.shorter c.in-Unmet.by c.in-Unmet.is c.in_ok-values.ensures.unmet in
    subst (λ n. c.in-Unmet.shorter < n) c.requires.each_stands (refutes.shorter_given).0

pub returns-in_ok-by-in-Unmet : goal.returns-in_ok-by-in-Unmet
returns-in_ok-by-in-Unmet g c =
    let p = c.args.problem.now in
    let said = p.asked.asked_by.items in
    record {
      first = c.in-Unmet.longer;
      second = c.in-Unmet.shorter;
      places = c.in-Unmet.by.items;
      refutes = unmet_of c.args.standings.now p.asked.pairs p.known.pairs c.in_ok-values.field-0 c.in-Unmet.longer
          c.in-Unmet.shorter c.in-Unmet.by c.in-Unmet.is c.in_ok-values.ensures.unmet;
      longer_at = c.region_at-longer.ensures;
      shorter_at = c.region_at-shorter.ensures;
      by_is = c.in_ok-by-in-Unmet.ensures ∙
          ap (λ (l : List ℕ). map (λ k. get_or said k 0) l) c.as_slice-in-Unmet.ensures.value;
    }

pub regions_of-requires-clause-fits : goal.regions_of-requires-clause-fits
regions_of-requires-clause-fits g c = c.requires.fits

pub region_at-longer-requires-clause-fits : goal.region_at-longer-requires-clause-fits
region_at-longer-requires-clause-fits g c = c.requires.fits

pub region_at-shorter-requires-clause-fits : goal.region_at-shorter-requires-clause-fits
region_at-shorter-requires-clause-fits g c = c.requires.fits
