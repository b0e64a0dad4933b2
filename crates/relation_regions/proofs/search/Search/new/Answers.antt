-- The target alone has a place.
use Rattle.std.proofs.Common.{arith, ◌≡◌, ◌∙◌, ap, List, ℕ, [], ◌∷◌, ◌++◌, length, replicate, Option, Some, None}
use Rattle.std.proofs.Math.ListN.{set}
use Rattle.relation_regions.proofs.Searching.{begun}
use Rattle.relation_regions.proofs.search.Search.new.Goals as goal

pub returns : goal.returns
returns c =
    let h = c.in_ok-push_row.ensures in
    let one : (xs ys : List ℕ) (x : ℕ) → ys ≡ xs ++ x ∷ [] → xs ≡ [] → ys ≡ x ∷ [] =
    λ xs ys x e z. e ∙ ap (λ l. l ++ x ∷ []) z in
    let none : ℕ → List (Option ℕ) = λ n. replicate n None in
    let all : c.in_ok-places.places.items ≡ none (length c.args.graph.now.latest.items) =
    c.in_ok-places.ensures.items_if_clones_equal (λ y h. grind arith) ∙
    ap none (c.len.ensures ∙ c.args.graph.now.latest.ok.0) in
    begun c.args.graph.now.from.items c.args.graph.now.to.items (length c.args.graph.now.latest.items) c.args.target
    (set c.in_ok-places.places.items c.args.target (Some 0)) c.push_row.new.first.items
    c.push_row.new.second.items c.push_row.new.third.items c.requires.target
    (ap (λ (l : List (Option ℕ)). set l c.args.target (Some 0)) all)
    (one c.new-nodes.result.items c.push_row.new.first.items c.args.target h.first c.new-nodes.ensures.items)
    (one c.new-edges.result.items c.push_row.new.second.items 0 h.second c.new-edges.ensures.items)
    (one c.new-onward.result.items c.push_row.new.third.items 0 h.third c.new-onward.ensures.items)
