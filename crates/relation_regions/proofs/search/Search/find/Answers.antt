-- The columns belong together after one more node.
use Rattle.std.proofs.Common.{arith, length, get_or, true, ◌≡◌, ◌<◌, ◌∙◌, ap, not, refl, sym, subst}
use Rattle.std.proofs.lemmas.Grind.{get_or_default_zero}
use Rattle.relation_regions.specs.Searches.{IsFound}
use Rattle.relation_regions.proofs.Found.{found_like}
use Rattle.relation_regions.proofs.Searching.{kept_more, found_now, keeps_itself}
use Rattle.relation_regions.proofs.Widened.{some_as_read}
use Rattle.relation_regions.proofs.search.Search.find.Goals as goal

pub returns-in_ok-push_row-clause-search : goal.returns-in_ok-push_row-clause-search
returns-in_ok-push_row-clause-search c =
    let in_from : c.args.edge < length c.args.graph.now.from.items = omega arith in
    found_like _ _ _ _ _ _ _ _ _ _ _ _ c.args.edge c.args.place _ c.index.result.now c.requires.search
    c.requires.graph.from_nodes c.requires.edge c.requires.place c.index-node.ensures in_from c.requires.leads c.index.ensures
    (c.is_none.ensures ∙ ap not c.if-is_none.true) (c.len.ensures ∙ c.args.self.now.nodes.ok.0) c.in_ok-push_row.ensures.first
    c.in_ok-push_row.ensures.second c.in_ok-push_row.ensures.third

pub returns-in_ok-push_row-clause-keeps : goal.returns-in_ok-push_row-clause-keeps
returns-in_ok-push_row-clause-keeps c =
    let from = c.args.graph.now.from.items in
    let node = c.index-node.result.now in
    let in_from : c.args.edge < length from = omega arith in
    let at : node ≡ get_or from c.args.edge 0 = c.index-node.ensures ∙ get_or_default_zero from c.args.edge node in_from in
    let lt : node < length c.args.self.now.places.items =
    omega (arith, at, c.requires.graph.from_nodes c.args.edge in_from, c.requires.search.all_nodes) in
    kept_more c.args.self.now _ node c.len.result lt refl c.in_ok-push_row.ensures.first

pub returns-in_ok-push_row-clause-found : goal.returns-in_ok-push_row-clause-found
returns-in_ok-push_row-clause-found c =
    let from = c.args.graph.now.from.items in
    let node = c.index-node.result.now in
    let in_from : c.args.edge < length from = omega arith in
    let at : node ≡ get_or from c.args.edge 0 = c.index-node.ensures ∙ get_or_default_zero from c.args.edge node in_from in
    let lt : node < length c.args.self.now.places.items =
    omega (arith, at, c.requires.graph.from_nodes c.args.edge in_from, c.requires.search.all_nodes) in
    found_now c.args.self.now.places.items node c.len.result (get_or from c.args.edge 0) lt (sym at)

-- It was found before.
pub returns-else-is_none-clause-keeps : goal.returns-else-is_none-clause-keeps
returns-else-is_none-clause-keeps c = keeps_itself c.args.self.now

pub returns-else-is_none-clause-found : goal.returns-else-is_none-clause-found
returns-else-is_none-clause-found c =
    let from = c.args.graph.now.from.items in
    let places = c.args.self.now.places.items in
    let node = c.index-node.result.now in
    let in_from : c.args.edge < length from = omega arith in
    let at : node ≡ get_or from c.args.edge 0 = c.index-node.ensures ∙ get_or_default_zero from c.args.edge node in_from in
    let lt : node < length places =
    omega (arith, at, c.requires.graph.from_nodes c.args.edge in_from, c.requires.search.all_nodes) in
    subst (λ x. IsFound c.args.self.now x) at (some_as_read places node c.index.result.now true lt c.index.ensures
    (c.is_none.ensures ∙ ap not c.if-is_none.false))
