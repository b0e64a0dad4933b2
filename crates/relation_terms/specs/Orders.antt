-- In which order a visitor goes over the parts of a form.
use Rattle.std.specs.Prelude.{ℕ, suc, cond, nat_lt}
use Rattle.relation_terms.specs.Heads.{existential_projection}
use Rattle.relation_terms.specs.Trees.{Tree, node, cons}
use Rattle.relation_terms.specs.declared.terms.part_kind.Parts.{Parts}
use Rattle.relation_terms.specs.declared.terms.part_kind.Parts.TheVariants.{TermArgs}

-- One after another, or the first behind all others.
pub data Order : Type 0 where
  in_turn : Order
  first_last : Order

-- Of `n` places, the one that comes behind `k` others.
abbrev pub place_at : Order → ℕ → ℕ → ℕ
place_at in_turn n k = k
place_at first_last n k = cond (nat_lt (suc k) n) (suc k) 0

-- A list with one more member, behind all others.
abbrev pub behind : Tree → Tree → Tree
behind t (cons u us) = cons u (behind t us)
behind t us = cons t us

-- A list in an order.
abbrev pub in_order : Order → Tree → Tree
in_order first_last (cons t ts) = behind t ts
in_order o ts = ts

-- The order of a form's parts: a projection's arguments come before its term.
abbrev pub order_of : Tree → Order
order_of (node (existential_projection d) ts) = first_last
order_of t = in_turn

-- The same, of a list of parts.
abbrev pub list_order : {Key Id : Type 0} → Parts Key Id → Order
list_order (TermArgs t a) = first_last
list_order ps = in_turn
