-- Closed terms, in which no variable stands but of regions.
use Rattle.std.specs.Prelude.{◌≡◌}
use Rattle.relation_terms.specs.Heads.{region_var, variable}
use Rattle.relation_terms.specs.Trees.{Tree, leaf, node, bind, nil, cons}
use Rattle.relation_semantics.specs.Asking.{BindsRegions}

-- No variable stands in a term but of regions, and its binders bind regions alone.
abbrev pub IsClosed : Tree → Type 0
IsClosed (leaf (variable k n)) = k ≡ region_var
IsClosed (leaf l) = Unit {0}
IsClosed (node h ts) = IsClosed ts
IsClosed (bind ks t) = BindsRegions ks × IsClosed t
IsClosed nil = Unit {0}
IsClosed (cons t ts) = IsClosed t × IsClosed ts
