-- Terms that stand in each context.
use Rattle.relation_terms.specs.Heads.{atom}
use Rattle.relation_terms.specs.Trees.{Tree, leaf, node, bind, nil, cons}
use Rattle.relation_semantics.specs.Relation.{IsValueAtom}

-- Neither a variable stands in the term nor what stands for one, and no binder's variable is used.
abbrev pub IsConcrete : Tree → Type 0
IsConcrete (leaf (atom x)) = IsValueAtom x
IsConcrete (leaf l) = ⊥
IsConcrete (node h ts) = IsConcrete ts
IsConcrete (bind ks t) = IsConcrete t
IsConcrete nil = Unit {0}
IsConcrete (cons t ts) = IsConcrete t × IsConcrete ts
