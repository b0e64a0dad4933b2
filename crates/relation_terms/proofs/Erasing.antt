-- What an erasure keeps.
use Rattle.std.proofs.Common.{◌≡◌, refl, ap, suc}
use Rattle.relation_terms.specs.Heads.{Atom, atom_sort, early_region, type_param, const_param}
use Rattle.relation_terms.specs.Trees.{Tree, leaf, node, bind, nil, cons, count}
use Rattle.relation_terms.specs.Erasure.{erase, erase_atom}

pub erased_count : (t : Tree) → count (erase t) ≡ count t
erased_count (leaf l) = refl
erased_count (node h ts) = refl
erased_count (bind ks t) = refl
erased_count nil = refl
erased_count (cons t ts) = ap suc (erased_count ts)

pub erased_atom : (x : Atom) → atom_sort (erase_atom x) ≡ atom_sort x
erased_atom (early_region i n) = refl
erased_atom (type_param i n) = refl
erased_atom (const_param i n) = refl
erased_atom x = refl
