-- The parts of a term weigh less than the term.
use Rattle.std.proofs.Common.{◌<◌, ◌≤◌, arith}
use Rattle.relation_terms.specs.Heads.{unevaluated, expression, value, value_branch}
use Rattle.relation_terms.specs.Trees.{Tree, leaf, node, bind, nil, cons, Assign, apply, count, size}
use Rattle.relation_semantics.specs.Stores.{Store, weight, resolved}
use Rattle.relation_semantics.specs.Parts.{direct_parts, const_parts_of, branches_of}
use Rattle.relation_semantics.proofs.Parts.{parts_size, const_parts_size}
use Rattle.relation_terms.proofs.Members.{size_positive}

parts_most : (s : Assign) (t : Tree) → size (apply s (direct_parts t)) ≤ size (apply s t)
parts_most s (node h ts) = omega (arith)
parts_most s (leaf l) = (let e = size_positive (apply s (leaf l)) in omega (arith, e))
parts_most s (bind ks t) = omega (arith)
parts_most s nil = omega (arith)
parts_most s (cons t ts) = omega (arith)

branches_most : (s : Assign) (v : Tree) → size (apply s (branches_of v)) ≤ size (apply s v)
branches_most s (node value_branch ts) = omega (arith)
branches_most s v = (let e = size_positive (apply s v) in omega (arith, e))

const_parts_most : (s : Assign) (c : Tree) → size (apply s (const_parts_of c)) ≤ size (apply s c)
const_parts_most s (node (unevaluated d) ts) = omega (arith)
const_parts_most s (node (expression k) ts) = omega (arith)
const_parts_most s (node value (cons t (cons v nil))) = (let e = branches_most s v in omega (arith, e))
const_parts_most s c = (let e = size_positive (apply s c) in omega (arith, e))

pub weight_parts : (st : Store) (t : Tree) → 0 < count (direct_parts t) → weight st (direct_parts t) < weight st t
unfolding weight
weight_parts st t h = parts_size (resolved st) t h

pub weight_parts_most : (st : Store) (t : Tree) → weight st (direct_parts t) ≤ weight st t
unfolding weight
weight_parts_most st t = parts_most (resolved st) t

pub weight_const_parts : (st : Store) (t : Tree) → 0 < count (const_parts_of t) → weight st (const_parts_of t) < weight st t
unfolding weight
weight_const_parts st t h = const_parts_size (resolved st) t h

pub weight_const_parts_most : (st : Store) (t : Tree) → weight st (const_parts_of t) ≤ weight st t
unfolding weight
weight_const_parts_most st t = const_parts_most (resolved st) t
