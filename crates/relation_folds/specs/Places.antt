-- How a part at a depth is hashed.
use Rattle.std.specs.Prelude.{◌≡◌, ℕ, IsTrue, Bool, cond, nat_eq, ◌&&◌, [], ◌++◌}
use Rattle.std.specs.Hash.{HashWrites, u128}
use Rattle.std.proofs.Common.{ap₂}
use Rattle.std.proofs.lemmas.Bool.{and_parts, eqb-true}
use Rattle.relation_folds.specs.declared.fold.memory.Place.{Place}

-- A depth, but 0.
abbrev pub fed_depth : ℕ → HashWrites
fed_depth depth = cond (nat_eq depth 0) [] (u128 depth)

-- The key, and the depth.
abbrev pub fed_place : {Key : Type 0} → (Key → HashWrites) → Place Key → HashWrites
fed_place feed p = feed p.key ++ fed_depth p.depth

-- Equal places are hashed alike, where equal keys are.
pub fed_alike : {Key : Type 0} (eq : Key → Key → Bool) (feed : Key → HashWrites) →
    ((x y : Key) → IsTrue (eq x y) → feed x ≡ feed y) → (p q : Place Key) →
    IsTrue (nat_eq p.sort q.sort && (eq p.key q.key && nat_eq p.depth q.depth)) → fed_place feed p ≡ fed_place feed q
fed_alike eq feed alike p q h =
    let all = and_parts (nat_eq p.sort q.sort) (eq p.key q.key && nat_eq p.depth q.depth) h in
    let rest = and_parts (eq p.key q.key) (nat_eq p.depth q.depth) all.1 in
    ap₂ (λ writes d. writes ++ fed_depth d) (alike p.key q.key rest.0) (eqb-true p.depth q.depth rest.1)
