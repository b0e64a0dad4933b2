-- What a folder puts that is told of one binder more than there are around what it is asked about.
use Rattle.std.specs.Prelude.{◌≡◌, ℕ, suc, Option, Some}
use Rattle.std.proofs.Common.{ap}
use Rattle.relation_terms.specs.Heads.{type_var, variable}
use Rattle.relation_terms.specs.Trees.{Tree, leaf, node, bind, nil, cons}

-- It hands on to a folder behind a reference of a name. No folder is asked about lists: what stands here for them says
-- which reference that is, and what its folder puts at any depth, so that both are kept wherever what is put is kept.
abbrev pub in_binder : ℕ → (ℕ → Tree → Option Tree) → ℕ → Tree → Option Tree
in_binder name puts depth nil = Some (leaf (variable type_var name))
in_binder name puts depth (cons t ts) = puts depth t
in_binder name puts depth t = puts (suc depth) t

-- What is put in a binder is kept where the reference is, and what is put behind it.
pub in_binder_kept : (a b : ℕ) → b ≡ a → (p q : ℕ → Tree → Option Tree) → ((d : ℕ) (t : Tree) → q d t ≡ p d t) →
    (d : ℕ) (t : Tree) → in_binder b q d t ≡ in_binder a p d t
in_binder_kept a b e p q k d nil = ap (λ x. Some (leaf (variable type_var x))) e
in_binder_kept a b e p q k d (cons t ts) = k d t
in_binder_kept a b e p q k d (leaf l) = k (suc d) (leaf l)
in_binder_kept a b e p q k d (node h ts) = k (suc d) (node h ts)
in_binder_kept a b e p q k d (bind ks t) = k (suc d) (bind ks t)
