-- Terms made anew: the form of one over other parts.
use Rattle.std.specs.Prelude.{◌≡◌, List, [], ◌∷◌, IsTrue, Result, IfOk}
use Rattle.relation_terms.specs.declared.terms.generic_arg.GenericArgKind.{GenericArgKind}
use Rattle.relation_terms.specs.declared.terms.generic_arg.GenericArgKind.TheVariants.{Lifetime, Ty, Const}
use Rattle.relation_terms.specs.Heads.{Sort, region_sort, type_sort, const_sort, unevaluated, expression, value, value_branch}
use Rattle.relation_terms.specs.Trees.{Tree, node, nil, cons, known, IsTerm}
use Rattle.relation_terms.specs.Meaning.{Meaning, Extends}

-- The sort that an argument's kind says.
abbrev pub arg_sort : {Key : Type 0} → GenericArgKind Key → Sort
arg_sort (Lifetime r) = region_sort
arg_sort (Ty t) = type_sort
arg_sort (Const c) = const_sort

-- As many arguments as there are parts, each of the kind of the part at its place.
abbrev pub FitArgs : {Key : Type 0} → List (GenericArgKind Key) → Tree → Type 0
FitArgs [] nil = Unit {0}
FitArgs (x ∷ xs) (cons t ts) = IsTerm (arg_sort x) t × FitArgs xs ts
FitArgs xs ts = ⊥

-- The same form over other parts; what has no parts is itself.
abbrev pub form_over : Tree → Tree → Tree
form_over (node h ts) us = node h us
form_over t us = t

-- Of a constant the same: an item or an expression over other arguments, a value of its type with other branches.
abbrev pub const_over : Tree → Tree → Tree
const_over (node (unevaluated d) ts) us = node (unevaluated d) us
const_over (node (expression k) ts) us = node (expression k) us
const_over (node value (cons t (cons (node value_branch vs) nil))) us =
    node value (cons t (cons (node value_branch us) nil))
const_over c us = c

-- A known term of that tree was made, or none was; what keys meant they mean.
pub record Made {Key Id Name X F : Type 0} (m n : Meaning Key Id Name) (tree : X → Tree) (t : Tree) (result : Result X F)
    : Type 0 where
  pub extends : Extends m n
  pub sure : IfOk result (λ k. IsTrue (known (tree k)))
  pub means : IfOk result (λ k. tree k ≡ t)
