-- What a clause that a trait states comes to for a type that implements the trait.
use Rattle.std.specs.Prelude.{◌≡◌, ℕ, zero, suc, ◌+◌, cond, nat_eq, length, List, ◌++◌, Option, Some, None}
use Rattle.relation_terms.specs.Heads.{BoundKind, region_kind, type_kind, const_kind, bound, atom}
use Rattle.relation_terms.specs.Heads.{type_param, early_region, const_param}
use Rattle.relation_terms.specs.Trees.{Tree, leaf, bind, cons}
use Rattle.relation_terms.specs.Meaning.{Meaning, bound_kinds}
use Rattle.relation_terms.specs.declared.terms.binder.Binder.{Binder}
use Rattle.relation_terms.specs.declared.terms.binder.BoundVariableKind.{BoundVariableKind}
use Rattle.relation_terms.specs.declared.terms.keys.BoundVarsKey.{BoundVarsKey}
use Rattle.relation_terms.specs.declared.terms.keys.ClauseKey.{ClauseKey}
use Rattle.relation_terms.specs.declared.predicate.trait_ref.TraitRef.{TraitRef}
use Rattle.relation_folds.specs.Folds.{folded}
use Rattle.relation_folds.specs.Shifts.{standing}

-- The member at a place of a list, if there is one.
abbrev pub member : Tree → ℕ → Option Tree
member (cons t ts) zero = Some t
member (cons t ts) (suc i) = member ts i
member t i = None

-- What stands in a clause that a trait states, where the trait has these arguments and `count` variables are bound
-- around them: for each parameter the argument at its index, if it is of the parameter's kind; for each variable of the
-- clause's own binder the one so many places further on.
abbrev pub stands_for : ℕ → Tree → ℕ → Tree → Option Tree
stands_for count args depth (leaf (bound k d i)) = cond (nat_eq d depth) (Some (leaf (bound k d (count + i)))) None
stands_for count args depth (leaf (atom (type_param i n))) = standing type_kind depth (member args i)
stands_for count args depth (leaf (atom (early_region i n))) = standing region_kind depth (member args i)
stands_for count args depth (leaf (atom (const_param i n))) = standing const_kind depth (member args i)
stands_for count args depth t = None

-- A clause that a trait states, of these arguments under a binder: the binder's variables, then the clause's.
abbrev pub stated_of : List BoundKind → Tree → Tree → Tree
stated_of ks args (bind cs c) = bind (ks ++ cs) (folded (stands_for (length ks) args) 0 c)
stated_of ks args t = t

module _ {Key Id Name : Type 0} (m : Meaning Key Id Name) where
  -- What is made of a clause is that clause for the arguments of a trait reference, under its binder.
  abbrev pub Instantiates : Meaning Key Id Name → Binder Key (TraitRef Key Id) → ClauseKey Key → ClauseKey Key → Type 0
  Instantiates n b c k = (ks : List BoundKind) → m.bound_vars b.bound_vars ≡ Some ks →
      n.clause k ≡ stated_of ks (m.args (b.value).args) (m.clause c)

  -- A list has the variables of one binder, and behind them those of another.
  abbrev pub Joins : BoundVarsKey Key → BoundVarsKey Key → List (BoundVariableKind Name) → Type 0
  Joins b c vars = (ks ls : List BoundKind) → m.bound_vars b ≡ Some ks → m.bound_vars c ≡ Some ls →
      bound_kinds m vars ≡ ks ++ ls
