-- The binders around a term, as the sorts of what they bind.
--
--   variable_sort x       the sort of a binder's variable
--   sort_of s             the sort of what a binder binds
--   sorts_around around   the lists of the binders, the innermost first, as the sorts of what stands in them
--   number_around around  the number of the binders, 0 of none
--   IsInside m vs a b     b is what stands around the body of a binder of a list, under binders a
--   sort_at ls d i        the sort of what stands at place i of the list of the binder d steps up
--   IsUnbound ls d i s e  what is said to be bound there as one of sort s isn't, for the reason e
use Rattle.std.specs.Prelude.{◌≡◌, ◌≢◌, ℕ, zero, suc, ◌+◌, ◌<◌, List, [], ◌∷◌, map, length, Option, Some, None}
use Rattle.std.specs.Prelude.{slice_get}
use Rattle.relation_terms.specs.Heads.{Sort, region_sort, type_sort, const_sort}
use Rattle.relation_terms.specs.Meaning.{Meaning, bound_kinds}
use Rattle.relation_terms.specs.declared.terms.keys.BoundVarsKey.{BoundVarsKey}
use Rattle.relation_terms.specs.declared.terms.binder.BoundVariableKind.{BoundVariableKind}
use Rattle.relation_terms.specs.declared.terms.binder.BoundVariableKind.TheVariants as variable
use Rattle.may_relate.specs.declared.unfit.Unfit.{Unfit}
use Rattle.may_relate.specs.declared.unfit.Unfit.TheVariants.{Escapes, NotInList}
use Rattle.may_relate.specs.declared.around.BoundSort.{BoundSort}
use Rattle.may_relate.specs.declared.around.BoundSort.TheVariants.{Region, Ty, Const}
use Rattle.may_relate.specs.declared.around.Around.{Around, Nothing, Binder'}

-- The sort of a binder's variable.
abbrev pub variable_sort : {Name : Type 0} → BoundVariableKind Name → Sort
variable_sort (variable.Ty n) = type_sort
variable_sort (variable.Region n) = region_sort
variable_sort (variable.Const n) = const_sort

-- The sort of what a binder binds.
abbrev pub sort_of : BoundSort → Sort
sort_of Region = region_sort
sort_of Ty = type_sort
sort_of Const = const_sort

-- The lists of the binders, the innermost first, as the sorts of what stands in them.
abbrev pub sorts_around : {Name : Type 0} → Around Name → List (List Sort)
sorts_around Nothing = []
sorts_around (Binder' list place p outer) = map variable_sort list.now ∷ sorts_around outer

-- The number of the binders.
abbrev pub number_around : {Name : Type 0} → Around Name → ℕ
number_around Nothing = 0
number_around (Binder' list place p outer) = place + 1

-- The binders around the body of a binder of a list.
abbrev pub IsInside : {Key Id Name : Type 0} → Meaning Key Id Name → BoundVarsKey Key → Around Name → Around Name →
    Type 0
IsInside m vars around Nothing = ⊥
IsInside m vars around (Binder' list place p outer) =
    (m.bound_vars vars ≡ Some (bound_kinds m list.now)) × (outer ≡ around)

-- The sort of what stands at a place of the list of the binder so many steps up.
abbrev pub sort_at : List (List Sort) → ℕ → ℕ → Option Sort
sort_at [] d i = None
sort_at (l ∷ ls) zero i = slice_get l i
sort_at (l ∷ ls) (suc d) i = sort_at ls d i

-- Why what is said to be bound so many steps up, at a place of the list there and as one of a sort, is not: there are
-- fewer binders around, by the number that the reason tells and one; or the list has nothing of the sort at that place.
abbrev pub IsUnbound : List (List Sort) → ℕ → ℕ → Sort → Unfit → Type 0
IsUnbound ls d i s (Escapes out) = d ≡ length ls + out.0
IsUnbound ls d i s (NotInList place) = (place.0 ≡ i) × (d < length ls) × (sort_at ls d i ≢ Some s)
IsUnbound ls d i s e = ⊥
