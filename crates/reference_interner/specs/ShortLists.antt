-- The members of a list, wherever they stand.
use Rattle.std.specs.Prelude.{List}
use Rattle.reference_interner.specs.declared.short_list.ShortList.{ShortList}
use Rattle.reference_interner.specs.declared.short_list.ShortList.TheVariants.{One, Two, Three, Four, Many}

abbrev pub members_of : {T : Type 0} → ShortList T → List T
members_of (One members) = members
members_of (Two members) = members
members_of (Three members) = members
members_of (Four members) = members
members_of (Many members) = members.items
