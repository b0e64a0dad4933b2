-- What a type is to relating before its parts are looked at, and which pairs are left to goals.
use Rattle.std.specs.Prelude.{◌≡◌, ◌⊎◌, ℕ}
use Rattle.relation_terms.specs.declared.terms.keys.ConstKey.{ConstKey}
use Rattle.relation_terms.specs.declared.terms.keys.TyKey.{TyKey}
use Rattle.relation_terms.specs.Heads.{VarKind, variable}
use Rattle.relation_terms.specs.Trees.{Tree, leaf}
use Rattle.relation_terms.specs.Meaning.{Meaning}
use Rattle.relation_semantics.specs.Errors.{IsOpaque, IsOpaqueBeside, IsDeferred}
use Rattle.relation_semantics.specs.Lawful.{State}
use Rattle.relation_semantics.specs.Relation.{IsError, IsAlias}
use Rattle.relation_semantics.specs.Settings.{Settings, DefersAliases, LeavesOpaque}
use Rattle.relation_combining.specs.declared.deferring.Standing.{Standing}
use Rattle.relation_combining.specs.declared.deferring.Standing.TheVariants.{Error, Variable, Opaque, Alias, Other}
use Rattle.relation_combining.specs.declared.deferring.Deferring.{Deferring}
use Rattle.relation_combining.specs.declared.deferring.Deferring.TheVariants.{ToGoal, Open, ToNone}

-- A variable of whatever kind.
abbrev pub IsVariable : Tree → Type 0
IsVariable t = (k : VarKind) × (n : ℕ) × (t ≡ leaf (variable k n))

-- A type is neither an error, nor a variable, nor an alias; the same of two types.
abbrev pub IsOrdinary : Tree → Type 0
IsOrdinary t = (IsError t → ⊥) × (IsVariable t → ⊥) × (IsAlias t → ⊥)

abbrev pub AreOrdinary : {Key Id Name : Type 0} → Meaning Key Id Name → TyKey Key → TyKey Key → Type 0
AreOrdinary m a b = IsOrdinary (m.ty a) × IsOrdinary (m.ty b)

-- A type is so before its parts are looked at: an error, a variable, an opaque type, another alias, or none of these.
abbrev pub StandsAs : Standing → Tree → Type 0
StandsAs Error t = IsError t
StandsAs Variable t = IsVariable t
StandsAs Opaque t = IsOpaque t
StandsAs Alias t = IsAlias t × (IsOpaque t → ⊥)
StandsAs Other t = IsOrdinary t

-- What comes of two types neither of which is an error: they are left to a goal, one being an alias; they are left open,
-- one being an opaque type beside no variable; or neither.
abbrev pub LeftAs : Settings → Tree → Tree → Deferring → Type 0
LeftAs k a b ToGoal = DefersAliases k × (IsAlias a ⊎ IsAlias b)
LeftAs k a b Open = LeavesOpaque k × (IsOpaqueBeside a b ⊎ IsOpaqueBeside b a)
LeftAs k a b ToNone = IsDeferred k a b → ⊥

-- Of two constants one is left to a goal, as an unevaluated one.
abbrev pub DefersConst : {Key Id Name : Type 0} → State Key Id Name → ConstKey Key → ConstKey Key → Type 0
DefersConst r a b =
    DefersAliases r.kept.settings × (IsAlias ((r.meaning).const_ a) ⊎ IsAlias ((r.meaning).const_ b))

-- Two types are left to be related by their parts: neither is an error or a variable, and they are left to no goal.
abbrev pub AreByParts : {Key Id Name : Type 0} → State Key Id Name → TyKey Key → TyKey Key → Type 0
AreByParts r a b = let t = (r.meaning).ty a in let u = (r.meaning).ty b in
    ((IsError t → ⊥) × (IsVariable t → ⊥)) × ((IsError u → ⊥) × (IsVariable u → ⊥)) × (IsDeferred r.kept.settings t u → ⊥)
