-- What signs say, and how they are written.
use Rattle.std.specs.Prelude.{ℕ, List, [], ◌∷◌, codes, suc}
use Rattle.term_enums.specs.declared.Mutability.{Mutability}
use Rattle.term_enums.specs.declared.Mutability.TheVariants as mutability
use Rattle.term_enums.specs.declared.Safety.{Safety}
use Rattle.term_enums.specs.declared.Safety.TheVariants as safety
use Rattle.term_enums.specs.declared.ExternAbi.{ExternAbi}
use Rattle.term_enums.specs.declared.ExternAbi.TheVariants as abi
use Rattle.text_reading.specs.declared.reading.signs.Sign.{Sign}
use Rattle.text_reading.specs.declared.reading.signs.Sign.TheVariants as sign
use Rattle.text_reading.specs.declared.reading.words.Word.{Word}
use Rattle.text_reading.specs.Words.{StandsAt}

-- how a sign is written
abbrev pub spelling : Sign → List ℕ
spelling sign.Subtype = codes "<:"
spelling sign.Supertype = codes ":>"
spelling sign.Equal = codes "=="
spelling sign.StructurallyEqual = codes "==="
spelling sign.FatArrow = codes "=>"
spelling sign.Less = codes "<"
spelling sign.Greater = codes ">"
spelling sign.LeftParen = codes "("
spelling sign.RightParen = codes ")"
spelling sign.LeftBracket = codes "["
spelling sign.RightBracket = codes "]"
spelling sign.LeftBrace = codes "{"
spelling sign.RightBrace = codes "}"
spelling sign.Comma = codes ","
spelling sign.Semicolon = codes ";"
spelling sign.Assign = codes "="
spelling sign.Ampersand = codes "&"
spelling sign.Star = codes "*"
spelling sign.Plus = codes "+"
spelling sign.Minus = codes "-"
spelling sign.Bang = codes "!"
spelling sign.Bar = codes "|"
spelling sign.UpTo = codes "..="
spelling sign.Arrow = codes "->"
spelling sign.Dots = codes ".."
spelling sign.Colon = codes ":"
spelling sign.PathSep = codes "::"
spelling sign.AbiC = codes "\"C\""
spelling sign.AbiSystem = codes "\"system\""
spelling sign.After = codes "after"
spelling sign.Args = codes "args"
spelling sign.As = codes "as"
spelling sign.Assume = codes "assume"
spelling sign.Assumptions = codes "assumptions"
spelling sign.At = codes "at"
spelling sign.Auto = codes "auto"
spelling sign.Binding = codes "binding"
spelling sign.Budget = codes "budget"
spelling sign.Closure = codes "closure"
spelling sign.Components = codes "components"
spelling sign.Const = codes "const"
spelling sign.Coroutine = codes "coroutine"
spelling sign.Count = codes "count"
spelling sign.Dyn = codes "dyn"
spelling sign.Elaborate = codes "elaborate"
spelling sign.Error = codes "error"
spelling sign.Escapes = codes "escapes"
spelling sign.Expr = codes "expr"
spelling sign.Extern = codes "extern"
spelling sign.Fn = codes "fn"
spelling sign.Fold = codes "fold"
spelling sign.For = codes "for"
spelling sign.Goals = codes "goals"
spelling sign.Impl = codes "impl"
spelling sign.Implied = codes "implied"
spelling sign.In = codes "in"
spelling sign.Infer = codes "infer"
spelling sign.Infers = codes "infers"
spelling sign.Inherent = codes "inherent"
spelling sign.Is = codes "is"
spelling sign.Key = codes "key"
spelling sign.Let = codes "let"
spelling sign.Limit = codes "limit"
spelling sign.May = codes "may"
spelling sign.Methods = codes "methods"
spelling sign.Mode = codes "mode"
spelling sign.Mut = codes "mut"
spelling sign.Null = codes "null"
spelling sign.Of = codes "of"
spelling sign.One = codes "one"
spelling sign.Opaque = codes "opaque"
spelling sign.Open = codes "open"
spelling sign.Overlap = codes "overlap"
spelling sign.Param = codes "param"
spelling sign.Prove = codes "prove"
spelling sign.Pulls = codes "pulls"
spelling sign.Regions = codes "regions"
spelling sign.Repeat = codes "repeat"
spelling sign.Rigid = codes "rigid"
spelling sign.SelfType = codes "self"
spelling sign.Sized = codes "sized"
spelling sign.Skip = codes "skip"
spelling sign.Solve = codes "solve"
spelling sign.Solver = codes "solver"
spelling sign.Stop = codes "stop"
spelling sign.Struct = codes "struct"
spelling sign.Super = codes "super"
spelling sign.Supertraits = codes "supertraits"
spelling sign.Then = codes "then"
spelling sign.Trait = codes "trait"
spelling sign.Type = codes "type"
spelling sign.Unify = codes "unify"
spelling sign.Unsafe = codes "unsafe"
spelling sign.Variables = codes "variables"
spelling sign.Visit = codes "visit"
spelling sign.Walk = codes "walk"
spelling sign.Where = codes "where"
spelling sign.With = codes "with"
spelling sign.Witness = codes "witness"

-- what stands behind the `*` of a raw pointer
abbrev pub pointer_sign : Mutability → Sign
pointer_sign mutability.Not = sign.Const
pointer_sign mutability.Mut = sign.Mut

-- what stands before the inputs of a function pointer, behind its binder
abbrev pub abi_signs : ExternAbi → List Sign
abi_signs abi.Rust = sign.Fn ∷ sign.LeftParen ∷ []
abi_signs abi.C = sign.Extern ∷ sign.AbiC ∷ sign.Fn ∷ sign.LeftParen ∷ []
abi_signs abi.System = sign.Extern ∷ sign.AbiSystem ∷ sign.Fn ∷ sign.LeftParen ∷ []

abbrev pub header_signs : Safety → ExternAbi → List Sign
header_signs safety.Safe a = abi_signs a
header_signs safety.Unsafe a = sign.Unsafe ∷ abi_signs a

-- the number of the word behind what says that, where the word of that number is the first
abbrev pub behind_safety : ℕ → Safety → ℕ
behind_safety k safety.Safe = k
behind_safety k safety.Unsafe = suc k

-- the words from that number on are these signs
abbrev pub StandFrom : List Word → ℕ → List Sign → Type 0
StandFrom ws k [] = Unit {0}
StandFrom ws k (s ∷ ss) = StandsAt ws k s × StandFrom ws (suc k) ss
