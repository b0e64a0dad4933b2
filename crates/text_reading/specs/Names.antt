-- Errors of naming, and how they are written; the numbers that are written of a type.
use Rattle.std.specs.Prelude.{ℕ, List, ◌++◌, codes, Option, Some, None, if◌then◌else◌, ◌==◌}
use Rattle.std.specs.Fmt.{decimal, WritesInCalls}
use Rattle.term_enums.specs.declared.IntTy.TheVariants as int
use Rattle.term_enums.specs.declared.UintTy.TheVariants as uint
use Rattle.text_reading.specs.declared.naming.program.Sort.{Sort}
use Rattle.text_reading.specs.declared.naming.program.Sort.TheVariants as sort
use Rattle.text_reading.specs.declared.naming.program.Term.{Term}
use Rattle.text_reading.specs.declared.naming.program.Term.TheVariants as term
use Rattle.text_reading.specs.declared.naming.error.Missing.{Missing}
use Rattle.text_reading.specs.declared.naming.error.Missing.TheVariants as missing
use Rattle.text_reading.specs.declared.naming.error.NameError.{NameError}
use Rattle.text_reading.specs.declared.naming.error.NameError.TheVariants as name_error
use Rattle.text_reading.specs.declared.naming.error.Wrong.{Wrong}
use Rattle.text_reading.specs.declared.naming.error.Wrong.TheVariants as wrong
use Rattle.text_reading.specs.Errors.{IsFound}

-- the bytes of a text that the error is about, if it is about some
abbrev pub name_span_of : NameError → Option (ℕ × ℕ)
name_span_of name_error.Memory = None
name_span_of (name_error.Wrong at end why) = Some (at, end)

-- what a term of a sort is called
abbrev pub sort_name : Sort → List ℕ
sort_name sort.Region = codes "a region"
sort_name sort.Type = codes "a type"
sort_name sort.Const = codes "a constant"
sort_name sort.Pattern = codes "a pattern"
sort_name sort.Predicate = codes "a predicate"

-- what was expected, where the text itself tells what was found
abbrev pub expected_found : List ℕ → List ℕ → List ℕ
expected_found expected found = codes "expected " ++ (expected ++ (codes ", found `" ++ (found ++ codes "`")))

-- the word behind a number of arguments
abbrev pub argument_word : ℕ → List ℕ
argument_word n = if n == 1 then codes "argument" else codes "arguments"

-- a number of arguments
abbrev pub count_text : ℕ → ℕ → List ℕ
count_text expected found =
    codes "expected " ++ (decimal expected ++ (codes " "
    ++ (argument_word expected ++ (codes ", found " ++ decimal found))))

-- what a name that is not known would have to be
abbrev pub missing_name : Missing → List ℕ
missing_name missing.Item = codes "item yet"
missing_name missing.Trait = codes "trait yet"
missing_name missing.Associated = codes "item of the trait yet"
missing_name missing.Type = codes "type yet"
missing_name missing.Const = codes "constant yet"
missing_name missing.Lifetime = codes "lifetime yet"
missing_name missing.Bound = codes "variable of a binder around it"

-- what stands before the name where it is declared
abbrev pub before_missing : Missing → List ℕ
before_missing missing.Item = codes "struct "
before_missing missing.Trait = codes "trait "
before_missing missing.Associated = codes "type Tr::"
before_missing missing.Type = codes "param "
before_missing missing.Const = codes "param const "
before_missing missing.Lifetime = codes "param "
before_missing missing.Bound = codes "for<"

-- what stands behind the name where it is declared, and that this does so
abbrev pub behind_missing : Missing → List ℕ
behind_missing missing.Item = codes "<+T>;` declares one"
behind_missing missing.Trait = codes ";` declares one"
behind_missing missing.Associated = codes ";` declares one"
behind_missing missing.Type = codes ";` declares one"
behind_missing missing.Const = codes ";` declares one"
behind_missing missing.Lifetime = codes ";` declares one"
behind_missing missing.Bound = codes "> fn()` binds one"

-- that a name is not known, and an example of what declares it
abbrev pub unknown_text : List ℕ → Missing → List ℕ
unknown_text found m =
    codes "`" ++ (found ++ (codes "` is no " ++ (missing_name m ++ (codes "; `"
    ++ (before_missing m ++ (found ++ behind_missing m))))))

-- what is wrong with a part of a text
abbrev pub wrong_text : List ℕ → Wrong → List ℕ
wrong_text found (wrong.Unknown m) = unknown_text found m
wrong_text found wrong.Again = expected_found (codes "a new name") found
wrong_text found (wrong.Sort s t) = codes "expected " ++ (sort_name s ++ (codes ", found " ++ sort_name t))
wrong_text found wrong.NoItem = expected_found (codes "an item") found
wrong_text found wrong.NoTrait = expected_found (codes "a trait") found
wrong_text found wrong.IsTrait = expected_found (codes "no trait") found
wrong_text found wrong.OtherTrait = expected_found (codes "the trait of the impl before") found
wrong_text found wrong.NoImpl = expected_found (codes "the number of an impl before") found
wrong_text found (wrong.Count m n) = count_text m n
wrong_text found wrong.Parameter = expected_found (codes "no parameter") found
wrong_text found wrong.NumberType = expected_found (codes "a number of a type of numbers") found
wrong_text found wrong.TooLarge = codes "the number is too large"
wrong_text found wrong.TooManyVariables =
    codes "expected a variable below " ++ (decimal 10000 ++ (codes ", found `" ++ (found ++ codes "`")))
wrong_text found (wrong.Universe least) =
    codes "expected a universe from " ++ (decimal least ++ (codes " to "
    ++ (decimal 9999 ++ (codes ", found `" ++ (found ++ codes "`")))))
wrong_text found wrong.Assigned = expected_found (codes "an argument") found
wrong_text found wrong.Counted = expected_found (codes "a number alone") found
wrong_text found wrong.Place = expected_found (codes "a place by its number") found
wrong_text found wrong.NoBound = expected_found (codes "that a trait is implemented") found
wrong_text found wrong.NotProvable = expected_found (codes "that a trait is implemented, or what its type is") found
wrong_text found wrong.NoProjection = expected_found (codes "a trait's type or constant") found
wrong_text found wrong.NoPredicate = expected_found (codes "a predicate") found
wrong_text found wrong.NoSolver = expected_found (codes "`old` or `next`") found
wrong_text found wrong.NoMode = expected_found (codes "a typing mode") found
wrong_text found wrong.NoTime = expected_found (codes "a number above 0") found
wrong_text found wrong.NothingBefore = codes "expected a question before this, found none"
wrong_text found wrong.TooDeep = codes "the term has more than 1024 levels"
wrong_text found wrong.NotRead = codes "expected what reading makes, found another tree"

-- why the names of a text were not looked up was written
abbrev pub WritesNameError : {W : Type 0} → (W → List ℕ → W → Type 0) → List ℕ → NameError → W → W → Type 0
WritesNameError took text name_error.Memory old new = WritesInCalls took old (codes "memory") new
WritesNameError took text (name_error.Wrong at end why) old new =
    (found : List ℕ) × IsFound text at end found × WritesInCalls took old (wrong_text found why) new

-- how many bytes a number of a type takes, and the greatest bits that it has, if numbers are written of that type
abbrev pub number_size : Term → Option (ℕ × ℕ)
number_size term.Bool = Some (1, 1)
number_size term.Char = Some (4, 0x10_ffff)
number_size (term.Uint uint.U8) = Some (1, 0xff)
number_size (term.Uint uint.U16) = Some (2, 0xffff)
number_size (term.Uint uint.U32) = Some (4, 0xffff_ffff)
number_size (term.Uint uint.U64) = Some (8, 0xffff_ffff_ffff_ffff)
number_size (term.Uint uint.Usize) = Some (8, 0xffff_ffff_ffff_ffff)
number_size (term.Uint uint.U128) = Some (16, 0xffff_ffff_ffff_ffff_ffff_ffff_ffff_ffff)
number_size (term.Int int.I8) = Some (1, 0xff)
number_size (term.Int int.I16) = Some (2, 0xffff)
number_size (term.Int int.I32) = Some (4, 0xffff_ffff)
number_size (term.Int int.I64) = Some (8, 0xffff_ffff_ffff_ffff)
number_size (term.Int int.Isize) = Some (8, 0xffff_ffff_ffff_ffff)
number_size (term.Int int.I128) = Some (16, 0xffff_ffff_ffff_ffff_ffff_ffff_ffff_ffff)
number_size t = None
