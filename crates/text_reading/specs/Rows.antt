-- The rows of each sort.
use Rattle.std.specs.Prelude.{ℕ, List, map}
use Rattle.text_reading.specs.declared.reading.words.Word.{Word}
use Rattle.text_reading.specs.declared.reading.shapes.Makes.{Makes}
use Rattle.text_reading.specs.Shapes.{Row}
use Rattle.text_reading.specs.declared.reading.shapes.Piece.{Piece}
use Rattle.text_reading.specs.declared.reading.shapes.Sort.{Sort}
use Rattle.text_reading.specs.declared.reading.shapes.Sort.TheVariants as sort
use Rattle.text_reading.specs.declared.reading.rows.statements.TheConstants as statements
use Rattle.text_reading.specs.declared.reading.rows.questions.TheConstants as questions
use Rattle.text_reading.specs.declared.reading.rows.predicates.TheConstants as predicates
use Rattle.text_reading.specs.declared.reading.rows.impls.TheConstants as impls
use Rattle.text_reading.specs.declared.reading.rows.terms.TheConstants as terms
use Rattle.text_reading.specs.Written.{IsOfRows}

-- the rows that a constant names
abbrev rows_named : List (Makes × record { now : List Piece }) → List Row
rows_named rs = map (λ r. (r.0, r.1.now)) rs

-- how what is of a sort may be written
abbrev pub rows_of : Sort → List Row
rows_of sort.Statement = rows_named statements.STATEMENT
rows_of sort.Stating = rows_named statements.STATING
rows_of sort.Declared = rows_named statements.DECLARED
rows_of sort.Parameter = rows_named statements.PARAMETER
rows_of sort.Question = rows_named questions.QUESTION
rows_of sort.Asked = rows_named questions.ASKED
rows_of sort.Pair = rows_named questions.PAIR
rows_of sort.Skip = rows_named questions.SKIP
rows_of sort.Stop = rows_named questions.STOP
rows_of sort.Outlives = rows_named questions.OUTLIVES
rows_of sort.Put = rows_named questions.PUT
rows_of sort.Arguments = rows_named questions.ARGUMENTS
rows_of sort.Number = rows_named questions.NUMBER
rows_of sort.Made = rows_named statements.MADE
rows_of sort.Limit = rows_named predicates.LIMIT
rows_of sort.Pulls = rows_named predicates.PULLS
rows_of sort.Predicate = rows_named predicates.PREDICATE
rows_of sort.ImplHeader = rows_named impls.IMPL_HEADER
rows_of sort.Given = rows_named impls.GIVEN
rows_of sort.Gives = rows_named impls.GIVES
rows_of sort.Assigned = rows_named impls.ASSIGNED
rows_of sort.Generics = rows_named impls.GENERICS
rows_of sort.GenericParam = rows_named impls.GENERIC_PARAM
rows_of sort.Method = rows_named impls.METHOD
rows_of sort.PredicateBinder = rows_named predicates.PREDICATE_BINDER
rows_of sort.Binder = rows_named terms.BINDER
rows_of sort.NoBinder = rows_named terms.NO_BINDER
rows_of sort.Variables = rows_named terms.VARIABLES
rows_of sort.Variable = rows_named terms.VARIABLE
rows_of sort.Term = rows_named terms.TERM
rows_of sort.Plain = rows_named terms.PLAIN
rows_of sort.Constant = rows_named terms.CONSTANT
rows_of sort.Output = rows_named terms.OUTPUT
rows_of sort.Bound = rows_named terms.BOUND
rows_of sort.Named = rows_named terms.NAMED
rows_of sort.Argument = rows_named terms.ARGUMENT
rows_of sort.Pattern = rows_named terms.PATTERN
rows_of sort.Alternative = rows_named terms.ALTERNATIVE
rows_of sort.Grouped = rows_named terms.GROUPED

-- what is written from the word `from` on and before the word `to` is of that sort
abbrev pub IsOfSort : List Word → Sort → ℕ → ℕ → Type 0
IsOfSort ws s from to = (m : Makes) × IsOfRows ws (rows_of s) from to m
