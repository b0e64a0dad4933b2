-- The forms of terms over parts, and what is compared of one besides its parts.
use Rattle.std.specs.Prelude.{ℕ, Option}
use Rattle.term_enums.specs.declared.FnHeader.{FnHeader}

-- Which form a term over parts has: the form of that name, pointers and references by their mutability. A leaf has no
-- parts.
pub data Form : Type 0 where
  Leaf Adt FnDef Closure CoroutineClosure Coroutine CoroutineWitness : Form
  Array Slice Pat ConstPtr MutPtr SharedRef MutRef : Form
  Tuple FnPtr UnsafeBinder Dynamic Alias Value Branch : Form

-- The form; the item that it is of, of a trait object its principal; the header of a function pointer; how many members
-- a tuple has, how many branches a value, how many inputs a function pointer.
pub record Outline (D : Type 0) : Type 0 where
  pub form : Form
  pub item : Option D
  pub header : Option FnHeader
  pub parts : ℕ
