-- `==` takes widths of numbers and mutabilities for one exactly where they are one.
use Rattle.std.proofs.Common.{◌≡◌, IsTrue, Bool, refl}
use Rattle.std.proofs.lemmas.Bool.{false≢true}
use Rattle.term_enums.specs.declared.IntTy.{IntTy}
use Rattle.term_enums.specs.declared.IntTy.TheVariants.{Isize, I8, I16, I32, I64, I128}
use Rattle.term_enums.specs.declared.UintTy.{UintTy}
use Rattle.term_enums.specs.declared.UintTy.TheVariants.{Usize, U8, U16, U32, U64, U128}
use Rattle.term_enums.specs.declared.FloatTy.{FloatTy}
use Rattle.term_enums.specs.declared.FloatTy.TheVariants.{F16, F32, F64, F128}
use Rattle.term_enums.specs.declared.Mutability.{Mutability}
use Rattle.term_enums.specs.declared.Mutability.TheVariants.{Not, Mut}
use Rattle.term_enums.specs.contracts.IntTyPartialEq.TheImpl as int_impl
use Rattle.term_enums.specs.contracts.UintTyPartialEq.TheImpl as uint_impl
use Rattle.term_enums.specs.contracts.FloatTyPartialEq.TheImpl as float_impl
use Rattle.term_enums.specs.contracts.MutabilityPartialEq.TheImpl as mut_impl

abbrev pub int_eq : IntTy → IntTy → Bool
int_eq = int_impl.ghosts.eq

abbrev pub uint_eq : UintTy → UintTy → Bool
uint_eq = uint_impl.ghosts.eq

abbrev pub float_eq : FloatTy → FloatTy → Bool
float_eq = float_impl.ghosts.eq

abbrev pub mut_eq : Mutability → Mutability → Bool
mut_eq = mut_impl.ghosts.eq

pub int_same : (i j : IntTy) → IsTrue (int_eq i j) → i ≡ j
int_same Isize Isize h = refl
int_same I8 I8 h = refl
int_same I16 I16 h = refl
int_same I32 I32 h = refl
int_same I64 I64 h = refl
int_same I128 I128 h = refl
int_same _ _ h = absurd (false≢true h)

pub int_self : (i : IntTy) → IsTrue (int_eq i i)
int_self Isize = refl
int_self I8 = refl
int_self I16 = refl
int_self I32 = refl
int_self I64 = refl
int_self I128 = refl

pub uint_same : (i j : UintTy) → IsTrue (uint_eq i j) → i ≡ j
uint_same Usize Usize h = refl
uint_same U8 U8 h = refl
uint_same U16 U16 h = refl
uint_same U32 U32 h = refl
uint_same U64 U64 h = refl
uint_same U128 U128 h = refl
uint_same _ _ h = absurd (false≢true h)

pub uint_self : (i : UintTy) → IsTrue (uint_eq i i)
uint_self Usize = refl
uint_self U8 = refl
uint_self U16 = refl
uint_self U32 = refl
uint_self U64 = refl
uint_self U128 = refl

pub float_same : (i j : FloatTy) → IsTrue (float_eq i j) → i ≡ j
float_same F16 F16 h = refl
float_same F32 F32 h = refl
float_same F64 F64 h = refl
float_same F128 F128 h = refl
float_same _ _ h = absurd (false≢true h)

pub float_self : (i : FloatTy) → IsTrue (float_eq i i)
float_self F16 = refl
float_self F32 = refl
float_self F64 = refl
float_self F128 = refl

pub mut_same : (i j : Mutability) → IsTrue (mut_eq i j) → i ≡ j
mut_same Not Not h = refl
mut_same Mut Mut h = refl
mut_same _ _ h = absurd (false≢true h)

pub mut_self : (i : Mutability) → IsTrue (mut_eq i i)
mut_self Not = refl
mut_self Mut = refl
