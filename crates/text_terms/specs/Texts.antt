-- How the small enums are written.
use Rattle.std.specs.Prelude.{ℕ, Bool, List, ◌++◌, codes, Option, Some, None, option_map}
use Rattle.std.specs.HashMap.{get}
use Rattle.term_enums.specs.declared.IntTy.{IntTy}
use Rattle.term_enums.specs.declared.IntTy.TheVariants as int
use Rattle.term_enums.specs.declared.UintTy.{UintTy}
use Rattle.term_enums.specs.declared.UintTy.TheVariants as uint
use Rattle.term_enums.specs.declared.FloatTy.{FloatTy}
use Rattle.term_enums.specs.declared.FloatTy.TheVariants as float
use Rattle.term_enums.specs.declared.Mutability.{Mutability}
use Rattle.term_enums.specs.declared.Mutability.TheVariants as mutability
use Rattle.relation_terms.specs.declared.terms.ty_kind.TyKind.{TyKind}
use Rattle.relation_terms.specs.declared.terms.ty_kind.TyKind.TheVariants as ty_kind
use Rattle.relation_terms.specs.declared.terms.const_kind.ConstKind.{ConstKind}
use Rattle.relation_terms.specs.declared.terms.const_kind.ConstKind.TheVariants as const_kind
use Rattle.term_enums.specs.declared.Safety.{Safety}
use Rattle.term_enums.specs.declared.Safety.TheVariants as safety
use Rattle.term_enums.specs.declared.ExternAbi.{ExternAbi}
use Rattle.term_enums.specs.declared.ExternAbi.TheVariants as abi
use Rattle.text_reading.specs.declared.reading.signs.Sign.TheVariants as sign
use Rattle.text_reading.specs.declared.naming.program.Term.TheVariants as term
use Rattle.text_reading.specs.Names.{number_size}
use Rattle.text_reading.specs.Signs.{spelling, pointer_sign}
use Rattle.relation_terms.specs.declared.terms.ids.DefId.{DefId}
use Rattle.text_terms.specs.declared.printing.names.ItemText.{ItemText}
use Rattle.text_terms.specs.declared.printing.names.Texts.{Texts}
use Rattle.text_terms.specs.declared.printing.names.TraitText.{TraitText}

-- the text of an item, of which that is handed in
abbrev pub item_text : Option ItemText → List ℕ
item_text None = codes "_"
item_text (Some t) = t.text.now

-- the text of an item, by the texts that are handed in
abbrev pub text_at : {D N : Type 0} → (D → D → Bool) → Texts D N → DefId D → List ℕ
text_at eq texts item = item_text (get eq texts.items item.0)

-- the trait that an item is an associated one of, of which that is handed in
abbrev pub trait_text : Option ItemText → Option TraitText
trait_text None = None
trait_text (Some t) = t.of

-- the name of a signed integer type
abbrev pub int_name : IntTy → List ℕ
int_name int.Isize = codes "isize"
int_name int.I8 = codes "i8"
int_name int.I16 = codes "i16"
int_name int.I32 = codes "i32"
int_name int.I64 = codes "i64"
int_name int.I128 = codes "i128"

-- the name of an unsigned integer type
abbrev pub uint_name : UintTy → List ℕ
uint_name uint.Usize = codes "usize"
uint_name uint.U8 = codes "u8"
uint_name uint.U16 = codes "u16"
uint_name uint.U32 = codes "u32"
uint_name uint.U64 = codes "u64"
uint_name uint.U128 = codes "u128"

-- the name of a float type
abbrev pub float_name : FloatTy → List ℕ
float_name float.F16 = codes "f16"
float_name float.F32 = codes "f32"
float_name float.F64 = codes "f64"
float_name float.F128 = codes "f128"

-- what stands before the type that a raw pointer leads to: the signs that reading takes, and a blank
abbrev pub pointer_name : Mutability → List ℕ
pointer_name m = spelling sign.Star ++ spelling (pointer_sign m) ++ codes " "

-- what stands between the region of a reference and the type that it leads to
abbrev pub mutability_text : Mutability → List ℕ
mutability_text mutability.Not = codes " "
mutability_text mutability.Mut = codes " " ++ spelling sign.Mut ++ codes " "

-- what stands before a function pointer that safe code must not call
abbrev pub safety_text : Safety → List ℕ
safety_text safety.Safe = codes ""
safety_text safety.Unsafe = codes "unsafe "

-- what stands before a function pointer that is called in another way than Rust's
abbrev pub abi_text : ExternAbi → List ℕ
abi_text abi.Rust = codes ""
abi_text abi.C = codes "extern \"C\" "
abi_text abi.System = codes "extern \"system\" "

-- what stands before a constant where any term may stand: `const` before one that would be read as a type
abbrev pub const_mark : {Key Id Name : Type 0} → ConstKind Key Id Name → List ℕ
const_mark (const_kind.Placeholder p) = spelling sign.Const ++ codes " "
const_mark (const_kind.Error e) = spelling sign.Const ++ codes " "
const_mark k = codes ""

-- how many bytes a number of a type takes, if numbers are read with the type's name behind them
abbrev pub own_size : {Key Id Name : Type 0} → TyKind Key Id Name → Option ℕ
own_size ty_kind.Bool = option_map (λ p. p.0) (number_size term.Bool)
own_size ty_kind.Char = option_map (λ p. p.0) (number_size term.Char)
own_size (ty_kind.Int w) = option_map (λ p. p.0) (number_size (term.Int w))
own_size (ty_kind.Uint w) = option_map (λ p. p.0) (number_size (term.Uint w))
own_size k = None
