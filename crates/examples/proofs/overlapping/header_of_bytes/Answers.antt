use Rattle.std.proofs.Common.{◌∙◌}
use Rattle.term_enums.specs.declared.UintTy.TheVariants.{U8}
use Rattle.examples.proofs.Headers.{plain_number}
use Rattle.examples.proofs.overlapping.header_of_bytes.Goals as goal

pub make_header-requires : goal.make_header-requires
make_header-requires g c =
    plain_number (g.I.Interner.meaning c.mk_ty-2.new.self) c.deref.result.now U8 _ _
    (c.deref.ensures.value ∙ c.new-bound.ensures.items) c.in_ok-slice.ensures.made c.in_ok-byte.ensures.made
