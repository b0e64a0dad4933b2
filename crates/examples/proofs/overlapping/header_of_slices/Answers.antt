use Rattle.std.proofs.Common.{◌∙◌, ap, ◌++◌, ◌∷◌, []}
use Rattle.relation_terms.specs.declared.terms.binder.BoundVariableKind.TheVariants.{Ty}
use Rattle.examples.proofs.Headers.{plain_bound}
use Rattle.examples.proofs.overlapping.header_of_slices.Goals as goal

pub make_header-requires : goal.make_header-requires
make_header-requires g c =
    plain_bound (g.I.Interner.meaning c.mk_ty-2.new.self) c.args.name c.deref.result.now _ _ _
    (c.deref.ensures.value ∙ c.in_ok-push.ensures.items ∙ ap (λ z. z ++ Ty c.args.name ∷ []) c.new-bound.ensures.items)
    c.in_ok-slice.ensures.made c.in_ok-param.ensures.made
