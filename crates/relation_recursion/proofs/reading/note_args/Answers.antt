use Rattle.std.proofs.Common.{◌≡◌, subst}
use Rattle.relation_terms.specs.Meaning.{kind_tree}
use Rattle.relation_recursion.proofs.OverItems.{adt_beside_other, fn_beside_other, over_none}
use Rattle.relation_semantics.proofs.Retelling.{noted_nothing}
use Rattle.relation_recursion.proofs.reading.note_args.Goals as goal

pub returns-in_default-ty_kind-clause-noted : goal.returns-in_default-ty_kind-clause-noted
returns-in_default-ty_kind-clause-noted g c = noted_nothing tt (g.R.HasState.state c.args.r.now) _ _

pub returns-in_default-ty_kind-2-clause-noted : goal.returns-in_default-ty_kind-2-clause-noted
returns-in_default-ty_kind-2-clause-noted g c = noted_nothing tt (g.R.HasState.state c.args.r.now) _ _

pub returns-in_default-clause-noted : goal.returns-in_default-clause-noted
returns-in_default-clause-noted g c = noted_nothing tt (g.R.HasState.state c.args.r.now) _ _

-- Two types are not over one item, of which one is over none.
pub returns-in_default-ty_kind-clause-asks : goal.returns-in_default-ty_kind-clause-asks
returns-in_default-ty_kind-clause-asks g c = λ promised directed d ts us over opens.
    let m = (g.R.HasState.state c.args.r.now).meaning in
    let left = subst (λ m. m.ty c.args.a.now ≡ kind_tree m c.ty_kind-left.result) c.cx.ensures c.ty_kind-left.ensures in
    let right = subst (λ m. m.ty c.args.b.now ≡ kind_tree m c.ty_kind.result) c.cx-in-Adt.ensures c.ty_kind.ensures in
    absurd (adt_beside_other m c.ty_kind-left.result c.ty_kind.result left right c.in-Adt.def c.in-Adt.a_args c.in-Adt.is
    c.in_default-ty_kind.not-Adt over)

pub returns-in_default-ty_kind-2-clause-asks : goal.returns-in_default-ty_kind-2-clause-asks
returns-in_default-ty_kind-2-clause-asks g c = λ promised directed d ts us over opens.
    let m = (g.R.HasState.state c.args.r.now).meaning in
    let other = c.ty_kind-in-FnDef in
    let left = subst (λ m. m.ty c.args.a.now ≡ kind_tree m c.ty_kind-left.result) c.cx.ensures c.ty_kind-left.ensures in
    let right = subst (λ m. m.ty c.args.b.now ≡ kind_tree m other.result) c.cx-in-FnDef.ensures other.ensures in
    absurd (fn_beside_other m c.ty_kind-left.result other.result left right c.in-FnDef.def c.in-FnDef.a_args c.in-FnDef.is
    c.in_default-ty_kind-2.not-FnDef over)

pub returns-in_default-clause-asks : goal.returns-in_default-clause-asks
returns-in_default-clause-asks g c = λ promised directed d ts us over opens.
    let m = (g.R.HasState.state c.args.r.now).meaning in
    let is = subst (λ m. m.ty c.args.a.now ≡ kind_tree m c.ty_kind-left.result) c.cx.ensures c.ty_kind-left.ensures in
    absurd (over_none m c.ty_kind-left.result is c.in_default.not-Adt c.in_default.not-FnDef over)
