use Rattle.std.proofs.Common.{◌≡◌, ◌∙◌, ap, sym, subst, IfOk}
use Rattle.std.specs.Option.{option_map}
use Rattle.relation_terms.specs.Meaning.{arg_tree}
use Rattle.relation_terms.proofs.Stays.{stays_same}
use Rattle.outlives_assumptions.specs.Assuming.{argument_of, IsKnownComponent}
use Rattle.outlives_assumptions.proofs.Assumptions.{region_sure}
use Rattle.outlives_assumptions.proofs.assuming.assumed_argument.Goals as goal

pub unbound_region-requires : goal.unbound_region-requires
unbound_region-requires g c =
    subst (IsKnownComponent (g.I.Interner.meaning c.args.cx.now)) c.in-Region.is c.requires

pub returns-in-Region-clause-grown : goal.returns-in-Region-clause-grown
returns-in-Region-clause-grown g c = stays_same (g.I.Interner.meaning c.args.cx.now)

pub returns-in-Region-clause-sure : goal.returns-in-Region-clause-sure
returns-in-Region-clause-sure g c =
    let m = g.I.Interner.meaning c.args.cx.now in
    region_sure m c.in-Region.region c.unbound_region.result c.unbound_region.ensures
    (subst (IsKnownComponent m) c.in-Region.is c.requires)

pub returns-in-Region-clause-is : goal.returns-in-Region-clause-is
returns-in-Region-clause-is g c =
    c.unbound_region.ensures ∙ ap (argument_of (g.I.Interner.meaning c.args.cx.now)) (sym c.in-Region.is)

pub returns-in-Param-clause-is : goal.returns-in-Param-clause-is
returns-in-Param-clause-is g c =
    let m = g.I.Interner.meaning c.args.cx.now in
    let n = g.I.Interner.meaning c.ty_arg.new.cx in
    subst (λ z. IfOk c.ty_arg.result (λ o. option_map (arg_tree n) o ≡ z))
    (ap (argument_of m) (sym c.in-Param.is)) c.ty_arg.ensures.is

pub returns-in-Placeholder-clause-is : goal.returns-in-Placeholder-clause-is
returns-in-Placeholder-clause-is g c =
    let m = g.I.Interner.meaning c.args.cx.now in
    let n = g.I.Interner.meaning c.ty_arg-in-Placeholder.new.cx in
    subst (λ z. IfOk c.ty_arg-in-Placeholder.result (λ o. option_map (arg_tree n) o ≡ z))
    (ap (argument_of m) (sym c.in-Placeholder.is)) c.ty_arg-in-Placeholder.ensures.is

pub returns-in-Alias-clause-is : goal.returns-in-Alias-clause-is
returns-in-Alias-clause-is g c =
    let m = g.I.Interner.meaning c.args.cx.now in
    let n = g.I.Interner.meaning c.ty_arg-in-Alias.new.cx in
    subst (λ z. IfOk c.ty_arg-in-Alias.result (λ o. option_map (arg_tree n) o ≡ z))
    (ap (argument_of m) (sym c.in-Alias.is)) c.ty_arg-in-Alias.ensures.is

pub returns-in-UnresolvedInferenceVariable-clause-grown : goal.returns-in-UnresolvedInferenceVariable-clause-grown
returns-in-UnresolvedInferenceVariable-clause-grown g c = stays_same (g.I.Interner.meaning c.args.cx.now)

pub returns-in-UnresolvedInferenceVariable-clause-is : goal.returns-in-UnresolvedInferenceVariable-clause-is
returns-in-UnresolvedInferenceVariable-clause-is g c = ap (argument_of (g.I.Interner.meaning c.args.cx.now)) (sym c.in-UnresolvedInferenceVariable.is)

pub returns-in-EscapingAlias-clause-grown : goal.returns-in-EscapingAlias-clause-grown
returns-in-EscapingAlias-clause-grown g c = stays_same (g.I.Interner.meaning c.args.cx.now)

pub returns-in-EscapingAlias-clause-is : goal.returns-in-EscapingAlias-clause-is
returns-in-EscapingAlias-clause-is g c = ap (argument_of (g.I.Interner.meaning c.args.cx.now)) (sym c.in-EscapingAlias.is)
