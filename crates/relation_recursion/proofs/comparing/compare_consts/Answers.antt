use Rattle.std.proofs.Common.{rules, sym, ap, ◌∙◌, ◌≢◌, refl}
use Rattle.relation_terms.specs.Heads.{const_param, unevaluated}
use Rattle.relation_terms.specs.Meaning.{const_tree}
use Rattle.std.proofs.lemmas.Bool.{false≢true}
use Rattle.relation_terms.specs.Trees.{node}
use Rattle.relation_terms.specs.declared.terms.const_kind.ConstKind.TheVariants.{Param, Value, Unevaluated}
use Rattle.relation_semantics.specs.Errors.{values, over_arguments, const_parameters}
use Rattle.relation_recursion.proofs.Compared.{ruled_const, leaf_const, one_leaf_const, unlike_const, param_const, value_const, item_const}
use Rattle.relation_recursion.proofs.comparing.compare_consts.Goals as goal

pub returns-in_default : goal.returns-in_default
returns-in_default g c =
    let m = g.I.Interner.meaning c.args.cx.now in
    record { alike = tt; errors = unlike_const m (Param c.in-Param.parameter) c.const_kind-right.result c.args.a.now c.args.b.now c.unlike_consts.result (c.const_kind.ensures ∙ ap (const_tree m) c.in-Param.is) c.const_kind-right.ensures c.requires.no_error (param_const m c.in-Param.parameter c.const_kind-right.result (λ q e i. c.in_default.not-Param q e)) c.unlike_consts.ensures }

pub returns-in_default-right : goal.returns-in_default-right
returns-in_default-right g c =
    let m = g.I.Interner.meaning c.args.cx.now in
    record { alike = tt; errors = unlike_const m (Value c.in-Value.field-0 c.in-Value.value) c.const_kind-right.result c.args.a.now c.args.b.now c.unlike_consts-in_default-right.result (c.const_kind.ensures ∙ ap (const_tree m) c.in-Value.is) c.const_kind-right.ensures c.requires.no_error (value_const m c.in-Value.field-0 c.in-Value.value c.const_kind-right.result (λ u w e i. c.in_default-right.not-Value u w e)) c.unlike_consts-in_default-right.ensures }

pub returns-then-parameter-other-clause-errors : goal.returns-then-parameter-other-clause-errors
returns-then-parameter-other-clause-errors g c =
    let m = g.I.Interner.meaning c.args.cx.now in
    unlike_const m (Param c.in-Param.parameter) (Param c.in-Param-right.other) c.args.a.now c.args.b.now c.unlike_consts-then-parameter-other.result (c.const_kind.ensures ∙ ap (const_tree m) c.in-Param.is) (c.const_kind-right.ensures ∙ ap (const_tree m) c.in-Param-right.is) c.requires.no_error c.if-parameter-other.true c.unlike_consts-then-parameter-other.ensures

pub returns-else-parameter-other-clause-alike : goal.returns-else-parameter-other-clause-alike
returns-else-parameter-other-clause-alike g c =
    let m = g.I.Interner.meaning c.args.cx.now in
    const_parameters (c.const_kind.ensures ∙ ap (const_tree m) c.in-Param.is) (c.const_kind-right.ensures ∙ ap (const_tree m) c.in-Param-right.is) (ap (λ i. const_param i 0) c.if-parameter-other.false)

pub returns-then-ne-clause-errors : goal.returns-then-ne-clause-errors
returns-then-ne-clause-errors g c =
    let m = g.I.Interner.meaning c.args.cx.now in
    let same = g.met.I.Interner.same_const c.args.cx.now c.args.a.now c.args.b.now c.requires.a_known c.requires.b_known in
    let differ : m.const_ c.args.a.now ≢ m.const_ c.args.b.now = (λ e. (let d = same.1 e in let t = c.if-ne.true in let h = c.ne.ensures in let k = c.if-ne.ensures in search rules)) in
    unlike_const m c.const_kind.result c.const_kind-right.result c.args.a.now c.args.b.now c.unlike_consts-then-ne.result
    c.const_kind.ensures c.const_kind-right.ensures c.requires.no_error (leaf_const m c.const_kind.result
    c.const_kind-right.result c.in-Placeholder.is (λ e. differ (c.const_kind.ensures ∙ e ∙ sym c.const_kind-right.ensures)))
    c.unlike_consts-then-ne.ensures

pub returns-else-ne-clause-alike : goal.returns-else-ne-clause-alike
returns-else-ne-clause-alike g c =
    let m = g.I.Interner.meaning c.args.cx.now in
    let same = g.met.I.Interner.same_const c.args.cx.now c.args.a.now c.args.b.now c.requires.a_known c.requires.b_known in
    one_leaf_const m c.const_kind.result (m.const_ c.args.a.now) (m.const_ c.args.b.now) c.in-Placeholder.is
    c.const_kind.ensures (same.0 (let t = c.if-ne.false in let h = c.ne.ensures in let k = c.if-ne.ensures in search rules))

pub returns-then-not-is_one_value-clause-errors : goal.returns-then-not-is_one_value-clause-errors
returns-then-not-is_one_value-clause-errors g c =
    let m = g.I.Interner.meaning c.args.cx.now in
    unlike_const m (Value c.in-Value.field-0 c.in-Value.value) (Value c.in-Value-right.field-0 c.in-Value-right.other) c.args.a.now c.args.b.now c.unlike_consts-then-not-is_one_value.result (c.const_kind.ensures ∙ ap (const_tree m) c.in-Value.is) (c.const_kind-right.ensures ∙ ap (const_tree m) c.in-Value-right.is) c.requires.no_error (c.if-not-is_one_value.ensures.unlike refl) c.unlike_consts-then-not-is_one_value.ensures

pub returns-else-not-is_one_value-clause-alike : goal.returns-else-not-is_one_value-clause-alike
returns-else-not-is_one_value-clause-alike g c =
    let m = g.I.Interner.meaning c.args.cx.now in
    values (c.const_kind.ensures ∙ ap (const_tree m) c.in-Value.is) (c.const_kind-right.ensures ∙ ap (const_tree m) c.in-Value-right.is) (c.if-not-is_one_value.ensures.one refl)

pub returns-in_default-right-2 : goal.returns-in_default-right-2
returns-in_default-right-2 g c =
    let m = g.I.Interner.meaning c.args.cx.now in
    record {
      alike = tt;
      errors = unlike_const m (Unevaluated c.in-Unevaluated.unevaluated) c.const_kind-right.result c.args.a.now c.args.b.now
          c.unlike_consts-in_default-right-2.result (c.const_kind.ensures ∙ ap (const_tree m) c.in-Unevaluated.is)
          c.const_kind-right.ensures c.requires.no_error (item_const m c.in-Unevaluated.unevaluated c.const_kind-right.result
          (λ u e o. c.in_default-right-2.not-Unevaluated u e)) c.unlike_consts-in_default-right-2.ensures;
    }

pub returns-then-not-is_one_item-clause-errors : goal.returns-then-not-is_one_item-clause-errors
returns-then-not-is_one_item-clause-errors g c =
    let m = g.I.Interner.meaning c.args.cx.now in
    unlike_const m (Unevaluated c.in-Unevaluated.unevaluated) (Unevaluated c.in-Unevaluated-right.other) c.args.a.now
    c.args.b.now c.unlike_consts-then-not-is_one_item.result (c.const_kind.ensures ∙ ap (const_tree m) c.in-Unevaluated.is)
    (c.const_kind-right.ensures ∙ ap (const_tree m) c.in-Unevaluated-right.is) c.requires.no_error
    (λ o. false≢true (c.if-not-is_one_item.ensures.1 o)) c.unlike_consts-then-not-is_one_item.ensures

pub returns-else-not-is_one_item-clause-alike : goal.returns-else-not-is_one_item-clause-alike
returns-else-not-is_one_item-clause-alike g c =
    let m = g.I.Interner.meaning c.args.cx.now in
    let one = c.if-not-is_one_item.ensures.0 refl in
    over_arguments (c.const_kind.ensures ∙ ap (const_tree m) c.in-Unevaluated.is)
    ((c.const_kind-right.ensures ∙ ap (const_tree m) c.in-Unevaluated-right.is)
    ∙ ap (λ i. node (unevaluated i) (m.args (c.in-Unevaluated-right.other).args)) (sym one.0)) one.1

pub returns-in-Bound-clause-errors : goal.returns-in-Bound-clause-errors
returns-in-Bound-clause-errors g c =
    let m = g.I.Interner.meaning c.args.cx.now in
    absurd (ruled_const m c.const_kind.result (m.const_ c.args.a.now) c.const_kind.ensures c.requires.a_formed
    c.requires.no_error.0 c.in-Bound.is)
