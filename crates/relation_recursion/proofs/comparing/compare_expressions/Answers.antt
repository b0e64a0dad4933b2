use Rattle.std.proofs.Common.{rules, sym, ap, ◌∙◌, ◌≢◌, ◌≡◌, inl, inr}
use Rattle.relation_terms.specs.Heads.{expression}
use Rattle.relation_terms.specs.Meaning.{const_tree, arg_tree}
use Rattle.relation_terms.specs.Trees.{node, count}
use Rattle.relation_terms.specs.declared.terms.const_kind.ConstKind.TheVariants.{Expr}
use Rattle.relation_terms.proofs.Members.{list_count}
use Rattle.relation_semantics.specs.Errors.{expressions, operations}
use Rattle.relation_recursion.proofs.Compared.{unlike_const, expr_const}
use Rattle.relation_recursion.proofs.comparing.compare_expressions.Goals as goal

pub returns-in_default : goal.returns-in_default
returns-in_default g c =
    let m = g.I.Interner.meaning c.args.cx.now in
    record {
      alike = tt;
      errors = unlike_const m (Expr c.args.kind c.args.args.now) c.args.right.now c.args.a.now c.args.b.now
          c.unlike_consts.result c.requires.a_form c.requires.b_form c.requires.no_error
          (expr_const m c.args.kind c.args.args.now c.args.right.now c.in_default.not-Expr) c.unlike_consts.ensures;
    }

pub returns-then-ne-clause-errors : goal.returns-then-ne-clause-errors
returns-then-ne-clause-errors g c =
    let m = g.I.Interner.meaning c.args.cx.now in
    let differ : c.args.kind ≢ c.in-Expr.other_kind = (λ e.
    (let t = c.if-ne.true in let h = c.ne.ensures in let k = c.if-ne.ensures in search rules)) in
    operations c.requires.a_form (c.requires.b_form ∙ ap (const_tree m) c.in-Expr.is)
    (inl (λ e. differ (ap (λ n. record { 0 = n }) e)))

pub returns-then-args-clause-errors : goal.returns-then-args-clause-errors
returns-then-args-clause-errors g c =
    let m = g.I.Interner.meaning c.args.cx.now in
    operations c.requires.a_form (c.requires.b_form ∙ ap (const_tree m) c.in-Expr.is)
    (inr (λ e. c.if-args.true (sym (ap count c.args-2.ensures ∙ list_count (arg_tree m) c.args-2.result.now) ∙ e
    ∙ (ap count c.args-3.ensures ∙ list_count (arg_tree m) c.args-3.result.now))))

pub returns-clause-alike : goal.returns-clause-alike
returns-clause-alike g c =
    let m = g.I.Interner.meaning c.args.cx.now in
    let one : c.args.kind ≡ c.in-Expr.other_kind =
    (let t = c.if-ne.false in let h = c.ne.ensures in let k = c.if-ne.ensures in search rules) in
    expressions c.requires.a_form ((c.requires.b_form ∙ ap (const_tree m) c.in-Expr.is)
    ∙ ap (λ k. node (expression k.0) (m.args c.in-Expr.other)) (sym one))
    ((ap count c.args-2.ensures ∙ list_count (arg_tree m) c.args-2.result.now) ∙ c.if-args.false
    ∙ sym (ap count c.args-3.ensures ∙ list_count (arg_tree m) c.args-3.result.now))
