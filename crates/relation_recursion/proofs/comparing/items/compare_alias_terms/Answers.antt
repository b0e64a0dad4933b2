use Rattle.std.proofs.Common.{rules, ◌≡◌, refl, sym, ap, ap₂, ◌∙◌, subst}
use Rattle.relation_terms.specs.Heads.{alias_term}
use Rattle.relation_terms.specs.Trees.{count}
use Rattle.relation_terms.specs.Meaning.{arg_tree}
use Rattle.relation_terms.specs.Predicates.{alias_term_kind, alias_term_id, alias_term_tree}
use Rattle.relation_folds.specs.declared.error.TypeError.TheVariants.{ProjectionMismatched}
use Rattle.relation_semantics.specs.Errors.{ItemError, unlike_alias_terms, unlike_lists}
use Rattle.relation_semantics.specs.Relation.{plain_kind}
use Rattle.relation_terms.proofs.Members.{list_count}
use Rattle.relation_recursion.proofs.Items.{plain_kinds, opaque_kinds}
use Rattle.relation_recursion.proofs.comparing.items.compare_alias_terms.Goals as goal

pub returns-then-ne-clause-errors : goal.returns-then-ne-clause-errors
returns-then-ne-clause-errors g c =
    let m = g.I.Interner.meaning c.args.cx.now in
    let a = c.args.a.now in
    let b = c.args.b.now in
    let left = c.def_id-left in
    let right = c.def_id-right in
    let same = g.met.I.Interner.same_id c.args.cx.now (left.result).0 (right.result).0 in
    subst (λ z. ItemError m (alias_term_tree m a) (alias_term_tree m b) (ProjectionMismatched z))
    (sym (ap₂ (λ x y. record { expected = x; found = y }) (c.new.ensures.expected_kept ∙ left.ensures)
    (c.new.ensures.found_kept ∙ right.ensures)))
    (unlike_alias_terms (alias_term_id a.kind) (alias_term_id b.kind) refl refl
    (λ e. (let ids : m.id (alias_term_id a.kind) ≡ m.id (alias_term_id b.kind) = cc in
    let one = same.1 (ap m.id left.ensures ∙ ids ∙ sym (ap m.id right.ensures)) in let t = c.if-ne.true in
    let h = c.ne.ensures in search rules)))

pub returns-then-is_opaque-clause-errors : goal.returns-then-is_opaque-clause-errors
returns-then-is_opaque-clause-errors g c =
    let m = g.I.Interner.meaning c.args.cx.now in
    let a = c.args.a.now in
    let b = c.args.b.now in
    let k = alias_term_kind a.kind in
    let l = alias_term_kind b.kind in
    subst (λ z. ItemError m (alias_term_tree m a) (alias_term_tree m b) (ProjectionMismatched z))
    (sym (ap₂ (λ x y. record { expected = x; found = y }) (c.new-then-is_opaque.ensures.expected_kept ∙ c.def_id-left.ensures)
    (c.new-then-is_opaque.ensures.found_kept ∙ c.def_id-right.ensures)))
    (unlike_alias_terms (alias_term_id a.kind) (alias_term_id b.kind) refl refl
    (λ e. (let kinds : plain_kind k ≡ plain_kind l = cc in
    let one = c.is_opaque.ensures ∙ opaque_kinds k l kinds ∙ sym c.is_opaque-2.ensures in
    let t = c.if-is_opaque.true in search rules)))

pub returns-then-args-clause-errors : goal.returns-then-args-clause-errors
returns-then-args-clause-errors g c =
    let m = g.I.Interner.meaning c.args.cx.now in
    let a = c.args.a.now in
    let b = c.args.b.now in
    let left = c.def_id-left in
    let right = c.def_id-right in
    let same = g.met.I.Interner.same_id c.args.cx.now (left.result).0 (right.result).0 in
    let items : m.id (left.result).0 ≡ m.id (right.result).0 =
    same.0 (let t = c.if-ne.false in let h = c.ne.ensures in search rules) in
    let one : c.is_opaque.result ≡ c.is_opaque-2.result = (let t = c.if-is_opaque.false in search rules) in
    let kinds = plain_kinds (alias_term_kind a.kind) (alias_term_kind b.kind)
    (sym c.is_opaque.ensures ∙ one ∙ c.is_opaque-2.ensures) in
    unlike_lists tt (ap₂ (λ x y. alias_term x y) kinds (sym (ap m.id left.ensures) ∙ items ∙ ap m.id right.ensures))
    refl refl (λ e. c.if-args.true (sym (ap count c.args-2.ensures ∙ list_count (arg_tree m) c.args-2.result.now) ∙ e
    ∙ (ap count c.args-3.ensures ∙ list_count (arg_tree m) c.args-3.result.now)))

pub returns-clause-alike : goal.returns-clause-alike
returns-clause-alike g c =
    let m = g.I.Interner.meaning c.args.cx.now in
    let a = c.args.a.now in
    let b = c.args.b.now in
    let left = c.def_id-left in
    let right = c.def_id-right in
    let same = g.met.I.Interner.same_id c.args.cx.now (left.result).0 (right.result).0 in
    let items : m.id (left.result).0 ≡ m.id (right.result).0 =
    same.0 (let t = c.if-ne.false in let h = c.ne.ensures in search rules) in
    let one : c.is_opaque.result ≡ c.is_opaque-2.result = (let t = c.if-is_opaque.false in search rules) in
    let kinds = plain_kinds (alias_term_kind a.kind) (alias_term_kind b.kind)
    (sym c.is_opaque.ensures ∙ one ∙ c.is_opaque-2.ensures) in (
      ap₂ (λ x y. alias_term x y) kinds (sym (ap m.id left.ensures) ∙ items ∙ ap m.id right.ensures),
      (ap count c.args-2.ensures ∙ list_count (arg_tree m) c.args-2.result.now) ∙ c.if-args.false
          ∙ sym (ap count c.args-3.ensures ∙ list_count (arg_tree m) c.args-3.result.now),
    )
