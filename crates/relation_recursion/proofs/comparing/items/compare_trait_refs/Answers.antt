use Rattle.std.proofs.Common.{rules, ◌≡◌, refl, sym, ap, ap₂, ◌∙◌, subst}
use Rattle.relation_terms.specs.Heads.{trait_ref}
use Rattle.relation_terms.specs.Trees.{count}
use Rattle.relation_terms.specs.Meaning.{arg_tree}
use Rattle.relation_terms.specs.Predicates.{trait_ref_tree}
use Rattle.relation_folds.specs.declared.error.TypeError.TheVariants.{Traits}
use Rattle.relation_semantics.specs.Errors.{ItemError, unlike_trait_refs, unlike_lists}
use Rattle.relation_terms.proofs.Members.{list_count}
use Rattle.relation_recursion.proofs.comparing.items.compare_trait_refs.Goals as goal

pub returns-then-ne-clause-errors : goal.returns-then-ne-clause-errors
returns-then-ne-clause-errors g c =
    let m = g.I.Interner.meaning c.args.cx.now in
    let a = c.args.a.now in
    let b = c.args.b.now in
    let same = g.met.I.Interner.same_id c.args.cx.now (a.def_id).0 (b.def_id).0 in
    subst (λ z. ItemError m (trait_ref_tree m a) (trait_ref_tree m b) (Traits z))
    (sym (ap₂ (λ x y. record { expected = x; found = y }) c.new.ensures.expected_kept c.new.ensures.found_kept))
    (unlike_trait_refs a.def_id b.def_id refl refl
    (λ e. (let one = same.1 e in let t = c.if-ne.true in let h = c.ne.ensures in search rules)))

pub returns-then-args-clause-errors : goal.returns-then-args-clause-errors
returns-then-args-clause-errors g c =
    let m = g.I.Interner.meaning c.args.cx.now in
    let a = c.args.a.now in
    let b = c.args.b.now in
    let same = g.met.I.Interner.same_id c.args.cx.now (a.def_id).0 (b.def_id).0 in
    let one : m.id (a.def_id).0 ≡ m.id (b.def_id).0 =
    same.0 (let t = c.if-ne.false in let h = c.ne.ensures in search rules) in
    unlike_lists tt (ap trait_ref one) refl refl (λ e. c.if-args.true
    (sym (ap count c.args-2.ensures ∙ list_count (arg_tree m) c.args-2.result.now) ∙ e
    ∙ (ap count c.args-3.ensures ∙ list_count (arg_tree m) c.args-3.result.now)))

pub returns-clause-alike : goal.returns-clause-alike
returns-clause-alike g c =
    let m = g.I.Interner.meaning c.args.cx.now in
    let a = c.args.a.now in
    let b = c.args.b.now in
    let same = g.met.I.Interner.same_id c.args.cx.now (a.def_id).0 (b.def_id).0 in
    let one : m.id (a.def_id).0 ≡ m.id (b.def_id).0 =
    same.0 (let t = c.if-ne.false in let h = c.ne.ensures in search rules) in (
      ap trait_ref one,
      (ap count c.args-2.ensures ∙ list_count (arg_tree m) c.args-2.result.now) ∙ c.if-args.false
          ∙ sym (ap count c.args-3.ensures ∙ list_count (arg_tree m) c.args-3.result.now),
    )
