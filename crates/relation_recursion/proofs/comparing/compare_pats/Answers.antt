use Rattle.std.proofs.Common.{◌∙◌, refl, sym, ap}
use Rattle.relation_terms.specs.Heads.{or_pattern}
use Rattle.relation_terms.specs.Trees.{count}
use Rattle.relation_terms.specs.Meaning.{pattern_tree}
use Rattle.relation_semantics.specs.Relation.{sort_of}
use Rattle.relation_semantics.specs.Errors.{over_parts, one_leaf, unlike_patterns}
use Rattle.relation_terms.proofs.Members.{list_count}
use Rattle.part_variances.proofs.Patterns.{unlike_many}
use Rattle.relation_recursion.proofs.comparing.compare_pats.Goals as goal

pub returns-then-alternatives-clause-errors : goal.returns-then-alternatives-clause-errors
returns-then-alternatives-clause-errors g c =
    let m = g.I.Interner.meaning c.args.cx.now in
    let left = c.pat_kind.ensures ∙ ap (pattern_tree m) c.in-Or.is in
    let right = c.pat_kind-right.ensures ∙ ap (pattern_tree m) c.in-Or-right.is in
    unlike_patterns (ap sort_of left) (ap sort_of right)
    (unlike_many (m.pat c.args.a.now) (m.pat c.args.b.now) (m.alternatives c.in-Or.alternatives)
    (m.alternatives c.in-Or-right.other) or_pattern left right
    (λ e. c.if-alternatives.true (sym (ap count c.alternatives.ensures ∙ list_count m.pat c.alternatives.result.now)
    ∙ e ∙ (ap count c.alternatives-in-Or.ensures ∙ list_count m.pat c.alternatives-in-Or.result.now)))) refl

pub returns-in-Range-right-clause-alike : goal.returns-in-Range-right-clause-alike
returns-in-Range-right-clause-alike g c =
    let m = g.I.Interner.meaning c.args.cx.now in
    over_parts (c.pat_kind.ensures ∙ ap (pattern_tree m) c.in-Range.is)
    (c.pat_kind-right.ensures ∙ ap (pattern_tree m) c.in-Range-right.is) refl

pub returns-else-alternatives-clause-alike : goal.returns-else-alternatives-clause-alike
returns-else-alternatives-clause-alike g c =
    let m = g.I.Interner.meaning c.args.cx.now in
    over_parts (c.pat_kind.ensures ∙ ap (pattern_tree m) c.in-Or.is)
    (c.pat_kind-right.ensures ∙ ap (pattern_tree m) c.in-Or-right.is)
    ((ap count c.alternatives.ensures ∙ list_count m.pat c.alternatives.result.now) ∙ c.if-alternatives.false
    ∙ sym (ap count c.alternatives-in-Or.ensures ∙ list_count m.pat c.alternatives-in-Or.result.now))

pub returns-in-NotNull-right-clause-alike : goal.returns-in-NotNull-right-clause-alike
returns-in-NotNull-right-clause-alike g c =
    let m = g.I.Interner.meaning c.args.cx.now in
    one_leaf (c.pat_kind.ensures ∙ ap (pattern_tree m) c.in-NotNull.is)
    (c.pat_kind-right.ensures ∙ ap (pattern_tree m) c.in-NotNull-right.is)
