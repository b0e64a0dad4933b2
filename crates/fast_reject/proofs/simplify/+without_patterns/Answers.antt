use Rattle.std.proofs.Common.{rules, ◌≡◌, ◌<◌, ◌+◌, ◌&&◌, suc, true, IsTrue, sym, ap, ◌∙◌, subst, arith}
use Rattle.std.proofs.lemmas.Bool.{and_parts}
use Rattle.relation_terms.specs.Heads.{pattern_type}
use Rattle.relation_terms.specs.Trees.{node, nil, cons, known, size}
use Rattle.relation_terms.specs.Meaning.{kind_tree}
use Rattle.fast_reject.specs.HeadKeys.{plain_type}
use Rattle.fast_reject.proofs.Keying.{plain_itself}
use Rattle.fast_reject.proofs.simplify.+without_patterns.Goals as goal

pub without_patterns-requires : goal.without_patterns-requires
without_patterns-requires g t c κs within =
    let m = g.I.Interner.meaning c.args.cx.now in
    let a = m.ty c.args.ty in
    let b = m.ty c.in-Pat.base in
    let p = m.pat c.in-Pat.field-1 in
    let e : a ≡ node pattern_type (cons b (cons p nil)) = c.ty_kind-kind.ensures ∙ ap (kind_tree m) c.in-Pat.is in
    let d = c.decreases in
    let is : size a ≡ suc (suc (size b + suc (size p + 1))) = ap size e in
    let small : size b < size a = omega (arith, is) in
    let k : IsTrue (known b) = (and_parts (known b) (known p && true) (subst (λ x. IsTrue (known x)) e c.requires)).0 in
    search rules

pub returns-in-Pat-clause-under : goal.returns-in-Pat-clause-under
returns-in-Pat-clause-under g t c =
    let m = g.I.Interner.meaning c.args.cx.now in
    c.without_patterns.ensures.under
    ∙ sym (ap plain_type (c.ty_kind-kind.ensures ∙ ap (kind_tree m) c.in-Pat.is))

pub returns-clause-under : goal.returns-clause-under
returns-clause-under g t c =
    let m = g.I.Interner.meaning c.args.cx.now in
    let e = c.ty_kind-kind.ensures in
    e ∙ sym (plain_itself m c.ty_kind-kind.result c.in_default.not-Pat) ∙ ap plain_type (sym e)
