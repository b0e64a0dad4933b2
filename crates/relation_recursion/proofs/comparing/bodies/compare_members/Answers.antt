use Rattle.std.proofs.Common.{◌<◌, ◌∙◌, refl, sym, ap, ap₂, subst, subst₂, IsTrue}
use Rattle.relation_terms.specs.Trees.{known, count, nth}
use Rattle.relation_terms.specs.Parts.{part_tree}
use Rattle.relation_folds.specs.declared.error.TypeError.TheVariants.{ExistentialMismatch}
use Rattle.relation_semantics.specs.Errors.{object_error, AreAlikeMembers}
use Rattle.relation_semantics.specs.Parts.{direct_parts}
use Rattle.relation_recursion.proofs.ComparingParts.{no_object, members_at, members_differ, member_below, member_within}
use Rattle.relation_recursion.proofs.comparing.bodies.compare_members.Goals as goal

pub returns-in_default : goal.returns-in_default
returns-in_default g c = record {
  alike = λ e. absurd (no_object c.args.a.now c.in_default.not-Object e);
  errors = tt;
}

pub returns-in_default-b : goal.returns-in_default-b
returns-in_default-b g c = record {
  alike = λ e. absurd (no_object c.args.b.now c.in_default-b.not-Object (c.requires.one_sort ∙ e));
  errors = tt;
}

pub bounds-existential_predicates-i : goal.bounds-existential_predicates-i
bounds-existential_predicates-i g c =
    member_below (g.I.Interner.meaning c.args.cx.now) c.args.a.now c.in-Object.left c.existential_predicates.result.now
    c.args.i c.in-Object.is c.existential_predicates.ensures c.requires.in_a

pub offset_bounds-existential_predicates-i : goal.offset_bounds-existential_predicates-i
offset_bounds-existential_predicates-i g c =
    let m = g.I.Interner.meaning c.args.cx.now in
    let xs = c.existential_predicates.result.now in
    member_within m c.args.i xs (member_below m c.args.a.now c.in-Object.left xs c.args.i c.in-Object.is
    c.existential_predicates.ensures c.requires.in_a)

pub bounds-existential_predicates-i-2 : goal.bounds-existential_predicates-i-2
bounds-existential_predicates-i-2 g c =
    member_below (g.I.Interner.meaning c.args.cx.now) c.args.b.now c.in-Object-b.right
    c.existential_predicates-2.result.now c.args.i c.in-Object-b.is c.existential_predicates-2.ensures c.requires.in_b

pub offset_bounds-existential_predicates-i-2 : goal.offset_bounds-existential_predicates-i-2
offset_bounds-existential_predicates-i-2 g c =
    let m = g.I.Interner.meaning c.args.cx.now in
    let ys = c.existential_predicates-2.result.now in
    member_within m c.args.i ys (member_below m c.args.b.now c.in-Object-b.right ys c.args.i c.in-Object-b.is
    c.existential_predicates-2.ensures c.requires.in_b)

pub returns-then-not-are_alike_existentials-clause-errors : goal.returns-then-not-are_alike_existentials-clause-errors
returns-then-not-are_alike_existentials-clause-errors g c =
    let m = g.I.Interner.meaning c.args.cx.now in
    let i = c.args.i in
    let k = c.in-Object.left in
    let l = c.in-Object-b.right in
    let xs = c.existential_predicates.result.now in
    let ys = c.existential_predicates-2.result.now in
    let both = members_at m xs ys (m.existential_predicates k) (m.existential_predicates l) i
    c.index-existential_predicates-i.result c.index-existential_predicates-i-2.result c.existential_predicates.ensures
    c.existential_predicates-2.ensures
    (member_below m c.args.a.now k xs i c.in-Object.is c.existential_predicates.ensures c.requires.in_a)
    (member_below m c.args.b.now l ys i c.in-Object-b.is c.existential_predicates-2.ensures c.requires.in_b)
    c.index-existential_predicates-i.is c.index-existential_predicates-i-2.is
    (subst (λ p. IsTrue (known (part_tree m p))) c.in-Object.is c.requires.a_known)
    (subst (λ p. IsTrue (known (part_tree m p))) c.in-Object-b.is c.requires.b_known) in
    object_error k l (ap (part_tree m) (sym c.in-Object.is)) (ap (part_tree m) (sym c.in-Object-b.is))
    (members_differ m k l (ExistentialMismatch c.new.result) i
    (subst (λ p. i < count (direct_parts (part_tree m p))) c.in-Object.is c.requires.in_a)
    (subst (λ p. i < count (direct_parts (part_tree m p))) c.in-Object-b.is c.requires.in_b)
    (λ h. c.if-not-are_alike_existentials.ensures.unlike refl (both.1 h))
    (ap₂ (λ x y. ExistentialMismatch (record { expected = x; found = y })) c.new.ensures.expected_kept
    c.new.ensures.found_kept))

pub returns-clause-alike : goal.returns-clause-alike
returns-clause-alike g c = λ e. (
    let m = g.I.Interner.meaning c.args.cx.now in
    let i = c.args.i in
    let k = c.in-Object.left in
    let l = c.in-Object-b.right in
    let xs = c.existential_predicates.result.now in
    let ys = c.existential_predicates-2.result.now in
    let both = members_at m xs ys (m.existential_predicates k) (m.existential_predicates l) i
    c.index-existential_predicates-i.result c.index-existential_predicates-i-2.result c.existential_predicates.ensures
    c.existential_predicates-2.ensures
    (member_below m c.args.a.now k xs i c.in-Object.is c.existential_predicates.ensures c.requires.in_a)
    (member_below m c.args.b.now l ys i c.in-Object-b.is c.existential_predicates-2.ensures c.requires.in_b)
    c.index-existential_predicates-i.is c.index-existential_predicates-i-2.is
    (subst (λ p. IsTrue (known (part_tree m p))) c.in-Object.is c.requires.a_known)
    (subst (λ p. IsTrue (known (part_tree m p))) c.in-Object-b.is c.requires.b_known) in
    subst₂ (λ p q. AreAlikeMembers (nth i (direct_parts (part_tree m p))) (nth i (direct_parts (part_tree m q))))
    (sym c.in-Object.is) (sym c.in-Object-b.is) (both.0 (c.if-not-are_alike_existentials.ensures.alike refl)))
