use Rattle.std.proofs.Common.{rules, ap₂}
use Rattle.relation_folds.specs.declared.error.TypeError.TheVariants.{VariadicMismatch, SafetyMismatch, AbiMismatch}
use Rattle.relation_recursion.proofs.ComparingParts.{bools_same, bools_differ}
use Rattle.relation_recursion.proofs.ComparingParts.{signatures_alike, variadic_differs, safety_differs, abi_differs}
use Rattle.relation_recursion.proofs.comparing.bodies.compare_signatures.Goals as goal

pub returns-then-left-right-clause-errors : goal.returns-then-left-right-clause-errors
returns-then-left-right-clause-errors g c =
    variadic_differs (g.I.Interner.meaning c.args._cx.now) c.args.a.now c.args.b.now (VariadicMismatch c.new-pair.result)
    (bools_differ ((c.args.a.now).header).c_variadic ((c.args.b.now).header).c_variadic c.if-left-right.true)
    (ap₂ (λ x y. VariadicMismatch (record { expected = x; found = y }))
    c.new-pair.ensures.expected_kept c.new-pair.ensures.found_kept)

pub returns-then-ne-clause-errors : goal.returns-then-ne-clause-errors
returns-then-ne-clause-errors g c =
    safety_differs (g.I.Interner.meaning c.args._cx.now) c.args.a.now c.args.b.now (SafetyMismatch c.new.result)
    (bools_same ((c.args.a.now).header).c_variadic ((c.args.b.now).header).c_variadic c.if-left-right.false)
    (λ e. (let t = c.if-ne.true in let h = c.ne.ensures in let k = c.if-ne.ensures in search rules))
    (ap₂ (λ x y. SafetyMismatch (record { expected = x; found = y })) c.new.ensures.expected_kept
    c.new.ensures.found_kept)

pub returns-then-ne-2-clause-errors : goal.returns-then-ne-2-clause-errors
returns-then-ne-2-clause-errors g c =
    abi_differs (g.I.Interner.meaning c.args._cx.now) c.args.a.now c.args.b.now (AbiMismatch c.new-then-ne-2.result)
    (bools_same ((c.args.a.now).header).c_variadic ((c.args.b.now).header).c_variadic c.if-left-right.false)
    (let t = c.if-ne.false in let h = c.ne.ensures in let k = c.if-ne.ensures in search rules)
    (λ e. (let t = c.if-ne-2.true in let h = c.ne-2.ensures in let k = c.if-ne-2.ensures in search rules))
    (ap₂ (λ x y. AbiMismatch (record { expected = x; found = y })) c.new-then-ne-2.ensures.expected_kept
    c.new-then-ne-2.ensures.found_kept)

pub returns-clause-alike : goal.returns-clause-alike
returns-clause-alike g c =
    signatures_alike (g.I.Interner.meaning c.args._cx.now) c.args.a.now c.args.b.now
    (bools_same ((c.args.a.now).header).c_variadic ((c.args.b.now).header).c_variadic c.if-left-right.false)
    (let t = c.if-ne.false in let h = c.ne.ensures in let k = c.if-ne.ensures in search rules)
    (let t = c.if-ne-2.false in let h = c.ne-2.ensures in let k = c.if-ne-2.ensures in search rules)
