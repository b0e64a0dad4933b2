use Rattle.std.proofs.Common.{refl}
use Rattle.relation_terms.specs.Heads.{adt, fn_def, closure, coroutine_closure, coroutine, coroutine_witness}
use Rattle.relation_folds.specs.Forms.{Adt, FnDef, Closure, CoroutineClosure, Coroutine, CoroutineWitness}
use Rattle.fast_reject.proofs.Pairing.{at_kinds, items}
use Rattle.fast_reject.proofs.Unlike.{unlike, without_parts, no_parts}
use Rattle.fast_reject.proofs.pairs.paired_items.Goals as goal

pub returns-in-Adt-right : goal.returns-in-Adt-right
returns-in-Adt-right g c =
    let m = g.I.Interner.meaning c.args.cx.now in
    at_kinds m c.args.left.now c.args.right.now _ _ _ c.in-Adt.is c.in-Adt-right.is c.requires.left_known
    c.requires.right_known (λ a b. items m (λ n. adt n) Adt (λ n ts. refl) _ _ _ _ a b c.items.result c.items.ensures)

pub returns-in_default-right : goal.returns-in_default-right
returns-in_default-right g c =
    let m = g.I.Interner.meaning c.args.cx.now in
    unlike m c.args.left.now c.args.right.now c.requires.differ _ c.in-Adt.is (λ h. c.in_default-right.not-Adt h.0 h.1.0 h.1.1)

pub returns-in-FnDef-right : goal.returns-in-FnDef-right
returns-in-FnDef-right g c =
    let m = g.I.Interner.meaning c.args.cx.now in
    at_kinds m c.args.left.now c.args.right.now _ _ _ c.in-FnDef.is c.in-FnDef-right.is c.requires.left_known
    c.requires.right_known (λ a b. items m (λ n. fn_def n) FnDef (λ n ts. refl) _ _ _ _ a b c.items-in-FnDef-right.result c.items-in-FnDef-right.ensures)

pub returns-in_default-right-2 : goal.returns-in_default-right-2
returns-in_default-right-2 g c =
    let m = g.I.Interner.meaning c.args.cx.now in
    unlike m c.args.left.now c.args.right.now c.requires.differ _ c.in-FnDef.is (λ h. c.in_default-right-2.not-FnDef h.0 h.1.0 h.1.1)

pub returns-in-Closure-right : goal.returns-in-Closure-right
returns-in-Closure-right g c =
    let m = g.I.Interner.meaning c.args.cx.now in
    at_kinds m c.args.left.now c.args.right.now _ _ _ c.in-Closure.is c.in-Closure-right.is c.requires.left_known
    c.requires.right_known (λ a b. items m (λ n. closure n) Closure (λ n ts. refl) _ _ _ _ a b c.items-in-Closure-right.result c.items-in-Closure-right.ensures)

pub returns-in_default-right-3 : goal.returns-in_default-right-3
returns-in_default-right-3 g c =
    let m = g.I.Interner.meaning c.args.cx.now in
    unlike m c.args.left.now c.args.right.now c.requires.differ _ c.in-Closure.is (λ h. c.in_default-right-3.not-Closure h.0 h.1.0 h.1.1)

pub returns-in-CoroutineClosure-right : goal.returns-in-CoroutineClosure-right
returns-in-CoroutineClosure-right g c =
    let m = g.I.Interner.meaning c.args.cx.now in
    at_kinds m c.args.left.now c.args.right.now _ _ _ c.in-CoroutineClosure.is c.in-CoroutineClosure-right.is c.requires.left_known
    c.requires.right_known (λ a b. items m (λ n. coroutine_closure n) CoroutineClosure (λ n ts. refl) _ _ _ _ a b c.items-in-CoroutineClosure-right.result c.items-in-CoroutineClosure-right.ensures)

pub returns-in_default-right-4 : goal.returns-in_default-right-4
returns-in_default-right-4 g c =
    let m = g.I.Interner.meaning c.args.cx.now in
    unlike m c.args.left.now c.args.right.now c.requires.differ _ c.in-CoroutineClosure.is (λ h. c.in_default-right-4.not-CoroutineClosure h.0 h.1.0 h.1.1)

pub returns-in-Coroutine-right : goal.returns-in-Coroutine-right
returns-in-Coroutine-right g c =
    let m = g.I.Interner.meaning c.args.cx.now in
    at_kinds m c.args.left.now c.args.right.now _ _ _ c.in-Coroutine.is c.in-Coroutine-right.is c.requires.left_known
    c.requires.right_known (λ a b. items m (λ n. coroutine n) Coroutine (λ n ts. refl) _ _ _ _ a b c.items-in-Coroutine-right.result c.items-in-Coroutine-right.ensures)

pub returns-in_default-right-5 : goal.returns-in_default-right-5
returns-in_default-right-5 g c =
    let m = g.I.Interner.meaning c.args.cx.now in
    unlike m c.args.left.now c.args.right.now c.requires.differ _ c.in-Coroutine.is (λ h. c.in_default-right-5.not-Coroutine h.0 h.1.0 h.1.1)

pub returns-in-CoroutineWitness-right : goal.returns-in-CoroutineWitness-right
returns-in-CoroutineWitness-right g c =
    let m = g.I.Interner.meaning c.args.cx.now in
    at_kinds m c.args.left.now c.args.right.now _ _ _ c.in-CoroutineWitness.is c.in-CoroutineWitness-right.is c.requires.left_known
    c.requires.right_known (λ a b. items m (λ n. coroutine_witness n) CoroutineWitness (λ n ts. refl) _ _ _ _ a b c.items-in-CoroutineWitness-right.result c.items-in-CoroutineWitness-right.ensures)

pub returns-in_default-right-6 : goal.returns-in_default-right-6
returns-in_default-right-6 g c =
    let m = g.I.Interner.meaning c.args.cx.now in
    unlike m c.args.left.now c.args.right.now c.requires.differ _ c.in-CoroutineWitness.is (λ h. c.in_default-right-6.not-CoroutineWitness h.0 h.1.0 h.1.1)

pub returns-in_default : goal.returns-in_default
returns-in_default g c =
    let m = g.I.Interner.meaning c.args.cx.now in
    without_parts m c.args.left.now c.args.right.now c.requires.differ
    (no_parts m c.args.left.now c.requires.of_item (record {
      no_adt = c.in_default.not-Adt;
      no_fn_def = c.in_default.not-FnDef;
      no_closure = c.in_default.not-Closure;
      no_coroutine_closure = c.in_default.not-CoroutineClosure;
      no_coroutine = c.in_default.not-Coroutine;
      no_coroutine_witness = c.in_default.not-CoroutineWitness;
    }))
