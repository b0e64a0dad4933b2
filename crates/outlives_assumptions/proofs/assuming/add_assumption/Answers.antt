use Rattle.std.proofs.Common.{◌≡◌, ◌∷◌, ◌++◌, [], sym, subst, IsTrue, List}
use Rattle.std.specs.List.{All, filter_map}
use Rattle.relation_terms.specs.Trees.{Tree, known}
use Rattle.relation_terms.specs.Meaning.{arg_tree}
use Rattle.relation_terms.specs.Interning.{Sorted}
use Rattle.relation_terms.proofs.Stays.{stays_same}
use Rattle.outlives_assumptions.specs.Assumptions.{elaborated, HaveSame}
use Rattle.outlives_assumptions.specs.Assuming.{pair_of, IsKnownComponent}
use Rattle.outlives.proofs.Meeting.{ok_map}
use Rattle.outlives_assumptions.proofs.Assumptions.{gains_after, gains_as, same_as, ty_gives, ty_known, other_sort}
use Rattle.outlives_assumptions.proofs.Assumptions.{other_elaborated}
use Rattle.outlives_assumptions.proofs.assuming.add_assumption.Goals as goal

pub assume-requires-clause-known : goal.assume-requires-clause-known
assume-requires-clause-known g c = c.requires.known

pub assume-requires-clause-sure : goal.assume-requires-clause-sure
assume-requires-clause-sure g c = c.requires.sure

pub returns-in_err-assume-clause-grown : goal.returns-in_err-assume-clause-grown
returns-in_err-assume-clause-grown g c = stays_same (g.I.Interner.meaning c.args.cx.now)

pub components_of-requires : goal.components_of-requires
components_of-requires g c =
    let m = g.I.Interner.meaning c.args.cx.now in
    subst (λ z. IsTrue (known (arg_tree m z))) c.in-Ty.is c.requires.known.0

pub returns-in_err-components-in-Ty-clause-grown : goal.returns-in_err-components-in-Ty-clause-grown
returns-in_err-components-in-Ty-clause-grown g c = stays_same (g.I.Interner.meaning c.args.cx.now)

pub add_components-requires-clause-components : goal.add_components-requires-clause-components
add_components-requires-clause-components g c =
    let m = g.I.Interner.meaning c.args.cx.now in
    let a = c.args.assumption.now in
    subst (All (IsKnownComponent m)) (sym c.deref.ensures.value)
    (ty_known m a.0 c.in-Ty.ty c.in_ok-components-in-Ty.components.items c.in-Ty.is c.requires.known.0
    c.in_ok-components-in-Ty.ensures.some)

pub add_components-requires-clause-region : goal.add_components-requires-clause-region
add_components-requires-clause-region g c = c.requires.known.1

pub add_components-requires-clause-sure : goal.add_components-requires-clause-sure
add_components-requires-clause-sure g c = c.in_ok-assume.ensures.0

pub returns-in_ok-components-in-Ty-clause-grown : goal.returns-in_ok-components-in-Ty-clause-grown
returns-in_ok-components-in-Ty-clause-grown g c = c.add_components.ensures.grown

pub returns-in_ok-components-in-Ty-clause-gains : goal.returns-in_ok-components-in-Ty-clause-gains
returns-in_ok-components-in-Ty-clause-gains g c =
    let b = c.args.cx.now in
    let m = g.I.Interner.meaning b in
    let n = g.I.Interner.meaning c.add_components.new.cx in
    let laws = g.met.I.Interner in
    let sorted : Sorted m = laws.sorted b in
    let a = c.args.assumption.now in
    let t = arg_tree m a.0 in
    let r = m.region a.1 in
    let list = c.in_ok-components-in-Ty.components.items in
    let xs = c.args.collected.now.keys in
    let ys = c.assume.new.collected.keys in
    let zs = c.add_components.new.collected.keys in
    let one : List (Tree × Tree) = (t, r) ∷ [] in
    let more = filter_map (pair_of m r) c.deref.result.now in
    let gives = subst (λ z. HaveSame (one ++ filter_map (pair_of m r) z) (elaborated t r)) (sym c.deref.ensures.value)
    (ty_gives m a.0 c.in-Ty.ty r list sorted c.in-Ty.is c.requires.known.0 c.in_ok-components-in-Ty.ensures.some
    c.in_ok-components-in-Ty.ensures.all) in
    ok_map c.add_components.result
    (λ h. gains_as m n xs zs (one ++ more) (elaborated t r) gives
    (gains_after m m n xs ys zs one more c.in_ok-assume.ensures h))
    c.add_components.ensures.gains

pub returns-in_default : goal.returns-in_default
returns-in_default g c =
    let b = c.args.cx.now in
    let m = g.I.Interner.meaning b in
    let laws = g.met.I.Interner in
    let sorted : Sorted m = laws.sorted b in
    let a = c.args.assumption.now in
    let t = arg_tree m a.0 in
    let r = m.region a.1 in
    let one : List (Tree × Tree) = (t, r) ∷ [] in
    let is : one ≡ elaborated t r =
    other_elaborated t r (other_sort m sorted a.0 c.requires.known.0 c.in_default.not-Ty) in
    record {
      grown = stays_same m;
      gains = gains_as m m c.args.collected.now.keys c.assume.new.collected.keys one (elaborated t r)
          (same_as one (elaborated t r) is) c.in_ok-assume.ensures;
    }
