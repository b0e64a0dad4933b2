use Rattle.std.proofs.Common.{◌<◌, length, refl, arith}
use Rattle.relation_terms.specs.Meaning.{arg_tree}
use Rattle.relation_semantics.proofs.Parts.{slice_below, slice_sure, slice_nth}
use Rattle.relation_steps.proofs.arguments.arg_at.Goals as goal

pub bounds-args-i : goal.bounds-args-i
bounds-args-i g c =
    let m = g.I.Interner.meaning c.args.cx.now in
    slice_below (arg_tree m) c.args-2.result.now (m.args c.args.args.now) c.args-2.ensures (m.args c.args.args.now)
    refl c.args.i c.requires.in_bounds

pub offset_bounds-args-i : goal.offset_bounds-args-i
offset_bounds-args-i g c =
    let m = g.I.Interner.meaning c.args.cx.now in
    let h : c.args.i < length c.args-2.result.now = slice_below (arg_tree m) c.args-2.result.now
    (m.args c.args.args.now) c.args-2.ensures (m.args c.args.args.now) refl c.args.i c.requires.in_bounds in
    omega (arith, h)

pub returns : goal.returns
returns g c =
    let m = g.I.Interner.meaning c.args.cx.now in
    let at = c.index-args-i.result in
    let is = c.index-args-i.is in
    record {
      sure = slice_sure (arg_tree m) c.args-2.result.now (m.args c.args.args.now) c.args-2.ensures
          (m.args c.args.args.now) refl c.requires.args_known c.args.i at at c.requires.in_bounds is;
      means = slice_nth (arg_tree m) c.args-2.result.now (m.args c.args.args.now) c.args-2.ensures
          (m.args c.args.args.now) refl c.args.i at at c.requires.in_bounds is;
    }
