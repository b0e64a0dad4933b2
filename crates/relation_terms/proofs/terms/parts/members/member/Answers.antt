use Rattle.std.proofs.Common.{◌∙◌, ◌<◌, ◌-◌, suc, IsTrue, sym, ap, subst, arith, length}
use Rattle.std.proofs.lemmas.Bool.{and_parts}
use Rattle.relation_terms.specs.Trees.{known, count, nth, cons}
use Rattle.relation_terms.specs.Meaning.{arg_tree, object_predicate_tree, term_tree}
use Rattle.relation_terms.specs.Parts.{part_tree, parts_tree}
use Rattle.relation_terms.proofs.Members.{slice_counts, nth_after, slice_below, slice_sure, slice_nth, front_below, front_sure, front_at}
use Rattle.relation_terms.proofs.Binders.{front_known}
use Rattle.relation_terms.proofs.Parts.{arg_part}
use Rattle.relation_terms.proofs.terms.parts.members.member.Goals as goal

pub bounds-args-i : goal.bounds-args-i
bounds-args-i g c =
    let m = g.I.Interner.meaning c.args.cx.now in
    let w = parts_tree m c.args.parts.now in
    let xs = c.args-in-Args.result.now in
    let e = ap (parts_tree m) c.in-Args.is ∙ c.args-in-Args.ensures in
    let i = c.args.i in
    slice_below (arg_tree m) xs w e i c.requires.in_bounds

pub offset_bounds-args-i : goal.offset_bounds-args-i
offset_bounds-args-i g c =
    let m = g.I.Interner.meaning c.args.cx.now in
    let w = parts_tree m c.args.parts.now in
    let xs = c.args-in-Args.result.now in
    let e = ap (parts_tree m) c.in-Args.is ∙ c.args-in-Args.ensures in
    let i = c.args.i in
    let h : i < length xs = slice_below (arg_tree m) xs w e i c.requires.in_bounds in
    omega (arith, h)

pub returns-in-Args : goal.returns-in-Args
returns-in-Args g c =
    let m = g.I.Interner.meaning c.args.cx.now in
    let w = parts_tree m c.args.parts.now in
    let xs = c.args-in-Args.result.now in
    let e = ap (parts_tree m) c.in-Args.is ∙ c.args-in-Args.ensures in
    let i = c.args.i in
    let x = c.index-args-i.result in
    let r = ap (part_tree m) c.of_arg.ensures ∙ arg_part m x in
    record {
      sure = subst (λ t. IsTrue (known t)) (sym r)
          (slice_sure (arg_tree m) xs w e c.requires.list_known i x x c.requires.in_bounds c.index-args-i.is);
      means = r ∙ slice_nth (arg_tree m) xs w e i x x c.requires.in_bounds c.index-args-i.is;
    }

pub bounds-tys-i : goal.bounds-tys-i
bounds-tys-i g c =
    let m = g.I.Interner.meaning c.args.cx.now in
    let w = parts_tree m c.args.parts.now in
    let xs = c.tys.result.now in
    let e = ap (parts_tree m) c.in-Tys.is ∙ c.tys.ensures in
    let i = c.args.i in
    slice_below (m.ty) xs w e i c.requires.in_bounds

pub offset_bounds-tys-i : goal.offset_bounds-tys-i
offset_bounds-tys-i g c =
    let m = g.I.Interner.meaning c.args.cx.now in
    let w = parts_tree m c.args.parts.now in
    let xs = c.tys.result.now in
    let e = ap (parts_tree m) c.in-Tys.is ∙ c.tys.ensures in
    let i = c.args.i in
    let h : i < length xs = slice_below (m.ty) xs w e i c.requires.in_bounds in
    omega (arith, h)

pub returns-in-Tys : goal.returns-in-Tys
returns-in-Tys g c =
    let m = g.I.Interner.meaning c.args.cx.now in
    let w = parts_tree m c.args.parts.now in
    let xs = c.tys.result.now in
    let e = ap (parts_tree m) c.in-Tys.is ∙ c.tys.ensures in
    let i = c.args.i in
    let x = c.index-tys-i.result in
    record {
      sure = slice_sure (m.ty) xs w e c.requires.list_known i x x c.requires.in_bounds c.index-tys-i.is;
      means = slice_nth (m.ty) xs w e i x x c.requires.in_bounds c.index-tys-i.is;
    }

pub bounds-branches-i : goal.bounds-branches-i
bounds-branches-i g c =
    let m = g.I.Interner.meaning c.args.cx.now in
    let w = parts_tree m c.args.parts.now in
    let xs = c.branches.result.now in
    let e = ap (parts_tree m) c.in-Branches.is ∙ c.branches.ensures in
    let i = c.args.i in
    slice_below (m.const_) xs w e i c.requires.in_bounds

pub offset_bounds-branches-i : goal.offset_bounds-branches-i
offset_bounds-branches-i g c =
    let m = g.I.Interner.meaning c.args.cx.now in
    let w = parts_tree m c.args.parts.now in
    let xs = c.branches.result.now in
    let e = ap (parts_tree m) c.in-Branches.is ∙ c.branches.ensures in
    let i = c.args.i in
    let h : i < length xs = slice_below (m.const_) xs w e i c.requires.in_bounds in
    omega (arith, h)

pub returns-in-Branches : goal.returns-in-Branches
returns-in-Branches g c =
    let m = g.I.Interner.meaning c.args.cx.now in
    let w = parts_tree m c.args.parts.now in
    let xs = c.branches.result.now in
    let e = ap (parts_tree m) c.in-Branches.is ∙ c.branches.ensures in
    let i = c.args.i in
    let x = c.index-branches-i.result in
    record {
      sure = slice_sure (m.const_) xs w e c.requires.list_known i x x c.requires.in_bounds c.index-branches-i.is;
      means = slice_nth (m.const_) xs w e i x x c.requires.in_bounds c.index-branches-i.is;
    }

pub bounds-alternatives-i : goal.bounds-alternatives-i
bounds-alternatives-i g c =
    let m = g.I.Interner.meaning c.args.cx.now in
    let w = parts_tree m c.args.parts.now in
    let xs = c.alternatives.result.now in
    let e = ap (parts_tree m) c.in-Alternatives.is ∙ c.alternatives.ensures in
    let i = c.args.i in
    slice_below (m.pat) xs w e i c.requires.in_bounds

pub offset_bounds-alternatives-i : goal.offset_bounds-alternatives-i
offset_bounds-alternatives-i g c =
    let m = g.I.Interner.meaning c.args.cx.now in
    let w = parts_tree m c.args.parts.now in
    let xs = c.alternatives.result.now in
    let e = ap (parts_tree m) c.in-Alternatives.is ∙ c.alternatives.ensures in
    let i = c.args.i in
    let h : i < length xs = slice_below (m.pat) xs w e i c.requires.in_bounds in
    omega (arith, h)

pub returns-in-Alternatives : goal.returns-in-Alternatives
returns-in-Alternatives g c =
    let m = g.I.Interner.meaning c.args.cx.now in
    let w = parts_tree m c.args.parts.now in
    let xs = c.alternatives.result.now in
    let e = ap (parts_tree m) c.in-Alternatives.is ∙ c.alternatives.ensures in
    let i = c.args.i in
    let x = c.index-alternatives-i.result in
    record {
      sure = slice_sure (m.pat) xs w e c.requires.list_known i x x c.requires.in_bounds c.index-alternatives-i.is;
      means = slice_nth (m.pat) xs w e i x x c.requires.in_bounds c.index-alternatives-i.is;
    }

pub bounds-existential_predicates-i : goal.bounds-existential_predicates-i
bounds-existential_predicates-i g c =
    let m = g.I.Interner.meaning c.args.cx.now in
    let w = parts_tree m c.args.parts.now in
    let xs = c.existential_predicates.result.now in
    let e = ap (parts_tree m) c.in-Predicates.is ∙ c.existential_predicates.ensures in
    slice_below (object_predicate_tree m) xs w e c.args.i c.requires.in_bounds

pub offset_bounds-existential_predicates-i : goal.offset_bounds-existential_predicates-i
offset_bounds-existential_predicates-i g c =
    let m = g.I.Interner.meaning c.args.cx.now in
    let w = parts_tree m c.args.parts.now in
    let xs = c.existential_predicates.result.now in
    let e = ap (parts_tree m) c.in-Predicates.is ∙ c.existential_predicates.ensures in
    let h : c.args.i < length xs = slice_below (object_predicate_tree m) xs w e c.args.i c.requires.in_bounds in
    omega (arith, h)

pub returns-in-Predicates : goal.returns-in-Predicates
returns-in-Predicates g c =
    let m = g.I.Interner.meaning c.args.cx.now in
    let w = parts_tree m c.args.parts.now in
    let xs = c.existential_predicates.result.now in
    let e = ap (parts_tree m) c.in-Predicates.is ∙ c.existential_predicates.ensures in
    let i = c.args.i in
    let x = c.index-existential_predicates-i.result in
    let r = ap (part_tree m) c.of_predicate.ensures in
    record {
      sure = subst (λ t. IsTrue (known t)) (sym r)
          (slice_sure (object_predicate_tree m) xs w e c.requires.list_known i x x c.requires.in_bounds
          c.index-existential_predicates-i.is);
      means = r ∙ slice_nth (object_predicate_tree m) xs w e i x x c.requires.in_bounds
          c.index-existential_predicates-i.is;
    }

pub tys-requires-in-Inputs : goal.tys-requires-in-Inputs
tys-requires-in-Inputs g c =
    let m = g.I.Interner.meaning c.args.cx.now in
    front_known (m.tys c.in-Inputs.tys)
    (subst (λ p. IsTrue (known (parts_tree m p))) c.in-Inputs.is c.requires.list_known)

pub bounds-tys-i-in-Inputs : goal.bounds-tys-i-in-Inputs
bounds-tys-i-in-Inputs g c =
    let m = g.I.Interner.meaning c.args.cx.now in
    let e = ap (parts_tree m) c.in-Inputs.is in
    front_below m.ty c.tys-in-Inputs.result.now (m.tys c.in-Inputs.tys) c.tys-in-Inputs.ensures
    (subst (λ t. IsTrue (known t)) e c.requires.list_known) c.args.i
    (subst (λ t. c.args.i < count t) e c.requires.in_bounds)

pub offset_bounds-tys-i-in-Inputs : goal.offset_bounds-tys-i-in-Inputs
offset_bounds-tys-i-in-Inputs g c =
    let m = g.I.Interner.meaning c.args.cx.now in
    let e = ap (parts_tree m) c.in-Inputs.is in
    let h = front_below m.ty c.tys-in-Inputs.result.now (m.tys c.in-Inputs.tys) c.tys-in-Inputs.ensures
    (subst (λ t. IsTrue (known t)) e c.requires.list_known) c.args.i
    (subst (λ t. c.args.i < count t) e c.requires.in_bounds) in
    omega (arith, h)

pub returns-in-Inputs : goal.returns-in-Inputs
returns-in-Inputs g c =
    let m = g.I.Interner.meaning c.args.cx.now in
    let e = ap (parts_tree m) c.in-Inputs.is in
    let w = m.tys c.in-Inputs.tys in
    let xs = c.tys-in-Inputs.result.now in
    let k = subst (λ t. IsTrue (known t)) e c.requires.list_known in
    let h = subst (λ t. c.args.i < count t) e c.requires.in_bounds in
    let x = c.index-tys-i-in-Inputs.result in
    record {
      sure = front_sure m.ty xs w c.tys-in-Inputs.ensures k c.args.i x x h c.index-tys-i-in-Inputs.is;
      means = front_at m.ty xs w c.tys-in-Inputs.ensures k c.args.i x x h c.index-tys-i-in-Inputs.is
          ∙ ap (nth c.args.i) (sym e);
    }

pub bounds-args-i-in-TermArgs-2 : goal.bounds-args-i-in-TermArgs-2
bounds-args-i-in-TermArgs-2 g c =
    let m = g.I.Interner.meaning c.args.cx.now in
    let w = m.args c.in-TermArgs-2.args in
    let h : c.args.i < suc (count w) =
    subst (λ p. c.args.i < count (parts_tree m p)) c.in-TermArgs-2.is c.requires.in_bounds in
    let n = slice_counts (arg_tree m) c.args-in-TermArgs-2.result.now w c.args-in-TermArgs-2.ensures in
    let o = c.if-i-eq0-2.false in
    omega (arith, h, n, o)

pub offset_bounds-args-i-in-TermArgs-2 : goal.offset_bounds-args-i-in-TermArgs-2
offset_bounds-args-i-in-TermArgs-2 g c =
    let m = g.I.Interner.meaning c.args.cx.now in
    let w = m.args c.in-TermArgs-2.args in
    let h : c.args.i < suc (count w) =
    subst (λ p. c.args.i < count (parts_tree m p)) c.in-TermArgs-2.is c.requires.in_bounds in
    let n = slice_counts (arg_tree m) c.args-in-TermArgs-2.result.now w c.args-in-TermArgs-2.ensures in
    omega (arith, h, n)

pub returns-in-TermArgs-2 : goal.returns-in-TermArgs-2
returns-in-TermArgs-2 g c =
    let m = g.I.Interner.meaning c.args.cx.now in
    let a = c.in-TermArgs-2.args in
    let w = m.args a in
    let xs = c.args-in-TermArgs-2.result.now in
    let e = ap (parts_tree m) c.in-TermArgs-2.is in
    let k : IsTrue (known (cons (term_tree m c.in-TermArgs-2.field-0) w)) =
    subst (λ t. IsTrue (known t)) e c.requires.list_known in
    let known_args = (and_parts (known (term_tree m c.in-TermArgs-2.field-0)) (known w) k).1 in
    let h : c.args.i < suc (count w) =
    subst (λ p. c.args.i < count (parts_tree m p)) c.in-TermArgs-2.is c.requires.in_bounds in
    let o = c.if-i-eq0-2.false in
    let l : c.args.i - 1 < count w = omega (arith, h, o) in
    let x = c.index-args-i-in-TermArgs-2.result in
    let r = ap (part_tree m) c.of_arg-in-TermArgs-2.ensures ∙ arg_part m x in
    record {
      sure = subst (λ t. IsTrue (known t)) (sym r)
          (slice_sure (arg_tree m) xs w c.args-in-TermArgs-2.ensures known_args (c.args.i - 1) x x l
          c.index-args-i-in-TermArgs-2.is);
      means = r ∙ slice_nth (arg_tree m) xs w c.args-in-TermArgs-2.ensures (c.args.i - 1) x x l
          c.index-args-i-in-TermArgs-2.is
          ∙ nth_after c.args.i (term_tree m c.in-TermArgs-2.field-0) w o ∙ ap (nth c.args.i) (sym e);
    }
