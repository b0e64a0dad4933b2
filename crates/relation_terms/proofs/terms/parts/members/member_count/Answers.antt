use Rattle.std.proofs.Common.{◌∙◌, ap, subst, IsTrue, arith, sym}
use Rattle.relation_terms.specs.Trees.{known, front, count, IsList}
use Rattle.relation_terms.specs.Meaning.{object_predicate_tree}
use Rattle.relation_terms.proofs.Binders.{front_known, front_is}
use Rattle.relation_terms.specs.Meaning.{arg_tree}
use Rattle.relation_terms.specs.Parts.{parts_tree}
use Rattle.relation_terms.proofs.Members.{slice_counts, slice_list, front_counts}
use Rattle.relation_terms.proofs.terms.parts.members.member_count.Goals as goal

pub returns-in-Args : goal.returns-in-Args
returns-in-Args g c =
    let m = g.I.Interner.meaning c.args.cx.now in
    let w = parts_tree m c.args.parts.now in
    let e = ap (parts_tree m) c.in-Args.is ∙ c.args-in-Args.ensures in
    record {
      counts = slice_counts (arg_tree m) c.args-in-Args.result.now w e;
      is_list = slice_list (arg_tree m) c.args-in-Args.result.now w e;
    }

pub returns-in-Tys : goal.returns-in-Tys
returns-in-Tys g c =
    let m = g.I.Interner.meaning c.args.cx.now in
    let w = parts_tree m c.args.parts.now in
    let e = ap (parts_tree m) c.in-Tys.is ∙ c.tys.ensures in
    record {
      counts = slice_counts (m.ty) c.tys.result.now w e;
      is_list = slice_list (m.ty) c.tys.result.now w e;
    }

pub returns-in-Branches : goal.returns-in-Branches
returns-in-Branches g c =
    let m = g.I.Interner.meaning c.args.cx.now in
    let w = parts_tree m c.args.parts.now in
    let e = ap (parts_tree m) c.in-Branches.is ∙ c.branches.ensures in
    record {
      counts = slice_counts (m.const_) c.branches.result.now w e;
      is_list = slice_list (m.const_) c.branches.result.now w e;
    }

pub returns-in-Alternatives : goal.returns-in-Alternatives
returns-in-Alternatives g c =
    let m = g.I.Interner.meaning c.args.cx.now in
    let w = parts_tree m c.args.parts.now in
    let e = ap (parts_tree m) c.in-Alternatives.is ∙ c.alternatives.ensures in
    record {
      counts = slice_counts (m.pat) c.alternatives.result.now w e;
      is_list = slice_list (m.pat) c.alternatives.result.now w e;
    }

pub returns-in-Predicates : goal.returns-in-Predicates
returns-in-Predicates g c =
    let m = g.I.Interner.meaning c.args.cx.now in
    let w = parts_tree m c.args.parts.now in
    let e = ap (parts_tree m) c.in-Predicates.is ∙ c.existential_predicates.ensures in
    record {
      counts = slice_counts (object_predicate_tree m) c.existential_predicates.result.now w e;
      is_list = slice_list (object_predicate_tree m) c.existential_predicates.result.now w e;
    }

pub tys-requires-in-Inputs : goal.tys-requires-in-Inputs
tys-requires-in-Inputs g c =
    let m = g.I.Interner.meaning c.args.cx.now in
    front_known (m.tys c.in-Inputs.tys) (subst (λ p. IsTrue (known (parts_tree m p))) c.in-Inputs.is c.requires)

pub returns-in-Inputs : goal.returns-in-Inputs
returns-in-Inputs g c =
    let m = g.I.Interner.meaning c.args.cx.now in
    let w = m.tys c.in-Inputs.tys in
    let e = ap (parts_tree m) c.in-Inputs.is in
    let k : IsTrue (known (front w)) = subst (λ t. IsTrue (known t)) e c.requires in
    record {
      counts = front_counts m.ty c.tys-in-Inputs.result.now w c.tys-in-Inputs.ensures k ∙ ap count (sym e);
      is_list = subst IsList (sym e) (front_is w k);
    }

pub returns-in-TermArgs : goal.returns-in-TermArgs
returns-in-TermArgs g c =
    let m = g.I.Interner.meaning c.args.cx.now in
    let e = ap (parts_tree m) c.in-TermArgs.is in
    let w = m.args c.in-TermArgs.args in
    let n = slice_counts (arg_tree m) c.args-in-TermArgs.result.now w c.args-in-TermArgs.ensures in
    let s = ap count e in
    record {
      counts = omega (arith, n, s);
      is_list = subst IsList (sym e) (slice_list (arg_tree m) c.args-in-TermArgs.result.now w c.args-in-TermArgs.ensures);
    }
