-- By what stands in the goal, or in what it comes to.
use Rattle.std.proofs.Common.{◌≡◌, ap, sym, subst, not, IsTrue}
use Rattle.relation_terms.specs.Trees.{known}
use Rattle.relation_folds.specs.Visits.{non_region_infer_stands}
use Rattle.relation_proving.specs.Telling.{IsBack}
use Rattle.relation_proving.proofs.GoingOn.{back_itself}
use Rattle.relation_proving.proofs.OneValue.{is_one}
use Rattle.relation_proving.proofs.ReadGoals.{read_itself, read_resolved}
use Rattle.relation_proving.proofs.reading.comes_to_one.Goals as goal

pub has_non_region_infer-requires : goal.has_non_region_infer-requires
has_non_region_infer-requires g c =
    subst (λ m. IsTrue (known (m.clause c.args.goal.now))) (sym c.cx.ensures) c.requires.goal.is_known

pub returns-then-not-has_non_region_infer : goal.returns-then-not-has_non_region_infer
returns-then-not-has_non_region_infer g c =
    let s = g.C.InferCtxtLike.state c.args.ctx.now in
    let back = back_itself s c.requires.lawful in
    record {
      back = back;
      one = record {
        is_read = read_itself s s back c.args.goal.now c.requires.goal;
        one = is_one s.store ((s.meaning).clause c.args.goal.now) c.has_non_region_infer.result c.requires.goal.is_in
            (subst (λ m. c.has_non_region_infer.result ≡ non_region_infer_stands (m.clause c.args.goal.now)) c.cx.ensures
            c.has_non_region_infer.ensures) (ap not c.if-not-has_non_region_infer.true);
      };
    }

pub resolve_vars_if_possible-requires : goal.resolve_vars_if_possible-requires
resolve_vars_if_possible-requires g c = record {
  lawful = c.requires.lawful;
  value_known = c.requires.goal.is_known;
  value_in = c.requires.goal.is_in;
}

pub returns-in_err-resolved-clause-back : goal.returns-in_err-resolved-clause-back
returns-in_err-resolved-clause-back g c =
    let e = c.in_err-resolved.ensures in
    record {
      same = record {
        store = e.same_record;
        setup = e.grows.setup;
        outliving = e.grows.outliving;
        marks = e.marks;
      };
      lawful = e.grows.lawful;
      grown = e.grows.extends;
    }

pub returns-then-has_non_region_infer : goal.returns-then-has_non_region_infer
returns-then-has_non_region_infer g c =
    let e = c.in_ok-resolved.ensures in
    record {
      back = record {
        same = record {
          store = e.same_record;
          setup = e.grows.setup;
          outliving = e.grows.outliving;
          marks = e.marks;
        };
        lawful = e.grows.lawful;
        grown = e.grows.extends;
      };
      one = tt;
    }

pub returns : goal.returns
returns g c =
    let s = g.C.InferCtxtLike.state c.args.ctx.now in
    let d = g.C.InferCtxtLike.state c.resolve_vars_if_possible.new.self in
    let e = c.in_ok-resolved.ensures in
    let back : IsBack s d = record {
      same = record {
        store = e.same_record;
        setup = e.grows.setup;
        outliving = e.grows.outliving;
        marks = e.marks;
      };
      lawful = e.grows.lawful;
      grown = e.grows.extends;
    } in
    let read = read_resolved s d (g.met.C.InferCtxtLike.sound c.args.ctx.now c.requires.lawful)
    (g.met.C.InferCtxtLike.bound_by_lists c.args.ctx.now c.requires.lawful) back c.args.goal.now
    c.in_ok-resolved.resolved c.requires.goal e.comes.0 e.comes.1 in
    record {
      back = back;
      one = record {
        is_read = read;
        one = is_one d.store ((d.meaning).clause c.in_ok-resolved.resolved) c.has_non_region_infer-2.result
            read.may_ask.is_in
            (subst (λ m. c.has_non_region_infer-2.result ≡ non_region_infer_stands (m.clause c.in_ok-resolved.resolved))
            c.cx-2.ensures c.has_non_region_infer-2.ensures) (ap not c.if-has_non_region_infer.false);
      };
    }
