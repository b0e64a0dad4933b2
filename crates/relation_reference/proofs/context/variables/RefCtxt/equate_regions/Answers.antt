use Rattle.std.proofs.Common.{refl}
use Rattle.relation_terms.specs.declared.predicate.regions.RegionConstraint.TheVariants.{Eq}
use Rattle.relation_terms.specs.declared.predicate.regions.RegionConstraint.{RegionConstraint}
use Rattle.variable_tables.specs.Tables.{store_of}
use Rattle.relation_reference.proofs.Making.{on_err, same_lawful, same_store, goes_same, constraint_lawful, constraint_goes, constraint_added}
use Rattle.relation_reference.proofs.context.variables.RefCtxt.equate_regions.Goals as goal

pub returns-in_err-push-clause-lawful : goal.returns-in_err-push-clause-lawful
returns-in_err-push-clause-lawful g c =
    let x = c.args.self.now.inner in
    same_lawful (g.I.Interner.meaning c.args.self.now.interner) x (record x { constraints = c.push.new.self })
    (record { types = refl; ints = refl; floats = refl; consts = refl; regions = refl; constraints = c.in_err-push.ensures.items; universe = refl; budget = refl; tainted = refl; numbers = refl; sub_roots = refl })
    c.requires.lawful

pub returns-in_err-push-clause-goes : goal.returns-in_err-push-clause-goes
returns-in_err-push-clause-goes g c =
    let m = g.I.Interner.meaning c.args.self.now.interner in
    let x = c.args.self.now.inner in
    let y = record x { constraints = c.push.new.self } in
    goes_same 0 (store_of m x) (store_of m y) (same_store m x y (record {
      types = refl;
      ints = refl;
      floats = refl;
      consts = refl;
      regions = refl;
      constraints = c.in_err-push.ensures.items;
      universe = refl;
      budget = refl;
      tainted = refl;
      numbers = refl;
      sub_roots = refl;
    }))

pub returns-in_err-push-clause-refused : goal.returns-in_err-push-clause-refused
returns-in_err-push-clause-refused g c =
    let m = g.I.Interner.meaning c.args.self.now.interner in
    let x = c.args.self.now.inner in
    on_err c.from_residual.result _ (same_store m x (record x { constraints = c.push.new.self }) (record {
      types = refl;
      ints = refl;
      floats = refl;
      consts = refl;
      regions = refl;
      constraints = c.in_err-push.ensures.items;
      universe = refl;
      budget = refl;
      tainted = refl;
      numbers = refl;
      sub_roots = refl;
    }))

pub returns : goal.returns
returns g c =
    let m = g.I.Interner.meaning c.args.self.now.interner in
    let x = c.args.self.now.inner in
    let r : RegionConstraint g.row.I-Key.Denot = Eq (record { 0 = c.args.a.now; 1 = c.args.b.now }) in
    let more = c.in_ok-push.ensures.items in
    record {
      interner = refl;
      lawful = constraint_lawful m x c.requires.lawful r (c.requires.a_in, c.requires.b_in) c.push.new.self more;
      adds = constraint_added m x c.requires.lawful r (c.requires.a_in, c.requires.b_in) c.push.new.self more;
      refused = tt;
      rest = record { setup = refl; outliving = refl; marks = λ n. refl };
      goes = constraint_goes m x c.requires.lawful r (c.requires.a_in, c.requires.b_in) c.push.new.self more;
    }
