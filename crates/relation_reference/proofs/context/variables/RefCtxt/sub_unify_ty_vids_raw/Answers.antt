use Rattle.variable_tables.proofs.SubRoots.{root_there, roots_joined, roots_kept, roots_lawful}
use Rattle.relation_reference.proofs.context.variables.RefCtxt.sub_unify_ty_vids_raw.Goals as goal

pub join-requires-clause-a_in : goal.join-requires-clause-a_in
join-requires-clause-a_in g c =
    root_there (g.I.Interner.meaning c.args.self.now.interner) c.args.self.now.inner c.requires.lawful.sub_rooted c.args.a.0
    c.requires.a_made

pub join-requires-clause-b_in : goal.join-requires-clause-b_in
join-requires-clause-b_in g c =
    root_there (g.I.Interner.meaning c.args.self.now.interner) c.args.self.now.inner c.requires.lawful.sub_rooted c.args.b.0
    c.requires.b_made

pub returns-clause-lawful : goal.returns-clause-lawful
returns-clause-lawful g c =
    let m = g.I.Interner.meaning c.args.self.now.interner in
    let x = c.args.self.now.inner in
    let l = c.requires.lawful in
    let done = roots_joined m x l.sub_rooted c.args.a.0 c.args.b.0 c.requires.a_made c.requires.b_made c.join.new.self.items c.join.ensures in
    roots_lawful m x c.join.new.self (roots_kept m x c.join.new.self done.as_many done.rooted c.args.a.0 c.args.b.0
    c.requires.a_made c.requires.b_made done.joins l.sub_rooted) l

pub returns-clause-marks : goal.returns-clause-marks
returns-clause-marks g c =
    let m = g.I.Interner.meaning c.args.self.now.interner in
    let x = c.args.self.now.inner in
    (roots_joined m x c.requires.lawful.sub_rooted c.args.a.0 c.args.b.0 c.requires.a_made c.requires.b_made c.join.new.self.items c.join.ensures).joins
