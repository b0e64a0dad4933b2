use Rattle.std.proofs.Common.{◌≡◌, ◌<◌, ◌∙◌, sym, ap, subst, length}
use Rattle.relation_terms.specs.Heads.{type_var}
use Rattle.variable_classes.specs.Roots.{joined_roots}
use Rattle.relation_reference.proofs.Making.{on_err}
use Rattle.relation_reference.proofs.Marking.{marks_kept, made_new, joined_marks, joined_root}
use Rattle.variable_tables.proofs.SubRoots.{root_there, roots_joined, roots_kept, roots_lawful}
use Rattle.variable_tables.proofs.Writing.{table_of_entries}
use Rattle.relation_reference.proofs.context.variables.RefCtxt.next_related_ty_var.Goals as goal

pub returns-in_err-made-clause-rest : goal.returns-in_err-made-clause-rest
returns-in_err-made-clause-rest g c =
    let done = c.in_err-made.ensures in
    marks_kept g.I.Interner.meaning c.args.self.now c.next_ty_var_in.new.self c.requires.lawful
    (ap (λ st. length (st.entries type_var)) done.refused) done.rest

pub join-requires-clause-a_in : goal.join-requires-clause-a_in
join-requires-clause-a_in g c =
    let n = g.I.Interner.meaning c.next_ty_var_in.new.self.interner in
    let q = c.next_ty_var_in.new.self.inner in
    let done = c.in_ok-made.ensures in
    root_there n q done.lawful.sub_rooted c.args.of.0
    (table_of_entries n.ty q.types.items c.args.of.0 (done.later.grows type_var c.args.of.0 c.requires.of_made))

pub join-requires-clause-b_in : goal.join-requires-clause-b_in
join-requires-clause-b_in g c =
    let x = c.args.self.now.inner in
    let n = g.I.Interner.meaning c.next_ty_var_in.new.self.interner in
    let q = c.next_ty_var_in.new.self.inner in
    let done = c.in_ok-made.ensures in
    let number : length x.types.items ≡ c.len-number.result = sym c.len-number.ensures in
    subst (λ i. i < length q.sub_roots.items) number (root_there n q done.lawful.sub_rooted (length x.types.items)
    (table_of_entries n.ty q.types.items (length x.types.items) (made_new _ _ type_var _ _ done.makes)))

pub returns-clause-lawful : goal.returns-clause-lawful
returns-clause-lawful g c =
    let x = c.args.self.now.inner in
    let n = g.I.Interner.meaning c.next_ty_var_in.new.self.interner in
    let q = c.next_ty_var_in.new.self.inner in
    let done = c.in_ok-made.ensures in
    let joins = roots_joined n q done.lawful.sub_rooted c.args.of.0 (length x.types.items)
    (table_of_entries n.ty q.types.items c.args.of.0 (done.later.grows type_var c.args.of.0 c.requires.of_made))
    (table_of_entries n.ty q.types.items (length x.types.items) (made_new _ _ type_var _ _ done.makes))
    c.join.new.self.items (c.join.ensures ∙ ap (λ i. joined_roots c.args.of.0 i q.sub_roots.items) c.len-number.ensures) in
    let rs = c.join.new.self in
    roots_lawful n q rs (roots_kept n q rs joins.as_many joins.rooted c.args.of.0 (length x.types.items)
    (table_of_entries n.ty q.types.items c.args.of.0 (done.later.grows type_var c.args.of.0 c.requires.of_made))
    (table_of_entries n.ty q.types.items (length x.types.items) (made_new _ _ type_var _ _ done.makes))
    joins.joins
    done.lawful.sub_rooted) done.lawful

pub returns-clause-root : goal.returns-clause-root
returns-clause-root g c =
    let x = c.args.self.now.inner in
    let n = g.I.Interner.meaning c.next_ty_var_in.new.self.interner in
    let q = c.next_ty_var_in.new.self.inner in
    let done = c.in_ok-made.ensures in
    let joins = roots_joined n q done.lawful.sub_rooted c.args.of.0 (length x.types.items)
    (table_of_entries n.ty q.types.items c.args.of.0 (done.later.grows type_var c.args.of.0 c.requires.of_made))
    (table_of_entries n.ty q.types.items (length x.types.items) (made_new _ _ type_var _ _ done.makes))
    c.join.new.self.items (c.join.ensures ∙ ap (λ i. joined_roots c.args.of.0 i q.sub_roots.items) c.len-number.ensures) in
    let rs = c.join.new.self in
    joined_root g.I.Interner.meaning c.args.self.now c.next_ty_var_in.new.self c.requires.lawful (length x.types.items)
    c.args.universe.0 c.args.of.0 done.makes c.requires.of_made done.rest rs
    joins.joins

pub returns-clause-rest : goal.returns-clause-rest
returns-clause-rest g c =
    let x = c.args.self.now.inner in
    let n = g.I.Interner.meaning c.next_ty_var_in.new.self.interner in
    let q = c.next_ty_var_in.new.self.inner in
    let done = c.in_ok-made.ensures in
    let joins = roots_joined n q done.lawful.sub_rooted c.args.of.0 (length x.types.items)
    (table_of_entries n.ty q.types.items c.args.of.0 (done.later.grows type_var c.args.of.0 c.requires.of_made))
    (table_of_entries n.ty q.types.items (length x.types.items) (made_new _ _ type_var _ _ done.makes))
    c.join.new.self.items (c.join.ensures ∙ ap (λ i. joined_roots c.args.of.0 i q.sub_roots.items) c.len-number.ensures) in
    let rs = c.join.new.self in
    joined_marks g.I.Interner.meaning c.args.self.now c.next_ty_var_in.new.self c.requires.lawful (length x.types.items)
    c.args.universe.0 c.args.of.0 done.makes c.requires.of_made done.rest rs
    joins.joins

pub returns-in_err-made-clause-refused : goal.returns-in_err-made-clause-refused
returns-in_err-made-clause-refused g c = on_err _ _ c.in_err-made.ensures.refused
