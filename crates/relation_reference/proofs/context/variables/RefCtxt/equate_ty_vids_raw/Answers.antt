use Rattle.std.proofs.Common.{◌≡◌, refl, ap, map, max, min, subst₂, arith}
use Rattle.relation_terms.specs.Heads.{type_var}
use Rattle.relation_semantics.specs.Steps.{Equates}
use Rattle.variable_tables.specs.Tables.{store_of}
use Rattle.variable_tables.proofs.Beside.{types_beside}
use Rattle.variable_tables.proofs.SubRoots.{root_there, roots_joined, roots_kept, roots_lawful}
use Rattle.relation_reference.proofs.Marking.{as_many_keys}
use Rattle.variable_tables.proofs.Writing.{value_free, link_equates, link_lawful, linked_entries, table_made}
use Rattle.relation_reference.proofs.context.variables.RefCtxt.equate_ty_vids_raw.Goals as goal

pub returns-then-a-b-clause-lawful : goal.returns-then-a-b-clause-lawful
returns-then-a-b-clause-lawful g c =
    let m = g.I.Interner.meaning c.args.self.now.interner in
    let x = c.args.self.now.inner in
    let ts = c.link.new.self in
    let e = c.link.ensures in
    let joins = roots_joined m x c.requires.lawful.sub_rooted c.args.a.0 c.args.b.0 c.requires.a_made c.requires.b_made c.join.new.self.items c.join.ensures in
    let y = record x { types = ts } in
    let linked = link_lawful m x y type_var (types_beside m x ts x.budget) (ap (map m.ty) e.keys)
    c.requires.lawful c.args.b.0 c.args.a.0 (linked_entries m.ty x.types.items ts.items c.args.b.0 c.args.a.0 e.values)
    e.universes refl (table_made m.ty x.types.items c.args.b.0 c.requires.b_made) c.if-a-b.true c.requires.b_unbound
    c.requires.a_unbound (λ z. cc) in
    roots_lawful m y c.join.new.self (roots_kept m y c.join.new.self joins.as_many joins.rooted
    c.args.a.0 c.args.b.0
    (as_many_keys x.types.items ts.items e.keys c.args.a.0 c.requires.a_made)
    (as_many_keys x.types.items ts.items e.keys c.args.b.0 c.requires.b_made) joins.joins linked.sub_rooted) linked

pub returns-then-a-b-clause-equates : goal.returns-then-a-b-clause-equates
returns-then-a-b-clause-equates g c = λ o.
    let m = g.I.Interner.meaning c.args.self.now.interner in
    let x = c.args.self.now.inner in
    let ts = c.link.new.self in
    let e = c.link.ensures in
    let less = c.if-a-b.true in
    let top : c.args.b.0 ≡ max c.args.a.0 c.args.b.0 = omega (arith, less) in
    let low : c.args.a.0 ≡ min c.args.a.0 c.args.b.0 = omega (arith, less) in
    subst₂ (Equates (store_of m x) (store_of m (record x { types = ts })) type_var) top low
    (link_equates m x (record x { types = ts }) type_var (types_beside m x ts x.budget) (ap (map m.ty) e.keys)
    c.requires.lawful c.args.b.0 c.args.a.0 (linked_entries m.ty x.types.items ts.items c.args.b.0 c.args.a.0 e.values)
    e.universes refl (table_made m.ty x.types.items c.args.b.0 c.requires.b_made) less c.requires.b_unbound
    c.requires.a_unbound)

pub returns-then-b-a-clause-lawful : goal.returns-then-b-a-clause-lawful
returns-then-b-a-clause-lawful g c =
    let m = g.I.Interner.meaning c.args.self.now.interner in
    let x = c.args.self.now.inner in
    let ts = c.link-then-b-a.new.self in
    let e = c.link-then-b-a.ensures in
    let joins = roots_joined m x c.requires.lawful.sub_rooted c.args.a.0 c.args.b.0 c.requires.a_made c.requires.b_made c.join-then-b-a.new.self.items c.join-then-b-a.ensures in
    let y = record x { types = ts } in
    let linked = link_lawful m x y type_var (types_beside m x ts x.budget) (ap (map m.ty) e.keys)
    c.requires.lawful c.args.a.0 c.args.b.0 (linked_entries m.ty x.types.items ts.items c.args.a.0 c.args.b.0 e.values)
    e.universes refl (table_made m.ty x.types.items c.args.a.0 c.requires.a_made) c.if-b-a.true c.requires.a_unbound
    c.requires.b_unbound (λ z. cc) in
    roots_lawful m y c.join-then-b-a.new.self (roots_kept m y c.join-then-b-a.new.self joins.as_many joins.rooted
    c.args.a.0 c.args.b.0
    (as_many_keys x.types.items ts.items e.keys c.args.a.0 c.requires.a_made)
    (as_many_keys x.types.items ts.items e.keys c.args.b.0 c.requires.b_made) joins.joins linked.sub_rooted) linked

pub returns-then-b-a-clause-equates : goal.returns-then-b-a-clause-equates
returns-then-b-a-clause-equates g c = λ o.
    let m = g.I.Interner.meaning c.args.self.now.interner in
    let x = c.args.self.now.inner in
    let ts = c.link-then-b-a.new.self in
    let e = c.link-then-b-a.ensures in
    let less = c.if-b-a.true in
    let top : c.args.a.0 ≡ max c.args.a.0 c.args.b.0 = omega (arith, less) in
    let low : c.args.b.0 ≡ min c.args.a.0 c.args.b.0 = omega (arith, less) in
    subst₂ (Equates (store_of m x) (store_of m (record x { types = ts })) type_var) top low
    (link_equates m x (record x { types = ts }) type_var (types_beside m x ts x.budget) (ap (map m.ty) e.keys)
    c.requires.lawful c.args.a.0 c.args.b.0 (linked_entries m.ty x.types.items ts.items c.args.a.0 c.args.b.0 e.values)
    e.universes refl (table_made m.ty x.types.items c.args.a.0 c.requires.a_made) less c.requires.a_unbound
    c.requires.b_unbound)

pub join-requires-clause-a_in : goal.join-requires-clause-a_in
join-requires-clause-a_in g c =
    root_there (g.I.Interner.meaning c.args.self.now.interner) c.args.self.now.inner c.requires.lawful.sub_rooted c.args.a.0
    c.requires.a_made

pub join-requires-clause-b_in : goal.join-requires-clause-b_in
join-requires-clause-b_in g c =
    root_there (g.I.Interner.meaning c.args.self.now.interner) c.args.self.now.inner c.requires.lawful.sub_rooted c.args.b.0
    c.requires.b_made

pub join-requires-then-b-a-clause-a_in : goal.join-requires-then-b-a-clause-a_in
join-requires-then-b-a-clause-a_in g c =
    root_there (g.I.Interner.meaning c.args.self.now.interner) c.args.self.now.inner c.requires.lawful.sub_rooted c.args.a.0
    c.requires.a_made

pub join-requires-then-b-a-clause-b_in : goal.join-requires-then-b-a-clause-b_in
join-requires-then-b-a-clause-b_in g c =
    root_there (g.I.Interner.meaning c.args.self.now.interner) c.args.self.now.inner c.requires.lawful.sub_rooted c.args.b.0
    c.requires.b_made

pub link-requires-clause-child_free : goal.link-requires-clause-child_free
link-requires-clause-child_free g c =
    value_free (g.I.Interner.meaning c.args.self.now.interner).ty c.args.self.now.inner.types.items c.args.b.0 c.requires.b_unbound

pub link-requires-clause-root_free : goal.link-requires-clause-root_free
link-requires-clause-root_free g c =
    value_free (g.I.Interner.meaning c.args.self.now.interner).ty c.args.self.now.inner.types.items c.args.a.0 c.requires.a_unbound

pub link-requires-then-b-a-clause-child_free : goal.link-requires-then-b-a-clause-child_free
link-requires-then-b-a-clause-child_free g c =
    value_free (g.I.Interner.meaning c.args.self.now.interner).ty c.args.self.now.inner.types.items c.args.a.0 c.requires.a_unbound

pub link-requires-then-b-a-clause-root_free : goal.link-requires-then-b-a-clause-root_free
link-requires-then-b-a-clause-root_free g c =
    value_free (g.I.Interner.meaning c.args.self.now.interner).ty c.args.self.now.inner.types.items c.args.b.0 c.requires.b_unbound

pub returns-then-a-b-clause-marks : goal.returns-then-a-b-clause-marks
returns-then-a-b-clause-marks g c =
    let m = g.I.Interner.meaning c.args.self.now.interner in
    let x = c.args.self.now.inner in
    (roots_joined m x c.requires.lawful.sub_rooted c.args.a.0 c.args.b.0 c.requires.a_made c.requires.b_made c.join.new.self.items c.join.ensures).joins

pub returns-then-b-a-clause-marks : goal.returns-then-b-a-clause-marks
returns-then-b-a-clause-marks g c =
    let m = g.I.Interner.meaning c.args.self.now.interner in
    let x = c.args.self.now.inner in
    (roots_joined m x c.requires.lawful.sub_rooted c.args.a.0 c.args.b.0 c.requires.a_made c.requires.b_made c.join-then-b-a.new.self.items c.join-then-b-a.ensures).joins
