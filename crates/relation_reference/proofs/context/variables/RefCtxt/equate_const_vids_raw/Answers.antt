use Rattle.std.proofs.Common.{◌≡◌, refl, ap, map, max, min, subst₂, arith}
use Rattle.relation_terms.specs.Heads.{const_var}
use Rattle.relation_semantics.specs.Steps.{Equates}
use Rattle.variable_tables.specs.Tables.{store_of}
use Rattle.variable_tables.proofs.Beside.{consts_beside}
use Rattle.variable_tables.proofs.Writing.{value_free, link_equates, link_lawful, linked_entries, table_made}
use Rattle.relation_reference.proofs.context.variables.RefCtxt.equate_const_vids_raw.Goals as goal

pub returns-then-a-b-clause-lawful : goal.returns-then-a-b-clause-lawful
returns-then-a-b-clause-lawful g c =
    let m = g.I.Interner.meaning c.args.self.now.interner in
    let x = c.args.self.now.inner in
    let ts = c.link.new.self in
    let e = c.link.ensures in
    link_lawful m x (record x { consts = ts }) const_var (consts_beside m x ts x.budget) (ap (map m.const_) e.keys)
    c.requires.lawful c.args.b.0 c.args.a.0 (linked_entries m.const_ x.consts.items ts.items c.args.b.0 c.args.a.0 e.values)
    e.universes refl (table_made m.const_ x.consts.items c.args.b.0 c.requires.b_made) c.if-a-b.true c.requires.b_unbound
    c.requires.a_unbound (λ z. cc)

pub returns-then-a-b-clause-equates : goal.returns-then-a-b-clause-equates
returns-then-a-b-clause-equates g c = λ o.
    let m = g.I.Interner.meaning c.args.self.now.interner in
    let x = c.args.self.now.inner in
    let ts = c.link.new.self in
    let e = c.link.ensures in
    let less = c.if-a-b.true in
    let top : c.args.b.0 ≡ max c.args.a.0 c.args.b.0 = omega (arith, less) in
    let low : c.args.a.0 ≡ min c.args.a.0 c.args.b.0 = omega (arith, less) in
    subst₂ (Equates (store_of m x) (store_of m (record x { consts = ts })) const_var) top low
    (link_equates m x (record x { consts = ts }) const_var (consts_beside m x ts x.budget) (ap (map m.const_) e.keys)
    c.requires.lawful c.args.b.0 c.args.a.0 (linked_entries m.const_ x.consts.items ts.items c.args.b.0 c.args.a.0 e.values)
    e.universes refl (table_made m.const_ x.consts.items c.args.b.0 c.requires.b_made) less c.requires.b_unbound
    c.requires.a_unbound)

pub returns-then-b-a-clause-lawful : goal.returns-then-b-a-clause-lawful
returns-then-b-a-clause-lawful g c =
    let m = g.I.Interner.meaning c.args.self.now.interner in
    let x = c.args.self.now.inner in
    let ts = c.link-then-b-a.new.self in
    let e = c.link-then-b-a.ensures in
    link_lawful m x (record x { consts = ts }) const_var (consts_beside m x ts x.budget) (ap (map m.const_) e.keys)
    c.requires.lawful c.args.a.0 c.args.b.0 (linked_entries m.const_ x.consts.items ts.items c.args.a.0 c.args.b.0 e.values)
    e.universes refl (table_made m.const_ x.consts.items c.args.a.0 c.requires.a_made) c.if-b-a.true c.requires.a_unbound
    c.requires.b_unbound (λ z. cc)

pub returns-then-b-a-clause-equates : goal.returns-then-b-a-clause-equates
returns-then-b-a-clause-equates g c = λ o.
    let m = g.I.Interner.meaning c.args.self.now.interner in
    let x = c.args.self.now.inner in
    let ts = c.link-then-b-a.new.self in
    let e = c.link-then-b-a.ensures in
    let less = c.if-b-a.true in
    let top : c.args.a.0 ≡ max c.args.a.0 c.args.b.0 = omega (arith, less) in
    let low : c.args.b.0 ≡ min c.args.a.0 c.args.b.0 = omega (arith, less) in
    subst₂ (Equates (store_of m x) (store_of m (record x { consts = ts })) const_var) top low
    (link_equates m x (record x { consts = ts }) const_var (consts_beside m x ts x.budget) (ap (map m.const_) e.keys)
    c.requires.lawful c.args.a.0 c.args.b.0 (linked_entries m.const_ x.consts.items ts.items c.args.a.0 c.args.b.0 e.values)
    e.universes refl (table_made m.const_ x.consts.items c.args.a.0 c.requires.a_made) less c.requires.a_unbound
    c.requires.b_unbound)

pub link-requires-clause-child_free : goal.link-requires-clause-child_free
link-requires-clause-child_free g c =
    value_free (g.I.Interner.meaning c.args.self.now.interner).const_ c.args.self.now.inner.consts.items c.args.b.0 c.requires.b_unbound

pub link-requires-clause-root_free : goal.link-requires-clause-root_free
link-requires-clause-root_free g c =
    value_free (g.I.Interner.meaning c.args.self.now.interner).const_ c.args.self.now.inner.consts.items c.args.a.0 c.requires.a_unbound

pub link-requires-then-b-a-clause-child_free : goal.link-requires-then-b-a-clause-child_free
link-requires-then-b-a-clause-child_free g c =
    value_free (g.I.Interner.meaning c.args.self.now.interner).const_ c.args.self.now.inner.consts.items c.args.a.0 c.requires.a_unbound

pub link-requires-then-b-a-clause-root_free : goal.link-requires-then-b-a-clause-root_free
link-requires-then-b-a-clause-root_free g c =
    value_free (g.I.Interner.meaning c.args.self.now.interner).const_ c.args.self.now.inner.consts.items c.args.b.0 c.requires.b_unbound
