use Rattle.relation_semantics.proofs.ReadAs.{read_then, read_resolves}
use Rattle.variable_tables.specs.Tables.{store_of}
use Rattle.relation_reference.proofs.Reading.{context_read}
use Rattle.relation_reference.proofs.context.shallow.shallow_resolve.Goals as goal

pub shallow_number-requires-clause-ty_in : goal.shallow_number-requires-clause-ty_in
shallow_number-requires-clause-ty_in g c =
    let m = g.I.Interner.meaning c.args.cx.now in
    context_read (store_of m c.args.inner.now) c.requires.lawful.sound (m.ty c.args.ty.now) (m.ty c.shallow_ty-found.result)
    c.shallow_ty-found.ensures.reads c.requires.ty_in

pub returns : goal.returns
returns g c =
    let m = g.I.Interner.meaning c.args.cx.now in
    let st = store_of m c.args.inner.now in
    let t = m.ty c.args.ty.now in
    let e = c.shallow_ty-found.ensures in
    let f = c.shallow_number.ensures in
    let reads = read_then st t (m.ty c.shallow_ty-found.result) (m.ty c.shallow_number.result) e.reads f.reads in
    record {
      sure = f.sure;
      reads = reads;
      resolves = read_resolves st c.requires.lawful.sound t (m.ty c.shallow_number.result) reads;
      shallow = f.shallow;
      by_lists = λ d. f.by_lists (e.by_lists d);
    }
