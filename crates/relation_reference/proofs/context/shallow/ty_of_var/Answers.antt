use Rattle.relation_terms.specs.Heads.{type_var, variable}
use Rattle.relation_terms.specs.Trees.{leaf}
use Rattle.relation_semantics.proofs.ReadAs.{read_then}
use Rattle.variable_tables.specs.Tables.{store_of}
use Rattle.relation_reference.proofs.Chains.{found_falls}
use Rattle.relation_reference.proofs.Folding.{context_made}
use Rattle.relation_reference.proofs.Reading.{context_read, read_for}
use Rattle.variable_tables.proofs.Writing.{table_made}
use Rattle.relation_reference.proofs.context.shallow.ty_of_var.Goals as goal

pub loop-next-init : goal.loop-next-init
loop-next-init g c =
    let m = g.I.Interner.meaning c.args.cx.now in
    let x = c.args.inner.now in
    let st = store_of m x in
    let h = c.found_ty-found.ensures in
    record {
      sure = h.sure;
      is_in = context_read st c.requires.lawful.sound (leaf (variable type_var c.args.var.0)) (m.ty c.found_ty-found.result)
          h.reads (context_made st type_var c.args.var.0 (table_made m.ty x.types.items c.args.var.0 c.requires.made));
      reads = h.reads;
      by_lists = h.by_lists;
    }

pub loop-next-smaller : goal.loop-next-smaller
loop-next-smaller g c =
    let m = g.I.Interner.meaning c.args.cx.now in
    let w = c.in-Some.ensures.is in
    found_falls (store_of m c.args.inner.now) type_var c.in-Some.next.0 (m.ty c.loop-next.found)
    (m.ty c.found_ty-found-in-Some.result) c.requires.lawful.sound w.is w.written c.found_ty-found-in-Some.ensures.found

pub loop-next-preserved : goal.loop-next-preserved
loop-next-preserved g c =
    let m = g.I.Interner.meaning c.args.cx.now in
    let st = store_of m c.args.inner.now in
    let inv = c.loop-next.invariant in
    let w = c.in-Some.ensures.is in
    let h = c.found_ty-found-in-Some.ensures in
    let t = m.ty c.loop-next.found in
    let u = m.ty c.found_ty-found-in-Some.result in
    let on = read_for st t u (leaf (variable type_var c.in-Some.next.0)) w.is h.reads in
    record {
      sure = h.sure;
      is_in = context_read st c.requires.lawful.sound t u on inv.is_in;
      reads = read_then st (leaf (variable type_var c.args.var.0)) t u inv.reads on;
      by_lists = h.by_lists;
    }
