use Rattle.relation_terms.specs.declared.terms.generic_arg.GenericArgKind.TheVariants.{Const}
use Rattle.text_asking.proofs.PutLemmas.{Compares}
use Rattle.text_asking.proofs.MeetLemmas.{asks}
use Rattle.text_asking.proofs.visiting.CollectsKeyTypeVisitor.visit_const.Goals as goal

pub returns : goal.returns
returns g c =
    let m = g.I.Interner.meaning c.args._cx.now in
    let eq = g.I.Key.PartialEq.eq in
    let is : Compares m eq = record {
      ty = g.met.I.Interner.same_ty c.args._cx.now;
      region = g.met.I.Interner.same_region c.args._cx.now;
      const_ = g.met.I.Interner.same_const c.args._cx.now;
      is_ty = (g.met.I.Interner.sorted c.args._cx.now).ty;
      is_region = (g.met.I.Interner.sorted c.args._cx.now).region;
      is_const = (g.met.I.Interner.sorted c.args._cx.now).const_;
    } in
    let h = c.meet.ensures in
    asks m eq is c.args.self.now c.meet.new.self (Const c.args.constant.now) c.requires c.args._depth c.meet.result
    h.skip h.stop h.kept h.met h.answer
