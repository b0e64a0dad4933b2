use Rattle.std.proofs.Common.{◌≡◌, sym, subst}
use Rattle.relation_terms.specs.Heads.{adt}
use Rattle.relation_terms.specs.Trees.{node}
use Rattle.reference_interner.specs.Adding.{meaning_in}
use Rattle.relation_tests.proofs.OverItems.{over_made}
use Rattle.relation_tests.proofs.over_items.related_over.Goals as goal

pub relate_ty_args-requires-clause-makes : goal.relate_ty_args-requires-clause-makes
relate_ty_args-requires-clause-makes c = λ cx list res left grown post.
    let s = c.new-relation.result.interner in
    let d = c.args.item in
    let over = c.args.over.now in
    over_made s cx.now left.now d ((meaning_in s).ty over.ty) ((meaning_in s).args over.args)
    ((meaning_in cx.now).args list) grown
    (subst (λ i. (meaning_in i).ty over.ty ≡ node (adt ((meaning_in i).id d)) ((meaning_in i).args over.args))
    (sym c.new-relation.ensures.interner) c.requires.is) res post.1.1.0 post.1.1.1
