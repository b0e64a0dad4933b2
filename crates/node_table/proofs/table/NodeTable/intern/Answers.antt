use Rattle.std.proofs.Common.{◌∙◌, ap, refl, subst, sym}
use Rattle.std.specs.List.{list_any}
use Rattle.std.proofs.lemmas.Bool.{false≢true}
use Rattle.node_table.specs.Finding.{HasAt}
use Rattle.node_table.proofs.Finding.{is_found, put_nowhere, has_equal}
use Rattle.node_table.proofs.table.NodeTable.intern.Goals as goal

pub returns-in_err-index-clause-there : goal.returns-in_err-index-clause-there
returns-in_err-index-clause-there g c =
    let eq = g.N.PartialEq.eq in
    let n = c.args.node in
    λ i h.
    absurd (false≢true (sym c.in_err-index.ensures.absent ∙ ap (list_any (eq n)) c.self.view_is ∙
    is_found eq g.met.N.Eq.laws c.args.self.now n i h))

pub returns-clause-number : goal.returns-clause-number
returns-clause-number g c =
    let done = c.in_ok-index.ensures in
    has_equal g.N.PartialEq.eq g.met.N.Eq.laws c.insert_full.new.self.keys c.args.node done.stored.0
    c.in_ok-index.index done.within done.stored.1 done.stored.2

pub returns-clause-there : goal.returns-clause-there
returns-clause-there g c =
    let eq = g.N.PartialEq.eq in
    let n = c.args.node in
    let ns = c.self.inside.nodes.keys in
    λ i h. (
      refl,
      c.in_ok-index.ensures.keys ∙
          put_nowhere eq g.met.N.Eq.laws ns n i (subst (λ xs. HasAt eq xs n i) (sym c.self.view_is) h) ∙ c.self.view_is,
    )
