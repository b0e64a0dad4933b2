use Rattle.std.proofs.Common.{sym, ap, ◌∙◌, subst, subst₂}
use Rattle.std.proofs.lemmas.Bool.{false≢true}
use Rattle.relation_terms.specs.Parts.{part_tree, tree_sort}
use Rattle.relation_terms.specs.Interning.{Sorted}
use Rattle.relation_terms.proofs.Parts.{sort_known}
use Rattle.variable_tables.specs.Tables.{store_of}
use Rattle.occurs_check.specs.TermVids.{vid_kind, vid_number}
use Rattle.occurs_check.specs.Fates.{new_kind, IsFate}
use Rattle.variable_tables.proofs.Grows.{made_in_context}
use Rattle.occurs_check.proofs.Leaves.{left_stays, not_region, vid_no_int, vid_no_float, new_kind_of}
use Rattle.occurs_check.proofs.fates.fate_of.Goals as goal

pub returns-in-Region : goal.returns-in-Region
returns-in-Region g c =
    let m = g.I.Interner.meaning c.args.cx.now in
    subst (λ p. IsFate (store_of m c.args.inner.now) (vid_kind c.args.target.now.vid) (vid_number c.args.target.now.vid)
    c.args.target.now.universe.0 c.args.variance (part_tree m p) (new_kind p) c.fate_of_region.result) (sym c.in-Region.is)
    c.fate_of_region.ensures

pub fate_of_variable-requires : goal.fate_of_variable-requires
fate_of_variable-requires g c =
    let m = g.I.Interner.meaning c.args.cx.now in
    record {
      lawful = c.requires.lawful;
      made = made_in_context (store_of m c.args.inner.now) (vid_kind c.in-Some.vid) (part_tree m c.args.term.now)
          (vid_number c.in-Some.vid) c.in-Some.ensures.is c.requires.term_in;
      other = λ e. false≢true (sym c.if-is_same_vid.false ∙ c.is_same_vid.ensures.1 e);
    }

pub returns-in-Some : goal.returns-in-Some
returns-in-Some g c =
    let m = g.I.Interner.meaning c.args.cx.now in
    let sorted : Sorted m = g.met.I.Interner.sorted c.args.cx.now in
    let sort = sym (sort_known m sorted c.args.term.now c.requires.term_known) ∙ ap tree_sort c.in-Some.ensures.is in
    subst₂ (λ t o. IsFate (store_of m c.args.inner.now) (vid_kind c.args.target.now.vid) (vid_number c.args.target.now.vid)
    c.args.target.now.universe.0 c.args.variance t o c.fate_of_variable.result) (sym c.in-Some.ensures.is)
    (sym (new_kind_of c.args.term.now c.in-Some.vid sort)) c.fate_of_variable.ensures

pub returns-in_default-placeholder_universe : goal.returns-in_default-placeholder_universe
returns-in_default-placeholder_universe g c =
    let m = g.I.Interner.meaning c.args.cx.now in
    let sorted : Sorted m = g.met.I.Interner.sorted c.args.cx.now in
    left_stays (store_of m c.args.inner.now) (vid_kind c.args.target.now.vid) (vid_number c.args.target.now.vid)
    c.args.target.now.universe.0 c.args.variance (part_tree m c.args.term.now) c.requires.term_known
    (λ e. not_region c.args.term.now c.in_default.not-Region (sym (sort_known m sorted c.args.term.now c.requires.term_known) ∙ e))
    c.in_default-variable_of.ensures.is_none
    (λ q w i e o. absurd (o (c.in_default-placeholder_universe.ensures.is_none q w i e)))
    (λ i. vid_no_int c.args.target.now.vid) (λ i. vid_no_float c.args.target.now.vid) (new_kind c.args.term.now)
