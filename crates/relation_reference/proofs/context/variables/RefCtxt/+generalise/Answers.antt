use Rattle.std.proofs.Common.{rules, arith, refl, sym, ap, ap₂, ◌∙◌, Err, ◌≡◌, ◌<◌, ◌≤◌, ◌+◌, ◌*◌, suc, subst, IsTrue}
use Rattle.std.proofs.Common.{cond}
use Rattle.std.proofs.lemmas.Bool.{false≢true}
use Rattle.relation_terms.specs.Heads.{type_var}
use Rattle.relation_terms.specs.Trees.{leaf, nil, size, known, count, nth, list_tree, IsList}
use Rattle.relation_terms.specs.Parts.{part_tree, parts_tree, part_sort, parts_of, tree_sort, over, Fit}
use Rattle.relation_terms.proofs.Stays.{knows_as, extends_on, stays_same, stays_list}
use Rattle.relation_terms.specs.Interning.{Sorted}
use Rattle.relation_terms.proofs.Parts.{sort_known, stays_part, stays_parts}
use Rattle.relation_terms.specs.declared.terms.part_kind.Part.TheVariants.{Ty}
use Rattle.relation_semantics.specs.Lawful.{items_of}
use Rattle.relation_semantics.proofs.Passing.{as_err}
use Rattle.relation_semantics.specs.Stores.{InContext}
use Rattle.relation_semantics.specs.Generalising.{any_part, new_part, variance_of_part, MakesUnbound, makes_none, makes_one}
use Rattle.relation_semantics.proofs.Generalising.{gives_no_number}
use Rattle.relation_semantics.proofs.NewVariables.{adds, makes_then}
use Rattle.relation_semantics.proofs.Lists.{firsts, firsts_all}
use Rattle.variable_tables.specs.Tables.{store_of}
use Rattle.occurs_check.specs.TermVids.{vid_kind, vid_number}
use Rattle.relation_reference.proofs.Recalling.{met_eq, sure_grows}
use Rattle.relation_reference.proofs.Resolving.{context_part, over_itself}
use Rattle.occurs_check.proofs.TermVids.{not_type}
use Rattle.variable_tables.proofs.Grows.{store_grows, lawful_grows}
use Rattle.relation_reference.specs.Generalises.{side_of, BecomesAlways}
use Rattle.occurs_check.specs.Fates.{new_kind}
use Rattle.relation_reference.proofs.Clearing.{ty_eq, clear_grows, told_gives_way, alias_sort}
use Rattle.relation_reference.specs.RefCtxt.{store_in}
use Rattle.relation_reference.proofs.Marking.{gives_type, marks_grow}
use Rattle.relation_reference.proofs.Outside.{part_smaller}
use Rattle.relation_reference.proofs.Generalising.{memory_answers, stops_cycle, stops_beyond, gives_answers, generalises_no_type, not_type_sort, went_none, went_next, went_stops, went_whole, made_context, recalled_answers, met_answers, fails_any, fails_on, becomes_grows, alias_answers, none_kept}
use Rattle.relation_reference.proofs.context.variables.RefCtxt.+generalise.Goals as goal
use Rattle.relation_reference.proofs.context.variables.RefCtxt.+generalise.Goals.{generalise_parts-then-differs+in_ok-push}
use Rattle.relation_reference.proofs.context.variables.RefCtxt.+generalise.Goals.{generalise_parts-else-differs+else-not-is_same}
use Rattle.relation_reference.proofs.context.variables.RefCtxt.+generalise.Goals.{generalise_parts-else-differs+then-not-is_same+in_ok-parts+in_ok-push-2}
use Rattle.relation_reference.proofs.Becoming.{pushed_kept, pushed_tree, same_tree}
use Rattle.relation_folds.proofs.Visiting.{has_sort}

pub generalise_new-next_for-requires-clause-has : goal.generalise_new-next_for-requires-clause-has
generalise_new-next_for-requires-clause-has g t' c =
    let f = c.in-GivesWay.ensures in (f.1, f.6)

pub generalise_new-next_for-requires-clause-term_known : goal.generalise_new-next_for-requires-clause-term_known
generalise_new-next_for-requires-clause-term_known g t' c =
    c.requires.term_known

pub generalise_new-next_for-requires-clause-term_in : goal.generalise_new-next_for-requires-clause-term_in
generalise_new-next_for-requires-clause-term_in g t' c =
    c.requires.term_in

pub generalise_new-next_for-requires-clause-varies : goal.generalise_new-next_for-requires-clause-varies
generalise_new-next_for-requires-clause-varies g t' c = λ e.
    let f = c.in-GivesWay.ensures in
    let q = gives_type f.0 (f.5 ∙ sym f.6 ∙ e) in
    (q.0, f.2 ∙ ap leaf q.1)

pub generalise_new-returns-in_err-next_for-in-GivesWay : goal.generalise_new-returns-in_err-next_for-in-GivesWay
generalise_new-returns-in_err-next_for-in-GivesWay g t' c =
    let meaning = g.I.Interner.meaning in
    let m = meaning c.args.self.now.interner in
    let eq = met_eq g.I.Key.PartialEq.eq in
    let k = vid_kind c.args.target.now.vid in
    let i = vid_number c.args.target.now.vid in
    let u = c.args.target.now.universe.0 in
    let al = c.args.target.now.aliases in
    let sd = side_of c.args.inside in
    let eqt = ty_eq g.I.Key.PartialEq.eq in
    let was = store_of m c.args.self.now.inner in
    let p = c.args.term.now in
    let t = part_tree m p in
    let v = c.args.variance in
    let f = c.in_err-next_for-in-GivesWay.ensures in
    record {
      lawful = f.lawful;
      grown = f.grown;
      universe = ap (λ st. st.universe) f.refused;
      makes = subst (MakesUnbound u was) (sym f.refused) makes_none;
      rest = f.rest;
      clear = none_kept _ c.from_residual.result c.from_residual.ensures.0;
      answers = memory_answers meaning eq c.args.self.now c.next_for.new.self al k i u c.args.target.now.cyclic c.args.met.now c.args.met.now p (new_part sd v) c.from_residual.result
          c.from_residual.ensures.0 c.from_residual.ensures.1;
    }

pub generalise_new-generalise_parts-requires : goal.generalise_new-generalise_parts-requires
generalise_new-generalise_parts-requires g t' c κs within =
    let meaning = g.I.Interner.meaning in
    let m = meaning c.args.self.now.interner in
    let eq = met_eq g.I.Key.PartialEq.eq in
    let k = vid_kind c.args.target.now.vid in
    let i = vid_number c.args.target.now.vid in
    let u = c.args.target.now.universe.0 in
    let al = c.args.target.now.aliases in
    let sd = side_of c.args.inside in
    let eqt = ty_eq g.I.Key.PartialEq.eq in
    let was = store_of m c.args.self.now.inner in
    let p = c.args.term.now in
    let t = part_tree m p in
    let v = c.args.variance in
    let d = c.decreases in
    let small : 3 * size t < 3 * size t + 1 = omega arith in
    let lawful = c.requires.lawful in
    let low = c.requires.below in
    let there = c.requires.term_known in
    let is_in = c.requires.term_in in
    let sure = c.requires.sure in
    let found = c.requires.clear in
    let stays = c.in-ByParts.ensures in
    search rules

pub generalise_new-returns-in-Cycle : goal.generalise_new-returns-in-Cycle
generalise_new-returns-in-Cycle g t' c =
    let meaning = g.I.Interner.meaning in
    let m = meaning c.args.self.now.interner in
    let eq = met_eq g.I.Key.PartialEq.eq in
    let k = vid_kind c.args.target.now.vid in
    let i = vid_number c.args.target.now.vid in
    let u = c.args.target.now.universe.0 in
    let al = c.args.target.now.aliases in
    let sd = side_of c.args.inside in
    let eqt = ty_eq g.I.Key.PartialEq.eq in
    let was = store_of m c.args.self.now.inner in
    let p = c.args.term.now in
    let t = part_tree m p in
    let v = c.args.variance in
    record {
      lawful = c.requires.lawful;
      grown = stays_same m;
      universe = refl;
      makes = makes_none;
      rest = λ s made marks inner. marks;
      clear = tt;
      answers = stops_cycle meaning eq c.args.self.now c.args.self.now al k i u c.args.target.now.cyclic c.args.met.now c.args.met.now p (new_part sd v) c.in-Cycle.ensures;
    }

pub generalise_new-returns-in-Beyond : goal.generalise_new-returns-in-Beyond
generalise_new-returns-in-Beyond g t' c =
    let meaning = g.I.Interner.meaning in
    let m = meaning c.args.self.now.interner in
    let eq = met_eq g.I.Key.PartialEq.eq in
    let k = vid_kind c.args.target.now.vid in
    let i = vid_number c.args.target.now.vid in
    let u = c.args.target.now.universe.0 in
    let al = c.args.target.now.aliases in
    let sd = side_of c.args.inside in
    let eqt = ty_eq g.I.Key.PartialEq.eq in
    let was = store_of m c.args.self.now.inner in
    let p = c.args.term.now in
    let t = part_tree m p in
    let v = c.args.variance in
    let f = c.in-Beyond.ensures in
    record {
      lawful = c.requires.lawful;
      grown = stays_same m;
      universe = refl;
      makes = makes_none;
      rest = λ s made marks inner. marks;
      clear = tt;
      answers = stops_beyond meaning eq c.args.self.now c.args.self.now al k i u c.args.target.now.cyclic c.args.met.now c.args.met.now p (new_part sd v) f.0 f.1 f.2 f.3 f.4 f.5;
    }

pub generalise_new-returns-in_err-alias_gives_way-in-ByParts : goal.generalise_new-returns-in_err-alias_gives_way-in-ByParts
generalise_new-returns-in_err-alias_gives_way-in-ByParts g t' c =
    let meaning = g.I.Interner.meaning in
    let m = meaning c.args.self.now.interner in
    let eq = met_eq g.I.Key.PartialEq.eq in
    let k = vid_kind c.args.target.now.vid in
    let i = vid_number c.args.target.now.vid in
    let u = c.args.target.now.universe.0 in
    let al = c.args.target.now.aliases in
    let sd = side_of c.args.inside in
    let eqt = ty_eq g.I.Key.PartialEq.eq in
    let was = store_of m c.args.self.now.inner in
    let p = c.args.term.now in
    let t = part_tree m p in
    let v = c.args.variance in
    let from = c.from_residual-in_err-alias_gives_way-in-ByParts in
    record {
      lawful = c.requires.lawful;
      grown = stays_same m;
      universe = refl;
      makes = makes_none;
      rest = λ s made marks inner. marks;
      clear = none_kept _ from.result from.ensures.0;
      answers = memory_answers meaning eq c.args.self.now c.args.self.now al k i u c.args.target.now.cyclic c.args.met.now c.args.met.now p (new_part sd v) from.result
          from.ensures.0 from.ensures.1;
    }

pub generalise_new-returns-in_err-next_alias_var-in-ByParts : goal.generalise_new-returns-in_err-next_alias_var-in-ByParts
generalise_new-returns-in_err-next_alias_var-in-ByParts g t' c =
    let meaning = g.I.Interner.meaning in
    let m = meaning c.args.self.now.interner in
    let eq = met_eq g.I.Key.PartialEq.eq in
    let k = vid_kind c.args.target.now.vid in
    let i = vid_number c.args.target.now.vid in
    let u = c.args.target.now.universe.0 in
    let al = c.args.target.now.aliases in
    let sd = side_of c.args.inside in
    let eqt = ty_eq g.I.Key.PartialEq.eq in
    let was = store_of m c.args.self.now.inner in
    let p = c.args.term.now in
    let t = part_tree m p in
    let v = c.args.variance in
    let from = c.from_residual-in_err-next_alias_var-in-ByParts in
    let f = c.in_err-next_alias_var-in-ByParts.ensures in
    record {
      lawful = f.lawful;
      grown = f.grown;
      universe = ap (λ st. st.universe) f.refused;
      makes = subst (MakesUnbound u was) (sym f.refused) makes_none;
      rest = f.rest t;
      clear = none_kept _ from.result from.ensures.0;
      answers = memory_answers meaning eq c.args.self.now c.next_alias_var.new.self al k i u c.args.target.now.cyclic c.args.met.now c.args.met.now p (new_part sd v) from.result
          from.ensures.0 from.ensures.1;
    }

pub generalise_new-returns-then-branch : goal.generalise_new-returns-then-branch
generalise_new-returns-then-branch g t' c =
    let meaning = g.I.Interner.meaning in
    let m = meaning c.args.self.now.interner in
    let eq = met_eq g.I.Key.PartialEq.eq in
    let k = vid_kind c.args.target.now.vid in
    let i = vid_number c.args.target.now.vid in
    let u = c.args.target.now.universe.0 in
    let al = c.args.target.now.aliases in
    let sd = side_of c.args.inside in
    let eqt = ty_eq g.I.Key.PartialEq.eq in
    let was = store_of m c.args.self.now.inner in
    let p = c.args.term.now in
    let t = part_tree m p in
    let v = c.args.variance in
    let r = c.in_ok-next_alias_var-in-ByParts.ensures in
    let h = c.in_ok-alias_gives_way-in-ByParts in
    let w = r.makes in
    let gives = told_gives_way al k i u sd t h.field-0 h.ensures.tells (search rules) in
    let sorted : Sorted m = g.met.I.Interner.sorted c.args.self.now.interner in
    let sort = alias_sort al t gives.of_alias in
    record {
      lawful = r.lawful;
      grown = r.grown;
      universe = (w.1).same_universe;
      makes = makes_one makes_none (λ o. o) w.1;
      rest = r.rest t;
      clear = clear_grows r.grown eqt k i u c.alias_gives_way.new.clear h.ensures.clear;
      answers = alias_answers meaning eq c.args.self.now c.next_alias_var.new.self al k i u c.args.target.now.cyclic c.args.met.now c.args.met.now p sd v c.in_ok-next_alias_var-in-ByParts.field-0 w.0 c.requires.sure
          r.grown gives w.1 w.2 r.sure (r.sort ∙ sym sort ∙ sort_known m sorted p c.requires.term_known);
    }

pub generalise_new-returns-in_ok-next_for-in-GivesWay : goal.generalise_new-returns-in_ok-next_for-in-GivesWay
generalise_new-returns-in_ok-next_for-in-GivesWay g t' c =
    let meaning = g.I.Interner.meaning in
    let m = meaning c.args.self.now.interner in
    let eq = met_eq g.I.Key.PartialEq.eq in
    let k = vid_kind c.args.target.now.vid in
    let i = vid_number c.args.target.now.vid in
    let u = c.args.target.now.universe.0 in
    let al = c.args.target.now.aliases in
    let sd = side_of c.args.inside in
    let eqt = ty_eq g.I.Key.PartialEq.eq in
    let was = store_of m c.args.self.now.inner in
    let p = c.args.term.now in
    let t = part_tree m p in
    let v = c.args.variance in
    let f = c.in-GivesWay.ensures in
    let r = c.in_ok-next_for-in-GivesWay.ensures in
    let w = r.makes f.1 f.6 in
    record {
      lawful = r.lawful;
      grown = r.grown;
      universe = (w.1).same_universe;
      makes = makes_one makes_none (gives_no_number f.0 f.1 f.5) w.1;
      rest = r.rest;
      clear = clear_grows r.grown eqt k i u c.args.clear.now c.requires.clear;
      answers = gives_answers meaning eq c.args.self.now c.next_for.new.self al k i u c.args.target.now.cyclic c.args.met.now c.args.met.now p sd v f.0 f.1 c.in_ok-next_for-in-GivesWay.field-0 w.0 c.requires.sure
          r.grown f.2 f.3 f.4 f.5 w.1 w.2 r.sure r.sort;
    }

pub generalise_part-generalise_new-requires : goal.generalise_part-generalise_new-requires
generalise_part-generalise_new-requires g t' c κs within =
    let meaning = g.I.Interner.meaning in
    let m = meaning c.args.self.now.interner in
    let eq = met_eq g.I.Key.PartialEq.eq in
    let k = vid_kind c.args.target.now.vid in
    let i = vid_number c.args.target.now.vid in
    let u = c.args.target.now.universe.0 in
    let al = c.args.target.now.aliases in
    let sd = side_of c.args.inside in
    let eqt = ty_eq g.I.Key.PartialEq.eq in
    let was = store_of m c.args.self.now.inner in
    let p = c.args.term.now in
    let t = part_tree m p in
    let v = c.args.variance in
    let d = c.decreases in
    let small : 3 * size t + 1 < 3 * size t + 2 = omega arith in
    let lawful = c.requires.lawful in
    let low = c.requires.below in
    let there = c.requires.term_known in
    let is_in = c.requires.term_in in
    let sure = c.requires.sure in
    let found = c.requires.clear in
    search rules

pub generalise_part-generalise_new-requires-2 : goal.generalise_part-generalise_new-requires-2
generalise_part-generalise_new-requires-2 g t' c κs within =
    let meaning = g.I.Interner.meaning in
    let m = meaning c.args.self.now.interner in
    let eq = met_eq g.I.Key.PartialEq.eq in
    let k = vid_kind c.args.target.now.vid in
    let i = vid_number c.args.target.now.vid in
    let u = c.args.target.now.universe.0 in
    let al = c.args.target.now.aliases in
    let sd = side_of c.args.inside in
    let eqt = ty_eq g.I.Key.PartialEq.eq in
    let was = store_of m c.args.self.now.inner in
    let p = c.args.term.now in
    let t = part_tree m p in
    let v = c.args.variance in
    let d = c.decreases in
    let small : 3 * size t + 1 < 3 * size t + 2 = omega arith in
    let lawful = c.requires.lawful in
    let low = c.requires.below in
    let there = c.requires.term_known in
    let is_in = c.requires.term_in in
    let sure = c.requires.sure in
    let found = c.requires.clear in
    search rules

pub generalise_part-returns-in_default : goal.generalise_part-returns-in_default
generalise_part-returns-in_default g t' c =
    let meaning = g.I.Interner.meaning in
    let m = meaning c.args.self.now.interner in
    let eq = met_eq g.I.Key.PartialEq.eq in
    let k = vid_kind c.args.target.now.vid in
    let i = vid_number c.args.target.now.vid in
    let u = c.args.target.now.universe.0 in
    let al = c.args.target.now.aliases in
    let sd = side_of c.args.inside in
    let eqt = ty_eq g.I.Key.PartialEq.eq in
    let was = store_of m c.args.self.now.inner in
    let p = c.args.term.now in
    let t = part_tree m p in
    let v = c.args.variance in
    let sorted : Sorted m = g.met.I.Interner.sorted c.args.self.now.interner in
    generalises_no_type meaning eq c.args.self.now c.generalise_new.new.self al k i u c.args.target.now.cyclic c.args.met.now c.generalise_new.new.met p eqt c.generalise_new.new.clear sd v
    (not_type_sort t (λ e. not_type p c.in_default.not-Ty (sym (sort_known m sorted p c.requires.term_known) ∙ e)))
    c.generalise_new.result c.generalise_new.ensures

pub generalise_parts-loop-i-init : goal.generalise_parts-loop-i-init
generalise_parts-loop-i-init g t' c =
    let meaning = g.I.Interner.meaning in
    let m = meaning c.args.self.now.interner in
    let eq = met_eq g.I.Key.PartialEq.eq in
    let k = vid_kind c.args.target.now.vid in
    let i = vid_number c.args.target.now.vid in
    let u = c.args.target.now.universe.0 in
    let al = c.args.target.now.aliases in
    let sd = side_of c.args.inside in
    let eqt = ty_eq g.I.Key.PartialEq.eq in
    let was = store_of m c.args.self.now.inner in
    let p = c.args.term.now in
    let t = part_tree m p in
    let v = c.args.variance in
    record {
      lawful = c.requires.lawful;
      grown = stays_same m;
      universe = refl;
      makes = makes_none;
      rest = λ s made marks inner. marks;
      all = c.requires.sure;
      found = c.requires.clear;
      kept = λ h. absurd (false≢true h);
      went = went_none eq m was al k i u sd v c.args.met.now t nil refl;
    }

pub generalise_parts-member-next-requires-clause-list_known : goal.generalise_parts-member-next-requires-clause-list_known
generalise_parts-member-next-requires-clause-list_known g t' c =
    let m = g.I.Interner.meaning c.args.self.now.interner in
    let n = g.I.Interner.meaning c.loop-i.self.interner in
    let ps = c.parts_of-old.result in
    let sure = c.parts_of-old.ensures.sure in
    knows_as (parts_tree m ps) (parts_tree n ps) (stays_parts c.loop-i.invariant.grown ps sure) sure

pub generalise_parts-member-next-requires-clause-in_bounds : goal.generalise_parts-member-next-requires-clause-in_bounds
generalise_parts-member-next-requires-clause-in_bounds g t' c =
    let m = g.I.Interner.meaning c.args.self.now.interner in
    let ps = c.parts_of-old.result in
    let j = c.loop-i.i in
    let counted = c.member_count-i-end.ensures.counts in
    let test = c.loop-i-test.true in
    let below : j < count (parts_tree m ps) = omega (arith, counted, test) in
    subst (λ w. j < count w) (sym (stays_parts c.loop-i.invariant.grown ps c.parts_of-old.ensures.sure)) below

pub generalise_parts-variance_of-at-requires-clause-term_known : goal.generalise_parts-variance_of-at-requires-clause-term_known
generalise_parts-variance_of-at-requires-clause-term_known g t' c =
    let meaning = g.I.Interner.meaning in
    let m = meaning c.args.self.now.interner in
    let eq = met_eq g.I.Key.PartialEq.eq in
    let k = vid_kind c.args.target.now.vid in
    let i = vid_number c.args.target.now.vid in
    let u = c.args.target.now.universe.0 in
    let al = c.args.target.now.aliases in
    let sd = side_of c.args.inside in
    let eqt = ty_eq g.I.Key.PartialEq.eq in
    let was = store_of m c.args.self.now.inner in
    let p = c.args.term.now in
    let t = part_tree m p in
    let v = c.args.variance in
    let n = meaning c.loop-i.self.interner in
    let now = store_of n c.loop-i.self.inner in
    let inv = c.loop-i.invariant in
    let e : part_tree n p ≡ t = stays_part inv.grown p c.requires.term_known in
    let j = c.loop-i.i in
    let us = cond c.loop-i.differs (list_tree (part_tree n) c.loop-i.parts.items) (firsts j (parts_of t)) in
    knows_as t (part_tree n p) e c.requires.term_known

pub generalise_parts-variance_of-at-requires-clause-in_bounds : goal.generalise_parts-variance_of-at-requires-clause-in_bounds
generalise_parts-variance_of-at-requires-clause-in_bounds g t' c =
    let meaning = g.I.Interner.meaning in
    let m = meaning c.args.self.now.interner in
    let eq = met_eq g.I.Key.PartialEq.eq in
    let k = vid_kind c.args.target.now.vid in
    let i = vid_number c.args.target.now.vid in
    let u = c.args.target.now.universe.0 in
    let al = c.args.target.now.aliases in
    let sd = side_of c.args.inside in
    let eqt = ty_eq g.I.Key.PartialEq.eq in
    let was = store_of m c.args.self.now.inner in
    let p = c.args.term.now in
    let t = part_tree m p in
    let v = c.args.variance in
    let n = meaning c.loop-i.self.interner in
    let now = store_of n c.loop-i.self.inner in
    let inv = c.loop-i.invariant in
    let e : part_tree n p ≡ t = stays_part inv.grown p c.requires.term_known in
    let j = c.loop-i.i in
    let us = cond c.loop-i.differs (list_tree (part_tree n) c.loop-i.parts.items) (firsts j (parts_of t)) in
    let counted = c.member_count-i-end.ensures.counts ∙ ap count c.parts_of-old.ensures.means in
    let test = c.loop-i-test.true in
    let below : j < count (parts_of t) = omega (arith, counted, test) in
    subst (λ w. j < count (parts_of w)) (sym e) below

pub generalise_parts-generalise_part-requires : goal.generalise_parts-generalise_part-requires
generalise_parts-generalise_part-requires g t' c κs within =
    let meaning = g.I.Interner.meaning in
    let m = meaning c.args.self.now.interner in
    let eq = met_eq g.I.Key.PartialEq.eq in
    let k = vid_kind c.args.target.now.vid in
    let i = vid_number c.args.target.now.vid in
    let u = c.args.target.now.universe.0 in
    let al = c.args.target.now.aliases in
    let sd = side_of c.args.inside in
    let eqt = ty_eq g.I.Key.PartialEq.eq in
    let was = store_of m c.args.self.now.inner in
    let p = c.args.term.now in
    let t = part_tree m p in
    let v = c.args.variance in
    let n = meaning c.loop-i.self.interner in
    let now = store_of n c.loop-i.self.inner in
    let inv = c.loop-i.invariant in
    let e : part_tree n p ≡ t = stays_part inv.grown p c.requires.term_known in
    let j = c.loop-i.i in
    let us = cond c.loop-i.differs (list_tree (part_tree n) c.loop-i.parts.items) (firsts j (parts_of t)) in
    let counted = c.member_count-i-end.ensures.counts ∙ ap count c.parts_of-old.ensures.means in
    let test = c.loop-i-test.true in
    let below : j < count (parts_of t) = omega (arith, counted, test) in
    let z = c.member-next.result in
    let at : part_tree n z ≡ nth j (parts_of t) = c.member-next.ensures.means ∙ ap (nth j) (stays_parts inv.grown c.parts_of-old.result c.parts_of-old.ensures.sure ∙ c.parts_of-old.ensures.means) in
    let d = c.decreases in
    let f = part_smaller t j below in
    let s = ap size at in
    let small : 3 * size (part_tree n z) + 2 < 3 * size t = omega (arith, f, s) in
    let lawful = inv.lawful in
    let low : u ≤ c.loop-i.self.inner.universe.0 = (let a = c.requires.below in let b = inv.universe in omega (arith, a, b)) in
    let there = c.member-next.ensures.sure in
    let is_in : InContext now (part_tree n z) = made_context u was now c.requires.lawful.sound c.requires.below inv.makes (part_tree n z)
    (subst (InContext was) (sym at) (context_part was t j (subst IsList c.parts_of-old.ensures.means c.member_count-i-end.ensures.is_list) c.requires.term_in)) in
    let sure = inv.all in
    let found = inv.found in
    search rules

pub generalise_new-fate_of-requires-clause-lawful : goal.generalise_new-fate_of-requires-clause-lawful
generalise_new-fate_of-requires-clause-lawful g t' c =
    c.requires.lawful

pub generalise_new-fate_of-requires-clause-term_known : goal.generalise_new-fate_of-requires-clause-term_known
generalise_new-fate_of-requires-clause-term_known g t' c =
    c.requires.term_known

pub generalise_new-fate_of-requires-clause-term_in : goal.generalise_new-fate_of-requires-clause-term_in
generalise_new-fate_of-requires-clause-term_in g t' c =
    c.requires.term_in

pub generalise_new-alias_gives_way-requires-clause-lawful : goal.generalise_new-alias_gives_way-requires-clause-lawful
generalise_new-alias_gives_way-requires-clause-lawful g t' c =
    c.requires.lawful

pub generalise_new-alias_gives_way-requires-clause-term_known : goal.generalise_new-alias_gives_way-requires-clause-term_known
generalise_new-alias_gives_way-requires-clause-term_known g t' c =
    c.requires.term_known

pub generalise_new-alias_gives_way-requires-clause-term_in : goal.generalise_new-alias_gives_way-requires-clause-term_in
generalise_new-alias_gives_way-requires-clause-term_in g t' c =
    c.requires.term_in

pub generalise_new-alias_gives_way-requires-clause-clear : goal.generalise_new-alias_gives_way-requires-clause-clear
generalise_new-alias_gives_way-requires-clause-clear g t' c =
    c.requires.clear

pub generalise_new-next_for-requires-clause-lawful : goal.generalise_new-next_for-requires-clause-lawful
generalise_new-next_for-requires-clause-lawful g t' c =
    c.requires.lawful

pub generalise_new-next_for-requires-clause-below : goal.generalise_new-next_for-requires-clause-below
generalise_new-next_for-requires-clause-below g t' c =
    c.requires.below

pub generalise_new-returns-else-branch : goal.generalise_new-returns-else-branch
generalise_new-returns-else-branch g t' c =
    c.generalise_parts.ensures

pub generalise_part-recall_type-requires-clause-known : goal.generalise_part-recall_type-requires-clause-known
generalise_part-recall_type-requires-clause-known g t' c =
    let m = g.I.Interner.meaning c.args.self.now.interner in
    subst (λ q. IsTrue (known (part_tree m q))) c.in-Ty.is c.requires.term_known

pub generalise_part-recall_type-requires-clause-sure : goal.generalise_part-recall_type-requires-clause-sure
generalise_part-recall_type-requires-clause-sure g t' c =
    c.requires.sure

pub generalise_part-returns-in-Some : goal.generalise_part-returns-in-Some
generalise_part-returns-in-Some g t' c =
    let meaning = g.I.Interner.meaning in
    let m = meaning c.args.self.now.interner in
    let eq = met_eq g.I.Key.PartialEq.eq in
    let k = vid_kind c.args.target.now.vid in
    let i = vid_number c.args.target.now.vid in
    let u = c.args.target.now.universe.0 in
    let al = c.args.target.now.aliases in
    let sd = side_of c.args.inside in
    let eqt = ty_eq g.I.Key.PartialEq.eq in
    let was = store_of m c.args.self.now.inner in
    let p = c.args.term.now in
    let t = part_tree m p in
    let v = c.args.variance in
    let sorted : Sorted m = g.met.I.Interner.sorted c.args.self.now.interner in
    let sort = sort_known m sorted p c.requires.term_known ∙ ap part_sort c.in-Ty.is in
    record {
      lawful = c.requires.lawful;
      grown = stays_same m;
      universe = refl;
      makes = makes_none;
      rest = λ s made marks inner. marks;
      clear = c.requires.clear;
      answers = recalled_answers meaning eq c.args.self.now c.args.self.now al k i u c.args.target.now.cyclic c.args.met.now c.args.met.now p sd v (Ty c.in-Some.became) c.in-Ty.ty c.in-Some.became
          c.in-Ty.is refl sort c.in-Some.ensures.sure c.requires.sure c.in-Some.ensures.met;
    }

pub generalise_part-returns-in_err-became : goal.generalise_part-returns-in_err-became
generalise_part-returns-in_err-became g t' c =
    let meaning = g.I.Interner.meaning in
    let m = meaning c.args.self.now.interner in
    let eq = met_eq g.I.Key.PartialEq.eq in
    let k = vid_kind c.args.target.now.vid in
    let i = vid_number c.args.target.now.vid in
    let u = c.args.target.now.universe.0 in
    let al = c.args.target.now.aliases in
    let sd = side_of c.args.inside in
    let eqt = ty_eq g.I.Key.PartialEq.eq in
    let was = store_of m c.args.self.now.inner in
    let p = c.args.term.now in
    let t = part_tree m p in
    let v = c.args.variance in
    let h = c.in_err-became.ensures in
    let f = c.in_err-became.field-0.0 in
    record {
      lawful = h.lawful;
      grown = h.grown;
      universe = h.universe;
      makes = h.makes;
      rest = h.rest;
      clear = none_kept _ c.from_residual.result c.from_residual.ensures.0;
      answers = fails_any meaning eq c.args.self.now c.generalise_new-2.new.self al k i u c.args.target.now.cyclic c.args.met.now c.generalise_new-2.new.met p sd v (Err f)
          c.from_residual.result f refl (as_err c.from_residual.result f c.from_residual.ensures.0 c.from_residual.ensures.1) h.answers;
    }

pub generalise_part-expect_ty-requires : goal.generalise_part-expect_ty-requires
generalise_part-expect_ty-requires g t' c =
    c.in_ok-became.ensures.answers.1 ∙ ap part_sort c.in-Ty.is

pub generalise_part-keep_type-requires-clause-ty_known : goal.generalise_part-keep_type-requires-clause-ty_known
generalise_part-keep_type-requires-clause-ty_known g t' c =
    let meaning = g.I.Interner.meaning in
    let m = meaning c.args.self.now.interner in
    let eq = met_eq g.I.Key.PartialEq.eq in
    let k = vid_kind c.args.target.now.vid in
    let i = vid_number c.args.target.now.vid in
    let u = c.args.target.now.universe.0 in
    let al = c.args.target.now.aliases in
    let sd = side_of c.args.inside in
    let eqt = ty_eq g.I.Key.PartialEq.eq in
    let was = store_of m c.args.self.now.inner in
    let p = c.args.term.now in
    let t = part_tree m p in
    let v = c.args.variance in
    let n = meaning c.generalise_new-2.new.self.interner in
    let h = c.in_ok-became.ensures in
    let there = subst (λ q. IsTrue (known (part_tree m q))) c.in-Ty.is c.requires.term_known in
    knows_as (m.ty c.in-Ty.ty) (n.ty c.in-Ty.ty) (h.grown.ty c.in-Ty.ty there) there

pub generalise_part-keep_type-requires-clause-became_known : goal.generalise_part-keep_type-requires-clause-became_known
generalise_part-keep_type-requires-clause-became_known g t' c =
    let meaning = g.I.Interner.meaning in
    let m = meaning c.args.self.now.interner in
    let eq = met_eq g.I.Key.PartialEq.eq in
    let k = vid_kind c.args.target.now.vid in
    let i = vid_number c.args.target.now.vid in
    let u = c.args.target.now.universe.0 in
    let al = c.args.target.now.aliases in
    let sd = side_of c.args.inside in
    let eqt = ty_eq g.I.Key.PartialEq.eq in
    let was = store_of m c.args.self.now.inner in
    let p = c.args.term.now in
    let t = part_tree m p in
    let v = c.args.variance in
    let n = meaning c.generalise_new-2.new.self.interner in
    let h = c.in_ok-became.ensures in
    let there = subst (λ q. IsTrue (known (part_tree m q))) c.in-Ty.is c.requires.term_known in
    subst (λ q. IsTrue (known (part_tree n q))) (sym c.expect_ty.ensures) h.answers.0

pub generalise_part-keep_type-requires-clause-sure : goal.generalise_part-keep_type-requires-clause-sure
generalise_part-keep_type-requires-clause-sure g t' c =
    let meaning = g.I.Interner.meaning in
    let m = meaning c.args.self.now.interner in
    let eq = met_eq g.I.Key.PartialEq.eq in
    let k = vid_kind c.args.target.now.vid in
    let i = vid_number c.args.target.now.vid in
    let u = c.args.target.now.universe.0 in
    let al = c.args.target.now.aliases in
    let sd = side_of c.args.inside in
    let eqt = ty_eq g.I.Key.PartialEq.eq in
    let was = store_of m c.args.self.now.inner in
    let p = c.args.term.now in
    let t = part_tree m p in
    let v = c.args.variance in
    let n = meaning c.generalise_new-2.new.self.interner in
    let h = c.in_ok-became.ensures in
    let there = subst (λ q. IsTrue (known (part_tree m q))) c.in-Ty.is c.requires.term_known in
    h.answers.2

pub generalise_part-returns-in_err-keep_type : goal.generalise_part-returns-in_err-keep_type
generalise_part-returns-in_err-keep_type g t' c =
    let meaning = g.I.Interner.meaning in
    let m = meaning c.args.self.now.interner in
    let eq = met_eq g.I.Key.PartialEq.eq in
    let k = vid_kind c.args.target.now.vid in
    let i = vid_number c.args.target.now.vid in
    let u = c.args.target.now.universe.0 in
    let al = c.args.target.now.aliases in
    let sd = side_of c.args.inside in
    let eqt = ty_eq g.I.Key.PartialEq.eq in
    let was = store_of m c.args.self.now.inner in
    let p = c.args.term.now in
    let t = part_tree m p in
    let v = c.args.variance in
    let n = meaning c.generalise_new-2.new.self.interner in
    let h = c.in_ok-became.ensures in
    let there = subst (λ q. IsTrue (known (part_tree m q))) c.in-Ty.is c.requires.term_known in
    record {
      lawful = h.lawful;
      grown = h.grown;
      universe = h.universe;
      makes = h.makes;
      rest = h.rest;
      clear = none_kept _ c.from_residual-in_err-keep_type.result c.from_residual-in_err-keep_type.ensures.0;
      answers = memory_answers meaning eq c.args.self.now c.generalise_new-2.new.self al k i u c.args.target.now.cyclic c.args.met.now c.keep_type.new.met p (any_part sd v) c.from_residual-in_err-keep_type.result
          c.from_residual-in_err-keep_type.ensures.0 c.from_residual-in_err-keep_type.ensures.1;
    }

pub generalise_part-returns : goal.generalise_part-returns
generalise_part-returns g t' c =
    let meaning = g.I.Interner.meaning in
    let m = meaning c.args.self.now.interner in
    let eq = met_eq g.I.Key.PartialEq.eq in
    let k = vid_kind c.args.target.now.vid in
    let i = vid_number c.args.target.now.vid in
    let u = c.args.target.now.universe.0 in
    let al = c.args.target.now.aliases in
    let sd = side_of c.args.inside in
    let eqt = ty_eq g.I.Key.PartialEq.eq in
    let was = store_of m c.args.self.now.inner in
    let p = c.args.term.now in
    let t = part_tree m p in
    let v = c.args.variance in
    let n = meaning c.generalise_new-2.new.self.interner in
    let h = c.in_ok-became.ensures in
    let there = subst (λ q. IsTrue (known (part_tree m q))) c.in-Ty.is c.requires.term_known in
    let sorted : Sorted m = g.met.I.Interner.sorted c.args.self.now.interner in
    let sort = sort_known m sorted p c.requires.term_known ∙ ap part_sort c.in-Ty.is in
    record {
      lawful = h.lawful;
      grown = h.grown;
      universe = h.universe;
      makes = h.makes;
      rest = h.rest;
      clear = h.clear;
      answers = met_answers meaning eq c.args.self.now c.generalise_new-2.new.self al k i u c.args.target.now.cyclic c.args.met.now c.generalise_new-2.new.met p c.args.inside v c.keep_type.new.met c.in_ok-became.became
          c.in-Ty.ty c.expect_ty.result c.in-Ty.is (sym c.expect_ty.ensures) sort (h.grown.ty c.in-Ty.ty there) c.in_ok-keep_type.ensures.sure
          c.in_ok-keep_type.ensures.keeps c.in_default-recall_type.ensures.not_met h.answers;
    }

pub generalise_parts-member_count-i-end-requires : goal.generalise_parts-member_count-i-end-requires
generalise_parts-member_count-i-end-requires g t' c =
    c.parts_of-old.ensures.sure

pub generalise_parts-returns-in_err-became : goal.generalise_parts-returns-in_err-became
generalise_parts-returns-in_err-became g t' c =
    let meaning = g.I.Interner.meaning in
    let m = meaning c.args.self.now.interner in
    let eq = met_eq g.I.Key.PartialEq.eq in
    let k = vid_kind c.args.target.now.vid in
    let i = vid_number c.args.target.now.vid in
    let u = c.args.target.now.universe.0 in
    let al = c.args.target.now.aliases in
    let sd = side_of c.args.inside in
    let eqt = ty_eq g.I.Key.PartialEq.eq in
    let was = store_of m c.args.self.now.inner in
    let p = c.args.term.now in
    let t = part_tree m p in
    let v = c.args.variance in
    let n = meaning c.loop-i.self.interner in
    let now = store_of n c.loop-i.self.inner in
    let inv = c.loop-i.invariant in
    let e : part_tree n p ≡ t = stays_part inv.grown p c.requires.term_known in
    let j = c.loop-i.i in
    let us = cond c.loop-i.differs (list_tree (part_tree n) c.loop-i.parts.items) (firsts j (parts_of t)) in
    let counted = c.member_count-i-end.ensures.counts ∙ ap count c.parts_of-old.ensures.means in
    let test = c.loop-i-test.true in
    let below : j < count (parts_of t) = omega (arith, counted, test) in
    let z = c.member-next.result in
    let at : part_tree n z ≡ nth j (parts_of t) = c.member-next.ensures.means ∙ ap (nth j) (stays_parts inv.grown c.parts_of-old.result c.parts_of-old.ensures.sure ∙ c.parts_of-old.ensures.means) in
    let o = meaning c.generalise_part.new.self.interner in
    let then = store_of o c.generalise_part.new.self.inner in
    let h = c.in_err-became.ensures in
    let f = c.in_err-became.field-0.0 in
    record {
      lawful = h.lawful;
      grown = extends_on inv.grown h.grown;
      universe = h.universe ∙ inv.universe;
      makes = makes_then inv.makes h.makes;
      rest = λ s made marks inner. h.rest s
          (λ a b. (adds c.requires.lawful.sound c.requires.below inv.makes).later.grows type_var a (made a b))
          (inv.rest s made marks inner) (subst (InContext (store_in meaning s)) (sym at)
          (context_part (store_in meaning s) t j (subst IsList c.parts_of-old.ensures.means c.member_count-i-end.ensures.is_list) inner));
      clear = none_kept _ c.from_residual.result c.from_residual.ensures.0;
      answers = fails_on eq m n o was now then al k i u c.args.target.now.cyclic (any_part (side_of c.parts_inside-within.result) c.variance_of-at.result) (new_part sd v) c.args.met.now c.loop-i.met
          c.generalise_part.new.met (part_tree n z) t p z f h.answers
          (λ e2. went_stops eq m n o was now then al k i u sd v c.args.met.now c.loop-i.met c.generalise_part.new.met t c.requires.goes
          (subst IsList c.parts_of-old.ensures.means c.member_count-i-end.ensures.is_list) j below us inv.went inv.grown (part_tree n z) at
          (side_of c.parts_inside-within.result) c.parts_inside-within.ensures c.variance_of-at.result)
          c.from_residual.result (as_err c.from_residual.result f c.from_residual.ensures.0 c.from_residual.ensures.1);
    }

pub generalise_parts-is_same-requires-clause-part_known : goal.generalise_parts-is_same-requires-clause-part_known
generalise_parts-is_same-requires-clause-part_known g t' c =
    c.in_ok-became.ensures.answers.0

pub generalise_parts-is_same-requires-clause-other_known : goal.generalise_parts-is_same-requires-clause-other_known
generalise_parts-is_same-requires-clause-other_known g t' c =
    let n = g.I.Interner.meaning c.loop-i.self.interner in
    let o = g.I.Interner.meaning c.generalise_part.new.self.interner in
    let z = c.member-next.result in
    knows_as (part_tree n z) (part_tree o z) (stays_part c.in_ok-became.ensures.grown z c.member-next.ensures.sure)
    c.member-next.ensures.sure

pub generalise_parts-is_same-requires-clause-same_sort : goal.generalise_parts-is_same-requires-clause-same_sort
generalise_parts-is_same-requires-clause-same_sort g t' c =
    sym c.in_ok-became.ensures.answers.1

pub generalise_parts-returns-in_err-push : goal.generalise_parts-returns-in_err-push
generalise_parts-returns-in_err-push g t' c =
    let meaning = g.I.Interner.meaning in
    let m = meaning c.args.self.now.interner in
    let eq = met_eq g.I.Key.PartialEq.eq in
    let k = vid_kind c.args.target.now.vid in
    let i = vid_number c.args.target.now.vid in
    let u = c.args.target.now.universe.0 in
    let al = c.args.target.now.aliases in
    let sd = side_of c.args.inside in
    let eqt = ty_eq g.I.Key.PartialEq.eq in
    let was = store_of m c.args.self.now.inner in
    let p = c.args.term.now in
    let t = part_tree m p in
    let v = c.args.variance in
    let n = meaning c.loop-i.self.interner in
    let now = store_of n c.loop-i.self.inner in
    let inv = c.loop-i.invariant in
    let e : part_tree n p ≡ t = stays_part inv.grown p c.requires.term_known in
    let j = c.loop-i.i in
    let us = cond c.loop-i.differs (list_tree (part_tree n) c.loop-i.parts.items) (firsts j (parts_of t)) in
    let at : part_tree n c.member-next.result ≡ nth j (parts_of t) = c.member-next.ensures.means ∙ ap (nth j) (stays_parts inv.grown c.parts_of-old.result c.parts_of-old.ensures.sure ∙ c.parts_of-old.ensures.means) in
    let h = c.in_ok-became.ensures in
    record {
      lawful = h.lawful;
      grown = extends_on inv.grown h.grown;
      universe = h.universe ∙ inv.universe;
      makes = makes_then inv.makes h.makes;
      rest = λ s made marks inner. h.rest s
          (λ a b. (adds c.requires.lawful.sound c.requires.below inv.makes).later.grows type_var a (made a b))
          (inv.rest s made marks inner) (subst (InContext (store_in meaning s)) (sym at)
          (context_part (store_in meaning s) t j (subst IsList c.parts_of-old.ensures.means c.member_count-i-end.ensures.is_list) inner));
      clear = none_kept _ c.from_residual-in_err-push.result c.from_residual-in_err-push.ensures.0;
      answers = memory_answers meaning eq c.args.self.now c.generalise_part.new.self al k i u c.args.target.now.cyclic c.args.met.now c.generalise_part.new.met p (new_part sd v) c.from_residual-in_err-push.result
          c.from_residual-in_err-push.ensures.0 c.from_residual-in_err-push.ensures.1;
    }

pub generalise_parts-returns-in_err-parts : goal.generalise_parts-returns-in_err-parts
generalise_parts-returns-in_err-parts g t' c =
    let meaning = g.I.Interner.meaning in
    let m = meaning c.args.self.now.interner in
    let eq = met_eq g.I.Key.PartialEq.eq in
    let k = vid_kind c.args.target.now.vid in
    let i = vid_number c.args.target.now.vid in
    let u = c.args.target.now.universe.0 in
    let al = c.args.target.now.aliases in
    let sd = side_of c.args.inside in
    let eqt = ty_eq g.I.Key.PartialEq.eq in
    let was = store_of m c.args.self.now.inner in
    let p = c.args.term.now in
    let t = part_tree m p in
    let v = c.args.variance in
    let n = meaning c.loop-i.self.interner in
    let now = store_of n c.loop-i.self.inner in
    let inv = c.loop-i.invariant in
    let e : part_tree n p ≡ t = stays_part inv.grown p c.requires.term_known in
    let j = c.loop-i.i in
    let us = cond c.loop-i.differs (list_tree (part_tree n) c.loop-i.parts.items) (firsts j (parts_of t)) in
    let at : part_tree n c.member-next.result ≡ nth j (parts_of t) = c.member-next.ensures.means ∙ ap (nth j) (stays_parts inv.grown c.parts_of-old.result c.parts_of-old.ensures.sure ∙ c.parts_of-old.ensures.means) in
    let h = c.in_ok-became.ensures in
    record {
      lawful = h.lawful;
      grown = extends_on inv.grown h.grown;
      universe = h.universe ∙ inv.universe;
      makes = makes_then inv.makes h.makes;
      rest = λ s made marks inner. h.rest s
          (λ a b. (adds c.requires.lawful.sound c.requires.below inv.makes).later.grows type_var a (made a b))
          (inv.rest s made marks inner) (subst (InContext (store_in meaning s)) (sym at)
          (context_part (store_in meaning s) t j (subst IsList c.parts_of-old.ensures.means c.member_count-i-end.ensures.is_list) inner));
      clear = none_kept _ c.from_residual-in_err-parts.result c.from_residual-in_err-parts.ensures.0;
      answers = memory_answers meaning eq c.args.self.now c.generalise_part.new.self al k i u c.args.target.now.cyclic c.args.met.now c.generalise_part.new.met p (new_part sd v) c.from_residual-in_err-parts.result
          c.from_residual-in_err-parts.ensures.0 c.from_residual-in_err-parts.ensures.1;
    }

pub generalise_parts-returns-in_err-push-2 : goal.generalise_parts-returns-in_err-push-2
generalise_parts-returns-in_err-push-2 g t' c =
    let meaning = g.I.Interner.meaning in
    let m = meaning c.args.self.now.interner in
    let eq = met_eq g.I.Key.PartialEq.eq in
    let k = vid_kind c.args.target.now.vid in
    let i = vid_number c.args.target.now.vid in
    let u = c.args.target.now.universe.0 in
    let al = c.args.target.now.aliases in
    let sd = side_of c.args.inside in
    let eqt = ty_eq g.I.Key.PartialEq.eq in
    let was = store_of m c.args.self.now.inner in
    let p = c.args.term.now in
    let t = part_tree m p in
    let v = c.args.variance in
    let n = meaning c.loop-i.self.interner in
    let now = store_of n c.loop-i.self.inner in
    let inv = c.loop-i.invariant in
    let e : part_tree n p ≡ t = stays_part inv.grown p c.requires.term_known in
    let j = c.loop-i.i in
    let us = cond c.loop-i.differs (list_tree (part_tree n) c.loop-i.parts.items) (firsts j (parts_of t)) in
    let at : part_tree n c.member-next.result ≡ nth j (parts_of t) = c.member-next.ensures.means ∙ ap (nth j) (stays_parts inv.grown c.parts_of-old.result c.parts_of-old.ensures.sure ∙ c.parts_of-old.ensures.means) in
    let h = c.in_ok-became.ensures in
    record {
      lawful = h.lawful;
      grown = extends_on inv.grown h.grown;
      universe = h.universe ∙ inv.universe;
      makes = makes_then inv.makes h.makes;
      rest = λ s made marks inner. h.rest s
          (λ a b. (adds c.requires.lawful.sound c.requires.below inv.makes).later.grows type_var a (made a b))
          (inv.rest s made marks inner) (subst (InContext (store_in meaning s)) (sym at)
          (context_part (store_in meaning s) t j (subst IsList c.parts_of-old.ensures.means c.member_count-i-end.ensures.is_list) inner));
      clear = none_kept _ c.from_residual-in_err-push-2.result c.from_residual-in_err-push-2.ensures.0;
      answers = memory_answers meaning eq c.args.self.now c.generalise_part.new.self al k i u c.args.target.now.cyclic c.args.met.now c.generalise_part.new.met p (new_part sd v) c.from_residual-in_err-push-2.result
          c.from_residual-in_err-push-2.ensures.0 c.from_residual-in_err-push-2.ensures.1;
    }

pub generalise_parts-first_members-requires : goal.generalise_parts-first_members-requires
generalise_parts-first_members-requires g t' c =
    let m = g.I.Interner.meaning c.args.self.now.interner in
    let o = g.I.Interner.meaning c.generalise_part.new.self.interner in
    let ps = c.parts_of-old.result in
    let sure = c.parts_of-old.ensures.sure in
    let whole : parts_tree o ps ≡ parts_tree m ps =
    stays_parts (extends_on c.loop-i.invariant.grown c.in_ok-became.ensures.grown) ps sure in
    let j = c.loop-i.i in
    let counted = c.member_count-i-end.ensures.counts in
    let test = c.loop-i-test.true in
    let below : j ≤ count (parts_tree m ps) = omega (arith, counted, test) in
    record {
      list_known = knows_as (parts_tree m ps) (parts_tree o ps) whole sure;
      in_bounds = subst (λ w. j ≤ count w) (sym whole) below;
    }

pub generalise_parts-loop-i-preserved : goal.generalise_parts-loop-i-preserved
generalise_parts-loop-i-preserved g t' c =
    let meaning = g.I.Interner.meaning in
    let m = meaning c.args.self.now.interner in
    let eq = met_eq g.I.Key.PartialEq.eq in
    let k = vid_kind c.args.target.now.vid in
    let i = vid_number c.args.target.now.vid in
    let u = c.args.target.now.universe.0 in
    let al = c.args.target.now.aliases in
    let sd = side_of c.args.inside in
    let eqt = ty_eq g.I.Key.PartialEq.eq in
    let was = store_of m c.args.self.now.inner in
    let p = c.args.term.now in
    let t = part_tree m p in
    let v = c.args.variance in
    let n = meaning c.loop-i.self.interner in
    let now = store_of n c.loop-i.self.inner in
    let inv = c.loop-i.invariant in
    let e : part_tree n p ≡ t = stays_part inv.grown p c.requires.term_known in
    let j = c.loop-i.i in
    let us = cond c.loop-i.differs (list_tree (part_tree n) c.loop-i.parts.items) (firsts j (parts_of t)) in
    let counted = c.member_count-i-end.ensures.counts ∙ ap count c.parts_of-old.ensures.means in
    let test = c.loop-i-test.true in
    let below : j < count (parts_of t) = omega (arith, counted, test) in
    let z = c.member-next.result in
    let at : part_tree n z ≡ nth j (parts_of t) = c.member-next.ensures.means ∙ ap (nth j) (stays_parts inv.grown c.parts_of-old.result c.parts_of-old.ensures.sure ∙ c.parts_of-old.ensures.means) in
    let o = meaning c.generalise_part.new.self.interner in
    let then = store_of o c.generalise_part.new.self.inner in
    let sorted : Sorted n = g.met.I.Interner.sorted c.loop-i.self.interner in
    let h = c.in_ok-became.ensures in
    let a = h.answers in
    let w = c.in_ok-became.became in
    let xs = c.loop-i.parts.items in
    let next : j + 1 ≡ suc j = omega arith in
    let stays : part_tree o z ≡ part_tree n z = stays_part h.grown z c.member-next.ensures.sure in
    let sort = a.1 ∙ sym (sort_known n sorted z c.member-next.ensures.sure) ∙ ap tree_sort at in
    let listed = subst IsList c.parts_of-old.ensures.means c.member_count-i-end.ensures.is_list in
    let ps = c.parts_of-old.result in
    let whole : parts_tree o ps ≡ parts_of t =
    stays_parts (extends_on inv.grown h.grown) ps c.parts_of-old.ensures.sure ∙ c.parts_of-old.ensures.means in
    elim c.if-differs.branch [
      | generalise_parts-then-differs+in_ok-push x ↦
          let was_kept = inv.kept x.if-differs.true in
          let stay = stays_list (part_tree n) (part_tree o) xs (stays_part h.grown) was_kept.0 in
          let items = ap (λ q. q.items) x.parts-is ∙ x.in_ok-push.ensures.items in
          let us_is : us ≡ list_tree (part_tree n) xs =
          ap (λ b. cond b (list_tree (part_tree n) xs) (firsts j (parts_of t))) x.if-differs.true in
          record {
            lawful = h.lawful;
            grown = extends_on inv.grown h.grown;
            universe = h.universe ∙ inv.universe;
            makes = makes_then inv.makes h.makes;
            rest = λ s made marks inner. h.rest s
                (λ a b. (adds c.requires.lawful.sound c.requires.below inv.makes).later.grows type_var a (made a b))
                (inv.rest s made marks inner) (subst (InContext (store_in meaning s)) (sym at)
                (context_part (store_in meaning s) t j listed inner));
            all = a.2;
            found = h.clear;
            kept = λ q. pushed_kept (part_tree o) w j (j + 1) (parts_of t) xs _ below next items
                (knows_as (list_tree (part_tree n) xs) (list_tree (part_tree o) xs) stay was_kept.0) was_kept.1 a.0 sort;
            went = went_next eq m n o was now then al k i u sd v c.args.met.now c.loop-i.met c.generalise_part.new.met t
                c.requires.goes listed j below us inv.went inv.grown (part_tree n z) at
                (side_of c.parts_inside-within.result) c.parts_inside-within.ensures c.variance_of-at.result
                (c.variance_of-at.ensures ∙ ap (λ y. variance_of_part (items_of n) y j v) e) (part_tree o w) a.3 (j + 1)
                _ next (pushed_tree (part_tree o) w xs _ us (firsts (j + 1) (parts_of t)) items
                (x.differs-is ∙ x.if-differs.true) (stay ∙ sym us_is));
          }
      | generalise_parts-else-differs+then-not-is_same+in_ok-parts+in_ok-push-2 x ↦
          let f = x.in_ok-parts.ensures in
          let ys = x.in_ok-parts.parts.items in
          let items = ap (λ q. q.items) x.parts-is ∙ x.in_ok-push-2.ensures.items in
          let us_is : us ≡ firsts j (parts_of t) =
          ap (λ b. cond b (list_tree (part_tree n) xs) (firsts j (parts_of t))) x.if-differs.false in
          record {
            lawful = h.lawful;
            grown = extends_on inv.grown h.grown;
            universe = h.universe ∙ inv.universe;
            makes = makes_then inv.makes h.makes;
            rest = λ s made marks inner. h.rest s
                (λ a b. (adds c.requires.lawful.sound c.requires.below inv.makes).later.grows type_var a (made a b))
                (inv.rest s made marks inner) (subst (InContext (store_in meaning s)) (sym at)
                (context_part (store_in meaning s) t j listed inner));
            all = a.2;
            found = h.clear;
            kept = λ q. pushed_kept (part_tree o) w j (j + 1) (parts_of t) ys _ below next items
                f.sure (subst (λ y. Fit ys (firsts j y)) whole f.fit) a.0 sort;
            went = went_next eq m n o was now then al k i u sd v c.args.met.now c.loop-i.met c.generalise_part.new.met t
                c.requires.goes listed j below us inv.went inv.grown (part_tree n z) at
                (side_of c.parts_inside-within.result) c.parts_inside-within.ensures c.variance_of-at.result
                (c.variance_of-at.ensures ∙ ap (λ y. variance_of_part (items_of n) y j v) e) (part_tree o w) a.3 (j + 1)
                _ next (pushed_tree (part_tree o) w ys _ us (firsts (j + 1) (parts_of t)) items x.differs-is
                (f.same ∙ ap (firsts j) whole ∙ sym us_is));
          }
      | generalise_parts-else-differs+else-not-is_same x ↦
          let us_is : us ≡ firsts j (parts_of t) =
          ap (λ b. cond b (list_tree (part_tree n) xs) (firsts j (parts_of t))) x.if-differs.false in
          record {
            lawful = h.lawful;
            grown = extends_on inv.grown h.grown;
            universe = h.universe ∙ inv.universe;
            makes = makes_then inv.makes h.makes;
            rest = λ s made marks inner. h.rest s
                (λ a b. (adds c.requires.lawful.sound c.requires.below inv.makes).later.grows type_var a (made a b))
                (inv.rest s made marks inner) (subst (InContext (store_in meaning s)) (sym at)
                (context_part (store_in meaning s) t j listed inner));
            all = a.2;
            found = h.clear;
            kept = λ q. absurd (false≢true (sym x.if-differs.false ∙ sym x.differs-is ∙ q));
            went = went_next eq m n o was now then al k i u sd v c.args.met.now c.loop-i.met c.generalise_part.new.met t
                c.requires.goes listed j below us inv.went inv.grown (part_tree n z) at
                (side_of c.parts_inside-within.result) c.parts_inside-within.ensures c.variance_of-at.result
                (c.variance_of-at.ensures ∙ ap (λ y. variance_of_part (items_of n) y j v) e) (part_tree o w) a.3 (j + 1)
                _ next (same_tree _ j (j + 1) (parts_of t) us (part_tree o w) below next us_is
                (x.is_same.ensures.one x.if-not-is_same.false ∙ stays ∙ at) (x.differs-is ∙ x.if-differs.false));
          }
    ]

pub generalise_parts-returns : goal.generalise_parts-returns
generalise_parts-returns g t' c =
    let meaning = g.I.Interner.meaning in
    let m = meaning c.args.self.now.interner in
    let eq = met_eq g.I.Key.PartialEq.eq in
    let k = vid_kind c.args.target.now.vid in
    let i = vid_number c.args.target.now.vid in
    let u = c.args.target.now.universe.0 in
    let al = c.args.target.now.aliases in
    let sd = side_of c.args.inside in
    let eqt = ty_eq g.I.Key.PartialEq.eq in
    let was = store_of m c.args.self.now.inner in
    let p = c.args.term.now in
    let t = part_tree m p in
    let v = c.args.variance in
    let n = meaning c.loop-i.self.interner in
    let now = store_of n c.loop-i.self.inner in
    let inv = c.loop-i.invariant in
    let e : part_tree n p ≡ t = stays_part inv.grown p c.requires.term_known in
    let j = c.loop-i.i in
    let us = cond c.loop-i.differs (list_tree (part_tree n) c.loop-i.parts.items) (firsts j (parts_of t)) in
    let counted = c.member_count-i-end.ensures.counts ∙ ap count c.parts_of-old.ensures.means in
    let test = c.loop-i-test.false in
    let end = c.loop-i.auto.i-end in
    let all : j ≡ count (parts_of t) = omega (arith, counted, test, end) in
    let sorted : Sorted m = g.met.I.Interner.sorted c.args.self.now.interner in
    let whole : firsts j (parts_of t) ≡ parts_of t = ap (λ d. firsts d (parts_of t)) all ∙ firsts_all (parts_of t) (subst IsList c.parts_of-old.ensures.means c.member_count-i-end.ensures.is_list) in
    let became = went_whole eq m n was now al k i u sd v c.args.met.now c.loop-i.met (new_kind p) t j us c.requires.goes (λ s. has_sort p (sym (sort_known m sorted p c.requires.term_known) ∙ s))
    (subst IsList c.parts_of-old.ensures.means c.member_count-i-end.ensures.is_list) all c.requires.stays inv.went in
    let us_is : us ≡ firsts j (parts_of t) =
    ap (λ b. cond b (list_tree (part_tree n) c.loop-i.parts.items) (firsts j (parts_of t))) c.if-differs-2.false in
    record {
      lawful = inv.lawful;
      grown = inv.grown;
      universe = inv.universe;
      makes = inv.makes;
      rest = inv.rest;
      clear = inv.found;
      answers = (
        knows_as t (part_tree n p) e c.requires.term_known,
        refl,
        inv.all,
        subst (BecomesAlways eq m n was now al k i u (new_part sd v) c.args.met.now c.loop-i.met t)
            (ap (over t) (us_is ∙ whole) ∙ over_itself t ∙ sym e) became,
      );
    }

pub generalise_parts-with_parts-requires-clause-term_known : goal.generalise_parts-with_parts-requires-clause-term_known
generalise_parts-with_parts-requires-clause-term_known g t' c =
    let meaning = g.I.Interner.meaning in
    let m = meaning c.args.self.now.interner in
    let eq = met_eq g.I.Key.PartialEq.eq in
    let k = vid_kind c.args.target.now.vid in
    let i = vid_number c.args.target.now.vid in
    let u = c.args.target.now.universe.0 in
    let al = c.args.target.now.aliases in
    let sd = side_of c.args.inside in
    let eqt = ty_eq g.I.Key.PartialEq.eq in
    let was = store_of m c.args.self.now.inner in
    let p = c.args.term.now in
    let t = part_tree m p in
    let v = c.args.variance in
    let n = meaning c.loop-i.self.interner in
    let now = store_of n c.loop-i.self.inner in
    let inv = c.loop-i.invariant in
    let e : part_tree n p ≡ t = stays_part inv.grown p c.requires.term_known in
    let j = c.loop-i.i in
    let us = cond c.loop-i.differs (list_tree (part_tree n) c.loop-i.parts.items) (firsts j (parts_of t)) in
    knows_as t (part_tree n p) e c.requires.term_known

pub generalise_parts-with_parts-requires-clause-parts_known : goal.generalise_parts-with_parts-requires-clause-parts_known
generalise_parts-with_parts-requires-clause-parts_known g t' c =
    let meaning = g.I.Interner.meaning in
    let m = meaning c.args.self.now.interner in
    let eq = met_eq g.I.Key.PartialEq.eq in
    let k = vid_kind c.args.target.now.vid in
    let i = vid_number c.args.target.now.vid in
    let u = c.args.target.now.universe.0 in
    let al = c.args.target.now.aliases in
    let sd = side_of c.args.inside in
    let eqt = ty_eq g.I.Key.PartialEq.eq in
    let was = store_of m c.args.self.now.inner in
    let p = c.args.term.now in
    let t = part_tree m p in
    let v = c.args.variance in
    let n = meaning c.loop-i.self.interner in
    let now = store_of n c.loop-i.self.inner in
    let inv = c.loop-i.invariant in
    let e : part_tree n p ≡ t = stays_part inv.grown p c.requires.term_known in
    let j = c.loop-i.i in
    let us = cond c.loop-i.differs (list_tree (part_tree n) c.loop-i.parts.items) (firsts j (parts_of t)) in
    subst (λ ys. IsTrue (known (list_tree (part_tree n) ys))) (sym c.as_slice.ensures.value) (inv.kept c.if-differs-2.true).0

pub generalise_parts-with_parts-requires-clause-fits : goal.generalise_parts-with_parts-requires-clause-fits
generalise_parts-with_parts-requires-clause-fits g t' c =
    let meaning = g.I.Interner.meaning in
    let m = meaning c.args.self.now.interner in
    let eq = met_eq g.I.Key.PartialEq.eq in
    let k = vid_kind c.args.target.now.vid in
    let i = vid_number c.args.target.now.vid in
    let u = c.args.target.now.universe.0 in
    let al = c.args.target.now.aliases in
    let sd = side_of c.args.inside in
    let eqt = ty_eq g.I.Key.PartialEq.eq in
    let was = store_of m c.args.self.now.inner in
    let p = c.args.term.now in
    let t = part_tree m p in
    let v = c.args.variance in
    let n = meaning c.loop-i.self.interner in
    let now = store_of n c.loop-i.self.inner in
    let inv = c.loop-i.invariant in
    let e : part_tree n p ≡ t = stays_part inv.grown p c.requires.term_known in
    let j = c.loop-i.i in
    let us = cond c.loop-i.differs (list_tree (part_tree n) c.loop-i.parts.items) (firsts j (parts_of t)) in
    let counted = c.member_count-i-end.ensures.counts ∙ ap count c.parts_of-old.ensures.means in
    let test = c.loop-i-test.false in
    let end = c.loop-i.auto.i-end in
    let all : j ≡ count (parts_of t) = omega (arith, counted, test, end) in
    let whole : firsts j (parts_of t) ≡ parts_of t = ap (λ d. firsts d (parts_of t)) all ∙ firsts_all (parts_of t) (subst IsList c.parts_of-old.ensures.means c.member_count-i-end.ensures.is_list) in
    subst (λ ys. Fit ys (parts_of (part_tree n p))) (sym c.as_slice.ensures.value)
    (subst (λ y. Fit c.loop-i.parts.items (parts_of y)) (sym e) (subst (Fit c.loop-i.parts.items) whole (inv.kept c.if-differs-2.true).1))

pub generalise_parts-returns-in_err-with_parts : goal.generalise_parts-returns-in_err-with_parts
generalise_parts-returns-in_err-with_parts g t' c =
    let meaning = g.I.Interner.meaning in
    let m = meaning c.args.self.now.interner in
    let eq = met_eq g.I.Key.PartialEq.eq in
    let k = vid_kind c.args.target.now.vid in
    let i = vid_number c.args.target.now.vid in
    let u = c.args.target.now.universe.0 in
    let al = c.args.target.now.aliases in
    let sd = side_of c.args.inside in
    let eqt = ty_eq g.I.Key.PartialEq.eq in
    let was = store_of m c.args.self.now.inner in
    let p = c.args.term.now in
    let t = part_tree m p in
    let v = c.args.variance in
    let n = meaning c.loop-i.self.interner in
    let now = store_of n c.loop-i.self.inner in
    let inv = c.loop-i.invariant in
    let e : part_tree n p ≡ t = stays_part inv.grown p c.requires.term_known in
    let j = c.loop-i.i in
    let us = cond c.loop-i.differs (list_tree (part_tree n) c.loop-i.parts.items) (firsts j (parts_of t)) in
    let h = c.in_err-with_parts.ensures in
    record {
      lawful = lawful_grows h.grown c.loop-i.self.inner inv.lawful;
      grown = extends_on inv.grown h.grown;
      universe = inv.universe;
      makes = subst (MakesUnbound u was) (sym (store_grows h.grown c.loop-i.self.inner inv.lawful)) inv.makes;
      rest = λ s made marks inner. marks_grow meaning s c.loop-i.self (record { interner = c.with_parts.new.cx; inner = c.loop-i.self.inner }) refl
          (store_grows h.grown c.loop-i.self.inner inv.lawful) (inv.rest s made marks inner);
      clear = none_kept _ c.from_residual-in_err-with_parts.result c.from_residual-in_err-with_parts.ensures.0;
      answers = memory_answers meaning eq c.args.self.now (record { interner = c.with_parts.new.cx; inner = c.loop-i.self.inner }) al k i u c.args.target.now.cyclic c.args.met.now c.loop-i.met p (new_part sd v) c.from_residual-in_err-with_parts.result
          c.from_residual-in_err-with_parts.ensures.0 c.from_residual-in_err-with_parts.ensures.1;
    }

pub generalise_parts-returns-then-differs-2 : goal.generalise_parts-returns-then-differs-2
generalise_parts-returns-then-differs-2 g t' c =
    let meaning = g.I.Interner.meaning in
    let m = meaning c.args.self.now.interner in
    let eq = met_eq g.I.Key.PartialEq.eq in
    let k = vid_kind c.args.target.now.vid in
    let i = vid_number c.args.target.now.vid in
    let u = c.args.target.now.universe.0 in
    let al = c.args.target.now.aliases in
    let sd = side_of c.args.inside in
    let eqt = ty_eq g.I.Key.PartialEq.eq in
    let was = store_of m c.args.self.now.inner in
    let p = c.args.term.now in
    let t = part_tree m p in
    let v = c.args.variance in
    let n = meaning c.loop-i.self.interner in
    let now = store_of n c.loop-i.self.inner in
    let inv = c.loop-i.invariant in
    let e : part_tree n p ≡ t = stays_part inv.grown p c.requires.term_known in
    let j = c.loop-i.i in
    let us = cond c.loop-i.differs (list_tree (part_tree n) c.loop-i.parts.items) (firsts j (parts_of t)) in
    let counted = c.member_count-i-end.ensures.counts ∙ ap count c.parts_of-old.ensures.means in
    let test = c.loop-i-test.false in
    let end = c.loop-i.auto.i-end in
    let all : j ≡ count (parts_of t) = omega (arith, counted, test, end) in
    let sorted : Sorted m = g.met.I.Interner.sorted c.args.self.now.interner in
    let whole : firsts j (parts_of t) ≡ parts_of t = ap (λ d. firsts d (parts_of t)) all ∙ firsts_all (parts_of t) (subst IsList c.parts_of-old.ensures.means c.member_count-i-end.ensures.is_list) in
    let became = went_whole eq m n was now al k i u sd v c.args.met.now c.loop-i.met (new_kind p) t j us c.requires.goes (λ s. has_sort p (sym (sort_known m sorted p c.requires.term_known) ∙ s))
    (subst IsList c.parts_of-old.ensures.means c.member_count-i-end.ensures.is_list) all c.requires.stays inv.went in
    let h = c.in_ok-with_parts.ensures in
    let o = meaning c.with_parts.new.cx in
    let x = c.in_ok-with_parts.field-0 in
    let us_is : us ≡ list_tree (part_tree n) c.loop-i.parts.items =
    ap (λ b. cond b (list_tree (part_tree n) c.loop-i.parts.items) (firsts j (parts_of t))) c.if-differs-2.true in
    let kept = store_grows h.grown c.loop-i.self.inner inv.lawful in
    record {
      lawful = lawful_grows h.grown c.loop-i.self.inner inv.lawful;
      grown = extends_on inv.grown h.grown;
      universe = inv.universe;
      makes = subst (MakesUnbound u was) (sym kept) inv.makes;
      rest = λ s made marks inner. marks_grow meaning s c.loop-i.self (record { interner = c.with_parts.new.cx; inner = c.loop-i.self.inner }) refl
          (store_grows h.grown c.loop-i.self.inner inv.lawful) (inv.rest s made marks inner);
      clear = clear_grows h.grown eqt k i u c.loop-i.clear inv.found;
      answers = (
        h.sure,
        h.sort,
        sure_grows h.grown eq c.loop-i.met inv.all,
        becomes_grows eq h.grown was now (store_of o c.loop-i.self.inner) al k i u (new_part sd v) c.args.met.now c.loop-i.met t (over t us)
            (part_tree o x) inv.all kept
            (h.made ∙ ap₂ over e (ap (list_tree (part_tree n)) c.as_slice.ensures.value ∙ sym us_is)) became,
      );
    }
