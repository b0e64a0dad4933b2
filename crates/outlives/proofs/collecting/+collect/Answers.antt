use Rattle.std.proofs.Common.{rules, arith, refl, sym, ap, ◌∙◌, ◌≡◌, ◌<◌, ◌+◌, ◌*◌, suc, subst, IsTrue, false, true}
use Rattle.std.proofs.Common.{[], ◌∷◌, ◌++◌, ◌≤◌, append-nil, OnOk, cond}
use Rattle.std.specs.Map.{keys_of}
use Rattle.relation_terms.specs.contracts.terms.generic_arg.GenericArgKindPartialEq.TheImpl.{ghosts}
use Rattle.relation_terms.specs.Trees.{size, count, known, nth}
use Rattle.relation_terms.specs.Meaning.{kind_tree}
use Rattle.relation_terms.specs.Parts.{part_tree, parts_tree, parts_of}
use Rattle.relation_terms.specs.declared.terms.ty_kind.TyKind.TheVariants.{Param as ParamForm, Infer as InferForm}
use Rattle.relation_terms.specs.declared.terms.ty_kind.TyKind.TheVariants.{Placeholder as PlaceholderForm}
use Rattle.relation_terms.specs.declared.terms.ty_kind.TyKind.TheVariants.{Alias as AliasForm, Ref as RefForm}
use Rattle.relation_terms.specs.declared.terms.part_kind.Part.TheVariants.{Ty as TyPart}
use Rattle.relation_terms.specs.Interning.{Sorted}
use Rattle.relation_terms.proofs.Members.{member_small, parts_small, slice_counts, slice_list, slice_nth, slice_sure}
use Rattle.relation_terms.proofs.Parts.{ty_seen, known_parts}
use Rattle.relation_folds.specs.Visits.{bound_var_escapes}
use Rattle.component_parts.specs.Components.{every, components, inside_alias}
use Rattle.component_parts.specs.Choosing.{choice_in, meant, chosen_at}
use Rattle.outlives.specs.Outliving.{SomeIs, AddsSome, HasAll}
use Rattle.outlives.specs.Collecting.{Settled, of_member}
use Rattle.outlives.specs.declared.Component.{Param, Placeholder, UnresolvedInferenceVariable, Alias}
use Rattle.outlives.specs.declared.Component.{EscapingAlias}
use Rattle.relation_folds.proofs.Arguments.{arg_same}
use Rattle.outlives.proofs.Choosing.{member_is, member_in, has_members, each_chosen, rest_count}
use Rattle.outlives.proofs.Components.{part_has, infer_is, form_parts}
use Rattle.relation_folds.proofs.Folding.{on_ok}
use Rattle.outlives.proofs.Meeting.{ok_never, ok_map, ok_both, next_place, part_settled}
use Rattle.outlives.proofs.Meeting.{part_meets, part_had, meets_on}
use Rattle.outlives.proofs.Outliving.{in_left, in_right, adds_none, adds_after, adds_within, adds_as, has_as, has_both}
use Rattle.outlives.proofs.Outliving.{has_grown, added_some, added_all, stands_escaping, meets_none, meets_after}
use Rattle.outlives.proofs.Outliving.{settled_below, settled_after, settled_none}
use Rattle.relation_folds.proofs.Visiting.{rest}
use Rattle.outlives.proofs.collecting.+collect.Goals as goal

pub collect_part-returns-in_err-first-in_default : goal.collect_part-returns-in_err-first-in_default
collect_part-returns-in_err-first-in_default g t' c =
    let m = g.I.Interner.meaning c.args.cx.now in
    record {
      some = adds_none m (components every (part_tree m c.args.part.now)) c.args.out.now.items;
      all = ok_never _ c.from_residual.result c.from_residual.ensures.0;
      meets = ok_never _ c.from_residual.result c.from_residual.ensures.0;
    }

pub collect_alias_args-collect_members-requires : goal.collect_alias_args-collect_members-requires
collect_alias_args-collect_members-requires g t' c κs within =
    let m = g.I.Interner.meaning c.args.cx.now in
    let eq = (ghosts g.row.I-Key g.I.Key.PartialEq g.I.Key.PartialEq-dict).eq in
    let w = m.args (c.args.alias.now).args in
    let d = c.decreases in
    let k = c.requires in
    let small : 6 * size w + 1 < 6 * size w + 2 = omega arith in
    let s = settled_none m eq (size w) (keys_of c.none_met-visited.result) c.args.out.now.items c.none_met-visited.ensures in
    search rules

pub collect_alias_args-returns-clause-some : goal.collect_alias_args-returns-clause-some
collect_alias_args-returns-clause-some g t' c =
    let m = g.I.Interner.meaning c.args.cx.now in
    let w = m.args (c.args.alias.now).args in
    let e = ap (λ z. components (meant m z) w) c.alias_chosen-chosen.ensures in
    adds_as m _ _ _ _ e c.collect_members.ensures.some

pub collect_alias_args-returns-clause-all : goal.collect_alias_args-returns-clause-all
collect_alias_args-returns-clause-all g t' c =
    let m = g.I.Interner.meaning c.args.cx.now in
    let w = m.args (c.args.alias.now).args in
    let e = ap (λ z. components (meant m z) w) c.alias_chosen-chosen.ensures in
    subst (λ z. OnOk c.collect_members.result (HasAll m z c.collect_members.new.out.items)) e
    c.collect_members.ensures.all

pub collect_escaping-collect_alias_args-requires : goal.collect_escaping-collect_alias_args-requires
collect_escaping-collect_alias_args-requires g t' c κs within =
    let m = g.I.Interner.meaning c.args.cx.now in
    let w = m.args (c.args.alias.now).args in
    let d = c.decreases in
    let k = c.requires.known in
    let small : 6 * size w + 2 < 6 * size w + 4 = omega arith in
    search rules

pub collect_escaping-returns-in_err-collect_alias_args-clause-some : goal.collect_escaping-returns-in_err-collect_alias_args-clause-some
collect_escaping-returns-in_err-collect_alias_args-clause-some g t' c =
    let m = g.I.Interner.meaning c.args.cx.now in
    adds_none m (kind_tree m (AliasForm c.args.alias.now) ∷ []) c.args.out.now.items

pub collect_escaping-returns-clause-some : goal.collect_escaping-returns-clause-some
collect_escaping-returns-clause-some g t' c =
    let m = g.I.Interner.meaning c.args.cx.now in
    let w = kind_tree m (AliasForm c.args.alias.now) in
    let ts = inside_alias m.alias_variances w in
    let v = c.collect_alias_args.new.out in
    let some = subst (λ x. AddsSome m ts x v.items) c.new-inside.ensures.items c.in_ok-collect_alias_args.ensures.some in
    let all = c.in_ok-collect_alias_args.ensures.all in
    let s = stands_escaping m v w c.requires.escapes some all in
    added_some m (w ∷ []) (EscapingAlias v) w _ _ c.add.result c.add.ensures.ok c.add.ensures.err refl s

pub collect_escaping-returns-clause-all : goal.collect_escaping-returns-clause-all
collect_escaping-returns-clause-all g t' c =
    let m = g.I.Interner.meaning c.args.cx.now in
    let w = kind_tree m (AliasForm c.args.alias.now) in
    let ts = inside_alias m.alias_variances w in
    let v = c.collect_alias_args.new.out in
    let some = subst (λ x. AddsSome m ts x v.items) c.new-inside.ensures.items c.in_ok-collect_alias_args.ensures.some in
    let all = c.in_ok-collect_alias_args.ensures.all in
    let s = stands_escaping m v w c.requires.escapes some all in
    added_all m (w ∷ []) (EscapingAlias v) w _ _ c.add.result c.add.ensures.ok refl s

pub collect_members-loop-step-init : goal.collect_members-loop-step-init
collect_members-loop-step-init g t' c =
    let m = g.I.Interner.meaning c.args.cx.now in
    let eq = (ghosts g.row.I-Key g.I.Key.PartialEq g.I.Key.PartialEq-dict).eq in
    let ts = parts_tree m c.args.parts.now in
    record {
      adds = adds_none m (components (meant m c.args.chosen.now) ts) c.args.out.now.items;
      has = λ k l. absurd (omega (arith, l));
      meets = meets_none m eq (keys_of c.args.visited.now) (keys_of c.args.visited.now) c.args.out.now.items refl;
    }

pub collect_members-collect_member-requires : goal.collect_members-collect_member-requires
collect_members-collect_member-requires g t' c κs within =
    let m = g.I.Interner.meaning c.args.cx.now in
    let eq = (ghosts g.row.I-Key g.I.Key.PartialEq g.I.Key.PartialEq-dict).eq in
    let ts = parts_tree m c.args.parts.now in
    let ch = meant m c.args.chosen.now in
    let n = c.member_count-count.result in
    let step = c.loop-step.step in
    let inv = c.loop-step.invariant in
    let counted = c.member_count-count.ensures.counts in
    let i = c.chosen_place-i.result in
    let bound = c.chosen_place-i.ensures.in_bounds in
    let d = c.decreases in
    let k = c.requires.known in
    let below : i < count ts = omega (arith, counted, bound) in
    let small : 6 * size ts < 6 * size ts + 1 = omega arith in
    let s = settled_after m eq (size ts) (keys_of c.args.visited.now) (keys_of c.loop-step.visited) (components ch ts)
    c.args.out.now.items c.loop-step.out.items inv.adds c.requires.settled inv.meets in
    search rules

pub collect_members-returns-in_err-collect_member-clause-some : goal.collect_members-returns-in_err-collect_member-clause-some
collect_members-returns-in_err-collect_member-clause-some g t' c =
    let m = g.I.Interner.meaning c.args.cx.now in
    let ts = parts_tree m c.args.parts.now in
    let ch = meant m c.args.chosen.now in
    let n = c.member_count-count.result in
    let step = c.loop-step.step in
    let inv = c.loop-step.invariant in
    let counted = c.member_count-count.ensures.counts in
    let i = c.chosen_place-i.result in
    let p = c.collect_member.ensures in
    let adds : AddsSome m (components ch ts) c.args.out.now.items c.collect_member.new.out.items =
    adds_after m (components ch ts) _ _ _ inv.adds
    (adds_within m (of_member ch i ts) (components ch ts) _ _ (member_in ch i ts) p.some) in
    adds

pub collect_members-loop-step-preserved : goal.collect_members-loop-step-preserved
collect_members-loop-step-preserved g t' c =
    let m = g.I.Interner.meaning c.args.cx.now in
    let eq = (ghosts g.row.I-Key g.I.Key.PartialEq g.I.Key.PartialEq-dict).eq in
    let ts = parts_tree m c.args.parts.now in
    let ch = meant m c.args.chosen.now in
    let n = c.member_count-count.result in
    let step = c.loop-step.step in
    let inv = c.loop-step.invariant in
    let counted = c.member_count-count.ensures.counts in
    let i = c.chosen_place-i.result in
    let p = c.collect_member.ensures in
    let adds : AddsSome m (components ch ts) c.args.out.now.items c.collect_member.new.out.items =
    adds_after m (components ch ts) _ _ _ inv.adds
    (adds_within m (of_member ch i ts) (components ch ts) _ _ (member_in ch i ts) p.some) in
    let next : step + 1 ≡ step + 1 = refl in
    let r = c.in_ok-collect_member.ensures in
    let at : HasAll m (of_member ch (chosen_at c.args.chosen.now c.args.parts.now n step) ts) c.collect_member.new.out.items =
    subst (λ j. HasAll m (of_member ch j ts) c.collect_member.new.out.items) c.chosen_place-i.ensures.place r.all in
    record {
      adds = adds;
      has = next_place (λ k. HasAll m (of_member ch (chosen_at c.args.chosen.now c.args.parts.now n k) ts) c.collect_member.new.out.items) step (step + 1)
          next (λ k l. has_grown m _ (of_member ch i ts) _ _ p.some (inv.has k l)) at;
      meets = meets_after m eq (keys_of c.args.visited.now) (keys_of c.loop-step.visited) (keys_of c.collect_member.new.visited)
          (of_member ch i ts) c.loop-step.out.items c.collect_member.new.out.items p.some inv.meets r.meets;
    }

pub collect_members-returns-clause-some : goal.collect_members-returns-clause-some
collect_members-returns-clause-some g t' c =
    let m = g.I.Interner.meaning c.args.cx.now in
    let ts = parts_tree m c.args.parts.now in
    let ch = meant m c.args.chosen.now in
    let n = c.member_count-count.result in
    let step = c.loop-step.step in
    let inv = c.loop-step.invariant in
    let counted = c.member_count-count.ensures.counts in
    inv.adds

pub collect_members-returns-clause-all : goal.collect_members-returns-clause-all
collect_members-returns-clause-all g t' c =
    let m = g.I.Interner.meaning c.args.cx.now in
    let ts = parts_tree m c.args.parts.now in
    let ch = meant m c.args.chosen.now in
    let n = c.member_count-count.result in
    let step = c.loop-step.step in
    let inv = c.loop-step.invariant in
    let counted = c.member_count-count.ensures.counts in
    let test = c.loop-step-test.false in
    let end = (c.loop-step.auto).step-end in
    let looked = c.places_count-step-end.ensures.is in
    has_members m c.loop-step.out.items ch ts c.member_count-count.ensures.is_list
    (λ j l. each_chosen m c.args.parts.now n ts counted (λ j. HasAll m (of_member ch j ts) c.loop-step.out.items)
    c.args.chosen.now (λ k h. inv.has k (omega (arith, h, test, end, looked)))
    (λ j e. has_as m [] (of_member ch j ts) c.loop-step.out.items (sym e) tt) j (omega (arith, l, counted)))

pub collect_members-returns-clause-meets : goal.collect_members-returns-clause-meets
collect_members-returns-clause-meets g t' c =
    let m = g.I.Interner.meaning c.args.cx.now in
    let ts = parts_tree m c.args.parts.now in
    let ch = meant m c.args.chosen.now in
    let n = c.member_count-count.result in
    let step = c.loop-step.step in
    let inv = c.loop-step.invariant in
    let counted = c.member_count-count.ensures.counts in
    inv.meets

pub collect_member-returns-then-not-is_chosen-clause-some : goal.collect_member-returns-then-not-is_chosen-clause-some
collect_member-returns-then-not-is_chosen-clause-some g t' c =
    let m = g.I.Interner.meaning c.args.cx.now in
    adds_none m (of_member (meant m c.args.chosen.now) c.args.i (parts_tree m c.args.parts.now)) c.args.out.now.items

pub collect_member-returns-then-not-is_chosen-clause-all : goal.collect_member-returns-then-not-is_chosen-clause-all
collect_member-returns-then-not-is_chosen-clause-all g t' c =
    let m = g.I.Interner.meaning c.args.cx.now in
    let ts = parts_tree m c.args.parts.now in
    let ch = meant m c.args.chosen.now in
    let i = c.args.i in
    let x = part_tree m c.member-part.result in
    let e : of_member ch i ts ≡ cond c.is_chosen.result (components every x) [] =
    member_is ch i ts x c.is_chosen.result c.requires.in_bounds c.member-part.ensures.means
    (c.is_chosen.ensures (rest (suc i) ts) (rest_count i ts c.requires.in_bounds ∙ sym c.requires.members)) in
    let no : c.is_chosen.result ≡ false = c.if-not-is_chosen.true in
    has_as m [] (of_member ch i ts) c.args.out.now.items (sym (e ∙ ap (λ b. cond b (components every x) []) no)) tt

pub collect_member-returns-then-not-is_chosen-clause-meets : goal.collect_member-returns-then-not-is_chosen-clause-meets
collect_member-returns-then-not-is_chosen-clause-meets g t' c =
    let m = g.I.Interner.meaning c.args.cx.now in
    let eq = (ghosts g.row.I-Key g.I.Key.PartialEq g.I.Key.PartialEq-dict).eq in
    meets_none m eq (keys_of c.args.visited.now) (keys_of c.args.visited.now) c.args.out.now.items refl

pub collect_member-collect_part-requires : goal.collect_member-collect_part-requires
collect_member-collect_part-requires g t' c κs within =
    let m = g.I.Interner.meaning c.args.cx.now in
    let eq = (ghosts g.row.I-Key g.I.Key.PartialEq g.I.Key.PartialEq-dict).eq in
    let ts = parts_tree m c.args.parts.now in
    let x = part_tree m c.member-part.result in
    let less = member_small ts c.args.i c.requires.in_bounds in
    let is : size x ≡ size (nth c.args.i ts) = ap size c.member-part.ensures.means in
    let d = c.decreases in
    let k = c.member-part.ensures.sure in
    let small : 6 * size x + 5 < 6 * size ts = omega (arith, less, is) in
    let s = settled_below m eq (size ts) (suc (size x)) (keys_of c.args.visited.now) c.args.out.now.items
    (omega (arith, less, is)) c.requires.settled in
    search rules

pub collect_member-returns-clause-some : goal.collect_member-returns-clause-some
collect_member-returns-clause-some g t' c =
    let m = g.I.Interner.meaning c.args.cx.now in
    let ts = parts_tree m c.args.parts.now in
    let ch = meant m c.args.chosen.now in
    let i = c.args.i in
    let x = part_tree m c.member-part.result in
    let e : of_member ch i ts ≡ cond c.is_chosen.result (components every x) [] =
    member_is ch i ts x c.is_chosen.result c.requires.in_bounds c.member-part.ensures.means
    (c.is_chosen.ensures (rest (suc i) ts) (rest_count i ts c.requires.in_bounds ∙ sym c.requires.members)) in
    let yes : c.is_chosen.result ≡ true = c.if-not-is_chosen.false in
    let f : components every x ≡ of_member ch i ts = sym (e ∙ ap (λ b. cond b (components every x) []) yes) in
    adds_as m _ _ _ _ f c.collect_part.ensures.some

pub collect_member-returns-clause-all : goal.collect_member-returns-clause-all
collect_member-returns-clause-all g t' c =
    let m = g.I.Interner.meaning c.args.cx.now in
    let ts = parts_tree m c.args.parts.now in
    let ch = meant m c.args.chosen.now in
    let i = c.args.i in
    let x = part_tree m c.member-part.result in
    let e : of_member ch i ts ≡ cond c.is_chosen.result (components every x) [] =
    member_is ch i ts x c.is_chosen.result c.requires.in_bounds c.member-part.ensures.means
    (c.is_chosen.ensures (rest (suc i) ts) (rest_count i ts c.requires.in_bounds ∙ sym c.requires.members)) in
    let yes : c.is_chosen.result ≡ true = c.if-not-is_chosen.false in
    let f : components every x ≡ of_member ch i ts = sym (e ∙ ap (λ b. cond b (components every x) []) yes) in
    subst (λ z. OnOk c.collect_part.result (HasAll m z c.collect_part.new.out.items)) f c.collect_part.ensures.all

pub collect_part-returns-then-not-first-clause-some : goal.collect_part-returns-then-not-first-clause-some
collect_part-returns-then-not-first-clause-some g t' c =
    let m = g.I.Interner.meaning c.args.cx.now in
    adds_none m (components every (part_tree m c.args.part.now)) c.args.out.now.items

pub collect_part-returns-then-not-first-clause-all : goal.collect_part-returns-then-not-first-clause-all
collect_part-returns-then-not-first-clause-all g t' c =
    let m = g.I.Interner.meaning c.args.cx.now in
    let eq = (ghosts g.row.I-Key g.I.Key.PartialEq g.I.Key.PartialEq-dict).eq in
    let a = c.args.cx.now in
    let laws = g.met.I.Interner in
    let sorted : Sorted m = laws.sorted a in
    let same = arg_same m g.I.Key.PartialEq.eq eq (λ a b. refl) (λ a b. refl) (λ a b. refl) (λ a b. refl)
    (λ a b. refl) (λ a b. refl) (λ a b. refl) (λ a b. refl) (λ a b. refl) (laws.same_region a) (laws.same_ty a)
    (laws.same_const a) sorted in
    let p = c.args.part.now in
    let w = part_tree m p in
    let kept = c.in_ok-first-in_default.ensures in
    let b = c.in_ok-first-in_default.first in
    let xs = keys_of c.args.visited.now in
    let ys = keys_of c.meet.new.visited in
    let had = part_had m eq same p b (suc (size w)) xs ys c.args.out.now.items kept c.if-not-first.true
    c.requires.known refl c.requires.settled in
    had

pub collect_part-returns-then-not-first-clause-meets : goal.collect_part-returns-then-not-first-clause-meets
collect_part-returns-then-not-first-clause-meets g t' c =
    let m = g.I.Interner.meaning c.args.cx.now in
    let eq = (ghosts g.row.I-Key g.I.Key.PartialEq g.I.Key.PartialEq-dict).eq in
    let a = c.args.cx.now in
    let laws = g.met.I.Interner in
    let sorted : Sorted m = laws.sorted a in
    let same = arg_same m g.I.Key.PartialEq.eq eq (λ a b. refl) (λ a b. refl) (λ a b. refl) (λ a b. refl)
    (λ a b. refl) (λ a b. refl) (λ a b. refl) (λ a b. refl) (λ a b. refl) (laws.same_region a) (laws.same_ty a)
    (laws.same_const a) sorted in
    let p = c.args.part.now in
    let w = part_tree m p in
    let kept = c.in_ok-first-in_default.ensures in
    let b = c.in_ok-first-in_default.first in
    let xs = keys_of c.args.visited.now in
    let ys = keys_of c.meet.new.visited in
    let had = part_had m eq same p b (suc (size w)) xs ys c.args.out.now.items kept c.if-not-first.true
    c.requires.known refl c.requires.settled in
    part_meets m eq same p b xs ys c.args.out.now.items kept c.requires.known had

pub collect_part-collect_region-requires : goal.collect_part-collect_region-requires
collect_part-collect_region-requires g t' c =
    let m = g.I.Interner.meaning c.args.cx.now in
    let k = subst (λ z. IsTrue (known (part_tree m z))) c.in-Region.is c.requires.known in
    search rules

pub collect_part-collect_members-requires : goal.collect_part-collect_members-requires
collect_part-collect_members-requires g t' c κs within =
    let m = g.I.Interner.meaning c.args.cx.now in
    let eq = (ghosts g.row.I-Key g.I.Key.PartialEq g.I.Key.PartialEq-dict).eq in
    let a = c.args.cx.now in
    let laws = g.met.I.Interner in
    let sorted : Sorted m = laws.sorted a in
    let same = arg_same m g.I.Key.PartialEq.eq eq (λ a b. refl) (λ a b. refl) (λ a b. refl) (λ a b. refl)
    (λ a b. refl) (λ a b. refl) (λ a b. refl) (λ a b. refl) (λ a b. refl) (laws.same_region a) (laws.same_ty a)
    (laws.same_const a) sorted in
    let p = c.args.part.now in
    let w = part_tree m p in
    let kept = c.in_ok-first-in_default.ensures in
    let b = c.in_ok-first-in_default.first in
    let xs = keys_of c.args.visited.now in
    let ys = keys_of c.meet.new.visited in
    let below = settled_below m eq (suc (size w)) (size w) xs c.args.out.now.items (omega arith) c.requires.settled in
    let on = part_settled m eq same p b (size w) xs ys c.args.out.now.items kept c.requires.known refl below in
    let ts = parts_tree m c.parts_of.result in
    let less = parts_small w in
    let is : size ts ≡ size (parts_of w) = ap size c.parts_of.ensures.means in
    let d = c.decreases in
    let k = c.parts_of.ensures.sure in
    let small : 6 * size ts + 1 < 6 * size w + 5 = omega (arith, less, is) in
    let s = settled_below m eq (size w) (size ts) ys c.args.out.now.items (omega (arith, less, is)) on in
    search rules

pub collect_part-returns-in-Region-clause-some : goal.collect_part-returns-in-Region-clause-some
collect_part-returns-in-Region-clause-some g t' c =
    let m = g.I.Interner.meaning c.args.cx.now in
    adds_as m _ _ _ _ (sym (ap (λ z. components every (part_tree m z)) c.in-Region.is)) c.collect_region.ensures.some

pub collect_part-returns-in-Region-clause-all : goal.collect_part-returns-in-Region-clause-all
collect_part-returns-in-Region-clause-all g t' c =
    let m = g.I.Interner.meaning c.args.cx.now in
    subst (λ z. OnOk c.collect_region.result (HasAll m z c.collect_region.new.out.items))
    (sym (ap (λ z. components every (part_tree m z)) c.in-Region.is)) c.collect_region.ensures.all

pub collect_part-returns-in-Region-clause-meets : goal.collect_part-returns-in-Region-clause-meets
collect_part-returns-in-Region-clause-meets g t' c =
    let m = g.I.Interner.meaning c.args.cx.now in
    let eq = (ghosts g.row.I-Key g.I.Key.PartialEq g.I.Key.PartialEq-dict).eq in
    on_ok c.collect_region.result _
    (meets_none m eq (keys_of c.args.visited.now) (keys_of c.args.visited.now) c.collect_region.new.out.items refl)

pub collect_part-returns-in-Ty-clause-some : goal.collect_part-returns-in-Ty-clause-some
collect_part-returns-in-Ty-clause-some g t' c =
    let m = g.I.Interner.meaning c.args.cx.now in
    adds_as m _ _ _ _ (sym (ap (λ z. components every (part_tree m z)) c.in-Ty.is)) c.collect_type.ensures.some

pub collect_part-returns-in-Ty-clause-all : goal.collect_part-returns-in-Ty-clause-all
collect_part-returns-in-Ty-clause-all g t' c =
    let m = g.I.Interner.meaning c.args.cx.now in
    subst (λ z. OnOk c.collect_type.result (HasAll m z c.collect_type.new.out.items))
    (sym (ap (λ z. components every (part_tree m z)) c.in-Ty.is)) c.collect_type.ensures.all

pub collect_part-returns-else-not-first : goal.collect_part-returns-else-not-first
collect_part-returns-else-not-first g t' c =
    let m = g.I.Interner.meaning c.args.cx.now in
    let eq = (ghosts g.row.I-Key g.I.Key.PartialEq g.I.Key.PartialEq-dict).eq in
    let a = c.args.cx.now in
    let laws = g.met.I.Interner in
    let sorted : Sorted m = laws.sorted a in
    let same = arg_same m g.I.Key.PartialEq.eq eq (λ a b. refl) (λ a b. refl) (λ a b. refl) (λ a b. refl)
    (λ a b. refl) (λ a b. refl) (λ a b. refl) (λ a b. refl) (λ a b. refl) (laws.same_region a) (laws.same_ty a)
    (laws.same_const a) sorted in
    let p = c.args.part.now in
    let w = part_tree m p in
    let kept = c.in_ok-first-in_default.ensures in
    let b = c.in_ok-first-in_default.first in
    let xs = keys_of c.args.visited.now in
    let ys = keys_of c.meet.new.visited in
    let d = c.in_default in
    let e : components every (parts_tree m c.parts_of.result) ≡ components every w =
    ap (components every) c.parts_of.ensures.means ∙ part_has m sorted p c.requires.known d.not-Region d.not-Ty in
    let zs = keys_of c.collect_members.new.visited in
    let ds = c.collect_members.new.out.items in
    record {
      some = adds_as m _ _ _ _ e c.collect_members.ensures.some;
      all = subst (λ z. OnOk c.collect_members.result (HasAll m z ds)) e c.collect_members.ensures.all;
      meets = ok_both c.collect_members.result
          (λ h o. meets_on m eq same xs ys zs ds
          (part_meets m eq same p b xs ys ds kept c.requires.known (has_as m _ _ _ e h)) o)
          c.collect_members.ensures.all c.collect_members.ensures.meets;
    }

pub collect_type-returns-in_err-first-clause-some : goal.collect_type-returns-in_err-first-clause-some
collect_type-returns-in_err-first-clause-some g t' c =
    let m = g.I.Interner.meaning c.args.cx.now in
    adds_none m (components every (m.ty c.args.ty)) c.args.out.now.items

pub collect_type-returns-then-not-first-clause-some : goal.collect_type-returns-then-not-first-clause-some
collect_type-returns-then-not-first-clause-some g t' c =
    let m = g.I.Interner.meaning c.args.cx.now in
    adds_none m (components every (m.ty c.args.ty)) c.args.out.now.items

pub collect_type-returns-then-not-first-clause-all : goal.collect_type-returns-then-not-first-clause-all
collect_type-returns-then-not-first-clause-all g t' c =
    let m = g.I.Interner.meaning c.args.cx.now in
    let eq = (ghosts g.row.I-Key g.I.Key.PartialEq g.I.Key.PartialEq-dict).eq in
    let a = c.args.cx.now in
    let laws = g.met.I.Interner in
    let sorted : Sorted m = laws.sorted a in
    let same = arg_same m g.I.Key.PartialEq.eq eq (λ a b. refl) (λ a b. refl) (λ a b. refl) (λ a b. refl)
    (λ a b. refl) (λ a b. refl) (λ a b. refl) (λ a b. refl) (λ a b. refl) (laws.same_region a) (laws.same_ty a)
    (laws.same_const a) sorted in
    let p = TyPart c.args.ty in
    let w = m.ty c.args.ty in
    let kept = c.in_ok-first.ensures in
    let b = c.in_ok-first.first in
    let xs = keys_of c.args.visited.now in
    let ys = keys_of c.meet.new.visited in
    let had = part_had m eq same p b (suc (size w)) xs ys c.args.out.now.items kept c.if-not-first.true
    c.requires.known refl c.requires.settled in
    had

pub collect_type-returns-then-not-first-clause-meets : goal.collect_type-returns-then-not-first-clause-meets
collect_type-returns-then-not-first-clause-meets g t' c =
    let m = g.I.Interner.meaning c.args.cx.now in
    let eq = (ghosts g.row.I-Key g.I.Key.PartialEq g.I.Key.PartialEq-dict).eq in
    let a = c.args.cx.now in
    let laws = g.met.I.Interner in
    let sorted : Sorted m = laws.sorted a in
    let same = arg_same m g.I.Key.PartialEq.eq eq (λ a b. refl) (λ a b. refl) (λ a b. refl) (λ a b. refl)
    (λ a b. refl) (λ a b. refl) (λ a b. refl) (λ a b. refl) (λ a b. refl) (laws.same_region a) (laws.same_ty a)
    (laws.same_const a) sorted in
    let p = TyPart c.args.ty in
    let w = m.ty c.args.ty in
    let kept = c.in_ok-first.ensures in
    let b = c.in_ok-first.first in
    let xs = keys_of c.args.visited.now in
    let ys = keys_of c.meet.new.visited in
    let had = part_had m eq same p b (suc (size w)) xs ys c.args.out.now.items kept c.if-not-first.true
    c.requires.known refl c.requires.settled in
    part_meets m eq same p b xs ys c.args.out.now.items kept c.requires.known had

pub collect_type-collect_ty-requires : goal.collect_type-collect_ty-requires
collect_type-collect_ty-requires g t' c κs within =
    let m = g.I.Interner.meaning c.args.cx.now in
    let eq = (ghosts g.row.I-Key g.I.Key.PartialEq g.I.Key.PartialEq-dict).eq in
    let a = c.args.cx.now in
    let laws = g.met.I.Interner in
    let sorted : Sorted m = laws.sorted a in
    let same = arg_same m g.I.Key.PartialEq.eq eq (λ a b. refl) (λ a b. refl) (λ a b. refl) (λ a b. refl)
    (λ a b. refl) (λ a b. refl) (λ a b. refl) (λ a b. refl) (λ a b. refl) (laws.same_region a) (laws.same_ty a)
    (laws.same_const a) sorted in
    let p = TyPart c.args.ty in
    let w = m.ty c.args.ty in
    let kept = c.in_ok-first.ensures in
    let b = c.in_ok-first.first in
    let xs = keys_of c.args.visited.now in
    let ys = keys_of c.meet.new.visited in
    let below = settled_below m eq (suc (size w)) (size w) xs c.args.out.now.items (omega arith) c.requires.settled in
    let s = part_settled m eq same p b (size w) xs ys c.args.out.now.items kept c.requires.known refl below in
    let d = c.decreases in
    let k = c.requires.known in
    let small : 6 * size w + 3 < 6 * size w + 4 = omega arith in
    search rules

pub collect_type-returns-clause-meets : goal.collect_type-returns-clause-meets
collect_type-returns-clause-meets g t' c =
    let m = g.I.Interner.meaning c.args.cx.now in
    let eq = (ghosts g.row.I-Key g.I.Key.PartialEq g.I.Key.PartialEq-dict).eq in
    let a = c.args.cx.now in
    let laws = g.met.I.Interner in
    let sorted : Sorted m = laws.sorted a in
    let same = arg_same m g.I.Key.PartialEq.eq eq (λ a b. refl) (λ a b. refl) (λ a b. refl) (λ a b. refl)
    (λ a b. refl) (λ a b. refl) (λ a b. refl) (λ a b. refl) (λ a b. refl) (laws.same_region a) (laws.same_ty a)
    (laws.same_const a) sorted in
    let p = TyPart c.args.ty in
    let w = m.ty c.args.ty in
    let kept = c.in_ok-first.ensures in
    let b = c.in_ok-first.first in
    let xs = keys_of c.args.visited.now in
    let ys = keys_of c.meet.new.visited in
    let zs = keys_of c.collect_ty.new.visited in
    let ds = c.collect_ty.new.out.items in
    ok_both c.collect_ty.result
    (λ h o. meets_on m eq same xs ys zs ds (part_meets m eq same p b xs ys ds kept c.requires.known h) o)
    c.collect_ty.ensures.all c.collect_ty.ensures.meets

pub collect_tys-loop-ty-init : goal.collect_tys-loop-ty-init
collect_tys-loop-ty-init g t' c =
    let m = g.I.Interner.meaning c.args.cx.now in
    let eq = (ghosts g.row.I-Key g.I.Key.PartialEq g.I.Key.PartialEq-dict).eq in
    let ts = m.tys c.args.tys in
    record {
      adds = adds_none m (components every ts) c.args.out.now.items;
      has = λ k l. absurd (omega (arith, l));
      meets = meets_none m eq (keys_of c.args.visited.now) (keys_of c.args.visited.now) c.args.out.now.items refl;
    }

pub collect_tys-collect_type-requires : goal.collect_tys-collect_type-requires
collect_tys-collect_type-requires g t' c κs within =
    let m = g.I.Interner.meaning c.args.cx.now in
    let eq = (ghosts g.row.I-Key g.I.Key.PartialEq g.I.Key.PartialEq-dict).eq in
    let ts = m.tys c.args.tys in
    let list = c.tys-ty-items.result.now in
    let said = c.tys-ty-items.ensures in
    let counts = slice_counts m.ty list ts said in
    let inv = c.loop-ty.invariant in
    let i = c.loop-ty.ty-index in
    let x = c.ty-item.result in
    let below : i < count ts = omega (arith, counts, c.loop-ty-test.true) in
    let at : m.ty x ≡ nth i ts = slice_nth m.ty list ts said i x x below c.ty-item.is in
    let k = slice_sure m.ty list ts said c.requires.known i x x below c.ty-item.is in
    let less = member_small ts i below in
    let size_is : size (m.ty x) ≡ size (nth i ts) = ap size at in
    let d = c.decreases in
    let small : 6 * size (m.ty x) + 4 < 6 * size ts + 1 = omega (arith, less, size_is) in
    let after = settled_after m eq (size ts) (keys_of c.args.visited.now) (keys_of c.loop-ty.visited) (components every ts)
    c.args.out.now.items c.loop-ty.out.items inv.adds c.requires.settled inv.meets in
    let s = settled_below m eq (size ts) (suc (size (m.ty x))) (keys_of c.loop-ty.visited) c.loop-ty.out.items
    (omega (arith, less, size_is)) after in
    search rules

pub collect_tys-returns-in_err-collect_type-clause-some : goal.collect_tys-returns-in_err-collect_type-clause-some
collect_tys-returns-in_err-collect_type-clause-some g t' c =
    let m = g.I.Interner.meaning c.args.cx.now in
    let eq = (ghosts g.row.I-Key g.I.Key.PartialEq g.I.Key.PartialEq-dict).eq in
    let ts = m.tys c.args.tys in
    let list = c.tys-ty-items.result.now in
    let said = c.tys-ty-items.ensures in
    let counts = slice_counts m.ty list ts said in
    let inv = c.loop-ty.invariant in
    let i = c.loop-ty.ty-index in
    let x = c.ty-item.result in
    let below : i < count ts = omega (arith, counts, c.loop-ty-test.true) in
    let at : m.ty x ≡ nth i ts = slice_nth m.ty list ts said i x x below c.ty-item.is in
    let is : of_member every i ts ≡ components every (m.ty x) = member_is every i ts (m.ty x) true below at refl in
    let adds : AddsSome m (components every ts) c.args.out.now.items c.collect_type.new.out.items =
    adds_after m (components every ts) _ _ _ inv.adds
    (adds_within m (components every (m.ty x)) (components every ts) _ _
    (λ P s. member_in every i ts P (subst (SomeIs P) (sym is) s)) c.collect_type.ensures.some) in
    adds

pub collect_tys-loop-ty-preserved : goal.collect_tys-loop-ty-preserved
collect_tys-loop-ty-preserved g t' c =
    let m = g.I.Interner.meaning c.args.cx.now in
    let eq = (ghosts g.row.I-Key g.I.Key.PartialEq g.I.Key.PartialEq-dict).eq in
    let ts = m.tys c.args.tys in
    let list = c.tys-ty-items.result.now in
    let said = c.tys-ty-items.ensures in
    let counts = slice_counts m.ty list ts said in
    let inv = c.loop-ty.invariant in
    let i = c.loop-ty.ty-index in
    let x = c.ty-item.result in
    let below : i < count ts = omega (arith, counts, c.loop-ty-test.true) in
    let at : m.ty x ≡ nth i ts = slice_nth m.ty list ts said i x x below c.ty-item.is in
    let is : of_member every i ts ≡ components every (m.ty x) = member_is every i ts (m.ty x) true below at refl in
    let adds : AddsSome m (components every ts) c.args.out.now.items c.collect_type.new.out.items =
    adds_after m (components every ts) _ _ _ inv.adds
    (adds_within m (components every (m.ty x)) (components every ts) _ _
    (λ P s. member_in every i ts P (subst (SomeIs P) (sym is) s)) c.collect_type.ensures.some) in
    let next : i + 1 ≡ i + 1 = refl in
    let some = c.collect_type.ensures.some in
    let r = c.in_ok-collect_type.ensures in
    record {
      adds = adds;
      has = next_place (λ k. HasAll m (of_member every k ts) c.collect_type.new.out.items) i (i + 1) next
          (λ k l. has_grown m _ (components every (m.ty x)) _ _ some (inv.has k l)) (has_as m _ _ _ (sym is) r.all);
      meets = meets_after m eq (keys_of c.args.visited.now) (keys_of c.loop-ty.visited) (keys_of c.collect_type.new.visited)
          (components every (m.ty x)) c.loop-ty.out.items c.collect_type.new.out.items some inv.meets r.meets;
    }

pub collect_tys-returns-clause-some : goal.collect_tys-returns-clause-some
collect_tys-returns-clause-some g t' c = c.loop-ty.invariant.adds

pub collect_tys-returns-clause-all : goal.collect_tys-returns-clause-all
collect_tys-returns-clause-all g t' c =
    let m = g.I.Interner.meaning c.args.cx.now in
    let eq = (ghosts g.row.I-Key g.I.Key.PartialEq g.I.Key.PartialEq-dict).eq in
    let ts = m.tys c.args.tys in
    let list = c.tys-ty-items.result.now in
    let said = c.tys-ty-items.ensures in
    let counts = slice_counts m.ty list ts said in
    let inv = c.loop-ty.invariant in
    let test = c.loop-ty-test.false in
    let end = (c.loop-ty.auto).ty-index-end in
    has_members m c.loop-ty.out.items every ts (slice_list m.ty list ts said)
    (λ j l. inv.has j (omega (arith, l, counts, test, end)))

pub collect_tys-returns-clause-meets : goal.collect_tys-returns-clause-meets
collect_tys-returns-clause-meets g t' c = c.loop-ty.invariant.meets

pub collect_form-returns-in-Param-clause-some : goal.collect_form-returns-in-Param-clause-some
collect_form-returns-in-Param-clause-some g t' c =
    let m = g.I.Interner.meaning c.args.cx.now in
    let w = m.ty c.args.ty in
    let x = c.in-Param.param in
    let e : w ≡ kind_tree m (ParamForm x) = c.ty_kind-kind.ensures ∙ ap (kind_tree m) c.in-Param.is in
    let is : components every w ≡ w ∷ [] = subst (λ z. components every z ≡ z ∷ []) (sym e) (refl) in
    let s = sym e in
    added_some m (components every w) (Param x) w _ _ c.add.result c.add.ensures.ok c.add.ensures.err is s

pub collect_form-returns-in-Param-clause-all : goal.collect_form-returns-in-Param-clause-all
collect_form-returns-in-Param-clause-all g t' c =
    let m = g.I.Interner.meaning c.args.cx.now in
    let w = m.ty c.args.ty in
    let x = c.in-Param.param in
    let e : w ≡ kind_tree m (ParamForm x) = c.ty_kind-kind.ensures ∙ ap (kind_tree m) c.in-Param.is in
    let is : components every w ≡ w ∷ [] = subst (λ z. components every z ≡ z ∷ []) (sym e) (refl) in
    let s = sym e in
    added_all m (components every w) (Param x) w _ _ c.add.result c.add.ensures.ok is s

pub collect_form-returns-in-Param-clause-meets : goal.collect_form-returns-in-Param-clause-meets
collect_form-returns-in-Param-clause-meets g t' c =
    let m = g.I.Interner.meaning c.args.cx.now in
    let eq = (ghosts g.row.I-Key g.I.Key.PartialEq g.I.Key.PartialEq-dict).eq in
    on_ok c.add.result _
    (meets_none m eq (keys_of c.args.visited.now) (keys_of c.args.visited.now) c.add.new.out.items refl)

pub collect_form-returns-in-Placeholder-clause-some : goal.collect_form-returns-in-Placeholder-clause-some
collect_form-returns-in-Placeholder-clause-some g t' c =
    let m = g.I.Interner.meaning c.args.cx.now in
    let w = m.ty c.args.ty in
    let x = c.in-Placeholder.placeholder in
    let e : w ≡ kind_tree m (PlaceholderForm x) = c.ty_kind-kind.ensures ∙ ap (kind_tree m) c.in-Placeholder.is in
    let is : components every w ≡ w ∷ [] = subst (λ z. components every z ≡ z ∷ []) (sym e) (refl) in
    let s = sym e in
    added_some m (components every w) (Placeholder x) w _ _ c.add-in-Placeholder.result c.add-in-Placeholder.ensures.ok c.add-in-Placeholder.ensures.err is s

pub collect_form-returns-in-Placeholder-clause-all : goal.collect_form-returns-in-Placeholder-clause-all
collect_form-returns-in-Placeholder-clause-all g t' c =
    let m = g.I.Interner.meaning c.args.cx.now in
    let w = m.ty c.args.ty in
    let x = c.in-Placeholder.placeholder in
    let e : w ≡ kind_tree m (PlaceholderForm x) = c.ty_kind-kind.ensures ∙ ap (kind_tree m) c.in-Placeholder.is in
    let is : components every w ≡ w ∷ [] = subst (λ z. components every z ≡ z ∷ []) (sym e) (refl) in
    let s = sym e in
    added_all m (components every w) (Placeholder x) w _ _ c.add-in-Placeholder.result c.add-in-Placeholder.ensures.ok is s

pub collect_form-returns-in-Placeholder-clause-meets : goal.collect_form-returns-in-Placeholder-clause-meets
collect_form-returns-in-Placeholder-clause-meets g t' c =
    let m = g.I.Interner.meaning c.args.cx.now in
    let eq = (ghosts g.row.I-Key g.I.Key.PartialEq g.I.Key.PartialEq-dict).eq in
    on_ok c.add-in-Placeholder.result _
    (meets_none m eq (keys_of c.args.visited.now) (keys_of c.args.visited.now) c.add-in-Placeholder.new.out.items refl)

pub collect_form-returns-in-Infer-clause-some : goal.collect_form-returns-in-Infer-clause-some
collect_form-returns-in-Infer-clause-some g t' c =
    let m = g.I.Interner.meaning c.args.cx.now in
    let w = m.ty c.args.ty in
    let x = c.in-Infer.var in
    let e : w ≡ kind_tree m (InferForm x) = c.ty_kind-kind.ensures ∙ ap (kind_tree m) c.in-Infer.is in
    let is : components every w ≡ w ∷ [] = subst (λ z. components every z ≡ z ∷ []) (sym e) (infer_is x) in
    let s = sym e in
    added_some m (components every w) (UnresolvedInferenceVariable x) w _ _ c.add-in-Infer.result c.add-in-Infer.ensures.ok c.add-in-Infer.ensures.err is s

pub collect_form-returns-in-Infer-clause-all : goal.collect_form-returns-in-Infer-clause-all
collect_form-returns-in-Infer-clause-all g t' c =
    let m = g.I.Interner.meaning c.args.cx.now in
    let w = m.ty c.args.ty in
    let x = c.in-Infer.var in
    let e : w ≡ kind_tree m (InferForm x) = c.ty_kind-kind.ensures ∙ ap (kind_tree m) c.in-Infer.is in
    let is : components every w ≡ w ∷ [] = subst (λ z. components every z ≡ z ∷ []) (sym e) (infer_is x) in
    let s = sym e in
    added_all m (components every w) (UnresolvedInferenceVariable x) w _ _ c.add-in-Infer.result c.add-in-Infer.ensures.ok is s

pub collect_form-returns-in-Infer-clause-meets : goal.collect_form-returns-in-Infer-clause-meets
collect_form-returns-in-Infer-clause-meets g t' c =
    let m = g.I.Interner.meaning c.args.cx.now in
    let eq = (ghosts g.row.I-Key g.I.Key.PartialEq g.I.Key.PartialEq-dict).eq in
    on_ok c.add-in-Infer.result _
    (meets_none m eq (keys_of c.args.visited.now) (keys_of c.args.visited.now) c.add-in-Infer.new.out.items refl)

pub collect_form-collect_escaping-requires : goal.collect_form-collect_escaping-requires
collect_form-collect_escaping-requires g t' c κs within =
    let m = g.I.Interner.meaning c.args.cx.now in
    let w = m.ty c.args.ty in
    let x = c.in-Alias.alias in
    let e : w ≡ kind_tree m (AliasForm x) = c.ty_kind-kind.ensures ∙ ap (kind_tree m) c.in-Alias.is in
    let ts = m.args x.args in
    let d = c.decreases in
    let k : IsTrue (known ts) = subst (λ z. IsTrue (known z)) e c.requires.known in
    let is : size w ≡ suc (size ts) = ap size e in
    let small : 6 * size ts + 4 < 6 * size w + 2 = omega (arith, is) in
    let f : bound_var_escapes (kind_tree m (AliasForm x)) ≡ true =
    ap bound_var_escapes (sym e) ∙ sym c.has_escaping_bound_vars.ensures ∙ c.if-has_escaping_bound_vars.true in
    search rules

pub collect_form-returns-in-Alias-clause-some : goal.collect_form-returns-in-Alias-clause-some
collect_form-returns-in-Alias-clause-some g t' c =
    let m = g.I.Interner.meaning c.args.cx.now in
    let w = m.ty c.args.ty in
    let x = c.in-Alias.alias in
    let e : w ≡ kind_tree m (AliasForm x) = c.ty_kind-kind.ensures ∙ ap (kind_tree m) c.in-Alias.is in
    adds_as m _ _ _ _ (sym (ap (components every) e)) c.collect_escaping.ensures.some

pub collect_form-returns-in-Alias-clause-all : goal.collect_form-returns-in-Alias-clause-all
collect_form-returns-in-Alias-clause-all g t' c =
    let m = g.I.Interner.meaning c.args.cx.now in
    let w = m.ty c.args.ty in
    let x = c.in-Alias.alias in
    let e : w ≡ kind_tree m (AliasForm x) = c.ty_kind-kind.ensures ∙ ap (kind_tree m) c.in-Alias.is in
    subst (λ z. OnOk c.collect_escaping.result (HasAll m z c.collect_escaping.new.out.items))
    (sym (ap (components every) e)) c.collect_escaping.ensures.all

pub collect_form-returns-in-Alias-clause-meets : goal.collect_form-returns-in-Alias-clause-meets
collect_form-returns-in-Alias-clause-meets g t' c =
    let m = g.I.Interner.meaning c.args.cx.now in
    let eq = (ghosts g.row.I-Key g.I.Key.PartialEq g.I.Key.PartialEq-dict).eq in
    on_ok c.collect_escaping.result _
    (meets_none m eq (keys_of c.args.visited.now) (keys_of c.args.visited.now) c.collect_escaping.new.out.items refl)

pub collect_form-returns-in-Alias-2-clause-some : goal.collect_form-returns-in-Alias-2-clause-some
collect_form-returns-in-Alias-2-clause-some g t' c =
    let m = g.I.Interner.meaning c.args.cx.now in
    let w = m.ty c.args.ty in
    let x = c.in-Alias-2.alias in
    let e : w ≡ kind_tree m (AliasForm x) = c.ty_kind-kind.ensures ∙ ap (kind_tree m) c.in-Alias-2.is in
    let is : components every w ≡ w ∷ [] = subst (λ z. components every z ≡ z ∷ []) (sym e) refl in
    let f : bound_var_escapes w ≡ false = sym c.has_escaping_bound_vars.ensures ∙ c.if-has_escaping_bound_vars.false in
    added_some m (components every w) (Alias x) w _ _ c.add-in-Alias-2.result c.add-in-Alias-2.ensures.ok
    c.add-in-Alias-2.ensures.err is (f, sym e)

pub collect_form-returns-in-Alias-2-clause-all : goal.collect_form-returns-in-Alias-2-clause-all
collect_form-returns-in-Alias-2-clause-all g t' c =
    let m = g.I.Interner.meaning c.args.cx.now in
    let w = m.ty c.args.ty in
    let x = c.in-Alias-2.alias in
    let e : w ≡ kind_tree m (AliasForm x) = c.ty_kind-kind.ensures ∙ ap (kind_tree m) c.in-Alias-2.is in
    let is : components every w ≡ w ∷ [] = subst (λ z. components every z ≡ z ∷ []) (sym e) refl in
    let f : bound_var_escapes w ≡ false = sym c.has_escaping_bound_vars.ensures ∙ c.if-has_escaping_bound_vars.false in
    added_all m (components every w) (Alias x) w _ _ c.add-in-Alias-2.result c.add-in-Alias-2.ensures.ok is (f, sym e)

pub collect_form-returns-in-Alias-2-clause-meets : goal.collect_form-returns-in-Alias-2-clause-meets
collect_form-returns-in-Alias-2-clause-meets g t' c =
    let m = g.I.Interner.meaning c.args.cx.now in
    let eq = (ghosts g.row.I-Key g.I.Key.PartialEq g.I.Key.PartialEq-dict).eq in
    on_ok c.add-in-Alias-2.result _
    (meets_none m eq (keys_of c.args.visited.now) (keys_of c.args.visited.now) c.add-in-Alias-2.new.out.items refl)

pub collect_ty-collect_form-requires : goal.collect_ty-collect_form-requires
collect_ty-collect_form-requires g t' c κs within =
    let w = (g.I.Interner.meaning c.args.cx.now).ty c.args.ty in
    let d = c.decreases in
    let small : 6 * size w + 2 < 6 * size w + 3 = omega arith in
    search rules

pub collect_ty-returns-in_err-collect_region-in-Ref-clause-some : goal.collect_ty-returns-in_err-collect_region-in-Ref-clause-some
collect_ty-returns-in_err-collect_region-in-Ref-clause-some g t' c =
    let m = g.I.Interner.meaning c.args.cx.now in
    let w = m.ty c.args.ty in
    let x = c.in-Ref in
    let e : w ≡ kind_tree m (RefForm x.region x.pointee _) = c.ty_kind.ensures ∙ ap (kind_tree m) x.is in
    let rs = components every (m.region x.region) in
    let ts = components every (m.ty x.pointee) in
    let is : components every w ≡ rs ++ ts = ap (components every) e ∙ ap (λ z. rs ++ z) (append-nil ts) in
    let first : AddsSome m (components every w) c.args.out.now.items c.collect_region.new.out.items =
    adds_within m rs (components every w) _ _ (λ P s. subst (SomeIs P) (sym is) (in_left rs ts P s))
    c.collect_region.ensures.some in
    first

pub collect_ty-collect_type-requires-in-Ref : goal.collect_ty-collect_type-requires-in-Ref
collect_ty-collect_type-requires-in-Ref g t' c κs within =
    let m = g.I.Interner.meaning c.args.cx.now in
    let w = m.ty c.args.ty in
    let x = c.in-Ref in
    let e : w ≡ kind_tree m (RefForm x.region x.pointee _) = c.ty_kind.ensures ∙ ap (kind_tree m) x.is in
    let rs = components every (m.region x.region) in
    let ts = components every (m.ty x.pointee) in
    let is : components every w ≡ rs ++ ts = ap (components every) e ∙ ap (λ z. rs ++ z) (append-nil ts) in
    let eq = (ghosts g.row.I-Key g.I.Key.PartialEq g.I.Key.PartialEq-dict).eq in
    let n = suc (size (m.ty x.pointee)) in
    let xs = keys_of c.args.visited.now in
    let out = c.args.out.now.items in
    let next = c.collect_region.new.out.items in
    let size_is = ap size e in
    let d = c.decreases in
    let k = subst (λ z. IsTrue (known z)) e c.requires.known in
    let small : 6 * size (m.ty x.pointee) + 4 < 6 * size w + 3 = omega (arith, size_is) in
    let fits : n ≤ size w = omega (arith, size_is) in
    let below = settled_below m eq (size w) n xs out fits c.requires.settled in
    let s = settled_after m eq n xs xs rs out next c.collect_region.ensures.some below (meets_none m eq xs xs next refl) in
    search rules

pub collect_ty-returns-in_ok-collect_region-in-Ref-clause-some : goal.collect_ty-returns-in_ok-collect_region-in-Ref-clause-some
collect_ty-returns-in_ok-collect_region-in-Ref-clause-some g t' c =
    let m = g.I.Interner.meaning c.args.cx.now in
    let w = m.ty c.args.ty in
    let x = c.in-Ref in
    let e : w ≡ kind_tree m (RefForm x.region x.pointee _) = c.ty_kind.ensures ∙ ap (kind_tree m) x.is in
    let rs = components every (m.region x.region) in
    let ts = components every (m.ty x.pointee) in
    let is : components every w ≡ rs ++ ts = ap (components every) e ∙ ap (λ z. rs ++ z) (append-nil ts) in
    let first : AddsSome m (components every w) c.args.out.now.items c.collect_region.new.out.items =
    adds_within m rs (components every w) _ _ (λ P s. subst (SomeIs P) (sym is) (in_left rs ts P s))
    c.collect_region.ensures.some in
    adds_after m (components every w) _ _ _ first
    (adds_within m ts (components every w) _ _ (λ P s. subst (SomeIs P) (sym is) (in_right rs ts P s))
    c.collect_type-in-Ref.ensures.some)

pub collect_ty-returns-in_ok-collect_region-in-Ref-clause-all : goal.collect_ty-returns-in_ok-collect_region-in-Ref-clause-all
collect_ty-returns-in_ok-collect_region-in-Ref-clause-all g t' c =
    let m = g.I.Interner.meaning c.args.cx.now in
    let w = m.ty c.args.ty in
    let x = c.in-Ref in
    let e : w ≡ kind_tree m (RefForm x.region x.pointee _) = c.ty_kind.ensures ∙ ap (kind_tree m) x.is in
    let rs = components every (m.region x.region) in
    let ts = components every (m.ty x.pointee) in
    let is : components every w ≡ rs ++ ts = ap (components every) e ∙ ap (λ z. rs ++ z) (append-nil ts) in
    ok_map c.collect_type-in-Ref.result
    (λ h. has_as m _ _ _ (sym is) (has_both m rs ts _
    (has_grown m rs ts _ _ c.collect_type-in-Ref.ensures.some c.in_ok-collect_region-in-Ref.ensures.all) h))
    c.collect_type-in-Ref.ensures.all

pub collect_form-collect_members-requires : goal.collect_form-collect_members-requires
collect_form-collect_members-requires g t' c κs within =
    let m = g.I.Interner.meaning c.args.cx.now in
    let eq = (ghosts g.row.I-Key g.I.Key.PartialEq g.I.Key.PartialEq-dict).eq in
    let w = m.ty c.args.ty in
    let k' = c.ty_kind-kind.result in
    let ps = c.ty_parts.result in
    let seen : parts_tree m ps ≡ parts_of w = ty_seen m ps w k' c.ty_kind-kind.ensures c.ty_parts.ensures in
    let less = parts_small w in
    let is : size (parts_tree m ps) ≡ size (parts_of w) = ap size seen in
    let d = c.decreases in
    let k : IsTrue (known (parts_tree m ps)) =
    subst (λ z. IsTrue (known z)) (sym seen) (known_parts w c.requires.known) in
    let small : 6 * size (parts_tree m ps) + 1 < 6 * size w + 2 = omega (arith, less, is) in
    let s = settled_below m eq (size w) (size (parts_tree m ps)) (keys_of c.args.visited.now) c.args.out.now.items
    (omega (arith, less, is)) c.requires.settled in
    search rules

pub collect_form-returns-in_default : goal.collect_form-returns-in_default
collect_form-returns-in_default g t' c =
    let m = g.I.Interner.meaning c.args.cx.now in
    let w = m.ty c.args.ty in
    let k' = c.ty_kind-kind.result in
    let ps = c.ty_parts.result in
    let seen : parts_tree m ps ≡ parts_of w = ty_seen m ps w k' c.ty_kind-kind.ensures c.ty_parts.ensures in
    let n = c.in_default in
    let f = form_parts m k' n.not-Param n.not-Placeholder n.not-Infer n.not-Alias in
    let is = c.ty_kind-kind.ensures in
    let ch = choice_in (kind_tree m k') in
    let e : components (meant m c.form_chosen.result) (parts_tree m ps) ≡ components every w =
    ap (λ z. components z (parts_tree m ps)) (c.form_chosen.ensures m)
    ∙ ap (components ch) (seen ∙ ap parts_of is) ∙ f ∙ ap (components every) (sym is) in
    let r = c.collect_members in
    record {
      some = adds_as m _ _ _ _ e r.ensures.some;
      all = subst (λ z. OnOk r.result (HasAll m z r.new.out.items)) e r.ensures.all;
      meets = r.ensures.meets;
    }
