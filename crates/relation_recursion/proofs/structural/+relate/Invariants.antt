use Rattle.std.proofs.Common.{◌≡◌, ◌+◌, ◌*◌}
use Rattle.relation_terms.specs.Trees.{count}
use Rattle.relation_terms.specs.Meaning.{arg_tree}
use Rattle.relation_terms.specs.Parts.{part_tree, Fit}
use Rattle.relation_semantics.specs.Stores.{weight}
use Rattle.relation_semantics.specs.Parts.{direct_parts, const_parts_of, head_of, const_head_of}
use Rattle.relation_semantics.specs.Making.{FitArgs}
use Rattle.relation_semantics.proofs.Going.{depth}
use Rattle.relation_steps.proofs.Fronts.{Fronted, AreParts}
use Rattle.part_variances.proofs.PartErrors.{HaveAsManyInputs}
use Rattle.relation_recursion.proofs.Kept.{AreKept}
use Rattle.relation_recursion.proofs.structural.+relate.Given as goal

abbrev pub decreases-structurally_relate_tys : goal.decreases-structurally_relate_tys
decreases-structurally_relate_tys g l =
    let r = g.R.HasState.state l.r.now in
    8 * depth (r.store).budget (weight r.store ((r.meaning).ty l.a.now) + weight r.store ((r.meaning).ty l.b.now)) + 1

abbrev pub decreases-structurally_relate_consts : goal.decreases-structurally_relate_consts
decreases-structurally_relate_consts g l =
    let r = g.R.HasState.state l.r.now in
    8 * depth (r.store).budget (weight r.store ((r.meaning).const_ l.a.now) + weight r.store ((r.meaning).const_ l.b.now)) + 1

abbrev pub decreases-tys : goal.decreases-tys
decreases-tys g l =
    let r = g.R.HasState.state l.r.now in
    8 * depth (r.store).budget (weight r.store ((r.meaning).ty l.a.now) + weight r.store ((r.meaning).ty l.b.now)) + 2

abbrev pub decreases-consts : goal.decreases-consts
decreases-consts g l =
    let r = g.R.HasState.state l.r.now in
    8 * depth (r.store).budget (weight r.store ((r.meaning).const_ l.a.now) + weight r.store ((r.meaning).const_ l.b.now)) + 2

abbrev pub decreases-relate : goal.decreases-relate
decreases-relate g l =
    let r = g.R.HasState.state l.r.now in
    8 * depth (r.store).budget (weight r.store (arg_tree r.meaning l.a.now) + weight r.store (arg_tree r.meaning l.b.now)) + 3

abbrev pub decreases-relate_with_variance : goal.decreases-relate_with_variance
decreases-relate_with_variance g l =
    let r = g.R.HasState.state l.r.now in
    8 * depth (r.store).budget (weight r.store (arg_tree r.meaning l.a.now) + weight r.store (arg_tree r.meaning l.b.now)) + 4

abbrev pub decreases-relate_again : goal.decreases-relate_again
decreases-relate_again g l =
    let r = g.R.HasState.state l.r.now in
    8 * depth (r.store).budget (weight r.store (arg_tree r.meaning l.a.now) + weight r.store (arg_tree r.meaning l.b.now)) + 5

abbrev pub decreases-relate_in_order : goal.decreases-relate_in_order
decreases-relate_in_order g l =
    let r = g.R.HasState.state l.r.now in
    8 * depth (r.store).budget (weight r.store (part_tree r.meaning l.a.now) + weight r.store (part_tree r.meaning l.b.now))

abbrev pub decreases-relate_parts : goal.decreases-relate_parts
decreases-relate_parts g l =
    let r = g.R.HasState.state l.r.now in
    8 * depth (r.store).budget (weight r.store (part_tree r.meaning l.a.now) + weight r.store (part_tree r.meaning l.b.now)) + 6

abbrev pub decreases-relate_parts_with_variance : goal.decreases-relate_parts_with_variance
decreases-relate_parts_with_variance g l =
    let r = g.R.HasState.state l.r.now in
    8 * depth (r.store).budget (weight r.store (part_tree r.meaning l.a.now) + weight r.store (part_tree r.meaning l.b.now)) + 7

abbrev pub decreases-binders : goal.decreases-binders
decreases-binders g l =
    let r = g.R.HasState.state l.r.now in
    8 * depth (r.store).budget (weight r.store (part_tree r.meaning l.a.now) + weight r.store (part_tree r.meaning l.b.now)) + 4

abbrev pub invariant-structurally_relate_tys-loop-i : goal.invariant-structurally_relate_tys-loop-i
invariant-structurally_relate_tys-loop-i g l =
    let r = g.R.HasState.state l.initial.r in
    let q = g.R.HasState.state l.r in
    let t = (r.meaning).ty l.a in
    let u = (r.meaning).ty l.b in
    record {
      lawful : q.lawful;
      fronted : Fronted g.R.TypeRelation.manner r q (head_of t) r.ambient l.i (direct_parts t) (direct_parts u);
      left_count : l.n ≡ count (direct_parts t);
      right_count : l.n ≡ count (direct_parts u);
      are_parts : AreParts r.store (direct_parts t) (direct_parts u);
      kept : AreKept g.R.TypeRelation.manner q (head_of t) r.ambient l.i (direct_parts t) (arg_tree q.meaning) FitArgs l.answers.items;
    }

abbrev pub invariant-structurally_relate_consts-loop-i : goal.invariant-structurally_relate_consts-loop-i
invariant-structurally_relate_consts-loop-i g l =
    let r = g.R.HasState.state l.initial.r in
    let q = g.R.HasState.state l.r in
    let t = (r.meaning).const_ l.a in
    let u = (r.meaning).const_ l.b in
    record {
      lawful : q.lawful;
      fronted : Fronted g.R.TypeRelation.manner r q (const_head_of t) r.ambient l.i (const_parts_of t) (const_parts_of u);
      left_count : l.n ≡ count (const_parts_of t);
      right_count : l.n ≡ count (const_parts_of u);
      are_parts : AreParts r.store (const_parts_of t) (const_parts_of u);
      kept : AreKept g.R.TypeRelation.manner q (const_head_of t) r.ambient l.i (const_parts_of t) (arg_tree q.meaning) FitArgs l.answers.items;
    }

abbrev pub invariant-relate_in_order-loop-i : goal.invariant-relate_in_order-loop-i
invariant-relate_in_order-loop-i g l =
    let r = g.R.HasState.state l.initial.r in
    let q = g.R.HasState.state l.r in
    let t = part_tree r.meaning l.a in
    let u = part_tree r.meaning l.b in
    record {
      lawful : q.lawful;
      fronted : Fronted g.R.TypeRelation.manner r q (head_of t) r.ambient l.i (direct_parts t) (direct_parts u);
      left_count : l.n ≡ count (direct_parts t);
      right_count : l.n ≡ count (direct_parts u);
      are_parts : AreParts r.store (direct_parts t) (direct_parts u);
      kept : AreKept g.R.TypeRelation.manner q (head_of t) r.ambient l.i (direct_parts t) (part_tree q.meaning) Fit l.answers.items;
      inputs : HaveAsManyInputs t u l.i;
    }
