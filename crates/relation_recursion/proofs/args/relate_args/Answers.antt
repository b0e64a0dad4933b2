use Rattle.std.proofs.Common.{◌≡◌, ◌<◌, suc, refl, sym, ap, ◌∙◌, subst, subst₂, arith, IsTrue, Ok, Err}
use Rattle.relation_terms.specs.declared.terms.keys.ArgsKey.{ArgsKey}
use Rattle.relation_terms.specs.Heads.{argument_sort}
use Rattle.relation_terms.specs.Trees.{Tree, node, known, count, nth, list_tree}
use Rattle.term_enums.specs.Variances.{xform}
use Rattle.relation_terms.specs.Meaning.{arg_tree}
use Rattle.relation_terms.specs.Interning.{Sorted}
use Rattle.relation_semantics.specs.Relation.{part_at}
use Rattle.relation_steps.specs.Arguments.{args_head}
use Rattle.relation_semantics.specs.Lawful.{MayAnswer, Related, items_in}
use Rattle.relation_semantics.proofs.Standing.{term_context}
use Rattle.relation_semantics.proofs.Parts.{in_parts}
use Rattle.relation_terms.proofs.Stays.{stays_list, stays_arg}
use Rattle.relation_folds.specs.declared.error.RelateFault.TheVariants.{Memory}
use Rattle.relation_semantics.proofs.Lists.{snoc, list_push}
use Rattle.relation_semantics.proofs.Passing.{as_err}
use Rattle.relation_steps.proofs.Fronts.{Fronted, fronted_none, fronted_next}
use Rattle.relation_recursion.proofs.Looping.{next_asked}
use Rattle.relation_recursion.proofs.Arguments.{form_related, form_refused, form_stopped, args_related_head, args_looked_at, args_normal}
use Rattle.relation_recursion.proofs.Arguments.{args_first_order, args_complain, args_heads}
use Rattle.relation_semantics.proofs.Answering.{same_items, AreAnswers, answers_none, answers_next, answers_end, may_form}
use Rattle.relation_folds.proofs.Folding.{if_ok_both}
use Rattle.relation_semantics.proofs.Retelling.{made_or_not}
use Rattle.relation_recursion.proofs.args.relate_args.Goals as goal
use Rattle.relation_terms.proofs.Members.{terms_list}

pub loop-i-init : goal.loop-i-init
loop-i-init g c =
    let r = g.R.HasState.state c.args.r.now in
    let h = args_head r.meaning c.args.variances.now in
    let ts = (r.meaning).args c.args.a.now in
    let us = (r.meaning).args c.args.b.now in
    let k = c.requires.asked in
    let e = g.met.R.TypeRelation.reads c.args.r.now in
    let cx = g.R.TypeRelation.interner c.args.r.now in
    let sorted : Sorted r.meaning = subst (λ m. Sorted m) (sym e) (g.met.I.Interner.sorted cx) in
    record {
      lawful = c.requires.lawful;
      fronted = fronted_none g.R.TypeRelation.manner r h r.ambient ts us;
      counts = c.args_count_of-n.ensures.counts;
      are_parts = record {
        left_list = terms_list argument_sort ts (sorted.args c.args.a.now k.left_known);
        right_list = terms_list argument_sort us (sorted.args c.args.b.now k.right_known);
        left_in = term_context r.store ts (in_parts r.store (node h ts) k.left_in);
        right_in = term_context r.store us (in_parts r.store (node h us) k.right_in);
      };
      answers = subst (λ z. AreAnswers g.R.TypeRelation.manner r h r.ambient 0 ts (list_tree (arg_tree r.meaning) z))
          (sym c.new-answers.ensures.items) (answers_none g.R.TypeRelation.manner r h r.ambient ts);
    }

pub relate_with_variance-requires-clause-asked : goal.relate_with_variance-requires-clause-asked
relate_with_variance-requires-clause-asked g c =
    let r = g.R.HasState.state c.args.r.now in
    let M = g.R.TypeRelation.manner in
    let q = g.R.HasState.state c.loop-i.r in
    let h = args_head r.meaning c.args.variances.now in
    let ts = (r.meaning).args c.args.a.now in
    let us = (r.meaning).args c.args.b.now in
    let i = c.loop-i.i in
    let inv = c.loop-i.invariant in
    let k = c.requires.asked in
    let extends = ((inv.fronted).passes).extends in
    let test = c.loop-i-test.true in
    let as_many = c.requires.as_many in
    let lx : i < count ts = omega (arith, test, inv.counts) in
    let ly : i < count us = omega (arith, test, inv.counts, as_many) in
    let x = arg_tree q.meaning c.arg_of-x.result in
    let y = arg_tree q.meaning c.arg_of-y.result in
    let ex : x ≡ nth i ts = c.arg_of-x.ensures.means ∙ ap (nth i) (extends.args c.args.a.now k.left_known) in
    let ey : y ≡ nth i us = c.arg_of-y.ensures.means ∙ ap (nth i) (extends.args c.args.b.now k.right_known) in
    let w = xform q.ambient c.variance_of-variance.result in
    let ew : w ≡ part_at (items_in r) h i r.ambient =
    c.variance_of-variance.ensures
    ∙ ap (λ z. part_at (items_in q) z i q.ambient) (args_heads extends c.args.variances.now)
    ∙ ap (λ z. part_at z h i q.ambient) (same_items (inv.fronted).passes)
    ∙ ap (λ z. part_at (items_in r) h i z) ((inv.fronted).passes).ambient in
    next_asked M g.met.R.TypeRelation.takes_parts r q (node h ts) (node h us) i x y c.arg_of-x.ensures.sure
    c.arg_of-y.ensures.sure k inv.fronted lx ly ex ey w ew ew

pub returns-in_err-answer : goal.returns-in_err-answer
returns-in_err-answer g c j alike =
    let d = c.args.variances.now in
    let r = g.R.HasState.state c.args.r.now in
    let M = g.R.TypeRelation.manner in
    let q = g.R.HasState.state c.loop-i.r in
    let p = g.R.HasState.state c.relate_with_variance.new.r in
    let h = args_head r.meaning c.args.variances.now in
    let ts = (r.meaning).args c.args.a.now in
    let us = (r.meaning).args c.args.b.now in
    let i = c.loop-i.i in
    let inv = c.loop-i.invariant in
    let k = c.requires.asked in
    let extends = ((inv.fronted).passes).extends in
    let test = c.loop-i-test.true in
    let as_many = c.requires.as_many in
    let lx : i < count ts = omega (arith, test, inv.counts) in
    let ly : i < count us = omega (arith, test, inv.counts, as_many) in
    let x = arg_tree q.meaning c.arg_of-x.result in
    let y = arg_tree q.meaning c.arg_of-y.result in
    let ex : x ≡ nth i ts = c.arg_of-x.ensures.means ∙ ap (nth i) (extends.args c.args.a.now k.left_known) in
    let ey : y ≡ nth i us = c.arg_of-y.ensures.means ∙ ap (nth i) (extends.args c.args.b.now k.right_known) in
    let w = xform q.ambient c.variance_of-variance.result in
    let ew : w ≡ part_at (items_in r) h i r.ambient =
    c.variance_of-variance.ensures
    ∙ ap (λ z. part_at (items_in q) z i q.ambient) (args_heads extends c.args.variances.now)
    ∙ ap (λ z. part_at z h i q.ambient) (same_items (inv.fronted).passes)
    ∙ ap (λ z. part_at (items_in r) h i z) ((inv.fronted).passes).ambient in
    let f = c.in_err-answer.field-0.0 in
    let gone = subst (λ v. Related M q p v x y (arg_tree p.meaning) (Err f)) ew c.in_err-answer.ensures.related in
    subst (λ z. Related M r p r.ambient (node h ts) (node j us)
    (λ k. node (args_head p.meaning d) ((p.meaning).args k)) z)
    (sym (as_err c.from_residual.result f c.from_residual.ensures.0 c.from_residual.ensures.1))
    (form_refused M r.ambient h j ts us i inv.fronted inv.are_parts (args_looked_at r.meaning d) x y lx ly ex ey
    (λ s e. args_complain r.meaning s.meaning s.kept.settings (items_in s) s.store r.ambient e ts us i as_many lx d j
    alike) (arg_tree p.meaning) (λ k. node (args_head p.meaning d) ((p.meaning).args k)) f gone)

pub returns-in_err-push : goal.returns-in_err-push
returns-in_err-push g c j alike =
    let d = c.args.variances.now in
    let r = g.R.HasState.state c.args.r.now in
    let M = g.R.TypeRelation.manner in
    let q = g.R.HasState.state c.loop-i.r in
    let p = g.R.HasState.state c.relate_with_variance.new.r in
    let h = args_head r.meaning c.args.variances.now in
    let ts = (r.meaning).args c.args.a.now in
    let us = (r.meaning).args c.args.b.now in
    let i = c.loop-i.i in
    let inv = c.loop-i.invariant in
    let k = c.requires.asked in
    let extends = ((inv.fronted).passes).extends in
    let test = c.loop-i-test.true in
    let as_many = c.requires.as_many in
    let lx : i < count ts = omega (arith, test, inv.counts) in
    let ly : i < count us = omega (arith, test, inv.counts, as_many) in
    let x = arg_tree q.meaning c.arg_of-x.result in
    let y = arg_tree q.meaning c.arg_of-y.result in
    let ex : x ≡ nth i ts = c.arg_of-x.ensures.means ∙ ap (nth i) (extends.args c.args.a.now k.left_known) in
    let ey : y ≡ nth i us = c.arg_of-y.ensures.means ∙ ap (nth i) (extends.args c.args.b.now k.right_known) in
    let w = xform q.ambient c.variance_of-variance.result in
    let ew : w ≡ part_at (items_in r) h i r.ambient =
    c.variance_of-variance.ensures
    ∙ ap (λ z. part_at (items_in q) z i q.ambient) (args_heads extends c.args.variances.now)
    ∙ ap (λ z. part_at z h i q.ambient) (same_items (inv.fronted).passes)
    ∙ ap (λ z. part_at (items_in r) h i z) ((inv.fronted).passes).ambient in
    let n = c.in_ok-answer in
    let gone = subst (λ v. Related M q p v x y (arg_tree p.meaning) (Ok n.answer)) ew (n.ensures).related in
    let next = fronted_next h r.ambient i ts us x y inv.fronted lx ly ex ey (arg_tree p.meaning) n.answer inv.are_parts
    gone in
    subst (λ z. Related M r p r.ambient (node h ts) (node j us)
    (λ k. node (args_head p.meaning d) ((p.meaning).args k)) z)
    (sym (as_err c.from_residual-in_err-push.result Memory c.from_residual-in_err-push.ensures.0
    c.from_residual-in_err-push.ensures.1))
    (form_stopped M r.ambient h j ts us (suc i) next inv.are_parts (args_looked_at r.meaning d)
    (λ k. node (args_head p.meaning d) ((p.meaning).args k)))

pub loop-i-preserved : goal.loop-i-preserved
loop-i-preserved g c =
    let r = g.R.HasState.state c.args.r.now in
    let M = g.R.TypeRelation.manner in
    let q = g.R.HasState.state c.loop-i.r in
    let p = g.R.HasState.state c.relate_with_variance.new.r in
    let h = args_head r.meaning c.args.variances.now in
    let ts = (r.meaning).args c.args.a.now in
    let us = (r.meaning).args c.args.b.now in
    let i = c.loop-i.i in
    let inv = c.loop-i.invariant in
    let k = c.requires.asked in
    let extends = ((inv.fronted).passes).extends in
    let test = c.loop-i-test.true in
    let as_many = c.requires.as_many in
    let lx : i < count ts = omega (arith, test, inv.counts) in
    let ly : i < count us = omega (arith, test, inv.counts, as_many) in
    let x = arg_tree q.meaning c.arg_of-x.result in
    let y = arg_tree q.meaning c.arg_of-y.result in
    let ex : x ≡ nth i ts = c.arg_of-x.ensures.means ∙ ap (nth i) (extends.args c.args.a.now k.left_known) in
    let ey : y ≡ nth i us = c.arg_of-y.ensures.means ∙ ap (nth i) (extends.args c.args.b.now k.right_known) in
    let w = xform q.ambient c.variance_of-variance.result in
    let ew : w ≡ part_at (items_in r) h i r.ambient =
    c.variance_of-variance.ensures
    ∙ ap (λ z. part_at (items_in q) z i q.ambient) (args_heads extends c.args.variances.now)
    ∙ ap (λ z. part_at z h i q.ambient) (same_items (inv.fronted).passes)
    ∙ ap (λ z. part_at (items_in r) h i z) ((inv.fronted).passes).ambient in
    let n = c.in_ok-answer in
    let gone = subst (λ v. Related M q p v x y (arg_tree p.meaning) (Ok n.answer)) ew (n.ensures).related in
    let was = c.loop-i.answers.items in
    let pushed : list_tree (arg_tree p.meaning) c.push.new.self.items
    ≡ snoc (list_tree (arg_tree q.meaning) was) (arg_tree p.meaning n.answer) =
    ap (list_tree (arg_tree p.meaning)) c.in_ok-push.ensures.items
    ∙ list_push (arg_tree p.meaning) was n.answer
    ∙ ap (λ z. snoc z (arg_tree p.meaning n.answer)) (stays_list (arg_tree q.meaning) (arg_tree p.meaning) was
    (stays_arg (gone.passes).extends) (inv.answers).sure) in
    record {
      lawful = (gone.passes).lawful inv.lawful;
      fronted = subst (λ j. Fronted M r p h r.ambient j ts us) (omega arith)
          (fronted_next h r.ambient i ts us x y inv.fronted lx ly ex ey (arg_tree p.meaning) n.answer inv.are_parts
          gone);
      counts = inv.counts;
      are_parts = inv.are_parts;
      answers = subst₂ (λ j z. AreAnswers M p h r.ambient j ts z) (omega arith) (sym pushed)
          (answers_next M h r.ambient i ts (list_tree (arg_tree q.meaning) c.loop-i.answers.items) x
          (arg_tree p.meaning n.answer) gone.passes lx inv.answers ex
          (subst (λ z. MayAnswer M p (part_at z h i r.ambient) x (arg_tree p.meaning n.answer))
          (sym (same_items (inv.fronted).passes)) (gone.verdict).answer) (gone.verdict).known);
    }

pub returns : goal.returns
returns g c j alike =
    let d = c.args.variances.now in
    let r = g.R.HasState.state c.args.r.now in
    let M = g.R.TypeRelation.manner in
    let q = g.R.HasState.state c.loop-i.r in
    let p = g.R.HasState.state c.make_args.new.r in
    let h = args_head r.meaning c.args.variances.now in
    let ts = (r.meaning).args c.args.a.now in
    let us = (r.meaning).args c.args.b.now in
    let i = c.loop-i.i in
    let inv = c.loop-i.invariant in
    let k = c.requires.asked in
    let extends = ((inv.fronted).passes).extends in
    let test = c.loop-i-test.false in
    let end = (c.loop-i.auto).i-end in
    let all : i ≡ count ts = omega (arith, test, end, inv.counts) in
    let made = c.make_args.ensures in
    let was = list_tree (arg_tree q.meaning) c.loop-i.answers.items in
    let heads = args_heads made.extends c.args.variances.now ∙ args_heads extends c.args.variances.now in
    let tree : ArgsKey g.row.I-Key.Denot → Tree =
    λ k. node (args_head p.meaning c.args.variances.now) ((p.meaning).args k) in
    let value : MayAnswer M q r.ambient (node h ts) (node h was) =
    may_form M q h r.ambient ts was (args_related_head r.meaning c.args.variances.now)
    (answers_end M q h r.ambient i ts was (inv.are_parts).left_list all inv.answers) in
    let done : Related M r q r.ambient (node h ts) (node j us) (λ (t : Tree). t) (Ok (node h ts)) =
    form_related M r.ambient h j ts us i inv.fronted inv.are_parts (args_looked_at r.meaning d) (λ (t : Tree). t)
    (node h ts) alike (args_first_order r.meaning d j alike) (args_related_head r.meaning d)
    (args_normal r.meaning d j ts us alike) all c.requires.as_many refl k.left_known in
    made_or_not M r.ambient (node h ts) (node j us) made.extends made.grown tree (λ (t : Tree). t) (node h ts) done
    c.make_args.result made.fault
    (if_ok_both {P = λ z. IsTrue (known ((p.meaning).args z))}
    {Q = λ z. (p.meaning).args z ≡ list_tree (arg_tree q.meaning) c.as_slice.result.now}
    {R = λ z. MayAnswer M q r.ambient (node h ts) (tree z) × IsTrue (known (tree z))} c.make_args.result
    (λ z sure means. (
      subst (MayAnswer M q r.ambient (node h ts)) (sym (ap (λ x. node x ((p.meaning).args z)) heads
          ∙ ap (node h) (means ∙ ap (list_tree (arg_tree q.meaning)) c.as_slice.ensures.value))) value,
      sure,
    )) made.sure made.means)
