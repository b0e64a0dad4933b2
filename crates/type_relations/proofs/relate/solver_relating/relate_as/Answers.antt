use Rattle.std.proofs.Common.{rules, ◌≡◌, ◌<◌, Ok, Err, refl, sym, ap, ◌∙◌, arith, subst, [], All}
use Rattle.std.proofs.lemmas.Bool.{false≢true}
use Rattle.std.proofs.lemmas.List.Elements.{All-nil}
use Rattle.relation_terms.specs.Trees.{apply}
use Rattle.relation_semantics.specs.Relation.{same, at}
use Rattle.relation_semantics.specs.Errors.{as_pair}
use Rattle.relation_semantics.specs.Goals.{goals_of, KnowsGoal, MakesOneTree}
use Rattle.relation_semantics.specs.OneUniverse.{all_unbound}
use Rattle.relation_semantics.specs.Lawful.{Related, RefusesAs, ExactResult, items_of}
use Rattle.relation_combining.specs.Solving.{solving_in, solver_manner, solver_settings}
use Rattle.relation_terms.proofs.Stays.{stays_same}
use Rattle.relation_semantics.proofs.Going.{later_itself}
use Rattle.relation_semantics.proofs.Full.{makes_to_instantiate}
use Rattle.relation_semantics.proofs.Roots.{exact_itself}
use Rattle.relation_semantics.proofs.Passing.{as_err}
use Rattle.relation_combining.proofs.Exactly.{unrelated_apart}
use Rattle.context_relation.proofs.Spending.{spends_no_more, spent_as}
use Rattle.context_relation.specs.Relating.{term_in}
use Rattle.relation_steps.specs.Alone.{RelatesAtOnce}
use Rattle.relation_recursion.proofs.RelatableValues.{equal_one, one_equal}
use Rattle.context_relation.proofs.Relating.{answered_alone_in, refused_alone_in, answered_taints, refused_taints, answered_open, refused_open, refused_built}
use Rattle.context_relation.proofs.Relating.{keeps_by, unified_by, refused_keeps, refused_exactly}
use Rattle.relation_semantics.specs.Alphabets.{StaysBuilt, NeedsVariable}
use Rattle.relation_combining.proofs.OverContext.{all_taken}
use Rattle.context_relation.proofs.Solving.{keeps_beside, none_held, answers_goals, keeps_equal, relates_agreeing, registers_goals, no_goals_exactly}
use Rattle.context_relation.proofs.Solving.{adds_just_asked, adds_no_more}
use Rattle.relation_semantics.proofs.AskingSince.{no_more_same}
use Rattle.relation_semantics.specs.Recording.{IsJustAsked}
use Rattle.relation_semantics.proofs.Recording.{nothing_asked}
use Rattle.relation_semantics.proofs.AgreeingBefore.{same_agreed}
use Rattle.relation_semantics.proofs.BuildingSteps.{built_itself}
use Rattle.type_relations.proofs.Refusing.{none_answered, unrelated, fault_known, pays}
use Rattle.type_relations.proofs.relate.solver_relating.relate_as.Goals as goal
use Rattle.context_relation.proofs.Closed.{needs_as, budget_verdict}

pub relate_in-related-requires-clause-asked : goal.relate_in-related-requires-clause-asked
relate_in-related-requires-clause-asked g c =
    let s = g.Infcx.InferCtxtLike.state c.args.infcx.now in
    let k = c.requires.can in
    record {
      left_known = k.lhs_known;
      right_known = k.rhs_known;
      left_in = k.lhs_in;
      right_in = k.rhs_in;
      left_taken = all_taken c.args.variance (term_in s g.T.Relate.over g.T.HasTree.tree c.args.lhs) k.lhs_taken;
      right_taken = all_taken c.args.variance (term_in s g.T.Relate.over g.T.HasTree.tree c.args.rhs) k.rhs_taken;
    }

-- Two that are one are related as they stand, and nothing is done.
pub returns-then-eq-clause-both : goal.returns-then-eq-clause-both
returns-then-eq-clause-both g c =
    let s = g.Infcx.InferCtxtLike.state c.args.infcx.now in
    let k = c.requires.can in
    let a = term_in s g.T.Relate.over g.T.HasTree.tree c.args.lhs in
    let b = term_in s g.T.Relate.over g.T.HasTree.tree c.args.rhs in
    let one = equal_one (g.met.Infcx.InferCtxtLike.reads c.args.infcx.now) g.T.Relate.over g.T.HasTree.tree
    g.T.PartialEq.eq (g.met.T.Relate.same (g.Infcx.InferCtxtLike.interner c.args.infcx.now)) c.args.lhs c.args.rhs
    k.lhs_known k.rhs_known (sym c.if-eq.ensures) in
    record {
      sound = (λ w s sat all. same (ap (apply s) one), λ w s sat. sat);
      agrees = same_agreed (solver_settings c.args.aliases s.setup) (items_of s.meaning) s.store c.args.variance a b one;
    }

pub returns-then-eq-clause-loses_none : goal.returns-then-eq-clause-loses_none
returns-then-eq-clause-loses_none g c =
    let s = g.Infcx.InferCtxtLike.state c.args.infcx.now in
    let k = c.requires.can in
    let a = term_in s g.T.Relate.over g.T.HasTree.tree c.args.lhs in
    let b = term_in s g.T.Relate.over g.T.HasTree.tree c.args.rhs in
    let one = equal_one (g.met.Infcx.InferCtxtLike.reads c.args.infcx.now) g.T.Relate.over g.T.HasTree.tree
    g.T.PartialEq.eq (g.met.T.Relate.same (g.Infcx.InferCtxtLike.interner c.args.infcx.now)) c.args.lhs c.args.rhs
    k.lhs_known k.rhs_known (sym c.if-eq.ensures) in
    record {
      keeps = λ w i sat one. (
        i,
        λ k n h. refl,
        (
          sat,
          subst (λ gs. All (MakesOneTree i) (goals_of s.meaning gs)) (sym c.new.ensures.items)
              (All-nil (MakesOneTree i)),
        ),
      );
      most_general = λ is pair. (
        exact_itself s.store a b one,
        pair.bindings,
        (λ u p. (p.variables, omega arith)),
        c.new.ensures.items,
      );
    }

pub returns-then-eq-clause-fault : goal.returns-then-eq-clause-fault
returns-then-eq-clause-fault g c =
    record {
      apart = tt;
      no_unifier = tt;
      errors = tt;
      fault_known = tt;
      spent = tt;
      budget_suffices = λ is pair u one. (omega arith, tt);
    }

pub returns-then-eq-clause-asks : goal.returns-then-eq-clause-asks
returns-then-eq-clause-asks g c =
    let s = g.Infcx.InferCtxtLike.state c.args.infcx.now in
    let k = c.requires.can in
    let a = term_in s g.T.Relate.over g.T.HasTree.tree c.args.lhs in
    let b = term_in s g.T.Relate.over g.T.HasTree.tree c.args.rhs in
    let e = c.args.param_env in
    let one = equal_one (g.met.Infcx.InferCtxtLike.reads c.args.infcx.now) g.T.Relate.over g.T.HasTree.tree
    g.T.PartialEq.eq (g.met.T.Relate.same (g.Infcx.InferCtxtLike.interner c.args.infcx.now)) c.args.lhs c.args.rhs
    k.lhs_known k.rhs_known (sym c.if-eq.ensures) in
    record {
      goals = search rules;
      asked = λ bare. subst (λ gs. IsJustAsked (items_of s.meaning) ((s.meaning).param_env e) c.args.variance a b
          (s.store).constraints (s.store).constraints (goals_of s.meaning gs)) (sym c.new.ensures.items)
          (nothing_asked (items_of s.meaning) ((s.meaning).param_env e) c.args.variance a b (s.store).constraints one);
      no_more = no_more_same (solver_settings c.args.aliases s.setup) (items_of s.meaning) s.store s.store
          c.args.variance a b refl;
      same = λ is. (c.new.ensures.items, refl);
    }

pub returns-then-eq-clause-leaves : goal.returns-then-eq-clause-leaves
returns-then-eq-clause-leaves g c =
    let s = g.Infcx.InferCtxtLike.state c.args.infcx.now in
    let k = c.requires.can in
    let a = term_in s g.T.Relate.over g.T.HasTree.tree c.args.lhs in
    let b = term_in s g.T.Relate.over g.T.HasTree.tree c.args.rhs in
    record {
      later = later_itself s.store;
      store_sound = g.met.Infcx.InferCtxtLike.sound c.args.infcx.now k.lawful;
      lawful = k.lawful;
      grown = stays_same s.meaning;
      frame = record { setup = refl; outliving = refl };
      new_variables = record {
        no_number = λ k h. refl;
        none = λ ha hb binds none k. refl;
        no_universe = λ ha hb binds. refl;
      };
      no_new_forms = subst (λ gs. StaysBuilt s.store s.store (goals_of s.meaning gs) a b) (sym c.new.ensures.items)
          (built_itself s.store a b);
      budget = refl;
    }

pub returns-then-eq-clause-alone : goal.returns-then-eq-clause-alone
returns-then-eq-clause-alone g c =
    let k = c.requires.can in
    let one = equal_one (g.met.Infcx.InferCtxtLike.reads c.args.infcx.now) g.T.Relate.over g.T.HasTree.tree
    g.T.PartialEq.eq (g.met.T.Relate.same (g.Infcx.InferCtxtLike.interner c.args.infcx.now)) c.args.lhs c.args.rhs
    k.lhs_known k.rhs_known (sym c.if-eq.ensures) in
    λ differ s t x y p i j asks. absurd (differ one)

pub returns-then-eq-clause-taints : goal.returns-then-eq-clause-taints
returns-then-eq-clause-taints g c =
    let k = c.requires.can in
    let one = equal_one (g.met.Infcx.InferCtxtLike.reads c.args.infcx.now) g.T.Relate.over g.T.HasTree.tree
    g.T.PartialEq.eq (g.met.T.Relate.same (g.Infcx.InferCtxtLike.interner c.args.infcx.now)) c.args.lhs c.args.rhs
    k.lhs_known k.rhs_known (sym c.if-eq.ensures) in
    λ differ s t x y i j n m o. absurd (differ one)

pub returns-then-eq-clause-asks_open : goal.returns-then-eq-clause-asks_open
returns-then-eq-clause-asks_open g c =
    let k = c.requires.can in
    let one = equal_one (g.met.Infcx.InferCtxtLike.reads c.args.infcx.now) g.T.Relate.over g.T.HasTree.tree
    g.T.PartialEq.eq (g.met.T.Relate.same (g.Infcx.InferCtxtLike.interner c.args.infcx.now)) c.args.lhs c.args.rhs
    k.lhs_known k.rhs_known (sym c.if-eq.ensures) in
    λ differ s t x y i j. absurd (differ one)

-- Of two that were refused the fault is handed on.
pub returns-in_err-related-clause-both : goal.returns-in_err-related-clause-both
returns-in_err-related-clause-both g c =
    let s = g.Infcx.InferCtxtLike.state c.args.infcx.now in
    let d = g.Infcx.InferCtxtLike.state c.relate_in-related.new.infcx in
    let k = c.requires.can in
    let e = c.args.param_env in
    let v = c.args.variance in
    let a = term_in s g.T.Relate.over g.T.HasTree.tree c.args.lhs in
    let b = term_in s g.T.Relate.over g.T.HasTree.tree c.args.rhs in
    let f = c.in_err-related.field-0.0 in
    let is = as_err c.from_residual.result f c.from_residual.ensures.0 c.from_residual.ensures.1 in
    record {
      sound = none_answered _ c.from_residual.result f is;
      agrees = none_answered _ c.from_residual.result f is;
    }

pub returns-in_err-related-clause-loses_none : goal.returns-in_err-related-clause-loses_none
returns-in_err-related-clause-loses_none g c =
    let state = g.Infcx.InferCtxtLike.state in
    let s = state c.args.infcx.now in
    let d = state c.relate_in-related.new.infcx in
    let e = c.args.param_env in
    let v = c.args.variance in
    let a = term_in s g.T.Relate.over g.T.HasTree.tree c.args.lhs in
    let b = term_in s g.T.Relate.over g.T.HasTree.tree c.args.rhs in
    let tree = term_in d g.T.Relate.over g.T.HasTree.tree in
    let hs = c.relate_in-related.result.1.items in
    let was = solving_in c.args.aliases [] s v e in
    let then = solving_in c.args.aliases hs d v e in
    let f = c.in_err-related.field-0.0 in
    let is = as_err c.from_residual.result f c.from_residual.ensures.0 c.from_residual.ensures.1 in
    let related = subst (λ z. Related solver_manner was then v a b tree z) c.in_err-related.was c.relate_in-related.ensures.related in
    let refused : RefusesAs as_pair was then (at v) a b f = related.verdict in
    record {
      keeps = refused_keeps state c.args.infcx.now c.relate_in-related.new.infcx g.T.Relate.over g.T.HasTree.tree v
          c.args.lhs c.args.rhs f c.from_residual.result is (keeps_by as_pair was then (at v) a b f refused);
      most_general = refused_exactly state c.args.infcx.now c.relate_in-related.new.infcx g.T.Relate.over
          g.T.HasTree.tree v c.args.lhs c.args.rhs f c.from_residual.result is
          (λ is pair. unified_by tree s.store d.store a b f (subst (ExactResult s.store d.store a b)
          c.in_err-related.was ((c.relate_in-related.ensures.related).exact tt is pair)));
    }

pub returns-in_err-related-clause-fault : goal.returns-in_err-related-clause-fault
returns-in_err-related-clause-fault g c =
    let s = g.Infcx.InferCtxtLike.state c.args.infcx.now in
    let d = g.Infcx.InferCtxtLike.state c.relate_in-related.new.infcx in
    let k = c.requires.can in
    let e = c.args.param_env in
    let v = c.args.variance in
    let a = term_in s g.T.Relate.over g.T.HasTree.tree c.args.lhs in
    let b = term_in s g.T.Relate.over g.T.HasTree.tree c.args.rhs in
    let tree = term_in d g.T.Relate.over g.T.HasTree.tree in
    let hs = c.relate_in-related.result.1.items in
    let was = solving_in c.args.aliases [] s v e in
    let then = solving_in c.args.aliases hs d v e in
    let f = c.in_err-related.field-0.0 in
    let is = as_err c.from_residual.result f c.from_residual.ensures.0 c.from_residual.ensures.1 in
    let related = subst (λ z. Related solver_manner was then v a b tree z) c.in_err-related.was c.relate_in-related.ensures.related in
    let refused : RefusesAs as_pair was then (at v) a b f = related.verdict in
    record {
      apart = unrelated as_pair was then (at v) a b _ c.from_residual.result f is refused (λ e h. h.0);
      no_unifier = unrelated_apart v s.store d.store a b tree c.from_residual.result f is
          (λ is pair. subst (ExactResult s.store d.store a b) c.in_err-related.was
          ((c.relate_in-related.ensures.related).exact tt is pair));
      errors = unrelated as_pair was then (at v) a b _ c.from_residual.result f is refused (λ e h. h.1);
      fault_known = fault_known as_pair was then (at v) a b c.from_residual.result f is refused;
      -- A budget that is spent says that nothing is left of it, and that a variable stands in one of the two.
      spent = needs_as ((d.store).budget ≡ 0) c.from_residual.result f is (λ e. (budget_verdict solver_manner v a b tree
          c.relate_in-related.result.0 (c.in_err-related.was ∙ ap Err e) c.relate_in-related.ensures.related).0);
      budget_suffices = λ is_invariant pair u one.
          let z = spends_no_more solver_manner v a b tree tt is_invariant pair u one c.relate_in-related.result.0
          c.relate_in-related.ensures.related in (
            z.0,
            spent_as ((s.store).budget < all_unbound s.store) c.relate_in-related.result.0 c.from_residual.result f
                c.in_err-related.was is z.1,
          );
    }

pub returns-in_err-related-clause-asks : goal.returns-in_err-related-clause-asks
returns-in_err-related-clause-asks g c =
    let k = c.requires.can in
    let f = c.in_err-related.field-0.0 in
    let is = as_err c.from_residual.result f c.from_residual.ensures.0 c.from_residual.ensures.1 in
    record {
      goals = none_answered _ c.from_residual.result f is;
      asked = λ bare. none_answered _ c.from_residual.result f is;
      no_more = none_answered _ c.from_residual.result f is;
      same = λ e. absurd (false≢true (c.if-eq.ensures
          ∙ one_equal (g.met.Infcx.InferCtxtLike.reads c.args.infcx.now) g.T.Relate.over g.T.HasTree.tree
          g.T.PartialEq.eq (g.met.T.Relate.same (g.Infcx.InferCtxtLike.interner c.args.infcx.now)) c.args.lhs c.args.rhs
          k.lhs_known k.rhs_known e));
    }

pub returns-in_err-related-clause-leaves : goal.returns-in_err-related-clause-leaves
returns-in_err-related-clause-leaves g c =
    let s = g.Infcx.InferCtxtLike.state c.args.infcx.now in
    let d = g.Infcx.InferCtxtLike.state c.relate_in-related.new.infcx in
    let k = c.requires.can in
    let e = c.args.param_env in
    let a = term_in s g.T.Relate.over g.T.HasTree.tree c.args.lhs in
    let b = term_in s g.T.Relate.over g.T.HasTree.tree c.args.rhs in
    let f = c.in_err-related.field-0.0 in
    let is = as_err c.from_residual.result f c.from_residual.ensures.0 c.from_residual.ensures.1 in
    let related = c.relate_in-related.ensures.related in
    let lawful = ((related.passes).lawful ((k.lawful, none_held c.args.aliases 0 s [] e), (k.env_known, All-nil (KnowsGoal s.meaning)))).0.0 in
    record {
      later = ((related.passes).goes).later;
      store_sound = g.met.Infcx.InferCtxtLike.sound c.relate_in-related.new.infcx lawful;
      lawful = lawful;
      grown = (related.passes).extends;
      frame = keeps_beside c.args.aliases s d _ _ (related.passes).kept;
      new_variables = makes_to_instantiate (related.passes).added a b (related.passes).goes related.full related.built;
      no_new_forms = refused_built g.Infcx.InferCtxtLike.state c.args.infcx.now c.relate_in-related.new.infcx g.T.Relate.over
          g.T.HasTree.tree c.args.lhs c.args.rhs f c.from_residual.result is (related.passes).added related.built;
      budget = pays (related.passes).goes;
    }

pub returns-in_err-related-clause-alone : goal.returns-in_err-related-clause-alone
returns-in_err-related-clause-alone g c =
    let s = g.Infcx.InferCtxtLike.state c.args.infcx.now in
    let f = c.in_err-related.field-0.0 in
    refused_alone_in c.args.aliases ⊥ g.Infcx.InferCtxtLike.state c.args.infcx.now c.relate_in-related.new.infcx g.T.Relate.over
    g.T.HasTree.tree c.args.param_env c.args.variance c.args.lhs c.args.rhs c.relate_in-related.result.1.items
    f c.from_residual.result (as_err c.from_residual.result f c.from_residual.ensures.0 c.from_residual.ensures.1)
    (subst (RelatesAtOnce solver_manner (solving_in c.args.aliases [] s c.args.variance c.args.param_env)
    (solving_in c.args.aliases c.relate_in-related.result.1.items (g.Infcx.InferCtxtLike.state c.relate_in-related.new.infcx)
    c.args.variance c.args.param_env) c.args.variance (term_in s g.T.Relate.over g.T.HasTree.tree c.args.lhs)
    (term_in s g.T.Relate.over g.T.HasTree.tree c.args.rhs)) c.in_err-related.was c.relate_in-related.ensures.registers)

pub returns-in_err-related-clause-taints : goal.returns-in_err-related-clause-taints
returns-in_err-related-clause-taints g c =
    let s = g.Infcx.InferCtxtLike.state c.args.infcx.now in
    let f = c.in_err-related.field-0.0 in
    refused_taints c.args.aliases g.Infcx.InferCtxtLike.state c.args.infcx.now c.relate_in-related.new.infcx g.T.Relate.over
    g.T.HasTree.tree c.args.param_env c.args.variance c.args.lhs c.args.rhs c.relate_in-related.result.1.items
    f c.from_residual.result (as_err c.from_residual.result f c.from_residual.ensures.0 c.from_residual.ensures.1)
    (subst (RelatesAtOnce solver_manner (solving_in c.args.aliases [] s c.args.variance c.args.param_env)
    (solving_in c.args.aliases c.relate_in-related.result.1.items (g.Infcx.InferCtxtLike.state c.relate_in-related.new.infcx)
    c.args.variance c.args.param_env) c.args.variance (term_in s g.T.Relate.over g.T.HasTree.tree c.args.lhs)
    (term_in s g.T.Relate.over g.T.HasTree.tree c.args.rhs)) c.in_err-related.was c.relate_in-related.ensures.registers).1

pub returns-in_err-related-clause-asks_open : goal.returns-in_err-related-clause-asks_open
returns-in_err-related-clause-asks_open g c =
    let f = c.in_err-related.field-0.0 in
    refused_open g.Infcx.InferCtxtLike.state c.args.infcx.now c.relate_in-related.new.infcx g.T.Relate.over
    g.T.HasTree.tree c.args.param_env c.args.variance c.args.lhs c.args.rhs f c.from_residual.result
    (as_err c.from_residual.result f c.from_residual.ensures.0 c.from_residual.ensures.1)

pub returns-in_err-related-clause-needs : goal.returns-in_err-related-clause-needs
returns-in_err-related-clause-needs g c =
    let f = c.in_err-related.field-0.0 in
    let s = g.Infcx.InferCtxtLike.state c.args.infcx.now in
    let d = g.Infcx.InferCtxtLike.state c.relate_in-related.new.infcx in
    let a = term_in s g.T.Relate.over g.T.HasTree.tree c.args.lhs in
    let b = term_in s g.T.Relate.over g.T.HasTree.tree c.args.rhs in
    needs_as (NeedsVariable s.store a b) c.from_residual.result f
    (as_err c.from_residual.result f c.from_residual.ensures.0 c.from_residual.ensures.1)
    (λ e. (budget_verdict solver_manner c.args.variance a b (term_in d g.T.Relate.over g.T.HasTree.tree)
    c.relate_in-related.result.0 (c.in_err-related.was ∙ ap Err e) c.relate_in-related.ensures.related).1)

-- Two that were related are, and what was registered is answered.
pub returns-clause-both : goal.returns-clause-both
returns-clause-both g c =
    let s = g.Infcx.InferCtxtLike.state c.args.infcx.now in
    let d = g.Infcx.InferCtxtLike.state c.relate_in-related.new.infcx in
    let k = c.requires.can in
    let e = c.args.param_env in
    let v = c.args.variance in
    let a = term_in s g.T.Relate.over g.T.HasTree.tree c.args.lhs in
    let b = term_in s g.T.Relate.over g.T.HasTree.tree c.args.rhs in
    let tree = term_in d g.T.Relate.over g.T.HasTree.tree in
    let hs = c.relate_in-related.result.1.items in
    let was = solving_in c.args.aliases [] s v e in
    let then = solving_in c.args.aliases hs d v e in
    let related = subst (λ z. Related solver_manner was then v a b tree z) c.in_ok-related.was c.relate_in-related.ensures.related in
    record {
      sound = answers_goals s.meaning d.meaning s.store d.store s.lawful d.lawful v e a b tree hs c.in_ok-related.field-0 related;
      agrees = relates_agreeing s.meaning d.meaning s.store d.store s.lawful d.lawful v e a b tree hs c.in_ok-related.field-0 refl
          (g.met.Infcx.InferCtxtLike.sound c.args.infcx.now k.lawful) related;
    }

pub returns-clause-loses_none : goal.returns-clause-loses_none
returns-clause-loses_none g c =
    let s = g.Infcx.InferCtxtLike.state c.args.infcx.now in
    let d = g.Infcx.InferCtxtLike.state c.relate_in-related.new.infcx in
    let k = c.requires.can in
    let e = c.args.param_env in
    let v = c.args.variance in
    let a = term_in s g.T.Relate.over g.T.HasTree.tree c.args.lhs in
    let b = term_in s g.T.Relate.over g.T.HasTree.tree c.args.rhs in
    let tree = term_in d g.T.Relate.over g.T.HasTree.tree in
    let hs = c.relate_in-related.result.1.items in
    let was = solving_in c.args.aliases [] s v e in
    let then = solving_in c.args.aliases hs d v e in
    let related = subst (λ z. Related solver_manner was then v a b tree z) c.in_ok-related.was c.relate_in-related.ensures.related in
    record {
      keeps = keeps_equal s.meaning d.meaning s.store d.store s.lawful d.lawful v e a b tree hs c.in_ok-related.field-0 related;
      most_general = λ is pair.
          let o = subst (ExactResult s.store d.store a b) c.in_ok-related.was
          ((c.relate_in-related.ensures.related).exact tt is pair) in
          let none = no_goals_exactly s.meaning d.meaning s.store d.store s.lawful d.lawful v e a b tree hs c.relate_in-related.result.0 is
          pair c.relate_in-related.ensures.related in
          (o.1, o.0, o.2, none);
    }

pub returns-clause-fault : goal.returns-clause-fault
returns-clause-fault g c =
    let s = g.Infcx.InferCtxtLike.state c.args.infcx.now in
    let d = g.Infcx.InferCtxtLike.state c.relate_in-related.new.infcx in
    let k = c.requires.can in
    let v = c.args.variance in
    let a = term_in s g.T.Relate.over g.T.HasTree.tree c.args.lhs in
    let b = term_in s g.T.Relate.over g.T.HasTree.tree c.args.rhs in
    let tree = term_in d g.T.Relate.over g.T.HasTree.tree in
    record {
      apart = tt;
      no_unifier = tt;
      errors = tt;
      fault_known = tt;
      spent = tt;
      budget_suffices = λ is pair u one. (
        (spends_no_more solver_manner v a b tree tt is pair u one
            c.relate_in-related.result.0 c.relate_in-related.ensures.related).0,
        tt,
      );
    }

pub returns-clause-asks : goal.returns-clause-asks
returns-clause-asks g c =
    let s = g.Infcx.InferCtxtLike.state c.args.infcx.now in
    let d = g.Infcx.InferCtxtLike.state c.relate_in-related.new.infcx in
    let k = c.requires.can in
    let e = c.args.param_env in
    let v = c.args.variance in
    let a = term_in s g.T.Relate.over g.T.HasTree.tree c.args.lhs in
    let b = term_in s g.T.Relate.over g.T.HasTree.tree c.args.rhs in
    let tree = term_in d g.T.Relate.over g.T.HasTree.tree in
    let hs = c.relate_in-related.result.1.items in
    let was = solving_in c.args.aliases [] s v e in
    let then = solving_in c.args.aliases hs d v e in
    let related = subst (λ z. Related solver_manner was then v a b tree z) c.in_ok-related.was c.relate_in-related.ensures.related in
    record {
      goals = registers_goals s.meaning d.meaning s.store d.store s.lawful d.lawful v e a b tree hs
          c.relate_in-related.result.0 (k.lawful, none_held c.args.aliases 0 s [] e)
          (k.env_known, All-nil (KnowsGoal s.meaning)) c.relate_in-related.ensures.related;
      asked = λ bare. adds_just_asked s.meaning d.meaning s.store d.store s.lawful d.lawful v e a b tree hs c.in_ok-related.field-0 refl bare related;
      no_more = adds_no_more s.meaning d.meaning s.store d.store s.lawful d.lawful v e a b tree hs
          c.in_ok-related.field-0 related;
      same = λ e. absurd (false≢true (c.if-eq.ensures
          ∙ one_equal (g.met.Infcx.InferCtxtLike.reads c.args.infcx.now) g.T.Relate.over g.T.HasTree.tree
          g.T.PartialEq.eq (g.met.T.Relate.same (g.Infcx.InferCtxtLike.interner c.args.infcx.now)) c.args.lhs c.args.rhs
          k.lhs_known k.rhs_known e));
    }

pub returns-clause-leaves : goal.returns-clause-leaves
returns-clause-leaves g c =
    let s = g.Infcx.InferCtxtLike.state c.args.infcx.now in
    let d = g.Infcx.InferCtxtLike.state c.relate_in-related.new.infcx in
    let k = c.requires.can in
    let e = c.args.param_env in
    let a = term_in s g.T.Relate.over g.T.HasTree.tree c.args.lhs in
    let b = term_in s g.T.Relate.over g.T.HasTree.tree c.args.rhs in
    let related = c.relate_in-related.ensures.related in
    let lawful = ((related.passes).lawful ((k.lawful, none_held c.args.aliases 0 s [] e), (k.env_known, All-nil (KnowsGoal s.meaning)))).0.0 in
    record {
      later = ((related.passes).goes).later;
      store_sound = g.met.Infcx.InferCtxtLike.sound c.relate_in-related.new.infcx lawful;
      lawful = lawful;
      grown = (related.passes).extends;
      frame = keeps_beside c.args.aliases s d _ _ (related.passes).kept;
      new_variables = makes_to_instantiate (related.passes).added a b (related.passes).goes related.full related.built;
      no_new_forms = subst (λ gs. StaysBuilt s.store d.store gs a b) (sym (related.passes).lengthens) related.built;
      budget = pays (related.passes).goes;
    }

pub returns-clause-alone : goal.returns-clause-alone
returns-clause-alone g c =
    let s = g.Infcx.InferCtxtLike.state c.args.infcx.now in
    answered_alone_in c.args.aliases g.Infcx.InferCtxtLike.state c.args.infcx.now c.relate_in-related.new.infcx
    g.T.Relate.over g.T.HasTree.tree c.args.param_env c.args.variance c.args.lhs c.args.rhs c.relate_in-related.result.1
    c.in_ok-related.field-0
    (subst (RelatesAtOnce solver_manner (solving_in c.args.aliases [] s c.args.variance c.args.param_env)
    (solving_in c.args.aliases c.relate_in-related.result.1.items (g.Infcx.InferCtxtLike.state c.relate_in-related.new.infcx)
    c.args.variance c.args.param_env) c.args.variance (term_in s g.T.Relate.over g.T.HasTree.tree c.args.lhs)
    (term_in s g.T.Relate.over g.T.HasTree.tree c.args.rhs)) c.in_ok-related.was c.relate_in-related.ensures.registers)

pub returns-clause-taints : goal.returns-clause-taints
returns-clause-taints g c =
    let s = g.Infcx.InferCtxtLike.state c.args.infcx.now in
    answered_taints c.args.aliases g.Infcx.InferCtxtLike.state c.args.infcx.now c.relate_in-related.new.infcx
    g.T.Relate.over g.T.HasTree.tree c.args.param_env c.args.variance c.args.lhs c.args.rhs c.relate_in-related.result.1
    c.in_ok-related.field-0
    (subst (RelatesAtOnce solver_manner (solving_in c.args.aliases [] s c.args.variance c.args.param_env)
    (solving_in c.args.aliases c.relate_in-related.result.1.items (g.Infcx.InferCtxtLike.state c.relate_in-related.new.infcx)
    c.args.variance c.args.param_env) c.args.variance (term_in s g.T.Relate.over g.T.HasTree.tree c.args.lhs)
    (term_in s g.T.Relate.over g.T.HasTree.tree c.args.rhs)) c.in_ok-related.was c.relate_in-related.ensures.registers)

pub returns-clause-asks_open : goal.returns-clause-asks_open
returns-clause-asks_open g c =
    let s = g.Infcx.InferCtxtLike.state c.args.infcx.now in
    answered_open c.args.aliases g.Infcx.InferCtxtLike.state c.args.infcx.now c.relate_in-related.new.infcx
    g.T.Relate.over g.T.HasTree.tree c.args.param_env c.args.variance c.args.lhs c.args.rhs c.relate_in-related.result.1
    c.in_ok-related.field-0
    (subst (RelatesAtOnce solver_manner (solving_in c.args.aliases [] s c.args.variance c.args.param_env)
    (solving_in c.args.aliases c.relate_in-related.result.1.items (g.Infcx.InferCtxtLike.state c.relate_in-related.new.infcx)
    c.args.variance c.args.param_env) c.args.variance (term_in s g.T.Relate.over g.T.HasTree.tree c.args.lhs)
    (term_in s g.T.Relate.over g.T.HasTree.tree c.args.rhs)) c.in_ok-related.was c.relate_in-related.ensures.registers)
