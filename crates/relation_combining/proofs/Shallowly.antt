-- A step that was taken from terms as they are read was taken from the terms.
use Rattle.std.proofs.Common.{◌≡◌, ◌+◌, List, ◌≤◌, ℕ, None, Result, Ok, Err, sym, ap₂, ◌∙◌, arith, subst, subst₂}
use Rattle.term_enums.specs.declared.Variance.{Variance}
use Rattle.relation_terms.specs.Heads.{VarKind, const_var, variable}
use Rattle.relation_terms.specs.Trees.{Tree, leaf, Assign, apply}
use Rattle.term_enums.specs.Variances.{xform}
use Rattle.relation_folds.specs.declared.error.RelateFault.{RelateFault}
use Rattle.relation_folds.specs.declared.error.RelateFault.TheVariants.{Memory, Budget, Unrelated}
use Rattle.relation_semantics.specs.declared.relate.Step.{Step}
use Rattle.relation_semantics.specs.declared.relate.Step.TheVariants.{Done, Parts, Again}
use Rattle.relation_semantics.specs.Relation.{Interpretation, Rel, at}
use Rattle.relation_semantics.specs.Stores.{Store, unbound, entry_of, bound_term, IsSound}
use Rattle.relation_semantics.specs.Stores.{Satisfies, IsMade, IsTermIn, weight}
use Rattle.relation_semantics.specs.Goals.{Goal}
use Rattle.relation_semantics.specs.Outcomes.{Outcome}
use Rattle.relation_semantics.specs.Measures.{grown}
use Rattle.relation_semantics.specs.Errors.{IsReadAs, of_entries}
use Rattle.relation_semantics.specs.Lawful.{State, Passes, Leads, StepVerdict, ExactVerdict, Stepped, BeganWith, AgreesIn, items_in}
use Rattle.relation_semantics.proofs.ReadAs.{read_value, read_later, read_weight}
use Rattle.relation_semantics.proofs.AgreeingBefore.{read_agreed}
use Rattle.relation_semantics.proofs.Going.{later_through, goes_within}
use Rattle.relation_semantics.proofs.Full.{read_plain}
use Rattle.relation_semantics.specs.Alphabets.{BuiltFrom}
use Rattle.relation_semantics.proofs.Building.{built_read}
use Rattle.relation_semantics.proofs.Standing.{made_of_term}
use Rattle.relation_semantics.specs.Resolving.{IsShallow, root, stays_bound, formed, IsShallowConst, const_root, no_variable}
use Rattle.relation_semantics.specs.Parts.{IsRigid}
use Rattle.relation_combining.specs.Solving.{solver_manner}
use Rattle.relation_combining.proofs.Exactly.{read_pair, step_read, exact_read, apart_read, unified_read}
use Rattle.relation_semantics.specs.OneUniverse.{LeadsInUniverse}
use Rattle.relation_semantics.proofs.OneUniverse.{reading_leads, led_then, led_keeps, led_binds, led_fewer}
use Rattle.relation_semantics.proofs.AliasSteps.{free_entry}

-- What is resolved shallowly to a variable is an unbound one.
pub shallow_free_const : (st : Store) (n : ℕ) (t : Tree) → t ≡ leaf (variable const_var n) → IsShallowConst st t →
    entry_of st const_var n ≡ unbound
shallow_free_const st n t e (no_variable o) = absurd (o const_var n e)
shallow_free_const st n t e (const_root m d f) =
    free_entry st const_var n (subst (λ p. bound_term st const_var p ≡ None) same_number f)
  where
    same_number : m ≡ n
    same_number = let h : leaf (variable const_var m) ≡ leaf (variable const_var n) = sym d ∙ e in cc

pub shallow_const_free : (st : Store) (t : Tree) → IsShallowConst st t → (k : VarKind) (n : ℕ) → t ≡ leaf (variable k n) →
    entry_of st k n ≡ unbound
shallow_const_free st t (const_root m d f) k n e =
    free_entry st k n (subst₂ (λ j p. bound_term st j p ≡ None) (cc (d, e)) (cc (d, e)) f)
shallow_const_free st t (no_variable o) k n e = absurd (o k n e)

pub shallow_ty_free : (st : Store) (t : Tree) → IsShallow st t → (k : VarKind) (n : ℕ) → t ≡ leaf (variable k n) →
    entry_of st k n ≡ unbound
shallow_ty_free st t (root j m d f) k n e =
    free_entry st k n (subst₂ (λ j p. bound_term st j p ≡ None) (cc (d, e)) (cc (d, e)) f)
shallow_ty_free st t (stays_bound q d i o) k n e = absurd (cc (o, e))
shallow_ty_free st t (formed f) k n e = absurd (subst IsRigid e f)

-- A variable that a term of the context is is the context's.
pub variable_made : (st : Store) (k : VarKind) (n : ℕ) (t : Tree) → t ≡ leaf (variable k n) → IsTermIn st t →
    IsMade st k n
variable_made st k n t e h = made_of_term st k n (subst (IsTermIn st) e h)

module _ {Key Id Name : Type 0} (r q : State Key Id Name) (g : IsSound r.store) (a b u w : Tree)
    (p : IsReadAs r.store a u) (o : IsReadAs r.store b w)
    (u_free : (k : VarKind) (n : ℕ) → u ≡ leaf (variable k n) → entry_of r.store k n ≡ unbound)
    (w_free : (k : VarKind) (n : ℕ) → w ≡ leaf (variable k n) → entry_of r.store k n ≡ unbound) where
  -- They agree by what relating may have begun with, if they do as they are read.
  as_agreed : (st : Store) → BeganWith r st → AgreesIn r st (at r.ambient) u w → AgreesIn r st (at r.ambient) a b
  as_agreed st began z = read_agreed st r.store began.sound g began.later r.kept.settings (items_in r) r.ambient a b u w p o
      u_free w_free z

  value_a : (i : Interpretation) (s : Assign) → Satisfies i r.store s → apply s a ≡ apply s u
  value_a i s sat = read_value r.store s sat.bindings a u p

  value_b : (i : Interpretation) (s : Assign) → Satisfies i r.store s → apply s b ≡ apply s w
  value_b i s sat = read_value r.store s sat.bindings b w o

  as_large : weight r.store a + weight r.store b ≡ weight r.store u + weight r.store w
  as_large = ap₂ ◌+◌ (read_weight r.store g a u p) (read_weight r.store g b w o)

  read_outcome : (added : List Goal) (v : Variance) →
      Outcome (items_in r) r.kept.environment (at v) r.store q.store r.goals added u w →
      Outcome (items_in r) r.kept.environment (at v) r.store q.store r.goals added a b
  read_outcome added v h = record {
    later = h.later;
    goals_in = h.goals_in;
    relates = λ i s sat all. let was = (h.later).shrinks i s sat in
        subst₂ (Rel (items_in r) i r.kept.environment (at v)) (sym (value_a i s was)) (sym (value_b i s was))
        (h.relates i s sat all);
    keeps = λ i s sat one. h.keeps i s sat (sym (value_a i s sat) ∙ one ∙ value_b i s sat);
  }

  read_leads : (added : List Goal) (v : Variance) (x y : Tree) → Leads r q added u w v x y → Leads r q added a b v x y
  read_leads added v x y h = record {
    steps = record {
      later = (h.steps).later;
      goals_in = (h.steps).goals_in;
      relates = λ i s sat all f. let was = ((h.steps).later).shrinks i s sat in
          subst₂ (Rel (items_in r) i r.kept.environment (at r.ambient)) (sym (value_a i s was)) (sym (value_b i s was))
          ((h.steps).relates i s sat all f);
      keeps = λ i s sat one. (h.steps).keeps i s sat (sym (value_a i s sat) ∙ one ∙ value_b i s sat);
    };
    errors = λ m j c st e l g z. of_entries (read_later r.store st (later_through (h.steps).later l) a u p)
        (read_later r.store st (later_through (h.steps).later l) b w o) (h.errors m j c st e l g z);
    agrees = λ st began. let z = h.agrees st began in (λ x. as_agreed st began (z.0 x), z.1);
  }

  read_built : (x y : Tree) → BuiltFrom r.store u w x y → BuiltFrom r.store a b x y
  read_built x y f k ha hb all = f k (built_read k r.store all a u p ha) (built_read k r.store all b w o hb) all

  as_read : LeadsInUniverse r.store r.store a b u w
  as_read = reading_leads r.store g a b u w p o

  module _ {K : Type 0} (F : Tree → Type 0) (tree : K → Tree) (passes : Passes (weight r.store u + weight r.store w) r q)
    where
      shrinks : (i : Interpretation) (s : Assign) → Satisfies i q.store s → Satisfies i r.store s
      shrinks i s sat = ((passes.goes).later).shrinks i s sat

      read_verdict : (res : Result (Step K) (RelateFault Key Id Name)) →
          StepVerdict solver_manner F r q passes.added u w tree res →
          StepVerdict solver_manner F r q passes.added a b tree res
      read_verdict (Ok (Done t)) h = record {
        outcome = read_outcome passes.added r.ambient h.outcome;
        answer = record {
          related = λ i s sat all. subst (λ z. Rel (items_in q) i q.kept.environment (at r.ambient) z (apply s (tree t)))
              (sym (value_a i s (shrinks i s sat))) ((h.answer).related i s sat all);
        };
        known = h.known;
        agrees = λ k st began. let z = h.agrees k st began in (as_agreed st began z.0, z.1);
      }
      read_verdict (Ok (Parts x y)) h = record {
        leads = read_leads passes.added r.ambient (tree x) (tree y) h.leads;
        asked = h.asked;
        left_form = h.left_form;
        right_form = h.right_form;
        not_left = h.not_left;
        answers = λ t i s sat all f. subst (λ z. Rel (items_in q) i q.kept.environment (at r.ambient) z (apply s t))
            (sym (value_a i s (shrinks i s sat))) (h.answers t i s sat all f);
        built = read_built (tree x) (tree y) h.built;
        same_budget = h.same_budget;
        not_larger = let e = as_large in let l = h.not_larger in omega (arith, e, l);
      }
      read_verdict (Ok (Again k l x y v t)) h = record {
        leads = read_leads passes.added (xform r.ambient v) (tree x) (tree y) h.leads;
        read_leads = h.read_leads;
        read_exactly = h.read_exactly;
        asks_none = h.asks_none;
        read_asked = h.read_asked;
        asked = h.asked;
        answers = λ i s sat all f. subst (λ z. Rel (items_in q) i q.kept.environment (at r.ambient) z (apply s (tree t)))
            (sym (value_a i s (shrinks i s sat))) (h.answers i s sat all f);
        answer_known = h.answer_known;
        falls = h.falls;
        may_instantiate = h.may_instantiate;
        built = read_built (tree x) (tree y) h.built;
        read_built = read_built (tree k) (tree l) h.read_built;
        not_larger = subst (λ z. weight q.store (tree x) + weight q.store (tree y) ≤ grown 1 z) (sym as_large) h.not_larger;
      }
      read_verdict (Err (Unrelated e)) h = (
        λ i s sat one. h.0 i s sat (sym (value_a i s sat) ∙ one ∙ value_b i s sat),
        of_entries (read_later r.store q.store (passes.goes).later a u p)
            (read_later r.store q.store (passes.goes).later b w o) h.1,
        h.2,
      )
      read_verdict (Err Budget) h = (
        h.0,
        λ k ha hb all. h.1 k (built_read k r.store all a u p ha) (built_read k r.store all b w o hb) all,
        λ i s sat one. h.2 i s sat (sym (value_a i s sat) ∙ one ∙ value_b i s sat),
      )
      read_verdict (Err Memory) h = λ i s sat one. h i s sat (sym (value_a i s sat) ∙ one ∙ value_b i s sat)

      read_exact : (res : Result (Step K) (RelateFault Key Id Name)) → ExactVerdict r q u w tree res →
          ExactVerdict r q a b tree res
      read_exact (Ok (Done t)) h = (
        h.0,
        exact_read r.store g a b u w p o q.store h.1,
        led_keeps r.store r.store q.store a b u w as_read h.2,
      )
      read_exact (Ok (Parts x y)) h = (
        h.0,
        step_read r.store g a b u w p o q.store (tree x) (tree y) h.1,
        led_then r.store r.store q.store a b u w (tree x) (tree y) as_read h.2,
      )
      read_exact (Ok (Again k l x y v t)) h = (
        h.0,
        step_read r.store g a b u w p o q.store (tree x) (tree y) h.1,
        led_then r.store r.store q.store a b u w (tree x) (tree y) as_read h.2,
      )
      read_exact (Err (Unrelated e)) h =
          (apart_read r.store g a b u w p o h.0, led_binds r.store r.store q.store a b u w as_read h.1)
      read_exact (Err Budget) h = (
        led_fewer r.store r.store q.store a b u w as_read h.0,
        unified_read r.store g a b u w p o q.store h.1,
      )
      read_exact (Err Memory) h = (
        led_binds r.store r.store q.store a b u w as_read h.0,
        unified_read r.store g a b u w p o q.store h.1,
      )

  pub read_step : {K : Type 0} (F : Tree → Type 0) (tree : K → Tree) (res : Result (Step K) (RelateFault Key Id Name)) →
      Stepped solver_manner F r q u w tree res → Stepped solver_manner F r q a b tree res
  read_step F tree res h = record {
    passes = record {
      extends = (h.passes).extends;
      goes = goes_within (let e = as_large in omega (arith, e)) (h.passes).goes;
      added = (h.passes).added;
      lengthens = (h.passes).lengthens;
      goals_in = (h.passes).goals_in;
      kept = (h.passes).kept;
      ambient = (h.passes).ambient;
      lawful = (h.passes).lawful;
    };
    verdict = read_verdict F tree h.passes res h.verdict;
    exact = λ z is pair. read_exact F tree h.passes res
        (h.exact z is (read_pair r.store a b u w p o pair));
    full = λ ha hb full. h.full (read_plain r.store full.binds_no_binder a u p ha)
        (read_plain r.store full.binds_no_binder b w o hb) full;
    built = λ k ha hb all. h.built k (built_read k r.store all a u p ha) (built_read k r.store all b w o hb) all;
  }
