-- Closed terms bind and spend nothing, and no goal is asked of such without aliases.
use Rattle.std.proofs.Common.{◌≡◌, refl, sym, subst, List, [], ◌∷◌}
use Rattle.std.proofs.Common.{Option, Result, Ok, Err}
use Rattle.std.specs.Global.{Vec}
use Rattle.term_enums.specs.declared.Variance.{Variance}
use Rattle.relation_terms.specs.declared.terms.goal.Goal.{Goal as KeyedGoal}
use Rattle.relation_terms.specs.declared.terms.keys.PredicateKey.{PredicateKey}
use Rattle.relation_terms.specs.declared.terms.keys.ParamEnvKey.{ParamEnvKey}
use Rattle.relation_terms.specs.Heads.{Head}
use Rattle.relation_terms.specs.Trees.{Tree}
use Rattle.relation_terms.specs.Meaning.{Meaning}
use Rattle.relation_folds.specs.declared.error.RelateFault.{RelateFault}
use Rattle.relation_folds.specs.declared.error.RelateFault.TheVariants.{Memory, Budget, Unrelated}
use Rattle.relation_folds.specs.Faults.{IfSpent}
use Rattle.relation_semantics.specs.Contexts.{Context, RegistersGoals}
use Rattle.relation_semantics.specs.Goals.{goals_of}
use Rattle.relation_semantics.specs.Alphabets.{StaysBuilt}
use Rattle.relation_semantics.specs.Alphabets.{NeedsVariable}
use Rattle.relation_semantics.specs.Settings.{Settings}
use Rattle.relation_semantics.specs.Stores.{IsSound}
use Rattle.relation_semantics.proofs.Registered.{no_aliases}
use Rattle.context_relation.specs.Closed.{LeavesClosed, AsksNothing, SpendsForVariables}
use Rattle.relation_combining.specs.ClosedTerms.{IsClosed}
use Rattle.context_relation.specs.Relating.{term_in, answered_goals}
use Rattle.relation_semantics.specs.Lawful.{State, Manners, Related}
use Rattle.relation_combining.proofs.ClosedTerms.{closed_alphabet, all_heads, closed_built, lacking_built, closed_binds, none_registered, never_needs}
use Rattle.relation_combining.proofs.ClosedTerms.{bare_alphabet, bare_built, bare_binds}

-- The same fault, of whatever was to be answered.
pub needs_as : {X Key Id Name : Type 0} (P : Type 0) (res : Result X (RelateFault Key Id Name))
    (f : RelateFault Key Id Name) → res ≡ Err f → (f ≡ Budget → P) → IfSpent res P
needs_as {X} {Key} {Id} {Name} P res f e h = subst (λ z. IfSpent z P) (sym e) (go f h)
  where
    go : (f : RelateFault Key Id Name) → (f ≡ Budget → P) → IfSpent {A = X} (Err f) P
    go (Unrelated g) h = tt
    go Budget h = h refl
    go Memory h = tt

pub budget_verdict : {Key Id Name X : Type 0} {r q : State Key Id Name} (M : Manners) (v : Variance) (a b : Tree)
    (tree : X → Tree) (res : Result X (RelateFault Key Id Name)) → res ≡ Err Budget → Related M r q v a b tree res →
    ((q.store).budget ≡ 0) × NeedsVariable r.store a b
budget_verdict {r = r} {q = q} M v a b tree res e h =
    let z = (subst (Related M r q v a b tree) e h).verdict in (z.0, z.1)

module _ {S Key Id Name A : Type 0} (state : S → Context Key Id Name) (old new : S) (over : Option Head)
    (tree : Meaning Key Id Name → A → Tree) (a b : A) (sound : IsSound (state old).store)
    (result : Result (Vec (KeyedGoal Key (PredicateKey Key))) (RelateFault Key Id Name))
    (built : StaysBuilt (state old).store (state new).store (answered_goals state old new over tree result)
    (term_in (state old) over tree a) (term_in (state old) over tree b)) where
  never_spent : IsClosed (term_in (state old) over tree a) → IsClosed (term_in (state old) over tree b) →
      (res : Result (Vec (KeyedGoal Key (PredicateKey Key))) (RelateFault Key Id Name)) →
      SpendsForVariables state old new over tree a b res → IfSpent res ⊥
  never_spent p q (Ok goals) h = tt
  never_spent p q (Err (Unrelated e)) h = tt
  never_spent p q (Err Budget) h = never_needs (state old).store sound (term_in (state old) over tree a)
      (term_in (state old) over tree b) p q h
  never_spent p q (Err Memory) h = tt

  pub leaves_closed : SpendsForVariables state old new over tree a b result →
      LeavesClosed state old new over tree a b result
  leaves_closed needs p q = (
    (built (closed_alphabet all_heads) (closed_built (term_in (state old) over tree a) p)
        (closed_built (term_in (state old) over tree b) q) (closed_binds all_heads (state old).store sound)).writes refl,
    never_spent p q result needs,
    λ ha hb. (built bare_alphabet (bare_built (term_in (state old) over tree a) p ha)
        (bare_built (term_in (state old) over tree b) q hb) (bare_binds (state old).store sound)).makes_none refl refl,
  )

pub none_keyed : {Key Id Name : Type 0} (m : Meaning Key Id Name) (gs : List (KeyedGoal Key (PredicateKey Key))) →
    goals_of m gs ≡ [] → gs ≡ []
none_keyed m [] q = refl
none_keyed m (g ∷ gs) q = absurd cc

pub asks_nothing : {S Key Id Name A : Type 0} (state : S → Context Key Id Name) (old new : S) (over : Option Head)
    (tree : Meaning Key Id Name → A → Tree) (a b : A) (k : Settings) (e : ParamEnvKey Key) (v : Variance) →
    IsSound (state old).store →
    (result : Result (Vec (KeyedGoal Key (PredicateKey Key))) (RelateFault Key Id Name)) →
    StaysBuilt (state old).store (state new).store (answered_goals state old new over tree result)
    (term_in (state old) over tree a) (term_in (state old) over tree b) →
    RegistersGoals (state old) (state new) k e v result → AsksNothing state old new over tree a b result
asks_nothing state old new over tree a b k e v sound (Err f) built h p q n o = tt
asks_nothing state old new over tree a b k e v sound (Ok goals) built h p q n o =
    none_keyed (state new).meaning goals.items (none_registered (goals_of (state new).meaning goals.items)
    (built (closed_alphabet no_aliases) (lacking_built (term_in (state old) over tree a) p n)
    (lacking_built (term_in (state old) over tree b) q o) (closed_binds no_aliases (state old).store sound)).asks h.1)
