-- Binding a variable of a type or a constant to what a term comes to, generalised for it, in the tables of a context.
use Rattle.std.proofs.Common.{◌≡◌, ◌≢◌, ℕ, suc, refl, sym, ap, ◌∙◌, subst, subst₂, set, Some, [], Result, Ok, Err}
use Rattle.std.specs.Result.{IsErr, IsErrAnd}
use Rattle.term_enums.specs.declared.Variance.{Variance}
use Rattle.relation_terms.specs.declared.terms.part_kind.Part.{Part}
use Rattle.relation_terms.specs.Heads.{region_kind, const_sort, bound_kind, VarKind, type_var, int_var, float_var, const_var, region_var, static_region, early_region, Leaf, variable, bound, placeholder, atom, unknown}
use Rattle.relation_terms.specs.Trees.{Tree, leaf, node, bind, nil, cons, apply, IsTerm}
use Rattle.relation_terms.specs.Meaning.{Meaning, Extends}
use Rattle.relation_terms.specs.Parts.{part_tree}
use Rattle.relation_folds.specs.declared.error.TypeError.{TypeError}
use Rattle.relation_folds.specs.declared.error.RelateFault.{RelateFault}
use Rattle.relation_folds.specs.declared.error.RelateFault.TheVariants.{Memory, Budget, Unrelated}
use Rattle.relation_folds.specs.Faults.{KnowsError}
use Rattle.relation_semantics.specs.Relation.{Items, StaysWithin}
use Rattle.relation_semantics.specs.Lawful.{items_of}
use Rattle.relation_semantics.specs.Bound.{IsWellBound}
use Rattle.relation_semantics.specs.ErasureLaws.{IsTypeOrConst}
use Rattle.relation_semantics.specs.Stores.{Store, unbound, bound_to, entry_of, universe_of, IsMade, MayStandFor, InContext, IsTermIn, resolved}
use Rattle.relation_semantics.specs.Steps.{BindsTo}
use Rattle.term_enums.specs.declared.StructurallyRelateAliases.{StructurallyRelateAliases}
use Rattle.relation_semantics.specs.Generalising.{gives_way_to, Side, outside, Stage, Turn, any_part, new_part, Generalised, met_before, met_first, no_type, stays, gives_way, alias_gives_way, by_parts, in_binder, variance_for, InstantiatesBy, MakesUnbound, makes_none, Obstacle, cycle, beyond, StopsAt}
use Rattle.relation_semantics.specs.ContextCalls.{Instantiated, ObstacleError}
use Rattle.relation_semantics.proofs.NewVariables.{Adds, adds}
use Rattle.relation_semantics.proofs.Standing.{term_context, term_within}
use Rattle.relation_semantics.proofs.StoreCalls.{resolved_in}
use Rattle.relation_semantics.proofs.Variables.{const_is_formed}
use Rattle.relation_semantics.proofs.BindingGeneralised.{generalising_instantiates}
use Rattle.variable_tables.specs.declared.inner.InferCtxtInner.{InferCtxtInner}
use Rattle.variable_tables.specs.Tables.{store_of, context_of, keys_in, MayBeBoundTo, IsLawful}
use Rattle.relation_reference.specs.Generalises.{GivenError, IsGeneralisedFor}
use Rattle.variable_tables.proofs.Beside.{Beside}
use Rattle.relation_reference.proofs.Bound.{comes_by_lists}
use Rattle.relation_reference.proofs.Generalising.{generalised_by_lists, generalised_within, none_met}
use Rattle.variable_tables.proofs.Grows.{store_grows, lawful_grows}
use Rattle.variable_tables.proofs.Writing.{bind_binds, bind_lawful}
use Rattle.relation_semantics.proofs.Answering.{items_stay}

-- Only a variable of a constant becomes one.
gives_const : (l : Leaf) → gives_way_to l ≡ Some const_var → (m : ℕ) × (l ≡ variable const_var m)
gives_const (variable const_var m) g = (m, refl)
gives_const (variable type_var m) g = absurd (cc)
gives_const (variable region_var m) g = absurd (cc)
gives_const (placeholder (bound_kind region_kind x) w m) g = absurd (cc)
gives_const (atom static_region) g = absurd (cc)
gives_const (atom (early_region b x)) g = absurd (cc)
gives_const l g = absurd (cc)

new_no_const : {al : StructurallyRelateAliases} {c : Items} {start : Store} {k : VarKind} {n : ℕ} {e : Side} {v : Variance} {r q : Stage} {t x : Tree} → Generalised al c start k n (new_part e v) r t q x → ((m : ℕ) → t ≢ leaf (variable const_var m)) → (m : ℕ) → x ≢ leaf (variable const_var m)
new_no_const (stays o s) f m h = f m h
new_no_const (gives_way {l = l} {j = i} {m = d} o s e g b) f m h =
    let same : i ≡ const_var = cc in
    let own = gives_const l (e ∙ ap Some same) in
    f own.0 (ap leaf own.1)
new_no_const (alias_gives_way p o g b) f m h = cc
new_no_const (by_parts p g) f m h = cc
new_no_const (in_binder g) f m h = cc

generalised_no_const : {al : StructurallyRelateAliases} {c : Items} {start : Store} {k : VarKind} {n : ℕ} {e : Side} {v : Variance} {r q : Stage} {t x : Tree} → Generalised al c start k n (any_part e v) r t q x → r.met ≡ [] → ((m : ℕ) → t ≢ leaf (variable const_var m)) → (m : ℕ) → x ≢ leaf (variable const_var m)
generalised_no_const (met_before {r = r} s h) e f = absurd (none_met r.met _ e h)
generalised_no_const (met_first s o g a b) e f = new_no_const g f
generalised_no_const (no_type s g) e f = new_no_const g f

-- A constant that is no variable comes to none.
no_const_variable : (st : Store) (t : Tree) → IsTerm const_sort t → ((m : ℕ) → t ≢ leaf (variable const_var m)) → (n : ℕ) → apply (resolved st) t ≢ leaf (variable const_var n)
no_const_variable st (leaf (variable const_var m)) f o n e = o m refl
no_const_variable st (leaf (variable type_var m)) f o n e = f
no_const_variable st (leaf (variable int_var m)) f o n e = f
no_const_variable st (leaf (variable float_var m)) f o n e = f
no_const_variable st (leaf (variable region_var m)) f o n e = f
no_const_variable st (leaf (bound q d i)) f o n e = cc
no_const_variable st (leaf (placeholder q u i)) f o n e = cc
no_const_variable st (leaf (atom x)) f o n e = cc
no_const_variable st (leaf unknown) f o n e = cc
no_const_variable st (node h ts) f o n e = cc
no_const_variable st (bind ks t) f o n e = f
no_const_variable st nil f o n e = f
no_const_variable st (cons t ts) f o n e = f

-- A constant of such a form is no variable of any kind.
no_variable_at_all : (t : Tree) → IsTerm const_sort t → ((m : ℕ) → t ≢ leaf (variable const_var m)) → (k : VarKind) (n : ℕ) → t ≡ leaf (variable k n) → ⊥
no_variable_at_all t f o const_var n e = o n e
no_variable_at_all t f o type_var n e = subst (IsTerm const_sort) e f
no_variable_at_all t f o int_var n e = subst (IsTerm const_sort) e f
no_variable_at_all t f o float_var n e = subst (IsTerm const_sort) e f
no_variable_at_all t f o region_var n e = subst (IsTerm const_sort) e f

-- What was generalised by equal items, from an equal start, for an equal term.
generalised_moved : {al : StructurallyRelateAliases} {k : VarKind} {i : ℕ} {turn : Turn} {last : Stage} {x : Tree} (c d : Items) (st now : Store) (t u : Tree) → d ≡ c → now ≡ st → u ≡ t →
    Generalised al d now k i turn (record { store = now; met = [] }) u last x → Generalised al c st k i turn (record { store = st; met = [] }) t last x
generalised_moved {al} {k} {i} {turn} {last} {x} c d st now t u a b e g =
    subst (λ z. Generalised al z st k i turn (record { store = st; met = [] }) t last x) a
    (subst (λ z. Generalised al d z k i turn (record { store = z; met = [] }) t last x) b
    (subst (λ z. Generalised al d now k i turn (record { store = now; met = [] }) z last x) e g))

stops_moved : {al : StructurallyRelateAliases} {k : VarKind} {i : ℕ} {o : Obstacle} (st now : Store) (t u : Tree) → now ≡ st → u ≡ t → StopsAt al now k i o u → StopsAt al st k i o t
stops_moved {al} {k} {i} {o} st now t u a e s = subst (λ z. StopsAt al z k i o t) a (subst (StopsAt al now k i o) e s)

-- The tables `x` are those before, `w` those after the term was resolved, in an interner that had grown.
module _ {Key Id Name : Type 0} {m n : Meaning Key Id Name} (grown : Extends m n) (x w : InferCtxtInner Key) (resolving : w ≡ x) (l : IsLawful m x) where
  pub still : store_of n w ≡ store_of m x
  still = ap (store_of n) resolving ∙ store_grows grown x l

  pub resolved_lawful : IsLawful n w
  resolved_lawful = subst (IsLawful n) (sym resolving) (lawful_grows grown x l)

  -- What the term was resolved to is of the context.
  module _ (t u : Tree) (comes : u ≡ apply (resolved (store_of m x)) t) where
    pub source_context : IsTermIn (store_of m x) t → InContext (store_of n w) u
    source_context h = subst₂ InContext (sym still) (sym comes) (term_context (store_of m x) (apply (resolved (store_of m x)) t) (resolved_in (store_of m x) l.sound t h))

  -- Memory ran out on the way.
  module _ {K : Type 0} (tree : Meaning Key Id Name → K → Tree) (cyclic : K → TypeError Key Id Name) (al : StructurallyRelateAliases) (k : VarKind) (i : ℕ) (v : Variance) (t : Tree) (left : x.budget ≢ 0) where
    pub out_of_memory : (r : Result K (RelateFault Key Id Name)) → IsErr r → IsErrAnd r (λ f. f ≡ Memory) → Instantiated (context_of m x) (context_of n w) al v k i t tree cyclic r
    out_of_memory (Ok y) a b = absurd (cc)
    out_of_memory (Err Memory) a b = (left, subst (MakesUnbound (universe_of (store_of m x) k i) (store_of m x)) (sym still) makes_none)
    out_of_memory (Err Budget) a b = absurd (cc)
    out_of_memory (Err (Unrelated e)) a b = absurd (cc)

-- The same with `z`, the tables after the term was generalised for a variable of universe `u`.
module _ {Key Id Name : Type 0} {m n : Meaning Key Id Name} (o : Meaning Key Id Name) (grown : Extends m n) (x w z : InferCtxtInner Key) (resolving : w ≡ x) (l : IsLawful m x)
    (al : StructurallyRelateAliases) (k : VarKind) (i u : ℕ) (universe : universe_of (store_of n w) k i ≡ u) (makes : MakesUnbound u (store_of n w) (store_of o z)) where
  made_since : MakesUnbound (universe_of (store_of m x) k i) (store_of m x) (store_of o z)
  made_since = subst (λ s. MakesUnbound (universe_of s k i) s (store_of o z)) (still grown x w resolving l) (subst (λ y. MakesUnbound y (store_of n w) (store_of o z)) (sym universe) makes)

  added : Adds (universe_of (store_of m x) k i) (store_of m x) (store_of o z)
  added = adds l.sound ((l.sound).below_current k i) made_since

  pub left_still : z.budget ≡ x.budget
  left_still = added.budget

  pub made_still : IsMade (store_of m x) k i → IsMade (store_of o z) k i
  made_still made = (added.later).grows k i made

  pub free_still : entry_of (store_of m x) k i ≡ unbound → entry_of (store_of o z) k i ≡ unbound
  free_still free = added.entries k i ∙ free

  -- `key` is what the term was resolved to. An obstacle stood in the way, or memory ran out.
  module _ {K : Type 0} (tree : Meaning Key Id Name → K → Tree) (cyclic : K → TypeError Key Id Name) (v : Variance) (t : Tree) (left : x.budget ≢ 0) (made : IsMade (store_of m x) k i) (free : entry_of (store_of m x) k i ≡ unbound)
      (key : K) (comes : tree n key ≡ apply (resolved (store_of m x)) t) (knows : KnowsError o (cyclic key)) (stays_key : tree o key ≡ tree n key) (a : Variance) (p : Part Key Id) (is : part_tree n p ≡ tree n key) where
    known_error : (e : TypeError Key Id Name) (ob : Obstacle) → GivenError (cyclic key) e ob → KnowsError o e
    known_error e cycle q = subst (KnowsError o) (sym q) knows
    known_error e beyond q = subst (KnowsError o) (sym q) tt

    its_error : (e : TypeError Key Id Name) (ob : Obstacle) → GivenError (cyclic key) e ob → ObstacleError (tree o) cyclic (apply (resolved (store_of m x)) t) e ob
    its_error e cycle q = (key, stays_key ∙ comes, q)
    its_error e beyond q = q

    pub stopped : (f : RelateFault Key Id Name) → IsGeneralisedFor n o (store_of n w) (store_of o z) al k i a (cyclic key) p (Err f) →
        (s : Result K (RelateFault Key Id Name)) → s ≡ Err f → Instantiated (context_of m x) (context_of o z) al v k i t tree cyclic s
    stopped f h s e = subst (Instantiated (context_of m x) (context_of o z) al v k i t tree cyclic) (sym e) (go f h)
      where
        go : (f : RelateFault Key Id Name) → IsGeneralisedFor n o (store_of n w) (store_of o z) al k i a (cyclic key) p (Err f) → Instantiated (context_of m x) (context_of o z) al v k i t tree cyclic (Err f)
        go Memory h = (left, made_since)
        go Budget h = absurd h
        go (Unrelated e) h = (known_error e h.0 h.2, (h.0, record { made = made; was_unbound = free; may_spend = left; makes = made_since; stops = stops_moved (store_of m x) (store_of n w) (apply (resolved (store_of m x)) t) (part_tree n p) (still grown x w resolving l) (is ∙ comes) h.1 }, its_error e h.0 h.2))

  -- The variable was bound: `y` are the tables after that.
  module _ (y : InferCtxtInner Key) (term full : Tree) (kind : IsTypeOrConst k) (v : Variance) (t : Tree) (made : IsMade (store_of m x) k i) (free : entry_of (store_of m x) k i ≡ unbound) (z_lawful : IsLawful o z)
      (beside : Beside o z y k) (keys : keys_in o y k ≡ keys_in o z k) (entries : (store_of o y).entries k ≡ set ((store_of o z).entries k) i (bound_to term))
      (universes : (store_of o y).universes k ≡ (store_of o z).universes k) (budget : z.budget ≡ suc y.budget) (comes : full ≡ apply (resolved (store_of m x)) t)
      (g : (last : Stage) × (last.store ≡ store_of o z) × Generalised al (items_of n) (store_of n w) k i (any_part outside (variance_for k v)) (record { store = store_of n w; met = [] }) full last term)
      (t_in : IsTermIn (store_of m x) t) (stands : MayStandFor k t) where
    pub generalised_here : Generalised al (items_of m) (store_of m x) k i (any_part outside (variance_for k v)) (record { store = (store_of m x); met = [] }) (apply (resolved (store_of m x)) t) (g.0) term
    generalised_here = generalised_moved (items_of m) (items_of n) (store_of m x) (store_of n w) (apply (resolved (store_of m x)) t) full (items_stay grown) (still grown x w resolving l) comes g.2

    pub by_rules : InstantiatesBy al (items_of m) (store_of m x) (store_of o y) v k i t term
    by_rules = record { made = made; last = g.0; generalised = generalised_here; binds = subst (λ s. BindsTo s (store_of o y) k i term) (sym g.1) (bind_binds o z y k beside keys z_lawful i term entries universes (made_still made) (free_still free) budget) }

    pub bound_lawful : MayBeBoundTo k term → IsLawful o y
    bound_lawful may = bind_lawful o z y k beside keys z_lawful i term entries universes (made_still made) (free_still free) may
        ((generalising_instantiates al (items_of m) (store_of m x) (store_of o y) v k i t term kind by_rules l.numbers_name_nothing l.sound t_in stands).0.stays_sound l.sound)

-- What variables are bound to may be bound.
module _ {Key Id Name : Type 0} {al : StructurallyRelateAliases} {c : Items} {k : VarKind} {n : ℕ} {v : Variance} {last : Stage} {term : Tree} (m : Meaning Key Id Name) (x : InferCtxtInner Key) (l : IsLawful m x) (t : Tree)
    (g : Generalised al c (store_of m x) k n (any_part outside v) (record { store = store_of m x; met = [] }) (apply (resolved (store_of m x)) t) last term) (lists : IsWellBound t) where
  bound_by_lists : IsWellBound term
  bound_by_lists = generalised_by_lists g (comes_by_lists m x l t lists)

  pub type_may : MayBeBoundTo type_var term
  type_may = bound_by_lists

  -- Nothing escapes from what it is bound to.
  bound_within : IsTermIn (store_of m x) t → StaysWithin 0 term
  bound_within h = generalised_within g (comes_by_lists m x l t lists)
      (term_within (store_of m x) (apply (resolved (store_of m x)) t) (resolved_in (store_of m x) l.sound t h))

  pub const_may : IsTerm const_sort t → ((i : ℕ) → t ≢ leaf (variable const_var i)) → IsTermIn (store_of m x) t → IsTerm const_sort term → MayBeBoundTo const_var term
  const_may f o t_in h = (const_is_formed term h (bound_within t_in) (no_variable_at_all term h (generalised_no_const g refl (no_const_variable (store_of m x) t f o))), bound_by_lists)
