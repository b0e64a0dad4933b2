-- What closed terms are built of: they need no variable, and no goal is asked of such without aliases.
use Rattle.std.proofs.Common.{◌≡◌, refl, inl, inr, subst, Bool, true, false, List, [], ◌∷◌, All, IsTrue}
use Rattle.std.proofs.lemmas.Bool.{false≢true}
use Rattle.std.proofs.lemmas.List.Elements.{All-head}
use Rattle.term_enums.specs.declared.Variance.{Variance}
use Rattle.relation_terms.specs.Heads.{type_var, int_var, float_var, const_var, region_var, Head, alias}
use Rattle.relation_terms.specs.Heads.{unevaluated, variable, bound, placeholder, atom, unknown}
use Rattle.relation_terms.specs.Trees.{Tree, leaf, node, bind, nil, cons}
use Rattle.relation_semantics.specs.Asking.{IsPlainTerm, HasNoAlias, ArePlain, without_aliases, without_binders}
use Rattle.relation_semantics.specs.Goals.{Goal, Registered, IsRegistered, of_variables, of_type, of_alias}
use Rattle.relation_semantics.specs.Goals.{of_too_much}
use Rattle.relation_semantics.specs.Alphabets.{Alphabet, IsBuiltOf, BindsBuiltOf, IsGoalOf, IsPredicateOf}
use Rattle.relation_semantics.specs.Alphabets.{NeedsVariable}
use Rattle.relation_semantics.specs.Relation.{Items, IsAlias, IsAliasHead}
use Rattle.relation_semantics.specs.Settings.{Settings}
use Rattle.relation_semantics.specs.Steps.{HasNoBinder}
use Rattle.relation_semantics.specs.Stores.{Store, IsSound}
use Rattle.relation_semantics.proofs.Building.{region_kind_is}
use Rattle.relation_semantics.proofs.Registered.{no_aliases}
use Rattle.relation_combining.specs.ClosedTerms.{IsClosed}

-- What closed terms are built of: these forms, each atom, and binders of regions.
abbrev pub closed_alphabet : (Head → Bool) → Alphabet
closed_alphabet heads = record { heads = heads; atoms = λ x. true; binders = true; variables = false }

abbrev pub all_heads : Head → Bool
all_heads h = true

pub closed_built : (t : Tree) → IsClosed t → IsBuiltOf (closed_alphabet all_heads) t
closed_built (leaf (variable k n)) h = λ o. absurd (o h)
closed_built (leaf (bound k d i)) h = tt
closed_built (leaf (placeholder k u n)) h = tt
closed_built (leaf (atom x)) h = refl
closed_built (leaf unknown) h = tt
closed_built (node f ts) h = (refl, closed_built ts h)
closed_built (bind ks t) h = ((refl, inl h.0), closed_built t h.1)
closed_built nil h = tt
closed_built (cons t u) h = (closed_built t h.0, closed_built u h.1)

head_built : (h : Head) → (IsAliasHead h → ⊥) → IsTrue (no_aliases h)
head_built (alias k d) o = absurd (o tt)
head_built (unevaluated d) o = absurd (o tt)
head_built h o = refl

pub lacking_built : (t : Tree) → IsClosed t → HasNoAlias t → IsBuiltOf (closed_alphabet no_aliases) t
lacking_built (leaf (variable k n)) h o = λ i. absurd (i h)
lacking_built (leaf (bound k d i)) h o = tt
lacking_built (leaf (placeholder k u n)) h o = tt
lacking_built (leaf (atom x)) h o = refl
lacking_built (leaf unknown) h o = tt
lacking_built (node f ts) h o = (head_built f o.0, lacking_built ts h o.1)
lacking_built (bind ks t) h o = ((refl, inl h.0), lacking_built t h.1 o)
lacking_built nil h o = tt
lacking_built (cons t u) h o = (lacking_built t h.0 o.0, lacking_built u h.1 o.1)

lacks_alias : (t : Tree) → IsBuiltOf (closed_alphabet no_aliases) t → IsAlias t → ⊥
lacks_alias (node (alias k d) ts) h o = false≢true h.0
lacks_alias (node (unevaluated d) ts) h o = false≢true h.0
lacks_alias (node h ts) f o = o
lacks_alias t h o = o

-- Region variables are bound to nothing.
pub closed_binds : (heads : Head → Bool) (st : Store) → IsSound st → BindsBuiltOf (closed_alphabet heads) st
closed_binds heads st sound region_var may n t e = let free = sound.regions_unbound n in absurd (cc (free, e))
closed_binds heads st sound type_var may n t e = absurd (false≢true (may (λ d. cc)))
closed_binds heads st sound int_var may n t e = absurd (false≢true (may (λ d. cc)))
closed_binds heads st sound float_var may n t e = absurd (false≢true (may (λ d. cc)))
closed_binds heads st sound const_var may n t e = absurd (false≢true (may (λ d. cc)))

-- What closed terms without binders are built of: each form and atom, and no binder.
abbrev pub bare_alphabet : Alphabet
bare_alphabet = record { heads = all_heads; atoms = λ x. true; binders = false; variables = false }

pub bare_built : (t : Tree) → IsClosed t → HasNoBinder t → IsBuiltOf bare_alphabet t
bare_built (leaf (variable k n)) h o = λ e. absurd (e h)
bare_built (leaf (bound k d i)) h o = tt
bare_built (leaf (placeholder k u n)) h o = tt
bare_built (leaf (atom x)) h o = refl
bare_built (leaf unknown) h o = tt
bare_built (node f ts) h o = (refl, bare_built ts h o)
bare_built (bind ks t) h o = absurd o
bare_built nil h o = tt
bare_built (cons t u) h o = (bare_built t h.0 o.0, bare_built u h.1 o.1)

pub bare_binds : (st : Store) → IsSound st → BindsBuiltOf bare_alphabet st
bare_binds st sound region_var may n t e = let free = sound.regions_unbound n in absurd (cc (free, e))
bare_binds st sound type_var may n t e = absurd (false≢true (may (λ d. cc)))
bare_binds st sound int_var may n t e = absurd (false≢true (may (λ d. cc)))
bare_binds st sound float_var may n t e = absurd (false≢true (may (λ d. cc)))
bare_binds st sound const_var may n t e = absurd (false≢true (may (λ d. cc)))

-- Nothing that relating registers is built so.
not_registered : {c : Items} {k : Settings} {v : Variance} {before after : Store} (p : Tree) →
    IsPredicateOf (closed_alphabet no_aliases) p → IsRegistered c k v before after p → ⊥
not_registered p s (of_variables x n m o e f g) =
    let z = subst (IsPredicateOf (closed_alphabet no_aliases)) e s in false≢true (z.0 (λ d. cc))
not_registered p s (of_type t o e i b) = let z = subst (IsPredicateOf (closed_alphabet no_aliases)) e s in false≢true z.0
not_registered p s (of_alias d a b o e (inl q) h i j) =
    let z = subst (IsPredicateOf (closed_alphabet no_aliases)) e s in lacks_alias a z.0 q
not_registered p s (of_alias d a b o e (inr q) h i j) =
    let z = subst (IsPredicateOf (closed_alphabet no_aliases)) e s in lacks_alias b z.1.0 q
not_registered p s (of_too_much o e) = let z = subst (IsPredicateOf (closed_alphabet no_aliases)) e s in false≢true z.1

pub none_registered : {c : Items} {k : Settings} {v : Variance} {x : Tree} {before after : Store} (gs : List Goal) →
    All (IsGoalOf (closed_alphabet no_aliases)) gs → All (Registered c k v x before after) gs → gs ≡ []
none_registered [] asks h = refl
none_registered {c = c} {k = k} {v = v} {x = x} {before = before} {after = after} (g ∷ gs) asks h =
    absurd (not_registered g.predicate (All-head (IsGoalOf (closed_alphabet no_aliases)) g gs asks)
    (All-head (Registered c k v x before after) g gs h).asks)

-- A plain term is closed.
plain_closed : (t : Tree) → IsPlainTerm t → IsClosed t
plain_closed (leaf (variable k n)) h = region_kind_is k h
plain_closed (leaf (bound k d i)) h = tt
plain_closed (leaf (placeholder k u n)) h = tt
plain_closed (leaf (atom x)) h = tt
plain_closed (leaf unknown) h = tt
plain_closed (node f ts) h = plain_closed ts h.1
plain_closed (bind ks t) h = (h.0, plain_closed t h.1)
plain_closed nil h = tt
plain_closed (cons t u) h = (plain_closed t h.0, plain_closed u h.1)

both_closed : (k : Settings) (a b : Tree) → ArePlain k a b → IsClosed a × IsClosed b
both_closed k a b (without_aliases p q n o) = (plain_closed a p, plain_closed b q)
both_closed k a b (without_binders p q n o l) = (plain_closed a p, plain_closed b q)

-- No closed terms need a variable.
pub never_needs : (st : Store) → IsSound st → (a b : Tree) → IsClosed a → IsClosed b → NeedsVariable st a b → ⊥
never_needs st sound a b p q n =
    false≢true (n (closed_alphabet all_heads) (closed_built a p) (closed_built b q) (closed_binds all_heads st sound))

pub plain_terms_never_need : (st : Store) → IsSound st → (a b : Tree) → IsPlainTerm a → IsPlainTerm b →
    NeedsVariable st a b → ⊥
plain_terms_never_need st sound a b p q n = never_needs st sound a b (plain_closed a p) (plain_closed b q) n

pub plain_never_needs : (k : Settings) (st : Store) → IsSound st → (a b : Tree) → ArePlain k a b → NeedsVariable st a b → ⊥
plain_never_needs k st sound a b p n = let z = both_closed k a b p in never_needs st sound a b z.0 z.1 n
