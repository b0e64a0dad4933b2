-- At invariance, where all stands in one universe, generalising makes variables of regions alone.
use Rattle.std.proofs.Common.{◌≡◌, ◌⊎◌, ℕ, ◌<◌, refl, sym, ap, ◌∙◌, inl, inr, subst, Some, length}
use Rattle.term_enums.specs.declared.Variance.{Variance}
use Rattle.term_enums.specs.declared.Variance.TheVariants.{Invariant}
use Rattle.relation_terms.specs.Heads.{VarKind, type_var, const_var, region_var, region_kind, bound_kind, static_region, early_region, value_type, alias, Head, Leaf, variable, placeholder, atom}
use Rattle.relation_terms.specs.Trees.{Tree, node, Leaves, apply}
use Rattle.term_enums.specs.declared.StructurallyRelateAliases.{StructurallyRelateAliases}
use Rattle.relation_semantics.specs.Relation.{Items}
use Rattle.relation_semantics.specs.Stores.{Store, IsMadeLeaf, InContext, universe_of, IsMade, IsTermIn, IsSound, MayStandFor, resolved}
use Rattle.relation_semantics.specs.FirstOrder.{IsFirstOrder, IsFirstOrderStore, IsClosedLeaf, IsTypeClosed}
use Rattle.relation_semantics.specs.ErasureLaws.{IsTypeOrConst}
use Rattle.relation_semantics.specs.Steps.{IsNamedBy, LacksAliases, MakesVariable, Instantiates}
use Rattle.relation_semantics.specs.OneUniverse.{NamesTypesTo, HasOneUniverse, StaysOf}
use Rattle.relation_combining.specs.UniverseLaws.{GeneralisingKeepsUniverse}
use Rattle.relation_semantics.specs.Generalising.{Stays, gives_way_to, Stage, Turn, any_part, new_part, parts_from, Generalised, met_before, met_first, no_type, stays, gives_way, alias_gives_way, by_parts, in_binder, no_parts, next_part, variance_for, InstantiatesBy, NumbersNameNothing}
use Rattle.relation_steps.proofs.Fronts.{IsLookedAt, part_invariant}
use Rattle.relation_semantics.proofs.Instantiating.{resolved_first_order}
use Rattle.relation_semantics.proofs.BindingGeneralised.{generalised_instantiates}
use Rattle.relation_semantics.proofs.OneUniverse.{roots_fall, bound_names, all_named}
use Rattle.relation_semantics.proofs.Standing.{term_context}
use Rattle.relation_semantics.proofs.GeneralisedLeaves.{first_order_lacks}
use Rattle.std.proofs.lemmas.Option.{same_Some}

-- No variable of a type or a constant was made.
abbrev MakesNoTypes : Store → Store → Type 0
MakesNoTypes before after = (j : VarKind) → IsTypeOrConst j → length (after.entries j) ≡ length (before.entries j)

-- Variables of regions are made for leaves that are closed, and at invariance for those that can be named.
closed_gives : (l : Leaf) (j : VarKind) → gives_way_to l ≡ Some j → IsClosedLeaf l → region_var ≡ j
closed_gives (variable type_var m) j e h = absurd h
closed_gives (variable const_var m) j e h = absurd h
closed_gives (variable region_var m) j e h = same_Some _ _ e
closed_gives (placeholder (bound_kind region_kind x) w i) j e h = same_Some _ _ e
closed_gives (atom static_region) j e h = same_Some _ _ e
closed_gives (atom (early_region i x)) j e h = same_Some _ _ e
closed_gives l j e h = absurd cc

named_gives : (st : Store) (u : ℕ) (v : Variance) (l : Leaf) (j : VarKind) → (Stays st u v l → ⊥) → gives_way_to l ≡ Some j → v ≡ Invariant → IsNamedBy st u l → region_var ≡ j
named_gives st u v (variable type_var i) j o e p (inl h) = absurd cc
named_gives st u v (variable type_var i) j o e p (inr h) = absurd (o (p, h))
named_gives st u v (variable const_var i) j o e p (inl h) = absurd cc
named_gives st u v (variable const_var i) j o e p (inr h) = absurd (o h)
named_gives st u v (variable region_var i) j o e p h = same_Some _ _ e
named_gives st u v (placeholder (bound_kind region_kind x) w i) j o e p h = same_Some _ _ e
named_gives st u v (atom static_region) j o e p h = same_Some _ _ e
named_gives st u v (atom (early_region i x)) j o e p h = same_Some _ _ e
named_gives st u v l j o e p h = absurd cc

region_makes : (before after : Store) (j : VarKind) (m u : ℕ) → MakesVariable before after j m u → region_var ≡ j → MakesNoTypes before after
region_makes before after j m u f e i kind = ap length (f.other_entries i (λ p. subst IsTypeOrConst (p ∙ sym e) kind))

-- Where a turn is at invariance, of parts that are looked at.
abbrev IsFixed : Turn → Type 0
IsFixed (any_part d v) = v ≡ Invariant
IsFixed (new_part d v) = v ≡ Invariant
IsFixed (parts_from d h i v) = (v ≡ Invariant) × IsLookedAt h

is_value_type : (h : Head) → (h ≡ value_type) ⊎ IsLookedAt h
is_value_type value_type = inl refl
is_value_type h = inr tt

module _ (al : StructurallyRelateAliases) (c : Items) (start : Store) (k : VarKind) (n : ℕ) where
  closed_makes : {turn : Turn} {r q : Stage} {t x : Tree} → Generalised al c start k n turn r t q x → LacksAliases t → Leaves IsClosedLeaf t → MakesNoTypes r.store q.store
  closed_makes (met_before s d) z h = λ j i. refl
  closed_makes (met_first s new f e d) z h = λ j i. ap (λ st. length (st.entries j)) e ∙ closed_makes f z h j i
  closed_makes (no_type s f) z h = closed_makes f z h
  closed_makes (stays o s) z h = λ j i. refl
  closed_makes (gives_way {r = r} {q = q} {l = l} {j = j} {m = m} o s e f d) z h = region_makes r.store q.store j m (universe_of start k n) f (closed_gives l j e h)
  closed_makes (alias_gives_way e o f d) z h = absurd z.0
  closed_makes (by_parts p f) z h = closed_makes f z.1 h
  closed_makes (in_binder f) z h = closed_makes f z h
  closed_makes no_parts z h = λ j i. refl
  closed_makes (next_part f s) z h = λ j i. closed_makes s z.1 h.1 j i ∙ closed_makes f z.0 h.0 j i

  named_makes : {turn : Turn} {r q : Stage} {t x : Tree} → Generalised al c start k n turn r t q x → IsFixed turn → Leaves (IsNamedBy start (universe_of start k n)) t → IsFirstOrder t → MakesNoTypes r.store q.store
  named_makes (met_before s d) i h o = λ j z. refl
  named_makes (met_first s new f e d) i h o = λ j z. ap (λ st. length (st.entries j)) e ∙ named_makes f i h o j z
  named_makes (no_type s f) i h o = named_makes f i h o
  named_makes (stays p s) i h o = λ j z. refl
  named_makes (gives_way {v = v} {r = r} {q = q} {l = l} {j = j} {m = m} p s e f d) i h o = region_makes r.store q.store j m (universe_of start k n) f (named_gives start (universe_of start k n) v l j s e i h)
  named_makes (alias_gives_way {a = a} {d = d} {ts = ts} e z f b) i h o = absurd (first_order_lacks (node (alias a d) ts) o).0
  named_makes (by_parts {r = r} {q = q} {h = a} {ts = ts} z f) i h o = go (is_value_type a) (λ l. named_makes f (i, l) h o.3)
    where
      go : (a ≡ value_type) ⊎ IsLookedAt a → (IsLookedAt a → MakesNoTypes r.store q.store) → MakesNoTypes r.store q.store
      go (inl e) m = closed_makes f (first_order_lacks ts o.3) (subst (λ b. IsTypeClosed b ts) e o.2)
      go (inr l) m = m l
  named_makes (in_binder f) i h o = absurd o
  named_makes no_parts i h o = λ j z. refl
  named_makes (next_part {h = a} {i = p} {v = v} f s) i h o = λ j z.
      named_makes s i h.1 o.1 j z ∙ named_makes f (part_invariant c a p v i.1 i.0) h.0 o.0 j z

-- At invariance the source is seen at invariance.
fixed_for : (k : VarKind) (v : Variance) → IsTypeOrConst k → v ≡ Invariant → variance_for k v ≡ Invariant
fixed_for type_var v i e = e
fixed_for const_var v i e = refl
fixed_for k v i e = absurd i

module _ (al : StructurallyRelateAliases) (c : Items) (before after : Store) (v : Variance) (k : VarKind) (n : ℕ) (source term : Tree) (kind : IsTypeOrConst k) (f : InstantiatesBy al c before after v k n source term)
    (numbers : NumbersNameNothing before) (g : IsSound before) (is_in : IsTermIn before source) (stands : MayStandFor k source) where
  steps : Instantiates before after v k n source term
  steps = generalised_instantiates al c before after v k n source term kind f numbers g is_in stands

  source_made : Leaves (IsMadeLeaf before) source
  unfolding InContext
  source_made = term_context before source is_in

  pub instantiates_in_one : v ≡ Invariant → IsFirstOrder source → IsFirstOrderStore before → (u : ℕ) → HasOneUniverse u before → Leaves (NamesTypesTo u) source → StaysOf u before after × Leaves (NamesTypesTo u) term
  instantiates_in_one e d simple u h names = (
    (still, roots_fall before after steps.later no_types),
    bound_names after (steps.stays_sound g) u still k n term steps.now_bound,
  )
    where
      named : Leaves (IsNamedBy before (universe_of before k n)) (apply (resolved before) source)
      named = subst (λ z. Leaves (IsNamedBy before z) (apply (resolved before) source)) (sym (h k n kind f.made)) (all_named before g u h numbers source source_made names)

      no_types : MakesNoTypes before after
      no_types j i = ((f.binds).writes).as_many j
          ∙ named_makes al c before k n f.generalised (fixed_for k v kind e) named (resolved_first_order before g simple source d) j i

      still : HasOneUniverse u after
      still j m i made =
          let was : IsMade before j m = subst (λ z. m < z) (no_types j i) made in
          steps.same_universes j m was ∙ h j m i was

pub generalising_keeps_universe : GeneralisingKeepsUniverse
generalising_keeps_universe al c before after k n u source term kind f numbers g is_in stands d simple h names =
    instantiates_in_one al c before after Invariant k n source term kind f numbers g is_in stands refl d simple u h names
