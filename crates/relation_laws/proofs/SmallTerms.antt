-- Small terms in the relation.
use Rattle.std.proofs.Common.{◌≡◌, ◌≢◌, ℕ, refl, sym, inl, inr, subst, subst₂, ap, ◌∙◌, List, [], ◌∷◌, false}
use Rattle.term_enums.specs.declared.Variance.{Variance}
use Rattle.term_enums.specs.declared.Variance.TheVariants.{Covariant, Contravariant, Invariant, Bivariant}
use Rattle.term_enums.specs.declared.Mutability.TheVariants.{Not, Mut}
use Rattle.term_enums.specs.declared.Safety.TheVariants.{Safe}
use Rattle.term_enums.specs.declared.ExternAbi.TheVariants.{Rust}
use Rattle.relation_terms.specs.Heads.{leaf_sort, head_sort, region_sort, type_param, const_param, uint_type, bool_type, host_effect, subtype, region_outlives, type_outlives, projection, const_has_type, well_formed, const_evaluatable, coerce, normalizes_to, alias_relate, environment, trait_clause, Head, adt, ref, tuple, fn_ptr, signature, inputs, value, value_type, BoundKind}
use Rattle.relation_terms.specs.Trees.{Tree, leaf, node, bind, nil, cons, inst, IsList, IsTerm}
use Rattle.term_enums.specs.declared.UintTy.TheVariants.{U8}
use Rattle.term_enums.specs.declared.PredicatePolarity.{PredicatePolarity}
use Rattle.term_enums.specs.Variances.{xform}
use Rattle.relation_terms.specs.Meaning.{value_tree}
use Rattle.relation_semantics.specs.Relation.{Items, Interpretation, parts, second_opened, first_opened, Rel, at, same, anything, regions, atoms, forms, no_parts, next_part, covariant_binders, open_second, open_first, Outlives, itself, sort_of, RegionRule, IsRelatedHead, plain_atom, error_left, error_right, alias_types, equal_consts, contravariant_binders, invariant_binders, Avoids}
use Rattle.relation_laws.specs.SmallTerms.{u8, bool, static, named, ref_to, fn_of, a_region, bound_region, region_placeholder, IsReflexive, AnythingAtBivariance, ErrorsAreRelated, ParametersByIndex, ValuesByTheirTrees, ReferencesByRegions, MutablePointeesAreFixed, InputsTurnRound, BivariantArguments, UnlikeHeadsAreUnrelated, UnlikeAtomsAreUnrelated, AtomsAreNoForms, FormsByParts, IsPredicateSort, PredicatesWithThemselvesAlone, AnyIsStatic, StaticIsNotAny, PlaceholderIsNotAny, OneRegionIsNotTwo, AnyIsNotInvariantlyStatic}
use Rattle.relation_terms.proofs.Members.{region_only}
use Rattle.relation_semantics.proofs.Related.{region_of, heads_inverted, forms_inverted, others_inverted, atoms_inverted, covariant_opened, invariant_opened, no_form_left, no_form_right}

pub is_reflexive : IsReflexive
is_reflexive c w e v a = same refl

pub anything_at_bivariance : AnythingAtBivariance
anything_at_bivariance c w e a b = anything refl

pub errors_are_related : ErrorsAreRelated
errors_are_related c w e v a b (inl h) p = error_left h p
errors_are_related c w e v a b (inr h) p = error_right h p

type_index : {i j : ℕ} (n m : ℕ) → plain_atom (type_param i n) ≡ plain_atom (type_param j m) → i ≡ j
type_index n m e = cc

const_index : {i j : ℕ} (n m : ℕ) → plain_atom (const_param i n) ≡ plain_atom (const_param j m) → i ≡ j
const_index n m e = cc

pub parameters_by_index : ParametersByIndex
parameters_by_index c w e v i j n m b = (
  (λ r. type_index n m (atoms_inverted b (λ h. h) (λ h. h) (λ h. cc) r), λ p. atoms (ap (λ z. type_param z 0) p)),
  (λ r. const_index n m (atoms_inverted b (λ h. h) (λ h. h) (λ h. cc) r), λ p. atoms (ap (λ z. const_param z 0) p)),
)

value_parts : {c : Items} {w : Interpretation} {e : Tree} (v : Variance) {ty ty' t t' : Tree} → Rel c w e (parts value 0 v) (cons (node value_type (cons ty nil)) (cons t nil)) (cons (node value_type (cons ty' nil)) (cons t' nil)) → Rel c w e (at v) t t'
value_parts Covariant (next_part _ (next_part r _)) = r
value_parts Contravariant (next_part _ (next_part r _)) = r
value_parts Invariant (next_part _ (next_part r _)) = r
value_parts Bivariant r = anything refl

values_back : {c : Items} {w : Interpretation} {e : Tree} (v : Variance) {ty ty' t t' : Tree} → Rel c w e (at v) (value_tree ty t) (value_tree ty' t') → Rel c w e (at v) t t'
values_back Covariant r = value_parts Covariant (forms_inverted (λ p. cc) (λ h. h) (λ h. h) tt r).1
values_back Contravariant r = value_parts Contravariant (forms_inverted (λ p. cc) (λ h. h) (λ h. h) tt r).1
values_back Invariant r = value_parts Invariant (forms_inverted (λ p. cc) (λ h. h) (λ h. h) tt r).1
values_back Bivariant r = anything refl

values_forth : {c : Items} {w : Interpretation} {e : Tree} (v : Variance) {ty ty' t t' : Tree} → Rel c w e (at v) t t' → Rel c w e (at v) (value_tree ty t) (value_tree ty' t')
values_forth Covariant r = forms tt refl (next_part (forms tt refl (next_part (anything refl) no_parts)) (next_part r no_parts))
values_forth Contravariant r = forms tt refl (next_part (forms tt refl (next_part (anything refl) no_parts)) (next_part r no_parts))
values_forth Invariant r = forms tt refl (next_part (forms tt refl (next_part (anything refl) no_parts)) (next_part r no_parts))
values_forth Bivariant r = anything refl

pub values_by_their_trees : ValuesByTheirTrees
values_by_their_trees c w e v ty ty' t t' = (values_back v, values_forth v)

-- The regions of references.
first_region : {c : Items} {w : Interpretation} {e : Tree} (v : Variance) {a b t u : Tree} → sort_of a ≡ region_sort → sort_of b ≡ region_sort → Rel c w e (parts (ref Not) 0 v) (cons a (cons t nil)) (cons b (cons u nil)) → RegionRule w v a b
first_region Covariant p q (next_part r _) = region_of r p q
first_region Contravariant p q (next_part r _) = region_of r p q
first_region Invariant p q (next_part r _) = region_of r p q
first_region Bivariant p q r = tt

refs_back : {c : Items} {w : Interpretation} {e : Tree} (v : Variance) {a b t u : Tree} → sort_of a ≡ region_sort → sort_of b ≡ region_sort → Rel c w e (at v) (ref_to a t) (ref_to b u) → RegionRule w v a b
refs_back Covariant p q r = first_region Covariant p q (forms_inverted (λ p. cc) (λ h. h) (λ h. h) tt r).1
refs_back Contravariant p q r = first_region Contravariant p q (forms_inverted (λ p. cc) (λ h. h) (λ h. h) tt r).1
refs_back Invariant p q r = first_region Invariant p q (forms_inverted (λ p. cc) (λ h. h) (λ h. h) tt r).1
refs_back Bivariant p q r = tt

refs_forth : {c : Items} {w : Interpretation} {e : Tree} (v : Variance) {a b t : Tree} → sort_of a ≡ region_sort → sort_of b ≡ region_sort → RegionRule w v a b → Rel c w e (at v) (ref_to a t) (ref_to b t)
refs_forth Covariant p q r = forms tt refl (next_part (regions p q r) (next_part (same refl) no_parts))
refs_forth Contravariant p q r = forms tt refl (next_part (regions p q r) (next_part (same refl) no_parts))
refs_forth Invariant p q r = forms tt refl (next_part (regions p q r) (next_part (same refl) no_parts))
refs_forth Bivariant p q r = anything refl

pub references_by_regions : ReferencesByRegions
references_by_regions c w e a b t p q = ((refs_back Covariant p q, refs_forth Covariant p q), (refs_back Contravariant p q, refs_forth Contravariant p q), (refs_back Invariant p q, refs_forth Invariant p q))

pointee : {c : Items} {w : Interpretation} {e x t u : Tree} → Rel c w e (parts (ref Mut) 0 Covariant) (cons x (cons t nil)) (cons x (cons u nil)) → Rel c w e (at Invariant) t u
pointee (next_part _ (next_part r _)) = r

pub mutable_pointees_are_fixed : MutablePointeesAreFixed
mutable_pointees_are_fixed c w e x a b p q = (
  λ r. refs_back Invariant p q (pointee (forms_inverted (λ p. cc) (λ h. h) (λ h. h) tt r).1),
  λ h. forms tt refl (next_part (same refl) (next_part (refs_forth Invariant p q h) no_parts)),
)

-- The inputs of signatures.
abbrev signature_of : Tree → Tree
signature_of ts = node (signature false Safe Rust) (cons (node inputs ts) (cons (node tuple nil) nil))

inputs_of : {c : Items} {w : Interpretation} {e : Tree} (v u : Variance) {ts us : Tree} → xform v Contravariant ≡ u → v ≢ Bivariant → u ≢ Bivariant → IsList ts → Rel c w e (at v) (signature_of ts) (signature_of us) → Rel c w e (parts inputs 0 u) ts us
inputs_of {c = c} {w = w} {e = e} v u {ts = ts} {us = us} p n m l r = (forms_inverted m (λ h. h) (λ h. h) l (subst (λ z. Rel c w e (at z) (node inputs ts) (node inputs us)) p (turned (forms_inverted n (λ h. h) (λ h. h) tt r).1))).1
  where
    turned : Rel c w e (parts (signature false Safe Rust) 0 v) (cons (node inputs ts) (cons (node tuple nil) nil)) (cons (node inputs us) (cons (node tuple nil) nil)) → Rel c w e (at (xform v Contravariant)) (node inputs ts) (node inputs us)
    turned (next_part q _) = q

one_input : {c : Items} {w : Interpretation} {e : Tree} (v : Variance) {a b : Tree} → sort_of a ≡ region_sort → sort_of b ≡ region_sort → Rel c w e (parts inputs 0 v) (cons (ref_to a u8) nil) (cons (ref_to b u8) nil) → RegionRule w v a b
one_input Covariant p q (next_part r _) = refs_back Covariant p q r
one_input Contravariant p q (next_part r _) = refs_back Contravariant p q r
one_input Invariant p q (next_part r _) = refs_back Invariant p q r
one_input Bivariant p q r = tt

covariant_bodies : {c : Items} {w : Interpretation} {e a b : Tree} → sort_of a ≡ region_sort → sort_of b ≡ region_sort → Rel c w e (at Covariant) (signature_of (cons (ref_to a u8) nil)) (signature_of (cons (ref_to b u8) nil)) → Outlives w b a
covariant_bodies p q r = one_input Contravariant p q (inputs_of Covariant Contravariant refl (λ p. cc) (λ p. cc) tt r)

invariant_bodies : {c : Items} {w : Interpretation} {e a b : Tree} → sort_of a ≡ region_sort → sort_of b ≡ region_sort → Rel c w e (at Invariant) (signature_of (cons (ref_to a u8) nil)) (signature_of (cons (ref_to b u8) nil)) → Outlives w a b × Outlives w b a
invariant_bodies p q r = one_input Invariant p q (inputs_of Invariant Invariant refl (λ p. cc) (λ p. cc) tt r)

-- The binders of function pointers.
binders_of : {c : Items} {w : Interpretation} {e : Tree} {ks ls : List BoundKind} {ts us : Tree} → Rel c w e (at Covariant) (fn_of ks ts) (fn_of ls us) → Rel c w e (at Covariant) (bind ks (signature_of ts)) (bind ls (signature_of us))
binders_of {c = c} {w = w} {e = e} {ks = ks} {ls = ls} {ts = ts} {us = us} r = go (forms_inverted (λ p. cc) (λ h. h) (λ h. h) tt r).1
  where
    go : Rel c w e (parts fn_ptr 0 Covariant) (cons (bind ks (signature_of ts)) nil) (cons (bind ls (signature_of us)) nil) → Rel c w e (at Covariant) (bind ks (signature_of ts)) (bind ls (signature_of us))
    go (next_part q _) = q

invariant_binders_of : {c : Items} {w : Interpretation} {e : Tree} {ks ls : List BoundKind} {ts us : Tree} → Rel c w e (at Invariant) (fn_of ks ts) (fn_of ls us) → Rel c w e (at Invariant) (bind ks (signature_of ts)) (bind ls (signature_of us))
invariant_binders_of {c = c} {w = w} {e = e} {ks = ks} {ls = ls} {ts = ts} {us = us} r = go (forms_inverted (λ p. cc) (λ h. h) (λ h. h) tt r).1
  where
    go : Rel c w e (parts fn_ptr 0 Invariant) (cons (bind ks (signature_of ts)) nil) (cons (bind ls (signature_of us)) nil) → Rel c w e (at Invariant) (bind ks (signature_of ts)) (bind ls (signature_of us))
    go (next_part q _) = q

-- Two functions that bind no variables.
unopened : {c : Items} {w : Interpretation} {e : Tree} {i j : ℕ} → Rel c w e (second_opened [] [] Covariant) (signature_of (cons (ref_to (named i) u8) nil)) (signature_of (cons (ref_to (named j) u8) nil)) → Outlives w (named j) (named i)
unopened (open_second [] [] _ _ r) = covariant_bodies refl refl r
unopened (open_second [] (p ∷ ps) _ fresh r) = absurd fresh
unopened (open_second (t ∷ ts) ps fit _ r) = absurd fit

-- With equal binders one reads the regions off the bodies too.
plain_binders : {c : Items} {w : Interpretation} {e : Tree} {i j : ℕ} → Rel c w e (at Covariant) (bind [] (signature_of (cons (ref_to (named i) u8) nil))) (bind [] (signature_of (cons (ref_to (named j) u8) nil))) → Outlives w (named j) (named i)
plain_binders (same p) = itself cc
plain_binders (anything e) = absurd cc
plain_binders (error_left h _) = absurd h
plain_binders (error_right h _) = absurd h
plain_binders (regions e _ _) = absurd cc
plain_binders (alias_types e _ r) = absurd cc
plain_binders (equal_consts e _ _) = absurd cc
plain_binders (covariant_binders _ r) = unopened r
plain_binders (contravariant_binders p r) = absurd cc
plain_binders (invariant_binders p r _) = absurd cc

pub inputs_turn_round : InputsTurnRound
inputs_turn_round c w e i j = (λ r. plain_binders (binders_of r), λ h. forms tt refl (next_part (covariant_binders refl (open_second [] [] tt tt (forms tt refl (next_part (forms tt refl (next_part (forms tt refl (next_part (regions refl refl h) (next_part (same refl) no_parts))) no_parts)) (next_part (same refl) no_parts))))) no_parts))

one_argument : {c : Items} {w : Interpretation} {e : Tree} {d : ℕ} → Rel c w e (parts (adt d) 0 Invariant) (cons u8 nil) (cons bool nil) → Rel c w e (at Invariant) u8 bool
one_argument (next_part r _) = r

u8_is_not_bool : plain_atom (uint_type U8) ≡ plain_atom bool_type → ⊥
u8_is_not_bool p = cc

pub bivariant_arguments : BivariantArguments
bivariant_arguments c w e d p = (
  forms tt refl (next_part (anything p) no_parts),
  λ r. u8_is_not_bool (atoms_inverted (λ p. cc) (λ h. h) (λ h. h) (λ h. cc) (one_argument (forms_inverted (λ p. cc) (λ h. h) (λ h. h) tt r).1)),
)

pub unlike_heads_are_unrelated : UnlikeHeadsAreUnrelated
unlike_heads_are_unrelated c w e v h k xs ys n rh rk u r = u (heads_inverted n rh rk r)

pub unlike_atoms_are_unrelated : UnlikeAtomsAreUnrelated
unlike_atoms_are_unrelated c w e v x y n i j q u r = u (atoms_inverted n i j q r)

pub atoms_are_no_forms : AtomsAreNoForms
atoms_are_no_forms c w e v x h ts n i r = (no_form_left n i r, no_form_right n i r)

pub forms_by_parts : FormsByParts
forms_by_parts c w e v h k xs ys n i rh rk l = (forms_inverted n rh rk l, λ r. forms i r.0 r.1)

no_relation : (h : Head) → IsPredicateSort (head_sort h) → ((p : PredicatePolarity) → h ≢ trait_clause p) → IsRelatedHead h → ⊥
no_relation (trait_clause p) s n i = n p refl
no_relation (host_effect x) s n i = i
no_relation (subtype x) s n i = i
no_relation region_outlives s n i = i
no_relation type_outlives s n i = i
no_relation projection s n i = i
no_relation const_has_type s n i = i
no_relation well_formed s n i = i
no_relation const_evaluatable s n i = i
no_relation coerce s n i = i
no_relation normalizes_to s n i = i
no_relation (alias_relate d) s n i = i
no_relation environment s n i = i
no_relation h s n i = s

pub predicates_with_themselves_alone : PredicatesWithThemselvesAlone
predicates_with_themselves_alone c w e v h k xs ys n s t r = others_inverted n (no_relation h s t) r

pub any_is_static : AnyIsStatic
any_is_static c w e = forms tt refl (next_part (covariant_binders refl (open_second (static ∷ []) [] ((tt, tt, tt), tt) tt (same refl))) no_parts)

-- `fn(&'r u8)` against `for<'a> fn(&'a u8)`, opened.
opened : {c : Items} {w : Interpretation} {e r : Tree} → sort_of r ≡ region_sort → inst [] 0 r ≡ r → Rel c w e (second_opened [] (a_region ∷ []) Covariant) (signature_of (cons (ref_to r u8) nil)) (signature_of (cons (ref_to (bound_region 0) u8) nil)) →
    (u : ℕ) × (n : ℕ) × Avoids (region_placeholder u n) r × Outlives w (region_placeholder u n) r
opened {w = w} {r = a} s i (open_second [] (p ∷ []) fit fresh r) = (fresh.0.0, fresh.0.1, subst (λ z. Avoids z a) fresh.0.2 fresh.1.0.0.0, subst₂ (Outlives w) fresh.0.2 i (covariant_bodies (ap sort_of i ∙ s) (ap sort_of fresh.0.2) r))
opened s i (open_second [] [] fit fresh r) = absurd fresh
opened s i (open_second [] (p ∷ q ∷ ps) fit fresh r) = absurd fresh.4
opened s i (open_second (t ∷ ts) ps fit fresh r) = absurd fit

pub static_is_not_any : StaticIsNotAny
static_is_not_any c w e r = let o = opened refl refl (covariant_opened (λ p. cc) (binders_of r)) in (o.0, o.1, o.3)

pub placeholder_is_not_any : PlaceholderIsNotAny
placeholder_is_not_any c w e u n r = let o = opened refl refl (covariant_opened (λ p. cc) (binders_of r)) in (o.0, o.1, (λ q. o.2 (sym q)), o.3)

-- A term where a region is asked for is one.
pub term_region : (t : Tree) → IsTerm region_sort t → sort_of t ≡ region_sort
term_region (leaf l) h = region_only (leaf_sort l) h
term_region (node h ts) i = region_only (head_sort h) i.0
term_region t h = absurd h

two_inputs : {c : Items} {w : Interpretation} {e a b x y : Tree} → sort_of a ≡ region_sort → sort_of b ≡ region_sort → sort_of x ≡ region_sort → sort_of y ≡ region_sort →
    Rel c w e (parts inputs 0 Contravariant) (cons (ref_to a u8) (cons (ref_to b u8) nil)) (cons (ref_to x u8) (cons (ref_to y u8) nil)) → Outlives w x a × Outlives w y b
two_inputs p q s t (next_part r (next_part z _)) = (refs_back Contravariant p s r, refs_back Contravariant q t z)

-- One region for both variables of the other binder.
two_opened : {c : Items} {w : Interpretation} {e : Tree} → ((a b : Tree) → Outlives w a b → a ≡ b) → Rel c w e (second_opened (a_region ∷ []) (a_region ∷ a_region ∷ []) Covariant)
    (signature_of (cons (ref_to (bound_region 0) u8) (cons (ref_to (bound_region 0) u8) nil))) (signature_of (cons (ref_to (bound_region 0) u8) (cons (ref_to (bound_region 1) u8) nil))) → ⊥
two_opened {w = w} alone (open_second (t ∷ []) (p ∷ q ∷ []) fit fresh r) = fresh.3.0 (alone q t both.1 ∙ sym (alone p t both.0))
  where
    region : sort_of t ≡ region_sort
    region = term_region t fit.0.0

    both : Outlives w p t × Outlives w q t
    both = two_inputs region region (ap sort_of fresh.0.2) (ap sort_of fresh.4.0.2) (inputs_of Covariant Contravariant refl (λ p. cc) (λ p. cc) tt r)
two_opened alone (open_second [] ps fit fresh r) = fit
two_opened alone (open_second (t ∷ u ∷ ts) ps fit fresh r) = fit.1
two_opened alone (open_second (t ∷ []) [] fit fresh r) = fresh
two_opened alone (open_second (t ∷ []) (p ∷ []) fit fresh r) = fresh.4
two_opened alone (open_second (t ∷ []) (p ∷ q ∷ o ∷ ps) fit fresh r) = fresh.4.4

pub one_region_is_not_two : OneRegionIsNotTwo
one_region_is_not_two c w e alone r = two_opened alone (covariant_opened (λ p. cc) (binders_of r))

-- `for<'a> fn(&'a u8)` against `fn(&'static u8)`, the first opened.
first_is_opened : {c : Items} {w : Interpretation} {e : Tree} → Rel c w e (first_opened (a_region ∷ []) [] Invariant) (signature_of (cons (ref_to (bound_region 0) u8) nil)) (signature_of (cons (ref_to static u8) nil)) → (u : ℕ) × (n : ℕ) × Outlives w (region_placeholder u n) static
first_is_opened {w = w} (open_first (p ∷ []) [] fresh fit r) = (fresh.0.0, fresh.0.1, subst (λ z. Outlives w z static) fresh.0.2 (invariant_bodies (ap sort_of fresh.0.2) refl r).0)
first_is_opened (open_first [] ts fresh fit r) = absurd fresh
first_is_opened (open_first (p ∷ q ∷ ps) ts fresh fit r) = absurd fresh.4
first_is_opened (open_first ps (t ∷ ts) fresh fit r) = absurd fit

pub any_is_not_invariantly_static : AnyIsNotInvariantlyStatic
any_is_not_invariantly_static c w e r = first_is_opened (invariant_opened (λ p. cc) (invariant_binders_of r)).1
