-- What is used in a tree, by its parts.
use Rattle.std.proofs.Common.{◌≡◌, ◌<◌, ℕ, suc, refl, sym, ap, ap₂, ◌∙◌, subst, Bool, true, false, IsTrue, arith}
use Rattle.std.proofs.Common.{cond, not, nat_eq, nat_lt}
use Rattle.std.proofs.lemmas.Bool.{eqb-true, false≢true, le-ltb, or_parts}
use Rattle.std.proofs.Common.{List, [], ◌∷◌, ◌++◌, append_assoc, append-nil}
use Rattle.relation_terms.specs.Heads.{Head, Kind, no_sort, type_kind, region_kind, const_kind, bound_kind}
use Rattle.relation_terms.specs.Heads.{bound, variable, placeholder, atom, unknown}
use Rattle.relation_terms.specs.Trees.{Tree, leaf, node, bind, nil, cons, IsList, known, count, nth}
use Rattle.relation_terms.specs.Meaning.{Meaning}
use Rattle.relation_terms.specs.Predicates.{predicate_kind_tree}
use Rattle.relation_terms.specs.Fields.{predicate_view, fields_tree}
use Rattle.relation_terms.specs.Orders.{Order, in_turn, first_last, behind, in_order, order_of}
use Rattle.relation_terms.specs.Parts.{parts_of, tree_sort, part_tree, part_sort}
use Rattle.relation_terms.specs.declared.terms.part_kind.Part.{Part}
use Rattle.relation_terms.specs.declared.terms.part_kind.Part.TheVariants.{Region, Ty, Const}
use Rattle.relation_terms.specs.declared.terms.keys.RegionKey.{RegionKey}
use Rattle.relation_terms.specs.declared.terms.keys.TyKey.{TyKey}
use Rattle.relation_terms.specs.declared.terms.keys.ConstKey.{ConstKey}
use Rattle.relation_terms.specs.declared.terms.parts.predicates.Fields.{Fields}
use Rattle.relation_terms.specs.declared.predicate.kinds.ClauseKind.TheVariants.{Trait, RegionOutlives, TypeOutlives}
use Rattle.relation_terms.specs.declared.predicate.kinds.ClauseKind.TheVariants.{Projection, ConstArgHasType}
use Rattle.relation_terms.specs.declared.predicate.kinds.ClauseKind.TheVariants.{WellFormed, ConstEvaluatable}
use Rattle.relation_terms.specs.declared.predicate.kinds.ClauseKind.TheVariants.{HostEffect, UnstableFeature}
use Rattle.relation_terms.specs.declared.predicate.kinds.PredicateKind.{PredicateKind}
use Rattle.relation_terms.specs.declared.predicate.kinds.PredicateKind.TheVariants.{Clause, Subtype, Coerce}
use Rattle.relation_terms.specs.declared.predicate.kinds.PredicateKind.TheVariants.{NormalizesTo, AliasRelate, Ambiguous}
use Rattle.relation_terms.proofs.Fields.{predicate_viewed}
use Rattle.relation_terms.proofs.Parts.{sort_known, known_parts}
use Rattle.relation_terms.specs.Interning.{Sorted}
use Rattle.relation_folds.specs.Visits.{is_visited, has_leaf, is_escaping}
use Rattle.anonymize.specs.Anonymous.{var_of, uses, ordered, here, with_vars}
use Rattle.anonymize.specs.declared.used.UsedVar.{UsedVar}
use Rattle.anonymize.proofs.UsedVars.{with_both}
use Rattle.relation_folds.proofs.Visiting.{rest, rest_next, rest_end, visited_as}
use Rattle.relation_folds.proofs.Depths.{inside}

-- What is used in a list in an order.
uses_behind : (d : ℕ) (t us : Tree) → IsList us → uses d (behind t us) ≡ uses d us ++ uses d t
uses_behind d t (cons u us) l =
    ap (λ z. uses d u ++ z) (uses_behind d t us l) ∙ sym (append_assoc (uses d u) (uses d us) (uses d t))
uses_behind d t nil l = append-nil (uses d t)
uses_behind d t us l = absurd l

uses_ordered : (d : ℕ) (o : Order) (t ts : Tree) → IsList ts →
    uses d (in_order o (cons t ts)) ≡ ordered o (uses d t) (uses d ts)
uses_ordered d in_turn t ts l = refl
uses_ordered d first_last t ts l = uses_behind d t ts l

uses_none : (d : ℕ) (o : Order) → uses d (in_order o nil) ≡ []
uses_none d in_turn = refl
uses_none d first_last = refl

-- A form uses what its parts do, in the form's order.
pub uses_parts : (d : ℕ) (h : Head) (ts : Tree) → IsList ts →
    uses d (node h ts) ≡ uses d (in_order (order_of (node h ts)) ts)
uses_parts d h (cons t ts) l = sym (uses_ordered d (order_of (node h (cons t ts))) t ts l)
uses_parts d h nil l = sym (uses_none d (order_of (node h nil)))
uses_parts d h ts l = absurd l

-- What is a variable uses itself alone, and all else what its parts use.
pub uses_itself : (d : ℕ) (t : Tree) (u : UsedVar) → here d t ≡ u ∷ [] → uses d t ≡ u ∷ []
uses_itself d (leaf l) u e = e
uses_itself d t u e = absurd (cc)

pub uses_inside : (d : ℕ) (t : Tree) → (tree_sort t ≡ no_sort → ⊥) → IsList (parts_of t) → here d t ≡ [] →
    uses d t ≡ uses (inside t d) (in_order (order_of t) (parts_of t))
uses_inside d (leaf l) n p e = e
uses_inside d (node h ts) n p e = uses_parts d h ts p
uses_inside d (bind ks t) n p e = sym (append-nil (uses (suc d) t))
uses_inside d nil n p e = refl
uses_inside d (cons t ts) n p e = absurd (n refl)

-- Where no variable escapes, none of a binder outside is used.
none_at : (d : ℕ) (k : Kind) (e i : ℕ) (b : Bool) → nat_eq e d ≡ b → not (nat_lt e d) ≡ false →
    cond b (var_of k i ∷ []) [] ≡ []
none_at d k e i true q c =
    let at : e ≡ d = eqb-true e d q in
    absurd (false≢true (sym c ∙ ap not (le-ltb e d (omega (arith, at)))))
none_at d k e i false q c = refl

none_ordered : (o : Order) → ordered o [] [] ≡ []
none_ordered in_turn = refl
none_ordered first_last = refl

pub none_used : (d : ℕ) (t : Tree) → has_leaf is_escaping d t ≡ false → uses d t ≡ []
none_used d (leaf (bound (bound_kind k n) e i)) c = none_at d k e i (nat_eq e d) refl c
none_used d (leaf (variable k n)) c = refl
none_used d (leaf (placeholder k u n)) c = refl
none_used d (leaf (atom x)) c = refl
none_used d (leaf unknown) c = refl
none_used d (node h (cons t ts)) c =
    let z = or_parts (has_leaf is_escaping d t) (has_leaf is_escaping d ts) c in
    ap₂ (ordered (order_of (node h (cons t ts)))) (none_used d t z.0) (none_used d ts z.1)
    ∙ none_ordered (order_of (node h (cons t ts)))
none_used d (node h (leaf l)) c = none_used d (leaf l) c
none_used d (node h (node g ts)) c = none_used d (node g ts) c
none_used d (node h (bind ks t)) c = none_used d (bind ks t) c
none_used d (node h nil) c = refl
none_used d (bind ks t) c = none_used (suc d) t c
none_used d nil c = refl
none_used d (cons t ts) c =
    let z = or_parts (has_leaf is_escaping d t) (has_leaf is_escaping d ts) c in
    ap₂ (λ us vs. us ++ vs) (none_used d t z.0) (none_used d ts z.1)

-- What is no type, region or constant is no variable.
none_unvisited : (d : ℕ) (t : Tree) → is_visited t ≡ false → here d t ≡ []
none_unvisited d (leaf (bound (bound_kind type_kind n) e i)) v = absurd (cc)
none_unvisited d (leaf (bound (bound_kind region_kind n) e i)) v = absurd (cc)
none_unvisited d (leaf (bound (bound_kind const_kind n) e i)) v = absurd (cc)
none_unvisited d (leaf (variable k n)) v = refl
none_unvisited d (leaf (placeholder k u n)) v = refl
none_unvisited d (leaf (atom x)) v = refl
none_unvisited d (leaf unknown) v = refl
none_unvisited d (node h ts) v = refl
none_unvisited d (bind ks t) v = refl
none_unvisited d nil v = refl
none_unvisited d (cons t ts) v = refl

module _ {Key Id Name : Type 0} (m : Meaning Key Id Name) where
  pub none_here : Sorted m → (d : ℕ) (p : Part Key Id) → IsTrue (known (part_tree m p)) →
      ((r : RegionKey Key) → p ≡ Region r → ⊥) → ((t : TyKey Key) → p ≡ Ty t → ⊥) →
      ((c : ConstKey Key) → p ≡ Const c → ⊥) → here d (part_tree m p) ≡ []
  none_here s d (Region r) k a b o = absurd (a r refl)
  none_here s d (Ty t) k a b o = absurd (b t refl)
  none_here s d (Const c) k a b o = absurd (o c refl)
  none_here s d p k a b o =
      none_unvisited d (part_tree m p) (visited_as (part_tree m p) (part_sort p) (sort_known m s p k))

  -- A predicate uses what its parts do.
  uses_form : (p : PredicateKind Key Id Name) →
      uses 0 (predicate_kind_tree m p) ≡ uses 0 (parts_of (predicate_kind_tree m p))
  uses_form (Clause (Trait q)) = refl
  uses_form (Clause (RegionOutlives q)) = refl
  uses_form (Clause (TypeOutlives q)) = refl
  uses_form (Clause (Projection q)) = refl
  uses_form (Clause (ConstArgHasType c t)) = refl
  uses_form (Clause (WellFormed a)) = refl
  uses_form (Clause (ConstEvaluatable c)) = refl
  uses_form (Clause (HostEffect q)) = refl
  uses_form (Clause (UnstableFeature s)) = refl
  uses_form (Subtype q) = refl
  uses_form (Coerce q) = refl
  uses_form (NormalizesTo q) = refl
  uses_form (AliasRelate a b d) = refl
  uses_form Ambiguous = refl

  module _ (p : PredicateKind Key Id Name) (fs : Fields Key Id) (is : fs ≡ predicate_view p) where
    pub fields_known : IsTrue (known (predicate_kind_tree m p)) → IsTrue (known (fields_tree m fs))
    fields_known k =
        subst (λ z. IsTrue (known z)) (sym (ap (fields_tree m) is ∙ predicate_viewed m p))
        (known_parts (predicate_kind_tree m p) k)

    pub uses_fields : uses 0 (fields_tree m fs) ≡ uses 0 (predicate_kind_tree m p)
    uses_fields = ap (uses 0) (ap (fields_tree m) is ∙ predicate_viewed m p) ∙ sym (uses_form p)

-- One member more of a list; the whole list.
module _ (d : ℕ) (first now : List UsedVar) (i : ℕ) (ts : Tree)
    (so_far : with_vars now (uses d (rest i ts)) ≡ with_vars first (uses d ts)) where
  pub used_next : (later : List UsedVar) (j : ℕ) (t : Tree) → i < count ts → j ≡ suc i → t ≡ nth i ts →
      later ≡ with_vars now (uses d t) → with_vars later (uses d (rest j ts)) ≡ with_vars first (uses d ts)
  used_next later j t h e is u =
      ap (λ z. with_vars z (uses d (rest j ts))) (u ∙ ap (λ x. with_vars now (uses d x)) is)
      ∙ ap (λ k. with_vars (with_vars now (uses d (nth i ts))) (uses d (rest k ts))) e
      ∙ with_both now (uses d (nth i ts)) (uses d (rest (suc i) ts))
      ∙ ap (λ z. with_vars now (uses d z)) (sym (rest_next i ts h)) ∙ so_far

  pub used_all : IsList ts → i ≡ count ts → now ≡ with_vars first (uses d ts)
  used_all l e = sym (ap (λ z. with_vars now (uses d z)) (rest_end i ts l e)) ∙ so_far

-- Two parts, one after the other.
pub used_two : (us xs ys : List UsedVar) → with_vars (with_vars us xs) ys ≡ with_vars us (xs ++ (ys ++ []))
used_two us xs ys = with_both us xs ys ∙ ap (λ z. with_vars us (xs ++ z)) (sym (append-nil ys))
