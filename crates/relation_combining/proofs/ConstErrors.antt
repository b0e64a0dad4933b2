-- The error of two constants at one variance is theirs at each.
use Rattle.std.proofs.Common.{◌≡◌, ◌≢◌, ℕ, refl, sym, ap, ◌∙◌, subst}
use Rattle.term_enums.specs.declared.Variance.{Variance}
use Rattle.term_enums.specs.declared.Variance.TheVariants.{Bivariant}
use Rattle.relation_terms.specs.Heads.{const_sort, Admits, head_sort, VarKind, const_var, Head, unevaluated, expression, value, variable}
use Rattle.relation_terms.specs.Trees.{Tree, leaf, IsTerm, nth}
use Rattle.relation_terms.specs.Meaning.{Meaning}
use Rattle.relation_folds.specs.declared.error.TypeError.{TypeError}
use Rattle.relation_semantics.specs.Relation.{Items, part_at}
use Rattle.relation_semantics.specs.Stores.{Store, entry_term, MayStandFor, IsSound}
use Rattle.relation_semantics.specs.Settings.{Settings}
use Rattle.relation_semantics.specs.Errors.{IsHandedOn, IsReadAs, itself, by_class, by_binding}
use Rattle.relation_semantics.specs.Errors.{ErrorOf, of_entries, of_bodies, of_binding, of_binding_back, of_kinds, by_forms}
use Rattle.relation_semantics.specs.Errors.{ErrorByForms, of_forms, of_const_forms, of_part_forms, of_parts, of_alias_parts, of_length}
use Rattle.relation_semantics.specs.Errors.{of_alias_term_parts, of_trait_refs}
use Rattle.relation_semantics.specs.Errors.{of_inputs, of_outputs, of_branches}
use Rattle.relation_combining.proofs.Constants.{still, fixed}
use Rattle.relation_terms.proofs.Members.{term_nth}

-- What a constant is read as is one.
is_const_var : (k : VarKind) (n : ℕ) → IsTerm const_sort (leaf (variable k n)) → k ≡ const_var
is_const_var const_var n h = refl
is_const_var k n h = absurd h

read_const : (st : Store) → IsSound st → (a t : Tree) → IsReadAs st a t → IsTerm const_sort a → IsTerm const_sort t
read_const st g a t (itself e) h = subst (IsTerm const_sort) e h
read_const st g a t (by_class k n m e c r) h = read_const st g (leaf (variable k m)) t r (subst (IsTerm const_sort) e h)
read_const st g a t (by_binding {u = x} k n e b r) h =
    read_const st g x t r (subst (λ j. MayStandFor j x) (is_const_var k n (subst (IsTerm const_sort) e h))
    (g.bindings k n x (ap (entry_term k) b)).stands)

-- The parts of a constant whose errors are handed on stand at one variance.
part_same : {Key Id Name : Type 0} (e : TypeError Key Id Name) (c : Items) (h : Head) (i : ℕ) (t u : Tree) (v v' : Variance) →
    Admits const_sort (head_sort h) → v ≢ Bivariant → v' ≢ Bivariant → IsHandedOn e h i t u →
    part_at c h i v ≡ part_at c h i v'
part_same e c (unevaluated d) i t u v v' k n m o = fixed v n ∙ sym (fixed v' m)
part_same e c (expression d) i t u v v' k n m o = fixed v n ∙ sym (fixed v' m)
part_same e c value i t u v v' k n m o = absurd o
part_same e c h i t u v v' k n m o = absurd k

module _ {Key Id Name : Type 0} (m : Meaning Key Id Name) (k : Settings) (c : Items) (st : Store) (g : IsSound st) where
  mutual
    pub const_error_alike : {v v' : Variance} {e : TypeError Key Id Name} {a b : Tree} → v ≢ Bivariant → v' ≢ Bivariant →
        IsTerm const_sort a → ErrorOf m k c st v e a b → ErrorOf m k c st v' e a b
    const_error_alike {a = a} n n' h (of_entries {t = t} r q o) =
        of_entries r q (const_error_alike n n' (read_const st g a t r h) o)
    const_error_alike n n' h (of_bodies xs ys p q o f r) = absurd (subst (IsTerm const_sort) p h)
    const_error_alike n n' h (of_binding d f) = of_binding n' f
    const_error_alike n n' h (of_binding_back d f) = of_binding_back n' f
    const_error_alike n n' h (of_kinds d o) = of_kinds n' o
    const_error_alike n n' h (by_forms left o) = by_forms left (const_forms_alike n n' h o)

    const_forms_alike : {v v' : Variance} {e : TypeError Key Id Name} {a b : Tree} → v ≢ Bivariant → v' ≢ Bivariant →
        IsTerm const_sort a → ErrorByForms m k c st v e a b → ErrorByForms m k c st v' e a b
    const_forms_alike n n' h (of_forms x y d p q o f) = of_forms x y n' p q o f
    const_forms_alike n n' h (of_const_forms x y d p q o f) = of_const_forms x y n' p q o f
    const_forms_alike n n' h (of_part_forms d o) = of_part_forms n' o
    const_forms_alike {v = v} {v' = v'} {e = e} n n' h (of_parts {h = l} {ts = ts} {us = us} i p q z b handed o) =
        of_parts i p q z b handed (subst (λ z. ErrorOf m k c st z e (nth i ts) (nth i us))
        (part_same e c l i (nth i ts) (nth i us) v v' (subst (IsTerm const_sort) p h).0 n n' handed) o)
    const_forms_alike n n' h (of_alias_parts i p q z b o) = absurd (subst (IsTerm const_sort) p h).0
    const_forms_alike n n' h (of_alias_term_parts i p q k z b o) = absurd (subst (IsTerm const_sort) p h).0
    const_forms_alike n n' h (of_trait_refs p q o) = absurd (subst (IsTerm const_sort) p h).0
    const_forms_alike n n' h (of_length x y i p q l b d f o) = absurd (subst (IsTerm const_sort) p h).0
    const_forms_alike n n' h (of_inputs i p q l b o f) = absurd (subst (IsTerm const_sort) p h).0
    const_forms_alike n n' h (of_outputs p q l o f) = absurd (subst (IsTerm const_sort) p h).0
    const_forms_alike {v = v} {v' = v'} n n' h (of_branches {ts = ts} x y i p q l b o) = of_branches x y i p q l b
        (const_error_alike (still v n) (still v' n')
        (term_nth const_sort ts i b (subst (IsTerm const_sort) p h).1.1.0.1) o)
