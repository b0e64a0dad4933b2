-- Trait references, predicates of traits and alias terms that are related by their arguments, or refused.
use Rattle.std.proofs.Common.{◌≡◌, ◌≢◌, refl, sym, ap, ap₂, ◌∙◌, subst, arith, IsTrue, true, Ok, Err}
use Rattle.std.proofs.lemmas.Bool.{and_from}
use Rattle.term_enums.specs.declared.PredicatePolarity.{PredicatePolarity}
use Rattle.term_enums.specs.declared.Variance.{Variance}
use Rattle.term_enums.specs.declared.Variance.TheVariants.{Bivariant}
use Rattle.relation_terms.specs.Heads.{AliasTermKind, type_alias, opaque_alias, alias_term}
use Rattle.relation_terms.specs.Heads.{Head, trait_ref, trait_clause, value_type}
use Rattle.relation_terms.specs.Trees.{Tree, node, nil, cons, Assign, apply, known, count, IsList}
use Rattle.relation_terms.specs.Erasure.{erase}
use Rattle.relation_terms.specs.Meaning.{Meaning, alias_kind, alias_id}
use Rattle.relation_terms.specs.Predicates.{alias_term_kind, alias_term_id, alias_term_tree}
use Rattle.relation_terms.specs.Aliases.{as_term_kind}
use Rattle.relation_terms.specs.declared.terms.alias.AliasTy.{AliasTy}
use Rattle.relation_terms.specs.declared.terms.alias.AliasTyKind.{AliasTyKind}
use Rattle.relation_terms.specs.declared.terms.alias.AliasTyKind.TheVariants.{Projection, Inherent, Opaque, Free}
use Rattle.relation_terms.specs.declared.predicate.alias_term.AliasTerm.{AliasTerm}
use Rattle.relation_folds.specs.Aliases.{alias_ty_tree}
use Rattle.relation_folds.specs.declared.error.TypeError.{TypeError}
use Rattle.relation_folds.specs.declared.error.TypeError.TheVariants.{PolarityMismatch}
use Rattle.relation_folds.specs.declared.error.RelateFault.{RelateFault}
use Rattle.relation_folds.specs.declared.error.RelateFault.TheVariants.{Unrelated}
use Rattle.relation_folds.specs.Faults.{KnowsError}
use Rattle.relation_semantics.specs.Errors.{as_pair, by_forms, of_part_forms, of_trait_refs, ItemError, IsItemHead}
use Rattle.relation_semantics.specs.Errors.{unlike_alias_terms, unlike_trait_refs, unlike_lists}
use Rattle.relation_semantics.specs.Errors.{unlike_polarities, item_error}
use Rattle.relation_semantics.specs.FirstOrder.{Unifies}
use Rattle.relation_semantics.specs.Lawful.{State, Manners, TakesParts, MayAnswer, Asked, Related, items_in}
use Rattle.relation_semantics.specs.Relation.{at, plain, plain_kind, part_at, Rel, forms, next_part, no_parts, IsAlias}
use Rattle.relation_semantics.specs.Stores.{IsTermIn, InContext}
use Rattle.relation_semantics.proofs.Answering.{covariantly}
use Rattle.relation_semantics.proofs.Asking.{neither_alias}
use Rattle.relation_semantics.proofs.Deferring.{normal_not_left}
use Rattle.relation_semantics.proofs.Parts.{in_parts}
use Rattle.relation_semantics.proofs.Standing.{term_context}
use Rattle.relation_recursion.specs.Comparing.{is_opaque_kind}
use Rattle.relation_recursion.proofs.Arguments.{form_related, form_refused, form_unlike}
use Rattle.relation_steps.proofs.Fronts.{Fronted, AreParts, fronted_none, fronted_next}
use Rattle.relation_recursion.proofs.Looping.{next_asked}
use Rattle.relation_recursion.proofs.StructuralConsts.{refused_here}
use Rattle.relation_recursion.proofs.Unifying.{one_head, unified_counts}

-- Whether it is that of an opaque type is all that is looked at of an alias term's kind.
pub plain_kinds : (k l : AliasTermKind) → is_opaque_kind k ≡ is_opaque_kind l → plain_kind k ≡ plain_kind l
plain_kinds (type_alias opaque_alias) (type_alias opaque_alias) e = refl
plain_kinds (type_alias opaque_alias) l e = absurd (cc)
plain_kinds k (type_alias opaque_alias) e = absurd (cc)
plain_kinds k l e = refl

pub opaque_kinds : (k l : AliasTermKind) → plain_kind k ≡ plain_kind l → is_opaque_kind k ≡ is_opaque_kind l
opaque_kinds (type_alias opaque_alias) (type_alias opaque_alias) e = refl
opaque_kinds (type_alias opaque_alias) l e = absurd (cc)
opaque_kinds k (type_alias opaque_alias) e = absurd (cc)
opaque_kinds k l e = refl

-- An alias type is that alias term of its kind.
as_terms : {Id : Type 0} (k : AliasTyKind Id) → (alias_term_kind (as_term_kind k) ≡ type_alias (alias_kind k)) ×
    (alias_term_id (as_term_kind k) ≡ alias_id k)
as_terms (Projection d) = (refl, refl)
as_terms (Inherent d) = (refl, refl)
as_terms (Opaque d) = (refl, refl)
as_terms (Free d) = (refl, refl)

pub type_as_term : {Key Id Name : Type 0} (m : Meaning Key Id Name) (a : AliasTy Key Id) (t : AliasTerm Key Id) →
    t.kind ≡ as_term_kind a.kind → t.args ≡ a.args → alias_term_tree m t ≡ alias_ty_tree m a
type_as_term m a t k g =
    ap₂ (λ x y. node (alias_term (alias_term_kind x) (m.id (alias_term_id x))) (m.args y)) k g
    ∙ ap₂ (λ x y. node (alias_term x (m.id y)) (m.args a.args)) (as_terms a.kind).0 (as_terms a.kind).1

-- What two forms that are not alike say of each other.
no_value_type : (h : Head) → IsItemHead h → h ≢ value_type
no_value_type (alias_term k d) i e = absurd (cc)
no_value_type (trait_ref d) i e = absurd (cc)
no_value_type h i e = i

module _ {Key Id Name : Type 0} (m : Meaning Key Id Name) where
  -- They are never one, even up to erasure.
  pub items_not_unified : (s : Assign) (h k : Head) (ts us : Tree) (e : TypeError Key Id Name) → IsList ts → IsList us →
      ItemError m (node h ts) (node k us) e → Unifies s (node h ts) (node k us) → ⊥
  items_not_unified s h k ts us e l j (unlike_alias_terms {k = a} {l = b} c d p q differ) z =
      let o = one_head s h k ts us z in
      let i : alias_term a (m.id c) ≡ alias_term b (m.id d) = (let x = p in let y = q in cc) in
      differ (ap plain i)
  items_not_unified s h k ts us e l j (unlike_trait_refs c d p q differ) z =
      differ (let o = one_head s h k ts us z in
      let i : trait_ref (m.id c.0) ≡ trait_ref (m.id d.0) = (let x = p in let y = q in cc) in cc)
  items_not_unified s h k ts us e l j (unlike_lists {h = a} {k = b} {ts = xs} {us = ys} is alike p q differ) z =
      let o : h ≡ k = one_head s h k ts us z in
      let ha : h ≡ a = cc in
      let left : ts ≡ xs = cc in
      let right : us ≡ ys = cc in
      differ (sym (ap count left) ∙ unified_counts s h ts us (node h ts) (node k us)
      (λ v. no_value_type a is (sym ha ∙ v)) refl (ap (λ z. node z us) (sym o)) l j z ∙ ap count right)
  items_not_unified s h k ts us e l j (unlike_polarities {p = a} {q = b} p q differ) z =
      differ (let o = one_head s h k ts us z in
      let i : trait_clause a ≡ trait_clause b = (let x = p in let y = q in cc) in cc)

  item_error_known : (a b : Tree) (e : TypeError Key Id Name) → ItemError m a b e → KnowsError m e
  item_error_known a b e (unlike_alias_terms c d p q n) = tt
  item_error_known a b e (unlike_trait_refs c d p q n) = tt
  item_error_known a b e (unlike_lists is alike p q n) = tt
  item_error_known a b e (unlike_polarities p q n) = tt

-- Two that are not alike are refused at once.
pub items_differ : {Key Id Name X : Type 0} (M : Manners) (r : State Key Id Name) (v : Variance) (tree : X → Tree)
    (h k : Head) (ts us : Tree) (e : TypeError Key Id Name) → v ≢ Bivariant → ((xs : Tree) → IsAlias (node h xs) → ⊥) →
    ((xs : Tree) → IsAlias (node k xs) → ⊥) → IsList ts → IsList us → ItemError r.meaning (node h ts) (node k us) e →
    Related M r r v (node h ts) (node k us) tree (Err (Unrelated e))
items_differ M r v tree h k ts us e d n o l j is =
    let apart : (s : Assign) → Unifies s (node h ts) (node k us) → ⊥ =
    λ s z. items_not_unified r.meaning s h k ts us e l j is z in
    refused_here M r v tree {w = as_pair} (node h ts) (node k us) e (λ w s sat z. apart s (ap erase z))
    (by_forms (normal_not_left r.kept.settings (node h ts) (node k us) (n ts) (o us)) (of_part_forms d (item_error is)))
    (item_error_known r.meaning (node h ts) (node k us) e is) (λ pair s sol z. apart s z)

-- What is asked of two forms is asked of the lists that they are over, as one form.
pub asked_over : {Key Id Name : Type 0} (M : Manners) (r : State Key Id Name) (v : Variance) (h k : Head)
    (ts us : Tree) → Asked M r v (node h ts) (node k us) → Asked M r v (node h ts) (node h us)
unfolding IsTermIn InContext
asked_over M r v h k ts us asked = record {
  left_known = asked.left_known;
  right_known = asked.right_known;
  left_in = asked.left_in;
  right_in = asked.right_in;
  left_taken = asked.left_taken;
  right_taken = asked.right_taken;
}

-- The same with another answer, that may be given.
answered_with : {Key Id Name X Y : Type 0} {r q : State Key Id Name} (M : Manners) (v : Variance)
    (a b : Tree) (tree : X → Tree) (t : X) → Related M r q v a b tree (Ok t) → (answer : Y → Tree) (z : Y) →
    MayAnswer M q v a (answer z) → IsTrue (known (answer z)) → Related M r q v a b answer (Ok z)
answered_with M v a b tree t f answer z may sure = record {
  passes = f.passes;
  verdict = record {
    outcome = (f.verdict).outcome;
    answer = may;
    known = sure;
    agrees = (f.verdict).agrees;
  };
  exact = f.exact;
  full = f.full;
  built = f.built;
  records = f.records;
}

-- A predicate of a trait, by its trait reference.
abbrev clause : PredicatePolarity → Tree → Tree
clause p t = node (trait_clause p) (cons t nil)

module _ {Key Id Name : Type 0} (M : Manners) (v : Variance) (p q : PredicatePolarity) (t u : Tree) where
  module _ (r : State Key Id Name) where
    begun : Fronted M r r (trait_clause p) v 0 (cons t nil) (cons u nil)
    begun = fronted_none M r (trait_clause p) v (cons t nil) (cons u nil)

    pub are_parts : Asked M r v (clause p t) (clause q u) → AreParts r.store (cons t nil) (cons u nil)
    are_parts k = record {
      left_list = tt;
      right_list = tt;
      left_in = term_context r.store (cons t nil) (in_parts r.store (clause p t) k.left_in);
      right_in = term_context r.store (cons u nil) (in_parts r.store (clause q u) k.right_in);
    }

    pub part_asked : TakesParts M → v ≡ r.ambient → IsTrue (known t) → IsTrue (known u) → Asked M r v (clause p t) (clause q u) →
        Asked M r v t u
    part_asked takes e kt ku k =
        let here : v ≡ part_at (items_in r) (trait_clause p) 0 r.ambient =
        e ∙ sym (covariantly r.ambient) in
        next_asked M takes r r (clause p t) (clause q u) 0 t u kt ku (subst (λ z. Asked M r z (clause p t) (clause q u)) e k)
        (subst (λ z. Fronted M r r (trait_clause p) z 0 (cons t nil) (cons u nil)) e begun) (omega arith) (omega arith)
        refl refl v here here

    module _ (are : AreParts r.store (cons t nil) (cons u nil)) {A B : Type 0} {s : State Key Id Name} (tree : A → Tree)
        (answer : B → Tree) where
      -- Two trait references were refused, and so are the predicates, whatever their polarities.
      pub clause_refused : (e : RelateFault Key Id Name) → Related M r s v t u tree (Err e) →
          Related M r s v (clause p t) (clause q u) answer (Err e)
      clause_refused e g = form_refused M v (trait_clause p) (trait_clause q) (cons t nil) (cons u nil) 0
          begun are tt t u (omega arith) (omega arith) refl refl
          (λ z f o. by_forms (normal_not_left z.kept.settings (clause p t) (clause q u) (λ x. x) (λ x. x)) (of_trait_refs refl refl o))
          tree answer e (subst (λ w. Related M r s w t u tree (Err e)) (sym (covariantly v)) g)

      module _ (x : A) (g : Related M r s v t u tree (Ok x)) where
        gone : Fronted M r s (trait_clause p) v 1 (cons t nil) (cons u nil)
        gone = fronted_next (trait_clause p) v 0 (cons t nil) (cons u nil) t u begun (omega arith) (omega arith) refl
            refl tree x are (subst (λ w. Related M r s w t u tree (Ok x)) (sym (covariantly v)) g)

        -- They were related, but the polarities differ.
        pub clause_unlike : v ≢ Bivariant → p ≢ q → Related M r s v (clause p t) (clause q u) answer
            (Err (Unrelated (PolarityMismatch (record { expected = p; found = q }))))
        clause_unlike d differ = form_unlike M v (trait_clause p) (trait_clause q) (cons t nil)
            (cons u nil) 1 gone are tt answer (PolarityMismatch (record { expected = p; found = q }))
            (λ e. differ (cc))
            (by_forms (normal_not_left s.kept.settings (clause p t) (clause q u) (λ x. x) (λ x. x))
            (of_part_forms d (item_error (unlike_polarities refl refl differ)))) tt

        -- They were related, and the polarities are one.
        pub clause_related : (z : B) → p ≡ q → answer z ≡ node (trait_clause p) (cons (tree x) nil) →
            IsTrue (known (clause p t)) → Related M r s v (clause p t) (clause q u) answer (Ok z)
        clause_related z same is sure =
            let done : Related M r s v (clause p t) (clause q u) (λ (y : Tree). y) (Ok (clause p t)) =
            form_related M v (trait_clause p) (trait_clause q) (cons t nil) (cons u nil) 1 gone are tt
            (λ (y : Tree). y) (clause p t) (ap trait_clause same) (λ f. ap trait_clause same) tt
            (neither_alias (clause p t) (clause q u) (λ x. x) (λ x. x)) refl refl refl sure in
            answered_with M v (clause p t) (clause q u) (λ (y : Tree). y) (clause p t) done answer z
            (subst (MayAnswer M s v (clause p t)) (sym is) (record {
              related = λ w a sat all. forms tt refl (next_part
                  (subst (λ y. Rel (items_in s) w s.kept.environment (at y) (apply a t) (apply a (tree x))) (sym (covariantly v))
                  (((g.verdict).answer).related w a sat all)) no_parts);
            }))
            (subst (λ y. IsTrue (known y)) (sym is) (and_from (known (tree x)) true (g.verdict).known refl))
