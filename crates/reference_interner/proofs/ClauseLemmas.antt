-- Clauses, which are predicates, and environments, which are lists of clauses, in a table.
use Rattle.std.proofs.Common.{ℕ, ◌≡◌, IsTrue, List, get_or, refl, ap, sym, ◌∙◌, subst, Option, Some, None}
use Rattle.relation_terms.specs.Heads.{BoundKind, clause_sort, environment}
use Rattle.relation_terms.specs.Trees.{Tree, node, known, IsBinder}
use Rattle.relation_terms.specs.Meaning.{Meaning, under}
use Rattle.relation_terms.specs.Predicates.{clause_kind_tree, predicate_kind_tree, clause_tree, predicate_tree}
use Rattle.relation_terms.specs.declared.terms.binder.Binder.{Binder}
use Rattle.relation_terms.specs.declared.predicate.kinds.ClauseKind.{ClauseKind}
use Rattle.relation_terms.specs.declared.predicate.kinds.ClauseKind.TheVariants.{Trait, RegionOutlives, TypeOutlives}
use Rattle.relation_terms.specs.declared.predicate.kinds.ClauseKind.TheVariants.{Projection, ConstArgHasType}
use Rattle.relation_terms.specs.declared.predicate.kinds.ClauseKind.TheVariants.{WellFormed, ConstEvaluatable}
use Rattle.relation_terms.specs.declared.predicate.kinds.ClauseKind.TheVariants.{HostEffect, UnstableFeature}
use Rattle.relation_terms.specs.declared.predicate.kinds.PredicateKind.{PredicateKind}
use Rattle.relation_terms.specs.declared.predicate.kinds.PredicateKind.TheVariants.{Clause, Subtype, Coerce}
use Rattle.relation_terms.specs.declared.predicate.kinds.PredicateKind.TheVariants.{NormalizesTo, AliasRelate, Ambiguous}
use Rattle.reference_interner.specs.declared.keys.NodeKey.{NodeKey}
use Rattle.reference_interner.specs.declared.keys.ItemId.{ItemId}
use Rattle.reference_interner.specs.declared.keys.SymbolId.{SymbolId}
use Rattle.reference_interner.specs.declared.node.Node.{Node}
use Rattle.reference_interner.specs.Nodes.{predicate_node, clauses_node, as_clause, tree_as, entry, no_entry, entries}
use Rattle.reference_interner.specs.Nodes.{table_meaning, StandsAt}
use Rattle.reference_interner.specs.Places.{key_reads}
use Rattle.reference_interner.specs.Laws.{clause_same, clause_reads, all_sorted, env_reads, parts_in}
use Rattle.reference_interner.proofs.OnceLemmas.{stands}
use Rattle.reference_interner.specs.Items.{Items}

abbrev Means : Type 0
Means = Meaning NodeKey ItemId SymbolId

-- A clause's tree is one as a clause's.
clause_form_same : (m : Means) (o : Option (List BoundKind)) (c : ClauseKind NodeKey ItemId SymbolId) →
    as_clause (under o (clause_kind_tree m c)) ≡ under o (clause_kind_tree m c)
clause_form_same m (Some ks) (Trait p) = refl
clause_form_same m (Some ks) (RegionOutlives p) = refl
clause_form_same m (Some ks) (TypeOutlives p) = refl
clause_form_same m (Some ks) (Projection p) = refl
clause_form_same m (Some ks) (ConstArgHasType c t) = refl
clause_form_same m (Some ks) (WellFormed a) = refl
clause_form_same m (Some ks) (ConstEvaluatable c) = refl
clause_form_same m (Some ks) (HostEffect p) = refl
clause_form_same m (Some ks) (UnstableFeature n) = refl
clause_form_same m None c = refl

-- The tree of a predicate of another kind is no clause's.
no_clause_under : (m : Means) (o : Option (List BoundKind)) (p : PredicateKind NodeKey ItemId SymbolId) →
    ((c : ClauseKind NodeKey ItemId SymbolId) → p ≡ Clause c → ⊥) →
    IsBinder clause_sort (under o (predicate_kind_tree m p)) → ⊥
no_clause_under m (Some ks) (Clause c) u h = u c refl
no_clause_under m (Some ks) (Subtype p) u h = absurd h.0
no_clause_under m (Some ks) (Coerce p) u h = absurd h.0
no_clause_under m (Some ks) (NormalizesTo p) u h = absurd h.0
no_clause_under m (Some ks) (AliasRelate a b d) u h = absurd h.0
no_clause_under m (Some ks) Ambiguous u h = absurd h
no_clause_under m None p u h = absurd h

pub no_clause : (m : Means) (b : Binder NodeKey (PredicateKind NodeKey ItemId SymbolId)) →
    ((c : ClauseKind NodeKey ItemId SymbolId) → b.value ≡ Clause c → ⊥) → IsBinder clause_sort (predicate_tree m b) → ⊥
no_clause m b u h = no_clause_under m (m.bound_vars b.bound_vars) b.value u h

module _ (items : Items) (ns : List Node) (i : ℕ) where
  -- A known clause is the predicate of its number.
  pub clause_predicate : IsTrue (known ((table_meaning items ns).clause (record { 0 = record { 0 = i } }))) →
      (table_meaning items ns).predicate (record { 0 = record { 0 = i } }) ≡
      (table_meaning items ns).clause (record { 0 = record { 0 = i } })
  clause_predicate k =
      let t = tree_as predicate_node (get_or (entries ns) i no_entry) in
      let e = clause_reads items (entries ns) i in
      key_reads items (entries ns) predicate_node i ∙
      sym (clause_same t (subst (λ u. IsTrue (known u)) e k)) ∙ sym e

  -- A predicate whose form is a clause's is the clause of its number.
  pub predicate_clause : (b : Binder NodeKey (PredicateKind NodeKey ItemId SymbolId))
      (c : ClauseKind NodeKey ItemId SymbolId) → b.value ≡ Clause c →
      (table_meaning items ns).predicate (record { 0 = record { 0 = i } }) ≡ predicate_tree (table_meaning items ns) b →
      (table_meaning items ns).clause (record { 0 = record { 0 = i } }) ≡
      (table_meaning items ns).predicate (record { 0 = record { 0 = i } })
  predicate_clause b c e h =
      let m = table_meaning items ns in
      let o = m.bound_vars b.bound_vars in
      let p = sym (key_reads items (entries ns) predicate_node i) ∙ h ∙ ap (λ x. under o (predicate_kind_tree m x)) e in
      clause_reads items (entries ns) i ∙ ap as_clause p ∙ clause_form_same m o c ∙ sym p ∙
      sym (key_reads items (entries ns) predicate_node i)

  -- A known clause has a clause's form.
  pub clause_form : IsTrue (known ((table_meaning items ns).clause (record { 0 = record { 0 = i } }))) →
      (b : Binder NodeKey (PredicateKind NodeKey ItemId SymbolId)) →
      (table_meaning items ns).predicate (record { 0 = record { 0 = i } }) ≡ predicate_tree (table_meaning items ns) b →
      ((c : ClauseKind NodeKey ItemId SymbolId) → b.value ≡ Clause c → ⊥) → ⊥
  clause_form k b h u =
      no_clause (table_meaning items ns) b u
      (subst (λ t. IsBinder clause_sort t) (sym (clause_predicate k) ∙ h)
      ((all_sorted items ns).clause (record { 0 = record { 0 = i } }) k))

  -- What stands where a clause of a known tree is read.
  pub clause_stands : (t : Tree) → IsTrue (known t) →
      (table_meaning items ns).clause (record { 0 = record { 0 = i } }) ≡ t → StandsAt ns i (entry predicate_node t)
  clause_stands t k e =
      stands items ns predicate_node t i k (clause_predicate (subst (λ u. IsTrue (known u)) (sym e) k) ∙ e)

  -- The clause of a number where a clause's entry stands.
  pub clause_made : (m : Means) (b : Binder NodeKey (ClauseKind NodeKey ItemId SymbolId)) →
      StandsAt ns i (entry predicate_node (clause_tree m b)) →
      (table_meaning items ns).clause (record { 0 = record { 0 = i } }) ≡ clause_tree m b
  clause_made m b h =
      clause_reads items (entries ns) i ∙ ap (λ e. as_clause (tree_as predicate_node e)) h ∙
      clause_form_same m (m.bound_vars b.bound_vars) b.value

  -- What stands where an environment of a known list is read.
  pub env_stands : (t : Tree) → IsTrue (known t) →
      (table_meaning items ns).param_env (record { 0 = record { 0 = i } }) ≡ node environment t →
      StandsAt ns i (entry clauses_node t)
  env_stands t k e =
      let same : (table_meaning items ns).clauses (record { 0 = record { 0 = i } }) ≡ t =
      ap parts_in (sym (env_reads items ns i) ∙ e) in
      stands items ns clauses_node t i k same
