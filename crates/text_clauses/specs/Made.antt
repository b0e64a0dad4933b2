-- What the clauses mean that are made of predicates.
use Rattle.std.specs.Prelude.{◌≡◌, ℕ, List, Option, Some, IsTrue, IfSome, map, slice_range}
use Rattle.std.specs.Global.{Vec}
use Rattle.relation_terms.specs.Trees.{Tree, known, node, nil, cons}
use Rattle.relation_terms.specs.Heads.{alias_term}
use Rattle.relation_terms.specs.Meaning.{Meaning, bound_kinds, under}
use Rattle.relation_terms.specs.Predicates.{trait_ref_tree, clause_kind_tree, alias_term_kind, alias_term_id}
use Rattle.relation_terms.specs.Owned.{bound_tree}
use Rattle.relation_terms.specs.declared.predicate.alias_term.AliasTermKind.{AliasTermKind}
use Rattle.relation_terms.specs.declared.predicate.kinds.ClauseKind.{ClauseKind}
use Rattle.relation_terms.specs.declared.predicate.trait_ref.TraitRef.{TraitRef}
use Rattle.relation_terms.specs.declared.terms.binder.Binder.{Binder}
use Rattle.relation_terms.specs.declared.terms.binder.BoundVariableKind.{BoundVariableKind}
use Rattle.relation_terms.specs.declared.terms.generic_arg.GenericArgKind.{GenericArgKind}
use Rattle.relation_terms.specs.declared.terms.keys.ClauseKey.{ClauseKey}
use Rattle.text_reading.specs.declared.reading.tree.Claim.{Claim}
use Rattle.text_reading.specs.declared.reading.tree.ItemSort.{ItemSort}
use Rattle.text_reading.specs.declared.naming.program.Parts.{Parts}
use Rattle.text_reading.specs.declared.naming.program.Says.{Says}
use Rattle.text_reading.specs.declared.naming.program.Clause.{Clause}
use Rattle.text_terms.specs.Built.{AreKnown, AreBuilt, MakesFrom}
use Rattle.text_clauses.specs.Clauses.{declared_tree, claim_head, trait_at, implemented_tree, bound_clause_tree}
use Rattle.text_clauses.specs.Clauses.{says_tree, clause_tree}

-- The kind is that of an item of that sort and id, which a trait declares.
abbrev pub IsDeclared : {D : Type 0} → ItemSort → D → AliasTermKind D → Type 0
IsDeclared {D} s d k = (f : D → ℕ) (ts : Tree) →
    node (alias_term (alias_term_kind k) (f (alias_term_id k))) ts ≡ declared_tree s (Some (f d)) ts

-- The form is that of a claim of a trait.
abbrev pub ClaimsOf : {Key Id Name : Type 0} → Claim → TraitRef Key Id → ClauseKind Key Id Name → Type 0
ClaimsOf {Key} {Id} {Name} c t k = (m : Meaning Key Id Name) →
    clause_kind_tree m k ≡ node (claim_head c) (cons (trait_ref_tree m t) nil)

-- What is made of a predicate without growth, if anything is, over keys that are known.
abbrev pub SaysPlainly : {Key Name : Type 0} → (Id : Type 0) → List Name → List (Option (GenericArgKind Key)) → Says →
    Option (ClauseKind Key Id Name) → Type 0
SaysPlainly {Key} {Name} Id names keys s result = (m : Meaning Key Id Name) (items parts : List ℕ) → AreKnown m keys →
    MakesFrom m (clause_kind_tree m) keys (λ ts. says_tree items (map m.name names) parts ts s) result

-- What is made, if anything is: a known clause of that tree.
abbrev pub MakesOne : {Key Id Name : Type 0} → Meaning Key Id Name → Tree → Option (ClauseKey Key) → Type 0
MakesOne n tree result = IfSome result (λ k. IsTrue (known (n.clause k)) × (n.clause k ≡ tree))

-- Of a form that is a clause of that form under a binder of these variables, between two meanings.
abbrev pub MakesUnder : {Key Id Name : Type 0} → Meaning Key Id Name → Meaning Key Id Name →
    List (BoundVariableKind Name) → ClauseKind Key Id Name → Option (ClauseKey Key) → Type 0
MakesUnder m n variables value result =
    MakesOne n (under (Some (bound_kinds m variables)) (clause_kind_tree m value)) result

-- From an interner to one that has grown, over ids of items and the numbers of parts, and keys of terms.
module _ {C Key Id Name : Type 0} (meaning : C → Meaning Key Id Name) (old new : C) where
  -- The trait reference that is made of a trait and its arguments, if one is: a known one, of their tree.
  abbrev pub MakesTraitRef : List Id → List ℕ → List (Option (GenericArgKind Key)) → ℕ → Parts →
      Option (TraitRef Key Id) → Type 0
  MakesTraitRef ids parts keys d p result = MakesFrom (meaning old) (trait_ref_tree (meaning new)) keys
      (λ ts. trait_at (map (meaning old).id ids) parts ts d p) result

  -- The same of a predicate that claims that a trait is implemented.
  abbrev pub MakesImplemented : List Id → List ℕ → List (Option (GenericArgKind Key)) → Says →
      Option (TraitRef Key Id) → Type 0
  MakesImplemented ids parts keys s result = MakesFrom (meaning old) (trait_ref_tree (meaning new)) keys
      (λ ts. implemented_tree (map (meaning old).id ids) parts ts s) result

  -- The same under the predicate's binder.
  abbrev pub MakesBound : List Id → List ℕ → List (Option (GenericArgKind Key)) → Clause →
      Option (Binder Key (TraitRef Key Id)) → Type 0
  MakesBound ids parts keys c result = MakesFrom (meaning old) (bound_tree (meaning new)) keys
      (λ ts. bound_clause_tree (map (meaning old).id ids) parts ts c) result

  -- The form that is made of what a predicate says, whatever the names are; and over names.
  abbrev pub MakesNameless : List Id → List ℕ → List (Option (GenericArgKind Key)) → Says →
      Option (ClauseKind Key Id Name) → Type 0
  MakesNameless ids parts keys s result = (names : List ℕ) →
      MakesFrom (meaning old) (clause_kind_tree (meaning new)) keys
      (λ ts. says_tree (map (meaning old).id ids) names parts ts s) result

  abbrev pub MakesKind : List Id → List Name → List ℕ → List (Option (GenericArgKind Key)) → Says →
      Option (ClauseKind Key Id Name) → Type 0
  MakesKind ids names parts keys s result = MakesFrom (meaning old) (clause_kind_tree (meaning new)) keys
      (λ ts. says_tree (map (meaning old).id ids) (map (meaning old).name names) parts ts s) result

  -- The clause that is made of a predicate, if one is: a known one, of the predicate's tree.
  abbrev pub MakesClause : List Id → List Name → List ℕ → List (Option (GenericArgKind Key)) → Clause →
      Option (ClauseKey Key) → Type 0
  MakesClause ids names parts keys c result = MakesFrom (meaning old) (meaning new).clause keys
      (λ ts. clause_tree (map (meaning old).id ids) (map (meaning old).name names) parts ts c) result

  -- The clauses that are made of a range of predicates, if any are: those of their trees, in order.
  abbrev pub MakesEach : List Id → List Name → List ℕ → List (Option (GenericArgKind Key)) → List Clause → Parts →
      Option (Vec (ClauseKey Key)) → Type 0
  MakesEach ids names parts keys cs p result =
      let tree = clause_tree (map (meaning old).id ids) (map (meaning old).name names) parts in
      IfSome result (λ ks. (ts : List Tree) → AreBuilt (meaning old) ts keys →
      map (meaning new).clause ks.items ≡ map (tree ts) (slice_range cs p.first p.behind))
