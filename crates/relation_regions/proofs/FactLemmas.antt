-- Of which regions of a context a fact may be stated.
use Rattle.std.proofs.Common.{◌≡◌, ◌<◌, ◌≤◌, ap, refl, inl, inr, Bool, true, false, not, IsTrue, IsFalse, arith}
use Rattle.std.proofs.lemmas.Bool.{cases_lt, lt-ltb, ltb-true}
use Rattle.relation_terms.specs.declared.predicate.regions.OutlivesPredicate.{OutlivesPredicate}
use Rattle.relation_terms.specs.declared.terms.keys.RegionKey.{RegionKey}
use Rattle.relation_terms.specs.Heads.{region_sort, region_var, variable, bound, placeholder, atom, unknown}
use Rattle.relation_terms.specs.Heads.{Atom, fresh_type, fresh_int, fresh_float, fresh_const}
use Rattle.relation_terms.specs.Trees.{Tree, leaf, node, bind, nil, cons, IsTerm, known}
use Rattle.relation_terms.specs.Interning.{Sorted}
use Rattle.relation_terms.proofs.Members.{no_region}
use Rattle.relation_semantics.specs.Relation.{IsValueAtom}
use Rattle.relation_semantics.specs.Stores.{Store, IsRegionIn, IsTermIn, InContext}
use Rattle.relation_semantics.specs.Contexts.{Context}
use Rattle.relation_semantics.specs.ContextCalls.{IsNotVariable}
use Rattle.relation_regions.specs.Solving.{IsFactIn, cannot_be_given}
use Rattle.relation_regions.proofs.Forms.{region_kind_is}

-- No region stands for a variable.
value_atom : (x : Atom) → IsTerm region_sort (leaf (atom x)) → IsValueAtom x
value_atom (fresh_type n) h = absurd h
value_atom (fresh_int n) h = absurd h
value_atom (fresh_float n) h = absurd h
value_atom (fresh_const n) h = absurd h
value_atom x h = tt

-- All others are regions of the context and no variables.
given_in : (st : Store) (t : Tree) → IsTerm region_sort t → cannot_be_given st t ≡ false →
    IsRegionIn st t × IsNotVariable region_var t
unfolding IsTermIn InContext
given_in st (leaf (variable k n)) h e = absurd cc
given_in st (leaf (bound k d i)) h e = absurd cc
given_in st (leaf (placeholder k u i)) h e = elim (cases_lt st.universe u) [
  | inl lt ↦ absurd (cc (lt-ltb st.universe u lt, e))
  | inr le ↦ ((h, (tt, tt, le)), λ n f. cc)
]
given_in st (leaf (atom x)) h e = ((h, (value_atom x h, tt, tt)), λ n f. cc)
given_in st (leaf unknown) h e = absurd cc
given_in st (node k ts) h e = absurd (no_region k h.0)
given_in st (bind ks t) h e = absurd h
given_in st nil h e = absurd h
given_in st (cons t ts) h e = absurd h

-- These are not.
other_in : (st : Store) (t : Tree) → cannot_be_given st t ≡ true → IsRegionIn st t → IsNotVariable region_var t → ⊥
unfolding IsTermIn InContext
other_in st (leaf (variable k n)) e h f = f n (ap (λ j. leaf (variable j n)) (region_kind_is k n h.0))
other_in st (leaf (bound k d i)) e h f = let lt : d < 0 = h.1.1 in absurd (omega (arith, lt))
other_in st (leaf (placeholder k u n)) e h f =
    let lt : st.universe < u = ltb-true st.universe u e in
    let le : u ≤ st.universe = h.1.2 in
    absurd (omega (arith, lt, le))
other_in st (leaf (atom x)) e h f = absurd cc
other_in st (leaf unknown) e h f = absurd (h.1).0
other_in st (node k ts) e h f = absurd (no_region k (h.0).0)
other_in st (bind ks t) e h f = absurd h.0
other_in st nil e h f = absurd h.0
other_in st (cons t ts) e h f = absurd h.0

-- What is so.
pub so : (b : Bool) → IsFalse (not b) → b ≡ true
so true h = refl
so false h = absurd cc

-- A fact, by its regions.
module _ {Key Id Name : Type 0} (c : Context Key Id Name) (f : OutlivesPredicate Key (RegionKey Key)) where
  pub fact_in : Sorted c.meaning → IsTrue (known ((c.meaning).region f.0)) → IsTrue (known ((c.meaning).region f.1)) →
      cannot_be_given c.store ((c.meaning).region f.0) ≡ false →
      cannot_be_given c.store ((c.meaning).region f.1) ≡ false → IsFactIn c f
  fact_in sorted longer shorter e1 e2 =
      let first = given_in c.store ((c.meaning).region f.0) (sorted.region f.0 longer) e1 in
      let second = given_in c.store ((c.meaning).region f.1) (sorted.region f.1 shorter) e2 in
      record {
        longer_in = first.0;
        shorter_in = second.0;
        longer_no_variable = first.1;
        shorter_no_variable = second.1;
      }

  pub longer_other : cannot_be_given c.store ((c.meaning).region f.0) ≡ true → IsFactIn c f → ⊥
  longer_other e h = other_in c.store ((c.meaning).region f.0) e h.longer_in h.longer_no_variable

  pub shorter_other : cannot_be_given c.store ((c.meaning).region f.1) ≡ true → IsFactIn c f → ⊥
  shorter_other e h = other_in c.store ((c.meaning).region f.1) e h.shorter_in h.shorter_no_variable
