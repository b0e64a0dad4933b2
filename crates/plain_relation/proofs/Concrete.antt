-- Terms that stand in each context.
use Rattle.std.proofs.Common.{◌≡◌, ℕ, suc, cond, IsTrue, false, List, [], sym, subst}
use Rattle.std.proofs.Common.{Option, Some, Result, Ok, Err, IfOk}
use Rattle.term_enums.specs.declared.Variance.{Variance}
use Rattle.relation_terms.specs.declared.terms.keys.TyKey.{TyKey}
use Rattle.relation_terms.specs.declared.terms.keys.RegionKey.{RegionKey}
use Rattle.relation_terms.specs.declared.terms.keys.ArgsKey.{ArgsKey}
use Rattle.relation_terms.specs.declared.terms.keys.ExistentialPredicatesKey.{ExistentialPredicatesKey}
use Rattle.relation_terms.specs.declared.terms.fn_sig.FnSig.{FnSig}
use Rattle.relation_terms.specs.Heads.{BoundKind, Leaf, Atom, variable, bound, placeholder, atom, unknown}
use Rattle.relation_terms.specs.Trees.{Tree, leaf, node, bind, nil, cons, known, Leaves, front, last}
use Rattle.relation_terms.specs.Meaning.{Meaning, Extends, signature_tree, under}
use Rattle.relation_terms.proofs.Stays.{stays_signature}
use Rattle.relation_semantics.specs.Relation.{IsValueAtom, StaysWithin}
use Rattle.relation_semantics.specs.Bound.{AreBoundAs, IsWellBound}
use Rattle.relation_semantics.specs.Stores.{Store, IsTermIn, InContext, IsMadeLeaf, IsNamable}
use Rattle.relation_semantics.specs.Lawful.{Asked}
use Rattle.plain_relation.specs.Plain.{IsUnbound, plain_store, plain_state, plain_manner}
use Rattle.plain_relation.specs.Concrete.{IsConcrete}
use Rattle.variable_tables.proofs.Grows.{known_of_term}

-- What is not there is bound as any list says.
concrete_bound : (ks : List BoundKind) (d : ℕ) (t : Tree) → IsConcrete t → AreBoundAs ks d t
concrete_bound ks d (leaf (variable k n)) h = absurd h
concrete_bound ks d (leaf (bound k e i)) h = absurd h
concrete_bound ks d (leaf (placeholder k u n)) h = absurd h
concrete_bound ks d (leaf (atom x)) h = tt
concrete_bound ks d (leaf unknown) h = absurd h
concrete_bound ks d (node a ts) h = concrete_bound ks d ts h
concrete_bound ks d (bind ls t) h = concrete_bound ks (suc d) t h
concrete_bound ks d nil h = tt
concrete_bound ks d (cons t ts) h = (concrete_bound ks d t h.0, concrete_bound ks d ts h.1)

concrete_lists : (t : Tree) → IsConcrete t → IsWellBound t
concrete_lists (leaf l) h = tt
concrete_lists (node a ts) h = concrete_lists ts h
concrete_lists (bind ks t) h = (concrete_bound ks 0 t h, concrete_lists t h)
concrete_lists nil h = tt
concrete_lists (cons t ts) h = (concrete_lists t h.0, concrete_lists ts h.1)

-- What holds of each atom holds of each leaf.
concrete_leaves : (P : Leaf → Type 0) → ((x : Atom) → IsValueAtom x → P (atom x)) → (t : Tree) → IsConcrete t →
    Leaves P t
concrete_leaves P f (leaf (variable k n)) h = absurd h
concrete_leaves P f (leaf (bound k d i)) h = absurd h
concrete_leaves P f (leaf (placeholder k u n)) h = absurd h
concrete_leaves P f (leaf (atom x)) h = f x h
concrete_leaves P f (leaf unknown) h = absurd h
concrete_leaves P f (node a ts) h = concrete_leaves P f ts h
concrete_leaves P f (bind ks t) h = concrete_leaves P f t h
concrete_leaves P f nil h = tt
concrete_leaves P f (cons t ts) h = (concrete_leaves P f t h.0, concrete_leaves P f ts h.1)

concrete_within : (d : ℕ) (t : Tree) → IsConcrete t → StaysWithin d t
concrete_within d (leaf (variable k n)) h = absurd h
concrete_within d (leaf (bound k e i)) h = absurd h
concrete_within d (leaf (placeholder k u n)) h = absurd h
concrete_within d (leaf (atom x)) h = tt
concrete_within d (leaf unknown) h = absurd h
concrete_within d (node a ts) h = concrete_within d ts h
concrete_within d (bind ks t) h = concrete_within (suc d) t h
concrete_within d nil h = tt
concrete_within d (cons t ts) h = (concrete_within d t h.0, concrete_within d ts h.1)

pub concrete_in : (st : Store) (t : Tree) → IsConcrete t → IsTermIn st t
unfolding IsTermIn InContext
concrete_in st t h = (
  concrete_leaves (IsMadeLeaf st) (λ x h. h) t h,
  concrete_within 0 t h,
  concrete_leaves (IsNamable st.universe) (λ x h. tt) t h,
)

pub concrete_known : (t : Tree) → IsConcrete t → IsTrue (known t)
concrete_known t h = known_of_term _ t (concrete_in (record {
  entries = λ k. [];
  universes = λ k. [];
  universe = 0;
  constraints = [];
  tainted = false;
  budget = 0;
}) t h)

-- Such terms may be asked about.
pub concrete_asked : {Key Id Name : Type 0} (m : Meaning Key Id Name) (v : Variance) (a b : Tree) → IsConcrete a →
    IsConcrete b → Asked plain_manner (plain_state m v []) v a b
concrete_asked m v a b h k = record {
  left_known = concrete_known a h;
  right_known = concrete_known b k;
  left_in = concrete_in (plain_store m []) a h;
  right_in = concrete_in (plain_store m []) b k;
  left_taken = (concrete_leaves IsUnbound (λ x h. tt) a h, concrete_lists a h);
  right_taken = (concrete_leaves IsUnbound (λ x h. tt) b k, concrete_lists b k);
}

-- What an equal tree was, this one is.
pub concrete_as : (t u : Tree) → u ≡ t → IsConcrete t → IsConcrete u
concrete_as t u e h = subst IsConcrete (sym e) h

module _ {Key Id Name : Type 0} {m n : Meaning Key Id Name} (e : Extends m n) where
  pub stays_concrete : (k : TyKey Key) → IsConcrete (m.ty k) → IsConcrete (n.ty k)
  stays_concrete k h = concrete_as (m.ty k) (n.ty k) (e.ty k (concrete_known (m.ty k) h)) h

  pub region_concrete : (k : RegionKey Key) → IsConcrete (m.region k) → IsConcrete (n.region k)
  region_concrete k h = concrete_as (m.region k) (n.region k) (e.region k (concrete_known (m.region k) h)) h

  pub args_concrete : (k : ArgsKey Key) → IsConcrete (m.args k) → IsConcrete (n.args k)
  args_concrete k h = concrete_as (m.args k) (n.args k) (e.args k (concrete_known (m.args k) h)) h

  pub signature_concrete : (s : FnSig Key) → IsConcrete (signature_tree m s) → IsConcrete (signature_tree n s)
  signature_concrete s h = concrete_as (signature_tree m s) (signature_tree n s)
      (stays_signature e s (concrete_known (signature_tree m s) h)) h

  pub predicates_concrete : (k : ExistentialPredicatesKey Key) → IsConcrete (m.existential_predicates k) →
      IsConcrete (n.existential_predicates k)
  predicates_concrete k h = concrete_as (m.existential_predicates k) (n.existential_predicates k)
      (e.existential_predicates k (concrete_known (m.existential_predicates k) h)) h

-- The inputs and the output of a signature that returns such a type and takes nothing, a binder of nothing over such a
-- term, and the list of one.
pub returns_concrete : (ts t : Tree) → ts ≡ cons t nil → IsConcrete t → IsConcrete (front ts) × IsConcrete (last ts)
returns_concrete ts t is h = subst (λ us. IsConcrete (front us) × IsConcrete (last us)) (sym is)
    (subst (λ b. IsConcrete (cond b nil (leaf unknown))) (sym (concrete_known t h)) tt, h)

pub binds_concrete : (o : Option (List BoundKind)) (t : Tree) → o ≡ Some [] → IsConcrete t → IsConcrete (under o t)
binds_concrete o t is h = subst (λ p. IsConcrete (under p t)) (sym is) h

pub list_concrete : {X E : Type 0} (res : Result X E) (tree : X → Tree) (t : Tree) →
    IfOk res (λ k. tree k ≡ cons t nil) → IsConcrete t → IfOk res (λ k. IsConcrete (tree k))
list_concrete (Ok k) tree t is h = concrete_as (cons t nil) (tree k) is (h, tt)
list_concrete (Err e) tree t is h = tt
