-- Two headers, opened one after the other.
use Rattle.std.proofs.Common.{◌≡◌, ◌+◌, refl, sym, subst, List, Option, Some, None, IsTrue, arith}
use Rattle.relation_terms.specs.declared.terms.binder.Binder.{Binder}
use Rattle.relation_terms.specs.declared.terms.keys.ArgsKey.{ArgsKey}
use Rattle.relation_terms.specs.Heads.{BoundKind, arguments}
use Rattle.relation_terms.specs.Trees.{Tree, node, known}
use Rattle.relation_terms.specs.Meaning.{Meaning, Extends, under}
use Rattle.relation_terms.proofs.Binders.{under_known, under_stays}
use Rattle.relation_semantics.specs.Bound.{IsWellBound}
use Rattle.relation_semantics.specs.Binders.{InstantiatesAs}
use Rattle.relation_semantics.specs.Contexts.{Context}
use Rattle.relation_semantics.specs.OpeningLaws.{InstantiatingEachOpens, InstantiatedBodyIsIn, InstantiatedBodyBinds}
use Rattle.relation_semantics.specs.OneUniverse.{HasOneUniverse, all_unbound}
use Rattle.relation_semantics.specs.Steps.{IsLater, InstantiatesBinder}
use Rattle.relation_semantics.specs.Stores.{Store, InContext, IsTermIn, IsSound}
use Rattle.relation_semantics.proofs.Standing.{later_term, term_context}
use Rattle.relation_semantics.proofs.Going.{later_through}
use Rattle.relation_coherence.specs.Bounds.{types_bound}
use Rattle.relation_coherence.proofs.Bounding.{each_unresolved, each_of_universe}
use Rattle.relation_coherence.specs.Headers.{header_tree, KnowsHeader, TakesHeader, HasHeader, OpensHeaders}

-- What is a term of the context is one as a list of arguments too.
pub arguments_in : (st : Store) (t : Tree) → IsTermIn st t → IsTermIn st (node arguments t)
unfolding IsTermIn InContext
arguments_in st t h = h

pub from_arguments : (st : Store) (t : Tree) → IsTermIn st (node arguments t) → IsTermIn st t
unfolding IsTermIn InContext
from_arguments st t h = h

-- The list of a header, and its body opened.
record Opened (before after : Store) (o : Option (List BoundKind)) (t x : Tree) : Type 0 where
  binds : List BoundKind
  list_is : o ≡ Some binds
  opens : InstantiatesBinder before after binds t x
  is_in : IsTermIn after x
  well_bound : IsWellBound x
  one_universe : HasOneUniverse before.universe before → HasOneUniverse before.universe after
  unresolved : all_unbound after ≡ all_unbound before + types_bound binds

module _ {Key Id Name : Type 0} where
  -- A known header keeps its tree while the interner grows.
  pub header_stays : (m n : Meaning Key Id Name) → Extends m n → (h : Binder Key (ArgsKey Key)) →
      IsTrue (known (header_tree m h)) → header_tree n h ≡ header_tree m h
  header_stays m n e h k = under_stays (m.bound_vars h.bound_vars) (n.bound_vars h.bound_vars) (m.args h.value)
      (n.args h.value) (e.bound_vars h.bound_vars) (e.args h.value) k

  -- The body of a header is known.
  pub body_known : (m : Meaning Key Id Name) (h : Binder Key (ArgsKey Key)) → IsTrue (known (header_tree m h)) →
      IsTrue (known (m.args h.value))
  body_known m h k = (under_known (m.bound_vars h.bound_vars) (m.args h.value) k).1

  module _ (opens : InstantiatingEachOpens) (body_in : InstantiatedBodyIsIn) (body_binds : InstantiatedBodyBinds) where
    opened : (c d : Context Key Id Name) (o : Option (List BoundKind)) (t x : Tree) → InstantiatesAs c d (under o t) x →
        IsSound c.store → IsTermIn c.store (under o t) → IsWellBound (under o t) → Opened c.store d.store o t x
    opened c d None t x f g i w = absurd f
    opened c d (Some ks) t x f g i w = record {
      binds = ks;
      list_is = refl;
      opens = opens c.store d.store ks t x f g;
      is_in = (body_in c.store d.store ks t x f g i w.0).0;
      well_bound = body_binds c.store d.store ks t x f w.1;
      one_universe = λ h. each_of_universe f.makes (omega arith) g h;
      unresolved = each_unresolved f.makes;
    }

    -- What is asked of the second header where the first was opened.
    pub header_in : (c d : Context Key Id Name) (h : Binder Key (ArgsKey Key)) → Extends c.meaning d.meaning →
        IsLater c.store d.store → KnowsHeader c h → HasHeader c h → HasHeader d h
    header_in c d h e l k i = subst (IsTermIn d.store) (sym (header_stays c.meaning d.meaning e h k))
        (later_term c.store d.store l.grows l.universe_stands (header_tree c.meaning h) i)

    -- The first one was opened: the record is later.
    pub first_later : (c d : Context Key Id Name) (h : Binder Key (ArgsKey Key)) (x : ArgsKey Key) →
        InstantiatesAs c d (header_tree c.meaning h) ((d.meaning).args x) → IsSound c.store → HasHeader c h →
        TakesHeader c h → IsLater c.store d.store
    first_later c d h x f g i w = (((opened c d ((c.meaning).bound_vars h.bound_vars) ((c.meaning).args h.value)
        ((d.meaning).args x) f g i w).opens).makes).later

    module _ (c d e : Context Key Id Name) (left right : Binder Key (ArgsKey Key)) (x y : ArgsKey Key)
        (grown : Extends c.meaning d.meaning) (grown_on : Extends d.meaning e.meaning) (sound : IsSound c.store)
        (sound_then : IsSound d.store) (x_known : IsTrue (known ((d.meaning).args x)))
        (y_known : IsTrue (known ((e.meaning).args y)))
        (f : InstantiatesAs c d (header_tree c.meaning left) ((d.meaning).args x))
        (s : InstantiatesAs d e (header_tree d.meaning right) ((e.meaning).args y)) (left_in : HasHeader c left)
        (left_taken : TakesHeader c left) (right_known : KnowsHeader c right) (right_in : HasHeader c right)
        (right_taken : TakesHeader c right) where
      one : Opened c.store d.store ((c.meaning).bound_vars left.bound_vars) ((c.meaning).args left.value) ((d.meaning).args x)
      one = opened c d ((c.meaning).bound_vars left.bound_vars) ((c.meaning).args left.value) ((d.meaning).args x) f sound
          left_in left_taken

      between : IsLater c.store d.store
      between = ((one.opens).makes).later

      same : header_tree d.meaning right ≡ header_tree c.meaning right
      same = header_stays c.meaning d.meaning grown right right_known

      other : Opened d.store e.store ((c.meaning).bound_vars right.bound_vars) ((c.meaning).args right.value)
          ((e.meaning).args y)
      other = opened d e ((c.meaning).bound_vars right.bound_vars) ((c.meaning).args right.value) ((e.meaning).args y)
          (subst (λ t. InstantiatesAs d e t ((e.meaning).args y)) same s) sound_then
          (later_term c.store d.store between.grows between.universe_stands (header_tree c.meaning right) right_in)
          right_taken

      after : IsLater d.store e.store
      after = ((other.opens).makes).later

      pub both_later : IsLater c.store e.store
      both_later = later_through between after

      stays : (e.meaning).args x ≡ (d.meaning).args x
      stays = grown_on.args x x_known

      pub opens_headers : OpensHeaders c e left right x y
      opens_headers = record {
        middle = d.store;
        left_binds = one.binds;
        right_binds = other.binds;
        left_list = one.list_is;
        right_list = other.list_is;
        first = subst (InstantiatesBinder c.store d.store one.binds ((c.meaning).args left.value)) (sym stays) one.opens;
        second = other.opens;
        left_in = subst (InContext d.store) (sym stays) (term_context d.store ((d.meaning).args x) one.is_in);
        one_universe = λ h. subst (λ u. HasOneUniverse u e.store) ((one.opens).makes).same_universe
            (other.one_universe (subst (λ u. HasOneUniverse u d.store) (sym ((one.opens).makes).same_universe)
            (one.one_universe h)));
        unresolved = let p = one.unresolved in let q = other.unresolved in omega (arith, p, q);
        left_relates = record {
          is_known = subst (λ t. IsTrue (known t)) (sym stays) x_known;
          taken = subst IsWellBound (sym stays) one.well_bound;
          has = arguments_in e.store ((e.meaning).args x) (subst (IsTermIn e.store) (sym stays)
              (later_term d.store e.store after.grows after.universe_stands ((d.meaning).args x) one.is_in));
        };
        right_relates = record {
          is_known = y_known;
          taken = other.well_bound;
          has = arguments_in e.store ((e.meaning).args y) other.is_in;
        };
      }
