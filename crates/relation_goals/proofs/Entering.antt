-- One binder is entered, and then another instantiated.
use Rattle.std.proofs.Common.{◌≡◌, ◌≢◌, refl, sym, subst, List, [], IsTrue, true, false, Option, Some, None, Result, Ok, Err, IsErr, ℕ, ◌<◌, length}
use Rattle.std.proofs.lemmas.Bool.{false≢true}
use Rattle.relation_terms.specs.declared.terms.binder.Binder.{Binder}
use Rattle.relation_terms.specs.Heads.{BoundKind, VarKind}
use Rattle.relation_terms.specs.Trees.{Tree, known}
use Rattle.relation_terms.specs.Meaning.{Meaning, Extends, under}
use Rattle.relation_terms.proofs.Binders.{under_stays}
use Rattle.relation_semantics.specs.Stores.{Store, IsTermIn, IsMade}
use Rattle.relation_semantics.specs.Steps.{ChangesNothing, EntersForall}
use Rattle.relation_semantics.specs.Contexts.{Context}
use Rattle.relation_semantics.specs.Binders.{binder_tree, EntersAs, InstantiatesAs, OpensFrom, OpensBoth, MakesEach, makes_none}
use Rattle.relation_semantics.proofs.Standing.{later_term}
use Rattle.relation_semantics.proofs.Opening.{same_changes}

-- What changes nothing keeps what is made.
pub changes_made : (before after : Store) → ChangesNothing before after → (k : VarKind) (n : ℕ) → IsMade before k n →
    IsMade after k n
changes_made before after h k n m = subst (λ es. n < length es) (sym (h.same_entries k)) m

-- What is a term of the context is one still where nothing that is recorded changes.
pub entered_keeps : (before after : Store) → ChangesNothing before after → (t : Tree) → IsTermIn before t →
    IsTermIn after t
entered_keeps before after h t i = later_term before after (changes_made before after h) h.universe_stands t i

module _ {Key Id Name : Type 0} where
  -- A known binder keeps its tree while the interner grows.
  pub binder_stays : {T : Type 0} (tree : Meaning Key Id Name → T → Tree) (m n : Meaning Key Id Name) → Extends m n →
      (b : Binder Key T) → (IsTrue (known (tree m b.value)) → tree n b.value ≡ tree m b.value) →
      IsTrue (known (binder_tree tree m b)) → binder_tree tree n b ≡ binder_tree tree m b
  binder_stays tree m n grown b f k = under_stays (m.bound_vars b.bound_vars) (n.bound_vars b.bound_vars)
      (tree m b.value) (tree n b.value) (grown.bound_vars b.bound_vars) f k

  -- What was entered changes nothing.
  pub entered_changes : (c d : Context Key Id Name) (o : Option (List BoundKind)) (t x : Tree) →
      EntersAs c d (under o t) x → ChangesNothing c.store d.store
  entered_changes c d (Some ks) t x f = f.changes_nothing
  entered_changes c d None t x f = absurd f

  -- The one was entered and then the other instantiated; or a growth was refused at either.
  pub opens_from : (c d e : Context Key Id Name) (o p : Option (List BoundKind)) (t u x y z : Tree) → z ≡ x →
      EntersAs c d (under o t) x → InstantiatesAs d e (under p u) y → OpensFrom c e (under o t) (under p u) z y
  opens_from c d e (Some ks) (Some ls) t u x y z same f g =
      (d.store, subst (EntersForall c.store d.store ks t) (sym same) f, g)
  opens_from c d e (Some ks) None t u x y z same f g = absurd g
  opens_from c d e None p t u x y z same f g = absurd f

  pub refused_first : (c d : Context Key Id Name) {K F : Type 0} (tree : Meaning Key Id Name → K → Tree) (t u : Tree)
      (r : Result (K × K) F) → IsErr r → d.store ≡ c.store → OpensBoth c d tree t u r
  refused_first c d tree t u (Ok x) h same = absurd (false≢true h)
  refused_first c d tree t u (Err f) h same = (
    c.store,
    same_changes c.store,
    refl,
    (0, [], subst (MakesEach (c.store).universe c.store [] []) (sym same) (makes_none refl refl)),
  )
