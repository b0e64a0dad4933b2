-- Binders under which nothing is bound, as the relation of terms without variables relates them: by their bodies.
use Rattle.std.proofs.Common.{◌≡◌, ◌≢◌, ℕ, suc, refl, sym, subst₂, inr, List, [], Option, Some, None, Ok}
use Rattle.std.proofs.lemmas.Bool.{false≢true}
use Rattle.term_enums.specs.declared.Variance.{Variance}
use Rattle.term_enums.specs.declared.Variance.TheVariants.{Bivariant}
use Rattle.relation_terms.specs.declared.predicate.regions.RegionConstraint.{RegionConstraint}
use Rattle.relation_terms.specs.Heads.{BoundKind, environment, variable, bound, placeholder, atom, unknown}
use Rattle.relation_terms.specs.Trees.{Tree, leaf, node, bind, nil, cons, Leaves}
use Rattle.relation_terms.specs.Meaning.{Meaning, under}
use Rattle.relation_semantics.specs.Relation.{StaysWithin}
use Rattle.relation_semantics.specs.Stores.{Store, IsSound, IsTermIn, InContext}
use Rattle.relation_semantics.specs.Lawful.{Asked, items_of}
use Rattle.relation_steps.specs.Rounds.{one_round, RoundLeads, Opened}
use Rattle.relation_semantics.proofs.Opening.{unused_step}
use Rattle.relation_combining.proofs.OpeningBoth.{body_scope, unused_stand_ins, bodies_error, bodies_built, bodies_agree, bodies_smaller}
use Rattle.relation_semantics.proofs.Passing.{passes_nowhere}
use Rattle.relation_semantics.proofs.BuildingSteps.{built_itself}
use Rattle.plain_relation.specs.Plain.{IsUnbound, plain_settings, plain_store, plain_state, plain_manner}

-- Nothing escapes from what is not bound.
unbound_within : (d : ℕ) (t : Tree) → Leaves IsUnbound t → StaysWithin d t
unbound_within d (leaf (variable k n)) h = tt
unbound_within d (leaf (bound k e i)) h = absurd h
unbound_within d (leaf (placeholder k u n)) h = tt
unbound_within d (leaf (atom x)) h = tt
unbound_within d (leaf unknown) h = tt
unbound_within d (node g ts) h = unbound_within d ts h
unbound_within d (bind ks t) h = unbound_within (suc d) t h
unbound_within d nil h = tt
unbound_within d (cons t ts) h = (unbound_within d t h.0, unbound_within d ts h.1)

-- The body of a term of the context is one, if nothing escapes from it.
body_in : (st : Store) (ks : List BoundKind) (t : Tree) → IsTermIn st (bind ks t) → StaysWithin 0 t → IsTermIn st t
unfolding IsTermIn InContext
body_in st ks t h w = (h.0, w, h.2)

module _ {Key Id Name : Type 0} (m : Meaning Key Id Name) (v : Variance) (cs : List (RegionConstraint Key)) (t u : Tree)
    (decides : v ≢ Bivariant) where
  -- One round relates the binders.
  relates_once : (ks ls : List BoundKind) → Asked plain_manner (plain_state m v cs) v (bind ks t) (bind ls u) →
      StaysWithin 0 t × StaysWithin 0 u
  relates_once ks ls k = (unbound_within 0 t k.left_taken.0, unbound_within 0 u k.right_taken.0)

  leads : (ks ls : List BoundKind) → IsSound (plain_store m cs) →
      Asked plain_manner (plain_state m v cs) v (bind ks t) (bind ls u) → (round : ℕ) → round ≡ 0 →
      RoundLeads plain_manner (plain_state m v cs) (plain_state m v cs) [] round (bind ks t) (bind ls u) t u
  leads ks ls sound k round first =
      let w = relates_once ks ls k in
      record {
        steps = one_round first (inr w) (unused_step (items_of m) (node environment nil) v (plain_store m cs) [] ks ls t u
            decides (body_scope (plain_store m cs) sound ks t k.left_in)
            (body_scope (plain_store m cs) sound ls u k.right_in) w.0 w.1);
        asked = record {
          left_known = k.left_known;
          right_known = k.right_known;
          left_in = body_in (plain_store m cs) ks t k.left_in w.0;
          right_in = body_in (plain_store m cs) ls u k.right_in w.1;
          left_taken = (k.left_taken.0, k.left_taken.1.1);
          right_taken = (k.right_taken.0, k.right_taken.1.1);
        };
        errors = λ n set i st e later s o.
            bodies_error n set i st v e ks ls t u t u {now = plain_store m cs} (unused_stand_ins ks t w.0)
            (unused_stand_ins ls u w.1) o;
        agrees = λ st began. (
          λ z. bodies_agree plain_settings (items_of m) v st began.sound began.later ks ls t u t u
              (unused_stand_ins ks t w.0) (unused_stand_ins ls u w.1) k.left_taken.1.0 k.right_taken.1.0 z,
          began,
        );
        built = bodies_built (plain_store m cs) ks ls t u t u {now = plain_store m cs} (unused_stand_ins ks t w.0)
            (unused_stand_ins ls u w.1);
        same_budget = refl;
        smaller = bodies_smaller (plain_store m cs) ks ls t u;
      }

  -- The bodies as they are.
  pub opens_none : {T : Type 0} (o p : Option (List BoundKind)) → IsSound (plain_store m cs) →
      Asked plain_manner (plain_state m v cs) v (under o t) (under p u) → (round : ℕ) → round ≡ 0 → (tree : T → Tree)
      (x y : T) → tree x ≡ t → tree y ≡ u →
      Opened plain_manner (plain_state m v cs) (plain_state m v cs) round (under o t) (under p u) tree (Ok (Some (x, y)))
  unfolding passes_nowhere
  opens_none (Some ks) (Some ls) sound k round first tree x y a b = record {
    passes = passes_nowhere _ (plain_state m v cs);
    verdict = subst₂ (RoundLeads plain_manner (plain_state m v cs) (plain_state m v cs) [] round (bind ks t) (bind ls u))
        (sym a) (sym b) (leads ks ls sound k round first);
    built = built_itself (plain_store m cs) (bind ks t) (bind ls u);
  }
  opens_none (Some ks) None sound k round first tree x y a b = absurd (false≢true k.right_known)
  opens_none None p sound k round first tree x y a b = absurd (false≢true k.left_known)

  -- Nothing is left after that.
  pub no_more : {T : Type 0} (o p : Option (List BoundKind)) →
      Asked plain_manner (plain_state m v cs) v (under o t) (under p u) → (round : ℕ) → round ≡ 1 → (tree : T → Tree) →
      Opened plain_manner (plain_state m v cs) (plain_state m v cs) round (under o t) (under p u) tree (Ok None)
  unfolding passes_nowhere
  no_more (Some ks) (Some ls) k round second tree = record {
    passes = passes_nowhere _ (plain_state m v cs);
    verdict = (second, inr (relates_once ks ls k), refl, refl, refl);
    built = built_itself (plain_store m cs) (bind ks t) (bind ls u);
  }
  no_more (Some ks) None k round second tree = absurd (false≢true k.right_known)
  no_more None p k round second tree = absurd (false≢true k.left_known)
