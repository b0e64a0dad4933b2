-- What two clauses are told to say.
use Rattle.std.proofs.Common.{subst, IsTrue}
use Rattle.relation_terms.specs.declared.predicate.kinds.ClauseKind.{ClauseKind}
use Rattle.relation_terms.specs.declared.terms.keys.ClauseKey.{ClauseKey}
use Rattle.relation_terms.specs.Trees.{known}
use Rattle.relation_terms.specs.Meaning.{Meaning}
use Rattle.relation_terms.specs.Predicates.{clause_kind_tree}
use Rattle.relation_proving.specs.Bodies.{IsBodyOf, TellsKinds, TellsBodies}
use Rattle.relation_proving.specs.declared.comparing.Bodies.{Bodies}
use Rattle.relation_proving.specs.declared.comparing.Bodies.TheVariants.{OfTrait, OfItem, OfTwo, Unclear}

module _ {Key Id Name : Type 0} (m : Meaning Key Id Name) where
  pub body_known : (k : ClauseKey Key) (p : ClauseKind Key Id Name) → IsBodyOf m k p → IsTrue (known (m.clause k)) →
      IsTrue (known (clause_kind_tree m p))
  body_known k p e h = subst (λ t. IsTrue (known t)) e h

  pub are_said : (k g : ClauseKey Key) (q p : ClauseKind Key Id Name) → IsBodyOf m k q → IsBodyOf m g p →
      (said : Bodies Key Id) → TellsKinds m q p said → TellsBodies m k g said
  are_said k g q p i j (OfTrait a b) t = record { goal = q; given = p; asks = i; gives = j; tells = t }
  are_said k g q p i j (OfItem a b) t = record { goal = q; given = p; asks = i; gives = j; tells = t }
  are_said k g q p i j OfTwo t = record { goal = q; given = p; asks = i; gives = j; tells = t }
  are_said k g q p i j Unclear t = tt
