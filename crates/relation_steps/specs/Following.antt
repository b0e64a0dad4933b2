-- What of a relation follows its interner, and what stands.
use Rattle.relation_terms.specs.Meaning.{Meaning, Extends}
use Rattle.relation_semantics.specs.Lawful.{State, WithMeaning}

-- Whatever the interner of a lawful relation may come to know by growing, nothing else of the relation changes.
abbrev pub FollowsInterner : {Key Id Name S I : Type 0} → (I → Meaning Key Id Name) → (S → State Key Id Name) →
    (S → I → S) → S → Type 0
FollowsInterner {I = I} meaning state with_interner r = (cx : I) → Extends (state r).meaning (meaning cx) →
    (state r).lawful → WithMeaning (state r) (meaning cx) (state (with_interner r cx))
