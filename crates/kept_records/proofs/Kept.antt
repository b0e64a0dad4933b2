-- A record that was kept, when it is put back.
use Rattle.std.proofs.Common.{◌≡◌, ◌∙◌}
use Rattle.relation_terms.specs.Meaning.{Extends}
use Rattle.relation_semantics.specs.Contexts.{Context}
use Rattle.kept_records.specs.Records.{SameRecord, IsRecordOf, StandsOn}

module _ {Key Id Name : Type 0} where
  pub same_through : (c d e : Context Key Id Name) → SameRecord c d → SameRecord d e → SameRecord c e
  same_through c d e p q = record {
    store = q.store ∙ p.store;
    setup = q.setup ∙ p.setup;
    outliving = q.outliving ∙ p.outliving;
    marks = λ n. q.marks n ∙ p.marks n;
  }

  -- It may be put back once the interner has grown, and what is recorded then is what was.
  module _ {S R : Type 0} (state : S → Context Key Id Name) (with_record : S → R → S) (r : R) (c d : S)
      (is : IsRecordOf (state c) (state (with_record c r))) (stands : StandsOn state with_record r)
      (grown : Extends (state c).meaning (state d).meaning) where
    pub may_put_back : (state (with_record d r)).lawful
    may_put_back = stands.lawful c d grown is.lawful

    pub put_back_is : SameRecord (state c) (state (with_record d r))
    put_back_is = same_through (state c) (state (with_record c r)) (state (with_record d r)) is.same
        (stands.same c d grown is.lawful)

    pub put_back_means : (state (with_record d r)).meaning ≡ (state d).meaning
    put_back_means = stands.meaning d
