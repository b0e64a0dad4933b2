-- What a context records, kept beside it, and what it comes to when it is put back.
--
--   SameRecord c d                  two contexts have recorded the same
--   IsRecordOf c d                  a context is again what it was, with what was kept of it
--   StandsOn state with_record r    what was kept is recorded still, and lawful, when the interner has come to know more
use Rattle.std.specs.Prelude.{◌≡◌, ℕ}
use Rattle.relation_terms.specs.Meaning.{Extends}
use Rattle.relation_semantics.specs.Contexts.{Context}

module _ {Key Id Name : Type 0} where
  -- Of variables and regions, of types that are to outlive regions, of related variables, and how it was made.
  pub record SameRecord (c d : Context Key Id Name) : Type 0 where
    pub store : d.store ≡ c.store
    pub setup : d.setup ≡ c.setup
    pub outliving : d.outliving ≡ c.outliving
    pub marks : (n : ℕ) → d.sub_root n ≡ c.sub_root n

  -- The second context is the first with what was kept of it.
  pub record IsRecordOf (c d : Context Key Id Name) : Type 0 where
    pub same : SameRecord c d
    pub lawful : d.lawful

  -- Contexts that are shown by `state`, with a record put back.
  module _ {S R : Type 0} (state : S → Context Key Id Name) (with_record : S → R → S) where
    -- The interner's keys mean what they mean; and when it has come to know more, the same is recorded, lawfully.
    pub record StandsOn (r : R) : Type 0 where
      pub meaning : (c : S) → (state (with_record c r)).meaning ≡ (state c).meaning
      pub same : (c d : S) → Extends (state c).meaning (state d).meaning → (state (with_record c r)).lawful →
          SameRecord (state (with_record c r)) (state (with_record d r))
      pub lawful : (c d : S) → Extends (state c).meaning (state d).meaning → (state (with_record c r)).lawful →
          (state (with_record d r)).lawful
