-- What an overlap checker answers, between what a context is before the call and after it.
use Rattle.std.specs.Prelude.{◌≡◌, ℕ, Result, Ok, Err, IsTrue, All}
use Rattle.relation_terms.specs.declared.terms.binder.Binder.{Binder}
use Rattle.relation_terms.specs.declared.terms.keys.ArgsKey.{ArgsKey}
use Rattle.relation_terms.specs.Meaning.{Meaning}
use Rattle.relation_terms.specs.Trees.{Tree, Leaves, known}
use Rattle.relation_folds.specs.Faults.{IfSpent, KnowsError, KnowsFault}
use Rattle.relation_folds.specs.declared.error.RelateFault.{RelateFault}
use Rattle.relation_semantics.specs.Contexts.{Context}
use Rattle.relation_semantics.specs.FirstOrder.{IsFirstOrderStore}
use Rattle.relation_semantics.specs.Goals.{KnowsGoal}
use Rattle.relation_semantics.specs.Stores.{IsFree}
use Rattle.relation_coherence.specs.declared.answer.WhyApart.TheVariants.{ByForm, ByRelating}
use Rattle.relation_coherence.specs.declared.answer.Overlap.{Overlap}
use Rattle.relation_coherence.specs.declared.answer.Overlap.TheVariants.{Apart, Meets}
use Rattle.relation_coherence.specs.Bounds.{WasTooFew}
use Rattle.relation_coherence.specs.Headers.{header_tree}
use Rattle.relation_coherence.specs.Overlaps.{AreApart, AreApartErased, Covers, IsCommon, IsFirstOrderHeader}

-- The interner knows what is answered: the header and the goals, why the two do not relate, or the fault.
abbrev pub KnowsOverlap : {Key Id Name : Type 0} → Meaning Key Id Name →
    Result (Overlap Key Id Name) (RelateFault Key Id Name) → Type 0
KnowsOverlap m (Ok (Apart ByForm)) = Unit {0}
KnowsOverlap m (Ok (Apart (ByRelating e))) = KnowsError m e
KnowsOverlap m (Ok (Meets header goals)) = IsTrue (known (m.args header)) × All (KnowsGoal m) goals.items
KnowsOverlap m (Err f) = KnowsFault m f

-- What two contexts are, before the call and after it, and two headers.
module _ {Key Id Name : Type 0} (c d : Context Key Id Name) (a b : Binder Key (ArgsKey Key)) where
  abbrev left : Tree
  left = header_tree c.meaning a

  abbrev right : Tree
  right = header_tree c.meaning b

  abbrev universe : ℕ
  universe = (c.store).universe

  -- Both headers and the record before are first-order.
  abbrev AllFirstOrder : Type 0 → Type 0
  AllFirstOrder P = IsFirstOrderHeader left → IsFirstOrderHeader right → IsFirstOrderStore c.store → P

  -- After `Apart` no tree is an instance of both.
  abbrev pub TellsApart : Result (Overlap Key Id Name) (RelateFault Key Id Name) → Type 0
  TellsApart (Ok (Apart why)) = AreApart universe left right
  TellsApart (Ok (Meets header goals)) = Unit {0}
  TellsApart (Err f) = Unit {0}

  -- Nor up to erasure: where a quick test said so, or both headers and the record are first-order.
  abbrev pub TellsApartErased : Result (Overlap Key Id Name) (RelateFault Key Id Name) → Type 0
  TellsApartErased (Ok (Apart ByForm)) = AreApartErased universe left right
  TellsApartErased (Ok (Apart (ByRelating e))) = AllFirstOrder (AreApartErased universe left right)
  TellsApartErased (Ok (Meets header goals)) = Unit {0}
  TellsApartErased (Err f) = Unit {0}

  -- After `Meets` whatever is an instance of both is a value of the answered header.
  abbrev pub CoversBoth : Result (Overlap Key Id Name) (RelateFault Key Id Name) → Type 0
  CoversBoth (Ok (Apart why)) = Unit {0}
  CoversBoth (Ok (Meets header goals)) = Covers universe left right d.store ((d.meaning).args header)
  CoversBoth (Err f) = Unit {0}

  -- Each value of the answered header is an instance of both up to erasure, where both and the record are first-order.
  abbrev pub MeetsInCommon : Result (Overlap Key Id Name) (RelateFault Key Id Name) → Type 0
  MeetsInCommon (Ok (Apart why)) = Unit {0}
  MeetsInCommon (Ok (Meets header goals)) =
      AllFirstOrder (IsCommon universe left right d.store ((d.meaning).args header))
  MeetsInCommon (Err f) = Unit {0}

  -- What the answered header comes to is itself: no variable stands in it that has a term.
  abbrev pub IsResolved : Result (Overlap Key Id Name) (RelateFault Key Id Name) → Type 0
  IsResolved (Ok (Apart why)) = Unit {0}
  IsResolved (Ok (Meets header goals)) = Leaves (IsFree d.store) ((d.meaning).args header)
  IsResolved (Err f) = Unit {0}

  -- `Budget` comes only where none is left; and of first-order headers in a first-order record only where fewer were
  -- left than there were unresolved variables, with one for each type and constant that either binds.
  abbrev pub SpendsAll : Result (Overlap Key Id Name) (RelateFault Key Id Name) → Type 0
  SpendsAll result = IfSpent result (((d.store).budget ≡ 0) × AllFirstOrder (WasTooFew c.store left right))
