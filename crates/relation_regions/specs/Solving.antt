-- What solving answers, of the regions of a context.
use Rattle.std.specs.Prelude.{Bool, true, false, nat_lt, List, map}
use Rattle.relation_terms.specs.declared.predicate.regions.OutlivesPredicate.{OutlivesPredicate}
use Rattle.relation_terms.specs.declared.terms.keys.RegionKey.{RegionKey}
use Rattle.relation_terms.specs.Heads.{Leaf, region_var, variable, bound, placeholder, atom, unknown}
use Rattle.relation_terms.specs.Meaning.{Meaning}
use Rattle.relation_terms.specs.Trees.{Tree, leaf, node, bind, nil, cons}
use Rattle.relation_semantics.specs.Stores.{Store}
use Rattle.relation_semantics.specs.Contexts.{Context, HasRegion}
use Rattle.relation_semantics.specs.ContextCalls.{IsNotVariable}
use Rattle.relation_regions.specs.declared.solving.Solved.{Solved}
use Rattle.relation_regions.specs.declared.solving.Solved.TheVariants.{Met, Unmet}
use Rattle.relation_regions.specs.Solutions.{HasSolution, AreLeast, IsUnmetBy}

-- A region of which nothing may be stated: a variable, what a binder outside binds, or a placeholder of a later universe
-- than the current one.
abbrev pub cannot_be_leaf : Store → Leaf → Bool
cannot_be_leaf st (variable k n) = true
cannot_be_leaf st (bound k d i) = true
cannot_be_leaf st (placeholder k u n) = nat_lt st.universe u
cannot_be_leaf st (atom x) = false
cannot_be_leaf st unknown = true

abbrev pub cannot_be_given : Store → Tree → Bool
cannot_be_given st (leaf l) = cannot_be_leaf st l
cannot_be_given st (node h ts) = true
cannot_be_given st (bind ks t) = true
cannot_be_given st nil = true
cannot_be_given st (cons t ts) = true

module _ {Key Id Name : Type 0} where
  -- What a predicate on two regions speaks of.
  abbrev pub region_pair : Meaning Key Id Name → OutlivesPredicate Key (RegionKey Key) → Tree × Tree
  region_pair m f = (m.region f.0, m.region f.1)

  abbrev pub region_pairs : Meaning Key Id Name → List (OutlivesPredicate Key (RegionKey Key)) → List (Tree × Tree)
  region_pairs m fs = map (region_pair m) fs

  -- A fact is of regions of the context that are no variables.
  pub record IsFactIn (c : Context Key Id Name) (f : OutlivesPredicate Key (RegionKey Key)) : Type 0 where
    pub longer_in : HasRegion c f.0
    pub shorter_in : HasRegion c f.1
    pub longer_no_variable : IsNotVariable region_var ((c.meaning).region f.0)
    pub shorter_no_variable : IsNotVariable region_var ((c.meaning).region f.1)

  module _ (c : Context Key Id Name) (facts : List (OutlivesPredicate Key (RegionKey Key))) where
    -- After `Met` what was recorded can be so.
    abbrev pub IfMet : Solved Key → Type 0
    IfMet (Met values) = HasSolution (region_pairs c.meaning facts) c.store
    IfMet (Unmet longer shorter by) = Unit {0}

    -- After `Met` the values are what each variable has to outlive.
    abbrev pub IfValued : Solved Key → Type 0
    IfValued (Met values) = AreLeast (region_pairs c.meaning facts) c.store (region_pairs c.meaning values.items)
    IfValued (Unmet longer shorter by) = Unit {0}

    -- After `Unmet` what was recorded can't be so.
    abbrev pub IfUnmet : Solved Key → Type 0
    IfUnmet (Met values) = Unit {0}
    IfUnmet (Unmet longer shorter by) = IsUnmetBy (region_pairs c.meaning facts) c.store ((c.meaning).region longer)
        ((c.meaning).region shorter) by.items

    -- All of it.
    pub record IsAnswered (s : Solved Key) : Type 0 where
      pub met : IfMet s
      pub least : IfValued s
      pub unmet : IfUnmet s
