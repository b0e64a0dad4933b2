-- Regions of a context that have numbers, and pairs of numbers that say what constraints do.
use Rattle.std.specs.Prelude.{◌≡◌, ◌⊎◌, ℕ, Bool, ◌<◌, ◌≤◌, ◌^◌, List, [], ◌∷◌, ◌++◌, All, length, get_or, map, Contains}
use Rattle.relation_terms.specs.Heads.{region_var, Leaf, variable, bound, placeholder, atom, unknown}
use Rattle.relation_terms.specs.Trees.{Tree, leaf, node, bind, nil, cons}
use Rattle.relation_terms.specs.Interning.{AreEqualAsTrees}
use Rattle.relation_terms.specs.declared.predicate.regions.OutlivesPredicate.{OutlivesPredicate}
use Rattle.relation_terms.specs.declared.predicate.regions.RegionConstraint.{RegionConstraint}
use Rattle.relation_terms.specs.declared.predicate.regions.RegionConstraint.TheVariants.{Outlives, Eq}
use Rattle.relation_terms.specs.declared.terms.generic_arg.GenericArgKind.TheVariants.{Lifetime, Ty, Const}
use Rattle.relation_terms.specs.declared.terms.keys.ConstKey.{ConstKey}
use Rattle.relation_terms.specs.declared.terms.keys.RegionKey.{RegionKey}
use Rattle.relation_terms.specs.declared.terms.keys.TyKey.{TyKey}
use Rattle.relation_semantics.specs.Contexts.{Context}
use Rattle.relation_semantics.specs.Stores.{Store, universe_of, Constraint, outlives_constraint, equal_constraint, IsRegionIn}
use Rattle.relation_semantics.specs.Stores.{ConstraintIn}
use Rattle.relation_regions.specs.declared.building.Pairs.{Pairs}
use Rattle.relation_regions.specs.declared.standing.Standing.{Standing}
use Rattle.relation_regions.specs.declared.standing.Standing.TheVariants.{Named, Placeholder, Variable}
use Rattle.relation_regions.specs.Worlds.{static, IsOf, IsMentioned}

-- What a region is, as far as it counts for what it may outlive.
abbrev pub leaf_standing : Store → Leaf → Standing
leaf_standing st (variable k n) = Variable (universe_of st region_var n)
leaf_standing st (bound k d i) = Named
leaf_standing st (placeholder k u n) = Placeholder u
leaf_standing st (atom x) = Named
leaf_standing st unknown = Named

abbrev pub standing_in : Store → Tree → Standing
standing_in st (leaf l) = leaf_standing st l
standing_in st (node h ts) = Named
standing_in st (bind ks t) = Named
standing_in st nil = Named
standing_in st (cons t ts) = Named

-- The region of a number, of regions that are numbered from 0.
abbrev pub numbered : List Tree → ℕ → Tree
numbered trees i = get_or trees i static

-- A number has a region.
abbrev pub IsAt : List Tree → ℕ → Tree → Type 0
IsAt trees i t = (i < length trees) × (numbered trees i ≡ t)

-- No region has two numbers.
abbrev pub AreDistinct : List Tree → Type 0
AreDistinct trees = (i j : ℕ) → i < length trees → j < length trees → numbered trees i ≡ numbered trees j → i ≡ j

-- Regions of a context are numbered, by 32 bits and none twice.
pub record HaveNumbers (st : Store) (trees : List Tree) : Type 0 where
  pub regions : All (IsRegionIn st) trees
  pub distinct : AreDistinct trees
  pub fits : length trees ≤ 2 ^ 32

-- The same, and it is known what each is.
pub record AreNumbered (st : Store) (trees : List Tree) (standings : List Standing) : Type 0 where
  pub regions : All (IsRegionIn st) trees
  pub stand : standings ≡ map (standing_in st) trees
  pub distinct : AreDistinct trees
  pub fits : length trees ≤ 2 ^ 32

-- All keep their numbers, and of such a kind are those that get one.
pub record GrowsBy (P : Tree → Type 0) (before after : List Tree) : Type 0 where
  pub kept : (i : ℕ) (t : Tree) → IsAt before i t → IsAt after i t
  pub only : (t : Tree) → Contains after t → Contains before t ⊎ P t

-- One of the constraints speaks of a region.
abbrev pub IsOfOne : List Constraint → Tree → Type 0
IsOfOne qs t = (q : Constraint) × Contains qs q × IsOf q t

-- A constraint asks that one region outlives another.
abbrev pub IsPair : Constraint → Tree → Tree → Type 0
IsPair (outlives_constraint x y) a b = (a ≡ x) × (b ≡ y)
IsPair (equal_constraint x y) a b = ((a ≡ x) × (b ≡ y)) ⊎ ((a ≡ y) × (b ≡ x))

-- The constraint that stands where none is.
abbrev pub no_constraint : Constraint
no_constraint = outlives_constraint static static

-- The constraint of a number asks it.
abbrev pub Asks : List Constraint → ℕ → Tree → Tree → Type 0
Asks qs j a b = (j < length qs) × IsPair (get_or qs j no_constraint) a b

-- A fact, as a constraint.
abbrev pub stating : Tree × Tree → Constraint
stating f = outlives_constraint f.0 f.1

-- A pair of numbers was put behind the others, with the number of what asks for it.
pub record PutsPair (first second j : ℕ) (p : Pairs) (said : List ℕ) (q : Pairs) (said' : List ℕ) : Type 0 where
  pub longer_is : q.longer.items ≡ p.longer.items ++ first ∷ []
  pub shorter_is : q.shorter.items ≡ p.shorter.items ++ second ∷ []
  pub said_is : said' ≡ said ++ j ∷ []

-- The numbers of two regions were.
pub record AddsPair (trees : List Tree) (a b : Tree) (j : ℕ) (p : Pairs) (said : List ℕ) (q : Pairs) (said' : List ℕ) :
    Type 0 where
  pub first : ℕ
  pub second : ℕ
  pub puts : PutsPair first second j p said q said'
  pub first_at : IsAt trees first a
  pub second_at : IsAt trees second b

-- What a constraint asks for was put behind the others.
abbrev pub AddsAsked : List Tree → Constraint → ℕ → Pairs → List ℕ → Pairs → List ℕ → Type 0
AddsAsked trees (outlives_constraint a b) j p said q said' = AddsPair trees a b j p said q said'
AddsAsked trees (equal_constraint a b) j p said q said' =
    (m : Pairs) × ((mid : List ℕ) × AddsPair trees a b j p said m mid × AddsPair trees b a j m mid q said')

-- No pairs.
pub record AreNone (p : Pairs) (said : List ℕ) : Type 0 where
  pub no_longer : p.longer.items ≡ []
  pub no_shorter : p.shorter.items ≡ []
  pub none_said : said ≡ []

-- No regions, and no pairs.
pub record IsEmpty {Key : Type 0} (keys : List (RegionKey Key)) (asked : Pairs) (said : List ℕ) (known : Pairs)
    (numbers : List ℕ) : Type 0 where
  pub no_region : keys ≡ []
  pub none_asked : AreNone asked said
  pub none_known : AreNone known numbers

-- The pair at a place is of two regions.
pub record IsPairAt (trees : List Tree) (p : Pairs) (k : ℕ) (a b : Tree) : Type 0 where
  pub below : k < length p.shorter.items
  pub longer_at : IsAt trees (get_or p.longer.items k 0) a
  pub shorter_at : IsAt trees (get_or p.shorter.items k 0) b

-- It is one that a constraint asks for, which has the number that stands there.
pub record IsAsked (qs : List Constraint) (trees : List Tree) (p : Pairs) (said : List ℕ) (k : ℕ) : Type 0 where
  pub longer : Tree
  pub shorter : Tree
  pub pair : IsPairAt trees p k longer shorter
  pub asks : Asks qs (get_or said k 0) longer shorter

-- The pairs are just those that the first constraints ask for.
pub record HaveRead (qs : List Constraint) (bound : ℕ) (trees : List Tree) (p : Pairs) (said : List ℕ) : Type 0 where
  pub each_longer : length p.longer.items ≡ length p.shorter.items
  pub each_said : length said ≡ length p.shorter.items
  pub each : (k : ℕ) → k < length p.shorter.items → IsAsked qs trees p said k
  pub covered : (j : ℕ) → j < bound → (a b : Tree) → Asks qs j a b → (k : ℕ) × IsPairAt trees p k a b

-- The pairs of constraints and of facts, over numbered regions, of which 'static is the first.
pub record IsProblem (facts : List (Tree × Tree)) (st : Store) (trees : List Tree) (standings : List Standing)
    (asked : Pairs) (said : List ℕ) (known : Pairs) : Type 0 where
  pub are_numbered : AreNumbered st trees standings
  pub mentioned : All (IsMentioned facts st) trees
  pub static_first : IsAt trees 0 static
  pub read : HaveRead st.constraints (length st.constraints) trees asked said
  pub stated : (numbers : List ℕ) × HaveRead (map stating facts) (length facts) trees known numbers

-- The regions of keys, as a context's keys have trees.
abbrev pub trees_of : {Key Id Name : Type 0} → Context Key Id Name → List (RegionKey Key) → List Tree
trees_of c keys = map (c.meaning).region keys

-- What keys and constraints on them are read as: regions, and what is asked of these. Keys of known regions are equal
-- just where these are, and a constraint that is the context's is on regions.
pub record Reader {Key : Type 0} (eq : RegionKey Key → RegionKey Key → Bool) : Type 0 where
  pub store : Store
  pub region : RegionKey Key → Tree
  pub asked : RegionConstraint Key → Constraint
  pub equal_as_trees : AreEqualAsTrees region eq
  pub of_outlives : (a b : RegionKey Key) →
      asked (Outlives (record { 0 = Lifetime a; 1 = b })) ≡ outlives_constraint (region a) (region b)
  pub of_equal : (a b : RegionKey Key) →
      asked (Eq (record { 0 = a; 1 = b })) ≡ equal_constraint (region a) (region b)
  pub no_type : (k : TyKey Key) (b : RegionKey Key) →
      ConstraintIn store (asked (Outlives (record { 0 = Ty k; 1 = b }))) → ⊥
  pub no_const : (k : ConstKey Key) (b : RegionKey Key) →
      ConstraintIn store (asked (Outlives (record { 0 = Const k; 1 = b }))) → ⊥

module _ {Key : Type 0} {eq : RegionKey Key → RegionKey Key → Bool} (r : Reader eq) where
  -- The regions of keys.
  abbrev pub read_trees : List (RegionKey Key) → List Tree
  read_trees keys = map r.region keys

  -- The regions of facts.
  abbrev pub read_facts : List (OutlivesPredicate Key (RegionKey Key)) → List (Tree × Tree)
  read_facts facts = map (λ f. (r.region f.0, r.region f.1)) facts

  abbrev pub IsKeyIn : RegionKey Key → Type 0
  IsKeyIn a = IsRegionIn r.store (r.region a)

  abbrev pub IsFactOn : OutlivesPredicate Key (RegionKey Key) → Type 0
  IsFactOn f = IsKeyIn f.0 × IsKeyIn f.1

  abbrev pub IsAskedIn : RegionConstraint Key → Type 0
  IsAskedIn q = ConstraintIn r.store (r.asked q)

  -- A region has this number: it had it, or got it.
  pub record IsNumbered (a : RegionKey Key) (keys keys' : List (RegionKey Key)) (number : ℕ) : Type 0 where
    pub numbers : HaveNumbers r.store (read_trees keys')
    pub more : GrowsBy (λ t. t ≡ r.region a) (read_trees keys) (read_trees keys')
    pub number_is : IsAt (read_trees keys') number (r.region a)

  -- A pair of two regions was put behind the others.
  pub record PairIsRead (a b : RegionKey Key) (j : ℕ) (keys : List (RegionKey Key)) (p : Pairs) (said : List ℕ)
      (keys' : List (RegionKey Key)) (q : Pairs) (said' : List ℕ) : Type 0 where
    pub numbers : HaveNumbers r.store (read_trees keys')
    pub more : GrowsBy (λ t. (t ≡ r.region a) ⊎ (t ≡ r.region b)) (read_trees keys) (read_trees keys')
    pub adds : AddsPair (read_trees keys') (r.region a) (r.region b) j p said q said'

  -- What a constraint asks for was.
  pub record ConstraintIsRead (asks : Constraint) (j : ℕ) (keys : List (RegionKey Key)) (p : Pairs) (said : List ℕ)
      (keys' : List (RegionKey Key)) (q : Pairs) (said' : List ℕ) : Type 0 where
    pub numbers : HaveNumbers r.store (read_trees keys')
    pub more : GrowsBy (IsOf asks) (read_trees keys) (read_trees keys')
    pub adds : AddsAsked (read_trees keys') asks j p said q said'

  -- What the first constraints ask for was, and no other regions have got numbers.
  pub record AreRead (qs : List Constraint) (bound : ℕ) (keys keys' : List (RegionKey Key)) (p : Pairs)
      (said : List ℕ) : Type 0 where
    pub numbers : HaveNumbers r.store (read_trees keys')
    pub more : GrowsBy (IsOfOne qs) (read_trees keys) (read_trees keys')
    pub read : HaveRead qs bound (read_trees keys') p said

  -- These are the key of 'static, the constraints that were recorded, and facts on regions of the context.
  pub record AreOf (re_static : RegionKey Key) (constraints : List (RegionConstraint Key))
      (facts : List (OutlivesPredicate Key (RegionKey Key))) : Type 0 where
    pub is_static : r.region re_static ≡ static
    pub recorded : map r.asked constraints ≡ (r.store).constraints
    pub constraints_in : All IsAskedIn constraints
    pub facts_in : All IsFactOn facts

-- The same, however keys are read.
module _ {Key : Type 0} (eq : RegionKey Key → RegionKey Key → Bool) where
  abbrev pub GetsNumber : RegionKey Key → List (RegionKey Key) → List (RegionKey Key) → ℕ → Type 0
  GetsNumber a keys keys' number = (r : Reader eq) → HaveNumbers r.store (read_trees r keys) → IsKeyIn r a →
      IsNumbered r a keys keys' number

  abbrev pub ReadsPair : RegionKey Key → RegionKey Key → ℕ → List (RegionKey Key) → Pairs → List ℕ →
      List (RegionKey Key) → Pairs → List ℕ → Type 0
  ReadsPair a b j keys p said keys' q said' = (r : Reader eq) → HaveNumbers r.store (read_trees r keys) →
      IsKeyIn r a → IsKeyIn r b → PairIsRead r a b j keys p said keys' q said'

  abbrev pub ReadsConstraint : RegionConstraint Key → ℕ → List (RegionKey Key) → Pairs → List ℕ →
      List (RegionKey Key) → Pairs → List ℕ → Type 0
  ReadsConstraint asks j keys p said keys' q said' = (r : Reader eq) → HaveNumbers r.store (read_trees r keys) →
      IsAskedIn r asks → ConstraintIsRead r (r.asked asks) j keys p said keys' q said'

  abbrev pub ReadsConstraints : List (RegionConstraint Key) → ℕ → List (RegionKey Key) → List (RegionKey Key) → Pairs →
      List ℕ → Type 0
  ReadsConstraints constraints count keys keys' p said = (r : Reader eq) → HaveNumbers r.store (read_trees r keys) →
      All (IsAskedIn r) constraints → AreRead r (map r.asked constraints) count keys keys' p said

  abbrev pub ReadsFacts : List (OutlivesPredicate Key (RegionKey Key)) → ℕ → List (RegionKey Key) →
      List (RegionKey Key) → Pairs → List ℕ → Type 0
  ReadsFacts facts count keys keys' p said = (r : Reader eq) → HaveNumbers r.store (read_trees r keys) →
      All (IsFactOn r) facts → AreRead r (map stating (read_facts r facts)) count keys keys' p said

  -- Once it is known what each region is, the pairs are a problem.
  abbrev pub ReadsProblem : RegionKey Key → List (RegionConstraint Key) → List (OutlivesPredicate Key (RegionKey Key)) →
      List (RegionKey Key) → Pairs → List ℕ → Pairs → Type 0
  ReadsProblem re_static constraints facts keys asked said known = (r : Reader eq) →
      AreOf r re_static constraints facts → (standings : List Standing) →
      standings ≡ map (standing_in r.store) (read_trees r keys) →
      IsProblem (read_facts r facts) r.store (read_trees r keys) standings asked said known
