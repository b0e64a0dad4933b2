-- What keys of terms mean.
use Rattle.std.specs.Prelude.{◌≡◌, ℕ, List, Option, Some, IsTrue, IfSome, map, slice_get, slice_range}
use Rattle.relation_terms.specs.Trees.{Tree, known, list_tree}
use Rattle.relation_terms.specs.Meaning.{Meaning, arg_tree, kind_tree, region_tree, const_tree, object_predicate_tree}
use Rattle.relation_terms.specs.Meaning.{bound_kinds}
use Rattle.relation_terms.specs.declared.terms.binder.BoundVariableKind.{BoundVariableKind}
use Rattle.relation_terms.specs.declared.terms.ty_kind.TyKind.{TyKind}
use Rattle.relation_terms.specs.declared.terms.region_kind.RegionKind.{RegionKind}
use Rattle.relation_terms.specs.declared.terms.const_kind.ConstKind.{ConstKind}
use Rattle.relation_terms.specs.declared.terms.generic_arg.GenericArgKind.{GenericArgKind}
use Rattle.relation_terms.specs.declared.terms.generic_arg.GenericArgKind.TheVariants.{Ty, Const}
use Rattle.relation_terms.specs.declared.terms.generic_arg.TermKind.{TermKind}
use Rattle.relation_terms.specs.declared.terms.generic_arg.TermKind.TheVariants.{Ty as TyTerm, Const as ConstTerm}
use Rattle.relation_terms.specs.declared.terms.keys.ArgsKey.{ArgsKey}
use Rattle.text_terms.specs.declared.building.inner.Inner.{Inner}
use Rattle.text_terms.specs.declared.building.inner.Inner.TheVariants as inner
use Rattle.text_reading.specs.declared.naming.program.Parts.{Parts}
use Rattle.text_reading.specs.declared.naming.program.Program.{Program}
use Rattle.text_reading.specs.declared.naming.program.Term.{Term}
use Rattle.text_reading.specs.declared.reading.tree.ItemSort.{ItemSort}
use Rattle.text_terms.specs.Terms.{at, item_tree, parts_tree, text_term_tree, trees_of, variables_of}

-- Each key that is there is known, and means the tree of its number: keys of one kind, by the trees that they mean.
abbrev pub EachKnown : {K : Type 0} → (K → Tree) → List (Option K) → Type 0
EachKnown {K} tree keys = (k : ℕ) (key : K) → slice_get keys k ≡ Some (Some key) → IsTrue (known (tree key))

abbrev pub EachBuilt : {K : Type 0} → (K → Tree) → List Tree → List (Option K) → Type 0
EachBuilt {K} tree trees keys = (k : ℕ) (key : K) → slice_get keys k ≡ Some (Some key) → tree key ≡ at trees k

module _ {Key Id Name : Type 0} (m : Meaning Key Id Name) where
  -- Each key of a type, a region or a constant that is there is known.
  abbrev pub AreKnown : List (Option (GenericArgKind Key)) → Type 0
  AreKnown keys = EachKnown (arg_tree m) keys

  -- Each such key that is there means the tree of its number.
  abbrev pub AreBuilt : List Tree → List (Option (GenericArgKind Key)) → Type 0
  AreBuilt trees keys = EachBuilt (arg_tree m) trees keys

  -- The tree of a pattern, or of what a trait object implements.
  abbrev pub inner_tree : Inner Key Id → Tree
  inner_tree (inner.Pat p) = m.pat p
  inner_tree (inner.Predicate b) = object_predicate_tree m b

  -- Each of these that is there is known.
  abbrev pub AreInnerKnown : List (Option (Inner Key Id)) → Type 0
  AreInnerKnown inners = EachKnown inner_tree inners

  -- Each of these that is there means the tree of its number.
  abbrev pub AreInnerBuilt : List Tree → List (Option (Inner Key Id)) → Type 0
  AreInnerBuilt trees inners = EachBuilt inner_tree trees inners

-- The keys are those of a term's parts, each of which has one.
abbrev pub AreKeysAt : {K : Type 0} → List ℕ → List (Option K) → Parts → List K → Type 0
AreKeysAt {K} parts built p keys =
    map (slice_get built) (slice_range parts p.first p.behind) ≡ map (λ (key : K). Some (Some key)) keys

-- Where trees are those that keys mean, the variables are what the trees of a term's parts stand for.
abbrev pub BindWhereBuilt : {Key Id Name : Type 0} → Meaning Key Id Name → List ℕ →
    List (Option (GenericArgKind Key)) → Parts → List (BoundVariableKind Name) → Type 0
BindWhereBuilt m parts keys p vars = (ts : List Tree) → AreBuilt m ts keys →
    variables_of (parts_tree parts ts p) ≡ Some (bound_kinds m vars)

-- The tree of an item of a sort over these arguments.
abbrev pub item_over : {Key Id Name : Type 0} → Meaning Key Id Name → ItemSort → Id → List (GenericArgKind Key) →
    Tree
item_over m s d args = item_tree s (Some (m.id d)) (list_tree (arg_tree m) args)

-- A type or a constant as an argument.
abbrev pub term_arg : {Key : Type 0} → TermKind Key → GenericArgKind Key
term_arg (TyTerm t) = Ty t
term_arg (ConstTerm c) = Const c

-- What is made of keys, if anything is: a known key, which means what that is made of the trees that those keys mean.
abbrev pub Makes : {Key Id Name : Type 0} → Meaning Key Id Name → Meaning Key Id Name → List (Option (GenericArgKind Key)) →
    (List Tree → Tree) → Option (GenericArgKind Key) → Type 0
Makes m n keys tree result = IfSome result (λ key. IsTrue (known (arg_tree n key)) ×
    ((trees : List Tree) → AreBuilt m trees keys → arg_tree n key ≡ tree trees))

-- The same of anything that is made of keys alone.
abbrev pub MakesFrom : {Key Id Name K : Type 0} → Meaning Key Id Name → (K → Tree) → List (Option (GenericArgKind Key)) →
    (List Tree → Tree) → Option K → Type 0
MakesFrom m key_tree keys tree result = IfSome result (λ key. IsTrue (known (key_tree key)) ×
    ((trees : List Tree) → AreBuilt m trees keys → key_tree key ≡ tree trees))

-- What is made of keys, patterns and predicates, if anything is: a known one of its kind, which means what that is made
-- of the trees that those mean.
abbrev pub MakesOf : {Key Id Name K : Type 0} → Meaning Key Id Name → (K → Tree) → List (Option (GenericArgKind Key)) →
    List (Option (Inner Key Id)) → (List Tree → Tree) → Option K → Type 0
MakesOf m key_tree keys pats tree result = IfSome result (λ key. IsTrue (known (key_tree key)) ×
    ((trees : List Tree) → AreBuilt m trees keys → AreInnerBuilt m trees pats → key_tree key ≡ tree trees))

-- The pattern or the predicate that is made, if one is: a known one that means that tree.
abbrev pub MakesInner : {Key Id Name : Type 0} → Meaning Key Id Name → Tree → Option (Inner Key Id) → Type 0
MakesInner n tree result = IfSome result (λ i. IsTrue (known (inner_tree n i)) × (inner_tree n i ≡ tree))

-- What is made, if anything is: a known key that means that tree.
abbrev pub MakesTree : {Key Id Name : Type 0} → Meaning Key Id Name → Tree → Option (GenericArgKind Key) → Type 0
MakesTree n tree result = IfSome result (λ key. IsTrue (known (arg_tree n key)) × (arg_tree n key ≡ tree))

module _ {Key Id Name : Type 0} (m n : Meaning Key Id Name) where
  -- What is made of a term that is a type over a binder, whatever numbers the items and the names have.
  abbrev pub MakesBinder : List ℕ → List (Option (GenericArgKind Key)) → Term → Option (GenericArgKind Key) → Type 0
  MakesBinder parts keys x result =
      (items names : List ℕ) → Makes m n keys (λ ts. text_term_tree items names parts ts x) result

  -- The same of a term that is a trait object.
  abbrev pub MakesObject : List ℕ → List (Option (GenericArgKind Key)) → List (Option (Inner Key Id)) → Term →
      Option (GenericArgKind Key) → Type 0
  MakesObject parts keys inners x result =
      (items names : List ℕ) → MakesOf m (arg_tree n) keys inners (λ ts. text_term_tree items names parts ts x) result

  -- The same of a term that is a pattern.
  abbrev pub MakesPattern : List ℕ → List (Option (GenericArgKind Key)) → List (Option (Inner Key Id)) → Term →
      Option (Inner Key Id) → Type 0
  MakesPattern parts keys inners x result =
      (items names : List ℕ) → MakesOf m (inner_tree n) keys inners (λ ts. text_term_tree items names parts ts x) result

  -- The same of a term that is a type over a pattern, whatever parts there are.
  abbrev pub MakesPatternType : List (Option (GenericArgKind Key)) → List (Option (Inner Key Id)) → Term →
      Option (GenericArgKind Key) → Type 0
  MakesPatternType keys inners x result = (items names parts : List ℕ) →
      MakesOf m (arg_tree n) keys inners (λ ts. text_term_tree items names parts ts x) result

  -- The same of a term that is a predicate of a trait object, over items of these ids.
  abbrev pub MakesPredicate : List Id → List ℕ → List (Option (GenericArgKind Key)) → Term → Option (Inner Key Id) →
      Type 0
  MakesPredicate ids parts keys x result = (names : List ℕ) →
      MakesFrom m (inner_tree n) keys (λ ts. text_term_tree (map m.id ids) names parts ts x) result

-- From an interner to one that has grown, over ids of items and names.
module _ {C Key Id Name : Type 0} (meaning : C → Meaning Key Id Name) (old new : C) where
  -- The key that is made of a term, if one is.
  abbrev pub MakesKey : List Id → List Name → List ℕ → List (Option (GenericArgKind Key)) →
      List (Option (Inner Key Id)) → Term → Option (GenericArgKind Key) → Type 0
  MakesKey ids names parts keys inners x result = MakesOf (meaning old) (arg_tree (meaning new)) keys inners
      (λ ts. text_term_tree (map (meaning old).id ids) (map (meaning old).name names) parts ts x) result

  -- The pattern or the predicate that is made of a term, if one is.
  abbrev pub MakesPart : List Id → List Name → List ℕ → List (Option (GenericArgKind Key)) →
      List (Option (Inner Key Id)) → Term → Option (Inner Key Id) → Type 0
  MakesPart ids names parts keys inners x result = MakesOf (meaning old) (inner_tree (meaning new)) keys inners
      (λ ts. text_term_tree (map (meaning old).id ids) (map (meaning old).name names) parts ts x) result

  -- Each key that is there means the tree of its term in the program.
  abbrev pub AreKeysOf : List Id → List Name → Program → List (Option (GenericArgKind Key)) → Type 0
  AreKeysOf ids names p keys = AreBuilt (meaning new)
      (trees_of (map (meaning old).id ids) (map (meaning old).name names) p.parts.items p.terms.items) keys

module _ (Key Id : Type 0) {Name : Type 0} (names : List Name) (x : Term) where
  -- The form is that of a term which has no parts: of a type, of a region, of a constant.
  abbrev pub IsFormOf : TyKind Key Id Name → Type 0
  IsFormOf form = (m : Meaning Key Id Name) → IsTrue (known (kind_tree m form)) ×
      ((items parts : List ℕ) (ts : List Tree) → kind_tree m form ≡ text_term_tree items (map m.name names) parts ts x)

  abbrev pub IsRegionOf : RegionKind Name → Type 0
  IsRegionOf form = (m : Meaning Key Id Name) (items parts : List ℕ) (ts : List Tree) →
      region_tree m form ≡ text_term_tree items (map m.name names) parts ts x

  abbrev pub IsConstOf : ConstKind Key Id Name → Type 0
  IsConstOf form = (m : Meaning Key Id Name) → IsTrue (known (const_tree m form)) ×
      ((items parts : List ℕ) (ts : List Tree) → const_tree m form ≡ text_term_tree items (map m.name names) parts ts x)

-- The form is that of an item of a sort over known arguments: a type, and a constant.
module _ (Key Id Name : Type 0) (s : ItemSort) (d : Id) (a : ArgsKey Key) where
  abbrev pub IsItemForm : TyKind Key Id Name → Type 0
  IsItemForm form = (m : Meaning Key Id Name) → (IsTrue (known (m.args a)) → IsTrue (known (kind_tree m form))) ×
      (kind_tree m form ≡ item_tree s (Some (m.id d)) (m.args a))

  abbrev pub IsConstItemForm : ConstKind Key Id Name → Type 0
  IsConstItemForm form = (m : Meaning Key Id Name) →
      (IsTrue (known (m.args a)) → IsTrue (known (const_tree m form))) ×
      (const_tree m form ≡ item_tree s (Some (m.id d)) (m.args a))
