-- What a program lets its traits state.
use Rattle.std.specs.Prelude.{◌≡◌, ◌<◌, ◌&&◌, ◌||◌, ℕ, Bool, true, false, not, cond, nat_eq, IsTrue}
use Rattle.std.specs.Prelude.{List, [], ◌∷◌, map, slice_get, slice_range, Option, Some, None, IfSome}
use Rattle.std.specs.Global.{Vec}
use Rattle.std.specs.List.{All, list_any}
use Rattle.relation_terms.specs.Trees.{Tree, known}
use Rattle.relation_terms.specs.Meaning.{Meaning, arg_tree}
use Rattle.relation_terms.specs.Owned.{bound_tree}
use Rattle.relation_terms.specs.declared.predicate.trait_ref.TraitRef.{TraitRef}
use Rattle.relation_terms.specs.declared.terms.binder.Binder.{Binder}
use Rattle.relation_terms.specs.declared.terms.generic_arg.GenericArgKind.{GenericArgKind}
use Rattle.relation_terms.specs.declared.terms.keys.ClauseKey.{ClauseKey}
use Rattle.reference_interner.specs.declared.RefInterner.{RefInterner}
use Rattle.reference_interner.specs.declared.keys.ItemId.{ItemId}
use Rattle.reference_interner.specs.declared.keys.NodeKey.{NodeKey}
use Rattle.reference_interner.specs.declared.keys.SymbolId.{SymbolId}
use Rattle.reference_interner.specs.Adding.{meaning_in}
use Rattle.text_reading.specs.declared.reading.tree.StatedKind.{StatedKind}
use Rattle.text_reading.specs.declared.reading.tree.StatedKind.TheVariants as kind
use Rattle.text_reading.specs.declared.naming.program.Clause.{Clause}
use Rattle.text_reading.specs.declared.naming.program.Program.{Program}
use Rattle.text_reading.specs.declared.naming.program.Stated.{Stated}
use Rattle.text_terms.specs.Built.{AreBuilt}
use Rattle.text_terms.specs.Terms.{trees_of}
use Rattle.text_clauses.specs.Clauses.{clause_tree, bound_clause_tree}

-- What a statement says: super-predicates, all that its trait implies, const bounds.
abbrev pub is_super : StatedKind → Bool
is_super kind.Super = true
is_super k = false

abbrev pub is_implied : StatedKind → Bool
is_implied kind.Implied = true
is_implied k = false

abbrev pub is_const : StatedKind → Bool
is_const kind.Const = true
is_const k = false

-- The number is there, and that one.
abbrev pub is_number : ℕ → Option ℕ → Bool
is_number d None = false
is_number d (Some e) = nat_eq e d

-- The last of a list that passes a test; where none does, the one that is given.
abbrev pub last_that : {A : Type 0} → (A → Bool) → Option A → List A → Option A
last_that f o [] = o
last_that f o (x ∷ xs) = last_that f (cond (f x) (Some x) o) xs

-- Over the numbers of a program's items, and of its names.
module _ (items names : List ℕ) (p : Program) where
  -- The trees of the program's terms, and the predicates of a statement.
  abbrev pub terms_said : List Tree
  terms_said = trees_of items names p.parts.items p.terms.items

  abbrev pub predicates_said : Stated → List Clause
  predicates_said s = slice_range p.clauses.items s.clauses.first s.clauses.behind

  -- What a statement says as clauses, and as const bounds.
  abbrev pub clauses_said : Stated → List Tree
  clauses_said s = map (clause_tree items names p.parts.items terms_said) (predicates_said s)

  abbrev pub bounds_said : Stated → List Tree
  bounds_said s = map (bound_clause_tree items p.parts.items terms_said) (predicates_said s)

-- A statement says what its trait implies: as just that, or as super-predicates, where the program says no more.
abbrev pub implies : List Stated → Stated → Bool
implies all s = is_implied s.kind ||
    (is_super s.kind && not (list_any (λ t. nat_eq t.of s.of && is_implied t.kind) all))

-- What is stated after is what the statement says: each of it is known, and they are those trees. Where there is no
-- statement, it is what was stated before.
abbrev pub IsSaid : {K S : Type 0} → (K → Tree) → (S → List Tree) → List K → List K → Option S → Type 0
IsSaid tree said before after None = after ≡ before
IsSaid tree said before after (Some s) = All (λ k. IsTrue (known (tree k))) after × (map tree after ≡ said s)

-- From one meaning to another: what the trait of a number states is what the last statement of it says, of those in a
-- list; and what it stated before, where none of them is of it. It has its generic parameters.
pub record StatesLast {Key Id Name : Type 0} (m n : Meaning Key Id Name) (items names : List ℕ) (p : Program)
    (list : List Stated) (d : ℕ) : Type 0 where
  pub generics : n.generics d ≡ m.generics d
  pub supers : IsSaid n.clause (clauses_said items names p) ((m.tables).super_predicates d)
      ((n.tables).super_predicates d)
      (last_that (λ s. is_super s.kind && is_number d (slice_get items s.of)) None list)
  pub implied : IsSaid n.clause (clauses_said items names p) ((m.tables).implied_predicates d)
      ((n.tables).implied_predicates d)
      (last_that (λ s. implies p.stated.items s && is_number d (slice_get items s.of)) None list)
  pub bounds : IsSaid (bound_tree n) (bounds_said items names p) ((m.tables).const_bounds d)
      ((n.tables).const_bounds d)
      (last_that (λ s. is_const s.kind && is_number d (slice_get items s.of)) None list)

-- What is known of terms stays so, whatever items state: its trees, and the numbers of ids and names.
pub record TermsStay {Key Id Name : Type 0} (m n : Meaning Key Id Name) : Type 0 where
  pub arg : (k : GenericArgKind Key) → IsTrue (known (arg_tree m k)) → arg_tree n k ≡ arg_tree m k
  pub clause : (k : ClauseKey Key) → IsTrue (known (m.clause k)) → n.clause k ≡ m.clause k
  pub bound : (b : Binder Key (TraitRef Key Id)) → IsTrue (known (bound_tree m b)) → bound_tree n b ≡ bound_tree m b
  pub id : (d : Id) → n.id d ≡ m.id d
  pub name : (s : Name) → n.name s ≡ m.name s

-- What stands after of the trait of a number: what was put for the trait of one, if anything was, or what stood before.
abbrev pub put_for : {A : Type 0} → ℕ → ℕ → Option A → A → A
put_for n d None old = old
put_for n d (Some x) old = cond (nat_eq n d) x old

-- What is given where a test says so.
abbrev pub where_said : {A : Type 0} → Bool → A → Option A
where_said b x = cond b (Some x) None

-- From one interner to another: of the trait of a number its super-predicates, what it implies and its const bounds are
-- those that were put for the trait of one, where some were. It has its generic parameters.
pub record PutAt (old new : RefInterner) (n : ℕ) (supers_put implied_put : Option (List (ClauseKey NodeKey)))
    (bounds_put : Option (List (Binder NodeKey (TraitRef NodeKey ItemId)))) (d : ℕ) : Type 0 where
  pub generics : (meaning_in new).generics d ≡ (meaning_in old).generics d
  pub supers : ((meaning_in new).tables).super_predicates d ≡
      put_for n d supers_put (((meaning_in old).tables).super_predicates d)
  pub implied : ((meaning_in new).tables).implied_predicates d ≡
      put_for n d implied_put (((meaning_in old).tables).implied_predicates d)
  pub bounds : ((meaning_in new).tables).const_bounds d ≡
      put_for n d bounds_put (((meaning_in old).tables).const_bounds d)

-- The same of each item that has generic parameters, as a trait has.
abbrev pub Puts : RefInterner → RefInterner → ℕ → Option (List (ClauseKey NodeKey)) →
    Option (List (ClauseKey NodeKey)) → Option (List (Binder NodeKey (TraitRef NodeKey ItemId))) → Type 0
Puts old new n supers implied bounds =
    (d : ℕ) → 0 < (meaning_in old).generics d → PutAt old new n supers implied bounds d

-- What traits state stays.
abbrev pub KeepsStatements : RefInterner → RefInterner → Type 0
KeepsStatements old new = Puts old new 0 None None None

-- The const bounds that are made of predicates, if any are: those of their trees, in order.
abbrev pub MakesBounds : List ItemId → List ℕ → List (Option (GenericArgKind NodeKey)) → List Clause → RefInterner →
    RefInterner → Option (Vec (Binder NodeKey (TraitRef NodeKey ItemId))) → Type 0
MakesBounds ids parts keys cs old new result = IfSome result (λ bs. (ts : List Tree) →
    AreBuilt (meaning_in old) ts keys →
    map (bound_tree (meaning_in new)) bs.items ≡ map (bound_clause_tree (map (meaning_in old).id ids) parts ts) cs)

-- From one interner to another, over trees of terms: of the trait of a number the const bounds are those that
-- predicates say of the trait of one; all else that it states is what it was.
pub record BoundsAt (old new : RefInterner) (n : ℕ) (tree : Clause → Tree) (cs : List Clause) (d : ℕ) : Type 0 where
  pub generics : (meaning_in new).generics d ≡ (meaning_in old).generics d
  pub supers : ((meaning_in new).tables).super_predicates d ≡ ((meaning_in old).tables).super_predicates d
  pub implied : ((meaning_in new).tables).implied_predicates d ≡ ((meaning_in old).tables).implied_predicates d
  pub bounds : IsSaid (bound_tree (meaning_in new)) (map tree) (((meaning_in old).tables).const_bounds d)
      (((meaning_in new).tables).const_bounds d) (cond (nat_eq n d) (Some cs) None)

abbrev pub StatesBounds : List ItemId → List ℕ → List (Option (GenericArgKind NodeKey)) → List Clause → ℕ →
    RefInterner → RefInterner → Type 0
StatesBounds ids parts keys cs n old new = (ts : List Tree) → AreBuilt (meaning_in old) ts keys → (d : ℕ) →
    0 < (meaning_in old).generics d →
    BoundsAt old new n (bound_clause_tree (map (meaning_in old).id ids) parts ts) cs d

-- Each item that has generic parameters, as a trait has, states what the last statement of it says.
abbrev pub StatesEach : List ItemId → List SymbolId → Program → List Stated → RefInterner → RefInterner → Type 0
StatesEach ids names p list old new =
    let m = meaning_in old in
    (d : ℕ) → 0 < m.generics d → StatesLast m (meaning_in new) (map m.id ids) (map m.name names) p list d

-- The same of one statement, over keys that mean the program's terms.
abbrev pub StatesOne : List ItemId → List SymbolId → Program → List (Option (GenericArgKind NodeKey)) → Stated →
    RefInterner → RefInterner → Type 0
StatesOne ids names p keys s old new =
    let m = meaning_in old in
    AreBuilt m (terms_said (map m.id ids) (map m.name names) p) keys → StatesEach ids names p (s ∷ []) old new

-- The traits of a program state what it says of them.
abbrev pub StatesAll : List ItemId → List SymbolId → Program → RefInterner → RefInterner → Type 0
StatesAll ids names p old new = StatesEach ids names p p.stated.items old new
