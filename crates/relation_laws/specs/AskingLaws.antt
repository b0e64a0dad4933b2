-- Laws of what is asked for, and of what is recorded of it.
use Rattle.std.specs.Prelude.{◌≡◌, ◌↔◌, ℕ, suc, [], Some, None, Contains}
use Rattle.term_enums.specs.declared.Variance.{Variance}
use Rattle.term_enums.specs.declared.Variance.TheVariants.{Bivariant}
use Rattle.relation_terms.specs.Heads.{Head, region_sort}
use Rattle.relation_terms.specs.Trees.{Tree, node, count, nth, Leaves}
use Rattle.relation_semantics.specs.Relation.{Items, Interpretation, part_at, plain, IsRelatedHead, IsValueLeaf, sort_of}
use Rattle.relation_semantics.specs.Stores.{Constraint}
use Rattle.relation_semantics.specs.Asking.{Wanted, a_constraint, a_goal, IsTrivial, region_at, HaveAlias}
use Rattle.relation_semantics.specs.Asking.{AsksFor, PartsAsk, HasNoAlias}
use Rattle.relation_semantics.specs.Lawful.{State, Pair, RecordsJust, items_in}
use Rattle.relation_semantics.specs.Recording.{AreBare, FrontAsks, IsJustAsked}
use Rattle.context_relation.specs.Completing.{AskedHolds}

-- Nothing is asked for at bivariance.
abbrev pub NothingAtBivariance : Type 0
NothingAtBivariance = (c : Items) (z : Wanted) (a b : Tree) → AsksFor c z Bivariant a b → ⊥

-- Of one term only what need not be recorded is.
abbrev pub ItselfIsTrivial : Type 0
ItselfIsTrivial = (c : Items) (z : Wanted) (v : Variance) (a : Tree) → AsksFor c z v a a → IsTrivial z

-- No goal is asked for of terms without aliases.
abbrev pub NoGoalWithoutAlias : Type 0
NoGoalWithoutAlias = (c : Items) (p : Tree) (v : Variance) (a b : Tree) → AsksFor c (a_goal p) v a b → HasNoAlias a →
    HasNoAlias b → ⊥

-- Two regions ask for just one constraint.
abbrev pub RegionsAskOne : Type 0
RegionsAskOne = (c : Items) (z : Wanted) (v : Variance) (a b : Tree) (k : Constraint) → sort_of a ≡ region_sort →
    sort_of b ≡ region_sort → region_at v a b ≡ Some k → (AsksFor c z v a b ↔ (z ≡ a_constraint k))

-- Two forms that are related by their parts, neither an alias, ask for just what their parts do.
abbrev pub FormsAskByParts : Type 0
FormsAskByParts = (c : Items) (z : Wanted) (v : Variance) (h k : Head) (ts us : Tree) →
    (HaveAlias (node h ts) (node k us) → ⊥) → IsRelatedHead h → plain h ≡ plain k →
    (AsksFor c z v (node h ts) (node k us) ↔ PartsAsk c h v ts us z)

-- For any two terms without variables there is an interpretation in which all regions outlive each other and what is
-- asked of aliases is so.
abbrev pub SomeInterpretation : Type 0
SomeInterpretation = (c : Items) (e : Tree) (v : Variance) (a b : Tree) → Leaves IsValueLeaf a → Leaves IsValueLeaf b →
    (w : Interpretation) × (w.outlives ≡ None) × AskedHolds c w e v a b

-- One more part was related, and just what it asks for was recorded.
abbrev pub FrontRecordsOn : {S Key Id Name : Type 0} → (S → State Key Id Name) → Type 0
FrontRecordsOn {S = S} state = (c : Items) (h : Head) (v : Variance) (i : ℕ) (xs ys : Tree) (r s q : S) →
    (state q).kept.environment ≡ (state s).kept.environment →
    RecordsJust (FrontAsks c h v i xs ys) (state r) (state s) →
    RecordsJust (λ z. AsksFor c z (part_at c h i v) (nth i xs) (nth i ys)) (state s) (state q) →
    RecordsJust (FrontAsks c h v (suc i) xs ys) (state r) (state q)

-- The parts of two forms were related in a row, each recording just what it asks for: so were the forms.
abbrev pub PartsRecord : {S Key Id Name : Type 0} → (S → State Key Id Name) → Type 0
PartsRecord {S = S} state = (c : Items) (h k : Head) (v : Variance) (ts us : Tree) (r q : S) →
    (HaveAlias (node h ts) (node k us) → ⊥) → IsRelatedHead h → plain h ≡ plain k → count ts ≡ count us →
    RecordsJust (FrontAsks c h v (count ts) ts us) (state r) (state q) →
    RecordsJust (λ z. AsksFor c z v (node h ts) (node k us)) (state r) (state q)

-- A bare pair that is remembered records nothing again.
abbrev pub RememberedRecords : {S Key Id Name : Type 0} → (S → State Key Id Name) → Type 0
RememberedRecords {S = S} {Key = Key} state = (r : S) (p : Pair Key) → Contains (state r).remembered p →
    AreBare (state r).kept.settings (((state r).meaning).ty p.1) (((state r).meaning).ty p.2) →
    RecordsJust (λ z. AsksFor (items_in (state r)) z p.0 (((state r).meaning).ty p.1) (((state r).meaning).ty p.2))
    (state r) (state r)

-- From an empty memory on just what two terms ask for was added.
abbrev pub AddsWhatIsAsked : {S Key Id Name : Type 0} → (S → State Key Id Name) → Type 0
AddsWhatIsAsked {S = S} state = (c : Items) (v : Variance) (a b : Tree) (r q : S) → (state r).remembered ≡ [] →
    (state r).goals ≡ [] → RecordsJust (λ z. AsksFor c z v a b) (state r) (state q) →
    IsJustAsked c (state q).kept.environment v a b ((state r).store).constraints ((state q).store).constraints
    (state q).goals
