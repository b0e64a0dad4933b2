-- Laws of assigning, and of what steps and relating calls come to one after another.
use Rattle.std.specs.Prelude.{◌≡◌, ◌≢◌, ℕ, suc, List, [], ◌++◌, map, All, Some}
use Rattle.term_enums.specs.declared.Variance.{Variance}
use Rattle.term_enums.specs.declared.Variance.TheVariants.{Covariant, Contravariant, Invariant}
use Rattle.term_enums.specs.declared.Variance.TheVariants.{Bivariant}
use Rattle.relation_terms.specs.Heads.{BoundKind, VarKind, Head, variable}
use Rattle.relation_terms.specs.Trees.{Tree, leaf, node, bind, nil, cons, Assign, apply, inst, Leaves, Occurs, IsList}
use Rattle.relation_terms.specs.Trees.{count, nth}
use Rattle.relation_semantics.specs.Relation.{Items, Interpretation, Way, at, parts, second_opened, first_opened, part_at}
use Rattle.relation_semantics.specs.Relation.{plain, IsRelatedHead, IsValueLeaf, StaysWithin}
use Rattle.relation_semantics.specs.Stores.{Store, IsMade, IsNamable, IsAssignment, IsInScope, InContext, OnlyShrinks}
use Rattle.relation_semantics.specs.Stores.{MeetsBindings, bound_term, resolved}
use Rattle.relation_semantics.specs.Goals.{Goal, Holds, Relates}
use Rattle.relation_semantics.specs.Steps.{EntersForall, InstantiatesBinder, Instantiates, LacksAliases}
use Rattle.relation_semantics.specs.Outcomes.{Outcome, StepsTo, NeverOne, Exact, ExactStep, NoUnifier, Front, ExactFront}
use Rattle.relation_semantics.specs.Headline.{KeepsUnifiers}

-- A variable-free term is its own value, so assigning values twice changes nothing more.
abbrev pub AssigningTwice : Type 0
AssigningTwice = (s s' : Assign) (t : Tree) → Leaves IsValueLeaf (apply s t) → apply s' (apply s t) ≡ apply s t

-- Putting trees for a binder's variables commutes with assigning values that bind nothing outside themselves.
abbrev pub InstantiatingAssigns : Type 0
InstantiatingAssigns = (s : Assign) (ts : List Tree) (depth : ℕ) (t : Tree) →
    ((k : VarKind) (n : ℕ) → Occurs k n t → StaysWithin 0 (s k n)) →
    apply s (inst ts depth t) ≡ inst (map (apply s) ts) depth (apply s t)

-- No assignment makes a variable equal to a larger term in which it stands.
abbrev pub OccursCheck : Type 0
OccursCheck = (s : Assign) (k : VarKind) (n : ℕ) (t : Tree) → Occurs k n t → t ≢ leaf (variable k n) →
    s k n ≢ apply s t

-- Nor, where its bindings are met, to one that comes to such a term.
abbrev pub CyclesDoNotUnify : Type 0
CyclesDoNotUnify = (st : Store) (k : VarKind) (n : ℕ) (t : Tree) → Occurs k n (apply (resolved st) t) →
    apply (resolved st) t ≢ leaf (variable k n) → (s : Assign) → MeetsBindings st s → s k n ≡ apply s t → ⊥

-- The value of a term in a universe's scope names only placeholders that the universe can.
abbrev pub ValuesAreNamable : Type 0
ValuesAreNamable = (st : Store) (s : Assign) (u : ℕ) (t : Tree) → IsAssignment st s → Leaves (IsInScope st u) t →
    Leaves (IsNamable u) (apply s t)

-- What was shown of two terms stays shown when fewer assignments satisfy and more is asked.
abbrev pub RelatesLater : Type 0
RelatesLater = (c : Items) (before after : Store) (goals more : List Goal) (e : Tree) (v : Variance) (a b : Tree) →
    OnlyShrinks before after → ((w : Interpretation) (s : Assign) → All (Holds c w s) more →
    All (Holds c w s) goals) → Relates c before goals e v a b → Relates c after more e v a b

-- So it does when the list of goals grows.
abbrev pub RelatesUnderMore : Type 0
RelatesUnderMore = (c : Items) (before after : Store) (goals more : List Goal) (e : Tree) (v : Variance) (a b : Tree) →
    OnlyShrinks before after → Relates c before goals e v a b → Relates c after (goals ++ more) e v a b

-- Relating the first parts and then the others relates the lists.
abbrev pub PartsCompose : Type 0
PartsCompose = (c : Items) (e : Tree) (h : Head) (i : ℕ) (v : Variance) (before middle after : Store)
    (earlier first others : List Goal) (a b xs ys : Tree) → InContext before xs → InContext before ys →
    Outcome c e (at (part_at c h i v)) before middle earlier first a b →
    Outcome c e (parts h (suc i) v) middle after (earlier ++ first) others xs ys →
    Outcome c e (parts h i v) before after earlier (first ++ others) (cons a xs) (cons b ys)

-- Nothing is to be done for empty lists, and forms of one head are related by their parts.
abbrev pub NoPartsRelate : Type 0
NoPartsRelate = (c : Items) (e : Tree) (h : Head) (i : ℕ) (v : Variance) (st : Store) (earlier : List Goal) →
    Outcome c e (parts h i v) st st earlier [] nil nil

abbrev pub FormsRelate : Type 0
FormsRelate = (c : Items) (e : Tree) (h k : Head) (v : Variance) (before after : Store) (earlier added : List Goal)
    (xs ys : Tree) → IsRelatedHead h → plain h ≡ plain k →
    Outcome c e (parts h 0 v) before after earlier added xs ys →
    Outcome c e (at v) before after earlier added (node h xs) (node k ys)

-- A step and then relating the pair that is left; and where these are never one, nor were the first.
abbrev pub StepsCompose : Type 0
StepsCompose = (c : Items) (e : Tree) (way way' : Way) (before middle after : Store) (earlier first others : List Goal)
    (a b x y : Tree) → StepsTo c e before middle earlier first way a b way' x y →
    (Outcome c e way' middle after (earlier ++ first) others x y →
    Outcome c e way before after earlier (first ++ others) a b) × (NeverOne way' middle x y → NeverOne way before a b)

-- Instantiating a variable is a step from it and the source to the bound term and the source, on either side.
abbrev pub InstantiatingSteps : Type 0
InstantiatingSteps = (c : Items) (e : Tree) (v u : Variance) (before after : Store) (earlier : List Goal) (k : VarKind)
    (n : ℕ) (source term : Tree) → InContext before source → Instantiates before after u k n source term →
    StepsTo c e before after earlier [] (at v) (leaf (variable k n)) source (at v) term source ×
    StepsTo c e before after earlier [] (at v) source (leaf (variable k n)) (at v) source term

-- Opening two binders, the one with placeholders and the other with new variables, is a step to their bodies.
abbrev pub OpeningSteps : Type 0
OpeningSteps = (c : Items) (e : Tree) (v : Variance) (before middle after : Store) (earlier : List Goal)
    (ks ls : List BoundKind) (a b a' b' : Tree) →
    Leaves (IsInScope before before.universe) a → Leaves (IsInScope before before.universe) b →
    (EntersForall before middle ls b b' → InstantiatesBinder middle after ks a a' →
    StepsTo c e before after earlier [] (second_opened ks ls v) a b (at v) a' b') ×
    (EntersForall before middle ks a a' → InstantiatesBinder middle after ls b b' →
    StepsTo c e before after earlier [] (first_opened ks ls v) a b (at v) a' b')

-- One round relates binders at covariance and contravariance.
abbrev pub OneRoundRelates : Type 0
OneRoundRelates = (c : Items) (e : Tree) (before after : Store) (earlier added : List Goal) (ks ls : List BoundKind)
    (a b : Tree) →
    (Outcome c e (second_opened ks ls Covariant) before after earlier added a b →
    Outcome c e (at Covariant) before after earlier added (bind ks a) (bind ls b)) ×
    (Outcome c e (first_opened ks ls Contravariant) before after earlier added a b →
    Outcome c e (at Contravariant) before after earlier added (bind ks a) (bind ls b))

-- At invariance both rounds do.
abbrev pub TwoRoundsRelate : Type 0
TwoRoundsRelate = (c : Items) (e : Tree) (before middle after : Store) (earlier first others : List Goal)
    (ks ls : List BoundKind) (a b : Tree) → InContext before a → InContext before b →
    Outcome c e (second_opened ks ls Invariant) before middle earlier first a b →
    Outcome c e (first_opened ks ls Invariant) middle after (earlier ++ first) others a b →
    Outcome c e (at Invariant) before after earlier (first ++ others) (bind ks a) (bind ls b)

-- Where neither body uses a variable of its binder, relating the bodies relates the binders.
abbrev pub UnusedBindersRelate : Type 0
UnusedBindersRelate = (c : Items) (e : Tree) (v : Variance) (before after : Store) (earlier added : List Goal)
    (ks ls : List BoundKind) (a b : Tree) → v ≢ Bivariant →
    Leaves (IsInScope before before.universe) a → Leaves (IsInScope before before.universe) b → StaysWithin 0 a →
    StaysWithin 0 b →
    Outcome c e (at v) before after earlier added a b →
    Outcome c e (at v) before after earlier added (bind ks a) (bind ls b)

-- A loop over two lists: it begins with none of the parts, each turn adds one, and in the end all are related. Where
-- two parts are never one, nor are the lists.
abbrev pub FrontBegins : Type 0
FrontBegins = (c : Items) (e : Tree) (h : Head) (v : Variance) (st : Store) (earlier : List Goal) (xs ys : Tree) →
    Front c e h v 0 st st earlier [] xs ys

abbrev pub FrontGoesOn : Type 0
FrontGoesOn = (c : Items) (e : Tree) (h : Head) (v : Variance) (i : ℕ) (before middle after : Store)
    (earlier first others : List Goal) (xs ys : Tree) → IsList xs → IsList ys → InContext before xs →
    InContext before ys → Front c e h v i before middle earlier first xs ys →
    (Outcome c e (at (part_at c h i v)) middle after (earlier ++ first) others (nth i xs) (nth i ys) →
    Front c e h v (suc i) before after earlier (first ++ others) xs ys) ×
    (NeverOne (at (part_at c h i v)) middle (nth i xs) (nth i ys) → NeverOne (parts h 0 v) before xs ys)

abbrev pub FrontEnds : Type 0
FrontEnds = (c : Items) (e : Tree) (h : Head) (v : Variance) (before after : Store) (earlier added : List Goal)
    (xs ys : Tree) → IsList xs → IsList ys → count xs ≡ count ys →
    Front c e h v (count xs) before after earlier added xs ys →
    Outcome c e (parts h 0 v) before after earlier added xs ys

-- The same of exactness.
abbrev pub ExactsCompose : Type 0
ExactsCompose = (before middle after : Store) (a b xs ys : Tree) → InContext before xs → InContext before ys →
    Exact before middle a b → Exact middle after xs ys → Exact before after (cons a xs) (cons b ys)

abbrev pub ExactStepsCompose : Type 0
ExactStepsCompose = (before middle after : Store) (a b x y : Tree) → ExactStep before middle a b x y →
    (Exact middle after x y → Exact before after a b) × (NoUnifier middle x y → NoUnifier before a b)

abbrev pub InstantiatingIsExactStep : Type 0
InstantiatingIsExactStep = (u : Variance) (before after : Store) (k : VarKind) (n : ℕ) (source term : Tree) →
    ((j : VarKind) (i : ℕ) (t : Tree) → bound_term before j i ≡ Some t → IsMade before j i) →
    InContext before source → LacksAliases (apply (resolved before) source) →
    Instantiates before after u k n source term →
    ExactStep before after (leaf (variable k n)) source term source ×
    ExactStep before after source (leaf (variable k n)) source term

abbrev pub ExactFrontGoesOn : Type 0
ExactFrontGoesOn = (i : ℕ) (before middle after : Store) (xs ys : Tree) → IsList xs → IsList ys →
    InContext before xs → InContext before ys → ExactFront i before middle xs ys →
    (Exact middle after (nth i xs) (nth i ys) → ExactFront (suc i) before after xs ys) ×
    (NoUnifier middle (nth i xs) (nth i ys) → NoUnifier before xs ys)

abbrev pub ExactFrontEnds : Type 0
ExactFrontEnds = (before after : Store) (xs ys : Tree) → IsList xs → IsList ys → count xs ≡ count ys →
    ExactFront (count xs) before after xs ys → Exact before after xs ys

-- What is exact keeps the unifiers.
abbrev pub ExactKeepsUnifiers : Type 0
ExactKeepsUnifiers = (before after : Store) (a b : Tree) → InContext before a → InContext before b →
    Exact before after a b → KeepsUnifiers before after a b
