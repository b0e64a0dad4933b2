-- Generalising in a context: what each way out of it answers.
use Rattle.std.proofs.Common.{◌≡◌, ◌≢◌, ℕ, zero, suc, ◌<◌, ◌≤◌, refl, sym, ap, ◌∙◌, arith, subst, subst₂, Bool, IsTrue, Option, Some, List, [], ◌∷◌, length, Contains, All, Result, Ok, Err, OnOk}
use Rattle.std.proofs.lemmas.List.Elements.{All-nil, All-cons, All-contains}
use Rattle.std.specs.Result.{IsErr, IsErrAnd}
use Rattle.std.specs.HashMap.{HashMap, IsEmpty}
use Rattle.std.specs.HashSet.{HashSet}
use Rattle.term_enums.specs.declared.Variance.{Variance}
use Rattle.relation_terms.specs.declared.terms.keys.TyKey.{TyKey}
use Rattle.relation_terms.specs.declared.terms.part_kind.Part.{Part}
use Rattle.relation_terms.specs.declared.terms.part_kind.Part.TheVariants.{Ty}
use Rattle.relation_terms.specs.Heads.{region_kind, type_kind, const_kind, region_sort, type_sort, no_sort, BoundKind, bound_kind, bound_sort, VarKind, type_var, int_var, float_var, const_var, region_var, static_region, early_region, alias, Head, Leaf, variable, bound, placeholder, atom, unknown}
use Rattle.relation_terms.specs.Trees.{Tree, leaf, node, bind, nil, cons, Leaves, known, IsList, count, nth}
use Rattle.relation_terms.specs.Meaning.{Meaning, Extends}
use Rattle.relation_terms.specs.Parts.{part_tree, part_sort, tree_sort, parts_of, over}
use Rattle.relation_folds.specs.declared.error.TypeError.{TypeError}
use Rattle.relation_folds.specs.declared.error.TypeError.TheVariants.{Mismatch}
use Rattle.relation_folds.specs.declared.error.RelateFault.{RelateFault}
use Rattle.relation_folds.specs.declared.error.RelateFault.TheVariants.{Memory, Budget, Unrelated}
use Rattle.term_enums.specs.declared.StructurallyRelateAliases.{StructurallyRelateAliases}
use Rattle.term_enums.specs.declared.StructurallyRelateAliases.TheVariants.{Yes, No}
use Rattle.relation_semantics.specs.Relation.{Items, sort_of, StaysWithin}
use Rattle.relation_semantics.specs.Lawful.{items_of}
use Rattle.relation_semantics.specs.Bound.{AreBoundAs, IsWellBound}
use Rattle.relation_semantics.specs.Stores.{Store, universe_of, IsMade, IsMadeLeaf, InContext, IsSound}
use Rattle.relation_semantics.specs.Steps.{MakesVariable}
use Rattle.relation_semantics.specs.Generalising.{Stays, gives_way_to, Side, outside, inside, side_in, Met, Stage, Turn, any_part, new_part, variance_of_part, Generalised, met_before, met_first, no_type, stays, gives_way, alias_gives_way, by_parts, in_binder, no_parts, next_part, MakesUnbound, makes_none, makes_one, Obstacle, cycle, beyond, IsNoObstacle, IsSeen, IsClear, StopsAt, at_itself, at_placeholder, in_parts, in_body, in_first, in_others}
use Rattle.relation_semantics.proofs.Trees.{Leaves_map}
use Rattle.relation_semantics.proofs.NewVariables.{Adds, adds, makes_then}
use Rattle.relation_semantics.proofs.Generalising.{gives_no_number}
use Rattle.relation_semantics.proofs.GeneralisingOnce.{still_new, stops_no_clear, alias_unseen}
use Rattle.relation_semantics.proofs.GeneralisingParts.{PartsDone, none_done, one_done, form_done, body_done}
use Rattle.relation_semantics.proofs.Lists.{firsts, firsts_all, snoc}
use Rattle.relation_reference.specs.declared.context.generalising.MetKey.{MetKey}
use Rattle.occurs_check.specs.declared.fates.Fate.TheVariants.{ByParts}
use Rattle.relation_reference.specs.declared.context.variables.RefCtxt.{RefCtxt}
use Rattle.variable_tables.specs.Tables.{store_of}
use Rattle.relation_reference.specs.Generalises.{side_of, parts_side, met_at, IsClearInside, MayGoInto, AliasGivesWay, IsSure, Keeps, HasCome, Becomes, StopsAlways, BecomesAlways, GeneralisesTo, Generalises, IsGeneralisedFor}
use Rattle.occurs_check.specs.Fates.{IsFate}
use Rattle.relation_reference.proofs.Resolving.{context_part}
use Rattle.relation_reference.proofs.Recalling.{sure_grows, keeps_none, keeps_grows}
use Rattle.relation_semantics.proofs.Answering.{items_stay}
use Rattle.relation_semantics.proofs.GeneralisedLeaves.{clear_stays, clear_gives}

-- A leaf that is in the context from the start stays by what is recorded at the start.
module _ (start st : Store) (u : ℕ) (v : Variance) (still : (j : VarKind) (m : ℕ) → IsMade start j m → universe_of st j m ≡ universe_of start j m) where
  pub stays_from : (l : Leaf) → InContext start (leaf l) → Stays st u v l → Stays start u v l
  unfolding InContext
  stays_from (variable type_var m) h s = (s.0, subst (λ z. z ≤ u) (still type_var m h) s.1)
  stays_from (variable int_var m) h s = tt
  stays_from (variable float_var m) h s = tt
  stays_from (variable const_var m) h s = subst (λ z. z ≤ u) (still const_var m h) s
  stays_from (variable region_var m) h s = (s.0, subst (λ z. z ≤ u) (still region_var m h) s.1)
  stays_from (bound q d i) h s = tt
  stays_from (placeholder (bound_kind region_kind x) w i) h s = s
  stays_from (placeholder (bound_kind type_kind x) w i) h s = s
  stays_from (placeholder (bound_kind const_kind x) w i) h s = s
  stays_from (atom static_region) h s = s
  stays_from (atom (early_region i x)) h s = s
  stays_from (atom x) h s = tt
  stays_from unknown h s = tt

  pub stays_back : (l : Leaf) → InContext start (leaf l) → Stays start u v l → Stays st u v l
  unfolding InContext
  stays_back (variable type_var m) h s = (s.0, subst (λ z. z ≤ u) (sym (still type_var m h)) s.1)
  stays_back (variable int_var m) h s = tt
  stays_back (variable float_var m) h s = tt
  stays_back (variable const_var m) h s = subst (λ z. z ≤ u) (sym (still const_var m h)) s
  stays_back (variable region_var m) h s = (s.0, subst (λ z. z ≤ u) (sym (still region_var m h)) s.1)
  stays_back (bound q d i) h s = tt
  stays_back (placeholder (bound_kind region_kind x) w i) h s = s
  stays_back (placeholder (bound_kind type_kind x) w i) h s = s
  stays_back (placeholder (bound_kind const_kind x) w i) h s = s
  stays_back (atom static_region) h s = s
  stays_back (atom (early_region i x)) h s = s
  stays_back (atom x) h s = tt
  stays_back unknown h s = tt

-- Where no obstacle stands, none stands outside of aliases.
pub clear_all : (g : StructurallyRelateAliases) (st : Store) (k : VarKind) (n : ℕ) (t : Tree) → Leaves (IsNoObstacle st k n) t → IsClear g st k n t
clear_all g st k n (leaf l) h = h
clear_all g st k n (node a ts) h = λ s. clear_all g st k n ts h
clear_all g st k n (bind ks t) h = clear_all g st k n t h
clear_all g st k n nil h = tt
clear_all g st k n (cons t ts) h = (clear_all g st k n t h.0, clear_all g st k n ts h.1)

-- A form is seen, or is an alias that is left to a goal.
data SeenOrLeft (g : StructurallyRelateAliases) (h : Head) : Type 0 where
  seen : IsSeen g h → SeenOrLeft g h
  left : (IsSeen g h → ⊥) → ((e : Side) → side_in g e h ≡ inside) → SeenOrLeft g h

seen_or_left : (g : StructurallyRelateAliases) (h : Head) → SeenOrLeft g h
seen_or_left No (alias k d) = left (λ s. s) (λ e. refl)
seen_or_left Yes (alias k d) = seen tt
seen_or_left No h = seen tt
seen_or_left Yes h = seen tt

side_stays : (g : StructurallyRelateAliases) (h : Head) → side_in g inside h ≡ inside
side_stays No (alias k d) = refl
side_stays Yes (alias k d) = refl
side_stays No h = refl
side_stays Yes h = refl

-- Where a term is gone into, its parts are clear inside of an alias that is left to a goal.
side_clear : (g : StructurallyRelateAliases) (st : Store) (k : VarKind) (n : ℕ) (e : Side) (h : Head) (ts : Tree) → (e ≡ outside → (IsSeen g h → ⊥) → Leaves (IsNoObstacle st k n) ts) → IsClearInside e st k n ts → IsClearInside (side_in g e h) st k n ts
side_clear No st k n outside (alias a d) ts goes c = goes refl (λ s. s)
side_clear Yes st k n outside (alias a d) ts goes c = tt
side_clear No st k n outside h ts goes c = tt
side_clear Yes st k n outside h ts goes c = tt
side_clear g st k n inside h ts goes c = subst (λ e. IsClearInside e st k n ts) (sym (side_stays g h)) c

inside_nth : (e : Side) (st : Store) (k : VarKind) (n j : ℕ) (ts : Tree) → j < count ts → IsClearInside e st k n ts → IsClearInside e st k n (nth j ts)
inside_nth outside st k n j ts h c = tt
inside_nth inside st k n zero (cons t ts) h c = c.0
inside_nth inside st k n (suc j) (cons t ts) h c = inside_nth inside st k n j ts (omega (arith, h)) c.1
inside_nth inside st k n j (leaf l) h c = absurd (omega (arith, h))
inside_nth inside st k n j (node g ts) h c = absurd (omega (arith, h))
inside_nth inside st k n j (bind ks t) h c = absurd (omega (arith, h))
inside_nth inside st k n j nil h c = absurd (omega (arith, h))

-- The same of the parts of any term.
inside_parts : (g : StructurallyRelateAliases) (st : Store) (k : VarKind) (n u : ℕ) (e : Side) (t : Tree) → universe_of st k n ≡ u → MayGoInto g k n u e t → IsClearInside e st k n t → IsClearInside (parts_side g e t) st k n (parts_of t)
inside_parts g st k n u e (node h ts) q goes c = side_clear g st k n e h ts (goes st q) (of_form e c)
  where
    of_form : (e : Side) → IsClearInside e st k n (node h ts) → IsClearInside e st k n ts
    of_form outside c = tt
    of_form inside c = c
inside_parts g st k n u e (leaf l) q goes c = leaf_none e
  where
    leaf_none : (e : Side) → IsClearInside e st k n nil
    leaf_none outside = tt
    leaf_none inside = tt
inside_parts g st k n u e (bind ks t) q goes c = of_body e c
  where
    of_body : (e : Side) → IsClearInside e st k n (bind ks t) → IsClearInside e st k n (cons t nil)
    of_body outside c = tt
    of_body inside c = (c, tt)
inside_parts g st k n u e nil q goes c = none e
  where
    none : (e : Side) → IsClearInside e st k n nil
    none outside = tt
    none inside = tt
inside_parts g st k n u e (cons t ts) q goes c = none e
  where
    none : (e : Side) → IsClearInside e st k n nil
    none outside = tt
    none inside = tt

module _ {Key Id Name S : Type 0} (eq : MetKey Key → MetKey Key → Bool) (g : StructurallyRelateAliases) (k : VarKind) (i u : ℕ) (c : Items) (start : Store) where
  -- Since the start only new variables were made.
  module _ {m : Meaning Key Id Name} {memory : HashMap (MetKey Key) (TyKey Key) S} {st : Store} {es : List Met} (h : HasCome eq m memory g c start k i u st es) where
    come_adds : Adds u start st
    come_adds = adds h.sound (subst (λ z. z ≤ start.universe) h.universe ((h.sound).below_current k i)) h.makes

    pub come_still : (j : VarKind) (m : ℕ) → IsMade start j m → universe_of st j m ≡ universe_of start j m
    come_still = come_adds.universes

    pub come_stays : (v : Variance) (l : Leaf) → InContext start (leaf l) → Stays st u v l → Stays start (universe_of start k i) v l
    come_stays v l a s = subst (λ z. Stays start z v l) (sym h.universe) (stays_from start st u v come_still l a s)

    pub come_gives : (v : Variance) (l : Leaf) → InContext start (leaf l) → (Stays st u v l → ⊥) → Stays start (universe_of start k i) v l → ⊥
    come_gives v l a o s = o (stays_back start st u v come_still l a (subst (λ z. Stays start z v l) h.universe s))

  -- As the interner grows, and as more variables are made.
  pub come_grows : {m n : Meaning Key Id Name} → Extends m n → (memory : HashMap (MetKey Key) (TyKey Key) S) → IsSure eq m memory → (st : Store) (es : List Met) → HasCome eq m memory g c start k i u st es → HasCome eq n memory g c start k i u st es
  come_grows e memory s st es h = record {
    items = items_stay e ∙ h.items;
    sound = h.sound;
    universe = h.universe;
    makes = h.makes;
    keeps = keeps_grows e eq memory s es h.keeps;
    clear = h.clear;
  }

  pub come_on : {m : Meaning Key Id Name} (memory : HashMap (MetKey Key) (TyKey Key) S) (st now : Store) (es : List Met) → MakesUnbound u st now → HasCome eq m memory g c start k i u st es → HasCome eq m memory g c start k i u now es
  come_on memory st now es f h = record {
    items = h.items;
    sound = h.sound;
    universe = h.universe;
    makes = makes_then h.makes f;
    keeps = h.keeps;
    clear = h.clear;
  }

-- A part that is no type.
pub not_type_sort : (t : Tree) → (tree_sort t ≡ type_sort → ⊥) → sort_of t ≢ type_sort
not_type_sort (leaf l) o e = o e
not_type_sort (node h ts) o e = o e
not_type_sort (bind ks t) o e = cc
not_type_sort nil o e = cc
not_type_sort (cons t ts) o e = cc

pub type_sort_of : (t : Tree) → tree_sort t ≡ type_sort → sort_of t ≡ type_sort
type_sort_of (leaf l) e = e
type_sort_of (node h ts) e = e
type_sort_of (bind ks t) e = absurd (cc)
type_sort_of nil e = absurd (cc)
type_sort_of (cons t ts) e = absurd (cc)

-- Where memory ran out nothing is said of what is kept.
pub none_kept : {A F : Type 0} (P : Type 0) (r : Result A F) → IsErr r → OnOk r P
none_kept P (Ok x) e = absurd (cc)
none_kept P (Err f) e = tt

-- Errors pass through.
module _ {I Key Id Name Span S : Type 0} (meaning : I → Meaning Key Id Name) (eq : MetKey Key → MetKey Key → Bool)
    (before after : RefCtxt I Key Id Name Span) (g : StructurallyRelateAliases) (k : VarKind) (i u : ℕ) (cyclic : TypeError Key Id Name)
    (old new : HashMap (MetKey Key) (TyKey Key) S) (p : Part Key Id) where
  abbrev m : Meaning Key Id Name
  m = meaning before.interner

  abbrev n : Meaning Key Id Name
  n = meaning after.interner

  abbrev was : Store
  was = store_of m before.inner

  abbrev now : Store
  now = store_of n after.inner

  abbrev t : Tree
  t = part_tree m p

  abbrev Answers : Turn → HashMap (MetKey Key) (TyKey Key) S → Result (Part Key Id) (RelateFault Key Id Name) → Type 0
  Answers turn last r = GeneralisesTo eq m n was now g k i u turn old last t cyclic p r

  to_any : (e : Side) (v : Variance) → sort_of t ≢ type_sort → (r : Result (Part Key Id) (RelateFault Key Id Name)) → Answers (new_part e v) new r → Answers (any_part e v) new r
  to_any e v o (Ok x) h = (h.0, h.1, h.2, λ c start es a b d. let q = h.3 c start es a b d in record { met = q.met; come = q.come; generalised = no_type o q.generalised; clear = q.clear })
  to_any e v o (Err (Unrelated f)) h = h
  to_any e v o (Err Budget) h = h
  to_any e v o (Err Memory) h = tt

  pub generalises_no_type : {T : Type 0} (eqt : TyKey Key → TyKey Key → Bool) (found : HashSet (TyKey Key) T) (e : Side) (v : Variance) → sort_of t ≢ type_sort → (r : Result (Part Key Id) (RelateFault Key Id Name)) → Generalises meaning eq eqt before after g k i u cyclic (new_part e v) old new found p r → Generalises meaning eq eqt before after g k i u cyclic (any_part e v) old new found p r
  generalises_no_type eqt found e v o r h = record { lawful = h.lawful; grown = h.grown; universe = h.universe; makes = h.makes; rest = h.rest; clear = h.clear; answers = to_any e v o r h.answers }

  -- Of a type that is not met yet.
  pub fails_any : (e : Side) (v : Variance) → (r s : Result (Part Key Id) (RelateFault Key Id Name)) (f : RelateFault Key Id Name) → r ≡ Err f → s ≡ Err f → Answers (new_part e v) new r → Answers (any_part e v) new s
  fails_any e v r s f a b h = subst (Answers (any_part e v) new) (sym b) (go f (subst (Answers (new_part e v) new) a h))
    where
      go : (f : RelateFault Key Id Name) → Answers (new_part e v) new (Err f) → Answers (any_part e v) new (Err f)
      go (Unrelated q) h = h
      go Budget h = h
      go Memory h = tt

  -- Memory ran out.
  pub memory_answers : (turn : Turn) (r : Result (Part Key Id) (RelateFault Key Id Name)) → IsErr r → IsErrAnd r (λ f. f ≡ Memory) → Answers turn new r
  memory_answers turn (Ok x) a b = absurd (cc)
  memory_answers turn (Err Memory) a b = tt
  memory_answers turn (Err Budget) a b = absurd (cc)
  memory_answers turn (Err (Unrelated e)) a b = absurd (cc)

  -- A type was met first.
  pub met_answers : (z : Bool) (v : Variance) (last : HashMap (MetKey Key) (TyKey Key) S) (x : Part Key Id) (ty became : TyKey Key) → p ≡ Ty ty → x ≡ Ty became → tree_sort t ≡ type_sort → n.ty ty ≡ m.ty ty →
      IsSure eq n last →
      ((es : List Met) → Keeps eq n new es → ((y : Tree) → Contains es (met_at (side_of z) v (n.ty ty) y) → ⊥) → Keeps eq n last (met_at (side_of z) v (n.ty ty) (n.ty became) ∷ es)) →
      ((es : List Met) → Keeps eq m old es → (y : Tree) → Contains es (met_at (side_of z) v (m.ty ty) y) → ⊥) →
      Answers (new_part (side_of z) v) new (Ok x) → Answers (any_part (side_of z) v) last (Ok x)
  met_answers z v last x ty became e f sorted still sure keeps not_met h = (h.0, h.1, sure, λ c start es a b d. go c start es a b (h.3 c start es a b d))
    where
      go : (c : Items) (start : Store) (es : List Met) → HasCome eq m old g c start k i u was es → InContext start t → Becomes eq m n was now g k i u (new_part (side_of z) v) old new t c start es (part_tree n x) → Becomes eq m n was now g k i u (any_part (side_of z) v) old last t c start es (part_tree n x)
      go c start es a b q = record {
        met = met_at (side_of z) v t (part_tree n x) ∷ q.met;
        come = record {
          items = (q.come).items;
          sound = (q.come).sound;
          universe = (q.come).universe;
          makes = (q.come).makes;
          keeps = subst₂ (λ y w. Keeps eq n last (met_at (side_of z) v y w ∷ q.met)) here (sym (ap (part_tree n) f)) (keeps q.met (q.come).keeps (λ y w. new_one y (subst (λ d. Contains q.met (met_at (side_of z) v d y)) here w)));
          clear = All-cons (λ e. IsClear g start k i e.type) (met_at (side_of z) v t (part_tree n x)) q.met q.clear (q.come).clear;
        };
        generalised = met_first (type_sort_of t sorted) (λ y w. not_met es a.keeps y (subst (λ d. Contains es (met_at (side_of z) v d y)) (ap (part_tree m) e) w)) q.generalised refl refl;
        clear = q.clear;
      }
        where
          here : n.ty ty ≡ t
          here = still ∙ sym (ap (part_tree m) e)

          new_one : (y : Tree) → Contains q.met (met_at (side_of z) v t y) → ⊥
          new_one = still_new q.generalised (λ y w. not_met es a.keeps y (subst (λ d. Contains es (met_at (side_of z) v d y)) (ap (part_tree m) e) w))

  -- A type was met before.
  pub recalled_answers : (e : Side) (v : Variance) (x : Part Key Id) (ty became : TyKey Key) → p ≡ Ty ty → x ≡ Ty became → tree_sort t ≡ type_sort → IsTrue (known (m.ty became)) → IsSure eq m old →
      ((es : List Met) → Keeps eq m old es → Contains es (met_at e v (m.ty ty) (m.ty became))) → GeneralisesTo eq m m was was g k i u (any_part e v) old old t cyclic p (Ok x)
  recalled_answers sd v x ty became e f sorted sure all found = (
    subst (λ z. IsTrue (known (part_tree m z))) (sym f) sure,
    ap part_sort f ∙ sym (ap part_sort e),
    all,
    λ c start es a b d. record {
      met = es;
      come = a;
      generalised = met_before (type_sort_of t sorted) (subst₂ (λ y z. Contains es (met_at sd v y z)) (sym (ap (part_tree m) e)) (sym (ap (part_tree m) f)) (found es a.keeps));
      clear = let q = found es a.keeps in subst (IsClear g start k i) (sym (ap (part_tree m) e)) (All-contains (λ e. IsClear g start k i e.type) es (met_at sd v (m.ty ty) (m.ty became)) a.clear q);
    },
  )

  -- An obstacle.
  pub stops_cycle : (turn : Turn) → t ≡ leaf (variable k i) → GeneralisesTo eq m m was was g k i u turn old old t cyclic p (Err (Unrelated cyclic))
  stops_cycle turn e = λ c start es a b d. (cycle, subst (StopsAt g start k i cycle) (sym e) (at_itself refl refl), refl)

  pub stops_beyond : (turn : Turn) (q : BoundKind) (w d : ℕ) → t ≡ leaf (placeholder q w d) → bound_sort q ≢ region_sort → u < w → GeneralisesTo eq m m was was g k i u turn old old t cyclic p (Err (Unrelated Mismatch))
  stops_beyond turn q w d e o l = λ c start es a b f. (beyond, subst (StopsAt g start k i beyond) (sym e) (at_placeholder refl o (subst (λ z. z < w) (sym a.universe) l)), refl)

  -- A leaf gave way.
  pub gives_answers : (e : Side) (v : Variance) (l : Leaf) (j : VarKind) (x : Part Key Id) (d : ℕ) → IsSure eq m old → Extends m n → t ≡ leaf l → l ≢ variable k i → (Stays was u v l → ⊥) → gives_way_to l ≡ Some j →
      MakesVariable was now j d u → part_tree n x ≡ leaf (variable j d) → IsTrue (known (part_tree n x)) → part_sort x ≡ part_sort p →
      GeneralisesTo eq m n was now g k i u (new_part e v) old old t cyclic p (Ok x)
  gives_answers sd v l j x d all grown e o not gives makes is sure sort = (
    sure,
    sort,
    sure_grows grown eq old all,
    λ c start es a b h.
        let there = subst (InContext start) e b in
        record {
          met = es;
          come = come_grows eq g k i u c start grown old all now es (come_on eq g k i u c start old was now es (makes_one makes_none (gives_no_number l j gives) makes) a);
          generalised = subst₂ (λ y z. Generalised g c start k i (new_part sd v) (record { store = was; met = es }) y (record { store = now; met = es }) z) (sym e) (sym is)
              (gives_way o (come_gives eq g k i u c start a v l there not) gives (subst (MakesVariable was now j d) (sym a.universe) makes) refl);
          clear = subst (IsClear g start k i) (sym e) (clear_gives start k i l j o gives);
        },
  )

  -- An alias did.
  pub alias_answers : (e : Side) (v : Variance) (x : Part Key Id) (d : ℕ) → IsSure eq m old → Extends m n → AliasGivesWay g k i u e t → MakesVariable was now type_var d u → part_tree n x ≡ leaf (variable type_var d) →
      IsTrue (known (part_tree n x)) → part_sort x ≡ part_sort p → GeneralisesTo eq m n was now g k i u (new_part e v) old old t cyclic p (Ok x)
  alias_answers sd v x d all grown f makes is sure sort = (
    sure,
    sort,
    sure_grows grown eq old all,
    λ c start es a b h.
        let l = f.of_alias in
        let stops = parts_stop (f.obstacle start a.universe) l.is in
        record {
          met = es;
          come = come_grows eq g k i u c start grown old all now es (come_on eq g k i u c start old was now es (makes_one makes_none (λ o. o) makes) a);
          generalised = subst₂ (λ y z. Generalised g c start k i (new_part sd v) (record { store = was; met = es }) y (record { store = now; met = es }) z) (sym l.is) (sym is)
              (subst (λ q. Generalised g c start k i (new_part q v) (record { store = was; met = es }) (node (alias l.kind l.id) l.arguments) (record { store = now; met = es }) (leaf (variable type_var d))) (sym f.alone)
              (alias_gives_way l.left stops.1 (subst (MakesVariable was now type_var d) (sym a.universe) makes) refl));
          clear = subst (IsClear g start k i) (sym l.is) (λ s. absurd (alias_unseen l.kind l.id l.left s));
        },
  )
    where
      form_stops : {st : Store} {o : Obstacle} {h : Head} {ts : Tree} → StopsAt Yes st k i o (node h ts) → StopsAt Yes st k i o ts
      form_stops (in_parts p q) = q

      parts_stop : {st : Store} {h : Head} {ts : Tree} → (o : Obstacle) × StopsAt Yes st k i o t → t ≡ node h ts → (o : Obstacle) × StopsAt Yes st k i o ts
      parts_stop {st} q e = (q.0, form_stops (subst (StopsAt Yes st k i q.0) e q.1))

-- The parts of a term, one after another.
clear_next : (g : StructurallyRelateAliases) (st : Store) (k : VarKind) (n j : ℕ) (ts : Tree) → j < count ts → IsClear g st k n (firsts j ts) → IsClear g st k n (nth j ts) → IsClear g st k n (firsts (suc j) ts)
clear_next g st k n zero (cons t ts) h a b = (b, tt)
clear_next g st k n (suc j) (cons t ts) h a b = (a.0, clear_next g st k n j ts (omega (arith, h)) a.1 b)
clear_next g st k n j (leaf l) h a b = absurd (omega (arith, h))
clear_next g st k n j (node f ts) h a b = absurd (omega (arith, h))
clear_next g st k n j (bind ks t) h a b = absurd (omega (arith, h))
clear_next g st k n j nil h a b = absurd (omega (arith, h))

stops_nth : {g : StructurallyRelateAliases} {st : Store} {k : VarKind} {n : ℕ} {o : Obstacle} (j : ℕ) (ts : Tree) → j < count ts → IsClear g st k n (firsts j ts) → StopsAt g st k n o (nth j ts) → StopsAt g st k n o ts
stops_nth zero (cons t ts) h a s = in_first s
stops_nth (suc j) (cons t ts) h a s = in_others a.0 (stops_nth j ts (omega (arith, h)) a.1 s)
stops_nth j (leaf l) h a s = absurd (omega (arith, h))
stops_nth j (node f ts) h a s = absurd (omega (arith, h))
stops_nth j (bind ks t) h a s = absurd (omega (arith, h))
stops_nth j nil h a s = absurd (omega (arith, h))

-- An obstacle in a part stands in the term; in none of an alias that is left to a goal.
pub stops_whole : {g : StructurallyRelateAliases} {st : Store} {k : VarKind} {n : ℕ} {o : Obstacle} (e : Side) (t : Tree) (j : ℕ) → j < count (parts_of t) → IsClear g st k n (firsts j (parts_of t)) → IsClearInside (parts_side g e t) st k n (parts_of t) → StopsAt g st k n o (nth j (parts_of t)) → StopsAt g st k n o t
stops_whole {g} {st} {k} {n} {o} e (node h ts) j l a c s = go (seen_or_left g h)
  where
    none : IsClearInside inside st k n (nth j ts) → ⊥
    none d = stops_no_clear s d

    go : SeenOrLeft g h → StopsAt g st k n o (node h ts)
    go (seen p) = in_parts p (stops_nth j ts l a s)
    go (left p q) = absurd (none (subst (λ z. IsClearInside z st k n (nth j ts)) (q e) (inside_nth (side_in g e h) st k n j ts l c)))
stops_whole e (leaf x) j l a c s = absurd (omega (arith, l))
stops_whole e (bind ks t) zero l a c s = in_body s
stops_whole e (bind ks t) (suc j) l a c s = absurd (omega (arith, l))
stops_whole e nil j l a c s = absurd (omega (arith, l))
stops_whole e (cons t ts) j l a c s = absurd (omega (arith, l))

module _ {Key Id Name S : Type 0} (eq : MetKey Key → MetKey Key → Bool) (m n : Meaning Key Id Name) (was now : Store) (g : StructurallyRelateAliases) (k : VarKind) (i u : ℕ) (e : Side) (v : Variance)
    (old new : HashMap (MetKey Key) (TyKey Key) S) (t : Tree) where
  -- The first so many parts were generalised.
  pub record Went (c : Items) (start : Store) (es : List Met) (j : ℕ) (us : Tree) : Type 0 where
    pub met : List Met
    pub come : HasCome eq n new g c start k i u now met
    pub done : PartsDone g c start k i (parts_side g e t) t v (record { store = was; met = es }) j (record { store = now; met = met }) us
    pub clear : IsClear g start k i (firsts j (parts_of t))

  abbrev pub WentAlways : ℕ → Tree → Type 0
  WentAlways j us = (c : Items) (start : Store) (es : List Met) → HasCome eq m old g c start k i u was es → InContext start t → IsClearInside e start k i t → Went c start es j us

pub went_none : {Key Id Name S : Type 0} (eq : MetKey Key → MetKey Key → Bool) (m : Meaning Key Id Name) (was : Store) (g : StructurallyRelateAliases) (k : VarKind) (i u : ℕ) (e : Side) (v : Variance) (old : HashMap (MetKey Key) (TyKey Key) S) (t : Tree) (us : Tree) → us ≡ nil → WentAlways eq m m was was g k i u e v old old t 0 us
went_none eq m was g k i u e v old t us q = λ c start es a b d. record { met = es; come = a; done = subst (PartsDone g c start k i (parts_side g e t) t v (record { store = was; met = es }) 0 (record { store = was; met = es })) (sym q) none_done; clear = tt }

module _ {Key Id Name S : Type 0} (eq : MetKey Key → MetKey Key → Bool) (m n o : Meaning Key Id Name) (was now then : Store) (g : StructurallyRelateAliases) (k : VarKind) (i u : ℕ) (e : Side) (v : Variance)
    (old mid new : HashMap (MetKey Key) (TyKey Key) S) (t : Tree) (goes : MayGoInto g k i u e t) (listed : IsList (parts_of t)) (j : ℕ) (below : j < count (parts_of t)) (us : Tree) (w : WentAlways eq m n was now g k i u e v old mid t j us)
    (grown : Extends m n) (z : Tree) (at : z ≡ nth j (parts_of t)) where
  part_in_start : (start : Store) → InContext start t → InContext start z
  part_in_start start h = subst (InContext start) (sym at) (context_part start t j listed h)

  all_clear : (c : Items) (start : Store) (es : List Met) → HasCome eq m old g c start k i u was es → IsClearInside e start k i t → IsClearInside (parts_side g e t) start k i (parts_of t)
  all_clear c start es h d = inside_parts g start k i u e t h.universe goes d

  part_clear : (c : Items) (start : Store) (es : List Met) → HasCome eq m old g c start k i u was es → IsClearInside e start k i t → IsClearInside (parts_side g e t) start k i z
  part_clear c start es h d = subst (IsClearInside (parts_side g e t) start k i) (sym at) (inside_nth (parts_side g e t) start k i j (parts_of t) below (all_clear c start es h d))

  -- One more was.
  pub went_next : (sd : Side) → sd ≡ parts_side g e t → (a : Variance) → a ≡ variance_of_part (items_of n) t j v → (x : Tree) → BecomesAlways eq n o now then g k i u (any_part sd a) mid new z x → (l : ℕ) (vs : Tree) → l ≡ suc j → vs ≡ snoc us x → WentAlways eq m o was then g k i u e v old new t l vs
  went_next sd se a va x b l vs le ve = λ c start es h inner d.
      let q = w c start es h inner d in
      let r = b c start q.met q.come (part_in_start start inner) (subst (λ y. IsClearInside y start k i z) (sym se) (part_clear c start es h d)) in
      record {
        met = r.met;
        come = r.come;
        done = subst₂ (λ y f. PartsDone g c start k i (parts_side g e t) t v (record { store = was; met = es }) y (record { store = then; met = r.met }) f) (sym le) (sym ve)
            (one_done q.done (subst (λ y. Generalised g c start k i (any_part y (variance_of_part c t j v)) (record { store = now; met = q.met }) (nth j (parts_of t)) (record { store = then; met = r.met }) x) se
            (subst₂ (λ y f. Generalised g c start k i (any_part sd y) (record { store = now; met = q.met }) f (record { store = then; met = r.met }) x) (va ∙ ap (λ y. variance_of_part y t j v) (q.come).items) at r.generalised)));
        clear = subst (λ y. IsClear g start k i (firsts y (parts_of t))) (sym le) (clear_next g start k i j (parts_of t) below q.clear (subst (IsClear g start k i) at r.clear));
      }

  -- An obstacle stands in the next.
  pub went_stops : {cyclic f : TypeError Key Id Name} (sd : Side) → sd ≡ parts_side g e t → (a : Variance) → StopsAlways eq n o now then g k i u (any_part sd a) mid new z cyclic f → StopsAlways eq m o was then g k i u (new_part e v) old new t cyclic f
  went_stops sd se a b = λ c start es h inner d.
      let q = w c start es h inner d in
      let s = b c start q.met q.come (part_in_start start inner) (subst (λ y. IsClearInside y start k i z) (sym se) (part_clear c start es h d)) in
      (s.0, stops_whole e t j below q.clear (all_clear c start es h d) (subst (StopsAt g start k i s.0) at s.1), s.2)

-- Without parts nothing was done.
of_none : {g : StructurallyRelateAliases} {c : Items} {start : Store} {k : VarKind} {n : ℕ} {sd : Side} {t x y : Tree} {v : Variance} {r q : Stage} {us : Tree} {turn : Turn} → PartsDone g c start k n sd t v r 0 q us → Generalised g c start k n turn r x r y → Generalised g c start k n turn r x q y
of_none none_done h = h

-- All were.
module _ {Key Id Name S : Type 0} (eq : MetKey Key → MetKey Key → Bool) (m n : Meaning Key Id Name) (was now : Store) (g : StructurallyRelateAliases) (k : VarKind) (i u : ℕ) (e : Side) (v : Variance)
    (old new : HashMap (MetKey Key) (TyKey Key) S) (o : Option VarKind) where
  pub went_whole : (t : Tree) (j : ℕ) (us : Tree) → MayGoInto g k i u e t → (tree_sort t ≡ no_sort → ⊥) → IsList (parts_of t) → j ≡ count (parts_of t) → IsFate was k i u v t o ByParts →
      WentAlways eq m n was now g k i u e v old new t j us → BecomesAlways eq m n was now g k i u (new_part e v) old new t (over t us)
  went_whole (node h ts) j us goes s l a f w = λ d start es b inner x.
      let q = w d start es b inner x in
      record {
        met = q.met;
        come = q.come;
        generalised = form_done j (goes start b.universe) l a q.done;
        clear = λ y. subst (IsClear g start k i) (ap (λ y. firsts y ts) a ∙ firsts_all ts l) q.clear;
      }
  went_whole (leaf x) j us goes s l a f w = λ d start es b inner y.
      let q = w d start es b inner y in
      let z = f x refl in
      let st = come_stays eq g k i u d start b v x inner z.1 in
      record {
        met = q.met;
        come = q.come;
        generalised = of_none (subst (λ y. PartsDone g d start k i e (leaf x) v (record { store = was; met = es }) y (record { store = now; met = q.met }) us) a q.done) (stays z.0 st);
        clear = clear_stays start k i v x z.0 st;
      }
  went_whole (bind ks t) j us goes s l a f w = λ d start es b inner x.
      let q = w d start es b inner x in
      record {
        met = q.met;
        come = q.come;
        generalised = body_done (subst (λ y. PartsDone g d start k i e (bind ks t) v (record { store = was; met = es }) y (record { store = now; met = q.met }) us) a q.done);
        clear = (subst (λ y. IsClear g start k i (firsts y (cons t nil))) a q.clear).0;
      }
  went_whole nil j us goes s l a f w = absurd (s refl)
  went_whole (cons t ts) j us goes s l a f w = absurd (s refl)

-- Terms of the context are so after more variables were made.
pub made_context : (u : ℕ) (was now : Store) → IsSound was → u ≤ was.universe → MakesUnbound u was now → (t : Tree) → InContext was t → InContext now t
unfolding InContext
made_context u was now g low f t h = Leaves_map (IsMadeLeaf was) (IsMadeLeaf now) each t h
  where
    each : (l : Leaf) → IsMadeLeaf was l → IsMadeLeaf now l
    each (variable j d) p = ((adds g low f).later).grows j d p
    each (bound q d e) p = tt
    each (placeholder q w e) p = tt
    each (atom x) p = p
    each unknown p = absurd p

-- An error of a part is one of the term.
pub fails_on : {Key Id Name S : Type 0} (eq : MetKey Key → MetKey Key → Bool) (m n o : Meaning Key Id Name) (was now then : Store) (g : StructurallyRelateAliases) (k : VarKind) (i u : ℕ) (cyclic : TypeError Key Id Name) (one other : Turn)
    (old mid new : HashMap (MetKey Key) (TyKey Key) S) (z t : Tree) (p q : Part Key Id) (f : RelateFault Key Id Name) →
    GeneralisesTo eq n o now then g k i u one mid new z cyclic q (Err f) → ((e : TypeError Key Id Name) → StopsAlways eq n o now then g k i u one mid new z cyclic e → StopsAlways eq m o was then g k i u other old new t cyclic e) →
    (r : Result (Part Key Id) (RelateFault Key Id Name)) → r ≡ Err f → GeneralisesTo eq m o was then g k i u other old new t cyclic p r
fails_on {Key = Key} {Id = Id} {Name = Name} eq m n o was now then g k i u cyclic one other old mid new z t p q f h goes r e = subst (GeneralisesTo eq m o was then g k i u other old new t cyclic p) (sym e) (go f h)
  where
    go : (f : RelateFault Key Id Name) → GeneralisesTo eq n o now then g k i u one mid new z cyclic q (Err f) → GeneralisesTo eq m o was then g k i u other old new t cyclic p (Err f)
    go (Unrelated e) h = goes e h
    go Budget h = h
    go Memory h = tt

-- What a term became it is while the interner grows.
pub becomes_grows : {Key Id Name S : Type 0} (eq : MetKey Key → MetKey Key → Bool) {m n o : Meaning Key Id Name} (grown : Extends n o) (was now later : Store) (g : StructurallyRelateAliases) (k : VarKind) (i u : ℕ) (turn : Turn)
    (old new : HashMap (MetKey Key) (TyKey Key) S) (t x y : Tree) → IsSure eq n new → later ≡ now → y ≡ x → BecomesAlways eq m n was now g k i u turn old new t x → BecomesAlways eq m o was later g k i u turn old new t y
becomes_grows eq {m = m} {n = n} {o = o} grown was now later g k i u turn old new t x y sure st same h = λ c start es a b d.
    let q = h c start es a b d in
    subst₂ (λ s z. Becomes eq m o was s g k i u turn old new t c start es z) (sym st) (sym same)
    (becomes c start es q)
  where
    becomes : (c : Items) (start : Store) (es : List Met) → Becomes eq m n was now g k i u turn old new t c start es x → Becomes eq m o was now g k i u turn old new t c start es x
    becomes c start es q = record { met = q.met; come = come_grows eq g k i u c start grown new sure now q.met q.come; generalised = q.generalised; clear = q.clear }

-- From the start on.
pub generalised_first : {Key Id Name S : Type 0} (eq : MetKey Key → MetKey Key → Bool) (m n : Meaning Key Id Name) (was now : Store) (g : StructurallyRelateAliases) (k : VarKind) (i u : ℕ) (v : Variance) (cyclic : TypeError Key Id Name)
    (old new : HashMap (MetKey Key) (TyKey Key) S) (p : Part Key Id) → IsEmpty old → IsSound was → universe_of was k i ≡ u → InContext was (part_tree m p) → (r : Result (Part Key Id) (RelateFault Key Id Name)) →
    GeneralisesTo eq m n was now g k i u (any_part outside v) old new (part_tree m p) cyclic p r → IsGeneralisedFor m n was now g k i v cyclic p r
generalised_first {Key = Key} {Id = Id} {Name = Name} eq m n was now g k i u v cyclic old new p empty sound e b r h = go r h
  where
    first : HasCome eq m old g (items_of m) was k i u was []
    first = record { items = refl; sound = sound; universe = e; makes = makes_none; keeps = keeps_none eq m old empty; clear = All-nil _ }

    go : (r : Result (Part Key Id) (RelateFault Key Id Name)) → GeneralisesTo eq m n was now g k i u (any_part outside v) old new (part_tree m p) cyclic p r → IsGeneralisedFor m n was now g k i v cyclic p r
    go (Ok x) h = let q = h.3 (items_of m) was [] first b tt in (h.0, h.1, (record { store = now; met = q.met }, refl, q.generalised))
    go (Err (Unrelated f)) h = h (items_of m) was [] first b tt
    go (Err Budget) h = h
    go (Err Memory) h = tt

-- From a term to what it became: what binders outside bind stands in that by places of their lists too, and no more
-- escapes from it.
record KeepsBound (t x : Tree) : Type 0 where
  bound : (ks : List BoundKind) (d : ℕ) → AreBoundAs ks d t → AreBoundAs ks d x
  within : (d : ℕ) → StaysWithin d t → StaysWithin d x

-- In what a term became, binders bind by their lists, if they do in the term and in what types that were met became.
abbrev MetByLists : Met → Type 0
MetByLists e = IsWellBound e.term × KeepsBound e.type e.term

stays_by_lists : {g : StructurallyRelateAliases} {c : Items} {start : Store} {k : VarKind} {n : ℕ} {turn : Turn} {r q : Stage} {t x : Tree} → Generalised g c start k n turn r t q x → IsWellBound t → All MetByLists r.met → IsWellBound x × KeepsBound t x × All MetByLists q.met
stays_by_lists (met_before {e = sd} {v = v} {r = r} {t = t} {x = x} s h) lists all = let e = All-contains MetByLists r.met (met_at sd v t x) all h in (e.0, e.1, all)
stays_by_lists (met_first {e = sd} {v = v} {q = q} {t = t} {x = x} s o g a b) lists all = let h = stays_by_lists g lists all in
    (h.0, h.1, subst (All MetByLists) (sym b) (All-cons MetByLists (met_at sd v t x) q.met (h.0, h.1) h.2))
stays_by_lists (no_type s g) lists all = stays_by_lists g lists all
stays_by_lists (stays o s) lists all = (lists, record { bound = λ ks d b. b; within = λ d b. b }, all)
stays_by_lists (gives_way o s e f b) lists all = (tt, record { bound = λ ks d h. tt; within = λ d h. tt }, subst (All MetByLists) (sym b) all)
stays_by_lists (alias_gives_way e o f b) lists all = (tt, record { bound = λ ks d h. tt; within = λ d h. tt }, subst (All MetByLists) (sym b) all)
stays_by_lists (by_parts h g) lists all = let i = stays_by_lists g lists all in
    (i.0, record { bound = λ ks d b. i.1.bound ks d b; within = λ d b. i.1.within d b }, i.2)
stays_by_lists (in_binder {ks = ks} g) lists all = let i = stays_by_lists g lists.1 all in
    ((i.1.bound ks 0 lists.0, i.0), record { bound = λ ls d b. i.1.bound ls (suc d) b; within = λ d b. i.1.within (suc d) b }, i.2)
stays_by_lists no_parts lists all = (tt, record { bound = λ ks d b. tt; within = λ d b. tt }, all)
stays_by_lists (next_part g f) lists all = let a = stays_by_lists g lists.0 all in let b = stays_by_lists f lists.1 a.2 in (
  (a.0, b.0),
  record { bound = λ ks d h. (a.1.bound ks d h.0, b.1.bound ks d h.1); within = λ d h. (a.1.within d h.0, b.1.within d h.1) },
  b.2,
)

module _ {al : StructurallyRelateAliases} {c : Items} {start st : Store} {k : VarKind} {n : ℕ} {turn : Turn} {q : Stage} {t x : Tree}
    (g : Generalised al c start k n turn (record { store = st; met = [] }) t q x) (lists : IsWellBound t) where
  pub generalised_by_lists : IsWellBound x
  generalised_by_lists = (stays_by_lists g lists (All-nil _)).0

  -- Nothing escapes from it, if nothing did.
  pub generalised_within : StaysWithin 0 t → StaysWithin 0 x
  generalised_within h = (stays_by_lists g lists (All-nil _)).1.within 0 h

-- Nothing was met at the start.
pub none_met : (es : List Met) (d : Met) → es ≡ [] → Contains es d → ⊥
none_met es d e h = let l = h.1 in let z = ap length e in omega (arith, l, z)
