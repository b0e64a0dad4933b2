-- Just what is asked for was recorded: one piece of work after another, part by part, and where pairs are remembered.
use Rattle.std.proofs.Common.{◌≡◌, ◌⊎◌, ℕ, zero, suc, ◌<◌, refl, sym, ap, ap₂, ◌∙◌, inl, inr, subst, subst₂, arith, List, []}
use Rattle.std.proofs.Common.{◌∷◌, ◌++◌, All, append_assoc, Contains, ⊎_elim, IsTrue}
use Rattle.std.proofs.lemmas.List.{append-nil}
use Rattle.std.proofs.lemmas.List.Elements.{All-nil, All-append, All-cons, Contains-append_left, Contains-append_right}
use Rattle.std.proofs.lemmas.List.Elements.{All-contains_itself}
use Rattle.term_enums.specs.declared.Variance.{Variance}
use Rattle.relation_terms.specs.Heads.{Head}
use Rattle.relation_terms.specs.Trees.{Tree, node, cons, known, count, nth}
use Rattle.relation_terms.specs.Meaning.{Extends}
use Rattle.relation_terms.proofs.Stays.{stays_same}
use Rattle.relation_semantics.specs.Relation.{Items, part_at, plain, IsRelatedHead}
use Rattle.relation_semantics.specs.Stores.{Constraint}
use Rattle.relation_semantics.specs.Goals.{Goal, goal_of}
use Rattle.relation_semantics.specs.Settings.{Settings, DefersAliases}
use Rattle.relation_semantics.specs.Steps.{HasNoBinder}
use Rattle.relation_semantics.specs.Errors.{IsDeferred}
use Rattle.relation_semantics.specs.Asking.{Wanted, a_constraint, a_goal, IsTrivial, HaveAlias, AsksFor, IsPlainTerm, HasNoAlias}
use Rattle.relation_semantics.specs.Recording.{AreBare, StandsAmong, IsRecorded, IsJustAsked, FrontAsks}
use Rattle.relation_semantics.specs.Lawful.{State, Pair, Turned, WithMeaning, IsCovered, Covers, RecordsJust, declared_by, items_in}
use Rattle.relation_semantics.proofs.Composing.{below_or}
use Rattle.relation_semantics.proofs.Asking.{forms_ask, parts_are_asked, no_alias_nth, no_alias_term, itself_is_trivial}
use Rattle.relation_semantics.proofs.Full.{nth_plain}

All-as : {X : Type 0} (P Q : X → Type 0) (xs : List X) → ((x : X) → P x → Q x) → All P xs → All Q xs
All-as P Q xs f h = λ k d l. f _ (h k d l)

-- What stands among some stands among more.
stands_more : (e : Tree) (cs ds : List Constraint) (gs hs : List Goal) (z : Wanted) → StandsAmong e cs gs z →
    StandsAmong e (cs ++ ds) (gs ++ hs) z
stands_more e cs ds gs hs (a_constraint q) h = Contains-append_left cs ds q h
stands_more e cs ds gs hs (a_goal p) h = Contains-append_left gs hs (goal_of e p) h

pub recorded_more : (e : Tree) (cs ds : List Constraint) (gs hs : List Goal) (z : Wanted) → IsRecorded e cs gs z →
    IsRecorded e (cs ++ ds) (gs ++ hs) z
recorded_more e cs ds gs hs z (inl t) = inl t
recorded_more e cs ds gs hs z (inr s) = inr (stands_more e cs ds gs hs z s)

-- A part of two bare lists is bare.
plain_nth : (i : ℕ) (ts : Tree) → IsPlainTerm ts → IsPlainTerm (nth i ts)
plain_nth zero (cons t ts) h = h.0
plain_nth (suc i) (cons t ts) h = plain_nth i ts h.1
plain_nth i ts h = tt

pub bare_nth : (k : Settings) (i : ℕ) (xs ys : Tree) → AreBare k xs ys → AreBare k (nth i xs) (nth i ys)
bare_nth k i xs ys h = record {
  left_plain = plain_nth i xs h.left_plain;
  right_plain = plain_nth i ys h.right_plain;
  left_unbound = nth_plain i xs h.left_unbound;
  right_unbound = nth_plain i ys h.right_unbound;
  aliases = go h.aliases;
}
  where
    go : DefersAliases k ⊎ (HasNoAlias xs × HasNoAlias ys) →
        DefersAliases k ⊎ (HasNoAlias (nth i xs) × HasNoAlias (nth i ys))
    go (inl l) = inl l
    go (inr n) = inr (no_alias_nth i xs n.0, no_alias_nth i ys n.1)

-- What goes from a term to its parts.
pub bare_by : (k : Settings) (f : Tree → Tree) → ((t : Tree) → IsPlainTerm t → IsPlainTerm (f t)) →
    ((t : Tree) → HasNoBinder t → HasNoBinder (f t)) → ((t : Tree) → HasNoAlias t → HasNoAlias (f t)) → (a b : Tree) →
    AreBare k a b → AreBare k (f a) (f b)
bare_by k f plainly unbound free a b h = record {
  left_plain = plainly a h.left_plain;
  right_plain = plainly b h.right_plain;
  left_unbound = unbound a h.left_unbound;
  right_unbound = unbound b h.right_unbound;
  aliases = go h.aliases;
}
  where
    go : DefersAliases k ⊎ (HasNoAlias a × HasNoAlias b) → DefersAliases k ⊎ (HasNoAlias (f a) × HasNoAlias (f b))
    go (inl l) = inl l
    go (inr n) = inr (free a n.0, free b n.1)

-- Of two bare terms that aren't left to a goal none is an alias.
pub bare_no_alias : (k : Settings) (a b : Tree) → AreBare k a b → (IsDeferred k a b → ⊥) → HaveAlias a b → ⊥
bare_no_alias k a b h n o = go h.aliases o
  where
    go : DefersAliases k ⊎ (HasNoAlias a × HasNoAlias b) → HaveAlias a b → ⊥
    go (inl l) p = n (inl (l, p))
    go (inr f) (inl p) = no_alias_term a f.0 p
    go (inr f) (inr p) = no_alias_term b f.1 p

module _ {Key Id Name : Type 0} where
  -- Nothing was recorded or registered, though keys may have been made, and pairs remembered.
  pub record Stands (r q : State Key Id Name) : Type 0 where
    pub extends : Extends r.meaning q.meaning
    pub constraints : (q.store).constraints ≡ (r.store).constraints
    pub goals : q.goals ≡ r.goals
    pub settings : q.kept.settings ≡ r.kept.settings
    pub environment : q.kept.environment ≡ r.kept.environment

  pub stands_itself : (r : State Key Id Name) → Stands r r
  stands_itself r = record {
    extends = stays_same r.meaning;
    constraints = refl;
    goals = refl;
    settings = refl;
    environment = refl;
  }

  pub turned_stands : {v : Variance} {r q : State Key Id Name} → Turned v r q → Stands r q
  turned_stands {r = r} h = record {
    extends = subst (Extends r.meaning) (sym h.meaning) (stays_same r.meaning);
    constraints = ap (λ s. s.constraints) h.store;
    goals = h.goals;
    settings = ap (λ k. k.settings) h.kept;
    environment = ap (λ k. k.environment) h.kept;
  }

  pub grown_stands : {r q : State Key Id Name} → Extends r.meaning q.meaning → WithMeaning r q.meaning q → Stands r q
  grown_stands e h = record {
    extends = e;
    constraints = ap (λ s. s.constraints) h.store;
    goals = h.goals;
    settings = ap (λ k. k.settings) h.kept;
    environment = ap (λ k. k.environment) h.kept;
  }

  module _ {r q : State Key Id Name} (h : Stands r q) where
    recorded_stands : (cs : List Constraint) (z : Wanted) → IsRecorded r.kept.environment cs r.goals z →
        IsRecorded q.kept.environment cs q.goals z
    recorded_stands cs z s = subst₂ (λ e gs. IsRecorded e cs gs z) (sym h.environment) (sym h.goals) s

    items_stand : items_in q ≡ items_in r
    items_stand = ap₂ declared_by (h.extends).variances (h.extends).alias_variances

    -- A pair that was covered is so.
    covered_stands : (since : List Constraint) (p : Pair Key) → IsCovered since r p → IsCovered since q p
    covered_stands since p c = (
      subst (λ t. IsTrue (known t)) (sym x) c.0,
      subst (λ t. IsTrue (known t)) (sym y) c.1,
      λ bare z asks. recorded_stands since z (c.2
          (subst (λ k. AreBare k ((r.meaning).ty p.1) ((r.meaning).ty p.2)) h.settings
          (subst₂ (λ t u. AreBare q.kept.settings t u) x y bare)) z
          (subst (λ i. AsksFor i z p.0 ((r.meaning).ty p.1) ((r.meaning).ty p.2)) items_stand
          (subst₂ (λ t u. AsksFor (items_in q) z p.0 t u) x y asks))),
    )
      where
        x : (q.meaning).ty p.1 ≡ (r.meaning).ty p.1
        x = (h.extends).ty p.1 c.0

        y : (q.meaning).ty p.2 ≡ (r.meaning).ty p.2
        y = (h.extends).ty p.2 c.1

    covers_stands : (since : List Constraint) → q.remembered ≡ r.remembered → Covers since r → Covers since q
    covers_stands since same c = λ p m. covered_stands since p (c p (subst (λ ps. Contains ps p) same m))

  -- Nothing was recorded, where nothing had to be.
  pub records_nothing : {A : Wanted → Type 0} {r q : State Key Id Name} → Stands r q → q.remembered ≡ r.remembered →
      ((since : List Constraint) → Covers since r → (z : Wanted) → A z → IsRecorded r.kept.environment since r.goals z) →
      RecordsJust A r q
  records_nothing {A} {r} {q} h same f = record {
    constraints = [];
    goals = [];
    recorded = h.constraints ∙ sym (append-nil (r.store).constraints);
    registered = h.goals ∙ sym (append-nil r.goals);
    constraints_asked = All-nil (λ k. A (a_constraint k));
    goals_asked = All-nil (λ g. A (a_goal g.predicate));
    covers = λ since c. subst (λ s. Covers s q) (sym (append-nil since)) (covers_stands h since same c);
    all = λ since c z a. subst (λ s. IsRecorded q.kept.environment s q.goals z) (sym (append-nil since))
        (recorded_stands h since z (f since c z a));
  }

  -- What is trivial needs no record.
  pub records_trivial : {A : Wanted → Type 0} {r q : State Key Id Name} → Stands r q → q.remembered ≡ r.remembered →
      ((z : Wanted) → A z → IsTrivial z) → RecordsJust A r q
  records_trivial h same f = records_nothing h same (λ since c z a. inl (f z a))

  -- The same of what is asked in other words, or is trivial.
  pub records_as : {A B : Wanted → Type 0} {r q : State Key Id Name} → ((z : Wanted) → B z → IsTrivial z ⊎ A z) →
      ((z : Wanted) → A z → B z) → RecordsJust A r q → RecordsJust B r q
  records_as {A} {B} {r} {q} back to f = record {
    constraints = f.constraints;
    goals = f.goals;
    recorded = f.recorded;
    registered = f.registered;
    constraints_asked = All-as (λ k. A (a_constraint k)) (λ k. B (a_constraint k)) f.constraints
        (λ k. to (a_constraint k)) f.constraints_asked;
    goals_asked = All-as (λ g. A (a_goal g.predicate)) (λ g. B (a_goal g.predicate)) f.goals
        (λ g. to (a_goal g.predicate)) f.goals_asked;
    covers = f.covers;
    all = λ since c z b. ⊎_elim (λ t. inl t) (λ a. f.all since c z a) (back z b);
  }

  -- One after another.
  pub records_then : {A B : Wanted → Type 0} {r s q : State Key Id Name} → q.kept.environment ≡ s.kept.environment →
      RecordsJust A r s → RecordsJust B s q → RecordsJust (λ z. A z ⊎ B z) r q
  records_then {A} {B} {r} {s} {q} same f g = record {
    constraints = f.constraints ++ g.constraints;
    goals = f.goals ++ g.goals;
    recorded = g.recorded ∙ ap (λ x. x ++ g.constraints) f.recorded
        ∙ append_assoc (r.store).constraints f.constraints g.constraints;
    registered = g.registered ∙ ap (λ x. x ++ g.goals) f.registered ∙ append_assoc r.goals f.goals g.goals;
    constraints_asked = All-append (λ k. A (a_constraint k) ⊎ B (a_constraint k)) f.constraints g.constraints
        (All-as (λ k. A (a_constraint k)) (λ k. A (a_constraint k) ⊎ B (a_constraint k)) f.constraints (λ k h. inl h)
        f.constraints_asked)
        (All-as (λ k. B (a_constraint k)) (λ k. A (a_constraint k) ⊎ B (a_constraint k)) g.constraints (λ k h. inr h)
        g.constraints_asked);
    goals_asked = All-append (λ k. A (a_goal k.predicate) ⊎ B (a_goal k.predicate)) f.goals g.goals
        (All-as (λ k. A (a_goal k.predicate)) (λ k. A (a_goal k.predicate) ⊎ B (a_goal k.predicate)) f.goals (λ k h. inl h)
        f.goals_asked)
        (All-as (λ k. B (a_goal k.predicate)) (λ k. A (a_goal k.predicate) ⊎ B (a_goal k.predicate)) g.goals (λ k h. inr h)
        g.goals_asked);
    covers = λ since h. subst (λ x. Covers x q) (append_assoc since f.constraints g.constraints)
        (g.covers (since ++ f.constraints) (f.covers since h));
    all = λ since h z p. met since h z p;
  }
    where
      met : (since : List Constraint) → Covers since r → (z : Wanted) → A z ⊎ B z →
          IsRecorded q.kept.environment (since ++ (f.constraints ++ g.constraints)) q.goals z
      met since h z (inl p) = subst₂ (λ x y. IsRecorded q.kept.environment x y z)
          (append_assoc since f.constraints g.constraints) (sym g.registered)
          (recorded_more q.kept.environment (since ++ f.constraints) g.constraints s.goals g.goals z
          (subst (λ e. IsRecorded e (since ++ f.constraints) s.goals z) (sym same) (f.all since h z p)))
      met since h z (inr p) = subst (λ x. IsRecorded q.kept.environment x q.goals z)
          (append_assoc since f.constraints g.constraints) (g.all (since ++ f.constraints) (f.covers since h) z p)

  -- Nothing was recorded before and after.
  pub records_between : {A : Wanted → Type 0} {r s t q : State Key Id Name} → Stands r s → s.remembered ≡ r.remembered →
      Stands t q → q.remembered ≡ t.remembered → RecordsJust A s t → RecordsJust A r q
  records_between {A} {r} {s} {t} {q} before b after a f = record {
    constraints = f.constraints;
    goals = f.goals;
    recorded = after.constraints ∙ f.recorded ∙ ap (λ x. x ++ f.constraints) before.constraints;
    registered = after.goals ∙ f.registered ∙ ap (λ x. x ++ f.goals) before.goals;
    constraints_asked = f.constraints_asked;
    goals_asked = f.goals_asked;
    covers = λ since c. covers_stands after (since ++ f.constraints) a (f.covers since (covers_stands before since b c));
    all = λ since c z w. recorded_stands after (since ++ f.constraints) z (f.all since (covers_stands before since b c) z w);
  }

  -- Pairs were remembered besides, of which no more is asked for.
  pub records_remembering : {A : Wanted → Type 0} {r q s : State Key Id Name} → Stands q s → RecordsJust A r q →
      ((p : Pair Key) → Contains s.remembered p → (IsTrue (known ((s.meaning).ty p.1)) ×
      IsTrue (known ((s.meaning).ty p.2)) × ((z : Wanted) →
      AsksFor (items_in s) z p.0 ((s.meaning).ty p.1) ((s.meaning).ty p.2) → A z)) ⊎ Contains q.remembered p) →
      RecordsJust A r s
  records_remembering {A} {r} {q} {s} h f members = record {
    constraints = f.constraints;
    goals = f.goals;
    recorded = h.constraints ∙ f.recorded;
    registered = h.goals ∙ f.registered;
    constraints_asked = f.constraints_asked;
    goals_asked = f.goals_asked;
    covers = λ since c p m. go since c p (members p m);
    all = λ since c z a. recorded_stands h (since ++ f.constraints) z (f.all since c z a);
  }
    where
      go : (since : List Constraint) → Covers since r → (p : Pair Key) → (IsTrue (known ((s.meaning).ty p.1)) ×
          IsTrue (known ((s.meaning).ty p.2)) × ((z : Wanted) →
          AsksFor (items_in s) z p.0 ((s.meaning).ty p.1) ((s.meaning).ty p.2) → A z)) ⊎ Contains q.remembered p →
          IsCovered (since ++ f.constraints) s p
      go since c p (inl n) = (
        n.0,
        n.1,
        λ bare z asks. recorded_stands h (since ++ f.constraints) z (f.all since c z (n.2 z asks)),
      )
      go since c p (inr m) = covered_stands h (since ++ f.constraints) p (f.covers since c p m)

  -- One constraint was recorded, and no other is asked for.
  pub records_constraint : {A : Wanted → Type 0} {r q : State Key Id Name} (k : Constraint) → Extends r.meaning q.meaning →
      (q.store).constraints ≡ (r.store).constraints ++ k ∷ [] → q.goals ≡ r.goals →
      q.kept.settings ≡ r.kept.settings → q.kept.environment ≡ r.kept.environment → q.remembered ≡ r.remembered →
      A (a_constraint k) → ((z : Wanted) → A z → z ≡ a_constraint k) → RecordsJust A r q
  records_constraint {A} {r} {q} k extends more goals settings environment same asked only = record {
    constraints = k ∷ [];
    goals = [];
    recorded = more;
    registered = goals ∙ sym (append-nil r.goals);
    constraints_asked = All-cons (λ x. A (a_constraint x)) k [] asked (All-nil (λ x. A (a_constraint x)));
    goals_asked = All-nil (λ g. A (a_goal g.predicate));
    covers = λ since c p m. let z = c p (subst (λ ps. Contains ps p) same m) in covered since p z;
    all = λ since c z a. subst (λ y. IsRecorded q.kept.environment (since ++ k ∷ []) q.goals y) (sym (only z a))
        (inr (Contains-append_right since (k ∷ []) k (All-contains_itself (k ∷ []) 0 k (omega arith))));
  }
    where
      covered : (since : List Constraint) (p : Pair Key) → IsCovered since r p → IsCovered (since ++ k ∷ []) q p
      covered since p c =
          let x : (q.meaning).ty p.1 ≡ (r.meaning).ty p.1 = extends.ty p.1 c.0 in
          let y : (q.meaning).ty p.2 ≡ (r.meaning).ty p.2 = extends.ty p.2 c.1 in (
            subst (λ t. IsTrue (known t)) (sym x) c.0,
            subst (λ t. IsTrue (known t)) (sym y) c.1,
            λ bare z asks. subst₂ (λ e gs. IsRecorded e (since ++ k ∷ []) gs z) (sym environment)
                (append-nil r.goals ∙ sym goals)
                (recorded_more r.kept.environment since (k ∷ []) r.goals [] z (c.2
                (subst (λ j. AreBare j ((r.meaning).ty p.1) ((r.meaning).ty p.2)) settings
                (subst₂ (λ t u. AreBare q.kept.settings t u) x y bare)) z
                (subst (λ i. AsksFor i z p.0 ((r.meaning).ty p.1) ((r.meaning).ty p.2))
                (ap₂ declared_by extends.variances extends.alias_variances)
                (subst₂ (λ t u. AsksFor (items_in q) z p.0 t u) x y asks)))),
          )

  -- One goal was registered, and nothing else is asked for.
  pub records_goal : {A : Wanted → Type 0} {r q : State Key Id Name} (p : Tree) → Extends r.meaning q.meaning →
      (q.store).constraints ≡ (r.store).constraints → q.goals ≡ r.goals ++ goal_of r.kept.environment p ∷ [] →
      q.kept.settings ≡ r.kept.settings → q.kept.environment ≡ r.kept.environment → q.remembered ≡ r.remembered →
      A (a_goal p) → ((z : Wanted) → A z → z ≡ a_goal p) → RecordsJust A r q
  records_goal {A} {r} {q} g extends constraints more settings environment same asked only = record {
    constraints = [];
    goals = goal_of r.kept.environment g ∷ [];
    recorded = constraints ∙ sym (append-nil (r.store).constraints);
    registered = more;
    constraints_asked = All-nil (λ k. A (a_constraint k));
    goals_asked = All-cons (λ x. A (a_goal x.predicate)) (goal_of r.kept.environment g) [] asked
        (All-nil (λ x. A (a_goal x.predicate)));
    covers = λ since c p m. subst (λ s. IsCovered s q p) (sym (append-nil since))
        (covered since p (c p (subst (λ ps. Contains ps p) same m)));
    all = λ since c z a. subst (λ y. IsRecorded q.kept.environment (since ++ []) q.goals y) (sym (only z a))
        (inr (subst₂ (λ e gs. Contains gs (goal_of e g)) (sym environment) (sym more)
        (Contains-append_right r.goals (goal_of r.kept.environment g ∷ []) (goal_of r.kept.environment g)
        (All-contains_itself (goal_of r.kept.environment g ∷ []) 0 (goal_of r.kept.environment g) (omega arith)))));
  }
    where
      covered : (since : List Constraint) (p : Pair Key) → IsCovered since r p → IsCovered since q p
      covered since p c =
          let x : (q.meaning).ty p.1 ≡ (r.meaning).ty p.1 = extends.ty p.1 c.0 in
          let y : (q.meaning).ty p.2 ≡ (r.meaning).ty p.2 = extends.ty p.2 c.1 in (
            subst (λ t. IsTrue (known t)) (sym x) c.0,
            subst (λ t. IsTrue (known t)) (sym y) c.1,
            λ bare z asks. subst₂ (λ e gs. IsRecorded e since gs z) (sym environment) (sym more)
                (subst (λ s. IsRecorded r.kept.environment s (r.goals ++ goal_of r.kept.environment g ∷ []) z)
                (append-nil since)
                (recorded_more r.kept.environment since [] r.goals (goal_of r.kept.environment g ∷ []) z (c.2
                (subst (λ j. AreBare j ((r.meaning).ty p.1) ((r.meaning).ty p.2)) settings
                (subst₂ (λ t u. AreBare q.kept.settings t u) x y bare)) z
                (subst (λ i. AsksFor i z p.0 ((r.meaning).ty p.1) ((r.meaning).ty p.2))
                (ap₂ declared_by extends.variances extends.alias_variances)
                (subst₂ (λ t u. AsksFor (items_in q) z p.0 t u) x y asks))))),
          )

  -- From an empty memory on just what two terms ask for was added.
  pub just_asked : {r q : State Key Id Name} (c : Items) (e : Tree) (v : Variance) (a b : Tree) → r.remembered ≡ [] →
      r.goals ≡ [] → q.kept.environment ≡ e → RecordsJust (λ z. AsksFor c z v a b) r q →
      IsJustAsked c e v a b (r.store).constraints (q.store).constraints q.goals
  just_asked {r} {q} c e v a b none no_goals same f = record {
    constraints = f.constraints;
    recorded = f.recorded;
    constraints_asked = f.constraints_asked;
    all_constraints = λ k asks. met [] covered (a_constraint k) asks;
    goals_asked = subst (All (λ g. AsksFor c (a_goal g.predicate) v a b)) (sym the_goals) f.goals_asked;
    all_goals = λ p asks. ⊎_elim (λ t. absurd t) (λ h. subst (λ k. Contains q.goals (goal_of k p)) same h)
        (f.all [] covered (a_goal p) asks);
  }
    where
      the_goals : q.goals ≡ f.goals
      the_goals = f.registered ∙ ap (λ gs. gs ++ f.goals) no_goals

      covered : Covers [] r
      covered p m = let h : m.0 < 0 = (subst (λ ps. Contains ps p) none m).1 in absurd (omega (arith, h))

      met : (since : List Constraint) → Covers since r → (z : Wanted) → AsksFor c z v a b →
          IsRecorded q.kept.environment (since ++ f.constraints) q.goals z
      met since h z asks = f.all since h z asks

-- Of one term nothing need be added.
pub nothing_asked : (c : Items) (e : Tree) (v : Variance) (a b : Tree) (cs : List Constraint) → a ≡ b →
    IsJustAsked c e v a b cs cs []
nothing_asked c e v a b cs one = record {
  constraints = [];
  recorded = sym (append-nil cs);
  constraints_asked = All-nil (λ q. AsksFor c (a_constraint q) v a b);
  all_constraints = λ q asks. inl (itself_is_trivial asks one);
  goals_asked = All-nil (λ g. AsksFor c (a_goal g.predicate) v a b);
  all_goals = λ p asks. absurd (itself_is_trivial asks one);
}

-- The first parts of two lists of parts: none, and one more.
pub front_asks_none : (c : Items) (h : Head) (v : Variance) (xs ys : Tree) (z : Wanted) → FrontAsks c h v 0 xs ys z →
    IsTrivial z
front_asks_none c h v xs ys z f = absurd (omega (arith, f.1))

module _ (c : Items) (h : Head) (v : Variance) (i : ℕ) (xs ys : Tree) (z : Wanted) where
  pub front_asks_next : FrontAsks c h v (suc i) xs ys z →
      FrontAsks c h v i xs ys z ⊎ AsksFor c z (part_at c h i v) (nth i xs) (nth i ys)
  front_asks_next f = go (below_or i f.0 f.1)
    where
      go : (f.0 < i) ⊎ (f.0 ≡ i) → FrontAsks c h v i xs ys z ⊎ AsksFor c z (part_at c h i v) (nth i xs) (nth i ys)
      go (inl l) = inl (f.0, l, f.2)
      go (inr e) = inr (subst (λ n. AsksFor c z (part_at c h n v) (nth n xs) (nth n ys)) e f.2)

  pub next_asks_front : FrontAsks c h v i xs ys z ⊎ AsksFor c z (part_at c h i v) (nth i xs) (nth i ys) →
      FrontAsks c h v (suc i) xs ys z
  next_asks_front (inl f) = (f.0, omega (arith, f.1), f.2)
  next_asks_front (inr a) = (i, omega arith, a)

-- Two forms ask for what all their parts do.
module _ {c : Items} {h k : Head} (v : Variance) (n : ℕ) (ts us : Tree) (neither : HaveAlias (node h ts) (node k us) → ⊥)
    (et : n ≡ count ts) (eu : n ≡ count us) (z : Wanted) where
  pub form_asks_front : AsksFor c z v (node h ts) (node k us) → FrontAsks c h v n ts us z
  form_asks_front a = let p = forms_ask a refl refl neither in (p.0, subst (λ m. p.0 < m) (sym et) p.1, p.3)

  pub front_asks_form : IsRelatedHead h → plain h ≡ plain k → FrontAsks c h v n ts us z →
      AsksFor c z v (node h ts) (node k us)
  front_asks_form rh pl p = parts_are_asked neither rh pl
      (p.0, subst (λ m. p.0 < m) et p.1, subst (λ m. p.0 < m) eu p.1, p.2)

module _ {Key Id Name : Type 0} where
  -- One more part was related, and what it asks for was recorded.
  pub front_goes_on : {r s q : State Key Id Name} (c : Items) (h : Head) (v : Variance) (i : ℕ) (xs ys : Tree) →
      q.kept.environment ≡ s.kept.environment → RecordsJust (FrontAsks c h v i xs ys) r s →
      RecordsJust (λ z. AsksFor c z (part_at c h i v) (nth i xs) (nth i ys)) s q →
      RecordsJust (FrontAsks c h v (suc i) xs ys) r q
  front_goes_on c h v i xs ys same f g = records_as (λ z w. inr (front_asks_next c h v i xs ys z w))
      (next_asks_front c h v i xs ys) (records_then same f g)

  -- All parts of two forms were, and so are the forms.
  pub front_ends : {r q : State Key Id Name} (c : Items) (h k : Head) (v : Variance) (n : ℕ) (ts us : Tree) →
      (HaveAlias (node h ts) (node k us) → ⊥) → IsRelatedHead h → plain h ≡ plain k → n ≡ count ts → n ≡ count us →
      RecordsJust (FrontAsks c h v n ts us) r q → RecordsJust (λ z. AsksFor c z v (node h ts) (node k us)) r q
  front_ends c h k v n ts us neither rh pl et eu f = records_as (λ z w. inr (form_asks_front v n ts us neither et eu z w))
      (λ z w. front_asks_form v n ts us neither et eu z rh pl w) f

  -- A bare pair that is remembered records nothing again.
  pub remembered_records : (r : State Key Id Name) (p : Pair Key) → Contains r.remembered p →
      AreBare r.kept.settings ((r.meaning).ty p.1) ((r.meaning).ty p.2) →
      RecordsJust (λ z. AsksFor (items_in r) z p.0 ((r.meaning).ty p.1) ((r.meaning).ty p.2)) r r
  remembered_records r p m bare = records_nothing (stands_itself r) refl (λ since covers z asks. (covers p m).2 bare z asks)
