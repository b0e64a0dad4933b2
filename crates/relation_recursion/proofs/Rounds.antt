-- Binders related in rounds: what is said of them follows from what their rounds and the bodies' relating say.
use Rattle.std.proofs.Common.{◌≡◌, ◌≢◌, ℕ, zero, suc, ◌+◌, ◌*◌, ◌<◌, ◌≤◌, refl, sym, ap, ◌∙◌, subst, subst₂, arith}
use Rattle.std.proofs.Common.{inl, List, [], ◌++◌, IsTrue, Ok, Err, Option, Some, None}
use Rattle.std.proofs.lemmas.List.{append-nil}
use Rattle.std.proofs.lemmas.Bool.{false≢true}
use Rattle.term_enums.specs.declared.Variance.{Variance}
use Rattle.term_enums.specs.declared.Variance.TheVariants.{Covariant, Contravariant, Invariant}
use Rattle.term_enums.specs.declared.Variance.TheVariants.{Bivariant}
use Rattle.relation_terms.specs.declared.terms.part_kind.Part.{Part}
use Rattle.relation_terms.specs.declared.terms.part_kind.Part.TheVariants.{Binder}
use Rattle.relation_terms.specs.Heads.{BoundKind}
use Rattle.relation_terms.specs.Trees.{Tree, bind, cons, known}
use Rattle.relation_terms.specs.Meaning.{Meaning, under}
use Rattle.relation_terms.specs.Parts.{part_tree, body_tree}
use Rattle.relation_terms.proofs.Parts.{stays_part}
use Rattle.relation_folds.specs.declared.error.RelateFault.{RelateFault}
use Rattle.relation_folds.specs.declared.error.RelateFault.TheVariants.{Memory, Budget, Unrelated}
use Rattle.relation_semantics.specs.Relation.{Items, at, second_opened, first_opened}
use Rattle.relation_semantics.specs.Stores.{Store, IsSound, InContext, weight}
use Rattle.relation_semantics.specs.Goals.{Goal}
use Rattle.relation_semantics.specs.Outcomes.{Outcome, NeverOne, KeepsOne}
use Rattle.relation_semantics.specs.Measures.{grown, Goes}
use Rattle.relation_semantics.specs.Steps.{HasNoBinder}
use Rattle.relation_semantics.specs.Alphabets.{Alphabet, IsBuiltOf, StaysBuilt, MayBind}
use Rattle.relation_semantics.specs.Errors.{ErrorOf}
use Rattle.relation_semantics.specs.Lawful.{State, Manners, MayAnswer, Passes, Asked, Refuses, Related, BeganWith, AgreesIn, items_in}
use Rattle.relation_semantics.specs.Parts.{IsBinderPart}
use Rattle.relation_steps.specs.Rounds.{OneRound, StepsToBodies, RoundSteps, one_round, first_round, second_round}
use Rattle.relation_steps.specs.Rounds.{RoundLeads, Opened}
use Rattle.relation_semantics.proofs.Standing.{term_context}
use Rattle.relation_semantics.proofs.Going.{grown-mono, le_grown, depth-strict, depth_later, le_square, weight_cons}
use Rattle.relation_semantics.proofs.Going.{depth}
use Rattle.relation_semantics.proofs.Full.{first_order_plain, full_never}
use Rattle.relation_semantics.proofs.Answering.{may_itself}
use Rattle.relation_semantics.proofs.Beginning.{begins_on, agrees_then}
use Rattle.relation_semantics.proofs.Composing.{steps_compose, values_still, agree_through}
use Rattle.relation_semantics.proofs.Keeping.{one_inside, one_led, one_of_all, one_outcome, one_then_all}
use Rattle.relation_semantics.proofs.AskingSince.{built_unbound_term}
use Rattle.relation_semantics.proofs.Opening.{two_rounds_relate}
use Rattle.relation_semantics.proofs.Passing.{passes_then, manner_then, asked_later, outcome_seen}
use Rattle.relation_semantics.proofs.Retelling.{stopped}
use Rattle.relation_semantics.proofs.BuildingSteps.{built_led, built_then, needs_led}
use Rattle.relation_terms.proofs.Paths.{kinds_path, bind_path}
use Rattle.relation_semantics.specs.Binders.{bound_by}

-- Two binders.
abbrev AreBinders : Tree → Tree → Type 0
AreBinders (bind ks a) (bind ls b) = Unit {0}
AreBinders a b = ⊥

one_round_binders : (v : Variance) (a b : Tree) → OneRound v a b → AreBinders a b
one_round_binders v (bind ks a) (bind ls b) o = tt
one_round_binders v a b o = absurd o

-- A known binder is one.
pub under_known : (vars : Option (List BoundKind)) (t : Tree) → IsTrue (known (under vars t)) →
    HasNoBinder (under vars t) → ⊥
under_known (Some ks) t k h = h
under_known None t k h = false≢true k

-- What a known binder is built of has binders that bind as it does.
pub under_binds : (vars : Option (List BoundKind)) (t : Tree) → IsTrue (known (under vars t)) → (k : Alphabet) →
    IsBuiltOf k (under vars t) → MayBind k (bound_by (under vars t))
under_binds (Some ks) t known k h = h.0
under_binds None t known k h = absurd (false≢true known)

pub has_binder : {Key Id Name : Type 0} (m : Meaning Key Id Name) (p : Part Key Id) → IsBinderPart p →
    IsTrue (known (part_tree m p)) → HasNoBinder (part_tree m p) → ⊥
has_binder m (Binder vs b) is k h = under_known (m.bound_vars vs) (body_tree m b) k h
has_binder m p is k h = absurd is

-- Where one round is not all, the variance is invariance.
not_invariant : (v : Variance) → (v ≢ Invariant → ⊥) → v ≡ Invariant
not_invariant Covariant n = absurd (n (λ e. absurd cc))
not_invariant Contravariant n = absurd (n (λ e. absurd cc))
not_invariant Invariant n = refl
not_invariant Bivariant n = absurd (n (λ e. absurd cc))

two_rounds_variance : (v : Variance) (ks ls : List BoundKind) (a b t u : Tree) → a ≡ bind ks t → b ≡ bind ls u →
    (OneRound v a b → ⊥) → v ≡ Invariant
two_rounds_variance v ks ls a b t u i j n =
    not_invariant v (λ o. n (subst₂ (λ x y. OneRound v x y) (sym i) (sym j) (inl o)))

-- What is said of the lists and the bodies of two binders is said of them by whatever names.
renamed : (P : List BoundKind → List BoundKind → Tree → Tree → Type 0) {ks ls ks' ls' : List BoundKind}
    {t u t' u' : Tree} → bind ks t ≡ bind ks' t' → bind ls u ≡ bind ls' u' → P ks ls t u → P ks' ls' t' u'
renamed P {ks} {ls} {ks'} {ls'} {t} {u} {t'} {u'} p q h =
    subst₂ (λ k l. P k l t' u') (kinds_path p) (kinds_path q)
    (subst₂ (λ x y. P ks ls x y) (bind_path p) (bind_path q) h)

-- The body of a binder is over the context's variables.
body_context : (st : Store) (a : Tree) (ks : List BoundKind) (t : Tree) → a ≡ bind ks t → InContext st a →
    InContext st t
unfolding InContext
body_context st a ks t e h = subst (InContext st) e h

-- What grows from more is at least as much more.
square_next : (n : ℕ) → suc n * suc n ≡ n * n + n + n + 1
square_next n = grind arith

square_sum : (m d : ℕ) → (m + d) * (m + d) ≡ m * m + (m * d + m * d) + d * d
square_sum m d = grind arith

square_apart : (m d : ℕ) → m * m + d ≤ (m + d) * (m + d)
square_apart m d =
    let e = square_sum m d in
    let s = le_square d in
    omega (arith, e, s)

grown_apart : (j m d : ℕ) → grown j m + d ≤ grown j (m + d)
grown_apart zero m d = omega arith
grown_apart (suc j) m d =
    let i : grown j (m * m) + d ≤ grown j (m * m + d) = grown_apart j (m * m) d in
    let up : grown j (m * m + d) ≤ grown j ((m + d) * (m + d)) =
    grown-mono j (m * m + d) ((m + d) * (m + d)) (square_apart m d) in
    omega (arith, i, up)

grown_next : (j n : ℕ) → 1 ≤ n → grown (suc j) n + 3 ≤ grown (suc j) (suc n)
grown_next j n l =
    let i : grown j (n * n) + 3 ≤ grown j (n * n + 3) = grown_apart j (n * n) 3 in
    let e = square_next n in
    let up : grown j (n * n + 3) ≤ grown j (suc n * suc n) =
    grown-mono j (n * n + 3) (suc n * suc n) (omega (arith, e, l)) in
    omega (arith, i, up)

weight_bind : (st : Store) (ks : List BoundKind) (t : Tree) → weight st (bind ks t) ≡ weight st t + 2
unfolding weight
weight_bind st ks t = omega arith

-- Two binders after a part of the work that cost nothing, and then one on less than they are.
module _ {m n : ℕ} {r q p : Store} (first : Goes m r q) (rest : Goes n q p) where
  room_of : (ks ls : List BoundKind) (t u : Tree) → q.budget ≡ r.budget →
      m ≡ weight r (bind ks t) + weight r (bind ls u) → n < m →
      weight p (bind ks t) + weight p (bind ls u) ≤ grown rest.spent m
  room_of ks ls t u same e l = go rest.spent refl
    where
      free : first.spent ≡ 0
      free = let c = first.counts in omega (arith, c, same)

      middle : weight q (cons (bind ks t) (bind ls u)) ≤ m + 1
      middle =
          let c = weight_cons r (bind ks t) (bind ls u) in
          subst (λ z. weight q (cons (bind ks t) (bind ls u)) ≤ grown z (m + 1)) free
          (first.grows (m + 1) (cons (bind ks t) (bind ls u)) (omega arith) (omega (arith, c, e)))

      go : (s : ℕ) → rest.spent ≡ s → weight p (bind ks t) + weight p (bind ls u) ≤ grown s m
      go zero z =
          let c = weight_cons p (bind ks t) (bind ls u) in
          let h : weight p (cons (bind ks t) (bind ls u)) ≤ m + 1 =
          subst (λ z. weight p (cons (bind ks t) (bind ls u)) ≤ grown z (m + 1)) z
          (rest.grows (m + 1) (cons (bind ks t) (bind ls u)) (omega (arith, l)) middle) in
          omega (arith, c, h)
      go (suc j) z =
          let k = weight r t + weight r u + 3 in
          let wt = weight_bind r ks t in
          let wu = weight_bind r ls u in
          let is : m ≡ suc k = omega (arith, e, wt, wu) in
          let vt = weight_bind q ks t in
          let vu = weight_bind q ls u in
          let c = weight_cons q (bind ks t) (bind ls u) in
          let d = weight_cons q t u in
          let h : weight p (cons t u) ≤ grown (suc j) k =
          subst (λ z. weight p (cons t u) ≤ grown z k) z
          (rest.grows k (cons t u) (omega (arith, l, is)) (omega (arith, middle, vt, vu, c, d, is))) in
          let f = weight_cons p t u in
          let xt = weight_bind p ks t in
          let xu = weight_bind p ls u in
          let up = grown_next j k (omega arith) in
          subst (λ z. weight p (bind ks t) + weight p (bind ls u) ≤ grown (suc j) z) (sym is)
          (omega (arith, h, f, xt, xu, up))

  binders_room : (a b : Tree) → AreBinders a b → q.budget ≡ r.budget → m ≡ weight r a + weight r b → n < m →
      weight p a + weight p b ≤ grown rest.spent m
  binders_room (bind ks t) (bind ls u) is same e l = room_of ks ls t u same e l
  binders_room a b is same e l = absurd is

-- Both rounds together, at invariance.
both_rounds : (c : Items) (e : Tree) (v : Variance) (before middle after : Store) (earlier first others : List Goal)
    (ks ls : List BoundKind) (a b : Tree) → v ≡ Invariant → InContext before a → InContext before b →
    Outcome c e (second_opened ks ls v) before middle earlier first a b →
    Outcome c e (first_opened ks ls v) middle after (earlier ++ first) others a b →
    Outcome c e (at v) before after earlier (first ++ others) (bind ks a) (bind ls b)
both_rounds c e v before middle after earlier first others ks ls a b is ina inb f g =
    subst (λ z. Outcome c e (at z) before after earlier (first ++ others) (bind ks a) (bind ls b)) (sym is)
    (two_rounds_relate c e before middle after earlier first others ks ls a b ina inb
    (subst (λ z. Outcome c e (second_opened ks ls z) before middle earlier first a b) is f)
    (subst (λ z. Outcome c e (first_opened ks ls z) middle after (earlier ++ first) others a b) is g))

-- What relating the bodies of round 0 did for two binders: all of it, or the first of two rounds.
pub data Begun (c : Items) (e : Tree) (v : Variance) (before after : Store) (earlier added : List Goal) (a b : Tree) :
    Type 0 where
  wholly : OneRound v a b → Outcome c e (at v) before after earlier added a b →
      Begun c e v before after earlier added a b
  by_half : {ks ls : List BoundKind} {t u : Tree} → (OneRound v a b → ⊥) → a ≡ bind ks t → b ≡ bind ls u →
      Outcome c e (second_opened ks ls v) before after earlier added t u → Begun c e v before after earlier added a b

-- What made the binders one extends to what that recorded.
begun_keeps : {c : Items} {e : Tree} {earlier added : List Goal} (v : Variance) (before after : Store) (a b : Tree) →
    Begun c e v before after earlier added a b → KeepsOne (at v) before after a b
begun_keeps v before after a b (wholly o f) = one_outcome f
begun_keeps v before after a b (by_half {ks} {ls} {t} {u} two i j f) = subst₂ (KeepsOne (at v) before after) (sym i) (sym j)
    (one_inside (at v) (second_opened ks ls v) before after (bind ks t) (bind ls u) t u
    (λ s one. (kinds_path one, bind_path one)) (one_outcome f))

-- The bodies of round 0 were related.
pub record HalfDone {Key Id Name : Type 0} (M : Manners) (r p : State Key Id Name) (a b : Tree) : Type 0 where
  pub passes : Passes (weight r.store a + weight r.store b) r p
  pub begun : Begun (items_in r) r.kept.environment r.ambient r.store p.store r.goals passes.added a b
  pub room : weight p.store a + weight p.store b ≤
      grown (passes.goes).spent (weight r.store a + weight r.store b)
  pub built : StaysBuilt r.store p.store passes.added a b
  pub agrees : (M r.kept.settings).relates_agreeing → (st : Store) → BeganWith r st →
      AgreesIn r st (at r.ambient) a b × BeganWith p st

module _ {Key Id Name : Type 0} where
  -- Opening was refused in round 0.
  pub opening_refused : {T X : Type 0} {r q : State Key Id Name} (M : Manners) (n : ℕ) (a b : Tree) (tree : T → Tree)
      (answer : X → Tree) → (HasNoBinder a → ⊥) → (f : RelateFault Key Id Name) → Opened M r q n a b tree (Err f) →
      Related {X = X} M r q r.ambient a b answer (Err f)
  opening_refused {r = r} {q = q} M n a b tree answer never Memory o =
      stopped M r.ambient a b answer o.passes (one_of_all (at r.ambient) r.store q.store a b (o.verdict).1)
      (λ k is pair. absurd (never (first_order_plain a pair.left))) (full_never a b never) o.built
  opening_refused M n a b tree answer never f o = absurd (o.verdict).0

  -- The bodies of a round weigh less.
  round_small : {m : ℕ} {r q : State Key Id Name} (M : Manners) (n : ℕ) (a b x y : Tree) (g : Passes m r q) →
      RoundLeads M r q g.added n a b x y → weight q.store x + weight q.store y ≤
      grown (g.goes).spent (weight r.store a + weight r.store b)
  round_small {r = r} M n a b x y g l =
      let s = l.smaller in
      let h = le_grown (g.goes).spent (weight r.store a + weight r.store b) in
      omega (arith, s, h)

  -- Where the bodies of round 0 are never one, nor are the binders.
  round_never : {r q : State Key Id Name} (added : List Goal) (a b x y : Tree) → RoundSteps r q added 0 a b x y →
      NeverOne (at r.ambient) q.store x y → NeverOne (at r.ambient) r.store a b
  round_never {r} {q} added a b x y (one_round e o f) n =
      (steps_compose (items_in r) r.kept.environment (at r.ambient) (at r.ambient) r.store q.store q.store r.goals added []
      a b x y f).1 n
  round_never {r} {q} added a b x y (first_round {ks} {ls} {t} {u} e o i j f) n =
      subst₂ (λ z w. NeverOne (at r.ambient) r.store z w) (sym i) (sym j)
      (λ w s sat one. (steps_compose (items_in r) r.kept.environment (second_opened ks ls r.ambient) (at r.ambient) r.store
      q.store q.store r.goals added [] t u x y f).1 n w s sat (kinds_path one, bind_path one))
  round_never added a b x y (second_round e o i j f) n = absurd (omega (arith, e))

  -- What made the binders one extends to what a fault of the bodies left.
  round_keeps : {r q : State Key Id Name} (p : State Key Id Name) (added : List Goal) (a b x y : Tree) →
      RoundSteps r q added 0 a b x y → KeepsOne (at r.ambient) q.store p.store x y →
      KeepsOne (at r.ambient) r.store p.store a b
  round_keeps p added a b x y (one_round e o f) k = one_led p.store f k
  round_keeps {r} p added a b x y (first_round {ks} {ls} {t} {u} e o i j f) k =
      subst₂ (KeepsOne (at r.ambient) r.store p.store) (sym i) (sym j)
      (one_inside (at r.ambient) (second_opened ks ls r.ambient) r.store p.store (bind ks t) (bind ls u) t u
      (λ s one. (kinds_path one, bind_path one)) (one_led p.store f k))
  round_keeps p added a b x y (second_round e o i j f) k = absurd (omega (arith, e))

  round_refuses : {m : ℕ} {r q p : State Key Id Name} (M : Manners) (added : List Goal) (a b x y : Tree) →
      RoundLeads M r q added 0 a b x y → StaysBuilt r.store q.store added a b → Passes m q p → IsSound p.store →
      (e : RelateFault Key Id Name) → Refuses q p r.ambient x y e → Refuses r p r.ambient a b e
  round_refuses {r = r} {q = q} {p = p} M added a b x y l built f sound (Unrelated e) h = (
    round_never added a b x y l.steps h.0,
    l.errors p.meaning p.kept.settings (items_in p) p.store e (f.goes).later sound h.1,
    h.2,
  )
  round_refuses {p = p} M added a b x y l built f sound Budget h =
      (h.0, needs_led added a b x y built l.built h.1, round_keeps p added a b x y l.steps h.2)
  round_refuses {p = p} M added a b x y l built f sound Memory h = round_keeps p added a b x y l.steps h

  -- The bodies of round 0 were refused, and so are the binders.
  pub first_refused : {X Y : Type 0} {r q p : State Key Id Name} (M : Manners) (a b x y : Tree) (tree : X → Tree)
      (answer : Y → Tree) → (HasNoBinder a → ⊥) → IsSound p.store →
      (g : Passes (weight r.store a + weight r.store b) r q) → RoundLeads M r q g.added 0 a b x y →
      StaysBuilt r.store q.store g.added a b → (e : RelateFault Key Id Name) →
      Related M q p r.ambient x y tree (Err e) → Related {X = Y} M r p r.ambient a b answer (Err e)
  unfolding passes_then
  first_refused M a b x y tree answer never sound g l built e f = record {
    passes = passes_then g f.passes (round_small M 0 a b x y g l);
    verdict = round_refuses M g.added a b x y l built f.passes sound e f.verdict;
    exact = λ k is pair. absurd (never (first_order_plain a pair.left));
    full = full_never a b never;
    built = built_led g.added (f.passes).added a b x y built l.built f.built;
    records = tt;
  }

  -- The bodies of round 0 were related.
  pub first_done : {X : Type 0} {r q p : State Key Id Name} (M : Manners) (a b x y : Tree) (tree : X → Tree) (t : X)
      (g : Passes (weight r.store a + weight r.store b) r q) → RoundLeads M r q g.added 0 a b x y →
      StaysBuilt r.store q.store g.added a b → Related M q p r.ambient x y tree (Ok t) → HalfDone M r p a b
  unfolding passes_then
  first_done {r = r} {q = q} {p = p} M a b x y tree t g l built f = record {
    passes = passes_then g f.passes (round_small M 0 a b x y g l);
    begun = begun l.steps;
    room = room (passes_then g f.passes (round_small M 0 a b x y g l)) (binders l.steps);
    built = built_led g.added (f.passes).added a b x y built l.built f.built;
    agrees = λ k st began.
        let led = l.agrees st began in
        let z = (f.verdict).agrees (manner_then M (λ z. z.relates_agreeing) g k) st led.1 in
        (led.0 (agrees_then g st (at r.ambient) x y z.0), z.1);
  }
    where
      bodies : Outcome (items_in r) r.kept.environment (at r.ambient) q.store p.store (r.goals ++ g.added)
          (f.passes).added x y
      bodies = outcome_seen g (at r.ambient) p.store (f.passes).added x y (f.verdict).outcome

      begun : RoundSteps r q g.added 0 a b x y →
          Begun (items_in r) r.kept.environment r.ambient r.store p.store r.goals (g.added ++ (f.passes).added) a b
      begun (one_round e o s) = wholly o ((steps_compose (items_in r) r.kept.environment (at r.ambient) (at r.ambient)
          r.store q.store p.store r.goals g.added (f.passes).added a b x y s).0 bodies)
      begun (first_round {ks} {ls} {t} {u} e o i j s) = by_half o i j ((steps_compose (items_in r) r.kept.environment
          (second_opened ks ls r.ambient) (at r.ambient) r.store q.store p.store r.goals g.added (f.passes).added
          t u x y s).0 bodies)
      begun (second_round e o i j s) = absurd (omega (arith, e))

      binders : RoundSteps r q g.added 0 a b x y → AreBinders a b
      binders (one_round e o s) = one_round_binders r.ambient a b o
      binders (first_round e o i j s) = subst₂ (λ z w. AreBinders z w) (sym i) (sym j) tt
      binders (second_round e o i j s) = absurd (omega (arith, e))

      room : (both : Passes (weight r.store a + weight r.store b) r p) → AreBinders a b →
          weight p.store a + weight p.store b ≤ grown (both.goes).spent (weight r.store a + weight r.store b)
      room both is =
          let c = (both.goes).counts in
          let d = ((f.passes).goes).counts in
          let same = l.same_budget in
          let e : ((f.passes).goes).spent ≡ (both.goes).spent = omega (arith, c, d, same) in
          subst (λ z. weight p.store a + weight p.store b ≤ grown z (weight r.store a + weight r.store b)) e
          (binders_room g.goes (f.passes).goes a b is l.same_budget refl l.smaller)

  -- The binders are still the relation's after round 0.
  pub half_asked : {r p : State Key Id Name} (M : Manners) (a b : Part Key Id) →
      HalfDone M r p (part_tree r.meaning a) (part_tree r.meaning b) →
      Asked M r r.ambient (part_tree r.meaning a) (part_tree r.meaning b) →
      Asked M p p.ambient (part_tree p.meaning a) (part_tree p.meaning b)
  half_asked {r} {p} M a b h k =
      subst₂ (λ x y. Asked M p p.ambient x y) (sym (stays_part (h.passes).extends a k.left_known))
      (sym (stays_part (h.passes).extends b k.right_known))
      (subst (λ v. Asked M p v (part_tree r.meaning a) (part_tree r.meaning b)) (sym (h.passes).ambient)
      (asked_later M r.ambient (part_tree r.meaning a) (part_tree r.meaning b) h.passes k))

  -- Opening was refused in round 1.
  pub reopening_refused : {T X : Type 0} {r p q : State Key Id Name} (M : Manners) (n : ℕ) (a b : Tree)
      (tree : T → Tree) (answer : X → Tree) → (HasNoBinder a → ⊥) → HalfDone M r p a b → (f : RelateFault Key Id Name) →
      Opened M p q n a b tree (Err f) → Related {X = X} M r q r.ambient a b answer (Err f)
  unfolding passes_then
  reopening_refused {r = r} {p = p} {q = q} M n a b tree answer never h Memory o =
      stopped M r.ambient a b answer (passes_then h.passes o.passes h.room)
      (one_then_all (at r.ambient) r.store p.store q.store a b ((h.passes).goes).later
      (begun_keeps r.ambient r.store p.store a b h.begun) (o.verdict).1)
      (λ k is pair. absurd (never (first_order_plain a pair.left))) (full_never a b never)
      (built_then (h.passes).added (o.passes).added a b h.built o.built)
  reopening_refused M n a b tree answer never h f o = absurd (o.verdict).0

  -- Nothing was left for round 1.
  pub nothing_left : {T X : Type 0} {r p q : State Key Id Name} (M : Manners) (n : ℕ) (a b : Tree) (tree : T → Tree)
      (answer : X → Tree) (x : X) → (HasNoBinder a → ⊥) → answer x ≡ a → IsTrue (known a) → HalfDone M r p a b →
      Opened M p q n a b tree (Ok None) → Related M r q r.ambient a b answer (Ok x)
  unfolding passes_then
  nothing_left {r = r} {p = p} {q = q} M n a b tree answer x never e k h o = record {
    passes = passes_then h.passes o.passes h.room;
    verdict = record {
      outcome = subst₂ (λ s gs. Outcome (items_in r) r.kept.environment (at r.ambient) r.store s r.goals
          ((h.passes).added ++ gs) a b) (sym (o.verdict).2) (sym (o.verdict).3)
          (subst (λ gs. Outcome (items_in r) r.kept.environment (at r.ambient) r.store p.store r.goals gs a b)
          (sym (append-nil (h.passes).added)) (whole h.begun));
      answer = subst (MayAnswer M q r.ambient a) (sym e) (may_itself M q r.ambient a);
      known = subst (λ t. IsTrue (known t)) (sym e) k;
      agrees = λ promised st began. let z = h.agrees promised st began in
          (z.0, begins_on o.passes (o.verdict).4 st z.1);
    };
    exact = λ j is pair. absurd (never (first_order_plain a pair.left));
    full = full_never a b never;
    built = built_then (h.passes).added (o.passes).added a b h.built o.built;
    records = (
      λ promised bare. absurd (never bare.left_unbound),
      λ promised j gone ha hb all. absurd (never (built_unbound_term j gone.0 a ha)),
    );
  }
    where
      whole : Begun (items_in r) r.kept.environment r.ambient r.store p.store r.goals (h.passes).added a b →
          Outcome (items_in r) r.kept.environment (at r.ambient) r.store p.store r.goals (h.passes).added a b
      whole (wholly one f) = f
      whole (by_half two i j f) = absurd (two (subst (λ v. OneRound v a b) (h.passes).ambient (o.verdict).1))

  -- A round is of the same lists and bodies, by whatever names.
  second_step : (p q : State Key Id Name) (added : List Goal) (a b x y : Tree) {ks ls ks' ls' : List BoundKind}
      {t u t' u' : Tree} → a ≡ bind ks t → b ≡ bind ls u → a ≡ bind ks' t' → b ≡ bind ls' u' →
      StepsToBodies p q added (first_opened ks ls p.ambient) t u x y →
      StepsToBodies p q added (first_opened ks' ls' p.ambient) t' u' x y
  second_step p q added a b x y {ks} {ls} {ks'} {ls'} {t} {u} {t'} {u'} i j i' j' s =
      let left : bind ks t ≡ bind ks' t' = sym i ∙ i' in
      let right : bind ls u ≡ bind ls' u' = sym j ∙ j' in
      renamed (λ k l z w. StepsToBodies p q added (first_opened k l p.ambient) z w x y) left right s

  -- One round was not all.
  not_wholly : {M : Manners} {r p : State Key Id Name} (a b : Tree) → HalfDone M r p a b → OneRound r.ambient a b →
      (OneRound p.ambient a b → ⊥) → ⊥
  not_wholly {r = r} {p = p} a b h o n =
      let one : OneRound p.ambient a b = subst (λ v. OneRound v a b) (sym (h.passes).ambient) o in n one

  -- Round 1, where round 0 related the binders by half.
  module _ {M : Manners} {r p q : State Key Id Name} (a b x y : Tree) (ina : InContext r.store a)
      (inb : InContext r.store b) (h : HalfDone M r p a b) (added : List Goal) where
    -- Where its bodies are never one, nor are the binders.
    second_never : Begun (items_in r) r.kept.environment r.ambient r.store p.store r.goals (h.passes).added a b →
        RoundSteps p q added 1 a b x y → NeverOne (at p.ambient) q.store x y → NeverOne (at r.ambient) r.store a b
    second_never f (one_round e o s) n = absurd (omega (arith, e))
    second_never f (first_round e o i j s) n = absurd (omega (arith, e))
    second_never (wholly one f) (second_round e o i j s) n = absurd (not_wholly a b h one o)
    second_never (by_half {ks} {ls} {t} {u} two i' j' f) (second_round e o i j s) n =
        subst₂ (λ z w. NeverOne (at r.ambient) r.store z w) (sym i') (sym j') apart
      where
        never : NeverOne (first_opened ks ls p.ambient) p.store t u
        never = (steps_compose (items_in p) p.kept.environment (first_opened ks ls p.ambient) (at p.ambient) p.store q.store
            q.store p.goals added [] t u x y (second_step p q added a b x y i j i' j' s)).1 n

        apart : NeverOne (at r.ambient) r.store (bind ks t) (bind ls u)
        apart w s sat one =
            let z = f.keeps w s sat (kinds_path one, bind_path one) in
            never w z.0 z.2.0 (
              kinds_path one,
              values_still r.store s z.0 t u z.1 (body_context r.store a ks t i' ina)
                  (body_context r.store b ls u j' inb) (bind_path one),
            )

    -- What made the binders one extends to what a fault of its bodies left.
    second_keeps : (z : State Key Id Name) →
        Begun (items_in r) r.kept.environment r.ambient r.store p.store r.goals (h.passes).added a b →
        RoundSteps p q added 1 a b x y → KeepsOne (at p.ambient) q.store z.store x y →
        KeepsOne (at r.ambient) r.store z.store a b
    second_keeps z f (one_round e o s) k = absurd (omega (arith, e))
    second_keeps z f (first_round e o i j s) k = absurd (omega (arith, e))
    second_keeps z (wholly one f) (second_round e o i j s) k = absurd (not_wholly a b h one o)
    second_keeps z (by_half {ks} {ls} {t} {u} two i' j' f) (second_round e o i j s) k =
        subst₂ (KeepsOne (at r.ambient) r.store z.store) (sym i') (sym j') whole
      where
        then : KeepsOne (first_opened ks ls p.ambient) p.store z.store t u
        then = one_led z.store (second_step p q added a b x y i j i' j' s) k

        whole : KeepsOne (at r.ambient) r.store z.store (bind ks t) (bind ls u)
        whole w s' sat one =
            let half = f.keeps w s' sat (kinds_path one, bind_path one) in
            let rest = then w half.0 half.2.0 (
              kinds_path one,
              values_still r.store s' half.0 t u half.1 (body_context r.store a ks t i' ina)
                  (body_context r.store b ls u j' inb) (bind_path one),
            ) in
            (rest.0, agree_through f.later half.1 rest.1, rest.2)

    -- What relating its bodies did, after round 0.
    second_outcome : {m k : ℕ} {z : State Key Id Name} → (g : Passes m p q) → added ≡ g.added → (f : Passes k q z) →
        Begun (items_in r) r.kept.environment r.ambient r.store p.store r.goals (h.passes).added a b →
        RoundSteps p q added 1 a b x y →
        Outcome (items_in q) q.kept.environment (at p.ambient) q.store z.store q.goals f.added x y →
        Outcome (items_in r) r.kept.environment (at r.ambient) r.store z.store r.goals
        ((h.passes).added ++ (added ++ f.added)) a b
    second_outcome g is f begun (one_round e o s) n = absurd (omega (arith, e))
    second_outcome g is f begun (first_round e o i j s) n = absurd (omega (arith, e))
    second_outcome g is f (wholly one half) (second_round e o i j s) n = absurd (not_wholly a b h one o)
    second_outcome {z = z} g is f (by_half {ks} {ls} {t} {u} two i' j' half) (second_round e o i j s) n =
        subst₂ (λ t u. Outcome (items_in r) r.kept.environment (at r.ambient) r.store z.store r.goals
        ((h.passes).added ++ (added ++ f.added)) t u) (sym i') (sym j')
        (both_rounds (items_in r) r.kept.environment r.ambient r.store p.store z.store r.goals (h.passes).added
        (added ++ f.added) ks ls t u (two_rounds_variance r.ambient ks ls a b t u i' j' two)
        (body_context r.store a ks t i' ina) (body_context r.store b ls u j' inb) half
        (subst (λ v. Outcome (items_in r) r.kept.environment (first_opened ks ls v) p.store z.store
        (r.goals ++ (h.passes).added) (added ++ f.added) t u) (h.passes).ambient
        (outcome_seen h.passes (first_opened ks ls p.ambient) z.store (added ++ f.added) t u opened)))
      where
        bodies : Outcome (items_in p) p.kept.environment (at p.ambient) q.store z.store (p.goals ++ added) f.added x y
        bodies = subst (λ gs. Outcome (items_in p) p.kept.environment (at p.ambient) q.store z.store (p.goals ++ gs) f.added
            x y) (sym is) (outcome_seen g (at p.ambient) z.store f.added x y n)

        opened : Outcome (items_in p) p.kept.environment (first_opened ks ls p.ambient) p.store z.store p.goals
            (added ++ f.added) t u
        opened = (steps_compose (items_in p) p.kept.environment (first_opened ks ls p.ambient) (at p.ambient) p.store q.store
            z.store p.goals added f.added t u x y (second_step p q added a b x y i j i' j' s)).0 bodies

  module _ {r p q : State Key Id Name} (M : Manners) (a b x y : Tree) (never : HasNoBinder a → ⊥)
      (k : Asked M r r.ambient a b) (h : HalfDone M r p a b) (g : Passes (weight p.store a + weight p.store b) p q)
      (l : RoundLeads M p q g.added 1 a b x y) (opened : StaysBuilt p.store q.store g.added a b) where
    left_context : InContext r.store a
    left_context = term_context r.store a k.left_in

    right_context : InContext r.store b
    right_context = term_context r.store b k.right_in

    second_refuses : {m : ℕ} {z : State Key Id Name} → Passes m q z → IsSound z.store → (e : RelateFault Key Id Name) →
        Refuses q z p.ambient x y e → Refuses r z r.ambient a b e
    second_refuses {z = z} f sound (Unrelated e) c = (
      second_never a b x y left_context right_context h g.added h.begun l.steps c.0,
      subst (λ v. ErrorOf z.meaning z.kept.settings (items_in z) z.store v e a b) (h.passes).ambient
          (l.errors z.meaning z.kept.settings (items_in z) z.store e (f.goes).later sound c.1),
      c.2,
    )
    second_refuses {z = z} f sound Budget c = (
      c.0,
      needs_led (h.passes).added a b a b h.built (λ k ha hb all. (ha, hb))
          (needs_led g.added a b x y opened l.built c.1),
      second_keeps a b x y left_context right_context h g.added z h.begun l.steps c.2,
    )
    second_refuses {z = z} f sound Memory c = second_keeps a b x y left_context right_context h g.added z h.begun l.steps c

    second_built : {n : ℕ} {z : State Key Id Name} (f : Passes n q z) → StaysBuilt q.store z.store f.added x y →
        StaysBuilt r.store z.store ((h.passes).added ++ (g.added ++ f.added)) a b
    second_built f built = built_then (h.passes).added (g.added ++ f.added) a b h.built
        (built_led g.added f.added a b x y opened l.built built)

    -- The bodies of round 1 were refused, and so are the binders.
    pub second_refused : {X Y : Type 0} {z : State Key Id Name} (tree : X → Tree) (answer : Y → Tree) →
        IsSound z.store → (e : RelateFault Key Id Name) → Related M q z p.ambient x y tree (Err e) →
        Related {X = Y} M r z r.ambient a b answer (Err e)
    unfolding passes_then
    second_refused tree answer sound e f = record {
      passes = passes_then h.passes (passes_then g f.passes (round_small M 1 a b x y g l)) h.room;
      verdict = second_refuses f.passes sound e f.verdict;
      exact = λ j is pair. absurd (never (first_order_plain a pair.left));
      full = full_never a b never;
      built = second_built f.passes f.built;
      records = tt;
    }

    -- They were related, and so are the binders.
    pub second_related : {X Y : Type 0} {z : State Key Id Name} (tree : X → Tree) (t : X) (answer : Y → Tree) (o : Y) →
        answer o ≡ a → Related M q z p.ambient x y tree (Ok t) → Related M r z r.ambient a b answer (Ok o)
    unfolding passes_then
    second_related {z = z} tree t answer o e f = record {
      passes = passes_then h.passes (passes_then g f.passes (round_small M 1 a b x y g l)) h.room;
      verdict = record {
        outcome = second_outcome a b x y left_context right_context h g.added g refl f.passes h.begun l.steps
            (f.verdict).outcome;
        answer = subst (MayAnswer M z r.ambient a) (sym e) (may_itself M z r.ambient a);
        known = subst (λ t. IsTrue (known t)) (sym e) k.left_known;
        agrees = λ promised st began.
            let half = h.agrees promised st began in
            let led = l.agrees st half.1 in
            let z = (f.verdict).agrees (manner_then M (λ z. z.relates_agreeing) (passes_then h.passes g h.room) promised)
            st led.1 in
            (half.0, z.1);
      };
      exact = λ j is pair. absurd (never (first_order_plain a pair.left));
      full = full_never a b never;
      built = second_built f.passes f.built;
      records = (
        λ promised bare. absurd (never bare.left_unbound),
        λ promised j gone ha hb all. absurd (never (built_unbound_term j gone.0 a ha)),
      );
    }

  -- The bodies that a round leads to are less deep than the binders, in round 0 and in round 1.
  pub first_under : {r q : State Key Id Name} (M : Manners) (added : List Goal) (a b x y : Tree) →
      RoundLeads M r q added 0 a b x y → 8 * depth (q.store).budget (weight q.store x + weight q.store y) + 7 <
      8 * depth (r.store).budget (weight r.store a + weight r.store b)
  first_under {r} {q} M added a b x y l =
      let d = depth-strict (q.store).budget (weight q.store x + weight q.store y)
      (weight r.store a + weight r.store b) l.smaller in
      let e = ap (λ n. depth n (weight r.store a + weight r.store b)) l.same_budget in
      omega (arith, d, e)

  pub second_under : {r p q : State Key Id Name} (M : Manners) (added : List Goal) (a b x y : Tree) →
      HalfDone M r p a b → RoundLeads M p q added 1 a b x y → 8 * depth (q.store).budget (weight q.store x + weight q.store y) + 7 <
      8 * depth (r.store).budget (weight r.store a + weight r.store b)
  second_under {r} {p} {q} M added a b x y h l =
      let d = depth-strict (q.store).budget (weight q.store x + weight q.store y)
      (weight p.store a + weight p.store b) l.smaller in
      let e = ap (λ n. depth n (weight p.store a + weight p.store b)) l.same_budget in
      let f = depth_later (h.passes).goes (weight p.store a + weight p.store b)
      (weight r.store a + weight r.store b) h.room in
      omega (arith, d, e, f)
