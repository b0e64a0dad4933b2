-- Nothing is recorded but what two terms ask for by what they come to: one piece of work after another, part by part.
use Rattle.std.proofs.Common.{◌≡◌, ◌⊎◌, ℕ, suc, ◌<◌, refl, sym, ap, ◌∙◌, inl, inr, subst, subst₂, arith, List, []}
use Rattle.std.proofs.Common.{◌∷◌, ◌++◌, append_assoc, false, true, Some}
use Rattle.std.proofs.lemmas.Bool.{false≢true}
use Rattle.std.proofs.lemmas.List.{append-nil}
use Rattle.std.proofs.lemmas.List.Elements.{All-nil, All-append, All-cons}
use Rattle.term_enums.specs.declared.StructurallyRelateAliases.{StructurallyRelateAliases}
use Rattle.term_enums.specs.declared.Variance.{Variance}
use Rattle.relation_terms.specs.Heads.{VarKind, region_sort, region_var, Head, variable, bound, placeholder, atom}
use Rattle.relation_terms.specs.Heads.{unknown, value, value_type, value_branch, expression}
use Rattle.relation_terms.specs.Trees.{Tree, leaf, node, bind, nil, cons, apply, IsList, count, nth}
use Rattle.relation_semantics.specs.Relation.{Items, part_at, plain, IsRelatedHead, IsAlias, sort_of}
use Rattle.relation_semantics.specs.Settings.{Settings, DefersAliases}
use Rattle.relation_semantics.specs.Stores.{Store, Constraint, IsSound, bound_to, entry_of, entry_term, resolved}
use Rattle.relation_semantics.specs.Goals.{Goal}
use Rattle.relation_semantics.specs.Steps.{IsLater, HasNoBinder}
use Rattle.relation_semantics.specs.Alphabets.{Alphabet, IsBuiltOf, StaysBuilt, BuiltFrom, BindsBuiltOf}
use Rattle.relation_semantics.specs.Errors.{IsReadAs, itself, by_binding, IsDeferred, AreOfOneForm, over_parts, over_aliases, one_leaf, parameters}
use Rattle.relation_semantics.specs.Errors.{AreOfOneConst, AreOfOneValue, values, expressions, over_arguments, one_const_leaf}
use Rattle.relation_semantics.specs.Errors.{const_parameters, one_value, as_many_branches}
use Rattle.relation_semantics.specs.Generalising.{Stage, Turn, Generalised, InstantiatesBy, met_before, met_first, no_type, stays}
use Rattle.relation_semantics.specs.Generalising.{gives_way, alias_gives_way, by_parts, in_binder, no_parts, next_part}
use Rattle.relation_semantics.specs.Parts.{direct_parts, head_of, const_parts_of, const_head_of, branches_of}
use Rattle.relation_semantics.specs.Asking.{a_constraint, region_at, HaveAlias, AsksFor, of_regions, of_parts}
use Rattle.relation_semantics.specs.Recording.{AddsOnly, AskSince, HasNoAliasHead, IsGoneInto, AsksNoMore}
use Rattle.relation_semantics.specs.Recording.{LeadsAsking}
use Rattle.relation_semantics.proofs.Asking.{branches_are_asked}
use Rattle.relation_semantics.proofs.Building.{region_kind_is, built_parts, built_const_parts}
use Rattle.relation_semantics.proofs.Going.{later_through}
use Rattle.relation_semantics.proofs.OneParts.{count_applied}
use Rattle.relation_semantics.proofs.ReadAs.{read_later, read_value}
use Rattle.relation_semantics.proofs.Related.{no_region_head}
use Rattle.relation_semantics.proofs.Resolved.{resolved_free, resolved_meets}
use Rattle.relation_semantics.proofs.Values.{apply-nth}

-- What is built of an alphabet without binders has none, and without alias heads is no alias.
pub built_unbound_term : (k : Alphabet) → k.binders ≡ false → (t : Tree) → IsBuiltOf k t → HasNoBinder t
built_unbound_term k none (leaf l) h = tt
built_unbound_term k none (node f ts) h = built_unbound_term k none ts h.1
built_unbound_term k none (bind ks t) h = absurd (false≢true (sym none ∙ h.0.0))
built_unbound_term k none nil h = tt
built_unbound_term k none (cons t ts) h = (built_unbound_term k none t h.0, built_unbound_term k none ts h.1)

built_no_alias : (k : Alphabet) → HasNoAliasHead k → (t : Tree) → IsBuiltOf k t → IsAlias t → ⊥
built_no_alias k n (node h ts) f i = n h i f.0
built_no_alias k n t f i = i

-- So where two such terms aren't left to a goal, none is an alias.
pub gone_into : (g : Settings) (k : Alphabet) (a b : Tree) → IsGoneInto g k → IsBuiltOf k a → IsBuiltOf k b →
    (IsDeferred g a b → ⊥) → HaveAlias a b → ⊥
gone_into g k a b gone ha hb n o = go gone.1 o
  where
    go : DefersAliases g ⊎ HasNoAliasHead k → HaveAlias a b → ⊥
    go (inl l) p = n (inl (l, p))
    go (inr m) (inl p) = built_no_alias k m a ha p
    go (inr m) (inr p) = built_no_alias k m b hb p

-- Constraints that were added, one piece of work after another.
pub adds_same : (P : Constraint → Type 0) (before after : List Constraint) → after ≡ before → AddsOnly P before after
adds_same P before after e = record { added = []; recorded = e ∙ sym (append-nil before); each = All-nil P }

pub adds_one : (P : Constraint → Type 0) (q : Constraint) (before after : List Constraint) → after ≡ before ++ q ∷ [] →
    P q → AddsOnly P before after
adds_one P q before after e h = record { added = q ∷ []; recorded = e; each = All-cons P q [] h (All-nil P) }

pub adds_then : (P : Constraint → Type 0) {r q p : List Constraint} → AddsOnly P r q → AddsOnly P q p → AddsOnly P r p
adds_then P {r} f g = record {
  added = f.added ++ g.added;
  recorded = g.recorded ∙ ap (λ cs. cs ++ g.added) f.recorded ∙ append_assoc r f.added g.added;
  each = All-append P f.added g.added f.each g.each;
}

pub adds_as : (P Q : Constraint → Type 0) {r q : List Constraint} → ((z : Constraint) → P z → Q z) → AddsOnly P r q →
    AddsOnly Q r q
adds_as P Q h f = record { added = f.added; recorded = f.recorded; each = λ i d l. h _ (f.each i d l) }

-- What two terms ask for since a record they do since a later one.
pub since_later : (c : Items) (q : Constraint) (v : Variance) (a b : Tree) (middle after : Store) → IsLater middle after →
    AskSince c middle q v a b → AskSince c after q v a b
since_later c q v a b middle after m f = λ st l g. f st (later_through m l) g

-- No constraint was recorded.
pub no_more_same : (g : Settings) (c : Items) (before after : Store) (v : Variance) (a b : Tree) →
    after.constraints ≡ before.constraints → AsksNoMore g c before after v a b
no_more_same g c before after v a b e = λ k gone ha hb all.
    adds_same (λ q. AskSince c after q v a b) before.constraints after.constraints e

-- A step, and then the pair that it left.
pub no_more_led : (g : Settings) (c : Items) (before middle after : Store) (v w : Variance) (a b x y : Tree) (gs : List Goal) →
    IsLater middle after → LeadsAsking g c before middle v a b w x y → StaysBuilt before middle gs a b →
    BuiltFrom before a b x y → AsksNoMore g c middle after w x y → AsksNoMore g c before after v a b
no_more_led g c before middle after v w a b x y gs later led built from rest = λ k gone ha hb all.
    let l = led k gone ha hb all in
    let z = from k ha hb all in
    adds_then (λ q. AskSince c after q v a b)
    (adds_same (λ q. AskSince c after q v a b) before.constraints middle.constraints l.0)
    (adds_as (λ q. AskSince c after q w x y) (λ q. AskSince c after q v a b)
    (λ q f st m h. l.1 q st (later_through later m) h (f st m h)) (rest k gone z.0 z.1 (built k ha hb all).binds))

-- Two steps, one after the other.
pub leads_then : (g : Settings) (c : Items) (before middle after : Store) (v w u : Variance) (a b x y s t : Tree)
    (gs : List Goal) → IsLater middle after → LeadsAsking g c before middle v a b w x y →
    StaysBuilt before middle gs a b → BuiltFrom before a b x y → LeadsAsking g c middle after w x y u s t →
    LeadsAsking g c before after v a b u s t
leads_then g c before middle after v w u a b x y s t gs later f built from h = λ k gone ha hb all.
    let l = f k gone ha hb all in
    let z = from k ha hb all in
    let m = h k gone z.0 z.1 (built k ha hb all).binds in
    (m.0 ∙ l.0, λ q st o o'. λ asks. l.1 q st (later_through later o) o' (m.1 q st o o' asks))

-- Each constraint that was added is one that they ask for, of the first parts of two lists of parts of a form.
abbrev pub FrontAskSince : Items → Head → Variance → ℕ → Tree → Tree → Store → Constraint → Type 0
FrontAskSince c h v i xs ys since q = (j : ℕ) × (j < i) × AskSince c since q (part_at c h j v) (nth j xs) (nth j ys)

abbrev pub FrontAsksNoMore : Settings → Items → Store → Store → Head → Variance → ℕ → Tree → Tree → Type 0
FrontAsksNoMore g c before after h v i xs ys = (k : Alphabet) → IsGoneInto g k → IsBuiltOf k xs → IsBuiltOf k ys →
    BindsBuiltOf k before → AddsOnly (λ q. FrontAskSince c h v i xs ys after q) before.constraints after.constraints

-- None of the parts was related, and one more.
pub front_none : (g : Settings) (c : Items) (st : Store) (h : Head) (v : Variance) (xs ys : Tree) →
    FrontAsksNoMore g c st st h v 0 xs ys
front_none g c st h v xs ys = λ k gone ha hb all.
    adds_same (λ q. FrontAskSince c h v 0 xs ys st q) st.constraints st.constraints refl

pub front_next : (g : Settings) (c : Items) (before middle after : Store) (h : Head) (v : Variance) (i : ℕ) (xs ys : Tree)
    (gs : List Goal) → IsLater middle after → StaysBuilt before middle gs xs ys →
    BuiltFrom before xs ys (nth i xs) (nth i ys) → FrontAsksNoMore g c before middle h v i xs ys →
    AsksNoMore g c middle after (part_at c h i v) (nth i xs) (nth i ys) → FrontAsksNoMore g c before after h v (suc i) xs ys
front_next g c before middle after h v i xs ys gs later built from front part = λ k gone ha hb all.
    let z = from k ha hb all in
    adds_then (λ q. FrontAskSince c h v (suc i) xs ys after q)
    (adds_as (λ q. FrontAskSince c h v i xs ys middle q) (λ q. FrontAskSince c h v (suc i) xs ys after q) on
    (front k gone ha hb all))
    (adds_as (λ q. AskSince c after q (part_at c h i v) (nth i xs) (nth i ys))
    (λ q. FrontAskSince c h v (suc i) xs ys after q) (λ q f. (i, omega arith, f))
    (part k gone z.0 z.1 (built k ha hb all).binds))
  where
    on : (q : Constraint) → FrontAskSince c h v i xs ys middle q → FrontAskSince c h v (suc i) xs ys after q
    on q p = let l = p.1 in (p.0, omega (arith, l), since_later c q (part_at c h p.0 v) (nth p.0 xs) (nth p.0 ys) middle after later p.2)

-- Two forms ask for what their parts do.
pub form_asks_since : (c : Items) (st : Store) (q : Constraint) (v : Variance) (h k : Head) (ts us : Tree) (j : ℕ) → IsList ts →
    IsList us → (HaveAlias (node h ts) (node k us) → ⊥) → IsRelatedHead h → plain h ≡ plain k → j < count ts →
    j < count us → AskSince c st q (part_at c h j v) (nth j ts) (nth j us) → AskSince c st q v (node h ts) (node k us)
form_asks_since c st q v h k ts us j lx ly none related alike l m f = λ now later g.
    of_parts j refl refl none related alike
    (subst (λ n. j < n) (sym (count_applied (resolved now) ts lx)) l)
    (subst (λ n. j < n) (sym (count_applied (resolved now) us ly)) m)
    (subst₂ (AsksFor c (a_constraint q) (part_at c h j v)) (apply-nth (resolved now) j ts lx)
    (apply-nth (resolved now) j us ly) (f now later g))

-- So where all parts of two were related.
pub parts_no_more : (g : Settings) (c : Items) (before after : Store) (v : Variance) (h : Head) (n : ℕ) (a b xs ys : Tree) →
    ((q : Constraint) → FrontAskSince c h v n xs ys after q → AskSince c after q v a b) →
    ((k : Alphabet) → IsBuiltOf k a → IsBuiltOf k xs) → ((k : Alphabet) → IsBuiltOf k b → IsBuiltOf k ys) →
    FrontAsksNoMore g c before after h v n xs ys → AsksNoMore g c before after v a b
parts_no_more g c before after v h n a b xs ys asks pa pb f = λ k gone ha hb all.
    adds_as (λ q. FrontAskSince c h v n xs ys after q) (λ q. AskSince c after q v a b) asks
    (f k gone (pa k ha) (pb k hb) all)

-- Of types and what stands over and under binders.
module _ (g : Settings) (c : Items) (before after : Store) (v : Variance) (a b : Tree) (n : ℕ)
    (none : HaveAlias a b → ⊥) (left : IsList (direct_parts a)) (right : IsList (direct_parts b))
    (ea : n ≡ count (direct_parts a)) (eb : n ≡ count (direct_parts b))
    (related : (h : Head) (ts : Tree) → a ≡ node h ts → IsRelatedHead h) where
  part_asks : AreOfOneForm a b → (q : Constraint) →
      FrontAskSince c (head_of a) v n (direct_parts a) (direct_parts b) after q → AskSince c after q v a b
  part_asks (over_parts {h} {ts} {us} d e m) q f =
      subst₂ (AskSince c after q v) (sym d) (sym e) (form_asks_since c after q v h h ts us f.0
      (subst (λ x. IsList (direct_parts x)) d left) (subst (λ x. IsList (direct_parts x)) e right)
      (subst₂ (λ x y. HaveAlias x y → ⊥) d e none) (related h ts d) refl
      (subst (λ z. f.0 < z) (ea ∙ ap (λ x. count (direct_parts x)) d) f.1)
      (subst (λ z. f.0 < z) (eb ∙ ap (λ x. count (direct_parts x)) e) f.1)
      (subst₂ (λ x y. AskSince c after q (part_at c (head_of x) f.0 v) (nth f.0 (direct_parts x)) (nth f.0 (direct_parts y)))
      d e f.2))
  part_asks (over_aliases d e m) q f = absurd (none (inl (subst IsAlias (sym d) tt)))
  part_asks (one_leaf d e) q f =
      let l = f.1 in let o : n ≡ 0 = ea ∙ ap (λ x. count (direct_parts x)) d in absurd (omega (arith, l, o))
  part_asks (parameters d e p) q f =
      let l = f.1 in let o : n ≡ 0 = ea ∙ ap (λ x. count (direct_parts x)) d in absurd (omega (arith, l, o))

  pub form_no_more : AreOfOneForm a b →
      FrontAsksNoMore g c before after (head_of a) v n (direct_parts a) (direct_parts b) →
      AsksNoMore g c before after v a b
  form_no_more o f = parts_no_more g c before after v (head_of a) n a b (direct_parts a) (direct_parts b) (part_asks o)
      (λ k. built_parts k a) (λ k. built_parts k b) f

-- Values do where their branches do.
value_asks_since : (c : Items) (st : Store) (q : Constraint) (v : Variance) (t u ts us : Tree) (j : ℕ) → IsList ts →
    IsList us → j < count ts → j < count us → AskSince c st q (part_at c value_branch j v) (nth j ts) (nth j us) →
    AskSince c st q v (node value (cons (node value_type (cons t nil)) (cons (node value_branch ts) nil)))
    (node value (cons (node value_type (cons u nil)) (cons (node value_branch us) nil)))
value_asks_since c st q v t u ts us j lx ly l m f = λ now later g.
    branches_are_asked (cons (apply (resolved now) t) nil) (cons (apply (resolved now) u) nil) (
      j,
      subst (λ n. j < n) (sym (count_applied (resolved now) ts lx)) l,
      subst (λ n. j < n) (sym (count_applied (resolved now) us ly)) m,
      subst₂ (AsksFor c (a_constraint q) (part_at c value_branch j v)) (apply-nth (resolved now) j ts lx)
          (apply-nth (resolved now) j us ly) (f now later g),
    )

module _ (c : Items) (st : Store) (q : Constraint) (v : Variance) (t u : Tree) (j : ℕ) where
  one_value_since : (x : Tree) → IsList (branches_of x) → j < count (branches_of x) →
      AskSince c st q (part_at c value_branch j v) (nth j (branches_of x)) (nth j (branches_of x)) →
      AskSince c st q v (node value (cons (node value_type (cons t nil)) (cons x nil)))
      (node value (cons (node value_type (cons u nil)) (cons x nil)))
  one_value_since (node value_branch ts) lx l f = value_asks_since c st q v t u ts ts j lx lx l l f
  one_value_since x lx l f = absurd (omega (arith, l))

  values_since : (x y : Tree) → AreOfOneValue x y → IsList (branches_of x) → IsList (branches_of y) →
      j < count (branches_of x) → j < count (branches_of y) →
      AskSince c st q (part_at c value_branch j v) (nth j (branches_of x)) (nth j (branches_of y)) →
      AskSince c st q v (node value (cons (node value_type (cons t nil)) (cons x nil)))
      (node value (cons (node value_type (cons u nil)) (cons y nil)))
  values_since x y (one_value s) lx ly l m f =
      subst (λ z. AskSince c st q v (node value (cons (node value_type (cons t nil)) (cons x nil)))
      (node value (cons (node value_type (cons u nil)) (cons z nil)))) s (one_value_since x lx l
      (subst (λ z. AskSince c st q (part_at c value_branch j v) (nth j (branches_of x)) (nth j (branches_of z))) (sym s) f))
  values_since x y (as_many_branches {ts} {us} d e n) lx ly l m f =
      subst₂ (λ z w. AskSince c st q v (node value (cons (node value_type (cons t nil)) (cons z nil)))
      (node value (cons (node value_type (cons u nil)) (cons w nil)))) (sym d) (sym e)
      (value_asks_since c st q v t u ts us j (subst (λ z. IsList (branches_of z)) d lx)
      (subst (λ z. IsList (branches_of z)) e ly) (subst (λ z. j < count (branches_of z)) d l)
      (subst (λ z. j < count (branches_of z)) e m)
      (subst₂ (λ z w. AskSince c st q (part_at c value_branch j v) (nth j (branches_of z)) (nth j (branches_of w))) d e f))

-- So constants do.
module _ (g : Settings) (c : Items) (before after : Store) (v : Variance) (a b : Tree) (n : ℕ)
    (none : HaveAlias a b → ⊥) (left : IsList (const_parts_of a)) (right : IsList (const_parts_of b))
    (ea : n ≡ count (const_parts_of a)) (eb : n ≡ count (const_parts_of b)) where
  const_part_asks : AreOfOneConst a b → (q : Constraint) →
      FrontAskSince c (const_head_of a) v n (const_parts_of a) (const_parts_of b) after q → AskSince c after q v a b
  const_part_asks (values {t} {u} {v = x} {w = y} d e same) q f =
      subst₂ (AskSince c after q v) (sym d) (sym e) (values_since c after q v t u f.0 x y same
      (subst (λ z. IsList (const_parts_of z)) d left) (subst (λ z. IsList (const_parts_of z)) e right)
      (subst (λ z. f.0 < z) (ea ∙ ap (λ z. count (const_parts_of z)) d) f.1)
      (subst (λ z. f.0 < z) (eb ∙ ap (λ z. count (const_parts_of z)) e) f.1)
      (subst₂ (λ z w. AskSince c after q (part_at c (const_head_of z) f.0 v) (nth f.0 (const_parts_of z))
      (nth f.0 (const_parts_of w))) d e f.2))
  const_part_asks (expressions {k} {ts} {us} d e m) q f =
      subst₂ (AskSince c after q v) (sym d) (sym e) (form_asks_since c after q v (expression k) (expression k) ts us f.0
      (subst (λ z. IsList (const_parts_of z)) d left) (subst (λ z. IsList (const_parts_of z)) e right)
      (subst₂ (λ x y. HaveAlias x y → ⊥) d e none) tt refl
      (subst (λ z. f.0 < z) (ea ∙ ap (λ z. count (const_parts_of z)) d) f.1)
      (subst (λ z. f.0 < z) (eb ∙ ap (λ z. count (const_parts_of z)) e) f.1)
      (subst₂ (λ z w. AskSince c after q (part_at c (const_head_of z) f.0 v) (nth f.0 (const_parts_of z))
      (nth f.0 (const_parts_of w))) d e f.2))
  const_part_asks (over_arguments d e m) q f = absurd (none (inl (subst IsAlias (sym d) tt)))
  const_part_asks (one_const_leaf d e) q f =
      let l = f.1 in let o : n ≡ 0 = ea ∙ ap (λ z. count (const_parts_of z)) d in absurd (omega (arith, l, o))
  const_part_asks (const_parameters d e p) q f =
      let l = f.1 in let o : n ≡ 0 = ea ∙ ap (λ z. count (const_parts_of z)) d in absurd (omega (arith, l, o))

  pub const_no_more : AreOfOneConst a b →
      FrontAsksNoMore g c before after (const_head_of a) v n (const_parts_of a) (const_parts_of b) →
      AsksNoMore g c before after v a b
  const_no_more o f = parts_no_more g c before after v (const_head_of a) n a b (const_parts_of a) (const_parts_of b)
      (const_part_asks o) (λ k. built_const_parts k a) (λ k. built_const_parts k b) f

-- A region stands for itself.
pub region_stays : (st : Store) → IsSound st → (r : Tree) → sort_of r ≡ region_sort → apply (resolved st) r ≡ r
region_stays st g (leaf (variable k n)) e = go k (region_kind_is k e)
  where
    go : (k : VarKind) → k ≡ region_var → resolved st k n ≡ leaf (variable k n)
    go k is = subst (λ z. resolved st z n ≡ leaf (variable z n)) (sym is)
        (resolved_free st region_var n (ap (entry_term region_var) (g.regions_unbound n)))
region_stays st g (leaf (bound k d i)) e = refl
region_stays st g (leaf (placeholder k u n)) e = refl
region_stays st g (leaf (atom x)) e = refl
region_stays st g (leaf unknown) e = refl
region_stays st g (node h ts) e = absurd (no_region_head h e)
region_stays st g (bind ks t) e = absurd cc
region_stays st g nil e = absurd cc
region_stays st g (cons t ts) e = absurd cc

-- One constraint was recorded of two regions.
pub regions_no_more : (g : Settings) (c : Items) (before after : Store) (v : Variance) (a b : Tree) (q : Constraint) →
    sort_of a ≡ region_sort → sort_of b ≡ region_sort → region_at v a b ≡ Some q →
    after.constraints ≡ before.constraints ++ q ∷ [] → AsksNoMore g c before after v a b
regions_no_more g c before after v a b q sa sb asks e = λ k gone ha hb all.
    adds_one (λ z. AskSince c after z v a b) q before.constraints after.constraints e (λ st l s.
    subst₂ (AsksFor c (a_constraint q) v) (sym (region_stays st s a sa)) (sym (region_stays st s b sb))
    (of_regions q refl sa sb asks))

-- What a term is read as comes to the same in each later record.
pub reads_since : (before st : Store) → IsLater before st → IsSound st → (a u : Tree) → IsReadAs before a u →
    apply (resolved st) a ≡ apply (resolved st) u
reads_since before st l g a u p = read_value st (resolved st) (resolved_meets st g) a u (read_later before st l a u p)

pub leads_read : (g : Settings) (c : Items) (st : Store) (v : Variance) (a b u w : Tree) → IsReadAs st a u →
    IsReadAs st b w → LeadsAsking g c st st v a b v u w
leads_read g c st v a b u w p o = λ k gone ha hb all. (
  refl,
  λ q now l s asks.
      subst₂ (AsksFor c (a_constraint q) v) (sym (reads_since st now l s a u p)) (sym (reads_since st now l s b w o)) asks,
)

-- A pair was left that comes to what the two come to.
pub leads_alike : (g : Settings) (c : Items) (before after : Store) (v w : Variance) (a b x y : Tree) →
    after.constraints ≡ before.constraints → ((st : Store) → IsLater after st → IsSound st →
    (apply (resolved st) x ≡ apply (resolved st) a) × (apply (resolved st) y ≡ apply (resolved st) b)) →
    ((q : Constraint) (st : Store) → IsSound st →
    AsksFor c (a_constraint q) w (apply (resolved st) a) (apply (resolved st) b) →
    AsksFor c (a_constraint q) v (apply (resolved st) a) (apply (resolved st) b)) →
    LeadsAsking g c before after v a b w x y
leads_alike g c before after v w a b x y e same to = λ k gone ha hb all. (
  e,
  λ q st later sound asks.
      let z = same st later sound in to q st sound (subst₂ (AsksFor c (a_constraint q) w) z.0 z.1 asks),
)

-- So where a variable that the one was read as was bound, and the other is left with the term.
pub bound_since : (before after st : Store) → IsLater before after → IsLater after st → IsSound st → (a : Tree) (k : VarKind)
    (n : ℕ) (t : Tree) → IsReadAs before a (leaf (variable k n)) → entry_of after k n ≡ bound_to t →
    apply (resolved st) t ≡ apply (resolved st) a
bound_since before after st early later sound a k n t read e =
    sym (reads_since after st later sound (leaf (variable k n)) t (by_binding k n refl e (itself refl)))
    ∙ sym (reads_since before st (later_through early later) sound a (leaf (variable k n)) read)

-- Generalising a term, and binding a variable to it, records no constraint.
generalised_constraints : {g : StructurallyRelateAliases} {c : Items} {start : Store} {k : VarKind} {n : ℕ} {turn : Turn}
    {r q : Stage} {t x : Tree} → Generalised g c start k n turn r t q x → (q.store).constraints ≡ (r.store).constraints
generalised_constraints (met_before s h) = refl
generalised_constraints (met_first s new f e m) = ap (λ z. z.constraints) e ∙ generalised_constraints f
generalised_constraints (no_type s f) = generalised_constraints f
generalised_constraints (stays o h) = refl
generalised_constraints (gives_way o n h f m) = f.same_constraints
generalised_constraints (alias_gives_way e h f m) = f.same_constraints
generalised_constraints (by_parts i f) = generalised_constraints f
generalised_constraints (in_binder f) = generalised_constraints f
generalised_constraints no_parts = refl
generalised_constraints (next_part f g) = generalised_constraints g ∙ generalised_constraints f

pub bound_constraints : {g : StructurallyRelateAliases} {c : Items} {before after : Store} {v : Variance} {k : VarKind} {n : ℕ}
    {source term : Tree} → InstantiatesBy g c before after v k n source term → after.constraints ≡ before.constraints
bound_constraints f = ((f.binds).writes).same_constraints ∙ generalised_constraints f.generalised
