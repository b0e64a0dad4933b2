-- What statements say, one after another, while an interner grows.
use Rattle.std.proofs.Common.{◌≡◌, ◌<◌, ◌∙◌, ℕ, zero, suc, refl, sym, ap, ap₂, subst, arith, IsTrue, length, get_or}
use Rattle.std.proofs.Common.{Bool, true, false, cond, List, [], ◌∷◌, ◌++◌, map, Option, Some, None}
use Rattle.std.specs.Prelude.{nat_eq, ◌&&◌, not, slice_get, slice_range, option_map}
use Rattle.std.proofs.lemmas.Option.{slice_get-map}
use Rattle.relation_terms.specs.declared.terms.generic_arg.GenericArgKind.{GenericArgKind}
use Rattle.text_terms.specs.Built.{AreKnown, AreBuilt}
use Rattle.text_clauses.specs.Clauses.{bound_clause_tree}
use Rattle.std.specs.Global.{Vec}
use Rattle.std.proofs.lemmas.Bool.{and_parts}
use Rattle.std.specs.List.{All}
use Rattle.std.proofs.lemmas.List.{take_more}
use Rattle.std.proofs.lemmas.List.Elements.{All-weaker}
use Rattle.std.specs.List.{list_any}
use Rattle.std.specs.Prelude.{◌+◌, take, ◌||◌}
use Rattle.text_reading.specs.declared.naming.program.Clause.{Clause}
use Rattle.relation_terms.specs.Heads.{trait_ref}
use Rattle.relation_terms.specs.Trees.{Tree, node, known}
use Rattle.relation_terms.specs.Meaning.{Meaning, Extends, under, arg_tree}
use Rattle.relation_terms.specs.Owned.{bound_tree, IsStatedBound}
use Rattle.relation_terms.specs.Predicates.{trait_ref_tree}
use Rattle.relation_terms.specs.declared.predicate.trait_ref.TraitRef.{TraitRef}
use Rattle.relation_terms.specs.declared.terms.binder.Binder.{Binder}
use Rattle.relation_terms.specs.declared.terms.keys.ClauseKey.{ClauseKey}
use Rattle.relation_terms.proofs.Binders.{under_stays}
use Rattle.relation_terms.proofs.Predicates.{stays_trait_ref}
use Rattle.relation_terms.proofs.Stays.{stays_arg, knows_as}
use Rattle.reference_interner.specs.declared.RefInterner.{RefInterner}
use Rattle.reference_interner.specs.declared.keys.ItemId.{ItemId}
use Rattle.reference_interner.specs.declared.keys.NodeKey.{NodeKey}
use Rattle.reference_interner.specs.declared.keys.SymbolId.{SymbolId}
use Rattle.reference_interner.specs.Adding.{SameTerms, meaning_in, items_of}
use Rattle.reference_interner.specs.Items.{changed_at}
use Rattle.reference_interner.specs.Items.{with_bounds}
use Rattle.reference_interner.specs.Nodes.{meaning_of}
use Rattle.text_reading.specs.declared.reading.tree.StatedKind.{StatedKind}
use Rattle.text_reading.specs.declared.reading.tree.StatedKind.TheVariants as kind
use Rattle.text_reading.specs.declared.naming.program.Program.{Program}
use Rattle.text_reading.specs.declared.naming.program.Stated.{Stated}
use Rattle.text_elaboration.specs.Stating.{last_that, is_super, is_implied, is_const, is_number, implies, clauses_said}
use Rattle.text_elaboration.specs.Stating.{bounds_said, IsSaid, StatesLast, TermsStay, put_for, where_said, Puts}
use Rattle.text_elaboration.specs.Stating.{KeepsStatements, BoundsAt, StatesOne, terms_said}
use Rattle.text_elaboration.proofs.StatedLemmas.{same_arg}
use Rattle.text_elaboration.proofs.PutLemmas.{puts_bounds}

-- With one more behind a list, the last that passes is that one, if it does.
pub last_more : {A : Type 0} (f : A → Bool) (o : Option A) (xs : List A) (x : A) →
    last_that f o (xs ++ x ∷ []) ≡ cond (f x) (Some x) (last_that f o xs)
last_more f o [] x = refl
last_more f o (y ∷ ys) x = last_more f (cond (f y) (Some y) o) ys x

-- Two statements are not of one kind.
pub no_super : (k : StatedKind) → is_const k ≡ true → is_super k ≡ false
no_super kind.Super e = absurd (cc)
no_super kind.Implied e = refl
no_super kind.Const e = refl

pub no_implied : (k : StatedKind) → is_const k ≡ true → is_implied k ≡ false
no_implied kind.Super e = refl
no_implied kind.Implied e = absurd (cc)
no_implied kind.Const e = refl

-- While an interner grows, and where items change, terms stay.
pub extends_stay : {Key Id Name : Type 0} {m n : Meaning Key Id Name} → Extends m n → TermsStay m n
extends_stay {Key} {Id} {Name} {m} {n} e = record {
  arg = λ k h. stays_arg e k h;
  clause = λ k h. e.clause k h;
  bound = λ b h. under_stays (m.bound_vars b.bound_vars) (n.bound_vars b.bound_vars) (trait_ref_tree m b.value)
      (trait_ref_tree n b.value) (e.bound_vars b.bound_vars) (stays_trait_ref e b.value) h;
  id = e.id;
  name = e.name;
}

module _ {Key Id Name : Type 0} {m n : Meaning Key Id Name} where
  pub same_stay : SameTerms m n → TermsStay m n
  same_stay s = record {
    arg = λ k h. same_arg s k;
    clause = λ k h. s.clause k;
    bound = λ b h. ap₂ (λ o t. under o t) (s.bound_vars b.bound_vars)
        (ap₂ (λ d ts. node (trait_ref d) ts) (s.id ((b.value).def_id).0) (s.args (b.value).args));
    id = s.id;
    name = s.name;
  }

pub stay_on : {Key Id Name : Type 0} {m n o : Meaning Key Id Name} → TermsStay m n → TermsStay n o → TermsStay m o
stay_on {Key} {Id} {Name} {m} {n} {o} s t = record {
  arg = λ k h. t.arg k (knows_as (arg_tree m k) (arg_tree n k) (s.arg k h) h) ∙ s.arg k h;
  clause = λ k h. t.clause k (knows_as (m.clause k) (n.clause k) (s.clause k h) h) ∙ s.clause k h;
  bound = λ b h. t.bound b (knows_as (bound_tree m b) (bound_tree n b) (s.bound b h) h) ∙ s.bound b h;
  id = λ d. t.id d ∙ s.id d;
  name = λ x. t.name x ∙ s.name x;
}

-- What was said and is known stays said, and what one more statement says is said last.
map_stays : {K : Type 0} (f g : K → Tree) (ks : List K) → ((k : K) → IsTrue (known (f k)) → g k ≡ f k) →
    All (λ k. IsTrue (known (f k))) ks → map g ks ≡ map f ks
map_stays f g [] s a = refl
map_stays f g (k ∷ ks) s a =
    ap₂ (λ t ts. t ∷ ts) (s k (a zero k (omega arith))) (map_stays f g ks s (λ i d h. a (suc i) d (omega (arith, h))))

said_on : {K S : Type 0} (f g : K → Tree) (said : S → List Tree) (start before after : List K) (o : Option S)
    (b : Bool) (x : S) → ((k : K) → IsTrue (known (f k)) → g k ≡ f k) → IsSaid f said start before o →
    IsSaid g said before after (cond b (Some x) None) → IsSaid g said start after (cond b (Some x) o)
said_on f g said start before after o true x s p q = q
said_on f g said start before after None false x s p q = q ∙ p
said_on f g said start before after (Some y) false x s p q =
    subst (λ ks. All (λ k. IsTrue (known (g k))) ks × (map g ks ≡ said y)) (sym q) (
      All-weaker (λ k. IsTrue (known (f k))) (λ k. IsTrue (known (g k))) (λ k h. knows_as (f k) (g k) (s k h) h) before p.0,
      map_stays f g before s p.0 ∙ p.1,
    )

module _ {Key Id Name : Type 0} {l m n : Meaning Key Id Name} (items names : List ℕ) (p : Program) (xs : List Stated)
    (x : Stated) (d : ℕ) (s : TermsStay m n) where
  pub states_more : StatesLast l m items names p xs d → StatesLast m n items names p (x ∷ []) d →
      StatesLast l n items names p (xs ++ x ∷ []) d
  states_more a b =
      let of_super : Stated → Bool = λ (s : Stated). is_super s.kind && is_number d (slice_get items s.of) in
      let of_implied : Stated → Bool = λ (s : Stated). implies p.stated.items s && is_number d (slice_get items s.of) in
      let of_const : Stated → Bool = λ (s : Stated). is_const s.kind && is_number d (slice_get items s.of) in
      record {
        generics = b.generics ∙ a.generics;
        supers = subst (IsSaid n.clause (clauses_said items names p) ((l.tables).super_predicates d)
            ((n.tables).super_predicates d)) (sym (last_more of_super None xs x))
            (said_on m.clause n.clause (clauses_said items names p) ((l.tables).super_predicates d)
            ((m.tables).super_predicates d) ((n.tables).super_predicates d) (last_that of_super None xs) (of_super x) x
            s.clause a.supers b.supers);
        implied = subst (IsSaid n.clause (clauses_said items names p) ((l.tables).implied_predicates d)
            ((n.tables).implied_predicates d)) (sym (last_more of_implied None xs x))
            (said_on m.clause n.clause (clauses_said items names p) ((l.tables).implied_predicates d)
            ((m.tables).implied_predicates d) ((n.tables).implied_predicates d) (last_that of_implied None xs)
            (of_implied x) x s.clause a.implied b.implied);
        bounds = subst (IsSaid (bound_tree n) (bounds_said items names p) ((l.tables).const_bounds d)
            ((n.tables).const_bounds d)) (sym (last_more of_const None xs x))
            (said_on (bound_tree m) (bound_tree n) (bounds_said items names p) ((l.tables).const_bounds d)
            ((m.tables).const_bounds d) ((n.tables).const_bounds d) (last_that of_const None xs) (of_const x) x
            s.bound a.bounds b.bounds);
      }

-- What is put for the trait of a number is said of it, where the statement is of it.
said_put : {K S : Type 0} (f : K → Tree) (said : S → List Tree) (before after ks : List K) (x : S) (n d : ℕ) (b : Bool) →
    after ≡ put_for n d (where_said b ks) before → All (λ k. IsTrue (known (f k))) ks → map f ks ≡ said x →
    IsSaid f said before after (cond (b && nat_eq n d) (Some x) None)
said_put f said before after ks x n d false e a q = e
said_put {K} f said before after ks x n d true e a q = decided (nat_eq n d) e
  where
    decided : (c : Bool) → after ≡ cond c ks before → IsSaid f said before after (cond c (Some x) None)
    decided true e = subst (λ zs. All (λ k. IsTrue (known (f k))) zs × (map f zs ≡ said x)) (sym e) (a, q)
    decided false e = e

-- The trees of const bounds that may be stated stay.
pub bounds_stay : {Key Id Name : Type 0} {m n : Meaning Key Id Name} → Extends m n →
    (bs : List (Binder Key (TraitRef Key Id))) → All (IsStatedBound m) bs → map (bound_tree n) bs ≡ map (bound_tree m) bs
bounds_stay {Key} {Id} {Name} {m} {n} e bs a =
    map_stays (bound_tree m) (bound_tree n) bs (extends_stay e).bound
    (All-weaker (IsStatedBound m) (λ b. IsTrue (known (bound_tree m b))) (λ b h. h.0) bs a)

-- Const bounds that are put are said.
pub bounds_said_of : (x z y : RefInterner) (n : ℕ) (tree : Clause → Tree) (cs : List Clause)
    (bs : Vec (Binder NodeKey (TraitRef NodeKey ItemId))) → Extends (meaning_in x) (meaning_in z) →
    SameTerms (meaning_in z) (meaning_in y) → items_of y ≡ changed_at (with_bounds bs) (items_of z) n →
    All (IsStatedBound (meaning_in z)) bs.items → map (bound_tree (meaning_in z)) bs.items ≡ map tree cs → (d : ℕ) →
    0 < (meaning_in x).generics d → BoundsAt x y n tree cs d
bounds_said_of x z y n tree cs bs e s r a q d g =
    let p = puts_bounds z y n bs r d (subst (λ f. 0 < f d) (sym e.generics) g) in
    let t : TermsStay (meaning_in z) (meaning_in y) = same_stay s in
    let k : All (λ b. IsTrue (known (bound_tree (meaning_in z) b))) bs.items =
    All-weaker (IsStatedBound (meaning_in z)) (λ b. IsTrue (known (bound_tree (meaning_in z) b))) (λ b h. h.0) bs.items a in
    record {
      generics = p.generics ∙ ap (λ f. f d) e.generics;
      supers = p.supers ∙ ap (λ t. t.super_predicates d) e.tables;
      implied = p.implied ∙ ap (λ t. t.implied_predicates d) e.tables;
      bounds = said_put (bound_tree (meaning_in y)) (map tree) (((meaning_in x).tables).const_bounds d)
          (((meaning_in y).tables).const_bounds d) bs.items cs n d true
          (p.bounds ∙ ap (λ t. put_for n d (Some bs.items) (t.const_bounds d)) e.tables)
          (All-weaker (λ b. IsTrue (known (bound_tree (meaning_in z) b))) (λ b. IsTrue (known (bound_tree (meaning_in y) b)))
          (λ b h. knows_as (bound_tree (meaning_in z) b) (bound_tree (meaning_in y) b) (t.bound b h) h) bs.items k)
          (map_stays (bound_tree (meaning_in z)) (bound_tree (meaning_in y)) bs.items t.bound k ∙ q);
    }

-- What is put of a program's clauses, of a statement of super-predicates or of what is implied, is said.
pub clauses_said_of : (x z y : RefInterner) (n : ℕ) (items names : List ℕ) (p : Program) (s : Stated)
    (ks : List (ClauseKey NodeKey)) (b c : Bool) → Extends (meaning_in x) (meaning_in z) →
    SameTerms (meaning_in z) (meaning_in y) → Puts z y n (where_said b ks) (where_said c ks) None →
    All (λ k. IsTrue (known ((meaning_in z).clause k))) ks →
    map (meaning_in z).clause ks ≡ clauses_said items names p s → Some n ≡ slice_get items s.of → b ≡ is_super s.kind →
    c ≡ implies p.stated.items s → is_const s.kind ≡ false → (d : ℕ) → 0 < (meaning_in x).generics d →
    StatesLast (meaning_in x) (meaning_in y) items names p (s ∷ []) d
clauses_said_of x z y n items names p s ks b c e t r a q of f h other d g =
    let put = r d (subst (λ f. 0 < f d) (sym e.generics) g) in
    let stay : TermsStay (meaning_in z) (meaning_in y) = same_stay t in
    let k : All (λ k. IsTrue (known ((meaning_in y).clause k))) ks =
    All-weaker (λ k. IsTrue (known ((meaning_in z).clause k))) (λ k. IsTrue (known ((meaning_in y).clause k)))
    (λ k h. knows_as ((meaning_in z).clause k) ((meaning_in y).clause k) (stay.clause k h) h) ks a in
    let m : map (meaning_in y).clause ks ≡ clauses_said items names p s =
    map_stays (meaning_in z).clause (meaning_in y).clause ks stay.clause a ∙ q in
    let of_one : (b : Bool) → b && nat_eq n d ≡ b && is_number d (slice_get items s.of) =
    λ b. ap (λ o. b && is_number d o) of in
    record {
      generics = put.generics ∙ ap (λ f. f d) e.generics;
      supers = subst (λ b. IsSaid (meaning_in y).clause (clauses_said items names p)
          (((meaning_in x).tables).super_predicates d) (((meaning_in y).tables).super_predicates d)
          (cond b (Some s) None)) (of_one b ∙ ap (λ b. b && is_number d (slice_get items s.of)) f)
          (said_put (meaning_in y).clause (clauses_said items names p) (((meaning_in x).tables).super_predicates d)
          (((meaning_in y).tables).super_predicates d) ks s n d b
          (put.supers ∙ ap (λ t. put_for n d (where_said b ks) (t.super_predicates d)) e.tables) k m);
      implied = subst (λ b. IsSaid (meaning_in y).clause (clauses_said items names p)
          (((meaning_in x).tables).implied_predicates d) (((meaning_in y).tables).implied_predicates d)
          (cond b (Some s) None)) (of_one c ∙ ap (λ b. b && is_number d (slice_get items s.of)) h)
          (said_put (meaning_in y).clause (clauses_said items names p) (((meaning_in x).tables).implied_predicates d)
          (((meaning_in y).tables).implied_predicates d) ks s n d c
          (put.implied ∙ ap (λ t. put_for n d (where_said c ks) (t.implied_predicates d)) e.tables) k m);
      bounds = subst (λ b. IsSaid (bound_tree (meaning_in y)) (bounds_said items names p)
          (((meaning_in x).tables).const_bounds d) (((meaning_in y).tables).const_bounds d)
          (cond (b && is_number d (slice_get items s.of)) (Some s) None)) (sym other)
          (put.bounds ∙ ap (λ t. t.const_bounds d) e.tables);
    }

-- What is said by two statements that say the same.
said_as : {K S R : Type 0} (f : K → Tree) (said : S → List Tree) (tells : R → List Tree) (before after : List K) (b : Bool)
    (x : S) (y : R) → said x ≡ tells y → IsSaid f said before after (cond b (Some x) None) →
    IsSaid f tells before after (cond b (Some y) None)
said_as f said tells before after true x y e p = (p.0, p.1 ∙ e)
said_as f said tells before after false x y e p = p

no_implies : (all : List Stated) (s : Stated) → is_const s.kind ≡ true → implies all s ≡ false
no_implies all s e =
    let any = list_any (λ (t : Stated). nat_eq t.of s.of && is_implied t.kind) all in
    ap (λ b. b || (is_super s.kind && not any)) (no_implied s.kind e) ∙ ap (λ b. b && not any) (no_super s.kind e)

-- Const bounds that are put of a program's are said.
pub const_said_of : (x y : RefInterner) (n : ℕ) (items names : List ℕ) (p : Program) (s : Stated) (cs : List Clause) →
    cs ≡ slice_range p.clauses.items s.clauses.first s.clauses.behind → Some n ≡ slice_get items s.of →
    is_const s.kind ≡ true → (d : ℕ) →
    BoundsAt x y n (bound_clause_tree items p.parts.items (terms_said items names p)) cs d →
    StatesLast (meaning_in x) (meaning_in y) items names p (s ∷ []) d
const_said_of x y n items names p s cs q of e d b =
    let here = is_number d (slice_get items s.of) in
    record {
      generics = b.generics;
      supers = subst (λ k. IsSaid (meaning_in y).clause (clauses_said items names p)
          (((meaning_in x).tables).super_predicates d) (((meaning_in y).tables).super_predicates d)
          (cond (k && here) (Some s) None)) (sym (no_super s.kind e)) b.supers;
      implied = subst (λ k. IsSaid (meaning_in y).clause (clauses_said items names p)
          (((meaning_in x).tables).implied_predicates d) (((meaning_in y).tables).implied_predicates d)
          (cond (k && here) (Some s) None)) (sym (no_implies p.stated.items s e)) b.implied;
      bounds = subst (λ k. IsSaid (bound_tree (meaning_in y)) (bounds_said items names p)
          (((meaning_in x).tables).const_bounds d) (((meaning_in y).tables).const_bounds d) (cond k (Some s) None))
          (ap (is_number d) of ∙ ap (λ k. k && here) (sym e))
          (said_as (bound_tree (meaning_in y)) (map (bound_clause_tree items p.parts.items (terms_said items names p)))
          (bounds_said items names p) (((meaning_in x).tables).const_bounds d) (((meaning_in y).tables).const_bounds d)
          (nat_eq n d) cs s (ap (map (bound_clause_tree items p.parts.items (terms_said items names p))) q) b.bounds);
    }

-- The number of an item.
pub number_at : (x : RefInterner) (ids : List ItemId) (k : ℕ) (d : ItemId) → Some d ≡ slice_get ids k →
    Some d.0 ≡ slice_get (map (meaning_in x).id ids) k
unfolding meaning_of
number_at x ids k d e = ap (option_map (λ (d : ItemId). d.0)) e ∙ sym (slice_get-map (λ (d : ItemId). d.0) ids k)

-- Nothing is said of a trait that is not there.
pub none_said : (x : RefInterner) (ids : List ItemId) (names : List ℕ) (p : Program) (s : Stated) →
    None ≡ slice_get ids s.of → (d : ℕ) →
    StatesLast (meaning_in x) (meaning_in x) (map (meaning_in x).id ids) names p (s ∷ []) d
none_said x ids names p s e d =
    let items = map (meaning_in x).id ids in
    let none : None ≡ slice_get items s.of =
    ap (option_map (meaning_in x).id) e ∙ sym (slice_get-map (meaning_in x).id ids s.of) in
    record {
      generics = refl;
      supers = nowhere (is_super s.kind) (slice_get items s.of) (sym none) (meaning_in x).clause
          (clauses_said items names p) (((meaning_in x).tables).super_predicates d);
      implied = nowhere (implies p.stated.items s) (slice_get items s.of) (sym none) (meaning_in x).clause
          (clauses_said items names p) (((meaning_in x).tables).implied_predicates d);
      bounds = nowhere (is_const s.kind) (slice_get items s.of) (sym none) (bound_tree (meaning_in x))
          (bounds_said items names p) (((meaning_in x).tables).const_bounds d);
    }
  where
    nowhere : {K : Type 0} (b : Bool) (o : Option ℕ) → o ≡ None → (f : K → Tree) (said : Stated → List Tree)
        (ks : List K) → IsSaid f said ks ks (cond (b && is_number d o) (Some s) None)
    nowhere true None q f said ks = refl
    nowhere false None q f said ks = refl
    nowhere b (Some k) q f said ks = absurd (cc)

-- Nothing is said by no statement.
pub none_yet : (x y : RefInterner) (items names : List ℕ) (p : Program) → KeepsStatements x y → (d : ℕ) →
    0 < (meaning_in x).generics d → StatesLast (meaning_in x) (meaning_in y) items names p [] d
none_yet x y items names p k d g =
    let s = k d g in
    record { generics = s.generics; supers = s.supers; implied = s.implied; bounds = s.bounds }

pub stay_none : {Key Id Name : Type 0} (m : Meaning Key Id Name) → TermsStay m m
stay_none m = record {
  arg = λ k h. refl;
  clause = λ k h. refl;
  bound = λ b h. refl;
  id = λ d. refl;
  name = λ s. refl;
}

-- What is known, and what keys mean, stays too.
pub stay_known : {Key Id Name : Type 0} {m n : Meaning Key Id Name} → TermsStay m n →
    (keys : List (Option (GenericArgKind Key))) → AreKnown m keys → AreKnown n keys
stay_known {Key} {Id} {Name} {m} {n} s keys h = λ k key is.
    knows_as (arg_tree m key) (arg_tree n key) (s.arg key (h k key is)) (h k key is)

pub stay_built : {Key Id Name : Type 0} {m n : Meaning Key Id Name} → TermsStay m n → (ts : List Tree)
    (keys : List (Option (GenericArgKind Key))) → AreKnown m keys → AreBuilt m ts keys → AreBuilt n ts keys
stay_built s ts keys h b = λ k key is. s.arg key (h k key is) ∙ b k key is

pub stay_numbers : {A : Type 0} (f g : A → ℕ) → ((a : A) → g a ≡ f a) → (xs : List A) → map g xs ≡ map f xs
stay_numbers f g e [] = refl
stay_numbers f g e (x ∷ xs) = ap₂ (λ n ns. n ∷ ns) (e x) (stay_numbers f g e xs)

-- What one more statement says is said last.
pub step_said : (ids : List ItemId) (names : List SymbolId) (p : Program) (keys : List (Option (GenericArgKind NodeKey)))
    (i : ℕ) (x y z : RefInterner) (s : Stated) → i < length p.stated.items → TermsStay (meaning_in x) (meaning_in y) →
    TermsStay (meaning_in y) (meaning_in z) →
    AreBuilt (meaning_in y) (terms_said (map (meaning_in x).id ids) (map (meaning_in x).name names) p) keys →
    StatesOne ids names p keys (get_or p.stated.items i s) y z → (d : ℕ) → 0 < (meaning_in x).generics d →
    StatesLast (meaning_in x) (meaning_in y) (map (meaning_in x).id ids) (map (meaning_in x).name names) p
    (take i p.stated.items) d →
    StatesLast (meaning_in x) (meaning_in z) (map (meaning_in x).id ids) (map (meaning_in x).name names) p
    (take (i + 1) p.stated.items) d
step_said ids names p keys i x y z s h before later built one d g last =
    let list = p.stated.items in
    let items = map (meaning_in x).id ids in
    let texts = map (meaning_in x).name names in
    let there = subst (λ c. 0 < c) (sym last.generics) g in
    let next : StatesLast (meaning_in y) (meaning_in z) items texts p (get_or list i s ∷ []) d =
    subst (λ us. AreBuilt (meaning_in y) (terms_said us texts p) keys →
    StatesLast (meaning_in y) (meaning_in z) us texts p (get_or list i s ∷ []) d)
    (stay_numbers (meaning_in x).id (meaning_in y).id before.id ids)
    (subst (λ us. AreBuilt (meaning_in y) (terms_said (map (meaning_in y).id ids) us p) keys →
    StatesLast (meaning_in y) (meaning_in z) (map (meaning_in y).id ids) us p (get_or list i s ∷ []) d)
    (stay_numbers (meaning_in x).name (meaning_in y).name before.name names) (λ k. one k d there)) built in
    subst (λ ys. StatesLast (meaning_in x) (meaning_in z) items texts p ys d) (sym (take_more list i s h))
    (states_more items texts p (take i list) (get_or list i s) d later last next)

-- The same where the statements and the keys stand in lists that are lent.
pub step_lent : (ids : List ItemId) (names : List SymbolId) (p : Program)
    (keys lent : List (Option (GenericArgKind NodeKey))) (xs : List Stated) (i : ℕ) (x y z : RefInterner) (s : Stated)
    (b c : Bool) → xs ≡ p.stated.items → lent ≡ keys → i < length xs → TermsStay (meaning_in x) (meaning_in y) →
    TermsStay (meaning_in y) (meaning_in z) →
    AreBuilt (meaning_in y) (terms_said (map (meaning_in x).id ids) (map (meaning_in x).name names) p) keys →
    (IsTrue c → StatesOne ids names p lent (get_or xs i s) y z) → (IsTrue b → (d : ℕ) → 0 < (meaning_in x).generics d →
    StatesLast (meaning_in x) (meaning_in y) (map (meaning_in x).id ids) (map (meaning_in x).name names) p
    (take i p.stated.items) d) → IsTrue (b && c) → (d : ℕ) → 0 < (meaning_in x).generics d →
    StatesLast (meaning_in x) (meaning_in z) (map (meaning_in x).id ids) (map (meaning_in x).name names) p
    (take (i + 1) p.stated.items) d
step_lent ids names p keys lent xs i x y z s b c e f h before later built one last own d g =
    let parts = and_parts b c own in
    let told = one parts.1 in
    let told' : StatesOne ids names p keys (get_or p.stated.items i s) y z =
    subst (λ zs. StatesOne ids names p keys (get_or zs i s) y z) e
    (subst (λ ks. StatesOne ids names p ks (get_or xs i s) y z) f told) in
    step_said ids names p keys i x y z s (subst (λ zs. i < length zs) e h) before later built told' d g (last parts.0 d g)
