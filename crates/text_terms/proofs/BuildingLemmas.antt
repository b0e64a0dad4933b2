-- Keys of terms, and the trees that they mean.
use Rattle.std.proofs.Common.{◌≡◌, ◌≢◌, cond, IsSome, ℕ, ◌+◌, ◌<◌, ◌&&◌, Bool, true, IsTrue, IfSome, List, [], ◌∷◌, ◌++◌, Option, Some, None, inl, inr, length, map, get_or, take, drop, refl, sym, ◌∙◌, ap, ap₂, subst, arith, length-append, slice_get}
use Rattle.std.proofs.lemmas.List.{get_or_append_left, take_more, length-take-le}
use Rattle.std.proofs.lemmas.Option.{slice_get_within, slice_get-map}
use Rattle.std.specs.Option.{option_map}
use Rattle.std.proofs.Math.Seq.{get_or-append_seam}
use Rattle.std.proofs.Math.Path.{fun_ext}
use Rattle.relation_terms.specs.Trees.{Tree, leaf, node, nil, cons, known, list_tree, front, last}
use Rattle.relation_terms.specs.Heads.{Leaf, unknown, Head, BoundKind, bound_kind, type_kind, region_kind, const_kind}
use Rattle.term_enums.specs.declared.FnHeader.{FnHeader}
use Rattle.text_reading.proofs.TreeLemmas.{get_more}
use Rattle.relation_terms.proofs.Binders.{last_known}
use Rattle.std.proofs.lemmas.Bool.{and_parts}
use Rattle.relation_terms.specs.Meaning.{Meaning, Extends, arg_tree, term_tree, object_predicate_tree, bound_kind_of, bound_kinds}
use Rattle.relation_terms.specs.declared.terms.binder.BoundVariableKind.{BoundVariableKind}
use Rattle.relation_terms.specs.declared.terms.binder.BoundVariableKind.TheVariants.{Ty as TyVariable}
use Rattle.relation_terms.specs.declared.terms.binder.BoundVariableKind.TheVariants.{Region as RegionVariable}
use Rattle.relation_terms.specs.declared.terms.binder.BoundVariableKind.TheVariants.{Const as ConstVariable}
use Rattle.relation_terms.specs.declared.terms.generic_arg.GenericArgKind.{GenericArgKind}
use Rattle.relation_terms.specs.declared.terms.generic_arg.GenericArgKind.TheVariants.{Ty, Const}
use Rattle.relation_terms.specs.declared.terms.keys.TyKey.{TyKey}
use Rattle.relation_terms.specs.declared.terms.keys.ConstKey.{ConstKey}
use Rattle.relation_terms.specs.declared.terms.keys.PatKey.{PatKey}
use Rattle.relation_terms.specs.declared.terms.generic_arg.TermKind.{TermKind}
use Rattle.relation_terms.specs.declared.terms.generic_arg.TermKind.TheVariants.{Ty as TyTerm, Const as ConstTerm}
use Rattle.relation_terms.specs.declared.predicate.existential.ExistentialPredicate.{ExistentialPredicate}
use Rattle.relation_terms.specs.declared.terms.binder.Binder.{Binder}
use Rattle.relation_terms.proofs.Stays.{stays_object_predicate}
use Rattle.text_terms.specs.declared.building.inner.Inner.{Inner}
use Rattle.text_terms.specs.declared.building.inner.Inner.TheVariants as inner
use Rattle.text_reading.specs.declared.reading.tree.ItemSort.{ItemSort}
use Rattle.text_reading.specs.declared.naming.program.Term.{Term}
use Rattle.text_terms.specs.Terms.{at, leaf_of, head_of, item_tree, text_term_tree, trees_from, trees_of}
use Rattle.text_terms.specs.Terms.{with_variable, variable_of, variables_of, fn_ptr_tree}
use Rattle.text_terms.specs.Built.{EachKnown, EachBuilt, AreBuilt, AreInnerBuilt, inner_tree, term_arg, Makes, MakesFrom, MakesOf, MakesTree, MakesInner}

pub both_true : (a b : Bool) → IsTrue a → IsTrue b → IsTrue (a && b)
both_true a b h k = ap₂ (λ x y. x && y) h k

-- The members of a list of which each is there.
module _ {A : Type 0} (f : ℕ → Option (Option A)) where
  first_is : (n : ℕ) (ns : List ℕ) (x : A) (xs : List A) → map f (n ∷ ns) ≡ map (λ key. Some (Some key)) (x ∷ xs) → f n ≡ Some (Some x)
  first_is n ns x xs h = ap (λ l. get_or l 0 (f n)) h

  rest_are : (n : ℕ) (ns : List ℕ) (x : A) (xs : List A) → map f (n ∷ ns) ≡ map (λ key. Some (Some key)) (x ∷ xs) → map f ns ≡ map (λ key. Some (Some key)) xs
  rest_are n ns x xs h = ap (drop 1) h

-- Keys of one kind, by the trees that they mean.
module _ {K : Type 0} (f : K → Tree) (keys : List (Option K)) where
  -- Keys that are there are known as a list.
  pub known_list : EachKnown f keys → (ns : List ℕ) (xs : List K) → map (slice_get keys) ns ≡ map (λ key. Some (Some key)) xs → IsTrue (known (list_tree f xs))
  known_list h ns [] e = refl
  known_list h [] (x ∷ xs) e = absurd cc
  known_list h (n ∷ ns) (x ∷ xs) e =
      both_true (known (f x)) (known (list_tree f xs)) (h n x (first_is (slice_get keys) n ns x xs e))
      (known_list h ns xs (rest_are (slice_get keys) n ns x xs e))

  -- Their list means that of the trees.
  pub built_list : (trees : List Tree) → EachBuilt f trees keys → (ns : List ℕ) (xs : List K) → map (slice_get keys) ns ≡ map (λ key. Some (Some key)) xs → list_tree f xs ≡ list_tree (at trees) ns
  built_list trees h [] [] e = refl
  built_list trees h (n ∷ ns) [] e = absurd cc
  built_list trees h [] (x ∷ xs) e = absurd cc
  built_list trees h (n ∷ ns) (x ∷ xs) e =
      ap₂ cons (h n x (first_is (slice_get keys) n ns x xs e))
      (built_list trees h ns xs (rest_are (slice_get keys) n ns x xs e))

  -- One more key, if there is one.
  pub known_more : (o : Option K) → EachKnown f keys → IfSome o (λ key. IsTrue (known (f key))) → EachKnown f (keys ++ o ∷ [])
  known_more o h p k key e = elim (get_more keys o (Some key) k e) [
    | inl q ↦ h k key q
    | inr q ↦ subst (λ z. IfSome z (λ key. IsTrue (known (f key)))) q.1 p
  ]

  pub built_more : (trees : List Tree) (t : Tree) (o : Option K) → length trees ≡ length keys → EachBuilt f trees keys → IfSome o (λ key. f key ≡ t) → EachBuilt f (trees ++ t ∷ []) (keys ++ o ∷ [])
  built_more trees t o same h p k key e = elim (get_more keys o (Some key) k e) [
    | inl q ↦
        let below : k < length keys = slice_get_within keys k (Some key) q in
        h k key q ∙ sym (get_or_append_left trees (t ∷ []) (leaf unknown) k (omega (arith, below, same)))
    | inr q ↦
        let here : k ≡ length trees = omega (arith, q.0, same) in
        subst (λ z. IfSome z (λ key. f key ≡ t)) q.1 p
        ∙ sym (ap (at (trees ++ t ∷ [])) here ∙ get_or-append_seam trees t [] (leaf unknown))
  ]

-- Lists of types and of constants, as arguments.
pub tys_tree : {Key Id Name : Type 0} (m : Meaning Key Id Name) (ts : List (TyKey Key)) → list_tree (arg_tree m) (map Ty ts) ≡ list_tree m.ty ts
tys_tree m [] = refl
tys_tree m (t ∷ ts) = ap (cons (m.ty t)) (tys_tree m ts)

pub consts_tree : {Key Id Name : Type 0} (m : Meaning Key Id Name) (cs : List (ConstKey Key)) → list_tree (arg_tree m) (map Const cs) ≡ list_tree m.const_ cs
consts_tree m [] = refl
consts_tree m (c ∷ cs) = ap (cons (m.const_ c)) (consts_tree m cs)

-- Lists of patterns and of predicates, as they are built.
pub pats_tree : {Key Id Name : Type 0} (m : Meaning Key Id Name) (ps : List (PatKey Key)) → list_tree (inner_tree m) (map inner.Pat ps) ≡ list_tree m.pat ps
pats_tree m [] = refl
pats_tree m (p ∷ ps) = ap (cons (m.pat p)) (pats_tree m ps)

pub predicates_tree : {Key Id Name : Type 0} (m : Meaning Key Id Name) (bs : List (Binder Key (ExistentialPredicate Key Id))) →
    list_tree (inner_tree m) (map inner.Predicate bs) ≡ list_tree (object_predicate_tree m) bs
predicates_tree m [] = refl
predicates_tree m (b ∷ bs) = ap (cons (object_predicate_tree m b)) (predicates_tree m bs)

-- A pattern and a predicate stay as the interner grows.
pub inner_stays : {Key Id Name : Type 0} {m n : Meaning Key Id Name} → Extends m n → (i : Inner Key Id) → IsTrue (known (inner_tree m i)) → inner_tree n i ≡ inner_tree m i
inner_stays e (inner.Pat p) k = e.pat p k
inner_stays e (inner.Predicate b) k = stays_object_predicate e b k

-- The tree of a term is that of the argument that it is.
pub term_is : {Key Id Name : Type 0} (m : Meaning Key Id Name) (t : TermKind Key) → term_tree m t ≡ arg_tree m (term_arg t)
term_is m (TyTerm t) = refl
term_is m (ConstTerm c) = refl

-- A head of an item that is there.
pub head_is : {D : Type 0} (f : ℕ → Head) (h : D → ℕ) (ids : List D) (n : ℕ) (d : D) (ts us : Tree) → Some d ≡ slice_get ids n → ts ≡ us →
    node (f (h d)) ts ≡ head_of f (slice_get (map h ids) n) us
head_is f h ids n d ts us e p = ap₂ (head_of f) (ap (option_map h) e ∙ sym (slice_get-map h ids n)) p

-- What is known stays as the interner grows.
module _ {K : Type 0} (f g : K → Tree) (stays : (k : K) → IsTrue (known (f k)) → g k ≡ f k) (keys : List (Option K)) where
  pub known_stays : EachKnown f keys → EachKnown g keys
  known_stays h k key p = subst (λ t. IsTrue (known t)) (sym (stays key (h k key p))) (h k key p)

  pub built_stays : (trees : List Tree) → EachKnown f keys → EachBuilt f trees keys → EachBuilt g trees keys
  built_stays trees h b k key p = stays key (h k key p) ∙ b k key p

pub ids_stay : {Key Id Name : Type 0} {m n : Meaning Key Id Name} (e : Extends m n) (ids : List Id) → map n.id ids ≡ map m.id ids
ids_stay e ids = ap (λ f. map f ids) (fun_ext e.id)

pub names_stay : {Key Id Name : Type 0} {m n : Meaning Key Id Name} (e : Extends m n) (names : List Name) → map n.name names ≡ map m.name names
names_stay e names = ap (λ f. map f names) (fun_ext e.name)

-- One more term.
module _ (items names parts : List ℕ) where
  from_more : (ts : List Tree) (xs : List Term) (x : Term) → trees_from items names parts ts (xs ++ x ∷ []) ≡ trees_from items names parts ts xs ++ text_term_tree items names parts (trees_from items names parts ts xs) x ∷ []
  from_more ts [] x = refl
  from_more ts (y ∷ ys) x = from_more (ts ++ text_term_tree items names parts ts y ∷ []) ys x

  pub trees_more : (xs : List Term) (x : Term) → trees_of items names parts (xs ++ x ∷ []) ≡ trees_of items names parts xs ++ text_term_tree items names parts (trees_of items names parts xs) x ∷ []
  trees_more xs x = from_more [] xs x

  length_from : (ts : List Tree) (xs : List Term) → length (trees_from items names parts ts xs) ≡ length ts + length xs
  length_from ts [] = omega arith
  length_from ts (y ∷ ys) =
      let t = text_term_tree items names parts ts y in
      omega (arith, length_from (ts ++ t ∷ []) ys, length-append ts (t ∷ []))

  pub length_trees : (xs : List Term) → length (trees_of items names parts xs) ≡ length xs
  length_trees xs = omega (arith, length_from [] xs)

-- A leaf that is made of a name that is there.
pub leaf_is : {N : Type 0} (f : ℕ → Leaf) (h : N → ℕ) (names : List N) (n : ℕ) (x : N) → Some x ≡ slice_get names n → leaf (f (h x)) ≡ leaf_of f (slice_get (map h names) n)
leaf_is f h names n x e = ap (leaf_of f) (ap (option_map h) e ∙ sym (slice_get-map h names n))

-- An item that is there, over its arguments.
pub item_is : {D : Type 0} (h : D → ℕ) (ids : List D) (s : ItemSort) (n : ℕ) (d : D) (ts us : Tree) → Some d ≡ slice_get ids n → ts ≡ us → item_tree s (Some (h d)) ts ≡ item_tree s (slice_get (map h ids) n) us
item_is h ids s n d ts us e p = ap₂ (item_tree s) (ap (option_map h) e ∙ sym (slice_get-map h ids n)) p

pub alone_known : (t : Tree) → IsTrue (known t) → IsTrue (known (cons t nil))
alone_known t h = both_true (known t) true h refl

-- What is made means an equal tree.
pub tree_as : {Key Id Name : Type 0} (n : Meaning Key Id Name) (t u : Tree) (o : Option (GenericArgKind Key)) → t ≡ u → MakesTree n t o → MakesTree n u o
tree_as n t u o e h = subst (λ z. MakesTree n z o) e h

-- The same of a pattern or a predicate.
pub inner_as : {Key Id Name : Type 0} (n : Meaning Key Id Name) (t u : Tree) (o : Option (Inner Key Id)) → t ≡ u → MakesInner n t o → MakesInner n u o
inner_as n t u o e h = subst (λ z. MakesInner n z o) e h

-- What is made of the trees that keys mean.
pub makes : {Key Id Name : Type 0} (m n : Meaning Key Id Name) (keys : List (Option (GenericArgKind Key))) (tree : List Tree → Tree) (t : Tree) (o : Option (GenericArgKind Key)) →
    MakesTree n t o → ((trees : List Tree) → AreBuilt m trees keys → t ≡ tree trees) → Makes m n keys tree o
makes m n keys tree t None h f = h
makes m n keys tree t (Some k) h f = (h.0, λ trees b. h.1 ∙ f trees b)

-- The same of anything that is made of keys.
pub made_from : {Key Id Name K : Type 0} (m : Meaning Key Id Name) (keys : List (Option (GenericArgKind Key))) (tree : List Tree → Tree) (f : K → Tree) (t : Tree) (o : Option K) →
    IfSome o (λ key. IsTrue (known (f key)) × (f key ≡ t)) → ((trees : List Tree) → AreBuilt m trees keys → t ≡ tree trees) → MakesFrom m f keys tree o
made_from m keys tree f t None h e = h
made_from m keys tree f t (Some k) h e = (h.0, λ trees b. h.1 ∙ e trees b)

-- What is made of keys and patterns.
module _ {Key Id Name : Type 0} (m : Meaning Key Id Name) (keys : List (Option (GenericArgKind Key))) (pats : List (Option (Inner Key Id))) (tree : List Tree → Tree) where
  -- What is made of keys alone is made of them and of any patterns.
  pub makes_of : (n : Meaning Key Id Name) (o : Option (GenericArgKind Key)) → Makes m n keys tree o → MakesOf m (arg_tree n) keys pats tree o
  makes_of n None h = h
  makes_of n (Some k) h = (h.0, λ trees b p. h.1 trees b)

  pub from_of : {K : Type 0} (f : K → Tree) (o : Option K) → MakesFrom m f keys tree o → MakesOf m f keys pats tree o
  from_of f None h = h
  from_of f (Some k) h = (h.0, λ trees b p. h.1 trees b)

  -- What has no parts is made of no tree.
  pub leaf_makes : (n : Meaning Key Id Name) (o : Option (GenericArgKind Key)) → ((ts : List Tree) → MakesTree n (tree ts) o) → MakesOf m (arg_tree n) keys pats tree o
  leaf_makes n None f = f []
  leaf_makes n (Some k) f = ((f []).0, λ trees b p. (f trees).1)

  -- What is made means a tree that is made of those that keys and patterns mean.
  pub made_of : {K : Type 0} (f : K → Tree) (t : Tree) (o : Option K) → IfSome o (λ key. IsTrue (known (f key)) × (f key ≡ t)) →
      ((trees : List Tree) → AreBuilt m trees keys → AreInnerBuilt m trees pats → t ≡ tree trees) → MakesOf m f keys pats tree o
  made_of f t None h e = h
  made_of f t (Some k) h e = (h.0, λ trees b p. h.1 ∙ e trees b p)

  pub made_known : {K : Type 0} (f : K → Tree) (o : Option K) → MakesOf m f keys pats tree o → IfSome o (λ key. IsTrue (known (f key)))
  made_known f None h = h
  made_known f (Some k) h = h.0

  pub made_is : {K : Type 0} (f : K → Tree) (o : Option K) (trees : List Tree) → AreBuilt m trees keys → AreInnerBuilt m trees pats → MakesOf m f keys pats tree o → IfSome o (λ key. f key ≡ tree trees)
  made_is f None trees b p h = h
  made_is f (Some k) trees b p h = h.1 trees b p

-- Of no keys each is known, and means its tree.
pub none_known : {K : Type 0} (f : K → Tree) (keys : List (Option K)) → keys ≡ [] → EachKnown f keys
none_known f keys e k key h = let p = subst (λ xs. slice_get xs k ≡ Some (Some key)) e h in absurd cc

pub none_built : {K : Type 0} (f : K → Tree) (trees : List Tree) (keys : List (Option K)) → keys ≡ [] → EachBuilt f trees keys
none_built f trees keys e k key h = let p = subst (λ xs. slice_get xs k ≡ Some (Some key)) e h in absurd cc

-- What is made of the next term means its tree, over ids and names as they were.
pub step_is : {Key Id Name K : Type 0} {m p : Meaning Key Id Name} (f : K → Tree) (keys : List (Option (GenericArgKind Key))) (pats : List (Option (Inner Key Id))) (o : Option K) (ids : List Id) (names : List Name) (parts : List ℕ)
    (trees : List Tree) (x : Term) → Extends m p → AreBuilt p trees keys → AreInnerBuilt p trees pats →
    MakesOf p f keys pats (λ ts. text_term_tree (map p.id ids) (map p.name names) parts ts x) o → IfSome o (λ key. f key ≡ text_term_tree (map m.id ids) (map m.name names) parts trees x)
step_is {m = m} {p = p} f keys pats o ids names parts trees x e b q made =
    let made_here = made_is p keys pats (λ ts. text_term_tree (map p.id ids) (map p.name names) parts ts x) f o trees b q made in
    subst (λ u. IfSome o (λ key. f key ≡ u)) (ap₂ (λ a c. text_term_tree a c parts trees x) (ids_stay e ids) (names_stay e names)) made_here

-- One more key, of the next term.
pub built_step : {K : Type 0} (f g : K → Tree) (keys : List (Option K)) (o : Option K) (items names parts : List ℕ) (xs : List Term) (i : ℕ) (d : Term) → i < length xs → length keys ≡ i →
    ((k : K) → IsTrue (known (f k)) → g k ≡ f k) → EachKnown f keys → EachBuilt f (trees_of items names parts (take i xs)) keys →
    IfSome o (λ key. g key ≡ text_term_tree items names parts (trees_of items names parts (take i xs)) (get_or xs i d)) → EachBuilt g (trees_of items names parts (take (i + 1) xs)) (keys ++ o ∷ [])
built_step f g keys o items names parts xs i d h same stays sure b made =
    let x = get_or xs i d in
    let trees = trees_of items names parts (take i xs) in
    let first : length (take i xs) ≡ i = length-take-le i xs (omega (arith, h)) in
    subst (λ z. EachBuilt g z (keys ++ o ∷ []))
    (sym (ap (trees_of items names parts) (take_more xs i d h) ∙ trees_more items names parts (take i xs) x))
    (built_more g keys trees (text_term_tree items names parts trees x) o
    (length_trees items names parts (take i xs) ∙ first ∙ sym same)
    (built_stays f g stays keys trees sure b) made)

-- The keys of one kind, or the patterns, with that of the next term.
module _ {Key Id Name : Type 0} {m p : Meaning Key Id Name} (e : Extends m p) (ids : List Id) (names : List Name) (parts : List ℕ) (keys : List (Option (GenericArgKind Key))) (pats : List (Option (Inner Key Id)))
    (xs : List Term) (i : ℕ) (d : Term) (h : i < length xs) (b : AreBuilt p (trees_of (map m.id ids) (map m.name names) parts (take i xs)) keys) (q : AreInnerBuilt p (trees_of (map m.id ids) (map m.name names) parts (take i xs)) pats) where
  pub next_key : {K : Type 0} (f g : K → Tree) (ks ls : List (Option K)) (o : Option K) (keys_now : List (Option (GenericArgKind Key))) (pats_now : List (Option (Inner Key Id))) (parts_now : List ℕ) →
      length ks ≡ i → ((k : K) → IsTrue (known (f k)) → g k ≡ f k) → EachKnown f ks → EachBuilt f (trees_of (map m.id ids) (map m.name names) parts (take i xs)) ks →
      keys_now ≡ keys → pats_now ≡ pats → parts_now ≡ parts → ls ≡ ks ++ o ∷ [] →
      MakesOf p g keys_now pats_now (λ ts. text_term_tree (map p.id ids) (map p.name names) parts_now ts (get_or xs i d)) o →
      EachKnown g ls × EachBuilt g (trees_of (map m.id ids) (map m.name names) parts (take (i + 1) xs)) ls
  next_key {K} f g ks ls o keys_now pats_now parts_now same stays sure built ek ep en el made =
      let x = get_or xs i d in
      let items = map m.id ids in
      let texts = map m.name names in
      let tree : List ℕ → List Tree → Tree = λ ns ts. text_term_tree (map p.id ids) (map p.name names) ns ts x in
      let over_parts : MakesOf p g keys_now pats_now (tree parts) o = subst (λ z. MakesOf p g keys_now pats_now (tree z) o) en made in
      let over_pats : MakesOf p g keys_now pats (tree parts) o = subst (λ z. MakesOf p g keys_now z (tree parts) o) ep over_parts in
      let over : MakesOf p g keys pats (tree parts) o = subst (λ z. MakesOf p g z pats (tree parts) o) ek over_pats in (
        subst (EachKnown g) (sym el) (known_more g ks o (known_stays f g stays ks sure) (made_known p keys pats (tree parts) g o over)),
        subst (EachBuilt g (trees_of items texts parts (take (i + 1) xs))) (sym el)
            (built_step f g ks o items texts parts xs i d h same stays sure built (step_is g keys pats o ids names parts (trees_of items texts parts (take i xs)) x e b q over)),
      )

-- What a binder binds, one more at its end.
with_split : (o : Option BoundKind) (p : Option (List BoundKind)) (ks : List BoundKind) → with_variable o p ≡ Some ks →
    (k : BoundKind) × (ls : List BoundKind) × (o ≡ Some k) × (p ≡ Some ls) × (k ∷ ls ≡ ks)
with_split (Some k) (Some ls) ks h = let e : k ∷ ls ≡ ks = cc in (k, ls, refl, refl, e)
with_split (Some k) None ks h = absurd cc
with_split None p ks h = absurd cc

pub variables_more : (f : ℕ → Tree) (ns : List ℕ) (n : ℕ) (ks : List BoundKind) (k : BoundKind) → variables_of (list_tree f ns) ≡ Some ks →
    variable_of (f n) ≡ Some k → variables_of (list_tree f (ns ++ n ∷ [])) ≡ Some (ks ++ k ∷ [])
variables_more f [] n ks k h e =
    let none : [] ≡ ks = cc in
    ap (λ o. with_variable o (Some [])) e ∙ ap (λ z. Some (z ++ k ∷ [])) none
variables_more f (m ∷ ns) n ks k h e =
    let s = with_split (variable_of (f m)) (variables_of (list_tree f ns)) ks h in
    ap₂ with_variable s.2 (variables_more f ns n s.1 k s.3 e) ∙ ap (λ z. Some (z ++ k ∷ [])) s.4

-- The inputs of a known list that is not empty, which is all of it but its last member.
pub inputs_known : {A : Type 0} (f : A → Tree) (xs : List A) → xs ≢ [] → IsTrue (known (list_tree f xs)) →
    IsTrue (known (front (list_tree f xs)))
inputs_known f [] h k = absurd (h refl)
inputs_known f (x ∷ []) h k =
    let p : IsTrue (known (f x)) = (and_parts (known (f x)) true k).0 in
    subst (λ b. IsTrue (known (cond b nil (leaf unknown)))) (sym p) refl
inputs_known f (x ∷ y ∷ ys) h k =
    let p = and_parts (known (f x)) (known (list_tree f (y ∷ ys))) k in
    both_true (known (f x)) (known (front (list_tree f (y ∷ ys)))) p.0 (inputs_known f (y ∷ ys) (λ e. absurd cc) p.1)

-- What a binder binds stays as the interner grows.
kind_stays : {Key Id Name : Type 0} {m n : Meaning Key Id Name} → Extends m n → (v : BoundVariableKind Name) →
    bound_kind_of n v ≡ bound_kind_of m v
kind_stays e (TyVariable x) = ap (bound_kind type_kind) (e.name x)
kind_stays e (RegionVariable x) = ap (bound_kind region_kind) (e.name x)
kind_stays e (ConstVariable x) = ap (bound_kind const_kind) (e.name x)

pub kinds_stay : {Key Id Name : Type 0} {m n : Meaning Key Id Name} → Extends m n → (vs : List (BoundVariableKind Name)) →
    bound_kinds n vs ≡ bound_kinds m vs
kinds_stay e [] = refl
kinds_stay e (v ∷ vs) = ap₂ (λ k ks. k ∷ ks) (kind_stays e v) (kinds_stay e vs)

-- A known signature under a known binder.
pub signature_known : (o : Option (List BoundKind)) (h : FnHeader) (ts : Tree) → IsSome o → IsTrue (known (front ts)) →
    IsTrue (known (fn_ptr_tree h o ts))
signature_known (Some ks) h ts i k =
    let types = both_true (known (front ts)) (known (cons (last ts) nil)) k (alone_known (last ts) (last_known ts k)) in
    both_true (known (front ts) && known (cons (last ts) nil)) true types refl
signature_known None h ts i k = absurd cc
