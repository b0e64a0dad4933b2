-- What is made of keys of terms under one head, and lists of clauses.
use Rattle.std.proofs.Common.{◌≡◌, ℕ, zero, suc, ◌<◌, arith, IsTrue, IfSome, List, [], ◌∷◌, ◌++◌, Option, Some, None}
use Rattle.std.proofs.Common.{◌+◌, length, map, get_or, take, slice_get, refl, sym, ap, ap₂, ◌∙◌, subst}
use Rattle.std.proofs.lemmas.Bool.{and_parts}
use Rattle.std.proofs.lemmas.List.{map-append, take_more}
use Rattle.std.proofs.lemmas.List.Elements.{All-append}
use Rattle.std.proofs.lemmas.Option.{slice_get-map}
use Rattle.std.specs.List.{All}
use Rattle.std.specs.Option.{option_map}
use Rattle.relation_terms.specs.Heads.{Head}
use Rattle.relation_terms.specs.Trees.{Tree, node, nil, cons, known, list_tree}
use Rattle.relation_terms.specs.Meaning.{Meaning, Extends, arg_tree}
use Rattle.relation_terms.specs.declared.terms.generic_arg.GenericArgKind.{GenericArgKind}
use Rattle.relation_terms.specs.declared.terms.keys.ClauseKey.{ClauseKey}
use Rattle.text_reading.specs.declared.reading.tree.ItemSort.{ItemSort}
use Rattle.text_terms.specs.Terms.{at}
use Rattle.text_terms.specs.Built.{AreKnown, AreBuilt}
use Rattle.text_reading.specs.declared.naming.program.Clause.{Clause}
use Rattle.relation_folds.proofs.FieldFolding.{both_known}
use Rattle.text_terms.proofs.BuildingLemmas.{alone_known, ids_stay, names_stay}
use Rattle.text_clauses.specs.Clauses.{declared_tree, clause_tree}
use Rattle.text_clauses.specs.Made.{MakesOne}

module _ {Key Id Name : Type 0} (m : Meaning Key Id Name) (keys : List (Option (GenericArgKind Key)))
    (sure : AreKnown m keys) (h : Head) where
  -- A head over what one key means.
  pub one_made : (t : Tree) (x : GenericArgKind Key) (a : ℕ) (tree : List Tree → Tree) →
      slice_get keys a ≡ Some (Some x) → t ≡ arg_tree m x → ((ts : List Tree) → node h (cons (at ts a) nil) ≡ tree ts) →
      IsTrue (known (node h (cons t nil))) × ((ts : List Tree) → AreBuilt m ts keys → node h (cons t nil) ≡ tree ts)
  one_made t x a tree e q f = (
    alone_known t (subst (λ u. IsTrue (known u)) (sym q) (sure a x e)),
    λ ts b. ap (λ u. node h (cons u nil)) (q ∙ b a x e) ∙ f ts,
  )

  -- A head over what two keys mean.
  pub two_made : (x y : GenericArgKind Key) (a b : ℕ) (tree : List Tree → Tree) → slice_get keys a ≡ Some (Some x) →
      slice_get keys b ≡ Some (Some y) → ((ts : List Tree) → node h (cons (at ts a) (cons (at ts b) nil)) ≡ tree ts) →
      IsTrue (known (node h (cons (arg_tree m x) (cons (arg_tree m y) nil)))) ×
      ((ts : List Tree) → AreBuilt m ts keys → node h (cons (arg_tree m x) (cons (arg_tree m y) nil)) ≡ tree ts)
  two_made x y a b tree e q f = (
    both_known (arg_tree m x) (arg_tree m y) (sure a x e) (sure b y q),
    λ ts z. ap₂ (λ u v. node h (cons u (cons v nil))) (z a x e) (z b y q) ∙ f ts,
  )

-- What a trait declares that is there, over its arguments.
pub declared_is : {D : Type 0} (f : D → ℕ) (ids : List D) (s : ItemSort) (n : ℕ) (d : D) (ts us : Tree) →
    Some d ≡ slice_get ids n → ts ≡ us → declared_tree s (Some (f d)) ts ≡ declared_tree s (slice_get (map f ids) n) us
declared_is f ids s n d ts us e p = ap₂ (declared_tree s) (ap (option_map f) e ∙ sym (slice_get-map f ids n)) p

-- Clauses that are known stay so, and with one more that is known all are.
pub clauses_with : {Key Id Name : Type 0} {m n : Meaning Key Id Name} → Extends m n → (ks ls : List (ClauseKey Key))
    (k : ClauseKey Key) → All (λ c. IsTrue (known (m.clause c))) ks → IsTrue (known (n.clause k)) → ls ≡ ks ++ k ∷ [] →
    All (λ c. IsTrue (known (n.clause c))) ls
clauses_with {Key} {Id} {Name} {m} {n} grown ks ls k a p e =
    subst (All (λ c. IsTrue (known (n.clause c)))) (sym e)
    (All-append (λ c. IsTrue (known (n.clause c))) ks (k ∷ []) stay (one p))
  where
    stay : All (λ c. IsTrue (known (n.clause c))) ks
    stay i d h = subst (λ t. IsTrue (known t)) (sym (grown.clause (get_or ks i d) (a i d h))) (a i d h)

    one : IsTrue (known (n.clause k)) → All (λ c. IsTrue (known (n.clause c))) (k ∷ [])
    one q zero d h = q
    one q (suc i) d h = absurd (omega arith)

-- The trees of known clauses stay.
pub clauses_stay : {Key Id Name : Type 0} {m n : Meaning Key Id Name} → Extends m n → (ks : List (ClauseKey Key)) →
    All (λ c. IsTrue (known (m.clause c))) ks → map n.clause ks ≡ map m.clause ks
clauses_stay grown [] a = refl
clauses_stay grown (k ∷ ks) a =
    ap₂ (λ t ts. t ∷ ts) (grown.clause k (a zero k (omega arith)))
    (clauses_stay grown ks (λ i d h. a (suc i) d (omega (arith, h))))

-- One more clause, of the next of a list of predicates.
pub each_with : {A B : Type 0} (f : A → Tree) (g : B → Tree) (xs : List A) (i : ℕ) (d : A) (ks ls : List B) (k : B) →
    i < length xs → map g ks ≡ map f (take i xs) → g k ≡ f (get_or xs i d) → ls ≡ ks ++ k ∷ [] →
    map g ls ≡ map f (take (i + 1) xs)
each_with f g xs i d ks ls k h e q p =
    ap (map g) p ∙ (map-append g ks (k ∷ []) ∙ (ap₂ (λ a b. a ++ b ∷ []) e q
    ∙ (sym (map-append f (take i xs) (get_or xs i d ∷ [])) ∙ sym (ap (map f) (take_more xs i d h)))))

-- What is made as one clause is known.
pub one_known_made : {Key Id Name : Type 0} (n : Meaning Key Id Name) (t : Tree) (o : Option (ClauseKey Key)) →
    MakesOne n t o → IfSome o (λ k. IsTrue (known (n.clause k)))
one_known_made n t None h = h
one_known_made n t (Some k) h = h.0

-- The tree of a predicate, over ids and names as they were.
pub clause_stays : {Key Id Name : Type 0} {m p : Meaning Key Id Name} → Extends m p → (ids : List Id)
    (names : List Name) (parts : List ℕ) (ts : List Tree) (c : Clause) →
    clause_tree (map p.id ids) (map p.name names) parts ts c ≡ clause_tree (map m.id ids) (map m.name names) parts ts c
clause_stays e ids names parts ts c =
    ap₂ (λ x y. clause_tree x y parts ts c) (ids_stay e ids) (names_stay e names)

-- The first member of a known list is known.
pub first_known : {A : Type 0} (f : A → Tree) (t : Tree) (xs rest : List A) (x : A) → xs ≡ x ∷ rest →
    t ≡ list_tree f xs → IsTrue (known t) → IsTrue (known (f x))
first_known f t xs rest x e q k =
    (and_parts (known (f x)) (known (list_tree f rest)) (subst (λ u. IsTrue (known u)) (q ∙ ap (list_tree f) e) k)).0
