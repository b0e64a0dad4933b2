-- From the parts of a term to the term.
use Rattle.std.proofs.Common.{◌≡◌, ℕ, zero, suc, ◌<◌, refl, sym, ap, ◌∙◌, subst, subst₂, arith, List, [], ◌∷◌, map}
use Rattle.std.proofs.Common.{false, Option, Some, IsTrue, Result, Ok, Err, IfErr, ⊎_elim, inl, inr}
use Rattle.std.specs.Prelude.{IfOk, OnOk, IsErrAnd}
use Rattle.relation_terms.specs.Heads.{Sort, no_sort, region_sort, type_sort, const_sort}
use Rattle.relation_terms.specs.Heads.{BoundKind, bound_kind, region_kind, type_kind, const_kind, bound_sort}
use Rattle.relation_terms.specs.Heads.{type_var, int_var, float_var, const_var, region_var}
use Rattle.relation_terms.specs.Heads.{fresh_type, fresh_int, fresh_float, fresh_const}
use Rattle.relation_terms.specs.Heads.{variable, bound, placeholder, atom, unknown}
use Rattle.relation_terms.specs.Trees.{Tree, leaf, node, bind, nil, cons, known, count, nth, IsList}
use Rattle.relation_terms.specs.Meaning.{Meaning, under, bound_kinds}
use Rattle.relation_terms.specs.Interning.{Sorted}
use Rattle.relation_terms.specs.Parts.{parts_of, tree_sort, part_tree, part_sort}
use Rattle.relation_terms.proofs.Parts.{sort_known}
use Rattle.relation_terms.specs.declared.terms.part_kind.Part.{Part}
use Rattle.relation_terms.specs.declared.terms.binder.BoundVariableKind.{BoundVariableKind}
use Rattle.relation_terms.specs.declared.terms.binder.BoundVariableKind.TheVariants as variable_of
use Rattle.relation_folds.specs.Visits.{visited_sort}
use Rattle.relation_folds.proofs.Visiting.{has_sort}
use Rattle.relation_folds.proofs.Depths.{is_binder}
use Rattle.relation_semantics.specs.Stores.{Store}
use Rattle.relation_terms.specs.declared.terms.keys.BoundVarsKey.{BoundVarsKey}
use Rattle.may_relate.specs.declared.around.Around.{Around, Nothing, Binder'}
use Rattle.may_relate.specs.Around.{variable_sort, sorts_around, IsInside}
use Rattle.may_relate.specs.declared.unfit.Unfit.{Unfit}
use Rattle.may_relate.specs.declared.unfit.Unfit.TheVariants.{Memory}
use Rattle.may_relate.specs.Fitting.{FitsAll, FitsOwn, SomeUnfit, OwnUnfit, TellsUnfit}
use Rattle.may_relate.specs.Fitting.{sorts_inside}

-- What is so of an error is so of a result that hands it on.
pub handed_on : {X : Type 0} (r : Result X Unfit) (P : Unfit → Type 0) (e : Unfit) → IsErrAnd r (λ f. f ≡ e) → P e →
    IfErr r P
handed_on (Ok x) P e is p = absurd is
handed_on (Err f) P e is p = subst P (sym is) p

-- Of memory nothing has to be told.
pub refused : {X : Type 0} (st : Store) (ls : List (List Sort)) (t : Tree) (r : Result X Unfit) →
    IfErr r (λ e. e ≡ Memory) → IfErr r (TellsUnfit st ls t)
refused st ls t (Ok x) is = tt
refused st ls t (Err e) is = λ other. absurd (other is)

module _ (st : Store) (ls : List (List Sort)) where
  -- A term, by its parts.
  pub fits_whole : (t : Tree) → (tree_sort t ≡ no_sort → ⊥) → FitsOwn st ls t →
      FitsAll st (sorts_inside t ls) (parts_of t) → FitsAll st ls t
  fits_whole (leaf l) n o p = o
  fits_whole (node h ts) n o p = p
  fits_whole (bind ks t) n o p = p.0
  fits_whole nil n o p = tt
  fits_whole (cons t ts) n o p = absurd (n refl)

  -- What is wrong with a term is so by itself, or in a part of it.
  pub unfit_own : (t : Tree) (e : Unfit) → OwnUnfit st ls t e → SomeUnfit st ls t e
  unfit_own (leaf l) e u = u
  unfit_own (node h ts) e u = absurd u
  unfit_own (bind ks t) e u = absurd u
  unfit_own nil e u = absurd u
  unfit_own (cons t ts) e u = absurd u

  pub unfit_inside : (t : Tree) (e : Unfit) → SomeUnfit st (sorts_inside t ls) (parts_of t) e → SomeUnfit st ls t e
  unfit_inside (leaf l) e u = absurd u
  unfit_inside (node h ts) e u = u
  unfit_inside (bind ks t) e u = ⊎_elim (λ x. x) (λ x. absurd x) u
  unfit_inside nil e u = absurd u
  unfit_inside (cons t ts) e u = absurd u

  -- A list, by its members.
  pub fits_list : (ts : Tree) → IsList ts → ((i : ℕ) → i < count ts → FitsAll st ls (nth i ts)) → FitsAll st ls ts
  fits_list nil l f = tt
  fits_list (cons t ts) l f =
      let first : 0 < count (cons t ts) = omega arith in
      (f 0 first, fits_list ts l (λ i h. let more : suc i < count (cons t ts) = omega (arith, h) in f (suc i) more))
  fits_list (leaf x) l f = absurd l
  fits_list (node h ts) l f = absurd l
  fits_list (bind ks t) l f = absurd l

  -- What is wrong with a member is wrong with the list.
  pub unfit_nth : (ts : Tree) (i : ℕ) (e : Unfit) → i < count ts → SomeUnfit st ls (nth i ts) e → SomeUnfit st ls ts e
  unfit_nth (cons t ts) zero e h u = inl u
  unfit_nth (cons t ts) (suc i) e h u = let less : i < count ts = omega (arith, h) in inr (unfit_nth ts i e less u)
  unfit_nth nil i e h u = absurd (omega (arith, h))
  unfit_nth (leaf x) i e h u = absurd (omega (arith, h))
  unfit_nth (node g ts) i e h u = absurd (omega (arith, h))
  unfit_nth (bind ks t) i e h u = absurd (omega (arith, h))

  -- What is no type, region or constant is no variable, is not bound and stands for nothing.
  pub unasked : (t : Tree) → visited_sort (tree_sort t) ≡ false → IsTrue (known t) → FitsOwn st ls t
  unasked (leaf (variable type_var n)) e k = absurd (cc)
  unasked (leaf (variable int_var n)) e k = absurd (cc)
  unasked (leaf (variable float_var n)) e k = absurd (cc)
  unasked (leaf (variable const_var n)) e k = absurd (cc)
  unasked (leaf (variable region_var n)) e k = absurd (cc)
  unasked (leaf (bound (bound_kind region_kind n) d i)) e k = absurd (cc)
  unasked (leaf (bound (bound_kind type_kind n) d i)) e k = absurd (cc)
  unasked (leaf (bound (bound_kind const_kind n) d i)) e k = absurd (cc)
  unasked (leaf (placeholder (bound_kind region_kind n) u i)) e k = absurd (cc)
  unasked (leaf (placeholder (bound_kind type_kind n) u i)) e k = absurd (cc)
  unasked (leaf (placeholder (bound_kind const_kind n) u i)) e k = absurd (cc)
  unasked (leaf (atom (fresh_type n))) e k = absurd (cc)
  unasked (leaf (atom (fresh_int n))) e k = absurd (cc)
  unasked (leaf (atom (fresh_float n))) e k = absurd (cc)
  unasked (leaf (atom (fresh_const n))) e k = absurd (cc)
  unasked (leaf (atom x)) e k = tt
  unasked (leaf unknown) e k = absurd (cc)
  unasked (node h ts) e k = tt
  unasked (bind ks t) e k = tt
  unasked nil e k = tt
  unasked (cons t ts) e k = tt

-- Around the parts of what is no binder stand the binders around itself.
inside_same : (ls : List (List Sort)) (t : Tree) → is_binder (tree_sort t) ≡ false → ls ≡ sorts_inside t ls
inside_same ls (leaf l) e = refl
inside_same ls (node h ts) e = refl
inside_same ls (bind ks t) e = absurd (cc)
inside_same ls nil e = refl
inside_same ls (cons t ts) e = refl

module _ {Key Id Name : Type 0} (m : Meaning Key Id Name) where
  -- The sorts of a binder's list.
  pub same_sorts : (xs : List (BoundVariableKind Name)) → map variable_sort xs ≡ map bound_sort (bound_kinds m xs)
  same_sorts [] = refl
  same_sorts (variable_of.Ty n ∷ xs) = ap (λ s. type_sort ∷ s) (same_sorts xs)
  same_sorts (variable_of.Region n ∷ xs) = ap (λ s. region_sort ∷ s) (same_sorts xs)
  same_sorts (variable_of.Const n ∷ xs) = ap (λ s. const_sort ∷ s) (same_sorts xs)

  -- What a binder binds stands innermost around its body.
  inside_more : (ls : List (List Sort)) (o : Option (List BoundKind)) (t : Tree) (xs : List (BoundVariableKind Name)) →
      o ≡ Some (bound_kinds m xs) → map variable_sort xs ∷ ls ≡ sorts_inside (under o t) ls
  inside_more ls o t xs e =
      ap (λ s. s ∷ ls) (same_sorts xs) ∙ ap (λ x. sorts_inside (under x t) ls) (sym e)

  pub sorts_under : {E : Type 0} (vars : BoundVarsKey Key) (a : Around Name) (t : Tree) (r : Result (Around Name) E) →
      IfOk r (IsInside m vars a) →
      IfOk r (λ b. sorts_around b ≡ sorts_inside (under (m.bound_vars vars) t) (sorts_around a))
  sorts_under vars a t (Ok Nothing) h = absurd h
  sorts_under vars a t (Ok (Binder' list place p outer)) h =
      ap (λ o. map variable_sort list.now ∷ sorts_around o) h.1 ∙
      inside_more (sorts_around a) (m.bound_vars vars) t list.now h.0
  sorts_under vars a t (Err e) h = tt

  -- A binder, by its body.
  ok_binder : {E : Type 0} (st : Store) (ls : List (List Sort)) (o : Option (List BoundKind)) (t : Tree)
      (xs : List (BoundVariableKind Name)) (r : Result (Unit {0}) E) → o ≡ Some (bound_kinds m xs) →
      OnOk r (FitsAll st (map variable_sort xs ∷ ls) t) → OnOk r (FitsAll st ls (under o t))
  ok_binder st ls o t xs (Ok x) e h =
      subst (λ u. FitsAll st ls (under u t)) (sym e) (subst (λ s. FitsAll st (s ∷ ls) t) (same_sorts xs) h)
  ok_binder st ls o t xs (Err x) e h = tt

  err_binder : (st : Store) (ls : List (List Sort)) (o : Option (List BoundKind)) (t : Tree)
      (xs : List (BoundVariableKind Name)) (r : Result (Unit {0}) Unfit) → o ≡ Some (bound_kinds m xs) →
      IfErr r (TellsUnfit st (map variable_sort xs ∷ ls) t) → IfErr r (TellsUnfit st ls (under o t))
  err_binder st ls o t xs (Ok x) e h = tt
  err_binder st ls o t xs (Err x) e h =
      subst (λ u. TellsUnfit st ls (under u t) x) (sym e) (subst (λ s. TellsUnfit st (s ∷ ls) t x) (same_sorts xs) h)

  pub ok_under : {E : Type 0} (st : Store) (vars : BoundVarsKey Key) (a b : Around Name) (t : Tree)
      (r : Result (Unit {0}) E) → IsInside m vars a b → OnOk r (FitsAll st (sorts_around b) t) →
      OnOk r (FitsAll st (sorts_around a) (under (m.bound_vars vars) t))
  ok_under st vars a Nothing t r h f = absurd h
  ok_under st vars a (Binder' list place p outer) t r h f =
      ok_binder st (sorts_around a) (m.bound_vars vars) t list.now r h.0
      (subst (λ o. OnOk r (FitsAll st (map variable_sort list.now ∷ sorts_around o) t)) h.1 f)

  pub err_under : (st : Store) (vars : BoundVarsKey Key) (a b : Around Name) (t : Tree) (r : Result (Unit {0}) Unfit) →
      IsInside m vars a b → IfErr r (TellsUnfit st (sorts_around b) t) →
      IfErr r (TellsUnfit st (sorts_around a) (under (m.bound_vars vars) t))
  err_under st vars a Nothing t r h f = absurd h
  err_under st vars a (Binder' list place p outer) t r h f =
      err_binder st (sorts_around a) (m.bound_vars vars) t list.now r h.0
      (subst (λ o. IfErr r (TellsUnfit st (map variable_sort list.now ∷ sorts_around o) t)) h.1 f)

  -- The same of known parts: of what is no type, region or constant, and of what is no binder.
  pub unasked_part : (st : Store) (ls : List (List Sort)) → Sorted m → (p : Part Key Id) →
      IsTrue (known (part_tree m p)) → visited_sort (part_sort p) ≡ false → FitsOwn st ls (part_tree m p)
  unasked_part st ls s p k e = unasked st ls (part_tree m p) (ap visited_sort (sort_known m s p k) ∙ e) k

  pub inside_part : (ls : List (List Sort)) → Sorted m → (p : Part Key Id) → IsTrue (known (part_tree m p)) →
      is_binder (part_sort p) ≡ false → ls ≡ sorts_inside (part_tree m p) ls
  inside_part ls s p k e = inside_same ls (part_tree m p) (ap is_binder (sort_known m s p k) ∙ e)

  -- A known part, by its own leaf and its parts.
  pub part_whole : (st : Store) (ls : List (List Sort)) → Sorted m → (p : Part Key Id) →
      IsTrue (known (part_tree m p)) → FitsOwn st ls (part_tree m p) → (ks : List (List Sort)) (ts : Tree) →
      ks ≡ sorts_inside (part_tree m p) ls → ts ≡ parts_of (part_tree m p) → FitsAll st ks ts →
      FitsAll st ls (part_tree m p)
  part_whole st ls s p k o ks ts e f h =
      fits_whole st ls (part_tree m p) (λ z. has_sort p (sym (sort_known m s p k) ∙ z)) o (subst₂ (FitsAll st) e f h)

  -- What is wrong with a part of it is wrong with it.
  pub unfit_part : (st : Store) (ls : List (List Sort)) (p : Part Key Id) (ks : List (List Sort)) (ts : Tree)
      (e : Unfit) → ks ≡ sorts_inside (part_tree m p) ls → ts ≡ parts_of (part_tree m p) → SomeUnfit st ks ts e →
      SomeUnfit st ls (part_tree m p) e
  unfit_part st ls p ks ts e inside parts u =
      unfit_inside st ls (part_tree m p) e (subst₂ (λ x y. SomeUnfit st x y e) inside parts u)
