-- Headers that a quick test tells apart, by what opened bodies are instances of.
use Rattle.std.proofs.Common.{ℕ, false, List, [], Option, Some, None, refl, sym, ◌∙◌, ap}
use Rattle.relation_terms.specs.declared.terms.binder.Binder.{Binder}
use Rattle.relation_terms.specs.declared.terms.keys.ArgsKey.{ArgsKey}
use Rattle.relation_terms.specs.Heads.{BoundKind, Shape, row, term_of, argument_sort}
use Rattle.relation_terms.specs.Trees.{Tree, bind, inst, Fits, AreTerms, Leaves}
use Rattle.relation_terms.specs.Erasure.{erase}
use Rattle.relation_terms.specs.Meaning.{under}
use Rattle.relation_folds.specs.Clashes.{flexible}
use Rattle.fast_reject.specs.Instances.{IsNoVariable, AgreeOnNames as NamesAgree, NoCommonInstance}
use Rattle.relation_semantics.specs.Bound.{AreBoundAs, IsWellBound}
use Rattle.relation_semantics.specs.Contexts.{Context}
use Rattle.relation_laws.specs.OpenedInstances.{OpenedIsInstance}
use Rattle.relation_coherence.specs.Headers.{header_tree, TakesHeader, IsClosedHeader, AgreeOnNames}
use Rattle.relation_coherence.specs.Overlaps.{AreApart, AreApartErased}

-- What is apart up to erasure is apart.
pub apart_from_erased : (u : ℕ) (a b : Tree) → AreApartErased u a b → AreApart u a b
apart_from_erased u a b h x i j = h x x i j refl

module _ (instance : OpenedIsInstance) where
  by_form : (u : ℕ) (ks ls : List BoundKind) (x : Shape) (a b : Tree) → AreBoundAs ks 0 a → AreBoundAs ls 0 b →
      Fits x a → Fits x b → Leaves IsNoVariable a → Leaves IsNoVariable b → NamesAgree a b →
      NoCommonInstance false false a b → AreApartErased u (bind ks a) (bind ls b)
  by_form u ks ls x a b f g p q m n names none v w i j e = none (λ l r. names) (record {
    left = inst i.values 0 a;
    right = inst j.values 0 b;
    of_left = instance (flexible false) ks i.values x a (λ k d z. refl) i.fit f p m;
    of_right = instance (flexible false) ls j.values x b (λ k d z. refl) j.fit g q n;
    same = ap erase (sym i.body_is) ∙ (e ∙ ap erase j.body_is);
  })

  by_lists : (u : ℕ) (o p : Option (List BoundKind)) (x : Shape) (a b : Tree) → IsWellBound (under o a) →
      IsWellBound (under p b) → Fits x a → Fits x b → Leaves IsNoVariable (under o a) → Leaves IsNoVariable (under p b) →
      NamesAgree a b → NoCommonInstance false false a b → AreApartErased u (under o a) (under p b)
  by_lists u (Some ks) (Some ls) x a b f g p q m n names none =
      by_form u ks ls x a b f.0 g.0 p q m n names none
  by_lists u None p x a b f g s q m n names none = λ v w i j e. absurd i
  by_lists u (Some ks) None x a b f g p q m n names none = λ v w i j e. absurd j

  pub headers_by_form : {Key Id Name : Type 0} (c : Context Key Id Name) (left right : Binder Key (ArgsKey Key)) →
      TakesHeader c left → TakesHeader c right → AreTerms argument_sort ((c.meaning).args left.value) →
      AreTerms argument_sort ((c.meaning).args right.value) → IsClosedHeader c left → IsClosedHeader c right →
      AgreeOnNames c left right →
      NoCommonInstance false false ((c.meaning).args left.value) ((c.meaning).args right.value) →
      AreApartErased (c.store).universe (header_tree c.meaning left) (header_tree c.meaning right)
  headers_by_form c left right f g p q m n names none =
      by_lists (c.store).universe ((c.meaning).bound_vars left.bound_vars) ((c.meaning).bound_vars right.bound_vars)
      (row [] (Some (term_of argument_sort))) ((c.meaning).args left.value) ((c.meaning).args right.value) f g p q m n names none
