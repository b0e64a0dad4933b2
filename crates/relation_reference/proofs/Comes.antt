-- What resolving a term in a reference context shows, as the trait of contexts asks it.
use Rattle.std.proofs.Common.{◌≡◌, sym, ap, ◌∙◌, subst, IsTrue, Result, Ok, Err, IfOk}
use Rattle.relation_terms.specs.Trees.{Tree, known}
use Rattle.relation_terms.specs.Meaning.{Meaning, Extends}
use Rattle.relation_semantics.specs.ContextCalls.{Grows, ComesTo, KeepsMarks}
use Rattle.relation_reference.specs.declared.context.variables.RefCtxt.{RefCtxt}
use Rattle.variable_classes.specs.Roots.{root_in}
use Rattle.variable_tables.specs.Tables.{setup_in, store_of, IsLawful}
use Rattle.relation_reference.specs.RefCtxt.{store_in, context_in, resolved_in}
use Rattle.variable_tables.proofs.Grows.{store_grows, lawful_grows}

-- The tables are what they were, and the interner has grown.
module _ {I Key Id Name Span : Type 0} (meaning : I → Meaning Key Id Name) (p q : RefCtxt I Key Id Name Span)
    (grown : Extends (meaning p.interner) (meaning q.interner)) (same : q.inner ≡ p.inner)
    (l : IsLawful (meaning p.interner) p.inner) where
  pub same_record : store_in meaning q ≡ store_in meaning p
  same_record = ap (store_of (meaning q.interner)) same ∙ store_grows grown p.inner l

  pub grows : Grows (context_in meaning p) (context_in meaning q)
  grows = record {
    extends = grown;
    lawful = subst (IsLawful (meaning q.interner)) (sym same) (lawful_grows grown p.inner l);
    setup = ap setup_in same;
    outliving = ap (λ x. x.ty_outlives.items) same;
  }

pub marks : {I Key Id Name Span : Type 0} (meaning : I → Meaning Key Id Name) (p q : RefCtxt I Key Id Name Span) →
    q.inner ≡ p.inner → KeepsMarks (context_in meaning p) (context_in meaning q)
marks meaning p q same = λ n. ap (λ x. root_in x.sub_roots.items n) same

pub comes : {I Key Id Name Span K F : Type 0} (meaning : I → Meaning Key Id Name) (p q : RefCtxt I Key Id Name Span)
    (tree : Meaning Key Id Name → K → Tree) (t : K) (r : Result K F) →
    IfOk r (λ x. IsTrue (known (tree (meaning q.interner) x))) →
    IfOk r (λ x. tree (meaning q.interner) x ≡ resolved_in meaning p (tree (meaning p.interner) t)) →
    ComesTo (context_in meaning p) (context_in meaning q) tree t r
comes meaning p q tree t (Ok x) sure is = (sure, is)
comes meaning p q tree t (Err f) sure is = tt
