-- Headers of impls over one argument, which each context takes.
use Rattle.std.specs.Prelude.{◌≡◌, List, IsTrue}
use Rattle.relation_terms.specs.declared.terms.binder.Binder.{Binder}
use Rattle.relation_terms.specs.declared.terms.keys.ArgsKey.{ArgsKey}
use Rattle.relation_terms.specs.Heads.{BoundKind}
use Rattle.relation_terms.specs.Trees.{Tree, bind, nil, cons, known, Leaves}
use Rattle.relation_terms.specs.Meaning.{Meaning}
use Rattle.fast_reject.specs.Instances.{IsNoVariable, IsNamed}
use Rattle.relation_semantics.specs.Bound.{AreBoundAs, IsWellBound}
use Rattle.relation_semantics.specs.Stores.{Store, IsTermIn}
use Rattle.relation_coherence.specs.Headers.{header_tree}

-- The tree of a header over one argument.
abbrev pub header_of : List BoundKind → Tree → Tree
header_of ks t = bind ks (cons t nil)

-- An argument that each context takes under a binder: a known one without variables, whose binders bind by their lists,
-- in which nothing stands that the binder does not bind; and each parameter in it has its index for a name.
pub record IsPlain (ks : List BoundKind) (t : Tree) : Type 0 where
  pub is_known : IsTrue (known t)
  pub bound_as : AreBoundAs ks 0 t
  pub well_bound : IsWellBound t
  pub is_in : (st : Store) → IsTermIn st (header_of ks t)
  pub no_variable : Leaves IsNoVariable t
  pub named : Leaves (IsNamed (λ i. i) (λ i. i)) t

-- A header over such an argument.
pub record IsPlainHeader {Key Id Name : Type 0} (m : Meaning Key Id Name) (h : Binder Key (ArgsKey Key)) : Type 0 where
  pub binds : List BoundKind
  pub argument : Tree
  pub plain : IsPlain binds argument
  pub tree_is : header_tree m h ≡ header_of binds argument
