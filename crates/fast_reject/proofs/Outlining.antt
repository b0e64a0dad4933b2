-- The outlines of forms, and which forms are alike.
use Rattle.std.proofs.Common.{◌≡◌, ℕ, Bool, true, false, ◌&&◌, IsTrue, Option, Some, None, cond, refl, sym, ap, List}
use Rattle.std.proofs.lemmas.Bool.{and_parts, false≢true}
use Rattle.relation_terms.specs.Heads.{Head, adt, fn_def, closure, coroutine_closure, coroutine, coroutine_witness, array}
use Rattle.relation_terms.specs.Heads.{slice, pattern_type, raw_ptr, ref, value}
use Rattle.relation_terms.specs.Heads.{value_branch}
use Rattle.term_enums.specs.declared.Mutability.{Mutability}
use Rattle.term_enums.specs.declared.Mutability.TheVariants.{Not, Mut}
use Rattle.relation_terms.specs.Trees.{Tree, leaf, node, bind, nil, cons, known, count}
use Rattle.relation_terms.specs.Meaning.{Meaning, const_tree, valtree_tree, object_predicate_tree, existential_tree, under}
use Rattle.relation_terms.specs.declared.terms.keys.TyKey.{TyKey}
use Rattle.relation_terms.specs.declared.terms.keys.ValTreeKey.{ValTreeKey}
use Rattle.relation_terms.specs.declared.terms.keys.BranchesKey.{BranchesKey}
use Rattle.relation_terms.specs.declared.terms.binder.Binder.{Binder}
use Rattle.relation_terms.specs.Heads.{BoundKind}
use Rattle.relation_terms.specs.declared.predicate.existential.ExistentialPredicate.{ExistentialPredicate}
use Rattle.relation_terms.specs.declared.predicate.existential.ExistentialPredicate.TheVariants.{Trait, AutoTrait}
use Rattle.relation_terms.specs.declared.predicate.existential.ExistentialPredicate.TheVariants.{Projection}
use Rattle.relation_terms.specs.declared.terms.const_kind.ConstKind.{ConstKind}
use Rattle.relation_terms.specs.declared.terms.const_kind.ConstKind.TheVariants.{Param, Placeholder, Infer, Bound}
use Rattle.relation_terms.specs.declared.terms.const_kind.ConstKind.TheVariants.{Unevaluated, Value, Error, Expr}
use Rattle.relation_terms.specs.declared.terms.const_kind.InferConst.TheVariants.{Var, Fresh}
use Rattle.relation_terms.specs.declared.terms.const_kind.ValTreeKind.{ValTreeKind}
use Rattle.relation_terms.specs.declared.terms.const_kind.ValTreeKind.TheVariants.{Leaf as LeafTree, Branch as BranchTree}
use Rattle.relation_folds.specs.Forms.{Leaf, Branch}
use Rattle.relation_folds.specs.Clashes.{flexible, may_stand, outline, OneOutline, principal, counted, pointer_form}
use Rattle.relation_folds.specs.Clashes.{reference_form}
use Rattle.relation_folds.specs.Outlines.{tree_outline, stands, trait_in, trait_in_predicate}

pointer_no_leaf : (m : Mutability) → pointer_form m ≡ Leaf → ⊥
pointer_no_leaf Not e = cc
pointer_no_leaf Mut e = cc

reference_no_leaf : (m : Mutability) → reference_form m ≡ Leaf → ⊥
reference_no_leaf Not e = cc
reference_no_leaf Mut e = cc

-- No form over parts is a leaf.
node_form : (h : Head) (ts : Tree) → (outline h ts).form ≡ Leaf → ⊥
node_form (adt d) ts e = cc
node_form (fn_def d) ts e = cc
node_form (closure d) ts e = cc
node_form (coroutine_closure d) ts e = cc
node_form (coroutine d) ts e = cc
node_form (coroutine_witness d) ts e = cc
node_form array ts e = cc
node_form slice ts e = cc
node_form pattern_type ts e = cc
node_form (raw_ptr m) ts e = pointer_no_leaf m e
node_form (ref m) ts e = reference_no_leaf m e
node_form h ts e = cc

pub leaf_unlike : (a b : Tree) → (a ≡ b → ⊥) → (tree_outline a).form ≡ Leaf → OneOutline a b → ⊥
leaf_unlike (node h ts) b n e k = node_form h ts e
leaf_unlike (leaf l) b n e k = n k
leaf_unlike (bind ks t) b n e k = n k
leaf_unlike nil b n e k = n k
leaf_unlike (cons t ts) b n e k = n k

pub alike_outlines : (a b : Tree) → (a ≡ b → ⊥) → OneOutline a b → tree_outline a ≡ tree_outline b
alike_outlines (node h ts) (node g us) n k = k
alike_outlines (node h ts) (leaf l) n k = absurd (n k)
alike_outlines (node h ts) (bind ks t) n k = absurd (n k)
alike_outlines (node h ts) nil n k = absurd (n k)
alike_outlines (node h ts) (cons u us) n k = absurd (n k)
alike_outlines (leaf l) b n k = absurd (n k)
alike_outlines (bind ks t) b n k = absurd (n k)
alike_outlines nil b n k = absurd (n k)
alike_outlines (cons t ts) b n k = absurd (n k)

-- What is told of one that may stand for others, and of one that may not.
some_cond : (f x w : Bool) → cond f (Some x) None ≡ Some w → (f ≡ true) × (w ≡ x)
some_cond true x w e = (refl, let q : x ≡ w = cc in sym q)
some_cond false x w e = absurd (cc)

pub some_stands : (p : Bool) (a b : Tree) (w : Bool) → stands p a b ≡ Some w → (flexible p a ≡ true) × (w ≡ may_stand a b)
some_stands p a b w e = some_cond (flexible p a) (may_stand a b) w e

none_cond : (f x : Bool) (o : Option Bool) → o ≡ cond f (Some x) None → ((w : Bool) → o ≡ Some w → ⊥) → f ≡ false
none_cond true x o e n = absurd (n x e)
none_cond false x o e n = refl

pub none_stands : (p : Bool) (a b : Tree) (o : Option Bool) → o ≡ stands p a b → ((w : Bool) → o ≡ Some w → ⊥) →
    flexible p a ≡ false
none_stands p a b o e n = none_cond (flexible p a) (may_stand a b) o e n

module _ {Key Id Name : Type 0} (m : Meaning Key Id Name) where
  -- A constant that is no value and stands for itself is like itself alone, and a value is like values alone.
  pub const_unlike : (p : Bool) (k : ConstKind Key Id Name) (b : Tree) → flexible p (const_tree m k) ≡ false →
      ((t : TyKey Key) (v : ValTreeKey Key) → k ≡ Value t v → ⊥) → OneOutline (const_tree m k) b → const_tree m k ≡ b
  const_unlike p (Param x) b f n e = e
  const_unlike p (Placeholder x) b f n e = e
  const_unlike p (Infer (Var v)) b f n e = e
  const_unlike p (Infer (Fresh v)) b f n e = e
  const_unlike p (Bound d x) b f n e = e
  const_unlike p (Error x) b f n e = e
  const_unlike p (Unevaluated u) b f n e = absurd (cc)
  const_unlike p (Expr o x) b f n e = absurd (cc)
  const_unlike p (Value t v) b f n e = absurd (n t v refl)

  pub value_unlike : (p : Bool) (k : ConstKind Key Id Name) (ts : Tree) → flexible p (const_tree m k) ≡ false →
      ((t : TyKey Key) (v : ValTreeKey Key) → k ≡ Value t v → ⊥) → OneOutline (node value ts) (const_tree m k) → ⊥
  value_unlike p (Param x) ts f n e = cc
  value_unlike p (Placeholder x) ts f n e = cc
  value_unlike p (Infer (Var v)) ts f n e = cc
  value_unlike p (Infer (Fresh v)) ts f n e = cc
  value_unlike p (Bound d x) ts f n e = cc
  value_unlike p (Error x) ts f n e = cc
  value_unlike p (Unevaluated u) ts f n e = cc
  value_unlike p (Expr o x) ts f n e = cc
  value_unlike p (Value t v) ts f n e = n t v refl

  -- Value trees stand for themselves; a leaf is like itself alone, branches like branches alone.
  pub valtree_rigid : (p : Bool) (k : ValTreeKind Key) → flexible p (valtree_tree m k) ≡ false
  valtree_rigid p (LeafTree x s) = refl
  valtree_rigid p (BranchTree x) = refl

  pub valtree_unlike : (k : ValTreeKind Key) (b : Tree) → ((x : BranchesKey Key) → k ≡ BranchTree x → ⊥) →
      OneOutline (valtree_tree m k) b → valtree_tree m k ≡ b
  valtree_unlike (LeafTree x s) b n e = e
  valtree_unlike (BranchTree x) b n e = absurd (n x refl)

  pub branch_unlike : (k : ValTreeKind Key) (ts : Tree) → ((x : BranchesKey Key) → k ≡ BranchTree x → ⊥) →
      OneOutline (node value_branch ts) (valtree_tree m k) → ⊥
  branch_unlike (LeafTree x s) ts n e = cc
  branch_unlike (BranchTree x) ts n e = n x refl

  -- The principal, by the first predicate of a list that is a trait.
  step_under : (o : Option (List BoundKind)) (p : ExistentialPredicate Key Id) (ts : Tree) (d : Id) →
      IsTrue (known (under o (existential_tree m p))) → trait_in_predicate p ≡ Some d →
      principal (cons (under o (existential_tree m p)) ts) ≡ Some (m.id d)
  step_under (Some ks) (Trait t) ts d k e = let q : (t.def_id).0 ≡ d = cc in ap (λ x. Some (m.id x)) q
  step_under (Some ks) (Projection t) ts d k e = absurd (cc)
  step_under (Some ks) (AutoTrait t) ts d k e = absurd (cc)
  step_under None p ts d k e = absurd (false≢true k)

  pass_under : (o : Option (List BoundKind)) (p : ExistentialPredicate Key Id) (ts : Tree) →
      IsTrue (known (under o (existential_tree m p))) → ((d : Id) → trait_in_predicate p ≡ Some d → ⊥) →
      principal (cons (under o (existential_tree m p)) ts) ≡ principal ts
  pass_under (Some ks) (Trait t) ts k n = absurd (n ((t.def_id).0) refl)
  pass_under (Some ks) (Projection t) ts k n = refl
  pass_under (Some ks) (AutoTrait t) ts k n = refl
  pass_under None p ts k n = absurd (false≢true k)

  pub principal_here : (b : Binder Key (ExistentialPredicate Key Id)) (ts : Tree) (d : Id) →
      IsTrue (known (object_predicate_tree m b)) → trait_in b ≡ Some d →
      principal (cons (object_predicate_tree m b) ts) ≡ Some (m.id d)
  principal_here b ts d k e = step_under (m.bound_vars b.bound_vars) b.value ts d k e

  pub principal_further : (b : Binder Key (ExistentialPredicate Key Id)) (ts : Tree) →
      IsTrue (known (object_predicate_tree m b)) → ((d : Id) → trait_in b ≡ Some d → ⊥) →
      principal (cons (object_predicate_tree m b) ts) ≡ principal ts
  principal_further b ts k n = pass_under (m.bound_vars b.bound_vars) b.value ts k n

pub branch_counts : (x y : Tree) → OneOutline (node value_branch x) (node value_branch y) → count x ≡ count y
branch_counts x y e = ap (λ o. o.parts) e

pub branch_alike : (x y : Tree) → count x ≡ count y → OneOutline (node value_branch x) (node value_branch y)
branch_alike x y e = ap (λ n. counted {D = ℕ} Branch n) e

pub value_known : (x v : Tree) → IsTrue (known (node value (cons x (cons v nil)))) → IsTrue (known v)
value_known x v k = (and_parts (known v) true ((and_parts (known x) (known v && true) k).1)).0
