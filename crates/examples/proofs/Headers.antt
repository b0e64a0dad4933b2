-- Plain headers meet what is asked of two headers before their overlap is asked for.
use Rattle.std.proofs.Common.{◌≡◌, ℕ, refl, sym, ap, ap₂, ◌∙◌, subst, List, [], ◌∷◌, Option, Some, None, IsSome, IsTrue, arith}
use Rattle.std.specs.Cmp.Derive.{both_true}
use Rattle.term_enums.specs.declared.UintTy.{UintTy}
use Rattle.relation_terms.specs.declared.terms.binder.Binder.{Binder}
use Rattle.relation_terms.specs.declared.terms.binder.BoundVariableKind.{BoundVariableKind}
use Rattle.relation_terms.specs.declared.terms.binder.BoundVariableKind.TheVariants.{Ty as TyBound}
use Rattle.relation_terms.specs.declared.terms.generic_arg.GenericArgKind.{GenericArgKind}
use Rattle.relation_terms.specs.declared.terms.generic_arg.GenericArgKind.TheVariants.{Ty as TyArg}
use Rattle.relation_terms.specs.declared.terms.keys.ArgsKey.{ArgsKey}
use Rattle.relation_terms.specs.declared.terms.keys.TyKey.{TyKey}
use Rattle.relation_terms.specs.Heads.{BoundKind, bound_kind, type_kind, bound, atom, uint_type, slice}
use Rattle.relation_terms.specs.Trees.{Tree, leaf, node, bind, nil, cons, known, count, Leaves, list_tree}
use Rattle.relation_terms.specs.Meaning.{Meaning, Extends, under, arg_tree, bound_kinds}
use Rattle.fast_reject.specs.Instances.{IsNoVariable, IsNamed}
use Rattle.relation_semantics.specs.Bound.{IsWellBound}
use Rattle.relation_semantics.specs.Contexts.{Context}
use Rattle.relation_semantics.specs.Stores.{IsTermIn, InContext}
use Rattle.relation_coherence.specs.Headers.{header_tree, KnowsHeader, TakesHeader, HasHeader, AreOfOneLength}
use Rattle.relation_coherence.specs.Headers.{IsClosedHeader, AgreeOnNames}
use Rattle.relation_coherence.proofs.BothOpened.{header_stays}
use Rattle.examples.specs.Headers.{IsPlain, IsPlainHeader}

-- The type of slices of what the only place of a binder binds, by any name, and that of slices of numbers.
of_bound : (k n : ℕ) →
    IsPlain (bound_kind type_kind k ∷ []) (node slice (cons (leaf (bound (bound_kind type_kind n) 0 0)) nil))
unfolding IsTermIn InContext
of_bound k n = record {
  is_known = refl;
  bound_as = ((λ e. (bound_kind type_kind k, refl, refl)), tt);
  well_bound = (tt, tt);
  is_in = λ st. (((tt, tt), tt), ((omega arith, tt), tt), ((tt, tt), tt));
  no_variable = (tt, tt);
  named = (tt, tt);
}

of_number : (w : UintTy) → IsPlain [] (node slice (cons (leaf (atom (uint_type w))) nil))
unfolding IsTermIn InContext
of_number w = record {
  is_known = refl;
  bound_as = (tt, tt);
  well_bound = (tt, tt);
  is_in = λ st. (((tt, tt), tt), ((tt, tt), tt), ((tt, tt), tt));
  no_variable = (tt, tt);
  named = (tt, tt);
}

-- The type of slices of another, under a binder.
plain_slices : (ks ls : List BoundKind) (t u v : Tree) → ks ≡ ls → t ≡ node slice (cons u nil) → u ≡ v →
    IsPlain ls (node slice (cons v nil)) → IsPlain ks t
plain_slices ks ls t u v b e f p =
    subst (λ z. IsPlain z t) (sym b) (subst (IsPlain ls) (sym (e ∙ ap (λ z. node slice (cons z nil)) f)) p)

-- The body of a header.
body_is : (o : Option (List BoundKind)) (t u : Tree) (ks : List BoundKind) → under o t ≡ bind ks u → t ≡ u
body_is (Some ls) t u ks e = cc
body_is None t u ks e = absurd cc

module _ {Key Id Name : Type 0} where
  pub plain_bound : (m : Meaning Key Id Name) (name : Name) (bs : List (BoundVariableKind Name)) (n : ℕ) (t u : Tree) →
      bs ≡ TyBound name ∷ [] → t ≡ node slice (cons u nil) → u ≡ leaf (bound (bound_kind type_kind n) 0 0) →
      IsPlain (bound_kinds m bs) t
  plain_bound m name bs n t u b e f =
      plain_slices (bound_kinds m bs) (bound_kind type_kind (m.name name) ∷ []) t u _ (ap (bound_kinds m) b) e f
      (of_bound (m.name name) n)

  pub plain_number : (m : Meaning Key Id Name) (bs : List (BoundVariableKind Name)) (w : UintTy) (t u : Tree) → bs ≡ [] →
      t ≡ node slice (cons u nil) → u ≡ leaf (atom (uint_type w)) → IsPlain (bound_kinds m bs) t
  plain_number m bs w t u b e f = plain_slices (bound_kinds m bs) [] t u _ (ap (bound_kinds m) b) e f (of_number w)

  -- A list of one known type is known.
  pub args_known : (m : Meaning Key Id Name) (t : TyKey Key) (list : List (GenericArgKind Key)) → list ≡ TyArg t ∷ [] →
      IsTrue (known (m.ty t)) → IsTrue (known (list_tree (arg_tree m) list))
  args_known m t list e k = subst (λ z. IsTrue (known (list_tree (arg_tree m) z))) (sym e) (both_true k refl)

  -- A header that was made of a list of what it binds, and then of a list of one type.
  pub header_made : (m n o : Meaning Key Id Name) (h : Binder Key (ArgsKey Key)) (ks : List BoundKind) (t : TyKey Key)
      (list : List (GenericArgKind Key)) → list ≡ TyArg t ∷ [] → Extends m n → Extends n o → IsPlain ks (m.ty t) →
      n.bound_vars h.bound_vars ≡ Some ks → o.args h.value ≡ list_tree (arg_tree n) list → IsPlainHeader o h
  header_made m n o h ks t list one e f p b a = record {
    binds = ks;
    argument = m.ty t;
    plain = p;
    tree_is = ap₂ under (f.bound_vars h.bound_vars (subst IsSome (sym b) refl) ∙ b)
        (a ∙ ap (list_tree (arg_tree n)) one ∙ ap (λ z. cons z nil) (e.ty t p.is_known));
  }

  tree_known : (m : Meaning Key Id Name) (h : Binder Key (ArgsKey Key)) → IsPlainHeader m h →
      IsTrue (known (header_tree m h))
  tree_known m h s = subst (λ t. IsTrue (known t)) (sym s.tree_is) (both_true ((s.plain).is_known) refl)

  pub plain_known : (c : Context Key Id Name) (h : Binder Key (ArgsKey Key)) → IsPlainHeader c.meaning h → KnowsHeader c h
  plain_known c h s = tree_known c.meaning h s

  pub plain_taken : (c : Context Key Id Name) (h : Binder Key (ArgsKey Key)) → IsPlainHeader c.meaning h → TakesHeader c h
  plain_taken c h s = let p = s.plain in
      subst IsWellBound (sym s.tree_is) ((p.bound_as, tt), (p.well_bound, tt))

  pub plain_in : (c : Context Key Id Name) (h : Binder Key (ArgsKey Key)) → IsPlainHeader c.meaning h → HasHeader c h
  plain_in c h s = subst (IsTermIn c.store) (sym s.tree_is) ((s.plain).is_in c.store)

  pub plain_closed : (c : Context Key Id Name) (h : Binder Key (ArgsKey Key)) → IsPlainHeader c.meaning h →
      IsClosedHeader c h
  plain_closed c h s = subst (Leaves IsNoVariable) (sym s.tree_is) ((s.plain).no_variable, tt)

  body_of : (m : Meaning Key Id Name) (h : Binder Key (ArgsKey Key)) (s : IsPlainHeader m h) →
      m.args h.value ≡ cons s.argument nil
  body_of m h s = body_is (m.bound_vars h.bound_vars) (m.args h.value) (cons s.argument nil) s.binds s.tree_is

  pub plain_lengths : (c : Context Key Id Name) (g h : Binder Key (ArgsKey Key)) → IsPlainHeader c.meaning g →
      IsPlainHeader c.meaning h → AreOfOneLength c g h
  plain_lengths c g h r s = ap count (body_of c.meaning g r) ∙ sym (ap count (body_of c.meaning h s))

  pub plain_names : (c : Context Key Id Name) (g h : Binder Key (ArgsKey Key)) → IsPlainHeader c.meaning g →
      IsPlainHeader c.meaning h → AgreeOnNames c g h
  plain_names c g h r s = record {
    types = λ i. i;
    consts = λ i. i;
    left = subst (Leaves (IsNamed (λ i. i) (λ i. i))) (sym (body_of c.meaning g r)) ((r.plain).named, tt);
    right = subst (Leaves (IsNamed (λ i. i) (λ i. i))) (sym (body_of c.meaning h s)) ((s.plain).named, tt);
  }

  -- It stays one while the interner grows.
  pub plain_stays : {m n : Meaning Key Id Name} → Extends m n → (h : Binder Key (ArgsKey Key)) → IsPlainHeader m h →
      IsPlainHeader n h
  plain_stays {m} {n} e h s = record {
    binds = s.binds;
    argument = s.argument;
    plain = s.plain;
    tree_is = header_stays m n e h (tree_known m h s) ∙ s.tree_is;
  }
