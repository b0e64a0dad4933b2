-- A type variable that was bound to another one, in the place of an alias.
use Rattle.std.proofs.Common.{◌≡◌, ◌⊎◌, ℕ, IsTrue, refl, sym, ap, ◌∙◌, subst, subst₂, inl, inr, [], Ok}
use Rattle.term_enums.specs.declared.Variance.{Variance}
use Rattle.relation_terms.specs.declared.terms.keys.TyKey.{TyKey}
use Rattle.relation_terms.specs.Heads.{type_var, alias, unevaluated, variable, bound, placeholder, atom, unknown}
use Rattle.relation_terms.specs.Trees.{Tree, leaf, node, bind, nil, cons, Assign, apply, known}
use Rattle.relation_terms.specs.Meaning.{Extends}
use Rattle.relation_folds.specs.declared.error.TypeError.TheVariants.{CyclicTy}
use Rattle.term_enums.specs.declared.StructurallyRelateAliases.{StructurallyRelateAliases}
use Rattle.term_enums.specs.declared.StructurallyRelateAliases.TheVariants.{No}
use Rattle.relation_semantics.specs.Contexts.{Context}
use Rattle.relation_semantics.specs.ContextCalls.{Instantiated}
use Rattle.relation_semantics.specs.Generalising.{InstantiatesBy, Generalised, outside, any_part}
use Rattle.relation_semantics.specs.Lawful.{State, items_of}
use Rattle.relation_semantics.specs.Parts.{IsRigid}
use Rattle.relation_semantics.specs.Relation.{Items, IsAlias}
use Rattle.relation_semantics.specs.Resolving.{IsShallow, root as shallow_root, stays_bound, formed}
use Rattle.relation_semantics.specs.Stores.{Store, resolved}
use Rattle.relation_semantics.proofs.AliasSteps.{variables_come_of_aliases}
use Rattle.relation_semantics.proofs.Resolved.{resolved_free}
use Rattle.relation_semantics.specs.AskedAlone.{IsNoTyVar}
use Rattle.relation_combining.specs.Combining.{seen}
use Rattle.relation_combining.proofs.SolvingVariables.{type_comes_to_none}

-- What a type comes to is an alias only where the type is one.
alias_applied : (s : Assign) (t : Tree) → IsRigid t → IsAlias (apply s t) → IsAlias t
alias_applied s (leaf (variable k n)) f h = absurd f
alias_applied s (leaf (bound q d i)) f h = h
alias_applied s (leaf (placeholder q u i)) f h = h
alias_applied s (leaf (atom x)) f h = h
alias_applied s (leaf unknown) f h = h
alias_applied s (node (alias k d) ts) f h = tt
alias_applied s (node (unevaluated d) ts) f h = tt
alias_applied s (node g ts) f h = h
alias_applied s (bind ks t) f h = h
alias_applied s nil f h = h
alias_applied s (cons t ts) f h = h

alias_alone : (st : Store) (t : Tree) → IsShallow st t → IsAlias (apply (resolved st) t) → IsAlias t
alias_alone st t (shallow_root k m e f) h =
    absurd (subst IsAlias (ap (apply (resolved st)) e ∙ resolved_free st k m f) h)
alias_alone st t (stays_bound k d i e) h = absurd (subst IsAlias (ap (apply (resolved st)) e) h)
alias_alone st t (formed f) h = alias_applied (resolved st) t f h

pub came_of_alias : (al : StructurallyRelateAliases) (c : Items) (before after : Store) (v : Variance) (n m : ℕ) (t u : Tree) →
    InstantiatesBy al c before after v type_var n t u → u ≡ leaf (variable type_var m) → IsShallow before t → IsNoTyVar t →
    (al ≡ No) × IsAlias t
came_of_alias al c before after v n m t u f is shallow none = go (variables_come_of_aliases al c before type_var n m outside v
    (record { store = before; met = [] }) f.last (apply (resolved before) t) refl
    (subst (Generalised al c before type_var n (any_part outside v) (record { store = before; met = [] })
    (apply (resolved before) t) f.last) is f.generalised))
  where
    go : ((al ≡ No) × IsAlias (apply (resolved before) t)) ⊎ ((i : ℕ) × (apply (resolved before) t ≡ leaf (variable type_var i))) →
        (al ≡ No) × IsAlias t
    go (inl o) = (o.0, alias_alone before t shallow o.1)
    go (inr o) = absurd (type_comes_to_none before t o.0 shallow none o.1)

-- What binding answered is so where the interner has grown.
pub bound_on : {Key Id Name : Type 0} (s d : Context Key Id Name) (p : State Key Id Name) → Extends d.meaning p.meaning →
    p.store ≡ d.store → (al : StructurallyRelateAliases) (v : Variance) (i : ℕ) (t : Tree) (z : TyKey Key) →
    Instantiated s d al v type_var i t (λ m. m.ty) CyclicTy (Ok z) →
    Instantiated (seen s.meaning s.store) (seen p.meaning p.store) al v type_var i t (λ m. m.ty) CyclicTy (Ok z)
bound_on s d p grown same al v i t z h = (
  subst (λ u. IsTrue (known u)) (sym (grown.ty z h.0)) h.0,
  subst₂ (λ st u. InstantiatesBy al (items_of s.meaning) s.store st v type_var i t u) (sym same) (sym (grown.ty z h.0)) h.1,
)
