-- Binders over the variables that are used in their bodies.
use Rattle.std.proofs.Common.{ℕ, ◌≡◌, ◌∙◌, refl, sym, ap, ap₂, subst, IsTrue, List, [], ◌∷◌, map, length}
use Rattle.std.proofs.Common.{Option, Some, None}
use Rattle.std.proofs.lemmas.Bool.{false≢true}
use Rattle.relation_terms.specs.Heads.{BoundKind}
use Rattle.relation_terms.specs.Trees.{Tree, known}
use Rattle.relation_terms.specs.Meaning.{Meaning, under, bound_kinds}
use Rattle.relation_terms.specs.declared.terms.binder.BoundVariableKind.{BoundVariableKind}
use Rattle.relation_folds.specs.Folds.{folded}
use Rattle.relation_folds.proofs.Lists.{no_member}
use Rattle.anonymize.specs.declared.used.UsedVar.{UsedVar}
use Rattle.anonymize.specs.declared.used.UsedVar.TheVariants.{Ty, Region, Const}
use Rattle.anonymize.specs.Anonymous.{used_vars, named, renames, anonymized, named_as}
use Rattle.anonymize.proofs.Renamings.{renamed_empty}

-- Variables by a name, as the interner means them.
pub named_kinds : {Key Id Name : Type 0} (m : Meaning Key Id Name) (s : Name) (us : List UsedVar) →
    bound_kinds m (map (named_as s) us) ≡ map (named (m.name s)) us
named_kinds m s [] = refl
named_kinds m s (Ty i ∷ us) = ap (λ z. named (m.name s) (Ty i) ∷ z) (named_kinds m s us)
named_kinds m s (Region i ∷ us) = ap (λ z. named (m.name s) (Region i) ∷ z) (named_kinds m s us)
named_kinds m s (Const i ∷ us) = ap (λ z. named (m.name s) (Const i) ∷ z) (named_kinds m s us)

-- A known binder over the variables that are used in its body.
pub anonymized_under : (n : ℕ) (o q : Option (List BoundKind)) (t u : Tree) → IsTrue (known (under o t)) →
    q ≡ Some (map (named n) (used_vars t)) → u ≡ folded (renames n (used_vars t)) 0 t →
    under q u ≡ anonymized n (under o t)
anonymized_under n (Some ks) q t u k e f = ap₂ under e f
anonymized_under n None q t u k e f = absurd (false≢true k)

-- A binder over no variable, of which none is used.
pub anonymized_already : {Key Id Name : Type 0} (m : Meaning Key Id Name) (n : ℕ) (vars : List (BoundVariableKind Name))
    (o : Option (List BoundKind)) (t : Tree) (us : List UsedVar) → IsTrue (known (under o t)) →
    o ≡ Some (bound_kinds m vars) → length vars ≡ 0 → us ≡ used_vars t → length us ≡ 0 →
    under o t ≡ anonymized n (under o t)
anonymized_already m n vars o t us k e v f u =
    let none : used_vars t ≡ [] = sym f ∙ no_member us u in
    let list : o ≡ Some (map (named n) (used_vars t)) =
    e ∙ ap (λ xs. Some (bound_kinds m xs)) (no_member vars v) ∙ ap (λ xs. Some (map (named n) xs)) (sym none) in
    anonymized_under n o o t t k list
    (subst (λ xs. t ≡ folded (renames n xs) 0 t) (sym none) (renamed_empty [] n t refl))
