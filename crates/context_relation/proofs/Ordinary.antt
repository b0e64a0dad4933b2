-- Two types that are left to their parts, as a step of the relation of a context.
use Rattle.std.proofs.Common.{refl, None, Ok}
use Rattle.relation_terms.specs.declared.terms.keys.TyKey.{TyKey}
use Rattle.relation_terms.specs.Heads.{type_sort, type_var, int_var, float_var}
use Rattle.relation_terms.specs.Trees.{Tree, IsTerm}
use Rattle.relation_semantics.specs.declared.relate.Step.TheVariants.{Parts}
use Rattle.relation_semantics.specs.AskedAlone.{IsNoTyVar}
use Rattle.relation_semantics.specs.Errors.{itself}
use Rattle.relation_semantics.specs.Lawful.{State}
use Rattle.relation_semantics.specs.Parts.{IsRigid}
use Rattle.relation_semantics.specs.Relation.{StaysWithin}
use Rattle.relation_semantics.specs.Stores.{IsSound}
use Rattle.relation_semantics.proofs.Deferring.{normal_not_left}
use Rattle.relation_semantics.proofs.Standing.{term_within}
use Rattle.relation_steps.specs.Keyed.{SteppedTys}
use Rattle.relation_steps.specs.Terms.{AskedTerms}
use Rattle.relation_combining.specs.Combining.{IsNoVariable, not_left, by_parts}
use Rattle.relation_combining.specs.Deferring.{IsVariable, AreOrdinary, AreByParts}
use Rattle.relation_combining.specs.Solving.{solver_manner}
use Rattle.relation_combining.proofs.NumberVars.{type_formed}
use Rattle.relation_combining.proofs.OverContext.{parts_step}
use Rattle.context_relation.specs.Stepping.{CombinesShallowTys, no_ty_variables}

no_ty_var : (t : Tree) → (IsVariable t → ⊥) → IsNoTyVar t
no_ty_var t o n e = o (type_var, n, e)

no_var : (t : Tree) → (IsVariable t → ⊥) → IsNoVariable t
no_var t o = (no_ty_var t o, (λ n e. o (int_var, n, e), λ n e. o (float_var, n, e)))

no_var_formed : (t : Tree) → (IsVariable t → ⊥) → IsTerm type_sort t → StaysWithin 0 t → IsRigid t
no_var_formed t o s w = let n = no_var t o in type_formed t s w n.0 n.1.0 n.1.1

-- Ordinary types are left to no goal.
pub ordinary_by_parts : {Key Id Name : Type 0} (r : State Key Id Name) (a b : TyKey Key) → AreOrdinary r.meaning a b →
    AreByParts r a b
ordinary_by_parts r a b o = (
  (o.0.0, o.0.1),
  (o.1.0, o.1.1),
  normal_not_left r.kept.settings ((r.meaning).ty a) ((r.meaning).ty b) o.0.2 o.1.2,
)

module _ {Key Id Name : Type 0} (r : State Key Id Name) (a b : TyKey Key) (are : AreByParts r a b) where
  -- They are left to be related by their parts.
  pub combined_by_parts : CombinesShallowTys r r a b (Ok (Parts a b))
  combined_by_parts = no_ty_variables (no_ty_var ((r.meaning).ty a) are.0.1) (no_ty_var ((r.meaning).ty b) are.1.1)
      (not_left (are.0.0, are.1.0) are.2 refl
      (by_parts (no_var ((r.meaning).ty a) are.0.1) (no_var ((r.meaning).ty b) are.1.1) refl refl))

  -- That is a step.
  pub stepped_by_parts : AskedTerms solver_manner None (λ m. m.ty) r a b → IsTerm type_sort ((r.meaning).ty a) →
      IsTerm type_sort ((r.meaning).ty b) → IsSound r.store → SteppedTys solver_manner r r a b (Ok (Parts a b))
  stepped_by_parts asked sa sb sound = let t = (r.meaning).ty a in let u = (r.meaning).ty b in
      parts_step r r.meaning r.store r.lawful r.lawful (λ l. l) IsRigid t u (r.meaning).ty a b sound (itself refl)
      (itself refl) (λ j n e. e) asked (no_var_formed t are.0.1 sa (term_within r.store t asked.left_in))
      (no_var_formed u are.1.1 sb (term_within r.store u asked.right_in)) are.2
