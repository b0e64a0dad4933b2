-- Headers of impls, and methods, that are known.
use Rattle.std.proofs.Common.{◌≡◌, List, [], ◌∷◌, ◌++◌, Option, Some, None, IsTrue, subst, sym}
use Rattle.std.proofs.lemmas.List.Elements.{All-push, All-weaker}
use Rattle.relation_terms.specs.Heads.{BoundKind}
use Rattle.relation_terms.specs.Trees.{known}
use Rattle.relation_terms.specs.Meaning.{Meaning, Extends, under}
use Rattle.relation_terms.specs.Predicates.{trait_ref_tree}
use Rattle.relation_terms.specs.declared.predicate.trait_ref.TraitRef.{TraitRef}
use Rattle.relation_terms.specs.declared.terms.binder.Binder.{Binder}
use Rattle.relation_terms.specs.declared.terms.keys.ArgsKey.{ArgsKey}
use Rattle.relation_terms.proofs.Stays.{knows_ty, knows_as}
use Rattle.relation_coherence.specs.Headers.{header_tree}
use Rattle.relation_coherence.proofs.BothOpened.{header_stays}
use Rattle.text_users.specs.Asked.{AreForKnown}
use Rattle.text_users.specs.declared.methods.GenericMethod.{GenericMethod}

-- The arguments of a known trait reference under its binder are a known header.
pub header_known : {Key Id Name : Type 0} (m : Meaning Key Id Name) (o : Option (List BoundKind)) (t : TraitRef Key Id) →
    IsTrue (known (under o (trait_ref_tree m t))) → IsTrue (known (under o (m.args t.args)))
header_known m (Some ks) t h = h
header_known m None t h = h

-- A known header stays known while the interner grows.
pub header_later : {Key Id Name : Type 0} (m n : Meaning Key Id Name) → Extends m n → (h : Binder Key (ArgsKey Key)) →
    IsTrue (known (header_tree m h)) → IsTrue (known (header_tree n h))
header_later m n e h k = knows_as (header_tree m h) (header_tree n h) (header_stays m n e h k) k

-- So do methods.
pub methods_later : {Key Id Name N : Type 0} (m n : Meaning Key Id Name) → Extends m n →
    (ms : List (GenericMethod Key N)) → AreForKnown m ms → AreForKnown n ms
methods_later m n e ms h = All-weaker (λ x. IsTrue (known (m.ty (x.of).value))) (λ x. IsTrue (known (n.ty (x.of).value)))
    (λ x k. knows_ty e (x.of).value k) ms h

pub methods_with : {Key Id Name N : Type 0} (m : Meaning Key Id Name) (ms all : List (GenericMethod Key N))
    (x : GenericMethod Key N) → AreForKnown m ms → IsTrue (known (m.ty (x.of).value)) → all ≡ ms ++ x ∷ [] → AreForKnown m all
methods_with m ms all x h k e = subst (AreForKnown m) (sym e) (All-push (λ x. IsTrue (known (m.ty (x.of).value))) ms x h k)
