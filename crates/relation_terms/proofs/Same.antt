-- Parts without keys of their own: made of the same, they are one.
use Rattle.std.proofs.Common.{◌≡◌, ◌&&◌, Bool, true, false, refl, ap, ap₂, IsTrue}
use Rattle.std.proofs.lemmas.Bool.{and_parts, false≢true}
use Rattle.std.proofs.Math.Bool.{beq}
use Rattle.std.specs.Cmp.Derive.{both_true}
use Rattle.relation_terms.specs.Trees.{node, nil, cons, known, front, last}
use Rattle.relation_terms.specs.Heads.{signature, inputs, existential_projection}
use Rattle.relation_terms.specs.Meaning.{Meaning, signature_tree, existential_tree, term_tree}
use Rattle.relation_terms.specs.Interning.{AreEqualAsTrees, AreEqualAsNumbers}
use Rattle.term_enums.specs.declared.Safety.{Safety}
use Rattle.term_enums.specs.declared.Safety.TheVariants.{Safe, Unsafe}
use Rattle.term_enums.specs.declared.ExternAbi.{ExternAbi}
use Rattle.term_enums.specs.declared.ExternAbi.TheVariants.{Rust, C, System}
use Rattle.term_enums.specs.declared.FnHeader.{FnHeader}
use Rattle.term_enums.specs.declared.PredicatePolarity.{PredicatePolarity}
use Rattle.term_enums.specs.declared.PredicatePolarity.TheVariants.{Positive, Negative}
use Rattle.relation_terms.specs.declared.terms.fn_sig.FnSig.{FnSig}
use Rattle.relation_terms.specs.declared.terms.keys.TysKey.{TysKey}
use Rattle.relation_terms.specs.declared.predicate.existential.ExistentialProjection.{ExistentialProjection}
use Rattle.relation_terms.specs.declared.predicate.existential.ExistentialPredicate.TheVariants.{Projection}
use Rattle.term_enums.specs.contracts.SafetyPartialEq.TheImpl as safety_impl
use Rattle.term_enums.specs.contracts.ExternAbiPartialEq.TheImpl as abi_impl
use Rattle.term_enums.specs.contracts.FnHeaderPartialEq.TheImpl as header_impl
use Rattle.term_enums.specs.contracts.PredicatePolarityPartialEq.TheImpl as polarity_impl
use Rattle.relation_terms.proofs.Binders.{front_known}

abbrev pub safety_eq : Safety → Safety → Bool
safety_eq = safety_impl.ghosts.eq

abbrev pub abi_eq : ExternAbi → ExternAbi → Bool
abi_eq = abi_impl.ghosts.eq

abbrev pub header_eq : FnHeader → FnHeader → Bool
header_eq = header_impl.ghosts.eq

abbrev pub polarity_eq : PredicatePolarity → PredicatePolarity → Bool
polarity_eq = polarity_impl.ghosts.eq

pub bool_same : (a b : Bool) → IsTrue (beq a b) → a ≡ b
bool_same true true h = refl
bool_same false false h = refl
bool_same _ _ h = absurd (false≢true h)

pub bool_self : (a : Bool) → IsTrue (beq a a)
bool_self true = refl
bool_self false = refl

pub polarity_same : (a b : PredicatePolarity) → IsTrue (polarity_eq a b) → a ≡ b
polarity_same Positive Positive h = refl
polarity_same Negative Negative h = refl
polarity_same _ _ h = absurd (false≢true h)

safety_same : (a b : Safety) → IsTrue (safety_eq a b) → a ≡ b
safety_same Safe Safe h = refl
safety_same Unsafe Unsafe h = refl
safety_same _ _ h = absurd (false≢true h)

safety_self : (a : Safety) → IsTrue (safety_eq a a)
safety_self Safe = refl
safety_self Unsafe = refl

abi_same : (a b : ExternAbi) → IsTrue (abi_eq a b) → a ≡ b
abi_same Rust Rust h = refl
abi_same C C h = refl
abi_same System System h = refl
abi_same _ _ h = absurd (false≢true h)

abi_self : (a : ExternAbi) → IsTrue (abi_eq a a)
abi_self Rust = refl
abi_self C = refl
abi_self System = refl

-- Equal headers are one.
pub header_same : (a b : FnHeader) → IsTrue (header_eq a b) → a ≡ b
header_same a b h =
    let p = and_parts (beq a.c_variadic b.c_variadic) (safety_eq a.safety b.safety && abi_eq a.abi b.abi) h in
    let q = and_parts (safety_eq a.safety b.safety) (abi_eq a.abi b.abi) p.1 in
    ap₂ (λ v (x : Safety × ExternAbi). record { c_variadic = v; safety = x.0; abi = x.1 })
    (bool_same a.c_variadic b.c_variadic p.0)
    (ap₂ (λ x y. (x, y)) (safety_same a.safety b.safety q.0) (abi_same a.abi b.abi q.1))

pub header_self : (a : FnHeader) → IsTrue (header_eq a a)
header_self a = both_true (bool_self a.c_variadic) (both_true (safety_self a.safety) (abi_self a.abi))

module _ {Key Id Name : Type 0} (m : Meaning Key Id Name) (eq : Key → Key → Bool) where
  -- Signatures over one list, with equal headers.
  pub same_signature : AreEqualAsTrees m.tys (λ k l. eq k.0 l.0) → (g h : FnSig Key) →
      IsTrue (known (signature_tree m g)) → IsTrue (known (signature_tree m h)) →
      IsTrue (eq (g.inputs_and_output).0 (h.inputs_and_output).0) → IsTrue (header_eq g.header h.header) →
      signature_tree m g ≡ signature_tree m h
  same_signature law g h k l e i =
      let ts = m.tys g.inputs_and_output in
      let us = m.tys h.inputs_and_output in
      let p = front_known ts (and_parts (known (front ts)) (known (last ts) && true) k).0 in
      let q = front_known us (and_parts (known (front us)) (known (last us) && true) l).0 in
      ap₂ (λ t (x : FnHeader). node (signature x.c_variadic x.safety x.abi)
      (cons (node inputs (front t)) (cons (last t) nil)))
      ((law g.inputs_and_output h.inputs_and_output p q).0 e) (header_same g.header h.header i)

  -- Inputs of one list.
  pub same_inputs : AreEqualAsTrees m.tys (λ k l. eq k.0 l.0) → (g h : TysKey Key) → IsTrue (known (front (m.tys g))) →
      IsTrue (known (front (m.tys h))) → IsTrue (eq g.0 h.0) → node inputs (front (m.tys g)) ≡ node inputs (front (m.tys h))
  same_inputs law g h k l e =
      ap (λ t. node inputs (front t)) ((law g h (front_known (m.tys g) k) (front_known (m.tys h) l)).0 e)

  -- Projections of one item, with one list of arguments and one term.
  pub same_projection : AreEqualAsTrees m.args (λ k l. eq k.0 l.0) → (ids : Id → Id → Bool) →
      AreEqualAsNumbers m.id ids → (p q : ExistentialProjection Key Id) →
      IsTrue (known (existential_tree m (Projection p))) → IsTrue (known (existential_tree m (Projection q))) →
      IsTrue (ids (p.def_id).0 (q.def_id).0) → IsTrue (eq (p.args).0 (q.args).0) →
      term_tree m p.term ≡ term_tree m q.term → existential_tree m (Projection p) ≡ existential_tree m (Projection q)
  same_projection law ids same p q k l d a t =
      let h = and_parts (known (term_tree m p.term)) (known (m.args p.args)) k in
      let i = and_parts (known (term_tree m q.term)) (known (m.args q.args)) l in
      ap₂ (λ x y. node (existential_projection x) y) ((same (p.def_id).0 (q.def_id).0).0 d)
      (ap₂ (λ x y. cons x y) t ((law p.args q.args h.1 i.1).0 a))
