-- Types over one item of the reference interner.
use Rattle.std.proofs.Common.{◌≡◌, IsTrue, Result, Ok, Err, IfOk, sym, ap, ◌∙◌}
use Rattle.relation_terms.specs.declared.terms.keys.TyKey.{TyKey}
use Rattle.term_enums.specs.declared.memory.OutOfMemory.{OutOfMemory}
use Rattle.relation_terms.specs.Heads.{adt}
use Rattle.relation_terms.specs.Trees.{Tree, node, known}
use Rattle.relation_terms.specs.Meaning.{Extends}
use Rattle.relation_semantics.specs.Parts.{head_of}
use Rattle.reference_interner.specs.declared.RefInterner.{RefInterner}
use Rattle.reference_interner.specs.declared.keys.NodeKey.{NodeKey}
use Rattle.reference_interner.specs.declared.keys.ItemId.{ItemId}
use Rattle.reference_interner.specs.Adding.{meaning_in}

-- What is made of arguments when an interner has grown is of the form that a type had before.
pub over_made : (s p q : RefInterner) (d : ItemId) (t ts us : Tree) →
    Extends (meaning_in s) (meaning_in p) → t ≡ node (adt ((meaning_in s).id d)) ts → (res : Result (TyKey NodeKey) OutOfMemory) →
    IfOk res (λ k. IsTrue (known ((meaning_in q).ty k))) →
    IfOk res (λ k. (meaning_in q).ty k ≡ node (adt ((meaning_in p).id d)) us) →
    IfOk res (λ k. IsTrue (known ((meaning_in q).ty k)) × ((meaning_in q).ty k ≡ node (head_of t) us))
over_made s p q d t ts us grown is (Ok k) sure made = (
  sure,
  made ∙ ap (λ i. node (adt i) us) (grown.id d) ∙ ap (λ u. node (head_of u) us) (sym is),
)
over_made s p q d t ts us grown is (Err e) sure made = tt
