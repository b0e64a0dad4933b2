-- The flags beside a table's nodes, and those of one more node.
use Rattle.std.proofs.Common.{ℕ, ◌<◌, ◌≡◌, IsTrue, List, [], ◌∷◌, ◌++◌, length, map, get_or, ap, ap₂, sym, ◌∙◌, subst}
use Rattle.std.proofs.lemmas.Bool.{and_parts}
use Rattle.std.proofs.lemmas.List.{get_or-map, length-map, map-append}
use Rattle.relation_terms.specs.Trees.{known}
use Rattle.relation_terms.specs.Heads.{Sort}
use Rattle.relation_terms.specs.Trees.{Tree, nil, cons, front, last, IsTerm}
use Rattle.relation_terms.specs.Meaning.{Meaning, signature_tree}
use Rattle.relation_terms.specs.declared.terms.fn_sig.FnSig.{FnSig}
use Rattle.relation_terms.proofs.Binders.{front_known}
use Rattle.reference_interner.specs.declared.keys.NodeKey.{NodeKey}
use Rattle.reference_interner.specs.declared.keys.ItemId.{ItemId}
use Rattle.reference_interner.specs.declared.keys.SymbolId.{SymbolId}
use Rattle.relation_terms.specs.Flags.{flags_of, flags_joined, own_flags}
use Rattle.relation_terms.specs.Parts.{parts_of}
use Rattle.relation_terms.proofs.Flags.{term_flags}
use Rattle.relation_terms.proofs.Parts.{known_parts}
use Rattle.relation_terms.specs.declared.terms.flags.TypeFlags.{TypeFlags}
use Rattle.reference_interner.specs.declared.node.Node.{Node}
use Rattle.reference_interner.specs.Forms.{form_of}
use Rattle.reference_interner.specs.Nodes.{NodeSort, no_entry, form_tree, entry_of, entries, table_meaning}
use Rattle.reference_interner.specs.Flags.{entry_flags, AreFlags}
use Rattle.reference_interner.specs.Places.{entries_there, of_sort, tree_of_key, key_reads}
use Rattle.reference_interner.proofs.ItemLemmas.{same_entry}
use Rattle.reference_interner.proofs.TableLemmas.{entries_snoc, key_in, known_here}
use Rattle.reference_interner.specs.Items.{Items, no_items}

pub flags_there : (ns : List Node) (fs : List TypeFlags) → AreFlags ns fs → length fs ≡ length ns
flags_there ns fs e = ap length e ∙ length-map (entries ns) entry_flags ∙ entries_there ns

-- What is kept of a known key's number is what is asked of its tree.
pub flags_read : (items : Items) (ns : List Node) (fs : List TypeFlags) → AreFlags ns fs → (s : NodeSort) (i : ℕ)
    (d : TypeFlags) → IsTrue (known (tree_of_key s (table_meaning items ns) i)) →
    get_or fs i d ≡ flags_of (tree_of_key s (table_meaning items ns) i)
flags_read items ns fs a s i d k =
    let e = get_or (entries ns) i no_entry in
    let below : i < length (entries ns) =
    subst (λ n. i < n) (sym (entries_there ns)) (key_in items ns s i k) in
    ap (λ x. get_or x i d) a ∙ get_or-map entry_flags (entries ns) i no_entry d below ∙
    ap entry_flags (of_sort s e (known_here items ns s i k)) ∙
    ap flags_of (sym (key_reads items (entries ns) s i))

-- The flags of one more node, behind those of the others.
pub flags_more : (items : Items) (ns : List Node) (n : Node) (fs : List TypeFlags) (f : TypeFlags) → AreFlags ns fs →
    f ≡ flags_of (form_tree (table_meaning items ns) (form_of n)) → AreFlags (ns ++ n ∷ []) (fs ++ f ∷ [])
flags_more items ns n fs f a e =
    let x = entry_of (table_meaning no_items ns) n in
    let same : f ≡ entry_flags x = e ∙ ap entry_flags (same_entry items no_items ns n) in
    ap (λ y. y ++ f ∷ []) a ∙ ap (λ y. map entry_flags (entries ns) ++ y ∷ []) same ∙
    sym (map-append entry_flags (entries ns) (x ∷ [])) ∙ ap (map entry_flags) (sym (entries_snoc [] ns n))

-- The parts of a known term are known.
pub parts_known : (t ts : Tree) → ts ≡ parts_of t → IsTrue (known t) → IsTrue (known ts)
parts_known t ts e k = subst (λ x. IsTrue (known x)) (sym e) (known_parts t k)

-- What is put together of a term's own flags and those of its parts.
pub form_flags : (s : Sort) (t ts : Tree) (o f r : TypeFlags) → IsTerm s t → ts ≡ parts_of t → o ≡ own_flags t →
    f ≡ flags_of ts → r ≡ flags_joined o f → r ≡ flags_of t
form_flags s t ts o f r i e a b j = j ∙ ap₂ flags_joined a b ∙ sym (term_flags s t ts i e)

-- The list of a known signature's types is known.
pub types_known : (m : Meaning NodeKey ItemId SymbolId) (s : FnSig NodeKey) → IsTrue (known (signature_tree m s)) →
    IsTrue (known (m.tys s.inputs_and_output))
types_known m s k =
    let ts = m.tys s.inputs_and_output in
    front_known ts (and_parts (known (front ts)) (known (cons (last ts) nil)) k).0
