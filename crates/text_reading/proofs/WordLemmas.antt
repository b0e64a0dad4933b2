-- Words one behind another, and which of them are leaves.
use Rattle.std.proofs.Common.{zero, ◌≡◌, ℕ, ◌+◌, add-one, ◌<◌, ◌≤◌, List, [], ◌∷◌, ◌++◌, Some, unwrap_or, false, suc, take, drop, refl, sym, ◌∙◌, ap, subst, arith}
use Rattle.std.specs.List.{slice_get}
use Rattle.std.proofs.lemmas.List.{append-nil}
use Rattle.std.proofs.lemmas.Grind.{flat_map-append}
use Rattle.std.proofs.Math.Logic.{∥∥₁_map}
use Rattle.text_reading.specs.declared.reading.words.Word.{Word}
use Rattle.text_reading.specs.declared.reading.words.Leaf as word
use Rattle.text_reading.specs.declared.reading.words.WordKind.{WordKind}
use Rattle.text_reading.specs.declared.reading.words.WordKind.TheVariants.{Leaf, Sign}
use Rattle.text_reading.specs.declared.reading.signs.Sign as sign
use Rattle.text_reading.specs.declared.reading.tree.Node.{Node}
use Rattle.text_reading.specs.declared.reading.tree.NodeKind.TheVariants as node
use Rattle.text_reading.specs.Words.{skip, LieBetween, EachLies, leaf_as, leaves}
use Rattle.text_reading.specs.Trees.{kind_words, node_words}

-- one more word
pub lie_more : (text : List ℕ) (ws : List Word) (w : Word) (from a : ℕ) → LieBetween text ws from a → drop w.start text ≡ skip false (drop a text) → a ≤ w.start → w.start < w.end → LieBetween text (ws ++ w ∷ []) from w.end
lie_more text [] w from a h s p q =
    (s ∙ sym (ap (λ n. skip false (drop n text)) h), omega (arith, h, p), q, refl)
lie_more text (v ∷ vs) w from a h s p q = (h.0, h.1, h.2, lie_more text vs w v.end a h.3 s p q)

pub lie_le : (text : List ℕ) (ws : List Word) (from to : ℕ) → LieBetween text ws from to → from ≤ to
lie_le text [] from to h = omega (arith, h)
lie_le text (v ∷ vs) from to h = let p = lie_le text vs v.end to h.3 in omega (arith, h.1, h.2, p)

-- words that stand one behind another stand in the text
pub lies_each : (text : List ℕ) (ws : List Word) (from to n : ℕ) → LieBetween text ws from to → to ≤ n → EachLies ws n
lies_each text [] from to n h b k w e = absurd cc
lies_each text (v ∷ vs) from to n h b zero w e =
    let p = lie_le text vs v.end to h.3 in
    subst (λ (x : Word). (x.start ≤ x.end) × (x.end ≤ n)) (ap (λ o. unwrap_or o v) e)
    (omega (arith, h.2), omega (arith, p, b))
lies_each text (v ∷ vs) from to n h b (suc k) w e = lies_each text vs v.end to n h.3 b k w e

-- one more word is read
pub take_more : (ws : List Word) (k : ℕ) (w : Word) → slice_get ws k ≡ Some w → take (suc k) ws ≡ take k ws ++ w ∷ []
take_more [] k w e = absurd cc
take_more (v ∷ vs) zero w e = ap (λ o. unwrap_or o v ∷ []) e
take_more (v ∷ vs) (suc k) w e = ap (λ l. v ∷ l) (take_more vs k w e)

-- its leaf, if it is one
pub leaves_more : (ws : List Word) (k : ℕ) (w : Word) → slice_get ws k ≡ Some w → leaves (take (k + 1) ws) ≡ leaves (take k ws) ++ leaf_as w.kind w
leaves_more ws k w e =
    ap (λ n. leaves (take n ws)) (add-one k) ∙ ap leaves (take_more ws k w e) ∙ flat_map-append (λ (v : Word). leaf_as v.kind v) (take k ws) (w ∷ [])
    ∙ ap (λ l. leaves (take k ws) ++ l) (append-nil (leaf_as w.kind w))

-- a sign leaves the leaves as they were
pub once_sign : (ns : List Node) (ws : List Word) (k : ℕ) (w : Word) (s : sign.Sign) → slice_get ws k ≡ Some w → w.kind ≡ Sign s → ∥ node_words ns ≡ leaves (take k ws) ∥₁ → ∥ node_words ns ≡ leaves (take (k + 1) ws) ∥₁
once_sign ns ws k w s e kind h =
    let same : leaves (take (k + 1) ws) ≡ leaves (take k ws) = leaves_more ws k w e
    ∙ ap (λ x. leaves (take k ws) ++ leaf_as x w) kind ∙ append-nil (leaves (take k ws)) in
    ∥∥₁_map h (λ p. p ∙ sym same)

-- a leaf is one more of both
pub once_leaf : (ns ms : List Node) (ws : List Word) (k : ℕ) (w : Word) (l : word.Leaf) → slice_get ws k ≡ Some w → w.kind ≡ Leaf l → node_words ms ≡ node_words ns ++ kind_words (node.Leaf l) w.start w.end → ∥ node_words ns ≡ leaves (take k ws) ∥₁ → ∥ node_words ms ≡ leaves (take (k + 1) ws) ∥₁
once_leaf ns ms ws k w l e kind more h =
    let as_leaf : WordKind → Word = λ x. record { kind = x; start = w.start; end = w.end } in
    let itself : w ≡ as_leaf (Leaf l) = ap as_leaf kind in
    let there : leaves (take (k + 1) ws) ≡ leaves (take k ws) ++ as_leaf (Leaf l) ∷ [] = leaves_more ws k w e
    ∙ ap (λ x. leaves (take k ws) ++ leaf_as x w) kind ∙ ap (λ x. leaves (take k ws) ++ x ∷ []) itself in
    ∥∥₁_map h (λ p. more ∙ ap (λ x. x ++ as_leaf (Leaf l) ∷ []) p ∙ sym there)

-- a form is no leaf
pub once_form : (ns ms : List Node) (ws : List Word) → node_words ms ≡ node_words ns ++ [] → ∥ node_words ns ≡ leaves ws ∥₁ → ∥ node_words ms ≡ leaves ws ∥₁
once_form ns ms ws more h = ∥∥₁_map h (λ p. more ∙ append-nil (node_words ns) ∙ p)

-- no leaf was added
pub once_same : (ns ms : List Node) (ws : List Word) → ms ≡ ns → ∥ node_words ns ≡ leaves ws ∥₁ → ∥ node_words ms ≡ leaves ws ∥₁
once_same ns ms ws e h = ∥∥₁_map h (λ p. ap node_words e ∙ p)
