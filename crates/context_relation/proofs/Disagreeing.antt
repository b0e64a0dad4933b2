-- No error comes of plain terms whose erasures agree.
use Rattle.std.proofs.Common.{◌≡◌, ℕ, ◌<◌, refl, sym, ap, ◌∙◌, inl, inr, subst, subst₂, arith, List, Bool}
use Rattle.term_enums.specs.declared.Variance.{Variance}
use Rattle.term_enums.specs.declared.Variance.TheVariants.{Bivariant}
use Rattle.relation_terms.specs.declared.terms.keys.TyKey.{TyKey}
use Rattle.relation_terms.specs.declared.terms.keys.ConstKey.{ConstKey}
use Rattle.relation_terms.specs.Heads.{region_sort, type_sort, const_sort, existential_sort, BoundKind, head_sort, Head, array, alias, alias_term, ref, raw_ptr, signature, inputs, value, value_type, value_branch, trait_ref, trait_clause, existential_auto, existential_trait, existential_projection, atom}
use Rattle.relation_terms.specs.Trees.{Tree, leaf, node, bind, nil, cons, count, nth, IsTerm}
use Rattle.relation_terms.specs.Meaning.{Meaning}
use Rattle.relation_terms.specs.Interning.{Sorted}
use Rattle.relation_folds.specs.declared.error.TypeError.{TypeError}
use Rattle.term_enums.specs.declared.StructurallyRelateAliases.{StructurallyRelateAliases}
use Rattle.relation_semantics.specs.Relation.{Items, at, part_at, sort_of, IsAlias, IsAliasHead}
use Rattle.relation_semantics.specs.Settings.{Settings}
use Rattle.relation_semantics.specs.Stores.{Store}
use Rattle.relation_semantics.specs.Errors.{IsHandedOn, IsItemHead, FormError, mutability, pointer_mutability, tuple_size, empty_tuple, as_many, alias_arguments, unlike_aliases, sorts}
use Rattle.relation_semantics.specs.Errors.{ConstFormError, const_mismatch, operations, unlike_patterns, SignatureError, unlike_variadic, unlike_safety, unlike_abi, unlike_counts, ExistentialError, unlike_traits, unlike_auto_traits, unlike_projections, unlike_arguments, unlike_existentials, ItemError, unlike_alias_terms, unlike_trait_refs, unlike_lists, unlike_polarities}
use Rattle.relation_semantics.specs.Errors.{PartError, pattern_error, signature_error, existential_error, item_error, object_error, BindingError, cyclic_ty, cyclic_const, beyond, ErrorOf, of_entries, of_bodies, of_binding, of_binding_back, of_kinds, by_forms, ErrorByForms, of_forms, of_const_forms, of_part_forms, of_parts, of_alias_parts, of_alias_term_parts, of_trait_refs, of_length, of_inputs, of_outputs, of_branches}
use Rattle.relation_semantics.specs.Agreeing.{Agree}
use Rattle.relation_semantics.proofs.Answering.{covariantly}
use Rattle.relation_semantics.proofs.Asking.{part_bivariant}
use Rattle.context_relation.proofs.PlainTerms.{Good, good_parts, good_nth, suits_body, alias_left, Alike, Met, met_as, FormsAgree, forms_agree, agree_counts, agree_at, same_sort, leaves_alike, types_alike}
use Rattle.context_relation.proofs.PlainForms.{no_pattern, stand_regions, inst_plain, inst_no_alias, erase-inst, RegionsUnbound, read_good, no_placeholder, plain_known, consts_alike, existentials_alike}
use Rattle.relation_terms.proofs.Members.{type_only}
use Rattle.relation_semantics.proofs.Deferring.{normal_not_left}

type_is_no_value_type : (h : Head) → head_sort h ≡ type_sort → h ≡ value_type → ⊥
type_is_no_value_type h e d = let z : head_sort value_type ≡ type_sort = sym (ap head_sort d) ∙ e in cc

existential_is_no_value_type : (h : Head) → head_sort h ≡ existential_sort → h ≡ value_type → ⊥
existential_is_no_value_type h e d = let z : head_sort value_type ≡ existential_sort = sym (ap head_sort d) ∙ e in cc

item_is_no_value_type : (h : Head) → IsItemHead h → h ≡ value_type → ⊥
item_is_no_value_type h i d = subst IsItemHead d i

-- Of two terms that are not left to a goal, and whose erasures agree.
module _ {Key Id Name : Type 0} (m : Meaning Key Id Name) (sorted : Sorted m) (set : Settings) (c : Items) where
  abbrev Error : Type 0
  Error = TypeError Key Id Name

  at_forms : {v : Variance} {a b : Tree} {h k : Head} {ts us : Tree} → a ≡ node h ts → b ≡ node k us → Met set c v a b →
      Alike set c v a b → FormsAgree set c v h k ts us
  at_forms {v = v} {h = h} {k = k} {ts = ts} {us = us} d e f r =
      forms_agree set c v h k ts us (met_as set c d e f) (subst₂ (Alike set c v) d e r)

  at_counts : {v : Variance} {h k : Head} {ts us : Tree} → FormsAgree set c v h k ts us → (h ≡ value_type → ⊥) →
      count ts ≡ count us
  at_counts {v = v} {h = h} {ts = ts} {us = us} f n = agree_counts set c h 0 v ts us (f.inside n)

  alias_never : {v : Variance} {a b : Tree} {h : Head} {ts : Tree} → a ≡ node h ts → IsAliasHead h → Met set c v a b → ⊥
  alias_never {a = a} {b = b} {h = h} {ts = ts} d i f =
      f.gone_into (alias_left set a b f.left.1 (subst IsAlias (sym d) i))

  is_type : (x : TyKey Key) → Good set (m.ty x) → IsTerm type_sort (m.ty x)
  is_type x f = sorted.ty x (plain_known _ f.0)

  is_const : (x : ConstKey Key) → Good set (m.const_ x) → IsTerm const_sort (m.const_ x)
  is_const x f = sorted.const_ x (plain_known _ f.0)

  form_error : {v : Variance} (x y : TyKey Key) {e : Error} → FormError m x y e → Met set c v (m.ty x) (m.ty y) →
      Alike set c v (m.ty x) (m.ty y) → ⊥
  form_error x y (mutability d k o) f r = o (path (at_forms d k f r).same)
    where
      path : {u v : _} → ref u ≡ ref v → u ≡ v
      path e = cc
  form_error x y (pointer_mutability d k o) f r = o (path (at_forms d k f r).same)
    where
      path : {u v : _} → raw_ptr u ≡ raw_ptr v → u ≡ v
      path e = cc
  form_error x y (tuple_size d k p q o) f r = o (at_counts (at_forms d k f r) (λ e. cc))
  form_error x y (empty_tuple d k o p) f r = o (at_counts (at_forms d k f r) (λ e. cc))
  form_error x y (as_many {h = h} {ts = ts} d k p o) f r = o (at_counts (at_forms d k f r)
      (type_is_no_value_type h (type_only _ (subst (IsTerm type_sort) d (is_type x f.left)).0)))
  form_error x y (alias_arguments d k o) f r = alias_never d tt f
  form_error x y (unlike_aliases i j d k o) f r = alias_never d tt f
  form_error {v = v} x y (sorts p o) f r =
      o (types_alike set c v (m.ty x) (m.ty y) f (is_type x f.left) (is_type y f.right) r)

  const_form_error : {v : Variance} (x y : ConstKey Key) {e : Error} → ConstFormError m x y e →
      Met set c v (m.const_ x) (m.const_ y) → Alike set c v (m.const_ x) (m.const_ y) → ⊥
  const_form_error {v = v} x y (const_mismatch p o) f r =
      o (consts_alike set c v (m.const_ x) (m.const_ y) f (is_const x f.left) (is_const y f.right) r)
  const_form_error x y (operations d k o) f r = (subst (Good set) d f.left).0.0

  header_path : {x y : Bool} {s t : _} {k l : _} → signature x s k ≡ signature y t l → (x ≡ y) × (s ≡ t) × (k ≡ l)
  header_path e = (cc, cc, cc)

  signature_errors : {v : Variance} {e : Error} (a b : Tree) → SignatureError a b e → Met set c v a b →
      Alike set c v a b → ⊥
  signature_errors a b (unlike_variadic d k o e) f r = o (header_path (at_forms d k f r).same).0
  signature_errors a b (unlike_safety d k o e) f r = o (header_path (at_forms d k f r).same).1
  signature_errors a b (unlike_abi d k o e) f r = o (header_path (at_forms d k f r).same).2
  signature_errors a b (unlike_counts d k o e) f r = o (at_counts (at_forms d k f r) (λ e. cc))

  auto_path : {v : Variance} {d e : ℕ} (a b : Tree) → a ≡ leaf (atom (existential_auto d)) →
      b ≡ leaf (atom (existential_auto e)) → Met set c v a b → Alike set c v a b → d ≡ e
  auto_path {v = v} {d = d} {e = e} a b p q f r = path (leaves_alike set c v (atom (existential_auto d))
      (atom (existential_auto e)) (met_as set c p q f) (λ s. cc) (λ s. cc) (subst₂ (Alike set c v) p q r))
    where
      path : atom (existential_auto d) ≡ atom (existential_auto e) → d ≡ e
      path z = cc

  existential_errors : {v : Variance} {e : Error} (a b : Tree) → ExistentialError m a b e → Met set c v a b →
      Alike set c v a b → ⊥
  existential_errors a b (unlike_traits i j d k o) f r = o (path (at_forms d k f r).same)
    where
      path : {d e : ℕ} → existential_trait d ≡ existential_trait e → d ≡ e
      path e = cc
  existential_errors a b (unlike_auto_traits i j d k o) f r = o (auto_path a b d k f r)
  existential_errors a b (unlike_projections i j d k o) f r = o (path (at_forms d k f r).same)
    where
      path : {d e : ℕ} → existential_projection d ≡ existential_projection e → d ≡ e
      path e = cc
  existential_errors a b (unlike_arguments {h = h} s d k o) f r =
      o (at_counts (at_forms d k f r) (existential_is_no_value_type h s))
  existential_errors {v = v} a b (unlike_existentials s t o) f r = o (existentials_alike set c v a b f s t r)

  item_errors : {v : Variance} {e : Error} (a b : Tree) → ItemError m a b e → Met set c v a b → Alike set c v a b → ⊥
  item_errors a b (unlike_alias_terms i j d k o) f r = (subst (Good set) d f.left).0.0
  item_errors a b (unlike_trait_refs i j d k o) f r = o (path (at_forms d k f r).same)
    where
      path : {d e : ℕ} → trait_ref d ≡ trait_ref e → d ≡ e
      path e = cc
  item_errors a b (unlike_lists {h = h} i p d k o) f r = o (at_counts (at_forms d k f r) (item_is_no_value_type h i))
  item_errors a b (unlike_polarities d k o) f r = o (path (at_forms d k f r).same)
    where
      path : {p q : _} → trait_clause p ≡ trait_clause q → p ≡ q
      path e = cc

  part_errors : {v : Variance} {e : Error} (a b : Tree) → PartError m a b e → Met set c v a b → Alike set c v a b → ⊥
  part_errors a b (pattern_error (unlike_patterns s t o e)) f r = no_pattern a f.left.0 s
  part_errors a b (signature_error q) f r = signature_errors a b q f r
  part_errors a b (existential_error q) f r = existential_errors a b q f r
  part_errors a b (item_error q) f r = item_errors a b q f r
  part_errors a b (object_error x y p q o) f r = (subst (Good set) (sym p) f.left).0.0

  module _ (st : Store) (un : RegionsUnbound st) where
    binding_errors : {g : StructurallyRelateAliases} {e : Error} (a b : Tree) → BindingError m g st a b e → Good set a →
        Good set b → sort_of a ≡ sort_of b → ⊥
    binding_errors a b (cyclic_ty n k p q o e) f g s =
        let z = (subst (Good set) p f).0 in let y : type_sort ≡ region_sort = z in cc
    binding_errors a b (cyclic_const n k p q o e) f g s =
        let z = (subst (Good set) p f).0 in let y : const_sort ≡ region_sort = z in cc
    binding_errors {g = aliases} a b (beyond k n q u i p o w l e) f g s =
        let z = (subst (Good set) p f).0 in no_placeholder aliases st un q u i b g.0 (sym s ∙ ap sort_of p ∙ z) w o

    inside : {v : Variance} (h : Head) (i : ℕ) → v ≡ Bivariant → part_at c h i v ≡ Bivariant
    inside h i e = ap (part_at c h i) e ∙ part_bivariant c h i

    -- No error comes at bivariance.
    mutual
      pub error_decides : {v : Variance} {e : Error} {a b : Tree} → ErrorOf m set c st v e a b → v ≡ Bivariant → ⊥
      error_decides (of_entries p q r) e = error_decides r e
      error_decides (of_bodies xs ys p q s t r) e = error_decides r e
      error_decides (of_binding n r) e = n e
      error_decides (of_binding_back n r) e = n e
      error_decides (of_kinds n s) e = n e
      error_decides (by_forms l r) e = forms_decide r e

      forms_decide : {v : Variance} {e : Error} {a b : Tree} → ErrorByForms m set c st v e a b → v ≡ Bivariant → ⊥
      forms_decide (of_forms x y n p q o r) e = n e
      forms_decide (of_const_forms x y n p q o r) e = n e
      forms_decide (of_part_forms n r) e = n e
      forms_decide (of_parts {h = h} i p q k l o r) e = error_decides r (inside h i e)
      forms_decide (of_alias_parts {h = h} {d = d} i p q k l r) e = error_decides r (inside (alias h d) i e)
      forms_decide (of_alias_term_parts {h = h} {d = d} i p q j k l r) e = error_decides r (inside (alias_term h d) i e)
      forms_decide (of_trait_refs {p = p} d k r) e = error_decides r (inside (trait_clause p) 0 e)
      forms_decide (of_length x y i p q k l s t r) e = error_decides r (inside array i e)
      forms_decide (of_inputs i p q k l r o) e = error_decides r (inside inputs i e)
      forms_decide (of_outputs {x = x} {s = s} {w = w} p q k r t) e = error_decides r (inside (signature x s w) 1 e)
      forms_decide (of_branches x y i p q k l r) e = error_decides r (inside value_branch i e)

    opened : {v : Variance} (ks ls : List BoundKind) (t u : Tree) → (v ≡ Bivariant → ⊥) → (Alike set c v t u → ⊥) →
        Alike set c v (bind ks t) (bind ls u) → ⊥
    opened ks ls t u n h (inl e) = n e
    opened ks ls t u n h (inr o) = h o

    handed_no_type : (e : Error) (h : Head) (i : ℕ) (t u : Tree) → IsHandedOn e h i t u → h ≡ value_type → ⊥
    handed_no_type e h i t u o d = subst (λ j. IsHandedOn e j i t u) d o

    -- The parts at a place of two forms that agree.
    part_alike : {v : Variance} {a b : Tree} {h k : Head} {ts us : Tree} (i : ℕ) → a ≡ node h ts → b ≡ node k us →
        (h ≡ value_type → ⊥) → i < count ts → Met set c v a b → Alike set c v a b →
        Alike set c (part_at c h i v) (nth i ts) (nth i us)
    part_alike {v = v} {h = h} {ts = ts} {us = us} i p q n l f z =
        agree_at set c h v 0 i i ts us (omega arith) l ((at_forms p q f z).inside n)

    left_part : {v : Variance} {a b : Tree} {h : Head} {ts : Tree} (i : ℕ) → a ≡ node h ts → Met set c v a b →
        Good set (nth i ts)
    left_part {h = h} {ts = ts} i p f = good_nth set i ts (good_parts set h ts (subst (Good set) p f.left))

    right_part : {v : Variance} {a b : Tree} {k : Head} {us : Tree} (i : ℕ) → b ≡ node k us → Met set c v a b →
        Good set (nth i us)
    right_part {k = k} {us = us} i q f = good_nth set i us (good_parts set k us (subst (Good set) q f.right))

    mutual
      -- An error of two terms and that their erasures agree exclude each other.
      pub disagree : {v : Variance} {e : Error} {a b : Tree} → ErrorOf m set c st v e a b → Good set a → Good set b →
          Alike set c v a b → ⊥
      disagree {v = v} {a = a} {b = b} (of_entries {t = t} {u = u} p q r) f g z =
          let x = read_good set st un a t p f in let y = read_good set st un b u q g in
          disagree r x.0 y.0 (subst₂ (Agree set c (at v)) x.1 y.1 z)
      disagree {v = v} (of_bodies {ks = ks} {ls = ls} {t = t} {u = u} xs ys p q s w r) f g z =
          let left = subst (Good set) p f in
          let right = subst (Good set) q g in
          let x = stand_regions ks xs left.0.0 s in
          let y = stand_regions ls ys right.0.0 w in
          opened ks ls t u (error_decides r)
          (λ o. disagree r
          (inst_plain xs 0 t x left.0.1, inl (inst_no_alias xs 0 t x left.0.1 (suits_body set ks t left.1)))
          (inst_plain ys 0 u y right.0.1, inl (inst_no_alias ys 0 u y right.0.1 (suits_body set ls u right.1)))
          (subst₂ (Agree set c (at v)) (sym (erase-inst xs 0 t x left.0.1)) (sym (erase-inst ys 0 u y right.0.1)) o))
          (subst₂ (Alike set c v) p q z)
      disagree {v = v} {a = a} {b = b} (of_binding n r) f g z = binding_errors a b r f g (same_sort set c v a b n z)
      disagree {v = v} {a = a} {b = b} (of_binding_back n r) f g z =
          binding_errors b a r g f (sym (same_sort set c v a b n z))
      disagree {v = v} {a = a} {b = b} (of_kinds n s) f g z = s (same_sort set c v a b n z)
      disagree (by_forms l r) f g z =
          forms_disagree r (record { left = f; right = g; decides = forms_decide r; gone_into = l }) z

      forms_disagree : {v : Variance} {e : Error} {a b : Tree} → ErrorByForms m set c st v e a b → Met set c v a b →
          Alike set c v a b → ⊥
      forms_disagree {v = v} (of_forms x y n p q o r) f z =
          form_error x y r (met_as set c (sym p) (sym q) f) (subst₂ (Alike set c v) (sym p) (sym q) z)
      forms_disagree {v = v} (of_const_forms x y n p q o r) f z =
          const_form_error x y r (met_as set c (sym p) (sym q) f) (subst₂ (Alike set c v) (sym p) (sym q) z)
      forms_disagree {a = a} {b = b} (of_part_forms n r) f z = part_errors a b r f z
      forms_disagree (of_parts {e = e} {h = h} {ts = ts} {us = us} i p q k l o r) f z =
          disagree r (left_part i p f) (right_part i q f)
          (part_alike i p q (handed_no_type e h i (nth i ts) (nth i us) o) l f z)
      forms_disagree (of_alias_parts i p q k l r) f z = alias_never p tt f
      forms_disagree (of_alias_term_parts i p q j k l r) f z = (subst (Good set) p f.left).0.0
      forms_disagree (of_trait_refs {p = p} {t = t} {u = u} d k r) f z =
          disagree r (left_part {h = trait_clause p} {ts = cons t nil} 0 d f) (right_part {us = cons u nil} 0 k f)
          (part_alike {h = trait_clause p} {ts = cons t nil} {us = cons u nil} 0 d k (λ e. cc) (omega arith) f z)
      forms_disagree (of_length x y i p q k l s t r) f z =
          disagree r (left_part i p f) (right_part i q f) (part_alike i p q (λ e. cc) l f z)
      forms_disagree (of_inputs i p q k l r o) f z =
          disagree r (left_part i p f) (right_part i q f) (part_alike i p q (λ e. cc) l f z)
      forms_disagree (of_outputs {x = x} {s = s} {w = w} {p = ps} {q = qs} {o = o} {r = q} d k n r t) f z =
          disagree r (left_part {ts = cons (node inputs ps) (cons o nil)} 1 d f)
          (right_part {us = cons (node inputs qs) (cons q nil)} 1 k f)
          (part_alike {ts = cons (node inputs ps) (cons o nil)} {us = cons (node inputs qs) (cons q nil)} 1 d k (λ e. cc)
          (omega arith) f z)
      forms_disagree {v = v} (of_branches {t = t} {u = u} {ts = ts} {us = us} x y i p q k l r) f z =
          let branches : Met set c v (node value_branch ts) (node value_branch us) = record {
            left = left_part {ts = cons t (cons (node value_branch ts) nil)} 1 p f;
            right = right_part {us = cons u (cons (node value_branch us) nil)} 1 q f;
            decides = f.decides;
            gone_into = normal_not_left set (node value_branch ts) (node value_branch us) (λ o. o) (λ o. o);
          } in
          let alike = subst (λ j. Alike set c j (node value_branch ts) (node value_branch us)) (covariantly v)
          (part_alike {h = value} {ts = cons t (cons (node value_branch ts) nil)}
          {us = cons u (cons (node value_branch us) nil)} 1 p q (λ e. cc) (omega arith) f z) in
          disagree r (left_part {b = node value_branch us} i refl branches) (right_part {a = node value_branch ts} i refl branches)
          (part_alike {h = value_branch} i refl refl (λ e. cc) l branches alike)
