-- What is asked of a term as a whole comes from its parts.
use Rattle.std.proofs.Common.{◌≡◌, ℕ, zero, suc, ◌<◌, Bool, true, false, ◌||◌, IsTrue, List, [], ◌∷◌, get_or, take, length}
use Rattle.std.proofs.Common.{refl, ap, ap₂, sym, ◌∙◌, arith, Option, Some, None}
use Rattle.std.proofs.lemmas.Bool.{and_parts, false≢true}
use Rattle.relation_terms.specs.Heads.{Sort, BoundKind}
use Rattle.relation_terms.specs.Trees.{Tree, leaf, node, bind, nil, cons, known, list_tree, front, last, IsList, IsTerm}
use Rattle.relation_terms.specs.Flags.{outer_exclusive_binder, has_non_region_infer, flags_of, flags_joined}
use Rattle.relation_terms.specs.Flags.{flags_under, own_flags}
use Rattle.relation_terms.specs.Meaning.{Meaning, region_tree, valtree_tree, pattern_tree, existential_tree, under}
use Rattle.relation_terms.specs.Meaning.{signature_tree}
use Rattle.relation_terms.specs.Parts.{parts_of, parts_tree, valtree_view, pattern_view, existential_view}
use Rattle.relation_terms.specs.declared.terms.flags.TypeFlags.{TypeFlags}
use Rattle.relation_terms.specs.declared.terms.fn_sig.FnSig.{FnSig}
use Rattle.relation_terms.specs.declared.terms.region_kind.RegionKind.{RegionKind}
use Rattle.relation_terms.specs.declared.terms.region_kind.RegionKind.TheVariants.{ReStatic, ReEarlyParam, ReBound}
use Rattle.relation_terms.specs.declared.terms.region_kind.RegionKind.TheVariants.{ReVar, RePlaceholder}
use Rattle.relation_terms.specs.declared.terms.const_kind.ValTreeKind.{ValTreeKind}
use Rattle.relation_terms.specs.declared.terms.const_kind.ValTreeKind.TheVariants.{Leaf, Branch}
use Rattle.relation_terms.specs.declared.terms.pattern_kind.PatternKind.{PatternKind}
use Rattle.relation_terms.specs.declared.terms.pattern_kind.PatternKind.TheVariants.{Range, Or, NotNull}
use Rattle.relation_terms.specs.declared.predicate.existential.ExistentialPredicate.{ExistentialPredicate}
use Rattle.relation_terms.specs.declared.predicate.existential.ExistentialPredicate.TheVariants.{Trait, AutoTrait}
use Rattle.relation_terms.specs.declared.predicate.existential.ExistentialPredicate.TheVariants.{Projection}
use Rattle.relation_terms.proofs.Binders.{with_last, front_and_last, front_is}

-- Flags of equal fields are equal.
abbrev flags : ℕ → Bool → TypeFlags
flags n b = record { outer_exclusive_binder = n; has_non_region_infer = b }

made_of : {n k : ℕ} {a b : Bool} → n ≡ k → a ≡ b → flags n a ≡ flags k b
made_of e f = ap₂ flags e f

or_none : (b : Bool) → b || false ≡ b
or_none true = refl
or_none false = refl

or_all : (a b c : Bool) → a || (b || c) ≡ (a || b) || c
or_all true b c = refl
or_all false b c = refl

pub none_before : (f : TypeFlags) → flags_joined (flags_of nil) f ≡ f
none_before f = made_of (omega arith) refl

pub none_behind : (f : TypeFlags) → flags_joined f (flags_of nil) ≡ f
none_behind f = made_of (omega arith) (or_none f.has_non_region_infer)

joined_all : (f g h : TypeFlags) → flags_joined f (flags_joined g h) ≡ flags_joined (flags_joined f g) h
joined_all f g h =
    made_of (omega arith) (or_all f.has_non_region_infer g.has_non_region_infer h.has_non_region_infer)

-- A term has its own flags and those of its parts.
pub term_flags : (s : Sort) (t ts : Tree) → IsTerm s t → ts ≡ parts_of t →
    flags_of t ≡ flags_joined (own_flags t) (flags_of ts)
term_flags s (leaf l) ts i e = sym (none_behind (flags_of (leaf l))) ∙ ap (λ x. flags_joined (flags_of (leaf l)) (flags_of x)) (sym e)
term_flags s (node h us) ts i e = sym (none_before (flags_of us)) ∙ ap (λ x. flags_joined (flags_of nil) (flags_of x)) (sym e)
term_flags s (bind ks t) ts i e = absurd i
term_flags s nil ts i e = absurd i
term_flags s (cons t us) ts i e = absurd i

-- A known binder has the flags of its body under one more binder.
pub under_flags : (o : Option (List BoundKind)) (t : Tree) → IsTrue (known (under o t)) →
    flags_of (under o t) ≡ flags_under (flags_of t)
under_flags (Some ks) t k = refl
under_flags None t k = absurd (false≢true k)

-- A list and one more member.
last_flags : (ts u : Tree) → IsList ts → flags_of (with_last ts u) ≡ flags_joined (flags_of ts) (flags_of u)
last_flags nil u i = none_behind (flags_of u) ∙ sym (none_before (flags_of u))
last_flags (cons t ts) u i =
    ap (flags_joined (flags_of t)) (last_flags ts u i) ∙ joined_all (flags_of t) (flags_of ts) (flags_of u)
last_flags (leaf l) u i = absurd i
last_flags (node h ts) u i = absurd i
last_flags (bind ks t) u i = absurd i

-- A list that has a last member has the flags of its front and of that one.
pub ends_flags : (ts : Tree) → IsTrue (known (front ts)) →
    flags_joined (flags_of (front ts)) (flags_of (last ts)) ≡ flags_of ts
ends_flags ts k = sym (last_flags (front ts) (last ts) (front_is ts k)) ∙ ap flags_of (front_and_last ts k)

-- The members up to a place, and one more.
pub flags_next : {A : Type 0} (f : A → Tree) (xs : List A) (i : ℕ) (d : A) → i < length xs →
    flags_of (list_tree f (take (suc i) xs)) ≡
    flags_joined (flags_of (list_tree f (take i xs))) (flags_of (f (get_or xs i d)))
flags_next f [] i d h = absurd (omega arith)
flags_next f (x ∷ xs) zero d h = none_behind (flags_of (f x)) ∙ sym (none_before (flags_of (f x)))
flags_next f (x ∷ xs) (suc i) d h =
    ap (flags_joined (flags_of (f x))) (flags_next f xs i d (omega arith)) ∙
    joined_all (flags_of (f x)) (flags_of (list_tree f (take i xs))) (flags_of (f (get_or xs i d)))

module _ {Key Id Name : Type 0} (m : Meaning Key Id Name) where
  -- A signature has the flags of its list.
  pub signature_flags : (s : FnSig Key) → IsTrue (known (signature_tree m s)) →
      flags_of (signature_tree m s) ≡ flags_of (m.tys s.inputs_and_output)
  signature_flags s k =
      let ts = m.tys s.inputs_and_output in
      ap (flags_joined (flags_of (front ts))) (none_behind (flags_of (last ts))) ∙
      ends_flags ts (and_parts (known (front ts)) (known (cons (last ts) nil)) k).0

  -- What has no flags of its own has those of its parts.
  pub valtree_flags : (k : ValTreeKind Key) → flags_of (valtree_tree m k) ≡ flags_of (parts_tree m (valtree_view k))
  valtree_flags (Leaf b n) = refl
  valtree_flags (Branch b) = refl

  pub pattern_flags : (k : PatternKind Key) → flags_of (pattern_tree m k) ≡ flags_of (parts_tree m (pattern_view k))
  pattern_flags (Range s e) = refl
  pattern_flags (Or a) = refl
  pattern_flags NotNull = refl

  pub existential_flags : (p : ExistentialPredicate Key Id) →
      flags_of (existential_tree m p) ≡ flags_of (parts_tree m (existential_view p))
  existential_flags (Trait t) = refl
  existential_flags (Projection p) = refl
  existential_flags (AutoTrait d) = refl

  -- A region has no parts.
  pub own_region_flags : (k : RegionKind Name) → own_flags (region_tree m k) ≡ flags_of (region_tree m k)
  own_region_flags ReStatic = refl
  own_region_flags (ReEarlyParam p) = refl
  own_region_flags (ReBound d b) = refl
  own_region_flags (ReVar v) = refl
  own_region_flags (RePlaceholder p) = refl
