use Rattle.std.proofs.Common.{◌≡◌, IsTrue, refl, ap, subst}
use Rattle.std.proofs.lemmas.Bool.{false≢true, eqb-true, eq-eqb}
use Rattle.relation_terms.specs.declared.terms.ids.DefId.{DefId}
use Rattle.relation_terms.specs.contracts.terms.ids.DefId as item
use Rattle.relation_terms.specs.contracts.terms.ids.DefIdPartialEq.TheImpl as item_impl
use Rattle.fast_reject.specs.HeadKeys.{numbered}
use Rattle.fast_reject.specs.declared.simplify.SimplifiedType.TheVariants.{Bool as BoolKey, Char, Int}
use Rattle.fast_reject.specs.declared.simplify.SimplifiedType.TheVariants.{Uint, Float, Adt, Foreign}
use Rattle.fast_reject.specs.declared.simplify.SimplifiedType.TheVariants.{Str, Array, Slice, Ref, Ptr}
use Rattle.fast_reject.specs.declared.simplify.SimplifiedType.TheVariants.{Never, Tuple}
use Rattle.fast_reject.specs.declared.simplify.SimplifiedType.TheVariants.{MarkerTraitObject, Trait}
use Rattle.fast_reject.specs.declared.simplify.SimplifiedType.TheVariants.{Closure, Coroutine}
use Rattle.fast_reject.specs.declared.simplify.SimplifiedType.TheVariants.{CoroutineWitness, Function}
use Rattle.fast_reject.specs.declared.simplify.SimplifiedType.TheVariants.{UnsafeBinder, Placeholder}
use Rattle.fast_reject.specs.declared.simplify.SimplifiedType.TheVariants.{Error}
use Rattle.fast_reject.specs.contracts.simplify.SimplifiedTypePartialEq.TheImpl as key_impl
use Rattle.relation_terms.proofs.Widths.{int_eq, int_same, int_self, uint_eq, uint_same, uint_self}
use Rattle.relation_terms.proofs.Widths.{float_eq, float_same, float_self, mut_eq, mut_same, mut_self}
use Rattle.fast_reject.proofs.laws.equal_keys.Goals as goal

pub returns : goal.returns
returns g c = record { same_key = λ cx a b. (there cx a b, back cx a b) }
  where
    there : (cx : _) (a b : _) → IsTrue ((key_impl.ghosts (item.the_row g.row.I-Id)
        (item_impl.ghosts g.row.I-Id g.I.Id.PartialEq g.I.Id.PartialEq-dict)
        (item_impl.dict g.row.I-Id g.I.Id.PartialEq g.I.Id.PartialEq-dict)).eq a b) →
        numbered {D = DefId _} (λ d. (g.I.Interner.meaning cx).id d.0) a ≡
        numbered {D = DefId _} (λ d. (g.I.Interner.meaning cx).id d.0) b
    there cx BoolKey BoolKey h = refl
    there cx Char Char h = refl
    there cx (Int i) (Int j) h = ap Int (int_same i j h)
    there cx (Uint i) (Uint j) h = ap Uint (uint_same i j h)
    there cx (Float i) (Float j) h = ap Float (float_same i j h)
    there cx (Adt d) (Adt e) h = ap Adt ((g.met.I.Interner.same_id cx d.0 e.0).0 h)
    there cx (Foreign d) (Foreign e) h = ap Foreign ((g.met.I.Interner.same_id cx d.0 e.0).0 h)
    there cx Str Str h = refl
    there cx Array Array h = refl
    there cx Slice Slice h = refl
    there cx (Ref m) (Ref n) h = ap Ref (mut_same m n h)
    there cx (Ptr m) (Ptr n) h = ap Ptr (mut_same m n h)
    there cx Never Never h = refl
    there cx (Tuple m) (Tuple n) h = ap Tuple (eqb-true m n h)
    there cx MarkerTraitObject MarkerTraitObject h = refl
    there cx (Trait d) (Trait e) h = ap Trait ((g.met.I.Interner.same_id cx d.0 e.0).0 h)
    there cx (Closure d) (Closure e) h = ap Closure ((g.met.I.Interner.same_id cx d.0 e.0).0 h)
    there cx (Coroutine d) (Coroutine e) h = ap Coroutine ((g.met.I.Interner.same_id cx d.0 e.0).0 h)
    there cx (CoroutineWitness d) (CoroutineWitness e) h =
        ap CoroutineWitness ((g.met.I.Interner.same_id cx d.0 e.0).0 h)
    there cx (Function m) (Function n) h = ap Function (eqb-true m n h)
    there cx UnsafeBinder UnsafeBinder h = refl
    there cx Placeholder Placeholder h = refl
    there cx Error Error h = refl
    there cx _ _ h = absurd (false≢true h)

    back : (cx : _) (a b : _) →
        numbered {D = DefId _} (λ d. (g.I.Interner.meaning cx).id d.0) a ≡
        numbered {D = DefId _} (λ d. (g.I.Interner.meaning cx).id d.0) b →
        IsTrue ((key_impl.ghosts (item.the_row g.row.I-Id)
        (item_impl.ghosts g.row.I-Id g.I.Id.PartialEq g.I.Id.PartialEq-dict)
        (item_impl.dict g.row.I-Id g.I.Id.PartialEq g.I.Id.PartialEq-dict)).eq a b)
    back cx BoolKey BoolKey e = refl
    back cx Char Char e = refl
    back cx (Int i) (Int j) e = let p : i ≡ j = cc in subst (λ x. IsTrue (int_eq i x)) p (int_self i)
    back cx (Uint i) (Uint j) e = let p : i ≡ j = cc in subst (λ x. IsTrue (uint_eq i x)) p (uint_self i)
    back cx (Float i) (Float j) e = let p : i ≡ j = cc in subst (λ x. IsTrue (float_eq i x)) p (float_self i)
    back cx (Adt d) (Adt f) e = (g.met.I.Interner.same_id cx d.0 f.0).1 (cc)
    back cx (Foreign d) (Foreign f) e = (g.met.I.Interner.same_id cx d.0 f.0).1 (cc)
    back cx Str Str e = refl
    back cx Array Array e = refl
    back cx Slice Slice e = refl
    back cx (Ref m) (Ref n) e = let p : m ≡ n = cc in subst (λ x. IsTrue (mut_eq m x)) p (mut_self m)
    back cx (Ptr m) (Ptr n) e = let p : m ≡ n = cc in subst (λ x. IsTrue (mut_eq m x)) p (mut_self m)
    back cx Never Never e = refl
    back cx (Tuple m) (Tuple n) e = let p : m ≡ n = cc in eq-eqb m n p
    back cx MarkerTraitObject MarkerTraitObject e = refl
    back cx (Trait d) (Trait f) e = (g.met.I.Interner.same_id cx d.0 f.0).1 (cc)
    back cx (Closure d) (Closure f) e = (g.met.I.Interner.same_id cx d.0 f.0).1 (cc)
    back cx (Coroutine d) (Coroutine f) e = (g.met.I.Interner.same_id cx d.0 f.0).1 (cc)
    back cx (CoroutineWitness d) (CoroutineWitness f) e = (g.met.I.Interner.same_id cx d.0 f.0).1 (cc)
    back cx (Function m) (Function n) e = let p : m ≡ n = cc in eq-eqb m n p
    back cx UnsafeBinder UnsafeBinder e = refl
    back cx Placeholder Placeholder e = refl
    back cx Error Error e = refl
    back cx _ _ e = absurd (cc)
