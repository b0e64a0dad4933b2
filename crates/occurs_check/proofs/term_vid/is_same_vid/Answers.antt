use Rattle.std.proofs.Common.{◌≡◌, IsTrue, nat_eq, false, ap, sym, ◌∙◌}
use Rattle.std.proofs.lemmas.Bool.{eqb-true, eq-eqb, false≢true}
use Rattle.relation_terms.specs.Heads.{type_var, const_var}
use Rattle.relation_terms.specs.declared.terms.numbers.TyVid.{TyVid}
use Rattle.relation_terms.specs.declared.terms.numbers.ConstVid.{ConstVid}
use Rattle.occurs_check.specs.declared.term_vid.TermVid.{TermVid}
use Rattle.occurs_check.specs.declared.term_vid.TermVid.TheVariants.{Ty, Const}
use Rattle.occurs_check.specs.TermVids.{vid_kind, vid_number}
use Rattle.occurs_check.proofs.term_vid.is_same_vid.Goals as goal

same_ty : (a b : TermVid) (x y : TyVid) → a ≡ Ty x → b ≡ Ty y → (IsTrue (nat_eq x.0 y.0) → a ≡ b) × (a ≡ b → IsTrue (nat_eq x.0 y.0))
same_ty a b x y p q = (
  (λ h. p ∙ ap (λ n. Ty (record { 0 = n })) (eqb-true x.0 y.0 h) ∙ sym q),
  (λ e. eq-eqb x.0 y.0 (ap vid_number (sym p ∙ e ∙ q))),
)

same_const : (a b : TermVid) (x y : ConstVid) → a ≡ Const x → b ≡ Const y → (IsTrue (nat_eq x.0 y.0) → a ≡ b) × (a ≡ b → IsTrue (nat_eq x.0 y.0))
same_const a b x y p q = (
  (λ h. p ∙ ap (λ n. Const (record { 0 = n })) (eqb-true x.0 y.0 h) ∙ sym q),
  (λ e. eq-eqb x.0 y.0 (ap vid_number (sym p ∙ e ∙ q))),
)

no_kind : type_var ≡ const_var → ⊥
no_kind e = cc

apart : (a b : TermVid) (x : TyVid) (y : ConstVid) → a ≡ Ty x → b ≡ Const y → (IsTrue false → a ≡ b) × (a ≡ b → IsTrue false)
apart a b x y p q = ((λ h. absurd (false≢true h)), λ e. absurd (no_kind (ap vid_kind (sym p ∙ e ∙ q))))

apart_back : (a b : TermVid) (x : ConstVid) (y : TyVid) → a ≡ Const x → b ≡ Ty y → (IsTrue false → a ≡ b) × (a ≡ b → IsTrue false)
apart_back a b x y p q = ((λ h. absurd (false≢true h)), λ e. absurd (no_kind (ap vid_kind (sym q ∙ sym e ∙ p))))

pub returns-in-Ty-b : goal.returns-in-Ty-b
returns-in-Ty-b c = same_ty c.args.a c.args.b c.in-Ty.a c.in-Ty-b.b c.in-Ty.is c.in-Ty-b.is

pub returns-in-Const-b : goal.returns-in-Const-b
returns-in-Const-b c = apart c.args.a c.args.b c.in-Ty.a c.in-Const-b.field-0 c.in-Ty.is c.in-Const-b.is

pub returns-in-Const-b-2 : goal.returns-in-Const-b-2
returns-in-Const-b-2 c = same_const c.args.a c.args.b c.in-Const.a c.in-Const-b-2.b c.in-Const.is c.in-Const-b-2.is

pub returns-in-Ty-b-2 : goal.returns-in-Ty-b-2
returns-in-Ty-b-2 c = apart_back c.args.a c.args.b c.in-Const.a c.in-Ty-b-2.field-0 c.in-Const.is c.in-Ty-b-2.is
