use Rattle.std.proofs.Common.{◌∙◌, ◌≡◌, IsTrue, sym, ap, subst, refl, true}
use Rattle.std.proofs.lemmas.Bool.{and_parts}
use Rattle.relation_terms.specs.Trees.{known, nil, cons, list_tree}
use Rattle.relation_terms.specs.Meaning.{arg_tree}
use Rattle.relation_terms.specs.Parts.{Fit, Alike, part_tree, parts_tree, part_of_arg}
use Rattle.relation_terms.specs.declared.terms.part_kind.Part.TheVariants.{Ty, Const, Pat}
use Rattle.relation_terms.specs.declared.terms.part_kind.Parts.TheVariants.{Empty, One, Two, Args, Tys, Branches}
use Rattle.relation_terms.specs.declared.terms.part_kind.Parts.TheVariants.{Alternatives}
use Rattle.relation_terms.proofs.Stays.{stays_same, knows_as}
use Rattle.relation_terms.specs.Interning.{Sorted}
use Rattle.relation_terms.specs.Heads.{type_sort}
use Rattle.relation_terms.specs.Trees.{front}
use Rattle.relation_terms.specs.Meaning.{term_tree, object_predicate_tree}
use Rattle.relation_terms.specs.Parts.{part_of_predicate}
use Rattle.relation_terms.proofs.Binders.{front_known, front_terms}
use Rattle.relation_terms.proofs.Sorted.{term_sorted}
use Rattle.relation_terms.proofs.Members.{fit_predicates, fit_term_args, if_ok}
use Rattle.relation_terms.proofs.Parts.{fit_two_some}
use Rattle.relation_terms.proofs.Members.{fit_args, fit_tys, fit_consts, fit_pats, fit_none, mapped}
use Rattle.relation_terms.proofs.Parts.{fit_one, fit_two, arg_part, sort_known}
use Rattle.relation_terms.proofs.terms.parts.members.make_parts.Goals as goal

pub returns-in-Empty : goal.returns-in-Empty
returns-in-Empty g c =
    let m = g.I.Interner.meaning c.args.cx.now in
    let xs = c.args.members.now in
    let f = subst (λ p. Fit xs (parts_tree m p)) c.in-Empty.is c.requires.fits in
    record {
      grown = stays_same m;
      sure = refl;
      made = sym (fit_none (part_tree m) xs f);
      alike = subst (λ p. Alike p Empty) (sym c.in-Empty.is) tt;
      refused = tt;
    }

pub returns-in-One : goal.returns-in-One
returns-in-One g c =
    let m = g.I.Interner.meaning c.args.cx.now in
    let xs = c.args.members.now in
    let f = subst (λ p. Fit xs (parts_tree m p)) c.in-One.is c.requires.fits in
    let s : Sorted m = g.met.I.Interner.sorted c.args.cx.now in
    let p = c.in-One.field-0 in
    let k : IsTrue (known (cons (part_tree m p) nil)) = subst (λ p. IsTrue (known (parts_tree m p))) c.in-One.is c.requires.like_known in
    let x = c.index-members-0.result in
    let o = fit_one m (part_tree m) xs (part_tree m p) x x f c.index-members-0.is in
    record {
      grown = stays_same m;
      sure = knows_as (list_tree (part_tree m) xs) (cons (part_tree m x) nil) o.0 c.requires.members_known;
      made = o.0;
      alike = subst (λ p. Alike p (One x)) (sym c.in-One.is)
          (o.1 ∙ sort_known m s p (and_parts (known (part_tree m p)) true k).0);
      refused = tt;
    }

pub returns-in-Two : goal.returns-in-Two
returns-in-Two g c =
    let m = g.I.Interner.meaning c.args.cx.now in
    let xs = c.args.members.now in
    let f = subst (λ p. Fit xs (parts_tree m p)) c.in-Two.is c.requires.fits in
    let s : Sorted m = g.met.I.Interner.sorted c.args.cx.now in
    let p = c.in-Two.field-0 in
    let q = c.in-Two.field-1 in
    let k : IsTrue (known (cons (part_tree m p) (cons (part_tree m q) nil))) = subst (λ p. IsTrue (known (parts_tree m p))) c.in-Two.is c.requires.like_known in
    let x = c.index-members-0-in-Two.result in
    let y = c.index-members-1.result in
    let o = fit_two m (part_tree m) xs (part_tree m p) (part_tree m q) x x y y f c.index-members-0-in-Two.is
    c.index-members-1.is in
    let h = and_parts (known (part_tree m p)) (known (cons (part_tree m q) nil)) k in
    record {
      grown = stays_same m;
      sure = knows_as (list_tree (part_tree m) xs) (cons (part_tree m x) (cons (part_tree m y) nil)) o.0
          c.requires.members_known;
      made = o.0;
      alike = subst (λ p. Alike p (Two x y)) (sym c.in-Two.is)
          (o.1.0 ∙ sort_known m s p h.0, o.1.1 ∙ sort_known m s q (and_parts (known (part_tree m q)) true h.1).0);
      refused = tt;
    }

pub args_of-requires : goal.args_of-requires
args_of-requires g c =
    let m = g.I.Interner.meaning c.args.cx.now in
    let xs = c.args.members.now in
    let f = subst (λ p. Fit xs (parts_tree m p)) c.in-Args.is c.requires.fits in
    let a = c.in-Args.field-0 in
    let k : IsTrue (known (m.args a)) = subst (λ p. IsTrue (known (parts_tree m p))) c.in-Args.is c.requires.like_known in
    fit_args xs (m.args a) f ((g.met.I.Interner.sorted c.args.cx.now).args a k)

pub mk_args-requires : goal.mk_args-requires
mk_args-requires g c =
    let m = g.I.Interner.meaning c.args.cx.now in
    let xs = c.args.members.now in
    let l = c.in_ok-list-in-Args.list.items in
    let q : list_tree (arg_tree m) c.deref.result.now ≡ list_tree (part_tree m) xs =
    ap (list_tree (arg_tree m)) c.deref.ensures.value
    ∙ mapped (arg_tree m) (part_tree m) part_of_arg (arg_part m) l xs c.in_ok-list-in-Args.ensures in
    knows_as (list_tree (part_tree m) xs) (list_tree (arg_tree m) c.deref.result.now) q c.requires.members_known

pub returns-in_ok-made-in-Args : goal.returns-in_ok-made-in-Args
returns-in_ok-made-in-Args g c =
    let m = g.I.Interner.meaning c.args.cx.now in
    let xs = c.args.members.now in
    let l = c.in_ok-list-in-Args.list.items in
    let q : list_tree (arg_tree m) c.deref.result.now ≡ list_tree (part_tree m) xs =
    ap (list_tree (arg_tree m)) c.deref.ensures.value
    ∙ mapped (arg_tree m) (part_tree m) part_of_arg (arg_part m) l xs c.in_ok-list-in-Args.ensures in
    let r = c.in_ok-made-in-Args.ensures in
    record {
      grown = r.grown;
      sure = r.sure;
      made = r.made ∙ q;
      alike = subst (λ p. Alike p (Args c.in_ok-made-in-Args.made)) (sym c.in-Args.is) tt;
      refused = tt;
    }

pub tys_of-requires : goal.tys_of-requires
tys_of-requires g c =
    let m = g.I.Interner.meaning c.args.cx.now in
    let xs = c.args.members.now in
    let f = subst (λ p. Fit xs (parts_tree m p)) c.in-Tys.is c.requires.fits in
    let a = c.in-Tys.field-0 in
    let k : IsTrue (known (m.tys a)) = subst (λ p. IsTrue (known (parts_tree m p))) c.in-Tys.is c.requires.like_known in
    fit_tys xs (m.tys a) f ((g.met.I.Interner.sorted c.args.cx.now).tys a k)

pub mk_type_list-requires : goal.mk_type_list-requires
mk_type_list-requires g c =
    let m = g.I.Interner.meaning c.args.cx.now in
    let xs = c.args.members.now in
    let l = c.in_ok-list-in-Tys.list.items in
    let q : list_tree m.ty c.deref-in-Tys.result.now ≡ list_tree (part_tree m) xs =
    ap (list_tree m.ty) c.deref-in-Tys.ensures.value
    ∙ mapped m.ty (part_tree m) (λ t. Ty t) (λ t. refl) l xs c.in_ok-list-in-Tys.ensures in
    knows_as (list_tree (part_tree m) xs) (list_tree m.ty c.deref-in-Tys.result.now) q c.requires.members_known

pub returns-in_ok-made-in-Tys : goal.returns-in_ok-made-in-Tys
returns-in_ok-made-in-Tys g c =
    let m = g.I.Interner.meaning c.args.cx.now in
    let xs = c.args.members.now in
    let l = c.in_ok-list-in-Tys.list.items in
    let q : list_tree m.ty c.deref-in-Tys.result.now ≡ list_tree (part_tree m) xs =
    ap (list_tree m.ty) c.deref-in-Tys.ensures.value
    ∙ mapped m.ty (part_tree m) (λ t. Ty t) (λ t. refl) l xs c.in_ok-list-in-Tys.ensures in
    let r = c.in_ok-made-in-Tys.ensures in
    record {
      grown = r.grown;
      sure = r.sure;
      made = r.made ∙ q;
      alike = subst (λ p. Alike p (Tys c.in_ok-made-in-Tys.made)) (sym c.in-Tys.is) tt;
      refused = tt;
    }

pub consts_of-requires : goal.consts_of-requires
consts_of-requires g c =
    let m = g.I.Interner.meaning c.args.cx.now in
    let xs = c.args.members.now in
    let f = subst (λ p. Fit xs (parts_tree m p)) c.in-Branches.is c.requires.fits in
    let a = c.in-Branches.field-0 in
    let k : IsTrue (known (m.branches a)) = subst (λ p. IsTrue (known (parts_tree m p))) c.in-Branches.is c.requires.like_known in
    fit_consts xs (m.branches a) f ((g.met.I.Interner.sorted c.args.cx.now).branches a k)

pub mk_branches-requires : goal.mk_branches-requires
mk_branches-requires g c =
    let m = g.I.Interner.meaning c.args.cx.now in
    let xs = c.args.members.now in
    let l = c.in_ok-list-in-Branches.list.items in
    let q : list_tree m.const_ c.deref-in-Branches.result.now ≡ list_tree (part_tree m) xs =
    ap (list_tree m.const_) c.deref-in-Branches.ensures.value
    ∙ mapped m.const_ (part_tree m) (λ t. Const t) (λ t. refl) l xs c.in_ok-list-in-Branches.ensures in
    knows_as (list_tree (part_tree m) xs) (list_tree m.const_ c.deref-in-Branches.result.now) q c.requires.members_known

pub returns-in_ok-made-in-Branches : goal.returns-in_ok-made-in-Branches
returns-in_ok-made-in-Branches g c =
    let m = g.I.Interner.meaning c.args.cx.now in
    let xs = c.args.members.now in
    let l = c.in_ok-list-in-Branches.list.items in
    let q : list_tree m.const_ c.deref-in-Branches.result.now ≡ list_tree (part_tree m) xs =
    ap (list_tree m.const_) c.deref-in-Branches.ensures.value
    ∙ mapped m.const_ (part_tree m) (λ t. Const t) (λ t. refl) l xs c.in_ok-list-in-Branches.ensures in
    let r = c.in_ok-made-in-Branches.ensures in
    record {
      grown = r.grown;
      sure = r.sure;
      made = r.made ∙ q;
      alike = subst (λ p. Alike p (Branches c.in_ok-made-in-Branches.made)) (sym c.in-Branches.is) tt;
      refused = tt;
    }

pub pats_of-requires : goal.pats_of-requires
pats_of-requires g c =
    let m = g.I.Interner.meaning c.args.cx.now in
    let xs = c.args.members.now in
    let f = subst (λ p. Fit xs (parts_tree m p)) c.in-Alternatives.is c.requires.fits in
    let a = c.in-Alternatives.field-0 in
    let k : IsTrue (known (m.alternatives a)) = subst (λ p. IsTrue (known (parts_tree m p))) c.in-Alternatives.is c.requires.like_known in
    fit_pats xs (m.alternatives a) f ((g.met.I.Interner.sorted c.args.cx.now).alternatives a k)

pub mk_alternatives-requires : goal.mk_alternatives-requires
mk_alternatives-requires g c =
    let m = g.I.Interner.meaning c.args.cx.now in
    let xs = c.args.members.now in
    let l = c.in_ok-list-in-Alternatives.list.items in
    let q : list_tree m.pat c.deref-in-Alternatives.result.now ≡ list_tree (part_tree m) xs =
    ap (list_tree m.pat) c.deref-in-Alternatives.ensures.value
    ∙ mapped m.pat (part_tree m) (λ t. Pat t) (λ t. refl) l xs c.in_ok-list-in-Alternatives.ensures in
    knows_as (list_tree (part_tree m) xs) (list_tree m.pat c.deref-in-Alternatives.result.now) q c.requires.members_known

pub returns-in_ok-made-in-Alternatives : goal.returns-in_ok-made-in-Alternatives
returns-in_ok-made-in-Alternatives g c =
    let m = g.I.Interner.meaning c.args.cx.now in
    let xs = c.args.members.now in
    let l = c.in_ok-list-in-Alternatives.list.items in
    let q : list_tree m.pat c.deref-in-Alternatives.result.now ≡ list_tree (part_tree m) xs =
    ap (list_tree m.pat) c.deref-in-Alternatives.ensures.value
    ∙ mapped m.pat (part_tree m) (λ t. Pat t) (λ t. refl) l xs c.in_ok-list-in-Alternatives.ensures in
    let r = c.in_ok-made-in-Alternatives.ensures in
    record {
      grown = r.grown;
      sure = r.sure;
      made = r.made ∙ q;
      alike = subst (λ p. Alike p (Alternatives c.in_ok-made-in-Alternatives.made)) (sym c.in-Alternatives.is) tt;
      refused = tt;
    }

pub bounds-members-1 : goal.bounds-members-1
bounds-members-1 g c =
    let m = g.I.Interner.meaning c.args.cx.now in
    let xs = c.args.members.now in
    fit_two_some m xs (part_tree m c.in-Two.field-0) (part_tree m c.in-Two.field-1)
    (subst (λ p. Fit xs (parts_tree m p)) c.in-Two.is c.requires.fits)

pub make_term_args-requires-clause-fits : goal.make_term_args-requires-clause-fits
make_term_args-requires-clause-fits g c =
    let m = g.I.Interner.meaning c.args.cx.now in
    let xs = c.args.members.now in
    let s : Sorted m = g.met.I.Interner.sorted c.args.cx.now in
    let t = c.in-TermArgs.field-0 in
    let a = c.in-TermArgs.field-1 in
    let f = subst (λ p. Fit xs (parts_tree m p)) c.in-TermArgs.is c.requires.fits in
    let k : IsTrue (known (cons (term_tree m t) (m.args a))) =
    subst (λ p. IsTrue (known (parts_tree m p))) c.in-TermArgs.is c.requires.like_known in
    let p = and_parts (known (term_tree m t)) (known (m.args a)) k in
    fit_term_args xs (cons (term_tree m t) (m.args a)) f (term_sorted m s t p.0, s.args a p.1)

pub returns-in-TermArgs-clause-alike : goal.returns-in-TermArgs-clause-alike
returns-in-TermArgs-clause-alike g c =
    if_ok c.make_term_args.result (λ ps i. subst (λ p. Alike p ps) (sym c.in-TermArgs.is) i) c.make_term_args.ensures.is

pub make_inputs-requires-clause-fits : goal.make_inputs-requires-clause-fits
make_inputs-requires-clause-fits g c =
    let m = g.I.Interner.meaning c.args.cx.now in
    let xs = c.args.members.now in
    let ts = m.tys c.in-Inputs.tys in
    let f = subst (λ p. Fit xs (parts_tree m p)) c.in-Inputs.is c.requires.fits in
    let k : IsTrue (known (front ts)) =
    subst (λ p. IsTrue (known (parts_tree m p))) c.in-Inputs.is c.requires.like_known in
    fit_tys xs (front ts) f
    (front_terms type_sort ts k ((g.met.I.Interner.sorted c.args.cx.now).tys c.in-Inputs.tys (front_known ts k)))

pub predicates_of-requires : goal.predicates_of-requires
predicates_of-requires g c =
    let m = g.I.Interner.meaning c.args.cx.now in
    let xs = c.args.members.now in
    let f = subst (λ p. Fit xs (parts_tree m p)) c.in-Predicates.is c.requires.fits in
    let a = c.in-Predicates.field-0 in
    let k : IsTrue (known (m.existential_predicates a)) =
    subst (λ p. IsTrue (known (parts_tree m p))) c.in-Predicates.is c.requires.like_known in
    fit_predicates xs (m.existential_predicates a) f ((g.met.I.Interner.sorted c.args.cx.now).existential_predicates a k)

pub mk_existential_predicates-requires : goal.mk_existential_predicates-requires
mk_existential_predicates-requires g c =
    let m = g.I.Interner.meaning c.args.cx.now in
    let xs = c.args.members.now in
    let l = c.in_ok-list-in-Predicates.list.items in
    let q : list_tree (object_predicate_tree m) c.deref-in-Predicates.result.now ≡ list_tree (part_tree m) xs =
    ap (list_tree (object_predicate_tree m)) c.deref-in-Predicates.ensures.value
    ∙ mapped (object_predicate_tree m) (part_tree m) (λ b. part_of_predicate b) (λ b. refl) l xs
    c.in_ok-list-in-Predicates.ensures in
    knows_as (list_tree (part_tree m) xs) (list_tree (object_predicate_tree m) c.deref-in-Predicates.result.now) q
    c.requires.members_known

pub returns-in_ok-made-in-Predicates-clause-made : goal.returns-in_ok-made-in-Predicates-clause-made
returns-in_ok-made-in-Predicates-clause-made g c =
    let m = g.I.Interner.meaning c.args.cx.now in
    let xs = c.args.members.now in
    let l = c.in_ok-list-in-Predicates.list.items in
    let q : list_tree (object_predicate_tree m) c.deref-in-Predicates.result.now ≡ list_tree (part_tree m) xs =
    ap (list_tree (object_predicate_tree m)) c.deref-in-Predicates.ensures.value
    ∙ mapped (object_predicate_tree m) (part_tree m) (λ b. part_of_predicate b) (λ b. refl) l xs
    c.in_ok-list-in-Predicates.ensures in
    c.in_ok-made-in-Predicates.ensures.made ∙ q
