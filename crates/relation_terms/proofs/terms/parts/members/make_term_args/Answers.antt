use Rattle.std.proofs.Common.{◌∙◌, ◌≡◌, IsTrue, sym, ap, ap₂}
use Rattle.std.proofs.lemmas.Bool.{and_parts}
use Rattle.std.specs.Cmp.Derive.{both_true}
use Rattle.relation_terms.specs.Trees.{known, cons, list_tree}
use Rattle.relation_terms.specs.Meaning.{arg_tree, term_tree}
use Rattle.relation_terms.specs.Parts.{part_tree, part_of_arg}
use Rattle.relation_terms.proofs.Stays.{knows_as, stays_term}
use Rattle.relation_terms.proofs.Members.{rest_args, rest_of, first_and_rest, mapped}
use Rattle.relation_terms.proofs.Parts.{arg_part, term_of_part}
use Rattle.relation_terms.proofs.terms.parts.members.make_term_args.Goals as goal

pub args_of-requires : goal.args_of-requires
args_of-requires g c = rest_args c.args.members.now c.requires.fits

pub mk_args-requires : goal.mk_args-requires
mk_args-requires g c =
    let m = g.I.Interner.meaning c.args.cx.now in
    let xs = c.args.members.now in
    let x = c.index-members-0.result in
    let whole = first_and_rest (part_tree m) xs x x c.requires.fits c.index-members-0.is in
    let k : IsTrue (known (cons (part_tree m x) (list_tree (part_tree m) (rest_of xs)))) =
    knows_as (list_tree (part_tree m) xs) (cons (part_tree m x) (list_tree (part_tree m) (rest_of xs))) whole
    c.requires.members_known in
    let q : list_tree (arg_tree m) c.deref.result.now ≡ list_tree (part_tree m) (rest_of xs) =
    ap (list_tree (arg_tree m)) c.deref.ensures.value
    ∙ mapped (arg_tree m) (part_tree m) (λ a. part_of_arg a) (λ a. arg_part m a) c.in_ok-list.list.items (rest_of xs)
    c.in_ok-list.ensures in
    knows_as (list_tree (part_tree m) (rest_of xs)) (list_tree (arg_tree m) c.deref.result.now) q
    (and_parts (known (part_tree m x)) (known (list_tree (part_tree m) (rest_of xs))) k).1

pub returns : goal.returns
returns g c =
    let m = g.I.Interner.meaning c.args.cx.now in
    let n = g.I.Interner.meaning c.mk_args.new.self in
    let xs = c.args.members.now in
    let x = c.index-members-0.result in
    let t = c.expect_term-term.result in
    let whole = first_and_rest (part_tree m) xs x x c.requires.fits c.index-members-0.is in
    let k : IsTrue (known (cons (part_tree m x) (list_tree (part_tree m) (rest_of xs)))) =
    knows_as (list_tree (part_tree m) xs) (cons (part_tree m x) (list_tree (part_tree m) (rest_of xs))) whole
    c.requires.members_known in
    let q : list_tree (arg_tree m) c.deref.result.now ≡ list_tree (part_tree m) (rest_of xs) =
    ap (list_tree (arg_tree m)) c.deref.ensures.value
    ∙ mapped (arg_tree m) (part_tree m) (λ a. part_of_arg a) (λ a. arg_part m a) c.in_ok-list.list.items (rest_of xs)
    c.in_ok-list.ensures in
    let one : term_tree m t ≡ part_tree m x = sym (term_of_part m t) ∙ ap (part_tree m) c.expect_term-term.ensures in
    let sure = knows_as (part_tree m x) (term_tree m t) one
    (and_parts (known (part_tree m x)) (known (list_tree (part_tree m) (rest_of xs))) k).0 in
    let r = c.in_ok-made.ensures in
    let stays = stays_term r.grown t sure in
    record {
      grown = r.grown;
      sure = both_true (knows_as (term_tree m t) (term_tree n t) stays sure) r.sure;
      made = ap₂ (λ y z. cons y z) (stays ∙ one) (r.made ∙ q) ∙ whole;
      is = tt;
      refused = tt;
    }
