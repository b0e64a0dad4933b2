use Rattle.std.proofs.Common.{sym, ap, ◌∙◌, ◌≡◌, ◌++◌, subst, IsTrue}
use Rattle.relation_terms.specs.Trees.{known, list_tree}
use Rattle.relation_terms.specs.Parts.{part_tree, parts_tree, Fit}
use Rattle.relation_terms.proofs.Stays.{knows_as}
use Rattle.relation_terms.proofs.Parts.{stays_parts, alike_same}
use Rattle.relation_terms.proofs.Members.{if_ok}
use Rattle.relation_folds.proofs.Folding.{steps_grown}
use Rattle.relation_folds.proofs.Remembering.{place_eq, remembers_none}
use Rattle.relation_folds.proofs.fold.walk.fold_list.Goals as goal

pub fold_members-requires : goal.fold_members-requires
fold_members-requires g c =
    let m = g.I.Interner.meaning c.args.cx.now in
    record {
      known = c.requires.known;
      ready = c.requires.ready;
      remembers = remembers_none m (g.F.TypeFolder.replaces m c.args.folder.now) (place_eq g.I.Key.PartialEq.eq)
          c.nothing-memory.result.made c.nothing-memory.ensures.made;
    }

pub make_parts-requires : goal.make_parts-requires
make_parts-requires g c =
    let m = g.I.Interner.meaning c.args.cx.now in
    let n = g.I.Interner.meaning c.fold_members.new.cx in
    let ps = c.args.parts.now in
    let ts = parts_tree m ps in
    let r = c.in_ok-differs.ensures in
    let e : parts_tree n ps ≡ ts = stays_parts r.steps.grown ps c.requires.known in
    let a = r.members.made c.if-differs.true in
    let all : c.as_slice.result.now ≡ a.parts =
    c.as_slice.ensures.value ∙ a.is ∙ ap (λ zs. zs ++ a.parts) c.nothing-memory.ensures.stack in
    record {
      like_known = knows_as ts (parts_tree n ps) e c.requires.known;
      members_known = subst (λ ys. IsTrue (known (list_tree (part_tree n) ys))) (sym all) a.sure;
      fits = subst (λ ys. Fit ys (parts_tree n ps)) (sym all) (subst (λ us. Fit a.parts us) (sym e) a.fit);
    }

pub returns-then-differs : goal.returns-then-differs
returns-then-differs g c =
    let n = g.I.Interner.meaning c.fold_members.new.cx in
    let r = c.in_ok-differs.ensures in
    let o = c.make_parts.ensures in
    let a = r.members.made c.if-differs.true in
    let all : c.as_slice.result.now ≡ a.parts =
    c.as_slice.ensures.value ∙ a.is ∙ ap (λ zs. zs ++ a.parts) c.nothing-memory.ensures.stack in
    record {
      steps = steps_grown g.met.F.TypeFolder.ready_on g.met.F.TypeFolder.replaces_on r.steps o.grown;
      sure = o.sure;
      made = if_ok c.make_parts.result (λ y h. h ∙ (ap (list_tree (part_tree n)) all ∙ a.same)) o.made;
      alike = o.alike;
    }

pub returns : goal.returns
returns g c =
    let m = g.I.Interner.meaning c.args.cx.now in
    let n = g.I.Interner.meaning c.fold_members.new.cx in
    let ps = c.args.parts.now in
    let ts = parts_tree m ps in
    let r = c.in_ok-differs.ensures in
    let e : parts_tree n ps ≡ ts = stays_parts r.steps.grown ps c.requires.known in
    let a = r.members.left c.if-differs.false in
    record {
      steps = r.steps;
      sure = knows_as ts (parts_tree n ps) e c.requires.known;
      made = e ∙ a.1;
      alike = alike_same ps;
    }
