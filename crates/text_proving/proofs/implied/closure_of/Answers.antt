use Rattle.std.proofs.Common.{◌≡◌, ◌∙◌, ◌++◌, sym, ap, subst, map}
use Rattle.std.specs.Prelude.{IfOk}
use Rattle.std.specs.List.{All}
use Rattle.relation_terms.specs.Meaning.{Extends}
use Rattle.relation_statements.specs.Statements.{statements}
use Rattle.text_proving.specs.Implied.{IsClosure}
use Rattle.text_proving.specs.Made.{KnowsClause}
use Rattle.text_proving.proofs.implied.closure_of.Goals as goal

pub pull_given-all-requires : goal.pull_given-all-requires
pull_given-all-requires g c =
    let meaning = g.I.Interner.meaning in
    let listed : c.extend_from_slice.new.self.items ≡ c.args.clauses.now =
    c.in_ok-extend_from_slice.ensures.items ∙ ap (λ z. z ++ c.args.clauses.now) c.new-given.ensures.items in
    record {
      known = subst (λ ks. All (KnowsClause (meaning (c.new-elaborator.result).cx)) ks) (sym listed)
          (subst (λ z. All (KnowsClause (meaning z)) c.args.clauses.now) (sym c.new-elaborator.ensures.same) c.requires);
      stack = c.new-elaborator.ensures.stack;
      visited = c.new-elaborator.ensures.visited;
      mode = c.new-elaborator.ensures.mode;
    }

-- The reference that is given back is the one that was lent, so the interner is what is behind it.
pub returns : goal.returns
returns g c =
    let meaning = g.I.Interner.meaning in
    let m = meaning c.args.cx.now in
    let u = c.pull_given-all.new.elaborator in
    let r = c.pull_given-all.result in
    let pulled = c.pull_given-all.ensures in
    let same = c.new-elaborator.ensures.same in
    let listed : c.extend_from_slice.new.self.items ≡ c.args.clauses.now =
    c.in_ok-extend_from_slice.ensures.items ∙ ap (λ z. z ++ c.args.clauses.now) c.new-given.ensures.items in
    let back = c.cx-1.given.1 (sym (c.into_cx.ensures.same_reference ∙ pulled.same_reference
    ∙ c.new-elaborator.ensures.same_reference)) ∙ c.into_cx.ensures.value in
    let first = subst (λ z. IfOk r (λ all. IsClosure (statements (meaning z))
    (map (meaning z).clause c.extend_from_slice.new.self.items) (map (meaning u.cx).clause all.items))) same
    pulled.closure in
    let second = subst (λ ks. IfOk r (λ all. IsClosure (statements m) (map m.clause ks)
    (map (meaning u.cx).clause all.items))) listed first in
    record {
      grown = subst (λ z. Extends m (meaning z)) (sym back)
          (subst (λ z. Extends (meaning z) (meaning u.cx)) same pulled.grown);
      sure = subst (λ z. IfOk r (λ all. All (KnowsClause (meaning z)) all.items)) (sym back) pulled.sure;
      closure = subst (λ z. IfOk r (λ all. IsClosure (statements m) (map m.clause c.args.clauses.now)
          (map (meaning z).clause all.items))) (sym back) second;
    }
