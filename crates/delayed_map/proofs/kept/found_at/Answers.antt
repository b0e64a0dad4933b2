use Rattle.std.proofs.Common.{◌≡◌, ◌∙◌, sym, subst, IsTrue}
use Rattle.delayed_map.specs.Kept.{IsKeptAt}
use Rattle.delayed_map.proofs.kept.found_at.Goals as goal

pub returns-then-eq : goal.returns-then-eq
returns-then-eq g c = λ n found.
    let eq = g.K.PartialEq.eq in
    let q = c.args.key.now in
    let at = c.in-Some-get.ensures.lookup in
    let is : c.in-Some.number.now ≡ n = cc in
    let same = sym c.eq.ensures ∙ c.if-eq.true in
    let kept : IsKeptAt eq q c.args.entries.now c.in-Some.number.now = record {
      below = at.3.0;
      same = λ d. subst (λ e. IsTrue (eq q e.0)) (at.3.1 d) same;
    } in
    subst (IsKeptAt eq q c.args.entries.now) is kept
