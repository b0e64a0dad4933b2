use Rattle.std.proofs.Common.{subst}
use Rattle.std.specs.Prelude.{◌&&◌, nat_eq, IfOk}
use Rattle.node_table.specs.Finding.{HasAt}
use Rattle.relation_terms.specs.Meaning.{bound_kinds}
use Rattle.may_relate.specs.Seen.{StandsAt}
use Rattle.may_relate.proofs.Remembered.{kept_grown, known_grown, numbered_grown, stands_found}
use Rattle.may_relate.proofs.seen.go_under.Goals as goal

pub returns-in-Ok-clause-seen : goal.returns-in-Ok-clause-seen
returns-in-Ok-clause-seen g c = λ st all.
    let m = g.I.Interner.meaning c.args.cx.now in
    let a = c.args.around.now in
    let ns = c.args.seen.now.binders in
    let us = c.intern.new.self in
    let vars = c.args.vars.now in
    let grown = c.intern.ensures.added in
    let known = known_grown m st ns us (c.number_around.result, vars) grown all.binders c.requires in
    let numbered = numbered_grown m st ns us (c.number_around.result, vars) grown a all.numbered in
    let has = subst (λ r. IfOk r (HasAt (λ x y. nat_eq x.0 y.0 && g.I.Key.PartialEq.eq x.1.0 y.1.0) us
    (c.number_around.result, vars))) c.in-Ok.is c.intern.ensures.number in
    let stands = subst (λ n. StandsAt m us c.in-Ok.place n (bound_kinds m c.bound_vars-list.result.now))
    c.number_around.ensures (stands_found m st (λ k l. g.I.Key.PartialEq.eq k.0 l.0)
    (g.met.I.Interner.same_bound_vars c.args.cx.now) us c.number_around.result vars c.in-Ok.place known has
    (bound_kinds m c.bound_vars-list.result.now) c.bound_vars-list.ensures c.requires) in (
      record {
        closed = all.closed;
        under = λ u k. kept_grown m st ns us (c.number_around.result, vars) grown u (all.under u k);
        binders = known;
        numbered = numbered;
      },
      record {
        closed = all.closed;
        under = λ u k. kept_grown m st ns us (c.number_around.result, vars) grown u (all.under u k);
        binders = known;
        numbered = (stands, numbered);
      },
    )

pub returns-in-Err-clause-seen : goal.returns-in-Err-clause-seen
returns-in-Err-clause-seen g c = λ st all.
    let m = g.I.Interner.meaning c.args.cx.now in
    let ns = c.args.seen.now.binders in
    let us = c.intern.new.self in
    let vars = c.args.vars.now in
    let grown = c.intern.ensures.added in (
      record {
        closed = all.closed;
        under = λ u k. kept_grown m st ns us (c.number_around.result, vars) grown u (all.under u k);
        binders = known_grown m st ns us (c.number_around.result, vars) grown all.binders c.requires;
        numbered = numbered_grown m st ns us (c.number_around.result, vars) grown c.args.around.now all.numbered;
      },
      tt,
    )
