use Rattle.std.proofs.Common.{◌∙◌, sym, ap, subst, length, refl, arith}
use Rattle.relation_terms.specs.Meaning.{arg_tree}
use Rattle.term_enums.specs.declared.memory.OutOfMemory.{OutOfMemory}
use Rattle.relation_terms.specs.contracts.terms.generic_arg.GenericArgKindPartialEq.TheImpl.{ghosts}
use Rattle.walk.specs.Walking.{Pull}
use Rattle.std.proofs.Common.{Some, None, Ok, map}
use Rattle.text_asking.specs.Meets.{AllKnown}
use Rattle.text_asking.specs.Skips.{stands_in, skipped_in}
use Rattle.text_asking.proofs.WalkLemmas.{goes_first, goes_next_as, goes_end, ended_still, goes_small, one_more, skipped_cx, known_one_more}
use Rattle.text_asking.proofs.walking.walk_on.Goals as goal
use Rattle.text_asking.proofs.walking.walk_on.Goals.{in-Some-pull+in_ok-arg-2+in_ok-push-2, in_default-pull}

pub loop-arg-init : goal.loop-arg-init
loop-arg-init g c =
    let m = g.I.Interner.meaning c.args.walker.now.cx in
    let eq = (ghosts g.row.I-Key g.I.Key.PartialEq g.I.Key.PartialEq-dict).eq in
    let t = arg_tree m c.args.root.now in
    let b = stands_in c.args.skips.now 0 in
    let w = c.args.walker.now in
    record {
      same = ap (λ k. k.cx) c.skip_after.ensures ∙ skipped_cx b w;
      known = subst (AllKnown m) (sym c.new-found.ensures.items) refl;
      goes = rw (c.skip_after.ensures, c.new-found.ensures.items)
          (goes_first m eq t (skipped_in c.args.skips.now) w b c.requires);
    }

pub loop-arg-smaller : goal.loop-arg-smaller
loop-arg-smaller g c =
    let m = g.I.Interner.meaning c.args.walker.now.cx in
    let eq = (ghosts g.row.I-Key g.I.Key.PartialEq g.I.Key.PartialEq-dict).eq in
    let t = arg_tree m c.args.root.now in
    let ys = c.loop-arg.found.items in
    let x = c.in_ok-arg.field-0 in
    let p = rw c.in_ok-arg.was at c.in-Some.ensures in
    let q : Pull m eq {E = OutOfMemory} c.loop-arg.walker (Some (Ok x)) c.pull.new.self =
    subst (λ i. Pull (g.I.Interner.meaning i) eq {E = OutOfMemory} c.loop-arg.walker (Some (Ok x)) c.pull.new.self)
    c.loop-arg.invariant.same p in
    let small = goes_small m eq t (skipped_in c.args.skips.now) c.loop-arg.walker c.pull.new.self ys x
    c.loop-arg.invariant.goes q in
    let more = ap length c.in_ok-push.ensures.items ∙ one_more ys x in
    omega (arith, small, more)

pub loop-arg-preserved : goal.loop-arg-preserved
loop-arg-preserved g c =
    let m = g.I.Interner.meaning c.args.walker.now.cx in
    let eq = (ghosts g.row.I-Key g.I.Key.PartialEq g.I.Key.PartialEq-dict).eq in
    let t = arg_tree m c.args.root.now in
    let ys = c.loop-arg.found.items in
    let x = c.in_ok-arg.field-0 in
    let p = rw c.in_ok-arg.was at c.in-Some.ensures in
    let q : Pull m eq {E = OutOfMemory} c.loop-arg.walker (Some (Ok x)) c.pull.new.self =
    subst (λ i. Pull (g.I.Interner.meaning i) eq {E = OutOfMemory} c.loop-arg.walker (Some (Ok x)) c.pull.new.self)
    c.loop-arg.invariant.same p in
    let b = stands_in c.args.skips.now c.len.result in
    let more = ap length c.in_ok-push.ensures.items ∙ one_more ys x in
    let long = c.len.ensures ∙ c.push.new.self.ok.0 ∙ more in
    record {
      same = ap (λ k. k.cx) c.skip_after-in-Some.ensures ∙ skipped_cx b c.pull.new.self ∙ q.2 ∙ c.loop-arg.invariant.same;
      known = subst (AllKnown m) (sym c.in_ok-push.ensures.items) (known_one_more m ys x q.3 c.loop-arg.invariant.known);
      goes = goes_next_as m eq t (skipped_in c.args.skips.now) c.loop-arg.walker c.pull.new.self
          c.skip_after-in-Some.new.walker ys c.push.new.self.items x b c.in_ok-push.ensures.items
          c.skip_after-in-Some.ensures (ap (stands_in c.args.skips.now) (sym long)) c.loop-arg.invariant.goes q;
    }

pub returns-clause-by_places : goal.returns-clause-by_places
returns-clause-by_places g c =
    let m = g.I.Interner.meaning c.args.walker.now.cx in
    let n = g.I.Interner.meaning c.skip_behind.new.walker.cx in
    let eq = (ghosts g.row.I-Key g.I.Key.PartialEq g.I.Key.PartialEq-dict).eq in
    let t = arg_tree m c.args.root.now in
    let p : Pull m eq {E = OutOfMemory} c.loop-arg.walker None c.pull.new.self =
    subst (λ i. Pull (g.I.Interner.meaning i) eq {E = OutOfMemory} c.loop-arg.walker None c.pull.new.self)
    c.loop-arg.invariant.same c.in_default.ensures in
    elim c.match-pull-2.branch [
      | in-Some-pull+in_ok-arg-2+in_ok-push-2 w ↦
          absurd (ended_still m n eq c.loop-arg.walker c.pull.new.self c.skip_behind.new.walker c.pull-2.new.self
          w.in_ok-arg-2.field-0 p c.skip_behind.ensures.inside c.skip_behind.ensures.after
          (rw w.in_ok-arg-2.was at w.in-Some-pull.ensures))
      | in_default-pull w ↦
          ap (λ v. map (arg_tree m) v.items) w.found-is
          ∙ goes_end m eq t (skipped_in c.args.skips.now) c.loop-arg.walker c.pull.new.self c.loop-arg.found.items
          c.loop-arg.invariant.goes p
    ]

pub returns-clause-sure : goal.returns-clause-sure
returns-clause-sure g c =
    let m = g.I.Interner.meaning c.args.walker.now.cx in
    let n = g.I.Interner.meaning c.skip_behind.new.walker.cx in
    let eq = (ghosts g.row.I-Key g.I.Key.PartialEq g.I.Key.PartialEq-dict).eq in
    let p : Pull m eq {E = OutOfMemory} c.loop-arg.walker None c.pull.new.self =
    subst (λ i. Pull (g.I.Interner.meaning i) eq {E = OutOfMemory} c.loop-arg.walker None c.pull.new.self)
    c.loop-arg.invariant.same c.in_default.ensures in
    elim c.match-pull-2.branch [
      | in-Some-pull+in_ok-arg-2+in_ok-push-2 w ↦
          absurd (ended_still m n eq c.loop-arg.walker c.pull.new.self c.skip_behind.new.walker c.pull-2.new.self
          w.in_ok-arg-2.field-0 p c.skip_behind.ensures.inside c.skip_behind.ensures.after
          (rw w.in_ok-arg-2.was at w.in-Some-pull.ensures))
      | in_default-pull w ↦ subst (λ v. AllKnown m v.items) (sym w.found-is) c.loop-arg.invariant.known
    ]
