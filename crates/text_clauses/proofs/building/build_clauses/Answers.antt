use Rattle.std.proofs.Common.{◌∷◌, [], ◌++◌, if◌then◌else◌, map, get_or, ap, ◌∙◌}
use Rattle.std.proofs.lemmas.List.{take_all}
use Rattle.relation_terms.specs.Meaning.{arg_tree}
use Rattle.relation_terms.proofs.Stays.{stays_arg, extends_on}
use Rattle.text_terms.proofs.BuildingLemmas.{known_stays, built_stays}
use Rattle.text_clauses.specs.Clauses.{clause_tree}
use Rattle.text_clauses.proofs.ClauseLemmas.{clauses_with, clauses_stay, clause_stays, each_with}
use Rattle.text_clauses.proofs.building.build_clauses.Goals as goal

pub build_clause-requires : goal.build_clause-requires
build_clause-requires g c =
    let m = g.I.Interner.meaning c.args.cx.now in
    let p = g.I.Interner.meaning c.loop-clause.cx in
    known_stays (arg_tree m) (arg_tree p) (stays_arg c.loop-clause.invariant.grown) c.args.built.now c.requires

pub loop-clause-preserved : goal.loop-clause-preserved
loop-clause-preserved g c =
    let m = g.I.Interner.meaning c.args.cx.now in
    let p = g.I.Interner.meaning c.loop-clause.cx in
    let n = g.I.Interner.meaning c.build_clause.new.cx in
    let inv = c.loop-clause.invariant in
    let grown = c.build_clause.ensures.grown in
    let before = c.loop-clause.made.items in
    let next = c.in_ok-next.next in
    let ids = c.args.ids.now in
    let names = c.args.names.now in
    let numbers = c.args.numbers.now in
    let built = c.args.built.now in
    let said = c.in_ok-said.said.now in
    let stay = built_stays (arg_tree m) (arg_tree p) (stays_arg inv.grown) built in
    let pushed = c.push.ensures.items
    ∙ ap (λ b. if b then (before ++ next ∷ []) else before) c.if-is_err.ensures.negation in
    record {
      grown = extends_on inv.grown grown;
      sure = clauses_with grown before c.push.new.self.items next inv.sure c.in_ok-next.ensures.sure pushed;
      made = λ ts b. each_with (clause_tree (map m.id ids) (map m.name names) numbers ts) n.clause said
          c.loop-clause.clause-index _ before c.push.new.self.items next c.loop-clause-test.true
          (clauses_stay grown before inv.sure ∙ inv.made ts b)
          (c.in_ok-next.ensures.made.1 ts (stay ts c.requires b)
          ∙ clause_stays inv.grown ids names numbers ts (get_or said c.loop-clause.clause-index _))
          pushed;
    }

pub returns-in_err-next-clause-grown : goal.returns-in_err-next-clause-grown
returns-in_err-next-clause-grown g c = extends_on c.loop-clause.invariant.grown c.build_clause.ensures.grown

pub returns-then-is_err-clause-grown : goal.returns-then-is_err-clause-grown
returns-then-is_err-clause-grown g c = extends_on c.loop-clause.invariant.grown c.build_clause.ensures.grown

pub returns-clause-made : goal.returns-clause-made
returns-clause-made g c ts b =
    let m = g.I.Interner.meaning c.args.cx.now in
    let tree = clause_tree (map m.id c.args.ids.now) (map m.name c.args.names.now) c.args.numbers.now ts in
    c.loop-clause.invariant.made ts b
    ∙ ap (map tree)
    (take_all c.loop-clause.clause-index c.in_ok-said.said.now c.loop-clause-test.false ∙ c.in_ok-said.ensures)
