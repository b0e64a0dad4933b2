use Rattle.std.proofs.Common.{take, get_or, ap, sym, ◌∙◌, ◌∷◌, [], Some}
use Rattle.std.proofs.lemmas.List.{take_more, take_all, map-append}
use Rattle.relation_terms.specs.Trees.{list_tree}
use Rattle.relation_terms.specs.Meaning.{bound_kind_of, bound_kinds}
use Rattle.text_terms.specs.Terms.{at, variable_of, variables_of}
use Rattle.text_terms.proofs.BuildingLemmas.{variables_more}
use Rattle.text_terms.proofs.building.binders.variables_at.Goals as goal

pub loop-number-preserved : goal.loop-number-preserved
loop-number-preserved g c ts b =
    let m = g.I.Interner.meaning c.args.cx.now in
    let i = c.loop-number.number-index in
    let places = c.in_ok-places.places.now in
    let before = c.loop-number.variables.items in
    let variable = c.in_ok-variable.variable in
    ap (λ ns. variables_of (list_tree (at ts) ns)) (take_more places i 0 c.loop-number-test.true)
    ∙ (variables_more (at ts) (take i places) (get_or places i 0) (bound_kinds m before) (bound_kind_of m variable) (c.loop-number.invariant ts b)
    (ap variable_of (sym (b (get_or places i 0) c.in_ok-key.key c.in_ok-key.ensures)) ∙ c.in_ok-variable.ensures)
    ∙ sym (ap (λ vs. Some (bound_kinds m vs)) c.in-Ok.ensures.items
    ∙ ap (λ ks. Some ks) (map-append (bound_kind_of m) before (variable ∷ []))))

pub returns : goal.returns
returns g c ts b =
    ap (λ ns. variables_of (list_tree (at ts) ns))
    (sym c.in_ok-places.ensures ∙ sym (take_all c.loop-number.number-index c.in_ok-places.places.now c.loop-number-test.false))
    ∙ c.loop-number.invariant ts b
