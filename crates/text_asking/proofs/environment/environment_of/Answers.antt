use Rattle.std.proofs.Common.{IsTrue, refl, sym, ap, ◌∙◌, subst}
use Rattle.relation_terms.specs.Heads.{environment}
use Rattle.relation_terms.specs.Trees.{Tree, node, known, list_tree}
use Rattle.relation_terms.proofs.Members.{mapped}
use Rattle.text_proving.proofs.Making.{list_known}
use Rattle.text_asking.proofs.environment.environment_of.Goals as goal

pub mk_clauses-requires : goal.mk_clauses-requires
mk_clauses-requires g c =
    let clause = (g.I.Interner.meaning c.clauses_of.new.cx).clause in
    subst (λ ks. IsTrue (known (list_tree clause ks))) (sym c.deref.ensures.value)
    (list_known clause c.in-Some.clauses.items c.in-Some.ensures.sure)

-- the clauses of the list are those of the predicates' trees
pub returns-clause-made : goal.returns-clause-made
returns-clause-made g c ts b =
    let clause = (g.I.Interner.meaning c.clauses_of.new.cx).clause in
    c.in_ok-param_env.ensures.made
    ∙ ap (node environment) (c.in_ok-list.ensures.made ∙ (ap (list_tree clause) c.deref.ensures.value
    ∙ mapped clause (λ (t : Tree). t) clause (λ k. refl) c.in-Some.clauses.items _ (c.in-Some.ensures.made ts b)))
