-- Terms under binders that bind nothing, unified just where the terms are.
use Rattle.std.proofs.Common.{ap, []}
use Rattle.relation_terms.specs.Trees.{Tree, bind, Assign, apply}
use Rattle.relation_terms.specs.Erasure.{erase}
use Rattle.relation_terms.proofs.Paths.{bind_path}
use Rattle.relation_semantics.specs.FirstOrder.{Unifies}
use Rattle.relation_semantics.specs.Stores.{Store}
use Rattle.relation_semantics.specs.Outcomes.{Exact, NoUnifier}

pub bodies_unify : (s : Assign) (a b : Tree) → Unifies s (bind [] a) (bind [] b) → Unifies s a b
bodies_unify s a b e = bind_path {ks = []} {ls = []} {t = erase (apply s a)} {u = erase (apply s b)} e

pub unify_under : (s : Assign) (a b : Tree) → Unifies s a b → Unifies s (bind [] a) (bind [] b)
unify_under s a b e = ap (bind []) e

pub exact_under : (before after : Store) (a b : Tree) → Exact before after a b →
    Exact before after (bind [] a) (bind [] b)
exact_under before after a b e = record {
  later = e.later;
  shrinks = λ s h. let p = e.shrinks s h in (p.0, unify_under s a b p.1);
  keeps = λ s h u. e.keeps s h (bodies_unify s a b u);
}

pub apart_under : (before : Store) (a b : Tree) → NoUnifier before a b → NoUnifier before (bind [] a) (bind [] b)
apart_under before a b n s h u = n s h (bodies_unify s a b u)
