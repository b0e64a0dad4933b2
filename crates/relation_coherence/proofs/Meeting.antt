-- What the answered header is, where two opened headers were related and the left one resolved.
use Rattle.std.proofs.Common.{◌≡◌, sym, ap₂, ◌∙◌, subst, List}
use Rattle.relation_terms.specs.declared.terms.binder.Binder.{Binder}
use Rattle.relation_terms.specs.declared.terms.keys.ArgsKey.{ArgsKey}
use Rattle.relation_terms.specs.Heads.{arguments, argument_sort}
use Rattle.relation_terms.specs.Trees.{node, apply, Leaves, IsList, known, AreTerms}
use Rattle.relation_terms.specs.Interning.{Sorted}
use Rattle.relation_terms.specs.Meaning.{Extends}
use Rattle.relation_terms.proofs.Members.{terms_list}
use Rattle.relation_semantics.specs.Contexts.{Context}
use Rattle.relation_semantics.specs.Goals.{Goal}
use Rattle.relation_semantics.specs.Headline.{KeepsEqualTerms}
use Rattle.relation_semantics.specs.Outcomes.{Exact}
use Rattle.relation_semantics.specs.StepLaws.{InstantiatingAssigns}
use Rattle.relation_semantics.specs.StoreLaws.{ResolvedResolves}
use Rattle.relation_semantics.specs.Steps.{IsLater}
use Rattle.relation_semantics.specs.Stores.{IsSound, IsFree, IsTermIn, BindingsAreMet, resolved}
use Rattle.relation_semantics.proofs.Resolved.{settled_term}
use Rattle.relation_semantics.proofs.Standing.{later_term}
use Rattle.relation_laws.specs.SolutionLaws.{NewVariablesFit}
use Rattle.relation_coherence.specs.Headers.{header_tree, KnowsHeader, IsClosedHeader, OpensHeaders, MayRelate}
use Rattle.relation_coherence.specs.Overlaps.{Covers, IsCommon}
use Rattle.relation_coherence.proofs.Answering.{covers, common}
use Rattle.relation_coherence.proofs.BothOpened.{body_known, from_arguments}

-- The body of a known header is a list of arguments.
pub body_terms : {Key Id Name : Type 0} (c : Context Key Id Name) → Sorted c.meaning → (h : Binder Key (ArgsKey Key)) →
    KnowsHeader c h → AreTerms argument_sort ((c.meaning).args h.value)
body_terms c sorted h k = sorted.args h.value (body_known c.meaning h k)

pub body_list : {Key Id Name : Type 0} (c : Context Key Id Name) → Sorted c.meaning → (h : Binder Key (ArgsKey Key)) →
    KnowsHeader c h → IsList ((c.meaning).args h.value)
body_list c sorted h k = terms_list argument_sort ((c.meaning).args h.value) (body_terms c sorted h k)

-- What was opened first is a term of the context after relating.
pub left_after : {Key Id Name : Type 0} (d e : Context Key Id Name) (x : ArgsKey Key) → MayRelate d x →
    Extends d.meaning e.meaning → IsLater d.store e.store → IsTermIn e.store ((e.meaning).args x)
left_after d e x r g l = subst (IsTermIn e.store) (sym (g.args x r.is_known))
    (later_term d.store e.store l.grows l.universe_stands ((d.meaning).args x)
    (from_arguments d.store ((d.meaning).args x) r.has))

-- From a context before both headers are opened, through one after that and one after relating, to one after resolving.
module _ {Key Id Name : Type 0} (c d e f : Context Key Id Name) (left right : Binder Key (ArgsKey Key))
    (x y header : ArgsKey Key) (opens : OpensHeaders c d left right x y) (grown : Extends d.meaning e.meaning)
    (sound : IsSound e.store) (same : f.store ≡ e.store)
    (comes : (f.meaning).args header ≡ apply (resolved e.store) ((e.meaning).args x)) where
  sound_after : IsSound f.store
  sound_after = subst IsSound (sym same) sound

  -- It is what the left one comes to.
  header_is : (f.meaning).args header ≡ apply (resolved f.store) ((d.meaning).args x)
  header_is = comes ∙ ap₂ (λ st t. apply (resolved st) t) (sym same) (grown.args x (opens.left_relates).is_known)

  pub meets_resolved : Leaves (IsFree f.store) ((f.meaning).args header)
  meets_resolved = subst (Leaves (IsFree f.store)) (sym header_is)
      (settled_term f.store sound_after ((d.meaning).args x))

  module _ (instantiating : InstantiatingAssigns) (resolving : ResolvedResolves) (left_closed : IsClosedHeader c left)
      (right_closed : IsClosedHeader c right) where
    pub meets_covers : BindingsAreMet → IsSound c.store → (goals : List Goal) →
        KeepsEqualTerms d.store e.store goals (node arguments ((d.meaning).args x)) (node arguments ((d.meaning).args y)) →
        Covers (c.store).universe (header_tree c.meaning left) (header_tree c.meaning right) f.store ((f.meaning).args header)
    meets_covers met sound_before goals keeps = covers c d left right x y opens instantiating left_closed right_closed met
        sound_before f.store goals ((f.meaning).args header) sound_after resolving header_is
        (subst (λ st. KeepsEqualTerms d.store st goals (node arguments ((d.meaning).args x))
        (node arguments ((d.meaning).args y))) (sym same) keeps)

    pub meets_common : NewVariablesFit → Exact d.store e.store (node arguments ((d.meaning).args x)) (node arguments ((d.meaning).args y)) →
        IsCommon (c.store).universe (header_tree c.meaning left) (header_tree c.meaning right) f.store
        ((f.meaning).args header)
    meets_common fits exact = common c d left right x y opens instantiating left_closed right_closed fits f.store
        ((f.meaning).args header) sound_after resolving header_is
        (subst (λ st. Exact d.store st (node arguments ((d.meaning).args x)) (node arguments ((d.meaning).args y)))
        (sym same) exact)
