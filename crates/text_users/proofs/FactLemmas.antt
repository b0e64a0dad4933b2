-- Facts, one after another.
use Rattle.std.proofs.Common.{◌≡◌, ℕ, ◌<◌, ◌+◌, List, [], ◌∷◌, ◌++◌, length, get_or, take, sym, ◌∙◌, ap, refl, subst, All}
use Rattle.std.proofs.lemmas.List.{take_more}
use Rattle.std.proofs.lemmas.List.Elements.{All-push}
use Rattle.relation_terms.specs.declared.predicate.regions.OutlivesPredicate.{OutlivesPredicate}
use Rattle.relation_terms.specs.declared.terms.keys.RegionKey.{RegionKey}
use Rattle.relation_terms.specs.declared.terms.generic_arg.GenericArgKind.{GenericArgKind}
use Rattle.relation_terms.specs.declared.terms.generic_arg.GenericArgKind.TheVariants.{Lifetime, Ty, Const}
use Rattle.text_users.specs.Facts.{fact_by, fact_of, facts_of}

module _ {Key : Type 0} where
  nothing_behind : (u : GenericArgKind Key) (s : RegionKey Key) → fact_by u s ++ [] ≡ fact_by u s
  nothing_behind (Lifetime r) s = refl
  nothing_behind (Ty t) s = refl
  nothing_behind (Const t) s = refl

  before_both : (u : GenericArgKind Key) (s : RegionKey Key) (ys zs ws : List (OutlivesPredicate Key (RegionKey Key))) →
      ws ≡ ys ++ zs → fact_by u s ++ ws ≡ (fact_by u s ++ ys) ++ zs
  before_both (Lifetime r) s ys zs ws e = ap (λ l. record { 0 = r; 1 = s } ∷ l) e
  before_both (Ty t) s ys zs ws e = e
  before_both (Const t) s ys zs ws e = e

  facts_push : (xs : List (OutlivesPredicate Key (GenericArgKind Key))) (a : OutlivesPredicate Key (GenericArgKind Key)) →
      facts_of (xs ++ a ∷ []) ≡ facts_of xs ++ fact_of a
  facts_push [] a = nothing_behind a.0 a.1
  facts_push (x ∷ xs) a = before_both x.0 x.1 (facts_of xs) (fact_of a) (facts_of (xs ++ a ∷ [])) (facts_push xs a)

  -- One more fact.
  pub facts_more : (stated : List (OutlivesPredicate Key (GenericArgKind Key))) (i : ℕ)
      (one : OutlivesPredicate Key (GenericArgKind Key)) (facts facts' : List (OutlivesPredicate Key (RegionKey Key)))
      (fact : OutlivesPredicate Key (RegionKey Key)) → i < length stated → one ≡ get_or stated i one →
      facts ≡ facts_of (take i stated) → fact_of one ≡ fact ∷ [] → facts' ≡ facts ++ fact ∷ [] →
      facts' ≡ facts_of (take (i + 1) stated)
  facts_more stated i one facts facts' fact lt at h is e =
      let front = take i stated in
      e ∙ (ap (λ l. l ++ fact ∷ []) h ∙ (ap (λ u. facts_of front ++ u) (sym is) ∙ (sym (facts_push front one) ∙
      (ap (λ u. facts_of (front ++ u ∷ [])) at ∙ sym (ap facts_of (take_more stated i one lt))))))

  pub all_more : (P : OutlivesPredicate Key (RegionKey Key) → Type 0)
      (facts facts' : List (OutlivesPredicate Key (RegionKey Key))) (fact : OutlivesPredicate Key (RegionKey Key)) →
      All P facts → P fact → facts' ≡ facts ++ fact ∷ [] → All P facts'
  all_more P facts facts' fact all p e = subst (All P) (sym e) (All-push P facts fact all p)
