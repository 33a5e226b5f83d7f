-- The algorithms of the manifests that are such, with one more manifest.
use Rattle.std.proofs.Common.{◌≡◌, ◌↔◌, ◌⊎◌, ◌||◌, ◌∙◌, ◌++◌, ◌∷◌, [], true, List, refl, sym, subst, inl, inr}
use Rattle.bag_rules.specs.Wants.{HasSuch}
use Rattle.bag_rules.proofs.Words.{Alg, AlgSet, has, is_alg, Listing, or_cases, or_left, or_right}
use Rattle.bag_rules.proofs.AlgLemmas.{itself, same_alg}
use Rattle.bag_rules.proofs.HasLemmas.{has_push}

module _ (listings : List Listing) (new : Listing) (such : Listing → Type 0) (old : AlgSet) (before : (alg : Alg) → (has old alg ≡ true) ↔ HasSuch listings such alg) where
  kept : (alg : Alg) → has old alg ≡ true → HasSuch (listings ++ new ∷ []) such alg
  kept alg h =
      let earlier = (before alg).0 h in
      record { listing = earlier.listing; has = (has_push listings new earlier.listing).1 (inl earlier.has); alg_is = earlier.alg_is; is_such = earlier.is_such }

  kept_or_new : (alg : Alg) → HasSuch (listings ++ new ∷ []) such alg → (has old alg ≡ true) ⊎ (new.alg ≡ alg) × such new
  kept_or_new alg h = elim ((has_push listings new h.listing).0 h.has) [
    | inl earlier ↦ inl ((before alg).1 (record { listing = h.listing; has = earlier; alg_is = h.alg_is; is_such = h.is_such }))
    | inr e ↦ inr (subst (λ (l : Listing). (l.alg ≡ alg) × such l) (sym e) (h.alg_is, h.is_such))
  ]

  -- one that is such
  pub one_more : (set : AlgSet) → such new → ((alg : Alg) → has set alg ≡ (is_alg new.alg alg || has old alg)) → (alg : Alg) → (has set alg ≡ true) ↔ HasSuch (listings ++ new ∷ []) such alg
  one_more set is with_alg alg = (
    λ h. elim (or_cases (is_alg new.alg alg) (has old alg) (sym (with_alg alg) ∙ h)) [
      | inl this ↦ record { listing = new; has = (has_push listings new new).1 (inr refl); alg_is = same_alg new.alg alg this; is_such = is }
      | inr earlier ↦ kept alg earlier
    ],
    λ h. with_alg alg ∙ elim (kept_or_new alg h) [
      | inl earlier ↦ or_right (is_alg new.alg alg) (has old alg) earlier
      | inr this ↦ or_left (is_alg new.alg alg) (has old alg) (subst (λ a. is_alg new.alg a ≡ true) this.0 (itself new.alg))
    ],
  )

  -- and one that isn't
  pub none_more : ¬ such new → (alg : Alg) → (has old alg ≡ true) ↔ HasSuch (listings ++ new ∷ []) such alg
  none_more other alg = (kept alg, λ h. elim (kept_or_new alg h) [ inl earlier ↦ earlier | inr this ↦ absurd (other this.1) ])
