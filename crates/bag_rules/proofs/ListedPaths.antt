-- The paths that the payload manifests list.
use Rattle.std.proofs.Common.{◌≡◌, ◌≢◌, ◌⊎◌, ◌↔◌, ℕ, true, List, [], ◌∷◌, ◌++◌, map, length, refl, sym, inl, inr, subst}
use Rattle.bag_rules.specs.OpeningInside.{IsListedIn}
use Rattle.bag_rules.specs.Transfers.{IsExpected, tag_bag}
use Rattle.bag_rules.proofs.Words.{AreTextsOf, Files, Has, Listing, Lists, lists_path, manifest_name, Pair, Payload, TagTexts}
use Rattle.bag_rules.proofs.FileKindLemmas.{has_of_lists, lists_of_has}
use Rattle.bag_rules.proofs.HasLemmas.{has_from_map, has_map, has_push, has_both}
use Rattle.bag_rules.proofs.MissingLemmas.{pair_listed, pair_of}

-- the paths of the pairs of a manifest
paths_of_pairs : (pairs : List Pair) (path : List ℕ) → Has (map (λ (pair : Pair). pair.path) pairs) path ↔ (lists_path pairs path ≡ true)
paths_of_pairs pairs path = (
  λ h. (let r = has_from_map (λ (pair : Pair). pair.path) pairs path h in subst (λ p. lists_path pairs p ≡ true) r.2 (pair_listed pairs r.0 r.1)),
  λ listed. (let r = pair_of pairs path listed in subst (Has (map (λ (pair : Pair). pair.path) pairs)) r.2 (has_map (λ (pair : Pair). pair.path) pairs r.0 r.1)),
)

-- one more manifest
module _ (listings : List Listing) (new : Listing) (old : List (List ℕ)) (before : (path : List ℕ) → Has old path ↔ IsListedIn listings path) where
  kept : (path : List ℕ) → Has old path → IsListedIn (listings ++ new ∷ []) path
  kept path h = let l = (before path).0 h in (l.0, (has_push listings new l.0).1 (inl l.1), l.2, l.3)

  kept_or_new : (path : List ℕ) → IsListedIn (listings ++ new ∷ []) path → Has old path ⊎ (new.kind ≡ Payload) × (lists_path new.pairs path ≡ true)
  kept_or_new path l = elim ((has_push listings new l.0).0 l.1) [
    | inl earlier ↦ inl ((before path).1 (l.0, earlier, l.2, l.3))
    | inr e ↦ inr (subst (λ (m : Listing). (m.kind ≡ Payload) × (lists_path m.pairs path ≡ true)) (sym e) (l.2, l.3))
  ]

  -- a payload manifest
  pub listed_more : (paths : List (List ℕ)) → new.kind ≡ Payload → paths ≡ old ++ map (λ (pair : Pair). pair.path) new.pairs → (path : List ℕ) → Has paths path ↔ IsListedIn (listings ++ new ∷ []) path
  listed_more paths payload more path =
      let both = has_both old (map (λ (pair : Pair). pair.path) new.pairs) path in (
        λ h. elim (both.0 (subst (λ ps. Has ps path) more h)) [
          | inl earlier ↦ kept path earlier
          | inr this ↦ (new, (has_push listings new new).1 (inr refl), payload, (paths_of_pairs new.pairs path).0 this)
        ],
        λ l. subst (λ ps. Has ps path) (sym more) (both.1 (elim (kept_or_new path l) [ inl earlier ↦ inl earlier | inr this ↦ inr ((paths_of_pairs new.pairs path).1 this.1) ])),
      )

  -- and another
  pub listed_same : new.kind ≢ Payload → (path : List ℕ) → Has old path ↔ IsListedIn (listings ++ new ∷ []) path
  listed_same other path = (kept path, λ l. elim (kept_or_new path l) [ inl earlier ↦ earlier | inr this ↦ absurd (other this.0) ])

-- in terms of what was read, and in the bag
pub expected_as : (tags : Files) (texts : TagTexts) → AreTextsOf (length tags) (tag_bag tags) texts → (path : List ℕ) → IsListedIn texts.manifests.items path ↔ IsExpected tags path
expected_as tags texts are path = (
  λ l. (l.0.alg, (l.0.pairs, subst (λ k. Lists (tag_bag tags) (manifest_name k l.0.alg) l.0.pairs) l.2 (lists_of_has (tag_bag tags) texts are l.0 l.1), l.3)),
  λ e. (record { alg = e.0; kind = Payload; pairs = e.1.0 }, has_of_lists (tag_bag tags) texts are (manifest_name Payload e.0) e.1.0 e.1.1, refl, e.1.2),
)
