-- The entries of `fetch.txt` against the manifests and the files.
use Rattle.std.proofs.Common.{◌≡◌, true, false, List, [], ◌∷◌, Some, None, length, refl, sym, ◌∙◌, subst, inl, inr}
use Rattle.bag_rules.specs.Bags.{version_of}
use Rattle.bag_rules.proofs.Words.{Adds, AreLinesOf, AreTextsOf, Bag, Fault, FetchLine, FetchNotListed, Has, HasEntry, HasFaultOf, IsEntryUnlisted, OfSome, same_Some, TagTexts}
use Rattle.bag_rules.proofs.AddsLemmas.{adds_so}
use Rattle.bag_rules.proofs.FrontLemmas.{fetch_listed}
use Rattle.bag_rules.proofs.UnlistedLemmas.{same_told}

module _ (bag : Bag) (texts : TagTexts) (are : AreTextsOf (length bag.files) bag texts) (lines : List FetchLine) (lines_are : AreLinesOf texts lines) where
  -- the lines that were read are the bag's entries
  pub entry_there : (line : FetchLine) → Has lines line → HasEntry bag line
  entry_there line has = elim lines_are [
    | inl some ↦ record { lines = lines; lists = (fetch_listed bag texts are lines).0 some; has = has }
    | inr none ↦ absurd (subst (λ ls. Has ls line) none.1 has)
  ]

  pub entry_here : (line : FetchLine) → HasEntry bag line → Has lines line
  entry_here line entry =
      let own : texts.fetch ≡ Some entry.lines = (fetch_listed bag texts are entry.lines).1 entry.lists in
      elim lines_are [
        | inl some ↦ subst (λ ls. Has ls line) (sym (same_Some lines entry.lines (sym some ∙ own))) entry.has
        | inr none ↦ absurd (let k : None ≡ Some entry.lines = sym none.0 ∙ own in cc)
      ]

  -- entries that aren't listed as required
  abbrev pub IsLineUnlisted : FetchLine → Fault → Type 0
  IsLineUnlisted line = IsEntryUnlisted (version_of bag) texts.manifests.items line.entry.path

  unlisted_there : (f : Fault) → OfSome lines IsLineUnlisted f → HasFaultOf bag (11 ∷ []) f
  unlisted_there f (line, has, (alg, unlisted, is)) =
      subst (HasFaultOf bag (11 ∷ [])) (sym is) (((same_told bag texts are alg line.entry.path).0 unlisted, (line, entry_there line has, refl)), refl)

  unlisted_back : (f : Fault) → HasFaultOf bag (11 ∷ []) f → OfSome lines IsLineUnlisted f
  unlisted_back (FetchNotListed alg path) ((unlisted, (line, entry, named)), kind) =
      (line, entry_here line entry, subst (λ p. IsEntryUnlisted (version_of bag) texts.manifests.items p (FetchNotListed alg path)) (sym named) (alg, (same_told bag texts are alg path).1 unlisted, refl))
  unlisted_back _ h = absurd (let k : false ≡ true = h.1 in cc)

  pub all_unlisted : (old new : List Fault) → Adds old new (OfSome lines IsLineUnlisted) → Adds old new (HasFaultOf bag (11 ∷ []))
  all_unlisted old new = adds_so old new (OfSome lines IsLineUnlisted) (HasFaultOf bag (11 ∷ [])) unlisted_there unlisted_back
