-- The files that a manifest lists and that are not there.
use Rattle.std.proofs.Common.{◌≡◌, ℕ, true, false, List, [], ◌∷◌, ◌++◌, Contains, refl, sym, ap, ◌∙◌, inl, inr, subst}
use Rattle.bag_rules.proofs.Words.{Adds, bytes_eq, bytes_eq-Decides, cases_Bool, Fault, Has, IsMissingBy, IsPairMissing, Listing, lists_path, ManifestName, Missing, name_in, or_right, Pair}
use Rattle.bag_rules.proofs.AddsLemmas.{adds_so, adds_one}
use Rattle.bag_rules.specs.FilesInside.{OfSome}

-- a path is listed if some pair has it
pub pair_of : (pairs : List Pair) (path : List ℕ) → lists_path pairs path ≡ true → (pair : Pair) × Has pairs pair × (pair.path ≡ path)
pair_of [] path h = absurd (let k : false ≡ true = h in cc)
pair_of (p ∷ pairs) path h = elim (cases_Bool (bytes_eq p.path path)) [
  | inl e ↦ (p, inl refl, (bytes_eq-Decides p.path path).0 e)
  | inr e ↦ let more = pair_of pairs path (rw e at h) in (more.0, inr more.1, more.2)
]

pub pair_listed : (pairs : List Pair) (pair : Pair) → Has pairs pair → lists_path pairs pair.path ≡ true
pair_listed [] pair h = absurd h
pair_listed (p ∷ pairs) pair (inl e) = rw ((bytes_eq-Decides p.path pair.path).1 (ap (λ (q : Pair). q.path) e)) refl
pair_listed (p ∷ pairs) pair (inr h) = or_right (bytes_eq p.path pair.path) (lists_path pairs pair.path) (pair_listed pairs pair h)

-- the pairs whose files are not there
pub missing_by : (paths : List (List ℕ)) (listing : Listing) (pairs : List Pair) (name : ManifestName) (old new : List Fault) → pairs ≡ listing.pairs → name ≡ name_in listing
    → Adds old new (OfSome pairs (λ (pair : Pair). IsPairMissing paths name pair.path)) → Adds old new (IsMissingBy paths listing)
missing_by paths listing pairs name old new same named a =
    adds_so old new (OfSome pairs (λ (pair : Pair). IsPairMissing paths name pair.path)) (IsMissingBy paths listing)
    (λ f h. (h.0.path, (subst (λ ps. lists_path ps h.0.path ≡ true) same (pair_listed pairs h.0 h.1), h.2.0, h.2.1 ∙ ap (λ n. Missing n h.0.path) named)))
    (λ f h.
    let pair = pair_of pairs h.0 (subst (λ ps. lists_path ps h.0 ≡ true) (sym same) h.1.0) in
    (pair.0, pair.1, (subst (λ p. ¬ Contains paths p) (sym pair.2) h.1.1, h.1.2 ∙ ap (λ n. Missing n h.0) (sym named) ∙ ap (λ p. Missing name p) (sym pair.2))))
    a

pub pair_away : (paths : List (List ℕ)) (name : ManifestName) (path : List ℕ) (old new : List Fault) → ¬ Contains paths path → new ≡ old ++ Missing name path ∷ [] → Adds old new (IsPairMissing paths name path)
pair_away paths name path old new away e = adds_one old new (Missing name path) (IsPairMissing paths name path) e (away, refl) (λ f h. sym h.1)
