-- The entries of `fetch.txt` that are written: one for each hole, with the length of its file.
use Rattle.std.proofs.Common.{◌≡◌, ◌≢◌, ◌∙◌, ◌+◌, ◌^◌, ◌<◌, ◌≤◌, ◌++◌, ℕ, true, List, [], ◌∷◌, Option, Some, IfSome, length, map, inl, inr, refl, sym, ap, subst, arith, string_bytes}
use Rattle.std.proofs.lemmas.Str.{IsUtf8-string_bytes}
use Rattle.std.specs.Prelude.{Contains}
use Rattle.bag_tags.proofs.ExactTexts.{one_list_of_entries}
use Rattle.bag_tags.proofs.FetchDecisionLemmas.{decided_url}
use Rattle.bag_tags.proofs.FetchWritingLemmas.{fetch_reads}
use Rattle.bag_tags.specs.FetchEntries.{FetchItem, IsUrl, written_entry}
use Rattle.bag_tags.specs.Fetches.{CanBeFetched, fetch_line, numbered_from, written_fetch}
use Rattle.bag_rules.proofs.FirstManifest.{decided_there}
use Rattle.bag_rules.proofs.HasLemmas.{contains_from_has, has_at, has_from_contains, has_from_map, has_map, place_of_has}
use Rattle.bag_rules.proofs.TreeLemmas.{text_of}
use Rattle.bag_rules.proofs.Words.{AllByRecursion, Bag, FetchLine, FetchList, FetchText, Files, Has, HasEntry, HoldsFile, IsThere, keys_of, ListsFetch, option_map, same_Some, text_file, V1}
use Rattle.bag_rules.specs.Bags.{version_of}
use Rattle.bag_rules.specs.declared.limits.TheConstants.{LARGEST_FILE}
use Rattle.bag_writer.proofs.PartBags.{fetch_case, HasTags, other_case, payload_path, version_is}
use Rattle.bag_writer.proofs.SaidElements.{short}
use Rattle.bag_writer.proofs.TagCases.{fetch_octets}
use Rattle.bag_writer.specs.FilledBags.{IsPayloadFor}
use Rattle.bag_writer.specs.WrittenBags.{entry_of}
use Rattle.bag_writer.specs.declared.spec.Hole.{Hole}
use Rattle.bag_writer.specs.declared.spec.Spec.{Spec}
use Rattle.bag_writer.specs.declared.too_large.Large.TheVariants as large

-- LINES

-- the line of a hole
abbrev pub line_of : Files → Hole → FetchLine
line_of payload hole = fetch_line 0 (entry_of payload hole)

pub fetch_is : (payload : Files) (holes : List Hole) → fetch_octets payload holes ≡ written_fetch (map (line_of payload) holes)
fetch_is payload [] = refl
fetch_is payload (hole ∷ holes) = ap (λ rest. written_entry (entry_of payload hole) ++ rest) (fetch_is payload holes)

line_has : (payload : Files) (holes : List Hole) (n : ℕ) (line : FetchLine) → Has (numbered_from n (map (line_of payload) holes)) line → (hole : Hole) × Has holes hole × (line.entry ≡ entry_of payload hole)
line_has payload [] n line h = absurd h
line_has payload (hole ∷ holes) n line (inl e) = (hole, inl refl, sym (ap (λ (l : FetchLine). l.entry) e))
line_has payload (hole ∷ holes) n line (inr h) = let rest = line_has payload holes (n + 1) line h in (rest.0, inr rest.1, rest.2)

-- A HOLE

module _ (spec : Spec) (payload : Files) (fits : IsPayloadFor spec payload) where
  abbrev pub whole : Bag
  whole = record { files = payload; has_payload_dir = true }

  -- no hole is a bad one
  url_fits : (hole : Hole) → Has spec.holes.items hole → IsUrl (string_bytes hole.url)
  url_fits hole h =
      let place = place_of_has spec.holes.items hole h in
      elim (decided_url (string_bytes hole.url)) [
        | inl is ↦ is
        | inr none ↦ absurd (fits.accepted.holes place.0 (hole, place.1, inr (inl none)))
      ]

  pub has_path : (path : List ℕ) → Contains (keys_of payload) path → (octets : List ℕ) × Has payload (path, octets)
  has_path path found =
      let file = has_from_map (λ (file : List ℕ × List ℕ). file.0) payload path (has_from_contains (keys_of payload) path found) in
      (file.0.1, subst (λ p. Has payload (p, file.0.1)) file.2 file.1)

  pub path_has : (path octets : List ℕ) → Has payload (path, octets) → Contains (keys_of payload) path
  path_has path octets h = contains_from_has (keys_of payload) path (has_map (λ (file : List ℕ × List ℕ). file.0) payload (path, octets) h)

  pub hole_file : (hole : Hole) → Has spec.holes.items hole → (octets : List ℕ) × Has payload (hole.path, octets)
  hole_file hole h =
      let place = place_of_has spec.holes.items hole h in
      elim (decided_there whole hole.path) [
        | inl there ↦ (there.0, has_at payload there.1.0 (hole.path, there.0) there.1.1)
        | inr absent ↦ absurd (fits.accepted.holes place.0 (hole, place.1, inl (λ found. (let file = has_path hole.path found in absent (file.0, place_of_has payload (hole.path, file.0) file.1)))))
      ]

  -- the length that is given is that of the file
  pub length_given : (hole : Hole) (octets : List ℕ) → Has payload (hole.path, octets) → (entry_of payload hole).octets ≡ Some (length octets)
  length_given hole octets h = ap (option_map length) (text_of whole hole.path octets fits.rising (place_of_has payload (hole.path, octets) h))

  fits_length : (n : Option ℕ) (k : ℕ) → n ≡ Some k → k < 2 ^ 64 → IfSome n (λ m. m < 2 ^ 64)
  fits_length n k e below = subst (λ (o : Option ℕ). IfSome o (λ m. m < 2 ^ 64)) (sym e) below

  pub can_be_fetched : (hole : Hole) → Has spec.holes.items hole → CanBeFetched (line_of payload hole)
  can_be_fetched hole h =
      let file = hole_file hole h in
      let path = payload_path spec payload fits hole.path file.0 file.1 in
      let within : length file.0 ≤ 1099511627776 = short payload LARGEST_FILE (λ long. fits.not_too_large (large.File long.0, long.1)) hole.path file.0 file.1 in (
        record { utf8 = IsUtf8-string_bytes hole.url; url = url_fits hole h; path = path.0; payload = path.1 },
        fits_length _ (length file.0) (length_given hole file.0 file.1) (omega (arith, within)),
      )

  pub all_fetched : (holes : List Hole) → ((hole : Hole) → Has holes hole → Has spec.holes.items hole) → AllByRecursion CanBeFetched (map (line_of payload) holes)
  all_fetched [] each = tt
  all_fetched (hole ∷ holes) each = (can_be_fetched hole (each hole (inl refl)), all_fetched holes (λ other h. each other (inr h)))

  -- the lines that are written
  abbrev pub lines : List FetchLine
  lines = numbered_from 1 (map (line_of payload) spec.holes.items)

  fetch_text : FetchText V1 (fetch_octets payload spec.holes.items) lines
  fetch_text = fetch_reads (fetch_octets payload spec.holes.items) (map (line_of payload) spec.holes.items) (fetch_is payload spec.holes.items) (all_fetched spec.holes.items (λ hole h. h))

  module _ (bag : Bag) (tags : HasTags spec payload bag) where
    pub fetch_is_written : (octets : List ℕ) → HoldsFile bag (text_file FetchList) octets → (octets ≡ fetch_octets payload spec.holes.items) × (spec.holes.items ≢ [])
    fetch_is_written octets holds = fetch_case spec payload (text_file FetchList) octets refl (other_case spec payload fits bag tags (text_file FetchList) octets refl holds)

    pub fetches_so : IsThere bag (text_file FetchList) → ListsFetch bag lines
    fetches_so there = record {
      octets = fetch_octets payload spec.holes.items;
      there = subst (λ o. HoldsFile bag (text_file FetchList) o) (fetch_is_written there.0 there.1).0 there.1;
      text = subst (λ v. FetchText v (fetch_octets payload spec.holes.items) lines) (sym (version_is spec payload fits bag tags)) fetch_text;
    }

    pub fetches_only : (said : List FetchLine) → ListsFetch bag said → said ≡ lines
    unfolding fetches_so
    fetches_only said lists = one_list_of_entries (version_of bag) (fetch_octets payload spec.holes.items) said lines
        (subst (λ o. FetchText (version_of bag) o said) (fetch_is_written lists.octets lists.there).0 lists.text) (fetches_so (lists.octets, lists.there)).text

    -- an entry is that of a hole
    pub entry_has : (line : FetchLine) → HasEntry bag line → (hole : Hole) × Has spec.holes.items hole × (line.entry ≡ entry_of payload hole)
    entry_has line entry = line_has payload spec.holes.items 1 line (subst (λ ls. Has ls line) (fetches_only entry.lines entry.lists) entry.has)

    -- its path is one of the payload, and a length that it gives is that of the file
    pub entry_path : (line : FetchLine) → HasEntry bag line → (octets : List ℕ) × Has payload (line.entry.path, octets)
    entry_path line entry =
        let is = entry_has line entry in
        let file = hole_file is.0 is.1 in
        (file.0, subst (λ (e : FetchItem). Has payload (e.path, file.0)) (sym is.2) file.1)

    pub entry_length : (line : FetchLine) (octets : List ℕ) → HasEntry bag line → Has payload (line.entry.path, octets) → (given : ℕ) → line.entry.octets ≡ Some given → length octets ≡ given
    entry_length line octets entry h given gives =
        let is = entry_has line entry in
        let here : Has payload (is.0.path, octets) = subst (λ (e : FetchItem). Has payload (e.path, octets)) is.2 h in
        same_Some (length octets) given (sym (length_given is.0 octets here) ∙ sym (ap (λ (e : FetchItem). e.octets) is.2) ∙ gives)
