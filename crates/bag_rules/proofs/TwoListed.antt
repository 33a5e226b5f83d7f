-- Transfers whose one manifest lists two files, with or without their `fetch.txt`: what passes for them.
use Rattle.std.proofs.Common.{◌≡◌, ◌⊎◌, ◌≤◌, ℕ, true, false, List, [], ◌∷◌, ◌++◌, Some, None, codes, length, refl, sym, ap, ◌∙◌, subst, inl, inr, arith, rules}
use Rattle.bag_path.specs.Lines.{lines_of}
use Rattle.bag_path.specs.Paths.{IsPath, path_fault}
use Rattle.bag_path.specs.SpellingReading.{octets_spelled_after}
use Rattle.bag_digest.specs.Algorithm.{place_of}
use Rattle.bag_digest.specs.declared.digest.Digest.TheVariants as digest
use Rattle.bag_digest.proofs.Published.{digest_of_nothing, digits_of_nothing, sha256_of_nothing}
use Rattle.bag_tags.proofs.ExactTexts.{one_list_of_entries}
use Rattle.bag_tags.proofs.ExampleLines.{adds_entry}
use Rattle.bag_tags.specs.FetchEntries.{IsUrl, fetch_item}
use Rattle.bag_tags.specs.Fetches.{fetch_line}
use Rattle.bag_tags.specs.FetchText.{AddsEntry, IsLength}
use Rattle.bag_tags.specs.WordsReading.{until}
use Rattle.bag_rules.specs.declared.limits.TheConstants.{LARGEST_ITEM}
use Rattle.bag_rules.specs.declared.want.WantFault.TheVariants.{Length as OtherLength, Digest as OtherDigest}
use Rattle.bag_rules.specs.ExampleBags.{file_a, file_e, manifest_of_two, tags_of_two, tags_with_fetch}
use Rattle.bag_rules.specs.Transfers.{HasOtherLength, IsExpected, IsMisfit, Passes, tag_bag}
use Rattle.bag_rules.proofs.HasLemmas.{has_at}
use Rattle.bag_rules.proofs.OneManifest.{by_sha256}
use Rattle.bag_rules.proofs.Words.{adds_pair, AddsPair, Alg, ascii_path, bytes_eq, Digest, digest_of_abc, digits_of_abc, false≢true, FetchLine, FetchText, Files, Has, HasEntry, hash, leads_on, listed_digest, Listing, Lists, lists_path, manifest_file, manifest_name, ManifestText, Md5, nothing_listed, one_list_of_pairs, other_digest_of_abd, other_text, Pair, pair, Payload, same_Some, Sha1, Sha256, sha256_of_abc, Sha512, SpellsDigest, text_of, V1, with_pair, word_of}

abbrev File : Type 0
File = List ℕ × List ℕ

-- THE MANIFEST

abbrev of_abc : Digest
of_abc = digest.Sha256 sha256_of_abc

abbrev of_nothing : Digest
of_nothing = digest.Sha256 sha256_of_nothing

abbrev pub two_listed : List Pair
two_listed = pair file_a of_abc ∷ pair file_e of_nothing ∷ []

abbrev line_a : List ℕ
line_a = codes "ba7816bf8f01cfea414140de5dae2223b00361a396177a9cb410ff61f20015ad  data/a.txt"

abbrev line_e : List ℕ
line_e = codes "e3b0c44298fc1c149afbf4c8996fb92427ae41e4649b934ca495991b7852b855  data/e.txt"

abbrev none : Listing
none = nothing_listed Sha256 Payload

abbrev after_a : Listing
after_a = with_pair none (pair file_a of_abc)

abbrev after_e : Listing
after_e = with_pair after_a (pair file_e of_nothing)

digits_a : SpellsDigest Sha256 (word_of line_a) of_abc
unfolding until
digits_a = digits_of_abc

digits_e : SpellsDigest Sha256 (word_of line_e) of_nothing
unfolding until
digits_e = digits_of_nothing

pub path_a : IsPath file_a
unfolding path_fault
path_a = ascii_path file_a refl refl

pub path_e : IsPath file_e
unfolding path_fault
path_e = ascii_path file_e refl refl

adds_a : AddsPair V1 none 1 line_a after_a
unfolding until octets_spelled_after
adds_a = adds_pair none line_a of_abc refl digits_a file_a refl path_a 1 refl refl

adds_e : AddsPair V1 after_a 2 line_e after_e
unfolding until octets_spelled_after
adds_e = adds_pair after_a line_e of_nothing refl digits_e file_e refl path_e 2 refl refl

lists_two : ManifestText V1 Sha256 Payload manifest_of_two two_listed
unfolding lines_of
lists_two = text_of (AddsPair V1) none manifest_of_two after_e
    (after_a, leads_on (AddsPair V1) _ _ _ refl refl adds_a, (after_e, leads_on (AddsPair V1) _ _ _ refl refl adds_e, refl))

-- FETCH.TXT

abbrev entry_a : FetchLine
entry_a = fetch_line 1 (fetch_item (codes "http://example.org/a") (Some 3) file_a)

abbrev entry_e : FetchLine
entry_e = fetch_line 2 (fetch_item (codes "http://example.org/e") None file_e)

abbrev fetch_a : List ℕ
fetch_a = codes "http://example.org/a 3 data/a.txt"

abbrev fetch_e : List ℕ
fetch_e = codes "http://example.org/e - data/e.txt"

url_a : IsUrl (codes "http://example.org/a")
url_a = record { scheme = codes "http"; rest = codes "//example.org/a"; whole = refl; is_scheme = search rules; some = λ e. cc; no_control = search rules }

url_e : IsUrl (codes "http://example.org/e")
url_e = record { scheme = codes "http"; rest = codes "//example.org/e"; whole = refl; is_scheme = search rules; some = λ e. cc; no_control = search rules }

three : IsLength (codes "3") (Some 3)
three = (record { some = λ e. cc; digits = search rules; value_is = refl }, omega arith)

fetches_a : AddsEntry V1 [] 1 fetch_a (entry_a ∷ [])
unfolding until octets_spelled_after
fetches_a = adds_entry fetch_a (Some 3) file_a refl url_a three refl path_a [] 1 refl

fetches_e : AddsEntry V1 (entry_a ∷ []) 2 fetch_e (entry_a ∷ entry_e ∷ [])
unfolding until octets_spelled_after
fetches_e = adds_entry fetch_e None file_e refl url_e refl refl path_e (entry_a ∷ []) 2 refl

fetches_two : FetchText V1 (fetch_a ++ 10 ∷ fetch_e ++ 10 ∷ []) (entry_a ∷ entry_e ∷ [])
unfolding lines_of
fetches_two = text_of (AddsEntry V1) [] (fetch_a ++ 10 ∷ fetch_e ++ 10 ∷ []) (entry_a ∷ entry_e ∷ [])
    (entry_a ∷ [], leads_on (AddsEntry V1) _ _ _ refl refl fetches_a, (entry_a ∷ entry_e ∷ [], leads_on (AddsEntry V1) _ _ _ refl refl fetches_e, refl))

-- WHAT THE TAG FILES SAY

-- the manifest lists these two, and no other does; the one length that may be given is that of the first
pub record ListsTwo (tags : Files) : Type 0 where
  pub lists : Lists (tag_bag tags) by_sha256 two_listed
  pub only : (alg : Alg) (pairs : List Pair) → Lists (tag_bag tags) (manifest_name Payload alg) pairs → (alg ≡ Sha256) × (pairs ≡ two_listed)
  pub lengths : (line : FetchLine) → HasEntry (tag_bag tags) line → ((line.entry.path ≡ file_a) × (line.entry.octets ≡ Some 3)) ⊎ (line.entry.octets ≡ None)

-- a manifest among files of which one is a manifest
module _ (tags : Files) (named : (name octets : List ℕ) → Has tags (name, octets) → bytes_eq (codes "bagit.txt") name ≡ false → bytes_eq (codes "fetch.txt") name ≡ false → (codes "manifest-sha256.txt" ≡ name) × (manifest_of_two ≡ octets)) where
  other_name : (alg : Alg) (octets : List ℕ) → Has tags (manifest_file Payload alg, octets) → bytes_eq (codes "bagit.txt") (manifest_file Payload alg) ≡ false → bytes_eq (codes "fetch.txt") (manifest_file Payload alg) ≡ false → bytes_eq (codes "manifest-sha256.txt") (manifest_file Payload alg) ≡ false → ⊥
  other_name alg octets has a b c = other_text (codes "manifest-sha256.txt") (manifest_file Payload alg) c (named (manifest_file Payload alg) octets has a b).0

  the_manifest : (alg : Alg) (octets : List ℕ) → Has tags (manifest_file Payload alg, octets) → (alg ≡ Sha256) × (octets ≡ manifest_of_two)
  the_manifest Md5 octets has = absurd (other_name Md5 octets has refl refl refl)
  the_manifest Sha1 octets has = absurd (other_name Sha1 octets has refl refl refl)
  the_manifest Sha256 octets has = (refl, sym (named (manifest_file Payload Sha256) octets has refl refl).1)
  the_manifest Sha512 octets has = absurd (other_name Sha512 octets has refl refl refl)

file_of_two : (name octets : List ℕ) → Has tags_of_two (name, octets) → bytes_eq (codes "bagit.txt") name ≡ false → bytes_eq (codes "fetch.txt") name ≡ false → (codes "manifest-sha256.txt" ≡ name) × (manifest_of_two ≡ octets)
file_of_two name octets (inl e) a b = absurd (other_text (codes "bagit.txt") name a (ap (λ (f : File). f.0) e))
file_of_two name octets (inr (inl e)) a b = (ap (λ (f : File). f.0) e, ap (λ (f : File). f.1) e)
file_of_two name octets (inr (inr no_more)) a b = absurd no_more

file_with_fetch : (name octets : List ℕ) → Has tags_with_fetch (name, octets) → bytes_eq (codes "bagit.txt") name ≡ false → bytes_eq (codes "fetch.txt") name ≡ false → (codes "manifest-sha256.txt" ≡ name) × (manifest_of_two ≡ octets)
file_with_fetch name octets (inl e) a b = absurd (other_text (codes "bagit.txt") name a (ap (λ (f : File). f.0) e))
file_with_fetch name octets (inr (inl e)) a b = absurd (other_text (codes "fetch.txt") name b (ap (λ (f : File). f.0) e))
file_with_fetch name octets (inr (inr (inl e))) a b = (ap (λ (f : File). f.0) e, ap (λ (f : File). f.1) e)
file_with_fetch name octets (inr (inr (inr no_more))) a b = absurd no_more

only_two : (alg : Alg) (pairs : List Pair) → Lists (tag_bag tags_of_two) (manifest_name Payload alg) pairs → (alg ≡ Sha256) × (pairs ≡ two_listed)
only_two alg pairs l =
    let one = the_manifest tags_of_two file_of_two alg l.octets (has_at tags_of_two l.there.0 (manifest_file Payload alg, l.octets) l.there.1) in
    (one.0, one_list_of_pairs V1 Sha256 Payload manifest_of_two pairs two_listed (rw (one.0, one.1) at l.text) lists_two)

only_with_fetch : (alg : Alg) (pairs : List Pair) → Lists (tag_bag tags_with_fetch) (manifest_name Payload alg) pairs → (alg ≡ Sha256) × (pairs ≡ two_listed)
only_with_fetch alg pairs l =
    let one = the_manifest tags_with_fetch file_with_fetch alg l.octets (has_at tags_with_fetch l.there.0 (manifest_file Payload alg, l.octets) l.there.1) in
    (one.0, one_list_of_pairs V1 Sha256 Payload manifest_of_two pairs two_listed (rw (one.0, one.1) at l.text) lists_two)

no_fetch : (octets : List ℕ) → ¬ Has tags_of_two (codes "fetch.txt", octets)
no_fetch octets (inl e) = other_text (codes "bagit.txt") (codes "fetch.txt") refl (ap (λ (f : File). f.0) e)
no_fetch octets (inr (inl e)) = other_text (codes "manifest-sha256.txt") (codes "fetch.txt") refl (ap (λ (f : File). f.0) e)
no_fetch octets (inr (inr no_more)) = no_more

the_fetch : (octets : List ℕ) → Has tags_with_fetch (codes "fetch.txt", octets) → octets ≡ fetch_a ++ 10 ∷ fetch_e ++ 10 ∷ []
the_fetch octets (inl e) = absurd (other_text (codes "bagit.txt") (codes "fetch.txt") refl (ap (λ (f : File). f.0) e))
the_fetch octets (inr (inl e)) = sym (ap (λ (f : File). f.1) e)
the_fetch octets (inr (inr (inl e))) = absurd (other_text (codes "manifest-sha256.txt") (codes "fetch.txt") refl (ap (λ (f : File). f.0) e))
the_fetch octets (inr (inr (inr no_more))) = absurd no_more

length_of : (line : FetchLine) → Has (entry_a ∷ entry_e ∷ []) line → ((line.entry.path ≡ file_a) × (line.entry.octets ≡ Some 3)) ⊎ (line.entry.octets ≡ None)
length_of line (inl e) = inl (ap (λ (l : FetchLine). l.entry.path) (sym e), ap (λ (l : FetchLine). l.entry.octets) (sym e))
length_of line (inr (inl e)) = inr (ap (λ (l : FetchLine). l.entry.octets) (sym e))
length_of line (inr (inr no_more)) = absurd no_more

pub two : ListsTwo tags_of_two
two = record {
  lists = record { octets = manifest_of_two; there = (1, refl); text = lists_two };
  only = only_two;
  lengths = λ line h. absurd (no_fetch h.lists.octets (has_at tags_of_two h.lists.there.0 (codes "fetch.txt", h.lists.octets) h.lists.there.1));
}

pub two_with_fetch : ListsTwo tags_with_fetch
two_with_fetch = record {
  lists = record { octets = manifest_of_two; there = (2, refl); text = lists_two };
  only = only_with_fetch;
  lengths = λ line h.
      let is = the_fetch h.lists.octets (has_at tags_with_fetch h.lists.there.0 (codes "fetch.txt", h.lists.octets) h.lists.there.1) in
      let lines = one_list_of_entries V1 (fetch_a ++ 10 ∷ fetch_e ++ 10 ∷ []) h.lines (entry_a ∷ entry_e ∷ []) (rw is at h.lists.text) fetches_two in
      length_of line (subst (λ ls. Has ls line) lines h.has);
}

-- `fetch.txt` gives the first three octets
pub gives_three : HasEntry (tag_bag tags_with_fetch) entry_a
gives_three = record { lines = entry_a ∷ entry_e ∷ []; lists = record { octets = fetch_a ++ 10 ∷ fetch_e ++ 10 ∷ []; there = (1, refl); text = fetches_two }; has = inl refl }

-- WHAT PASSES

module _ (tags : Files) (t : ListsTwo tags) where
  pub expected : (path : List ℕ) → lists_path two_listed path ≡ true → IsExpected tags path
  expected path e = (Sha256, (two_listed, t.lists, e))

  pub not_expected : (path : List ℕ) → lists_path two_listed path ≡ false → ¬ IsExpected tags path
  not_expected path e h = let listed : lists_path two_listed path ≡ true = subst (λ pairs. lists_path pairs path ≡ true) (t.only h.0 h.1.0 h.1.1).1 h.1.2 in false≢true (sym e ∙ listed)

  passing : (path content : List ℕ) (digest : Digest) → lists_path two_listed path ≡ true → listed_digest two_listed path ≡ Some digest → hash Sha256 content ≡ digest → length content ≤ LARGEST_ITEM → ((path ≡ file_a) → length content ≡ 3) → Passes tags path content
  passing path content digest there listed same within three_if = record {
    expected = expected path there;
    within = within;
    digests = λ alg pairs other lists found.
        let one = t.only alg pairs lists in
        let also : listed_digest two_listed path ≡ Some other = subst (λ ps. listed_digest ps path ≡ Some other) one.1 found in
        let digests : digest ≡ other = same_Some digest other (sym listed ∙ also) in
        ap (λ a. hash a content) one.0 ∙ same ∙ digests;
    lengths = λ line entry here given gives. elim (t.lengths line entry) [
      | inl k ↦ (let three_is : 3 ≡ given = same_Some 3 given (sym k.1 ∙ gives) in three_if (sym here ∙ k.0) ∙ three_is)
      | inr nothing ↦ absurd (let e : None ≡ Some given = sym nothing ∙ gives in cc)
    ];
  }

  pub a_passes : Passes tags file_a (codes "abc")
  a_passes = passing file_a (codes "abc") of_abc refl refl digest_of_abc (omega arith) (λ e. refl)

  pub e_passes : Passes tags file_e []
  e_passes = passing file_e [] of_nothing refl refl digest_of_nothing (omega arith) (λ e. absurd (other_text file_e file_a refl e))

  -- three other octets
  no_other_length : ¬ HasOtherLength tags file_a (codes "abd")
  no_other_length h = elim (t.lengths h.0 h.1) [
    | inl k ↦ h.3.2 (same_Some 3 h.3.0 (sym k.1 ∙ h.3.1))
    | inr nothing ↦ (let e : None ≡ Some h.3.0 = sym nothing ∙ h.3.1 in cc)
  ]

  pub abd_is_misfit : IsMisfit tags file_a (codes "abd") (OtherDigest Sha256)
  abd_is_misfit = (
    no_other_length,
    ((two_listed, t.lists, (of_abc, refl, other_digest_of_abd)), λ other lists. (let is : other ≡ Sha256 = (t.only other lists.0 lists.1).0 in subst (λ (a : Alg). place_of Sha256 ≤ place_of a) (sym is) (omega arith))),
  )

  pub abd_does_not_pass : ¬ Passes tags file_a (codes "abd")
  abd_does_not_pass passes = other_digest_of_abd (passes.digests Sha256 two_listed of_abc t.lists refl)

-- four octets
pub abcd_is_misfit : IsMisfit tags_with_fetch file_a (codes "abcd") OtherLength
abcd_is_misfit = (entry_a, gives_three, refl, (3, refl, λ e. absurd (omega (arith, e))))
