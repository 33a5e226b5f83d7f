-- What can be wrong with the bag of a transfer: files that are still to come, and the size of its payload.
use Rattle.std.proofs.Common.{◌≡◌, ◌∙◌, ℕ, true, false, List, Some, length, refl, sym, subst, inl, inr}
use Rattle.bag_rules.specs.Bags.{version_of}
use Rattle.bag_rules.specs.Opening.{MayBeMended, Opens}
use Rattle.bag_rules.specs.Transfers.{AreHeldFor, held_bag, tag_bag}
use Rattle.bag_rules.proofs.Words.{Alg, AreTagFiles, BadDeclaration, BadLine, cases_Bool, declaration_file, Digest, Fault, FetchLength, FetchLine, FetchNotListed, Files, HasEntry, HasFault, hash, HoldsFile, is_payload, IsFaultyText, IsThere, Kind, line_fault, listed_digest, Lists, manifest_file, manifest_name, ManifestName, ManifestNotListed, Missing, NoDeclaration, NoManifest, NoPayloadDir, OxumForm, OxumTwice, OxumWrong, Pair, Payload, Tag, text_file, Unlisted, WrongDigest}
use Rattle.bag_rules.proofs.HeldBags.{holds_tag, item_held, same_version, tag_held}
use Rattle.bag_rules.proofs.InPlace.{listed_in_place}
use Rattle.bag_rules.proofs.ListedLemmas.{some_listed}
use Rattle.bag_rules.proofs.SameTexts.{entry_too, lists_too, oxum_too, plain_manifest, plain_text, says_too, there_too, unlisted_too}

module _ (tags items : Files) (are : AreTagFiles tags) (held : AreHeldFor tags items) (opens : Opens tags) where
  pub same : version_of (held_bag tags items) ≡ version_of (tag_bag tags)
  same = same_version tags items are held opens.in_scope.declared

  pub down : (path octets : List ℕ) → is_payload path ≡ false → HoldsFile (held_bag tags items) path octets → HoldsFile (tag_bag tags) path octets
  down = tag_held tags items are held

  pub up : (path octets : List ℕ) → is_payload path ≡ false → HoldsFile (tag_bag tags) path octets → HoldsFile (held_bag tags items) path octets
  up path octets other = holds_tag tags items are held path octets

  there_up : (path : List ℕ) → IsThere (tag_bag tags) path → IsThere (held_bag tags items) path
  there_up path there = (there.0, holds_tag tags items are held path there.0 there.1)

  pub lists_down : (name : ManifestName) (pairs : List Pair) → Lists (held_bag tags items) name pairs → Lists (tag_bag tags) name pairs
  lists_down = lists_too (held_bag tags items) (tag_bag tags) same down

  pub lists_up : (name : ManifestName) (pairs : List Pair) → Lists (tag_bag tags) name pairs → Lists (held_bag tags items) name pairs
  lists_up = lists_too (tag_bag tags) (held_bag tags items) (sym same) up

  entry_down : (line : FetchLine) → HasEntry (held_bag tags items) line → HasEntry (tag_bag tags) line
  entry_down = entry_too (held_bag tags items) (tag_bag tags) same down

  -- a listed file that is not there is a payload file
  missing : (kind : Kind) (alg : Alg) (path : List ℕ) → HasFault (held_bag tags items) (Missing (manifest_name kind alg) path) → kind ≡ Payload
  missing Payload alg path fault = refl
  missing Tag alg path (pairs, lists, listed, away) = absurd (opens.no_fault (Missing (manifest_name Tag alg) path) (
    (pairs, lists_down (manifest_name Tag alg) pairs lists, listed, λ there. away (there_up path there)),
    λ (mended : Tag ≡ Payload). (let k : Tag ≡ Payload = mended in cc),
  ))

  -- payload files pass
  right_length : (line : FetchLine) (path octets : List ℕ) (given : ℕ) → HasEntry (held_bag tags items) line → line.entry.path ≡ path → line.entry.octets ≡ Some given → HoldsFile (held_bag tags items) path octets → is_payload path ≡ true → length octets ≡ given
  right_length line path octets given entry named gives holds payload = (held.passing path octets (item_held tags items are held path octets payload holds)).lengths line (entry_down line entry) named given gives

  right_digest : (kind : Kind) (alg : Alg) (path octets : List ℕ) (pairs : List Pair) (digest : Digest) → Lists (tag_bag tags) (manifest_name kind alg) pairs → listed_digest pairs path ≡ Some digest → HoldsFile (held_bag tags items) path octets → is_payload path ≡ true → hash alg octets ≡ digest
  right_digest Payload alg path octets pairs digest lists some holds payload = (held.passing path octets (item_held tags items are held path octets payload holds)).digests alg pairs digest lists some
  right_digest Tag alg path octets pairs digest lists some holds payload = absurd (let k : true ≡ false = sym payload ∙ (listed_in_place (tag_bag tags) (manifest_name Tag alg) pairs path lists (some_listed pairs path digest some)).0 in cc)

  pub may_be_mended : (fault : Fault) → HasFault (held_bag tags items) fault → MayBeMended fault
  may_be_mended NoDeclaration fault = opens.no_fault NoDeclaration (λ there. fault (there_up declaration_file there), λ no. no)
  may_be_mended (BadDeclaration cause) (octets, holds, bad) = opens.no_fault (BadDeclaration cause) ((octets, down declaration_file octets refl holds, bad), λ no. no)
  may_be_mended NoPayloadDir fault = let k : true ≡ false = fault in cc
  may_be_mended NoManifest fault = opens.no_fault NoManifest (λ alg there. fault alg (there_up (manifest_file Payload alg) there), λ no. no)
  may_be_mended (BadLine file line cause) (octets, holds, bad) = opens.no_fault (BadLine file line cause) (
    (octets, down (text_file file) octets (plain_text file) holds, subst (λ v. IsFaultyText v file octets (line_fault line cause)) same bad),
    λ no. no,
  )
  may_be_mended (ManifestNotListed tag_manifest manifest) (pairs, lists, there, other) = opens.no_fault (ManifestNotListed tag_manifest manifest) (
    (
      pairs,
      lists_down (manifest_name Tag tag_manifest) pairs lists,
      there_too (held_bag tags items) (tag_bag tags) same down (manifest_file Payload manifest) (plain_manifest Payload manifest) there,
      other,
    ),
    λ no. no,
  )
  may_be_mended OxumForm (element, says, bad) = opens.no_fault OxumForm ((element, oxum_too (held_bag tags items) (tag_bag tags) same down element says, bad), λ no. no)
  may_be_mended OxumTwice (elements, says, twice) = opens.no_fault OxumTwice ((elements, says_too (held_bag tags items) (tag_bag tags) same down elements says, twice), λ no. no)
  may_be_mended (Missing name path) fault = missing name.kind name.alg path fault
  may_be_mended (Unlisted alg path) (unlisted, there, payload) = opens.no_fault (Unlisted alg path) (
    (held.passing path there.0 (item_held tags items are held path there.0 payload there.1)).expected,
    unlisted_too (held_bag tags items) (tag_bag tags) same down lists_up alg path unlisted,
  )
  may_be_mended (FetchNotListed alg path) (unlisted, (line, entry, named)) = opens.no_fault (FetchNotListed alg path) (
    (unlisted_too (held_bag tags items) (tag_bag tags) same down lists_up alg path unlisted, (line, entry_down line entry, named)),
    λ no. no,
  )
  may_be_mended (FetchLength number path) (line, entry, numbered, named, (given, gives, (octets, holds, other))) = elim (cases_Bool (is_payload path)) [
    | inl payload ↦ other (right_length line path octets given entry named gives holds payload)
    | inr plain ↦ opens.no_fault (FetchLength number path) (
      (line, entry_down line entry, numbered, named, (given, gives, (octets, down path octets plain holds, other))),
      λ no. no,
    )
  ]
  may_be_mended OxumWrong fault = tt
  may_be_mended (WrongDigest name path) (pairs, lists, (digest, some, (octets, holds, other))) = elim (cases_Bool (is_payload path)) [
    | inl payload ↦ other (right_digest name.kind name.alg path octets pairs digest (lists_down name pairs lists) some holds payload)
    | inr plain ↦ opens.no_fault (WrongDigest name path) (
      (pairs, lists_down name pairs lists, (digest, some, (octets, down path octets plain holds, other))),
      λ no. no,
    )
  ]
