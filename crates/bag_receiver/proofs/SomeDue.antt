-- Some answer is due.
use Rattle.std.proofs.Common.{◌≡◌, ◌≢◌, ◌≤◌, ℕ, List, [], ◌∷◌, Option, Some, None, length, cond, nat_eq, refl, sym, ap, ◌∙◌, inl, inr, arith}
use Rattle.bag_digest.specs.Hash.{hash}
use Rattle.bag_digest.specs.declared.digest.Digest.TheVariants as digest
use Rattle.bag_receiver.proofs.FileLemmas.{held_or_not}
use Rattle.bag_receiver.proofs.Words.{Alg, Answer, BadPath, Content, decided_at_most, decided_equal, Digest, DigestOf, Files, HasOtherLength, IsDue, IsExpected, IsFirstAmong, IsPath, IsUtf8, LARGEST_ITEM, Length, ListsOther, Md5, NotListed, NoTransfer, Passes, path_fault, path_if_no_fault, PathFault, place_of, Refused, Repeated, Sha1, Sha256, Sha512, Taken, TooLarge, TooLong, Transfer, Unread, Whole}
use Rattle.bag_rules.proofs.ValidityLemmas.{decided_octets}

-- TWO DIGESTS ARE EQUAL OR NOT

code_of : DigestOf → List ℕ
code_of (digest.Md5 octets) = 0 ∷ octets
code_of (digest.Sha1 octets) = 1 ∷ octets
code_of (digest.Sha256 octets) = 2 ∷ octets
code_of (digest.Sha512 octets) = 3 ∷ octets

of_code : List ℕ → DigestOf
of_code [] = digest.Md5 []
of_code (n ∷ octets) = cond (nat_eq n 0) (digest.Md5 octets) (cond (nat_eq n 1) (digest.Sha1 octets) (cond (nat_eq n 2) (digest.Sha256 octets) (digest.Sha512 octets)))

read_again : (d : DigestOf) → of_code (code_of d) ≡ d
unfolding of_code code_of
read_again (digest.Md5 octets) = refl
read_again (digest.Sha1 octets) = refl
read_again (digest.Sha256 octets) = refl
read_again (digest.Sha512 octets) = refl

digests_same : (a b : DigestOf) → ¬ (a ≢ b) → a ≡ b
digests_same a b not_other = elim (decided_octets (code_of a) (code_of b)) [
  | inl same ↦ sym (read_again a) ∙ ap of_code same ∙ read_again b
  | inr other ↦ absurd (not_other (λ e. other (ap code_of e)))
]

-- A CONTENT WITHOUT MISFIT IS VALID

module _ (tags : Files) (path content : List ℕ) where
  abbrev Other : Alg → Type 0
  Other alg = ListsOther tags path content alg

  each : ¬ Other Md5 → ¬ Other Sha1 → ¬ Other Sha256 → ¬ Other Sha512 → (alg : Alg) → ¬ Other alg
  each a b c d Md5 h = a h
  each a b c d Sha1 h = b h
  each a b c d Sha256 h = c h
  each a b c d Sha512 h = d h

  first_sha1 : ¬ Other Md5 → (alg : Alg) → Other alg → place_of Sha1 ≤ place_of alg
  first_sha1 a Md5 h = absurd (a h)
  first_sha1 a Sha1 h = omega arith
  first_sha1 a Sha256 h = omega arith
  first_sha1 a Sha512 h = omega arith

  first_sha256 : ¬ Other Md5 → ¬ Other Sha1 → (alg : Alg) → Other alg → place_of Sha256 ≤ place_of alg
  first_sha256 a b Md5 h = absurd (a h)
  first_sha256 a b Sha1 h = absurd (b h)
  first_sha256 a b Sha256 h = omega arith
  first_sha256 a b Sha512 h = omega arith

  first_sha512 : ¬ Other Md5 → ¬ Other Sha1 → ¬ Other Sha256 → (alg : Alg) → Other alg → place_of Sha512 ≤ place_of alg
  first_sha512 a b c Md5 h = absurd (a h)
  first_sha512 a b c Sha1 h = absurd (b h)
  first_sha512 a b c Sha256 h = absurd (c h)
  first_sha512 a b c Sha512 h = omega arith

  -- one of the algorithms that list another digest is the first
  none_other : ((alg : Alg) → ¬ IsFirstAmong (ListsOther tags path content) alg) → (alg : Alg) → ¬ ListsOther tags path content alg
  none_other none =
      let no_md5 : ¬ ListsOther tags path content Md5 = λ h. none Md5 (h, λ alg k. omega arith) in
      let no_sha1 : ¬ ListsOther tags path content Sha1 = λ h. none Sha1 (h, first_sha1 no_md5) in
      let no_sha256 : ¬ ListsOther tags path content Sha256 = λ h. none Sha256 (h, first_sha256 no_md5 no_sha1) in
      each no_md5 no_sha1 no_sha256 (λ h. none Sha512 (h, first_sha512 no_md5 no_sha1 no_sha256))

  no_misfit_passes : IsExpected tags path → length content ≤ LARGEST_ITEM → ¬ HasOtherLength tags path content → ((alg : Alg) → ¬ Other alg) → Passes tags path content
  no_misfit_passes expected within fits none = record {
    expected = expected;
    within = within;
    digests = λ alg pairs d lists listed. digests_same (hash alg content) d (λ other. none alg (pairs, lists, (d, listed, other)));
    lengths = λ line entry here given gives. elim (decided_equal (length content) given) [
      | inl same ↦ same
      | inr other ↦ absurd (fits (line, entry, here, (given, gives, other)))
    ];
  }

-- SOME ANSWER

module _ (transfer : Transfer) (text : List ℕ) (path : IsPath text) (expected : IsExpected transfer.tags text) where
  none_passing : (content : List ℕ) → Passes transfer.tags text content → ¬ ((answer : Answer) → ¬ IsDue (Some transfer) text (Whole content) answer)
  none_passing content passes none = elim (held_or_not transfer.items text) [
    | inl held ↦ none Repeated ((path, expected), passes, held)
    | inr away ↦ none Taken ((path, expected), passes, away)
  ]

  none_whole : (content : List ℕ) → ¬ ((answer : Answer) → ¬ IsDue (Some transfer) text (Whole content) answer)
  none_whole content none = elim (decided_at_most (length content) LARGEST_ITEM) [
    | inr long ↦ none (Refused TooLarge) ((path, expected), omega (arith, long))
    | inl within ↦ (
        let fits : ¬ HasOtherLength transfer.tags text content = λ other. none (Refused Length) ((path, expected), (within, other)) in
        let others = none_other transfer.tags text content (λ alg first. none (Refused (Digest alg)) ((path, expected), (within, (fits, first)))) in
        none_passing content (no_misfit_passes transfer.tags text content expected within fits others) none
        )
  ]

  pub none_listed : (content : Content) → content ≢ Unread → ¬ ((answer : Answer) → ¬ IsDue (Some transfer) text content answer)
  none_listed (Whole content) read none = none_whole content none
  none_listed TooLong read none = none (Refused TooLarge) ((path, expected), tt)
  none_listed Unread read none = read refl

path_or_fault : (text : List ℕ) → IsUtf8 text → (result : Option PathFault) → path_fault text ≡ result → (transfer : Transfer) (content : Content) → ((answer : Answer) → ¬ IsDue (Some transfer) text content answer) → IsPath text
path_or_fault text utf8 None e transfer content none = path_if_no_fault text utf8 e
path_or_fault text utf8 (Some fault) e transfer content none = absurd (none (Refused (BadPath fault)) e)

pub some_due : (transfer : Option Transfer) (text : List ℕ) (content : Content) → IsUtf8 text → content ≢ Unread → ¬ ((answer : Answer) → ¬ IsDue transfer text content answer)
some_due None text content utf8 read none = none (Refused NoTransfer) refl
some_due (Some transfer) text content utf8 read none =
    let path = path_or_fault text utf8 (path_fault text) refl transfer content none in
    none (Refused NotListed) (path, λ expected. none_listed transfer text path expected content read none)
