-- A path has one meaning.
use Rattle.std.proofs.Common.{◌≡◌, ◌⊎◌, false, ℕ, List, ◌++◌, codes, refl, sym, ap, ◌∙◌, inl, inr, ◌≢◌, ◌-◌, [], length, take, drop, subst, arith, length-append}
use Rattle.std.specs.Str.{bytes_eq}
use Rattle.std.proofs.lemmas.Slice.Eq.{bytes_eq-Decides}
use Rattle.std.proofs.lemmas.List.{append_cancel_left, append_cancel_right}
use Rattle.bag_digest.specs.declared.algorithm.Alg.{Alg}
use Rattle.bag_digest.specs.declared.algorithm.Alg.TheVariants.{Md5, Sha1, Sha256, Sha512}
use Rattle.bag_digest.specs.Algorithm.{name_of}
use Rattle.bag_tags.specs.declared.name.TagName.{TagName}
use Rattle.bag_tags.specs.declared.name.TagName.TheVariants.{Declaration, PayloadManifest, TagManifest, UnknownManifest, Info, FetchList, Other}
use Rattle.bag_tags.specs.Names.{payload_manifest, tag_manifest, IsUnknownManifest, IsReserved, Names, IsWordOctet, IsWord, NamesTagManifest}
use Rattle.std.proofs.Math.Seq.{take-append_seam}
use Rattle.std.specs.Char.{IsAsciiAlphanumeric}
use Rattle.std.specs.List.{AllByRecursion}
use Rattle.bag_tags.proofs.DecisionLemmas.{Decided, decided_by, decided_as, decided_both, decided_either, decided_all, decided_some, decided_equal, decided_letter_or_digit}

-- a path is not two texts that differ
pub apart : (path a b : List ℕ) → path ≡ a → path ≡ b → bytes_eq a b ≡ false → ⊥
apart path a b h e differ = let same = (bytes_eq-Decides a b).1 (sym h ∙ e) in cc

one_alg : (a b : Alg) → name_of a ≡ name_of b → a ≡ b
one_alg Md5 Md5 h = refl
one_alg Sha1 Sha1 h = refl
one_alg Sha256 Sha256 h = refl
one_alg Sha512 Sha512 h = refl
one_alg a b h = absurd (apart (name_of a) (name_of a) (name_of b) refl h refl)

pub payload_word : (path a b : List ℕ) → path ≡ payload_manifest a → path ≡ payload_manifest b → a ≡ b
payload_word path a b h k = append_cancel_left (codes "manifest-") a b (append_cancel_right (codes "manifest-" ++ a) (codes "manifest-" ++ b) (codes ".txt") (sym h ∙ k))

pub tag_word : (path a b : List ℕ) → path ≡ tag_manifest a → path ≡ tag_manifest b → a ≡ b
tag_word path a b h k = append_cancel_left (codes "tagmanifest-") a b (append_cancel_right (codes "tagmanifest-" ++ a) (codes "tagmanifest-" ++ b) (codes ".txt") (sym h ∙ k))

pub payload_or_tag : (path a b : List ℕ) → path ≡ payload_manifest a → path ≡ tag_manifest b → ⊥
payload_or_tag path a b h k = apart path _ _ h k refl

-- the name of an unknown algorithm isn't that of a known one
pub payload_known : (path : List ℕ) (alg : Alg) (word : List ℕ) → IsUnknownManifest path word → path ≡ payload_manifest (name_of alg) → ⊥
payload_known path alg word u k = elim u.form [ inl e ↦ u.unknown alg (payload_word path _ _ e k) | inr e ↦ payload_or_tag path _ _ k e ]

pub tag_known : (path : List ℕ) (alg : Alg) (word : List ℕ) → IsUnknownManifest path word → path ≡ tag_manifest (name_of alg) → ⊥
tag_known path alg word u k = elim u.form [ inl e ↦ payload_or_tag path _ _ e k | inr e ↦ u.unknown alg (tag_word path _ _ e k) ]

-- an unknown algorithm has one name
pub one_word : (path a b : List ℕ) → IsUnknownManifest path a → IsUnknownManifest path b → a ≡ b
one_word path a b h k = elim h.form [
  | inl e ↦ elim k.form [ inl f ↦ payload_word path a b e f | inr f ↦ absurd (payload_or_tag path a b e f) ]
  | inr e ↦ elim k.form [ inl f ↦ absurd (payload_or_tag path b a f e) | inr f ↦ tag_word path a b e f ]
]

one_reserved : (path : List ℕ) (a b : TagName) → IsReserved path a → IsReserved path b → a ≡ b
one_reserved path Other b h k = absurd h
one_reserved path a Other h k = absurd k
one_reserved path (PayloadManifest a) (PayloadManifest b) h k = ap (λ alg. PayloadManifest alg) (one_alg a b (payload_word path _ _ h k))
one_reserved path (TagManifest a) (TagManifest b) h k = ap (λ alg. TagManifest alg) (one_alg a b (tag_word path _ _ h k))
one_reserved path UnknownManifest UnknownManifest h k = refl
one_reserved path (PayloadManifest a) UnknownManifest h k = absurd (payload_known path a k.0 k.1 h)
one_reserved path (TagManifest a) UnknownManifest h k = absurd (tag_known path a k.0 k.1 h)
one_reserved path UnknownManifest (PayloadManifest b) h k = absurd (payload_known path b h.0 h.1 k)
one_reserved path UnknownManifest (TagManifest b) h k = absurd (tag_known path b h.0 h.1 k)
one_reserved path a UnknownManifest h k = absurd (elim k.1.form [ inl e ↦ apart path _ _ h e refl | inr e ↦ apart path _ _ h e refl ])
one_reserved path UnknownManifest b h k = absurd (elim h.1.form [ inl e ↦ apart path _ _ e k refl | inr e ↦ apart path _ _ e k refl ])
one_reserved path Declaration Declaration h k = refl
one_reserved path Info Info h k = refl
one_reserved path FetchList FetchList h k = refl
one_reserved path a b h k = absurd (apart path _ _ h k refl)

-- what a path names is reserved, or it is `Other`
reserved : (path : List ℕ) (name : TagName) → Names path name → IsReserved path name ⊎ ((name ≡ Other) × ((other : TagName) → IsReserved path other → ⊥))
reserved path Declaration h = inl h
reserved path (PayloadManifest alg) h = inl h
reserved path (TagManifest alg) h = inl h
reserved path UnknownManifest h = inl h
reserved path Info h = inl h
reserved path FetchList h = inl h
reserved path Other h = inr (refl, h)

-- a path names at most one thing
pub one_name : (path : List ℕ) (a b : TagName) → Names path a → Names path b → a ≡ b
one_name path a b h k = elim (reserved path a h) [
  | inl r ↦ elim (reserved path b k) [ inl s ↦ one_reserved path a b r s | inr s ↦ absurd (s.1 a r) ]
  | inr r ↦ elim (reserved path b k) [ inl s ↦ absurd (r.1 b s) | inr s ↦ r.0 ∙ sym s.0 ]
]

-- a path names a tag manifest, or does not
decided_word_octet : (octet : ℕ) → Decided (IsWordOctet octet)
decided_word_octet octet = decided_either (IsAsciiAlphanumeric octet) (octet ≡ 95) (decided_letter_or_digit octet) (decided_equal octet 95)

decided_word : (word : List ℕ) → Decided (IsWord word)
decided_word word = decided_both (word ≢ []) (AllByRecursion IsWordOctet word) (decided_some word) (decided_all IsWordOctet decided_word_octet word)

-- what is between `tagmanifest-` and `.txt`, if the path has both
abbrev between : List ℕ → List ℕ
between path = take (length path - 16) (drop 12 path)

between_word : (word : List ℕ) → between (tag_manifest word) ≡ word
between_word word =
    let long : length (tag_manifest word) - 16 ≡ length word = omega (arith, length-append word (codes ".txt")) in
    ap (λ n. take n (drop 12 (tag_manifest word))) long ∙ take-append_seam word (codes ".txt")

pub decided_tag_manifest : (path : List ℕ) → Decided (NamesTagManifest path)
decided_tag_manifest path =
    let word = between path in
    decided_as (IsWord word × (path ≡ tag_manifest word)) (NamesTagManifest path)
    (λ h. (word, h.0, h.1))
    (λ h. let same : between path ≡ h.0 = ap between h.2 ∙ between_word h.0 in
    (subst IsWord (sym same) h.1, h.2 ∙ ap tag_manifest (sym same)))
    (decided_both (IsWord word) (path ≡ tag_manifest word) (decided_word word) (decided_by (path ≡ tag_manifest word) (bytes_eq path (tag_manifest word)) (bytes_eq-Decides path (tag_manifest word))))
