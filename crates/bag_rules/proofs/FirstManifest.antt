-- Which paths are listed as required, in version 0.97 by some payload manifest.
use Rattle.std.proofs.Common.{◌≡◌, ◌≢◌, ◌⊎◌, ℕ, true, false, List, Contains, refl, sym, subst, inl, inr, ◌∙◌, ap}
use Rattle.bag_path.specs.declared.version.Version.{Version}
use Rattle.bag_path.specs.declared.version.Version.TheVariants.{V1, V097}
use Rattle.bag_rules.proofs.Words.{Alg, AreRising, Bag, bytes_eq, cases_Bool, Decided, decided_as, decided_by, decided_either, Equal, file_of, Greater, is_member-Decides, IsThere, Less, list_any, Lists, lists_path, manifest_file, manifest_name, ManifestName, ManifestText, Md5, nat_cmp, one_list_of_pairs, Pair, paths_in, Payload, Sha1, Sha256, Sha512, shown_of, slice_cmp, bytes_eq-Decides}
use Rattle.bag_rules.specs.Bags.{paths_of, version_of}
use Rattle.bag_rules.specs.Listed.{IsListed, IsUnlisted}
use Rattle.bag_rules.proofs.TreeLemmas.{is_there, one_octets, shows}

-- DECISIONS

pub decided_there : (bag : Bag) (path : List ℕ) → Decided (IsThere bag path)
decided_there bag path =
    let paths = paths_in (shown_of bag) in
    decided_as (Contains paths path) (IsThere bag path) (is_there bag refl path) (shows bag refl path) (decided_by (Contains paths path) (list_any (bytes_eq path) paths) (is_member-Decides bytes_eq-Decides paths path))

-- some algorithm is such, or none is
pub decided_alg : (P : Alg → Type 0) → ((alg : Alg) → Decided (P alg)) → Decided ((alg : Alg) × P alg)
decided_alg P each = decided_as (P Md5 ⊎ (P Sha1 ⊎ (P Sha256 ⊎ P Sha512))) ((alg : Alg) × P alg) to (λ some. from some.0 some.1) (decided_either _ _ (each Md5) (decided_either _ _ (each Sha1) (decided_either _ _ (each Sha256) (each Sha512))))
  where
    to : P Md5 ⊎ (P Sha1 ⊎ (P Sha256 ⊎ P Sha512)) → (alg : Alg) × P alg
    to (inl p) = (Md5, p)
    to (inr (inl p)) = (Sha1, p)
    to (inr (inr (inl p))) = (Sha256, p)
    to (inr (inr (inr p))) = (Sha512, p)

    from : (alg : Alg) → P alg → P Md5 ⊎ (P Sha1 ⊎ (P Sha256 ⊎ P Sha512))
    from Md5 p = inl p
    from Sha1 p = inr (inl p)
    from Sha256 p = inr (inr (inl p))
    from Sha512 p = inr (inr (inr p))

-- THE FIRST MANIFEST

-- if no earlier algorithm has P, the name of no such payload manifest comes before that of this algorithm
abbrev IsFirst : (Alg → Type 0) → Alg → Type 0
IsFirst P alg = (other : Alg) → P other → slice_cmp nat_cmp (manifest_file Payload alg) (manifest_file Payload other) ≢ Greater

pub first_md5 : (P : Alg → Type 0) → IsFirst P Md5
first_md5 P Md5 has = λ e. (let k : Equal ≡ Greater = e in cc)
first_md5 P Sha1 has = λ e. (let k : Less ≡ Greater = e in cc)
first_md5 P Sha256 has = λ e. (let k : Less ≡ Greater = e in cc)
first_md5 P Sha512 has = λ e. (let k : Less ≡ Greater = e in cc)

first_sha1 : (P : Alg → Type 0) → ¬ P Md5 → IsFirst P Sha1
first_sha1 P no_md5 Md5 has = absurd (no_md5 has)
first_sha1 P no_md5 Sha1 has = λ e. (let k : Equal ≡ Greater = e in cc)
first_sha1 P no_md5 Sha256 has = λ e. (let k : Less ≡ Greater = e in cc)
first_sha1 P no_md5 Sha512 has = λ e. (let k : Less ≡ Greater = e in cc)

first_sha256 : (P : Alg → Type 0) → ¬ P Md5 → ¬ P Sha1 → IsFirst P Sha256
first_sha256 P no_md5 no_sha1 Md5 has = absurd (no_md5 has)
first_sha256 P no_md5 no_sha1 Sha1 has = absurd (no_sha1 has)
first_sha256 P no_md5 no_sha1 Sha256 has = λ e. (let k : Equal ≡ Greater = e in cc)
first_sha256 P no_md5 no_sha1 Sha512 has = λ e. (let k : Less ≡ Greater = e in cc)

first_sha512 : (P : Alg → Type 0) → ¬ P Md5 → ¬ P Sha1 → ¬ P Sha256 → IsFirst P Sha512
first_sha512 P no_md5 no_sha1 no_sha256 Md5 has = absurd (no_md5 has)
first_sha512 P no_md5 no_sha1 no_sha256 Sha1 has = absurd (no_sha1 has)
first_sha512 P no_md5 no_sha1 no_sha256 Sha256 has = absurd (no_sha256 has)
first_sha512 P no_md5 no_sha1 no_sha256 Sha512 has = λ e. (let k : Equal ≡ Greater = e in cc)

-- the first algorithm that has P, if one has
pub first_of : (P : Alg → Type 0) → ((alg : Alg) → Decided (P alg)) → ((alg : Alg) × P alg) → (alg : Alg) × (P alg × IsFirst P alg)
first_of P each some = elim (each Md5) [
  | inl has ↦ (Md5, (has, first_md5 P))
  | inr no_md5 ↦ elim (each Sha1) [
    | inl has ↦ (Sha1, (has, first_sha1 P no_md5))
    | inr no_sha1 ↦ elim (each Sha256) [
      | inl has ↦ (Sha256, (has, first_sha256 P no_md5 no_sha1))
      | inr no_sha256 ↦ elim (each Sha512) [
        | inl has ↦ (Sha512, (has, first_sha512 P no_md5 no_sha1 no_sha256))
        | inr no_sha512 ↦ absurd (none no_md5 no_sha1 no_sha256 no_sha512 some.0 some.1)
      ]
    ]
  ]
]
  where
    none : ¬ P Md5 → ¬ P Sha1 → ¬ P Sha256 → ¬ P Sha512 → (alg : Alg) → ¬ P alg
    none a b c d Md5 has = a has
    none a b c d Sha1 has = b has
    none a b c d Sha256 has = c has
    none a b c d Sha512 has = d has

-- LISTED PATHS

module _ (bag : Bag) (rising : AreRising (paths_of bag)) (reads : (name : ManifestName) → IsThere bag (file_of name) → (pairs : List Pair) × Lists bag name pairs) (some : (alg : Alg) × IsThere bag (manifest_file Payload alg)) where
  abbrev Reads : Alg → Type 0
  Reads alg = (pairs : List Pair) × Lists bag (manifest_name Payload alg) pairs

  decided_reads : (alg : Alg) → Decided (Reads alg)
  decided_reads alg = elim (decided_there bag (manifest_file Payload alg)) [
    | inl there ↦ inl (reads (manifest_name Payload alg) there)
    | inr absent ↦ inr (λ h. absent (h.1.octets, h.1.there))
  ]

  one_pairs : (alg : Alg) (a b : List Pair) → Lists bag (manifest_name Payload alg) a → Lists bag (manifest_name Payload alg) b → a ≡ b
  one_pairs alg a b l m = one_list_of_pairs (version_of bag) alg Payload m.octets a b (subst (λ o. ManifestText (version_of bag) alg Payload o a) (one_octets bag (manifest_file Payload alg) l.octets m.octets rising l.there m.there) l.text) m.text

  abbrev ListsIt : List ℕ → Alg → Type 0
  ListsIt path alg = (pairs : List Pair) × Lists bag (manifest_name Payload alg) pairs × (lists_path pairs path ≡ true)

  decided_lists : (path : List ℕ) (alg : Alg) → Decided (ListsIt path alg)
  decided_lists path alg = elim (decided_reads alg) [
    | inr unread ↦ inr (λ h. unread (h.0, h.1))
    | inl r ↦ elim (cases_Bool (lists_path r.0 path)) [
      | inl lists ↦ inl (r.0, r.1, lists)
      | inr other ↦ inr (λ h. (let k : true ≡ false = sym h.2 ∙ ap (λ ps. lists_path ps path) (one_pairs alg h.0 r.0 h.1 r.1) ∙ other in cc))
    ]
  ]

  -- a path is listed if no manifest is reported for it
  pub listed_unless : (version : Version) (path : List ℕ) → ((alg : Alg) → ¬ IsUnlisted version bag alg path) → IsListed version bag path
  listed_unless V1 path none = λ alg pairs lists. elim (cases_Bool (lists_path pairs path)) [ inl lists_it ↦ lists_it | inr other ↦ absurd (none alg (pairs, lists, other)) ]
  listed_unless V097 path none = elim (decided_alg (ListsIt path) (decided_lists path)) [
    | inl h ↦ (h.0, h.1.0, h.1.1, h.1.2)
    | inr unlisted ↦ (
        let first = first_of Reads decided_reads (some.0, reads (manifest_name Payload some.0) some.1) in
        absurd (none first.0 (record { there = first.1.0; first = λ other pairs lists. first.1.1 other (pairs, lists) }, λ h. unlisted (h.0, (h.1, h.2, h.3))))
        )
  ]
