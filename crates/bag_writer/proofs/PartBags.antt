-- What a bag says if it has the tag files that are written, and some or all of the payload files.
use Rattle.std.proofs.Common.{◌≡◌, ◌≢◌, ◌⊎◌, ◌∙◌, ℕ, true, false, List, [], ◌∷◌, inl, inr, refl, sym, ap, subst}
use Rattle.bag_path.specs.Paths.{IsPath}
use Rattle.bag_tags.proofs.ExactTexts.{one_list_of_pairs}
use Rattle.bag_tags.proofs.DeclaredVersionLemmas.{begins_with_version}
use Rattle.bag_tags.proofs.NameLemmas.{one_name}
use Rattle.bag_tags.proofs.TextFiles.{one_file}
use Rattle.bag_tags.specs.ManifestWriting.{written_manifest}
use Rattle.bag_tags.specs.Names.{Names}
use Rattle.bag_tags.specs.declared.name.TagName.{TagName}
use Rattle.bag_tags.specs.declared.name.TagName.TheVariants as tag
use Rattle.bag_rules.proofs.DeclaredLemmas.{is_declared}
use Rattle.bag_rules.proofs.HasLemmas.{has_map}
use Rattle.bag_rules.proofs.SameListLemmas.{all_has}
use Rattle.bag_rules.proofs.SameTexts.{plain_text}
use Rattle.bag_rules.proofs.TreeLemmas.{text_of}
use Rattle.bag_rules.proofs.Words.{Alg, AllByRecursion, AreRising, Bag, current, declaration_file, false≢true, FetchList, file_of, Files, Has, has, HoldsFile, Info, is_payload, keys_of, Kind, LineFile, Lists, Manifest, manifest_file, manifest_name, ManifestName, ManifestText, Pair, Payload, Tag, text_file, V1, written_declaration, written_declares}
use Rattle.bag_rules.specs.Bags.{IsDeclared, paths_of, version_in, version_of}
use Rattle.bag_writer.proofs.ListedPairs.{manifest_text, MayBeListed}
use Rattle.bag_writer.proofs.TagCases.{a_manifest, fetch_octets, files_in, has_declaration, has_manifest, listed_tag, tag_case, TagCase, the_declaration, the_fetch, the_info}
use Rattle.bag_writer.proofs.ListedNames.{tags_listed}
use Rattle.bag_writer.proofs.TagNames.{listed_rise}
use Rattle.bag_writer.proofs.TagPaths.{declaration_path, fetch_path, info_path, manifest_path}
use Rattle.bag_writer.specs.FilledBags.{IsPayloadFor, IsPayloadPath}
use Rattle.bag_writer.specs.WrittenBags.{info_file, pairs_by, tag_files}
use Rattle.bag_writer.specs.declared.spec.Spec.{Spec}

-- the bag has each tag file and, apart from these, only payload files
pub record HasTags (spec : Spec) (payload : Files) (bag : Bag) : Type 0 where
  pub rising : AreRising (paths_of bag)
  pub there : (path octets : List ℕ) → Has (tag_files spec payload) (path, octets) → HoldsFile bag path octets
  pub only : (path octets : List ℕ) → HoldsFile bag path octets → Has payload (path, octets) ⊎ Has (tag_files spec payload) (path, octets)

-- NAMES

unfoldable pub manifest_tag : Kind → Alg → TagName
manifest_tag Payload alg = tag.PayloadManifest alg
manifest_tag Tag alg = tag.TagManifest alg

pub manifest_named : (path : List ℕ) (kind : Kind) (alg : Alg) → path ≡ manifest_file kind alg → Names path (manifest_tag kind alg)
unfolding manifest_tag
manifest_named path Payload alg e = e
manifest_named path Tag alg e = e

manifest_not_declaration : (kind : Kind) (alg : Alg) → manifest_tag kind alg ≢ tag.Declaration
unfolding manifest_tag
manifest_not_declaration Payload alg e = cc
manifest_not_declaration Tag alg e = cc

-- the declaration isn't read line by line
pub not_declaration : (path : List ℕ) (file : LineFile) → path ≡ declaration_file → path ≡ text_file file → ⊥
not_declaration path Info e f = let k : tag.Declaration ≡ tag.Info = one_name path tag.Declaration tag.Info e f in cc
not_declaration path FetchList e f = let k : tag.Declaration ≡ tag.FetchList = one_name path tag.Declaration tag.FetchList e f in cc
not_declaration path (Manifest name) e f = manifest_not_declaration name.kind name.alg (one_name path (manifest_tag name.kind name.alg) tag.Declaration (manifest_named path name.kind name.alg f) e)

-- A TAG FILE BY ITS NAME

module _ (spec : Spec) (payload : Files) where
  pub info_case : (path octets : List ℕ) → path ≡ text_file Info → TagCase spec payload path octets → octets ≡ (info_file spec payload).1
  info_case path octets is (the_info p o) = o
  info_case path octets is (the_declaration p o) = absurd (not_declaration path Info p is)
  info_case path octets is (the_fetch p o some) = absurd (let k : FetchList ≡ Info = one_file path FetchList Info p is in cc)
  info_case path octets is (a_manifest kind alg h p o) = absurd (let k : Manifest (manifest_name kind alg) ≡ Info = one_file path (Manifest (manifest_name kind alg)) Info p is in cc)

  pub fetch_case : (path octets : List ℕ) → path ≡ text_file FetchList → TagCase spec payload path octets → (octets ≡ fetch_octets payload spec.holes.items) × (spec.holes.items ≢ [])
  fetch_case path octets is (the_info p o) = absurd (let k : Info ≡ FetchList = one_file path Info FetchList p is in cc)
  fetch_case path octets is (the_declaration p o) = absurd (not_declaration path FetchList p is)
  fetch_case path octets is (the_fetch p o some) = (o, some)
  fetch_case path octets is (a_manifest kind alg h p o) = absurd (let k : Manifest (manifest_name kind alg) ≡ FetchList = one_file path (Manifest (manifest_name kind alg)) FetchList p is in cc)

  -- what a manifest has
  abbrev pub IsManifest : ManifestName → List ℕ → Type 0
  IsManifest name octets = (has spec.algs name.alg ≡ true) × (octets ≡ written_manifest (pairs_by name.alg (files_in spec payload name.kind)))

  one_manifest : (octets : List ℕ) (name other : ManifestName) → Manifest name ≡ Manifest other → IsManifest name octets → IsManifest other octets
  one_manifest octets name other same h = let e : name ≡ other = cc in subst (λ n. IsManifest n octets) e h

  manifest_case : (name : ManifestName) (path octets : List ℕ) → path ≡ file_of name → TagCase spec payload path octets → IsManifest name octets
  manifest_case name path octets is (the_info p o) = absurd (let k : Info ≡ Manifest name = one_file path Info (Manifest name) p is in cc)
  manifest_case name path octets is (the_declaration p o) = absurd (not_declaration path (Manifest name) p is)
  manifest_case name path octets is (the_fetch p o some) = absurd (let k : FetchList ≡ Manifest name = one_file path FetchList (Manifest name) p is in cc)
  manifest_case name path octets is (a_manifest kind alg h p o) = one_manifest octets (manifest_name kind alg) name (one_file path (Manifest (manifest_name kind alg)) (Manifest name) p is) (h, o)

  -- none is a payload file
  pub tag_plain : (path octets : List ℕ) → TagCase spec payload path octets → is_payload path ≡ false
  tag_plain path octets (the_info p o) = ap is_payload p ∙ plain_text Info
  tag_plain path octets (the_declaration p o) = ap is_payload p
  tag_plain path octets (the_fetch p o some) = ap is_payload p ∙ plain_text FetchList
  tag_plain path octets (a_manifest kind alg h p o) = ap is_payload p ∙ plain_text (Manifest (manifest_name kind alg))

  -- each name is a path
  pub tag_path : (path octets : List ℕ) → TagCase spec payload path octets → IsPath path
  tag_path path octets (the_info p o) = subst IsPath (sym p) info_path
  tag_path path octets (the_declaration p o) = subst IsPath (sym p) declaration_path
  tag_path path octets (the_fetch p o some) = subst IsPath (sym p) fetch_path
  tag_path path octets (a_manifest kind alg h p o) = subst IsPath (sym p) (manifest_path kind alg)

-- WHAT IT SAYS

-- in place, by its kind
in_place : (paths : List (List ℕ)) → AllByRecursion IsPayloadPath paths → AllByRecursion (MayBeListed Payload) paths
in_place [] h = tt
in_place (path ∷ paths) h = (h.0, in_place paths h.1)

module _ (spec : Spec) (payload : Files) (fits : IsPayloadFor spec payload) where
  pub payload_path : (path octets : List ℕ) → Has payload (path, octets) → IsPayloadPath path
  payload_path path octets h = all_has IsPayloadPath (keys_of payload) path fits.paths (has_map (λ (file : List ℕ × List ℕ). file.0) payload (path, octets) h)

  pub may_be_listed : (kind : Kind) → AllByRecursion (MayBeListed kind) (keys_of (files_in spec payload kind))
  may_be_listed Payload = in_place (keys_of payload) fits.paths
  may_be_listed Tag = tags_listed spec payload

  rise : (kind : Kind) → AreRising (keys_of (files_in spec payload kind))
  rise Payload = fits.rising
  rise Tag = listed_rise spec payload

  pub text : (kind : Kind) (alg : Alg) → ManifestText V1 alg kind (written_manifest (pairs_by alg (files_in spec payload kind))) (pairs_by alg (files_in spec payload kind))
  text kind alg = manifest_text alg kind (files_in spec payload kind) (may_be_listed kind) (rise kind)

  module _ (bag : Bag) (tags : HasTags spec payload bag) where
    -- a file that isn't payload
    pub other_case : (path octets : List ℕ) → is_payload path ≡ false → HoldsFile bag path octets → TagCase spec payload path octets
    other_case path octets plain holds = elim (tags.only path octets holds) [
      | inl item ↦ absurd (false≢true (sym plain ∙ (payload_path path octets item).1))
      | inr other ↦ tag_case spec payload path octets other
    ]

    -- THE DECLARATION

    pub declaration_there : HoldsFile bag declaration_file written_declaration
    declaration_there = tags.there declaration_file written_declaration (listed_tag spec payload declaration_file written_declaration (has_declaration spec payload))

    pub declared : IsDeclared bag
    declared = is_declared bag current V1 tags.rising (written_declaration, declaration_there, written_declares) refl refl

    pub version_is : version_of bag ≡ V1
    version_is = ap version_in (text_of bag declaration_file written_declaration tags.rising declaration_there) ∙ sym (begins_with_version written_declaration current V1 written_declares refl)

    -- MANIFESTS

    pub manifest_octets : (name : ManifestName) (octets : List ℕ) → HoldsFile bag (file_of name) octets → IsManifest spec payload name octets
    manifest_octets name octets holds = manifest_case spec payload name (file_of name) octets refl (other_case (file_of name) octets (plain_text (Manifest name)) holds)

    pub lists_so : (name : ManifestName) → has spec.algs name.alg ≡ true → Lists bag name (pairs_by name.alg (files_in spec payload name.kind))
    lists_so name h = record {
      octets = written_manifest (pairs_by name.alg (files_in spec payload name.kind));
      there = tags.there (file_of name) (written_manifest (pairs_by name.alg (files_in spec payload name.kind))) (has_manifest spec payload name.kind name.alg h);
      text = subst (λ v. ManifestText v name.alg name.kind (written_manifest (pairs_by name.alg (files_in spec payload name.kind))) (pairs_by name.alg (files_in spec payload name.kind))) (sym version_is) (text name.kind name.alg);
    }

    pub lists_only : (name : ManifestName) (pairs : List Pair) → Lists bag name pairs → (has spec.algs name.alg ≡ true) × (pairs ≡ pairs_by name.alg (files_in spec payload name.kind))
    lists_only name pairs lists =
        let is = manifest_octets name lists.octets lists.there in (
          is.0,
          one_list_of_pairs (version_of bag) name.alg name.kind (written_manifest (pairs_by name.alg (files_in spec payload name.kind))) pairs (pairs_by name.alg (files_in spec payload name.kind))
              (subst (λ o. ManifestText (version_of bag) name.alg name.kind o pairs) is.1 lists.text) (subst (λ v. ManifestText v name.alg name.kind (written_manifest (pairs_by name.alg (files_in spec payload name.kind))) (pairs_by name.alg (files_in spec payload name.kind))) (sym version_is) (text name.kind name.alg)),
        )
