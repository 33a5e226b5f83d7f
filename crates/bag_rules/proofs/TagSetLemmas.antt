-- The tag files of a transfer after one was inserted, and why one is refused.
use Rattle.std.proofs.Common.{◌≡◌, ◌≢◌, ℕ, ◌≤◌, Contains, List, length, refl, sym, ap, subst, ◌∙◌, arith}
use Rattle.std.proofs.lemmas.List.Elements.{All-from_recursion, recursion_from_All}
use Rattle.bag_path.proofs.PathLemmas.{no_fault_if_path}
use Rattle.bag_rules.specs.declared.limits.TheConstants.{LARGEST_TAG_FILE}
use Rattle.bag_rules.specs.declared.tag_set.TagSetFault.{TagSetFault}
use Rattle.bag_rules.specs.declared.tag_set.TagSetFault.TheVariants.{BadPath, Payload, Twice, TooLarge, Memory}
use Rattle.bag_rules.specs.Files.{IsTagFile, IsTagPath, paths_of}
use Rattle.bag_rules.specs.TagSets.{RefusesFile}
use Rattle.bag_rules.proofs.Words.{AreRising, AreTagFiles, File, Files, files_of, insert, insert_entry, IsGapFor, keys_of, nat_cmp, slice_cmp}
use Rattle.bag_rules.proofs.MemoryFiles.{All-insert, map-insert, put_in_gap, rising_put}
use Rattle.bag_rules.proofs.FilesShown.{shown_insert}

module _ (files new : List File) (place : ℕ) (file : File) (gap : IsGapFor (paths_of files) file.path place) (put : new ≡ insert files place file) where
  inserted : files_of new ≡ insert (files_of files) place (file.path, file.body.items)
  inserted = ap files_of put ∙ shown_insert files place file

  -- it was inserted at its place
  pub files_put : files_of new ≡ insert_entry (slice_cmp nat_cmp) (files_of files) file.path file.body.items
  files_put = inserted ∙ put_in_gap file.path file.body.items (files_of files) place gap

  -- they are still tag files
  pub tags_put : AreTagFiles (files_of files) → IsTagFile (file.path, file.body.items) → AreTagFiles (files_of new)
  tags_put tags is = subst AreTagFiles (sym inserted) (record {
    rising = subst AreRising (sym (map-insert (λ (f : List ℕ × List ℕ). f.0) (files_of files) place (file.path, file.body.items))) (rising_put file.path (paths_of files) place gap tags.rising);
    each = recursion_from_All IsTagFile (insert (files_of files) place (file.path, file.body.items)) (All-insert IsTagFile (files_of files) place (file.path, file.body.items) (All-from_recursion IsTagFile (files_of files) tags.each) is);
  })

-- a new tag file is refused only if memory runs out
pub not_refused : (files : Files) (path octets : List ℕ) → IsTagPath path → ¬ Contains (keys_of files) path → length octets ≤ LARGEST_TAG_FILE → (fault : TagSetFault) → fault ≢ Memory → ¬ RefusesFile files path octets fault
not_refused files path octets is absent within (BadPath fault) other refused = let none = no_fault_if_path path is.0 in cc
not_refused files path octets is absent within Payload other refused = cc
not_refused files path octets is absent within Twice other refused = absent refused.1
not_refused files path octets is absent within TooLarge other refused = absurd (omega arith)
not_refused files path octets is absent within Memory other refused = other refl
