-- What a sink holds after whole files were written to it, one after another.
use Rattle.std.proofs.Common.{◌≡◌, ◌↔◌, ◌∷◌, [], ℕ, true, List, None, refl, sym, subst, inl, inr}
use Rattle.std.specs.List.Sorted.{IsStrictlySortedBy}
use Rattle.bag_rules.specs.Transfers.{with_files}
use Rattle.bag_rules.proofs.Words.{AreRising, Files, Has, HoldsFile, keys_of}
use Rattle.bag_rules.proofs.HasLemmas.{has_at, place_of_has}
use Rattle.bag_rules.proofs.PutFiles.{AreNew, has_with, rising_with}
use Rattle.bag_writer.specs.Sinks.{Stored, nothing_stored, with_payload_dir}
use Rattle.bag_writer.specs.Steps.{with_whole, with_wholes}

pub wholes_files : (files : Files) (stored : Stored) → (with_wholes files stored).bag.files ≡ with_files stored.bag.files files
wholes_files [] stored = refl
wholes_files (file ∷ files) stored = wholes_files files (with_whole stored file)

pub wholes_begun : (files : Files) (stored : Stored) → stored.begun ≡ None → (with_wholes files stored).begun ≡ None
wholes_begun [] stored none = none
wholes_begun (file ∷ files) stored none = wholes_begun files (with_whole stored file) refl

pub wholes_dir : (files : Files) (stored : Stored) → stored.bag.has_payload_dir ≡ true → (with_wholes files stored).bag.has_payload_dir ≡ true
wholes_dir [] stored dir = dir
wholes_dir (file ∷ files) stored dir = wholes_dir files (with_whole stored file) (rw dir refl)

-- the sink that has only its payload directory
abbrev pub opened : Stored
opened = with_payload_dir nothing_stored

-- the sink then holds these files, if no two have the same path
module _ (files : Files) (new : AreNew [] files) where
  pub holds_whole : (path octets : List ℕ) → HoldsFile (with_wholes files opened).bag path octets ↔ Has files (path, octets)
  holds_whole path octets =
      let all = with_wholes files opened in
      let with = has_with [] files (path, octets) new in (
        λ holds. elim (with.0 (subst (λ (fs : Files). Has fs (path, octets)) (wholes_files files opened) (has_at all.bag.files holds.0 (path, octets) holds.1))) [
          | inl none ↦ absurd none
          | inr has ↦ has
        ],
        λ has. place_of_has all.bag.files (path, octets) (subst (λ (fs : Files). Has fs (path, octets)) (sym (wholes_files files opened)) (with.1 (inr has))),
      )

  pub rising_whole : AreRising (keys_of (with_wholes files opened).bag.files)
  unfolding IsStrictlySortedBy
  rising_whole = subst (λ (fs : Files). AreRising (keys_of fs)) (sym (wholes_files files opened)) (rising_with [] files tt)
