-- What was written is the whole bag, or part of it.
use Rattle.std.proofs.Common.{◌≡◌, ◌∙◌, ◌≤◌, ◌++◌, ◌∷◌, [], ℕ, true, List, Option, Some, None, Result, Ok, Err, MatchResult, length, slice_get, take, drop, refl, sym, ap, subst, inl, inr, arith}
use Rattle.std.specs.List.{AllByRecursion, filter}
use Rattle.std.specs.Option.{option_map}
use Rattle.std.proofs.lemmas.List.{take-append-drop}
use Rattle.std.proofs.lemmas.List.Kept.{IsStrictlySortedBy-filter}
use Rattle.bag_rules.specs.declared.limits.TheConstants.{LARGEST_FILE, LARGEST_TAG_FILE, MOST_LINES}
use Rattle.bag_rules.proofs.Words.{AreRising, Files, HoldsFile, Oxum, Shown, cases_Bool, is_payload, keys_of, length-map, nat_cmp, paths_in, slice_cmp}
use Rattle.bag_rules.proofs.HasLemmas.{has_at}
use Rattle.bag_writer.specs.Sinks.{Begun, Stored, nothing_stored, with_begun, with_octets, with_payload_dir, without_begun}
use Rattle.bag_writer.specs.Steps.{ArePart, AreWhole, HasFrontOf, HasNoFile, HasPayloadAlone, IsWritable, NamesLong, with_wholes, written_payload}
use Rattle.bag_writer.specs.WrittenBags.{IsFileOf, tag_files}
use Rattle.bag_writer.specs.Writing.{HasLongFile, HasPart, HasWhole, IsAccepted, IsDone, IsLarge, IsReadFrom, IsTooLarge, empty_files, oxum_of, payload_paths}
use Rattle.bag_writer.specs.declared.too_large.Large.{Large}
use Rattle.bag_writer.specs.declared.too_large.Large.TheVariants as large
use Rattle.bag_writer.specs.declared.write_fault.WriteFault.{WriteFault}
use Rattle.bag_writer.specs.declared.write_fault.WriteFault.TheVariants.{TooLarge}
use Rattle.bag_writer.specs.declared.spec.Spec.{Spec}
use Rattle.bag_writer.proofs.EmptyBags.{filled_large}
use Rattle.bag_writer.proofs.ReadPayload.{some_payload}
use Rattle.bag_writer.proofs.SinkUses.{payload_alone}
use Rattle.bag_writer.proofs.StepLemmas.{part_after, part_more, whole_on}
use Rattle.bag_writer.proofs.WholeBags.{holds_whole, opened, rising_whole, wholes_begun, wholes_dir}
use Rattle.bag_writer.proofs.WrittenFiles.{all_files, all_new, has_all, take_has, take_new, written_are}

module _ (spec : Spec) (payload : Files) where
  -- nothing is there, or only the payload directory
  pub part_nothing : HasPart spec payload nothing_stored
  part_nothing = record { files = λ path octets holds. absurd (has_at [] holds.0 (path, octets) holds.1); begun = λ file e. absurd (cc) }

  pub part_opened : HasPart spec payload opened
  part_opened = record { files = λ path octets holds. absurd (has_at [] holds.0 (path, octets) holds.1); begun = λ file e. absurd (cc) }

  module _ (rising : AreRising (keys_of payload)) (are : AllByRecursion (λ path. is_payload path ≡ true) (keys_of payload)) where
    abbrev all : Files
    all = all_files spec payload rising are

    pub whole_done : HasWhole spec payload (with_wholes all opened)
    whole_done = record {
      written = record {
        rising = rising_whole all (all_new spec payload rising are);
        has_payload_dir = wholes_dir all opened refl;
        exact = λ path octets. (
          λ holds. (has_all spec payload rising are path octets).0 ((holds_whole all (all_new spec payload rising are) path octets).0 holds),
          λ file. (holds_whole all (all_new spec payload rising are) path octets).1 ((has_all spec payload rising are path octets).1 file),
        );
      };
      none_begun = wholes_begun all opened refl;
    }

    -- what is there after some whole ones
    front_holds : (n : ℕ) (path octets : List ℕ) → HoldsFile (with_wholes (take n all) opened).bag path octets → IsFileOf spec payload path octets
    front_holds n path octets holds = (has_all spec payload rising are path octets).0 (take_has n all (path, octets)
        ((holds_whole (take n all) (take_new n all (all_new spec payload rising are)) path octets).0 holds))

    part_by : (n : ℕ) (next : Option (List ℕ × List ℕ)) (stored : Stored) → slice_get all n ≡ next → HasFrontOf next (Some (with_wholes (take n all) opened)) (Some stored) → HasPart spec payload stored
    part_by n None stored at front = let same : stored ≡ with_wholes (take n all) opened = cc in subst (HasPart spec payload) (sym same) (record {
      files = front_holds n;
      begun = λ file e. (let none = wholes_begun (take n all) opened refl in absurd (cc));
    })
    part_by n (Some file) stored at (inl e) = let same : stored ≡ with_wholes (take n all) opened = cc in subst (HasPart spec payload) (sym same) (record {
      files = front_holds n;
      begun = λ file e. (let none = wholes_begun (take n all) opened refl in absurd (cc));
    })
    part_by n (Some file) stored at (inr (inl (k, e))) =
        let same : stored ≡ with_octets (take k file.1) (with_begun file.0 (with_wholes (take n all) opened)) = cc in
        let is : IsFileOf spec payload file.0 file.1 = (has_all spec payload rising are file.0 file.1).0 (has_at all n file at) in
        subst (HasPart spec payload) (sym same) (record {
          files = front_holds n;
          begun = λ b e.
              let which : record { path = file.0; octets = take k file.1 } ≡ b = cc in
              (drop k file.1, subst (λ (b : Begun). IsFileOf spec payload b.path (b.octets ++ drop k file.1)) which (subst (IsFileOf spec payload file.0) (sym (take-append-drop k file.1)) is));
        })
    part_by n (Some file) stored at (inr (inr e)) = let same : stored ≡ without_begun (with_wholes (take n all) opened) = cc in subst (HasPart spec payload) (sym same) (record {
      files = front_holds n;
      begun = λ file e. absurd (cc);
    })

    known_by : (next : Option (List ℕ × List ℕ)) (mid : Stored) (new : Option Stored) → HasFrontOf next (Some mid) new → (stored : Stored) × (new ≡ Some stored)
    known_by None mid new front = (mid, front)
    known_by (Some file) mid new (inl e) = (mid, e)
    known_by (Some file) mid new (inr (inl (k, e))) = (with_octets (take k file.1) (with_begun file.0 mid), e)
    known_by (Some file) mid new (inr (inr e)) = (without_begun mid, e)

    pub part_done : (new : Option Stored) → ArePart all (Some opened) new → (stored : Stored) × (new ≡ Some stored) × HasPart spec payload stored
    part_done new part =
        let known = known_by (slice_get all part.0) (with_wholes (take part.0 all) opened) new part.1 in
        (known.0, known.1, part_by part.0 (slice_get all part.0) known.0 refl (subst (HasFrontOf (slice_get all part.0) (Some (with_wholes (take part.0 all) opened))) known.1 part.1))

-- THE CALLS ONE AFTER ANOTHER

paths_rise : (shown : Shown) (payload : Files) → AreRising (paths_in shown) → IsReadFrom shown payload → AreRising (keys_of payload)
paths_rise shown payload rising read = subst AreRising (sym read.paths) (IsStrictlySortedBy-filter (slice_cmp nat_cmp) is_payload (paths_in shown) rising)

all_payload : (paths : List (List ℕ)) → AllByRecursion (λ path. is_payload path ≡ true) (filter is_payload paths)
all_payload [] = tt
all_payload (path ∷ paths) = elim (cases_Bool (is_payload path)) [
  | inl is ↦ rw is (is, all_payload paths)
  | inr other ↦ rw other (all_payload paths)
]

paths_are : (shown : Shown) (payload : Files) → IsReadFrom shown payload → AllByRecursion (λ path. is_payload path ≡ true) (keys_of payload)
paths_are shown payload read = subst (AllByRecursion (λ path. is_payload path ≡ true)) (sym read.paths) (all_payload (paths_in shown))

same_number : (shown : Shown) (payload : Files) → IsReadFrom shown payload → length payload ≡ length (payload_paths shown)
same_number shown payload read = sym (length-map payload (λ (file : List ℕ × List ℕ). file.0)) ∙ ap (λ (paths : List (List ℕ)). length paths) read.paths

module _ (shown : Shown) (spec : Spec) where
  -- only payload files are there
  pub written_alone : (payload : Files) → IsReadFrom shown payload → (mid new : Option Stored) → AreWhole (written_payload spec payload) mid new → HasNoFile mid → HasPayloadAlone new
  written_alone payload read mid new whole none = payload_alone (written_payload spec payload) mid new whole (written_are spec payload (paths_are shown payload read)) none

  -- nothing was written
  pub unwritten_done : (known : Option Stored) (fault : WriteFault) → ((what : Large) → fault ≡ TooLarge what → IsLarge spec (empty_files (payload_paths shown)) what)
      → (payload : Files) × IsDone shown spec (Err fault) known known payload
  unwritten_done known fault told = let some = some_payload shown in (
    some.0,
    record {
      read = some.1;
      answers = λ what e. filled_large spec some.0 (payload_paths shown) some.1.paths what (told what e);
      stores = λ nothing. (nothing_stored, nothing, part_nothing spec some.0);
    },
  )

  module _ (rising : AreRising (paths_in shown)) (payload : Files) (read : IsReadFrom shown payload) (old mid : Option Stored) (made : mid ≡ option_map with_payload_dir old) where
    at_first : old ≡ Some nothing_stored → mid ≡ Some opened
    at_first nothing = made ∙ ap (option_map with_payload_dir) nothing

    abbrev all_of : Files
    all_of = all_files spec payload (paths_rise shown payload rising read) (paths_are shown payload read)

    partly : (new : Option Stored) → ArePart all_of mid new → (old ≡ Some nothing_stored) → (stored : Stored) × (new ≡ Some stored) × HasPart spec payload stored
    partly new part nothing = part_done spec payload (paths_rise shown payload rising read) (paths_are shown payload read) new (subst (λ s. ArePart all_of s new) (at_first nothing) part)

    pub payload_failed : (new : Option Stored) (fault : WriteFault) → NamesLong large.File payload LARGEST_FILE fault → ArePart (written_payload spec payload) mid new
        → IsDone shown spec (Err fault) old new payload
    payload_failed new fault long part = record {
      read = read;
      answers = λ what e. let it = long what e in subst (IsLarge spec payload) (sym it.1) it.2;
      stores = partly new (part_more (written_payload spec payload) (tag_files spec payload) mid new part);
    }

    module _ (accepted : IsAccepted (payload_paths shown) spec) (few : length (payload_paths shown) ≤ MOST_LINES) (short : ¬ HasLongFile payload LARGEST_FILE) where
      pub writable : IsWritable spec payload
      writable = record {
        rising = paths_rise shown payload rising read;
        payload_paths = paths_are shown payload read;
        accepted = subst (λ (paths : List (List ℕ)). IsAccepted paths spec) (sym read.paths) accepted;
        few = omega (arith, few, same_number shown payload read);
        short = short;
      }

      none_large : ¬ HasLongFile (tag_files spec payload) LARGEST_TAG_FILE → ¬ IsTooLarge spec payload
      none_large tags (large.Payload, many) = omega (arith, many, writable.few)
      none_large tags (large.File path, long) = short (path, long)
      none_large tags (large.TagFile path, long) = tags (path, long)

      module _ (next new : Option Stored) (whole : AreWhole (written_payload spec payload) mid next) where
        pub tags_done : (result : Result Oxum WriteFault) → MatchResult result
            (λ oxum. (oxum ≡ oxum_of payload) × (¬ HasLongFile (tag_files spec payload) LARGEST_TAG_FILE) × AreWhole (tag_files spec payload) next new)
            (λ fault. NamesLong large.TagFile (tag_files spec payload) LARGEST_TAG_FILE fault × ArePart (tag_files spec payload) next new)
            → IsDone shown spec result old new payload
        tags_done (Ok oxum) told = record {
          read = read;
          answers = (
            told.0,
            none_large told.1,
          );
          stores = λ nothing. (
            with_wholes all_of opened,
            whole_on (written_payload spec payload) (tag_files spec payload) mid next new whole told.2 ∙ ap (option_map (with_wholes all_of)) (at_first nothing),
            whole_done spec payload (paths_rise shown payload rising read) (paths_are shown payload read),
          );
        }
        tags_done (Err fault) told = record {
          read = read;
          answers = λ what e. let it = told.0 what e in subst (IsLarge spec payload) (sym it.1) it.2;
          stores = partly new (part_after (written_payload spec payload) (tag_files spec payload) mid next new whole told.1);
        }
