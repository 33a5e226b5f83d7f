-- A tree in memory after a file was inserted.
use Rattle.std.proofs.Common.{◌≡◌, ℕ, ◌+◌, ◌≤◌, ◌||◌, true, cond, List, Option, Some, All, length, refl, sym, ap, subst, ◌∙◌, arith, nat_le, ◌<◌, None}
use Rattle.std.proofs.lemmas.Bool.{cond_both}
use Rattle.std.proofs.lemmas.Map.{lookup-insert, none_passes_from_lookup}
use Rattle.bag_rules.specs.Memory.{FindsAlso}
use Rattle.bag_rules.proofs.Words.{All-weaker, AreRising, bytes_eq, bytes_eq-Decides, cond-false, cond-true, false_from_ne_true, File, ForSome, insert, Inside, is_payload, IsGapFor, IsSoundTree, keys_of, length-insert, lookup, moved_up, nat_list_eq_equiv, octets_at, option_map, or_left, or_right, Reading, rest_of, same_Some, files_of, view_of, with_file}
use Rattle.bag_rules.specs.Files.{paths_of}
use Rattle.bag_rules.proofs.MemoryFiles.{All-insert, lookup_in_gap, map-insert, put_in_gap, rising_put}
use Rattle.bag_rules.proofs.FilesShown.{length_shown, shown_insert}
use Rattle.bag_rules.proofs.MemoryShown.{rest_moved}

-- the same fields except for one more file
pub record HasAdded (old new : Inside) (place : ℕ) (file : File) : Type 0 where
  pub gap : IsGapFor (paths_of old.files.items) file.path place
  pub files : new.files.items ≡ insert old.files.items place file
  pub has_payload_dir : new.has_payload_dir ≡ (old.has_payload_dir || is_payload file.path)
  pub reading : new.reading ≡ option_map (moved_up place) old.reading
  pub failures : new.failures ≡ old.failures

moved_within : (place n : ℕ) (reading : Option Reading) → ForSome reading (λ r. r.place < n) → ForSome (option_map (moved_up place) reading) (λ r. r.place < n + 1)
moved_within place n None within r here = cc
moved_within place n (Some old) within r here =
    let there : old.place < n = within old refl in
    let same : moved_up place old ≡ r = same_Some (moved_up place old) r here in
    subst (λ (q : Reading). q.place < n + 1) same (cond_both (nat_le place old.place) (old.place + 1) old.place (λ k. k < n + 1) (λ e. omega (arith, there)) (λ e. omega (arith, there)))

module _ (old new : Inside) (place : ℕ) (file : File) (sound : IsSoundTree old) (added : HasAdded old new place file) where
  files_are : files_of new.files.items ≡ insert (files_of old.files.items) place (file.path, file.body.items)
  files_are = ap files_of added.files ∙ shown_insert old.files.items place file

  paths_are : paths_of new.files.items ≡ insert (paths_of old.files.items) place file.path
  paths_are = ap keys_of files_are ∙ map-insert (λ (f : List ℕ × List ℕ). f.0) (files_of old.files.items) place (file.path, file.body.items)

  within : place ≤ length old.files.items
  within = omega (arith, added.gap.within, length_shown old.files.items)

  rest_is : rest_of new.files.items new.reading ≡ rest_of old.files.items old.reading
  rest_is =
      (λ t. rest_of (added.files t) (added.reading t))
      ∙ rest_moved old.files.items place file within old.reading sound.reading

  pub view_added : view_of new ≡ with_file (view_of old) file.path file.body.items
  view_added = λ t. record {
    files = (files_are ∙ put_in_gap file.path file.body.items (files_of old.files.items) place added.gap) t;
    has_payload_dir = added.has_payload_dir t;
    started = rest_is t;
    failures = added.failures t;
  }

  payload_is : All (λ path. is_payload path ≡ true → new.has_payload_dir ≡ true) (paths_of new.files.items)
  payload_is = subst (All (λ path. is_payload path ≡ true → new.has_payload_dir ≡ true)) (sym paths_are) (
      All-insert (λ path. is_payload path ≡ true → new.has_payload_dir ≡ true) (paths_of old.files.items) place file.path
      (All-weaker (λ path. is_payload path ≡ true → old.has_payload_dir ≡ true) (λ path. is_payload path ≡ true → new.has_payload_dir ≡ true) (λ path before h. added.has_payload_dir ∙ or_left old.has_payload_dir (is_payload file.path) (before h)) (paths_of old.files.items) sound.payload)
      (λ h. added.has_payload_dir ∙ or_right old.has_payload_dir (is_payload file.path) h)
      )

  reading_is : ForSome new.reading (λ r. r.place < length new.files.items)
  reading_is =
      let longer : length new.files.items ≡ length old.files.items + 1 = ap length added.files ∙ length-insert old.files.items place file within in
      subst (λ n. ForSome new.reading (λ r. r.place < n)) (sym longer)
      (subst (λ reading. ForSome reading (λ r. r.place < length old.files.items + 1)) (sym added.reading) (moved_within place (length old.files.items) old.reading sound.reading))

  pub sound_added : IsSoundTree new
  sound_added = record {
    rising = subst AreRising (sym paths_are) (rising_put file.path (paths_of old.files.items) place added.gap sound.rising);
    payload = payload_is;
    reading = reading_is;
  }

  -- what a look-up finds
  lookup_is : (path : List ℕ) → octets_at (view_of new) path ≡ cond (bytes_eq file.path path) (Some file.body.items) (octets_at (view_of old) path)
  lookup_is path =
      let none = none_passes_from_lookup (bytes_eq file.path) (files_of old.files.items) (lookup_in_gap file.path (files_of old.files.items) place sound.rising added.gap) in
      ap (lookup (bytes_eq path)) files_are
      ∙ lookup-insert nat_list_eq_equiv file.path file.body.items path (files_of old.files.items) place none

  pub finds_added : FindsAlso (view_of old) (view_of new) file.path file.body.items
  finds_added = record {
    here = lookup_is file.path ∙ cond-true (bytes_eq file.path file.path) _ _ ((bytes_eq-Decides file.path file.path).1 refl);
    others = λ other apart. lookup_is other ∙ cond-false (bytes_eq file.path other) _ _ (false_from_ne_true _ (λ e. apart (sym ((bytes_eq-Decides file.path other).0 e))));
  }
