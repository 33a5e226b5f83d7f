-- The bag of a transfer, as files that were written in sequence.
use Rattle.std.proofs.Common.{◌≡◌, ◌+◌, ◌++◌, ◌∷◌, [], ℕ, true, false, List, Option, Some, None, Result, Ok, Err, MatchResult, drop, length, slice_get, take, refl, sym, ap, subst, ◌∙◌, inl, inr, arith}
use Rattle.std.proofs.lemmas.List.{take-append-drop}
use Rattle.std.proofs.lemmas.List.Sums.{fold-append}
use Rattle.bag_rules.proofs.HasLemmas.{has_at, has_from_contains, place_of_has, has_both}
use Rattle.bag_rules.proofs.HeldBags.{holds_item, holds_tag}
use Rattle.bag_rules.proofs.InPlace.{expected_payload}
use Rattle.bag_rules.proofs.PutFiles.{AreNew, by_path, rising_new}
use Rattle.bag_rules.proofs.SameListLemmas.{all_has}
use Rattle.bag_rules.proofs.Words.{false≢true, HoldsFile, is_payload}
use Rattle.bag_rules.specs.declared.plan.ItemSize.{ItemSize}
use Rattle.bag_rules.specs.declared.file.File.{File as FileOf}
use Rattle.bag_rules.specs.Files.{files_of, IsTagFile}
use Rattle.bag_rules.specs.Plans.{sizes_of}
use Rattle.bag_rules.specs.Transfers.{held_bag}
use Rattle.bag_ledger.specs.Ledgers.{IsSound, IsSoundTransfer}
use Rattle.bag_writer.proofs.SinkUses.{no_file_yet}
use Rattle.bag_writer.proofs.StepLemmas.{free_at_first, free_still, part_after, part_more, whole_on}
use Rattle.bag_writer.proofs.TagSteps.{one_whole, step}
use Rattle.bag_writer.proofs.WholeBags.{holds_whole, opened, wholes_begun, wholes_dir, wholes_files}
use Rattle.bag_writer.proofs.WrittenFiles.{take_has, take_new}
use Rattle.bag_writer.specs.Sinks.{Begun, IsEmptySink, IsFree, nothing_stored, Stored, with_begun, with_octets, without_begun}
use Rattle.bag_writer.specs.Steps.{ArePart, AreWhole, HasFrontOf, with_wholes}
use Rattle.bag_writer.specs.TagWriting.{AreFree}
use Rattle.bag_receiver.specs.declared.export.ExportFault.{ExportFault}
use Rattle.bag_receiver.specs.declared.export.ExportFault.TheVariants as fault
use Rattle.bag_receiver.specs.Exports.{Becomes, Exports, HasPart, IsFileOf}
use Rattle.bag_receiver.specs.ExportsInside.{from_opened, HasItems, IsMetWriting, IsPartOf}
use Rattle.bag_receiver.proofs.ExportLemmas.{of_some}
use Rattle.bag_receiver.proofs.Words.{Files, Has, insert_entry, IsNamed, IsTransferName, items_of, keys_of, Ledger, length-map, nat_cmp, option_map, Reads, slice_cmp, tags_of, Transfer, transfer_of, unwrap_or, with_files}

abbrev File : Type 0
File = List ℕ × List ℕ

-- TAG FILES, AND THEN PAYLOAD FILES

module _ (tags items : Files) where
  pub tags_part : (old mid new : Option Stored) → mid ≡ from_opened old → ArePart tags mid new → IsPartOf (tags ++ items) old new
  tags_part old mid new made part = inr (subst (λ s. ArePart (tags ++ items) s new) made (part_more tags items mid new part))

  pub bag_told : (old mid late new : Option Stored) (result : Result Unit ExportFault) → mid ≡ from_opened old → AreWhole tags mid late
      → MatchResult result (λ _. AreWhole items late new) (λ _. ArePart items late new)
      → MatchResult result (λ _. AreWhole (tags ++ items) (from_opened old) new) (λ _. IsPartOf (tags ++ items) old new)
  bag_told old mid late new (Ok done) made whole told = subst (λ s. AreWhole (tags ++ items) s new) made (whole_on tags items mid late new whole told)
  bag_told old mid late new (Err fault) made whole told = inr (subst (λ s. ArePart (tags ++ items) s new) made (part_after tags items mid late new whole told))

-- each of the files is free when its turn comes
free_each : (files : Files) (known : Option Stored) → AreNew [] files → ((path octets : List ℕ) → Has files (path, octets) → IsFree known path) → AreFree known files
free_each [] known new free = tt
free_each (file ∷ files) known new free = (
  free file.0 file.1 (inl refl),
  free_each files (step file known) new.2
      (λ path octets has. free_still (file ∷ []) path known (step file known) (free path octets (inr has))
      (λ found. elim (has_from_contains (keys_of (file ∷ [])) path found) [
        | inl same ↦ new.1 octets (subst (λ p. Has files (p, octets)) (sym same) has)
        | inr none ↦ absurd none
      ])
      (one_whole file known)),
)

pub free_all : (files : Files) (old : Option Stored) → AreNew [] files → IsEmptySink old → AreFree (from_opened old) files
free_all files old new empty = free_each files (from_opened old) new (λ path octets has. free_at_first (from_opened old) path (no_file_yet old (from_opened old) refl empty))

-- no file has the path of another
join_new : (tags items : Files) → AreNew [] tags → ((path octets : List ℕ) → Has tags (path, octets) → is_payload path ≡ false) → ((path octets : List ℕ) → Has items (path, octets) → is_payload path ≡ true)
    → AreNew [] items → AreNew [] (tags ++ items)
join_new [] items new plain payload others = others
join_new (tag ∷ tags) items new plain payload others = (
  λ octets none. none,
  λ octets has. elim ((has_both tags items (tag.0, octets)).0 has) [
    | inl left ↦ new.1 octets left
    | inr right ↦ false≢true (sym (plain tag.0 tag.1 (inl refl)) ∙ payload tag.0 octets right)
  ],
  join_new tags items new.2 (λ path octets has. plain path octets (inr has)) payload others,
)

-- THE ANSWER

by_fault : (ledger : Ledger) (name : List ℕ) (old new : Option Stored) (fault : ExportFault) → IsMetWriting fault → Becomes (HasPart ledger name) old new → Exports ledger name (Err fault) old new
by_fault ledger name old new fault.NoTransfer met part = absurd met
by_fault ledger name old new fault.Sink met part = part
by_fault ledger name old new (fault.Keeper keep) met part = part

pub exported_nothing : (ledger : Ledger) (name : List ℕ) (known : Option Stored) (fault : ExportFault) → IsMetWriting fault → Exports ledger name (Err fault) known known
exported_nothing ledger name known fault met = by_fault ledger name known known fault met (λ nothing. (
  nothing_stored,
  nothing,
  record { files = λ path octets holds. absurd (has_at [] holds.0 (path, octets) holds.1); begun = λ file e. absurd (cc) },
))

pub counted : (files : List FileOf) (tags : Files) (sizes : List ItemSize) (transfer : Transfer) (n : ℕ) → files_of files ≡ tags → transfer.tags ≡ tags → n ≡ length sizes → sizes ≡ sizes_of transfer.items
    → length files + n ≡ length transfer.tags + length transfer.items
counted files tags sizes transfer n same are number sized =
    let some = length-map {B = File} files (λ (file : FileOf). (file.path, file.body.items)) in
    let more = length-map {B = ItemSize} transfer.items (λ (file : File). record { path = file.0; octets = length file.1 }) in
    let first = ap length same in
    let then = ap length sized in
    let last = ap length are in
    omega (arith, some, more, first, then, last, number)

module _ (ledger : Ledger) (name : List ℕ) (transfer : Transfer) (named : IsNamed ledger name (Some transfer)) (sound : IsSoundTransfer transfer) where
  abbrev all : Files
  all = transfer.tags ++ transfer.items

  plain : (path octets : List ℕ) → Has transfer.tags (path, octets) → is_payload path ≡ false
  plain path octets has = (all_has IsTagFile transfer.tags (path, octets) sound.tag_files.each has).0.1

  payload : (path octets : List ℕ) → Has transfer.items (path, octets) → is_payload path ≡ true
  payload path octets has = expected_payload transfer.tags path (sound.held.passing path octets has).expected

  pub all_new : AreNew [] all
  all_new = join_new transfer.tags transfer.items (rising_new transfer.tags sound.tag_files.rising) plain payload (rising_new transfer.items sound.held.rising)

  whole_bag : (with_wholes all opened).bag ≡ held_bag transfer.tags transfer.items
  whole_bag =
      let files : (with_wholes all opened).bag.files ≡ with_files transfer.tags transfer.items =
      wholes_files all opened
      ∙ fold-append (λ (fs : Files) (file : File). insert_entry (slice_cmp nat_cmp) fs file.0 file.1) [] transfer.tags transfer.items
      ∙ ap (λ fs. with_files fs transfer.items) (by_path transfer.tags sound.tag_files.rising) in
      let dir : (with_wholes all opened).bag.has_payload_dir ≡ true = wholes_dir all opened refl in
      (λ t. record { files = files t; has_payload_dir = dir t })

  pub exported_whole : (count : ℕ) (old new : Option Stored) → count ≡ length transfer.tags + length transfer.items → AreWhole all (from_opened old) new → Exports ledger name (Ok count) old new
  exported_whole count old new counted whole = (
    transfer,
    named,
    counted,
    λ nothing. (
      with_wholes all opened,
      whole ∙ ap (λ s. option_map (with_wholes all) (from_opened s)) nothing,
      record { bag = whole_bag; none_begun = wholes_begun all opened refl },
    ),
  )

  -- PART OF IT

  is_file : (path octets : List ℕ) → Has all (path, octets) → IsFileOf ledger name path octets
  is_file path octets has = (
    transfer,
    named,
    elim ((has_both transfer.tags transfer.items (path, octets)).0 has) [
      | inl tag ↦ holds_tag transfer.tags transfer.items sound.tag_files sound.held path octets (place_of_has transfer.tags (path, octets) tag)
      | inr item ↦ holds_item transfer.tags transfer.items sound.tag_files sound.held path octets item
    ],
  )

  abbrev front : ℕ → Stored
  front n = with_wholes (take n all) opened

  front_holds : (n : ℕ) (path octets : List ℕ) → HoldsFile (front n).bag path octets → IsFileOf ledger name path octets
  front_holds n path octets holds = is_file path octets (take_has n all (path, octets) ((holds_whole (take n all) (take_new n all all_new) path octets).0 holds))

  front_part : (n : ℕ) → HasPart ledger name (front n)
  front_part n = record { files = front_holds n; begun = λ file e. (let none = wholes_begun (take n all) opened refl in absurd (cc)) }

  part_by : (n : ℕ) (next : Option File) (new : Option Stored) → slice_get all n ≡ next → HasFrontOf next (Some (front n)) new → (stored : Stored) × (new ≡ Some stored) × HasPart ledger name stored
  part_by n None new at same = (front n, same, front_part n)
  part_by n (Some file) new at (inl same) = (front n, same, front_part n)
  part_by n (Some file) new at (inr (inl (k, same))) = (
    with_octets (take k file.1) (with_begun file.0 (front n)),
    same,
    record {
      files = front_holds n;
      begun = λ b e.
          let which : record { path = file.0; octets = take k file.1 } ≡ b = cc in
          let is = subst (IsFileOf ledger name file.0) (sym (take-append-drop k file.1)) (is_file file.0 file.1 (has_at all n file at)) in
          (drop k file.1, subst (λ (b : Begun). IsFileOf ledger name b.path (b.octets ++ drop k file.1)) which is);
    },
  )
  part_by n (Some file) new at (inr (inr same)) = (without_begun (front n), same, record { files = front_holds n; begun = λ file e. absurd (cc) })

  pub exported_part : (fault : ExportFault) (old new : Option Stored) → IsMetWriting fault → IsPartOf all old new → Exports ledger name (Err fault) old new
  exported_part fault old new met (inl same) = subst (λ s. Exports ledger name (Err fault) old s) (sym same) (exported_nothing ledger name old fault met)
  exported_part fault old new met (inr part) = by_fault ledger name old new fault met
      (λ nothing. part_by part.0 (slice_get all part.0) new refl
      (subst (λ s. HasFrontOf (slice_get all part.0) (option_map (with_wholes (take part.0 all)) (from_opened s)) new) nothing part.1))

-- WHAT THE KEEPER HOLDS

-- the transfer with this name has these tag files
pub record IsFound (ledger : Ledger) (name : List ℕ) (tags : Files) : Type 0 where
  pub transfer : Transfer
  pub named : IsNamed ledger name (Some transfer)
  pub tags_are : transfer.tags ≡ tags
  pub items_are : items_of ledger name ≡ transfer.items
  pub sound : IsSoundTransfer transfer

found : (ledger : Ledger) (name : List ℕ) (tags : Files) → IsSound ledger → IsTransferName name → tags_of ledger name ≡ Some tags → IsFound ledger name tags
found ledger name tags sound is there =
    let (transfer, at, same) = of_some (λ (transfer : Transfer). transfer.tags) (transfer_of ledger name) tags there in
    record {
      transfer = transfer;
      named = record { named = λ _. sym at; unnamed = λ not. absurd (not is) };
      tags_are = same;
      items_are = ap (λ (t : Option Transfer). unwrap_or (option_map (λ (transfer : Transfer). transfer.items) t) []) at;
      sound = sound.each name transfer at;
    }

module _ {K : Type 0} (holds may_leave : K → Ledger → Type 0) (clean : K → Type 0) (sound : (keeper : K) (ledger : Ledger) → clean keeper → holds keeper ledger → IsSound ledger)
    (old middle late : K) (name : List ℕ) (tags : Files) (sizes : List ItemSize) (reads : Reads holds may_leave clean old middle) (more : Reads holds may_leave clean middle late) (is : IsTransferName name)
    (tagged : clean middle → (ledger : Ledger) → holds old ledger → tags_of ledger name ≡ Some tags)
    (sized : clean late → (ledger : Ledger) → holds middle ledger → sizes ≡ sizes_of (items_of ledger name)) where
  pub what_is_held : clean late → (ledger : Ledger) → holds old ledger → (it : IsFound ledger name tags) × HasItems holds late name it.transfer.items × (sizes ≡ sizes_of it.transfer.items)
  what_is_held c ledger h =
      let cm = more.was_clean c in
      let there = reads.held cm ledger h in
      let it = found ledger name tags (sound old ledger (reads.was_clean cm) h) is (tagged cm ledger h) in
      (it, (ledger, more.held c ledger there, it.items_are, it.sound.held.rising), sized c ledger there ∙ ap sizes_of it.items_are)
