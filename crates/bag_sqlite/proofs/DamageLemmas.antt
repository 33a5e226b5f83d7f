-- A ledger is not found to be damaged.
use Rattle.std.proofs.Common.{◌≡◌, ◌≢◌, inl, inr, ℕ, ℤ, List, [], ◌∷◌, Option, None, Some, length, map, pos, refl, slice_get, sym, take, true, ap, subst, ◌∙◌}
use Rattle.std.proofs.Math.Seq.{take-length}
use Rattle.std.proofs.lemmas.List.{take-map}
use Rattle.std.proofs.lemmas.Option.{slice_get-map}
use Rattle.bag_ledger.specs.Ledgers.{IsSoundTransfer}
use Rattle.bag_rules.proofs.HasLemmas.{has_at}
use Rattle.bag_rules.proofs.InPlace.{expected_path}
use Rattle.bag_rules.proofs.NotRefused.{front_by_path, refused_by_memory, tag_file_not_refused}
use Rattle.bag_rules.specs.declared.tag_set.TagSetFault.{TagSetFault}
use Rattle.bag_rules.specs.declared.tag_set.TagSetFault.TheVariants as tag
use Rattle.bag_sqlite.specs.Refusing.{HasBadTag}
use Rattle.bag_sqlite.proofs.Words.{Blob, column, concat, Database, file_in, Files, files_in, format_of, Ghosts, Has, has_map, HasDamagedItem, HoldTransfers, Int, IsDamaged, IsSound, ItemFails, Layout, Ledger, NumberedItem, NumberedTransfer, OpensNone, option_map, RefusesTags, RefusesFile, Row, schema_of, size_of, State, state, tag_files_text, tag_shown, Tells, Text, Transfer, transfer_of, transfer_row, TransferFails, with_files, without_number}
use Rattle.bag_sqlite.proofs.OneLedger.{has_flat, one_of, read}
use Rattle.bag_sqlite.proofs.PassingItems.{item_stands}
use Rattle.bag_sqlite.proofs.ToldLemmas.{item_told, transfer_told}
use Rattle.bag_sqlite.proofs.TransferLemmas.{found_entry, row_there}
use Rattle.bag_sqlite.proofs.TransferRows.{tags_shown}

-- ROWS OF TAG FILES

abbrev File : Type 0
File = List ℕ × List ℕ

files_back : (files : Files) → map file_in (map tag_shown files) ≡ files
files_back [] = refl
files_back (file ∷ files) = ap (λ rest. file ∷ rest) (files_back files)

-- the file whose row this is
file_at : (o : Option File) (row : Row) → option_map tag_shown o ≡ Some row → (file : File) × (o ≡ Some file) × (tag_shown file ≡ row)
file_at None row is = absurd cc
file_at (Some file) row is = (file, refl, cc)

module _ (rows : List Row) (tags : Files) (are : rows ≡ map tag_shown tags) (in_order : (n : ℕ) → with_files [] (take n tags) ≡ take n tags) where
  front_is : (n : ℕ) → files_in (take n rows) ≡ take n tags
  front_is n = ap (λ rs. files_in (take n rs)) are ∙ ap files_in (take-map tag_shown n tags) ∙ ap (with_files []) (files_back (take n tags)) ∙ in_order n

  no_bad_tag : ((n : ℕ) (path octets : List ℕ) → slice_get tags n ≡ Some (path, octets) → (fault : TagSetFault) → fault ≢ tag.Memory → ¬ RefusesFile (take n tags) path octets fault) → ¬ HasBadTag rows
  no_bad_tag allowed bad =
      let it = file_at (slice_get tags bad.at) bad.row (sym (slice_get-map tag_shown tags bad.at) ∙ ap (λ rs. slice_get rs bad.at) (sym are) ∙ bad.here) in
      let file = it.0 in
      let first : Text file.0 ≡ Text bad.path = ap (λ r. column r 0) it.2 ∙ bad.row_is.0 in
      let second : Blob file.1 ≡ Blob bad.octets = ap (λ r. column r 1) it.2 ∙ bad.row_is.1 in
      let path : file.0 ≡ bad.path = cc in
      let octets : file.1 ≡ bad.octets = cc in
      allowed bad.at bad.path bad.octets (it.1 ∙ (λ i. Some (path i, octets i))) bad.fault bad.no_memory (subst (λ files. RefusesFile files bad.path bad.octets bad.fault) (front_is bad.at) bad.refuses)

-- A TRANSFER OF THE LEDGER

module _ {S : Type 0} {l : Layout} (g : Ghosts S) (db : Database) (ledger : Ledger) (has : db.schema ≡ schema_of l) (tables : HoldTransfers l db.trees ledger) where
  pub in_ledger : (t : NumberedTransfer) → Has tables.transfers t → transfer_of ledger t.name ≡ Some (without_number t).1
  in_ledger t there = found_entry ledger (without_number t) tables.order.names (subst (λ l. Has l (without_number t)) (sym tables.is) (has_map without_number tables.transfers t there))

  -- the rows of its tag files
  pub tags_told : (t : NumberedTransfer) → Has tables.transfers t → (rows : List Row) → Tells g db tag_files_text (Int t.number ∷ []) rows → rows ≡ map tag_shown t.tags
  tags_told t there rows told =
      let s : State = state g (record told.at { in_transaction = true }) in
      let back = sym told.is in
      let shown = tags_shown s (state g told.shown.then) rows ledger t.name t.number (ap (λ (d : Database). d.schema) told.is ∙ has) (subst (λ (d : Database). HoldTransfers l d.trees ledger) back tables)
      (subst (λ (d : Database). Has (d.trees 2) (transfer_row t)) back (row_there db.trees ledger tables t there)) told.shown.shown in
      let same : Some shown.0 ≡ Some t.tags = sym shown.1 ∙ ap (option_map (λ (transfer : Transfer). transfer.tags)) (in_ledger t there) in
      let files : shown.0 ≡ t.tags = cc in
      shown.3 ∙ ap (map tag_shown) files

-- WHAT ISN'T DAMAGED

module _ {S : Type 0} {l : Layout} (g : Ghosts S) (db : Database) (ledger : Ledger) (has : db.schema ≡ schema_of l) (tables : HoldTransfers l db.trees ledger) (sound : IsSound ledger) where
  abbrev IsIn : NumberedTransfer → Type 0
  IsIn t = Has tables.transfers t

  pub stands : (t : NumberedTransfer) → IsIn t → IsSoundTransfer (without_number t).1
  stands t there = sound.each t.name (without_number t).1 (in_ledger g db ledger has tables t there)

  tags_read : (t : NumberedTransfer) → IsIn t → (rows : List Row) → Tells g db tag_files_text (Int t.number ∷ []) rows → files_in rows ≡ t.tags
  tags_read t there rows told =
      ap files_in (tags_told g db ledger has tables t there rows told) ∙ ap (with_files []) (files_back t.tags)
      ∙ subst (λ files. with_files [] files ≡ files) (take-length t.tags) (front_by_path t.tags (length t.tags) (stands t there).tag_files.rising)

  -- its tag files open a transfer
  opens_one : (t : NumberedTransfer) → IsIn t → ¬ OpensNone g db t.number
  opens_one t there none =
      let it = stands t there in
      let rows = none.tag_rows in
      let are = tags_told g db ledger has tables t there rows none.tags_told in
      elim none.none [
        | inl bad ↦ no_bad_tag rows t.tags are (λ n. front_by_path t.tags n it.tag_files.rising) (λ n path octets at. tag_file_not_refused t.tags n path octets it.tag_files at) bad
        | inr other ↦ other.1 (refused_by_memory t.tags other.0 it.tag_files it.opens (subst (λ files. RefusesTags files other.0) (tags_read t there rows none.tags_told) other.2))
      ]

  -- a payload file that is told is one that it holds
  item_passes : (t : NumberedTransfer) → IsIn t → (item : NumberedItem) → Has t.items item → ¬ ItemFails g db (format_of l) t.tags item.number item.path (pos (size_of item))
  item_passes t there item owned =
      let passes = (stands t there).held.passing item.path (concat item.pieces) (has_map read t.items item owned) in
      item_stands g db ledger has tables item (has_flat (λ (u : NumberedTransfer). u.items) tables.transfers t item there owned) t.tags (expected_path t.tags item.path passes.expected) passes

  no_damaged_item : (t : NumberedTransfer) → IsIn t → (path : List ℕ) → ¬ HasDamagedItem g db (format_of l) t.tags t.number path
  no_damaged_item t there path damaged =
      let it = item_told g db ledger has tables t.number damaged.rows damaged.told damaged.row (has_at damaged.rows damaged.at damaged.row damaged.here) in
      let same : it.transfer ≡ t = one_of (λ (u : NumberedTransfer). u.number) tables.transfers it.transfer t tables.numbers it.there there it.number_is in
      let item = it.item in
      let first : Int item.number ≡ Int damaged.item = ap (λ r. column r 0) (sym it.is) ∙ damaged.row_is.0 in
      let second : Text item.path ≡ Text path = ap (λ r. column r 1) (sym it.is) ∙ damaged.row_is.1 in
      let third : Int (pos (size_of item)) ≡ Int damaged.size = ap (λ r. column r 2) (sym it.is) ∙ damaged.row_is.2 in
      let number : item.number ≡ damaged.item = cc in
      let named : item.path ≡ path = cc in
      let size : pos (size_of item) ≡ damaged.size = cc in
      item_passes t there item (subst (λ (u : NumberedTransfer). Has u.items item) same it.owned)
      (subst (λ (q : ℤ × List ℕ × ℤ). ItemFails g db (format_of l) t.tags q.0 q.1 q.2) (λ i. (sym number i, sym named i, sym size i)) damaged.fails)

  transfer_passes : (t : NumberedTransfer) → IsIn t → (path : List ℕ) → ¬ TransferFails g db (format_of l) t.number path
  transfer_passes t there path (inl fails) = opens_one t there fails.0
  transfer_passes t there path (inr damage) = no_damaged_item t there path (subst (λ files. HasDamagedItem g db (format_of l) files t.number path) (tags_read t there damage.tag_rows damage.tags_told) damage.item)

  pub is_undamaged : (name path : List ℕ) → ¬ IsDamaged g db (format_of l) name path
  is_undamaged name path damaged =
      let it = transfer_told g db ledger has tables damaged.rows damaged.told damaged.row (has_at damaged.rows damaged.at damaged.row damaged.here) in
      let t = it.transfer in
      let first : Int t.number ≡ Int damaged.transfer = ap (λ r. column r 0) (sym it.is) ∙ damaged.row_is.0 in
      let number : t.number ≡ damaged.transfer = cc in
      transfer_passes t it.there path (subst (λ n. TransferFails g db (format_of l) n path) (sym number) damaged.fails)
