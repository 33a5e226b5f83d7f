-- The words of the specifications, and the lemmas of std and of the crates below, that the proofs cite.
pub use Rattle.bag_digest.proofs.Filling.{given_more}
pub use Rattle.bag_digest.proofs.Progress.{all_known, given_before, given_piece, HasGiven, more_known, uses_as, uses_on}
pub use Rattle.bag_digest.specs.Algorithm.{has}
pub use Rattle.bag_digest.specs.Failures.{UsesSource}
pub use Rattle.bag_digest.specs.Hash.{AreDigests, Holds}
pub use Rattle.bag_digest.specs.Reading.{GaveAll, GaveBefore, GavePiece, read_fault}
pub use Rattle.bag_digest.specs.declared.algorithm.Alg.{Alg}
pub use Rattle.bag_digest.specs.declared.algorithm.AlgSet.{AlgSet}
pub use Rattle.bag_digest.specs.declared.multi.Digests.{Digests}
pub use Rattle.bag_digest.specs.declared.sums.Sums.{Sums}
pub use Rattle.bag_digest.specs.declared.multi.Multi.{Multi}
pub use Rattle.bag_digest.specs.declared.reading.SourceFault.{SourceFault}
pub use Rattle.bag_digest.specs.declared.buffers.TheConstants.{PIECE}
pub use Rattle.bag_ledger.proofs.EntryLemmas.{map_twice}
pub use Rattle.bag_ledger.proofs.LedgerLemmas.{entry_rising, item_names}
pub use Rattle.bag_ledger.proofs.SoundLemmas.{sound_begun, sound_nothing, sound_put}
pub use Rattle.bag_ledger.proofs.TestingLemmas.{read_tested}
pub use Rattle.bag_ledger.specs.Keeping.{Awaits, Given, given_by, IsPieceAt, IsUnused, known, Leaves, Puts, RefusesGiven, UsesStore}
pub use Rattle.bag_ledger.specs.Ledgers.{begun, content_of, holding, IsSound, items_of, Ledger, tags_of, Transfer, transfer_of, with_item, with_transfer}
pub use Rattle.bag_ledger.specs.PutFaults.{put_fault}
pub use Rattle.bag_ledger.specs.declared.keeper_faults.KeepFault.TheVariants.{Memory}
pub use Rattle.bag_ledger.specs.declared.keeper_faults.PutFault.{PutFault}
pub use Rattle.bag_ledger.specs.declared.keeper_faults.PutFault.TheVariants.{Digest, Length, Reader, TooLarge}
pub use Rattle.bag_ledger.specs.declared.keeper_faults.StoreFault.{StoreFault}
pub use Rattle.bag_ledger.specs.declared.keeper_faults.StoreFault.TheVariants.{Spent}
pub use Rattle.bag_rules.proofs.HasLemmas.{contains_from_has, has_from_contains, has_from_map, has_map, place_of_has}
pub use Rattle.bag_rules.proofs.PassingLemmas.{passes_wanted, wanted_passes}
pub use Rattle.bag_rules.proofs.SameListLemmas.{all_has, asymmetric, same_list, sorted_by_key}
pub use Rattle.bag_rules.specs.Faults.{Has}
pub use Rattle.bag_rules.specs.Files.{AreTagFiles, Files, files_of}
pub use Rattle.bag_rules.specs.Opening.{Opens, RefusesTags}
pub use Rattle.bag_rules.specs.Plans.{IsPlanOf, IsWantOf, sizes_of}
pub use Rattle.bag_rules.specs.TagSets.{RefusesFile}
pub use Rattle.bag_rules.specs.Transfers.{with_files}
pub use Rattle.bag_rules.specs.Trees.{AreRising}
pub use Rattle.bag_rules.specs.Wants.{AreSumsFor, CoversWant, IsFirstMisfitOf, IsWanted, lists_by}
pub use Rattle.bag_rules.specs.declared.file.File.{File}
pub use Rattle.bag_rules.specs.declared.limits.TheConstants.{LARGEST_ITEM}
pub use Rattle.bag_rules.specs.declared.plan.ItemSize.{ItemSize}
pub use Rattle.bag_rules.specs.declared.plan.Plan.{Plan}
pub use Rattle.bag_rules.specs.declared.want.Want.{Want}
pub use Rattle.bag_rules.specs.declared.want.WantFault.{WantFault}
pub use Rattle.bag_sqlite.specs.Adopting.{AreTexts, body_text, count_text, file_in, files_in, format_text, HasContent, HasFormat, HasLedgerRows, HasPieces, IsRead, IsText, IsVerified, IsVerifiedAs, ItemPasses, items_text, OnlyReads, piece_text, RowPasses, Stands, stray_item_texts, stray_texts, tag_files_text, Tells, TellsOne, TransferPasses, transfers_text}
pub use Rattle.bag_sqlite.specs.ShortItems.{AreCovered, AreWanted, HasMisfit, HasOneMore, IsEmpty, FindsItem}
pub use Rattle.bag_digest.specs.ShortContents.{AreSumsOfEach, IsHeld, TakesAlso, Took}
pub use Rattle.bag_sqlite.specs.Contents.{HasContentMore, HasRead, in_pieces}
pub use Rattle.bag_sqlite.specs.LedgersInTables.{AreApart, AreCut, AreMoved, AreTablesOf, format_row, HaveHeldRows, held_rows, HoldTransfers, IsDatabaseOf, IsInOrder, IsLedgerDatabase, item_rows, items_in, ListLedger, NamesFormat, NumberedItem, NumberedTransfer, piece_rows, size_of, tag_rows, transfer_row, without_number, without_rowids}
pub use Rattle.bag_sqlite.specs.Items.{HasItem, HasItemRow, HasPieceRow}
pub use Rattle.bag_sqlite.specs.NewTables.{IsCreated, IsLeft, IsMade, IsMaking, Makes, MakesLedger, no_rows}
pub use Rattle.bag_sqlite.specs.Migrating.{Empties, HasBody, IsInBoth, IsMigrated, IsToMove, KeepsHeld, MigratesLedger, MovesLedger, SetsFormat, whole_row}
pub use Rattle.bag_sqlite.specs.Beginning.{AddsTags, AddsTransfer, HasOneTransferMore, KeepsItems, opened_under}
pub use Rattle.bag_sqlite.specs.Putting.{AddsItem, AddsPiece, AddsPieces, HasOneItemMore, IsFree, IsUnderWay, item_row, KeepsFirst, KeepsTransfers, SetsSize}
pub use Rattle.bag_sqlite.specs.Reading.{HasTransferRow, OnlyQueries, size_shown, tag_shown}
pub use Rattle.bag_sqlite.specs.Refusing.{adopt_fault, all_texts, AreFull, AreNoneFor, AreTags, body_of, count_under, DoNotOpen, HasDamagedItem, HasNoFormat, IsAsked, IsBlob, IsDamaged, IsNoAnswer, IsNoLedger, IsNoneFor, IsNoQuery, ItemFails, items_under, LacksBody, LacksContent, MayShow, OpensNone, params_of, piece_at, Question, RefusesAs, RefusesToAdopt, RefusesTransfer, RefusesTransfers, SayNoFormat, SaysFormat, ShowsOctets, strays, tags_under, text_of, the_format, the_transfers, TransferFails}
pub use Rattle.bag_sqlite.specs.SqlKeepers.{HoldsLedger, KeepsAlone, MayLeaveLedger, Offers, ShowsLedger}
pub use Rattle.bag_sqlite.specs.Tables.{First, first_schema, format_of, held, held_tree, item, item_tree, Layout, meta, meta_tree, Migrated, New, no_schema, number_of, Origin, piece, piece_tree, schema_before, schema_of, schema_to_meta, schema_to_tag, schema_to_transfer, Second, second_schema, tag, tag_tree, transfer, transfer_tree}
pub use Rattle.bag_sqlite.specs.Transactions.{CommitsNothing, CommitsNothingWithin}
pub use Rattle.bag_sqlite.specs.declared.adopting.AdoptFault.{AdoptFault}
pub use Rattle.bag_sqlite.specs.declared.adopting.AdoptFault.TheVariants.{Damaged, NotALedger}
pub use Rattle.bag_sqlite.specs.declared.short_items.ShortItems.{ShortItems}
pub use Rattle.bag_digest.specs.declared.content.Content.{Content}
pub use Rattle.bag_sqlite.specs.declared.format.Format.{Format}
pub use Rattle.bag_sqlite.specs.declared.health.Health.{Health}
pub use Rattle.bag_sqlite.specs.declared.item_queries.HeldFile.{HeldFile}
pub use Rattle.bag_ledger.specs.declared.finding.Finding.TheVariants.{Untested}
pub use Rattle.sqlite.proofs.Callers.{command_of, IsPlain, one_permutation, one_step, reads_as, runs_as, statement_of, survives_begin}
pub use Rattle.sqlite.proofs.InsideLemmas.{inside_keeps, unchanged_keeps}
pub use Rattle.sqlite.proofs.StateLemmas.{survives_then}
pub use Rattle.sqlite.specs.Cast.{cast}
pub use Rattle.sqlite.specs.Change.{created, next_tree}
pub use Rattle.sqlite.specs.Collation.TheVariants.{Binary}
pub use Rattle.sqlite.specs.Command.{Command}
pub use Rattle.sqlite.specs.Command.TheVariants.{CreateTable, Insert, Rows, Select, Update}
pub use Rattle.sqlite.specs.Does.{AtPlace, Does, lacks_sequence, OnRows, Tally}
pub use Rattle.sqlite.specs.Edit.{Applies, are_fresh, Edit, edit_of, edited, is_taken, left_by, next_rowid, put_all, taken_by}
pub use Rattle.sqlite.specs.Effect.{Answers, Database, IsDatabase, RefusesToRead, value_rows}
pub use Rattle.sqlite.specs.Held.{Held, state}
pub use Rattle.sqlite.specs.Kind.TheVariants.{Integer}
unfoldable pub use Rattle.sqlite.specs.Listing.{understood}
pub use Rattle.sqlite.specs.Listing.{reads_listing}
unfoldable pub use Rattle.sqlite.specs.Ops.{binary, unary}
pub use Rattle.sqlite.specs.Ops.{from_truth, is_true}
pub use Rattle.sqlite.specs.Order.{column, Row, value_cmp}
pub use Rattle.sqlite.specs.Program.{overlay}
pub use Rattle.sqlite.specs.Query.{end, inner, IsAnswer, Output, output, output_cmp, Query}
pub use Rattle.sqlite.specs.Reading.{IsReadError}
pub use Rattle.sqlite.specs.Rowids.TheVariants.{Chosen}
pub use Rattle.sqlite.specs.Rows.{Inserts, last_id, stamped, Task, Written}
pub use Rattle.sqlite.specs.Schema.{Schema}
pub use Rattle.sqlite.specs.Source.TheVariants.{Values}
unfoldable pub use Rattle.sqlite.specs.State.{FailsToQuery, IsNotRun, Shown}
pub use Rattle.sqlite.specs.State.{Executes, ExecutesInside, Fails, FailsToShow, HasCleanDisk, IsNoStatement, IsRolledBack, IsTooLate, IsUnchanged, KeepsCommit, mode_of, Shows, ShowsRows, State, store_error, Survives}
pub use Rattle.sqlite.specs.Steps.{FailsToCommit}
pub use Rattle.sqlite.specs.Store.{Ghosts}
pub use Rattle.sqlite.specs.Table.{Table}
pub use Rattle.sqlite.specs.Term.{col, Env, holds, lit, op2, Term}
pub use Rattle.sqlite.specs.Tree.{has_rowid, IsAscending, put_row, rowid, Trees, without_rowid}
pub use Rattle.sqlite.specs.Values.{bound, IsInt}
pub use Rattle.sqlite.specs.declared.error.Error.{Error}
pub use Rattle.sqlite.specs.declared.error.Error.TheVariants.{ExecuteReturnedResults, IntegralValueOutOfRange, InvalidColumnIndex, InvalidColumnType, InvalidParameterCount, InvalidQuery, MultipleStatement, QueryReturnedNoRows, SqlInputError, SqliteFailure, Utf8Error}
pub use Rattle.sqlite.specs.declared.run.Mode.{Mode}
pub use Rattle.sqlite.specs.declared.types.Value.{Value}
pub use Rattle.sqlite.specs.declared.types.Value.TheVariants.{Blob, Int, Null, Text}
pub use Rattle.sqlite_keyed.proofs.ListLemmas.{all_map, all_unmap, all_weaker, ascending-map, ascending_from_map, ascending_weaker, filter-map, filter_all, filter_none, filter_same, IsPermutation-filter, IsPermutation-flat_map, map_same, none_from_any}
pub use Rattle.sqlite_keyed.proofs.SortLemmas.{sorted_unique}
pub use Rattle.sqlite_resolve.specs.declared.compiled.Compiled.{Compiled}
pub use Rattle.sqlite_rules.specs.Action.{deed_of, pairs, work_by, works, Writes}
pub use Rattle.sqlite_rules.specs.Calls.{ids_of}
pub use Rattle.sqlite_schema.specs.Rules.{parent_key}
pub use Rattle.sqlite_schema.specs.declared.command.Returning.{Returning}
pub use Rattle.sqlite_schema.specs.declared.program.Program.{Program}
pub use Rattle.sqlite_schema.specs.declared.schema.Keys.TheVariants.{Enforced}
pub use Rattle.sqlite_sql.proofs.QueryLemmas.{output_cmp_total}
pub use Rattle.sqlite_sql.specs.declared.ops.BinaryOp.TheVariants.{Compare}
pub use Rattle.sqlite_sql.specs.declared.ops.CompareOp.TheVariants.{Eq}
unfoldable pub use Rattle.sqlite_tied.specs.Compute.{everything}
pub use Rattle.sqlite_trees.specs.declared.error.StoreError.{StoreError}
pub use Rattle.sqlite_trees.specs.declared.error.StoreError.TheVariants.{Broken, Corrupt, Full, Io, OutOfMemory, Unstorable}
pub use Rattle.sqlite_value.proofs.OrderLemmas.{then-Equal, value_cmp-Int, value_cmp-Text, value_cmp_total}
pub use Rattle.sqlite_value.specs.Keys.{ascending}
pub use Rattle.sqlite_value.specs.Order.{bytes}
pub use Rattle.sqlite_value.specs.declared.keys.Key.{Key}
pub use Rattle.std.proofs.KnownBytes.{Consumes-nil}
pub use Rattle.std.proofs.Math.Bool.{or-true}
pub use Rattle.std.proofs.Math.Facts.{to_z_pos}
pub use Rattle.std.proofs.Math.Nat.{div-add-mod, mul-div_cancel_left}
pub use Rattle.std.proofs.Math.Seq.{drop-append-add, drop-cons, take-suc}
pub use Rattle.std.proofs.lemmas.Bool.{and_parts, cases_Bool, cases_lt, not-true, or_parts}
pub use Rattle.std.proofs.lemmas.Bool.Decides.{Decides-int_eq}
pub use Rattle.std.proofs.lemmas.Cmp.{int_cmp_total, nat_list_cmp_total, nat_list_eq_equiv, tied_itself}
pub use Rattle.std.proofs.lemmas.Int.{to_z-of_z}
pub use Rattle.std.proofs.lemmas.List.{drop-append-le, get_or-map, length-map, length-take, length-take-le, map-append, take-append-le}
pub use Rattle.std.proofs.lemmas.List.Concat.{flat_map-append, length-flat_map}
pub use Rattle.std.proofs.lemmas.List.Elements.{All-from_recursion, filter-append, recursion_from_All}
pub use Rattle.std.proofs.lemmas.List.Folds.{concat-append}
pub use Rattle.std.proofs.lemmas.List.Sorted.{All-permutation, Contains-permutation, IsPermutation-append_right, IsPermutation-cons, IsPermutation-map, IsPermutation-middle, IsPermutation-refl, IsPermutation-swap, IsPermutation-sym, IsPermutation-trans, length_permutation}
pub use Rattle.std.proofs.lemmas.Map.Entries.{lookup_from_place}
pub use Rattle.std.proofs.lemmas.Map.Keys.{IsDistinct-from_sorted}
pub use Rattle.std.proofs.lemmas.Map.Lookups.{exact_signed}
pub use Rattle.std.proofs.lemmas.Map.Text.{is_eq-slice_cmp}
pub use Rattle.std.proofs.lemmas.Option.{same_Some, slice_get_read}
pub use Rattle.std.proofs.lemmas.Result.{err_from_is_err_and}
pub use Rattle.std.proofs.lemmas.Slice.Eq.{bytes_eq-Decides}
pub use Rattle.std.specs.BTreeMap.{insert_entry}
pub use Rattle.std.specs.Borrow.{MutBor}
pub use Rattle.std.specs.Cmp.Lexicographic.{slice_cmp}
pub use Rattle.std.specs.Io.KnownBytes.{IsAtEnd}
pub use Rattle.std.specs.List.{AllByRecursion, concat, enumerate_from, filter_map, IsDistinct, list_all}
unfoldable pub use Rattle.std.specs.List.Sorted.{IsStrictlySortedBy}
pub use Rattle.std.specs.List.Sorted.{IsPermutation}
pub use Rattle.std.specs.Map.{keys_of, lookup}
pub use Rattle.std.specs.Option.{option_map}
pub use Rattle.std.specs.Ordering.{int_cmp, int_eq, match_ordering, nat_cmp, ordering_reverse, ordering_then}
pub use Rattle.std.specs.Prelude.{filter, flat_map, IsSorted, sum_by}
pub use Rattle.std.specs.Str.{bytes_eq}
pub use Rattle.std.specs.declared.alloc.Global.{Global}
pub use Rattle.std.specs.declared.string.String.{String}
