-- The words of the specifications and the lemmas of std and of the crates below that the proofs cite.
pub use Rattle.bag_digest.proofs.Published.{digest_of_abc, digits_of_abc, other_digest_of_abd, sha256_of_abc}
pub use Rattle.bag_digest.specs.Algorithm.{has, is_alg}
pub use Rattle.bag_digest.specs.Failures.{CountsIf, UsesSource}
pub use Rattle.bag_digest.specs.Hash.{alg_of, AreDigests, digest_in, hash}
pub use Rattle.bag_digest.specs.Spelling.{SpellsDigest}
pub use Rattle.bag_digest.specs.declared.algorithm.Alg.{Alg}
pub use Rattle.bag_digest.specs.declared.algorithm.Alg.TheVariants.{Md5, Sha1, Sha256, Sha512}
pub use Rattle.bag_digest.specs.declared.algorithm.AlgSet.{AlgSet}
pub use Rattle.bag_digest.specs.declared.digest.Digest.{Digest}
pub use Rattle.bag_digest.specs.declared.multi.Digests.{Digests}
pub use Rattle.bag_path.proofs.AsciiLemmas.{ascii_path}
pub use Rattle.bag_path.specs.Lines.{lines_of}
pub use Rattle.bag_path.specs.LinesLeft.{lines_left, numbered_text}
pub use Rattle.bag_path.specs.Paths.{is_payload}
pub use Rattle.bag_path.specs.declared.version.Version.TheVariants.{V1, V097}
pub use Rattle.bag_rules.specs.Bags.{Bag, declaration_file, Declares, HoldsFile, IsBagOf, IsThere, Lists, ListsFetch, octet_count, payload_of, SaysInfo, shown_of}
pub use Rattle.bag_rules.specs.Faults.{AreInOrder, Has, kind_of_lines, kinds_beside_lines, kinds_of_files, kinds_of_form, NoneUpTo, number_of}
pub use Rattle.bag_rules.specs.FilesInside.{IsEntryUnlisted, IsFaultBy, IsFaultIn, IsFileFault, IsFileUnlisted, IsLongRead, IsMissing, IsMissingBy, IsOtherDigest, IsOtherLength, IsOtherOxum, IsPairMissing, IsReadBy, IsSizeOf, IsUnlistedIn, IsWrongIn, OfSome, payload_length}
pub use Rattle.bag_rules.specs.FormInside.{IsBadOxum, IsOxumFault, IsUnlistedBy, IsUnlistedManifest}
pub use Rattle.bag_rules.specs.HasFault.{HasEntry, HasFault, HasFaultOf, IsFaultyText, line_fault, SaysOxum}
pub use Rattle.bag_rules.specs.JudgingInside.{IsFirstUnknownOf, MatchOutside, NoneUnknown}
pub use Rattle.bag_rules.specs.Limits.{DeclarationStops, FileStops, FirstStops, HasCountedLines, IsChecked, IsLongFile, IsLongTag, NoneStops, NoneStopsBefore, ScopeStops, Stopped, Stops, TextStops, WorkStops}
pub use Rattle.bag_rules.specs.Memory.{mem_octets, mem_paths, mem_shown, MemFiles, no_files, octets_at, with_file}
pub use Rattle.bag_rules.specs.Files.{AreTagFiles, Files, files_of, IsGapFor}
pub use Rattle.bag_rules.specs.MemoryInside.{IsSoundTree, moved_up, rest_of, view_of}
pub use Rattle.bag_rules.specs.Scopes.{HasScope}
pub use Rattle.bag_rules.specs.ReadingInside.{Adds, AreLinesOf, AreTextsOf, front, GivesListing, HasBadLine, IsBadLineOf, IsFirstBadLine, name_in, ReadsOn, ReadsText, ValueOf}
pub use Rattle.bag_rules.specs.SameVerdicts.{SameCause, SameVerdict}
pub use Rattle.bag_rules.specs.Trees.{AreRising, HasFileAt, KeepsTree, octets_in, paths_in, Shown, UsesTree}
pub use Rattle.bag_rules.specs.Validity.{Conforms, IsComplete, IsValid, Means}
pub use Rattle.bag_rules.specs.Verdicts.{IsFirstUnknown, IsInScope, IsJudged, IsOutside, IsVerdict, NoneBelow, tier_of}
pub use Rattle.bag_rules.specs.Wants.{Fits, FitsDigests, FitsLength, FitsListing, FitsListings, HasSuch, lists_by}
pub use Rattle.bag_rules.specs.WantsInside.{AddsLength, AreGivenIn, AreByPath, AreRequirementsOf, given_at, GivesLength, GivesPayload, IsWantBy, items_of, Lengths}
pub use Rattle.bag_rules.specs.declared.want.GivenLength.{GivenLength}
pub use Rattle.bag_rules.specs.declared.want.Want.{Want}
pub use Rattle.bag_rules.specs.declared.requirements.Requirements.{Requirements}
pub use Rattle.bag_rules.specs.declared.oxum_faults.PayloadSize.{PayloadSize}
pub use Rattle.bag_rules.specs.declared.fault.Fault.{Fault}
pub use Rattle.bag_rules.specs.declared.fault.Fault.TheVariants.{BadDeclaration, BadLine, FetchLength, FetchNotListed, ManifestNotListed, Missing, NoDeclaration, NoManifest, NoPayloadDir, OxumForm, OxumTwice, OxumWrong, Unlisted, WrongDigest}
pub use Rattle.bag_rules.specs.declared.file.File.{File}
pub use Rattle.bag_rules.specs.declared.mem_tree.MemTree.TheInside.{Inside}
pub use Rattle.bag_rules.specs.declared.mem_tree.Reading.{Reading}
pub use Rattle.bag_rules.specs.declared.outcome.CheckFault.{CheckFault}
pub use Rattle.bag_rules.specs.declared.outcome.CheckFault.TheVariants.{TagTooLarge, TooLarge, TooMany, Tree}
pub use Rattle.bag_rules.specs.declared.outcome.Outcome.{Outcome}
pub use Rattle.bag_rules.specs.declared.outcome.Outcome.TheVariants.{Judged, Outside}
pub use Rattle.bag_rules.specs.declared.scope.OutsideCause.{OutsideCause}
pub use Rattle.bag_rules.specs.declared.scope.OutsideCause.TheVariants.{Algorithm, Encoding}
pub use Rattle.bag_rules.specs.declared.scope.Scope.TheVariants.{Broken, Known, Unknown}
pub use Rattle.bag_rules.specs.declared.tag_texts.TagTexts.{TagTexts}
pub use Rattle.bag_tags.proofs.DecisionLemmas.{Decided, decided_as, decided_at_most, decided_by, decided_either, decided_equal, decided_true}
pub use Rattle.bag_tags.proofs.DeclarationLemmas.{excludes, one_declaration, one_fault, written_declares}
pub use Rattle.bag_tags.proofs.EarlierDeclaration.{utf8_declares}
pub use Rattle.bag_tags.proofs.ExampleLemmas.{differ_at, other_text}
pub use Rattle.bag_tags.proofs.ExactTexts.{elements_or_fault, entries_or_fault, no_elements, no_entries, no_pairs, one_list_of_pairs}
pub use Rattle.bag_tags.proofs.ExampleLines.{adds_pair, leads_on, text_of}
pub use Rattle.bag_tags.proofs.ManifestTextLemmas.{pairs_or_fault}
pub use Rattle.bag_tags.proofs.NameLemmas.{one_word, payload_known}
pub use Rattle.bag_tags.proofs.OxumDecisionLemmas.{oxum_or_none}
pub use Rattle.bag_tags.proofs.OxumLemmas.{oxum_one}
pub use Rattle.bag_tags.proofs.TextFiles.{one_file, text_or_not}
pub use Rattle.bag_tags.proofs.WordsLemmas.{word_of}
pub use Rattle.bag_tags.specs.Declarations.{current, IsDeclaration, IsDeclarationFault, written_declaration}
pub use Rattle.bag_tags.specs.FetchText.{FetchFault, FetchText}
pub use Rattle.bag_tags.specs.InfoText.{InfoFault, InfoText}
pub use Rattle.bag_tags.specs.Infos.{is_oxum, MetadataElement}
pub use Rattle.bag_tags.specs.Listings.{listed_digest, Listing, lists_path, nothing_listed, pair, with_pair}
pub use Rattle.bag_tags.specs.Manifests.{AddsPair, ManifestFault, ManifestText}
pub use Rattle.bag_tags.specs.Names.{file_of, IsUnknownManifest, manifest_file, manifest_name, payload_manifest, tag_manifest, text_file}
pub use Rattle.bag_tags.specs.Oxums.{OxumText}
pub use Rattle.bag_tags.specs.declared.declaration.DeclFault.{DeclFault}
pub use Rattle.bag_tags.specs.declared.declaration.Declaration.{Declaration}
pub use Rattle.bag_tags.specs.declared.tag_fault.LineCause.{LineCause}
pub use Rattle.bag_tags.specs.declared.tag_fault.LineFault.{LineFault}
pub use Rattle.bag_tags.specs.declared.tag_fault.TagFault.{TagFault}
pub use Rattle.bag_tags.specs.declared.tag_fault.TagFault.TheVariants.{Line}
pub use Rattle.bag_tags.specs.declared.fetch.FetchLine.{FetchLine}
pub use Rattle.bag_tags.specs.declared.listing.Kind.{Kind}
pub use Rattle.bag_tags.specs.declared.listing.Kind.TheVariants.{Payload, Tag}
pub use Rattle.bag_tags.specs.declared.listing.Pair.{Pair}
pub use Rattle.bag_tags.specs.declared.name.LineFile.{LineFile}
pub use Rattle.bag_tags.specs.declared.name.LineFile.TheVariants.{FetchList, Info, Manifest}
pub use Rattle.bag_tags.specs.declared.name.ManifestName.{ManifestName}
pub use Rattle.bag_tags.specs.declared.name.TagName.TheVariants.{PayloadManifest}
pub use Rattle.bag_tags.specs.declared.oxum.Oxum.{Oxum}
pub use Rattle.std.proofs.Math.Nat.{eq-or-lt_of_le}
pub use Rattle.std.proofs.Math.Seq.{take-append_seam, take-length}
pub use Rattle.std.proofs.lemmas.Bool.{and_parts, and_right, both_ways, cases_Bool, cases_lt, cases_order, cond-false, cond-true, eqb-true, false_from_ne_true, false≢true, leb-false, leb-true, or_cases, or_left, or_right}
pub use Rattle.std.proofs.lemmas.Bool.Decides.{Decides-eqb}
pub use Rattle.std.proofs.lemmas.Cmp.{nat_list_cmp_total, nat_list_eq_equiv, tied_itself}
pub use Rattle.std.proofs.lemmas.Fn.{always_returns_same}
pub use Rattle.std.proofs.lemmas.Iterator.{cases_from_any, YieldsList-from_slice}
pub use Rattle.std.proofs.lemmas.Iterator.Consumers.{count_from_yields_List, nth_from_yields_List, YieldsList-from_filter, YieldsList-from_first}
pub use Rattle.std.proofs.lemmas.List.{append-nil, drop-drop, get_or-map, length-map, length_push, map-id, take_more}
pub use Rattle.std.proofs.lemmas.List.Edits.{length-insert}
pub use Rattle.std.proofs.lemmas.List.Elements.{All-contains, All-nil, All-weaker, filter_more}
pub use Rattle.std.proofs.lemmas.List.Filters.{dedup_is}
pub use Rattle.std.proofs.lemmas.List.Folds.{list_any-append}
pub use Rattle.std.proofs.lemmas.List.Kept.{Contains-dedup, Contains-from_dedup, IsStrictlySortedBy-dedup}
pub use Rattle.std.proofs.lemmas.List.Sorted.{Contains-permutation, IsPermutation-sym, searchable_from_sorted}
pub use Rattle.std.proofs.lemmas.Map.Entries.{lookup_from_place}
pub use Rattle.std.proofs.lemmas.Map.Keys.{IsDistinct-from_sorted, Less-from_sorted}
pub use Rattle.std.proofs.lemmas.Map.Lookups.{exact_bytes}
pub use Rattle.std.proofs.lemmas.Map.Made.{is_member-Decides}
pub use Rattle.std.proofs.lemmas.Map.Text.{is_eq-slice_cmp}
pub use Rattle.std.proofs.lemmas.Option.{get_or_from_slice_get, same_Some, slice_get-map, slice_get_cases, slice_get_read, slice_get_within, some_pair_parts}
pub use Rattle.std.proofs.lemmas.Result.{err_from_is_err_and, IfErr-weaker, IfOk-weaker, on_ok_weaker}
pub use Rattle.std.proofs.lemmas.Slice.Eq.{bytes_eq-Decides}
pub use Rattle.std.specs.BTreeMap.{insert_entry}
pub use Rattle.std.specs.Bool.{MatchBool}
pub use Rattle.std.specs.Cmp.{IsTotalOrder, unsigned_Decides}
pub use Rattle.std.specs.Cmp.Lexicographic.{slice_cmp}
pub use Rattle.std.specs.Io.KnownBytes.{Consumes, IsAtEnd}
pub use Rattle.std.specs.List.{AllByRecursion, AllWithin, enumerate_from, filter, HoldsAt, insert, IsDistinct, list_any, slice_index_or}
pub use Rattle.std.specs.List.Sorted.{IsBinarySearchResult, IsNonDecreasingBy, IsSearchInRange}
pub use Rattle.std.specs.Map.{keys_of, lookup, values_of}
pub use Rattle.std.specs.Option.{ForSome, option_and_then, option_map}
pub use Rattle.std.specs.Ordering.{is_lt, match_ordering, nat_cmp, ordering_index, ordering_reverse}
pub use Rattle.std.specs.Str.{bytes_eq}
pub use Rattle.std.specs.declared.cmp.Ordering.{Ordering}
pub use Rattle.std.specs.declared.cmp.Ordering.TheVariants.{Equal, Greater, Less}
