-- The specifications and the lemmas of std and of the crates below that the proofs use.
pub use Rattle.bag_path.proofs.PathLemmas.{no_fault_if_path, path_if_no_fault}
pub use Rattle.bag_path.specs.declared.path.PathFault.{PathFault}
pub use Rattle.bag_path.specs.Paths.{IsPath, path_fault}
pub use Rattle.bag_digest.specs.Algorithm.{place_of}
pub use Rattle.bag_digest.specs.declared.algorithm.Alg.{Alg}
pub use Rattle.bag_digest.specs.declared.algorithm.Alg.TheVariants.{Md5, Sha1, Sha256, Sha512}
pub use Rattle.bag_digest.specs.declared.digest.Digest.{Digest as DigestOf}
pub use Rattle.bag_digest.specs.Failures.{CountsIf, one_more, Rises}
pub use Rattle.bag_rules.proofs.HasLemmas.{contains_from_has, has_from_contains}
pub use Rattle.bag_rules.proofs.SameListLemmas.{asymmetric, same_list, sorted_by_key}
pub use Rattle.bag_rules.proofs.TwoListed.{a_passes, abd_is_misfit, expected, not_expected, path_a, two}
pub use Rattle.bag_rules.proofs.Words.{Decided, decided_at_most, decided_by, decided_equal, decided_true}
pub use Rattle.bag_rules.specs.declared.limits.TheConstants.{LARGEST_ITEM, LARGEST_TAG_FILE}
pub use Rattle.bag_rules.specs.declared.plan.Plan.{Plan}
pub use Rattle.bag_rules.specs.declared.want.WantFault.{WantFault}
pub use Rattle.bag_rules.specs.declared.want.WantFault.TheVariants.{Digest as OtherDigest, Length as OtherLength}
pub use Rattle.bag_rules.specs.ExampleBags.{file_a, file_e, tags_of_two}
pub use Rattle.bag_rules.specs.Faults.{Has}
pub use Rattle.bag_rules.specs.Files.{Files}
pub use Rattle.bag_digest.specs.Algorithm.{IsFirstAmong}
pub use Rattle.bag_rules.specs.Opening.{FewLines, HasManyLinesAt, IsFirstPath, RefusesTags}
pub use Rattle.bag_rules.specs.Plans.{IsPlanOf, IsWantOf}
pub use Rattle.bag_rules.specs.Transfers.{AreHeldFor, HasOtherLength, IsExpected, ListsOther, Passes, with_files}
pub use Rattle.bag_rules.specs.Trees.{AreRising}
pub use Rattle.bag_rules.specs.Wants.{IsWanted}
pub use Rattle.bag_ledger.proofs.EntryLemmas.{insert_shown}
pub use Rattle.bag_ledger.proofs.LedgerLemmas.{entry_here, entry_others, item_here, item_others}
pub use Rattle.bag_ledger.specs.declared.keeper_faults.KeepFault.{KeepFault}
pub use Rattle.bag_ledger.specs.declared.keeper_faults.KeepFault.TheVariants.{Memory, Store}
pub use Rattle.bag_ledger.specs.declared.keeper_faults.PutFault.{PutFault}
pub use Rattle.bag_ledger.specs.declared.keeper_faults.StoreFault.{StoreFault}
pub use Rattle.bag_ledger.specs.Keeping.{Given, given_by, known, Reads, RefusesGiven}
pub use Rattle.bag_ledger.specs.Ledgers.{begun, holding, items_of, Ledger, tags_of, Transfer, transfer_of, with_item}
pub use Rattle.bag_receiver.specs.Beginning.{AreTaken, Begins, BeginStep, given_in, IsHeavyAt, IsLargeAt, NoneMisplaced, RefusesFiles}
pub use Rattle.bag_receiver.specs.BeginningInside.{emptied, IsPlaced, IsRefusal, light_tags}
pub use Rattle.bag_receiver.specs.Couriers.{CallsNext, ComesNext, read_failures}
pub use Rattle.bag_receiver.specs.declared.answer.Answer.{Answer}
pub use Rattle.bag_receiver.specs.declared.answer.Answer.TheVariants.{Refused, Repeated, Taken}
pub use Rattle.bag_receiver.specs.declared.answer.DeliverFault.{DeliverFault}
pub use Rattle.bag_receiver.specs.declared.answer.DeliverFault.TheVariants.{BadPath, Digest, Keeper, Length, NotListed, NoTransfer, Reader, TooLarge}
pub use Rattle.bag_receiver.specs.declared.begin.BeginFault.{BeginFault}
pub use Rattle.bag_receiver.specs.declared.begin.BeginFault.TheVariants.{TagPath, TagTooLarge}
pub use Rattle.bag_receiver.specs.declared.deliver.Slot.{Slot}
pub use Rattle.bag_receiver.specs.declared.receiver.Receiver.{Receiver}
pub use Rattle.bag_receiver.specs.declared.run.TheConstants.{MOST_DELIVERIES}
pub use Rattle.bag_receiver.specs.Deliveries.{Accepts, AcceptsPassing, AreAccepted, Content, Delivery, delivery_of, HasOneContent, IsAcceptance, IsAccepted, IsDue, IsDueIn, IsFirstAccepted, IsFirstHeld, IsListedPath, IsMisfitIn, IsTooLong, OneContent, PassesIn, TooLong, Unread, Whole}
pub use Rattle.bag_receiver.specs.ExampleDeliveries.{abc, abd, both, delivered, only_e}
pub use Rattle.bag_receiver.specs.TransferNames.{IsNamed, IsTransferName}
pub use Rattle.bag_receiver.specs.PutAnswers.{deliver_fault}
pub use Rattle.bag_receiver.specs.Receivers.{Does, IsInState, plans_in}
pub use Rattle.bag_receiver.specs.ReceiversInside.{IsPlaceIn, IsPlanned, RefusesAny, Same}
pub use Rattle.bag_receiver.specs.LedgerStates.{Adds, ArePlansIn, Brought, DeliveryStep, DeliverySteps, Happened, HasTransfer, IsAnswer, IsDueTo as IsDueThere, Judges, LedgerState, Receives, settled, with_doubtful_ledger}
pub use Rattle.bag_receiver.specs.Runs.{CountsEach, Runs, with_answers}
pub use Rattle.bag_receiver.specs.Stops.{Answered, AnswerStep, BringsAt, Cut, Event, Gains, nothing_held, OffersIn, Step, Steps, Stop, StopRun, StopStep, transfer_state, TransferState, with_doubtful_file, with_file}
pub use Rattle.std.proofs.lemmas.Cmp.{nat_list_cmp_total, tied_itself}
pub use Rattle.std.proofs.lemmas.List.{length-append, length-map, map-append}
pub use Rattle.std.proofs.lemmas.Map.Text.{is_eq-slice_cmp}
pub use Rattle.std.proofs.lemmas.Option.{slice_get-map, slice_get_read}
pub use Rattle.std.proofs.lemmas.Result.{err_from_is_err_and}
pub use Rattle.std.proofs.lemmas.Slice.Eq.{bytes_eq-Decides}
pub use Rattle.std.proofs.Math.Seq.{set-append_seam}
pub use Rattle.std.specs.BTreeMap.{BTreeMap, insert_entry}
pub use Rattle.std.specs.Cmp.Lexicographic.{slice_cmp}
pub use Rattle.std.specs.declared.alloc.Global.{Global}
pub use Rattle.std.specs.declared.cmp.Ordering.{Ordering}
pub use Rattle.std.specs.declared.cmp.Ordering.TheVariants.{Equal, Greater, Less}
pub use Rattle.std.specs.declared.string.String.{String}
pub use Rattle.std.specs.List.{AllByRecursion}
pub use Rattle.std.specs.Map.{keys_of, lookup}
pub use Rattle.std.specs.Option.{is_some, option_map, unwrap_or}
pub use Rattle.std.specs.Ordering.{is_eq, match_ordering, nat_cmp, ordering_reverse}
pub use Rattle.std.specs.Str.{bytes_eq, IsUtf8}
pub use Rattle.std.specs.String.{string_bytes}
