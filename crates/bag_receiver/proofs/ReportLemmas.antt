-- The report on a transfer, by what happened to it.
use Rattle.std.proofs.Common.{◌≡◌, ℕ, List, [], ◌∷◌, Err, IfOk, IsErrOf, MatchResult, None, Ok, Option, Result, Some, map, sym, ap, subst, ◌∙◌, inl, inr}
use Rattle.bag_rules.specs.declared.outcome.Outcome.TheVariants.{Judged}
use Rattle.bag_rules.specs.declared.plan.ItemSize.{ItemSize}
use Rattle.bag_rules.specs.declared.report.Report.{Report}
use Rattle.bag_rules.specs.Plans.{sizes_of}
use Rattle.bag_rules.specs.Transfers.{held_bag}
use Rattle.bag_rules.specs.Validity.{Means}
use Rattle.bag_rules.proofs.HeldFaults.{may_be_mended}
use Rattle.bag_rules.specs.Verdicts.{IsVerdict}
use Rattle.bag_ledger.specs.Ledgers.{IsSound}
use Rattle.bag_receiver.specs.declared.report.ViewFault.{ViewFault}
use Rattle.bag_receiver.specs.declared.report.ViewFault.TheVariants.{Keeper, NoTransfer}
use Rattle.bag_receiver.specs.Audits.{IsAuditOf}
use Rattle.bag_receiver.specs.Holdings.{AreValidSizes}
use Rattle.bag_receiver.specs.Reports.{IsReportOf, Reports}
use Rattle.bag_receiver.specs.ViewAnswers.{IsReporting}
use Rattle.bag_receiver.proofs.HeldLemmas.{held_accepted}
use Rattle.bag_receiver.proofs.PlaceLemmas.{of_plan}
use Rattle.bag_receiver.proofs.ReceivingLemmas.{named_there}
use Rattle.bag_receiver.proofs.StepLemmas.{answered_held}
use Rattle.std.specs.List.Sorted.{IsStrictlySortedBy}
use Rattle.bag_receiver.proofs.Words.{AcceptsPassing, Answer, Answered, AnswerStep, AreAccepted, AreHeldFor, ArePlansIn, bytes_eq, CountsIf, Delivery, Does, Event, Files, Happened, IsAcceptance, IsAccepted, IsInState, IsNamed, IsPlanOf, IsTransferName, items_of, Ledger, LedgerState, lookup, nothing_held, OneContent, option_map, Passes, Plan, Receiver, Refused, Repeated, Same, Steps, StopRun, Store, StoreFault, Taken, Transfer, transfer_of, TransferState, unwrap_or, Whole}

-- THE REPORT OF A PLAN

abbrev pub Tells : Plan → List ItemSize → Report → (Files → Files → Type 0) → Type 0
Tells plan sizes report says = (tags items : Files) → IsPlanOf tags plan → AreHeldFor tags items → sizes ≡ sizes_of items → says tags items

report_of : (tags items : Files) (plan : Plan) (sizes : List ItemSize) (report : Report) → IsPlanOf tags plan → AreHeldFor tags items → sizes ≡ sizes_of items
    → Tells plan sizes report (λ tags items. IsVerdict (held_bag tags items) (Judged report)) → Tells plan sizes report (λ tags items. Means (held_bag tags items) (Judged report))
    → IsReportOf tags items report
report_of tags items plan sizes report planned held of_it verdict means =
    let judged = verdict tags items planned held of_it in
    record {
      faults = judged;
      means = means tags items planned held of_it;
      mended = λ fault has. may_be_mended tags items planned.tag_files held planned.opens fault ((judged.exact fault).0 has).0;
    }

pub told : (ledger : Ledger) (name : List ℕ) (plans : List (List ℕ × Plan)) (plan : Plan) (sizes : List ItemSize) (report : Report) → ArePlansIn ledger plans → IsSound ledger → IsTransferName name
    → lookup (bytes_eq name) plans ≡ Some plan → sizes ≡ sizes_of (items_of ledger name)
    → Tells plan sizes report (λ tags items. IsVerdict (held_bag tags items) (Judged report)) → Tells plan sizes report (λ tags items. Means (held_bag tags items) (Judged report))
    → Reports ledger name report
told ledger name plans plan sizes report are sound is at sized verdict means =
    let (transfer, named, planned) = of_plan ledger name plans plan are is at in
    let there = named_there ledger name transfer named in
    let held = (sound.each name transfer there).held in
    let of_it : sizes ≡ sizes_of transfer.items = sized ∙ ap (λ (t : Option Transfer). sizes_of (unwrap_or (option_map (λ (transfer : Transfer). transfer.items) t) [])) there in
    (transfer, named, report_of transfer.tags transfer.items plan sizes report planned held of_it verdict means)

pub audited : (tags : Files) (plan : Plan) (sizes : List ItemSize) (report : Report) → IsPlanOf tags plan → AreValidSizes tags sizes
    → Tells plan sizes report (λ tags items. IsVerdict (held_bag tags items) (Judged report)) → Tells plan sizes report (λ tags items. Means (held_bag tags items) (Judged report))
    → IsAuditOf tags report
audited tags plan sizes report planned (items, held, same) verdict means = (items, held, report_of tags items plan sizes report planned held same verdict means)

-- WHAT HAPPENED

abbrev shown : Files → Files → Transfer
shown tags items = record { tags = tags; items = items }

report_shown : (now : LedgerState) (name : List ℕ) (tags items : Files) (report : Report) → Reports now.held name report → transfer_of now.held name ≡ Some (shown tags items) → IsReportOf tags items report
report_shown now name tags items report (transfer, named, is) there =
    let found : Some transfer ≡ Some (shown tags items) = sym (named_there now.held name transfer named) ∙ there in
    let same : transfer ≡ shown tags items = cc in
    subst (λ (t : Transfer). IsReportOf t.tags t.items report) same is

stopped : (now : LedgerState) (name : List ℕ) (tags : Files) (events : List Event) (report : Report) → Reports now.held name report → Happened now name tags events
    → (held : Files) × StopRun tags events held × IsReportOf tags held report
stopped now name tags events report reports (files, steps, present) = (files.held, (files.doubtful, steps), report_shown now name tags files.held report reports present.there)

-- what was accepted is valid
passes_by : (tags : Files) (path octets : List ℕ) (answer : Answer) (old new : TransferState) → AnswerStep tags path (Whole octets) answer old new → IsAcceptance answer → Passes tags path octets
passes_by tags path octets Taken old new (content, same, gains, settled) taken =
    let is : Whole octets ≡ Whole content = same in
    let equal : octets ≡ content = cc in
    subst (Passes tags path) (sym equal) gains.passes
passes_by tags path octets Repeated old new h taken = h.0
passes_by tags path octets (Refused fault) old new h taken = absurd taken

accepted_passes : (tags : Files) (deliveries : List Delivery) (old new : TransferState) → Steps tags (map Answered deliveries) old new → AcceptsPassing tags deliveries
accepted_passes tags [] old new steps path content (delivery, has, accepted) = absurd has
accepted_passes tags (one ∷ deliveries) old new (middle, step, rest) path content (delivery, inl e, accepted) =
    let is : IsAccepted one path content = subst (λ (d : Delivery). IsAccepted d path content) (sym e) accepted in
    subst (λ p. Passes tags p content) is.brings.0
    (passes_by tags one.text content one.answer old middle (subst (λ c. AnswerStep tags one.text c one.answer old middle) is.brings.1 step) is.acceptance)
accepted_passes tags (one ∷ deliveries) old new (middle, step, rest) path content (delivery, inr has, accepted) =
    accepted_passes tags deliveries middle new rest path content (delivery, has, accepted)

headline : (now : LedgerState) (name : List ℕ) (tags : Files) (deliveries : List Delivery) (report : Report) → Reports now.held name report → Happened now name tags (map Answered deliveries)
    → OneContent tags deliveries → (held : Files) × AreAccepted deliveries held × IsReportOf tags held report
unfolding IsStrictlySortedBy
headline now name tags deliveries report reports (files, steps, present) one = (
  files.held,
  held_accepted tags deliveries files.held one (accepted_passes tags deliveries nothing_held files steps) (answered_held tags deliveries nothing_held files tt steps),
  report_shown now name tags files.held report reports present.there,
)

-- WHAT IS ANSWERED

headline_in : (now : LedgerState) (name : List ℕ) (tags : Files) (deliveries : List Delivery) (answer : Result Report ViewFault) (refused : ViewFault → Type 0)
    → MatchResult answer (Reports now.held name) refused → Happened now name tags (map Answered deliveries) → OneContent tags deliveries
    → IfOk answer (λ report. (held : Files) × AreAccepted deliveries held × IsReportOf tags held report)
headline_in now name tags deliveries (Ok report) refused reports happened one = headline now name tags deliveries report reports happened one
headline_in now name tags deliveries (Err fault) refused reports happened one = tt

stopped_in : (now : LedgerState) (name : List ℕ) (tags : Files) (events : List Event) (answer : Result Report ViewFault) (refused : ViewFault → Type 0)
    → MatchResult answer (Reports now.held name) refused → Happened now name tags events → IfOk answer (λ report. (held : Files) × StopRun tags events held × IsReportOf tags held report)
stopped_in now name tags events (Ok report) refused reports happened = stopped now name tags events report reports happened
stopped_in now name tags events (Err fault) refused reports happened = tt

module _ {K : Type 0} (holds may_leave : K → Ledger → Type 0) (clean : K → Type 0) (failures : K → ℕ) (name : List ℕ) (old new : Receiver K) (answer : Result Report ViewFault) where
  pub reporting : Does holds may_leave clean old new Same
      → (clean new.keeper → (now : LedgerState) → IsInState holds may_leave old now → MatchResult answer (Reports now.held name) (λ fault. fault ≡ NoTransfer → IsNamed now.held name None))
      → (¬ IsTransferName name → IsErrOf answer NoTransfer)
      → CountsIf ((fault : StoreFault) × IsErrOf answer (Keeper (Store fault))) (failures old.keeper) (failures new.keeper)
      → IsReporting holds may_leave clean failures name old new answer
  reporting looks reported judged store = record {
    looks = looks;
    reported = reported;
    judged = judged;
    headline = λ c now in_state tags deliveries happened one. headline_in now name tags deliveries answer _ (reported c now in_state) happened one;
    stopped = λ c now in_state tags events happened. stopped_in now name tags events answer _ (reported c now in_state) happened;
    store = store;
  }
