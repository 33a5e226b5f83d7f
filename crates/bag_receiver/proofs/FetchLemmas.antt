-- Fetching, line by line.
use Rattle.std.proofs.Common.{◌≡◌, ◌≢◌, ◌↔◌, ◌<◌, ◌+◌, ◌++◌, ◌∷◌, [], Contains, ℕ, zero, suc, Bool, true, false, List, Option, Some, None, Result, Ok, Err, IsOk, is_ok, if◌then◌else◌, append_assoc, append-nil, get_or, length, map, slice_get, take, refl, sym, ap, subst, ◌∙◌, inl, inr, arith}
use Rattle.std.proofs.Math.ListN.{replicate, set}
use Rattle.std.proofs.lemmas.List.{take_more}
use Rattle.std.proofs.lemmas.Option.{same_Some, slice_get_within}
use Rattle.bag_tags.specs.declared.fetch.FetchLine.{FetchLine}
use Rattle.bag_rules.proofs.HasLemmas.{has_push}
use Rattle.bag_rules.proofs.RisingPaths.{contains_at, one_place}
use Rattle.bag_rules.specs.declared.plan.ItemSize.{ItemSize}
use Rattle.bag_rules.specs.Plans.{AreFetchLines, item_paths, sizes_of}
use Rattle.bag_receiver.specs.declared.answer.Answer.TheVariants as own
use Rattle.bag_receiver.specs.declared.fetch.FetchAnswer.{FetchAnswer}
use Rattle.bag_receiver.specs.declared.fetch.FetchAnswer.TheVariants as fetch
use Rattle.bag_receiver.specs.declared.fetch.FetchOutcome.{FetchOutcome}
use Rattle.bag_receiver.specs.declared.fetch.FetchRequest.{FetchRequest}
use Rattle.bag_receiver.specs.Runs.{store_failures}
use Rattle.bag_receiver.specs.FetchingInside.{AreMarks, AreRequests, IsRequest, IsUnderWay}
use Rattle.bag_receiver.specs.Suppliers.{AreReached, deliveries_by, delivery_by, Delivered, Failing, held_after, outcome_of, IsGotFrom, IsReply, IsSupplied, Reaches, Reply, Round, supplier_failure, supplier_failures, Supply, told, Without}
use Rattle.bag_receiver.proofs.CourierLemmas.{counts_on, is_of}
use Rattle.bag_receiver.proofs.ReceiverLemmas.{does_receive}
use Rattle.bag_receiver.proofs.ReceivingLemmas.{named_there, receives}
use Rattle.bag_receiver.proofs.RunLemmas.{ran_more, ran_nothing, steps_join}
use Rattle.bag_receiver.proofs.Words.{AllByRecursion, Answer, AreRising, Brought, Content, CountsEach, CountsIf, decided_equal, Delivery, delivery_of, DeliveryStep, Does, Files, Has, IsAcceptance, IsAnswer, IsNamed, items_of, Keeper, keys_of, Ledger, map-append, option_map, Receiver, Runs, Same, Store, StoreFault, string_bytes, Transfer, unwrap_or}
use Rattle.bag_tags.proofs.WritingLemmas.{each_append}
use Rattle.bag_rules.proofs.ReportLemmas.{item_keys}

-- MARKS

set_here : (marks : List Bool) (i : ℕ) → i < length marks → slice_get (set marks i true) i ≡ Some true
set_here [] i within = absurd (omega (arith, within))
set_here (mark ∷ marks) zero within = refl
set_here (mark ∷ marks) (suc i) within = set_here marks i (omega (arith, within))

set_there : (marks : List Bool) (i j : ℕ) → j ≢ i → slice_get (set marks i true) j ≡ slice_get marks j
set_there [] i j apart = refl
set_there (mark ∷ marks) zero zero apart = absurd (apart refl)
set_there (mark ∷ marks) zero (suc j) apart = refl
set_there (mark ∷ marks) (suc i) zero apart = refl
set_there (mark ∷ marks) (suc i) (suc j) apart = set_there marks i j (λ e. apart (ap suc e))

set_length : (marks : List Bool) (i : ℕ) → length (set marks i true) ≡ length marks
set_length [] i = refl
set_length (mark ∷ marks) zero = refl
set_length (mark ∷ marks) (suc i) = ap suc (set_length marks i)

none_set : (n i : ℕ) → slice_get (replicate n false) i ≢ Some true
none_set zero i e = (let h : None ≡ Some true = e in cc)
none_set (suc n) zero e = (let h : Some false ≡ Some true = e in cc)
none_set (suc n) (suc i) e = none_set n i e

pub no_marks : (paths : List (List ℕ)) (marks : List Bool) (n : ℕ) → marks ≡ replicate n false → length marks ≡ length paths → AreMarks paths marks []
no_marks paths marks n is each = record {
  one_each = each;
  exact = λ i path at. (λ e. absurd (none_set n i (sym (ap (λ (m : List Bool). slice_get m i) is) ∙ e)), λ has. absurd has);
}

-- one more path is held
pub marked_more : (paths : List (List ℕ)) (marks : List Bool) (held : List (List ℕ)) (place : ℕ) (path : List ℕ) → AreRising paths → slice_get paths place ≡ Some path → AreMarks paths marks held
    → AreMarks paths (set marks place true) (path ∷ held)
marked_more paths marks held place path rising here are = record {
  one_each = set_length marks place ∙ are.one_each;
  exact = λ i other at. elim (decided_equal i place) [
    | inl same ↦ (
        let equal : path ≡ other = same_Some path other (sym here ∙ sym (ap (slice_get paths) same) ∙ at) in
        (λ e. inl equal, λ has. ap (slice_get (set marks place true)) same ∙ set_here marks place (omega (arith, are.one_each, slice_get_within paths place path here)))
        )
    | inr apart ↦ (
      λ e. inr ((are.exact i other at).0 (sym (set_there marks place i apart) ∙ e)),
      λ has. elim has [
        | inl e ↦ absurd (apart (one_place paths rising i place other at (here ∙ ap Some e)))
        | inr h ↦ set_there marks place i apart ∙ (are.exact i other at).1 h
      ],
    )
  ];
}

-- the same paths are held
pub marks_of : (paths : List (List ℕ)) (marks : List Bool) (held other : List (List ℕ)) → ((path : List ℕ) → Has held path ↔ Has other path) → AreMarks paths marks held → AreMarks paths marks other
marks_of paths marks held other same are = record {
  one_each = are.one_each;
  exact = λ i path at. (λ e. (same path).0 ((are.exact i path at).0 e), λ has. (are.exact i path at).1 ((same path).1 has));
}

-- REQUESTS

pub requests_more : (paths : List (List ℕ)) (lines : List FetchLine) (requests : List FetchRequest) (line : FetchLine) (request : FetchRequest) → AreRequests paths lines requests → IsRequest paths line request
    → AreRequests paths (lines ++ line ∷ []) (requests ++ request ∷ [])
requests_more paths [] requests line request are is = subst (λ (r : List FetchRequest). AreRequests paths (line ∷ []) (r ++ request ∷ [])) (sym are) (is, refl)
requests_more paths (one ∷ lines) [] line request are is = absurd are
requests_more paths (one ∷ lines) (first ∷ requests) line request are is = (are.0, requests_more paths lines requests line request are.1 is)

-- REPLIES

pub failing : (supply : Option Supply) (url path : List ℕ) → IsReply supply url path Failing
failing None url path = tt
failing (Some supply) url path = tt

pub without : (supply : Option Supply) (url path : List ℕ) (content : Option (List ℕ)) → IsSupplied supply url path false content → IsReply supply url path Without
without None url path content h = tt
without (Some supply) url path content h = h

pub delivered : (supply : Option Supply) (url path : List ℕ) (before after : Option (List ℕ)) (content : Content) (answer : Answer) → IsSupplied supply url path true before → Brought before after content
    → IsReply supply url path (Delivered content answer)
delivered None url path before after content answer h brought = tt
delivered (Some supply) url path before after content answer (octets, is, known) brought = (octets, is, is_of octets before after content known brought)

pub told_taken : (content : Content) (answer : Answer) → IsAcceptance answer → fetch.Taken ≡ told (Delivered content answer)
told_taken content own.Taken is = refl
told_taken content own.Repeated is = refl
told_taken content (own.Refused fault) is = absurd is

pub supplied_as : (supply : Option Supply) (url text path name : List ℕ) (has is : Bool) (content : Option (List ℕ)) → text ≡ url → name ≡ path → has ≡ is → IsSupplied supply text name has content
    → IsSupplied supply url path is content
supplied_as supply url text path name has is content u p same h =
    subst (λ b. IsSupplied supply url path b content) same (subst (λ n. IsSupplied supply url n has content) p (subst (λ t. IsSupplied supply t name has content) u h))

abbrev IsStore : Answer → Type 0
IsStore answer = (store : StoreFault) × (answer ≡ own.Refused (Keeper (Store store)))

pub accepted_counts : (answer : Answer) (old new : ℕ) → IsAcceptance answer → new ≡ old → CountsIf (IsStore answer) old new
accepted_counts own.Taken old new is same = record { rises = λ h. absurd (let e : own.Taken ≡ own.Refused (Keeper (Store h.0)) = h.1 in cc); stays = λ none. same }
accepted_counts own.Repeated old new is same = record { rises = λ h. absurd (let e : own.Repeated ≡ own.Refused (Keeper (Store h.0)) = h.1 in cc); stays = λ none. same }
accepted_counts (own.Refused fault) old new is same = absurd is

module _ {K : Type 0} (holds may_leave : K → Ledger → Type 0) (clean : K → Type 0) (failures : K → ℕ) where
  -- one delivery ran
  pub got : (old new : Receiver K) (name path : List ℕ) (content : Content) (answer : Answer) → IsAnswer name (delivery_of path content answer)
      → Does holds may_leave clean old new (DeliveryStep name (delivery_of path content answer)) → CountsIf (IsStore answer) (failures old.keeper) (failures new.keeper)
      → Runs holds may_leave clean failures old new name (delivery_by path (Delivered content answer))
  got old new name path content answer is does counts =
      ran_more holds may_leave clean failures old old new name [] (delivery_of path content answer) (ran_nothing holds may_leave clean failures old name)
      (does_receive holds may_leave clean old new name _ does) is counts

-- PATHS THAT ARE HELD

pub marks_next : (paths : List (List ℕ)) (marks : List Bool) (sizes : List ItemSize) (i : ℕ) (size : ItemSize) → i < length sizes → size ≡ get_or sizes i size
    → AreMarks paths marks (size.path ∷ item_paths (take i sizes)) → AreMarks paths marks (item_paths (take (i + 1) sizes))
marks_next paths marks sizes i size within is are =
    let all : item_paths (take (i + 1) sizes) ≡ item_paths (take i sizes) ++ size.path ∷ [] =
    ap item_paths (take_more sizes i size within ∙ ap (λ s. take i sizes ++ s ∷ []) (sym is)) ∙ map-append (λ (s : ItemSize). s.path) (take i sizes) (size ∷ []) in
    subst (AreMarks paths marks) (sym all) (marks_of paths marks (size.path ∷ item_paths (take i sizes)) (item_paths (take i sizes) ++ size.path ∷ []) (λ path. (
      λ has. (has_push (item_paths (take i sizes)) size.path path).1 (elim has [ inl e ↦ inr e | inr h ↦ inl h ]),
      λ has. elim ((has_push (item_paths (take i sizes)) size.path path).0 has) [ inl h ↦ inr h | inr e ↦ inl e ],
    )) are)

-- a path that isn't one of them changes no mark
pub marked_none : (paths : List (List ℕ)) (marks : List Bool) (held : List (List ℕ)) (path : List ℕ) → ¬ Contains paths path → AreMarks paths marks held → AreMarks paths marks (path ∷ held)
marked_none paths marks held path none are = record {
  one_each = are.one_each;
  exact = λ i other at. (
    λ e. inr ((are.exact i other at).0 e),
    λ has. elim has [ inl e ↦ absurd (none (contains_at paths i path (at ∙ ap Some (sym e)))) | inr h ↦ (are.exact i other at).1 h ],
  );
}

-- BEFORE THE FIRST LINE

pub starts : (ledger : Ledger) (name : List ℕ) (transfer : Transfer) (paths : List (List ℕ)) (marks : List Bool) (lines : List FetchLine) (requests : List FetchRequest) → IsNamed ledger name (Some transfer) → AreRising paths
    → AreFetchLines transfer.tags lines → AreRequests paths lines requests → AreMarks paths marks (item_paths (sizes_of (items_of ledger name))) → IsUnderWay ledger name marks requests []
starts ledger name transfer paths marks lines requests named rising are_lines are marked =
    let items : items_of ledger name ≡ transfer.items = ap (λ (t : Option Transfer). unwrap_or (option_map (λ (transfer : Transfer). transfer.items) t) []) (named_there ledger name transfer named) in
    record {
      transfer = transfer;
      named = named;
      paths = paths;
      rising = rising;
      lines = lines;
      are_lines = are_lines;
      lines_left = lines;
      requests = are;
      held = keys_of transfer.items;
      are_marks = subst (AreMarks paths marks) (ap (λ (f : Files). item_paths (sizes_of f)) items ∙ item_keys transfer.items) marked;
      goes_on = λ more reaches. reaches;
    }

-- LINE BY LINE

abbrev pub round_of : FetchRequest → Reply → Round
round_of request reply = record { line = request.line; url = string_bytes request.url; path = request.path; reply = reply }

next_line : (paths : List (List ℕ)) (lines : List FetchLine) (request : FetchRequest) (left : List FetchRequest) → AreRequests paths lines (request ∷ left)
    → (line : FetchLine) × (rest : List FetchLine) × (lines ≡ line ∷ rest) × IsRequest paths line request × AreRequests paths rest left
next_line paths [] request left are = absurd (let e : request ∷ left ≡ [] = are in cc)
next_line paths (line ∷ rest) request left are = (line, rest, refl, are.0, are.1)

marks_after : (paths : List (List ℕ)) (marks new : List Bool) (held : List (List ℕ)) (place : ℕ) (path : List ℕ) (answer : FetchAnswer) → AreRising paths → slice_get paths place ≡ Some path → AreMarks paths marks held
    → (answer ≡ fetch.Taken → new ≡ set marks place true) → (answer ≢ fetch.Taken → new ≡ marks) → AreMarks paths new (held_after answer path held)
marks_after paths marks new held place path fetch.Taken rising here are taken others = subst (λ (m : List Bool). AreMarks paths m (path ∷ held)) (sym (taken refl)) (marked_more paths marks held place path rising here are)
marks_after paths marks new held place path fetch.NotSupplied rising here are taken others = subst (λ (m : List Bool). AreMarks paths m held) (sym (others (λ e. (let h : fetch.NotSupplied ≡ fetch.Taken = e in cc)))) are
marks_after paths marks new held place path fetch.SupplierFailed rising here are taken others = subst (λ (m : List Bool). AreMarks paths m held) (sym (others (λ e. (let h : fetch.SupplierFailed ≡ fetch.Taken = e in cc)))) are
marks_after paths marks new held place path (fetch.Refused fault) rising here are taken others = subst (λ (m : List Bool). AreMarks paths m held) (sym (others (λ e. (let h : fetch.Refused fault ≡ fetch.Taken = e in cc)))) are

module _ (ledger : Ledger) (name : List ℕ) (marks : List Bool) (request : FetchRequest) (all left : List FetchRequest) (rounds : List Round) (at : all ≡ request ∷ left) (way : IsUnderWay ledger name marks all rounds) where
  here : (line : FetchLine) × (rest : List FetchLine) × (way.lines_left ≡ line ∷ rest) × IsRequest way.paths line request × AreRequests way.paths rest left
  here = next_line way.paths way.lines_left request left (subst (AreRequests way.paths way.lines_left) at way.requests)

  -- the path is held
  pub passed_over : slice_get marks request.place ≡ Some true → IsUnderWay ledger name marks left rounds
  passed_over marked =
      let (line, rest, is, one, others) = here in
      record {
        transfer = way.transfer;
        named = way.named;
        paths = way.paths;
        rising = way.rising;
        lines = way.lines;
        are_lines = way.are_lines;
        lines_left = rest;
        requests = others;
        held = way.held;
        are_marks = way.are_marks;
        goes_on = λ more reaches. way.goes_on more (subst (λ (l : List FetchLine). Reaches way.held l more) (sym is) (inl ((way.are_marks.exact request.place line.entry.path one.place_is).0 marked, reaches)));
      }

  -- the supplier was asked for it
  pub went_round : (reply : Reply) (new : List Bool) → slice_get marks request.place ≢ Some true → (told reply ≡ fetch.Taken → new ≡ set marks request.place true) → (told reply ≢ fetch.Taken → new ≡ marks)
      → IsUnderWay ledger name new left (rounds ++ round_of request reply ∷ [])
  went_round reply new unmarked taken others_stay =
      let (line, rest, is, one, others) = here in
      let round = round_of request reply in
      let place = subst (λ p. slice_get way.paths request.place ≡ Some p) (sym one.path_is) one.place_is in
      record {
        transfer = way.transfer;
        named = way.named;
        paths = way.paths;
        rising = way.rising;
        lines = way.lines;
        are_lines = way.are_lines;
        lines_left = rest;
        requests = others;
        held = held_after (told reply) request.path way.held;
        are_marks = marks_after way.paths marks new way.held request.place request.path (told reply) way.rising place way.are_marks taken others_stay;
        goes_on = λ more reaches. (
            let asked : Reaches way.held (line ∷ rest) (round ∷ more) = inr (
              λ has. unmarked ((way.are_marks.exact request.place line.entry.path one.place_is).1 has),
              (round, more, refl, record { line_is = one.line_is; url_is = one.url_is; path_is = one.path_is }, reaches),
            ) in
            subst (Reaches (keys_of way.transfer.items) way.lines) (sym (append_assoc rounds (round ∷ []) more)) (way.goes_on (round ∷ more) (subst (λ (l : List FetchLine). Reaches way.held l (round ∷ more)) (sym is) asked)));
      }

no_lines : (paths : List (List ℕ)) (lines : List FetchLine) → AreRequests paths lines [] → lines ≡ []
no_lines paths [] are = refl
no_lines paths (line ∷ lines) are = absurd are

-- all lines are done
pub all_reached : (ledger : Ledger) (name : List ℕ) (marks : List Bool) (left : List FetchRequest) (rounds : List Round) → left ≡ [] → IsUnderWay ledger name marks left rounds → AreReached ledger name rounds
all_reached ledger name marks left rounds none way =
    let done : way.lines_left ≡ [] = no_lines way.paths way.lines_left (subst (AreRequests way.paths way.lines_left) none way.requests) in
    (way.transfer, way.named, (way.lines, way.are_lines, subst (Reaches (keys_of way.transfer.items) way.lines) (append-nil rounds) (way.goes_on [] (subst (λ (l : List FetchLine). Reaches way.held l []) (sym done) refl))))

-- RUNS

pub got_more : (supply : Option Supply) (rounds : List Round) (round : Round) → AllByRecursion (IsGotFrom supply) rounds → IsGotFrom supply round → AllByRecursion (IsGotFrom supply) (rounds ++ round ∷ [])
got_more supply rounds round all one = each_append (IsGotFrom supply) rounds (round ∷ []) all (one, tt)

stores_join : (first others : List Delivery) → store_failures (first ++ others) ≡ store_failures first + store_failures others
stores_join [] others = omega arith
stores_join (one ∷ first) others = (let rest = stores_join first others in omega (arith, rest))

deliveries_more : (rounds : List Round) (round : Round) → deliveries_by (rounds ++ round ∷ []) ≡ deliveries_by rounds ++ delivery_by round.path round.reply
deliveries_more [] round = append-nil (delivery_by round.path round.reply)
deliveries_more (one ∷ rounds) round = ap (λ ds. delivery_by one.path one.reply ++ ds) (deliveries_more rounds round) ∙ sym (append_assoc (delivery_by one.path one.reply) (deliveries_by rounds) (delivery_by round.path round.reply))

module _ {K : Type 0} (holds may_leave : K → Ledger → Type 0) (clean : K → Type 0) (failures : K → ℕ) where
  abbrev Ran : Receiver K → Receiver K → List ℕ → List Delivery → Type 0
  Ran old new name deliveries = Runs holds may_leave clean failures old new name deliveries

  pub ran_looked : (old new : Receiver K) (name : List ℕ) → Does holds may_leave clean old new Same → failures new.keeper ≡ failures old.keeper → Ran old new name []
  ran_looked old new name looks same = record {
    received = record {
      was_clean = looks.was_clean;
      leads = λ c before in_state. (let after = looks.leads c before in_state in (after.0, after.1, receives name [] before after.0 after.2));
    };
    judged = tt;
    store = record { stays = λ e. same; rises = omega (arith, same) };
  }

  runs_join : (old middle new : Receiver K) (name : List ℕ) (first others : List Delivery) → Ran old middle name first → Ran middle new name others → Ran old new name (first ++ others)
  runs_join old middle new name first others ran after = record {
    received = record {
      was_clean = λ c. ran.received.was_clean (after.received.was_clean c);
      leads = λ c before in_state. (
          let one = ran.received.leads (after.received.was_clean c) before in_state in
          let two = after.received.leads c one.0 one.1 in
          (two.0, two.1, receives name (first ++ others) before two.0 (steps_join name first others before one.0 two.0 one.2.steps two.2.steps)));
    };
    judged = each_append (IsAnswer name) first others ran.judged after.judged;
    store = subst (λ n. CountsEach n (failures old.keeper) (failures new.keeper)) (sym (stores_join first others)) (counts_on (store_failures first) (store_failures others) _ _ _ ran.store after.store);
  }

  pub ran_round : (old middle new : Receiver K) (name : List ℕ) (rounds : List Round) (round : Round) → Ran old middle name (deliveries_by rounds) → Ran middle new name (delivery_by round.path round.reply)
      → Ran old new name (deliveries_by (rounds ++ round ∷ []))
  ran_round old middle new name rounds round ran after =
      subst (Ran old new name) (sym (deliveries_more rounds round)) (runs_join old middle new name (deliveries_by rounds) (delivery_by round.path round.reply) ran after)

-- COUNTS

failures_more : (outcomes : List FetchOutcome) (outcome : FetchOutcome) → supplier_failures (outcomes ++ outcome ∷ []) ≡ supplier_failures outcomes + supplier_failure outcome.answer
failures_more [] outcome = omega arith
failures_more (one ∷ outcomes) outcome = (let rest = failures_more outcomes outcome in omega (arith, rest))

pub failures_counted : (outcomes : List FetchOutcome) (outcome : FetchOutcome) (old middle new : ℕ) → CountsEach (supplier_failures outcomes) old middle → CountsEach (supplier_failure outcome.answer) middle new
    → CountsEach (supplier_failures (outcomes ++ outcome ∷ [])) old new
failures_counted outcomes outcome old middle new before after =
    subst (λ n. CountsEach n old new) (sym (failures_more outcomes outcome)) (counts_on (supplier_failures outcomes) (supplier_failure outcome.answer) old middle new before after)

pub none_counted : (n : ℕ) → CountsEach 0 n n
none_counted n = record { stays = λ e. refl; rises = omega arith }

-- OUTCOMES

pub pushed_ok : {X T E : Type 0} (result : Result T E) (old new : List X) (x : X) → IsOk result → new ≡ (if is_ok result then old ++ x ∷ [] else old) → new ≡ old ++ x ∷ []
pushed_ok (Ok y) old new x ok is = is
pushed_ok (Err y) old new x ok is = absurd (let e : false ≡ true = ok in cc)

pub outcomes_more : (outcomes new : List FetchOutcome) (rounds : List Round) (request : FetchRequest) (reply : Reply) (answer : FetchAnswer) → outcomes ≡ map outcome_of rounds → answer ≡ told reply
    → new ≡ outcomes ++ record { line = request.line; path = request.path; answer = answer } ∷ [] → new ≡ map outcome_of (rounds ++ round_of request reply ∷ [])
outcomes_more outcomes new rounds request reply answer all is pushed =
    let one : FetchOutcome = record { line = request.line; path = request.path; answer = answer } in
    let same : one ≡ outcome_of (round_of request reply) = ap (λ (a : FetchAnswer). record { line = request.line; path = request.path; answer = a }) is in
    pushed ∙ (λ t. all t ++ same t ∷ []) ∙ sym (map-append outcome_of rounds (round_of request reply ∷ []))
