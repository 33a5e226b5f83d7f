-- Held payload files, read again and hashed.
use Rattle.std.proofs.Common.{◌≡◌, ◌<◌, ◌≤◌, ◌+◌, ◌-◌, ◌++◌, ◌∷◌, [], ℕ, List, Option, Some, rules, drop, length, take, refl, sym, ap, subst, ◌∙◌, inl, inr, arith}
use Rattle.std.proofs.lemmas.List.{length-take, length-take-le, take-append-drop}
use Rattle.std.proofs.Math.Seq.{take-append-add}
use Rattle.bag_digest.specs.ShortContents.{TakesAlso, Took}
use Rattle.bag_digest.specs.declared.content.Content.{Content}
use Rattle.bag_digest.specs.declared.algorithm.AlgSet.{AlgSet}
use Rattle.bag_rules.specs.declared.want.Want.{Want}
use Rattle.bag_rules.proofs.PassingLemmas.{passes_wanted, wanted_passes}
use Rattle.bag_rules.proofs.HasLemmas.{has_from_map, place_of_has}
use Rattle.bag_rules.proofs.TreeLemmas.{text_of}
use Rattle.bag_rules.specs.declared.plan.ItemSize.{ItemSize}
use Rattle.bag_rules.specs.Plans.{sizes_of}
use Rattle.bag_rules.specs.Transfers.{held_bag}
use Rattle.bag_ledger.specs.Ledgers.{IsSound}
use Rattle.bag_receiver.specs.AuditsInside.{PassesTest, TellsSome}
use Rattle.bag_receiver.specs.Holdings.{HasItem, IsPlanFor}
use Rattle.bag_ledger.specs.Findings.{FindsContent}
use Rattle.bag_ledger.specs.declared.finding.Finding.{Finding}
use Rattle.bag_ledger.specs.declared.finding.Finding.TheVariants.{Damaged, Untested, Valid}
use Rattle.bag_receiver.proofs.PlaceLemmas.{of_plan}
use Rattle.bag_receiver.proofs.ReceivingLemmas.{named_there}
use Rattle.bag_receiver.proofs.Words.{AreHeldFor, ArePlansIn, bytes_eq, CountsIf, Files, Has, IsPlanOf, IsTransferName, IsWanted, IsWantOf, items_of, LARGEST_ITEM, length-append, lookup, option_map, Passes, Plan, Transfer, unwrap_or, Ledger, Reads}

-- WHAT WAS READ

-- the next octets of a content
pub take_next : (content : List ℕ) (i n : ℕ) → i ≤ length content → take (i + n) content ≡ take i content ++ take n (drop i content)
take_next content i n within =
    let count : length (take i content) ≡ i = length-take-le i content within in
    let whole : take i content ++ drop i content ≡ content = take-append-drop i content in
    (λ t. take (sym count t + n) (sym whole t)) ∙ take-append-add (take i content) (drop i content) n

module _ {K : Type 0} (holds may_leave : K → Ledger → Type 0) (clean : K → Type 0) where
  pub reads_nothing : (keeper : K) → Reads holds may_leave clean keeper keeper
  reads_nothing keeper = record { was_clean = λ c. c; held = λ c ledger h. h; left = λ c crashed h. h }

  pub reads_on : (old middle new : K) → Reads holds may_leave clean old middle → Reads holds may_leave clean middle new → Reads holds may_leave clean old new
  reads_on old middle new first then = record {
    was_clean = λ c. first.was_clean (then.was_clean c);
    held = λ c ledger h. then.held c ledger (first.held (then.was_clean c) ledger h);
    left = λ c crashed h. first.left (then.was_clean c) crashed (then.left c crashed h);
  }

  pub item_stays : (old new : K) (name path content : List ℕ) → Reads holds may_leave clean old new → clean new → HasItem holds old name path content → HasItem holds new name path content
  item_stays old new name path content reads c (ledger, held, found) = (ledger, reads.held c ledger held, found)

  -- what a keeper in this state gave of the content at this path: the next octets
  abbrev pub GavePiece : K → K → List ℕ → List ℕ → ℕ → ℕ → ℕ → List ℕ → Type 0
  GavePiece middle new name path offset left n buffer = clean new → (content : List ℕ) → HasItem holds middle name path content → offset + left ≡ length content
      → (0 < n) × (take n buffer ≡ take n (drop offset content))

  module _ (old middle new : K) (name path : List ℕ) (octets read n : ℕ) (buffer : List ℕ) (within : read ≤ octets)
      (before : Reads holds may_leave clean old middle) (reads : Reads holds may_leave clean middle new)
      (gave : GavePiece middle new name path read (octets - read) n buffer) where
    piece : clean new → (content : List ℕ) → HasItem holds old name path content → octets ≡ length content → (0 < n) × (take n buffer ≡ take n (drop read content))
    piece c content item sized = gave c content (item_stays old middle name path content before (reads.was_clean c) item) (omega (arith, within, sized))

    pub took_more : (set : AlgSet) (old_content new_content : Content) → TakesAlso old_content new_content (take n buffer)
        → (clean middle → (content : List ℕ) → HasItem holds old name path content → octets ≡ length content → Took old_content set (take read content))
        → clean new → (content : List ℕ) → HasItem holds old name path content → octets ≡ length content → Took new_content set (take (read + n) content)
    took_more set old_content new_content takes took c content item sized =
        let more = (piece c content item sized).1 in
        let all : take read content ++ take n buffer ≡ take (read + n) content = ap (λ p. take read content ++ p) more ∙ sym (take_next content read n (omega (arith, within, sized))) in
        subst (Took new_content set) all (takes set (take read content) (took (reads.was_clean c) content item sized))

    pub none_is_read : n ≡ 0 → clean new → (content : List ℕ) → HasItem holds old name path content → octets ≡ length content → ⊥
    none_is_read none c content item sized = (let some = (piece c content item sized).0 in omega (arith, none, some))

-- the octets that were given so far, whatever they are, were taken
pub record HasTaken (content : Content) (set : AlgSet) (read : ℕ) : Type 0 where
  pub taken : List ℕ
  pub count : length taken ≡ read
  pub took : Took content set taken

pub taken_more : (old new : Content) (set : AlgSet) (read n : ℕ) (buffer : List ℕ) → n ≤ length buffer → HasTaken old set read → TakesAlso old new (take n buffer) → HasTaken new set (read + n)
taken_more old new set read n buffer within so_far takes = record {
  taken = so_far.taken ++ take n buffer;
  count = (let both = length-append so_far.taken (take n buffer) in let piece = length-take-le n buffer within in let before = so_far.count in omega (arith, both, piece, before));
  took = takes set so_far.taken so_far.took;
}

-- WHAT IS VALID

-- what is found of a file that the transfer wants
pub told_some : (tags : Files) (size : ItemSize) (want : Want) (octets : List ℕ) (finding : Finding) → IsWantOf tags size.path want → size.octets ≡ length octets → size.octets ≤ LARGEST_ITEM → FindsContent want octets finding
    → TellsSome tags size finding
told_some tags size want octets Valid is sized within wanted = (octets, sized, wanted_passes tags size.path octets want is (omega (arith, sized, within)) wanted)
told_some tags size want octets Damaged is sized within told = tt
told_some tags size want octets (Untested same content) is sized within (one, all) = record {
  want_of = subst (IsWantOf tags size.path) (sym one) is;
  sized = sized ∙ ap length (sym all);
  within = (let count = ap length all in omega (arith, sized, within, count));
}

pub told_valid : (tags : Files) (path : List ℕ) (want : Want) (octets : List ℕ) (finding : Finding) → IsWantOf tags path want → Passes tags path octets → FindsContent want octets finding → PassesTest finding
told_valid tags path want octets Valid is passes told = tt
told_valid tags path want octets Damaged is passes other = absurd (other (passes_wanted tags path octets want is passes))
told_valid tags path want octets (Untested same content) is passes (one, all) = subst (λ w. IsWanted w content.items) (sym one) (subst (IsWanted want) (sym all) (passes_wanted tags path octets want is passes))

has_middle : {X : Type 0} (before : List X) (x : X) (after : List X) → Has (before ++ x ∷ after) x
has_middle [] x after = inl refl
has_middle (y ∷ before) x after = inr (has_middle before x after)

-- a size among those of what is held, and the content with this size
record IsHeldItem (tags items : Files) (size : ItemSize) : Type 0 where
  content : List ℕ
  sized : size.octets ≡ length content
  found : lookup (bytes_eq size.path) items ≡ Some content
  passes : Passes tags size.path content

held_item : (tags items : Files) (size : ItemSize) → AreHeldFor tags items → Has (sizes_of items) size → IsHeldItem tags items size
held_item tags items size held has =
    let (file, there, is) = has_from_map (λ (file : List ℕ × List ℕ). record { path = file.0; octets = length file.1 }) items size has in
    let at = ap (λ (s : ItemSize). s.path) is in
    record {
      content = file.1;
      sized = sym (ap (λ (s : ItemSize). s.octets) is);
      found = subst (λ p. lookup (bytes_eq p) items ≡ Some file.1) at (text_of (held_bag items []) file.0 file.1 held.rising (place_of_has items file there));
      passes = subst (λ p. Passes tags p file.1) at (held.passing file.0 file.1 there);
    }

module _ {K : Type 0} (holds : K → Ledger → Type 0) where
  -- what is held is valid when it is read again
  pub still_passes : (keeper : K) (ledger : Ledger) (name : List ℕ) (plan : Plan) (before after : List ItemSize) (size : ItemSize) (Told : Type 0) → holds keeper ledger → IsPlanFor ledger name plan
      → before ++ size ∷ after ≡ sizes_of (items_of ledger name)
      → ((tags : Files) (content : List ℕ) → IsPlanOf tags plan → HasItem holds keeper name size.path content → size.octets ≡ length content → Passes tags size.path content → Told) → Told
  still_passes keeper ledger name plan before after size Told h (tags, planned, held) all judged =
      let item = held_item tags (items_of ledger name) size held (subst (λ (l : List ItemSize). Has l size) all (has_middle before size after)) in
      judged tags item.content planned (ledger, h, item.found) item.sized item.passes

pub none_left : {X : Type 0} (passing rest : List X) → length rest ≡ 0 → passing ++ rest ≡ passing
none_left passing [] none = search rules
none_left passing (x ∷ rest) none = absurd (omega (arith, none))

-- part of a buffer was overwritten
pub room_after : (n : ℕ) (new old : List ℕ) → n ≡ length old → length new ≡ length old → 0 < length old → 0 < length (take n (new ++ drop (length new) old))
room_after n new old is same some = (let count = length-take n (new ++ drop (length new) old) in let joined = length-append new (drop (length new) old) in omega (arith, count, joined, is, same, some))

-- COUNTS

pub counts_since : (failed : Type 0) (old middle later new : ℕ) → middle ≡ old → later ≡ middle → CountsIf failed later new → CountsIf failed old new
counts_since failed old middle later new first then counts = subst (λ n. CountsIf failed n new) (then ∙ first) counts

-- THE PLAN OF A TRANSFER

-- the plan kept for a name is that of its transfer, whose files are valid
pub plan_for : (ledger : Ledger) (name : List ℕ) (plans : List (List ℕ × Plan)) (plan : Plan) → ArePlansIn ledger plans → IsSound ledger → IsTransferName name → lookup (bytes_eq name) plans ≡ Some plan
    → IsPlanFor ledger name plan
plan_for ledger name plans plan are sound is at =
    let (transfer, named, planned) = of_plan ledger name plans plan are is at in
    let there = named_there ledger name transfer named in
    (transfer.tags, planned, subst (λ (t : Option Transfer). AreHeldFor transfer.tags (unwrap_or (option_map (λ (transfer : Transfer). transfer.items) t) [])) (sym there) (sound.each name transfer there).held)
